-- `cipher::decrypt_pair` expands the key once, for two blocks.
use mathlib.Core.Path.{◌∙◌}
use Rattle.cipher.specs.Aes.{InvAES128}
use Rattle.key_schedule.specs.Expansion.{KeyExpansion}
use Rattle.cipher.proofs.decrypt_pair.Goals as goal

pub returns : goal.returns
unfolding InvAES128 KeyExpansion
returns c =
    let schedule = c.schedule-keys in
    let keys = c.unmix_keys.ensures in (
      c.inv_cipher.ensures schedule.result keys ∙ rw schedule.ensures,
      c.inv_cipher-2.ensures schedule.result keys ∙ rw schedule.ensures,
    )
