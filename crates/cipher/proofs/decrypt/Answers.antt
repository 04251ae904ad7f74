-- `cipher::decrypt` is AES-128 backwards: the key expanded, its round keys mixed back, and the inverse cipher under them.
use mathlib.Core.Path.{◌∙◌}
use Rattle.cipher.specs.Aes.{InvAES128}
use Rattle.key_schedule.specs.Expansion.{KeyExpansion}
use Rattle.cipher.proofs.decrypt.Goals as goal

pub returns : goal.returns
unfolding InvAES128 KeyExpansion
returns c =
    let schedule = c.schedule-keys in
    c.inv_cipher.ensures schedule.result c.unmix_keys.ensures ∙ rw schedule.ensures
