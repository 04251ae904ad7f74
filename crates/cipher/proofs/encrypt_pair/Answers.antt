-- `cipher::encrypt_pair` expands the key once, for two blocks.
use Rattle.cipher.specs.Aes.{AES128}
use Rattle.key_schedule.specs.Expansion.{KeyExpansion}
use Rattle.cipher.proofs.encrypt_pair.Goals as goal

pub returns : goal.returns
unfolding AES128 KeyExpansion
returns c = (cc, cc)
