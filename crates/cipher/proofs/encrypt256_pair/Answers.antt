-- `cipher::encrypt256_pair` expands the key once, for two blocks.
use Rattle.cipher.specs.Aes.{AES256}
use Rattle.key_schedule.specs.Expansion.{KeyExpansion}
use Rattle.cipher.proofs.encrypt256_pair.Goals as goal

pub returns : goal.returns
unfolding AES256 KeyExpansion
returns c = (cc, cc)
