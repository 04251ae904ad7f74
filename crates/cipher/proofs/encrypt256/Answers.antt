-- `cipher::encrypt256` is AES-256: the key expanded, and the cipher under it.
use Rattle.cipher.specs.Aes.{AES256}
use Rattle.key_schedule.specs.Expansion.{KeyExpansion}
use Rattle.cipher.proofs.encrypt256.Goals as goal

pub returns : goal.returns
unfolding AES256 KeyExpansion
returns c = cc
