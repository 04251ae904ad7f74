-- `cipher::encrypt` is AES-128: the key expanded, and the cipher under it.
use Rattle.cipher.specs.Aes.{AES128}
use Rattle.key_schedule.specs.Expansion.{KeyExpansion}
use Rattle.cipher.proofs.encrypt.Goals as goal

pub returns : goal.returns
unfolding AES128 KeyExpansion
returns c = cc
