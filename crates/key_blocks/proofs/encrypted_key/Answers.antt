-- `key_blocks::encrypted_key` meets its contract: the two blocks under one key.
use Rattle.key_blocks.specs.KeyBlocks.{encrypted_key}
use Rattle.key_blocks.proofs.encrypted_key.Goals as goal

pub returns : goal.returns
unfolding encrypted_key
returns c = cc
