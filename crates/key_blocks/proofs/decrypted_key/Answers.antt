-- `key_blocks::decrypted_key` meets its contract: the two blocks under one key.
use Rattle.key_blocks.specs.KeyBlocks.{decrypted_key}
use Rattle.key_blocks.proofs.decrypted_key.Goals as goal

pub returns : goal.returns
unfolding decrypted_key
returns c = cc
