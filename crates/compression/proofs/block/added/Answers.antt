-- `compression::block::added` adds the two hash values word by word, modulo 2^32.
use Rattle.compression.specs.Compression.{added}
use Rattle.compression.proofs.block.added.Goals as goal

pub returns : goal.returns
unfolding added
returns c = cc
