-- `compression::block::turn` is one turn of the standard: its sums, each modulo 2^32, are those of T₁ and T₂.
use Rattle.compression.specs.Compression.{turn, T₁, T₂}
use Rattle.compression.proofs.Turns.{four_sums}
use Rattle.compression.proofs.block.turn.Goals as goal

pub returns : goal.returns
unfolding turn T₁ T₂
returns c =
    let a = c.args in
    rw (four_sums a.v.h c.big_sigma1.result c.ch.result a.k a.w, c.big_sigma1.ensures, c.ch.ensures, c.big_sigma0.ensures, c.maj.ensures)
