-- `words::state_of` gives the bytes of four words, one after another.
use native.Mathlib.Nat.{div-div-eq-div-mul}
use Rattle.laws.specs.Bytes.{big_endian}
use Rattle.words.specs.Words.{bytes_of}
use Rattle.words.proofs.state_of.Goals as goal

pub returns : goal.returns
unfolding bytes_of big_endian
returns c = rw (c.to_be_bytes.ensures, c.to_be_bytes-2.ensures, c.to_be_bytes-3.ensures, c.to_be_bytes-4.ensures) (simp div-div-eq-div-mul)
