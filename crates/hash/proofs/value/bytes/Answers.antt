-- `hash::value::bytes` puts the eight words' bytes one after another. The loop's invariant: those of the first i words are in place.
use mathlib.Core.Path.{◌≡◌, refl, ap, ◌∙◌}
use native.Mathlib.Omega.{arith}
use Prim.Native.Nat.{◌*◌}
use lib.ListN.{replicate}
use Rattle.laws.proofs.BigEndian.{four_bytes}
use Rattle.octets.specs.Put.{pasted}
use Rattle.words.specs.Words.{bytes_of}
use Rattle.hash.proofs.Hashed.{words_of, all_put, word_put}
use Rattle.hash.proofs.value.bytes.Goals as goal

pub loop-i-init : goal.loop-i-init
unfolding bytes_of
loop-i-init c = refl

pub loop-i-preserved : goal.loop-i-preserved
loop-i-preserved c =
    let at = c.loop-i in
    let word = c.to_be_bytes.ensures ∙ four_bytes _ in
    c.put.ensures ∙ ap (pasted at.out (4 * at.i)) word ∙ word_put (replicate 32 0) (words_of c.args.v) at.out at.i (omega arith) (omega arith) at.invariant

pub returns : goal.returns
returns c =
    let at = c.loop-i in
    let e : at.i ≡ 8 = omega arith in
    rw e at at.invariant ∙ all_put c.args.v
