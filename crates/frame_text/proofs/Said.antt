-- A text put at the front of a room of zeros is what a text promises.
use Prim.Native.Nat.{ℕ}
use mathlib.Core.Path.{◌≡◌, ◌∙◌}
use mathlib.Core.List.{List}
use native.Mathlib.Omega.{arith}
use lib.ListN.{length}
use Rattle.laws.specs.Answer.{Wrote}
use Rattle.laws.proofs.Answered.{wrote}
use Rattle.notation.specs.Written.{PutsText}
use Rattle.notation.proofs.Placed.{placed_first}

pub said : {text before bytes : List ℕ} {count : ℕ} → PutsText text 0 before count bytes → Wrote text count before bytes
said {text} {before} {bytes} {count} p =
    let long : count ≡ length text = omega (arith, p.next_is) in
    wrote {answer = text} long (p.bytes_are ∙ rw (placed_first text before, long))
