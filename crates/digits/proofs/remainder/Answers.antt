-- `digits::remainder` meets its contract: t with the bytes that are left after it is, modulo m, the whole.
use mathlib.Core.Path.{◌≡◌, sym, ap, ◌∙◌}
use mathlib.Core.List.{List, ◌∷◌}
use Prim.Native.Nat.{ℕ, ◌+◌, ◌*◌, ◌%◌}
use native.Mathlib.Nat.{mod-lt, mod-eq_of_lt}
use native.Mathlib.Numerals.{add-one}
use native.Mathlib.Omega.{arith}
use lib.ListN.{get_or, drop, drop_of_length-le}
use lib.Seq.{drop-cons}
use Rattle.laws.specs.Bytes.{number_after}
use Rattle.limbs.specs.Limbs.{value}
use Rattle.digits.proofs.Digits.{after_mod}
use Rattle.digits.proofs.remainder.Goals as goal

pub loop-byte-preserved : goal.loop-byte-preserved
unfolding number_after
loop-byte-preserved c =
    let l = c.loop-byte in
    let a = c.args in
    let s = c.shift_in in
    let i = l.byte-index in
    let b = get_or a.bytes.now i 0 in
    let left : List ℕ = drop (i + 1) a.bytes.now in
    let rest : drop i a.bytes.now ≡ b ∷ left = drop-cons a.bytes.now i 0 (omega arith) ∙ rw (add-one i) in (
      record { width = omega arith; less = rw s.ensures (mod-lt _ (omega arith)) },
      ap (λ (k : ℕ). number_after k left % value a.m.now) s.ensures
          ∙ after_mod left (value l.t * 256 + b) (value a.m.now)
          ∙ ap (λ (xs : List ℕ). number_after (value l.t) xs % value a.m.now) (sym rest)
          ∙ l.invariant.1,
    )

pub returns : goal.returns
unfolding number_after
returns c =
    let l = c.loop-byte in
    let a = c.args in
    sym (mod-eq_of_lt l.invariant.0.less)
    ∙ ap (λ (xs : List ℕ). number_after (value l.t) xs % value a.m.now) (sym (drop_of_length-le a.bytes.now {i = l.byte-index} (omega arith)))
    ∙ l.invariant.1
