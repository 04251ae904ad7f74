-- Lent answer bytes: enough of them and the call is served behind the other guard, too few and it is refused; nothing else of their number
-- counts.
use Prim.Native.Nat.{ℕ}
use mathlib.Core.Path.{◌≡◌, refl, sym, ◌∙◌}
use mathlib.Core.Bool.{Bool, true, false, cond, ◌&&◌}
use borrow.Author.Tests.{leb-true, leb-false, le-ltb, lt-ltb}
use Rattle.unit.specs.declared.TagUnit.{TagUnit}
use Rattle.sizes.specs.Sizes.{answer_room}
use Rattle.unit.specs.Outcome.{Outcome, refusing, formed, answering}
use Rattle.tag.specs.Calls.{Call, own, lends, guarded, call, calls, act}
use Rattle.demanded_answers.specs.History.{step}
use Rattle.demanded_time.specs.Time.{roomy, bare_room}

module _ (room : ℕ) (u : TagUnit) (own : Outcome) where
  pub served : roomy room ≡ true → answering room u own ≡ formed u own
  unfolding answering
  served e = rw (le-ltb room answer_room (leb-true answer_room room e))

  pub unserved : roomy room ≡ false → answering room u own ≡ refusing 6 u
  unfolding answering
  unserved e = rw (lt-ltb room answer_room (leb-false answer_room room e))

-- a call of the lent bytes of which only room or no room counts
pub bare : (c : Call) (room : ℕ) (u : TagUnit) → step (calls c room) u ≡ step (calls c (bare_room c room)) u
unfolding act call guarded
bare c room u = go (lends c) (roomy room) refl
  where
    go : (lent enough : Bool) → roomy room ≡ enough → cond lent (answering room u (own c u)) (formed u (own c u))
        ≡ cond lent (answering (cond (lent && enough) answer_room 0) u (own c u)) (formed u (own c u))
    go true true e = served room u (own c u) e ∙ sym (served answer_room u (own c u) refl)
    go true false e = unserved room u (own c u) e ∙ sym (unserved 0 u (own c u) refl)
    go false enough e = refl
