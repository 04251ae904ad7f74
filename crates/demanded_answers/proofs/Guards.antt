-- Every act of a history is guarded alike, "6, 2, then the call's own": it is barred and refused with the unit as it was, or it passes and
-- does its own. So a law over all kinds of calls has to look at their own parts only.
use Prim.Native.Nat.{ℕ, ◌≤◌}
use mathlib.Core.Path.{◌≡◌, refl, ◌∙◌}
use mathlib.Core.Bool.{Bool, true, false, cond}
use mathlib.Core.Logic.{◌⊎◌, inl, inr}
use native.Mathlib.Omega.{arith}
use lib.Dec.{ltb}
use borrow.Author.Tests.{ltb-false, le-ltb}
use Rattle.laws.proofs.Flags.{true_or_false, clash}
use Rattle.unit.specs.declared.TagUnit.{TagUnit}
use Rattle.sizes.specs.Sizes.{answer_room}
use Rattle.unit.specs.WellFormed.{well_formed}
use Rattle.unit.specs.Outcome.{Outcome, refusing, formed, answering}
use Rattle.time.specs.Time.{tenths}
use Rattle.tag.specs.Calls.{Call, own, lends, guarded, call, elapsed, Act, calls, waits, act}
use Rattle.demanded_answers.specs.History.{step, Succeeds}

-- the lent answer bytes; a call that is lent none is held to no room
abbrev pub room_for : Act → ℕ
room_for (calls c room) = cond (lends c) room answer_room
room_for (waits n room) = room

-- what an act that passes does
abbrev pub own_of : Act → TagUnit → Outcome
own_of (calls c room) u = own c u
own_of (waits n room) u = tenths n u

call_guarded : (lent : Bool) (room : ℕ) (u : TagUnit) (o : Outcome) → guarded lent room u o ≡ answering (cond lent room answer_room) u o
unfolding guarded answering
call_guarded true room u o = refl
call_guarded false room u o = refl

pub act_guarded : (a : Act) (u : TagUnit) → step a u ≡ answering (room_for a) u (own_of a u)
unfolding act call elapsed guarded
act_guarded (calls c room) u = call_guarded (lends c) room u (own c u)
act_guarded (waits n room) u = refl

-- How an act is met
pub data Met (a : Act) (u : TagUnit) : Type 0 where
  barred : (n : ℕ) → step a u ≡ refusing n u → (answer_room ≤ room_for a → well_formed u ≡ true → ⊥) → Met a u
  passed : answer_room ≤ room_for a → well_formed u ≡ true → step a u ≡ own_of a u → Met a u

pub met : (a : Act) (u : TagUnit) → Met a u
unfolding answering formed
met a u = go (true_or_false (ltb (room_for a) answer_room)) (true_or_false (well_formed u))
  where
    go : (ltb (room_for a) answer_room ≡ true) ⊎ (ltb (room_for a) answer_room ≡ false) → (well_formed u ≡ true) ⊎ (well_formed u ≡ false) → Met a u
    go (inl e) k = barred 6 (act_guarded a u ∙ rw e) (λ fits w. clash e (le-ltb (room_for a) answer_room fits))
    go (inr e) (inr f) = barred 2 (act_guarded a u ∙ rw (e, f)) (λ fits w. clash w f)
    go (inr e) (inl f) = passed (ltb-false (room_for a) answer_room e) f (act_guarded a u ∙ rw (e, f))

-- A refused act has not succeeded
pub not_both : (a : Act) (u : TagUnit) {n : ℕ} {v : TagUnit} → step a u ≡ refusing n v → Succeeds a u → ⊥
not_both a u e (answer, s) = let z : ◌≡◌ {A = ℕ} 0 1 = cc in omega arith
