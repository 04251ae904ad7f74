-- The guards of a call, as equations of its outcome: what passed them does its own, and what did not is refused by them.
use Prim.Native.Nat.{ℕ, ◌≤◌, ◌<◌}
use mathlib.Core.Path.{◌≡◌, refl, sym, ap, ◌∙◌}
use mathlib.Core.Bool.{Bool, true, false, cond}
use mathlib.Core.Logic.{◌⊎◌, inl, inr}
use lib.Dec.{ltb}
use borrow.Author.Tests.{ltb-true, ltb-false}
use Rattle.std.specs.Prelude.{Result, Ok, Err, IsErrAnd}
use Rattle.unit.specs.declared.TagUnit.{TagUnit}
use Rattle.unit.specs.declared.Refusal.{Refusal}
use Rattle.unit.specs.Refusals.{refusal_number}
use Rattle.unit.specs.WellFormed.{well_formed}
use Rattle.sizes.specs.Sizes.{answer_room}
use Rattle.unit.specs.Outcome.{Outcome, refusing, formed, answering}
use Rattle.tag.specs.Guards.{Guarded, formed_guard, ready_guard}

-- A test that decides an outcome
pub where_true : (b : Bool) (x y : Outcome) → b ≡ true → cond b x y ≡ x
where_true b x y e = rw e

pub where_false : (b : Bool) (x y : Outcome) → b ≡ false → cond b x y ≡ y
where_false b x y e = rw e

-- What the two tests of a guard were, from its end
passes : (b : Bool) {x : Unit {0}} → ◌≡◌ {A = Guarded} (cond b (Ok tt) (Err Refusal.NotWellFormed)) (Ok x) → b ≡ true
passes true e = refl
passes false e = cc

stops : (b : Bool) {x : Refusal} → ◌≡◌ {A = Guarded} (cond b (Ok tt) (Err Refusal.NotWellFormed)) (Err x) → (b ≡ false) × (x ≡ Refusal.NotWellFormed)
stops true e = cc
stops false e = (refl, cc)

has_room : (b : Bool) (rest : Guarded) {x : Unit {0}} → ◌≡◌ {A = Guarded} (cond b (Err Refusal.NoRoom) rest) (Ok x) → (b ≡ false) × (rest ≡ Ok x)
has_room true rest e = cc
has_room false rest e = (refl, e)

no_room : (b : Bool) (rest : Guarded) {x : Refusal} → ◌≡◌ {A = Guarded} (cond b (Err Refusal.NoRoom) rest) (Err x)
    → ((b ≡ true) × (x ≡ Refusal.NoRoom)) ⊎ ((b ≡ false) × (rest ≡ Err x))
no_room true rest e = inl (refl, cc)
no_room false rest e = inr (refl, e)

-- what `?` hands on of a guard's refusal
pub stopped_with : {x : Refusal} (s : Result ℕ Refusal) → IsErrAnd s (λ y. y ≡ x) → s ≡ Err x
stopped_with (Ok n) e = absurd e
stopped_with (Err y) e = ap Err e

-- The guard of every call
module _ (u : TagUnit) {r : Guarded} (is : r ≡ formed_guard u) where
  pub formed_passed : {x : Unit {0}} → r ≡ Ok x → well_formed u ≡ true
  formed_passed e = passes (well_formed u) (sym is ∙ e)

  pub formed_stopped : {x : Refusal} → r ≡ Err x → (well_formed u ≡ false) × (x ≡ Refusal.NotWellFormed)
  formed_stopped e = stops (well_formed u) (sym is ∙ e)

  pub formed_own : {x : Unit {0}} (own : Outcome) → r ≡ Ok x → formed u own ≡ own
  unfolding formed
  formed_own own e = rw (formed_passed e)

  pub formed_refuses : {x : Refusal} (own : Outcome) → r ≡ Err x → formed u own ≡ refusing (refusal_number x) u
  unfolding formed
  formed_refuses own e = let (broken, same) = formed_stopped e in rw (broken, same)

-- The guards of a call with answer bytes
module _ (u : TagUnit) (room : ℕ) {r : Guarded} (is : r ≡ ready_guard room u) where
  pub ready_passed : {x : Unit {0}} → r ≡ Ok x → (well_formed u ≡ true) × (answer_room ≤ room)
  ready_passed e =
      let (enough, rest) = has_room (ltb room answer_room) (formed_guard u) (sym is ∙ e) in
      (passes (well_formed u) rest, ltb-false room answer_room enough)

  pub answering_own : {x : Unit {0}} (own : Outcome) → r ≡ Ok x → answering room u own ≡ own
  unfolding answering formed
  answering_own own e =
      let (enough, rest) = has_room (ltb room answer_room) (formed_guard u) (sym is ∙ e) in
      rw (enough, passes (well_formed u) rest)

  pub answering_refuses : {x : Refusal} (own : Outcome) → r ≡ Err x → answering room u own ≡ refusing (refusal_number x) u
  unfolding answering formed
  answering_refuses {x} own e = go (no_room (ltb room answer_room) (formed_guard u) (sym is ∙ e))
    where
      go : ((ltb room answer_room ≡ true) × (x ≡ Refusal.NoRoom)) ⊎ ((ltb room answer_room ≡ false) × (formed_guard u ≡ Err x))
          → answering room u own ≡ refusing (refusal_number x) u
      go (inl few) = rw (few.0, few.1)
      go (inr rest) = let (broken, same) = stops (well_formed u) rest.1 in rw (rest.0, broken, same)
