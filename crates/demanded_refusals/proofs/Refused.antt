-- A write is refused exactly for the reasons of the list, and only spends its nonce.
use Prim.Native.Nat.{ℕ, ◌≤◌}
use mathlib.Core.Path.{◌≡◌, refl, sym, ap, ◌∙◌}
use mathlib.Core.Bool.{true}
use mathlib.Core.List.{List}
use Rattle.laws.specs.Answer.{Result, gives, refuses}
use Rattle.unit.specs.declared.TagUnit.{TagUnit}
use Rattle.unit.specs.WellFormed.{well_formed}
use Rattle.unit.specs.Change.{spent}
use Rattle.unit.specs.Outcome.{Outcome, refusing}
use Rattle.authentication.specs.Judgement.{Judgement, accepts, rejects, concluded}
use Rattle.requests.specs.Write.{judged, written}
use Rattle.tag.specs.Calls.{own, guarded, call, act}
use Rattle.demanded_answers.specs.History.{step, sends}
use Rattle.demanded_answers.specs.Spelled.{NoBitOutside, OnlySpends}
use Rattle.demanded_answers.specs.RecordLines.{RecordLines}
use Rattle.demanded_refusals.specs.Refused.{Reason, RefusedWith, Refused}
use Rattle.demanded_answers.proofs.Judging.{opened, reach_passes}
use Rattle.demanded_answers.proofs.RecordLines.{well_formed_exactly}
use Rattle.demanded_refusals.proofs.Refusing.{reason_refuses}
use Rattle.demanded_refusals.proofs.Reasons.{reason_found}

pub only_spends : (u : TagUnit) → OnlySpends u (spent u)
only_spends u =
    record {
      nonce_spent = record { count = refl; newest = refl; earlier = refl; dead = refl };
      rest = (refl, refl, tt, refl, refl, refl, refl, refl, refl, refl, refl, refl);
    }

-- The write of these bytes
module _ (u : TagUnit) (reach room : ℕ) (w : List ℕ) (n : ℕ) (right : well_formed u ≡ true) (fits : 42 ≤ room)
    (within : NoBitOutside u.settings.components reach) where
  step_is : step (sends w reach room) u ≡ concluded (spent u) (judged u w reach)
  unfolding act call guarded own
  step_is = opened u room (written u w reach) right fits ∙ reach_passes u w reach within

  lines_of : RecordLines u
  lines_of = well_formed_exactly.met u right

  pub write_refused : Reason u w n → RefusedWith n u (step (sends w reach room) u)
  write_refused r =
      let e : step (sends w reach room) u ≡ refusing n (spent u) = step_is ∙ rw (reason_refuses u w reach lines_of r) in
      record { number = rw e; unit = rw e (only_spends u) }

  pub only_for_a_reason : (step (sends w reach room) u).result ≡ refuses n → Reason u w n
  only_for_a_reason e = reason_found u w reach lines_of n (go (judged u w reach) (sym (ap (λ (o : Outcome). o.result) step_is) ∙ e))
    where
      go : (j : Judgement) → (concluded (spent u) j).result ≡ refuses n → j ≡ rejects n
      go (accepts v answer) h = cc
      go (rejects m) h = cc

else_served : (u : TagUnit) (reach room : ℕ) (w : List ℕ) → well_formed u ≡ true → 42 ≤ room → NoBitOutside u.settings.components reach → ((n : ℕ) → Reason u w n → ⊥)
    → (answer : List ℕ) × ((step (sends w reach room) u).result ≡ gives answer)
else_served u reach room w right fits within none = go (step (sends w reach room) u).result refl
  where
    go : (r : Result) → (step (sends w reach room) u).result ≡ r → (answer : List ℕ) × ((step (sends w reach room) u).result ≡ gives answer)
    go (gives answer) e = (answer, e)
    go (refuses n) e = absurd (none n (only_for_a_reason u reach room w n right fits within e))

pub refused : Refused
refused = record { refused = write_refused; only_then = only_for_a_reason; served = else_served }
