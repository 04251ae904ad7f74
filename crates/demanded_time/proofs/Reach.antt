-- What a write leaves of a ring, and what one that failed says: by its effect (WritesOnSound).
use Prim.Native.Nat.{ℕ}
use mathlib.Core.Path.{◌≡◌, refl, ap, ◌∙◌}
use mathlib.Core.Bool.{true}
use mathlib.Core.List.{List, ◌∷◌}
use native.Mathlib.Omega.{arith}
use lib.ListN.{get_or}
use Rattle.wire.specs.Shape.{parsed}
use Rattle.unit.specs.declared.TagUnit.{TagUnit}
use Rattle.unit.specs.WellFormed.{well_formed}
use Rattle.unit.specs.Change.{spent}
use Rattle.unit.specs.Outcome.{Outcome}
use Rattle.unit.proofs.Lines.{lines}
use Rattle.tag.specs.Calls.{Written, own}
use Rattle.demanded_answers.specs.History.{step, writes}
use Rattle.demanded_time.specs.Reach.{SoundAfter, silent, old, started, Failed, Reach}
use Rattle.demanded_answers.proofs.MaskBits.{not_reached}
use Rattle.demanded_answers.proofs.Guards.{Met, barred, passed, met}
use Rattle.demanded_answers.proofs.Spelling.{sound_state_lem}
use Rattle.demanded_answers.proofs.Accepted.{only_spends}
use Rattle.demanded_nonces.proofs.WritesOnSound.{Effect, apart, rings, stops, fails, clears, Ending, unreached, turned, served, written_so, admitted}

module _ (u : TagUnit) (w : Written) where
  effect_sound : {v : TagUnit} {answer : List ℕ} → Effect (spent u) (parsed w.bytes) w.reach v answer → SoundAfter w u v
  effect_sound (apart head other l) = old l.sound l.ring_nonce_is
  effect_sound (rings mask id status is) = started _ _ _ (ap (λ (x : TagUnit). x.sound) is) (not_reached mask w.reach)
  effect_sound (stops id status is) = silent (ap (λ (x : TagUnit). x.sound) is)
  effect_sound (fails id head status notice is) = old (ap (λ (x : TagUnit). x.sound) is) (ap (λ (x : TagUnit). x.ring_nonce) is)
  effect_sound (clears id none e) = silent none

  ending_sound : {o : Outcome} → Ending u w o → SoundAfter w u o.unit
  ending_sound (unreached n) = old refl refl
  ending_sound (turned n) = old refl refl
  ending_sound (served r s l a e) = effect_sound e

  only_reached_lem : (room : ℕ) → SoundAfter w u (step (writes w room) u).unit
  unfolding own
  only_reached_lem room = go (met (writes w room) u)
    where
      go : Met (writes w room) u → SoundAfter w u (step (writes w room) u).unit
      go (barred n e bars) = rw e (old refl refl)
      go (passed fits formed e) = rw e (ending_sound (written_so u w formed))

  effect_failed : {v : TagUnit} {answer : List ℕ} → well_formed u ≡ true → get_or w.bytes 0 0 ≡ 0x05 → get_or answer 10 0 ≡ 1
      → Effect (spent u) (parsed w.bytes) w.reach v answer → Failed u v answer
  unfolding parsed
  effect_failed formed ring status (apart head other l) = absurd (other ring)
  effect_failed formed ring status (rings mask id zero is) = absurd (omega (arith, status, zero))
  effect_failed formed ring status (stops id four is) = absurd (omega (arith, status, four))
  effect_failed formed ring status (fails id head one notice is) =
      record { unit = rw is (only_spends u); notice = notice ∙ ap (λ (l : List ℕ). 1 ∷ l) (sound_state_lem u (lines u formed)) }
  effect_failed formed ring status (clears id none e) = absurd (omega (arith, ring, id))

pub reach : Reach
reach =
    record {
      only_reached = only_reached_lem;
      failed = λ u w room answer ring given status.
          let a = admitted w room u answer given in effect_failed u w a.formed ring status a.effect;
    }
