-- Each call's own refusals: its checks are gone through, each that fails is one of the list, and each of the list fails a check. A write's are
-- `Refused`.
use Prim.Native.Nat.{ℕ, ◌≤◌, ◌<◌}
use mathlib.Core.Path.{◌≡◌, refl, sym, ap, ◌∙◌}
use mathlib.Core.Bool.{true, false, not, ◌&&◌}
use mathlib.Core.List.{List, []}
use mathlib.Core.Logic.{◌⊎◌, inl, inr}
use native.Mathlib.Omega.{arith}
use lib.Dec.{eqb, ltb, leb}
use lib.ListN.{length, get_or}
use borrow.Author.Tests.{eqb-true, eqb-false, ne_eqb, eq-eqb, le-ltb, ltb-false, leb-false, lt-leb, not-false, not-true}
use Rattle.laws.specs.Answer.{gives, refuses}
use Rattle.laws.specs.Bytes.{same_bytes}
use Rattle.laws.proofs.Flags.{true_or_false, and_fails_left, and_fails_right, and_left, and_right, both, fails, clash}
use Rattle.laws.proofs.Same.{same_equal, equal_same}
use Rattle.tables.specs.Rows.{among}
use Rattle.tables.proofs.Rows.{among_place}
use Rattle.unit.specs.declared.TagUnit.{TagUnit}
use Rattle.unit.specs.declared.Sound.{Sound}
use Rattle.unit.specs.WellFormed.{well_formed, held_keys}
use Rattle.standing.specs.Standing.{stands}
use Rattle.unit.specs.Outcome.{Outcome, refusing}
use Rattle.unit.proofs.Lines.{held_count}
use Rattle.unit.specs.Ringable.{inside}
use Rattle.requests.specs.Write.{written}
use Rattle.nonces.specs.Nonces.{issued_nonces, nonce_fits}
use Rattle.nonces.proofs.Lines.{issued_count}
use Rattle.advertising.specs.Showing.{showing}
use Rattle.read_call.specs.Read.{issuing}
use Rattle.press_call.specs.Press.{pressed}
use Rattle.key_calls.specs.Keys.{keeping, disconnected}
use Rattle.settings_calls.specs.Settings.{charged}
use Rattle.tag.specs.Calls.{Written, read, write, button, pairing, battery, account_key, disconnect, frame, own as own_call, Act, calls, waits}
use Rattle.demanded_answers.specs.History.{step}
use Rattle.demanded_answers.specs.Spelled.{key_at_place, nonce_at_place}
use Rattle.demanded_answers.specs.RecordLines.{RecordLines}
use Rattle.demanded_refusals.specs.RefusalOrder.{Own, nonce_length, nonce_held, reach_outside, of_write, battery_level, key_length, frame_without_key, frame_of_zero}
use Rattle.demanded_answers.specs.EphemeralIdentifier.{r_of}
use Rattle.demanded_answers.proofs.EphemeralIdentifier.{stands_is}
use Rattle.demanded_refusals.proofs.Choices.{tested}
use Rattle.demanded_refusals.proofs.Ends.{tenths_give}
use Rattle.demanded_answers.proofs.Guards.{room_for, own_of}
use Rattle.demanded_answers.proofs.RecordLines.{key_at, nonce_at, among_found}
use Rattle.demanded_refusals.proofs.Refusing.{same_either}
use Rattle.demanded_refusals.proofs.Reasons.{one_fails}
use Rattle.demanded_refusals.proofs.Refused.{write_refused, only_for_a_reason}
use Rattle.demanded_refusals.proofs.LentRoom.{through}
use Rattle.demanded_answers.proofs.MaskBits.{inside_bits, outside_bit, bit_outside}

-- An answer, or a refusal of the list that changes nothing
data Found (u : TagUnit) (a : Act) : Outcome → Type 0 where
  answered : {o : Outcome} (answer : List ℕ) → o.result ≡ gives answer → Found u a o
  refused : {n : ℕ} → Own u a n → Found u a (refusing n u)

module _ (u : TagUnit) (l : RecordLines u) where
  read_found : (nonce : List ℕ) (room : ℕ) → Found u (calls (read nonce) room) (issuing nonce u)
  unfolding issuing nonce_fits
  read_found nonce room =
      tested (Found u (calls (read nonce) room)) (nonce_fits u.nonces nonce) (λ e. answered _ refl) (λ e. refused (go (one_fails _ _ e)))
    where
      go : (eqb (length nonce) 8 ≡ false) ⊎ ((eqb (length nonce) 8 ≡ true) × (not (among nonce (issued_nonces u.nonces)) ≡ false))
          → Own u (calls (read nonce) room) 3
      go (inl e) = nonce_length (eqb-false _ _ e)
      go (inr e) =
          let found = among_found nonce (issued_nonces u.nonces) (not-false _ e.1) in
          let below : found.0 < u.nonces.count = omega (arith, found.1, issued_count u.nonces) in
          nonce_held found.0 below (sym (found.2 ∙ nonce_at u found.0 below))

  press_found : (room : ℕ) (s : Sound) → Found u (calls button room) (pressed s u)
  unfolding pressed
  press_found room Sound.Silent = answered _ refl
  press_found room (Sound.Ringing mask volume left) = answered _ refl

  battery_found : (level room : ℕ) → Found u (calls (battery level) room) (charged level u)
  unfolding charged
  battery_found level room =
      tested (Found u (calls (battery level) room)) (leb level 3) (λ e. answered _ refl) (λ e. refused (battery_level (leb-false level 3 e)))

  key_found : (key : List ℕ) (room : ℕ) → Found u (calls (account_key key) room) (keeping key u)
  unfolding keeping
  key_found key room =
      let P = Found u (calls (account_key key) room) in
      tested P (not (eqb (length key) 16)) (λ e. refused (key_length (eqb-false _ _ (not-true _ e))))
      (λ e.
      tested P (among key (held_keys u.accounts)) (λ h. answered _ refl) (λ h. answered _ refl))

  frame_found : (room : ℕ) → Found u (calls frame room) (showing u)
  unfolding showing
  frame_found room =
      tested (Found u (calls frame room)) (stands u) (λ e. answered _ refl) (λ e. refused (go (one_fails _ _ (sym (stands_is u) ∙ e))))
    where
      go : (u.identity.held ≡ false) ⊎ ((u.identity.held ≡ true) × (not (eqb (r_of u) 0) ≡ false)) → Own u (calls frame room) 5
      go (inl e) = frame_without_key e
      go (inr e) = frame_of_zero (eqb-true _ _ (not-false _ e.1))

-- A write with a reach that is outside
outside : (u : TagUnit) (w : List ℕ) (reach : ℕ) → inside reach u.settings.components ≡ false → written u w reach ≡ refusing 1 u
unfolding written
outside u w reach e = rw e

outside_found : (u : TagUnit) (w : Written) (room : ℕ) → inside w.reach u.settings.components ≡ false
    → Found u (calls (write w) room) (written u w.bytes w.reach)
outside_found u w room h =
    let b = outside_bit w.reach u.settings.components h in
    rw (outside u w.bytes w.reach h) (refused (reach_outside b.0 b.1 b.2))

-- Behind the guards, an act is refused only for one of its own refusals
from_found : {u : TagUnit} {a : Act} {o : Outcome} (n : ℕ) → Found u a o → o.result ≡ refuses n → Own u a n
from_found n (answered answer g) e = let z : ◌≡◌ {A = ℕ} 0 1 = cc in absurd (omega arith)
from_found n (refused {n = m} f) e = let same : m ≡ n = cc in rw same at f

module _ (u : TagUnit) (n : ℕ) (l : RecordLines u) (right : well_formed u ≡ true) where
  pub own_only : (a : Act) → 42 ≤ room_for a → (own_of a u).result ≡ refuses n → Own u a n
  unfolding own_call disconnected
  own_only (calls (read nonce) room) fits e = from_found n (read_found u l nonce room) e
  own_only (calls (write w) room) fits e = go (true_or_false (inside w.reach u.settings.components))
    where
      go : (inside w.reach u.settings.components ≡ true) ⊎ (inside w.reach u.settings.components ≡ false) → Own u (calls (write w) room) n
      go (inl h) =
          let within = inside_bits w.reach u.settings.components h in
          of_write within
          (only_for_a_reason u w.reach room w.bytes n right fits within
          (ap (λ (o : Outcome). o.result) (through (calls (write w) room) u fits right) ∙ e))
      go (inr h) = from_found n (outside_found u w room h) e
  own_only (calls button room) fits e = from_found n (press_found u l room u.sound) e
  own_only (calls (pairing on) room) fits e = let z : ◌≡◌ {A = ℕ} 0 1 = cc in absurd (omega arith)
  own_only (calls (battery level) room) fits e = from_found n (battery_found u l level room) e
  own_only (calls (account_key key) room) fits e = from_found n (key_found u l key room) e
  own_only (calls disconnect room) fits e = let z : ◌≡◌ {A = ℕ} 0 1 = cc in absurd (omega arith)
  own_only (calls frame room) fits e = from_found n (frame_found u l room) e
  own_only (waits t room) fits e =
      let g = tenths_give t u in
      let z : ◌≡◌ {A = ℕ} 0 1 = cc g.1 in
      absurd (omega arith)

-- And for each of them it is refused
module _ (u : TagUnit) (l : RecordLines u) where
  nonce_refused : (nonce : List ℕ) → nonce_fits u.nonces nonce ≡ false → issuing nonce u ≡ refusing 3 u
  unfolding issuing
  nonce_refused nonce e = rw e

  not_eight : (nonce : List ℕ) → (length nonce ≡ 8 → ⊥) → nonce_fits u.nonces nonce ≡ false
  unfolding nonce_fits
  not_eight nonce h = and_fails_left _ (ne_eqb (length nonce) 8 h)

  again : (nonce : List ℕ) (p : ℕ) → p < u.nonces.count → nonce_at_place u p ≡ nonce → nonce_fits u.nonces nonce ≡ false
  unfolding nonce_fits
  again nonce p held e =
      let there = among_place (issued_nonces u.nonces) p (omega (arith, issued_count u.nonces)) in
      and_fails_right (eqb (length nonce) 8) (ap not (rw (nonce_at u p held ∙ e) at there))

  too_high : (level : ℕ) → 3 < level → charged level u ≡ refusing 1 u
  unfolding charged
  too_high level h = rw (lt-leb level 3 h)

  not_sixteen : (key : List ℕ) → (length key ≡ 16 → ⊥) → keeping key u ≡ refusing 4 u
  unfolding keeping
  not_sixteen key h = rw (ne_eqb (length key) 16 h)

  no_frame_lem : stands u ≡ false → showing u ≡ refusing 5 u
  unfolding showing
  no_frame_lem e = rw e

  pub own_refuses : {a : Act} {n : ℕ} → Own u a n → well_formed u ≡ true → 42 ≤ room_for a → (step a u).result ≡ refuses n
  unfolding own_call
  own_refuses {a} (nonce_length {nonce} h) right fits = rw (through a u fits right, nonce_refused nonce (not_eight nonce h))
  own_refuses {a} (nonce_held {nonce} p held e) right fits = rw (through a u fits right, nonce_refused nonce (again nonce p held e))
  own_refuses {a} (reach_outside {w} i k b) right fits =
      rw (through a u fits right, outside u w.bytes w.reach (bit_outside w.reach u.settings.components i k b))
  own_refuses (of_write {w} {room} {n} within r) right fits = (write_refused u w.reach room w.bytes n right fits within r).number
  own_refuses {a} (battery_level {level} h) right fits = rw (through a u fits right, too_high level h)
  own_refuses {a} (key_length {key} h) right fits = rw (through a u fits right, not_sixteen key h)
  own_refuses {a} (frame_without_key e) right fits = rw (through a u fits right, no_frame_lem (stands_is u ∙ and_fails_left _ e))
  own_refuses {a} (frame_of_zero e) right fits =
      rw (through a u fits right, no_frame_lem (stands_is u ∙ and_fails_right u.identity.held (ap not (eq-eqb (r_of u) 0 e))))
