-- Every call keeps a well-formed unit well formed. A refusal leaves the unit, so only what is done behind the two guards counts, and that
-- is a change whose condition the call has tested.
use Prim.Native.Nat.{ℕ}
use mathlib.Core.Path.{◌≡◌, sym, subst}
use mathlib.Core.Bool.{true, not}
use mathlib.Core.List.{List, [], ◌∷◌}
use native.Mathlib.Omega.{arith}
use lib.Dec.{eqb, leb, ltb}
use lib.ListN.{length}
use borrow.Author.Tests.{ltb-true, leb-true, eqb-true, not-false}
use Rattle.unit.specs.declared.TagUnit.{TagUnit}
use Rattle.unit.specs.declared.Identity.{Identity}
use Rattle.unit.specs.declared.Sound.{Sound}
use Rattle.sizes.specs.Sizes.{answer_room, most_keys, highest_battery, full_consent, account_key_size}
use Rattle.tables.specs.Rows.{among}
use Rattle.unit.specs.WellFormed.{well_formed, held_keys}
use Rattle.unit.specs.Change.{identity_key, with_identity, silenced}
use Rattle.unit.specs.Outcome.{Outcome, refusing, formed as guarded, answering}
use Rattle.standing.specs.Standing.{stands}
use Rattle.unit.proofs.Lines.{lines, waiting_owned_lem}
use Rattle.unit.proofs.Kept.{fresh_formed, issued_kept, consent_kept, silenced_kept, pairing_kept, battery_kept, accounts_kept, identity_kept, unawaited_kept}
use Rattle.nonces.specs.Nonces.{nonce_fits}
use Rattle.account_keys.specs.Order.{place_for, key_added}
use Rattle.account_keys.proofs.Order.{added_lines, added_owner, followed_owned}
use Rattle.advertising.specs.Showing.{showing}
use Rattle.read_call.specs.Read.{issuing}
use Rattle.press_call.specs.Press.{pressed}
use Rattle.key_calls.specs.Keys.{keeping, brought_in, disconnected}
use Rattle.settings_calls.specs.Settings.{charged}
use Rattle.tag.specs.Calls.{read, write, button, pairing, battery, account_key, disconnect, frame, own, Act, calls, waits}
use Rattle.demanded_answers.specs.History.{step, after}
use Rattle.demanded_refusals.specs.Formed.{Formed}
use Rattle.demanded_refusals.proofs.Choices.{tested}
use Rattle.demanded_answers.proofs.Guards.{room_for, own_of, act_guarded}
use Rattle.demanded_refusals.proofs.Ends.{no_unit_lem}
use Rattle.demanded_refusals.proofs.Tenths.{tenths_kept}
use Rattle.demanded_refusals.proofs.Writes.{written_kept}

-- An outcome with a well-formed unit
data Keeps : Outcome → Type 0 where
  keeps : {o : Outcome} → well_formed o.unit ≡ true → Keeps o

kept_unit : {o : Outcome} → Keeps o → well_formed o.unit ≡ true
kept_unit (keeps h) = h

module _ (u : TagUnit) (w : well_formed u ≡ true) where
  refusal : {n : ℕ} → Keeps (refusing n u)
  refusal = keeps w

  through_guards : {own : Outcome} (room : ℕ) → Keeps own → Keeps (answering room u own)
  unfolding answering guarded
  through_guards room h =
      tested Keeps (ltb room answer_room) (λ e. refusal) (λ e. tested Keeps (well_formed u) (λ e. h) (λ e. refusal))

  issuing_keeps : (nonce : List ℕ) → Keeps (issuing nonce u)
  unfolding issuing
  issuing_keeps nonce = tested Keeps (nonce_fits u.nonces nonce) (λ e. keeps (issued_kept u w nonce e)) (λ e. refusal)

  pressed_keeps : (s : Sound) → Keeps (pressed s u)
  unfolding pressed
  pressed_keeps Sound.Silent = keeps (consent_kept u w full_consent (omega arith))
  pressed_keeps (Sound.Ringing mask volume left) = keeps (silenced_kept u w)

  battery_keeps : (level : ℕ) → Keeps (charged level u)
  unfolding charged
  battery_keeps level =
      tested Keeps (leb level highest_battery) (λ e. keeps (battery_kept u w level (leb-true level highest_battery e))) (λ e. refusal)

  keeping_keeps : (key : List ℕ) → Keeps (keeping key u)
  unfolding keeping
  keeping_keeps key =
      tested Keeps (not (eqb (length key) account_key_size)) (λ e. refusal)
      (λ e.
      tested Keeps (among key (held_keys u.accounts)) (λ held. keeps w)
      (λ new.
      let l = lines u w in
      let sized = eqb-true (length key) account_key_size (not-false _ e) in
      keeps
      (accounts_kept u w (key_added key u.accounts) (added_lines u.accounts l.accounts key sized new l.owner)
      (added_owner u.accounts l.accounts key sized new l.owner) (followed_owned (place_for u.accounts) u.accounts.owner))))

  -- the waiting key has an owner, as the key in force needs
  brought_in_lem : u.waiting.held ≡ true → well_formed (brought_in u) ≡ true
  brought_in_lem held =
      let is : identity_key u.waiting.bytes ≡ u.waiting = λ i. record { held = sym held i; bytes = u.waiting.bytes } in
      let hushed = silenced u in
      let in_force = identity_kept hushed (silenced_kept u w) u.waiting.bytes (waiting_owned_lem (lines u w) held) in
      unawaited_kept (with_identity u.waiting hushed) (subst (λ (k : Identity). well_formed (with_identity k hushed) ≡ true) is in_force)

  disconnected_keeps : Keeps (disconnected u)
  unfolding disconnected
  disconnected_keeps = keeps (tested (λ (v : TagUnit). well_formed v ≡ true) u.waiting.held brought_in_lem (λ none. w))

  showing_keeps : Keeps (showing u)
  unfolding showing
  showing_keeps = tested Keeps (stands u) (λ e. keeps w) (λ e. refusal)

  own_keeps : (a : Act) → Keeps (own_of a u)
  unfolding own
  own_keeps (calls (read nonce) room) = issuing_keeps nonce
  own_keeps (calls (write b) room) = keeps (written_kept u w b.bytes b.reach)
  own_keeps (calls button room) = pressed_keeps u.sound
  own_keeps (calls (pairing on) room) = keeps (pairing_kept u w on)
  own_keeps (calls (battery level) room) = battery_keeps level
  own_keeps (calls (account_key key) room) = keeping_keeps key
  own_keeps (calls disconnect room) = disconnected_keeps
  own_keeps (calls frame room) = showing_keeps
  own_keeps (waits n room) = keeps (tenths_kept n u w)

  step_keeps : (a : Act) → Keeps (step a u)
  step_keeps a = rw (act_guarded a u) (through_guards (room_for a) (own_keeps a))

pub formed : Formed
formed = record { kept = λ a u w. kept_unit (step_keeps u w a); freshly = fresh_formed; refused = no_unit_lem }

pub formed_along : (h : List Act) (u : TagUnit) → well_formed u ≡ true → well_formed (after h u) ≡ true
unfolding after
formed_along [] u w = w
formed_along (a ∷ h) u w = formed_along h (step a u).unit (formed.kept a u w)
