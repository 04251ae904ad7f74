-- Consent over time. An act that neither gives nor takes it leaves it but for the tenths that pass (Meanwhile, RingTenths), so after a list the
-- 600 of a press are less by the list's tenths; and a rightly tagged 0x04 comes to the test of consent and pairing.
use Prim.Native.Nat.{ℕ, ◌+◌, ◌-◌, ◌≤◌, ◌<◌}
use mathlib.Core.Path.{◌≡◌, refl, ap, ◌∙◌}
use mathlib.Core.Bool.{Bool, true, false, ◌||◌}
use mathlib.Core.List.{List, [], ◌∷◌}
use native.Mathlib.Omega.{arith}
use lib.Dec.{leb, ltb}
use borrow.Author.Tests.{leb-true, leb-false, lt-ltb}
use Rattle.laws.proofs.Flags.{or_left, or_right}
use Rattle.wire.specs.Signing.{derived_key, request_tag, answer_tag, signed, recovery_key}
use Rattle.wire.specs.Shape.{size_legal, one_of, legal_sizes}
use Rattle.key_blocks.specs.KeyBlocks.{encrypted_key}
use Rattle.unit.specs.declared.TagUnit.{TagUnit}
use Rattle.unit.specs.declared.Sound.{Sound}
use Rattle.unit.specs.WellFormed.{well_formed}
use Rattle.unit.specs.Change.{fresh, spent}
use Rattle.unit.specs.Outcome.{Outcome}
use Rattle.authentication.specs.Judgement.{concluded, last_nonce}
use Rattle.recovery.specs.Recovery.{recover_key}
use Rattle.handlers.specs.ById.{by_id}
use Rattle.requests.specs.Write.{judged, written}
use Rattle.press_call.specs.Press.{pressed}
use Rattle.tag.specs.Calls.{button, own, guarded, call, Act, calls, waits, act}
use Rattle.demanded_answers.specs.History.{step, after, sends}
use Rattle.demanded_nonces.specs.Among.{NoneIn, Accepts, tenths_in}
use Rattle.demanded_time.specs.ConsentLasts.{Consents, consents, Ready, Served, Refused, ConsentLasts}
use Rattle.demanded_refusals.proofs.Formed.{formed}
use Rattle.demanded_answers.proofs.Guards.{Met, barred, passed, met}
use Rattle.demanded_answers.proofs.Judging.{opened, reach_passes, length_request_tag, request_of, bytes_of, parts, shape, own_tag}
use Rattle.demanded_nonces.proofs.KeyPlaces.{owner_key_lem}
use Rattle.demanded_time.proofs.RingTenths.{tenths_consent}
use Rattle.demanded_time.proofs.CallsOnSound.{Does, calmly, pressed_silent, pressed_ringing, rung, failed, cleared, brought_in, call_does, tenths_of, begins, time_passes, time_stands}

-- One act
time_consent : (n room : ℕ) (u : TagUnit) → well_formed u ≡ true → (step (waits n room) u).unit.consent ≡ u.consent - tenths_of (waits n room)
time_consent n room u w = go (leb 42 room) refl
  where
    go : (b : Bool) → leb 42 room ≡ b → (step (waits n room) u).unit.consent ≡ u.consent - tenths_of (waits n room)
    go true e =
        let all : u.consent - n ≡ u.consent - (n + 0) = omega arith in
        rw (e, time_passes n room u w (leb-true 42 room e)) (tenths_consent n u ∙ all)
    go false e =
        let stands = time_stands n room u (λ fits. omega (arith, leb-false 42 room e)) in
        rw (e, stands.1) (omega arith)

module _ (a : Act) (u : TagUnit) where
  call_keeps : Does a u → (Consents a u → ⊥) → (Accepts 0x03 a u → ⊥) → (step a u).unit.consent ≡ u.consent
  call_keeps (calmly calm) free kept = calm.leaves.consent
  call_keeps (pressed_silent p s) free kept = absurd (free (consents p s))
  call_keeps (pressed_ringing p e) free kept = e
  call_keeps (rung x unfails e) free kept = e
  call_keeps (failed leaves unheard) free kept = leaves.consent
  call_keeps (cleared x e) free kept = absurd (kept x)
  call_keeps (brought_in x e) free kept = e

  call_adds_none : Does a u → (Consents a u → ⊥) → (step a u).unit.consent ≤ u.consent
  call_adds_none (calmly calm) free = omega (arith, calm.leaves.consent)
  call_adds_none (pressed_silent p s) free = absurd (free (consents p s))
  call_adds_none (pressed_ringing p e) free = omega arith
  call_adds_none (rung x unfails e) free = omega arith
  call_adds_none (failed leaves unheard) free = omega (arith, leaves.consent)
  call_adds_none (cleared x e) free = omega arith
  call_adds_none (brought_in x e) free = omega arith

act_keeps : (a : Act) (u : TagUnit) → well_formed u ≡ true → (Consents a u → ⊥) → (Accepts 0x03 a u → ⊥) → (step a u).unit.consent ≡ u.consent - tenths_of a
act_keeps (calls c room) u w free kept = call_keeps (calls c room) u (call_does c room u) free kept ∙ omega arith
act_keeps (waits n room) u w free kept = time_consent n room u w

act_adds_none : (a : Act) (u : TagUnit) → well_formed u ≡ true → (Consents a u → ⊥) → (step a u).unit.consent ≤ u.consent - tenths_of a
act_adds_none (calls c room) u w free = let most = call_adds_none (calls c room) u (call_does c room u) free in omega arith
act_adds_none (waits n room) u w free = let is = time_consent n room u w in omega arith

-- A list
list_keeps : (l : List Act) (u : TagUnit) → well_formed u ≡ true → NoneIn Consents l u → NoneIn (Accepts 0x03) l u
    → (after l u).consent ≡ u.consent - tenths_in l
unfolding after
list_keeps [] u w free kept = omega arith
list_keeps (a ∷ l) u w free kept =
    let here = act_keeps a u w free.0 kept.0 in
    let rest = list_keeps l (step a u).unit (formed.kept a u w) free.1 kept.1 in
    let total = begins a l in
    omega arith

list_adds_none : (l : List Act) (u : TagUnit) → well_formed u ≡ true → NoneIn Consents l u → (after l u).consent ≤ u.consent - tenths_in l
unfolding after
list_adds_none [] u w free = omega arith
list_adds_none (a ∷ l) u w free =
    let here = act_adds_none a u w free.0 in
    let rest = list_adds_none l (step a u).unit (formed.kept a u w) free.1 in
    let total = begins a l in
    omega arith

-- on any unit at all, none is added
act_no_more : (a : Act) (u : TagUnit) → (Consents a u → ⊥) → (step a u).unit.consent ≤ u.consent
act_no_more (calls c room) u free = call_adds_none (calls c room) u (call_does c room u) free
act_no_more (waits n room) u free = go (met (waits n room) u)
  where
    go : Met (waits n room) u → (step (waits n room) u).unit.consent ≤ u.consent
    go (barred k e bars) = rw e (omega arith)
    go (passed f w e) = rw e (omega (arith, tenths_consent n u))

list_no_more : (l : List Act) (u : TagUnit) → NoneIn Consents l u → (after l u).consent ≤ u.consent
unfolding after
list_no_more [] u free = omega arith
list_no_more (a ∷ l) u free = omega (arith, act_no_more a u free.0, list_no_more l (step a u).unit free.1)

-- The press
press_gives : (room : ℕ) (u : TagUnit) → well_formed u ≡ true → u.sound ≡ Sound.Silent → 42 ≤ room
    → (step (calls button room) u).unit.consent ≡ 600
unfolding own pressed
press_gives room u w silent fits = go (met (calls button room) u)
  where
    go : Met (calls button room) u → (step (calls button room) u).unit.consent ≡ 600
    go (barred n e bars) = absurd (bars fits w)
    go (passed f right e) = ap (λ (o : Outcome). o.unit.consent) e ∙ rw silent

-- The rightly tagged 0x04 comes to the test of consent
module _ (u : TagUnit) (key : List ℕ) (reach room : ℕ) (ready : Ready u key reach room) where
  abbrev mark : List ℕ
  mark = request_tag (recovery_key u.identity.bytes) (last_nonce u) 0x04 8 []

  comes : step (sends (bytes_of 0x04 8 mark []) reach room) u ≡ concluded (spent u) (recover_key (spent u) (request_of 0x04 8 mark []))
  unfolding act call guarded own judged by_id size_legal one_of legal_sizes
  comes =
      let eight = length_request_tag (recovery_key u.identity.bytes) (last_nonce u) 0x04 8 [] in
      opened u room (written u (bytes_of 0x04 8 mark []) reach) ready.formed ready.fits
      ∙ reach_passes u (bytes_of 0x04 8 mark []) reach ready.within
      ∙ rw (shape 0x04 8 mark [] eight refl refl, ready.live, parts 0x04 8 mark [] eight refl, ready.identity_held)

  grants : ltb 0 u.consent || u.pairing ≡ true → Served u key reach room
  unfolding recover_key request_tag derived_key signed answer_tag encrypted_key
  grants consent =
      ap (λ (o : Outcome). o.result) comes
      ∙ rw (owner_key_lem u ready.formed key ready.owned, own_tag (recovery_key u.identity.bytes) (last_nonce u) 0x04 8 [], consent)

  denies : ltb 0 u.consent || u.pairing ≡ false → Refused u reach room
  unfolding recover_key request_tag derived_key
  denies none =
      ap (λ (o : Outcome). o.result) comes
      ∙ rw (owner_key_lem u ready.formed key ready.owned, own_tag (recovery_key u.identity.bytes) (last_nonce u) 0x04 8 [], none)

  without : u.consent ≡ 0 → u.pairing ≡ false → Refused u reach room
  without none off = denies (rw (none, off))

pub consent_lasts_lem : ConsentLasts
unfolding after
consent_lasts_lem =
    record {
      within = λ u pressRoom l key reach room p kept ready short.
          let v = (step (calls button pressRoom) u).unit in
          let given = press_gives pressRoom u p.formed p.silent p.fits in
          let w = formed.kept (calls button pressRoom) u p.formed in
          let some : 0 < (after l v).consent = omega (arith, list_keeps l v w p.once kept) in
          grants (after l v) key reach room ready (or_left (after l v).pairing (lt-ltb 0 (after l v).consent some));
      later = λ u pressRoom l key reach room p ready off long.
          let v = (step (calls button pressRoom) u).unit in
          let given = press_gives pressRoom u p.formed p.silent p.fits in
          let w = formed.kept (calls button pressRoom) u p.formed in
          without (after l v) key reach room ready (omega (arith, list_adds_none l v w p.once)) off;
      pairing = λ u key reach room ready on. grants u key reach room ready (or_right (ltb 0 u.consent) on);
      never = λ s h key reach room free ready off. without (after h (fresh s)) key reach room ready (omega (arith, list_no_more h (fresh s) free)) off;
    }
