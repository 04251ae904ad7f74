-- What a call does to the nonces, for all kinds: a successful read issues its own, a write that passes 6, 2 and 1 spends the newest, and every
-- other call, refused ones too, leaves them as they are.
use Prim.Native.Nat.{ℕ, ◌≤◌}
use mathlib.Core.Path.{◌≡◌, refl, ap, ◌∙◌}
use mathlib.Core.Bool.{true, false}
use mathlib.Core.List.{List, ◌∷◌}
use mathlib.Core.Logic.{◌⊎◌, inl, inr}
use native.Mathlib.Omega.{arith}
use Rattle.laws.proofs.Flags.{true_or_false, clash}
use Rattle.wire.specs.Signing.{version}
use Rattle.wire.specs.Shape.{Request}
use Rattle.unit.specs.declared.TagUnit.{TagUnit}
use Rattle.sizes.specs.Sizes.{answer_room}
use Rattle.unit.specs.Ringable.{inside}
use Rattle.unit.specs.Change.{with_nonces}
use Rattle.unit.specs.WellFormed.{well_formed}
use Rattle.unit.specs.Outcome.{Outcome, giving, refusing}
use Rattle.authentication.specs.Judgement.{accepts}
use Rattle.clearing.specs.Clearing.{cleared}
use Rattle.requests.specs.Write.{written}
use Rattle.nonces.specs.Nonces.{nonce_fits, with_issued, spent_nonces}
use Rattle.read_call.specs.Read.{issuing}
use Rattle.tag.specs.Calls.{Written, read, write, account_key, disconnect, own, Act, calls}
use Rattle.demanded_answers.specs.Spelled.{NoBitOutside}
use Rattle.demanded_answers.specs.History.{step, Succeeds}
use Rattle.demanded_nonces.specs.Nonces.{PassesGuards, passes, Issues, issues}
use Rattle.demanded_answers.proofs.Guards.{room_for, own_of, met, Met, barred, passed, not_both}
use Rattle.demanded_nonces.proofs.WritesOnKeys.{Did, set, clear, recovered, used, other, Ended, unreached, turned, served, ends_written}
use Rattle.demanded_answers.proofs.MaskBits.{inside_bits, bits_inside}
use Rattle.demanded_nonces.proofs.OtherCalls.{kind, Sorted, a_read, a_write, a_key, a_disconnect, aside, sorted, Keeping, unfit, again, more, keeps, Disconnecting, nothing_in, key_in, disconnects}

pub data Noncing : Act → TagUnit → Type 0 where
  issue : {nonce : List ℕ} {room : ℕ} {u : TagUnit} → Succeeds (calls (read nonce) room) u → nonce_fits u.nonces nonce ≡ true
      → (step (calls (read nonce) room) u).unit.nonces ≡ with_issued nonce u.nonces
      → Noncing (calls (read nonce) room) u
  spend : {w : Written} {room : ℕ} {u : TagUnit} → PassesGuards (calls (write w) room) u → (step (calls (write w) room) u).unit.nonces ≡ spent_nonces u.nonces
      → Noncing (calls (write w) room) u
  keep : {c : Act} {u : TagUnit} → (Issues c u → ⊥) → (PassesGuards c u → ⊥) → (step c u).unit.nonces ≡ u.nonces → Noncing c u

issues_succeeds : {c : Act} {u : TagUnit} → Issues c u → Succeeds c u
issues_succeeds (issues s) = s

passes_guards : {c : Act} {u : TagUnit} → PassesGuards c u → (answer_room ≤ room_for c) × (well_formed u ≡ true)
passes_guards (passes fits formed within) = (fits, formed)

pub issues_kind : {c : Act} {u : TagUnit} → Issues c u → kind c ≡ 0
issues_kind (issues s) = refl

passes_kind : {c : Act} {u : TagUnit} → PassesGuards c u → kind c ≡ 1
passes_kind (passes fits formed within) = refl

-- A call that is barred leaves the nonce
barred_keeps : (c : Act) (u : TagUnit) (n : ℕ) → step c u ≡ refusing n u → (answer_room ≤ room_for c → well_formed u ≡ true → ⊥) → Noncing c u
barred_keeps c u n e bars =
    keep (λ i. not_both c u e (issues_succeeds i)) (λ p. bars (passes_guards p).0 (passes_guards p).1) (ap (λ (o : Outcome). o.unit.nonces) e)

did_nonce : {u : TagUnit} {q : Request} {v : TagUnit} {answer : List ℕ} → Did u q (accepts v answer) → v.nonces ≡ u.nonces
unfolding cleared
did_nonce (set key e o) = refl
did_nonce (clear e) = refl
did_nonce (recovered key e o) = refl
did_nonce (used k a) = refl
did_nonce (other k a) = a.nonce

written_spends : {u : TagUnit} {w : Written} {o : Outcome} → inside w.reach u.settings.components ≡ true → Ended u w o → o.unit.nonces ≡ spent_nonces u.nonces
written_spends within (unreached n out) = absurd (clash within out)
written_spends within (turned n) = refl
written_spends within (served s l did) = did_nonce did

written_keeps : (u : TagUnit) (w : List ℕ) (reach : ℕ) → inside reach u.settings.components ≡ false → written u w reach ≡ refusing 1 u
unfolding written
written_keeps u w reach out = rw out

passes_within : {w : Written} {room : ℕ} {u : TagUnit} → PassesGuards (calls (write w) room) u → NoBitOutside u.settings.components w.reach
passes_within (passes fits formed within) = within

kept_nonce : {key : List ℕ} {u : TagUnit} {o : Outcome} → Keeping key u o → o.unit.nonces ≡ u.nonces
kept_nonce unfit = refl
kept_nonce (again a) = refl
kept_nonce (more n few) = refl

disconnected_nonce : {u v : TagUnit} → Disconnecting u v → v.nonces ≡ u.nonces
disconnected_nonce (nothing_in none) = refl
disconnected_nonce (key_in held) = refl

-- A call of another kind
untouched : (c : Act) (u : TagUnit) → 2 ≤ kind c → (own_of c u).unit.nonces ≡ u.nonces → Noncing c u
untouched c u t kept = go (met c u)
  where
    go : Met c u → Noncing c u
    go (barred n e bars) = barred_keeps c u n e bars
    go (passed fits formed e) =
        keep (λ (i : Issues c u). omega (arith, issues_kind i)) (λ (p : PassesGuards c u). omega (arith, passes_kind p)) (ap (λ (o : Outcome). o.unit.nonces) e ∙ kept)

reading : (nonce : List ℕ) (room : ℕ) (u : TagUnit) → Noncing (calls (read nonce) room) u
unfolding issuing own
reading nonce room u = go (met (calls (read nonce) room) u)
  where
    c : Act
    c = calls (read nonce) room

    fits_or_not : (nonce_fits u.nonces nonce ≡ true) ⊎ (nonce_fits u.nonces nonce ≡ false) → step c u ≡ issuing nonce u → Noncing c u
    fits_or_not (inl f) e =
        let given : step c u ≡ giving (version ∷ nonce) (with_nonces (with_issued nonce u.nonces) u) = e ∙ rw f in
        issue (version ∷ nonce, ap (λ (o : Outcome). o.result) given) f (ap (λ (o : Outcome). o.unit.nonces) given)
    fits_or_not (inr f) e =
        let refusal : step c u ≡ refusing 3 u = e ∙ rw f in
        keep (λ i. not_both c u refusal (issues_succeeds i)) (λ (p : PassesGuards c u). omega (arith, passes_kind p)) (ap (λ (o : Outcome). o.unit.nonces) refusal)

    go : Met c u → Noncing c u
    go (barred n e bars) = barred_keeps c u n e bars
    go (passed fits formed e) = fits_or_not (true_or_false (nonce_fits u.nonces nonce)) e

writing : (w : Written) (room : ℕ) (u : TagUnit) → Noncing (calls (write w) room) u
unfolding own
writing w room u = go (met (calls (write w) room) u)
  where
    go : Met (calls (write w) room) u → Noncing (calls (write w) room) u
    go (barred n e bars) = barred_keeps (calls (write w) room) u n e bars
    go (passed fits formed e) = by_reach (true_or_false (inside w.reach u.settings.components))
      where
        by_reach : (inside w.reach u.settings.components ≡ true) ⊎ (inside w.reach u.settings.components ≡ false) → Noncing (calls (write w) room) u
        by_reach (inl r) =
            spend (passes fits formed (inside_bits w.reach u.settings.components r))
            (ap (λ (o : Outcome). o.unit.nonces) e ∙ written_spends {w = w} r (ends_written u w))
        by_reach (inr r) =
            let refusal : step (calls (write w) room) u ≡ refusing 1 u = e ∙ written_keeps u w.bytes w.reach r in
            keep (λ i. not_both (calls (write w) room) u refusal (issues_succeeds i))
            (λ p. clash (bits_inside w.reach u.settings.components (passes_within p)) r)
            (ap (λ (o : Outcome). o.unit.nonces) refusal)

by_kind : {c : Act} → Sorted c → (u : TagUnit) → Noncing c u
unfolding own
by_kind (a_read {nonce} {room}) u = reading nonce room u
by_kind (a_write {w} {room}) u = writing w room u
by_kind (a_key {key} {room}) u = untouched (calls (account_key key) room) u (omega arith) (kept_nonce (keeps key u))
by_kind (a_disconnect {room}) u = untouched (calls disconnect room) u (omega arith) (disconnected_nonce (disconnects u))
by_kind (aside {a} k leaves) u = untouched a u (omega arith) (leaves u).nonce

pub noncing : (c : Act) (u : TagUnit) → Noncing c u
noncing c u = by_kind (sorted c) u
