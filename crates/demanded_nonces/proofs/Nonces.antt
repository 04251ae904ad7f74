-- Each issue of a nonce authenticates at most one write. From any unit, by the law of what a call does to the nonce (Noncing): a nonce that
-- is live after a history was issued in it by a read that nothing later spent or replaced, or was live before and the history was quiet;
-- and a quiet history keeps the nonce. What tag an accepted write had is in Granted.
use Prim.Native.Nat.{ℕ}
use mathlib.Core.Path.{◌≡◌, refl, sym, ap, subst, ◌∙◌}
use mathlib.Core.Bool.{true, false, false≢true}
use mathlib.Core.List.{List, [], ◌∷◌, ◌++◌}
use mathlib.Core.Logic.{◌⊎◌, inl, inr}
use Rattle.laws.proofs.Flags.{clash}
use Rattle.laws.proofs.Same.{same_equal}
use Rattle.wire.specs.Signing.{request_tag}
use Rattle.wire.specs.Shape.{parsed}
use Rattle.authentication.specs.Judgement.{tagged}
use Rattle.unit.specs.declared.TagUnit.{TagUnit}
use Rattle.unit.specs.declared.Settings.{Settings}
use Rattle.nonces.specs.declared.Nonces.{Nonces}
use Rattle.nonces.specs.Nonces.{with_issued}
use Rattle.unit.specs.Change.{fresh, spent}
use Rattle.tag.specs.Calls.{Written, read, write, Act, calls}
use Rattle.demanded_answers.specs.History.{step, after, Succeeds}
use Rattle.demanded_nonces.specs.Nonces.{PassesGuards, passes, Issues, issues, Quiet, Issue, MayTag, parameters, state, key_set, cleared, recovery, ring, sound_state, protected, unprotected, Authenticated, tagged as tagged_with, skipped, Demand2Nonces}
use Rattle.demanded_nonces.proofs.WritesOnSound.{Authorised, signed_by, unasked, admitted}
use Rattle.demanded_answers.proofs.MaskBits.{inside_bits}
use Rattle.demanded_nonces.proofs.CallsOnNonce.{Noncing, issue, spend, keep, noncing}
use Rattle.demanded_nonces.proofs.Histories.{after_append}

-- One call earlier
earlier : (c : Act) (u : TagUnit) (h : List Act) (nonce : List ℕ) → Issue (step c u).unit h nonce → Issue u (c ∷ h) nonce
unfolding after
earlier c u h nonce i =
    record {
      before = c ∷ i.before;
      room = i.room;
      later = i.later;
      split = ap (λ (l : List Act). c ∷ l) i.split;
      succeeded = i.succeeded;
      quiet = i.quiet;
    }

abbrev Live : TagUnit → Type 0
Live u = u.nonces.live ≡ true

-- A nonce that is live was issued in the history, or before it
abbrev Source : TagUnit → List Act → Type 0
Source u h = ((nonce : List ℕ) × Issue u h nonce) ⊎ (Live u × Quiet h u)

before_call : (c : Act) (u : TagUnit) (h : List Act) → Noncing c u → Source (step c u).unit h → Source u (c ∷ h)
unfolding after
before_call c u h n (inl (nonce, i)) = inl (nonce, earlier c u h nonce i)
before_call c u h (issue {nonce} {room} s f e) (inr (l, q)) =
    inl (nonce, record { before = []; room = room; later = h; split = refl; succeeded = s; quiet = q })
before_call c u h (spend p e) (inr (l, q)) = absurd (clash l (ap (λ (n : Nonces). n.live) e))
before_call c u h (keep i p e) (inr (l, q)) = inr (sym (ap (λ (n : Nonces). n.live) e) ∙ l, (i, p, q))

source : (h : List Act) (u : TagUnit) → Live (after h u) → Source u h
unfolding after
source [] u l = inr (l, tt)
source (c ∷ h) u l = before_call c u h (noncing c u) (source h (step c u).unit l)

-- A quiet history keeps the nonce
quiet_call : (c : Act) (u : TagUnit) → Noncing c u → (Issues c u → ⊥) → (PassesGuards c u → ⊥) → (step c u).unit.nonces ≡ u.nonces
quiet_call c u (issue s f e) i p = absurd (i (issues s))
quiet_call c u (spend s e) i p = absurd (p s)
quiet_call c u (keep j q e) i p = e

quiet_keeps : (h : List Act) (u : TagUnit) → Quiet h u → (after h u).nonces ≡ u.nonces
unfolding after
quiet_keeps [] u q = refl
quiet_keeps (c ∷ h) u (i, p, q) = quiet_keeps h (step c u).unit q ∙ quiet_call c u (noncing c u) i p

read_issues : {nonce : List ℕ} {room : ℕ} {u : TagUnit} → Noncing (calls (read nonce) room) u → Succeeds (calls (read nonce) room) u
    → (step (calls (read nonce) room) u).unit.nonces ≡ with_issued nonce u.nonces
read_issues (issue s f e) t = e
read_issues (keep i p e) t = absurd (i (issues t))

issue_holds : (u : TagUnit) (h : List Act) (nonce : List ℕ) → (i : Issue u h nonce) → (after h u).nonces ≡ with_issued nonce (after i.before u).nonces
unfolding after
issue_holds u h nonce i =
    let then = after i.before u in
    ap (λ (l : List Act). (after l u).nonces) i.split
    ∙ ap (λ (v : TagUnit). v.nonces) (after_append i.before (calls (read nonce) i.room ∷ i.later) u)
    ∙ quiet_keeps i.later (step (calls (read nonce) i.room) then).unit i.quiet
    ∙ read_issues (noncing (calls (read nonce) i.room) then) i.succeeded

write_spends : {w : Written} {room : ℕ} {u : TagUnit} → Noncing (calls (write w) room) u → PassesGuards (calls (write w) room) u
    → (step (calls (write w) room) u).unit.nonces.live ≡ false
write_spends (spend s e) p = ap (λ (n : Nonces). n.live) e
write_spends (keep i q e) p = absurd (q p)

from_fresh : (s : Settings) (h : List Act) → Source (fresh s) h → (nonce : List ℕ) × Issue (fresh s) h nonce
from_fresh s h (inl found) = found
from_fresh s h (inr (l, q)) = absurd (false≢true l)

-- The keys are those of the unit before its nonce was spent
before_spent : {u : TagUnit} {id : ℕ} {key : List ℕ} → MayTag (spent u) id key → MayTag u id key
before_spent (parameters p below) = parameters p below
before_spent (state p below) = state p below
before_spent (key_set o) = key_set o
before_spent (cleared o) = cleared o
before_spent recovery = recovery
before_spent ring = ring
before_spent sound_state = sound_state
before_spent protected = protected
before_spent unprotected = unprotected

-- The tag that a write was judged by, in the bytes of the write
authenticated : (u : TagUnit) (w : List ℕ) → Authorised (spent u) (parsed w) → Authenticated u w u.nonces.newest
unfolding parsed tagged request_tag
authenticated u w (signed_by key may t) = tagged_with key (before_spent may) (sym (same_equal _ _ t))
authenticated u w (unasked is_ring skip) = skipped is_ring skip

accepted_with : (u : TagUnit) (w : Written) (room : ℕ) → Succeeds (calls (write w) room) u → Authenticated u w.bytes u.nonces.newest
accepted_with u w room (answer, r) = authenticated u w.bytes (admitted w room u answer r).authorised

accepted_live : (u : TagUnit) (w : Written) (room : ℕ) → Succeeds (calls (write w) room) u → Live u
accepted_live u w room (answer, r) = (admitted w room u answer r).live

accepted_passes : (u : TagUnit) (w : Written) (room : ℕ) → Succeeds (calls (write w) room) u → PassesGuards (calls (write w) room) u
accepted_passes u w room (answer, r) =
    let a = admitted w room u answer r in passes a.fits a.formed (inside_bits w.reach u.settings.components a.within)

-- Every accepted write was judged with the nonce of the last issue
owned : (u : TagUnit) (h : List Act) (w : Written) (room : ℕ) → ((after h u).nonces.live ≡ true → (nonce : List ℕ) × Issue u h nonce)
    → Succeeds (calls (write w) room) (after h u)
    → (nonce : List ℕ) × Issue u h nonce × Authenticated (after h u) w.bytes nonce
owned u h w room issued accepted =
    let then = after h u in
    let found = issued (accepted_live then w room accepted) in
    let same : then.nonces.newest ≡ found.0 = ap (λ (n : Nonces). n.newest) (issue_holds u h found.0 found.1) in
    (found.0, found.1, subst (λ (n : List ℕ). Authenticated then w.bytes n) same (accepted_with then w room accepted))

-- After a write that passed 6 and 2 a live nonce was issued since
since : (u : TagUnit) (c : Act) (h : List Act) → (step c u).unit.nonces.live ≡ false → (after h (step c u).unit).nonces.live ≡ true
    → (nonce : List ℕ) × Issue (step c u).unit h nonce
since u c h spent l = go (source h (step c u).unit l)
  where
    go : Source (step c u).unit h → (nonce : List ℕ) × Issue (step c u).unit h nonce
    go (inl found) = found
    go (inr (live, q)) = absurd (clash live spent)

separate : (u : TagUnit) (v : Written) (firstRoom : ℕ) (h : List Act) (w : Written) (room : ℕ) → Succeeds (calls (write v) firstRoom) u
    → Succeeds (calls (write w) room) (after h (step (calls (write v) firstRoom) u).unit)
    → (nonce : List ℕ)
    × Issue (step (calls (write v) firstRoom) u).unit h nonce
    × Authenticated (after h (step (calls (write v) firstRoom) u).unit) w.bytes nonce
separate u v firstRoom h w room earlier accepted =
    let first = calls (write v) firstRoom in
    owned (step first u).unit h w room
    (since u first h (write_spends (noncing first u) (accepted_passes u v firstRoom earlier)))
    accepted

pub nonces : Demand2Nonces
unfolding after
nonces =
    record {
      live = λ s h l. from_fresh s h (source h (fresh s) l);
      issued = λ s h nonce i. ap (λ (n : Nonces). n.live) (issue_holds (fresh s) h nonce i);
      whose = λ s h nonce i. ap (λ (n : Nonces). n.newest) (issue_holds (fresh s) h nonce i);
      own = λ s h w room accepted. owned (fresh s) h w room (λ l. from_fresh s h (source h (fresh s) l)) accepted;
      once =
          λ s h w room p l.
          clash (sym (ap (λ (v : TagUnit). v.nonces.live) (after_append h (calls (write w) room ∷ []) (fresh s))) ∙ l)
          (write_spends (noncing (calls (write w) room) (after h (fresh s))) p);
      between =
          λ s g v firstRoom h w room earlier accepted.
          let first = calls (write v) firstRoom in
          let then : after (g ++ (first ∷ [])) (fresh s) ≡ (step first (after g (fresh s))).unit = after_append g (first ∷ []) (fresh s) in
          let last : after (g ++ (first ∷ h)) (fresh s) ≡ after h (step first (after g (fresh s))).unit = after_append g (first ∷ h) (fresh s) in
          let found =
          separate (after g (fresh s)) v firstRoom h w room earlier (subst (λ (u : TagUnit). Succeeds (calls (write w) room) u) last accepted) in (
            found.0,
            subst (λ (u : TagUnit). Issue u h found.0) (sym then) found.1,
            subst (λ (u : TagUnit). Authenticated u w.bytes found.0) (sym last) found.2,
          );
    }
