-- What the call `frame` gives is rendered from the unit's parts, which can be sent; so it reads back.
use Prim.Native.Nat.{ℕ, ◌≤◌}
use mathlib.Core.Path.{◌≡◌, refl, sym, ap, ◌∙◌}
use mathlib.Core.Bool.{Bool, true, false, cond}
use mathlib.Core.List.{List}
use native.Mathlib.Omega.{arith}
use Rattle.laws.specs.Answer.{Result, gives, refuses}
use Rattle.laws.proofs.Flags.{true_or_false}
use Rattle.unit.specs.declared.TagUnit.{TagUnit}
use Rattle.unit.specs.declared.Protection.{Protection}
use Rattle.standing.specs.Standing.{stands, current_identifier, current_r}
use Rattle.unit.specs.WellFormed.{well_formed}
use Rattle.unit.specs.Outcome.{Outcome, giving, refusing}
use Rattle.unit.proofs.Lines.{lines}
use Rattle.frame.specs.Frame.{rendered, flags_for}
use Rattle.frame_laws.proofs.RoundTrip.{frame_reads}
use Rattle.frame_laws.proofs.ReadBack.{read_back}
use Rattle.frame_laws.proofs.WithR.{read_back_with_r}
use Rattle.advertising.specs.Showing.{protected, showing}
use Rattle.tag.specs.Calls.{frame, own, calls}
use Rattle.demanded_answers.specs.EphemeralIdentifier.{identifier_of, cut_r}
use Rattle.demanded_answers.specs.History.{step}
use Rattle.demanded_answers.specs.FrameRead.{is_protected, ReadsToUnit, FrameRead}
use Rattle.demanded_answers.proofs.EphemeralIdentifier.{identifier_is_lem, cut_is, length_low_bytes}
use Rattle.demanded_answers.proofs.Guards.{Met, barred, passed, met}

abbrev sent : TagUnit → List ℕ
sent u =
    rendered 20 (identifier_of u) (is_protected u.protection) (flags_for u.battery (is_protected u.protection) (cut_r u))

same_protection : (p : Protection) → protected p ≡ is_protected p
same_protection Protection.Off = refl
same_protection (Protection.On skip) = refl

-- the frame that a unit shows
shows_sent : (u : TagUnit) (text : List ℕ) → (showing u).result ≡ gives text → sent u ≡ text
unfolding showing
shows_sent u text e = go (stands u) e
  where
    made : List ℕ
    made = rendered 20 (current_identifier u) (protected u.protection) (flags_for u.battery (protected u.protection) (current_r u))

    go : (s : Bool) → (cond s (giving made u) (refusing 5 u)).result ≡ gives text → sent u ≡ text
    go true q = let same : made ≡ text = cc in rw (← same_protection u.protection, ← identifier_is_lem u, ← cut_is u) same
    go false q = let z : ◌≡◌ {A = ℕ} 0 1 = cc in absurd (omega arith)

-- it passed the guards
sent_by : (u : TagUnit) (room : ℕ) (text : List ℕ) → (step (calls frame room) u).result ≡ gives text → (sent u ≡ text) × (u.battery ≤ 3)
unfolding own
sent_by u room text e = go (met (calls frame room) u)
  where
    go : Met (calls frame room) u → (sent u ≡ text) × (u.battery ≤ 3)
    go (barred n q none) =
        let refusal : refuses n ≡ gives text = sym (ap (λ (o : Outcome). o.result) q) ∙ e in
        let z : ◌≡◌ {A = ℕ} 0 1 = cc in
        absurd (omega arith)
    go (passed fits right q) =
        (shows_sent u text (sym (ap (λ (o : Outcome). o.result) q) ∙ e), (lines u right).battery)

sent_reads_lem : (u : TagUnit) (room : ℕ) (text : List ℕ) → (step (calls frame room) u).result ≡ gives text → ReadsToUnit u text
sent_reads_lem u room text e =
    let made = sent_by u room text e in
    let on = is_protected u.protection in
    let opened = rw made.0 at ((read_back_with_r 20 (cut_r u)).written_reads (length_low_bytes 20 _) (identifier_of u) on u.battery (length_low_bytes 20 _) made.1) in
    let frame = ((read_back_with_r 20 (cut_r u)).read_written text _ opened).1.frame in
    record { flags = flags_for u.battery on (cut_r u); read = frame_reads 20 text (_, frame); read_with_r = opened }

pub frame_read : FrameRead
frame_read = record { sent_reads = sent_reads_lem; any_text = read_back 20; any_text_with_r = read_back_with_r 20; byte_refusal = refl; size_refusal = refl }
