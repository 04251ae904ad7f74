-- What is read, by the first wrong byte and the text's length: a wrong head is refused at its place; behind a right head only the length counts.
use Rattle.std.specs.Prelude.{None, Some}
use Prim.Native.Nat.{ℕ, ◌+◌, ◌-◌, ◌≤◌, ◌<◌}
use mathlib.Core.Path.{◌≡◌, refl, ap, ◌∙◌}
use mathlib.Core.Logic.{◌⊎◌, inl, inr}
use mathlib.Core.Bool.{Bool, true, false, cond}
use mathlib.Core.List.{List}
use native.Mathlib.Omega.{arith}
use native.Mathlib.Decide.{dec_lt}
use lib.Dec.{eqb}
use lib.ListN.{length, get_or, take, drop, replicate, length-drop}
use lib.Seq.{take-append-le}
use Rattle.laws.specs.Bytes.{same_bytes}
use Rattle.laws.proofs.Flags.{true_or_false}
use Rattle.laws.proofs.Same.{same_equal}
use Rattle.frame.specs.Frame.{rendered}
use Rattle.frame_reader.specs.Reader.{Parts, reads, refused, says_flags, claimed, claimed_frame, first_wrong, read_frame}
use Rattle.frame_reader.proofs.Common.{within_right, same_at, reaches, all_common, not_all_common}
use Rattle.frame_reader.proofs.Claims.{behind_head, wrong_within, length_flagged, length_bare}

module _ (size : ℕ) (text : List ℕ) where
  pub refused_at : (first_wrong size text < length text) ⊎ (first_wrong size text < length (claimed_frame size text))
      → read_frame size text ≡ refused 8 (first_wrong size text)
  unfolding read_frame first_wrong
  refused_at h = rw (not_all_common text (claimed_frame size text) h)

  pub wrong_head : first_wrong size text < 8 → read_frame size text ≡ refused 8 (first_wrong size text)
  unfolding rendered
  wrong_head h = refused_at (inr (omega arith))

  module _ (right : 8 ≤ first_wrong size text) where
    same_byte : (j : ℕ) → j < length text → j < length (claimed_frame size text) → get_or text j 0 ≡ get_or (claimed_frame size text) j 0
    unfolding first_wrong
    same_byte j l k = go (dec_lt j 8)
      where
        go : Dec (j < 8) → get_or text j 0 ≡ get_or (claimed_frame size text) j 0
        go (yes p) = same_at text (claimed_frame size text) j (omega arith)
        go (no q) =
            let e : 8 + (j - 8) ≡ j = omega arith in
            rw e at (behind_head size text (j - 8) (omega arith) (omega arith))

    all_right : (n : ℕ) → n ≤ length text → n ≤ length (claimed_frame size text) → n ≤ first_wrong size text
    unfolding first_wrong
    all_right n l k = reaches text (claimed_frame size text) n l k (λ j h. same_byte j (omega arith) (omega arith))

    within : first_wrong size text ≤ length (claimed_frame size text)
    unfolding first_wrong
    within = within_right text (claimed_frame size text)

    pub cut_short : length text < length (claimed_frame size text) → read_frame size text ≡ refused 8 (length text)
    cut_short h =
        let e : first_wrong size text ≡ length text = omega (arith, wrong_within size text, all_right (length text) (omega arith) (omega arith)) in
        refused_at (inr (omega arith)) ∙ ap (refused 8) e

    pub too_long : length (claimed_frame size text) < length text → read_frame size text ≡ refused 8 (length (claimed_frame size text))
    too_long h =
        let e : first_wrong size text ≡ length (claimed_frame size text)
        = omega (arith, within, all_right (length (claimed_frame size text)) (omega arith) (omega arith)) in
        refused_at (inl (omega arith)) ∙ ap (refused 8) e

    pub complete : length text ≡ length (claimed_frame size text) → read_frame size text ≡ reads (claimed size text)
    unfolding read_frame first_wrong
    complete h =
        rw (all_common text (claimed_frame size text) (omega (arith, wrong_within size text, all_right (length text) (omega arith) (omega arith))) h)

-- what a text claims, by its length byte
pub claims_bare : (size : ℕ) (text : List ℕ) → says_flags size text ≡ false
    → claimed size text ≡ record { identifier = (claimed size text).identifier; protected = false; flags = None }
unfolding claimed
claims_bare size text e = rw e

pub claims_flagged : (size : ℕ) (text : List ℕ) → says_flags size text ≡ true
    → claimed size text
    ≡ record { identifier = (claimed size text).identifier; protected = eqb (get_or text 7 0) 0x41; flags = Some (get_or text (8 + size) 0) }
unfolding claimed
claims_flagged size text e = rw e

-- a text that reads is the frame that it claims, to the parts that it claims; so its identifier stands behind its head
module _ (size : ℕ) (text : List ℕ) where
  read_cases : (s : Bool) (p : Parts) → cond s (reads (claimed size text)) (refused 8 (first_wrong size text)) ≡ reads p
      → (s ≡ true) × (claimed size text ≡ p)
  read_cases true p e = (refl, cc)
  read_cases false p e = let z : ◌≡◌ {A = ℕ} 0 1 = cc in absurd (omega arith)

  pub read_whole : (p : Parts) → read_frame size text ≡ reads p → (text ≡ claimed_frame size text) × (claimed size text ≡ p)
  unfolding read_frame
  read_whole p e =
      let both = read_cases (same_bytes text (claimed_frame size text)) p e in
      (same_equal text (claimed_frame size text) both.0, both.1)

  pub read_long : (p : Parts) → read_frame size text ≡ reads p → 8 + size ≤ length text
  read_long p e = go (true_or_false (says_flags size text))
    where
      long : length text ≡ length (claimed_frame size text)
      long = ap length (read_whole p e).0

      go : (says_flags size text ≡ true) ⊎ (says_flags size text ≡ false) → 8 + size ≤ length text
      go (inl s) = omega (arith, long, length_flagged size text s)
      go (inr s) = omega (arith, long, length_bare size text s)

  pub claims_identifier : 8 + size ≤ length text → (claimed size text).identifier ≡ take size (drop 8 text)
  unfolding claimed
  claims_identifier h = take-append-le size (drop 8 text) (replicate size 0) (omega (arith, length-drop 8 text))
