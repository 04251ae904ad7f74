-- The reader matches the writer: both round trips, and refused exactly at the first wrong byte.
use Prim.Native.Nat.{ℕ, ◌+◌, ◌≤◌, ◌<◌}
use mathlib.Core.Path.{◌≡◌, refl, ap, ◌∙◌}
use mathlib.Core.Logic.{◌⊎◌, inl, inr}
use mathlib.Core.Bool.{Bool, true, false, cond}
use mathlib.Core.List.{List, [], ◌∷◌, ◌++◌, append-nil}
use native.Mathlib.Omega.{arith}
use native.Mathlib.Decide.{dec_lt}
use lib.ListN.{length, get_or, take, length-append, get_or-append}
use lib.Seq.{take_all}
use Rattle.laws.specs.Bytes.{same_bytes}
use Rattle.laws.proofs.Flags.{true_or_false}
use Rattle.laws.proofs.Same.{same_differ}
use Rattle.frame_reader.specs.Reader.{Parts, Reading, reads, refused, says_flags, claimed, claimed_frame, first_wrong, read_frame}
use Rattle.frame_laws.specs.ReadBack.{IsFrame, Begins, FirstWrongAt, ReadBack}
use Rattle.frame_reader.proofs.Claims.{wrong_within, length_flagged, length_bare}
use Rattle.frame_reader.proofs.Whole.{read_whole, read_long}
use Rattle.frame_laws.proofs.FirstWrong.{one_place, none_in_a_frame}
use Rattle.frame_laws.proofs.RoundTrip.{written_reads_lem, read_written_lem, frame_reads}
use Rattle.frame_laws.proofs.Place.{begins_claimed, not_beyond}

-- no frame begins another: the length byte says how long it is
no_more : (l rest : List ℕ) → length (l ++ rest) ≡ length l → rest ≡ []
no_more l [] e = refl
no_more l (x ∷ xs) e = absurd (omega (arith, length-append l (x ∷ xs)))

module _ (size : ℕ) where
  claimed_length : (text : List ℕ) (p : Parts) → read_frame size text ≡ reads p → length text ≡ length (claimed_frame size text)
  claimed_length text p e = ap length (read_whole size text p e).0

  pub apart : (text rest : List ℕ) → IsFrame size text → IsFrame size (text ++ rest) → rest ≡ []
  apart text rest f g = no_more text rest (go (true_or_false (says_flags size text)))
    where
      one : length text ≡ length (claimed_frame size text)
      one = claimed_length text f.0 (frame_reads size text f)

      two : length (text ++ rest) ≡ length (claimed_frame size (text ++ rest))
      two = claimed_length (text ++ rest) g.0 (frame_reads size (text ++ rest) g)

      same : get_or (text ++ rest) 3 0 ≡ get_or text 3 0
      same = get_or-append text rest 0 3 (omega (arith, read_long size text f.0 (frame_reads size text f)))

      go : (says_flags size text ≡ true) ⊎ (says_flags size text ≡ false) → length (text ++ rest) ≡ length text
      go (inl s) = omega (arith, one, two, length_flagged size text s, length_flagged size (text ++ rest) (rw same s))
      go (inr s) = omega (arith, one, two, length_bare size text s, length_bare size (text ++ rest) (rw same s))

  module _ (text : List ℕ) where
    refused_cases : (s : Bool) (number place : ℕ)
        → cond s (reads (claimed size text)) (refused 8 (first_wrong size text)) ≡ refused number place
        → (s ≡ false) × (number ≡ 8) × (place ≡ first_wrong size text)
    refused_cases true number place e = let z : ◌≡◌ {A = ℕ} 0 1 = cc in absurd (omega arith)
    refused_cases false number place e = (refl, cc, cc)

    begins_no_more : (i : ℕ) → i < length text → first_wrong size text ≤ i → Begins (IsFrame size) (take (i + 1) text) → ⊥
    begins_no_more i h k b = omega (arith, not_beyond size text (i + 1) (omega arith) b.0 b.1.0 b.1.1)

    no_frame_lem : same_bytes text (claimed_frame size text) ≡ false → IsFrame size text → ⊥
    no_frame_lem d f = same_differ text (claimed_frame size text) d (read_whole size text f.0 (frame_reads size text f)).0

    wrong_there : same_bytes text (claimed_frame size text) ≡ false → FirstWrongAt (IsFrame size) text (first_wrong size text)
    wrong_there d = go (dec_lt (first_wrong size text) (length text))
      where
        go : Dec (first_wrong size text < length text) → FirstWrongAt (IsFrame size) text (first_wrong size text)
        go (yes h) =
            inl (record {
              inside = h;
              begins = begins_claimed size text (first_wrong size text) (omega arith);
              begins_none = begins_no_more (first_wrong size text) h (omega arith);
            })
        go (no h) =
            let b = begins_claimed size text (length text) (omega arith) in
            let frame : IsFrame size (text ++ b.0) = rw (take_all (length text) text (omega arith)) at b.1 in
            inr (record {
              at_end = omega (arith, wrong_within size text);
              rest = b.0;
              missing = λ e. no_frame_lem d (rw (e, append-nil) at frame);
              begins = frame;
            })

    pub refused_there_lem : (number place : ℕ) → read_frame size text ≡ refused number place
        → (number ≡ 8) × FirstWrongAt (IsFrame size) text place
    unfolding read_frame
    refused_there_lem number place e =
        let c = refused_cases (same_bytes text (claimed_frame size text)) number place e in
        (c.1, rw c.2 (wrong_there c.0))

    pub there_refused_lem : (place : ℕ) → FirstWrongAt (IsFrame size) text place → read_frame size text ≡ refused 8 place
    there_refused_lem place w = go (read_frame size text) refl
      where
        go : (x : Reading Parts) → read_frame size text ≡ x → read_frame size text ≡ refused 8 place
        go (reads p) e = absurd (none_in_a_frame (IsFrame size) text (λ rest. apart text rest) (p, read_written_lem size text p e) place w)
        go (refused number i) e =
            let there = refused_there_lem number i e in
            let same : i ≡ place = one_place (IsFrame size) text i place there.1 w in
            let eight : number ≡ 8 = there.0 in
            e ∙ rw (same, eight)

  pub read_back : ReadBack size
  read_back =
      record {
        written_reads = written_reads_lem size;
        read_written = read_written_lem size;
        refused_there = refused_there_lem;
        there_refused = there_refused_lem;
      }
