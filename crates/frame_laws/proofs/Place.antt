-- The first wrong byte is where the text stops to begin a frame: a beginning of the text begins a frame exactly if it does not reach beyond that
-- place. It begins the frame that the text claims; and where it begins any, that frame's bytes are the claimed one's up to there.
use Rattle.std.specs.Prelude.{Option, None, Some}
use Prim.Native.Nat.{ℕ, zero, suc, ◌+◌, ◌-◌, ◌≤◌, ◌<◌}
use mathlib.Core.Path.{◌≡◌, refl, sym, ap, ◌∙◌}
use mathlib.Core.Bool.{Bool, true, false, cond, ◌&&◌, ◌||◌}
use mathlib.Core.List.{List, [], ◌∷◌, ◌++◌}
use native.Mathlib.Omega.{arith}
use native.Mathlib.Decide.{dec_lt}
use lib.Dec.{eqb}
use lib.ListN.{length, get_or, take, drop, length-append, take-append-drop, get_or-append}
use lib.Seq.{length-take-le, get_or-take}
use borrow.Author.Tests.{eqb-true, eq-eqb, ne_eqb}
use Rattle.laws.proofs.Flags.{or_left, or_right, both}
use Rattle.frame.specs.Frame.{rendered, length_byte}
use Rattle.frame_reader.specs.Reader.{Parts, frame_of, says_flags, claimed, claimed_frame, first_wrong}
use Rattle.frame_laws.specs.ReadBack.{FrameOf, IsFrame, Begins}
use Rattle.frame_reader.proofs.Common.{same_below_lem, reaches}
use Rattle.frame_reader.proofs.Claims.{behind_head, length_flagged, length_bare}
use Rattle.frame_reader.proofs.Head.{length_right, kind_right}
use Rattle.frame_laws.proofs.RoundTrip.{claimed_is_frame}

-- up to the place the text begins the frame that it claims
pub begins_claimed : (size : ℕ) (text : List ℕ) (i : ℕ) → i ≤ first_wrong size text → Begins (IsFrame size) (take i text)
unfolding first_wrong
begins_claimed size text i h =
    let same : take i text ++ drop i (claimed_frame size text) ≡ claimed_frame size text
    = rw (same_below_lem text (claimed_frame size text) i h) (take-append-drop i (claimed_frame size text)) in
    (drop i (claimed_frame size text), (claimed size text, rw same (claimed_is_frame size text)))

-- a beginning of the text that begins a frame
module _ (size : ℕ) (text : List ℕ) (i : ℕ) (reached : i ≤ length text) (rest : List ℕ) (p : Parts) (f : FrameOf size p (take i text ++ rest)) where
  at : (j : ℕ) → j < i → get_or text j 0 ≡ get_or (frame_of size p) j 0
  at j h =
      sym (get_or-take i text j 0 h)
      ∙ sym (get_or-append (take i text) rest 0 j (omega (arith, length-take-le i text reached)))
      ∙ ap (λ (l : List ℕ). get_or l j 0) f.written

  length_byte_lem : 3 < i → get_or text 3 0 ≡ length_byte size p.flags
  unfolding rendered
  length_byte_lem h = at 3 h

  kind_byte : 7 < i → get_or text 7 0 ≡ cond p.protected 0x41 0x40
  unfolding rendered
  kind_byte h = at 7 h

  shows : 3 < i → (flags : Option ℕ) → p.flags ≡ flags → (eqb (get_or text 3 0) (size + 4) || says_flags size text) ≡ true
  shows h None e = or_left _ (eq-eqb (get_or text 3 0) (size + 4) (rw e at (length_byte_lem h)))
  shows h (Some b) e = or_right (eqb (get_or text 3 0) (size + 4)) (eq-eqb (get_or text 3 0) (size + 5) (rw e at (length_byte_lem h)))

  protects : 7 < i → (on : Bool) → p.protected ≡ on → (flags : Option ℕ) → p.flags ≡ flags
      → (eqb (get_or text 7 0) 0x40 || (eqb (get_or text 7 0) 0x41 && says_flags size text)) ≡ true
  protects h false e flags g = or_left _ (eq-eqb (get_or text 7 0) 0x40 (rw e at (kind_byte h)))
  protects h true e None g = absurd (f.sendable.shown e g)
  protects h true e (Some b) g =
      or_right (eqb (get_or text 7 0) 0x40)
      (both (eq-eqb (get_or text 7 0) 0x41 (rw e at (kind_byte h))) (eq-eqb (get_or text 3 0) (size + 5) (rw g at (length_byte_lem (omega arith)))))

  -- in the head the claimed frame has the same bytes
  in_head : (j : ℕ) → j < i → j < 8 → get_or text j 0 ≡ get_or (claimed_frame size text) j 0
  unfolding rendered
  in_head zero h k = at 0 h
  in_head (suc zero) h k = at 1 h
  in_head (suc (suc zero)) h k = at 2 h
  in_head (suc (suc (suc zero))) h k = eqb-true _ _ (sym (length_right size text) ∙ shows h p.flags refl)
  in_head (suc (suc (suc (suc zero)))) h k = at 4 h
  in_head (suc (suc (suc (suc (suc zero))))) h k = at 5 h
  in_head (suc (suc (suc (suc (suc (suc zero)))))) h k = at 6 h
  in_head (suc (suc (suc (suc (suc (suc (suc zero))))))) h k =
      eqb-true _ _ (sym (kind_right size text) ∙ protects h p.protected refl p.flags refl)
  in_head (suc (suc (suc (suc (suc (suc (suc (suc j)))))))) h k = absurd (omega arith)

  -- and beyond the length byte it is as long
  pub as_long : 3 < i → length (claimed_frame size text) ≡ length (frame_of size p)
  unfolding rendered
  as_long h = go p.flags refl
    where
      go : (flags : Option ℕ) → p.flags ≡ flags → length (claimed_frame size text) ≡ length (frame_of size p)
      go None e =
          let bare = length_bare size text (ne_eqb (get_or text 3 0) (size + 5) (λ q. omega (arith, rw e at (length_byte_lem h)))) in
          rw e (omega (arith, bare, length-append p.identifier [], f.sendable.sized))
      go (Some b) e =
          let flagged = length_flagged size text (eq-eqb (get_or text 3 0) (size + 5) (rw e at (length_byte_lem h))) in
          rw e (omega (arith, flagged, length-append p.identifier (b ∷ []), f.sendable.sized))

  fits : i ≤ length (frame_of size p)
  fits = omega (arith, length-append (take i text) rest, length-take-le i text reached, ap length f.written)

  fits_claimed : i ≤ length (claimed_frame size text)
  unfolding rendered
  fits_claimed = go (dec_lt 3 i)
    where
      go : Dec (3 < i) → i ≤ length (claimed_frame size text)
      go (yes h) = omega (arith, as_long h, fits)
      go (no h) = omega arith

  pub not_beyond : i ≤ first_wrong size text
  unfolding first_wrong
  not_beyond = reaches text (claimed_frame size text) i reached fits_claimed (λ j h. same j h (dec_lt j 8))
    where
      same : (j : ℕ) → j < i → Dec (j < 8) → get_or text j 0 ≡ get_or (claimed_frame size text) j 0
      same j h (yes k) = in_head j h k
      same j h (no k) =
          let e : 8 + (j - 8) ≡ j = omega arith in
          rw e at (behind_head size text (j - 8) (omega arith) (omega (arith, fits_claimed)))
