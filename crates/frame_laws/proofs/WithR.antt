-- With r: a frame of this r reads to its battery level, what reads is one, and of a text that reads the flags byte is the first wrong byte where
-- it is no level's, since another byte in its place makes a frame of this r.
use Rattle.std.specs.Prelude.{Option, None, Some}
use Prim.Native.Nat.{ℕ, ◌+◌, ◌≤◌}
use mathlib.Core.Path.{◌≡◌, refl, sym, ap, ◌∙◌}
use mathlib.Core.Logic.{inl}
use mathlib.Core.Bool.{Bool, true, false, cond, not}
use mathlib.Core.List.{List, [], ◌∷◌, ◌++◌, append-nil}
use native.Mathlib.Omega.{arith}
use lib.Dec.{eqb}
use lib.ListN.{length, take, length-append}
use lib.Seq.{take_all, take_at}
use lib.Bits.{bit_xor}
use borrow.Author.Tests.{eqb-true, eq-eqb, ne_eqb}
use Rattle.laws.proofs.Flags.{and_fails_right}
use Rattle.laws.proofs.Xor.{xor_cancel}
use Rattle.frame.specs.Frame.{rendered, flags_mask, flags_for}
use Rattle.frame_reader.specs.Reader.{Parts, Reading, reads, refused, read_frame}
use Rattle.frame_opener.specs.Opener.{Opened, read_frame_with_r, with_r, opened_by, unmasked, flags_right, battery_level}
use Rattle.frame_laws.specs.ReadBack.{Sendable, FrameOf, FrameWithR, IsFrameWithR, WrongInside, FirstWrongAt, ReadBackWithR}
use Rattle.frame_laws.proofs.FirstWrong.{one_place, none_in_a_frame}
use Rattle.frame_laws.proofs.RoundTrip.{read_written_lem, frame_reads}
use Rattle.frame_laws.proofs.ReadBack.{apart}
use Rattle.frame_laws.proofs.Flagged.{right_level, opens}

module _ (size : ℕ) (r : List ℕ) where
  frame_first_lem : (text : List ℕ) (number place : ℕ) → read_frame size text ≡ refused number place
      → read_frame_with_r size r text ≡ refused number place
  unfolding read_frame_with_r
  frame_first_lem text number place e = rw e

  then_size_lem : (text : List ℕ) (p : Parts) → read_frame size text ≡ reads p → (length r ≡ size → ⊥) → read_frame_with_r size r text ≡ refused 1 0
  unfolding read_frame_with_r
  then_size_lem text p e h = rw (e, ne_eqb (length r) size h)

  then_flags : (text : List ℕ) (p : Parts) → read_frame size text ≡ reads p → length r ≡ size
      → read_frame_with_r size r text ≡ opened_by r size p p.flags
  unfolding read_frame_with_r
  then_flags text p e h = rw (e, eq-eqb (length r) size h)

  -- the flags byte of a level is never left out under protection
  level_shown : (battery : ℕ) (on : Bool) → on ≡ true → flags_for battery on r ≡ None → ⊥
  unfolding flags_for
  level_shown battery on t e =
      let shown = rw (and_fails_right (eqb battery 0) (ap not t)) at e in
      let z : ◌≡◌ {A = ℕ} 0 1 = cc in
      omega arith

  frame_with_r_reads : length r ≡ size → (text : List ℕ) (o : Opened) → FrameWithR size r o text → read_frame_with_r size r text ≡ reads o
  frame_with_r_reads h text o f =
      then_flags text o.parts (frame_reads size text (o.parts, f.frame)) h
      ∙ ap (opened_by r size o.parts) f.flags_are
      ∙ opens r size o.parts o.battery f.level

  written_reads_lem : length r ≡ size → (id : List ℕ) (on : Bool) (battery : ℕ) → length id ≡ size → battery ≤ 3
      → read_frame_with_r size r (rendered size id on (flags_for battery on r))
      ≡ reads (record { parts = record { identifier = id; protected = on; flags = flags_for battery on r }; battery = battery })
  written_reads_lem h id on battery l k =
      frame_with_r_reads h _ _
      (record {
        frame = record { sendable = record { sized = l; shown = level_shown battery on }; written = refl };
        level = k;
        flags_are = refl;
      })

  -- what r opens is a frame of this r
  left_out : (on : Bool) → (on ≡ true → ⊥) → None ≡ flags_for 0 on r
  unfolding flags_for
  left_out true h = absurd (h refl)
  left_out false h = refl

  shown : (on : Bool) (b : ℕ) → flags_right on (unmasked r b) ≡ true
      → (battery_level (unmasked r b) ≤ 3) × (Some b ≡ flags_for (battery_level (unmasked r b)) on r)
  unfolding flags_for
  shown on b e =
      let level = right_level on (unmasked r b) e in
      (level.0, rw (level.2, ← level.1) (ap Some (sym (xor_cancel b (flags_mask r)))))

  opened : (p : Parts) (flags : Option ℕ) → p.flags ≡ flags → Sendable size p → (o : Opened) → opened_by r size p flags ≡ reads o
      → (p ≡ o.parts) × (o.battery ≤ 3) × (p.flags ≡ flags_for o.battery p.protected r)
  unfolding opened_by
  opened p None e s o q =
      let level : 0 ≡ o.battery = cc in
      (cc, omega arith, e ∙ rw (← level) (left_out p.protected (λ on. s.shown on e)))
  opened p (Some b) e s o q = go (flags_right p.protected (unmasked r b)) refl q
    where
      go : (t : Bool) → flags_right p.protected (unmasked r b) ≡ t
          → cond t (reads (record { parts = p; battery = battery_level (unmasked r b) })) (refused 8 (8 + size)) ≡ reads o
          → (p ≡ o.parts) × (o.battery ≤ 3) × (p.flags ≡ flags_for o.battery p.protected r)
      go true t q =
          let level : battery_level (unmasked r b) ≡ o.battery = cc in
          let right = shown p.protected b t in
          (cc, rw (← level) right.0, e ∙ rw (← level) right.1)
      go false t q = let z : ◌≡◌ {A = ℕ} 0 1 = cc in absurd (omega arith)

  read_written_with_r : (text : List ℕ) (o : Opened) → read_frame_with_r size r text ≡ reads o → (length r ≡ size) × FrameWithR size r o text
  unfolding read_frame_with_r
  read_written_with_r text o e = go (read_frame size text) refl e
    where
      sized : (p : Parts) → FrameOf size p text → (s : Bool) → eqb (length r) size ≡ s
          → cond s (opened_by r size p p.flags) (refused 1 0) ≡ reads o → (length r ≡ size) × FrameWithR size r o text
      sized p f true t q =
          let all = opened p p.flags refl f.sendable o q in
          (eqb-true (length r) size t, record { frame = rw all.0 at f; level = all.1; flags_are = rw all.0 at all.2 })
      sized p f false t q = let z : ◌≡◌ {A = ℕ} 0 1 = cc in absurd (omega arith)

      go : (x : Reading Parts) → read_frame size text ≡ x → with_r r size x ≡ reads o → (length r ≡ size) × FrameWithR size r o text
      go (reads p) f q = sized p (read_written_lem size text p f) (eqb (length r) size) refl q
      go (refused number place) f q = let z : ◌≡◌ {A = ℕ} 0 1 = cc in absurd (omega arith)

  -- the other way: what r refuses of a frame is its flags byte, and another in its place makes a frame of this r
  not_opened : (p : Parts) (flags : Option ℕ) → p.flags ≡ flags → (number place : ℕ) → opened_by r size p flags ≡ refused number place
      → (number ≡ 8) × (place ≡ 8 + size) × ((b : ℕ) × (p.flags ≡ Some b))
  unfolding opened_by
  not_opened p None e number place q = let z : ◌≡◌ {A = ℕ} 0 1 = cc in absurd (omega arith)
  not_opened p (Some b) e number place q = go (flags_right p.protected (unmasked r b)) q
    where
      go : (t : Bool)
          → cond {A = Reading Opened} t (reads (record { parts = p; battery = battery_level (unmasked r b) })) (refused 8 (8 + size)) ≡ refused number place
          → (number ≡ 8) × (place ≡ 8 + size) × ((c : ℕ) × (p.flags ≡ Some c))
      go true q = let z : ◌≡◌ {A = ℕ} 0 1 = cc in absurd (omega arith)
      go false q = (cc, cc, (b, e))

  -- a flags byte of this r under each protection
  some_level : (on : Bool) → (battery : ℕ) × (b : ℕ) × (battery ≤ 3) × (flags_for battery on r ≡ Some b)
  unfolding flags_for
  some_level true = (0, bit_xor 1 (flags_mask r), omega arith, refl)
  some_level false = (1, bit_xor 2 (flags_mask r), omega arith, refl)

  front : List ℕ → Bool → List ℕ
  front id on = 0x02 ∷ 0x01 ∷ 0x06 ∷ (size + 5) ∷ 0x16 ∷ 0xAA ∷ 0xFE ∷ cond on 0x41 0x40 ∷ id

  before_flags : (id : List ℕ) (on : Bool) (b c : ℕ) → length id ≡ size
      → take (8 + size) (rendered size id on (Some b)) ++ (c ∷ []) ≡ rendered size id on (Some c)
  unfolding rendered front
  before_flags id on b c e = ap (λ (l : List ℕ). l ++ (c ∷ [])) (take_at (front id on) (b ∷ []) (8 + size) (omega arith))

  length_shown : (id : List ℕ) (on : Bool) (b : ℕ) → length id ≡ size → length (rendered size id on (Some b)) ≡ 8 + size + 1
  unfolding rendered
  length_shown id on b e = omega (arith, length-append id (b ∷ []))

  module _ (sized : length r ≡ size) (text : List ℕ) (p : Parts) (read : read_frame size text ≡ reads p) where
    frame : FrameOf size p text
    frame = read_written_lem size text p read

    -- a frame of this r that begins with the text is the text
    is_frame_with_r : (rest : List ℕ) → IsFrameWithR size r (text ++ rest) → IsFrameWithR size r text
    is_frame_with_r rest (o, f) =
        let none : rest ≡ [] = apart size text rest (p, frame) (o.parts, f.frame) in
        (o, rw (none, append-nil) at f)

    wrong_flags : (number place : ℕ) → read_frame_with_r size r text ≡ refused number place
        → (number ≡ 8) × FirstWrongAt (IsFrameWithR size r) text place
    wrong_flags number place e =
        let q = not_opened p p.flags refl number place (sym (then_flags text p read sized) ∙ e) in
        (q.0, rw q.1 (inl (there q.2.0 q.2.1)))
      where
        opened_to : ℕ → ℕ → Opened
        opened_to battery c =
            record { parts = record { identifier = p.identifier; protected = p.protected; flags = Some c }; battery = battery }

        of_level : (battery c : ℕ) → battery ≤ 3 → flags_for battery p.protected r ≡ Some c
            → FrameWithR size r (opened_to battery c) (rendered size p.identifier p.protected (Some c))
        of_level battery c h s =
            record {
              frame = record {
                sendable = record { sized = frame.sendable.sized; shown = λ on none. level_shown battery p.protected on (s ∙ none) };
                written = refl;
              };
              level = h;
              flags_are = sym s;
            }

        no_frame_lem : IsFrameWithR size r text → ⊥
        no_frame_lem (o, f) =
            let reads-it = frame_with_r_reads sized text o f in
            let z : ◌≡◌ {A = ℕ} 0 1 = cc in
            omega arith

        there : (b : ℕ) → p.flags ≡ Some b → WrongInside (IsFrameWithR size r) text (8 + size)
        there b s =
            let whole : text ≡ rendered size p.identifier p.protected (Some b) = rw s at frame.written in
            let long : length text ≡ 8 + size + 1
            = rw whole (length_shown p.identifier p.protected b frame.sendable.sized) in
            let other = some_level p.protected in
            let same : take (8 + size) text ++ (other.1 ∷ []) ≡ rendered size p.identifier p.protected (Some other.1)
            = rw whole (before_flags p.identifier p.protected b other.1 frame.sendable.sized) in
            record {
              inside = omega arith;
              begins = (other.1 ∷ [], (opened_to other.0 other.1, rw same (of_level other.0 other.1 other.2 other.3)));
              begins_none = λ more. no_frame_lem (is_frame_with_r more.0 (rw (take_all (8 + size + 1) text (omega arith)) at more.1));
            }

    there_wrong_flags : (place : ℕ) → FirstWrongAt (IsFrameWithR size r) text place → read_frame_with_r size r text ≡ refused 8 place
    there_wrong_flags place w = go (read_frame_with_r size r text) refl
      where
        go : (x : Reading Opened) → read_frame_with_r size r text ≡ x → read_frame_with_r size r text ≡ refused 8 place
        go (reads o) e =
            absurd (none_in_a_frame (IsFrameWithR size r) text (λ rest f g. apart size text rest (p, frame) (g.0.parts, g.1.frame))
            (o, (read_written_with_r text o e).1) place w)
        go (refused number i) e =
            let there = wrong_flags number i e in
            let same : i ≡ place = one_place (IsFrameWithR size r) text i place there.1 w in
            let eight : number ≡ 8 = there.0 in
            e ∙ rw (same, eight)

  pub read_back_with_r : ReadBackWithR size r
  read_back_with_r =
      record {
        frame_first = frame_first_lem;
        then_size = then_size_lem;
        written_reads = written_reads_lem;
        read_written = read_written_with_r;
        refused_there = λ text p number place read sized. wrong_flags sized text p read number place;
        there_refused = λ text p place read sized. there_wrong_flags sized text p read place;
      }
