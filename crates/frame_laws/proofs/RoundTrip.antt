-- Both ways between frames and their parts: what the writer makes of parts claims just these parts, so that it reads; and what a text claims are
-- parts that the writer takes.
use Rattle.std.specs.Prelude.{Option, None, Some}
use Prim.Native.Nat.{ℕ, ◌+◌}
use mathlib.Core.Path.{◌≡◌, refl, sym, ◌∙◌}
use mathlib.Core.Bool.{Bool, true, false, cond, ◌&&◌}
use mathlib.Core.List.{List, [], ◌∷◌, ◌++◌, append_assoc}
use native.Mathlib.Omega.{arith}
use lib.Dec.{eqb}
use lib.ListN.{length, get_or, take, drop, replicate}
use lib.Seq.{take_at, get_or_at, get_or-drop}
use borrow.Author.Tests.{eq-eqb, ne_eqb}
use Rattle.laws.proofs.Same.{equal_same}
use Rattle.frame.specs.Frame.{rendered}
use Rattle.frame_reader.specs.Reader.{Parts, reads, frame_of, says_flags, claimed, claimed_frame, read_frame}
use Rattle.frame_laws.specs.ReadBack.{Sendable, FrameOf, IsFrame}
use Rattle.frame_reader.proofs.Claims.{length_filled}
use Rattle.frame_reader.proofs.Whole.{read_whole}

-- the identifier's room of a frame that was written
room : (size : ℕ) (id more : List ℕ) → length id ≡ size → take size ((id ++ more) ++ replicate size 0) ≡ id
room size id more e = rw append_assoc (take_at id (more ++ replicate size 0) size e)

claims_written : (size : ℕ) (id : List ℕ) (on : Bool) (flags : Option ℕ) → length id ≡ size → (on ≡ true → flags ≡ None → ⊥)
    → claimed size (rendered size id on flags) ≡ record { identifier = id; protected = on; flags = flags }
unfolding claimed rendered
claims_written size id true None e h = absurd (h refl refl)
claims_written size id false None e h =
    rw (ne_eqb (size + 4) (size + 5) (λ n. omega arith), room size id [] e)
claims_written size id on (Some b) e h =
    let last : get_or (rendered size id on (Some b)) (8 + size) 0 ≡ b
    = sym (get_or-drop 8 (rendered size id on (Some b)) size 0) ∙ get_or_at id b [] 0 size e in
    rw (eq-eqb (size + 5) (size + 5) refl, room size id (b ∷ []) e, last, kind on)
  where
    kind : (on : Bool) → eqb (cond on 0x41 0x40) 0x41 ≡ on
    kind true = refl
    kind false = refl

pub written_reads_lem : (size : ℕ) (p : Parts) → Sendable size p → read_frame size (frame_of size p) ≡ reads p
unfolding read_frame
written_reads_lem size p s =
    let claims : claimed size (frame_of size p) ≡ p
    = claims_written size p.identifier p.protected p.flags s.sized s.shown in
    rw (claims, equal_same (frame_of size p) (frame_of size p) refl)

pub claims_sendable : (size : ℕ) (text : List ℕ) → Sendable size (claimed size text)
unfolding claimed
claims_sendable size text =
    record { sized = length_filled size (drop 8 text); shown = λ on none. protected_shows (says_flags size text) _ on none }
  where
    protected_shows : (s k : Bool) → s && k ≡ true → cond s (Some (get_or text (8 + size) 0)) None ≡ None → ⊥
    protected_shows true k on none = let z : ◌≡◌ {A = ℕ} 0 1 = cc in omega arith
    protected_shows false k on none = let z : ◌≡◌ {A = ℕ} 0 1 = cc in omega arith

pub claimed_is_frame : (size : ℕ) (text : List ℕ) → FrameOf size (claimed size text) (claimed_frame size text)
claimed_is_frame size text = record { sendable = claims_sendable size text; written = refl }

pub read_written_lem : (size : ℕ) (text : List ℕ) (p : Parts) → read_frame size text ≡ reads p → FrameOf size p text
read_written_lem size text p e =
    let whole = read_whole size text p e in
    rw (← whole.1) (record { sendable = claims_sendable size text; written = whole.0 })

-- a frame reads
pub frame_reads : (size : ℕ) (text : List ℕ) (f : IsFrame size text) → read_frame size text ≡ reads f.0
frame_reads size text f = rw f.1.written (written_reads_lem size f.0 f.1.sendable)
