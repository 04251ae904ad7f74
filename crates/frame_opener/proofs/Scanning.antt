-- From what was read of a text to what the reader with r gives; and from what it gives to what was read.
use Prim.Native.Nat.{ℕ, ◌≤◌}
use mathlib.Core.Path.{◌≡◌, sym}
use mathlib.Core.List.{List}
use lib.ListN.{length}
use borrow.Author.Tests.{eq-eqb, ne_eqb}
use Rattle.std.specs.Prelude.{Result, Ok, Err}
use Rattle.frame_reader.specs.declared.Frame.{Frame}
use Rattle.frame_reader.specs.declared.WrongByte.{WrongByte}
use Rattle.frame_reader.specs.Reader.{Reading, reads, refused, read_frame}
use Rattle.frame_reader.specs.Scanned.{parts_of}
use Rattle.frame_opener.specs.declared.Opened as code
use Rattle.frame_opener.specs.declared.NotOpened.{NotOpened}
use Rattle.frame_opener.specs.Opener.{Opened, opened_by, read_frame_with_r}
use Rattle.frame_opener.specs.Opened.{opening_of}
use Rattle.frame_opener.proofs.Bounds.{place_small_with_r}

-- a refusal stays, then r's length is judged, then the flags byte
module _ (r text : List ℕ) where
  pub with_refusal : (w : WrongByte) → refused 8 w.at ≡ read_frame 20 text → refused 8 w.at ≡ read_frame_with_r 20 r text
  unfolding read_frame_with_r
  with_refusal w e = rw (← e)

  module _ (f : Frame) (e : reads (parts_of f) ≡ read_frame 20 text) where
    pub with_wrong_size : (length r ≡ 20 → ⊥) → refused 1 0 ≡ read_frame_with_r 20 r text
    unfolding read_frame_with_r
    with_wrong_size h = rw (← e, ne_eqb (length r) 20 h)

    pub with_size : (x : Reading Opened) → length r ≡ 20 → x ≡ opened_by r 20 (parts_of f) f.flags → x ≡ read_frame_with_r 20 r text
    unfolding read_frame_with_r
    with_size x h is = rw (← e, eq-eqb (length r) 20 h) is

-- what was read, by the answer that says so
module _ (r text : List ℕ) (o : Result code.Opened NotOpened) (said : opening_of o ≡ read_frame_with_r 20 r text) where
  pub wrong_read_with_r : (i : ℕ) → o ≡ Err (NotOpened.WrongByte i) → read_frame_with_r 20 r text ≡ refused 8 i
  wrong_read_with_r i e = sym (rw e at said)

  pub wrong_size_read : o ≡ Err NotOpened.WrongSize → read_frame_with_r 20 r text ≡ refused 1 0
  wrong_size_read e = sym (rw e at said)

  pub frame_read_with_r : (f : code.Opened) → o ≡ Ok f
      → read_frame_with_r 20 r text ≡ reads (record { parts = parts_of f.frame; battery = f.battery })
  frame_read_with_r f e = sym (rw e at said)

  pub wrong_small_with_r : (i : ℕ) → o ≡ Err (NotOpened.WrongByte i) → i ≤ 29
  wrong_small_with_r i e = place_small_with_r 20 text r 8 i (wrong_read_with_r i e)
