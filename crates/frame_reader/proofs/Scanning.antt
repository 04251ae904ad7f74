-- From what was judged of a text to what `read` gives, the identifier beside it; and from what it gives to what was read.
use Prim.Native.Nat.{ℕ, ◌≤◌}
use mathlib.Core.Path.{◌≡◌, sym, ◌∙◌}
use mathlib.Core.List.{List}
use lib.ListN.{length, take, drop}
use Rattle.std.specs.Prelude.{Result, Ok, Err}
use Rattle.frame_reader.specs.declared.Frame.{Frame}
use Rattle.frame_reader.specs.declared.Form.{Form}
use Rattle.frame_reader.specs.declared.WrongByte.{WrongByte}
use Rattle.frame_reader.specs.Reader.{reads, refused, claimed, read_frame}
use Rattle.frame_reader.specs.Scanned.{form_as, parts_of, reading_of}
use Rattle.frame_reader.proofs.Whole.{read_long, claims_identifier}
use Rattle.frame_reader.proofs.Bounds.{place_small}

module _ (text : List ℕ) (r : Result Form WrongByte) (judged : form_as (claimed 20 text).identifier r ≡ read_frame 20 text) where
  pub form_wrong : (w : WrongByte) → r ≡ Err w → refused 8 w.at ≡ read_frame 20 text
  form_wrong w e = rw e at judged

  module _ (f : Form) (e : r ≡ Ok f) where
    read : read_frame 20 text ≡ reads (record { identifier = (claimed 20 text).identifier; protected = f.on; flags = f.flags })
    read = sym (rw e at judged)

    pub whole : 28 ≤ length text
    whole = read_long 20 text _ read

    pub form_read : (id : List ℕ) → id ≡ take 20 (drop 8 text) → reads (record { identifier = id; protected = f.on; flags = f.flags }) ≡ read_frame 20 text
    form_read id is =
        let same : id ≡ (claimed 20 text).identifier = is ∙ sym (claims_identifier 20 text whole) in
        rw same (sym read)

-- what was read, by the answer that says so
module _ (text : List ℕ) (r : Result Frame WrongByte) (said : reading_of r ≡ read_frame 20 text) where
  pub wrong_read : (w : WrongByte) → r ≡ Err w → read_frame 20 text ≡ refused 8 w.at
  wrong_read w e = sym (rw e at said)

  pub frame_read : (f : Frame) → r ≡ Ok f → read_frame 20 text ≡ reads (parts_of f)
  frame_read f e = sym (rw e at said)

  pub wrong_small : (w : WrongByte) → r ≡ Err w → w.at ≤ 29
  wrong_small w e = place_small 20 text 8 w.at (wrong_read w e)
