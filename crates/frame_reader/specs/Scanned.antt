-- What the answer of `read` stands for, with the paper's number of its refusal.
use Rattle.std.specs.Prelude.{ℕ, ◌≤◌, ◌≡◌, Bool, List, Result, Ok, Err}
use Rattle.sizes.specs.Sizes.{frame_identifier_at}
use Rattle.frame_reader.specs.declared.Frame.{Frame}
use Rattle.frame_reader.specs.declared.Form.{Form}
use Rattle.frame_reader.specs.declared.WrongByte.{WrongByte}
use Rattle.frame_reader.specs.Reader.{Parts, Reading, reads, refused, wrong_byte, says_flags, first_wrong}

abbrev pub parts_of : Frame → Parts
parts_of f = record { identifier = f.id; protected = f.on; flags = f.flags }

abbrev pub reading_of : Result Frame WrongByte → Reading Parts
reading_of (Ok f) = reads (parts_of f)
reading_of (Err w) = refused wrong_byte w.at

-- What inner functions of the reader ask and promise; no promise of a public call cites it: an answer beside the identifier's bytes
abbrev pub form_as : List ℕ → Result Form WrongByte → Reading Parts
form_as id (Ok f) = reads (record { identifier = id; protected = f.on; flags = f.flags })
form_as id (Err w) = refused wrong_byte w.at

-- An identifier as long as the length byte can say
abbrev pub longest_identifier : ℕ
longest_identifier = 250

-- a text whose head is right, and says that there is a flags byte or not
pub record RightHead (size : ℕ) (text : List ℕ) (flagged : Bool) : Type 0 where
  pub fits : size ≤ longest_identifier
  pub right : frame_identifier_at ≤ first_wrong size text
  pub says : says_flags size text ≡ flagged
