-- What is printed of a call's end, over the types of the code, and the room that it takes.
use Rattle.std.specs.Prelude.{ℕ, ◌≤◌, List, ◌++◌, take, Ok, Err}
use Rattle.unit.specs.Refusals.{refusal_number}
use Rattle.unit.specs.Types.{Reply}
use Rattle.notation.specs.Text.{ascii, decimal}
use Rattle.printing.specs.Texts.{line, bytes_text, notes_text, refused_text}

-- Our own choice: room for more than any one line prints
abbrev pub line_room : ℕ
line_room = 256

-- room for a malformed line, and for the title of an answer
abbrev pub malformed_room : ℕ
malformed_room = 64

abbrev pub title_room : ℕ
title_room = 32

-- the answer to an event with answer bytes, and to one without
abbrev pub answered_text : List ℕ → Reply → List ℕ → List ℕ
answered_text title (Ok n) answer = title ++ bytes_text (take n answer)
answered_text title (Err refusal) answer = refused_text (refusal_number refusal)

abbrev pub completed_text : List ℕ → Reply → List ℕ
completed_text title (Ok n) = title
completed_text title (Err refusal) = refused_text (refusal_number refusal)

abbrev pub elapsed_text : ℕ → ℕ → List ℕ → List ℕ
elapsed_text at seconds answer = line "answer=" (ascii "elapsed") ++ (notes_text at answer ++ line "clock=" (decimal seconds))

abbrev pub passed_text : ℕ → ℕ → Reply → List ℕ → List ℕ
passed_text at seconds (Ok n) answer = elapsed_text at seconds (take n answer)
passed_text at seconds (Err refusal) answer = refused_text (refusal_number refusal)

-- no more bytes are said to be written than there are
abbrev pub replies_within : Reply → ℕ → Type 0
replies_within (Ok n) room = n ≤ room
replies_within (Err refusal) room = Unit
