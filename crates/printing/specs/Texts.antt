-- "Replay file": the lines that are printed.
use Rattle.std.specs.Prelude.{ℕ, List, [], ◌∷◌, ◌++◌}
use Prim.Native.String.{String}
use Rattle.notation.specs.Text.{ascii, newline, decimal, hex}

-- a printed line: a key with its =, a value, and a newline
abbrev pub line : String → List ℕ → List ℕ
line name value = ascii name ++ (value ++ (newline ∷ []))

-- "A refusal prints answer=refused and code=, two hex digits"
unfoldable pub refused_text : ℕ → List ℕ
refused_text n = line "answer=" (ascii "refused") ++ line "code=" (hex (n ∷ []))

-- "The first line that breaks this .. prints answer=malformed and line= with its number"
unfoldable pub malformed_text : ℕ → List ℕ
malformed_text n = line "answer=" (ascii "malformed") ++ line "line=" (decimal n)

-- "then bytes= where read, write, button or frame wrote any"
abbrev pub bytes_text : List ℕ → List ℕ
bytes_text [] = []
bytes_text (b ∷ bs) = line "bytes=" (hex (b ∷ bs))

-- "elapsed prints notes= (0 or 1), for 1 also at= and bytes=, then clock=": the seconds
abbrev pub notes_text : ℕ → List ℕ → List ℕ
notes_text ended [] = line "notes=" (decimal 0)
notes_text ended (b ∷ bs) = line "notes=" (decimal 1) ++ (line "at=" (decimal ended) ++ line "bytes=" (hex (b ∷ bs)))
