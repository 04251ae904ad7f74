-- The printed texts: how long they are, and what they are with and without answer bytes.
use Prim.Native.Nat.{ℕ, ◌+◌, ◌≤◌, ◌<◌, ◌*◌}
use mathlib.Core.Path.{◌≡◌, refl}
use mathlib.Core.List.{List, [], ◌∷◌, ◌++◌}
use native.Mathlib.Omega.{arith}
use lib.ListN.{length, length-append}
use Rattle.sizes.specs.Sizes.{answer_room}
use Rattle.notation.specs.Text.{decimal, decimal_in, hex, ascii, newline}
use Rattle.printing.specs.Texts.{malformed_text, refused_text, bytes_text, notes_text, line}
use Rattle.notation.proofs.Decimal.{length_decimal}
use Rattle.notation.proofs.Hex.{length_hex}

pub length_malformed : (n : ℕ) → length (malformed_text n) ≤ 64
unfolding malformed_text
length_malformed n = omega (arith, length_decimal n, length-append (decimal n) (newline ∷ []))

pub length_refused : (n : ℕ) → length (refused_text n) ≡ 23
unfolding refused_text hex
length_refused n = refl

pub bytes_none : (a : List ℕ) → length a ≡ 0 → [] ≡ bytes_text a
bytes_none [] h = refl
bytes_none (x ∷ a) h = absurd (omega arith)

pub bytes_some : (a : List ℕ) → 0 < length a → line "bytes=" (hex a) ≡ bytes_text a
bytes_some [] h = absurd (omega arith)
bytes_some (x ∷ a) h = refl

pub length_bytes : (a : List ℕ) → length a ≤ answer_room → length (bytes_text a) ≤ 7 + 2 * answer_room
length_bytes [] h = omega arith
length_bytes (x ∷ a) h = omega (arith, length_hex (x ∷ a), length-append (hex (x ∷ a)) (newline ∷ []))

pub notes_none : (at : ℕ) (a : List ℕ) → length a ≡ 0 → ascii "notes=0\n" ≡ notes_text at a
unfolding decimal decimal_in
notes_none at [] h = refl
notes_none at (x ∷ a) h = absurd (omega arith)

one : decimal 1 ≡ 49 ∷ []
unfolding decimal decimal_in
one = refl

pub notes_some : (at : ℕ) (a : List ℕ) → 0 < length a
    → (ascii "notes=1\nat=" ++ (decimal at ++ (newline ∷ []))) ++ bytes_text a ≡ notes_text at a
notes_some at [] h = absurd (omega arith)
notes_some at (x ∷ a) h = rw one

pub length_notes : (at : ℕ) (a : List ℕ) → length a ≤ answer_room → length (notes_text at a) ≤ 29 + 2 * answer_room
unfolding decimal decimal_in
length_notes at [] h = omega arith
length_notes at (x ∷ a) h =
    let size : length (line "bytes=" (hex (x ∷ a))) ≤ 7 + 2 * answer_room = length_bytes (x ∷ a) h in
    omega (arith, length_decimal at, length-append (decimal at) (newline ∷ []), length-append (decimal at ++ (newline ∷ [])) (line "bytes=" (hex (x ∷ a))))
