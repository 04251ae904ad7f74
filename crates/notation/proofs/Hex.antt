-- Laws of hexadecimal text: joined bytes, lengths.
use Prim.Native.Nat.{ℕ, ◌+◌, ◌*◌, ◌/◌, ◌%◌, ◌≤◌, ◌<◌}
use mathlib.Core.Path.{◌≡◌, refl, sym, ap, ◌∙◌}
use mathlib.Core.List.{List, [], ◌∷◌, ◌++◌, append_assoc}
use native.Mathlib.Numerals.{add-one}
use native.Mathlib.Omega.{arith}
use lib.ListN.{length, take, get_or, set, length-append}
use lib.Seq.{take-suc, length-take-le}
use Rattle.notation.specs.Text.{hex, hex_digit}
use Rattle.notation.specs.Written.{placed}
use Rattle.notation.proofs.Placed.{placed_one}

pub hex_append : (a b : List ℕ) → hex (a ++ b) ≡ hex a ++ hex b
unfolding hex
hex_append [] b = refl
hex_append (x ∷ a) b = rw (hex_append a b)

pub length_hex : (a : List ℕ) → length (hex a) ≡ 2 * length a
unfolding hex
length_hex [] = refl
length_hex (x ∷ a) = let rest : length (hex a) ≡ 2 * length a = length_hex a in omega arith

pub hex_more : (s : List ℕ) (i : ℕ) → i < length s
    → hex (take (i + 1) s) ≡ hex (take i s) ++ (hex_digit (get_or s i 0 / 16) ∷ hex_digit (get_or s i 0 % 16) ∷ [])
unfolding hex
hex_more s i h = rw (add-one i, take-suc s i 0 h) (hex_append (take i s) (get_or s i 0 ∷ []))

-- one byte more, two digits written
pub hex_turn : (s before out : List ℕ) (at i next high low : ℕ) → i < length s → out ≡ placed at (hex (take i s)) before → next ≡ at + 2 * i
    → next + 2 ≤ length before → high ≡ hex_digit (get_or s i 0 / 16) → low ≡ hex_digit (get_or s i 0 % 16)
    → set (set out next high) (next + 1) low ≡ placed at (hex (take (i + 1) s)) before
hex_turn s before out at i next high low h e n room hi lo =
    let t : List ℕ = hex (take i s) in
    let count : length (take i s) ≡ i = length-take-le i s (omega arith) in
    let size : length t ≡ 2 * i = length_hex (take i s) ∙ ap (λ (k : ℕ). 2 * k) count in
    let more : length (t ++ (high ∷ [])) ≡ length t + 1 = length-append t (high ∷ []) in
    ap (λ (l : List ℕ). set (set l next high) (next + 1) low) e
    ∙ ap (λ (l : List ℕ). set l (next + 1) low) (placed_one at before t high next (omega arith) (omega arith))
    ∙ placed_one at before (t ++ (high ∷ [])) low (next + 1) (omega arith) (omega arith)
    ∙ ap (λ (l : List ℕ). placed at l before) (append_assoc t (high ∷ []) (low ∷ []) ∙ rw (hi, lo) (sym (hex_more s i h)))
