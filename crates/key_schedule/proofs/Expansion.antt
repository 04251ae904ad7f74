-- The key schedule of a key of 4 * Nk bytes: how long it is, and that it is of bytes.
use mathlib.Core.Path.{◌≡◌, ap, ap₂, ◌∙◌}
use mathlib.Core.Bool.{Bool, true, false, cond, ◌&&◌}
use mathlib.Core.List.{List, ◌++◌}
use Prim.Native.Nat.{ℕ, zero, suc, ◌+◌, ◌-◌, ◌*◌, ◌/◌, ◌%◌, ◌≤◌}
use native.Mathlib.Omega.{arith}
use lib.Dec.{eqb, ltb, lit<}
use lib.ListN.{length, take, drop, length-append, length-map, length-drop}
use lib.Seq.{length-take-le}
use Rattle.laws.specs.Bytes.{◌⊕◌}
use Rattle.laws.proofs.Xor.{length_⊕}
use Rattle.substitution.specs.Box.{SBox}
use Rattle.key_schedule.specs.Expansion.{word, RotWord, SubWord, Rcon, temp, expanded, KeyExpansion}
use Rattle.key_schedule.proofs.Words.{length_word}
use Rattle.substitution.proofs.Bytes.{Bytes, bytes_map, bytes_append, bytes_take, bytes_drop, bytes_⊕, xtimes_below, SBox-below}

-- either choice has the property
choice : {A : Type 0} (P : A → Type 0) (b : Bool) (x y : A) → P x → P y → P (cond b x y)
choice P true x y p q = p
choice P false x y p q = q

-- ---- lengths

length_rotated : (a : List ℕ) → length a ≡ 4 → length (SubWord (RotWord a)) ≡ 4
unfolding SubWord RotWord
length_rotated a e =
    length-map (drop 1 a ++ take 1 a) SBox
    ∙ length-append (drop 1 a) (take 1 a)
    ∙ ap₂ ◌+◌ (length-drop 1 a ∙ ap (λ (n : ℕ). n - 1) e) (length-take-le 1 a (omega arith))

length_temp : (Nk i : ℕ) (w : List ℕ) → length (word w (i - 1)) ≡ 4 → length (temp Nk w i) ≡ 4
unfolding temp SubWord Rcon
length_temp Nk i w e =
    choice (λ (a : List ℕ). length a ≡ 4) (eqb (i % Nk) 0)
    (SubWord (RotWord (word w (i - 1))) ⊕ Rcon (i / Nk))
    (cond (ltb 6 Nk && eqb (i % Nk) 4) (SubWord (word w (i - 1))) (word w (i - 1)))
    (let n : length (SubWord (RotWord (word w (i - 1)))) ≡ 4 = length_rotated (word w (i - 1)) e in
    length_⊕ (SubWord (RotWord (word w (i - 1)))) (Rcon (i / Nk)) (omega arith) ∙ n)
    (choice (λ (a : List ℕ). length a ≡ 4) (ltb 6 Nk && eqb (i % Nk) 4) (SubWord (word w (i - 1))) (word w (i - 1)) (length-map (word w (i - 1)) SBox ∙ e) e)

pub length_expanded : (Nk n : ℕ) (key : List ℕ) → 1 ≤ Nk → length key ≡ 4 * Nk → length (expanded Nk n key) ≡ 4 * Nk + 4 * n
unfolding expanded
length_expanded Nk zero key h e = e ∙ omega arith
length_expanded Nk (suc n) key h e = turn (length_expanded Nk n key h e)
  where
    before : List ℕ
    before = expanded Nk n key

    turn : length before ≡ 4 * Nk + 4 * n → length (before ++ (word before n ⊕ temp Nk before (Nk + n))) ≡ 4 * Nk + 4 * suc n
    turn l =
        let old : length (word before n) ≡ 4 = length_word before (4 * n) (omega arith) in
        let new : length (temp Nk before (Nk + n)) ≡ 4 =
        length_temp Nk (Nk + n) before (length_word before (4 * (Nk + n - 1)) (omega arith)) in
        let sum : length (word before n ⊕ temp Nk before (Nk + n)) ≡ 4 =
        length_⊕ (word before n) (temp Nk before (Nk + n)) (omega arith) ∙ old in
        length-append before (word before n ⊕ temp Nk before (Nk + n)) ∙ ap₂ ◌+◌ l sum ∙ omega arith

pub length_schedule : (Nk Nr : ℕ) (key : List ℕ) → 1 ≤ Nk → Nk ≤ 4 * (Nr + 1) → length key ≡ 4 * Nk
    → length (KeyExpansion Nk Nr key) ≡ 16 * (Nr + 1)
unfolding KeyExpansion
length_schedule Nk Nr key h k e = length_expanded Nk (4 * (Nr + 1) - Nk) key h e ∙ omega arith

-- ---- bytes

bytes_word : (w : List ℕ) (i : ℕ) → Bytes w → Bytes (word w i)
bytes_word w i h = bytes_take 4 (drop (4 * i) w) (bytes_drop (4 * i) w h)

bytes-Rcon : (i : ℕ) → Bytes (Rcon i)
unfolding Rcon
bytes-Rcon i zero = xtimes_below (i - 1) 1 (lit< tt)
bytes-Rcon i (suc zero) = lit< tt
bytes-Rcon i (suc (suc zero)) = lit< tt
bytes-Rcon i (suc (suc (suc zero))) = lit< tt
bytes-Rcon i (suc (suc (suc (suc k)))) = lit< tt

bytes_temp : (Nk i : ℕ) (w : List ℕ) → Bytes w → Bytes (temp Nk w i)
unfolding temp SubWord
bytes_temp Nk i w h =
    choice Bytes (eqb (i % Nk) 0)
    (SubWord (RotWord (word w (i - 1))) ⊕ Rcon (i / Nk))
    (cond (ltb 6 Nk && eqb (i % Nk) 4) (SubWord (word w (i - 1))) (word w (i - 1)))
    (bytes_⊕ (SubWord (RotWord (word w (i - 1)))) (Rcon (i / Nk)) (bytes_map SBox SBox-below (RotWord (word w (i - 1)))) (bytes-Rcon (i / Nk)))
    (choice Bytes (ltb 6 Nk && eqb (i % Nk) 4) (SubWord (word w (i - 1))) (word w (i - 1))
    (bytes_map SBox SBox-below (word w (i - 1))) (bytes_word w (i - 1) h))

bytes_expanded : (Nk n : ℕ) (key : List ℕ) → Bytes key → Bytes (expanded Nk n key)
unfolding expanded
bytes_expanded Nk zero key h = h
bytes_expanded Nk (suc n) key h = turn (bytes_expanded Nk n key h)
  where
    before : List ℕ
    before = expanded Nk n key

    turn : Bytes before → Bytes (before ++ (word before n ⊕ temp Nk before (Nk + n)))
    turn b =
        bytes_append before (word before n ⊕ temp Nk before (Nk + n)) b
        (bytes_⊕ (word before n) (temp Nk before (Nk + n)) (bytes_word before n b) (bytes_temp Nk (Nk + n) before b))

pub bytes_schedule : (Nk Nr : ℕ) (key : List ℕ) → Bytes key → Bytes (KeyExpansion Nk Nr key)
unfolding KeyExpansion
bytes_schedule Nk Nr key h = bytes_expanded Nk (4 * (Nr + 1) - Nk) key h
