-- Four elements of a list, read from it and stored into it; and what is added to a word of the key schedule, by the case of its place.
use mathlib.Core.Path.{◌≡◌, refl, sym, ap, ◌∙◌}
use mathlib.Core.Bool.{Bool, true, false, cond, ◌&&◌}
use mathlib.Core.List.{List, [], ◌∷◌, ◌++◌}
use Prim.Native.Nat.{ℕ, suc, ◌+◌, ◌-◌, ◌/◌, ◌%◌, ◌≤◌, ◌<◌}
use native.Mathlib.Omega.{arith}
use native.Mathlib.Nat.{add-zero, add-mod_right, add-div_right}
use borrow.Author.Tests.{eq-eqb, ne_eqb, lt-ltb}
use lib.Dec.{ltb, lit<}
use lib.ListN.{length, get_or, take, drop, set, length-drop}
use lib.Seq.{get_or-take, get_or-drop, length-take-le, sets-eq}
use Rattle.laws.specs.Bytes.{tabulate, ◌⊕◌}
use Rattle.laws.proofs.Tabulate.{tabulate_get_or}
use Rattle.substitution.specs.Field.{xtimes}
use Rattle.substitution.specs.Box.{SBox}
use Rattle.key_schedule.specs.Expansion.{word, temp, RotWord, SubWord, Rcon}

pub bytes_of : (a : List ℕ) → length a ≡ 4 → a ≡ get_or a 0 0 ∷ get_or a 1 0 ∷ get_or a 2 0 ∷ get_or a 3 0 ∷ []
unfolding tabulate
bytes_of a e = sym (rw e at (tabulate_get_or 0 a))

pub length_word : (w : List ℕ) (at : ℕ) → at + 4 ≤ length w → length (take 4 (drop at w)) ≡ 4
length_word w at h = length-take-le 4 (drop at w) (rw length-drop (omega arith))

pub word_read : (w : List ℕ) (at : ℕ) → at + 4 ≤ length w
    → get_or w at 0 ∷ get_or w (at + 1) 0 ∷ get_or w (at + 2) 0 ∷ get_or w (at + 3) 0 ∷ [] ≡ take 4 (drop at w)
word_read w at h =
    sym
    (bytes_of (take 4 (drop at w)) (length_word w at h)
    ∙ rw (byte 0 (lit< tt), byte 1 (lit< tt), byte 2 (lit< tt), byte 3 (lit< tt), add-zero))
  where
    byte : (j : ℕ) → j < 4 → get_or (take 4 (drop at w)) j 0 ≡ get_or w (at + j) 0
    byte j p = get_or-take 4 (drop at w) j 0 p ∙ get_or-drop at w j 0

pub word_stored : (w a : List ℕ) (at : ℕ) → at + 4 ≤ length w → length a ≡ 4
    → set (set (set (set w at (get_or a 0 0)) (at + 1) (get_or a 1 0)) (at + 2) (get_or a 2 0)) (at + 3) (get_or a 3 0)
    ≡ take at w ++ a ++ drop (at + 4) w
word_stored w a at h e =
    let one : at + 1 ≡ suc at = omega arith in
    let two : at + 2 ≡ suc (suc at) = omega arith in
    let three : at + 3 ≡ suc (suc (suc at)) = omega arith in
    rw (one, two, three)
    (sets-eq (get_or a 0 0 ∷ get_or a 1 0 ∷ get_or a 2 0 ∷ get_or a 3 0 ∷ []) w at h
    ∙ ap (λ (v : List ℕ). take at w ++ v ++ drop (at + 4) w) (sym (bytes_of a e)))

both_kept : (b : Bool) (x y : List ℕ) → cond (b && false) x y ≡ y
both_kept true x y = refl
both_kept false x y = refl

-- §5.2: what is added to word n to make word n + Nk, by the bytes of the word before that one
module _ (Nk n : ℕ) (w previous : List ℕ) (some : 1 ≤ Nk) (before : word w (n + Nk - 1) ≡ previous) where
  remainder : (n + Nk) % Nk ≡ n % Nk
  remainder = add-mod_right n Nk

  turn : (n + Nk) / Nk - 1 ≡ n / Nk
  turn = let e : (n + Nk) / Nk ≡ n / Nk + 1 = add-div_right n some in omega arith

  pub temp_first : (a b c d constant : ℕ) → previous ≡ a ∷ b ∷ c ∷ d ∷ [] → n % Nk ≡ 0 → constant ≡ xtimes (n / Nk) 1
      → (SBox b ∷ SBox c ∷ SBox d ∷ SBox a ∷ []) ⊕ (constant ∷ 0 ∷ 0 ∷ 0 ∷ []) ≡ temp Nk w (n + Nk)
  unfolding temp RotWord SubWord Rcon
  temp_first a b c d constant e z ec = rw (ec, eq-eqb ((n + Nk) % Nk) 0 (remainder ∙ z), before, turn, e)

  pub temp_middle : 6 < Nk → n % Nk ≡ 4 → SubWord previous ≡ temp Nk w (n + Nk)
  unfolding temp
  temp_middle long four =
      rw (remainder, ne_eqb (n % Nk) 0 (λ e. omega arith), lt-ltb 6 Nk long, eq-eqb (n % Nk) 4 four, before)

  pub temp_later : (n % Nk ≡ 0 → ⊥) → (n % Nk ≡ 4 → ⊥) → previous ≡ temp Nk w (n + Nk)
  unfolding temp
  temp_later first middle =
      rw (remainder, ne_eqb (n % Nk) 0 first, ne_eqb (n % Nk) 4 middle) (sym (both_kept (ltb 6 Nk) (SubWord (word w (n + Nk - 1))) (word w (n + Nk - 1)) ∙ before))
