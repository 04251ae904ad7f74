-- The buffer of sixteen words step by step: what reading a word of the block and making a later one leave of it.
use mathlib.Core.Path.{◌≡◌, sym, ap, ◌∙◌}
use mathlib.Core.List.{List}
use Prim.Native.Nat.{ℕ, ◌+◌, ◌-◌, ◌*◌, ◌%◌, ◌≤◌, ◌<◌}
use native.Mathlib.Omega.{arith}
use native.Mathlib.Decide.{dec_lt}
use lib.ListN.{length, get_or, set, length-set}
use lib.Seq.{get_or-set_same, get_or-set_other}
use Rattle.message_schedule.specs.Schedule.{W}
use Rattle.message_schedule.specs.Window.{Holds, Made}
use Rattle.message_schedule.proofs.Words.{sum_of, W-next}

pub made_first : (t : ℕ) (w : List ℕ) → t < 16 → Made t w w (get_or w t 0)
unfolding Holds
made_first t w h M sixteen holds =
    let place : t % 16 ≡ t = omega arith in
    ((holds.0, λ s l u. holds.1 s (omega arith) (omega arith)), rw place at (holds.1 t (omega arith) (omega arith)))

-- a later word, which stands at place j: word 16 * p + j
module _ (p j : ℕ) (w : List ℕ) (x : ℕ) (later : 1 ≤ p) (below : p < 4) (inside : j < 16) (sum : x ≡ sum_of (get_or w ((j + 14) % 16) 0) (get_or w ((j + 9) % 16) 0) (get_or w ((j + 1) % 16) 0) (get_or w j 0)) where
  module _ (M : List ℕ) (sixteen : length M ≡ 16) (room : length w ≡ 16) (holds : (s : ℕ) → 16 * p + j - 16 ≤ s → s < 16 * p + j - 16 + 16 → get_or w (s % 16) 0 ≡ W M s) where
    -- the word that is c steps after the oldest one
    at : (c : ℕ) → c < 16 → get_or w ((j + c) % 16) 0 ≡ W M (c + (16 * p + j - 16))
    at c h =
        let place : (j + c) % 16 ≡ (c + (16 * p + j - 16)) % 16 = omega arith in
        rw place (holds (c + (16 * p + j - 16)) (omega arith) (omega arith))

    word : x ≡ W M (16 * p + j)
    word =
        let place : j ≡ (16 * p + j - 16) % 16 = omega arith in
        let oldest : get_or w j 0 ≡ W M (16 * p + j - 16) = ap (λ (i : ℕ). get_or w i 0) place ∙ holds (16 * p + j - 16) (omega arith) (omega arith) in
        let back : 16 + (16 * p + j - 16) ≡ 16 * p + j = omega arith in
        rw (at 14 (omega arith), at 9 (omega arith), at 1 (omega arith), oldest) at sum
        ∙ sym (W-next M sixteen (16 * p + j - 16) (omega arith)) ∙ ap (W M) back

    -- the new word stands in the place of the oldest, and every other where it stood
    kept : (s : ℕ) → 16 * p + j + 1 - 16 ≤ s → s < 16 * p + j + 1 - 16 + 16 → get_or (set w j x) (s % 16) 0 ≡ W M s
    kept s l u = go (dec_lt s (16 * p + j))
      where
        go : Dec (s < 16 * p + j) → get_or (set w j x) (s % 16) 0 ≡ W M s
        go (yes h) = get_or-set_other w j (s % 16) x 0 (λ e. omega arith) ∙ holds s (omega arith) (omega arith)
        go (no h) =
            let e : s ≡ 16 * p + j = omega arith in
            let place : s % 16 ≡ j = omega arith in
            rw place (get_or-set_same w j x 0 (omega arith)) ∙ word ∙ ap (W M) (sym e)

  pub made_next : Made (16 * p + j) w (set w j x) x
  unfolding Holds
  made_next M sixteen holds =
      ((length-set w j x ∙ holds.0, kept M sixteen holds.0 holds.1), word M sixteen holds.0 holds.1)
