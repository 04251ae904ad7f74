-- Counting in fours over turns of 4 or 8: the place in the turn and the number of turns, four further; and the round constant that goes with the
-- turn.
use mathlib.Core.Path.{◌≡◌, sym, ap, ◌∙◌}
use Prim.Native.Nat.{ℕ, ◌+◌, ◌/◌, ◌%◌, ◌≤◌, ◌<◌}
use native.Mathlib.Decide.{ℕ_discrete}
use native.Mathlib.Numerals.{add-one}
use native.Mathlib.Omega.{arith}
use lib.Dec.{lit<}
use Rattle.substitution.specs.Field.{◌•◌, xtimes}
use Rattle.substitution.proofs.Bytes.{xtimes_below}
use Rattle.substitution.proofs.Linear.{two_xtime}
use Rattle.key_schedule.specs.Fours.{Fours}

-- what holds for 4 and for 8 holds
either : {Nk n : ℕ} (P : ℕ → Type 0) → Fours Nk n → P 4 → P 8 → P Nk
either {Nk} P f four eight = go (ℕ_discrete Nk 4)
  where
    go : Dec (Nk ≡ 4) → P Nk
    go (yes e) = rw e four
    go (no ne) =
        let e : Nk ≡ 8 = omega arith in
        rw e eight

module _ (Nk n : ℕ) (f : Fours Nk n) where
  -- the three words after the first of four are no turn's first, nor its fifth
  pub later : (j : ℕ) → 1 ≤ j → j < 4 → ((n + j) % Nk ≡ 0 → ⊥) × ((n + j) % Nk ≡ 4 → ⊥)
  later j l h =
      either (λ (m : ℕ). ((n + j) % m ≡ 0 → ⊥) × ((n + j) % m ≡ 4 → ⊥)) f ((λ e. omega arith), (λ e. omega arith)) ((λ e. omega arith), (λ e. omega arith))

  -- the first of four is its turn's first, or its fifth of eight
  pub fifth : (n % Nk ≡ 0 → ⊥) → (6 < Nk) × (n % Nk ≡ 4)
  fifth =
      either (λ (m : ℕ). (n % m ≡ 0 → ⊥) → (6 < m) × (n % m ≡ 4)) f (λ no. absurd (no (omega arith))) (λ no. (lit< tt, omega (arith, no)))

  pub within : n % Nk + 4 < Nk → (n % Nk + 4 ≡ (n + 4) % Nk) × (n / Nk ≡ (n + 4) / Nk)
  within =
      either (λ (m : ℕ). n % m + 4 < m → (n % m + 4 ≡ (n + 4) % m) × (n / m ≡ (n + 4) / m)) f (λ h. (omega arith, omega arith)) (λ h. (omega arith, omega arith))

  pub turned : Nk ≤ n % Nk + 4 → (0 ≡ (n + 4) % Nk) × (n / Nk + 1 ≡ (n + 4) / Nk)
  turned =
      either (λ (m : ℕ). m ≤ n % m + 4 → (0 ≡ (n + 4) % m) × (n / m + 1 ≡ (n + 4) / m)) f (λ h. (omega arith, omega arith)) (λ h. (omega arith, omega arith))

  pub same_constant : (constant : ℕ) → n % Nk + 4 < Nk → constant ≡ xtimes (n / Nk) 1 → constant ≡ xtimes ((n + 4) / Nk) 1
  same_constant constant h e = e ∙ ap (λ (k : ℕ). xtimes k 1) (within h).1

  pub more_constant : (constant : ℕ) → Nk ≤ n % Nk + 4 → constant ≡ xtimes (n / Nk) 1 → 2 • constant ≡ xtimes ((n + 4) / Nk) 1
  unfolding xtimes
  more_constant constant h e =
      ap (λ (b : ℕ). 2 • b) e ∙ two_xtime (xtimes (n / Nk) 1) (xtimes_below (n / Nk) 1 (lit< tt))
      ∙ sym (ap (λ (k : ℕ). xtimes k 1) (add-one (n / Nk))) ∙ ap (λ (k : ℕ). xtimes k 1) (turned h).1
