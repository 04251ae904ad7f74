-- Turns one after another, and what the buffer of sixteen words holds at the start.
use Rattle.std.proofs.Common.{◌≡◌, ℕ, ◌+◌, ◌-◌, ◌%◌, ◌^◌, ◌<◌, ◌≤◌, List, length, get_or, sym, refl, ◌∙◌, add-zero, add_assoc, add-one, arith}
use Rattle.message_schedule.specs.Schedule.{W}
use Rattle.message_schedule.specs.Window.{Holds, Made}
use Rattle.message_schedule.proofs.Words.{W-first}
use Rattle.compression.specs.Constants.{K}
use Rattle.compression.specs.Compression.{turn, turns, compress, added}
use Rattle.compression.specs.Turns.{Taken}
use Rattle.compression.specs.declared.Working.{Working}

-- sums that are taken modulo 2^32 one after another
pub four_sums : (h s c k w : ℕ) → ((((h + s) % 2 ^ 32 + c) % 2 ^ 32 + k) % 2 ^ 32 + w) % 2 ^ 32 ≡ (h + s + c + k + w) % 2 ^ 32
four_sums h s c k w = omega arith

pub taken_one : (t x k : ℕ) (w w' : List ℕ) (v v' : Working) → Made t w w' x → k ≡ get_or K t 0 → v' ≡ turn k x v → Taken 1 t w w' v v'
unfolding turns
taken_one t x k w w' v v' made f e =
    record {
      leads = λ M H sixteen holds start.
          let m = made M sixteen holds in
          (m.0, e ∙ rw (m.1, f, start, add-one));
    }

-- turns, and then turns
pub ◌▹◌ : {n m t : ℕ} {w w₁ w₂ : List ℕ} {v v₁ v₂ : Working} → Taken n t w w₁ v v₁ → Taken m (t + n) w₁ w₂ v₁ v₂ → Taken (n + m) t w w₂ v v₂
◌▹◌ {n} {m} {t} first second =
    record {
      leads = λ M H sixteen holds start.
          let f = first.leads M H sixteen holds start in
          rw (add_assoc t n m) at (second.leads M H sixteen f.0 f.1);
    }

infixl 50 ◌▹◌
-- sixteen turns, one after another
pub sixteen : (t : ℕ) {w₀ w₁ w₂ w₃ w₄ w₅ w₆ w₇ w₈ w₉ w₁₀ w₁₁ w₁₂ w₁₃ w₁₄ w₁₅ w₁₆ : List ℕ} {v₀ v₁ v₂ v₃ v₄ v₅ v₆ v₇ v₈ v₉ v₁₀ v₁₁ v₁₂ v₁₃ v₁₄ v₁₅ v₁₆ : Working}
    → Taken 1 (t + 0) w₀ w₁ v₀ v₁
    → Taken 1 (t + 1) w₁ w₂ v₁ v₂
    → Taken 1 (t + 2) w₂ w₃ v₂ v₃
    → Taken 1 (t + 3) w₃ w₄ v₃ v₄
    → Taken 1 (t + 4) w₄ w₅ v₄ v₅
    → Taken 1 (t + 5) w₅ w₆ v₅ v₆
    → Taken 1 (t + 6) w₆ w₇ v₆ v₇
    → Taken 1 (t + 7) w₇ w₈ v₇ v₈
    → Taken 1 (t + 8) w₈ w₉ v₈ v₉
    → Taken 1 (t + 9) w₉ w₁₀ v₉ v₁₀
    → Taken 1 (t + 10) w₁₀ w₁₁ v₁₀ v₁₁
    → Taken 1 (t + 11) w₁₁ w₁₂ v₁₁ v₁₂
    → Taken 1 (t + 12) w₁₂ w₁₃ v₁₂ v₁₃
    → Taken 1 (t + 13) w₁₃ w₁₄ v₁₃ v₁₄
    → Taken 1 (t + 14) w₁₄ w₁₅ v₁₄ v₁₅
    → Taken 1 (t + 15) w₁₅ w₁₆ v₁₅ v₁₆
    → Taken 16 t w₀ w₁₆ v₀ v₁₆
sixteen t s₀ s₁ s₂ s₃ s₄ s₅ s₆ s₇ s₈ s₉ s₁₀ s₁₁ s₁₂ s₁₃ s₁₄ s₁₅ =
    rw add-zero at s₀ ▹ s₁ ▹ s₂ ▹ s₃ ▹ s₄ ▹ s₅ ▹ s₆ ▹ s₇ ▹ s₈ ▹ s₉ ▹ s₁₀ ▹ s₁₁ ▹ s₁₂ ▹ s₁₃ ▹ s₁₄ ▹ s₁₅

-- the 64 turns of a block, from its words on
pub taken_all : (w w' : List ℕ) (H v r : Working) → length w ≡ 16 → Taken 64 0 w w' H v → r ≡ added v H
    → (r ≡ compress H w) × (length w' ≡ 16)
unfolding compress Holds turns
taken_all w w' H v r sixteen all e =
    let start : (s : ℕ) → 0 - 16 ≤ s → s < 0 - 16 + 16 → get_or w (s % 16) 0 ≡ W w s =
    λ s l u. (let place : s % 16 ≡ s = omega arith in rw place (sym (W-first w sixteen s (omega arith)))) in
    let end = all.leads w H sixteen (sixteen, start) refl in
    (e ∙ rw end.1, end.0.0)
