-- The message schedule: its length, that a word stays as it grows, and the equation of word 16 + t.
use mathlib.Core.Path.{◌≡◌, ◌∙◌}
use mathlib.Core.List.{List, [], ◌∷◌}
use Prim.Native.Nat.{ℕ, zero, suc, ◌+◌, ◌-◌, ◌<◌}
use native.Mathlib.Nat.{add-suc, add-zero, zero-add}
use native.Mathlib.Omega.{arith}
use lib.ListN.{length, get_or, length-append, get_or-append}
use lib.Seq.{get_or_at}
use Rattle.message_schedule.specs.Schedule.{mod32, σ0, σ1, next_word, schedule, W}

-- the sum of next_word over any words
unfoldable pub sum_of : (w2 w7 w15 w16 : ℕ) → ℕ
sum_of w2 w7 w15 w16 = mod32 (σ1 w2 + w7 + σ0 w15 + w16)

next_at : (S : List ℕ) (t : ℕ) → next_word S (16 + t) ≡ sum_of (get_or S (14 + t) 0) (get_or S (9 + t) 0) (get_or S (1 + t) 0) (get_or S t 0)
unfolding next_word sum_of
next_at S t =
    let e2 : 16 + t - 2 ≡ 14 + t = omega arith in
    let e7 : 16 + t - 7 ≡ 9 + t = omega arith in
    let e15 : 16 + t - 15 ≡ 1 + t = omega arith in
    let e16 : 16 + t - 16 ≡ t = omega arith in
    rw (e2, e7, e15, e16)

module _ (M : List ℕ) (sixteen : length M ≡ 16) where
  pub length_schedule : (n : ℕ) → length (schedule M n) ≡ 16 + n
  unfolding schedule
  length_schedule zero = sixteen
  length_schedule (suc n) =
      let e : length (schedule M n) ≡ 16 + n = length_schedule n in
      omega (arith, length-append (schedule M n) (next_word (schedule M n) (16 + n) ∷ []))

  pub schedule_keeps : (n k t : ℕ) → t < 16 + n → get_or (schedule M (n + k)) t 0 ≡ get_or (schedule M n) t 0
  unfolding schedule
  schedule_keeps n zero t h = rw add-zero
  schedule_keeps n (suc k) t h =
      let e : t < length (schedule M (n + k)) = rw (length_schedule (n + k)) (omega arith) in
      rw add-suc (get_or-append (schedule M (n + k)) (next_word (schedule M (n + k)) (16 + (n + k)) ∷ []) 0 t e
      ∙ schedule_keeps n k t h)

  -- every word but the first sixteen, in a schedule of m more
  pub schedule_next : (m t : ℕ) → t < m
      → get_or (schedule M m) (16 + t) 0
      ≡ sum_of (get_or (schedule M m) (14 + t) 0) (get_or (schedule M m) (9 + t) 0) (get_or (schedule M m) (1 + t) 0) (get_or (schedule M m) t 0)
  unfolding schedule
  schedule_next m t h =
      let k : ℕ = m - suc t in
      let e : m ≡ suc t + k = omega arith in
      let e' : m ≡ t + suc k = omega arith in
      let kept : (j : ℕ) → j < 16 + t → get_or (schedule M m) j 0 ≡ get_or (schedule M t) j 0
      = λ j p. rw e' (schedule_keeps t (suc k) j p) in
      let top : get_or (schedule M m) (16 + t) 0 ≡ get_or (schedule M (suc t)) (16 + t) 0
      = rw e (schedule_keeps (suc t) k (16 + t) (omega arith)) in
      top
      ∙ get_or_at (schedule M t) (next_word (schedule M t) (16 + t)) [] 0 (16 + t) (length_schedule t)
      ∙ next_at (schedule M t) t
      ∙ rw (kept (14 + t) (omega arith), kept (9 + t) (omega arith), kept (1 + t) (omega arith), kept t (omega arith))

  pub schedule_first : (n t : ℕ) → t < 16 → get_or (schedule M n) t 0 ≡ get_or M t 0
  unfolding schedule
  schedule_first n t h = rw (zero-add n) at (schedule_keeps 0 n t (omega arith))

  pub W-next : (t : ℕ) → t < 48 → W M (16 + t) ≡ sum_of (W M (14 + t)) (W M (9 + t)) (W M (1 + t)) (W M t)
  unfolding W
  W-next t h = schedule_next 48 t h

  pub W-first : (t : ℕ) → t < 16 → W M t ≡ get_or M t 0
  unfolding W
  W-first t h = schedule_first 48 t h
