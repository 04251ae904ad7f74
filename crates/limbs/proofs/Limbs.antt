-- Laws of limbs. A loop that goes up writes limb after limb; what it keeps is that the limbs written, with what is left
-- above them, make the whole: `over_turn` moves that on, and powers of the base come in only at the end, by `over_value`.
use mathlib.Core.Path.{◌≡◌, refl, sym, ap, ◌∙◌}
use mathlib.Core.List.{List, [], ◌∷◌, ◌++◌}
use Prim.Native.Nat.{ℕ, zero, suc, ◌+◌, ◌-◌, ◌*◌, ◌^◌, ◌≤◌, ◌<◌}
use native.Mathlib.Nat.{pow-zero, pow-suc}
use native.Mathlib.Numerals.{add-one}
use native.Mathlib.Omega.{arith}
use lib.ListN.{length, get_or, take, drop, set, drop_of_length-le}
use lib.Seq.{take-suc-set, drop-cons, drop-set-lt, take_all}
use Rattle.limbs.specs.Limbs.{over, value}

pub over_append : (xs ys : List ℕ) (v : ℕ) → over (xs ++ ys) v ≡ over xs (over ys v)
unfolding over
over_append [] ys v = refl
over_append (x ∷ xs) ys v = ap (λ (n : ℕ). x + 4294967296 * n) (over_append xs ys v)

-- the number above counts so many times the power of the base
pub over_value : (xs : List ℕ) (v : ℕ) → over xs v ≡ value xs + 4294967296 ^ length xs * v
unfolding over value
over_value [] v = omega (arith, pow-zero 4294967296)
over_value (x ∷ xs) v =
    let ih : over xs v ≡ over xs 0 + 4294967296 ^ length xs * v = over_value xs v in
    omega (arith, ap (λ (n : ℕ). n * v) (pow-suc 4294967296 (length xs)))

pub over_none : (xs : List ℕ) → over xs 0 ≡ value xs
unfolding value
over_none xs = refl

-- every limb is below the base
abbrev pub Limbs : List ℕ → Type 0
Limbs xs = (i : ℕ) → get_or xs i 0 < 4294967296

-- the highest limbs that differ decide
pub less_at : (a b : List ℕ) (j : ℕ) → Limbs a → j < length a → length a ≡ length b
    → value (drop (suc j) a) ≡ value (drop (suc j) b) → get_or a j 0 < get_or b j 0 → value a < value b
unfolding over value
less_at [] b j h i e q l = absurd (omega arith)
less_at (x ∷ xs) [] j h i e q l = absurd (omega arith)
less_at (x ∷ xs) (y ∷ ys) zero h i e q l = omega arith
less_at (x ∷ xs) (y ∷ ys) (suc j) h i e q l =
    let ih : over xs 0 < over ys 0 = less_at xs ys j (λ k. h (suc k)) (omega arith) (omega arith) q l in
    omega (arith, h 0)

-- a number is less than the power of the base that stands above its limbs
pub value_less : (xs : List ℕ) → Limbs xs → value xs < 4294967296 ^ length xs
unfolding over value
value_less [] h = omega (arith, pow-zero 4294967296)
value_less (x ∷ xs) h =
    let ih : over xs 0 < 4294967296 ^ length xs = value_less xs (λ i. h (suc i)) in
    omega (arith, h 0, pow-suc 4294967296 (length xs))

-- the lowest limb of what is left
pub over_drop : (t : List ℕ) (i v : ℕ) → i < length t → over (drop i t) v ≡ get_or t i 0 + 4294967296 * over (drop (i + 1) t) v
unfolding over
over_drop t i v h = rw (drop-cons t i 0 h, add-one i)

pub value_drop : (t : List ℕ) (i : ℕ) → i < length t → value (drop i t) ≡ get_or t i 0 + 4294967296 * value (drop (i + 1) t)
unfolding value
value_drop t i h = over_drop t i 0 h

-- the same, from above
pub value_below : (t : List ℕ) (i : ℕ) → 0 < i → i ≤ length t → value (drop (i - 1) t) ≡ get_or t (i - 1) 0 + 4294967296 * value (drop i t)
value_below t i h l =
    let e : i - 1 + 1 ≡ i = omega arith in
    value_drop t (i - 1) (omega arith) ∙ ap (λ (k : ℕ). get_or t (i - 1) 0 + 4294967296 * value (drop k t)) e

pub less_below : (a b : List ℕ) (i : ℕ) → Limbs a → 0 < i → i ≤ length a → length a ≡ length b
    → value (drop i a) ≡ value (drop i b) → get_or a (i - 1) 0 < get_or b (i - 1) 0 → value a < value b
less_below a b i h pos l e q d =
    let same : suc (i - 1) ≡ i = omega arith in
    less_at a b (i - 1) h (omega arith) e (rw same q) d

-- nothing is left at the end
pub over_end : (t : List ℕ) (i v : ℕ) → length t ≤ i → over (drop i t) v ≡ v
unfolding over
over_end t i v h = ap (λ (l : List ℕ). over l v) (drop_of_length-le t h)

-- one turn: a limb is written, and what is above it goes on
pub over_turn : (t : List ℕ) (i a w v n : ℕ) → i < length t → a + 4294967296 * w ≡ v → over (take i t) v ≡ n
    → over (take (i + 1) (set t i a)) w ≡ n
unfolding over
over_turn t i a w v n h e q =
    ap (λ (k : ℕ). over (take k (set t i a)) w) (add-one i)
    ∙ ap (λ (l : List ℕ). over l w) (take-suc-set t i a h)
    ∙ over_append (take i t) (a ∷ []) w
    ∙ ap (λ (k : ℕ). over (take i t) k) e
    ∙ q

-- what a turn leaves alone
pub drop_turn : (t : List ℕ) (i a : ℕ) → drop (i + 1) (set t i a) ≡ drop (i + 1) t
drop_turn t i a = drop-set-lt (i + 1) t i a (omega arith)

-- after the last turn: every limb is written, and v stands above them
pub over_last : (t : List ℕ) (i v w n : ℕ) → length t ≤ i → w ≡ v → over (take i t) w ≡ n → over t v ≡ n
over_last t i v w n h e q =
    ap (λ (l : List ℕ). over l v) (sym (take_all i t h)) ∙ ap (λ (k : ℕ). over (take i t) k) (sym e) ∙ q

pub value_end : (t : List ℕ) (i : ℕ) → length t ≤ i → value (drop i t) ≡ 0
unfolding value
value_end t i h = over_end t i 0 h
