-- Two functions of three words are equal where each digit of their values depends on the same digits of the words alone, and they agree on
-- single digits: one test of eight cases. Ch and Maj in their short forms are its two uses.
use mathlib.Core.Path.{◌≡◌, refl, sym, ap, ap₂, ◌∙◌}
use mathlib.Core.List.{List, [], ◌∷◌}
use Prim.Native.Nat.{ℕ, zero, suc, ◌+◌, ◌-◌, ◌*◌, ◌/◌, ◌%◌, ◌^◌, ◌<◌}
use native.Mathlib.Omega.{arith}
use native.Mathlib.Nat.{pow-suc}
use lib.Bits.{bit_and, bit_xor, and_shr, xor_shr, and_mod, xor_mod}
use lib.Dec.{T}
use lib.ListN.{get_or}
use Rattle.laws.proofs.Table.{same_below, below}
use Rattle.message_schedule.specs.Schedule.{Ch, Maj}

by_halves : (x y : ℕ) → x / 2 ≡ y / 2 → x % 2 ≡ y % 2 → x ≡ y
by_halves x y h o = omega arith

half_below : (k x : ℕ) → x < 2 ^ suc k → x / 2 < 2 ^ k
half_below k x h = omega (arith, pow-suc 2 k)

-- f k is the function on words of k digits
abbrev Digitwise : (ℕ → ℕ → ℕ → ℕ → ℕ) → Type 0
Digitwise f =
    (k x y z : ℕ) → x < 2 ^ suc k → (f (suc k) x y z / 2 ≡ f k (x / 2) (y / 2) (z / 2)) × (f (suc k) x y z % 2 ≡ f 1 (x % 2) (y % 2) (z % 2))

-- the eight cases of three digits
cases : (ℕ → ℕ → ℕ → ℕ → ℕ) → ℕ → List ℕ
cases f i = f 1 (i % 2) (i / 2 % 2) (i / 4) ∷ []

module _ (f g : ℕ → ℕ → ℕ → ℕ → ℕ) (F : Digitwise f) (G : Digitwise g) (none : f 0 0 0 0 ≡ g 0 0 0 0) (t : T (same_below (cases f) (cases g) 8)) where
  digit : (x y z : ℕ) → x < 2 → y < 2 → z < 2 → f 1 x y z ≡ g 1 x y z
  unfolding cases
  digit x y z hx hy hz =
      let i : ℕ = x + 2 * y + 4 * z in
      let ex : i % 2 ≡ x = omega arith in
      let half : i / 2 ≡ y + 2 * z = omega arith in
      let ey : i / 2 % 2 ≡ y = rw half (omega arith) in
      let ez : i / 4 ≡ z = omega arith in
      rw (ex, ey, ez) at (ap (λ (l : List ℕ). get_or l 0 0) (below (cases f) (cases g) 8 t i (omega arith)))

  agree : (k x y z : ℕ) → x < 2 ^ k → y < 2 ^ k → z < 2 ^ k → f k x y z ≡ g k x y z
  agree zero x y z hx hy hz =
      let ex : x ≡ 0 = omega arith in
      let ey : y ≡ 0 = omega arith in
      let ez : z ≡ 0 = omega arith in
      rw (ex, ey, ez) none
  agree (suc k) x y z hx hy hz =
      by_halves (f (suc k) x y z) (g (suc k) x y z)
      ((F k x y z hx).0 ∙ agree k (x / 2) (y / 2) (z / 2) (half_below k x hx) (half_below k y hy) (half_below k z hz) ∙ sym (G k x y z hx).0)
      ((F k x y z hx).1 ∙ digit (x % 2) (y % 2) (z % 2) (omega arith) (omega arith) (omega arith) ∙ sym (G k x y z hx).1)

-- ---- Ch

choice : ℕ → ℕ → ℕ → ℕ → ℕ
choice k x y z = bit_xor z (bit_and x (bit_xor y z))

choice_digits : Digitwise choice
unfolding choice
choice_digits k x y z h = (
  xor_shr z (bit_and x (bit_xor y z)) 1 ∙ ap (bit_xor (z / 2)) (and_shr x (bit_xor y z) 1 ∙ ap (bit_and (x / 2)) (xor_shr y z 1)),
  xor_mod z (bit_and x (bit_xor y z)) 1 ∙ ap (bit_xor (z % 2)) (and_mod x (bit_xor y z) 1 ∙ ap (bit_and (x % 2)) (xor_mod y z 1)),
)

-- the standard's, with the complement of k digits
chosen : ℕ → ℕ → ℕ → ℕ → ℕ
chosen k x y z = bit_xor (bit_and x y) (bit_and (2 ^ k - 1 - x) z)

chosen_digits : Digitwise chosen
unfolding chosen
chosen_digits k x y z h =
    let n : ℕ = 2 ^ suc k - 1 - x in
    let half : n / 2 ≡ 2 ^ k - 1 - x / 2 = omega (arith, pow-suc 2 k) in
    let odd : n % 2 ≡ 1 - x % 2 = omega (arith, pow-suc 2 k) in (
      xor_shr (bit_and x y) (bit_and n z) 1 ∙ ap₂ bit_xor (and_shr x y 1) (and_shr n z 1 ∙ ap (λ (c : ℕ). bit_and c (z / 2)) half),
      xor_mod (bit_and x y) (bit_and n z) 1 ∙ ap₂ bit_xor (and_mod x y 1) (and_mod n z 1 ∙ ap (λ (c : ℕ). bit_and c (z % 2)) odd),
    )

pub short_ch : (x y z : ℕ) → x < 2 ^ 32 → y < 2 ^ 32 → z < 2 ^ 32 → bit_xor z (bit_and x (bit_xor y z)) ≡ Ch x y z
unfolding Ch choice chosen cases
short_ch = agree choice chosen choice_digits chosen_digits refl tt 32

-- ---- Maj

greater : ℕ → ℕ → ℕ → ℕ → ℕ
greater k x y z = bit_xor y (bit_and (bit_xor x y) (bit_xor y z))

greater_digits : Digitwise greater
unfolding greater
greater_digits k x y z h = (
  xor_shr y (bit_and (bit_xor x y) (bit_xor y z)) 1
      ∙ ap (bit_xor (y / 2)) (and_shr (bit_xor x y) (bit_xor y z) 1 ∙ ap₂ bit_and (xor_shr x y 1) (xor_shr y z 1)),
  xor_mod y (bit_and (bit_xor x y) (bit_xor y z)) 1
      ∙ ap (bit_xor (y % 2)) (and_mod (bit_xor x y) (bit_xor y z) 1 ∙ ap₂ bit_and (xor_mod x y 1) (xor_mod y z 1)),
)

-- the standard's
majority : ℕ → ℕ → ℕ → ℕ → ℕ
majority k x y z = bit_xor (bit_xor (bit_and x y) (bit_and x z)) (bit_and y z)

majority_digits : Digitwise majority
unfolding majority
majority_digits k x y z h = (
  xor_shr (bit_xor (bit_and x y) (bit_and x z)) (bit_and y z) 1
      ∙ ap₂ bit_xor (xor_shr (bit_and x y) (bit_and x z) 1 ∙ ap₂ bit_xor (and_shr x y 1) (and_shr x z 1)) (and_shr y z 1),
  xor_mod (bit_xor (bit_and x y) (bit_and x z)) (bit_and y z) 1
      ∙ ap₂ bit_xor (xor_mod (bit_and x y) (bit_and x z) 1 ∙ ap₂ bit_xor (and_mod x y 1) (and_mod x z 1)) (and_mod y z 1),
)

pub short_maj : (x y z : ℕ) → x < 2 ^ 32 → y < 2 ^ 32 → z < 2 ^ 32 → bit_xor y (bit_and (bit_xor x y) (bit_xor y z)) ≡ Maj x y z
unfolding Maj greater majority cases
short_maj = agree greater majority greater_digits majority_digits refl tt 32
