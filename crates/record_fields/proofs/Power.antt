-- Power and its 32 bits, by the sign.
use mathlib.Core.Path.{◌≡◌, refl, sym, ◌∙◌}
use mathlib.Core.Bool.{true, false, true≢false}
use Prim.Native.Nat.{ℕ, suc, ◌-◌, ◌≤◌, ◌<◌}
use native.Mathlib.Omega.{arith}
use lib.IntN.{ℤ, pos, negsuc, ◌+ℤ◌, ◌-ℤ◌, nat_abs}
use lib.Signed.{lt_z, non_neg}
use lib.Dec.{T}
use mir.Syntax.{w32, w64}
use mir.Val.{SFits, Fits, to_z, of_z}
use mir.Facts.{to_z-of_z, to_z_pos, sfits_widen}
use borrow.Author.Tests.{le-ltb, lt-ltb, ltb-true}
use Rattle.record_fields.specs.Kinds.{power_word, word_power}

-- power as it comes back from its 32 bits, and then from its 64
pub from_bits : {p : ℤ} → SFits w32 p → to_z w32 (of_z w32 p) ≡ p
from_bits h = to_z-of_z h

pub from_wide_bits : {p : ℤ} → SFits w32 p → to_z w64 (of_z w64 p) ≡ p
from_wide_bits h = to_z-of_z {w = w64} (sfits_widen {w = w32} {w' = w64} tt h)

-- a power below 0 and 2^32 give the word; one that is not is the word
pub below_zero : (p : ℤ) → SFits w32 p → lt_z p (pos 0) ≡ true → p +ℤ pos 4294967296 ≡ pos (power_word p)
below_zero (pos n) h e = absurd (omega (arith, ltb-true n 0 e))
below_zero (negsuc n) h e =
    let small : suc n ≤ 4294967296 = omega arith in
    let same : 4294967296 - suc n ≡ 4294967295 - n = omega arith in
    rw (le-ltb 4294967296 (suc n) small, same)

pub from_zero : (p : ℤ) → SFits w32 p → lt_z p (pos 0) ≡ false → T (non_neg p) × Fits w64 (nat_abs p)
from_zero (pos n) h e = (tt, record { fits = omega arith })
from_zero (negsuc n) h e = absurd (true≢false e)

pub from_zero_is : (p : ℤ) → lt_z p (pos 0) ≡ false → nat_abs p ≡ power_word p
from_zero_is (pos n) e = refl
from_zero_is (negsuc n) e = absurd (true≢false e)

pub power_word_small : (p : ℤ) → SFits w32 p → power_word p < 4294967296
power_word_small (pos n) h = omega arith
power_word_small (negsuc n) h = omega arith

pub word_fits : {w : ℕ} → w < 4294967296 → SFits w64 (pos w)
word_fits h = record { sfits = omega arith }

-- a word below 2^31 is the power; another gives it less 2^32
pub low_word : (w : ℕ) → w < 2147483648 → to_z w32 w ≡ word_power w
low_word w h = to_z_pos w32 h ∙ sym (rw (lt-ltb w 2147483648 h))

pub high_word : (w : ℕ) → 2147483648 ≤ w → w < 4294967296 → to_z w64 w -ℤ pos 4294967296 ≡ word_power w
high_word w h k =
    let wide : to_z w64 w ≡ pos w = to_z_pos w64 (omega arith) in
    let same : 4294967296 - suc w ≡ 4294967295 - w = omega arith in
    rw (wide, lt-ltb w 4294967296 k, le-ltb w 2147483648 h, same)

pub high_word_fits : (w : ℕ) → 2147483648 ≤ w → SFits w32 (word_power w)
high_word_fits w h = rw (le-ltb w 2147483648 h) (record { sfits = omega arith })
