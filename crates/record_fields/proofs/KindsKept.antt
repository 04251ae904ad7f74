-- The kinds of fields are lawful.
use Prim.Native.Nat.{ℕ, ◌-◌, ◌^◌, ◌≤◌, ◌<◌}
use mathlib.Core.Path.{◌≡◌, refl, ap, ◌∙◌}
use mathlib.Core.Bool.{Bool, true, false}
use native.Mathlib.Omega.{arith}
use lib.Dec.{eqb}
use lib.IntN.{ℤ, pos, negsuc}
use lib.Signed.{mag}
use lib.Seq.{get_or_at}
use borrow.Author.Tests.{le-ltb, lt-ltb}
use Rattle.laws.specs.Bytes.{number, big_endian}
use Rattle.laws.proofs.BigEndian.{length_big_endian}
use Rattle.octets.proofs.Numbers.{number_big_endian}
use Rattle.record_fields.specs.Part.{Lawful}
use Rattle.record_fields.specs.Kinds.{byte, plain, number_of, flag, flag_byte, power, power_size, power_word, word_power}
use Rattle.record_fields.proofs.Joining.{run_here}

pub byte_lawful : Lawful byte
byte_lawful = record { sized = λ v h. refl; back = λ v h before after. get_or_at before v after 0 _ refl }

pub plain_lawful : (n : ℕ) → Lawful (plain n)
plain_lawful n = record { sized = λ v h. h; back = λ v h before after. run_here before v after n h }

pub number_lawful : (n : ℕ) → Lawful (number_of n)
number_lawful n =
    record {
      sized = λ v h. length_big_endian n v;
      back = λ v h before after.
          ap number (run_here before (big_endian n v) after n (length_big_endian n v)) ∙ number_big_endian n v h;
    }

flag_same : (f : Bool) → eqb (flag_byte f) 1 ≡ f
flag_same false = refl
flag_same true = refl

pub flag_lawful : Lawful flag
flag_lawful =
    record { sized = λ v h. refl; back = λ v h before after. ap (λ (n : ℕ). eqb n 1) (get_or_at before (flag_byte v) after 0 _ refl) ∙ flag_same v }

-- power, by its sign
pub power_small : (p : ℤ) → mag p < 2 ^ 31 → power_word p < 256 ^ power_size
power_small (pos n) h = omega arith
power_small (negsuc n) h = omega arith

pub power_same : (p : ℤ) → mag p < 2 ^ 31 → word_power (power_word p) ≡ p
power_same (pos n) h = rw (lt-ltb n (2 ^ 31) h)
power_same (negsuc n) h =
    let low : 2 ^ 31 ≤ (2 ^ 32 - 1) - n = omega arith in
    let again : (2 ^ 32 - 1) - ((2 ^ 32 - 1) - n) ≡ n = omega arith in
    rw (le-ltb ((2 ^ 32 - 1) - n) (2 ^ 31) low, again)

pub power_lawful : Lawful power
power_lawful =
    record {
      sized = λ p h. length_big_endian power_size (power_word p);
      back = λ p h before after.
          ap word_power ((number_lawful power_size).back (power_word p) (power_small p h) before after) ∙ power_same p h;
    }
