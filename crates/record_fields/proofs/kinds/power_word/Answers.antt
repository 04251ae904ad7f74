-- `kinds::power_word` meets its contract, by the sign.
use mathlib.Core.Path.{◌≡◌}
use mathlib.Core.Bool.{false}
use Prim.Native.Nat.{◌<◌}
use native.Mathlib.Omega.{arith}
use lib.IntN.{pos, ◌+ℤ◌}
use lib.Signed.{lt_z}
use mir.Syntax.{w64}
use mir.Val.{SFits}
use mir.Facts.{sfits_widen, to_z-of_z}
use Rattle.record_fields.specs.Kinds.{power_word}
use Rattle.record_fields.proofs.Power.{from_bits, from_wide_bits, below_zero, from_zero, from_zero_is, power_word_small, word_fits}
use Rattle.record_fields.proofs.kinds.power_word.Goals as goal

sum : (c : goal.Then-p-lt0) → c.args.power +ℤ pos 4294967296 ≡ pos (power_word c.args.power)
sum c =
    let h = c.ranges.power in
    below_zero c.args.power h (rw (from_bits h, from_wide_bits h) at c.if-p-lt0.true)

sum_fits : (c : goal.Then-p-lt0) → SFits w64 (pos (power_word c.args.power))
sum_fits c = word_fits (power_word_small c.args.power c.ranges.power)

not_negative : (c : goal.Else-p-lt0) → lt_z c.args.power (pos 0) ≡ false
not_negative c = rw (from_bits c.ranges.power, from_wide_bits c.ranges.power) at c.if-p-lt0.false

pub overflow_cast-p : goal.overflow_cast-p
overflow_cast-p c = rw (from_bits c.ranges.power) (sfits_widen tt c.ranges.power)

pub overflow_add-result : goal.overflow_add-result
overflow_add-result c =
    let h = c.ranges.power in
    rw (from_bits h, from_wide_bits h, sum c) (sum_fits c)

pub overflow_cast-result : goal.overflow_cast-result
overflow_cast-result c =
    let h = c.ranges.power in
    let small : power_word c.args.power < 4294967296 = power_word_small c.args.power h in
    rw (from_bits h, from_wide_bits h, sum c, to_z-of_z (sum_fits c)) (tt, record { fits = omega arith })

pub overflow_cast-result-else-p-lt0 : goal.overflow_cast-result-else-p-lt0
overflow_cast-result-else-p-lt0 c =
    let h = c.ranges.power in
    rw (from_bits h, from_wide_bits h) (from_zero c.args.power h (not_negative c))

pub returns-then-p-lt0 : goal.returns-then-p-lt0
returns-then-p-lt0 c =
    let h = c.ranges.power in
    rw (from_bits h, from_wide_bits h, sum c, to_z-of_z (sum_fits c))

pub returns-else-p-lt0 : goal.returns-else-p-lt0
returns-else-p-lt0 c =
    let h = c.ranges.power in
    rw (from_bits h, from_wide_bits h) (from_zero_is c.args.power (not_negative c))
