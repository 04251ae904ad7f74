-- `kinds::word_power` meets its contract: by the highest bit.
use native.Mathlib.Omega.{arith}
use mir.Facts.{sfits_widen}
use Rattle.record_fields.proofs.Power.{low_word, high_word, high_word_fits, from_bits, from_wide_bits}
use Rattle.record_fields.proofs.kinds.word_power.Goals as goal

pub overflow_sub-result : goal.overflow_sub-result
overflow_sub-result c =
    let w = c.args.word in
    rw (high_word w (omega arith) (omega arith)) (sfits_widen tt (high_word_fits w (omega arith)))

pub overflow_cast-result-else-word-lt2147483648-2 : goal.overflow_cast-result-else-word-lt2147483648-2
overflow_cast-result-else-word-lt2147483648-2 c =
    let w = c.args.word in
    rw (high_word w (omega arith) (omega arith), from_wide_bits (high_word_fits w (omega arith))) (high_word_fits w (omega arith))

pub returns-then-word-lt2147483648 : goal.returns-then-word-lt2147483648
returns-then-word-lt2147483648 c =
    low_word c.args.word (omega arith)

pub returns-else-word-lt2147483648 : goal.returns-else-word-lt2147483648
returns-else-word-lt2147483648 c =
    let w = c.args.word in
    let high = high_word_fits w (omega arith) in
    rw (high_word w (omega arith) (omega arith), from_wide_bits high, from_bits high)
