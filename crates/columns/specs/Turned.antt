-- A word of 32 bits shifted and turned.
use Rattle.std.specs.Prelude.{ℕ, ◌-◌, ◌*◌, ◌/◌, ◌%◌, ◌^◌}
use Rattle.std.specs.Int.Bits.{bit_xor}

-- a word shifted to the left by k digits
abbrev pub shl : ℕ → ℕ → ℕ
shl k x = x * 2 ^ k % 2 ^ 32

-- a word turned to the left by k digits
abbrev pub turned : ℕ → ℕ → ℕ
turned k x = bit_xor (shl k x) (x / 2 ^ (32 - k))
