-- A message as it is read block by block: its 64 bytes from any byte on, and what follows blocks that went before it.
use Rattle.std.specs.Prelude.{ℕ, ◌+◌, List, ◌++◌, length, get_or}
use Rattle.laws.specs.Bytes.{tabulate}
use Rattle.padding.specs.Padding.{padding}

-- 64 bytes of a list, from byte `at` on; zeros past its end
unfoldable pub block_at : List ℕ → ℕ → List ℕ
block_at l at = tabulate 64 (λ j. get_or l (at + j) 0)

-- the message m and the padding of the whole, where `before` bytes went before m
unfoldable pub followed : ℕ → List ℕ → List ℕ
followed before m = m ++ padding (before + length m)
