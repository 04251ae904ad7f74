-- An answer that stands first, before the rest of the lent bytes.
use Prim.Native.Nat.{ℕ}
use mathlib.Core.Path.{◌≡◌}
use mathlib.Core.List.{List, ◌++◌}
use lib.ListN.{length, drop}
use Rattle.laws.specs.Answer.{lent_after, Wrote}

pub wrote : {answer before bytes : List ℕ} {count : ℕ} → count ≡ length answer → bytes ≡ answer ++ drop count before
    → Wrote answer count before bytes
unfolding lent_after
wrote n b = record { count_is = n; bytes_are = rw n at b }
