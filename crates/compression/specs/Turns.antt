-- What turns of the loop over t (FIPS 180-4, §6.2.2, step 3) promise that make the words of the schedule in place.
use Rattle.std.specs.Prelude.{◌≡◌, ℕ, ◌+◌, List, length}
use Rattle.message_schedule.specs.Window.{Holds}
use Rattle.compression.specs.Compression.{turns}
use Rattle.compression.specs.declared.Working.{Working}

-- n turns from turn t on: the working variables v and the buffer w have become those after n more turns, for every block M and hash value H.
pub record Taken (n t : ℕ) (w w' : List ℕ) (v v' : Working) : Type 0 where
  pub leads : (M : List ℕ) (H : Working) → length M ≡ 16 → Holds M t w → v ≡ turns M t H → Holds M (t + n) w' × (v' ≡ turns M (t + n) H)
