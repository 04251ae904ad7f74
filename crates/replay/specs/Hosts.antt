-- A host that begins, feeds and finishes: what its calls take and write, in total.
use Rattle.std.specs.Prelude.{Some}
use Rattle.std.specs.Prelude.{ℕ, ◌≡◌, List, [], ◌++◌, take}
use Rattle.session.specs.declared.Session.{Session}
use Rattle.session.specs.Replay as replay
use Rattle.session.specs.Feeding.{first}
use Rattle.session.specs.Session.{state_of, Feeds, Finishes}

-- Calls of `feed`, each on the session that the one before it gave: the bytes that they took and the bytes that they wrote, in total
pub data Calls : Session → List ℕ → List ℕ → Session → Type 0 where
  none : {s : Session} → Calls s [] [] s
  more : {s t z : Session} {piece before after input output : List ℕ} {taken written : ℕ}
      → Feeds s piece before t taken written after → Calls t input output z → Calls s (take taken piece ++ input) (take written after ++ output) z

-- So a host that begins, feeds a file in any pieces and finishes has written what `replay` gives for the file
abbrev pub AnyHost : Type 0
AnyHost =
    (s z : Session) (input output before after : List ℕ) (n : ℕ) → state_of s ≡ first → Calls s input output z
    → Finishes z before (Some n) after → output ++ take n after ≡ replay.replay input
