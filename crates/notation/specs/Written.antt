-- What an inner function that writes into lent bytes from a place on promises. No promise of a public call cites it.
use Rattle.std.specs.Prelude.{ℕ, ◌+◌, ◌≡◌, List, ◌++◌, length, take, drop}

-- bytes with a text put at a place; the others stay
unfoldable pub placed : ℕ → List ℕ → List ℕ → List ℕ
placed at text before = take at before ++ (text ++ drop (at + length text) before)

-- a text is written at a place; the next place, and the bytes after
pub record PutsText (text : List ℕ) (at : ℕ) (before : List ℕ) (next : ℕ) (after : List ℕ) : Type 0 where
  pub next_is : next ≡ at + length text
  pub bytes_are : after ≡ placed at text before
