-- Words of 32 bits as bytes, the first byte of each highest.
use Rattle.std.specs.Prelude.{ℕ, List, [], ◌∷◌, ◌++◌}
use Rattle.laws.specs.Bytes.{big_endian}

-- the bytes of words, one word after another
unfoldable pub bytes_of : List ℕ → List ℕ
bytes_of [] = []
bytes_of (w ∷ ws) = big_endian 4 w ++ bytes_of ws
