-- Lists of bytes stay so when they are cut and joined.
use Prim.Native.Nat.{ℕ, zero, suc, ◌+◌, ◌≤◌, ◌<◌}
use mathlib.Core.List.{List, [], ◌∷◌, ◌++◌}
use native.Mathlib.Omega.{arith}
use native.Mathlib.Decide.{dec_lt}
use lib.ListN.{length, get_or, take, drop, length-take, get_or-eq_default}
use lib.Seq.{get_or-take, get_or-drop}
use Rattle.tag.specs.Calls.{Act}
use Rattle.demanded_answers.specs.History.{Bytes, AllOfBytes}

pub bytes_drop : (n : ℕ) (l : List ℕ) → Bytes l → Bytes (drop n l)
bytes_drop n l b i = rw (get_or-drop n l i 0) (b (n + i))

pub bytes_take : (n : ℕ) (l : List ℕ) → Bytes l → Bytes (take n l)
bytes_take n l b i = go (dec_lt i n)
  where
    go : Dec (i < n) → get_or (take n l) i 0 < 256
    go (yes h) = rw (get_or-take n l i 0 h) (b i)
    go (no h) =
        let past : length (take n l) ≤ i = omega (arith, length-take n l) in
        rw (get_or-eq_default (take n l) 0 past) (omega arith)

pub bytes_cons : (x : ℕ) (l : List ℕ) → x < 256 → Bytes l → Bytes (x ∷ l)
bytes_cons x l h b zero = h
bytes_cons x l h b (suc i) = b i

pub bytes_append : (a b : List ℕ) → Bytes a → Bytes b → Bytes (a ++ b)
bytes_append [] b p q i = q i
bytes_append (x ∷ a) b p q zero = p 0
bytes_append (x ∷ a) b p q (suc i) = bytes_append a b (λ j. p (suc j)) q i

-- Histories of bytes, in two parts
pub split_bytes : (g h : List Act) → AllOfBytes (g ++ h) → AllOfBytes g × AllOfBytes h
split_bytes [] h b = (tt, b)
split_bytes (c ∷ g) h b =
    let rest = split_bytes g h b.1 in
    ((b.0, rest.0), rest.1)
