-- Bytes put into others from a place on, and numbers read off bytes: what the functions of this crate promise.
use Rattle.std.specs.Prelude.{ℕ, ◌+◌, ◌^◌, ◌<◌, ◌≡◌, List, ◌++◌, length, take, drop}
use Rattle.laws.specs.Bytes.{number}

-- `bytes` stand from the place `at` on; what was before and after them stays
abbrev pub pasted : List ℕ → ℕ → List ℕ → List ℕ
pasted before at bytes = take at before ++ (bytes ++ drop (at + length bytes) before)

-- what a function that puts bytes at a place promises: there are `size` of them, and the others stay
pub record Puts (at size : ℕ) (bytes before after : List ℕ) : Type 0 where
  pub put_is : after ≡ pasted before at bytes
  pub size_is : length bytes ≡ size

-- what a function that reads a number promises
pub record Reads (bytes : List ℕ) (n : ℕ) : Type 0 where
  pub number_is : n ≡ number bytes
  pub small : n < 256 ^ length bytes
