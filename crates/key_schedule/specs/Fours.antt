-- Keys whose words are made four at a time: Nk is 4 or 8.
use Rattle.std.specs.Prelude.{ℕ, ◌%◌, ◌≤◌, ◌≡◌}

-- Nk is 4 or 8, and n a multiple of 4
pub record Fours (Nk n : ℕ) : Type 0 where
  pub some : 4 ≤ Nk
  pub few : Nk ≤ 8
  pub whole : Nk % 4 ≡ 0
  pub place : n % 4 ≡ 0
