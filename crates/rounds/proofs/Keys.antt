-- The first and the last round key of the equivalent inverse cipher are the key schedule's own.
use mathlib.Core.Path.{◌≡◌, sym, ap, ◌∙◌}
use mathlib.Core.List.{List}
use Prim.Native.Nat.{ℕ, ◌+◌, ◌*◌, ◌≤◌, ◌<◌}
use native.Mathlib.Nat.{add-zero}
use native.Mathlib.Omega.{arith}
use lib.Dec.{lit<}
use lib.ListN.{length, get_or}
use Rattle.laws.specs.Bytes.{◌⊕◌}
use Rattle.words.specs.Words.{bytes_of}
use Rattle.words.proofs.Words.{state_at}
use Rattle.inverse_keys.specs.Keys.{InverseKeys}
use Rattle.steps.specs.Steps.{AddRoundKey}

-- round keys of the same words
same_key : (ws vs s : List ℕ) (round : ℕ) → length ws ≡ length vs → 4 * round + 4 ≤ length ws
    → ((i : ℕ) → i < 4 → get_or ws (4 * round + i) 0 ≡ get_or vs (4 * round + i) 0)
    → AddRoundKey (bytes_of ws) round s ≡ AddRoundKey (bytes_of vs) round s
unfolding AddRoundKey
same_key ws vs s round long fits e =
    let first : get_or ws (4 * round) 0 ≡ get_or vs (4 * round) 0 = rw add-zero at (e 0 (lit< tt)) in
    ap (λ (k : List ℕ). s ⊕ k)
    (state_at ws round fits
    ∙ rw (first, e 1 (lit< tt), e 2 (lit< tt), e 3 (lit< tt)) (sym (state_at vs round (omega arith))))

module _ (Nr : ℕ) (w keys s : List ℕ) (k : InverseKeys Nr w keys) (fits : length keys ≡ 4 * (Nr + 1)) where
  pub first_key : AddRoundKey (bytes_of keys) 0 s ≡ AddRoundKey (bytes_of w) 0 s
  first_key = same_key keys w s 0 k.long (omega arith) (λ i h. k.first (4 * 0 + i) (omega arith))

  pub last_key : AddRoundKey (bytes_of keys) Nr s ≡ AddRoundKey (bytes_of w) Nr s
  last_key = same_key keys w s Nr k.long (omega arith) (λ i h. k.last (4 * Nr + i) (omega arith))
