-- Laws of a map over a list: its elements, as a tabulation, and of two maps that agree on bytes.
use mathlib.Core.Path.{◌≡◌, refl, ap₂, ◌∙◌}
use mathlib.Core.List.{List, [], ◌∷◌, map}
use Prim.Native.Nat.{ℕ, zero, suc, ◌<◌}
use native.Mathlib.Omega.{arith}
use lib.ListN.{length, get_or, length-map}
use Rattle.laws.specs.Bytes.{tabulate}
use Rattle.laws.proofs.Tabulate.{is_tabulate}

pub get_or_map : (f : ℕ → ℕ) (s : List ℕ) (i : ℕ) → i < length s → get_or (map f s) i 0 ≡ f (get_or s i 0)
get_or_map f [] i h = absurd (omega arith)
get_or_map f (x ∷ s) zero h = refl
get_or_map f (x ∷ s) (suc i) h = get_or_map f s i (omega arith)

pub map_tabulate : (f : ℕ → ℕ) (s : List ℕ) (n : ℕ) → length s ≡ n → map f s ≡ tabulate n (λ i. f (get_or s i 0))
map_tabulate f s n e =
    is_tabulate 0 n (λ i. f (get_or s i 0)) (map f s) (length-map s f ∙ e) (λ i h. get_or_map f s i (omega arith))

-- maps that agree on bytes
pub map_agree : (f g : ℕ → ℕ) → ((b : ℕ) → b < 256 → f b ≡ g b) → (s : List ℕ) → ((i : ℕ) → get_or s i 0 < 256) → map f s ≡ map g s
map_agree f g h [] b = refl
map_agree f g h (x ∷ s) b = ap₂ (λ (y : ℕ) (t : List ℕ). y ∷ t) (h x (b 0)) (map_agree f g h s (λ i. b (suc i)))
