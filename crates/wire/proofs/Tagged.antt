-- What a tag covers, joined from the parts that the code hands to HMAC: version, nonce, ID and length in one, then the rest.
use mathlib.Core.Path.{◌≡◌, ap, ◌∙◌}
use mathlib.Core.List.{List, [], ◌∷◌, ◌++◌, append_assoc}
use Prim.Native.Nat.{ℕ}
use Rattle.wire.specs.Signing.{version}

pub covered_then : (nonce : List ℕ) (id size : ℕ) (head rest : List ℕ) → head ≡ (version ∷ nonce) ++ (id ∷ (size ∷ []))
    → head ++ rest ≡ version ∷ (nonce ++ (id ∷ size ∷ rest))
covered_then nonce id size head rest e =
    ap (λ (l : List ℕ). l ++ rest) e ∙ ap (λ (l : List ℕ). version ∷ l) (append_assoc nonce (id ∷ size ∷ []) rest)
