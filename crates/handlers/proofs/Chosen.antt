-- An ID that has no handler.
use Prim.Native.Nat.{ℕ}
use mathlib.Core.Path.{◌≡◌}
use borrow.Author.Tests.{ne_eqb}
use Rattle.wire.specs.Shape.{Request}
use Rattle.unit.specs.declared.TagUnit.{TagUnit}
use Rattle.authentication.specs.Judgement.{invalid_value}
use Rattle.handlers.specs.ById.{by_id}

module _ (u : TagUnit) (q : Request) (reach : ℕ) where
  pub chosen_none : (q.id ≡ 0 → ⊥) → (q.id ≡ 1 → ⊥) → (q.id ≡ 2 → ⊥) → (q.id ≡ 3 → ⊥) → (q.id ≡ 4 → ⊥) → (q.id ≡ 5 → ⊥) → (q.id ≡ 6 → ⊥)
      → (q.id ≡ 7 → ⊥) → (q.id ≡ 8 → ⊥) → by_id u q reach ≡ invalid_value
  unfolding by_id
  chosen_none e0 e1 e2 e3 e4 e5 e6 e7 e8 =
      let i = q.id in
      rw (ne_eqb i 0 e0, ne_eqb i 1 e1, ne_eqb i 2 e2, ne_eqb i 3 e3, ne_eqb i 4 e4, ne_eqb i 5 e5, ne_eqb i 6 e6, ne_eqb i 7 e7, ne_eqb i 8 e8)
