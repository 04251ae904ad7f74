-- The judgement of 0x03, from what its handler tests: a key that was found, a proof that holds.
use Prim.Native.Nat.{ℕ}
use mathlib.Core.Path.{◌≡◌}
use mathlib.Core.Bool.{true, false}
use mathlib.Core.List.{List, []}
use mathlib.Core.Option.{some, none}
use Rattle.wire.specs.Shape.{Request}
use Rattle.unit.specs.declared.TagUnit.{TagUnit}
use Rattle.authentication.specs.Judgement.{accepts, not_authenticated, proves, answered, signed_by_owner}
use Rattle.clearing.specs.Clearing.{cleared, clear_key}

module _ (u : TagUnit) (q : Request) where
  pub clear_nowhere : signed_by_owner u q ≡ none → clear_key u q ≡ not_authenticated
  unfolding clear_key
  clear_nowhere e = rw e

  pub clear_unproved : {key : List ℕ} → signed_by_owner u q ≡ some key → proves u q.additional ≡ false → clear_key u q ≡ not_authenticated
  unfolding clear_key
  clear_unproved e p = rw (e, p)

  pub key_cleared_lem : {used : List ℕ} {after : TagUnit} → signed_by_owner u q ≡ some used → proves u q.additional ≡ true → after ≡ cleared u
      → clear_key u q ≡ accepts after (answered used u q [])
  unfolding clear_key
  key_cleared_lem e p a = rw (e, p, a)
