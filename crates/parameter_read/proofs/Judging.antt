-- The judgement of 0x00, from what its handler tests: a key that was found.
use Prim.Native.Nat.{ℕ}
use mathlib.Core.Path.{◌≡◌}
use mathlib.Core.List.{List}
use mathlib.Core.Option.{some, none}
use Rattle.primitives.specs.Standards.{AES128}
use Rattle.wire.specs.Shape.{Request}
use Rattle.unit.specs.Change.{with_accounts}
use Rattle.unit.specs.declared.TagUnit.{TagUnit}
use Rattle.unit.specs.declared.Accounts.{Accounts}
use Rattle.authentication.specs.Judgement.{accepts, not_authenticated, answered, used_key}
use Rattle.account_keys.specs.Order.{key_used}
use Rattle.parameter_read.specs.Parameters.{parameters, read_parameters}

module _ (u : TagUnit) (q : Request) where
  pub parameters_nowhere : used_key u q ≡ none → read_parameters u q ≡ not_authenticated
  unfolding read_parameters
  parameters_nowhere e = rw e

  pub parameters_read_lem : {key used block plain : List ℕ} {after : Accounts} → used_key u q ≡ some used → key ≡ used
      → plain ≡ parameters u.settings u.clock.seconds → block ≡ AES128 key plain → after ≡ key_used used u.accounts
      → read_parameters u q ≡ accepts (with_accounts after u) (answered used u q block)
  unfolding read_parameters
  parameters_read_lem e k p b a = rw (e, a, b, p, k)
