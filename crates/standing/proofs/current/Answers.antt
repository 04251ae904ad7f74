-- `standing::current` meets its contract: with a key what is worked out from it and the window, without a key nothing.
use mathlib.Core.Path.{◌≡◌, refl}
use mathlib.Core.Bool.{true}
use Prim.Native.Nat.{ℕ}
use Rattle.std.specs.Prelude.{Option}
use Rattle.sizes.specs.Sizes.{window}
use Rattle.curve_laws.specs.Curves.{SECP160R1}
use Rattle.identifier.specs.declared.Identifier.{Identifier}
use Rattle.identifier.specs.Identifier.{pseudorandom, WorksOut}
use Rattle.unit.specs.declared.TagUnit.{TagUnit}
use Rattle.standing.specs.Standing.{current_scalar, current_identifier, current_r, stands, Current}
use Rattle.standing.proofs.current.Goals as goal

keyed_current : (u : TagUnit) (from : ℕ) (i : Option Identifier) → u.identity.held ≡ true → from ≡ window u.clock.seconds
    → WorksOut SECP160R1 (pseudorandom u.identity.bytes from) i → Current u i
unfolding stands current_scalar current_identifier current_r
keyed_current u from i held at w =
    let there = rw at at w in
    record { some_is = rw held there.some_is; r_is = there.r_is; id_is = there.id_is }

pub returns-then-k : goal.returns-then-k
returns-then-k c =
    keyed_current _ c.window_of.result c.of_key.result c.if-k.true c.window_of.ensures c.of_key.ensures

pub returns-else-k : goal.returns-else-k
unfolding stands
returns-else-k c = record { some_is = rw c.if-k.false refl; r_is = tt; id_is = tt }
