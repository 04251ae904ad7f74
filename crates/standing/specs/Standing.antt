-- The identifier that stands for the current window, with its r: the one place that says which it is, and whether the tag has one to show.
use Rattle.std.specs.Prelude.{ℕ, ◌≡◌, Bool, cond, not, ◌&&◌, List, [], eqb, Option, is_some, IfSome}
use Rattle.sizes.specs.Sizes.{window}
use Rattle.curve_laws.specs.Curves.{SECP160R1}
use Rattle.identifier.specs.declared.Identifier.{Identifier}
use Rattle.identifier.specs.Identifier.{pseudorandom, scalar, identifier_by, aligned}
use Rattle.unit.specs.Change.{keyed, key_in_force}
use Rattle.unit.specs.declared.TagUnit.{TagUnit}

-- r of the current window, made from the identity key in force; and what the tag shows of it
unfoldable pub current_scalar : TagUnit → ℕ
current_scalar u = scalar SECP160R1 (pseudorandom (key_in_force u) (window u.clock.seconds))

unfoldable pub current_identifier : TagUnit → List ℕ
current_identifier u = identifier_by SECP160R1 (current_scalar u)

unfoldable pub current_r : TagUnit → List ℕ
current_r u = aligned SECP160R1 (current_scalar u)

-- "0x01 omits the identifier, and a frame is refused with 5, only with no key or if r is 0 before the cut"
unfoldable pub stands : TagUnit → Bool
stands u = keyed u && not (eqb (current_scalar u) 0)

unfoldable pub shown_identifier : TagUnit → List ℕ
shown_identifier u = cond (stands u) (current_identifier u) []

-- What is promised of the identifier that the code works out
pub record Current (u : TagUnit) (i : Option Identifier) : Type 0 where
  pub some_is : is_some i ≡ stands u
  pub r_is : IfSome i (λ i. i.r ≡ current_r u)
  pub id_is : IfSome i (λ i. i.id ≡ current_identifier u)
