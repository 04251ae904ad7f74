-- The advertised frame of a unit that passed the guards, and when there is none.
use Rattle.std.specs.Prelude.{Bool, true, false, cond}
use Rattle.sizes.specs.Sizes.{identifier_size}
use Rattle.unit.specs.declared.TagUnit.{TagUnit}
use Rattle.unit.specs.declared.Protection.{Protection}
use Rattle.unit.specs.Outcome.{Outcome, giving, refusing}
use Rattle.standing.specs.Standing.{stands, current_identifier, current_r}
use Rattle.frame.specs.Frame.{rendered, flags_for}

abbrev pub protected : Protection → Bool
protected Protection.Off = false
protected (Protection.On skip) = true

-- "a frame is refused with 5, only with no key or if r is 0 before the cut"
unfoldable pub showing : TagUnit → Outcome
showing u =
    cond (stands u)
    (giving
    (rendered identifier_size (current_identifier u) (protected u.protection)
    (flags_for u.battery (protected u.protection) (current_r u)))
    u)
    (refusing 5 u)
