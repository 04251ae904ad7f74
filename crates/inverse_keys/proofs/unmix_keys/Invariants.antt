use Rattle.inverse_keys.specs.Keys.{UnmixedTo}
use Rattle.inverse_keys.proofs.unmix_keys.Given as goal

abbrev pub invariant-loop-i : goal.invariant-loop-i
invariant-loop-i l = UnmixedTo l.i l.initial.keys l.keys
