-- A step of time that is refused, as the promise that it makes.
use Prim.Native.Nat.{ℕ}
use mathlib.Core.Path.{◌≡◌}
use mathlib.Core.List.{List}
use Rattle.std.specs.Prelude.{Err}
use Rattle.unit.specs.declared.TagUnit.{TagUnit}
use Rattle.unit.specs.declared.Refusal.{Refusal}
use Rattle.unit.specs.Types.{Reply}
use Rattle.unit.specs.Refusals.{refusal_number}
use Rattle.unit.specs.Outcome.{refusing}
use Rattle.unit.proofs.Ends.{refused_answers}
use Rattle.time.specs.Passing.{Passes}

pub refused_passes : {u after : TagUnit} {reply : Reply} {r : Refusal} {ended : ℕ} (lent : List ℕ)
    → (after ≡ u) × ((reply ≡ Err r) × (ended ≡ 0)) → Passes (refusing (refusal_number r) u) after reply ended lent lent
refused_passes lent h = record { answers = refused_answers lent (h.0, h.1.0); ended_is = h.1.1 }
