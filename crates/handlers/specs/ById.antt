-- The request by its ID, judged on the unit with its nonce spent.
use Rattle.std.specs.Prelude.{ℕ, cond, eqb}
use Rattle.wire.specs.Shape.{Request}
use Rattle.unit.specs.declared.TagUnit.{TagUnit}
use Rattle.authentication.specs.Judgement.{Judgement, invalid_value}
use Rattle.parameter_read.specs.Parameters.{read_parameters}
use Rattle.state_read.specs.State.{read_state}
use Rattle.provisioning.specs.Provisioning.{set_key}
use Rattle.clearing.specs.Clearing.{clear_key}
use Rattle.recovery.specs.Recovery.{recover_key}
use Rattle.ringing.specs.Ringing.{ring, read_sound}
use Rattle.protecting.specs.Protecting.{protect, unprotect}

-- the request by its ID; only a ring looks at the reach
unfoldable pub by_id : TagUnit → Request → ℕ → Judgement
by_id u q reach =
    cond (eqb q.id 0x00) (read_parameters u q)
    (cond (eqb q.id 0x01) (read_state u q)
    (cond (eqb q.id 0x02) (set_key u q)
    (cond (eqb q.id 0x03) (clear_key u q)
    (cond (eqb q.id 0x04) (recover_key u q)
    (cond (eqb q.id 0x05) (ring u q reach)
    (cond (eqb q.id 0x06) (read_sound u q)
    (cond (eqb q.id 0x07) (protect u q)
    (cond (eqb q.id 0x08) (unprotect u q) invalid_value))))))))
