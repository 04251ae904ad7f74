-- `provisioning::may_replace` meets its contract, by the length and by whether a key is held.
use Rattle.provisioning.proofs.Judging.{replace_proved, replace_none, replace_first}
use Rattle.wire.specs.Shape.{request}
use mathlib.Core.Path.{sym, ◌∙◌}
use Rattle.provisioning.proofs.may_replace.Goals as goal

pub returns-then-u : goal.returns-then-u
returns-then-u c =
    replace_proved c.args.u (request c.args.h c.args.additional.now) c.if-h-eq-PROVEN_SIZE.true c.if-u.true
    c.proves.ensures

pub returns-else-u : goal.returns-else-u
returns-else-u c =
    c.if-u.false ∙ sym (replace_none c.args.u (request c.args.h c.args.additional.now) c.if-h-eq-PROVEN_SIZE.true c.if-u.false)

pub returns-else-h-eq-PROVEN_SIZE : goal.returns-else-h-eq-PROVEN_SIZE
returns-else-h-eq-PROVEN_SIZE c =
    sym (replace_first c.args.u (request c.args.h c.args.additional.now) c.if-h-eq-PROVEN_SIZE.false)
