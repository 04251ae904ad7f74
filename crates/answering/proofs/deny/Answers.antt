-- `answering::deny` meets its contract: the unit that the request was judged on, and the refusal that it was denied with.
use mathlib.Core.Path.{refl}
use Rattle.authentication.proofs.Judged.{refusal, denied_so}
use Rattle.answering.proofs.deny.Goals as goal

pub returns : goal.returns
returns c = λ id j lent p.
    refusal c.args.u j c.refuse.result c.args.refusal lent c.refuse.ensures (denied_so p refl)
