-- `answering::conclude` meets its contract: the data are signed with the nonce of the judgement, and written.
use mathlib.Core.Path.{refl}
use Rattle.authentication.proofs.Judged.{acceptance, granted_so}
use Rattle.answering.proofs.conclude.Goals as goal

pub returns : goal.returns
returns c = λ u j n p.
    let so = granted_so p refl in
    acceptance u j c.accept.result c.accept.ensures (c.sign-count.ensures so.key so.key_is) (rw n so.accepts_so)
