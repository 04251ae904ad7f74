-- `tag::account_key` meets its contract: what passes the guards is handed on, and what does not is refused by them.
use Rattle.unit.proofs.Lines.{lines, accounts_legal_lem}
use Rattle.tag.specs.Calls.{guarded, call, own}
use Rattle.tag.proofs.Guards.{formed_own, formed_refuses, formed_passed}
use Rattle.unit.proofs.Ends.{refused_completes}
use Rattle.tag.proofs.account_key.Goals as goal

pub added-requires : goal.added-requires
added-requires c = accounts_legal_lem _ (lines _ (formed_passed _ c.formed.ensures c.in-Ok.is)).accounts

pub returns-in-Ok : goal.returns-in-Ok
unfolding guarded call own
returns-in-Ok c = rw (formed_own _ c.formed.ensures _ c.in-Ok.is) c.added.ensures

pub returns-in-Err : goal.returns-in-Err
unfolding guarded call own
returns-in-Err c = rw (formed_refuses _ c.formed.ensures _ c.in-Err.is) (refused_completes c.refuse.ensures)
