-- `key_schedule::schedule::put_four` meets its contract: four stores in a row.
use native.Mathlib.Omega.{arith}
use lib.ListN.{length-set}
use Rattle.key_schedule.proofs.Words.{word_stored}
use borrow.Author.Rules.{rules}
use Rattle.key_schedule.proofs.schedule.put_four.Goals as goal

pub bounds-w-at-2 : goal.bounds-w-at-2
bounds-w-at-2 c = simp length-set (omega arith)

pub bounds-w-at-3 : goal.bounds-w-at-3
bounds-w-at-3 c = simp length-set (omega arith)

pub bounds-w-at-4 : goal.bounds-w-at-4
bounds-w-at-4 c = simp length-set (omega arith)

pub returns : goal.returns
returns c = word_stored c.args.w.now c.args.a c.args.at c.requires (search rules)
