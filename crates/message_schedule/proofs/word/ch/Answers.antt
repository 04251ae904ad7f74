-- `message_schedule::word::ch` is Ch in its short form.
use borrow.Author.Rules.{rules}
use Rattle.message_schedule.proofs.Digits.{short_ch}
use Rattle.message_schedule.proofs.word.ch.Goals as goal

pub returns : goal.returns
returns c = short_ch c.args.x c.args.y c.args.z (search rules) (search rules) (search rules)
