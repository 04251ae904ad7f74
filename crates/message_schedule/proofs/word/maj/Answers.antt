-- `message_schedule::word::maj` is Maj in its short form.
use borrow.Author.Rules.{rules}
use Rattle.message_schedule.proofs.Digits.{short_maj}
use Rattle.message_schedule.proofs.word.maj.Goals as goal

pub returns : goal.returns
returns c = short_maj c.args.x c.args.y c.args.z (search rules) (search rules) (search rules)
