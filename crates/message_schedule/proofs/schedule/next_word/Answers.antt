-- `message_schedule::schedule::next_word` makes a word in the place of the one sixteen before it.
use Rattle.message_schedule.proofs.Words.{sum_of}
use Rattle.message_schedule.proofs.Window.{made_next}
use Rattle.message_schedule.proofs.schedule.next_word.Goals as goal

pub returns : goal.returns
unfolding sum_of
returns c = λ p later below.
    made_next p c.args.place c.args.w.now c.word_from-next.result later below c.requires c.word_from-next.ensures
