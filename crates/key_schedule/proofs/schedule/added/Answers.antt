-- `key_schedule::schedule::added` looks the word before up in the box: turned and with the constant where a turn starts, as it is in its middle.
use mathlib.Core.Path.{◌≡◌, sym, ◌∙◌}
use Prim.Native.Nat.{◌%◌}
use Rattle.key_schedule.proofs.Phases.{fifth}
use Rattle.key_schedule.proofs.Fours.{added_first, added_fifth}
use borrow.Author.Rules.{rules}
use Rattle.key_schedule.proofs.schedule.added.Goals as goal

pub returns-then-phase-eq0 : goal.returns-then-phase-eq0
returns-then-phase-eq0 c = λ Nk n w f before e constant.
    let zero : n % Nk ≡ 0 = sym e ∙ c.if-phase-eq0.true in
    added_first Nk n w c.bytes_of-p.result c.args.previous f before c.bytes_of-p.ensures c.args.constant c.sub_word-s.result
    c.word_of.result zero (search rules) constant c.sub_word-s.ensures c.word_of.ensures

pub returns : goal.returns
returns c = λ Nk n w f before e constant.
    let place = fifth Nk n f (λ z. c.if-phase-eq0.false (e ∙ z)) in
    added_fifth Nk n w c.bytes_of-p.result c.args.previous f before c.bytes_of-p.ensures c.sub_word.result place.0 place.1 c.sub_word.ensures
