-- `steps::forward::add_round_key` adds the four words of a round key to those of the state.
use mathlib.Core.Path.{◌≡◌, sym, ap, ◌∙◌}
use lib.ListN.{length, get_or}
use mir.Syntax.{w8}
use mir.Val.{Fits}
use Rattle.words.specs.Words.{bytes_of}
use Rattle.steps.specs.Steps.{AddRoundKey}
use Rattle.steps.proofs.State.{in_words, keyed}
use borrow.Author.Rules.{rules}
use Rattle.steps.proofs.forward.add_round_key.Goals as goal

pub returns : goal.returns
returns c =
    let a = c.args in
    let w = a.keys.now in
    let long : length a.s ≡ 16 = search rules in
    c.state_of.ensures
    ∙ rw (
      c.word_of.ensures,
      c.word_of-2.ensures,
      c.word_of-3.ensures,
      c.word_of-4.ensures,
    )
    (sym
    (ap (AddRoundKey (bytes_of w) a.round) (in_words a.s long (λ i. let f : Fits w8 (get_or a.s i 0) = search rules in f.fits))
    ∙ keyed w a.round _ _ _ _ c.requires))
