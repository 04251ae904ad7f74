-- `frame_text::refused` meets its contract: the words, and the place in decimal.
use mathlib.Core.Path.{◌≡◌, refl}
use mathlib.Core.List.{[], ◌∷◌}
use Rattle.notation.specs.Text.{decimal, decimal_in}
use Rattle.frame_text.specs.Answers.{refusal_text}
use Rattle.frame_text.proofs.Said.{said}
use Rattle.frame_text.proofs.refused.Goals as goal

eight : decimal 8 ≡ 56 ∷ []
unfolding decimal decimal_in
eight = refl

pub returns : goal.returns
unfolding refusal_text
returns c = rw eight (said c.decimal_line-count.ensures)
