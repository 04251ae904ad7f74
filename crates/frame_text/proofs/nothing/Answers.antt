-- `frame_text::nothing` meets its contract: no bytes before zeros.
use mathlib.Core.Path.{refl}
use mathlib.Core.List.{[]}
use Rattle.laws.proofs.Answered.{wrote}
use Rattle.frame_text.proofs.nothing.Goals as goal

pub returns : goal.returns
returns c = wrote {answer = []} refl refl
