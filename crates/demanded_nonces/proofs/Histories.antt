-- Histories in two parts: what comes after the one and then the other.
use mathlib.Core.Path.{◌≡◌, refl}
use mathlib.Core.List.{List, [], ◌∷◌, ◌++◌}
use Rattle.unit.specs.declared.TagUnit.{TagUnit}
use Rattle.tag.specs.Calls.{Act}
use Rattle.demanded_answers.specs.History.{step, after}

pub after_append : (g h : List Act) (u : TagUnit) → after (g ++ h) u ≡ after h (after g u)
unfolding after
after_append [] h u = refl
after_append (c ∷ g) h u = after_append g h (step c u).unit

pub one_more : (h : List Act) (a : Act) (u : TagUnit) → after (h ++ (a ∷ [])) u ≡ (step a (after h u)).unit
unfolding after
one_more h a u = after_append h (a ∷ []) u
