-- `replay::feed` meets its contract: a session that is not bounded takes nothing, another takes the piece.
use mathlib.Core.Path.{refl}
use Rattle.laws.proofs.Flags.{clash}
use Rattle.session.specs.Feeding.{fed}
use Rattle.replay.proofs.feed.Goals as goal

pub take-requires : goal.take-requires
take-requires c = c.bounded.ensures.bounded_if c.if-bounded.true

pub returns : goal.returns
unfolding fed
returns c =
    record {
      taken_is = λ s. absurd (clash (c.bounded.ensures.only_if s) c.if-bounded.false);
      takes_nothing = λ unsound. refl;
      state_is = refl;
      written_is = refl;
      bytes_are = refl;
      stays_bounded = λ s. s;
    }
