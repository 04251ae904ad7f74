-- `session::closing::breaks` meets its contract: the run is ended, and the text is of at most 33 bytes.
use native.Mathlib.Omega.{arith}
use mathlib.Core.Path.{refl}
use Rattle.printing.proofs.Texts.{length_malformed}
use Rattle.session.proofs.closing.breaks.Goals as goal

pub returns : goal.returns
returns c =
    let known = c.args in
    record {
      state_is = refl;
      bounded = record { numbered = c.requires.1.numbered; within_kept = c.requires.1.within_kept };
      few = omega (arith, length_malformed known.run.number);
      puts = c.malformed.ensures;
    }
