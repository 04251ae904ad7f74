-- `frame_reader::judged` meets its contract: a wrong head is refused at its place, a right one hands on to the form that its length byte says.
use mathlib.Core.Path.{◌≡◌, sym, ap, ◌∙◌}
use native.Mathlib.Omega.{arith}
use Rattle.frame_reader.specs.Reader.{refused, first_wrong}
use Rattle.frame_reader.proofs.Claims.{wrong_within}
use Rattle.frame_reader.proofs.Whole.{wrong_head}
use Rattle.frame_reader.proofs.judged.Goals as goal

pub returns-then-at-lt-FRAME_IDENTIFIER_AT : goal.returns-then-at-lt-FRAME_IDENTIFIER_AT
returns-then-at-lt-FRAME_IDENTIFIER_AT c =
    let place : c.head_right-at.result ≡ first_wrong c.args.size c.args.text.now
    = omega (arith, c.head_right-at.ensures) in
    ap (refused 8) place ∙ sym (wrong_head c.args.size c.args.text.now (omega arith))

pub says_flags-requires : goal.says_flags-requires
says_flags-requires c =
    (omega (arith, c.head_right-at.ensures, wrong_within c.args.size c.args.text.now), c.requires)

pub flagged-requires : goal.flagged-requires
flagged-requires c =
    record {
      fits = c.requires;
      right = omega (arith, c.head_right-at.ensures);
      says = sym c.says_flags.ensures ∙ c.if-says_flags.true;
    }

pub bare-requires : goal.bare-requires
bare-requires c =
    record {
      fits = c.requires;
      right = omega (arith, c.head_right-at.ensures);
      says = sym c.says_flags.ensures ∙ c.if-says_flags.false;
    }
