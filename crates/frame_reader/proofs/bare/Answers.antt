-- `frame_reader::bare` meets its contract: behind a right head only the length counts, and the claimed frame has 8 and the identifier's bytes.
use mathlib.Core.Path.{sym, ap, ◌∙◌}
use native.Mathlib.Omega.{arith}
use Rattle.frame_reader.specs.Reader.{reads, refused}
use Rattle.frame_reader.proofs.Claims.{length_bare}
use Rattle.frame_reader.proofs.Whole.{cut_short, too_long, complete, claims_bare}
use Rattle.frame_reader.proofs.bare.Goals as goal

pub returns-then-text-whole : goal.returns-then-text-whole
returns-then-text-whole c =
    sym (cut_short c.args.size c.args.text.now c.requires.right
    (omega (arith, length_bare c.args.size c.args.text.now c.requires.says)))

pub returns-then-whole-text : goal.returns-then-whole-text
returns-then-whole-text c =
    let long = length_bare c.args.size c.args.text.now c.requires.says in
    sym (too_long c.args.size c.args.text.now c.requires.right (omega arith) ∙ ap (refused 8) long)

pub returns : goal.returns
returns c =
    sym (complete c.args.size c.args.text.now c.requires.right
    (omega (arith, length_bare c.args.size c.args.text.now c.requires.says))
    ∙ ap reads (claims_bare c.args.size c.args.text.now c.requires.says))
