-- `frame_reader::flagged` meets its contract: as `bare`, with one byte more.
use Prim.Native.Nat.{◌+◌}
use mathlib.Core.Path.{◌≡◌, sym, ap, ◌∙◌}
use native.Mathlib.Omega.{arith}
use lib.ListN.{length}
use Rattle.frame_reader.specs.Reader.{reads, refused, claimed_frame}
use Rattle.frame_reader.proofs.Claims.{length_flagged}
use Rattle.frame_reader.proofs.Whole.{cut_short, too_long, complete, claims_flagged}
use Rattle.frame_reader.proofs.flagged.Goals as goal

pub returns-then-text-flags_at : goal.returns-then-text-flags_at
returns-then-text-flags_at c =
    sym (cut_short c.args.size c.args.text.now c.requires.right
    (omega (arith, length_flagged c.args.size c.args.text.now c.requires.says)))

pub returns-then-flags_at-text : goal.returns-then-flags_at-text
returns-then-flags_at-text c =
    let long : length (claimed_frame c.args.size c.args.text.now) ≡ 8 + c.args.size + 1
    = omega (arith, length_flagged c.args.size c.args.text.now c.requires.says) in
    sym (too_long c.args.size c.args.text.now c.requires.right (omega arith) ∙ ap (refused 8) long)

pub returns : goal.returns
returns c =
    sym (complete c.args.size c.args.text.now c.requires.right
    (omega (arith, length_flagged c.args.size c.args.text.now c.requires.says))
    ∙ ap reads (claims_flagged c.args.size c.args.text.now c.requires.says))
