-- `padding::parts::Message::laid_out` lays out the four parts, the mark and the length, one after another.
use mathlib.Core.Path.{◌∙◌}
use Rattle.laws.proofs.BigEndian.{eight_bytes}
use Rattle.padding.specs.Padding.{zeros}
use Rattle.padding.proofs.Padded.{six_laid}
use Rattle.padding.proofs.parts.Message.laid_out.Goals as goal

pub returns : goal.returns
unfolding zeros
returns c =
    let m = c.args.self.now in
    six_laid m.before c.args.at m.first.now m.head.now m.tail.now m.last.now c.to_be_bytes-length.result _ _ _ _ _ _
    m.whole c.lay.ensures c.lay-2.ensures c.lay-3.ensures c.lay-4.ensures
    c.lay-5.ensures (c.to_be_bytes-length.ensures ∙ eight_bytes _) c.lay-6.ensures
