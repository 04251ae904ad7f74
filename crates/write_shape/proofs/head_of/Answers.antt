-- `write_shape::head_of` meets its contract: the tag is a part of eight bytes.
use Rattle.write_shape.proofs.Shaped.{head_is}
use Rattle.write_shape.proofs.head_of.Goals as goal

pub returns : goal.returns
returns c = head_is c.args.w.now c.array.ensures
