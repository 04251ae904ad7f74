-- `hash::value::after_block` gives the words of the block that ends such a message.
use Rattle.hash.proofs.Ending.{ending}
use borrow.Author.Rules.{rules}
use Rattle.hash.proofs.value.after_block.Goals as goal

pub returns : goal.returns
returns c =
    ending c.args.v (search rules) (search rules) (search rules) (search rules) (search rules) (search rules) (search rules) (search rules)
