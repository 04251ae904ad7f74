-- `key_calls::accounts::added` meets its contract: what led to each return decides the definition.
use Rattle.unit.proofs.Ends.{refused_completes, done_completes}
use mathlib.Core.Path.{sym, ◌∙◌}
use borrow.Author.Tests.{eq-eqb, ne_eqb}
use Rattle.sizes.specs.Sizes.{account_key_size}
use Rattle.key_calls.specs.Keys.{keeping}
use Rattle.key_calls.proofs.accounts.added.Goals as goal

pub returns-then-key-ne-ACCOUNT_KEY_SIZE : goal.returns-then-key-ne-ACCOUNT_KEY_SIZE
unfolding keeping
returns-then-key-ne-ACCOUNT_KEY_SIZE c =
    rw (ne_eqb _ account_key_size c.if-key-ne-ACCOUNT_KEY_SIZE.true) (refused_completes c.refuse.ensures)

pub returns-then-held : goal.returns-then-held
unfolding keeping
returns-then-held c =
    rw (eq-eqb _ account_key_size c.if-key-ne-ACCOUNT_KEY_SIZE.false, sym c.held.ensures ∙ c.if-held.true) (done_completes c.accept.ensures)

pub added-accounts-requires : goal.added-accounts-requires
added-accounts-requires c =
    (c.requires, c.if-key-ne-ACCOUNT_KEY_SIZE.false)

pub returns : goal.returns
unfolding keeping
returns c =
    rw (eq-eqb _ account_key_size c.if-key-ne-ACCOUNT_KEY_SIZE.false, sym c.held.ensures ∙ c.if-held.false)
    (done_completes (rw c.added-accounts.ensures at c.accept-2.ensures))
