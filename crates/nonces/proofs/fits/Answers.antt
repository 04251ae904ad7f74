-- `nonces::fits` meets its contract: eight bytes, and no row has them.
use mathlib.Core.Path.{sym}
use Rattle.nonces.specs.Nonces.{nonce_fits, issued_nonces}
use borrow.Author.Tests.{eq-eqb, ne_eqb}
use Rattle.nonces.proofs.fits.Goals as goal

pub returns-then-lent-eq-NONCE_SIZE : goal.returns-then-lent-eq-NONCE_SIZE
unfolding nonce_fits issued_nonces
returns-then-lent-eq-NONCE_SIZE c =
    rw (eq-eqb _ 8 c.if-lent-eq-NONCE_SIZE.true, sym c.table-all.ensures.0, c.among.ensures)

pub returns-else-lent-eq-NONCE_SIZE : goal.returns-else-lent-eq-NONCE_SIZE
unfolding nonce_fits
returns-else-lent-eq-NONCE_SIZE c = rw (ne_eqb _ 8 c.if-lent-eq-NONCE_SIZE.false)
