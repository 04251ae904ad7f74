-- `read_call::issued` meets its contract: a nonce that fits is written behind the version, and any other is refused.
use Prim.Native.Nat.{suc}
use mathlib.Core.Path.{refl, sym, ap, ◌∙◌}
use mathlib.Core.List.{[], ◌∷◌}
use native.Mathlib.Omega.{arith}
use Rattle.laws.proofs.Copied.{copied_next}
use Rattle.nonces.proofs.Lines.{nonces_lines}
use Rattle.nonces.proofs.Issuing.{fits_sized}
use Rattle.read_call.specs.Read.{issuing}
use Rattle.unit.proofs.Ends.{refused_answers, done_answers}
use Rattle.read_call.proofs.issued.Goals as goal

pub fits-requires : goal.fits-requires
fits-requires c = (nonces_lines _ c.requires.0).count

pub array-requires : goal.array-requires
array-requires c = (omega arith, fits_sized _ _ (sym c.fits.ensures ∙ c.if-not-fits.false))

pub put-requires-2 : goal.put-requires-2
put-requires-2 c =
    omega (arith, fits_sized _ _ (sym c.fits.ensures ∙ c.if-not-fits.false))

pub returns : goal.returns
unfolding issuing
returns c =
    let fits = sym c.fits.ensures ∙ c.if-not-fits.false in
    let sized = fits_sized _ _ fits in
    let version = copied_next c.args.answer.now [] (1 ∷ []) _ _ 0 refl refl c.put.ensures in
    let all = copied_next c.args.answer.now (1 ∷ []) c.args.lent.now _ _ 1 refl version c.put-2.ensures in
    rw fits
    (done_answers (rw (c.issued.ensures, c.array.ensures) at c.accept.ensures) (ap suc (sym sized)) (rw sized at all))

pub returns-then-not-fits : goal.returns-then-not-fits
unfolding issuing
returns-then-not-fits c =
    rw (sym c.fits.ensures ∙ c.if-not-fits.true) (refused_answers _ c.refuse.ensures)
