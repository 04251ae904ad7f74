-- `Prime::product` meets its contract: Montgomery's product of the limbs.
use native.Mathlib.Omega.{arith}
use Rattle.field.proofs.Forms as forms
use Rattle.field.proofs.Prime.product.Goals as goal

pub montgomery-requires : goal.montgomery-requires
montgomery-requires g c =
    let f = c.args.self.now in
    let h = c.requires in
    (f.field.modulus, forms.below_zeros f g.row.N (omega arith), h.1, h.0.width, forms.value_zeros g.row.N)

pub returns : goal.returns
returns g c =
    let a = c.args in
    let f = a.self.now in
    let r = c.montgomery in
    forms.product f r.new.t a.a a.b r.ensures.0 c.requires.0 c.requires.1 r.ensures.1
