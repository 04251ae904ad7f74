-- `Prime::square` meets its contract: Montgomery's product of the limbs by themselves.
use native.Mathlib.Omega.{arith}
use Rattle.field.proofs.Forms as forms
use Rattle.field.proofs.Prime.square.Goals as goal

pub montgomery-requires : goal.montgomery-requires
montgomery-requires g c =
    let f = c.args.self.now in
    let h = c.requires in
    (f.field.modulus, forms.below_zeros f g.row.N (omega arith), h, h.width, forms.value_zeros g.row.N)

pub returns : goal.returns
returns g c =
    let a = c.args in
    let f = a.self.now in
    let r = c.montgomery in
    forms.product f r.new.t a.a a.a r.ensures.0 c.requires c.requires r.ensures.1
