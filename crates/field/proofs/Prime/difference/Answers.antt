-- `Prime::difference` meets its contract: the difference of the limbs, modulo m.
use native.Mathlib.Omega.{arith}
use native.Mathlib.Nat.{mod-lt}
use Rattle.field.proofs.Forms as forms
use Rattle.field.proofs.Prime.difference.Goals as goal

pub returns : goal.returns
returns g c =
    let a = c.args in
    let f = a.self.now in
    let r = c.subtract_mod in
    forms.difference f r.new.t a.a a.b (record { width = omega arith; less = rw r.ensures (mod-lt _ (omega arith)) }) c.requires.0 c.requires.1 r.ensures
