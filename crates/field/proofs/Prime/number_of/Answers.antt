-- `Prime::number_of` meets its contract: the product by 1 takes the power away.
use Rattle.field.proofs.Forms as forms
use Rattle.field.proofs.Prime.number_of.Goals as goal

pub returns : goal.returns
returns g c =
    let a = c.args in
    let f = a.self.now in
    (c.product.ensures.form, forms.out_of_form f a.a c.unit.result c.product.result c.unit.ensures c.product.ensures)
