-- `Factored::form_of` meets its contract: the power squared, by Montgomery's product, leaves the power.
use Rattle.field.proofs.Forms as forms
use Rattle.field.proofs.Factored.form_of.Goals as goal

pub returns : goal.returns
returns g c =
    let a = c.args in
    let f = a.self.now in
    forms.into_form f.prime a.a f.factor c.product.result c.requires f.squared c.product.ensures
