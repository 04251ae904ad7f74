-- `frame_reader::read` meets its contract: where the text reads, its identifier stands behind its head.
use mathlib.Core.Path.{◌≡◌}
use native.Mathlib.Omega.{arith}
use borrow.Author.Rules.{rules}
use Rattle.std.specs.Prelude.{Ok}
use Rattle.frame_reader.proofs.Scanning.{form_read, whole}
use Rattle.frame_reader.proofs.read.Goals as goal

pub slice_bounds-array-end : goal.slice_bounds-array-end
slice_bounds-array-end c =
    let form : c.judged.result ≡ Ok c.in_ok-form.form = search rules in
    omega (arith, whole c.args.text.now c.judged.result c.judged.ensures c.in_ok-form.form form)

pub returns : goal.returns
returns c =
    let form : c.judged.result ≡ Ok c.in_ok-form.form = search rules in
    form_read c.args.text.now c.judged.result c.judged.ensures c.in_ok-form.form form c.array.result c.array.ensures
