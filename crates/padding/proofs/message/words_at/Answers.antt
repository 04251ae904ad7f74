-- `padding::message::words_at` reads sixteen words. The loop's invariant: the first t words are in place.
use mathlib.Core.Path.{◌≡◌, sym, ◌∙◌}
use Prim.Native.Nat.{◌+◌, ◌*◌}
use native.Mathlib.Omega.{arith}
use lib.ListN.{length}
use Rattle.laws.proofs.Tabulate.{filled_none, filled_turn, filled_all}
use Rattle.laws.proofs.BigEndian.{number_four, of_four}
use Rattle.padding.specs.Padding.{words_at}
use Rattle.padding.proofs.message.words_at.Goals as goal

pub loop-t-init : goal.loop-t-init
loop-t-init c = filled_none _ _

pub loop-t-preserved : goal.loop-t-preserved
loop-t-preserved c =
    let a = c.args in
    let at = c.loop-t in
    let word = c.from_be_bytes.ensures ∙ of_four _ _ _ _ ∙ sym (number_four a.bytes.now (a.at + 4 * at.t) (omega arith)) in
    filled_turn _ a.words.now at.words at.t c.from_be_bytes.result 0 (omega arith) at.invariant word

pub returns : goal.returns
unfolding words_at
returns c =
    let at = c.loop-t in
    let e : at.t ≡ 16 = omega arith in
    let sixteen : length c.args.words.now ≡ 16 = c.requires.1 in
    rw e at (at.invariant ∙ filled_all _ _ at.t (e ∙ sym sixteen))
