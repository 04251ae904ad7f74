-- `key_schedule::schedule::put_key` meets its contract: k turns store the key's first k words.
use mathlib.Core.Path.{◌≡◌, refl, ◌∙◌}
use Prim.Native.Nat.{◌*◌}
use native.Mathlib.Omega.{arith}
use lib.Seq.{take_all}
use Rattle.words.specs.Words.{bytes_of}
use Rattle.key_schedule.proofs.Fours.{key_turn}
use Rattle.key_schedule.proofs.schedule.put_key.Goals as goal

pub loop-k-init : goal.loop-k-init
unfolding bytes_of
loop-k-init c = refl

pub loop-k-preserved : goal.loop-k-preserved
loop-k-preserved c =
    let l = c.loop-k in
    key_turn c.args.key.now l.w l.k c.word_of.result (omega arith) (omega arith) (λ i. (c.type_inv.key i).fits) l.invariant c.word_of.ensures

pub returns : goal.returns
returns c =
    let l = c.loop-k in
    let e : l.k ≡ c.args.nk = omega arith in
    rw e at l.invariant ∙ take_all (4 * c.args.nk) c.args.key.now (omega arith)
