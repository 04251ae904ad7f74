-- `give` meets its contract: after i turns the first i bytes are pasted over the answer's, where they fit exactly; otherwise nothing is.
use mathlib.Core.Path.{◌≡◌, refl, sym}
use Prim.Native.Nat.{◌+◌, ◌≤◌}
use native.Mathlib.Omega.{arith}
use native.Mathlib.Nat.{zero-add}
use lib.ListN.{length, length-set}
use lib.Seq.{paste-zero}
use Rattle.laws.proofs.Copied.{copied_turn, copied_all, copied_over}
use Rattle.lent_answer.proofs.Answered.{given_all, given_none}
use Rattle.lent_answer.proofs.give.Goals as goal

pub returns-then-answer-bytes : goal.returns-then-answer-bytes
returns-then-answer-bytes c = given_none c.args.bytes.now c.args.answer.now _ (λ e. omega (arith, e))

pub loop-i-init : goal.loop-i-init
loop-i-init c = (paste-zero c.args.answer.now 0 c.args.bytes.now, refl)

pub loop-i-preserved : goal.loop-i-preserved
loop-i-preserved c =
    let a = c.args in
    let now = c.loop-i in
    let room : 0 + length a.bytes.now ≤ length a.answer.now = omega arith in (
      rw (zero-add now.i) at (copied_turn a.answer.now 0 a.bytes.now now.answer now.i 0 room (omega arith) now.invariant.0),
      simp length-set now.invariant.1,
    )

pub returns : goal.returns
returns c =
    let before = c.args.answer.now in
    let bytes = c.args.bytes.now in
    let now = c.loop-i in
    let fits : length before ≡ length bytes = omega arith in
    let all : now.i ≡ length bytes = omega arith in
    given_all bytes before now.answer fits
    (copied_over before bytes now.answer (sym fits) (copied_all before 0 bytes now.answer now.i all now.invariant.0))
