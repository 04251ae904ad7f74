-- `digits::to_bytes` meets its contract: the loop puts the bytes in front, one a turn.
use mathlib.Core.Path.{◌≡◌, sym, ap, ◌∙◌}
use Prim.Native.Nat.{ℕ, ◌-◌, ◌*◌, ◌/◌, ◌%◌, ◌^◌}
use lib.ListN.{length, get_or}
use Rattle.limbs.specs.Limbs.{value}
use Rattle.laws.specs.Bytes.{big_endian, tabulate}
use Rattle.laws.proofs.Tabulate.{filled_none, filled_turn, filled_all, tabulate_get_or}
use Rattle.laws.proofs.BigEndian.{length_big_endian, get_or_big_endian}
use native.Mathlib.Omega.{arith}
use Rattle.digits.proofs.to_bytes.Goals as goal

pub loop-i-init : goal.loop-i-init
loop-i-init c = filled_none _ _

pub loop-i-preserved : goal.loop-i-preserved
loop-i-preserved c =
    let l = c.loop-i in
    let a = c.args in
    let n = length a.out.now in
    let v = value a.t.now in
    let same : length l.out - 1 - l.i ≡ n - 1 - l.i = omega arith in
    filled_turn (λ j. get_or (big_endian n v) j 0) a.out.now l.out l.i c.byte.result 0 (omega arith) l.invariant
    (c.byte.ensures ∙ ap (λ (j : ℕ). v / 2 ^ (8 * j) % 256) same ∙ sym (get_or_big_endian n v l.i (omega arith)))

pub returns : goal.returns
returns c =
    let l = c.loop-i in
    let n = length c.args.out.now in
    let v = value c.args.t.now in
    let f : ℕ → ℕ = λ j. get_or (big_endian n v) j 0 in
    let all : l.i ≡ n = omega arith in
    l.invariant ∙ filled_all f c.args.out.now l.i all ∙ ap (λ (k : ℕ). tabulate k f) (all ∙ sym (length_big_endian n v)) ∙ tabulate_get_or 0 (big_endian n v)
