-- `key_schedule::schedule::put_schedule` meets its contract: four words a turn, those made so far are the schedule's first.
use mathlib.Core.Path.{◌≡◌, refl, sym, ap, ◌∙◌}
use Prim.Native.Nat.{ℕ, ◌+◌, ◌*◌, ◌≤◌}
use native.Mathlib.Omega.{arith}
use native.Mathlib.Nat.{zero-mod, zero-div}
use lib.ListN.{length}
use Rattle.laws.specs.Bytes.{big_endian}
use Rattle.substitution.specs.Field.{xtimes}
use Rattle.key_schedule.specs.Expansion.{expanded}
use Rattle.key_schedule.specs.Fours.{Fours}
use Rattle.key_schedule.proofs.Fours.{expansion_turn, last_stored}
use Rattle.key_schedule.proofs.schedule.put_schedule.Goals as goal

pub loop-turn-init : goal.loop-turn-init
unfolding expanded xtimes
loop-turn-init c =
    let none : c.args.nk + 0 ≡ c.args.nk = omega arith in
    record { counted = sym (zero-mod c.args.nk); doubled = rw zero-div; made = rw none c.put_key.ensures; last = rw none }

pub loop-turn-preserved : goal.loop-turn-preserved
loop-turn-preserved c =
    let l = c.loop-turn in
    let a = c.args in
    let n : ℕ = 4 * l.turn in
    let f = c.requires.fours.0 in
    let some : 4 ≤ a.nk = f.some in
    let few : a.nk ≤ 8 = f.few in
    let fours : Fours a.nk n = record { some = f.some; few = f.few; whole = f.whole; place = omega arith } in
    let next : 4 * (l.turn + 1) ≡ n + 4 = omega arith in
    let room : a.nk + n + 4 ≤ length l.w = omega arith in
    rw next (record {
      counted = c.next_phase-phase.ensures n fours l.invariant.counted;
      doubled = c.next_constant-constant.ensures n fours l.invariant.counted l.invariant.doubled;
      made = expansion_turn a.nk n a.key.now l.w fours room l.invariant.made c.added.result _ _ _ _ c.put_four.new.w
          (λ v e. c.added.ensures a.nk n v fours (e ∙ ap (big_endian 4) (sym l.invariant.last)) l.invariant.counted l.invariant.doubled)
          refl refl refl refl c.put_four.ensures;
      last = last_stored a.nk n a.key.now l.w fours room l.invariant.made _ _ _ _ c.put_four.new.w c.put_four.ensures;
    })
