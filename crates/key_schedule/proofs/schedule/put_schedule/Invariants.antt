use mathlib.Core.Path.{◌≡◌}
use Prim.Native.Nat.{◌+◌, ◌-◌, ◌*◌, ◌/◌, ◌%◌}
use lib.ListN.{get_or, take}
use Rattle.words.specs.Words.{bytes_of}
use Rattle.substitution.specs.Field.{xtimes}
use Rattle.key_schedule.specs.Expansion.{expanded}
use Rattle.key_schedule.proofs.schedule.put_schedule.Given as goal

abbrev pub invariant-loop-turn : goal.invariant-loop-turn
invariant-loop-turn l =
    record {
      counted : l.phase ≡ 4 * l.turn % l.nk;
      doubled : l.constant ≡ xtimes (4 * l.turn / l.nk) 1;
      made : bytes_of (take (l.nk + 4 * l.turn) l.w) ≡ expanded l.nk (4 * l.turn) l.key;
      last : l.previous ≡ get_or l.w (l.nk + 4 * l.turn - 1) 0;
    }
