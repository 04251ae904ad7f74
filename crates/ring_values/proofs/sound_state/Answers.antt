-- `ring_values::sound_state` meets its contract, a case of the sound each.
use mathlib.Core.Path.{◌≡◌, sym, ap, ◌∙◌}
use mathlib.Core.List.{List, ◌∷◌}
use Prim.Native.Nat.{ℕ}
use lib.ListN.{length}
use Rattle.laws.specs.Bytes.{tabulate, big_endian}
use Rattle.laws.proofs.Elements.{all_elements}
use Rattle.laws.proofs.BigEndian.{two_bytes}
use borrow.Author.Rules.{rules}
use Rattle.ring_values.proofs.sound_state.Goals as goal

pub returns-in-Silent : goal.returns-in-Silent
unfolding big_endian
returns-in-Silent c = rw c.in-Silent.is

pub returns-in-Ringing : goal.returns-in-Ringing
unfolding tabulate
returns-in-Ringing c =
    let n : length c.to_be_bytes-tenths.result ≡ 2 = search rules in
    rw c.in-Ringing.is (ap (λ (l : List ℕ). c.in-Ringing.mask ∷ l) (sym (all_elements 0 2 c.to_be_bytes-tenths.result n) ∙ (c.to_be_bytes-tenths.ensures ∙ two_bytes _)))
