-- `answers::notice_data` meets its contract: the two bytes of the tenths are read off one by one.
use mathlib.Core.Path.{◌≡◌, sym, ap, ◌∙◌}
use mathlib.Core.List.{List, ◌∷◌}
use Prim.Native.Nat.{ℕ}
use lib.ListN.{length}
use Rattle.laws.specs.Bytes.{tabulate}
use Rattle.laws.proofs.Elements.{all_elements}
use Rattle.laws.proofs.BigEndian.{two_bytes}
use borrow.Author.Rules.{rules}
use Rattle.answers.proofs.notice_data.Goals as goal

pub returns : goal.returns
unfolding tabulate
returns c =
    let a = c.args in
    let n : length c.to_be_bytes-tenths.result ≡ 2 = search rules in
    ap (λ (l : List ℕ). a.status ∷ a.mask ∷ l) (sym (all_elements 0 2 c.to_be_bytes-tenths.result n) ∙ (c.to_be_bytes-tenths.ensures ∙ two_bytes _))
