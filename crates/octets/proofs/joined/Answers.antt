-- `octets::joined` meets its contract: the second block is put right after the first.
use mathlib.Core.Path.{◌≡◌, refl, ◌∙◌}
use mathlib.Core.List.{[], ◌++◌}
use Prim.Native.Nat.{◌+◌}
use native.Mathlib.Omega.{arith}
use lib.ListN.{length, drop, replicate}
use Rattle.laws.proofs.Copied.{copied_next, nothing_left}
use borrow.Author.Rules.{rules}
use Rattle.octets.proofs.joined.Goals as goal

pub returns : goal.returns
returns c =
    let a = c.args in
    let n : length a.a ≡ 16 = search rules in
    let m : length a.b ≡ 16 = search rules in
    let first : c.put.new.to ≡ a.a ++ drop 16 (replicate 32 0)
    = rw n at (copied_next (replicate 32 0) [] a.a (replicate 32 0) c.put.new.to 0 refl refl c.put.ensures) in
    copied_next (replicate 32 0) a.a a.b c.put.new.to c.put-2.new.to 16 n first c.put-2.ensures
    ∙ nothing_left (replicate 32 0) (a.a ++ a.b) (16 + length a.b) (omega arith)
