-- `signing::covered` meets its contract: the nonce is put right after the version, then ID and length over all that is left.
use mathlib.Core.Path.{◌≡◌, refl, ◌∙◌}
use mathlib.Core.List.{List, [], ◌∷◌, ◌++◌}
use Prim.Native.Nat.{ℕ}
use native.Mathlib.Omega.{arith}
use lib.ListN.{length, drop, replicate}
use Rattle.laws.proofs.Copied.{copied_next, nothing_left}
use Rattle.wire.specs.Signing.{version}
use borrow.Author.Rules.{rules}
use Rattle.wire.proofs.signing.covered.Goals as goal

pub returns : goal.returns
returns c =
    let a = c.args in
    let n : length a.nonce ≡ 8 = search rules in
    let whole : List ℕ = replicate 11 1 in
    let first : c.put.new.to ≡ (version ∷ a.nonce) ++ drop 9 whole
    = rw n at (copied_next whole (version ∷ []) a.nonce whole c.put.new.to 1 refl refl c.put.ensures) in
    let m : length (version ∷ a.nonce) ≡ 9 = omega arith in
    copied_next whole (version ∷ a.nonce) (a.id ∷ a.size ∷ []) c.put.new.to c.put-2.new.to 9 m first c.put-2.ensures
    ∙ nothing_left whole ((version ∷ a.nonce) ++ (a.id ∷ a.size ∷ [])) 11 (omega arith)
