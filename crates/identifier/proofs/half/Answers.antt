-- `identifier::half` meets its contract: K is put right after the padding, and the window right after K.
use mathlib.Core.Path.{◌≡◌, refl, ap, ◌∙◌}
use mathlib.Core.List.{List, [], ◌∷◌, ◌++◌}
use Prim.Native.Nat.{ℕ, ◌+◌}
use native.Mathlib.Omega.{arith}
use lib.ListN.{length, drop, replicate}
use Rattle.laws.proofs.BigEndian.{four_bytes}
use borrow.Author.Rules.{rules}
use Rattle.laws.proofs.Copied.{copied_next, nothing_left}
use Rattle.sizes.specs.Sizes.{rotation_exponent}
use Rattle.identifier.specs.Identifier.{half}
use Rattle.identifier.proofs.half.Goals as goal

pub returns : goal.returns
unfolding half
returns c =
    let padding : ℕ = c.args.padding in
    let whole : List ℕ = replicate 16 padding in
    let head : List ℕ = replicate 11 padding ++ (rotation_exponent ∷ []) in
    let counter : List ℕ = c.to_be_bytes-counter.result in
    let n : length counter ≡ 4 = search rules in
    let first : c.put.new.to ≡ head ++ drop 12 whole
    = copied_next whole (replicate 11 padding) (rotation_exponent ∷ []) whole c.put.new.to 11 refl refl c.put.ensures in
    copied_next whole head counter c.put.new.to c.put-2.new.to 12 refl first c.put-2.ensures
    ∙ nothing_left whole (head ++ counter) (12 + length counter) (omega arith)
    ∙ ap (λ (l : List ℕ). head ++ l) (c.to_be_bytes-counter.ensures ∙ four_bytes _)
