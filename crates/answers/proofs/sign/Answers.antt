-- `answers::sign` meets its contract: ID and length, tag and data are put one after the other.
use mathlib.Core.Path.{◌≡◌, refl, ap, ◌∙◌}
use mathlib.Core.List.{List, [], ◌∷◌, ◌++◌}
use Prim.Native.Nat.{ℕ, ◌+◌}
use native.Mathlib.Omega.{arith}
use lib.ListN.{length}
use Rattle.laws.specs.Answer.{gives, lent_after}
use Rattle.sizes.specs.Sizes.{tag_size}
use Rattle.wire.specs.Signing.{signed}
use Rattle.wire.proofs.Laws.{length_signed}
use Rattle.answers.proofs.Written.{written}
use borrow.Author.Rules.{rules}
use Rattle.answers.proofs.sign.Goals as goal

pub returns : goal.returns
unfolding signed
returns c = λ k e.
    let a = c.args in
    let tag = c.answer_tag-tag in
    let n : length tag.result ≡ 8 = search rules in
    record {
      count_is = omega (arith, length_signed k a.nonce a.id a.«data».now);
      bytes_are =
          written a.answer.now c.put.new.to c.put-2.new.to c.put-3.new.to
          (a.id ∷ (tag_size + length a.«data».now) ∷ []) tag.result a.«data».now refl n
          c.put.ensures c.put-2.ensures c.put-3.ensures
          ∙ ap (λ (t : List ℕ). lent_after (gives (a.id ∷ (tag_size + length a.«data».now) ∷ t ++ a.«data».now)) a.answer.now) (tag.ensures k e);
    }
