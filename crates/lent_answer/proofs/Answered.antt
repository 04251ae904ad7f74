-- How a public call ends: where a size is not as asked it refuses and keeps the lent bytes; where every size is, the answer fills the
-- lent bytes.
use mathlib.Core.Path.{◌≡◌, refl, sym, ap, ◌∙◌}
use mathlib.Core.Bool.{Bool, true, false, ◌&&◌}
use mathlib.Core.List.{List}
use Prim.Native.Nat.{ℕ}
use native.Mathlib.Omega.{arith}
use borrow.Author.Tests.{eq-eqb}
use lib.Dec.{T, eqb, eqb→eq}
use lib.ListN.{length}
use Rattle.laws.specs.Answer.{Result, gives, lent_after}
use Rattle.laws.proofs.Copied.{nothing_left}
use Rattle.std.specs.Prelude.{Ok, Err}
use Rattle.lent_answer.specs.Ends.{Ending, Ends, or_refusal}
use Rattle.lent_answer.specs.declared.WrongSize.{WrongSize}

-- an answer as long as the lent bytes is all that they hold after it
pub lent_all : (answer before : List ℕ) → length answer ≡ length before → lent_after (gives answer) before ≡ answer
unfolding lent_after
lent_all answer before e =
    nothing_left before answer (length answer) (omega arith)

pub both : (a b : Bool) → T (a && b) → T a × T b
both true b t = (tt, t)
both false b t = absurd t

-- three tests in a row
pub three : (a b c : Bool) → T (a && (b && c)) → T a × (T b × T c)
three a b c t = let p = both a (b && c) t in (p.0, both b c p.1)

-- a call with the test `test` of its sizes
module _ (answer before : List ℕ) where
  pub refused : (size : WrongSize) (test : Bool) → (T test → ⊥) → Ends (or_refusal test answer) (Err size) before before
  unfolding or_refusal lent_after
  refused size true fails = absurd (fails tt)
  refused size false fails = record { end_is = refl; bytes_are = refl }

  answered : (test : Bool) (after : List ℕ) → test ≡ true → length after ≡ length before → after ≡ answer
      → Ends (or_refusal test answer) (Ok tt) before after
  unfolding or_refusal
  answered test after e n a =
      rw e (record { end_is = refl; bytes_are = a ∙ sym (lent_all answer before (sym (ap length a) ∙ n)) })

-- what `give` promises: the bytes where they are as many as the lent ones, and else refusal 7
module _ (bytes before : List ℕ) where
  abbrev pub exactly : Result
  exactly = or_refusal (eqb (length before) (length bytes)) bytes

  pub given_all : (after : List ℕ) → length before ≡ length bytes → after ≡ bytes → Ends exactly (Ok tt) before after
  given_all after n a =
      answered bytes before (eqb (length before) (length bytes)) after (eq-eqb _ _ n) (ap length a ∙ sym n) a

  pub given_none : (size : WrongSize) → (length before ≡ length bytes → ⊥) → Ends exactly (Err size) before before
  given_none size differ = refused bytes before size (eqb (length before) (length bytes)) (λ t. differ (eqb→eq _ _ t))

  -- under a test of the other sizes that holds, `n` being as many bytes as the answer has
  pub given : (test : Bool) (n : ℕ) (answer : List ℕ) (end : Ending) (after : List ℕ) → test ≡ true → length bytes ≡ n → bytes ≡ answer
      → Ends exactly end before after → Ends (or_refusal (test && eqb (length before) n) answer) end before after
  given test n answer end after e size same g = rw e (rw (sym size) (rw (sym same) g))
