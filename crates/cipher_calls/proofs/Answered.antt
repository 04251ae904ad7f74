-- The sizes that the calls of the cipher ask for: refused where one is not so, answered where all are.
use mathlib.Core.Path.{◌≡◌}
use mathlib.Core.Bool.{◌&&◌, false≢true}
use mathlib.Core.List.{List}
use Prim.Native.Nat.{ℕ}
use borrow.Author.Tests.{eq-eqb}
use lib.Dec.{eqb, eqb→eq}
use lib.ListN.{length}
use Rattle.laws.specs.Answer.{Result}
use Rattle.std.specs.Prelude.{Ok, Err, IsErr}
use Rattle.lent_answer.specs.Ends.{Ending, Ends, or_refusal}
use Rattle.lent_answer.proofs.Answered.{three, refused, exactly, given}

-- the cipher under a key of `size` bytes, each way: `done` is the block encrypted or decrypted
module _ (size : ℕ) (key block done before : List ℕ) where
  abbrev pub block_result : Result
  block_result = or_refusal (eqb (length key) size && (eqb (length block) 16 && eqb (length before) 16)) done

  pub block_refused : (end : Ending) → IsErr end → (length key ≡ size → length block ≡ 16 → ⊥) → Ends block_result end before before
  block_refused (Ok done) wrong fails = absurd (false≢true wrong)
  block_refused (Err wrong) e fails =
      refused done before wrong _
      (λ t.
      let p = three (eqb (length key) size) (eqb (length block) 16) (eqb (length before) 16) t in
      fails (eqb→eq _ _ p.0) (eqb→eq _ _ p.1.0))

  pub block_given : (bytes after : List ℕ) (end : Ending) → length key ≡ size → length block ≡ 16 → length bytes ≡ 16 → bytes ≡ done
      → Ends (exactly bytes before) end before after → Ends block_result end before after
  block_given bytes after end k b sized same g =
      rw (eq-eqb _ _ k) (given bytes before (eqb (length block) 16) 16 done end after (eq-eqb _ _ b) sized same g)
