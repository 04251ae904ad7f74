-- A refusal, a call without answer bytes, and one whose answer stands in the lent bytes, each as the promise that a call makes.
use Prim.Native.Nat.{ℕ}
use mathlib.Core.Path.{◌≡◌, refl, ap, ◌∙◌}
use mathlib.Core.List.{List, [], ◌++◌}
use lib.ListN.{length, drop}
use Rattle.std.specs.Prelude.{Ok, Err}
use Rattle.laws.specs.Answer.{gives, lent_after, Wrote}
use Rattle.laws.proofs.Answered.{wrote}
use Rattle.unit.specs.declared.TagUnit.{TagUnit}
use Rattle.unit.specs.declared.Refusal.{Refusal}
use Rattle.unit.specs.Types.{Reply}
use Rattle.unit.specs.Refusals.{refusal_number, end_of}
use Rattle.unit.specs.Outcome.{giving, refusing, Completes, Answers}

-- What `refuse` and `accept` give
module _ {u after : TagUnit} {reply : Reply} where
  pub refused_completes : {r : Refusal} → (after ≡ u) × (reply ≡ Err r) → Completes (refusing (refusal_number r) u) after reply
  refused_completes h = record { unit_is = h.0; end_is = ap end_of h.1 }

  pub done_completes : (after ≡ u) × (reply ≡ Ok 0) → Completes (giving [] u) after reply
  done_completes h = record { unit_is = h.0; end_is = ap end_of h.1 }

  pub refused_answers : {r : Refusal} (lent : List ℕ) → (after ≡ u) × (reply ≡ Err r)
      → Answers (refusing (refusal_number r) u) after reply lent lent
  unfolding lent_after
  refused_answers lent h = record { unit_is = h.0; end_is = ap end_of h.1; bytes_are = refl }

  pub wrote_answers : {answer before bytes : List ℕ} {count ended : ℕ} → (after ≡ u) × (reply ≡ Ok count)
      → Wrote answer count before bytes → Answers (record { unit = u; result = gives answer; ended = ended }) after reply before bytes
  wrote_answers h w =
      record { unit_is = h.0; end_is = ap end_of h.1 ∙ ap (λ (n : ℕ). end_of (Ok n)) w.count_is; bytes_are = w.bytes_are }

  pub done_answers : {answer before bytes : List ℕ} {count : ℕ} → (after ≡ u) × (reply ≡ Ok count) → count ≡ length answer
      → bytes ≡ answer ++ drop count before → Answers (giving answer u) after reply before bytes
  done_answers h n b = wrote_answers h (wrote n b)
