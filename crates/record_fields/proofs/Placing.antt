-- Parts put one after the other, and parts read from a place on: what the proofs of the code share.
use Prim.Native.Nat.{ℕ, ◌+◌, ◌-◌, ◌^◌, ◌≤◌, ◌<◌}
use mathlib.Core.Path.{◌≡◌, refl, sym, ap, ◌∙◌}
use mathlib.Core.List.{List, []}
use native.Mathlib.Omega.{arith}
use lib.ListN.{length, take, drop, length-drop}
use lib.Seq.{length-take-le}
use Rattle.laws.specs.Bytes.{number}
use Rattle.octets.specs.Put.{Puts, Reads}
use Rattle.octets.proofs.Pasting.{pasted_none}
use Rattle.octets.proofs.Numbers.{small_number}
use Rattle.record_fields.specs.Part.{run}

-- nothing put yet
pub puts_none : (at : ℕ) (before : List ℕ) → Puts at 0 [] before before
puts_none at before = record { put_is = sym (pasted_none before at); size_is = refl }

module _ (b : List ℕ) (at n : ℕ) where
  -- the code's slice from a place on
  pub slice_run : take (at + n - at) (drop at b) ≡ run b at n
  slice_run =
      let same : at + n - at ≡ n = omega arith in
      ap (λ (k : ℕ). take k (drop at b)) same

  pub length_run : at + n ≤ length b → length (run b at n) ≡ n
  length_run h = length-take-le n (drop at b) (omega (arith, length-drop at b))

  -- a number read off it
  pub number_run : {x : ℕ} → Reads (take (at + n - at) (drop at b)) x → x ≡ number (run b at n)
  number_run r = r.number_is ∙ ap number slice_run

  pub number_small : {x : ℕ} → at + n ≤ length b → Reads (take (at + n - at) (drop at b)) x → x < 256 ^ n
  number_small h r = small_number b at n h (rw slice_run at r)
