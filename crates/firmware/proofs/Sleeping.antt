-- From what the tag promises of a sleep to the number that is exported.
use Prim.Native.Nat.{ℕ, ◌+◌, ◌*◌}
use mathlib.Core.Path.{◌≡◌, sym, ap, ◌∙◌}
use native.Mathlib.Omega.{arith}
use Rattle.std.specs.Prelude.{Ok, Err}
use Rattle.unit.specs.declared.TagUnit.{TagUnit}
use Rattle.unit.specs.declared.Refusal.{Refusal}
use Rattle.unit.specs.Refusals.{refusal_number}
use Rattle.sleep.specs.Sleep.{Sleep, Sleeps}
use Rattle.exports.specs.Exported.{refusal_base, ended_base, ExportsSleep}

module _ {u : TagUnit} {s : Sleep} (p : Sleeps u s) where
  pub exports_until : {n : ℕ} → s ≡ Ok n → (result : ℕ) → result ≡ n * ended_base → ExportsSleep u result
  exports_until {n} e result is =
      record {
        until =
            λ formed.
            (let (m, told, soon) = p.until formed in
            let same : n ≡ m = cc in
            (m, is ∙ ap (λ (k : ℕ). k * ended_base) same, soon));
        refused = λ broken. (let told = p.refused broken in let z : ◌≡◌ {A = ℕ} 0 1 = cc in absurd (omega arith));
      }

  pub exports_refused : {r : Refusal} → s ≡ Err r → (result : ℕ) → result ≡ refusal_base + refusal_number r → ExportsSleep u result
  exports_refused {r} e result is =
      record {
        until =
            λ formed.
            (let (m, told, soon) = p.until formed in
            let z : ◌≡◌ {A = ℕ} 0 1 = cc in
            absurd (omega arith));
        refused = λ broken. (let told = p.refused broken in let same : r ≡ Refusal.NotWellFormed = cc in is ∙ ap (λ (x : Refusal). refusal_base + refusal_number x) same);
      }
