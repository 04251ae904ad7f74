-- A call without answer bytes gives none, so that its event prints no bytes=.
use Prim.Native.Nat.{ℕ}
use mathlib.Core.Path.{◌≡◌}
use mathlib.Core.Bool.{Bool, true, false, cond, not}
use mathlib.Core.List.{List, []}
use lib.Dec.{eqb, leb}
use lib.ListN.{length}
use native.Mathlib.Omega.{arith}
use Rattle.laws.specs.Answer.{gives, refuses}
use Rattle.sizes.specs.Sizes.{account_key_size, highest_battery}
use Rattle.tables.specs.Rows.{among}
use Rattle.unit.specs.WellFormed.{well_formed, held_keys}
use Rattle.unit.specs.declared.TagUnit.{TagUnit}
use Rattle.unit.specs.Outcome.{Outcome, giving, refusing, formed}
use Rattle.key_calls.specs.Keys.{keeping, disconnected}
use Rattle.settings_calls.specs.Settings.{charged}
use Rattle.tag.specs.Calls.{Call, read, write, button, pairing, battery, account_key, disconnect, frame, lends, own, guarded, call}

pub record Quiet (o : Outcome) : Type 0 where
  pub none : (a : List ℕ) → o.result ≡ gives a → a ≡ []

given : {u : TagUnit} → Quiet (giving [] u)
given = record { none = λ a h. cc }

refused : (n : ℕ) (u : TagUnit) → Quiet (refusing n u)
refused n u = record { none = λ a h. (let z : ◌≡◌ {A = ℕ} 0 1 = cc in absurd (omega arith)) }

either : (b : Bool) {o p : Outcome} → Quiet o → Quiet p → Quiet (cond b o p)
either true x y = x
either false x y = y

own_quiet : (c : Call) (u : TagUnit) → lends c ≡ false → Quiet (own c u)
unfolding own charged keeping disconnected
own_quiet (read nonce) u h = let z : ◌≡◌ {A = ℕ} 0 1 = cc in absurd (omega arith)
own_quiet (write w) u h = let z : ◌≡◌ {A = ℕ} 0 1 = cc in absurd (omega arith)
own_quiet button u h = let z : ◌≡◌ {A = ℕ} 0 1 = cc in absurd (omega arith)
own_quiet (pairing on) u h = given
own_quiet (battery level) u h = either (leb level highest_battery) given (refused 1 u)
own_quiet (account_key k) u h =
    either (not (eqb (length k) account_key_size)) (refused 4 u)
    (either (among k (held_keys u.accounts)) given given)
own_quiet disconnect u h = given
own_quiet frame u h = let z : ◌≡◌ {A = ℕ} 0 1 = cc in absurd (omega arith)

pub call_quiet : (c : Call) (room : ℕ) (u : TagUnit) → lends c ≡ false → Quiet (call c room u)
unfolding call guarded formed
call_quiet c room u h = rw h (either (well_formed u) (own_quiet c u h) (refused 2 u))
