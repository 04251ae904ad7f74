-- The flags byte under r: of the bytes that pass the reader's tests, each is the writer's for one battery level, and the other way round.
use Rattle.std.specs.Prelude.{None, Some}
use Prim.Native.Nat.{ℕ, zero, suc, ◌+◌, ◌*◌, ◌/◌, ◌%◌, ◌≤◌}
use mathlib.Core.Path.{◌≡◌, refl}
use mathlib.Core.Bool.{Bool, true, false, cond, not, ◌&&◌}
use mathlib.Core.List.{List}
use native.Mathlib.Omega.{arith}
use lib.Dec.{eqb}
use lib.Bits.{bit_xor}
use borrow.Author.Tests.{eqb-true, eq-eqb, not-true}
use Rattle.laws.proofs.Flags.{and_left, and_right, and_fails_right}
use Rattle.laws.proofs.Xor.{xor_cancel}
use Rattle.frame.specs.Frame.{flags_before_xor, flags_mask, flags_for}
use Rattle.frame_reader.specs.Reader.{Parts, reads}
use Rattle.frame_opener.specs.Opener.{protection_bit, battery_level, flags_right, opened_by}

-- a level that shows a flags byte is found again in it, and it passes the tests
shown_right : (battery : ℕ) (on : Bool) → battery ≤ 3 → eqb battery 0 && not on ≡ false
    → (flags_right on (flags_before_xor battery on) ≡ true) × (battery_level (flags_before_xor battery on) ≡ battery)
unfolding flags_right
shown_right zero true h e = (refl, refl)
shown_right zero false h e = let z : ◌≡◌ {A = ℕ} 0 1 = cc in absurd (omega arith)
shown_right (suc zero) true h e = (refl, refl)
shown_right (suc zero) false h e = (refl, refl)
shown_right (suc (suc zero)) true h e = (refl, refl)
shown_right (suc (suc zero)) false h e = (refl, refl)
shown_right (suc (suc (suc zero))) true h e = (refl, refl)
shown_right (suc (suc (suc zero))) false h e = (refl, refl)
shown_right (suc (suc (suc (suc battery)))) on h e = absurd (omega arith)

of_level : (f : ℕ) → f / 8 ≡ 0 → f ≡ f / 2 % 4 * 2 + f % 2
of_level f h = omega arith

-- what passes the tests is made of its level and its protection bit, and not left out
pub right_level : (on : Bool) (f : ℕ) → flags_right on f ≡ true
    → (battery_level f ≤ 3) × (f ≡ flags_before_xor (battery_level f) on) × (eqb (battery_level f) 0 && not on ≡ false)
unfolding flags_right
right_level on f e =
    let type = eqb (protection_bit f) (cond on 1 0) in
    let shown = not (eqb (battery_level f) 0 && eqb (protection_bit f) 0) in
    let clear : f / 8 ≡ 0 = eqb-true (f / 8) 0 (and_left (eqb (f / 8) 0) (type && shown) e) in
    let rest = and_right (eqb (f / 8) 0) (type && shown) e in
    let bit : f % 2 ≡ cond on 1 0 = eqb-true (f % 2) (cond on 1 0) (and_left type shown rest) in
    (omega arith, rw (← bit) (of_level f clear), not_left_out on bit (and_right type shown rest))
  where
    not_left_out : (on : Bool) → f % 2 ≡ cond on 1 0 → not (eqb (battery_level f) 0 && eqb (protection_bit f) 0) ≡ true
        → eqb (battery_level f) 0 && not on ≡ false
    not_left_out true bit both = and_fails_right (eqb (battery_level f) 0) refl
    not_left_out false bit both = rw (eq-eqb (f % 2) 0 bit) at (not-true (eqb (battery_level f) 0 && eqb (protection_bit f) 0) both)

-- r opens a frame to the level that its flags byte was made from
pub opens : (r : List ℕ) (size : ℕ) (p : Parts) (battery : ℕ) → battery ≤ 3
    → opened_by r size p (flags_for battery p.protected r) ≡ reads (record { parts = p; battery = battery })
unfolding opened_by flags_for
opens r size p battery h = go (eqb battery 0 && not p.protected) refl
  where
    f : ℕ
    f = flags_before_xor battery p.protected

    go : (s : Bool) → eqb battery 0 && not p.protected ≡ s
        → opened_by r size p (cond s None (Some (bit_xor f (flags_mask r)))) ≡ reads (record { parts = p; battery = battery })
    go true e = let none : battery ≡ 0 = eqb-true battery 0 (and_left (eqb battery 0) (not p.protected) e) in rw none
    go false e =
        let right = shown_right battery p.protected h e in
        rw (xor_cancel f (flags_mask r), right.0, right.1)
