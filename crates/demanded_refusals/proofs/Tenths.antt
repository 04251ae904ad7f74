-- Time keeps a unit well formed: the clock's tenth stays below 10, a ring that does not end has a tenth left, and consent only falls. Any
-- number of tenths by induction.
use Prim.Native.Nat.{ℕ, zero, suc, ◌-◌, ◌≤◌}
use mathlib.Core.Path.{◌≡◌, refl}
use mathlib.Core.Bool.{Bool, true, false, cond}
use native.Mathlib.Omega.{arith}
use lib.Dec.{eqb, leb}
use borrow.Author.Tests.{eqb-false, leb-false}
use Rattle.unit.specs.declared.TagUnit.{TagUnit}
use Rattle.unit.specs.declared.Clock.{Clock}
use Rattle.unit.specs.declared.Sound.{Sound}
use Rattle.unit.specs.WellFormed.{well_formed}
use Rattle.unit.specs.Change.{with_sound, silenced}
use Rattle.unit.specs.Outcome.{Outcome}
use Rattle.unit.proofs.Lines.{lines, ring_held}
use Rattle.unit.proofs.Kept.{clock_kept, consent_kept, silenced_kept, ring_kept}
use Rattle.time.specs.Time.{clock_on, ends_next, sound_on, ring_on, one_tenth, after_tenth, tenths}

clock_on_lem : (c : Clock) → c.tenth ≤ 9 → (clock_on c).tenth ≤ 9
unfolding clock_on
clock_on_lem c h = go (eqb c.tenth 9) refl
  where
    go : (b : Bool) → eqb c.tenth 9 ≡ b → (clock_on c).tenth ≤ 9
    go true e = rw e (omega arith)
    go false e = let other = eqb-false c.tenth 9 e in rw e (omega arith)

module _ (u : TagUnit) (w : well_formed u ≡ true) where
  ring_on_lem : (s : Sound) → u.sound ≡ s → well_formed (cond (ends_next s) (silenced u) (with_sound (sound_on s) u.ring_nonce u)) ≡ true
  ring_on_lem Sound.Silent e = rw (← e) w
  ring_on_lem (Sound.Ringing mask volume left) e = go (leb left 1) refl
    where
      go : (b : Bool) → leb left 1 ≡ b
          → well_formed (cond b (silenced u) (with_sound (Sound.Ringing mask volume (left - 1)) u.ring_nonce u)) ≡ true
      go true more = silenced_kept u w
      go false more =
          let r = ring_held (lines u w) e in
          let some = leb-false left 1 more in
          ring_kept u w mask volume (left - 1) u.ring_nonce
          (record {
            identity_held = r.identity_held;
            some = r.some;
            within = r.within;
            at_volume = r.at_volume;
            least = omega arith;
            most = omega (arith, r.most);
          })

  pub tenth_kept : well_formed (one_tenth u) ≡ true
  unfolding one_tenth ring_on
  tenth_kept =
      let l = lines u w in
      let rung = ring_on_lem u.sound refl in
      clock_kept _ (consent_kept _ rung (u.consent - 1) (omega (arith, l.consent))) (clock_on u.clock) (clock_on_lem u.clock l.tenth)

pub after_unit : (n : ℕ) (o : Outcome) → (after_tenth n o).unit ≡ one_tenth o.unit
unfolding after_tenth
after_unit n o = go (ends_next o.unit.sound) refl
  where
    go : (b : Bool) → ends_next o.unit.sound ≡ b → (after_tenth n o).unit ≡ one_tenth o.unit
    go true e = rw e
    go false e = rw e

pub tenths_kept : (n : ℕ) (u : TagUnit) → well_formed u ≡ true → well_formed (tenths n u).unit ≡ true
unfolding tenths
tenths_kept zero u w = w
tenths_kept (suc n) u w = rw after_unit (tenth_kept (tenths n u).unit (tenths_kept n u w))
