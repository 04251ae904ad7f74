-- The refusals of every call, in their order: the two guards, then the call's own; and the unit afterwards, by demand 1. A new unit has only
-- its settings to be judged by.
use Prim.Native.Nat.{ℕ, ◌≤◌, ◌<◌}
use mathlib.Core.Path.{◌≡◌, refl, sym, ap, ◌∙◌}
use mathlib.Core.Bool.{true, false}
use mathlib.Core.List.{[]}
use mathlib.Core.Logic.{◌⊎◌, inl, inr}
use native.Mathlib.Omega.{arith}
use lib.Dec.{ltb, leb}
use lib.IntN.{ℤ, pos, neg_ℤ}
use lib.Signed.{lt_z, lt_z_yes, lt_z_no, clash_ℤ}
use borrow.Author.Tests.{ltb-true, ltb-false, leb-true, leb-false}
use Rattle.std.specs.Prelude.{Err}
use Rattle.laws.specs.Answer.{gives, refuses}
use Rattle.laws.proofs.Flags.{true_or_false, fails}
use Rattle.unit.specs.declared.TagUnit.{TagUnit}
use Rattle.unit.specs.declared.Settings.{Settings}
use Rattle.unit.specs.declared.Refusal as code
use Rattle.unit.specs.Refusals.{refusal_number}
use Rattle.unit.specs.WellFormed.{well_formed, settings_legal}
use Rattle.sleep.specs.Sleep.{Sleep, Sleeps}
use Rattle.unit.specs.Change.{no_unit}
use Rattle.unit.specs.Outcome.{Outcome, refusing}
use Rattle.unit.proofs.Lines.{SettingsLines, settings_lines, settings_legal_lem}
use Rattle.settings_calls.specs.Settings.{new_unit}
use Rattle.tag.specs.Calls.{Act}
use Rattle.demanded_refusals.specs.Ends.{Spending, Plain, Ended, not_authenticated, invalid_value, no_consent, out_of_range, not_well_formed as plain_not_well_formed, wrong_nonce, wrong_account_key, no_frame, no_room, with_answer, refused_spent, refused_same}
use Rattle.demanded_answers.specs.History.{step}
use Rattle.demanded_answers.specs.Spelled.{OnlySpends}
use Rattle.demanded_refusals.specs.RefusalOrder.{Refusal, too_little_room, not_well_formed, own, OutOfRange, power_too_low, power_too_high, too_many_components, selectable_over_one, RefusalOrder}
use Rattle.demanded_refusals.proofs.Ends.{demand1, no_unit_lem}
use Rattle.demanded_answers.proofs.Guards.{room_for}
use Rattle.demanded_answers.proofs.RecordLines.{least_power_lem, most_power_lem, power_legal_lem, well_formed_exactly}
use Rattle.demanded_refusals.proofs.Refused.{only_spends}
use Rattle.demanded_refusals.proofs.LentRoom.{lent_room, short_lent, enough, room_enough, short, unformed, through}
use Rattle.demanded_refusals.proofs.OwnRefusals.{own_only, own_refuses}

-- In order
order_refuses : (a : Act) (u : TagUnit) (n : ℕ) → Refusal u a n → (step a u).result ≡ refuses n
order_refuses a u n (too_little_room t h) = rw (short a u (omega (arith, lent_room t)))
order_refuses a u n (not_well_formed h e) = rw (unformed a u (room_enough a h) e)
order_refuses a u n (own h right f) = own_refuses u (well_formed_exactly.met u right) f right (room_enough a h)

module _ (a : Act) (u : TagUnit) (n : ℕ) where
  order_only : (step a u).result ≡ refuses n → Refusal u a n
  order_only e = go (true_or_false (ltb (room_for a) 42)) (true_or_false (well_formed u))
    where
      go : (ltb (room_for a) 42 ≡ true) ⊎ (ltb (room_for a) 42 ≡ false) → (well_formed u ≡ true) ⊎ (well_formed u ≡ false) → Refusal u a n
      go (inl h) k =
          let less = ltb-true (room_for a) 42 h in
          let six : refuses 6 ≡ refuses n = sym (ap (λ (o : Outcome). o.result) (short a u less)) ∙ e in
          let is : 6 ≡ n = cc in
          rw (sym is) (too_little_room (short_lent a less) less)
      go (inr h) (inr k) =
          let fits = ltb-false (room_for a) 42 h in
          let two : refuses 2 ≡ refuses n = sym (ap (λ (o : Outcome). o.result) (unformed a u fits k)) ∙ e in
          let is : 2 ≡ n = cc in
          rw (sym is) (not_well_formed (enough a fits) k)
      go (inr h) (inl k) =
          let fits = ltb-false (room_for a) 42 h in
          own (enough a fits) k
          (own_only u n (well_formed_exactly.met u k) k a fits (sym (ap (λ (o : Outcome). o.result) (through a u fits k)) ∙ e))

  -- the unit afterwards, by demand 1
  spends_from : {m : ℕ} → Spending m → 0x80 ≤ m
  spends_from not_authenticated = omega arith
  spends_from invalid_value = omega arith
  spends_from no_consent = omega arith

  plain_below : {m : ℕ} → Plain m → m < 0x80
  plain_below out_of_range = omega arith
  plain_below plain_not_well_formed = omega arith
  plain_below wrong_nonce = omega arith
  plain_below wrong_account_key = omega arith
  plain_below no_frame = omega arith
  plain_below no_room = omega arith

  unit_same : n < 0x80 → (step a u).result ≡ refuses n → (step a u).unit ≡ u
  unit_same low e = go (demand1.acts a u [])
    where
      go : Ended u (step a u) [] → (step a u).unit ≡ u
      go (with_answer answer g l) = let z : ◌≡◌ {A = ℕ} 0 1 = cc in absurd (omega arith)
      go (refused_spent m s g is b) = let same : m ≡ n = cc in absurd (omega (arith, spends_from s))
      go (refused_same m p g is b) = is

  unit_spent : 0x80 ≤ n → (step a u).result ≡ refuses n → OnlySpends u (step a u).unit
  unit_spent high e = go (demand1.acts a u [])
    where
      go : Ended u (step a u) [] → OnlySpends u (step a u).unit
      go (with_answer answer g l) = let z : ◌≡◌ {A = ℕ} 0 1 = cc in absurd (omega arith)
      go (refused_spent m s g is b) = rw is (only_spends u)
      go (refused_same m p g is b) = let same : m ≡ n = cc in absurd (omega (arith, plain_below p))

-- A new unit
module _ (power : ℤ) (components selectable : ℕ) where
  abbrev asked : Settings
  asked = record { power = power; components = components; selectable = selectable }

  out_of_range_lem : OutOfRange power components selectable → settings_legal asked ≡ false
  out_of_range_lem o = fails (settings_legal asked) (λ h. go o (settings_lines asked h))
    where
      go : OutOfRange power components selectable → SettingsLines asked → ⊥
      go (power_too_low h) s = clash_ℤ h (least_power_lem power s.power)
      go (power_too_high h) s = clash_ℤ h (most_power_lem power s.power)
      go (too_many_components h) s = omega (arith, s.components)
      go (selectable_over_one h) s = omega (arith, s.selectable)

  was_made : settings_legal asked ≡ true → (new_unit power components selectable).result ≡ gives []
  unfolding new_unit
  was_made e = rw e

  not_made : settings_legal asked ≡ false → new_unit power components selectable ≡ refusing 1 no_unit
  unfolding new_unit
  not_made e = rw e

  judged_range : OutOfRange power components selectable ⊎ (settings_legal asked ≡ true)
  judged_range =
      go (true_or_false (lt_z power (neg_ℤ (pos 100)))) (true_or_false (lt_z (pos 20) power)) (true_or_false (leb components 3)) (true_or_false (leb selectable 1))
    where
      go : (lt_z power (neg_ℤ (pos 100)) ≡ true) ⊎ (lt_z power (neg_ℤ (pos 100)) ≡ false) → (lt_z (pos 20) power ≡ true) ⊎ (lt_z (pos 20) power ≡ false)
          → (leb components 3 ≡ true) ⊎ (leb components 3 ≡ false) → (leb selectable 1 ≡ true) ⊎ (leb selectable 1 ≡ false)
          → OutOfRange power components selectable ⊎ (settings_legal asked ≡ true)
      go (inl e) b c d = inl (power_too_low (lt_z_yes (rw e tt)))
      go (inr e) (inl b) c d = inl (power_too_high (lt_z_yes (rw b tt)))
      go (inr e) (inr b) (inr c) d = inl (too_many_components (leb-false _ _ c))
      go (inr e) (inr b) (inl c) (inr d) = inl (selectable_over_one (leb-false _ _ d))
      go (inr e) (inr b) (inl c) (inl d) =
          inr
          (settings_legal_lem asked
          (record {
            power = power_legal_lem power (lt_z_no (rw e tt)) (lt_z_no (rw b tt));
            components = leb-true _ _ c;
            selectable = leb-true _ _ d;
          }))

  made_unless : (n : ℕ) → (new_unit power components selectable).result ≡ refuses n → (n ≡ 1) × OutOfRange power components selectable
  made_unless n e = go judged_range e
    where
      go : OutOfRange power components selectable ⊎ (settings_legal asked ≡ true) → (new_unit power components selectable).result ≡ refuses n
          → (n ≡ 1) × OutOfRange power components selectable
      go (inl o) r =
          let one : refuses 1 ≡ refuses n = sym (ap (λ (m : Outcome). m.result) (not_made (out_of_range_lem o))) ∙ r in
          let is : n ≡ 1 = cc in
          (is, o)
      go (inr h) r = let z : ◌≡◌ {A = ℕ} 0 1 = cc (was_made h) in absurd (omega arith)

-- How long it may sleep: the promise gives a number or refusal 2, by the record alone
sleep_refused_lem : (u : TagUnit) (s : Sleep) → Sleeps u s → well_formed u ≡ false → (r : code.Refusal) × (s ≡ Err r) × (refusal_number r ≡ 2)
sleep_refused_lem u s h e = (code.Refusal.NotWellFormed, h.refused e, refl)

sleep_refused_only : (u : TagUnit) (s : Sleep) (r : code.Refusal) → Sleeps u s → s ≡ Err r → well_formed u ≡ false
sleep_refused_only u s r h e = go (true_or_false (well_formed u))
  where
    go : (well_formed u ≡ true) ⊎ (well_formed u ≡ false) → well_formed u ≡ false
    go (inl right) = let is = (h.until right).1 in let z : ◌≡◌ {A = ℕ} 0 1 = cc in absurd (omega arith)
    go (inr wrong) = wrong

pub refusal_order : RefusalOrder
refusal_order =
    record {
      refused = order_refuses;
      only_then = order_only;
      same = unit_same;
      spent = unit_spent;
      new_units = λ power components selectable o. rw (not_made power components selectable (out_of_range_lem power components selectable o));
      new_units_only_then = made_unless;
      none_made = λ power components selectable o.
          rw (not_made power components selectable (out_of_range_lem power components selectable o)) no_unit_lem;
      sleep_refused = sleep_refused_lem;
      sleep_refused_only_then = sleep_refused_only;
    }
