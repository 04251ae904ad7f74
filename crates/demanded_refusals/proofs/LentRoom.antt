-- The lent answer bytes of an act, and its two guards: too few of them is refused with 6, a record that is not well formed with 2; else the act
-- comes to its own.
use Prim.Native.Nat.{ℕ, ◌≤◌, ◌<◌}
use mathlib.Core.Path.{◌≡◌, refl, ◌∙◌}
use mathlib.Core.Bool.{true, false}
use mathlib.Core.Logic.{◌⊎◌, inl, inr}
use native.Mathlib.Omega.{arith}
use lib.Dec.{ltb}
use borrow.Author.Tests.{lt-ltb, le-ltb, ltb-true, ltb-false}
use Rattle.laws.proofs.Flags.{true_or_false}
use Rattle.sizes.specs.Sizes.{answer_room}
use Rattle.unit.specs.declared.TagUnit.{TagUnit}
use Rattle.unit.specs.WellFormed.{well_formed}
use Rattle.unit.specs.Outcome.{refusing, formed, answering}
use Rattle.tag.specs.Calls.{read, write, button, pairing, battery, account_key, disconnect, frame, Act, calls, waits}
use Rattle.demanded_answers.specs.History.{step}
use Rattle.demanded_refusals.specs.RefusalOrder.{Lent, to_read, to_write, to_button, to_frame, to_elapsed}
use Rattle.demanded_answers.proofs.Guards.{room_for, own_of, act_guarded}

-- The lent bytes of an act
pub lent_room : {a : Act} {room : ℕ} → Lent a room → room_for a ≡ room
lent_room to_read = refl
lent_room to_write = refl
lent_room to_button = refl
lent_room to_frame = refl
lent_room to_elapsed = refl

pub short_lent : (a : Act) → room_for a < 42 → Lent a (room_for a)
short_lent (calls (read nonce) room) h = to_read
short_lent (calls (write w) room) h = to_write
short_lent (calls button room) h = to_button
short_lent (calls (pairing on) room) h = absurd (omega arith)
short_lent (calls (battery level) room) h = absurd (omega arith)
short_lent (calls (account_key key) room) h = absurd (omega arith)
short_lent (calls disconnect room) h = absurd (omega arith)
short_lent (calls frame room) h = to_frame
short_lent (waits n room) h = to_elapsed

-- enough of them, or none needed
abbrev pub Enough : Act → Type 0
Enough a = (room : ℕ) → Lent a room → 42 ≤ room

pub enough : (a : Act) → 42 ≤ room_for a → Enough a
enough a h room t = omega (arith, lent_room t)

pub room_enough : (a : Act) → Enough a → 42 ≤ room_for a
room_enough a h = go (true_or_false (ltb (room_for a) 42))
  where
    go : (ltb (room_for a) 42 ≡ true) ⊎ (ltb (room_for a) 42 ≡ false) → 42 ≤ room_for a
    go (inl e) = h (room_for a) (short_lent a (ltb-true _ _ e))
    go (inr e) = ltb-false (room_for a) 42 e

-- The guards
module _ (a : Act) (u : TagUnit) where
  pub short : room_for a < 42 → step a u ≡ refusing 6 u
  unfolding answering
  short h = act_guarded a u ∙ rw (lt-ltb (room_for a) answer_room h)

  pub unformed : 42 ≤ room_for a → well_formed u ≡ false → step a u ≡ refusing 2 u
  unfolding answering formed
  unformed h e = act_guarded a u ∙ rw (le-ltb (room_for a) answer_room h, e)

  pub through : 42 ≤ room_for a → well_formed u ≡ true → step a u ≡ own_of a u
  unfolding answering formed
  through h e = act_guarded a u ∙ rw (le-ltb (room_for a) answer_room h, e)
