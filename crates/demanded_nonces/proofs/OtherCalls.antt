-- What the calls other than writes do to nonce and keys: a read changes the nonce only, a new account key comes first, a
-- disconnect brings a waiting key in or does nothing, and the rest leave all of it alone.
use Prim.Native.Nat.{ℕ, zero, suc}
use mathlib.Core.Path.{◌≡◌, refl, ◌∙◌}
use mathlib.Core.Bool.{true, false, not}
use mathlib.Core.List.{List, []}
use lib.Dec.{eqb, leb}
use lib.ListN.{length}
use borrow.Author.Tests.{eqb-true, not-false}
use Rattle.unit.specs.declared.TagUnit.{TagUnit}
use Rattle.unit.specs.declared.Sound.{Sound}
use Rattle.sizes.specs.Sizes.{account_key_size, highest_battery}
use Rattle.tables.specs.Rows.{among}
use Rattle.unit.specs.WellFormed.{held_keys}
use Rattle.standing.specs.Standing.{stands}
use Rattle.unit.specs.Change.{with_accounts}
use Rattle.account_keys.specs.Order.{key_added}
use Rattle.unit.specs.Outcome.{Outcome, giving, refusing}
use Rattle.time.specs.Time.{ends_next, ring_on, one_tenth, after_tenth, tenths}
use Rattle.advertising.specs.Showing.{showing}
use Rattle.press_call.specs.Press.{pressed}
use Rattle.key_calls.specs.Keys.{keeping, brought_in, disconnected}
use Rattle.settings_calls.specs.Settings.{charged}
use Rattle.tag.specs.Calls.{Written, read, write, button, pairing, battery, account_key, disconnect, frame, own, Act, calls, waits}
use Rattle.demanded_answers.proofs.Guards.{own_of}
use Rattle.demanded_nonces.proofs.WritesOnKeys.{Alone, alone, choose}

-- an outcome whose unit is left alone
abbrev pub Leaves : TagUnit → Outcome → Type 0
Leaves u o = Alone u o.unit

then : {u v w : TagUnit} → Alone u v → Alone v w → Alone u w
then f g =
    record {
      nonce = g.nonce ∙ f.nonce;
      accounts = g.accounts ∙ f.accounts;
      identity = g.identity ∙ f.identity;
      waiting = g.waiting ∙ f.waiting;
    }

ring_alone : (u : TagUnit) → Alone u (ring_on u)
unfolding ring_on
ring_alone u = choose (Alone u) (ends_next u.sound) (λ e. search) (λ e. search)

tenth_alone : (u : TagUnit) → Alone u (one_tenth u)
unfolding one_tenth
tenth_alone u =
    let r = ring_alone u in
    record { nonce = r.nonce; accounts = r.accounts; identity = r.identity; waiting = r.waiting }

tenths_alone : (n : ℕ) (u : TagUnit) → Alone u (tenths n u).unit
unfolding tenths after_tenth
tenths_alone zero u = alone u
tenths_alone (suc n) u =
    let before = (tenths n u).unit in
    choose (Leaves u) (ends_next before.sound)
    (λ e. then (tenths_alone n u) (tenth_alone before))
    (λ e. then (tenths_alone n u) (tenth_alone before))

pressed_alone : (s : Sound) (u : TagUnit) → Alone u (pressed s u).unit
unfolding pressed
pressed_alone Sound.Silent u = search
pressed_alone (Sound.Ringing mask volume left) u = search

battery_alone : (level : ℕ) (u : TagUnit) → Leaves u (charged level u)
unfolding charged
battery_alone level u = choose (Leaves u) (leb level highest_battery) (λ e. search) (λ e. alone u)

showing_alone : (u : TagUnit) → Leaves u (showing u)
unfolding showing
showing_alone u = choose (Leaves u) (stands u) (λ e. alone u) (λ e. alone u)

-- The acts as nonce and keys see them: a read, a write, an account key, a disconnect, and those that leave all alone
abbrev pub kind : Act → ℕ
kind (calls (read nonce) room) = 0
kind (calls (write w) room) = 1
kind (calls (account_key key) room) = 2
kind (calls disconnect room) = 3
kind (calls button room) = 4
kind (calls frame room) = 4
kind (calls (pairing on) room) = 4
kind (calls (battery level) room) = 4
kind (waits n room) = 4

pub data Sorted : Act → Type 0 where
  a_read : {nonce : List ℕ} {room : ℕ} → Sorted (calls (read nonce) room)
  a_write : {w : Written} {room : ℕ} → Sorted (calls (write w) room)
  a_key : {key : List ℕ} {room : ℕ} → Sorted (calls (account_key key) room)
  a_disconnect : {room : ℕ} → Sorted (calls disconnect room)
  aside : {a : Act} → kind a ≡ 4 → ((u : TagUnit) → Leaves u (own_of a u)) → Sorted a

pub sorted : (a : Act) → Sorted a
unfolding own
sorted (calls (read nonce) room) = a_read
sorted (calls (write w) room) = a_write
sorted (calls (account_key key) room) = a_key
sorted (calls disconnect room) = a_disconnect
sorted (calls button room) = aside {a = calls button room} refl (λ u. pressed_alone u.sound u)
sorted (calls frame room) = aside {a = calls frame room} refl showing_alone
sorted (calls (pairing on) room) = aside {a = calls (pairing on) room} refl (λ u. search)
sorted (calls (battery level) room) = aside {a = calls (battery level) room} refl (battery_alone level)
sorted (waits n room) = aside {a = waits n room} refl (tenths_alone n)

-- What became of a lent account key
pub data Keeping (key : List ℕ) (u : TagUnit) : Outcome → Type 0 where
  unfit : Keeping key u (refusing 4 u)
  again : among key (held_keys u.accounts) ≡ true → Keeping key u (giving [] u)
  more : length key ≡ account_key_size → among key (held_keys u.accounts) ≡ false → Keeping key u (giving [] (with_accounts (key_added key u.accounts) u))

pub keeps : (key : List ℕ) (u : TagUnit) → Keeping key u (keeping key u)
unfolding keeping
keeps key u =
    choose (Keeping key u) (not (eqb (length key) account_key_size)) (λ e. unfit)
    (λ e.
    choose (Keeping key u) (among key (held_keys u.accounts)) again (λ new. more (eqb-true (length key) account_key_size (not-false _ e)) new))

-- What became of the keys at a disconnect
pub data Disconnecting (u : TagUnit) : TagUnit → Type 0 where
  nothing_in : u.waiting.held ≡ false → Disconnecting u u
  key_in : u.waiting.held ≡ true → Disconnecting u (brought_in u)

pub disconnects : (u : TagUnit) → Disconnecting u (disconnected u).unit
unfolding disconnected
disconnects u = choose (Disconnecting u) u.waiting.held key_in nothing_in
