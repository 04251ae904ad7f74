-- "While a key stays set": what each act does to the key in force, the waiting key and the owner's key, and what follows over a list. The
-- owner's key stays until 0x03 is accepted, for no use moves it away and no arrival drops it; the key in force until then or until a disconnect
-- brings another in; the waiting key until it is brought in, replaced or dropped.
use Prim.Native.Nat.{ℕ, ◌<◌}
use mathlib.Core.Path.{◌≡◌, refl, ap, ◌∙◌}
use mathlib.Core.Bool.{true, false}
use mathlib.Core.List.{List, [], ◌∷◌, ◌++◌}
use mathlib.Core.Option.{some}
use native.Mathlib.Omega.{arith}
use Rattle.laws.proofs.Flags.{clash}
use Rattle.wire.specs.Shape.{parsed}
use Rattle.unit.specs.declared.TagUnit.{TagUnit}
use Rattle.unit.specs.declared.Identity.{Identity}
use Rattle.unit.specs.WellFormed.{well_formed, owner_key}
use Rattle.unit.specs.Change.{spent}
use Rattle.unit.specs.Outcome.{Outcome}
use Rattle.unit.proofs.Lines.{lines}
use Rattle.unit.proofs.Kept.{spent_kept}
use Rattle.account_keys.specs.Order.{key_used}
use Rattle.account_keys.proofs.Order.{key_owned_lem, added_owned}
use Rattle.clearing.specs.Clearing.{cleared}
use Rattle.nonces.specs.Nonces.{nonce_fits}
use Rattle.read_call.specs.Read.{issuing}
use Rattle.tag.specs.Calls.{Written, write, disconnect, own, Act, calls}
use Rattle.demanded_answers.specs.History.{step, after}
use Rattle.demanded_nonces.specs.Among.{NoneIn, Accepts, accepts, BringsIn, brings_in}
use Rattle.demanded_answers.proofs.Guards.{own_of, met, Met, barred, passed}
use Rattle.demanded_nonces.proofs.WritesOnKeys.{uses_key, choose, set, clear, recovered, used, other, Ended, unreached, turned, served, ends_written}
use Rattle.demanded_refusals.proofs.KeyUses.{owner_held_key}
use Rattle.demanded_nonces.proofs.OtherCalls.{Sorted, a_read, a_write, a_key, a_disconnect, aside, sorted, Keeping, unfit, again, more, keeps, Disconnecting, nothing_in, key_in, disconnects}

-- The unit v has the owner's key of u, where u has one
abbrev pub Owns : TagUnit → TagUnit → Type 0
Owns u v = (key : List ℕ) → owner_key u.accounts ≡ some key → owner_key v.accounts ≡ some key

-- What the act a did to the keys of u, which left v
pub data OnKeys (a : Act) (u v : TagUnit) : Type 0 where
  kept : Owns u v → v.identity ≡ u.identity → v.waiting ≡ u.waiting → OnKeys a u v
  sets : Accepts 0x02 a u → Owns u v → v.identity ≡ u.identity → OnKeys a u v
  drops : Accepts 0x03 a u → v.waiting.held ≡ false → OnKeys a u v
  brings : BringsIn a u → Owns u v → v.identity ≡ u.waiting → v.waiting.held ≡ false → OnKeys a u v

untouched : (a : Act) (u : TagUnit) → OnKeys a u u
untouched a u = kept (λ key e. e) refl refl

-- Each act that passes
key_acts : (a : Act) {key : List ℕ} {u : TagUnit} {o : Outcome} → well_formed u ≡ true → Keeping key u o → OnKeys a u o.unit
key_acts a {u = u} w unfit = untouched a u
key_acts a {u = u} w (again h) = untouched a u
key_acts a {key} {u} w (more n new) =
    let l = lines u w in
    kept (λ k e. added_owned u.accounts l.accounts key n new l.owner ∙ e) refl refl

read_acts : (a : Act) (nonce : List ℕ) (u : TagUnit) → OnKeys a u (issuing nonce u).unit
unfolding issuing
read_acts a nonce u =
    choose (λ (o : Outcome). OnKeys a u o.unit) (nonce_fits u.nonces nonce) (λ e. kept (λ key e. e) refl refl) (λ e. untouched a u)

-- the owner's key, once it was used in an accepted 0x02
pub set_owned : (u : TagUnit) → well_formed u ≡ true → (key : List ℕ) → owner_key u.accounts ≡ some key → owner_key (key_used key u.accounts) ≡ owner_key u.accounts
set_owned u w key o =
    let l = lines u w in
    key_owned_lem u.accounts l.accounts key (owner_held_key u w key o) l.owner

write_acts : (w : Written) (room : ℕ) (u : TagUnit) → well_formed u ≡ true → {o : Outcome} → Ended u w o → step (calls (write w) room) u ≡ o
    → OnKeys (calls (write w) room) u o.unit
unfolding parsed cleared
write_acts w room u f (unreached n out) e = kept (λ key e. e) refl refl
write_acts w room u f (turned n) e = kept (λ key e. e) refl refl
write_acts w room u f (served {answer = a} s l (set key id o)) e =
    sets (accepts id (a, ap (λ (x : Outcome). x.result) e)) (λ k h. set_owned u f key o ∙ h) refl
write_acts w room u f (served {answer = a} s l (clear id)) e = drops (accepts id (a, ap (λ (x : Outcome). x.result) e)) refl
write_acts w room u f (served s l (recovered key id o)) e = kept (λ key e. e) refl refl
write_acts w room u f (served s l (used k a)) e = kept (uses_key (spent u) (parsed w.bytes) (spent_kept u f) a) refl refl
write_acts w room u f (served s l (other k a)) e = kept (λ key h. ap owner_key a.accounts ∙ h) a.identity a.waiting

disconnect_acts : (room : ℕ) {u v : TagUnit} → well_formed u ≡ true → Disconnecting u v → OnKeys (calls disconnect room) u v
disconnect_acts room {u} w (nothing_in absent) = untouched (calls disconnect room) u
disconnect_acts room w (key_in held) = brings (brings_in w held) (λ key e. e) refl refl

own_acts : {a : Act} → Sorted a → (u : TagUnit) → well_formed u ≡ true → step a u ≡ own_of a u → OnKeys a u (own_of a u).unit
unfolding own
own_acts {a} (a_read {nonce}) u formed e = read_acts a nonce u
own_acts (a_write {w} {room}) u formed e = write_acts w room u formed (ends_written u w) e
own_acts {a} (a_key {key}) u formed e = key_acts a formed (keeps key u)
own_acts (a_disconnect {room}) u formed e = disconnect_acts room formed (disconnects u)
own_acts (aside k leaves) u formed e = kept (λ key h. ap owner_key (leaves u).accounts ∙ h) (leaves u).identity (leaves u).waiting

pub on_keys : (a : Act) (u : TagUnit) → OnKeys a u (step a u).unit
on_keys a u = go (met a u)
  where
    go : Met a u → OnKeys a u (step a u).unit
    go (barred n e bars) = rw e (untouched a u)
    go (passed fits formed e) = rw e (own_acts (sorted a) u formed e)

-- The key in force over a list without an accepted 0x03 and without a disconnect that brings another in
pub record InForce (u v : TagUnit) : Type 0 where
  pub owner : Owns u v
  pub identity : v.identity ≡ u.identity

next_in_force : {a : Act} {u v w : TagUnit} → OnKeys a u v → (Accepts 0x03 a u → ⊥) → (BringsIn a u → ⊥) → InForce v w → InForce u w
next_in_force (kept o i k) uncleared unbrought f = record { owner = λ key e. f.owner key (o key e); identity = f.identity ∙ i }
next_in_force (sets s o i) uncleared unbrought f = record { owner = λ key e. f.owner key (o key e); identity = f.identity ∙ i }
next_in_force (drops d k) uncleared unbrought f = absurd (uncleared d)
next_in_force (brings b o i k) uncleared unbrought f = absurd (unbrought b)

pub stays_in_force : (l : List Act) (u : TagUnit) → NoneIn (Accepts 0x03) l u → NoneIn BringsIn l u → InForce u (after l u)
unfolding after
stays_in_force [] u uncleared unbrought = record { owner = λ key e. e; identity = refl }
stays_in_force (a ∷ l) u uncleared unbrought =
    next_in_force (on_keys a u) uncleared.0 unbrought.0 (stays_in_force l (step a u).unit uncleared.1 unbrought.1)

-- The waiting key over a list without an accepted 0x02: it stays, or none waits any more
pub data Awaited (u v : TagUnit) : Type 0 where
  waits : Owns u v → v.waiting ≡ u.waiting → Awaited u v
  gone : v.waiting.held ≡ false → Awaited u v

next_awaited : {a : Act} {u v w : TagUnit} → OnKeys a u v → (Accepts 0x02 a u → ⊥) → Awaited v w → Awaited u w
next_awaited (kept o i k) never (waits p e) = waits (λ key h. p key (o key h)) (e ∙ k)
next_awaited (sets s o i) never (waits p e) = absurd (never s)
next_awaited (drops d k) never (waits p e) = gone (ap (λ (x : Identity). x.held) e ∙ k)
next_awaited (brings b o i k) never (waits p e) = gone (ap (λ (x : Identity). x.held) e ∙ k)
next_awaited acts never (gone h) = gone h

awaited : (l : List Act) (u : TagUnit) → NoneIn (Accepts 0x02) l u → Awaited u (after l u)
unfolding after
awaited [] u never = waits (λ key e. e) refl
awaited (a ∷ l) u never = next_awaited (on_keys a u) never.0 (awaited l (step a u).unit never.1)

-- so a key that waits at the end is the one of the start, and the owner is too
pub record Waiting (u v : TagUnit) : Type 0 where
  pub owner : Owns u v
  pub waiting : v.waiting ≡ u.waiting

pub still_waiting : (l : List Act) (u : TagUnit) → NoneIn (Accepts 0x02) l u → (after l u).waiting.held ≡ true → Waiting u (after l u)
still_waiting l u never held = go (awaited l u never)
  where
    go : Awaited u (after l u) → Waiting u (after l u)
    go (waits o e) = record { owner = o; waiting = e }
    go (gone h) = absurd (clash held h)
