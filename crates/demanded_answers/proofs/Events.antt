-- The button, pairing, battery, account keys, the disconnect, the frame and one tenth, in literal numbers: each call passes
-- its guards and does its own, whose definition, opened, is what the literal terms say.
use Prim.Native.Nat.{ℕ, suc, ◌+◌, ◌*◌, ◌-◌, ◌/◌, ◌%◌, ◌≤◌, ◌<◌}
use mathlib.Core.Path.{◌≡◌, refl, sym, ap, ◌∙◌}
use mathlib.Core.Bool.{Bool, true, false, not}
use mathlib.Core.List.{List, [], ◌∷◌, ◌++◌, append-nil}
use native.Mathlib.Omega.{arith}
use lib.Dec.{eqb, ltb}
use lib.IntN.{ℤ, pos, negsuc}
use lib.ListN.{length, get_or, replicate}
use borrow.Author.Tests.{le-leb, lt-leb, lt-ltb, le-ltb, eq-eqb, ne_eqb, eqb-true, eqb-false}
use Rattle.std.specs.Prelude.{Some, None}
use Rattle.laws.specs.Answer.{gives}
use Rattle.laws.specs.Bytes.{big_endian}
use Rattle.laws.proofs.Flags.{and_fails_right, both}
use Rattle.laws.proofs.Same.{differ_same}
use Rattle.tables.specs.Rows.{among}
use Rattle.tables.proofs.Rows.{among_place}
use Rattle.wire.specs.Signing.{derived_key, answer_tag, signed, ring_notice}
use Rattle.unit.specs.declared.TagUnit.{TagUnit}
use Rattle.unit.specs.declared.Clock.{Clock}
use Rattle.unit.specs.Types.{Owner}
use Rattle.unit.specs.declared.Sound.{Sound}
use Rattle.unit.specs.WellFormed.{power_legal, settings_legal, well_formed, held_keys}
use Rattle.unit.specs.Change.{fresh, with_clock, with_pairing, with_accounts, with_sound, with_consent}
use Rattle.unit.specs.Outcome.{Outcome, giving, formed}
use Rattle.unit.proofs.Lines.{lines, held_count}
use Rattle.standing.specs.Standing.{stands, current_identifier, current_r}
use Rattle.frame.specs.Frame.{rendered, flags_for}
use Rattle.time.specs.Time.{clock_on, ends_next, sound_on, ring_on, one_tenth, timeout_notice, after_tenth, tenths}
use Rattle.account_keys.specs.Order.{least_used, place_for, key_added}
use Rattle.advertising.specs.Showing.{protected, showing}
use Rattle.press_call.specs.Press.{pressed}
use Rattle.key_calls.specs.Keys.{keeping, disconnected}
use Rattle.settings_calls.specs.Settings.{charged, new_unit}
use Rattle.tag.specs.Calls.{button, account_key, disconnect, frame, own, guarded, call, elapsed, calls, waits, act}
use Rattle.demanded_answers.specs.History.{step}
use Rattle.demanded_answers.specs.Spelled.{key_at_place}
use Rattle.demanded_answers.specs.EphemeralIdentifier.{r_of, identifier_of, cut_r}
use Rattle.demanded_answers.specs.Accepted.{Serves, stop_notice}
use Rattle.demanded_answers.specs.Events.{PowerWithin, Fresh, Hushed, Consents, Arrives, Keeps, Replaces, BroughtIn, Same, Shows, masked, TenthPasses, Ticks, Events}
use Rattle.demanded_answers.proofs.Judging.{opened}
use Rattle.demanded_answers.proofs.RecordLines.{key_at}
use Rattle.demanded_answers.proofs.EphemeralIdentifier.{identifier_is_lem, cut_is, stands_is}
use Rattle.demanded_answers.proofs.Spelling.{owner_moves}
use Rattle.demanded_answers.proofs.Accepted.{serves}

-- A call without answer bytes on a well-formed unit does its own
settles : (u : TagUnit) (o : Outcome) → well_formed u ≡ true → formed u o ≡ o
unfolding formed
settles u o right = rw right

-- A new unit
power_legal_lem : (power : ℤ) → PowerWithin power → power_legal power ≡ true
power_legal_lem (pos n) h = le-leb n 20 h
power_legal_lem (negsuc n) h = le-leb n 99 (omega arith)

makes : (power : ℤ) (components selectable : ℕ) → PowerWithin power → components ≤ 3 → selectable ≤ 1
    → new_unit power components selectable ≡ giving [] (fresh (record { power = power; components = components; selectable = selectable }))
unfolding new_unit settings_legal
makes power components selectable p few one = rw (power_legal_lem power p, le-leb components 3 few, le-leb selectable 1 one)

fresh_is : (power : ℤ) (components selectable : ℕ)
    → Fresh power components selectable (fresh (record { power = power; components = components; selectable = selectable }))
fresh_is power components selectable =
    record {
      settings_are = refl;
      clock_is = refl;
      no_nonces = refl;
      no_accounts = refl;
      no_identity = refl;
      none_waits = refl;
      silent = (refl, refl);
      unprotected = refl;
      unconsented = refl;
      unpaired = refl;
      unknown = refl;
    }

-- The button
stops_it : (u : TagUnit) (room mask volume left : ℕ) → well_formed u ≡ true → 42 ≤ room → u.sound ≡ Sound.Ringing mask volume left
    → Serves (calls button room) u (stop_notice u u.ring_nonce 3) (Hushed u)
unfolding act call guarded own pressed ring_notice signed answer_tag derived_key big_endian
stops_it u room mask volume left right fits e =
    serves (opened u room (pressed u.sound u) right fits ∙ rw e)
    (record { silent = (refl, refl); rest = (refl, refl, refl, refl, refl, refl, tt, tt, refl, refl, refl, refl) })

consents : (u : TagUnit) (room : ℕ) → well_formed u ≡ true → 42 ≤ room → u.sound ≡ Sound.Silent
    → Serves (calls button room) u [] (Consents u)
unfolding act call guarded own pressed
consents u room right fits e =
    serves (opened u room (pressed u.sound u) right fits ∙ rw e)
    (record { tenths = refl; rest = (refl, refl, refl, refl, refl, refl, refl, refl, refl, tt, refl, refl) })

-- Account keys: one that stands at no place is not among those held
not_among : (key : List ℕ) (l : List (List ℕ)) → ((i : ℕ) → i < length l → get_or l i [] ≡ key → ⊥) → among key l ≡ false
unfolding among
not_among key [] other = refl
not_among key (k ∷ ks) other =
    rw (differ_same key k (λ e. other 0 (omega arith) (sym e)))
    (not_among key ks (λ i h. other (suc i) (omega arith)))

held_already : (u : TagUnit) (room p : ℕ) (key : List ℕ) → well_formed u ≡ true → length key ≡ 16 → p < u.accounts.count → key_at_place u p ≡ key
    → Serves (calls (account_key key) room) u [] (Same u)
unfolding act call guarded own keeping
held_already u room p key right long held e =
    let there : among (get_or (held_keys u.accounts) p []) (held_keys u.accounts) ≡ true
    = among_place (held_keys u.accounts) p (omega (arith, held_count u.accounts)) in
    let is : among key (held_keys u.accounts) ≡ true = rw (key_at u p held ∙ e) at there in
    serves (settles u (keeping key u) right ∙ rw (eq-eqb (length key) 16 long, is)) refl

-- A new key: first, in the room of a place
module _ (u : TagUnit) (room : ℕ) (key : List ℕ) (right : well_formed u ≡ true) (long : length key ≡ 16)
    (other : (p : ℕ) → p < u.accounts.count → key_at_place u p ≡ key → ⊥) where
  adds_it : step (calls (account_key key) room) u ≡ giving [] (with_accounts (key_added key u.accounts) u)
  unfolding act call guarded own keeping
  adds_it =
      let new = not_among key (held_keys u.accounts)
      (λ i h. let low : i < u.accounts.count = omega (arith, held_count u.accounts) in
      λ e. other i low (sym (key_at u i low) ∙ e)) in
      settles u (keeping key u) right ∙ rw (eq-eqb (length key) 16 long, new)

  arrives : (p : ℕ) → place_for u.accounts ≡ p → Arrives key p u (with_accounts (key_added key u.accounts) u)
  arrives p e =
      let at : p * 16 ≡ 16 * p = omega arith in
      let past : suc p * 16 ≡ 16 * p + 16 = omega arith in
      record {
        owner = rw e (owner_moves p u.accounts.owner);
        keys = rw (e, at, past);
        rest = (refl, refl, refl, tt, refl, refl, refl, refl, refl, refl, refl, refl);
      }

  added : u.accounts.count < 10 → Serves (calls (account_key key) room) u [] (Keeps key u)
  added few =
      let test = lt-ltb u.accounts.count 10 few in
      serves adds_it (record { count = rw test; first = arrives u.accounts.count (rw test) })

  replaced : u.accounts.count ≡ 10 → Serves (calls (account_key key) room) u [] (Replaces key u)
  replaced full =
      let test : ltb u.accounts.count 10 ≡ false = le-ltb u.accounts.count 10 (omega arith) in
      serves adds_it
      (record {
        count = rw test;
        last = λ not_owner. arrives 9 (rw test (last_place u.accounts.owner not_owner));
        not_the_owner = λ owner. arrives 8 (rw (test, owner));
      })
    where
      last_place : (o : Owner) → (o ≡ Some 9 → ⊥) → least_used o ≡ 9
      last_place None h = refl
      last_place (Some p) h = rw (ne_eqb p 9 (λ e. h (ap Some e)))

-- The disconnect, with a key that waits and without
brings_it_in : (u : TagUnit) (room : ℕ) → well_formed u ≡ true → u.waiting.held ≡ true → Serves (calls disconnect room) u [] (BroughtIn u)
unfolding act call guarded own disconnected
brings_it_in u room right held =
    serves (settles u (disconnected u) right ∙ rw held)
    (record {
      in_force = λ i. record { held = held i; bytes = u.waiting.bytes };
      none_waits = refl;
      silent = (refl, refl);
      rest = (refl, refl, refl, refl, tt, tt, tt, tt, refl, refl, refl, refl);
    })

brings_nothing_in : (u : TagUnit) (room : ℕ) → well_formed u ≡ true → u.waiting.held ≡ false → Serves (calls disconnect room) u [] (Same u)
unfolding act call guarded own disconnected
brings_nothing_in u room right none = serves (settles u (disconnected u) right ∙ rw none) refl

-- The frame of an identifier that stands
abbrev shown : ℕ → Bool → List ℕ → List ℕ → List ℕ
shown level on r id = rendered 20 id on (flags_for level on r)

shows_it : (u : TagUnit) (room : ℕ) (level : ℕ) (on : Bool) {bytes : List ℕ} → Shows u room → u.battery ≡ level → protected u.protection ≡ on
    → shown level on (cut_r u) (identifier_of u) ≡ bytes
    → Serves (calls frame room) u bytes (Same u)
unfolding act call guarded own showing
shows_it u room level on {bytes} s l o e =
    let is : shown u.battery (protected u.protection) (current_r u) (current_identifier u) ≡ bytes = rw (cut_is u, identifier_is_lem u, l, o) e in
    let there : stands u ≡ true = stands_is u ∙ both s.keyed (ap not (ne_eqb (r_of u) 0 s.above)) in
    serves (opened u room (showing u) s.formed s.fits ∙ rw (there, is)) refl

-- its bytes: without the flags byte, with it, and under protection
module _ (r id : List ℕ) where
  bare_bytes : shown 0 false r id ≡ 0x02 ∷ 0x01 ∷ 0x06 ∷ 0x18 ∷ 0x16 ∷ 0xAA ∷ 0xFE ∷ 0x40 ∷ id
  unfolding rendered flags_for
  bare_bytes = rw append-nil

  flagged_bytes : (level : ℕ) → 0 < level
      → shown level false r id ≡ 0x02 ∷ 0x01 ∷ 0x06 ∷ 0x19 ∷ 0x16 ∷ 0xAA ∷ 0xFE ∷ 0x40 ∷ id ++ (masked (level * 2) r ∷ [])
  unfolding rendered flags_for
  flagged_bytes level more =
      let off : level * 2 + 0 ≡ level * 2 = omega arith in
      rw (ne_eqb level 0 (λ e. omega arith), off)

  protected_bytes : (level : ℕ)
      → shown level true r id ≡ 0x02 ∷ 0x01 ∷ 0x06 ∷ 0x19 ∷ 0x16 ∷ 0xAA ∷ 0xFE ∷ 0x41 ∷ id ++ (masked (level * 2 + 1) r ∷ [])
  unfolding rendered flags_for
  protected_bytes level = rw (and_fails_right (eqb level 0) refl)

-- One tenth
tenth_is : (u : TagUnit) (room : ℕ) → well_formed u ≡ true → 42 ≤ room → step (waits 1 room) u ≡ after_tenth 0 (giving [] u)
unfolding act elapsed guarded tenths
tenth_is u room right fits = opened u room (tenths 1 u) right fits

clock_on_lem : (c : Clock) → c.tenth ≤ 9 → c.seconds < 4294967296
    → ((clock_on c).tenth ≡ (c.tenth + 1) % 10) × ((clock_on c).seconds ≡ (c.seconds + (c.tenth + 1) / 10) % 4294967296)
unfolding clock_on
clock_on_lem c low small = go (eqb c.tenth 9) refl
  where
    go : (b : Bool) → eqb c.tenth 9 ≡ b
        → ((clock_on c).tenth ≡ (c.tenth + 1) % 10) × ((clock_on c).seconds ≡ (c.seconds + (c.tenth + 1) / 10) % 4294967296)
    go true e = let nine : c.tenth ≡ 9 = eqb-true c.tenth 9 e in (rw e (omega arith), rw (e, nine))
    go false e =
        let below : c.tenth < 9 = omega (arith, eqb-false c.tenth 9 e) in
        let none : (c.tenth + 1) / 10 ≡ 0 = omega arith in
        (rw e (omega arith), rw (e, none) (omega arith))

abbrev later : Sound → List ℕ → TagUnit → TagUnit
later s with u = with_clock (clock_on u.clock) (with_consent (u.consent - 1) (with_sound s with u))

passes : (u : TagUnit) (room : ℕ) (answer : List ℕ) (ended : ℕ) (s : Sound) (with : List ℕ) → Ticks u room
    → step (waits 1 room) u ≡ record { unit = later s with u; result = gives answer; ended = ended }
    → TenthPasses u room answer ended s with
passes u room answer ended s with t e =
    let on = clock_on_lem u.clock (lines u t.formed).tenth t.small in
    record {
      answered = rw e;
      reported = rw e;
      sound_is = rw e;
      nonce_is = rw e;
      tenth = rw e on.0;
      seconds = rw e on.1;
      consent_left = rw e;
      rest = rw e (refl, tt, refl, refl, refl, refl, tt, tt, refl, tt, refl, refl);
    }

goes_on : (u : TagUnit) (room : ℕ) (s : Sound) → Ticks u room → ends_next u.sound ≡ false → sound_on u.sound ≡ s
    → TenthPasses u room [] 0 s u.ring_nonce
unfolding after_tenth one_tenth ring_on
goes_on u room s t more on = passes u room [] 0 s u.ring_nonce t (tenth_is u room t.formed t.fits ∙ rw (more, on))

ends : (u : TagUnit) (room : ℕ) → Ticks u room → ends_next u.sound ≡ true
    → TenthPasses u room (stop_notice u u.ring_nonce 2) 1 Sound.Silent (replicate 8 0)
unfolding after_tenth one_tenth ring_on timeout_notice ring_notice signed answer_tag derived_key big_endian
ends u room t e =
    passes u room (stop_notice u u.ring_nonce 2) 1 Sound.Silent (replicate 8 0) t (tenth_is u room t.formed t.fits ∙ rw e)

pub events : Events
unfolding act call guarded own charged
events =
    record {
      unit_made = λ power components selectable p few one.
          (rw (makes power components selectable p few one), rw (makes power components selectable p few one) (fresh_is power components selectable));
      button_stops = stops_it;
      button_consents = consents;
      pairing_set = λ u room on right.
          serves (settles u (giving [] (with_pairing on u)) right)
          (record { flag = refl; rest = (refl, refl, refl, refl, refl, refl, refl, refl, refl, refl, tt, refl) });
      battery_set = λ u room level right low.
          serves (settles u (charged level u) right ∙ rw (le-leb level 3 low))
          (record { level_is = refl; rest = (refl, refl, refl, refl, refl, refl, refl, refl, refl, refl, refl, tt) });
      key_held = held_already;
      key_added = λ u room key right long few other. added u room key right long other few;
      key_replaced = λ u room key right long full other. replaced u room key right long (λ p h. other p (omega arith)) full;
      key_brought_in = brings_it_in;
      nothing_brought_in = brings_nothing_in;
      frame_bare = λ u room s none off. shows_it u room 0 false s none (rw off) (bare_bytes (cut_r u) (identifier_of u));
      frame_flagged = λ u room s more off.
          shows_it u room u.battery false s refl (rw off) (flagged_bytes (cut_r u) (identifier_of u) u.battery more);
      frame_protected = λ u room skip s on.
          shows_it u room u.battery true s refl (rw on) (protected_bytes (cut_r u) (identifier_of u) u.battery);
      tenth_silent = λ u room t e. goes_on u room Sound.Silent t (rw e) (rw e);
      tenth_ringing = λ u room mask volume left t e more. goes_on u room (Sound.Ringing mask volume (left - 1)) t (rw (e, lt-leb left 1 more)) (rw e);
      tenth_ends = λ u room mask volume t e. ends u room t (rw e);
    }
