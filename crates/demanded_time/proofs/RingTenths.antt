-- Any number of tenths in one call, as far as the ring, its notice and consent go: by induction on the tenths. A ring has one tenth less
-- after each, ends in the tenth that leaves none, and then silence stays; all but clock, sound and consent is as it was.
use Prim.Native.Nat.{ℕ, zero, suc, ◌-◌, ◌≤◌, ◌<◌}
use mathlib.Core.Path.{◌≡◌, refl, sym, ap, ◌∙◌}
use mathlib.Core.Bool.{true, false}
use mathlib.Core.List.{[]}
use native.Mathlib.Omega.{arith}
use native.Mathlib.Decide.{dec_lt}
use lib.ListN.{replicate}
use borrow.Author.Tests.{le-leb, lt-leb}
use Rattle.laws.specs.Answer.{gives}
use Rattle.laws.specs.Bytes.{big_endian}
use Rattle.wire.specs.Signing.{derived_key, answer_tag, signed, ring_notice}
use Rattle.unit.specs.declared.TagUnit.{TagUnit}
use Rattle.unit.specs.declared.Sound.{Sound}
use Rattle.unit.specs.declared.Identity.{Identity}
use Rattle.unit.specs.Outcome.{Outcome}
use Rattle.time.specs.Time.{ends_next, ring_on, one_tenth, timeout_notice, after_tenth, tenths}
use Rattle.demanded_answers.specs.Spelled.{sound, consent}
use Rattle.demanded_time.specs.RingLasts.{timeout_from, RingsOn, RingEnds, StaysSilent}
use Rattle.demanded_refusals.proofs.Choices.{tested}
use Rattle.demanded_refusals.proofs.Tenths.{after_unit}

-- the timeout notice, byte by byte
pub timeout_bytes : (u : TagUnit) → timeout_notice u ≡ timeout_from u.identity.bytes u.ring_nonce
unfolding timeout_notice ring_notice signed answer_tag derived_key big_endian
timeout_bytes u = refl

-- what time leaves alone
pub record Aside (u v : TagUnit) : Type 0 where
  pub settings : v.settings ≡ u.settings
  pub nonce : v.nonces ≡ u.nonces
  pub accounts : v.accounts ≡ u.accounts
  pub identity : v.identity ≡ u.identity
  pub waiting : v.waiting ≡ u.waiting
  pub protection : v.protection ≡ u.protection
  pub pairing : v.pairing ≡ u.pairing
  pub battery : v.battery ≡ u.battery

then : {u v w : TagUnit} → Aside u v → Aside v w → Aside u w
then f g =
    record {
      settings = g.settings ∙ f.settings;
      nonce = g.nonce ∙ f.nonce;
      accounts = g.accounts ∙ f.accounts;
      identity = g.identity ∙ f.identity;
      waiting = g.waiting ∙ f.waiting;
      protection = g.protection ∙ f.protection;
      pairing = g.pairing ∙ f.pairing;
      battery = g.battery ∙ f.battery;
    }

ring_aside : (u : TagUnit) → Aside u (ring_on u)
unfolding ring_on
ring_aside u = tested (Aside u) (ends_next u.sound) (λ e. search) (λ e. search)

tenth_aside : (u : TagUnit) → Aside u (one_tenth u)
unfolding one_tenth
tenth_aside u =
    let r = ring_aside u in
    record {
      settings = r.settings;
      nonce = r.nonce;
      accounts = r.accounts;
      identity = r.identity;
      waiting = r.waiting;
      protection = r.protection;
      pairing = r.pairing;
      battery = r.battery;
    }

pub tenths_aside : (n : ℕ) (u : TagUnit) → Aside u (tenths n u).unit
unfolding tenths
tenths_aside zero u = search
tenths_aside (suc n) u = rw (after_unit n (tenths n u)) (then (tenths_aside n u) (tenth_aside (tenths n u).unit))

-- consent
pub tenth_consent : (u : TagUnit) → (one_tenth u).consent ≡ u.consent - 1
unfolding one_tenth
tenth_consent u = refl

pub tenths_consent : (n : ℕ) (u : TagUnit) → (tenths n u).unit.consent ≡ u.consent - n
unfolding tenths
tenths_consent zero u = omega arith
tenths_consent (suc n) u =
    let before = tenths_consent n u in
    let less : u.consent - n - 1 ≡ u.consent - suc n = omega arith in
    ap (λ (v : TagUnit). v.consent) (after_unit n (tenths n u)) ∙ tenth_consent (tenths n u).unit ∙ rw before less

-- one tenth of each kind of sound
module _ (v : TagUnit) where
  silent_on : v.sound ≡ Sound.Silent → (one_tenth v).sound ≡ Sound.Silent
  unfolding one_tenth ring_on
  silent_on e = rw e

  silent_nonce : v.sound ≡ Sound.Silent → (one_tenth v).ring_nonce ≡ v.ring_nonce
  unfolding one_tenth ring_on
  silent_nonce e = rw e

  module _ {mask volume left : ℕ} (e : v.sound ≡ Sound.Ringing mask volume left) where
    rings_on : 1 < left → (one_tenth v).sound ≡ Sound.Ringing mask volume (left - 1)
    unfolding one_tenth ring_on
    rings_on h = rw (e, lt-leb left 1 h)

    rings_nonce : 1 < left → (one_tenth v).ring_nonce ≡ v.ring_nonce
    unfolding one_tenth ring_on
    rings_nonce h = rw (e, lt-leb left 1 h)

    rings_off : left ≤ 1 → (one_tenth v).sound ≡ Sound.Silent
    unfolding one_tenth ring_on
    rings_off h = rw (e, le-leb left 1 h)

    rings_off_nonce : left ≤ 1 → (one_tenth v).ring_nonce ≡ replicate 8 0
    unfolding one_tenth ring_on
    rings_off_nonce h = rw (e, le-leb left 1 h)

-- What a tenth makes of what was said before it
module _ (n : ℕ) (o : Outcome) where
  said_before : ends_next o.unit.sound ≡ false → ((after_tenth n o).result ≡ o.result) × ((after_tenth n o).ended ≡ o.ended)
  unfolding after_tenth
  said_before e = rw e (refl, refl)

  said_now : ends_next o.unit.sound ≡ true → ((after_tenth n o).result ≡ gives (timeout_notice o.unit)) × ((after_tenth n o).ended ≡ suc n)
  unfolding after_tenth
  said_now e = rw e (refl, refl)

-- Silent before: silent after
record Hushed (u : TagUnit) (o : Outcome) : Type 0 where
  hushed : o.unit.sound ≡ Sound.Silent
  nonce : o.unit.ring_nonce ≡ u.ring_nonce
  nothing : o.result ≡ gives []
  ended : o.ended ≡ 0

silent_tenths : (u : TagUnit) → u.sound ≡ Sound.Silent → (n : ℕ) → Hushed u (tenths n u)
unfolding tenths
silent_tenths u e zero = record { hushed = e; nonce = refl; nothing = refl; ended = refl }
silent_tenths u e (suc n) =
    let o = tenths n u in
    let h = silent_tenths u e n in
    let said = said_before n o (ap ends_next h.hushed) in
    record {
      hushed = rw (after_unit n o) (silent_on o.unit h.hushed);
      nonce = rw (after_unit n o) (silent_nonce o.unit h.hushed ∙ h.nonce);
      nothing = said.0 ∙ h.nothing;
      ended = said.1 ∙ h.ended;
    }

-- Ringing with fewer tenths passed than were left
record On (mask volume left : ℕ) (u : TagUnit) (o : Outcome) : Type 0 where
  sounds : o.unit.sound ≡ Sound.Ringing mask volume left
  nonce : o.unit.ring_nonce ≡ u.ring_nonce
  nothing : o.result ≡ gives []
  ended : o.ended ≡ 0

-- with as many or more
record Over (left : ℕ) (u : TagUnit) (o : Outcome) : Type 0 where
  silent : o.unit.sound ≡ Sound.Silent
  nonce : o.unit.ring_nonce ≡ replicate 8 0
  notice : o.result ≡ gives (timeout_from u.identity.bytes u.ring_nonce)
  ended : o.ended ≡ left

module _ (u : TagUnit) {mask volume left : ℕ} (e : u.sound ≡ Sound.Ringing mask volume left) where
  on_tenths : (n : ℕ) → n < left → On mask volume (left - n) u (tenths n u)
  unfolding tenths
  on_tenths zero h =
      let all : left - 0 ≡ left = omega arith in
      record { sounds = rw all e; nonce = refl; nothing = refl; ended = refl }
  on_tenths (suc n) h =
      let o = tenths n u in
      let before = on_tenths n (omega arith) in
      let more : 1 < left - n = omega arith in
      let less : left - n - 1 ≡ left - suc n = omega arith in
      let said = said_before n o (rw before.sounds (lt-leb (left - n) 1 more)) in
      record {
        sounds = rw (after_unit n o, ← less) (rings_on o.unit before.sounds more);
        nonce = rw (after_unit n o) (rings_nonce o.unit before.sounds more ∙ before.nonce);
        nothing = said.0 ∙ before.nothing;
        ended = said.1 ∙ before.ended;
      }

  last_tenth : (n : ℕ) → suc n ≡ left → Over left u (tenths (suc n) u)
  unfolding tenths
  last_tenth n last =
      let o = tenths n u in
      let before = on_tenths n (omega arith) in
      let one : left - n ≤ 1 = omega arith in
      let said = said_now n o (rw before.sounds (le-leb (left - n) 1 one)) in
      let identity = ap (λ (k : Identity). k.bytes) (tenths_aside n u).identity in
      record {
        silent = rw (after_unit n o) (rings_off o.unit before.sounds one);
        nonce = rw (after_unit n o) (rings_off_nonce o.unit before.sounds one);
        notice = said.0 ∙ ap gives (timeout_bytes o.unit ∙ rw (identity, before.nonce));
        ended = said.1 ∙ last;
      }

  past_tenth : (n : ℕ) → Over left u (tenths n u) → Over left u (tenths (suc n) u)
  unfolding tenths
  past_tenth n before =
      let o = tenths n u in
      let said = said_before n o (ap ends_next before.silent) in
      record {
        silent = rw (after_unit n o) (silent_on o.unit before.silent);
        nonce = rw (after_unit n o) (silent_nonce o.unit before.silent ∙ before.nonce);
        notice = said.0 ∙ before.notice;
        ended = said.1 ∙ before.ended;
      }

  over_tenths : 1 ≤ left → (n : ℕ) → left ≤ n → Over left u (tenths n u)
  over_tenths some zero h = absurd (omega arith)
  over_tenths some (suc n) h = go (dec_lt n left) (over_tenths some n)
    where
      go : Dec (n < left) → (left ≤ n → Over left u (tenths n u)) → Over left u (tenths (suc n) u)
      go (yes p) before = last_tenth n (omega arith)
      go (no p) before = past_tenth n (before (omega arith))

-- With all that time leaves alone
pub silent_call : (n : ℕ) (u : TagUnit) → u.sound ≡ Sound.Silent → StaysSilent u (tenths n u)
silent_call n u e =
    let a = tenths_aside n u in
    let h = silent_tenths u e n in
    record {
      silent = h.hushed;
      nothing = h.nothing;
      ended = h.ended;
      rest =
          (a.settings, tt, a.nonce, a.accounts, a.identity, a.waiting, h.hushed ∙ sym e, h.nonce, a.protection, tt, a.pairing, a.battery);
    }

pub ringing_call : (n : ℕ) (u : TagUnit) {mask volume left : ℕ} → u.sound ≡ Sound.Ringing mask volume left → n < left
    → RingsOn mask volume (left - n) u (tenths n u)
ringing_call n u e h =
    let a = tenths_aside n u in
    let o = on_tenths u e n h in
    record {
      sounds = o.sounds;
      nonce = o.nonce;
      nothing = o.nothing;
      ended = o.ended;
      rest = (a.settings, tt, a.nonce, a.accounts, a.identity, a.waiting, tt, o.nonce, a.protection, tt, a.pairing, a.battery);
    }

pub ending_call : (n : ℕ) (u : TagUnit) {mask volume left : ℕ} → u.sound ≡ Sound.Ringing mask volume left → 1 ≤ left → left ≤ n
    → RingEnds left u (tenths n u)
ending_call n u e some h =
    let a = tenths_aside n u in
    let o = over_tenths u e some n h in
    record {
      silent = o.silent;
      nonce = o.nonce;
      notice = o.notice;
      ended = o.ended;
      rest = (a.settings, tt, a.nonce, a.accounts, a.identity, a.waiting, tt, tt, a.protection, tt, a.pairing, a.battery);
    }
