-- A tenth in which nothing happens leaves the window, the yes or no on consent and the silence of the answer as they were: so do, by induction,
-- all the tenths before the named one, and the frame is made of nothing else that time changes. At the named tenth the one thing that happens
-- to the unit is read off the list's end, since a sleep is told by its total (Sleeps).
use Prim.Native.Nat.{ℕ, zero, suc, ◌+◌, ◌-◌, ◌≤◌, ◌<◌}
use mathlib.Core.Path.{◌≡◌, refl, sym, ap, subst, ◌∙◌}
use mathlib.Core.Bool.{Bool, true, false, cond, false≢true, ◌&&◌}
use mathlib.Core.List.{List, [], ◌∷◌}
use native.Mathlib.Omega.{arith}
use native.Mathlib.Decide.{dec_lt}
use lib.Dec.{eqb, ltb}
use borrow.Author.Tests.{eqb-true, eqb-false, lt-ltb, le-ltb, ltb-true}
use Rattle.laws.proofs.Flags.{and_left, and_right}
use Rattle.sizes.specs.Sizes.{window, answer_room}
use Rattle.laws.specs.Answer.{Result, gives, refuses}
use Rattle.unit.specs.declared.TagUnit.{TagUnit}
use Rattle.unit.specs.declared.Sound.{Sound}
use Rattle.nonces.specs.Nonces.{issued_nonces, nonces_legal}
use Rattle.unit.specs.WellFormed.{well_formed, settings_legal, accounts_legal, owner_legal, identity_legal, sound_legal, held_keys}
use Rattle.unit.specs.Outcome.{Outcome, giving, refusing, formed, answering}
use Rattle.laws.specs.Bytes.{all_zero}
use Rattle.tables.specs.Rows.{rows, among, distinct}
use Rattle.standing.specs.Standing.{stands, current_scalar, current_identifier, current_r}
use Rattle.unit.proofs.Lines.{lines, ring_held}
use Rattle.time.specs.Time.{ends_next, one_tenth, after_tenth, tenths}
use Rattle.sleep.specs.Sleep.{Happens, ring_ends, consent_ends, window_changes, seconds_return, later_by, Soonest}
use Rattle.sleep.specs.Counts.{soonest_of}
use Rattle.sleep.proofs.LeastCount.{soonest_of_lem}
use Rattle.frame.specs.Frame.{rendered, flags_for}
use Rattle.advertising.specs.Showing.{protected, showing}
use Rattle.tag.specs.Calls.{frame, own, guarded, call, Act, calls, act}
use Rattle.demanded_answers.specs.History.{step}
use Rattle.demanded_time.specs.Time.{World, slept, runs, start}
use Rattle.demanded_nonces.specs.Among.{tenths_in}
use Rattle.demanded_time.specs.RingLasts.{timeout_from}
use Rattle.demanded_time.specs.SleepUntil.{OnlyTime, consent_left, Unnoticed, HappensAt, LastTenth, Names, Row, table, Holds, SleepUntil}
use Rattle.demanded_time.specs.SleepUntil as list
use Rattle.demanded_refusals.proofs.Tenths.{after_unit, tenths_kept}
use Rattle.demanded_time.proofs.Passing.{passed, end_sound, after_none}
use Rattle.demanded_time.proofs.RingTenths.{Aside, tenths_aside, tenth_consent, ringing_call, ending_call, silent_call}
use Rattle.demanded_time.proofs.Sleeps.{sleep_comes, sleep_unit}

never_silent : {mask volume left : ℕ} → Sound.Ringing mask volume left ≡ Sound.Silent → ⊥
never_silent h = let z : ◌≡◌ {A = ℕ} 0 1 = cc in omega arith

-- One tenth in which nothing happens
module _ (v : TagUnit) (nothing : Happens v → ⊥) where
  no_end : ends_next v.sound ≡ false
  no_end = go (ends_next v.sound) refl
    where
      go : (b : Bool) → ends_next v.sound ≡ b → b ≡ false
      go true e = absurd (nothing (ring_ends (λ silent. false≢true (rw silent at e)) (end_sound v e)))
      go false e = refl

  window_stays : window (one_tenth v).clock.seconds ≡ window v.clock.seconds
  window_stays = go (eqb (window (one_tenth v).clock.seconds) (window v.clock.seconds)) refl
    where
      go : (b : Bool) → eqb (window (one_tenth v).clock.seconds) (window v.clock.seconds) ≡ b
          → window (one_tenth v).clock.seconds ≡ window v.clock.seconds
      go true e = eqb-true _ _ e
      go false e = absurd (nothing (window_changes (eqb-false _ _ e)))

  consent_stays : consent_left (one_tenth v) ≡ consent_left v
  consent_stays = go (dec_lt 0 v.consent) (dec_lt 0 (one_tenth v).consent)
    where
      go : Dec (0 < v.consent) → Dec (0 < (one_tenth v).consent) → consent_left (one_tenth v) ≡ consent_left v
      go (yes some) (yes more) = lt-ltb _ _ more ∙ sym (lt-ltb _ _ some)
      go (yes some) (no none) = absurd (nothing (consent_ends some (omega arith)))
      go (no none) more = let less = tenth_consent v in le-ltb 0 (one_tenth v).consent (omega arith) ∙ sym (le-ltb 0 v.consent (omega arith))

-- All the tenths before the named one
record Still (u : TagUnit) (o : Outcome) : Type 0 where
  quiet : o.result ≡ gives []
  window_same : window o.unit.clock.seconds ≡ window u.clock.seconds
  consent_same : consent_left o.unit ≡ consent_left u

still_next : (m : ℕ) (u : TagUnit) (o : Outcome) → (Happens o.unit → ⊥) → Still u o → Still u (after_tenth m o)
still_next m u o nothing s =
    let e = after_none m o (no_end o.unit nothing) in
    rw e
    (record {
      quiet = s.quiet;
      window_same = window_stays o.unit nothing ∙ s.window_same;
      consent_same = consent_stays o.unit nothing ∙ s.consent_same;
    })

module _ (u : TagUnit) (n : ℕ) (soonest : Soonest u n) where
  still : (m : ℕ) → m < n → Still u (tenths m u)
  unfolding tenths
  still zero h = record { quiet = refl; window_same = refl; consent_same = refl }
  still (suc m) h = still_next m u (tenths m u) (soonest.nothing_before m h) (still m (omega arith))

-- The frame, of what it is made
abbrev framed : Bool → Bool → List ℕ → Result
framed small stands bytes = cond small (refuses 6) (cond stands (gives bytes) (refuses 5))

abbrev frame_bytes : TagUnit → List ℕ
frame_bytes u =
    rendered 20 (current_identifier u) (protected u.protection) (flags_for u.battery (protected u.protection) (current_r u))

frame_made : (room : ℕ) (u : TagUnit) → well_formed u ≡ true
    → (step (calls frame room) u).result ≡ framed (ltb room answer_room) (stands u) (frame_bytes u)
unfolding act call guarded own answering formed showing
frame_made room u w = rw w (go (ltb room answer_room) (stands u))
  where
    go : (a b : Bool) → (cond a (refusing 6 u) (cond b (giving (frame_bytes u) u) (refusing 5 u))).result ≡ framed a b (frame_bytes u)
    go true b = refl
    go false true = refl
    go false false = refl

stands_same : (u v : TagUnit) → Aside u v → window v.clock.seconds ≡ window u.clock.seconds → stands v ≡ stands u
unfolding stands current_scalar
stands_same u v aside same = rw (aside.identity, same)

bytes_same : (u v : TagUnit) → Aside u v → window v.clock.seconds ≡ window u.clock.seconds → frame_bytes v ≡ frame_bytes u
unfolding current_scalar current_identifier current_r
bytes_same u v aside same = rw (aside.identity, same, aside.protection, aside.battery)

module _ (u : TagUnit) (n : ℕ) (named : Names u n) where
  frame_stays : (m room : ℕ) → m < n → (step (calls frame room) (later_by m u)).result ≡ (step (calls frame room) u).result
  frame_stays m room h =
      let aside = tenths_aside m u in
      let same = (still u n named.soonest m h).window_same in
      frame_made room (later_by m u) (tenths_kept m u named.formed)
      ∙ rw (stands_same u (later_by m u) aside same, bytes_same u (later_by m u) aside same)
      (sym (frame_made room u named.formed))

  unnoticed : (l : List Act) → OnlyTime l → tenths_in l < n → Unnoticed u l
  unnoticed l only h =
      let s = still u n named.soonest (tenths_in l) h in
      let there = sleep_unit u named.formed l only in
      let left = ap consent_left there ∙ s.consent_same in
      record {
        no_notification = ap (λ (w : World). w.notifications) (sleep_comes u named.formed l only) ∙ rw s.quiet;
        same_frame = λ room. ap (λ (v : TagUnit). (step (calls frame room) v).result) there ∙ frame_stays (tenths_in l) room h;
        same_consent = left;
        same_recovery = rw (left, there, (tenths_aside (tenths_in l) u).pairing);
      }

  -- the named tenth, over two sleeps
  module _ (m : ℕ) (l longer : List Act) (last : LastTenth (suc m) l longer) where
    before : (runs slept l (start u)).unit ≡ later_by m u
    before = ap (λ (w : World). w.unit) (sleep_comes u named.formed l last.shorter_sleeps) ∙ ap (λ (k : ℕ). later_by k u) (omega (arith, last.before))

    then_world : runs slept longer (start u) ≡ passed (suc m) (start u)
    then_world = sleep_comes u named.formed longer last.longer_sleeps ∙ ap (λ (k : ℕ). passed k (start u)) last.total

    next_unit : later_by (suc m) u ≡ one_tenth (later_by m u)
    unfolding tenths
    next_unit = after_unit m (tenths m u)

    then_unit : (runs slept longer (start u)).unit ≡ one_tenth (later_by m u)
    then_unit = ap (λ (w : World). w.unit) then_world ∙ next_unit

    -- to the unit something happens exactly where to the sleeps it does
    to_unit : HappensAt (suc m) u (runs slept l (start u)) (runs slept longer (start u)) → Happens (later_by m u)
    to_unit (list.ring_ends sounds silent told) = ring_ends (λ e. sounds (ap (λ (v : TagUnit). v.sound) before ∙ e)) (sym (ap (λ (v : TagUnit). v.sound) then_unit) ∙ silent)
    to_unit (list.consent_ends some none) = consent_ends (rw before at some) (rw then_unit at none)
    to_unit (list.window_changes changes) = window_changes (λ e. changes (rw (before, then_unit) e))
    to_unit (list.seconds_return some none) = seconds_return (rw before at some) (rw then_unit at none)

    abbrev Both : Type 0
    Both = HappensAt (suc m) u (runs slept l (start u)) (runs slept longer (start u))

    ring_told : {mask volume left : ℕ} → u.sound ≡ Sound.Ringing mask volume left → 1 ≤ left → left ≡ suc m
        → (runs slept longer (start u)).notifications
        ≡ record { tenth = suc m; notice = timeout_from u.identity.bytes u.ring_nonce } ∷ []
    ring_told {left = left} e some is =
        let r = ending_call (suc m) u e some (omega arith) in
        let here : 0 + left ≡ suc m = omega arith in
        ap (λ (w : World). w.notifications) then_world ∙ rw (r.ended, r.notice, here)

    ring_over : (x : Sound) → u.sound ≡ x → ((later_by m u).sound ≡ Sound.Silent → ⊥) → (one_tenth (later_by m u)).sound ≡ Sound.Silent → Both
    ring_over Sound.Silent e sounds silent = absurd (sounds (silent_call m u e).silent)
    ring_over (Sound.Ringing mask volume left) e sounds silent = go (dec_lt m left) (dec_lt (suc m) left)
      where
        some : 1 ≤ left
        some = (ring_held (lines u named.formed) e).least

        go : Dec (m < left) → Dec (suc m < left) → Both
        go (no over) k = absurd (sounds (ending_call m u e some (omega arith)).silent)
        go (yes on) (yes more) =
            absurd (never_silent (sym (ringing_call (suc m) u e more).sounds ∙ ap (λ (v : TagUnit). v.sound) next_unit ∙ silent))
        go (yes on) (no last) =
            list.ring_ends (λ h. sounds (sym (ap (λ (v : TagUnit). v.sound) before) ∙ h)) (ap (λ (v : TagUnit). v.sound) then_unit ∙ silent)
            (ring_told e some (omega arith))

    from_unit : Happens (later_by m u) → Both
    from_unit (ring_ends sounds silent) = ring_over u.sound refl sounds silent
    from_unit (consent_ends some none) = list.consent_ends (rw before some) (rw then_unit none)
    from_unit (window_changes changes) = list.window_changes (λ e. changes (rw (before, then_unit) at e))
    from_unit (seconds_return some none) = list.seconds_return (rw before some) (rw then_unit none)

-- The number
no_less : (u : TagUnit) (n m : ℕ) → Soonest u n → Soonest u m → n < m → ⊥
no_less u n m a b h = b.nothing_before (n - 1) (omega (arith, a.least)) a.happens

one_number : (u : TagUnit) (n m : ℕ) → Names u n → Names u m → n ≡ m
one_number u n m a b = go (dec_lt n m) (dec_lt m n)
  where
    go : Dec (n < m) → Dec (m < n) → n ≡ m
    go (yes h) k = absurd (no_less u n m a.soonest b.soonest h)
    go (no h) (yes k) = absurd (no_less u m n b.soonest a.soonest k)
    go (no h) (no k) = omega arith

names : (u : TagUnit) → well_formed u ≡ true → u.clock.seconds < 4294967296 → Names u (soonest_of u)
names u formed small = record { formed = formed; small = small; soonest = soonest_of_lem u small formed }

happens_last : (u : TagUnit) (n : ℕ) (l longer : List Act) → Names u n → LastTenth n l longer
    → HappensAt n u (runs slept l (start u)) (runs slept longer (start u))
happens_last u zero l longer named last = absurd (omega (arith, last.before))
happens_last u (suc m) l longer named last =
    let same : suc m - 1 ≡ m = omega arith in
    from_unit u (suc m) named m l longer last (rw same at named.soonest.happens)

not_before_lem : (u : TagUnit) (n m : ℕ) (l longer : List Act) → Names u n → m < n → LastTenth m l longer
    → HappensAt m u (runs slept l (start u)) (runs slept longer (start u))
    → ⊥
not_before_lem u n zero l longer named h last = absurd (omega (arith, last.before))
not_before_lem u n (suc m) l longer named h last = λ x. named.soonest.nothing_before m h (to_unit u n named m l longer last x)

-- The edges: for each row a well-formed unit, and its least count, are computed
abbrev right : Row → Bool
right r = well_formed r.unit && (ltb r.unit.clock.seconds 4294967296 && eqb (soonest_of r.unit) r.names)

abbrev all_right : List Row → Bool
all_right [] = true
all_right (r ∷ rs) = right r && all_right rs

row_names : (r : Row) → right r ≡ true → Names r.unit r.names
row_names r h =
    let rest = and_right (well_formed r.unit) _ h in
    let small = ltb-true r.unit.clock.seconds 4294967296 (and_left _ _ rest) in
    let is = eqb-true (soonest_of r.unit) r.names (and_right (ltb r.unit.clock.seconds 4294967296) _ rest) in
    subst (λ (k : ℕ). Names r.unit k) is (names r.unit (and_left _ _ h) small)

rows_hold : (rs : List Row) → all_right rs ≡ true → Holds rs
rows_hold [] h = tt
rows_hold (r ∷ rs) h = (row_names r (and_left _ _ h), rows_hold rs (and_right (right r) _ h))

computed : all_right table ≡ true
unfolding table well_formed settings_legal accounts_legal owner_legal identity_legal nonces_legal issued_nonces sound_legal held_keys rows distinct among all_zero
computed = refl

pub sleep_until_lem : SleepUntil
sleep_until_lem =
    record {
      named = λ u formed small. (soonest_of u, names u formed small);
      only = one_number;
      least = λ u n named. named.soonest.least;
      most = λ u n named. named.soonest.most;
      shorter = λ u n l named only h. unnoticed u n named l only h;
      happens = happens_last;
      not_before = not_before_lem;
      edges = rows_hold table computed;
    }
