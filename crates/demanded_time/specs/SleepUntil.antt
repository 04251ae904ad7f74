-- Sleep until: "The board wants the unit to name the tenths until the next thing that time alone would do: a ring ends, consent ends, the window
-- changes or the seconds return to 0. It must be the smallest such number, and from 1 to 10,240 on any well-formed unit, since a window lasts
-- 1,024 seconds. Show that any shorter sleep, cut as you like, gives no notification, the same frame or frame refusal, and the same yes or no
-- on consent; and that at the named tenth at least one of those four things happens."
-- `Soonest` is what the code's call promises of the number that it names; here is what that number means over lists of elapsed calls.
use Rattle.std.specs.Prelude.{ℕ, ◌+◌, ◌≤◌, ◌<◌, ◌≡◌, Bool, true, ◌||◌, List, [], ◌∷◌, ◌++◌, ltb, replicate, Some}
use Rattle.unit.specs.declared.TagUnit.{TagUnit}
use Rattle.unit.specs.declared.Sound.{Sound}
use Rattle.unit.specs.Change.{fresh, with_clock, with_accounts, with_identity, with_sound, with_consent}
use Rattle.unit.specs.WellFormed.{well_formed}
use Rattle.sleep.specs.Sleep.{Soonest}
use Rattle.tag.specs.Calls.{frame, Act, calls, waits}
use Rattle.demanded_answers.specs.History.{step, after}
use Rattle.demanded_time.specs.Time.{World, slept, runs, start}
use Rattle.demanded_answers.specs.EphemeralIdentifier.{window_of}
use Rattle.demanded_nonces.specs.Among.{tenths_in}
use Rattle.demanded_time.specs.RingLasts.{timeout_from}
use Rattle.demanded_answers.specs.Edges.{settings}

-- a sleep: a list of elapsed calls, of any tenths with any room, and no other
abbrev pub OnlyTime : List Act → Type 0
OnlyTime [] = Unit {0}
OnlyTime (waits n room ∷ l) = OnlyTime l
OnlyTime (calls c room ∷ l) = ⊥

-- "the same yes or no on consent": whether any is left; and whether a recovery finds "consent left or pairing on"
abbrev pub consent_left : TagUnit → Bool
consent_left u = ltb 0 u.consent

abbrev pub recovery_allowed : TagUnit → Bool
recovery_allowed u = ltb 0 u.consent || u.pairing

-- "gives no notification, the same frame or frame refusal, and the same yes or no on consent"
pub record Unnoticed (u : TagUnit) (l : List Act) : Type 0 where
  pub no_notification : (runs slept l (start u)).notifications ≡ []
  pub same_frame : (room : ℕ) → (step (calls frame room) (after l u)).result ≡ (step (calls frame room) u).result
  pub same_consent : consent_left (after l u) ≡ consent_left u
  pub same_recovery : recovery_allowed (after l u) ≡ recovery_allowed u

-- "at least one of those four things happens" at the tenth n: v is what the unit u came to one tenth before, and w what it came to then. The
-- end of a ring is told by one notification, of that tenth
pub data HappensAt (n : ℕ) (u : TagUnit) (v w : World) : Type 0 where
  ring_ends : (v.unit.sound ≡ Sound.Silent → ⊥) → w.unit.sound ≡ Sound.Silent
      → w.notifications ≡ record { tenth = n; notice = timeout_from u.identity.bytes u.ring_nonce } ∷ []
      → HappensAt n u v w
  consent_ends : 0 < v.unit.consent → w.unit.consent ≡ 0 → HappensAt n u v w
  window_changes : (window_of w.unit.clock.seconds ≡ window_of v.unit.clock.seconds → ⊥) → HappensAt n u v w
  seconds_return : 0 < v.unit.clock.seconds → w.unit.clock.seconds ≡ 0 → HappensAt n u v w

-- two sleeps, each cut as you like, the longer one of n tenths and the other of one tenth less
pub record LastTenth (n : ℕ) (shorter longer : List Act) : Type 0 where
  pub shorter_sleeps : OnlyTime shorter
  pub longer_sleeps : OnlyTime longer
  pub before : tenths_in shorter + 1 ≡ n
  pub total : tenths_in longer ≡ n

-- a well-formed unit, its seconds of 32 bits, as those of every record of the code, and the number that it names
pub record Names (u : TagUnit) (n : ℕ) : Type 0 where
  pub formed : well_formed u ≡ true
  pub small : u.clock.seconds < 4294967296
  pub soonest : Soonest u n

-- Examples at the edges: a fresh unit but for its second, tenth and consent; and one with an owner and an identity key, which rings
abbrev pub unit_at : ℕ → ℕ → ℕ → TagUnit
unit_at seconds tenth consent = with_consent consent (with_clock (record { seconds = seconds; tenth = tenth }) (fresh (settings 1)))

abbrev pub ringing_at : ℕ → ℕ → ℕ → ℕ → TagUnit
ringing_at seconds tenth consent left =
    with_sound (Sound.Ringing 1 0 left) (replicate 8 3)
    (with_identity (record { held = true; bytes = replicate 32 2 })
    (with_accounts (record { count = 1; owner = Some 0; keys = replicate 16 1 ++ replicate 144 0 }) (unit_at seconds tenth consent)))

pub record Row : Type 0 where
  pub unit : TagUnit
  pub names : ℕ

abbrev pub row : TagUnit → ℕ → Row
row u n = record { unit = u; names = n }

unfoldable pub table : List Row
table =
    -- a fresh unit: a whole window
    row (fresh (settings 1)) 10240
    -- the next tenth: a ring's last, consent's last, the window's last, the last of all
    ∷ row (ringing_at 0 0 0 1) 1
    ∷ row (unit_at 0 0 1) 1
    ∷ row (unit_at 1023 9 0) 1
    ∷ row (unit_at 4294967295 9 0) 1
    -- the last second
    ∷ row (unit_at 4294967295 0 0) 10
    -- each of ring, consent and window the first of the three; and all three on the same tenth
    ∷ row (ringing_at 1023 0 10 9) 9
    ∷ row (ringing_at 1023 0 9 10) 9
    ∷ row (ringing_at 1023 1 10 10) 9
    ∷ row (ringing_at 1023 0 10 10) 10
    -- the longest ring and the longest consent
    ∷ row (ringing_at 0 0 0 6000) 6000
    ∷ row (ringing_at 0 0 600 6000) 600
    ∷ []

abbrev pub Holds : List Row → Type 0
Holds [] = Unit {0}
Holds (r ∷ rs) = Names r.unit r.names × Holds rs

pub record SleepUntil : Type 0 where
  -- every well-formed unit names a number, and no second one would do
  pub named : (u : TagUnit) → well_formed u ≡ true → u.clock.seconds < 4294967296 → (n : ℕ) × Names u n
  pub only : (u : TagUnit) (n m : ℕ) → Names u n → Names u m → n ≡ m
  -- "from 1 to 10,240 on any well-formed unit"
  pub least : (u : TagUnit) (n : ℕ) → Names u n → 1 ≤ n
  pub most : (u : TagUnit) (n : ℕ) → Names u n → n ≤ 10240
  -- "any shorter sleep, cut as you like"
  pub shorter : (u : TagUnit) (n : ℕ) (l : List Act) → Names u n → OnlyTime l → tenths_in l < n → Unnoticed u l
  -- "at the named tenth at least one of those four things happens"
  pub happens : (u : TagUnit) (n : ℕ) (l longer : List Act) → Names u n → LastTenth n l longer
      → HappensAt n u (runs slept l (start u)) (runs slept longer (start u))
  -- "the smallest such number": at no earlier tenth
  pub not_before : (u : TagUnit) (n m : ℕ) (l longer : List Act) → Names u n → m < n → LastTenth m l longer
      → HappensAt m u (runs slept l (start u)) (runs slept longer (start u))
      → ⊥
  pub edges : Holds table
