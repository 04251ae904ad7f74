-- "Reason: a ring asked for ten minutes must last ten minutes whether the chip dozed once or a thousand times." Ten minutes are 6,000 tenths.
-- Here it is said of every ring and of every list of calls: it lasts as many tenths as its request asked for, and not one fewer or more, and
-- then its timeout notice comes, once, with the nonce of the read behind that request.
use Rattle.std.specs.Prelude.{ℕ, ◌+◌, ◌-◌, ◌*◌, ◌≤◌, ◌<◌, ◌≡◌, true, cond, List, [], ◌∷◌, ◌++◌, eqb, get_or, replicate}
use Rattle.laws.specs.Answer.{gives}
use Rattle.unit.specs.declared.TagUnit.{TagUnit}
use Rattle.unit.specs.declared.Settings.{Settings}
use Rattle.unit.specs.declared.Sound.{Sound}
use Rattle.unit.specs.Change.{fresh}
use Rattle.unit.specs.WellFormed.{well_formed}
use Rattle.unit.specs.Outcome.{Outcome}
use Rattle.tag.specs.Calls.{Written, Act, waits}
use Rattle.demanded_answers.specs.Spelled.{key_from, answer_from, clock, sound, ring_nonce_is, consent, AllBut}
use Rattle.demanded_answers.specs.History.{step, after, writes}
use Rattle.demanded_nonces.specs.Nonces.{Issue}
use Rattle.demanded_time.specs.Time.{Notification, World, slept, runs, start}
use Rattle.demanded_nonces.specs.Among.{NoneIn, Accepts, Notifies, Presses, BringsIn, tenths_in}

-- "A ring notice has ID 0x05, the ring key, data: status (0 started, 2 timeout, 3 button, 4 request), mask, tenths left; zeros once stopped.
-- Timeout and button notices use the nonce of the accepted ring"
abbrev pub timeout_from : List ℕ → List ℕ → List ℕ
timeout_from identity nonce = answer_from 0x05 (key_from 0x02 identity) nonce (2 ∷ 0 ∷ 0 ∷ 0 ∷ [])

-- One call of n tenths. "One tenth: clock on by one; ring left less one, and at 0 silent with a status 2 notice; consent less one unless 0. A
-- call takes any 32-bit number of tenths, equals that many single tenths, and reports the tenth, counted from the call's start, at which a
-- ring ended, or 0."
-- Fewer tenths than are left: it rings on with that many fewer, and nothing is said
pub record RingsOn (mask volume left : ℕ) (u : TagUnit) (o : Outcome) : Type 0 where
  pub sounds : o.unit.sound ≡ Sound.Ringing mask volume left
  pub nonce : o.unit.ring_nonce ≡ u.ring_nonce
  pub nothing : o.result ≡ gives []
  pub ended : o.ended ≡ 0
  pub rest : AllBut (clock ∷ sound ∷ consent ∷ []) u o.unit

-- As many or more: silence, and the notice, at the tenth at which none was left
pub record RingEnds (left : ℕ) (u : TagUnit) (o : Outcome) : Type 0 where
  pub silent : o.unit.sound ≡ Sound.Silent
  pub nonce : o.unit.ring_nonce ≡ replicate 8 0
  pub notice : o.result ≡ gives (timeout_from u.identity.bytes u.ring_nonce)
  pub ended : o.ended ≡ left
  pub rest : AllBut (clock ∷ sound ∷ ring_nonce_is ∷ consent ∷ []) u o.unit

-- Silent before: silent after, and nothing is said
pub record StaysSilent (u : TagUnit) (o : Outcome) : Type 0 where
  pub silent : o.unit.sound ≡ Sound.Silent
  pub nothing : o.result ≡ gives []
  pub ended : o.ended ≡ 0
  pub rest : AllBut (clock ∷ consent ∷ []) u o.unit

-- Lists of calls. An accepted 0x05 that started a ring, as its notice says
abbrev pub Starts : Written → ℕ → TagUnit → Type 0
Starts w room u = Notifies 0 (writes w room) u

-- the tenths that it asks for: "0x05 data: mask, timeout (2 bytes), volume", after the write's first 10 bytes; "All multi-byte numbers are
-- big-endian."
abbrev pub asked_in : List ℕ → ℕ
asked_in bytes = 256 * get_or bytes 11 0 + get_or bytes 12 0

-- what ends a ring before its time or replaces it: "A press while ringing stops it", another accepted 0x05 that did not fail, for "A failed start or
-- stop changes neither an old ring nor its timer", an accepted 0x03 ("The unit
-- becomes fresh"), and the end of the connection in which a key was set: "Sound ends .. at a disconnect that brings a waiting key in". An
-- accepted 0x02 by itself does not, and no other disconnect
pub data Disturbs (a : Act) (u : TagUnit) : Type 0 where
  pressed : Presses a → Disturbs a u
  rung : Accepts 0x05 a u → (Notifies 1 a u → ⊥) → Disturbs a u
  cleared : Accepts 0x03 a u → Disturbs a u
  brought_in : BringsIn a u → Disturbs a u

-- the notifications but those of starts and stops that failed, "(status 0x01)"
abbrev pub unfailed : List Notification → List Notification
unfailed [] = []
unfailed (x ∷ xs) = cond (eqb (get_or x.notice 10 0) 1) (unfailed xs) (x ∷ unfailed xs)

-- A ring of t tenths that began in the world v, with this identity key and nonce, and the world z that n tenths later came of it
pub record Lasts (t : ℕ) (identity nonce : List ℕ) (n : ℕ) (v z : World) : Type 0 where
  pub mask : ℕ
  pub volume : ℕ
  pub begun : v.unit.sound ≡ Sound.Ringing mask volume t
  -- it rings, with what is left of them, and no notice has come but of failures
  pub on_sound : n < t → z.unit.sound ≡ Sound.Ringing mask volume (t - n)
  pub on_nonce : n < t → z.unit.ring_nonce ≡ nonce
  pub on_notices : n < t → unfailed z.notifications ≡ unfailed v.notifications
  -- it is over, and one notice has come, at the tenth t counted from the start
  pub over_sound : t ≤ n → z.unit.sound ≡ Sound.Silent
  pub over_nonce : t ≤ n → z.unit.ring_nonce ≡ replicate 8 0
  pub over_notices : t ≤ n
      → unfailed z.notifications ≡ unfailed v.notifications ++ (record { tenth = v.count + t; notice = timeout_from identity nonce } ∷ [])

pub record RingLasts : Type 0 where
  pub on : (u : TagUnit) (mask volume left n room : ℕ) → well_formed u ≡ true → 42 ≤ room → u.sound ≡ Sound.Ringing mask volume left → n < left
      → RingsOn mask volume (left - n) u (step (waits n room) u)
  pub over : (u : TagUnit) (mask volume left n room : ℕ) → well_formed u ≡ true → 42 ≤ room → u.sound ≡ Sound.Ringing mask volume left → left ≤ n
      → RingEnds left u (step (waits n room) u)
  pub silent : (u : TagUnit) (n room : ℕ) → well_formed u ≡ true → 42 ≤ room → u.sound ≡ Sound.Silent → StaysSilent u (step (waits n room) u)
  -- over lists, from whatever a run has come to
  pub lasts : (w : World) (ring : Written) (room : ℕ) (l : List Act) → Starts ring room w.unit → NoneIn Disturbs l (step (writes ring room) w.unit).unit
      → Lasts (asked_in ring.bytes) w.unit.identity.bytes w.unit.nonces.newest (tenths_in l)
      (runs slept (writes ring room ∷ []) w)
      (runs slept (writes ring room ∷ l) w)
  -- and from a fresh unit, with the nonce of the read behind the request
  pub as_read : (s : Settings) (h : List Act) (ring : Written) (room : ℕ) (l : List Act) → Starts ring room (after h (fresh s))
      → NoneIn Disturbs l (after (h ++ (writes ring room ∷ [])) (fresh s))
      → (nonce : List ℕ)
      × Issue (fresh s) h nonce
      × Lasts (asked_in ring.bytes) (after h (fresh s)).identity.bytes nonce (tenths_in l)
      (runs slept (h ++ (writes ring room ∷ [])) (start (fresh s)))
      (runs slept (h ++ (writes ring room ∷ l)) (start (fresh s)))
