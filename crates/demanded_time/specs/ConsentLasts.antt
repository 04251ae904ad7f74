-- Consent over time: "A press while silent sets consent to 600 (house).", "One tenth: .. consent less one unless 0.", "0x04: recovery key; then
-- consent left or pairing on. .. Consent isn't used up." So for 600 tenths after a press, and no longer, the identity key may be recovered,
-- whatever else is called meanwhile; while pairing is on, always; and on a unit that was never pressed, never.
use Rattle.std.specs.Prelude.{ℕ, ◌≤◌, ◌<◌, ◌≡◌, true, false, List, [], ◌∷◌, ◌++◌, take, drop}
use Rattle.laws.specs.Answer.{gives, refuses}
use Rattle.primitives.specs.Standards.{AES128}
use Rattle.unit.specs.declared.TagUnit.{TagUnit}
use Rattle.unit.specs.declared.Settings.{Settings}
use Rattle.unit.specs.declared.Sound.{Sound}
use Rattle.unit.specs.Change.{fresh}
use Rattle.unit.specs.WellFormed.{well_formed}
use Rattle.tag.specs.Calls.{button, Act, calls}
use Rattle.demanded_answers.specs.Spelled.{key_from, request_from, answer_from, OwnedWith, NoBitOutside}
use Rattle.demanded_answers.specs.History.{step, after, sends}
use Rattle.demanded_nonces.specs.Among.{NoneIn, Accepts, Presses, tenths_in}

-- what gives consent: "A press while silent sets consent to 600"; while ringing it "gives no consent"
pub data Consents (a : Act) (u : TagUnit) : Type 0 where
  consents : Presses a → u.sound ≡ Sound.Silent → Consents a u

-- a unit on which a rightly tagged 0x04 lacks at most consent, with the owner's key
pub record Ready (u : TagUnit) (key : List ℕ) (reach room : ℕ) : Type 0 where
  pub formed : well_formed u ≡ true
  pub identity_held : u.identity.held ≡ true
  pub owned : OwnedWith u key
  pub live : u.nonces.live ≡ true
  pub fits : 42 ≤ room
  pub within : NoBitOutside u.settings.components reach

-- the 0x04 that a phone sends to it
abbrev pub recovery : TagUnit → List ℕ
recovery u = request_from 0x04 (key_from 0x01 u.identity.bytes) u.nonces.newest []

-- "Data: the identity key, two blocks encrypted with the owner key."
abbrev pub Served : TagUnit → List ℕ → ℕ → ℕ → Type 0
Served u key reach room =
    (step (sends (recovery u) reach room) u).result
    ≡ gives (answer_from 0x04 (key_from 0x01 u.identity.bytes) u.nonces.newest
    (AES128 key (take 16 u.identity.bytes) ++ AES128 key (take 16 (drop 16 u.identity.bytes))))

-- "0x82 | no user consent"
abbrev pub Refused : TagUnit → ℕ → ℕ → Type 0
Refused u reach room = (step (sends (recovery u) reach room) u).result ≡ refuses 0x82

-- a press with room on a silent, well-formed unit, and then a list in which consent is not given anew
pub record PressedThen (u : TagUnit) (pressRoom : ℕ) (l : List Act) : Type 0 where
  pub formed : well_formed u ≡ true
  pub silent : u.sound ≡ Sound.Silent
  pub fits : 42 ≤ pressRoom
  pub once : NoneIn Consents l (step (calls button pressRoom) u).unit

pub record ConsentLasts : Type 0 where
  -- an accepted 0x03 would take it: "The unit becomes fresh"
  pub within : (u : TagUnit) (pressRoom : ℕ) (l : List Act) (key : List ℕ) (reach room : ℕ) → PressedThen u pressRoom l
      → NoneIn (Accepts 0x03) l (step (calls button pressRoom) u).unit
      → Ready (after (calls button pressRoom ∷ l) u) key reach room
      → tenths_in l < 600
      → Served (after (calls button pressRoom ∷ l) u) key reach room
  pub later : (u : TagUnit) (pressRoom : ℕ) (l : List Act) (key : List ℕ) (reach room : ℕ) → PressedThen u pressRoom l
      → Ready (after (calls button pressRoom ∷ l) u) key reach room
      → (after (calls button pressRoom ∷ l) u).pairing ≡ false
      → 600 ≤ tenths_in l
      → Refused (after (calls button pressRoom ∷ l) u) reach room
  pub pairing : (u : TagUnit) (key : List ℕ) (reach room : ℕ) → Ready u key reach room → u.pairing ≡ true → Served u key reach room
  pub never : (s : Settings) (h : List Act) (key : List ℕ) (reach room : ℕ) → NoneIn Consents h (fresh s) → Ready (after h (fresh s)) key reach room
      → (after h (fresh s)).pairing ≡ false
      → Refused (after h (fresh s)) reach room
