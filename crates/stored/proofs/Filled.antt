-- What bytes mean always fits: the unit that is read from the bytes of a record is one that has a record.
use Prim.Native.Nat.{ℕ, zero, suc, ◌+◌, ◌-◌, ◌^◌, ◌≤◌, ◌<◌, ◌*◌}
use mathlib.Core.Path.{◌≡◌, refl}
use mathlib.Core.Bool.{Bool, true, false, cond}
use mathlib.Core.List.{List, [], ◌∷◌}
use native.Mathlib.Nat.{add-zero, zero-add}
use native.Mathlib.Omega.{arith}
use lib.Dec.{ltb, eqb}
use lib.IntN.{pos, negsuc}
use lib.Signed.{mag}
use lib.ListN.{length, get_or, take, drop}
use borrow.Author.Tests.{ltb-true, ltb-false}
use Rattle.std.specs.Prelude.{Some, None}
use Rattle.laws.specs.Bytes.{number, number_after}
use Rattle.octets.proofs.Numbers.{number_grows}
use Rattle.sizes.specs.Sizes.{nonce_size, earlier_room, keys_room, identity_key_size}
use Rattle.unit.specs.declared.Sound.{Sound}
use Rattle.unit.specs.declared.Protection.{Protection}
use Rattle.record_fields.specs.Part.{Octets, Part, Fields, making, ◌then◌of◌, run, whole, value_of, Fitting}
use Rattle.record_fields.specs.Kinds.{byte_size, byte, plain, number_of, flag, power_size, power, word_power, seconds_size, count_size, tenths_size}
use Rattle.record_parts.specs.Groups.{settings_fields, clock_fields, nonces_fields, owner_fields, accounts_fields, identity_fields, sound_fields, protection_byte, protection_fields}
use Rattle.record_fields.proofs.Placing.{length_run}
use Rattle.stored.specs.Record.{unit_fields, unit_size, record_size}

octets_take : (n : ℕ) (b : List ℕ) → Octets b → Octets (take n b)
octets_take zero b s i = omega arith
octets_take (suc n) [] s i = omega arith
octets_take (suc n) (x ∷ xs) s zero = s 0
octets_take (suc n) (x ∷ xs) s (suc i) = octets_take n xs (λ j. s (suc j)) i

octets_drop : (n : ℕ) (b : List ℕ) → Octets b → Octets (drop n b)
octets_drop zero b s = s
octets_drop (suc n) [] s = s
octets_drop (suc n) (x ∷ xs) s = octets_drop n xs (λ j. s (suc j))

-- a number of n bytes is below 256 ^ n
after_small : (v k : ℕ) (b : List ℕ) → v < 256 ^ k → Octets b → number_after v b < 256 ^ (k + length b)
unfolding number_after
after_small v k [] h s = rw (add-zero k) h
after_small v k (x ∷ xs) h s =
    let place : k + suc (length xs) ≡ k + 1 + length xs = omega arith in
    rw place (after_small (v * 256 + x) (k + 1) xs (number_grows v k x h (s 0)) (λ j. s (suc j)))

module _ (b : List ℕ) (s : Octets b) (at : ℕ) where
  number_fits : (n : ℕ) → at + n ≤ length b → number (run b at n) < 256 ^ n
  unfolding number
  number_fits n h =
      rw (length_run b at n h, zero-add n) at (after_small 0 0 (run b at n) (omega arith) (octets_take n (drop at b) (octets_drop at b s)))

-- a part whose values fit wherever they are read
record Filled {size : ℕ} {A : Type 0} (p : Part size A) : Type 0 where
  filled : (b : List ℕ) → Octets b → (at : ℕ) → at + size ≤ length b → p.fits (p.value b at)

module _ {R : Type 0} where
  -- the parts of these fields are such, and so each value that is read fits its own
  abbrev AllFilled : {size : ℕ} {B : Type 0} → Fields R size B → Type 0
  AllFilled (making make) = Unit
  AllFilled (fields then part of get) = AllFilled fields × Filled part

  abbrev Fit : {size : ℕ} {B : Type 0} → Fields R size B → List ℕ → ℕ → Type 0
  Fit (making make) b at = Unit
  Fit (◌then◌of◌ {m = m} fields part get) b at = Fit fields b at × part.fits (part.value b (at + m))

  all_fit : {size : ℕ} {B : Type 0} (f : Fields R size B) → AllFilled f → (b : List ℕ) → Octets b → (at : ℕ) → at + size ≤ length b
      → Fit f b at
  all_fit (making make) l b s at h = tt
  all_fit (◌then◌of◌ {m = m} {n = n} fields part get) l b s at h =
      let before : at + m ≤ length b = omega arith in
      let here : at + m + n ≤ length b = omega arith in
      (all_fit fields l.0 b s at before, l.1.filled b s (at + m) here)

-- the kinds of fields
byte_filled : Filled byte
byte_filled = record { filled = λ b s at h. s at }

plain_filled : (n : ℕ) → Filled (plain n)
plain_filled n = record { filled = λ b s at h. length_run b at n h }

number_filled : (n : ℕ) → Filled (number_of n)
number_filled n = record { filled = λ b s at h. number_fits b s at n h }

flag_filled : Filled flag
flag_filled = record { filled = λ b s at h. tt }

power_fits : (w : ℕ) → w < 256 ^ power_size → mag (word_power w) < 2 ^ 31
power_fits w h = go (ltb w (2 ^ 31)) refl
  where
    go : (t : Bool) → ltb w (2 ^ 31) ≡ t → mag (cond t (pos w) (negsuc (2 ^ 32 - 1 - w))) < 2 ^ 31
    go true e = omega (arith, ltb-true w (2 ^ 31) e)
    go false e = omega (arith, ltb-false w (2 ^ 31) e)

power_filled : Filled power
power_filled = record { filled = λ b s at h. power_fits (number (run b at power_size)) (number_fits b s at power_size h) }

-- the groups
settings_filled : Filled (whole settings_fields)
unfolding Fitting value_of settings_fields
settings_filled = record { filled = all_fit settings_fields (((tt, power_filled), byte_filled), byte_filled) }

clock_filled : Filled (whole clock_fields)
unfolding Fitting value_of clock_fields
clock_filled = record { filled = all_fit clock_fields ((tt, number_filled seconds_size), byte_filled) }

nonces_filled : Filled (whole nonces_fields)
unfolding Fitting value_of nonces_fields
nonces_filled =
    record { filled = all_fit nonces_fields ((((tt, byte_filled), flag_filled), plain_filled nonce_size), plain_filled earlier_room) }

owner_fits : (place : ℕ) → place < 256 ^ count_size → (t : Bool) → Fitting owner_fields (cond t (Some place) None)
unfolding Fitting owner_fields
owner_fits place h true = ((tt, omega arith), h)
owner_fits place h false = ((tt, omega arith), omega arith)

owner_filled : Filled (whole owner_fields)
unfolding value_of owner_fields
owner_filled =
    record {
      filled = λ b s at h.
          let f = all_fit owner_fields ((tt, byte_filled), number_filled count_size) b s at h in
          owner_fits _ f.1 (eqb (get_or b (at + 0) 0) 1);
    }

accounts_filled : Filled (whole accounts_fields)
unfolding Fitting value_of accounts_fields
accounts_filled = record { filled = all_fit accounts_fields (((tt, number_filled count_size), owner_filled), plain_filled keys_room) }

identity_filled : Filled (whole identity_fields)
unfolding Fitting value_of identity_fields
identity_filled = record { filled = all_fit identity_fields ((tt, flag_filled), plain_filled identity_key_size) }

sound_fits : (mask volume left : ℕ) → mask < 256 → volume < 256 → left < 256 ^ tenths_size → (t : Bool)
    → Fitting sound_fields (cond t (Sound.Ringing mask volume left) Sound.Silent)
unfolding Fitting sound_fields
sound_fits mask volume left m v l true = ((((tt, omega arith), m), v), l)
sound_fits mask volume left m v l false = ((((tt, omega arith), omega arith), omega arith), omega arith)

sound_filled : Filled (whole sound_fields)
unfolding value_of sound_fields
sound_filled =
    record {
      filled = λ b s at h.
          let f = all_fit sound_fields ((((tt, byte_filled), byte_filled), byte_filled), number_filled tenths_size) b s at h in
          sound_fits _ _ _ f.0.0.1 f.0.1 f.1 (eqb (get_or b (at + 0) 0) 1);
    }

on_fits : (skip : Bool) → protection_byte (Protection.On skip) < 256
on_fits true = omega arith
on_fits false = omega arith

protection_fits : (skip t : Bool) → Fitting protection_fields (cond t Protection.Off (Protection.On skip))
unfolding Fitting protection_fields
protection_fits skip true = (tt, omega arith)
protection_fits skip false = (tt, on_fits skip)

protection_filled : Filled (whole protection_fields)
unfolding value_of protection_fields
protection_filled =
    record { filled = λ b s at h. protection_fits (eqb (get_or b (at + 0) 0) 2) (eqb (get_or b (at + 0) 0) 0) }

-- the unit
pub unit_filled : (b : List ℕ) → Octets b → length b ≡ record_size → Fitting unit_fields (value_of unit_fields b byte_size)
unfolding Fitting value_of unit_fields
unit_filled b s h =
    let room : byte_size + unit_size ≤ length b = omega arith in
    all_fit unit_fields
    ((((((((((((tt, settings_filled), clock_filled), nonces_filled), accounts_filled), identity_filled), identity_filled), sound_filled), plain_filled nonce_size), protection_filled), number_filled tenths_size), flag_filled), byte_filled)
    b
    s
    byte_size
    room
