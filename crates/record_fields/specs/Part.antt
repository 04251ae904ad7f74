-- A part of a record: values of one type as a fixed count of bytes; and fields, one part after the other, which together are a part again.
use Rattle.std.specs.Prelude.{ℕ, ◌+◌, ◌<◌, ◌≡◌, ◌⊎◌, List, [], ◌++◌, length, get_or, take, drop}

-- `bytes` is how a value is written, `value b at` what the bytes of b mean from the place `at` on, and `fits` says which values there is room
-- for: those of the code's type
pub record Part (size : ℕ) (A : Type 0) : Type 1 where
  pub bytes : A → List ℕ
  pub value : List ℕ → ℕ → A
  pub fits : A → Type 0

-- a list of bytes
abbrev pub Octets : List ℕ → Type 0
Octets b = (i : ℕ) → get_or b i 0 < 256

-- the n bytes from a place on
abbrev pub run : List ℕ → ℕ → ℕ → List ℕ
run b at n = take n (drop at b)

-- The fields of a record of type R in order, each a part with the way to get its value from the record; they take `size` bytes.
-- `making f` starts them, with the function f that makes a record of its fields; `B` is what f still gives once it has the fields so far
pub data Fields (R : Type 0) : ℕ → Type 0 → Type 1 where
  making : {B : Type 0} → B → Fields R 0 B
  ◌then◌of◌ : {m n : ℕ} {A B : Type 0} → Fields R m (A → B) → Part n A → (R → A) → Fields R (m + n) B

infixl 40 ◌then◌of◌
module _ {R : Type 0} where
  -- the fields' bytes, one after the other
  unfoldable pub bytes_of : {size : ℕ} {B : Type 0} → Fields R size B → R → List ℕ
  bytes_of (making make) r = []
  bytes_of (fields then part of get) r = bytes_of fields r ++ part.bytes (get r)

  -- what bytes mean from a place on
  unfoldable pub value_of : {size : ℕ} {B : Type 0} → Fields R size B → List ℕ → ℕ → B
  value_of (making make) b at = make
  value_of (◌then◌of◌ {m = m} fields part get) b at = value_of fields b at (part.value b (at + m))

  -- every field fits
  unfoldable pub Fitting : {size : ℕ} {B : Type 0} → Fields R size B → R → Type 0
  Fitting (making make) r = Unit
  Fitting (fields then part of get) r = Fitting fields r × part.fits (get r)

  -- the record made of the fields of a record
  unfoldable pub again : {size : ℕ} {B : Type 0} → Fields R size B → R → B
  again (making make) r = make
  again (fields then part of get) r = again fields r (get r)

  -- some field's bytes from a place on are no value's: as a byte that names no variant
  unfoldable pub NamesNone : {size : ℕ} {B : Type 0} → Fields R size B → List ℕ → ℕ → Type 0
  NamesNone (making make) b at = ⊥
  NamesNone (◌then◌of◌ {m = m} {n = n} {A = A} fields part get) b at =
      NamesNone fields b at ⊎ ((v : A) → part.fits v → part.bytes v ≡ run b (at + m) n → ⊥)

  -- fields are a part
  abbrev pub whole : {size : ℕ} → Fields R size R → Part size R
  whole fields = record { bytes = bytes_of fields; value = value_of fields; fits = Fitting fields }

-- What is asked of every part: the bytes of a value that fits are as many as the part has, and wherever they stand they mean that value
pub record Lawful {size : ℕ} {A : Type 0} (p : Part size A) : Type 0 where
  pub sized : (v : A) → p.fits v → length (p.bytes v) ≡ size
  pub back : (v : A) → p.fits v → (before after : List ℕ) → p.value (before ++ (p.bytes v ++ after)) (length before) ≡ v
