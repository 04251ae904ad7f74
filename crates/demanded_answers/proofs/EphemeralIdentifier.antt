-- The identifier and its r in literal bytes: the definitions of the crates below, opened, say the same.
use Prim.Native.Nat.{ℕ, zero, suc, ◌+◌, ◌*◌, ◌/◌, ◌%◌, ◌^◌}
use mathlib.Core.Path.{◌≡◌, refl, sym, ap, ◌∙◌}
use mathlib.Core.Bool.{not, ◌&&◌}
use mathlib.Core.List.{List, [], ◌∷◌, ◌++◌}
use native.Mathlib.Nat.{pow-suc, mul_comm, div-one, div-div-eq-div-mul}
use native.Mathlib.Omega.{arith}
use lib.Dec.{eqb}
use lib.ListN.{length}
use Rattle.laws.specs.Bytes.{big_endian, number, number_after}
use Rattle.curve_laws.specs.Curves.{SECP160R1}
use Rattle.identifier.specs.Identifier.{half, pseudorandom, scalar, identifier_by, aligned}
use Rattle.unit.specs.Change.{spent}
use Rattle.unit.specs.declared.TagUnit.{TagUnit}
use Rattle.standing.specs.Standing.{current_scalar, current_identifier, current_r, stands, shown_identifier}
use Rattle.demanded_answers.specs.EphemeralIdentifier.{window_of, upper_half, lower_half, number_of, low_bytes, r_from, r_of, identifier_of, cut_r}
use Rattle.demanded_answers.specs.Accepted.{standing}
use Rattle.demanded_answers.proofs.Spelling.{four_bytes}

-- a number, byte by byte from the first, and by the places of its bytes
number_after_lem : (v : ℕ) (bs : List ℕ) → number_after v bs ≡ v * 256 ^ length bs + number_of bs
unfolding number_after number_of
number_after_lem v [] = omega arith
number_after_lem v (b ∷ bs) = number_after_lem (v * 256 + b) bs ∙ rw (pow-suc 256 (length bs)) (omega arith)

number_is : (bs : List ℕ) → number bs ≡ number_of bs
unfolding number
number_is bs = number_after_lem 0 bs ∙ omega arith

-- the lowest bytes: the last is behind the others
low_bytes_end : (k n : ℕ) → low_bytes (suc k) n ≡ low_bytes k (n / 256) ++ (n % 256 ∷ [])
unfolding low_bytes
low_bytes_end zero n = rw div-one
low_bytes_end (suc k) n =
    let same : n / 256 ^ suc k ≡ n / 256 / 256 ^ k =
    ap (λ (m : ℕ). n / m) (pow-suc 256 k ∙ mul_comm (256 ^ k) 256) ∙ sym (div-div-eq-div-mul n 256 (256 ^ k)) in
    rw same (ap (λ (l : List ℕ). (n / 256 / 256 ^ k % 256) ∷ l) (low_bytes_end k n))

pub low_bytes_lem : (k n : ℕ) → big_endian k n ≡ low_bytes k n
unfolding big_endian low_bytes
low_bytes_lem zero n = refl
low_bytes_lem (suc k) n = rw (low_bytes_lem k (n / 256)) (sym (low_bytes_end k n))

pub length_low_bytes : (k n : ℕ) → length (low_bytes k n) ≡ k
unfolding low_bytes
length_low_bytes zero n = refl
length_low_bytes (suc k) n = ap suc (length_low_bytes k n)

-- the halves of table 10
upper_half_lem : (w : ℕ) → half 0xFF w ≡ upper_half w
unfolding half upper_half
upper_half_lem w = rw (four_bytes w)

lower_half_lem : (w : ℕ) → half 0x00 w ≡ lower_half w
unfolding half lower_half
lower_half_lem w = rw (four_bytes w)

r_is_lem : (key : List ℕ) (w : ℕ) → scalar SECP160R1 (pseudorandom key w) ≡ r_from key w
unfolding scalar pseudorandom r_from
r_is_lem key w = rw (number_is, upper_half_lem w, lower_half_lem w)

-- of a unit
module _ (u : TagUnit) where
  scalar_is : current_scalar u ≡ r_of u
  unfolding current_scalar
  scalar_is = r_is_lem u.identity.bytes (window_of u.clock.seconds)

  pub identifier_is_lem : current_identifier u ≡ identifier_of u
  unfolding current_identifier identifier_by SECP160R1
  identifier_is_lem = rw scalar_is (low_bytes_lem 20 _)

  pub cut_is : current_r u ≡ cut_r u
  unfolding current_r aligned SECP160R1
  cut_is = rw scalar_is (low_bytes_lem 20 _)

  pub stands_is : stands u ≡ (u.identity.held && not (eqb (r_of u) 0))
  unfolding stands
  stands_is = rw scalar_is

-- What 0x01 shows of it, on the unit with its nonce spent
pub standing_is : (u : TagUnit) → shown_identifier (spent u) ≡ standing u
unfolding shown_identifier
standing_is u = rw (stands_is (spent u), identifier_is_lem (spent u))
