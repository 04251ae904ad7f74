-- The record of a unit and the unit of a record: the round trip, and which bytes are no record.
use Prim.Native.Nat.{ℕ, zero, suc, ◌+◌}
use mathlib.Core.Path.{◌≡◌, sym, ap, ◌∙◌}
use mathlib.Core.Logic.{◌⊎◌, inl, inr, ⊎_elim}
use mathlib.Core.Bool.{Bool, true, false, cond, ◌&&◌}
use mathlib.Core.List.{List, [], ◌∷◌, ◌++◌, append-nil}
use native.Mathlib.Omega.{arith}
use lib.Dec.{eqb}
use lib.ListN.{length, get_or, replicate, length-append}
use borrow.Author.Tests.{eq-eqb, ne_eqb, eqb-true}
use Rattle.laws.specs.Bytes.{same_bytes}
use Rattle.laws.proofs.Flags.{and_left, and_right, fails, true_or_false}
use Rattle.laws.proofs.Same.{same_refl, same_equal}
use Rattle.unit.specs.Change.{no_unit}
use Rattle.unit.proofs.Lines.{lines}
use Rattle.unit.specs.WellFormed.{well_formed}
use Rattle.unit.specs.declared.TagUnit.{TagUnit}
use Rattle.record_fields.specs.Part.{Octets, Fitting, NamesNone, bytes_of, value_of}
use Rattle.record_fields.specs.Kinds.{byte_size}
use Rattle.record_fields.proofs.Joining.{fields_named}
use Rattle.stored.specs.Record.{version, unit_fields, record_size, encoded, decoded}
use Rattle.stored.proofs.Keeping.{unit_parts, unit_lawful}
use Rattle.stored.proofs.Filled.{unit_filled}

pub length_encoded : (u : TagUnit) → Fitting unit_fields u → length (encoded u) ≡ record_size
unfolding encoded
length_encoded u h = length-append (version ∷ []) (bytes_of unit_fields u) ∙ ap (λ (n : ℕ). 1 + n) (unit_lawful.sized u h)

value_encoded : (u : TagUnit) → Fitting unit_fields u → value_of unit_fields (encoded u) byte_size ≡ u
unfolding encoded
value_encoded u h = rw (append-nil (bytes_of unit_fields u)) at (unit_lawful.back u h (version ∷ []) [])

pub round_trip : (u : TagUnit) → Fitting unit_fields u → decoded (encoded u) ≡ u
unfolding decoded
round_trip u h =
    let v = value_encoded u h in
    rw (v, eq-eqb (length (encoded u)) record_size (length_encoded u h), same_refl (encoded u))

-- bytes that mean a unit are its record
pub only_records : (b : List ℕ) → (encoded (decoded b) ≡ b) ⊎ (decoded b ≡ no_unit)
unfolding decoded
only_records b = go (true_or_false test)
  where
    u : TagUnit
    u = value_of unit_fields b byte_size

    test : Bool
    test = eqb (length b) record_size && same_bytes (encoded u) b

    go : (test ≡ true) ⊎ (test ≡ false) → (encoded (cond test u no_unit) ≡ b) ⊎ (cond test u no_unit ≡ no_unit)
    go (inl e) = inl (rw e (same_equal (encoded u) b (and_right (eqb (length b) record_size) _ e)))
    go (inr e) = inr (rw e)

-- how the code decides: by the length, then by the record of what it read
pub other_length : (b : List ℕ) → (length b ≡ record_size → ⊥) → decoded b ≡ no_unit
unfolding decoded
other_length b h = rw (ne_eqb (length b) record_size h)

module _ (b : List ℕ) {written : List ℕ} {u : TagUnit} (long : length b ≡ record_size) (read : u ≡ value_of unit_fields b byte_size) (is : written ≡ encoded u) where
  pub other_bytes : same_bytes written b ≡ false → decoded b ≡ no_unit
  unfolding decoded
  other_bytes e =
      let f : same_bytes (encoded (value_of unit_fields b byte_size)) b ≡ false = rw (is, read) at e in
      rw (eq-eqb (length b) record_size long, f)

  pub same_bytes_lem : same_bytes written b ≡ true → decoded b ≡ u
  unfolding decoded
  same_bytes_lem e =
      let f : same_bytes (encoded (value_of unit_fields b byte_size)) b ≡ true = rw (is, read) at e in
      rw (eq-eqb (length b) record_size long, f) (sym read)

-- bytes that are the record of no unit of the code's mean no unit
pub no_record : (b : List ℕ) → Octets b → ((u : TagUnit) → Fitting unit_fields u → encoded u ≡ b → ⊥) → decoded b ≡ no_unit
unfolding decoded
no_record b s h = go (true_or_false test)
  where
    u : TagUnit
    u = value_of unit_fields b byte_size

    test : Bool
    test = eqb (length b) record_size && same_bytes (encoded u) b

    go : (test ≡ true) ⊎ (test ≡ false) → cond test u no_unit ≡ no_unit
    go (inl e) =
        let long : length b ≡ record_size = eqb-true (length b) record_size (and_left (eqb (length b) record_size) _ e) in
        absurd (h u (unit_filled b s long) (same_equal (encoded u) b (and_right (eqb (length b) record_size) _ e)))
    go (inr e) = rw e

-- as those where a byte names no variant
pub no_variant : (b : List ℕ) → Octets b → NamesNone unit_fields b byte_size → decoded b ≡ no_unit
unfolding encoded
no_variant b s none =
    no_record b s
    (λ u h e.
    let all : b ≡ (version ∷ []) ++ (bytes_of unit_fields u ++ []) = sym e ∙ ap (λ (l : List ℕ). version ∷ l) (sym (append-nil (bytes_of unit_fields u))) in
    fields_named unit_fields unit_parts u h (version ∷ []) [] (rw all at none))

-- a unit has one record: bytes that name no variant where a unit's record names one do not mean that unit too
pub one_record : (b c : List ℕ) → decoded b ≡ decoded c → (b ≡ c) ⊎ (decoded b ≡ no_unit)
one_record b c e =
    ⊎_elim
    (λ own. ⊎_elim (λ other. inl (sym own ∙ ap encoded e ∙ other)) (λ none. inr (e ∙ none)) (only_records c))
    inr
    (only_records b)

-- another version byte, and so memory that is zeroed or erased, however long
pub other_version : (b : List ℕ) → (get_or b 0 0 ≡ version → ⊥) → decoded b ≡ no_unit
unfolding encoded
other_version b h = ⊎_elim (λ e. absurd (h (ap (λ (l : List ℕ). get_or l 0 0) (sym e)))) (λ e. e) (only_records b)

pub zeroed : (n : ℕ) → decoded (replicate n 0x00) ≡ no_unit
zeroed zero = other_version (replicate zero 0x00) (λ e. omega (arith, e))
zeroed (suc n) = other_version (replicate (suc n) 0x00) (λ e. omega (arith, e))

pub erased : (n : ℕ) → decoded (replicate n 0xFF) ≡ no_unit
erased zero = other_version (replicate zero 0xFF) (λ e. omega (arith, e))
erased (suc n) = other_version (replicate (suc n) 0xFF) (λ e. omega (arith, e))

-- and no unit is not well formed: refusal 2
pub no_unit_malformed : well_formed no_unit ≡ false
unfolding no_unit
no_unit_malformed = fails (well_formed no_unit) (λ h. let l = lines no_unit h in omega (arith, l.battery))
