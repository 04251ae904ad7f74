-- Reading hexadecimal text from the front: the bytes read so far, and what the rest of the text gives.
use Prim.Native.Nat.{ℕ, suc, ◌+◌, ◌-◌, ◌*◌, ◌%◌, ◌≤◌, ◌<◌}
use mathlib.Core.Path.{◌≡◌, refl, sym, ap, ◌∙◌}
use mathlib.Core.List.{List, [], ◌∷◌, ◌++◌, append_assoc, append-nil}
use Rattle.std.specs.Prelude.{Option, None, Some}
use native.Mathlib.Numerals.{add-one}
use native.Mathlib.Omega.{arith}
use lib.ListN.{length, take, drop, get_or, set, drop_of_length-le}
use lib.Seq.{drop-cons, take-suc-set}
use Rattle.hex_reading.specs.Hex.{bytes, hex_value, pair_value, only_one, one_byte}
use Rattle.hex_reading.specs.HexValues.{pair_of}

-- bytes in front of what is read
unfoldable pub joined : List ℕ → Option (List ℕ) → Option (List ℕ)
joined p None = None
joined p (Some bs) = Some (p ++ bs)

pub joined_none : (text : List ℕ) → bytes text ≡ joined [] (bytes text)
unfolding joined
joined_none text = go (bytes text)
  where
    go : (o : Option (List ℕ)) → o ≡ joined [] o
    go None = refl
    go (Some bs) = refl

-- two digits that make no byte give nothing, whatever follows; nor does anything before what gives nothing
pair_wrong : (h l : Option ℕ) (r : Option (List ℕ)) → pair_of h l ≡ None → pair_value h l r ≡ None
unfolding pair_value
pair_wrong None l r e = refl
pair_wrong (Some h) None r e = refl
pair_wrong (Some h) (Some l) r e = cc

pair_before_none : (h l : Option ℕ) → pair_value h l None ≡ None
unfolding pair_value
pair_before_none None l = refl
pair_before_none (Some h) None = refl
pair_before_none (Some h) (Some l) = refl

-- digits that stand alone
pub bytes_odd : (text : List ℕ) → length text % 2 ≡ 1 → bytes text ≡ None
unfolding bytes
bytes_odd [] h = cc
bytes_odd (c ∷ []) h = refl
bytes_odd (c ∷ (d ∷ cs)) h =
    ap (pair_value (hex_value c) (hex_value d)) (bytes_odd cs (omega arith)) ∙ pair_before_none (hex_value c) (hex_value d)

module _ (text : List ℕ) (at : ℕ) where
  pub bytes_end : length text ≤ at → bytes (drop at text) ≡ Some []
  unfolding bytes
  bytes_end h = rw (drop_of_length-le text h)

  bytes_pair : at + 1 < length text
      → bytes (drop at text) ≡ pair_value (hex_value (get_or text at 0)) (hex_value (get_or text (at + 1) 0)) (bytes (drop (at + 2) text))
  unfolding bytes
  bytes_pair h =
      let two : at + 2 ≡ suc (suc at) = omega arith in
      rw (two, add-one, drop-cons text at 0 (omega arith), drop-cons text (suc at) 0 (omega arith))

  pub bytes_wrong : at + 1 < length text → pair_of (hex_value (get_or text at 0)) (hex_value (get_or text (at + 1) 0)) ≡ None → bytes (drop at text) ≡ None
  bytes_wrong h e = bytes_pair h ∙ pair_wrong _ _ _ e

-- a byte more
more_of : (into : List ℕ) (i b : ℕ) (h l : Option ℕ) (rest : Option (List ℕ)) → i < length into → pair_of h l ≡ Some b
    → joined (take i into) (pair_value h l rest) ≡ joined (take (i + 1) (set into i b)) rest
unfolding joined pair_value
more_of into i b None l rest small e = cc
more_of into i b (Some h) None rest small e = cc
more_of into i b (Some h) (Some l) None small e = refl
more_of into i b (Some h) (Some l) (Some bs) small e =
    let is : h * 16 + l ≡ b = cc in
    rw (add-one, take-suc-set into i b small, append_assoc, is) refl

pub joined_more : (text into : List ℕ) (i b : ℕ) → 2 * i + 1 < length text → i < length into
    → pair_of (hex_value (get_or text (2 * i) 0)) (hex_value (get_or text (2 * i + 1) 0)) ≡ Some b
    → joined (take i into) (bytes (drop (2 * i) text)) ≡ joined (take (i + 1) (set into i b)) (bytes (drop (2 * (i + 1)) text))
joined_more text into i b there small e =
    let next : 2 * (i + 1) ≡ 2 * i + 2 = omega arith in
    ap (joined (take i into)) (bytes_pair text (2 * i) there) ∙ rw next (more_of into i b _ _ _ small e)

pub joined_wrong : (text into : List ℕ) (i : ℕ) → 2 * i + 1 < length text
    → pair_of (hex_value (get_or text (2 * i) 0)) (hex_value (get_or text (2 * i + 1) 0)) ≡ None
    → joined (take i into) (bytes (drop (2 * i) text)) ≡ None
unfolding joined
joined_wrong text into i there e = ap (joined (take i into)) (bytes_wrong text (2 * i) there e)

pub joined_all : (text into : List ℕ) (i : ℕ) → length text ≤ 2 * i → joined (take i into) (bytes (drop (2 * i) text)) ≡ Some (take i into)
unfolding joined
joined_all text into i h = ap (joined (take i into)) (bytes_end text (2 * i) h) ∙ ap Some (append-nil (take i into))

-- the text of one byte: two digits, and no other text
only_pair : (h l : Option ℕ) → only_one (pair_value h l (Some [])) ≡ pair_of h l
unfolding pair_value
only_pair None l = refl
only_pair (Some h) None = refl
only_pair (Some h) (Some l) = refl

two_pairs : (h l i j : Option ℕ) (rest : Option (List ℕ)) → only_one (pair_value h l (pair_value i j rest)) ≡ None
unfolding pair_value
two_pairs None l i j rest = refl
two_pairs (Some h) None i j rest = refl
two_pairs (Some h) (Some l) None j rest = refl
two_pairs (Some h) (Some l) (Some i) None rest = refl
two_pairs (Some h) (Some l) (Some i) (Some j) None = refl
two_pairs (Some h) (Some l) (Some i) (Some j) (Some bs) = refl

pub not_two : (text : List ℕ) → (length text ≡ 2 → ⊥) → None ≡ one_byte text
unfolding one_byte bytes
not_two [] h = refl
not_two (c ∷ []) h = refl
not_two (c ∷ (d ∷ [])) h = absurd (h refl)
not_two (c ∷ (d ∷ (e ∷ []))) h = sym (ap only_one (pair_before_none (hex_value c) (hex_value d)))
not_two (c ∷ (d ∷ (e ∷ (f ∷ cs)))) h = sym (two_pairs (hex_value c) (hex_value d) (hex_value e) (hex_value f) (bytes cs))

pub two_digits : (text : List ℕ) → length text ≡ 2 → pair_of (hex_value (get_or text 0 0)) (hex_value (get_or text 1 0)) ≡ one_byte text
unfolding one_byte bytes
two_digits [] h = absurd (omega arith)
two_digits (c ∷ []) h = absurd (omega arith)
two_digits (c ∷ (d ∷ [])) h = sym (only_pair (hex_value c) (hex_value d))
two_digits (c ∷ (d ∷ (e ∷ cs))) h = absurd (omega arith)
