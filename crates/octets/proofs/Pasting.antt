-- Laws of bytes put into others from a place on: what follows right after joins what was put before.
use mathlib.Core.Path.{◌≡◌, refl, sym, ap, ◌∙◌}
use mathlib.Core.List.{List, [], ◌∷◌, ◌++◌, append-nil, append_assoc}
use Prim.Native.Nat.{ℕ, suc, ◌+◌, ◌/◌, ◌%◌, ◌≤◌, ◌<◌}
use native.Mathlib.Nat.{add-zero, add_assoc}
use native.Mathlib.Omega.{arith}
use lib.ListN.{length, take, drop, set, take-append-drop, length-append, length-drop, drop_of_length-le}
use lib.Seq.{take_at, drop_at, drop-drop, drop-cons, length-take-le, lt-length-set, set_split, take-set-le, drop-set-lt, get_or-set_same}
use Rattle.laws.specs.Bytes.{big_endian}
use Rattle.laws.proofs.BigEndian.{length_big_endian}
use Rattle.octets.specs.Put.{pasted, Puts}

module _ (before : List ℕ) (at : ℕ) where
  pub pasted_none : pasted before at [] ≡ before
  pasted_none = rw add-zero (take-append-drop at before)

  module _ (xs : List ℕ) where
    pub length_pasted : at + length xs ≤ length before → length (pasted before at xs) ≡ length before
    length_pasted h =
        let e : length (take at before) ≡ at = length-take-le at before (omega arith) in
        simp (length-append, length-drop, e) (omega arith)

    -- what stands behind the bytes put
    pub pasted_behind : at + length xs ≤ length before → drop (at + length xs) (pasted before at xs) ≡ drop (at + length xs) before
    pasted_behind h =
        let e : length (take at before ++ xs) ≡ at + length xs
        = length-append (take at before) xs ∙ ap (λ (k : ℕ). k + length xs) (length-take-le at before (omega arith)) in
        rw (sym (append_assoc (take at before) xs (drop (at + length xs) before)))
        (drop_at (take at before ++ xs) (drop (at + length xs) before) (at + length xs) e)

    pub pasted_next : (ys : List ℕ) (n : ℕ) → at + length xs ≡ n → n ≤ length before
        → pasted (pasted before at xs) n ys ≡ pasted before at (xs ++ ys)
    pasted_next ys n e h =
        let front : List ℕ = take at before ++ xs in
        let rest : List ℕ = drop (at + length xs) before in
        let size : length front ≡ n
        = length-append (take at before) xs ∙ ap (λ (k : ℕ). k + length xs) (length-take-le at before (omega arith)) ∙ e in
        let whole : take at before ++ (xs ++ rest) ≡ front ++ rest = sym (append_assoc (take at before) xs rest) in
        let later : drop (n + length ys) (front ++ rest) ≡ drop (at + length (xs ++ ys)) before
        = sym (drop-drop (length ys) n (front ++ rest)) ∙ ap (drop (length ys)) (drop_at front rest n size)
        ∙ drop-drop (length ys) (at + length xs) before ∙ ap (λ (k : ℕ). drop k before) (add_assoc at (length xs) (length ys) ∙ ap (λ (k : ℕ). at + k) (sym (length-append xs ys))) in
        rw (whole, take_at front rest n size, later)
        (append_assoc (take at before) xs (ys ++ drop (at + length (xs ++ ys)) before)
        ∙ ap (λ (l : List ℕ). take at before ++ l) (sym (append_assoc xs ys (drop (at + length (xs ++ ys)) before))))

    -- one more byte after those put, stored before them
    pub pasted_last : (y n : ℕ) → at + length xs ≡ n → n < length before → pasted (set before n y) at xs ≡ pasted before at (xs ++ (y ∷ []))
    pasted_last y n e h =
        let first : take at (set before n y) ≡ take at before = take-set-le at before n y (omega arith) in
        let rest : drop n (set before n y) ≡ y ∷ drop (suc n) before
        = drop-cons (set before n y) n 0 (lt-length-set before n y h)
        ∙ rw (get_or-set_same before n y 0 h, drop-set-lt (suc n) before n y (omega arith)) in
        let places : at + length (xs ++ (y ∷ [])) ≡ suc n = omega (arith, length-append xs (y ∷ [])) in
        rw (first, e, rest, places)
        (ap (λ (l : List ℕ). take at before ++ l) (sym (append_assoc xs (y ∷ []) (drop (suc n) before))))

  pub set_pasted : (y : ℕ) → at < length before → set before at y ≡ pasted before at (y ∷ [])
  set_pasted y h =
      let e : suc at ≡ at + 1 = omega arith in
      rw e at (set_split before at y h)

-- one turn of a loop that puts a number's bytes, the last byte first: `left` bytes of `rest` are still to be put
pub number_turn : (before : List ℕ) (at left rest : ℕ) → at + left < length before
    → pasted (set before (at + left) (rest % 256)) at (big_endian left (rest / 256)) ≡ pasted before at (big_endian (suc left) rest)
unfolding big_endian
number_turn before at left rest h =
    pasted_last before at (big_endian left (rest / 256)) (rest % 256) (at + left)
    (ap (λ (k : ℕ). at + k) (length_big_endian left (rest / 256))) h

-- the promise of a function that puts bytes: from a store, from a copy, and of two that follow each other
pub puts_byte : (before : List ℕ) (at y : ℕ) → at < length before → Puts at 1 (y ∷ []) before (set before at y)
puts_byte before at y h = record { put_is = set_pasted before at y h; size_is = refl }

pub puts_copy : {at size : ℕ} {bytes before after : List ℕ} → after ≡ take at before ++ (bytes ++ drop (at + length bytes) before)
    → length bytes ≡ size → Puts at size bytes before after
puts_copy e n = record { put_is = e; size_is = n }

pub puts_then : {at n m : ℕ} {xs ys before between after : List ℕ} → Puts at n xs before between → Puts (at + n) m ys between after
    → at + n ≤ length before → Puts at (n + m) (xs ++ ys) before after
puts_then {at} {n} {m} {xs} {ys} {before} {between} {after} p q h =
    record {
      put_is =
          q.put_is ∙ ap (λ (l : List ℕ). pasted l (at + n) ys) p.put_is
          ∙ pasted_next before at xs ys (at + n) (ap (λ (k : ℕ). at + k) p.size_is) h;
      size_is = length-append xs ys ∙ rw (p.size_is, q.size_is);
    }

-- bytes put over all that there were
pub puts_all : {size : ℕ} {bytes before after : List ℕ} → Puts 0 size bytes before after → length before ≡ size → after ≡ bytes
puts_all {size} {bytes} {before} {after} p h =
    let full : length before ≤ 0 + length bytes = omega (arith, p.size_is) in
    let none : drop (0 + length bytes) before ≡ [] = drop_of_length-le before full in
    p.put_is ∙ rw none (append-nil bytes)
