-- Laws of texts put into lent bytes: one after another is the joined text, byte by byte or whole.
use Prim.Native.Nat.{ℕ, suc, ◌+◌, ◌≤◌, ◌<◌}
use mathlib.Core.Path.{◌≡◌, sym, ap, ◌∙◌}
use mathlib.Core.List.{List, [], ◌∷◌, ◌++◌, append_assoc}
use native.Mathlib.Nat.{add-zero, add_assoc, zero-add}
use native.Mathlib.Numerals.{add-one}
use native.Mathlib.Omega.{arith}
use lib.ListN.{length, take, drop, set, get_or, length-append, length-drop, take-append-drop}
use lib.Seq.{length-take-le, drop-cons, drop-drop, set_at, take_at, drop_at}
use Rattle.notation.specs.Written.{placed, PutsText}

module _ (at : ℕ) (before : List ℕ) where
  pub placed_none : placed at [] before ≡ before
  unfolding placed
  placed_none = rw (add-zero, take-append-drop)

  module _ (a : List ℕ) (fits : at + length a ≤ length before) where
    head_length : length (take at before ++ a) ≡ at + length a
    head_length =
        let front : length (take at before) ≡ at = length-take-le at before (omega arith) in
        length-append (take at before) a ∙ rw front

    placed_split : placed at a before ≡ (take at before ++ a) ++ drop (at + length a) before
    unfolding placed
    placed_split = rw append_assoc

    pub length_placed : length (placed at a before) ≡ length before
    length_placed =
        rw placed_split (simp (length-append (take at before ++ a), head_length, length-drop) (omega arith))

    pub take_placed : take (at + length a) (placed at a before) ≡ take at before ++ a
    take_placed = rw placed_split (take_at (take at before ++ a) (drop (at + length a) before) (at + length a) head_length)

    pub drop_placed : (k : ℕ) → drop (at + length a + k) (placed at a before) ≡ drop (at + length a + k) before
    drop_placed k =
        rw (← drop-drop k (at + length a) (placed at a before), ← drop-drop k (at + length a) before, placed_split)
        (ap (drop k) (drop_at (take at before ++ a) (drop (at + length a) before) (at + length a) head_length))

    pub placed_then : (b : List ℕ) → placed (at + length a) b (placed at a before) ≡ placed at (a ++ b) before
    unfolding placed
    placed_then b = rw (take_placed, drop_placed (length b), length-append, append_assoc, append_assoc, add_assoc)

  pub placed_one : (a : List ℕ) (x n : ℕ) → n ≡ at + length a → n < length before → set (placed at a before) n x ≡ placed at (a ++ (x ∷ [])) before
  unfolding placed
  placed_one a x n e h =
      let here : at + length a < length before = omega arith in
      let fits : at + length a ≤ length before = omega arith in
      rw (e, placed_split a fits, drop-cons before (at + length a) 0 here)
      (set_at (take at before ++ a) (get_or before (at + length a) 0) (drop (suc (at + length a)) before) x (at + length a) (head_length a fits)
      ∙ rw (append_assoc, append_assoc, length-append, ← add_assoc, add-one))

-- a text after another is the joined text
pub puts_then : {a b before middle after : List ℕ} {at next end : ℕ} → PutsText a at before next middle → PutsText b next middle end after
    → at + length a ≤ length before → PutsText (a ++ b) at before end after
puts_then {a} {b} {before} {middle} {after} {at} {next} {end} p q fits =
    record {
      next_is = rw (length-append, ← add_assoc, ← p.next_is) q.next_is;
      bytes_are = q.bytes_are ∙ rw (p.next_is, p.bytes_are) (placed_then at before a fits b);
    }

pub placed_first : (text before : List ℕ) → placed 0 text before ≡ text ++ drop (length text) before
unfolding placed
placed_first text before = rw zero-add

-- a text between two others
pub puts_around : {a b c before one two after : List ℕ} {at n m end : ℕ} → PutsText a at before n one → PutsText b n one m two → PutsText c m two end after
    → at + length a + length b ≤ length before → PutsText (a ++ (b ++ c)) at before end after
puts_around {a} {b} {c} {before} {one} {two} {after} {at} {n} {m} {end} p q r fits =
    let size : length (a ++ b) ≡ length a + length b = length-append a b in
    rw (← append_assoc) (puts_then (puts_then p q (omega arith)) r (omega arith))

pub puts_nothing : (at : ℕ) (before : List ℕ) → PutsText [] at before at before
puts_nothing at before = record { next_is = omega arith; bytes_are = sym (placed_none at before) }
