-- A write has a legal shape exactly if it is sent as ID, length, eight tag bytes and additional data of a legal pair; its parts are then those.
use Prim.Native.Nat.{ℕ, zero, suc, ◌+◌, ◌≤◌}
use mathlib.Core.Path.{◌≡◌, refl, sym, ap}
use mathlib.Core.Bool.{true, false, false≢true}
use mathlib.Core.List.{List, [], ◌∷◌}
use mathlib.Core.Logic.{◌⊎◌, inl, inr}
use native.Mathlib.Omega.{arith}
use lib.Dec.{eqb, leb}
use lib.ListN.{length, length-drop, take-append-drop}
use lib.Seq.{length-take-le}
use borrow.Author.Tests.{eqb-true}
use Rattle.laws.proofs.Flags.{and_left, and_right, or_cases, clash}
use Rattle.wire.specs.Shape.{parsed, legal_sizes, one_of, size_legal, shape_legal}
use Rattle.demanded_refusals.specs.Refused.{LegalLength, of_parameters, of_state, of_first_key, of_next_key, of_clearing, of_recovery, of_ring, of_sound, of_protection, of_protection_flag, of_unprotection, Sent, Illegal}
use Rattle.demanded_answers.proofs.Judging.{request_of, parts, shape}

-- The legal pairs, by the table of sizes
one_size : (size n : ℕ) → one_of size (n ∷ []) ≡ true → size ≡ n
unfolding one_of
one_size size n h = go (or_cases _ _ h)
  where
    go : (eqb size n ≡ true) ⊎ (false ≡ true) → size ≡ n
    go (inl e) = eqb-true size n e
    go (inr e) = absurd (false≢true e)

two_sizes : (size n m : ℕ) → one_of size (n ∷ m ∷ []) ≡ true → (size ≡ n) ⊎ (size ≡ m)
unfolding one_of
two_sizes size n m h = go (or_cases _ _ h)
  where
    go : (eqb size n ≡ true) ⊎ (one_of size (m ∷ []) ≡ true) → (size ≡ n) ⊎ (size ≡ m)
    go (inl e) = inl (eqb-true size n e)
    go (inr e) = inr (one_size size m e)

pair_legal : (id size : ℕ) → size_legal id size ≡ true → LegalLength id size
unfolding size_legal legal_sizes one_of
pair_legal zero size h = rw (one_size size 8 h) of_parameters
pair_legal (suc zero) size h = rw (one_size size 8 h) of_state
pair_legal (suc (suc zero)) size h = go (two_sizes size 40 48 h)
  where
    go : (size ≡ 40) ⊎ (size ≡ 48) → LegalLength 2 size
    go (inl e) = rw e of_first_key
    go (inr e) = rw e of_next_key
pair_legal (suc (suc (suc zero))) size h = rw (one_size size 16 h) of_clearing
pair_legal (suc (suc (suc (suc zero)))) size h = rw (one_size size 8 h) of_recovery
pair_legal (suc (suc (suc (suc (suc zero))))) size h = rw (one_size size 12 h) of_ring
pair_legal (suc (suc (suc (suc (suc (suc zero)))))) size h = rw (one_size size 8 h) of_sound
pair_legal (suc (suc (suc (suc (suc (suc (suc zero))))))) size h = go (two_sizes size 8 9 h)
  where
    go : (size ≡ 8) ⊎ (size ≡ 9) → LegalLength 7 size
    go (inl e) = rw e of_protection
    go (inr e) = rw e of_protection_flag
pair_legal (suc (suc (suc (suc (suc (suc (suc (suc zero)))))))) size h = rw (one_size size 16 h) of_unprotection
pair_legal (suc (suc (suc (suc (suc (suc (suc (suc (suc id))))))))) size h = absurd (false≢true h)

legal_pair : {id size : ℕ} → LegalLength id size → size_legal id size ≡ true
unfolding size_legal legal_sizes one_of
legal_pair of_parameters = refl
legal_pair of_state = refl
legal_pair of_first_key = refl
legal_pair of_next_key = refl
legal_pair of_clearing = refl
legal_pair of_recovery = refl
legal_pair of_ring = refl
legal_pair of_sound = refl
legal_pair of_protection = refl
legal_pair of_protection_flag = refl
legal_pair of_unprotection = refl

-- every legal length counts the tag
tag_counted : {id size : ℕ} → LegalLength id size → 8 ≤ size
tag_counted of_parameters = omega arith
tag_counted of_state = omega arith
tag_counted of_first_key = omega arith
tag_counted of_next_key = omega arith
tag_counted of_clearing = omega arith
tag_counted of_recovery = omega arith
tag_counted of_ring = omega arith
tag_counted of_sound = omega arith
tag_counted of_protection = omega arith
tag_counted of_protection_flag = omega arith
tag_counted of_unprotection = omega arith

-- The parts of a write that was sent
module _ {w : List ℕ} {id size : ℕ} {tag additional : List ℕ} (s : Sent w id size tag additional) where
  pub sent_parts : parsed w ≡ request_of id size tag additional
  sent_parts = rw s.bytes (parts id size tag additional s.tag_bytes (sym s.counted))

  pub sent_legal : shape_legal w ≡ true
  sent_legal = rw s.bytes (shape id size tag additional s.tag_bytes (sym s.counted) (legal_pair s.legal))

pub legal_sent : (w : List ℕ) → shape_legal w ≡ true
    → Sent w (parsed w).id (parsed w).size (parsed w).tag (parsed w).additional
unfolding shape_legal parsed
legal_sent [] h = absurd (false≢true h)
legal_sent (id ∷ []) h = absurd (false≢true h)
legal_sent (id ∷ size ∷ rest) h =
    let fits = and_right (leb 2 (length (id ∷ size ∷ rest))) _ h in
    let legal = pair_legal id size (and_left _ _ fits) in
    let count : length (id ∷ size ∷ rest) ≡ size + 2 = eqb-true _ _ (and_right (size_legal id size) _ fits) in
    let least = tag_counted legal in
    record {
      bytes = ap (λ (l : List ℕ). id ∷ size ∷ l) (sym (take-append-drop 8 rest));
      tag_bytes = length-take-le 8 rest (omega arith);
      counted = omega (arith, length-drop 8 rest);
      legal = legal;
    }

pub illegal : (w : List ℕ) → shape_legal w ≡ false → Illegal w
illegal w h id size tag additional s = clash (sent_legal s) h
