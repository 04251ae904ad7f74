-- The key block of HMAC: how loops fill it and mask it, its length under a mask, and how the two hashes under it make HMAC.
use mathlib.Core.Path.{◌≡◌, sym, ap, ◌∙◌}
use mathlib.Core.List.{List, [], ◌++◌, append-nil}
use Prim.Native.Nat.{ℕ, zero, suc, ◌+◌, ◌-◌, ◌≤◌, ◌<◌}
use native.Mathlib.Omega.{arith}
use native.Mathlib.Decide.{dec_le}
use lib.ListN.{length, get_or, set, drop, replicate, length-append, length-replicate}
use borrow.Author.Tests.{le-leb, lt-leb}
use lib.Bits.{bit_xor}
use Rattle.laws.specs.Bytes.{◌⊕◌}
use Rattle.laws.proofs.Tabulate.{tabulate_get_or, filled_to, filled_turn, filled_all, filled_rest}
use Rattle.laws.proofs.Masked.{masked, length_xor}
use Rattle.hmac.specs.Hmac.{filled, shortened, HMAC}
use Rattle.padding.specs.Padding.{pad}
use Rattle.compression.specs.declared.Working.{Working}
use Rattle.hash.specs.Sha256.{value_after, digest, SHA256}
use Rattle.hash.proofs.Laws.{length-SHA256}
use Rattle.hash.proofs.Hashed.{digest_value}

drop_replicate : (n m : ℕ) → drop n (replicate {A = ℕ} m 0) ≡ replicate (m - n) 0
drop_replicate zero m = let e : m - zero ≡ m = omega arith in rw e
drop_replicate (suc n) zero = let e : zero - suc n ≡ zero = omega arith in rw e
drop_replicate (suc n) (suc m) = let e : suc m - suc n ≡ m - n = omega arith in rw e (drop_replicate n m)

pub key_copied : (k v : List ℕ) (i : ℕ) → i ≡ length k → v ≡ filled_to i (λ j. get_or k j 0) (replicate 64 0) → v ≡ filled k
unfolding filled_to filled
key_copied k v i e f = rw e at f ∙ rw (tabulate_get_or 0 k, drop_replicate (length k) 64)

abbrev pub mask : List ℕ → ℕ → ℕ → ℕ
mask b x j = bit_xor (get_or b j 0) x

module _ (b : List ℕ) (x : ℕ) (block : length b ≡ 64) where
  pub mask_more : (v : List ℕ) (i : ℕ) → i < 64 → v ≡ filled_to i (mask b x) b → set v i (bit_xor (get_or v i 0) x) ≡ filled_to (i + 1) (mask b x) b
  mask_more v i h e =
      let f : bit_xor (get_or v i 0) x ≡ mask b x i = rw (e, filled_rest (mask b x) b i i 0 (omega arith)) in
      filled_turn (mask b x) b v i (bit_xor (get_or v i 0) x) 0 (omega arith) e f

  pub mask_all : (v : List ℕ) (i : ℕ) → i ≡ 64 → v ≡ filled_to i (mask b x) b → v ≡ b ⊕ replicate 64 x
  mask_all v i h e = rw h at (e ∙ filled_all (mask b x) b i (h ∙ sym block)) ∙ sym (masked b 64 x block)

pub short_key : (k r : List ℕ) → length k ≤ 64 → r ≡ filled k → r ≡ filled (shortened k)
unfolding shortened
short_key k r h e = e ∙ rw (le-leb (length k) 64 h)

pub long_key : (k d r : List ℕ) → 64 < length k → d ≡ SHA256 (k ++ []) → r ≡ filled d → r ≡ filled (shortened k)
unfolding shortened
long_key k d r h e f = f ∙ rw (lt-leb (length k) 64 h, e, append-nil)

-- ---- the key's block under a mask is a block

length_filled : (k : List ℕ) → length k ≤ 64 → length (filled k) ≡ 64
unfolding filled
length_filled k h = length-append k (replicate (64 - length k) 0) ∙ rw length-replicate (omega arith)

length_shortened : (key : List ℕ) → length (shortened key) ≤ 64
unfolding shortened
length_shortened key = go (dec_le (length key) 64)
  where
    go : Dec (length key ≤ 64) → length (shortened key) ≤ 64
    go (yes p) = rw (le-leb (length key) 64 p) p
    go (no q) = rw (lt-leb (length key) 64 (omega arith), length-SHA256 key) (omega arith)

pub length_masked : (key : List ℕ) (x : ℕ) → length (filled (shortened key) ⊕ replicate 64 x) ≡ 64
length_masked key x =
    let n : length (filled (shortened key)) ≡ 64 = length_filled (shortened key) (length_shortened key) in
    length_xor (filled (shortened key)) (replicate 64 x) (n ∙ sym (length-replicate 64 x)) ∙ n

-- HMAC from the hash values that it goes on from: the inner hash value v, whose bytes are the inner hash, and the outer hash
pub two_hashes : (key head tail last r : List ℕ) (v : Working)
    → v ≡ value_after (pad ((filled (shortened key) ⊕ replicate 64 0x36) ++ (head ++ (tail ++ (last ++ [])))))
    → r ≡ SHA256 ((filled (shortened key) ⊕ replicate 64 0x5c) ++ digest v)
    → r ≡ HMAC key (head ++ (tail ++ last))
unfolding HMAC
two_hashes key head tail last r v g k =
    let text : List ℕ = (filled (shortened key) ⊕ replicate 64 0x36) ++ (head ++ (tail ++ (last ++ []))) in
    let inner : digest v ≡ SHA256 text = ap digest g ∙ digest_value text in
    k ∙ rw (inner, append-nil)
