-- The bytes of a hash value word by word and one by one, and the number of blocks of a padded message.
use mathlib.Core.Path.{◌≡◌, refl, sym, ap, ◌∙◌}
use mathlib.Core.List.{List, [], ◌∷◌, ◌++◌, append_assoc, append-nil}
use Prim.Native.Nat.{ℕ, zero, suc, ◌+◌, ◌-◌, ◌*◌, ◌/◌, ◌%◌, ◌^◌, ◌≤◌, ◌<◌}
use native.Mathlib.Nat.{add-zero, div-one, div-div-eq-div-mul}
use native.Mathlib.Omega.{arith}
use native.Mathlib.Decide.{dec_lt}
use native.Mathlib.Numerals.{add-one}
use lib.ListN.{length, get_or, take, replicate, length-append}
use lib.Seq.{take-suc, length-take-le}
use Rattle.laws.specs.Bytes.{tabulate, big_endian}
use Rattle.laws.proofs.BigEndian.{length_big_endian}
use Rattle.words.specs.Words.{bytes_of}
use Rattle.words.proofs.Words.{length_bytes_of, bytes_of_append}
use Rattle.octets.specs.Put.{pasted}
use Rattle.octets.proofs.Pasting.{pasted_next}
use Rattle.padding.specs.Padding.{zeros, padding, pad, words_at, block}
use Rattle.hash.specs.Sha256.{H⁰, hash_value, value_after, digest, SHA256}
use Rattle.compression.specs.Compression.{compress}
use Rattle.compression.specs.declared.Working.{Working}
use Rattle.padding.specs.Blocks.{followed}
use Rattle.padding.proofs.Padded.{length_pad, length_followed, block_words, words_before, words_after}

-- byte i of words of 32 bits
unfoldable pub byte_of : List ℕ → ℕ → ℕ
byte_of words i = get_or words (i / 4) 0 / 2 ^ (24 - 8 * (i % 4)) % 256

pub digest_bytes : (v : Working) → tabulate 32 (byte_of (v.a ∷ v.b ∷ v.c ∷ v.d ∷ v.e ∷ v.f ∷ v.g ∷ v.h ∷ [])) ≡ digest v
unfolding byte_of tabulate digest big_endian
digest_bytes v = simp (div-div-eq-div-mul, div-one)

-- the bytes of a hash value are those of its words
abbrev pub words_of : Working → List ℕ
words_of v = v.a ∷ v.b ∷ v.c ∷ v.d ∷ v.e ∷ v.f ∷ v.g ∷ v.h ∷ []

pub all_put : (v : Working) → pasted (replicate 32 0) 0 (bytes_of (take 8 (words_of v))) ≡ digest v
unfolding digest bytes_of big_endian
all_put v = refl

-- one word's bytes more, put behind those of the words before it
pub word_put : (z ws out : List ℕ) (i : ℕ) → i < length ws → 4 * length ws ≤ length z → out ≡ pasted z 0 (bytes_of (take i ws))
    → pasted out (4 * i) (big_endian 4 (get_or ws i 0)) ≡ pasted z 0 (bytes_of (take (i + 1) ws))
unfolding bytes_of
word_put z ws out i h room e =
    let size : length (bytes_of (take i ws)) ≡ 4 * i = length_bytes_of (take i ws) ∙ ap (λ (n : ℕ). 4 * n) (length-take-le i ws (omega arith)) in
    let long : length (big_endian 4 (get_or ws i 0)) ≡ 4 = length_big_endian 4 (get_or ws i 0) in
    let last : bytes_of (take i ws) ++ bytes_of (get_or ws i 0 ∷ []) ≡ bytes_of (take i ws) ++ big_endian 4 (get_or ws i 0)
    = ap (λ (l : List ℕ). bytes_of (take i ws) ++ l) (append-nil (big_endian 4 (get_or ws i 0))) in
    let next : bytes_of (take i ws ++ (get_or ws i 0 ∷ [])) ≡ bytes_of (take (i + 1) ws)
    = ap bytes_of (rw (add-one, take-suc ws i 0 h)) in
    rw e (pasted_next z 0 (bytes_of (take i ws)) (big_endian 4 (get_or ws i 0)) (4 * i) (omega arith) (omega arith))
    ∙ ap (pasted z 0) (sym last ∙ sym (bytes_of_append (take i ws) (get_or ws i 0 ∷ [])) ∙ next)

pub zeros_low : (n : ℕ) → n % 64 < 56 → zeros n ≡ 55 - n % 64
unfolding zeros
zeros_low n h = omega arith

pub zeros_high : (n : ℕ) → 56 ≤ n % 64 → zeros n ≡ 119 - n % 64
unfolding zeros
zeros_high n h = omega arith

pub length_blocks : (m : List ℕ) → length (pad m) ≡ 64 * ((length m + 8) / 64 + 1)
length_blocks m = go (dec_lt (length m % 64) 56)
  where
    go : Dec (length m % 64 < 56) → length (pad m) ≡ 64 * ((length m + 8) / 64 + 1)
    go (yes p) = omega (arith, length_pad m, zeros_low (length m) p)
    go (no q) = omega (arith, length_pad m, zeros_high (length m) (omega arith))

pub blocks : (m : List ℕ) → length (pad m) / 64 ≡ (length m + 8) / 64 + 1
blocks m = omega (arith, length_blocks m)

-- ---- blocks after blocks

-- the hash value after some blocks of p is that of a list that goes on from p
value_prefix : (p q : List ℕ) (n : ℕ) → 64 * n ≤ length p → hash_value p n ≡ hash_value (p ++ q) n
unfolding hash_value
value_prefix p q zero h = refl
value_prefix p q (suc n) h =
    let same : block p n ≡ block (p ++ q) n =
    sym (block_words p n) ∙ sym (words_before p q (64 * n) (omega arith)) ∙ block_words (p ++ q) n in
    rw (value_prefix p q n (omega arith), same)

pub value_start : (p q : List ℕ) (s : Working) → length p % 64 ≡ 0 → s ≡ value_after p → s ≡ hash_value (p ++ q) (length p / 64 + 0)
unfolding value_after
value_start p q s h e = e ∙ value_prefix p q (length p / 64) (omega arith) ∙ rw add-zero

pub value_more : (p q : List ℕ) (i : ℕ) (s : Working) (w : List ℕ) (r : Working) → length p % 64 ≡ 0
    → s ≡ hash_value (p ++ q) (length p / 64 + i) → w ≡ block q i → r ≡ compress s w → r ≡ hash_value (p ++ q) (length p / 64 + (i + 1))
unfolding hash_value
value_more p q i s w r h e f g =
    let k : ℕ = length p / 64 + i in
    let one : length p / 64 + (i + 1) ≡ suc k = omega arith in
    let place : 64 * k - length p ≡ 64 * i = omega arith in
    let same : block q i ≡ block (p ++ q) k =
    sym (block_words q i)
    ∙ ap (words_at q) (sym place)
    ∙ sym (words_after p q (64 * k) (omega arith))
    ∙ block_words (p ++ q) k in
    g ∙ rw (e, f, same, one)

pub value_at_start : H⁰ ≡ value_after []
unfolding value_after hash_value
value_at_start = refl

-- the hash value after one block
pub one_block : (p w : List ℕ) (s r : Working) → length p ≡ 64 → w ≡ words_at p 0 → s ≡ H⁰ → r ≡ compress s w → r ≡ value_after p
unfolding value_after hash_value block
one_block p w s r n e f g = g ∙ rw (f, e, n)

-- the hash value after the last block of a message m that follows p
pub value_ends : (before : ℕ) → before % 64 ≡ 0 → (m p : List ℕ) (i : ℕ) (s : Working) → length p ≡ before → i ≡ (length m + 8) / 64 + 1
    → s ≡ hash_value (p ++ followed before m) (length p / 64 + i) → s ≡ value_after (pad (p ++ m))
unfolding value_after pad followed
value_ends before whole m p i s n b e =
    let long : length (p ++ m) ≡ before + length m = length-append p m ∙ rw n in
    let list : p ++ (m ++ padding (before + length m)) ≡ (p ++ m) ++ padding (length (p ++ m)) =
    rw long (sym (append_assoc p m (padding (before + length m)))) in
    let count : length p / 64 + i ≡ length ((p ++ m) ++ padding (length (p ++ m))) / 64 =
    omega (arith, blocks (p ++ m)) in
    e ∙ rw list (ap (hash_value ((p ++ m) ++ padding (length (p ++ m)))) count)

-- the last block of a message m that follows p and is so short that it has no other
pub value_short : (before : ℕ) → before % 64 ≡ 0 → (m p w : List ℕ) (s r : Working) → length m < 56 → length p ≡ before
    → s ≡ value_after p → w ≡ block (followed before m) 0 → r ≡ compress s w → r ≡ value_after (pad (p ++ m))
value_short before whole m p w s r short n e f g =
    let blocks : length p % 64 ≡ 0 = rw n whole in
    let q : List ℕ = followed before m in
    value_ends before whole m p (0 + 1) r n (omega arith) (value_more p q 0 s w r blocks (value_start p q s blocks e) f g)

pub digest_value : (m : List ℕ) → digest (value_after (pad m)) ≡ SHA256 m
unfolding SHA256 value_after
digest_value m = refl

-- the blocks that the code counts
pub block_within : (before : ℕ) → before % 64 ≡ 0 → (m : List ℕ) (i : ℕ) → i < (length m + 8) / 64 + 1 → 64 * i + 64 ≤ length (followed before m)
block_within before whole m i b = omega (arith, length_blocks m, length_pad m, length_followed before whole m)
