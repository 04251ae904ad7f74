-- The block that ends a message of one block and a hash value's bytes: its words are the hash value's own, the mark, zeros and the length.
-- Then the SHA-256 of such a message.
use mathlib.Core.Path.{◌≡◌, refl, sym}
use mathlib.Core.List.{List, [], ◌∷◌, ◌++◌}
use Prim.Native.Nat.{ℕ, ◌^◌, ◌<◌}
use native.Mathlib.Omega.{arith}
use lib.ListN.{length}
use Rattle.laws.specs.Bytes.{tabulate, big_endian, number, number_after}
use Rattle.octets.proofs.Numbers.{number_big_endian}
use Rattle.padding.specs.Padding.{zeros, padding, words_at, block}
use Rattle.padding.specs.Blocks.{followed}
use Rattle.compression.specs.Compression.{compress}
use Rattle.compression.specs.declared.Working.{Working}
use Rattle.hash.specs.Sha256.{value_after, digest, SHA256}
use Rattle.hash.proofs.Hashed.{value_short, digest_value}
use Rattle.hash.proofs.Laws.{length_digest}

-- a word from its four bytes
word : (x : ℕ) → x < 2 ^ 32 → x ≡ number (big_endian 4 x)
word x h = sym (number_big_endian 4 x h)

pub ending : (v : Working) → v.a < 2 ^ 32 → v.b < 2 ^ 32 → v.c < 2 ^ 32 → v.d < 2 ^ 32 → v.e < 2 ^ 32 → v.f < 2 ^ 32 → v.g < 2 ^ 32 → v.h < 2 ^ 32
    → v.a ∷ v.b ∷ v.c ∷ v.d ∷ v.e ∷ v.f ∷ v.g ∷ v.h ∷ 0x80000000 ∷ 0 ∷ 0 ∷ 0 ∷ 0 ∷ 0 ∷ 0 ∷ 768 ∷ [] ≡ block (followed 64 (digest v)) 0
unfolding block words_at followed padding zeros digest tabulate number number_after big_endian
ending v a b c d e f g h =
    eight (word v.a a) (word v.b b) (word v.c c) (word v.d d) (word v.e e) (word v.f f) (word v.g g) (word v.h h)
  where
    eight : {a b c d e f g h a' b' c' d' e' f' g' h' : ℕ} {l : List ℕ} → a ≡ a' → b ≡ b' → c ≡ c' → d ≡ d' → e ≡ e' → f ≡ f' → g ≡ g' → h ≡ h'
        → a ∷ b ∷ c ∷ d ∷ e ∷ f ∷ g ∷ h ∷ l ≡ a' ∷ b' ∷ c' ∷ d' ∷ e' ∷ f' ∷ g' ∷ h' ∷ l
    eight a b c d e f g h = rw (a, b, c, d, e, f, g, h)

pub after_block : (p w : List ℕ) (v s r : Working) → length p ≡ 64 → s ≡ value_after p → w ≡ block (followed 64 (digest v)) 0 → r ≡ compress s w
    → digest r ≡ SHA256 (p ++ digest v)
after_block p w v s r n e f g =
    let short : length (digest v) < 56 = rw length_digest (omega arith) in
    rw (value_short 64 refl (digest v) p w s r short n e f g) (digest_value (p ++ digest v))
