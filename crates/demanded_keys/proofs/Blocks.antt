-- The identity key as it travels: what was decrypted with the owner key is encrypted to the same 32 bytes again. Each half by the round
-- trip of the cipher.
use Prim.Native.Nat.{ℕ, ◌+◌, ◌≤◌}
use mathlib.Core.Path.{◌≡◌, sym, ap₂, ◌∙◌}
use mathlib.Core.List.{List, ◌++◌}
use native.Mathlib.Omega.{arith}
use lib.ListN.{length, take, drop, length-drop}
use lib.Seq.{take_at, drop_at, take_all, take-add, length-take-le}
use Rattle.primitives.specs.Standards.{AES128, InvAES128}
use Rattle.primitives.proofs.Laws.{length-InvAES128, AES128-InvAES128}
use Rattle.key_blocks.specs.KeyBlocks.{decrypted_key, encrypted_key}
use Rattle.demanded_answers.specs.History.{Bytes}
use Rattle.demanded_refusals.proofs.OfBytes.{bytes_take, bytes_drop}
use Rattle.demanded_keys.proofs.KeyBytes.{Sixteen}

-- Two blocks, one after the other
two_blocks : (key x y : List ℕ) → length x ≡ 16 → length y ≡ 16 → encrypted_key key (x ++ y) ≡ AES128 key x ++ AES128 key y
unfolding encrypted_key
two_blocks key x y m n = rw (take_at x y 16 m, drop_at x y 16 m, take_all 16 y (omega arith))

pub round_trip : (key cipher : List ℕ) → Sixteen key → 32 ≤ length cipher → Bytes cipher
    → encrypted_key key (decrypted_key key cipher) ≡ take 32 cipher
unfolding decrypted_key
round_trip key cipher k long b =
    let x = take 16 cipher in
    let y = take 16 (drop 16 cipher) in
    let rest : 16 ≤ length (drop 16 cipher) = omega (arith, length-drop 16 cipher) in
    let first : AES128 key (InvAES128 key x) ≡ x =
    AES128-InvAES128 key x k.long k.bytes (length-take-le 16 cipher (omega arith)) (bytes_take 16 cipher b) in
    let second : AES128 key (InvAES128 key y) ≡ y =
    AES128-InvAES128 key y k.long k.bytes (length-take-le 16 (drop 16 cipher) rest)
    (bytes_take 16 (drop 16 cipher) (bytes_drop 16 cipher b)) in
    two_blocks key (InvAES128 key x) (InvAES128 key y) (length-InvAES128 key x k.long) (length-InvAES128 key y k.long)
    ∙ ap₂ (λ (p q : List ℕ). p ++ q) first second
    ∙ sym (take-add 16 16 cipher)
