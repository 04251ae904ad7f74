-- The calls of the primitives serve, or refuse with 7, by the sizes that the paper lists.
use Prim.Native.Nat.{ℕ}
use mathlib.Core.Path.{◌≡◌, refl}
use mathlib.Core.Bool.{Bool, true, false, ◌&&◌}
use mathlib.Core.List.{List}
use lib.Dec.{eqb, leb}
use lib.ListN.{length}
use borrow.Author.Tests.{eq-eqb, ne_eqb, le-leb, lt-leb}
use Rattle.laws.specs.Answer.{Result, gives, refuses}
use Rattle.laws.proofs.Flags.{both, and_fails_left, and_fails_right}
use Rattle.primitives.specs.Standards.{SHA256, HMAC, AES128, InvAES128, AES256}
use Rattle.lent_answer.specs.Ends.{or_refusal}
use Rattle.hash_calls.specs.Calls.{hashed, authenticated}
use Rattle.cipher_calls.specs.Calls.{encrypted, decrypted, encrypted256}
use Rattle.demanded_answers.specs.PrimitiveCalls.{OneBlock, PrimitiveCalls}

right : {b : Bool} {answer : List ℕ} → b ≡ true → or_refusal b answer ≡ gives answer
unfolding or_refusal
right e = rw e

wrong : {b : Bool} (answer : List ℕ) → b ≡ false → or_refusal b answer ≡ refuses 7
unfolding or_refusal
wrong answer e = rw e

-- the three tests of a cipher's call
sized : (n k b room : ℕ) → n ≡ k → b ≡ 16 → (eqb n k && (eqb b 16 && eqb 16 16)) ≡ true
sized n k b room p q = both (eq-eqb n k p) (both (eq-eqb b 16 q) refl)

-- one cipher's call, by its definition
module _ (call : List ℕ → List ℕ → ℕ → Result) (cipher : List ℕ → List ℕ → List ℕ) (size : ℕ)
    (is : (key block : List ℕ) (room : ℕ) → call key block room ≡ or_refusal (eqb (length key) size && (eqb (length block) 16 && eqb room 16)) (cipher key block)) where
  one_block : OneBlock call cipher size
  one_block =
      record {
        serves = λ key block k b. rw (is key block 16) (right (sized (length key) size (length block) 16 k b));
        wrong_key = λ key block room h. rw (is key block room) (wrong (cipher key block) (and_fails_left _ (ne_eqb (length key) size h)));
        wrong_block = λ key block room h.
            rw (is key block room) (wrong (cipher key block) (and_fails_right (eqb (length key) size) (and_fails_left _ (ne_eqb (length block) 16 h))));
        wrong_room = λ key block room h.
            rw (is key block room) (wrong (cipher key block) (and_fails_right (eqb (length key) size) (and_fails_right (eqb (length block) 16) (ne_eqb room 16 h))));
      }

encrypted_is : (key block : List ℕ) (room : ℕ) → encrypted key block room ≡ or_refusal (eqb (length key) 16 && (eqb (length block) 16 && eqb room 16)) (AES128 key block)
unfolding encrypted
encrypted_is key block room = refl

decrypted_is : (key block : List ℕ) (room : ℕ) → decrypted key block room ≡ or_refusal (eqb (length key) 16 && (eqb (length block) 16 && eqb room 16)) (InvAES128 key block)
unfolding decrypted
decrypted_is key block room = refl

long_is : (key block : List ℕ) (room : ℕ) → encrypted256 key block room ≡ or_refusal (eqb (length key) 32 && (eqb (length block) 16 && eqb room 16)) (AES256 key block)
unfolding encrypted256
long_is key block room = refl

pub primitive_calls : PrimitiveCalls
unfolding hashed authenticated
primitive_calls =
    record {
      encrypts = one_block encrypted AES128 16 encrypted_is;
      decrypts = one_block decrypted InvAES128 16 decrypted_is;
      encrypts_long = one_block encrypted256 AES256 32 long_is;
      hashes = λ message h. right (both (le-leb (length message) 65535 h) refl);
      hash_too_long = λ message room h. wrong (SHA256 message) (and_fails_left _ (lt-leb (length message) 65535 h));
      hash_room = λ message room h. wrong (SHA256 message) (and_fails_right (leb (length message) 65535) (ne_eqb room 32 h));
      authenticates = λ key message h k. right (both (le-leb (length key) 65535 h) (both (le-leb (length message) 65535 k) refl));
      key_too_long = λ key message room h. wrong (HMAC key message) (and_fails_left _ (lt-leb (length key) 65535 h));
      message_too_long = λ key message room h.
          wrong (HMAC key message) (and_fails_right (leb (length key) 65535) (and_fails_left _ (lt-leb (length message) 65535 h)));
      code_room = λ key message room h.
          wrong (HMAC key message) (and_fails_right (leb (length key) 65535) (and_fails_right (leb (length message) 65535) (ne_eqb room 32 h)));
    }
