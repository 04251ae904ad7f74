-- A state is 16 bytes, and the steps, the cipher and the inverse cipher give states: substitution gives bytes whatever it is
-- given, and the other steps place 16 of them.
use mathlib.Core.Path.{◌≡◌, ◌∙◌}
use mathlib.Core.List.{List}
use Prim.Native.Nat.{ℕ, zero, suc, ◌+◌, ◌-◌, ◌*◌, ◌/◌, ◌%◌, ◌≤◌, ◌<◌}
use native.Mathlib.Omega.{arith}
use lib.Bits.{xor_lt}
use lib.Dec.{lit<}
use lib.ListN.{length, take, drop, length-map}
use Rattle.laws.proofs.Tabulate.{length_tabulate}
use Rattle.laws.proofs.Xor.{length_⊕}
use Rattle.substitution.specs.Field.{◌•◌}
use Rattle.substitution.specs.Box.{SBox, InvSBox}
use Rattle.columns.specs.Columns.{mixed_byte}
use Rattle.steps.specs.Steps.{at, state_of, mixed, SubBytes, ShiftRows, MixColumns, AddRoundKey, InvSubBytes, InvShiftRows, InvMixColumns}
use Rattle.rounds.specs.Rounds.{rounds, inv_rounds, Cipher, InvCipher}
use Rattle.steps.proofs.State.{long_round_key}
use Rattle.substitution.proofs.Bytes.{Bytes, bytes_map, bytes_take, bytes_drop, bytes_⊕, bytes_tabulate, product_below_lem, SBox-below, InvSBox-below}

pub record State (s : List ℕ) : Type 0 where
  pub long : length s ≡ 16
  pub bytes : Bytes s

state_of_lem : (f : ℕ → ℕ → ℕ) → ((r c : ℕ) → f r c < 256) → State (state_of f)
unfolding state_of
state_of_lem f h =
    record {
      long = length_tabulate 16 (λ i. f (i % 4) (i / 4));
      bytes = bytes_tabulate 16 (λ i. f (i % 4) (i / 4)) (λ i. h (i % 4) (i / 4));
    }

pub state_shift : (s : List ℕ) → Bytes s → State (ShiftRows s)
unfolding ShiftRows
state_shift s h = state_of_lem (λ r c. at s r ((c + r) % 4)) (λ r c. h (r + 4 * ((c + r) % 4)))

pub state_inv_shift : (s : List ℕ) → Bytes s → State (InvShiftRows s)
unfolding InvShiftRows
state_inv_shift s h = state_of_lem (λ r c. at s r ((c + (4 - r)) % 4)) (λ r c. h (r + 4 * ((c + (4 - r)) % 4)))

state_mixed : (a₀ a₁ a₂ a₃ : ℕ) (s : List ℕ) → a₀ < 256 → a₁ < 256 → a₂ < 256 → a₃ < 256 → State (mixed a₀ a₁ a₂ a₃ s)
unfolding mixed mixed_byte
state_mixed a₀ a₁ a₂ a₃ s h₀ h₁ h₂ h₃ =
    state_of_lem _
    (λ r c.
    xor_lt 8 _ _ (xor_lt 8 (a₀ • at s r c) (a₃ • at s ((r + 1) % 4) c) (product_below_lem a₀ _ h₀) (product_below_lem a₃ _ h₃))
    (xor_lt 8 (a₂ • at s ((r + 2) % 4) c) (a₁ • at s ((r + 3) % 4) c) (product_below_lem a₂ _ h₂) (product_below_lem a₁ _ h₁)))

pub state_mix : (s : List ℕ) → State (MixColumns s)
unfolding MixColumns
state_mix s = state_mixed 0x02 0x01 0x01 0x03 s (lit< tt) (lit< tt) (lit< tt) (lit< tt)

pub state_inv_mix : (s : List ℕ) → State (InvMixColumns s)
unfolding InvMixColumns
state_inv_mix s = state_mixed 0x0e 0x09 0x0d 0x0b s (lit< tt) (lit< tt) (lit< tt) (lit< tt)

-- the first half of a round: bytes and rows; and its inverse
unfoldable pub substituted : List ℕ → List ℕ
substituted s = ShiftRows (SubBytes s)

unfoldable pub restored : List ℕ → List ℕ
restored s = InvSubBytes (InvShiftRows s)

pub state_substituted : (s : List ℕ) → State (substituted s)
unfolding substituted SubBytes
state_substituted s = state_shift (SubBytes s) (bytes_map SBox SBox-below s)

pub state_restored : (s : List ℕ) → State (restored s)
unfolding restored InvSubBytes InvShiftRows state_of
state_restored s =
    record {
      long =
          length-map (InvShiftRows s) InvSBox
          ∙ length_tabulate 16 (λ i. at s (i % 4) ((i / 4 + (4 - i % 4)) % 4));
      bytes = bytes_map InvSBox InvSBox-below (InvShiftRows s);
    }

-- ---- with a key schedule w

module _ (w : List ℕ) (round : ℕ) (fits : 16 * round + 16 ≤ length w) where
  pub long_key : (s : List ℕ) → length s ≡ 16 → length (AddRoundKey w round s) ≡ 16
  unfolding AddRoundKey
  long_key s n = length_⊕ s (take 16 (drop (16 * round) w)) (omega (arith, long_round_key w round fits)) ∙ n

  pub state_key : {s : List ℕ} → Bytes w → State s → State (AddRoundKey w round s)
  unfolding AddRoundKey
  state_key {s} bw h =
      record {
        long = long_key s h.long;
        bytes = bytes_⊕ s (take 16 (drop (16 * round) w)) h.bytes (bytes_take 16 (drop (16 * round) w) (bytes_drop (16 * round) w bw));
      }

module _ (w : List ℕ) where
  pub state_rounds : (n : ℕ) {s : List ℕ} → 16 * (n + 1) ≤ length w → Bytes w → State s → State (rounds w n s)
  unfolding rounds
  state_rounds zero fits bw h = state_key w 0 (omega arith) bw h
  state_rounds (suc n) {s} fits bw h = state_key w (suc n) (omega arith) bw (state_mix (ShiftRows (SubBytes (rounds w n s))))

  long_inv_rounds : (n : ℕ) (s : List ℕ) → 16 ≤ length w → length (inv_rounds w n s) ≡ 16
  unfolding inv_rounds restored
  long_inv_rounds zero s fits = long_key w 0 (omega arith) (restored s) (state_restored s).long
  long_inv_rounds (suc n) s fits = long_inv_rounds n (InvMixColumns (AddRoundKey w (suc n) (restored s))) fits

  bytes_inv_rounds : (n : ℕ) (s : List ℕ) → 16 ≤ length w → Bytes w → Bytes (inv_rounds w n s)
  unfolding inv_rounds restored
  bytes_inv_rounds zero s fits bw = (state_key w 0 (omega arith) bw (state_restored s)).bytes
  bytes_inv_rounds (suc n) s fits bw = bytes_inv_rounds n (InvMixColumns (AddRoundKey w (suc n) (restored s))) fits bw

module _ (Nr : ℕ) (w s : List ℕ) (fits : 16 * (Nr + 1) ≤ length w) where
  pub long-Cipher : length (Cipher Nr w s) ≡ 16
  unfolding Cipher substituted
  long-Cipher = long_key w Nr (omega arith) (substituted (rounds w (Nr - 1) s)) (state_substituted (rounds w (Nr - 1) s)).long

  pub bytes-Cipher : Bytes w → Bytes (Cipher Nr w s)
  unfolding Cipher substituted
  bytes-Cipher bw = (state_key w Nr (omega arith) bw (state_substituted (rounds w (Nr - 1) s))).bytes

  pub long-InvCipher : length (InvCipher Nr w s) ≡ 16
  unfolding InvCipher
  long-InvCipher = long_inv_rounds w (Nr - 1) (AddRoundKey w Nr s) (omega arith)

  pub bytes-InvCipher : Bytes w → Bytes (InvCipher Nr w s)
  unfolding InvCipher
  bytes-InvCipher bw = bytes_inv_rounds w (Nr - 1) (AddRoundKey w Nr s) (omega arith) bw
