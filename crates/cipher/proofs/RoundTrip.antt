-- The inverse cipher undoes the cipher, and the cipher the inverse cipher: step by step, then by induction on the rounds, for any
-- schedule of bytes that is long enough; AES-128 is a use.
use mathlib.Core.Path.{◌≡◌, ap, ◌∙◌}
use mathlib.Core.List.{List, map, map-map, map-id}
use Prim.Native.Nat.{ℕ, zero, suc, ◌+◌, ◌-◌, ◌*◌, ◌≤◌, ◌<◌}
use native.Mathlib.Omega.{arith}
use lib.Dec.{lit≤}
use lib.ListN.{length, get_or, take, drop, length-map}
use Rattle.laws.specs.Bytes.{tabulate}
use Rattle.laws.proofs.Tabulate.{tabulate_get_or}
use Rattle.laws.proofs.Xor.{⊕_cancel}
use Rattle.substitution.specs.Box.{SBox, InvSBox}
use Rattle.cipher.specs.Aes.{AES128, InvAES128}
use Rattle.steps.specs.Steps.{state_of, SubBytes, ShiftRows, MixColumns, AddRoundKey, InvSubBytes, InvShiftRows, InvMixColumns}
use Rattle.rounds.specs.Rounds.{rounds, inv_rounds, Cipher, InvCipher}
use Rattle.key_schedule.specs.Expansion.{KeyExpansion}
use Rattle.steps.proofs.State.{long_round_key}
use Rattle.substitution.proofs.Maps.{map_agree}
use Rattle.substitution.proofs.Bytes.{Bytes}
use Rattle.substitution.proofs.BoxLaws.{InvSBox-SBox, SBox-InvSBox}
use Rattle.steps.proofs.Mixing.{InvMixColumns-MixColumns, MixColumns-InvMixColumns}
use Rattle.key_schedule.proofs.Expansion.{length_schedule, bytes_schedule}
use Rattle.rounds.proofs.States.{State, state_inv_shift, state_mix, state_inv_mix, substituted, restored, state_substituted, state_restored, state_key, state_rounds}

-- ---- each step is undone

key_undone : (w : List ℕ) (round : ℕ) {s : List ℕ} → 16 * round + 16 ≤ length w → State s
    → AddRoundKey w round (AddRoundKey w round s) ≡ s
unfolding AddRoundKey
key_undone w round {s} fits h =
    let n : length s ≡ 16 = h.long in
    ⊕_cancel s (take 16 (drop (16 * round) w)) (omega (arith, long_round_key w round fits))

map_undone : (f g : ℕ → ℕ) → ((b : ℕ) → b < 256 → g (f b) ≡ b) → (s : List ℕ) → Bytes s → map g (map f s) ≡ s
map_undone f g h s b = map-map g f s ∙ map_agree (λ x. g (f x)) (λ x. x) h s b ∙ map-id s

places : (s : List ℕ) → length s ≡ 16 → tabulate 16 (λ i. get_or s i 0) ≡ s
places s n = rw n at (tabulate_get_or 0 s)

shift_undone : (s : List ℕ) → length s ≡ 16 → InvShiftRows (ShiftRows s) ≡ s
unfolding InvShiftRows ShiftRows state_of tabulate
shift_undone s n = places s n

inv_shift_undone : (s : List ℕ) → length s ≡ 16 → ShiftRows (InvShiftRows s) ≡ s
unfolding InvShiftRows ShiftRows state_of tabulate
inv_shift_undone s n = places s n

restored_substituted : {s : List ℕ} → State s → restored (substituted s) ≡ s
unfolding restored substituted SubBytes InvSubBytes
restored_substituted {s} h =
    ap InvSubBytes (shift_undone (SubBytes s) (length-map s SBox ∙ h.long)) ∙ map_undone SBox InvSBox InvSBox-SBox s h.bytes

substituted_restored : {s : List ℕ} → State s → substituted (restored s) ≡ s
unfolding restored substituted SubBytes InvSubBytes
substituted_restored {s} h =
    ap ShiftRows (map_undone InvSBox SBox SBox-InvSBox (InvShiftRows s) (state_inv_shift s h.bytes).bytes)
    ∙ inv_shift_undone s h.long

-- ---- the rounds

module _ (w : List ℕ) (bw : Bytes w) where
  rounds_undone : (n : ℕ) {s : List ℕ} → 16 * (n + 1) ≤ length w → State s → inv_rounds w n (substituted (rounds w n s)) ≡ s
  unfolding rounds inv_rounds restored substituted
  rounds_undone zero fits h =
      ap (AddRoundKey w 0) (restored_substituted (state_key w 0 (omega arith) bw h)) ∙ key_undone w 0 (omega arith) h
  rounds_undone (suc n) {s} fits h =
      let before : State (substituted (rounds w n s)) = state_substituted (rounds w n s) in
      ap (λ (t : List ℕ). inv_rounds w n (InvMixColumns (AddRoundKey w (suc n) t))) (restored_substituted (state_rounds w (suc n) fits bw h))
      ∙ ap (λ (t : List ℕ). inv_rounds w n (InvMixColumns t))
      (key_undone w (suc n) (omega arith) (state_mix (substituted (rounds w n s))))
      ∙ ap (inv_rounds w n) (InvMixColumns-MixColumns (substituted (rounds w n s)) before.long before.bytes)
      ∙ rounds_undone n (omega arith) h

  inv_rounds_undone : (n : ℕ) {s : List ℕ} → 16 * (n + 1) ≤ length w → State s → substituted (rounds w n (inv_rounds w n s)) ≡ s
  unfolding rounds inv_rounds restored substituted
  inv_rounds_undone zero {s} fits h =
      ap substituted (key_undone w 0 (omega arith) (state_restored s)) ∙ substituted_restored h
  inv_rounds_undone (suc n) {s} fits h =
      let keyed : State (AddRoundKey w (suc n) (restored s)) = state_key w (suc n) (omega arith) bw (state_restored s) in
      ap (λ (t : List ℕ). substituted (AddRoundKey w (suc n) (MixColumns t)))
      (inv_rounds_undone n (omega arith) (state_inv_mix (AddRoundKey w (suc n) (restored s))))
      ∙ ap (λ (t : List ℕ). substituted (AddRoundKey w (suc n) t))
      (MixColumns-InvMixColumns (AddRoundKey w (suc n) (restored s)) keyed.long keyed.bytes)
      ∙ ap substituted (key_undone w (suc n) (omega arith) (state_restored s))
      ∙ substituted_restored h

-- ---- the cipher and the inverse cipher, for any number of rounds

module _ (Nr : ℕ) (w : List ℕ) (fits : 16 * (Nr + 1) ≤ length w) (bw : Bytes w) (s : List ℕ) (n : length s ≡ 16) (b : Bytes s) where
  block : State s
  block = record { long = n; bytes = b }

  pub InvCipher-Cipher : InvCipher Nr w (Cipher Nr w s) ≡ s
  unfolding Cipher InvCipher substituted
  InvCipher-Cipher =
      ap (inv_rounds w (Nr - 1)) (key_undone w Nr (omega arith) (state_substituted (rounds w (Nr - 1) s)))
      ∙ rounds_undone w bw (Nr - 1) (omega arith) block

  pub Cipher-InvCipher : Cipher Nr w (InvCipher Nr w s) ≡ s
  unfolding Cipher InvCipher substituted
  Cipher-InvCipher =
      ap (AddRoundKey w Nr) (inv_rounds_undone w bw (Nr - 1) (omega arith) (state_key w Nr (omega arith) bw block))
      ∙ key_undone w Nr (omega arith) block

-- ---- AES-128

module _ (key block : List ℕ) (nk : length key ≡ 16) (bk : (i : ℕ) → get_or key i 0 < 256)
    (nb : length block ≡ 16) (bb : (i : ℕ) → get_or block i 0 < 256) where
  schedule_long : 16 * (10 + 1) ≤ length (KeyExpansion 4 10 key)
  schedule_long = omega (arith, length_schedule 4 10 key (lit≤ tt) (lit≤ tt) nk)

  pub InvAES128-AES128 : InvAES128 key (AES128 key block) ≡ block
  unfolding AES128 InvAES128
  InvAES128-AES128 = InvCipher-Cipher 10 (KeyExpansion 4 10 key) schedule_long (bytes_schedule 4 10 key bk) block nb bb

  pub AES128-InvAES128 : AES128 key (InvAES128 key block) ≡ block
  unfolding AES128 InvAES128
  AES128-InvAES128 = Cipher-InvCipher 10 (KeyExpansion 4 10 key) schedule_long (bytes_schedule 4 10 key bk) block nb bb
