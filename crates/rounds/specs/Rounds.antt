-- The rounds of AES as FIPS 197 defines them: the cipher and the inverse cipher over Nr, under a key schedule w.
use Rattle.std.specs.Prelude.{ℕ, zero, suc, ◌-◌, List}
use Rattle.steps.specs.Steps.{SubBytes, ShiftRows, MixColumns, InvShiftRows, InvSubBytes, InvMixColumns, AddRoundKey}

-- §5.1: the state after the first AddRoundKey and n full rounds
unfoldable pub rounds : List ℕ → ℕ → List ℕ → List ℕ
rounds w zero s = AddRoundKey w 0 s
rounds w (suc n) s = AddRoundKey w (suc n) (MixColumns (ShiftRows (SubBytes (rounds w n s))))

unfoldable pub Cipher : ℕ → List ℕ → List ℕ → List ℕ
Cipher Nr w input = AddRoundKey w Nr (ShiftRows (SubBytes (rounds w (Nr - 1) input)))

-- §5.3: n full inverse rounds, with the round keys n, .., 1, and then the last
unfoldable pub inv_rounds : List ℕ → ℕ → List ℕ → List ℕ
inv_rounds w zero s = AddRoundKey w 0 (InvSubBytes (InvShiftRows s))
inv_rounds w (suc n) s = inv_rounds w n (InvMixColumns (AddRoundKey w (suc n) (InvSubBytes (InvShiftRows s))))

unfoldable pub InvCipher : ℕ → List ℕ → List ℕ → List ℕ
InvCipher Nr w input = inv_rounds w (Nr - 1) (AddRoundKey w Nr input)
