-- The key expansion of FIPS 197, §5.2, over Nk and Nr: keys of 4 Nk bytes.
use Rattle.std.specs.Prelude.{ℕ, zero, suc, ◌+◌, ◌-◌, ◌*◌, ◌/◌, ◌%◌, cond, ◌&&◌, List, [], ◌∷◌, ◌++◌, map, eqb, ltb, take, drop}
use Rattle.laws.specs.Bytes.{◌⊕◌}
use Rattle.substitution.specs.Field.{xtimes}
use Rattle.substitution.specs.Box.{SBox}

-- words of four bytes
unfoldable pub RotWord : List ℕ → List ℕ
RotWord a = drop 1 a ++ take 1 a

unfoldable pub SubWord : List ℕ → List ℕ
SubWord a = map SBox a

unfoldable pub Rcon : ℕ → List ℕ
Rcon i = xtimes (i - 1) 1 ∷ 0 ∷ 0 ∷ 0 ∷ []

-- word i of a key schedule that has the words below i
abbrev pub word : List ℕ → ℕ → List ℕ
word w i = take 4 (drop (4 * i) w)

-- what is added to word i - Nk to make word i
unfoldable pub temp : ℕ → List ℕ → ℕ → List ℕ
temp Nk w i =
    cond (eqb (i % Nk) 0)
    (SubWord (RotWord (word w (i - 1))) ⊕ Rcon (i / Nk))
    (cond (ltb 6 Nk && eqb (i % Nk) 4) (SubWord (word w (i - 1))) (word w (i - 1)))

-- the key schedule's first Nk + n words, from a key of 4 * Nk bytes
unfoldable pub expanded : ℕ → ℕ → List ℕ → List ℕ
expanded Nk zero key = key
expanded Nk (suc n) key =
    expanded Nk n key ++ (word (expanded Nk n key) n ⊕ temp Nk (expanded Nk n key) (Nk + n))

-- Nb * (Nr + 1) words in all, Nb = 4
unfoldable pub KeyExpansion : ℕ → ℕ → List ℕ → List ℕ
KeyExpansion Nk Nr key = expanded Nk (4 * (Nr + 1) - Nk) key
