-- The identity key as it travels: two blocks under the owner key.
use Rattle.std.specs.Prelude.{ℕ, List, ◌++◌, take, drop}
use Rattle.sizes.specs.Sizes.{block_size}
use Rattle.primitives.specs.Standards.{AES128, InvAES128}

-- "The first 32 data bytes, two blocks decrypted with the owner key"
unfoldable pub decrypted_key : List ℕ → List ℕ → List ℕ
decrypted_key key cipher =
    InvAES128 key (take block_size cipher) ++ InvAES128 key (take block_size (drop block_size cipher))

-- "the identity key, two blocks encrypted with the owner key"
unfoldable pub encrypted_key : List ℕ → List ℕ → List ℕ
encrypted_key key identity =
    AES128 key (take block_size identity) ++ AES128 key (take block_size (drop block_size identity))
