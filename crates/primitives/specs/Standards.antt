-- The definitions of the standards, as the crates above cite them.
unfoldable pub use Rattle.hash.specs.Sha256.{SHA256}
unfoldable pub use Rattle.hmac.specs.Hmac.{HMAC, keyed_by}
unfoldable pub use Rattle.cipher.specs.Aes.{AES128, InvAES128, AES256}
