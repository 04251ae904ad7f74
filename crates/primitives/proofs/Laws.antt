-- The laws of the primitives that the crates above cite: lengths and byte ranges of every result, and that the block cipher and its
-- inverse undo each other.
pub use Rattle.hash.proofs.Laws.{length-SHA256, SHA256-byte}
pub use Rattle.hmac.proofs.Laws.{length-HMAC, HMAC-byte}
pub use Rattle.cipher.proofs.Laws.{length-AES128, length-InvAES128, bytes-AES128, bytes-InvAES128, length-AES256, bytes-AES256}
pub use Rattle.cipher.proofs.RoundTrip.{InvAES128-AES128, AES128-InvAES128}
