-- The judgement of 0x04, from what its handler tests: an owner, a tag that holds, consent.
use Prim.Native.Nat.{ℕ}
use mathlib.Core.Path.{◌≡◌}
use mathlib.Core.Bool.{true, false, ◌||◌}
use mathlib.Core.List.{List}
use mathlib.Core.Option.{some, none}
use lib.Dec.{ltb}
use Rattle.wire.specs.Signing.{recovery_key}
use Rattle.wire.specs.Shape.{Request}
use Rattle.key_blocks.specs.KeyBlocks.{encrypted_key}
use Rattle.unit.specs.WellFormed.{owner_key}
use Rattle.unit.specs.declared.TagUnit.{TagUnit}
use Rattle.authentication.specs.Judgement.{accepts, not_authenticated, no_consent, last_nonce, tagged, answered}
use Rattle.recovery.specs.Recovery.{recover_key}

module _ (u : TagUnit) (q : Request) where
  pub recover_nowhere : owner_key u.accounts ≡ none → recover_key u q ≡ not_authenticated
  unfolding recover_key
  recover_nowhere e = rw e

  module _ {used : List ℕ} (e : owner_key u.accounts ≡ some used) where
    pub recover_unsigned : tagged (recovery_key u.identity.bytes) (last_nonce u) q ≡ false → recover_key u q ≡ not_authenticated
    unfolding recover_key
    recover_unsigned t = rw (e, t)

    module _ (t : tagged (recovery_key u.identity.bytes) (last_nonce u) q ≡ true) where
      pub recover_unasked : ltb 0 u.consent || u.pairing ≡ false → recover_key u q ≡ no_consent
      unfolding recover_key
      recover_unasked p = rw (e, t, p)

      pub key_recovered_lem : {key payload : List ℕ} → ltb 0 u.consent || u.pairing ≡ true → key ≡ used
          → payload ≡ encrypted_key key u.identity.bytes
          → recover_key u q ≡ accepts u (answered (recovery_key u.identity.bytes) u q payload)
      unfolding recover_key
      key_recovered_lem p k d = rw (e, t, p, d, k)
