-- The request 0x02: setting the identity key. It is judged on the unit with its nonce spent.
use Rattle.std.specs.Prelude.{Bool, cond, not, ◌&&◌, List, [], ℕ, eqb, drop}
use Rattle.sizes.specs.Sizes.{identity_key_size}
use Rattle.wire.specs.Shape.{Request, proven_size}
use Rattle.key_blocks.specs.KeyBlocks.{decrypted_key}
use Rattle.unit.specs.declared.TagUnit.{TagUnit}
use Rattle.unit.specs.Change.{with_waiting, identity_key, keyed}
use Rattle.authentication.specs.Judgement.{Judgement, accepts, not_authenticated, unless, under, proves, answered, signed_by_owner}
use Rattle.account_keys.specs.Order.{after_use}

-- 0x02: "48: the last 8 bytes prove the held key. 40: none is held"; judged by the key in force
unfoldable pub may_replace : TagUnit → Request → Bool
may_replace u q =
    cond (eqb q.size proven_size) (keyed u && proves u (drop identity_key_size q.additional)) (not (keyed u))

-- "Until then the accepted key waits"; "A second 0x02 in the same connection is still judged against the old key and replaces the waiting one"
abbrev pub awaiting : List ℕ → TagUnit → TagUnit
awaiting identity u = with_waiting (identity_key identity) u

-- "owner key; with no owner, 0x80"; "The first 32 data bytes, two blocks decrypted with the owner key"
unfoldable pub set_key : TagUnit → Request → Judgement
set_key u q =
    under (signed_by_owner u q)
    (λ key.
    unless (may_replace u q) not_authenticated
    (accepts (awaiting (decrypted_key key q.additional) (after_use key u)) (answered key u q [])))
