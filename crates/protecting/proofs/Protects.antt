-- The judgements of 0x07 and 0x08, from what their handlers test.
use Prim.Native.Nat.{ℕ, ◌≤◌, ◌<◌}
use mathlib.Core.Path.{◌≡◌}
use mathlib.Core.Bool.{true, false}
use mathlib.Core.List.{[]}
use lib.Dec.{eqb}
use borrow.Author.Tests.{le-leb, lt-leb}
use Rattle.wire.specs.Signing.{protection_key}
use Rattle.wire.specs.Shape.{Request}
use Rattle.unit.specs.Change.{with_protection}
use Rattle.unit.specs.declared.TagUnit.{TagUnit}
use Rattle.unit.specs.declared.Protection.{Protection}
use Rattle.authentication.specs.Judgement.{accepts, not_authenticated, invalid_value, last_nonce, tagged, proves, answered}
use Rattle.protecting.specs.Protecting.{flag_of, protect, unprotect}

module _ (u : TagUnit) (q : Request) where
  module _ (unmet : tagged (protection_key u.identity.bytes) (last_nonce u) q ≡ false) where
    pub protect_untagged : protect u q ≡ not_authenticated
    unfolding protect
    protect_untagged = rw unmet

    pub unprotect_untagged : unprotect u q ≡ not_authenticated
    unfolding unprotect
    unprotect_untagged = rw unmet

  module _ (met : tagged (protection_key u.identity.bytes) (last_nonce u) q ≡ true) where
    pub protect_flag : {flag : ℕ} → flag ≡ flag_of q.additional → 1 < flag → protect u q ≡ invalid_value
    unfolding protect
    protect_flag {flag} is more = rw (met, ← is, lt-leb flag 1 more)

    pub protect_on : {flag : ℕ} {next : TagUnit} → flag ≡ flag_of q.additional → flag ≤ 1 → next ≡ with_protection (Protection.On (eqb flag 1)) u
        → protect u q ≡ accepts next (answered (protection_key u.identity.bytes) u q [])
    unfolding protect
    protect_on {flag} is most changed = rw (changed, met, ← is, le-leb flag 1 most)

    pub unprotect_unproved : proves u q.additional ≡ false → unprotect u q ≡ not_authenticated
    unfolding unprotect
    unprotect_unproved unmet = rw (met, unmet)

    pub unprotect_off : {next : TagUnit} → proves u q.additional ≡ true → next ≡ with_protection Protection.Off u
        → unprotect u q ≡ accepts next (answered (protection_key u.identity.bytes) u q [])
    unfolding unprotect
    unprotect_off proof changed = rw (changed, met, proof)
