-- The requests 0x07 and 0x08: unwanted tracking protection on and off. Each is judged on the unit with its nonce spent, and only with
-- an identity key.
use Rattle.std.specs.Prelude.{ℕ, ◌&&◌, List, [], eqb, leb, get_or}
use Rattle.wire.specs.Signing.{protection_key}
use Rattle.wire.specs.Shape.{Request}
use Rattle.unit.specs.declared.TagUnit.{TagUnit}
use Rattle.unit.specs.declared.Protection.{Protection}
use Rattle.unit.specs.Change.{with_protection, key_in_force}
use Rattle.authentication.specs.Judgement.{Judgement, accepts, not_authenticated, invalid_value, unless, last_nonce, tagged, proves, answered}

-- 0x07: "flag byte absent or 0 means skip off, 1 means on, others 0x81"
abbrev pub flag_of : List ℕ → ℕ
flag_of a = get_or a 0 0

-- "Given again, the new flag holds"
unfoldable pub protect : TagUnit → Request → Judgement
protect u q =
    unless (tagged (protection_key (key_in_force u)) (last_nonce u) q) not_authenticated
    (unless (leb (flag_of q.additional) 1) invalid_value
    (accepts (with_protection (Protection.On (eqb (flag_of q.additional) 1)) u)
    (answered (protection_key (key_in_force u)) u q [])))

-- 0x08: "protection key and key proof; protection off, also if it was off"
unfoldable pub unprotect : TagUnit → Request → Judgement
unprotect u q =
    unless (tagged (protection_key (key_in_force u)) (last_nonce u) q && proves u q.additional) not_authenticated
    (accepts (with_protection Protection.Off u) (answered (protection_key (key_in_force u)) u q []))
