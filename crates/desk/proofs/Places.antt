-- Each part stands where the header says: behind an identifier of its length.
use Prim.Native.Nat.{ℕ, ◌+◌}
use mathlib.Core.Path.{◌≡◌}
use mathlib.Core.Bool.{cond}
use mathlib.Core.List.{List, [], ◌∷◌, ◌++◌}
use native.Mathlib.Omega.{arith}
use lib.ListN.{length, get_or, length-append}
use lib.Seq.{take_at, get_or_at, get_or-append-add}
use Rattle.frame_reader.specs.Reader.{Parts}
use Rattle.frame_opener.specs.Opener.{Opened}
use Rattle.desk.specs.Exported.{part_bytes, opened_bytes, flags_shown, flags_byte}
use Rattle.desk.specs.Places.{Placed, PlacedWithR, Places}

behind : (id rest : List ℕ) (k : ℕ) → length id ≡ 20 → get_or (id ++ rest) (20 + k) 0 ≡ get_or rest k 0
behind id rest k e = rw e at (get_or-append-add id rest k 0)

placed : (p : Parts) → length p.identifier ≡ 20 → Placed p
unfolding part_bytes
placed p e =
    let rest : List ℕ = cond p.protected 1 0 ∷ flags_shown p.flags ∷ flags_byte p.flags ∷ [] in
    record {
      identifier_is = take_at p.identifier rest 20 e;
      protection_is = behind p.identifier rest 0 e;
      flags_shown_is = behind p.identifier rest 1 e;
      flags_byte_is = behind p.identifier rest 2 e;
      size_is = omega (arith, length-append p.identifier rest);
    }

placed_with_r : (o : Opened) → length o.parts.identifier ≡ 20 → PlacedWithR o
unfolding opened_bytes
placed_with_r o e =
    let long : length (part_bytes o.parts) ≡ 23 = (placed o.parts e).size_is in
    record {
      parts_are = take_at (part_bytes o.parts) (o.battery ∷ []) 23 long;
      battery_is = get_or_at (part_bytes o.parts) o.battery [] 0 23 long;
      size_is = omega (arith, length-append (part_bytes o.parts) (o.battery ∷ []));
    }

pub places : Places
places = record { parts = placed; opened = placed_with_r }
