-- The two tables of columns, by one test that antt computes at every byte: each entry is what the boxes and the mixing give.
use mathlib.Core.Path.{◌≡◌, ap, ◌∙◌}
use mathlib.Core.List.{List, [], ◌∷◌}
use Prim.Native.Nat.{ℕ, ◌<◌}
use lib.Dec.{T}
use lib.ListN.{get_or}
use Rattle.laws.specs.Bytes.{big_endian, number, number_after}
use Rattle.laws.proofs.Table.{same_below, below}
use Rattle.substitution.specs.Field.{xtime, xtimes, bit, product_below, ◌•◌}
use Rattle.substitution.specs.Box.{SBox, InvSBox}
use Rattle.substitution.proofs.Boxes.{sbox, inv_sbox}
use Rattle.substitution.proofs.BoxLaws.{sub_entry, inv_sub_entry}
use Rattle.columns.specs.Columns.{mixed_byte, mixed_word}
use Rattle.column_tables.specs.Tables.{first_mixed}
use Rattle.column_tables.proofs.Tables.{mixed_table, unmixed_table}

-- what is tested at b: the two sides of each equation
left : ℕ → List ℕ
left b = get_or mixed_table b 0 ∷ get_or unmixed_table b 0 ∷ []

right : ℕ → List ℕ
right b = first_mixed 0x02 0x01 0x01 0x03 (get_or sbox b 0) ∷ first_mixed 0x0e 0x09 0x0d 0x0b (get_or inv_sbox b 0) ∷ []

computed : T (same_below left right 256)
unfolding left right mixed_table unmixed_table sbox inv_sbox first_mixed mixed_word mixed_byte big_endian number number_after ◌•◌ product_below bit xtimes xtime
computed = tt

equation : (k b : ℕ) → b < 256 → get_or (left b) k 0 ≡ get_or (right b) k 0
equation k b h = ap (λ (l : List ℕ). get_or l k 0) (below left right 256 computed b h)

pub mixed_entry : (b : ℕ) → b < 256 → get_or mixed_table b 0 ≡ first_mixed 0x02 0x01 0x01 0x03 (SBox b)
unfolding left right
mixed_entry b h = equation 0 b h ∙ ap (first_mixed 0x02 0x01 0x01 0x03) (sub_entry b h)

pub unmixed_entry : (b : ℕ) → b < 256 → get_or unmixed_table b 0 ≡ first_mixed 0x0e 0x09 0x0d 0x0b (InvSBox b)
unfolding left right
unmixed_entry b h = equation 1 b h ∙ ap (first_mixed 0x0e 0x09 0x0d 0x0b) (inv_sub_entry b h)
