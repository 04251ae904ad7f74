-- The one law that joins parts: fields of lawful parts, one after the other, are a lawful part.
use Prim.Native.Nat.{ℕ, ◌+◌}
use mathlib.Core.Path.{◌≡◌, refl, sym, ap, ◌∙◌}
use mathlib.Core.Logic.{⊎_elim}
use mathlib.Core.List.{List, ◌++◌, append_assoc}
use lib.ListN.{length, take, length-append}
use lib.Seq.{take_at, drop_at}
use Rattle.record_fields.specs.Part.{Fields, making, ◌then◌of◌, run, bytes_of, value_of, Fitting, again, NamesNone, whole, Lawful}

-- bytes that stand behind others
pub run_here : (before bytes after : List ℕ) (n : ℕ) → length bytes ≡ n → run (before ++ (bytes ++ after)) (length before) n ≡ bytes
run_here before bytes after n e =
    ap (take n) (drop_at before (bytes ++ after) (length before) refl) ∙ take_at bytes after n e

module _ {R : Type 0} where
  -- the parts of these fields are lawful
  abbrev pub AllLawful : {size : ℕ} {B : Type 0} → Fields R size B → Type 0
  AllLawful (making make) = Unit
  AllLawful (fields then part of get) = AllLawful fields × Lawful part

  pub fields_sized : {size : ℕ} {B : Type 0} (f : Fields R size B) → AllLawful f → (r : R) → Fitting f r → length (bytes_of f r) ≡ size
  unfolding bytes_of Fitting
  fields_sized (making make) l r h = refl
  fields_sized (fields then part of get) l r h =
      length-append (bytes_of fields r) (part.bytes (get r)) ∙ rw (fields_sized fields l.0 r h.0, l.1.sized (get r) h.1)

  pub fields_back : {size : ℕ} {B : Type 0} (f : Fields R size B) → AllLawful f → (r : R) → Fitting f r
      → (before after : List ℕ) → value_of f (before ++ (bytes_of f r ++ after)) (length before) ≡ again f r
  unfolding bytes_of value_of Fitting again
  fields_back (making make) l r h before after = refl
  fields_back (◌then◌of◌ {m = m} {A = A} {B = B} fields part get) l r h before after =
      let first = bytes_of fields r in
      let next = part.bytes (get r) in
      let all = before ++ ((first ++ next) ++ after) in
      let right : all ≡ before ++ (first ++ (next ++ after)) = ap (λ (l : List ℕ). before ++ l) (append_assoc first next after) in
      let left : all ≡ (before ++ first) ++ (next ++ after) = right ∙ sym (append_assoc before first (next ++ after)) in
      let place : length (before ++ first) ≡ length before + m
      = length-append before first ∙ ap (λ (k : ℕ). length before + k) (fields_sized fields l.0 r h.0) in
      let made : value_of fields all (length before) ≡ again fields r = rw right (fields_back fields l.0 r h.0 before (next ++ after)) in
      let value : part.value all (length before + m) ≡ get r = rw (left, ← place) (l.1.back (get r) h.1 (before ++ first) after) in
      ap (λ (g : A → B). g (part.value all (length before + m))) made ∙ ap (again fields r) value

  -- and the bytes of a value that fits name something in every field
  pub fields_named : {size : ℕ} {B : Type 0} (f : Fields R size B) → AllLawful f → (r : R) → Fitting f r
      → (before after : List ℕ) → NamesNone f (before ++ (bytes_of f r ++ after)) (length before) → ⊥
  unfolding bytes_of Fitting NamesNone
  fields_named (making make) l r h before after none = none
  fields_named (◌then◌of◌ {m = m} {n = n} fields part get) l r h before after none =
      let first = bytes_of fields r in
      let next = part.bytes (get r) in
      let right : before ++ ((first ++ next) ++ after) ≡ before ++ (first ++ (next ++ after))
      = ap (λ (l : List ℕ). before ++ l) (append_assoc first next after) in
      let left : before ++ (first ++ (next ++ after)) ≡ (before ++ first) ++ (next ++ after) = sym (append_assoc before first (next ++ after)) in
      let place : length (before ++ first) ≡ length before + m
      = length-append before first ∙ ap (λ (k : ℕ). length before + k) (fields_sized fields l.0 r h.0) in
      ⊎_elim (λ earlier. fields_named fields l.0 r h.0 before (next ++ after) (rw right at earlier))
      (λ here.
      let found : run (before ++ ((first ++ next) ++ after)) (length before + m) n ≡ next
      = rw (right, left, ← place) (run_here (before ++ first) next after n (l.1.sized (get r) h.1)) in
      here (get r) h.1 (sym found))
      none

  pub whole_lawful : {size : ℕ} (f : Fields R size R) → AllLawful f → ((r : R) → again f r ≡ r) → Lawful (whole f)
  whole_lawful f l same =
      record { sized = fields_sized f l; back = λ r h before after. fields_back f l r h before after ∙ same r }
