-- From what the reader's calls promise to what the exported ones do: the number, and the lent bytes after them.
use Prim.Native.Nat.{ℕ, suc, ◌+◌, ◌≤◌, ◌<◌}
use mathlib.Core.Path.{◌≡◌, refl, sym}
use mathlib.Core.Bool.{Bool, true, false, cond}
use mathlib.Core.List.{List, [], ◌∷◌, ◌++◌, append_assoc}
use native.Mathlib.Omega.{arith}
use lib.ListN.{length, get_or, drop, take, set, length-append}
use lib.Seq.{drop-cons, set_at}
use borrow.Author.Tests.{lt-ltb, le-ltb}
use Rattle.laws.specs.Answer.{lent_after, Wrote}
use Rattle.laws.proofs.Answered.{wrote}
use Rattle.laws.proofs.Copied.{copied_next}
use Rattle.frame_reader.specs.Reader.{Reading, reads, refused}
use Rattle.std.specs.Prelude.{Option, None, Some, is_some, unwrap_or}
use Rattle.std.specs.Int.{from_bool}
use Rattle.desk.specs.Exported.{flags_shown, flags_byte, written, roomy, reading_code, reading_result, ExportsReading}

-- the identifier, and three bytes right behind it
pub parts_put : (id before one two : List ℕ) (x y z : ℕ) → length id ≡ 20
    → one ≡ take 0 before ++ (id ++ drop (0 + length id) before) → two ≡ take 20 one ++ ((x ∷ y ∷ z ∷ []) ++ drop (20 + 3) one)
    → Wrote (id ++ (x ∷ y ∷ z ∷ [])) 23 before two
parts_put id before one two x y z sized e f =
    let first : one ≡ id ++ drop 20 before = rw sized at (copied_next before [] id before one 0 refl refl e) in
    wrote {answer = id ++ (x ∷ y ∷ z ∷ [])} (rw (length-append, sized))
    (copied_next before id (x ∷ y ∷ z ∷ []) one two 20 sized first f)

-- a flag as a byte; whether there is a flags byte, and that byte or 0
pub bit_is : (on : Bool) → from_bool on ≡ cond on 1 0
bit_is true = refl
bit_is false = refl

pub shown_is : (flags : Option ℕ) → from_bool (is_some flags) ≡ flags_shown flags
shown_is None = refl
shown_is (Some b) = refl

pub byte_is : (flags : Option ℕ) → unwrap_or flags 0 ≡ flags_byte flags
byte_is None = refl
byte_is (Some b) = refl

-- one more byte behind an answer
pub one_more : (answer before after : List ℕ) (n b : ℕ) → Wrote answer n before after → n < length before
    → Wrote (answer ++ (b ∷ [])) (n + 1) before (set after n b)
unfolding lent_after
one_more answer before after n b w h =
    let next : drop (length answer) before ≡ get_or before (length answer) 0 ∷ drop (suc (length answer)) before
    = drop-cons before (length answer) 0 (omega (arith, w.count_is)) in
    let same : set after n b ≡ (answer ++ (b ∷ [])) ++ drop (suc (length answer)) before
    = rw (w.bytes_are, next, set_at answer (get_or before (length answer) 0) (drop (suc (length answer)) before) b n (sym w.count_is))
    (sym (append_assoc answer (b ∷ []) (drop (suc (length answer)) before))) in
    let count : suc (length answer) ≡ n + 1 = omega (arith, w.count_is) in
    wrote {answer = answer ++ (b ∷ [])} (omega (arith, w.count_is, length-append answer (b ∷ []))) (rw count at same)

-- a call with too little room, with enough
pub no_room : (size room : ℕ) (x : Reading (List ℕ)) (before : List ℕ) → room < size → ExportsReading (roomy size room x) 262 before before
unfolding roomy lent_after
no_room size room x before h = rw (lt-ltb room size h) (record { code_is = refl; bytes_are = refl })

module _ (size room : ℕ) (h : size ≤ room) (before after : List ℕ) where
  pub exports : (x : Reading (List ℕ)) (result : ℕ) → result ≡ reading_code x → after ≡ lent_after (reading_result x) before
      → ExportsReading (roomy size room x) result before after
  unfolding roomy
  exports x result c b = rw (le-ltb room size h) (record { code_is = c; bytes_are = b })

  -- what was read, or its refusal
  module _ {A : Type 0} (bytes : A → List ℕ) (reading : Reading A) where
    pub exports_refusal : (number place : ℕ) → reading ≡ refused number place → after ≡ before
        → ExportsReading (roomy size room (written bytes reading)) (reading_code (refused number place)) before after
    unfolding lent_after
    exports_refusal number place e same = exports (written bytes reading) (reading_code (refused number place)) (rw e) (rw e same)

    pub exports_bytes : (a : A) (n : ℕ) → reading ≡ reads a → Wrote (bytes a) n before after
        → ExportsReading (roomy size room (written bytes reading)) n before after
    exports_bytes a n e w = exports (written bytes reading) n (rw e w.count_is) (rw e w.bytes_are)
