-- What the plain tag comes to depends on the course of a list alone. Tenths add up, so that the time between two calls counts as one, and a
-- call bears on its lent bytes only through room or no room.
use Prim.Native.Nat.{ℕ, zero, suc, ◌+◌}
use mathlib.Core.Path.{◌≡◌, refl, sym, ap, ◌∙◌}
use mathlib.Core.Bool.{Bool, true, false, cond}
use mathlib.Core.List.{List, [], ◌∷◌}
use native.Mathlib.Omega.{arith}
use Rattle.tag.specs.Calls.{Call, Act, calls, waits}
use Rattle.demanded_time.specs.Time.{World, roomy, called, tenth_on, tenths_on, waited, ran, runs, Course, ends, next, bare_room, course_after}
use Rattle.demanded_time.proofs.Room.{bare}

-- no tenth, and one more
none_on : (w : World) → tenths_on 0 w ≡ w
unfolding tenths_on
none_on w = refl

more_on : (n : ℕ) (w : World) → tenths_on (suc n) w ≡ tenth_on (tenths_on n w)
unfolding tenths_on
more_on n w = refl

add_none : (m : ℕ) (w : World) → tenths_on (m + 0) w ≡ tenths_on 0 (tenths_on m w)
add_none m w = let same : m + 0 ≡ m = omega arith in rw (same, none_on (tenths_on m w))

add_more : (m n : ℕ) (w : World) → tenths_on (m + n) w ≡ tenths_on n (tenths_on m w) → tenths_on (m + suc n) w ≡ tenths_on (suc n) (tenths_on m w)
add_more m n w h =
    let same : m + suc n ≡ suc (m + n) = omega arith in
    rw (same, more_on (m + n) w, more_on n (tenths_on m w), h)

tenths_add : (m n : ℕ) (w : World) → tenths_on (m + n) w ≡ tenths_on n (tenths_on m w)
tenths_add m zero w = add_none m w
tenths_add m (suc n) w = add_more m n w (tenths_add m n w)

-- of the lent bytes only room or no room counts
called_bare : (c : Call) (room : ℕ) (w : World) → called c room w ≡ called c (bare_room c room) w
unfolding called
called_bare c room w = rw (bare c room w.unit)

-- The plain tag over a course
unfoldable pub follow : Course → World → World
follow (ends t) w = tenths_on t w
follow (next t c room rest) w = follow rest (called c room (tenths_on t w))

wait : (t n room : ℕ) (w : World) → waited n room (tenths_on t w) ≡ tenths_on (t + cond (roomy room) n 0) w
unfolding waited
wait t n room w = go (roomy room)
  where
    go : (b : Bool) → cond b (tenths_on n (tenths_on t w)) (tenths_on t w) ≡ tenths_on (t + cond b n 0) w
    go true = sym (tenths_add t n w)
    go false = let same : t + 0 ≡ t = omega arith in rw same

pub follows : (t : ℕ) (l : List Act) (w : World) → runs waited l (tenths_on t w) ≡ follow (course_after t l) w
unfolding follow course_after runs ran
follows t [] w = refl
follows t (waits n room ∷ l) w = ap (runs waited l) (wait t n room w) ∙ follows (t + cond (roomy room) n 0) l w
follows t (calls c room ∷ l) w =
    let after = called c (bare_room c room) (tenths_on t w) in
    ap (runs waited l) (called_bare c room (tenths_on t w) ∙ sym (none_on after)) ∙ follows 0 l after
