-- Laws of a line so far: too long or not, one byte longer, closed at the end of the input; and of a whole line, by its bytes.
use Prim.Native.Nat.{ℕ, ◌+◌, ◌≤◌, ◌<◌}
use mathlib.Core.Path.{◌≡◌, refl, sym, ap, ◌∙◌}
use mathlib.Core.Bool.{Bool, true, false, cond}
use mathlib.Core.List.{List}
use Rattle.std.specs.Prelude.{None, Some}
use native.Mathlib.Omega.{arith}
use native.Mathlib.Numerals.{add-one}
use lib.Dec.{leb}
use lib.ListN.{length, take, set}
use lib.Seq.{length-take-le, take-suc-set}
use borrow.Author.Tests.{le-leb, lt-leb, lt-ltb, le-ltb, ne_eqb, leb-true}
use Rattle.hex_reading.specs.Hex.{bytes}
use Rattle.frame_reader.specs.Reader.{read_frame}
use Rattle.frame_text.specs.Answers.{malformed_text, reading_text, line_text}
use Rattle.frame_text.specs.Taking.{so_far, longer, closed, ends}
use Rattle.frame_text.specs.declared.Line.{Line}

-- a line by its bytes
module _ (line : List ℕ) (fits : length line ≤ 256) where
  pub answered : (frame : List ℕ) → Some frame ≡ bytes line → line_text line ≡ reading_text (read_frame 20 frame)
  unfolding line_text
  answered frame e = rw (le-leb (length line) 256 fits, ← e)

  pub not_answered : None ≡ bytes line → line_text line ≡ malformed_text
  unfolding line_text
  not_answered e = rw (le-leb (length line) 256 fits, ← e)

module _ (l : Line) where
  pub short : l.count ≤ 256 → so_far l ≡ Some (take l.count l.bytes)
  short h = rw (le-leb l.count 256 h)

  pub long : 256 < l.count → so_far l ≡ None
  long h = rw (lt-leb l.count 256 h)

  module _ (room : length l.bytes ≡ 256) where
    pub longer_by : (b : ℕ) → l.count < 256
        → so_far (record { bytes = set l.bytes l.count b; count = l.count + 1 }) ≡ longer (so_far l) b
    longer_by b h =
        let size : length (take l.count l.bytes) ≡ l.count = length-take-le l.count l.bytes (omega arith) in
        rw (le-leb l.count 256 (omega arith), le-leb (l.count + 1) 256 (omega arith), size, lt-ltb l.count 256 h, add-one l.count)
        (ap Some (take-suc-set l.bytes l.count b (omega arith)))

    pub too_long : (b : ℕ) → 256 ≤ l.count → None ≡ longer (so_far l) b
    too_long b h = go (leb l.count 256) refl
      where
        go : (s : Bool) → leb l.count 256 ≡ s → None ≡ longer (cond s (Some (take l.count l.bytes)) None) b
        go true e =
            let size : length (take l.count l.bytes) ≡ l.count = length-take-le l.count l.bytes (omega (arith, leb-true l.count 256 e)) in
            rw (size, le-ltb l.count 256 h)
        go false e = refl

    pub ends_closed : (l.count ≡ 0 → ⊥) → ends (so_far l) ≡ closed (so_far l)
    unfolding ends
    ends_closed h = go (leb l.count 256) refl
      where
        go : (s : Bool) → leb l.count 256 ≡ s
            → ends (cond s (Some (take l.count l.bytes)) None) ≡ closed (cond s (Some (take l.count l.bytes)) None)
        go true e =
            let size : length (take l.count l.bytes) ≡ l.count = length-take-le l.count l.bytes (omega (arith, leb-true l.count 256 e)) in
            rw (ne_eqb (length (take l.count l.bytes)) 0 (λ z. h (sym size ∙ z)))
        go false e = refl
