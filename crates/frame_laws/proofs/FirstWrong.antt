-- The first wrong byte, whatever a frame is: there is at most one, and in a frame none, as long as no frame begins another.
use Prim.Native.Nat.{ℕ, ◌+◌, ◌≤◌, ◌<◌}
use mathlib.Core.Path.{◌≡◌, sym, ◌∙◌}
use mathlib.Core.Logic.{inl, inr}
use mathlib.Core.List.{List, [], ◌++◌, append_assoc, append-nil}
use native.Mathlib.Omega.{arith}
use native.Mathlib.Decide.{dec_lt}
use lib.ListN.{take, drop, take-append-drop}
use lib.Seq.{take-take}
use Rattle.frame_laws.specs.ReadBack.{Begins, WrongInside, FirstWrongAt}

module _ (Frame : List ℕ → Type 0) (text : List ℕ) where
  -- a beginning of a beginning begins a frame too, and so does one of the text where more behind it makes a frame
  pub begins_earlier : (i j : ℕ) → i ≤ j → Begins Frame (take j text) → Begins Frame (take i text)
  begins_earlier i j h (rest, f) = (drop i (take j text) ++ rest, rw (whole) at f)
    where
      whole : take j text ++ rest ≡ take i text ++ (drop i (take j text) ++ rest)
      whole =
          sym (rw (← append_assoc (take i text) (drop i (take j text)) rest, ← take-take i j text h, take-append-drop i (take j text)))

  pub begins_of_more : (i : ℕ) (rest : List ℕ) → Frame (text ++ rest) → Begins Frame (take i text)
  begins_of_more i rest f = (drop i text ++ rest, rw whole at f)
    where
      whole : text ++ rest ≡ take i text ++ (drop i text ++ rest)
      whole = sym (rw (← append_assoc (take i text) (drop i text) rest, take-append-drop i text))

  not_before_lem : (i j : ℕ) → WrongInside Frame text i → i < j → Begins Frame (take j text) → ⊥
  not_before_lem i j w h b = w.begins_none (begins_earlier (i + 1) j (omega arith) b)

  pub one_place : (i j : ℕ) → FirstWrongAt Frame text i → FirstWrongAt Frame text j → i ≡ j
  one_place i j (inl v) (inl w) = go (dec_lt i j) (dec_lt j i)
    where
      go : Dec (i < j) → Dec (j < i) → i ≡ j
      go (yes h) d = absurd (not_before_lem i j v h w.begins)
      go (no h) (yes k) = absurd (not_before_lem j i w k v.begins)
      go (no h) (no k) = omega arith
  one_place i j (inl v) (inr w) = absurd (v.begins_none (begins_of_more (i + 1) w.rest w.begins))
  one_place i j (inr v) (inl w) = absurd (w.begins_none (begins_of_more (j + 1) v.rest v.begins))
  one_place i j (inr v) (inr w) = v.at_end ∙ sym w.at_end

  pub none_in_a_frame : ((rest : List ℕ) → Frame text → Frame (text ++ rest) → rest ≡ []) → Frame text → (i : ℕ) → FirstWrongAt Frame text i → ⊥
  none_in_a_frame apart f i (inl w) = w.begins_none (begins_of_more (i + 1) [] (rw append-nil f))
  none_in_a_frame apart f i (inr w) = w.missing (apart w.rest f w.begins)
