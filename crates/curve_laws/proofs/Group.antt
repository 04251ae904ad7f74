-- Addition of the points of a curve whose discriminant is not 0 is associative: by cases on which points are opposite, and on whether the
-- lines through P₁, P₂ and through P₂, P₃ have the same slope.
use mathlib.Core.Path.{◌≡◌, sym, ap, ap₂, ◌∙◌}
use mathlib.Core.List.{List, [], ◌∷◌}
use Prim.Native.Nat.{ℕ, ◌<◌}
use native.Mathlib.Decide.{ℕ_discrete}
use Rattle.curve_laws.specs.Modulo.{times, minus, over}
use Rattle.curve_laws.specs.Points.{Point, infinity, at, OnCurve, discriminant, third, third_x, third_y, add}
use Rattle.curve_laws.specs.Valid.{Prime}
use Rattle.curve_laws.proofs.Modular.{Same, same_eq, back, equal_below}
use Rattle.curve_laws.proofs.Modulo.{none_minus}
use Rattle.curve_laws.proofs.Ring.{var, num, ◌⊕◌, ◌⊖◌, ◌⊗◌, none, ◌⊟◌, gap, follows}
use Rattle.curve_laws.proofs.Field.{NonZero, positive, same?, over_times}
use Rattle.curve_laws.proofs.Slopes.{distinct}
use Rattle.curve_laws.proofs.Lines.{Line, flip, resloped, onward, third-X-below, third_is, thirds, third_flip, slopes}
use Rattle.curve_laws.proofs.Sums.{add_left, add_right, Opposite, opposite?, opposite_back, add_opposite, differing, slope, slope_line, add_slope, add_line, third_point_on, add_on, add_comm}
use Rattle.curve_laws.proofs.ThreePoints.{in_line_x, in_line_y, in_line_same, joined, joined_x, joined_y, mirrored, mirrored_x, mirrored_y, singular}

module _ {p : ℕ} (P : Prime p) (odd : 2 < p) (a b : ℕ) (smooth : NonZero p (discriminant p a b)) where
  h : 0 < p
  h = positive P

  -- P + (N + Q) = Q, for N opposite to P and not to Q
  undo : (x y x' y' x'' y'' : ℕ) → OnCurve p a b (at x y) → OnCurve p a b (at x' y') → OnCurve p a b (at x'' y'') → Opposite p x y x' y'
      → (Opposite p x' y' x'' y'' → ⊥) → add p a (at x y) (add p a (at x' y') (at x'' y'')) ≡ at x'' y''
  unfolding third
  undo x y x' y' x'' y'' on on' on'' o apart =
      rw (add_slope P odd a b x' y' x'' y'' on' on'' apart) (go (opposite? p x y xₛ yₛ))
    where
      l : ℕ
      l = slope P odd a b x' y' x'' y'' on' on'' apart

      L : Line p a l x' y' x'' y''
      L = slope_line P odd a b x' y' x'' y'' on' on'' apart

      xₛ : ℕ
      xₛ = third_x p l x' x''

      yₛ : ℕ
      yₛ = third_y p l x' y' xₛ

      go : Dec (Opposite p x y xₛ yₛ) → add p a (at x y) (at xₛ yₛ) ≡ at x'' y''
      go (yes again) =
          let other : Opposite p xₛ yₛ x y = opposite_back P odd a b x y xₛ yₛ again in
          absurd (smooth (singular P odd a b l x' y' x'' y'' x y L (same_eq o.0) o.1 on.2 (same_eq other.0) other.1))
      go (no n) =
          add_line P odd a b x y xₛ yₛ on (third_point_on P odd a b l x' y' x'' y'' on' L) n (minus p 0 l)
          (mirrored P odd a b l x' y' x'' y'' x y L (same_eq o.0) o.1)
          ∙ third_is h (minus p 0 l) x y xₛ on''.0 on''.1 (mirrored_x P odd a b l x' y' x'' y'' x y L (same_eq o.0) o.1)
          (mirrored_y P odd a b l x' y' x'' y'' x y L (same_eq o.0) o.1)

  -- three points of the curve, no two neighbours opposite
  module _ (x₁ y₁ x₂ y₂ x₃ y₃ : ℕ) (on₁ : OnCurve p a b (at x₁ y₁)) (on₂ : OnCurve p a b (at x₂ y₂)) (on₃ : OnCurve p a b (at x₃ y₃))
      (n₁ : Opposite p x₁ y₁ x₂ y₂ → ⊥) (n₂ : Opposite p x₂ y₂ x₃ y₃ → ⊥) where
    abbrev Associative : Type 0
    Associative = add p a (add p a (at x₁ y₁) (at x₂ y₂)) (at x₃ y₃) ≡ add p a (at x₁ y₁) (add p a (at x₂ y₂) (at x₃ y₃))

    -- P₁ + P₂ by a line of slope l, P₂ + P₃ by one of slope m, from the outer points
    module _ (l m : ℕ) (L : Line p a l x₁ y₁ x₂ y₂) (M : Line p a m x₂ y₂ x₃ y₃) where
      abbrev xₛ : ℕ
      xₛ = third_x p l x₁ x₂

      abbrev yₛ : ℕ
      yₛ = third_y p l x₁ y₁ xₛ

      abbrev xₜ : ℕ
      xₜ = third_x p m x₃ x₂

      abbrev yₜ : ℕ
      yₜ = third_y p m x₃ y₃ xₜ

      first_sum : add p a (at x₁ y₁) (at x₂ y₂) ≡ at xₛ yₛ
      unfolding third
      first_sum = add_line P odd a b x₁ y₁ x₂ y₂ on₁ on₂ n₁ l L

      second_sum : add p a (at x₂ y₂) (at x₃ y₃) ≡ at xₜ yₜ
      unfolding third
      second_sum = add_line P odd a b x₂ y₂ x₃ y₃ on₂ on₃ n₂ m M ∙ third_flip h a m x₂ y₂ x₃ y₃ M

      first_on : OnCurve p a b (at xₛ yₛ)
      unfolding third
      first_on = third_point_on P odd a b l x₁ y₁ x₂ y₂ on₁ L

      second_on : OnCurve p a b (at xₜ yₜ)
      unfolding third
      second_on = third_point_on P odd a b m x₃ y₃ x₂ y₂ on₃ (flip h a m x₂ y₂ x₃ y₃ M)

      -- both sums with the outer points are known
      by_parts : {Q : Point} → add p a (at xₛ yₛ) (at x₃ y₃) ≡ Q → add p a (at x₁ y₁) (at xₜ yₜ) ≡ Q → Associative
      by_parts e f = rw (first_sum, second_sum) (e ∙ sym f)

    one_line : (l : ℕ) → Line p a l x₁ y₁ x₂ y₂ → Line p a l x₂ y₂ x₃ y₃ → Dec (x₁ ≡ x₃) → Associative
    one_line l L M (yes e) =
        let f : y₁ ≡ y₃ = equal_below (in_line_same P odd a l x₁ y₁ x₂ y₂ x₃ y₃ L M (same_eq e)) on₁.1 on₃.1 in
        let again : at x₁ y₁ ≡ at x₃ y₃ = ap₂ at e f in
        ap (λ (Q : Point). add p a (add p a (at x₁ y₁) (at x₂ y₂)) Q) (sym again)
        ∙ add_comm P odd a b (add p a (at x₁ y₁) (at x₂ y₂)) (at x₁ y₁) (add_on P odd a b (at x₁ y₁) (at x₂ y₂) on₁ on₂) on₁
        ∙ ap (λ (Q : Point). add p a (at x₁ y₁) Q) (add_comm P odd a b (at x₁ y₁) (at x₂ y₂) on₁ on₂)
        ∙ ap (λ (Q : Point). add p a (at x₁ y₁) (add p a (at x₂ y₂) Q)) again
    one_line l L M (no n) =
        let L' : Line p a l x₂ y₂ x₁ y₁ = flip h a l x₁ y₁ x₂ y₂ L in
        let M' : Line p a l x₃ y₃ x₂ y₂ = flip h a l x₂ y₂ x₃ y₃ M in
        let ex : Same p (third_x p l x₁ x₂) x₃
        = in_line_x P odd a l x₁ y₁ x₂ y₂ x₃ y₃ L M (distinct P on₁.0 on₃.0 n) in
        let fx : Same p (third_x p l x₃ x₂) x₁
        = in_line_x P odd a l x₃ y₃ x₂ y₂ x₁ y₁ M' L' (distinct P on₃.0 on₁.0 (λ e. n (sym e))) in
        by_parts l l L M
        (add_opposite P odd a b (xₛ l l L M) (yₛ l l L M) x₃ y₃ (first_on l l L M).1
        (equal_below ex (third-X-below h l x₁ x₂) on₃.0, in_line_y P odd a l x₁ y₁ x₂ y₂ x₃ y₃ L M ex))
        (add_opposite P odd a b x₁ y₁ (xₜ l l L M) (yₜ l l L M) on₁.1
        (opposite_back P odd a b (xₜ l l L M) (yₜ l l L M) x₁ y₁
        (equal_below fx (third-X-below h l x₃ x₂) on₁.0, in_line_y P odd a l x₃ y₃ x₂ y₂ x₁ y₁ M' L' fx)))

    two_lines : (l m : ℕ) → Line p a l x₁ y₁ x₂ y₂ → Line p a m x₂ y₂ x₃ y₃ → (Same p l m → ⊥) → Associative
    two_lines l m L M n =
        by_parts l m L M (add_line P odd a b x y x₃ y₃ (first_on l m L M) on₃ first_apart (minus p t l) line₁)
        (add_line P odd a b x₁ y₁ x' y' on₁ (second_on l m L M) second_apart (minus p t m) line₂
        ∙ sym
        (thirds h (minus p t l) x y x₃ (minus p t m) x₁ y₁ x' (joined_x P odd a l m t x₁ y₁ x₂ y₂ x₃ y₃ L M differ parameter)
        (joined_y P odd a l m t x₁ y₁ x₂ y₂ x₃ y₃ L M differ parameter)))
      where
        x : ℕ
        x = xₛ l m L M

        y : ℕ
        y = yₛ l m L M

        x' : ℕ
        x' = xₜ l m L M

        y' : ℕ
        y' = yₜ l m L M

        L' : Line p a l x₂ y₂ x₁ y₁
        L' = flip h a l x₁ y₁ x₂ y₂ L

        M' : Line p a m x₃ y₃ x₂ y₂
        M' = flip h a m x₂ y₂ x₃ y₃ M

        differ : NonZero p (minus p m l)
        differ z = n (back (none_minus h z))

        t : ℕ
        t = over p (minus p x₃ x₁) (minus p m l)

        parameter : Same p (times p t (minus p m l)) (minus p x₃ x₁)
        parameter = over_times P (minus p x₃ x₁) (minus p m l) differ

        parameter' : Same p (times p t (minus p l m)) (minus p x₁ x₃)
        parameter' =
            let ρ : List ℕ = t ∷ l ∷ m ∷ x₁ ∷ x₃ ∷ [] in
            follows h ρ (none ⊟ gap h ρ (var 0 ⊗ (var 2 ⊖ var 1)) (var 4 ⊖ var 3) parameter) (var 0 ⊗ (var 1 ⊖ var 2)) (var 3 ⊖ var 4) tt

        line₁ : Line p a (minus p t l) x y x₃ y₃
        line₁ = joined P odd a l m t x₁ y₁ x₂ y₂ x₃ y₃ L M differ parameter

        line₂ : Line p a (minus p t m) x₁ y₁ x' y'
        line₂ =
            flip h a (minus p t m) x' y' x₁ y₁
            (joined P odd a m l t x₃ y₃ x₂ y₂ x₁ y₁ M' L' (λ z. n (none_minus h z)) parameter')

        -- else P₃ or P₁ would be on the line of the other two, and the slopes the same
        first_apart : Opposite p x y x₃ y₃ → ⊥
        first_apart o =
            n
            (slopes P odd a l m x₂ y₂ x₃ y₃ (onward h a l x₁ y₁ x₂ y₂ x₃ y₃ L (same_eq o.0) o.1) M
            (differing P odd a b x₂ y₂ x₃ y₃ on₂ on₃ n₂))

        second_apart : Opposite p x₁ y₁ x' y' → ⊥
        second_apart o =
            let o' : Opposite p x' y' x₁ y₁ = opposite_back P odd a b x₁ y₁ x' y' o in
            n
            (slopes P odd a l m x₁ y₁ x₂ y₂ L
            (flip h a m x₂ y₂ x₁ y₁ (onward h a m x₃ y₃ x₂ y₂ x₁ y₁ M' (same_eq o'.0) o'.1))
            (differing P odd a b x₁ y₁ x₂ y₂ on₁ on₂ n₁))

    apart_associative : Associative
    apart_associative = go (same? p l m)
      where
        l : ℕ
        l = slope P odd a b x₁ y₁ x₂ y₂ on₁ on₂ n₁

        m : ℕ
        m = slope P odd a b x₂ y₂ x₃ y₃ on₂ on₃ n₂

        L : Line p a l x₁ y₁ x₂ y₂
        L = slope_line P odd a b x₁ y₁ x₂ y₂ on₁ on₂ n₁

        M : Line p a m x₂ y₂ x₃ y₃
        M = slope_line P odd a b x₂ y₂ x₃ y₃ on₂ on₃ n₂

        go : Dec (Same p l m) → Associative
        go (yes e) = one_line l L (resloped h a l m x₂ y₂ x₃ y₃ e M) (ℕ_discrete x₁ x₃)
        go (no n) = two_lines l m L M n

  finite_associative : (x₁ y₁ x₂ y₂ x₃ y₃ : ℕ) → OnCurve p a b (at x₁ y₁) → OnCurve p a b (at x₂ y₂) → OnCurve p a b (at x₃ y₃)
      → Dec (Opposite p x₁ y₁ x₂ y₂) → Dec (Opposite p x₂ y₂ x₃ y₃)
      → add p a (add p a (at x₁ y₁) (at x₂ y₂)) (at x₃ y₃) ≡ add p a (at x₁ y₁) (add p a (at x₂ y₂) (at x₃ y₃))
  finite_associative x₁ y₁ x₂ y₂ x₃ y₃ on₁ on₂ on₃ (yes o) (yes q) =
      let ρ : List ℕ = y₁ ∷ y₂ ∷ y₃ ∷ [] in
      let f : Same p y₃ y₁
      = follows h ρ (gap h ρ (var 1 ⊕ var 2) (num 0) q.1 ⊟ gap h ρ (var 0 ⊕ var 1) (num 0) o.1) (var 2) (var 0) tt in
      rw (add_opposite P odd a b x₁ y₁ x₂ y₂ on₁.1 o, add_opposite P odd a b x₂ y₂ x₃ y₃ on₂.1 q, add_left, add_right)
      (ap₂ at (sym (o.0 ∙ q.0)) (equal_below f on₃.1 on₁.1))
  finite_associative x₁ y₁ x₂ y₂ x₃ y₃ on₁ on₂ on₃ (yes o) (no n) =
      rw (add_opposite P odd a b x₁ y₁ x₂ y₂ on₁.1 o, add_left) (sym (undo x₁ y₁ x₂ y₂ x₃ y₃ on₁ on₂ on₃ o n))
  finite_associative x₁ y₁ x₂ y₂ x₃ y₃ on₁ on₂ on₃ (no n) (yes q) =
      rw (add_opposite P odd a b x₂ y₂ x₃ y₃ on₂.1 q, add_right)
      (add_comm P odd a b (add p a (at x₁ y₁) (at x₂ y₂)) (at x₃ y₃) (add_on P odd a b (at x₁ y₁) (at x₂ y₂) on₁ on₂) on₃
      ∙ ap (λ (Q : Point). add p a (at x₃ y₃) Q) (add_comm P odd a b (at x₁ y₁) (at x₂ y₂) on₁ on₂)
      ∙ undo x₃ y₃ x₂ y₂ x₁ y₁ on₃ on₂ on₁ (opposite_back P odd a b x₂ y₂ x₃ y₃ q) (λ o. n (opposite_back P odd a b x₂ y₂ x₁ y₁ o)))
  finite_associative x₁ y₁ x₂ y₂ x₃ y₃ on₁ on₂ on₃ (no n) (no m) = apart_associative x₁ y₁ x₂ y₂ x₃ y₃ on₁ on₂ on₃ n m

  pub add_assoc : (Q R S : Point) → OnCurve p a b Q → OnCurve p a b R → OnCurve p a b S
      → add p a (add p a Q R) S ≡ add p a Q (add p a R S)
  add_assoc infinity R S on on' on'' = rw (add_left p a R, add_left p a (add p a R S))
  add_assoc (at x y) infinity S on on' on'' = rw (add_right, add_left)
  add_assoc (at x y) (at x' y') infinity on on' on'' =
      add_right p a (add p a (at x y) (at x' y')) ∙ ap (λ (Q : Point). add p a (at x y) Q) (sym (add_right p a (at x' y')))
  add_assoc (at x₁ y₁) (at x₂ y₂) (at x₃ y₃) on₁ on₂ on₃ =
      finite_associative x₁ y₁ x₂ y₂ x₃ y₃ on₁ on₂ on₃ (opposite? p x₁ y₁ x₂ y₂) (opposite? p x₂ y₂ x₃ y₃)
