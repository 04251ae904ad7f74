-- A point of the code: the numbers that its coordinates hold, as Jacobian coordinates.
use Rattle.std.specs.Prelude.{ℕ, List}
use Rattle.limbs.specs.Limbs.{value}
use Rattle.field.specs.declared.Prime.{Prime}
use Rattle.field.specs.Forms.{element, Form, Holds}
use Rattle.curve_laws.proofs.Jacobian.{Triple, triple}
use Rattle.doubling.specs.declared.Jacobian.{Jacobian}

abbrev pub coordinates : {N : ℕ} → Prime N → Jacobian N → Triple
coordinates f j = triple (element f j.x) (element f j.y) (element f j.z)

pub record Forms {N : ℕ} (f : Prime N) (j : Jacobian N) : Type 0 where
  pub x : Form f j.x
  pub y : Form f j.y
  pub z : Form f j.z

-- a point whose coordinates hold those of t
pub record Held {N : ℕ} (f : Prime N) (j : Jacobian N) (t : Triple) : Type 0 where
  pub x : Holds f j.x t.X
  pub y : Holds f j.y t.Y
  pub z : Holds f j.z t.Z

-- a point that holds what a rule makes of the modulus, of another point and of what forms hold
abbrev pub Makes : {N : ℕ} → Prime N → Jacobian N → (ℕ → (List ℕ → ℕ) → Triple) → Type 0
Makes f j rule = Held f j (rule (value f.m) (element f))
