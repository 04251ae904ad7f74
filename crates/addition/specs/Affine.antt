-- A point in affine coordinates whose coordinates are forms of the field.
use Rattle.std.specs.Prelude.{ℕ}
use Rattle.field.specs.declared.Prime.{Prime}
use Rattle.field.specs.Forms.{Form}
use Rattle.addition.specs.declared.Affine.{Affine}

pub record AffineForms {N : ℕ} (f : Prime N) (q : Affine N) : Type 0 where
  pub x : Form f q.x
  pub y : Form f q.y
