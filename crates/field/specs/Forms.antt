-- What the forms of a field hold.
use Rattle.std.specs.Prelude.{ℕ, ◌≡◌, List}
use Rattle.limbs.specs.Limbs.{value, Below}
use Rattle.field.specs.Montgomery.{plain}
use Rattle.field.specs.declared.Prime.{Prime}

-- a form: as wide as m, and below it
abbrev pub Form : {N : ℕ} → Prime N → List ℕ → Type 0
Form f a = Below a f.m

-- the element that it holds
abbrev pub element : {N : ℕ} → Prime N → List ℕ → ℕ
element f a = plain f.m f.inv a

-- a form that holds the element v
pub record Holds {N : ℕ} (f : Prime N) (a : List ℕ) (v : ℕ) : Type 0 where
  pub form : Form f a
  pub holds : element f a ≡ v

-- a form that holds a value: of the modulus, and of what other forms hold
abbrev pub Gives : {N : ℕ} → Prime N → List ℕ → (ℕ → (List ℕ → ℕ) → ℕ) → Type 0
Gives f a rule = Holds f a (rule (value f.m) (element f))
