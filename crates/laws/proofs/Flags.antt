-- Laws of tests joined by "and" and "or", read as facts.
use mathlib.Core.Path.{◌≡◌, refl, sym, ◌∙◌}
use mathlib.Core.Logic.{◌⊎◌, inl, inr}
use mathlib.Core.Bool.{Bool, true, false, ◌&&◌, ◌||◌, true≢false, false≢true}

pub true_or_false : (a : Bool) → (a ≡ true) ⊎ (a ≡ false)
true_or_false true = inl refl
true_or_false false = inr refl

pub and_left : (a b : Bool) → a && b ≡ true → a ≡ true
and_left true b h = refl
and_left false b h = h

pub and_right : (a b : Bool) → a && b ≡ true → b ≡ true
and_right true b h = h
and_right false b h = cc

pub both : {a b : Bool} → a ≡ true → b ≡ true → a && b ≡ true
both p q = rw (p, q)

-- One that fails is enough
pub and_fails_left : {a : Bool} (b : Bool) → a ≡ false → a && b ≡ false
and_fails_left b p = rw p

pub and_fails_right : (a : Bool) {b : Bool} → b ≡ false → a && b ≡ false
and_fails_right true q = q
and_fails_right false q = refl

pub or_cases : (a b : Bool) → a || b ≡ true → (a ≡ true) ⊎ (b ≡ true)
or_cases true b h = inl refl
or_cases false b h = inr h

pub or_rest : {a : Bool} (b : Bool) → a ≡ false → a || b ≡ true → b ≡ true
or_rest b p h = rw p at h

pub or_left : {a : Bool} (b : Bool) → a ≡ true → a || b ≡ true
or_left b p = rw p

pub or_right : (a : Bool) {b : Bool} → b ≡ true → a || b ≡ true
or_right true q = refl
or_right false q = q

pub or_false : (a : Bool) → a || false ≡ a
or_false true = refl
or_false false = refl

-- What a call found, where its answer is tested
pub granted : {answer a : Bool} → answer ≡ a → answer ≡ true → a ≡ true
granted e h = sym e ∙ h

pub refuted : {answer a : Bool} → answer ≡ a → answer ≡ false → a ≡ false
refuted e h = sym e ∙ h

-- A test that cannot hold fails; two tests that hold together are the same
pub fails : (a : Bool) → (a ≡ true → ⊥) → a ≡ false
fails true h = absurd (h refl)
fails false h = refl

pub agree : (a b : Bool) → (a ≡ true → b ≡ true) → (b ≡ true → a ≡ true) → a ≡ b
agree true b h k = sym (h refl)
agree false b h k = sym (fails b (λ e. false≢true (k e)))

pub clash : {a : Bool} → a ≡ true → a ≡ false → ⊥
clash p q = true≢false (sym p ∙ q)

pub or_fails_left : (a b : Bool) → a || b ≡ false → a ≡ false
or_fails_left true b h = h
or_fails_left false b h = refl

pub or_fails_right : (a b : Bool) → a || b ≡ false → b ≡ false
or_fails_right true b h = absurd (true≢false h)
or_fails_right false b h = h
