-- `shapes::size_legal` meets its contract: each arm by the row of its IDs.
use mathlib.Core.Path.{refl}
use mathlib.Core.Logic.{inl, inr, ⊎_elim}
use Prim.Native.Nat.{◌≤◌}
use Rattle.shapes.specs.Lengths.{legal_sizes}
use Rattle.shapes.proofs.Sizes.{legal_one, legal_first, legal_second, legal_none, eight_first, above}
use Rattle.shapes.proofs.size_legal.Goals as goal
use Rattle.shapes.proofs.size_legal.Goals.{in-4-1, in_default+then-id-lt2}

pub returns-then-size-eq40 : goal.returns-then-size-eq40
unfolding legal_sizes
returns-then-size-eq40 c = legal_first c.args.id c.args.size 40 48 (rw c.in-2.is refl) c.if-size-eq40.true

pub returns-else-size-eq40 : goal.returns-else-size-eq40
unfolding legal_sizes
returns-else-size-eq40 c = legal_second c.args.id c.args.size 40 48 (rw c.in-2.is refl) c.if-size-eq40.false

pub returns-in-3 : goal.returns-in-3
unfolding legal_sizes
returns-in-3 c =
    legal_one c.args.id c.args.size 16 (⊎_elim (λ e. rw e refl) (λ e. rw e refl) c.in-3.is)

pub returns-in-5 : goal.returns-in-5
unfolding legal_sizes
returns-in-5 c = legal_one c.args.id c.args.size 12 (rw c.in-5.is refl)

pub returns-then-size-eq8 : goal.returns-then-size-eq8
unfolding legal_sizes
returns-then-size-eq8 c = legal_first c.args.id c.args.size 8 9 (rw c.in-7.is refl) c.if-size-eq8.true

pub returns-else-size-eq8 : goal.returns-else-size-eq8
unfolding legal_sizes
returns-else-size-eq8 c = legal_second c.args.id c.args.size 8 9 (rw c.in-7.is refl) c.if-size-eq8.false

pub returns-in_default : goal.returns-in_default
returns-in_default c =
    let id = c.args.id in
    let r = c.in_default.in_default-own.rest in
    let to4 : 4 ≤ id = above id 3 (above id 2 c.in_default.if-id-lt2-own.false r.0.0.0.1) (λ e. r.0.0.1 (inl e)) in
    let to6 : 6 ≤ id = above id 5 (above id 4 to4 (λ e. r.0.0.0.0.1 (inl e))) r.0.1 in
    let to8 : 8 ≤ id = above id 7 (above id 6 to6 (λ e. r.0.0.0.0.1 (inr e))) r.1 in
    legal_none id c.args.size (above id 8 to8 (λ e. r.0.0.1 (inr e)))

pub returns-in-0 : goal.returns-in-0
unfolding legal_sizes
returns-in-0 c =
    legal_one c.args.id c.args.size 8
    (elim c.in-0-1.branch [
      | in-4-1 w ↦ ⊎_elim (λ e. rw e refl) (λ e. rw e refl) w.in-4-1.keys1
      | in_default+then-id-lt2 w ↦ eight_first c.args.id w.if-id-lt2-1.true
    ])
