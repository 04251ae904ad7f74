-- `well_formed::sound_legal` meets its contract: each test is one of a ring's lines, and the last, on the tenths left, decides.
use Prim.Native.Nat.{ℕ, ◌≤◌}
use mathlib.Core.Bool.{Bool, true, false}
use mathlib.Core.List.{List}
use mathlib.Core.Path.{◌≡◌, sym, ap, ◌∙◌}
use native.Mathlib.Omega.{arith}
use lib.Dec.{leb}
use borrow.Author.Tests.{leb-true, le-leb, le-ltb}
use Rattle.laws.proofs.Flags.{granted, refuted, fails, agree, clash}
use Rattle.unit.specs.Ringable.{inside}
use Rattle.unit.specs.WellFormed.{sound_legal}
use Rattle.unit.proofs.Lines.{RingLines, VolumeLines, ring_lines, ring_legal_lem, volume_lines, volume_legal}
use Rattle.unit.specs.declared.Settings.{Settings}
use Rattle.unit.specs.declared.Sound.{Sound}
use Rattle.well_formed.proofs.sound_legal.Goals as goal

-- a ring of which one line is not met
not_legal : {sound : Sound} {mask volume left : ℕ} {s : Settings} {keyed : Bool} (nonce : List ℕ)
    → sound ≡ Sound.Ringing mask volume left → (RingLines mask volume left s keyed → ⊥) → false ≡ sound_legal sound nonce s keyed
not_legal {sound} {mask} {volume} {left} {s} {keyed} nonce is h =
    sym (ap (λ (x : Sound). sound_legal x nonce s keyed) is ∙ fails _ (λ e. h (ring_lines mask volume left nonce s keyed e)))

-- a ring of which every line is met but that on the tenths left
left_decides : {sound : Sound} {mask volume left : ℕ} {keyed : Bool} (nonce : List ℕ) (s : Settings)
    → sound ≡ Sound.Ringing mask volume left → keyed ≡ true → (mask ≡ 0 → ⊥) → inside mask s.components ≡ true
    → VolumeLines s.selectable volume → 1 ≤ left → leb left 6000 ≡ sound_legal sound nonce s keyed
left_decides {sound} {mask} {volume} {left} {keyed} nonce s is k m i v o =
    agree (leb left 6000) (sound_legal (Sound.Ringing mask volume left) nonce s keyed)
    (λ e.
    ring_legal_lem mask volume left nonce s keyed
    (record { identity_held = k; some = m; within = i; at_volume = v; least = o; most = leb-true _ _ e }))
    (λ e. le-leb _ _ (ring_lines mask volume left nonce s keyed e).most)
    ∙ ap (λ (x : Sound). sound_legal x nonce s keyed) (sym is)

pub returns-then-not-keyed : goal.returns-then-not-keyed
returns-then-not-keyed c = not_legal _ c.in-Ringing.is (λ r. clash r.identity_held c.if-not-keyed.true)

pub returns-then-mask-eq0 : goal.returns-then-mask-eq0
returns-then-mask-eq0 c = not_legal _ c.in-Ringing.is (λ r. r.some c.if-mask-eq0.true)

pub returns-then-not-inside : goal.returns-then-not-inside
returns-then-not-inside c =
    not_legal _ c.in-Ringing.is
    (λ r. clash r.within (refuted c.inside.ensures c.if-not-inside.true))

pub returns-then-not-volume_legal : goal.returns-then-not-volume_legal
returns-then-not-volume_legal c =
    not_legal _ c.in-Ringing.is
    (λ r. clash (volume_legal _ _ r.at_volume) (refuted c.volume_legal.ensures c.if-not-volume_legal.true))

pub returns-else-left-gt0 : goal.returns-else-left-gt0
returns-else-left-gt0 c = rw (le-ltb 0 c.in-Ringing.left c.if-left-gt0.false) (not_legal _ c.in-Ringing.is (λ r. omega (arith, r.least)))

pub returns-in-Silent : goal.returns-in-Silent
unfolding sound_legal
returns-in-Silent c = cc

pub returns-then-left-gt0 : goal.returns-then-left-gt0
returns-then-left-gt0 c =
    let s = c.args.s in
    left_decides _ s c.in-Ringing.is c.if-not-keyed.false c.if-mask-eq0.false
    (granted c.inside.ensures c.if-not-inside.false)
    (volume_lines s.selectable c.in-Ringing.volume (granted c.volume_legal.ensures c.if-not-volume_legal.false))
    (omega arith)
