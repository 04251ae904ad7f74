-- An accepted 0x05 whose notice says so starts a ring, with the tenths that its two bytes say, the nonce that the unit had and the key that it
-- has.
use Prim.Native.Nat.{ℕ, ◌+◌, ◌*◌, ◌≤◌}
use mathlib.Core.Path.{◌≡◌, sym, ap, ◌∙◌}
use mathlib.Core.Bool.{true}
use mathlib.Core.List.{List, [], ◌∷◌}
use native.Mathlib.Omega.{arith}
use lib.Dec.{eqb, leb}
use lib.ListN.{length, get_or, take, drop, length-drop}
use lib.Seq.{get_or-drop}
use borrow.Author.Tests.{eqb-true}
use Rattle.laws.specs.Bytes.{number, number_after}
use Rattle.laws.proofs.Flags.{and_left, and_right, or_false}
use Rattle.wire.specs.Shape.{parsed, shape_legal, size_legal, legal_sizes, one_of}
use Rattle.unit.specs.declared.TagUnit.{TagUnit}
use Rattle.unit.specs.declared.Sound.{Sound}
use Rattle.unit.specs.WellFormed.{well_formed}
use Rattle.unit.specs.Change.{spent}
use Rattle.ring_values.specs.RingValues.{held_volume, asked_timeout}
use Rattle.ring_decisions.specs.Decisions.{reached}
use Rattle.tag.specs.Calls.{Written}
use Rattle.demanded_answers.specs.History.{step, writes, Succeeds}
use Rattle.demanded_nonces.specs.Among.{notifies}
use Rattle.demanded_time.specs.RingLasts.{Starts, asked_in}
use Rattle.demanded_nonces.proofs.WritesOnSound.{Effect, apart, rings, stops, fails, clears, admitted}

-- a ring that this unit has begun: the nonce and the key are those of the unit before
pub record Begun (u v : TagUnit) (t : ℕ) : Type 0 where
  pub mask : ℕ
  pub volume : ℕ
  pub sounds : v.sound ≡ Sound.Ringing mask volume t
  pub nonce : v.ring_nonce ≡ u.nonces.newest
  pub identity : v.identity ≡ u.identity

-- the shape of a 0x05 is fourteen bytes
ring_long : (w : List ℕ) → shape_legal w ≡ true → get_or w 0 0 ≡ 0x05 → length w ≡ 14
unfolding shape_legal size_legal legal_sizes one_of
ring_long w legal id =
    let rest = and_right (leb 2 (length w)) _ legal in
    let sizes = rw id at (and_left (size_legal (get_or w 0 0) (get_or w 1 0)) (eqb (length w) (get_or w 1 0 + 2)) rest) in
    let size : get_or w 1 0 ≡ 12 = eqb-true (get_or w 1 0) 12 (sym (or_false _) ∙ sizes) in
    let count : length w ≡ get_or w 1 0 + 2 = eqb-true _ _ (and_right (size_legal (get_or w 0 0) (get_or w 1 0)) _ rest) in
    omega arith

-- its two bytes of timeout, big-endian
two_bytes : (a : List ℕ) → 3 ≤ length a → number (take 2 (drop 1 a)) ≡ 256 * get_or a 1 0 + get_or a 2 0
unfolding number number_after
two_bytes [] h = absurd (omega arith)
two_bytes (x ∷ []) h = absurd (omega arith)
two_bytes (x ∷ y ∷ []) h = absurd (omega arith)
two_bytes (x ∷ y ∷ z ∷ rest) h = omega arith

asked_tenths : (w : List ℕ) → length w ≡ 14 → asked_timeout (drop 10 w) ≡ asked_in w
asked_tenths w h =
    two_bytes (drop 10 w) (omega (arith, length-drop 10 w))
    ∙ rw (get_or-drop 10 w 1 0, get_or-drop 10 w 2 0)

module _ (u v : TagUnit) (w : Written) (answer : List ℕ) (long : length w.bytes ≡ 14) (ring : get_or w.bytes 0 0 ≡ 0x05)
    (started : get_or answer 10 0 ≡ 0) where
  effect_begun : Effect (spent u) (parsed w.bytes) w.reach v answer → Begun u v (asked_in w.bytes)
  unfolding parsed
  effect_begun (apart head other l) = absurd (other ring)
  effect_begun (rings mask id status is) =
      record {
        mask = reached mask w.reach;
        volume = held_volume u.settings (drop 10 w.bytes);
        sounds = ap (λ (x : TagUnit). x.sound) is ∙ rw (asked_tenths w.bytes long);
        nonce = ap (λ (x : TagUnit). x.ring_nonce) is;
        identity = ap (λ (x : TagUnit). x.identity) is;
      }
  effect_begun (stops id status is) = absurd (omega (arith, started, status))
  effect_begun (fails id head status notice is) = absurd (omega (arith, started, status))
  effect_begun (clears id silent e) = absurd (omega arith)

pub begun : (u : TagUnit) (w : Written) (room : ℕ) → Starts w room u → Begun u (step (writes w room) u).unit (asked_in w.bytes)
begun u w room (notifies {answer = answer} ring given started) =
    let a = admitted w room u answer given in
    effect_begun u (step (writes w room) u).unit w answer (ring_long w.bytes a.legal ring) ring started a.effect

pub start_formed : (u : TagUnit) (w : Written) (room : ℕ) → Starts w room u → well_formed u ≡ true
start_formed u w room (notifies {answer = answer} ring given started) = (admitted w room u answer given).formed

pub start_succeeds : (u : TagUnit) (w : Written) (room : ℕ) → Starts w room u → Succeeds (writes w room) u
start_succeeds u w room (notifies {answer = answer} ring given started) = (answer, given)
