-- `parameter_read::plain` meets its contract: power, seconds and the rest are put one after the other over zeros.
use Rattle.parameter_read.specs.Parameters.{wire_byte, parameters}
use Rattle.parameter_read.proofs.PowerByte.{legal_fits}
use Rattle.laws.proofs.Copied.{copied_next}
use mathlib.Core.Path.{◌≡◌, refl, ap, ap₂, ◌∙◌}
use mathlib.Core.List.{List, [], ◌∷◌, ◌++◌, append_assoc}
use Prim.Native.Nat.{ℕ}
use lib.ListN.{length, drop, replicate}
use native.Mathlib.Omega.{arith}
use mir.Facts.{to_z-of_z}
use Rattle.laws.proofs.BigEndian.{four_bytes}
use borrow.Author.Rules.{rules}
use Rattle.parameter_read.proofs.plain.Goals as goal

pub returns : goal.returns
unfolding parameters
returns c =
    let whole : List ℕ = replicate 16 0 in
    let power : List ℕ = c.wire_byte.result ∷ [] in
    let clock : List ℕ = c.to_be_bytes-clock.result in
    let rest : List ℕ = 0x00 ∷ c.args.s.components ∷ c.args.s.selectable ∷ [] in
    let n : length clock ≡ 4 = search rules in
    let one : c.put.new.to ≡ power ++ drop 1 whole
    = copied_next whole [] power whole c.put.new.to 0 refl refl c.put.ensures in
    let two : c.put-2.new.to ≡ (power ++ clock) ++ drop 5 whole
    = rw n at (copied_next whole power clock c.put.new.to c.put-2.new.to 1 refl one c.put-2.ensures) in
    let m : length (power ++ clock) ≡ 5 = omega arith in
    let all = copied_next whole (power ++ clock) rest c.put-2.new.to c.put-3.new.to 5 m two c.put-3.ensures in
    all
    ∙ append_assoc (power ++ clock) rest (replicate 8 0)
    ∙ ap₂ (λ (b : ℕ) (l : List ℕ). b ∷ l ++ (rest ++ replicate 8 0)) (c.wire_byte.ensures ∙ ap wire_byte (to_z-of_z (legal_fits c.args.s.power c.requires)))
    (c.to_be_bytes-clock.ensures ∙ four_bytes _)
