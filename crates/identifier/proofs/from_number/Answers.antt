-- `identifier::from_number` meets its contract: of r's 32 bytes the lowest 20 are its own, and all are zero exactly for r = 0.
use mathlib.Core.Path.{◌≡◌, sym, ap, ◌∙◌}
use mathlib.Core.Bool.{Bool, not}
use mathlib.Core.List.{List}
use lib.Dec.{eqb}
use Prim.Native.Nat.{ℕ, ◌-◌, ◌%◌, ◌^◌, ◌<◌}
use native.Mathlib.Nat.{mod-lt, lt_of_lt_of_le}
use native.Mathlib.Omega.{arith}
use lib.Dec.{lit≤}
use lib.ListN.{length, take, drop}
use lib.Seq.{take_all}
use Rattle.laws.specs.Bytes.{number, big_endian, all_zero}
use Rattle.laws.proofs.BigEndian.{length_big_endian}
use Rattle.curve_laws.specs.Curves.{SECP160R1}
use Rattle.octets.proofs.LowBytes.{drop_big_endian, zero_big_endian}
use Rattle.identifier.specs.Identifier.{scalar, aligned, identifier_by}
use Rattle.identifier.proofs.from_number.Goals as goal

-- r has less than 32 bytes, and its lowest 20 are those from the twelfth on
fits : (n : ℕ) → n % SECP160R1.n < 256 ^ 32
unfolding SECP160R1
fits n = lt_of_lt_of_le (mod-lt n (lit≤ tt)) (lit≤ tt)

lowest : (bytes : List ℕ) (r : ℕ) → bytes ≡ big_endian 32 r → take 20 (drop 12 bytes) ≡ big_endian 20 r
lowest bytes r e =
    let low : drop 12 bytes ≡ big_endian 20 r = ap (drop 12) e ∙ drop_big_endian 12 20 r in
    rw low (take_all 20 (big_endian 20 r) (omega (arith, length_big_endian 20 r)))

-- all its bytes are zero exactly for r = 0
zero_is : (bytes : List ℕ) (n : ℕ) {zeros answer : Bool} → bytes ≡ big_endian 32 (n % SECP160R1.n) → zeros ≡ all_zero bytes → zeros ≡ answer
    → not answer ≡ not (eqb (n % SECP160R1.n) 0)
zero_is bytes n e z is = ap not (sym is ∙ z ∙ ap all_zero e ∙ zero_big_endian 32 (n % SECP160R1.n) (fits n))

pub slice_bounds-array-end : goal.slice_bounds-array-end
slice_bounds-array-end c =
    let m = c.secp160r1-m in
    let long : length m.result.r ≡ 32 = ap length m.ensures.scalar ∙ simp length_big_endian in
    omega arith

pub returns-then-all_zero : goal.returns-then-all_zero
unfolding scalar
returns-then-all_zero c =
    let m = c.secp160r1-m in
    record { some_is = zero_is m.result.r (number c.args.number) m.ensures.scalar c.all_zero.ensures c.if-all_zero.true; r_is = tt; id_is = tt }

pub returns : goal.returns
unfolding scalar aligned identifier_by SECP160R1
returns c =
    let m = c.secp160r1-m in
    let r : ℕ = number c.args.number % SECP160R1.n in
    let long : length m.result.r ≡ 32 = ap length m.ensures.scalar ∙ simp length_big_endian in
    let rest : length m.result.r - 12 ≡ 20 = omega arith in
    record {
      some_is = zero_is m.result.r (number c.args.number) m.ensures.scalar c.all_zero.ensures c.if-all_zero.false;
      r_is = (rw rest at c.array.ensures) ∙ lowest m.result.r r m.ensures.scalar;
      id_is = m.ensures.side;
    }
