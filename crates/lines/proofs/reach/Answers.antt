-- `lines::reach` meets its contract: the byte behind the key, or a line that breaks the order.
use Prim.Native.Nat.{ℕ}
use mathlib.Core.Path.{refl}
use mathlib.Core.List.{List}
use native.Mathlib.Omega.{arith}
use Rattle.hex_reading.specs.Hex.{one_byte}
use Rattle.notation.specs.Text.{ascii}
use Rattle.tag.specs.Calls.{write}
use Rattle.events.specs.Event.{asks}
use Rattle.lines.specs.Lines.{Line, held, given, brings}
use Rattle.lines.proofs.KeyedLines.{unkeyed, no_value, with_value}
use Rattle.lines.proofs.reach.Goals as goal

-- the write that it makes, of the bytes kept
abbrev written : List ℕ → ℕ → Line
written b n = brings (asks (write (record { bytes = b; reach = n })))

pub returns-in_err-value : goal.returns-in_err-value
unfolding held
returns-in_err-value c =
    rw c.from_residual.ensures
    (record { says = λ bytes. record { line_is = λ p n k. unkeyed (ascii "reach=") c.args.line.now (λ v. given (one_byte v) (written k)) c.in_err-value.ensures.cases; within_room = omega arith }; no_bytes = refl })

pub returns-in_err-one_byte : goal.returns-in_err-one_byte
unfolding held
returns-in_err-one_byte c =
    let found = c.in_ok-value.ensures.cases in
    rw c.from_residual-in_err-one_byte.ensures
    (record { says = λ bytes. record { line_is = λ p n k. no_value (ascii "reach=") c.args.line.now found.0 found.1 one_byte (written k) c.in_err-one_byte.ensures; within_room = omega arith }; no_bytes = refl })

pub returns : goal.returns
unfolding held
returns c =
    let found = c.in_ok-value.ensures.cases in
    rw c.from.ensures
    (record { says = λ bytes. record { line_is = λ p n k. with_value (ascii "reach=") c.args.line.now found.0 found.1 one_byte (written k) c.in_ok-one_byte.field-0 c.in_ok-one_byte.ensures; within_room = omega arith }; no_bytes = refl })
