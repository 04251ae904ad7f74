-- `lines::octets` meets its contract: the bytes behind the key, or a line that breaks the order. A line has at most 256 bytes, so that half of
-- them fit.
use lib.ListN.{take}
use native.Mathlib.Omega.{arith}
use Rattle.hex_reading.specs.Hex.{bytes}
use Rattle.lines.specs.Lines.{given}
use Rattle.lines.specs.Promises.{line_of}
use Rattle.lines.proofs.KeyedLines.{unkeyed, no_value, with_value}
use Rattle.lines.proofs.octets.Goals as goal

pub returns-in_err-value : goal.returns-in_err-value
returns-in_err-value c =
    rw c.from_residual.ensures
    (record { line_is = λ p n k. unkeyed c.args.key.now c.args.line.now (λ v. given (bytes v) (line_of c.args.means p n k 0)) c.in_err-value.ensures.cases; within_room = omega arith })

pub returns-in_err-unhex : goal.returns-in_err-unhex
returns-in_err-unhex c =
    let found = c.in_ok-value.ensures.cases in
    rw c.from_residual-in_err-unhex.ensures
    (record { line_is = λ p n k. no_value c.args.key.now c.args.line.now found.0 found.1 bytes (line_of c.args.means p n k 0) c.in_err-unhex.ensures.bytes_are; within_room = omega arith })

pub returns : goal.returns
returns c =
    let found = c.in_ok-value.ensures.cases in
    let read = c.in_ok-unhex.ensures in
    record { line_is = λ p n k. with_value c.args.key.now c.args.line.now found.0 found.1 bytes (line_of c.args.means p n k 0) (take c.in_ok-unhex.field-0 c.unhex.new.into) read.bytes_are; within_room = omega (arith, read.within_text, found.2, c.requires.0) }
