-- `frame_text::parts` meets its contract: four texts, one after the other, in a room that holds them.
use mathlib.Core.Path.{◌≡◌, refl}
use mathlib.Core.Bool.{Bool, true, false}
use native.Mathlib.Omega.{arith}
use lib.ListN.{length}
use Rattle.notation.proofs.Hex.{length_hex}
use Rattle.notation.proofs.Placed.{puts_then, puts_around}
use Rattle.frame_text.specs.Answers.{protection_text, parts_text}
use Rattle.frame_text.proofs.Said.{said}
use borrow.Author.Rules.{rules}
use Rattle.frame_text.proofs.parts.Goals as goal

protection_length : (on : Bool) → length (protection_text on) ≡ 13
protection_length true = refl
protection_length false = refl

pub protection-protected-requires : goal.protection-protected-requires
protection-protected-requires c =
    let sized : length c.args.frame.id ≡ 20 = search rules in
    let place : c.hex-shown.result ≡ 51
    = omega (arith, c.put-named.ensures.next_is, c.hex-shown.ensures.next_is, length_hex c.args.frame.id) in
    omega arith

pub flags_line-count-requires : goal.flags_line-count-requires
flags_line-count-requires c =
    let sized : length c.args.frame.id ≡ 20 = search rules in
    let place : c.hex-shown.result ≡ 51
    = omega (arith, c.put-named.ensures.next_is, c.hex-shown.ensures.next_is, length_hex c.args.frame.id) in
    omega (arith, c.protection-protected.ensures.next_is, protection_length c.args.frame.on)

pub returns : goal.returns
unfolding parts_text
returns c =
    let sized : length c.args.frame.id ≡ 20 = search rules in
    let place : c.hex-shown.result ≡ 51
    = omega (arith, c.put-named.ensures.next_is, c.hex-shown.ensures.next_is, length_hex c.args.frame.id) in
    let on = protection_length c.args.frame.on in
    said
    (puts_around c.put-named.ensures c.hex-shown.ensures
    (puts_then c.protection-protected.ensures c.flags_line-count.ensures (omega (arith, c.hex-shown.auto.out, c.put-named.auto.out)))
    (omega (arith, length_hex c.args.frame.id)))
