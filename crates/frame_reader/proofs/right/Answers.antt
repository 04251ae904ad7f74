-- `frame_reader::right` meets its contract: at each place of the head, the byte that it asks for is the one of the frame that the text claims.
use mathlib.Core.Path.{◌≡◌, refl}
use native.Mathlib.Omega.{arith}
use Rattle.frame.specs.Frame.{rendered}
use Rattle.frame_reader.proofs.Head.{at_place, at_length, at_kind, last_place}
use Rattle.frame_reader.proofs.right.Goals as goal

pub overflow_cast-result : goal.overflow_cast-result
overflow_cast-result c = omega (arith, c.type_inv.text c.args.at)

pub says_flags-requires-in_default : goal.says_flags-requires-in_default
says_flags-requires-in_default c =
    let r = c.in_default.in_default-own.rest in
    let e : c.args.at ≡ 7
    = last_place c.args.at c.requires.0 r.0.0.0.0.0.0.1 r.0.0.0.0.0.1 r.0.0.0.0.1 r.0.0.0.1 r.0.0.1 r.0.1 r.1 in
    (omega (arith, c.requires.1.0), c.requires.1.1.1)

pub returns-in-0 : goal.returns-in-0
unfolding rendered
returns-in-0 c =
    at_place c.args.size c.args.text.now 0 0x02 c.in-0.is c.requires.0 c.requires.1.0 c.requires.1.1.0 refl

pub returns-in-1 : goal.returns-in-1
unfolding rendered
returns-in-1 c =
    at_place c.args.size c.args.text.now 1 0x01 c.in-1.is c.requires.0 c.requires.1.0 c.requires.1.1.0 refl

pub returns-in-2 : goal.returns-in-2
unfolding rendered
returns-in-2 c =
    at_place c.args.size c.args.text.now 2 0x06 c.in-2.is c.requires.0 c.requires.1.0 c.requires.1.1.0 refl

pub returns-in-3 : goal.returns-in-3
returns-in-3 c =
    rw c.says_flags.ensures
    (at_length c.args.size c.args.text.now c.in-3.is c.requires.0 c.requires.1.0 c.requires.1.1.0)

pub returns-in-4 : goal.returns-in-4
unfolding rendered
returns-in-4 c =
    at_place c.args.size c.args.text.now 4 0x16 c.in-4.is c.requires.0 c.requires.1.0 c.requires.1.1.0 refl

pub returns-in-5 : goal.returns-in-5
unfolding rendered
returns-in-5 c =
    at_place c.args.size c.args.text.now 5 0xAA c.in-5.is c.requires.0 c.requires.1.0 c.requires.1.1.0 refl

pub returns-in-6 : goal.returns-in-6
unfolding rendered
returns-in-6 c =
    at_place c.args.size c.args.text.now 6 0xFE c.in-6.is c.requires.0 c.requires.1.0 c.requires.1.1.0 refl

pub returns-in_default : goal.returns-in_default
returns-in_default c =
    let r = c.in_default.in_default-own.rest in
    let e : c.args.at ≡ 7
    = last_place c.args.at c.requires.0 r.0.0.0.0.0.0.1 r.0.0.0.0.0.1 r.0.0.0.0.1 r.0.0.0.1 r.0.0.1 r.0.1 r.1 in
    rw c.says_flags-in_default.ensures
    (at_kind c.args.size c.args.text.now e c.requires.0 c.requires.1.0 c.requires.1.1.0)
