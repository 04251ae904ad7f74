-- `press_call::pressed` meets its contract, silent and ringing.
use Prim.Native.Nat.{ℕ}
use mathlib.Core.Path.{◌≡◌, refl}
use mathlib.Core.List.{[]}
use Rattle.unit.specs.declared.TagUnit.{TagUnit}
use Rattle.unit.specs.declared.Sound.{Sound}
use Rattle.unit.specs.Change.{with_consent, silenced}
use Rattle.sizes.specs.Sizes.{full_consent}
use Rattle.unit.specs.Outcome.{giving}
use Rattle.wire.specs.Signing.{stop_notice, by_button}
use Rattle.press_call.specs.Press.{pressed}
use Rattle.unit.proofs.Ends.{done_answers, wrote_answers}
use Rattle.press_call.proofs.pressed.Goals as goal

while_silent : (u : TagUnit) → u.sound ≡ Sound.Silent → pressed u.sound u ≡ giving [] (with_consent full_consent u)
unfolding pressed
while_silent u e = rw e

while_ringing : (u : TagUnit) {mask volume left : ℕ} → u.sound ≡ Sound.Ringing mask volume left
    → pressed u.sound u ≡ giving (stop_notice u.identity.bytes u.ring_nonce by_button) (silenced u)
unfolding pressed
while_ringing u e = rw e

pub returns-in-Silent : goal.returns-in-Silent
returns-in-Silent c = rw (while_silent c.args.u c.in-Silent.is) (done_answers c.accept.ensures refl refl)

pub returns-in-Ringing : goal.returns-in-Ringing
returns-in-Ringing c =
    rw (while_ringing c.args.u c.in-Ringing.is)
    (wrote_answers (rw c.silenced.ensures at c.accept-in-Ringing.ensures) c.stop_notice-count.ensures)
