-- `sound::put` meets its contract, a case of the sound each.
use mathlib.Core.Path.{◌≡◌}
use Rattle.unit.specs.declared.Sound.{Sound}
use Rattle.record_fields.specs.Part.{bytes_of}
use Rattle.record_parts.specs.Groups.{sound_fields}
use Rattle.record_parts.proofs.sound.put.Goals as goal

pub returns-in-Silent : goal.returns-in-Silent
unfolding bytes_of sound_fields
returns-in-Silent c =
    let is : c.args.s ≡ Sound.Silent = cc in
    rw is c.put_fields.ensures

pub returns-in-Ringing : goal.returns-in-Ringing
unfolding bytes_of sound_fields
returns-in-Ringing c =
    rw c.in-Ringing.is c.put_fields-in-Ringing.ensures
