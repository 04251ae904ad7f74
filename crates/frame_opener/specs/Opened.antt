-- What the answer of the reader with r stands for, with the paper's number of each refusal.
use Rattle.std.specs.Prelude.{ℕ, Result, Ok, Err}
use Rattle.frame_reader.specs.declared.WrongByte.{WrongByte}
use Rattle.frame_reader.specs.Reader.{Parts, Reading, reads, refused, wrong_byte}
use Rattle.frame_reader.specs.Scanned.{parts_of}
use Rattle.frame_opener.specs.declared.Opened as code
use Rattle.frame_opener.specs.declared.NotOpened.{NotOpened}
use Rattle.frame_opener.specs.Opener.{Opened, wrong_size}

abbrev pub refusal_of : NotOpened → Reading Opened
refusal_of (NotOpened.WrongByte place) = refused wrong_byte place
refusal_of NotOpened.WrongSize = refused wrong_size 0

abbrev pub opening_of : Result code.Opened NotOpened → Reading Opened
opening_of (Ok o) = reads (record { parts = parts_of o.frame; battery = o.battery })
opening_of (Err e) = refusal_of e

-- What an inner function promises; no promise of a public call cites it: the battery level of a frame with these parts
abbrev pub battery_as : Parts → Result ℕ WrongByte → Reading Opened
battery_as p (Ok battery) = reads (record { parts = p; battery = battery })
battery_as p (Err w) = refused wrong_byte w.at
