-- A message that is handed in as parts: the bytes that it has.
use Rattle.std.specs.Prelude.{ℕ, List, ◌++◌}
use Rattle.padding.specs.declared.parts.Message.{Message}

-- its parts, one after another
abbrev pub bytes_of : Message → List ℕ
bytes_of m = m.first.now ++ (m.head.now ++ (m.tail.now ++ m.last.now))
