-- From a line of the code to what it stands for.
use Prim.Native.Nat.{ℕ}
use mathlib.Core.Path.{◌≡◌}
use mathlib.Core.List.{List, []}
use native.Mathlib.Omega.{arith}
use Rattle.std.specs.Prelude.{Option, None, Some}
use Rattle.lines.specs.declared.Awaited as code
use Rattle.lines.specs.declared.Next.{Next}
use Rattle.lines.specs.declared.Line as lines
use Rattle.lines.specs.declared.Told.{Told}
use Rattle.lines.specs.Lines.{Line, held, taken}
use Rattle.lines.specs.Promises.{awaiting, expecting, Means, Says}

-- a line that is whole by itself, or none
pub says_plain : {l : Line} {line : lines.Line} → Means l (Some line) → {t : Told} {into : List ℕ} → t ≡ record { line = line; number = 0; count = 0 }
    → Says (λ p c kept. l) (Some t) into
says_plain m same = rw same (record { line_is = λ p c kept. m.line_is p c kept 0 []; within_room = omega arith })

pub says_none : {l : Line} → Means l None → {t : Option Told} {into : List ℕ} → t ≡ None → Says (λ p c kept. l) t into
says_none m same = rw same (record { line_is = λ p c kept. m.line_is p c kept 0 []; within_room = omega arith })

-- what was expected there
pub says_at : {next known : Next} (l : List ℕ) → next ≡ known → {t : Option Told} {into : List ℕ}
    → Says (λ p c kept. taken (expecting known p c kept) l) t into → Says (λ p c kept. taken (expecting next p c kept) l) t into
says_at l e s = rw e s

pub says_of : {a known : code.Awaited} (l : List ℕ) → a ≡ known → {t : Option Told} {into : List ℕ}
    → Says (λ p c kept. held (awaiting known p c kept) l) t into → Says (λ p c kept. held (awaiting a p c kept) l) t into
says_of l e s = rw e s
