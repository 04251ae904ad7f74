-- What an account key and the end of a connection do on a unit that passed the guards: their own refusals, and what becomes of the unit.
use Rattle.std.specs.Prelude.{ℕ, cond, not, List, [], eqb, length}
use Rattle.sizes.specs.Sizes.{account_key_size}
use Rattle.tables.specs.Rows.{among}
use Rattle.account_keys.specs.Order.{key_added}
use Rattle.unit.specs.declared.TagUnit.{TagUnit}
use Rattle.unit.specs.WellFormed.{held_keys}
use Rattle.unit.specs.Change.{silenced, with_accounts, with_identity, with_waiting, no_identity}
use Rattle.unit.specs.Outcome.{Outcome, giving, refusing}

-- "Refusal 4 then remains only for a wrong size"; "Adding a key already held succeeds and changes nothing, even when full"; a new one "counts as use"
unfoldable pub keeping : List ℕ → TagUnit → Outcome
keeping key u =
    cond (not (eqb (length key) account_key_size)) (refusing 4 u)
    (cond (among key (held_keys u.accounts)) (giving [] u) (giving [] (with_accounts (key_added key u.accounts) u)))

-- Disconnect: by source document 004 the new key "takes effect right after the connection ends"; "Sound ends .. at a disconnect that brings a
-- waiting key in, no longer at the write; any other disconnect changes nothing"
abbrev pub brought_in : TagUnit → TagUnit
brought_in u = with_waiting no_identity (with_identity u.waiting (silenced u))

unfoldable pub disconnected : TagUnit → Outcome
disconnected u = giving [] (cond u.waiting.held (brought_in u) u)
