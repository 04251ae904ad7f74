-- Every account key that a unit holds after a history of bytes is sixteen bytes: the table of keys has only bytes in it, since a key comes in
-- only by a call that is lent bytes; and a well-formed unit's keys are sixteen each.
use Prim.Native.Nat.{ℕ, zero, suc, ◌+◌, ◌*◌, ◌<◌}
use mathlib.Core.Path.{◌≡◌, sym, ap, ◌∙◌}
use mathlib.Core.Bool.{true}
use mathlib.Core.List.{List, [], ◌∷◌}
use mathlib.Core.Option.{some}
use native.Mathlib.Omega.{arith}
use lib.ListN.{length, get_or, take, drop, replicate}
use borrow.Author.Tests.{ltb-true}
use Rattle.std.specs.Prelude.{Some, None}
use Rattle.sizes.specs.Sizes.{account_key_size}
use Rattle.tables.specs.Rows.{place_of}
use Rattle.tables.proofs.Rows.{row_at}
use Rattle.unit.specs.declared.TagUnit.{TagUnit}
use Rattle.unit.specs.declared.Settings.{Settings}
use Rattle.unit.specs.declared.Accounts.{Accounts}
use Rattle.unit.specs.Types.{Owner}
use Rattle.unit.specs.WellFormed.{well_formed, held_keys, row_of, owner_key, owner_legal, place_legal}
use Rattle.unit.specs.Change.{fresh}
use Rattle.unit.specs.Outcome.{Outcome}
use Rattle.unit.proofs.Lines.{lines, AccountsLines, key_length_lem, held_count}
use Rattle.account_keys.specs.Order.{place_for}
use Rattle.clearing.specs.Clearing.{cleared}
use Rattle.nonces.specs.Nonces.{nonce_fits}
use Rattle.read_call.specs.Read.{issuing}
use Rattle.tag.specs.Calls.{Written, own, Act}
use Rattle.demanded_answers.specs.History.{step, after, Bytes, OfBytes, AllOfBytes}
use Rattle.demanded_answers.proofs.Guards.{own_of, met, Met, barred, passed}
use Rattle.demanded_refusals.proofs.OfBytes.{bytes_take, bytes_drop, bytes_cons, bytes_append}
use Rattle.demanded_nonces.proofs.WritesOnKeys.{uses_bytes, choose, set, clear, recovered, used, other, Ended, unreached, turned, served, ends_written}
use Rattle.demanded_refusals.proofs.KeyUses.{first_bytes_lem, owner_bytes}
use Rattle.demanded_nonces.proofs.OtherCalls.{Sorted, a_read, a_write, a_key, a_disconnect, aside, sorted, Keeping, unfit, again, more, keeps, Disconnecting, nothing_in, key_in, disconnects}

-- a key of sixteen bytes
pub record Sixteen (key : List ℕ) : Type 0 where
  pub long : length key ≡ account_key_size
  pub bytes : Bytes key

-- The table has only bytes in it
abbrev Filled : TagUnit → Type 0
Filled u = Bytes u.accounts.keys

zeros : (n : ℕ) → Bytes (replicate n 0)
zeros zero i = omega arith
zeros (suc n) i = bytes_cons 0 (replicate n 0) (omega arith) (zeros n) i

keeping_filled : {key : List ℕ} {u : TagUnit} {o : Outcome} → Keeping key u o → Bytes key → Filled u → Filled o.unit
keeping_filled unfit b s = s
keeping_filled (again a) b s = s
keeping_filled {key} {u} (more n new) b s = first_bytes_lem (place_for u.accounts) key u.accounts.keys b s

read_filled : (nonce : List ℕ) (u : TagUnit) → Filled u → Filled (issuing nonce u).unit
unfolding issuing
read_filled nonce u s = choose (λ (o : Outcome). Filled o.unit) (nonce_fits u.nonces nonce) (λ e. s) (λ e. s)

written_filled : {u : TagUnit} {w : Written} {o : Outcome} → Ended u w o → Filled u → Filled o.unit
unfolding cleared
written_filled (unreached n out) s = s
written_filled (turned n) s = s
written_filled {u} (served sh l (set key e o)) s = first_bytes_lem (place_of key (held_keys u.accounts)) key u.accounts.keys (owner_bytes u.accounts key o s) s
written_filled (served sh l (clear e)) s = zeros 160
written_filled (served sh l (recovered key e o)) s = s
written_filled (served sh l (used k a)) s = uses_bytes a s
written_filled (served sh l (other k a)) s = rw a.accounts s

disconnected_filled : {u v : TagUnit} → Disconnecting u v → Filled u → Filled v
disconnected_filled (nothing_in none) s = s
disconnected_filled (key_in held) s = s

own_filled : {a : Act} → Sorted a → (u : TagUnit) → OfBytes a → Filled u → Filled (own_of a u).unit
unfolding own
own_filled (a_read {nonce}) u b s = read_filled nonce u s
own_filled (a_write {w}) u b s = written_filled (ends_written u w) s
own_filled (a_key {key}) u b s = keeping_filled (keeps key u) b s
own_filled a_disconnect u b s = disconnected_filled (disconnects u) s
own_filled (aside k leaves) u b s = rw (leaves u).accounts s

step_filled : (a : Act) (u : TagUnit) → OfBytes a → Filled u → Filled (step a u).unit
step_filled a u b s = go (met a u)
  where
    go : Met a u → Filled (step a u).unit
    go (barred n e bars) = rw e s
    go (passed fits formed e) = rw e (own_filled (sorted a) u b s)

history_filled : (h : List Act) (u : TagUnit) → AllOfBytes h → Filled u → Filled (after h u)
unfolding after
history_filled [] u b s = s
history_filled (a ∷ h) u b s = history_filled h (step a u).unit b.1 (step_filled a u b.0 s)

-- The owner's key of a well-formed unit whose table has only bytes in it
row_sixteen : (o : Owner) (a : Accounts) → AccountsLines a → Bytes a.keys → place_legal o a.count ≡ true → (key : List ℕ)
    → row_of o (held_keys a) ≡ some key → Sixteen key
unfolding held_keys
row_sixteen None a l b legal key e = let z : ◌≡◌ {A = ℕ} 0 1 = cc in absurd (omega arith)
row_sixteen (Some p) a l b legal key e =
    let below : p < a.count = ltb-true p a.count legal in
    let is : get_or (held_keys a) p [] ≡ key = cc in
    let row = row_at account_key_size a.count a.keys p below in
    record {
      long = ap length (sym is) ∙ key_length_lem a p l (omega (arith, held_count a));
      bytes = rw (sym is ∙ row) (bytes_take account_key_size (drop (p * account_key_size) a.keys) (bytes_drop (p * account_key_size) a.keys b));
    }

pub owner_sixteen : (s : Settings) (h : List Act) → AllOfBytes h → well_formed (after h (fresh s)) ≡ true → (key : List ℕ)
    → owner_key (after h (fresh s)).accounts ≡ some key → Sixteen key
unfolding owner_key owner_legal
owner_sixteen s h b w key e =
    let u = after h (fresh s) in
    row_sixteen u.accounts.owner u.accounts (lines u w).accounts (history_filled h (fresh s) b (zeros 160)) (lines u w).owner key e
