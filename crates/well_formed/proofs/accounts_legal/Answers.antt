-- `well_formed::accounts_legal` meets its contract: each test is one of the accounts' lines.
use mathlib.Core.Path.{◌≡◌, sym, ap, ◌∙◌}
use mathlib.Core.List.{List}
use Prim.Native.Nat.{ℕ, ◌*◌, ◌-◌}
use native.Mathlib.Omega.{arith}
use lib.ListN.{length, drop, length-drop}
use lib.Seq.{take_all}
use Rattle.laws.specs.Bytes.{all_zero}
use Rattle.laws.proofs.Flags.{granted, refuted, fails, agree, clash}
use Rattle.sizes.specs.Sizes.{account_key_size, keys_room}
use Rattle.unit.specs.WellFormed.{held_keys}
use Rattle.unit.proofs.Lines.{accounts_lines, accounts_legal_lem}
use borrow.Author.Rules.{rules}
use Rattle.well_formed.proofs.accounts_legal.Goals as goal

pub returns-then-a-gt-MOST_KEYS : goal.returns-then-a-gt-MOST_KEYS
returns-then-a-gt-MOST_KEYS c = sym (fails _ (λ e. omega (arith, (accounts_lines c.args.a e).count)))

pub distinct-requires : goal.distinct-requires
distinct-requires c =
    let long : length c.args.a.keys ≡ keys_room = search rules in
    omega arith

pub returns-else-distinct : goal.returns-else-distinct
unfolding held_keys
returns-else-distinct c =
    let a = c.args.a in
    rw c.if-distinct.false (sym (fails _ (λ e. clash (accounts_lines a e).different (refuted c.distinct.ensures c.if-distinct.false))))

pub slice_bounds-all_zero-count : goal.slice_bounds-all_zero-count
slice_bounds-all_zero-count c =
    let long : length c.args.a.keys ≡ keys_room = search rules in
    omega arith

pub returns-then-distinct : goal.returns-then-distinct
unfolding held_keys
returns-then-distinct c =
    let a = c.args.a in
    let long : length a.keys ≡ keys_room = search rules in
    let spare : List ℕ = drop (a.count * account_key_size) a.keys in
    let all : length spare ≡ keys_room - a.count * account_key_size = omega (arith, length-drop (a.count * account_key_size) a.keys) in
    let different = granted c.distinct.ensures c.if-distinct.true in
    c.all_zero.ensures
    ∙ ap all_zero (take_all (keys_room - a.count * account_key_size) spare (omega arith))
    ∙ agree _ _
    (λ e. accounts_legal_lem a (record { room = long; count = omega arith; different = different; spare = e }))
    (λ e. (accounts_lines a e).spare)
