-- `account_keys::key_first` meets its contract: the keys before the place are put behind the first, and the key over it.
use mathlib.Core.Path.{◌≡◌, sym, ap, ◌∙◌}
use mathlib.Core.List.{List, ◌++◌}
use Prim.Native.Nat.{ℕ, suc, ◌+◌, ◌*◌, ◌≤◌, ◌<◌}
use native.Mathlib.Omega.{arith}
use lib.ListN.{length, take, drop}
use lib.Seq.{length-take-le, drop_at}
use Rattle.sizes.specs.Sizes.{account_key_size, most_keys, keys_room}
use Rattle.octets.specs.Put.{pasted}
use Rattle.account_keys.specs.Order.{key_first}
use borrow.Author.Rules.{rules}
use Rattle.account_keys.proofs.key_first.Goals as goal

put_over : (place : ℕ) (key keys once twice : List ℕ) → length keys ≡ keys_room → length key ≡ account_key_size → place < most_keys
    → once ≡ pasted keys account_key_size (take (place * account_key_size) keys) → twice ≡ pasted once 0 key → twice ≡ key_first place key keys
put_over place key keys once twice long sized below first second =
    let most : place * account_key_size ≤ length keys = omega arith in
    let moved = length-take-le (place * account_key_size) keys most in
    let front = length-take-le account_key_size keys (omega arith) in
    let behind : account_key_size + length (take (place * account_key_size) keys) ≡ suc place * account_key_size = omega (arith, moved) in
    let over : 0 + length key ≡ account_key_size = omega arith in
    second
    ∙ ap (λ (n : ℕ). key ++ drop n once) over
    ∙ ap (λ (l : List ℕ). key ++ drop account_key_size l) first
    ∙ ap (λ (l : List ℕ). key ++ l) (drop_at (take account_key_size keys) _ account_key_size front)
    ∙ ap (λ (n : ℕ). key ++ (take (place * account_key_size) keys ++ drop n keys)) behind

pub slice_bounds-put-end-2 : goal.slice_bounds-put-end-2
slice_bounds-put-end-2 c =
    let long : length c.args.keys ≡ keys_room = search rules in
    sym (length-take-le (c.args.place * account_key_size) c.args.keys (omega (arith, c.requires)))

pub put-requires : goal.put-requires
put-requires c =
    let long : length c.args.keys ≡ keys_room = search rules in
    omega (arith, length-take-le (c.args.place * account_key_size) c.args.keys (omega (arith, c.requires)), c.requires)

pub returns : goal.returns
returns c =
    let place = c.args.place in
    let keys = c.args.keys in
    let key = c.args.key in
    let long : length keys ≡ keys_room = search rules in
    let sized : length key ≡ account_key_size = search rules in
    put_over place key keys c.put.new.to c.put-2.new.to long sized c.requires c.put.ensures c.put-2.ensures
