-- The judgement of 0x02, from what its handler tests: a key that was found, a proof that holds.
use Prim.Native.Nat.{ℕ, ◌-◌}
use mathlib.Core.Path.{◌≡◌, ap, ◌∙◌}
use mathlib.Core.Bool.{Bool, true, false, not}
use mathlib.Core.List.{List, []}
use mathlib.Core.Option.{some, none}
use native.Mathlib.Omega.{arith}
use lib.ListN.{length, take, drop, length-drop}
use lib.Seq.{take_all}
use borrow.Author.Tests.{eq-eqb, ne_eqb}
use Rattle.sizes.specs.Sizes.{identity_key_size}
use Rattle.wire.specs.Shape.{Request, proven_size}
use Rattle.key_blocks.specs.KeyBlocks.{decrypted_key}
use Rattle.unit.specs.Change.{with_accounts}
use Rattle.unit.specs.declared.TagUnit.{TagUnit}
use Rattle.unit.specs.declared.Accounts.{Accounts}
use Rattle.authentication.specs.Judgement.{accepts, not_authenticated, proves, answered, signed_by_owner}
use Rattle.account_keys.specs.Order.{key_used}
use Rattle.provisioning.specs.Provisioning.{may_replace, awaiting, set_key}

-- Whether 0x02 may set the key
module _ (u : TagUnit) (q : Request) where
  pub replace_proved : {r : Bool} → q.size ≡ proven_size → u.identity.held ≡ true
      → r ≡ proves u (take (length q.additional - identity_key_size) (drop identity_key_size q.additional)) → r ≡ may_replace u q
  unfolding may_replace
  replace_proved e h is =
      rw (eq-eqb q.size proven_size e, h)
      (is
      ∙ ap (λ (l : List ℕ). proves u l)
      (take_all (length q.additional - identity_key_size) (drop identity_key_size q.additional) (omega (arith, length-drop identity_key_size q.additional))))

  pub replace_none : q.size ≡ proven_size → u.identity.held ≡ false → may_replace u q ≡ false
  unfolding may_replace
  replace_none e h = rw (eq-eqb q.size proven_size e, h)

  pub replace_first : (q.size ≡ proven_size → ⊥) → may_replace u q ≡ not u.identity.held
  unfolding may_replace
  replace_first e = rw (ne_eqb q.size proven_size e)

module _ (u : TagUnit) (q : Request) where
  pub set_nowhere : signed_by_owner u q ≡ none → set_key u q ≡ not_authenticated
  unfolding set_key
  set_nowhere e = rw e

  pub set_unproved : {key : List ℕ} → signed_by_owner u q ≡ some key → may_replace u q ≡ false → set_key u q ≡ not_authenticated
  unfolding set_key
  set_unproved e p = rw (e, p)

  pub key_set : {key used identity : List ℕ} {after : TagUnit} {keys : Accounts} → signed_by_owner u q ≡ some used → key ≡ used → may_replace u q ≡ true
      → identity ≡ decrypted_key key q.additional → after ≡ awaiting identity u → keys ≡ key_used used u.accounts
      → set_key u q ≡ accepts (with_accounts keys after) (answered used u q [])
  unfolding set_key
  key_set e k p d a s = rw (e, p, a, s, d, k)
