-- How a handler keeps its promise: it denied, or it granted to a key, and the request was judged so. And how a ruling is concluded: the
-- unit and the lent bytes are left alone, or the answer is written.
use Prim.Native.Nat.{ℕ}
use mathlib.Core.Path.{◌≡◌, refl, sym, ap, ◌∙◌, subst}
use mathlib.Core.List.{List}
use Rattle.std.specs.Prelude.{Option as Perhaps, Some, None, Result, Ok, Err, ok_or, IsErr, IsErrAnd}
use Rattle.laws.specs.Answer.{lent_after, Wrote}
use Rattle.wire.specs.Signing.{signed}
use Rattle.primitives.specs.Standards.{keyed_by}
use Rattle.hmac.specs.declared.Keyed.{Keyed}
use Rattle.unit.specs.Outcome.{Answers}
use Rattle.unit.specs.Refusals.{refusal_number, end_of, wrote}
use Rattle.unit.specs.declared.TagUnit.{TagUnit}
use Rattle.unit.specs.declared.Step.{Step}
use Rattle.unit.specs.declared.Refusal.{Refusal}
use Rattle.authentication.specs.declared.Verdict.{Verdict}
use Rattle.authentication.specs.Judgement.{Judgement, accepts, rejects, last_nonce, concluded}
use Rattle.authentication.specs.Promises.{Ruling, Accepts, Rules, Judges, Grants}

-- what `ok_or` makes of a search: what was found, or the refusal; and what `?` makes of the refusal
found_of : {A : Type 0} (f : Perhaps A) (x : Refusal) (a : A) → ok_or f x ≡ Ok a → f ≡ Some a
found_of (Some b) x a e = cc
found_of None x a e = cc

none_of : {A : Type 0} (f : Perhaps A) (x e : Refusal) → ok_or f x ≡ Err e → (f ≡ None) × (e ≡ x)
none_of (Some b) x e is = cc
none_of None x e is = (refl, cc)

refused_as : (r : Ruling) (e : Refusal) → IsErrAnd r (λ y. y ≡ e) → r ≡ Err e
refused_as (Ok v) e is = absurd is
refused_as (Err y) e is = ap Err is

module _ {A : Type 0} (f : Perhaps A) (x : Refusal) {o : Result A Refusal} (asked : o ≡ ok_or f x) where
  pub asked_found : {a : A} → o ≡ Ok a → f ≡ Some a
  asked_found {a} e = found_of f x a (sym asked ∙ e)

  asked_none : {e : Refusal} → o ≡ Err e → (f ≡ None) × (e ≡ x)
  asked_none {e} is = none_of f x e (sym asked ∙ is)

module _ (u : TagUnit) (id : ℕ) {j : Judgement} where
  -- denied where a search found nothing
  pub unfound : {A : Type 0} (f : Perhaps A) (x : Refusal) {o : Result A Refusal} {e : Refusal} {r : Ruling} → o ≡ ok_or f x → o ≡ Err e
      → IsErr r × IsErrAnd r (λ y. y ≡ e) → (f ≡ None → j ≡ rejects (refusal_number x)) → Judges u id j r
  unfound f x {e = e} {r = r} asked is back nowhere =
      let (none-there, same) = asked_none f x asked is in
      rw (refused_as r e back.1 ∙ ap Err same) (record { judged_so = nowhere none-there })

  pub denial : (x : Refusal) → j ≡ rejects (refusal_number x) → Judges u id j (Err x)
  denial x is = record { judged_so = is }

  pub grant : {v : Verdict} {after : TagUnit} (key : List ℕ) {k : Keyed} {payload : List ℕ} → k ≡ keyed_by key → Grants after k payload v
      → j ≡ accepts after (signed key (last_nonce u) id payload) → Judges u id j (Ok v)
  grant {v} {after} key made g is =
      record {
        judged_so =
            record {
              key = key;
              key_is = g.key_is ∙ made;
              accepts_so = rw g.unit_is (is ∙ ap (λ (d : List ℕ). accepts after (signed key (last_nonce u) id d)) (sym g.data_are));
            };
      }

-- judged as another judgement says, with the answer's ID under another name
pub judged_with : {u : TagUnit} {id other : ℕ} {j k : Judgement} {r : Ruling} → id ≡ other → j ≡ k → Judges u other k r → Judges u id j r
judged_with i e p = rw (i, e) p

-- what a ruling says of the judgement
module _ {u : TagUnit} {id : ℕ} {j : Judgement} {r : Ruling} (p : Judges u id j r) where
  pub denied_so : {x : Refusal} → r ≡ Err x → j ≡ rejects (refusal_number x)
  denied_so e = subst (λ (s : Ruling). Rules u id j s) e p.judged_so

  pub granted_so : {v : Verdict} → r ≡ Ok v → Accepts u id j v
  granted_so e = subst (λ (s : Ruling). Rules u id j s) e p.judged_so

-- The end of a judgement
module _ (u : TagUnit) (j : Judgement) (r : Step) where
  pub refusal : (x : Refusal) (lent : List ℕ) → (r.unit ≡ u) × (r.reply ≡ Err x) → j ≡ rejects (refusal_number x)
      → Answers (concluded u j) r.unit r.reply lent lent
  unfolding lent_after
  refusal x lent ends is = rw is (record { unit_is = ends.0; end_is = ap end_of ends.1; bytes_are = refl })

  pub acceptance : {next : TagUnit} {answer before after : List ℕ} {count : ℕ} → (r.unit ≡ next) × (r.reply ≡ Ok count)
      → Wrote answer count before after → j ≡ accepts next answer → Answers (concluded u j) r.unit r.reply before after
  acceptance ends w is =
      rw is (record { unit_is = ends.0; end_is = ap end_of ends.1 ∙ ap wrote w.count_is; bytes_are = w.bytes_are })
