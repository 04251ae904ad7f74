-- What a search that found a place or a key, or none, says of the row that was looked for, and what the trial of a key says.
use Prim.Native.Nat.{ℕ, ◌<◌}
use mathlib.Core.Path.{◌≡◌, sym, ap, ◌∙◌, subst}
use mathlib.Core.Bool.{Bool, true, false}
use mathlib.Core.List.{List, []}
use mathlib.Core.Logic.{◌⊎◌, inl, inr}
use mathlib.Core.Option.{Option, some, none}
use native.Mathlib.Omega.{arith}
use lib.ListN.{length, get_or}
use Rattle.std.specs.Prelude.{Some, None}
use Rattle.std.specs.Prelude.{Option as Perhaps}
use Rattle.laws.proofs.Flags.{true_or_false, granted, refuted}
use Rattle.primitives.specs.Standards.{keyed_by}
use Rattle.hmac.specs.declared.Keyed.{Keyed}
use Rattle.authentication.specs.declared.Signer.{Signer}
use Rattle.authentication.specs.Promises.{Found, Within, Finds, Tries, Identified, place_in, ReadyFrom, Identifies}

module _ {row : Option (List ℕ)} {l : List (List ℕ)} {f : Found} (finds : Finds row l f) where
  pub found_row : {place : ℕ} → f ≡ Some place → row ≡ some (get_or l place [])
  found_row e = rw e at finds.row_is

  pub found_below : {place : ℕ} → f ≡ Some place → place < length l
  found_below e = subst (λ (g : Found). Within g (length l)) e finds.within

  pub found_none : f ≡ None → row ≡ none
  found_none e = rw e at finds.row_is

module _ {row : Option (List ℕ)} {l : List (List ℕ)} {s : Identified} (is : Identifies row l s) where
  pub signer_row : {signer : Signer} → s ≡ Some signer → row ≡ some (get_or l signer.place [])
  signer_row e = found_row is.finds (ap place_in e)

  pub signer_below : {signer : Signer} → s ≡ Some signer → signer.place < length l
  signer_below e = found_below is.finds (ap place_in e)

  pub signer_key : {signer : Signer} → s ≡ Some signer → signer.key ≡ keyed_by (get_or l signer.place [])
  signer_key e = subst (λ (t : Identified). ReadyFrom l t) e is.ready_from

  pub signer_none : s ≡ None → row ≡ none
  signer_none e = found_none is.finds (ap place_in e)

-- a key that was tried signed the request, and is made ready; or it did not
module _ {key : List ℕ} {signs : Bool} {k : Perhaps Keyed} (t : Tries key signs k) where
  pub tried_signs : {made : Keyed} → k ≡ Some made → (signs ≡ true) × (made ≡ keyed_by key)
  tried_signs {made} e = go (true_or_false signs)
    where
      go : (signs ≡ true) ⊎ (signs ≡ false) → (signs ≡ true) × (made ≡ keyed_by key)
      go (inl signed) = let is : ◌≡◌ {A = Perhaps Keyed} (Some made) (Some (keyed_by key)) = sym e ∙ (rw signed at t.made_is) in (signed, cc)
      go (inr unsigned) = let is : ◌≡◌ {A = Perhaps Keyed} (Some made) None = sym e ∙ (rw unsigned at t.made_is) in cc

  pub tried_fails : k ≡ None → signs ≡ false
  tried_fails e = go (true_or_false signs)
    where
      go : (signs ≡ true) ⊎ (signs ≡ false) → signs ≡ false
      go (inl signed) = let is : ◌≡◌ {A = Perhaps Keyed} None (Some (keyed_by key)) = sym e ∙ (rw signed at t.made_is) in cc
      go (inr unsigned) = unsigned

-- how the trial of a key keeps its promise, by the test of its tag
module _ {key : List ℕ} {signs tagged : Bool} (is : tagged ≡ signs) where
  pub signed_made : {made : Keyed} → tagged ≡ true → made ≡ keyed_by key → Tries key signs (Some made)
  signed_made holds made_so = record { made_is = rw (granted is holds) (ap Some made_so) }

  pub unsigned_none : tagged ≡ false → Tries key signs None
  unsigned_none fails_so = record { made_is = rw (refuted is fails_so) }
