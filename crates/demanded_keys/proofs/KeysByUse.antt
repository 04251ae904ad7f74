-- The account keys by the history's calls. Each act is one of these: a new key comes, an accepted 0x00 or 0x01 uses the first key whose tag it
-- carries, an accepted 0x02 the owner's, an accepted 0x03 leaves none, and every other leaves the table alone.
use Prim.Native.Nat.{ℕ, ◌≤◌}
use mathlib.Core.Path.{◌≡◌, refl, sym, ap, subst, ◌∙◌}
use mathlib.Core.Bool.{true, false}
use mathlib.Core.List.{List, [], ◌∷◌, ◌++◌, append-nil, append_assoc}
use mathlib.Core.Option.{Option, some, none}
use native.Mathlib.Omega.{arith}
use lib.ListN.{length, get_or}
use Rattle.std.specs.Prelude.{Some, None}
use Rattle.laws.proofs.Flags.{clash}
use Rattle.laws.proofs.Same.{same_equal, equal_same, same_differ, differ_same}
use Rattle.tables.specs.Rows.{among, distinct, rows}
use Rattle.tables.proofs.Rows.{among_place}
use Rattle.wire.specs.Signing.{request_tag}
use Rattle.wire.specs.Shape.{parsed}
use Rattle.unit.specs.declared.TagUnit.{TagUnit}
use Rattle.unit.specs.declared.Settings.{Settings}
use Rattle.unit.specs.declared.Accounts.{Accounts}
use Rattle.unit.specs.Types.{Owner}
use Rattle.unit.specs.Change.{fresh, spent}
use Rattle.unit.specs.Outcome.{Outcome}
use Rattle.unit.specs.WellFormed.{well_formed, held_keys, row_of, owner_key}
use Rattle.unit.proofs.Lines.{lines, held_count}
use Rattle.account_keys.specs.Order.{key_used, key_added}
use Rattle.account_keys.proofs.Order.{place_found}
use Rattle.authentication.specs.Judgement.{used_key, tagged}
use Rattle.state_read.specs.State.{owned_by}
use Rattle.clearing.specs.Clearing.{cleared}
use Rattle.nonces.specs.Nonces.{nonce_fits}
use Rattle.read_call.specs.Read.{issuing}
use Rattle.tag.specs.Calls.{Written, read, write, account_key, disconnect, own, Act, calls}
use Rattle.demanded_answers.specs.History.{step, after, Succeeds}
use Rattle.demanded_nonces.specs.Among.{Accepts, accepts}
use Rattle.demanded_keys.specs.KeysByUse.{without, first_others, kept, Absent, Arrives, arrives, Matches, owner_after, ByUse, start, arrival, parameters, state, sets, clears, others, OwnerIs, Holds, KeysByUse}
use Rattle.demanded_answers.proofs.Guards.{own_of, met, Met, barred, passed, not_both}
use Rattle.demanded_nonces.proofs.WritesOnKeys.{set, clear, recovered, used, other, for_parameters, for_state, Ended, unreached, turned, served, ends_written, choose}
use Rattle.demanded_nonces.proofs.OtherCalls.{kind, Sorted, a_read, a_write, a_key, a_disconnect, aside, sorted, Keeping, unfit, again, more, keeps, Disconnecting, nothing_in, key_in, disconnects}
use Rattle.demanded_refusals.proofs.KeyUses.{used_among, owner_held_key}
use Rattle.demanded_nonces.proofs.KeyPlaces.{found_at, held_at, owned_with}
use Rattle.demanded_answers.proofs.Accepted.{first_found}
use Rattle.demanded_nonces.proofs.Histories.{one_more}
use Rattle.demanded_refusals.proofs.Formed.{formed, formed_along}
use Rattle.demanded_keys.proofs.KeptKeys.{Keeps, keeps_used, keeps_claimed, keeps_added}

-- Rows by places, and by their bytes
absent_not : (k : List ℕ) (l : List (List ℕ)) → among k l ≡ true → Absent k l → ⊥
absent_not k l h absent = let found = place_found k l h in absent (_) found.0 found.1

not_among : (k : List ℕ) (l : List (List ℕ)) → among k l ≡ false → Absent k l
not_among k l h i below e = clash (rw e at (among_place l i below)) h

-- The key that a write used is the first held one whose tag it carries
module _ (u : TagUnit) (w : List ℕ) (key : List ℕ) where
  pub used_matches : used_key (spent u) (parsed w) ≡ some key → Matches u w (held_keys u.accounts) key
  unfolding used_key tagged request_tag parsed
  used_matches e =
      let f = found_at (λ k. tagged k u.nonces.newest (parsed w)) (held_keys u.accounts) key e in
      record {
        place = f.place;
        below = f.below;
        there = f.there;
        tagged = sym (same_equal _ _ f.passes);
        earlier = λ i b t. same_differ _ _ (f.earlier i b) (sym t);
      }

  pub matches_used : Matches u w (held_keys u.accounts) key → used_key (spent u) (parsed w) ≡ some key
  unfolding used_key tagged request_tag parsed
  matches_used m =
      first_found (λ k. tagged k u.nonces.newest (parsed w)) (held_keys u.accounts) m.place m.below
      (λ j b. differ_same _ _ (λ t. m.earlier j b (sym t)))
      (rw m.there (equal_same _ _ (sym m.tagged)))
      ∙ ap some m.there

-- What an act is to the table of the unit u, and what it leaves of it
data Moves : Act → TagUnit → Accounts → Type 0 where
  stays : {a : Act} {u : TagUnit} → (Arrives (held_keys u.accounts) a u → ⊥) → ((id : ℕ) → id ≤ 0x03 → Accepts id a u → ⊥) → Moves a u u.accounts
  comes : {key : List ℕ} {room : ℕ} {u : TagUnit} → Succeeds (calls (account_key key) room) u → length key ≡ 16 → among key (held_keys u.accounts) ≡ false
      → Moves (calls (account_key key) room) u (key_added key u.accounts)
  uses : {w : Written} {room : ℕ} {u : TagUnit} (key : List ℕ) → Accepts 0x00 (calls (write w) room) u → used_key (spent u) (parsed w.bytes) ≡ some key
      → Moves (calls (write w) room) u (key_used key u.accounts)
  claims : {w : Written} {room : ℕ} {u : TagUnit} (key : List ℕ) → Accepts 0x01 (calls (write w) room) u → used_key (spent u) (parsed w.bytes) ≡ some key
      → Moves (calls (write w) room) u (key_used key (owned_by key u.accounts))
  owner_sets : {w : Written} {room : ℕ} {u : TagUnit} (key : List ℕ) → Accepts 0x02 (calls (write w) room) u → owner_key u.accounts ≡ some key
      → Moves (calls (write w) room) u (key_used key u.accounts)
  drops : {w : Written} {room : ℕ} {u : TagUnit} → Accepts 0x03 (calls (write w) room) u → Moves (calls (write w) room) u (fresh u.settings).accounts

arrives_kind : {l : List (List ℕ)} {a : Act} {u : TagUnit} → Arrives l a u → kind a ≡ 2
arrives_kind (arrives s n) = refl

accepts_kind : {id : ℕ} {a : Act} {u : TagUnit} → Accepts id a u → kind a ≡ 1
accepts_kind (accepts e s) = refl

succeeded : {id : ℕ} {a : Act} {u : TagUnit} → Accepts id a u → Succeeds a u
succeeded (accepts e s) = s

id_of : {id : ℕ} {w : Written} {room : ℕ} {u : TagUnit} → Accepts id (calls (write w) room) u → get_or w.bytes 0 0 ≡ id
id_of (accepts e s) = e

came : {l : List (List ℕ)} {a : Act} {u : TagUnit} → Arrives l a u → Succeeds a u
came (arrives s n) = s

neither : (a : Act) (u : TagUnit) → (kind a ≡ 1 → ⊥) → (kind a ≡ 2 → ⊥) → Moves a u u.accounts
neither a u w k = stays (λ r. k (arrives_kind r)) (λ id b r. w (accepts_kind r))

-- Each act
write_moves : (w : Written) (room : ℕ) (u : TagUnit) {o : Outcome} → Ended u w o → step (calls (write w) room) u ≡ o
    → Moves (calls (write w) room) u o.unit.accounts
unfolding parsed cleared
write_moves w room u (unreached n out) e =
    stays (λ (r : Arrives (held_keys u.accounts) (calls (write w) room) u). omega (arith, arrives_kind r)) (λ id b r. not_both (calls (write w) room) u e (succeeded r))
write_moves w room u (turned n) e =
    stays (λ (r : Arrives (held_keys u.accounts) (calls (write w) room) u). omega (arith, arrives_kind r)) (λ id b r. not_both (calls (write w) room) u e (succeeded r))
write_moves w room u (served {answer = a} s l (set key id o)) e = owner_sets key (accepts id (a, ap (λ (x : Outcome). x.result) e)) o
write_moves w room u (served {answer = a} s l (clear id)) e = drops (accepts id (a, ap (λ (x : Outcome). x.result) e))
write_moves w room u (served s l (recovered key id o)) e =
    stays (λ (r : Arrives (held_keys u.accounts) (calls (write w) room) u). omega (arith, arrives_kind r)) (λ i b r. omega (arith, id_of r))
write_moves w room u (served {answer = a} s l (used k (for_parameters key id f))) e = uses key (accepts id (a, ap (λ (x : Outcome). x.result) e)) f
write_moves w room u (served {answer = a} s l (used k (for_state key id f))) e = claims key (accepts id (a, ap (λ (x : Outcome). x.result) e)) f
write_moves w room u (served s l (other k alone)) e =
    rw alone.accounts
    (stays (λ (r : Arrives (held_keys u.accounts) (calls (write w) room) u). omega (arith, arrives_kind r)) (λ i b r. omega (arith, id_of r)))

key_moves : (key : List ℕ) (room : ℕ) (u : TagUnit) {o : Outcome} → Keeping key u o → step (calls (account_key key) room) u ≡ o
    → Moves (calls (account_key key) room) u o.unit.accounts
key_moves key room u unfit e =
    stays (λ r. not_both (calls (account_key key) room) u e (came r)) (λ id b (r : Accepts id (calls (account_key key) room) u). omega (arith, accepts_kind r))
key_moves key room u (again h) e =
    stays there (λ id b (r : Accepts id (calls (account_key key) room) u). omega (arith, accepts_kind r))
  where
    there : Arrives (held_keys u.accounts) (calls (account_key key) room) u → ⊥
    there (arrives s absent) = absent_not key (held_keys u.accounts) h absent
key_moves key room u (more n new) e = comes ([], ap (λ (x : Outcome). x.result) e) n new

disconnect_moves : (room : ℕ) (u : TagUnit) {v : TagUnit} → Disconnecting u v → Moves (calls disconnect room) u v.accounts
disconnect_moves room u (nothing_in absent) = neither (calls disconnect room) u (λ e. omega arith) (λ e. omega arith)
disconnect_moves room u (key_in waits) = neither (calls disconnect room) u (λ e. omega arith) (λ e. omega arith)

read_moves : (nonce : List ℕ) (room : ℕ) (u : TagUnit) → Moves (calls (read nonce) room) u (issuing nonce u).unit.accounts
unfolding issuing
read_moves nonce room u =
    let still = neither (calls (read nonce) room) u (λ e. omega arith) (λ e. omega arith) in
    choose (λ (o : Outcome). Moves (calls (read nonce) room) u o.unit.accounts) (nonce_fits u.nonces nonce) (λ e. still) (λ e. still)

own_moves : {a : Act} → Sorted a → (u : TagUnit) → step a u ≡ own_of a u → Moves a u (own_of a u).unit.accounts
unfolding own
own_moves (a_read {nonce} {room}) u e = read_moves nonce room u
own_moves (a_write {w} {room}) u e = write_moves w room u (ends_written u w) e
own_moves (a_key {key} {room}) u e = key_moves key room u (keeps key u) e
own_moves (a_disconnect {room}) u e = disconnect_moves room u (disconnects u)
own_moves (aside {a} k leaves) u e = rw (leaves u).accounts (neither a u (λ f. omega arith) (λ f. omega arith))

moves : (a : Act) (u : TagUnit) → Moves a u (step a u).unit.accounts
moves a u = go (met a u)
  where
    go : Met a u → Moves a u (step a u).unit.accounts
    go (barred n e bars) = rw e (stays (λ r. not_both a u e (came r)) (λ id b r. not_both a u e (succeeded r)))
    go (passed fits formed e) = rw e (own_moves (sorted a) u e)

-- What the next act leaves of the keys that are kept
module _ {v : TagUnit} (w : well_formed v ≡ true) {owner : Option (List ℕ)} {keys : List (List ℕ)} (s : Keeps v.accounts owner keys) where
  among_kept : {a : Act} → Arrives (kept owner keys) a v → Arrives (held_keys v.accounts) a v
  among_kept r = rw s.held r

  from_held : {a : Act} → Arrives (held_keys v.accounts) a v → Arrives (kept owner keys) a v
  from_held r = rw s.held at r

  matched : {bytes key : List ℕ} → Matches v bytes (kept owner keys) key → used_key (spent v) (parsed bytes) ≡ some key
  matched {bytes} {key} m = matches_used v bytes key (rw s.held m)

  after_arrival : {key : List ℕ} {room : ℕ} {a : Accounts} → Moves (calls (account_key key) room) v a
      → Arrives (kept owner keys) (calls (account_key key) room) v → Keeps a owner (key ∷ without key keys)
  after_arrival (stays never e) r = absurd (never (among_kept r))
  after_arrival {key} (comes g n new) r = let l = lines v w in keeps_added v.accounts l.accounts l.owner key s n new

  after_use_of : {bytes : Written} {room : ℕ} {a : Accounts} (key : List ℕ) → Moves (calls (write bytes) room) v a → Accepts 0x00 (calls (write bytes) room) v
      → Matches v bytes.bytes (kept owner keys) key → Keeps a owner (key ∷ without key keys)
  after_use_of key (stays n never) r m = absurd (never 0x00 (omega arith) r)
  after_use_of {bytes} key (uses k q e) r m =
      let l = lines v w in
      let same : k ≡ key = cc (matched m) in
      subst (λ (x : List ℕ). Keeps (key_used k v.accounts) owner (x ∷ without x keys)) same
      (keeps_used v.accounts l.accounts l.owner k s (used_among (spent v) (parsed bytes.bytes) k e))
  after_use_of key (claims k q e) r m = absurd (omega (arith, id_of q, id_of r))
  after_use_of key (owner_sets k q e) r m = absurd (omega (arith, id_of q, id_of r))
  after_use_of key (drops q) r m = absurd (omega (arith, id_of q, id_of r))

  after_claim_of : {bytes : Written} {room : ℕ} {a : Accounts} (key : List ℕ) → Moves (calls (write bytes) room) v a → Accepts 0x01 (calls (write bytes) room) v
      → Matches v bytes.bytes (kept owner keys) key → Keeps a (owner_after owner key) (key ∷ without key keys)
  after_claim_of key (stays n never) r m = absurd (never 0x01 (omega arith) r)
  after_claim_of key (uses k q e) r m = absurd (omega (arith, id_of q, id_of r))
  after_claim_of {bytes} key (claims k q e) r m =
      let l = lines v w in
      let same : k ≡ key = cc (matched m) in
      subst (λ (x : List ℕ). Keeps (key_used k (owned_by k v.accounts)) (owner_after owner x) (x ∷ without x keys)) same
      (keeps_claimed v.accounts l.accounts l.owner k s (used_among (spent v) (parsed bytes.bytes) k e))
  after_claim_of key (owner_sets k q e) r m = absurd (omega (arith, id_of q, id_of r))
  after_claim_of key (drops q) r m = absurd (omega (arith, id_of q, id_of r))

  after_set : {bytes : Written} {room : ℕ} {a : Accounts} (key : List ℕ) → owner ≡ some key → Moves (calls (write bytes) room) v a
      → Accepts 0x02 (calls (write bytes) room) v → Keeps a owner (key ∷ without key keys)
  after_set key is (stays n never) r = absurd (never 0x02 (omega arith) r)
  after_set key is (uses k q e) r = absurd (omega (arith, id_of q, id_of r))
  after_set key is (claims k q e) r = absurd (omega (arith, id_of q, id_of r))
  after_set key is (owner_sets k q e) r =
      let l = lines v w in
      let same : k ≡ key = cc s.owned in
      subst (λ (x : List ℕ). Keeps (key_used k v.accounts) owner (x ∷ without x keys)) same
      (keeps_used v.accounts l.accounts l.owner k s (owner_held_key v w k e))
  after_set key is (drops q) r = absurd (omega (arith, id_of q, id_of r))

  after_clearing : {bytes : Written} {room : ℕ} {a : Accounts} → Moves (calls (write bytes) room) v a → Accepts 0x03 (calls (write bytes) room) v → Keeps a none []
  unfolding held_keys owner_key rows first_others distinct
  after_clearing (stays n never) r = absurd (never 0x03 (omega arith) r)
  after_clearing (uses k q e) r = absurd (omega (arith, id_of q, id_of r))
  after_clearing (claims k q e) r = absurd (omega (arith, id_of q, id_of r))
  after_clearing (owner_sets k q e) r = absurd (omega (arith, id_of q, id_of r))
  after_clearing (drops q) r = record { held = refl; owned = refl; once = refl }

  after_other : {act : Act} {a : Accounts} → Moves act v a → (Arrives (kept owner keys) act v → ⊥) → ((id : ℕ) → id ≤ 0x03 → Accepts id act v → ⊥)
      → Keeps a owner keys
  after_other (stays n e) never unmoved = s
  after_other (comes {key} g n new) never unmoved = absurd (never (from_held (arrives g (not_among key (held_keys v.accounts) new))))
  after_other (uses k q e) never unmoved = absurd (unmoved 0x00 (omega arith) q)
  after_other (claims k q e) never unmoved = absurd (unmoved 0x01 (omega arith) q)
  after_other (owner_sets k q e) never unmoved = absurd (unmoved 0x02 (omega arith) q)
  after_other (drops q) never unmoved = absurd (unmoved 0x03 (omega arith) q)

-- The record holds what is kept of the history's keys
holds : {u : TagUnit} {h : List Act} {owner : Option (List ℕ)} {keys : List (List ℕ)} → ByUse u h owner keys → well_formed u ≡ true
    → Keeps u.accounts none [] → Keeps (after h u).accounts owner keys
unfolding after
holds start w e = e
holds {u} (arrival {h} key room r n) w e =
    let a = calls (account_key key) room in
    rw (one_more h a u) (after_arrival (formed_along h u w) (holds r w e) (moves a (after h u)) n)
holds {u} (parameters {h} key bytes room r n m) w e =
    let a = calls (write bytes) room in
    rw (one_more h a u) (after_use_of (formed_along h u w) (holds r w e) key (moves a (after h u)) n m)
holds {u} (state {h} key bytes room r n m) w e =
    let a = calls (write bytes) room in
    rw (one_more h a u) (after_claim_of (formed_along h u w) (holds r w e) key (moves a (after h u)) n m)
holds {u} (sets {h} key bytes room r n) w e =
    let a = calls (write bytes) room in
    rw (one_more h a u) (after_set (formed_along h u w) (holds r w e) key refl (moves a (after h u)) n)
holds {u} (clears {h} bytes room r n) w e =
    let a = calls (write bytes) room in
    rw (one_more h a u) (after_clearing (formed_along h u w) (holds r w e) (moves a (after h u)) n)
holds {u} (others {h} {a = a} r never unmoved) w e =
    rw (one_more h a u) (after_other (formed_along h u w) (holds r w e) (moves a (after h u)) never unmoved)

-- Every history has its owner and its keys
abbrev Known : TagUnit → List Act → Type 0
Known u h = (owner : Option (List ℕ)) × (keys : List (List ℕ)) × ByUse u h owner keys

module _ {u : TagUnit} {h : List Act} {owner : Option (List ℕ)} {keys : List (List ℕ)} (r : ByUse u h owner keys) (s : Keeps (after h u).accounts owner keys) where
  next : {a : Act} {left : Accounts} → Moves a (after h u) left → Known u (h ++ (a ∷ []))
  next {a} (stays never unmoved) = (owner, keys, others {a = a} r (λ n. never (rw s.held n)) unmoved)
  next (comes {key} {room} g n new) =
      let it : Arrives (held_keys (after h u).accounts) (calls (account_key key) room) (after h u) = arrives g (not_among key (held_keys (after h u).accounts) new) in
      (owner, key ∷ without key keys, arrival key room r (rw s.held at it))
  next (uses {w} {room} key n e) = (owner, key ∷ without key keys, parameters key w room r n (rw s.held at (used_matches (after h u) w.bytes key e)))
  next (claims {w} {room} key n e) =
      (owner_after owner key, key ∷ without key keys, state key w room r n (rw s.held at (used_matches (after h u) w.bytes key e)))
  next (owner_sets {w} {room} key n e) =
      let is : owner ≡ some key = sym s.owned ∙ e in
      (some key, key ∷ without key keys, sets key w room (rw is at r) n)
  next (drops {w} {room} n) = (none, [], clears w room r n)

along : {u : TagUnit} → well_formed u ≡ true → Keeps u.accounts none [] → (g : List Act) → Known u g → (h : List Act) → Known u (g ++ h)
along w e g known [] = rw (append-nil g) known
along {u} w e g (owner, keys, r) (a ∷ h) =
    rw (append_assoc g (a ∷ []) h) at (along w e (g ++ (a ∷ [])) (next r (holds r w e) (moves a (after g u))) h)

none_yet : (s : Settings) → Keeps (fresh s).accounts none []
unfolding held_keys owner_key rows first_others distinct
none_yet s = record { held = refl; owned = refl; once = refl }

-- In literal words
owner_is_lem : (u : TagUnit) → well_formed u ≡ true → (owner : Option (List ℕ)) → owner_key u.accounts ≡ owner → OwnerIs owner u
unfolding owner_key
owner_is_lem u w (some key) e = owned_with u w key e
owner_is_lem u w none e = go u.accounts.owner refl e
  where
    go : (o : Owner) → u.accounts.owner ≡ o → row_of o (held_keys u.accounts) ≡ none → u.accounts.owner ≡ None
    go None is h = is
    go (Some p) is h = let z : ◌≡◌ {A = ℕ} 0 1 = cc in absurd (omega arith)

in_words : (u : TagUnit) → well_formed u ≡ true → {owner : Option (List ℕ)} {keys : List (List ℕ)} → Keeps u.accounts owner keys → Holds owner (kept owner keys) u
in_words u w {owner} {keys} s =
    let long : u.accounts.count ≡ length (kept owner keys) = sym (held_count u.accounts) ∙ ap length s.held in
    record {
      count = long;
      order = λ i b. sym (held_at u i (omega arith)) ∙ ap (λ (l : List (List ℕ)). get_or l i []) s.held;
      owner_is = owner_is_lem u w owner s.owned;
    }

pub keys_by_use_lem : KeysByUse
unfolding after
keys_by_use_lem =
    record {
      known = λ s h legal. along (formed.freshly s legal) (none_yet s) [] (none, [], start) h;
      held = λ s h owner keys legal r.
          let right = formed.freshly s legal in
          in_words (after h (fresh s)) (formed_along h (fresh s) right) (holds r right (none_yet s));
    }
