-- The demand on recovery is not empty: the example's units one after another, each well formed by what keeps a unit so, and each call
-- served by the acceptance laws. Nothing is computed.
use Prim.Native.Nat.{ℕ, zero, suc, ◌+◌, ◌<◌}
use mathlib.Core.Path.{◌≡◌, refl, sym, ap, subst, ◌∙◌}
use mathlib.Core.Bool.{true, false}
use mathlib.Core.List.{List, [], ◌∷◌, ◌++◌}
use mathlib.Core.Logic.{inl}
use native.Mathlib.Omega.{arith}
use lib.ListN.{length, get_or, drop, replicate, take}
use lib.Seq.{take_all, take_at, drop_at}
use borrow.Author.Tests.{eq-eqb}
use Rattle.std.specs.Prelude.{Some}
use Rattle.laws.specs.Answer.{gives}
use Rattle.laws.proofs.Same.{differ_same, same_refl, same_sym}
use Rattle.primitives.specs.Standards.{HMAC}
use Rattle.primitives.proofs.Laws.{HMAC-byte}
use Rattle.wire.specs.Signing.{request_tag}
use Rattle.key_blocks.specs.KeyBlocks.{decrypted_key}
use Rattle.unit.specs.declared.TagUnit.{TagUnit}
use Rattle.unit.specs.declared.Settings.{Settings}
use Rattle.tables.specs.Rows.{rows, among, place_of}
use Rattle.unit.specs.declared.Accounts.{Accounts}
use Rattle.unit.specs.WellFormed.{settings_legal, well_formed, held_keys}
use Rattle.unit.specs.Change.{fresh, no_accounts, with_accounts, with_nonces, with_owner, with_consent, spent}
use Rattle.unit.specs.Outcome.{Outcome, giving, formed}
use Rattle.unit.proofs.Lines.{lines}
use Rattle.unit.proofs.Kept.{fresh_formed, issued_kept, spent_kept, owner_kept, waiting_kept, consent_kept}
use Rattle.account_keys.specs.Order.{key_used, key_added, after_use}
use Rattle.state_read.specs.State.{owned_by}
use Rattle.provisioning.specs.Provisioning.{awaiting}
use Rattle.key_calls.specs.Keys.{keeping, brought_in, disconnected}
use Rattle.press_call.specs.Press.{pressed}
use Rattle.tag.specs.Calls.{read, button, account_key, disconnect, own, guarded, call, Act, calls, act}
use Rattle.demanded_answers.specs.History.{step, after, sends, Bytes, AllOfBytes}
use Rattle.demanded_answers.specs.Spelled.{tag_from, request_from, key_at_place, OwnedWith}
use Rattle.demanded_answers.specs.Accepted.{Serves, Open, First, answer, recovery_key_of, key_blocks}
use Rattle.demanded_nonces.specs.Among.{Accepts, accepts, BringsIn, brings_in}
use Rattle.demanded_keys.specs.Recovery.{SetBy}
use Rattle.demanded_keys.specs.RecoveryExample.{Given, provisioning, recovering, Shown, RecoveryExample}
use Rattle.demanded_answers.proofs.MaskBits.{zero_bit}
use Rattle.demanded_refusals.proofs.OfBytes.{bytes_take, bytes_cons, bytes_append}
use Rattle.demanded_nonces.proofs.Histories.{after_append}
use Rattle.demanded_refusals.proofs.Formed.{formed as stays-formed}
use Rattle.demanded_answers.proofs.Judging.{opened, length_request_tag}
use Rattle.demanded_answers.proofs.Accepted.{reads, serves_state, serves_key, accepted}
use Rattle.demanded_refusals.proofs.KeyUses.{used_first}
use Rattle.demanded_nonces.proofs.OtherCalls.{kind}
use Rattle.nonces.specs.Nonces.{issued_nonces, with_issued}
use Rattle.nonces.proofs.Lines.{nonces_lines}
use Rattle.nonces.proofs.Issuing.{issued_first, fits_both}
use Rattle.demanded_keys.proofs.Recovery.{recovery}

-- A write as sent is of bytes
sent_bytes : (id : ℕ) (by nonce additional : List ℕ) → id < 256 → length additional < 128 → Bytes additional → Bytes (request_from id by nonce additional)
sent_bytes id by nonce additional low short b =
    let size = 8 + length additional in
    let text : List ℕ = 0x01 ∷ nonce ++ (id ∷ size ∷ additional) in
    let mark = tag_from by nonce id size additional in
    bytes_cons id (size ∷ mark ++ additional) low
    (bytes_cons size (mark ++ additional) (omega arith)
    (bytes_append mark additional (bytes_take 8 (HMAC by text) (HMAC-byte by text)) b))

tag_eight : (by nonce : List ℕ) (id size : ℕ) (additional : List ℕ) → length (tag_from by nonce id size additional) ≡ 8
unfolding request_tag
tag_eight by nonce id size additional = length_request_tag by nonce id size additional

none : Bytes []
none i = omega arith

-- Only writes are accepted, and only a disconnect brings a key in
accepts_kind : {id : ℕ} {c : Act} {u : TagUnit} → Accepts id c u → kind c ≡ 1
accepts_kind (accepts id s) = refl

brings_kind : {c : Act} {u : TagUnit} → BringsIn c u → kind c ≡ 3
brings_kind (brings_in formed held) = refl

-- A history call by call
data Runs : TagUnit → List Act → TagUnit → Type 0 where
  done : {u : TagUnit} → Runs u [] u
  next : {c : Act} {h : List Act} {u v w : TagUnit} → (step c u).unit ≡ v → Runs v h w → Runs u (c ∷ h) w

runs_after : {u v : TagUnit} {h : List Act} → Runs u h v → after h u ≡ v
unfolding after
runs_after done = refl
runs_after (next {h = h} e r) = ap (after h) e ∙ runs_after r

abbrev unit_of_lem : Outcome → TagUnit
unit_of_lem o = o.unit

-- The units after each call but the last, and the history in its three parts
module _ (s : Settings) (key C n₁ n₂ n₃ : List ℕ) (g : Given s key C n₁ n₂ n₃) where
  abbrev keyed : TagUnit
  keyed = with_accounts (key_added key no_accounts) (fresh s)

  abbrev first : TagUnit
  first = with_nonces (with_issued n₁ keyed.nonces) keyed

  abbrev owned : TagUnit
  owned = with_accounts (with_owner (Some 0) (key_added key no_accounts)) (spent first)

  abbrev second : TagUnit
  second = with_nonces (with_issued n₂ owned.nonces) owned

  abbrev awaited : TagUnit
  awaited = awaiting (decrypted_key key C) (spent second)

  abbrev provisioned : TagUnit
  provisioned = brought_in awaited

  abbrev consented : TagUnit
  consented = with_consent 600 provisioned

  abbrev third : TagUnit
  third = with_nonces (with_issued n₃ consented.nonces) consented

  abbrev start : List Act
  start = calls (account_key key) 0 ∷ calls (read n₁) 42 ∷ sends (request_from 0x01 key n₁ []) 0 42 ∷ calls (read n₂) 42 ∷ []

  abbrev last : List Act
  last = calls button 42 ∷ calls (read n₃) 42 ∷ []

  abbrev end : List Act
  end = sends (request_from 0x02 key n₂ C) 0 42 ∷ calls disconnect 0 ∷ last

  -- the one key held
  held_key : held_keys (key_added key no_accounts) ≡ key ∷ []
  unfolding held_keys rows
  held_key = ap (λ (k : List ℕ). k ∷ []) (take_at key (drop 16 (replicate 160 0)) 16 g.key_long)

  -- Each call, and the unit after it well formed
  adds : step (calls (account_key key) 0) (fresh s) ≡ giving [] keyed
  unfolding act call guarded own keeping formed held_keys rows among
  adds = rw (fresh_formed s g.legal, eq-eqb (length key) 16 g.key_long)

  keyed_formed : well_formed keyed ≡ true
  keyed_formed = rw (ap unit_of_lem adds) at (stays-formed.kept (calls (account_key key) 0) (fresh s) (fresh_formed s g.legal))

  -- none of the nonces is held when it is lent
  first_fits : among n₁ (issued_nonces keyed.nonces) ≡ false
  unfolding issued_nonces rows among
  first_fits = refl

  first_formed : well_formed first ≡ true
  first_formed = issued_kept keyed keyed_formed n₁ (fits_both _ n₁ g.long₁ first_fits)

  owned_formed : well_formed owned ≡ true
  owned_formed = owner_kept (spent first) (spent_kept first first_formed) 0 (omega arith)

  owner_first_lem : owned_by key (key_added key no_accounts) ≡ with_owner (Some 0) (key_added key no_accounts)
  unfolding place_of
  owner_first_lem = rw (held_key, same_refl key)

  -- the key stands at place 0, and is the owner's
  at_first : key_at_place keyed 0 ≡ key
  at_first = take_at key (drop 16 (replicate 160 0)) 16 g.key_long

  owner_key_lem : OwnedWith second key
  owner_key_lem = (0, refl, at_first)

  -- a use of the only key moves nothing
  stays_first : key_used key owned.accounts ≡ owned.accounts
  unfolding held_keys
  stays_first =
      subst (λ (k : List ℕ). key_used k owned.accounts ≡ owned.accounts) (ap (λ (l : List (List ℕ)). get_or l 0 []) held_key)
      (used_first owned.accounts (lines owned owned_formed).accounts (omega arith))

  owns_it : (step (sends (request_from 0x01 key n₁ []) 0 42) first).unit ≡ owned
  owns_it =
      let ready : Open first 0 42 = record { formed = first_formed; live = refl; fits = omega arith; within = λ i k. zero_bit i } in
      let only : First first 0x01 0 = (omega arith, λ i h. absurd (omega arith)) in
      rw at_first at (serves_state first 0 42 0 {Left = λ (v : TagUnit). v ≡ after_use (key_at_place first 0) (with_accounts (owned_by (key_at_place first 0) first.accounts) (spent first))} ready only refl).left
      ∙ ap (λ (a : Accounts). with_accounts (key_used key a) (spent first)) owner_first_lem
      ∙ ap (λ (a : Accounts). with_accounts a (spent first)) stays_first

  after_first : issued_nonces owned.nonces ≡ n₁ ∷ []
  unfolding issued_nonces rows
  after_first = issued_first n₁ keyed.nonces (nonces_lines _ (lines keyed keyed_formed).nonces) g.long₁

  second_fits : among n₂ (issued_nonces owned.nonces) ≡ false
  unfolding among
  second_fits = rw (after_first, same_sym n₂ n₁, differ_same n₁ n₂ g.second)

  second_formed : well_formed second ≡ true
  second_formed = issued_kept owned owned_formed n₂ (fits_both _ n₂ g.long₂ second_fits)

  sets_it : Serves (sends (request_from 0x02 key n₂ C) 0 42) second (answer second 0x02 key []) (λ (v : TagUnit). v ≡ awaited)
  sets_it =
      serves_key second 0 42 key C (record { formed = second_formed; live = refl; fits = omega arith; within = λ i k. zero_bit i }) owner_key_lem refl g.encrypted_long
      (ap (λ (a : Accounts). awaiting (decrypted_key key C) (with_accounts a (spent second))) stays_first)

  awaited_formed : well_formed awaited ≡ true
  awaited_formed = waiting_kept (spent second) (spent_kept second second_formed) (decrypted_key key C) refl

  hangs_up : step (calls disconnect 0) awaited ≡ giving [] provisioned
  unfolding act call guarded own disconnected formed
  hangs_up = rw awaited_formed

  provisioned_formed : well_formed provisioned ≡ true
  provisioned_formed = rw (ap unit_of_lem hangs_up) at (stays-formed.kept (calls disconnect 0) awaited awaited_formed)

  presses : step (calls button 42) provisioned ≡ giving [] consented
  unfolding act call guarded own pressed
  presses = opened provisioned 42 (pressed provisioned.sound provisioned) provisioned_formed (omega arith)

  consented_formed : well_formed consented ≡ true
  consented_formed = consent_kept provisioned provisioned_formed 600 (omega arith)

  after_second : issued_nonces consented.nonces ≡ n₂ ∷ n₁ ∷ []
  unfolding issued_nonces rows
  after_second =
      issued_first n₂ owned.nonces (nonces_lines _ (lines owned owned_formed).nonces) g.long₂
      ∙ ap (λ (l : List (List ℕ)). take 16 (n₂ ∷ l)) after_first

  third_fits : among n₃ (issued_nonces consented.nonces) ≡ false
  unfolding among
  third_fits = rw (after_second, same_sym n₃ n₂, differ_same n₂ n₃ g.third, same_sym n₃ n₁, differ_same n₁ n₃ g.not_first)

  -- The history as a whole
  before : after start (fresh s) ≡ second
  before =
      runs_after
      (next (ap unit_of_lem adds)
      (next (ap unit_of_lem (reads keyed 42 n₁ keyed_formed (omega arith) g.long₁ first_fits))
      (next owns_it
      (next (ap unit_of_lem (reads owned 42 n₂ owned_formed (omega arith) g.long₂ second_fits)) done))))

  all : after (provisioning key C n₁ n₂ n₃) (fresh s) ≡ third
  all =
      after_append start end (fresh s)
      ∙ ap (after end) before
      ∙ runs_after
      (next sets_it.left
      (next (ap unit_of_lem hangs_up)
      (next (ap unit_of_lem presses)
      (next (ap unit_of_lem (reads consented 42 n₃ consented_formed (omega arith) g.long₃ third_fits)) done))))

  abbrev said : List ℕ
  said = answer third 0x04 (recovery_key_of third) (key_blocks key third.identity.bytes)

  recovers_it : (step (sends (recovering key C n₃) 0 42) third).result ≡ gives said
  unfolding decrypted_key
  recovers_it =
      (accepted.key_recovered third 0 42 key
      (record { formed = issued_kept consented consented_formed n₃ (fits_both _ n₃ g.long₃ third_fits); live = refl; fits = omega arith; within = λ i k. zero_bit i }) (0, refl, at_first) refl
      (inl (omega arith))).answered

  all_bytes : AllOfBytes (provisioning key C n₁ n₂ n₃)
  all_bytes =
      let long = g.encrypted_long in
      let owning = sent_bytes 0x01 key n₁ [] (omega arith) (omega arith) none in
      let setting = sent_bytes 0x02 key n₂ C (omega arith) (omega arith) g.encrypted_bytes in
      (g.key_bytes, (g.bytes₁, (owning, (g.bytes₂, (setting, (none, (none, (g.bytes₃, tt))))))))

  -- the unit that the disconnect meets
  waiting_then : after (start ++ (sends (request_from 0x02 key n₂ C) 0 42 ∷ [])) (fresh s) ≡ awaited
  waiting_then =
      after_append start (sends (request_from 0x02 key n₂ C) 0 42 ∷ []) (fresh s)
      ∙ ap (after (sends (request_from 0x02 key n₂ C) 0 42 ∷ [])) before
      ∙ runs_after (next sets_it.left done)

  set_by_lem : SetBy (fresh s) (provisioning key C n₁ n₂ n₃) C
  set_by_lem =
      let long = g.encrypted_long in
      let mark = tag_from key n₂ 0x02 (8 + length C) C in
      record {
        before = start;
        sent = record { bytes = request_from 0x02 key n₂ C; reach = 0 };
        room = 42;
        between = [];
        lent = 0;
        later = last;
        split = refl;
        accepted = rw before (accepts refl (answer second 0x02 key [], sets_it.answered));
        began = sym (rw (drop_at mark C 8 (tag_eight key n₂ 0x02 (8 + length C) C)) (take_all 32 C (omega arith)));
        last_set = tt;
        brought = rw waiting_then (brings_in awaited_formed refl);
        last_brought = (λ b. omega (arith, brings_kind b), (λ b. omega (arith, brings_kind b), tt));
        kept = (λ r. omega (arith, accepts_kind r), (λ r. omega (arith, accepts_kind r), tt));
      }

  shown : Shown s key C n₁ n₂ n₃
  shown =
      let result : (step (sends (recovering key C n₃) 0 42) (after (provisioning key C n₁ n₂ n₃) (fresh s))).result ≡ gives said =
      rw all recovers_it in
      record {
        bytes = all_bytes;
        set_by = set_by_lem;
        recovers = refl;
        accepted = (said, result, recovery s (provisioning key C n₁ n₂ n₃) C (record { bytes = recovering key C n₃; reach = 0 }) 42 said all_bytes set_by_lem refl result);
      }

replicate_bytes : (n x : ℕ) → x < 256 → Bytes (replicate n x)
replicate_bytes zero x h = none
replicate_bytes (suc n) x h = bytes_cons x (replicate n x) h (replicate_bytes n x h)

pub example : RecoveryExample
unfolding settings_legal
example =
    record {
      shown = shown;
      some =
          record {
            legal = refl;
            key_long = refl;
            encrypted_long = refl;
            long₁ = refl;
            long₂ = refl;
            long₃ = refl;
            second = λ e. omega (arith, ap (λ (l : List ℕ). get_or l 0 0) e);
            third = λ e. omega (arith, ap (λ (l : List ℕ). get_or l 0 0) e);
            not_first = λ e. omega (arith, ap (λ (l : List ℕ). get_or l 0 0) e);
            key_bytes = replicate_bytes 16 0 (omega arith);
            encrypted_bytes = replicate_bytes 32 0 (omega arith);
            bytes₁ = replicate_bytes 8 1 (omega arith);
            bytes₂ = replicate_bytes 8 2 (omega arith);
            bytes₃ = replicate_bytes 8 3 (omega arith);
          };
    }
