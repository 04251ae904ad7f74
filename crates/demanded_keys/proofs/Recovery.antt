-- While a key stays in force, recovery returns the same 32 encrypted bytes that set it. The accepted 0x02 decrypted them with the owner key;
-- what it left waiting the disconnect brought in, and the owner's key stays (KeyKept); the owner key is sixteen bytes (KeyBytes); so the
-- accepted 0x04 encrypts what was decrypted, with the same key (Blocks).
use Prim.Native.Nat.{ℕ, ◌+◌, ◌≤◌}
use mathlib.Core.Path.{◌≡◌, refl, sym, ap, ap₂, subst, ◌∙◌}
use mathlib.Core.Bool.{true, false, ◌||◌}
use mathlib.Core.List.{List, [], ◌∷◌, ◌++◌}
use mathlib.Core.Option.{some}
use mathlib.Core.Logic.{◌⊎◌, inl, inr}
use native.Mathlib.Omega.{arith}
use lib.Dec.{leb, eqb}
use lib.ListN.{length, get_or, take, length-drop}
use lib.Seq.{drop_at}
use borrow.Author.Tests.{eqb-true}
use Rattle.laws.specs.Answer.{gives}
use Rattle.laws.proofs.Flags.{and_left, and_right, or_cases, or_false}
use Rattle.wire.specs.Signing.{recovery_key, answer_tag, signed}
use Rattle.wire.specs.Shape.{Request, parsed, size_legal, legal_sizes, one_of, shape_legal}
use Rattle.key_blocks.specs.KeyBlocks.{decrypted_key, encrypted_key}
use Rattle.unit.specs.declared.TagUnit.{TagUnit}
use Rattle.unit.specs.declared.Identity.{Identity}
use Rattle.unit.specs.WellFormed.{well_formed, owner_key}
use Rattle.unit.specs.Change.{fresh, spent}
use Rattle.authentication.specs.Judgement.{accepts, last_nonce}
use Rattle.account_keys.specs.Order.{after_use}
use Rattle.provisioning.specs.Provisioning.{awaiting}
use Rattle.tag.specs.Calls.{Written, disconnect, Act, calls}
use Rattle.demanded_answers.specs.History.{step, after, writes, Bytes}
use Rattle.demanded_nonces.specs.Among.{NoneIn, Accepts, accepts, BringsIn, brings_in}
use Rattle.demanded_answers.specs.Events.{BroughtIn}
use Rattle.demanded_keys.specs.Recovery.{data_of, Demand2Recovery}
use Rattle.demanded_answers.proofs.Judging.{data_signed}
use Rattle.demanded_nonces.proofs.WritesOnKeys.{Did, set, clear, recovered, used, other, accepted_write}
use Rattle.demanded_refusals.proofs.OfBytes.{bytes_drop, split_bytes}
use Rattle.demanded_nonces.proofs.Histories.{after_append}
use Rattle.demanded_answers.proofs.Events.{events}
use Rattle.demanded_keys.proofs.KeyKept.{set_owned, InForce, stays_in_force, Waiting, still_waiting}
use Rattle.demanded_keys.proofs.KeyBytes.{Sixteen, owner_sixteen}
use Rattle.demanded_keys.proofs.Blocks.{round_trip}

-- An 0x02 of legal shape has at least 32 bytes of additional data
long_enough : (w : List ℕ) → shape_legal w ≡ true → (parsed w).id ≡ 0x02 → 32 ≤ length (parsed w).additional
unfolding shape_legal parsed size_legal legal_sizes one_of
long_enough w legal id =
    let rest = and_right (leb 2 (length w)) _ legal in
    let sizes = rw id at (and_left (size_legal (get_or w 0 0) (get_or w 1 0)) (eqb (length w) (get_or w 1 0 + 2)) rest) in
    let count : length w ≡ get_or w 1 0 + 2 = eqb-true _ _ (and_right (size_legal (get_or w 0 0) (get_or w 1 0)) _ rest) in
    omega (arith, length-drop 10 w, size (or_cases (eqb (get_or w 1 0) 40) _ sizes))
  where
    size : (eqb (get_or w 1 0) 40 ≡ true) ⊎ ((eqb (get_or w 1 0) 48 || false) ≡ true) → 40 ≤ get_or w 1 0
    size (inl e) = omega (arith, eqb-true (get_or w 1 0) 40 e)
    size (inr e) = omega (arith, eqb-true (get_or w 1 0) 48 (sym (or_false _) ∙ e))

-- what an accepted 0x02 made of the unit
was_set : {u : TagUnit} {q : Request} {v : TagUnit} {answer : List ℕ} → Did u q (accepts v answer) → q.id ≡ 0x02
    → (key : List ℕ) × (owner_key u.accounts ≡ some key) × (v ≡ awaiting (decrypted_key key q.additional) (after_use key u))
was_set (set key e o) id = (key, o, refl)
was_set (clear e) id = absurd (omega arith)
was_set (recovered key e o) id = absurd (omega arith)
was_set (used k a) id = absurd (k.not_set id)
was_set (other k a) id = absurd (omega arith)

-- what an accepted 0x04 answered
was_recovered : {u : TagUnit} {q : Request} {v : TagUnit} {answer : List ℕ} → Did u q (accepts v answer) → q.id ≡ 0x04
    → (key : List ℕ) × (owner_key u.accounts ≡ some key) × (data_of answer ≡ encrypted_key key u.identity.bytes)
was_recovered (set key e o) id = absurd (omega arith)
was_recovered (clear e) id = absurd (omega arith)
was_recovered {u} {q = q} (recovered key e o) id =
    (key, o, data_signed (recovery_key u.identity.bytes) (last_nonce u) q.id (encrypted_key key u.identity.bytes))
was_recovered (used k a) id = absurd (k.not_recovered id)
was_recovered (other k a) id = absurd (omega arith)

-- An accepted 0x02 of these bytes: the owner's key, and what waits then
pub record KeySet (u : TagUnit) (bytes : List ℕ) (v : TagUnit) : Type 0 where
  pub formed : well_formed u ≡ true
  pub long : 32 ≤ length (data_of bytes)
  pub key : List ℕ
  pub owner : owner_key u.accounts ≡ some key
  pub left : v ≡ awaiting (decrypted_key key (data_of bytes)) (after_use key (spent u))

pub key_set : (w : Written) (room : ℕ) (u : TagUnit) → Accepts 0x02 (writes w room) u → KeySet u w.bytes (step (writes w room) u).unit
unfolding parsed
key_set w room u (accepts id (answer, e)) =
    let a = accepted_write w room u answer e in
    let (key, owner, unit) = was_set a.did id in
    record { formed = a.formed; long = long_enough w.bytes a.legal id; key = key; owner = owner; left = unit }

-- A key that was set on u and left v, waited until w, was brought in and left x, and stayed in force until z: what an accepted 0x04 then answers
module _ (u : TagUnit) (bytes : List ℕ) {v w x z : TagUnit} (done : KeySet u bytes v) (between : Waiting v w) (brought : BroughtIn w x)
    (later : InForce x z) (sixteen : (key : List ℕ) → owner_key u.accounts ≡ some key → Sixteen key) (octets : Bytes bytes) where
  in_force_lem : z.identity.bytes ≡ decrypted_key done.key (data_of bytes)
  in_force_lem =
      ap (λ (k : Identity). k.bytes) (later.identity ∙ brought.in_force)
      ∙ ap (λ (k : Identity). k.bytes) between.waiting
      ∙ ap (λ (y : TagUnit). y.waiting.bytes) done.left

  owner_then_lem : owner_key z.accounts ≡ some done.key
  owner_then_lem =
      later.owner done.key
      (ap owner_key brought.rest.3 ∙ between.owner done.key (ap (λ (y : TagUnit). owner_key y.accounts) done.left ∙ set_owned u done.formed done.key done.owner ∙ done.owner))

  same_bytes_lem : (recovering : Written) (room : ℕ) (answer : List ℕ) → get_or recovering.bytes 0 0 ≡ 0x04 → (step (writes recovering room) z).result ≡ gives answer
      → data_of answer ≡ take 32 (data_of bytes)
  unfolding parsed
  same_bytes_lem recovering room answer id e =
      let a = accepted_write recovering room z answer e in
      let (by, owner, answered) = was_recovered a.did id in
      let same_key : by ≡ done.key = cc (owner_then_lem) in
      answered
      ∙ ap₂ encrypted_key same_key in_force_lem
      ∙ round_trip done.key (data_of bytes) (sixteen done.key done.owner) done.long (bytes_drop 10 bytes octets)

held_then : {lent : ℕ} {u : TagUnit} → BringsIn (calls disconnect lent) u → u.waiting.held ≡ true
held_then (brings_in formed held) = held

brought_in_lem : {lent : ℕ} {u : TagUnit} → BringsIn (calls disconnect lent) u → BroughtIn u (step (calls disconnect lent) u).unit
brought_in_lem {lent} {u} (brings_in formed held) = (events.key_brought_in u lent formed held).left

pub recovery : Demand2Recovery
unfolding after
recovery s h C w room answer bytes set_by id result =
    let first = writes set_by.sent set_by.room in
    let last = calls disconnect set_by.lent in
    let u = after set_by.before (fresh s) in
    let v = (step first u).unit in
    let x = (step last (after set_by.between v)).unit in
    let parts = split_bytes set_by.before (first ∷ set_by.between ++ (last ∷ set_by.later)) (rw set_by.split at bytes) in
    let from : (l : List Act) → after (set_by.before ++ (first ∷ l)) (fresh s) ≡ after l v = λ l. after_append set_by.before (first ∷ l) (fresh s) in
    let then : (l : List Act) → after (set_by.before ++ (first ∷ set_by.between ++ (last ∷ l))) (fresh s) ≡ after l x =
    λ l. from (set_by.between ++ (last ∷ l)) ∙ after_append set_by.between (last ∷ l) v in
    let brought = subst (BringsIn last) (from set_by.between) set_by.brought in
    let done = key_set set_by.sent set_by.room u set_by.accepted in
    same_bytes_lem u set_by.sent.bytes done
    (still_waiting set_by.between v (subst (NoneIn (Accepts 0x02) set_by.between) (from []) set_by.last_set) (held_then brought))
    (brought_in_lem brought)
    (stays_in_force set_by.later x (subst (NoneIn (Accepts 0x03) set_by.later) (then []) set_by.kept)
    (subst (NoneIn BringsIn set_by.later) (then []) set_by.last_brought))
    (owner_sixteen s set_by.before parts.0 done.formed)
    parts.1.0
    w room answer id
    (subst (λ (y : TagUnit). (step (writes w room) y).result ≡ gives answer)
    (ap (λ (l : List Act). after l (fresh s)) set_by.split ∙ then set_by.later) result)
    ∙ sym set_by.began
