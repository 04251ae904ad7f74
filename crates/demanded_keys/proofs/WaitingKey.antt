-- The key that waits: nothing shows it (WaitingUnseen), what each act does to the keys (KeyKept) leaves the key in force alone within a
-- connection, and the last that was set is the one that a disconnect brings in.
use Prim.Native.Nat.{ℕ}
use mathlib.Core.Path.{◌≡◌, refl, ap, subst, ◌∙◌}
use mathlib.Core.Bool.{true, false}
use mathlib.Core.List.{List, [], ◌∷◌, ◌++◌}
use lib.ListN.{take, drop}
use lib.Seq.{drop-drop}
use Rattle.laws.proofs.Flags.{clash}
use Rattle.primitives.specs.Standards.{InvAES128}
use Rattle.unit.specs.declared.TagUnit.{TagUnit}
use Rattle.unit.specs.declared.Identity.{Identity}
use Rattle.unit.specs.WellFormed.{well_formed}
use Rattle.unit.specs.Change.{identity_key}
use Rattle.key_blocks.specs.KeyBlocks.{decrypted_key}
use Rattle.tag.specs.Calls.{Written, disconnect, Act, calls}
use Rattle.demanded_answers.specs.Spelled.{OwnedWith, AllBut, waiting}
use Rattle.demanded_answers.specs.History.{step, after, writes}
use Rattle.demanded_refusals.specs.Refused.{no_identity_key}
use Rattle.demanded_time.specs.Time.{runs, slept, start}
use Rattle.demanded_nonces.specs.Among.{NoneIn, Accepts, BringsIn, brings_in}
use Rattle.demanded_keys.specs.WaitingKey.{Disconnects, disconnects, Connected, Alike, SetTwice, WaitingKey}
use Rattle.demanded_refusals.proofs.Formed.{formed, formed_along}
use Rattle.demanded_nonces.proofs.Histories.{after_append}
use Rattle.demanded_refusals.proofs.Refused.{refused}
use Rattle.demanded_answers.proofs.Events.{events}
use Rattle.demanded_nonces.proofs.KeyPlaces.{owner_key_lem}
use Rattle.demanded_keys.proofs.KeyKept.{OnKeys, kept, sets, drops, brings, on_keys, stays_in_force}
use Rattle.demanded_keys.proofs.Recovery.{key_set}
use Rattle.demanded_keys.proofs.WaitingUnseen.{Along, runs_along}

-- Two units that differ in the waiting key alone
unseen : (u v : TagUnit) (l : List Act) → well_formed u ≡ true → well_formed v ≡ true → AllBut (waiting ∷ []) u v → Connected l
    → Alike (runs slept l (start u)) (runs slept l (start v))
unseen u v l first second (a, b, c, d, e, _, f, g, h, i, j, k) connected =
    let along : Along (start u) (start v) =
    record {
      unit =
          record {
            settings = a;
            clock = b;
            nonce = c;
            accounts = d;
            identity = e;
            sound = f;
            ring_nonce_is = g;
            protection = h;
            consent = i;
            pairing = j;
            battery = k;
          };
      count = refl;
      answers = refl;
      notifications = refl;
    } in
    let z = runs_along l along first second connected in
    let x = z.unit in
    record {
      answers = z.answers;
      notifications = z.notifications;
      unit = (
        x.settings,
        x.clock,
        x.nonce,
        x.accounts,
        x.identity,
        tt,
        x.sound,
        x.ring_nonce_is,
        x.protection,
        x.consent,
        x.pairing,
        x.battery,
      );
    }

-- Within a connection no key is brought in
brings_disconnects : {a : Act} {u : TagUnit} → BringsIn a u → Disconnects a
brings_disconnects (brings_in right held) = disconnects

none_brought : (l : List Act) (u : TagUnit) → Connected l → NoneIn BringsIn l u
none_brought [] u connected = tt
none_brought (a ∷ l) u connected = (λ b. connected.0 (brings_disconnects b), none_brought l (step a u).unit connected.1)

still_old : (u : TagUnit) (first : Written) (room : ℕ) (l : List Act) → Accepts 0x02 (writes first room) u → Connected l
    → NoneIn (Accepts 0x03) l (after (writes first room ∷ []) u)
    → (after (writes first room ∷ l) u).identity ≡ u.identity
unfolding after
still_old u first room l accepted connected uncleared =
    let v = (step (writes first room) u).unit in
    (stays_in_force l v uncleared (none_brought l v connected)).identity
    ∙ ap (λ (x : TagUnit). x.identity) (key_set first room u accepted).left

-- A key that was set comes in at some disconnect, and stays: over a list without a further accepted 0x02 or 0x03 it waits or is in force
data Coming (k : Identity) (u : TagUnit) : Type 0 where
  waits : u.waiting ≡ k → Coming k u
  in_force : u.identity ≡ k → u.waiting.held ≡ false → Coming k u

next_coming : {k : Identity} {a : Act} {u v : TagUnit} → OnKeys a u v → (Accepts 0x02 a u → ⊥) → (Accepts 0x03 a u → ⊥) → Coming k u → Coming k v
next_coming (kept o i w) last uncleared (waits e) = waits (w ∙ e)
next_coming (kept o i w) last uncleared (in_force e h) = in_force (i ∙ e) (ap (λ (x : Identity). x.held) w ∙ h)
next_coming (sets s o i) last uncleared c = absurd (last s)
next_coming (drops d w) last uncleared c = absurd (uncleared d)
next_coming (brings b o i w) last uncleared (waits e) = in_force (i ∙ e) w
next_coming (brings (brings_in right held) o i w) last uncleared (in_force e h) = absurd (clash held h)

coming : (l : List Act) (k : Identity) (u : TagUnit) → NoneIn (Accepts 0x02) l u → NoneIn (Accepts 0x03) l u → Coming k u → Coming k (after l u)
unfolding after
coming [] k u last uncleared c = c
coming (a ∷ l) k u last uncleared c =
    coming l k (step a u).unit last.1 uncleared.1 (next_coming (on_keys a u) last.0 uncleared.0 c)

-- and after one more disconnect it is in force
disconnected : (u : TagUnit) (lent : ℕ) (bytes : List ℕ) → well_formed u ≡ true → Coming (identity_key bytes) u
    → (step (calls disconnect lent) u).unit.identity ≡ identity_key bytes
disconnected u lent bytes right (waits e) =
    (events.key_brought_in u lent right (ap (λ (k : Identity). k.held) e)).left.in_force
    ∙ ap (λ (k : Identity). identity_key k.bytes) e
disconnected u lent bytes right (in_force e h) = ap (λ (x : TagUnit). x.identity) (events.nothing_brought_in u lent right h).left ∙ e

second_comes_in_lem : (u : TagUnit) (first : Written) (firstRoom : ℕ) (between : List Act) (second : Written) (room : ℕ) (later : List Act)
    (lent : ℕ) (key : List ℕ)
    → SetTwice u first firstRoom between second room later
    → OwnedWith (after (writes first firstRoom ∷ between) u) key
    → (after (writes first firstRoom ∷ between ++ (writes second room ∷ later ++ (calls disconnect lent ∷ []))) u).identity
    ≡ record { held = true; bytes = InvAES128 key (take 16 (drop 10 second.bytes)) ++ InvAES128 key (take 16 (drop 26 second.bytes)) }
unfolding after decrypted_key
second_comes_in_lem u first firstRoom between second room later lent key twice owned =
    let start : List Act = writes first firstRoom ∷ between in
    let v = after start u in
    let x = (step (writes second room) v).unit in
    let done = key_set second room v twice.second_accepted in
    let same : done.key ≡ key = cc (owner_key_lem v done.formed key owned) in
    let secret = decrypted_key done.key (drop 10 second.bytes) in
    let then : after (start ++ (writes second room ∷ [])) u ≡ x = after_append start (writes second room ∷ []) u in
    let c : Coming (identity_key secret) (after later x) =
    coming later (identity_key secret) x (subst (NoneIn (Accepts 0x02) later) then twice.no_third) (subst (NoneIn (Accepts 0x03) later) then twice.kept)
    (waits (ap (λ (y : TagUnit). y.waiting) done.left)) in
    let right = formed_along later x (formed.kept (writes second room) v done.formed) in
    ap (λ (y : TagUnit). y.identity)
    (after_append start (writes second room ∷ later ++ (calls disconnect lent ∷ [])) u ∙ after_append later (calls disconnect lent ∷ []) x)
    ∙ disconnected (after later x) lent secret right c
    ∙ rw (same, drop-drop)

pub waiting_key_lem : WaitingKey
waiting_key_lem =
    record {
      none_in_force = λ u reach room w id size tag additional right fits within none sent high.
          refused.refused u reach room w 0x80 right fits within (no_identity_key sent high none);
      unseen = unseen;
      judged_by_old = still_old;
      second_comes_in = second_comes_in_lem;
    }
