-- Refusal 3 by the history's reads: what the record holds is the last sixteen of them, the newest first. A successful read puts its own before
-- them, a write that passes 6 and 2 keeps them all, and no other call touches them.
use Prim.Native.Nat.{ℕ, zero, suc, ◌<◌}
use mathlib.Core.Path.{◌≡◌, refl, sym, ap, ◌∙◌}
use mathlib.Core.Bool.{true, false}
use mathlib.Core.List.{List, [], ◌∷◌, ◌++◌, append-nil, append_assoc}
use native.Mathlib.Omega.{arith}
use lib.ListN.{length, get_or, take}
use lib.Seq.{take-take}
use Rattle.laws.proofs.Flags.{fails}
use Rattle.tables.specs.Rows.{rows, among}
use Rattle.nonces.specs.Nonces.{issued_nonces}
use Rattle.nonces.proofs.Lines.{nonces_lines, issued_count}
use Rattle.nonces.proofs.Issuing.{issued_first, fits_sized}
use Rattle.unit.specs.declared.TagUnit.{TagUnit}
use Rattle.unit.specs.declared.Settings.{Settings}
use Rattle.unit.specs.Change.{fresh}
use Rattle.unit.specs.WellFormed.{well_formed}
use Rattle.unit.specs.Outcome.{Outcome}
use Rattle.unit.proofs.Lines.{lines}
use Rattle.tag.specs.Calls.{read, Act, calls}
use Rattle.demanded_answers.specs.History.{step, after, Succeeds}
use Rattle.demanded_nonces.specs.Nonces.{Issues, issues}
use Rattle.demanded_refusals.specs.RefusalOrder.{nonce_length, nonce_held, own}
use Rattle.demanded_nonces.specs.NonceRepeats.{ReadIn, none, reads, others, NonceRepeats}
use Rattle.demanded_nonces.proofs.CallsOnNonce.{Noncing, issue, spend, keep, issues_kind, noncing}
use Rattle.demanded_nonces.proofs.Histories.{one_more}
use Rattle.demanded_refusals.proofs.Formed.{formed, formed_along}
use Rattle.demanded_refusals.proofs.LentRoom.{lent_room}
use Rattle.demanded_refusals.proofs.RefusalOrder.{refusal_order}
use Rattle.demanded_answers.proofs.RecordLines.{nonce_at, among_found}
use Rattle.demanded_answers.proofs.Accepted.{reads as reads-it}

-- the front of a list, by places
front : (n : ℕ) (l : List (List ℕ)) (i : ℕ) → i < length (take n l) → (i < n) × (i < length l) × (get_or (take n l) i [] ≡ get_or l i [])
front zero l i h = absurd (omega arith)
front (suc n) [] i h = absurd (omega arith)
front (suc n) (x ∷ xs) zero h = (omega arith, omega arith, refl)
front (suc n) (x ∷ xs) (suc i) h =
    let f = front n xs i (omega arith) in
    (omega (arith, f.0), omega (arith, f.1), f.2)

in_front : (n : ℕ) (l : List (List ℕ)) (i : ℕ) → i < n → i < length l → i < length (take n l)
in_front zero l i h k = absurd (omega arith)
in_front (suc n) [] i h k = absurd (omega arith)
in_front (suc n) (x ∷ xs) zero h k = omega arith
in_front (suc n) (x ∷ xs) (suc i) h k = let f = in_front n xs i (omega arith) (omega arith) in omega arith

-- What one act leaves
read_holds : {nonce : List ℕ} {room : ℕ} {v : TagUnit} → well_formed v ≡ true → Noncing (calls (read nonce) room) v → Succeeds (calls (read nonce) room) v
    → issued_nonces (step (calls (read nonce) room) v).unit.nonces ≡ take 16 (nonce ∷ issued_nonces v.nonces)
read_holds {nonce} {room} {v} w (issue s f e) t =
    ap issued_nonces e ∙ issued_first nonce v.nonces (nonces_lines v.nonces (lines v w).nonces) (fits_sized v.nonces nonce f)
read_holds w (keep i p e) t = absurd (i (issues t))

other_holds : {a : Act} {v : TagUnit} → Noncing a v → (Issues a v → ⊥) → issued_nonces (step a v).unit.nonces ≡ issued_nonces v.nonces
unfolding issued_nonces
other_holds (issue s f e) unread = absurd (unread (issues s))
other_holds (spend p e) unread = rw e
other_holds (keep i p e) unread = rw e

-- The record holds the last sixteen
holds : {u : TagUnit} {h : List Act} {nonces : List (List ℕ)} → ReadIn u h nonces → well_formed u ≡ true → issued_nonces u.nonces ≡ []
    → issued_nonces (after h u).nonces ≡ take 16 nonces
unfolding after
holds none w e = e
holds {u} (reads {h} {nonces} nonce room r s) w e =
    let a : Act = calls (read nonce) room in
    ap (λ (v : TagUnit). issued_nonces v.nonces) (one_more h a u)
    ∙ read_holds (formed_along h u w) (noncing a (after h u)) s
    ∙ ap (λ (l : List (List ℕ)). nonce ∷ take 15 l) (holds r w e)
    ∙ ap (λ (l : List (List ℕ)). nonce ∷ l) (take-take 15 16 nonces (omega arith))
holds {u} (others {h} {nonces} {a} r unread) w e =
    ap (λ (v : TagUnit). issued_nonces v.nonces) (one_more h a u) ∙ other_holds (noncing a (after h u)) unread ∙ holds r w e

-- Every history has its list of reads
more : {u : TagUnit} {h : List Act} {nonces : List (List ℕ)} (a : Act) → ReadIn u h nonces → Noncing a (after h u)
    → (all : List (List ℕ)) × ReadIn u (h ++ (a ∷ [])) all
more {u} {h} {nonces} a r (issue {nonce} {room} s f e) = (nonce ∷ nonces, reads nonce room r s)
more {u} {h} {nonces} a r (spend p e) = (nonces, others {a = a} r (λ (i : Issues a (after h u)). omega (arith, issues_kind i)))
more {u} {h} {nonces} a r (keep i p e) = (nonces, others r i)

along : {u : TagUnit} (g : List Act) {nonces : List (List ℕ)} → ReadIn u g nonces → (h : List Act) → (all : List (List ℕ)) × ReadIn u (g ++ h) all
along {u} g {nonces} r [] = (nonces, rw (append-nil g) r)
along {u} g r (a ∷ h) =
    let found = more a r (noncing a (after g u)) in
    rw (append_assoc g (a ∷ []) h) at (along (g ++ (a ∷ [])) found.1 h)

none_yet : (s : Settings) → issued_nonces (fresh s).nonces ≡ []
unfolding issued_nonces rows
none_yet s = refl

pub nonce_repeats_lem : NonceRepeats
nonce_repeats_lem =
    record {
      known = λ s h. along [] none h;
      wrong_size = λ s h nonce room legal fits long.
          refusal_order.refused (calls (read nonce) room) (after h (fresh s)) 3
          (own (λ r l. omega (arith, lent_room l)) (formed_along h (fresh s) (formed.freshly s legal)) (nonce_length long));
      again = λ s h nonces nonce room legal r fits which.
          let v = after h (fresh s) in
          let right = formed_along h (fresh s) (formed.freshly s legal) in
          let held = holds r (formed.freshly s legal) (none_yet s) in
          let i = which.0 in
          let there = in_front 16 nonces i which.1 which.2 in
          let below : i < v.nonces.count = omega (arith, there, ap length held, issued_count v.nonces) in
          let here = sym (nonce_at v i below) ∙ ap (λ (l : List (List ℕ)). get_or l i []) held ∙ (front 16 nonces i there).2 ∙ which.3 in
          refusal_order.refused (calls (read nonce) room) v 3 (own (λ r l. omega (arith, lent_room l)) right (nonce_held i below here));
      accepted = λ s h nonces nonce room legal r fits long new.
          let v = after h (fresh s) in
          let right = formed_along h (fresh s) (formed.freshly s legal) in
          let held = holds r (formed.freshly s legal) (none_yet s) in
          let absent : among nonce (issued_nonces v.nonces) ≡ false
          = fails _
          (λ e.
          let found = among_found nonce (issued_nonces v.nonces) e in
          let place : found.0 < length (take 16 nonces) = omega (arith, found.1, ap length held) in
          let f = front 16 nonces found.0 place in
          new (found.0, f.0, f.1, sym (found.2 ∙ ap (λ (l : List (List ℕ)). get_or l found.0 []) held ∙ f.2))) in
          ap (λ (o : Outcome). o.result) (reads-it v room nonce right fits long absent);
    }
