-- A host that begins, feeds and finishes has written the replay of its file: what the calls of `feed` took and wrote, one after another, is what
-- feeding the whole prints, and the law of any pieces joins that to `replay`.
use Rattle.std.specs.Prelude.{Option, Some, None}
use Prim.Native.Nat.{ℕ}
use mathlib.Core.Path.{◌≡◌, refl, sym, ap, ◌∙◌}
use mathlib.Core.Bool.{Bool, true, false, true≢false}
use mathlib.Core.List.{List, [], ◌∷◌, ◌++◌, append-nil}
use lib.Dec.{leb}
use lib.ListN.{length, take, drop}
use lib.Seq.{take_at}
use Rattle.session.specs.declared.Session.{Session}
use Rattle.session.specs.Replay.{replay}
use Rattle.session.specs.Feeding.{fed, fed_to, finish, first, in_pieces, whole}
use Rattle.session.specs.Session.{state_of, finish_room, Feeds, Finishes}
use Rattle.replay.specs.Hosts.{Calls, none, more, AnyHost}
use Rattle.session.proofs.AnyPieces.{fed_append, any_pieces}

-- what a call wrote is what feeding the bytes that it took prints
wrote : {s t : Session} {piece before after : List ℕ} {taken written : ℕ} → Feeds s piece before t taken written after
    → take written after ≡ (fed (take taken piece) (state_of s)).printed
wrote {s} {t} {piece} {before} {after} {taken} {written} f =
    rw f.bytes_are (take_at (fed (take taken piece) (state_of s)).printed (drop written before) written (sym f.written_is))

fed_calls : {s z : Session} {input output : List ℕ} → Calls s input output z → fed input (state_of s) ≡ fed_to (state_of z) output
unfolding fed
fed_calls none = refl
fed_calls (more {s} {t} {z} {piece} {before} {after} {input} {output} {taken} {written} f rest) =
    fed_append (take taken piece) input (state_of s)
    ∙ rw (← f.state_is, fed_calls rest, ← wrote f)

-- what `finish` wrote
abbrev wrote_bytes : Option ℕ → ℕ
wrote_bytes (Some n) = n
wrote_bytes None = 0

abbrev wrote_any : Option ℕ → Bool
wrote_any (Some n) = true
wrote_any None = false

finished_text : {z : Session} {before after : List ℕ} {n : ℕ} → Finishes z before (Some n) after → take n after ≡ finish (state_of z)
finished_text {z} {before} {after} {n} f = go (leb finish_room (length before)) refl
  where
    text : List ℕ
    text = finish (state_of z)

    go : (b : Bool) → leb finish_room (length before) ≡ b → take n after ≡ text
    go true e =
        let result : Some n ≡ Some (length text) = f.result_is ∙ rw e in
        let size : n ≡ length text = ap wrote_bytes result in
        let bytes : after ≡ text ++ drop (length text) before = f.bytes_are ∙ rw e in
        rw bytes (take_at text (drop (length text) before) n (sym size))
    go false e =
        let result : Some n ≡ None = f.result_is ∙ rw e in
        absurd (true≢false (ap wrote_any result))

pub any_host : AnyHost
unfolding in_pieces whole
any_host s z input output before after n start calls f =
    rw (finished_text f)
    (let all : fed input first ≡ fed_to (state_of z) output = ap (fed input) (sym start) ∙ fed_calls calls in
    let one : (fed input first).printed ++ finish (fed input first).state ≡ replay (input ++ []) = any_pieces (input ∷ []) in
    (rw all at one) ∙ ap replay (append-nil input))
