-- A ring lasts as long as it was asked for: the accepted 0x05 starts it (RingStarts), and the list goes on from there (RingRuns). A run from a
-- fresh unit comes to the world after its first part, and goes on from that.
use Prim.Native.Nat.{ℕ}
use mathlib.Core.Path.{◌≡◌, refl, sym, ap, subst, ◌∙◌}
use mathlib.Core.List.{List, [], ◌∷◌, ◌++◌}
use Rattle.unit.specs.declared.TagUnit.{TagUnit}
use Rattle.unit.specs.declared.Settings.{Settings}
use Rattle.unit.specs.declared.Identity.{Identity}
use Rattle.unit.specs.Change.{fresh}
use Rattle.unit.proofs.Lines.{lines, ring_held}
use Rattle.tag.specs.Calls.{Written, Act}
use Rattle.demanded_answers.specs.History.{step, after, writes}
use Rattle.demanded_nonces.specs.Nonces.{Issue}
use Rattle.demanded_time.specs.Time.{World, start, slept, ran, runs}
use Rattle.demanded_nonces.specs.Among.{NoneIn, tenths_in}
use Rattle.demanded_time.specs.RingLasts.{Starts, asked_in, Disturbs, Lasts, RingLasts}
use Rattle.demanded_nonces.proofs.Histories.{after_append}
use Rattle.demanded_nonces.proofs.Nonces.{nonces}
use Rattle.demanded_time.proofs.RingTenths.{silent_call, ringing_call, ending_call}
use Rattle.demanded_time.proofs.CallsOnSound.{time_passes}
use Rattle.demanded_time.proofs.RingStarts.{begun, start_formed, start_succeeds}
use Rattle.demanded_time.proofs.RingRuns.{ran_unit, next_formed, ring_run}

-- From whatever a run has come to
lasting : (w : World) (ring : Written) (room : ℕ) (l : List Act) → Starts ring room w.unit
    → NoneIn Disturbs l (step (writes ring room) w.unit).unit
    → Lasts (asked_in ring.bytes) w.unit.identity.bytes w.unit.nonces.newest (tenths_in l)
    (runs slept (writes ring room ∷ []) w)
    (runs slept (writes ring room ∷ l) w)
unfolding runs
lasting w ring room l s free =
    let a = writes ring room in
    let v = ran slept a w in
    let unit = ran_unit a w in
    let b = begun w.unit ring room s in
    let ringing = ap (λ (x : TagUnit). x.sound) unit ∙ b.sounds in
    let g =
    ring_run b.mask b.volume w.unit.identity.bytes w.unit.nonces.newest l v (asked_in ring.bytes)
    (next_formed a w (start_formed w.unit ring room s))
    (record {
      ringing = ringing;
      key = ap (λ (x : TagUnit). x.identity.bytes) unit ∙ ap (λ (x : Identity). x.bytes) b.identity;
      tagged = ap (λ (x : TagUnit). x.ring_nonce) unit ∙ b.nonce;
    })
    (subst (λ (x : TagUnit). NoneIn Disturbs l x) (sym unit) free) in
    record {
      mask = b.mask;
      volume = b.volume;
      begun = ringing;
      on_sound = g.on_sound;
      on_nonce = g.on_nonce;
      on_notices = g.on_notices;
      over_sound = g.over_sound;
      over_nonce = g.over_nonce;
      over_notices = g.over_notices;
    }

-- Runs in two parts, and their units
runs_append : (g h : List Act) (w : World) → runs slept (g ++ h) w ≡ runs slept h (runs slept g w)
unfolding runs
runs_append [] h w = refl
runs_append (a ∷ g) h w = runs_append g h (ran slept a w)

pub runs_unit : (h : List Act) (w : World) → (runs slept h w).unit ≡ after h w.unit
unfolding runs after
runs_unit [] w = refl
runs_unit (a ∷ h) w = runs_unit h (ran slept a w) ∙ ap (after h) (ran_unit a w)

-- the same ring, of equal keys, nonces and worlds
same_ring : {t n : ℕ} {identity i nonce m : List ℕ} {v x z y : World} → identity ≡ i → nonce ≡ m → v ≡ x → z ≡ y → Lasts t identity nonce n v z → Lasts t i m n x y
same_ring {t} {n} {identity} {i} {nonce} {m} {v} {x} {z} {y} p q r s l =
    subst (λ (d : World). Lasts t i m n x d) s
    (subst (λ (c : World). Lasts t i m n c z) r
    (subst (λ (b : List ℕ). Lasts t i b n v z) q (subst (λ (a : List ℕ). Lasts t a nonce n v z) p l)))

as_read_lem : (s : Settings) (h : List Act) (ring : Written) (room : ℕ) (l : List Act) → Starts ring room (after h (fresh s))
    → NoneIn Disturbs l (after (h ++ (writes ring room ∷ [])) (fresh s))
    → (nonce : List ℕ)
    × Issue (fresh s) h nonce
    × Lasts (asked_in ring.bytes) (after h (fresh s)).identity.bytes nonce (tenths_in l)
    (runs slept (h ++ (writes ring room ∷ [])) (start (fresh s)))
    (runs slept (h ++ (writes ring room ∷ l)) (start (fresh s)))
unfolding after
as_read_lem s h ring room l starts free =
    let a = writes ring room in
    let w = runs slept h (start (fresh s)) in
    let unit : w.unit ≡ after h (fresh s) = runs_unit h (start (fresh s)) in
    let found = nonces.own s h ring room (start_succeeds (after h (fresh s)) ring room starts) in
    let free-there : NoneIn Disturbs l (step a (after h (fresh s))).unit
    = subst (λ (x : TagUnit). NoneIn Disturbs l x) (after_append h (a ∷ []) (fresh s)) free in
    let lasts =
    lasting w ring room l (subst (λ (x : TagUnit). Starts ring room x) (sym unit) starts)
    (subst (λ (x : TagUnit). NoneIn Disturbs l (step a x).unit) (sym unit) free-there) in (
      found.0,
      found.1,
      same_ring (ap (λ (x : TagUnit). x.identity.bytes) unit)
          (ap (λ (x : TagUnit). x.nonces.newest) unit ∙ nonces.whose s h found.0 found.1)
          (sym (runs_append h (a ∷ []) (start (fresh s))))
          (sym (runs_append h (a ∷ l) (start (fresh s))))
          lasts,
    )

pub ring_lasts_lem : RingLasts
ring_lasts_lem =
    record {
      on = λ u mask volume left n room w fits e h. rw (time_passes n room u w fits) (ringing_call n u e h);
      over = λ u mask volume left n room w fits e h.
          rw (time_passes n room u w fits) (ending_call n u e (ring_held (lines u w) e).least h);
      silent = λ u n room w fits e. rw (time_passes n room u w fits) (silent_call n u e);
      lasts = lasting;
      as_read = as_read_lem;
    }
