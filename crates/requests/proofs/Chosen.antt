-- A write as a whole: the judgement, from what the code tests.
use Prim.Native.Nat.{ℕ, ◌-◌}
use mathlib.Core.Path.{◌≡◌, sym, ap, ◌∙◌}
use mathlib.Core.Bool.{Bool, true, false, ◌||◌}
use mathlib.Core.List.{List}
use native.Mathlib.Omega.{arith}
use lib.Dec.{ltb}
use lib.ListN.{length, take, drop, length-drop}
use lib.Seq.{take_all}
use Rattle.std.specs.Prelude.{Err}
use Rattle.wire.specs.Shape.{Request, request, parsed, size_legal, shape_legal}
use Rattle.wire.specs.declared.Head.{Head}
use Rattle.unit.specs.Change.{spent}
use Rattle.unit.specs.Refusals.{refusal_number}
use Rattle.unit.specs.Ringable.{inside}
use Rattle.unit.specs.Outcome.{Answers}
use Rattle.unit.specs.WellFormed.{well_formed}
use Rattle.unit.specs.declared.TagUnit.{TagUnit}
use Rattle.unit.specs.declared.Step.{Step}
use Rattle.unit.specs.declared.Refusal.{Refusal}
use Rattle.unit.proofs.Kept.{spent_kept}
use Rattle.unit.proofs.Ends.{refused_answers}
use Rattle.authentication.specs.Judgement.{Judgement, rejects, not_authenticated, invalid_value, concluded}
use Rattle.authentication.specs.Promises.{Ruling, Ready, Judges}
use Rattle.authentication.proofs.Judged.{refusal}
use Rattle.sizes.specs.Sizes.{head_size}
use Rattle.handlers.specs.ById.{by_id}
use Rattle.requests.specs.Write.{needs_key, key_there, judged, written}
use Rattle.write_shape.proofs.Shaped.{sizes_legal, length_is, head_inside}

module _ (u : TagUnit) (w : List ℕ) (reach : ℕ) where
  pub judged_shapeless : shape_legal w ≡ false → judged u w reach ≡ invalid_value
  unfolding judged
  judged_shapeless unmet = rw unmet

  module _ (shaped : shape_legal w ≡ true) where
    pub judged_dead : u.nonces.live ≡ false → judged u w reach ≡ not_authenticated
    unfolding judged
    judged_dead unmet = rw (shaped, unmet)

    module _ (live : u.nonces.live ≡ true) where
      pub judged_keyless : key_there u (parsed w) ≡ false → judged u w reach ≡ not_authenticated
      unfolding judged
      judged_keyless unmet = rw (shaped, live, unmet)

      pub judged_by_id : key_there u (parsed w) ≡ true → judged u w reach ≡ by_id (spent u) (parsed w) reach
      unfolding judged
      judged_by_id met = rw (shaped, live, met)

  -- The whole write: refused with a reach that is outside, and else judged on the unit with its nonce spent
  pub reach_refused : (r : Step) (lent : List ℕ) → (r.unit ≡ u) × (r.reply ≡ Err Refusal.OutOfRange)
      → inside reach u.settings.components ≡ false → Answers (written u w reach) r.unit r.reply lent lent
  unfolding written
  reach_refused r lent ends unmet = rw unmet (refused_answers lent ends)

  written_judged : inside reach u.settings.components ≡ true → written u w reach ≡ concluded (spent u) (judged u w reach)
  unfolding written
  written_judged met = rw met

  module _ (within : inside reach u.settings.components ≡ true) {after : TagUnit} (changed : after ≡ spent u) where
    pub write_refused : (r : Step) (x : Refusal) (lent : List ℕ) → (r.unit ≡ after) × (r.reply ≡ Err x)
        → judged u w reach ≡ rejects (refusal_number x) → Answers (written u w reach) r.unit r.reply lent lent
    write_refused r x lent ends is = rw (written_judged within) (refusal (spent u) (judged u w reach) r x lent (ends.0 ∙ changed, ends.1) is)

    pub after_formed : well_formed u ≡ true → well_formed after ≡ true
    after_formed formed = rw changed (spent_kept u formed)

    module _ {h : Head} (head : request h (drop head_size w) ≡ parsed w) where
      pub key_there_lem : {there : Bool} → there ≡ ltb h.id needs_key || u.identity.held → key_there u (parsed w) ≡ there
      key_there_lem e = sym (e ∙ ap (λ (q : Request). ltb q.id needs_key || u.identity.held) head)

      tail_is : take (length w - head_size) (drop head_size w) ≡ drop head_size w
      tail_is = take_all (length w - head_size) (drop head_size w) (omega (arith, length-drop head_size w))

      pub write_ready : well_formed u ≡ true → shape_legal w ≡ true
          → Ready after h.size (take (length w - head_size) (drop head_size w)) × (size_legal h.id h.size ≡ true)
      unfolding parsed
      write_ready formed shaped =
          let size = ap (λ (q : Request). q.size) head in
          let id = ap (λ (q : Request). q.id) head in (
            record {
              formed = after_formed formed;
              sized = rw tail_is (omega (arith, size, length-drop head_size w, length_is w shaped, head_inside w shaped));
            },
            rw (id, size) (sizes_legal w shaped),
          )

      pub write_judged : (r : Step) {v : Ruling} {before last : List ℕ} → judged u w reach ≡ by_id (spent u) (parsed w) reach
          → Judges after h.id (by_id after (request h (take (length w - head_size) (drop head_size w))) reach) v
          → ((j : Judgement) → Judges after h.id j v → Answers (concluded after j) r.unit r.reply before last)
          → Answers (written u w reach) r.unit r.reply before last
      write_judged r is p ends =
          let e = is ∙ ap (λ (q : Request). by_id (spent u) q reach) (sym head) in
          rw (written_judged within, e, ← changed) (rw tail_is at (ends _ p))
