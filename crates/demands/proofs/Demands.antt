-- Every demand holds: each by its own file.
use Rattle.demands.specs.Demands.{Demands}
use Rattle.demanded_refusals.proofs.Ends.{demand1}
use Rattle.demanded_refusals.proofs.Formed.{formed}
use Rattle.demanded_answers.proofs.Accepted.{accepted}
use Rattle.demanded_nonces.proofs.Nonces.{nonces}
use Rattle.demanded_nonces.proofs.NonceRepeats.{nonce_repeats_lem}
use Rattle.demanded_keys.proofs.Recovery.{recovery}
use Rattle.demanded_keys.proofs.RecoveryExample.{example}
use Rattle.demanded_keys.proofs.WaitingKey.{waiting_key_lem}
use Rattle.demanded_time.proofs.Reach.{reach}
use Rattle.demanded_time.proofs.ConsentLasts.{consent_lasts_lem}
use Rattle.demanded_answers.proofs.Edges.{edges}
use Rattle.demanded_time.proofs.Time.{demand3}
use Rattle.demanded_time.proofs.RingLasts.{ring_lasts_lem}
use Rattle.demanded_time.proofs.SleepUntil.{sleep_until_lem}
use Rattle.demanded_refusals.proofs.RefusalOrder.{refusal_order}
use Rattle.demanded_answers.proofs.RecordLines.{well_formed_exactly}
use Rattle.demanded_refusals.proofs.Refused.{refused}
use Rattle.demanded_keys.proofs.KeysByUse.{keys_by_use_lem}
use Rattle.demanded_answers.proofs.Events.{events}
use Rattle.demanded_answers.proofs.FrameRead.{frame_read}
use Rattle.demanded_answers.proofs.PrimitiveCalls.{primitive_calls}

pub demands : Demands
demands =
    record {
      ended = demand1;
      formed = formed;
      refusals = refusal_order;
      well_formed = well_formed_exactly;
      primitives = primitive_calls;
      accepted = accepted;
      refused = refused;
      events = events;
      frames_read = frame_read;
      nonces = nonces;
      nonce_repeats = nonce_repeats_lem;
      keys_by_use = keys_by_use_lem;
      recovered = recovery;
      recovered_once = example;
      waiting_key = waiting_key_lem;
      reach = reach;
      consent_lasts = consent_lasts_lem;
      edges = edges;
      sleeps = demand3;
      ring_lasts = ring_lasts_lem;
      sleep_until = sleep_until_lem;
    }
