-- All that is stated of the tag, gathered: who holds a proof of `Demands` holds a proof of each. The client's conditions of acceptance, word
-- for word:
--
-- "1. Every call on any bytes and any unit record ends, with a result or one refusal from the numbered list. A write refused with 0x80, 0x81
-- or 0x82 spends the nonce and changes nothing else in the unit; other refusals change nothing; no refusal touches the lent answer bytes.
-- Reason: a silent drop is how we lost him."
--
-- "2. Every answer, notification, frame and later state is what the published v1.3 rules and our house choices define, for every write,
-- read, button press and stretch of time. Each issue of a nonce authenticates at most one write. While a key stays set, recovery returns the
-- same 32 encrypted bytes that set it. Reason: phones we've never met must find our pumps."
--
-- "3. The tag sleeps. Take any two lists of these calls, refused ones included: read, write, button, pairing, battery, account key, lent
-- identifier, frame and elapsed time. Both start from equal fresh units, and each call gets the unit that the one before it left. Both have
-- the same calls other than time in the same order, and equal total time before the first of those, between neighbours and after the last
-- (in all, if there are none). A refused elapsed call counts as no time. However that time is cut into calls, even of length zero, both give
-- the same answers to the other calls, the same notifications in order at the same tenth of a second, and the same final unit. All of these
-- equal what the plain tag of our rules, moving one tenth at a time, gives for either list. Reason: a ring asked for ten minutes must last ten
-- minutes whether the chip dozed once or a thousand times."
--
-- And of the identifier that the tag works out: "Demand 2 then reads the curve definition; demand 3 no longer counts the identifier event."
--
-- And of the change that keeps a new key waiting: "Demands 2 and 3 count the disconnect as one more event, and recovery speaks of the key in
-- force."
--
-- And of parts that are out of reach: "Demand 3 counts the lent mask as part of the event."
--
-- And of a random source that is stuck: "Refusal 3 must be given when the lent nonce equals any of the last 16 issued, live or spent, a clear
-- (0x03) included. The seventeenth back is accepted."
--
-- And of ten account keys: "when an eleventh comes, drop the one least recently used in an accepted 0x00, 0x01 or 0x02, but never the owner.
-- Arrival counts as use; adding a key already held doesn't."
--
-- And of the number of tenths that it may sleep: "Show that any shorter sleep, cut as you like, gives no notification, the same frame or frame
-- refusal, and the same yes or no on consent; and that at the named tenth at least one of those four things happens."
use Rattle.demanded_refusals.specs.Ends.{Demand1}
use Rattle.demanded_refusals.specs.Formed.{Formed}
use Rattle.demanded_answers.specs.Accepted.{Accepted}
use Rattle.demanded_refusals.specs.Refused.{Refused}
use Rattle.demanded_refusals.specs.RefusalOrder.{RefusalOrder}
use Rattle.demanded_answers.specs.RecordLines.{WellFormedExactly}
use Rattle.demanded_answers.specs.Events.{Events}
use Rattle.demanded_answers.specs.FrameRead.{FrameRead}
use Rattle.demanded_answers.specs.PrimitiveCalls.{PrimitiveCalls}
use Rattle.demanded_nonces.specs.Nonces.{Demand2Nonces}
use Rattle.demanded_nonces.specs.NonceRepeats.{NonceRepeats}
use Rattle.demanded_keys.specs.KeysByUse.{KeysByUse}
use Rattle.demanded_keys.specs.Recovery.{Demand2Recovery}
use Rattle.demanded_keys.specs.RecoveryExample.{RecoveryExample}
use Rattle.demanded_keys.specs.WaitingKey.{WaitingKey}
use Rattle.demanded_time.specs.Reach.{Reach}
use Rattle.demanded_time.specs.Time.{Demand3}
use Rattle.demanded_time.specs.RingLasts.{RingLasts}
use Rattle.demanded_time.specs.ConsentLasts.{ConsentLasts}
use Rattle.demanded_time.specs.SleepUntil.{SleepUntil}
use Rattle.demanded_answers.specs.Edges.{Edges}

pub record Demands : Type 0 where
  -- 1: how every call ends, with which refusals in which order, the calls of the primitives too, and that a unit stays one that calls serve
  pub ended : Demand1
  pub formed : Formed
  pub refusals : RefusalOrder
  pub well_formed : WellFormedExactly
  pub primitives : PrimitiveCalls
  -- 2: what each call gives and leaves, and which writes are refused; nonces; keys by use; recovery, with an example of it; the key that waits; what is in
  -- reach; consent; the paper's examples
  pub accepted : Accepted
  pub refused : Refused
  pub events : Events
  pub frames_read : FrameRead
  pub nonces : Demand2Nonces
  pub nonce_repeats : NonceRepeats
  pub keys_by_use : KeysByUse
  pub recovered : Demand2Recovery
  pub recovered_once : RecoveryExample
  pub waiting_key : WaitingKey
  pub reach : Reach
  pub consent_lasts : ConsentLasts
  pub edges : Edges
  -- 3: however time is cut; and the reason given for it
  pub sleeps : Demand3
  pub ring_lasts : RingLasts
  -- and how long it may sleep
  pub sleep_until : SleepUntil
