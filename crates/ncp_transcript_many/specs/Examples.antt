-- Two examples: events in a network of three new hosts, and their notes. A note records one event with
-- its result. src/examples.rt proves that `first_notes` are the notes of `first_events`, and picks out of
-- `row_notes` the notes of two hosts, or of one; that these are the notes of `row_events` is not stated
-- there.
use Rattle.std.specs.Prelude.{ℕ, Bool, true, false, List, [], ◌∷◌}
use Rattle.ncp_numbers.specs.Bytes.{bits_of_bytes}
use Rattle.ncp_peer.specs.declared.received.Received.TheVariants as received
use Rattle.ncp_transcript.specs.declared.call.Call.TheVariants as calls
use Rattle.ncp_transcript.specs.declared.note.HostNote.TheVariants as of_host
use Rattle.ncp_transcript_many.specs.declared.many_event.ManyEvent.{ManyEvent}
use Rattle.ncp_transcript_many.specs.declared.many_event.ManyEvent.TheVariants as events
use Rattle.ncp_transcript_many.specs.declared.many_note.ManyNote.{ManyNote}
use Rattle.ncp_transcript_many.specs.declared.many_note.ManyNote.TheVariants as many
use Rattle.ncp_transcript_many.specs.Network.{Network, new_network}

abbrev pub three_hosts : List ℕ
three_hosts = 1 ∷ 2 ∷ 3 ∷ []

abbrev pub three_new : Network
three_new = new_network three_hosts

-- a control message with one RST: `host` is its destination when it is sent, its source when it arrives
abbrev pub rst_with : ℕ → List Bool
rst_with host = bits_of_bytes (0 ∷ host ∷ 0 ∷ 0 ∷ 0 ∷ 8 ∷ 0 ∷ 1 ∷ 0 ∷ 12 ∷ [])

-- The user of host 1 resets 2 and 3. Host 1 is asked three times for its next message, and its message to
-- 3 on link 0 is delivered. Then the users of 3 and of 2 read the flags of their hosts for host 1.
abbrev pub row_events : List ManyEvent
row_events =
    events.Call 1 (calls.Reset 2)
    ∷ events.Call 1 (calls.Reset 3)
    ∷ events.Out 1
    ∷ events.Out 1
    ∷ events.Out 1
    ∷ events.Deliver 1 3 0
    ∷ events.Call 3 (calls.Phase 1)
    ∷ events.Call 2 (calls.Phase 1)
    ∷ []

-- Two resets are done. An RST to 2 is sent, one to 3, and then nothing. The one to 3 arrives, a control
-- text of one command. Then 3 is up with 1 (no flag is set), and 2 is still down with 1.
abbrev pub row_notes : List ManyNote
row_notes =
    many.Called 1 (of_host.Done (calls.Reset 2))
    ∷ many.Called 1 (of_host.Done (calls.Reset 3))
    ∷ many.Out 1 (of_host.Out (rst_with 2))
    ∷ many.Out 1 (of_host.Out (rst_with 3))
    ∷ many.Out 1 of_host.Nothing
    ∷ many.Came 1 3 0 (of_host.In (rst_with 1) (received.Control 1))
    ∷ many.Called 3 (of_host.Phase 1 (record { down = false; want = false; owe = false; wait = false }))
    ∷ many.Called 2 (of_host.Phase 1 (record { down = true; want = false; owe = false; wait = false }))
    ∷ []

-- The user of host 1 resets 2, and that of 2 reads its flags for 1. A message from 1 to 3 on link 0 is to
-- be delivered, and host 4 is asked for its next message.
abbrev pub first_events : List ManyEvent
first_events = events.Call 1 (calls.Reset 2) ∷ events.Call 2 (calls.Phase 1) ∷ events.Deliver 1 3 0 ∷ events.Out 4 ∷ []

-- The reset is done, and 2 is down with 1. Nothing is in transit from 1 to 3, and there is no host 4:
-- both events are noted as impossible.
abbrev pub first_notes : List ManyNote
first_notes =
    many.Called 1 (of_host.Done (calls.Reset 2))
    ∷ many.Called 2 (of_host.Phase 1 (record { down = true; want = false; owe = false; wait = false }))
    ∷ many.Nothing (events.Deliver 1 3 0)
    ∷ many.Nothing (events.Out 4)
    ∷ []
