-- Example notes for the definitions.
use Rattle.std.specs.Prelude.{Some, Bool, true, false, List, [], ◌∷◌, ◌++◌, replicate}
use Rattle.ncp_wire.specs.declared.command.Command.{Command}
use Rattle.ncp_wire.specs.declared.answer.Answer.TheVariants.{Rfnm, Incomplete, Dead}
use Rattle.ncp_model.specs.Rows.{ones}
use Rattle.ncp_model.specs.declared.outcomes.Error.{Error}
use Rattle.ncp_model.specs.Phase.{up_phase}
use Rattle.ncp_model.specs.Peers.{new_peer}
use Rattle.ncp_model.specs.EndpointEvents.{EndpointEvent, Outcome}
use Rattle.ncp_model.specs.declared.call_fault.CallFault.TheVariants.{UnknownPeer}
use Rattle.ncp_peer.specs.declared.received.Received.{Received}
use Rattle.ncp_peer.specs.PeerState.{PeerState, new_state}
use Rattle.ncp_transcript.specs.declared.call.Call.{Call}
use Rattle.ncp_transcript.specs.declared.note.HostNote.{HostNote}
use Rattle.ncp_proof_runs.specs.Acts.{Acted}
use Rattle.ncp_proof_runs.specs.Echoing.{EchoHistory}

-- host 1 has peers 2 and 3: a reset of peer 2, the flags of peer 3, a reset of a host that is no peer,
-- three bits, and the ignored counts
abbrev pub two_peers : List HostNote
two_peers =
    HostNote.Done (Call.Reset 2)
    ∷ HostNote.Phase 3 (record { down = true; want = false; owe = false; wait = false })
    ∷ HostNote.Refused (Call.Reset 4) UnknownPeer
    ∷ HostNote.In (true ∷ true ∷ true ∷ []) Received.Short
    ∷ HostNote.Ignored (record { short = 1; other = 0; unknown = 0 })
    ∷ []

-- messages to peer 2, leaders only: on link 0, and on link 2

abbrev pub byte_of_two : List Bool
byte_of_two = false ∷ false ∷ false ∷ false ∷ false ∷ false ∷ true ∷ false ∷ []

abbrev pub message_on_0 : List Bool
message_on_0 = replicate 8 false ++ byte_of_two ++ replicate 16 false

abbrev pub message_on_2 : List Bool
message_on_2 = replicate 8 false ++ byte_of_two ++ byte_of_two ++ replicate 8 false

-- the first message is sent and lost, and sent again to a dead destination; then a stray answer arrives,
-- and the second message is sent; the first is woken, sent once more, and acknowledged

abbrev pub notes_lost : List HostNote
notes_lost = HostNote.Out message_on_0 ∷ HostNote.Answered 2 0 Incomplete Received.Answered ∷ []

abbrev pub notes_held : List HostNote
notes_held = notes_lost ++ HostNote.Out message_on_0 ∷ HostNote.Answered 2 0 Dead Received.Answered ∷ []

abbrev pub notes_stray : List HostNote
notes_stray = HostNote.Answered 2 0 Rfnm Received.Stray ∷ HostNote.Out message_on_2 ∷ []

abbrev pub notes_woken : List HostNote
notes_woken = HostNote.Done (Call.Wake 2) ∷ []

abbrev pub notes_taken : List HostNote
notes_taken = HostNote.Out message_on_0 ∷ HostNote.Answered 2 0 Rfnm Received.Answered ∷ []

-- events on a pair that receives: both requests, an allocation and a text of two bytes; the peer's CLS,
-- unmatched while they are held; and a take that leaves nothing and makes the local CLS

abbrev pub asking : Acted
asking = record { what = EndpointEvent.Asks_to_receive 64 2 0 false; outcome = Outcome.Accepted; made = Command.Rts 2 3 2 ∷ [] }

abbrev pub is_asked : Acted
is_asked = record { what = EndpointEvent.Str_comes 8 0; outcome = Outcome.Accepted; made = [] }

abbrev pub allocating : Acted
allocating = record { what = EndpointEvent.Allocates 3 32 false; outcome = Outcome.Accepted; made = Command.All 2 3 32 ∷ [] }

abbrev pub gets : Acted
gets = record { what = EndpointEvent.Text_comes [] 8 (ones 16); outcome = Outcome.Admitted; made = [] }

abbrev pub cls_comes : Acted
cls_comes = record { what = EndpointEvent.Cls_comes; outcome = Outcome.Accepted; made = [] }

abbrev pub taking : Acted
taking = record { what = EndpointEvent.Takes 2; outcome = Outcome.Took_out (ones 16); made = Command.Cls 2 3 ∷ [] }

-- a close, which makes its CLS; a refused request; and an answered GVB, at a sender

abbrev pub closes : Acted
closes = record { what = EndpointEvent.Closes false; outcome = Outcome.Accepted; made = Command.Cls 2 3 ∷ [] }

abbrev pub asked_wrongly : Acted
asked_wrongly = record { what = EndpointEvent.Str_comes 0 0; outcome = Outcome.Erred (Command.Err 3 []); made = Command.Err 3 [] ∷ [] }

abbrev pub gives_back : Acted
gives_back = record { what = EndpointEvent.Gvb_comes 2 64 128; outcome = Outcome.Accepted; made = Command.Ret 2 1 16 ∷ [] }

-- a host that is up, without a connection; it awaits an echo, after one that was answered and an ERR
-- received

abbrev pub up_state : PeerState
up_state = record new_state { peer = record new_peer { phase = up_phase } }

abbrev pub one_error : Error
one_error = record { code = 3; bytes = 9 ∷ [] }

abbrev pub other_error : Error
other_error = record { code = 4; bytes = 9 ∷ [] }

abbrev pub echo_before : EchoHistory
echo_before = record { asked = true; byte = Some 64; errors = one_error ∷ [] }

abbrev pub many_errors : List Error
many_errors = replicate 16 other_error
