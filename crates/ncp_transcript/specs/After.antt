-- The state of a host after notes. An accepted call changes it by the rules. A refused call, also one
-- refused on allocation failure, and a reading leave it unchanged.
use Rattle.std.specs.Prelude.{List, [], ◌∷◌}
use Rattle.ncp_model.specs.Peers.{Take}
use Rattle.ncp_peer.specs.PeerState.{answer_comes}
use Rattle.ncp_host.specs.Host.{Host, changed}
use Rattle.ncp_host.specs.Calls.{after_call_to}
use Rattle.ncp_host.specs.Arrivals.{after_received}
use Rattle.ncp_host.specs.Turns.{after_next_output}
use Rattle.ncp_transcript.specs.declared.call.Call.{Call}
use Rattle.ncp_transcript.specs.declared.note.HostNote.{HostNote}
use Rattle.ncp_transcript.specs.declared.note.HostNote.TheVariants as notes
use Rattle.ncp_transcript.specs.Asked.{asked_in, host_after_asked}

-- after an accepted call
abbrev pub after_call : Call → Host → Host
after_call call h = host_after_asked (asked_in call) h

abbrev pub after_note : HostNote → Host → Host
after_note (notes.Done call) h = after_call call h
after_note (notes.Took peer pair bytes text) h = after_call_to peer pair (Take bytes) h
after_note (notes.Out message) h = after_next_output h
after_note (notes.In message received) h = after_received message h
after_note (notes.Answered peer link answer received) h = changed peer (answer_comes link answer) h
after_note other h = h

-- after notes, in order
abbrev pub after_notes : List HostNote → Host → Host
after_notes [] h = h
after_notes (note ∷ rest) h = after_notes rest (after_note note h)
