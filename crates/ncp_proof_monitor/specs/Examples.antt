-- Recordings at the interface of host 1, examples for the laws.
use Rattle.std.specs.Prelude.{ℕ, Bool, true, false, List, [], ◌∷◌, ◌++◌, replicate}
use Rattle.ncp_wire.specs.declared.answer.Answer.TheVariants.{Incomplete}
use Rattle.ncp_peer.specs.declared.received.Received.{Received}
use Rattle.ncp_transcript.specs.declared.input.Input.{Input}
use Rattle.ncp_transcript.specs.declared.note.HostNote.{HostNote}
use Rattle.ncp_transcript_two.specs.declared.side.Side.TheVariants.{A}
use Rattle.ncp_transcript_two.specs.declared.event.Event.{Event}
use Rattle.ncp_transcript_two.specs.declared.note.Note.{Note}
use Rattle.ncp_proof_runs.specs.Examples.{byte_of_two, message_on_0}
use Rattle.ncp_interface.specs.declared.imp_direction.ImpDirection.{ImpDirection}
use Rattle.ncp_interface.specs.declared.imp_direction.ImpDirection.TheVariants.{ToImp, FromImp}

-- two bits: less than a leader
abbrev pub too_short : List (ImpDirection × List Bool)
too_short = (ToImp, true ∷ true ∷ []) ∷ []

-- the same at the interface of host 2, then at that of host 1
abbrev pub both_short : List (ℕ × ImpDirection × List Bool)
both_short = (2, ToImp, true ∷ true ∷ []) ∷ (1, ToImp, true ∷ true ∷ []) ∷ []

-- a control message to host 2 of one byte, 14, which is no command
abbrev pub no_command : List (ImpDirection × List Bool)
no_command =
    (ToImp, message_on_0 ++ replicate 12 false ++ (true ∷ []) ++ replicate 18 false ++ (true ∷ []) ++ replicate 12 false ++ (true ∷ true ∷ true ∷ false ∷ [])) ∷ []

-- a control message of RST, RST, RRP and NOP, which are 12, 12, 13 and 0
abbrev pub wrong_resets : List (ImpDirection × List Bool)
wrong_resets =
    let twelve : List Bool = true ∷ true ∷ false ∷ false ∷ [] in (
      ToImp,
      message_on_0 ++ replicate 12 false ++ (true ∷ []) ++ replicate 16 false ++ (true ∷ []) ++ replicate 14 false ++ twelve ++ replicate 4 false ++ twelve ++ replicate 4 false ++ (true ∷ true ∷ false ∷ true ∷ []) ++ replicate 8 false,
    ) ∷ []

-- a message on link 0 to host 2, and again without an answer between
abbrev pub two_at_once : List (ImpDirection × List Bool)
two_at_once = (ToImp, message_on_0) ∷ (ToImp, message_on_0) ∷ []

-- Incomplete Transmission of host 2 on link 0
abbrev pub incomplete_from_2 : List Bool
incomplete_from_2 = replicate 4 false ++ (true ∷ false ∷ false ∷ true ∷ []) ++ byte_of_two ++ replicate 16 false

-- a message is sent and lost: the host's inputs, its notes, and the records at its interface
abbrev pub lost_given : List Input
lost_given = Input.Out ∷ Input.In incomplete_from_2 ∷ []

abbrev pub lost_noted : List HostNote
lost_noted = HostNote.Out message_on_0 ∷ HostNote.Answered 2 0 Incomplete Received.Answered ∷ []

abbrev pub lost_seen : List (ImpDirection × List Bool)
lost_seen = (ToImp, message_on_0) ∷ (FromImp, incomplete_from_2) ∷ []

-- and it is sent again
abbrev pub once_more : List (ImpDirection × List Bool)
once_more = lost_seen ++ (ToImp, message_on_0) ∷ []

-- of hosts 1 and 2, host 1 sends that message
abbrev pub goes_of_two : List Event
goes_of_two = Event.Out A ∷ []

abbrev pub noted_of_two : List Note
noted_of_two = Note.Out A (HostNote.Out message_on_0) ∷ []

abbrev pub file_of_two : List (ℕ × ImpDirection × List Bool)
file_of_two = (1, ToImp, message_on_0) ∷ []
