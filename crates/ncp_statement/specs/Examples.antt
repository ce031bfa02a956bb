-- Notes for the examples of the page: A, host 1, gives to B, host 2, on the pair (1, 2).
use Rattle.std.specs.Prelude.{ℕ, Bool, List, length}
use Rattle.ncp_wire.specs.declared.answer.Answer.{Answer}
use Rattle.ncp_model.specs.declared.pair.Pair.{Pair}
use Rattle.ncp_model.specs.declared.call_fault.CallFault.TheVariants.{TooMuch}
use Rattle.ncp_model.specs.declared.outcomes.Took.{Took}
use Rattle.ncp_peer.specs.declared.received.Received.{Received}
use Rattle.ncp_peer.specs.declared.received.Received.TheVariants as received
use Rattle.ncp_subnet.specs.Messages.{link_in}
use Rattle.ncp_transcript.specs.declared.call.Call.TheVariants as calls
use Rattle.ncp_transcript.specs.declared.note.HostNote.TheVariants as of_host
use Rattle.ncp_transcript_two.specs.declared.side.Side.TheVariants.{A, B}
use Rattle.ncp_transcript_two.specs.declared.note.Move.{Move}
use Rattle.ncp_transcript_two.specs.declared.note.Note.{Note}
use Rattle.ncp_transcript_two.specs.declared.note.Note.TheVariants as notes
use Rattle.ncp_transcript_two.specs.Underway.{commands_of}

-- Calls.

abbrev pub out_pair : Pair
out_pair = record { local = 1; remote = 2 }

abbrev pub in_pair : Pair
in_pair = record { local = 2; remote = 1 }

abbrev pub asks_send : Note
asks_send = notes.Called A (of_host.Done (calls.AskSend 2 1 2 8 64))

abbrev pub asks_receive : Note
asks_receive = notes.Called B (of_host.Done (calls.AskReceive 1 2 1 64))

abbrev pub noted_allocate : ℕ → Note
noted_allocate bits = notes.Called B (of_host.Done (calls.Allocate 1 in_pair 1 bits))

abbrev pub noted_give : List Bool → Note
noted_give text = notes.Called A (of_host.Done (calls.Give 2 out_pair text))

abbrev pub refused : List Bool → Note
refused text = notes.Called A (of_host.Refused (calls.Give 2 out_pair text) TooMuch)

abbrev pub noted_take : List Bool → Note
noted_take text = notes.Called B (of_host.Took 1 in_pair 1 text)

-- Notes about a message of A, on the link in its leader.

abbrev pub noted_out : List Bool → Note
noted_out m = notes.Out A (of_host.Out m)

abbrev pub noted_in : List Bool → List Bool → Received → Note
noted_in m as_bits told = notes.Came A (link_in m) (of_host.In as_bits told)

abbrev pub is_lost : List Bool → Note
is_lost m = notes.Lost A (link_in m)

abbrev pub noted_answer : List Bool → Answer → Received → Note
noted_answer m how told = notes.Answered A (link_in m) (of_host.Answered 2 (link_in m) how told)

-- the subnet has no message on that link for this move
abbrev pub had_none : List Bool → Move → Note
had_none m wanted = notes.Nothing A (link_in m) wanted

-- Arrivals at B.

abbrev pub text_came : List Bool → Took → Note
text_came m it = notes.Came A 2 (of_host.In m (received.Text it))

abbrev pub came_read : List Bool → Note
came_read m = notes.Came A 0 (of_host.In m (received.Control (length (commands_of m))))

-- a control message whose bytes are not of eight bits
abbrev pub came_unread : List Bool → Note
came_unread m = notes.Came A 0 (of_host.In m received.WrongSize)
