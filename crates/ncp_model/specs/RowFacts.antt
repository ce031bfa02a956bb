-- More endpoints at the start of worked rows, and the results of the rows.
use Rattle.std.specs.Prelude.{ℕ, Bool, true, List, [], ◌∷◌, Option, None, Some, Result, Err}
use Rattle.std.specs.FinMap.{from_sorted}
use Rattle.ncp_wire.specs.declared.command.Command.{Command}
use Rattle.ncp_model.specs.declared.pair.Pair.{Pair}
use Rattle.ncp_model.specs.declared.call_fault.CallFault.{CallFault}
use Rattle.ncp_model.specs.declared.outcomes.Heard.{Heard}
use Rattle.ncp_model.specs.declared.outcomes.Heard.TheVariants.{Reply}
use Rattle.ncp_model.specs.Endpoint.{Endpoint, new_end}
use Rattle.ncp_model.specs.Effect.{Effect, Stays}
use Rattle.ncp_model.specs.Echo.{Error, Echoes}
use Rattle.ncp_model.specs.Ends.{Ends}
use Rattle.ncp_model.specs.EndpointEvents.{EndpointEvent, Text_comes, Outcome, Accepted, Erred, Transition}
use Rattle.ncp_model.specs.Rows.{asked_receive, asked_send, counting, due, err, gone, zero_bits, ones, opened_end, sent_one, shut, storing, with_stored}

-- two send sockets, and two receive sockets: no proper pair
abbrev pub both_send : Pair
both_send = record { local = 3; remote = 5 }

abbrev pub both_receive : Pair
both_receive = record { local = 2; remote = 4 }

-- socket 9 sends to socket 8, as either host names it
abbrev pub new_outward : Pair
new_outward = record { local = 9; remote = 8 }

abbrev pub new_inward : Pair
new_inward = record { local = 8; remote = 9 }

-- at the host of `both_ways`: the pair of its receiver, and of its local request
abbrev pub its_receiver : Pair
its_receiver = record { local = 4; remote = 7 }

abbrev pub its_request : Pair
its_request = record { local = 6; remote = 9 }

-- a sender's local request, with a size and a store; a receiver's, with a link and a store
abbrev pub send_request : ℕ → ℕ → Endpoint
send_request of_size with_room = record new_end { asked = true; size = of_size; room = with_room }

abbrev pub receive_request : ℕ → ℕ → Endpoint
receive_request on with_room = record new_end { asked = true; link = on; room = with_room }

-- both requests, but never open: the second arrived while the endpoint was closing
abbrev pub unmet_sender : Endpoint
unmet_sender = record asked_send { heard = true; link = 2 }

abbrev pub unmet_receiver : Endpoint
unmet_receiver = record asked_receive { heard = true; size = 8 }

-- with one byte of ones stored
abbrev pub loaded : Endpoint → Endpoint
loaded e = with_stored (ones 8) e

abbrev pub byte_stored : Endpoint
byte_stored = loaded opened_end

-- on another link; with bytes of 36 bits
abbrev pub linked_by : ℕ → Endpoint
linked_by on = record opened_end { link = on }

abbrev pub of_large_bytes : Endpoint
of_large_bytes = record opened_end { size = 36 }

-- after `count` interrupts; after as many as are counted
abbrev pub with_interrupts : ℕ → Endpoint → Endpoint
with_interrupts count e = record e { interrupts = count }

abbrev pub most_interrupted : Endpoint
most_interrupted = with_interrupts 4294967295 opened_end

-- with an unanswered GVB; just opened; with 5 messages and 20 bits outstanding
abbrev pub recalling : Endpoint → Endpoint
recalling e = record e { recall = true }

abbrev pub recalled_end : Endpoint
recalled_end = recalling opened_end

abbrev pub awaiting_ret : Endpoint
awaiting_ret = recalling (counting 5 20)

-- one message of one byte is allocated
abbrev pub one_granted : Endpoint
one_granted = counting 1 8

-- a sender with an unacknowledged text, and a receiver with an unanswered GVB, each after two interrupts
abbrev pub sender_in_use : Endpoint
sender_in_use = record (counting 3 24) { busy = true; interrupts = 2 }

abbrev pub receiver_in_use : Endpoint
receiver_in_use = record (counting 3 24) { recall = true; interrupts = 2 }

-- with every flag that a wrong effect might change
abbrev pub in_full_use : ℕ → ℕ → Endpoint
in_full_use of_messages of_bits =
    record (counting of_messages of_bits) { recall = true; interrupts = 2; stored = ones 8; busy = true }

-- an open endpoint: with an unacknowledged text; after its CLS; after both CLSs, when it is over
abbrev pub busy_end : Endpoint
busy_end = sent_one opened_end

abbrev pub left_end : Endpoint
left_end = gone opened_end

abbrev pub over_end : Endpoint
over_end = shut left_end

-- the peer's CLS arrived while `count` bits are held, which the user may still take
abbrev pub still_holding : ℕ → Endpoint
still_holding count = shut (due (storing (ones count)))

-- an echo is awaited, with this byte of the last one and these errors
abbrev pub awaiting : Option ℕ → List Error → Echoes
awaiting byte kept = record { awaited = true; echoed = byte; errors = kept }

-- the data of an ERR, byte by byte
abbrev pub ten_bytes : ℕ → ℕ → ℕ → ℕ → ℕ → ℕ → ℕ → ℕ → ℕ → ℕ → List ℕ
ten_bytes a b c d e f g h i j = a ∷ b ∷ c ∷ d ∷ e ∷ f ∷ g ∷ h ∷ i ∷ j ∷ []

-- a call is refused, and the endpoint is unchanged
abbrev pub refusal : {A : Type 0} → CallFault → Effect (Result A CallFault)
refusal fault = Stays (Err fault)

-- a command is answered by an ERR with this code and these bytes, and the endpoint is unchanged
abbrev pub erred : ℕ → List ℕ → Effect Heard
erred code data_bytes = Stays (Reply (err code data_bytes))

-- The transition to this endpoint, or to none, with this outcome; no command is made.
abbrev pub yields : Endpoint → Outcome → Transition
yields e what = record { after = Some e; made = []; outcome = what }

abbrev pub yields_none : Outcome → Transition
yields_none what = record { after = None; made = []; outcome = what }

-- The accepted transition to this endpoint that makes this command.
abbrev pub making : Endpoint → Command → Transition
making e c = record { after = Some e; made = c ∷ []; outcome = Accepted }

-- The transition that makes this command and leaves no endpoint.
abbrev pub leaves_none : Command → Outcome → Transition
leaves_none c what = record { after = None; made = c ∷ []; outcome = what }

-- The transition that makes an ERR with this code and these bytes; the endpoint, or its absence, is
-- unchanged.
abbrev pub errs_at : Option Endpoint → ℕ → List ℕ → Transition
errs_at before code data_bytes =
    record { after = before; made = err code data_bytes ∷ []; outcome = Erred (err code data_bytes) }

-- a text arrives, with a leader and a prefix of zeros
abbrev pub text_arrives : ℕ → List Bool → EndpointEvent
text_arrives of_size text = Text_comes (zero_bits 72) of_size text

-- a host with one endpoint
abbrev pub one_end : Pair → Endpoint → Ends
one_end pair e = from_sorted ((pair, e) ∷ [])
