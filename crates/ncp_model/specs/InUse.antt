-- Endpoints in use, the states before and after worked rows, and the events of these rows.
use Rattle.std.specs.Prelude.{ℕ, Bool, false, List, [], ◌∷◌, ◌++◌, length, Some, Result, ◌≡◌}
use Rattle.ncp_wire.specs.declared.command.Command.{Command}
use Rattle.ncp_model.specs.declared.pair.Pair.{Pair}
use Rattle.ncp_model.specs.declared.call_fault.CallFault.{CallFault}
use Rattle.ncp_model.specs.Endpoint.{Endpoint}
use Rattle.ncp_model.specs.Ends.{Ends}
use Rattle.ncp_model.specs.Effect.{Effect}
use Rattle.ncp_model.specs.Calls.{allocate}
use Rattle.ncp_model.specs.Echo.{Error, Echoes, no_echoes, hear_err}
use Rattle.ncp_model.specs.EndpointEvents.{Text_comes}
use Rattle.ncp_model.specs.Demux.{leads}
use Rattle.ncp_model.specs.Rows.{outward, inward, asked_receive, counting, gone, zero_bits, ones, opened_end, sent_one, shut, storing, with_counters, with_stored}
use Rattle.ncp_model.specs.RowFacts.{byte_stored, loaded, of_large_bytes, one_end, one_granted, receive_request, receiver_in_use, sender_in_use, with_interrupts}

-- the pair of a socket here and one at the peer
abbrev pub joining : ℕ → ℕ → Pair
joining here there = record { local = here; remote = there }

-- three bytes: two of ones, one of zeros
abbrev pub three_bytes : List Bool
three_bytes = ones 16 ++ zero_bits 8

-- the sender and the receiver in use: with one byte, with other counters, and (the receiver) with two
-- bytes
abbrev pub loaded_sender : Endpoint
loaded_sender = loaded sender_in_use

abbrev pub loaded_receiver : Endpoint
loaded_receiver = loaded receiver_in_use

abbrev pub sender_with : ℕ → ℕ → Endpoint
sender_with of_messages of_bits = with_counters of_messages of_bits sender_in_use

abbrev pub receiver_with : ℕ → ℕ → Endpoint
receiver_with of_messages of_bits = with_counters of_messages of_bits receiver_in_use

abbrev pub twice_loaded_receiver : Endpoint
twice_loaded_receiver = with_stored (ones 16) receiver_in_use

-- one byte and these counters; also after two interrupts
abbrev pub loaded_with : ℕ → ℕ → Endpoint
loaded_with of_messages of_bits = loaded (counting of_messages of_bits)

abbrev pub after_interrupts : ℕ → ℕ → Endpoint
after_interrupts of_messages of_bits = loaded (with_interrupts 2 (counting of_messages of_bits))

abbrev pub after_ins : Endpoint
after_ins = after_interrupts 3 24

-- an allocation of five messages and 1,000 bits; a byte after two interrupts
abbrev pub allocated : Endpoint
allocated = counting 5 1000

abbrev pub used_byte : Endpoint
used_byte = with_interrupts 2 byte_stored

-- a full store: seven bytes of zeros, one of ones; and a store with one byte of 36 bits
abbrev pub filled_store : Endpoint
filled_store = storing (zero_bits 56 ++ ones 8)

abbrev pub large_byte_stored : Endpoint
large_byte_stored = with_stored (ones 36) of_large_bytes

-- three bytes are held
abbrev pub three_stored : Endpoint
three_stored = storing three_bytes

-- a sender with three bytes stored, two messages and 16 bits; after two bytes were acknowledged; while
-- they are unacknowledged
abbrev pub three_waiting : Endpoint
three_waiting = with_stored three_bytes (counting 2 16)

abbrev pub byte_left : Endpoint
byte_left = with_stored (zero_bits 8) (counting 1 0)

abbrev pub two_sent : Endpoint
two_sent = sent_one byte_left

-- its receiver after those two bytes arrived
abbrev pub got_two : Endpoint
got_two = with_stored (ones 16) (counting 1 0)

-- a receiver that holds one byte, with two messages and 16 bits outstanding; after two more bytes arrived
abbrev pub byte_held : Endpoint
byte_held = with_stored (zero_bits 8) (counting 2 16)

abbrev pub three_bytes_held : Endpoint
three_bytes_held = with_stored (zero_bits 8 ++ ones 16) (counting 1 0)

-- three bytes are stored, and one message with all but one bit of them is allocated
abbrev pub a_bit_short : Endpoint
a_bit_short = with_stored (ones 24) (counting 1 23)

-- the peer's CLS arrived, with two messages and 16 bits; the CLS was made, with one message of one byte
abbrev pub shut_sender : Endpoint
shut_sender = shut (counting 2 16)

abbrev pub left_granted : Endpoint
left_granted = gone one_granted

-- a sender and two receivers, the one on link 2 having left; and a receiver on link 3 alone
abbrev pub left_beside_others : List (Pair × Endpoint)
left_beside_others =
    (outward, opened_end) ∷ (joining 4 5, receive_request 3 64) ∷ (inward, gone asked_receive) ∷ []

abbrev pub third_link_used : Ends
third_link_used = one_end (joining 4 5) (receive_request 3 64)

-- the receiver allocates, and the queue has room
abbrev pub allocates_at : ℕ → ℕ → Endpoint → Effect (Result Command CallFault)
allocates_at of_messages of_bits e = allocate inward of_messages of_bits false (Some e)

-- whether an empty text with this leader and prefix is for the receiver on link 2
abbrev pub is_demuxed_by : List Bool → Bool
is_demuxed_by head = leads inward (Text_comes head 8 []) (Some opened_end)

-- a leader and prefix that end in a byte of ones
abbrev pub ends_in_ones : List Bool
ends_in_ones = zero_bits 64 ++ ones 8

-- for every endpoint with `count` bits stored, a byte size, and `of_bits` bits allocated
abbrev pub OfEndsStoring : ℕ → ℕ → ℕ → (Endpoint → Type 0) → Type 0
OfEndsStoring count of_size of_bits holds =
    (e : Endpoint) → length e.stored ≡ count → e.size ≡ of_size → e.bits ≡ of_bits → holds e

-- the errors kept after one more; and the state after an answered echo
abbrev pub errors_after : Error → List Error → List Error
errors_after error kept = (hear_err error (record no_echoes { errors = kept })).errors

abbrev pub echoed_by : ℕ → List Error → Echoes
echoed_by byte kept = record { awaited = false; echoed = Some byte; errors = kept }
