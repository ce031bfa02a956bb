-- Local requests: the checks before memory is allocated, and the effect.
use Rattle.std.specs.Prelude.{◌≡◌, ℕ, ◌==◌, Bool, true, false, Option, Result, Ok}
use Rattle.ncp_wire.specs.declared.command.Command.{Command}
use Rattle.ncp_wire.specs.declared.command.Command.TheVariants.{Rts, Str}
use Rattle.ncp_model.specs.declared.pair.Pair.{Pair}
use Rattle.ncp_model.specs.declared.call_fault.CallFault.{CallFault}
use Rattle.ncp_model.specs.Pairs.{sends, receives}
use Rattle.ncp_model.specs.Endpoint.{Endpoint, or_new}
use Rattle.ncp_model.specs.Effect.{Effect, Becomes, is_room}
use Rattle.ncp_model.specs.Calls.{end_to_ask, may_ask, may_ask_send, may_ask_receive, asked_to_send, asked_to_receive, ask_send, ask_receive}

-- for every request to send, and every request to receive: the result of its checks, its effect, and the
-- effect of an accepted one
abbrev pub OfSenders : (Result (Unit {0}) CallFault → Effect (Result Command CallFault) → Effect (Result Command CallFault) → Type 0) → Type 0
OfSenders holds =
    (pair : Pair) (of_size with_room own : ℕ) (full : Bool) (before : Option Endpoint) → holds (may_ask_send pair of_size with_room own full before) (ask_send pair of_size with_room own full before) (Becomes (asked_to_send of_size with_room (or_new before)) (Ok (Str pair.local pair.remote of_size)))

abbrev pub OfReceivers : (Result (Unit {0}) CallFault → Effect (Result Command CallFault) → Effect (Result Command CallFault) → Type 0) → Type 0
OfReceivers holds =
    (pair : Pair) (with_room on own : ℕ) (full : Bool) (before : Option Endpoint) → holds (may_ask_receive pair with_room own full before) (ask_receive pair with_room on own full before) (Becomes (asked_to_receive on with_room (or_new before)) (Ok (Rts pair.local pair.remote on)))

-- for every request with a valid pair, size and store: the result of all its checks, and of those of the
-- table
abbrev pub OfGoodSenders : (Result (Unit {0}) CallFault → Result (Unit {0}) CallFault → Type 0) → Type 0
OfGoodSenders holds =
    (own : ℕ) (full : Bool) (before : Option Endpoint) (pair : Pair) (of_size with_room : ℕ) → sends pair ≡ true → of_size == 0 ≡ false → is_room with_room ≡ true → holds (may_ask_send pair of_size with_room own full before) (may_ask own full before)

abbrev pub OfGoodReceivers : (Result (Unit {0}) CallFault → Result (Unit {0}) CallFault → Type 0) → Type 0
OfGoodReceivers holds =
    (own : ℕ) (full : Bool) (before : Option Endpoint) (pair : Pair) (with_room : ℕ) → receives pair ≡ true → is_room with_room ≡ true → holds (may_ask_receive pair with_room own full before) (may_ask own full before)

-- for every table and endpoint: the result of the endpoint's checks, and of the table's
abbrev pub OfTheTable : (Result (Unit {0}) CallFault → Result (Unit {0}) CallFault → Type 0) → Type 0
OfTheTable holds =
    (own : ℕ) (full : Bool) (before : Option Endpoint) → holds (end_to_ask (or_new before)) (may_ask own full before)
