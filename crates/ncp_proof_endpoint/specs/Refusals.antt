-- The refusals as tables, independent of the rules: for each event of an endpoint its cases in the order
-- of the checks, each with its condition. The first that holds decides. The cases and their order are
-- this project's own rule (its profile).
use Rattle.std.specs.Prelude.{◌≡◌, ℕ, ◌+◌, ◌%◌, ◌==◌, Bool, true, false, not, ◌&&◌, ◌||◌, nat_lt, nat_le, if◌then◌else◌, List, [], ◌∷◌, map, length, Option, None, Some, is_none}
use Rattle.ncp_wire.specs.declared.command.Command.TheVariants.{Rts, Str, Cls, All, Gvb, Ret, Inr, Ins}
use Rattle.ncp_wire.specs.declared.fault.TheConstants.{ERRONEOUS_PARAMETERS, NONEXISTENT_SOCKET, SOCKET_NOT_CONNECTED}
use Rattle.ncp_wire.specs.Spelling.{error_of}
use Rattle.ncp_wire.specs.declared.command.Command.{Command}
use Rattle.ncp_model.specs.declared.pair.Pair.{Pair}
use Rattle.ncp_model.specs.declared.call_fault.CallFault.{CallFault}
use Rattle.ncp_model.specs.declared.call_fault.CallFault.TheVariants.{BadSex, BadSize, BadRoom, NoEntry, AlreadyAsked, Closing, NotOpen, WrongEnd, NotWhole, Busy, NoRoom, TooMuch, TableFull, QueueFull}
use Rattle.ncp_model.specs.declared.limits.TheConstants.{MAX_ROOM, MAX_MESSAGES, MAX_AMOUNT, MAX_OWN, MAX_BY_PEER}
use Rattle.ncp_wire.specs.declared.links.TheConstants.{FIRST_LINK, LAST_LINK}
use Rattle.ncp_model.specs.Pairs.{is_receive, is_send}
use Rattle.ncp_model.specs.Endpoint.{Endpoint, or_new}
use Rattle.ncp_model.specs.Effect.{text_error}
use Rattle.ncp_model.specs.Faults.{fault_number}
use Rattle.ncp_model.specs.EndpointEvents.{EndpointEvent, Outcome, Transition, happens}

-- The conditions of the tables. An endpoint that does not exist counts as a new one.

abbrev pub was_asked : Option Endpoint → Bool
was_asked before = (or_new before).asked

abbrev pub was_heard : Option Endpoint → Bool
was_heard before = (or_new before).heard

abbrev pub is_leaving_or_left : Option Endpoint → Bool
is_leaving_or_left before = (or_new before).leaving || (or_new before).left

abbrev pub room_before : Option Endpoint → ℕ
room_before before = (or_new before).room

abbrev pub byte_size_of : Option Endpoint → ℕ
byte_size_of before = (or_new before).size

abbrev pub counted_messages : Option Endpoint → ℕ
counted_messages before = (or_new before).messages

abbrev pub counted_bits : Option Endpoint → ℕ
counted_bits before = (or_new before).bits

abbrev pub stored_bits : Option Endpoint → ℕ
stored_bits before = length (or_new before).stored

-- a sender's own socket is odd and its peer's even; a receiver's the other way round
abbrev pub is_sender : Pair → Bool
is_sender pair = is_send pair.local && is_receive pair.remote

abbrev pub is_receiver : Pair → Bool
is_receiver pair = is_receive pair.local && is_send pair.remote

-- The calls: the first reason that holds is the refusal.

abbrev pub first_refusal : List (CallFault × Bool) → Option CallFault
first_refusal [] = None
first_refusal (reason ∷ more) = if reason.1 then Some reason.0 else first_refusal more

abbrev pub reasons : Pair → EndpointEvent → Option Endpoint → List (CallFault × Bool)
reasons pair (EndpointEvent.Asks_to_send of_size with_room own full) before =
    (BadSex, not (is_sender pair))
    ∷ (BadSize, of_size == 0)
    ∷ (BadRoom, nat_lt with_room 1 || nat_lt MAX_ROOM with_room)
    ∷ (AlreadyAsked, was_asked before && not (is_leaving_or_left before))
    ∷ (Closing, is_leaving_or_left before)
    ∷ (TableFull, nat_le MAX_OWN own)
    ∷ (QueueFull, full)
    ∷ []
reasons pair (EndpointEvent.Asks_to_receive with_room on own full) before =
    (BadSex, not (is_receiver pair))
    ∷ (BadRoom, nat_lt with_room 1 || nat_lt MAX_ROOM with_room)
    ∷ (AlreadyAsked, was_asked before && not (is_leaving_or_left before))
    ∷ (Closing, is_leaving_or_left before)
    ∷ (TableFull, nat_le MAX_OWN own)
    ∷ (QueueFull, full)
    ∷ []
reasons pair (EndpointEvent.Closes full) before =
    (NoEntry, is_none before)
    ∷ (Closing, (or_new before).left || (or_new before).leaving && is_sender pair)
    ∷ (QueueFull, full)
    ∷ []
reasons pair (EndpointEvent.Gives text) before =
    (NoEntry, is_none before)
    ∷ (Closing, is_leaving_or_left before)
    ∷ (NotOpen, not (was_asked before) || not (was_heard before))
    ∷ (WrongEnd, not (is_sender pair))
    ∷ (NotWhole, nat_lt 0 (length text % byte_size_of before))
    ∷ (NoRoom, nat_lt (room_before before) (stored_bits before + length text))
    ∷ []
reasons pair (EndpointEvent.Takes bytes) before =
    (NoEntry, is_none before)
    ∷ (Closing, (or_new before).left)
    ∷ (NotOpen, not (or_new before).opened)
    ∷ (WrongEnd, not (is_receiver pair))
    ∷ []
reasons pair (EndpointEvent.Allocates of_messages of_bits full) before =
    (NoEntry, is_none before)
    ∷ (Closing, is_leaving_or_left before)
    ∷ (NotOpen, not (was_asked before) || not (was_heard before))
    ∷ (WrongEnd, not (is_receiver pair))
    ∷ (TooMuch, nat_lt (room_before before) (counted_bits before + stored_bits before + of_bits))
    ∷ (TooMuch, nat_lt MAX_MESSAGES (counted_messages before + of_messages))
    ∷ (QueueFull, full)
    ∷ []
reasons pair (EndpointEvent.Calls_back of_messages of_bits full) before =
    (NoEntry, is_none before)
    ∷ (Closing, is_leaving_or_left before)
    ∷ (NotOpen, not (was_asked before) || not (was_heard before))
    ∷ (WrongEnd, not (is_receiver pair))
    ∷ (Busy, (or_new before).recall)
    ∷ (QueueFull, full)
    ∷ []
reasons pair (EndpointEvent.Interrupts full) before =
    (NoEntry, is_none before)
    ∷ (Closing, is_leaving_or_left before)
    ∷ (NotOpen, not (was_asked before) || not (was_heard before))
    ∷ (QueueFull, full)
    ∷ []
reasons pair what before = []

-- the reason for which a call was refused
abbrev pub refused_with : Outcome → Option CallFault
refused_with (Outcome.Refused fault) = Some fault
refused_with outcome = None

-- a call is refused for the first of its reasons that holds, and accepted if none does
abbrev pub IsRefusedFirst : EndpointEvent → Type 0
IsRefusedFirst call = (pair : Pair) (before : Option Endpoint) → refused_with (happens pair call before).outcome ≡ first_refusal (reasons pair call before)

-- whether numbers never decrease
abbrev pub rises : ℕ → List ℕ → Bool
rises from [] = true
rises from (number ∷ more) = nat_le from number && rises number more

-- the reasons of a call are listed in the order of their numbers
abbrev pub StandInOrder : EndpointEvent → Type 0
StandInOrder call =
    (pair : Pair) (before : Option Endpoint) → rises 0 (map (λ reason. fault_number reason.0) (reasons pair call before)) ≡ true

-- Arrivals: the first case that holds is the outcome; if none does, the command or text has its effect.

abbrev pub first_that : List (Bool × Outcome) → Outcome → Outcome
first_that [] otherwise = otherwise
first_that (test ∷ more) otherwise = if test.0 then test.1 else first_that more otherwise

abbrev pub wrong : Command → Outcome
wrong command = Outcome.Erred (error_of ERRONEOUS_PARAMETERS command)

-- a command that names a link, at the endpoint that the link identifies
abbrev pub on_a_link : Command → Option Endpoint → List (Bool × Outcome) → List (Bool × Outcome)
on_a_link command before more =
    (is_leaving_or_left before, Outcome.Late)
    ∷ (not (or_new before).opened, Outcome.Erred (error_of SOCKET_NOT_CONNECTED command))
    ∷ more

abbrev pub cases : Pair → EndpointEvent → Option Endpoint → List (Bool × Outcome)
cases pair (EndpointEvent.Rts_comes on taken by_peer) before =
    let bad = wrong (Rts pair.remote pair.local on) in
    (not (is_receive pair.remote), bad)
    ∷ (not (is_send pair.local), bad)
    ∷ (nat_lt on FIRST_LINK, bad)
    ∷ (nat_lt LAST_LINK on, bad)
    ∷ (was_heard before, bad)
    ∷ (taken, bad)
    ∷ (is_none before && nat_le MAX_BY_PEER by_peer, Outcome.Full)
    ∷ []
cases pair (EndpointEvent.Str_comes of_size by_peer) before =
    let bad = wrong (Str pair.remote pair.local of_size) in
    (not (is_send pair.remote), bad)
    ∷ (not (is_receive pair.local), bad)
    ∷ (of_size == 0, bad)
    ∷ (was_heard before, bad)
    ∷ (is_none before && nat_le MAX_BY_PEER by_peer, Outcome.Full)
    ∷ []
cases pair EndpointEvent.Cls_comes before =
    let command = Cls pair.remote pair.local in
    (not (is_sender pair || is_receiver pair), wrong command)
    ∷ (is_none before, Outcome.Erred (error_of NONEXISTENT_SOCKET command))
    ∷ ((or_new before).cls, wrong command)
    ∷ []
cases pair (EndpointEvent.All_comes on of_messages of_bits) before =
    on_a_link (All on of_messages of_bits) before
    ((nat_lt MAX_MESSAGES (counted_messages before + of_messages), wrong (All on of_messages of_bits))
    ∷ (nat_lt MAX_AMOUNT (counted_bits before + of_bits), wrong (All on of_messages of_bits))
    ∷ [])
cases pair (EndpointEvent.Gvb_comes on of_messages of_bits) before = on_a_link (Gvb on of_messages of_bits) before []
cases pair (EndpointEvent.Ret_comes on of_messages of_bits) before =
    on_a_link (Ret on of_messages of_bits) before
    ((nat_lt (counted_messages before) of_messages, wrong (Ret on of_messages of_bits))
    ∷ (nat_lt (counted_bits before) of_bits, wrong (Ret on of_messages of_bits))
    ∷ [])
cases pair (EndpointEvent.Inr_comes on) before = on_a_link (Inr on) before []
cases pair (EndpointEvent.Ins_comes on) before = on_a_link (Ins on) before []
cases pair (EndpointEvent.Text_comes head of_size text) before =
    (is_leaving_or_left before, Outcome.Late)
    ∷ (not (or_new before).opened, Outcome.NotOpen)
    ∷ (not (of_size == byte_size_of before), Outcome.WrongSize)
    ∷ (counted_messages before == 0, Outcome.Over)
    ∷ (nat_lt (counted_bits before) (length text), Outcome.Over)
    ∷ []
cases pair what before = []

-- outcomes that change nothing
abbrev pub is_refused_outcome : Outcome → Bool
is_refused_outcome (Outcome.Refused fault) = true
is_refused_outcome (Outcome.Erred error) = true
is_refused_outcome Outcome.Late = true
is_refused_outcome Outcome.Full = true
is_refused_outcome Outcome.WrongSize = true
is_refused_outcome Outcome.Over = true
is_refused_outcome Outcome.NotOpen = true
is_refused_outcome outcome = false

-- the command made by a refusal: the ERR that is the outcome, or the ERR for a text that finds no open
-- endpoint
abbrev pub made_by_refusal : EndpointEvent → Outcome → List Command
made_by_refusal what (Outcome.Erred error) = error ∷ []
made_by_refusal (EndpointEvent.Text_comes head of_size text) Outcome.NotOpen = text_error head text ∷ []
made_by_refusal what outcome = []

-- the outcome is that of the first case that holds, or `otherwise` if none does
abbrev pub MeetsFirst : EndpointEvent → Outcome → Type 0
MeetsFirst what otherwise =
    (pair : Pair) (before : Option Endpoint) → (happens pair what before).outcome ≡ first_that (cases pair what before) otherwise

-- for every refused event, the endpoint before it or its absence, and the transition
abbrev pub WheneverRefused : (EndpointEvent → Option Endpoint → Transition → Type 0) → Type 0
WheneverRefused holds =
    (pair : Pair) (what : EndpointEvent) (before : Option Endpoint) → is_refused_outcome (happens pair what before).outcome ≡ true → holds what before (happens pair what before)
