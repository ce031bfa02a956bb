-- The effect of an event on one endpoint, with its answer. It depends on that endpoint alone: not on the
-- table or the queue.
use Rattle.std.specs.Prelude.{ℕ, Bool, true, false, ◌&&◌, ◌||◌, not, nat_le, ◌++◌, take, replicate, if◌then◌else◌, List, [], ◌∷◌, Option, None, Some, Result, Ok, Err}
use Rattle.ncp_numbers.specs.Bytes.{bytes_of}
use Rattle.ncp_wire.specs.declared.command.Command.{Command}
use Rattle.ncp_wire.specs.declared.command.Command.TheVariants.{Cls}
use Rattle.ncp_wire.specs.declared.command.Command.TheVariants as variants
pub use Rattle.ncp_wire.specs.Spelling.{error_of}
use Rattle.ncp_wire.specs.declared.fault.TheConstants.{ERRONEOUS_PARAMETERS, NONEXISTENT_SOCKET, SOCKET_NOT_CONNECTED}
use Rattle.ncp_model.specs.declared.pair.Pair.{Pair}
use Rattle.ncp_model.specs.declared.call_fault.CallFault.{CallFault}
use Rattle.ncp_model.specs.declared.outcomes.Heard.{Heard}
use Rattle.ncp_model.specs.declared.outcomes.Heard.TheVariants.{Nothing, Reply, Late, Full}
use Rattle.ncp_model.specs.declared.limits.TheConstants.{MAX_ROOM}
use Rattle.ncp_wire.specs.declared.links.TheConstants.{FIRST_LINK, LAST_LINK}
use Rattle.ncp_model.specs.Endpoint.{Endpoint, is_closing, is_ended}

-- `Stays`: a refusal, or no effect; the endpoint, or its absence, is unchanged.
pub data Effect (A : Type 0) : Type 0 where
  Stays : A → Effect A
  Becomes : Endpoint → A → Effect A

-- the answer
abbrev pub answer : {A : Type 0} → Effect A → A
answer (Stays a) = a
answer (Becomes e a) = a

-- the endpoint afterwards; one that is over is removed (NIC 8246, termination)
abbrev pub end_after : {A : Type 0} → Option Endpoint → Effect A → Option Endpoint
end_after before (Stays a) = before
end_after before (Becomes e a) = if is_ended e then None else Some e

-- The commands made, for each type of answer.

abbrev pub made_by_call : Result Command CallFault → List Command
made_by_call (Ok c) = c ∷ []
made_by_call (Err fault) = []

abbrev pub made_if_any : Option Command → List Command
made_if_any None = []
made_if_any (Some c) = c ∷ []

abbrev pub made_by_close : Result (Option Command) CallFault → List Command
made_by_close (Ok c) = made_if_any c
made_by_close (Err fault) = []

-- of a `take`, whose answer has the taken bits too
abbrev pub made_by_take : Result (List Bool × Option Command) CallFault → List Command
made_by_take (Ok taken) = made_if_any taken.1
made_by_take (Err fault) = []

abbrev pub made_by_hearing : Heard → List Command
made_by_hearing Nothing = []
made_by_hearing (Reply c) = c ∷ []
made_by_hearing Late = []
made_by_hearing Full = []

-- Definitions that several effects share.

-- the endpoint opens if both requests were made (NIC 8246, establishment) and it is not closing. Its
-- counters are zero then, as only effects on an open endpoint change them
abbrev pub met : Endpoint → Endpoint
met e = record e { opened = e.opened || (e.asked && e.heard && not (is_closing e)) }

-- the CLS is made, and stored text is dropped (this profile's rule)
abbrev pub leaves : Endpoint → Endpoint
leaves e = record e { leaving = false; left = true; stored = [] }

-- the endpoint's CLS, its own socket first (NIC 8246, CLS)
abbrev pub closing : Pair → Command
closing pair = Cls pair.local pair.remote

-- a store has 1 to 65,536 bits: this profile's limit
abbrev pub is_room : ℕ → Bool
is_room room = nat_le 1 room && nat_le room MAX_ROOM

-- links 2 to 71 carry connections (NIC 8246, links)
abbrev pub is_data_link : ℕ → Bool
is_data_link on = nat_le FIRST_LINK on && nat_le on LAST_LINK

-- The codes of ERR are this profile's (NIC 8246, ERR). The data of an ERR for a command is the command's
-- bytes, padded to ten with zeros.

-- erroneous parameters; no such socket; not connected
abbrev pub wrong_parameters : ℕ
wrong_parameters = ERRONEOUS_PARAMETERS

abbrev pub no_socket : ℕ
no_socket = NONEXISTENT_SOCKET

abbrev pub not_connected : ℕ
not_connected = SOCKET_NOT_CONNECTED

-- for a text: the 72 bits of leader and prefix, and the first 8 bits of text, padded with zeros
abbrev pub text_error : List Bool → List Bool → Command
text_error head text = variants.Err not_connected (bytes_of (head ++ take 8 (text ++ replicate 8 false)))
