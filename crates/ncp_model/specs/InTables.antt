-- Transitions at one pair of a table of all endpoints, and the quantifiers over tables and pairs that the
-- laws use.
use Rattle.std.specs.Prelude.{◌≡◌, ℕ, Bool, List, [], Option, None, Some, ◌≤◌}
use Rattle.std.specs.FinMap.{get}
use Rattle.ncp_wire.specs.declared.command.Command.{Command}
use Rattle.ncp_wire.specs.declared.answer.Answer.{Answer}
use Rattle.ncp_model.specs.declared.pair.Pair.{Pair}
use Rattle.ncp_model.specs.declared.limits.TheConstants.{MAX_BY_PEER, MAX_OWN}
use Rattle.ncp_model.specs.Endpoint.{Endpoint}
use Rattle.ncp_model.specs.Effect.{made_by_call, made_if_any, made_by_hearing}
use Rattle.ncp_model.specs.Texts.{made_by_text}
use Rattle.ncp_model.specs.Ends.{Ends, count, has_asked, is_by_peer, sender_on, receiver_on, pair_of, demux_command, hear, ask_send_in, ask_receive_in, text_in, cut_in, answered_in}
use Rattle.ncp_model.specs.EndpointEvents.{EndpointEvent, Accepted, Transition, happens, happened, outcome_of_call, of_hearing, outcome_of_text, of_cut}
use Rattle.ncp_model.specs.Peers.{PairCall, called}
use Rattle.ncp_model.specs.Demux.{leads, link_in_head, comes}

-- for every pair, event, and endpoint before
abbrev pub WhateverHappens : (Pair → EndpointEvent → Option Endpoint → Type 0) → Type 0
WhateverHappens holds = (pair : Pair) (what : EndpointEvent) (before : Option Endpoint) → holds pair what before

-- for every table that has no endpoint at the pair, and as many endpoints with the peer's request alone
-- as are allowed; and as many with a local request
abbrev pub WhereFull : Pair → (Ends → Type 0) → Type 0
WhereFull pair holds = (m : Ends) → MAX_BY_PEER ≤ count is_by_peer m → get m pair ≡ None → holds m

abbrev pub WhereNoneMayAsk : Pair → (Ends → Type 0) → Type 0
WhereNoneMayAsk pair holds = (m : Ends) → get m pair ≡ None → MAX_OWN ≤ count has_asked m → holds m

-- for every command that identifies a pair, the pair, and the event of the command there
abbrev pub OfCommandsLed : (Ends → Command → Pair → EndpointEvent → Type 0) → Type 0
OfCommandsLed holds =
    (m : Ends) (c : Command) (pair : Pair) (what : EndpointEvent) → demux_command c m ≡ Some pair → comes c m ≡ Some what → holds m c pair what

-- for every text, and the pair that receives on the link in its leader
abbrev pub OfTextsLed : (Ends → List Bool → ℕ → List Bool → Pair → Type 0) → Type 0
OfTextsLed holds =
    (m : Ends) (head : List Bool) (of_size : ℕ) (text : List Bool) (pair : Pair) → pair_of (receiver_on (link_in_head head) m) ≡ Some pair → holds m head of_size text pair

-- for every link, and the pair that sends on it
abbrev pub OfSendersLed : (Ends → ℕ → Pair → Type 0) → Type 0
OfSendersLed holds = (m : Ends) (on : ℕ) (pair : Pair) → pair_of (sender_on on m) ≡ Some pair → holds m on pair

-- and for every answer
abbrev pub OfAnswersLed : (Ends → ℕ → Answer → Pair → Type 0) → Type 0
OfAnswersLed holds =
    (m : Ends) (on : ℕ) (how : Answer) (pair : Pair) → pair_of (sender_on on m) ≡ Some pair → holds m on how pair

-- for every table, pair, and arguments of a request of either kind
abbrev pub OfSending : (Ends → Pair → ℕ → ℕ → Bool → Type 0) → Type 0
OfSending holds = (m : Ends) (pair : Pair) (of_size with_room : ℕ) (full : Bool) → holds m pair of_size with_room full

abbrev pub OfReceiving : (Ends → Pair → ℕ → Bool → Type 0) → Type 0
OfReceiving holds = (m : Ends) (pair : Pair) (with_room : ℕ) (full : Bool) → holds m pair with_room full

-- whether an event occurs at a pair of a table, and its transition there
abbrev pub leads_in : Ends → Pair → EndpointEvent → Bool
leads_in m pair what = leads pair what (get m pair)

abbrev pub happens_in : Ends → Pair → EndpointEvent → Transition
happens_in m pair what = happens pair what (get m pair)

-- the transition of a user's call there
abbrev pub calls_in : Ends → Pair → PairCall → Bool → Transition
calls_in m pair call full = happens pair (called call full m) (get m pair)

-- The transition at a pair, by the rules of the whole table: for a command, a text that arrives, one that
-- is sent, the answer to one, and a request of either kind.

abbrev pub hearing_in : Ends → Pair → Command → Transition
hearing_in m pair c = happened (get m pair) (hear c m) made_by_hearing of_hearing

abbrev pub taking_in : Ends → Pair → List Bool → ℕ → List Bool → Transition
taking_in m pair head of_size text =
    happened (get m pair) (text_in (link_in_head head) of_size text m) (made_by_text head text) outcome_of_text

abbrev pub cutting_in : Ends → Pair → ℕ → Transition
cutting_in m pair on = happened (get m pair) (cut_in on m) (λ _. []) of_cut

abbrev pub answering_in : Ends → Pair → ℕ → Answer → Transition
answering_in m pair on how = happened (get m pair) (answered_in on how m) made_if_any (λ _. Accepted)

abbrev pub sending_in : Ends → Pair → ℕ → ℕ → Bool → Transition
sending_in m pair of_size with_room full =
    happened (get m pair) (ask_send_in pair of_size with_room full m) made_by_call outcome_of_call

abbrev pub receiving_in : Ends → Pair → ℕ → Bool → Transition
receiving_in m pair with_room full =
    happened (get m pair) (ask_receive_in pair with_room full m) made_by_call outcome_of_call
