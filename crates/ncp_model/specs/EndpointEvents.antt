-- The events of one endpoint of a connection, as one type. Demux defines at which endpoint an event
-- occurs.
use Rattle.std.specs.Prelude.{ℕ, Bool, true, false, List, [], ◌∷◌, Option, None, Some, Result, Ok, Err}
use Rattle.ncp_wire.specs.declared.command.Command.{Command}
use Rattle.ncp_model.specs.declared.pair.Pair.{Pair}
use Rattle.ncp_model.specs.declared.call_fault.CallFault.{CallFault}
use Rattle.ncp_model.specs.declared.outcomes.Heard.{Heard}
use Rattle.ncp_model.specs.declared.outcomes.Heard.TheVariants as heard
use Rattle.ncp_model.specs.declared.outcomes.Took.{Took}
use Rattle.ncp_model.specs.declared.outcomes.Took.TheVariants as took
use Rattle.ncp_model.specs.Endpoint.{Endpoint}
use Rattle.ncp_model.specs.Effect.{Effect, answer, end_after, made_by_call, made_if_any, made_by_close, made_by_take, made_by_hearing}
use Rattle.ncp_model.specs.Calls.{ask_send, ask_receive, close, give, take_held, allocate, call_back, interrupt}
use Rattle.ncp_model.specs.Commands.{hear_rts, hear_str, hear_cls, hear_all, hear_gvb, hear_ret, hear_inr, hear_ins}
use Rattle.ncp_model.specs.Texts.{hear_text, made_by_text, cut, Answer, end_answered, end_cleared}

-- The arguments have everything on which the effect depends besides the endpoint. own and by_peer: the
-- numbers of endpoints with a local request and with the peer's alone; full: the queue has no room for a
-- call's command; taken: another sending endpoint heard the link; on: a link, of a receiver's request the
-- lowest that no receiving endpoint uses; head: the leader and prefix of a text.
pub data EndpointEvent : Type 0 where
  Asks_to_send : (of_size : ℕ) → (with_room : ℕ) → (own : ℕ) → (full : Bool) → EndpointEvent
  Asks_to_receive : (with_room : ℕ) → (on : ℕ) → (own : ℕ) → (full : Bool) → EndpointEvent
  Closes : (full : Bool) → EndpointEvent
  Gives : (text : List Bool) → EndpointEvent
  Takes : (bytes : ℕ) → EndpointEvent
  Allocates : (of_messages : ℕ) → (of_bits : ℕ) → (full : Bool) → EndpointEvent
  Calls_back : (of_messages : ℕ) → (of_bits : ℕ) → (full : Bool) → EndpointEvent
  Interrupts : (full : Bool) → EndpointEvent
  Rts_comes : (on : ℕ) → (taken : Bool) → (by_peer : ℕ) → EndpointEvent
  Str_comes : (of_size : ℕ) → (by_peer : ℕ) → EndpointEvent
  Cls_comes : EndpointEvent
  All_comes : (on : ℕ) → (of_messages : ℕ) → (of_bits : ℕ) → EndpointEvent
  Gvb_comes : (on : ℕ) → (of_messages : ℕ) → (of_bits : ℕ) → EndpointEvent
  Ret_comes : (on : ℕ) → (of_messages : ℕ) → (of_bits : ℕ) → EndpointEvent
  Inr_comes : (on : ℕ) → EndpointEvent
  Ins_comes : (on : ℕ) → EndpointEvent
  Text_comes : (head : List Bool) → (of_size : ℕ) → (text : List Bool) → EndpointEvent
  Text_goes_out : EndpointEvent
  Is_answered : (how : Answer) → EndpointEvent
  Is_cleared : EndpointEvent

pub data Outcome : Type 0 where
  Accepted : Outcome
  Refused : (fault : CallFault) → Outcome
  Took_out : (text : List Bool) → Outcome  -- these bits were taken
  Sent : (of_size : ℕ) → (text : List Bool) → Outcome  -- this text is sent
  Late : Outcome
  Erred : (error : Command) → Outcome  -- an ERR is made
  Full : Outcome
  Admitted : Outcome
  WrongSize : Outcome
  Over : Outcome
  NotOpen : Outcome

pub record Transition : Type 0 where
  pub after : Option Endpoint
  pub made : List Command
  pub outcome : Outcome

-- The outcome, for each type of answer.

abbrev pub outcome_of_call : {A : Type 0} → Result A CallFault → Outcome
outcome_of_call (Ok a) = Accepted
outcome_of_call (Err fault) = Refused fault

abbrev pub of_take : Result (List Bool × Option Command) CallFault → Outcome
of_take (Ok taken) = Took_out taken.0
of_take (Err fault) = Refused fault

abbrev pub of_reply : Command → Outcome
of_reply (Command.Err code bytes) = Erred (Command.Err code bytes)
of_reply c = Accepted

abbrev pub of_hearing : Heard → Outcome
of_hearing heard.Nothing = Accepted
of_hearing (heard.Reply c) = of_reply c
of_hearing heard.Late = Late
of_hearing heard.Full = Full

abbrev pub outcome_of_text : Took → Outcome
outcome_of_text took.Admitted = Admitted
outcome_of_text took.Late = Late
outcome_of_text took.WrongSize = WrongSize
outcome_of_text took.Over = Over
outcome_of_text took.NotOpen = NotOpen

abbrev pub of_cut : Option (ℕ × List Bool) → Outcome
of_cut None = Accepted
of_cut (Some text) = Sent text.0 text.1

-- the peer violated the protocol: an ERR is made, or a text is refused, since its size is wrong, it
-- exceeds the allocation, or no endpoint is open for it. A late text is no violation
abbrev pub is_violation : Outcome → Bool
is_violation (Erred error) = true
is_violation WrongSize = true
is_violation Over = true
is_violation NotOpen = true
is_violation outcome = false

-- the transition of an effect: the endpoint after it, the commands made, and the outcome
abbrev pub happened : {A : Type 0} → Option Endpoint → Effect A → (A → List Command) → (A → Outcome) → Transition
happened before act made_by of = record { after = end_after before act; made = made_by (answer act); outcome = of (answer act) }

abbrev pub happens : Pair → EndpointEvent → Option Endpoint → Transition
happens pair (Asks_to_send of_size with_room own full) before = happened before (ask_send pair of_size with_room own full before) made_by_call outcome_of_call
happens pair (Asks_to_receive with_room on own full) before = happened before (ask_receive pair with_room on own full before) made_by_call outcome_of_call
happens pair (Closes full) before = happened before (close pair full before) made_by_close outcome_of_call
happens pair (Gives text) before = happened before (give pair text before) (λ _. []) outcome_of_call
happens pair (Takes bytes) before = happened before (take_held pair bytes before) made_by_take of_take
happens pair (Allocates of_messages of_bits full) before = happened before (allocate pair of_messages of_bits full before) made_by_call outcome_of_call
happens pair (Calls_back of_messages of_bits full) before = happened before (call_back pair of_messages of_bits full before) made_by_call outcome_of_call
happens pair (Interrupts full) before = happened before (interrupt pair full before) made_by_call outcome_of_call
happens pair (Rts_comes on taken by_peer) before = happened before (hear_rts pair on taken by_peer before) made_by_hearing of_hearing
happens pair (Str_comes of_size by_peer) before = happened before (hear_str pair of_size by_peer before) made_by_hearing of_hearing
happens pair Cls_comes before = happened before (hear_cls pair before) made_by_hearing of_hearing
happens pair (All_comes on of_messages of_bits) before = happened before (hear_all on of_messages of_bits before) made_by_hearing of_hearing
happens pair (Gvb_comes on of_messages of_bits) before = happened before (hear_gvb on of_messages of_bits before) made_by_hearing of_hearing
happens pair (Ret_comes on of_messages of_bits) before = happened before (hear_ret on of_messages of_bits before) made_by_hearing of_hearing
happens pair (Inr_comes on) before = happened before (hear_inr on before) made_by_hearing of_hearing
happens pair (Ins_comes on) before = happened before (hear_ins on before) made_by_hearing of_hearing
happens pair (Text_comes head of_size text) before = happened before (hear_text of_size text before) (made_by_text head text) outcome_of_text
happens pair Text_goes_out before = happened before (cut pair before) (λ _. []) of_cut
happens pair (Is_answered how) before = happened before (end_answered pair how before) made_if_any (λ _. Accepted)
happens pair Is_cleared before = record { after = end_cleared before; made = []; outcome = Accepted }

-- the endpoint after a list of events, in order
abbrev pub end_from : Pair → List EndpointEvent → Option Endpoint → Option Endpoint
end_from pair [] before = before
end_from pair (what ∷ more) before = end_from pair more (happens pair what before).after
