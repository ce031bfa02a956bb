-- A user's requests to a host. A call that changes the host is a peer and a request, and the request
-- determines the effect.
use Rattle.std.specs.Prelude.{ℕ, List, Bool, Option, None, Some, Result, Ok}
use Rattle.ncp_model.specs.declared.pair.Pair.{Pair}
use Rattle.ncp_model.specs.declared.call_fault.CallFault.{CallFault}
use Rattle.ncp_model.specs.Phase.{reset_answer}
use Rattle.ncp_model.specs.Peers.{PairCall, Ask_to_send, Ask_to_receive, Close, Give, Take, Allocate, Call_back, Interrupt, comes_of, reply, reply_of_take, call_accepted, reply_of_echo}
use Rattle.ncp_peer.specs.PeerState.{PeerState, state_calls, state_calls_echo, state_calls_reset, state_calls_wake}
use Rattle.ncp_host.specs.Host.{Host, state_of, changed, if_known}
use Rattle.ncp_host.specs.Calls.{sockets}
use Rattle.ncp_transcript.specs.declared.call.Call.{Call}
use Rattle.ncp_transcript.specs.declared.call.Call.TheVariants as calls

pub data Asked : Type 0 where
  Asks : (pair : Pair) → (call : PairCall) → Asked
  Asks_echo : (byte : ℕ) → Asked
  Asks_reset : Asked
  Asks_wake : Asked  -- for messages held since their destination was dead

-- the peer of a call, and its request; none for a reading
abbrev pub asked_in : Call → Option (ℕ × Asked)
asked_in (calls.Reset peer) = Some (peer, Asks_reset)
asked_in (calls.AskSend peer local remote size room) = Some (peer, Asks (sockets local remote) (Ask_to_send size room))
asked_in (calls.AskReceive peer local remote room) = Some (peer, Asks (sockets local remote) (Ask_to_receive room))
asked_in (calls.Give peer pair text) = Some (peer, Asks pair (Give text))
asked_in (calls.Take peer pair bytes) = Some (peer, Asks pair (Take bytes))
asked_in (calls.Allocate peer pair messages bits) = Some (peer, Asks pair (Allocate messages bits))
asked_in (calls.CallBack peer pair fm fb) = Some (peer, Asks pair (Call_back fm fb))
asked_in (calls.Interrupt peer pair) = Some (peer, Asks pair Interrupt)
asked_in (calls.Echo peer byte) = Some (peer, Asks_echo byte)
asked_in (calls.Close peer pair) = Some (peer, Asks pair Close)
asked_in (calls.Wake peer) = Some (peer, Asks_wake)
asked_in reading = None

-- the peer of a request, and the peer that a call names, also for a reading
abbrev pub peer_asked : Option (ℕ × Asked) → Option ℕ
peer_asked None = None
peer_asked (Some (peer, asked)) = Some peer

abbrev pub peer_of_call : Call → Option ℕ
peer_of_call (calls.State peer pair) = Some peer
peer_of_call (calls.Phase peer) = Some peer
peer_of_call (calls.Echoed peer) = Some peer
peer_of_call (calls.Errors peer) = Some peer
peer_of_call (calls.Counts peer) = Some peer
peer_of_call (calls.Waiting peer place) = Some peer
peer_of_call (calls.Kept peer link) = Some peer
peer_of_call call = peer_asked (asked_in call)

-- The state for the peer after it, and so of the host.

abbrev pub state_after_asked : Asked → PeerState → PeerState
state_after_asked (Asks pair call) s = state_calls pair call s
state_after_asked (Asks_echo byte) s = state_calls_echo byte s
state_after_asked Asks_reset s = state_calls_reset s
state_after_asked Asks_wake s = state_calls_wake s

abbrev pub host_after_asked : Option (ℕ × Asked) → Host → Host
host_after_asked None h = h
host_after_asked (Some (peer, asked)) h = changed peer (state_after_asked asked) h

-- The reply: for a take its bits, else that it was done.

pub data Reply : Type 0 where
  Replied : (reply : Result (Unit {0}) CallFault) → Reply
  Took : (reply : Result (List Bool) CallFault) → Reply

abbrev pub reply_of_call : Pair → PairCall → PeerState → Reply
reply_of_call pair (Take bytes) s = Took (reply_of_take (comes_of pair (Take bytes) s.peer))
reply_of_call pair call s = Replied (reply (comes_of pair call s.peer))

abbrev pub reply_to : Asked → PeerState → Reply
reply_to (Asks pair call) s = reply_of_call pair call s
reply_to (Asks_echo byte) s = Replied (reply_of_echo byte s.peer)
reply_to Asks_reset s = Replied (reset_answer s.peer.phase)
reply_to Asks_wake s = Replied (Ok tt)

-- success, or the refusal
abbrev pub as_done : Reply → Result (Unit {0}) CallFault
as_done (Replied reply) = reply
as_done (Took reply) = call_accepted reply

abbrev pub asked_reply : Option (ℕ × Asked) → Host → Result (Unit {0}) CallFault
asked_reply None h = Ok tt
asked_reply (Some (peer, asked)) h = if_known (state_of h peer) (λ s. as_done (reply_to asked s))
