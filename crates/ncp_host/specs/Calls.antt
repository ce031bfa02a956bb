-- The calls of a user: the reply of each, and the host after it. Each names a peer first; that the host
-- has no such peer is the first refusal (this project's own rule, its profile).
use Rattle.std.specs.Prelude.{ℕ, Bool, List, Option, Result, Ok}
use Rattle.ncp_model.specs.declared.pair.Pair.{Pair}
use Rattle.ncp_model.specs.declared.call_fault.CallFault.{CallFault}
use Rattle.ncp_model.specs.declared.outcomes.Error.{Error}
use Rattle.ncp_model.specs.Phase.{reset_answer}
use Rattle.ncp_model.specs.Peers.{PairCall, Take, comes_of, reply, reply_of_take, reply_of_echo}
use Rattle.ncp_conn.specs.declared.record.Record.{Record}
use Rattle.ncp_conn.specs.Records.{record_in}
use Rattle.ncp_peer.specs.declared.counts.Counts.{Counts}
use Rattle.ncp_phase.specs.declared.flags.Flags.{Flags}
use Rattle.ncp_peer.specs.PeerState.{state_calls, state_calls_echo, state_calls_reset, state_calls_wake}
use Rattle.ncp_host.specs.Host.{Host, state_of, changed, if_known}
use Rattle.ncp_phase.specs.Flags.{flags_of}
use Rattle.ncp_peer.specs.PeerCalls.{record_answer}

-- A call on a connection.

-- the connection of a socket here with a socket there
abbrev pub sockets : ℕ → ℕ → Pair
sockets local remote = record { local = local; remote = remote }

abbrev pub call_reply : ℕ → Pair → PairCall → Host → Result (Unit {0}) CallFault
call_reply number pair call h = if_known (state_of h number) (λ s. reply (comes_of pair call s.peer))

abbrev pub after_call_to : ℕ → Pair → PairCall → Host → Host
after_call_to number pair call h = changed number (state_calls pair call) h

-- the reply to the call that returns bits
abbrev pub take_reply : ℕ → Pair → ℕ → Host → Result (List Bool) CallFault
take_reply number pair bytes h = if_known (state_of h number) (λ s. reply_of_take (comes_of pair (Take bytes) s.peer))

-- A reset, and an echo.

abbrev pub reset_reply : ℕ → Host → Result (Unit {0}) CallFault
reset_reply number h = if_known (state_of h number) (λ s. reset_answer s.peer.phase)

abbrev pub after_reset : ℕ → Host → Host
after_reset number h = changed number state_calls_reset h

abbrev pub echo_reply : ℕ → ℕ → Host → Result (Unit {0}) CallFault
echo_reply number byte h = if_known (state_of h number) (λ s. reply_of_echo byte s.peer)

abbrev pub after_echo : ℕ → ℕ → Host → Host
after_echo number byte h = changed number (state_calls_echo byte) h

-- The user asks for the messages held for a dead destination, in any phase (this profile's rule).

abbrev pub wake_reply : ℕ → Host → Result (Unit {0}) CallFault
wake_reply number h = if_known (state_of h number) (λ s. Ok tt)

abbrev pub after_wake : ℕ → Host → Host
after_wake number h = changed number state_calls_wake h

abbrev pub record_told : ℕ → Pair → Host → Result Record CallFault
record_told number pair h = if_known (state_of h number) (λ s. record_answer (record_in pair s.peer.ends))

abbrev pub flags_returned : ℕ → Host → Result Flags CallFault
flags_returned number h = if_known (state_of h number) (λ s. Ok (flags_of s.peer.phase))

abbrev pub echoed_returned : ℕ → Host → Result (Option ℕ) CallFault
echoed_returned number h = if_known (state_of h number) (λ s. Ok s.peer.echoes.echoed)

abbrev pub errors_returned : ℕ → Host → Result (List Error) CallFault
errors_returned number h = if_known (state_of h number) (λ s. Ok s.peer.echoes.errors)

abbrev pub counts_returned : ℕ → Host → Result Counts CallFault
counts_returned number h = if_known (state_of h number) (λ s. Ok s.counts)
