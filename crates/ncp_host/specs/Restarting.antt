-- A restart of the IMP, as a host sees it for one peer: an Incomplete Transmission (BBN 1822, section 3)
-- is received on each link with an unanswered message, in the order of the links (this project's own
-- rule, its profile).
use Rattle.std.specs.Prelude.{ℕ, Bool, false, if◌then◌else◌, List, [], ◌∷◌, Option, None, Some, Result, Ok}
use Rattle.ncp_leader.specs.declared.leader.Leader.{Leader}
use Rattle.ncp_leader.specs.Leader.{leader_bits}
use Rattle.ncp_wire.specs.declared.answer.Answer.TheVariants.{Incomplete}
use Rattle.ncp_model.specs.declared.call_fault.CallFault.{CallFault}
use Rattle.ncp_peer.specs.PeerState.{PeerState, is_answered}
use Rattle.ncp_peer.specs.Hearing.{incomplete}
use Rattle.ncp_host.specs.Host.{Host, state_of, if_known}
use Rattle.ncp_host.specs.Arrivals.{after_received}
use Rattle.ncp_peer.specs.Output.{links}

-- the bits of an Incomplete Transmission on a link to a peer
abbrev pub incomplete_leader : ℕ → ℕ → Leader
incomplete_leader number on = record { flags = 0; kind = incomplete; host = number; link = on; low = 0 }

abbrev pub incomplete_bits : ℕ → ℕ → List Bool
incomplete_bits number on = leader_bits (incomplete_leader number on)

-- whether a message on a link is unanswered
abbrev pub is_message_out : ℕ → Option PeerState → Bool
is_message_out on None = false
is_message_out on (Some s) = is_answered on s

-- it is received, if the message on the link is unanswered
abbrev pub incomplete_comes : ℕ → ℕ → Host → Host
incomplete_comes number on h = if is_message_out on (state_of h number) then after_received (incomplete_bits number on) h else h

-- on each of these links, in order
unfoldable pub incompletes_come : ℕ → List ℕ → Host → Host
incompletes_come number [] h = h
incompletes_come number (on ∷ ons) h = incompletes_come number ons (incomplete_comes number on h)

abbrev pub restart_reply : ℕ → Host → Result (Unit {0}) CallFault
restart_reply number h = if_known (state_of h number) (λ s. Ok tt)

abbrev pub after_restart : ℕ → Host → Host
after_restart number h = incompletes_come number links h
