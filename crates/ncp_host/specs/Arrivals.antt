-- A host receives bits: too few for a leader; of a type that it does not handle; from a host that is no
-- peer; or from a peer (BBN 1822, section 3, IMP-to-host leader). The order of these checks, and the
-- counts, are this project's own rules (its profile).
use Rattle.std.specs.Prelude.{◌≡◌, ◌≢◌, ◌⊎◌, ℕ, Bool, if◌then◌else◌, List, Option, None, Some, Result, Ok, Err}
use Rattle.ncp_leader.specs.declared.leader.Leader.{Leader}
use Rattle.ncp_leader.specs.declared.leader.Short.{Short}
use Rattle.ncp_leader.specs.Leader.{leader_in}
use Rattle.ncp_peer.specs.declared.received.Received.{Received}
use Rattle.ncp_peer.specs.declared.received.Received.TheVariants as received
use Rattle.ncp_peer.specs.Counting.{one_more}
use Rattle.ncp_peer.specs.PeerState.{PeerState}
use Rattle.ncp_peer.specs.Hearing.{is_kind, after_bits, received_of}
use Rattle.ncp_host.specs.Host.{Host, state_of, changed, numbers_of}

-- the counts of messages that belong to no peer

abbrev pub one_short : Host → Host
one_short h = record h { ignored = record h.ignored { short = one_more h.ignored.short } }

abbrev pub one_other : Host → Host
one_other h = record h { ignored = record h.ignored { other = one_more h.ignored.other } }

abbrev pub one_unknown : Host → Host
one_unknown h = record h { ignored = record h.ignored { unknown = one_more h.ignored.unknown } }

-- the host named in a leader is a peer or not

abbrev pub received_from : Option PeerState → Leader → List Bool → Received
received_from None leader bits = received.Unknown
received_from (Some s) leader bits = received_of leader bits s

abbrev pub after_from : Option PeerState → Leader → List Bool → Host → Host
after_from None leader bits h = one_unknown h
after_from (Some s) leader bits h = changed leader.host (after_bits leader bits) h

-- the type of the leader is handled or not

abbrev pub received_under : Leader → List Bool → Host → Received
received_under leader bits h = if is_kind leader.kind then received_from (state_of h leader.host) leader bits else received.Other leader.kind

abbrev pub after_hearing : Leader → List Bool → Host → Host
after_hearing leader bits h = if is_kind leader.kind then after_from (state_of h leader.host) leader bits h else one_other h

-- there is a leader or not

abbrev pub received_with : Result Leader Short → List Bool → Host → Received
received_with (Err short) bits h = received.Short
received_with (Ok leader) bits h = received_under leader bits h

abbrev pub after_with : Result Leader Short → List Bool → Host → Host
after_with (Err short) bits h = one_short h
after_with (Ok leader) bits h = after_hearing leader bits h

abbrev pub received_in : List Bool → Host → Received
received_in bits h = received_with (leader_in bits) bits h

abbrev pub after_received : List Bool → Host → Host
after_received bits h = after_with (leader_in bits) bits h

-- What received bits may change, for any bits: the state of the peer that they name, or one count of
-- messages that belong to no peer.

-- all but the state of one peer is unchanged
pub record OthersStay (number : ℕ) (before now : Host) : Type 0 where
  pub me : now.me ≡ before.me
  pub numbers : numbers_of now.peers ≡ numbers_of before.peers
  pub others : (other : ℕ) → other ≢ number → state_of now other ≡ state_of before other
  pub ignored : now.ignored ≡ before.ignored

-- one count rises by one, unless it is at its maximum, and all else is unchanged
abbrev pub OneIgnored : Host → Host → Type 0
OneIgnored before now = (now ≡ one_short before) ⊎ ((now ≡ one_other before) ⊎ (now ≡ one_unknown before))

abbrev pub OnlyNamedPeerChanges : Result Leader Short → Host → Host → Type 0
OnlyNamedPeerChanges (Err short) before now = OneIgnored before now
OnlyNamedPeerChanges (Ok leader) before now = OthersStay leader.host before now ⊎ OneIgnored before now
