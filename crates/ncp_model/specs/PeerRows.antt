-- Peers and phases at the start of worked rows.
use Rattle.std.specs.Prelude.{◌≡◌, ℕ, Bool, true, false, List, replicate}
use Rattle.ncp_wire.specs.declared.command.Command.{Command}
use Rattle.ncp_wire.specs.declared.command.Command.TheVariants.{Nop}
use Rattle.ncp_model.specs.Echo.{no_echoes}
use Rattle.ncp_model.specs.Phase.{Phase, up, up_phase, resets, hears_rst}
use Rattle.ncp_model.specs.Peers.{Peer}
use Rattle.ncp_model.specs.Rows.{both_ways}

-- in this phase, with a sender and a receiver open on link 2, and a local request on link 3
abbrev pub peer_in : Phase → Peer
peer_in p = record { phase = p; ends = both_ways; echoes = no_echoes }

-- the same while the host is up; with `count` queued commands
abbrev pub up_peer : Peer
up_peer = peer_in up_phase

abbrev pub with_waiting : ℕ → Peer
with_waiting count = peer_in (record up_phase { waiting = replicate count Nop })

-- after an RST arrived: with its RRP queued, and with the RRP owed since the links are not quiet; after
-- the host's own RST
abbrev pub answering_peer : Peer
answering_peer = peer_in (hears_rst true up_phase)

abbrev pub owing_peer : Peer
owing_peer = peer_in (hears_rst false up_phase)

abbrev pub awaiting_peer : Peer
awaiting_peer = peer_in (resets true up_phase)

-- for every host that is up with the peer; for every host that is not
abbrev pub WhileUp : (Peer → Type 0) → Type 0
WhileUp holds = (p : Peer) → up p.phase ≡ true → holds p

abbrev pub WhileNotUp : (Peer → Type 0) → Type 0
WhileNotUp holds = (p : Peer) → up p.phase ≡ false → holds p

-- a phase by its flags (down; a reset is wanted; an RRP is owed; an RRP is awaited) and its queued
-- commands
abbrev pub flagged : Bool → Bool → Bool → Bool → List Command → Phase
flagged is_down wants owes awaits commands =
    record { down = is_down; want = wants; owe = owes; wait = awaits; waiting = commands }
