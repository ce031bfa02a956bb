-- From making an RST until an RRP arrives, a host acts on RST and RRP only (NIC 8246, RST and RRP; that
-- all other arrivals are dropped meanwhile is this profile's rule).
use Rattle.std.specs.Prelude.{◌≡◌, ℕ, ◌==◌, Bool, true, false, List, [], ◌∷◌}
use Rattle.std.specs.List.{filter, list_any}
use Rattle.ncp_wire.specs.declared.command.Command.{Command}
use Rattle.ncp_model.specs.Ends.{no_ends}
use Rattle.ncp_model.specs.Phase.{is_rrp, is_other}
use Rattle.ncp_peer.specs.declared.received.Received.{Received}
use Rattle.ncp_peer.specs.PeerState.{PeerState, control_link}
use Rattle.ncp_peer.specs.Hearing.{state_hears, state_hears_all}
use Rattle.ncp_transcript_two.specs.World.{World, NoteBody, Called, Out, In, Answered}
use Rattle.ncp_transcript_two.specs.Underway.{commands_of}

-- an RST was made, and no RRP was received since
abbrev pub AwaitsReply : PeerState → Type 0
AwaitsReply s = s.peer.phase.wait ≡ true

-- it still waits, without a connection, and no command is queued except RST and RRP
abbrev pub StillWaits : PeerState → Type 0
StillWaits s = AwaitsReply s × (s.peer.ends ≡ no_ends) × (filter is_other s.peer.phase.waiting ≡ [])

-- each command except RST and RRP, received while the host waits, leaves the host's flags, queued
-- commands, ends and echoes for its peer unchanged
abbrev pub DropsOthers : List Command → PeerState → Type 0
DropsOthers [] s = Unit {0}
DropsOthers (c ∷ cs) s = (AwaitsReply s → is_other c ≡ true → (state_hears c s).peer ≡ s.peer) × DropsOthers cs (state_hears c s)

-- a message arrives at a host that waits: its commands are heard in order, and all except RST and RRP are
-- dropped; the result of a text is `NotUp`. Unless the message has an RRP, the host still waits
abbrev pub Drops : ℕ → List Bool → Received → PeerState → PeerState → Type 0
Drops on message told s after =
    ((on == control_link) ≡ false → (told ≡ Received.NotUp) × (after.peer ≡ s.peer))
    × ((on == control_link) ≡ true → (after ≡ state_hears_all (commands_of message) s) × DropsOthers (commands_of message) s × (list_any is_rrp (commands_of message) ≡ false → StillWaits after))

-- the effect of each note on a host that waits
abbrev pub OnlyResetsAct : NoteBody → World → World → Type 0
OnlyResetsAct (Called asked reply) v after = (AwaitsReply v.this → after.this.peer ≡ v.this.peer) × (after.that ≡ v.that)
OnlyResetsAct (Out message) v after = (AwaitsReply v.this → StillWaits after.this × (after.this.peer.echoes ≡ v.this.peer.echoes)) × (after.that ≡ v.that)
OnlyResetsAct (In on message told) v after = (AwaitsReply v.that → Drops on message told v.that after.that) × (after.this ≡ v.this)
OnlyResetsAct (Answered on how told) v after = (AwaitsReply v.this → StillWaits after.this × (after.this.peer.echoes ≡ v.this.peer.echoes)) × (after.that ≡ v.that)
OnlyResetsAct told v after = (after.this ≡ v.this) × (after.that ≡ v.that)
