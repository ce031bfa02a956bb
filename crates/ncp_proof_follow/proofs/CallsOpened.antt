-- The calls of a user: after each of them the texts reported for the connections of a host match the
-- histories of its ends.
use Rattle.std.proofs.Common.{◌≡◌, ℕ, Bool, true, false, List, [], refl}
use Rattle.std.specs.FinMap.{get}
use Rattle.ncp_wire.specs.declared.command.Command.{Command}
use Rattle.ncp_model.specs.declared.pair.Pair.{Pair}
use Rattle.ncp_model.specs.Endpoint.{is_live}
use Rattle.ncp_model.specs.Phase.{up}
use Rattle.ncp_proof_machine.specs.Hosts.{Pasts}
use Rattle.ncp_peer.specs.PeerState.{PeerState}
use Rattle.ncp_transcript.specs.Asked.{Asked, state_after_asked}
use Rattle.ncp_transcript_two.specs.Watch.{pasts_after_asked}
use Rattle.ncp_monitor.specs.ConnStates.{SeenTables}
use Rattle.ncp_follow.specs.declared.tables.Tables.{Tables}
use Rattle.ncp_proof_monitor_host.proofs.Spoken.{Tells}
use Rattle.ncp_proof_follow_tables.proofs.SameCommands.{Same}
use Rattle.ncp_proof_follow_tables.proofs.Placed.{Placed, text_named}
use Rattle.ncp_proof_follow.proofs.PeerLives.{SoundAll}
use Rattle.ncp_proof_follow.proofs.HostLives.{asked_lives, given_asked, asks_for}
use Rattle.ncp_proof_follow.proofs.HostAsks.{begins_up, asked_begins}
use Rattle.ncp_proof_follow.proofs.HostMeets.{call_silent}
use Rattle.ncp_proof_follow.proofs.ControlComes.{AtHost, still_opened}

pub called_opened : (me n : ℕ) (s : PeerState) (pasts : Pasts) (t : Tables) (awaited : Bool) (w : List Command) (b : SeenTables) (asked : Asked) → (up s.peer.phase ≡ true → Tells me n s.peer.ends awaited w b) → Same b t → Placed t → SoundAll s.peer.ends
    → AtHost me n s pasts t → AtHost me n (state_after_asked asked s) (pasts_after_asked asked s.peer pasts) t
called_opened me n s pasts t awaited w b asked tells same placed sound k =
    still_opened me n s (state_after_asked asked s) pasts (pasts_after_asked asked s.peer pasts) t t (λ q. given_asked q asked s) (λ q. asks_for q asked s) (λ q. asked_lives s pasts sound q asked) (λ q a l. refl) anew k
  where
    anew : (q : Pair) → is_live (get s.peer.ends q) ≡ false → is_live (get (state_after_asked asked s).peer.ends q) ≡ true → text_named (record { at = me; peer = n; pair = q }) t ≡ []
    anew q o l =
        let it = asked_begins s sound q pasts asked o l in
        call_silent me n s.peer.ends awaited w b t (tells (begins_up s sound q pasts asked o l)) same placed q it.0 it.1.0 it.1.1 it.1.2
