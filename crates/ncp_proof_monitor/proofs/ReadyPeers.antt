-- What waits for each peer can be written, and what is kept to go out once more is whole, through each note.
use Rattle.std.proofs.Common.{◌≡◌, ℕ, ◌==◌, Bool, true, false, if◌then◌else◌, List, [], ◌∷◌, Option, None, Some, refl, sym, ap, ◌∙◌, subst}
use Rattle.std.proofs.lemmas.List.Elements.{All-nil}
use Rattle.ncp_leader.specs.declared.leader.Leader.{Leader}
use Rattle.ncp_wire.specs.Spelling.{IsCommand}
use Rattle.ncp_slot.specs.Slot.{kept_message}
use Rattle.ncp_slot.proofs.Places.{slot_at-no_slots}
use Rattle.ncp_peer.specs.PeerState.{PeerState, new_state}
use Rattle.ncp_host.specs.Host.{Host, state_of, new_host}
use Rattle.ncp_host.specs.Arrivals.{received_in}
use Rattle.ncp_proof_machine.proofs.EndsGood.{none-good}
use Rattle.ncp_transcript.specs.declared.note.HostNote.{HostNote}
use Rattle.ncp_transcript.specs.After.{after_note}
use Rattle.ncp_transcript.specs.Noting.{note_as, note_of_message}
use Rattle.ncp_transcript.specs.Runs.{IsHostSaid}
use Rattle.ncp_transcript_two.specs.Seen.{call_body, NoteFits}
use Rattle.ncp_transcript_two.proofs.Well.{none-well}
use Rattle.ncp_proof_runs.specs.Peers.{names, note_for}
use Rattle.ncp_proof_runs.proofs.HostRuns.{Holds, note-said}
use Rattle.ncp_proof_monitor.proofs.HostSlots.{was}
use Rattle.ncp_proof_monitor.proofs.Fine.{PeerInvariant, note_fine}
use Rattle.ncp_proof_monitor.proofs.Laid.{AllWhole, note_whole}

-- ---- what is kept for each peer

pub record Ready (s : PeerState) : Type 0 where
  pub fine : PeerInvariant s.peer
  pub kept : AllWhole s

abbrev pub AllReady : Host → Type 0
AllReady h = (n : ℕ) (s : PeerState) → state_of h n ≡ Some s → Ready s

pub ready_after : (ns : List ℕ) (note : HostNote) (h : Host) → Holds ns h → IsHostSaid note h → NoteFits (call_body note) → AllReady h → AllReady (after_note note h)
ready_after ns note h k p fits all n now e =
    let w = was ns note h n now k p e in
    subst Ready (sym w.2) (by w.0 w.1 (names n note) refl)
  where
    by : (s : PeerState) → state_of h n ≡ Some s → (b : Bool) → names n note ≡ b → Ready (if b then note_for note s else s)
    by s there true g =
        let r = all n s there in
        record { fine = note_fine note s fits r.fine; kept = note_whole n note s (note-said ns note h n s k p there g) (k.good n s there).0 r.fine r.kept }
    by s there false g = all n s there

pub fits_in : (o : Option Leader) (bits : List Bool) (h : Host) (note : HostNote) → note ≡ note_as o bits (received_in bits h) → NoteFits (call_body note)
fits_in None bits h note e = subst (λ (x : HostNote). NoteFits (call_body x)) (sym e) tt
fits_in (Some leader) bits h note e = subst (λ (x : HostNote). NoteFits (call_body x)) (sym e) tt

pub fits_out : (o : Option (List Bool)) (note : HostNote) → note ≡ note_of_message o → NoteFits (call_body note)
fits_out None note e = subst (λ (x : HostNote). NoteFits (call_body x)) (sym e) tt
fits_out (Some message) note e = subst (λ (x : HostNote). NoteFits (call_body x)) (sym e) tt

-- ---- the beginning

new_ready : Ready new_state
new_ready = record {
  fine = record { good = none-good; well = record { waiting = All-nil IsCommand; ends = none-well } };
  kept = λ on m e. let nothing : None ≡ Some m = sym (ap kept_message (slot_at-no_slots on)) ∙ e in absurd (cc);
}

pub ready_begins : (me : ℕ) (ns : List ℕ) → AllReady (new_host me ns)
ready_begins me [] n s e = absurd (cc)
ready_begins me (m ∷ ns) n s e = by (m == n) (ready_begins me ns n s) e
  where
    by : (b : Bool) → (state_of (new_host me ns) n ≡ Some s → Ready s) → (if b then Some new_state else state_of (new_host me ns) n) ≡ Some s → Ready s
    by true rest e = let is : new_state ≡ s = cc in subst Ready is new_ready
    by false rest e = rest e
