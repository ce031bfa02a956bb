-- What is known of each of two hosts at its own interface, through each record of a file of both.
use Rattle.std.proofs.Common.{◌≡◌, ℕ, ◌<◌, ◌==◌, Bool, true, false, ◌||◌, List, [], ◌∷◌, Option, Some, refl, ap, subst}
use Rattle.ncp_leader.specs.Message.{message_in}
use Rattle.ncp_host.specs.Host.{Host, is_one_of, new_host}
use Rattle.ncp_host.specs.Turns.{next_output}
use Rattle.ncp_transcript.specs.declared.input.Input.{Input}
use Rattle.ncp_transcript.specs.declared.call.Call.{Call}
use Rattle.ncp_transcript.specs.declared.note.HostNote.{HostNote}
use Rattle.ncp_transcript.specs.After.{after_note}
use Rattle.ncp_transcript.specs.Noting.{CallNoted, answer_in, note_of_bits, note_of_message, note_of_output}
use Rattle.ncp_transcript.specs.Runs.{IsHostSaid}
use Rattle.ncp_transcript.proofs.Saying.{noted_said}
use Rattle.ncp_transcript_two.specs.Seen.{CallFits}
use Rattle.ncp_transcript_two.proofs.Fitting.{note-fits}
use Rattle.ncp_proof_runs.proofs.Said.{IsOut}
use Rattle.ncp_proof_runs.proofs.States.{Turn}
use Rattle.ncp_proof_runs.proofs.HostRuns.{Holds, out-turn, out-is}
use Rattle.ncp_proof_runs.proofs.EachPeer.{holds-after, new-holds}
use Rattle.ncp_monitor.specs.declared.monitor.Monitor.{Monitor}
use Rattle.ncp_interface.specs.declared.imp_direction.ImpDirection.{ImpDirection}
use Rattle.ncp_interface.specs.declared.imp_direction.ImpDirection.TheVariants.{ToImp, FromImp}
use Rattle.ncp_monitor.specs.Judged.{new_monitor, sees, fresh_out, monitor_after_out, record_findings, after_record}
use Rattle.ncp_monitor.proofs.Passing.{Pass}
use Rattle.ncp_proof_monitor.proofs.Leaders.{peer_of_turn}
use Rattle.ncp_proof_monitor.proofs.HostSlots.{call_noted}
use Rattle.ncp_proof_monitor.proofs.Linked.{after_call, after_out_of, after_in_of}
use Rattle.ncp_proof_monitor.proofs.LinkWalk.{follows_begins}
use Rattle.ncp_proof_monitor.proofs.ReadyPeers.{AllReady, ready_after, fits_in, ready_begins}
use Rattle.ncp_proof_monitor.proofs.PhaseWalk.{call_all, in_all, out_all, out_passes, seen_begins}
use Rattle.ncp_proof_monitor.proofs.Others.{Watched, watched, other_leaves}
use Rattle.ncp_proof_monitor.proofs.TwoHosts.{small_peer}
use Rattle.ncp_proof_monitor_messages.proofs.Quiet.{phase_quiet, quiet_flow}

pub record At (me n : ℕ) (h : Host) (monitor : Monitor) : Type 0 where
  pub holds : Holds (n ∷ []) h
  pub watched : Watched me h monitor
  pub ready : AllReady h

pub one_peer : (me n : ℕ) → (n == me) ≡ false → is_one_of me (n ∷ []) ≡ false
one_peer me n d = ap (λ (b : Bool). b || false) d

-- ---- a call

pub called : (me n : ℕ) (h : Host) (monitor : Monitor) (call : Call) (note : HostNote) → CallNoted call note h → CallFits call → At me n h monitor → At me n (after_note note h) monitor
called me n h monitor call note p f k =
    let said = noted_said (Input.Call call) note h p in
    let c = call_noted call note h p in
    record {
      holds = holds-after (n ∷ []) note h k.holds said;
      watched = record { follows = after_call (n ∷ []) me note h monitor k.holds said c k.watched.follows; seen = call_all (n ∷ []) me note h monitor k.holds said c k.ready k.watched.seen };
      ready = ready_after (n ∷ []) note h k.holds said (note-fits call note h p f) k.ready;
    }

-- ---- what comes

pub came : (me n : ℕ) (h : Host) (monitor : Monitor) (bits : List Bool) → (n == me) ≡ false → me < 256 → At me n h monitor → At me n (after_note (note_of_bits bits h) h) (after_record monitor FromImp me bits)
came me n h monitor bits d l k =
    let note = note_of_bits bits h in
    let said = noted_said (Input.In bits) note h refl in
    record {
      holds = holds-after (n ∷ []) note h k.holds said;
      watched = record {
        follows = after_in_of (n ∷ []) me h monitor bits note k.holds (one_peer me n d) said refl k.watched.follows;
        seen = in_all (n ∷ []) me h monitor bits note k.holds (one_peer me n d) l said refl k.watched.follows k.watched.seen;
      };
      ready = ready_after (n ∷ []) note h k.holds said (fits_in (answer_in bits h) bits h note refl) k.ready;
    }

-- ---- sent messages

said_out : (h : Host) (m : List Bool) → next_output h ≡ Some m → IsHostSaid (HostNote.Out m) h
said_out h m q = subst (λ (o : Option (List Bool)). IsHostSaid (note_of_message o) h) q (noted_said Input.Out (note_of_output h) h refl)

pub record Went (me n : ℕ) (h : Host) (m : List Bool) (monitor : Monitor) : Type 0 where
  pub none : Pass phase_quiet (record_findings monitor ToImp me m)
  pub at : At me n (after_note (HostNote.Out m) h) (after_record monitor ToImp me m)

pub went : (me n : ℕ) (h : Host) (monitor : Monitor) (m : List Bool) → (n == me) ≡ false → me < 256 → next_output h ≡ Some m → At me n h monitor → Went me n h m monitor
went me n h monitor m d l q k = record {
  none = out_passes phase_quiet (n ∷ []) me t.n h monitor m t.s is k.holds l (one_peer me n d) said t.found k.watched.follows k.ready k.watched.seen other
      (quiet_flow (monitor_after_out (sees monitor me) me t.n is.on m) me t.n me true (fresh_out (sees monitor me) me t.n is.on m) (message_in m));
  at = record {
    holds = holds-after (n ∷ []) (HostNote.Out m) h k.holds said;
    watched = record {
      follows = after_out_of (n ∷ []) me t.n is.on h monitor m t.s k.holds said is.leader other t.found k.watched.follows;
      seen = out_all (n ∷ []) me t.n h monitor m t.s is k.holds l (one_peer me n d) said t.found k.watched.follows k.ready k.watched.seen other;
    };
    ready = ready_after (n ∷ []) (HostNote.Out m) h k.holds said tt k.ready;
  };
}
  where
    said : IsHostSaid (HostNote.Out m) h
    said = said_out h m q

    t : Turn h.peers m
    t = out-turn (n ∷ []) h m k.holds q

    is : IsOut t.n m t.s
    is = out-is (n ∷ []) h m k.holds t

    other : (t.n == me) ≡ false
    other = peer_of_turn (n ∷ []) me h m k.holds (one_peer me n d) t

-- ---- a record at the other interface

pub elsewhere : (me n at : ℕ) (way : ImpDirection) (bits : List Bool) (h : Host) (monitor : Monitor) → (at == me) ≡ false → At me n h monitor → At me n h (after_record monitor way at bits)
elsewhere me n at way bits h monitor d k = record {
  holds = k.holds;
  watched = watched me h monitor (after_record monitor way at bits) (λ m s there. (k.holds.good m s there).0) (other_leaves me at way bits monitor d) k.watched;
  ready = k.ready;
}

-- ---- the beginning

pub begins : (me n : ℕ) → n < 256 → At me n (new_host me (n ∷ [])) (new_monitor false)
begins me n l = record { holds = new-holds me (n ∷ []) refl (small_peer n l); watched = record { follows = follows_begins me (n ∷ []); seen = seen_begins me (n ∷ []) }; ready = ready_begins me (n ∷ []) }
