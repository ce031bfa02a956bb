-- What is known of a host at its own interface, through what its IMP reports.
use Rattle.std.proofs.Common.{◌≡◌, ℕ, ◌<◌, ◌==◌, Bool, true, false, if◌then◌else◌, List, [], Ok, refl, sym, ap, ◌∙◌, subst, append-nil, arith}
use Rattle.ncp_leader.specs.Leader.{leader_in}
use Rattle.ncp_leader.proofs.Leaders.{leader_in-bits}
use Rattle.ncp_host.specs.Host.{Host, is_one_of}
use Rattle.ncp_host.specs.Restarting.{incomplete_leader, incomplete_bits}
use Rattle.ncp_transcript.specs.declared.note.HostNote.{HostNote}
use Rattle.ncp_transcript.specs.After.{after_note}
use Rattle.ncp_transcript.specs.Noting.{note_of_bits}
use Rattle.ncp_monitor.specs.declared.monitor.Monitor.{Monitor}
use Rattle.ncp_interface.specs.declared.sent_message.SentMessage.{SentMessage}
use Rattle.ncp_monitor.specs.ConnStates.{SeenTables}
use Rattle.ncp_interface.specs.Slots.{position_of, with_answer}
use Rattle.ncp_monitor.specs.Tables.{view_in}
use Rattle.ncp_monitor.specs.Judged.{next_number, sees, monitor_after_answer}
use Rattle.ncp_monitor.proofs.Following.{answer_is}
use Rattle.ncp_proof_monitor.proofs.Others.{watched, answer_leaves}
use Rattle.ncp_proof_monitor_allocation.proofs.Elsewhere.{Alike}
use Rattle.ncp_proof_monitor_host.proofs.FlowWalk.{AllSpoken, spoken_alike}
use Rattle.ncp_proof_monitor_host.proofs.FlowFile.{AtOwn, own_came}

-- the number of a record, and which interfaces were seen, are not read
unnumbered : (me n : ℕ) (b : SeenTables) → Alike me n (next_number b) b
unnumbered me n b = record { conns = refl; known_facts = refl; pending_replies = refl }

numbered : (me n : ℕ) (b : SeenTables) → Alike me n b (next_number b)
numbered me n b = record { conns = refl; known_facts = refl; pending_replies = refl }

pub own_unseen : (ns : List ℕ) (me : ℕ) (h : Host) (monitor : Monitor) (at : ℕ) → AtOwn ns me h (sees monitor at) → AtOwn ns me h monitor
own_unseen ns me h monitor at k = record {
  holds = k.holds;
  ready = k.ready;
  followed = record {
    watches = record { follows = k.followed.watches.follows; seen = record { long = k.followed.watches.seen.long; each = k.followed.watches.seen.each } };
    talks = record {
      tidy = k.followed.talks.tidy;
      carries = k.followed.talks.carries;
      spoken = λ full room n s there.
          spoken_alike me n s.peer (view_in monitor.views me n) (next_number monitor.conn_tables) monitor.conn_tables (unnumbered me n monitor.conn_tables) (k.followed.talks.spoken full room n s there);
    };
  };
}

pub own_seen : (ns : List ℕ) (me : ℕ) (h : Host) (monitor : Monitor) (at : ℕ) → AtOwn ns me h monitor → AtOwn ns me h (sees monitor at)
own_seen ns me h monitor at k = record {
  holds = k.holds;
  ready = k.ready;
  followed = record {
    watches = record { follows = k.followed.watches.follows; seen = record { long = k.followed.watches.seen.long; each = k.followed.watches.seen.each } };
    talks = record {
      tidy = k.followed.talks.tidy;
      carries = k.followed.talks.carries;
      spoken = λ full room n s there.
          spoken_alike me n s.peer (view_in monitor.views me n) monitor.conn_tables (next_number monitor.conn_tables) (numbered me n monitor.conn_tables) (k.followed.talks.spoken full room n s there);
    };
  };
}

-- an answer at another interface that passes in no record
pub own_answered : (ns : List ℕ) (me : ℕ) (h : Host) (monitor : Monitor) (kind at peer link : ℕ) → (at == me) ≡ false → AtOwn ns me h monitor → AtOwn ns me h (monitor_after_answer monitor kind at peer link)
own_answered ns me h monitor kind at peer link apart k = record {
  holds = k.holds;
  ready = k.ready;
  followed = record {
    watches = watched me h monitor (monitor_after_answer monitor kind at peer link) (λ n s there. (k.holds.good n s there).0) (answer_leaves me at peer link kind monitor apart) k.followed.watches;
    talks = go monitor.full;
  };
}
  where
    kept : List SentMessage
    kept = with_answer (view_in monitor.views at peer).known kind monitor.kept (position_of at peer link monitor.kept)

    go : (b : Bool) → AllSpoken me h (if b then monitor else record monitor { kept = kept })
    go true = k.followed.talks
    go false = record { tidy = k.followed.talks.tidy; carries = k.followed.talks.carries; spoken = k.followed.talks.spoken }

-- an Incomplete Transmission that the host takes, and that passes in no record
pub own_incomplete : (ns : List ℕ) (me : ℕ) (h : Host) (monitor : Monitor) (n on : ℕ) (note : HostNote) → me < 256 → is_one_of me ns ≡ false → n < 256 → on < 256 → (n == me) ≡ false → note ≡ note_of_bits (incomplete_bits n on) h
    → AtOwn ns me h monitor → AtOwn ns me (after_note note h) (monitor_after_answer monitor 9 me n on)
own_incomplete ns me h monitor n on note l a s t apart p k =
    own_unseen ns me (after_note note h) (monitor_after_answer monitor 9 me n on) me
    (subst (AtOwn ns me (after_note note h)) (answer_is monitor me (incomplete_bits n on) (incomplete_leader n on) led apart refl refl ∙ later monitor.full)
    (own_came ns me h monitor (incomplete_bits n on) note l a p k))
  where
    led : leader_in (incomplete_bits n on) ≡ Ok (incomplete_leader n on)
    led =
        ap leader_in (sym (append-nil (incomplete_bits n on)))
        ∙ leader_in-bits (incomplete_leader n on) [] (record { flags = omega arith; kind = omega arith; host = omega (arith, s); link = omega (arith, t); low = omega arith })

    kept : List SentMessage
    kept = with_answer (view_in monitor.views me n).known 9 monitor.kept (position_of me n on monitor.kept)

    later : (b : Bool) → (if b then sees monitor me else record (sees monitor me) { kept = kept }) ≡ sees (if b then monitor else record monitor { kept = kept }) me
    later true = refl
    later false = refl
