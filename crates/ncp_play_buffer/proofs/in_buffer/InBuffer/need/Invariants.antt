use Rattle.std.proofs.Common.{◌≡◌, ℕ, List, ◌++◌, ◌≤◌, ◌-◌, length}
use Rattle.ncp_play_stream.specs.Pieces.{reads_beyond}
use Rattle.ncp_play_stream.specs.Streams.{Moves}
use Rattle.ncp_play_buffer.specs.InBuffers.{read_measure}
use Rattle.ncp_play_buffer.proofs.in_buffer.InBuffer.need.Given as goal

abbrev pub invariant-loop-self : goal.invariant-loop-self
invariant-loop-self g l =
    let s = g.S.Source in
    record {
      moved : Moves l.initial.self (s.left l.initial.source) l.self (s.left l.source);
      grows : (piece : List ℕ) × (l.self ≡ l.initial.self ++ piece);
      read_measure : read_measure (s.reads l.source) l.self ≤ read_measure (s.reads l.initial.source) l.initial.self;
      reads : reads_beyond s.gives_all (s.reads l.initial.source) (s.left l.initial.source) ≤ reads_beyond s.gives_all (s.reads l.source) (s.left l.source);
      lowers : s.reads l.source ≤ s.reads l.initial.source;
      unread : s.reads l.source ≡ s.reads l.initial.source → l.self ≡ l.initial.self;
      mark : s.has_failed l.source ≡ s.has_failed l.initial.source;
    }

abbrev pub decreases-loop-self : goal.decreases-loop-self
decreases-loop-self g l = l.count - length l.self
