-- What goes out is the message on the first link that is ready, to the first peer that has one.
use Rattle.std.proofs.Common.{ℕ, ◌==◌, Bool, true, false, if◌then◌else◌, List, [], ◌∷◌, ◌++◌, map, Option, None, Some, Result, Ok, Err, sym, subst}
use Rattle.ncp_leader.specs.declared.leader.Leader.{Leader}
use Rattle.ncp_leader.specs.declared.leader.Short.{Short}
use Rattle.ncp_leader.specs.Leader.{leader_in}
use Rattle.ncp_wire.specs.declared.answer.Answer.{Answer}
use Rattle.ncp_wire.specs.declared.answer.Answer.TheVariants.{Rfnm, Incomplete, Dead}
use Rattle.ncp_model.specs.Peers.{Take}
use Rattle.ncp_peer.specs.PeerState.{PeerState, new_state, state_calls, answer_comes}
use Rattle.ncp_peer.specs.Hearing.{rfnm, destination_dead, incomplete, is_kind, after_bits}
use Rattle.ncp_peer.specs.Output.{after_output}
use Rattle.ncp_host.specs.Host.{Host, state_of, at_peer, new_host}
use Rattle.ncp_host.specs.Arrivals.{after_with, after_from, one_other}
use Rattle.ncp_peer.specs.Readiness.{IsNext}
use Rattle.ncp_host.proofs.Sound.{sound-calls, sound-echo, sound-reset, sound-wakes, sound-bits, sound-output, sound-new}
use Rattle.ncp_host.proofs.Short.{fit-calls, fit-echo, fit-reset, fit-bits, fit-output, fit-new}
use Rattle.ncp_host.proofs.FirstReady.{IsWell, AreWell, is_next}
use Rattle.ncp_transcript.specs.declared.note.HostNote.{HostNote}
use Rattle.ncp_transcript.specs.After.{after_note, after_notes}
use Rattle.ncp_transcript.specs.Runs.{IsHostSaid, IsHostRun}
use Rattle.ncp_proof_runs.specs.Peers.{FromBeginning}
use Rattle.ncp_proof_runs.proofs.HostRuns.{Holds, out-turn}
use Rattle.ncp_proof_runs.proofs.EachPeer.{holds-after, new-holds}
use Rattle.ncp_proof_runs.proofs.InRuns.{before_note}
use Rattle.ncp_transcript.specs.Asked.{Asked, Asks, Asks_echo, Asks_reset, Asks_wake, asked_in, state_after_asked, host_after_asked}

changed-well : (ps : List (ℕ × PeerState)) (number : ℕ) (f : PeerState → PeerState) → ((s : PeerState) → IsWell s → IsWell (f s)) → AreWell ps → AreWell (at_peer number f ps)
changed-well [] number f k h = tt
changed-well (p ∷ ps) number f k h = go (p.0 == number) (changed-well ps number f k h.1)
  where
    go : (b : Bool) → AreWell (at_peer number f ps) → AreWell (if b then (p.0, f p.1) ∷ ps else p ∷ at_peer number f ps)
    go true r = (k p.1 h.0, h.1)
    go false r = (h.0, r)

asked-well : (asked : Asked) (s : PeerState) → IsWell s → IsWell (state_after_asked asked s)
asked-well (Asks pair call) s k = (sound-calls pair call s.peer s.slots k.0, fit-calls pair call s.peer k.1)
asked-well (Asks_echo byte) s k = (sound-echo byte s.peer s.slots k.0, fit-echo byte s.peer k.1)
asked-well Asks_reset s k = (sound-reset _ s.peer s.slots k.0, fit-reset _ s.peer k.1)
asked-well Asks_wake s k = (sound-wakes s k.0, k.1)

called-well : (asked : Option (ℕ × Asked)) (h : Host) → AreWell h.peers → AreWell (host_after_asked asked h).peers
called-well None h s = s
called-well (Some (peer, asked)) h s = changed-well h.peers peer (state_after_asked asked) (asked-well asked) s

bits-of : (leader : Leader) (bits : List Bool) (s : PeerState) → IsWell s → IsWell (after_bits leader bits s)
bits-of leader bits s k = (sound-bits leader bits s k.0, fit-bits leader bits s k.1)

-- an answer, as a leader says it
answer-well : (link : ℕ) (how : Answer) (s : PeerState) → IsWell s → IsWell (answer_comes link how s)
answer-well link Rfnm s k = bits-of (record { flags = 0; kind = rfnm; host = 0; link = link; low = 0 }) [] s k
answer-well link Incomplete s k = bits-of (record { flags = 0; kind = incomplete; host = 0; link = link; low = 0 }) [] s k
answer-well link Dead s k = bits-of (record { flags = 0; kind = destination_dead; host = 0; link = link; low = 0 }) [] s k

bits-well : (r : Result Leader Short) (bits : List Bool) (h : Host) → AreWell h.peers → AreWell (after_with r bits h).peers
bits-well (Err short) bits h s = s
bits-well (Ok leader) bits h s = go (is_kind leader.kind) (state_of h leader.host)
  where
    go : (b : Bool) (o : Option PeerState) → AreWell (if b then after_from o leader bits h else one_other h).peers
    go true None = s
    go true (Some x) = changed-well h.peers leader.host (after_bits leader bits) (λ x k. bits-of leader bits x k) s
    go false o = s

note-well : (ns : List ℕ) (note : HostNote) (h : Host) → Holds ns h → IsHostSaid note h → AreWell h.peers → AreWell (after_note note h).peers
note-well ns (HostNote.Done call) h k p s = called-well (asked_in call) h s
note-well ns (HostNote.Took peer pair bytes text) h k p s = changed-well h.peers peer (state_calls pair (Take bytes)) (asked-well (Asks pair (Take bytes))) s
note-well ns (HostNote.Out message) h k p s = let t = out-turn ns h message k p in subst AreWell (sym t.after) (changed-well h.peers t.n (after_output t.on message) (λ x g. (sound-output t.on message x g.0, fit-output t.on message x g.1)) s)
note-well ns (HostNote.In message received) h k p s = bits-well (leader_in message) message h s
note-well ns (HostNote.Answered peer link how received) h k p s = changed-well h.peers peer (answer_comes link how) (λ x g. answer-well link how x g) s
note-well ns other h k p s = s

all-well : (ns : List ℕ) (all : List HostNote) (h : Host) → Holds ns h → IsHostRun all h → AreWell h.peers → AreWell (after_notes all h).peers
all-well ns [] h k p s = s
all-well ns (note ∷ rest) h k p s = all-well ns rest (after_note note h) (holds-after ns note h k p.0) p.1 (note-well ns note h k p.0 s)

new-well : (ns : List ℕ) → AreWell (map (λ n. (n, new_state)) ns)
new-well [] = tt
new-well (n ∷ ns) = ((sound-new, fit-new), new-well ns)

well-from : (me : ℕ) (ns : List ℕ) (all : List HostNote) → FromBeginning me ns all → AreWell (after_notes all (new_host me ns)).peers
well-from me ns all from = all-well ns all (new_host me ns) (new-holds me ns from.distinct from.places) from.run (new-well ns)

pub out-first : (me : ℕ) (ns : List ℕ) (before after : List HostNote) (message : List Bool) → FromBeginning me ns (before ++ HostNote.Out message ∷ after) → IsNext (Some message) (after_notes before (new_host me ns)).peers
out-first me ns before after message from =
    let b = before_note me ns before after (HostNote.Out message) from in
    let h = after_notes before (new_host me ns) in
    subst (λ (o : Option (List Bool)). IsNext o h.peers) b.said (is_next h.peers (well-from me ns before b.from))

pub none-ready : (me : ℕ) (ns : List ℕ) (before after : List HostNote) → FromBeginning me ns (before ++ HostNote.Nothing ∷ after) → IsNext None (after_notes before (new_host me ns)).peers
none-ready me ns before after from =
    let b = before_note me ns before after HostNote.Nothing from in
    let h = after_notes before (new_host me ns) in
    subst (λ (o : Option (List Bool)). IsNext o h.peers) b.said (is_next h.peers (well-from me ns before b.from))
