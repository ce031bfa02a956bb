-- Meant for other crates too: they cite what is public here.
--
-- Each run, and so each transcript, is paid for.
use Rattle.std.proofs.Common.{ℕ, ◌+◌, ◌≤◌, List, [], ◌∷◌, ◌++◌, Option, None, Some, sym, ap, subst, arith}
use Rattle.ncp_proof_machine.specs.Resets.{Party, This, That}
use Rattle.ncp_proof_machine.specs.Hosts.{TwoNodes, nodes_swapped, start}
use Rattle.ncp_transcript_two.specs.World.{World, NoteBody, moves, at, WorldStep, swap}
use Rattle.ncp_transcript_two.specs.Tie.{IsMove, IsNewWorld, Begins, Refines}
use Rattle.ncp_transcript_two.specs.declared.note.Note.{Note}
use Rattle.ncp_transcript_two.specs.Between.{Hosts, hosts_after_note, hosts_after_notes}
use Rattle.ncp_transcript_two.specs.Transcript.{IsRun, began, IsTranscript}
use Rattle.ncp_transcript_two.specs.Seen.{seen, as_rules, body_of, side_of}
use Rattle.ncp_transcript_two.proofs.Ties.{tied-swapped}
use Rattle.ncp_transcript_two.proofs.Runs.{moves-tie, new-side}
use Rattle.ncp_transcript_two.proofs.SeenSteps.{Stand}
use Rattle.ncp_transcript_two.proofs.SeenRuns.{DoesOn, event-does, stand-after}
use Rattle.ncp_transcript_two.proofs.Headlines.{new, stands}
use Rattle.ncp_transcript_two.proofs.Impossible.{run_before}
use Rattle.ncp_proof_progress.specs.HostsWork.{work, BothFit}
use Rattle.ncp_proof_progress.proofs.HostsWork.{counterpart-fit, start-fits, start-work}
use Rattle.ncp_proof_quiescence.specs.NotesWork.{body_moves, body_allows, from_side, note_moves, note_allows, notes_move, notes_allow, MovesAreBounded, MoreIsBounded}
use Rattle.ncp_proof_quiescence.proofs.Leading.{led-paid}

-- the model goes on to a world for which this one stands, and what moves is paid for
abbrev pub On : World → TwoNodes → ℕ → ℕ → Type 0
On v x move allow = (y : TwoNodes) × Refines y v × BothFit y × (work y + move ≤ work x + allow)

-- one event
steps-on : (side : Party) (st : WorldStep) (v : World) (x : TwoNodes) → IsMove st → Refines x v → BothFit x → On (at side st v).0 x (body_moves (at side st v).1) (body_allows (at side st v).1 (from_side side v))
steps-on This st v x ok t b =
    let r = moves-tie st x v ok t in
    let p = led-paid (moves st v).1 x v r.0 b t.this.peer r.4 in
    (r.0, r.1, p.0, p.1)
steps-on That st v x ok t b =
    let r = moves-tie st (nodes_swapped x) (swap v) ok (tied-swapped x v t) in
    let p = led-paid (moves st (swap v)).1 (nodes_swapped x) (swap v) r.0 (counterpart-fit x b) t.that.peer r.4 in
    let q = p.1 in
    (nodes_swapped r.0, tied-swapped r.0 (moves st (swap v)).0 r.1, counterpart-fit r.0 p.0, omega (arith, q))

-- one note
pub note-on : (note : Note) (w : Hosts) (x : TwoNodes) (o : Option NoteBody) → DoesOn (as_rules (side_of note)) o (seen w) (seen (hosts_after_note note w)) → Refines x (seen w) → BothFit x
    → On (seen (hosts_after_note note w)) x (note_moves o) (note_allows (as_rules (side_of note)) o (seen w))
note-on note w x None same t b = (x, subst (λ (v : World). Refines x v) (sym same) t, b, omega arith)
note-on note w x (Some told) (st, ok, is) t b =
    let side : Party = as_rules (side_of note) in
    let r = steps-on side st (seen w) x ok t b in
    let i = r.3 in
    let m = ap (λ (d : World × NoteBody). body_moves d.1) is in
    let a = ap (λ (d : World × NoteBody). body_allows d.1 (from_side side (seen w))) is in
    (r.0, subst (λ (d : World × NoteBody). Refines r.0 d.0) is r.1, r.2, omega (arith, i, m, a))

-- the notes from some hosts on
abbrev pub From : List Note → Hosts → TwoNodes → Type 0
From ns w x = Stand (hosts_after_notes ns w) × On (seen (hosts_after_notes ns w)) x (notes_move ns) (notes_allow ns w)

pub from : (ns : List Note) (w : Hosts) (x : TwoNodes) → IsRun ns w → Stand w → Refines x (seen w) → BothFit x → From ns w x
unfolding notes_move notes_allow
from [] w x run k t b = (k, (x, t, b, omega arith))
from (note ∷ ns) w x run k t b =
    let r = note-on note w x (body_of note) (event-does w k x t run.0.0 note run.0.1) t b in
    let q = from ns (hosts_after_note note w) r.0 run.1 (stand-after note w k) r.1 r.2 in
    let i = r.3 in
    let j = q.1.3 in
    (q.0, (q.1.0, q.1.1, q.1.2, omega (arith, i, j)))

-- a new world stands for the start of the model
pub starts : (v : World) → IsNewWorld v → Refines start v
starts v k = record { reached = Begins; this = new-side v.there v.this v.going k.there k.this k.going; that = new-side v.here v.that v.coming k.here k.that k.coming }

run-after : (before more : List Note) (w : Hosts) → IsRun (before ++ more) w → IsRun more (hosts_after_notes before w)
run-after [] more w r = r
run-after (note ∷ ns) more w r = run-after ns more (hosts_after_note note w) r.1

pub transcript-paid : (ns : List Note) (w : Hosts) → IsTranscript ns w → MovesAreBounded ns w
transcript-paid ns w t =
    let f = from ns (began w) start t.run (stands ns w t) (starts (seen (began w)) (new ns w t)) start-fits in
    let i = f.1.3 in
    let z = start-work in
    (f.1.0, subst (λ (h : Hosts). Refines f.1.0 (seen h)) (sym t.state) f.1.1, omega (arith, i, z))

pub transcript-within : (ns : List Note) (w : Hosts) → IsTranscript ns w → notes_move ns ≤ notes_allow ns (began w)
transcript-within ns w t = let p = transcript-paid ns w t in let i = p.2 in omega (arith, i)

pub more-paid : (before after : List Note) (w : Hosts) → IsTranscript (before ++ after) w → MoreIsBounded before after w
more-paid before after w t =
    let f = from before (began w) start (run_before before after (began w) t.run) (stands (before ++ after) w t) (starts (seen (began w)) (new (before ++ after) w t)) start-fits in
    let g = from after (hosts_after_notes before (began w)) f.1.0 (run-after before after (began w) t.run) f.0 f.1.1 f.1.2 in
    let i = f.1.3 in
    let j = g.1.3 in
    let z = start-work in
    (f.1.0, f.1.1, omega (arith, i, z), omega (arith, j))
