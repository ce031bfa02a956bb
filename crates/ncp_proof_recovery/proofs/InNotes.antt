-- A reset recovers, in every transcript.
use Rattle.std.proofs.Common.{◌≡◌, ℕ, Bool, true, false, if◌then◌else◌, List, [], ◌∷◌, ◌++◌, Option, None, Some, Result, Ok, Err, refl, sym, ap, ◌∙◌, subst}
use Rattle.ncp_model.specs.declared.call_fault.CallFault.{CallFault}
use Rattle.ncp_model.specs.declared.call_fault.CallFault.TheVariants.{Busy}
use Rattle.ncp_model.specs.Ends.{no_ends}
use Rattle.ncp_model.specs.Phase.{Phase, is_resetting, reset_answer, up}
use Rattle.ncp_model.specs.Peers.{Peer}
use Rattle.ncp_proof_machine.specs.Resets.{Party, This, That}
use Rattle.ncp_proof_machine.specs.Hosts.{Node, peer_of, NodeStep, TwoNodes, node_at, nodes_swapped}
use Rattle.ncp_peer.specs.PeerState.{PeerState}
use Rattle.ncp_peer.specs.Output.{next_of}
use Rattle.ncp_proof_headline.proofs.HostsHeld.{Ever, ever, after_step}
use Rattle.ncp_transcript_two.specs.Subnet.{TransitByLink, Holds, Free, Accepted, Delivered, Lost, Dead}
use Rattle.ncp_transcript.specs.Asked.{Asks, Asks_echo, Asks_reset, Asks_wake, Reply, Replied}
use Rattle.ncp_transcript_two.specs.World.{World, NoteBody, Called, Out, In, Went_lost, Went_dead, Answered, Nothing, goes, delivers, loses, dies, answers_for, moves, at, WorldStep, swap}
use Rattle.ncp_transcript_two.specs.Tie.{IsMove, Represents, Refines}
use Rattle.ncp_transcript_two.specs.declared.note.Note.{Note}
use Rattle.ncp_transcript_two.specs.declared.side.Side.{Side}
use Rattle.ncp_transcript_two.specs.Between.{Hosts, hosts_after_note, hosts_after_notes}
use Rattle.ncp_transcript_two.specs.Transcript.{IsRun, began, IsTranscript}
use Rattle.ncp_transcript_two.specs.Seen.{seen, as_rules, body_of, side_of}
use Rattle.ncp_transcript_two.proofs.Ties.{IsFor, Leads, tied-swapped}
use Rattle.ncp_transcript_two.proofs.Runs.{moves-tie, new-ties}
use Rattle.ncp_transcript_two.proofs.Reaching.{of-reached}
use Rattle.ncp_transcript_two.proofs.SeenSteps.{Stand}
use Rattle.ncp_transcript_two.proofs.SeenRuns.{DoesOn, event-does, stand-after, stands-at}
use Rattle.ncp_transcript_two.proofs.Headlines.{new, stands}
use Rattle.ncp_transcript_two.proofs.Impossible.{said_at, run_before}
use Rattle.ncp_proof_progress.specs.Idle.{IsSettledInModel}
use Rattle.ncp_proof_progress.specs.Finished.{IsFinished}
use Rattle.ncp_proof_progress.proofs.PairsFinished.{ever-finished}
use Rattle.ncp_proof_quiescence.proofs.OfModel.{settled-of}
use Rattle.ncp_proof_recovery.specs.Recovery.{disturbs, IsFresh}
use Rattle.ncp_proof_recovery.specs.Notes.{is_done_call, tells_call, NothingIsAsked, reset_done, IsNew, ResetRecovers}
use Rattle.ncp_proof_recovery.proofs.Recovering.{Recovers, side-recovers, reset-recovers}
use Rattle.ncp_proof_recovery.proofs.Recovered.{side-recovered}

ever-at : (x : TwoNodes) (v : World) → Refines x v → Ever x
ever-at x v t = of-reached Ever ever x t.reached

-- a note of what nobody asked for tells of a step for which nobody asked

quiet-step : (told : NoteBody) (side : Party) (step : NodeStep) (w : TwoNodes) → is_done_call told ≡ false → IsFor told side step w → disturbs step ≡ false
quiet-step (Called (Asks pair call) reply) This (NodeStep.Calls p c) w q e = absurd (cc q)
quiet-step (Called (Asks_echo byte) reply) This (NodeStep.Calls_echo b) w q e = absurd (cc q)
quiet-step (Called Asks_reset reply) This NodeStep.Calls_reset w q e = absurd (cc q)
quiet-step (Called Asks_wake reply) This NodeStep.Wakes w q e = refl
quiet-step (Out m) This (NodeStep.Sends n) w q e = refl
quiet-step (Out m) This (NodeStep.Sends_text on) w q e = refl
quiet-step (In link m r) That NodeStep.Hears w q e = refl
quiet-step (In link m r) That (NodeStep.Hears_text on head) w q e = refl
quiet-step (Went_lost link) This NodeStep.Loses w q e = refl
quiet-step (Went_lost link) This (NodeStep.Loses_text on) w q e = refl
quiet-step (Went_dead link) This NodeStep.Dies w q e = refl
quiet-step (Went_dead link) This (NodeStep.Text_dies on) w q e = refl
quiet-step (Answered link how r) This NodeStep.Is_answered w q e = refl
quiet-step (Answered link how r) This (NodeStep.Text_is_answered on) w q e = refl
quiet-step told side step w q e = absurd e

by-step : (asker : Party) (told : NoteBody) (x y : TwoNodes) → Ever x → is_done_call told ≡ false → (side : Party) (step : NodeStep) → IsFor told side step x → node_at side step x ≡ y → Recovers asker x → Recovers asker y
by-step asker told x y t q side step f e p = subst (Recovers asker) e (side-recovers asker side step x t (quiet-step told side step x q f) p)

led : (asker : Party) (told : NoteBody) (x y : TwoNodes) → Ever x → is_done_call told ≡ false → Leads told x y → Recovers asker x → Recovers asker y
led asker (Called asked reply) x y t q l p = by-step asker (Called asked reply) x y t q l.0 l.1 l.2 l.3 p
led asker (Out m) x y t q l p = by-step asker (Out m) x y t q l.0 l.1 l.2 l.3 p
led asker (In on m r) x y t q l p = by-step asker (In on m r) x y t q l.0 l.1 l.2 l.3 p
led asker (Went_lost on) x y t q l p = by-step asker (Went_lost on) x y t q l.0 l.1 l.2 l.3 p
led asker (Went_dead on) x y t q l p = by-step asker (Went_dead on) x y t q l.0 l.1 l.2 l.3 p
led asker (Answered on how r) x y t q l p = by-step asker (Answered on how r) x y t q l.0 l.1 l.2 l.3 p
led asker Nothing x y t q l p = subst (Recovers asker) (sym l) p

-- the model goes on to a world for which this one stands

abbrev On : Party → World → Type 0
On asker v = (y : TwoNodes) × Refines y v × Recovers asker y

other : Party → Party
other This = That
other That = This

counterpart : (asker : Party) (x : TwoNodes) → Recovers asker x → Recovers (other asker) (nodes_swapped x)
unfolding other
counterpart This x p = p
counterpart That x p = p

back : (asker : Party) (x : TwoNodes) → Recovers (other asker) x → Recovers asker (nodes_swapped x)
unfolding other
back This x p = p
back That x p = p

steps-on : (asker side : Party) (st : WorldStep) (v : World) (x : TwoNodes) → IsMove st → Refines x v → is_done_call (at side st v).1 ≡ false → Recovers asker x → On asker (at side st v).0
steps-on asker This st v x ok t q p =
    let r = moves-tie st x v ok t in
    (r.0, r.1, led asker (moves st v).1 x r.0 (ever-at x v t) q r.4 p)
steps-on asker That st v x ok t q p =
    let u : Refines (nodes_swapped x) (swap v) = tied-swapped x v t in
    let r = moves-tie st (nodes_swapped x) (swap v) ok u in
    (nodes_swapped r.0, tied-swapped r.0 (moves st (swap v)).0 r.1, back asker r.0 (led (other asker) (moves st (swap v)).1 (nodes_swapped x) r.0 (ever-at (nodes_swapped x) (swap v) u) q r.4 (counterpart asker x p)))

note-on : (asker : Party) (note : Note) (w : Hosts) (x : TwoNodes) (o : Option NoteBody) → DoesOn (as_rules (side_of note)) o (seen w) (seen (hosts_after_note note w)) → Refines x (seen w) → tells_call o ≡ false → Recovers asker x → On asker (seen (hosts_after_note note w))
note-on asker note w x None same t q p = (x, subst (Refines x) (sym same) t, p)
note-on asker note w x (Some told) (st, ok, is) t q p =
    let side : Party = as_rules (side_of note) in
    let r = steps-on asker side st (seen w) x ok t (ap (λ (d : World × NoteBody). is_done_call d.1) is ∙ q) p in
    (r.0, subst (λ (d : World × NoteBody). Refines r.0 d.0) is r.1, r.2)

notes-on : (asker : Party) (ns : List Note) (w : Hosts) (x : TwoNodes) → IsRun ns w → Stand w → Refines x (seen w) → NothingIsAsked ns → Recovers asker x → On asker (seen (hosts_after_notes ns w))
notes-on asker [] w x run k t q p = (x, t, p)
notes-on asker (note ∷ ns) w x run k t q p =
    let r = note-on asker note w x (body_of note) (event-does w k x t run.0.0 note run.0.1) t q.0 p in
    notes-on asker ns (hosts_after_note note w) r.0 run.1 (stand-after note w k) r.1 q.1 r.2

-- The reset.

abbrev done : NoteBody
done = Called Asks_reset (Replied (Ok tt))

abbrev is_done : NoteBody → Type 0
is_done told = told ≡ done

not-delivered : (on : ℕ) (s : Holds) (v : World) → is_done (delivers on s v).1 → ⊥
not-delivered on (Accepted m) v e = cc e
not-delivered on Free v e = cc e
not-delivered on Delivered v e = cc e
not-delivered on Lost v e = cc e
not-delivered on Dead v e = cc e

not-lost : (on : ℕ) (s : Holds) (v : World) → is_done (loses on s v).1 → ⊥
not-lost on (Accepted m) v e = cc e
not-lost on Free v e = cc e
not-lost on Delivered v e = cc e
not-lost on Lost v e = cc e
not-lost on Dead v e = cc e

not-dead : (on : ℕ) (s : Holds) (v : World) → is_done (dies on s v).1 → ⊥
not-dead on (Accepted m) v e = cc e
not-dead on Free v e = cc e
not-dead on Delivered v e = cc e
not-dead on Lost v e = cc e
not-dead on Dead v e = cc e

not-answered : (on : ℕ) (s : Holds) (v : World) → is_done (answers_for on s v).1 → ⊥
not-answered on (Accepted m) v e = cc e
not-answered on Free v e = cc e
not-answered on Delivered v e = cc e
not-answered on Lost v e = cc e
not-answered on Dead v e = cc e

not-gone : (o : Option (ℕ × List Bool)) (v : World) → is_done (goes o v).1 → ⊥
not-gone None v e = cc e
not-gone (Some out) v e = cc e

accepts : (p : Phase) → reset_answer p ≡ Ok tt → is_resetting p ≡ false
accepts p e = go (is_resetting p) refl
  where
    go : (b : Bool) → is_resetting p ≡ b → is_resetting p ≡ false
    go true i = absurd (cc (sym (ap (λ (b : Bool). (let r : Result (Unit {0}) CallFault = if b then Err Busy else Ok tt in r)) i) ∙ e))
    go false i = i

-- it was accepted
was-accepted : (st : WorldStep) (v : World) → is_done (moves st v).1 → is_resetting v.this.peer.phase ≡ false
was-accepted (WorldStep.Call_is_made Asks_reset) v e = accepts v.this.peer.phase (cc e)
was-accepted (WorldStep.Call_is_made (Asks pair call)) v e = absurd (cc e)
was-accepted (WorldStep.Call_is_made (Asks_echo byte)) v e = absurd (cc e)
was-accepted (WorldStep.Call_is_made Asks_wake) v e = absurd (cc e)
was-accepted WorldStep.Goes_out v e = absurd (not-gone (next_of v.there v.this) v e)
was-accepted (WorldStep.Is_delivered on) v e = absurd (not-delivered on (v.going on) v e)
was-accepted (WorldStep.Is_lost on) v e = absurd (not-lost on (v.going on) v e)
was-accepted (WorldStep.Finds_dead on) v e = absurd (not-dead on (v.going on) v e)
was-accepted (WorldStep.Is_answered on) v e = absurd (not-answered on (v.going on) v e)

is-reset : (x y : TwoNodes) → Leads done x y → node_at This NodeStep.Calls_reset x ≡ y
is-reset x y l = go l.0 l.1 l.2 l.3
  where
    go : (side : Party) (step : NodeStep) → IsFor done side step x → node_at side step x ≡ y → node_at This NodeStep.Calls_reset x ≡ y
    go This NodeStep.Calls_reset f e = e
    go side step f e = absurd f

reset-this : (st : WorldStep) (v : World) (x : TwoNodes) → IsMove st → Refines x v → is_done (moves st v).1 → On This (moves st v).0
reset-this st v x ok t e =
    let r = moves-tie st x v ok t in
    let i : is_resetting x.this.host.phase ≡ false = sym (ap (λ (p : Peer). is_resetting p.phase) t.this.peer) ∙ was-accepted st v e in
    (r.0, r.1, subst (Recovers This) (is-reset x r.0 (subst (λ (told : NoteBody). Leads told x r.0) e r.4)) (reset-recovers This x i))

reset-on : (side : Party) (st : WorldStep) (v : World) (x : TwoNodes) → IsMove st → Refines x v → is_done (at side st v).1 → On side (at side st v).0
reset-on This st v x ok t e = reset-this st v x ok t e
reset-on That st v x ok t e =
    let r = reset-this st (swap v) (nodes_swapped x) ok (tied-swapped x v t) e in
    (nodes_swapped r.0, tied-swapped r.0 (moves st (swap v)).0 r.1, r.2)

-- A transcript.

after-more : (before more : List Note) (w : Hosts) → hosts_after_notes (before ++ more) w ≡ hosts_after_notes more (hosts_after_notes before w)
after-more [] more w = refl
after-more (note ∷ before) more w = after-more before more (hosts_after_note note w)

run-more : (before more : List Note) (w : Hosts) → IsRun (before ++ more) w → IsRun more (hosts_after_notes before w)
run-more [] more w r = r
run-more (note ∷ before) more w r = run-more before more (hosts_after_note note w) r.1

as-new : (n : Node) (s : PeerState) → s.peer ≡ peer_of n → IsFresh n → IsNew s
as-new n s k f = record {
  up = ap (λ (p : Peer). up p.phase) k ∙ f.up;
  ends = ap (λ (p : Peer). p.ends) k ∙ f.ends;
  echo = ap (λ (p : Peer). p.echoes.awaited) k ∙ f.echo;
}

recovers : (before quiet : List Note) (side : Side) (peer : ℕ) (w : Hosts) → IsTranscript (before ++ reset_done side peer ∷ quiet) w → NothingIsAsked quiet → On (as_rules side) (seen w)
recovers before quiet side peer w t q =
    let note : Note = reset_done side peer in
    let ns : List Note = before ++ note ∷ quiet in
    let b : Hosts = hosts_after_notes before (began w) in
    let s = stands-at before (began w) (run_before before (note ∷ quiet) (began w) t.run) (stands ns w t) (new-ties (seen (began w)) (new ns w t)) in
    let said = said_at before quiet note (began w) t.run in
    let does : DoesOn (as_rules side) (Some done) (seen b) (seen (hosts_after_note note b)) = event-does b s.0 s.1.0 s.1.1 said.0 note said.1 in
    let r : On (as_rules side) (seen (hosts_after_note note b)) = first side b s.1.0 s.1.1 note does in
    let rest : IsRun quiet (hosts_after_note note b) = (run-more before (note ∷ quiet) (began w) t.run).1 in
    let f = notes-on (as_rules side) quiet (hosts_after_note note b) r.0 rest (stand-after note b s.0) r.1 q r.2 in
    subst (λ (h : Hosts). On (as_rules side) (seen h)) (sym (t.state ∙ after-more before (note ∷ quiet) (began w))) f
  where
    first : (side : Side) (b : Hosts) (x : TwoNodes) → Refines x (seen b) → (note : Note) → DoesOn (as_rules side) (Some done) (seen b) (seen (hosts_after_note note b)) → On (as_rules side) (seen (hosts_after_note note b))
    first side b x k note (st, ok, is) =
        let r = reset-on (as_rules side) st (seen b) x ok k (ap (λ (d : World × NoteBody). d.1) is) in
        (r.0, subst (λ (d : World × NoteBody). Refines r.0 d.0) is r.1, r.2)

pub reset-recovers-in : (ns : List Note) (w : Hosts) → IsTranscript ns w → ResetRecovers ns w
reset-recovers-in ns w t before quiet side peer e q s =
    let r = recovers before quiet side peer w (subst (λ (l : List Note). IsTranscript l w) e t) q in
    let x : TwoNodes = r.0 in
    let i : IsSettledInModel x = settled-of x (seen w) r.1 s in
    let f : IsFinished x = of-reached (λ (y : TwoNodes). IsSettledInModel y → IsFinished y) ever-finished x r.1.reached i in
    let h = side-recovered (as_rules side) x (ever-at x (seen w) r.1) f.this f.that r.2 in
    (as-new x.this (seen w).this r.1.this.peer h.0, as-new x.that (seen w).that r.1.that.peer h.1)
