-- Meant for other crates too: they cite what is public here.
--
-- What a note tells of is a step of the model, which is paid for.
use Rattle.std.proofs.Common.{◌≡◌, ℕ, ◌+◌, ◌==◌, ◌≤◌, true, false, List, Option, Some, sym, ap, ◌∙◌, subst, arith}
use Rattle.std.specs.FinMap.{get}
use Rattle.ncp_wire.specs.declared.command.Command.{Command}
use Rattle.ncp_peer.specs.Hearing.{is_wrong_link}
use Rattle.ncp_model.specs.Effect.{is_data_link}
use Rattle.ncp_model.specs.declared.pair.Pair.{Pair}
use Rattle.ncp_model.specs.Peers.{Peer, PairCall}
use Rattle.ncp_proof_machine.specs.Delivery.{Slot, MessageTransit, Accepted}
use Rattle.ncp_proof_machine.specs.Resets.{Party, This, That}
use Rattle.ncp_proof_machine.specs.Hosts.{TextOut, peer_of, NodeStep, TwoNodes, node_at}
use Rattle.ncp_transcript.specs.Asked.{Asks, Asks_echo, Asks_reset, Asks_wake}
use Rattle.ncp_transcript_two.specs.World.{World, NoteBody, Called, Out, In, Went_lost, Went_dead, Answered, Nothing}
use Rattle.ncp_transcript_two.proofs.Ties.{IsFor, Leads}
use Rattle.ncp_proof_progress.specs.Work.{call_budget}
use Rattle.ncp_proof_progress.specs.HostsWork.{work, BothFit, IsOnDataLink, one_if_any, one_if_accepted, one_if_told, moved_at, allows_at}
use Rattle.ncp_proof_progress.proofs.HostsWork.{at-fit, at-paid}
use Rattle.ncp_proof_quiescence.specs.NotesWork.{body_moves, body_allows}

pub on-data : (on : ℕ) → (on == 0) ≡ false → is_wrong_link on ≡ false → is_data_link on ≡ true
on-data on z f = grind arith

-- the step is on its link, moves so many messages at least, and allows no more
abbrev Counts : NoteBody → Party → NodeStep → TwoNodes → World → Type 0
Counts told side step w v = IsOnDataLink step × (body_moves told ≤ moved_at side step w) × (allows_at side step w ≤ body_allows told v)

accepted : {M : Type 0} (s : MessageTransit M) (m : M) → s ≡ Accepted m → one_if_accepted s ≡ 1
accepted s m e = ap (λ (s : MessageTransit _). one_if_accepted s) e

ready : {M : Type 0} (o : Option M) (m : M) → o ≡ Some m → one_if_any o ≡ 1
ready o m e = ap (λ (o : Option _). one_if_any o) e

-- where this world stands for that one
counts : (told : NoteBody) (side : Party) (step : NodeStep) (w : TwoNodes) (v : World) → v.this.peer ≡ peer_of w.this → IsFor told side step w → Counts told side step w v
counts (Called (Asks pair call) reply) This (NodeStep.Calls p c) w v k e =
    let h : call_budget c (get w.this.ends p) ≡ call_budget call (get v.this.peer.ends pair) = ap (λ (q : Pair). call_budget c (get w.this.ends q)) e.0 ∙ ap (λ (d : PairCall). call_budget d (get w.this.ends pair)) e.1 ∙ ap (λ (p : Peer). call_budget call (get p.ends pair)) (sym k) in
    (tt, omega arith, omega (arith, h))
counts (Called (Asks_echo byte) reply) This (NodeStep.Calls_echo b) w v k e = (tt, omega arith, omega arith)
counts (Called Asks_reset reply) This NodeStep.Calls_reset w v k e = (tt, omega arith, omega arith)
counts (Called Asks_wake reply) This NodeStep.Wakes w v k e = (tt, omega arith, omega arith)
counts (Out m) This (NodeStep.Sends n) w v k e = let h = ready _ e.0 e.1 in (tt, omega (arith, h), omega arith)
counts (Out m) This (NodeStep.Sends_text on) w v k e = let h = ready _ e.1 e.2 in (on-data on e.0.0 e.0.1, omega (arith, h), omega arith)
counts (In link m r) That NodeStep.Hears w v k e = let h = accepted _ e.0 e.1 in (tt, omega (arith, h), omega arith)
counts (In link m r) That (NodeStep.Hears_text on head) w v k e = let h = accepted _ e.1 e.2 in (on-data on e.0.0 e.0.1, omega (arith, h), omega arith)
counts (Went_lost link) This NodeStep.Loses w v k e = let h = accepted _ e.0 e.1 in (tt, omega (arith, h), omega (arith, h))
counts (Went_lost link) This (NodeStep.Loses_text on) w v k e = let h = accepted _ e.1 e.2 in (on-data on e.0.0 e.0.1, omega (arith, h), omega (arith, h))
counts (Went_dead link) This NodeStep.Dies w v k e = let h = accepted _ e.0 e.1 in (tt, omega (arith, h), omega (arith, h))
counts (Went_dead link) This (NodeStep.Text_dies on) w v k e = let h = accepted _ e.1 e.2 in (on-data on e.0.0 e.0.1, omega (arith, h), omega (arith, h))
counts (Answered link how r) This NodeStep.Is_answered w v k e = let h = ready _ e.1 e.3 in let g = ap (λ (slot : Slot (List Command)). one_if_told slot w.this.control.subnet) e.2 in (tt, omega (arith, h, g), omega arith)
counts (Answered link how r) This (NodeStep.Text_is_answered on) w v k e = let h = ready _ e.2 e.4 in let g = ap (λ (slot : Slot TextOut). one_if_told slot (w.this.texts on).subnet) e.3 in (on-data on e.0.0 e.0.1, omega (arith, h, g), omega arith)
counts told side step w v k e = absurd e

-- the work after it, and what it moves, are paid for
abbrev pub Paid : NoteBody → TwoNodes → World → TwoNodes → Type 0
Paid told w v x = BothFit x × (work x + body_moves told ≤ work w + body_allows told v)

by-step : (told : NoteBody) (w : TwoNodes) (v : World) (x : TwoNodes) → BothFit w → v.this.peer ≡ peer_of w.this → (side : Party) (step : NodeStep) → IsFor told side step w → node_at side step w ≡ x → Paid told w v x
by-step told w v x b k side step f e =
    let c = counts told side step w v k f in
    let p = at-paid side step w b c.0 in
    let i = c.1 in
    let j = c.2 in
    subst (λ (y : TwoNodes). Paid told w v y) e (at-fit side step w b, omega (arith, p, i, j))

pub led-paid : (told : NoteBody) (w : TwoNodes) (v : World) (x : TwoNodes) → BothFit w → v.this.peer ≡ peer_of w.this → Leads told w x → Paid told w v x
led-paid (Called asked reply) w v x b k l = by-step (Called asked reply) w v x b k l.0 l.1 l.2 l.3
led-paid (Out m) w v x b k l = by-step (Out m) w v x b k l.0 l.1 l.2 l.3
led-paid (In on m r) w v x b k l = by-step (In on m r) w v x b k l.0 l.1 l.2 l.3
led-paid (Went_lost on) w v x b k l = by-step (Went_lost on) w v x b k l.0 l.1 l.2 l.3
led-paid (Went_dead on) w v x b k l = by-step (Went_dead on) w v x b k l.0 l.1 l.2 l.3
led-paid (Answered on how r) w v x b k l = by-step (Answered on how r) w v x b k l.0 l.1 l.2 l.3
led-paid Nothing w v x b k l = subst (λ (y : TwoNodes). Paid Nothing w v y) (sym l) (b, omega arith)
