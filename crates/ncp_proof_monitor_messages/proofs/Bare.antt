-- A host that has heard no link, through its own calls and through commands that are RST and RRP alone.
use Rattle.std.proofs.Common.{◌≡◌, ℕ, Bool, true, false, if◌then◌else◌, List, [], ◌∷◌, Option, None, Some, subst}
use Rattle.ncp_wire.specs.declared.answer.Answer.{Answer}
use Rattle.ncp_wire.specs.declared.answer.Answer.TheVariants.{Rfnm, Incomplete, Dead}
use Rattle.ncp_wire.specs.declared.command.Command.{Command}
use Rattle.ncp_slot.specs.Slots.{is_quiet}
use Rattle.ncp_model.specs.declared.pair.Pair.{Pair}
use Rattle.ncp_model.specs.Phase.{up, is_resetting, makes_all, resets}
use Rattle.ncp_model.specs.Sending.{is_full}
use Rattle.ncp_model.specs.Effect.{made_by_call}
use Rattle.ncp_model.specs.Echo.{echo_answer}
use Rattle.ncp_model.specs.Peers.{Peer, PairCall, happened_at, calls_echo, calls_reset, calls_up, cleared}
use Rattle.ncp_model.specs.Peers
use Rattle.ncp_model.proofs.ResetLists.{others}
use Rattle.ncp_proof_machine.proofs.EndsGood.{EndsInvariant}
use Rattle.ncp_peer.specs.Counting.{one_more}
use Rattle.ncp_peer.specs.PeerState.{PeerState, is_answered, answer_taken, answer_comes}
use Rattle.ncp_peer.specs.Hearing.{state_hears, state_hears_all}
use Rattle.ncp_transcript.specs.Asked.{Asked, Asks, Asks_echo, Asks_reset, Asks_wake}
use Rattle.ncp_transcript.specs.declared.note.HostNote.{HostNote}
use Rattle.ncp_proof_runs.specs.Peers.{state_asked, note_for}
use Rattle.ncp_proof_monitor.proofs.HostSlots.{is_of_call, asked_of_note, note_asked}
use Rattle.ncp_proof_monitor.proofs.PhaseSteps.{Unheard, none_heard, call_unheard, unheard_kept}

either : (b : Bool) (p q : Peer) → Unheard p.ends → Unheard q.ends → Unheard (if b then p else q).ends
either true p q u w = u
either false p q u w = w

pair_called : (pair : Pair) (call : PairCall) (p : Peer) → EndsInvariant p.ends → Unheard p.ends → Unheard (Peers.calls pair call p).ends
pair_called pair call p g u =
    either (up p.phase) (calls_up pair call p) p
    (unheard_kept (up (makes_all (happened_at pair call p).made p.phase)) _ (call_unheard pair call (is_full p.phase) p.ends g u)) u

reset_called : (q : Bool) (p : Peer) → Unheard p.ends → Unheard (calls_reset q p).ends
reset_called q p u = either (is_resetting p.phase) p (cleared (resets q p.phase) p) u none_heard

echo_called : (byte : ℕ) (p : Peer) → Unheard p.ends → Unheard (calls_echo byte p).ends
echo_called byte p u = either (up p.phase) (Peers.echo_called byte p) p (unheard_kept (up (makes_all (made_by_call (echo_answer byte (is_full p.phase) p.echoes)) p.phase)) p.ends u) u

asked_unheard : (o : Option (ℕ × Asked)) (s : PeerState) → EndsInvariant s.peer.ends → Unheard s.peer.ends → Unheard (state_asked o s).peer.ends
asked_unheard None s g u = u
asked_unheard (Some (peer, Asks pair call)) s g u = pair_called pair call s.peer g u
asked_unheard (Some (peer, Asks_echo byte)) s g u = echo_called byte s.peer u
asked_unheard (Some (peer, Asks_reset)) s g u = reset_called (is_quiet s.slots) s.peer u
asked_unheard (Some (peer, Asks_wake)) s g u = u

pub noted : (note : HostNote) (s : PeerState) → is_of_call note ≡ true → EndsInvariant s.peer.ends → Unheard s.peer.ends → Unheard (note_for note s).peer.ends
noted note s c g u = subst (λ (now : PeerState). Unheard now.peer.ends) (note_asked note c s) (asked_unheard (asked_of_note note) s g u)

-- RST and RRP alone are heard
pub resets_heard : (cs : List Command) (s : PeerState) → others cs ≡ [] → Unheard s.peer.ends → Unheard (state_hears_all cs s).peer.ends
resets_heard [] s o u = u
resets_heard (Command.Rst ∷ cs) s o u = resets_heard cs (state_hears Command.Rst s) o none_heard
resets_heard (Command.Rrp ∷ cs) s o u = resets_heard cs (state_hears Command.Rrp s) o u
resets_heard (c ∷ cs) s o u = absurd (cc o)

-- an answer on link 0
pub control_answered : (how : Answer) (s : PeerState) → Unheard s.peer.ends → Unheard (answer_comes 0 how s).peer.ends
control_answered how s u = go (is_answered 0 s)
  where
    taken : (a : Answer) → Unheard (answer_taken 0 a s).peer.ends
    taken Rfnm = u
    taken Incomplete = u
    taken Dead = u

    go : (b : Bool) → Unheard (if b then answer_taken 0 how s else record s { counts = record s.counts { stray = one_more s.counts.stray } }).peer.ends
    go true = taken how
    go false = u
