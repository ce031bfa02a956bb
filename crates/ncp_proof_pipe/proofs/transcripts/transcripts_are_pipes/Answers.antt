use Rattle.std.proofs.Common.{◌≡◌, Bool, List, sym, ap, ◌∙◌, subst}
use Rattle.std.specs.FinMap.{get}
use Rattle.ncp_model.specs.declared.pair.Pair.{Pair}
use Rattle.ncp_model.specs.Pairs.{counterpart}
use Rattle.ncp_model.specs.Peers.{Peer}
use Rattle.ncp_proof_endpoint.specs.Histories.{EndpointWithHistory}
use Rattle.ncp_proof_connection.specs.Ledger.{text_bits}
use Rattle.ncp_proof_connection.specs.Sharing.{shared, Shared, connection_at}
use Rattle.ncp_proof_machine.specs.Hosts.{TwoNodes, Pasts, run, nodes_swapped, peer_of, past_of}
use Rattle.ncp_proof_headline.specs.Tied.{watched_at, IsTied}
use Rattle.ncp_transcript_two.specs.World.{World, swap}
use Rattle.ncp_transcript_two.specs.Watch.{Both, turn}
use Rattle.ncp_transcript_two.specs.Tie.{Refines}
use Rattle.ncp_transcript_two.specs.Seen.{seen}
use Rattle.ncp_transcript_two.specs.OfRules.{histories_of}
use Rattle.ncp_pipe.specs.Pipe.{Step, IsRun, new_pipe}
use Rattle.ncp_pipe.specs.Accounts.{user_steps}
use Rattle.ncp_proof_pipe.specs.Views.{sender_view, receiver_view, pipe_of_views, pipe_of}
use Rattle.ncp_proof_pipe.specs.Calls.{steps_of_sender, steps_of_receiver, sender_steps, receiver_steps}
use Rattle.ncp_proof_pipe.proofs.Sides.{sender-of-users, receiver-of-users}
use Rattle.ncp_proof_pipe.proofs.transcripts.transcripts_are_pipes.Goals as goal

abbrev IsOfPipe : Pair → World → Both → Type 0
IsOfPipe pair v p =
    (steps : List Step) × (fresh : Bool) × (out : List Bool) × IsRun new_pipe steps (pipe_of_views (sender_view (get v.this.peer.ends pair)) (receiver_view (get v.that.peer.ends (counterpart pair))) out fresh)
    × (steps_of_sender steps ≡ sender_steps (past_of p.this pair).calls) × (steps_of_receiver steps ≡ receiver_steps (past_of p.that (counterpart pair)).calls)

-- what a machine says of its ends, said of the hosts
said : (x : TwoNodes) (v : World) (p : Both) (s : Shared) (pair : Pair) (steps users : List Step) (fresh : Bool) → v.this.peer ≡ peer_of x.this → v.that.peer ≡ peer_of x.that → x.this.pasts ≡ p.this → x.that.pasts ≡ p.that
    → s.sender pair ≡ watched_at x.this pair → s.receiver pair ≡ watched_at x.that (counterpart pair) → IsRun new_pipe steps (pipe_of (connection_at pair s) fresh)
    → user_steps steps ≡ users → steps_of_sender users ≡ sender_steps (s.sender pair).past.calls → steps_of_receiver users ≡ receiver_steps (s.receiver pair).past.calls → IsOfPipe pair v p
said x v p s pair steps users fresh here there past past_there a b r u ls lr = (
  steps,
  fresh,
  text_bits (s.text pair),
  subst (λ (q : Peer). IsRun new_pipe steps (pipe_of_views (sender_view (get q.ends pair)) (receiver_view (get v.that.peer.ends (counterpart pair))) (text_bits (s.text pair)) fresh)) (sym here)
      (subst (λ (q : Peer). IsRun new_pipe steps (pipe_of_views (sender_view (get x.this.ends pair)) (receiver_view (get q.ends (counterpart pair))) (text_bits (s.text pair)) fresh)) (sym there)
      (subst (λ (w : EndpointWithHistory). IsRun new_pipe steps (pipe_of_views (sender_view w.end) (receiver_view (get x.that.ends (counterpart pair))) (text_bits (s.text pair)) fresh)) a
      (subst (λ (w : EndpointWithHistory). IsRun new_pipe steps (pipe_of_views (sender_view (s.sender pair).end) (receiver_view w.end) (text_bits (s.text pair)) fresh)) b r))),
  sym (sender-of-users steps) ∙ ap steps_of_sender u ∙ ls ∙ ap (λ (w : EndpointWithHistory). sender_steps w.past.calls) a ∙ ap (λ (h : Pasts). sender_steps (past_of h pair).calls) past,
  sym (receiver-of-users steps) ∙ ap steps_of_receiver u ∙ lr ∙ ap (λ (w : EndpointWithHistory). receiver_steps w.past.calls) b ∙ ap (λ (h : Pasts). receiver_steps (past_of h (counterpart pair)).calls) past_there,
)

pub returns : goal.returns
returns c ns w pair t sd =
    let m = c.transcripts_are_of_the_model.ensures ns w t in
    let tied : Refines (run m.0) (seen w) = m.1 in
    let there : IsTied (run m.0) = c.hosts_are_tied_to_machines.ensures.there m.0 in
    let back : IsTied (nodes_swapped (run m.0)) = c.hosts_are_tied_to_machines.ensures.back m.0 in
    let k = c.connections_are_pipes.ensures there.0 pair there.1 sd in
    let l = c.connections_are_pipes.ensures back.0 pair back.1 sd in
    let kl = c.histories_have_the_calls.ensures there.0 pair sd in
    let ll = c.histories_have_the_calls.ensures back.0 pair sd in
    let a = there.2 pair sd in
    let b = back.2 pair sd in (
      said (run m.0) (seen w) (histories_of ns w) (shared there.0) pair k.0 _ k.1 tied.this.peer tied.that.peer m.2 m.3 a.0 a.1 k.2 k.3 kl.0 kl.1,
      said (nodes_swapped (run m.0)) (swap (seen w)) (turn (histories_of ns w)) (shared back.0) pair l.0 _ l.1 tied.that.peer tied.this.peer m.3 m.2 b.0 b.1 l.2 l.3 ll.0 ll.1,
    )
