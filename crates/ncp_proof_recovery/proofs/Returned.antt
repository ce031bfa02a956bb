-- Where nothing moves any more each GVB has its RET; so it is of transcripts.
use Rattle.std.proofs.Common.{◌≡◌, ◌<◌, ◌+◌, Bool, true, false, List, [], ◌∷◌, ◌++◌, Option, None, Some, refl, sym, ap, ◌∙◌, subst, arith}
use Rattle.std.specs.FinMap.{get}
use Rattle.std.proofs.lemmas.Bool.{false_from_ne_true}
use Rattle.ncp_wire.specs.declared.command.Command.{Command}
use Rattle.ncp_model.specs.declared.pair.Pair.{Pair}
use Rattle.ncp_model.specs.Pairs.{sends, counterpart}
use Rattle.ncp_model.specs.Endpoint.{Endpoint, or_new, is_closing}
use Rattle.ncp_model.specs.Ends.{Ends}
use Rattle.ncp_model.specs.Phase.{up}
use Rattle.ncp_model.specs.Peers.{Peer}
use Rattle.ncp_model.proofs.ResetLists.{rrps}
use Rattle.ncp_proof_endpoint.specs.Histories.{EndpointWithHistory}
use Rattle.ncp_proof_machine.specs.Resets.{is_up}
use Rattle.ncp_proof_connection.specs.Sharing.{Shared, Tagged, only, connection_at}
use Rattle.ncp_proof_machine.specs.Hosts.{NodeEvent, TwoNodes, nodes_swapped, run, peer_of}
use Rattle.ncp_transcript_two.specs.declared.note.Note.{Note}
use Rattle.ncp_transcript_two.specs.Between.{Hosts}
use Rattle.ncp_transcript_two.specs.Transcript.{IsTranscript}
use Rattle.ncp_transcript_two.specs.Seen.{seen}
use Rattle.ncp_transcript_two.proofs.Headlines.{of-model}
use Rattle.ncp_proof_headline.specs.Tied.{watched_at}
use Rattle.ncp_proof_headline.proofs.Lives.{live, fronts}
use Rattle.ncp_proof_headline.proofs.Ties.{commands_of, turn_all}
use Rattle.ncp_proof_headline.proofs.HostsJoined.{lives, up_alive, up_waits}
use Rattle.ncp_proof_headline.proofs.HostsHeld.{Ever, ever, ever-swapped, x, y}
use Rattle.ncp_proof_progress.specs.Idle.{IsSettledInModel, IsIdle}
use Rattle.ncp_proof_progress.proofs.Settled.{ever-idle}
use Rattle.ncp_proof_progress.proofs.AtRest.{none-going, none-coming, sends-live}
use Rattle.ncp_proof_quiescence.proofs.OfModel.{settled-of}
use Rattle.ncp_proof_recovery.specs.CallingBack.{NoneIsCalledBack, NoneCallsBack, AllReturned, GvbsAreAnswered}
use Rattle.ncp_proof_recovery.proofs.CallingBack.{Recalled}
use Rattle.ncp_proof_recovery.proofs.CalledBack.{AllAnswer, answers-ever}

none-tagged : (cs : List Tagged) → commands_of cs ≡ [] → cs ≡ []
none-tagged [] e = refl
none-tagged (c ∷ cs) e = absurd (cc e)

module _ (w : TwoNodes) (t : Ever w) (i : IsIdle w.this) (j : IsIdle w.that) (u : is_up w.this.host ≡ true) (v : is_up w.that.host ≡ true) where
  abbrev g : Shared
  g = t.holds.joined.ties.g

  receives-live : g.receives ≡ true
  receives-live = t.holds.joined.ties.there.alive_too ∙ up_alive w.that.host (rrps (x w ++ w.this.host.phase.waiting)) v

  none-there : lives w.this w.that (x w) ≡ []
  none-there = ap (λ (c : Bool). live c (x w ++ w.this.host.phase.waiting)) (up_waits w.that.host v) ∙ ap fronts (none-going w t i j)

  none-back : lives w.that w.this (y w) ≡ []
  none-back = ap (λ (c : Bool). live c (y w ++ w.that.host.phase.waiting)) (up_waits w.this.host u) ∙ ap fronts (none-coming w t i j)

  no-receivers : g.to_receivers ≡ []
  no-receivers = none-tagged g.to_receivers ((t.holds.joined.ties.going (up_alive w.that.host (rrps (x w ++ w.this.host.phase.waiting)) v)).commands ∙ none-there)

  no-senders : g.to_senders ≡ []
  no-senders =
      let f = t.holds.joined.ties.coming (up_alive w.this.host (rrps (y w ++ w.that.host.phase.waiting)) u) in
      f.same ∙ ap turn_all (none-tagged t.holds.joined.ties.back.to_receivers (f.commands ∙ none-back))

  all-answer : AllAnswer g
  all-answer = let r = t.holds.joined.ties.reached in subst AllAnswer r.is_it (answers-ever r.events r.may)

  returned : NoneCallsBack w
  returned p sp e f a b ge gf = false_from_ne_true f.recall (λ c. omega (arith, answered c))
    where
      at-ends : Recalled (or_new (g.sender p).end) (or_new (g.receiver p).end) (only p g.to_receivers) (only p g.to_senders)
      at-ends = all-answer (sends-live w t i j u) receives-live p sp

      s : (g.sender p).end ≡ Some e
      s = ap (λ (o : EndpointWithHistory). o.end) (t.holds.joined.ties.there.sender p sp) ∙ a

      r : (g.receiver p).end ≡ Some f
      r = ap (λ (o : EndpointWithHistory). o.end) (t.holds.joined.ties.there.receiver p sp) ∙ b

      here : Recalled e f [] []
      here =
          subst (λ (o : Option Endpoint). Recalled (or_new o) f [] []) s
          (subst (λ (o : Option Endpoint). Recalled (or_new (g.sender p).end) (or_new o) [] []) r
          (subst (λ (q : List Tagged). Recalled (or_new (g.sender p).end) (or_new (g.receiver p).end) [] (only p q)) no-senders
          (subst (λ (k : List Tagged). Recalled (or_new (g.sender p).end) (or_new (g.receiver p).end) (only p k) (only p g.to_senders)) no-receivers at-ends)))

      answered : f.recall ≡ true → 0 < 0
      answered c = let k = here c gf ge refl in omega (arith, k)

pub settled-returned : (es : List NodeEvent) → IsSettledInModel (run es) → AllReturned (run es)
settled-returned es s u v =
    let w : TwoNodes = run es in
    let t : Ever w = ever es in
    let i = ever-idle es s in
    (returned w t i.0 i.1 u v, returned (nodes_swapped w) (ever-swapped w t) i.1 i.0 v u)

as-seen : (p q : Peer) (m n : Ends) (pair : Pair) → p.ends ≡ m → q.ends ≡ n → NoneIsCalledBack (get m pair) (get n (counterpart pair)) → NoneIsCalledBack (get p.ends pair) (get q.ends (counterpart pair))
as-seen p q m n pair a b k =
    subst (λ (d : Ends). NoneIsCalledBack (get d pair) (get q.ends (counterpart pair))) (sym a)
    (subst (λ (d : Ends). NoneIsCalledBack (get m pair) (get d (counterpart pair))) (sym b) k)

pub transcript-returned : (ns : List Note) (w : Hosts) → IsTranscript ns w → GvbsAreAnswered ns w
transcript-returned ns w t s u v =
    let m = of-model ns w t in
    let k : TwoNodes = run m.0 in
    let a = ap (λ (p : Peer). up p.phase) m.1.this.peer in
    let b = ap (λ (p : Peer). up p.phase) m.1.that.peer in
    let c = ap (λ (p : Peer). p.ends) m.1.this.peer in
    let d = ap (λ (p : Peer). p.ends) m.1.that.peer in
    let r = settled-returned m.0 (settled-of k (seen w) m.1 s) (sym a ∙ u) (sym b ∙ v) in
    (λ p sp. as-seen (seen w).this.peer (seen w).that.peer k.this.ends k.that.ends p c d (r.0 p sp), λ p sp. as-seen (seen w).that.peer (seen w).this.peer k.that.ends k.this.ends p d c (r.1 p sp))
