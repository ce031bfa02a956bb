use Rattle.std.proofs.Common.{Option, sym, ap, ◌∙◌}
use Rattle.ncp_leader.specs.declared.leader.Leader.{Leader}
use Rattle.ncp_wire.specs.declared.answer.Answer.{Answer}
use Rattle.ncp_peer.specs.PeerState.{answer_comes}
use Rattle.ncp_host.specs.Host.{changed}
use Rattle.ncp_peer.specs.Hearing.{answer_of}
use Rattle.ncp_host.specs.Arrivals.{received_in}
use Rattle.ncp_peer.specs.declared.received.Received.{Received}
use Rattle.ncp_transcript.specs.declared.note.HostNote.TheVariants.{Answered}
use Rattle.ncp_transcript.specs.Noting.{note_as}
use Rattle.ncp_transcript.proofs.Arriving.{after_answer}
use Rattle.ncp_transcript.proofs.arrivals.take_answer.Goals as goal

pub returns-clause-note : goal.returns-clause-note
returns-clause-note g c =
    let leader = c.in_ok-leader.leader in
    ap (λ (answer : Answer). Answered leader.host leader.link answer c.receive-received.result) c.answer_of.ensures
    ∙ ap (λ (received : Received). Answered leader.host leader.link (answer_of leader.kind) received) c.receive-received.ensures.received
    ∙ ap (λ (o : Option Leader). note_as o c.args.bits.now (received_in c.args.bits.now c.args.host.now)) c.in_ok-leader.ensures

pub returns-clause-host : goal.returns-clause-host
returns-clause-host g c =
    c.receive-received.ensures.host
    ∙ after_answer c.args.bits.now c.args.host.now c.in_ok-leader.leader (sym c.in_ok-leader.ensures)
    ∙ ap (λ a. changed c.in_ok-leader.leader.host (answer_comes c.in_ok-leader.leader.link a) c.args.host.now) (sym c.answer_of.ensures)
