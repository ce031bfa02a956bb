use Rattle.std.proofs.Common.{refl, sym, ap, ◌∙◌}
use Rattle.ncp_wire.specs.declared.answer.Answer.TheVariants.{Rfnm, Incomplete, Dead}
use Rattle.ncp_peer.specs.PeerState.{PeerState, answer_comes}
use Rattle.ncp_peer.specs.Hearing.{answer_received}
use Rattle.ncp_peer.proofs.Answering.{stray_received, stray_heard, answer_is_received, answer_heard}
use Rattle.ncp_peer.proofs.Silence.{marked_again}
use Rattle.ncp_peer.proofs.peer.Peer.hear_answer.Goals as goal

pub returns-then-is_err-clause-received : goal.returns-then-is_err-clause-received
returns-then-is_err-clause-received g c =
    let s : PeerState = record { peer = c.self.inside.association; slots = c.self.inside.slots; counts = c.self.inside.counts } in
    stray_received c.answer.result c.args.link c.args.answer s c.answer.ensures.variant (sym c.is_err.ensures.value ∙ c.if-is_err.true)
    ∙ ap (answer_received c.args.link) c.self.view_is

pub returns-then-is_err-clause-state : goal.returns-then-is_err-clause-state
returns-then-is_err-clause-state g c =
    let s : PeerState = record { peer = c.self.inside.association; slots = c.self.inside.slots; counts = c.self.inside.counts } in
    stray_heard c.answer.result c.args.link c.args.answer s c.answer.ensures.variant c.answer.new.self c.one_more-self-inside.result
    (sym c.is_err.ensures.value ∙ c.if-is_err.true) c.answer.ensures.err c.one_more-self-inside.ensures
    ∙ ap (answer_comes c.args.link c.args.answer) c.self.view_is

pub returns-in-Rfnm-clause-received : goal.returns-in-Rfnm-clause-received
returns-in-Rfnm-clause-received g c =
    let s : PeerState = record { peer = c.self.inside.association; slots = c.self.inside.slots; counts = c.self.inside.counts } in
    answer_is_received c.answer.result c.args.link c.args.answer s c.answer.ensures.variant (sym c.is_err.ensures.value ∙ c.if-is_err.false)
    ∙ ap (answer_received c.args.link) c.self.view_is

pub returns-in-Rfnm-clause-state : goal.returns-in-Rfnm-clause-state
returns-in-Rfnm-clause-state g c =
    let s : PeerState = record { peer = c.self.inside.association; slots = c.self.inside.slots; counts = c.self.inside.counts } in
    answer_heard c.answer.result c.args.link c.args.answer s c.answer.ensures.variant Rfnm c.answer.new.self _ c.in-Rfnm.is (sym c.is_err.ensures.value ∙ c.if-is_err.false) c.answer.ensures.ok c.hear_rfnm.ensures
    ∙ ap (answer_comes c.args.link c.args.answer) c.self.view_is

pub returns-in-Incomplete-clause-received : goal.returns-in-Incomplete-clause-received
returns-in-Incomplete-clause-received g c =
    let s : PeerState = record { peer = c.self.inside.association; slots = c.self.inside.slots; counts = c.self.inside.counts } in
    answer_is_received c.answer.result c.args.link c.args.answer s c.answer.ensures.variant (sym c.is_err.ensures.value ∙ c.if-is_err.false)
    ∙ ap (answer_received c.args.link) c.self.view_is

pub returns-in-Incomplete-clause-state : goal.returns-in-Incomplete-clause-state
returns-in-Incomplete-clause-state g c =
    let s : PeerState = record { peer = c.self.inside.association; slots = c.self.inside.slots; counts = c.self.inside.counts } in
    answer_heard c.answer.result c.args.link c.args.answer s c.answer.ensures.variant Incomplete c.answer.new.self _ c.in-Incomplete.is (sym c.is_err.ensures.value ∙ c.if-is_err.false) c.answer.ensures.ok refl
    ∙ ap (answer_comes c.args.link c.args.answer) c.self.view_is

pub returns-in-Dead-clause-received : goal.returns-in-Dead-clause-received
returns-in-Dead-clause-received g c =
    let s : PeerState = record { peer = c.self.inside.association; slots = c.self.inside.slots; counts = c.self.inside.counts } in
    answer_is_received c.answer.result c.args.link c.args.answer s c.answer.ensures.variant (sym c.is_err.ensures.value ∙ c.if-is_err.false)
    ∙ ap (answer_received c.args.link) c.self.view_is

pub returns-in-Dead-clause-state : goal.returns-in-Dead-clause-state
returns-in-Dead-clause-state g c =
    let s : PeerState = record { peer = c.self.inside.association; slots = c.self.inside.slots; counts = c.self.inside.counts } in
    answer_heard c.answer.result c.args.link c.args.answer s c.answer.ensures.variant Dead c.answer.new.self _ c.in-Dead.is (sym c.is_err.ensures.value ∙ c.if-is_err.false) c.answer.ensures.ok refl
    ∙ ap (answer_comes c.args.link c.args.answer) c.self.view_is

pub invariant_of-self-in-Incomplete : goal.invariant_of-self-in-Incomplete
invariant_of-self-in-Incomplete g c =
    marked_again c.self.inside.kept c.self.inside.again c.insert.new.self c.self.inside.slots c.answer.new.self c.args.link c.args.answer c.self.invariant c.answer.ensures.slot c.answer.ensures.others c.insert.ensures
