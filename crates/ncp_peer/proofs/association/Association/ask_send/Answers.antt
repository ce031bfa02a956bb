use Rattle.std.proofs.Common.{Ok, Err, Result, refl, sym, subst, ◌∙◌}
use Rattle.std.specs.FinMap.{get}
use Rattle.ncp_wire.specs.declared.command.Command.{Command}
use Rattle.ncp_model.specs.declared.call_fault.CallFault.{CallFault}
use Rattle.ncp_model.specs.Effect.{made_by_call}
use Rattle.ncp_model.specs.Calls.{ask_send}
use Rattle.ncp_model.specs.Ends.{count, has_asked}
use Rattle.ncp_model.specs.Peers.{Peer, Ask_to_send, makes, call_accepted}
use Rattle.ncp_peer.specs.Steps.{CalledOrNoMemory}
use Rattle.ncp_peer.proofs.Asking.{made_none, asked}
use Rattle.ncp_peer.proofs.association.Association.ask_send.Goals as goal

pub returns-in-Ok-clause-done : goal.returns-in-Ok-clause-done
returns-in-Ok-clause-done g c =
    let p : Peer = record { phase = c.self.inside.phase; ends = c.self.inside.table; echoes = c.self.inside.echoes } in
    let call = Ask_to_send c.args.size c.args.room in
    let all = asked c.args.pair call p c.args.self.now (λ full. ask_send c.args.pair c.args.size c.args.room (count has_asked c.self.inside.table) full (get c.self.inside.table c.args.pair)) c.is_full-full.result c.ask_send.new.self c.ask_send.result
    c.self.view_is (sym c.is_up.ensures ∙ c.if-not-is_up.false) c.is_full-full.ensures refl refl refl c.ask_send.ensures.done in
    subst (λ (q : Peer). CalledOrNoMemory c.args.pair call (Ok tt) c.args.self.now q) (sym c.make.ensures)
    (subst (λ (r : Result Command CallFault). CalledOrNoMemory c.args.pair call (call_accepted r) c.args.self.now (makes (made_by_call r) (record p { ends = c.ask_send.new.self }))) c.in-Ok.is all)

pub returns-in-Err-clause-done : goal.returns-in-Err-clause-done
returns-in-Err-clause-done g c =
    let p : Peer = record { phase = c.self.inside.phase; ends = c.self.inside.table; echoes = c.self.inside.echoes } in
    let call = Ask_to_send c.args.size c.args.room in
    let u = sym c.is_up.ensures ∙ c.if-not-is_up.false in
    let all = asked c.args.pair call p c.args.self.now (λ full. ask_send c.args.pair c.args.size c.args.room (count has_asked c.self.inside.table) full (get c.self.inside.table c.args.pair)) c.is_full-full.result c.ask_send.new.self c.ask_send.result
    c.self.view_is u c.is_full-full.ensures refl refl refl c.ask_send.ensures.done in
    subst (λ (q : Peer). CalledOrNoMemory c.args.pair call (Err c.in-Err.fault) c.args.self.now q) (made_none (record p { ends = c.ask_send.new.self }) u)
    (subst (λ (r : Result Command CallFault). CalledOrNoMemory c.args.pair call (call_accepted r) c.args.self.now (makes (made_by_call r) (record p { ends = c.ask_send.new.self }))) c.in-Err.is all)
