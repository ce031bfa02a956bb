use Rattle.std.proofs.Common.{refl, sym, ap, ◌∙◌}
use Rattle.std.specs.FinMap.{get}
use Rattle.ncp_model.specs.Effect.{made_by_call}
use Rattle.ncp_model.specs.Calls.{call_back}
use Rattle.ncp_model.specs.Peers.{Peer, Call_back, makes}
use Rattle.ncp_peer.proofs.Asking.{made_none, called}
use Rattle.ncp_peer.proofs.association.Association.call_back.Goals as goal

pub returns-in_err-command-clause-peer : goal.returns-in_err-command-clause-peer
returns-in_err-command-clause-peer g c =
    let p : Peer = record { phase = c.self.inside.phase; ends = c.self.inside.table; echoes = c.self.inside.echoes } in
    sym (made_none (record p { ends = c.call_back.new.self }) (sym c.is_up.ensures ∙ c.if-not-is_up.false))
    ∙ ap (λ r. makes (made_by_call r) (record p { ends = c.call_back.new.self })) (sym c.in_err-command.was)
    ∙ called c.args.pair (Call_back c.args.fm c.args.fb) p c.args.self.now (λ full. call_back c.args.pair c.args.fm c.args.fb full (get c.self.inside.table c.args.pair)) made_by_call c.is_full-full.result c.call_back.new.self c.call_back.result
    c.self.view_is (sym c.is_up.ensures ∙ c.if-not-is_up.false) c.is_full-full.ensures refl refl c.call_back.ensures.answer c.call_back.ensures.table

pub returns-clause-peer : goal.returns-clause-peer
returns-clause-peer g c =
    let p : Peer = record { phase = c.self.inside.phase; ends = c.self.inside.table; echoes = c.self.inside.echoes } in
    c.make.ensures
    ∙ ap (λ r. makes (made_by_call r) (record p { ends = c.call_back.new.self })) (sym c.in_ok-command.was)
    ∙ called c.args.pair (Call_back c.args.fm c.args.fb) p c.args.self.now (λ full. call_back c.args.pair c.args.fm c.args.fb full (get c.self.inside.table c.args.pair)) made_by_call c.is_full-full.result c.call_back.new.self c.call_back.result
    c.self.view_is (sym c.is_up.ensures ∙ c.if-not-is_up.false) c.is_full-full.ensures refl refl c.call_back.ensures.answer c.call_back.ensures.table
