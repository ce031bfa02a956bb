use Rattle.std.proofs.Common.{refl, sym, ap, ◌∙◌}
use Rattle.std.specs.FinMap.{get}
use Rattle.ncp_model.specs.Effect.{made_by_call}
use Rattle.ncp_model.specs.Calls.{interrupt}
use Rattle.ncp_model.specs.Peers.{Peer, Interrupt, makes}
use Rattle.ncp_peer.proofs.Asking.{made_none, called}
use Rattle.ncp_peer.proofs.association.Association.interrupt.Goals as goal

pub returns-in_err-command-clause-peer : goal.returns-in_err-command-clause-peer
returns-in_err-command-clause-peer g c =
    let p : Peer = record { phase = c.self.inside.phase; ends = c.self.inside.table; echoes = c.self.inside.echoes } in
    sym (made_none (record p { ends = c.interrupt.new.self }) (sym c.is_up.ensures ∙ c.if-not-is_up.false))
    ∙ ap (λ r. makes (made_by_call r) (record p { ends = c.interrupt.new.self })) (sym c.in_err-command.was)
    ∙ called c.args.pair Interrupt p c.args.self.now (λ full. interrupt c.args.pair full (get c.self.inside.table c.args.pair)) made_by_call c.is_full-full.result c.interrupt.new.self c.interrupt.result
    c.self.view_is (sym c.is_up.ensures ∙ c.if-not-is_up.false) c.is_full-full.ensures refl refl c.interrupt.ensures.answer c.interrupt.ensures.table

pub returns-clause-peer : goal.returns-clause-peer
returns-clause-peer g c =
    let p : Peer = record { phase = c.self.inside.phase; ends = c.self.inside.table; echoes = c.self.inside.echoes } in
    c.make.ensures
    ∙ ap (λ r. makes (made_by_call r) (record p { ends = c.interrupt.new.self })) (sym c.in_ok-command.was)
    ∙ called c.args.pair Interrupt p c.args.self.now (λ full. interrupt c.args.pair full (get c.self.inside.table c.args.pair)) made_by_call c.is_full-full.result c.interrupt.new.self c.interrupt.result
    c.self.view_is (sym c.is_up.ensures ∙ c.if-not-is_up.false) c.is_full-full.ensures refl refl c.interrupt.ensures.answer c.interrupt.ensures.table
