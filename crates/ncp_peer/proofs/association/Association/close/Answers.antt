use Rattle.std.proofs.Common.{refl, sym, ap, ◌∙◌}
use Rattle.std.specs.FinMap.{get}
use Rattle.ncp_model.specs.Effect.{made_by_close}
use Rattle.ncp_model.specs.Calls.{close}
use Rattle.ncp_model.specs.Peers.{Peer, Close, makes}
use Rattle.ncp_peer.proofs.Asking.{made_none, called}
use Rattle.ncp_peer.proofs.association.Association.close.Goals as goal

pub returns-in_err-command-clause-peer : goal.returns-in_err-command-clause-peer
returns-in_err-command-clause-peer g c =
    let p : Peer = record { phase = c.self.inside.phase; ends = c.self.inside.table; echoes = c.self.inside.echoes } in
    sym (made_none (record p { ends = c.close.new.self }) (sym c.is_up.ensures ∙ c.if-not-is_up.false))
    ∙ ap (λ r. makes (made_by_close r) (record p { ends = c.close.new.self })) (sym c.in_err-command.was)
    ∙ called c.args.pair Close p c.args.self.now (λ full. close c.args.pair full (get c.self.inside.table c.args.pair)) made_by_close c.is_full-full.result c.close.new.self c.close.result
    c.self.view_is (sym c.is_up.ensures ∙ c.if-not-is_up.false) c.is_full-full.ensures refl refl c.close.ensures.answer c.close.ensures.table

pub returns-clause-peer : goal.returns-clause-peer
returns-clause-peer g c =
    let p : Peer = record { phase = c.self.inside.phase; ends = c.self.inside.table; echoes = c.self.inside.echoes } in
    c.make_any.ensures
    ∙ ap (λ r. makes (made_by_close r) (record p { ends = c.close.new.self })) (sym c.in_ok-command.was)
    ∙ called c.args.pair Close p c.args.self.now (λ full. close c.args.pair full (get c.self.inside.table c.args.pair)) made_by_close c.is_full-full.result c.close.new.self c.close.result
    c.self.view_is (sym c.is_up.ensures ∙ c.if-not-is_up.false) c.is_full-full.ensures refl refl c.close.ensures.answer c.close.ensures.table
