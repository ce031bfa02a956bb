use Rattle.std.proofs.Common.{[], refl, sym, ◌∙◌}
use Rattle.std.specs.FinMap.{get}
use Rattle.ncp_model.specs.Calls.{give}
use Rattle.ncp_model.specs.Sending.{is_full}
use Rattle.ncp_model.specs.Peers.{Peer, Give}
use Rattle.ncp_peer.proofs.Asking.{made_none, called}
use Rattle.ncp_peer.proofs.association.Association.give.Goals as goal

pub returns-clause-peer : goal.returns-clause-peer
returns-clause-peer g c =
    let p : Peer = record { phase = c.self.inside.phase; ends = c.self.inside.table; echoes = c.self.inside.echoes } in
    sym (made_none (record p { ends = c.give_part.new.self }) (sym c.is_up.ensures ∙ c.if-not-is_up.false))
    ∙ called c.args.pair (Give c.args.text) p c.args.self.now (λ _. give c.args.pair c.args.text (get c.self.inside.table c.args.pair)) (λ _. []) (is_full c.self.inside.phase) c.give_part.new.self c.give_part.result
    c.self.view_is (sym c.is_up.ensures ∙ c.if-not-is_up.false) refl refl refl c.give_part.ensures.answer c.give_part.ensures.table
