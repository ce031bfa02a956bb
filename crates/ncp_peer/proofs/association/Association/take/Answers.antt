use Rattle.std.proofs.Common.{refl, sym, ap, ◌∙◌}
use Rattle.std.specs.FinMap.{get}
use Rattle.ncp_model.specs.Effect.{made_by_take}
use Rattle.ncp_model.specs.Calls.{take_held}
use Rattle.ncp_model.specs.Sending.{is_full}
use Rattle.ncp_model.specs.Peers.{Peer, Take, makes}
use Rattle.ncp_peer.proofs.Asking.{made_none, called}
use Rattle.ncp_peer.proofs.association.Association.take.Goals as goal

pub returns-in_err-bits-clause-peer : goal.returns-in_err-bits-clause-peer
returns-in_err-bits-clause-peer g c =
    let p : Peer = record { phase = c.self.inside.phase; ends = c.self.inside.table; echoes = c.self.inside.echoes } in
    sym (made_none (record p { ends = c.take.new.self }) (sym c.is_up.ensures ∙ c.if-not-is_up.false))
    ∙ ap (λ r. makes (made_by_take r) (record p { ends = c.take.new.self })) (sym c.in_err-bits.was)
    ∙ called c.args.pair (Take c.args.bytes) p c.args.self.now (λ _. take_held c.args.pair c.args.bytes (get c.self.inside.table c.args.pair)) made_by_take (is_full c.self.inside.phase) c.take.new.self c.take.result
    c.self.view_is (sym c.is_up.ensures ∙ c.if-not-is_up.false) refl refl refl c.take.ensures.answer c.take.ensures.table

pub returns-clause-peer : goal.returns-clause-peer
returns-clause-peer g c =
    let p : Peer = record { phase = c.self.inside.phase; ends = c.self.inside.table; echoes = c.self.inside.echoes } in
    c.make_any.ensures
    ∙ ap (λ r. makes (made_by_take r) (record p { ends = c.take.new.self })) (sym c.in_ok-bits.was)
    ∙ called c.args.pair (Take c.args.bytes) p c.args.self.now (λ _. take_held c.args.pair c.args.bytes (get c.self.inside.table c.args.pair)) made_by_take (is_full c.self.inside.phase) c.take.new.self c.take.result
    c.self.view_is (sym c.is_up.ensures ∙ c.if-not-is_up.false) refl refl refl c.take.ensures.answer c.take.ensures.table
