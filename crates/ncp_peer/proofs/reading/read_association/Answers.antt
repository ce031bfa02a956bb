use Rattle.std.proofs.Common.{◌≡◌, ◌++◌, ℕ, List, sym, ap, ◌∙◌}
use Rattle.std.proofs.lemmas.Result.{err_from_is_err_and}
use Rattle.ncp_model.specs.Phase.{up}
use Rattle.ncp_model.specs.Peers.{Peer}
use Rattle.ncp_phase.specs.SavedPhase.{phase_saved, echoes_saved}
use Rattle.ncp_peer.specs.SavedPeer.{ends_saved}
use Rattle.ncp_peer.specs.SavedParts.{association_saved}
use Rattle.ncp_peer.proofs.Regrouped.{three_pieces, is_read, is_none}
use Rattle.ncp_peer.proofs.reading.read_association.Goals as goal

pieces : (p : Peer) (reader rest : List ℕ) → reader ≡ association_saved p ++ rest → reader ≡ phase_saved p.phase ++ (ends_saved p.ends ++ (echoes_saved p.echoes ++ rest))
pieces p reader rest e = e ∙ three_pieces (phase_saved p.phase) (ends_saved p.ends) (echoes_saved p.echoes) rest

pub returns-in_err-echoes-clause-reads : goal.returns-in_err-echoes-clause-reads
returns-in_err-echoes-clause-reads g c = λ p rest fit e.
    let first = is_read _ c.read_phase.result c.in_ok-phase.phase c.in_ok-phase.was (c.read_phase.ensures.reads p.phase (ends_saved p.ends ++ (echoes_saved p.echoes ++ rest)) fit.queue fit.bytes (pieces p c.args.reader.now rest e)) in
    let second = is_read _ c.read_table.result c.in_ok-table.table c.in_ok-table.was (c.read_table.ensures.reads p.ends (echoes_saved p.echoes ++ rest) fit.ends first.1) in
    let third = c.read_echoes.ensures.reads p.echoes rest fit.echoes second.1 in
    let from = err_from_is_err_and c.from_residual-in_err-echoes.result c.from_residual-in_err-echoes.ensures.1 in
    rw (from.1, from.2) (is_none _ c.read_echoes.result c.in_err-echoes.field-0.0 c.in_err-echoes.was third)

pub returns-clause-reads : goal.returns-clause-reads
returns-clause-reads g c = λ p rest fit e.
    let first = is_read _ c.read_phase.result c.in_ok-phase.phase c.in_ok-phase.was (c.read_phase.ensures.reads p.phase (ends_saved p.ends ++ (echoes_saved p.echoes ++ rest)) fit.queue fit.bytes (pieces p c.args.reader.now rest e)) in
    let second = is_read _ c.read_table.result c.in_ok-table.table c.in_ok-table.was (c.read_table.ensures.reads p.ends (echoes_saved p.echoes ++ rest) fit.ends first.1) in
    let third = is_read _ c.read_echoes.result c.in_ok-echoes.echoes c.in_ok-echoes.was (c.read_echoes.ensures.reads p.echoes rest fit.echoes second.1) in
    (c.with.ensures.same (λ down. second.0 ∙ fit.down (sym (ap up first.0) ∙ down)) ∙ (λ i. record { phase = first.0 i; ends = second.0 i; echoes = third.0 i }), third.1)
