use Rattle.std.proofs.Common.{◌≡◌, Bool, true, false, not, Some, refl, sym, ap, ◌∙◌}
use Rattle.ncp_model.specs.Ends.{Ends}
use Rattle.ncp_model.specs.Peers.{Peer}
use Rattle.ncp_conn.specs.Records.{record_in}
use Rattle.ncp_peer.proofs.Agreed.{record_is_led}
use Rattle.ncp_peer.proofs.association.Association.is_placed.Goals as goal

yes : (b : Bool) → not b ≡ false → b ≡ true
yes true e = refl
yes false e = absurd (cc)

pub returns-else-leads-clause-agrees : goal.returns-else-leads-clause-agrees
returns-else-leads-clause-agrees g c = λ agree has.
    let ends : c.self.inside.table ≡ c.args.self.now.ends = ap (λ (p : Peer). p.ends) c.self.view_is in
    let is : record_in c.args.pair c.args.self.now.ends ≡ Some c.in-Some.record = ap (λ (m : Ends). record_in c.args.pair m) (sym ends) ∙ sym c.in-Some.ensures in
    c.leads.ensures.led (record_is_led c.args.self.now.ends c.args.slots.now c.args.pair c.in-Some.record agree is (sym c.if-not-sends.ensures) (yes c.in-Some.record.heard c.if-not-record.false))
