use Rattle.std.proofs.Common.{refl, subst, Some}
use Rattle.slab.specs.Slab.{get}
use Rattle.ncp_model.specs.declared.pair.Pair.{Pair}
use Rattle.ncp_model.specs.Endpoint.{Endpoint}
use Rattle.ncp_model.specs.Ends.{hears_link, uses_link}
use Rattle.ncp_conn.specs.Indexes.{LeadsTo}
use Rattle.ncp_conn.specs.Sending.{Notes}
use Rattle.ncp_conn.proofs.Slabs.{one_value}
use Rattle.ncp_conn.proofs.entries.Entries.lead.Goals as goal

pub returns : goal.returns
returns g c = λ p at.
    let led = one_value (get c.args.self.now.slab c.args.key) c.index.result.now p c.index.ensures at in
    let noted = one_value (get c.args.self.now.slab c.args.key) c.index-2.result.now p c.index-2.ensures at in
    record {
      slab = refl;
      senders = subst (λ (x : Pair × Endpoint). LeadsTo hears_link x (Some c.args.key) c.args.self.now.senders c.lead_to.new.senders) led c.lead_to.ensures.senders;
      receivers = subst (λ (x : Pair × Endpoint). LeadsTo uses_link x (Some c.args.key) c.args.self.now.receivers c.lead_to.new.receivers) led c.lead_to.ensures.receivers;
      sending = subst (λ (x : Pair × Endpoint). Notes x c.args.self.now.sending c.note.new.sending) noted c.note.ensures;
    }
