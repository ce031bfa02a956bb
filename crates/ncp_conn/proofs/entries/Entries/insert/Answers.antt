use Rattle.std.proofs.Common.{◌≡◌, ℕ, None, Some, sym, ap, ◌∙◌, subst}
use Rattle.slab.specs.Slab.{Slab, get, Updates}
use Rattle.ncp_model.specs.declared.pair.Pair.{Pair}
use Rattle.ncp_model.specs.Endpoint.{Endpoint}
use Rattle.ncp_conn.specs.Entries.{Puts}
use Rattle.ncp_conn.proofs.entries.Entries.insert.Goals as goal

pub returns-clause-vacant : goal.returns-clause-vacant
returns-clause-vacant g c =
    subst (λ (key : ℕ). get c.args.self.now.slab key ≡ None) c.insert-key.ensures.key c.insert-key.ensures.was_vacant

pub returns-clause-enters : goal.returns-clause-enters
returns-clause-enters g c =
    let led = c.lead.ensures c.args.entry c.insert-key.ensures.updates.changed in
    subst (λ (key : ℕ). Puts c.args.self.now c.lead.new.self key (Some c.args.entry) c.args.entry (Some key)) c.insert-key.ensures.key (record {
      updates = subst (λ (s : Slab (Pair × Endpoint)). Updates c.args.self.now.slab s c.insert-key.result (Some c.args.entry)) (sym led.slab) c.insert-key.ensures.updates;
      capacity = ap (λ (s : Slab (Pair × Endpoint)). s.capacity) led.slab ∙ c.insert-key.ensures.capacity;
      senders = led.senders;
      receivers = led.receivers;
    })

pub returns-clause-sending : goal.returns-clause-sending
returns-clause-sending g c = (c.lead.ensures c.args.entry c.insert-key.ensures.updates.changed).sending
