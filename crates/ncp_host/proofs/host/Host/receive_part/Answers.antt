use Rattle.std.proofs.Common.{ℕ, Result, refl, ap, ◌∙◌}
use Rattle.std.specs.Box.{boxed_slice_items}
use Rattle.std.specs.List.{zip}
use Rattle.ncp_leader.specs.declared.leader.Leader.{Leader}
use Rattle.ncp_leader.specs.declared.leader.Short.{Short}
use Rattle.ncp_host.specs.Host.{Host}
use Rattle.ncp_host.specs.Arrivals.{after_with, one_short}
use Rattle.ncp_host.specs.Running.{Receives}
use Rattle.ncp_host.proofs.Living.{kept_on}
use Rattle.ncp_host.proofs.Touching.{only_named_by}
use Rattle.ncp_host.proofs.host.Host.receive_part.Goals as goal

pub returns-clause-bits_touch_one_peer_alone : goal.returns-clause-bits_touch_one_peer_alone
returns-clause-bits_touch_one_peer_alone g c = only_named_by c.in-Ok.leader c.args.bits.now c.args.self.now c.hear.new.self c.in-Ok.ensures.exact c.hear.ensures.host

-- bits without a leader came: it lives on
pub invariant_of-self : goal.invariant_of-self
invariant_of-self g c =
    let h : Host = record { me = c.self.inside.me; peers = zip c.self.inside.numbers.items (boxed_slice_items c.self.inside.peers); ignored = c.self.inside.ignored } in
    kept_on c.self.inside.me c.self.inside.numbers.items (boxed_slice_items c.self.inside.peers) c.self.inside.ignored c.self.invariant (Receives c.args.bits.now) c.args.self.now (boxed_slice_items c.self.inside.peers) _ c.self.view_is refl
    (ap (λ (n : ℕ). record h { ignored = record h.ignored { short = n } }) c.one_more-self-inside.ensures ∙ ap one_short c.self.view_is
    ∙ ap (λ (r : Result Leader Short). after_with r c.args.bits.now c.args.self.now) c.in_default.ensures.exact)
