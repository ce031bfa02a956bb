use Rattle.std.proofs.Common.{sym, ap, ◌∙◌}
use Rattle.std.specs.Box.{boxed_slice_items}
use Rattle.ncp_peer.specs.PeerCalls.{kept_for}
use Rattle.ncp_host.proofs.Calling.{known, not_known}
use Rattle.ncp_host.proofs.host.Host.kept.Goals as goal

pub returns-in_default : goal.returns-in_default
returns-in_default g c =
    let none = not_known c.self.inside.me c.self.inside.numbers.items (boxed_slice_items c.self.inside.peers) c.self.inside.ignored c.args.peer
    c.args.self.now c.as_slice.result.now c.deref.result.now c.in_default.field-0 c.self.view_is c.as_slice.ensures.value c.deref.ensures.value c.in_default.ensures.found in
    sym (ap (λ o. kept_for o c.args.link) none)

pub returns : goal.returns
returns g c =
    let there = known c.self.inside.me c.self.inside.numbers.items (boxed_slice_items c.self.inside.peers) c.self.inside.ignored c.args.peer c.in-Ok.place c.index.result.now c.index.result.now
    c.args.self.now c.as_slice.result.now c.deref.result.now c.self.view_is c.as_slice.ensures.value c.deref.ensures.value c.in-Ok.ensures.found c.in-Ok.ensures.inside c.index.ensures in
    c.kept.ensures ∙ sym (ap (λ o. kept_for o c.args.link) there)
