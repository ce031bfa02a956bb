use Rattle.std.proofs.Common.{◌≡◌, Bool, sym, ap, ◌∙◌}
use Rattle.ncp_subnet.specs.Transit.{is_delivered}
use Rattle.ncp_host.specs.Host.{state_of}
use Rattle.ncp_peer.specs.PeerCalls.{kept_for}
use Rattle.ncp_transcript_two.specs.declared.side.Side.{Side}
use Rattle.ncp_transcript_two.specs.Between.{Hosts, other, side_number, host_of}
use Rattle.ncp_world.specs.Reckoning.{unless_came}
use Rattle.ncp_world.proofs.Delivering.{transit-is}
use Rattle.ncp_world.proofs.lent.Lent.kept_from.Goals as goal

pub returns-then-delivered : goal.returns-then-delivered
returns-then-delivered g c =
    let was : Hosts = record { number_a = c.self.inside.number_a; number_b = c.self.inside.number_b; a = c.self.inside.a.now; b = c.self.inside.b.now; subnet = c.self.inside.subnet.now } in
    let kept = kept_for (state_of (host_of c.args.side c.args.self.now) (side_number (other c.args.side) c.args.self.now)) c.args.link in
    ap (λ (b : Bool). unless_came b kept)
    (sym c.if-delivered.true ∙ c.delivered.ensures ∙ ap is_delivered (transit-is was c.args.self.now c.args.side c.other.result c.args.link c.number-from.result c.number-to.result c.self.view_is c.number-from.ensures c.other.ensures c.number-to.ensures))

pub returns-else-delivered : goal.returns-else-delivered
returns-else-delivered g c =
    let was : Hosts = record { number_a = c.self.inside.number_a; number_b = c.self.inside.number_b; a = c.self.inside.a.now; b = c.self.inside.b.now; subnet = c.self.inside.subnet.now } in
    let to : c.number-to.result ≡ side_number (other c.args.side) c.args.self.now = c.number-to.ensures ∙ ap (λ (s : Side). side_number s c.args.self.now) c.other.ensures in
    let kept = kept_for (state_of (host_of c.args.side c.args.self.now) (side_number (other c.args.side) c.args.self.now)) c.args.link in
    c.kept.ensures ∙ (λ k. kept_for (state_of (c.host.ensures k) (to k)) c.args.link)
    ∙ ap (λ (b : Bool). unless_came b kept)
    (sym c.if-delivered.false ∙ c.delivered.ensures ∙ ap is_delivered (transit-is was c.args.self.now c.args.side c.other.result c.args.link c.number-from.result c.number-to.result c.self.view_is c.number-from.ensures c.other.ensures c.number-to.ensures))
