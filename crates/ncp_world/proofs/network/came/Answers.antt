use Rattle.std.proofs.Common.{◌≡◌, IfOk, subst}
use Rattle.ncp_subnet.specs.Messages.{arriving}
use Rattle.ncp_subnet.specs.Subnet.{transit_at}
use Rattle.ncp_host.specs.Host.{Host}
use Rattle.ncp_step.specs.Noted.{note_if_any}
use Rattle.ncp_world.proofs.Members.{host-there, told-there, kept-there}
use Rattle.ncp_world.proofs.network.came.Goals as goal

pub returns-clause-note : goal.returns-clause-note
returns-clause-note g c =
    subst (λ (h : Host). IfOk c.comes.result (λ note. note ≡ note_if_any (arriving c.args.from (transit_at c.args.subnet.now c.args.from c.args.to c.args.link)) h))
    (host-there c.args.members.now c.args.to c.position_of-place.result c.index-members-place.result (c.member.inside.number, c.member.inside.host) c.position_of-place.ensures.index c.position_of-place.ensures.inside c.member.view_is)
    c.comes.ensures.note

pub returns-clause-hosts : goal.returns-clause-hosts
returns-clause-hosts g c =
    told-there c.args.members.now c.args.to c.position_of-place.result c.index-members-place.result (c.member.inside.number, c.member.inside.host) c.position_of-place.ensures.index c.position_of-place.ensures.inside c.member.view_is
    c.comes.result c.comes.new.host c.comes.ensures.host

pub returns-clause-err : goal.returns-clause-err
returns-clause-err g c =
    kept-there c.args.members.now c.args.to c.position_of-place.result c.index-members-place.result (c.member.inside.number, c.member.inside.host) c.position_of-place.ensures.index c.position_of-place.ensures.inside c.member.view_is
    c.comes.result c.comes.new.host c.comes.ensures.err

pub returns-clause-subnet : goal.returns-clause-subnet
returns-clause-subnet g c = c.comes.ensures.subnet

pub returns-clause-kept : goal.returns-clause-kept
returns-clause-kept g c = c.comes.ensures.kept
