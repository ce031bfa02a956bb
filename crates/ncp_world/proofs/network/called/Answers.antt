use Rattle.std.proofs.Common.{IfOk, subst}
use Rattle.ncp_host.specs.Host.{Host}
use Rattle.ncp_transcript.specs.Noting.{CallNoted}
use Rattle.ncp_world.proofs.Members.{host-there, noted-there, kept-there}
use Rattle.ncp_world.proofs.network.called.Goals as goal

pub returns-clause-note : goal.returns-clause-note
returns-clause-note g c =
    subst (λ (h : Host). IfOk c.calls.result (λ note. CallNoted c.args.call.now note h))
    (host-there c.args.members.now c.args.number c.position_of-place.result c.index-members-place.result (c.member.inside.number, c.member.inside.host) c.position_of-place.ensures.index c.position_of-place.ensures.inside c.member.view_is)
    c.calls.ensures.note

pub returns-clause-hosts : goal.returns-clause-hosts
returns-clause-hosts g c =
    noted-there c.args.members.now c.args.number c.position_of-place.result c.index-members-place.result (c.member.inside.number, c.member.inside.host) c.position_of-place.ensures.index c.position_of-place.ensures.inside c.member.view_is
    c.calls.result c.calls.new.host c.calls.ensures.host

pub returns-clause-err : goal.returns-clause-err
returns-clause-err g c =
    kept-there c.args.members.now c.args.number c.position_of-place.result c.index-members-place.result (c.member.inside.number, c.member.inside.host) c.position_of-place.ensures.index c.position_of-place.ensures.inside c.member.view_is
    c.calls.result c.calls.new.host c.calls.ensures.err

pub returns-clause-fits : goal.returns-clause-fits
returns-clause-fits g c = c.calls.ensures.fits
