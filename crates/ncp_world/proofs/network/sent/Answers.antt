use Rattle.std.proofs.Common.{◌≡◌, IfOk, subst}
use Rattle.ncp_host.specs.Host.{Host}
use Rattle.ncp_transcript.specs.Noting.{note_of_output}
use Rattle.ncp_world.proofs.Members.{host-there, noted-there, kept-there}
use Rattle.ncp_world.proofs.network.sent.Goals as goal

pub returns-clause-note : goal.returns-clause-note
returns-clause-note g c =
    subst (λ (h : Host). IfOk c.sends.result (λ note. note ≡ note_of_output h))
    (host-there c.args.members.now c.args.number c.position_of-place.result c.index-members-place.result (c.member.inside.number, c.member.inside.host) c.position_of-place.ensures.index c.position_of-place.ensures.inside c.member.view_is)
    c.sends.ensures.note

pub returns-clause-hosts : goal.returns-clause-hosts
returns-clause-hosts g c =
    noted-there c.args.members.now c.args.number c.position_of-place.result c.index-members-place.result (c.member.inside.number, c.member.inside.host) c.position_of-place.ensures.index c.position_of-place.ensures.inside c.member.view_is
    c.sends.result c.sends.new.host c.sends.ensures.host

pub returns-clause-err : goal.returns-clause-err
returns-clause-err g c =
    kept-there c.args.members.now c.args.number c.position_of-place.result c.index-members-place.result (c.member.inside.number, c.member.inside.host) c.position_of-place.ensures.index c.position_of-place.ensures.inside c.member.view_is
    c.sends.result c.sends.new.host c.sends.ensures.err

pub returns-clause-subnet : goal.returns-clause-subnet
returns-clause-subnet g c = c.sends.ensures.subnet

pub returns-clause-kept : goal.returns-clause-kept
returns-clause-kept g c = c.sends.ensures.kept
