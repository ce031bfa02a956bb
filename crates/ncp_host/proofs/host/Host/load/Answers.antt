-- The bytes of a host begin with the name and this version.
use Rattle.std.proofs.Common.{◌≡◌, ◌∙◌}
use Rattle.ncp_host.proofs.PeersRead.{host_version}
use Rattle.ncp_host.proofs.host.Host.load.Goals as goal

pub returns-in_default-clause-takes : goal.returns-in_default-clause-takes
returns-in_default-clause-takes g c = λ h is e. absurd (c.in_default.not-Some 1 (c.version_in.ensures ∙ host_version h c.args.bytes.now e))

pub returns-then-version-ne-FILE_VERSION-clause-takes : goal.returns-then-version-ne-FILE_VERSION-clause-takes
returns-then-version-ne-FILE_VERSION-clause-takes g c = λ h is e.
    let known = c.version_in.ensures ∙ host_version h c.args.bytes.now e in
    let same : c.in-Some.version ≡ 1 = (let found = c.in-Some.is in cc) in
    absurd (c.if-version-ne-FILE_VERSION.true same)
