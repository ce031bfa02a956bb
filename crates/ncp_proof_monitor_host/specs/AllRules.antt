-- That an audit reports no violation by a host.
use Rattle.std.specs.Prelude.{Bool}
use Rattle.ncp_monitor.specs.declared.finding.Rule.{Rule}
use Rattle.ncp_proof_monitor.specs.Recordings.{NobodyBlamed}

-- For any choice of rules, no finding in a host's whole recording is that the host broke one of them.
abbrev pub NobodyBlamedAtAll : Type 0
NobodyBlamedAtAll = (judged : Rule → Bool) → NobodyBlamed judged
