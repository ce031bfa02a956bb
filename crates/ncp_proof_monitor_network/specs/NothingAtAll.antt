-- That an audit reports nothing in the file of hosts with the subnet between them.
use Rattle.std.specs.Prelude.{Bool}
use Rattle.ncp_monitor.specs.declared.finding.Rule.{Rule}
use Rattle.ncp_proof_monitor_messages.specs.Files.{NothingFound}
use Rattle.ncp_proof_monitor_messages.specs.ManyFiles.{NothingFoundAmongMany}

-- For any choice of rules, no finding in the file of two hosts is by one of them.
abbrev pub NothingFoundAtAll : Type 0
NothingFoundAtAll = (judged : Rule → Bool) → NothingFound judged

-- The same in the file of two to eight hosts.
abbrev pub NothingFoundAmongManyAtAll : Type 0
NothingFoundAmongManyAtAll = (judged : Rule → Bool) → NothingFoundAmongMany judged
