-- Findings, none of them of messages and the phase.
use Rattle.std.proofs.Common.{◌≡◌, ℕ, Bool, true, false, not, if◌then◌else◌, List, [], ◌∷◌, Result, refl, ap, ◌∙◌}
use Rattle.std.specs.List.{list_all}
use Rattle.std.proofs.lemmas.Bool.{and_parts}
use Rattle.ncp_leader.specs.declared.fault.MessageFault.{MessageFault}
use Rattle.ncp_leader.specs.Message.{Message}
use Rattle.ncp_monitor.specs.declared.finding.Finding.{Finding}
use Rattle.ncp_monitor.specs.declared.finding.Rule.{Rule}
use Rattle.ncp_monitor.specs.declared.monitor.Monitor.{Monitor}
use Rattle.ncp_monitor.proofs.Passing.{Pass}
use Rattle.ncp_proof_monitor.proofs.Talking.{message_flow, message_flow_pass}
use Rattle.ncp_proof_monitor.specs.Recordings.{is_of_messages_and_phase}
use Rattle.ncp_proof_monitor.proofs.Spared.{unsaid}
use Rattle.ncp_proof_monitor_messages.specs.Files.{found_by}

-- a finding is of another rule
abbrev pub phase_quiet : Finding → Bool
phase_quiet finding = not (is_of_messages_and_phase finding.rule)

-- what a message says is
pub quiet_flow : (monitor : Monitor) (at peer by : ℕ) (sent fresh : Bool) (r : Result Message MessageFault) → Pass phase_quiet (message_flow monitor at peer by sent fresh r)
quiet_flow monitor at peer by sent fresh r = message_flow_pass phase_quiet monitor at peer by sent fresh r (λ rule t. ap not (unsaid rule t))

-- where all are, none is of these rules
pub none_by : (judged : Rule → Bool) (found : List Finding) → Pass (λ (f : Finding). not (judged f.rule)) found → found_by judged found ≡ []
none_by judged [] p = refl
none_by judged (f ∷ found) p =
    let parts = and_parts (not (judged f.rule)) (list_all (λ (g : Finding). not (judged g.rule)) found) p in
    ap (λ (b : Bool). if b then f ∷ found_by judged found else found_by judged found) (other (judged f.rule) parts.0) ∙ none_by judged found parts.1
  where
    other : (b : Bool) → not b ≡ true → b ≡ false
    other true e = absurd (cc e)
    other false e = refl
