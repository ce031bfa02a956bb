-- Files of the interface of host 1, examples for the law: its reset, which host 2 answers; then two
-- echoes in one message, or a text on a link without a connection.
use Rattle.std.specs.Prelude.{ℕ, Bool, List, [], ◌∷◌, ◌++◌}
use Rattle.ncp_proof_runs.specs.Examples.{byte_of_two, message_on_2}
use Rattle.ncp_monitor.specs.declared.finding.Finding.{Finding}
use Rattle.ncp_monitor.specs.declared.finding.Rule.{Rule}
use Rattle.ncp_monitor.specs.declared.finding.Unopened.{Unopened}
use Rattle.ncp_interface.specs.declared.imp_direction.ImpDirection.{ImpDirection}
use Rattle.ncp_interface.specs.declared.imp_direction.ImpDirection.TheVariants.{ToImp, FromImp}
use Rattle.ncp_monitor.specs.Judged.{by_host}
use Rattle.ncp_proof_monitor_host.specs.Talking.{front_of_one, rst_alone, rrp_alone, taken_by_2, echo_and_echo}

abbrev pub reset_and_reply : List (ℕ × ImpDirection × List Bool)
reset_and_reply = (1, ToImp, rst_alone) ∷ (1, FromImp, taken_by_2) ∷ (1, FromImp, rrp_alone) ∷ []

-- host 1 sends them
abbrev pub echoes_go : List (ℕ × ImpDirection × List Bool)
echoes_go = reset_and_reply ++ (1, ToImp, echo_and_echo) ∷ []

-- host 2 sends them
abbrev pub echoes_come : List (ℕ × ImpDirection × List Bool)
echoes_come = reset_and_reply ++ (1, FromImp, echo_and_echo) ∷ []

-- the finding about the second echo, against this host
abbrev pub second_echo : ℕ → List Finding
second_echo host = by_host host (Rule.EcoAgain 2) ∷ []

-- a text of one byte
abbrev pub text_on_2 : List Bool
text_on_2 = message_on_2 ++ front_of_one ++ byte_of_two

-- host 1 sends it
abbrev pub unopened_goes : List (ℕ × ImpDirection × List Bool)
unopened_goes = reset_and_reply ++ (1, ToImp, text_on_2) ∷ []

-- host 2 sends it
abbrev pub unopened_comes : List (ℕ × ImpDirection × List Bool)
unopened_comes = reset_and_reply ++ (1, FromImp, text_on_2) ∷ []

-- its finding, against this host
abbrev pub text_to_no_pair : ℕ → List Finding
text_to_no_pair host = by_host host (Rule.TextNotOpen 2 Unopened.NoPair) ∷ []
