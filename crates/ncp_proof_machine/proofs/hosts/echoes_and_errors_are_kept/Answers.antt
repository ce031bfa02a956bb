use Rattle.std.proofs.Common.{ap}
use Rattle.ncp_model.specs.Ends.{lowest}
use Rattle.ncp_proof_machine.specs.Resets.{ResetHost}
use Rattle.ncp_proof_machine.specs.Hosts.{all_empty}
use Rattle.ncp_proof_machine.specs.HostRuns.{echo_asks, echo_comes_back}
use Rattle.ncp_proof_machine.proofs.HostsListed.{this-host, that-host, this-echoes, that-echoes}
use Rattle.ncp_proof_machine.proofs.hosts.echoes_and_errors_are_kept.Goals as goal
use Rattle.std.proofs.Common.{◌≡◌, ℕ, ◌||◌, Bool, true, false, if◌then◌else◌, List, [], ◌∷◌, ◌++◌, ◌∙◌}
use Rattle.ncp_wire.specs.declared.command.Command.{Command}
use Rattle.ncp_model.specs.Echo.{Echoes, hear_err, purge_echo}
use Rattle.ncp_model.specs.Ends.{no_ends}
use Rattle.ncp_proof_machine.specs.Resets.{is_up}
use Rattle.ncp_proof_machine.specs.Hosts.{Node, node_kept, node_kept_echoes, node_hears, node_hears_other}

error_kept : (code : ℕ) (data_bytes : List ℕ) (n : Node) → is_up n.host ≡ true
    → node_hears (Command.Err code data_bytes) n
    ≡ record n { host = record n.host { came = n.host.came ++ Command.Err code data_bytes ∷ [] }; echoes = hear_err (record { code = code; bytes = data_bytes }) n.echoes; violated = n.violated || false }
error_kept code data_bytes n u =
    let c : Command = Command.Err code data_bytes in
    let heard : ResetHost = record n.host { came = n.host.came ++ c ∷ [] } in
    let echoes : Echoes = hear_err (record { code = code; bytes = data_bytes }) n.echoes in
    let violated : Bool = n.violated || false in
    ap (λ (b : Bool). if b then node_hears_other c n else n) u
    ∙ (ap (λ (h : ResetHost). (let m : Node = record n { host = h; ends = node_kept h n.ends; echoes = node_kept_echoes h echoes; violated = violated } in m)) (ap (λ (b : Bool). if b then heard else n.host) u)
    ∙ ap (λ (b : Bool). (let m : Node = record n { host = heard; ends = if b then n.ends else no_ends; echoes = if b then echoes else purge_echo echoes; violated = violated } in m)) u)

pub returns-clause-awaited : goal.returns-clause-awaited
unfolding lowest all_empty
returns-clause-awaited c = this-echoes echo_asks

pub returns-clause-echoed : goal.returns-clause-echoed
unfolding lowest all_empty
returns-clause-echoed c = this-echoes echo_comes_back

pub returns-clause-echoed_here_alone : goal.returns-clause-echoed_here_alone
unfolding lowest all_empty
returns-clause-echoed_here_alone c = that-echoes echo_comes_back

pub returns-clause-echoed_came : goal.returns-clause-echoed_came
unfolding lowest all_empty
returns-clause-echoed_came c = ap (λ (h : ResetHost). h.came) (that-host echo_comes_back)

pub returns-clause-echoed_came_back : goal.returns-clause-echoed_came_back
unfolding lowest all_empty
returns-clause-echoed_came_back c = ap (λ (h : ResetHost). h.came) (this-host echo_comes_back)

pub returns-clause-error : goal.returns-clause-error
unfolding lowest all_empty
returns-clause-error c = λ code data_bytes n u. error_kept code data_bytes n u
