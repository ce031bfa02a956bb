use Rattle.std.proofs.Common.{◌≡◌, Bool, true, if◌then◌else◌, ap, ◌∙◌}
use Rattle.std.proofs.lemmas.Bool.{or_right}
use Rattle.ncp_wire.specs.declared.command.Command.{Command}
use Rattle.ncp_wire.specs.declared.command.Command.TheVariants.{Rst, Rrp}
use Rattle.ncp_model.specs.Effect.{answer}
use Rattle.ncp_model.specs.Ends.{hear, text_in}
use Rattle.ncp_model.specs.EndpointEvents.{of_hearing, outcome_of_text, is_violation}
use Rattle.ncp_proof_machine.specs.Resets.{is_up}
use Rattle.ncp_proof_machine.specs.Hosts.{Node, node_hears, node_hears_other, node_takes_text}
use Rattle.ncp_proof_headline.proofs.headline.what_is_against_the_protocol_is_noted.Goals as goal

-- of a host that is up
noted : (b : Bool) (x n : Node) → b ≡ true → x.violated ≡ true → (if b then x else n).violated ≡ true
noted b x n e w = ap (λ (c : Bool). (if c then x else n).violated) e ∙ w

commands : (c : Command) (n : Node) → is_up n.host ≡ true → is_violation (of_hearing (answer (hear c n.ends))) ≡ true → (node_hears c n).violated ≡ true
commands Rst n e v = absurd (cc v)
commands Rrp n e v = absurd (cc v)
commands c n e v = noted (is_up n.host) (node_hears_other c n) n e (or_right n.violated (is_violation (of_hearing (answer (hear c n.ends)))) v)

pub returns-clause-commands : goal.returns-clause-commands
returns-clause-commands c = commands

pub returns-clause-texts : goal.returns-clause-texts
returns-clause-texts c = λ on head t n e v. noted (is_up n.host) (node_takes_text on head t n) n e (or_right n.violated (is_violation (outcome_of_text (answer (text_in on t.of_size t.bits n.ends)))) v)
