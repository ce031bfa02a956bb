use Rattle.ncp_proof_machine.specs.Hosts.{nodes_swapped, node_at, run}
use Rattle.ncp_proof_headline.proofs.OpensNot.{none-live-at}
use Rattle.ncp_proof_headline.proofs.HostsHeld.{ever, ever-swapped, happening, after_step}
use Rattle.ncp_proof_headline.proofs.HostsHeadline.{sender-opens-not, receiver-opens-not, sender-hears-not, receiver-hears-not}
use Rattle.ncp_proof_headline.proofs.headline.none_opens_in_a_step_while_its_link_has_a_text.Goals as goal

pub returns-clause-steps : goal.returns-clause-steps
returns-clause-steps c = λ es e. (let w = run es in let after = node_at e.side e.step w in let t = ever es in let u = after_step e w t in let k = happening e.side e.step t.own t.own' w t.stand t.holds in
    λ pair on out. (
      sender-opens-not w after t u k.there (λ n p. (none-live-at e.side e.step w p).0 n) (λ n p. (none-live-at e.side e.step w p).1 n) on out pair,
      receiver-opens-not w after t u k.there (λ n p. (none-live-at e.side e.step w p).0 n) (λ n p. (none-live-at e.side e.step w p).1 n) on out pair,
    ))

pub returns-clause-steps_back : goal.returns-clause-steps_back
returns-clause-steps_back c = λ es e. (let w = run es in let after = node_at e.side e.step w in let t = ever es in let u = after_step e w t in let k = happening e.side e.step t.own t.own' w t.stand t.holds in
    let t' = ever-swapped w t in let u' = ever-swapped after u in
    λ pair on out. (
      sender-opens-not (nodes_swapped w) (nodes_swapped after) t' u' k.back (λ n p. (none-live-at e.side e.step w p).1 n) (λ n p. (none-live-at e.side e.step w p).0 n) on out pair,
      receiver-opens-not (nodes_swapped w) (nodes_swapped after) t' u' k.back (λ n p. (none-live-at e.side e.step w p).1 n) (λ n p. (none-live-at e.side e.step w p).0 n) on out pair,
    ))

pub returns-clause-commands : goal.returns-clause-commands
returns-clause-commands c = λ es. (let w = run es in let t = ever es in let t' = ever-swapped w t in (
  λ done rest command s pair on. (λ out. sender-hears-not w t done rest command s on out pair, λ out. receiver-hears-not w t done rest command s on out pair),
  λ done rest command s pair on. (λ out. sender-hears-not (nodes_swapped w) t' done rest command s on out pair, λ out. receiver-hears-not (nodes_swapped w) t' done rest command s on out pair),
))
