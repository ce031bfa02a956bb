use Rattle.std.proofs.Common.{ℕ, List, true≢false, sym, ap, ◌∙◌}
use Rattle.ncp_host.specs.Host.{are_peers}
use Rattle.ncp_host.proofs.host.loading.host_with.Goals as goal

pub invariant_of-result : goal.invariant_of-result
invariant_of-result g c = record {
  beside = c.requires.beside;
  peers = ap (λ (ns : List ℕ). are_peers c.args.me ns) (sym c.as_slice.ensures.value) ∙ sym c.are_peers.ensures ∙ c.if-not-are_peers.false;
  well = c.requires.well;
}

pub returns-then-not-are_peers : goal.returns-then-not-are_peers
returns-then-not-are_peers g c = record { takes = λ good. absurd (true≢false (sym good ∙ ap (λ (ns : List ℕ). are_peers c.args.me ns) (sym c.as_slice.ensures.value) ∙ sym c.are_peers.ensures ∙ c.if-not-are_peers.true)) }
