use Rattle.std.proofs.Common.{◌≡◌, ◌<◌, ℕ, true, List, get_or, sym, ap, ◌∙◌, subst}
use Rattle.ncp_transcript_many.specs.Network.{are_hosts}
use Rattle.ncp_play_world.proofs.many_hosts.many_hosts.Goals as goal

pub returns-then-are_proper-clause-proper : goal.returns-then-are_proper-clause-proper
returns-then-are_proper-clause-proper c =
    let good : are_hosts c.in_ok-numbers.numbers.items ≡ true = ap are_hosts (sym c.as_slice.ensures.value) ∙ sym c.are_proper.ensures.hosts ∙ c.if-are_proper.true in
    (good, subst (λ (ns : List ℕ). (place : ℕ) → get_or ns place 0 < 256) c.as_slice.ensures.value c.are_proper.ensures.fits)
