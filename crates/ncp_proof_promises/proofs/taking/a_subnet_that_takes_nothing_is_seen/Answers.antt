use Rattle.std.proofs.Common.{◌≡◌, sym, ap, ◌∙◌}
use Rattle.ncp_transcript_two.specs.Subnet.{Free, Accepted, TransitByLink, link_in}
use Rattle.ncp_proof_promises.proofs.OutTaken.{set-there}
use Rattle.ncp_proof_promises.proofs.taking.a_subnet_that_takes_nothing_is_seen.Goals as goal

pub returns-clause-taken : goal.returns-clause-taken
returns-clause-taken c message v after e = ap (λ (u : TransitByLink). u (link_in message)) e ∙ set-there (link_in message) (Accepted message) v.going

pub returns-clause-nothing : goal.returns-clause-nothing
returns-clause-nothing c message v after e taken = let both : Free ≡ Accepted message = sym (ap (λ (u : TransitByLink). u (link_in message)) e) ∙ taken in cc
