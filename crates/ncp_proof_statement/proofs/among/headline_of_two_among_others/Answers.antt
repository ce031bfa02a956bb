use Rattle.ncp_proof_statement.specs.Notes.{mutual_notes}
use Rattle.ncp_proof_statement.proofs.among.headline_of_two_among_others.Goals as goal

pub returns : goal.returns
returns c x y ns t = c.headline_over_any_subnet.ensures x.me y.me (mutual_notes x.me y.me ns) (c.two_among_others_are_two_by_themselves.ensures.alone x y ns t)
