use Rattle.ncp_leader.proofs.leader.leader_of.Goals as goal

pub returns : goal.returns
returns c = λ i. record {
  flags = c.number.ensures.number i;
  kind = c.number-2.ensures.number i;
  host = c.number-3.ensures.number i;
  link = c.number-4.ensures.number i;
  low = c.number-5.ensures.number i;
}
