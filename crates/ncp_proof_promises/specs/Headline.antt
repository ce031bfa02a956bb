-- The headline's claims about a live receiver, besides those of the theorems below it.
use Rattle.std.specs.Prelude.{◌≡◌, true}
use Rattle.std.specs.FinMap.{get}
use Rattle.ncp_model.specs.declared.pair.Pair.{Pair}
use Rattle.ncp_model.specs.Pairs.{counterpart}
use Rattle.ncp_model.specs.Amounts.{◌⊕◌, ◌⊑◌}
use Rattle.ncp_model.specs.Endpoint.{is_live}
use Rattle.ncp_proof_endpoint.specs.Histories.{PairHistory, allowance_used}
use Rattle.ncp_proof_machine.specs.Hosts.{past_of}
use Rattle.ncp_transcript_two.specs.World.{World}
use Rattle.ncp_transcript_two.specs.Watch.{Both}

-- the amount used is at most that granted, less that returned
abbrev pub IsWithin : PairHistory → Type 0
IsWithin past = allowance_used past ⊕ past.returned ⊑ past.granted

-- a live receiver of that host never uses more than was granted
abbrev pub NeverOver : Pair → World → Both → Type 0
NeverOver pair v p = is_live (get v.that.peer.ends (counterpart pair)) ≡ true → IsWithin (past_of p.that (counterpart pair))
