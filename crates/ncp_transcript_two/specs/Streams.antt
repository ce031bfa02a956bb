-- Properties of a connection between the two hosts of a run, read off the hosts and the histories of the
-- notes. Each is stated for the direction from this host to that one.
use Rattle.std.specs.Prelude.{◌≡◌, true, false, ◌++◌}
use Rattle.std.specs.FinMap.{get}
use Rattle.ncp_model.specs.declared.pair.Pair.{Pair}
use Rattle.ncp_model.specs.Endpoint.{is_live, or_new}
use Rattle.ncp_proof_endpoint.specs.Books.{BooksAt}
use Rattle.ncp_proof_machine.specs.Hosts.{past_of}
use Rattle.ncp_transcript_two.specs.World.{World}
use Rattle.ncp_transcript_two.specs.Watch.{Both}
use Rattle.ncp_model.specs.Pairs.{counterpart}
use Rattle.ncp_proof_endpoint.specs.Histories.{IsPrefix}

-- while the receiver is live, the text it got is a prefix of the text given since the sender last opened
abbrev pub GotIsPrefix : Pair → World → Both → Type 0
GotIsPrefix pair v p = is_live (get v.that.peer.ends (counterpart pair)) ≡ true → IsPrefix (past_of p.that (counterpart pair)).got (past_of p.this pair).given

-- while the receiver is live and has not left, all it got was taken or is held
abbrev pub GotIsTakenOrHeld : Pair → World → Both → Type 0
GotIsTakenOrHeld pair v p = is_live (get v.that.peer.ends (counterpart pair)) ≡ true → (or_new (get v.that.peer.ends (counterpart pair))).left ≡ false
    → (past_of p.that (counterpart pair)).got ≡ (past_of p.that (counterpart pair)).taken ++ (or_new (get v.that.peer.ends (counterpart pair))).stored

-- from the receiver's opening on, the outstanding allocation is what was granted, less what was returned
-- and used
abbrev pub NeverBeyondAllocation : Pair → World → Both → Type 0
NeverBeyondAllocation pair v p = BooksAt (get v.that.peer.ends (counterpart pair)) (past_of p.that (counterpart pair))
