-- The text reported of a connection, in the file of the interfaces of two hosts.
use Rattle.std.specs.Prelude.{◌≡◌, ◌≢◌, ◌<◌, ℕ, Bool, true, false, List, ◌++◌, length, take}
use Rattle.std.specs.FinMap.{get}
use Rattle.ncp_bits.specs.declared.bits.TheConstants.{MAX_BITS}
use Rattle.ncp_model.specs.declared.pair.Pair.{Pair}
use Rattle.ncp_model.specs.Pairs.{sends, counterpart}
use Rattle.ncp_model.specs.Endpoint.{is_live, is_open, is_closing}
use Rattle.ncp_proof_endpoint.specs.Histories.{IsPrefix}
use Rattle.ncp_proof_machine.specs.Hosts.{past_of}
use Rattle.ncp_transcript_two.specs.World.{World, swap}
use Rattle.ncp_transcript_two.specs.Watch.{Both, turn}
use Rattle.ncp_transcript_two.specs.Underway.{sender_at, receiver_at}
use Rattle.ncp_transcript_two.specs.declared.event.Event.{Event}
use Rattle.ncp_transcript_two.specs.Between.{new_hosts}
use Rattle.ncp_transcript_two.specs.Transcript.{Noted_world, new_world, AreSteps}
use Rattle.ncp_transcript_two.specs.Seen.{seen}
use Rattle.ncp_transcript_two.specs.OfRules.{histories_of}
use Rattle.ncp_proof_monitor.specs.Worlds.{world_file}
use Rattle.ncp_follow.specs.declared.opened.TheConstants.{MAX_OPENED}
use Rattle.ncp_follow.specs.declared.follower.Follower.{Follower}
use Rattle.ncp_follow.specs.Followed.{new_follower}
use Rattle.ncp_proof_follow_tables.specs.TextReported.{text_told}
use Rattle.ncp_proof_follow_tables.specs.FileFollowed.{followed_from}

-- ---- for a pair from this host to that one

-- at the receiver's interface, until the receiver closes: what it got
abbrev pub OpenedIsGot : Pair → World → Both → Follower → Type 0
OpenedIsGot pair v p follower =
    is_live (get v.that.peer.ends (counterpart pair)) ≡ true → is_closing (receiver_at pair v) ≡ false
    → text_told v.there v.here (counterpart pair) follower.tables ≡ take MAX_BITS (past_of p.that (counterpart pair)).got

-- what was got is a prefix of the reported text: after the receiver closes, texts that arrive before its
-- CLS is sent are reported, but were not got
abbrev pub GotIsOpened : Pair → World → Both → Follower → Type 0
GotIsOpened pair v p follower =
    is_live (get v.that.peer.ends (counterpart pair)) ≡ true
    → IsPrefix (take MAX_BITS (past_of p.that (counterpart pair)).got) (text_told v.there v.here (counterpart pair) follower.tables)

-- at the sender's interface: what was given, except for a rest; until the sender closes, the rest is what
-- it has stored
abbrev pub OpenedIsGiven : Pair → World → Both → Follower → Type 0
OpenedIsGiven pair v p follower =
    is_live (get v.this.peer.ends pair) ≡ true
    → (sent : List Bool) × (rest : List Bool) × ((past_of p.this pair).given ≡ sent ++ rest)
    × (text_told v.here v.there pair follower.tables ≡ take MAX_BITS sent) × (is_open (sender_at pair v) ≡ true → rest ≡ (sender_at pair v).stored)

-- while both are open, the text reported at the receiver's interface is a prefix of that at the sender's
abbrev pub OpenedTwice : Pair → World → Follower → Type 0
OpenedTwice pair v follower =
    is_open (sender_at pair v) ≡ true → is_open (receiver_at pair v) ≡ true
    → IsPrefix (text_told v.there v.here (counterpart pair) follower.tables) (text_told v.here v.there pair follower.tables)

abbrev pub IsTold : Pair → World → Both → Follower → Type 0
IsTold pair v p follower = OpenedIsGot pair v p follower × GotIsOpened pair v p follower × OpenedIsGiven pair v p follower × OpenedTwice pair v follower

-- For two hosts with the subnet between them, and for any calls and any events of the subnet in any
-- order, this holds for what is followed of the file of both interfaces, while fewer connections were
-- opened than `follow` lists; for each sending pair, in both directions.
abbrev pub FollowReportsWhatWasGot : Type 0
FollowReportsWhatWasGot =
    (a b : ℕ) (happened : List Event) (now : Noted_world) (pair : Pair)
    → a ≢ b → a < 256 → b < 256 → AreSteps happened (new_world a b) now → sends pair ≡ true
    → let follower : Follower = followed_from 1 (world_file happened now.notes (new_hosts a b)) (new_follower false) in
    length follower.tables.told < MAX_OPENED
    → IsTold pair (seen now.hosts) (histories_of now.notes now.hosts) follower × IsTold pair (swap (seen now.hosts)) (turn (histories_of now.notes now.hosts)) follower
