-- The promises of two hosts to each other, for every transcript and the hosts it leads to: the phrases of
-- the headline, and its parts. A property of a pair is stated for each pair that sends, in both
-- directions.
use Rattle.std.specs.Prelude.{◌≡◌, ℕ, true, List}
use Rattle.ncp_model.specs.declared.pair.Pair.{Pair}
use Rattle.ncp_model.specs.Pairs.{sends}
use Rattle.ncp_proof_machine.specs.Resets.{Party}
use Rattle.ncp_transcript_two.specs.World.{World, swap}
use Rattle.ncp_transcript_two.specs.Honest.{IsHonest, IsPrefixWithin, number_of_side, sent, came}
use Rattle.ncp_transcript_two.specs.Watch.{Both, turn}
use Rattle.ncp_transcript_two.specs.Streams.{GotIsPrefix, GotIsTakenOrHeld, NeverBeyondAllocation}
use Rattle.ncp_transcript_two.specs.Underway.{AmountsAgree, Parted}
use Rattle.ncp_transcript_two.specs.declared.note.Note.{Note}
use Rattle.ncp_transcript_two.specs.Between.{Hosts}
use Rattle.ncp_transcript_two.specs.Transcript.{began}
use Rattle.ncp_transcript_two.specs.Seen.{seen, told}
use Rattle.ncp_transcript_two.specs.OfRules.{histories_of}
use Rattle.ncp_proof_promises.specs.EachNote.{OfEachNote}
use Rattle.ncp_proof_promises.specs.Judged.{ActsOnce, MakesNoErr}
use Rattle.ncp_proof_promises.specs.Errless.{HasNoErr}
use Rattle.ncp_proof_promises.specs.Resetting.{AwaitsReply, StillWaits, OnlyResetsAct}
use Rattle.ncp_proof_promises.specs.Openings.{OpensUnderNoText}
use Rattle.ncp_proof_promises.specs.Since.{none_watched, watched_from, other_way, CommandsAgree}
use Rattle.ncp_proof_promises.specs.Headline.{NeverOver}

-- it holds for each pair that sends, from this host to that one and in the other direction
abbrev pub EitherWay : (Pair → World → Both → Type 0) → List Note → Hosts → Type 0
EitherWay P notes w = (pair : Pair) → sends pair ≡ true → P pair (seen w) (histories_of notes w) × P pair (swap (seen w)) (turn (histories_of notes w))

-- The subnet and the order on one link.

-- the subnet delivered each message whole and once and answered RFNM, or did not deliver it and did not
-- answer RFNM; the last one on a link may still be unanswered
abbrev pub SubnetHonest : List Note → Hosts → Type 0
SubnetHonest notes w = IsHonest w.number_a w.number_b (told notes)

-- the messages that arrived on a link are a prefix of those sent there, shorter by at most one
abbrev pub CameInOrder : List Note → Hosts → Type 0
CameInOrder notes w = (side : Party) (on : ℕ) → IsPrefixWithin 1 (came side on (told notes)) (sent (number_of_side w.number_a w.number_b side) side on (told notes))

-- The text and the allocation of a connection.

-- the text that a live receiver got is a prefix of the text given
abbrev pub GotBegins : List Note → Hosts → Type 0
GotBegins notes w = EitherWay GotIsPrefix notes w

-- each byte appears once: text that a live receiver got was taken or is held, until it leaves; and while
-- both ends are open, text given was got, is underway (queued or in flight), or is stored at the sender
abbrev pub IsOnce : Pair → World → Both → Type 0
IsOnce pair v p = GotIsTakenOrHeld pair v p × Parted pair v p

abbrev pub EachByteOnce : List Note → Hosts → Type 0
EachByteOnce notes w = EitherWay IsOnce notes w

-- a live receiver uses no more than was granted; and from the opening on, the outstanding allocation is
-- what was granted, less what was returned and used, in messages and in bits
abbrev pub IsAllowed : Pair → World → Both → Type 0
IsAllowed pair v p = NeverOver pair v p × NeverBeyondAllocation pair v p

abbrev pub WithinAllocation : List Note → Hosts → Type 0
WithinAllocation notes w = EitherWay IsAllowed notes w

-- while both ends are open, the outstanding allocation is the sum of the counters and the amounts
-- underway, in messages and in bits
abbrev pub AreBalanced : Pair → World → Both → Type 0
AreBalanced pair v p = AmountsAgree pair v

abbrev pub LedgersBalanced : List Note → Hosts → Type 0
LedgersBalanced notes w = EitherWay AreBalanced notes w

-- from sending a text to its RFNM, no pair whose texts that host sends on that link opens
abbrev pub OpenedUnderNoText : List Note → Hosts → Type 0
OpenedUnderNoText notes w = OfEachNote OpensUnderNoText notes (began w)

-- Commands.

-- between two hosts that are up, the commands received, then those underway, are the commands made, each
-- since the last clearing; and no RST or RRP is underway
abbrev pub CommandsInOrder : List Note → Hosts → Type 0
CommandsInOrder notes w =
    CommandsAgree (seen w) (watched_from notes (began w) none_watched) × CommandsAgree (swap (seen w)) (other_way (watched_from notes (began w) none_watched))

-- each command of a message received acted once, in order
abbrev pub EachActedOnce : List Note → Hosts → Type 0
EachActedOnce notes w = OfEachNote ActsOnce notes (began w)

-- no control text received was faulty, no command of one was answered by an ERR, and no text as not
-- connected, of the wrong size or beyond the allocation
abbrev pub NoErrMade : List Note → Hosts → Type 0
NoErrMade notes w = OfEachNote MakesNoErr notes (began w)

-- no ERR is queued at a host or in flight from it, and no host received one
abbrev pub NoErrUnderway : List Note → Hosts → Type 0
NoErrUnderway notes w = HasNoErr (seen w).this (seen w).going × HasNoErr (seen w).that (seen w).coming

-- Resets.

-- from making an RST until an RRP arrived, a host acted on RST and RRP only
abbrev pub OnlyResetsActed : List Note → Hosts → Type 0
OnlyResetsActed notes w = OfEachNote OnlyResetsAct notes (began w)

-- and a host that awaits an RRP has no connection, and no queued commands except RST and RRP
abbrev pub WaitsAlone : List Note → Hosts → Type 0
WaitsAlone notes w = (AwaitsReply (seen w).this → StillWaits (seen w).this) × (AwaitsReply (seen w).that → StillWaits (seen w).that)
