use Rattle.std.proofs.Common.{◌≡◌, true, Option, None, Some, ap, arith}
use Rattle.std.specs.FinMap.{get}
use Rattle.ncp_model.specs.declared.pair.Pair.{Pair}
use Rattle.ncp_model.specs.declared.amounts.Amount.{Amount}
use Rattle.ncp_model.specs.Pairs.{counterpart}
use Rattle.ncp_model.specs.Endpoint.{Endpoint, is_live}
use Rattle.ncp_proof_endpoint.specs.Histories.{PairHistory}
use Rattle.ncp_proof_endpoint.specs.Books.{BooksAt}
use Rattle.ncp_proof_machine.specs.Hosts.{past_of}
use Rattle.ncp_transcript_two.specs.World.{World, swap}
use Rattle.ncp_transcript_two.specs.Watch.{Both, turn}
use Rattle.ncp_transcript_two.specs.Streams.{NeverBeyondAllocation}
use Rattle.ncp_transcript_two.specs.Seen.{seen}
use Rattle.ncp_transcript_two.specs.OfRules.{histories_of}
use Rattle.ncp_proof_promises.specs.Headline.{IsWithin}
use Rattle.ncp_proof_promises.specs.Promised.{IsAllowed}
use Rattle.ncp_proof_promises.proofs.headline.the_headline.Goals as goal

pub returns-clause-beginning : goal.returns-clause-beginning
returns-clause-beginning c ns w t pair s = c.transcripts_keep_the_headline.ensures.beginning ns w pair t s

pub returns-clause-once : goal.returns-clause-once
returns-clause-once c ns w t pair s =
    let held = c.transcripts_keep_the_headline.ensures.held ns w pair t s in
    let parted = c.transcripts_keep_the_headline.ensures.parted ns w pair t s in
    ((held.0, parted.0), (held.1, parted.1))

pub returns-clause-ledger : goal.returns-clause-ledger
returns-clause-ledger c ns w t pair s = c.transcripts_keep_the_headline.ensures.amounts ns w pair t s

-- what the books of a live receiver say, it keeps to
within : (o : Option Endpoint) (past : PairHistory) → BooksAt o past → is_live o ≡ true → IsWithin past
within None past b l = absurd (cc l)
within (Some e) past b l = let m = ap (λ (a : Amount). a.messages) (b.counted l) in let n = ap (λ (a : Amount). a.bits) (b.counted l) in (omega (arith, m), omega (arith, n))

allowed : (pair : Pair) (v : World) (p : Both) → NeverBeyondAllocation pair v p → IsAllowed pair v p
allowed pair v p b = (within (get v.that.peer.ends (counterpart pair)) (past_of p.that (counterpart pair)) b, b)

pub returns-clause-allocation : goal.returns-clause-allocation
returns-clause-allocation c ns w t pair s =
    let books = c.transcripts_keep_the_headline.ensures.allocation ns w pair t s in
    (allowed pair (seen w) (histories_of ns w) books.0, allowed pair (swap (seen w)) (turn (histories_of ns w)) books.1)
