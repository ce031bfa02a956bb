use Rattle.std.proofs.Common.{◌≡◌, ℕ, true, List}
use Rattle.ncp_model.specs.declared.pair.Pair.{Pair}
use Rattle.ncp_model.specs.Pairs.{sends}
use Rattle.ncp_proof_machine.specs.Resets.{Party}
use Rattle.ncp_proof_machine.specs.Hosts as hosts
use Rattle.ncp_transcript_two.specs.World.{World, swap}
use Rattle.ncp_transcript_two.specs.Honest.{IsHonest, IsPrefixWithin, number_of_side, sent, came}
use Rattle.ncp_transcript_two.specs.Watch.{Both, no_histories, turn}
use Rattle.ncp_transcript_two.specs.Streams.{GotIsPrefix}
use Rattle.ncp_transcript_two.specs.Tie.{Refines}
use Rattle.ncp_transcript_two.specs.declared.note.Note.{Note}
use Rattle.ncp_transcript_two.specs.Between.{Hosts}
use Rattle.ncp_transcript_two.specs.Seen.{told, histories}
use Rattle.ncp_proof_promises.specs.EachNote.{OfEachNote}
use Rattle.ncp_proof_promises.specs.Judged.{ActsOnce, MakesNoErr}
use Rattle.ncp_proof_promises.specs.Errless.{HasNoErr}
use Rattle.ncp_proof_promises.specs.Resetting.{AwaitsReply, StillWaits, OnlyResetsAct}
use Rattle.ncp_proof_promises.specs.Openings.{OpensUnderNoText}
use Rattle.ncp_proof_promises.specs.Since.{none_watched, watched_from, other_way, CommandsAgree}
use Rattle.ncp_proof_promises.specs.Promised.{IsOnce, IsAllowed, AreBalanced}
use Rattle.ncp_transcript_many.proofs.EachPair.{for-two}
use Rattle.ncp_transcript_many.proofs.each_pair.the_headline_of_each_pair.Goals as goal

-- of each pair of sockets that sends, either way, by what is seen and the histories of the notes
abbrev Either : (Pair → World → Both → Type 0) → List Note → Hosts → World → Type 0
Either P ns h v = (pair : Pair) → sends pair ≡ true → P pair v (histories ns h no_histories) × P pair (swap v) (turn (histories ns h no_histories))

pub returns-clause-subnet : goal.returns-clause-subnet
returns-clause-subnet c = for-two (λ ns h v. IsHonest v.here v.there (told ns)) c.the_headline.ensures.subnet

pub returns-clause-beginning : goal.returns-clause-beginning
returns-clause-beginning c = for-two (Either GotIsPrefix) c.the_headline.ensures.beginning

pub returns-clause-once : goal.returns-clause-once
returns-clause-once c = for-two (Either IsOnce) c.the_headline.ensures.once

pub returns-clause-allocation : goal.returns-clause-allocation
returns-clause-allocation c = for-two (Either IsAllowed) c.the_headline.ensures.allocation

pub returns-clause-ledger : goal.returns-clause-ledger
returns-clause-ledger c = for-two (Either AreBalanced) c.the_headline.ensures.ledger

pub returns-clause-order : goal.returns-clause-order
returns-clause-order c = for-two (λ ns h v. (side : Party) (on : ℕ) → IsPrefixWithin 1 (came side on (told ns)) (sent (number_of_side v.here v.there side) side on (told ns))) c.the_headline.ensures.order

pub returns-clause-commands : goal.returns-clause-commands
returns-clause-commands c = for-two (λ ns h v. CommandsAgree v (watched_from ns h none_watched) × CommandsAgree (swap v) (other_way (watched_from ns h none_watched))) c.the_headline.ensures.commands

pub returns-clause-acts : goal.returns-clause-acts
returns-clause-acts c = for-two (λ ns h v. OfEachNote ActsOnce ns h) c.the_headline.ensures.acts

pub returns-clause-errs : goal.returns-clause-errs
returns-clause-errs c = for-two (λ ns h v. OfEachNote MakesNoErr ns h) c.the_headline.ensures.errs

pub returns-clause-no_err : goal.returns-clause-no_err
returns-clause-no_err c = for-two (λ ns h v. HasNoErr v.this v.going × HasNoErr v.that v.coming) c.no_err_is_ever_underway.ensures

pub returns-clause-resets : goal.returns-clause-resets
returns-clause-resets c = for-two (λ ns h v. OfEachNote OnlyResetsAct ns h) c.only_resets_act_until_the_answer.ensures.acts

pub returns-clause-waits : goal.returns-clause-waits
returns-clause-waits c = for-two (λ ns h v. (AwaitsReply v.this → StillWaits v.this) × (AwaitsReply v.that → StillWaits v.that)) c.only_resets_act_until_the_answer.ensures.waiting

pub returns-clause-openings : goal.returns-clause-openings
returns-clause-openings c = for-two (λ ns h v. OfEachNote OpensUnderNoText ns h) c.none_opens_while_its_link_has_a_text.ensures

pub returns-clause-model : goal.returns-clause-model
returns-clause-model c = for-two (λ ns h v. (events : List hosts.NodeEvent) × Refines (hosts.run events) v × ((hosts.run events).this.pasts ≡ (histories ns h no_histories).this) × ((hosts.run events).that.pasts ≡ (histories ns h no_histories).that)) c.transcripts_are_of_the_model.ensures
