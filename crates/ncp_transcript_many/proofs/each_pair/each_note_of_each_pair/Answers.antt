use Rattle.ncp_proof_promises.specs.Judged.{ActsOnce, MakesNoErr}
use Rattle.ncp_proof_promises.specs.Resetting.{OnlyResetsAct}
use Rattle.ncp_proof_promises.specs.Openings.{OpensUnderNoText}
use Rattle.ncp_transcript_many.proofs.NotesOfTwo.{each-note}
use Rattle.ncp_transcript_many.proofs.each_pair.each_note_of_each_pair.Goals as goal

pub returns-clause-acts : goal.returns-clause-acts
returns-clause-acts c = each-note ActsOnce c.the_headline.ensures.acts

pub returns-clause-errs : goal.returns-clause-errs
returns-clause-errs c = each-note MakesNoErr c.the_headline.ensures.errs

pub returns-clause-resets : goal.returns-clause-resets
returns-clause-resets c = each-note OnlyResetsAct c.only_resets_act_until_the_answer.ensures.acts

pub returns-clause-openings : goal.returns-clause-openings
returns-clause-openings c = each-note OpensUnderNoText c.none_opens_while_its_link_has_a_text.ensures
