use Rattle.ncp_proof_machine.proofs.Seeing.{calls_agree, echoes_agree, resets_agree, falls_agree, hears_agree, messages_agree, texts_agree, cuts_agree, sends_agree, frees_agree, settles_agree, steps_agree, others_stay}
use Rattle.ncp_proof_machine.proofs.hosts.hosts_are_watched_peers.Goals as goal

pub returns-clause-calls : goal.returns-clause-calls
returns-clause-calls c = calls_agree

pub returns-clause-echoes : goal.returns-clause-echoes
returns-clause-echoes c = echoes_agree

pub returns-clause-resets : goal.returns-clause-resets
returns-clause-resets c = resets_agree

pub returns-clause-falls : goal.returns-clause-falls
returns-clause-falls c = falls_agree

pub returns-clause-hears : goal.returns-clause-hears
returns-clause-hears c = hears_agree

pub returns-clause-messages : goal.returns-clause-messages
returns-clause-messages c = messages_agree

pub returns-clause-texts : goal.returns-clause-texts
returns-clause-texts c = texts_agree

pub returns-clause-cuts : goal.returns-clause-cuts
returns-clause-cuts c = cuts_agree

pub returns-clause-sends : goal.returns-clause-sends
returns-clause-sends c = sends_agree

pub returns-clause-frees : goal.returns-clause-frees
returns-clause-frees c = frees_agree

pub returns-clause-settles : goal.returns-clause-settles
returns-clause-settles c = settles_agree

pub returns-clause-steps : goal.returns-clause-steps
returns-clause-steps c = steps_agree

pub returns-clause-others : goal.returns-clause-others
returns-clause-others c = others_stay
