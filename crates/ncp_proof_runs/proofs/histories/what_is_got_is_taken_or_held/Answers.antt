use Rattle.ncp_proof_runs.proofs.Taken.{books-agree, sound-there}
use Rattle.ncp_proof_runs.proofs.histories.what_is_got_is_taken_or_held.Goals as goal

pub returns-clause-held : goal.returns-clause-held
returns-clause-held c me ns all n s pair e from there r is = (books-agree me ns all n s pair e from there r is).held

pub returns-clause-amounts : goal.returns-clause-amounts
returns-clause-amounts c me ns all n s pair e from there r is = (books-agree me ns all n s pair e from there r is).counted

pub returns-clause-unopened_messages : goal.returns-clause-unopened_messages
returns-clause-unopened_messages c me ns all n s pair e from there is not_open = (sound-there me ns all n s pair e from there is).messages not_open

pub returns-clause-unopened_bits : goal.returns-clause-unopened_bits
returns-clause-unopened_bits c me ns all n s pair e from there is not_open = (sound-there me ns all n s pair e from there is).bits not_open

pub returns-clause-unopened_interrupts : goal.returns-clause-unopened_interrupts
returns-clause-unopened_interrupts c me ns all n s pair e from there is not_open = (sound-there me ns all n s pair e from there is).interrupts not_open

pub returns-clause-unopened_stored : goal.returns-clause-unopened_stored
returns-clause-unopened_stored c me ns all n s pair e from there is not_open = (sound-there me ns all n s pair e from there is).stored not_open
