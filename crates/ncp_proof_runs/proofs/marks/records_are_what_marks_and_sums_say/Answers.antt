use Rattle.ncp_proof_runs.proofs.Recorded.{end-there, stored-there, open-there, record-there, record-noted, none-noted}
use Rattle.ncp_proof_runs.proofs.marks.records_are_what_marks_and_sums_say.Goals as goal

pub returns-clause-end : goal.returns-clause-end
returns-clause-end c = end-there

pub returns-clause-record : goal.returns-clause-record
returns-clause-record c = record-there

pub returns-clause-stored : goal.returns-clause-stored
returns-clause-stored c me ns all n s pair e from there is = (stored-there me ns all n s pair e from there is).kept

pub returns-clause-open : goal.returns-clause-open
returns-clause-open c me ns all n s pair e from there is = (open-there me ns all n s pair e from there is).0

pub returns-clause-live : goal.returns-clause-live
returns-clause-live c me ns all n s pair e from there is = (open-there me ns all n s pair e from there is).1

pub returns-clause-amounts : goal.returns-clause-amounts
returns-clause-amounts c me ns all n s pair e from there is = (stored-there me ns all n s pair e from there is).amounts

pub returns-clause-noted : goal.returns-clause-noted
returns-clause-noted c r me ns before after n pair from = record-noted me ns before after n pair r from

pub returns-clause-none_noted : goal.returns-clause-none_noted
returns-clause-none_noted c = none-noted
