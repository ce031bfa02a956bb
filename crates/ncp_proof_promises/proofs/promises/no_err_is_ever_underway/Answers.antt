use Rattle.ncp_transcript_two.specs.Seen.{seen}
use Rattle.ncp_transcript_two.proofs.Headlines.{watched-all}
use Rattle.ncp_proof_promises.proofs.NoErrs.{no-errs}
use Rattle.ncp_proof_promises.proofs.promises.no_err_is_ever_underway.Goals as goal

pub returns : goal.returns
returns c notes w t = let k = watched-all notes w t in no-errs k.0 (seen w) k.1
