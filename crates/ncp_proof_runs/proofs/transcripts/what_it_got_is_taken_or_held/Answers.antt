use Rattle.std.proofs.Common.{Some}
use Rattle.ncp_host.specs.Host.{numbers_of}
use Rattle.ncp_proof_runs.proofs.Taken.{books-agree}
use Rattle.ncp_proof_runs.proofs.Begun.{is_run, is_kept}
use Rattle.ncp_proof_runs.proofs.transcripts.what_it_got_is_taken_or_held.Goals as goal

pub returns : goal.returns
returns g c n s pair e there r is =
    let all = c.args.alone.now.notes in
    let h = c.args.alone.now.host in
    (books-agree h.me (numbers_of h.peers) all n s pair e (is_run all h c.transcript-notes.ensures.run) (is_kept all h n (Some s) c.transcript-notes.ensures.run there) r is).held
