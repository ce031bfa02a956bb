use Rattle.std.proofs.Common.{◌≢◌, List, subst}
use Rattle.ncp_transcript.specs.declared.note.HostNote.{HostNote}
use Rattle.ncp_transcript.specs.Runs.{IsHostTranscript}
use Rattle.ncp_proof_statement.specs.Notes.{notes_of_two}
use Rattle.ncp_proof_statement.specs.HonestRuns.{IsHonestRunAmong}
use Rattle.ncp_proof_statement.proofs.Between.{differ}
use Rattle.ncp_proof_statement.proofs.Many.{own-a, own-b}
use Rattle.ncp_proof_statement.proofs.among.headline_of_two_of_many.Goals as goal

pub returns : goal.returns
returns c x y ns t =
    let apart : x.me ≢ y.me = differ x y t.run_x.peers t.x_has_y in
    let two : IsHonestRunAmong x y (notes_of_two x.me y.me ns) = record {
      run_x = subst (λ (xs : List HostNote). IsHostTranscript xs x) (own-a x.me y.me ns) t.run_x;
      run_y = subst (λ (xs : List HostNote). IsHostTranscript xs y) (own-b x.me y.me apart ns) t.run_y;
      x_has_y = t.x_has_y;
      y_has_x = t.y_has_x;
      calls = t.calls;
      honest = t.honest;
    } in
    c.headline_of_two_among_others.ensures x y (notes_of_two x.me y.me ns) two
