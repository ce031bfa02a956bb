use Rattle.std.proofs.Common.{◌+◌, ◌≤◌, List}
use Rattle.ncp_proof_machine.specs.Hosts.{TwoNodes}
use Rattle.ncp_transcript_two.specs.Tie.{Refines}
use Rattle.ncp_transcript_two.specs.Seen.{histories}
use Rattle.ncp_transcript_two.specs.Watch.{no_histories}
use Rattle.ncp_transcript_many.proofs.EachPair.{for-two}
use Rattle.ncp_proof_progress.specs.HostsWork.{work}
use Rattle.ncp_proof_quiescence.specs.NotesWork.{notes_move, notes_allow}
use Rattle.ncp_proof_quiescence.specs.Resting.{LeftWaits}
use Rattle.ncp_proof_quiescence.specs.Settled.{IsSettled, AreFinished}
use Rattle.ncp_proof_recovery.proofs.many.what_moves_between_two_of_many_is_bounded.Goals as goal

pub returns-clause-work : goal.returns-clause-work
returns-clause-work c = for-two (λ ns h v. (x : TwoNodes) × Refines x v × (notes_move ns + work x ≤ notes_allow ns h)) c.moves_are_bounded.ensures.work

pub returns-clause-waits : goal.returns-clause-waits
returns-clause-waits c = for-two (λ ns h v. LeftWaits v.this × LeftWaits v.that) c.what_is_left_waits_for_something.ensures

pub returns-clause-finished : goal.returns-clause-finished
returns-clause-finished c = for-two (λ ns h v. IsSettled v → AreFinished v (histories ns h no_histories)) c.where_nothing_can_happen_two_are_finished.ensures.finished
