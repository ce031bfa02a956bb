-- How often a side of a pipe stops though its own user did not close it, and why: each cut is explained by a clearing of
-- its host, and each leave by a CLS.
use Rattle.std.specs.Prelude.{◌≤◌, ℕ, ◌+◌, Bool, true, false, ◌||◌, if◌then◌else◌, List, [], ◌∷◌}
use Rattle.ncp_model.specs.declared.pair.Pair.{Pair}
use Rattle.ncp_model.specs.EndpointEvents.{EndpointEvent}
use Rattle.ncp_transcript.specs.declared.note.HostNote.{HostNote}
use Rattle.ncp_proof_runs.specs.Acts.{Acted}
use Rattle.ncp_pipe.specs.Pipe.{Step}
use Rattle.ncp_pipe.specs.Sides.{how_many, is_sender_cut, is_sender_leave, is_receiver_cut, is_receiver_leave}
use Rattle.ncp_proof_pipe.specs.Clearings.{clearings, closes_read}

-- by the steps of a run, and the notes of the side's host for the peer; the pair as it is named there

abbrev pub AreSenderStops : Pair → List Step → List HostNote → Type 0
AreSenderStops pair steps told = (how_many is_sender_cut steps ≤ clearings told) × (how_many is_sender_leave steps ≤ closes_read pair told)

abbrev pub AreReceiverStops : Pair → List Step → List HostNote → Type 0
AreReceiverStops pair steps told = (how_many is_receiver_cut steps ≤ clearings told) × (how_many is_receiver_leave steps ≤ closes_read pair told)

-- The same among all that happened at an endpoint. Of clearings only those count before which something may have made the
-- endpoint.

abbrev pub is_clearing : EndpointEvent → Bool
is_clearing EndpointEvent.Is_cleared = true
is_clearing what = false

abbrev pub may_make : EndpointEvent → Bool
may_make EndpointEvent.Text_goes_out = false
may_make what = true

abbrev pub cuts_in : Bool → List Acted → ℕ
cuts_in there [] = 0
cuts_in there (act ∷ acts) = if is_clearing act.what then (if there then 1 else 0) + cuts_in false acts else cuts_in (there || may_make act.what) acts

abbrev pub is_close_by_peer : EndpointEvent → Bool
is_close_by_peer EndpointEvent.Cls_comes = true
is_close_by_peer what = false

abbrev pub times : (EndpointEvent → Bool) → List Acted → ℕ
times which [] = 0
times which (act ∷ acts) = (if which act.what then 1 else 0) + times which acts
