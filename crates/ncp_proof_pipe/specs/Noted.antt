-- What the users of the two sides of a pipe did, by the notes of a transcript of two hosts, as the statement of the
-- headline reads them; and what a transcript is as a pipe.
use Rattle.std.specs.Prelude.{◌≡◌, true, Bool, List, [], ◌∷◌, ◌++◌}
use Rattle.std.specs.FinMap.{get}
use Rattle.ncp_model.specs.declared.pair.Pair.{Pair}
use Rattle.ncp_model.specs.Pairs.{sends, counterpart}
use Rattle.ncp_transcript.specs.declared.note.HostNote.{HostNote}
use Rattle.ncp_proof_runs.specs.Peers.{notes_of_peer}
use Rattle.ncp_transcript_two.specs.declared.side.Side.{Side}
use Rattle.ncp_transcript_two.specs.declared.side.Side.TheVariants.{A, B}
use Rattle.ncp_transcript_two.specs.declared.note.Note.{Note}
use Rattle.ncp_transcript_two.specs.World.{World, swap}
use Rattle.ncp_transcript_two.specs.Between.{other}
use Rattle.ncp_transcript_two.specs.Sides.{notes_at}
use Rattle.ncp_statement.specs.Statement.{UserEvent, Gave, TookBits, AllowedBits, CalledBack, user_events}
use Rattle.ncp_pipe.specs.Pipe.{Step, IsRun, new_pipe}
use Rattle.ncp_pipe.specs.Pipe as pipes
use Rattle.ncp_pipe.specs.Accounts.{ArePrefixes, texts_taken, texts_given}
use Rattle.ncp_proof_pipe.specs.Views.{sender_view, receiver_view, pipe_of_views}
use Rattle.ncp_proof_pipe.specs.Calls.{steps_of_sender, steps_of_receiver}
use Rattle.ncp_proof_pipe.specs.Stops.{AreSenderStops, AreReceiverStops}

-- the step of the sender's user in what a user did, and of the receiver's

abbrev pub sender_did : UserEvent → List Step
sender_did UserEvent.Asked = pipes.Asks_to_send ∷ []
sender_did (Gave text) = pipes.Gives text ∷ []
sender_did UserEvent.Closed = pipes.Closes_sender ∷ []
sender_did u = []

abbrev pub receiver_did : UserEvent → List Step
receiver_did UserEvent.Asked = pipes.Asks_to_receive ∷ []
receiver_did (TookBits text) = pipes.Takes text ∷ []
receiver_did (AllowedBits bits) = pipes.Allows bits ∷ []
receiver_did CalledBack = pipes.Calls_back ∷ []
receiver_did UserEvent.Closed = pipes.Closes_receiver ∷ []
receiver_did u = []

abbrev pub steps_by : (UserEvent → List Step) → List UserEvent → List Step
steps_by did [] = []
steps_by did (u ∷ us) = did u ++ steps_by did us

-- the accepted calls of a side's user on a pair, as the pair is named at that side, in their order

abbrev pub sender_steps_noted : Side → Pair → List Note → List Step
sender_steps_noted side pair ns = steps_by sender_did (user_events side pair ns)

abbrev pub receiver_steps_noted : Side → Pair → List Note → List Step
receiver_steps_noted side pair ns = steps_by receiver_did (user_events side pair ns)

-- the two hosts, the one of this side first
abbrev pub from_side : Side → World → World
from_side A v = v
from_side B v = swap v

-- the notes of the host of a side that name the other host
abbrev pub told_by : World → Side → List Note → List HostNote
told_by v side ns = notes_of_peer (from_side side v).there (notes_at side ns)

-- These steps are a run of the pipe to the state of the two endpoints of the pair, and those of its users are the accepted
-- calls.
abbrev pub IsRunFor : World → Side → Pair → List Note → List Step → Type 0
IsRunFor v side pair ns steps =
    (fresh : Bool) × (out : List Bool)
    × IsRun new_pipe steps (pipe_of_views (sender_view (get (from_side side v).this.peer.ends pair)) (receiver_view (get (from_side side v).that.peer.ends (counterpart pair))) out fresh)
    × (steps_of_sender steps ≡ sender_steps_noted side pair ns) × (steps_of_receiver steps ≡ receiver_steps_noted (other side) (counterpart pair) ns)

abbrev pub IsPipe : World → Side → Pair → List Note → Type 0
IsPipe v side pair ns = (steps : List Step) × IsRunFor v side pair ns steps

-- each pair that sends, at either side
abbrev pub ArePipes : World → List Note → Type 0
ArePipes v ns = (side : Side) (pair : Pair) → sends pair ≡ true → IsPipe v side pair ns

-- And in such a run each side is cut at most as often as its host was cleared while up, and leaves at most once for each
-- CLS that its host read for it.

abbrev pub IsPipeWithReasons : World → Side → Pair → List Note → Type 0
IsPipeWithReasons v side pair ns =
    (steps : List Step) × IsRunFor v side pair ns steps
    × AreSenderStops pair steps (told_by v side ns) × AreReceiverStops (counterpart pair) steps (told_by v (other side) ns)

abbrev pub ArePipesWithReasons : World → List Note → Type 0
ArePipesWithReasons v ns = (side : Side) (pair : Pair) → sends pair ≡ true → IsPipeWithReasons v side pair ns

-- the texts taken on the successive connections of each pair are prefixes of texts given on successive ones
abbrev pub TakenOnce : List Note → Type 0
TakenOnce ns =
    (side : Side) (pair : Pair) → sends pair ≡ true → ArePrefixes (texts_taken (receiver_steps_noted (other side) (counterpart pair) ns)) (texts_given (sender_steps_noted side pair ns))
