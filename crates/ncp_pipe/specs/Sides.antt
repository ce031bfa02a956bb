-- The steps of one side of a pipe by themselves: those of its user, those that the side takes itself, and which of them
-- may follow one another.
use Rattle.std.specs.Prelude.{◌≡◌, ℕ, Bool, true, false, not, ◌||◌, if◌then◌else◌, List, [], ◌∷◌, length}
use Rattle.ncp_pipe.specs.Pipe.{Stage, Closed, Asked, Open, Closing, is_on, Step, Asks_to_send, Gives, Closes_sender, Opens_sender, Sends, Leaves_sender, Ends_sender, Cuts_sender, Asks_to_receive, Takes, Allows, Calls_back, Closes_receiver, Opens_receiver, Leaves_receiver, Ends_receiver, Cuts_receiver}

abbrev pub those : (Step → Bool) → List Step → List Step
those which [] = []
those which (s ∷ steps) = if which s then s ∷ those which steps else those which steps

abbrev pub how_many : (Step → Bool) → List Step → ℕ
how_many which steps = length (those which steps)

-- accepted calls of the user of a side

abbrev pub is_sender_step : Step → Bool
is_sender_step Asks_to_send = true
is_sender_step (Gives text) = true
is_sender_step Closes_sender = true
is_sender_step step = false

abbrev pub is_receiver_step : Step → Bool
is_receiver_step Asks_to_receive = true
is_receiver_step (Takes text) = true
is_receiver_step (Allows bits) = true
is_receiver_step Calls_back = true
is_receiver_step Closes_receiver = true
is_receiver_step step = false

-- all steps at the sender's side; the others are at the receiver's
abbrev pub is_at_sender : Step → Bool
is_at_sender Asks_to_send = true
is_at_sender (Gives text) = true
is_at_sender Closes_sender = true
is_at_sender Opens_sender = true
is_at_sender (Sends bits) = true
is_at_sender Leaves_sender = true
is_at_sender Ends_sender = true
is_at_sender Cuts_sender = true
is_at_sender step = false

abbrev pub is_at_receiver : Step → Bool
is_at_receiver step = not (is_at_sender step)

-- A side stops, and its own user did not close it: it leaves, since the other side closed, or it is cut.

abbrev pub is_sender_leave : Step → Bool
is_sender_leave Leaves_sender = true
is_sender_leave step = false

abbrev pub is_sender_cut : Step → Bool
is_sender_cut Cuts_sender = true
is_sender_cut step = false

abbrev pub is_receiver_leave : Step → Bool
is_receiver_leave Leaves_receiver = true
is_receiver_leave step = false

abbrev pub is_receiver_cut : Step → Bool
is_receiver_cut Cuts_receiver = true
is_receiver_cut step = false

abbrev pub is_sender_stop : Step → Bool
is_sender_stop step = is_sender_leave step || is_sender_cut step

abbrev pub is_receiver_stop : Step → Bool
is_receiver_stop step = is_receiver_leave step || is_receiver_cut step

-- what a step other than the sending of bits does to the stage of the sender's side
abbrev pub SenderMoves : Step → Stage → Stage → Type 0
SenderMoves Asks_to_send s z = (s ≡ Closed) × (z ≡ Asked)
SenderMoves Opens_sender s z = (s ≡ Asked) × (z ≡ Open)
SenderMoves (Gives text) s z = (s ≡ Open) × (z ≡ Open)
SenderMoves Closes_sender s z = z ≡ Closing
SenderMoves Leaves_sender s z = (is_on s ≡ true) × (z ≡ Closing)
SenderMoves Ends_sender s z = (s ≡ Closing) × (z ≡ Closed)
SenderMoves Cuts_sender s z = z ≡ Closed
SenderMoves step s z = ⊥

-- the steps lead the sender's side from one stage to the other
abbrev pub IsSenderAccount : Stage → List Step → Stage → Type 0
IsSenderAccount s [] z = s ≡ z
IsSenderAccount s (step ∷ steps) z = (next : Stage) × SenderMoves step s next × IsSenderAccount next steps z

-- What a step other than a delivery or a return does to the stage of the receiver's side, and to whether what was held
-- there is dropped: then only empty texts can be taken.
abbrev pub ReceiverMoves : Step → Stage → Bool → Stage → Bool → Type 0
ReceiverMoves Asks_to_receive s dropped z now = (s ≡ Closed) × (z ≡ Asked) × (now ≡ false)
ReceiverMoves Opens_receiver s dropped z now = (s ≡ Asked) × (z ≡ Open) × (now ≡ dropped)
ReceiverMoves (Takes text) s dropped z now = (dropped ≡ true → text ≡ []) × (z ≡ s) × (now ≡ dropped)
ReceiverMoves (Allows bits) s dropped z now = (s ≡ Open) × (z ≡ s) × (now ≡ dropped)
ReceiverMoves Calls_back s dropped z now = (s ≡ Open) × (z ≡ s) × (now ≡ dropped)
ReceiverMoves Closes_receiver s dropped z now = (z ≡ Closing) × (now ≡ true)
ReceiverMoves Leaves_receiver s dropped z now = (is_on s ≡ true) × (z ≡ Closing) × (now ≡ dropped)
ReceiverMoves Ends_receiver s dropped z now = (s ≡ Closing) × (z ≡ Closed) × (now ≡ true)
ReceiverMoves Cuts_receiver s dropped z now = (z ≡ Closed) × (now ≡ true)
ReceiverMoves step s dropped z now = ⊥

abbrev pub IsReceiverAccount : Stage → Bool → List Step → Stage → Bool → Type 0
IsReceiverAccount s dropped [] z now = (s ≡ z) × (dropped ≡ now)
IsReceiverAccount s dropped (step ∷ steps) z now = (next : Stage) × (lost : Bool) × ReceiverMoves step s dropped next lost × IsReceiverAccount next lost steps z now
