-- The calls of the user of each side, over all connections of a pair.
use Rattle.std.specs.Prelude.{◌≡◌, List, [], ◌∷◌, ◌++◌}
use Rattle.ncp_model.specs.EndpointEvents.{EndpointEvent, Outcome}
use Rattle.ncp_proof_connection.specs.Connections.{Connection}
use Rattle.ncp_pipe.specs.Pipe.{Step}
use Rattle.ncp_pipe.specs.Sides.{those, is_sender_step, is_receiver_step}
use Rattle.ncp_proof_pipe.specs.Views.{sender_step, receiver_step}

abbrev pub steps_of_sender : List Step → List Step
steps_of_sender steps = those is_sender_step steps

abbrev pub steps_of_receiver : List Step → List Step
steps_of_receiver steps = those is_receiver_step steps

-- the users' steps in the calls of a history
abbrev pub sender_steps : List (EndpointEvent × Outcome) → List Step
sender_steps [] = []
sender_steps (l ∷ ls) = sender_step l.0 l.1 ++ sender_steps ls

abbrev pub receiver_steps : List (EndpointEvent × Outcome) → List Step
receiver_steps [] = []
receiver_steps (l ∷ ls) = receiver_step l.0 l.1 ++ receiver_steps ls

abbrev pub CallsGrow : Connection → Connection → List Step → Type 0
CallsGrow w v users =
    (sender_steps v.sender.past.calls ≡ sender_steps w.sender.past.calls ++ steps_of_sender users) × (receiver_steps v.receiver.past.calls ≡ receiver_steps w.receiver.past.calls ++ steps_of_receiver users)
