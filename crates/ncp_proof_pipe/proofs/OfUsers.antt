-- What users did tells what was given and taken.
use Rattle.std.proofs.Common.{◌≡◌, Bool, List, [], ◌∷◌, refl}
use Rattle.ncp_pipe.specs.Pipe.{Step}
use Rattle.ncp_pipe.specs.Pipe as pipes
use Rattle.ncp_pipe.specs.Accounts.{user_steps, more_given, more_taken, given_after, taken_after, texts_given, texts_taken}

given-by-users : (steps : List Step) (gs : List (List Bool)) → given_after steps gs ≡ given_after (user_steps steps) gs
given-by-users [] gs = refl
given-by-users (pipes.Asks_to_send ∷ steps) gs = given-by-users steps ([] ∷ gs)
given-by-users (pipes.Gives text ∷ steps) gs = given-by-users steps (more_given (pipes.Gives text) gs)
given-by-users (pipes.Closes_sender ∷ steps) gs = given-by-users steps gs
given-by-users (pipes.Asks_to_receive ∷ steps) gs = given-by-users steps gs
given-by-users (pipes.Takes text ∷ steps) gs = given-by-users steps gs
given-by-users (pipes.Allows bits ∷ steps) gs = given-by-users steps gs
given-by-users (pipes.Calls_back ∷ steps) gs = given-by-users steps gs
given-by-users (pipes.Closes_receiver ∷ steps) gs = given-by-users steps gs
given-by-users (s ∷ steps) gs = given-by-users steps gs

taken-by-users : (steps : List Step) (ts : List (List Bool)) → taken_after steps ts ≡ taken_after (user_steps steps) ts
taken-by-users [] ts = refl
taken-by-users (pipes.Asks_to_send ∷ steps) ts = taken-by-users steps ts
taken-by-users (pipes.Gives text ∷ steps) ts = taken-by-users steps ts
taken-by-users (pipes.Closes_sender ∷ steps) ts = taken-by-users steps ts
taken-by-users (pipes.Asks_to_receive ∷ steps) ts = taken-by-users steps ([] ∷ ts)
taken-by-users (pipes.Takes text ∷ steps) ts = taken-by-users steps (more_taken (pipes.Takes text) ts)
taken-by-users (pipes.Allows bits ∷ steps) ts = taken-by-users steps ts
taken-by-users (pipes.Calls_back ∷ steps) ts = taken-by-users steps ts
taken-by-users (pipes.Closes_receiver ∷ steps) ts = taken-by-users steps ts
taken-by-users (s ∷ steps) ts = taken-by-users steps ts

pub given-by-user-steps : (steps : List Step) → texts_given steps ≡ texts_given (user_steps steps)
given-by-user-steps steps = given-by-users steps ([] ∷ [])

pub taken-by-user-steps : (steps : List Step) → texts_taken steps ≡ texts_taken (user_steps steps)
taken-by-user-steps steps = taken-by-users steps ([] ∷ [])
