-- The steps of the user of each side tell what was given, and what was taken.
use Rattle.std.proofs.Common.{◌≡◌, Bool, List, [], ◌∷◌, refl, ap, ◌∙◌, subst}
use Rattle.ncp_pipe.specs.Pipe.{Step}
use Rattle.ncp_pipe.specs.Pipe as pipes
use Rattle.ncp_pipe.specs.Accounts.{ArePrefixes, user_steps, more_given, more_taken, given_after, taken_after, texts_given, texts_taken}
use Rattle.ncp_proof_pipe.specs.Calls.{steps_of_sender, steps_of_receiver}

pub sender-of-users : (steps : List Step) → steps_of_sender (user_steps steps) ≡ steps_of_sender steps
sender-of-users [] = refl
sender-of-users (pipes.Asks_to_send ∷ steps) = ap (λ (l : List Step). pipes.Asks_to_send ∷ l) (sender-of-users steps)
sender-of-users (pipes.Gives text ∷ steps) = ap (λ (l : List Step). pipes.Gives text ∷ l) (sender-of-users steps)
sender-of-users (pipes.Closes_sender ∷ steps) = ap (λ (l : List Step). pipes.Closes_sender ∷ l) (sender-of-users steps)
sender-of-users (s ∷ steps) = sender-of-users steps

pub receiver-of-users : (steps : List Step) → steps_of_receiver (user_steps steps) ≡ steps_of_receiver steps
receiver-of-users [] = refl
receiver-of-users (pipes.Asks_to_receive ∷ steps) = ap (λ (l : List Step). pipes.Asks_to_receive ∷ l) (receiver-of-users steps)
receiver-of-users (pipes.Takes text ∷ steps) = ap (λ (l : List Step). pipes.Takes text ∷ l) (receiver-of-users steps)
receiver-of-users (pipes.Allows bits ∷ steps) = ap (λ (l : List Step). pipes.Allows bits ∷ l) (receiver-of-users steps)
receiver-of-users (pipes.Calls_back ∷ steps) = ap (λ (l : List Step). pipes.Calls_back ∷ l) (receiver-of-users steps)
receiver-of-users (pipes.Closes_receiver ∷ steps) = ap (λ (l : List Step). pipes.Closes_receiver ∷ l) (receiver-of-users steps)
receiver-of-users (s ∷ steps) = receiver-of-users steps

given-from-sender : (steps : List Step) (gs : List (List Bool)) → given_after steps gs ≡ given_after (steps_of_sender steps) gs
given-from-sender [] gs = refl
given-from-sender (pipes.Asks_to_send ∷ steps) gs = given-from-sender steps ([] ∷ gs)
given-from-sender (pipes.Gives text ∷ steps) gs = given-from-sender steps (more_given (pipes.Gives text) gs)
given-from-sender (pipes.Closes_sender ∷ steps) gs = given-from-sender steps gs
given-from-sender (s ∷ steps) gs = given-from-sender steps gs

taken-from-receiver : (steps : List Step) (ts : List (List Bool)) → taken_after steps ts ≡ taken_after (steps_of_receiver steps) ts
taken-from-receiver [] ts = refl
taken-from-receiver (pipes.Asks_to_receive ∷ steps) ts = taken-from-receiver steps ([] ∷ ts)
taken-from-receiver (pipes.Takes text ∷ steps) ts = taken-from-receiver steps (more_taken (pipes.Takes text) ts)
taken-from-receiver (pipes.Allows bits ∷ steps) ts = taken-from-receiver steps ts
taken-from-receiver (pipes.Calls_back ∷ steps) ts = taken-from-receiver steps ts
taken-from-receiver (pipes.Closes_receiver ∷ steps) ts = taken-from-receiver steps ts
taken-from-receiver (s ∷ steps) ts = taken-from-receiver steps ts

pub given-by-sender : (steps : List Step) → texts_given steps ≡ texts_given (steps_of_sender steps)
given-by-sender steps = given-from-sender steps ([] ∷ [])

pub taken-by-receiver : (steps : List Step) → texts_taken steps ≡ texts_taken (steps_of_receiver steps)
taken-by-receiver steps = taken-from-receiver steps ([] ∷ [])

-- what holds for the steps holds for those of each side
pub prefixes-of-sides : (steps s r : List Step) → steps_of_sender steps ≡ s → steps_of_receiver steps ≡ r → ArePrefixes (texts_taken steps) (texts_given steps) → ArePrefixes (texts_taken r) (texts_given s)
prefixes-of-sides steps s r a b k =
    subst (λ (ts : List (List Bool)). ArePrefixes ts (texts_given s)) (taken-by-receiver steps ∙ ap texts_taken b)
    (subst (λ (gs : List (List Bool)). ArePrefixes (texts_taken steps) gs) (given-by-sender steps ∙ ap texts_given a) k)
