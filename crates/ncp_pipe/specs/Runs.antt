-- Example runs of a pipe, and lists of texts that users might report.
use Rattle.std.specs.Prelude.{Bool, true, false, List, [], ◌∷◌, ◌++◌}
use Rattle.ncp_pipe.specs.Pipe.{Step, Asks_to_send, Gives, Asks_to_receive, Takes, Allows, Opens_sender, Opens_receiver, Sends, Delivers, Cuts_sender, Cuts_receiver}

-- both ask, and the connection opens
abbrev pub opening : List Step
opening = Asks_to_send ∷ Asks_to_receive ∷ Opens_sender ∷ Opens_receiver ∷ []

-- of two given bits one is sent and delivered
abbrev pub one_is_delivered : List Step
one_is_delivered = opening ++ Gives (true ∷ false ∷ []) ∷ Allows 1 ∷ Sends 1 ∷ Delivers ∷ []

-- it is taken; both sides are cut, and the connection opens again
abbrev pub again : List Step
again = one_is_delivered ++ Takes (true ∷ []) ∷ Cuts_sender ∷ Cuts_receiver ∷ opening

-- one text was given
abbrev pub once : List (List Bool)
once = (true ∷ []) ∷ []

-- it was taken, and once more on the next connection, on which nothing was given
abbrev pub taken_twice : List (List Bool)
taken_twice = (true ∷ []) ∷ (true ∷ []) ∷ []

abbrev pub given_then_none : List (List Bool)
given_then_none = [] ∷ (true ∷ []) ∷ []

-- two texts were given, the later one first
abbrev pub two_given : List (List Bool)
two_given = (false ∷ []) ∷ (true ∷ []) ∷ []

abbrev pub two_turned : List (List Bool)
two_turned = (true ∷ []) ∷ (false ∷ []) ∷ []
