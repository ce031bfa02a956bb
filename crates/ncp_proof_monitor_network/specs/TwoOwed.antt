-- Two owed replies.
use Rattle.std.specs.Prelude.{List, [], ◌∷◌}
use Rattle.ncp_proof_monitor_network.specs.Owing.{Owing, Echoes, Returning}

-- the RETs of two connections, for links 6 and 5
abbrev pub two_returns : List Owing
two_returns = Returning (2, 5) 6 1 8 ∷ Returning (4, 5) 5 1 8 ∷ []

-- an ERP, and then the RET for link 5
abbrev pub echo_and_return : List Owing
echo_and_return = Echoes 7 ∷ Returning (4, 5) 5 1 8 ∷ []
