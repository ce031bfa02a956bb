-- Identifying a connection for C: the peer, and the sockets here and there.
use Rattle.std.specs.Prelude.{ℕ}
use Rattle.ncp_model.specs.declared.pair.Pair.{Pair}
use Rattle.ncp_host.specs.Calls.{sockets}
use Rattle.ncp_embed.specs.declared.which.ConnectionId.{ConnectionId}

abbrev pub pair_meant : ConnectionId → Pair
pair_meant which = sockets which.local which.remote

-- a call or a lookup on it
abbrev pub of_which : {A : Type 0} → (ℕ → Pair → A) → ConnectionId → A
of_which told which = told which.peer (pair_meant which)

-- the connection with the same peer between two sockets
abbrev pub which_between : ConnectionId → Pair → ConnectionId
which_between which pair = record which { local = pair.local; remote = pair.remote }
