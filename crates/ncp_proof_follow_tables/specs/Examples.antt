-- The reports about the connections of two hosts, examples for the law.
use Rattle.std.specs.Prelude.{ℕ}
use Rattle.ncp_model.specs.declared.pair.Pair.{Pair}

-- the local socket and the remote one
abbrev pub of_sockets : ℕ → ℕ → Pair
of_sockets local remote = record { local = local; remote = remote }
