-- Connections with which the laws state results: each given by its particular fields.
use Rattle.std.specs.Prelude.{ℕ, [], None}
use Rattle.ncp_follow.specs.declared.amount.SaturatingAmount.{SaturatingAmount}
use Rattle.ncp_follow.specs.declared.connection.Connection.{Connection}
use Rattle.ncp_follow.specs.declared.connection.EndReason.TheVariants.{Open}
use Rattle.ncp_follow.specs.declared.tables.Tables.{Tables}
use Rattle.ncp_follow.specs.Amounts.{nothing}
use Rattle.ncp_follow.specs.Connections.{index_numbered, silent_at}
use Rattle.ncp_follow.specs.Examples.{spoken}

abbrev pub amount_of : ℕ → ℕ → SaturatingAmount
amount_of messages bits = record { messages = messages; bits = bits }

-- a connection of host 1 with host 2: its number, its two sockets, and the record that opened it; on link
-- 2, in bytes of eight bits, without texts and allocation
abbrev pub unsaid : ℕ → ℕ → ℕ → ℕ → Connection
unsaid number local remote opened = record {
  number = number;
  at = 1;
  peer = 2;
  local = local;
  remote = remote;
  link = 2;
  size = 8;
  opened = opened;
  ended = None;
  end = Open;
  said = nothing;
  late = 0;
  granted = nothing;
  returned = nothing;
  text = [];
}

-- with the text of the first connection emptied
abbrev pub forgotten : Tables
forgotten = record spoken { told = silent_at spoken.told (index_numbered 1) }
