-- The invariant of a host's queue of commands for a peer.
use Rattle.std.specs.Prelude.{◌≡◌, ◌≤◌, ◌+◌, ℕ, false, List, length, Bool, true, nat_le, drop}
use Rattle.std.specs.List.{count_by}
use Rattle.ncp_wire.specs.declared.command.Command.{Command}
use Rattle.ncp_model.specs.declared.limits.TheConstants.{MAX_WAITING}
use Rattle.ncp_model.specs.Phase.{Phase, up, is_rst, is_rrp}
use Rattle.ncp_wire.specs.declared.command.Command.TheVariants as commands
use Rattle.ncp_model.specs.Sending.{next_commands}

abbrev pub rsts : List Command → ℕ
rsts cs = count_by is_rst cs

abbrev pub rrps : List Command → ℕ
rrps cs = count_by is_rrp cs

-- at most 512 commands are queued, at most one RST and one RRP among them, and nothing else while not up
pub record QueueFits (p : Phase) : Type 0 where
  pub place : length p.waiting ≤ MAX_WAITING
  pub rst : rsts p.waiting ≤ 1
  pub rrp : rrps p.waiting ≤ 1
  pub few : up p ≡ false → length p.waiting ≤ rsts p.waiting + rrps p.waiting

-- an ERR has at most ten bytes of data; other commands have no data
abbrev pub has_short_data : Command → Bool
has_short_data (commands.Err code bytes) = nat_le (length bytes) 10
has_short_data c = true

abbrev pub IsShort : Command → Type 0
IsShort c = has_short_data c ≡ true

-- the phase without the commands of the next control message
abbrev pub next_commands_leave : Phase → Phase
next_commands_leave p = record p { waiting = drop (length (next_commands p.waiting)) p.waiting }
