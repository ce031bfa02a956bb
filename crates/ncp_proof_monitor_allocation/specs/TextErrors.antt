-- An ERR about a text, identified by its code and its first byte: a command's first byte is its number,
-- from 1 to 8 for the commands that an ERR with this code may be about; a text's is that of a leader,
-- with zeros for its type.
use Rattle.std.specs.Prelude.{◌==◌, not, ◌&&◌, Bool, false}
use Rattle.ncp_wire.specs.declared.command.Command.{Command}
use Rattle.ncp_wire.specs.declared.command.Command.TheVariants.{Err}
use Rattle.ncp_monitor.specs.Texts.{shows_command}

abbrev pub is_text_error : Command → Bool
is_text_error (Err code bytes) = code == 5 && not (shows_command bytes)
is_text_error c = false
