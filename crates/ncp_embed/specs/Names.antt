-- The name of a result code at the front of a buffer of C, if it fits.
use Rattle.std.specs.Prelude.{ℕ, List, length, Option, None, Some}
use Rattle.ncp_results.specs.declared.codes.TheConstants.{DONE, NOTHING, SHORT_BUFFER}
use Rattle.ncp_results.specs.declared.names.ResultCode.{ResultCode}
use Rattle.ncp_results.specs.Names.{name_of_answer}
use Rattle.ncp_embed.specs.Exports.{over, with_room}

abbrev pub name_code : Option ResultCode → List ℕ → ℕ
name_code None out = NOTHING
name_code (Some answer) out = with_room (length (name_of_answer answer)) out SHORT_BUFFER DONE

abbrev pub name_over : Option ResultCode → List ℕ → List ℕ
name_over None out = out
name_over (Some answer) out = with_room (length (name_of_answer answer)) out out (over (name_of_answer answer) (length (name_of_answer answer)) out)

abbrev pub size_of_name : Option ResultCode → List ℕ → ℕ → ℕ
size_of_name None out bytes = bytes
size_of_name (Some answer) out bytes = with_room (length (name_of_answer answer)) out bytes (length (name_of_answer answer))
