-- The lines of a script (this profile).
use Rattle.std.specs.Prelude.{ℕ, ◌-◌, ◌==◌, ◌&&◌, nat_lt, Bool, true, List, [], ◌∷◌, length, take, slice_index, if◌then◌else◌}
use Rattle.ncp_play_script.specs.declared.line_buffer.TheConstants.{MAX_LINE, LF, CR, REMARK}
use Rattle.ncp_play_script.specs.declared.line_buffer.LineKind.{LineKind}
use Rattle.ncp_play_script.specs.declared.line_buffer.LineKind.TheVariants.{Skipped, TooLong, Played}

-- the byte that ends a line
abbrev pub is_lf : ℕ → Bool
is_lf byte = byte == LF

abbrev pub ends_in_cr : List ℕ → Bool
ends_in_cr bytes = nat_lt 0 (length bytes) && (slice_index bytes (length bytes - 1) == CR)

-- one CR at the end is dropped
abbrev pub without_cr : List ℕ → List ℕ
without_cr bytes = if ends_in_cr bytes then take (length bytes - 1) bytes else bytes

-- the text of a line: one CR before its LF is dropped; a last line without LF keeps it
abbrev pub text_of_line : Bool → List ℕ → List ℕ
text_of_line ended bytes = if ended then without_cr bytes else bytes

-- an empty line, or a remark
abbrev pub is_skipped : List ℕ → Bool
is_skipped [] = true
is_skipped (byte ∷ bytes) = byte == REMARK

-- the kind of a line with this text; a remark is skipped regardless of its length
abbrev pub line_kind : List ℕ → LineKind
line_kind text = if is_skipped text then Skipped else if nat_lt MAX_LINE (length text) then TooLong else Played
