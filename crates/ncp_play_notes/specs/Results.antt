-- The result of a call: the words of its line after the call's name (this profile).
use Rattle.std.specs.Prelude.{ℕ, Bool, not, ◌||◌, List, [], ◌++◌, length, Option, Some, None, codes, if◌then◌else◌}
use Rattle.std.specs.Int.{from_bool}
use Rattle.std.specs.List.{flat_map}
use Rattle.ncp_wire.specs.declared.command.Command.TheVariants.{Err as Error_of}
use Rattle.std.specs.declared.result.Result.TheVariants.{Ok}
use Rattle.ncp_model.specs.declared.call_fault.CallFault.{CallFault}
use Rattle.ncp_model.specs.declared.outcomes.Error.{Error}
use Rattle.ncp_model.specs.Faults.{name_of_call_fault}
use Rattle.ncp_conn.specs.declared.record.Role.{Role}
use Rattle.ncp_conn.specs.declared.record.Role.TheVariants.{Send, Receive}
use Rattle.ncp_conn.specs.declared.record.Record.{Record}
use Rattle.ncp_peer.specs.declared.counts.Counts.{Counts}
use Rattle.ncp_host.specs.declared.ignored.Ignored.{Ignored}
use Rattle.ncp_phase.specs.declared.flags.Flags.{Flags}
use Rattle.ncp_transcript.specs.declared.note.HostNote.{HostNote}
use Rattle.ncp_transcript.specs.declared.note.HostNote.TheVariants as notes
use Rattle.ncp_play_buffer.specs.Lines.{field}
use Rattle.ncp_play_files.specs.Lines.{text_word, item_line}
use Rattle.ncp_play_files.specs.Checked.{capped}

abbrev pub refused_words : CallFault → List ℕ
refused_words fault = codes " refused " ++ name_of_call_fault fault

-- a taken text, in the form of a text's line
abbrev pub took_words : List Bool → List ℕ
took_words text = field (codes " ok bits=") (length text) ++ text_word text

-- ---- the state of a connection

abbrev pub end_name : Role → List ℕ
end_name Send = codes "send"
end_name Receive = codes "receive"

-- 1 if it is set, else 0
abbrev pub flag : List ℕ → Bool → List ℕ
flag name set = field name (from_bool set)

-- a number, or `-` if it is not known yet
abbrev pub field_known : List ℕ → Bool → ℕ → List ℕ
field_known name known number = if known then field name number else name ++ codes "-"

-- the receiver chooses the link: the receiver knows it once it asked, the sender once it heard the
-- request
abbrev pub is_link_known : Role → Record → Bool
is_link_known Receive r = r.asked
is_link_known Send r = r.heard

-- the sender chooses the byte size
abbrev pub is_size_known : Role → Record → Bool
is_size_known Send r = r.asked
is_size_known Receive r = r.heard

abbrev pub mark_words : Record → List ℕ
mark_words r =
    flag (codes " asked=") r.asked ++ flag (codes " heard=") r.heard ++ flag (codes " opened=") r.opened ++ flag (codes " leaving=") r.leaving
    ++ flag (codes " left=") r.left ++ flag (codes " cls=") r.cls

abbrev pub number_words : Record → List ℕ
number_words r =
    field_known (codes " link=") (is_link_known r.end r) r.link ++ field_known (codes " size=") (is_size_known r.end r) r.size
    ++ field (codes " messages=") r.messages ++ field (codes " bits=") r.bits ++ field (codes " stored=") r.stored
    ++ field (codes " interrupts=") r.interrupts

abbrev pub state_words : Record → List ℕ
state_words r = codes " ok end=" ++ end_name r.end ++ mark_words r ++ number_words r

-- ---- the state of a peer

-- a word if a flag is set
abbrev pub word_if : Bool → List ℕ → List ℕ
word_if set word = if set then word else []

abbrev pub set_flags : Flags → List ℕ
set_flags flags =
    word_if flags.down (codes " down") ++ word_if flags.want (codes " want") ++ word_if flags.owe (codes " owe") ++ word_if flags.wait (codes " wait")

-- the flags that are set, or `up` if none is
abbrev pub flag_words : Flags → List ℕ
flag_words flags = if not (flags.down || flags.want || flags.owe || flags.wait) then codes " up" else set_flags flags

abbrev pub phase_words : Flags → List ℕ
phase_words flags = codes " ok" ++ flag_words flags

-- the byte of the last echo reply, if there was one
abbrev pub echoed_words : Option ℕ → List ℕ
echoed_words None = codes " ok none"
echoed_words (Some byte) = field (codes " ok ") byte

-- the number of ERRs, saturating
abbrev pub errors_words : List Error → List ℕ
errors_words errors = field (codes " ok ") (capped (length errors))

-- a line for each ERR, in the form of a command's detail line
abbrev pub error_line : Error → List ℕ
error_line error = item_line (Ok (Error_of error.code error.bytes))

abbrev pub error_lines : List Error → List ℕ
error_lines errors = flat_map error_line errors

-- ---- counts

abbrev pub counts_words : Counts → List ℕ
counts_words counts =
    field (codes " ok stray=") counts.stray ++ field (codes " faults=") counts.faults ++ field (codes " wrong-link=") counts.wrong_link
    ++ field (codes " wrong-size=") counts.wrong_size ++ field (codes " not-up=") counts.not_up ++ field (codes " late=") counts.late
    ++ field (codes " over=") counts.over

abbrev pub ignored_words : Ignored → List ℕ
ignored_words ignored =
    field (codes " ok short=") ignored.short ++ field (codes " other=") ignored.other ++ field (codes " unknown=") ignored.unknown

-- ---- the result of a note's call

abbrev pub result_words : HostNote → List ℕ
result_words (notes.Refused call fault) = refused_words fault
result_words (notes.Done call) = codes " ok"
result_words (notes.Took peer pair bytes text) = took_words text
result_words (notes.State peer pair r) = state_words r
result_words (notes.Phase peer flags) = phase_words flags
result_words (notes.Echoed peer byte) = echoed_words byte
result_words (notes.Errors peer errors) = errors_words errors
result_words (notes.Counts peer counts) = counts_words counts
result_words (notes.Ignored ignored) = ignored_words ignored
result_words other = []
