use Rattle.std.proofs.Common.{◌+◌, Ok, Err, slice_range, sym, ap, ◌∙◌}
use Rattle.ncp_numbers.specs.Bytes.{bytes_for}
use Rattle.ncp_play_files.proofs.Files.{record_told, printed_fault}
use Rattle.ncp_play_files.proofs.file.message_of.Goals as goal

pub returns-in-Ok-clause-output : goal.returns-in-Ok-clause-output
returns-in-Ok-clause-output c = λ bytes left a.
    let piece = c.message_bytes.ensures ∙ ap (λ w. slice_range w 2 (2 + bytes_for c.args.len)) c.unread.ensures.bytes in
    record_told c.args.window.now c.message_bytes.result.now bytes left c.args.len (Ok c.in-Ok.message) c.requires a piece (sym c.in-Ok.is ∙ c.from_bytes.ensures.read)

pub returns-in-Err-clause-output : goal.returns-in-Err-clause-output
returns-in-Err-clause-output c = λ bytes left a.
    let piece = c.message_bytes.ensures ∙ ap (λ w. slice_range w 2 (2 + bytes_for c.args.len)) c.unread.ensures.bytes in
    rw c.fault_of.ensures (printed_fault bytes c.in-Err.fault (record_told c.args.window.now c.message_bytes.result.now bytes left c.args.len (Err c.in-Err.fault) c.requires a piece (sym c.in-Err.is ∙ c.from_bytes.ensures.read)))
