use Rattle.std.proofs.Common.{◌≡◌, ◌*◌, ℕ, List, length, drop, Some, sym, ap, ◌∙◌, arith}
use Rattle.std.proofs.lemmas.List.{length-drop}
use Rattle.ncp_numbers.specs.Bytes.{bytes_of}
use Rattle.ncp_control.specs.Reading.{byte_at}
use Rattle.ncp_control.proofs.Text.{length_whole}
use Rattle.ncp_control.proofs.Fields.{byte_front_at}
use Rattle.ncp_control.proofs.Reading.{code_at, code_unknown, code_short, fault_with, fault_front}
use Rattle.ncp_control.proofs.front.fault_at.Goals.{in-Some, in-None}
use Rattle.ncp_control.proofs.front.fault_at.Goals as goal

pub returns : goal.returns
returns c =
    let bytes : List ℕ = bytes_of c.args.text.now in
    let front : List ℕ = drop c.args.offset bytes in
    let all : 8 * length bytes ≡ length c.args.text.now = length_whole c.args.text.now c.requires.whole in
    let opcode : byte_at front 0 ≡ c.byte_in.result = byte_front_at bytes c.args.offset ∙ sym c.byte_in.ensures in
    let code : code_at c.byte_in.result ≡ c.match-command_size.code = elim c.match-command_size.branch [
      | in-Some w ↦ code_short c.byte_in.result w.in-Some.field-0 (sym c.command_size.ensures.size ∙ w.in-Some.is) ∙ sym w.code-is
      | in-None w ↦ code_unknown c.byte_in.result (sym c.command_size.ensures.size ∙ w.in-None.is) ∙ sym w.code-is
    ] in
    fault_front front c.match-command_size.code (simp length-drop (omega arith)) (ap code_at opcode ∙ code)
    ∙ ap (λ shown. Some (fault_with c.match-command_size.code shown)) (sym c.data_in.ensures)
