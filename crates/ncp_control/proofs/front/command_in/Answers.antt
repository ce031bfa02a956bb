use Rattle.std.proofs.Common.{◌≡◌, ◌*◌, ◌≤◌, length, drop, take, ◌∙◌, ap, arith}
use Rattle.std.proofs.lemmas.List.{take-append-le, length-drop}
use Rattle.ncp_numbers.specs.Bytes.{bytes_of}
use Rattle.ncp_control.specs.Reading.{byte_at, command_with}
use Rattle.ncp_control.proofs.Text.{length_whole}
use Rattle.ncp_wire.specs.declared.command.Command.TheVariants.{Err}
use Rattle.ncp_control.proofs.front.command_in.Goals as goal

pub returns-in-11 : goal.returns-in-11
unfolding command_with
returns-in-11 c =
    let bytes = bytes_of c.args.text.now in
    let l : 8 * length bytes ≡ length c.args.text.now = length_whole c.args.text.now c.requires.whole in
    let long : 96 ≤ length c.args.text.now = rw c.in-11.is at c.requires.long in
    let ten : c.data_in.result ≡ take 10 (drop 2 bytes) = c.data_in.ensures ∙ take-append-le 10 (drop 2 bytes) _ (simp length-drop (omega arith)) in
    rw c.in-11.is (ap (λ code. Err code c.data_in.result) c.byte_in-in-11.ensures ∙ ap (λ bytes'. Err (byte_at bytes 1) bytes') ten)
