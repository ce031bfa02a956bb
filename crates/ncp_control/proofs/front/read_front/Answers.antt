use Rattle.std.proofs.Common.{◌≡◌, ◌+◌, ◌-◌, ◌*◌, ◌/◌, length, drop, Some, refl, sym, ap, ◌∙◌, arith}
use Rattle.std.proofs.lemmas.List.{take_all, length-drop}
use Rattle.ncp_numbers.specs.Bytes.{bytes_of}
use Rattle.ncp_wire.specs.Spelling.{spelling}
use Rattle.ncp_control.specs.Reading.{size_of, byte_at, command_with}
use Rattle.ncp_control.proofs.Text.{length_whole, bytes_are_small}
use Rattle.ncp_control.proofs.Begins.{read_begins}
use Rattle.ncp_control.proofs.Reading.{size_over, size_there}
use Rattle.ncp_control.proofs.front.read_front.Goals as goal

pub returns-in_default-clause-command : goal.returns-in_default-clause-command
returns-in_default-clause-command c =
    let bytes = bytes_of c.args.text.now in
    let l : 8 * length bytes ≡ length c.args.text.now = length_whole c.args.text.now c.requires.whole in
    size_over bytes (c.len.result / 8) (size_of c.byte_in-opcode.result) (omega arith) (ap size_of (sym c.byte_in-opcode.ensures)) (c.in_default.ensures.none refl)

-- the command that was read
command : (c : goal.After-command_in) → c.command_in.result ≡ command_with (byte_at (bytes_of c.args.text.now) 0) (bytes_of c.args.text.now)
command c = c.command_in.ensures ∙ ap (λ opcode. command_with opcode (bytes_of c.args.text.now)) c.byte_in-opcode.ensures

size : (c : goal.After-command_in) → size_of (byte_at (bytes_of c.args.text.now) 0) ≡ Some c.in-Some.size
size c = ap size_of (sym c.byte_in-opcode.ensures) ∙ c.in-Some.ensures.size

pub returns-clause-command : goal.returns-clause-command
returns-clause-command c =
    let l : 8 * length (bytes_of c.args.text.now) ≡ length c.args.text.now = length_whole c.args.text.now c.requires.whole in
    size_there (bytes_of c.args.text.now) c.in-Some.size (omega arith) (size c) (omega (arith, c.in-Some.ensures.fits)) ∙ ap Some (sym (command c))

pub returns-clause-rest : goal.returns-clause-rest
returns-clause-rest c =
    let text = c.args.text.now in
    let at = 8 * c.in-Some.size in
    let l : 8 * length (bytes_of text) ≡ length text = length_whole text c.requires.whole in
    let begins = read_begins (bytes_of text) (bytes_are_small text) c.in-Some.size (size c) (omega (arith, c.in-Some.ensures.fits)) in
    let takes : length (spelling c.command_in.result) ≡ c.in-Some.size = ap (λ read. length (spelling read)) (command c) ∙ begins.takes in
    c.slice-rest.ensures.bits
    ∙ take_all (at + (c.len-2.result - at) - at) (drop at text) (simp length-drop (omega arith))
    ∙ ap (λ n. drop (8 * n) text) (sym takes)
