-- What is met in the bits of a text.
use Rattle.std.proofs.Common.{◌≡◌, ◌+◌, ◌*◌, ◌%◌, ◌≤◌, Bool, List, [], ◌∷◌, length, drop, Some, Ok, sym, ap, ◌∙◌, arith, length-append}
use Rattle.std.proofs.lemmas.List.{nil_from_length}
use Rattle.ncp_numbers.specs.Bytes.{bytes_of}
use Rattle.ncp_wire.specs.Spelling.{spelling}
use Rattle.ncp_control.specs.Reading.{command_at, items_in}
use Rattle.ncp_wire.specs.declared.command.Command.{Command}
use Rattle.ncp_control.proofs.Begins.{Begins}
use Rattle.ncp_control.proofs.Text.{length-bytes_of, length_whole, bytes_are_small, bytes_of-drop}
use Rattle.ncp_control.proofs.Reading.{items_nil, items_next, read_at}

pub none_met : (bits : List Bool) → length bits ≡ 0 → items_in (bytes_of bits) ≡ []
none_met bits h = ap items_in (nil_from_length (bytes_of bits) (let l = length-bytes_of bits in omega arith)) ∙ items_nil

-- behind a command that was read stands the rest of the text
behind : (bits : List Bool) (command : Command) → length bits % 8 ≡ 0 → command_at (bytes_of bits) ≡ Some command → 8 * length (spelling command) ≤ length bits
behind bits command whole e =
    let begins : Begins command (length (spelling command)) (bytes_of bits) = read_at (bytes_of bits) command (bytes_are_small bits) e in
    let rest = drop (length (spelling command)) (bytes_of bits) in
    let l : length (bytes_of bits) ≡ length (spelling command) + length rest = ap length begins.front ∙ length-append (spelling command) rest in
    let all : 8 * length (bytes_of bits) ≡ length bits = length_whole bits whole in
    omega arith

pub command_met : (bits rest : List Bool) (command : Command) → length bits % 8 ≡ 0 → command_at (bytes_of bits) ≡ Some command → rest ≡ drop (8 * length (spelling command)) bits
    → items_in (bytes_of bits) ≡ Ok command ∷ items_in (bytes_of rest)
command_met bits rest command whole e is_rest =
    items_next (bytes_of bits) command e
    ∙ ap (λ bytes. Ok command ∷ items_in bytes) (sym (bytes_of-drop bits (length (spelling command)) whole (behind bits command whole e)) ∙ ap bytes_of (sym is_rest))
