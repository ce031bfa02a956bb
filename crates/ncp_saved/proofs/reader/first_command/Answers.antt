-- The command whose spelling the bytes begin with is the first that is read.
use Rattle.std.proofs.Common.{◌≡◌, ℕ, ◌<◌, ◌*◌, ◌++◌, ◌∷◌, [], List, All, length, map, get_or, Result, Ok, Err, option_to_list, zero, suc, sym, ap, ◌∙◌, subst, arith}
use Rattle.std.proofs.lemmas.List.{append-nil, get_or_default}
use Rattle.ncp_numbers.specs.Bytes.{bytes_of, bits_of_bytes}
use Rattle.ncp_numbers.proofs.Bytes.{length-bits_of_bytes}
use Rattle.ncp_numbers.proofs.Packing.{bytes_of-bits_of_bytes}
use Rattle.ncp_bits.specs.Bits.{read_bytes}
use Rattle.ncp_bits.proofs.Joins.{read_bytes-bytes_of}
use Rattle.ncp_wire.specs.declared.command.Command.{Command}
use Rattle.ncp_wire.specs.declared.fault.CommandFault.{CommandFault}
use Rattle.ncp_wire.specs.Spelling.{IsCommand, spelling}
use Rattle.ncp_control.specs.Texts.{items_of}
use Rattle.ncp_control.specs.Reading.{commands_in, fault_in}
use Rattle.ncp_control.proofs.Reading.{first_ones}
use Rattle.ncp_saved.proofs.reader.first_command.Goals as goal

-- bytes as bits, and read
as_read : (bytes : List ℕ) → All (λ byte. byte < 256) bytes → length bytes < 1000 → read_bytes bytes (8 * length bytes) ≡ Ok (bits_of_bytes bytes)
as_read bytes small few =
    let bits = length-bits_of_bytes bytes in
    ap (λ (xs : List ℕ). read_bytes xs (8 * length bytes)) (sym (bytes_of-bits_of_bytes bytes small)) ∙ ap (read_bytes (bytes_of (bits_of_bytes bytes))) (sym bits)
    ∙ read_bytes-bytes_of (bits_of_bytes bytes) (omega (arith, bits, few))

all_one : (P : Command → Type 0) (x : Command) → P x → All P (x ∷ [])
all_one P x p zero d l = p
all_one P x p (suc k) d l = absurd (omega (arith, l))

items_first : (bytes rest : List ℕ) (command : Command) → IsCommand command → bytes ≡ spelling command ++ rest
    → (more : List (Result Command CommandFault)) × (items_of (commands_in bytes) (fault_in bytes) ≡ Ok command ∷ more)
items_first bytes rest command is e =
    let found = first_ones (command ∷ []) bytes rest (all_one IsCommand command is) (e ∙ ap (λ xs. xs ++ rest) (sym (append-nil (spelling command)))) in
    (map Ok found.0 ++ map Err (option_to_list (fault_in bytes)), ap (λ (commands : List Command). items_of commands (fault_in bytes)) found.1)

small_as : (bytes : List ℕ) → ((k : ℕ) → get_or bytes k 0 < 256) → All (λ byte. byte < 256) bytes
small_as bytes fits k d l = subst (λ n. n < 256) (get_or_default bytes k 0 d l) (fits k)

pub returns-in_default : goal.returns-in_default
returns-in_default c = record {
  reads = λ command rest is e.
      absurd (c.in_default.not-Ok (bits_of_bytes c.args.bytes.now) (c.from_bytes.ensures.read ∙ as_read c.args.bytes.now (small_as c.args.bytes.now (λ k. let fits = c.type_inv.bytes k in omega arith)) (omega (arith, c.requires))));
}

pub returns-in-Some-Ok : goal.returns-in-Some-Ok
returns-in-Some-Ok c = record {
  reads = λ command rest is e.
      let small = small_as c.args.bytes.now (λ k. let fits = c.type_inv.bytes k in omega arith) in
      let read = c.from_bytes.ensures.read ∙ as_read c.args.bytes.now small (omega (arith, c.requires)) in
      let text : c.in-Ok.text ≡ bits_of_bytes c.args.bytes.now = (let found = c.in-Ok.is in cc) in
      let items = c.new.ensures.items ∙ ap (λ bs. items_of (commands_in bs) (fault_in bs)) (ap bytes_of text ∙ bytes_of-bits_of_bytes c.args.bytes.now small) ∙ (items_first c.args.bytes.now rest command is e).1 in
      let same : c.in-Some-Ok.command ≡ command = (let steps = c.in-Some-Ok.ensures.steps in let field = c.in-Some-Ok.field-0-is in cc) in
      ap Ok same;
}

pub returns-in-Some-Err : goal.returns-in-Some-Err
returns-in-Some-Err c = record {
  reads = λ command rest is e.
      let small = small_as c.args.bytes.now (λ k. let fits = c.type_inv.bytes k in omega arith) in
      let read = c.from_bytes.ensures.read ∙ as_read c.args.bytes.now small (omega (arith, c.requires)) in
      let text : c.in-Ok.text ≡ bits_of_bytes c.args.bytes.now = (let found = c.in-Ok.is in cc) in
      let items = c.new.ensures.items ∙ ap (λ bs. items_of (commands_in bs) (fault_in bs)) (ap bytes_of text ∙ bytes_of-bits_of_bytes c.args.bytes.now small) ∙ (items_first c.args.bytes.now rest command is e).1 in
      absurd (let steps = c.in-Some-Err.ensures.steps in cc);
}

pub returns-in-None : goal.returns-in-None
returns-in-None c = record {
  reads = λ command rest is e.
      let small = small_as c.args.bytes.now (λ k. let fits = c.type_inv.bytes k in omega arith) in
      let read = c.from_bytes.ensures.read ∙ as_read c.args.bytes.now small (omega (arith, c.requires)) in
      let text : c.in-Ok.text ≡ bits_of_bytes c.args.bytes.now = (let found = c.in-Ok.is in cc) in
      let items = c.new.ensures.items ∙ ap (λ bs. items_of (commands_in bs) (fault_in bs)) (ap bytes_of text ∙ bytes_of-bits_of_bytes c.args.bytes.now small) ∙ (items_first c.args.bytes.now rest command is e).1 in
      absurd (let steps = c.in-None.ensures.steps in cc);
}
