-- What the two codes of a fault mean.
use Rattle.std.proofs.Common.{◌≡◌, ◌≢◌, ℕ, ◌-◌, ◌<◌, ◌≤◌, List, ◌∷◌, ◌++◌, length, drop, get_or, replicate, Some, sym, ap, ◌∙◌, arith, append-nil, length-append, inl, inr}
use Rattle.std.specs.List.{All}
use Rattle.std.proofs.lemmas.Bool.{cases_lt}
use Rattle.std.proofs.lemmas.List.{drop_all, length-replicate}
use Rattle.std.proofs.lemmas.List.Elements.{All-append, All-replicate}
use Rattle.std.proofs.lemmas.Option.{slice_get-get_or}
use Rattle.ncp_wire.specs.Spelling.{spelling, IsByte, IsCommand}
use Rattle.ncp_control.specs.Texts.{NoneBegins}
use Rattle.ncp_control.specs.Reading.{sizes, size_of, command_with}
use Rattle.ncp_wire.specs.declared.command.Command.{Command}
use Rattle.ncp_wire.specs.declared.command.Command.TheVariants.{Nop, Rts, Str, Cls, All as Allocate, Gvb, Ret, Inr, Ins, Eco, Erp, Err, Rst, Rrp}
use Rattle.ncp_control.proofs.Begins.{Begins, read_begins}

opcode_few : (command : Command) → get_or (spelling command) 0 0 ≤ 13
opcode_few Nop = omega arith
opcode_few (Rts receive send link) = omega arith
opcode_few (Str send receive size) = omega arith
opcode_few (Cls my your) = omega arith
opcode_few (Allocate link messages bits) = omega arith
opcode_few (Gvb link fm fb) = omega arith
opcode_few (Ret link messages bits) = omega arith
opcode_few (Inr link) = omega arith
opcode_few (Ins link) = omega arith
opcode_few (Eco byte) = omega arith
opcode_few (Erp byte) = omega arith
opcode_few (Err code bytes) = omega arith
opcode_few Rst = omega arith
opcode_few Rrp = omega arith

-- no command has an opcode over 13
pub illegal : (command : Command) (opcode : ℕ) (more : List ℕ) → 13 < opcode → spelling command ≢ opcode ∷ more
illegal command opcode more h e =
    let few : get_or (spelling command) 0 0 ≤ 13 = opcode_few command in
    let same : get_or (spelling command) 0 0 ≡ opcode = ap (λ xs. get_or xs 0 0) e in
    absurd (omega arith)

-- where the opcode is good, more bytes would make a command
pub early : (opcode : ℕ) (bytes : List ℕ) → All IsByte (opcode ∷ bytes) → NoneBegins (opcode ∷ bytes) → opcode ≤ 13
    → (command : Command) × (more : List ℕ) × IsCommand command × (spelling command ≡ (opcode ∷ bytes) ++ more)
early opcode bytes small none h =
    let size : ℕ = get_or sizes opcode 0 in
    let is_size : size_of opcode ≡ Some size = slice_get-get_or sizes opcode 0 (omega arith) in
    elim (cases_lt (length (opcode ∷ bytes)) size) [
      | inl short ↦
          let zeros : List ℕ = replicate (size - length (opcode ∷ bytes)) 0 in
          let text : List ℕ = (opcode ∷ bytes) ++ zeros in
          let long : length text ≡ size = simp (length-append, length-replicate) (omega arith) in
          let small_text : All IsByte text = All-append IsByte (opcode ∷ bytes) zeros small (All-replicate IsByte (size - length (opcode ∷ bytes)) 0 (omega arith)) in
          let begins : Begins (command_with opcode text) size text = read_begins text small_text size is_size (omega arith) in (
            command_with opcode text,
            zeros,
            begins.fits,
            sym (begins.front ∙ ap (λ xs. spelling (command_with opcode text) ++ xs) (drop_all size text (omega arith)) ∙ append-nil (spelling (command_with opcode text))),
          )
      | inr there ↦
          let begins : Begins (command_with opcode (opcode ∷ bytes)) size (opcode ∷ bytes) = read_begins (opcode ∷ bytes) small size is_size there in
          absurd (none (command_with opcode (opcode ∷ bytes)) (drop size (opcode ∷ bytes)) begins.fits begins.front)
    ]
