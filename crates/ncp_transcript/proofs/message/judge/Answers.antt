use Rattle.std.proofs.Common.{◌≡◌, ◌<◌, ℕ, Ok, ap, sym, ◌∙◌, arith}
use Rattle.std.specs.List.{All}
use Rattle.std.proofs.lemmas.List.Elements.{All-from_get_or}
use Rattle.ncp_bits.specs.Bits.{read_bytes}
use Rattle.ncp_transcript.proofs.Packing.{kept}
use Rattle.ncp_transcript.proofs.message.judge.Goals as goal

IsByte : ℕ → Type 0
IsByte byte = byte < 256

pub returns-clause-exact : goal.returns-clause-exact
unfolding IsByte
returns-clause-exact c =
    let small : All IsByte c.args.bytes.now = All-from_get_or IsByte c.args.bytes.now 0 (λ place h. let fits = c.type_inv.bytes place in omega arith) in
    (kept c.args.bytes.now c.args.len c.in_ok-from_bytes.field-0 small (sym c.in_ok-from_bytes.ensures.read)).0

pub returns-clause-read : goal.returns-clause-read
unfolding IsByte
returns-clause-read c =
    let small : All IsByte c.args.bytes.now = All-from_get_or IsByte c.args.bytes.now 0 (λ place h. let fits = c.type_inv.bytes place in omega arith) in
    let read : read_bytes c.args.bytes.now c.args.len ≡ Ok c.in_ok-from_bytes.field-0 = sym c.in_ok-from_bytes.ensures.read in
    read ∙ ap Ok (sym (kept c.args.bytes.now c.args.len c.in_ok-from_bytes.field-0 small read).1)
