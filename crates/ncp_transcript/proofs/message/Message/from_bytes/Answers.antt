use Rattle.std.proofs.Common.{◌≡◌, ℕ, List, Ok, take, ap, sym, ◌∙◌, subst}
use Rattle.ncp_bits.specs.Bits.{read_bytes}
use Rattle.ncp_numbers.specs.Bytes.{bytes_for}
use Rattle.ncp_transcript.specs.Packed.{bits_in, IsExact}
use Rattle.ncp_transcript.proofs.message.Message.from_bytes.Goals as goal

front : (c : goal.After-shrink_to_fit) → c.shrink_to_fit.new.self.items ≡ take (bytes_for c.args.len) c.deref.result.now
front c =
    c.shrink_to_fit.ensures.items ∙ c.truncate.ensures.items ∙ ap (λ n. take n c.args.bytes.items) c.div_ceil.ensures
    ∙ ap (λ (bytes : List ℕ). take (bytes_for c.args.len) bytes) (sym c.deref.ensures.value)

pub invariant_of-result : goal.invariant_of-result
invariant_of-result c = subst (λ (bytes : List ℕ). IsExact bytes c.args.len) (sym (front c)) c.in_ok-judge.ensures.exact

pub returns : goal.returns
returns c =
    ap (λ (bytes : List ℕ). Ok (bits_in bytes c.args.len)) (front c) ∙ sym c.in_ok-judge.ensures.read
    ∙ ap (λ (bytes : List ℕ). read_bytes bytes c.args.len) c.deref.ensures.value
