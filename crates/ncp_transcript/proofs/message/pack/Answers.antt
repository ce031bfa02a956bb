use Rattle.std.proofs.Common.{◌≡◌, ap, ◌∙◌, arith}
use Rattle.ncp_numbers.specs.Bytes.{bytes_of, bytes_for}
use Rattle.ncp_transcript.specs.Packed.{bits_in}
use Rattle.ncp_transcript.proofs.Packing.{exact, packed, written}
use Rattle.ncp_transcript.proofs.message.pack.Goals as goal

pub bytes : (c : goal.After-len-2) → c.shrink_to_fit.new.self.items ≡ bytes_of c.args.bits.now
bytes c =
    let l : c.resize.new.self.len ≡ c.div_ceil.result = rw c.unwrap.ensures at c.resize.ensures.len in
    written _ _ _ _ c.args.bits.now c.resize.new.self.len c.to_bytes.result c.shrink_to_fit.ensures.items c.to_bytes.ensures.bytes (omega arith) c.to_bytes.ensures.used (l ∙ c.div_ceil.ensures ∙ ap bytes_for c.len.ensures.len)

pub invariant_of-result : goal.invariant_of-result
invariant_of-result c = exact c.shrink_to_fit.new.self.items c.len-2.result c.args.bits.now (bytes c) c.len-2.ensures.len c.len-2.ensures.fits

pub returns : goal.returns
returns c = ap (bits_in c.shrink_to_fit.new.self.items) c.len-2.ensures.len ∙ packed c.shrink_to_fit.new.self.items c.args.bits.now (bytes c)
