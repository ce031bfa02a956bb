-- The number of bits is read, then as many bytes as they take.
use Rattle.std.proofs.Common.{◌≡◌, ℕ, ◌++◌, List, length, Ok, sym, ap, ◌∙◌, subst}
use Rattle.std.proofs.lemmas.List.{append_assoc}
use Rattle.std.specs.Result.{IsOkAnd}
use Rattle.ncp_numbers.specs.Bytes.{bytes_of, bytes_for}
use Rattle.ncp_bits.specs.Bits.{read_bytes}
use Rattle.ncp_bits.proofs.Joins.{length-bytes_of, read_bytes-bytes_of}
use Rattle.ncp_saved.specs.Values.{four_bytes, bits_saved}
use Rattle.ncp_saved.proofs.reader.Reader.message.Goals as goal

pub returns-in_err-bytes : goal.returns-in_err-bytes
unfolding bits_saved
returns-in_err-bytes c = record {
  reads = λ bits rest small e.
      let k = c.four_bytes.ensures.reads (length bits) (bytes_of bits ++ rest) (e ∙ append_assoc (four_bytes (length bits)) (bytes_of bits) rest) in
      let len : c.in_ok-len.field-0 ≡ length bits = (let was = c.in_ok-len.was in let is = k.0 in cc) in
      let count : length (bytes_of bits) ≡ c.div_ceil.result = length-bytes_of bits ∙ ap bytes_for (sym len) ∙ sym c.div_ceil.ensures in
      let t = c.take.ensures.bytes (bytes_of bits) rest count k.1 in
      absurd (subst (λ r. IsOkAnd r (λ bytes. bytes.now ≡ bytes_of bits)) c.in_err-bytes.was t.0);
}

pub returns-in_default : goal.returns-in_default
unfolding bits_saved
returns-in_default c = record {
  reads = λ bits rest small e.
      let k = c.four_bytes.ensures.reads (length bits) (bytes_of bits ++ rest) (e ∙ append_assoc (four_bytes (length bits)) (bytes_of bits) rest) in
      let len : c.in_ok-len.field-0 ≡ length bits = (let was = c.in_ok-len.was in let found = k.0 in cc) in
      let count : length (bytes_of bits) ≡ c.div_ceil.result = length-bytes_of bits ∙ ap bytes_for (sym len) ∙ sym c.div_ceil.ensures in
      let t = c.take.ensures.bytes (bytes_of bits) rest count k.1 in
      let bytes : c.in_ok-bytes.bytes.now ≡ bytes_of bits = subst (λ r. IsOkAnd r (λ bytes. bytes.now ≡ bytes_of bits)) c.in_ok-bytes.was t.0 in
      absurd (c.in_default.not-Ok bits (c.from_bytes.ensures.read ∙ ap (λ (xs : List ℕ). read_bytes xs c.in_ok-len.field-0) bytes ∙ ap (read_bytes (bytes_of bits)) len ∙ read_bytes-bytes_of bits small));
}

pub returns : goal.returns
unfolding bits_saved
returns c = record {
  reads = λ bits rest small e.
      let k = c.four_bytes.ensures.reads (length bits) (bytes_of bits ++ rest) (e ∙ append_assoc (four_bytes (length bits)) (bytes_of bits) rest) in
      let len : c.in_ok-len.field-0 ≡ length bits = (let was = c.in_ok-len.was in let found = k.0 in cc) in
      let count : length (bytes_of bits) ≡ c.div_ceil.result = length-bytes_of bits ∙ ap bytes_for (sym len) ∙ sym c.div_ceil.ensures in
      let t = c.take.ensures.bytes (bytes_of bits) rest count k.1 in
      let bytes : c.in_ok-bytes.bytes.now ≡ bytes_of bits = subst (λ r. IsOkAnd r (λ bytes. bytes.now ≡ bytes_of bits)) c.in_ok-bytes.was t.0 in
      let read = c.from_bytes.ensures.read ∙ ap (λ (xs : List ℕ). read_bytes xs c.in_ok-len.field-0) bytes ∙ ap (read_bytes (bytes_of bits)) len ∙ read_bytes-bytes_of bits small in
      let same : c.in-Ok.bits ≡ bits = (let found = c.in-Ok.is in cc) in
      (ap Ok same, t.1);
}
