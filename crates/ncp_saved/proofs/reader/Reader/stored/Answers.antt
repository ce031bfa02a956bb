-- Piece by piece the bits get from the bytes into the store.
use Rattle.std.proofs.Common.{◌≡◌, ℕ, ◌-◌, ◌<◌, ◌++◌, length, take, drop, sym, ap, ◌∙◌, subst, arith}
use Rattle.std.proofs.lemmas.List.{length-drop}
use Rattle.std.specs.Result.{IsOkAnd}
use Rattle.ncp_numbers.specs.Bytes.{bytes_of, bytes_for}
use Rattle.ncp_bits.proofs.Joins.{length-bytes_of}
use Rattle.ncp_saved.proofs.Pieces.{first_piece, piece_fits, piece_goes_on}
use Rattle.ncp_saved.proofs.reader.Reader.stored.Goals as goal

pub returns-in_err-take-clause-reads : goal.returns-in_err-take-clause-reads
returns-in_err-take-clause-reads g c bits rest none fits e =
    let m = c.loop-left.invariant.midway bits rest none fits e in
    let more : 8192 < length m.todo = (let n = c.loop-left-test.true in let many = m.many in omega (arith, n, many)) in
    let p = first_piece m.todo c.loop-left.self rest more m.bytes in
    let t = c.take.ensures.bytes (bytes_of (take 8192 m.todo)) (bytes_of (drop 8192 m.todo) ++ rest) p.count p.bytes in
    absurd (subst (λ r. IsOkAnd r (λ bytes. bytes.now ≡ bytes_of (take 8192 m.todo))) c.in_err-take.was t.0)

pub returns-in_err-put_bits-clause-reads : goal.returns-in_err-put_bits-clause-reads
returns-in_err-put_bits-clause-reads g c bits rest none fits e =
    let m = c.loop-left.invariant.midway bits rest none fits e in
    let more : 8192 < length m.todo = (let n = c.loop-left-test.true in let many = m.many in omega (arith, n, many)) in
    let p = first_piece m.todo c.loop-left.self rest more m.bytes in
    let t = c.take.ensures.bytes (bytes_of (take 8192 m.todo)) (bytes_of (drop 8192 m.todo) ++ rest) p.count p.bytes in
    let bytes : c.in_ok-take.field-0.now ≡ bytes_of (take 8192 m.todo) = subst (λ r. IsOkAnd r (λ bytes. bytes.now ≡ bytes_of (take 8192 m.todo))) c.in_ok-take.was t.0 in
    let all = piece_fits (g.S.BitStore.held c.loop-left.store) m.todo bits (g.S.BitStore.capacity c.args.store.now) m.joined fits in
    let same = c.loop-left.invariant.capacity in
    let many = p.many in
    let puts = c.put_bits.ensures.puts (take 8192 m.todo) p.many (omega arith) (omega (arith, all, same, many, more)) bytes in
    absurd (let was = c.in_err-put_bits.was in let put = puts.0 in cc)

pub loop-left-preserved : goal.loop-left-preserved
loop-left-preserved g c = record {
  capacity = c.put_bits.ensures.capacity ∙ c.loop-left.invariant.capacity;
  midway = λ bits rest none fits e.
      let m = c.loop-left.invariant.midway bits rest none fits e in
      let more : 8192 < length m.todo = (let n = c.loop-left-test.true in let many = m.many in omega (arith, n, many)) in
      let p = first_piece m.todo c.loop-left.self rest more m.bytes in
      let t = c.take.ensures.bytes (bytes_of (take 8192 m.todo)) (bytes_of (drop 8192 m.todo) ++ rest) p.count p.bytes in
      let bytes : c.in_ok-take.field-0.now ≡ bytes_of (take 8192 m.todo) = subst (λ r. IsOkAnd r (λ bytes. bytes.now ≡ bytes_of (take 8192 m.todo))) c.in_ok-take.was t.0 in
      let all = piece_fits (g.S.BitStore.held c.loop-left.store) m.todo bits (g.S.BitStore.capacity c.args.store.now) m.joined fits in
      let same = c.loop-left.invariant.capacity in
      let many = p.many in
      let puts = c.put_bits.ensures.puts (take 8192 m.todo) p.many (omega arith) (omega (arith, all, same, many, more)) bytes in
      let left : c.loop-left.left - 8192 ≡ length (drop 8192 m.todo) = ap (λ (n : ℕ). n - 8192) m.many ∙ sym (length-drop 8192 m.todo) in
      record { todo = drop 8192 m.todo; joined = piece_goes_on (g.S.BitStore.held c.loop-left.store) m.todo bits (g.S.BitStore.held c.put_bits.new.store) m.joined puts.1; many = left; bytes = t.1 };
}

pub returns-in_err-take-2-clause-reads : goal.returns-in_err-take-2-clause-reads
returns-in_err-take-2-clause-reads g c bits rest none fits e =
    let m = c.loop-left.invariant.midway bits rest none fits e in
    let t = c.take-2.ensures.bytes (bytes_of m.todo) rest (length-bytes_of m.todo ∙ ap bytes_for (sym m.many) ∙ sym c.div_ceil.ensures) m.bytes in
    absurd (subst (λ r. IsOkAnd r (λ bytes. bytes.now ≡ bytes_of m.todo)) c.in_err-take-2.was t.0)

pub returns-clause-reads : goal.returns-clause-reads
returns-clause-reads g c bits rest none fits e =
    let m = c.loop-left.invariant.midway bits rest none fits e in
    let t = c.take-2.ensures.bytes (bytes_of m.todo) rest (length-bytes_of m.todo ∙ ap bytes_for (sym m.many) ∙ sym c.div_ceil.ensures) m.bytes in
    let bytes : c.in_ok-take-2.field-0.now ≡ bytes_of m.todo = subst (λ r. IsOkAnd r (λ bytes. bytes.now ≡ bytes_of m.todo)) c.in_ok-take-2.was t.0 in
    let all = piece_fits (g.S.BitStore.held c.loop-left.store) m.todo bits (g.S.BitStore.capacity c.args.store.now) m.joined fits in
    let same = c.loop-left.invariant.capacity in
    let puts = c.put_bits-2.ensures.puts m.todo m.many (let n = c.loop-left-test.false in omega (arith, n)) (omega (arith, all, same)) bytes in
    (puts.0, puts.1 ∙ m.joined, t.1)
