use Rattle.std.proofs.Common.{◌≡◌, ℕ, ◌++◌, List, [], ◌∷◌, Bool, length, refl, sym, ap, ◌∙◌, arith}
use Rattle.ncp_numbers.specs.Bytes.{bytes_of}
use Rattle.ncp_saved.specs.Values.{four_bytes, bits_saved}
use Rattle.ncp_peer.proofs.Joined.{no_bytes}
use Rattle.ncp_peer.proofs.reading.read_stored.Goals as goal

no_bits : (bits : List Bool) → length bits ≡ 0 → [] ≡ bits
no_bits [] e = refl
no_bits (b ∷ bits) e = absurd (omega (arith, e))

none_stored : (bits : List Bool) (reader rest : List ℕ) → [] ≡ bits → reader ≡ bits_saved bits ++ rest → reader ≡ four_bytes 0 ++ rest
unfolding bits_saved
none_stored bits reader rest none e = e ∙ ap (λ (xs : List Bool). (four_bytes (length xs) ++ bytes_of xs) ++ rest) (sym none) ∙ ap (λ (w : List ℕ). (four_bytes 0 ++ w) ++ rest) no_bytes

pub returns-in_err-_none : goal.returns-in_err-_none
returns-in_err-_none g c = record {
  reads = λ bits rest fits small unasked e.
      let none : [] ≡ bits = no_bits bits (let room = unasked c.if-asked.false in omega (arith, fits, room)) in
      absurd (let read = c.four_bytes.ensures.reads 0 rest (none_stored bits c.args.reader.now rest none e) in let was = c.in_err-_none.was in cc);
}

pub returns : goal.returns
returns g c = record {
  reads = λ bits rest fits small unasked e.
      let none : [] ≡ bits = no_bits bits (let room = unasked c.if-asked.false in omega (arith, fits, room)) in
      (none, sym (unasked c.if-asked.false), (c.four_bytes.ensures.reads 0 rest (none_stored bits c.args.reader.now rest none e)).1);
}
