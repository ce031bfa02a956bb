-- The bits that bytes were made of are put into the store.
use Rattle.std.proofs.Common.{◌≡◌, ℕ, ◌≤◌, ◌+◌, ◌++◌, List, Bool, length, Ok, refl, sym, ap, ap₂, ◌∙◌, subst, arith}
use Rattle.ncp_numbers.specs.Bytes.{bytes_of}
use Rattle.ncp_bits.specs.Bits.{read_bytes}
use Rattle.ncp_bits.proofs.Joins.{read_bytes-bytes_of}
use Rattle.ncp_saved.proofs.reader.put_bits.Goals as goal

part_is : (bits : List Bool) (bytes : List ℕ) (count : ℕ) → count ≡ length bits → count ≤ 8192 → bytes ≡ bytes_of bits → read_bytes bytes count ≡ Ok bits
part_is bits bytes count many small is = ap₂ (λ (bs : List ℕ) (n : ℕ). read_bytes bs n) is many ∙ read_bytes-bytes_of bits (omega (arith, many, small))

pub returns-in_default-clause-puts : goal.returns-in_default-clause-puts
returns-in_default-clause-puts g c bits many small fits is =
    absurd (c.in_default.not-Ok bits (c.from_bytes.ensures.read ∙ part_is bits c.args.bytes.now c.args.count many small is))

pub returns-in-Ok-put-clause-puts : goal.returns-in-Ok-put-clause-puts
returns-in-Ok-put-clause-puts g c bits many small fits is =
    let read = c.from_bytes.ensures.read ∙ part_is bits c.args.bytes.now c.args.count many small is in
    let part : c.in-Ok.part ≡ bits = (let found = c.in-Ok.is in cc) in
    (refl, c.in-Ok-put.ensures.ok ∙ ap (λ (xs : List Bool). g.S.BitStore.held c.args.store.now ++ xs) part)

pub returns-in-Err-clause-puts : goal.returns-in-Err-clause-puts
returns-in-Err-clause-puts g c bits many small fits is =
    let read = c.from_bytes.ensures.read ∙ part_is bits c.args.bytes.now c.args.count many small is in
    let part : c.in-Ok.part ≡ bits = (let found = c.in-Ok.is in cc) in
    let room : length (g.S.BitStore.held c.args.store.now) + length c.in-Ok.part ≤ g.S.BitStore.capacity c.args.store.now = subst (λ (xs : List Bool). length (g.S.BitStore.held c.args.store.now) + length xs ≤ g.S.BitStore.capacity c.args.store.now) (sym part) fits in
    absurd (let no = c.in-Err.ensures.variant.1 room in cc)
