use Rattle.std.proofs.Common.{ap, sym, ◌∙◌, length, eqb}
use Rattle.std.proofs.lemmas.Bool.Decides.{Decides-eqb}
use Rattle.ncp_bits.proofs.Same.{tested}
use Rattle.ncp_bits.proofs.part.PartPartialEq.eq.Goals as goal

pub returns-then-len : goal.returns-then-len
returns-then-len c = tested c.args.self.now c.args.other.now c.are_same.result c.are_same.ensures

pub returns-else-len : goal.returns-else-len
returns-else-len c =
    tested c.args.self.now c.args.other.now (eqb c.len.result c.len-2.result) (λ h. absurd (c.if-len.false ((Decides-eqb c.len.result c.len-2.result).0 h)), λ e. absurd (c.if-len.false (c.len.ensures.len ∙ ap length e ∙ sym c.len-2.ensures.len)))
