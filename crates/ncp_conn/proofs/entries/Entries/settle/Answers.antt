use Rattle.std.proofs.Common.{ℕ, refl, sym, ap, ◌∙◌, subst}
use Rattle.slab.specs.Slab.{get}
use Rattle.ncp_model.specs.declared.pair.Pair.{Pair}
use Rattle.ncp_model.specs.Endpoint.{Endpoint, is_ended}
use Rattle.ncp_conn.specs.Sending.{Notes}
use Rattle.ncp_conn.proofs.Slabs.{one_value}
use Rattle.ncp_conn.proofs.Tables.{settled_out, settled_there}
use Rattle.ncp_conn.proofs.entries.Entries.settle.Goals as goal

pub returns-then-is_ended : goal.returns-then-is_ended
returns-then-is_ended g c = λ p at.
    let noted = one_value (get c.args.self.now.slab c.args.key) c.index.result.now p c.index.ensures at in
    let tested = one_value (get c.args.self.now.slab c.args.key) c.index-2.result.now p c.index-2.ensures at in
    settled_out c.args.self.now c.remove.new.self c.args.key p
    (subst (λ (n : ℕ). Notes p c.args.self.now.sending n) (sym c.remove.ensures.sending) (subst (λ (x : Pair × Endpoint). Notes x c.args.self.now.sending c.note.new.sending) noted c.note.ensures))
    c.note.new.sending
    (ap (λ (x : Pair × Endpoint). is_ended x.1) (sym tested) ∙ sym c.is_ended.ensures ∙ c.if-is_ended.true)
    (c.remove.ensures.out p at)

pub returns-else-is_ended : goal.returns-else-is_ended
returns-else-is_ended g c = λ p at.
    let noted = one_value (get c.args.self.now.slab c.args.key) c.index.result.now p c.index.ensures at in
    let tested = one_value (get c.args.self.now.slab c.args.key) c.index-2.result.now p c.index-2.ensures at in
    settled_there c.args.self.now (record c.args.self.now { sending = c.note.new.sending }) c.args.key p
    (subst (λ (x : Pair × Endpoint). Notes x c.args.self.now.sending c.note.new.sending) noted c.note.ensures)
    (ap (λ (x : Pair × Endpoint). is_ended x.1) (sym tested) ∙ sym c.is_ended.ensures ∙ c.if-is_ended.false)
    refl
