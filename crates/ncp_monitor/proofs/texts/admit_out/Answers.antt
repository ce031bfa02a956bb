use Rattle.std.proofs.Common.{◌≡◌, ℕ, Bool, false, Option, Result, if◌then◌else◌, sym, ap, ◌∙◌, rules}
use Rattle.ncp_leader.specs.declared.fault.MessageFault.{MessageFault}
use Rattle.ncp_leader.specs.Message.{Message, message_in}
use Rattle.ncp_interface.specs.Slots.{kept_at, is_slot_empty}
use Rattle.ncp_monitor.specs.Texts.{admits_out, message_out_at}
use Rattle.ncp_monitor.proofs.texts.admit_out.Goals as goal

pub returns-in-Ok : goal.returns-in-Ok
returns-in-Ok c =
    let kept = c.args.kept.now in
    let one = kept_at kept c.in-Some.place in
    let there : is_slot_empty one.slot ≡ false = search rules in
    let read = ap message_in (sym c.message.ensures) ∙ sym c.read_regular.ensures.exact ∙ c.in-Ok.is in
    c.admit_error.ensures
    ∙ sym (
    ap (λ (o : Option ℕ). message_out_at c.args.flow kept o c.args.conn_tables.now) (sym c.position_of.ensures.index ∙ c.in-Some.is)
    ∙ ap (λ (b : Bool). if b then c.args.conn_tables.now else admits_out c.args.flow (message_in one.message) c.args.conn_tables.now) there
    ∙ ap (λ (r : Result Message MessageFault). admits_out c.args.flow r c.args.conn_tables.now) read)
