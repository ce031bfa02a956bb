use Rattle.std.proofs.Common.{sym, ◌∙◌}
use Rattle.ncp_conn.proofs.Sending.{hears_its, unnoted}
use Rattle.ncp_conn.proofs.entries.note.Goals as goal

pub returns-then-not-hears : goal.returns-then-not-hears
returns-then-not-hears g c =
    unnoted c.args.entry.now c.link-link.result c.link-link.ensures.link c.args.sending.now (sym c.hears.ensures ∙ c.if-not-hears.true)

pub returns-then-can_send : goal.returns-then-can_send
returns-then-can_send g c = λ on.
    rw (← hears_its c.args.entry.now c.link-link.result c.link-link.ensures.link (sym c.hears.ensures ∙ c.if-not-hears.false) on, sym c.can_send.ensures ∙ c.if-can_send.true) (c.insert.ensures on)

pub returns-else-can_send : goal.returns-else-can_send
returns-else-can_send g c = λ on.
    rw (← hears_its c.args.entry.now c.link-link.result c.link-link.ensures.link (sym c.hears.ensures ∙ c.if-not-hears.false) on, sym c.can_send.ensures ∙ c.if-can_send.false) (c.remove.ensures on)
