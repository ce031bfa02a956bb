use Rattle.std.proofs.Common.{rules, ◌≡◌, ◌==◌, true, false, inl, sym, ap, ◌∙◌, Err}
use Rattle.std.proofs.lemmas.Result.{err_from_is_err_and}
use Rattle.ncp_model.specs.declared.pair.Pair.{Pair}
use Rattle.ncp_model.specs.Pairs.{sends}
use Rattle.ncp_model.specs.Effect.{answer, is_room}
use Rattle.ncp_model.specs.Ends.{map_after}
use Rattle.ncp_conn.proofs.Requests.{send_err, not_zero}
use Rattle.ncp_conn.proofs.table.Table.ask_send.Goals as goal

pub returns-in_err-may_ask-clause-done : goal.returns-in_err-may_ask-clause-done
returns-in_err-may_ask-clause-done g c =
    let pair : Pair = record { local = c.args.local; remote = c.args.remote } in
    let ps : sends pair ≡ true = sym c.sends.ensures ∙ c.if-not-sends.false in
    let pz : (c.args.size == 0) ≡ false = not_zero c.args.size c.if-size-eq0.false in
    let pr : is_room c.args.room ≡ true = sym c.is_room.ensures ∙ c.if-not-is_room.false in
    let e = send_err pair c.args.size c.args.room c.args.full c.args.self.now ps pz pr c.in_err-may_ask.field-0.0 (sym c.in_err-may_ask.ensures.output) in
    let p = err_from_is_err_and c.from_residual.result c.from_residual.ensures.1 in
    inl (p.1 ∙ ap Err p.2 ∙ ap answer (sym e), ap (map_after c.args.self.now pair) (sym e))

pub returns-clause-done : goal.returns-clause-done
returns-clause-done g c = search rules
