use Rattle.std.proofs.Common.{rules, ◌≡◌, ◌≤◌, ℕ, true, arith, inl, sym, ap, subst, ◌∙◌, Err}
use Rattle.std.proofs.lemmas.Result.{err_from_is_err_and}
use Rattle.ncp_model.specs.declared.pair.Pair.{Pair}
use Rattle.ncp_model.specs.Pairs.{receives}
use Rattle.ncp_model.specs.Effect.{answer, is_room}
use Rattle.ncp_model.specs.Ends.{count, any, has_asked, uses_link, map_after}
use Rattle.ncp_model.specs.declared.limits.TheConstants.{MAX_OWN}
use Rattle.ncp_wire.specs.declared.links.TheConstants.{LAST_LINK}
use Rattle.ncp_model.proofs.FreeLinks.{free-free, free-room}
use Rattle.ncp_conn.proofs.Requests.{receive_err}
use Rattle.ncp_conn.proofs.table.Table.ask_receive.Goals as goal

pub returns-in_err-may_ask-clause-done : goal.returns-in_err-may_ask-clause-done
returns-in_err-may_ask-clause-done g c =
    let pair : Pair = record { local = c.args.local; remote = c.args.remote } in
    let ps : receives pair ≡ true = sym c.receives.ensures ∙ c.if-not-receives.false in
    let pr : is_room c.args.room ≡ true = sym c.is_room.ensures ∙ c.if-not-is_room.false in
    let e = receive_err pair c.args.room c.args.full c.args.self.now ps pr c.in_err-may_ask.field-0.0 (sym c.in_err-may_ask.ensures.output) in
    let p = err_from_is_err_and c.from_residual.result c.from_residual.ensures.1 in
    inl (p.1 ∙ ap Err p.2 ∙ ap answer (sym e), ap (map_after c.args.self.now pair) (sym e))

pub ask_receive_of-requires-clause-link : goal.ask_receive_of-requires-clause-link
ask_receive_of-requires-clause-link g c =
    let own : count has_asked c.args.self.now ≤ MAX_OWN = let h = c.in_ok-may_ask.ensures.ok.own in omega (arith, h) in
    ap (λ (on : ℕ). any (uses_link on) c.args.self.now) c.free_link-link.ensures
    ∙ free-free c.args.self.now (free-room c.args.self.now own)

pub ask_receive_of-requires-clause-last : goal.ask_receive_of-requires-clause-last
ask_receive_of-requires-clause-last g c =
    let own : count has_asked c.args.self.now ≤ MAX_OWN = let h = c.in_ok-may_ask.ensures.ok.own in omega (arith, h) in
    subst (λ (on : ℕ). on ≤ LAST_LINK) (sym c.free_link-link.ensures) (free-room c.args.self.now own)

pub returns-clause-done : goal.returns-clause-done
returns-clause-done g c = search rules
