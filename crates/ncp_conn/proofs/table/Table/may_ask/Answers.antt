use Rattle.std.proofs.Common.{◌≡◌, ◌<◌, true, false, nat_le, sym, ap, ◌∙◌, arith}
use Rattle.std.specs.FinMap.{get}
use Rattle.ncp_model.specs.Endpoint.{or_new}
use Rattle.ncp_model.specs.Ends.{count, has_asked}
use Rattle.ncp_conn.proofs.Asking.{le_yes, le_no}
use Rattle.ncp_conn.proofs.Tables.{sum_is}
use Rattle.ncp_conn.proofs.Requests.{may_room, may_first, when, unless}
use Rattle.ncp_model.specs.declared.call_fault.CallFault.TheVariants.{TableFull, QueueFull}
use Rattle.ncp_model.specs.Calls.{refuse}
use Rattle.ncp_model.proofs.Refusals.{refused, not_refused}
use Rattle.ncp_conn.proofs.table.Table.may_ask.Goals as goal

pub returns-then-own_requests-ge-MAX_OWN-clause-output : goal.returns-then-own_requests-ge-MAX_OWN-clause-output
returns-then-own_requests-ge-MAX_OWN-clause-output g c =
    let n : count has_asked c.args.self.now ≡ c.own_requests.result = sum_is c.self.inside.entries c.args.self.now c.self.view_is c.self.invariant has_asked ∙ sym c.own_requests.ensures in
    let b : nat_le 64 (count has_asked c.args.self.now) ≡ true = ap (nat_le 64) n ∙ le_yes 64 c.own_requests.result c.if-own_requests-ge-MAX_OWN.true in
    sym (may_room c.args.pair c.args.full c.args.self.now (sym c.in_ok-end_may_ask.ensures) ∙ refused TableFull (nat_le 64 (count has_asked c.args.self.now)) (refuse QueueFull c.args.full) b)

pub returns-then-full-clause-output : goal.returns-then-full-clause-output
returns-then-full-clause-output g c =
    let n : count has_asked c.args.self.now ≡ c.own_requests.result = sum_is c.self.inside.entries c.args.self.now c.self.view_is c.self.invariant has_asked ∙ sym c.own_requests.ensures in
    let b : nat_le 64 (count has_asked c.args.self.now) ≡ false = ap (nat_le 64) n ∙ le_no 64 c.own_requests.result c.if-own_requests-ge-MAX_OWN.false in
    sym (may_room c.args.pair c.args.full c.args.self.now (sym c.in_ok-end_may_ask.ensures) ∙ not_refused TableFull (nat_le 64 (count has_asked c.args.self.now)) (refuse QueueFull c.args.full) b ∙ when c.args.full _ _ c.if-full.true)

pub returns-clause-output : goal.returns-clause-output
returns-clause-output g c =
    let n : count has_asked c.args.self.now ≡ c.own_requests.result = sum_is c.self.inside.entries c.args.self.now c.self.view_is c.self.invariant has_asked ∙ sym c.own_requests.ensures in
    let b : nat_le 64 (count has_asked c.args.self.now) ≡ false = ap (nat_le 64) n ∙ le_no 64 c.own_requests.result c.if-own_requests-ge-MAX_OWN.false in
    sym (may_room c.args.pair c.args.full c.args.self.now (sym c.in_ok-end_may_ask.ensures) ∙ not_refused TableFull (nat_le 64 (count has_asked c.args.self.now)) (refuse QueueFull c.args.full) b ∙ unless c.args.full _ _ c.if-full.false)

pub returns-clause-ok : goal.returns-clause-ok
returns-clause-ok g c =
    let n : count has_asked c.args.self.now ≡ c.own_requests.result = sum_is c.self.inside.entries c.args.self.now c.self.view_is c.self.invariant has_asked ∙ sym c.own_requests.ensures in
    let less : count has_asked c.args.self.now < 64 = let h = c.if-own_requests-ge-MAX_OWN.false in omega (arith, n, h) in
    record { first = may_first (or_new (get c.args.self.now c.args.pair)) (sym c.in_ok-end_may_ask.ensures); own = less }
