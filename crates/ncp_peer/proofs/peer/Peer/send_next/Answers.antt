use Rattle.std.proofs.Common.{sym, ap, ◌∙◌, arith}
use Rattle.ncp_peer.specs.Output.{output_on, after_output_on}
use Rattle.ncp_peer.proofs.Outputs.{returned_first, passed_first, told_here, passed_here, passed_to, passed_all, returned_none, silent}
use Rattle.ncp_peer.proofs.peer.Peer.send_next.Goals.{then-may_send_control+else-send_on, else-may_send_control}
use Rattle.ncp_peer.proofs.peer.Peer.send_next.Goals as goal

pub returns-then-send_on-clause-link : goal.returns-then-send_on-clause-link
returns-then-send_on-clause-link g c = (returned_first c.args.number c.args.self.now c.send_on.new.self (sym c.if-send_on.true ∙ c.send_on.ensures.sent) c.send_on.ensures.state).link

pub returns-then-send_on-clause-state : goal.returns-then-send_on-clause-state
returns-then-send_on-clause-state g c = (returned_first c.args.number c.args.self.now c.send_on.new.self (sym c.if-send_on.true ∙ c.send_on.ensures.sent) c.send_on.ensures.state).state

pub loop-link-init : goal.loop-link-init
loop-link-init g c =
    elim c.if-may_send_control.branch [
      | then-may_send_control+else-send_on w ↦
          record {
            passed = passed_first c.args.number c.args.self.now c.if-may_send_control.self (silent (output_on c.args.number 0 c.args.self.now) (sym w.if-send_on.false ∙ w.send_on.ensures.sent)) (w.self-is ∙ w.send_on.ensures.state);
            low = omega arith;
            high = omega arith;
          }
      | else-may_send_control w ↦
          let none = c.may_send_control.ensures w.if-may_send_control.false c.args.number in
          record {
            passed = passed_first c.args.number c.args.self.now c.if-may_send_control.self none (w.self-is ∙ ap (λ o. after_output_on 0 o c.args.self.now) (sym none));
            low = omega arith;
            high = omega arith;
          }
    ]

pub returns-then-send_on-2-clause-link : goal.returns-then-send_on-2-clause-link
returns-then-send_on-2-clause-link g c =
    let there = rw c.in-Some.is at c.next_data_link.ensures in
    let last = there.last in
    (told_here c.args.number c.args.self.now c.in-Some.link c.loop-link.self c.send_on-in-Some.new.self (omega arith)
    (passed_to c.args.number c.args.self.now c.loop-link.from c.in-Some.link c.loop-link.self c.loop-link.invariant.passed there)
    (sym c.if-send_on-2.true ∙ c.send_on-in-Some.ensures.sent) c.send_on-in-Some.ensures.state).link

pub returns-then-send_on-2-clause-state : goal.returns-then-send_on-2-clause-state
returns-then-send_on-2-clause-state g c =
    let there = rw c.in-Some.is at c.next_data_link.ensures in
    let last = there.last in
    (told_here c.args.number c.args.self.now c.in-Some.link c.loop-link.self c.send_on-in-Some.new.self (omega arith)
    (passed_to c.args.number c.args.self.now c.loop-link.from c.in-Some.link c.loop-link.self c.loop-link.invariant.passed there)
    (sym c.if-send_on-2.true ∙ c.send_on-in-Some.ensures.sent) c.send_on-in-Some.ensures.state).state

pub loop-link-preserved : goal.loop-link-preserved
loop-link-preserved g c =
    let there = rw c.in-Some.is at c.next_data_link.ensures in
    let last = there.last in
    let least = there.least in
    let low = c.loop-link.invariant.low in
    record {
      passed = passed_here c.args.number c.args.self.now c.in-Some.link c.loop-link.self c.send_on-in-Some.new.self (omega arith)
          (passed_to c.args.number c.args.self.now c.loop-link.from c.in-Some.link c.loop-link.self c.loop-link.invariant.passed there)
          (silent (output_on c.args.number c.in-Some.link c.loop-link.self) (sym c.if-send_on-2.false ∙ c.send_on-in-Some.ensures.sent)) c.send_on-in-Some.ensures.state;
      low = omega arith;
      high = omega arith;
    }

pub returns-clause-link : goal.returns-clause-link
returns-clause-link g c =
    let none = rw c.in_default.is at c.next_data_link.ensures in
    (returned_none c.args.number c.args.self.now 72 c.loop-link.self (omega arith) (passed_all c.args.number c.args.self.now c.loop-link.from c.loop-link.self c.loop-link.invariant.high c.loop-link.invariant.passed none)).link

pub returns-clause-state : goal.returns-clause-state
returns-clause-state g c =
    let none = rw c.in_default.is at c.next_data_link.ensures in
    (returned_none c.args.number c.args.self.now 72 c.loop-link.self (omega arith) (passed_all c.args.number c.args.self.now c.loop-link.from c.loop-link.self c.loop-link.invariant.high c.loop-link.invariant.passed none)).state
