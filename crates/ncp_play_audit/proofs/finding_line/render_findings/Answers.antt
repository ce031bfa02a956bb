use Rattle.std.proofs.Common.{◌∙◌, List, take, drop, get_or, refl, sym, subst, arith}
use Rattle.std.specs.List.{flat_map}
use Rattle.std.proofs.Math.Bool.{or-false}
use Rattle.std.proofs.Math.ListN.{drop_of_length-le}
use Rattle.std.proofs.lemmas.List.{take-append-drop, take_more}
use Rattle.ncp_play_stream.specs.Streams.{WritesText}
use Rattle.ncp_play_stream.proofs.Saying.{answers_broken, writes_none, writes_item, writes_items, writes_items_broken}
use Rattle.ncp_monitor.specs.declared.finding.Finding.{Finding}
use Rattle.ncp_monitor.specs.declared.finding.Rule.TheVariants.{Short}
use Rattle.ncp_monitor.specs.declared.finding.Who.TheVariants.{Host}
use Rattle.ncp_play_audit.specs.FindingLines.{reported_line}
use Rattle.ncp_play_audit.proofs.finding_line.render_findings.Goals as goal

pub loop-finding-init : goal.loop-finding-init
loop-finding-init g c = record {
  said = writes_none (reported_line c.args.standard c.args.number c.args.at) c.args.out.now.page.now (g.W.Sink.written c.args.out.now.sink.now);
  writes = omega arith;
  mark = refl;
  same_outlet = (refl, refl);
}

pub returns-in_err-make_room-clause-output : goal.returns-in_err-make_room-clause-output
returns-in_err-make_room-clause-output g c =
    let w = g.W.Sink in let found = c.args.found.now in let i = c.loop-finding.finding-index in
    answers_broken c.args.out.now.page.now (flat_map (reported_line c.args.standard c.args.number c.args.at) found) (w.written c.args.out.now.sink.now) (w.written c.make_room.new.self.sink.now) c.make_room.new.self.page.now c.from_residual.result c.from_residual.ensures.0
    (writes_items_broken (reported_line c.args.standard c.args.number c.args.at) c.args.out.now.page.now c.loop-finding.out.page.now (w.written c.args.out.now.sink.now) (w.written c.loop-finding.out.sink.now) (w.written c.make_room.new.self.sink.now) (take i found) (drop i found) found c.loop-finding.invariant.said
    c.in_err-make_room.ensures.err (take-append-drop i found))

pub loop-finding-preserved : goal.loop-finding-preserved
loop-finding-preserved g c =
    let w = g.W.Sink in let found = c.args.found.now in let i = c.loop-finding.finding-index in
    let none : Finding = record { who = Host 0; rule = Short 0 } in
    let item : Finding = get_or found i none in
    record {
      said = subst (λ (done : List Finding). WritesText c.args.out.now.page.now (w.written c.args.out.now.sink.now) (flat_map (reported_line c.args.standard c.args.number c.args.at) done) c.push_told.new.page (w.written c.make_room.new.self.sink.now)) (sym (take_more found i none c.loop-finding-test.true))
          (writes_item (reported_line c.args.standard c.args.number c.args.at) c.args.out.now.page.now c.loop-finding.out.page.now c.make_room.new.self.page.now c.push_told.new.page (w.written c.args.out.now.sink.now) (w.written c.loop-finding.out.sink.now) (w.written c.make_room.new.self.sink.now) (take i found) item
          c.loop-finding.invariant.said c.in_ok-make_room.ensures.ok c.push_told.ensures);
      writes = let one = c.in_ok-make_room.ensures.writes in omega (arith, one, c.loop-finding.invariant.writes);
      mark = c.in_ok-make_room.ensures.mark ∙ or-false _ ∙ c.loop-finding.invariant.mark;
      same_outlet = (c.in_ok-make_room.ensures.same_outlet.0 ∙ c.loop-finding.invariant.same_outlet.0, c.in_ok-make_room.ensures.same_outlet.1 ∙ c.loop-finding.invariant.same_outlet.1);
    }

pub returns-clause-output : goal.returns-clause-output
returns-clause-output g c =
    let w = g.W.Sink in let found = c.args.found.now in let i = c.loop-finding.finding-index in
    writes_items (reported_line c.args.standard c.args.number c.args.at) c.args.out.now.page.now c.loop-finding.out.page.now (w.written c.args.out.now.sink.now) (w.written c.loop-finding.out.sink.now) (take i found) (drop i found) found c.loop-finding.invariant.said (take-append-drop i found)
    (drop_of_length-le found c.loop-finding-test.false)
