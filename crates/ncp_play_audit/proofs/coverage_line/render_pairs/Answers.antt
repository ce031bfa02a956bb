use Rattle.std.proofs.Common.{◌∙◌, ℕ, List, take, drop, refl, sym, subst, arith}
use Rattle.std.specs.List.{flat_map}
use Rattle.std.proofs.Math.Bool.{or-false}
use Rattle.std.proofs.lemmas.List.{take-append-drop}
use Rattle.ncp_play_stream.specs.Streams.{WritesText}
use Rattle.ncp_play_stream.proofs.Saying.{answers_broken, writes_none, writes_item, writes_items, writes_items_broken}
use Rattle.ncp_play_audit.specs.CoverageLines.{all_places, line_at}
use Rattle.ncp_play_audit.proofs.Places.{place_more, no_place}
use Rattle.ncp_play_audit.proofs.coverage_line.render_pairs.Goals as goal

pub loop-place-init : goal.loop-place-init
loop-place-init g c = record {
  said = writes_none (line_at c.args.monitor.now c.args.coverage.now) c.args.out.now.page.now (g.W.Sink.written c.args.out.now.sink.now);
  writes = omega arith;
  mark = refl;
  same_outlet = (refl, refl);
}

pub returns-in_err-make_room-clause-output : goal.returns-in_err-make_room-clause-output
returns-in_err-make_room-clause-output g c =
    let w = g.W.Sink in let all = all_places in let i = c.loop-place.place in let line = line_at c.args.monitor.now c.args.coverage.now in
    answers_broken c.args.out.now.page.now (flat_map line all) (w.written c.args.out.now.sink.now) (w.written c.make_room.new.self.sink.now) c.make_room.new.self.page.now c.from_residual.result c.from_residual.ensures.0
    (writes_items_broken line c.args.out.now.page.now c.loop-place.out.page.now (w.written c.args.out.now.sink.now) (w.written c.loop-place.out.sink.now) (w.written c.make_room.new.self.sink.now) (take i all) (drop i all) all c.loop-place.invariant.said c.in_err-make_room.ensures.err
    (take-append-drop i all))

pub loop-place-preserved : goal.loop-place-preserved
loop-place-preserved g c =
    let w = g.W.Sink in let all = all_places in let i = c.loop-place.place in let line = line_at c.args.monitor.now c.args.coverage.now in
    record {
      said = subst (λ (done : List ℕ). WritesText c.args.out.now.page.now (w.written c.args.out.now.sink.now) (flat_map line done) c.push_pair.new.page (w.written c.make_room.new.self.sink.now)) (sym (place_more i c.loop-place-test.true))
          (writes_item line c.args.out.now.page.now c.loop-place.out.page.now c.make_room.new.self.page.now c.push_pair.new.page (w.written c.args.out.now.sink.now) (w.written c.loop-place.out.sink.now) (w.written c.make_room.new.self.sink.now) (take i all) i c.loop-place.invariant.said
          c.in_ok-make_room.ensures.ok c.push_pair.ensures);
      writes = let one = c.in_ok-make_room.ensures.writes in omega (arith, one, c.loop-place.invariant.writes);
      mark = c.in_ok-make_room.ensures.mark ∙ or-false _ ∙ c.loop-place.invariant.mark;
      same_outlet = (c.in_ok-make_room.ensures.same_outlet.0 ∙ c.loop-place.invariant.same_outlet.0, c.in_ok-make_room.ensures.same_outlet.1 ∙ c.loop-place.invariant.same_outlet.1);
    }

pub returns-clause-output : goal.returns-clause-output
returns-clause-output g c =
    let w = g.W.Sink in let all = all_places in let i = c.loop-place.place in let line = line_at c.args.monitor.now c.args.coverage.now in
    writes_items line c.args.out.now.page.now c.loop-place.out.page.now (w.written c.args.out.now.sink.now) (w.written c.loop-place.out.sink.now) (take i all) (drop i all) all c.loop-place.invariant.said (take-append-drop i all)
    (no_place i (omega (arith, c.loop-place-test.false)))
