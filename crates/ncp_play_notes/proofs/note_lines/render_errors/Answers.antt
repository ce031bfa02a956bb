use Rattle.std.proofs.Common.{◌∙◌, List, [], take, drop, get_or, refl, sym, subst, arith}
use Rattle.std.proofs.Math.Bool.{or-false}
use Rattle.std.proofs.Math.ListN.{drop_of_length-le}
use Rattle.std.proofs.lemmas.List.{take-append-drop, take_more}
use Rattle.ncp_model.specs.declared.outcomes.Error.{Error}
use Rattle.ncp_play_stream.specs.Streams.{WritesText}
use Rattle.ncp_play_stream.proofs.Saying.{answers_broken, writes_none, writes_item, writes_items, writes_items_broken}
use Rattle.ncp_play_notes.specs.Results.{error_line, error_lines}
use Rattle.ncp_play_notes.proofs.note_lines.render_errors.Goals as goal

pub loop-error-init : goal.loop-error-init
loop-error-init g c = record {
  said = writes_none error_line c.args.out.now.page.now (g.W.Sink.written c.args.out.now.sink.now);
  writes = omega arith;
  mark = refl;
  same_outlet = (refl, refl);
}

pub returns-in_err-make_room-clause-output : goal.returns-in_err-make_room-clause-output
returns-in_err-make_room-clause-output g c =
    let w = g.W.Sink in let errors = c.args.errors.now in let i = c.loop-error.error-index in
    answers_broken c.args.out.now.page.now (error_lines errors) (w.written c.args.out.now.sink.now) (w.written c.make_room.new.self.sink.now) c.make_room.new.self.page.now c.from_residual.result c.from_residual.ensures.0
    (writes_items_broken error_line c.args.out.now.page.now c.loop-error.out.page.now (w.written c.args.out.now.sink.now) (w.written c.loop-error.out.sink.now) (w.written c.make_room.new.self.sink.now) (take i errors) (drop i errors) errors c.loop-error.invariant.said
    c.in_err-make_room.ensures.err (take-append-drop i errors))

pub loop-error-preserved : goal.loop-error-preserved
loop-error-preserved g c =
    let w = g.W.Sink in let errors = c.args.errors.now in let i = c.loop-error.error-index in
    let item : Error = get_or errors i (record { code = 0; bytes = [] }) in
    record {
      said = subst (λ (done : List Error). WritesText c.args.out.now.page.now (w.written c.args.out.now.sink.now) (error_lines done) c.push_error_line.new.page (w.written c.make_room.new.self.sink.now)) (sym (take_more errors i (record { code = 0; bytes = [] }) c.loop-error-test.true))
          (writes_item error_line c.args.out.now.page.now c.loop-error.out.page.now c.make_room.new.self.page.now c.push_error_line.new.page (w.written c.args.out.now.sink.now) (w.written c.loop-error.out.sink.now) (w.written c.make_room.new.self.sink.now) (take i errors) item
          c.loop-error.invariant.said c.in_ok-make_room.ensures.ok c.push_error_line.ensures);
      writes = let one = c.in_ok-make_room.ensures.writes in omega (arith, one, c.loop-error.invariant.writes);
      mark = c.in_ok-make_room.ensures.mark ∙ or-false _ ∙ c.loop-error.invariant.mark;
      same_outlet = (c.in_ok-make_room.ensures.same_outlet.0 ∙ c.loop-error.invariant.same_outlet.0, c.in_ok-make_room.ensures.same_outlet.1 ∙ c.loop-error.invariant.same_outlet.1);
    }

pub returns-clause-output : goal.returns-clause-output
returns-clause-output g c =
    let w = g.W.Sink in let errors = c.args.errors.now in let i = c.loop-error.error-index in
    writes_items error_line c.args.out.now.page.now c.loop-error.out.page.now (w.written c.args.out.now.sink.now) (w.written c.loop-error.out.sink.now) (take i errors) (drop i errors) errors c.loop-error.invariant.said (take-append-drop i errors)
    (drop_of_length-le errors c.loop-error-test.false)
