use Rattle.std.proofs.Common.{◌∙◌, List, false, take, drop, get_or, refl, sym, subst, arith}
use Rattle.std.specs.List.{flat_map}
use Rattle.std.proofs.Math.Bool.{or-false}
use Rattle.std.proofs.Math.ListN.{drop_of_length-le}
use Rattle.std.proofs.lemmas.List.{take-append-drop, take_more}
use Rattle.ncp_play_stream.specs.Streams.{WritesText}
use Rattle.ncp_play_stream.proofs.Saying.{answers_broken, writes_none, writes_item, writes_items, writes_items_broken}
use Rattle.ncp_follow.specs.Sessions.{new_session}
use Rattle.ncp_follow.specs.declared.session.Session.{Session}
use Rattle.ncp_play_follow.specs.ConnectionLines.{stray_line}
use Rattle.ncp_play_follow.proofs.stray_line.render_strays.Goals as goal

pub loop-session-init : goal.loop-session-init
loop-session-init g c = record {
  said = writes_none stray_line c.args.out.now.page.now (g.W.Sink.written c.args.out.now.sink.now);
  writes = omega arith;
  mark = refl;
  same_outlet = (refl, refl);
}

pub returns-in_err-make_room-clause-output : goal.returns-in_err-make_room-clause-output
returns-in_err-make_room-clause-output g c =
    let w = g.W.Sink in let all = c.args.sessions.now in let i = c.loop-session.session-index in
    answers_broken c.args.out.now.page.now (flat_map stray_line all) (w.written c.args.out.now.sink.now) (w.written c.make_room.new.self.sink.now) c.make_room.new.self.page.now c.from_residual.result c.from_residual.ensures.0
    (writes_items_broken stray_line c.args.out.now.page.now c.loop-session.out.page.now (w.written c.args.out.now.sink.now) (w.written c.loop-session.out.sink.now) (w.written c.make_room.new.self.sink.now) (take i all) (drop i all) all c.loop-session.invariant.said
    c.in_err-make_room.ensures.err (take-append-drop i all))

pub loop-session-preserved : goal.loop-session-preserved
loop-session-preserved g c =
    let w = g.W.Sink in let all = c.args.sessions.now in let i = c.loop-session.session-index in
    let none : Session = new_session false 0 0 in
    let item : Session = get_or all i none in
    record {
      said = subst (λ (done : List Session). WritesText c.args.out.now.page.now (w.written c.args.out.now.sink.now) (flat_map stray_line done) c.push_stray.new.page (w.written c.make_room.new.self.sink.now)) (sym (take_more all i none c.loop-session-test.true))
          (writes_item stray_line c.args.out.now.page.now c.loop-session.out.page.now c.make_room.new.self.page.now c.push_stray.new.page (w.written c.args.out.now.sink.now) (w.written c.loop-session.out.sink.now) (w.written c.make_room.new.self.sink.now) (take i all) item
          c.loop-session.invariant.said c.in_ok-make_room.ensures.ok c.push_stray.ensures);
      writes = let one = c.in_ok-make_room.ensures.writes in omega (arith, one, c.loop-session.invariant.writes);
      mark = c.in_ok-make_room.ensures.mark ∙ or-false _ ∙ c.loop-session.invariant.mark;
      same_outlet = (c.in_ok-make_room.ensures.same_outlet.0 ∙ c.loop-session.invariant.same_outlet.0, c.in_ok-make_room.ensures.same_outlet.1 ∙ c.loop-session.invariant.same_outlet.1);
    }

pub returns-clause-output : goal.returns-clause-output
returns-clause-output g c =
    let w = g.W.Sink in let all = c.args.sessions.now in let i = c.loop-session.session-index in
    writes_items stray_line c.args.out.now.page.now c.loop-session.out.page.now (w.written c.args.out.now.sink.now) (w.written c.loop-session.out.sink.now) (take i all) (drop i all) all c.loop-session.invariant.said (take-append-drop i all)
    (drop_of_length-le all c.loop-session-test.false)
