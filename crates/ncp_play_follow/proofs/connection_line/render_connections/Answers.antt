use Rattle.std.proofs.Common.{◌≡◌, ◌+◌, ◌∙◌, List, [], ◌∷◌, ◌++◌, take, drop, refl, sym, ap, subst, arith}
use Rattle.std.specs.List.{flat_map}
use Rattle.std.proofs.Math.Bool.{or-false}
use Rattle.std.proofs.Math.ListN.{drop_of_length-le}
use Rattle.std.proofs.lemmas.List.{take-append-drop, take_more}
use Rattle.ncp_play_stream.specs.Streams.{WritesText}
use Rattle.ncp_play_stream.proofs.Saying.{answers_broken, writes_none, writes_item, writes_items, writes_items_broken}
use Rattle.ncp_follow.specs.declared.connection.Connection.{Connection}
use Rattle.ncp_play_follow.specs.ConnectionLines.{connection_lines}
use Rattle.ncp_play_follow.proofs.connection_line.render_connections.Goals as goal

pub loop-connection-init : goal.loop-connection-init
loop-connection-init g c = record {
  said = writes_none (connection_lines c.args.letters) c.args.out.now.page.now (g.W.Sink.written c.args.out.now.sink.now);
  writes = omega arith;
  mark = refl;
  same_outlet = (refl, refl);
}

pub returns-in_err-make_room-clause-output : goal.returns-in_err-make_room-clause-output
returns-in_err-make_room-clause-output g c =
    let w = g.W.Sink in let all = c.args.told.now in let i = c.loop-connection.connection-index in
    answers_broken c.args.out.now.page.now (flat_map (connection_lines c.args.letters) all) (w.written c.args.out.now.sink.now) (w.written c.make_room.new.self.sink.now) c.make_room.new.self.page.now c.from_residual.result c.from_residual.ensures.0
    (writes_items_broken (connection_lines c.args.letters) c.args.out.now.page.now c.loop-connection.out.page.now (w.written c.args.out.now.sink.now) (w.written c.loop-connection.out.sink.now) (w.written c.make_room.new.self.sink.now) (take i all) (drop i all) all c.loop-connection.invariant.said
    c.in_err-make_room.ensures.err (take-append-drop i all))

pub loop-connection-preserved : goal.loop-connection-preserved
loop-connection-preserved g c =
    let w = g.W.Sink in let all = c.args.told.now in let i = c.loop-connection.connection-index in
    let item : Connection = c.connection-item.result in
    let more : take (i + 1) all ≡ take i all ++ item ∷ [] = take_more all i item c.loop-connection-test.true ∙ ap (λ (it : Connection). take i all ++ it ∷ []) (sym c.connection-item.is) in
    record {
      said = subst (λ (done : List Connection). WritesText c.args.out.now.page.now (w.written c.args.out.now.sink.now) (flat_map (connection_lines c.args.letters) done) c.push_connection.new.page (w.written c.make_room.new.self.sink.now)) (sym more)
          (writes_item (connection_lines c.args.letters) c.args.out.now.page.now c.loop-connection.out.page.now c.make_room.new.self.page.now c.push_connection.new.page (w.written c.args.out.now.sink.now) (w.written c.loop-connection.out.sink.now) (w.written c.make_room.new.self.sink.now) (take i all) item
          c.loop-connection.invariant.said c.in_ok-make_room.ensures.ok c.push_connection.ensures);
      writes = let one = c.in_ok-make_room.ensures.writes in omega (arith, one, c.loop-connection.invariant.writes);
      mark = c.in_ok-make_room.ensures.mark ∙ or-false _ ∙ c.loop-connection.invariant.mark;
      same_outlet = (c.in_ok-make_room.ensures.same_outlet.0 ∙ c.loop-connection.invariant.same_outlet.0, c.in_ok-make_room.ensures.same_outlet.1 ∙ c.loop-connection.invariant.same_outlet.1);
    }

pub returns-clause-output : goal.returns-clause-output
returns-clause-output g c =
    let w = g.W.Sink in let all = c.args.told.now in let i = c.loop-connection.connection-index in
    writes_items (connection_lines c.args.letters) c.args.out.now.page.now c.loop-connection.out.page.now (w.written c.args.out.now.sink.now) (w.written c.loop-connection.out.sink.now) (take i all) (drop i all) all c.loop-connection.invariant.said (take-append-drop i all)
    (drop_of_length-le all c.loop-connection-test.false)
