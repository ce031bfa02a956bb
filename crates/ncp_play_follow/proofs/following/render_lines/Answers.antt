use Rattle.std.proofs.Common.{List, subst}
use Rattle.std.specs.List.{flat_map}
use Rattle.ncp_follow.specs.declared.connection.Connection.{Connection}
use Rattle.ncp_follow.specs.declared.session.Session.{Session}
use Rattle.ncp_play_stream.specs.Streams.{WritesText, WritesPrefixOf, WritesTextOrPrefixOf}
use Rattle.ncp_play_stream.proofs.Saying.{answers_after, answers_broken, writes_prefix_longer}
use Rattle.ncp_play_follow.specs.ConnectionLines.{connection_lines, stray_line}
use Rattle.ncp_play_follow.proofs.following.render_lines.Goals as goal

pub returns-in_err-render_connections-clause-output : goal.returns-in_err-render_connections-clause-output
returns-in_err-render_connections-clause-output g c =
    let w = g.W.Sink in let follower = c.args.follower.now in
    let was = w.written c.args.out.now.sink.now in let now = w.written c.render_connections.new.out.sink.now in
    answers_broken c.args.out.now.page.now _ was now c.render_connections.new.out.page.now c.from_residual.result c.from_residual.ensures.0
    (writes_prefix_longer c.args.out.now.page.now (flat_map (connection_lines c.args.letters) follower.tables.told) (flat_map stray_line follower.sessions) was now
    (subst (λ (told : List Connection). WritesPrefixOf c.args.out.now.page.now was (flat_map (connection_lines c.args.letters) told) now) c.told.ensures c.in_err-render_connections.ensures.output))

pub returns-clause-output : goal.returns-clause-output
returns-clause-output g c =
    let w = g.W.Sink in let follower = c.args.follower.now in
    let was = w.written c.args.out.now.sink.now in let mid = w.written c.render_connections.new.out.sink.now in let now = w.written c.render_strays.new.out.sink.now in
    answers_after c.args.out.now.page.now (flat_map (connection_lines c.args.letters) follower.tables.told) c.render_connections.new.out.page.now (flat_map stray_line follower.sessions) c.render_strays.new.out.page.now was mid now c.render_strays.result
    (subst (λ (told : List Connection). WritesText c.args.out.now.page.now was (flat_map (connection_lines c.args.letters) told) c.render_connections.new.out.page.now mid) c.told.ensures c.in_ok-render_connections.ensures.output)
    (subst (λ (sessions : List Session). WritesTextOrPrefixOf c.render_connections.new.out.page.now mid (flat_map stray_line sessions) c.render_strays.result c.render_strays.new.out.page.now now) c.sessions.ensures c.render_strays.ensures.output)
