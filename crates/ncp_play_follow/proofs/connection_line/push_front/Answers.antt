use Rattle.std.proofs.Common.{codes}
use Rattle.ncp_play_stream.proofs.Saying.{three_pushed}
use Rattle.ncp_play_follow.specs.ConnectionLines.{conn_words, allocation_words}
use Rattle.ncp_play_follow.proofs.connection_line.push_front.Goals as goal

pub returns-clause-bytes : goal.returns-clause-bytes
returns-clause-bytes c =
    three_pushed c.args.page.now (conn_words c.args.connection.now) (allocation_words c.args.connection.now) (codes "\n") c.push_conn.new.page c.push_allocation.new.page c.push.new.self c.push_conn.ensures.bytes
    c.push_allocation.ensures.bytes c.push.ensures.bytes
