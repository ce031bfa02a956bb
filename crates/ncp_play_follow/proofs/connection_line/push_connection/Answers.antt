use Rattle.ncp_play_stream.proofs.Saying.{three_pushed}
use Rattle.ncp_play_follow.specs.ConnectionLines.{connection_line, said_line, letters_if, connection_lines}
use Rattle.ncp_play_follow.proofs.connection_line.push_connection.Goals as goal

pub returns : goal.returns
unfolding connection_lines
returns c =
    three_pushed c.args.page.now (connection_line c.args.connection.now) (said_line c.args.connection.now) (letters_if c.args.letters c.args.connection.now) c.push_front.new.page c.push_text.new.page
    c.push_letters_if.new.page c.push_front.ensures.bytes c.push_text.ensures.bytes c.push_letters_if.ensures
