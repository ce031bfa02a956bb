use Rattle.ncp_play_buffer.proofs.in_buffer.InBuffer.unread.Goals as goal

pub returns-clause-bytes : goal.returns-clause-bytes
returns-clause-bytes c = c.self.view_is
