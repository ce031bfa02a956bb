use Rattle.ncp_play_files.proofs.writing.push_header.Goals as goal

pub returns-in-Two-clause-bytes : goal.returns-in-Two-clause-bytes
returns-in-Two-clause-bytes c = rw c.in-Two.is c.push_text-in-Two.ensures.bytes
