use Rattle.ncp_play_script.proofs.line_words.Words.next_u32.Goals as goal

pub returns : goal.returns
returns c = c.next_number.ensures
