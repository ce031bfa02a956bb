use Rattle.ncp_play_buffer.proofs.out_buffer.+count_digits.Given as goal

abbrev pub decreases-count_digits : goal.decreases-count_digits
decreases-count_digits l = l.number
