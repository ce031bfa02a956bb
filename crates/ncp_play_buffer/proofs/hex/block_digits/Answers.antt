use Rattle.ncp_play_buffer.proofs.Digits.{woven}
use Rattle.ncp_play_buffer.proofs.hex.block_digits.Goals as goal

pub returns : goal.returns
returns c = rw (c.first_digits.ensures, c.second_digits.ensures) (woven c.args.bytes c.fits-bytes.0)
