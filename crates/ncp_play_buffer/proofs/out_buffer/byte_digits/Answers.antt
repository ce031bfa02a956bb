use Rattle.ncp_play_buffer.proofs.Decimal.{byte_known}
use Rattle.ncp_play_buffer.proofs.out_buffer.byte_digits.Goals as goal

pub returns-clause-digits : goal.returns-clause-digits
returns-clause-digits c = rw c.from-at.ensures (byte_known c.args.number c.ranges.number.fits)
