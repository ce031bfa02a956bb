use Rattle.ncp_play_buffer.proofs.Digits.{block_written}
use Rattle.ncp_play_buffer.proofs.hex.write_block.Goals as goal

pub returns-clause-digits : goal.returns-clause-digits
returns-clause-digits c = block_written c.args.out.now c.args.bytes.now c.block_digits-digits.result c.args.at c.requires.inside c.requires.room c.requires.front c.block_digits-digits.ensures
