use Rattle.std.proofs.Common.{refl}
use Rattle.ncp_play_stream.proofs.sink.ToWriteSink.failed.Goals as goal

pub returns : goal.returns
returns g c = refl
