use Rattle.std.proofs.Common.{◌-◌, length, refl}
use Rattle.ncp_play_script.proofs.HexDigits.{next_round, room_left}
use Rattle.ncp_play_script.proofs.bit_string.bytes_of.Goals as goal

pub loop-rest-preserved : goal.loop-rest-preserved
loop-rest-preserved c =
    let rest = c.loop-rest.rest.now in
    record {
      bytes = next_round c.args.digits.now rest c.loop-rest.bytes.items c.push.new.self.items c.in_ok-high.high c.in_ok-low.low (length rest - 2) c.loop-rest.invariant.bytes
          c.in-len2-up.len_at_least c.in_ok-high.ensures c.in_ok-low.ensures c.push.ensures.items refl;
      room = room_left rest c.loop-rest.bytes.items c.push.new.self.items _ 2048 (length rest - 2) c.loop-rest.invariant.room c.in-len2-up.len_at_least c.push.ensures.items refl;
    }
