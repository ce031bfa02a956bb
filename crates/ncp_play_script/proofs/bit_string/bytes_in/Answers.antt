use Rattle.std.proofs.Common.{ℕ, ◌+◌, ◌-◌, ◌*◌, ◌≤◌, length, take, drop, refl, sym, ap, subst}
use Rattle.ncp_play_script.proofs.HexDigits.{next_round, room_left}
use Rattle.ncp_play_script.proofs.bit_string.bytes_in.Goals as goal

pub loop-rest-preserved : goal.loop-rest-preserved
loop-rest-preserved c =
    let rest = c.loop-rest.rest.now in let bytes = c.push_reserved.new.self.items in
    record {
      bytes = next_round c.args.digits.now rest c.loop-rest.bytes.items bytes c.in_ok-high.high c.in_ok-low.low (length rest - 2) c.loop-rest.invariant.bytes
          c.in-len2-up.len_at_least c.in_ok-high.ensures c.in_ok-low.ensures c.push_reserved.ensures.items refl;
      room = subst (λ (most : ℕ). 2 * length bytes + length (take (length rest - 2) (drop 2 rest)) ≤ most) (ap (λ n. 2 * n) (sym c.push_reserved.ensures.capacity))
          (room_left rest c.loop-rest.bytes.items bytes _ _ (length rest - 2) c.loop-rest.invariant.room c.in-len2-up.len_at_least c.push_reserved.ensures.items refl);
    }
