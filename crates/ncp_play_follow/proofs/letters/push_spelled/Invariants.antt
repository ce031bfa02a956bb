-- The bytes before the place are on the page.
use Rattle.std.proofs.Common.{◌≡◌, ◌≤◌, ◌+◌, ◌*◌, ◌++◌, length, take}
use Rattle.std.specs.List.{flat_map}
use Rattle.ncp_play_explain.specs.Spelling.{spelled}
use Rattle.ncp_play_follow.proofs.letters.push_spelled.Given as goal

abbrev pub invariant-loop-byte : goal.invariant-loop-byte
invariant-loop-byte l =
    record {
      bytes : l.page ≡ l.initial.page ++ flat_map spelled (take l.byte-index l.bytes);
      len : length l.page ≤ length l.initial.page + 4 * l.byte-index;
    }
