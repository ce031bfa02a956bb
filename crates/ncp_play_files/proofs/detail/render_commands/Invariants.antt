use Rattle.std.proofs.Common.{◌≡◌, ◌≤◌, ◌+◌, ◌++◌, length}
use Rattle.ncp_play_buffer.specs.BufferedSinks.{SameOutlet, write_failed, write_budget, RendersAll}
use Rattle.std.specs.List.{flat_map}
use Rattle.ncp_play_files.specs.Lines.{item_line}
use Rattle.ncp_play_files.proofs.detail.render_commands.Given as goal

abbrev pub invariant-loop-item : goal.invariant-loop-item
invariant-loop-item g l =
    let w = g.W.Sink in
    record {
      can : (goal.iterator-loop-item g).can_next l.item-iterator;
      ends : (goal.iterator-loop-item g).is_finite l.item-iterator;
      items : l.yielded ++ l.item-iterator ≡ l.initial.item-iterator;
      room : length l.out.page.now + 128 ≤ 16384;
      said : RendersAll w l.initial.out (flat_map item_line l.yielded) l.out;
      writes : write_budget w l.initial.out ≤ write_budget w l.out;
      mark : write_failed w l.out ≡ write_failed w l.initial.out;
      same_outlet : SameOutlet l.initial.out l.out;
    }
