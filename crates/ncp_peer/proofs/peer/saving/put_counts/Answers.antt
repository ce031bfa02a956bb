use Rattle.std.proofs.Common.{◌≡◌, ◌++◌}
use Rattle.std.proofs.lemmas.Result.{on_ok_weaker}
use Rattle.ncp_saved.specs.Values.{four_bytes}
use Rattle.ncp_peer.specs.SavedPeer.{counts_saved}
use Rattle.ncp_peer.proofs.Joined.{counts_joined}
use Rattle.ncp_peer.proofs.peer.saving.put_counts.Goals as goal

pub returns : goal.returns
unfolding counts_saved
returns c = on_ok_weaker c.put_four.result
    (λ (is : c.put_four.new.out.items ≡ c.put_three-2.new.out.items ++ four_bytes c.args.counts.now.over).
    counts_joined c.args.out.now.items (four_bytes c.args.counts.now.stray) (four_bytes c.args.counts.now.faults) (four_bytes c.args.counts.now.wrong_link) (four_bytes c.args.counts.now.wrong_size) (four_bytes c.args.counts.now.not_up) (four_bytes c.args.counts.now.late) (four_bytes c.args.counts.now.over)
    c.put_three.new.out.items c.put_three-2.new.out.items c.put_four.new.out.items c.in_ok-put_three.ensures c.in_ok-put_three-2.ensures is)
    c.put_four.ensures
