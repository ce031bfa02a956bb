use Rattle.std.proofs.Common.{◌≡◌, ◌++◌, ◌∷◌, [], List, Bool, length, map, sym, ap}
use Rattle.std.proofs.lemmas.Result.{on_ok_weaker}
use Rattle.ncp_numbers.specs.Bytes.{bytes_of}
use Rattle.ncp_saved.specs.Values.{mark, two_bytes, four_bytes, bits_saved}
use Rattle.ncp_peer.specs.SavedPeer.{end_saved}
use Rattle.ncp_peer.proofs.Joined.{end_joined}
use Rattle.ncp_peer.proofs.association.saving.put_record.Goals as goal

pub returns : goal.returns
unfolding end_saved bits_saved
returns c = on_ok_weaker c.put_four.result
    (λ (is : c.put_four.new.out.items ≡ c.put_three.new.out.items ++ four_bytes c.args.told.now.stored) (stored : List Bool) (many : length stored ≡ c.args.told.now.stored).
    end_joined c.args.out.now.items
    (map mark (c.args.told.now.asked ∷ c.args.told.now.heard ∷ c.args.told.now.opened ∷ c.args.told.now.leaving ∷ c.args.told.now.left ∷ c.args.told.now.cls ∷ c.args.told.now.busy ∷ c.args.told.now.recall ∷ []))
    (c.args.told.now.link ∷ c.args.told.now.size ∷ two_bytes c.args.told.now.messages)
    (four_bytes c.args.told.now.bits) (four_bytes c.args.room) (four_bytes c.args.told.now.interrupts) (four_bytes c.args.told.now.stored) (four_bytes (length stored)) (bytes_of stored)
    c.put_standing.new.out.items c.put_way.new.out.items c.put_three.new.out.items c.put_four.new.out.items
    c.in_ok-put_standing.ensures c.in_ok-put_way.ensures c.in_ok-put_three.ensures is (ap four_bytes (sym many)))
    c.put_four.ensures
