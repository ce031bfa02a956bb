use Rattle.std.proofs.Common.{◌≡◌, ◌++◌, [], List, ℕ, sym, ap, ◌∙◌}
use Rattle.std.specs.FinMap.{get}
use Rattle.std.proofs.lemmas.List.{append-nil}
use Rattle.ncp_numbers.specs.Bytes.{bytes_of}
use Rattle.ncp_model.specs.Endpoint.{or_new}
use Rattle.ncp_conn.specs.Stores.{stored_in}
use Rattle.ncp_peer.proofs.Joined.{no_bytes}
use Rattle.ncp_peer.proofs.association.saving.put_stored.Goals as goal

pub returns-in-None : goal.returns-in-None
returns-in-None g c =
    let nothing : [] ≡ (or_new (get c.args.table.now c.args.pair)).stored = ap (stored_in g.S.BitStore.held) (sym c.in-None.is) ∙ c.in_ok-store.ensures.stored in
    sym (append-nil c.args.out.now.items) ∙ ap (λ (w : List ℕ). c.args.out.now.items ++ w) (sym no_bytes ∙ ap bytes_of nothing)
