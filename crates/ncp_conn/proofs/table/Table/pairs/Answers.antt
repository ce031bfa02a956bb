use Rattle.std.proofs.Common.{ℕ, List, Option, map, is_some, sym, ap, ◌∙◌}
use Rattle.std.specs.List.{count_by}
use Rattle.std.specs.FinMap as finmap
use Rattle.slab.specs.Slab.{values}
use Rattle.ncp_model.specs.declared.pair.Pair.{Pair}
use Rattle.ncp_model.specs.Pairs.{same}
use Rattle.ncp_model.specs.Endpoint.{Endpoint}
use Rattle.ncp_model.specs.Ends.{Ends}
use Rattle.ncp_conn.proofs.Finding.{get_is}
use Rattle.ncp_conn.proofs.Counts.{one}
use Rattle.ncp_conn.proofs.Cutting.{pairs_counted, each_once}
use Rattle.ncp_conn.proofs.table.Table.pairs.Goals as goal

pub returns : goal.returns
returns g c = λ k.
    ap (λ (es : List (ℕ × (Pair × Endpoint))). count_by (λ other. same other k) (map (λ e. e.1.0) es)) c.iter.ensures.rest
    ∙ pairs_counted 0 c.self.inside.entries.slab.slots k
    ∙ each_once (values c.self.inside.entries.slab) k c.self.invariant.table.are
    ∙ ap (λ (o : Option Endpoint). one (is_some o)) (sym (get_is (values c.self.inside.entries.slab) k) ∙ ap (λ (m : Ends). finmap.get m k) c.self.view_is)
