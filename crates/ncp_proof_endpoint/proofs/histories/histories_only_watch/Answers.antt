use Rattle.std.proofs.Common.{◌≡◌, List, [], ◌∷◌, refl}
use Rattle.ncp_model.specs.declared.pair.Pair.{Pair}
use Rattle.ncp_model.specs.EndpointEvents.{EndpointEvent, end_from}
use Rattle.ncp_proof_endpoint.specs.Histories.{EndpointWithHistory, watches, watch_from}
use Rattle.ncp_proof_endpoint.proofs.histories.histories_only_watch.Goals as goal

end-watch_from : (pair : Pair) (whats : List EndpointEvent) (w : EndpointWithHistory) → (watch_from pair whats w).end ≡ end_from pair whats w.end
end-watch_from pair [] w = refl
end-watch_from pair (what ∷ more) w = end-watch_from pair more (watches pair what w)

pub returns : goal.returns
returns c = end-watch_from
