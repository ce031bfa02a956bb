-- The phase, the echo and the errors of one peer, as bytes of a saved host.
use Rattle.std.specs.Prelude.{ℕ, List, ◌∷◌, ◌++◌}
use Rattle.ncp_model.specs.Phase.{Phase}
use Rattle.ncp_model.specs.Echo.{Echoes}
use Rattle.ncp_saved.specs.Values.{mark, listed, command_saved, error_saved, echoed_saved}

-- the flags, then the queued commands
unfoldable pub phase_saved : Phase → List ℕ
phase_saved p = mark p.down ∷ mark p.want ∷ mark p.owe ∷ mark p.wait ∷ listed command_saved p.waiting

unfoldable pub echoes_saved : Echoes → List ℕ
echoes_saved s = mark s.awaited ∷ echoed_saved s.echoed ++ listed error_saved s.errors
