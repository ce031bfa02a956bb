-- The list of all views (Tables) while one of them is borrowed.
use Rattle.std.specs.Prelude.{ℕ, List}
use Rattle.std.specs.Borrow.{Lends, Fml, MutBor}
use Rattle.ncp_monitor.specs.contracts.view.View.{the_row as view_row}
use Rattle.ncp_monitor.specs.contracts.views.Views.{the_row}
use Rattle.ncp_monitor.specs.declared.view.View.{View}
use Rattle.ncp_monitor.specs.Tables.{with_view}

-- the final value of the reference is the host's view of the peer
abbrev pub LendsView : MutBor (List View) → ℕ → ℕ → MutBor View → Fml
LendsView s at peer r = Lends the_row view_row s r (with_view s.now at peer)
