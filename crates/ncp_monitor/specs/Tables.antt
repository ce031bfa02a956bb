-- A view is what one host's interface shows of it and one peer. The views of each host of each other
-- host, as one list.
use Rattle.std.specs.Prelude.{ℕ, ◌+◌, ◌*◌, false, List, get_or, slice_set}
use Rattle.ncp_monitor.specs.declared.view.View.{View}
use Rattle.ncp_monitor.specs.declared.views.TheConstants.{HOSTS}
use Rattle.ncp_monitor.specs.Views.{new_view}

abbrev pub index_of : ℕ → ℕ → ℕ
index_of at peer = HOSTS * at + peer

abbrev pub view_in : List View → ℕ → ℕ → View
view_in views at peer = get_or views (index_of at peer) (new_view false)

abbrev pub with_view : List View → ℕ → ℕ → View → List View
with_view views at peer view = slice_set views (index_of at peer) view
