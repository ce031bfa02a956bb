-- Changes of a connection, in rows: the reading seen before, the reading now, and the changes returned.
use Rattle.std.specs.Prelude.{◌≡◌, true, None, Some}
use Rattle.ncp_results.specs.declared.changes.Changes.{Changes}
use Rattle.ncp_results.specs.declared.connection.ConnectionInfo.{ConnectionInfo}
use Rattle.ncp_results.specs.Changes.{no_connection, changes_between}

abbrev pub TellsChanges : ConnectionInfo → ConnectionInfo → Changes → Type 0
TellsChanges seen now changes = changes_between seen (Some now) ≡ changes

-- it no longer exists
abbrev pub TellsEnding : ConnectionInfo → Changes → Type 0
TellsEnding seen changes = changes_between seen None ≡ changes

-- it was asked for here, or by the peer, or by both
abbrev pub asked_here : ConnectionInfo
asked_here = record no_connection { asked = true }

abbrev pub asked_there : ConnectionInfo
asked_there = record no_connection { heard = true; link = 7 }

abbrev pub both_asked : ConnectionInfo
both_asked = record no_connection { asked = true; heard = true; opened = true }
