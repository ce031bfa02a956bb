-- A worked case of what a host stores of a connection, and what was observed of it, while a request of
-- the host is queued.
use Rattle.std.specs.Prelude.{false, [], ◌∷◌, None, Some}
use Rattle.ncp_monitor.proofs.Shapes.{Shape, Ask, Agrees}

-- the peer has asked, for bytes of eight bits
abbrev pub other_has_asked : Shape
other_has_asked = record { own = None; others = Some 8; left = false; cls = false }

-- and the host, with link 5
abbrev pub both_have_asked : Shape
both_have_asked = record { own = Some 5; others = Some 8; left = false; cls = false }

abbrev pub RequestWaits : Type 0
RequestWaits = Agrees (Ask 5 ∷ []) (Some both_have_asked) (Some other_has_asked)
