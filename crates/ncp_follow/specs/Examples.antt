-- Two hosts for the examples of the definitions: host 1 and host 2, at the interface of host 1.
use Rattle.std.specs.Prelude.{ℕ, true, false, List, [], ◌∷◌, replicate, map, Ok}
use Rattle.ncp_wire.specs.declared.command.Command.{Command}
use Rattle.ncp_wire.specs.declared.command.Command.TheVariants.{Rts, Str, Cls, All as Allocate, Gvb, Ret, Ins}
use Rattle.ncp_follow.specs.declared.session.Session.{Session}
use Rattle.ncp_follow.specs.declared.tables.Tables.{Tables}
use Rattle.ncp_follow.specs.declared.observation.Observation.{Observation}
use Rattle.ncp_follow.specs.Sessions.{new_session, session_after_reset, session_after_reply}
use Rattle.ncp_follow.specs.Followed.{tables_after_all, text_tables}

-- a message of host 1, and one of host 2, with their record's number
abbrev pub observation_out : ℕ → Observation
observation_out number = record { number = number; at = 1; peer = 2; sent = true }

abbrev pub observation_in : ℕ → Observation
observation_in number = record { number = number; at = 1; peer = 2; sent = false }

-- host 2 reset host 1, which answered
abbrev pub in_touch : Session
in_touch = session_after_reply (session_after_reset (new_session false 1 2) false) true

abbrev pub tables_send : ℕ → List Command → Tables → Tables
tables_send number commands tables = tables_after_all (observation_out number) (map Ok commands) in_touch tables

abbrev pub tables_hear : ℕ → List Command → Tables → Tables
tables_hear number commands tables = tables_after_all (observation_in number) (map Ok commands) in_touch tables

-- a text of `bits` set bits, in bytes of this size, is sent, or arrives
abbrev pub says : ℕ → ℕ → ℕ → ℕ → Tables → Tables
says number link size bits tables = text_tables (observation_out number) link size (replicate bits true) in_touch tables

abbrev pub tables_after_text : ℕ → ℕ → ℕ → ℕ → Tables → Tables
tables_after_text number link size bits tables = text_tables (observation_in number) link size (replicate bits true) in_touch tables

abbrev pub no_tables : Tables
no_tables = record { tracks = []; told = [] }

-- socket 3 of host 1 sends to socket 2 of host 2
abbrev pub as_sender : Tables
as_sender = tables_hear 6 (Rts 2 3 2 ∷ []) (tables_send 4 (Str 3 2 8 ∷ []) no_tables)

-- texts beyond the allocation and with another byte size; then some is returned
abbrev pub overdrawn : Tables
overdrawn =
    tables_send 16 (Ret 2 2 8 ∷ []) (tables_hear 15 (Gvb 2 64 1 ∷ []) (tables_hear 14 (Allocate 2 5 1000 ∷ [])
    (says 12 2 8 16 (says 10 2 7 56 (tables_hear 9 (Allocate 2 2 16 ∷ []) as_sender)))))

-- one text, with allocation for it and one more
abbrev pub spoken : Tables
spoken = says 8 2 8 8 (tables_hear 7 (Allocate 2 2 16 ∷ []) as_sender)

-- the sender closes after a text, and socket 4 of host 1 receives from socket 5 of host 2
abbrev pub left : Tables
left =
    tables_hear 22 (Ret 2 65535 17 ∷ []) (tables_send 18 (Allocate 2 1 8 ∷ []) (tables_send 16 (Allocate 2 65535 8 ∷ []) (tables_hear 15 (Str 5 4 8 ∷ []) (tables_send 13 (Rts 4 5 2 ∷ [])
    (tables_send 11 (Ins 2 ∷ []) (tables_send 9 (Cls 3 2 ∷ []) spoken))))))

-- host 1 receives, and closes before a text arrives
abbrev pub crossed : Tables
crossed =
    tables_hear 22 (Cls 3 2 ∷ []) (tables_after_text 21 2 8 16 (tables_send 20 (Cls 2 3 ∷ []) (tables_send 12 (Allocate 2 2 16 ∷ []) (tables_hear 11 (Str 3 2 8 ∷ []) (tables_send 10 (Rts 2 3 2 ∷ []) no_tables)))))
