-- A connection that is restored from its record and its stored bits.
use Rattle.std.specs.Prelude.{ℕ, ◌+◌, ◌==◌, ◌≡◌, ◌≤◌, Bool, true, false, not, ◌&&◌, ◌||◌, nat_le, nat_lt, if◌then◌else◌, is_none, List, length, refl}
use Rattle.std.specs.FinMap.{get}
use Rattle.ncp_model.specs.declared.pair.Pair.{Pair}
use Rattle.ncp_model.specs.declared.limits.TheConstants.{MAX_ROOM, MAX_OWN, MAX_BY_PEER}
use Rattle.ncp_wire.specs.declared.links.TheConstants.{LAST_LINK}
use Rattle.ncp_model.specs.Pairs.{sends}
use Rattle.ncp_model.specs.Endpoint.{Endpoint, is_ended, new_end}
use Rattle.ncp_model.specs.Ends.{Ends, count, any, has_asked, is_by_peer, hears_link, uses_link}
use Rattle.ncp_conn.specs.declared.record.Record.{Record}
use Rattle.ncp_conn.specs.Records.{record_of}

-- the endpoint with this record, these stored bits and `room` bits of room
abbrev pub end_told : Record → List Bool → ℕ → Endpoint
end_told r stored room = record {
  asked = r.asked;
  heard = r.heard;
  opened = r.opened;
  leaving = r.leaving;
  left = r.left;
  cls = r.cls;
  link = r.link;
  size = r.size;
  messages = r.messages;
  bits = r.bits;
  stored = stored;
  room = room;
  busy = r.busy;
  recall = r.recall;
  interrupts = r.interrupts;
}

-- an entry can have this endpoint: it is not over; it has no room before its local request, and never
-- more than a store may have; an endpoint that is no sender has room for the outstanding bits besides the
-- held ones; its link is at most the last
abbrev pub can_be : Pair → Endpoint → Bool
can_be pair e =
    not (is_ended e) && (e.asked || e.room == 0) && nat_le e.room MAX_ROOM
    && (sends pair || nat_le (e.bits + length e.stored) e.room) && nat_le e.link LAST_LINK

-- an entry can have this endpoint, and its stored bits have room
pub record IsPossible (p : Pair × Endpoint) : Type 0 where
  pub can : can_be p.0 p.1 ≡ true
  pub fits : length p.1.stored ≤ p.1.room

-- the table has room for its kind
abbrev pub has_room_for : Endpoint → Ends → Bool
has_room_for e m = if e.asked then nat_lt (count has_asked m) MAX_OWN else nat_lt (count is_by_peer m) MAX_BY_PEER

-- no other endpoint has its link
abbrev pub is_alone_on : Pair → Endpoint → Ends → Bool
is_alone_on pair e m = not (hears_link e.link (pair, e) && any (hears_link e.link) m) && not (uses_link e.link (pair, e) && any (uses_link e.link) m)

-- it can be added to the table: its pair has no endpoint
abbrev pub has_room_for_more : Pair → Endpoint → Ends → Bool
has_room_for_more pair e m = is_none (get m pair) && has_room_for e m && is_alone_on pair e m

abbrev pub may_stand : Pair → Endpoint → Ends → Bool
may_stand pair e m = can_be pair e && has_room_for_more pair e m

-- an endpoint's record, stored bits and room determine it
pub it_is_told : (pair : Pair) (e : Endpoint) → end_told (record_of pair e) e.stored e.room ≡ e
it_is_told pair e = refl

-- an endpoint without a local request has no room
pub unasked_has_no_room : can_be (record { local = 3; remote = 2 }) (record new_end { room = 1 }) ≡ false
unasked_has_no_room = refl

-- nine bits outstanding at a receiver with room for eight: not possible
pub no_more_is_outstanding_than_fits : can_be (record { local = 2; remote = 3 }) (record new_end { asked = true; link = 2; room = 8; bits = 9 }) ≡ false
no_more_is_outstanding_than_fits = refl

pub eight_fit : can_be (record { local = 2; remote = 3 }) (record new_end { asked = true; link = 2; room = 8; bits = 8 }) ≡ true
eight_fit = refl
