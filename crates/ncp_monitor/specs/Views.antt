-- How far a host has come up with another (its phase), as its interface shows by the RSTs and RRPs of
-- both (NIC 8246, RST and RRP): which of the two awaits an RRP, and how many resets each has not
-- answered.
use Rattle.std.specs.Prelude.{ℕ, ◌+◌, ◌-◌, ◌==◌, ◌^◌, not, Bool, true, false, min, if◌then◌else◌}
use Rattle.ncp_monitor.specs.declared.view.Wait.{Wait}
use Rattle.ncp_monitor.specs.declared.view.Wait.TheVariants.{Answered, Even, Waiting}
use Rattle.ncp_monitor.specs.declared.view.ObservedPhase.{ObservedPhase}
use Rattle.ncp_monitor.specs.declared.view.View.{View}

-- one RRP is awaited
abbrev pub awaits_reply : Wait → Bool
awaits_reply Answered = false
awaits_reply Even = false
awaits_reply Waiting = true

-- an unasked RRP arrived
abbrev pub is_answered_too_often : Wait → Bool
is_answered_too_often Answered = true
is_answered_too_often Even = false
is_answered_too_often Waiting = false

-- after an RST of this side: at most one RRP is awaited
abbrev pub more_waiting : Wait → Wait
more_waiting Answered = Even
more_waiting Even = Waiting
more_waiting Waiting = Waiting

-- after an RRP of the other side: at most one is unasked
abbrev pub less_waiting : Wait → Wait
less_waiting Answered = Answered
less_waiting Even = Answered
less_waiting Waiting = Even

-- one more unanswered reset; saturates
abbrev pub one_reset_more : ℕ → ℕ
one_reset_more asked = min (asked + 1) (2 ^ 32 - 1)

-- one unanswered reset less; at the largest number it stays, since the true count may be greater
abbrev pub one_less : ℕ → ℕ
one_less asked = if asked == 2 ^ 32 - 1 then asked else asked - 1

-- nothing observed of a side; in a partial capture it may have begun before, and one RRP that no RST
-- asked for is admitted
abbrev pub new_side : Bool → ObservedPhase
new_side part = record { began = part; wait = Even; asked = 0; admits = part }

-- in a partial capture an RRP may have arrived for an RST of the host that is still queued
abbrev pub first_wait : Bool → Wait
first_wait part = if part then Answered else Even

-- the host at whose interface it is observed
abbrev pub new_host_side : Bool → ObservedPhase
new_host_side part = record (new_side part) { wait = first_wait part }

-- both hosts are down; in a partial capture nothing is known of them
abbrev pub new_view : Bool → View
new_view part = record {
  host = new_host_side part;
  peer = new_side part;
  owes = false;
  first = false;
  desynced = false;
  suspended = false;
  acted = false;
  overlapped = false;
  told = not part;
  known = not part;
}
