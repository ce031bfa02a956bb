-- Two hosts that reset, and a control link in each direction between them. Each step is defined once, for
-- "this host" and "that host". The rest of the hosts is left open: when their data links are quiet, their
-- replies, and when they go down are data of the events. Phase and Delivery state which rules come from
-- the standards.
use Rattle.std.specs.Prelude.{◌≡◌, ℕ, ◌+◌, Bool, false, ◌&&◌, if◌then◌else◌, List, [], ◌∷◌, ◌++◌, take, drop, Option, None, Some}
use Rattle.std.specs.List.{filter}
use Rattle.ncp_wire.specs.declared.command.Command.{Command}
use Rattle.ncp_wire.specs.declared.command.Command.TheVariants.{Rst, Rrp}
use Rattle.ncp_model.specs.Phase.{Phase, new_phase, up, is_reset, is_other, phase_settles, is_resetting, resets, hears_rst, hears_rrp, goes_down, has_room_for_one, queued, Reaction}
use Rattle.ncp_proof_machine.specs.Delivery.{Slot, Empty, Ready, Travelling, Held, MessageTransit, Free, Accepted, Delivered, Lost, Dead, Link, idle, out, undelivered, link_answered, message_not_come, woken}

-- a host's phase, with the other commands that it made, and those it received while it was up, each since
-- its last clearing
pub record ResetHost : Type 0 where
  pub phase : Phase
  pub made : List Command
  pub came : List Command

abbrev pub is_up : ResetHost → Bool
is_up h = up h.phase

-- a host that a step of the phase clears
abbrev pub anew : Phase → ResetHost
anew p = record { phase = p; made = []; came = [] }

abbrev pub host_resets : Bool → ResetHost → ResetHost
host_resets quiet h = if is_resetting h.phase then h else anew (resets quiet h.phase)

abbrev pub host_settles : Bool → ResetHost → ResetHost
host_settles quiet h = record h { phase = phase_settles quiet h.phase }

abbrev pub host_falls : ResetHost → ResetHost
host_falls h = anew (goes_down h.phase)

abbrev pub host_makes : Command → ResetHost → ResetHost
host_makes c h =
    if is_up h && is_other c
    then (if has_room_for_one h.phase then record h { phase = queued c h.phase; made = h.made ++ c ∷ [] } else host_falls h)
    else h

abbrev pub host_makes_all : List Command → ResetHost → ResetHost
host_makes_all [] h = h
host_makes_all (c ∷ cs) h = host_makes_all cs (host_makes c h)

abbrev pub host_hears_other : Command → Reaction → ResetHost → ResetHost
host_hears_other c r h =
    if is_up h
    then (if r.full then host_falls h else host_makes_all r.replies (record h { came = h.came ++ c ∷ [] }))
    else h

abbrev pub host_hears : Command → Reaction → ResetHost → ResetHost
host_hears Rst r h = anew (hears_rst r.quiet h.phase)
host_hears Rrp r h = record h { phase = hears_rrp h.phase }
host_hears c r h = host_hears_other c r h

-- the reaction to a command for which none is given: no reply
abbrev pub no_reaction : Reaction
no_reaction = record { quiet = false; full = false; replies = [] }

-- the host after it heard a message
abbrev pub host_hears_all : List Command → List Reaction → ResetHost → ResetHost
host_hears_all [] rs h = h
host_hears_all (c ∷ cs) [] h = host_hears_all cs [] (host_hears c no_reaction h)
host_hears_all (c ∷ cs) (r ∷ rs) h = host_hears_all cs rs (host_hears c r h)

-- the commands of the undelivered message, if there is one

abbrev pub or_none : Option (List Command) → List Command
or_none None = []
or_none (Some m) = m

abbrev pub on_line : Slot (List Command) → MessageTransit (List Command) → List Command
on_line slot subnet = or_none (message_not_come slot subnet)

-- the host's undelivered commands: those of that message, then the queued ones
abbrev pub commands_underway : ResetHost → Link (List Command) → List Command
commands_underway h link = on_line link.slot link.subnet ++ h.phase.waiting

pub record ResetWorld : Type 0 where
  pub this : ResetHost
  pub that : ResetHost
  pub going : Link (List Command)  -- from this host to that one
  pub coming : Link (List Command)

abbrev pub resets_swapped : ResetWorld → ResetWorld
resets_swapped w = record { this = w.that; that = w.this; going = w.coming; coming = w.going }

-- a step of this host
pub data ResetStep : Type 0 where
  Resets : (quiet : Bool) → ResetStep
  Makes : (c : Command) → ResetStep
  Falls : ResetStep
  Settles : (quiet : Bool) → ResetStep
  Sends : (n : ℕ) → ResetStep  -- the ready message, or the first n + 1 queued commands
  Hears : (reactions : List Reaction) → ResetStep  -- the message in flight to it
  Loses : ResetStep  -- the subnet loses its message in flight
  Dies : ResetStep  -- the subnet finds that its destination is dead
  Is_answered : ResetStep  -- an RFNM, an Incomplete Transmission, or a Destination Dead
  Wakes : ResetStep  -- the user asks again for the held message

abbrev pub reset_sends : Slot (List Command) → List Command → ℕ → ResetWorld → ResetWorld
reset_sends (Ready m) q n w = record w { going = out m }
reset_sends (Travelling m) q n w = w
reset_sends (Held m) q n w = w
reset_sends Empty [] n w = w
reset_sends Empty (c ∷ cs) n w =
    record w {
      this = record w.this { phase = record w.this.phase { waiting = drop (n + 1) w.this.phase.waiting } };
      going = out (take (n + 1) w.this.phase.waiting);
    }

abbrev pub reset_comes : MessageTransit (List Command) → List Reaction → ResetWorld → ResetWorld
reset_comes Free rs w = w
reset_comes (Accepted m) rs w = record w { this = host_hears_all m rs w.this; coming = record w.coming { subnet = Delivered } }
reset_comes Delivered rs w = w
reset_comes Lost rs w = w
reset_comes Dead rs w = w

abbrev pub reset_steps : ResetStep → ResetWorld → ResetWorld
reset_steps (Resets quiet) w = record w { this = host_resets quiet w.this }
reset_steps (Makes c) w = record w { this = host_makes c w.this }
reset_steps Falls w = record w { this = host_falls w.this }
reset_steps (Settles quiet) w = record w { this = host_settles quiet w.this }
reset_steps (Sends n) w = reset_sends w.going.slot w.this.phase.waiting n w
reset_steps (Hears rs) w = reset_comes w.coming.subnet rs w
reset_steps Loses w = record w { going = record w.going { subnet = undelivered Lost w.going.subnet } }
reset_steps Dies w = record w { going = record w.going { subnet = undelivered Dead w.going.subnet } }
reset_steps Is_answered w = record w { going = link_answered w.going.slot w.going.subnet }
reset_steps Wakes w = record w { going = record w.going { slot = woken w.going.slot } }

pub data Party : Type 0 where
  This : Party
  That : Party

pub record ResetEvent : Type 0 where
  pub side : Party
  pub step : ResetStep

abbrev pub reset_at : Party → ResetStep → ResetWorld → ResetWorld
reset_at This step w = reset_steps step w
reset_at That step w = resets_swapped (reset_steps step (resets_swapped w))

abbrev pub reset_run_from : List ResetEvent → ResetWorld → ResetWorld
reset_run_from [] w = w
reset_run_from (e ∷ es) w = reset_run_from es (reset_at e.side e.step w)

abbrev pub reset_start : ResetWorld
reset_start = record { this = anew new_phase; that = anew new_phase; going = idle; coming = idle }

-- a whole schedule
abbrev pub reset_run : List ResetEvent → ResetWorld
reset_run es = reset_run_from es reset_start

-- no RST or RRP is underway, and the commands received followed by those underway are the commands made
abbrev pub Agrees : ResetHost → Link (List Command) → ResetHost → Type 0
Agrees from link to =
    (filter is_reset (commands_underway from link) ≡ []) × (to.came ++ filter is_other (commands_underway from link) ≡ from.made)

-- after an RST underway, only RST and RRP follow
abbrev pub NothingFollows : ResetHost → Link (List Command) → Type 0
NothingFollows from link =
    (before after : List Command) → commands_underway from link ≡ before ++ Rst ∷ after → filter is_other after ≡ []

-- a host that is not up has made and received no command since it was cleared, and has no queued commands
-- except RST and RRP
abbrev pub Silent : ResetHost → Type 0
Silent h = (h.made ≡ []) × (h.came ≡ []) × (filter is_other h.phase.waiting ≡ [])
