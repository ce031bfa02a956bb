-- A host's flags for one peer, and what they permit: coming up by RST and RRP (NIC 8246, RST and RRP).
-- This profile's rules: both wait until the data links are quiet, the purge, going down, a second reset
-- is refused, all else is dropped meanwhile, and the limits.
use Rattle.std.specs.Prelude.{Bool, true, false, not, ◌&&◌, ◌||◌, nat_lt, if◌then◌else◌, List, [], ◌∷◌, ◌++◌, length, Result, Ok, Err}
use Rattle.std.specs.List.{filter, list_any}
use Rattle.ncp_wire.specs.declared.command.Command.{Command}
use Rattle.ncp_wire.specs.declared.command.Command.TheVariants.{Rst, Rrp}
use Rattle.ncp_model.specs.declared.call_fault.CallFault.{CallFault}
use Rattle.ncp_model.specs.declared.call_fault.CallFault.TheVariants.{Busy}
use Rattle.ncp_model.specs.declared.limits.TheConstants.{MAX_WAITING}

abbrev pub is_rst : Command → Bool
is_rst Rst = true
is_rst c = false

abbrev pub is_rrp : Command → Bool
is_rrp Rrp = true
is_rrp c = false

-- the two commands with which hosts come up, and all others
abbrev pub is_reset : Command → Bool
is_reset c = is_rst c || is_rrp c

abbrev pub is_other : Command → Bool
is_other c = not (is_reset c)

-- a host's flags for a peer, and the commands queued for the control link
pub record Phase : Type 0 where
  pub down : Bool
  pub want : Bool  -- an RST is to be made
  pub owe : Bool  -- an RRP is to be made
  pub wait : Bool  -- an RST was made, and its RRP has not arrived
  pub waiting : List Command

-- each peer starts with `down` alone
abbrev pub new_phase : Phase
new_phase = record { down = true; want = false; owe = false; wait = false; waiting = [] }

-- no flag is set
abbrev pub up : Phase → Bool
up p = not (p.down || p.want || p.owe || p.wait)

-- up, with no queued commands
abbrev pub up_phase : Phase
up_phase = record { down = false; want = false; owe = false; wait = false; waiting = [] }

-- a purge removes every queued command except RST and RRP
abbrev pub purge : Phase → Phase
purge p = record p { waiting = filter is_reset p.waiting }

-- the owed RRP is made, then the wanted RST. Neither is queued while one of its kind is queued; the flags
-- change in either case
abbrev pub phase_answers : Phase → Phase
phase_answers p =
    if p.owe
    then record p { down = false; owe = false; waiting = if list_any is_rrp p.waiting then p.waiting else p.waiting ++ Rrp ∷ [] }
    else p

abbrev pub phase_asks : Phase → Phase
phase_asks p =
    if p.want
    then record p { down = false; want = false; wait = true; waiting = if list_any is_rst p.waiting then p.waiting else p.waiting ++ Rst ∷ [] }
    else p

-- settling: both are made, but only while the data links are quiet. It happens after a reset, after an
-- RST arrived, and after an RFNM
abbrev pub phase_settles : Bool → Phase → Phase
phase_settles quiet p = if quiet then phase_asks (phase_answers p) else p

-- The call of a reset is refused while a reset is wanted or awaited.

abbrev pub is_resetting : Phase → Bool
is_resetting p = p.want || p.wait

abbrev pub reset_answer : Phase → Result (Unit {0}) CallFault
reset_answer p = if is_resetting p then Err Busy else Ok tt

abbrev pub wants_reset : Phase → Phase
wants_reset p = record (purge p) { want = true }

abbrev pub resets : Bool → Phase → Phase
resets quiet p = if is_resetting p then p else phase_settles quiet (wants_reset p)

-- An RST arrives: the queue is purged, and an RRP is owed.

abbrev pub owes_answer : Phase → Phase
owes_answer p = record (purge p) { owe = true }

abbrev pub hears_rst : Bool → Phase → Phase
hears_rst quiet p = phase_settles quiet (owes_answer p)

-- An RRP arrives. It is stray if none is awaited.

abbrev pub hears_rrp : Phase → Phase
hears_rrp p = record p { wait = false }

abbrev pub is_stray_rrp : Phase → Bool
is_stray_rrp p = not p.wait

-- Going down: the queue is purged, and `down` is set. It happens when a command would be the 513th in the
-- queue, and when the table has no room for another request of the peer.

abbrev pub goes_down : Phase → Phase
goes_down p = record (purge p) { down = true }

abbrev pub has_room_for_one : Phase → Bool
has_room_for_one p = nat_lt (length p.waiting) MAX_WAITING

abbrev pub queued : Command → Phase → Phase
queued c p = record p { waiting = p.waiting ++ c ∷ [] }

-- a call or reply makes a command: only while up, and neither RST nor RRP
abbrev pub phase_makes : Command → Phase → Phase
phase_makes c p = if up p && is_other c then (if has_room_for_one p then queued c p else goes_down p) else p

abbrev pub makes_all : List Command → Phase → Phase
makes_all [] p = p
makes_all (c ∷ cs) p = makes_all cs (phase_makes c p)

-- while not up, the host drops every command but RST and RRP, every text, and every fault of a control
-- text; it counts them
abbrev pub is_dropped : Command → Phase → Bool
is_dropped c p = is_other c && not (up p)

-- A host's reaction to a command, as data: whether its data links are quiet, whether the table has no
-- room for the peer's request, and the commands with which it replies.
pub record Reaction : Type 0 where
  pub quiet : Bool
  pub full : Bool
  pub replies : List Command

-- a command arrives. While not up, the host drops all but RST and RRP
abbrev pub phase_hears : Command → Reaction → Phase → Phase
phase_hears Rst r p = hears_rst r.quiet p
phase_hears Rrp r p = hears_rrp p
phase_hears c r p = if up p then (if r.full then goes_down p else makes_all r.replies p) else p
