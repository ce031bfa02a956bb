-- What is kept, and how full it is, after a record.
use Rattle.std.proofs.Common.{◌≡◌, ℕ, ◌==◌, Bool, true, false, ◌&&◌, if◌then◌else◌, List, Result, Ok, Err, refl, sym, ap, ◌∙◌, subst}
use Rattle.ncp_leader.specs.declared.fault.MessageFault.{MessageFault}
use Rattle.ncp_leader.specs.declared.leader.Leader.{Leader}
use Rattle.ncp_leader.specs.declared.leader.Short.{Short}
use Rattle.ncp_leader.specs.Leader.{leader_in}
use Rattle.ncp_leader.specs.Message.{Message, message_in}
use Rattle.ncp_interface.specs.declared.event.InterfaceEvent.{InterfaceEvent}
use Rattle.ncp_interface.specs.declared.imp_direction.ImpDirection.TheVariants.{ToImp, FromImp}
use Rattle.ncp_monitor.specs.declared.phase.MessageContext.{MessageContext}
use Rattle.ncp_monitor.specs.declared.monitor.Monitor.{Monitor}
use Rattle.ncp_interface.specs.Events.{is_answer, event_after}
use Rattle.ncp_monitor.specs.Judged.{sees, fresh_out, monitor_after_out, monitor_after_answer, after_in, turn_at, after_said, after_event, after_record}
use Rattle.ncp_interface.proofs.Events.{to_host, goes_to, of_leader, comes_by}

-- the same is kept, and room is there as before
abbrev pub Keeps : Monitor → Monitor → Type 0
Keeps monitor after = (after.kept ≡ monitor.kept) × (after.full ≡ monitor.full)

pub said_keeps : (monitor : Monitor) (at peer : ℕ) (context : MessageContext) (fresh : Bool) (r : Result Message MessageFault) → Keeps monitor (after_said monitor at peer context fresh r)
said_keeps monitor at peer context true (Ok message) = (refl, refl)
said_keeps monitor at peer context false (Ok message) = (refl, refl)
said_keeps monitor at peer context fresh (Err fault) = (refl, refl)

pub out_keeps : (monitor : Monitor) (me n on : ℕ) (bits : List Bool) → leader_in bits ≡ Ok (to_host n on) → (n == me) ≡ false → Keeps (monitor_after_out (sees monitor me) me n on bits) (after_record monitor ToImp me bits)
out_keeps monitor me n on bits led apart =
    let v = sees monitor me in
    let after = monitor_after_out v me n on bits in
    subst (λ (e : InterfaceEvent). Keeps after (after_event v me bits e)) (sym (goes_to me n on bits led apart))
    (said_keeps after me n (turn_at after me n me true) (fresh_out v me n on bits) (message_in bits))

-- it is read on
pub out_is : (monitor : Monitor) (me n on : ℕ) (bits : List Bool) → leader_in bits ≡ Ok (to_host n on) → (n == me) ≡ false
    → after_record monitor ToImp me bits
    ≡ after_said (monitor_after_out (sees monitor me) me n on bits) me n (turn_at (monitor_after_out (sees monitor me) me n on bits) me n me true) (fresh_out (sees monitor me) me n on bits) (message_in bits)
out_is monitor me n on bits led apart = ap (λ (e : InterfaceEvent). after_event (sees monitor me) me bits e) (goes_to me n on bits led apart)

-- what comes, by its leader
by_leader : (monitor : Monitor) (me : ℕ) (bits : List Bool) (leader : Leader) (own zero answer : Bool) → leader_in bits ≡ Ok leader → (leader.host == me) ≡ own → (leader.kind == 0) ≡ zero → is_answer leader.kind ≡ answer
    → after_record monitor FromImp me bits ≡ after_event (sees monitor me) me bits (of_leader leader own zero answer)
by_leader monitor me bits leader own zero answer led o z a = ap (λ (e : InterfaceEvent). after_event (sees monitor me) me bits e) (comes_by me bits leader own zero answer led o z a)

pub short_is : (monitor : Monitor) (me : ℕ) (bits : List Bool) (short : Short) → leader_in bits ≡ Err short → after_record monitor FromImp me bits ≡ sees monitor me
short_is monitor me bits short led = ap (λ (r : Result Leader Short). after_event (sees monitor me) me bits (event_after FromImp me r)) led

pub other_is : (monitor : Monitor) (me : ℕ) (bits : List Bool) (leader : Leader) (own : Bool) → leader_in bits ≡ Ok leader → (leader.host == me) ≡ own → (leader.kind == 0) ≡ false → is_answer leader.kind ≡ false → after_record monitor FromImp me bits ≡ sees monitor me
other_is monitor me bits leader own led o z a = by_leader monitor me bits leader own false false led o z a

pub own_is : (monitor : Monitor) (me : ℕ) (bits : List Bool) (leader : Leader) (zero answer : Bool) → leader_in bits ≡ Ok leader → (leader.host == me) ≡ true → (leader.kind == 0) ≡ zero → is_answer leader.kind ≡ answer → after_record monitor FromImp me bits ≡ sees monitor me
own_is monitor me bits leader zero answer led o z a = by_leader monitor me bits leader true zero answer led o z a ∙ go zero answer
  where
    go : (zero answer : Bool) → after_event (sees monitor me) me bits (of_leader leader true zero answer) ≡ sees monitor me
    go true answer = refl
    go false true = refl
    go false false = refl

pub in_is : (monitor : Monitor) (me : ℕ) (bits : List Bool) (leader : Leader) (answer : Bool) → leader_in bits ≡ Ok leader → (leader.host == me) ≡ false → (leader.kind == 0) ≡ true → is_answer leader.kind ≡ answer
    → after_record monitor FromImp me bits
    ≡ after_said (after_in (sees monitor me) me leader.host leader.link) me leader.host (turn_at (after_in (sees monitor me) me leader.host leader.link) me leader.host leader.host false) true (message_in bits)
in_is monitor me bits leader answer led o z a = by_leader monitor me bits leader false true answer led o z a

pub in_keeps : (monitor : Monitor) (me : ℕ) (bits : List Bool) (leader : Leader) (answer : Bool) → leader_in bits ≡ Ok leader → (leader.host == me) ≡ false → (leader.kind == 0) ≡ true → is_answer leader.kind ≡ answer
    → Keeps (after_in (sees monitor me) me leader.host leader.link) (after_record monitor FromImp me bits)
in_keeps monitor me bits leader answer led o z a =
    let v = sees monitor me in
    let after = after_in v me leader.host leader.link in
    subst (λ (u : Monitor). Keeps after u) (sym (by_leader monitor me bits leader false true answer led o z a))
    (said_keeps after me leader.host (turn_at after me leader.host leader.host false) true (message_in bits))

pub answer_is : (monitor : Monitor) (me : ℕ) (bits : List Bool) (leader : Leader) → leader_in bits ≡ Ok leader → (leader.host == me) ≡ false → (leader.kind == 0) ≡ false → is_answer leader.kind ≡ true
    → after_record monitor FromImp me bits ≡ monitor_after_answer (sees monitor me) leader.kind me leader.host leader.link
answer_is monitor me bits leader led o z a = by_leader monitor me bits leader false false true led o z a
