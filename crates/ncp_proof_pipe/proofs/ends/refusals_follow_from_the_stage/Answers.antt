use Rattle.std.proofs.Common.{◌≡◌, Bool, true, false, ◌&&◌, if◌then◌else◌, Some, refl, ap, arith}
use Rattle.ncp_model.specs.declared.call_fault.CallFault.TheVariants as faults
use Rattle.ncp_model.specs.declared.pair.Pair.{Pair}
use Rattle.ncp_model.specs.Pairs.{sends}
use Rattle.ncp_model.specs.Endpoint.{Endpoint, is_closing}
use Rattle.ncp_model.specs.Endpoint.{is_open as is_open_end}
use Rattle.ncp_model.specs.EndpointEvents.{EndpointEvent, Refused, happens}
use Rattle.ncp_pipe.specs.Pipe.{Stage, Closed, Asked, Open, Closing, is_on, is_open}
use Rattle.ncp_proof_pipe.specs.Views.{stage_of, is_sender_use, is_receiver_use, is_use}
use Rattle.ncp_proof_pipe.proofs.ends.refusals_follow_from_the_stage.Goals as goal

-- whether a stage is closing
abbrev is_closing_stage : Stage → Bool
is_closing_stage Closing = true
is_closing_stage stage = false

is-closing : (e : Endpoint) → stage_of e ≡ Closing → is_closing e ≡ true
is-closing e s = go (is_closing e) e.opened e.asked (ap is_closing_stage s)
  where
    go : (c o a : Bool) → is_closing_stage (if c then Closing else if o then Open else if a then Asked else Closed) ≡ true → c ≡ true
    go true o a k = refl
    go false true a k = absurd (cc k)
    go false false true k = absurd (cc k)
    go false false false k = absurd (cc k)

is-asked : (e : Endpoint) → stage_of e ≡ Asked → (is_closing e ≡ false) × (e.opened ≡ false)
is-asked e s = go (is_closing e) e.opened (ap is_on s) (ap is_open s)
  where
    go : (c o : Bool) → is_on (if c then Closing else if o then Open else if e.asked then Asked else Closed) ≡ true → is_open (if c then Closing else if o then Open else if e.asked then Asked else Closed) ≡ false → (c ≡ false) × (o ≡ false)
    go true o k l = absurd (cc k)
    go false true k l = absurd (cc l)
    go false false k l = (refl, refl)

is-open : (e : Endpoint) → stage_of e ≡ Open → (is_closing e ≡ false) × (e.opened ≡ true)
is-open e s = go (is_closing e) e.opened e.asked (ap is_open s)
  where
    go : (c o a : Bool) → is_open (if c then Closing else if o then Open else if a then Asked else Closed) ≡ true → (c ≡ false) × (o ≡ true)
    go true o a k = absurd (cc k)
    go false true a k = (refl, refl)
    go false false true k = absurd (cc k)
    go false false false k = absurd (cc k)

closing-at : (pair : Pair) (what : EndpointEvent) (e : Endpoint) → is_use what ≡ true → is_closing e ≡ true → (happens pair what (Some e)).outcome ≡ Refused faults.Closing
closing-at pair (EndpointEvent.Gives text) e u c = grind arith
closing-at pair (EndpointEvent.Allocates m b full) e u c = grind arith
closing-at pair (EndpointEvent.Calls_back m b full) e u c = grind arith
closing-at pair what e u c = absurd (cc u)

unopened-at : (pair : Pair) (what : EndpointEvent) (e : Endpoint) → is_use what ≡ true → is_closing e ≡ false → e.asked && e.heard ≡ false → (happens pair what (Some e)).outcome ≡ Refused faults.NotOpen
unopened-at pair (EndpointEvent.Gives text) e u c o = grind arith
unopened-at pair (EndpointEvent.Allocates m b full) e u c o = grind arith
unopened-at pair (EndpointEvent.Calls_back m b full) e u c o = grind arith
unopened-at pair what e u c o = absurd (cc u)

pub returns-clause-closing : goal.returns-clause-closing
returns-clause-closing c pair what e u s = closing-at pair what e u (is-closing e s)

unmet : (e : Endpoint) → (is_open_end e ≡ true → e.opened ≡ true) → is_closing e ≡ false → e.opened ≡ false → e.asked && e.heard ≡ false
unmet e opens c o = grind arith

pub returns-clause-not_open : goal.returns-clause-not_open
returns-clause-not_open c pair what e sound u s =
    let k = is-asked e s in
    unopened-at pair what e u k.0 (unmet e sound.opens k.0 k.1)

wrong-at : (pair : Pair) (what : EndpointEvent) (e : Endpoint) (b : Bool) → sends pair ≡ b → (if b then is_receiver_use what else is_sender_use what) ≡ true → is_closing e ≡ false → e.asked ≡ true → e.heard ≡ true
    → (happens pair what (Some e)).outcome ≡ Refused faults.WrongEnd
wrong-at pair (EndpointEvent.Gives text) e false s u c a h = grind arith
wrong-at pair (EndpointEvent.Allocates m b full) e true s u c a h = grind arith
wrong-at pair (EndpointEvent.Calls_back m b full) e true s u c a h = grind arith
wrong-at pair (EndpointEvent.Gives text) e true s u c a h = absurd (cc u)
wrong-at pair (EndpointEvent.Allocates m b full) e false s u c a h = absurd (cc u)
wrong-at pair (EndpointEvent.Calls_back m b full) e false s u c a h = absurd (cc u)
wrong-at pair what e true s u c a h = absurd (cc u)
wrong-at pair what e false s u c a h = absurd (cc u)

pub returns-clause-wrong_end : goal.returns-clause-wrong_end
returns-clause-wrong_end c pair what e sound u s =
    let k = is-open e s in
    wrong-at pair what e (sends pair) refl u k.0 (sound.asked k.1) (sound.heard k.1)
