-- Two hosts after a schedule of resets: quantifiers over schedules, steps and messages, and the states
-- and schedules that the theorems refer to.
use Rattle.std.specs.Prelude.{◌≡◌, true, false, List, [], ◌∷◌, ◌++◌}
use Rattle.ncp_wire.specs.declared.command.Command.{Command}
use Rattle.ncp_wire.specs.declared.command.Command.TheVariants.{Inr}
use Rattle.ncp_model.specs.Phase.{Phase, Reaction, hears_rst, is_rrp, up_phase}
use Rattle.std.specs.List.{list_any}
use Rattle.ncp_proof_machine.specs.Delivery.{Link, Travelling, Held, Free, Accepted}
use Rattle.ncp_proof_machine.specs.Resets.{ResetHost, ResetEvent, ResetStep, ResetWorld, This, That, Hears, Is_answered, Sends, Wakes, reset_run, reset_steps, is_up, anew}
use Rattle.ncp_proof_machine.specs.Schedules.{step_by, quietly, both_come_up, both_ask, both_hear, both_answer, goes_and_is_lost, goes_and_finds_none, goes_and_comes, two_of_three, heard_with_text_out, answered_after_text}

-- it holds for two hosts after every schedule; then: if both are up
abbrev pub AfterResets : (ResetWorld → Type 0) → Type 0
AfterResets holds = (events : List ResetEvent) → holds (reset_run events)

abbrev pub WhereBothCameUp : (ResetWorld → Type 0) → Type 0
WhereBothCameUp holds =
    (events : List ResetEvent) → is_up (reset_run events).this ≡ true → is_up (reset_run events).that ≡ true → holds (reset_run events)

-- some schedule leads there
abbrev pub CanBe : (ResetWorld → Type 0) → Type 0
CanBe holds = (events : List ResetEvent) × holds (reset_run events)

-- both are up, and that host received this command only
abbrev pub CameAlone : Command → ResetWorld → Type 0
CameAlone c w = (is_up w.this ≡ true) × (is_up w.that ≡ true) × (w.that.came ≡ c ∷ [])

-- it holds in each step in which this host stops waiting
abbrev pub WhereWaitingEnds : (ResetWorld → Type 0) → Type 0
WhereWaitingEnds holds =
    (step : ResetStep) (w : ResetWorld) → w.this.phase.wait ≡ true → (reset_steps step w).this.phase.wait ≡ false → holds w

-- a message with an RRP is in flight to this host
abbrev pub RrpComes : ResetWorld → Type 0
RrpComes w = (m : List Command) × (w.coming.subnet ≡ Accepted m) × (list_any is_rrp m ≡ true)

-- it holds for each host that awaits an RRP, and each message that it hears
abbrev pub WhileWaiting : (List Command → List Reaction → ResetHost → Type 0) → Type 0
WhileWaiting holds = (cs : List Command) (rs : List Reaction) (h : ResetHost) → h.phase.wait ≡ true → holds cs rs h

-- it holds for each message that begins with a command; then: a host that acted on an RST, and on nothing
-- since
abbrev pub OfHeard : (List Command → Reaction → List Reaction → ResetHost → Type 0) → Type 0
OfHeard holds = (cs : List Command) (r : Reaction) (rs : List Reaction) (h : ResetHost) → holds cs r rs h

abbrev pub restarted : Reaction → ResetHost → ResetHost
restarted r h = anew (hears_rst r.quiet h.phase)

-- the phases of this host and of that one after a schedule
abbrev pub this_phase_after : List ResetEvent → Phase
this_phase_after events = (reset_run events).this.phase

abbrev pub that_phase_after : List ResetEvent → Phase
that_phase_after events = (reset_run events).that.phase

-- these commands are queued; then: and an RRP is awaited
abbrev pub waiting_to_say : List Command → Phase
waiting_to_say commands = record up_phase { waiting = commands }

abbrev pub awaiting_and_saying : List Command → Phase
awaiting_and_saying commands = record up_phase { wait = true; waiting = commands }

-- both resets were asked for, and heard; then: and answered
abbrev pub asked_by_both : List ResetEvent
asked_by_both = both_come_up ++ both_ask ++ both_hear

abbrev pub answered_by_both : List ResetEvent
answered_by_both = both_come_up ++ both_ask ++ both_hear ++ both_answer

-- a message is lost, or finds its destination dead, and is sent again; then: after a wake
abbrev pub lost_and_again : List ResetEvent
lost_and_again = goes_and_is_lost ++ goes_and_comes

abbrev pub held_and_again : List ResetEvent
held_and_again = goes_and_finds_none ++ goes_and_comes

abbrev pub woken_and_again : List ResetEvent
woken_and_again = goes_and_finds_none ++ step_by This Wakes ∷ goes_and_comes

-- two of three commands arrive, then the third; then: the third may not be sent before
abbrev pub all_three : List ResetEvent
all_three = two_of_three ++ step_by That (Hears quietly) ∷ step_by This Is_answered ∷ goes_and_comes

abbrev pub third_too_soon : List ResetEvent
third_too_soon = two_of_three ++ step_by This (Sends 0) ∷ []

-- an RST that arrived while a text was unacknowledged is answered after it
abbrev pub answered_late : List ResetEvent
answered_late = heard_with_text_out ++ answered_after_text

-- the message of one INR is held; then: that of two is in flight
abbrev pub inr_held : Link (List Command)
inr_held = record { slot = Held (Inr 2 ∷ []); subnet = Free }

abbrev pub two_inrs_out : Link (List Command)
two_inrs_out = record { slot = Travelling (Inr 2 ∷ Inr 3 ∷ []); subnet = Accepted (Inr 2 ∷ Inr 3 ∷ []) }
