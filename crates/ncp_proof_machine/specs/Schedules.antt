-- Schedules for the worked examples of resets.
use Rattle.std.specs.Prelude.{true, false, List, [], ◌∷◌, ◌++◌}
use Rattle.ncp_wire.specs.declared.command.Command.TheVariants.{Rts, Inr}
use Rattle.ncp_model.specs.Phase.{Reaction}
use Rattle.ncp_proof_machine.specs.Resets.{ResetEvent, Party, This, That, ResetStep, Resets, Makes, Falls, Settles, Sends, Hears, Loses, Dies, Is_answered}

abbrev pub step_by : Party → ResetStep → ResetEvent
step_by side step = record { side = side; step = step }

-- one command is heard, while the data links are quiet
abbrev pub quietly : List Reaction
quietly = record { quiet = true; full = false; replies = [] } ∷ []

-- this host resets, and that one answers
abbrev pub both_come_up : List ResetEvent
both_come_up =
    step_by This (Resets true) ∷ step_by This (Sends 0) ∷ step_by That (Hears quietly) ∷ step_by This Is_answered
    ∷ step_by That (Sends 0) ∷ step_by This (Hears quietly) ∷ step_by That Is_answered ∷ []

-- that host asks to receive, and both reset before its RTS is sent: both RSTs are sent; then: they arrive
abbrev pub both_ask : List ResetEvent
both_ask =
    step_by That (Makes (Rts 2 3 2)) ∷ step_by This (Resets true) ∷ step_by That (Resets true) ∷ step_by This (Sends 0) ∷ step_by That (Sends 9) ∷ []

abbrev pub both_hear : List ResetEvent
both_hear = step_by That (Hears quietly) ∷ step_by This (Hears quietly) ∷ step_by This Is_answered ∷ step_by That Is_answered ∷ []

-- then both RRPs are sent and arrive
abbrev pub both_answer : List ResetEvent
both_answer = step_by This (Sends 9) ∷ step_by That (Sends 9) ∷ step_by That (Hears quietly) ∷ step_by This (Hears quietly) ∷ []

-- after that: this host's command is sent, and lost; then: its destination is dead
abbrev pub goes_and_is_lost : List ResetEvent
goes_and_is_lost = both_come_up ++ step_by This (Makes (Inr 2)) ∷ step_by This (Sends 0) ∷ step_by This Loses ∷ step_by This Is_answered ∷ []

abbrev pub goes_and_finds_none : List ResetEvent
goes_and_finds_none = both_come_up ++ step_by This (Makes (Inr 2)) ∷ step_by This (Sends 0) ∷ step_by This Dies ∷ step_by This Is_answered ∷ []

-- it is sent again, heard once, and acknowledged
abbrev pub goes_and_comes : List ResetEvent
goes_and_comes = step_by This (Sends 5) ∷ step_by That (Hears quietly) ∷ step_by This Is_answered ∷ []

-- three commands are queued, and two are sent
abbrev pub two_of_three : List ResetEvent
two_of_three = both_come_up ++ step_by This (Makes (Inr 2)) ∷ step_by This (Makes (Inr 3)) ∷ step_by This (Makes (Inr 4)) ∷ step_by This (Sends 1) ∷ []

-- that host hears the RST while a text of its own is unacknowledged; then: it answers after the RFNM
abbrev pub unquietly : List Reaction
unquietly = record { quiet = false; full = false; replies = [] } ∷ []

abbrev pub heard_with_text_out : List ResetEvent
heard_with_text_out = both_come_up ++ step_by This (Resets true) ∷ step_by This (Sends 0) ∷ step_by That (Hears unquietly) ∷ []

abbrev pub answered_after_text : List ResetEvent
answered_after_text = step_by That (Settles true) ∷ step_by That (Sends 0) ∷ step_by This (Hears quietly) ∷ []

-- that host goes down with its RRP and another command queued
abbrev pub falls_answering : List ResetEvent
falls_answering = step_by This (Resets true) ∷ step_by This (Sends 0) ∷ step_by That (Hears quietly) ∷ step_by That (Makes (Inr 2)) ∷ step_by That Falls ∷ []
