-- The effect of lines, by their meaning.
use Rattle.std.proofs.Common.{◌≡◌, inl, inr, ℕ, Bool, true, false, List, Option, Some, None, Result, Ok, Err, refl, sym, ap, ◌∙◌, subst}
use Rattle.ncp_transcript.specs.Alone.{Alone, AreHostSteps}
use Rattle.ncp_play_script.specs.declared.host_lines.HostEvent.{HostEvent}
use Rattle.ncp_play_script.specs.Scripts as scripts
use Rattle.ncp_play_script.specs.Scripts.{EventPlan, Ending, lines_of, course_ends}
use Rattle.ncp_play_reader.specs.declared.lines.Lines.{Lines}
use Rattle.ncp_play_reader.specs.NextLines.{ended_lines}
use Rattle.ncp_play_notes.specs.declared.fault.PlayFault.{PlayFault}
use Rattle.ncp_play_notes.specs.declared.fault.PlayFault.TheVariants.{BadLine, LineTooLong, BadHosts, Feed, ReadFailed, WriteFailed, OutOfMemory}
use Rattle.ncp_play_host.specs.declared.lines.LinesEnd.{LinesEnd}
use Rattle.ncp_play_host.specs.declared.lines.LinesEnd.TheVariants.{Over, FeedAfter}
use Rattle.ncp_play_host.specs.Events.{inputs_of, AreEvents, AreFirstSteps, AreFirstInputs, DoesAllOf}
use Rattle.ncp_play_host.specs.Asking.{course_of, in_front, AsksEvent, AsksNext}
use Rattle.ncp_play_host.specs.Doing.{DoesAll, DoesFirst, LinesDo, NextDoes}
use Rattle.ncp_play_host.proofs.Inputs.{first_of_none}

-- ---- no event

pub does_none : (peers : List ℕ) (course : EventPlan HostEvent) (ending : Ending) (alone : Alone) → course ≡ course_ends ending → DoesAll peers course ending alone alone
does_none peers course ending alone e = (ap (λ (c : EventPlan HostEvent). c.ending) e, subst (λ (c : EventPlan HostEvent). AreEvents peers c.events alone alone) (sym e) refl)

pub does_not : (peers : List ℕ) (course : EventPlan HostEvent) (before now : Alone) → now ≡ before → DoesFirst peers course before now
does_not peers course before now e = first_of_none peers course.events before now e

-- an event before others
does_more : (peers : List ℕ) (course rest : EventPlan HostEvent) (event : HostEvent) (ending : Ending) (before mid now : Alone) → course ≡ in_front event rest → AreHostSteps (inputs_of peers event before.host) before mid → DoesAll peers rest ending mid now
    → DoesAll peers course ending before now
does_more peers course rest event ending before mid now e steps all =
    (ap (λ (c : EventPlan HostEvent). c.ending) e ∙ all.0, subst (λ (c : EventPlan HostEvent). AreEvents peers c.events before now) (sym e) (mid, steps, all.1))

does_first : (peers : List ℕ) (course rest : EventPlan HostEvent) (event : HostEvent) (before mid now : Alone) → course ≡ in_front event rest → AreHostSteps (inputs_of peers event before.host) before mid → DoesFirst peers rest mid now → DoesFirst peers course before now
does_first peers course rest event before mid now e steps some = subst (λ (c : EventPlan HostEvent). AreFirstInputs peers c.events before now) (sym e) (inr (mid, steps, some))

-- a part of it
does_part : (peers : List ℕ) (course rest : EventPlan HostEvent) (event : HostEvent) (before now : Alone) → course ≡ in_front event rest → AreFirstSteps (inputs_of peers event before.host) before now → DoesFirst peers course before now
does_part peers course rest event before now e first = subst (λ (c : EventPlan HostEvent). AreFirstInputs peers c.events before now) (sym e) (inl first)

module _ (peers : List ℕ) (first : ℕ) (bytes : List ℕ) where
  abbrev course : EventPlan HostEvent
  course = course_of peers first (lines_of bytes)

  pub asked_fault : (alone : Alone) (fault : PlayFault) (now : Lines) (left : Option (List ℕ)) → AsksNext peers first bytes (Err fault) now left → LinesDo peers first bytes alone (Err fault) alone now.window left
  asked_fault alone (BadLine number) now left asks = does_none peers course _ alone asks
  asked_fault alone (LineTooLong number) now left asks = does_none peers course _ alone asks
  asked_fault alone ReadFailed now left asks = (asks.0, asks.1, does_none peers (course_of peers first (ended_lines (lines_of asks.0))) scripts.Over alone asks.2)
  asked_fault alone OutOfMemory now left asks = does_not peers course alone alone refl
  asked_fault alone WriteFailed now left asks = absurd asks
  asked_fault alone BadHosts now left asks = absurd asks
  asked_fault alone (Feed fault) now left asks = absurd asks

  -- ---- an event, whose inputs are applied

  module _ (event : HostEvent) (before : Alone) where
    -- allocation for it or a write after it failed
    pub does_fault : (ended : Bool) (now : Alone) (fault : PlayFault) (lines : Lines) (left : Option (List ℕ)) → AsksEvent peers first bytes event ended lines left → DoesAllOf (inputs_of peers event before.host) before (Err fault) now
        → LinesDo peers first bytes before (Err fault) now lines.window left
    does_fault ended now OutOfMemory lines left asks does = does_part peers course (course_of peers lines.number (lines_of asks.0)) event before now asks.1 does
    does_fault ended now WriteFailed lines left asks does = does_part peers course (course_of peers lines.number (lines_of asks.0)) event before now asks.1 does
    does_fault ended now ReadFailed lines left asks does = absurd does
    does_fault ended now BadHosts lines left asks does = absurd does
    does_fault ended now (BadLine number) lines left asks does = absurd does
    does_fault ended now (LineTooLong number) lines left asks does = absurd does
    does_fault ended now (Feed fault) lines left asks does = absurd does

    -- it was the last line
    does_last : (now : Alone) (lines : Lines) (left : Option (List ℕ)) → AsksEvent peers first bytes event false lines left → AreHostSteps (inputs_of peers event before.host) before now → LinesDo peers first bytes before (Ok Over) now lines.window left
    does_last now lines left asks steps =
        let rest = course_of peers lines.number (lines_of asks.0) in
        let none : rest ≡ course_ends scripts.Over = ap (λ behind. course_of peers lines.number (lines_of behind)) (asks.3 refl) in
        does_more peers course rest event scripts.Over before now now asks.1 steps (does_none peers rest scripts.Over now none)

    -- the effect of the lines after it is that of all
    pub does_after : (mid : Alone) (lines : Lines) (left : Option (List ℕ)) (asks : AsksEvent peers first bytes event true lines left) → AreHostSteps (inputs_of peers event before.host) before mid
        → (r : Result LinesEnd PlayFault) (now : Alone) (window : List ℕ) (left' : Option (List ℕ)) → LinesDo peers lines.number asks.0 mid r now window left' → LinesDo peers first bytes before r now window left'
    does_after mid lines left asks steps (Ok Over) now window left' does = does_more peers course (course_of peers lines.number (lines_of asks.0)) event scripts.Over before mid now asks.1 steps does
    does_after mid lines left asks steps (Ok FeedAfter) now window left' does =
        (does.0, does_more peers course (course_of peers lines.number (lines_of asks.0)) event (scripts.Fed does.0) before mid now asks.1 steps does.1, does.2)
    does_after mid lines left asks steps (Err (BadLine number)) now window left' does =
        does_more peers course (course_of peers lines.number (lines_of asks.0)) event (scripts.Faulty (scripts.BadLine number)) before mid now asks.1 steps does
    does_after mid lines left asks steps (Err (LineTooLong number)) now window left' does =
        does_more peers course (course_of peers lines.number (lines_of asks.0)) event (scripts.Faulty (scripts.LineTooLong number)) before mid now asks.1 steps does
    does_after mid lines left asks steps (Err ReadFailed) now window left' does =
        let came = asks.4 refl left' does.0 does.1 in
        (came.0, came.1, does_more peers (course_of peers first (ended_lines (lines_of came.0))) (course_of peers lines.number (ended_lines (lines_of does.0))) event scripts.Over before mid now came.2 steps does.2)
    does_after mid lines left asks steps (Err OutOfMemory) now window left' does = does_first peers course (course_of peers lines.number (lines_of asks.0)) event before mid now asks.1 steps does
    does_after mid lines left asks steps (Err WriteFailed) now window left' does = does_first peers course (course_of peers lines.number (lines_of asks.0)) event before mid now asks.1 steps does
    does_after mid lines left asks steps (Err BadHosts) now window left' does = absurd does
    does_after mid lines left asks steps (Err (Feed fault)) now window left' does = absurd does

    -- ---- in terms of the code

    pub does_one : (ended : Bool) (end : Option LinesEnd) (now : Alone) (lines : Lines) (left : Option (List ℕ)) → ended ≡ true → end ≡ None → AsksEvent peers first bytes event ended lines left → AreHostSteps (inputs_of peers event before.host) before now
        → NextDoes peers first bytes before (Ok end) now lines left
    does_one ended end now lines left lf e asks steps =
        subst (λ (end : Option LinesEnd). NextDoes peers first bytes before (Ok end) now lines left) (sym e) (event, subst (λ (b : Bool). AsksEvent peers first bytes event b lines left) lf asks, steps)

    pub does_one_last : (ended : Bool) (end : Option LinesEnd) (now : Alone) (lines : Lines) (left : Option (List ℕ)) → ended ≡ false → end ≡ Some Over → AsksEvent peers first bytes event ended lines left → AreHostSteps (inputs_of peers event before.host) before now
        → NextDoes peers first bytes before (Ok end) now lines left
    does_one_last ended end now lines left lf e asks steps =
        subst (λ (end : Option LinesEnd). NextDoes peers first bytes before (Ok end) now lines left) (sym e)
        (does_last now lines left (subst (λ (b : Bool). AsksEvent peers first bytes event b lines left) lf asks) steps)

  pub next_fault : (alone now : Alone) (r : Result (Option LinesEnd) PlayFault) (fault : PlayFault) (lines : Lines) (left : Option (List ℕ)) → r ≡ Err fault → LinesDo peers first bytes alone (Err fault) now lines.window left → NextDoes peers first bytes alone r now lines left
  next_fault alone now r fault lines left e does = subst (λ (r : Result (Option LinesEnd) PlayFault). NextDoes peers first bytes alone r now lines left) (sym e) does
