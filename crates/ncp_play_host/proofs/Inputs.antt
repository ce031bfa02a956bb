-- Inputs that are played one after another.
use Rattle.std.proofs.Common.{◌≡◌, inl, inr, ℕ, List, [], ◌∷◌, ◌++◌, Result, Ok, Err, refl, sym, ap, ◌∙◌, subst, append_assoc}
use Rattle.std.proofs.lemmas.List.{append-nil}
use Rattle.ncp_transcript.specs.declared.input.Input.{Input}
use Rattle.ncp_transcript.specs.Alone.{Alone, AreHostSteps}
use Rattle.ncp_play_script.specs.declared.host_lines.HostEvent.{HostEvent}
use Rattle.ncp_play_notes.specs.declared.fault.PlayFault.{PlayFault}
use Rattle.ncp_play_notes.specs.declared.fault.PlayFault.TheVariants.{BadLine, LineTooLong, BadHosts, Feed, ReadFailed, WriteFailed, OutOfMemory}
use Rattle.ncp_play_notes.specs.Playing.{Does}
use Rattle.ncp_play_host.specs.Events.{AreFirstSteps, DoesAllOf, inputs_of, AreEvents, AreFirstInputs}

pub steps_joined : (some more : List Input) (before mid now : Alone) → AreHostSteps some before mid → AreHostSteps more mid now → AreHostSteps (some ++ more) before now
steps_joined [] more before mid now h k = subst (λ (a : Alone). AreHostSteps more a now) h k
steps_joined (input ∷ some) more before mid now h k = (h.0, h.1, steps_joined some more h.0 mid now h.2 k)

pub steps_parted : (some more : List Input) (before now : Alone) → AreHostSteps (some ++ more) before now → (mid : Alone) × AreHostSteps some before mid × AreHostSteps more mid now
steps_parted [] more before now h = (before, refl, h)
steps_parted (input ∷ some) more before now h = let rest = steps_parted some more h.0 now h.2 in (rest.0, (h.0, h.1, rest.1), rest.2)

-- ---- a prefix of them

pub first_none : (inputs : List Input) (before now : Alone) → now ≡ before → AreFirstSteps inputs before now
first_none inputs before now e = ([], inputs, refl, e)

pub first_all : (inputs : List Input) (before now : Alone) → AreHostSteps inputs before now → AreFirstSteps inputs before now
first_all inputs before now steps = (inputs, [], sym (append-nil inputs), steps)

first_joined : (some more : List Input) (before mid now : Alone) → AreHostSteps some before mid → AreFirstSteps more mid now → AreFirstSteps (some ++ more) before now
first_joined some more before mid now steps first =
    (some ++ first.0, first.1, ap (λ (xs : List Input). some ++ xs) first.2 ∙ sym (append_assoc some first.0 first.1), steps_joined some first.0 before mid now steps first.3)

first_of_more : (some more : List Input) (before now : Alone) → AreFirstSteps some before now → AreFirstSteps (some ++ more) before now
first_of_more some more before now first = (first.0, first.1 ++ more, ap (λ (xs : List Input). xs ++ more) first.2 ∙ append_assoc first.0 first.1 more, first.3)

-- ---- by the result

pub all_joined : (some more : List Input) (before mid now : Alone) (r : Result Unit PlayFault) → AreHostSteps some before mid → DoesAllOf more mid r now → DoesAllOf (some ++ more) before r now
all_joined some more before mid now (Ok done) steps does = steps_joined some more before mid now steps does
all_joined some more before mid now (Err OutOfMemory) steps does = first_joined some more before mid now steps does
all_joined some more before mid now (Err WriteFailed) steps does = first_joined some more before mid now steps does
all_joined some more before mid now (Err ReadFailed) steps does = absurd does
all_joined some more before mid now (Err BadHosts) steps does = absurd does
all_joined some more before mid now (Err (Feed fault)) steps does = absurd does
all_joined some more before mid now (Err (BadLine line)) steps does = absurd does
all_joined some more before mid now (Err (LineTooLong line)) steps does = absurd does

pub fault_of_more : (some more : List Input) (before now : Alone) (fault : PlayFault) → DoesAllOf some before (Err fault) now → DoesAllOf (some ++ more) before (Err fault) now
fault_of_more some more before now OutOfMemory does = first_of_more some more before now does
fault_of_more some more before now WriteFailed does = first_of_more some more before now does
fault_of_more some more before now ReadFailed does = absurd does
fault_of_more some more before now BadHosts does = absurd does
fault_of_more some more before now (Feed fault) does = absurd does
fault_of_more some more before now (BadLine line) does = absurd does
fault_of_more some more before now (LineTooLong line) does = absurd does

pub one_input : (input : Input) (before now : Alone) (r : Result Unit PlayFault) → Does input before r now → DoesAllOf (input ∷ []) before r now
one_input input before now (Ok done) does = (now, does, refl)
one_input input before now (Err OutOfMemory) does = first_none (input ∷ []) before now does
one_input input before now (Err WriteFailed) does = first_all (input ∷ []) before now (now, does, refl)
one_input input before now (Err ReadFailed) does = absurd does
one_input input before now (Err BadHosts) does = absurd does
one_input input before now (Err (Feed fault)) does = absurd does
one_input input before now (Err (BadLine line)) does = absurd does
one_input input before now (Err (LineTooLong line)) does = absurd does

-- ---- events are inputs

pub first_of_none : (peers : List ℕ) (events : List HostEvent) (before now : Alone) → now ≡ before → AreFirstInputs peers events before now
first_of_none peers [] before now e = e
first_of_none peers (event ∷ more) before now e = inl (first_none (inputs_of peers event before.host) before now e)

pub events_are_inputs : (peers : List ℕ) (events : List HostEvent) (before now : Alone) → AreEvents peers events before now → (inputs : List Input) × AreHostSteps inputs before now
events_are_inputs peers [] before now h = ([], h)
events_are_inputs peers (event ∷ more) before now h =
    let rest = events_are_inputs peers more h.0 now h.2 in
    let these = inputs_of peers event before.host in
    (these ++ rest.0, steps_joined these rest.0 before h.0 now h.1 rest.1)

pub first_are_inputs : (peers : List ℕ) (events : List HostEvent) (before now : Alone) → AreFirstInputs peers events before now → (inputs : List Input) × AreHostSteps inputs before now
first_are_inputs peers [] before now h = ([], h)
first_are_inputs peers (event ∷ more) before now (inl first) = (first.0, first.3)
first_are_inputs peers (event ∷ more) before now (inr h) =
    let rest = first_are_inputs peers more h.0 now h.2 in
    let these = inputs_of peers event before.host in
    (these ++ rest.0, steps_joined these rest.0 before h.0 now h.1 rest.1)
