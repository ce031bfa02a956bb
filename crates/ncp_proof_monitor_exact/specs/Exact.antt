-- The rules of messages are exact: an audit reports none of them and judges every record, if and only if
-- the records of each link are faithful.
use Rattle.std.specs.Prelude.{◌≡◌, ◌<◌, ℕ, ◌==◌, ◌&&◌, ◌||◌, not, Bool, true, false, List, [], ◌∷◌, ◌++◌, if◌then◌else◌}
use Rattle.ncp_transcript_two.specs.Honest.{sent_from, messages_coming, IsPrefixWithin}
use Rattle.ncp_interface.specs.declared.event.InterfaceEvent.{InterfaceEvent}
use Rattle.ncp_interface.specs.declared.event.InterfaceEvent.TheVariants as event
use Rattle.ncp_monitor.specs.declared.finding.Finding.{Finding}
use Rattle.ncp_monitor.specs.declared.finding.Rule.{Rule}
use Rattle.ncp_monitor.specs.declared.monitor.Monitor.{Monitor}
use Rattle.ncp_interface.specs.Events.{event_of}
use Rattle.ncp_monitor.specs.Tables.{view_in}
use Rattle.ncp_monitor.specs.Judged.{new_monitor, record_findings, after_record}
use Rattle.ncp_proof_monitor_messages.specs.Files.{found_by, findings_in}
use Rattle.ncp_proof_monitor_messages.specs.ManyFiles.{AllFit}
use Rattle.ncp_proof_monitor_exact.specs.Cases.{Capture}
use Rattle.ncp_proof_monitor_exact.specs.Deeds.{is_toward, deeds_recorded, IsFaithful}

-- the rules of messages between two interfaces
abbrev pub is_of_messages : Rule → Bool
is_of_messages (Rule.Occupied link) = true
is_of_messages (Rule.Changed link) = true
is_of_messages (Rule.Stray kind link) = true
is_of_messages (Rule.Unsent host link why) = true
is_of_messages (Rule.FalseAnswer kind host link came) = true
is_of_messages other = false

-- the findings in the records of messages from one host to another, while the whole capture is read
abbrev pub found_toward : ℕ → ℕ → Monitor → Capture → List Finding
found_toward from to monitor [] = []
found_toward from to monitor (one ∷ more) =
    (if is_toward from to one.0 (event_of one.1 one.0 one.2) then record_findings monitor one.1 one.0 one.2 else [])
    ++ found_toward from to (after_record monitor one.1 one.0 one.2) more

-- the monitor after all records
abbrev pub monitor_after_file : Monitor → Capture → Monitor
monitor_after_file monitor [] = monitor
monitor_after_file monitor (one ∷ more) = monitor_after_file (after_record monitor one.1 one.0 one.2) more

-- ---- which records are judged

-- The capture of an interface begins with its first record. A delivery is judged if the sender's
-- interface had a record before, and an RFNM if the receiver's had one: otherwise the message may have
-- passed unobserved.
abbrev pub is_seen_for : Bool → Bool → InterfaceEvent → Bool
is_seen_for at_from at_to (event.In peer link) = at_from
is_seen_for at_from at_to (event.Answer kind peer link) = not (kind == 5) || at_to
is_seen_for at_from at_to other = true

-- each record of a message from one host to another is judged
abbrev pub is_watched : ℕ → ℕ → Bool → Bool → Capture → Bool
is_watched from to at_from at_to [] = true
is_watched from to at_from at_to (one ∷ more) =
    let e = event_of one.1 one.0 one.2 in
    let from_now = at_from || one.0 == from in
    let to_now = at_to || one.0 == to in
    (if is_toward from to one.0 e then is_seen_for from_now to_now e else true) && is_watched from to from_now to_now more

abbrev pub none_toward : ℕ → ℕ → Capture → Bool
none_toward from to [] = true
none_toward from to (one ∷ more) = not (is_toward from to one.0 (event_of one.1 one.0 one.2)) && none_toward from to more

abbrev pub begins_at : ℕ → Capture → Bool
begins_at host [] = false
begins_at host (one ∷ more) = one.0 == host || begins_at host more

-- Every record is judged in a capture in which both interfaces have a record before the first message
-- between the two hosts.
abbrev pub WatchesAll : Type 0
WatchesAll =
    (from to : ℕ) (front file : Capture)
    → begins_at from front ≡ true → begins_at to front ≡ true → none_toward from to front ≡ true → is_watched from to false false (front ++ file) ≡ true

-- ---- the laws

-- For the messages from one host to another, in any capture in which never too many messages are
-- unacknowledged at once: no rule of messages is reported and every record is judged, if and only if the
-- subnet and the host were faithful on each link.
abbrev pub IsExact : Type 0
IsExact =
    (from to : ℕ) (file : Capture)
    → from < 256 → to < 256 → AllFit file → (monitor_after_file (new_monitor false) file).full ≡ false
    → ((found_by is_of_messages (found_toward from to (new_monitor false) file) ≡ []) × (is_watched from to false false file ≡ true) → (on : ℕ) → IsFaithful from (deeds_recorded from to on file))
    × (((on : ℕ) → IsFaithful from (deeds_recorded from to on file)) → (found_by is_of_messages (found_toward from to (new_monitor false) file) ≡ []) × (is_watched from to false false file ≡ true))

-- The same for all pairs of hosts in a whole capture.
abbrev pub AllWatched : Capture → Type 0
AllWatched file = (from to : ℕ) → from < 256 → to < 256 → is_watched from to false false file ≡ true

abbrev pub AllFaithful : Capture → Type 0
AllFaithful file = (from to on : ℕ) → from < 256 → to < 256 → IsFaithful from (deeds_recorded from to on file)

abbrev pub IsExactOfAll : Type 0
IsExactOfAll =
    (file : Capture)
    → AllFit file → (monitor_after_file (new_monitor false) file).full ≡ false
    → ((found_by is_of_messages (findings_in (new_monitor false) file) ≡ []) × AllWatched file → AllFaithful file)
    × (AllFaithful file → (found_by is_of_messages (findings_in (new_monitor false) file) ≡ []) × AllWatched file)

-- So if an audit reports nothing, and every record is judged, the messages on each link were delivered in
-- the order in which they were sent, each once, and at most the last is missing.
abbrev pub CleanIsInOrder : Type 0
CleanIsInOrder =
    (from to : ℕ) (file : Capture)
    → from < 256 → to < 256 → AllFit file → (monitor_after_file (new_monitor false) file).full ≡ false
    → findings_in (new_monitor false) file ≡ [] → is_watched from to false false file ≡ true
    → (on : ℕ) → IsFaithful from (deeds_recorded from to on file) × IsPrefixWithin 1 (messages_coming (deeds_recorded from to on file)) (sent_from from true (deeds_recorded from to on file))

-- And if an audit of a whole capture reports nothing, the phase of each host with each other is known and
-- judged to the end.
abbrev pub NoPhaseSuspended : Type 0
NoPhaseSuspended =
    (file : Capture) (at peer : ℕ)
    → AllFit file → (monitor_after_file (new_monitor false) file).full ≡ false → findings_in (new_monitor false) file ≡ []
    → at < 256 → peer < 256
    → let view = view_in (monitor_after_file (new_monitor false) file).views at peer in (view.told ≡ true) × (view.suspended ≡ false) × (view.overlapped ≡ false)
