-- The recording of one host's interface while it runs, and that an audit of it reports no violation by
-- the host. The findings are those of an audit that knows of no interface resets; in a capture without
-- them there is no difference (`nothing_changes_without_resets`).
use Rattle.std.specs.Prelude.{◌≡◌, ◌<◌, ℕ, ◌==◌, not, ◌&&◌, Bool, true, false, List, [], ◌∷◌, ◌++◌, if◌then◌else◌}
use Rattle.std.specs.List.{list_all}
use Rattle.ncp_host.specs.Host.{is_one_of, are_peers, new_host}
use Rattle.ncp_transcript.specs.declared.input.Input.{Input}
use Rattle.ncp_transcript.specs.declared.note.HostNote.{HostNote}
use Rattle.ncp_transcript.specs.Alone.{Alone, AreHostSteps}
use Rattle.ncp_transcript_two.specs.Seen.{CallFits}
use Rattle.ncp_monitor.specs.declared.finding.Finding.{Finding}
use Rattle.ncp_monitor.specs.declared.finding.Rule.{Rule}
use Rattle.ncp_monitor.specs.declared.finding.Who.{Who}
use Rattle.ncp_monitor.specs.declared.finding.Who.TheVariants.{Host, Imp}
use Rattle.ncp_monitor.specs.declared.monitor.Monitor.{Monitor}
use Rattle.ncp_interface.specs.declared.imp_direction.ImpDirection.{ImpDirection}
use Rattle.ncp_interface.specs.declared.imp_direction.ImpDirection.TheVariants.{ToImp, FromImp}
use Rattle.ncp_monitor.specs.Judged.{new_monitor, record_findings, after_record}

-- ---- the recording

-- the record of a message that is sent, from its note
abbrev pub gone_by : HostNote → List (ImpDirection × List Bool)
gone_by (HostNote.Out message) = (ToImp, message) ∷ []
gone_by note = []

-- the record of an input: bits that arrive from the IMP, or a message that is sent to it
abbrev pub passes_with : Input → HostNote → List (ImpDirection × List Bool)
passes_with (Input.Call call) note = []
passes_with (Input.In bits) note = (FromImp, bits) ∷ []
passes_with Input.Out note = gone_by note

-- the records of all inputs, with their notes, in order
abbrev pub recording : List Input → List HostNote → List (ImpDirection × List Bool)
recording [] noted = []
recording (input ∷ more) [] = []
recording (input ∷ more) (note ∷ noted) = passes_with input note ++ recording more noted

-- ---- its findings

-- the findings of records at one interface, in order
abbrev pub findings_from : Monitor → ℕ → List (ImpDirection × List Bool) → List Finding
findings_from monitor at [] = []
findings_from monitor at (one ∷ more) = record_findings monitor one.0 at one.1 ++ findings_from (after_record monitor one.0 at one.1) at more

abbrev pub is_host : ℕ → Who → Bool
is_host me (Host host) = host == me
is_host me Imp = false

-- a finding is not that the host broke one of these rules
abbrev pub spares : (Rule → Bool) → ℕ → Finding → Bool
spares judged me finding = not (is_host me finding.who && judged finding.rule)

-- A message from the IMP leads to no finding against the host that receives it: by any rule, after any
-- records.
abbrev pub NothingComingBlames : Type 0
NothingComingBlames = (judged : Rule → Bool) (me : ℕ) (monitor : Monitor) (bits : List Bool) → list_all (spares judged me) (record_findings monitor FromImp me bits) ≡ true

-- a host of this number, with these peers, before any input
abbrev pub begun_alone : ℕ → List ℕ → Alone
begun_alone me ns = record { host = new_host me ns; notes = [] }

-- In the whole recording of a host, for any calls and any received bits, no finding is that the host
-- broke one of these rules, if the numbers of its peers fit a leader.
abbrev pub NoFalseAlarm : (Rule → Bool) → Type 0
NoFalseAlarm judged =
    (me : ℕ) (ns : List ℕ) (given : List Input) (now : Alone)
    → are_peers me ns ≡ true → ((n : ℕ) → is_one_of n ns ≡ true → n < 256) → AreHostSteps given (begun_alone me ns) now
    → list_all (spares judged me) (findings_from (new_monitor false) me (recording given now.notes)) ≡ true

-- the numbers of all calls fit their fields in commands: those of sockets are below 2 ^ 32, a byte size
-- below 2 ^ 8, and so on
abbrev pub AreFit : List Input → Type 0
AreFit [] = Unit {0}
AreFit (Input.Call call ∷ given) = CallFits call × AreFit given
AreFit (Input.In bits ∷ given) = AreFit given
AreFit (Input.Out ∷ given) = AreFit given

-- ---- the rules

-- of a leader: complete, of a regular message, for another host, and with a link in use
abbrev pub is_of_leader : Rule → Bool
is_of_leader (Rule.Short bits) = true
is_of_leader (Rule.OwnHost kind link) = true
is_of_leader (Rule.Kind kind) = true
is_of_leader (Rule.WrongLink link) = true
is_of_leader other = false

-- of a link: at most one message is outstanding, and an undelivered one is sent again unchanged
abbrev pub is_of_link : Rule → Bool
is_of_link (Rule.Occupied link) = true
is_of_link (Rule.Changed link) = true
is_of_link other = false

-- of messages and the phase: each rule except those of commands and texts between hosts that are up
abbrev pub is_of_messages_and_phase : Rule → Bool
is_of_messages_and_phase (Rule.Short bits) = true
is_of_messages_and_phase (Rule.OwnHost kind link) = true
is_of_messages_and_phase (Rule.Kind kind) = true
is_of_messages_and_phase (Rule.Fault fault link) = true
is_of_messages_and_phase (Rule.WrongLink link) = true
is_of_messages_and_phase (Rule.WrongSize size) = true
is_of_messages_and_phase (Rule.Extras flags low text rest) = true
is_of_messages_and_phase (Rule.Occupied link) = true
is_of_messages_and_phase (Rule.Changed link) = true
is_of_messages_and_phase (Rule.Stray kind link) = true
is_of_messages_and_phase (Rule.Unsent host link why) = true
is_of_messages_and_phase (Rule.FalseAnswer kind host link came) = true
is_of_messages_and_phase (Rule.Bad fault) = true
is_of_messages_and_phase (Rule.Early thing began waits owes) = true
is_of_messages_and_phase Rule.RstAgain = true
is_of_messages_and_phase Rule.RrpUnasked = true
is_of_messages_and_phase (Rule.Unquiet reply link) = true
is_of_messages_and_phase Rule.RrpFirst = true
is_of_messages_and_phase Rule.MissingRrp = true
is_of_messages_and_phase other = false

-- of requests, CLS, replies, ERR and echo
abbrev pub is_of_requests_and_replies : Rule → Bool
is_of_requests_and_replies (Rule.Missing c) = true
is_of_requests_and_replies (Rule.Skipped c) = true
is_of_requests_and_replies (Rule.EcoAgain byte) = true
is_of_requests_and_replies (Rule.ErpUnasked byte) = true
is_of_requests_and_replies (Rule.ErrUnjust code bytes) = true
is_of_requests_and_replies (Rule.Sex c) = true
is_of_requests_and_replies (Rule.LinkRange c) = true
is_of_requests_and_replies (Rule.SizeZero c) = true
is_of_requests_and_replies (Rule.AskedAgain c since) = true
is_of_requests_and_replies (Rule.Unended c since) = true
is_of_requests_and_replies (Rule.LinkUsed c local remote) = true
is_of_requests_and_replies (Rule.ClsUnknown c) = true
is_of_requests_and_replies (Rule.ClsAgain c since) = true
is_of_requests_and_replies (Rule.TextOut c link) = true
is_of_requests_and_replies other = false

-- of allocation: texts, and commands that name a link, are on an open connection and within the
-- allocation
abbrev pub is_of_allocation : Rule → Bool
is_of_allocation (Rule.NotOpen c why) = true
is_of_allocation (Rule.OverLimit c messages bits) = true
is_of_allocation (Rule.GvbAgain c) = true
is_of_allocation (Rule.RetUnasked c) = true
is_of_allocation (Rule.RetOther c messages bits) = true
is_of_allocation (Rule.RetOver c messages bits) = true
is_of_allocation (Rule.TextNotOpen link why) = true
is_of_allocation (Rule.TextSize link size asked) = true
is_of_allocation (Rule.TextOver link messages bits of_bits) = true
is_of_allocation other = false

-- ---- in a file with records of other interfaces too, each with its host's number

-- the records at a host's interface
abbrev pub at_interface : ℕ → List (ℕ × ImpDirection × List Bool) → List (ImpDirection × List Bool)
at_interface me [] = []
at_interface me (one ∷ more) = if one.0 == me then (one.1, one.2) ∷ at_interface me more else at_interface me more

-- their findings, if the monitor reads the whole file
abbrev pub found_at : Monitor → ℕ → List (ℕ × ImpDirection × List Bool) → List Finding
found_at monitor me [] = []
found_at monitor me (one ∷ more) = (if one.0 == me then record_findings monitor one.1 one.0 one.2 else []) ++ found_at (after_record monitor one.1 one.0 one.2) me more

-- If the records at a host's interface are its whole recording, no finding in them is that the host broke
-- one of these rules. This holds for any calls, any received bits and any other records of the file, if
-- the numbers of the host and its peers fit a leader, and those of all calls fit commands.
abbrev pub NobodyBlamed : (Rule → Bool) → Type 0
NobodyBlamed judged =
    (me : ℕ) (ns : List ℕ) (given : List Input) (now : Alone) (file : List (ℕ × ImpDirection × List Bool))
    → are_peers me ns ≡ true → ((n : ℕ) → is_one_of n ns ≡ true → n < 256) → me < 256 → AreFit given → AreHostSteps given (begun_alone me ns) now
    → at_interface me file ≡ recording given now.notes
    → list_all (spares judged me) (found_at (new_monitor false) me file) ≡ true
