-- The bytes written for a page, as defined by the players and the readers of files.
use Rattle.std.specs.Prelude.{◌≡◌, ◌≢◌, ◌≤◌, ℕ, Bool, true, false, List, [], Option, Some, Result, Ok, Err, IfOk, min, take, drop, length}
use Rattle.ncp_play_files.specs.declared.file.FileFault.{FileFault}
use Rattle.ncp_play_files.specs.Shown.{Shown}
use Rattle.ncp_play_files.specs.Checked.{Checked}
use Rattle.ncp_play_files.specs.Writing.{Writes}
use Rattle.ncp_follow.specs.Followed.{new_follower}
use Rattle.ncp_play_follow.specs.FollowedFiles.{Follows}
use Rattle.ncp_monitor.specs.Judged.{new_monitor}
use Rattle.ncp_play_audit.specs.Audited.{noted_first, AuditedCut, ReportedAs, HasVerdict, done_of}
use Rattle.ncp_play_notes.specs.declared.fault.PlayFault.{PlayFault}
use Rattle.ncp_play_host.specs.Played.{HostPlayed}
use Rattle.ncp_play_world.specs.ManyRules.{is_many_script}
use Rattle.ncp_play_world.specs.Players.{PlaysWorld, PlaysMany}
use Rattle.ncp_play_world.specs.Renderings.{lines_of_script, lines_of_many, recording_of, recording_of_many}
use Rattle.ncp_web.specs.declared.answer.TheConstants.{DONE, BAD, FAULT, NO_MEMORY}

-- the lines of a script of two hosts, or of two to eight
abbrev pub PlaysBytes : List ℕ → Result Bool PlayFault → List ℕ → Type 0
PlaysBytes bytes answer lines =
    (is_many_script bytes ≡ false → (left : Option (List ℕ)) × PlaysWorld lines_of_script bytes [] answer left (Some lines))
    × (is_many_script bytes ≡ true → (left : Option (List ℕ)) × PlaysMany lines_of_many bytes [] answer left (Some lines))

-- the message file of such a script
abbrev pub RecordsBytes : List ℕ → Result Bool PlayFault → List ℕ → Type 0
RecordsBytes bytes answer file =
    (is_many_script bytes ≡ false → (left : Option (List ℕ)) × PlaysWorld recording_of bytes [] answer left (Some file))
    × (is_many_script bytes ≡ true → (left : Option (List ℕ)) × PlaysMany recording_of_many bytes [] answer left (Some file))

-- the lines of a script of one host
abbrev pub PlaysHostBytes : List ℕ → Result Bool PlayFault → List ℕ → Type 0
PlaysHostBytes bytes answer lines = (left : Option (List ℕ)) × HostPlayed bytes [] answer left (Some lines)

-- the lines of a message file
abbrev pub ShowsBytes : List ℕ → Result Unit FileFault → List ℕ → Type 0
ShowsBytes bytes answer lines = (left : Option (List ℕ)) × Shown bytes [] left (Some lines) answer

-- the line with the contents of a message file
abbrev pub ChecksBytes : List ℕ → Result Bool FileFault → List ℕ → Type 0
ChecksBytes bytes answer line = (left : Option (List ℕ)) × Checked bytes [] left (Some line) answer

-- the lines of the connections of a message file: of a whole capture or of a part
abbrev pub FollowsBytes : Bool → List ℕ → Result Unit FileFault → List ℕ → Type 0
FollowsBytes part bytes answer lines = (left : Option (List ℕ)) × Follows false (new_follower part) bytes [] left (Some lines) answer

-- the lines of the findings of a message file, with coverage or without, and whether there is no finding:
-- of a whole capture or of a part, by all rules or by those of the standard alone
abbrev pub AuditsBytes : Bool → Bool → Bool → List ℕ → Result Bool FileFault → List ℕ → Type 0
AuditsBytes part standard coverage bytes answer lines =
    ((left : Option (List ℕ)) × Writes (ReportedAs standard (new_monitor part) (noted_first coverage)) (AuditedCut standard (new_monitor part)) bytes [] left (Some lines) (done_of answer))
    × IfOk answer (HasVerdict standard (new_monitor part) bytes)

-- the front of a buffer has these bytes, as far as they fit; the rest is unchanged
abbrev pub IsFront : List ℕ → List ℕ → List ℕ → ℕ → Type 0
IsFront bytes before now written = (written ≡ min (length bytes) (length before)) × (take written now ≡ take written bytes) × (drop written now ≡ drop written before)

-- some words are written to the front of a buffer; a refusal changes nothing
abbrev pub Explains : ℕ → List ℕ → List ℕ → ℕ → Type 0
Explains result before now written = (written ≤ length before) × (drop written now ≡ drop written before) × (result ≢ DONE → written ≡ 0)

-- the code of an answer

abbrev pub code_of_played : Result Bool PlayFault → ℕ
code_of_played (Ok true) = DONE
code_of_played (Ok false) = BAD
code_of_played (Err fault) = FAULT

abbrev pub code_of_checked : Result Bool FileFault → ℕ
code_of_checked (Ok true) = DONE
code_of_checked (Ok false) = BAD
code_of_checked (Err fault) = FAULT

abbrev pub code_of_shown : Result Unit FileFault → ℕ
code_of_shown (Ok done) = DONE
code_of_shown (Err fault) = FAULT

-- unless an allocation failed, `IsRight` holds for some answer and bytes; the code is that of the answer,
-- and the bytes are written as far as they fit
abbrev pub HandsOut : {A : Type 0} → (A → List ℕ → Type 0) → (A → ℕ) → ℕ → List ℕ → List ℕ → ℕ → Type 0
HandsOut {A} IsRight code result before now written =
    result ≢ NO_MEMORY → (answer : A) × (bytes : List ℕ) × IsRight answer bytes × (result ≡ code answer) × IsFront bytes before now written
