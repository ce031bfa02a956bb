-- What is recorded of many hosts is read again, and nothing is found in it.
use Rattle.std.proofs.Common.{◌≡◌, ℕ, Bool, true, false, not, ◌&&◌, List, [], ◌∷◌, ◌++◌, map, option_to_list, All, Option, None, refl, sym, ap, ◌∙◌, subst}
use Rattle.std.proofs.lemmas.List.Elements.{All-nil, All-cons}
use Rattle.std.specs.List.{flat_map, list_any}
use Rattle.ncp_play_files.specs.declared.file.Direction.{Direction}
use Rattle.ncp_play_files.specs.declared.file.FileFault.{FileFault}
use Rattle.ncp_play_files.specs.declared.version.Version.TheVariants.{Two}
use Rattle.ncp_play_files.specs.Versions.{Recorded, placed, next_in, IsOf, bytes_of_record, file_bytes}
use Rattle.ncp_play_files.specs.File.{HoldsBy}
use Rattle.ncp_play_files.proofs.Contents.{by_once}
use Rattle.ncp_play_files.proofs.Again.{holds_written}
use Rattle.ncp_play_buffer.specs.Lines.{number_after}
use Rattle.ncp_play_audit.specs.FindingLines.{is_told, reported_line}
use Rattle.ncp_play_audit.specs.Audited.{audit_lines, is_clean, AuditedAs, HasVerdict}
use Rattle.ncp_play_script.specs.declared.first_lines.TwoHosts.{TwoHosts}
use Rattle.ncp_play_world_lines.specs.Recorded.{recorded_of, records_of, file_of_notes, record_of_many, records_of_many, file_of_many_notes}
use Rattle.ncp_transcript.specs.declared.note.HostNote.{HostNote}
use Rattle.ncp_transcript_many.specs.declared.many_note.ManyNote.{ManyNote}
use Rattle.ncp_transcript_two.specs.declared.side.Side.TheVariants.{A, B}
use Rattle.ncp_transcript_two.specs.declared.note.Note.{Note}
use Rattle.ncp_transcript_two.specs.Between.{Hosts}
use Rattle.ncp_transcript_two.specs.Transcript.{IsTranscript}
use Rattle.ncp_transcript_many.specs.Network.{Network, network_of}
use Rattle.ncp_transcript_many.specs.ManyHappening.{by_numbers}
use Rattle.ncp_transcript_many.proofs.TwoOfMany.{two-by-numbers}
use Rattle.ncp_transcript_many.specs.ManyTranscript.{IsManyTranscript}
use Rattle.ncp_wire.specs.declared.answer.Answer.{Answer}
use Rattle.ncp_monitor.specs.declared.finding.Finding.{Finding}
use Rattle.ncp_monitor.specs.declared.monitor.Monitor.{Monitor}
use Rattle.ncp_interface.specs.declared.imp_direction.ImpDirection.{ImpDirection}
use Rattle.ncp_interface.specs.declared.imp_direction.ImpDirection.TheVariants.{ToImp, FromImp}
use Rattle.ncp_monitor.specs.Judged.{new_monitor, record_findings, after_record}
use Rattle.ncp_monitor.specs.Resets.{after_judged}
use Rattle.ncp_proof_monitor.specs.Worlds.{goes_from}
use Rattle.ncp_proof_monitor_messages.specs.Files.{findings_in, found_by}
use Rattle.ncp_proof_monitor_messages.specs.ManyFiles.{came_at, passing, many_file, AllFit, NoneNoticed}
use Rattle.ncp_proof_monitor_messages.proofs.Among.{all_fit, all_unnoticed}
use Rattle.ncp_proof_monitor_network.proofs.ManyWhole.{none_among}
use Rattle.ncp_proof_interface_resets.proofs.Plain.{Plain, PlainRecord, plain_record, plain_new}

-- ---- the two forms of a record

abbrev direction_of : ImpDirection → Direction
direction_of ToImp = Direction.ToImp
direction_of FromImp = Direction.FromImp

abbrev as_record : ℕ × ImpDirection × List Bool → Recorded
as_record one = record { capture_point = placed (direction_of one.1) one.0; message = one.2 }

abbrev as_records : List (ℕ × ImpDirection × List Bool) → List Recorded
as_records [] = []
as_records (one ∷ more) = as_record one ∷ as_records more

joined : (xs ys : List (ℕ × ImpDirection × List Bool)) → as_records (xs ++ ys) ≡ as_records xs ++ as_records ys
joined [] ys = refl
joined (x ∷ xs) ys = ap (λ (rs : List Recorded). as_record x ∷ rs) (joined xs ys)

out_is : (host : ℕ) (note : HostNote) → option_to_list (record_of_many (ManyNote.Out host note)) ≡ as_records (goes_from host note)
out_is host (HostNote.Out message) = refl
out_is host (HostNote.Refused call fault) = refl
out_is host (HostNote.Done call) = refl
out_is host (HostNote.Took peer pair bytes text) = refl
out_is host (HostNote.State peer pair told) = refl
out_is host (HostNote.Phase peer flags) = refl
out_is host (HostNote.Echoed peer byte) = refl
out_is host (HostNote.Errors peer errors) = refl
out_is host (HostNote.Counts peer counts) = refl
out_is host (HostNote.Waiting peer place command) = refl
out_is host (HostNote.Kept peer link message) = refl
out_is host (HostNote.Ignored ignored) = refl
out_is host HostNote.Nothing = refl
out_is host (HostNote.In message received) = refl
out_is host (HostNote.Answered peer link answer received) = refl

came_is : (from to link : ℕ) (note : HostNote) → option_to_list (record_of_many (ManyNote.Came from to link note)) ≡ as_records (came_at to note)
came_is from to link (HostNote.Out message) = refl
came_is from to link (HostNote.Refused call fault) = refl
came_is from to link (HostNote.Done call) = refl
came_is from to link (HostNote.Took peer pair bytes text) = refl
came_is from to link (HostNote.State peer pair told) = refl
came_is from to link (HostNote.Phase peer flags) = refl
came_is from to link (HostNote.Echoed peer byte) = refl
came_is from to link (HostNote.Errors peer errors) = refl
came_is from to link (HostNote.Counts peer counts) = refl
came_is from to link (HostNote.Waiting peer place command) = refl
came_is from to link (HostNote.Kept peer on message) = refl
came_is from to link (HostNote.Ignored ignored) = refl
came_is from to link HostNote.Nothing = refl
came_is from to link (HostNote.In message received) = refl
came_is from to link (HostNote.Answered peer on Answer.Rfnm received) = refl
came_is from to link (HostNote.Answered peer on Answer.Incomplete received) = refl
came_is from to link (HostNote.Answered peer on Answer.Dead received) = refl

one_is : (n : ManyNote) → option_to_list (record_of_many n) ≡ as_records (passing n)
one_is (ManyNote.Called host note) = refl
one_is (ManyNote.Out host note) = out_is host note
one_is (ManyNote.Came from to link note) = came_is from to link note
one_is (ManyNote.Lost from to link) = refl
one_is (ManyNote.FoundDead from to link) = refl
one_is (ManyNote.Answered from to link note) = came_is to from link note
one_is (ManyNote.Nothing event) = refl

all_are : (notes : List ManyNote) → records_of_many notes ≡ as_records (many_file notes)
all_are [] = refl
all_are (n ∷ notes) =
    ap (λ (rs : List Recorded). rs ++ records_of_many notes) (one_is n)
    ∙ ap (λ (rs : List Recorded). as_records (passing n) ++ rs) (all_are notes)
    ∙ sym (joined (passing n) (many_file notes))

-- ---- it is read again

fit_all : (file : List (ℕ × ImpDirection × List Bool)) → AllFit file → All (IsOf Two) (as_records file)
fit_all [] k = All-nil (IsOf Two)
fit_all (one ∷ more) k = All-cons (IsOf Two) (as_record one) (as_records more) (one.0, refl, k.1) (fit_all more k.2)

-- ---- nothing is found in it

-- what is found by any rule is all that is found
all_found : (found : List Finding) → found_by (λ rule. true) found ≡ found
all_found [] = refl
all_found (f ∷ found) = ap (λ (fs : List Finding). f ∷ fs) (all_found found)

empty_front : (xs ys : List Finding) → xs ++ ys ≡ [] → (xs ≡ []) × (ys ≡ [])
empty_front [] ys e = (refl, e)
empty_front (x ∷ xs) ys e = absurd (cc e)

abbrev WritesNothing : Bool → Monitor → ℕ → List Recorded → Type 0
WritesNothing standard monitor number records = (audit_lines standard monitor number records ≡ []) × (is_clean standard monitor records ≡ true)

clean : (standard : Bool) (file : List (ℕ × ImpDirection × List Bool)) (monitor : Monitor) (number : ℕ) → Plain monitor → NoneNoticed file → findings_in monitor file ≡ [] → WritesNothing standard monitor number (as_records file)
clean standard [] monitor number k fit e = (refl, refl)
clean standard ((host, ToImp, bits) ∷ more) monitor number k fit e =
    let after = after_record monitor ToImp host bits in
    let parts = empty_front (record_findings monitor ToImp host bits) (findings_in after more) e in
    let one : PlainRecord monitor ToImp host bits = plain_record monitor ToImp host bits k fit.0 in
    let rest = clean standard more after (number_after number) one.plain fit.1 parts.1 in (
      ap (λ (fs : List Finding). flat_map (reported_line standard number host) fs ++ audit_lines standard (after_judged monitor ToImp host bits) (number_after number) (as_records more)) (one.found ∙ parts.0)
          ∙ ap (λ (now : Monitor). audit_lines standard now (number_after number) (as_records more)) one.after ∙ rest.0,
      ap (λ (fs : List Finding). not (list_any (is_told standard) fs) && is_clean standard (after_judged monitor ToImp host bits) (as_records more)) (one.found ∙ parts.0)
          ∙ ap (λ (now : Monitor). is_clean standard now (as_records more)) one.after ∙ rest.1,
    )
clean standard ((host, FromImp, bits) ∷ more) monitor number k fit e =
    let after = after_record monitor FromImp host bits in
    let parts = empty_front (record_findings monitor FromImp host bits) (findings_in after more) e in
    let one : PlainRecord monitor FromImp host bits = plain_record monitor FromImp host bits k fit.0 in
    let rest = clean standard more after (number_after number) one.plain fit.1 parts.1 in (
      ap (λ (fs : List Finding). flat_map (reported_line standard number host) fs ++ audit_lines standard (after_judged monitor FromImp host bits) (number_after number) (as_records more)) (one.found ∙ parts.0)
          ∙ ap (λ (now : Monitor). audit_lines standard now (number_after number) (as_records more)) one.after ∙ rest.0,
      ap (λ (fs : List Finding). not (list_any (is_told standard) fs) && is_clean standard (after_judged monitor FromImp host bits) (as_records more)) (one.found ∙ parts.0)
          ∙ ap (λ (now : Monitor). is_clean standard now (as_records more)) one.after ∙ rest.1,
    )

-- ---- both

module _ (standard : Bool) (notes : List ManyNote) (now : Network) (t : IsManyTranscript notes now) where
  held : HoldsBy (next_in Two) (flat_map bytes_of_record (records_of_many notes)) (records_of_many notes) None
  held = holds_written Two (records_of_many notes) (subst (All (IsOf Two)) (sym (all_are notes)) (fit_all (many_file notes) (all_fit notes now t)))

  none : findings_in (new_monitor false) (many_file notes) ≡ []
  none = sym (all_found (findings_in (new_monitor false) (many_file notes))) ∙ none_among (λ rule. true) notes now t

  found : WritesNothing standard (new_monitor false) 1 (records_of_many notes)
  found = subst (WritesNothing standard (new_monitor false) 1) (sym (all_are notes)) (clean standard (many_file notes) (new_monitor false) 1 (plain_new false) (all_unnoticed notes now t) none)

  pub no_line : (text : List ℕ) (fault : Option FileFault) → AuditedAs standard (new_monitor false) (file_of_many_notes notes) text fault → (text ≡ []) × (fault ≡ None)
  no_line text fault a =
      let once = by_once (next_in Two) (flat_map bytes_of_record (records_of_many notes)) a.0 (records_of_many notes) fault None a.1 held in
      (a.2 ∙ ap (audit_lines standard (new_monitor false) 1) once.0 ∙ found.0, once.1)

  pub good_verdict : (good : Bool) → HasVerdict standard (new_monitor false) (file_of_many_notes notes) good → good ≡ true
  good_verdict good v =
      let once = by_once (next_in Two) (flat_map bytes_of_record (records_of_many notes)) v.0 (records_of_many notes) None None v.2 held in
      v.3 ∙ ap (is_clean standard (new_monitor false)) once.0 ∙ found.1

-- ---- two hosts

same_record : (hosts : TwoHosts) (n : Note) → recorded_of hosts n ≡ record_of_many (by_numbers hosts.a hosts.b n)
same_record hosts (Note.Called A note) = refl
same_record hosts (Note.Called B note) = refl
same_record hosts (Note.Out A note) = refl
same_record hosts (Note.Out B note) = refl
same_record hosts (Note.Came A link note) = refl
same_record hosts (Note.Came B link note) = refl
same_record hosts (Note.Lost A link) = refl
same_record hosts (Note.Lost B link) = refl
same_record hosts (Note.FoundDead A link) = refl
same_record hosts (Note.FoundDead B link) = refl
same_record hosts (Note.Answered A link note) = refl
same_record hosts (Note.Answered B link note) = refl
same_record hosts (Note.Nothing A link wanted) = refl
same_record hosts (Note.Nothing B link wanted) = refl

same_records : (hosts : TwoHosts) (notes : List Note) → records_of hosts notes ≡ records_of_many (map (by_numbers hosts.a hosts.b) notes)
same_records hosts [] = refl
same_records hosts (n ∷ notes) =
    ap (λ (o : Option Recorded). option_to_list o ++ records_of hosts notes) (same_record hosts n)
    ∙ ap (λ (rs : List Recorded). option_to_list (record_of_many (by_numbers hosts.a hosts.b n)) ++ rs) (same_records hosts notes)

module _ (standard : Bool) (notes : List Note) (w : Hosts) (t : IsTranscript notes w) where
  abbrev hosts : TwoHosts
  hosts = record { a = w.number_a; b = w.number_b }

  abbrev all : List ManyNote
  all = map (by_numbers w.number_a w.number_b) notes

  same_file : file_of_notes hosts notes ≡ file_of_many_notes all
  same_file = ap (file_bytes Two) (same_records hosts notes)

  pub no_line_of_two : (text : List ℕ) (fault : Option FileFault) → AuditedAs standard (new_monitor false) (file_of_notes hosts notes) text fault → (text ≡ []) × (fault ≡ None)
  no_line_of_two text fault a =
      no_line standard all (network_of w) (two-by-numbers notes w t) text fault (subst (λ (bytes : List ℕ). AuditedAs standard (new_monitor false) bytes text fault) same_file a)

  pub good_verdict_of_two : (good : Bool) → HasVerdict standard (new_monitor false) (file_of_notes hosts notes) good → good ≡ true
  good_verdict_of_two good v =
      good_verdict standard all (network_of w) (two-by-numbers notes w t) good (subst (λ (bytes : List ℕ). HasVerdict standard (new_monitor false) bytes good) same_file v)
