-- What a recorder tells of notes, as the file of what is recorded of them.
use Rattle.std.proofs.Common.{◌≡◌, ℕ, ◌+◌, List, [], ◌∷◌, ◌++◌, length, Option, Some, None, Result, option_to_list, refl, ap, sym, ◌∙◌, subst, arith}
use Rattle.std.proofs.lemmas.List.{append-nil}
use Rattle.std.proofs.lemmas.List.Concat.{flat_map-append}
use Rattle.std.specs.List.{flat_map}
use Rattle.ncp_play_files.specs.declared.version.Version.TheVariants.{Two}
use Rattle.ncp_play_buffer.specs.Lines.{number_after}
use Rattle.ncp_play_files.specs.Versions.{Recorded, bytes_of_record, header_of}
use Rattle.ncp_play_script.specs.declared.first_lines.TwoHosts.{TwoHosts}
use Rattle.ncp_transcript_two.specs.declared.side.Side.{Side}
use Rattle.ncp_transcript_two.specs.declared.note.Note.{Note}
use Rattle.ncp_transcript_two.specs.Transcript.{Noted_hosts}
use Rattle.ncp_world.specs.Kinds.{Kind}
use Rattle.ncp_world.specs.TwoKind.{two_kind}
use Rattle.ncp_world.specs.ManyKind.{many_kind}
use Rattle.ncp_play_world_lines.specs.declared.first_line.HostAndPeer.{HostAndPeer}
use Rattle.ncp_play_world_lines.specs.declared.first_line.FirstLine.{FirstLine}
use Rattle.ncp_play_world_lines.specs.declared.settling.ScriptNote.{ScriptNote}
use Rattle.ncp_play_world_lines.specs.declared.settling.ScriptNote.TheVariants.{Noted, Settled}
use Rattle.ncp_play_world.specs.Traces.{Staged, notes_in, IsLast}
use Rattle.ncp_play_world.specs.HostsRules.{traced_of}
use Rattle.ncp_play_world.proofs.Traces.{same_last, one_more}
use Rattle.ncp_play_stream.specs.Streams.{WritesText, WritesTextOrPrefixOf}
use Rattle.ncp_play_stream.specs.declared.source.Failed.{Failed}
use Rattle.ncp_play_simulation.specs.Printing.{printed_from, told}
use Rattle.ncp_play_world.specs.WorldRules.{StagedWorld, world_traced}
use Rattle.ncp_transcript_many.specs.declared.many_note.ManyNote.{ManyNote}
use Rattle.ncp_play_world.specs.ManyRules.{StagedMany, many_traced}
use Rattle.ncp_play_world_lines.specs.Recorded.{recorded_of, record_of_many, bytes_if, file_of_notes, file_of_many_notes}
use Rattle.ncp_play_world.specs.Renderings.{recording_with, recording_of, recording_of_many}

one : (recorded : Option Recorded) → bytes_if recorded ≡ flat_map bytes_of_record (option_to_list recorded)
one None = refl
one (Some recorded) = sym (append-nil (bytes_of_record recorded))

-- of hosts of any kind
module _ {Name E N H : Type 0} (kind : Kind Name E N H) (record_of : N → Option Recorded) where
  abbrev bytes_of : N → List ℕ
  bytes_of note = bytes_if (record_of note)

  abbrev all_of : List N → List Recorded
  all_of notes = flat_map (λ note. option_to_list (record_of note)) notes

  from : (number : ℕ) (s : Staged (Noted_hosts H N) N) (traces : List (ScriptNote N)) → printed_from (traced_of kind) (recording_with bytes_of) number s traces ≡ flat_map bytes_of_record (all_of (notes_in traces))
  from number s [] = refl
  from number s (Settled many ∷ traces) = from (number_after number) (traced_of kind (Settled many) s) traces
  from number s (Noted note ∷ traces) =
      ap (λ rest. bytes_of note ++ rest) (from (number_after number) (traced_of kind (Noted note) s) traces)
      ∙ ap (λ bytes. bytes ++ flat_map bytes_of_record (all_of (notes_in traces))) (one (record_of note))
      ∙ sym (flat_map-append bytes_of_record (option_to_list (record_of note)) (all_of (notes_in traces)))

pub printed_is_file : (first : FirstLine TwoHosts Side) (began : StagedWorld) (traces : List (ScriptNote Note)) → told world_traced (recording_of first) began traces ≡ file_of_notes first.hosts (notes_in traces)
printed_is_file first began traces = ap (λ bytes. header_of Two ++ bytes) (from two_kind (recorded_of first.hosts) 1 began traces)

pub printed_is_file_of_many : (first : FirstLine (List ℕ) HostAndPeer) (began : StagedMany) (traces : List (ScriptNote ManyNote)) → told many_traced (recording_of_many first) began traces ≡ file_of_many_notes (notes_in traces)
printed_is_file_of_many first began traces = ap (λ bytes. header_of Two ++ bytes) (from many_kind record_of_many 1 began traces)

-- ---- the last trace

module _ {N : Type 0} (traces before : List (ScriptNote N)) (trace : ScriptNote N) (e : traces ≡ before ++ trace ∷ []) where
  -- what is said of the last is said of it
  pub printed_last : (text : ScriptNote N → List ℕ) (it : ScriptNote N) (page last : List ℕ) (a b : Option (List ℕ)) (r : Result Unit Failed) → IsLast it traces → WritesTextOrPrefixOf page a (text it) r last b → WritesTextOrPrefixOf page a (text trace) r last b
  printed_last text it page last a b r is says = subst (λ (t : ScriptNote N). WritesTextOrPrefixOf page a (text t) r last b) (same_last traces before is.0 trace it e is.1) says

  -- there is one
  pub no_last : traces ≡ [] → ⊥
  no_last none = let longer = one_more traces before trace e in let empty = ap length none in omega (arith, longer, empty)

-- nothing is said
pub nothing_said : (page : List ℕ) (a : Option (List ℕ)) → WritesText page a [] page a
nothing_said page a = λ was said k. (k.0, k.1, k.2 ∙ sym (append-nil said))
