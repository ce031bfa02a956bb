-- The events of a script of hosts of some kind (this profile): two hosts, or two to eight.
use Rattle.std.specs.Prelude.{◌≡◌, ℕ, Bool, true, false, List, [], ◌∷◌, ◌++◌, Option, None, Some}
use Rattle.ncp_transcript_two.specs.Transcript.{Noted_hosts}
use Rattle.ncp_world.specs.Kinds.{Kind}
use Rattle.ncp_world.specs.Next.{next_by_itself}
use Rattle.ncp_play_simulation.specs.Rules.{Rules}
use Rattle.ncp_play_world_lines.specs.declared.settling.Directive.{Directive}
use Rattle.ncp_play_world_lines.specs.declared.settling.Directive.TheVariants.{Event as Does, Settle}
use Rattle.ncp_play_world_lines.specs.declared.settling.ScriptNote.{ScriptNote}
use Rattle.ncp_play_world_lines.specs.declared.settling.ScriptNote.TheVariants.{Noted, Settled}
use Rattle.ncp_play_world_lines.specs.Settling.{deed_of_line}
use Rattle.ncp_play_world.specs.Traces.{Staged, notes_in, traced, is_trace_refusal}

module _ {Name E N H : Type 0} (kind : Kind Name E N H) where
  -- hosts with their notes after one more note
  abbrev pub noted_of : N → Noted_hosts H N → Noted_hosts H N
  noted_of note it = record { hosts = kind.after note it.hosts; notes = it.notes ++ note ∷ [] }

  -- hosts after one more script note
  abbrev pub traced_of : ScriptNote N → Staged (Noted_hosts H N) N → Staged (Noted_hosts H N) N
  traced_of trace s = traced noted_of trace s

  -- One step of the directive of a line, after `left` notes of it. An event is one step. The word `settle`
  -- performs the event that is next without a call; if there is none, it appends the number of its events.
  abbrev pub PartOf : Directive E → ℕ → Bool → Staged (Noted_hosts H N) N → Staged (Noted_hosts H N) N → Type 0
  PartOf (Does event) left false before now = (note : N) × kind.Noted event note before.hosts.hosts × (now ≡ traced_of (Noted note) before)
  PartOf (Does event) left true before now = ⊥
  PartOf Settle left true before now =
      (note : N) × ((event : E) × (next_by_itself kind before.hosts.hosts ≡ Some event) × kind.Noted event note before.hosts.hosts) × kind.ByItself note before.hosts.hosts × (now ≡ traced_of (Noted note) before)
  PartOf Settle left false before now = (next_by_itself kind before.hosts.hosts ≡ None) × kind.IsSettled before.hosts.hosts × (now ≡ traced_of (Settled left) before)

  -- the notes are a transcript of the hosts
  abbrev pub IsRunOf : Staged (Noted_hosts H N) N → Type 0
  IsRunOf s = kind.IsTranscript s.hosts.notes s.hosts.hosts × (notes_in s.traces ≡ s.hosts.notes)

  -- the lines after the first are events of new hosts, or `settle`
  abbrev pub rules_of : {F : Type 0} → (List (List ℕ) → Option F) → (F → List (List ℕ) → Option E) → (F → Noted_hosts H N) → (N → Bool) → Rules F (Directive E) (ScriptNote N) (Staged (Noted_hosts H N) N)
  rules_of first reads begun is_refusal = record {
    first = first;
    reads = λ named. deed_of_line (reads named);
    begun = λ named. record { hosts = begun named; traces = [] };
    notes = λ s. s.traces;
    after = traced_of;
    Part = PartOf;
    IsRun = IsRunOf;
    is_refusal = is_trace_refusal is_refusal;
  }
