-- Properties of every script of hosts of some kind.
use Rattle.std.specs.Prelude.{◌≡◌, ℕ, Bool, true, false, [], ◌∷◌, ◌++◌}
use Rattle.std.proofs.Common.{sym, ap}
use Rattle.ncp_transcript_two.specs.Transcript.{Noted_hosts}
use Rattle.ncp_world.specs.Kinds.{Kind}
use Rattle.ncp_play_world_lines.specs.declared.settling.Directive.{Directive}
use Rattle.ncp_play_world_lines.specs.declared.settling.Directive.TheVariants.{Event as Does, Settle}
use Rattle.ncp_play_world_lines.specs.declared.settling.ScriptNote.{ScriptNote}
use Rattle.ncp_play_world_lines.specs.declared.settling.ScriptNote.TheVariants.{Noted, Settled}
use Rattle.ncp_play_world.specs.Traces.{Staged}
use Rattle.ncp_play_world.specs.HostsRules.{traced_of, PartOf, IsRunOf}

module _ {Name E N H : Type 0} (kind : Kind Name E N H) where
  -- new hosts have a transcript, without notes
  pub run_of_none : (it : Noted_hosts H N) → it.notes ≡ [] → kind.IsTranscript it.notes it.hosts → IsRunOf kind (record { hosts = it; traces = [] })
  run_of_none it none run = (run, sym none)

  -- one more script note
  abbrev OneTrace : Staged (Noted_hosts H N) N → Staged (Noted_hosts H N) N → Type 0
  OneTrace before now = (trace : ScriptNote N) × (now.traces ≡ before.traces ++ trace ∷ []) × (now ≡ traced_of kind trace before)

  pub one_trace : (deed : Directive E) (left : ℕ) (more : Bool) (before now : Staged (Noted_hosts H N) N) → PartOf kind deed left more before now → OneTrace before now
  one_trace (Does event) left false before now part = (Noted part.0, ap (λ (s : Staged (Noted_hosts H N) N). s.traces) part.2, part.2)
  one_trace (Does event) left true before now part = absurd part
  one_trace Settle left true before now part = (Noted part.0, ap (λ (s : Staged (Noted_hosts H N) N). s.traces) part.3, part.3)
  one_trace Settle left false before now part = (Settled left, ap (λ (s : Staged (Noted_hosts H N) N). s.traces) part.2, part.2)
