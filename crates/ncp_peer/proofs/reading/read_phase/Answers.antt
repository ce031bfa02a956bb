use Rattle.std.proofs.Common.{◌≡◌, ◌++◌, [], ℕ, List, ap, ◌∙◌}
use Rattle.ncp_model.specs.Phase.{Phase}
use Rattle.ncp_saved.specs.Values.{listed, command_saved}
use Rattle.ncp_phase.specs.declared.flags.Flags.{Flags}
use Rattle.ncp_phase.specs.Flags.{flags_of}
use Rattle.ncp_phase.specs.Restoring.{phase_with}
use Rattle.ncp_phase.specs.SavedPhase.{phase_saved}
use Rattle.ncp_peer.specs.Loading.{flags_saved}
use Rattle.ncp_peer.proofs.reading.read_phase.Goals as goal

pieces : (p : Phase) (reader rest : List ℕ) → reader ≡ phase_saved p ++ rest → reader ≡ flags_saved (flags_of p) ++ (listed command_saved p.waiting ++ rest)
unfolding phase_saved
pieces p reader rest e = e

pub returns-in_err-flags : goal.returns-in_err-flags
returns-in_err-flags c = record {
  reads = λ p rest queue told e. absurd (let read = c.read_flags.ensures.reads (flags_of p) (listed command_saved p.waiting ++ rest) (pieces p c.args.reader.now rest e) in let was = c.in_err-flags.was in cc);
}

pub returns-in_err-read_commands : goal.returns-in_err-read_commands
returns-in_err-read_commands c = record {
  reads = λ p rest queue told e.
      let first = c.read_flags.ensures.reads (flags_of p) (listed command_saved p.waiting ++ rest) (pieces p c.args.reader.now rest e) in
      let same : c.in_ok-flags.flags ≡ flags_of p = (let was = c.in_ok-flags.was in let is = first.0 in cc) in
      absurd (let read = c.read_commands.ensures.reads (flags_of p) p.waiting rest queue told (c.in_ok-phase.ensures ∙ ap (λ (f : Flags). phase_with f []) same) first.1 in let was = c.in_err-read_commands.was in cc);
}

pub returns : goal.returns
returns c = record {
  reads = λ p rest queue told e.
      let first = c.read_flags.ensures.reads (flags_of p) (listed command_saved p.waiting ++ rest) (pieces p c.args.reader.now rest e) in
      let same : c.in_ok-flags.flags ≡ flags_of p = (let was = c.in_ok-flags.was in let is = first.0 in cc) in
      let second = c.read_commands.ensures.reads (flags_of p) p.waiting rest queue told (c.in_ok-phase.ensures ∙ ap (λ (f : Flags). phase_with f []) same) first.1 in
      (second.1, second.2);
}
