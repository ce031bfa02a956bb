use Rattle.std.proofs.Common.{◌≡◌, ◌++◌, ◌∷◌, ℕ, List, ap, ◌∙◌}
use Rattle.std.proofs.lemmas.List.{append_assoc}
use Rattle.ncp_model.specs.Echo.{Echoes}
use Rattle.ncp_saved.specs.Values.{mark, listed, error_saved, echoed_saved}
use Rattle.ncp_phase.specs.SavedPhase.{echoes_saved}
use Rattle.ncp_peer.proofs.reading.read_echoes.Goals as goal

pieces : (s : Echoes) (reader rest : List ℕ) → reader ≡ echoes_saved s ++ rest → reader ≡ mark s.awaited ∷ (echoed_saved s.echoed ++ (listed error_saved s.errors ++ rest))
unfolding echoes_saved
pieces s reader rest e = e ∙ ap (λ (w : List ℕ). mark s.awaited ∷ w) (append_assoc (echoed_saved s.echoed) (listed error_saved s.errors) rest)

pub returns-in_err-read_echo : goal.returns-in_err-read_echo
returns-in_err-read_echo c = record {
  reads = λ s rest fit e.
      absurd (let read = c.read_echo.ensures.reads s.awaited s.echoed (listed error_saved s.errors ++ rest) c.in_ok-echoes.ensures (pieces s c.args.reader.now rest e) in let was = c.in_err-read_echo.was in cc);
}

pub returns-in_err-read_errors : goal.returns-in_err-read_errors
returns-in_err-read_errors c = record {
  reads = λ s rest fit e.
      let first = c.read_echo.ensures.reads s.awaited s.echoed (listed error_saved s.errors ++ rest) c.in_ok-echoes.ensures (pieces s c.args.reader.now rest e) in
      absurd (let read = c.read_errors.ensures.reads s.errors rest fit.few fit.whole (ap (λ (x : Echoes). x.errors) first.1) first.2 in let was = c.in_err-read_errors.was in cc);
}

pub returns : goal.returns
returns c = record {
  reads = λ s rest fit e.
      let first = c.read_echo.ensures.reads s.awaited s.echoed (listed error_saved s.errors ++ rest) c.in_ok-echoes.ensures (pieces s c.args.reader.now rest e) in
      let second = c.read_errors.ensures.reads s.errors rest fit.few fit.whole (ap (λ (x : Echoes). x.errors) first.1) first.2 in
      (second.1 ∙ ap (λ (x : Echoes). record x { errors = s.errors }) first.1, second.2);
}
