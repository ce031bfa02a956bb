-- The steps of a host are noted, a note for each.
use Rattle.std.proofs.Common.{◌≡◌, List, [], ◌∷◌, ◌++◌, sym, ap, ◌∙◌, subst}
use Rattle.std.proofs.lemmas.List.{append_assoc, append-nil}
use Rattle.ncp_transcript.specs.declared.input.Input.{Input}
use Rattle.ncp_transcript.specs.declared.note.HostNote.{HostNote}
use Rattle.ncp_transcript.specs.Alone.{Alone, AreHostSteps}
use Rattle.ncp_transcript.specs.Runs.{AreHostNotes}

pub noted : (given : List Input) (before now : Alone) → AreHostSteps given before now → (all : List HostNote) × (now.notes ≡ before.notes ++ all) × AreHostNotes given all before.host
noted [] before now e = ([], ap (λ (a : Alone). a.notes) e ∙ sym (append-nil before.notes), tt)
noted (input ∷ given) before now s =
    let rest = noted given s.0 now s.2 in
    let note = s.1.0 in (
      note ∷ rest.0,
      rest.1 ∙ ap (λ (xs : List HostNote). xs ++ rest.0) s.1.2 ∙ append_assoc before.notes (note ∷ []) rest.0,
      (s.1.1, subst (AreHostNotes given rest.0) s.1.3 rest.2),
    )
