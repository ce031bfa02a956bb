-- An out buffer that is written at once.
use Rattle.std.proofs.Common.{◌≡◌, ℕ, List, [], ◌++◌, Option, Some, Result, Ok, Err, sym, ap, ◌∙◌}
use Rattle.std.specs.Result.{OnOk, OnErr}
use Rattle.std.proofs.lemmas.List.{append-nil}
use Rattle.ncp_play_stream.specs.declared.source.Failed.{Failed}
use Rattle.ncp_play_stream.specs.Streams.{SaidSoFar, WritesText, WritesPrefixOf}
use Rattle.ncp_play_notes.specs.Faults.{WroteOrBegan}

-- the text so far, if a buffer with it is all that there is
fresh : (was text page : List ℕ) (written : Option (List ℕ)) → written ≡ Some was → page ≡ text → SaidSoFar was page written text
fresh was text page written e p = ([], e ∙ ap Some (sym (append-nil was)), p)

pub wrote : (was text page last : List ℕ) (written now : Option (List ℕ)) (r : Result Unit Failed) → written ≡ Some was → page ≡ text → OnOk r ((last ≡ []) × WritesText page written [] last now) → OnErr r (WritesPrefixOf page written [] now) → WroteOrBegan was text r now
wrote was text page last written now (Ok done) e p h k =
    let said = h.1 was text (fresh was text page written e p) in
    let same : said.0 ≡ text = sym (append-nil said.0) ∙ ap (λ xs. said.0 ++ xs) (sym h.0) ∙ said.2 ∙ append-nil text in
    said.1 ∙ ap (λ xs. Some (was ++ xs)) same
wrote was text page last written now (Err failed) e p h k =
    let said = k.1 was text (fresh was text page written e p) in
    (said.0, k.0, said.2 ∙ append-nil text, said.1)
