-- What is said of one note to an empty sink.
use Rattle.std.proofs.Common.{◌≡◌, ℕ, List, [], ◌++◌, Option, Some, Result, Ok, Err, OnOk, OnErr, refl, sym, ap, ◌∙◌, subst}
use Rattle.std.proofs.lemmas.List.{append-nil}
use Rattle.ncp_play_script.specs.Words.{words_of}
use Rattle.ncp_play_simulation.specs.Rules.{Rules}
use Rattle.ncp_play_simulation.specs.Printing.{Rendering}
use Rattle.ncp_play_stream.specs.Streams.{SaidSoFar, WritesText, WritesPrefixOf}
use Rattle.ncp_web.specs.declared.stage.Refusal.{Refusal}
use Rattle.ncp_web.specs.declared.stage.Refusal.TheVariants.{NoLine, NoMemory, Full}
use Rattle.ncp_play_stream.specs.declared.source.Failed.{Failed}
use Rattle.ncp_web.specs.Readings.{IsWritten}
use Rattle.ncp_web.specs.Sessions.{Notes, Steps, printed_last}

module _ (text page before : List ℕ) (no_page : page ≡ []) (no_bytes : before ≡ []) where
  -- nothing was said so far
  nothing : SaidSoFar [] page (Some before) []
  nothing = (before, refl, ap (λ (it : List ℕ). it ++ page) no_bytes ∙ no_page)

  -- a text was said, and the page was written: it stands in the sink
  pub whole : (middle left sent : List ℕ) (written : Option (List ℕ)) → WritesText page (Some before) text middle written → (left ≡ []) × WritesText middle written [] left (Some sent) → sent ≡ text
  whole middle left sent written said flushed =
      let one = said [] [] nothing in
      let two = flushed.1 [] text one in
      let same : Some sent ≡ Some two.0 = two.1 in
      let sent_is : sent ≡ two.0 = cc in
      sent_is ∙ sym (append-nil two.0) ∙ ap (λ (it : List ℕ). two.0 ++ it) (sym flushed.0) ∙ two.2 ∙ append-nil text

  -- a beginning of it was written: the rest is lost
  pub beginning : (sent : List ℕ) → WritesPrefixOf page (Some before) text (Some sent) → (more : List ℕ) × (sent ++ more ≡ text)
  beginning sent broken =
      let one = broken.1 [] [] nothing in
      let same : Some sent ≡ Some one.0 = one.1 in
      let sent_is : one.0 ≡ sent = cc in
      (broken.0, subst (λ (it : List ℕ). it ++ broken.0 ≡ text) sent_is one.2)

  -- it was said, and then the page was not all written
  pub broken_off : (middle sent : List ℕ) (written : Option (List ℕ)) → WritesText page (Some before) text middle written → WritesPrefixOf middle written [] (Some sent) → (more : List ℕ) × (sent ++ more ≡ text)
  broken_off middle sent written said broken =
      let one = said [] [] nothing in
      let two = broken.1 [] text one in
      let same : Some sent ≡ Some two.0 = two.1 in
      let sent_is : two.0 ≡ sent = cc in
      (broken.0, subst (λ (it : List ℕ). it ++ broken.0 ≡ text) sent_is (two.2 ∙ append-nil text))

  -- a text was said, and then the page was written, or a beginning
  pub said_all : (middle left sent : List ℕ) (written : Option (List ℕ)) (answer : Result Unit Failed) → WritesText page (Some before) text middle written
      → OnOk answer ((left ≡ []) × WritesText middle written [] left (Some sent)) → OnErr answer (WritesPrefixOf middle written [] (Some sent)) → IsWritten text answer sent
  said_all middle left sent written (Ok done) said ok err = whole middle left sent written said ok
  said_all middle left sent written (Err failed) said ok err = broken_off middle sent written said err

-- a line on a page, which is then written to an empty sink
pub line_written : (line page before left sent : List ℕ) (answer : Result Unit Failed) → page ≡ line → before ≡ []
    → OnOk answer ((left ≡ []) × WritesText page (Some before) [] left (Some sent)) → OnErr answer (WritesPrefixOf page (Some before) [] (Some sent)) → IsWritten line answer sent
line_written line page before left sent (Ok done) is empty ok err =
    let one = ok.1 [] page ([], ap (λ (it : List ℕ). Some it) empty, refl) in
    let same : Some sent ≡ Some one.0 = one.1 in
    let sent_is : sent ≡ one.0 = cc in
    sent_is ∙ sym (append-nil one.0) ∙ ap (λ (it : List ℕ). one.0 ++ it) (sym ok.0) ∙ one.2 ∙ append-nil page ∙ is
line_written line page before left sent (Err failed) is empty ok err =
    let one = err.1 [] page ([], ap (λ (it : List ℕ). Some it) empty, refl) in
    let same : Some sent ≡ Some one.0 = one.1 in
    let sent_is : one.0 ≡ sent = cc in
    (err.0, subst (λ (it : List ℕ). it ++ err.0 ≡ line) sent_is (one.2 ∙ append-nil page ∙ is))

-- what became of a line whose event was refused, or not told to the end
pub refused : {F E N W : Type 0} (rules : Rules F E N W) (rendering : Rendering N W) (first : F) (line : List ℕ) (event : E) (left left' : ℕ) (was now : W) (page before page' sent : List ℕ) (refusal : Refusal)
    → page ≡ [] → before ≡ [] → rules.reads first (words_of line) ≡ Some event → Notes rules rendering event left was (Err refusal) left' now page (Some before) page' (Some sent) → Steps rules rendering first line left was (Err refusal) left' now sent
refused rules rendering first line event left left' was now page before page' sent NoMemory no_page no_bytes reads noted =
    let same : Some sent ≡ Some before = noted.2 in
    let sent_is : sent ≡ before = cc in
    (noted.0, noted.1, sent_is ∙ no_bytes)
refused rules rendering first line event left left' was now page before page' sent Full no_page no_bytes reads noted =
    let begun = beginning (printed_last rules rendering noted.1 now) page before no_page no_bytes sent noted.4 in
    (noted.0, noted.1, (event, reads, noted.2), noted.3, begun.0, begun.1)
refused rules rendering first line event left left' was now page before page' sent NoLine no_page no_bytes reads noted = absurd noted
