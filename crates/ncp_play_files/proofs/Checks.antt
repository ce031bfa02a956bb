-- Writing the line of the counts.
use Rattle.std.proofs.Common.{◌≡◌, ℕ, Bool, List, [], ◌++◌, Option, Some, Ok, Err, sym, ap, ◌∙◌}
use Rattle.std.proofs.lemmas.List.{append-nil}
use Rattle.ncp_play_files.specs.declared.file.FileFault.{FileFault}
use Rattle.ncp_play_files.specs.declared.file.FileFault.TheVariants.{BadHeader, Truncated, TooLong, SpareNotZero, ReadFailed, WriteFailed, BadDirection, Mixed}
use Rattle.ncp_play_files.specs.declared.tally.Totals.{Totals}
use Rattle.ncp_play_stream.specs.Streams.{SaidSoFar, WritesText, WritesPrefixOf}
use Rattle.ncp_play_files.specs.Checked.{totals_of, totals_line, is_sound, Checked}
use Rattle.ncp_play_files.specs.Tallies.{TotalsFile}

-- what is said where a page with the line is all that there is
fresh : (was line page : List ℕ) (written : Option (List ℕ)) → written ≡ Some was → page ≡ line → SaidSoFar was page written line
fresh was line page written e p = ([], e ∙ ap Some (sym (append-nil was)), p)

pub checked_ok : (bytes was page last : List ℕ) (left written now : Option (List ℕ)) (tally : Totals) (good : Bool) → TotalsFile bytes (Ok tally) left → written ≡ Some was → page ≡ totals_line tally
    → (last ≡ []) × WritesText page written [] last now → good ≡ is_sound tally → Checked bytes was left now (Ok good)
checked_ok bytes was page last left written now tally good h e p k g =
    let line = totals_line (totals_of h.0) in
    let said = k.1 was line (fresh was line page written e (p ∙ ap totals_line h.2)) in
    let same : said.0 ≡ line = sym (append-nil said.0) ∙ ap (λ xs. said.0 ++ xs) (sym k.0) ∙ said.2 ∙ append-nil line in
    (h.0, h.1, said.1 ∙ ap (λ xs. Some (was ++ xs)) same, g ∙ ap is_sound h.2)

pub checked_broken : (bytes was page : List ℕ) (left written now : Option (List ℕ)) (tally : Totals) → TotalsFile bytes (Ok tally) left → written ≡ Some was → page ≡ totals_line tally → WritesPrefixOf page written [] now
    → Checked bytes was left now (Err WriteFailed)
checked_broken bytes was page left written now tally h e p k =
    let line = totals_line (totals_of h.0) in
    let said = k.1 was line (fresh was line page written e (p ∙ ap totals_line h.2)) in
    (h.0, said.0, k.0, h.1, sym (said.2 ∙ append-nil line), said.1)

pub checked_fault : (bytes was : List ℕ) (left written : Option (List ℕ)) (fault : FileFault) → TotalsFile bytes (Err fault) left → written ≡ Some was → Checked bytes was left written (Err fault)
checked_fault bytes was left written BadHeader h e = (h.0, h.1, e)
checked_fault bytes was left written Truncated h e = (h.0, h.1, e)
checked_fault bytes was left written TooLong h e = (h.0, h.1, e)
checked_fault bytes was left written SpareNotZero h e = (h.0, h.1, e)
checked_fault bytes was left written BadDirection h e = (h.0, h.1, e)
checked_fault bytes was left written Mixed h e = (h.0, h.1, e)
checked_fault bytes was left written ReadFailed h e = (h.0, h.1, h.2, h.3, h.4, h.5, h.6, h.7, e)
checked_fault bytes was left written WriteFailed h e = absurd h
