-- A script, by its first line and the lines after it.
use Rattle.std.proofs.Common.{◌≡◌, inl, inr, ℕ, Bool, true, false, List, [], Option, Some, Result, Ok, Err, refl, sym, ap, ◌∙◌, subst}
use Rattle.std.proofs.lemmas.List.{append-nil}
use Rattle.ncp_play_stream.specs.Streams.{SaidSoFar}
use Rattle.ncp_play_script.specs.declared.line_buffer.LineKind.TheVariants.{Played}
use Rattle.ncp_play_script.specs.Words.{words_of}
use Rattle.ncp_play_script.specs.Scripts.{Line, lines_of, said, EventPlan, Plays}
use Rattle.ncp_play_reader.specs.declared.lines.Lines.{Lines}
use Rattle.ncp_play_reader.specs.NextLines.{IsNextLine}
use Rattle.ncp_play_reader.proofs.Nexts.{last_after}
use Rattle.ncp_play_notes.specs.Faults.{play_read_failed}
use Rattle.ncp_play_notes.specs.declared.fault.PlayFault.{PlayFault}
use Rattle.ncp_play_notes.specs.declared.fault.PlayFault.TheVariants.{BadLine, LineTooLong, BadHosts, Feed, ReadFailed, WriteFailed, OutOfMemory}
use Rattle.ncp_play_simulation.specs.Rules.{Rules, script}
use Rattle.ncp_play_simulation.specs.Printing.{Rendering, after_all, told, number_after_notes}
use Rattle.ncp_play_simulation.specs.Playing.{Tells}
use Rattle.ncp_play_simulation.specs.NextEvents.{course_of, FindsFirst}
use Rattle.ncp_play_simulation.specs.Players.{PlaysAfter, PlaysScript}
use Rattle.ncp_play_simulation.proofs.AskedLines.{no_first, first_long, first_named, first_cut}

module _ {F E N W : Type 0} (rules : Rules F E N W) where
  -- the rendering's head is in the out buffer
  pub begins : (rendering : Rendering N W) (named : F) (was page : List ℕ) (hosts : W) (written : Option (List ℕ)) → rules.notes (rules.begun named) ≡ [] → hosts ≡ rules.begun named → page ≡ rendering.head → written ≡ Some was
      → Tells rules rendering (rules.begun named) was hosts 1 page written
  begins rendering named was page hosts written none e head w =
      let new : W = rules.begun named in
      subst (λ (x : W). Tells rules rendering new was x 1 page written) (sym e)
      (subst (λ (ns : List N). (new ≡ after_all rules.after ns new) × (1 ≡ number_after_notes 1 ns) × SaidSoFar was page written (told rules.after rendering new ns)) (sym none)
      (refl, refl, ([], w ∙ ap Some (sym (append-nil was)), head ∙ sym (append-nil rendering.head))))

  -- no first line is found
  pub finds_none : (rendering : F → Rendering N W) (bytes was : List ℕ) (fault : PlayFault) (now : Lines) (left written : Option (List ℕ)) → FindsFirst 1 bytes (Err fault) now left → written ≡ Some was → PlaysScript rules rendering bytes was (Err fault) left written
  finds_none rendering bytes was BadHosts now left written h w = (no_first rules 1 (lines_of bytes) h, w)
  finds_none rendering bytes was (LineTooLong line) now left written h w = inl (first_long rules 1 bytes line h.0 now left h.1, w)
  finds_none rendering bytes was ReadFailed now left written h w = (h.0, h.1, inl (h.2, w))
  finds_none rendering bytes was OutOfMemory now left written h w = absurd h
  finds_none rendering bytes was WriteFailed now left written h w = absurd h
  finds_none rendering bytes was (BadLine line) now left written h w = absurd h
  finds_none rendering bytes was (Feed fault) now left written h w = absurd h

  module _ (rendering : F → Rendering N W) (bytes was : List ℕ) (named : F) (lines : Lines) (left written : Option (List ℕ)) (number : ℕ) (line : Line) (source : Option (List ℕ))
      (is : IsNextLine 1 bytes Played number line lines.number lines.window source) (some : rules.first (words_of (said line)) ≡ Some named) where
    abbrev course : EventPlan E
    course = course_of rules named lines.number line.behind

    is_script : script rules bytes ≡ Plays named course
    is_script = first_named rules 1 bytes number line lines source named is some

    -- if no LF ended the first line, no line follows it
    pub none_following : (ended : Bool) → line.ended ≡ ended → ended ≡ false → line.behind ≡ []
    none_following ended e f = last_after 1 bytes number line (lines_of line.behind) is.0 (e ∙ f)

    read_failed : line.ended ≡ true → PlaysAfter rules (rendering named) named lines.number line.behind was (Err ReadFailed) left written → PlaysScript rules rendering bytes was (Err ReadFailed) left written
    read_failed ended h =
        let cut = first_cut rules 1 bytes number line lines source named is some ended h.1.0 left h.1.1 in
        (cut.0, cut.1, inr (named, h.0, (_, cut.2, h.1.2, h.2), h.3))

    read_failed_by : (ended : Bool) → line.ended ≡ ended → (ended ≡ false → true ≡ false) → PlaysAfter rules (rendering named) named lines.number line.behind was (Err ReadFailed) left written → PlaysScript rules rendering bytes was (Err ReadFailed) left written
    read_failed_by true e unread h = read_failed e h
    read_failed_by false e unread h = let f : true ≡ false = unread refl in let g : ⊥ = cc in absurd g

    pub plays_after : (ended : Bool) → line.ended ≡ ended → (r : Result Bool PlayFault) → (ended ≡ false → play_read_failed r ≡ false) → PlaysAfter rules (rendering named) named lines.number line.behind was r left written → PlaysScript rules rendering bytes was r left written
    plays_after ended e (Ok good) unread h = (named, h.0, (course, is_script, h.1, h.2), h.3, h.4)
    plays_after ended e (Err (BadLine at)) unread h = (named, h.0, (course, is_script, h.1, h.2), h.3)
    plays_after ended e (Err (LineTooLong at)) unread h = inr (named, h.0, (course, is_script, h.1, h.2), h.3)
    plays_after ended e (Err ReadFailed) unread h = read_failed_by ended e unread h
    plays_after ended e (Err OutOfMemory) unread h = (named, h.0, (course, is_script, h.1, h.2), h.3)
    plays_after ended e (Err WriteFailed) unread h = (named, h.0, (course, is_script, h.1, h.2), h.3)
    plays_after ended e (Err BadHosts) unread h = absurd h.1
    plays_after ended e (Err (Feed fault)) unread h = absurd h.1
