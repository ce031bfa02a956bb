-- The event of the next line, by its words.
use Rattle.std.proofs.Common.{◌≡◌, ℕ, Bool, true, false, List, Option, Some, None, Ok, Err, option_map, sym, ap, ◌∙◌, subst}
use Rattle.ncp_play_script.specs.declared.line_buffer.LineKind.{LineKind}
use Rattle.ncp_play_script.specs.declared.line_buffer.LineKind.TheVariants as kinds
use Rattle.ncp_play_script.specs.Words.{words_of}
use Rattle.ncp_play_script.specs.Calls.{NamesGiveAfter}
use Rattle.ncp_play_script.specs.Scripts.{Line, lines_of, said, Event as Asks, Over as Is_over, Faulty, course_ends, course_of_line, played, number_following, script_begun, first_judged, NoHosts, Plays}
use Rattle.ncp_play_script.specs.Scripts.{BadLine as Is_bad_line, LineTooLong as Is_too_long, BadHosts as Are_bad_hosts}
use Rattle.ncp_play_reader.specs.declared.lines.Lines.{Lines}
use Rattle.ncp_play_reader.specs.NextLines.{next_from, ended_lines, CameBefore, IsNextLine}
use Rattle.ncp_play_reader.proofs.Courses.{course_at, course_next, script_at, script_next}
use Rattle.ncp_play_reader.proofs.Nexts.{came_after, last_after}
use Rattle.ncp_play_notes.specs.declared.fault.PlayFault.{PlayFault}
use Rattle.ncp_play_notes.specs.declared.fault.PlayFault.TheVariants.{BadLine, LineTooLong, BadHosts, Feed, ReadFailed, WriteFailed, OutOfMemory}
use Rattle.ncp_play_simulation.specs.Rules.{Rules, asks}
use Rattle.ncp_play_simulation.specs.NextEvents.{EventIn, course_of, course_cut, with_event, AsksOne, AsksNext}
use Rattle.ncp_play_simulation.specs.Players.{script_after}

module _ {F E N W : Type 0} (rules : Rules F E N W) (named : F) (first : ℕ) (bytes : List ℕ) where
  -- the events from the next line on
  course_is : (kind : LineKind) (number : ℕ) (line : Line) (next : ℕ) (window : List ℕ) (left : Option (List ℕ)) → IsNextLine first bytes kind number line next window left
      → course_of rules named first bytes ≡ course_of_line number line kind (asks rules named (words_of (said line))) (course_of rules named (number_following number) line.behind)
  course_is kind number line next window left is =
      course_next (asks rules named) first (lines_of bytes) ∙ ap (course_at (asks rules named)) is.0
      ∙ ap (λ k. course_of_line number line k (asks rules named (words_of (said line))) (course_of rules named (number_following number) line.behind)) is.1

  pub asks_over : next_from first (lines_of bytes) ≡ None → course_of rules named first bytes ≡ course_ends Is_over
  asks_over none = course_next (asks rules named) first (lines_of bytes) ∙ ap (course_at (asks rules named)) none

  pub asks_cut : (given : List ℕ) → next_from first (ended_lines (lines_of given)) ≡ None → course_cut rules named first given ≡ course_ends Is_over
  asks_cut given none = course_next (asks rules named) first (ended_lines (lines_of given)) ∙ ap (course_at (asks rules named)) none

  module _ (number : ℕ) (line : Line) (now : Lines) (left : Option (List ℕ)) (is : IsNextLine first bytes kinds.Played number line now.number now.window left) where
    pub asks_bad : rules.reads named (words_of (said line)) ≡ None → course_of rules named first bytes ≡ course_ends (Faulty (Is_bad_line number))
    asks_bad none =
        course_is kinds.Played number line now.number now.window left is
        ∙ ap (λ (event : Option E). played number line (option_map Asks event) (course_of rules named (number_following number) line.behind)) none

    asks_event : (event : E) → rules.reads named (words_of (said line)) ≡ Some event → course_of rules named first bytes ≡ with_event event (course_of rules named (number_following number) line.behind)
    asks_event event some =
        course_is kinds.Played number line now.number now.window left is
        ∙ ap (λ (event : Option E). played number line (option_map Asks event) (course_of rules named (number_following number) line.behind)) some

    -- the same for bytes that were cut off after the line
    cut_event : (event : E) → rules.reads named (words_of (said line)) ≡ Some event → (given all : List ℕ)
        → next_from first (ended_lines (lines_of all)) ≡ Some (number, record line { behind = given }, ended_lines (lines_of given))
        → course_cut rules named first all ≡ with_event event (course_cut rules named (number_following number) given)
    cut_event event some given all found =
        course_next (asks rules named) first (ended_lines (lines_of all)) ∙ ap (course_at (asks rules named)) found
        ∙ ap (λ k. course_of_line number (record line { behind = given }) k (asks rules named (words_of (said line))) (course_cut rules named (number_following number) given)) is.1
        ∙ ap (λ (event : Option E). played number (record line { behind = given }) (option_map Asks event) (course_cut rules named (number_following number) given)) some

    pub asks_one : (event : E) → rules.reads named (words_of (said line)) ≡ Some event → line.ended ≡ true → AsksOne rules named first bytes event now left
    asks_one event some ended = (
      line.behind,
      asks_event event some ∙ ap (λ n. with_event event (course_of rules named n line.behind)) (sym is.2),
      is.3,
      λ given left' before.
          let came = came_after first bytes number line (lines_of line.behind) given left' is.0 ended before in
          (came.0, came.1, cut_event event some given came.0 came.2 ∙ ap (λ n. with_event event (course_cut rules named n given)) (sym is.2)),
    )

    pub asks_last : (event : E) → rules.reads named (words_of (said line)) ≡ Some event → line.ended ≡ false → course_of rules named first bytes ≡ with_event event (course_ends Is_over)
    asks_last event some ended =
        asks_event event some
        ∙ ap (λ behind. with_event event (course_of rules named (number_following number) behind)) (last_after first bytes number line (lines_of line.behind) is.0 ended)

    asks_by_end : (event : E) (ended : Bool) → rules.reads named (words_of (said line)) ≡ Some event → line.ended ≡ ended → AsksNext rules named first bytes (Ok (Some (event, ended))) now left
    asks_by_end event true some e = asks_one event some e
    asks_by_end event false some e = asks_last event some e

    -- the event of the line that was read
    pub asks_read : (event : E) (ended : Bool) (text : List ℕ) → rules.reads named (words_of text) ≡ Some event → text ≡ said line → line.ended ≡ ended → AsksNext rules named first bytes (Ok (Some (event, ended))) now left
    asks_read event ended text some same e = asks_by_end event ended (ap (λ t. rules.reads named (words_of t)) (sym same) ∙ some) e

    pub asks_fault : (fault : PlayFault) (text : List ℕ) → text ≡ said line → EventIn rules named number text (Err fault) → AsksNext rules named first bytes (Err fault) now left
    asks_fault (BadLine line') text same bad = asks_bad (ap (λ t. rules.reads named (words_of t)) (sym same) ∙ bad.0) ∙ ap (λ n. course_ends (Faulty (Is_bad_line n))) (sym bad.1)
    asks_fault OutOfMemory text same bad = (number, line, is, subst (λ (t : List ℕ). NamesGiveAfter (words_of t)) same bad)
    asks_fault (LineTooLong line') text same bad = absurd bad
    asks_fault ReadFailed text same bad = absurd bad
    asks_fault WriteFailed text same bad = absurd bad
    asks_fault BadHosts text same bad = absurd bad
    asks_fault (Feed fault) text same bad = absurd bad

  pub asks_long : (number : ℕ) (line : Line) (now : Lines) (left : Option (List ℕ)) → IsNextLine first bytes kinds.TooLong number line now.number now.window left → course_of rules named first bytes ≡ course_ends (Faulty (Is_too_long number))
  asks_long number line now left is = course_is kinds.TooLong number line now.number now.window left is

-- ---- the first line
module _ {F E N W : Type 0} (rules : Rules F E N W) where
  -- a script by its next line
  pub script_is : (first : ℕ) (bytes : List ℕ) (kind : LineKind) (number : ℕ) (line : Line) (next : ℕ) (window : List ℕ) (left : Option (List ℕ)) → IsNextLine first bytes kind number line next window left
      → script_after rules first (lines_of bytes) ≡ first_judged number kind (rules.first (words_of (said line))) (λ h. course_of rules h (number_following number) line.behind) (script_after rules (number_following number) (lines_of line.behind))
  script_is first bytes kind number line next window left is =
      script_next rules.first (asks rules) first (lines_of bytes) ∙ ap (script_at rules.first (asks rules)) is.0
      ∙ ap (λ k. first_judged number k (rules.first (words_of (said line))) (λ h. course_of rules h (number_following number) line.behind) (script_after rules (number_following number) (lines_of line.behind))) is.1

  pub no_first : (first : ℕ) (lines : List Line) → next_from first lines ≡ None → script_after rules first lines ≡ NoHosts Are_bad_hosts
  no_first first lines none = script_next rules.first (asks rules) first lines ∙ ap (script_at rules.first (asks rules)) none

  pub first_long : (first : ℕ) (bytes : List ℕ) (number : ℕ) (line : Line) (now : Lines) (left : Option (List ℕ)) → IsNextLine first bytes kinds.TooLong number line now.number now.window left → script_after rules first (lines_of bytes) ≡ NoHosts (Is_too_long number)
  first_long first bytes number line now left is = script_is first bytes kinds.TooLong number line now.number now.window left is

  pub first_bad : (first : ℕ) (bytes : List ℕ) (number : ℕ) (line : Line) (now : Lines) (left : Option (List ℕ)) (text : List ℕ) → IsNextLine first bytes kinds.Played number line now.number now.window left → text ≡ said line → rules.first (words_of text) ≡ None
      → script_after rules first (lines_of bytes) ≡ NoHosts Are_bad_hosts
  first_bad first bytes number line now left text is same none =
      script_is first bytes kinds.Played number line now.number now.window left is
      ∙ ap (λ (h : Option F). script_begun h (λ h. course_of rules h (number_following number) line.behind)) (ap (λ t. rules.first (words_of t)) (sym same) ∙ none)

  -- the plan after the first line
  pub first_named : (first : ℕ) (bytes : List ℕ) (number : ℕ) (line : Line) (now : Lines) (left : Option (List ℕ)) (named : F) → IsNextLine first bytes kinds.Played number line now.number now.window left → rules.first (words_of (said line)) ≡ Some named
      → script_after rules first (lines_of bytes) ≡ Plays named (course_of rules named now.number line.behind)
  first_named first bytes number line now left named is some =
      script_is first bytes kinds.Played number line now.number now.window left is
      ∙ ap (λ (h : Option F). script_begun h (λ h. course_of rules h (number_following number) line.behind)) some ∙ ap (λ n. Plays named (course_of rules named n line.behind)) (sym is.2)

  -- the same for bytes that were cut off after that line
  pub first_cut : (first : ℕ) (bytes : List ℕ) (number : ℕ) (line : Line) (now : Lines) (left : Option (List ℕ)) (named : F) → IsNextLine first bytes kinds.Played number line now.number now.window left → rules.first (words_of (said line)) ≡ Some named → line.ended ≡ true
      → (given : List ℕ) (left' : Option (List ℕ)) → CameBefore line.behind left' given
      → (all : List ℕ) × CameBefore bytes left' all × (script_after rules first (ended_lines (lines_of all)) ≡ Plays named (course_cut rules named now.number given))
  first_cut first bytes number line now left named is some ended given left' before =
      let came = came_after first bytes number line (lines_of line.behind) given left' is.0 ended before in (
        came.0,
        came.1,
        script_next rules.first (asks rules) first (ended_lines (lines_of came.0)) ∙ ap (script_at rules.first (asks rules)) came.2
            ∙ ap (λ k. first_judged number k (rules.first (words_of (said line))) (λ h. course_cut rules h (number_following number) given) (script_after rules (number_following number) (ended_lines (lines_of given)))) is.1
            ∙ ap (λ (h : Option F). script_begun h (λ h. course_cut rules h (number_following number) given)) some ∙ ap (λ n. Plays named (course_cut rules named n given)) (sym is.2),
      )
