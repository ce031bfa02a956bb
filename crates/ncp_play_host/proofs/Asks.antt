-- The meaning of the next line, from the line that was read.
use Rattle.std.specs.Result.{IfOk}
use Rattle.std.proofs.Common.{◌≡◌, ℕ, Bool, true, List, Option, Some, None, Result, Ok, Err, sym, ap, ◌∙◌, subst}
use Rattle.ncp_play_script.specs.declared.line_buffer.LineKind.{LineKind}
use Rattle.ncp_play_script.specs.declared.line_buffer.LineKind.TheVariants as kinds
use Rattle.ncp_play_script.specs.Lines.{text_of_line, line_kind}
use Rattle.ncp_play_script.specs.Words.{words_of}
use Rattle.ncp_play_script.specs.Calls.{NamesGive}
use Rattle.ncp_play_script.specs.Scripts as scripts
use Rattle.ncp_play_script.specs.Scripts.{Line, AskedByLine, EventPlan, lines_of, said, course_ends, Faulty, Fed, course_of_line, played, number_following}
use Rattle.ncp_play_script.specs.declared.host_lines.HostEvent.{HostEvent}
use Rattle.ncp_play_script.specs.HostScripts.{asked_of}
use Rattle.ncp_play_reader.specs.declared.lines.Lines.{Lines}
use Rattle.ncp_play_reader.specs.declared.lines.NextLine.TheVariants as nexts
use Rattle.ncp_play_reader.specs.NextLines.{Numbered, next_from, ended_lines, IsNextLine, ReadsNextLine}
use Rattle.ncp_play_reader.proofs.Nexts.{came_after, last_after}
use Rattle.ncp_play_reader.proofs.Courses.{course_at, course_next}
use Rattle.ncp_play_notes.specs.declared.fault.PlayFault.{PlayFault}
use Rattle.ncp_play_notes.specs.declared.fault.PlayFault.TheVariants.{BadLine, LineTooLong, BadHosts, Feed, ReadFailed, WriteFailed, OutOfMemory}
use Rattle.ncp_play_host.specs.declared.asking.NextAsked.{NextAsked}
use Rattle.ncp_play_host.specs.declared.asking.NextAsked.TheVariants.{Over, FeedAfter, Does}
use Rattle.ncp_play_host.specs.Asking.{course_of, in_front, IsPlayedAs, IsAfter, AsksNext, has_more_after}

-- the plan of lines, if the next one is found
course_found : (peers : List ℕ) (first : ℕ) (lines : List Line) (found : Option Numbered) → next_from first lines ≡ found → course_of peers first lines ≡ course_at (asked_of peers) found
course_found peers first lines found e = course_next (asked_of peers) first lines ∙ ap (λ (f : Option Numbered). course_at (asked_of peers) f) e

-- if it is of this kind
course_kind : (peers : List ℕ) (first : ℕ) (lines : List Line) (number : ℕ) (line : Line) (behind : List Line) (kind : LineKind) → next_from first lines ≡ Some (number, line, behind) → line_kind (said line) ≡ kind
    → course_of peers first lines ≡ course_of_line number line kind (asked_of peers (words_of (said line))) (course_of peers (number_following number) behind)
course_kind peers first lines number line behind kind found is =
    course_found peers first lines (Some (number, line, behind)) found ∙ ap (λ k. course_of_line number line k (asked_of peers (words_of (said line))) (course_of peers (number_following number) behind)) is

pub asks_none : (peers : List ℕ) (first : ℕ) (lines : List Line) → next_from first lines ≡ None → course_of peers first lines ≡ course_ends scripts.Over
asks_none peers first lines e = course_found peers first lines None e

pub asks_too_long : (peers : List ℕ) (first : ℕ) (bytes : List ℕ) (number : ℕ) (now : Lines) (left : Option (List ℕ)) → ReadsNextLine first bytes (Ok (nexts.TooLong number)) now left → course_of peers first (lines_of bytes) ≡ course_ends (Faulty (scripts.LineTooLong number))
asks_too_long peers first bytes number now left read = let next = read.1 in course_kind peers first (lines_of bytes) number read.0 (lines_of read.0.behind) kinds.TooLong next.0 next.1

module _ (peers : List ℕ) (first : ℕ) (bytes : List ℕ) (number : ℕ) (ended : Bool) (now : Lines) (left : Option (List ℕ)) (line : Line) (next : IsNextLine first bytes kinds.Played number line now.number now.window left) (is : line.ended ≡ ended) (text : text_of_line ended now.line ≡ said line) where
  abbrev words : List (List ℕ)
  words = words_of (text_of_line ended now.line)

  abbrev behind : EventPlan HostEvent
  behind = course_of peers now.number (lines_of line.behind)

  course_is : course_of peers first (lines_of bytes) ≡ played number line (asked_of peers words) behind
  course_is =
      course_kind peers first (lines_of bytes) number line (lines_of line.behind) kinds.Played next.0 next.1
      ∙ ap (λ t. played number line (asked_of peers (words_of t)) (course_of peers (number_following number) (lines_of line.behind))) (sym text)
      ∙ ap (λ n. played number line (asked_of peers words) (course_of peers n (lines_of line.behind))) (sym next.2)

  -- a read fails after the line
  is_after : (event : HostEvent) → ((l : Line) (course : EventPlan HostEvent) → l.ended ≡ ended → played number l (asked_of peers words) course ≡ in_front event course) → line.ended ≡ true → IsAfter peers (course_of peers first) (in_front event) now.number bytes line.behind
  is_after event asks lf = λ left' given before.
      let came = came_after first bytes number line (lines_of line.behind) given left' next.0 lf before in
      let rest = ended_lines (lines_of given) in
      let here : Line = record line { behind = given } in (
        came.0,
        came.1,
        course_kind peers first (ended_lines (lines_of came.0)) number here rest kinds.Played came.2 next.1
            ∙ ap (λ t. played number here (asked_of peers (words_of t)) (course_of peers (number_following number) rest)) (sym text)
            ∙ ap (λ n. played number here (asked_of peers words) (course_of peers n rest)) (sym next.2)
            ∙ asks here (course_of peers now.number rest) is,
      )

  asks_as : (r : Result NextAsked PlayFault) → ((l : Line) (course : EventPlan HostEvent) → l.ended ≡ ended → IsPlayedAs peers number l words course r) → AsksNext peers first bytes r now left
  asks_as (Ok Over) asks = absurd (asks line behind is)
  asks_as (Ok FeedAfter) asks = (line.behind, course_is ∙ asks line behind is, next.3)
  asks_as (Ok (Does event lf)) asks =
      let here = asks line behind is in (
        line.behind,
        course_is ∙ here.0,
        next.3,
        λ none. last_after first bytes number line (lines_of line.behind) next.0 (sym here.1 ∙ none),
        λ some. is_after event (λ l course e. (asks l course e).0) (sym here.1 ∙ some),
      )
  asks_as (Err (BadLine bad)) asks = course_is ∙ asks line behind is
  asks_as (Err OutOfMemory) asks = (number, line, next, subst (λ (t : List ℕ). NamesGive (words_of t)) text (asks line behind is))
  asks_as (Err (LineTooLong long)) asks = absurd (asks line behind is)
  asks_as (Err BadHosts) asks = absurd (asks line behind is)
  asks_as (Err (Feed fault)) asks = absurd (asks line behind is)
  asks_as (Err ReadFailed) asks = absurd (asks line behind is)
  asks_as (Err WriteFailed) asks = absurd (asks line behind is)

pub asks_played : (peers : List ℕ) (first : ℕ) (bytes : List ℕ) (number : ℕ) (ended : Bool) (now : Lines) (left : Option (List ℕ)) → ReadsNextLine first bytes (Ok (nexts.Played number ended)) now left → (parted : List (List ℕ)) → parted ≡ words_of (text_of_line ended now.line)
    → (r : Result NextAsked PlayFault) → ((l : Line) (course : EventPlan HostEvent) → l.ended ≡ ended → IsPlayedAs peers number l parted course r) → AsksNext peers first bytes r now left
asks_played peers first bytes number ended now left read parted e r asks =
    asks_as peers first bytes number ended now left read.0 read.1 read.2 read.3 r (subst (λ (w : List (List ℕ)). (l : Line) (course : EventPlan HostEvent) → l.ended ≡ ended → IsPlayedAs peers number l w course r) e asks)

pub less_where_it_goes_on : (r : Result NextAsked PlayFault) (ended : Bool) (Less : Type 0) → IfOk r (λ next. has_more_after next ≡ true → ended ≡ true) → (ended ≡ true → Less) → IfOk r (λ next. has_more_after next ≡ true → Less)
less_where_it_goes_on (Ok next) ended Less e less = λ on. less (e on)
less_where_it_goes_on (Err fault) ended Less e less = tt
