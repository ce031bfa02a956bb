-- The meaning of lines, by the next one that is not skipped: skipped lines have none.
use Rattle.std.proofs.Common.{◌≡◌, ℕ, List, [], ◌∷◌, Option, Some, None, refl, sym, ap, ◌∙◌}
use Rattle.ncp_play_script.specs.declared.line_buffer.LineKind.{LineKind}
use Rattle.ncp_play_script.specs.declared.line_buffer.LineKind.TheVariants as kinds
use Rattle.ncp_play_script.specs.Lines.{line_kind}
use Rattle.ncp_play_script.specs.Words.{words_of}
use Rattle.ncp_play_script.specs.Scripts.{Line, said, AskedByLine, EventPlan, Over, BadHosts, NoHosts, Script, course_ends, course_of_line, number_following, course_from, first_judged, script_from}
use Rattle.ncp_play_reader.specs.NextLines.{Numbered, unless_skipped, next_from}

-- the events from the next line on
abbrev pub course_at : {E : Type 0} → (List (List ℕ) → Option (AskedByLine E)) → Option Numbered → EventPlan E
course_at asked None = course_ends Over
course_at asked (Some it) = course_of_line it.0 it.1 (line_kind (said it.1)) (asked (words_of (said it.1))) (course_from asked (number_following it.0) it.2)

course_here : {E : Type 0} (asked : List (List ℕ) → Option (AskedByLine E)) (number : ℕ) (line : Line) (lines : List Line) (kind : LineKind) → line_kind (said line) ≡ kind
    → course_from asked (number_following number) lines ≡ course_at asked (next_from (number_following number) lines) → course_from asked number (line ∷ lines) ≡ course_at asked (next_from number (line ∷ lines))
course_here asked number line lines kinds.Skipped e behind =
    ap (λ kind. course_of_line number line kind (asked (words_of (said line))) (course_from asked (number_following number) lines)) e ∙ behind
    ∙ sym (ap (λ kind. course_at asked (unless_skipped kind (number, line, lines) (next_from (number_following number) lines))) e)
course_here asked number line lines kinds.TooLong e behind = sym (ap (λ kind. course_at asked (unless_skipped kind (number, line, lines) (next_from (number_following number) lines))) e)
course_here asked number line lines kinds.Played e behind = sym (ap (λ kind. course_at asked (unless_skipped kind (number, line, lines) (next_from (number_following number) lines))) e)

pub course_next : {E : Type 0} (asked : List (List ℕ) → Option (AskedByLine E)) (number : ℕ) (lines : List Line) → course_from asked number lines ≡ course_at asked (next_from number lines)
course_next asked number [] = refl
course_next asked number (line ∷ lines) = course_here asked number line lines (line_kind (said line)) refl (course_next asked (number_following number) lines)

-- a script, from its first line that is not skipped
abbrev pub script_at : {H E : Type 0} → (List (List ℕ) → Option H) → (H → List (List ℕ) → Option (AskedByLine E)) → Option Numbered → Script H E
script_at hosts asked None = NoHosts BadHosts
script_at hosts asked (Some it) =
    first_judged it.0 (line_kind (said it.1)) (hosts (words_of (said it.1))) (λ h. course_from (asked h) (number_following it.0) it.2) (script_from hosts asked (number_following it.0) it.2)

script_here : {H E : Type 0} (hosts : List (List ℕ) → Option H) (asked : H → List (List ℕ) → Option (AskedByLine E)) (number : ℕ) (line : Line) (lines : List Line) (kind : LineKind) → line_kind (said line) ≡ kind
    → script_from hosts asked (number_following number) lines ≡ script_at hosts asked (next_from (number_following number) lines) → script_from hosts asked number (line ∷ lines) ≡ script_at hosts asked (next_from number (line ∷ lines))
script_here hosts asked number line lines kinds.Skipped e behind =
    ap (λ kind. first_judged number kind (hosts (words_of (said line))) (λ h. course_from (asked h) (number_following number) lines) (script_from hosts asked (number_following number) lines)) e ∙ behind
    ∙ sym (ap (λ kind. script_at hosts asked (unless_skipped kind (number, line, lines) (next_from (number_following number) lines))) e)
script_here hosts asked number line lines kinds.TooLong e behind = sym (ap (λ kind. script_at hosts asked (unless_skipped kind (number, line, lines) (next_from (number_following number) lines))) e)
script_here hosts asked number line lines kinds.Played e behind = sym (ap (λ kind. script_at hosts asked (unless_skipped kind (number, line, lines) (next_from (number_following number) lines))) e)

pub script_next : {H E : Type 0} (hosts : List (List ℕ) → Option H) (asked : H → List (List ℕ) → Option (AskedByLine E)) (number : ℕ) (lines : List Line) → script_from hosts asked number lines ≡ script_at hosts asked (next_from number lines)
script_next hosts asked number [] = refl
script_next hosts asked number (line ∷ lines) = script_here hosts asked number line lines (line_kind (said line)) refl (script_next hosts asked (number_following number) lines)
