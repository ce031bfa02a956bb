-- The first line of a script, from the line that was read.
use Rattle.std.proofs.Common.{◌≡◌, ℕ, Bool, true, false, List, [], Option, Some, None, Result, Ok, Err, if◌then◌else◌, refl, sym, ap, ◌∙◌, subst}
use Rattle.ncp_play_script.specs.declared.line_buffer.LineKind.{LineKind}
use Rattle.ncp_play_script.specs.declared.line_buffer.LineKind.TheVariants as kinds
use Rattle.ncp_host.specs.Host.{Host, new_host, are_peers}
use Rattle.ncp_host.specs.declared.fault.HostFault.{HostFault}
use Rattle.ncp_host.specs.declared.fault.HostFault.TheVariants.{BadPeers}
use Rattle.ncp_host.specs.declared.fault.HostFault.TheVariants as faults
use Rattle.ncp_transcript.specs.declared.note.HostNote.{HostNote}
use Rattle.ncp_transcript.specs.Alone.{Alone}
use Rattle.ncp_play_script.specs.Lines.{text_of_line, line_kind}
use Rattle.ncp_play_script.specs.Words.{words_of}
use Rattle.ncp_play_script.specs.declared.first_lines.HostAndPeers.{HostAndPeers}
use Rattle.ncp_play_script.specs.FirstLines.{Named, named_in, host_named, if_peers, first_of_host}
use Rattle.ncp_play_script.specs.HostScripts.{asked_of, host_script}
use Rattle.ncp_play_script.specs.Scripts as scripts
use Rattle.ncp_play_script.specs.Scripts.{Line, EventPlan, Script, NoHosts, Plays, lines_of, said, script_begun, first_judged, script_from, number_following}
use Rattle.ncp_play_reader.specs.declared.lines.Lines.{Lines}
use Rattle.ncp_play_reader.specs.declared.lines.NextLine.TheVariants as nexts
use Rattle.ncp_play_reader.specs.NextLines.{Numbered, next_from, ended_lines, CameBefore, IsNextLine, ReadsNextLine}
use Rattle.ncp_play_reader.proofs.Nexts.{came_after, last_after}
use Rattle.ncp_play_reader.proofs.Courses.{script_at, script_next}
use Rattle.ncp_play_notes.specs.declared.fault.PlayFault.{PlayFault}
use Rattle.ncp_play_notes.specs.declared.fault.PlayFault.TheVariants.{BadLine, LineTooLong, BadHosts, Feed, ReadFailed, WriteFailed, OutOfMemory}
use Rattle.ncp_play_host.specs.Asking.{course_of, script_of_lines}
use Rattle.ncp_play_host.specs.Beginning.{begun_by, IsHostOf, IsBegun, HostBegins}
use Rattle.ncp_play_host.proofs.Named.{named_new}

-- the script of lines, if the first that is not skipped is found
script_found : (lines : List Line) (found : Option Numbered) → next_from 1 lines ≡ found → script_of_lines lines ≡ script_at first_of_host (λ (named : Named). asked_of named.peers) found
script_found lines found e = script_next first_of_host (λ (named : Named). asked_of named.peers) 1 lines ∙ ap (λ (f : Option Numbered). script_at first_of_host (λ (named : Named). asked_of named.peers) f) e

-- if it is of this kind
script_kind : (lines : List Line) (number : ℕ) (line : Line) (behind : List Line) (kind : LineKind) → next_from 1 lines ≡ Some (number, line, behind) → line_kind (said line) ≡ kind
    → script_of_lines lines ≡ first_judged number kind (first_of_host (words_of (said line))) (λ (h : Named). course_of h.peers (number_following number) behind) (script_from first_of_host (λ (named : Named). asked_of named.peers) (number_following number) behind)
script_kind lines number line behind kind found is =
    script_found lines (Some (number, line, behind)) found
    ∙ ap (λ k. first_judged number k (first_of_host (words_of (said line))) (λ (h : Named). course_of h.peers (number_following number) behind) (script_from first_of_host (λ (named : Named). asked_of named.peers) (number_following number) behind)) is

pub begins_none : (lines : List Line) → next_from 1 lines ≡ None → script_of_lines lines ≡ NoHosts scripts.BadHosts
begins_none lines e = script_found lines None e

pub begins_too_long : (first : ℕ) (bytes : List ℕ) (number : ℕ) (now : Lines) (left : Option (List ℕ)) → first ≡ 1 → ReadsNextLine first bytes (Ok (nexts.TooLong number)) now left → host_script bytes ≡ NoHosts (scripts.LineTooLong number)
begins_too_long first bytes number now left one read =
    let next = read.1 in script_kind (lines_of bytes) number read.0 (lines_of read.0.behind) kinds.TooLong (ap (λ n. next_from n (lines_of bytes)) (sym one) ∙ next.0) next.1

module _ (bytes : List ℕ) (number : ℕ) (ended : Bool) (now : Lines) (left : Option (List ℕ)) (line : Line) (next : IsNextLine 1 bytes kinds.Played number line now.number now.window left) (is : line.ended ≡ ended) (text : text_of_line ended now.line ≡ said line) where
  abbrev words : List (List ℕ)
  words = words_of (text_of_line ended now.line)

  script_is : host_script bytes ≡ script_begun (first_of_host words) (λ (h : Named). course_of h.peers now.number (lines_of line.behind))
  script_is =
      script_kind (lines_of bytes) number line (lines_of line.behind) kinds.Played next.0 next.1
      ∙ ap (λ t. script_begun (first_of_host (words_of t)) (λ (h : Named). course_of h.peers (number_following number) (lines_of line.behind))) (sym text)
      ∙ ap (λ n. script_begun (first_of_host words) (λ (h : Named). course_of h.peers n (lines_of line.behind))) (sym next.2)

  -- the line names this host
  script_of_named : (named : Named) → first_of_host words ≡ Some named → host_script bytes ≡ Plays named (course_of named.peers now.number (lines_of line.behind))
  script_of_named named e = script_is ∙ ap (λ (h : Option Named). script_begun h (λ (h : Named). course_of h.peers now.number (lines_of line.behind))) e

  -- a read fails after the line
  came_of_named : (named : Named) → first_of_host words ≡ Some named → line.ended ≡ true → (left' : Option (List ℕ)) (given : List ℕ) → CameBefore line.behind left' given
      → (came : List ℕ) × CameBefore bytes left' came × (script_of_lines (ended_lines (lines_of came)) ≡ Plays named (course_of named.peers now.number (ended_lines (lines_of given))))
  came_of_named named e lf left' given before =
      let came = came_after 1 bytes number line (lines_of line.behind) given left' next.0 lf before in
      let rest = ended_lines (lines_of given) in
      let here : Line = record line { behind = given } in (
        came.0,
        came.1,
        script_kind (ended_lines (lines_of came.0)) number here rest kinds.Played came.2 next.1
            ∙ ap (λ t. script_begun (first_of_host (words_of t)) (λ (h : Named). course_of h.peers (number_following number) rest)) (sym text)
            ∙ ap (λ n. script_begun (first_of_host words) (λ (h : Named). course_of h.peers n rest)) (sym next.2)
            ∙ ap (λ (h : Option Named). script_begun h (λ (h : Named). course_of h.peers now.number rest)) e,
      )

  begun_as : (alone : Alone) (hosts : HostAndPeers) → IsHostOf words (Ok (alone, hosts)) → IsBegun bytes (named_in hosts) alone ended now left
  begun_as alone hosts host = (
    line.behind,
    script_of_named (named_in hosts) host.0,
    host.1,
    next.3,
    λ none. last_after 1 bytes number line (lines_of line.behind) next.0 (is ∙ none),
    λ some left' given before. came_of_named (named_in hosts) host.0 (is ∙ some) left' given before,
  )

  begun_not : (fault : PlayFault) → IsHostOf words (Err fault) → HostBegins bytes (Err fault) now left
  begun_not BadHosts host = script_is ∙ ap (λ (h : Option Named). script_begun h (λ (h : Named). course_of h.peers now.number (lines_of line.behind))) host
  begun_not OutOfMemory host = (host.0, course_of host.0.peers now.number (lines_of line.behind), script_of_named host.0 host.1, named_new words host.0 host.1)
  begun_not (BadLine number) host = absurd host
  begun_not (LineTooLong number) host = absurd host
  begun_not (Feed fault) host = absurd host
  begun_not ReadFailed host = absurd host
  begun_not WriteFailed host = absurd host

-- ---- in terms of the code

abbrev IsRead : ℕ → List ℕ → ℕ → Bool → Lines → Option (List ℕ) → Type 0
IsRead first bytes number ended now left = ReadsNextLine first bytes (Ok (nexts.Played number ended)) now left

pub begins : (first : ℕ) (bytes : List ℕ) (number : ℕ) (ended : Bool) (now : Lines) (left : Option (List ℕ)) → first ≡ 1 → ReadsNextLine first bytes (Ok (nexts.Played number ended)) now left → (parted : List (List ℕ)) → parted ≡ words_of (text_of_line ended now.line)
    → (alone : Alone) (hosts : HostAndPeers) → IsHostOf parted (Ok (alone, hosts)) → IsBegun bytes (named_in hosts) alone ended now left
begins first bytes number ended now left one read parted e alone hosts host =
    let read' = subst (λ (n : ℕ). IsRead n bytes number ended now left) one read in
    begun_as bytes number ended now left read'.0 read'.1 read'.2 read'.3 alone hosts (subst (λ (w : List (List ℕ)). IsHostOf w (Ok (alone, hosts))) e host)

pub begins_not : (first : ℕ) (bytes : List ℕ) (number : ℕ) (ended : Bool) (now : Lines) (left : Option (List ℕ)) → first ≡ 1 → ReadsNextLine first bytes (Ok (nexts.Played number ended)) now left → (parted : List (List ℕ)) → parted ≡ words_of (text_of_line ended now.line)
    → (fault : PlayFault) → IsHostOf parted (Err fault) → HostBegins bytes (Err fault) now left
begins_not first bytes number ended now left one read parted e fault host =
    let read' = subst (λ (n : ℕ). IsRead n bytes number ended now left) one read in
    begun_not bytes number ended now left read'.0 read'.1 read'.2 read'.3 fault (subst (λ (w : List (List ℕ)). IsHostOf w (Err fault)) e host)

-- the parts of a new host
pub is_begun : (alone : Alone) (named : Named) → alone.host ≡ new_host named.me named.peers → alone.notes ≡ [] → alone ≡ begun_by named
is_begun alone named host notes = ap (λ (h : Host). record alone { host = h }) host ∙ ap (λ (n : List HostNote). record { host = new_host named.me named.peers; notes = n }) notes

-- a host can have the named peers
pub named_first : (parted : List (List ℕ)) (named : Named) → Some named ≡ host_named parted → are_peers named.me named.peers ≡ true → first_of_host parted ≡ Some named
named_first parted named e peers = ap if_peers (sym e) ∙ ap (λ ok. if ok then Some named else None) peers

other_fault : {A : Type 0} (r : Result A HostFault) (fault : HostFault) → r ≡ Err BadPeers → r ≡ Err fault → fault ≡ faults.OutOfMemory → ⊥
other_fault r fault bad is e = cc

pub not_bad : {A : Type 0} (ok : Bool) (r : Result A HostFault) (fault : HostFault) → (ok ≡ false → r ≡ Err BadPeers) → r ≡ Err fault → fault ≡ faults.OutOfMemory → ok ≡ true
not_bad true r fault bad is e = refl
not_bad false r fault bad is e = absurd (other_fault r fault (bad refl) is e)
