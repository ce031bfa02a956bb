-- Calls and events that leave the accounts as they are.
use Rattle.std.proofs.Common.{◌≡◌, ℕ, Bool, true, false, ◌&&◌, if◌then◌else◌, List, [], ◌∷◌, ◌++◌, refl, ap, ◌∙◌}
use Rattle.ncp_model.specs.declared.pair.Pair.{Pair}
use Rattle.ncp_model.specs.Pairs.{same}
use Rattle.ncp_transcript.specs.declared.call.Call.{Call}
use Rattle.ncp_transcript.specs.declared.call.Call.TheVariants as calls
use Rattle.ncp_transcript.specs.declared.note.HostNote.TheVariants as of_host
use Rattle.ncp_transcript_two.specs.declared.side.Side.{Side}
use Rattle.ncp_transcript_two.specs.declared.note.Note.{Note}
use Rattle.ncp_transcript_two.specs.declared.note.Note.TheVariants as notes
use Rattle.ncp_transcript_two.specs.Between.{Hosts, hosts_after_note}
use Rattle.ncp_transcript_two.specs.Transcript.{Noted_world}
use Rattle.ncp_statement.specs.Statement.{UserEvent, AllowedBits, OtherEvent, on_pair, user_event_by, user_event_at, user_events, is_same}
use Rattle.ncp_proof_quiescence.specs.Settling.{ByItself, AllByThemselves, GoesOn}
use Rattle.ncp_pipe.specs.Pipe.{Step}
use Rattle.ncp_pipe.specs.Accounts.{given_after, taken_after}
use Rattle.ncp_proof_pipe.specs.Noted.{sender_did, receiver_did, steps_by}
use Rattle.ncp_example_file.specs.Accounts.{all_given, all_taken}
use Rattle.ncp_example_file.specs.Calls.{IsCounted, CountsStay}
use Rattle.ncp_example_file.proofs.Adding.{all-given-more, all-taken-more}

-- a user's event that asks for nothing, gives nothing and takes nothing
abbrev IsQuiet : UserEvent → Type 0
IsQuiet u = ((gs : List (List Bool)) → given_after (sender_did u) gs ≡ gs) × ((ts : List (List Bool)) → taken_after (receiver_did u) ts ≡ ts)

other-is-quiet : IsQuiet OtherEvent
other-is-quiet = (λ gs. refl, λ ts. refl)

closed-is-quiet : IsQuiet UserEvent.Closed
closed-is-quiet = (λ gs. refl, λ ts. refl)

allowed-is-quiet : (bits : ℕ) → IsQuiet (AllowedBits bits)
allowed-is-quiet bits = (λ gs. refl, λ ts. refl)

either : (b : Bool) (u : UserEvent) → IsQuiet u → IsQuiet (if b then u else OtherEvent)
either true u q = q
either false u q = other-is-quiet

on-either : (b : Bool) (u : UserEvent) → IsQuiet u → IsQuiet (on_pair b u)
on-either true u q = q
on-either false u q = other-is-quiet

stay : (by : Side) (call : Call) (accepted : Bool) (ns ms : List Note) → ((pair : Pair) → IsQuiet (user_event_by pair call)) → IsCounted by call accepted ns ms → CountsStay ns ms
stay by call accepted ns ms q k side pair =
    let e = either (is_same side by && accepted) (user_event_by pair call) (q pair) in
    ((k side pair).0 ∙ e.0 (all_given side pair ns), (k side pair).1 ∙ e.1 (all_taken side pair ns))

pub reset-stays : (by : Side) (peer : ℕ) (accepted : Bool) (ns ms : List Note) → IsCounted by (calls.Reset peer) accepted ns ms → CountsStay ns ms
reset-stays by peer accepted ns ms k = stay by (calls.Reset peer) accepted ns ms (λ pair. other-is-quiet) k

pub allocate-stays : (by : Side) (peer : ℕ) (p : Pair) (messages bits : ℕ) (accepted : Bool) (ns ms : List Note) → IsCounted by (calls.Allocate peer p messages bits) accepted ns ms → CountsStay ns ms
allocate-stays by peer p messages bits accepted ns ms k =
    stay by (calls.Allocate peer p messages bits) accepted ns ms (λ pair. on-either (same pair p) (AllowedBits bits) (allowed-is-quiet bits)) k

pub close-stays : (by : Side) (peer : ℕ) (p : Pair) (accepted : Bool) (ns ms : List Note) → IsCounted by (calls.Close peer p) accepted ns ms → CountsStay ns ms
close-stays by peer p accepted ns ms k = stay by (calls.Close peer p) accepted ns ms (λ pair. on-either (same pair p) UserEvent.Closed closed-is-quiet) k

pub stay-on : (ns ms ls : List Note) → CountsStay ns ms → CountsStay ms ls → CountsStay ns ls
stay-on ns ms ls j k side pair = ((k side pair).0 ∙ (j side pair).0, (k side pair).1 ∙ (j side pair).1)

-- events that need no user

no-user : (b : Bool) → (if b then OtherEvent else OtherEvent) ≡ OtherEvent
no-user true = refl
no-user false = refl

by-itself : (side : Side) (pair : Pair) (n : Note) (w : Hosts) → ByItself n w → user_event_at side pair n ≡ OtherEvent
by-itself side pair (notes.Called by (of_host.Done (calls.Wake peer))) w k = no-user (is_same side by)
by-itself side pair (notes.Called by hn) w k = absurd k
by-itself side pair (notes.Out by hn) w k = refl
by-itself side pair (notes.Came by link hn) w k = refl
by-itself side pair (notes.Lost by link) w k = refl
by-itself side pair (notes.FoundDead by link) w k = refl
by-itself side pair (notes.Answered by link hn) w k = refl
by-itself side pair (notes.Nothing by link wanted) w k = refl

no-steps : (did : UserEvent → List Step) → did OtherEvent ≡ [] → (side : Side) (pair : Pair) (made : List Note) (w : Hosts) → AllByThemselves made w → steps_by did (user_events side pair made) ≡ []
no-steps did quiet side pair [] w k = refl
no-steps did quiet side pair (n ∷ made) w k =
    ap (λ (l : List Step). l ++ steps_by did (user_events side pair made)) (ap did (by-itself side pair n w k.1) ∙ quiet)
    ∙ no-steps did quiet side pair made (hosts_after_note n w) k.2

pub goes-on-stays : (before now : Noted_world) → GoesOn before now → CountsStay before.notes now.notes
goes-on-stays before now k side pair =
    let made : List Note = k.0 in (
      ap (all_given side pair) k.2 ∙ all-given-more side pair before.notes made ∙ ap (λ (l : List Step). given_after l (all_given side pair before.notes)) (no-steps sender_did refl side pair made before.hosts k.1),
      ap (all_taken side pair) k.2 ∙ all-taken-more side pair before.notes made ∙ ap (λ (l : List Step). taken_after l (all_taken side pair before.notes)) (no-steps receiver_did refl side pair made before.hosts k.1),
    )
