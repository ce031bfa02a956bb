-- The accounts of the two users after each part of a transfer.
use Rattle.std.proofs.Common.{◌≡◌, ◌≤◌, ℕ, ◌+◌, ◌-◌, Bool, true, false, List, [], ◌∷◌, ◌++◌, length, take, drop, Option, Some, Result, Ok, Err, inl, inr, sym, ap, ◌∙◌, subst, arith}
use Rattle.std.specs.Prelude.{slice_get, slice_range}
use Rattle.std.proofs.lemmas.List.{length-append}
use Rattle.std.proofs.Math.Seq.{take-add, take-length}
use Rattle.ncp_model.specs.declared.call_fault.CallFault.{CallFault}
use Rattle.ncp_model.specs.declared.pair.Pair.{Pair}
use Rattle.ncp_host.specs.Host.{Host}
use Rattle.ncp_host.specs.Calls.{take_reply}
use Rattle.ncp_transcript.specs.declared.call.Call.{Call}
use Rattle.ncp_transcript.specs.declared.call.Call.TheVariants as calls
use Rattle.ncp_transcript.specs.declared.note.HostNote.{HostNote}
use Rattle.ncp_transcript.specs.declared.note.HostNote.TheVariants as of_host
use Rattle.ncp_transcript.specs.Notes.{returned_or_refused}
use Rattle.ncp_transcript.specs.Noting.{CallNoted}
use Rattle.ncp_transcript_two.specs.declared.side.Side.TheVariants.{A, B}
use Rattle.ncp_transcript_two.specs.declared.event.Event.TheVariants as events
use Rattle.ncp_transcript_two.specs.declared.note.Note.{Note}
use Rattle.ncp_transcript_two.specs.declared.note.Note.TheVariants as notes
use Rattle.ncp_transcript_two.specs.Transcript.{Noted_world, IsStep}
use Rattle.ncp_pipe.specs.Pipe as pipes
use Rattle.ncp_pipe.specs.Accounts.{given_after, taken_after}
use Rattle.ncp_example_file.specs.Accounts.{all_given, all_taken, HasGiven, HasTaken, MissesAtMost, BothSaySo}
use Rattle.ncp_example_file.specs.Calls.{bits_taken, IsCounted, CountsStay}
use Rattle.ncp_example_file.proofs.Adding.{given-by-one, taken-by-one}
use Rattle.ncp_example_file.proofs.Noting.{last-is}
use Rattle.ncp_example_file.proofs.Quiet.{reset-stays, stay-on}

-- the connection, as named at its sender and at its receiver

abbrev pub at_sender : Pair
at_sender = record { local = 3; remote = 2 }

abbrev pub at_receiver : Pair
at_receiver = record { local = 2; remote = 3 }

-- both users ask

module _ (n0 n1 n2 n3 n4 n5 : List Note) (up : Bool) (a b size room space : ℕ)
    (from-new : n0 ≡ [])
    (reset : IsCounted A (calls.Reset b) up n0 n1)
    (comes-up : CountsStay n1 n2)
    (receives : IsCounted B (calls.AskReceive a 2 3 room) true n2 n3)
    (sends : IsCounted A (calls.AskSend b 3 2 size space) true n3 n4)
    (opens : CountsStay n4 n5) where
  before : CountsStay n0 n2
  before = stay-on n0 n1 n2 (reset-stays A b up n0 n1 reset) comes-up

  pub opened-given : HasGiven A at_sender [] n5
  opened-given =
      (opens A at_sender).0 ∙ (sends A at_sender).0
      ∙ ap (λ (gs : List (List Bool)). [] ∷ gs) ((receives A at_sender).0 ∙ (before A at_sender).0 ∙ ap (all_given A at_sender) from-new)

  pub opened-taken : HasTaken B at_receiver [] n5
  opened-taken =
      (opens B at_receiver).1 ∙ (sends B at_receiver).1 ∙ (receives B at_receiver).1
      ∙ ap (λ (ts : List (List Bool)). [] ∷ ts) ((before B at_receiver).1 ∙ ap (all_taken B at_receiver) from-new)

-- a piece

range-next : (at more : ℕ) (file : List Bool) → slice_range file at (at + more) ≡ take more (drop at file)
range-next at more file = let e : (at + more) - at ≡ more = omega arith in ap (λ (n : ℕ). take n (drop at file)) e

pub given-more : (ns ms : List Note) (b at more : ℕ) (file text : List Bool) → IsCounted A (calls.Give b at_sender text) true ns ms → text ≡ slice_range file at (at + more) → HasGiven A at_sender (take at file) ns
    → HasGiven A at_sender (take (at + more) file) ms
given-more ns ms b at more file text k e h =
    (k A at_sender).0 ∙ ap (given_after (pipes.Gives text ∷ [])) h
    ∙ ap (λ (t : List Bool). t ∷ [] ∷ []) (ap (λ (t : List Bool). take at file ++ t) (e ∙ range-next at more file) ∙ sym (take-add at more file))

pub refused-give : (ns ms : List Note) (b : ℕ) (text : List Bool) → IsCounted A (calls.Give b at_sender text) false ns ms → all_given A at_sender ms ≡ all_given A at_sender ns
refused-give ns ms b text k = (k A at_sender).0

pub give-takes-nothing : (ns ms : List Note) (b : ℕ) (text : List Bool) (accepted : Bool) → IsCounted A (calls.Give b at_sender text) accepted ns ms → all_taken B at_receiver ms ≡ all_taken B at_receiver ns
give-takes-nothing ns ms b text accepted k = (k B at_receiver).1

-- a take

abbrev Takes : List Note → HostNote → Type 0
Takes ns note = (missing size : ℕ) → MissesAtMost missing size B at_receiver ns → MissesAtMost (missing - bits_taken (Some (notes.Called B note))) size B at_receiver (ns ++ notes.Called B note ∷ [])

fewer : (size so_far missing more : ℕ) → size ≤ so_far + missing → size ≤ (so_far + more) + (missing - more)
fewer size so_far missing more h = omega arith

as-before : (size so_far missing : ℕ) → size ≤ so_far + missing → size ≤ so_far + (missing - 0)
as-before size so_far missing h = omega arith

took : (ns : List Note) (a bytes : ℕ) (text : List Bool) → Takes ns (of_host.Took a at_receiver bytes text)
took ns a bytes text missing size m = (
  m.0 ++ text,
  subst (λ (n : ℕ). size ≤ n + (missing - length text)) (sym (length-append m.0 text)) (fewer size (length m.0) missing (length text) m.1),
  taken-by-one B at_receiver ns (notes.Called B (of_host.Took a at_receiver bytes text)) ∙ ap (taken_after (pipes.Takes text ∷ [])) m.2,
)

refused : (ns : List Note) (call : Call) (fault : CallFault) → Takes ns (of_host.Refused call fault)
refused ns call fault missing size m = (m.0, as-before size (length m.0) missing m.1, taken-by-one B at_receiver ns (notes.Called B (of_host.Refused call fault)) ∙ m.2)

replied : (ns : List Note) (a bytes : ℕ) (r : Result (List Bool) CallFault) → Takes ns (returned_or_refused (calls.Take a at_receiver bytes) (of_host.Took a at_receiver bytes) r)
replied ns a bytes (Ok text) = took ns a bytes text
replied ns a bytes (Err fault) = refused ns (calls.Take a at_receiver bytes) fault

noted : (ns : List Note) (a bytes : ℕ) (note : HostNote) (h : Host) → CallNoted (calls.Take a at_receiver bytes) note h → Takes ns note
noted ns a bytes note h (inl k) = subst (Takes ns) (sym k) (replied ns a bytes (take_reply a at_receiver bytes h))
noted ns a bytes note h (inr k) = subst (Takes ns) (sym k.said) (refused ns (calls.Take a at_receiver bytes) _)

abbrev TakesMore : List Note → List Note → Type 0
TakesMore ns ms = (missing size : ℕ) → MissesAtMost missing size B at_receiver ns → MissesAtMost (missing - bits_taken (slice_get ms (length ms - 1))) size B at_receiver ms

module _ (before now : Noted_world) (a bytes : ℕ) (step : IsStep (events.Call B (calls.Take a at_receiver bytes)) before now) where
  abbrev last : Note
  last = notes.Called B step.1.of_host

  is : now.notes ≡ before.notes ++ last ∷ []
  is = step.2 ∙ ap (λ (n : Note). before.notes ++ n ∷ []) step.1.said

  at-last : TakesMore before.notes (before.notes ++ last ∷ [])
  at-last missing size m =
      subst (λ (o : Option Note). MissesAtMost (missing - bits_taken o) size B at_receiver (before.notes ++ last ∷ [])) (sym (last-is before.notes last))
      (noted before.notes a bytes step.1.of_host _ step.1.noted missing size m)

  pub take-misses : TakesMore before.notes now.notes
  take-misses = subst (TakesMore before.notes) (sym is) at-last

  pub take-gives-nothing : all_given A at_sender now.notes ≡ all_given A at_sender before.notes
  take-gives-nothing = ap (all_given A at_sender) is ∙ given-by-one A at_sender before.notes last

-- pieces are given and taken

pub record IsUnderway (file : List Bool) (given missing : ℕ) (ns : List Note) : Type 0 where
  pub given_so_far : HasGiven A at_sender (take given file) ns
  pub within : given ≤ length file
  pub taken_so_far : MissesAtMost missing (length file) B at_receiver ns

pub begins : (file : List Bool) (missing : ℕ) (ns : List Note) → missing ≡ length file → HasGiven A at_sender [] ns → HasTaken B at_receiver [] ns → IsUnderway file 0 missing ns
begins file missing ns e g t = record { given_so_far = g; within = omega arith; taken_so_far = ([], omega arith, t) }

pub goes-on : (file : List Bool) (given missing now left : ℕ) (n0 n1 n2 n3 n4 : List Note) → IsUnderway file given missing n0
    → (HasGiven A at_sender (take given file) n0 → HasGiven A at_sender (take now file) n1) → now ≤ length file → all_taken B at_receiver n1 ≡ all_taken B at_receiver n0
    → CountsStay n1 n2 → CountsStay n2 n3
    → all_given A at_sender n4 ≡ all_given A at_sender n3 → ((size : ℕ) → MissesAtMost missing size B at_receiver n3 → MissesAtMost left size B at_receiver n4)
    → IsUnderway file now left n4
goes-on file given missing now left n0 n1 n2 n3 n4 i gives fits keeps allows settles stays takes =
    let t = i.taken_so_far in record {
      given_so_far = stays ∙ (settles A at_sender).0 ∙ (allows A at_sender).0 ∙ gives i.given_so_far;
      within = fits;
      taken_so_far = takes (length file) (t.0, t.1, (settles B at_receiver).1 ∙ (allows B at_receiver).1 ∙ keeps ∙ t.2);
    }

pub all-said : (file : List Bool) (given missing : ℕ) (ns : List Note) → given ≡ length file → missing ≡ 0 → IsUnderway file given missing ns → BothSaySo A at_sender file ns
all-said file given missing ns e f i =
    (i.given_so_far ∙ ap (λ (t : List Bool). t ∷ [] ∷ []) (ap (λ (n : ℕ). take n file) e ∙ take-length file), subst (λ (n : ℕ). MissesAtMost n (length file) B at_receiver ns) f i.taken_so_far)

pub still-said : (file : List Bool) (ns ms : List Note) → BothSaySo A at_sender file ns → CountsStay ns ms → BothSaySo A at_sender file ms
still-said file ns ms b k = ((k A at_sender).0 ∙ b.0, (b.1.0, b.1.1, (k B at_receiver).1 ∙ b.1.2))
