-- A walk over a world of two hosts and the file of it: what holds before each event holds after it, and all findings of the
-- records of the event pass a test.
use Rattle.std.proofs.Common.{◌≡◌, ◌≢◌, ◌<◌, ℕ, Bool, false, List, [], ◌∷◌, ◌++◌, refl, sym, ap, ◌∙◌, subst}
use Rattle.std.proofs.lemmas.List.{append_assoc}
use Rattle.ncp_transcript_two.specs.declared.event.Event.{Event}
use Rattle.ncp_transcript_two.specs.declared.note.Note.{Note}
use Rattle.ncp_transcript_two.specs.Between.{Hosts, new_hosts, hosts_after_note}
use Rattle.ncp_transcript_two.specs.Happening.{Noted}
use Rattle.ncp_transcript_two.specs.Transcript.{AreNotes, Noted_world, new_world, AreSteps}
use Rattle.ncp_monitor.specs.declared.finding.Finding.{Finding}
use Rattle.ncp_monitor.specs.declared.monitor.Monitor.{Monitor}
use Rattle.ncp_interface.specs.declared.imp_direction.ImpDirection.{ImpDirection}
use Rattle.ncp_monitor.specs.Judged.{new_monitor, record_findings, after_record}
use Rattle.ncp_monitor.proofs.Passing.{Pass, both}
use Rattle.ncp_proof_monitor.specs.Worlds.{passes_between, world_file}
use Rattle.ncp_proof_monitor.proofs.TwoHosts.{steps_noted}
use Rattle.ncp_proof_monitor_messages.specs.Files.{findings_in}

-- the monitor after all records
abbrev pub after_file : Monitor → List (ℕ × ImpDirection × List Bool) → Monitor
after_file monitor [] = monitor
after_file monitor (one ∷ more) = after_file (after_record monitor one.1 one.0 one.2) more

pub found_both : (monitor : Monitor) (xs ys : List (ℕ × ImpDirection × List Bool)) → findings_in monitor (xs ++ ys) ≡ findings_in monitor xs ++ findings_in (after_file monitor xs) ys
found_both monitor [] ys = refl
found_both monitor (x ∷ xs) ys =
    let here : List Finding = record_findings monitor x.1 x.0 x.2 in
    let after : Monitor = after_record monitor x.1 x.0 x.2 in
    ap (λ (zs : List Finding). here ++ zs) (found_both after xs ys) ∙ sym (append_assoc here (findings_in after xs) (findings_in (after_file after xs) ys))

-- what an event shows
abbrev pub Shows : (Finding → Bool) → (Hosts → Monitor → Type 0) → List (ℕ × ImpDirection × List Bool) → Hosts → Monitor → Type 0
Shows passes I file now monitor = Pass passes (findings_in monitor file) × I now (after_file monitor file)

abbrev pub Steps : (Finding → Bool) → (Hosts → Monitor → Type 0) → Type 0
Steps passes I = (event : Event) (note : Note) (w : Hosts) (monitor : Monitor) → Noted event note w → I w monitor → Shows passes I (passes_between event note w) (hosts_after_note note w) monitor

pub walk : (passes : Finding → Bool) (I : Hosts → Monitor → Type 0) → Steps passes I → (happened : List Event) (noted : List Note) (w : Hosts) (monitor : Monitor) → AreNotes happened noted w → I w monitor
    → Pass passes (findings_in monitor (world_file happened noted w))
walk passes I steps [] [] w monitor p k = refl
walk passes I steps [] (note ∷ noted) w monitor p k = absurd p
walk passes I steps (event ∷ happened) [] w monitor p k = absurd p
walk passes I steps (event ∷ happened) (note ∷ noted) w monitor p k =
    let s = steps event note w monitor p.0 k in
    let here : List (ℕ × ImpDirection × List Bool) = passes_between event note w in
    let rest : List (ℕ × ImpDirection × List Bool) = world_file happened noted (hosts_after_note note w) in
    subst (λ (xs : List Finding). Pass passes xs) (sym (found_both monitor here rest))
    (both passes (findings_in monitor here) (findings_in (after_file monitor here) rest) s.0 (walk passes I steps happened noted (hosts_after_note note w) (after_file monitor here) p.1 s.1))

-- of a whole file of two hosts
abbrev pub AllPass : (Finding → Bool) → Type 0
AllPass passes =
    (a b : ℕ) (given : List Event) (now : Noted_world)
    → a ≢ b → a < 256 → b < 256 → AreSteps given (new_world a b) now
    → Pass passes (findings_in (new_monitor false) (world_file given now.notes (new_hosts a b)))

pub all_pass : (passes : Finding → Bool) (I : Hosts → Monitor → Type 0) → Steps passes I → ((a b : ℕ) → a ≢ b → a < 256 → b < 256 → I (new_hosts a b) (new_monitor false)) → AllPass passes
all_pass passes I steps begins a b happened now differ k l did =
    let n = steps_noted happened (new_world a b) now did in
    subst (λ (all : List Note). Pass passes (findings_in (new_monitor false) (world_file happened all (new_hosts a b)))) (sym n.1)
    (walk passes I steps happened n.0 (new_hosts a b) (new_monitor false) n.2 (begins a b differ k l))
