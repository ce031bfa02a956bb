-- The file of a world of two, with numbers for its sides, is that of two hosts.
use Rattle.std.proofs.Common.{◌≡◌, ℕ, Bool, List, [], ◌∷◌, ◌++◌, map, refl, sym, ap, ◌∙◌, subst}
use Rattle.ncp_transcript_two.specs.declared.event.Event.{Event}
use Rattle.ncp_transcript_two.specs.declared.note.Note.{Note}
use Rattle.ncp_transcript_two.specs.Between.{Hosts, new_hosts, hosts_after_note}
use Rattle.ncp_transcript_two.specs.Transcript.{AreNotes, new_world}
use Rattle.ncp_interface.specs.declared.imp_direction.ImpDirection.{ImpDirection}
use Rattle.ncp_transcript_many.specs.ManyHappening.{by_numbers}
use Rattle.ncp_transcript_many.proofs.EachPair.{a-stays, b-stays}
use Rattle.ncp_proof_monitor.specs.Worlds.{passes_between, world_file}
use Rattle.ncp_proof_monitor.proofs.TwoHosts.{steps_noted}
use Rattle.ncp_proof_monitor_messages.proofs.Between.{Joined, joined_after, new_joined}
use Rattle.ncp_proof_monitor_messages.specs.ManyFiles.{many_file, FileOfTwo}
use Rattle.ncp_proof_monitor_messages.proofs.Records.{passes_fit}

file_is : (happened : List Event) (noted : List Note) (w : Hosts) → AreNotes happened noted w → Joined w → many_file (map (by_numbers w.number_a w.number_b) noted) ≡ world_file happened noted w
file_is [] [] w n j = refl
file_is [] (note ∷ noted) w n j = absurd n
file_is (event ∷ happened) [] w n j = absurd n
file_is (event ∷ happened) (note ∷ noted) w n j =
    let later = file_is happened noted (hosts_after_note note w) n.1 (joined_after event note w n.0 j) in
    ap (λ (xs : List (ℕ × ImpDirection × List Bool)). xs ++ many_file (map (by_numbers w.number_a w.number_b) noted)) (passes_fit event note w n.0 j).0
    ∙ ap (λ (xs : List (ℕ × ImpDirection × List Bool)). passes_between event note w ++ xs)
    (ap (λ (x : ℕ). many_file (map (by_numbers x w.number_b) noted)) (sym (a-stays (note ∷ []) w))
    ∙ ap (λ (x : ℕ). many_file (map (by_numbers (hosts_after_note note w).number_a x) noted)) (sym (b-stays (note ∷ []) w))
    ∙ later)

pub two_of_many : FileOfTwo
two_of_many a b given now differ k l did =
    let n = steps_noted given (new_world a b) now did in
    subst (λ (all : List Note). many_file (map (by_numbers a b) all) ≡ world_file given all (new_hosts a b)) (sym n.1)
    (file_is given n.0 (new_hosts a b) n.2 (new_joined a b differ k l))
