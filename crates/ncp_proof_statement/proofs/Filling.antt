-- All that two hosts note by themselves, in a world.
use Rattle.std.proofs.Common.{◌≡◌, ◌<◌, ◌^◌, ℕ, List, [], ◌∷◌, ◌++◌, refl, sym, ap, ◌∙◌, subst}
use Rattle.ncp_subnet.proofs.NewRows.{transit-new}
use Rattle.ncp_subnet.specs.declared.transit.Transit.TheVariants.{Free}
use Rattle.ncp_subnet.specs.Ways.{OnLink}
use Rattle.ncp_statement.specs.Statement.{link_state_after, link_state_from}
use Rattle.ncp_host.specs.Host.{Host}
use Rattle.ncp_transcript.specs.declared.note.HostNote.{HostNote}
use Rattle.ncp_transcript.specs.After.{after_notes}
use Rattle.ncp_transcript.specs.Runs.{IsHostSaid, IsHostRun}
use Rattle.ncp_transcript.proofs.Growing as growing
use Rattle.ncp_transcript_two.specs.declared.side.Side.{Side}
use Rattle.ncp_transcript_two.specs.declared.side.Side.TheVariants.{A, B}
use Rattle.ncp_transcript_two.specs.declared.note.Note.{Note}
use Rattle.ncp_transcript_two.specs.Between.{Hosts, new_hosts, host_of, transit_of, hosts_after_note, hosts_after_notes}
use Rattle.ncp_transcript_two.specs.Honest.{Clear}
use Rattle.ncp_transcript_two.specs.Seen.{seen}
use Rattle.ncp_transcript_two.specs.Sides.{if_same}
use Rattle.ncp_transcript_two.specs.Tie.{IsOfModel}
use Rattle.ncp_transcript_two.specs.Transcript.{IsRun, began, IsTranscript}
use Rattle.ncp_transcript_two.proofs.Growing.{after_append, run_append, began_noted, transcript_new}
use Rattle.ncp_transcript_two.proofs.Headlines.{stands, new}
use Rattle.ncp_transcript_two.proofs.Runs.{new-ties}
use Rattle.ncp_transcript_two.proofs.SeenSteps.{Stand}
use Rattle.ncp_transcript_two.proofs.SeenRuns.{stands-at}
use Rattle.ncp_proof_statement.specs.Notes.{SidedNotes, notes_by, as_note, as_notes, NotedCallsFit, without_subnet}
use Rattle.ncp_proof_statement.specs.HonestRuns.{IsHonestRun, WorldOf}
use Rattle.ncp_proof_statement.proofs.Stepping.{Links, Steps, step}

said-by : (by : Side) (hn : HostNote) (rest : List HostNote) (h : Host) → IsHostRun (if_same by by hn ++ rest) h → IsHostSaid hn h
said-by A hn rest h r = r.0
said-by B hn rest h r = r.0

run-rest : (side by : Side) (hn : HostNote) (rest : List HostNote) (h : Host) → IsHostRun (if_same side by hn ++ rest) h → IsHostRun rest (after_notes (if_same side by hn) h)
run-rest A A hn rest h r = r.1
run-rest A B hn rest h r = r
run-rest B A hn rest h r = r
run-rest B B hn rest h r = r.1

record Filled (ns : SidedNotes) (w : Hosts) : Type 0 where
  pub more : List Note
  pub run : IsRun more w
  pub same : without_subnet more ≡ as_notes ns
  pub hosts : (side : Side) → host_of side (hosts_after_notes more w) ≡ after_notes (notes_by side ns) (host_of side w)
  pub carries : (side : Side) (on : ℕ) → transit_of side on (hosts_after_notes more w) ≡ link_state_from side on (transit_of side on w) (as_notes ns)

-- one note and the rest
joined : (by : Side) (hn : HostNote) (ns : SidedNotes) (w : Hosts) (first : List Note) → IsRun first w → ((more : List Note) → without_subnet (first ++ more) ≡ as_note by hn ∷ without_subnet more)
    → ((side : Side) → host_of side (hosts_after_notes first w) ≡ after_notes (if_same side by hn) (host_of side w))
    → ((side : Side) (on : ℕ) → transit_of side on (hosts_after_notes first w) ≡ link_state_after side on (as_note by hn) (transit_of side on w)) → Filled ns (hosts_after_notes first w) → Filled ((by, hn) ∷ ns) w
joined by hn ns w first run drops hosts carries rest = record {
  more = first ++ rest.more;
  run = run_append first rest.more w run rest.run;
  same = drops rest.more ∙ ap (λ (xs : List Note). as_note by hn ∷ xs) rest.same;
  hosts = λ side.
      ap (host_of side) (after_append first rest.more w)
      ∙ rest.hosts side
      ∙ ap (after_notes (notes_by side ns)) (hosts side)
      ∙ sym (growing.after_append (if_same side by hn) (notes_by side ns) (host_of side w));
  carries = λ side on.
      ap (transit_of side on) (after_append first rest.more w)
      ∙ rest.carries side on
      ∙ ap (λ (t : OnLink). link_state_from side on t (as_notes ns)) (carries side on);
}

fill : (ns : SidedNotes) (w : Hosts) → Stand w → IsOfModel (seen w) → ((side : Side) → IsHostRun (notes_by side ns) (host_of side w)) → NotedCallsFit ns → Links (as_notes ns) w → Filled ns w
fill [] w k m r f l = record { more = []; run = tt; same = refl; hosts = λ side. refl; carries = λ side on. refl }
fill ((by, hn) ∷ ns) w k m r f l =
    let s : Steps (as_note by hn) by hn (as_notes ns) w = step by hn (as_notes ns) w k m (said-by by hn (notes_by by ns) (host_of by w) (r by)) f.0 l in
    let first : List Note = s.before ++ as_note by hn ∷ [] in
    let w1 : Hosts = hosts_after_notes first w in
    let t = stands-at first w s.run k m in
    joined by hn ns w first s.run s.drops s.hosts s.carries
    (fill ns w1 t.0 t.1 (λ side. subst (IsHostRun (notes_by side ns)) (sym (s.hosts side)) (run-rest side by hn (notes_by side ns) (host_of side w) (r side))) f.1 s.links)

-- the numbers of the hosts stay
began_all : (ns : List Note) (w : Hosts) → began (hosts_after_notes ns w) ≡ began w
began_all [] w = refl
began_all (n ∷ ns) w = began_all ns (hosts_after_note n w) ∙ began_noted n w

module _ (a b : ℕ) (ns : SidedNotes) (t : IsHonestRun a b ns) where
  none : IsTranscript [] (new_hosts a b)
  none = transcript_new a b (new_hosts a b) t.differ t.fits_a t.fits_b refl

  runs : (side : Side) → IsHostRun (notes_by side ns) (host_of side (new_hosts a b))
  runs A = t.run_a
  runs B = t.run_b

  links : Links (as_notes ns) (new_hosts a b)
  links A on = (Clear, transit-new (a ∷ b ∷ []) a b on, t.honest A on)
  links B on = (Clear, transit-new (a ∷ b ∷ []) b a on, t.honest B on)

  f : Filled ns (new_hosts a b)
  f = fill ns (new_hosts a b) (stands [] (new_hosts a b) none) (new-ties (seen (new_hosts a b)) (new [] (new_hosts a b) none)) runs t.calls links

  free : (side : Side) (on : ℕ) → transit_of side on (new_hosts a b) ≡ Free
  free A on = transit-new (a ∷ b ∷ []) a b on
  free B on = transit-new (a ∷ b ∷ []) b a on

  pub in-world : WorldOf a b ns
  in-world =
      let w : Hosts = hosts_after_notes f.more (new_hosts a b) in
      let same : began w ≡ new_hosts a b = began_all f.more (new_hosts a b) in
      let na : w.number_a ≡ a = ap (λ (x : Hosts). x.number_a) same in
      let nb : w.number_b ≡ b = ap (λ (x : Hosts). x.number_b) same in
      record {
        more = f.more;
        world = w;
        is = record {
          differ = λ (e : w.number_a ≡ w.number_b). t.differ (sym na ∙ e ∙ nb);
          fits_a = subst (λ (n : ℕ). n < 2 ^ 8) (sym na) t.fits_a;
          fits_b = subst (λ (n : ℕ). n < 2 ^ 8) (sym nb) t.fits_b;
          run = subst (IsRun f.more) (sym same) f.run;
          state = ap (hosts_after_notes f.more) (sym same);
        };
        number_a = na;
        number_b = nb;
        notes = f.same;
        host_a = f.hosts A;
        host_b = f.hosts B;
        links = λ side on. f.carries side on ∙ ap (λ (t : OnLink). link_state_from side on t (as_notes ns)) (free side on);
      }
