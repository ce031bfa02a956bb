-- Each of many hosts has the others as its peers, through each note; so what is recorded names two of them.
use Rattle.std.proofs.Common.{◌≡◌, ◌≢◌, ◌⊎◌, inl, inr, ℕ, ◌<◌, ◌==◌, Bool, true, false, not, List, [], ◌∷◌, Some, refl, sym, ap, ◌∙◌, subst}
use Rattle.std.proofs.lemmas.Bool.{eq-eqb}
use Rattle.ncp_host.specs.Host.{Host, is_one_of, are_distinct}
use Rattle.ncp_host.specs.Turns.{next_output}
use Rattle.ncp_subnet.specs.Messages.{from_host, answer_bits}
use Rattle.ncp_transcript.specs.After.{after_note, after_notes}
use Rattle.ncp_transcript.specs.declared.note.HostNote.{HostNote}
use Rattle.ncp_transcript.specs.Noting.{note_of_bits}
use Rattle.ncp_transcript.specs.Runs.{IsHostRun}
use Rattle.ncp_proof_runs.specs.Peers.{peer_of_leader}
use Rattle.ncp_proof_runs.proofs.States.{Turn, peer_there}
use Rattle.ncp_proof_runs.proofs.HostRuns.{Holds, out-turn, out-leader}
use Rattle.ncp_proof_runs.proofs.EachPeer.{holds-after, new-holds}
use Rattle.ncp_leader.specs.declared.leader.Leader.{Leader}
use Rattle.ncp_leader.specs.declared.leader.Short.{Short}
use Rattle.std.proofs.Common.{Result}
use Rattle.ncp_transcript_many.specs.declared.many_event.ManyEvent.{ManyEvent}
use Rattle.ncp_transcript_many.specs.declared.many_note.ManyNote.{ManyNote}
use Rattle.ncp_transcript_many.specs.Network.{Network, numbers_in, is_there, others, new_network, host_at, after_many}
use Rattle.ncp_transcript_many.specs.ManyHappening.{are_two, ManyNoted}
use Rattle.ncp_transcript_many.specs.Pairs.{with_peer, two_of, note_at_host}
use Rattle.ncp_transcript_many.proofs.ByItself.{two-there, said-at}
use Rattle.ncp_transcript_many.proofs.Crowds.{many-new, new-numbers, numbers-after}
use Rattle.ncp_transcript_many.proofs.NoteKinds.{Kinds, each-kind}
use Rattle.ncp_transcript_many.proofs.Others.{other-of, not-other, others-distinct}
use Rattle.ncp_proof_monitor_messages.specs.ManyFiles.{passing}

-- ---- the peers of each

abbrev pub Whole : Network → Type 0
Whole m = (k : ℕ) → is_there k m ≡ true → Holds (others k (numbers_in m)) (host_at k m)

holds_run : (ns : List ℕ) (noted : List HostNote) (h : Host) → Holds ns h → IsHostRun noted h → Holds ns (after_notes noted h)
holds_run ns [] h k r = k
holds_run ns (n ∷ noted) h k r = holds_run ns noted (after_note n h) (holds-after ns n h k r.0) r.1

pub whole_after : (event : ManyEvent) (n : ManyNote) (m : Network) → ManyNoted event n m → Whole m → Whole (after_many n m)
whole_after event n m noted w k there =
    let same : numbers_in (after_many n m) ≡ numbers_in m = numbers-after n m in
    let led = said-at k m event n noted in
    subst (λ (ns : List ℕ). Holds (others k ns) (host_at k (after_many n m))) (sym same)
    (subst (Holds (others k (numbers_in m))) (sym led.1)
    (holds_run (others k (numbers_in m)) (note_at_host k n) (host_at k m) (w k (sym (ap (is_one_of k) same) ∙ there)) led.0))

pub new_whole : (ns : List ℕ) → are_distinct ns ≡ true → ((n : ℕ) → is_one_of n ns ≡ true → n < 256) → Whole (new_network ns)
new_whole ns distinct fits k there =
    let one : is_one_of k ns ≡ true = sym (ap (is_one_of k) (new-numbers ns)) ∙ there in
    subst (λ (all : List ℕ). Holds (others k all) (host_at k (new_network ns))) (sym (new-numbers ns))
    (subst (Holds (others k ns)) (sym (many-new ns k one)) (new-holds k (others k ns) (others-distinct k ns distinct) (λ n i. fits n (other-of k n ns i))))

-- ---- what is recorded names two of them

-- the note is of these two
pub record OfTwo (m : Network) (n : ManyNote) : Type 0 where
  pub c : ℕ
  pub d : ℕ
  pub there_c : is_there c m ≡ true
  pub there_d : is_there d m ≡ true
  pub differ : c ≢ d
  pub named : two_of n ≡ Some (c, d)

-- nothing is recorded, or the note is of two
abbrev pub About : Network → ManyNote → Type 0
About m n = (passing n ≡ []) ⊎ OfTwo m n

differs : (c d : ℕ) → not (c == d) ≡ true → c ≢ d
differs c d e same = let nay : true ≡ false = sym e ∙ ap not (eq-eqb c d same) in absurd (cc)

goes_about : (m : Network) (host : ℕ) (message : List Bool) → Whole m → is_there host m ≡ true → next_output (host_at host m) ≡ Some message → About m (ManyNote.Out host (HostNote.Out message))
goes_about m host message w there next =
    let own : Holds (others host (numbers_in m)) (host_at host m) = w host there in
    let t : Turn (host_at host m).peers message = out-turn (others host (numbers_in m)) (host_at host m) message own next in
    let peer : is_one_of t.n (others host (numbers_in m)) ≡ true = sym (ap (is_one_of t.n) own.numbers) ∙ peer_there (host_at host m).peers t.n t.s t.found in
    inr (record {
      c = host;
      d = t.n;
      there_c = there;
      there_d = other-of host t.n (numbers_in m) peer;
      differ = λ same. (let nay : true ≡ false = sym (ap (λ (j : ℕ). is_one_of j (others host (numbers_in m))) same ∙ peer) ∙ not-other host (numbers_in m) in absurd (cc));
      named = ap (λ (x : Result Leader Short). with_peer host (peer_of_leader x)) (out-leader (others host (numbers_in m)) (host_at host m) message own t);
    })

two_about : (m : Network) (from to : ℕ) (n : ManyNote) → are_two from to m ≡ true → two_of n ≡ Some (from, to) → About m n
two_about m from to n two named =
    let t = two-there from to m two in
    inr (record { c = from; d = to; there_c = t.0; there_d = t.1; differ = differs from to t.2; named = named })

kinds : (m : Network) → Whole m → Kinds m (About m)
kinds m w = record {
  called = λ host call n there noted fits. inl refl;
  goes = λ host message there next. goes_about m host message w there next;
  still = λ host there next. inl refl;
  came = λ from to link y two there. two_about m from to (ManyNote.Came from to link (note_of_bits (from_host from y) (host_at to m))) two refl;
  lost = λ from to link two there. inl refl;
  dead = λ from to link two there. inl refl;
  answered = λ from to link kind two there. two_about m from to (ManyNote.Answered from to link (note_of_bits (answer_bits kind to link) (host_at from m))) two refl;
  never_came = λ from to link two none. inl refl;
  never_lost = λ from to link two none. inl refl;
  never_dead = λ from to link two none. inl refl;
  never_answered = λ from to link two none. inl refl;
  absent = λ event none. inl refl;
}

pub about : (event : ManyEvent) (n : ManyNote) (m : Network) → ManyNoted event n m → Whole m → About m n
about event n m noted w = each-kind m (About m) (kinds m w) event n noted
