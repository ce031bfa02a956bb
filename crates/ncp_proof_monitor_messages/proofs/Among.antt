-- In the file of two to eight hosts with the subnet between them nothing is found that is not found in the file of two of them:
-- what is known of two hosts and is left by the records of others is known of each two. So nothing is found but of what is
-- said.
use Rattle.std.proofs.Common.{◌≡◌, ◌≢◌, ◌⊎◌, inl, inr, ℕ, ◌<◌, Bool, true, false, ◌&&◌, nat_le, List, [], ◌∷◌, length, Ok, refl, sym, ap, ◌∙◌, subst}
use Rattle.std.proofs.lemmas.Bool.{and_parts}
use Rattle.ncp_leader.specs.declared.leader.Leader.{Leader}
use Rattle.ncp_leader.specs.Leader.{leader_in}
use Rattle.ncp_host.specs.Host.{is_one_of, are_distinct}
use Rattle.ncp_transcript_two.specs.declared.note.Note.{Note}
use Rattle.ncp_transcript_two.specs.Between.{Hosts, new_hosts, hosts_after_note, hosts_after_notes}
use Rattle.ncp_transcript_two.specs.Transcript.{IsRun, IsSaid}
use Rattle.ncp_monitor.specs.declared.finding.Finding.{Finding}
use Rattle.ncp_monitor.specs.declared.monitor.Monitor.{Monitor}
use Rattle.ncp_interface.specs.declared.imp_direction.ImpDirection.{ImpDirection}
use Rattle.ncp_monitor.specs.Judged.{new_monitor, after_record}
use Rattle.ncp_monitor.proofs.Passing.{Pass, both}
use Rattle.ncp_transcript_many.specs.declared.limits.TheConstants.{MAX_HOSTS}
use Rattle.ncp_transcript_many.specs.declared.many_event.ManyEvent.{ManyEvent}
use Rattle.ncp_transcript_many.specs.declared.many_note.ManyNote.{ManyNote}
use Rattle.ncp_transcript_many.specs.ManyTranscript.{IsManyTranscript}
use Rattle.ncp_transcript_many.specs.Network.{Network, numbers_in, is_there, are_hosts, new_network, after_many}
use Rattle.ncp_transcript_many.specs.ManyHappening.{ManyNoted}
use Rattle.ncp_transcript_many.specs.ManyTranscript.{IsManyRun, IsManyTranscript}
use Rattle.ncp_transcript_many.proofs.Agreeing.{Fine, Agrees}
use Rattle.ncp_transcript_many.proofs.Crowds.{new-numbers, numbers-after}
use Rattle.ncp_transcript_many.proofs.EachPair.{a-stays, b-stays}
use Rattle.ncp_transcript_many.proofs.Starting.{new-fine, new-agrees}
use Rattle.ncp_transcript_many.proofs.Stepping.{fine-after, paired}
use Rattle.ncp_proof_monitor.specs.Recordings.{is_of_messages_and_phase}
use Rattle.ncp_proof_monitor.specs.Worlds.{passes_between}
use Rattle.ncp_proof_monitor_messages.specs.Files.{findings_in}
use Rattle.ncp_proof_monitor_messages.proofs.Quiet.{phase_quiet, none_by}
use Rattle.ncp_proof_monitor_messages.proofs.Walk.{Steps, after_file, found_both}
use Rattle.ncp_proof_monitor_messages.proofs.Between.{Joined}
use Rattle.ncp_proof_monitor_messages.proofs.Both.{Both, each_step, begins}
use Rattle.ncp_proof_monitor_messages.specs.ManyFiles.{passing, many_file, AllFit, NoneNoticed, RecordsFit, NothingFoundAmongMany}
use Rattle.ncp_proof_monitor_messages.proofs.Elsewhere.{IsOfOthers, record_spares, both_spared}
use Rattle.ncp_proof_monitor_messages.proofs.Named.{IsOff, IsOf, which}
use Rattle.ncp_proof_monitor_messages.proofs.Records.{AllName, passes_fit, names_fit, fit_both, none_noticed, unnoticed_both}
use Rattle.ncp_proof_monitor_messages.proofs.Crowded.{Whole, whole_after, new_whole, OfTwo, About, about}

-- what is known of two hosts, through all that happens between them, and through each record of two others
pub record Lifts (passes : Finding → Bool) (I : Hosts → Monitor → Type 0) : Type 0 where
  pub steps : Steps passes I
  pub begins : (a b : ℕ) → a ≢ b → a < 256 → b < 256 → I (new_hosts a b) (new_monitor false)
  pub joined : (w : Hosts) (monitor : Monitor) → I w monitor → Joined w
  pub others : (w : Hosts) (monitor : Monitor) (at : ℕ) (way : ImpDirection) (bits : List Bool) (leader : Leader) → at < 256 → leader.host < 256 → leader_in bits ≡ Ok leader
      → IsOfOthers w.number_a w.number_b at leader.host → I w monitor → I w (after_record monitor way at bits)

-- of all files of two to eight hosts
abbrev pub AllPassAmong : (Finding → Bool) → Type 0
AllPassAmong passes = (notes : List ManyNote) (now : Network) → IsManyTranscript notes now → Pass passes (findings_in (new_monitor false) (many_file notes))

module _ (passes : Finding → Bool) (I : Hosts → Monitor → Type 0) (lifts : Lifts passes I) where
  -- ---- a note of the two

  record Went (m : Network) (monitor : Monitor) (w : Hosts) (n : ManyNote) : Type 0 where
    two : Note
    none : Pass passes (findings_in monitor (passing n))
    names : AllName w.number_a w.number_b (passing n)
    agrees : Agrees (after_many n m) (hosts_after_note two w)
    known : I (hosts_after_note two w) (after_file monitor (passing n))

  went : (m : Network) (monitor : Monitor) (w : Hosts) (event : ManyEvent) (n : ManyNote) → Fine m → ManyNoted event n m → Agrees m w → I w monitor → IsOf w.number_a w.number_b n → Went m monitor w n
  went m monitor w event n f noted g k of =
      let two : Note = of.0 in
      let p = subst (λ (ns : List Note). IsRun ns w × Agrees (after_many n m) (hosts_after_notes ns w)) of.1 (paired m f w g event n noted) in
      let said : IsSaid two w = p.0.0 in
      let file : List (ℕ × ImpDirection × List Bool) = passes_between said.0 two w in
      let fits = passes_fit said.0 two w said.1 (lifts.joined w monitor k) in
      let is : file ≡ passing n = sym (ap passing of.2 ∙ fits.0) in
      let did = lifts.steps said.0 two w monitor said.1 k in
      record {
        two = two;
        none = subst (λ (xs : List (ℕ × ImpDirection × List Bool)). Pass passes (findings_in monitor xs)) is did.0;
        names = subst (AllName w.number_a w.number_b) is fits.1;
        agrees = p.1;
        known = subst (λ (xs : List (ℕ × ImpDirection × List Bool)). I (hosts_after_note two w) (after_file monitor xs)) is did.1;
      }

  -- ---- a note of others

  -- the records of two others leave the two
  others_leave : (w : Hosts) (c d : ℕ) (file : List (ℕ × ImpDirection × List Bool)) (monitor : Monitor) → c < 256 → d < 256 → (c ≡ w.number_a → d ≡ w.number_b → ⊥) → (c ≡ w.number_b → d ≡ w.number_a → ⊥) → AllName c d file → I w monitor → I w (after_file monitor file)
  others_leave w c d [] monitor i j this that n k = k
  others_leave w c d (one ∷ more) monitor i j this that n k = others_leave w c d more (after_record monitor one.1 one.0 one.2) i j this that n.1 (go n.0.ends)
    where
      host : ℕ
      host = n.0.leader.host

      done : one.0 < 256 → host < 256 → IsOfOthers w.number_a w.number_b one.0 host → I w (after_record monitor one.1 one.0 one.2)
      done x y away = lifts.others w monitor one.0 one.1 one.2 n.0.leader x y n.0.led away k

      go : ((one.0 ≡ c) × (host ≡ d)) ⊎ ((one.0 ≡ d) × (host ≡ c)) → I w (after_record monitor one.1 one.0 one.2)
      go (inl e) =
          done (subst (λ (x : ℕ). x < 256) (sym e.0) i) (subst (λ (x : ℕ). x < 256) (sym e.1) j)
          (λ p q. this (sym e.0 ∙ p) (sym e.1 ∙ q), λ p q. that (sym e.0 ∙ q) (sym e.1 ∙ p))
      go (inr e) =
          done (subst (λ (x : ℕ). x < 256) (sym e.0) j) (subst (λ (x : ℕ). x < 256) (sym e.1) i)
          (λ p q. that (sym e.1 ∙ q) (sym e.0 ∙ p), λ p q. this (sym e.1 ∙ p) (sym e.0 ∙ q))

  -- ---- all of them

  -- two of the hosts, as a world of two that has what they have for each other, with all that is known of it
  record Pair (m : Network) (monitor : Monitor) (a b : ℕ) : Type 0 where
    w : Hosts
    is_a : w.number_a ≡ a
    is_b : w.number_b ≡ b
    agrees : Agrees m w
    known : I w monitor

  joined_in : {m : Network} {monitor : Monitor} {a b : ℕ} → (p : Pair m monitor a b) → Joined p.w
  joined_in {monitor = monitor} p = lifts.joined p.w monitor p.known

  record Among (m : Network) (monitor : Monitor) : Type 0 where
    fine : Fine m
    whole : Whole m
    pairs : (a b : ℕ) → is_there a m ≡ true → is_there b m ≡ true → a ≢ b → Pair m monitor a b

  -- what a note shows of the findings, and of others: its records leave each two that it does not name
  record Shown (m : Network) (monitor : Monitor) (n : ManyNote) : Type 0 where
    none : Pass passes (findings_in monitor (passing n))
    fit : AllFit (passing n)
    unnoticed : NoneNoticed (passing n)
    leaves : (w : Hosts) → IsOff w.number_a w.number_b n → I w monitor → I w (after_file monitor (passing n))

  module _ (m : Network) (monitor : Monitor) (event : ManyEvent) (n : ManyNote) (noted : ManyNoted event n m) (k : Among m monitor) where
    of_pair : (o : OfTwo m n) → Went m monitor (k.pairs o.c o.d o.there_c o.there_d o.differ).w n
    of_pair o = go (which w.number_a w.number_b n)
      where
        p : Pair m monitor o.c o.d
        p = k.pairs o.c o.d o.there_c o.there_d o.differ

        w : Hosts
        w = p.w

        go : IsOff w.number_a w.number_b n ⊎ IsOf w.number_a w.number_b n → Went m monitor w n
        go (inl off) = absurd (off.forth o.c o.d o.named (sym p.is_a) (sym p.is_b))
        go (inr of) = went m monitor w event n k.fine noted p.agrees p.known of

    shown : Shown m monitor n
    shown = go (about event n m noted k.whole)
      where
        go : About m n → Shown m monitor n
        go (inl none) = record {
          none = subst (λ (xs : List (ℕ × ImpDirection × List Bool)). Pass passes (findings_in monitor xs)) (sym none) refl;
          fit = subst AllFit (sym none) tt;
          unnoticed = subst NoneNoticed (sym none) tt;
          leaves = λ w off x. subst (λ (xs : List (ℕ × ImpDirection × List Bool)). I w (after_file monitor xs)) (sym none) x;
        }
        go (inr o) =
            let p = k.pairs o.c o.d o.there_c o.there_d o.differ in
            let did = of_pair o in
            record {
              none = did.none;
              fit = names_fit p.w.number_a p.w.number_b (passing n) (joined_in p).stand.fits_a (joined_in p).stand.fits_b did.names;
              unnoticed = none_noticed p.w.number_a p.w.number_b (passing n) did.names;
              leaves = λ w off x.
                  others_leave w p.w.number_a p.w.number_b (passing n) monitor (joined_in p).stand.fits_a (joined_in p).stand.fits_b
                  (λ i j. off.forth o.c o.d o.named (sym p.is_a ∙ i) (sym p.is_b ∙ j))
                  (λ i j. off.back o.c o.d o.named (sym p.is_a ∙ i) (sym p.is_b ∙ j))
                  did.names x;
            }

    pair_after : (a b : ℕ) → Pair m monitor a b → Pair (after_many n m) (after_file monitor (passing n)) a b
    pair_after a b p = go (which p.w.number_a p.w.number_b n)
      where
        go : IsOff p.w.number_a p.w.number_b n ⊎ IsOf p.w.number_a p.w.number_b n → Pair (after_many n m) (after_file monitor (passing n)) a b
        go (inl off) = record {
          w = p.w;
          is_a = p.is_a;
          is_b = p.is_b;
          agrees = subst (λ (ns : List Note). Agrees (after_many n m) (hosts_after_notes ns p.w)) off.none (paired m k.fine p.w p.agrees event n noted).1;
          known = shown.leaves p.w off p.known;
        }
        go (inr of) =
            let did = went m monitor p.w event n k.fine noted p.agrees p.known of in
            record {
              w = hosts_after_note did.two p.w;
              is_a = a-stays (did.two ∷ []) p.w ∙ p.is_a;
              is_b = b-stays (did.two ∷ []) p.w ∙ p.is_b;
              agrees = did.agrees;
              known = did.known;
            }

    among_after : Among (after_many n m) (after_file monitor (passing n))
    among_after = record {
      fine = fine-after m k.fine event n noted;
      whole = whole_after event n m noted k.whole;
      pairs = λ a b i j differ.
          (let same : numbers_in (after_many n m) ≡ numbers_in m = numbers-after n m in
          pair_after a b (k.pairs a b (sym (ap (is_one_of a) same) ∙ i) (sym (ap (is_one_of b) same) ∙ j) differ));
    }

  -- ---- the walk

  walk : (notes : List ManyNote) (m : Network) (monitor : Monitor) → IsManyRun notes m → Among m monitor → Pass passes (findings_in monitor (many_file notes))
  walk [] m monitor r k = refl
  walk (n ∷ notes) m monitor r k =
      subst (λ (xs : List Finding). Pass passes xs) (sym (found_both monitor (passing n) (many_file notes)))
      (both passes (findings_in monitor (passing n)) (findings_in (after_file monitor (passing n)) (many_file notes)) (shown m monitor r.0.0 n r.0.1 k).none
      (walk notes (after_many n m) (after_file monitor (passing n)) r.1 (among_after m monitor r.0.0 n r.0.1 k)))

  walk_fits : (notes : List ManyNote) (m : Network) (monitor : Monitor) → IsManyRun notes m → Among m monitor → AllFit (many_file notes)
  walk_fits [] m monitor r k = tt
  walk_fits (n ∷ notes) m monitor r k =
      fit_both (passing n) (many_file notes) (shown m monitor r.0.0 n r.0.1 k).fit
      (walk_fits notes (after_many n m) (after_file monitor (passing n)) r.1 (among_after m monitor r.0.0 n r.0.1 k))

  walk_unnoticed : (notes : List ManyNote) (m : Network) (monitor : Monitor) → IsManyRun notes m → Among m monitor → NoneNoticed (many_file notes)
  walk_unnoticed [] m monitor r k = tt
  walk_unnoticed (n ∷ notes) m monitor r k =
      unnoticed_both (passing n) (many_file notes) (shown m monitor r.0.0 n r.0.1 k).unnoticed
      (walk_unnoticed notes (after_many n m) (after_file monitor (passing n)) r.1 (among_after m monitor r.0.0 n r.0.1 k))

  all_begin : (ns : List ℕ) → are_hosts ns ≡ true → ((n : ℕ) → is_one_of n ns ≡ true → n < 256) → Among (new_network ns) (new_monitor false)
  all_begin ns good fits = record {
    fine = new-fine ns good fits;
    whole = new_whole ns (and_parts (nat_le 2 (length ns) && nat_le (length ns) MAX_HOSTS) (are_distinct ns) good).1 fits;
    pairs = λ a b i j differ.
        (let one : is_one_of a ns ≡ true = sym (ap (is_one_of a) (new-numbers ns)) ∙ i in
        let other : is_one_of b ns ≡ true = sym (ap (is_one_of b) (new-numbers ns)) ∙ j in
        record {
          w = new_hosts a b;
          is_a = refl;
          is_b = refl;
          agrees = new-agrees ns good fits a b one other differ;
          known = lifts.begins a b differ (fits a one) (fits b other);
        });
  }

  pub all_among : AllPassAmong passes
  all_among notes now t = walk notes (new_network (numbers_in now)) (new_monitor false) t.run (all_begin (numbers_in now) t.hosts t.fits)

  pub records_fit : RecordsFit
  records_fit notes now t = walk_fits notes (new_network (numbers_in now)) (new_monitor false) t.run (all_begin (numbers_in now) t.hosts t.fits)

  pub none_among_records : (notes : List ManyNote) (now : Network) → IsManyTranscript notes now → NoneNoticed (many_file notes)
  none_among_records notes now t = walk_unnoticed notes (new_network (numbers_in now)) (new_monitor false) t.run (all_begin (numbers_in now) t.hosts t.fits)

-- ---- by the rules of messages and of the phase

pub both_lifts : Lifts phase_quiet Both
both_lifts = record {
  steps = each_step;
  begins = begins;
  joined = λ w monitor k. k.joined;
  others = λ w monitor at way bits leader x y led away k.
      both_spared w monitor (after_record monitor way at bits)
      (record_spares w.number_a w.number_b at way bits leader monitor x y k.joined.stand.fits_b led away)
      (record_spares w.number_b w.number_a at way bits leader monitor x y k.joined.stand.fits_a led (λ p q. away.1 q p, λ p q. away.0 q p))
      k;
}

pub all_quiet : AllPassAmong phase_quiet
all_quiet = all_among phase_quiet Both both_lifts

pub none_found : NothingFoundAmongMany is_of_messages_and_phase
none_found notes now t = none_by is_of_messages_and_phase (findings_in (new_monitor false) (many_file notes)) (all_quiet notes now t)

pub all_unnoticed : (notes : List ManyNote) (now : Network) → IsManyTranscript notes now → NoneNoticed (many_file notes)
all_unnoticed = none_among_records phase_quiet Both both_lifts

pub all_fit : RecordsFit
all_fit = records_fit phase_quiet Both both_lifts
