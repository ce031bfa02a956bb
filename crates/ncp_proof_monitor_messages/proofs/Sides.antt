-- What is shown of the events of side A is so of those of side B.
use Rattle.std.proofs.Common.{◌≡◌, ℕ, Bool, true, false, if◌then◌else◌, List, Option, None, Some, refl, sym, subst}
use Rattle.ncp_subnet.specs.Messages.{arriving, answer_about}
use Rattle.ncp_subnet.specs.Transit.{is_accepted}
use Rattle.ncp_transcript.specs.declared.call.Call.{Call}
use Rattle.ncp_transcript.specs.Noting.{note_of_output}
use Rattle.ncp_transcript_two.specs.declared.side.Side.TheVariants.{A, B}
use Rattle.ncp_transcript_two.specs.declared.event.Event.{Event}
use Rattle.ncp_transcript_two.specs.declared.note.Move.{Move}
use Rattle.ncp_transcript_two.specs.declared.note.Note.{Note}
use Rattle.ncp_transcript_two.specs.Between.{Hosts, transit_of, hosts_after_note}
use Rattle.ncp_transcript_two.specs.Happening.{IsCalled, note_of_coming, note_of_answering, note_of_out, note_of_delivery, note_of_loss, note_of_death, note_of_answer}
use Rattle.ncp_transcript_two.proofs.SeenRuns.{counterpart}
use Rattle.ncp_monitor.specs.declared.finding.Finding.{Finding}
use Rattle.ncp_monitor.specs.declared.monitor.Monitor.{Monitor}
use Rattle.ncp_proof_monitor.specs.Worlds.{comes_to, goes_from, passes_between}
use Rattle.ncp_proof_monitor_messages.proofs.Walk.{after_file, Shows, Steps}

pub record OfA (passes : Finding → Bool) (I : Hosts → Monitor → Type 0) : Type 0 where
  pub call : (w : Hosts) (monitor : Monitor) (call : Call) (note : Note) → IsCalled A call note w → I w monitor → I (hosts_after_note note w) monitor
  pub out : (w : Hosts) (monitor : Monitor) → I w monitor → Shows passes I (goes_from w.number_a (note_of_output w.a)) (hosts_after_note (note_of_out A w) w) monitor
  pub deliver : (w : Hosts) (monitor : Monitor) (link : ℕ) → I w monitor → Shows passes I (comes_to w.number_b (arriving w.number_a (transit_of A link w))) (hosts_after_note (note_of_delivery A link w) w) monitor
  pub lose : (w : Hosts) (monitor : Monitor) (link : ℕ) → I w monitor → I (hosts_after_note (note_of_loss A link w) w) monitor
  pub die : (w : Hosts) (monitor : Monitor) (link : ℕ) → I w monitor → I (hosts_after_note (note_of_death A link w) w) monitor
  pub answer : (w : Hosts) (monitor : Monitor) (link : ℕ) → I w monitor → Shows passes I (comes_to w.number_a (answer_about w.number_b link (transit_of A link w))) (hosts_after_note (note_of_answer A link w) w) monitor

came_turned : (w : Hosts) (link : ℕ) (o : Option (List Bool)) → counterpart (hosts_after_note (note_of_coming A link o (counterpart w)) (counterpart w)) ≡ hosts_after_note (note_of_coming B link o w) w
came_turned w link None = refl
came_turned w link (Some bits) = refl

answered_turned : (w : Hosts) (link : ℕ) (o : Option (List Bool)) → counterpart (hosts_after_note (note_of_answering A link o (counterpart w)) (counterpart w)) ≡ hosts_after_note (note_of_answering B link o w) w
answered_turned w link None = refl
answered_turned w link (Some bits) = refl

lost_turned : (w : Hosts) (link : ℕ) (b : Bool)
    → counterpart (hosts_after_note (if b then Note.Lost A link else Note.Nothing A link Move.Lose) (counterpart w)) ≡ hosts_after_note (if b then Note.Lost B link else Note.Nothing B link Move.Lose) w
lost_turned w link true = refl
lost_turned w link false = refl

dead_turned : (w : Hosts) (link : ℕ) (b : Bool)
    → counterpart (hosts_after_note (if b then Note.FoundDead A link else Note.Nothing A link Move.Dead) (counterpart w)) ≡ hosts_after_note (if b then Note.FoundDead B link else Note.Nothing B link Move.Dead) w
dead_turned w link true = refl
dead_turned w link false = refl

pub both_sides : (passes : Finding → Bool) (I : Hosts → Monitor → Type 0) → ((w : Hosts) (monitor : Monitor) → I w monitor → I (counterpart w) monitor) → OfA passes I → Steps passes I
both_sides passes I context a (Event.Call A call) note w monitor n k = (refl, a.call w monitor call note n k)
both_sides passes I context a (Event.Call B call) note w monitor n k = (
  refl,
  subst (λ (x : Note). I (hosts_after_note x w) monitor) (sym n.said)
      (context _ monitor (a.call (counterpart w) monitor call (Note.Called A n.of_host) (record { of_host = n.of_host; said = refl; noted = n.noted; fits = n.fits }) (context w monitor k))),
)
both_sides passes I context a (Event.Out A) note w monitor n k = subst (λ (x : Note). Shows passes I (passes_between (Event.Out A) x w) (hosts_after_note x w) monitor) (sym n) (a.out w monitor k)
both_sides passes I context a (Event.Out B) note w monitor n k =
    let s = a.out (counterpart w) monitor (context w monitor k) in
    subst (λ (x : Note). Shows passes I (passes_between (Event.Out B) x w) (hosts_after_note x w) monitor) (sym n) (s.0, context _ _ s.1)
both_sides passes I context a (Event.Deliver A link) note w monitor n k = subst (λ (x : Note). Shows passes I (passes_between (Event.Deliver A link) x w) (hosts_after_note x w) monitor) (sym n) (a.deliver w monitor link k)
both_sides passes I context a (Event.Deliver B link) note w monitor n k =
    let s = a.deliver (counterpart w) monitor link (context w monitor k) in
    subst (λ (x : Note). Shows passes I (passes_between (Event.Deliver B link) x w) (hosts_after_note x w) monitor) (sym n)
    (s.0, subst (λ (x : Hosts). I x (after_file monitor (comes_to w.number_a (arriving w.number_b (transit_of B link w))))) (came_turned w link (arriving w.number_b (transit_of B link w))) (context _ _ s.1))
both_sides passes I context a (Event.Lose A link) note w monitor n k = (refl, subst (λ (x : Note). I (hosts_after_note x w) monitor) (sym n) (a.lose w monitor link k))
both_sides passes I context a (Event.Lose B link) note w monitor n k = (
  refl,
  subst (λ (x : Note). I (hosts_after_note x w) monitor) (sym n)
      (subst (λ (x : Hosts). I x monitor) (lost_turned w link (is_accepted (transit_of B link w))) (context _ monitor (a.lose (counterpart w) monitor link (context w monitor k)))),
)
both_sides passes I context a (Event.Dead A link) note w monitor n k = (refl, subst (λ (x : Note). I (hosts_after_note x w) monitor) (sym n) (a.die w monitor link k))
both_sides passes I context a (Event.Dead B link) note w monitor n k = (
  refl,
  subst (λ (x : Note). I (hosts_after_note x w) monitor) (sym n)
      (subst (λ (x : Hosts). I x monitor) (dead_turned w link (is_accepted (transit_of B link w))) (context _ monitor (a.die (counterpart w) monitor link (context w monitor k)))),
)
both_sides passes I context a (Event.Answer A link) note w monitor n k = subst (λ (x : Note). Shows passes I (passes_between (Event.Answer A link) x w) (hosts_after_note x w) monitor) (sym n) (a.answer w monitor link k)
both_sides passes I context a (Event.Answer B link) note w monitor n k =
    let s = a.answer (counterpart w) monitor link (context w monitor k) in
    subst (λ (x : Note). Shows passes I (passes_between (Event.Answer B link) x w) (hosts_after_note x w) monitor) (sym n)
    (s.0, subst (λ (x : Hosts). I x (after_file monitor (comes_to w.number_b (answer_about w.number_a link (transit_of B link w))))) (answered_turned w link (answer_about w.number_a link (transit_of B link w))) (context _ _ s.1))
