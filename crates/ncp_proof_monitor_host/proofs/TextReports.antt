-- A text that the host cuts is sent: it breaks no rule, and the facts about the flow hold after it.
use Rattle.std.proofs.Common.{◌≡◌, ℕ, ◌*◌, ◌≤◌, Bool, true, false, if◌then◌else◌, List, [], length, Option, None, Some, refl, sym, ap, ◌∙◌, subst, arith}
use Rattle.std.specs.Prelude.{take}
use Rattle.std.specs.FinMap.{get}
use Rattle.std.proofs.lemmas.List.{append-nil, length-take-le}
use Rattle.ncp_leader.specs.Message.{Message}
use Rattle.ncp_wire.specs.declared.command.Command.{Command}
use Rattle.ncp_model.specs.declared.pair.Pair.{Pair}
use Rattle.ncp_model.specs.Pairs.{sends}
use Rattle.ncp_model.specs.Endpoint.{Endpoint}
use Rattle.ncp_model.specs.Ends.{Ends, sender_on, pair_of, map_after, map_after_at, cut_at, cut_in}
use Rattle.ncp_model.specs.Effect.{Stays, answer, end_after}
use Rattle.ncp_model.specs.Texts.{bytes_to_send, can_send, cut_bits, cut}
use Rattle.ncp_model.specs.EndpointEvents.{EndpointEvent, happens}
use Rattle.ncp_model.proofs.EndsAfter.{after-at, after-elsewhere}
use Rattle.ncp_proof_machine.proofs.EndsGood.{EndsInvariant}
use Rattle.ncp_proof_endpoint.specs.Sound.{SoundAt, SoundEnd}
use Rattle.ncp_monitor.specs.declared.conn_state.FactKind.{FactKind}
use Rattle.ncp_monitor.specs.ConnStates.{SeenTables, same_topic, is_marked}
use Rattle.ncp_monitor.specs.Texts.{text_shown, text_rules, conn_tables_after_text}
use Rattle.ncp_proof_monitor_allocation.proofs.OwnMoves.{Moved, moves}
use Rattle.ncp_proof_monitor_allocation.proofs.Changed.{OneEnd}
use Rattle.ncp_proof_monitor_allocation.proofs.TidyBooks.{Tidy}
use Rattle.ncp_proof_monitor_replies.proofs.LinksGo.{own_flow}
use Rattle.ncp_proof_monitor_allocation.proofs.LinksReach.{Led, led_sender}
use Rattle.ncp_proof_monitor_replies.proofs.TextGoes.{MaySend, may_send_is, cut_end, cut_after, text_rules_none, text_counted, text_owed, text_same, text_echoes}
use Rattle.ncp_proof_monitor_allocation.proofs.SameShapes.{SameShapes, shapes_meets, shapes_held, shapes_came}
use Rattle.ncp_proof_monitor_allocation.proofs.Comes.{host_meets}
use Rattle.ncp_proof_monitor_allocation.proofs.HeldLinks.{host_held}
use Rattle.ncp_proof_monitor_allocation.proofs.OwnCame.{own_came}
use Rattle.ncp_proof_monitor_host.proofs.OwnReports.{unasked_free}
use Rattle.ncp_proof_monitor_host.proofs.ReportedSteps.{echo_reported}
use Rattle.ncp_proof_monitor_allocation.proofs.Meets.{Meets}
use Rattle.ncp_proof_monitor_allocation.proofs.Came.{Came}
use Rattle.ncp_proof_monitor_allocation.proofs.Echoing.{Echoing}
use Rattle.ncp_proof_monitor_host.proofs.Spoken.{Tells}

-- what a cut is: of the end that the link leads to, as it may send
record CutOf (on : ℕ) (m : Ends) (t : ℕ × List Bool) : Type 0 where
  pub pair : Pair
  pub e : Endpoint
  pub led : sender_on on m ≡ Some (pair, e)
  pub may : can_send pair e ≡ true
  pub size : t.0 ≡ e.size
  pub text : t.1 ≡ take (bytes_to_send e * e.size) e.stored

cut_of : (on : ℕ) (m : Ends) (t : ℕ × List Bool) → answer (cut_in on m) ≡ Some t → CutOf on m t
cut_of on m t a = go (sender_on on m) refl a
  where
    go : (o : Option (Pair × Endpoint)) → sender_on on m ≡ o → answer (cut_at o) ≡ Some t → CutOf on m t
    go None l a = absurd (cc a)
    go (Some (pair, e)) l a = by (can_send pair e) refl a
      where
        by : (x : Bool) → can_send pair e ≡ x → answer (if x then cut_bits (bytes_to_send e * e.size) e else Stays None) ≡ Some t → CutOf on m t
        by false k a = absurd (cc a)
        by true k a =
            let is : (e.size, take (bytes_to_send e * e.size) e.stored) ≡ t = cc a in
            record { pair = pair; e = e; led = l; may = k; size = ap (λ (x : ℕ × List Bool). x.0) (sym is); text = ap (λ (x : ℕ × List Bool). x.1) (sym is) }

stored_enough : (e : Endpoint) → bytes_to_send e * e.size ≤ length e.stored
stored_enough e = grind arith

module _ (me n on : ℕ) (m : Ends) (awaited : Bool) (w : List Command) (b : SeenTables) (t : ℕ × List Bool) (message : Message) (good : EndsInvariant m) (tidy : Tidy b) (tells : Tells me n m awaited w b) (made : answer (cut_in on m) ≡ Some t)
    (sized : message.size ≡ t.0) (worded : message.text ≡ t.1) where
  led : (c : CutOf on m t) → Led m on (sends c.pair) c.e.heard c.pair c.e
  led c = led_sender m on c.pair c.e c.led

  -- of the end
  record Known_end (c : CutOf on m t) : Type 0 where
    pub there : get m c.pair ≡ Some c.e
    pub link : c.e.link ≡ on
    pub may : MaySend c.pair c.e
    pub sound : SoundEnd c.pair c.e
    pub size : message.size ≡ c.e.size
    pub long : length message.text ≡ bytes_to_send c.e * c.e.size
    pub one : OneEnd m (map_after_at m (pair_of (sender_on on m)) (cut_in on m)) c.pair (Some (cut_end c.e))
    pub happened : OneEnd m (map_after_at m (pair_of (sender_on on m)) (cut_in on m)) c.pair (happens c.pair EndpointEvent.Text_goes_out (get m c.pair)).after

  known_end : (c : CutOf on m t) → Known_end c
  known_end c = record {
    there = there;
    link = (led c).its_link;
    may = may_send_is c.pair c.e c.may;
    sound = subst (SoundAt c.pair) there (good.sound c.pair);
    size = sized ∙ c.size;
    long = ap length (worded ∙ c.text) ∙ length-take-le (bytes_to_send c.e * c.e.size) c.e.stored (stored_enough c.e);
    one = record { there = at ∙ cut_after c.pair c.e c.may; elsewhere = λ q d. ap (λ (x : Ends). get x q) is ∙ after-elsewhere m c.pair q (cut c.pair (Some c.e)) d };
    happened = record { there = at ∙ sym (ap (λ (o : Option Endpoint). end_after o (cut c.pair o)) there); elsewhere = λ q d. ap (λ (x : Ends). get x q) is ∙ after-elsewhere m c.pair q (cut c.pair (Some c.e)) d };
  }
    where
      there : get m c.pair ≡ Some c.e
      there = (led c).there

      is : map_after_at m (pair_of (sender_on on m)) (cut_in on m) ≡ map_after m c.pair (cut c.pair (Some c.e))
      is = ap (λ (o : Option (Pair × Endpoint)). map_after_at m (pair_of o) (cut_at o)) c.led

      at : get (map_after_at m (pair_of (sender_on on m)) (cut_in on m)) c.pair ≡ end_after (Some c.e) (cut c.pair (Some c.e))
      at = ap (λ (x : Ends). get x c.pair) is ∙ after-at m c.pair (cut c.pair (Some c.e)) ∙ ap (λ (o : Option Endpoint). end_after o (cut c.pair (Some c.e))) there

  -- it breaks no rule
  pub cut_right : text_rules (own_flow me n) on message b ≡ []
  cut_right = by (cut_of on m t made)
    where
      by : CutOf on m t → text_rules (own_flow me n) on message b ≡ []
      by c =
          let k = known_end c in
          text_rules_none me n on m w b c.pair c.e k.there k.link k.may k.sound tells.held tells.meets.tally.pairs tells.counted message k.size k.long tidy tells.meets.unique

  pub cut_tells : Tells me n (map_after_at m (pair_of (sender_on on m)) (cut_in on m)) awaited w (conn_tables_after_text (own_flow me n) on message b)
  cut_tells = by (cut_of on m t made)
    where
      by : CutOf on m t → Tells me n (map_after_at m (pair_of (sender_on on m)) (cut_in on m)) awaited w (conn_tables_after_text (own_flow me n) on message b)
      by c = record {
        meets = shapes_meets me n then_ends w b after shapes (subst (λ (x : List Command). Meets me n then_ends x b) (append-nil w) (host_meets me n m w b then_ends c.pair (happens c.pair EndpointEvent.Text_goes_out (get m c.pair)).after [] k.happened moved (unasked_free EndpointEvent.Text_goes_out m c.pair refl refl) tells.meets));
        held = shapes_held me n then_ends b after shapes (host_held me n m then_ends b c.pair (happens c.pair EndpointEvent.Text_goes_out (get m c.pair)).after [] k.happened moved tells.held);
        echoing = subst (λ (x : List Command). Echoing me n awaited x after) (append-nil w) (echo_reported me n awaited w [] b after (echoes (FactKind.EchoesRest true) refl, echoes (FactKind.Asks true) refl) refl tells.echoing);
        came = shapes_came me n then_ends w b after shapes (subst (λ (x : List Command). Came me n then_ends x b) (append-nil w) (own_came me n c.pair EndpointEvent.Text_goes_out m then_ends w b good.sound refl refl k.happened tells.came));
        counted = text_counted me n on m w b c.pair c.e k.there k.link k.may k.sound tells.held tells.meets.tally.pairs tells.counted message k.size k.long tidy tells.meets.unique then_ends k.one;
        owed = text_owed me n on m w b c.pair c.e k.there k.link k.may k.sound tells.held tells.meets.tally.pairs tells.counted message k.size k.long tidy tells.meets.unique then_ends k.one tells.owed;
      }
        where
          k : Known_end c
          k = known_end c

          then_ends : Ends
          then_ends = map_after_at m (pair_of (sender_on on m)) (cut_in on m)

          after : SeenTables
          after = conn_tables_after_text (own_flow me n) on message b

          moved : Moved (sends c.pair) c.pair (get m c.pair) (happens c.pair EndpointEvent.Text_goes_out (get m c.pair)).after []
          moved = moves c.pair EndpointEvent.Text_goes_out (get m c.pair) refl (good.sound c.pair)

          shapes : SameShapes me n b after
          shapes = text_same me n on m w b c.pair c.e k.there k.link k.may k.sound tells.held tells.meets.tally.pairs tells.counted message k.size k.long tidy tells.meets.unique tells.meets.linked

          echoes : (fact_kind : FactKind) → same_topic (FactKind.Admits false (text_shown me message)) fact_kind ≡ false → is_marked me n fact_kind after ≡ is_marked me n fact_kind b
          echoes fact_kind other = text_echoes me n on m w b c.pair c.e k.there k.link k.may k.sound tells.held tells.meets.tally.pairs tells.counted message k.size k.long tidy tells.meets.unique fact_kind other
