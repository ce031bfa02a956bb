-- A CLS of the other comes to the host: all that is known of what was said stays known.
use Rattle.std.proofs.Common.{◌≡◌, ◌<◌, ℕ, Bool, true, false, not, ◌&&◌, ◌||◌, if◌then◌else◌, List, ◌++◌, length, Option, None, Some, is_some, ◌⊎◌, inl, inr, refl, sym, ap, ◌∙◌, subst, arith}
use Rattle.std.specs.FinMap.{get}
use Rattle.std.specs.List.{list_any}
use Rattle.ncp_wire.specs.declared.command.Command.{Command}
use Rattle.ncp_wire.specs.declared.command.Command.TheVariants.{Cls}
use Rattle.ncp_model.specs.declared.pair.Pair.{Pair}
use Rattle.ncp_model.specs.declared.outcomes.Heard.{Heard}
use Rattle.ncp_model.specs.Pairs.{sends, is_proper}
use Rattle.ncp_model.specs.Endpoint.{Endpoint}
use Rattle.ncp_model.specs.Effect.{Effect, answer, end_after, error_of, made_by_hearing, wrong_parameters}
use Rattle.ncp_model.specs.Commands.{errs, hear_cls_at}
use Rattle.ncp_model.specs.Ends.{Ends, hear, map_after}
use Rattle.ncp_proof_endpoint.specs.Sound.{SoundAt}
use Rattle.ncp_proof_machine.proofs.EndsGood.{EndsInvariant}
use Rattle.ncp_monitor.specs.declared.finding.Rule.{Rule}
use Rattle.ncp_interface.specs.declared.sent_message.SentMessage.{SentMessage}
use Rattle.ncp_monitor.specs.declared.conn_state.ConnState.{ConnState}
use Rattle.ncp_monitor.specs.declared.conn_state.FactKind.{FactKind}
use Rattle.ncp_monitor.specs.declared.observed_flow.ObservedFlow.{ObservedFlow}
use Rattle.ncp_monitor.specs.declared.observed_flow.Acceptance.{Acceptance}
use Rattle.ncp_monitor.specs.declared.observed_flow.Acceptance.TheVariants.{Right, Refused, Unclear}
use Rattle.ncp_monitor.specs.ConnStates.{SeenTables, conn_of, index_with_sockets, is_topic, suspended_pair}
use Rattle.ncp_monitor.specs.Replies.{owes, error_wanted}
use Rattle.ncp_monitor.specs.Requests.{left_acceptance, cls_acceptance, closes_side, after_cls}
use Rattle.ncp_interface.specs.Sockets.{is_of_sexes}
use Rattle.ncp_monitor.specs.Speaking.{after_right_cls}
use Rattle.ncp_monitor.proofs.Shapes.{Leave, Agrees, their_legal, their_step}
use Rattle.ncp_monitor.proofs.LinkOrder.{Sockets, same, same_is, about}
use Rattle.ncp_monitor.proofs.BooksAt.{after_left, leaves_at, conn_first}
use Rattle.ncp_monitor.proofs.Seeing.{seen}
use Rattle.ncp_proof_monitor_allocation.proofs.KeptEnds.{of_end, kept}
use Rattle.ncp_proof_monitor_allocation.proofs.OwnMoves.{all_says}
use Rattle.ncp_proof_monitor_allocation.proofs.HeardMoves.{Closed, Known, Matched, cls_taken}
use Rattle.ncp_proof_monitor_allocation.proofs.Changed.{pair_at}
use Rattle.ncp_proof_monitor_allocation.proofs.SeenTables.{conn_seen, seen_of, is_suspended, suspended_of, OneSeen, closed_seen}
use Rattle.ncp_proof_monitor_allocation.proofs.Resting.{pair_suspended, pair_linked, due_room}
use Rattle.ncp_proof_monitor_allocation.proofs.Comes.{their_cls, may_be_heard, cls_meets}
use Rattle.ncp_proof_monitor_allocation.proofs.RequestsCome.{one_end}
use Rattle.ncp_proof_monitor_allocation.proofs.Came.{asks_in, has_come, left_stays, holds_unleft}
use Rattle.ncp_proof_monitor_allocation.proofs.HeldLinks.{same_held, heard_held, its_link_suspended}
use Rattle.ncp_proof_monitor_replies.proofs.HostMakes.{refusal_fits, makes_no_eco, asks_as_before, cls_made}
use Rattle.ncp_proof_monitor_allocation.proofs.EndsHear.{cls_holds, cls_heard}
use Rattle.ncp_proof_monitor_host.proofs.ReportedSteps.{same_marks, echoes_then, rest_echoes, echo_reported, came_same, came_told, owed_reports, unclear_reports}
use Rattle.ncp_proof_monitor_host.proofs.Spoken.{Tells}
use Rattle.ncp_proof_monitor_allocation.proofs.TidyBooks.{Tidy}
use Rattle.ncp_proof_monitor_allocation.proofs.Plain.{Plain}
use Rattle.ncp_proof_monitor_allocation.proofs.PlainSteps.{plain_suspended, plain_left}
use Rattle.ncp_proof_monitor_allocation.proofs.CountedSteps.{HeardEnd, pair_marked}
use Rattle.ncp_proof_monitor_allocation.proofs.SaidCounted.{cls_ends}
use Rattle.ncp_proof_monitor_allocation.proofs.RequestsCounted.{cls_words, counted_closing, counted_unclear}
use Rattle.ncp_proof_monitor_allocation.proofs.CallsCounted.{proper_sex}
use Rattle.ncp_proof_monitor_replies.proofs.OwedMoves.{has_reply, owed_cls}
use Rattle.ncp_proof_monitor_replies.proofs.OwedUnclear.{owed_cls_unclear}
use Rattle.ncp_proof_monitor_replies.proofs.AfterCls.{RightCls, right_cls_is, cls_meets_so, their_cls_owed}

proper_same : (local remote : ℕ) → (is_of_sexes local remote || is_of_sexes remote local) ≡ is_proper (record { local = local; remote = remote })
proper_same local remote = grind arith

module _ (me n : ℕ) (m : Ends) (awaited : Bool) (w : List Command) (b : SeenTables) (good : EndsInvariant m) (proper : (pair : Pair) → is_some (get m pair) ≡ true → is_proper pair ≡ true) (tidy : Tidy b) (slots : List SentMessage) where
  abbrev hearing : ObservedFlow
  hearing = record { at = me; peer = n; sent = false }

  -- a CLS that is right: it is known, or the host makes its own
  module _ (my your : ℕ) where
    abbrev pair : Pair
    pair = record { local = your; remote = my }

    abbrev p : Sockets
    p = (your, my)

    abbrev act : Effect Heard
    act = hear (Cls my your) m

    abbrev closed : SeenTables
    closed = closes_side hearing b (index_with_sockets me n your my b.conns)

    abbrev over : SeenTables
    over = after_right_cls hearing slots (conn_of me n your my b.conns) Right closed

    unreplied : (made : List Command) → Closed (sends pair) pair (get m pair) act → made ≡ made_by_hearing (answer act) → has_reply made ≡ false
    unreplied made (Known e s) i = ap has_reply (i ∙ e)
    unreplied made (Matched e l s) i = ap has_reply (i ∙ e)

    closed_reports : is_proper pair ≡ true → left_acceptance hearing (Cls my your) (conn_of me n your my b.conns) ≡ Right → Tells me n m awaited w b
        → Tells me n (map_after m pair act) awaited (w ++ made_by_hearing (answer act)) over
    closed_reports right v tells = record {
      meets = cls_meets_so me n (map_after m pair act) (w ++ made_by_hearing (answer act)) false (conn_of me n your my b.conns) closed over is
          (cls_meets me n m w b (map_after m pair act) (Cls my your) p act may.0 may.1 (one_end m pair act) known tells.meets);
      held = same_held me n (map_after m pair act) closed over is.conns (λ on link z. is.known_facts on link ∙ z) (heard_held me n m (map_after m pair act) b closed pair (end_after (get m pair) act) (their_step Leave (seen_of me n b p)) (one_end m pair act) one may.0 tells.held);
      echoing = echo_reported me n awaited w (made_by_hearing (answer act)) b over (echoes_then me n b closed over (same_marks me n b closed one.known_facts) (is.echoes true, is.asks true)) (makes_no_eco (error_wanted 4 3 (Cls my your)) pair act w (cls_made pair (get m pair))) tells.echoing;
      came = came_same me n (map_after m pair act) (w ++ made_by_hearing (answer act)) (w ++ made_by_hearing (answer act)) closed over is.conns (λ link z. is.known_facts true link ∙ z) (λ x. refl)
          (came_told me n m (map_after m pair act) w (w ++ made_by_hearing (answer act)) b closed pair (end_after (get m pair) act) (one_end m pair act) (λ r. cls_holds pair (get m pair))
          (asks_as_before (error_wanted 4 3 (Cls my your)) pair act w (cls_made pair (get m pair)))
          (λ x z. suspended x (same x p) refl z) (λ link z. ap (list_any (is_topic me n (FactKind.LinkSuspended true link))) one.known_facts ∙ z) (λ x old g r s a z h. come x old g s a z h (same x p) refl) tells.came);
      counted = counted_closing me n m (map_after m pair act) w b over p act (tells.meets.unique p) may.1 may.0 (one_end m pair act) known heard is.conns is.keeps plain tells.meets.tally.pairs tells.counted;
      owed = their_cls_owed me n (map_after m pair act) (w ++ made_by_hearing (answer act)) (conn_of me n your my b.conns) closed over is
          (owed_cls me n m w b pair closed (made_by_hearing (answer act)) (unreplied (made_by_hearing (answer act)) known refl) tells.counted.plain tidy one tells.owed);
    }
      where
        is : RightCls me n false (conn_of me n your my b.conns) closed over
        is = right_cls_is me n slots false (conn_of me n your my b.conns) closed

        plain : Plain me n over
        plain =
            subst (λ (o : Option ConnState). Plain me n (after_right_cls hearing slots o Right closed)) (sym (conn_first me n your my b.conns))
            (plain_left me n false slots p b (tells.meets.unique p) tells.counted.plain)

        may : (suspended_of me n b p ≡ false) × (their_legal Leave (seen_of me n b p) ≡ true)
        may = their_cls me n m w b (Cls my your) p v

        heard : HeardEnd Leave (get m pair) (end_after (get m pair) act)
        heard = cls_ends pair (sends pair) (get m pair) right (may_be_heard me n m w b p Leave may.0 may.1 tells.meets)

        known : Closed (sends pair) pair (get m pair) act
        known = cls_taken pair (sends pair) (get m pair) right (may_be_heard me n m w b p Leave may.0 may.1 tells.meets)

        one : OneSeen me n b closed p (their_step Leave (seen_of me n b p))
        one = closed_seen me n false p b (tells.meets.unique p)

        suspended : (x : Sockets) (y : Bool) → same x p ≡ y → suspended_of me n b x ≡ true → suspended_of me n closed x ≡ true
        suspended x true d z = let nay : true ≡ false = sym z ∙ ap (suspended_of me n b) (same_is x p d) ∙ may.0 in absurd (cc nay)
        suspended x false d z = ap is_suspended (one.others x d) ∙ z

        -- what the host left too is over, and holds nothing
        unleft : (x : Sockets) (old : Endpoint) (conn : ConnState) → get m (pair_at x) ≡ Some old → 0 < length old.stored → asks_in (about x (all_says w)) ≡ false → suspended_of me n b x ≡ false → conn_seen me n b x ≡ Some conn → conn.host_left ≡ false
        unleft x old conn g s a z f = go conn.host_left refl
          where
            agrees : Agrees (about x (all_says w)) (Some (of_end (sends (pair_at x)) old)) (seen (Some conn))
            agrees =
                subst (λ (y : Option ConnState). Agrees (about x (all_says w)) (Some (of_end (sends (pair_at x)) old)) (seen y)) f
                (subst (λ (y : Option Endpoint). Agrees (about x (all_says w)) (kept (sends (pair_at x)) y) (seen_of me n b x)) g (tells.meets.tally.pairs x z))

            go : (y : Bool) → conn.host_left ≡ y → conn.host_left ≡ false
            go false l = l
            go true l =
                let is : old.left ≡ true = left_stays (about x (all_says w)) (of_end (sends (pair_at x)) old) (seen (Some conn)) a l agrees in
                let no : old.left ≡ false = holds_unleft (pair_at x) old (subst (λ (y : Option Endpoint). SoundAt (pair_at x) y) g (good.sound (pair_at x))) s in
                let nay : true ≡ false = sym is ∙ no in absurd (cc nay)

        come : (x : Sockets) (old : Endpoint) → get m (pair_at x) ≡ Some old → 0 < length old.stored → asks_in (about x (all_says w)) ≡ false → suspended_of me n b x ≡ false → has_come (conn_seen me n b x) ≡ true → (y : Bool) → same x p ≡ y
            → (suspended_of me n closed x ≡ true) ⊎ (has_come (conn_seen me n closed x) ≡ true)
        come x old g s a z h false d = inr (ap has_come (one.others x d) ∙ h)
        come x old g s a z h true d =
            let is : x ≡ p = same_is x p d in
            inr (ap (λ (y : Sockets). has_come (conn_seen me n closed y)) is ∙ there (conn_seen me n b p) refl (sym (ap (λ (y : Sockets). has_come (conn_seen me n b y)) is) ∙ h) (λ conn f. unleft x old conn g s a z (ap (conn_seen me n b) is ∙ f)))
          where
            there : (o : Option ConnState) → conn_seen me n b p ≡ o → has_come o ≡ true → ((conn : ConnState) → o ≡ Some conn → conn.host_left ≡ false) → has_come (conn_seen me n closed p) ≡ true
            there None f h u = absurd (cc h)
            there (Some conn) f h u =
                ap has_come (leaves_at hearing your my b (index_with_sockets me n your my b.conns) refl (tells.meets.unique p))
                ∙ ap (λ (o : Option ConnState). has_come (after_left false o)) (conn_first me n your my b.conns ∙ f)
                ∙ ap (λ (y : Bool). has_come (if y && true then None else Some (record conn { peer_left = true }))) (u conn refl)
                ∙ h

  pub cls_reported : (my your : ℕ) (v : Acceptance) → cls_acceptance hearing (Cls my your) your my b ≡ v → (after_right_cls hearing slots (conn_of me n your my b.conns) v (after_cls hearing (Cls my your) your my v b)).full ≡ false → Tells me n m awaited w b
      → Tells me n (map_after m (record { local = your; remote = my }) (hear (Cls my your) m)) awaited (w ++ made_by_hearing (answer (hear (Cls my your) m)))
      (after_right_cls hearing slots (conn_of me n your my b.conns) v (after_cls hearing (Cls my your) your my v b))
  cls_reported my your v e room tells = by_sex (is_of_sexes your my || is_of_sexes my your) refl v e room
    where
      c : Command
      c = Cls my your

      its : Pair
      its = record { local = your; remote = my }

      Told : Acceptance → Type 0
      Told v = Tells me n (map_after m its (hear c m)) awaited (w ++ made_by_hearing (answer (hear c m))) (after_right_cls hearing slots (conn_of me n your my b.conns) v (after_cls hearing c your my v b))

      acceptance : Bool → Acceptance
      acceptance x = if x then left_acceptance hearing c (conn_of me n your my b.conns) else Refused (Rule.Sex c)

      unclear : (wrong : Option Rule) → (after_cls hearing c your my (Unclear wrong) b).full ≡ false → Told (Unclear wrong)
      unclear wrong f =
          let mid = suspended_pair me n your my b in
          let mid_room = due_room mid (record { at = me; peer = n; host = true; wanted = error_wanted 4 3 c; mandatory = false }) f in
          unclear_reports me n m awaited w b mid its (hear c m) (error_wanted 4 3 c) (cls_made its (get m its)) (pair_suspended me n (your, my) b mid_room) (pair_linked me n (your, my) b mid_room tells.meets.linked)
          (rest_echoes me n (your, my) b) (λ conn link s l. its_link_suspended me n (your, my) b conn link mid_room s l)
          (λ l s o. inl (cls_heard its (get m its) (sends its) l o)) (λ r. cls_holds its (get m its)) refl
          (counted_unclear me n m (map_after m its (hear c m)) w b mid (your, my) (end_after (get m its) (hear c m)) (made_by_hearing (answer (hear c m))) (λ known. Unit {0})
          (pair_suspended me n (your, my) b mid_room) (one_end m its (hear c m)) (cls_words its (get m its)) (λ known too. tt)
          (λ there. proper_sex its (proper its there)) (λ calm l g. pair_marked me n (your, my) b mid_room l g)
          (plain_suspended me n (your, my) b (pair_suspended me n (your, my) b mid_room).room mid_room tells.counted.plain) tells.meets.tally.pairs tells.counted)
          (owed_cls_unclear me n m w b its (error_wanted 4 3 c) refl (cls_made its (get m its)) f tells.owed) f tells

      -- it names no such sockets
      refused : (wrong : Rule) → is_proper its ≡ false → (after_cls hearing c your my (Refused wrong) b).full ≡ false → Told (Refused wrong)
      refused wrong k f =
          subst (λ (x : Bool). Tells me n (map_after m its (if not x then errs wrong_parameters c else hear_cls_at its (get m its))) awaited (w ++ made_by_hearing (answer (if not x then errs wrong_parameters c else hear_cls_at its (get m its)))) (owes hearing (error_wanted 3 3 c) true b)) (sym k)
          (owed_reports me n m awaited w b (error_of 3 c) (error_wanted 3 3 c) true (refusal_fits c) refl f tells)

      left : (v : Acceptance) → is_proper its ≡ true → left_acceptance hearing c (conn_of me n your my b.conns) ≡ v → (after_right_cls hearing slots (conn_of me n your my b.conns) v (after_cls hearing c your my v b)).full ≡ false → Told v
      left Right k e f = closed_reports my your k e tells
      left (Unclear wrong) k e f = unclear wrong f
      left (Refused wrong) k e f = absurd (never (conn_of me n your my b.conns) e)
        where
          never : (o : Option ConnState) → left_acceptance hearing c o ≡ Refused wrong → ⊥
          never None e = cc e
          never (Some conn) e = by conn.suspended conn.peer_left e
            where
              by : (r l : Bool) → (if r then Unclear None else if l then Unclear (Some (Rule.ClsAgain c conn.since)) else Right) ≡ Refused wrong → ⊥
              by true l e = cc e
              by false true e = cc e
              by false false e = cc e

      by_sex : (x : Bool) → (is_of_sexes your my || is_of_sexes my your) ≡ x → (v : Acceptance) → cls_acceptance hearing c your my b ≡ v → (after_right_cls hearing slots (conn_of me n your my b.conns) v (after_cls hearing c your my v b)).full ≡ false → Told v
      by_sex true s v e f = left v (sym (proper_same your my) ∙ s) (sym (ap acceptance s) ∙ e) f
      by_sex false s Right e f = let nay : Refused (Rule.Sex c) ≡ Right = sym (ap acceptance s) ∙ e in absurd (cc nay)
      by_sex false s (Unclear wrong) e f = unclear wrong f
      by_sex false s (Refused wrong) e f = refused wrong (sym (proper_same your my) ∙ s) f
