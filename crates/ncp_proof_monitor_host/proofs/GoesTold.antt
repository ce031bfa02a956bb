-- A command that the host sends breaks no rule, and the observed state still matches the host's. If no
-- command is queued, the host has left none out.
use Rattle.std.proofs.Common.{◌≡◌, ℕ, ◌==◌, Bool, true, false, not, ◌&&◌, ◌||◌, if◌then◌else◌, List, [], ◌∷◌, ◌++◌, Option, None, Some, refl, sym, ap, ◌∙◌}
use Rattle.std.specs.FinMap.{get}
use Rattle.std.proofs.lemmas.Bool.{and_parts}
use Rattle.ncp_wire.specs.declared.command.Command.{Command}
use Rattle.ncp_wire.specs.declared.command.Command.TheVariants.{Nop, Rts, Str, Cls, Gvb, Ret, Inr, Ins, Eco, Erp, Err, Rst, Rrp}
use Rattle.ncp_slot.specs.Slots.{LinkSlots}
use Rattle.ncp_model.specs.declared.pair.Pair.{Pair}
use Rattle.ncp_model.specs.Ends.{Ends, link_of}
use Rattle.ncp_proof_machine.proofs.EndsGood.{EndsInvariant}
use Rattle.ncp_proof_progress.specs.Idle.{LeavingAt}
use Rattle.ncp_peer.specs.Soundness.{Agree}
use Rattle.ncp_monitor.specs.declared.finding.Rule.{Rule}
use Rattle.ncp_interface.specs.declared.sent_message.SentMessage.{SentMessage}
use Rattle.ncp_monitor.specs.declared.conn_state.Fact.{Fact}
use Rattle.ncp_interface.specs.declared.request.Request.{Request}
use Rattle.ncp_interface.specs.declared.request.Request.TheVariants.{Link, Size}
use Rattle.ncp_monitor.specs.declared.conn_state.FactKind.{FactKind}
use Rattle.ncp_monitor.specs.declared.observed_flow.ObservedFlow.{ObservedFlow}
use Rattle.ncp_monitor.specs.declared.observed_flow.Acceptance.TheVariants.{Refused}
use Rattle.ncp_monitor.specs.ConnStates.{SeenTables, conn_of, same_topic, is_topic, is_marked}
use Rattle.ncp_interface.specs.Sockets.{is_senders, is_of_sexes}
use Rattle.ncp_monitor.specs.Allocation.{number_rules}
use Rattle.ncp_monitor.specs.Requests.{broken, range_rule, left_acceptance, request_acceptance, text_out_rule, cls_rule}
use Rattle.ncp_monitor.specs.Texts.{is_error_admitted}
use Rattle.ncp_monitor.specs.Speaking.{reply_rule, command_rule, tables_after_command, reply_left_out, cls_left_out, is_admission_of, is_admission, after_all_said}
use Rattle.ncp_monitor.proofs.Shapes.{Say, Ask, Leave}
use Rattle.ncp_monitor.proofs.LinkOrder.{Sockets, about}
use Rattle.ncp_monitor.proofs.Seeing.{is_of, number_in}
use Rattle.ncp_proof_monitor_allocation.proofs.OwnMoves.{says_of, all_says}
use Rattle.ncp_proof_monitor_allocation.proofs.Changed.{pair_at}
use Rattle.ncp_proof_monitor_allocation.proofs.Meets.{Meets}
use Rattle.ncp_proof_monitor_allocation.proofs.TextErrors.{is_text_error}
use Rattle.ncp_proof_monitor_allocation.proofs.CallsCounted.{proper_sex}
use Rattle.ncp_proof_monitor_replies.specs.Owed.{Gives}
use Rattle.ncp_proof_monitor_replies.proofs.OwedSteps.{own_reply_right, owed_all_said}
use Rattle.ncp_proof_monitor_allocation.proofs.Counted.{counted_unsaid}
use Rattle.ncp_proof_monitor_allocation.proofs.PlainSteps.{kept_facts, said_links, plain_all_said}
use Rattle.ncp_proof_monitor_allocation.proofs.Echoing.{Echoing, eco_right, eco_goes}
use Rattle.ncp_proof_monitor_replies.proofs.Went.{AskOut, AskHidden, AskRight, ask_out, LeaveOut, LeaveHidden, LeaveRight, leave_out, MayGo, silent_goes, goes}
use Rattle.ncp_proof_monitor_replies.proofs.GoesCounted.{goes_counted}
use Rattle.ncp_proof_monitor_replies.proofs.AllGo.{none_left_out, all_said_meets}
use Rattle.ncp_proof_monitor_allocation.proofs.OtherFacts.{others_echo}
use Rattle.ncp_proof_monitor_allocation.proofs.TidyBooks.{Tidy}
use Rattle.ncp_proof_monitor_allocation.proofs.Proper.{has_right_parts, ProperEnds, rts_range, str_range}
use Rattle.ncp_proof_monitor_host.proofs.BusySlots.{BusySlots}
use Rattle.ncp_proof_monitor_replies.proofs.TablesGo.{tables_go, goes_held, goes_came}
use Rattle.ncp_proof_monitor_host.proofs.ReportedSteps.{echo_reported, came_same}
use Rattle.ncp_proof_monitor_allocation.proofs.Came.{asks_in}
use Rattle.ncp_proof_monitor_allocation.proofs.SameShapes.{shapes_meets, shapes_held, shapes_came}
use Rattle.ncp_proof_monitor_replies.proofs.OwnLinks.{NamedOut, named_out}
use Rattle.ncp_proof_monitor_host.proofs.Closings.{no_text_out, no_cls_left}
use Rattle.ncp_proof_monitor_host.proofs.Spoken.{Tells}
use Rattle.ncp_proof_monitor_host.proofs.Carries.{ShowsBusy}

module _ (me n : ℕ) (m : Ends) where
  abbrev saying : ObservedFlow
  saying = record { at = me; peer = n; sent = true }

  -- ---- by what is seen

  right_asked : (c : Command) (w : List Command) (p : Sockets) (request : Request) (right : Bool) (b : SeenTables) → right ≡ true → says_of c ≡ (p, Ask (number_in request)) ∷ []
      → is_of (is_senders p.0) true request ≡ true → range_rule c request ≡ None → Meets me n m (c ∷ w) b → broken (request_acceptance saying c p.0 p.1 right request b) ≡ None
  right_asked c w p request false b e said sex range meets = absurd (cc e)
  right_asked c w p request true b e said sex range meets = go (ask_out me n m c w p request b said sex range meets)
    where
      go : AskOut me n m c p request b → broken (request_acceptance saying c p.0 p.1 true request b) ≡ None
      go (AskHidden h is) = ap broken is
      go (AskRight x y is) = ap broken is

  right_left : (c : Command) (w : List Command) (p : Sockets) (kept : List SentMessage) (b : SeenTables) → says_of c ≡ (p, Leave) ∷ [] → text_out_rule saying c kept b (conn_of me n p.0 p.1 b.conns) ≡ None
      → Meets me n m (c ∷ w) b → cls_rule saying c p.0 p.1 kept b (left_acceptance saying c (conn_of me n p.0 p.1 b.conns)) ≡ None
  right_left c w p kept b said out meets = go (leave_out me n m c w p b said meets)
    where
      go : LeaveOut me n m c p b → cls_rule saying c p.0 p.1 kept b (left_acceptance saying c (conn_of me n p.0 p.1 b.conns)) ≡ None
      go (LeaveHidden r is) = ap (cls_rule saying c p.0 p.1 kept b) is
      go (LeaveRight r is) = ap (cls_rule saying c p.0 p.1 kept b) is ∙ out

  -- an own ERR is admitted if it is about a text, and only then
  error_may : (code : ℕ) (shown : List ℕ) (awaited : Bool) (w : List Command) (b : SeenTables) → Tells me n m awaited (Err code shown ∷ w) b → is_error_admitted saying code shown b ≡ is_text_error (Err code shown)
  error_may code shown awaited w b t = go (is_text_error (Err code shown)) refl
    where
      go : (x : Bool) → is_text_error (Err code shown) ≡ x → is_error_admitted saying code shown b ≡ x
      go true e = ap (λ (x : Bool). x && is_marked me n (FactKind.Admits true shown) b) e ∙ t.counted.admitted.0 e
      go false e = ap (λ (x : Bool). x && is_marked me n (FactKind.Admits true shown) b) e

  echo_goes : (c : Command) (w : List Command) (awaited : Bool) (kept : List SentMessage) (b : SeenTables) → (tables_after_command saying kept c b).full ≡ false → Echoing me n awaited (c ∷ w) b → Echoing me n awaited w (tables_after_command saying kept c b)
  echo_goes (Eco byte) w awaited kept b room e = eco_goes me n byte awaited w b room e
  echo_goes c w awaited kept b room e = others_echo me n awaited kept c w b refl e

-- ---- a command that names no link is sent

module _ (me n : ℕ) (m : Ends) (awaited : Bool) (slots : LinkSlots) (w : List Command) (kept : List SentMessage) (b : SeenTables) (good : EndsInvariant m) (proper : ProperEnds m) (busy : BusySlots m slots) (shows : ShowsBusy me n kept slots) (tidy : Tidy b) where
  abbrev us_saying : ObservedFlow
  us_saying = record { at = me; peer = n; sent = true }

  pub unlinked_may : (c : Command) → link_of c ≡ None → has_right_parts c ≡ true → Tells me n m awaited (c ∷ w) b → MayGo me n m kept b c
  unlinked_may (Rts receive send link) l p t = rts_range receive send link p
  unlinked_may (Str send receive size) l p t = str_range send receive size p
  unlinked_may (Cls my your) l p t = (p, no_text_out me n m slots kept b w good.sound t.held tidy my your t.meets busy shows)
  unlinked_may (Eco byte) l p t = eco_right me n byte awaited w b t.echoing
  unlinked_may (Erp byte) l p t = tt
  unlinked_may (Err code shown) l p t = error_may me n m code shown awaited w b t
  unlinked_may Nop l p t = tt
  unlinked_may Rst l p t = tt
  unlinked_may Rrp l p t = tt
  unlinked_may (Command.All link messages bits) l p t = absurd (cc l)
  unlinked_may (Gvb link fm fb) l p t = absurd (cc l)
  unlinked_may (Ret link messages bits) l p t = absurd (cc l)
  unlinked_may (Inr link) l p t = absurd (cc l)
  unlinked_may (Ins link) l p t = absurd (cc l)

  pub unlinked_right : (c : Command) → link_of c ≡ None → has_right_parts c ≡ true → Tells me n m awaited (c ∷ w) b → command_rule us_saying kept c b ≡ None
  unlinked_right (Rts receive send link) l p t =
      let k = rts_range receive send link p in
      right_asked me n m (Rts receive send link) w (receive, send) (Link link) (is_of_sexes receive send) b k.0 refl (and_parts (not (is_senders receive)) (is_senders send) k.0).0 k.1 t.meets
  unlinked_right (Str send receive size) l p t =
      let k = str_range send receive size p in
      right_asked me n m (Str send receive size) w (send, receive) (Size size) (is_of_sexes receive send) b k.0 refl (and_parts (not (is_senders receive)) (is_senders send) k.0).1 k.1 t.meets
  unlinked_right (Cls my your) l p t = by (is_of_sexes my your || is_of_sexes your my) p
    where
      by : (x : Bool) → x ≡ true → cls_rule us_saying (Cls my your) my your kept b (if x then left_acceptance us_saying (Cls my your) (conn_of me n my your b.conns) else Refused (Rule.Sex (Cls my your))) ≡ None
      by true e = right_left me n m (Cls my your) w (my, your) kept b refl (no_text_out me n m slots kept b w good.sound t.held tidy my your t.meets busy shows) t.meets
      by false e = absurd (cc e)
  unlinked_right (Eco byte) l p t = eco_right me n byte awaited w b t.echoing
  unlinked_right (Erp byte) l p t = own_reply_right me n m (Erp byte) w b (Rule.ErpUnasked byte) refl t.owed
  unlinked_right (Err code shown) l p t = by (is_text_error (Err code shown)) refl (error_may me n m code shown awaited w b t)
    where
      by : (x : Bool) → is_text_error (Err code shown) ≡ x → is_error_admitted us_saying code shown b ≡ is_text_error (Err code shown)
          → (if is_error_admitted us_saying code shown b then None else reply_rule us_saying (Err code shown) (Rule.ErrUnjust code shown) b) ≡ None
      by true e k = ap (λ (y : Bool). if y then None else reply_rule us_saying (Err code shown) (Rule.ErrUnjust code shown) b) (k ∙ e)
      by false e k =
          ap (λ (y : Bool). if y then None else reply_rule us_saying (Err code shown) (Rule.ErrUnjust code shown) b) (k ∙ e)
          ∙ own_reply_right me n m (Err code shown) w b (Rule.ErrUnjust code shown) (ap (λ (y : Bool). if y then [] else Gives (Err code shown) ∷ []) e) t.owed
  unlinked_right Nop l p t = refl
  unlinked_right Rst l p t = refl
  unlinked_right Rrp l p t = refl
  unlinked_right (Command.All link messages bits) l p t = absurd (cc l)
  unlinked_right (Gvb link fm fb) l p t = absurd (cc l)
  unlinked_right (Ret link messages bits) l p t = absurd (cc l)
  unlinked_right (Inr link) l p t = absurd (cc l)
  unlinked_right (Ins link) l p t = absurd (cc l)

  pub unlinked_numbers : (c : Command) → link_of c ≡ None → number_rules us_saying c b ≡ []
  unlinked_numbers (Ret link messages bits) l = absurd (cc l)
  unlinked_numbers c l = refl

  pub unlinked_reports : (c : Command) → link_of c ≡ None → has_right_parts c ≡ true → (tables_after_command us_saying kept c b).full ≡ false → Tells me n m awaited (c ∷ w) b → Tells me n m awaited w (tables_after_command us_saying kept c b)
  unlinked_reports c l p room t =
      let may = unlinked_may c l p t in
      let went = goes me n m c w kept b l may t.counted.plain room t.meets t.owed in
      let now = tables_after_command us_saying kept c b in
      let conn_tables = tables_go me n m c w kept b l p room t.meets in
      record {
        meets = went.meets;
        held = goes_held me n m c b now conn_tables t.held;
        echoing = echo_goes me n m c w awaited kept b room t.echoing;
        came = goes_came me n m c w b now good.sound conn_tables t.meets t.came;
        counted = goes_counted me n m (λ u k. proper_sex (pair_at u) (proper (pair_at u) k)) c w kept b l may room t.meets t.counted;
        owed = went.owed;
      }

  -- ---- one that names a link

  named : (c : Command) (link : ℕ) → link_of c ≡ Some link → Tells me n m awaited (c ∷ w) b → NamedOut me n m kept c w b
  named c link l t = named_out me n m kept w b tidy t.meets.unique t.meets.linked c link l t.counted t.owed

  silent_link : (c : Command) (link : ℕ) → link_of c ≡ Some link → says_of c ≡ []
  silent_link (Rts receive send on) link l = absurd (cc l)
  silent_link (Str send receive size) link l = absurd (cc l)
  silent_link (Cls my your) link l = absurd (cc l)
  silent_link c link l = refl

  named_reports : (c : Command) (link : ℕ) → link_of c ≡ Some link → (tables_after_command us_saying kept c b).full ≡ false → Tells me n m awaited (c ∷ w) b → Tells me n m awaited w (tables_after_command us_saying kept c b)
  named_reports c link l room t =
      let now = tables_after_command us_saying kept c b in
      let after = (named c link l t).later room in
      let silent = silent_link c link l in
      record {
        meets = shapes_meets me n m w b now after.same (silent_goes me n m c w b silent t.meets);
        held = shapes_held me n m b now after.same t.held;
        echoing = echo_goes me n m c w awaited kept b room t.echoing;
        came = shapes_came me n m w b now after.same
            (came_same me n m (c ∷ w) w b b refl (λ on z. z) (λ v. sym (ap (λ (x : List (Sockets × Say)). asks_in (about v (x ++ all_says w))) silent)) t.came);
        counted = after.counted;
        owed = after.owed;
      }

  -- ---- each command

  pub says_right : (c : Command) → has_right_parts c ≡ true → Tells me n m awaited (c ∷ w) b → command_rule us_saying kept c b ≡ None
  says_right c p t = go (link_of c) refl
    where
      go : (o : Option ℕ) → link_of c ≡ o → command_rule us_saying kept c b ≡ None
      go None l = unlinked_right c l p t
      go (Some link) l = (named c link l t).rule

  pub says_numbers : (c : Command) → Tells me n m awaited (c ∷ w) b → number_rules us_saying c b ≡ []
  says_numbers c t = go (link_of c) refl
    where
      go : (o : Option ℕ) → link_of c ≡ o → number_rules us_saying c b ≡ []
      go None l = unlinked_numbers c l
      go (Some link) l = (named c link l t).numbers

  pub says_reports : (c : Command) → has_right_parts c ≡ true → (tables_after_command us_saying kept c b).full ≡ false → Tells me n m awaited (c ∷ w) b → Tells me n m awaited w (tables_after_command us_saying kept c b)
  says_reports c p room t = go (link_of c) refl
    where
      go : (o : Option ℕ) → link_of c ≡ o → Tells me n m awaited w (tables_after_command us_saying kept c b)
      go None l = unlinked_reports c l p room t
      go (Some link) l = named_reports c link l room t

-- ---- nothing waits

-- known facts remain, except for the host's ERRs
said_topic : (me n : ℕ) (what : FactKind) (b : SeenTables) → ((x : FactKind) → same_topic x what ≡ true → is_admission_of x ≡ false) → is_marked me n what (after_all_said me n b) ≡ is_marked me n what b
said_topic me n what b f = kept_facts (is_topic me n what) (λ known_fact. not (is_admission me n known_fact)) b.known_facts stays
  where
    stays : (known_fact : Fact) → is_topic me n what known_fact ≡ true → not (is_admission me n known_fact) ≡ true
    stays known_fact e =
        ap (λ (x : Bool). not ((known_fact.at == me && known_fact.peer == n) && x)) (f known_fact.fact_kind (and_parts (known_fact.at == me && known_fact.peer == n) (same_topic known_fact.fact_kind what) e).1) ∙ go (known_fact.at == me && known_fact.peer == n)
      where
        go : (x : Bool) → not (x && false) ≡ true
        go true = refl
        go false = refl

no_admission : (host : Bool) (x : FactKind) → same_topic x (FactKind.EchoesRest host) ≡ true → is_admission_of x ≡ false
no_admission host (FactKind.LinkSuspended on link) e = refl
no_admission host (FactKind.EchoesRest h) e = refl
no_admission host (FactKind.Asks h) e = refl
no_admission host (FactKind.Admits h bytes) e = absurd (cc e)

no_admission_too : (host : Bool) (x : FactKind) → same_topic x (FactKind.Asks host) ≡ true → is_admission_of x ≡ false
no_admission_too host (FactKind.LinkSuspended on link) e = refl
no_admission_too host (FactKind.EchoesRest h) e = refl
no_admission_too host (FactKind.Asks h) e = refl
no_admission_too host (FactKind.Admits h bytes) e = absurd (cc e)

pub none_left_reply : (me n : ℕ) (m : Ends) (awaited : Bool) (b : SeenTables) → Tells me n m awaited [] b → reply_left_out me n b ≡ None
none_left_reply me n m awaited b t = none_left_out me n m b t.owed

pub none_left_cls : (me n : ℕ) (m : Ends) (awaited : Bool) (slots : LinkSlots) (kept : List SentMessage) (b : SeenTables) → EndsInvariant m → ProperEnds m → Agree m slots → ((q : Pair) → LeavingAt q (get m q)) → ShowsBusy me n kept slots
    → Tells me n m awaited [] b → cls_left_out me n kept b ≡ None
none_left_cls me n m awaited slots kept b good propers agree leaving shows t = no_cls_left me n m slots kept b good.sound propers agree leaving shows t.meets t.came

pub all_said_reports : (me n : ℕ) (m : Ends) (awaited : Bool) (b : SeenTables) → Tells me n m awaited [] b → Tells me n m awaited [] (after_all_said me n b)
all_said_reports me n m awaited b t = record {
  meets = all_said_meets me n m b t.meets;
  held = λ u e g r s h. said_links me n b false e.link ∙ t.held u e g r s h;
  echoing = echo_reported me n awaited [] [] b (after_all_said me n b) (said_topic me n (FactKind.EchoesRest true) b (no_admission true), said_topic me n (FactKind.Asks true) b (no_admission_too true)) refl t.echoing;
  came = came_same me n m [] [] b (after_all_said me n b) refl (λ link z. said_links me n b true link ∙ z) (λ v. refl) t.came;
  counted = counted_unsaid me n m b (after_all_said me n b) refl (λ host link k. said_links me n b host link ∙ k) (plain_all_said me n b t.counted.plain) t.counted;
  owed = owed_all_said me n m b;
}
