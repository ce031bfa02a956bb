-- A command of the other that names a link comes to the host: all that is known of what was said stays known, where what is
-- counted and what is owed does.
use Rattle.std.proofs.Common.{◌≡◌, ℕ, Bool, true, false, List, [], ◌∷◌, ◌++◌, Option, None, Some, refl, sym, ap, ◌∙◌, subst}
use Rattle.std.proofs.lemmas.List.{append-nil}
use Rattle.std.specs.FinMap.{entries, get}
use Rattle.ncp_wire.specs.declared.command.Command.{Command}
use Rattle.ncp_wire.specs.declared.command.Command.TheVariants.{All, Gvb, Ret, Inr, Ins}
use Rattle.ncp_model.specs.declared.pair.Pair.{Pair}
use Rattle.ncp_model.specs.declared.outcomes.Heard.{Heard}
use Rattle.ncp_model.specs.Endpoint.{Endpoint}
use Rattle.ncp_model.specs.Effect.{Effect, Stays, answer, end_after, error_of, made_by_hearing, not_connected}
use Rattle.ncp_model.specs.Commands.{hear_all, hear_gvb, hear_ret, hear_inr, hear_ins}
use Rattle.ncp_model.specs.Ends.{Ends, first_by, hears_link, uses_link, sender_on, receiver_on, pair_of, end_of, map_after, map_after_at}
use Rattle.ncp_model.specs.EndpointEvents.{EndpointEvent, happens}
use Rattle.ncp_model.proofs.LinksDemux.{led}
use Rattle.ncp_proof_machine.proofs.EndsGood.{EndsInvariant}
use Rattle.ncp_interface.specs.declared.sent_message.SentMessage.{SentMessage}
use Rattle.ncp_monitor.specs.declared.link_target.ReceiveLink.{ReceiveLink}
use Rattle.ncp_monitor.specs.ConnStates.{SeenTables}
use Rattle.ncp_monitor.specs.Allocation.{target_on, after_link}
use Rattle.ncp_monitor.proofs.Shapes.{Say}
use Rattle.ncp_monitor.proofs.LinkOrder.{Sockets, about}
use Rattle.ncp_proof_monitor_allocation.proofs.OwnMoves.{all_says, is_of_host, moves}
use Rattle.ncp_proof_monitor_allocation.proofs.Changed.{OneEnd}
use Rattle.ncp_proof_monitor_allocation.proofs.Comes.{says_append, host_meets, unsaid_meets}
use Rattle.ncp_proof_monitor_allocation.proofs.HeldLinks.{host_held}
use Rattle.ncp_proof_monitor_allocation.proofs.Echoing.{others_wait}
use Rattle.ncp_proof_monitor_allocation.proofs.Came.{asks_in}
use Rattle.ncp_proof_monitor_allocation.proofs.OwnCame.{is_text_coming, own_came}
use Rattle.ncp_proof_monitor_host.proofs.OwnReports.{FreeLink, is_asking, unasked_free, none_ecos, none_echoed}
use Rattle.ncp_proof_monitor_allocation.proofs.RequestsCome.{one_end}
use Rattle.ncp_proof_monitor_host.proofs.Spoken.{Tells}
use Rattle.ncp_proof_monitor_host.proofs.ReportedSteps.{came_same}
use Rattle.ncp_proof_monitor_host.proofs.LedReported.{Beside, led_beside}
use Rattle.ncp_proof_monitor_allocation.proofs.LinksDid.{ends_after, made_of}
use Rattle.ncp_proof_monitor_replies.proofs.TheirLeads.{Both}

module _ (me n : ℕ) (m : Ends) (awaited : Bool) (w : List Command) (b : SeenTables) (good : EndsInvariant m) (t : Beside me n m awaited w b) where
  pub own_beside : (pair : Pair) (what : EndpointEvent) (now : Ends) → is_of_host what ≡ true → is_text_coming what ≡ false → OneEnd m now pair (happens pair what (get m pair)).after → FreeLink what m pair
      → Beside me n now awaited (w ++ (happens pair what (get m pair)).made) b
  own_beside pair what now h x one free =
      let cs = (happens pair what (get m pair)).made in
      let after = (happens pair what (get m pair)).after in
      let moved = moves pair what (get m pair) h (good.sound pair) in
      record {
        meets = host_meets me n m w b now pair after cs one moved free t.meets;
        held = host_held me n m now b pair after cs one moved t.held;
        echoing = others_wait me n awaited w cs b (none_ecos cs (none_echoed pair what (get m pair) h)) t.echoing;
        came = own_came me n pair what m now w b good.sound h x one t.came;
      }

  -- an ERR waits
  error_beside : (code : ℕ) (c : Command) → Beside me n m awaited (w ++ error_of code c ∷ []) b
  error_beside code c = record {
    meets = unsaid_meets me n m w b (error_of code c ∷ []) refl t.meets;
    held = t.held;
    echoing = others_wait me n awaited w (error_of code c ∷ []) b refl t.echoing;
    came = came_same me n m w (w ++ error_of code c ∷ []) b b refl (λ link z. z) (λ v. ap (λ (x : List (Sockets × Say)). asks_in (about v x)) (says_append w (error_of code c ∷ []) ∙ append-nil (all_says w))) t.came;
  }

  led_to : (pair : Pair) (what : EndpointEvent) (act : Option Endpoint → Effect Heard) (e : Endpoint) → is_of_host what ≡ true → is_text_coming what ≡ false → is_asking what ≡ false
      → ((o : Option Endpoint) → (happens pair what o).after ≡ end_after o (act o)) → ((o : Option Endpoint) → (happens pair what o).made ≡ made_by_hearing (answer (act o))) → get m pair ≡ Some e
      → Beside me n (map_after m pair (act (Some e))) awaited (w ++ made_by_hearing (answer (act (Some e)))) b
  led_to pair what act e h x a after made g =
      subst (λ (cs : List Command). Beside me n (map_after m pair (act (Some e))) awaited (w ++ cs) b) (made (get m pair) ∙ ap (λ (o : Option Endpoint). made_by_hearing (answer (act o))) g)
      (own_beside pair what (map_after m pair (act (Some e))) h x
      (subst (OneEnd m (map_after m pair (act (Some e))) pair) (sym (after (get m pair) ∙ ap (λ (o : Option Endpoint). end_after (get m pair) (act o)) g)) (one_end m pair (act (Some e))))
      (unasked_free what m pair h a))

  -- the link leads to an end, or the ERR says that it is not connected
  pub link_beside : (c : Command) (what : EndpointEvent) (act : Option Endpoint → Effect Heard) → is_of_host what ≡ true → is_text_coming what ≡ false → is_asking what ≡ false
      → ((pair : Pair) (o : Option Endpoint) → (happens pair what o).after ≡ end_after o (act o)) → ((pair : Pair) (o : Option Endpoint) → (happens pair what o).made ≡ made_by_hearing (answer (act o)))
      → act None ≡ Stays (Heard.Reply (error_of not_connected c)) → (o : Option (Pair × Endpoint)) → ((q : Pair × Endpoint) → o ≡ Some q → get m q.0 ≡ Some q.1)
      → Beside me n (map_after_at m (pair_of o) (act (end_of o))) awaited (w ++ made_by_hearing (answer (act (end_of o)))) b
  link_beside c what act h x a after made none None there = subst (λ (y : Effect Heard). Beside me n m awaited (w ++ made_by_hearing (answer y)) b) (sym none) (error_beside not_connected c)
  link_beside c what act h x a after made none (Some q) there = led_to q.0 what act q.1 h x a (after q.0) (made q.0) (there q refl)

there_is : (m : Ends) (test : Pair × Endpoint → Bool) (o : Option (Pair × Endpoint)) (q : Pair × Endpoint) → first_by test (entries m) ≡ o → o ≡ Some q → get m q.0 ≡ Some q.1
there_is m test o q e f = (led test m q.0 (ap pair_of (e ∙ f))).0 ∙ ap end_of (e ∙ f)

-- ---- each command, with what is counted and what is owed after it

module _ (me n : ℕ) (m : Ends) (awaited : Bool) (w : List Command) (b : SeenTables) (kept : List SentMessage) (good : EndsInvariant m) (t : Tells me n m awaited w b) where
  abbrev receive_link_of : Bool → ℕ → ReceiveLink
  receive_link_of host link = record { host = host; link = link }

  tables_then : (c : Command) (receive_link : ReceiveLink) → (after_link (record { at = me; peer = n; sent = false }) kept c receive_link b).full ≡ false → Beside me n m awaited w (after_link (record { at = me; peer = n; sent = false }) kept c receive_link b)
  tables_then c receive_link room =
      led_beside me n m awaited w kept receive_link b c (target_on (record { at = me; peer = n; sent = false }) receive_link b) refl room (record { meets = t.meets; held = t.held; echoing = t.echoing; came = t.came })

  with_both : (c : Command) (after : SeenTables) → Beside me n (ends_after m c) awaited (w ++ made_of m c) after → Both me n m c w after → Tells me n (ends_after m c) awaited (w ++ made_of m c) after
  with_both c after k both = record { meets = k.meets; held = k.held; echoing = k.echoing; came = k.came; counted = both.0; owed = both.1 }

  pub all_reported : (link x y : ℕ) → (after_link (record { at = me; peer = n; sent = false }) kept (All link x y) (record { host = false; link = link }) b).full ≡ false
      → Both me n m (All link x y) w (after_link (record { at = me; peer = n; sent = false }) kept (All link x y) (record { host = false; link = link }) b)
      → Tells me n (ends_after m (All link x y)) awaited (w ++ made_of m (All link x y)) (after_link (record { at = me; peer = n; sent = false }) kept (All link x y) (record { host = false; link = link }) b)
  all_reported link x y room both =
      let c = All link x y in
      let after = after_link (record { at = me; peer = n; sent = false }) kept c (receive_link_of false link) b in
      with_both c after (link_beside me n m awaited w after good (tables_then c (receive_link_of false link) room) c (EndpointEvent.All_comes link x y) (hear_all link x y) refl refl refl (λ pair o. refl) (λ pair o. refl) refl (sender_on link m)
      (λ q e. there_is m (hears_link link) (sender_on link m) q refl e)) both

  pub gvb_reported : (link x y : ℕ) → (after_link (record { at = me; peer = n; sent = false }) kept (Gvb link x y) (record { host = false; link = link }) b).full ≡ false
      → Both me n m (Gvb link x y) w (after_link (record { at = me; peer = n; sent = false }) kept (Gvb link x y) (record { host = false; link = link }) b)
      → Tells me n (ends_after m (Gvb link x y)) awaited (w ++ made_of m (Gvb link x y)) (after_link (record { at = me; peer = n; sent = false }) kept (Gvb link x y) (record { host = false; link = link }) b)
  gvb_reported link x y room both =
      let c = Gvb link x y in
      let after = after_link (record { at = me; peer = n; sent = false }) kept c (receive_link_of false link) b in
      with_both c after (link_beside me n m awaited w after good (tables_then c (receive_link_of false link) room) c (EndpointEvent.Gvb_comes link x y) (hear_gvb link x y) refl refl refl (λ pair o. refl) (λ pair o. refl) refl (sender_on link m)
      (λ q e. there_is m (hears_link link) (sender_on link m) q refl e)) both

  pub inr_reported : (link : ℕ) → (after_link (record { at = me; peer = n; sent = false }) kept (Inr link) (record { host = false; link = link }) b).full ≡ false
      → Both me n m (Inr link) w (after_link (record { at = me; peer = n; sent = false }) kept (Inr link) (record { host = false; link = link }) b)
      → Tells me n (ends_after m (Inr link)) awaited (w ++ made_of m (Inr link)) (after_link (record { at = me; peer = n; sent = false }) kept (Inr link) (record { host = false; link = link }) b)
  inr_reported link room both =
      let c = Inr link in
      let after = after_link (record { at = me; peer = n; sent = false }) kept c (receive_link_of false link) b in
      with_both c after (link_beside me n m awaited w after good (tables_then c (receive_link_of false link) room) c (EndpointEvent.Inr_comes link) (hear_inr link) refl refl refl (λ pair o. refl) (λ pair o. refl) refl (sender_on link m)
      (λ q e. there_is m (hears_link link) (sender_on link m) q refl e)) both

  pub ret_reported : (link x y : ℕ) → (after_link (record { at = me; peer = n; sent = false }) kept (Ret link x y) (record { host = true; link = link }) b).full ≡ false
      → Both me n m (Ret link x y) w (after_link (record { at = me; peer = n; sent = false }) kept (Ret link x y) (record { host = true; link = link }) b)
      → Tells me n (ends_after m (Ret link x y)) awaited (w ++ made_of m (Ret link x y)) (after_link (record { at = me; peer = n; sent = false }) kept (Ret link x y) (record { host = true; link = link }) b)
  ret_reported link x y room both =
      let c = Ret link x y in
      let after = after_link (record { at = me; peer = n; sent = false }) kept c (receive_link_of true link) b in
      with_both c after (link_beside me n m awaited w after good (tables_then c (receive_link_of true link) room) c (EndpointEvent.Ret_comes link x y) (hear_ret link x y) refl refl refl (λ pair o. refl) (λ pair o. refl) refl (receiver_on link m)
      (λ q e. there_is m (uses_link link) (receiver_on link m) q refl e)) both

  pub ins_reported : (link : ℕ) → (after_link (record { at = me; peer = n; sent = false }) kept (Ins link) (record { host = true; link = link }) b).full ≡ false
      → Both me n m (Ins link) w (after_link (record { at = me; peer = n; sent = false }) kept (Ins link) (record { host = true; link = link }) b)
      → Tells me n (ends_after m (Ins link)) awaited (w ++ made_of m (Ins link)) (after_link (record { at = me; peer = n; sent = false }) kept (Ins link) (record { host = true; link = link }) b)
  ins_reported link room both =
      let c = Ins link in
      let after = after_link (record { at = me; peer = n; sent = false }) kept c (receive_link_of true link) b in
      with_both c after (link_beside me n m awaited w after good (tables_then c (receive_link_of true link) room) c (EndpointEvent.Ins_comes link) (hear_ins link) refl refl refl (λ pair o. refl) (λ pair o. refl) refl (receiver_on link m)
      (λ q e. there_is m (uses_link link) (receiver_on link m) q refl e)) both
