-- An ECO, an ERP, an ERR or a fault of the other comes to the host: all that is known of what was said stays known.
use Rattle.std.proofs.Common.{◌≡◌, ℕ, ◌==◌, Bool, true, false, ◌&&◌, ◌||◌, if◌then◌else◌, List, [], ◌∷◌, ◌++◌, eq-eqb, refl, ap, ◌∙◌, subst}
use Rattle.std.proofs.lemmas.List.{append-nil}
use Rattle.std.specs.List.{list_any}
use Rattle.ncp_wire.specs.declared.command.Command.{Command}
use Rattle.ncp_wire.specs.declared.command.Command.TheVariants.{Erp, Err}
use Rattle.ncp_wire.specs.declared.fault.CommandFault.{CommandFault}
use Rattle.ncp_model.specs.Ends.{Ends}
use Rattle.ncp_monitor.specs.declared.pending_reply.ExpectedReply.{ExpectedReply}
use Rattle.ncp_monitor.specs.declared.conn_state.ConnState.{ConnState}
use Rattle.ncp_monitor.specs.declared.conn_state.FactKind.{FactKind}
use Rattle.ncp_monitor.specs.declared.observed_flow.ObservedFlow.{ObservedFlow}
use Rattle.ncp_monitor.specs.ConnStates.{SeenTables, is_of_sockets, is_topic, is_marked, facts_now, facts_no_more}
use Rattle.ncp_monitor.specs.Replies.{is_due_of, is_wanted, pending_left, owes, fault_wanted, same_bytes}
use Rattle.ncp_monitor.specs.Texts.{is_error_admitted}
use Rattle.ncp_monitor.specs.Speaking.{after_eco, answers_echo, after_reply, after_error}
use Rattle.ncp_monitor.proofs.Firsts.{first}
use Rattle.ncp_proof_monitor_allocation.proofs.Resting.{fact_conns, fact_keeps}
use Rattle.ncp_proof_monitor_allocation.proofs.Meets.{same_conns}
use Rattle.ncp_proof_monitor_allocation.proofs.Replying.{links_stay}
use Rattle.ncp_proof_monitor_allocation.proofs.Refusals.{same_as_itself}
use Rattle.ncp_proof_monitor_allocation.proofs.Echoing.{Echoing, fact_other, erp_comes}
use Rattle.ncp_proof_monitor_allocation.proofs.HeldLinks.{same_held}
use Rattle.ncp_proof_monitor_allocation.proofs.Plain.{plain_reply, plain_fact}
use Rattle.ncp_proof_monitor_allocation.proofs.PlainSteps.{plain_echo}
use Rattle.ncp_proof_monitor_allocation.proofs.TextErrors.{is_text_error, admitted_wider}
use Rattle.ncp_proof_monitor_allocation.proofs.Counted.{Counted, counted_wider}
use Rattle.ncp_proof_monitor_allocation.proofs.WentCounted.{answers_counted}
use Rattle.ncp_proof_monitor_replies.proofs.OwedItems.{OwedBy}
use Rattle.ncp_proof_monitor_replies.specs.Owed.{Gives}
use Rattle.ncp_proof_monitor_replies.proofs.OwedSteps.{owed_fact, their_reply_owed}
use Rattle.ncp_proof_monitor_replies.proofs.OwedGoes.{owed_answers}
use Rattle.ncp_proof_monitor_replies.proofs.HostMakes.{FitReply}
use Rattle.ncp_proof_monitor_host.proofs.Spoken.{Tells}
use Rattle.ncp_proof_monitor_host.proofs.ReportedSteps.{SameEchoes, same_marks, echo_reported, came_same, owed_reports}

module _ (me n : ℕ) (m : Ends) (awaited : Bool) (w : List Command) (b : SeenTables) where
  abbrev hearing : ObservedFlow
  hearing = record { at = me; peer = n; sent = false }

  -- with the same connections
  pub alike_reports : (after : SeenTables) → after.conns ≡ b.conns → ((on : Bool) (link : ℕ) → is_marked me n (FactKind.LinkSuspended on link) b ≡ true → is_marked me n (FactKind.LinkSuspended on link) after ≡ true)
      → (now : Bool) → Echoing me n now w after → Counted me n m w after → OwedBy me n m w after → Tells me n m awaited w b → Tells me n m now w after
  alike_reports after conns known_facts now echoing counted owed tells = record {
    meets = same_conns me n m w w b after conns known_facts refl tells.meets;
    held = same_held me n m b after conns known_facts tells.held;
    echoing = echoing;
    came = came_same me n m w w b after conns (λ link z. known_facts true link z) (λ v. refl) tells.came;
    counted = counted;
    owed = owed;
  }

  same_echoing : (after : SeenTables) → SameEchoes me n b after → Echoing me n awaited w b → Echoing me n awaited w after
  same_echoing after same h = subst (λ (x : List Command). Echoing me n awaited x after) (append-nil w) (echo_reported me n awaited w [] b after same refl h)

  -- ---- an ECO

  echo_fits : (byte : ℕ) → FitReply (ExpectedReply.Echo byte) (Erp byte)
  echo_fits byte = record { fits = eq-eqb byte byte refl; item = λ suspended links. refl; says = refl; echoes = refl; unworded = refl; plain = refl }

  pub eco_reports : (byte : ℕ) → (after_eco (record { at = me; peer = n; sent = false }) byte b).full ≡ false → Tells me n m awaited w b → Tells me n m awaited (w ++ Erp byte ∷ []) (after_eco (record { at = me; peer = n; sent = false }) byte b)
  eco_reports byte room tells =
      let mid = facts_now me n (FactKind.Asks false) b in
      let conns = fact_conns me n (FactKind.Asks false) b in
      owed_reports me n m awaited w mid (Erp byte) (ExpectedReply.Echo byte) true (echo_fits byte) refl room
      (alike_reports mid conns (λ on link z. fact_keeps me n (FactKind.Asks false) b (FactKind.LinkSuspended on link) z) awaited
      (same_echoing mid (fact_other me n (FactKind.Asks false) (FactKind.EchoesRest true) b refl, fact_other me n (FactKind.Asks false) (FactKind.Asks true) b refl) tells.echoing)
      (counted_wider me n m w w b mid (λ u. ap (λ (xs : List ConnState). first (is_of_sockets me n u.0 u.1) xs) conns) (λ host link z. fact_keeps me n (FactKind.Asks false) b (FactKind.LinkSuspended host link) z) refl
      (plain_fact me n (FactKind.Asks false) b refl tells.counted.plain) (admitted_wider me n w b mid (λ bytes z. fact_keeps me n (FactKind.Asks false) b (FactKind.Admits true bytes) z) tells.counted.admitted) tells.counted)
      (owed_fact me n m w b (FactKind.Asks false) (λ link. refl) tells.owed) tells)

  -- ---- replies

  reply_same : (c : Command) → ((after_reply hearing c b).conns ≡ b.conns) × ((after_reply hearing c b).known_facts ≡ b.known_facts)
  reply_same c = go (is_wanted (is_due_of me n false) c b.pending_replies)
    where
      go : (x : Bool) → ((if x then record b { pending_replies = pending_left (is_due_of me n false) c b.pending_replies } else b).conns ≡ b.conns) × ((if x then record b { pending_replies = pending_left (is_due_of me n false) c b.pending_replies } else b).known_facts ≡ b.known_facts)
      go true = (refl, refl)
      go false = (refl, refl)

  pub reply_reports : (c : Command) → Tells me n m awaited w b → Tells me n m awaited w (after_reply (record { at = me; peer = n; sent = false }) c b)
  reply_reports c tells =
      let is = reply_same c in
      let after = after_reply hearing c b in
      alike_reports after is.0 (λ on link z. ap (list_any (is_topic me n (FactKind.LinkSuspended on link))) is.1 ∙ z) awaited (same_echoing after (same_marks me n b after is.1) tells.echoing)
      (counted_wider me n m w w b after (λ u. ap (λ (xs : List ConnState). first (is_of_sockets me n u.0 u.1) xs) is.0) (λ host link z. ap (list_any (is_topic me n (FactKind.LinkSuspended host link))) is.1 ∙ z) refl
      (plain_reply me n hearing c b tells.counted.plain) (admitted_wider me n w b after (λ bytes z. ap (list_any (is_topic me n (FactKind.Admits true bytes))) is.1 ∙ z) tells.counted.admitted) tells.counted)
      (their_reply_owed me n m w c b tells.owed) tells

  pub error_reports : (code : ℕ) (shown : List ℕ) → Tells me n m awaited w b → Tells me n m awaited w (after_error (record { at = me; peer = n; sent = false }) code shown b)
  error_reports code shown tells = go (is_error_admitted hearing code shown b)
    where
      go : (x : Bool) → Tells me n m awaited w (if x then b else after_reply hearing (Err code shown) b)
      go true = tells
      go false = reply_reports (Err code shown) tells

  -- an ERP answers the ECO of the host, or one that is on its way
  pub answers_reports : (answers_echo (record { at = me; peer = n; sent = false }) b).full ≡ false → Tells me n m awaited w b → Tells me n m false w (answers_echo (record { at = me; peer = n; sent = false }) b)
  answers_reports room tells =
      go (is_marked me n (FactKind.Asks true) b) (erp_comes me n awaited w b room tells.echoing) (answers_counted me n m w b hearing w b refl refl (plain_echo me n false b tells.counted.plain) tells.counted) (owed_answers me n m false w b tells.owed)
    where
      answered : Bool → SeenTables
      answered x = if x then facts_no_more me n (FactKind.Asks true) b else facts_now me n (FactKind.EchoesRest true) b

      go : (x : Bool) → Echoing me n false w (answered x) → Counted me n m w (answered x) → OwedBy me n m w (answered x) → Tells me n m false w (answered x)
      go true h c o = alike_reports (facts_no_more me n (FactKind.Asks true) b) refl (λ on link z. links_stay me n true on link b ∙ z) false h c o tells
      go false h c o =
          alike_reports (facts_now me n (FactKind.EchoesRest true) b) (fact_conns me n (FactKind.EchoesRest true) b) (λ on link z. fact_keeps me n (FactKind.EchoesRest true) b (FactKind.LinkSuspended on link) z) false h c o tells

  -- ---- a fault of a control text

  pub fault_reports : (fault : CommandFault) → is_text_error (Err fault.code fault.bytes) ≡ false → (owes (record { at = me; peer = n; sent = false }) (fault_wanted fault) true b).full ≡ false → Tells me n m awaited w b
      → Tells me n m awaited (w ++ Err fault.code fault.bytes ∷ []) (owes (record { at = me; peer = n; sent = false }) (fault_wanted fault) true b)
  fault_reports fault k room tells =
      owed_reports me n m awaited w b (Err fault.code fault.bytes) (fault_wanted fault) true
      (record {
        fits = ap (λ (x : Bool). (x || fault.code == fault.code) && same_bytes fault.bytes fault.bytes) (eq-eqb fault.code fault.code refl) ∙ same_as_itself fault.bytes;
        item = λ suspended links. ap (λ (x : Bool). if x then [] else Gives (Err fault.code fault.bytes) ∷ []) k;
        says = refl;
        echoes = refl;
        unworded = refl;
        plain = k;
      }) refl room tells
