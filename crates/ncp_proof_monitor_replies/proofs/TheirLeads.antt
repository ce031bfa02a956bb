-- What the other says of a link that leads to no open connection, as it is seen: at rest, to nobody, to one that it has closed, or
-- to one that it has not asked for.
use Rattle.std.proofs.Common.{◌≡◌, ℕ, Bool, true, false, if◌then◌else◌, List, [], ◌∷◌, ◌++◌, Option, None, Some, refl, sym, ap, ◌∙◌, subst}
use Rattle.std.specs.FinMap.{get}
use Rattle.std.specs.List.{list_any}
use Rattle.ncp_wire.specs.declared.command.Command.{Command}
use Rattle.ncp_wire.specs.declared.command.Command.TheVariants.{Ret}
use Rattle.ncp_wire.specs.Spelling.{error_of}
use Rattle.ncp_model.specs.declared.pair.Pair.{Pair}
use Rattle.ncp_model.specs.Endpoint.{Endpoint}
use Rattle.ncp_model.specs.Ends.{Ends, sender_on, receiver_on}
use Rattle.ncp_proof_machine.proofs.EndsGood.{EndsInvariant}
use Rattle.ncp_monitor.specs.declared.conn_state.ConnState.{ConnState}
use Rattle.ncp_monitor.specs.declared.conn_state.FactKind.{FactKind}
use Rattle.ncp_monitor.specs.ConnStates.{SeenTables, is_of_sockets, is_topic, is_marked, link_suspended_now}
use Rattle.ncp_monitor.specs.Replies.{error_wanted, owes}
use Rattle.ncp_monitor.specs.Allocation.{other_code, owes_error}
use Rattle.ncp_monitor.proofs.LinkOrder.{Sockets}
use Rattle.ncp_monitor.proofs.Firsts.{first}
use Rattle.ncp_proof_monitor_allocation.proofs.SeenTables.{conn_seen}
use Rattle.ncp_proof_monitor_allocation.proofs.Resting.{due_with, due_room, fact_conns, fact_keeps, fact_made}
use Rattle.ncp_proof_monitor_allocation.proofs.Refusals.{error_fits}
use Rattle.ncp_proof_monitor_allocation.proofs.Plain.{Plain}
use Rattle.ncp_proof_monitor_allocation.proofs.Counted.{Counted, PairsAgree}
use Rattle.ncp_proof_monitor_replies.specs.Owed.{Gives}
use Rattle.ncp_proof_monitor_replies.proofs.OwedItems.{OwedBy}
use Rattle.ncp_proof_monitor_replies.proofs.OwedSteps.{owed_link_suspended, made_reply}
use Rattle.ncp_proof_monitor_allocation.proofs.LinksReach.{led_sender, led_receiver}
use Rattle.ncp_proof_monitor_allocation.proofs.LinksOpen.{Unheeded, Unanswered, Unconnected}
use Rattle.ncp_proof_monitor_allocation.proofs.LinksDid.{ends_after, made_of, Quiet, Silent, Erred, is_gvb, Did, Stayed}
use Rattle.ncp_proof_monitor_allocation.proofs.LinksCome.{Wider, same_facts_wider}
use Rattle.ncp_proof_monitor_replies.proofs.TheirLinks.{names_link, about_command, still, unsure_owed, sender_suspended, receiver_suspended}

-- both: what is counted, and what is due
abbrev pub Both : ℕ → ℕ → Ends → Command → List Command → SeenTables → Type 0
Both me n m said w after = Counted me n (ends_after m said) (w ++ made_of m said) after × OwedBy me n (ends_after m said) (w ++ made_of m said) after

module _ (me n : ℕ) (m : Ends) (good : EndsInvariant m) (w : List Command) (b : SeenTables) (pairs : PairsAgree me n m w b) (c : Counted me n m w b) (owed : OwedBy me n m w b) (said : Command) (named : names_link said ≡ true) (on : ℕ) where
  -- one more is due
  due_conns : (conn_tables : SeenTables) (code : ℕ) (mandatory : Bool) → (owes (record { at = me; peer = n; sent = false }) (error_wanted 5 code said) mandatory conn_tables).full ≡ false
      → ((owes (record { at = me; peer = n; sent = false }) (error_wanted 5 code said) mandatory conn_tables).conns ≡ conn_tables.conns) × ((owes (record { at = me; peer = n; sent = false }) (error_wanted 5 code said) mandatory conn_tables).known_facts ≡ conn_tables.known_facts)
  due_conns conn_tables code mandatory f = (due_with conn_tables (record { at = me; peer = n; host = true; wanted = error_wanted 5 code said; mandatory = mandatory }) f).1

  seen_same : (after : SeenTables) → after.conns ≡ b.conns → (u : Sockets) → conn_seen me n after u ≡ conn_seen me n b u
  seen_same after k u = ap (λ (xs : List ConnState). first (is_of_sockets me n u.0 u.1) xs) k

  sender_there : (p : Pair × Endpoint) → sender_on on m ≡ Some p → get m p.0 ≡ Some p.1
  sender_there p f = (led_sender m on p.0 p.1 f).there

  receiver_there : (p : Pair × Endpoint) → receiver_on on m ≡ Some p → get m p.0 ≡ Some p.1
  receiver_there p f = (led_receiver m on p.0 p.1 f).there

  abbrev admits : SeenTables → SeenTables
  admits conn_tables = owes_error (record { at = me; peer = n; sent = false }) said false conn_tables

  -- ---- the link is suspended

  pub sent_at_rest : is_marked me n (FactKind.LinkSuspended false on) b ≡ true → Did m said on (sender_on on m) → (admits b).full ≡ false → Plain me n (admits b) → Both me n m said w (admits b)
  sent_at_rest marked d room plain =
      let same_tables = due_conns b (other_code said) false room in (
        sender_suspended me n m good w b (admits b) pairs c on (seen_same (admits b) same_tables.0) (same_facts_wider me n b (admits b) same_tables.1) plain said named ((same_facts_wider me n b (admits b) same_tables.1).links false on marked) d,
        unsure_owed me n m on said (sender_on on m) sender_there d w b named room (λ x y k. marked) owed,
      )

  pub received_at_rest : is_gvb said ≡ false → is_marked me n (FactKind.LinkSuspended true on) b ≡ true → Did m said on (receiver_on on m) → ((x y : ℕ) → made_of m said ≡ Ret on x y ∷ [] → ⊥) → (admits b).full ≡ false → Plain me n (admits b)
      → Both me n m said w (admits b)
  received_at_rest other marked d none room plain =
      let same_tables = due_conns b (other_code said) false room in (
        receiver_suspended me n m good w b (admits b) pairs c on (seen_same (admits b) same_tables.0) (same_facts_wider me n b (admits b) same_tables.1) plain said named ((same_facts_wider me n b (admits b) same_tables.1).links true on marked) other d,
        unsure_owed me n m on said (receiver_on on m) receiver_there d w b named room (λ x y k. absurd (none x y k)) owed,
      )

  -- ---- it comes to rest: the other sends on it, and the host may do anything

  pub received_suspended : is_gvb said ≡ false → Did m said on (receiver_on on m) → ((x y : ℕ) → made_of m said ≡ Ret on x y ∷ [] → ⊥) → (admits (link_suspended_now me n true on b)).full ≡ false → Plain me n (admits (link_suspended_now me n true on b))
      → Both me n m said w (admits (link_suspended_now me n true on b))
  received_suspended other d none room plain = (
    receiver_suspended me n m good w b (admits mid) pairs c on (seen_same (admits mid) (same_tables.0 ∙ fact_conns me n what b)) wider plain said named (wide_fact (fact_made me n what b mid_room)) other d,
    unsure_owed me n m on said (receiver_on on m) receiver_there d w mid named room (λ x y k. absurd (none x y k)) (owed_link_suspended me n m w b true on mid_room owed),
  )
    where
      what : FactKind
      what = FactKind.LinkSuspended true on

      mid : SeenTables
      mid = link_suspended_now me n true on b

      same_tables : ((admits mid).conns ≡ mid.conns) × ((admits mid).known_facts ≡ mid.known_facts)
      same_tables = due_conns mid (other_code said) false room

      mid_room : mid.full ≡ false
      mid_room = due_room mid (record { at = me; peer = n; host = true; wanted = error_wanted 5 (other_code said) said; mandatory = false }) room

      kept_fact : (fact_kind : FactKind) → is_marked me n fact_kind mid ≡ true → is_marked me n fact_kind (admits mid) ≡ true
      kept_fact fact_kind z = ap (list_any (is_topic me n fact_kind)) same_tables.1 ∙ z

      wide_fact : is_marked me n what mid ≡ true → is_marked me n what (admits mid) ≡ true
      wide_fact z = kept_fact what z

      wider : Wider me n b (admits mid)
      wider = record {
        links = λ host link z. kept_fact (FactKind.LinkSuspended host link) (fact_keeps me n what b (FactKind.LinkSuspended host link) z);
        admits = λ bytes z. kept_fact (FactKind.Admits true bytes) (fact_keeps me n what b (FactKind.Admits true bytes) z);
      }

  -- ---- the host does nothing, or says that it is not connected

  as_did : Unheeded m said → (o : Option (Pair × Endpoint)) → Did m said on o
  as_did (Unanswered k e) o = Stayed k (Silent e)
  as_did (Unconnected k e) o = Stayed k (Erred 5 (error_fits 5 (other_code said) said) e)

  no_ret : Unheeded m said → (x y : ℕ) → made_of m said ≡ Ret on x y ∷ [] → ⊥
  no_ret (Unanswered k e) x y f = cc (sym e ∙ f)
  no_ret (Unconnected k e) x y f = cc (sym e ∙ f)

  quiet_of : Unheeded m said → (ends_after m said ≡ m) × Quiet said (made_of m said)
  quiet_of (Unanswered k e) = (k, Silent e)
  quiet_of (Unconnected k e) = (k, Erred 5 (error_fits 5 (other_code said) said) e)

  pub unheeded_both : Unheeded m said → (admits b).full ≡ false → Plain me n (admits b) → Both me n m said w (admits b)
  unheeded_both un room plain =
      let same_tables = due_conns b (other_code said) false room in
      let q = quiet_of un in (
        still me n m good w b (admits b) pairs c on (seen_same (admits b) same_tables.0) (same_facts_wider me n b (admits b) same_tables.1) plain said named q.0 q.1,
        unsure_owed me n m on said None (λ p f. absurd (cc f)) (as_did un None) w b named room (λ x y k. absurd (no_ret un x y k)) owed,
      )

  -- ---- nobody has the link: the ERR is due

  pub unknown_both : ends_after m said ≡ m → made_of m said ≡ error_of 5 said ∷ [] → (owes (record { at = me; peer = n; sent = false }) (error_wanted 5 5 said) true b).full ≡ false
      → Plain me n (owes (record { at = me; peer = n; sent = false }) (error_wanted 5 5 said) true b) → Both me n m said w (owes (record { at = me; peer = n; sent = false }) (error_wanted 5 5 said) true b)
  unknown_both k e room plain =
      let after : SeenTables = owes (record { at = me; peer = n; sent = false }) (error_wanted 5 5 said) true b in
      let same_tables = due_conns b 5 true room in (
        still me n m good w b after pairs c on (seen_same after same_tables.0) (same_facts_wider me n b after same_tables.1) plain said named k (Erred 5 (error_fits 5 (other_code said) said) e),
        subst (λ (x : Ends). OwedBy me n x (w ++ made_of m said) after) (sym k)
            (subst (λ (x : List Command). OwedBy me n m (w ++ x) after) (sym e)
            (made_reply me n m w b (error_wanted 5 5 said) true (error_of 5 said) room refl (error_fits 5 5 said) (ap (λ (x : Bool). if x then [] else Gives (error_of 5 said) ∷ []) (about_command 5 said named)) owed)),
      )
