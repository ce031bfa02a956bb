-- An ECO, an ERP and an ERR of either side, while nothing is suspended: no violation is found exactly
-- when the side may send it, and afterwards the tables read as the flow with this command.
use Rattle.std.proofs.Common.{◌≡◌, ℕ, ◌==◌, Bool, true, false, not, ◌&&◌, ◌||◌, if◌then◌else◌, List, [], ◌∷◌, ◌++◌, Option, None, Some, eq-eqb, refl, sym, ap, ◌∙◌, subst}
use Rattle.std.specs.Prelude.{option_map}
use Rattle.std.specs.List.{filter, list_any}
use Rattle.std.proofs.Math.Bool.{beq}
use Rattle.std.proofs.lemmas.Bool.{and_parts}
use Rattle.ncp_wire.specs.declared.command.Command.{Command}
use Rattle.ncp_wire.specs.declared.command.Command.TheVariants.{Eco, Erp, Err}
use Rattle.ncp_monitor.specs.declared.pending_reply.PendingReply.{PendingReply}
use Rattle.ncp_monitor.specs.declared.pending_reply.ExpectedReply.{ExpectedReply}
use Rattle.ncp_monitor.specs.declared.pending_reply.ExpectedReply.TheVariants.{Echo}
use Rattle.ncp_monitor.specs.declared.finding.Rule.{Rule}
use Rattle.ncp_monitor.specs.declared.conn_state.Fact.{Fact}
use Rattle.ncp_monitor.specs.declared.conn_state.FactKind.{FactKind}
use Rattle.ncp_monitor.specs.declared.observed_flow.ObservedFlow.{ObservedFlow}
use Rattle.ncp_monitor.specs.ConnStates.{SeenTables, same_topic, is_topic, is_marked, facts_now, facts_no_more}
use Rattle.ncp_monitor.specs.Replies.{is_due_of, is_wanted, skipped, pending_left}
use Rattle.ncp_monitor.specs.Texts.{shows_command, is_error_admitted}
use Rattle.ncp_monitor.specs.Speaking.{eco_rule, after_eco, answers_echo, reply_rule, after_reply, error_rule}
use Rattle.ncp_proof_monitor_allocation.proofs.Resting.{fact_conns, fact_pending, fact_made, due_with, due_room}
use Rattle.ncp_proof_monitor_allocation.proofs.Replying.{any_fewer, none_fewer}
use Rattle.ncp_proof_monitor_allocation.proofs.Echoing.{fact_other}
use Rattle.ncp_proof_monitor_allocation.proofs.Filtered.{filter_after, filter_left}
use Rattle.ncp_proof_monitor_network.specs.Owing.{Owing, Echoes, Returning, is_echo_of, is_echo, NextOwed, owed_after, has_echo, any_owing}
use Rattle.ncp_proof_monitor_network.proofs.Tallied.{by_side}
use Rattle.ncp_proof_monitor_network.proofs.Said.{Said, Legal, after_said_by}
use Rattle.ncp_proof_monitor_network.proofs.LeavesOwed.{each_side}
use Rattle.ncp_proof_monitor_network.proofs.PendingOwed.{AreDue, erp_gives, err_gives, rule_then_next, NextDue, next_then_rule, erp_left, echo_fits, none_fits, owed_more}
use Rattle.ncp_proof_monitor_network.proofs.OwesSteps.{on_both, its_side_is, other_side_is, unturned, echo_given, owes_step}
use Rattle.ncp_proof_monitor_network.proofs.ReadAs.{ReadAs, sides_distinct, read_conns}

-- ---- sides

beq_itself : (y : Bool) → beq y y ≡ true
beq_itself true = refl
beq_itself false = refl

beq_other : (y : Bool) → beq y (not y) ≡ false
beq_other true = refl
beq_other false = refl

its_side : (me n : ℕ) (host side : Bool) (wanted : ExpectedReply) (mandatory : Bool) → is_due_of me n side (record { at = me; peer = n; host = host; wanted = wanted; mandatory = mandatory }) ≡ beq host side
its_side me n host side wanted mandatory = ap (λ (y : Bool). y && (n == n) && beq host side) (eq-eqb me me refl) ∙ ap (λ (y : Bool). true && y && beq host side) (eq-eqb n n refl)

-- ---- an ERP that is owed, and one more

next_echo : (byte : ℕ) (p : Owing → Type 0) (os : List Owing) → NextOwed (is_echo_of byte) p os → has_echo os ≡ true
next_echo byte p [] k = absurd k
next_echo byte p (Echoes other ∷ os) k = refl
next_echo byte p (Returning u link messages bits ∷ os) k = next_echo byte p os k

echo_more : (byte : ℕ) (os : List Owing) → has_echo (os ++ Echoes byte ∷ []) ≡ true
echo_more byte [] = refl
echo_more byte (o ∷ os) = go (is_echo o) (echo_more byte os)
  where
    go : (y : Bool) → has_echo (os ++ Echoes byte ∷ []) ≡ true → (y || has_echo (os ++ Echoes byte ∷ [])) ≡ true
    go true e = refl
    go false e = e

-- ---- a mark is taken away

distinct_topics : (me n : ℕ) (gone what : FactKind) → ((y : FactKind) → same_topic y gone ≡ true → same_topic y what ≡ false) → (known_fact : Fact) → is_topic me n gone known_fact ≡ true → is_topic me n what known_fact ≡ false
distinct_topics me n gone what a known_fact e = go (known_fact.at == me && known_fact.peer == n) (a known_fact.fact_kind (and_parts (known_fact.at == me && known_fact.peer == n) (same_topic known_fact.fact_kind gone) e).1)
  where
    go : (y : Bool) → same_topic known_fact.fact_kind what ≡ false → (y && same_topic known_fact.fact_kind what) ≡ false
    go true f = f
    go false f = refl

no_link : (host on : Bool) (link : ℕ) (y : FactKind) → same_topic y (FactKind.Asks host) ≡ true → same_topic y (FactKind.LinkSuspended on link) ≡ false
no_link host on link (FactKind.LinkSuspended a l) e = absurd (cc e)
no_link host on link (FactKind.EchoesRest a) e = refl
no_link host on link (FactKind.Asks a) e = refl
no_link host on link (FactKind.Admits a bytes) e = refl

no_rest : (host on : Bool) (y : FactKind) → same_topic y (FactKind.Asks host) ≡ true → same_topic y (FactKind.EchoesRest on) ≡ false
no_rest host on (FactKind.LinkSuspended a l) e = refl
no_rest host on (FactKind.EchoesRest a) e = absurd (cc e)
no_rest host on (FactKind.Asks a) e = refl
no_rest host on (FactKind.Admits a bytes) e = refl

no_admission : (host on : Bool) (bytes : List ℕ) (y : FactKind) → same_topic y (FactKind.Asks host) ≡ true → same_topic y (FactKind.Admits on bytes) ≡ false
no_admission host on bytes (FactKind.LinkSuspended a l) e = refl
no_admission host on bytes (FactKind.EchoesRest a) e = refl
no_admission host on bytes (FactKind.Asks a) e = refl
no_admission host on bytes (FactKind.Admits a shown) e = absurd (cc e)

no_other : (host on : Bool) → beq host on ≡ false → (y : FactKind) → same_topic y (FactKind.Asks host) ≡ true → same_topic y (FactKind.Asks on) ≡ false
no_other host on k (FactKind.LinkSuspended a l) e = absurd (cc e)
no_other host on k (FactKind.EchoesRest a) e = absurd (cc e)
no_other host on k (FactKind.Admits a bytes) e = absurd (cc e)
no_other host on k (FactKind.Asks a) e = go a host on k e
  where
    go : (a h o : Bool) → beq h o ≡ false → beq a h ≡ true → beq a o ≡ false
    go true true true k e = absurd (cc k)
    go true true false k e = refl
    go true false o k e = absurd (cc e)
    go false true o k e = absurd (cc e)
    go false false true k e = refl
    go false false false k e = absurd (cc k)

module _ (me n : ℕ) (b : SeenTables) (x : Said) (r : ReadAs me n b x) (s : Bool) where
  abbrev flow : ObservedFlow
  flow = record { at = me; peer = n; sent = s }

  abbrev due_of : Bool → PendingReply → Bool
  due_of p = is_due_of me n p

  -- ---- an ECO

  pub eco_may_be : (byte : ℕ) → eco_rule flow byte b ≡ None → has_echo (x.owing (not s)) ≡ false
  eco_may_be byte v = go (is_marked me n (FactKind.Asks s) b) (is_marked me n (FactKind.EchoesRest s) b) (r.asks s) (r.echoes s) v
    where
      go : (a d : Bool) → a ≡ has_echo (x.owing (not s)) → d ≡ false → (if a && not d then Some (Rule.EcoAgain byte) else None) ≡ None → has_echo (x.owing (not s)) ≡ false
      go a true e z v = absurd (cc z)
      go true false e z v = absurd (cc v)
      go false false e z v = sym e

  pub eco_unbroken : (byte : ℕ) → has_echo (x.owing (not s)) ≡ false → eco_rule flow byte b ≡ None
  eco_unbroken byte e = ap (λ (a : Bool). if a && not (is_marked me n (FactKind.EchoesRest s) b) then Some (Rule.EcoAgain byte) else None) (r.asks s ∙ e)

  module _ (byte : ℕ) (l : Legal s (Eco byte) x) (room : (after_eco flow byte b).full ≡ false) where
    abbrev mid : SeenTables
    mid = facts_now me n (FactKind.Asks s) b

    abbrev due : PendingReply
    due = record { at = me; peer = n; host = not s; wanted = Echo byte; mandatory = true }

    abbrev after : SeenTables
    after = after_eco flow byte b

    mid_room : mid.full ≡ false
    mid_room = due_room mid due room

    facts_after : (what : FactKind) → is_marked me n what after ≡ is_marked me n what mid
    facts_after what = ap (list_any (is_topic me n what)) (due_with mid due room).1.1

    conns_after : after.conns ≡ b.conns
    conns_after = (due_with mid due room).1.0 ∙ fact_conns me n (FactKind.Asks s) b

    pending_after : after.pending_replies ≡ b.pending_replies ++ due ∷ []
    pending_after = (due_with mid due room).0 ∙ ap (λ (ds : List PendingReply). ds ++ due ∷ []) (fact_pending me n (FactKind.Asks s) b)

    other_after : (what : FactKind) → same_topic (FactKind.Asks s) what ≡ false → is_marked me n what after ≡ is_marked me n what b
    other_after what d = facts_after what ∙ fact_other me n (FactKind.Asks s) what b d

    abbrev owing_then : Bool → List Owing
    owing_then = by_side (not s) (x.owing (not s) ++ Echoes byte ∷ []) x.owing

    asked_then : (host : Bool) → is_marked me n (FactKind.Asks host) after ≡ has_echo (owing_then (not host))
    asked_then =
        on_both (λ host. is_marked me n (FactKind.Asks host) after ≡ has_echo (owing_then (not host))) s
        (facts_after (FactKind.Asks s) ∙ fact_made me n (FactKind.Asks s) b mid_room ∙ sym (echo_more byte (x.owing (not s))) ∙ sym (ap has_echo (its_side_is (not s) (x.owing (not s) ++ Echoes byte ∷ []) x.owing)))
        (other_after (FactKind.Asks (not s)) (beq_other s) ∙ r.asks (not s) ∙ sym (ap has_echo (other_side_is (not s) (x.owing (not s) ++ Echoes byte ∷ []) x.owing)))

    pending_then : (side : Bool) → AreDue side (filter (due_of side) after.pending_replies) (owing_then side)
    pending_then =
        each_side (λ side os. AreDue side (filter (due_of side) after.pending_replies) os) (not s) (x.owing (not s) ++ Echoes byte ∷ []) x.owing
        (subst (λ (ds : List PendingReply). AreDue (not s) (filter (due_of (not s)) ds) (x.owing (not s) ++ Echoes byte ∷ [])) (sym pending_after)
        (owed_more (due_of (not s)) (not s) b.pending_replies (x.owing (not s)) due (Echoes byte) (its_side me n (not s) (not s) (Echo byte) true ∙ beq_itself (not s)) (refl, refl) (r.pending_replies (not s))))
        (subst (λ (ds : List PendingReply). AreDue (not (not s)) ds (x.owing (not (not s))))
        (sym (ap (filter (due_of (not (not s)))) pending_after ∙ filter_after (due_of (not (not s))) b.pending_replies due (its_side me n (not s) (not (not s)) (Echo byte) true ∙ beq_other (not s)))) (r.pending_replies (not (not s))))

    pub eco_read : ReadAs me n after (after_said_by s (Eco byte) x)
    eco_read =
        read_conns me n b after x (after_said_by s (Eco byte) x) conns_after (λ u. refl) (λ u. refl) (λ on link. other_after (FactKind.LinkSuspended on link) refl ∙ r.links on link)
        (λ host. other_after (FactKind.EchoesRest host) refl ∙ r.echoes host) (λ host bytes. other_after (FactKind.Admits host bytes) refl ∙ r.admits host bytes) asked_then pending_then
        (owes_step s x r.returning (Eco byte) l) r.fit r

  -- ---- a reply

  pub wanted_by : (c : Command) (wrong : Rule) → reply_rule flow c wrong b ≡ None → (is_wanted (due_of s) c b.pending_replies ≡ true) × (skipped (due_of s) c b.pending_replies ≡ None)
  wanted_by c wrong v = go (is_wanted (due_of s) c b.pending_replies) refl v
    where
      none : (o : Option Command) → option_map (λ (d : Command). Rule.Skipped d) o ≡ None → o ≡ None
      none None e = refl
      none (Some d) e = absurd (cc e)

      go : (y : Bool) → is_wanted (due_of s) c b.pending_replies ≡ y → (if y then option_map (λ (d : Command). Rule.Skipped d) (skipped (due_of s) c b.pending_replies) else Some wrong) ≡ None
          → (is_wanted (due_of s) c b.pending_replies ≡ true) × (skipped (due_of s) c b.pending_replies ≡ None)
      go true e v = (e, none (skipped (due_of s) c b.pending_replies) v)
      go false e v = absurd (cc v)

  unbroken_by : (c : Command) (wrong : Rule) → is_wanted (due_of s) c b.pending_replies ≡ true → skipped (due_of s) c b.pending_replies ≡ None → reply_rule flow c wrong b ≡ None
  unbroken_by c wrong w k =
      ap (λ (y : Bool). if y then option_map (λ (d : Command). Rule.Skipped d) (skipped (due_of s) c b.pending_replies) else Some wrong) w
      ∙ ap (λ (o : Option Command). option_map (λ (d : Command). Rule.Skipped d) o) k

  -- what is due of the one who does not speak stays so
  others_due : (c : Command) → filter (due_of (not s)) (pending_left (due_of s) c b.pending_replies) ≡ filter (due_of (not s)) b.pending_replies
  others_due c = filter_left (due_of (not s)) (due_of s) c b.pending_replies (sides_distinct me n s) (λ due. refl)

  left_by_sides : (c : Command) (now : List Owing) → AreDue s (filter (due_of s) (pending_left (due_of s) c b.pending_replies)) now → (side : Bool) → AreDue side (filter (due_of side) (pending_left (due_of s) c b.pending_replies)) (by_side s now x.owing side)
  left_by_sides c now a =
      each_side (λ side os. AreDue side (filter (due_of side) (pending_left (due_of s) c b.pending_replies)) os) s now x.owing a (subst (λ (ds : List PendingReply). AreDue (not s) ds (x.owing (not s))) (sym (others_due c)) (r.pending_replies (not s)))

  -- ---- an ERP

  pub erp_may_be : (byte : ℕ) (wrong : Rule) → reply_rule flow (Erp byte) wrong b ≡ None → NextOwed (is_echo_of byte) any_owing (x.owing s)
  erp_may_be byte wrong v =
      let w = wanted_by (Erp byte) wrong v in
      rule_then_next (due_of s) s (Erp byte) (is_echo_of byte) (erp_gives byte) any_owing b.pending_replies (x.owing s) (r.pending_replies s) w.0 w.1 (λ o e k. tt)

  module _ (byte : ℕ) (l : Legal s (Erp byte) x) where
    erp_next : NextDue (due_of s) s (Erp byte) (is_echo_of byte) (erp_gives byte) any_owing b.pending_replies
    erp_next = next_then_rule (due_of s) s (Erp byte) (is_echo_of byte) (erp_gives byte) any_owing b.pending_replies (x.owing s) (r.pending_replies s) l.tally

    pub erp_unbroken : s ≡ false → (wrong : Rule) → reply_rule flow (Erp byte) wrong b ≡ None
    erp_unbroken z wrong = unbroken_by (Erp byte) wrong erp_next.wanted (erp_next.passes z)

    abbrev replied : SeenTables
    replied = record b { pending_replies = pending_left (due_of s) (Erp byte) b.pending_replies }

    abbrev echoed : SeenTables
    echoed = facts_no_more me n (FactKind.Asks (not s)) replied

    erp_echo : answers_echo flow (after_reply flow (Erp byte) b) ≡ echoed
    erp_echo =
        ap (λ (y : Bool). answers_echo flow (if y then replied else b)) erp_next.wanted
        ∙ ap (λ (y : Bool). if y then echoed else facts_now me n (FactKind.EchoesRest (not s)) replied)
        (r.asks (not s) ∙ ap (λ (side : Bool). has_echo (x.owing side)) (unturned s) ∙ next_echo byte any_owing (x.owing s) l.tally)

    fewer : (what : FactKind) → ((y : FactKind) → same_topic y (FactKind.Asks (not s)) ≡ true → same_topic y what ≡ false) → is_marked me n what echoed ≡ is_marked me n what b
    fewer what a = any_fewer (is_topic me n what) (is_topic me n (FactKind.Asks (not s))) b.known_facts (distinct_topics me n (FactKind.Asks (not s)) what a)

    abbrev owing_answered : Bool → List Owing
    owing_answered = by_side s (owed_after (is_echo_of byte) (x.owing s)) x.owing

    answered_then : (host : Bool) → is_marked me n (FactKind.Asks host) echoed ≡ has_echo (owing_answered (not host))
    answered_then =
        on_both (λ host. is_marked me n (FactKind.Asks host) echoed ≡ has_echo (owing_answered (not host))) s
        (fewer (FactKind.Asks s) (no_other (not s) s (other_beq s)) ∙ r.asks s ∙ sym (ap has_echo (other_side_is s (owed_after (is_echo_of byte) (x.owing s)) x.owing)))
        (none_fewer (is_topic me n (FactKind.Asks (not s))) b.known_facts
        ∙ sym (ap (λ (side : Bool). has_echo (owing_answered side)) (unturned s) ∙ ap has_echo (its_side_is s (owed_after (is_echo_of byte) (x.owing s)) x.owing)
        ∙ echo_given s x.shapes x.users x.counts byte any_owing (x.owing s) l.tally (r.returning s)))
      where
        other_beq : (y : Bool) → beq (not y) y ≡ false
        other_beq true = refl
        other_beq false = refl

    pub erp_read : ReadAs me n (answers_echo flow (after_reply flow (Erp byte) b)) (after_said_by s (Erp byte) x)
    erp_read =
        subst (λ (z : SeenTables). ReadAs me n z (after_said_by s (Erp byte) x)) (sym erp_echo)
        (read_conns me n b echoed x (after_said_by s (Erp byte) x) refl (λ u. refl) (λ u. refl) (λ on link. fewer (FactKind.LinkSuspended on link) (no_link (not s) on link) ∙ r.links on link)
        (λ host. fewer (FactKind.EchoesRest host) (no_rest (not s) host) ∙ r.echoes host) (λ host bytes. fewer (FactKind.Admits host bytes) (no_admission (not s) host bytes) ∙ r.admits host bytes) answered_then
        (left_by_sides (Erp byte) (owed_after (is_echo_of byte) (x.owing s))
        (erp_left (due_of s) s (Erp byte) (is_echo_of byte) (erp_gives byte) (echo_fits byte) b.pending_replies (x.owing s) (r.pending_replies s)))
        (owes_step s x r.returning (Erp byte) l) r.fit r)

  -- ---- an ERR: nothing asks for it, and none about a text is admitted

  pub err_unjust : (code : ℕ) (bytes : List ℕ) → error_rule flow code bytes b ≡ None → ⊥
  err_unjust code bytes v = go (is_error_admitted flow code bytes b) admitted v
    where
      none : (y : Bool) → (y && false) ≡ false
      none true = refl
      none false = refl

      admitted : is_error_admitted flow code bytes b ≡ false
      admitted = ap (λ (y : Bool). code == 5 && not (shows_command bytes) && y) (r.admits s bytes) ∙ none (code == 5 && not (shows_command bytes))

      go : (y : Bool) → y ≡ false → (if y then None else reply_rule flow (Err code bytes) (Rule.ErrUnjust code bytes) b) ≡ None → ⊥
      go true e v = cc e
      go false e v =
          let w = wanted_by (Err code bytes) (Rule.ErrUnjust code bytes) v in
          let nay : true ≡ false = sym w.0 ∙ none_fits (due_of s) s (Err code bytes) (err_gives code bytes) b.pending_replies (x.owing s) (r.pending_replies s) in cc nay
