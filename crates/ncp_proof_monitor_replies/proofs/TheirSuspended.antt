-- A command of the other host about a link that suspends its connection: for any effect at the host, all
-- facts still hold.
use Rattle.std.proofs.Common.{◌≡◌, ℕ, Bool, true, false, not, ◌&&◌, List, [], ◌∷◌, ◌++◌, map, Option, Some, is_some, refl, sym, ap, ◌∙◌, subst}
use Rattle.std.specs.FinMap.{get}
use Rattle.std.specs.List.{filter, list_any}
use Rattle.ncp_wire.specs.declared.command.Command.{Command}
use Rattle.ncp_wire.specs.declared.command.Command.TheVariants.{Ret}
use Rattle.ncp_model.specs.declared.pair.Pair.{Pair}
use Rattle.ncp_model.specs.Pairs.{sends}
use Rattle.ncp_model.specs.Endpoint.{Endpoint, is_closing}
use Rattle.ncp_model.specs.Ends.{Ends}
use Rattle.ncp_monitor.specs.declared.conn_state.ConnState.{ConnState}
use Rattle.ncp_monitor.specs.declared.conn_state.FactKind.{FactKind}
use Rattle.ncp_monitor.specs.ConnStates.{SeenTables, is_of_sockets, is_topic, is_marked, suspended_pair}
use Rattle.ncp_interface.specs.Sockets.{is_senders}
use Rattle.ncp_monitor.specs.Replies.{error_wanted}
use Rattle.ncp_monitor.specs.Allocation.{other_code, owes_error}
use Rattle.ncp_monitor.proofs.LinkOrder.{Sockets}
use Rattle.ncp_monitor.proofs.Firsts.{first, Unique}
use Rattle.ncp_proof_monitor_allocation.proofs.Changed.{pair_at, OneEnd}
use Rattle.ncp_proof_monitor_allocation.proofs.SeenTables.{conn_seen, seen_of, is_suspended, receives_at}
use Rattle.ncp_proof_monitor_allocation.proofs.Resting.{OneSuspended, due_with, due_room, pair_suspended}
use Rattle.ncp_proof_monitor_allocation.proofs.Proper.{ProperEnds}
use Rattle.ncp_proof_monitor_allocation.proofs.Plain.{Plain}
use Rattle.ncp_proof_monitor_allocation.proofs.TextErrors.{AllAdmitted}
use Rattle.ncp_proof_monitor_allocation.proofs.Words.{Word, Returns, link_given, Hidden, LinkHidden, has_link_of}
use Rattle.ncp_proof_monitor_allocation.proofs.Counted.{is_worded, command_of, words_of, links_by, Counted, PairsAgree}
use Rattle.ncp_proof_monitor_allocation.proofs.CountedSteps.{suspended_counted, pair_marked}
use Rattle.ncp_proof_monitor_replies.proofs.OwedItems.{OwedBy}
use Rattle.ncp_proof_monitor_replies.proofs.OwedSteps.{owed_pair_suspended}
use Rattle.ncp_proof_monitor_allocation.proofs.LinksOpen.{sexes}
use Rattle.ncp_proof_monitor_allocation.proofs.LinksDid.{SameFacts, ends_after, made_of, Quiet, Silent, Erred, is_gvb, Did, Stayed, Changed, Gave}
use Rattle.ncp_proof_monitor_replies.proofs.TheirLinks.{names_link, quiet_unworded, quiet_admits, unsure_owed}
use Rattle.ncp_proof_monitor_replies.proofs.TheirLeads.{Both}

-- u: whose connection comes to rest; o: the end to which the link leads is that of u
module _ (me n : ℕ) (m : Ends) (proper : ProperEnds m) (w : List Command) (b : SeenTables) (pairs : PairsAgree me n m w b) (c : Counted me n m w b) (owed : OwedBy me n m w b) (said : Command) (named : names_link said ≡ true) (on : ℕ) (u : Sockets) (o : Option (Pair × Endpoint)) (d : Did m said on o) (there : (p : Pair × Endpoint) → o ≡ Some p → get m p.0 ≡ Some p.1) (at_u : (p : Pair × Endpoint) → o ≡ Some p → p.0 ≡ pair_at u) (sends_it : is_gvb said ≡ true → is_senders u.0 ≡ true) (given : link_given (is_senders u.0) (seen_of me n b u) ≡ Some on) where
  abbrev mid : SeenTables
  mid = suspended_pair me n u.0 u.1 b

  abbrev after : SeenTables
  after = owes_error (record { at = me; peer = n; sent = false }) said false mid

  module _ (room : after.full ≡ false) (plain : Plain me n after) where
    mid_room : mid.full ≡ false
    mid_room = due_room mid (record { at = me; peer = n; host = true; wanted = error_wanted 5 (other_code said) said; mandatory = false }) room

    same_tables : (after.conns ≡ mid.conns) × (after.known_facts ≡ mid.known_facts)
    same_tables = (due_with mid (record { at = me; peer = n; host = true; wanted = error_wanted 5 (other_code said) said; mandatory = false }) room).1

    seen_same : (v : Sockets) → conn_seen me n after v ≡ conn_seen me n mid v
    seen_same v = ap (λ (xs : List ConnState). first (is_of_sockets me n v.0 v.1) xs) same_tables.0

    suspended_too : OneSuspended me n b after u
    suspended_too =
        let k = pair_suspended me n u b mid_room in
        record {
          room = k.room;
          seen = λ v e. seen_same v ∙ k.seen v e;
          suspended = ap is_suspended (seen_same u) ∙ k.suspended;
          known_facts = λ what z. ap (list_any (is_topic me n what)) same_tables.1 ∙ k.known_facts what z;
          unique = λ v z. subst (Unique (is_of_sockets me n v.0 v.1)) (sym same_tables.0) (k.unique v z);
        }

    marked : (l : ℕ) → link_given (is_senders u.0) (seen_of me n b u) ≡ Some l → links_by me n after (receives_at u) l ≡ true
    marked l g = ap (list_any (is_topic me n (FactKind.LinkSuspended (receives_at u) l))) same_tables.1 ∙ pair_marked me n u b mid_room l g

    of_sex : is_some (get m (pair_at u)) ≡ true → sends (pair_at u) ≡ is_senders u.0
    of_sex k = (sexes (pair_at u) (is_senders u.0) (proper (pair_at u) k) refl).0

    rested : (end : Option Endpoint) (made : List Command) (more : List Word) → filter is_worded made ≡ map command_of (words_of u more) → AllAdmitted me n made after → OneEnd m (ends_after m said) (pair_at u) end
        → ((known : ℕ → Bool) → ((l : ℕ) → links_by me n after (receives_at u) l ≡ true → known l ≡ true) → LinkHidden (get m (pair_at u)) (is_senders u.0) known → Hidden (is_senders u.0) known (LinkHidden end (is_senders u.0)) more)
        → made_of m said ≡ made → Counted me n (ends_after m said) (w ++ made_of m said) after
    rested end made more spells admits one quiet e =
        subst (λ (x : List Command). Counted me n (ends_after m said) (w ++ x) after) (sym e)
        (suspended_counted me n m (ends_after m said) w made b after u more spells c pairs plain admits end suspended_too one of_sex (λ r l g. marked l g) quiet)

    -- its end has the same link
    still_hidden : (p : Pair × Endpoint) → o ≡ Some p → (then_end : Endpoint) → SameFacts p.1 then_end → (known : ℕ → Bool) → LinkHidden (get m (pair_at u)) (is_senders u.0) known → LinkHidden (Some then_end) (is_senders u.0) known
    still_hidden p f then_end known_facts known h e g k l =
        let is : then_end ≡ e = cc g in
        let same_link : e.link ≡ p.1.link = ap (λ (x : Endpoint). x.link) (sym is) ∙ known_facts.its_link in
        ap known same_link
        ∙ h p.1 (ap (get m) (sym (at_u p f)) ∙ there p f) (sym known_facts.going ∙ ap is_closing is ∙ k) (by (is_senders u.0) (ap (has_link_of (is_senders u.0)) is ∙ l))
      where
        by : (s : Bool) → has_link_of s then_end ≡ true → has_link_of s p.1 ≡ true
        by true k = sym known_facts.heard ∙ k
        by false k = sym known_facts.asked ∙ k

    one_at : (p : Pair × Endpoint) → o ≡ Some p → (end : Option Endpoint) → OneEnd m (ends_after m said) p.0 end → OneEnd m (ends_after m said) (pair_at u) end
    one_at p f end one = subst (λ (x : Pair). OneEnd m (ends_after m said) x end) (at_u p f) one

    counted : Did m said on o → Counted me n (ends_after m said) (w ++ made_of m said) after
    counted (Stayed k q) =
        rested (get m (pair_at u)) (made_of m said) [] (quiet_unworded said (made_of m said) q) (quiet_admits me n said (made_of m said) after named q)
        (record { there = ap (λ (x : Ends). get x (pair_at u)) k; elsewhere = λ q e. ap (λ (x : Ends). get x q) k }) (λ known f h. h) refl
    counted (Changed p f then_end known_facts one made) = rested (Some then_end) [] [] refl tt (one_at p f (Some then_end) one) (λ known g h. still_hidden p f then_end known_facts known h) made
    counted (Gave gvb p f g open_end then_end known_facts one x y made) =
        rested (Some then_end) (Ret on x y ∷ []) (Returns on x y ∷ []) refl ((λ t. absurd (cc t)), tt) (one_at p f (Some then_end) one)
        (λ known k h. (ap (λ (z : Bool). z && known on) (sends_it gvb) ∙ k on (marked on given), still_hidden p f then_end known_facts known h)) made

    pub pair_both : Both me n m said w after
    pair_both = (counted d, unsure_owed me n m on said o there d w mid named room rests_on (owed_pair_suspended me n m w u b mid_room owed))
      where
        rests_on : (x y : ℕ) → made_of m said ≡ Ret on x y ∷ [] → is_marked me n (FactKind.LinkSuspended false on) mid ≡ true
        rests_on x y e = go d
          where
            not_ret : Quiet said (made_of m said) → ⊥
            not_ret (Silent k) = cc (sym k ∙ e)
            not_ret (Erred code fits k) = cc (sym k ∙ e)

            go : Did m said on o → is_marked me n (FactKind.LinkSuspended false on) mid ≡ true
            go (Stayed k q) = absurd (not_ret q)
            go (Changed p f then_end known_facts one k) = absurd (cc (sym k ∙ e))
            go (Gave gvb p f g open_end then_end known_facts one i j k) = ap (λ (z : Bool). is_marked me n (FactKind.LinkSuspended (not z) on) mid) (sym (sends_it gvb)) ∙ pair_marked me n u b mid_room on given
