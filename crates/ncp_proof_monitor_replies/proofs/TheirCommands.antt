-- Each command of the other that names a link, wherever it leads: what is counted of each connection stays what the host has, and
-- the replies that are due stay those that wait.
use Rattle.std.proofs.Common.{◌≡◌, ◌≤◌, ℕ, Bool, true, false, not, ◌||◌, if◌then◌else◌, List, [], ◌∷◌, ◌++◌, Option, None, Some, is_some, ◌⊎◌, inl, inr, refl, sym, ap, ◌∙◌, subst, arith}
use Rattle.std.specs.Prelude.{nat_lt}
use Rattle.std.specs.Option.{option_to_list}
use Rattle.std.specs.FinMap.{get}
use Rattle.std.specs.List.{position}
use Rattle.ncp_wire.specs.declared.command.Command.{Command}
use Rattle.ncp_wire.specs.declared.command.Command.TheVariants.{All, Gvb, Ret, Inr, Ins}
use Rattle.ncp_wire.specs.Spelling.{error_of}
use Rattle.ncp_model.specs.declared.pair.Pair.{Pair}
use Rattle.ncp_model.specs.Pairs.{sends}
use Rattle.ncp_model.specs.Endpoint.{Endpoint}
use Rattle.ncp_model.specs.Ends.{Ends, sender_on, receiver_on}
use Rattle.ncp_proof_machine.proofs.EndsGood.{EndsInvariant}
use Rattle.ncp_monitor.specs.declared.finding.Rule.{Rule}
use Rattle.ncp_interface.specs.declared.sent_message.SentMessage.{SentMessage}
use Rattle.ncp_monitor.specs.declared.link_target.LinkTarget.{LinkTarget}
use Rattle.ncp_monitor.specs.declared.conn_state.ConnState.{ConnState}
use Rattle.ncp_monitor.specs.declared.conn_state.FactKind.{FactKind}
use Rattle.ncp_monitor.specs.ConnStates.{SeenTables, has_sent_cls, has_link, conn_at_index, is_marked, link_suspended_now, suspended_pair}
use Rattle.ncp_interface.specs.Sockets.{is_senders}
use Rattle.ncp_monitor.specs.Replies.{is_due_of, is_wanted}
use Rattle.ncp_monitor.specs.Requests.{is_link_busy}
use Rattle.ncp_monitor.specs.Allocation.{target_on, owes_error, owes_error_if, demuxed_after, is_any, numbers_due, other_rule, over_rule, returned_rules}
use Rattle.ncp_monitor.proofs.LinkOrder.{Sockets}
use Rattle.ncp_monitor.proofs.Seeing.{of_conn, seen}
use Rattle.ncp_proof_monitor_allocation.proofs.Changed.{pair_at}
use Rattle.ncp_proof_monitor_allocation.proofs.SeenTables.{seen_of}
use Rattle.ncp_proof_monitor_allocation.proofs.Users.{Linked}
use Rattle.ncp_proof_monitor_allocation.proofs.Untaken.{Held}
use Rattle.ncp_proof_monitor_allocation.proofs.Proper.{ProperEnds}
use Rattle.ncp_proof_monitor_allocation.proofs.TidyBooks.{Tidy}
use Rattle.ncp_proof_monitor_allocation.proofs.LinkPlaces.{UserAt, AllUnique, LeadsTo, ToRest, ToNobody, ToClosed, ToUnasked, ToOpen, command_leads}
use Rattle.ncp_proof_monitor_allocation.proofs.Plain.{Plain, RecalledOn, returns_due, recalled_conn}
use Rattle.ncp_proof_monitor_allocation.proofs.Words.{link_given}
use Rattle.ncp_proof_monitor_allocation.proofs.Counted.{Counted, PairsAgree}
use Rattle.ncp_proof_monitor_replies.proofs.OwedItems.{OwedBy}
use Rattle.ncp_proof_monitor_allocation.proofs.LinksReach.{led_sender, led_receiver, receiver_led}
use Rattle.ncp_proof_monitor_allocation.proofs.LinksOpen.{Unheeded, ret_unasked, ins_unasked}
use Rattle.ncp_proof_monitor_allocation.proofs.LinksUnheard.{end_of_user, all_unknown, gvb_unknown, inr_unknown, all_closed, gvb_closed, inr_closed}
use Rattle.ncp_proof_monitor_allocation.proofs.LinksDid.{ends_after, made_of, Silent, Erred, is_gvb, Did, Stayed, Changed, Gave, all_did, gvb_did, ret_did, inr_did, ins_did}
use Rattle.ncp_proof_monitor_allocation.proofs.LinksCome.{reach}
use Rattle.ncp_proof_monitor_replies.proofs.TheirLinks.{names_link}
use Rattle.ncp_proof_monitor_replies.proofs.TheirOpen.{their_all, their_inr, their_ins, return_tables, their_ret, r_at}
use Rattle.ncp_proof_monitor_replies.proofs.TheirGvb.{their_gvb}
use Rattle.ncp_proof_monitor_replies.proofs.TheirOver.{wanted_due, over_both}
use Rattle.ncp_proof_monitor_replies.proofs.TheirLeads.{Both, sent_at_rest, received_at_rest, received_suspended, unheeded_both, unknown_both}
use Rattle.ncp_proof_monitor_replies.proofs.TheirSuspended.{pair_both}

no_ret : (m : Ends) (said : Command) (on : ℕ) (o : Option (Pair × Endpoint)) → Did m said on o → is_gvb said ≡ false → (x y : ℕ) → made_of m said ≡ Ret on x y ∷ [] → ⊥
no_ret m said on o (Stayed k (Silent q)) g x y e = cc (sym q ∙ e)
no_ret m said on o (Stayed k (Erred code fits q)) g x y e = cc (sym q ∙ e)
no_ret m said on o (Changed p f then_end known_facts one q) g x y e = cc (sym q ∙ e)
no_ret m said on o (Gave gvb p f a b then_end known_facts one i j q) g x y e = cc (sym gvb ∙ g)

module _ (me n : ℕ) (m : Ends) (good : EndsInvariant m) (proper : ProperEnds m) (w : List Command) (b : SeenTables) (tidy : Tidy b) (unique : AllUnique me n b) (linked : Linked me n b) (held : Held me n m b) (pairs : PairsAgree me n m w b) (c : Counted me n m w b) (owed : OwedBy me n m w b) (kept : List SentMessage) (on : ℕ) where
  -- the books after it, by where it leads
  abbrev sent_tables : Command → LinkTarget → SeenTables
  sent_tables said led = demuxed_after (record { at = me; peer = n; sent = false }) kept said (record { host = false; link = on }) b led

  abbrev received_tables : Command → LinkTarget → SeenTables
  received_tables said led = demuxed_after (record { at = me; peer = n; sent = false }) kept said (record { host = true; link = on }) b led

  its_link_is : (host : Bool) (u : Sockets) (user : UserAt me n host on b u) → link_given (is_senders u.0) (seen_of me n b u) ≡ Some on
  its_link_is host u user =
      ap (λ (o : Option ConnState). link_given (is_senders u.0) (seen o)) user.seen
      ∙ ap (λ (z : Bool). link_given (is_senders u.0) (Some (record (of_conn conn) { own = if z then conn.size else conn.link; others = if z then conn.link else conn.size }))) (ap is_senders user.sockets.local)
      ∙ by (is_senders u.0) ∙ user.given
    where
      conn : ConnState
      conn = conn_at_index b.conns user.place

      by : (s : Bool) → (if s then (if s then conn.link else conn.size) else (if s then conn.size else conn.link)) ≡ conn.link
      by true = refl
      by false = refl

  -- ---- ALL, GVB and INR: the host sends

  module _ (said : Command) (named : names_link said ≡ true) (d : Did m said on (sender_on on m)) (unknown : is_marked me n (FactKind.LinkSuspended false on) b ≡ false → position (has_link me n false on) b.conns ≡ None → (ends_after m said ≡ m) × (made_of m said ≡ error_of 5 said ∷ [])) (closed : is_marked me n (FactKind.LinkSuspended false on) b ≡ false → (u : Sockets) (user : UserAt me n false on b u) → (conn_at_index b.conns user.place).peer_left ≡ true → Unheeded m said) (opened : is_marked me n (FactKind.LinkSuspended false on) b ≡ false → (u : Sockets) (user : UserAt me n false on b u) → (conn_at_index b.conns user.place).peer_left ≡ false → (size : ℕ) → (conn_at_index b.conns user.place).size ≡ Some size → (sent_tables said (LinkTarget.Open user.place)).full ≡ false → Plain me n (sent_tables said (LinkTarget.Open user.place)) → Both me n m said w (sent_tables said (LinkTarget.Open user.place))) where
    sent_both : (led : LinkTarget) → LeadsTo me n (λ (conn : ConnState). has_sent_cls conn false) false on b led → (sent_tables said led).full ≡ false → Plain me n (sent_tables said led) → Both me n m said w (sent_tables said led)
    sent_both led (ToRest e marked) room plain =
        subst (λ (l : LinkTarget). Both me n m said w (sent_tables said l)) (sym e)
        (sent_at_rest me n m good w b pairs c owed said named on marked d (subst (λ (l : LinkTarget). (sent_tables said l).full ≡ false) e room) (subst (λ (l : LinkTarget). Plain me n (sent_tables said l)) e plain))
    sent_both led (ToNobody e unmarked none) room plain =
        let k = unknown unmarked none in
        subst (λ (l : LinkTarget). Both me n m said w (sent_tables said l)) (sym e)
        (unknown_both me n m good w b pairs c owed said named on k.0 k.1 (subst (λ (l : LinkTarget). (sent_tables said l).full ≡ false) e room) (subst (λ (l : LinkTarget). Plain me n (sent_tables said l)) e plain))
    sent_both led (ToClosed e unmarked u user k) room plain =
        subst (λ (l : LinkTarget). Both me n m said w (sent_tables said l)) (sym e)
        (unheeded_both me n m good w b pairs c owed said named on (closed unmarked u user k) (subst (λ (l : LinkTarget). (sent_tables said l).full ≡ false) e room) (subst (λ (l : LinkTarget). Plain me n (sent_tables said l)) e plain))
    sent_both led (ToUnasked u user e unmarked k) room plain =
        subst (λ (l : LinkTarget). Both me n m said w (sent_tables said l)) (sym e)
        (subst (λ (p : Sockets). Both me n m said w (owes_error (record { at = me; peer = n; sent = false }) said false (suspended_pair me n p.0 p.1 b))) (sym own)
        (pair_both me n m proper w b pairs c owed said named on u (sender_on on m) d (λ p f. (led_sender m on p.0 p.1 f).there) (λ p f. end_of_user me n on m w b good tidy held pairs unmarked u user p f) (λ g. sender) (its_link_is false u user)
        (subst (λ (p : Sockets). (owes_error (record { at = me; peer = n; sent = false }) said false (suspended_pair me n p.0 p.1 b)).full ≡ false) own (subst (λ (l : LinkTarget). (sent_tables said l).full ≡ false) e room))
        (subst (λ (p : Sockets). Plain me n (owes_error (record { at = me; peer = n; sent = false }) said false (suspended_pair me n p.0 p.1 b))) own (subst (λ (l : LinkTarget). Plain me n (sent_tables said l)) e plain))))
      where
        own : ((conn_at_index b.conns user.place).local, (conn_at_index b.conns user.place).remote) ≡ u
        own = ap (λ (x : ℕ). (x, (conn_at_index b.conns user.place).remote)) user.sockets.local ∙ ap (λ (x : ℕ). (u.0, x)) user.sockets.remote

        sender : is_senders u.0 ≡ true
        sender = by (is_senders u.0) user.receives
          where
            by : (x : Bool) → not x ≡ false → x ≡ true
            by true k = refl
            by false k = absurd (cc k)
    sent_both led (ToOpen u user e unmarked size k) room plain =
        subst (λ (l : LinkTarget). Both me n m said w (sent_tables said l)) (sym e)
        (opened unmarked u user k.0 size k.1 (subst (λ (l : LinkTarget). (sent_tables said l).full ≡ false) e room) (subst (λ (l : LinkTarget). Plain me n (sent_tables said l)) e plain))

  -- ---- each of these

  abbrev led_sent : LinkTarget
  led_sent = target_on (record { at = me; peer = n; sent = false }) (record { host = false; link = on }) b

  abbrev led_received : LinkTarget
  led_received = target_on (record { at = me; peer = n; sent = false }) (record { host = true; link = on }) b

  pub all_both : (x y : ℕ) → (sent_tables (All on x y) led_sent).full ≡ false → Plain me n (sent_tables (All on x y) led_sent) → Both me n m (All on x y) w (sent_tables (All on x y) led_sent)
  all_both x y =
      sent_both (All on x y) refl (all_did m good on x y)
      (λ unmarked none. let k = all_unknown me n on m w b good tidy held pairs unmarked x y none in (k.ends, k.made))
      (λ unmarked u user k. all_closed me n on m w b good tidy held pairs unmarked x y u user k)
      (λ unmarked u user k size z room plain. their_all me n m good w b proper unique linked pairs c owed on unmarked u user k size z x y room plain) led_sent (command_leads me n false false on b unique)

  pub inr_both : (sent_tables (Inr on) led_sent).full ≡ false → Plain me n (sent_tables (Inr on) led_sent) → Both me n m (Inr on) w (sent_tables (Inr on) led_sent)
  inr_both =
      sent_both (Inr on) refl (inr_did m good on)
      (λ unmarked none. let k = inr_unknown me n on m w b good tidy held pairs unmarked none in (k.ends, k.made))
      (λ unmarked u user k. inr_closed me n on m w b good tidy held pairs unmarked u user k)
      (λ unmarked u user k size z room plain. their_inr me n m good w b proper unique linked pairs c owed on unmarked u user k size z) led_sent (command_leads me n false false on b unique)

  -- a leaving sender has a text out
  pub gvb_both : (busy : (u : Sockets) (e : Endpoint) → get m (pair_at u) ≡ Some e → sends (pair_at u) ≡ true → e.link ≡ on → e.leaving ≡ true → is_link_busy me n (Some on) kept ≡ true) (x y : ℕ) → (sent_tables (Gvb on x y) led_sent).full ≡ false → Plain me n (sent_tables (Gvb on x y) led_sent)
      → Both me n m (Gvb on x y) w (sent_tables (Gvb on x y) led_sent)
  gvb_both busy x y =
      sent_both (Gvb on x y) refl (gvb_did m good on x y)
      (λ unmarked none. let k = gvb_unknown me n on m w b good tidy held pairs unmarked x y none in (k.ends, k.made))
      (λ unmarked u user k. gvb_closed me n on m w b good tidy held pairs unmarked x y u user k)
      (λ unmarked u user k size z room plain.
      their_gvb me n m good w b proper unique linked pairs c owed on unmarked u user k size z tidy kept (λ e g l. let its = its_end unmarked u user k size z e g in busy u e g its.0 its.1 l) x y room plain) led_sent (command_leads me n false false on b unique)
    where
      its_end : (unmarked : is_marked me n (FactKind.LinkSuspended false on) b ≡ false) (u : Sockets) (user : UserAt me n false on b u) (k : (conn_at_index b.conns user.place).peer_left ≡ false) (size : ℕ) (z : (conn_at_index b.conns user.place).size ≡ Some size) (e : Endpoint)
          → get m (pair_at u) ≡ Some e → (sends (pair_at u) ≡ true) × (e.link ≡ on)
      its_end unmarked u user k size z e g =
          let at = reach me n m w b proper unique linked pairs c false on unmarked u user k (Some size) z size refl in
          let is : at.end ≡ e = cc (sym at.there ∙ g) in (at.sender, ap (λ (x : Endpoint). x.link) (sym is) ∙ at.its_link)

  -- ---- RET and INS: the host receives

  module _ (said : Command) (named : names_link said ≡ true) (other : is_gvb said ≡ false) (d : Did m said on (receiver_on on m)) (unasked : is_marked me n (FactKind.LinkSuspended true on) b ≡ false → (u : Sockets) (user : UserAt me n true on b u) → (conn_at_index b.conns user.place).peer_left ≡ false → (conn_at_index b.conns user.place).size ≡ None → Unheeded m said) (opened : is_marked me n (FactKind.LinkSuspended true on) b ≡ false → (u : Sockets) (user : UserAt me n true on b u) → (conn_at_index b.conns user.place).peer_left ≡ false → (size : ℕ) → (conn_at_index b.conns user.place).size ≡ Some size → (received_tables said (LinkTarget.Open user.place)).full ≡ false → Plain me n (received_tables said (LinkTarget.Open user.place)) → Both me n m said w (received_tables said (LinkTarget.Open user.place))) where
    received_both : (led : LinkTarget) → LeadsTo me n (λ (conn : ConnState). has_sent_cls conn false) true on b led → (received_tables said led).full ≡ false → Plain me n (received_tables said led) → Both me n m said w (received_tables said led)
    received_both led (ToRest e marked) room plain =
        subst (λ (l : LinkTarget). Both me n m said w (received_tables said l)) (sym e)
        (received_at_rest me n m good w b pairs c owed said named on other marked d (no_ret m said on (receiver_on on m) d other) (subst (λ (l : LinkTarget). (received_tables said l).full ≡ false) e room) (subst (λ (l : LinkTarget). Plain me n (received_tables said l)) e plain))
    received_both led (ToNobody e unmarked none) room plain =
        subst (λ (l : LinkTarget). Both me n m said w (received_tables said l)) (sym e)
        (received_suspended me n m good w b pairs c owed said named on other d (no_ret m said on (receiver_on on m) d other) (subst (λ (l : LinkTarget). (received_tables said l).full ≡ false) e room) (subst (λ (l : LinkTarget). Plain me n (received_tables said l)) e plain))
    received_both led (ToClosed e unmarked u user k) room plain =
        subst (λ (l : LinkTarget). Both me n m said w (received_tables said l)) (sym e)
        (received_suspended me n m good w b pairs c owed said named on other d (no_ret m said on (receiver_on on m) d other) (subst (λ (l : LinkTarget). (received_tables said l).full ≡ false) e room) (subst (λ (l : LinkTarget). Plain me n (received_tables said l)) e plain))
    received_both led (ToUnasked u user e unmarked k) room plain =
        subst (λ (l : LinkTarget). Both me n m said w (received_tables said l)) (sym e)
        (unheeded_both me n m good w b pairs c owed said named on (unasked unmarked u user k.0 k.1) (subst (λ (l : LinkTarget). (received_tables said l).full ≡ false) e room) (subst (λ (l : LinkTarget). Plain me n (received_tables said l)) e plain))
    received_both led (ToOpen u user e unmarked size k) room plain =
        subst (λ (l : LinkTarget). Both me n m said w (received_tables said l)) (sym e)
        (opened unmarked u user k.0 size k.1 (subst (λ (l : LinkTarget). (received_tables said l).full ≡ false) e room) (subst (λ (l : LinkTarget). Plain me n (received_tables said l)) e plain))

  pub ins_both : (received_tables (Ins on) led_received).full ≡ false → Plain me n (received_tables (Ins on) led_received) → Both me n m (Ins on) w (received_tables (Ins on) led_received)
  ins_both =
      received_both (Ins on) refl refl (ins_did m good on)
      (λ unmarked u user k z.
      ins_unasked m good u on (conn_at_index b.conns user.place).host_left _ (reach me n m w b proper unique linked pairs c true on unmarked u user k None z on refl))
      (λ unmarked u user k size z room plain. their_ins me n m good w b proper unique linked pairs c owed on unmarked u user k size z) led_received (command_leads me n false true on b unique)

  -- ---- RET of an open connection: by whether it is due

  pub ret_both : (x y : ℕ) → (received_tables (Ret on x y) led_received).full ≡ false → Plain me n (received_tables (Ret on x y) led_received) → Both me n m (Ret on x y) w (received_tables (Ret on x y) led_received)
  ret_both x y =
      received_both (Ret on x y) refl refl (ret_did m good on x y)
      (λ unmarked u user k z.
      ret_unasked m good u on (conn_at_index b.conns user.place).host_left _ (reach me n m w b proper unique linked pairs c true on unmarked u user k None z on refl) x y)
      opened led_received (command_leads me n false true on b unique)
    where
      opened : is_marked me n (FactKind.LinkSuspended true on) b ≡ false → (u : Sockets) (user : UserAt me n true on b u) → (conn_at_index b.conns user.place).peer_left ≡ false → (size : ℕ) → (conn_at_index b.conns user.place).size ≡ Some size
          → (received_tables (Ret on x y) (LinkTarget.Open user.place)).full ≡ false → Plain me n (received_tables (Ret on x y) (LinkTarget.Open user.place)) → Both me n m (Ret on x y) w (received_tables (Ret on x y) (LinkTarget.Open user.place))
      opened unmarked u user k size z = go (is_wanted (is_due_of me n false) (Ret on x y) b.pending_replies) refl
        where
          conn : ConnState
          conn = conn_at_index b.conns user.place

          back_tables : SeenTables
          back_tables = return_tables me n m good w b proper unique linked pairs c owed on unmarked u user k size z x y

          own : (conn.local, conn.remote) ≡ u
          own = ap (λ (i : ℕ). (i, conn.remote)) user.sockets.local ∙ ap (λ (i : ℕ). (u.0, i)) user.sockets.remote

          end_at : (p : Pair × Endpoint) → receiver_on on m ≡ Some p → p.0 ≡ pair_at u
          end_at p f =
              let at = r_at me n m good w b proper unique linked pairs c owed on unmarked u user k size z in
              let is : p ≡ (pair_at u, at.end) = cc (sym f ∙ receiver_led m good on (pair_at u) at.end at.there at.receiver at.asked at.its_link) in ap (λ (q : Pair × Endpoint). q.0) is

          over_by : Bool → SeenTables
          over_by v = if v then link_suspended_now me n true on back_tables else back_tables

          wanted_by : Bool → Bool → SeenTables
          wanted_by wrong v = owes_error_if wrong (record { at = me; peer = n; sent = false }) (Ret on x y) (over_by v)

          is_wrong : Bool
          is_wrong = is_any (returned_rules (record { at = me; peer = n; sent = false }) (Ret on x y) x y conn b.pending_replies)

          first_less : (a b c d : ℕ) → (nat_lt c a || nat_lt d b) ≡ false → a ≤ c
          first_less a b c d e = grind arith

          second_less : (a b c d : ℕ) → (nat_lt c a || nat_lt d b) ≡ false → b ≤ d
          second_less a b c d e = grind arith

          recalls : is_wanted (is_due_of me n false) (Ret on x y) b.pending_replies ≡ true → conn.recall ≡ true
          recalls e = by (c.plain.recalled on unmarked)
            where
              by : (returns_due me n false on b.pending_replies ≡ 0) ⊎ ((returns_due me n false on b.pending_replies ≤ 1) × RecalledOn me n b on) → conn.recall ≡ true
              by (inl none) = absurd (wanted_due me n on x y b.pending_replies e none)
              by (inr r) = recalled_conn me n b on u user tidy r.1

          by_over : is_wanted (is_due_of me n false) (Ret on x y) b.pending_replies ≡ true → (v : Bool) → (nat_lt conn.messages x || nat_lt conn.bits y) ≡ v → (is_some (if v then Some (Rule.RetOver (Ret on x y) conn.messages conn.bits) else None)) ≡ v → (wrong : Bool) → (v ≡ true → wrong ≡ true)
              → (wanted_by wrong v).full ≡ false → Plain me n (wanted_by wrong v) → Both me n m (Ret on x y) w (wanted_by wrong v)
          by_over e false h s wrong i room plain =
              their_ret me n m good w b proper unique linked pairs c owed on unmarked u user k size z x y wrong room plain (first_less x y conn.messages conn.bits h) (second_less x y conn.messages conn.bits h) (recalls e)
          by_over e true h s false i room plain = absurd (cc (i refl))
          by_over e true h s true i room plain = over_both me n m good w b proper unique linked pairs c owed on unmarked u user k size z x y room plain

          go : (v : Bool) → is_wanted (is_due_of me n false) (Ret on x y) b.pending_replies ≡ v
              → (if v then wanted_by is_wrong (is_some (over_rule (record { at = me; peer = n; sent = false }) (Ret on x y) x y conn)) else owes_error (record { at = me; peer = n; sent = false }) (Ret on x y) false (suspended_pair me n conn.local conn.remote b)).full ≡ false
              → Plain me n (if v then wanted_by is_wrong (is_some (over_rule (record { at = me; peer = n; sent = false }) (Ret on x y) x y conn)) else owes_error (record { at = me; peer = n; sent = false }) (Ret on x y) false (suspended_pair me n conn.local conn.remote b))
              → Both me n m (Ret on x y) w (if v then wanted_by is_wrong (is_some (over_rule (record { at = me; peer = n; sent = false }) (Ret on x y) x y conn)) else owes_error (record { at = me; peer = n; sent = false }) (Ret on x y) false (suspended_pair me n conn.local conn.remote b))
          go false e room plain =
              subst (λ (p : Sockets). Both me n m (Ret on x y) w (owes_error (record { at = me; peer = n; sent = false }) (Ret on x y) false (suspended_pair me n p.0 p.1 b))) (sym own)
              (pair_both me n m proper w b pairs c owed (Ret on x y) refl on u (receiver_on on m) (ret_did m good on x y) (λ p f. (led_receiver m on p.0 p.1 f).there) end_at (λ g. absurd (cc g)) (its_link_is true u user)
              (subst (λ (p : Sockets). (owes_error (record { at = me; peer = n; sent = false }) (Ret on x y) false (suspended_pair me n p.0 p.1 b)).full ≡ false) own room)
              (subst (λ (p : Sockets). Plain me n (owes_error (record { at = me; peer = n; sent = false }) (Ret on x y) false (suspended_pair me n p.0 p.1 b))) own plain))
          go true e room plain = at_over (nat_lt conn.messages x || nat_lt conn.bits y) refl room plain
            where
              over_of : Bool → Bool
              over_of v = is_some (if v then Some (Rule.RetOver (Ret on x y) conn.messages conn.bits) else None)

              at_over : (v : Bool) → (nat_lt conn.messages x || nat_lt conn.bits y) ≡ v → (wanted_by is_wrong (over_of (nat_lt conn.messages x || nat_lt conn.bits y))).full ≡ false → Plain me n (wanted_by is_wrong (over_of (nat_lt conn.messages x || nat_lt conn.bits y)))
                  → Both me n m (Ret on x y) w (wanted_by is_wrong (over_of (nat_lt conn.messages x || nat_lt conn.bits y)))
              at_over v h room plain =
                  subst (λ (o : Bool). Both me n m (Ret on x y) w (wanted_by is_wrong o)) (sym is)
                  (by_over e v h (over_is v) is_wrong (wrong_if v h) (subst (λ (o : Bool). (wanted_by is_wrong o).full ≡ false) is room) (subst (λ (o : Bool). Plain me n (wanted_by is_wrong o)) is plain))
                where
                  over_is : (v : Bool) → over_of v ≡ v
                  over_is true = refl
                  over_is false = refl

                  is : over_of (nat_lt conn.messages x || nat_lt conn.bits y) ≡ v
                  is = ap over_of h ∙ over_is v

                  any_after_it : (rules : List Rule) (wrong : Rule) → is_any (rules ++ wrong ∷ []) ≡ true
                  any_after_it [] wrong = refl
                  any_after_it (r ∷ rules) wrong = refl

                  wrong_if : (v : Bool) → (nat_lt conn.messages x || nat_lt conn.bits y) ≡ v → v ≡ true → is_wrong ≡ true
                  wrong_if v h t =
                      ap (λ (o : Bool). is_any (if o then others ++ option_to_list (over_rule (record { at = me; peer = n; sent = false }) (Ret on x y) x y conn) else [])) e
                      ∙ ap (λ (o : Bool). is_any (others ++ option_to_list (if o then Some (Rule.RetOver (Ret on x y) conn.messages conn.bits) else None))) (h ∙ t)
                      ∙ any_after_it others (Rule.RetOver (Ret on x y) conn.messages conn.bits)
                    where
                      others : List Rule
                      others = option_to_list (other_rule (record { at = me; peer = n; sent = false }) (Ret on x y) x y (numbers_due (is_due_of me n false) (Ret on x y) b.pending_replies))
