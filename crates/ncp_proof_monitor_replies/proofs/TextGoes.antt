-- A text of the host is sent: no rule is broken, and both sides lower the counts of its connection by the
-- same amounts.
use Rattle.std.proofs.Common.{◌≡◌, ℕ, ◌*◌, ◌≤◌, Bool, true, false, not, ◌&&◌, ◌||◌, if◌then◌else◌, List, [], ◌∷◌, length, Option, None, Some, is_some, inl, refl, sym, ap, ◌∙◌, subst, arith}
use Rattle.std.specs.Prelude.{◌-◌, nat_le, drop}
use Rattle.std.specs.FinMap.{get}
use Rattle.std.specs.List.{position}
use Rattle.std.proofs.lemmas.Bool.{and_parts}
use Rattle.std.proofs.lemmas.Bool.Decides.{nat_tests}
use Rattle.ncp_leader.specs.Message.{Message}
use Rattle.ncp_wire.specs.declared.command.Command.{Command}
use Rattle.ncp_model.specs.declared.pair.Pair.{Pair}
use Rattle.ncp_model.specs.Pairs.{sends, is_receive}
use Rattle.ncp_model.specs.Endpoint.{Endpoint, is_closing, is_open}
use Rattle.ncp_model.specs.Ends.{Ends}
use Rattle.ncp_model.specs.Effect.{Stays, end_after}
use Rattle.ncp_model.specs.Texts.{bytes_to_send, can_send, cut_bits, cut}
use Rattle.ncp_model.specs.Demux.{passes}
use Rattle.ncp_proof_endpoint.specs.Sound.{SoundEnd}
use Rattle.ncp_monitor.specs.declared.link_target.LinkTarget.{LinkTarget}
use Rattle.ncp_monitor.specs.declared.conn_state.ConnState.{ConnState}
use Rattle.ncp_monitor.specs.declared.conn_state.FactKind.{FactKind}
use Rattle.ncp_monitor.specs.ConnStates.{SeenTables, is_of_sockets, has_link, same_topic, conn_at_index, is_marked, put_conn, facts_now}
use Rattle.ncp_interface.specs.Sockets.{is_senders}
use Rattle.ncp_monitor.specs.Texts.{text_shown, text_target_at, text_target, text_rules, demuxed_after_text, conn_tables_after_text}
use Rattle.ncp_monitor.proofs.Shapes.{Shape, Say, Ask, Leave, Agrees, own_step, is_closed, others_of, others_were}
use Rattle.ncp_monitor.proofs.LinkOrder.{Sockets, same, same_is, about}
use Rattle.ncp_monitor.proofs.BooksAt.{has_sockets}
use Rattle.ncp_monitor.proofs.Firsts.{first}
use Rattle.ncp_monitor.proofs.Seeing.{of_conn, seen}
use Rattle.ncp_proof_monitor_allocation.proofs.Echoing.{fact_other}
use Rattle.ncp_proof_monitor_allocation.proofs.KeptEnds.{number_if, of_end, kept}
use Rattle.ncp_proof_monitor_allocation.proofs.OwnMoves.{all_says, sockets_of}
use Rattle.ncp_proof_monitor_allocation.proofs.Changed.{pair_at, kept_of, OneEnd, unlike}
use Rattle.ncp_proof_monitor_allocation.proofs.SeenTables.{conn_seen, seen_of, suspended_of, receives_at}
use Rattle.ncp_proof_monitor_allocation.proofs.Users.{Linked, first_passes}
use Rattle.ncp_proof_monitor_allocation.proofs.Resting.{fact_conns, fact_keeps}
use Rattle.ncp_proof_monitor_allocation.proofs.TidyBooks.{Tidy, numbered}
use Rattle.ncp_proof_monitor_allocation.proofs.LinkPlaces.{OpensAt, AllUnique, own_text_open, renumbered_here, renumbered_others, renumbered_seen, renumbered_suspended}
use Rattle.ncp_proof_monitor_allocation.proofs.Came.{has_come}
use Rattle.ncp_proof_monitor_allocation.proofs.SameShapes.{SameShapes, conns_same, numbered_same}
use Rattle.ncp_proof_monitor_replies.proofs.LinksGo.{own_flow, text_rest, text_right, text_after}
use Rattle.ncp_proof_monitor_allocation.proofs.LinksReach.{Standing, Stands, Leaves, open_stays}
use Rattle.ncp_proof_monitor_allocation.proofs.LinkCounts.{Lasting, sender_counted, sender_agreed}
use Rattle.ncp_proof_monitor_allocation.proofs.Words.{Word, Speaks, Grants, Recalls, Returns, Hints, Count, no_count, count_of, link_given, count_after, Agreed, Fits, LinkHidden, has_link_of, NoneCounted, agreed_fits, hidden_wider}
use Rattle.ncp_proof_monitor_allocation.proofs.TextErrors.{admitted_wider}
use Rattle.ncp_proof_monitor_allocation.proofs.Plain.{count_seen, is_opened, plain_fact, plain_numbered}
use Rattle.ncp_proof_monitor_allocation.proofs.Counted.{Counted, AgreedAt, HiddenAt, PairsAgree, words_about, links_by, agreed_at, counted_wider}
use Rattle.ncp_proof_monitor_replies.proofs.OwedItems.{is_open_sender, OwedBy}
use Rattle.ncp_proof_monitor_replies.proofs.OwedSteps.{owed_stays, owed_fact, owed_moves}

-- ---- what is cut

abbrev pub cut_end : Endpoint → Endpoint
cut_end e = record e {
  messages = e.messages - 1;
  bits = e.bits - bytes_to_send e * e.size;
  stored = drop (bytes_to_send e * e.size) e.stored;
  busy = true;
}

pub record MaySend (pair : Pair) (e : Endpoint) : Type 0 where
  pub sends : sends pair ≡ true
  pub asked : e.asked ≡ true
  pub heard : e.heard ≡ true
  pub going : is_closing e ≡ false
  pub left : e.left ≡ false
  pub messages : 1 ≤ e.messages
  pub bits : bytes_to_send e * e.size ≤ e.bits

isnt : (b : Bool) → not b ≡ true → b ≡ false
isnt true e = absurd (cc e)
isnt false e = refl

sent_bits : (e : Endpoint) → bytes_to_send e * e.size ≤ e.bits
sent_bits e = grind arith

at_least : (x : ℕ) → nat_le 1 x ≡ true → 1 ≤ x
at_least x e = grind (arith, nat_tests)

pub may_send_is : (pair : Pair) (e : Endpoint) → can_send pair e ≡ true → MaySend pair e
may_send_is pair e k =
    let a = and_parts (sends pair && is_open e && not e.busy && nat_le 1 (bytes_to_send e)) (nat_le 1 e.messages) k in
    let b = and_parts (sends pair && is_open e && not e.busy) (nat_le 1 (bytes_to_send e)) a.0 in
    let c = and_parts (sends pair && is_open e) (not e.busy) b.0 in
    let d = and_parts (sends pair) (is_open e) c.0 in
    let f = and_parts (e.asked && e.heard) (not (is_closing e)) d.1 in
    let g = and_parts e.asked e.heard f.0 in
    let going = isnt (is_closing e) f.1 in
    record { sends = d.0; asked = g.0; heard = g.1; going = going; left = unleft e.leaving e.left going; messages = at_least e.messages a.1; bits = sent_bits e }
  where
    unleft : (x y : Bool) → (x || y) ≡ false → y ≡ false
    unleft true y e = absurd (cc e)
    unleft false y e = e

pub cut_after : (pair : Pair) (e : Endpoint) → can_send pair e ≡ true → end_after (Some e) (cut pair (Some e)) ≡ Some (cut_end e)
cut_after pair e k =
    ap (λ (x : Bool). end_after (Some e) (if x then cut_bits (bytes_to_send e * e.size) e else Stays None)) k
    ∙ ap (λ (x : Bool). if x && e.cls then None else Some (cut_end e)) (may_send_is pair e k).left

-- ---- what waits of a sender that has not asked yet moves no number

sender_none : (links : ℕ → Bool) (fits : Option Shape → Count → Type 0) (ws : List Word) (x : Option Shape) (k : Count) → k.messages ≡ 0 → ((y : Option Shape) (j : Count) → fits y j → j.messages ≡ 0 → ⊥) → Agreed true links fits ws x k → ⊥
sender_none links fits [] x k z f a = f x k a z
sender_none links fits (Speaks (Ask n) ∷ ws) x k z f (r, (i, a)) = sender_none links fits ws (own_step (Ask n) x) k z f a
sender_none links fits (Speaks Leave ∷ ws) x k z f (r, (i, a)) = sender_none links fits ws (own_step Leave x) (count_after (Speaks Leave) x k) (go (is_closed x)) f a
  where
    go : (c : Bool) → (if c then no_count else k).messages ≡ 0
    go true = refl
    go false = z
sender_none links fits (Grants link messages bits ∷ ws) x k z f (r, (i, a)) = absurd (cc r)
sender_none links fits (Recalls link of_messages of_bits ∷ ws) x k z f (r, (i, a)) = absurd (cc r)
sender_none links fits (Returns link messages bits ∷ ws) x k z f (r, (i, a)) = sender_none links fits ws x (count_after (Returns link messages bits) x k) z f a
sender_none links fits (Hints link ∷ ws) x k z f (r, (i, a)) = sender_none links fits ws x k z f a

-- one that the other has not closed was seen so
unclosed_seen : (q : List Say) (e m : Option Shape) (l : ℕ) → Agrees q e m → others_of e ≡ Some l → is_closed e ≡ false → is_closed m ≡ false
unclosed_seen [] e m l a o c = ap is_closed a ∙ c
unclosed_seen (Ask k ∷ q) e None l (r, a) o c = refl
unclosed_seen (Ask k ∷ q) e (Some s) l (r, a) o c = unclosed_seen q e (own_step (Ask k) (Some s)) l a o c
unclosed_seen (Leave ∷ q) e None l (r, a) o c = refl
unclosed_seen (Leave ∷ q) e (Some s) l (r, a) o c = go s.cls refl a
  where
    go : (x : Bool) → s.cls ≡ x → Agrees q e (if x then None else Some (record s { left = true })) → s.cls ≡ false
    go true z a = let nay : None ≡ Some l = others_were q e None l a o in absurd (cc nay)
    go false z a = z

-- ---- the connection of a sent text

pub record SentOf (me n on : ℕ) (b : SeenTables) (u : Sockets) (e : Endpoint) : Type 0 where
  pub conn : ConnState
  pub seen : conn_seen me n b u ≡ Some conn
  pub given : conn.link ≡ Some on
  pub sized : conn.size ≡ Some e.size
  pub left : conn.host_left ≡ false
  pub cls : conn.peer_left ≡ false
  pub messages : conn.messages ≡ e.messages
  pub bits : conn.bits ≡ e.bits
  pub lasting : Lasting true on (seen_of me n b u)

module _ (me n on : ℕ) (m : Ends) (w : List Command) (b : SeenTables) (pair : Pair) (e : Endpoint) (there : get m pair ≡ Some e) (its_link : e.link ≡ on) (may : MaySend pair e) (sound : SoundEnd pair e)
    (held : (u : Sockets) (d : Endpoint) → get m (pair_at u) ≡ Some d → suspended_of me n b u ≡ true → sends (pair_at u) ≡ true → d.heard ≡ true → is_marked me n (FactKind.LinkSuspended false d.link) b ≡ true)
    (pairs : PairsAgree me n m w b) (counted : Counted me n m w b) where
  abbrev u : Sockets
  u = sockets_of pair

  sender : is_senders pair.local ≡ true
  sender = (and_parts (is_senders pair.local) (is_receive pair.remote) may.sends).0

  kept_is : kept_of m u ≡ Some (of_end true e)
  kept_is = ap (λ (x : Bool). kept x (get m pair)) may.sends ∙ ap (kept true) there

  kept_others : others_of (Some (of_end true e)) ≡ Some on
  kept_others = ap (λ (x : Bool). number_if x e.link) may.heard ∙ ap (λ (x : ℕ). Some x) its_link

  unclosed : e.cls ≡ false
  unclosed = go e.cls refl
    where
      go : (x : Bool) → e.cls ≡ x → e.cls ≡ false
      go false z = z
      go true z = let nay : true ≡ false = sym (ap (λ (x : Bool). x || e.left) (sound.shut z)) ∙ may.going in absurd (cc nay)

  -- by its sex
  by_sex : (fits : Bool → (ℕ → Bool) → Option Shape → Count → Type 0) → Agreed (is_senders u.0) (links_by me n b (receives_at u)) (fits (is_senders u.0) (links_by me n b (receives_at u))) (words_about u counted.words) (seen_of me n b u) (count_seen me n b u)
      → Agreed true (links_by me n b false) (fits true (links_by me n b false)) (words_about u counted.words) (seen_of me n b u) (count_seen me n b u)
  by_sex fits a = subst (λ (s : Bool). Agreed s (links_by me n b (not s)) (fits s (links_by me n b (not s))) (words_about u counted.words) (seen_of me n b u) (count_seen me n b u)) sender a

  module _ (unmarked : is_marked me n (FactKind.LinkSuspended false on) b ≡ false) where
    pub sent_calm : suspended_of me n b u ≡ false
    sent_calm = go (suspended_of me n b u) refl
      where
        go : (x : Bool) → suspended_of me n b u ≡ x → suspended_of me n b u ≡ false
        go false z = z
        go true z =
            let nay : true ≡ false = sym (held u e there z may.sends may.heard) ∙ ap (λ (x : ℕ). is_marked me n (FactKind.LinkSuspended false x) b) its_link ∙ unmarked in absurd (cc nay)

    agrees_on : (o : Option ConnState) → conn_seen me n b u ≡ o → Agrees (about u (all_says w)) (Some (of_end true e)) (seen o)
    agrees_on o s = subst (λ (x : Option ConnState). Agrees (about u (all_says w)) (Some (of_end true e)) (seen x)) s (subst (λ (x : Option Shape). Agrees (about u (all_says w)) x (seen_of me n b u)) kept_is (pairs u sent_calm))

    agreed_end : Agreed true (links_by me n b false) (λ x j. (x ≡ kept_of m u) × (NoneCounted x j × Fits true (links_by me n b false) (get m (pair_at u)) x j)) (words_about u counted.words) (seen_of me n b u) (count_seen me n b u)
    agreed_end = by_sex (λ s l x j. (x ≡ kept_of m u) × (NoneCounted x j × Fits s l (get m (pair_at u)) x j)) (agreed_at me n m w b u sent_calm pairs counted)

    agreed_here : Agreed true (links_by me n b false) (Fits true (links_by me n b false) (Some e)) (words_about u counted.words) (seen_of me n b u) (count_seen me n b u)
    agreed_here =
        subst (λ (o : Option Endpoint). Agreed true (links_by me n b false) (Fits true (links_by me n b false) o) (words_about u counted.words) (seen_of me n b u) (count_seen me n b u)) there
        (by_sex (λ s l. Fits s l (get m (pair_at u))) (counted.agreed u sent_calm))

    pub sent_of : SentOf me n on b u e
    sent_of = go (conn_seen me n b u) refl
      where
        with_conn_seen : (conn : ConnState) → conn_seen me n b u ≡ Some conn → is_senders conn.local ≡ true → (of_conn conn).others ≡ Some on → (of_conn conn).cls ≡ false → (o : Option ℕ) → (of_conn conn).own ≡ o → SentOf me n on b u e
        with_conn_seen conn s sex others cls None own =
            let opened : is_opened (seen_of me n b u) ≡ false = ap (λ (x : Option ConnState). is_opened (seen x)) s ∙ ap (λ (x : Option ℕ). is_some x && is_some (of_conn conn).others) own in
            let none : (count_seen me n b u).messages ≡ 0 = ap (λ (c : Count). c.messages) (counted.plain.unopened u opened) in
            absurd (sender_none (links_by me n b false) (λ x j. (x ≡ kept_of m u) × (NoneCounted x j × Fits true (links_by me n b false) (get m (pair_at u)) x j)) (words_about u counted.words) (seen_of me n b u) (count_seen me n b u) none
            (λ y j g z. nothing e.messages may.messages (sym ((g.1.1 e there may.going).given on (ap (link_given true) (g.0 ∙ kept_is) ∙ kept_others) unmarked).messages ∙ z)) agreed_end)
          where
            nothing : (x : ℕ) → 1 ≤ x → x ≡ 0 → ⊥
            nothing x k z = omega arith
        with_conn_seen conn s sex others cls (Some k) own = by (open_stays (about u (all_says w)) (Some (of_end true e)) (of_conn conn) k own cls (agrees_on (Some conn) s))
          where
            lasting : Lasting true on (seen_of me n b u)
            lasting = record { shape = of_conn conn; is = ap seen s; own = ap is_some own; unclosed = cls; given = ap (λ (x : Option ConnState). link_given true (seen x)) s ∙ others }

            by : Standing (about u (all_says w)) (Some (of_end true e)) (of_conn conn) → SentOf me n on b u e
            by (Leaves q l z) =
                let is : of_end true e ≡ record (of_conn conn) { left = true } = cc z in
                let nay : false ≡ true = sym may.left ∙ ap (λ (x : Shape). x.left) is in absurd (cc nay)
            by (Stands q z) =
                let is : of_end true e ≡ of_conn conn = cc z in
                let numbers = sender_counted (links_by me n b false) on (words_about u counted.words) (seen_of me n b u) (count_seen me n b u) (Some e) e lasting unmarked refl may.going agreed_here in
                record {
                  conn = conn;
                  seen = s;
                  given = sym (ap (λ (x : Bool). if x then conn.link else conn.size) sex) ∙ others;
                  sized = sym (ap (λ (x : Bool). if x then conn.size else conn.link) sex) ∙ ap (λ (x : Shape). x.own) (sym is) ∙ ap (λ (x : Bool). number_if x e.size) may.asked;
                  left = ap (λ (x : Shape). x.left) (sym is) ∙ may.left;
                  cls = cls;
                  messages = sym (ap (λ (x : Option ConnState). (count_of x).messages) s) ∙ numbers.0;
                  bits = sym (ap (λ (x : Option ConnState). (count_of x).bits) s) ∙ numbers.1;
                  lasting = lasting;
                }

        go : (o : Option ConnState) → conn_seen me n b u ≡ o → SentOf me n on b u e
        go None s = let nay : None ≡ Some on = others_were (about u (all_says w)) (Some (of_end true e)) None on (agrees_on None s) kept_others in absurd (cc nay)
        go (Some conn) s =
            with_conn_seen conn s (ap is_senders (has_sockets me n pair.local pair.remote conn (first_passes (is_of_sockets me n pair.local pair.remote) b.conns conn s)).local ∙ sender)
            (others_were (about u (all_says w)) (Some (of_end true e)) (Some (of_conn conn)) on (agrees_on (Some conn) s) kept_others)
            (unclosed_seen (about u (all_says w)) (Some (of_end true e)) (Some (of_conn conn)) on (agrees_on (Some conn) s) kept_others unclosed)
            (of_conn conn).own refl

  -- ---- the text, and the ends after it

  module _ (message : Message) (sized : message.size ≡ e.size) (long : length message.text ≡ bytes_to_send e * e.size) (tidy : Tidy b) (unique : AllUnique me n b) where
    abbrev text_then : SeenTables
    text_then = conn_tables_after_text (own_flow me n) on message b

    -- of a link that does not rest
    module _ (unmarked : is_marked me n (FactKind.LinkSuspended false on) b ≡ false) where
      pub opens : OpensAt me n false on b (text_target (own_flow me n) on b) u
      opens = let s = sent_of unmarked in own_text_open me n b tidy unique u s.conn on e.size s.seen (ap not sender) s.given s.sized s.left s.cls unmarked

      abbrev place : ℕ
      place = opens.user.place

      abbrev its : ConnState
      its = conn_at_index b.conns opens.user.place

      it_is : its ≡ (sent_of unmarked).conn
      it_is = cc (sym opens.user.seen ∙ (sent_of unmarked).seen)

      its_messages : its.messages ≡ e.messages
      its_messages = ap (λ (x : ConnState). x.messages) it_is ∙ (sent_of unmarked).messages

      its_bits : its.bits ≡ e.bits
      its_bits = ap (λ (x : ConnState). x.bits) it_is ∙ (sent_of unmarked).bits

      its_size : its.size ≡ Some message.size
      its_size = ap (λ (x : ConnState). x.size) it_is ∙ (sent_of unmarked).sized ∙ ap (λ (x : ℕ). Some x) (sym sized)

      some_left : 1 ≤ its.messages
      some_left = more its.messages e.messages its_messages may.messages
        where
          more : (x y : ℕ) → x ≡ y → 1 ≤ y → 1 ≤ x
          more x y z k = omega arith

      fits_in : length message.text ≤ its.bits
      fits_in = more (length message.text) (bytes_to_send e * e.size) its.bits e.bits long its_bits may.bits
        where
          more : (x y p q : ℕ) → x ≡ y → p ≡ q → y ≤ q → x ≤ p
          more x y p q z k l = omega arith

      pub open_rules_none : text_rules (own_flow me n) on message b ≡ []
      open_rules_none = text_right me n on message b u opens its_size some_left fits_in

      abbrev put_then : SeenTables
      put_then = put_conn b (Some opens.user.place) (numbered (its.messages - 1) (its.bits - length message.text) its.recall its.came its)

      pub text_is : text_then ≡ put_then
      text_is = text_after me n on message b u opens its_size some_left fits_in

      module _ (now : Ends) (one : OneEnd m now pair (Some (cut_end e))) where
        then_seen : (v : Sockets) → seen_of me n put_then v ≡ seen_of me n b v
        then_seen v = renumbered_seen me n false on b u opens.user (its.messages - 1) (its.bits - length message.text) its.recall its.came unique v

        then_suspended : (v : Sockets) → suspended_of me n put_then v ≡ suspended_of me n b v
        then_suspended v = renumbered_suspended me n false on b u opens.user (its.messages - 1) (its.bits - length message.text) its.recall its.came unique v

        then_count : count_seen me n put_then u ≡ record { messages = its.messages - 1; bits = its.bits - length message.text; recall = its.recall }
        then_count = ap count_of (renumbered_here me n false on b u opens.user (its.messages - 1) (its.bits - length message.text) its.recall its.came unique)

        was_count : count_seen me n b u ≡ count_of (Some its)
        was_count = ap count_of opens.user.seen

        at_it : AgreedAt me n put_then (get now (pair_at u)) (words_about u counted.words) u
        at_it =
            subst (λ (o : Option Endpoint). AgreedAt me n put_then o (words_about u counted.words) u) (sym one.there)
            (subst (λ (s : Bool). Agreed s (links_by me n b (not s)) (Fits s (links_by me n b (not s)) (Some (cut_end e))) (words_about u counted.words) (seen_of me n put_then u) (count_seen me n put_then u)) (sym sender)
            (subst (λ (x : Option Shape). Agreed true (links_by me n b false) (Fits true (links_by me n b false) (Some (cut_end e))) (words_about u counted.words) x (count_seen me n put_then u)) (sym (then_seen u))
            (sender_agreed (links_by me n b false) on (words_about u counted.words) (seen_of me n b u) (count_seen me n b u) (count_seen me n put_then u) e (cut_end e) (sent_of unmarked).lasting unmarked refl
            (λ q. ap (λ (c : Count). c.messages) then_count ∙ ap (λ (x : ℕ). x - 1) (sym (ap (λ (c : Count). c.messages) was_count) ∙ q))
            (λ q. ap (λ (c : Count). c.bits) then_count ∙ ap (λ (x : ℕ). x - length message.text) (sym (ap (λ (c : Count). c.bits) was_count) ∙ q) ∙ ap (λ (x : ℕ). e.bits - x) long)
            (agreed_here unmarked))))

        agreed_then : (v : Sockets) → suspended_of me n b v ≡ false → (s : Bool) → same v u ≡ s → AgreedAt me n put_then (get now (pair_at v)) (words_about v counted.words) v
        agreed_then v r true s = subst (λ (x : Sockets). AgreedAt me n put_then (get now (pair_at x)) (words_about x counted.words) x) (sym (same_is v u s)) at_it
        agreed_then v r false s =
            subst (λ (o : Option Endpoint). AgreedAt me n put_then o (words_about v counted.words) v) (sym (one.elsewhere (pair_at v) (unlike v u s)))
            (subst (λ (x : Option ConnState). Agreed (is_senders v.0) (links_by me n b (receives_at v)) (Fits (is_senders v.0) (links_by me n b (receives_at v)) (get m (pair_at v))) (words_about v counted.words) (seen x) (count_of x))
            (sym (renumbered_others me n false on b u opens.user (its.messages - 1) (its.bits - length message.text) its.recall its.came v s)) (counted.agreed v r))

        hidden_then : (v : Sockets) → suspended_of me n b v ≡ true → (s : Bool) → same v u ≡ s → HiddenAt me n put_then (get now (pair_at v)) (words_about v counted.words) v
        hidden_then v r true s = let nay : true ≡ false = sym r ∙ ap (suspended_of me n b) (same_is v u s) ∙ sent_calm unmarked in absurd (cc nay)
        hidden_then v r false s = subst (λ (o : Option Endpoint). HiddenAt me n b o (words_about v counted.words) v) (sym (one.elsewhere (pair_at v) (unlike v u s))) (counted.hidden v r)

        pub open_counted : Counted me n now w put_then
        open_counted = record {
          words = counted.words;
          spelled = counted.spelled;
          agreed = λ v r. agreed_then v (sym (then_suspended v) ∙ r) (same v u) refl;
          hidden = λ v r. hidden_then v (sym (then_suspended v) ∙ r) (same v u) refl;
          plain =
              plain_numbered me n false on b u opens.user (its.messages - 1) (its.bits - length message.text) its.recall its.came unique
              (ap is_opened (ap seen opens.user.seen) ∙ both (is_senders its.local) its.link its.size opens.user.given its_size) (inl (λ z. z)) counted.plain;
          admitted = admitted_wider me n w b put_then (λ bytes z. z) counted.admitted;
        }
          where
            both : (s : Bool) (x y : Option ℕ) → x ≡ Some on → y ≡ Some message.size → (is_some (if s then y else x) && is_some (if s then x else y)) ≡ true
            both true x y p q = ap (λ (z : Option ℕ). is_some y && is_some z) p ∙ ap (λ (z : Option ℕ). is_some z && true) q
            both false x y p q = ap (λ (z : Option ℕ). is_some z && is_some y) p ∙ ap is_some q

    -- for a suspended one: the ends alone
    module _ (marked : is_marked me n (FactKind.LinkSuspended false on) b ≡ true) (now : Ends) (one : OneEnd m now pair (Some (cut_end e))) where
      loose : suspended_of me n b u ≡ false → AgreedAt me n b (get now (pair_at u)) (words_about u counted.words) u
      loose r =
          subst (λ (o : Option Endpoint). AgreedAt me n b o (words_about u counted.words) u) (sym one.there)
          (subst (λ (s : Bool). Agreed s (links_by me n b (not s)) (Fits s (links_by me n b (not s)) (Some (cut_end e))) (words_about u counted.words) (seen_of me n b u) (count_seen me n b u)) (sym sender)
          (agreed_fits true (links_by me n b false) (λ x j. (x ≡ kept_of m u) × (NoneCounted x j × Fits true (links_by me n b false) (get m (pair_at u)) x j)) (Fits true (links_by me n b false) (Some (cut_end e))) (words_about u counted.words) (seen_of me n b u) (count_seen me n b u)
          (λ x j g d z k. record {
            given = λ l h y. let is : on ≡ l = cc (sym kept_others ∙ sym (ap (link_given true) (g.0 ∙ kept_is)) ∙ h) in let nay : true ≡ false = sym marked ∙ ap (links_by me n b false) is ∙ y in absurd (cc nay);
            ungiven = λ h. let nay : Some on ≡ None = sym kept_others ∙ sym (ap (link_given true) (g.0 ∙ kept_is)) ∙ h in absurd (cc nay);
          })
          (by_sex (λ s l x j. (x ≡ kept_of m u) × (NoneCounted x j × Fits s l (get m (pair_at u)) x j)) (agreed_at me n m w b u r pairs counted))))

      hidden_end : (s : Bool) (known : ℕ → Bool) → LinkHidden (get m (pair_at u)) s known → LinkHidden (get now (pair_at u)) s known
      hidden_end s known h d z g k =
          let is : cut_end e ≡ d = cc (sym one.there ∙ z) in
          ap (λ (x : Endpoint). known x.link) (sym is) ∙ h e there may.going (by s (ap (has_link_of s) is ∙ k))
        where
          by : (s : Bool) → has_link_of s (cut_end e) ≡ true → has_link_of s e ≡ true
          by true y = y
          by false y = y

      agreed_loose : (v : Sockets) → suspended_of me n b v ≡ false → (s : Bool) → same v u ≡ s → AgreedAt me n b (get now (pair_at v)) (words_about v counted.words) v
      agreed_loose v r true s = subst (λ (x : Sockets). AgreedAt me n b (get now (pair_at x)) (words_about x counted.words) x) (sym (same_is v u s)) (loose (ap (suspended_of me n b) (sym (same_is v u s)) ∙ r))
      agreed_loose v r false s = subst (λ (o : Option Endpoint). AgreedAt me n b o (words_about v counted.words) v) (sym (one.elsewhere (pair_at v) (unlike v u s))) (counted.agreed v r)

      hidden_loose : (v : Sockets) → suspended_of me n b v ≡ true → (s : Bool) → same v u ≡ s → HiddenAt me n b (get now (pair_at v)) (words_about v counted.words) v
      hidden_loose v r true s =
          subst (λ (x : Sockets). HiddenAt me n b (get now (pair_at x)) (words_about x counted.words) x) (sym (same_is v u s))
          (hidden_wider (is_senders u.0) (links_by me n b (receives_at u)) (links_by me n b (receives_at u)) (LinkHidden (get m (pair_at u)) (is_senders u.0)) (LinkHidden (get now (pair_at u)) (is_senders u.0)) (words_about u counted.words)
          (λ l z. z) (λ x y f h d z g k. f d.link (hidden_end (is_senders u.0) x h d z g k)) (counted.hidden u (ap (suspended_of me n b) (sym (same_is v u s)) ∙ r)))
      hidden_loose v r false s = subst (λ (o : Option Endpoint). HiddenAt me n b o (words_about v counted.words) v) (sym (one.elsewhere (pair_at v) (unlike v u s))) (counted.hidden v r)

      pub loose_counted : Counted me n now w b
      loose_counted = record {
        words = counted.words;
        spelled = counted.spelled;
        agreed = λ v r. agreed_loose v r (same v u) refl;
        hidden = λ v r. hidden_loose v r (same v u) refl;
        plain = counted.plain;
        admitted = counted.admitted;
      }

    abbrev what : FactKind
    what = FactKind.Admits false (text_shown me message)

    marked_is : is_marked me n (FactKind.LinkSuspended false on) b ≡ true → text_then ≡ facts_now me n what b
    marked_is marked =
        ap (λ (x : Bool). demuxed_after_text (own_flow me n) on message b (if x then LinkTarget.Rests else text_target_at (own_flow me n) b.conns (position (has_link me n false on) b.conns))) marked

    -- ---- both

    pub text_rules_none : text_rules (own_flow me n) on message b ≡ []
    text_rules_none = go (is_marked me n (FactKind.LinkSuspended false on) b) refl
      where
        go : (x : Bool) → is_marked me n (FactKind.LinkSuspended false on) b ≡ x → text_rules (own_flow me n) on message b ≡ []
        go true k = text_rest me n on message b k
        go false k = open_rules_none k

    pub text_counted : (now : Ends) → OneEnd m now pair (Some (cut_end e)) → Counted me n now w text_then
    text_counted now one = go (is_marked me n (FactKind.LinkSuspended false on) b) refl
      where
        go : (x : Bool) → is_marked me n (FactKind.LinkSuspended false on) b ≡ x → Counted me n now w text_then
        go true k =
            subst (Counted me n now w) (sym (marked_is k))
            (counted_wider me n now w w b (facts_now me n what b) (λ v. ap (λ (xs : List ConnState). first (is_of_sockets me n v.0 v.1) xs) (fact_conns me n what b)) (λ host l z. fact_keeps me n what b (FactKind.LinkSuspended host l) z) refl
            (plain_fact me n what b refl counted.plain) (admitted_wider me n w b (facts_now me n what b) (λ bytes z. fact_keeps me n what b (FactKind.Admits true bytes) z) counted.admitted) (loose_counted k now one))
        go false k = subst (Counted me n now w) (sym (text_is k)) (open_counted k now one)

    pub text_owed : (now : Ends) → OneEnd m now pair (Some (cut_end e)) → OwedBy me n m w b → OwedBy me n now w text_then
    text_owed now one owed = go (is_marked me n (FactKind.LinkSuspended false on) b) refl
      where
        moved : OwedBy me n now w b
        moved = owed_moves me n m now pair (Some (cut_end e)) w b one (λ l r g. ap (passes (is_open_sender l) pair) there ∙ g) owed

        go : (x : Bool) → is_marked me n (FactKind.LinkSuspended false on) b ≡ x → OwedBy me n now w text_then
        go true k = subst (OwedBy me n now w) (sym (marked_is k)) (owed_fact me n now w b what (λ l. refl) moved)
        go false k =
            subst (OwedBy me n now w) (sym (text_is k))
            (owed_stays me n now w b (put_then k) (record { suspended = λ l. refl; links = λ v s. ap (link_given true) (renumbered_seen me n false on b u (opens k).user ((its k).messages - 1) ((its k).bits - length message.text) (its k).recall (its k).came unique v) }) refl moved)

    -- the shapes stay
    pub text_same : Linked me n b → SameShapes me n b text_then
    text_same linked = go (is_marked me n (FactKind.LinkSuspended false on) b) refl
      where
        go : (x : Bool) → is_marked me n (FactKind.LinkSuspended false on) b ≡ x → SameShapes me n b text_then
        go true k = subst (SameShapes me n b) (sym (marked_is k)) (conns_same me n b (facts_now me n what b) (fact_conns me n what b) (λ side l z. fact_keeps me n what b (FactKind.LinkSuspended side l) z) unique linked)
        go false k =
            subst (SameShapes me n b) (sym (text_is k))
            (numbered_same me n false on b u (opens k).user ((its k).messages - 1) ((its k).bits - length message.text) (its k).recall (its k).came unique linked (λ z. sym (ap has_come (opens k).user.seen) ∙ z))

    -- and what is known of the echoes
    pub text_echoes : (fact_kind : FactKind) → same_topic what fact_kind ≡ false → is_marked me n fact_kind text_then ≡ is_marked me n fact_kind b
    text_echoes fact_kind other = go (is_marked me n (FactKind.LinkSuspended false on) b) refl
      where
        go : (x : Bool) → is_marked me n (FactKind.LinkSuspended false on) b ≡ x → is_marked me n fact_kind text_then ≡ is_marked me n fact_kind b
        go true k = ap (is_marked me n fact_kind) (marked_is k) ∙ fact_other me n what fact_kind b other
        go false k = ap (is_marked me n fact_kind) (text_is k)
