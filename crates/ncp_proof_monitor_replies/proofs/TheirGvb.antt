-- A GVB of the other host on an open connection: the host gives back the pending part, unless its end is
-- closing; then its CLS is queued, or one of its texts is unacknowledged.
use Rattle.std.proofs.Common.{◌≡◌, ℕ, ◌==◌, Bool, true, false, not, ◌&&◌, ◌||◌, if◌then◌else◌, List, [], ◌∷◌, ◌++◌, Option, None, Some, ◌⊎◌, inl, inr, eq-eqb, refl, sym, ap, ◌∙◌, subst}
use Rattle.std.specs.Prelude.{◌-◌, slice_set}
use Rattle.std.specs.FinMap.{get}
use Rattle.std.proofs.lemmas.Bool.{eqb-true, and_parts}
use Rattle.ncp_wire.specs.declared.command.Command.{Command}
use Rattle.ncp_wire.specs.declared.command.Command.TheVariants.{Rts, Str, Cls, All, Gvb, Ret, Inr, Ins, Eco, Erp, Err, Nop, Rst, Rrp}
use Rattle.ncp_model.specs.declared.pair.Pair.{Pair}
use Rattle.ncp_model.specs.Pairs.{sends}
use Rattle.ncp_model.specs.Endpoint.{Endpoint, is_closing}
use Rattle.ncp_model.specs.Commands.{gvb_at}
use Rattle.ncp_model.specs.Ends.{Ends, hears_link, sender_on}
use Rattle.ncp_model.specs.Demux.{passes}
use Rattle.ncp_proof_machine.proofs.EndsGood.{EndsInvariant}
use Rattle.ncp_monitor.specs.declared.pending_reply.ExpectedReply.TheVariants.{Return}
use Rattle.ncp_interface.specs.declared.sent_message.SentMessage.{SentMessage}
use Rattle.ncp_monitor.specs.declared.conn_state.ConnState.{ConnState}
use Rattle.ncp_monitor.specs.declared.conn_state.FactKind.{FactKind}
use Rattle.ncp_monitor.specs.ConnStates.{SeenTables, is_of_sockets, conn_at_index, is_marked, put_conn}
use Rattle.ncp_interface.specs.Sockets.{is_senders}
use Rattle.ncp_monitor.specs.Replies.{error_wanted, owes}
use Rattle.ncp_monitor.specs.Requests.{is_link_busy}
use Rattle.ncp_monitor.specs.Allocation.{part_returned, owes_error_if}
use Rattle.ncp_monitor.proofs.Shapes.{Say, Ask, Leave}
use Rattle.ncp_monitor.proofs.LinkOrder.{Sockets, same, same_is, about}
use Rattle.ncp_monitor.proofs.BooksAt.{has_sockets}
use Rattle.ncp_monitor.proofs.Seeing.{seen}
use Rattle.ncp_proof_monitor_allocation.proofs.OwnMoves.{all_says}
use Rattle.ncp_proof_monitor_allocation.proofs.Changed.{pair_at}
use Rattle.ncp_proof_monitor_allocation.proofs.SeenTables.{conn_seen, receives_at}
use Rattle.ncp_proof_monitor_allocation.proofs.Users.{Linked, first_passes}
use Rattle.ncp_proof_monitor_allocation.proofs.Resting.{due_with}
use Rattle.ncp_proof_monitor_allocation.proofs.Proper.{ProperEnds}
use Rattle.ncp_proof_monitor_allocation.proofs.TidyBooks.{Tidy, Renumbered, recalled_numbered, owed_room}
use Rattle.ncp_proof_monitor_allocation.proofs.LinkPlaces.{UserAt, AllUnique, user_seen}
use Rattle.ncp_proof_monitor_allocation.proofs.Plain.{Plain}
use Rattle.ncp_proof_monitor_allocation.proofs.TextErrors.{is_text_error}
use Rattle.ncp_proof_monitor_allocation.proofs.Words.{Returns, link_given, says_in}
use Rattle.ncp_proof_monitor_allocation.proofs.Counted.{words_about, links_by, Counted, PairsAgree, words_says}
use Rattle.ncp_proof_monitor_replies.specs.Owed.{Item, Gives, EndsOn, is_ret_on, ended_by, nothing_ended}
use Rattle.ncp_proof_monitor_replies.proofs.Owed.{ends_on, ended_is}
use Rattle.ncp_proof_monitor_replies.proofs.OwedItems.{ends_of, item_of, items, items_of, sent_suspended, links_sent, is_open_sender, gone_of, OwedBy, items_alike, not_gone, is_gone}
use Rattle.ncp_proof_monitor_replies.proofs.OwedSteps.{ItemsStay, stay_same, stay_then, owed_stays, made_owed, unmade_owed, unmade_reply}
use Rattle.ncp_proof_monitor_allocation.proofs.LinksReach.{led_sender, sender_led}
use Rattle.ncp_proof_monitor_allocation.proofs.LinksOpen.{open_shape, Reaches, Counts, gvb_open, Unheeded, Unanswered, Unconnected, unheeded}
use Rattle.ncp_proof_monitor_allocation.proofs.LinksDid.{SameFacts, ends_after, made_of, Did, Stayed, Changed, Gave, gvb_did}
use Rattle.ncp_proof_monitor_allocation.proofs.LinksCome.{SameConn, renumbered_same, SeenNow, renumbered_now}
use Rattle.ncp_proof_monitor_replies.proofs.TheirLinks.{nil, did_moves}
use Rattle.ncp_proof_monitor_replies.proofs.TheirOpen.{error_if_same, items_now, s_at, s_says, s_counts, s_unrested, sender_counts_too, nothing_more}

-- ---- the CLSs of senders that wait

abbrev pub has_leave : List Say → Bool
has_leave [] = false
has_leave (Ask n ∷ q) = has_leave q
has_leave (Leave ∷ q) = true

ends_append : (link : ℕ) (x y : List Item) → ends_on link (x ++ y) ≡ (ends_on link x || ends_on link y)
ends_append link [] y = refl
ends_append link (Gives c ∷ x) y = ends_append link x y
ends_append link (EndsOn l ∷ x) y = ap (λ (z : Bool). link == l || z) (ends_append link x y) ∙ three (link == l) (ends_on link x) (ends_on link y)
  where
    three : (a b c : Bool) → (a || (b || c)) ≡ ((a || b) || c)
    three true b c = refl
    three false b c = refl

either_true : (x y : Bool) → y ≡ true → (x || y) ≡ true
either_true true y e = refl
either_true false y e = e

itself : (v : Sockets) → same v v ≡ true
itself (a, b) = rw (eq-eqb a a refl, eq-eqb b b refl) refl

-- one that waits ends its link
module _ (suspended : ℕ → Bool) (links : Sockets → Option ℕ) (on : ℕ) where
  later : (c : Command) (w : List Command) → ends_on on (items suspended links w) ≡ true → ends_on on (items suspended links (c ∷ w)) ≡ true
  later c w e = ends_append on (item_of suspended links c) (items suspended links w) ∙ either_true (ends_on on (item_of suspended links c)) (ends_on on (items suspended links w)) e

  pub ends_there : (u : Sockets) (w : List Command) → is_senders u.0 ≡ true → links u ≡ Some on → has_leave (about u (all_says w)) ≡ true → ends_on on (items suspended links w) ≡ true
  ends_there u [] s l h = absurd (cc h)
  ends_there u (Rts receive send link ∷ w) s l h = later (Rts receive send link) w (ends_there u w s l (by (same u (receive, send)) h))
    where
      by : (x : Bool) → has_leave (if x then Ask link ∷ about u (all_says w) else about u (all_says w)) ≡ true → has_leave (about u (all_says w)) ≡ true
      by true h = h
      by false h = h
  ends_there u (Str send receive size ∷ w) s l h = later (Str send receive size) w (ends_there u w s l (by (same u (send, receive)) h))
    where
      by : (x : Bool) → has_leave (if x then Ask size ∷ about u (all_says w) else about u (all_says w)) ≡ true → has_leave (about u (all_says w)) ≡ true
      by true h = h
      by false h = h
  ends_there u (Cls my your ∷ w) s l h = go (same u (my, your)) refl h (λ k. ends_there u w s l k)
    where
      go : (x : Bool) → same u (my, your) ≡ x → has_leave (if x then Leave ∷ about u (all_says w) else about u (all_says w)) ≡ true → (has_leave (about u (all_says w)) ≡ true → ends_on on (items suspended links w) ≡ true)
          → ends_on on (items suspended links (Cls my your ∷ w)) ≡ true
      go false k h f = later (Cls my your) w (f h)
      go true k h f =
          let is : u ≡ (my, your) = same_is u (my, your) k in
          ap (λ (z : Bool). ends_on on ((if z then ends_of (links (my, your)) else []) ++ items suspended links w)) (sym (ap (λ (v : Sockets). is_senders v.0) is) ∙ s)
          ∙ ap (λ (z : Option ℕ). ends_on on (ends_of z ++ items suspended links w)) (sym (ap links is) ∙ l)
          ∙ ap (λ (z : Bool). z || ends_on on (items suspended links w)) (eq-eqb on on refl)
  ends_there u (All link messages bits ∷ w) s l h = later (All link messages bits) w (ends_there u w s l h)
  ends_there u (Gvb link messages bits ∷ w) s l h = later (Gvb link messages bits) w (ends_there u w s l h)
  ends_there u (Ret link messages bits ∷ w) s l h = later (Ret link messages bits) w (ends_there u w s l h)
  ends_there u (Inr link ∷ w) s l h = later (Inr link) w (ends_there u w s l h)
  ends_there u (Ins link ∷ w) s l h = later (Ins link) w (ends_there u w s l h)
  ends_there u (Eco byte ∷ w) s l h = later (Eco byte) w (ends_there u w s l h)
  ends_there u (Erp byte ∷ w) s l h = later (Erp byte) w (ends_there u w s l h)
  ends_there u (Err code bytes ∷ w) s l h = later (Err code bytes) w (ends_there u w s l h)
  ends_there u (Nop ∷ w) s l h = later Nop w (ends_there u w s l h)
  ends_there u (Rst ∷ w) s l h = later Rst w (ends_there u w s l h)
  ends_there u (Rrp ∷ w) s l h = later Rrp w (ends_there u w s l h)

  -- where none waits, none ends it
  not_here : (c : Command) (w : List Command) → ends_on on (item_of suspended links c) ≡ false → ends_on on (items suspended links w) ≡ false → ends_on on (items suspended links (c ∷ w)) ≡ false
  not_here c w a e = ends_append on (item_of suspended links c) (items suspended links w) ∙ ap (λ (z : Bool). z || ends_on on (items suspended links w)) a ∙ e

  pub ends_nowhere : (w : List Command) → ((v : Sockets) → is_senders v.0 ≡ true → links v ≡ Some on → has_leave (about v (all_says w)) ≡ false) → ends_on on (items suspended links w) ≡ false
  ends_nowhere [] f = refl
  ends_nowhere (Rts receive send link ∷ w) f = not_here (Rts receive send link) w refl (ends_nowhere w (λ v s l. by v (same v (receive, send)) (f v s l)))
    where
      by : (v : Sockets) (x : Bool) → has_leave (if x then Ask link ∷ about v (all_says w) else about v (all_says w)) ≡ false → has_leave (about v (all_says w)) ≡ false
      by v true h = h
      by v false h = h
  ends_nowhere (Str send receive size ∷ w) f = not_here (Str send receive size) w refl (ends_nowhere w (λ v s l. by v (same v (send, receive)) (f v s l)))
    where
      by : (v : Sockets) (x : Bool) → has_leave (if x then Ask size ∷ about v (all_says w) else about v (all_says w)) ≡ false → has_leave (about v (all_says w)) ≡ false
      by v true h = h
      by v false h = h
  ends_nowhere (Cls my your ∷ w) f = not_here (Cls my your) w (head (is_senders my) refl (links (my, your)) refl) (ends_nowhere w (λ v s l. by v (same v (my, your)) (f v s l)))
    where
      by : (v : Sockets) (x : Bool) → has_leave (if x then Leave ∷ about v (all_says w) else about v (all_says w)) ≡ false → has_leave (about v (all_says w)) ≡ false
      by v true h = absurd (cc h)
      by v false h = h

      is_one : is_senders my ≡ true → links (my, your) ≡ Some on → ⊥
      is_one s l =
          let none : has_leave (if same (my, your) (my, your) then Leave ∷ about (my, your) (all_says w) else about (my, your) (all_says w)) ≡ false = f (my, your) s l in
          let nay : true ≡ false = sym (ap (λ (z : Bool). has_leave (if z then Leave ∷ about (my, your) (all_says w) else about (my, your) (all_says w))) (itself (my, your))) ∙ none in cc nay

      head : (x : Bool) → is_senders my ≡ x → (o : Option ℕ) → links (my, your) ≡ o → ends_on on (if x then ends_of o else []) ≡ false
      head false s o l = refl
      head true s None l = refl
      head true s (Some link) l = go (on == link) refl
        where
          go : (z : Bool) → (on == link) ≡ z → (z || false) ≡ false
          go false e = refl
          go true e = absurd (is_one s (l ∙ ap (λ (y : ℕ). Some y) (sym (eqb-true on link e))))
  ends_nowhere (All link messages bits ∷ w) f = not_here (All link messages bits) w refl (ends_nowhere w f)
  ends_nowhere (Gvb link messages bits ∷ w) f = not_here (Gvb link messages bits) w refl (ends_nowhere w f)
  ends_nowhere (Ret link messages bits ∷ w) f = not_here (Ret link messages bits) w (by (suspended link)) (ends_nowhere w f)
    where
      by : (x : Bool) → ends_on on (if x then [] else Gives (Ret link messages bits) ∷ []) ≡ false
      by true = refl
      by false = refl
  ends_nowhere (Inr link ∷ w) f = not_here (Inr link) w refl (ends_nowhere w f)
  ends_nowhere (Ins link ∷ w) f = not_here (Ins link) w refl (ends_nowhere w f)
  ends_nowhere (Eco byte ∷ w) f = not_here (Eco byte) w refl (ends_nowhere w f)
  ends_nowhere (Erp byte ∷ w) f = not_here (Erp byte) w refl (ends_nowhere w f)
  ends_nowhere (Err code bytes ∷ w) f = not_here (Err code bytes) w (by (is_text_error (Err code bytes))) (ends_nowhere w f)
    where
      by : (x : Bool) → ends_on on (if x then [] else Gives (Err code bytes) ∷ []) ≡ false
      by true = refl
      by false = refl
  ends_nowhere (Nop ∷ w) f = not_here Nop w refl (ends_nowhere w f)
  ends_nowhere (Rst ∷ w) f = not_here Rst w refl (ends_nowhere w f)
  ends_nowhere (Rrp ∷ w) f = not_here Rrp w refl (ends_nowhere w f)

-- ---- an open sender stays one

open_same : (p : Pair) (e then_end : Endpoint) (link : ℕ) → SameFacts e then_end → is_open_sender link (p, then_end) ≡ is_open_sender link (p, e)
open_same p e then_end link known_facts =
    ap (λ (x : Bool). sends p && x && (then_end.link == link) && not (is_closing then_end)) known_facts.heard
    ∙ ap (λ (x : ℕ). sends p && e.heard && (x == link) && not (is_closing then_end)) known_facts.its_link
    ∙ ap (λ (x : Bool). sends p && e.heard && (e.link == link) && not x) known_facts.going

did_open : (m : Ends) (c : Command) (on : ℕ) (o : Option (Pair × Endpoint)) (pair : Pair) (e : Endpoint) → o ≡ Some (pair, e) → get m pair ≡ Some e → is_open_sender on (pair, e) ≡ true → Did m c on o
    → passes (is_open_sender on) pair (get (ends_after m c) pair) ≡ true
did_open m c on o pair e h g s d = go d
  where
    there : (p : Pair × Endpoint) → o ≡ Some p → (then_end : Endpoint) → SameFacts p.1 then_end → get (ends_after m c) p.0 ≡ Some then_end → passes (is_open_sender on) pair (get (ends_after m c) pair) ≡ true
    there p f then_end known_facts k =
        let is : p ≡ (pair, e) = cc (sym f ∙ h) in
        ap (λ (x : Pair). passes (is_open_sender on) x (get (ends_after m c) x)) (sym (ap (λ (x : Pair × Endpoint). x.0) is))
        ∙ ap (passes (is_open_sender on) p.0) k ∙ open_same p.0 p.1 then_end on known_facts ∙ ap (is_open_sender on) is ∙ s

    go : Did m c on o → passes (is_open_sender on) pair (get (ends_after m c) pair) ≡ true
    go (Stayed k q) = ap (λ (x : Ends). passes (is_open_sender on) pair (get x pair)) k ∙ ap (passes (is_open_sender on) pair) g ∙ s
    go (Changed p f then_end known_facts one made) = there p f then_end known_facts one.there
    go (Gave gvb p f a b then_end known_facts one x y made) = there p f then_end known_facts one.there

-- ---- the GVB

module _ (me n : ℕ) (m : Ends) (good : EndsInvariant m) (w : List Command) (b : SeenTables) (proper : ProperEnds m) (unique : AllUnique me n b) (linked : Linked me n b) (pairs : PairsAgree me n m w b) (c : Counted me n m w b) (owed : OwedBy me n m w b) (on : ℕ) (unmarked : is_marked me n (FactKind.LinkSuspended false on) b ≡ false) (u : Sockets) (user : UserAt me n false on b u) (unclosed : (conn_at_index b.conns user.place).peer_left ≡ false) (size : ℕ) (sized : (conn_at_index b.conns user.place).size ≡ Some size) (tidy : Tidy b) (kept : List SentMessage) (busy : (e : Endpoint) → get m (pair_at u) ≡ Some e → e.leaving ≡ true → is_link_busy me n (Some on) kept ≡ true) (x y : ℕ) where
  abbrev old : ConnState
  old = conn_at_index b.conns user.place

  abbrev asks_back : Command
  asks_back = Gvb on x y

  abbrev some_messages : ℕ
  some_messages = part_returned old.messages x

  abbrev some_bits : ℕ
  some_bits = part_returned old.bits y

  abbrev conn : ConnState
  conn = record old { recall = true; messages = old.messages - some_messages; bits = old.bits - some_bits }

  abbrev mid : SeenTables
  mid = owes_error_if old.recall (record { at = me; peer = n; sent = false }) (Gvb on x y) b

  abbrev base : SeenTables
  base = put_conn mid (Some user.place) conn

  abbrev mandatory : Bool
  mandatory = not (is_link_busy me n (Some on) kept)

  abbrev after_by : Bool → SeenTables
  after_by z = if z then base else owes (record { at = me; peer = n; sent = false }) (Return on some_messages some_bits) mandatory base

  abbrev now : Ends
  now = ends_after m asks_back

  at : Reaches m u true on (Some size) old.host_left (says_in (words_about u c.words))
  at = s_at me n m good w b proper unique linked pairs c owed on unmarked u user unclosed size sized

  found : sender_on on m ≡ Some (pair_at u, at.end)
  found = sender_led m good on (pair_at u) at.end at.there at.sender at.heard at.its_link

  waits_of_it : about u (all_says w) ≡ says_in (words_about u c.words)
  waits_of_it = words_says w c.words c.spelled u

  base_room : (z : Bool) → (after_by z).full ≡ false → base.full ≡ false
  base_room true f = f
  base_room false f = owed_room (record { at = me; peer = n; sent = false }) (Return on some_messages some_bits) mandatory base f

  after_same : (z : Bool) → (after_by z).full ≡ false → ((after_by z).conns ≡ base.conns) × ((after_by z).known_facts ≡ base.known_facts)
  after_same true f = (refl, refl)
  after_same false f = (due_with base (record { at = me; peer = n; host = true; wanted = Return on some_messages some_bits; mandatory = mandatory }) f).1

  mid_same : mid.full ≡ false → (mid.conns ≡ b.conns) × (mid.known_facts ≡ b.known_facts)
  mid_same f = error_if_same me n old.recall (Gvb on x y) b f

  calls_back : Renumbered old conn
  calls_back = recalled_numbered (record { at = me; peer = n; sent = false }) x y old

  numbers : SameConn old conn
  numbers = renumbered_same old conn calls_back

  base_now : mid.full ≡ false → (conn_tables : SeenTables) → conn_tables.conns ≡ base.conns → SeenNow me n b conn_tables u conn
  base_now f conn_tables k = renumbered_now me n false on b conn_tables u user conn unique calls_back (k ∙ ap (λ (ls : List ConnState). slice_set ls user.place conn) (mid_same f).0)

  base_items : mid.full ≡ false → ItemsStay me n b base
  base_items f = items_now me n b base u old conn user.seen numbers (base_now f base refl) (mid_same f).1

  mid_owed : (z : Bool) → (owes_error_if z (record { at = me; peer = n; sent = false }) (Gvb on x y) b).full ≡ false → OwedBy me n m w (owes_error_if z (record { at = me; peer = n; sent = false }) (Gvb on x y) b)
  mid_owed false f = owed
  mid_owed true f = unmade_reply me n m w b (error_wanted 5 5 (Gvb on x y)) f refl owed

  moved : mid.full ≡ false → OwedBy me n now w base
  moved f =
      did_moves me n m on asks_back (sender_on on m) (λ p k. (led_sender m on p.0 p.1 k).there) (gvb_did m good on x y) w base
      (owed_stays me n m w mid base (stay_then me n mid b base (stay_same me n mid b (sym (mid_same f).0) (sym (mid_same f).1)) (base_items f)) refl (mid_owed old.recall f))

  items_same : mid.full ≡ false → items_of me n base w ≡ items_of me n b w
  items_same f = items_alike (sent_suspended me n b) (sent_suspended me n base) (links_sent me n b) (links_sent me n base) (base_items f).suspended (base_items f).links w

  sends_it : is_senders u.0 ≡ true
  sends_it = unnot (is_senders u.0) user.receives
    where
      unnot : (z : Bool) → not z ≡ false → z ≡ true
      unnot true e = refl
      unnot false e = absurd (cc e)

  -- who sends on the link is this one

  its_link_is : (v : Sockets) (one : ConnState) → is_senders v.0 ≡ true → conn_seen me n b v ≡ Some one → link_given true (seen (Some one)) ≡ one.link
  its_link_is v one s f =
      let local = (has_sockets me n v.0 v.1 one (first_passes (is_of_sockets me n v.0 v.1) b.conns one f)).local in
      ap (λ (z : Bool). if z then one.link else one.size) (ap is_senders local ∙ s)

  only_user : (v : Sockets) → is_senders v.0 ≡ true → links_sent me n b v ≡ Some on → v ≡ u
  only_user v s l = go (conn_seen me n b v) refl l
    where
      go : (o : Option ConnState) → conn_seen me n b v ≡ o → link_given true (seen o) ≡ Some on → v ≡ u
      go None f l = absurd (cc l)
      go (Some one) f l =
          let other = user_seen me n false on b tidy v one f (ap not s) (sym (its_link_is v one s f) ∙ l) in
          let place : other.place ≡ user.place = cc (sym other.found ∙ user.found) in
          let same_conn : conn_at_index b.conns other.place ≡ old = ap (conn_at_index b.conns) place in
          let first_same : v.0 ≡ u.0 = sym other.sockets.local ∙ ap (λ (z : ConnState). z.local) same_conn ∙ user.sockets.local in
          let second_same : v.1 ≡ u.1 = sym other.sockets.remote ∙ ap (λ (z : ConnState). z.remote) same_conn ∙ user.sockets.remote in
          ap (λ (z : ℕ). (z, v.1)) first_same ∙ ap (λ (z : ℕ). (u.0, z)) second_same

  its_link_sent : links_sent me n b u ≡ Some on
  its_link_sent = ap (λ (z : Option ConnState). link_given true (seen z)) user.seen ∙ its_link_is u old sends_it user.seen ∙ user.given

  ended_now : mid.full ≡ false → ended_by (items_of me n base w) nothing_ended on ≡ ends_on on (items_of me n b w)
  ended_now f = ap (λ (z : List Item). ended_by z nothing_ended on) (items_same f) ∙ ended_is on (items_of me n b w) nothing_ended ∙ or_false (ends_on on (items_of me n b w))
    where
      or_false : (z : Bool) → (z || false) ≡ z
      or_false true = refl
      or_false false = refl

  -- its CLS waits
  ends_it : mid.full ≡ false → says_in (words_about u c.words) ≡ Leave ∷ [] → ended_by (items_of me n base w) nothing_ended on ≡ true
  ends_it f k = ended_now f ∙ ends_there (sent_suspended me n b) (links_sent me n b) on u w sends_it its_link_sent (ap has_leave (waits_of_it ∙ k))

  -- or no CLS with its link waits
  ends_none : mid.full ≡ false → says_in (words_about u c.words) ≡ [] → ended_by (items_of me n base w) nothing_ended on ≡ false
  ends_none f k =
      ended_now f ∙ ends_nowhere (sent_suspended me n b) (links_sent me n b) on w
      (λ v s l. ap (λ (z : Sockets). has_leave (about z (all_says w))) (only_user v s l) ∙ ap has_leave (waits_of_it ∙ k))

  -- its end is on its way out: nothing happens there, and no other end sends on the link
  gone_now_on : is_closing at.end ≡ true → gone_of now on ≡ true
  gone_now_on g = is_gone now on (λ p. ap (λ (z : Ends). passes (is_open_sender on) p (get z p)) nothing ∙ by p (get m p) refl)
    where
      its : (p : Pair × Endpoint) → sender_on on m ≡ Some p → is_closing p.1 ≡ true
      its p f = let is : (pair_at u, at.end) ≡ p = cc (sym found ∙ f) in ap (λ (z : Pair × Endpoint). is_closing z.1) (sym is) ∙ g

      nothing : now ≡ m
      nothing = go (unheeded m asks_back (gvb_at on x y) (sender_on on m) refl (λ p f. inl (its p f)))
        where
          go : Unheeded m asks_back → now ≡ m
          go (Unanswered k a) = k
          go (Unconnected k a) = k

      hears : passes (hears_link on) (pair_at u) (get m (pair_at u)) ≡ true
      hears = ap (passes (hears_link on) (pair_at u)) at.there ∙ rw (at.sender, at.heard, at.its_link, eq-eqb on on refl) refl

      by : (p : Pair) (o : Option Endpoint) → get m p ≡ o → passes (is_open_sender on) p o ≡ false
      by p None f = refl
      by p (Some e) f = go (is_open_sender on (p, e)) refl
        where
          go : (z : Bool) → is_open_sender on (p, e) ≡ z → is_open_sender on (p, e) ≡ false
          go false k = k
          go true k =
              let parts = and_parts (hears_link on (p, e)) (not (is_closing e)) k in
              let is : p ≡ pair_at u = good.heard on p (pair_at u) (ap (passes (hears_link on) p) f ∙ parts.0) hears in
              let same_end : e ≡ at.end = cc (sym f ∙ ap (get m) is ∙ at.there) in
              let nay : true ≡ false = sym parts.1 ∙ ap not (ap is_closing same_end ∙ g) in absurd (cc nay)

  -- nothing is made: the RET is pending only if a text is unacknowledged, or the CLS is queued
  late_owed : (z : Bool) → old.host_left ≡ z → is_closing at.end ≡ true → (after_by z).full ≡ false → OwedBy me n now w (after_by z)
  late_owed true h g f = moved f
  late_owed false h g f =
      let room = base_room false f in
      unmade_owed me n now w base (Return on some_messages some_bits) mandatory f (lacks room at.end.leaving refl at.waits) (gone_now_on g) (moved room)
    where
      and_no : (z : Bool) → (z && false) ≡ false
      and_no true = refl
      and_no false = refl

      left_so : at.end.leaving ≡ false → at.end.left ≡ true
      left_so l = sym (ap (λ (z : Bool). z || at.end.left) l) ∙ g

      lacks : mid.full ≡ false → (z : Bool) → at.end.leaving ≡ z → ((says_in (words_about u c.words) ≡ []) × (at.end.left ≡ old.host_left)) ⊎ ((says_in (words_about u c.words) ≡ Leave ∷ []) × ((old.host_left ≡ false) × (at.end.left ≡ true)))
          → (mandatory && not (ended_by (items_of me n base w) nothing_ended on)) ≡ false
      lacks room true l k = ap (λ (z : Bool). not z && not (ended_by (items_of me n base w) nothing_ended on)) (busy at.end at.there l)
      lacks room false l (inl k) = absurd (cc (left_so l, k.1, h))
      lacks room false l (inr k) = ap (λ (z : Bool). mandatory && not z) (ends_it room k.0) ∙ and_no mandatory

  -- the RET is made
  given_owed : (z : Bool) → old.host_left ≡ z → is_closing at.end ≡ false → (after_by z).full ≡ false → OwedBy me n now (w ++ Ret on some_messages some_bits ∷ []) (after_by z)
  given_owed true h g f = absurd (cc (h, (at.quiet g).1))
  given_owed false h g f =
      let room = base_room false f in
      made_owed me n now w base (Return on some_messages some_bits) mandatory (Ret on some_messages some_bits) f (eq-eqb on on refl) (rw (eq-eqb some_messages some_messages refl, eq-eqb some_bits some_bits refl) refl)
      (ap (λ (z : Bool). if z then [] else Gives (Ret on some_messages some_bits) ∷ []) ((base_items room).suspended on ∙ unmarked)) not_out (ends_none room (at.quiet g).0) (moved room)
    where
      is_open : is_open_sender on (pair_at u, at.end) ≡ true
      is_open = rw (at.sender, at.heard, at.its_link, eq-eqb on on refl, g) refl

      not_out : (link : ℕ) → is_ret_on link (Ret on some_messages some_bits) ≡ true → gone_of now link ≡ false
      not_out link k =
          let is : on ≡ link = eqb-true on link k in
          ap (gone_of now) (sym is) ∙ not_gone now (pair_at u) on (did_open m asks_back on (sender_on on m) (pair_at u) at.end found at.there is_open (gvb_did m good on x y))

  pub their_gvb : (after_by old.host_left).full ≡ false → Plain me n (after_by old.host_left)
      → Counted me n now (w ++ made_of m asks_back) (after_by old.host_left) × OwedBy me n now (w ++ made_of m asks_back) (after_by old.host_left)
  their_gvb room plain =
      by (gvb_open m good u on size old.host_left (links_by me n b (receives_at u)) (words_about u c.words) old
      (s_unrested me n m good w b proper unique linked pairs c owed on unmarked u user unclosed size sized) at
      (s_says me n m good w b proper unique linked pairs c owed on unmarked u user unclosed size sized)
      (s_counts me n m good w b proper unique linked pairs c owed on unmarked u user unclosed size sized) x y)
    where
      after : SeenTables
      after = after_by old.host_left

      mid_room : mid.full ≡ false
      mid_room = base_room old.host_left room

      same_tables : (after.conns ≡ base.conns) × (after.known_facts ≡ base.known_facts)
      same_tables = after_same old.host_left room

      seen_now : SeenNow me n b after u conn
      seen_now = base_now mid_room after same_tables.0

      known_facts : after.known_facts ≡ b.known_facts
      known_facts = same_tables.1 ∙ (mid_same mid_room).1

      by : ((is_closing at.end ≡ true) × Counts m asks_back u true (links_by me n b (receives_at u)) (words_about u c.words) (open_shape true on (Some size) old.host_left) conn [])
          ⊎ ((is_closing at.end ≡ false) × Counts m asks_back u true (links_by me n b (receives_at u)) (words_about u c.words ++ Returns on some_messages some_bits ∷ []) (open_shape true on (Some size) old.host_left) conn (Ret on some_messages some_bits ∷ []))
          → Counted me n now (w ++ made_of m asks_back) after × OwedBy me n now (w ++ made_of m asks_back) after
      by (inl cn) = (
        sender_counts_too me n m good w b proper unique linked pairs c owed on unmarked u user unclosed size sized asks_back conn [] [] after numbers seen_now known_facts refl tt plain
            (nothing_more me n m good w b proper unique linked pairs c owed on unmarked u user unclosed size sized asks_back conn [] cn.1),
        subst (λ (z : List Command). OwedBy me n now z after) (sym (ap (λ (z : List Command). w ++ z) cn.1.after.made ∙ nil w)) (late_owed old.host_left refl cn.0 room),
      )
      by (inr cn) = (
        sender_counts_too me n m good w b proper unique linked pairs c owed on unmarked u user unclosed size sized asks_back conn (Ret on some_messages some_bits ∷ []) (Returns on some_messages some_bits ∷ []) after numbers seen_now known_facts refl
            ((λ t. absurd (cc t)), tt) plain cn.1,
        subst (λ (z : List Command). OwedBy me n now (w ++ z) after) (sym cn.1.after.made) (given_owed old.host_left refl cn.0 room),
      )
