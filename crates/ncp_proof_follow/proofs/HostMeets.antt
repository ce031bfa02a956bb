-- The followed state of a connection and the host's state, by the facts about the flow: an end that was
-- asked for and has not asked was not opened; no CLS of a live end is queued after that of the other
-- host; and a received text arrives at the end of the connection that has its link.
use Rattle.std.proofs.Common.{◌≡◌, ◌≤◌, ◌⊎◌, inl, inr, ℕ, ◌-◌, eq-eqb, Bool, true, false, not, ◌&&◌, ◌||◌, if◌then◌else◌, List, [], ◌∷◌, ◌++◌, length, Option, None, Some, is_some, option_to_list, refl, sym, ap, ◌∙◌, subst}
use Rattle.std.specs.FinMap.{get}
use Rattle.ncp_leader.specs.Message.{Message}
use Rattle.ncp_wire.specs.declared.command.Command.{Command}
use Rattle.ncp_model.specs.declared.pair.Pair.{Pair}
use Rattle.ncp_model.specs.declared.outcomes.Took.{Took}
use Rattle.ncp_model.specs.Pairs.{sends, receives}
use Rattle.ncp_model.specs.Endpoint.{Endpoint, is_closing}
use Rattle.ncp_model.specs.Effect.{Effect, Stays, Becomes}
use Rattle.ncp_model.specs.Ends.{Ends, receiver_on, end_of, text_in}
use Rattle.ncp_model.specs.Texts.{hear_text}
use Rattle.ncp_proof_endpoint.specs.Sound.{SoundAt}
use Rattle.ncp_proof_machine.proofs.EndsGood.{EndsInvariant}
use Rattle.ncp_monitor.specs.declared.finding.Rule.{Rule}
use Rattle.ncp_monitor.specs.declared.conn_state.ConnState.{ConnState}
use Rattle.ncp_monitor.specs.declared.conn_state.FactKind.{FactKind}
use Rattle.ncp_monitor.specs.declared.observed_flow.ObservedFlow.{ObservedFlow}
use Rattle.ncp_monitor.specs.ConnStates.{SeenTables, is_of_sockets, conn_at_index, is_marked}
use Rattle.ncp_interface.specs.Sockets.{is_senders}
use Rattle.ncp_monitor.specs.Texts.{size_rule, uses_too_much, over_text_rule, open_text_rules}
use Rattle.ncp_monitor.proofs.Firsts.{first}
use Rattle.ncp_monitor.proofs.Shapes.{Shape, Say, Ask, Leave, Agrees, others_of, is_closed, others_were}
use Rattle.ncp_monitor.proofs.LinkOrder.{Sockets, about}
use Rattle.ncp_monitor.proofs.BooksAt.{HasSockets}
use Rattle.ncp_monitor.proofs.Seeing.{seen}
use Rattle.ncp_follow.specs.declared.followed_conn.FollowedConn.{FollowedConn}
use Rattle.ncp_follow.specs.declared.tables.Tables.{Tables}
use Rattle.ncp_follow.specs.Tracks.{is_pair}
use Rattle.ncp_proof_monitor_allocation.proofs.KeptEnds.{of_end, kept}
use Rattle.ncp_proof_monitor_allocation.proofs.OwnMoves.{all_says}
use Rattle.ncp_proof_monitor_allocation.proofs.Changed.{pair_at, kept_of}
use Rattle.ncp_proof_monitor_allocation.proofs.SeenTables.{conn_seen, seen_of, is_suspended, suspended_of, receives_at}
use Rattle.ncp_proof_monitor_allocation.proofs.Proper.{ProperEnds}
use Rattle.ncp_proof_monitor_allocation.proofs.LinksHeard.{asked_opened, text_late, text_at_it, text_taken}
use Rattle.ncp_proof_monitor_allocation.proofs.LinksReach.{receiver_led}
use Rattle.ncp_proof_monitor_allocation.proofs.Words.{Agreed, Fits, count_of, says_in}
use Rattle.ncp_proof_monitor_allocation.proofs.Counted.{words_about, links_by}
use Rattle.ncp_proof_monitor_allocation.proofs.LinkPlaces.{HasUser, user_found}
use Rattle.ncp_proof_monitor_allocation.proofs.LinkCounts.{Lasting, receiver_counted}
use Rattle.ncp_proof_monitor_allocation.proofs.LinksOpen.{Reaches, open_shape}
use Rattle.ncp_proof_monitor_allocation.proofs.LinksCome.{reach, counts_are, links_unrested}
use Rattle.ncp_proof_monitor_host.proofs.Spoken.{Tells}
use Rattle.ncp_proof_follow_tables.proofs.SameConns.{SameConn, SameConns, pair_is}
use Rattle.ncp_proof_follow_tables.proofs.Calmly.{none_suspended}
use Rattle.ncp_proof_follow_tables.proofs.SameCommands.{Same}
use Rattle.ncp_proof_follow_tables.proofs.SameTexts.{TextLed}
use Rattle.ncp_proof_follow_tables.proofs.TextsAt.{text_at}
use Rattle.ncp_proof_follow_tables.proofs.Placed.{Name, named, place_in, text_named, Placed}

-- ---- the connection of a name, as it is judged and as it is followed

pub data NamedBoth (judged : Option ConnState) (told : Option FollowedConn) : Type 0 where
  Neither : judged ≡ None → told ≡ None → NamedBoth judged told
  Each : (l : ConnState) → (m : FollowedConn) → judged ≡ Some l → told ≡ Some m → SameConn l m → NamedBoth judged told

pub named_both : (at peer : ℕ) (q : Pair) (ls : List ConnState) (ms : List FollowedConn) → SameConns ls ms → NamedBoth (first (is_of_sockets at peer q.local q.remote) ls) (first (is_pair at peer q.local q.remote) ms)
named_both at peer q [] [] k = Neither refl refl
named_both at peer q [] (m ∷ ms) k = absurd k
named_both at peer q (l ∷ ls) [] k = absurd k
named_both at peer q (l ∷ ls) (m ∷ ms) (one, k) = go (is_of_sockets at peer q.local q.remote l) (is_pair at peer q.local q.remote m) (pair_is at peer q.local q.remote l m one) (named_both at peer q ls ms k)
  where
    go : (x y : Bool) → y ≡ x → NamedBoth (first (is_of_sockets at peer q.local q.remote) ls) (first (is_pair at peer q.local q.remote) ms)
        → NamedBoth (if x then Some l else first (is_of_sockets at peer q.local q.remote) ls) (if y then Some m else first (is_pair at peer q.local q.remote) ms)
    go true true e rest = Each l m refl refl one
    go false false e rest = rest
    go true false e rest = absurd (cc e)
    go false true e rest = absurd (cc e)

-- ---- shapes, and what waits

abbrev pub own_of : Option Shape → Option ℕ
own_of None = None
own_of (Some s) = s.own

-- what was asked stays asked, where the other has asked too
pub own_stays : (q : List Say) (e m : Option Shape) (n : ℕ) → is_some (own_of m) ≡ true → others_of e ≡ Some n → Agrees q e m → is_some (own_of e) ≡ true
own_stays [] e m n own others a = ap (λ (x : Option Shape). is_some (own_of x)) (sym a) ∙ own
own_stays (Ask k ∷ q) e None n own others (l, a) = absurd (cc own)
own_stays (Ask k ∷ q) e (Some s) n own others (l, a) =
    let nay : (not true && not s.left) ≡ true = subst (λ (x : Bool). (not x && not s.left) ≡ true) own l in absurd (cc nay)
own_stays (Leave ∷ q) e None n own others (l, a) = absurd (cc own)
own_stays (Leave ∷ q) e (Some s) n own others (l, a) = go s.cls a (λ r. own_stays q e (Some (record s { left = true })) n own others r)
  where
    go : (x : Bool) → Agrees q e (if x then None else Some (record s { left = true })) → (Agrees q e (Some (record s { left = true })) → is_some (own_of e) ≡ true) → is_some (own_of e) ≡ true
    go true r rest = let nay : None ≡ Some n = others_were q e None n r others in absurd (cc nay)
    go false r rest = rest r

abbrev pub leaves_in : List Say → Bool
leaves_in [] = false
leaves_in (Ask n ∷ q) = leaves_in q
leaves_in (Leave ∷ q) = true

-- after a CLS of the other host, the local one ends the connection
pub none_leaves : (q : List Say) (e m : Option Shape) (n : ℕ) → leaves_in q ≡ true → is_closed m ≡ true → others_of e ≡ Some n → Agrees q e m → ⊥
none_leaves [] e m n l c o a = cc l
none_leaves (Ask k ∷ q) e None n l c o (r, a) = cc c
none_leaves (Ask k ∷ q) e (Some s) n l c o (r, a) = none_leaves q e (Some (record s { own = Some k })) n l c o a
none_leaves (Leave ∷ q) e None n l c o (r, a) = cc c
none_leaves (Leave ∷ q) e (Some s) n l c o (r, a) =
    let over : Agrees q e None = subst (λ (x : Bool). Agrees q e (if x then None else Some (record s { left = true }))) c a in
    let nay : None ≡ Some n = others_were q e None n over o in cc nay

module _ (me n : ℕ) (m : Ends) (awaited : Bool) (w : List Command) (b : SeenTables) (t : Tables) (tells : Tells me n m awaited w b) (same : Same b t) where
  abbrev pub name : Pair → Name
  name q = record { at = me; peer = n; pair = q }

  both : (q : Pair) → NamedBoth (conn_seen me n b (q.local, q.remote)) (named (name q) t.tracks)
  both q = named_both me n q b.conns t.tracks same.conns

  awake : (q : Pair) → suspended_of me n b (q.local, q.remote) ≡ false
  awake q = go (both q)
    where
      go : NamedBoth (conn_seen me n b (q.local, q.remote)) (named (name q) t.tracks) → suspended_of me n b (q.local, q.remote) ≡ false
      go (Neither e f) = ap is_suspended e
      go (Each l x e f one) = ap is_suspended e ∙ one.awake

  agrees : (q : Pair) → Agrees (about (q.local, q.remote) (all_says w)) (kept_of m (q.local, q.remote)) (seen_of me n b (q.local, q.remote))
  agrees q = tells.meets.tally.pairs (q.local, q.remote) (awake q)

  -- what is kept of an end
  kept_is : (q : Pair) (e : Endpoint) → get m q ≡ Some e → kept_of m (q.local, q.remote) ≡ Some (of_end (sends q) e)
  kept_is q e g = ap (kept (sends q)) g

  heard_others : (q : Pair) (e : Endpoint) → get m q ≡ Some e → e.heard ≡ true → (k : ℕ) × (others_of (kept_of m (q.local, q.remote)) ≡ Some k)
  heard_others q e g h = (if sends q then e.link else e.size, ap others_of (kept_is q e g) ∙ ap (λ (x : Bool). if x then Some (if sends q then e.link else e.size) else None) h)

  -- ---- an end that was asked for, and has not asked: nothing is reported for it

  pub call_silent : (placed : Placed t) (q : Pair) (e : Endpoint) → get m q ≡ Some e → e.heard ≡ true → e.asked ≡ false → text_named (name q) t ≡ []
  call_silent placed q e g h a = go (both q)
    where
      go : NamedBoth (conn_seen me n b (q.local, q.remote)) (named (name q) t.tracks) → text_named (name q) t ≡ []
      go (Neither x f) = ap (λ (o : Option FollowedConn). text_at t.told (place_in o)) f
      go (Each l x lived f one) = by x.place refl
        where
          by : (o : Option ℕ) → x.place ≡ o → text_named (name q) t ≡ []
          by None p = ap (λ (o : Option FollowedConn). text_at t.told (place_in o)) f ∙ ap (text_at t.told) p
          by (Some p) d =
              let whole = placed.whole (name q) x p f d in
              let linked : is_some l.link ≡ true = ap (λ (y : Option ℕ). is_some y) (sym one.link) ∙ whole.0 in
              let sized : is_some l.size ≡ true = ap (λ (y : Option ℕ). is_some y) (sym one.size) ∙ whole.1 in
              let own : is_some (own_of (seen_of me n b (q.local, q.remote))) ≡ true = ap (λ (o : Option ConnState). is_some (own_of (seen o))) lived ∙ either (is_senders l.local) linked sized in
              let others = heard_others q e g h in
              let stays = own_stays (about (q.local, q.remote) (all_says w)) (kept_of m (q.local, q.remote)) (seen_of me n b (q.local, q.remote)) others.0 own others.1 (agrees q) in
              let none : is_some (own_of (kept_of m (q.local, q.remote))) ≡ false = ap (λ (s : Option Shape). is_some (own_of s)) (kept_is q e g) ∙ ap (λ (y : Bool). is_some (if y then Some (if sends q then e.size else e.link) else None)) a in
              let nay : true ≡ false = sym stays ∙ none in absurd (cc nay)
            where
              either : (y : Bool) → is_some l.link ≡ true → is_some l.size ≡ true → is_some (if y then l.size else l.link) ≡ true
              either true u v = v
              either false u v = u

  -- ---- a live end for which the other host sent a CLS: none is queued for it

  pub none_over : (q : Pair) (e : Endpoint) (x : FollowedConn) → get m q ≡ Some e → e.heard ≡ true → named (name q) t.tracks ≡ Some x → x.peer_left ≡ true → leaves_in (about (q.local, q.remote) (all_says w)) ≡ true → ⊥
  none_over q e x g h f c l = go (both q)
    where
      others : (k : ℕ) × (others_of (kept_of m (q.local, q.remote)) ≡ Some k)
      others = heard_others q e g h

      go : NamedBoth (conn_seen me n b (q.local, q.remote)) (named (name q) t.tracks) → ⊥
      go (Neither y z) = let nay : Some x ≡ None = sym f ∙ z in cc nay
      go (Each y z lived told one) =
          let is : x ≡ z = cc (sym f ∙ told) in
          let closed : is_closed (seen_of me n b (q.local, q.remote)) ≡ true = ap (λ (o : Option ConnState). is_closed (seen o)) lived ∙ sym one.peer_left ∙ ap (λ (v : FollowedConn). v.peer_left) (sym is) ∙ c in
          none_leaves (about (q.local, q.remote) (all_says w)) (kept_of m (q.local, q.remote)) (seen_of me n b (q.local, q.remote)) others.0 l closed others.1 (agrees q)

  -- ---- a text comes

  abbrev pub hearing : ObservedFlow
  hearing = record { at = me; peer = n; sent = false }

  pub record TextIn (on : ℕ) (message : Message) (k : TextLed hearing on message b) : Type 0 where
    pub u : Sockets
    pub lived : conn_seen me n b u ≡ Some (conn_at_index b.conns k.place)
    pub sockets : HasSockets me n u.0 u.1 (conn_at_index b.conns k.place)
    pub end : Endpoint
    pub there : get m (pair_at u) ≡ Some end
    pub led : receiver_on on m ≡ Some (pair_at u, end)
    pub receiver : receives (pair_at u) ≡ true
    -- it is admitted, and no CLS of the host was seen; or its end is on its way out
    pub outcome : ((is_closing end ≡ true) × (text_in on message.size message.text m ≡ Stays Took.Late))
        ⊎ ((is_closing end ≡ false) × ((conn_at_index b.conns k.place).host_left ≡ false)
        × (text_in on message.size message.text m ≡ Becomes (record end { messages = end.messages - 1; bits = end.bits - length message.text; stored = end.stored ++ message.text }) Took.Admitted))

  pub text_comes_so : (good : EndsInvariant m) (proper : ProperEnds m) (on : ℕ) (message : Message) (k : TextLed hearing on message b) → TextIn on message k
  text_comes_so good proper on message k = record {
    u = u;
    lived = it.user.seen ∙ ap (λ (p : ℕ). Some (conn_at_index b.conns p)) it.there;
    sockets = subst (λ (p : ℕ). HasSockets me n u.0 u.1 (conn_at_index b.conns p)) it.there it.user.sockets;
    end = at.end;
    there = at.there;
    led = led;
    receiver = at.receiver;
    outcome = go (is_closing at.end) refl;
  }
    where
      it : HasUser me n true on b k.place
      it = user_found me n true on b tells.meets.unique k.place k.found

      u : Sockets
      u = it.u

      conn : ConnState
      conn = conn_at_index b.conns it.user.place

      conn_is : conn ≡ conn_at_index b.conns k.place
      conn_is = ap (conn_at_index b.conns) it.there

      unmarked : is_marked me n (FactKind.LinkSuspended true on) b ≡ false
      unmarked = none_suspended me n true on b same.calm

      unclosed : conn.peer_left ≡ false
      unclosed = ap (λ (l : ConnState). l.peer_left) conn_is ∙ off (conn_at_index b.conns k.place).peer_left k.stays
        where
          off : (x : Bool) → (x || (false && x)) ≡ false → x ≡ false
          off true e = absurd (cc e)
          off false e = refl

      sized : conn.size ≡ Some message.size
      sized = ap (λ (l : ConnState). l.size) conn_is ∙ k.size

      at : Reaches m u false on (Some message.size) conn.host_left (says_in (words_about u tells.counted.words))
      at = reach me n m w b proper tells.meets.unique tells.meets.linked tells.meets.tally.pairs tells.counted true on unmarked u it.user unclosed (Some message.size) sized on refl

      led : receiver_on on m ≡ Some (pair_at u, at.end)
      led = receiver_led m good on (pair_at u) at.end at.there at.receiver at.asked at.its_link

      links : ℕ → Bool
      links = links_by me n b (receives_at u)

      counted : Agreed false links (Fits false links (get m (pair_at u))) (words_about u tells.counted.words) (Some (open_shape false on (Some message.size) conn.host_left)) (count_of (Some conn))
      counted = counts_are me n m w b proper tells.meets.unique tells.meets.linked tells.meets.tally.pairs tells.counted true on unmarked u it.user unclosed (Some message.size) sized

      lasting : Lasting false on (Some (open_shape false on (Some message.size) conn.host_left))
      lasting = record { shape = open_shape false on (Some message.size) conn.host_left; is = refl; own = refl; unclosed = refl; given = refl }

      numbers : is_closing at.end ≡ false → (conn.messages ≤ at.end.messages) × (conn.bits ≤ at.end.bits)
      numbers g =
          receiver_counted links on (words_about u tells.counted.words) (Some (open_shape false on (Some message.size) conn.host_left)) (count_of (Some conn)) (get m (pair_at u)) at.end lasting
          (links_unrested me n m w b proper tells.meets.unique tells.meets.linked tells.meets.tally.pairs tells.counted true on unmarked u it.user unclosed) at.there g counted

      its_size : at.end.size ≡ message.size
      its_size = of_heard at.end.heard at.end.size message.size at.others
        where
          of_heard : (x : Bool) (i j : ℕ) → (if x then Some i else None) ≡ Some j → i ≡ j
          of_heard true i j e = cc e
          of_heard false i j e = absurd (cc e)

      unruled : open_text_rules on message conn ≡ []
      unruled =
          ap (λ (o : Option ℕ). option_to_list (size_rule on message.size o) ++ option_to_list (over_text_rule on (length message.text) conn)) sized
          ∙ ap (λ (x : Bool). option_to_list (if x then None else Some (Rule.TextSize on message.size message.size)) ++ option_to_list (over_text_rule on (length message.text) conn)) (eq-eqb message.size message.size refl)
          ∙ ap (λ (x : Bool). option_to_list (if x then Some (Rule.TextOver on conn.messages (length message.text) conn.bits) else None)) (ap (uses_too_much (length message.text)) conn_is ∙ k.enough)

      heard : (act : Effect Took) → hear_text message.size message.text (Some at.end) ≡ act → text_in on message.size message.text m ≡ act
      heard act h = ap (λ (o : Option (Pair × Endpoint)). hear_text message.size message.text (end_of o)) led ∙ h

      go : (x : Bool) → is_closing at.end ≡ x
          → ((is_closing at.end ≡ true) × (text_in on message.size message.text m ≡ Stays Took.Late))
          ⊎ ((is_closing at.end ≡ false) × ((conn_at_index b.conns k.place).host_left ≡ false)
          × (text_in on message.size message.text m ≡ Becomes (record at.end { messages = at.end.messages - 1; bits = at.end.bits - length message.text; stored = at.end.stored ++ message.text }) Took.Admitted))
      go true g = inl (g, heard (Stays Took.Late) (text_late message.size message.text at.end g))
      go false g =
          let n = numbers g in
          let opened = asked_opened (pair_at u) at.end (subst (SoundAt (pair_at u)) at.there (good.sound (pair_at u))) at.asked at.heard g in
          inr (
            g,
            ap (λ (l : ConnState). l.host_left) (sym conn_is) ∙ (at.quiet g).1,
            heard (Becomes (record at.end { messages = at.end.messages - 1; bits = at.end.bits - length message.text; stored = at.end.stored ++ message.text }) Took.Admitted)
                (text_at_it message.size message.text at.end g opened ∙ text_taken on message conn at.end unruled (sized ∙ ap (λ (x : ℕ). Some x) (sym its_size)) n.0 n.1),
          )
