-- A text of the other, wherever its link leads: what is counted of each connection stays what the host has, and the replies that
-- are due stay those that wait.
use Rattle.std.proofs.Common.{◌≡◌, ℕ, Bool, true, false, ◌||◌, if◌then◌else◌, List, [], ◌∷◌, ◌++◌, length, Option, None, Some, ◌⊎◌, inl, inr, refl, sym, ap, ◌∙◌, subst}
use Rattle.std.specs.Prelude.{◌-◌}
use Rattle.std.specs.FinMap.{get}
use Rattle.std.specs.List.{filter, list_any}
use Rattle.ncp_leader.specs.Message.{Message}
use Rattle.ncp_wire.specs.declared.command.Command.{Command}
use Rattle.ncp_model.specs.declared.pair.Pair.{Pair}
use Rattle.ncp_model.specs.declared.outcomes.Took.{Took}
use Rattle.ncp_model.specs.Endpoint.{Endpoint, is_closing}
use Rattle.ncp_model.specs.Effect.{Effect, Stays, answer, text_error}
use Rattle.ncp_model.specs.Texts.{hear_text, made_by_text}
use Rattle.ncp_model.specs.Ends.{Ends, receiver_on, pair_of, end_of, text_in, map_after_at}
use Rattle.ncp_proof_endpoint.specs.Sound.{SoundAt}
use Rattle.ncp_proof_machine.proofs.EndsGood.{EndsInvariant}
use Rattle.ncp_monitor.specs.declared.finding.Rule.{Rule}
use Rattle.ncp_monitor.specs.declared.link_target.LinkTarget.{LinkTarget}
use Rattle.ncp_monitor.specs.declared.conn_state.ConnState.{ConnState}
use Rattle.ncp_monitor.specs.declared.conn_state.FactKind.{FactKind}
use Rattle.ncp_monitor.specs.ConnStates.{SeenTables, is_of_sockets, conn_at_index, is_topic, is_marked, put_conn, link_suspended_now}
use Rattle.ncp_monitor.specs.Allocation.{is_any}
use Rattle.ncp_monitor.specs.Texts.{text_shown, admits_error, is_closed_for, text_target, admits_error_if, over_suspended, after_text_came, conn_came_at, open_text_rules, used, demuxed_after_text, conn_tables_after_text}
use Rattle.ncp_monitor.specs.Replies.{is_due_of}
use Rattle.ncp_monitor.proofs.Shapes.{Say}
use Rattle.ncp_monitor.proofs.LinkOrder.{Sockets}
use Rattle.ncp_monitor.proofs.Firsts.{first}
use Rattle.ncp_proof_monitor_allocation.proofs.Changed.{pair_at, OneEnd}
use Rattle.ncp_proof_monitor_allocation.proofs.SeenTables.{conn_seen, receives_at}
use Rattle.ncp_proof_monitor_allocation.proofs.Users.{Linked}
use Rattle.ncp_proof_monitor_allocation.proofs.Resting.{fact_conns, fact_keeps, fact_made, fact_room}
use Rattle.ncp_proof_monitor_allocation.proofs.Proper.{ProperEnds}
use Rattle.ncp_proof_monitor_allocation.proofs.TidyBooks.{Tidy}
use Rattle.ncp_proof_monitor_allocation.proofs.LinkPlaces.{UserAt, AllUnique, LeadsTo, ToRest, ToNobody, ToClosed, ToUnasked, ToOpen, text_leads, user_seen, renumbered_here, renumbered_others, renumbered_tidy, renumbered_unique}
use Rattle.ncp_proof_monitor_allocation.proofs.Plain.{Plain}
use Rattle.ncp_proof_monitor_allocation.proofs.TextErrors.{is_text_error, shown_by, AllAdmitted}
use Rattle.ncp_proof_monitor_allocation.proofs.Words.{Word, link_given, Agreed, Fits, count_of, says_in}
use Rattle.ncp_proof_monitor_allocation.proofs.Counted.{is_worded, words_about, links_by, Counted, PairsAgree, append_nil}
use Rattle.ncp_proof_monitor_replies.proofs.OwedItems.{OwedBy}
use Rattle.ncp_proof_monitor_replies.proofs.OwedSteps.{owed_stays, owed_fact, owed_link_suspended}
use Rattle.ncp_proof_monitor_allocation.proofs.LinksHeard.{text_late, text_unopened, unasked_unopened}
use Rattle.ncp_proof_monitor_allocation.proofs.LinksReach.{receiver_led}
use Rattle.ncp_proof_monitor_allocation.proofs.LinksOpen.{Reaches, TextCounts, open_shape, text_open}
use Rattle.ncp_proof_monitor_allocation.proofs.LinksCome.{Wider, SameConn, SeenNow, links_unrested, reach, counts_are, open_step}
use Rattle.ncp_proof_monitor_replies.proofs.TheirOpen.{items_now}
use Rattle.ncp_proof_monitor_replies.proofs.TheirText.{text_ends, text_made, TextDid, TextStayed, TextChanged, text_did, stays_so, SameAt, same_conns_at, then_at, came_at, came_facts, text_still, text_suspended_counted, text_moves}
use Rattle.ncp_proof_monitor_replies.proofs.SuspendedOpen.{suspended_step}

abbrev pub BothText : ℕ → ℕ → Ends → ℕ → List Bool → Message → List Command → SeenTables → Type 0
BothText me n m on head message w after = Counted me n (text_ends m on message) (w ++ text_made m on head message) after × OwedBy me n (text_ends m on message) (w ++ text_made m on head message) after

-- shown: the ERR about it is that which is admitted
module _ (me n : ℕ) (m : Ends) (good : EndsInvariant m) (proper : ProperEnds m) (w : List Command) (b : SeenTables) (tidy : Tidy b) (unique : AllUnique me n b) (linked : Linked me n b) (pairs : PairsAgree me n m w b) (c : Counted me n m w b) (owed : OwedBy me n m w b) (on : ℕ) (head : List Bool) (message : Message) (shown : shown_by (text_error head message.text) ≡ text_shown n message) (about : is_text_error (text_error head message.text) ≡ true) where
  abbrev error_topic : FactKind
  error_topic = FactKind.Admits true (text_shown n message)

  abbrev with_error : SeenTables → SeenTables
  with_error conn_tables = admits_error (record { at = me; peer = n; sent = false }) message conn_tables

  abbrev come : SeenTables
  come = after_text_came (record { at = me; peer = n; sent = false }) on b

  moved : OwedBy me n (text_ends m on message) (w ++ text_made m on head message) b
  moved = text_moves me n m on head message w b about (text_did m good on head message) owed

  error_there : (conn_tables : SeenTables) → (with_error conn_tables).full ≡ false → AllAdmitted me n (text_error head message.text ∷ []) (with_error conn_tables)
  error_there conn_tables room = ((λ k. ap (λ (x : List ℕ). is_marked me n (FactKind.Admits true x) (with_error conn_tables)) shown ∙ fact_made me n error_topic conn_tables room), tt)

  error_wider : (conn_tables : SeenTables) → Wider me n b conn_tables → Wider me n b (with_error conn_tables)
  error_wider conn_tables k = record {
    links = λ host link z. fact_keeps me n error_topic conn_tables (FactKind.LinkSuspended host link) (k.links host link z);
    admits = λ bytes z. fact_keeps me n error_topic conn_tables (FactKind.Admits true bytes) (k.admits bytes z);
  }

  error_owed : (conn_tables : SeenTables) → OwedBy me n (text_ends m on message) (w ++ text_made m on head message) conn_tables → OwedBy me n (text_ends m on message) (w ++ text_made m on head message) (with_error conn_tables)
  error_owed conn_tables o = owed_fact me n (text_ends m on message) (w ++ text_made m on head message) conn_tables error_topic (λ link. refl) o

  -- ---- it is seen to have come, and an ERR is admitted

  come_wider : Wider me n b come
  come_wider = record {
    links = λ host link z. ap (list_any (is_topic me n (FactKind.LinkSuspended host link))) (came_facts me n on b).0 ∙ z;
    admits = λ bytes z. ap (list_any (is_topic me n (FactKind.Admits true bytes))) (came_facts me n on b).0 ∙ z;
  }

  come_alike : (v : Sockets) → SameAt me n b (with_error come) v
  come_alike v = then_at me n b come (with_error come) v (came_at me n on b unique v) (same_conns_at me n come (with_error come) (fact_conns me n error_topic come) v)

  come_owed : OwedBy me n (text_ends m on message) (w ++ text_made m on head message) come
  come_owed =
      owed_stays me n (text_ends m on message) (w ++ text_made m on head message) b come
      (record { suspended = λ link. ap (list_any (is_topic me n (FactKind.LinkSuspended false link))) (came_facts me n on b).0; links = λ v s. ap (link_given true) (came_at me n on b unique v).seen })
      (ap (filter (is_due_of me n true)) (sym (came_facts me n on b).1)) moved

  -- the link is suspended
  pub text_at_rest : is_marked me n (FactKind.LinkSuspended true on) b ≡ true → (with_error come).full ≡ false → Plain me n (with_error come) → BothText me n m on head message w (with_error come)
  text_at_rest marked room plain = (
    text_suspended_counted me n m w b (with_error come) come_alike (error_wider come come_wider) pairs c plain on head message (error_there come room) ((error_wider come come_wider).links true on marked) (text_did m good on head message),
    error_owed come come_owed,
  )

  -- the other has not asked for it: the end has not opened
  pub text_not_asked : (u : Sockets) (left : Bool) (q : List Say) → Reaches m u false on None left q → (with_error come).full ≡ false → Plain me n (with_error come) → BothText me n m on head message w (with_error come)
  text_not_asked u left q at room plain = (go (is_closing at.end) refl, error_owed come come_owed)
    where
      found : receiver_on on m ≡ Some (pair_at u, at.end)
      found = receiver_led m good on (pair_at u) at.end at.there at.receiver at.asked at.its_link

      is_unopened : at.end.opened ≡ false
      is_unopened = unasked_unopened (pair_at u) at.end (subst (SoundAt (pair_at u)) at.there (good.sound (pair_at u))) (rw (at.asked, at.heard) refl)

      still_so : (a : Took) → hear_text message.size message.text (Some at.end) ≡ Stays a → (made_by_text head message.text a ≡ []) ⊎ (made_by_text head message.text a ≡ text_error head message.text ∷ [])
          → Counted me n (text_ends m on message) (w ++ text_made m on head message) (with_error come)
      still_so a k made =
          text_still me n m w b (with_error come) come_alike (error_wider come come_wider) pairs c plain on head message (error_there come room)
          (ap (map_after_at m (pair_of (receiver_on on m))) is ∙ stays_so m (pair_of (receiver_on on m)) a) (as_made made)
        where
          is : text_in on message.size message.text m ≡ Stays a
          is = ap (λ (x : Option (Pair × Endpoint)). hear_text message.size message.text (end_of x)) found ∙ k

          as_made : (made_by_text head message.text a ≡ []) ⊎ (made_by_text head message.text a ≡ text_error head message.text ∷ []) → (text_made m on head message ≡ []) ⊎ (text_made m on head message ≡ text_error head message.text ∷ [])
          as_made (inl e) = inl (ap (λ (x : Effect Took). made_by_text head message.text (answer x)) is ∙ e)
          as_made (inr e) = inr (ap (λ (x : Effect Took). made_by_text head message.text (answer x)) is ∙ e)

      go : (x : Bool) → is_closing at.end ≡ x → Counted me n (text_ends m on message) (w ++ text_made m on head message) (with_error come)
      go true g = still_so Took.Late (text_late message.size message.text at.end g) (inl refl)
      go false g = still_so Took.NotOpen (text_unopened message.size message.text at.end g is_unopened) (inr refl)

  -- no connection has the link, or the other host has closed it: the link is suspended from now on
  pub text_unled : (with_error (link_suspended_now me n true on b)).full ≡ false → Plain me n (with_error (link_suspended_now me n true on b)) → BothText me n m on head message w (with_error (link_suspended_now me n true on b))
  text_unled room plain = (
    text_suspended_counted me n m w b (with_error mid) alike (error_wider mid mid_wider) pairs c plain on head message (error_there mid room)
        (fact_keeps me n error_topic mid (FactKind.LinkSuspended true on) (fact_made me n (FactKind.LinkSuspended true on) b mid_room)) (text_did m good on head message),
    error_owed mid (owed_link_suspended me n (text_ends m on message) (w ++ text_made m on head message) b true on mid_room moved),
  )
    where
      mid : SeenTables
      mid = link_suspended_now me n true on b

      mid_room : mid.full ≡ false
      mid_room = fact_room me n error_topic mid room

      alike : (v : Sockets) → SameAt me n b (with_error mid) v
      alike v = same_conns_at me n b (with_error mid) (fact_conns me n error_topic mid ∙ fact_conns me n (FactKind.LinkSuspended true on) b) v

      mid_wider : Wider me n b mid
      mid_wider = record {
        links = λ host link z. fact_keeps me n (FactKind.LinkSuspended true on) b (FactKind.LinkSuspended host link) z;
        admits = λ bytes z. fact_keeps me n (FactKind.LinkSuspended true on) b (FactKind.Admits true bytes) z;
      }

  -- ---- an open connection, and the text breaks no rule

  module _ (unmarked : is_marked me n (FactKind.LinkSuspended true on) b ≡ false) (u : Sockets) (user : UserAt me n true on b u) (unclosed : (conn_at_index b.conns user.place).peer_left ≡ false) (size : ℕ) (sized : (conn_at_index b.conns user.place).size ≡ Some size) where
    abbrev old : ConnState
    old = conn_at_index b.conns user.place

    abbrev conn : ConnState
    conn = used (length message.text) old

    abbrev less : SeenTables
    less = put_conn b (Some user.place) conn

    abbrev then_come : SeenTables
    then_come = after_text_came (record { at = me; peer = n; sent = false }) on less

    less_here : conn_seen me n less u ≡ Some conn
    less_here = renumbered_here me n true on b u user (old.messages - 1) (old.bits - length message.text) old.recall old.came unique

    less_user : UserAt me n true on less u
    less_user = user_seen me n true on less (renumbered_tidy me n true on b u user (old.messages - 1) (old.bits - length message.text) old.recall old.came tidy) u conn less_here user.receives user.given

    less_conn : conn_at_index less.conns less_user.place ≡ conn
    less_conn = cc (sym less_user.seen ∙ less_here)

    come_is : then_come ≡ put_conn less (Some less_user.place) (record (conn_at_index less.conns less_user.place) { came = true })
    come_is =
        ap (conn_came_at less) less_user.found
        ∙ ap (λ (x : Bool). if x then less else put_conn less (Some less_user.place) (record (conn_at_index less.conns less_user.place) { came = true })) (ap (λ (x : ConnState). x.peer_left) less_conn ∙ unclosed)

    abbrev after_conn : ConnState
    after_conn = record conn { came = true }

    seen_after : SeenNow me n b then_come u after_conn
    seen_after = record {
      here = ap (λ (x : SeenTables). conn_seen me n x u) come_is
          ∙ renumbered_here me n true on less u less_user (conn_at_index less.conns less_user.place).messages (conn_at_index less.conns less_user.place).bits (conn_at_index less.conns less_user.place).recall true
          (renumbered_unique me n true on b u user (old.messages - 1) (old.bits - length message.text) old.recall old.came unique)
          ∙ ap (λ (x : ConnState). Some (record x { came = true })) less_conn;
      others = λ v d. ap (λ (x : SeenTables). conn_seen me n x v) come_is
          ∙ renumbered_others me n true on less u less_user (conn_at_index less.conns less_user.place).messages (conn_at_index less.conns less_user.place).bits (conn_at_index less.conns less_user.place).recall true v d
          ∙ renumbered_others me n true on b u user (old.messages - 1) (old.bits - length message.text) old.recall old.came v d;
    }

    numbers : SameConn old after_conn
    numbers = record { local = refl; link = refl; size = refl; host_left = refl; peer_left = refl; suspended = refl }

    pub text_fits : open_text_rules on message old ≡ [] → Plain me n then_come → BothText me n m on head message w then_come
    text_fits none plain = (
      subst (λ (cs : List Command). Counted me n (text_ends m on message) (w ++ cs) then_come) (sym tc.after.made)
          (open_step me n m w b proper unique linked pairs c true on unmarked u user unclosed (text_ends m on message) tc.end [] [] then_come (Some size) after_conn sized numbers seen_after (came_facts me n on less).0 tc.after.one refl
          (subst (λ (ws : List Word). Agreed false (links_by me n b (receives_at u)) (Fits false (links_by me n b (receives_at u)) (Some tc.end)) ws (Some (open_shape false on (Some size) old.host_left)) (count_of (Some after_conn))) (sym (append_nil (words_about u c.words))) tc.agreed) plain tt),
      owed_stays me n (text_ends m on message) (w ++ text_made m on head message) b then_come (items_now me n b then_come u old after_conn user.seen numbers seen_after (came_facts me n on less).0)
          (ap (filter (is_due_of me n true)) (sym (came_facts me n on less).1)) moved,
    )
      where
        tc : TextCounts m on head message u (links_by me n b (receives_at u)) (words_about u c.words) (open_shape false on (Some size) old.host_left) (record old { recall = old.recall; messages = old.messages - 1; bits = old.bits - length message.text })
        tc =
            text_open m good u on size old.host_left (links_by me n b (receives_at u)) (words_about u c.words) old (links_unrested me n m w b proper unique linked pairs c true on unmarked u user unclosed)
            (reach me n m w b proper unique linked pairs c true on unmarked u user unclosed (Some size) sized on refl)
            (counts_are me n m w b proper unique linked pairs c true on unmarked u user unclosed (Some size) sized) head message sized none

    -- ---- or it breaks a rule: the link is suspended from now on

    abbrev mid_over : SeenTables
    mid_over = link_suspended_now me n true on then_come

    pub text_wrong : (with_error mid_over).full ≡ false → Plain me n (with_error mid_over) → BothText me n m on head message w (with_error mid_over)
    text_wrong room plain = (counted (text_did m good on head message), error_owed mid_over (owed_link_suspended me n (text_ends m on message) (w ++ text_made m on head message) then_come true on mid_room come_so))
      where
        after : SeenTables
        after = with_error mid_over

        mid_room : mid_over.full ≡ false
        mid_room = fact_room me n error_topic mid_over room

        come_so : OwedBy me n (text_ends m on message) (w ++ text_made m on head message) then_come
        come_so =
            owed_stays me n (text_ends m on message) (w ++ text_made m on head message) b then_come (items_now me n b then_come u old after_conn user.seen numbers seen_after (came_facts me n on less).0)
            (ap (filter (is_due_of me n true)) (sym (came_facts me n on less).1)) moved

        same_conns : after.conns ≡ then_come.conns
        same_conns = fact_conns me n error_topic mid_over ∙ fact_conns me n (FactKind.LinkSuspended true on) then_come

        seen_now : SeenNow me n b after u after_conn
        seen_now = record {
          here = ap (λ (xs : List ConnState). first (is_of_sockets me n u.0 u.1) xs) same_conns ∙ seen_after.here;
          others = λ v d. ap (λ (xs : List ConnState). first (is_of_sockets me n v.0 v.1) xs) same_conns ∙ seen_after.others v d;
        }

        kept_fact : (fact_kind : FactKind) → is_marked me n fact_kind b ≡ true → is_marked me n fact_kind after ≡ true
        kept_fact fact_kind z =
            fact_keeps me n error_topic mid_over fact_kind (fact_keeps me n (FactKind.LinkSuspended true on) then_come fact_kind (ap (list_any (is_topic me n fact_kind)) (came_facts me n on less).0 ∙ z))

        wider : Wider me n b after
        wider = record { links = λ host link z. kept_fact (FactKind.LinkSuspended host link) z; admits = λ bytes z. kept_fact (FactKind.Admits true bytes) z }

        marked : is_marked me n (FactKind.LinkSuspended true on) after ≡ true
        marked = fact_keeps me n error_topic mid_over (FactKind.LinkSuspended true on) (fact_made me n (FactKind.LinkSuspended true on) then_come mid_room)

        at : Reaches m u false on (Some size) old.host_left (says_in (words_about u c.words))
        at = reach me n m w b proper unique linked pairs c true on unmarked u user unclosed (Some size) sized on refl

        found : receiver_on on m ≡ Some (pair_at u, at.end)
        found = receiver_led m good on (pair_at u) at.end at.there at.receiver at.asked at.its_link

        step : (end : Option Endpoint) → (filter is_worded (text_made m on head message) ≡ []) → AllAdmitted me n (text_made m on head message) after → OneEnd m (text_ends m on message) (pair_at u) end → Counted me n (text_ends m on message) (w ++ text_made m on head message) after
        step end unworded admits one =
            suspended_step me n m w b proper unique linked pairs c on unmarked u user unclosed size sized after after_conn numbers seen_now wider marked plain at.end at.there at.sender at.asked at.its_link (text_ends m on message) (text_made m on head message) end unworded admits one

        made_so : (text_made m on head message ≡ []) ⊎ (text_made m on head message ≡ text_error head message.text ∷ []) → (filter is_worded (text_made m on head message) ≡ []) × AllAdmitted me n (text_made m on head message) after
        made_so (inl e) = (ap (filter is_worded) e, subst (λ (x : List Command). AllAdmitted me n x after) (sym e) tt)
        made_so (inr e) = (ap (filter is_worded) e, subst (λ (x : List Command). AllAdmitted me n x after) (sym e) (error_there mid_over room))

        counted : TextDid m on head message → Counted me n (text_ends m on message) (w ++ text_made m on head message) after
        counted (TextStayed k q) =
            let is = made_so q in
            step (get m (pair_at u)) is.0 is.1 (record { there = ap (λ (z : Ends). get z (pair_at u)) k; elsewhere = λ p e. ap (λ (z : Ends). get z p) k })
        counted (TextChanged p f then_end known_facts one made) =
            let is = made_so (inl made) in
            let same_pair : p ≡ (pair_at u, at.end) = cc (sym f ∙ found) in
            step (Some then_end) is.0 is.1 (subst (λ (z : Pair). OneEnd m (text_ends m on message) z (Some then_end)) (ap (λ (q : Pair × Endpoint). q.0) same_pair) one)

  -- ---- wherever it leads

  abbrev text_conn_tables : LinkTarget → SeenTables
  text_conn_tables led = demuxed_after_text (record { at = me; peer = n; sent = false }) on message b led

  abbrev opened_by : (u : Sockets) → UserAt me n true on b u → List Rule → SeenTables
  opened_by u user rules =
      admits_error_if (is_any rules) (record { at = me; peer = n; sent = false }) message
      (over_suspended (is_any rules) (record { at = me; peer = n; sent = false }) on
      (after_text_came (record { at = me; peer = n; sent = false }) on (put_conn b (Some user.place) (used (length message.text) (conn_at_index b.conns user.place)))))

  text_opened : is_marked me n (FactKind.LinkSuspended true on) b ≡ false → (u : Sockets) (user : UserAt me n true on b u) → (conn_at_index b.conns user.place).peer_left ≡ false → (size : ℕ) → (conn_at_index b.conns user.place).size ≡ Some size → (rules : List Rule)
      → open_text_rules on message (conn_at_index b.conns user.place) ≡ rules → (opened_by u user rules).full ≡ false → Plain me n (opened_by u user rules) → BothText me n m on head message w (opened_by u user rules)
  text_opened unmarked u user k size z [] e room plain = text_fits unmarked u user k size z e plain
  text_opened unmarked u user k size z (r ∷ rules) e room plain = text_wrong unmarked u user k size z room plain

  unclosed_so : (x : Bool) → (x || false) ≡ false → x ≡ false
  unclosed_so true e = absurd (cc e)
  unclosed_so false e = refl

  text_led : (led : LinkTarget) → LeadsTo me n (is_closed_for (record { at = me; peer = n; sent = false })) true on b led → (text_conn_tables led).full ≡ false → Plain me n (text_conn_tables led) → BothText me n m on head message w (text_conn_tables led)
  text_led led (ToRest e marked) room plain =
      subst (λ (l : LinkTarget). BothText me n m on head message w (text_conn_tables l)) (sym e)
      (text_at_rest marked (subst (λ (l : LinkTarget). (text_conn_tables l).full ≡ false) e room) (subst (λ (l : LinkTarget). Plain me n (text_conn_tables l)) e plain))
  text_led led (ToNobody e unmarked none) room plain =
      subst (λ (l : LinkTarget). BothText me n m on head message w (text_conn_tables l)) (sym e)
      (text_unled (subst (λ (l : LinkTarget). (text_conn_tables l).full ≡ false) e room) (subst (λ (l : LinkTarget). Plain me n (text_conn_tables l)) e plain))
  text_led led (ToClosed e unmarked u user k) room plain =
      subst (λ (l : LinkTarget). BothText me n m on head message w (text_conn_tables l)) (sym e)
      (text_unled (subst (λ (l : LinkTarget). (text_conn_tables l).full ≡ false) e room) (subst (λ (l : LinkTarget). Plain me n (text_conn_tables l)) e plain))
  text_led led (ToUnasked u user e unmarked k) room plain =
      subst (λ (l : LinkTarget). BothText me n m on head message w (text_conn_tables l)) (sym e)
      (text_not_asked u (conn_at_index b.conns user.place).host_left (says_in (words_about u c.words))
      (reach me n m w b proper unique linked pairs c true on unmarked u user (unclosed_so (conn_at_index b.conns user.place).peer_left k.0) None k.1 on refl)
      (subst (λ (l : LinkTarget). (text_conn_tables l).full ≡ false) e room) (subst (λ (l : LinkTarget). Plain me n (text_conn_tables l)) e plain))
  text_led led (ToOpen u user e unmarked size k) room plain =
      subst (λ (l : LinkTarget). BothText me n m on head message w (text_conn_tables l)) (sym e)
      (text_opened unmarked u user (unclosed_so (conn_at_index b.conns user.place).peer_left k.0) size k.1 (open_text_rules on message (conn_at_index b.conns user.place)) refl
      (subst (λ (l : LinkTarget). (text_conn_tables l).full ≡ false) e room) (subst (λ (l : LinkTarget). Plain me n (text_conn_tables l)) e plain))

  pub text_both : (conn_tables_after_text (record { at = me; peer = n; sent = false }) on message b).full ≡ false → Plain me n (conn_tables_after_text (record { at = me; peer = n; sent = false }) on message b)
      → BothText me n m on head message w (conn_tables_after_text (record { at = me; peer = n; sent = false }) on message b)
  text_both room plain = text_led (text_target (record { at = me; peer = n; sent = false }) on b) (text_leads me n false on b unique) room plain
