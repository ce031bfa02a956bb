-- A text in which nothing is found is on one open connection, of its size and within its remaining
-- amount; and it changes only numbers of that connection.
use Rattle.std.proofs.Common.{◌≡◌, ℕ, ◌==◌, eq-eqb, Bool, true, false, not, ◌&&◌, if◌then◌else◌, List, [], ◌++◌, length, Option, None, Some, is_some, option_to_list, refl, sym, ap, ◌∙◌, subst}
use Rattle.std.proofs.lemmas.Bool.{eqb-true}
use Rattle.std.proofs.lemmas.List.Quantifiers.{position-Some}
use Rattle.ncp_leader.specs.Message.{Message}
use Rattle.ncp_monitor.specs.declared.finding.Rule.{Rule}
use Rattle.ncp_monitor.specs.declared.link_target.ReceiveLink.{ReceiveLink}
use Rattle.ncp_monitor.specs.declared.link_target.LinkTarget.{LinkTarget}
use Rattle.ncp_monitor.specs.declared.conn_state.ConnState.{ConnState}
use Rattle.ncp_monitor.specs.declared.observed_flow.ObservedFlow.{ObservedFlow}
use Rattle.ncp_monitor.specs.ConnStates.{SeenTables, unasked_conn, has_link, conn_at_index, put_conn}
use Rattle.ncp_monitor.specs.Allocation.{index_on_receive_link, from_sender, is_any}
use Rattle.ncp_monitor.specs.Texts.{is_closed_for, text_target_at, text_target, size_rule, uses_too_much, over_text_rule, open_text_rules, demuxed_text_rules, text_rules, conn_came_at, after_text_came, used, admits_error_if, over_suspended, demuxed_after_text, conn_tables_after_text}
use Rattle.ncp_follow.specs.declared.followed_conn.FollowedConn.{FollowedConn}
use Rattle.ncp_follow.specs.declared.tables.Tables.{Tables}
use Rattle.ncp_follow.specs.Amounts.{with_less}
use Rattle.ncp_follow.specs.Tracks.{new_track, track_at}
use Rattle.ncp_follow.specs.Tables.{index_at_link, texts_of, said_at, after_text}
use Rattle.ncp_proof_follow_tables.proofs.Besides.{besides_at, besides_set, besides_here, front_none, rest_none}
use Rattle.ncp_proof_follow_tables.proofs.SameConns.{SameConn, SameConns, link_same, Calm}
use Rattle.ncp_proof_follow_tables.proofs.SameLinks.{numbers_same}
use Rattle.ncp_proof_follow_tables.proofs.Calmly.{NoLinkSuspended}
use Rattle.ncp_proof_follow_tables.proofs.SameCommands.{Same}

-- where such a text leads
pub record TextLed (flow : ObservedFlow) (link : ℕ) (message : Message) (b : SeenTables) : Type 0 where
  pub place : ℕ
  pub found : index_on_receive_link flow (from_sender flow link) b.conns ≡ Some place
  pub target : text_target flow link b ≡ LinkTarget.Open place
  pub linked : is_some (conn_at_index b.conns place).link ≡ true
  pub stays : is_closed_for flow (conn_at_index b.conns place) ≡ false
  pub size : (conn_at_index b.conns place).size ≡ Some message.size
  pub enough : uses_too_much (length message.text) (conn_at_index b.conns place) ≡ false

module _ (flow : ObservedFlow) (link : ℕ) (message : Message) (b : SeenTables) where
  abbrev receive_link : ReceiveLink
  receive_link = from_sender flow link

  sized_right : (o : Option ℕ) → is_some o ≡ true → option_to_list (size_rule link message.size o) ≡ [] → o ≡ Some message.size
  sized_right None s e = absurd (cc s)
  sized_right (Some asked) s e = go (message.size == asked) refl e
    where
      go : (x : Bool) → (message.size == asked) ≡ x → option_to_list (if x then None else Some (Rule.TextSize link message.size asked)) ≡ [] → Some asked ≡ Some message.size
      go true f e = ap (λ (n : ℕ). Some n) (sym (eqb-true message.size asked f))
      go false f e = absurd (cc e)

  enough_right : (l : ConnState) → option_to_list (over_text_rule link (length message.text) l) ≡ [] → uses_too_much (length message.text) l ≡ false
  enough_right l e = go (uses_too_much (length message.text) l) e
    where
      go : (x : Bool) → option_to_list (if x then Some (Rule.TextOver link l.messages (length message.text) l.bits) else None) ≡ [] → x ≡ false
      go true e = absurd (cc e)
      go false e = refl

  pub text_led : Calm flow.at flow.peer b → b.full ≡ false → text_rules flow link message b ≡ [] → TextLed flow link message b
  text_led calm full none = go (index_on_receive_link flow receive_link b.conns) refl
    where
      judged : demuxed_text_rules link message b (text_target flow link b) ≡ []
      judged = sym (ap (λ (x : Bool). if x then [] else demuxed_text_rules link message b (text_target flow link b)) full) ∙ none

      awake : text_target flow link b ≡ text_target_at flow b.conns (index_on_receive_link flow receive_link b.conns)
      awake = ap (λ (x : Bool). if x then LinkTarget.Rests else text_target_at flow b.conns (index_on_receive_link flow receive_link b.conns)) (calm receive_link.host link)

      led_there : (o : Option ℕ) → index_on_receive_link flow receive_link b.conns ≡ o → demuxed_text_rules link message b (text_target_at flow b.conns o) ≡ []
      led_there o is = subst (λ (x : LinkTarget). demuxed_text_rules link message b x ≡ []) (awake ∙ ap (text_target_at flow b.conns) is) judged

      go : (o : Option ℕ) → index_on_receive_link flow receive_link b.conns ≡ o → TextLed flow link message b
      go None is = absurd (cc (led_there None is))
      go (Some p) is = by (is_closed_for flow l) (is_some l.link) (is_some l.size) refl refl refl (led_there (Some p) is)
        where
          l : ConnState
          l = conn_at_index b.conns p

          As : Bool → Bool → Bool → LinkTarget
          As s x y = if s then LinkTarget.Closed else if x && y then LinkTarget.Open p else LinkTarget.Unasked p

          by : (s x y : Bool) → is_closed_for flow l ≡ s → is_some l.link ≡ x → is_some l.size ≡ y → demuxed_text_rules link message b (As s x y) ≡ [] → TextLed flow link message b
          by true x y a d f g = absurd (cc g)
          by false false y a d f g = absurd (cc g)
          by false true false a d f g = absurd (cc g)
          by false true true a d f g = record {
            place = p;
            found = is;
            target = awake ∙ ap (text_target_at flow b.conns) is ∙ ap (λ (z : Bool). As z (is_some l.link) (is_some l.size)) a ∙ ap (λ (z : Bool). As false z (is_some l.size)) d ∙ ap (As false true) f;
            linked = d;
            stays = a;
            size = sized_right l.size f (front_none (option_to_list (size_rule link message.size l.size)) (option_to_list (over_text_rule link (length message.text) l)) g);
            enough = enough_right l (rest_none (option_to_list (size_rule link message.size l.size)) (option_to_list (over_text_rule link (length message.text) l)) g);
          }

  -- ---- what it does to what is judged: one is another, and perhaps once more

  came_same : (now : SeenTables) (ms : List FollowedConn) → SameConns now.conns ms → NoLinkSuspended now → SameConns (after_text_came flow link now).conns ms × NoLinkSuspended (after_text_came flow link now)
  came_same now ms s c = by flow.sent
    where
      by : (x : Bool) → SameConns (if x then now else conn_came_at now (index_on_receive_link flow receive_link now.conns)).conns ms × NoLinkSuspended (if x then now else conn_came_at now (index_on_receive_link flow receive_link now.conns))
      by true = (s, c)
      by false = at_place (index_on_receive_link flow receive_link now.conns) refl
        where
          at_place : (o : Option ℕ) → index_on_receive_link flow receive_link now.conns ≡ o → SameConns (conn_came_at now o).conns ms × NoLinkSuspended (conn_came_at now o)
          at_place None e = (s, c)
          at_place (Some p) e = go l.peer_left
            where
              l : ConnState
              l = conn_at_index now.conns p

              one : SameConn l (track_at ms p)
              one = besides_at SameConn now.conns ms p (unasked_conn 0 0 0 0) (new_track 0 0 0 0) (position-Some (has_link flow.at flow.peer receive_link.host receive_link.link) now.conns p (unasked_conn 0 0 0 0) e).0 s

              go : (x : Bool) → SameConns (if x then now else put_conn now (Some p) (record l { came = true })).conns ms × NoLinkSuspended (if x then now else put_conn now (Some p) (record l { came = true }))
              go true = (s, c)
              go false = (
                besides_here SameConn now.conns ms p (record l { came = true }) (new_track 0 0 0 0)
                    (numbers_same l (record l { came = true }) (track_at ms p) (record { at = refl; peer = refl; local = refl; remote = refl; link = refl; size = refl; host_left = refl; peer_left = refl; suspended = refl }) one) s,
                c,
              )

  pub text_index : (t : Tables) (k : TextLed flow link message b) → SameConns b.conns t.tracks → index_at_link flow.at flow.peer flow.sent link t.tracks ≡ Some k.place
  text_index t k s = ap (λ (x : Bool). index_at_link flow.at flow.peer x link t.tracks) (sym (twice flow.sent)) ∙ link_same flow.at flow.peer (not flow.sent) link b.conns t.tracks s ∙ k.found
    where
      twice : (x : Bool) → not (not x) ≡ x
      twice true = refl
      twice false = refl

  pub text_there : (t : Tables) (k : TextLed flow link message b) → Same b t → SameConn (conn_at_index b.conns k.place) (track_at t.tracks k.place)
  text_there t k s =
      besides_at SameConn b.conns t.tracks k.place (unasked_conn 0 0 0 0) (new_track 0 0 0 0) (position-Some (has_link flow.at flow.peer receive_link.host receive_link.link) b.conns k.place (unasked_conn 0 0 0 0) k.found).0 s.conns

  pub text_placed : (t : Tables) (k : TextLed flow link message b) → Same b t → index_at_link flow.at flow.peer flow.sent link t.tracks ≡ Some k.place
  text_placed t k s = text_index t k s.conns

  pub text_same : (number : ℕ) (t : Tables) → Same b t → TextLed flow link message b → Same (conn_tables_after_text flow link message b) (after_text (record { number = number; at = flow.at; peer = flow.peer; sent = flow.sent }) link message.size message.text t)
  text_same number t s k =
      subst (λ (x : LinkTarget). Same (demuxed_after_text flow link message b x) (said_at message.size message.text t (index_at_link flow.at flow.peer flow.sent link t.tracks))) (sym k.target)
      (subst (λ (o : Option ℕ). Same (demuxed_after_text flow link message b (LinkTarget.Open k.place)) (said_at message.size message.text t o)) (sym (text_placed t k s))
      (subst (λ (rs : List Rule). Same (admits_error_if (is_any rs) flow message (over_suspended (is_any rs) flow link (after_text_came flow link put))) (said_at message.size message.text t (Some k.place))) (sym none)
      (record { conns = came.0; calm = came.1 })))
    where
      l : ConnState
      l = conn_at_index b.conns k.place

      m : FollowedConn
      m = track_at t.tracks k.place

      one : SameConn l m
      one = text_there t k s

      now : ConnState
      now = used (length message.text) l

      put : SeenTables
      put = put_conn b (Some k.place) now

      none : open_text_rules link message l ≡ []
      none =
          ap (λ (o : Option ℕ). option_to_list (size_rule link message.size o) ++ option_to_list (over_text_rule link (length message.text) l)) k.size
          ∙ ap (λ (x : Bool). option_to_list (if x then None else Some (Rule.TextSize link message.size message.size)) ++ option_to_list (over_text_rule link (length message.text) l)) (eq-eqb message.size message.size refl)
          ∙ ap (λ (x : Bool). option_to_list (if x then Some (Rule.TextOver link l.messages (length message.text) l.bits) else None)) k.enough

      less : SameConn now m
      less = numbers_same l now m (record { at = refl; peer = refl; local = refl; remote = refl; link = refl; size = refl; host_left = refl; peer_left = refl; suspended = refl }) one

      conns : (o : Option ℕ) → SameConns put.conns (texts_of k.place message.size message.text m t o).tracks
      conns None = besides_here SameConn b.conns t.tracks k.place now (new_track 0 0 0 0) less s.conns
      conns (Some q) =
          besides_set SameConn b.conns t.tracks k.place now (record m { left = with_less m.left 1 (length message.text) })
          (record { at = less.at; peer = less.peer; local = less.local; remote = less.remote; link = less.link; size = less.size; host_left = less.host_left; peer_left = less.peer_left; awake = less.awake }) s.conns

      came : SameConns (after_text_came flow link put).conns (texts_of k.place message.size message.text m t m.place).tracks × NoLinkSuspended (after_text_came flow link put)
      came = came_same put (texts_of k.place message.size message.text m t m.place).tracks (conns m.place) s.calm
