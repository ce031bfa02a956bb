-- A record in which nothing is found has the same effect on the monitor and on the follower: a sent
-- message, a received one, and an answer.
use Rattle.std.proofs.Common.{◌≡◌, ◌<◌, ℕ, ◌==◌, Bool, true, false, not, ◌&&◌, ◌||◌, if◌then◌else◌, List, [], ◌++◌, length, Option, None, Some, Result, Ok, option_map, option_to_list, refl, sym, ap, ◌∙◌, subst}
use Rattle.std.specs.Prelude.{nat_lt}
use Rattle.ncp_leader.specs.declared.fault.MessageFault.{MessageFault}
use Rattle.ncp_leader.specs.declared.leader.Leader.{Leader}
use Rattle.ncp_leader.specs.Leader.{leader_in}
use Rattle.ncp_leader.specs.Message.{Message, message_in}
use Rattle.ncp_monitor.specs.declared.conn_tables.TheConstants.{MAX_TABLE_ROWS}
use Rattle.ncp_interface.specs.declared.event.InterfaceEvent.{InterfaceEvent}
use Rattle.ncp_monitor.specs.declared.finding.Rule.{Rule}
use Rattle.ncp_interface.specs.declared.sent_message.LinkState.{LinkState}
use Rattle.ncp_interface.specs.declared.message_class.MessageClass.{MessageClass}
use Rattle.ncp_monitor.specs.declared.phase.MessageContext.{MessageContext}
use Rattle.ncp_monitor.specs.declared.monitor.Monitor.{Monitor}
use Rattle.ncp_monitor.specs.declared.view.View.{View}
use Rattle.ncp_monitor.specs.declared.views.TheConstants.{VIEWS}
use Rattle.ncp_interface.specs.declared.imp_direction.ImpDirection.TheVariants.{ToImp, FromImp}
use Rattle.ncp_monitor.specs.Views.{awaits_reply}
use Rattle.ncp_interface.specs.Slots.{position_of, kept_slot, same_at, gone_out, has_room, with_out, busy_link, is_repeat, with_answer}
use Rattle.ncp_monitor.specs.Tables.{view_in, with_view}
use Rattle.ncp_monitor.specs.Messages.{judged_bits, rule_of_message}
use Rattle.ncp_interface.specs.Contents.{message_class}
use Rattle.ncp_monitor.specs.Phases.{broken_by}
use Rattle.ncp_monitor.specs.Talked.{observed_flow_of}
use Rattle.ncp_interface.specs.Events.{is_answer, event_after, event_of}
use Rattle.ncp_monitor.specs.Judged.{next_number, sees, view_of, knows_zero, out_rule, is_fresh, changes_slot, view_after_out, slot_of_link, by_host, out_finding, fresh_out, monitor_after_out, monitor_after_answer, judges_coming, with_coming, unsent_finding, after_in, turn_at, read_findings, after_read, tables_after_read, said_findings, after_said, message_findings, event_findings, record_findings, after_record}
use Rattle.ncp_interface.proofs.Events.{to_host, goes_to}
use Rattle.ncp_monitor.proofs.Following.{said_keeps, out_is, in_is, answer_is}
use Rattle.ncp_follow.specs.declared.tracks.TheConstants.{MAX_TRACKS}
use Rattle.ncp_follow.specs.declared.session.Session.{Session}
use Rattle.ncp_follow.specs.declared.follower.Follower.{Follower}
use Rattle.ncp_follow.specs.declared.observation.Observation.{Observation}
use Rattle.ncp_follow.specs.Sessions.{session_of, with_session, is_heard}
use Rattle.ncp_follow.specs.Followed.{read_session, read_tables, follower_after_said, follower_after_out, follower_after_in, follower_after_answer, follower_after_record}
use Rattle.ncp_follow.proofs.Records.{record_goes, record_comes, record_answers}
use Rattle.ncp_proof_monitor.proofs.PhaseSeen.{view_same, view_length}
use Rattle.ncp_proof_monitor_network.proofs.NeverSuspended.{out_awake}
use Rattle.ncp_proof_monitor_network.proofs.OwnBooks.{view_reported}
use Rattle.ncp_proof_follow_tables.proofs.Besides.{front_none, rest_none}
use Rattle.ncp_proof_follow_tables.proofs.SameCommands.{Same}
use Rattle.ncp_proof_follow.proofs.SameItems.{InTouch, NoneBetween, Followed}
use Rattle.ncp_proof_follow_tables.proofs.SameOuts.{SameOuts, sent_same, fresh_is, come_same, answer_same}
use Rattle.ncp_proof_follow.proofs.SameReads.{ReadSo, read_so, HeardText, text_heard}
use Rattle.ncp_proof_follow_tables.proofs.SameSessions.{or_session, session_found, Hosts, session_hosts, read_hosts, IsRoom, put_found}

-- what judges, and what follows, at the interface of a host, of another
pub record Alike (me n : ℕ) (u : Monitor) (f : Follower) : Type 0 where
  pub part : f.part ≡ false
  pub outs : SameOuts u.kept f.outs
  pub same : Same u.conn_tables f.tables
  pub touch : InTouch (view_in u.views me n) (session_of false f.sessions me n)

-- after a record: the sessions are as they were, or one of these hosts is put there
pub data Seats (me n : ℕ) (before after : List Session) : Type 0 where
  Stay : after ≡ before → Seats me n before after
  Put : (session : Session) → Hosts me n session → after ≡ with_session before session → Seats me n before after

pub record Then (me n : ℕ) (now : Monitor) (f after : Follower) : Type 0 where
  pub alike : Alike me n now after
  pub seats : Seats me n f.sessions after.sessions

module _ (number me n : ℕ) (small : me < 256) (few : n < 256) (roomy : (i : ℕ) → nat_lt i MAX_TABLE_ROWS ≡ true → nat_lt i MAX_TRACKS ≡ true) where
  -- ---- what a message says

  module _ (sent : Bool) (by : ℕ) (A : Monitor) (f : Follower) (k : Alike me n A f) (long : length A.views ≡ VIEWS) (unfull : A.full ≡ false) (none : awaits_reply (view_in A.views me n).host.wait ≡ true → NoneBetween me n A.conn_tables) (seat : IsRoom me n f.sessions) where
    abbrev context : MessageContext
    context = turn_at A me n by sent

    abbrev heard : Observation
    heard = record { number = number; at = me; peer = n; sent = sent }

    view_is : view_of A me n ≡ view_in A.views me n
    view_is = view_reported A me n k.touch.awake.told unfull

    before : Followed me n (view_in A.views me n) A.conn_tables (session_of false f.sessions me n) f.tables
    before = record { touch = k.touch; same = k.same; none = none }

    pub said_so : (m : Message) → said_findings A me n context true (Ok m) ≡ [] → A.conn_tables.full ≡ false → (after_said A me n context true (Ok m)).conn_tables.full ≡ false → Then me n (after_said A me n context true (Ok m)) f (follower_after_said heard (Ok m) f)
    said_so m unsaid room full =
        subst (λ (p : Bool). Then me n now f (after_as p (message_class m))) (sym k.part)
        (record {
          alike = record {
            part = k.part;
            outs = k.outs;
            same = subst (λ (w : View). Same (tables_after_read context (observed_flow_of me n context) A.kept m w A.conn_tables reading) (read_tables reading heard m session f.tables)) (sym view_is) read.1;
            touch = subst (λ (w : View). InTouch w (session_of false (with_session f.sessions done) me n)) (sym seen) (subst (λ (s : Session). InTouch (after_read reading context m.text v) s) (sym here) read.0);
          };
          seats = Put done hosts refl;
        })
      where
        v : View
        v = view_in A.views me n

        now : Monitor
        now = after_said A me n context true (Ok m)

        reading : MessageClass
        reading = message_class m

        session : Session
        session = session_of false f.sessions me n

        done : Session
        done = read_session reading heard m session f.tables

        after_as : Bool → MessageClass → Follower
        after_as p r = record f {
          sessions = with_session f.sessions (read_session r heard m (session_of p f.sessions me n) f.tables);
          tables = read_tables r heard m (session_of p f.sessions me n) f.tables;
        }

        hosts : Hosts me n done
        hosts = read_hosts me n reading heard m session f.tables (session_hosts me n f.sessions)

        here : session_of false (with_session f.sessions done) me n ≡ done
        here = session_found me n (with_session f.sessions done) ∙ ap (or_session me n) (put_found me n done f.sessions hosts seat)

        seen : view_in now.views me n ≡ after_read reading context m.text v
        seen = view_same A.views me n (after_read reading context m.text (view_of A me n)) long small few ∙ ap (after_read reading context m.text) view_is

        read : ReadSo number me n by (busy_link me n A.kept) (knows_zero A me n) A.kept roomy sent v A.conn_tables session f.tables before m reading
        read =
            read_so number me n by (busy_link me n A.kept) (knows_zero A me n) A.kept roomy sent v A.conn_tables session f.tables before m reading room
            (subst (λ (w : View). read_findings context (observed_flow_of me n context) A.kept m w A.conn_tables reading ≡ []) view_is unsaid)
            (subst (λ (w : View). (tables_after_read context (observed_flow_of me n context) A.kept m w A.conn_tables reading).full ≡ false) view_is full)

    -- nothing is found in it: so it is a message
    pub message_so : (m : List Bool) (on : ℕ) → message_findings A me n context true on m ≡ [] → A.conn_tables.full ≡ false → (after_said A me n context true (message_in m)).conn_tables.full ≡ false
        → Then me n (after_said A me n context true (message_in m)) f (follower_after_said heard (message_in m) f)
    message_so m on unsaid room full = go (message_in m) unsaid full
      where
        go : (r : Result Message MessageFault) → option_to_list (option_map (broken_by context) (rule_of_message r on (judged_bits r m))) ++ said_findings A me n context true r ≡ [] → (after_said A me n context true r).conn_tables.full ≡ false
            → Then me n (after_said A me n context true r) f (follower_after_said heard r f)
        go (Ok x) e g = said_so x (rest_none (option_to_list (option_map (broken_by context) (rule_of_message (Ok x) on (judged_bits (Ok x) m)))) (said_findings A me n context true (Ok x)) e) room g
        go (Result.Err fault) e g = absurd (cc e)

  -- ---- a message is sent

  module _ (on : ℕ) (m : List Bool) (u : Monitor) (f : Follower) (k : Alike me n u f) (apart : (n == me) ≡ false) (long : length u.views ≡ VIEWS) (known : (view_in u.views me n).known ≡ true)
      (none : awaits_reply (view_in u.views me n).host.wait ≡ true → NoneBetween me n u.conn_tables) (seat : IsRoom me n f.sessions) (led : leader_in m ≡ Ok (to_host n on)) where
    abbrev A : Monitor
    A = monitor_after_out (sees u me) me n on m

    abbrev by_me : MessageContext
    by_me = turn_at A me n me true

    abbrev fresh : Bool
    fresh = fresh_out (sees u me) me n on m

    abbrev place : Option ℕ
    place = position_of me n on u.kept

    abbrev same : Bool
    same = same_at u.kept place m

    abbrev there : LinkState
    there = slot_of_link (sees u me) me n on

    there_is : there ≡ kept_slot true u.kept place
    there_is = ap (λ (b : Bool). kept_slot b u.kept place) known

    abbrev out_view : View
    out_view = view_after_out (view_in u.views me n) on there same

    abbrev put : Monitor
    put = record (sees u me) { full = not (has_room u.kept place); views = with_view u.views me n out_view; kept = with_out u.kept place (gone_out me n on m) }

    module _ (full : (after_record u ToImp me m).full ≡ false) (room : u.conn_tables.full ≡ false) (after_room : (after_record u ToImp me m).conn_tables.full ≡ false) (unfound : record_findings u ToImp me m ≡ []) where
      is : after_record u ToImp me m ≡ after_said A me n by_me fresh (message_in m)
      is = out_is u me n on m led apart

      full_A : A.full ≡ false
      full_A = sym (said_keeps A me n by_me fresh (message_in m)).1 ∙ ap (λ (x : Monitor). x.full) (sym is) ∙ full

      unfull : u.full ≡ false
      unfull = go u.full refl full_A
        where
          go : (b : Bool) → u.full ≡ b → (if b then sees u me else put).full ≡ false → b ≡ false
          go true f e = sym f ∙ e
          go false f e = refl

      A_is : A ≡ put
      A_is = ap (λ (b : Bool). if b then sees u me else put) unfull

      has_room_for_one : has_room u.kept place ≡ true
      has_room_for_one = go (has_room u.kept place) (sym (ap (λ (x : Monitor). x.full) A_is) ∙ full_A)
        where
          go : (b : Bool) → not b ≡ false → b ≡ true
          go true e = refl
          go false e = absurd (cc e)

      found_parts : option_to_list (out_finding (sees u me) me n on m) ++ message_findings A me n by_me fresh on m ≡ []
      found_parts = sym (ap (λ (e : InterfaceEvent). event_findings (sees u me) ToImp me m e) (goes_to me n on m led apart)) ∙ unfound

      unruled : out_rule (kept_slot true u.kept place) same on ≡ None
      unruled = subst (λ (x : LinkState). out_rule x same on ≡ None) there_is (go (out_rule there same on) refl (subst (λ (b : Bool). option_to_list (if b then None else option_map (by_host me) (out_rule there same on)) ≡ []) unfull (front_none (option_to_list (out_finding (sees u me) me n on m)) (message_findings A me n by_me fresh on m) found_parts)))
        where
          go : (o : Option Rule) → out_rule there same on ≡ o → option_to_list (option_map (by_host me) o) ≡ [] → out_rule there same on ≡ None
          go None g e = g
          go (Some r) g e = absurd (cc e)

      unchanged : changes_slot there same ≡ false
      unchanged = subst (λ (x : LinkState). changes_slot x same ≡ false) (sym there_is) (go (kept_slot true u.kept place) same unruled)
        where
          go : (x : LinkState) (b : Bool) → out_rule x b on ≡ None → changes_slot x b ≡ false
          go LinkState.Unknown b e = refl
          go LinkState.Empty b e = refl
          go LinkState.Out b e = refl
          go LinkState.Came b e = refl
          go LinkState.Again true e = refl
          go LinkState.Again false e = absurd (cc e)

      -- the follower after it is sent
      abbrev sent_on : Follower
      sent_on = record f { outs = with_out f.outs (position_of me n on f.outs) (gone_out me n on m) }

      seen_put : view_in put.views me n ≡ out_view
      seen_put = view_same u.views me n out_view long small few

      out_touch : InTouch out_view (session_of false f.sessions me n)
      out_touch = record {
        awake = out_awake (view_in u.views me n) on there same unchanged k.touch.awake;
        host_began = k.touch.host_began;
        peer_began = k.touch.peer_began;
        host_waits = k.touch.host_waits;
        peer_waits = k.touch.peer_waits;
      }

      alike_put : Alike me n put sent_on
      alike_put = record {
        part = k.part;
        outs = sent_same me n on m u.kept f.outs k.outs has_room_for_one;
        same = record { conns = k.same.conns; calm = k.same.calm };
        touch = subst (λ (w : View). InTouch w (session_of false f.sessions me n)) (sym seen_put) out_touch;
      }

      pub alike_A : Alike me n A sent_on
      alike_A = subst (λ (x : Monitor). Alike me n x sent_on) (sym A_is) alike_put

      pub none_A : awaits_reply (view_in A.views me n).host.wait ≡ true → NoneBetween me n A.conn_tables
      none_A w = subst (λ (x : Monitor). NoneBetween me n x.conn_tables) (sym A_is) (none (ap (λ (v : View). awaits_reply v.host.wait) (sym seen_put ∙ ap (λ (x : Monitor). view_in x.views me n) (sym A_is)) ∙ w))

      long_A : length A.views ≡ VIEWS
      long_A = ap (λ (x : Monitor). length x.views) A_is ∙ view_length u.views me n out_view ∙ long

      room_A : A.conn_tables.full ≡ false
      room_A = ap (λ (x : Monitor). x.conn_tables.full) A_is ∙ room

      fresh_so : is_repeat f.outs (position_of me n on f.outs) m ≡ not fresh
      fresh_so =
          fresh_is me n on m u.kept f.outs k.outs unruled ∙ ap (λ (x : LinkState). not (is_fresh x same)) (sym there_is)
          ∙ ap (λ (b : Bool). not (b || is_fresh there same)) (sym unfull)

      abbrev message : Observation
      message = record { number = number; at = me; peer = n; sent = true }

      read_out : (x : Bool) → message_findings A me n by_me x on m ≡ [] → (after_said A me n by_me x (message_in m)).conn_tables.full ≡ false
          → Then me n (after_said A me n by_me x (message_in m)) f (if not x then sent_on else follower_after_said message (message_in m) sent_on)
      read_out true e g = let t = message_so true me A sent_on alike_A long_A full_A none_A seat m on e room_A g in record { alike = t.alike; seats = t.seats }
      read_out false e g = record { alike = again (message_in m); seats = Stay refl }
        where
          again : (r : Result Message MessageFault) → Alike me n (after_said A me n by_me false r) sent_on
          again (Ok x) = alike_A
          again (Result.Err x) = alike_A

      followed_is : follower_after_record number true me m f ≡ follower_after_out number me n on m f
      followed_is = record_goes number me n on m f led apart

      -- the tables after it: it is read if it is fresh
      pub tables_out : (follower_after_record number true me m f).tables ≡ (if fresh then (follower_after_said message (message_in m) sent_on).tables else f.tables)
      tables_out = ap (λ (x : Follower). x.tables) followed_is ∙ ap (λ (b : Bool). (if b then sent_on else follower_after_said message (message_in m) sent_on).tables) fresh_so ∙ by fresh
        where
          by : (x : Bool) → (if not x then sent_on else follower_after_said message (message_in m) sent_on).tables ≡ (if x then (follower_after_said message (message_in m) sent_on).tables else f.tables)
          by true = refl
          by false = refl

      -- a text that is read is heard
      pub heard_out : fresh ≡ true → (x : Message) → message_in m ≡ Ok x → message_class x ≡ MessageClass.Text → is_heard (session_of false f.sessions me n) true ≡ true
      heard_out new x reads is_text =
          h.heard ∙ rw (alike_A.touch.awake.told, h.early, alike_A.touch.awake.suspended) refl
        where
          before : Followed me n (view_in A.views me n) A.conn_tables (session_of false f.sessions me n) f.tables
          before = record { touch = alike_A.touch; same = record { conns = alike_A.same.conns; calm = alike_A.same.calm }; none = none_A }

          unsaid : said_findings A me n by_me true (Ok x) ≡ []
          unsaid =
              ap (λ (r : Result Message MessageFault). said_findings A me n by_me true r) (sym reads) ∙ ap (λ (b : Bool). said_findings A me n by_me b (message_in m)) (sym new)
              ∙ rest_none (option_to_list (option_map (broken_by by_me) (rule_of_message (message_in m) on (judged_bits (message_in m) m)))) (said_findings A me n by_me fresh (message_in m))
              (rest_none (option_to_list (out_finding (sees u me) me n on m)) (message_findings A me n by_me fresh on m) found_parts)

          unread : read_findings by_me (observed_flow_of me n by_me) A.kept x (view_in A.views me n) A.conn_tables MessageClass.Text ≡ []
          unread =
              subst (λ (r : MessageClass). read_findings by_me (observed_flow_of me n by_me) A.kept x (view_in A.views me n) A.conn_tables r ≡ []) is_text
              (subst (λ (w : View). read_findings by_me (observed_flow_of me n by_me) A.kept x w A.conn_tables (message_class x) ≡ []) (view_reported A me n alike_A.touch.awake.told full_A) unsaid)

          h : HeardText number me n me (busy_link me n A.kept) (knows_zero A me n) A.kept roomy true (view_in A.views me n) A.conn_tables (session_of false f.sessions me n) f.tables before x
          h = text_heard number me n me (busy_link me n A.kept) (knows_zero A me n) A.kept roomy true (view_in A.views me n) A.conn_tables (session_of false f.sessions me n) f.tables before x room_A unread

      pub out_so : Then me n (after_record u ToImp me m) f (follower_after_record number true me m f)
      out_so =
          subst (λ (x : Monitor). Then me n x f (follower_after_record number true me m f)) (sym is)
          (subst (λ (x : Follower). Then me n (after_said A me n by_me fresh (message_in m)) f x) (sym followed_is)
          (subst (λ (b : Bool). Then me n (after_said A me n by_me fresh (message_in m)) f (if b then sent_on else follower_after_said message (message_in m) sent_on)) (sym fresh_so)
          (read_out fresh (rest_none (option_to_list (out_finding (sees u me) me n on m)) (message_findings A me n by_me fresh on m) found_parts) (ap (λ (x : Monitor). x.conn_tables.full) (sym is) ∙ after_room))))

  -- ---- a message comes

  module _ (on : ℕ) (m : List Bool) (u : Monitor) (f : Follower) (k : Alike me n u f) (apart : (n == me) ≡ false) (long : length u.views ≡ VIEWS)
      (none : awaits_reply (view_in u.views me n).host.wait ≡ true → NoneBetween me n u.conn_tables) (seat : IsRoom me n f.sessions) (led : leader_in m ≡ Ok (to_host n on)) where
    abbrev came : Monitor
    came = after_in (sees u me) me n on

    abbrev by_other : MessageContext
    by_other = turn_at came me n n false

    -- only what is kept of the message changes
    pub came_alike : Alike me n came f × (length came.views ≡ VIEWS) × (came.full ≡ u.full) × (came.conn_tables.full ≡ u.conn_tables.full) × (awaits_reply (view_in came.views me n).host.wait ≡ true → NoneBetween me n came.conn_tables)
    came_alike = go (judges_coming (sees u me) me n)
      where
        same : Same (next_number u.conn_tables) f.tables
        same = record { conns = k.same.conns; calm = k.same.calm }

        kept_if : Bool → Monitor
        kept_if b = if b then record (sees u me) { kept = with_coming u.kept (position_of n me on u.kept) } else sees u me

        go : (b : Bool) → Alike me n (kept_if b) f × (length (kept_if b).views ≡ VIEWS) × ((kept_if b).full ≡ u.full) × ((kept_if b).conn_tables.full ≡ u.conn_tables.full) × (awaits_reply (view_in (kept_if b).views me n).host.wait ≡ true → NoneBetween me n (kept_if b).conn_tables)
        go true = (record { part = k.part; outs = come_same n me on u.kept f.outs k.outs; same = same; touch = k.touch }, long, refl, refl, none)
        go false = (record { part = k.part; outs = k.outs; same = same; touch = k.touch }, long, refl, refl, none)

    -- the tables after it
    pub tables_in : (follower_after_record number false me m f).tables ≡ (follower_after_said (record { number = number; at = me; peer = n; sent = false }) (message_in m) f).tables
    tables_in = ap (λ (x : Follower). x.tables) (record_comes number me n on m f led apart)

    -- nothing is found in what it says
    pub unsaid_in : record_findings u FromImp me m ≡ [] → said_findings came me n by_other true (message_in m) ≡ []
    unsaid_in unfound =
        rest_none (option_to_list (option_map (broken_by by_other) (rule_of_message (message_in m) on (judged_bits (message_in m) m)))) (said_findings came me n by_other true (message_in m))
        (rest_none (option_to_list (unsent_finding (sees u me) me n on m)) (message_findings came me n by_other true on m)
        (sym (ap (λ (e : InterfaceEvent). event_findings (sees u me) FromImp me m e) (ap (event_after FromImp me) led ∙ ap (λ (b : Bool). if b then InterfaceEvent.Own 0 on else InterfaceEvent.In n on) apart)) ∙ unfound))

    pub view_in_opened : u.full ≡ false → view_of came me n ≡ view_in came.views me n
    view_in_opened unfull = view_reported came me n came_alike.0.touch.awake.told (came_alike.2 ∙ unfull)

    -- as it is read
    pub books_in : (x : Message) → message_in m ≡ Ok x → (after_record u FromImp me m).conn_tables ≡ tables_after_read by_other (observed_flow_of me n by_other) came.kept x (view_of came me n) came.conn_tables (message_class x)
    books_in x reads = ap (λ (y : Monitor). y.conn_tables) (in_is u me m (to_host n on) false led apart refl refl) ∙ ap (λ (r : Result Message MessageFault). (after_said came me n by_other true r).conn_tables) reads

    pub in_so : u.full ≡ false → u.conn_tables.full ≡ false → (after_record u FromImp me m).conn_tables.full ≡ false → record_findings u FromImp me m ≡ [] → Then me n (after_record u FromImp me m) f (follower_after_record number false me m f)
    in_so unfull room after_room unfound =
        subst (λ (x : Monitor). Then me n x f (follower_after_record number false me m f)) (sym is)
        (subst (λ (x : Follower). Then me n (after_said came me n by_other true (message_in m)) f x) (sym followed_is)
        (message_so false n came f came_alike.0 came_alike.1 (came_alike.2 ∙ unfull) came_alike.4 seat m on
        (rest_none (option_to_list (unsent_finding (sees u me) me n on m)) (message_findings came me n by_other true on m) found_parts)
        (came_alike.3 ∙ room) (ap (λ (x : Monitor). x.conn_tables.full) (sym is) ∙ after_room)))
      where
        is : after_record u FromImp me m ≡ after_said came me n by_other true (message_in m)
        is = in_is u me m (to_host n on) false led apart refl refl

        event : event_of FromImp me m ≡ InterfaceEvent.In n on
        event = ap (event_after FromImp me) led ∙ ap (λ (b : Bool). if b then InterfaceEvent.Own 0 on else InterfaceEvent.In n on) apart

        found_parts : option_to_list (unsent_finding (sees u me) me n on m) ++ message_findings came me n by_other true on m ≡ []
        found_parts = sym (ap (λ (e : InterfaceEvent). event_findings (sees u me) FromImp me m e) event) ∙ unfound

        followed_is : follower_after_record number false me m f ≡ follower_after_in number me n m f
        followed_is = record_comes number me n on m f led apart

  -- ---- an answer comes

  module _ (m : List Bool) (leader : Leader) (u : Monitor) (f : Follower) (k : Alike me n u f) (known : (view_in u.views me n).known ≡ true) (led : leader_in m ≡ Ok leader) (from : leader.host ≡ n) (apart : (n == me) ≡ false) (kind : (leader.kind == 0) ≡ false)
      (answer : is_answer leader.kind ≡ true) where
    pub answer_so : u.full ≡ false → Then me n (after_record u FromImp me m) f (follower_after_record number false me m f)
    answer_so unfull =
        subst (λ (x : Monitor). Then me n x f (follower_after_record number false me m f)) (sym is)
        (subst (λ (x : Follower). Then me n (monitor_after_answer (sees u me) leader.kind me n leader.link) f x) (sym followed_is)
        (subst (λ (b : Bool). Then me n (if b then sees u me else answered) f after) (sym unfull)
        (record {
          alike = record {
            part = k.part;
            outs = subst (λ (b : Bool). SameOuts (with_answer b leader.kind u.kept (position_of me n leader.link u.kept)) after.outs) (sym known) (answer_same me n leader.link leader.kind u.kept f.outs k.outs);
            same = record { conns = k.same.conns; calm = k.same.calm };
            touch = k.touch;
          };
          seats = Stay refl;
        })))
      where
        after : Follower
        after = follower_after_answer me n leader.link leader.kind f

        answered : Monitor
        answered = record (sees u me) { kept = with_answer (view_in u.views me n).known leader.kind u.kept (position_of me n leader.link u.kept) }

        distinct_leader : (leader.host == me) ≡ false
        distinct_leader = ap (λ (x : ℕ). x == me) from ∙ apart

        is : after_record u FromImp me m ≡ monitor_after_answer (sees u me) leader.kind me n leader.link
        is = answer_is u me m leader led distinct_leader kind answer ∙ ap (λ (x : ℕ). monitor_after_answer (sees u me) leader.kind me x leader.link) from

        followed_is : follower_after_record number false me m f ≡ follower_after_answer me n leader.link leader.kind f
        followed_is = record_answers number me m leader f led distinct_leader kind answer ∙ ap (λ (x : ℕ). follower_after_answer me x leader.link leader.kind f) from
