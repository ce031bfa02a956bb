-- What names a link, and is not found to be wrong, leads to one connection that is judged, and to the same that is followed. It
-- changes nothing of it but numbers.
use Rattle.std.proofs.Common.{◌≡◌, ℕ, ◌+◌, ◌-◌, ◌^◌, Bool, true, false, not, ◌&&◌, ◌||◌, if◌then◌else◌, List, [], ◌∷◌, ◌++◌, length, Option, None, Some, is_some, option_map, option_to_list, refl, sym, ap, ◌∙◌, subst}
use Rattle.std.specs.Prelude.{nat_lt, slice_set}
use Rattle.ncp_wire.specs.declared.command.Command.{Command}
use Rattle.ncp_monitor.specs.declared.conn_tables.TheConstants.{MAX_TABLE_ROWS}
use Rattle.ncp_monitor.specs.declared.pending_reply.PendingReply.{PendingReply}
use Rattle.ncp_monitor.specs.declared.pending_reply.ExpectedReply.{ExpectedReply}
use Rattle.ncp_monitor.specs.declared.finding.Rule.{Rule}
use Rattle.ncp_interface.specs.declared.sent_message.SentMessage.{SentMessage}
use Rattle.ncp_monitor.specs.declared.link_target.ReceiveLink.{ReceiveLink}
use Rattle.ncp_monitor.specs.declared.link_target.LinkTarget.{LinkTarget}
use Rattle.ncp_monitor.specs.declared.conn_state.ConnState.{ConnState}
use Rattle.ncp_monitor.specs.declared.observed_flow.ObservedFlow.{ObservedFlow}
use Rattle.ncp_monitor.specs.ConnStates.{SeenTables, has_sent_cls, conn_at_index, put_conn, with_due}
use Rattle.ncp_monitor.specs.Replies.{owes, error_wanted, is_own, is_wanted, skipped, pending_left, reply_rule, after_reply}
use Rattle.ncp_monitor.specs.Requests.{is_link_busy}
use Rattle.ncp_monitor.specs.Allocation.{part_returned, other_code, kept_sum, target_at, target_on, index_on_receive_link, from_receiver, from_sender, limit_rule, demuxed_rule, over_rule, other_rule, numbers_due, returned_rules, owes_error, owes_error_if, granted_there, with_grant, recalled, asked_back, with_return, suspended_if, is_any, after_wanted_ret, suspended_conn, after_open}
use Rattle.ncp_follow.specs.declared.followed_conn.FollowedConn.{FollowedConn}
use Rattle.ncp_proof_follow_tables.proofs.SameConns.{SameConn, Calm}

-- ---- one connection is another

-- with other numbers
pub record OtherNumbers (l now : ConnState) : Type 0 where
  pub at : now.at ≡ l.at
  pub peer : now.peer ≡ l.peer
  pub local : now.local ≡ l.local
  pub remote : now.remote ≡ l.remote
  pub link : now.link ≡ l.link
  pub size : now.size ≡ l.size
  pub host_left : now.host_left ≡ l.host_left
  pub peer_left : now.peer_left ≡ l.peer_left
  pub suspended : now.suspended ≡ l.suspended

pub numbers_same : (l now : ConnState) (m : FollowedConn) → OtherNumbers l now → SameConn l m → SameConn now m
numbers_same l now m o s = record {
  at = s.at ∙ sym o.at;
  peer = s.peer ∙ sym o.peer;
  local = s.local ∙ sym o.local;
  remote = s.remote ∙ sym o.remote;
  link = s.link ∙ sym o.link;
  size = s.size ∙ sym o.size;
  host_left = s.host_left ∙ sym o.host_left;
  peer_left = s.peer_left ∙ sym o.peer_left;
  awake = o.suspended ∙ s.awake;
}

same_numbers : (l : ConnState) → OtherNumbers l l
same_numbers l = record { at = refl; peer = refl; local = refl; remote = refl; link = refl; size = refl; host_left = refl; peer_left = refl; suspended = refl }

-- the books are as they were, but for the one at this place, and for what is due
pub record OneSet (b now : SeenTables) (place : ℕ) (l : ConnState) : Type 0 where
  pub conns : now.conns ≡ slice_set b.conns place l
  pub known_facts : now.known_facts ≡ b.known_facts

due_conns : (b : SeenTables) (due : PendingReply) → (with_due b due).conns ≡ b.conns
due_conns b due = go (nat_lt (length b.pending_replies) MAX_TABLE_ROWS)
  where
    go : (x : Bool) → (if x then record b { pending_replies = b.pending_replies ++ due ∷ [] } else record b { full = true }).conns ≡ b.conns
    go true = refl
    go false = refl

due_marks : (b : SeenTables) (due : PendingReply) → (with_due b due).known_facts ≡ b.known_facts
due_marks b due = go (nat_lt (length b.pending_replies) MAX_TABLE_ROWS)
  where
    go : (x : Bool) → (if x then record b { pending_replies = b.pending_replies ++ due ∷ [] } else record b { full = true }).known_facts ≡ b.known_facts
    go true = refl
    go false = refl

pub owes_conns : (flow : ObservedFlow) (wanted : ExpectedReply) (mandatory : Bool) (b : SeenTables) → (owes flow wanted mandatory b).conns ≡ b.conns
owes_conns flow wanted mandatory b = due_conns b (record { at = flow.at; peer = flow.peer; host = not flow.sent; wanted = wanted; mandatory = mandatory })

pub owes_marks : (flow : ObservedFlow) (wanted : ExpectedReply) (mandatory : Bool) (b : SeenTables) → (owes flow wanted mandatory b).known_facts ≡ b.known_facts
owes_marks flow wanted mandatory b = due_marks b (record { at = flow.at; peer = flow.peer; host = not flow.sent; wanted = wanted; mandatory = mandatory })

pub owes_if_set : (x : Bool) (flow : ObservedFlow) (c : Command) (b now : SeenTables) (place : ℕ) (l : ConnState) → OneSet b now place l → OneSet b (owes_error_if x flow c now) place l
owes_if_set true flow c b now place l o = record {
  conns = owes_conns flow (error_wanted 5 (other_code c) c) false now ∙ o.conns;
  known_facts = owes_marks flow (error_wanted 5 (other_code c) c) false now ∙ o.known_facts;
}
owes_if_set false flow c b now place l o = o

pub reply_conns : (flow : ObservedFlow) (c : Command) (b : SeenTables) → (after_reply flow c b).conns ≡ b.conns
reply_conns flow c b = go (is_wanted (is_own flow) c b.pending_replies)
  where
    go : (x : Bool) → (if x then record b { pending_replies = pending_left (is_own flow) c b.pending_replies } else b).conns ≡ b.conns
    go true = refl
    go false = refl

pub reply_marks : (flow : ObservedFlow) (c : Command) (b : SeenTables) → (after_reply flow c b).known_facts ≡ b.known_facts
reply_marks flow c b = go (is_wanted (is_own flow) c b.pending_replies)
  where
    go : (x : Bool) → (if x then record b { pending_replies = pending_left (is_own flow) c b.pending_replies } else b).known_facts ≡ b.known_facts
    go true = refl
    go false = refl

-- ---- a command that is not found leads to one that is open

pub record Led (flow : ObservedFlow) (receive_link : ReceiveLink) (b : SeenTables) : Type 0 where
  pub place : ℕ
  pub found : index_on_receive_link flow receive_link b.conns ≡ Some place
  pub target : target_on flow receive_link b ≡ LinkTarget.Open place
  pub linked : is_some (conn_at_index b.conns place).link ≡ true
  pub sized : is_some (conn_at_index b.conns place).size ≡ true
  pub stays : has_sent_cls (conn_at_index b.conns place) flow.sent ≡ false

pub led : (flow : ObservedFlow) (c : Command) (receive_link : ReceiveLink) (b : SeenTables) → Calm flow.at flow.peer b → demuxed_rule flow c b (target_on flow receive_link b) ≡ None → Led flow receive_link b
led flow c receive_link b calm e = go (index_on_receive_link flow receive_link b.conns) refl
  where
    awake : target_on flow receive_link b ≡ target_at flow b.conns (index_on_receive_link flow receive_link b.conns)
    awake = ap (λ (x : Bool). if x then LinkTarget.Rests else target_at flow b.conns (index_on_receive_link flow receive_link b.conns)) (calm receive_link.host receive_link.link)

    judged : (o : Option ℕ) → index_on_receive_link flow receive_link b.conns ≡ o → demuxed_rule flow c b (target_at flow b.conns o) ≡ None
    judged o is = subst (λ (x : LinkTarget). demuxed_rule flow c b x ≡ None) (awake ∙ ap (target_at flow b.conns) is) e

    go : (o : Option ℕ) → index_on_receive_link flow receive_link b.conns ≡ o → Led flow receive_link b
    go None is = absurd (cc (judged None is))
    go (Some p) is = by (has_sent_cls l flow.sent) (is_some l.link) (is_some l.size) refl refl refl (judged (Some p) is)
      where
        l : ConnState
        l = conn_at_index b.conns p

        As : Bool → Bool → Bool → LinkTarget
        As s x y = if s then LinkTarget.Closed else if x && y then LinkTarget.Open p else LinkTarget.Unasked p

        by : (s x y : Bool) → has_sent_cls l flow.sent ≡ s → is_some l.link ≡ x → is_some l.size ≡ y → demuxed_rule flow c b (As s x y) ≡ None → Led flow receive_link b
        by true x y a d f g = absurd (cc g)
        by false false y a d f g = absurd (cc g)
        by false true false a d f g = absurd (cc g)
        by false true true a d f g = record {
          place = p;
          found = is;
          target = awake ∙ ap (target_at flow b.conns) is ∙ ap (λ (z : Bool). As z (is_some l.link) (is_some l.size)) a ∙ ap (λ (z : Bool). As false z (is_some l.size)) d ∙ ap (As false true) f;
          linked = d;
          sized = f;
          stays = a;
        }

-- ---- what it does to what is judged

pub with_grant_numbers : (flow : ObservedFlow) (messages bits : ℕ) (l : ConnState) → OtherNumbers l (with_grant flow messages bits l)
with_grant_numbers flow messages bits l = go flow.sent (nat_lt 65535 (l.messages + messages) || nat_lt (2 ^ 32 - 1) (l.bits + bits))
  where
    go : (s x : Bool) → OtherNumbers l (if s then granted_there messages bits l else if x then l else record l { messages = l.messages + messages; bits = l.bits + bits })
    go true x = record { at = refl; peer = refl; local = refl; remote = refl; link = refl; size = refl; host_left = refl; peer_left = refl; suspended = refl }
    go false true = same_numbers l
    go false false = record { at = refl; peer = refl; local = refl; remote = refl; link = refl; size = refl; host_left = refl; peer_left = refl; suspended = refl }

pub recalled_numbers : (flow : ObservedFlow) (messages bits : ℕ) (l : ConnState) → OtherNumbers l (recalled flow messages bits l)
recalled_numbers flow messages bits l = go flow.sent
  where
    go : (s : Bool) → OtherNumbers l (if s then record l { recall = true } else record l { recall = true; messages = l.messages - part_returned l.messages messages; bits = l.bits - part_returned l.bits bits })
    go true = record { at = refl; peer = refl; local = refl; remote = refl; link = refl; size = refl; host_left = refl; peer_left = refl; suspended = refl }
    go false = record { at = refl; peer = refl; local = refl; remote = refl; link = refl; size = refl; host_left = refl; peer_left = refl; suspended = refl }

pub with_return_numbers : (flow : ObservedFlow) (messages bits : ℕ) (l : ConnState) → OtherNumbers l (with_return flow messages bits l)
with_return_numbers flow messages bits l = go flow.sent
  where
    go : (s : Bool) → OtherNumbers l (if s then record l { recall = false } else record l { recall = false; messages = l.messages - messages; bits = l.bits - bits })
    go true = record { at = refl; peer = refl; local = refl; remote = refl; link = refl; size = refl; host_left = refl; peer_left = refl; suspended = refl }
    go false = record { at = refl; peer = refl; local = refl; remote = refl; link = refl; size = refl; host_left = refl; peer_left = refl; suspended = refl }

module _ (flow : ObservedFlow) (kept : List SentMessage) (b : SeenTables) where
  pub all_set : (link messages bits place : ℕ) → OneSet b (after_open flow kept (Command.All link messages bits) (from_receiver flow link) place b) place (with_grant flow messages bits (conn_at_index b.conns place))
  all_set link messages bits place =
      let l : ConnState = conn_at_index b.conns place in
      owes_if_set (is_some (limit_rule (Command.All link messages bits) (kept_sum l.messages messages) (kept_sum l.bits bits))) flow (Command.All link messages bits) b (put_conn b (Some place) (with_grant flow messages bits l)) place (with_grant flow messages bits l)
      (record { conns = refl; known_facts = refl })

  pub gvb_set : (link messages bits place : ℕ) → OneSet b (after_open flow kept (Command.Gvb link messages bits) (from_receiver flow link) place b) place (recalled flow messages bits (conn_at_index b.conns place))
  gvb_set link messages bits place = go (has_sent_cls l (not flow.sent))
    where
      l : ConnState
      l = conn_at_index b.conns place

      c : Command
      c = Command.Gvb link messages bits

      put : SeenTables
      put = put_conn (owes_error_if l.recall flow c b) (Some place) (recalled flow messages bits l)

      owed : (x : Bool) → (owes_error_if x flow c b).conns ≡ b.conns
      owed true = owes_conns flow (error_wanted 5 (other_code c) c) false b
      owed false = refl

      owed_facts : (x : Bool) → (owes_error_if x flow c b).known_facts ≡ b.known_facts
      owed_facts true = owes_marks flow (error_wanted 5 (other_code c) c) false b
      owed_facts false = refl

      one : OneSet b put place (recalled flow messages bits l)
      one = record { conns = ap (λ (xs : List ConnState). slice_set xs place (recalled flow messages bits l)) (owed l.recall); known_facts = owed_facts l.recall }

      due : SeenTables
      due = owes flow (asked_back link messages bits l) (not flow.sent && not (is_link_busy flow.at flow.peer (Some link) kept)) put

      go : (x : Bool) → OneSet b (if x then put else due) place (recalled flow messages bits l)
      go true = one
      go false = record {
        conns = owes_conns flow (asked_back link messages bits l) (not flow.sent && not (is_link_busy flow.at flow.peer (Some link) kept)) put ∙ one.conns;
        known_facts = owes_marks flow (asked_back link messages bits l) (not flow.sent && not (is_link_busy flow.at flow.peer (Some link) kept)) put ∙ one.known_facts;
      }

  -- a RET without a finding was expected, and gives back at most what there is
  pub record RetRight (link messages bits place : ℕ) : Type 0 where
    pub wanted : is_wanted (is_own flow) (Command.Ret link messages bits) b.pending_replies ≡ true
    pub within : over_rule flow (Command.Ret link messages bits) messages bits (conn_at_index b.conns place) ≡ None
    pub numbers : other_rule flow (Command.Ret link messages bits) messages bits (numbers_due (is_own flow) (Command.Ret link messages bits) b.pending_replies) ≡ None

  pub ret_right : (link messages bits place : ℕ) → reply_rule flow (Command.Ret link messages bits) (Rule.RetUnasked (Command.Ret link messages bits)) b ≡ None
      → returned_rules flow (Command.Ret link messages bits) messages bits (conn_at_index b.conns place) b.pending_replies ≡ [] → RetRight link messages bits place
  ret_right link messages bits place e f = go (is_wanted (is_own flow) c b.pending_replies) refl e f
    where
      c : Command
      c = Command.Ret link messages bits

      l : ConnState
      l = conn_at_index b.conns place

      other : Option Rule
      other = other_rule flow c messages bits (numbers_due (is_own flow) c b.pending_replies)

      over : Option Rule
      over = over_rule flow c messages bits l

      first_none : (o q : Option Rule) → option_to_list o ++ option_to_list q ≡ [] → (o ≡ None) × (q ≡ None)
      first_none None None g = (refl, refl)
      first_none None (Some r) g = absurd (cc g)
      first_none (Some r) q g = absurd (cc g)

      go : (x : Bool) → is_wanted (is_own flow) c b.pending_replies ≡ x → (if x then option_map (λ d. Rule.Skipped d) (skipped (is_own flow) c b.pending_replies) else Some (Rule.RetUnasked c)) ≡ None
          → (if x then option_to_list other ++ option_to_list over else []) ≡ [] → RetRight link messages bits place
      go true is e f = let both = first_none other over f in record { wanted = is; within = both.1; numbers = both.0 }
      go false is e f = absurd (cc e)

  pub ret_set : (link messages bits place : ℕ) → RetRight link messages bits place → returned_rules flow (Command.Ret link messages bits) messages bits (conn_at_index b.conns place) b.pending_replies ≡ []
      → OneSet b (after_open flow kept (Command.Ret link messages bits) (from_sender flow link) place b) place (with_return flow messages bits (conn_at_index b.conns place))
  ret_set link messages bits place k f =
      subst (λ (x : Bool). OneSet b (if x then after_wanted_ret flow c receive_link messages bits place b else owes_error flow c false (suspended_conn flow place b)) place now) (sym k.wanted)
      (subst (λ (rs : List Rule). OneSet b (owes_error_if (is_any rs) flow c (suspended_if (is_some (over_rule flow c messages bits l)) flow receive_link put)) place now) (sym f)
      (subst (λ (o : Option Rule). OneSet b (suspended_if (is_some o) flow receive_link put) place now) (sym k.within)
      (record { conns = ap (λ (xs : List ConnState). slice_set xs place now) (reply_conns flow c b); known_facts = reply_marks flow c b })))
    where
      c : Command
      c = Command.Ret link messages bits

      receive_link : ReceiveLink
      receive_link = from_sender flow link

      l : ConnState
      l = conn_at_index b.conns place

      now : ConnState
      now = with_return flow messages bits l

      put : SeenTables
      put = put_conn (after_reply flow c b) (Some place) now
