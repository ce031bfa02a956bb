-- What the host says that names a link, and its texts, where it may: no rule is broken, and the books after it are those with
-- other numbers, if the link does not rest.
use Rattle.std.proofs.Common.{◌≡◌, ℕ, ◌+◌, ◌≤◌, ◌==◌, Bool, true, false, not, ◌||◌, if◌then◌else◌, List, [], ◌++◌, length, Option, None, Some, is_some, eq-eqb, refl, ap, ◌∙◌, arith}
use Rattle.std.specs.Prelude.{◌-◌, nat_lt}
use Rattle.std.specs.List.{position}
use Rattle.std.specs.Option.{option_to_list}
use Rattle.std.proofs.lemmas.Bool.Decides.{nat_tests}
use Rattle.ncp_leader.specs.Message.{Message}
use Rattle.ncp_wire.specs.declared.command.Command.{Command}
use Rattle.ncp_wire.specs.declared.command.Command.TheVariants.{All, Gvb, Ret, Inr, Ins}
use Rattle.ncp_monitor.specs.declared.pending_reply.ExpectedReply.{ExpectedReply}
use Rattle.ncp_monitor.specs.declared.finding.Rule.{Rule}
use Rattle.ncp_interface.specs.declared.sent_message.SentMessage.{SentMessage}
use Rattle.ncp_monitor.specs.declared.link_target.LinkTarget.{LinkTarget}
use Rattle.ncp_monitor.specs.declared.conn_state.ConnState.{ConnState}
use Rattle.ncp_monitor.specs.declared.conn_state.FactKind.{FactKind}
use Rattle.ncp_monitor.specs.declared.observed_flow.ObservedFlow.{ObservedFlow}
use Rattle.ncp_monitor.specs.ConnStates.{SeenTables, has_link, conn_at_index, is_marked, put_conn}
use Rattle.ncp_monitor.specs.Replies.{is_own, is_wanted, reply_rule, after_reply}
use Rattle.ncp_monitor.specs.Allocation.{kept_sum, target_on, target_at, open_rule, demuxed_rule, link_rule, limit_rule, numbers_due, other_rule, over_rule, returned_rules, is_any, owes_error, owes_error_if, owes_return, after_open, demuxed_after, after_link, with_grant, recalled, with_return, after_wanted_ret, suspended_conn}
use Rattle.ncp_monitor.specs.Texts.{size_rule, over_text_rule, uses_too_much, open_text_rules, text_target_at, text_target, demuxed_text_rules, text_rules, demuxed_after_text, conn_tables_after_text, admits_error_if, over_suspended, after_text_came, used}
use Rattle.ncp_monitor.proofs.LinkOrder.{Sockets}
use Rattle.ncp_proof_monitor_allocation.proofs.TidyBooks.{numbered}
use Rattle.ncp_proof_monitor_allocation.proofs.LinkPlaces.{OpensAt}
use Rattle.ncp_proof_monitor_replies.specs.Owed.{is_exact}
use Rattle.ncp_proof_monitor_replies.proofs.Owed.{NumbersAre}

abbrev pub own_flow : ℕ → ℕ → ObservedFlow
own_flow me n = record { at = me; peer = n; sent = true }

-- ---- a suspended one is not judged

module _ (me n : ℕ) (host : Bool) (link : ℕ) (b : SeenTables) (marked : is_marked me n (FactKind.LinkSuspended host link) b ≡ true) where
  rest_led : target_on (own_flow me n) (record { host = host; link = link }) b ≡ LinkTarget.Rests
  rest_led = ap (λ (x : Bool). if x then LinkTarget.Rests else target_at (own_flow me n) b.conns (index_of_link b)) marked
    where
      index_of_link : SeenTables → Option ℕ
      index_of_link conn_tables = position (has_link me n host link) conn_tables.conns

  pub rest_rule : (c : Command) → link_rule (own_flow me n) c (record { host = host; link = link }) b ≡ None
  rest_rule c = ap (demuxed_rule (own_flow me n) c b) rest_led

  pub rest_after : (kept : List SentMessage) (c : Command) → after_link (own_flow me n) kept c (record { host = host; link = link }) b ≡ owes_error (own_flow me n) c false b
  rest_after kept c = ap (demuxed_after (own_flow me n) kept c (record { host = host; link = link }) b) rest_led

-- ---- of an open one

small_sum : (one other : ℕ) → one + other ≤ 65536 → kept_sum one other ≡ one + other
small_sum one other small = omega arith

module _ (me n : ℕ) (host : Bool) (link : ℕ) (b : SeenTables) (u : Sockets) (at : OpensAt me n host link b (target_on (own_flow me n) (record { host = host; link = link }) b) u) (kept : List SentMessage) where
  abbrev conn : ConnState
  conn = conn_at_index b.conns at.user.place

  abbrev place : ℕ
  place = at.user.place

  led_of : (c : Command) → link_rule (own_flow me n) c (record { host = host; link = link }) b ≡ open_rule (own_flow me n) c conn b
  led_of c = ap (demuxed_rule (own_flow me n) c b) at.leads

  led_then : (c : Command) → after_link (own_flow me n) kept c (record { host = host; link = link }) b ≡ after_open (own_flow me n) kept c (record { host = host; link = link }) place b
  led_then c = ap (demuxed_after (own_flow me n) kept c (record { host = host; link = link }) b) at.leads

  -- ---- ALL

  limits : (c : Command) (messages bits : ℕ) → conn.messages + messages ≤ 65535 → conn.bits + bits ≤ 65536 → limit_rule c (kept_sum conn.messages messages) (kept_sum conn.bits bits) ≡ None
  limits c messages bits m k =
      ap (λ (x : ℕ). limit_rule c x (kept_sum conn.bits bits)) (small_sum conn.messages messages (less (conn.messages + messages) m))
      ∙ ap (λ (x : ℕ). limit_rule c (conn.messages + messages) x) (small_sum conn.bits bits k)
      ∙ ap (λ (x : Bool). if x || nat_lt 65536 (conn.bits + bits) then Some (Rule.OverLimit c (conn.messages + messages) (conn.bits + bits)) else None) (under 65535 (conn.messages + messages) m)
      ∙ ap (λ (x : Bool). if false || x then Some (Rule.OverLimit c (conn.messages + messages) (conn.bits + bits)) else None) (under 65536 (conn.bits + bits) k)
    where
      less : (x : ℕ) → x ≤ 65535 → x ≤ 65536
      less x e = omega arith

      under : (most x : ℕ) → x ≤ most → nat_lt most x ≡ false
      under most x e = grind (arith, nat_tests)

  pub grant_rule : (messages bits : ℕ) → conn.messages + messages ≤ 65535 → conn.bits + bits ≤ 65536 → link_rule (own_flow me n) (All link messages bits) (record { host = host; link = link }) b ≡ None
  grant_rule messages bits m k = led_of (All link messages bits) ∙ limits (All link messages bits) messages bits m k

  pub grant_after : (messages bits : ℕ) → conn.messages + messages ≤ 65535 → conn.bits + bits ≤ 65536
      → after_link (own_flow me n) kept (All link messages bits) (record { host = host; link = link }) b ≡ put_conn b (Some place) (numbered (conn.messages + messages) (conn.bits + bits) conn.recall conn.came conn)
  grant_after messages bits m k =
      led_then (All link messages bits)
      ∙ ap (λ (o : Option Rule). owes_error_if (is_some o) (own_flow me n) (All link messages bits) (put_conn b (Some place) (with_grant (own_flow me n) messages bits conn))) (limits (All link messages bits) messages bits m k)
      ∙ ap (λ (x : ℕ). put_conn b (Some place) (numbered x (kept_sum conn.bits bits) conn.recall conn.came conn)) (small_sum conn.messages messages (less (conn.messages + messages) m))
      ∙ ap (λ (x : ℕ). put_conn b (Some place) (numbered (conn.messages + messages) x conn.recall conn.came conn)) (small_sum conn.bits bits k)
    where
      less : (x : ℕ) → x ≤ 65535 → x ≤ 65536
      less x e = omega arith

  -- ---- GVB

  pub recall_rule : (fm fb : ℕ) → conn.recall ≡ false → link_rule (own_flow me n) (Gvb link fm fb) (record { host = host; link = link }) b ≡ None
  recall_rule fm fb r = led_of (Gvb link fm fb) ∙ ap (λ (x : Bool). if x then Some (Rule.GvbAgain (Gvb link fm fb)) else None) r

  abbrev after_recall : SeenTables
  after_recall = put_conn b (Some place) (numbered conn.messages conn.bits true conn.came conn)

  pub recall_after : (fm fb : ℕ) → conn.recall ≡ false → after_link (own_flow me n) kept (Gvb link fm fb) (record { host = host; link = link }) b ≡ owes_return (own_flow me n) kept link fm fb conn after_recall
  recall_after fm fb r =
      led_then (Gvb link fm fb)
      ∙ ap (λ (x : Bool). owes_return (own_flow me n) kept link fm fb conn (put_conn (owes_error_if x (own_flow me n) (Gvb link fm fb) b) (Some place) (recalled (own_flow me n) fm fb conn))) r

  -- ---- INR, INS

  pub hint_rules : (link_rule (own_flow me n) (Inr link) (record { host = host; link = link }) b ≡ None) × (link_rule (own_flow me n) (Ins link) (record { host = host; link = link }) b ≡ None)
  hint_rules = (led_of (Inr link), led_of (Ins link))

  pub hints_after : (after_link (own_flow me n) kept (Inr link) (record { host = host; link = link }) b ≡ b) × (after_link (own_flow me n) kept (Ins link) (record { host = host; link = link }) b ≡ b)
  hints_after = (led_then (Inr link), led_then (Ins link))

  -- ---- RET

  pub return_rule : (messages bits : ℕ) → reply_rule (own_flow me n) (Ret link messages bits) (Rule.RetUnasked (Ret link messages bits)) b ≡ None → link_rule (own_flow me n) (Ret link messages bits) (record { host = host; link = link }) b ≡ None
  return_rule messages bits e = led_of (Ret link messages bits) ∙ e

  module _ (messages bits : ℕ) (wanted : is_wanted (is_own (own_flow me n)) (Ret link messages bits) b.pending_replies ≡ true) where
    abbrev ret : Command
    ret = Ret link messages bits

    exact_rules : NumbersAre (is_own (own_flow me n)) ret b.pending_replies → returned_rules (own_flow me n) ret messages bits conn b.pending_replies ≡ []
    exact_rules k =
        ap (λ (x : Bool). if x then option_to_list (other_rule (own_flow me n) ret messages bits (numbers_due (is_own (own_flow me n)) ret b.pending_replies)) ++ option_to_list (over_rule (own_flow me n) ret messages bits conn) else []) wanted
        ∙ ap (λ (o : Option ExpectedReply). option_to_list (other_rule (own_flow me n) ret messages bits o) ++ []) k.due
        ∙ by k.wanted k.exact
      where
        by : (w : ExpectedReply) → is_exact w ret ≡ true → option_to_list (other_rule (own_flow me n) ret messages bits (Some w)) ++ [] ≡ []
        by (ExpectedReply.Return on most most_bits) e = ap (λ (x : Bool). option_to_list (if not x then Some (Rule.RetOther ret most most_bits) else None) ++ []) e
        by (ExpectedReply.Echo byte) e = refl
        by (ExpectedReply.Error code or bytes) e = refl

    pub return_after : NumbersAre (is_own (own_flow me n)) ret b.pending_replies
        → after_link (own_flow me n) kept ret (record { host = host; link = link }) b ≡ put_conn (after_reply (own_flow me n) ret b) (Some place) (numbered conn.messages conn.bits false conn.came conn)
    return_after k =
        led_then ret
        ∙ ap (λ (x : Bool). if x then after_wanted_ret (own_flow me n) ret (record { host = host; link = link }) messages bits place b else owes_error (own_flow me n) ret false (suspended_conn (own_flow me n) place b)) wanted
        ∙ ap (λ (rules : List Rule). owes_error_if (is_any rules) (own_flow me n) ret (put_conn (after_reply (own_flow me n) ret b) (Some place) (with_return (own_flow me n) messages bits conn))) (exact_rules k)

-- ---- a text

pub text_rest : (me n link : ℕ) (message : Message) (b : SeenTables) → is_marked me n (FactKind.LinkSuspended false link) b ≡ true → text_rules (own_flow me n) link message b ≡ []
text_rest me n link message b marked = go b.full (text_target (own_flow me n) link b) (ap (λ (x : Bool). if x then LinkTarget.Rests else text_target_there) marked)
  where
    text_target_there : LinkTarget
    text_target_there = text_target_at (own_flow me n) b.conns (position (has_link me n false link) b.conns)

    go : (f : Bool) (l : LinkTarget) → l ≡ LinkTarget.Rests → (if f then [] else demuxed_text_rules link message b l) ≡ []
    go true l e = refl
    go false l e = ap (demuxed_text_rules link message b) e

module _ (me n link : ℕ) (message : Message) (b : SeenTables) (u : Sockets) (at : OpensAt me n false link b (text_target (own_flow me n) link b) u)
    (sized : (conn_at_index b.conns at.user.place).size ≡ Some message.size) (some_left : 1 ≤ (conn_at_index b.conns at.user.place).messages) (fits : length message.text ≤ (conn_at_index b.conns at.user.place).bits) where
  abbrev its : ConnState
  its = conn_at_index b.conns at.user.place

  open_rules : open_text_rules link message its ≡ []
  open_rules =
      ap (λ (o : Option ℕ). option_to_list (size_rule link message.size o) ++ option_to_list (over_text_rule link (length message.text) its)) sized
      ∙ ap (λ (x : Bool). option_to_list (if x then None else Some (Rule.TextSize link message.size message.size)) ++ option_to_list (over_text_rule link (length message.text) its)) (eq-eqb message.size message.size refl)
      ∙ ap (λ (x : Bool). option_to_list (if x then Some (Rule.TextOver link its.messages (length message.text) its.bits) else None)) within
    where
      some : (x : ℕ) → 1 ≤ x → (x == 0) ≡ false
      some x e = grind (arith, nat_tests)

      under : (x y : ℕ) → x ≤ y → nat_lt y x ≡ false
      under x y e = grind (arith, nat_tests)

      within : uses_too_much (length message.text) its ≡ false
      within = ap (λ (x : Bool). x || nat_lt its.bits (length message.text)) (some its.messages some_left) ∙ under (length message.text) its.bits fits

  pub text_right : text_rules (own_flow me n) link message b ≡ []
  text_right = go b.full
    where
      go : (f : Bool) → (if f then [] else demuxed_text_rules link message b (text_target (own_flow me n) link b)) ≡ []
      go true = refl
      go false = ap (demuxed_text_rules link message b) at.leads ∙ open_rules

  pub text_after : conn_tables_after_text (own_flow me n) link message b ≡ put_conn b (Some at.user.place) (numbered (its.messages - 1) (its.bits - length message.text) its.recall its.came its)
  text_after =
      ap (demuxed_after_text (own_flow me n) link message b) at.leads
      ∙ ap (λ (rules : List Rule). admits_error_if (is_any rules) (own_flow me n) message (over_suspended (is_any rules) (own_flow me n) link (after_text_came (own_flow me n) link (put_conn b (Some at.user.place) (used (length message.text) its))))) open_rules
