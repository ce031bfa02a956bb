-- A command of the host that names a link is sent: no rule is broken, and the counts and the pending
-- replies still agree with the queued commands.
use Rattle.std.proofs.Common.{◌≡◌, ℕ, ◌+◌, ◌≤◌, Bool, true, false, not, if◌then◌else◌, List, [], ◌∷◌, Option, None, Some, ◌⊎◌, inl, inr, refl, sym, ap, ◌∙◌, subst, arith}
use Rattle.std.specs.Prelude.{nat_le}
use Rattle.std.specs.List.{list_any}
use Rattle.std.proofs.lemmas.Bool.{and_parts}
use Rattle.std.proofs.lemmas.Bool.Decides.{nat_tests}
use Rattle.ncp_wire.specs.declared.command.Command.{Command}
use Rattle.ncp_wire.specs.declared.command.Command.TheVariants.{Nop, Rts, Str, Cls, All, Gvb, Ret, Inr, Ins, Eco, Erp, Err, Rst, Rrp}
use Rattle.ncp_model.specs.Ends.{Ends, link_of}
use Rattle.ncp_monitor.specs.declared.pending_reply.PendingReply.{PendingReply}
use Rattle.ncp_monitor.specs.declared.finding.Rule.{Rule}
use Rattle.ncp_interface.specs.declared.sent_message.SentMessage.{SentMessage}
use Rattle.ncp_monitor.specs.declared.conn_state.ConnState.{ConnState}
use Rattle.ncp_monitor.specs.declared.conn_state.FactKind.{FactKind}
use Rattle.ncp_monitor.specs.ConnStates.{SeenTables, is_of_sockets, conn_at_index, is_topic, put_conn}
use Rattle.ncp_interface.specs.Sockets.{is_senders}
use Rattle.ncp_monitor.specs.Replies.{is_own, is_due_of, is_wanted, owes, error_wanted, pending_left}
use Rattle.ncp_monitor.specs.Allocation.{number_rules, other_code, owes_error, asked_back, owes_return}
use Rattle.ncp_monitor.specs.Speaking.{command_rule, tables_after_command}
use Rattle.ncp_monitor.proofs.Shapes.{is_closed}
use Rattle.ncp_monitor.proofs.LinkOrder.{Sockets}
use Rattle.ncp_monitor.proofs.Firsts.{first}
use Rattle.ncp_monitor.proofs.Seeing.{seen}
use Rattle.ncp_proof_monitor_allocation.proofs.SeenTables.{conn_seen, seen_of, is_suspended, receives_at}
use Rattle.ncp_proof_monitor_allocation.proofs.Resting.{due_with}
use Rattle.ncp_proof_monitor_allocation.proofs.TidyBooks.{Tidy, numbered}
use Rattle.ncp_proof_monitor_allocation.proofs.LinkPlaces.{UserAt, AllUnique, renumbered, renumbered_here, renumbered_others, renumbered_seen, renumbered_suspended}
use Rattle.ncp_proof_monitor_allocation.proofs.Users.{Linked}
use Rattle.ncp_proof_monitor_allocation.proofs.Came.{has_come}
use Rattle.ncp_proof_monitor_allocation.proofs.SameShapes.{SameShapes, conns_same, numbered_same, shapes_then}
use Rattle.ncp_proof_monitor_replies.proofs.LinksGo.{own_flow, rest_rule, rest_after, grant_rule, grant_after, recall_rule, recall_after, return_rule, return_after, hint_rules, hints_after}
use Rattle.ncp_proof_monitor_replies.proofs.LinksKeep.{names_link, WordOut, word_out, grants_only, recalls_only, returns_only, hints_only, LeadsOut, OutAtRest, OutOpen, leads_out}
use Rattle.ncp_proof_monitor_allocation.proofs.Words.{Word, Grants, Recalls, Returns, Hints, count_of, link_given, is_open_on, is_within, names_at_rest, count_after, open_given}
use Rattle.ncp_proof_monitor_allocation.proofs.Plain.{Plain, RecalledOn, count_seen, returns_due, open_opened, plain_conns, plain_owed, left_fewer, plain_numbered, plain_their_return, recalled_conn}
use Rattle.ncp_proof_monitor_allocation.proofs.Counted.{Counted, FirstWord, first_word, links_by}
use Rattle.ncp_proof_monitor_replies.specs.Owed.{Gives, nothing_ended, MayLack, Owed}
use Rattle.ncp_proof_monitor_replies.proofs.Owed.{NumbersAre, wanted_first, numbers_first}
use Rattle.ncp_proof_monitor_replies.proofs.OwedItems.{item_of, items_of, sent_suspended, links_sent, gone_of, OwedBy}
use Rattle.ncp_proof_monitor_replies.proofs.OwedSteps.{ItemsStay, owed_stays, owed_owes, owed_said, owed_first, own_reply_right, own_reply_owed, own_numbers_right}

-- and of what names a link, with the books of the same shapes
pub record NamedThen (me n : ℕ) (m : Ends) (kept : List SentMessage) (c : Command) (w : List Command) (b : SeenTables) : Type 0 where
  pub counted : Counted me n m w (tables_after_command (own_flow me n) kept c b)
  pub owed : OwedBy me n m w (tables_after_command (own_flow me n) kept c b)
  pub same : SameShapes me n b (tables_after_command (own_flow me n) kept c b)

-- its rules, and, where there is room after it, what is known then
pub record NamedOut (me n : ℕ) (m : Ends) (kept : List SentMessage) (c : Command) (w : List Command) (b : SeenTables) : Type 0 where
  pub rule : command_rule (own_flow me n) kept c b ≡ None
  pub numbers : number_rules (own_flow me n) c b ≡ []
  pub later : (tables_after_command (own_flow me n) kept c b).full ≡ false → NamedThen me n m kept c w b

-- ---- books after a word

-- with the same connections
pub conns_out : (me n : ℕ) (b now : SeenTables) (u : Sockets) (word : Word) → now.conns ≡ b.conns → now.known_facts ≡ b.known_facts → Plain me n now
    → (count_seen me n b u ≡ count_after word (seen_of me n b u) (count_seen me n b u)) ⊎ (names_at_rest (links_by me n b (receives_at u)) word ≡ true) → WordOut me n b now u word
conns_out me n b now u word l m plain k = record {
  shapes = λ v. ap seen (there v);
  suspended = λ v. ap is_suspended (there v);
  others = λ v d. ap count_of (there v);
  here = λ r. by k;
  links = λ host link e. ap (list_any (is_topic me n (FactKind.LinkSuspended host link))) m ∙ e;
  admits = λ bytes e. ap (list_any (is_topic me n (FactKind.Admits true bytes))) m ∙ e;
  plain = plain;
}
  where
    there : (v : Sockets) → conn_seen me n now v ≡ conn_seen me n b v
    there v = ap (λ (xs : List ConnState). first (is_of_sockets me n v.0 v.1) xs) l

    by : (count_seen me n b u ≡ count_after word (seen_of me n b u) (count_seen me n b u)) ⊎ (names_at_rest (links_by me n b (receives_at u)) word ≡ true)
        → (count_seen me n now u ≡ count_after word (seen_of me n b u) (count_seen me n b u)) ⊎ (names_at_rest (links_by me n b (receives_at u)) word ≡ true)
    by (inl e) = inl (ap count_of (there u) ∙ e)
    by (inr y) = inr y

-- with other numbers of the connection
pub numbered_out : (me n : ℕ) (host : Bool) (link : ℕ) (b : SeenTables) (u : Sockets) (user : UserAt me n host link b u) (messages bits : ℕ) (recall came : Bool) (now : SeenTables) (word : Word) → AllUnique me n b
    → now.conns ≡ (renumbered me n host link b u user messages bits recall came).conns → now.known_facts ≡ b.known_facts → Plain me n now
    → record { messages = messages; bits = bits; recall = recall } ≡ count_after word (seen_of me n b u) (count_seen me n b u) → WordOut me n b now u word
numbered_out me n host link b u user messages bits recall came now word unique l m plain counts = record {
  shapes = λ v. ap seen (there v) ∙ renumbered_seen me n host link b u user messages bits recall came unique v;
  suspended = λ v. ap is_suspended (there v) ∙ renumbered_suspended me n host link b u user messages bits recall came unique v;
  others = λ v d. ap count_of (there v ∙ renumbered_others me n host link b u user messages bits recall came v d);
  here = λ r. inl (ap count_of (there u ∙ renumbered_here me n host link b u user messages bits recall came unique) ∙ counts);
  links = λ other on e. ap (list_any (is_topic me n (FactKind.LinkSuspended other on))) m ∙ e;
  admits = λ bytes e. ap (list_any (is_topic me n (FactKind.Admits true bytes))) m ∙ e;
  plain = plain;
}
  where
    there : (v : Sockets) → conn_seen me n now v ≡ conn_seen me n (renumbered me n host link b u user messages bits recall came) v
    there v = ap (λ (xs : List ConnState). first (is_of_sockets me n v.0 v.1) xs) l

at_most : (x y : ℕ) → nat_le x y ≡ true → x ≤ y
at_most x y e = grind (arith, nat_tests)

is_not : (b : Bool) → not b ≡ true → b ≡ false
is_not true e = absurd (cc e)
is_not false e = refl

module _ (me n : ℕ) (m : Ends) (kept : List SentMessage) (w : List Command) (b : SeenTables) (tidy : Tidy b) (unique : AllUnique me n b) (linked : Linked me n b) where
  abbrev after : Command → SeenTables
  after c = tables_after_command (own_flow me n) kept c b

  -- on a suspended link an ERR may come, and nothing else
  rest_plain : (c : Command) → Plain me n b → Plain me n (owes_error (own_flow me n) c false b)
  rest_plain c plain = plain_owed me n (own_flow me n) (error_wanted 5 (other_code c) c) false b refl plain

  rest_counted : (c : Command) (k : Counted me n m (c ∷ w) b) (f : FirstWord c w k.words) (word : Word) → f.word ≡ word → names_link f.word ≡ true → names_at_rest (links_by me n b (receives_at f.at)) word ≡ true
      → (owes_error (own_flow me n) c false b).full ≡ false → Counted me n m w (owes_error (own_flow me n) c false b)
  rest_counted c k f word is names y room =
      let same_as = due_with b (record { at = me; peer = n; host = false; wanted = error_wanted 5 (other_code c) c; mandatory = false }) room in
      word_out me n m c w b k f (owes_error (own_flow me n) c false b) names
      (conns_out me n b (owes_error (own_flow me n) c false b) f.at f.word same_as.1.0 same_as.1.1 (rest_plain c k.plain) (inr (ap (names_at_rest (links_by me n b (receives_at f.at))) is ∙ y)))

  rest_same : (c : Command) → (owes_error (own_flow me n) c false b).full ≡ false → SameShapes me n b (owes_error (own_flow me n) c false b)
  rest_same c room =
      let same_as = due_with b (record { at = me; peer = n; host = false; wanted = error_wanted 5 (other_code c) c; mandatory = false }) room in
      conns_same me n b (owes_error (own_flow me n) c false b) same_as.1.0 (λ on link z. ap (list_any (is_topic me n (FactKind.LinkSuspended on link))) same_as.1.1 ∙ z) unique linked

  still_came : (u : Sockets) (conn : ConnState) → conn_seen me n b u ≡ Some conn → has_come (conn_seen me n b u) ≡ true → conn.came ≡ true
  still_came u conn s z = sym (ap has_come s) ∙ z

  -- the items are the same
  numbered_stay : (host : Bool) (link : ℕ) (u : Sockets) (user : UserAt me n host link b u) (messages bits : ℕ) (recall came : Bool) (pending_replies : List PendingReply)
      → ItemsStay me n (record b { pending_replies = pending_replies }) (record (put_conn b (Some user.place) (numbered messages bits recall came (conn_at_index b.conns user.place))) { pending_replies = pending_replies })
  numbered_stay host link u user messages bits recall came pending_replies = record {
    suspended = λ l. refl;
    links = λ v s. ap (link_given true) (renumbered_seen me n host link b u user messages bits recall came unique v);
  }

  -- ---- ALL

  module _ (link messages bits : ℕ) where
    abbrev all_said : Command
    all_said = All link messages bits

    pub own_all : Counted me n m (all_said ∷ w) b → OwedBy me n m (all_said ∷ w) b → NamedOut me n m kept all_said w b
    own_all k owed = by (leads_out me n m all_said w b k f tidy unique (Grants link messages bits) is true link
        (λ e. let p = and_parts (not (is_senders f.at.0)) (is_open_on (is_senders f.at.0) link (seen_of me n b f.at)) e in (p.0, p.1))
        (λ links last ws h. let p = and_parts (not (is_senders f.at.0)) (links link) h.0 in (p.0, p.1))
        (λ links. refl))
      where
        f : FirstWord all_said w k.words
        f = first_word all_said w k.words refl k.spelled

        is : f.word ≡ Grants link messages bits
        is = grants_only f.at f.word link messages bits f.spells

        names : names_link f.word ≡ true
        names = ap names_link is

        owed_then : OwedBy me n m w b
        owed_then = owed_said me n m all_said w b refl owed

        by : LeadsOut me n b f.at (Grants link messages bits) true link → NamedOut me n m kept all_said w b
        by (OutAtRest marked y) = record {
          rule = rest_rule me n true link b marked all_said;
          numbers = refl;
          later = λ room. record {
            counted = subst (Counted me n m w) (sym eq) (rest_counted all_said k f (Grants link messages bits) is names y (full room));
            owed = subst (OwedBy me n m w) (sym eq) (owed_owes me n m w b (error_wanted 5 3 all_said) false (full room) owed_then);
            same = subst (SameShapes me n b) (sym eq) (rest_same all_said (full room));
          };
        }
          where
            eq : after all_said ≡ owes_error (own_flow me n) all_said false b
            eq = rest_after me n true link b marked kept all_said

            full : (after all_said).full ≡ false → (owes_error (own_flow me n) all_said false b).full ≡ false
            full room = ap (λ (x : SeenTables). x.full) (sym eq) ∙ room
        by (OutOpen r unmarked o at within) = record {
          rule = grant_rule me n true link b f.at at kept messages bits small.0 small.1;
          numbers = refl;
          later = λ room. record {
            counted = subst (Counted me n m w) (sym eq)
                (word_out me n m all_said w b k f now names
                (numbered_out me n true link b f.at at.user (conn.messages + messages) (conn.bits + bits) conn.recall conn.came now f.word unique refl refl
                (plain_numbered me n true link b f.at at.user (conn.messages + messages) (conn.bits + bits) conn.recall conn.came unique (open_opened (is_senders f.at.0) link (seen_of me n b f.at) o) (inl (λ e. e)) k.plain)
                (sym (ap (λ (x : Word). count_after x (seen_of me n b f.at) (count_seen me n b f.at)) is ∙ ap (λ (x : Option ConnState). count_after (Grants link messages bits) (seen_of me n b f.at) (count_of x)) at.user.seen))));
            owed = subst (OwedBy me n m w) (sym eq) (owed_stays me n m w b now (numbered_stay true link f.at at.user (conn.messages + messages) (conn.bits + bits) conn.recall conn.came b.pending_replies) refl owed_then);
            same = subst (SameShapes me n b) (sym eq) (numbered_same me n true link b f.at at.user (conn.messages + messages) (conn.bits + bits) conn.recall conn.came unique linked (still_came f.at conn at.user.seen));
          };
        }
          where
            conn : ConnState
            conn = conn_at_index b.conns at.user.place

            now : SeenTables
            now = put_conn b (Some at.user.place) (numbered (conn.messages + messages) (conn.bits + bits) conn.recall conn.came conn)

            small : (conn.messages + messages ≤ 65535) × (conn.bits + bits ≤ 65536)
            small =
                let p = and_parts (nat_le (conn.messages + messages) 65535) (nat_le (conn.bits + bits) 65536) (sym (ap (λ (x : Option ConnState). is_within (Grants link messages bits) (count_of x)) at.user.seen) ∙ within) in
                (at_most (conn.messages + messages) 65535 p.0, at_most (conn.bits + bits) 65536 p.1)

            eq : after all_said ≡ now
            eq = grant_after me n true link b f.at at kept messages bits small.0 small.1

  -- ---- GVB

  module _ (link fm fb : ℕ) where
    abbrev gvb_said : Command
    gvb_said = Gvb link fm fb

    pub own_gvb : Counted me n m (gvb_said ∷ w) b → OwedBy me n m (gvb_said ∷ w) b → NamedOut me n m kept gvb_said w b
    own_gvb k owed = by (leads_out me n m gvb_said w b k f tidy unique (Recalls link fm fb) is true link
        (λ e. let p = and_parts (not (is_senders f.at.0)) (is_open_on (is_senders f.at.0) link (seen_of me n b f.at)) e in (p.0, p.1))
        (λ links last ws h. let p = and_parts (not (is_senders f.at.0)) (links link) h.0 in (p.0, p.1))
        (λ links. refl))
      where
        f : FirstWord gvb_said w k.words
        f = first_word gvb_said w k.words refl k.spelled

        is : f.word ≡ Recalls link fm fb
        is = recalls_only f.at f.word link fm fb f.spells

        names : names_link f.word ≡ true
        names = ap names_link is

        owed_then : OwedBy me n m w b
        owed_then = owed_said me n m gvb_said w b refl owed

        by : LeadsOut me n b f.at (Recalls link fm fb) true link → NamedOut me n m kept gvb_said w b
        by (OutAtRest marked y) = record {
          rule = rest_rule me n true link b marked gvb_said;
          numbers = refl;
          later = λ room. record {
            counted = subst (Counted me n m w) (sym eq) (rest_counted gvb_said k f (Recalls link fm fb) is names y (full room));
            owed = subst (OwedBy me n m w) (sym eq) (owed_owes me n m w b (error_wanted 5 5 gvb_said) false (full room) owed_then);
            same = subst (SameShapes me n b) (sym eq) (rest_same gvb_said (full room));
          };
        }
          where
            eq : after gvb_said ≡ owes_error (own_flow me n) gvb_said false b
            eq = rest_after me n true link b marked kept gvb_said

            full : (after gvb_said).full ≡ false → (owes_error (own_flow me n) gvb_said false b).full ≡ false
            full room = ap (λ (x : SeenTables). x.full) (sym eq) ∙ room
        by (OutOpen r unmarked o at within) =
            record {
              rule = recall_rule me n true link b f.at at kept fm fb unrecalled;
              numbers = refl;
              later = λ room. let both = go conn.peer_left refl (ap (λ (x : SeenTables). x.full) (sym eq) ∙ room) in record {
                counted = subst (Counted me n m w) (sym eq) both.0;
                owed = subst (OwedBy me n m w) (sym eq) both.1.0;
                same = subst (SameShapes me n b) (sym eq) both.1.1;
              };
            }
          where
            conn : ConnState
            conn = conn_at_index b.conns at.user.place

            mid : SeenTables
            mid = put_conn b (Some at.user.place) (numbered conn.messages conn.bits true conn.came conn)

            unrecalled : conn.recall ≡ false
            unrecalled = is_not conn.recall (sym (ap (λ (x : Option ConnState). is_within (Recalls link fm fb) (count_of x)) at.user.seen) ∙ within)

            eq : after gvb_said ≡ owes_return (own_flow me n) kept link fm fb conn mid
            eq = recall_after me n true link b f.at at kept fm fb unrecalled

            counts : record { messages = conn.messages; bits = conn.bits; recall = true } ≡ count_after f.word (seen_of me n b f.at) (count_seen me n b f.at)
            counts = sym (ap (λ (x : Word). count_after x (seen_of me n b f.at) (count_seen me n b f.at)) is ∙ ap (λ (x : Option ConnState). count_after (Recalls link fm fb) (seen_of me n b f.at) (count_of x)) at.user.seen)

            mid_plain : Plain me n mid
            mid_plain = plain_numbered me n true link b f.at at.user conn.messages conn.bits true conn.came unique (open_opened (is_senders f.at.0) link (seen_of me n b f.at) o) (inl (λ e. refl)) k.plain

            mid_seen : (v : Sockets) → seen_of me n mid v ≡ seen_of me n b v
            mid_seen v = renumbered_seen me n true link b f.at at.user conn.messages conn.bits true conn.came unique v

            mid_owed : OwedBy me n m w mid
            mid_owed = owed_stays me n m w b mid (numbered_stay true link f.at at.user conn.messages conn.bits true conn.came b.pending_replies) refl owed_then

            mid_same : SameShapes me n b mid
            mid_same = numbered_same me n true link b f.at at.user conn.messages conn.bits true conn.came unique linked (still_came f.at conn at.user.seen)

            -- none was due, since none was asked back
            zero_due : returns_due me n false link b.pending_replies ≡ 0
            zero_due = none_of (k.plain.recalled link unmarked)
              where
                none_of : (returns_due me n false link b.pending_replies ≡ 0) ⊎ ((returns_due me n false link b.pending_replies ≤ 1) × RecalledOn me n b link) → returns_due me n false link b.pending_replies ≡ 0
                none_of (inl z) = z
                none_of (inr z) = let nay : true ≡ false = sym (recalled_conn me n b link f.at at.user tidy z.1) ∙ unrecalled in absurd (cc nay)

            recalled_on : conn.peer_left ≡ false → RecalledOn me n mid link
            recalled_on p = record {
              u = f.at;
              receives = at.user.receives;
              given = ap (link_given false) (mid_seen f.at) ∙ ap (λ (s : Bool). link_given s (seen_of me n b f.at)) (sym (is_not (is_senders f.at.0) at.user.receives)) ∙ open_given (is_senders f.at.0) link (seen_of me n b f.at) o;
              recall = ap (λ (x : Option ConnState). (count_of x).recall) (renumbered_here me n true link b f.at at.user conn.messages conn.bits true conn.came unique);
              unclosed = ap is_closed (mid_seen f.at) ∙ ap (λ (x : Option ConnState). is_closed (seen x)) at.user.seen ∙ p;
            }

            due : PendingReply
            due = record { at = me; peer = n; host = false; wanted = asked_back link fm fb conn; mandatory = false }

            go : (x : Bool) → conn.peer_left ≡ x → (if x then mid else owes (own_flow me n) (asked_back link fm fb conn) false mid).full ≡ false
                → Counted me n m w (if x then mid else owes (own_flow me n) (asked_back link fm fb conn) false mid)
                × (OwedBy me n m w (if x then mid else owes (own_flow me n) (asked_back link fm fb conn) false mid) × SameShapes me n b (if x then mid else owes (own_flow me n) (asked_back link fm fb conn) false mid))
            go true p full =
                (word_out me n m gvb_said w b k f mid names (numbered_out me n true link b f.at at.user conn.messages conn.bits true conn.came mid f.word unique refl refl mid_plain counts), (mid_owed, mid_same))
            go false p full =
                let same_as = due_with mid due full in (
                  word_out me n m gvb_said w b k f (owes (own_flow me n) (asked_back link fm fb conn) false mid) names
                      (numbered_out me n true link b f.at at.user conn.messages conn.bits true conn.came (owes (own_flow me n) (asked_back link fm fb conn) false mid) f.word unique same_as.1.0 same_as.1.1
                      (plain_their_return me n mid link due refl (λ l. refl) zero_due (recalled_on p) mid_plain) counts),
                  (
                    owed_owes me n m w mid (asked_back link fm fb conn) false full mid_owed,
                    shapes_then me n b mid (owes (own_flow me n) (asked_back link fm fb conn) false mid) mid_same
                        (conns_same me n mid (owes (own_flow me n) (asked_back link fm fb conn) false mid) same_as.1.0 (λ on l z. ap (list_any (is_topic me n (FactKind.LinkSuspended on l))) same_as.1.1 ∙ z) mid_same.unique mid_same.linked),
                  ),
                )

  -- ---- RET

  module _ (link messages bits : ℕ) where
    abbrev ret_said : Command
    ret_said = Ret link messages bits

    pub own_ret : Counted me n m (ret_said ∷ w) b → OwedBy me n m (ret_said ∷ w) b → NamedOut me n m kept ret_said w b
    own_ret k owed = by (leads_out me n m ret_said w b k f tidy unique (Returns link messages bits) is false link
        (λ e. let p = and_parts (is_senders f.at.0) (is_open_on (is_senders f.at.0) link (seen_of me n b f.at)) e in (ap not p.0, p.1))
        (λ links last ws h. let p = and_parts (is_senders f.at.0) (links link) h.0 in (ap not p.0, p.1))
        (λ links. refl))
      where
        f : FirstWord ret_said w k.words
        f = first_word ret_said w k.words refl k.spelled

        is : f.word ≡ Returns link messages bits
        is = returns_only f.at f.word link messages bits f.spells

        names : names_link f.word ≡ true
        names = ap names_link is

        by : LeadsOut me n b f.at (Returns link messages bits) false link → NamedOut me n m kept ret_said w b
        by (OutAtRest marked y) = record {
          rule = rest_rule me n false link b marked ret_said;
          numbers = own_numbers_right me n m link messages bits w b owed;
          later = λ room. record {
            counted = subst (Counted me n m w) (sym eq) (rest_counted ret_said k f (Returns link messages bits) is names y (full room));
            owed = subst (OwedBy me n m w) (sym eq) (owed_owes me n m w b (error_wanted 5 3 ret_said) false (full room) (owed_said me n m ret_said w b (ap (λ (x : Bool). if x then [] else Gives ret_said ∷ []) marked) owed));
            same = subst (SameShapes me n b) (sym eq) (rest_same ret_said (full room));
          };
        }
          where
            eq : after ret_said ≡ owes_error (own_flow me n) ret_said false b
            eq = rest_after me n false link b marked kept ret_said

            full : (after ret_said).full ≡ false → (owes_error (own_flow me n) ret_said false b).full ≡ false
            full room = ap (λ (x : SeenTables). x.full) (sym eq) ∙ room
        by (OutOpen r unmarked o at within) = record {
          rule = return_rule me n false link b f.at at kept messages bits (own_reply_right me n m ret_said w b (Rule.RetUnasked ret_said) item owed);
          numbers = own_numbers_right me n m link messages bits w b owed;
          later = λ room. record {
            counted = subst (Counted me n m w) (sym eq)
                (word_out me n m ret_said w b k f now names
                (numbered_out me n false link b f.at at.user conn.messages conn.bits false conn.came now f.word unique refl refl
                (plain_conns me n mid now refl (λ host l. inr (left_fewer me n host l (is_own (own_flow me n)) ret_said b.pending_replies, refl))
                (plain_numbered me n false link b f.at at.user conn.messages conn.bits false conn.came unique (open_opened (is_senders f.at.0) link (seen_of me n b f.at) o) (inr (inl refl)) k.plain))
                (sym (ap (λ (x : Word). count_after x (seen_of me n b f.at) (count_seen me n b f.at)) is ∙ ap (λ (x : Option ConnState). count_after (Returns link messages bits) (seen_of me n b f.at) (count_of x)) at.user.seen))));
            owed = subst (OwedBy me n m w) (sym eq)
                (owed_stays me n m w (record b { pending_replies = left }) now (numbered_stay false link f.at at.user conn.messages conn.bits false conn.came left) refl
                (subst (λ (x : Bool). OwedBy me n m w (if x then record b { pending_replies = left } else b)) wanted (own_reply_owed me n m ret_said w b item owed)));
            same = subst (SameShapes me n b) (sym eq)
                (shapes_then me n b mid now mid_same (conns_same me n mid now refl (λ on l z. z) mid_same.unique mid_same.linked));
          };
        }
          where
            conn : ConnState
            conn = conn_at_index b.conns at.user.place

            left : List PendingReply
            left = pending_left (is_own (own_flow me n)) ret_said b.pending_replies

            mid : SeenTables
            mid = put_conn b (Some at.user.place) (numbered conn.messages conn.bits false conn.came conn)

            now : SeenTables
            now = record mid { pending_replies = left }

            mid_same : SameShapes me n b mid
            mid_same = numbered_same me n false link b f.at at.user conn.messages conn.bits false conn.came unique linked (still_came f.at conn at.user.seen)

            item : item_of (sent_suspended me n b) (links_sent me n b) ret_said ≡ Gives ret_said ∷ []
            item = ap (λ (x : Bool). if x then [] else Gives ret_said ∷ []) unmarked

            splits : Owed (is_due_of me n true) (gone_of m) nothing_ended (Gives ret_said ∷ items_of me n b w) b.pending_replies
            splits = owed_first me n m ret_said w b (Gives ret_said) item owed

            wanted : is_wanted (is_own (own_flow me n)) ret_said b.pending_replies ≡ true
            wanted =
                wanted_first (is_due_of me n true) ret_said (MayLack (is_due_of me n true) (gone_of m) nothing_ended (Gives ret_said ∷ items_of me n b w)) (Owed (is_due_of me n true) (gone_of m) nothing_ended (items_of me n b w)) nothing_ended b.pending_replies splits

            are : NumbersAre (is_due_of me n true) ret_said b.pending_replies
            are = numbers_first (is_due_of me n true) (gone_of m) nothing_ended link messages bits (items_of me n b w) (Owed (is_due_of me n true) (gone_of m) nothing_ended (items_of me n b w)) b.pending_replies splits

            eq : after ret_said ≡ now
            eq =
                return_after me n false link b f.at at kept messages bits wanted are
                ∙ ap (λ (x : Bool). put_conn (if x then record b { pending_replies = left } else b) (Some at.user.place) (numbered conn.messages conn.bits false conn.came conn)) wanted

  -- ---- INR, INS

  pub own_inr : (link : ℕ) → Counted me n m (Inr link ∷ w) b → OwedBy me n m (Inr link ∷ w) b → NamedOut me n m kept (Inr link) w b
  own_inr link k owed = by (leads_out me n m (Inr link) w b k f tidy unique (Hints link) is.0 true link (λ e. (ap not is.1, e)) (λ links last ws h. (ap not is.1, h.0)) (λ links. refl))
    where
      f : FirstWord (Inr link) w k.words
      f = first_word (Inr link) w k.words refl k.spelled

      is : (f.word ≡ Hints link) × (is_senders f.at.0 ≡ false)
      is = hints_only f.at f.word false link f.spells

      by : LeadsOut me n b f.at (Hints link) true link → NamedOut me n m kept (Inr link) w b
      by (OutAtRest marked y) = record {
        rule = rest_rule me n true link b marked (Inr link);
        numbers = refl;
        later = λ room. record {
          counted = subst (Counted me n m w) (sym eq) (rest_counted (Inr link) k f (Hints link) is.0 (ap names_link is.0) y (full room));
          owed = subst (OwedBy me n m w) (sym eq) (owed_owes me n m w b (error_wanted 5 5 (Inr link)) false (full room) (owed_said me n m (Inr link) w b refl owed));
          same = subst (SameShapes me n b) (sym eq) (rest_same (Inr link) (full room));
        };
      }
        where
          eq : after (Inr link) ≡ owes_error (own_flow me n) (Inr link) false b
          eq = rest_after me n true link b marked kept (Inr link)

          full : (after (Inr link)).full ≡ false → (owes_error (own_flow me n) (Inr link) false b).full ≡ false
          full room = ap (λ (x : SeenTables). x.full) (sym eq) ∙ room
      by (OutOpen r unmarked o at within) = record {
        rule = (hint_rules me n true link b f.at at kept).0;
        numbers = refl;
        later = λ room. record {
          counted = subst (Counted me n m w) (sym eq)
              (word_out me n m (Inr link) w b k f b (ap names_link is.0)
              (conns_out me n b b f.at f.word refl refl k.plain (inl (sym (ap (λ (x : Word). count_after x (seen_of me n b f.at) (count_seen me n b f.at)) is.0)))));
          owed = subst (OwedBy me n m w) (sym eq) (owed_said me n m (Inr link) w b refl owed);
          same = subst (SameShapes me n b) (sym eq) (conns_same me n b b refl (λ on l z. z) unique linked);
        };
      }
        where
          eq : after (Inr link) ≡ b
          eq = (hints_after me n true link b f.at at kept).0

  pub own_ins : (link : ℕ) → Counted me n m (Ins link ∷ w) b → OwedBy me n m (Ins link ∷ w) b → NamedOut me n m kept (Ins link) w b
  own_ins link k owed = by (leads_out me n m (Ins link) w b k f tidy unique (Hints link) is.0 false link (λ e. (ap not is.1, e)) (λ links last ws h. (ap not is.1, h.0)) (λ links. refl))
    where
      f : FirstWord (Ins link) w k.words
      f = first_word (Ins link) w k.words refl k.spelled

      is : (f.word ≡ Hints link) × (is_senders f.at.0 ≡ true)
      is = hints_only f.at f.word true link f.spells

      by : LeadsOut me n b f.at (Hints link) false link → NamedOut me n m kept (Ins link) w b
      by (OutAtRest marked y) = record {
        rule = rest_rule me n false link b marked (Ins link);
        numbers = refl;
        later = λ room. record {
          counted = subst (Counted me n m w) (sym eq) (rest_counted (Ins link) k f (Hints link) is.0 (ap names_link is.0) y (full room));
          owed = subst (OwedBy me n m w) (sym eq) (owed_owes me n m w b (error_wanted 5 5 (Ins link)) false (full room) (owed_said me n m (Ins link) w b refl owed));
          same = subst (SameShapes me n b) (sym eq) (rest_same (Ins link) (full room));
        };
      }
        where
          eq : after (Ins link) ≡ owes_error (own_flow me n) (Ins link) false b
          eq = rest_after me n false link b marked kept (Ins link)

          full : (after (Ins link)).full ≡ false → (owes_error (own_flow me n) (Ins link) false b).full ≡ false
          full room = ap (λ (x : SeenTables). x.full) (sym eq) ∙ room
      by (OutOpen r unmarked o at within) = record {
        rule = (hint_rules me n false link b f.at at kept).1;
        numbers = refl;
        later = λ room. record {
          counted = subst (Counted me n m w) (sym eq)
              (word_out me n m (Ins link) w b k f b (ap names_link is.0)
              (conns_out me n b b f.at f.word refl refl k.plain (inl (sym (ap (λ (x : Word). count_after x (seen_of me n b f.at) (count_seen me n b f.at)) is.0)))));
          owed = subst (OwedBy me n m w) (sym eq) (owed_said me n m (Ins link) w b refl owed);
          same = subst (SameShapes me n b) (sym eq) (conns_same me n b b refl (λ on l z. z) unique linked);
        };
      }
        where
          eq : after (Ins link) ≡ b
          eq = (hints_after me n false link b f.at at kept).1

  -- ---- each

  pub named_out : (c : Command) (link : ℕ) → link_of c ≡ Some link → Counted me n m (c ∷ w) b → OwedBy me n m (c ∷ w) b → NamedOut me n m kept c w b
  named_out (All on messages bits) link l k owed = own_all on messages bits k owed
  named_out (Gvb on fm fb) link l k owed = own_gvb on fm fb k owed
  named_out (Ret on messages bits) link l k owed = own_ret on messages bits k owed
  named_out (Inr on) link l k owed = own_inr on k owed
  named_out (Ins on) link l k owed = own_ins on k owed
  named_out Nop link l k owed = absurd (cc l)
  named_out (Rts receive send on) link l k owed = absurd (cc l)
  named_out (Str send receive size) link l k owed = absurd (cc l)
  named_out (Cls my your) link l k owed = absurd (cc l)
  named_out (Eco byte) link l k owed = absurd (cc l)
  named_out (Erp byte) link l k owed = absurd (cc l)
  named_out (Err code shown) link l k owed = absurd (cc l)
  named_out Rst link l k owed = absurd (cc l)
  named_out Rrp link l k owed = absurd (cc l)
