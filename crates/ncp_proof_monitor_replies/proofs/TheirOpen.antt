-- What the other says of an open connection, as it is seen: both sides count the same, and the replies that are due are those that
-- wait.
use Rattle.std.proofs.Common.{◌≡◌, ◌≤◌, ℕ, Bool, true, false, if◌then◌else◌, List, [], ◌∷◌, ◌++◌, map, Option, Some, is_some, ◌⊎◌, inl, inr, refl, sym, ap, ◌∙◌, subst}
use Rattle.std.specs.Prelude.{slice_set}
use Rattle.std.specs.FinMap.{get}
use Rattle.std.specs.List.{filter, list_any}
use Rattle.ncp_wire.specs.declared.command.Command.{Command}
use Rattle.ncp_wire.specs.declared.command.Command.TheVariants.{All, Ret, Inr, Ins}
use Rattle.ncp_wire.specs.Spelling.{error_of}
use Rattle.ncp_model.specs.declared.pair.Pair.{Pair}
use Rattle.ncp_model.specs.Endpoint.{Endpoint}
use Rattle.ncp_model.specs.Effect.{wrong_parameters}
use Rattle.ncp_model.specs.Ends.{Ends, sender_on, receiver_on}
use Rattle.ncp_proof_machine.proofs.EndsGood.{EndsInvariant}
use Rattle.ncp_monitor.specs.declared.conn_state.ConnState.{ConnState}
use Rattle.ncp_monitor.specs.declared.conn_state.FactKind.{FactKind}
use Rattle.ncp_monitor.specs.ConnStates.{SeenTables, conn_at_index, is_topic, is_marked, put_conn}
use Rattle.ncp_monitor.specs.Replies.{error_wanted, is_due_of, is_wanted, pending_left, after_reply}
use Rattle.ncp_monitor.specs.Allocation.{kept_sum, limit_rule, other_code, granted_here, with_return, owes_error_if}
use Rattle.ncp_monitor.proofs.Shapes.{Shape, Agrees}
use Rattle.ncp_monitor.proofs.LinkOrder.{Sockets, same, same_is}
use Rattle.ncp_monitor.proofs.Seeing.{of_conn, seen}
use Rattle.ncp_proof_monitor_allocation.proofs.Changed.{pair_at, kept_of}
use Rattle.ncp_proof_monitor_allocation.proofs.SeenTables.{conn_seen, seen_of, receives_at}
use Rattle.ncp_proof_monitor_allocation.proofs.Users.{Linked}
use Rattle.ncp_proof_monitor_allocation.proofs.Resting.{due_with}
use Rattle.ncp_proof_monitor_allocation.proofs.Refusals.{other_error_fits}
use Rattle.ncp_proof_monitor_allocation.proofs.Proper.{ProperEnds}
use Rattle.ncp_proof_monitor_allocation.proofs.TidyBooks.{Renumbered, granted_numbered, returned_numbered}
use Rattle.ncp_proof_monitor_allocation.proofs.LinkPlaces.{UserAt, AllUnique}
use Rattle.ncp_proof_monitor_allocation.proofs.Plain.{Plain}
use Rattle.ncp_proof_monitor_allocation.proofs.TextErrors.{AllAdmitted}
use Rattle.ncp_proof_monitor_allocation.proofs.Words.{Word, says_in, link_given, Agreed, Fits, count_of}
use Rattle.ncp_proof_monitor_allocation.proofs.Counted.{is_worded, command_of, words_of, words_about, links_by, Counted, PairsAgree, append_nil}
use Rattle.ncp_proof_monitor_replies.specs.Owed.{Gives}
use Rattle.ncp_proof_monitor_replies.proofs.OwedItems.{OwedBy}
use Rattle.ncp_proof_monitor_replies.proofs.OwedSteps.{ItemsStay, stay_same, stay_then, owed_stays, their_reply_owed, made_reply, unmade_reply}
use Rattle.ncp_proof_monitor_allocation.proofs.LinksReach.{led_sender, led_receiver}
use Rattle.ncp_proof_monitor_allocation.proofs.LinksOpen.{open_shape, Reaches, Counts, all_open, inr_open, ret_open, ins_open}
use Rattle.ncp_proof_monitor_allocation.proofs.LinksDid.{ends_after, made_of, all_did, inr_did, ret_did, ins_did}
use Rattle.ncp_proof_monitor_allocation.proofs.LinksCome.{SameConn, same_conn, renumbered_same, SeenNow, renumbered_now, links_unrested, says_are, reach, counts_are, open_step}
use Rattle.ncp_proof_monitor_replies.proofs.TheirLinks.{about_command, nil, did_moves}

-- ---- the books with an ERR that is admitted, if a rule is broken

pub error_if_same : (me n : ℕ) (wrong : Bool) (c : Command) (b : SeenTables) → (owes_error_if wrong (record { at = me; peer = n; sent = false }) c b).full ≡ false
    → ((owes_error_if wrong (record { at = me; peer = n; sent = false }) c b).conns ≡ b.conns) × ((owes_error_if wrong (record { at = me; peer = n; sent = false }) c b).known_facts ≡ b.known_facts)
error_if_same me n false c b f = (refl, refl)
error_if_same me n true c b f = (due_with b (record { at = me; peer = n; host = true; wanted = error_wanted 5 (other_code c) c; mandatory = false }) f).1

-- ---- one connection with other numbers: what waits is the same

module _ (me n : ℕ) (b after : SeenTables) (u : Sockets) (old conn : ConnState) (was : conn_seen me n b u ≡ Some old) (same_numbers : SameConn old conn) (now : SeenNow me n b after u conn) where
  shapes : of_conn conn ≡ of_conn old
  shapes =
      ap (λ (x : ℕ). of_conn (record conn { local = x })) same_numbers.local
      ∙ ap (λ (x : Option ℕ). of_conn (record conn { local = old.local; link = x })) same_numbers.link
      ∙ ap (λ (x : Option ℕ). of_conn (record conn { local = old.local; link = old.link; size = x })) same_numbers.size
      ∙ ap (λ (x : Bool). of_conn (record conn { local = old.local; link = old.link; size = old.size; host_left = x })) same_numbers.host_left
      ∙ ap (λ (x : Bool). of_conn (record conn { local = old.local; link = old.link; size = old.size; host_left = old.host_left; peer_left = x })) same_numbers.peer_left

  pub same_seen : (v : Sockets) → seen_of me n after v ≡ seen_of me n b v
  same_seen v = by (same v u) refl
    where
      by : (x : Bool) → same v u ≡ x → seen_of me n after v ≡ seen_of me n b v
      by true s = ap (seen_of me n after) (same_is v u s) ∙ ap seen now.here ∙ ap (λ (x : Shape). Some x) shapes ∙ sym (ap seen was) ∙ sym (ap (seen_of me n b) (same_is v u s))
      by false s = ap seen (now.others v s)

  pub items_now : after.known_facts ≡ b.known_facts → ItemsStay me n b after
  items_now known_facts = record {
    suspended = λ link. ap (list_any (is_topic me n (FactKind.LinkSuspended false link))) known_facts;
    links = λ v s. ap (link_given true) (same_seen v);
  }

-- ---- the host sends

module _ (me n : ℕ) (m : Ends) (good : EndsInvariant m) (w : List Command) (b : SeenTables) (proper : ProperEnds m) (unique : AllUnique me n b) (linked : Linked me n b) (pairs : PairsAgree me n m w b) (c : Counted me n m w b) (owed : OwedBy me n m w b) (on : ℕ) (unmarked : is_marked me n (FactKind.LinkSuspended false on) b ≡ false) (u : Sockets) (user : UserAt me n false on b u) (unclosed : (conn_at_index b.conns user.place).peer_left ≡ false) (size : ℕ) (sized : (conn_at_index b.conns user.place).size ≡ Some size) where
  abbrev s_conn : ConnState
  s_conn = conn_at_index b.conns user.place

  abbrev s_links : ℕ → Bool
  s_links = links_by me n b (receives_at u)

  abbrev s_words : List Word
  s_words = words_about u c.words

  abbrev s_shape : Shape
  s_shape = open_shape true on (Some size) s_conn.host_left

  pub s_at : Reaches m u true on (Some size) s_conn.host_left (says_in s_words)
  s_at = reach me n m w b proper unique linked pairs c false on unmarked u user unclosed (Some size) sized size refl

  pub s_says : Agrees (says_in s_words) (kept_of m u) (Some s_shape)
  s_says = says_are me n m w b proper unique linked pairs c false on unmarked u user unclosed (Some size) sized

  pub s_counts : Agreed true s_links (Fits true s_links (get m (pair_at u))) s_words (Some s_shape) (count_of (Some s_conn))
  s_counts = counts_are me n m w b proper unique linked pairs c false on unmarked u user unclosed (Some size) sized

  pub s_unrested : s_links on ≡ false
  s_unrested = links_unrested me n m w b proper unique linked pairs c false on unmarked u user unclosed

  pub s_there : (p : Pair × Endpoint) → sender_on on m ≡ Some p → get m p.0 ≡ Some p.1
  s_there p f = (led_sender m on p.0 p.1 f).there

  -- both sides count the same
  pub sender_counts_too : (said : Command) (conn : ConnState) (cs : List Command) (more : List Word) (after : SeenTables) → SameConn s_conn conn → SeenNow me n b after u conn → after.known_facts ≡ b.known_facts → filter is_worded cs ≡ map command_of (words_of u more)
      → AllAdmitted me n cs after → Plain me n after → Counts m said u true s_links (s_words ++ more) s_shape conn cs → Counted me n (ends_after m said) (w ++ made_of m said) after
  sender_counts_too said conn cs more after same_numbers now known_facts spells admits plain cn =
      subst (λ (x : List Command). Counted me n (ends_after m said) (w ++ x) after) (sym cn.after.made)
      (open_step me n m w b proper unique linked pairs c false on unmarked u user unclosed (ends_after m said) cn.end cs more after (Some size) conn sized same_numbers now known_facts cn.after.one spells cn.agreed plain admits)

  pub nothing_more : (said : Command) (conn : ConnState) (cs : List Command) → Counts m said u true s_links s_words s_shape conn cs → Counts m said u true s_links (s_words ++ []) s_shape conn cs
  nothing_more said conn cs cn = subst (λ (ws : List Word). Counts m said u true s_links ws s_shape conn cs) (sym (append_nil s_words)) cn

  -- ---- ALL

  module _ (x y : ℕ) where
    abbrev grant : Command
    grant = All on x y

    abbrev is_over_limit : Bool
    is_over_limit = is_some (limit_rule (All on x y) (kept_sum s_conn.messages x) (kept_sum s_conn.bits y))

    abbrev granted_tables : SeenTables
    granted_tables = put_conn b (Some user.place) (granted_here x y s_conn)

    abbrev all_tables : SeenTables
    all_tables = owes_error_if is_over_limit (record { at = me; peer = n; sent = false }) (All on x y) granted_tables

    grants : Renumbered s_conn (granted_here x y s_conn)
    grants = granted_numbered (record { at = me; peer = n; sent = false }) x y s_conn

    pub their_all : all_tables.full ≡ false → Plain me n all_tables → Counted me n (ends_after m grant) (w ++ made_of m grant) all_tables × OwedBy me n (ends_after m grant) (w ++ made_of m grant) all_tables
    their_all room plain = by (all_open m good u on size s_conn.host_left s_links s_words s_conn s_unrested s_at s_says s_counts x y)
      where
        same_tables : (all_tables.conns ≡ granted_tables.conns) × (all_tables.known_facts ≡ granted_tables.known_facts)
        same_tables = error_if_same me n is_over_limit (All on x y) granted_tables room

        numbers : SameConn s_conn (granted_here x y s_conn)
        numbers = renumbered_same s_conn (granted_here x y s_conn) grants

        now_seen : SeenNow me n b all_tables u (granted_here x y s_conn)
        now_seen = renumbered_now me n false on b all_tables u user (granted_here x y s_conn) unique grants same_tables.0

        base : OwedBy me n (ends_after m grant) w granted_tables
        base =
            did_moves me n m on grant (sender_on on m) s_there (all_did m good on x y) w granted_tables
            (owed_stays me n m w b granted_tables
            (items_now me n b granted_tables u s_conn (granted_here x y s_conn) user.seen numbers (renumbered_now me n false on b granted_tables u user (granted_here x y s_conn) unique grants refl) refl) refl owed)

        counted : (cs : List Command) → filter is_worded cs ≡ [] → AllAdmitted me n cs all_tables → Counts m grant u true s_links s_words s_shape (granted_here x y s_conn) cs → Counted me n (ends_after m grant) (w ++ made_of m grant) all_tables
        counted cs spells admits cn = sender_counts_too grant (granted_here x y s_conn) cs [] all_tables numbers now_seen same_tables.1 spells admits plain (nothing_more grant (granted_here x y s_conn) cs cn)

        none_made : (z : Bool) → (owes_error_if z (record { at = me; peer = n; sent = false }) (All on x y) granted_tables).full ≡ false
            → OwedBy me n (ends_after m grant) w (owes_error_if z (record { at = me; peer = n; sent = false }) (All on x y) granted_tables)
        none_made false f = base
        none_made true f = unmade_reply me n (ends_after m grant) w granted_tables (error_wanted 5 3 (All on x y)) f refl base

        one_made : (z : Bool) → z ≡ true → (owes_error_if z (record { at = me; peer = n; sent = false }) (All on x y) granted_tables).full ≡ false
            → OwedBy me n (ends_after m grant) (w ++ error_of wrong_parameters grant ∷ []) (owes_error_if z (record { at = me; peer = n; sent = false }) (All on x y) granted_tables)
        one_made false e f = absurd (cc e)
        one_made true e f =
            made_reply me n (ends_after m grant) w granted_tables (error_wanted 5 3 (All on x y)) false (error_of 3 grant) f refl (other_error_fits 5 3 grant)
            (ap (λ (z : Bool). if z then [] else Gives (error_of 3 grant) ∷ []) (about_command 3 grant refl)) base

        by : Counts m grant u true s_links s_words s_shape (granted_here x y s_conn) []
            ⊎ ((is_over_limit ≡ true) × Counts m grant u true s_links s_words s_shape (granted_here x y s_conn) (error_of wrong_parameters grant ∷ []))
            → Counted me n (ends_after m grant) (w ++ made_of m grant) all_tables × OwedBy me n (ends_after m grant) (w ++ made_of m grant) all_tables
        by (inl cn) = (
          counted [] refl tt cn,
          subst (λ (z : List Command). OwedBy me n (ends_after m grant) z all_tables) (sym (ap (λ (z : List Command). w ++ z) cn.after.made ∙ nil w)) (none_made is_over_limit room),
        )
        by (inr cn) = (
          counted (error_of wrong_parameters grant ∷ []) refl ((λ t. absurd (cc (sym t ∙ about_command 3 grant refl))), tt) cn.1,
          subst (λ (z : List Command). OwedBy me n (ends_after m grant) (w ++ z) all_tables) (sym cn.1.after.made) (one_made is_over_limit cn.0 room),
        )

  -- ---- INR

  pub their_inr : Counted me n (ends_after m (Inr on)) (w ++ made_of m (Inr on)) b × OwedBy me n (ends_after m (Inr on)) (w ++ made_of m (Inr on)) b
  their_inr =
      let cn = inr_open m good u on size s_conn.host_left s_links s_words s_conn s_unrested s_at s_says s_counts in (
        sender_counts_too (Inr on) s_conn [] [] b (same_conn s_conn) (record { here = user.seen; others = λ v d. refl }) refl refl tt c.plain (nothing_more (Inr on) s_conn [] cn),
        subst (λ (z : List Command). OwedBy me n (ends_after m (Inr on)) z b) (sym (ap (λ (z : List Command). w ++ z) cn.after.made ∙ nil w))
            (did_moves me n m on (Inr on) (sender_on on m) s_there (inr_did m good on) w b owed),
      )

-- ---- the host receives

module _ (me n : ℕ) (m : Ends) (good : EndsInvariant m) (w : List Command) (b : SeenTables) (proper : ProperEnds m) (unique : AllUnique me n b) (linked : Linked me n b) (pairs : PairsAgree me n m w b) (c : Counted me n m w b) (owed : OwedBy me n m w b) (on : ℕ) (unmarked : is_marked me n (FactKind.LinkSuspended true on) b ≡ false) (u : Sockets) (user : UserAt me n true on b u) (unclosed : (conn_at_index b.conns user.place).peer_left ≡ false) (size : ℕ) (sized : (conn_at_index b.conns user.place).size ≡ Some size) where
  abbrev r_conn : ConnState
  r_conn = conn_at_index b.conns user.place

  abbrev r_links : ℕ → Bool
  r_links = links_by me n b (receives_at u)

  abbrev r_words : List Word
  r_words = words_about u c.words

  abbrev r_shape : Shape
  r_shape = open_shape false on (Some size) r_conn.host_left

  pub r_at : Reaches m u false on (Some size) r_conn.host_left (says_in r_words)
  r_at = reach me n m w b proper unique linked pairs c true on unmarked u user unclosed (Some size) sized on refl

  r_counts : Agreed false r_links (Fits false r_links (get m (pair_at u))) r_words (Some r_shape) (count_of (Some r_conn))
  r_counts = counts_are me n m w b proper unique linked pairs c true on unmarked u user unclosed (Some size) sized

  r_unrested : r_links on ≡ false
  r_unrested = links_unrested me n m w b proper unique linked pairs c true on unmarked u user unclosed

  r_there : (p : Pair × Endpoint) → receiver_on on m ≡ Some p → get m p.0 ≡ Some p.1
  r_there p f = (led_receiver m on p.0 p.1 f).there

  receiver_counts_too : (said : Command) (conn : ConnState) (after : SeenTables) → SameConn r_conn conn → SeenNow me n b after u conn → after.known_facts ≡ b.known_facts → Plain me n after → Counts m said u false r_links r_words r_shape conn []
      → Counted me n (ends_after m said) (w ++ made_of m said) after
  receiver_counts_too said conn after same_numbers now known_facts plain cn =
      subst (λ (x : List Command). Counted me n (ends_after m said) (w ++ x) after) (sym cn.after.made)
      (open_step me n m w b proper unique linked pairs c true on unmarked u user unclosed (ends_after m said) cn.end [] [] after (Some size) conn sized same_numbers now known_facts cn.after.one refl
      (subst (λ (ws : List Word). Agreed false r_links (Fits false r_links (Some cn.end)) ws (Some r_shape) (count_of (Some conn))) (sym (append_nil r_words)) cn.agreed) plain tt)

  -- ---- INS

  pub their_ins : Counted me n (ends_after m (Ins on)) (w ++ made_of m (Ins on)) b × OwedBy me n (ends_after m (Ins on)) (w ++ made_of m (Ins on)) b
  their_ins =
      let cn = ins_open m good u on size r_conn.host_left r_links r_words r_conn r_unrested r_at r_counts in (
        receiver_counts_too (Ins on) r_conn b (same_conn r_conn) (record { here = user.seen; others = λ v d. refl }) refl c.plain cn,
        subst (λ (z : List Command). OwedBy me n (ends_after m (Ins on)) z b) (sym (ap (λ (z : List Command). w ++ z) cn.after.made ∙ nil w))
            (did_moves me n m on (Ins on) (receiver_on on m) r_there (ins_did m good on) w b owed),
      )

  -- ---- RET: a pending one that gives back at most the observed counts

  module _ (x y : ℕ) where
    abbrev gives_back : Command
    gives_back = Ret on x y

    abbrev pub return_tables : SeenTables
    return_tables = put_conn (after_reply (record { at = me; peer = n; sent = false }) (Ret on x y) b) (Some user.place) (with_return (record { at = me; peer = n; sent = false }) x y r_conn)

    pub their_ret : (wrong : Bool) → (owes_error_if wrong (record { at = me; peer = n; sent = false }) (Ret on x y) return_tables).full ≡ false
        → Plain me n (owes_error_if wrong (record { at = me; peer = n; sent = false }) (Ret on x y) return_tables) → x ≤ r_conn.messages → y ≤ r_conn.bits → r_conn.recall ≡ true
        → Counted me n (ends_after m gives_back) (w ++ made_of m gives_back) (owes_error_if wrong (record { at = me; peer = n; sent = false }) (Ret on x y) return_tables)
        × OwedBy me n (ends_after m gives_back) (w ++ made_of m gives_back) (owes_error_if wrong (record { at = me; peer = n; sent = false }) (Ret on x y) return_tables)
    their_ret wrong room plain p q r = (
      receiver_counts_too gives_back conn after numbers (seen_now after same_tables.0) (same_tables.1 ∙ struck.1) plain cn,
      subst (λ (z : List Command). OwedBy me n (ends_after m gives_back) z after) (sym (ap (λ (z : List Command). w ++ z) cn.after.made ∙ nil w)) (none_made wrong room),
    )
      where
        after : SeenTables
        after = owes_error_if wrong (record { at = me; peer = n; sent = false }) (Ret on x y) return_tables

        conn : ConnState
        conn = with_return (record { at = me; peer = n; sent = false }) x y r_conn

        cn : Counts m gives_back u false r_links r_words r_shape conn []
        cn = ret_open m good u on size r_conn.host_left r_links r_words r_conn r_unrested r_at r_counts x y p q r

        same_tables : (after.conns ≡ return_tables.conns) × (after.known_facts ≡ return_tables.known_facts)
        same_tables = error_if_same me n wrong (Ret on x y) return_tables room

        struck : ((after_reply (record { at = me; peer = n; sent = false }) (Ret on x y) b).conns ≡ b.conns) × ((after_reply (record { at = me; peer = n; sent = false }) (Ret on x y) b).known_facts ≡ b.known_facts)
        struck = go (is_wanted (is_due_of me n false) (Ret on x y) b.pending_replies)
          where
            go : (z : Bool) → ((if z then record b { pending_replies = pending_left (is_due_of me n false) (Ret on x y) b.pending_replies } else b).conns ≡ b.conns) × ((if z then record b { pending_replies = pending_left (is_due_of me n false) (Ret on x y) b.pending_replies } else b).known_facts ≡ b.known_facts)
            go true = (refl, refl)
            go false = (refl, refl)

        returns : Renumbered r_conn conn
        returns = returned_numbered (record { at = me; peer = n; sent = false }) x y r_conn

        numbers : SameConn r_conn conn
        numbers = renumbered_same r_conn conn returns

        seen_now : (conn_tables : SeenTables) → conn_tables.conns ≡ return_tables.conns → SeenNow me n b conn_tables u conn
        seen_now conn_tables k = renumbered_now me n true on b conn_tables u user conn unique returns (k ∙ ap (λ (ls : List ConnState). slice_set ls user.place conn) struck.0)

        base : OwedBy me n (ends_after m gives_back) w return_tables
        base =
            did_moves me n m on gives_back (receiver_on on m) r_there (ret_did m good on x y) w return_tables
            (owed_stays me n m w (after_reply (record { at = me; peer = n; sent = false }) (Ret on x y) b) return_tables
            (stay_then me n (after_reply (record { at = me; peer = n; sent = false }) (Ret on x y) b) b return_tables (stay_same me n (after_reply (record { at = me; peer = n; sent = false }) (Ret on x y) b) b (sym struck.0) (sym struck.1))
            (items_now me n b return_tables u r_conn conn user.seen numbers (seen_now return_tables refl) struck.1)) refl
            (their_reply_owed me n m w (Ret on x y) b owed))

        none_made : (z : Bool) → (owes_error_if z (record { at = me; peer = n; sent = false }) (Ret on x y) return_tables).full ≡ false
            → OwedBy me n (ends_after m gives_back) w (owes_error_if z (record { at = me; peer = n; sent = false }) (Ret on x y) return_tables)
        none_made false f = base
        none_made true f = unmade_reply me n (ends_after m gives_back) w return_tables (error_wanted 5 3 (Ret on x y)) f refl base
