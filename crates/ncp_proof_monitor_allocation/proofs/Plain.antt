-- Facts about the connection tables alone, kept by every command: a connection that one side has not
-- requested has no counts; at most one RET of the other host is pending for a link of the host, after a
-- GVB without a RET; and a RET of the host is pending only for the link of a connection that it has not
-- closed.
use Rattle.std.proofs.Common.{◌≡◌, ℕ, suc, ◌≤◌, ◌==◌, Bool, true, false, not, ◌&&◌, if◌then◌else◌, List, [], ◌∷◌, ◌++◌, length, map, Option, None, Some, is_some, ◌⊎◌, inl, inr, refl, sym, ap, ◌∙◌, subst, arith}
use Rattle.std.specs.Prelude.{nat_lt}
use Rattle.std.specs.List.{filter}
use Rattle.std.proofs.Math.Bool.{beq}
use Rattle.std.proofs.lemmas.Bool.{eqb-true}
use Rattle.ncp_wire.specs.declared.command.Command.{Command}
use Rattle.ncp_monitor.specs.declared.conn_tables.TheConstants.{MAX_TABLE_ROWS}
use Rattle.ncp_monitor.specs.declared.pending_reply.PendingReply.{PendingReply}
use Rattle.ncp_monitor.specs.declared.pending_reply.ExpectedReply.{ExpectedReply}
use Rattle.ncp_monitor.specs.declared.conn_state.ConnState.{ConnState}
use Rattle.ncp_monitor.specs.declared.conn_state.FactKind.{FactKind}
use Rattle.ncp_monitor.specs.declared.observed_flow.ObservedFlow.{ObservedFlow}
use Rattle.ncp_monitor.specs.ConnStates.{SeenTables, is_of_sockets, conn_at_index, same_topic, is_marked, is_return, is_return_on, with_due, put_conn, facts_now}
use Rattle.ncp_interface.specs.Sockets.{is_senders, is_number_given}
use Rattle.ncp_monitor.specs.Replies.{owes, says_wanted, is_own, is_wanted, answers, optional, fits_sure, pending_struck, pending_left, after_reply}
use Rattle.ncp_monitor.proofs.Shapes.{Shape, is_closed}
use Rattle.ncp_monitor.proofs.LinkOrder.{Sockets, same, same_is}
use Rattle.ncp_monitor.proofs.Firsts.{first}
use Rattle.ncp_monitor.proofs.BooksAt.{has_sockets}
use Rattle.ncp_monitor.proofs.Seeing.{seen}
use Rattle.ncp_proof_monitor_allocation.proofs.SeenTables.{conn_seen, seen_of, receives_at}
use Rattle.ncp_proof_monitor_allocation.proofs.Users.{first_passes}
use Rattle.ncp_proof_monitor_allocation.proofs.Resting.{fact_conns, fact_pending}
use Rattle.ncp_proof_monitor_allocation.proofs.Echoing.{fact_other}
use Rattle.ncp_proof_monitor_allocation.proofs.TidyBooks.{Tidy, numbered}
use Rattle.ncp_proof_monitor_allocation.proofs.LinkPlaces.{UserAt, AllUnique, user_seen, renumbered_here, renumbered_others, renumbered_seen}
use Rattle.ncp_proof_monitor_allocation.proofs.Words.{Count, no_count, count_of, link_of, link_given, is_open_on}

-- both have asked
abbrev pub is_opened : Option Shape → Bool
is_opened None = false
is_opened (Some s) = is_some s.own && is_some s.others

abbrev pub count_seen : ℕ → ℕ → SeenTables → Sockets → Count
count_seen me n b u = count_of (conn_seen me n b u)

-- how many RETs of the host, or of the other, are due for a link
abbrev pub returns_due : ℕ → ℕ → Bool → ℕ → List PendingReply → ℕ
returns_due me n host link pending_replies = length (filter (is_return me n host link) pending_replies)

-- a GVB of the host on this link has had no RET, and the other has not closed
pub record RecalledOn (me n : ℕ) (b : SeenTables) (link : ℕ) : Type 0 where
  pub u : Sockets
  pub receives : receives_at u ≡ true
  pub given : link_given false (seen_of me n b u) ≡ Some link
  pub recall : (count_seen me n b u).recall ≡ true
  pub unclosed : is_closed (seen_of me n b u) ≡ false

-- the host sends on this link, and has not closed
pub record OpenOn (me n : ℕ) (b : SeenTables) (link : ℕ) : Type 0 where
  pub u : Sockets
  pub sends : is_senders u.0 ≡ true
  pub is : is_open_on true link (seen_of me n b u) ≡ true

pub record Plain (me n : ℕ) (b : SeenTables) : Type 0 where
  pub unopened : (u : Sockets) → is_opened (seen_of me n b u) ≡ false → count_seen me n b u ≡ no_count
  pub recalled : (link : ℕ) → is_marked me n (FactKind.LinkSuspended true link) b ≡ false → (returns_due me n false link b.pending_replies ≡ 0) ⊎ ((returns_due me n false link b.pending_replies ≤ 1) × RecalledOn me n b link)
  pub users : (link : ℕ) → (returns_due me n true link b.pending_replies ≡ 0) ⊎ ((is_marked me n (FactKind.LinkSuspended false link) b ≡ false) × OpenOn me n b link)

-- ---- any change

-- no RET is pending for the link; or no more than before are, and the link is suspended exactly if it was
abbrev pub Fewer : ℕ → ℕ → Bool → ℕ → SeenTables → SeenTables → Type 0
Fewer me n host link b now =
    (returns_due me n host link now.pending_replies ≡ 0)
    ⊎ ((returns_due me n host link now.pending_replies ≤ returns_due me n host link b.pending_replies) × (is_marked me n (FactKind.LinkSuspended (not host) link) now ≡ is_marked me n (FactKind.LinkSuspended (not host) link) b))

pub plain_by : (me n : ℕ) (b now : SeenTables) → ((u : Sockets) → is_opened (seen_of me n now u) ≡ false → count_seen me n now u ≡ no_count)
    → ((link : ℕ) → RecalledOn me n b link → RecalledOn me n now link ⊎ (returns_due me n false link now.pending_replies ≡ 0))
    → ((link : ℕ) → OpenOn me n b link → OpenOn me n now link ⊎ (returns_due me n true link now.pending_replies ≡ 0))
    → ((host : Bool) (link : ℕ) → Fewer me n host link b now) → Plain me n b → Plain me n now
plain_by me n b now unopened recalls opens fewer plain = record {
  unopened = unopened;
  recalled = λ link m. theirs link m (fewer false link);
  users = λ link. own link (fewer true link);
}
  where
    none : (less more : ℕ) → less ≤ more → more ≡ 0 → less ≡ 0
    none less more k e = omega arith

    one : (less more : ℕ) → less ≤ more → more ≤ 1 → less ≤ 1
    one less more k e = omega arith

    theirs : (link : ℕ) → is_marked me n (FactKind.LinkSuspended true link) now ≡ false → Fewer me n false link b now → (returns_due me n false link now.pending_replies ≡ 0) ⊎ ((returns_due me n false link now.pending_replies ≤ 1) × RecalledOn me n now link)
    theirs link m (inl z) = inl z
    theirs link m (inr k) = go (plain.recalled link (sym k.1 ∙ m))
      where
        then_by : returns_due me n false link b.pending_replies ≤ 1 → RecalledOn me n now link ⊎ (returns_due me n false link now.pending_replies ≡ 0) → (returns_due me n false link now.pending_replies ≡ 0) ⊎ ((returns_due me n false link now.pending_replies ≤ 1) × RecalledOn me n now link)
        then_by l (inl r) = inr (one (returns_due me n false link now.pending_replies) (returns_due me n false link b.pending_replies) k.0 l, r)
        then_by l (inr z) = inl z

        go : (returns_due me n false link b.pending_replies ≡ 0) ⊎ ((returns_due me n false link b.pending_replies ≤ 1) × RecalledOn me n b link) → (returns_due me n false link now.pending_replies ≡ 0) ⊎ ((returns_due me n false link now.pending_replies ≤ 1) × RecalledOn me n now link)
        go (inl z) = inl (none (returns_due me n false link now.pending_replies) (returns_due me n false link b.pending_replies) k.0 z)
        go (inr r) = then_by r.0 (recalls link r.1)

    own : (link : ℕ) → Fewer me n true link b now → (returns_due me n true link now.pending_replies ≡ 0) ⊎ ((is_marked me n (FactKind.LinkSuspended false link) now ≡ false) × OpenOn me n now link)
    own link (inl z) = inl z
    own link (inr k) = go (plain.users link)
      where
        then_by : is_marked me n (FactKind.LinkSuspended false link) b ≡ false → OpenOn me n now link ⊎ (returns_due me n true link now.pending_replies ≡ 0) → (returns_due me n true link now.pending_replies ≡ 0) ⊎ ((is_marked me n (FactKind.LinkSuspended false link) now ≡ false) × OpenOn me n now link)
        then_by m (inl o) = inr (k.1 ∙ m, o)
        then_by m (inr z) = inl z

        go : (returns_due me n true link b.pending_replies ≡ 0) ⊎ ((is_marked me n (FactKind.LinkSuspended false link) b ≡ false) × OpenOn me n b link) → (returns_due me n true link now.pending_replies ≡ 0) ⊎ ((is_marked me n (FactKind.LinkSuspended false link) now ≡ false) × OpenOn me n now link)
        go (inl z) = inl (none (returns_due me n true link now.pending_replies) (returns_due me n true link b.pending_replies) k.0 z)
        go (inr r) = then_by r.0 (opens link r.1)

-- with the same connections
pub plain_conns : (me n : ℕ) (b now : SeenTables) → now.conns ≡ b.conns → ((host : Bool) (link : ℕ) → Fewer me n host link b now) → Plain me n b → Plain me n now
plain_conns me n b now l fewer plain =
    plain_by me n b now
    (λ u e. ap count_of (there u) ∙ plain.unopened u (sym (ap (λ (o : Option ConnState). is_opened (seen o)) (there u)) ∙ e))
    (λ link r. inl (record {
      u = r.u;
      receives = r.receives;
      given = ap (λ (o : Option ConnState). link_given false (seen o)) (there r.u) ∙ r.given;
      recall = ap (λ (o : Option ConnState). (count_of o).recall) (there r.u) ∙ r.recall;
      unclosed = ap (λ (o : Option ConnState). is_closed (seen o)) (there r.u) ∙ r.unclosed;
    }))
    (λ link o. inl (record { u = o.u; sends = o.sends; is = ap (λ (x : Option ConnState). is_open_on true link (seen x)) (there o.u) ∙ o.is }))
    fewer plain
  where
    there : (u : Sockets) → conn_seen me n now u ≡ conn_seen me n b u
    there u = ap (λ (xs : List ConnState). first (is_of_sockets me n u.0 u.1) xs) l

-- ---- dues that are no RETs, or fewer

pub same_fewer : (me n : ℕ) (host : Bool) (link : ℕ) (b now : SeenTables) → returns_due me n host link now.pending_replies ≡ returns_due me n host link b.pending_replies
    → is_marked me n (FactKind.LinkSuspended (not host) link) now ≡ is_marked me n (FactKind.LinkSuspended (not host) link) b → Fewer me n host link b now
same_fewer me n host link b now e m = inr (no_more (returns_due me n host link now.pending_replies) (returns_due me n host link b.pending_replies) e, m)
  where
    no_more : (x y : ℕ) → x ≡ y → x ≤ y
    no_more x y e = omega arith

filter_after_none : (t : PendingReply → Bool) (pending_replies : List PendingReply) (due : PendingReply) → t due ≡ false → length (filter t (pending_replies ++ due ∷ [])) ≡ length (filter t pending_replies)
filter_after_none t [] due k = ap (λ (b : Bool). length (if b then due ∷ [] else [])) k
filter_after_none t (d ∷ pending_replies) due k = go (t d) (filter_after_none t pending_replies due k)
  where
    go : (b : Bool) → length (filter t (pending_replies ++ due ∷ [])) ≡ length (filter t pending_replies) → length (if b then d ∷ filter t (pending_replies ++ due ∷ []) else filter t (pending_replies ++ due ∷ [])) ≡ length (if b then d ∷ filter t pending_replies else filter t pending_replies)
    go true e = ap suc e
    go false e = e

-- one that is no RET
abbrev pub is_ret_wanted : ExpectedReply → Bool
is_ret_wanted (ExpectedReply.Return link messages bits) = true
is_ret_wanted (ExpectedReply.Echo byte) = false
is_ret_wanted (ExpectedReply.Error code or bytes) = false

no_return : (wanted : ExpectedReply) (link : ℕ) → is_ret_wanted wanted ≡ false → is_return_on link wanted ≡ false
no_return (ExpectedReply.Return on messages bits) link e = absurd (cc e)
no_return (ExpectedReply.Echo byte) link e = refl
no_return (ExpectedReply.Error code or bytes) link e = refl

pub plain_due : (me n : ℕ) (b : SeenTables) (due : PendingReply) → is_ret_wanted due.wanted ≡ false → Plain me n b → Plain me n (with_due b due)
plain_due me n b due k plain = go (nat_lt (length b.pending_replies) MAX_TABLE_ROWS)
  where
    with_it : Bool → SeenTables
    with_it x = if x then record b { pending_replies = b.pending_replies ++ due ∷ [] } else record b { full = true }

    none : (host : Bool) (link : ℕ) → is_return me n host link due ≡ false
    none host link = ap (λ (x : Bool). due.at == me && due.peer == n && beq due.host host && x) (no_return due.wanted link k) ∙ three (due.at == me) (due.peer == n) (beq due.host host)
      where
        three : (x y z : Bool) → (x && y && z && false) ≡ false
        three true true true = refl
        three true true false = refl
        three true false z = refl
        three false y z = refl

    go : (x : Bool) → Plain me n (with_it x)
    go true = plain_conns me n b (with_it true) refl (λ host link. same_fewer me n host link b (with_it true) (filter_after_none (is_return me n host link) b.pending_replies due (none host link)) refl) plain
    go false = plain_conns me n b (with_it false) refl (λ host link. same_fewer me n host link b (with_it false) refl refl) plain

pub plain_owed : (me n : ℕ) (flow : ObservedFlow) (wanted : ExpectedReply) (mandatory : Bool) (b : SeenTables) → is_ret_wanted wanted ≡ false → Plain me n b → Plain me n (owes flow wanted mandatory b)
plain_owed me n flow wanted mandatory b k plain = plain_due me n b (record { at = flow.at; peer = flow.peer; host = not flow.sent; wanted = wanted; mandatory = mandatory }) k plain

-- ---- a reply strikes

pub returns_unsure : (me n : ℕ) (host : Bool) (link : ℕ) (own : PendingReply → Bool) (c : Command) (pending_replies : List PendingReply) → returns_due me n host link (map (optional own c) pending_replies) ≡ returns_due me n host link pending_replies
returns_unsure me n host link own c [] = refl
returns_unsure me n host link own c (due ∷ pending_replies) = go (answers own c due) (is_return me n host link due) refl (returns_unsure me n host link own c pending_replies)
  where
    go : (a t : Bool) → is_return me n host link due ≡ t → returns_due me n host link (map (optional own c) pending_replies) ≡ returns_due me n host link pending_replies
        → returns_due me n host link ((if a then record due { mandatory = false } else due) ∷ map (optional own c) pending_replies) ≡ length (if t then due ∷ filter (is_return me n host link) pending_replies else filter (is_return me n host link) pending_replies)
    go true true k e = ap (λ (x : Bool). length (if x then record due { mandatory = false } ∷ filter (is_return me n host link) (map (optional own c) pending_replies) else filter (is_return me n host link) (map (optional own c) pending_replies))) k ∙ ap suc e
    go true false k e = ap (λ (x : Bool). length (if x then record due { mandatory = false } ∷ filter (is_return me n host link) (map (optional own c) pending_replies) else filter (is_return me n host link) (map (optional own c) pending_replies))) k ∙ e
    go false true k e = ap (λ (x : Bool). length (if x then due ∷ filter (is_return me n host link) (map (optional own c) pending_replies) else filter (is_return me n host link) (map (optional own c) pending_replies))) k ∙ ap suc e
    go false false k e = ap (λ (x : Bool). length (if x then due ∷ filter (is_return me n host link) (map (optional own c) pending_replies) else filter (is_return me n host link) (map (optional own c) pending_replies))) k ∙ e

struck_fewer : (t : PendingReply → Bool) (own : PendingReply → Bool) (c : Command) (pending_replies : List PendingReply) → length (filter t (pending_struck own c pending_replies)) ≤ length (filter t pending_replies)
struck_fewer t own c [] = omega arith
struck_fewer t own c (due ∷ pending_replies) = go (t due) refl (own due) (says_wanted due.wanted c) (struck_fewer t own c pending_replies)
  where
    more : (x y : ℕ) → x ≤ y → x ≤ suc y
    more x y e = omega arith

    up : (x y : ℕ) → x ≤ y → suc x ≤ suc y
    up x y e = omega arith

    itself : (x : ℕ) → x ≤ x
    itself x = omega arith

    kept_on : (b : Bool) → t due ≡ b → length (filter t (pending_struck own c pending_replies)) ≤ length (filter t pending_replies) → length (filter t (due ∷ pending_struck own c pending_replies)) ≤ length (if b then due ∷ filter t pending_replies else filter t pending_replies)
    kept_on true k e = subst (λ (b : Bool). length (if b then due ∷ filter t (pending_struck own c pending_replies) else filter t (pending_struck own c pending_replies)) ≤ suc (length (filter t pending_replies))) (sym k) (up (length (filter t (pending_struck own c pending_replies))) (length (filter t pending_replies)) e)
    kept_on false k e = subst (λ (b : Bool). length (if b then due ∷ filter t (pending_struck own c pending_replies) else filter t (pending_struck own c pending_replies)) ≤ length (filter t pending_replies)) (sym k) e

    less : (b : Bool) (x : ℕ) → x ≤ length (filter t pending_replies) → x ≤ length (if b then due ∷ filter t pending_replies else filter t pending_replies)
    less true x e = more x (length (filter t pending_replies)) e
    less false x e = e

    go : (b : Bool) → t due ≡ b → (o s : Bool) → length (filter t (pending_struck own c pending_replies)) ≤ length (filter t pending_replies)
        → length (filter t (if o then if s then pending_replies else pending_struck own c pending_replies else due ∷ pending_struck own c pending_replies)) ≤ length (if b then due ∷ filter t pending_replies else filter t pending_replies)
    go b k true true e = less b (length (filter t pending_replies)) (itself (length (filter t pending_replies)))
    go b k true false e = less b (length (filter t (pending_struck own c pending_replies))) e
    go b k false s e = kept_on b k e

pub left_fewer : (me n : ℕ) (host : Bool) (link : ℕ) (own : PendingReply → Bool) (c : Command) (pending_replies : List PendingReply) → returns_due me n host link (pending_left own c pending_replies) ≤ returns_due me n host link pending_replies
left_fewer me n host link own c pending_replies = go (fits_sure own c pending_replies)
  where
    by : (x y z : ℕ) → x ≤ y → y ≡ z → x ≤ z
    by x y z k e = omega arith

    go : (x : Bool) → returns_due me n host link (if x then pending_struck own c pending_replies else pending_struck own c (map (optional own c) pending_replies)) ≤ returns_due me n host link pending_replies
    go true = struck_fewer (is_return me n host link) own c pending_replies
    go false =
        by (returns_due me n host link (pending_struck own c (map (optional own c) pending_replies))) (returns_due me n host link (map (optional own c) pending_replies)) (returns_due me n host link pending_replies)
        (struck_fewer (is_return me n host link) own c (map (optional own c) pending_replies)) (returns_unsure me n host link own c pending_replies)

pub plain_reply : (me n : ℕ) (flow : ObservedFlow) (c : Command) (b : SeenTables) → Plain me n b → Plain me n (after_reply flow c b)
plain_reply me n flow c b plain = go (is_wanted (is_own flow) c b.pending_replies)
  where
    go : (x : Bool) → Plain me n (if x then record b { pending_replies = pending_left (is_own flow) c b.pending_replies } else b)
    go true = plain_conns me n b (record b { pending_replies = pending_left (is_own flow) c b.pending_replies }) refl (λ host link. inr (left_fewer me n host link (is_own flow) c b.pending_replies, refl)) plain
    go false = plain

-- ---- marks that are no links, and links that come to rest

abbrev pub is_about_links : FactKind → Bool
is_about_links (FactKind.LinkSuspended host link) = true
is_about_links (FactKind.EchoesRest host) = false
is_about_links (FactKind.Asks host) = false
is_about_links (FactKind.Admits host bytes) = false

no_link : (what : FactKind) (host : Bool) (link : ℕ) → is_about_links what ≡ false → same_topic what (FactKind.LinkSuspended host link) ≡ false
no_link (FactKind.LinkSuspended other on) host link e = absurd (cc e)
no_link (FactKind.EchoesRest other) host link e = refl
no_link (FactKind.Asks other) host link e = refl
no_link (FactKind.Admits other bytes) host link e = refl

pub plain_fact : (me n : ℕ) (what : FactKind) (b : SeenTables) → is_about_links what ≡ false → Plain me n b → Plain me n (facts_now me n what b)
plain_fact me n what b k plain =
    plain_conns me n b (facts_now me n what b) (fact_conns me n what b)
    (λ host link. same_fewer me n host link b (facts_now me n what b) (ap (returns_due me n host link) (fact_pending me n what b)) (fact_other me n what (FactKind.LinkSuspended (not host) link) b (no_link what (not host) link k)))
    plain

-- ---- other numbers of an open connection

pub open_opened : (sends : Bool) (link : ℕ) (m : Option Shape) → is_open_on sends link m ≡ true → is_opened m ≡ true
open_opened sends link None e = absurd (cc e)
open_opened sends link (Some s) e = go (is_some s.own && is_some s.others) (not s.left) (is_number_given (link_of sends s) link) e
  where
    go : (a b c : Bool) → (a && b && c) ≡ true → a ≡ true
    go true b c e = refl
    go false b c e = absurd (cc e)

-- the user of a link of the host is the one that was asked back from
pub recalled_conn : (me n : ℕ) (b : SeenTables) (link : ℕ) (u : Sockets) (user : UserAt me n true link b u) → Tidy b → RecalledOn me n b link → (conn_at_index b.conns user.place).recall ≡ true
recalled_conn me n b link u user tidy r = go (conn_seen me n b r.u) refl r.given r.recall
  where
    own_link : (s : Bool) (conn : ConnState) → s ≡ false → (if s then conn.size else conn.link) ≡ Some link → conn.link ≡ Some link
    own_link true conn e g = absurd (cc e)
    own_link false conn e g = g

    not_sends : (s : Bool) → not s ≡ true → s ≡ false
    not_sends true e = absurd (cc e)
    not_sends false e = refl

    go : (o : Option ConnState) → conn_seen me n b r.u ≡ o → link_given false (seen o) ≡ Some link → (count_of o).recall ≡ true → (conn_at_index b.conns user.place).recall ≡ true
    go None s g c = absurd (cc g)
    go (Some conn) s g c =
        let local = (has_sockets me n r.u.0 r.u.1 conn (first_passes (is_of_sockets me n r.u.0 r.u.1) b.conns conn s)).local in
        let other = user_seen me n true link b tidy r.u conn s r.receives (own_link (is_senders conn.local) conn (ap is_senders local ∙ not_sends (is_senders r.u.0) r.receives) g) in
        let same_place : other.place ≡ user.place = cc (sym other.found ∙ user.found) in
        let is : conn ≡ conn_at_index b.conns other.place = cc (sym s ∙ other.seen) in
        ap (λ (i : ℕ). (conn_at_index b.conns i).recall) (sym same_place) ∙ ap (λ (x : ConnState). x.recall) (sym is) ∙ c

module _ (me n : ℕ) (host : Bool) (link : ℕ) (b : SeenTables) (u : Sockets) (user : UserAt me n host link b u) (messages bits : ℕ) (recall came : Bool) (unique : AllUnique me n b) where
  abbrev now : SeenTables
  now = put_conn b (Some user.place) (numbered messages bits recall came (conn_at_index b.conns user.place))

  now_seen : (v : Sockets) → seen_of me n now v ≡ seen_of me n b v
  now_seen v = renumbered_seen me n host link b u user messages bits recall came unique v

  now_count : count_seen me n now u ≡ record { messages = messages; bits = bits; recall = recall }
  now_count = ap count_of (renumbered_here me n host link b u user messages bits recall came unique)

  was_count : count_seen me n b u ≡ count_of (Some (conn_at_index b.conns user.place))
  was_count = ap count_of user.seen

  now_others : (v : Sockets) → same v u ≡ false → count_seen me n now v ≡ count_seen me n b v
  now_others v d = ap count_of (renumbered_others me n host link b u user messages bits recall came v d)

  -- a GVB that had no RET has had none, or it is no link of the host, or no RET is due for it
  pub plain_numbered : is_opened (seen_of me n b u) ≡ true
      → ((conn_at_index b.conns user.place).recall ≡ true → recall ≡ true) ⊎ ((host ≡ false) ⊎ (returns_due me n false link b.pending_replies ≡ 0)) → Plain me n b → Plain me n now
  plain_numbered opened keeps plain = plain_by me n b now unopened recalls opens (λ h l. same_fewer me n h l b now refl refl) plain
    where
      unopened : (v : Sockets) → is_opened (seen_of me n now v) ≡ false → count_seen me n now v ≡ no_count
      unopened v e = go (same v u) refl
        where
          go : (s : Bool) → same v u ≡ s → count_seen me n now v ≡ no_count
          go true s =
              let nay : true ≡ false = sym opened ∙ ap (λ (x : Sockets). is_opened (seen_of me n b x)) (sym (same_is v u s)) ∙ ap is_opened (sym (now_seen v)) ∙ e in absurd (cc nay)
          go false s = now_others v s ∙ plain.unopened v (ap is_opened (sym (now_seen v)) ∙ e)

      opens : (l : ℕ) → OpenOn me n b l → OpenOn me n now l ⊎ (returns_due me n true l now.pending_replies ≡ 0)
      opens l o = inl (record { u = o.u; sends = o.sends; is = ap (is_open_on true l) (now_seen o.u) ∙ o.is })

      still : (l : ℕ) (r : RecalledOn me n b l) → (count_seen me n now r.u).recall ≡ true → RecalledOn me n now l
      still l r c = record {
        u = r.u;
        receives = r.receives;
        given = ap (link_given false) (now_seen r.u) ∙ r.given;
        recall = c;
        unclosed = ap is_closed (now_seen r.u) ∙ r.unclosed;
      }

      own_link : (s : Bool) (conn : ConnState) → s ≡ false → (if s then conn.size else conn.link) ≡ conn.link
      own_link true conn e = absurd (cc e)
      own_link false conn e = refl

      not_sends : (s : Bool) → not s ≡ true → s ≡ false
      not_sends true e = absurd (cc e)
      not_sends false e = refl

      recalls : (l : ℕ) → RecalledOn me n b l → RecalledOn me n now l ⊎ (returns_due me n false l now.pending_replies ≡ 0)
      recalls l r = go (same r.u u) refl keeps
        where
          at_u : same r.u u ≡ true → r.u ≡ u
          at_u s = same_is r.u u s

          same_recall : same r.u u ≡ true → (conn_at_index b.conns user.place).recall ≡ true
          same_recall s = ap (λ (c : Count). c.recall) (sym was_count) ∙ ap (λ (x : Sockets). (count_seen me n b x).recall) (sym (at_u s)) ∙ r.recall

          its_link : same r.u u ≡ true → l ≡ link
          its_link s =
              let its : receives_at u ≡ true = ap receives_at (sym (at_u s)) ∙ r.receives in
              let given : link_given false (seen_of me n b u) ≡ Some l = ap (λ (x : Sockets). link_given false (seen_of me n b x)) (sym (at_u s)) ∙ r.given in
              let conn_given : link_given false (seen_of me n b u) ≡ Some link =
              ap (λ (o : Option ConnState). link_given false (seen o)) user.seen
              ∙ own_link (is_senders (conn_at_index b.conns user.place).local) (conn_at_index b.conns user.place) (ap is_senders user.sockets.local ∙ not_sends (is_senders u.0) its)
              ∙ user.given in
              cc (sym given ∙ conn_given)

          go : (s : Bool) → same r.u u ≡ s → ((conn_at_index b.conns user.place).recall ≡ true → recall ≡ true) ⊎ ((host ≡ false) ⊎ (returns_due me n false link b.pending_replies ≡ 0)) → RecalledOn me n now l ⊎ (returns_due me n false l now.pending_replies ≡ 0)
          go false s k = inl (still l r (ap (λ (c : Count). c.recall) (now_others r.u s) ∙ r.recall))
          go true s (inl k) = inl (still l r (ap (λ (x : Sockets). (count_seen me n now x).recall) (at_u s) ∙ ap (λ (c : Count). c.recall) now_count ∙ k (same_recall s)))
          go true s (inr (inl h)) = let nay : true ≡ false = sym (ap receives_at (sym (at_u s)) ∙ r.receives) ∙ user.receives ∙ h in absurd (cc nay)
          go true s (inr (inr z)) = inr (ap (λ (x : ℕ). returns_due me n false x b.pending_replies) (its_link s) ∙ z)

-- ---- a RET is due

filter_after_one : (t : PendingReply → Bool) (pending_replies : List PendingReply) (due : PendingReply) → length (filter t pending_replies) ≡ 0 → length (filter t (pending_replies ++ due ∷ [])) ≤ 1
filter_after_one t [] due e = go (t due)
  where
    go : (b : Bool) → length (if b then due ∷ [] else []) ≤ 1
    go true = omega arith
    go false = omega arith
filter_after_one t (d ∷ pending_replies) due e = go (t d) (filter_after_one t pending_replies due) e
  where
    go : (b : Bool) → (length (filter t pending_replies) ≡ 0 → length (filter t (pending_replies ++ due ∷ [])) ≤ 1) → length (if b then d ∷ filter t pending_replies else filter t pending_replies) ≡ 0 → length (if b then d ∷ filter t (pending_replies ++ due ∷ []) else filter t (pending_replies ++ due ∷ [])) ≤ 1
    go true rest e = absurd (cc e)
    go false rest e = rest e

-- of the other, after a GVB of the host: none was due
pub plain_their_return : (me n : ℕ) (b : SeenTables) (link : ℕ) (due : PendingReply) → due.host ≡ false → ((l : ℕ) → is_return_on l due.wanted ≡ (link == l)) → returns_due me n false link b.pending_replies ≡ 0 → RecalledOn me n b link → Plain me n b → Plain me n (with_due b due)
plain_their_return me n b link due h on z r plain = go (nat_lt (length b.pending_replies) MAX_TABLE_ROWS)
  where
    with_it : Bool → SeenTables
    with_it x = if x then record b { pending_replies = b.pending_replies ++ due ∷ [] } else record b { full = true }

    recalled_still : (l : ℕ) → RecalledOn me n b l → RecalledOn me n (with_it true) l
    recalled_still l r = record { u = r.u; receives = r.receives; given = r.given; recall = r.recall; unclosed = r.unclosed }

    open_still : (l : ℕ) → OpenOn me n b l → OpenOn me n (with_it true) l
    open_still l o = record { u = o.u; sends = o.sends; is = o.is }

    three : (x y z : Bool) → z ≡ false → (x && y && z) ≡ false
    three true true z e = e
    three true false z e = refl
    three false y z e = refl

    not_own : (l : ℕ) → is_return me n true l due ≡ false
    not_own l = two (due.at == me && due.peer == n && beq due.host true) (is_return_on l due.wanted) (three (due.at == me) (due.peer == n) (beq due.host true) (ap (λ (x : Bool). beq x true) h))
      where
        two : (x y : Bool) → x ≡ false → (x && y) ≡ false
        two true y e = absurd (cc e)
        two false y e = refl

    other_link : (l : ℕ) → (link == l) ≡ false → is_return me n false l due ≡ false
    other_link l e = two (due.at == me && due.peer == n && beq due.host false) (is_return_on l due.wanted) (on l ∙ e)
      where
        two : (x y : Bool) → y ≡ false → (x && y) ≡ false
        two true y e = e
        two false y e = refl

    theirs : (l : ℕ) → is_marked me n (FactKind.LinkSuspended true l) b ≡ false → (x : Bool) → (link == l) ≡ x → (returns_due me n false l (b.pending_replies ++ due ∷ []) ≡ 0) ⊎ ((returns_due me n false l (b.pending_replies ++ due ∷ []) ≤ 1) × RecalledOn me n (with_it true) l)
    theirs l m true e =
        let is : link ≡ l = eqb-true link l e in
        inr (filter_after_one (is_return me n false l) b.pending_replies due (ap (λ (i : ℕ). returns_due me n false i b.pending_replies) (sym is) ∙ z), recalled_still l (subst (RecalledOn me n b) is r))
    theirs l m false e = by (plain.recalled l m)
      where
        same_count : returns_due me n false l (b.pending_replies ++ due ∷ []) ≡ returns_due me n false l b.pending_replies
        same_count = filter_after_none (is_return me n false l) b.pending_replies due (other_link l e)

        most : (x y : ℕ) → x ≡ y → y ≤ 1 → x ≤ 1
        most x y k j = omega arith

        by : (returns_due me n false l b.pending_replies ≡ 0) ⊎ ((returns_due me n false l b.pending_replies ≤ 1) × RecalledOn me n b l) → (returns_due me n false l (b.pending_replies ++ due ∷ []) ≡ 0) ⊎ ((returns_due me n false l (b.pending_replies ++ due ∷ []) ≤ 1) × RecalledOn me n (with_it true) l)
        by (inl k) = inl (same_count ∙ k)
        by (inr k) = inr (most (returns_due me n false l (b.pending_replies ++ due ∷ [])) (returns_due me n false l b.pending_replies) same_count k.0, recalled_still l k.1)

    owns : (l : ℕ) → (returns_due me n true l b.pending_replies ≡ 0) ⊎ ((is_marked me n (FactKind.LinkSuspended false l) b ≡ false) × OpenOn me n b l)
        → (returns_due me n true l (b.pending_replies ++ due ∷ []) ≡ 0) ⊎ ((is_marked me n (FactKind.LinkSuspended false l) b ≡ false) × OpenOn me n (with_it true) l)
    owns l (inl k) = inl (filter_after_none (is_return me n true l) b.pending_replies due (not_own l) ∙ k)
    owns l (inr k) = inr (k.0, open_still l k.1)

    go : (x : Bool) → Plain me n (with_it x)
    go true = record { unopened = plain.unopened; recalled = λ l m. theirs l m (link == l) refl; users = λ l. owns l (plain.users l) }
    go false = plain_conns me n b (with_it false) refl (λ host l. same_fewer me n host l b (with_it false) refl refl) plain

-- of the host, after a GVB of the other on a link whose connection it has not closed
pub plain_own_return : (me n : ℕ) (b : SeenTables) (link : ℕ) (due : PendingReply) → due.host ≡ true → ((l : ℕ) → is_return_on l due.wanted ≡ (link == l)) → is_marked me n (FactKind.LinkSuspended false link) b ≡ false → OpenOn me n b link → Plain me n b → Plain me n (with_due b due)
plain_own_return me n b link due h on m o plain = go (nat_lt (length b.pending_replies) MAX_TABLE_ROWS)
  where
    with_it : Bool → SeenTables
    with_it x = if x then record b { pending_replies = b.pending_replies ++ due ∷ [] } else record b { full = true }

    recalled_still : (l : ℕ) → RecalledOn me n b l → RecalledOn me n (with_it true) l
    recalled_still l r = record { u = r.u; receives = r.receives; given = r.given; recall = r.recall; unclosed = r.unclosed }

    open_still : (l : ℕ) → OpenOn me n b l → OpenOn me n (with_it true) l
    open_still l o = record { u = o.u; sends = o.sends; is = o.is }

    three : (x y z : Bool) → z ≡ false → (x && y && z) ≡ false
    three true true z e = e
    three true false z e = refl
    three false y z e = refl

    not_theirs : (l : ℕ) → is_return me n false l due ≡ false
    not_theirs l = two (due.at == me && due.peer == n && beq due.host false) (is_return_on l due.wanted) (three (due.at == me) (due.peer == n) (beq due.host false) (ap (λ (x : Bool). beq x false) h))
      where
        two : (x y : Bool) → x ≡ false → (x && y) ≡ false
        two true y e = absurd (cc e)
        two false y e = refl

    other_link : (l : ℕ) → (link == l) ≡ false → is_return me n true l due ≡ false
    other_link l e = two (due.at == me && due.peer == n && beq due.host true) (is_return_on l due.wanted) (on l ∙ e)
      where
        two : (x y : Bool) → y ≡ false → (x && y) ≡ false
        two true y e = e
        two false y e = refl

    same_count : (l : ℕ) → returns_due me n false l (b.pending_replies ++ due ∷ []) ≡ returns_due me n false l b.pending_replies
    same_count l = filter_after_none (is_return me n false l) b.pending_replies due (not_theirs l)

    most : (x y : ℕ) → x ≡ y → y ≤ 1 → x ≤ 1
    most x y k j = omega arith

    theirs : (l : ℕ) → (returns_due me n false l b.pending_replies ≡ 0) ⊎ ((returns_due me n false l b.pending_replies ≤ 1) × RecalledOn me n b l) → (returns_due me n false l (b.pending_replies ++ due ∷ []) ≡ 0) ⊎ ((returns_due me n false l (b.pending_replies ++ due ∷ []) ≤ 1) × RecalledOn me n (with_it true) l)
    theirs l (inl k) = inl (same_count l ∙ k)
    theirs l (inr k) = inr (most (returns_due me n false l (b.pending_replies ++ due ∷ [])) (returns_due me n false l b.pending_replies) (same_count l) k.0, recalled_still l k.1)

    owns : (l : ℕ) → (x : Bool) → (link == l) ≡ x → (returns_due me n true l (b.pending_replies ++ due ∷ []) ≡ 0) ⊎ ((is_marked me n (FactKind.LinkSuspended false l) b ≡ false) × OpenOn me n (with_it true) l)
    owns l true e =
        let is : link ≡ l = eqb-true link l e in
        inr (ap (λ (i : ℕ). is_marked me n (FactKind.LinkSuspended false i) b) (sym is) ∙ m, open_still l (subst (OpenOn me n b) is o))
    owns l false e = by (plain.users l)
      where
        by : (returns_due me n true l b.pending_replies ≡ 0) ⊎ ((is_marked me n (FactKind.LinkSuspended false l) b ≡ false) × OpenOn me n b l) → (returns_due me n true l (b.pending_replies ++ due ∷ []) ≡ 0) ⊎ ((is_marked me n (FactKind.LinkSuspended false l) b ≡ false) × OpenOn me n (with_it true) l)
        by (inl k) = inl (filter_after_none (is_return me n true l) b.pending_replies due (other_link l e) ∙ k)
        by (inr k) = inr (k.0, open_still l k.1)

    go : (x : Bool) → Plain me n (with_it x)
    go true = record { unopened = plain.unopened; recalled = λ l k. theirs l (plain.recalled l k); users = λ l. owns l (link == l) refl }
    go false = plain_conns me n b (with_it false) refl (λ host l. same_fewer me n host l b (with_it false) refl refl) plain
