-- Between two hosts nothing is ever full: the tables hold only entries between the two, an ECO is
-- recorded once, and one message is kept for each link. So if the entries are few, there is room for
-- those that one record adds.
use Rattle.std.proofs.Common.{◌≡◌, ℕ, zero, suc, ◌+◌, ◌<◌, ◌≤◌, ◌==◌, Bool, true, false, ◌&&◌, if◌then◌else◌, List, [], ◌∷◌, length, ◌⊎◌, inl, inr, eq-eqb, refl, sym, ap, ◌∙◌, arith}
use Rattle.std.specs.Prelude.{nat_lt}
use Rattle.std.specs.List.{filter}
use Rattle.std.proofs.lemmas.Bool.{and_parts}
use Rattle.std.proofs.lemmas.Bool.Decides.{nat_tests}
use Rattle.ncp_subnet.specs.Ways.{OnLink}
use Rattle.ncp_monitor.specs.declared.pending_reply.PendingReply.{PendingReply}
use Rattle.ncp_interface.specs.declared.sent_message.SentMessage.{SentMessage}
use Rattle.ncp_monitor.specs.declared.conn_state.ConnState.{ConnState}
use Rattle.ncp_monitor.specs.declared.conn_state.Fact.{Fact}
use Rattle.ncp_interface.specs.declared.sent_messages.TheConstants.{MAX_KEPT}
use Rattle.ncp_monitor.specs.declared.monitor.Monitor.{Monitor}
use Rattle.ncp_interface.specs.declared.imp_direction.ImpDirection.{ImpDirection}
use Rattle.ncp_interface.specs.Events.{event_of}
use Rattle.ncp_monitor.specs.ConnStates.{SeenTables, is_conn_between, is_fact_between, is_due_between}
use Rattle.ncp_interface.specs.Slots.{is_of}
use Rattle.ncp_monitor.specs.Judged.{new_monitor, record_findings, after_record}
use Rattle.ncp_proof_monitor_host.proofs.Spoken.{Clear}
use Rattle.ncp_proof_monitor_messages.proofs.Tells.{Tells}
use Rattle.ncp_proof_follow_tables.proofs.GrowsBooks.{HasPlaces, AskedOnce}
use Rattle.ncp_proof_follow.proofs.GrowsRecord.{EachKept, IsOfTwo, IsBetween, Widens, record_widens}

-- ---- counts of what passes a test

-- what passes the one passes one of two others
either_length : {A : Type 0} (p q r : A → Bool) → ((x : A) → p x ≡ true → (q x ≡ true) ⊎ (r x ≡ true)) → (xs : List A) → length (filter p xs) ≤ length (filter q xs) + length (filter r xs)
either_length p q r f [] = omega arith
either_length {A} p q r f (x ∷ xs) = go (p x) refl (q x) refl (r x) refl (either_length p q r f xs)
  where
    a : ℕ
    a = length (filter p xs)

    go : (b : Bool) → p x ≡ b → (c : Bool) → q x ≡ c → (d : Bool) → r x ≡ d → length (filter p xs) ≤ length (filter q xs) + length (filter r xs)
        → length (if b then x ∷ filter p xs else filter p xs) ≤ length (if c then x ∷ filter q xs else filter q xs) + length (if d then x ∷ filter r xs else filter r xs)
    go true i true j true k e = omega (arith, e)
    go true i true j false k e = omega (arith, e)
    go true i false j true k e = omega (arith, e)
    go true i false j false k e = absurd (none (f x i))
      where
        none : (q x ≡ true) ⊎ (r x ≡ true) → ⊥
        none (inl y) = let no : true ≡ false = sym y ∙ j in cc no
        none (inr y) = let no : true ≡ false = sym y ∙ k in cc no
    go false i true j true k e = omega (arith, e)
    go false i true j false k e = omega (arith, e)
    go false i false j true k e = omega (arith, e)
    go false i false j false k e = e

-- where nothing is between others, all is between the two
pub two_length : {A : Type 0} (at peer : A → ℕ) (a b : ℕ) (xs : List A) → ((me n : ℕ) → (me == a && n == b) ≡ false → (me == b && n == a) ≡ false → filter (λ x. at x == me && peer x == n) xs ≡ [])
    → length xs ≤ length (filter (λ x. at x == a && peer x == b) xs) + length (filter (λ x. at x == b && peer x == a) xs)
two_length at peer a b [] none = omega arith
two_length {A} at peer a b (x ∷ xs) none = go (at x == a && peer x == b) refl (at x == b && peer x == a) refl (two_length at peer a b xs fewer)
  where
    between : ℕ → ℕ → A → Bool
    between me n y = at y == me && peer y == n

    fewer : (me n : ℕ) → (me == a && n == b) ≡ false → (me == b && n == a) ≡ false → filter (λ y. at y == me && peer y == n) xs ≡ []
    fewer me n d o = by (between me n x) (none me n d o)
      where
        by : (y : Bool) → (if y then x ∷ filter (λ y. at y == me && peer y == n) xs else filter (λ y. at y == me && peer y == n) xs) ≡ [] → filter (λ y. at y == me && peer y == n) xs ≡ []
        by true e = absurd (cc e)
        by false e = e

    itself : between (at x) (peer x) x ≡ true
    itself = ap (λ (y : Bool). y && (peer x == peer x)) (eq-eqb (at x) (at x) refl) ∙ eq-eqb (peer x) (peer x) refl

    go : (c : Bool) → (at x == a && peer x == b) ≡ c → (d : Bool) → (at x == b && peer x == a) ≡ d
        → length xs ≤ length (filter (λ x. at x == a && peer x == b) xs) + length (filter (λ x. at x == b && peer x == a) xs)
        → suc (length xs) ≤ length (if c then x ∷ filter (λ x. at x == a && peer x == b) xs else filter (λ x. at x == a && peer x == b) xs) + length (if d then x ∷ filter (λ x. at x == b && peer x == a) xs else filter (λ x. at x == b && peer x == a) xs)
    go true i true j e = omega (arith, e)
    go true i false j e = omega (arith, e)
    go false i true j e = omega (arith, e)
    go false i false j e =
        let found : (if between (at x) (peer x) x then x ∷ filter (λ y. at y == at x && peer y == peer x) xs else filter (λ y. at y == at x && peer y == peer x) xs) ≡ [] = none (at x) (peer x) i j in
        let nay : x ∷ filter (λ y. at y == at x && peer y == peer x) xs ≡ [] =
        sym (ap (λ (y : Bool). if y then x ∷ filter (λ y. at y == at x && peer y == peer x) xs else filter (λ y. at y == at x && peer y == peer x) xs) itself) ∙ found in absurd (cc nay)

-- ---- messages that are kept

-- one for each of the first `n` links
few_links : (from to : ℕ) (kept : List SentMessage) → ((on : ℕ) → length (filter (is_of from to on) kept) ≤ 1) → (n : ℕ) → length (filter (λ k. k.from == from && k.to == to && nat_lt k.link n) kept) ≤ n
few_links from to kept one zero = none kept
  where
    below : (x : ℕ) → nat_lt x 0 ≡ false
    below x = grind (arith, nat_tests)

    none : (kept : List SentMessage) → length (filter (λ k. k.from == from && k.to == to && nat_lt k.link 0) kept) ≤ 0
    none [] = omega arith
    none (k ∷ kept) = go (k.from == from && k.to == to) (nat_lt k.link 0) (below k.link) (none kept)
      where
        go : (x y : Bool) → y ≡ false → length (filter (λ k. k.from == from && k.to == to && nat_lt k.link 0) kept) ≤ 0
            → length (if x && y then k ∷ filter (λ k. k.from == from && k.to == to && nat_lt k.link 0) kept else filter (λ k. k.from == from && k.to == to && nat_lt k.link 0) kept) ≤ 0
        go true true e l = absurd (cc e)
        go true false e l = l
        go false y e l = l
few_links from to kept one (suc n) =
    let rest = few_links from to kept one n in
    let last = one n in
    let all = either_length (λ k. k.from == from && k.to == to && nat_lt k.link (suc n)) (λ k. k.from == from && k.to == to && nat_lt k.link n) (is_of from to n) which kept in
    omega (arith, rest, last, all)
  where
    or_last : (x : ℕ) → nat_lt x (suc n) ≡ true → nat_lt x n ≡ false → (x == n) ≡ true
    or_last x e f = grind (arith, nat_tests)

    which : (k : SentMessage) → (k.from == from && k.to == to && nat_lt k.link (suc n)) ≡ true → ((k.from == from && k.to == to && nat_lt k.link n) ≡ true) ⊎ (is_of from to n k ≡ true)
    which k e = go (nat_lt k.link n) refl
      where
        parts : ((k.from == from && k.to == to) ≡ true) × (nat_lt k.link (suc n) ≡ true)
        parts = and_parts (k.from == from && k.to == to) (nat_lt k.link (suc n)) e

        go : (y : Bool) → nat_lt k.link n ≡ y → ((k.from == from && k.to == to && nat_lt k.link n) ≡ true) ⊎ (is_of from to n k ≡ true)
        go true f = inl (ap (λ (z : Bool). z && nat_lt k.link n) parts.0 ∙ f)
        go false f = inr (ap (λ (z : Bool). z && (k.link == n)) parts.0 ∙ or_last k.link parts.1 f)

-- all are of the two
all_of_two : (a b : ℕ) (kept : List SentMessage) → EachKept (IsOfTwo a b) kept
    → length kept ≤ length (filter (λ k. k.from == a && k.to == b && nat_lt k.link 256) kept) + length (filter (λ k. k.from == b && k.to == a && nat_lt k.link 256) kept)
all_of_two a b [] e = omega arith
all_of_two a b (k ∷ kept) (h, e) =
    go (k.from == a && k.to == b && nat_lt k.link 256) refl (k.from == b && k.to == a && nat_lt k.link 256) refl (all_of_two a b kept e)
  where
    under : (x : ℕ) → x < 256 → nat_lt x 256 ≡ true
    under x l = grind (arith, nat_tests)

    so : (from to : ℕ) → k.from ≡ from → k.to ≡ to → (k.from == from && k.to == to && nat_lt k.link 256) ≡ true
    so from to i j =
        ap (λ (x : Bool). x && (k.to == to) && nat_lt k.link 256) (eq-eqb k.from from i) ∙ ap (λ (x : Bool). x && nat_lt k.link 256) (eq-eqb k.to to j) ∙ under k.link h.1

    go : (c : Bool) → (k.from == a && k.to == b && nat_lt k.link 256) ≡ c → (d : Bool) → (k.from == b && k.to == a && nat_lt k.link 256) ≡ d
        → length kept ≤ length (filter (λ k. k.from == a && k.to == b && nat_lt k.link 256) kept) + length (filter (λ k. k.from == b && k.to == a && nat_lt k.link 256) kept)
        → suc (length kept) ≤ length (if c then k ∷ filter (λ k. k.from == a && k.to == b && nat_lt k.link 256) kept else filter (λ k. k.from == a && k.to == b && nat_lt k.link 256) kept)
        + length (if d then k ∷ filter (λ k. k.from == b && k.to == a && nat_lt k.link 256) kept else filter (λ k. k.from == b && k.to == a && nat_lt k.link 256) kept)
    go true i true j l = omega (arith, l)
    go true i false j l = omega (arith, l)
    go false i true j l = omega (arith, l)
    go false i false j l = absurd (none h.0)
      where
        none : ((k.from ≡ a) × (k.to ≡ b)) ⊎ ((k.from ≡ b) × (k.to ≡ a)) → ⊥
        none (inl y) = let no : true ≡ false = sym (so a b y.0 y.1) ∙ i in cc no
        none (inr y) = let no : true ≡ false = sym (so b a y.0 y.1) ∙ j in cc no

told_one : (t : OnLink) (kept : List SentMessage) → Tells t kept → length kept ≤ 1
told_one t [] h = omega arith
told_one t (k ∷ []) h = omega arith
told_one t (k ∷ other ∷ more) h = absurd h

-- if the subnet's state is known for each link, at most two messages are kept for each link
pub kept_few : (a b : ℕ) (going coming : ℕ → OnLink) (monitor : Monitor) → ((on : ℕ) → Tells (going on) (filter (is_of a b on) monitor.kept)) → ((on : ℕ) → Tells (coming on) (filter (is_of b a on) monitor.kept))
    → EachKept (IsOfTwo a b) monitor.kept → length monitor.kept ≤ 512
kept_few a b going coming monitor g c e =
    let x = few_links a b monitor.kept (λ on. told_one (going on) (filter (is_of a b on) monitor.kept) (g on)) 256 in
    let y = few_links b a monitor.kept (λ on. told_one (coming on) (filter (is_of b a on) monitor.kept) (c on)) 256 in
    let z = all_of_two a b monitor.kept e in
    omega (arith, x, y, z)

-- ---- facts about all records, besides those about the two hosts

pub record OnlyTwoHosts (a b : ℕ) (monitor : Monitor) : Type 0 where
  pub once : AskedOnce monitor.conn_tables
  pub others : (me n : ℕ) → (me == a && n == b) ≡ false → (me == b && n == a) ≡ false → Clear me n monitor.conn_tables
  pub each : EachKept (IsOfTwo a b) monitor.kept

pub tame_new : (a b : ℕ) → OnlyTwoHosts a b (new_monitor false)
tame_new a b = record { once = λ at peer host. tt; others = λ me n d o. (refl, (refl, refl)); each = tt }

pub tame_widens : (a b : ℕ) (monitor now : Monitor) → Widens a b monitor now → OnlyTwoHosts a b monitor → OnlyTwoHosts a b now
tame_widens a b monitor now w t = record {
  once = w.conn_tables.once t.once;
  others = λ me n d o. let k = w.others me n d o in let c = t.others me n d o in (k.conns ∙ c.0, (k.known_facts ∙ c.1.0, k.pending_replies ∙ c.1.1));
  each = w.each t.each;
}

-- ---- where little is between the two, there is room

-- between two hosts
pub record FewBetween (me n : ℕ) (b : SeenTables) : Type 0 where
  pub conns : length (filter (is_conn_between me n) b.conns) ≤ 1800
  pub known_facts : length (filter (is_fact_between me n) b.known_facts) ≤ 1800
  pub pending_replies : length (filter (is_due_between me n) b.pending_replies) ≤ 1800

pub record Roomy (monitor : Monitor) : Type 0 where
  pub conn_tables : HasPlaces 363 monitor.conn_tables
  pub kept : length monitor.kept + 1 ≤ MAX_KEPT
  pub unfilled : monitor.full ≡ false

pub has_room_now : (a b : ℕ) (monitor : Monitor) → OnlyTwoHosts a b monitor → FewBetween a b monitor.conn_tables → FewBetween b a monitor.conn_tables → length monitor.kept ≤ 512 → monitor.full ≡ false → monitor.conn_tables.full ≡ false → Roomy monitor
has_room_now a b monitor t x y k f g =
    let conn_tables = monitor.conn_tables in
    let l = two_length (λ (conn : ConnState). conn.at) (λ (conn : ConnState). conn.peer) a b conn_tables.conns (λ me n d o. (t.others me n d o).0) in
    let m = two_length (λ (mark : Fact). mark.at) (λ (mark : Fact). mark.peer) a b conn_tables.known_facts (λ me n d o. (t.others me n d o).1.0) in
    let d = two_length (λ (due : PendingReply). due.at) (λ (due : PendingReply). due.peer) a b conn_tables.pending_replies (λ me n d o. (t.others me n d o).1.1) in
    let xl = x.conns in let xm = x.known_facts in let xd = x.pending_replies in let yl = y.conns in let ym = y.known_facts in let yd = y.pending_replies in
    record {
      conn_tables = record { conns = omega (arith, l, xl, yl); known_facts = omega (arith, m, xm, ym); pending_replies = omega (arith, d, xd, yd); unfilled = g };
      kept = omega (arith, k);
      unfilled = f;
    }

-- and after one record nothing is full
pub stays_open : (a b : ℕ) (monitor : Monitor) (way : ImpDirection) (at : ℕ) (bits : List Bool) → IsBetween a b at (event_of way at bits) → record_findings monitor way at bits ≡ [] → Roomy monitor
    → ((after_record monitor way at bits).full ≡ false) × ((after_record monitor way at bits).conn_tables.full ≡ false)
stays_open a b monitor way at bits i v r = let w = record_widens a b monitor way at bits i v in (w.unfilled r.unfilled r.kept, w.conn_tables.unfilled r.conn_tables)
