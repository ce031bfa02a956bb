-- Further facts, besides those about two hosts: the tables hold only entries between the two, few of
-- them, and nothing is full. So there is room for one more record, and nothing is full after it.
use Rattle.std.proofs.Common.{◌≡◌, ℕ, ◌+◌, ◌*◌, ◌<◌, ◌≤◌, ◌==◌, Bool, true, false, not, ◌&&◌, if◌then◌else◌, List, [], ◌∷◌, ◌++◌, length, ◌⊎◌, inl, inr, refl, sym, ◌∙◌, subst, arith}
use Rattle.std.specs.Prelude.{Result, Ok}
use Rattle.ncp_leader.specs.declared.leader.Leader.{Leader}
use Rattle.ncp_leader.specs.declared.leader.Short.{Short}
use Rattle.ncp_leader.specs.Leader.{leader_in}
use Rattle.ncp_wire.specs.declared.command.Command.{Command}
use Rattle.ncp_subnet.specs.Subnet.{transit_at}
use Rattle.ncp_transcript_two.specs.Between.{Hosts}
use Rattle.ncp_transcript_two.specs.Seen.{seen}
use Rattle.ncp_transcript_two.proofs.SeenRuns.{counterpart}
use Rattle.ncp_interface.specs.declared.event.InterfaceEvent.{InterfaceEvent}
use Rattle.ncp_monitor.specs.declared.finding.Finding.{Finding}
use Rattle.ncp_interface.specs.declared.sent_message.SentMessage.{SentMessage}
use Rattle.ncp_monitor.specs.declared.monitor.Monitor.{Monitor}
use Rattle.ncp_interface.specs.declared.imp_direction.ImpDirection.{ImpDirection}
use Rattle.ncp_interface.specs.declared.imp_direction.ImpDirection.TheVariants.{ToImp, FromImp}
use Rattle.ncp_interface.specs.Events.{is_answer, event_after, event_of}
use Rattle.ncp_monitor.specs.ConnStates.{SeenTables}
use Rattle.ncp_monitor.specs.Judged.{record_findings, after_record}
use Rattle.ncp_monitor.proofs.Passing.{Pass}
use Rattle.ncp_proof_monitor_messages.proofs.Counts.{line}
use Rattle.ncp_proof_monitor_network.proofs.Said.{Said}
use Rattle.ncp_proof_monitor_network.proofs.SessionInvariants.{Known, turn_known}
use Rattle.ncp_proof_monitor_network.proofs.ReadAs.{ReadAs}
use Rattle.ncp_proof_monitor_network.proofs.WholeWalk.{never}
use Rattle.ncp_proof_follow_tables.proofs.GrowsBooks.{AskedOnce}
use Rattle.ncp_proof_follow.proofs.GrowsRecord.{IsBetween, IsOfTwo, EachKept, record_widens, leader_link}
use Rattle.ncp_proof_follow.proofs.NeverFull.{OnlyTwoHosts, tame_widens, FewBetween, Roomy, has_room_now, kept_few, stays_open}
use Rattle.ncp_proof_follow.proofs.Fewer.{lives_at, others_in, Fewer, turn_fewer}
use Rattle.ncp_proof_follow.proofs.FewHeld.{few_pending, few_marks}

-- ---- further facts, besides those about both hosts

pub record Holding (w : Hosts) (monitor : Monitor) : Type 0 where
  pub tame : OnlyTwoHosts w.number_a w.number_b monitor
  pub fewer : Fewer w monitor
  pub unfilled : monitor.full ≡ false
  pub open_books : monitor.conn_tables.full ≡ false

pub turn_holding : (w : Hosts) (monitor : Monitor) → Holding w monitor → Holding (counterpart w) monitor
turn_holding w monitor h = record {
  tame = record { once = h.tame.once; others = λ me n d o. h.tame.others me n o d; each = each monitor.kept h.tame.each };
  fewer = turn_fewer w monitor h.fewer;
  unfilled = h.unfilled;
  open_books = h.open_books;
}
  where
    swapped : {P Q : Type 0} → P ⊎ Q → Q ⊎ P
    swapped (inl p) = inr p
    swapped (inr q) = inl q

    each : (kept : List SentMessage) → EachKept (IsOfTwo w.number_a w.number_b) kept → EachKept (IsOfTwo w.number_b w.number_a) kept
    each [] e = tt
    each (k ∷ kept) (h, e) = ((swapped h.0, h.1), each kept e)

-- both
abbrev pub Held : Hosts → Monitor → Type 0
Held w monitor = Known w monitor × Holding w monitor

pub turn_held : (w : Hosts) (monitor : Monitor) → Held w monitor → Held (counterpart w) monitor
turn_held w monitor k = (turn_known w monitor k.0, turn_holding w monitor k.1)

-- ---- so there is room

few_of : (me n : ℕ) (b : SeenTables) (x : Said) → ReadAs me n b x → AskedOnce b → lives_at me n b ≤ 1240 → FewBetween me n b
few_of me n b x r once l =
    let d = few_pending me n b x r in
    let m = few_marks me n b x r (once me n) in
    record { conns = omega (arith, l); known_facts = omega (arith, m); pending_replies = omega (arith, d, l) }

pub room_of : (w : Hosts) (monitor : Monitor) → Held w monitor → Roomy monitor
room_of w monitor (k, h) =
    let p = k.1.parley h.unfilled h.open_books in
    let t = h.fewer.this in
    let u = h.fewer.that in
    has_room_now w.number_a w.number_b monitor h.tame (few_of w.number_a w.number_b monitor.conn_tables p.session.x p.session.at_h h.tame.once (omega (arith, t)))
    (few_of w.number_b w.number_a monitor.conn_tables p.session.y p.session.at_k h.tame.once (omega (arith, u)))
    (kept_few w.number_a w.number_b (λ on. transit_at w.subnet w.number_a w.number_b on) (λ on. transit_at w.subnet w.number_b w.number_a on) monitor (k.0.ways.going.tells h.unfilled) (k.0.ways.coming.tells h.unfilled) h.tame.each)
    h.unfilled h.open_books

-- ---- one record

-- what is seen of it is between the two
pub between_of : (a b at peer : ℕ) (way : ImpDirection) (bits : List Bool) (leader : Leader) → leader_in bits ≡ Ok leader → leader.host ≡ peer → ((at ≡ a) × (peer ≡ b)) ⊎ ((at ≡ b) × (peer ≡ a)) → IsBetween a b at (event_of way at bits)
between_of a b at peer way bits leader e h two = subst (λ (r : Result Leader Short). IsBetween a b at (event_after way at r)) (sym e) (by way)
  where
    its : (((at ≡ a) × (leader.host ≡ b)) ⊎ ((at ≡ b) × (leader.host ≡ a))) × (leader.link < 256)
    its = (there two, leader_link bits leader e)
      where
        there : ((at ≡ a) × (peer ≡ b)) ⊎ ((at ≡ b) × (peer ≡ a)) → ((at ≡ a) × (leader.host ≡ b)) ⊎ ((at ≡ b) × (leader.host ≡ a))
        there (inl x) = inl (x.0, h ∙ x.1)
        there (inr x) = inr (x.0, h ∙ x.1)

    goes : (q x y : Bool) → IsBetween a b at (if q then InterfaceEvent.Nothing else if x then InterfaceEvent.Own leader.kind leader.link else if y then InterfaceEvent.Out leader.host leader.link else InterfaceEvent.Other leader.kind)
    goes true x y = tt
    goes false true y = tt
    goes false false true = its
    goes false false false = tt

    comes : (x y z : Bool) → IsBetween a b at (if x then InterfaceEvent.Nothing else if y then InterfaceEvent.Own leader.kind leader.link else if z then InterfaceEvent.In leader.host leader.link else InterfaceEvent.Answer leader.kind leader.host leader.link)
    comes true y z = tt
    comes false true z = tt
    comes false false true = its
    comes false false false = its

    by : (way : ImpDirection) → IsBetween a b at (event_after way at (Ok leader))
    by ToImp = goes (leader.kind == 4) (leader.host == at) (leader.kind == 0)
    by FromImp = comes (not (leader.kind == 0) && not (is_answer leader.kind)) (leader.host == at) (leader.kind == 0)

-- after a record in which nothing is found
pub record OneMore (w : Hosts) (now : Monitor) : Type 0 where
  pub tame : OnlyTwoHosts w.number_a w.number_b now
  pub unfilled : now.full ≡ false
  pub open_books : now.conn_tables.full ≡ false

pub one_more : (w : Hosts) (monitor : Monitor) → Held w monitor → (way : ImpDirection) (at : ℕ) (bits : List Bool) → IsBetween w.number_a w.number_b at (event_of way at bits) → record_findings monitor way at bits ≡ [] → OneMore w (after_record monitor way at bits)
one_more w monitor k way at bits i v =
    let open_then = stays_open w.number_a w.number_b monitor way at bits i v (room_of w monitor k) in
    record { tame = tame_widens w.number_a w.number_b monitor (after_record monitor way at bits) (record_widens w.number_a w.number_b monitor way at bits i v) k.1.tame; unfilled = open_then.0; open_books = open_then.1 }

-- where no finding passes there is none
pub none_passes : (found : List Finding) → Pass never found → found ≡ []
none_passes [] p = refl
none_passes (f ∷ found) p = absurd (cc p)

pub alone : {A : Type 0} (xs : List A) → xs ++ [] ≡ [] → xs ≡ []
alone [] e = refl
alone (x ∷ xs) e = absurd (cc e)

-- ---- with other lines, and other books

abbrev pub FewOn : ℕ → ℕ → SeenTables → List Command → List Command → Type 0
FewOn a b conn_tables hl kl = (length hl ≤ 120) × (length kl ≤ 120) × (lives_at a b conn_tables + 3 * others_in kl ≤ 1240) × (lives_at b a conn_tables + 3 * others_in hl ≤ 1240)

pub on_of : (w : Hosts) (monitor : Monitor) → Fewer w monitor → FewOn w.number_a w.number_b monitor.conn_tables (line (seen w).this (seen w).going) (line (seen w).that (seen w).coming)
on_of w monitor f = (f.going_short, f.coming_short, f.this, f.that)

pub of_on : (w : Hosts) (monitor : Monitor) → FewOn w.number_a w.number_b monitor.conn_tables (line (seen w).this (seen w).going) (line (seen w).that (seen w).coming) → Fewer w monitor
of_on w monitor f = record { going_short = f.0; coming_short = f.1; this = f.2; that = f.3 }

pub fewer_on : (a b : ℕ) (conn_tables now : SeenTables) (hl kl hl2 kl2 : List Command) → hl2 ≡ hl → kl2 ≡ kl → lives_at a b now ≤ lives_at a b conn_tables → lives_at b a now ≤ lives_at b a conn_tables → FewOn a b conn_tables hl kl → FewOn a b now hl2 kl2
fewer_on a b conn_tables now hl kl hl2 kl2 e f x y k =
    let p = k.2 in let q = k.3 in
    subst (λ (xs : List Command). FewOn a b now xs kl2) (sym e) (subst (λ (xs : List Command). FewOn a b now hl xs) (sym f) (k.0, k.1, omega (arith, p, x), omega (arith, q, y)))

pub same_most : (x y : ℕ) → x ≡ y → x ≤ y
same_most x y e = omega (arith, e)

pub itself_most : (x : ℕ) → x ≤ x
itself_most x = omega arith
