-- What an event says of the bits of its record, and which findings of it are of messages.
use Rattle.std.proofs.Common.{◌≡◌, ℕ, ◌<◌, ◌≤◌, ◌==◌, Bool, true, false, not, ◌&&◌, nat_lt, if◌then◌else◌, List, [], ◌∷◌, ◌++◌, length, Option, None, Some, Result, Ok, Err, option_map, option_to_list, refl, sym, ap, ◌∙◌, ltb-false}
use Rattle.ncp_leader.specs.declared.fault.MessageFault.{MessageFault}
use Rattle.ncp_leader.specs.declared.leader.Leader.{Leader}
use Rattle.ncp_leader.specs.Leader.{leader_at}
use Rattle.ncp_leader.specs.Message.{Message, message_in}
use Rattle.ncp_leader.proofs.Leaders.{IsLeader-at}
use Rattle.ncp_interface.specs.declared.event.InterfaceEvent.{InterfaceEvent}
use Rattle.ncp_interface.specs.declared.event.InterfaceEvent.TheVariants as event
use Rattle.ncp_monitor.specs.declared.finding.Finding.{Finding}
use Rattle.ncp_monitor.specs.declared.finding.Rule.{Rule}
use Rattle.ncp_interface.specs.declared.sent_message.LinkState.{LinkState}
use Rattle.ncp_monitor.specs.declared.monitor.Monitor.{Monitor}
use Rattle.ncp_monitor.specs.declared.phase.MessageContext.{MessageContext}
use Rattle.ncp_interface.specs.declared.imp_direction.ImpDirection.{ImpDirection}
use Rattle.ncp_interface.specs.declared.imp_direction.ImpDirection.TheVariants.{ToImp, FromImp}
use Rattle.ncp_interface.specs.Events.{is_answer, event_after, event_of}
use Rattle.ncp_monitor.specs.Messages.{has_extras, extras_of, judged_bits, rule_of_message}
use Rattle.ncp_interface.specs.Contents.{is_unused}
use Rattle.ncp_monitor.specs.Judged.{out_rule, false_rule, stray_rule, message_findings}
use Rattle.ncp_interface.specs.Slots.{is_slot_out}
use Rattle.ncp_monitor.proofs.Passing.{is_said, message}
use Rattle.ncp_proof_monitor_messages.specs.Files.{found_by}
use Rattle.ncp_proof_monitor_messages.proofs.Quiet.{none_by}
use Rattle.ncp_proof_monitor_exact.specs.Exact.{is_of_messages}
use Rattle.ncp_proof_monitor_exact.proofs.Steps.{told}

abbrev pub Facts : InterfaceEvent → List Bool → Type 0
Facts (event.Out peer link) bits = peer < 256
Facts (event.In peer link) bits = (peer < 256) × (32 ≤ length bits) × ((leader_at bits).host ≡ peer)
Facts (event.Answer kind peer link) bits = peer < 256
Facts other bits = Unit {0}

pub facts : (way : ImpDirection) (at : ℕ) (bits : List Bool) → Facts (event_of way at bits) bits
facts way at bits = go (nat_lt (length bits) 32) refl
  where
    leader : Leader
    leader = leader_at bits

    small : leader.host < 256
    small = (IsLeader-at bits).host

    out : (nop own zero : Bool) → Facts (if nop then event.Nothing else if own then event.Own leader.kind leader.link else if zero then event.Out leader.host leader.link else event.Other leader.kind) bits
    out true own zero = tt
    out false true zero = tt
    out false false true = small
    out false false false = tt

    come : 32 ≤ length bits → (none own zero : Bool) → Facts (if none then event.Nothing else if own then event.Own leader.kind leader.link else if zero then event.In leader.host leader.link else event.Answer leader.kind leader.host leader.link) bits
    come long true own zero = tt
    come long false true zero = tt
    come long false false true = (small, long, refl)
    come long false false false = small

    by : (way : ImpDirection) → 32 ≤ length bits → Facts (event_after way at (Ok leader)) bits
    by ToImp long = out (leader.kind == 4) (leader.host == at) (leader.kind == 0)
    by FromImp long = come long (not (leader.kind == 0) && not (is_answer leader.kind)) (leader.host == at) (leader.kind == 0)

    short : (way : ImpDirection) → Facts (event_after way at (Err (record {}))) bits
    short ToImp = tt
    short FromImp = tt

    go : (b : Bool) → nat_lt (length bits) 32 ≡ b → Facts (event_after way at (if b then Err (record {}) else Ok leader)) bits
    go true e = short way
    go false e = by way (ltb-false (length bits) 32 e)

-- ---- which findings are of messages

of_said : (r : Rule) → is_said r ≡ true → not (is_of_messages r) ≡ true
of_said (Rule.Occupied link) e = absurd (cc)
of_said (Rule.Changed link) e = absurd (cc)
of_said (Rule.Stray kind link) e = absurd (cc)
of_said (Rule.Unsent host link why) e = absurd (cc)
of_said (Rule.FalseAnswer kind host link came) e = absurd (cc)
of_said rule e = refl

of_itself : (read : Result Message MessageFault) (link len : ℕ) (r : Rule) → rule_of_message read link len ≡ Some r → not (is_of_messages r) ≡ true
of_itself (Err fault) link len r e = let is : Rule.Fault fault link ≡ r = cc in ap (λ (x : Rule). not (is_of_messages x)) (sym is)
of_itself (Ok m) link len r e = go (is_unused m.leader.link) (m.leader.link == 0 && not (m.size == 8)) (has_extras m len) e
  where
    go : (a b c : Bool) → (if a then Some (Rule.WrongLink m.leader.link) else if b then Some (Rule.WrongSize m.size) else if c then Some (extras_of m len) else None) ≡ Some r → not (is_of_messages r) ≡ true
    go true b c e = let is : Rule.WrongLink m.leader.link ≡ r = cc in ap (λ (x : Rule). not (is_of_messages x)) (sym is)
    go false true c e = let is : Rule.WrongSize m.size ≡ r = cc in ap (λ (x : Rule). not (is_of_messages x)) (sym is)
    go false false true e = let is : extras_of m len ≡ r = cc in ap (λ (x : Rule). not (is_of_messages x)) (sym is)
    go false false false e = absurd (cc)

pub said_none : (monitor : Monitor) (at peer : ℕ) (context : MessageContext) (fresh : Bool) (link : ℕ) (bits : List Bool) → found_by is_of_messages (message_findings monitor at peer context fresh link bits) ≡ []
said_none monitor at peer context fresh link bits =
    none_by is_of_messages (message_findings monitor at peer context fresh link bits)
    (message (λ (f : Finding). not (is_of_messages f.rule)) context of_said monitor at peer fresh link bits (of_itself (message_in bits) link (judged_bits (message_in bits) bits)))

pub found_two : (xs ys : List Finding) → found_by is_of_messages (xs ++ ys) ≡ found_by is_of_messages xs ++ found_by is_of_messages ys
found_two [] ys = refl
found_two (x ∷ xs) ys = go (is_of_messages x.rule) (found_two xs ys)
  where
    go : (b : Bool) → found_by is_of_messages (xs ++ ys) ≡ found_by is_of_messages xs ++ found_by is_of_messages ys
        → (if b then x ∷ found_by is_of_messages (xs ++ ys) else found_by is_of_messages (xs ++ ys)) ≡ (if b then x ∷ found_by is_of_messages xs else found_by is_of_messages xs) ++ found_by is_of_messages ys
    go true e = ap (λ (zs : List Finding). x ∷ zs) e
    go false e = e

-- a violation of the rules of messages is found exactly if the flag is set
abbrev pub Found : Bool → List Finding → Type 0
Found true found = found_by is_of_messages found ≡ [] → ⊥
Found false found = found_by is_of_messages found ≡ []

pub of_option : {A : Type 0} (g : A → Finding) (o : Option A) → ((x : A) → o ≡ Some x → is_of_messages (g x).rule ≡ true) → Found (told o) (option_to_list (option_map g o))
of_option g None h = refl
of_option g (Some x) h = λ e. let one : g x ∷ [] ≡ [] = sym (ap (λ (b : Bool). if b then g x ∷ [] else []) (h x refl)) ∙ e in absurd (cc)

front_empty : (xs ys : List Finding) → xs ++ ys ≡ [] → xs ≡ []
front_empty [] ys e = refl
front_empty (x ∷ xs) ys e = absurd (cc)

back_empty : (xs ys : List Finding) → xs ++ ys ≡ [] → ys ≡ []
back_empty [] ys e = e
back_empty (x ∷ xs) ys e = absurd (cc)

pub parts_empty : (xs ys : List Finding) → found_by is_of_messages (xs ++ ys) ≡ [] → (found_by is_of_messages xs ≡ []) × (found_by is_of_messages ys ≡ [])
parts_empty xs ys e =
    let both : found_by is_of_messages xs ++ found_by is_of_messages ys ≡ [] = sym (found_two xs ys) ∙ e in
    (front_empty (found_by is_of_messages xs) (found_by is_of_messages ys) both, back_empty (found_by is_of_messages xs) (found_by is_of_messages ys) both)

-- with what a message says
pub with_said : (b : Bool) (xs ys : List Finding) → found_by is_of_messages ys ≡ [] → Found b xs → Found b (xs ++ ys)
with_said true xs ys none f = λ e. f (parts_empty xs ys e).0
with_said false xs ys none f = found_two xs ys ∙ ap (λ (zs : List Finding). zs ++ found_by is_of_messages ys) f ∙ none

-- ---- the rules of the slots

pub out_rule_is : (slot : LinkState) (same : Bool) (link : ℕ) (r : Rule) → out_rule slot same link ≡ Some r → is_of_messages r ≡ true
out_rule_is LinkState.Unknown same link r e = absurd (cc)
out_rule_is LinkState.Empty same link r e = absurd (cc)
out_rule_is LinkState.Out same link r e = let is : Rule.Occupied link ≡ r = cc in ap is_of_messages (sym is)
out_rule_is LinkState.Came same link r e = let is : Rule.Occupied link ≡ r = cc in ap is_of_messages (sym is)
out_rule_is LinkState.Again true link r e = absurd (cc)
out_rule_is LinkState.Again false link r e = let is : Rule.Changed link ≡ r = cc in ap is_of_messages (sym is)

pub out_quiet : (slot : LinkState) (same : Bool) (link : ℕ) → told (out_rule slot same link) ≡ false → is_slot_out slot ≡ false
out_quiet LinkState.Unknown same link e = refl
out_quiet LinkState.Empty same link e = refl
out_quiet LinkState.Out same link e = absurd (cc)
out_quiet LinkState.Came same link e = absurd (cc)
out_quiet LinkState.Again same link e = refl

pub false_rule_is : (slot : LinkState) (kind host link : ℕ) (r : Rule) → false_rule slot kind host link ≡ Some r → is_of_messages r ≡ true
false_rule_is LinkState.Unknown kind host link r e = absurd (cc)
false_rule_is LinkState.Empty kind host link r e = absurd (cc)
false_rule_is LinkState.Again kind host link r e = absurd (cc)
false_rule_is LinkState.Out kind host link r e = go (kind == 5) e
  where
    go : (b : Bool) → (if b then Some (Rule.FalseAnswer kind host link false) else None) ≡ Some r → is_of_messages r ≡ true
    go true e = let is : Rule.FalseAnswer kind host link false ≡ r = cc in ap is_of_messages (sym is)
    go false e = absurd (cc)
false_rule_is LinkState.Came kind host link r e = go (kind == 5) e
  where
    go : (b : Bool) → (if b then None else Some (Rule.FalseAnswer kind host link true)) ≡ Some r → is_of_messages r ≡ true
    go false e = let is : Rule.FalseAnswer kind host link true ≡ r = cc in ap is_of_messages (sym is)
    go true e = absurd (cc)

pub stray_rule_is : (slot : LinkState) (kind link : ℕ) (r : Rule) → stray_rule slot kind link ≡ Some r → is_of_messages r ≡ true
stray_rule_is LinkState.Unknown kind link r e = absurd (cc)
stray_rule_is LinkState.Empty kind link r e = let is : Rule.Stray kind link ≡ r = cc in ap is_of_messages (sym is)
stray_rule_is LinkState.Out kind link r e = absurd (cc)
stray_rule_is LinkState.Came kind link r e = absurd (cc)
stray_rule_is LinkState.Again kind link r e = let is : Rule.Stray kind link ≡ r = cc in ap is_of_messages (sym is)
