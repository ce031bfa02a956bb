-- A host sends messages only on links that are used.
use Rattle.std.proofs.Common.{◌≡◌, ℕ, ◌==◌, Bool, true, false, not, ◌&&◌, if◌then◌else◌, List, length, None, Some, Result, Ok, Err, option_map, option_to_list, refl, sym, ap, ◌∙◌}
use Rattle.ncp_leader.specs.declared.fault.MessageFault.{MessageFault}
use Rattle.ncp_leader.specs.declared.leader.Leader.{Leader}
use Rattle.ncp_leader.specs.Leader.{leader_in}
use Rattle.ncp_leader.specs.Message.{Message, message_in}
use Rattle.ncp_leader.proofs.Messages.{message_leader}
use Rattle.ncp_peer.specs.Output.{leader_to, links}
use Rattle.ncp_host.specs.Host.{is_one_of}
use Rattle.ncp_monitor.specs.declared.finding.Rule.{Rule}
use Rattle.ncp_interface.specs.declared.sent_message.LinkState.{LinkState}
use Rattle.ncp_monitor.specs.declared.monitor.Monitor.{Monitor}
use Rattle.ncp_monitor.specs.Messages.{bits_after_text, has_extras, extras_of, judged_bits, rule_of_message}
use Rattle.ncp_interface.specs.Contents.{is_unused}
use Rattle.ncp_monitor.specs.Judged.{by_host, slot_of_link, same_of, out_rule, out_finding}
use Rattle.ncp_proof_monitor.specs.Recordings.{spares}
use Rattle.ncp_monitor.proofs.Passing.{Pass, one}
use Rattle.ncp_proof_monitor.proofs.Spared.{rule_spared}
use Rattle.ncp_proof_monitor.proofs.Fresh.{in_all}

-- ---- the rules of links, where they are not asked for

pub links_unjudged : (judged : Rule → Bool) (monitor : Monitor) (me n on : ℕ) (bits : List Bool) → judged (Rule.Occupied on) ≡ false → judged (Rule.Changed on) ≡ false
    → Pass (spares judged me) (option_to_list (out_finding monitor me n on bits))
links_unjudged judged monitor me n on bits o c = go monitor.full (slot_of_link monitor me n on) (same_of monitor me n on bits)
  where
    go : (full : Bool) (s : LinkState) (same : Bool) → Pass (spares judged me) (option_to_list (if full then None else option_map (by_host me) (out_rule s same on)))
    go true s same = refl
    go false LinkState.Unknown same = refl
    go false LinkState.Empty same = refl
    go false LinkState.Out same = one (spares judged me) (by_host me (Rule.Occupied on)) (rule_spared judged me (by_host me (Rule.Occupied on)) o)
    go false LinkState.Came same = one (spares judged me) (by_host me (Rule.Occupied on)) (rule_spared judged me (by_host me (Rule.Occupied on)) o)
    go false LinkState.Again true = refl
    go false LinkState.Again false = one (spares judged me) (by_host me (Rule.Changed on)) (rule_spared judged me (by_host me (Rule.Changed on)) c)

-- ---- a link that is used

not_true : (b : Bool) → not b ≡ true → b ≡ false
not_true true e = absurd (cc)
not_true false e = refl

pub used : (on : ℕ) → is_one_of on links ≡ true → is_unused on ≡ false
used on h = not_true (is_unused on) (in_all (λ (k : ℕ). not (is_unused k)) links on refl h)

-- a message on it breaks no rule of its leader by itself
pub rules_of_used : (judged : Rule → Bool) (bits : List Bool) (n on : ℕ) (r : Rule) → leader_in bits ≡ Ok (leader_to n on) → is_unused on ≡ false
    → ((m : MessageFault) → judged (Rule.Fault m on) ≡ false) → ((size : ℕ) → judged (Rule.WrongSize size) ≡ false) → ((flags low text rest : ℕ) → judged (Rule.Extras flags low text rest) ≡ false)
    → rule_of_message (message_in bits) on (judged_bits (message_in bits) bits) ≡ Some r → judged r ≡ false
rules_of_used judged bits n on r led u f w x e = read (message_in bits) refl e
  where
    same : {A : Type 0} {a b : A} → Some a ≡ Some b → a ≡ b
    same q = cc

    is : (found : Rule) → judged found ≡ false → Some found ≡ Some r → judged r ≡ false
    is found j q = ap judged (sym (same q)) ∙ j

    link_of : (m : Message) → message_in bits ≡ Ok m → is_unused m.leader.link ≡ false
    link_of m q =
        let ok : Ok m.leader ≡ Ok (leader_to n on) = sym (message_leader bits m q) ∙ led in
        let here : m.leader ≡ leader_to n on = cc in
        ap (λ (l : Leader). is_unused l.link) here ∙ u

    by_parts : (m : Message) (a b c : Bool) → a ≡ false
        → (if a then Some (Rule.WrongLink m.leader.link) else if b then Some (Rule.WrongSize m.size) else if c then Some (extras_of m (judged_bits (Ok m) bits)) else None) ≡ Some r → judged r ≡ false
    by_parts m true b c a q = absurd (cc)
    by_parts m false true c a q = is (Rule.WrongSize m.size) (w m.size) q
    by_parts m false false true a q = is (extras_of m (judged_bits (Ok m) bits)) (x m.leader.flags m.leader.low (length m.text) (bits_after_text m (judged_bits (Ok m) bits))) q
    by_parts m false false false a q = absurd (cc)

    read : (o : Result Message MessageFault) → message_in bits ≡ o → rule_of_message o on (judged_bits o bits) ≡ Some r → judged r ≡ false
    read (Err fault) g q = is (Rule.Fault fault on) (f fault) q
    read (Ok m) g q = by_parts m (is_unused m.leader.link) (m.leader.link == 0 && not (m.size == 8)) (has_extras m (judged_bits (Ok m) bits)) (link_of m g) q
