-- Findings that spare a host: those of others, and of other rules.
use Rattle.std.proofs.Common.{◌≡◌, ℕ, Bool, true, false, not, ◌&&◌, ◌||◌, List, Result, refl, ap, ◌∙◌}
use Rattle.ncp_leader.specs.declared.fault.MessageFault.{MessageFault}
use Rattle.ncp_leader.specs.Message.{Message}
use Rattle.ncp_monitor.specs.declared.finding.Finding.{Finding}
use Rattle.ncp_monitor.specs.declared.finding.Rule.{Rule}
use Rattle.ncp_monitor.specs.declared.monitor.Monitor.{Monitor}
use Rattle.ncp_interface.specs.declared.imp_direction.ImpDirection.TheVariants.{FromImp}
use Rattle.ncp_monitor.specs.Judged.{by_host, record_findings}
use Rattle.ncp_monitor.proofs.Passing.{Pass, comes, is_of_flow}
use Rattle.ncp_proof_monitor.proofs.Talking.{message_flow, message_flow_pass}
use Rattle.ncp_proof_monitor.specs.Recordings.{is_host, spares, is_of_messages_and_phase, is_of_requests_and_replies, is_of_allocation}

-- of another rule
pub rule_spared : (judged : Rule → Bool) (me : ℕ) (f : Finding) → judged f.rule ≡ false → spares judged me f ≡ true
rule_spared judged me f e = ap (λ (c : Bool). not (is_host me f.who && c)) e ∙ go (is_host me f.who)
  where
    go : (b : Bool) → not (b && false) ≡ true
    go true = refl
    go false = refl

-- what comes is never found against the host
pub spared : (judged : Rule → Bool) (me : ℕ) (monitor : Monitor) (bits : List Bool) → Pass (spares judged me) (record_findings monitor FromImp me bits)
spared judged me = comes (spares judged me) me (λ r. refl, λ host r e. ap (λ (b : Bool). not (b && judged r)) e)

-- ---- what is said while two hosts are up

-- what the host says is not found against it
abbrev pub FlowSpared : (Rule → Bool) → ℕ → Type 0
FlowSpared judged me = (monitor : Monitor) (n : ℕ) (fresh : Bool) (r : Result Message MessageFault) → Pass (spares judged me) (message_flow monitor me n me true fresh r)

-- if no judged rule is about the flow
pub flow_spared : (judged : Rule → Bool) (me : ℕ) → ((r : Rule) → is_of_flow r ≡ true → judged r ≡ false) → FlowSpared judged me
flow_spared judged me unsaid monitor n fresh r =
    message_flow_pass (spares judged me) monitor me n me true fresh r (λ q t. rule_spared judged me (by_host me q) (unsaid q t))

-- none of messages and the phase is
pub unsaid : (r : Rule) → is_of_flow r ≡ true → is_of_messages_and_phase r ≡ false
unsaid (Rule.Short bits) e = absurd (cc)
unsaid (Rule.OwnHost kind link) e = absurd (cc)
unsaid (Rule.Kind kind) e = absurd (cc)
unsaid (Rule.Fault fault link) e = absurd (cc)
unsaid (Rule.WrongLink link) e = absurd (cc)
unsaid (Rule.WrongSize size) e = absurd (cc)
unsaid (Rule.Extras flags low text rest) e = absurd (cc)
unsaid (Rule.Occupied link) e = absurd (cc)
unsaid (Rule.Changed link) e = absurd (cc)
unsaid (Rule.Stray kind link) e = absurd (cc)
unsaid (Rule.Unsent host link why) e = absurd (cc)
unsaid (Rule.FalseAnswer kind host link came) e = absurd (cc)
unsaid (Rule.Bad fault) e = absurd (cc)
unsaid (Rule.Early what began waits owes) e = absurd (cc)
unsaid Rule.RstAgain e = absurd (cc)
unsaid Rule.RrpUnasked e = absurd (cc)
unsaid (Rule.Unquiet reply link) e = absurd (cc)
unsaid Rule.RrpFirst e = absurd (cc)
unsaid Rule.MissingRrp e = absurd (cc)
unsaid rule e = refl

-- each rule is of one kind
pub one_kind : (r : Rule) → is_of_messages_and_phase r ≡ not (is_of_requests_and_replies r || is_of_allocation r)
one_kind (Rule.Short bits) = refl
one_kind rule = refl

-- and of one alone
pub kinds_distinct : (r : Rule) → (is_of_requests_and_replies r && is_of_allocation r) ≡ false
kinds_distinct (Rule.Short bits) = refl
kinds_distinct rule = refl
