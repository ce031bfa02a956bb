use Rattle.std.proofs.Common.{◌≡◌, ℕ, ◌+◌, Bool, true, false, if◌then◌else◌, List, Option, None, Some, refl, ap, ◌∙◌, arith}
use Rattle.std.specs.List.{list_any}
use Rattle.ncp_wire.specs.declared.command.Command.{Command}
use Rattle.ncp_wire.specs.declared.command.Command.TheVariants.{Rst, Rrp}
use Rattle.ncp_model.specs.declared.pair.Pair.{Pair}
use Rattle.ncp_model.specs.Effect.{answer, made_if_any}
use Rattle.ncp_model.specs.Texts.{Rfnm}
use Rattle.ncp_model.specs.Ends.{cut_in, answered_in}
use Rattle.ncp_model.specs.Phase.{is_rst, is_rrp, is_other, is_resetting}
use Rattle.ncp_proof_machine.specs.Delivery.{Slot, Empty, Ready, Travelling, Held, MessageTransit, Free, Accepted, Delivered, Lost, Dead}
use Rattle.ncp_proof_machine.specs.Resets.{ResetHost, is_up, host_resets}
use Rattle.ncp_proof_machine.specs.Hosts.{TextOut, Node, quiet, node_cleared, node_frees, node_hears, node_hears_text, PairCall, node_calls, node_calls_echo, node_calls_reset, node_cuts, node_sends_text, text_answered, control_answered, message_comes, node_text_comes, TwoNodes, base, NodeStep, Calls_reset, Calls, Calls_echo, Sends, Sends_text, Hears, Hears_text, Is_answered, Text_is_answered, node_steps}
use Rattle.ncp_model.proofs.ResetLists.{bit, rsts, any-rsts}
use Rattle.ncp_proof_headline.proofs.HostsHeld.{ever}
use Rattle.ncp_proof_machine.proofs.Waiting.{down, silent_all, settling, waiting, sends-wait}
use Rattle.ncp_proof_machine.proofs.HostsBase.{reactions, hears_all-host, other-keeps}
use Rattle.ncp_proof_headline.proofs.headline.only_resets_act_in_steps_until_the_answer.Goals as goal

-- a host that is not up does what is said of it there
stays : (b : Bool) (x n : Node) → b ≡ false → (if b then x else n) ≡ n
stays b x n e = ap (λ (c : Bool). if c then x else n) e

not_up : (n : Node) → n.host.phase.wait ≡ true → is_up n.host ≡ false
not_up n w = down n.host w

commands : (c : Command) (n : Node) → n.host.phase.wait ≡ true → is_other c ≡ true → node_hears c n ≡ n
commands Rst n w o = absurd (cc o)
commands Rrp n w o = absurd (cc o)
commands c n w o = stays (is_up n.host) _ n (not_up n w)

texts : (on : ℕ) (head : List Bool) (t : TextOut) (n : Node) → n.host.phase.wait ≡ true → node_hears_text on head t n ≡ n
texts on head t n w = stays (is_up n.host) _ n (not_up n w)

all_calls : (pair : Pair) (call : PairCall) (n : Node) → n.host.phase.wait ≡ true → node_calls pair call n ≡ n
all_calls pair call n w = stays (is_up n.host) _ n (not_up n w)

echoes : (byte : ℕ) (n : Node) → n.host.phase.wait ≡ true → node_calls_echo byte n ≡ n
echoes byte n w = stays (is_up n.host) _ n (not_up n w)

-- a reset is under way
resets-stay : (n : Node) → n.host.phase.wait ≡ true → node_calls_reset n ≡ n
resets-stay n w = let r : is_resetting n.host.phase ≡ true = grind arith in ap (λ (c : Bool). if c then n else node_cleared (host_resets (quiet n) n.host) n) r

-- The waiting ends where an RRP comes.

abbrev waits : Node → Bool
waits n = n.host.phase.wait

abbrev Ends : TwoNodes → Type 0
Ends w = (m : List Command) × (w.that.control.subnet ≡ Accepted m) × (list_any is_rrp m ≡ true)

cut-waits : (on : ℕ) (o : Option (ℕ × List Bool)) (n : Node) → waits (node_cuts on o n) ≡ waits n
cut-waits on None n = refl
cut-waits on (Some text) n = refl

sent-waits : (on : ℕ) (slot : Slot TextOut) (n : Node) → waits (node_sends_text on slot n) ≡ waits n
sent-waits on Empty n = cut-waits on (answer (cut_in on n.ends)) n
sent-waits on (Ready t) n = refl
sent-waits on (Travelling t) n = refl
sent-waits on (Held t) n = refl

answered-waits : (on : ℕ) (slot : Slot TextOut) (subnet : MessageTransit TextOut) (n : Node) → waits n ≡ true → waits (text_answered on slot subnet n) ≡ true
answered-waits on (Travelling t) Delivered n w =
    let same = silent_all (made_if_any (answer (answered_in on Rfnm n.ends))) n.host w in
    settling (quiet (node_frees on n)) (node_frees on n).host.phase (ap (λ (h : ResetHost). h.phase.wait) same ∙ w)
answered-waits on slot subnet n w = w

control-waits : (slot : Slot (List Command)) (subnet : MessageTransit (List Command)) (n : Node) → waits n ≡ true → waits (control_answered slot subnet n) ≡ true
control-waits (Travelling m) Delivered n w = settling (quiet n) n.host.phase w
control-waits slot subnet n w = w

text-waits : (on : ℕ) (head : List Bool) (subnet : MessageTransit TextOut) (w : TwoNodes) → waits w.this ≡ true → waits (node_text_comes on head subnet w).this ≡ true
text-waits on head (Accepted t) w a = ap waits (texts on head t w.this a) ∙ a
text-waits on head Free w a = a
text-waits on head Delivered w a = a
text-waits on head Lost w a = a
text-waits on head Dead w a = a

message : (subnet : MessageTransit (List Command)) (w : TwoNodes) → waits w.this ≡ true → waits (message_comes subnet w).this ≡ false → (m : List Command) × (subnet ≡ Accepted m) × (list_any is_rrp m ≡ true)
message Free w a b = absurd (cc (a, b))
message Delivered w a b = absurd (cc (a, b))
message Lost w a b = absurd (cc (a, b))
message Dead w a b = absurd (cc (a, b))
message (Accepted m) w a b = go (list_any is_rrp m) refl
  where
    go : (t : Bool) → list_any is_rrp m ≡ t → (n : List Command) × (Accepted m ≡ Accepted n) × (list_any is_rrp n ≡ true)
    go true e = (m, refl, e)
    go false e =
        let k = waiting m (reactions m w.this) w.this.host a e in
        absurd (cc (ap (λ (h : ResetHost). h.phase.wait) (hears_all-host m w.this) ∙ k, b))

until : (step : NodeStep) (w : TwoNodes) → waits w.this ≡ true → waits (node_steps step w).this ≡ false → Ends w
until Calls_reset w a b = absurd (cc (ap waits (resets-stay w.this a) ∙ a, b))
until (Calls pair call) w a b = absurd (cc (ap waits (all_calls pair call w.this a) ∙ a, b))
until (Calls_echo byte) w a b = absurd (cc (ap waits (echoes byte w.this a) ∙ a, b))
until (Sends n) w a b = absurd (cc (sends-wait w.this.control.slot w.this.host.phase.waiting n (base w) ∙ a, b))
until (Sends_text on) w a b = absurd (cc (sent-waits on (w.this.texts on).slot w.this ∙ a, b))
until Hears w a b = message w.that.control.subnet w a b
until (Hears_text on head) w a b = absurd (cc (text-waits on head (w.that.texts on).subnet w a, b))
until Is_answered w a b = absurd (cc (control-waits w.this.control.slot w.this.control.subnet w.this a, b))
until (Text_is_answered on) w a b = absurd (cc (answered-waits on (w.this.texts on).slot (w.this.texts on).subnet w.this a, b))
until step w a b = absurd (cc (a, b))

-- an RST underway is one whose RRP is awaited
counted : (u : List Command) (a b : Bool) (c : ℕ) → list_any is_rst u ≡ true → rsts u + bit a + c ≡ bit b → b ≡ true
counted u a b c r e = grind (arith, any-rsts)

each : (step : NodeStep) (w : TwoNodes) → (node_steps step w).that.host ≡ w.that.host
each step w = other-keeps (λ (n : Node). n.host ≡ w.that.host) (λ n l e. e) (λ n ls e. e) step w refl

pub returns-clause-waits : goal.returns-clause-waits
returns-clause-waits c = λ es r. (let k = (ever es).holds.joined.kept.there.count in counted _ _ _ _ r k)

pub returns-clause-waits_too : goal.returns-clause-waits_too
returns-clause-waits_too c = λ es r. (let k = (ever es).holds.joined.kept.here.count in counted _ _ _ _ r k)

pub returns-clause-each : goal.returns-clause-each
returns-clause-each c = each

pub returns-clause-commands : goal.returns-clause-commands
returns-clause-commands c = commands

pub returns-clause-texts : goal.returns-clause-texts
returns-clause-texts c = texts

pub returns-clause-calls : goal.returns-clause-calls
returns-clause-calls c = all_calls

pub returns-clause-echoes : goal.returns-clause-echoes
returns-clause-echoes c = echoes

pub returns-clause-until : goal.returns-clause-until
returns-clause-until c = until
