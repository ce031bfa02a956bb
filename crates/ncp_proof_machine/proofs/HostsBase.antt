-- Meant for other crates too: they cite what is public here.
--
-- Two hosts without their ends and texts are the reset machine: each step is some of its steps.
use Rattle.std.proofs.Common.{◌≡◌, ℕ, Bool, true, false, if◌then◌else◌, List, [], ◌∷◌, ◌++◌, Option, None, Some, refl, sym, ap, ◌∙◌, arith}
use Rattle.ncp_wire.specs.declared.command.Command.{Command}
use Rattle.ncp_wire.specs.declared.command.Command.TheVariants.{Rst, Rrp}
use Rattle.ncp_model.specs.Phase.{Reaction, is_resetting}
use Rattle.std.specs.FinMap.{get}
use Rattle.ncp_model.specs.Effect.{answer, made_if_any, made_by_call}
use Rattle.ncp_model.specs.Texts.{made_by_text, Rfnm}
use Rattle.ncp_model.specs.Ends.{cut_in, text_in, answered_in}
use Rattle.ncp_model.specs.EndpointEvents.{happens}
use Rattle.ncp_model.specs.Echo.{echo_answer}
use Rattle.ncp_model.specs.Sending.{is_full}
use Rattle.ncp_proof_machine.specs.Delivery.{Slot, Empty, Ready, Travelling, Held, MessageTransit, Free, Accepted, Delivered, Lost, Dead, Link, link_answered}
use Rattle.ncp_proof_machine.specs.Resets.{ResetHost, is_up, host_makes, host_makes_all, host_hears, host_hears_other, host_hears_all, Party, This, That, ResetEvent, ResetStep, ResetWorld, reset_at, reset_run, reset_run_from, reset_sends, reset_steps, resets_swapped}
use Rattle.ncp_proof_machine.specs.Hosts.{TextOut, Node, quiet, node_reaction, node_hears, node_hears_other, node_hears_all, node_calls_reset, called, happens_at, node_echo_called, node_cuts, node_sends_text, node_takes_text, text_answered, node_text_comes, node_frees, node_settles, control_answered, message_comes, set_link, TwoNodes, nodes_swapped, base, NodeStep, Calls_reset, Calls, Calls_echo, Falls, Sends, Sends_text, Hears, Hears_text, Loses, Loses_text, Dies, Text_dies, Is_answered, Text_is_answered, Wakes, node_steps, NodeEvent, node_at, run_from, run, start}

-- the reset machine comes from one world to another
abbrev pub Reaches : ResetWorld → ResetWorld → Type 0
Reaches a b = (es : List ResetEvent) × (reset_run_from es a ≡ b)

stays : (a b : ResetWorld) → a ≡ b → Reaches a b
stays a b e = ([], e)

one : (step : ResetStep) (a b : ResetWorld) → reset_steps step a ≡ b → Reaches a b
one step a b e = (record { side = This; step = step } ∷ [], e)

run_more : (es fs : List ResetEvent) (a : ResetWorld) → reset_run_from (es ++ fs) a ≡ reset_run_from fs (reset_run_from es a)
run_more [] fs a = refl
run_more (e ∷ es) fs a = run_more es fs (reset_at e.side e.step a)

further : (a b c : ResetWorld) → Reaches a b → Reaches b c → Reaches a c
further a b c p q = (p.0 ++ q.0, run_more p.0 q.0 a ∙ (ap (reset_run_from q.0) p.1 ∙ q.1))

abbrev other : Party → Party
other This = That
other That = This

abbrev counterpart : List ResetEvent → List ResetEvent
counterpart [] = []
counterpart (e ∷ es) = record { side = other e.side; step = e.step } ∷ counterpart es

at_turned : (side : Party) (step : ResetStep) (a : ResetWorld) → reset_at (other side) step (resets_swapped a) ≡ resets_swapped (reset_at side step a)
at_turned This step a = refl
at_turned That step a = refl

run_turned : (es : List ResetEvent) (a : ResetWorld) → reset_run_from (counterpart es) (resets_swapped a) ≡ resets_swapped (reset_run_from es a)
run_turned [] a = refl
run_turned (e ∷ es) a = ap (reset_run_from (counterpart es)) (at_turned e.side e.step a) ∙ run_turned es (reset_at e.side e.step a)

swapped : (a b : ResetWorld) → Reaches a b → Reaches (resets_swapped a) (resets_swapped b)
swapped a b p = (counterpart p.0, run_turned p.0 a ∙ ap resets_swapped p.1)

-- commands are made one after the other
makes : (cs : List Command) (a : ResetWorld) → Reaches a (record a { this = host_makes_all cs a.this })
makes [] a = stays a a refl
makes (c ∷ cs) a =
    let b : ResetWorld = record a { this = host_makes c a.this } in
    further a b (record a { this = host_makes_all (c ∷ cs) a.this }) (one (ResetStep.Makes c) a b refl) (makes cs b)

-- a command is heard with the reaction that the ends give

idle_other : (c : Command) (r : Reaction) (h : ResetHost) → is_up h ≡ false → host_hears_other c r h ≡ h
idle_other c r h d = grind arith

chosen : (b : Bool) (n m : Node) (x : ResetHost) → is_up m.host ≡ b → n.host ≡ x → (is_up m.host ≡ false → x ≡ m.host) → (if b then n else m).host ≡ x
chosen true n m x u p q = p
chosen false n m x u p q = sym (q u)

hears-host : (c : Command) (n : Node) → (node_hears c n).host ≡ host_hears c (node_reaction c n) n.host
hears-host Rst n = refl
hears-host Rrp n = refl
hears-host c n = chosen (is_up n.host) (node_hears_other c n) n (host_hears_other c (node_reaction c n) n.host) refl refl (idle_other c (node_reaction c n) n.host)

pub either : (P : Node → Type 0) (b : Bool) (n m : Node) → P n → P m → P (if b then n else m)
either P true n m p q = p
either P false n m p q = q

hears-control : (c : Command) (n : Node) → (node_hears c n).control ≡ n.control
hears-control Rst n = refl
hears-control Rrp n = refl
hears-control c n = either (λ (m : Node). m.control ≡ n.control) (is_up n.host) (node_hears_other c n) n refl refl

abbrev pub reactions : List Command → Node → List Reaction
reactions [] n = []
reactions (c ∷ cs) n = node_reaction c n ∷ reactions cs (node_hears c n)

pub hears_all-host : (cs : List Command) (n : Node) → (node_hears_all cs n).host ≡ host_hears_all cs (reactions cs n) n.host
hears_all-host [] n = refl
hears_all-host (c ∷ cs) n = hears_all-host cs (node_hears c n) ∙ ap (host_hears_all cs (reactions cs (node_hears c n))) (hears-host c n)

pub hears_all-control : (cs : List Command) (n : Node) → (node_hears_all cs n).control ≡ n.control
hears_all-control [] n = refl
hears_all-control (c ∷ cs) n = hears_all-control cs (node_hears c n) ∙ hears-control c n

-- no text is sent, or answered, meanwhile

hears-texts : (c : Command) (n : Node) → (node_hears c n).texts ≡ n.texts
hears-texts Rst n = refl
hears-texts Rrp n = refl
hears-texts c n = either (λ (m : Node). m.texts ≡ n.texts) (is_up n.host) (node_hears_other c n) n refl refl

pub hears_all-texts : (cs : List Command) (n : Node) → (node_hears_all cs n).texts ≡ n.texts
hears_all-texts [] n = refl
hears_all-texts (c ∷ cs) n = hears_all-texts cs (node_hears c n) ∙ hears-texts c n

-- Each step of the hosts.

abbrev Becomes : TwoNodes → Node → Type 0
Becomes w n = Reaches (base w) (base (record w { this = n }))

same : (w : TwoNodes) (n : Node) → n.host ≡ w.this.host → n.control ≡ w.this.control → Becomes w n
same w n p q = stays (base w) (base (record w { this = n })) (rw (p, q) refl)

cutting : (w : TwoNodes) (on : ℕ) (text : Option (ℕ × List Bool)) → Becomes w (node_cuts on text w.this)
cutting w on None = stays (base w) (base w) refl
cutting w on (Some text) = stays (base w) (base w) refl

sending : (w : TwoNodes) (on : ℕ) (slot : Slot TextOut) → Becomes w (node_sends_text on slot w.this)
sending w on Empty = cutting w on (answer (cut_in on w.this.ends))
sending w on (Ready t) = stays (base w) (base w) refl
sending w on (Travelling t) = stays (base w) (base w) refl
sending w on (Held t) = stays (base w) (base w) refl

settling : (w : TwoNodes) (n : Node) → Reaches (base (record w { this = n })) (base (record w { this = node_settles n }))
settling w n = one (ResetStep.Settles (quiet n)) (base (record w { this = n })) (base (record w { this = node_settles n })) refl

freeing : (w : TwoNodes) (on : ℕ) → Becomes w (node_settles (node_frees on w.this))
freeing w on =
    further (base w) (base (record w { this = node_frees on w.this })) (base (record w { this = node_settles (node_frees on w.this) }))
    (makes (made_if_any (answer (answered_in on Rfnm w.this.ends))) (base w)) (settling w (node_frees on w.this))

answering_text : (w : TwoNodes) (on : ℕ) (slot : Slot TextOut) (subnet : MessageTransit TextOut) → Becomes w (text_answered on slot subnet w.this)
answering_text w on (Travelling t) Delivered = freeing w on
answering_text w on slot subnet = stays (base w) (base w) refl

answering : (w : TwoNodes) (slot : Slot (List Command)) (subnet : MessageTransit (List Command)) → w.this.control.slot ≡ slot → w.this.control.subnet ≡ subnet → Becomes w (control_answered slot subnet w.this)
answering w (Travelling m) Delivered e f =
    let n : Node = record w.this { control = record { slot = Empty; subnet = Free } } in
    further (base w) (base (record w { this = n })) (base (record w { this = node_settles n }))
    (one ResetStep.Is_answered (base w) (base (record w { this = n })) (rw (e, f) refl)) (settling w n)
answering w slot subnet e f =
    let n : Node = record w.this { control = link_answered slot subnet } in
    one ResetStep.Is_answered (base w) (base (record w { this = n })) (rw (e, f) refl)

hearing_text : (w : TwoNodes) (on : ℕ) (head : List Bool) (subnet : MessageTransit TextOut) → Reaches (base w) (base (node_text_comes on head subnet w))
hearing_text w on head (Accepted t) =
    either (λ (n : Node). Reaches (base w) (base (record w { this = n }))) (is_up w.this.host) (node_takes_text on head t w.this) w.this
    (makes (made_by_text head t.bits (answer (text_in on t.of_size t.bits w.this.ends))) (base w)) (stays (base w) (base w) refl)
hearing_text w on head Free = stays (base w) (base w) refl
hearing_text w on head Delivered = stays (base w) (base w) refl
hearing_text w on head Lost = stays (base w) (base w) refl
hearing_text w on head Dead = stays (base w) (base w) refl

hearing : (w : TwoNodes) (subnet : MessageTransit (List Command)) → w.that.control.subnet ≡ subnet → Reaches (base w) (base (message_comes subnet w))
hearing w (Accepted m) e =
    one (ResetStep.Hears (reactions m w.this)) (base w) (base (message_comes (Accepted m) w))
    (rw (e, hears_all-host m w.this, hears_all-control m w.this) refl)
hearing w Free e = stays (base w) (base w) refl
hearing w Delivered e = stays (base w) (base w) refl
hearing w Lost e = stays (base w) (base w) refl
hearing w Dead e = stays (base w) (base w) refl

resetting : (w : TwoNodes) → Becomes w (node_calls_reset w.this)
resetting w = go (is_resetting w.this.host.phase) refl
  where
    go : (b : Bool) → is_resetting w.this.host.phase ≡ b → Becomes w (node_calls_reset w.this)
    go true e = let s : node_calls_reset w.this ≡ w.this = grind arith in rw s (stays (base w) (base w) refl)
    go false e =
        one (ResetStep.Resets (quiet w.this)) (base w) (base (record w { this = node_calls_reset w.this }))
        (rw e refl)

stepping : (step : NodeStep) (w : TwoNodes) → Reaches (base w) (base (node_steps step w))
stepping Calls_reset w = resetting w
stepping (Calls pair call) w =
    let what = called call (is_full w.this.host.phase) w.this.ends in
    either (λ (n : Node). Becomes w n) (is_up w.this.host) (happens_at pair what w.this) w.this
    (makes (happens pair what (get w.this.ends pair)).made (base w)) (stays (base w) (base w) refl)
stepping (Calls_echo byte) w =
    either (λ (n : Node). Becomes w n) (is_up w.this.host) (node_echo_called byte w.this) w.this
    (makes (made_by_call (echo_answer byte (is_full w.this.host.phase) w.this.echoes)) (base w)) (stays (base w) (base w) refl)
stepping Falls w = one ResetStep.Falls (base w) (base (node_steps Falls w)) refl
stepping (Sends n) w = one (ResetStep.Sends n) (base w) (base (node_steps (Sends n) w)) (sends_alone w.this.control.slot w.this.host.phase.waiting n (base w))
  where
    sends_alone : (slot : Slot (List Command)) (q : List Command) (n : ℕ) (a : ResetWorld) → reset_sends slot q n a ≡ record (reset_sends slot q n a) { that = a.that; coming = a.coming }
    sends_alone slot q n a = grind arith
stepping (Sends_text on) w = sending w on (w.this.texts on).slot
stepping Hears w = hearing w w.that.control.subnet refl
stepping (Hears_text on head) w = hearing_text w on head (w.that.texts on).subnet
stepping Loses w = one ResetStep.Loses (base w) (base (node_steps Loses w)) refl
stepping (Loses_text on) w = stays (base w) (base w) refl
stepping Dies w = one ResetStep.Dies (base w) (base (node_steps Dies w)) refl
stepping (Text_dies on) w = stays (base w) (base w) refl
stepping Is_answered w = answering w w.this.control.slot w.this.control.subnet refl refl
stepping (Text_is_answered on) w = answering_text w on (w.this.texts on).slot (w.this.texts on).subnet
stepping Wakes w = one ResetStep.Wakes (base w) (base (node_steps Wakes w)) refl

happening : (side : Party) (step : NodeStep) (w : TwoNodes) → Reaches (base w) (base (node_at side step w))
happening This step w = stepping step w
happening That step w = swapped (base (nodes_swapped w)) (base (node_steps step (nodes_swapped w))) (stepping step (nodes_swapped w))

reaching : (es : List NodeEvent) (w : TwoNodes) → Reaches (base w) (base (run_from es w))
reaching [] w = stays (base w) (base w) refl
reaching (e ∷ es) w = further (base w) (base (node_at e.side e.step w)) (base (run_from es (node_at e.side e.step w))) (happening e.side e.step w) (reaching es (node_at e.side e.step w))

-- every run of the hosts is one of the reset machine
pub projected : (es : List NodeEvent) → (fs : List ResetEvent) × (base (run es) ≡ reset_run fs)
projected es = let p = reaching es start in (p.0, sym p.1)

-- Of the other host a step changes nothing but that a message on its links is delivered.

module _ (P : Node → Type 0) (on_control : (n : Node) (l : Link (List Command)) → P n → P (record n { control = l })) (on_texts : (n : Node) (ls : ℕ → Link TextOut) → P n → P (record n { texts = ls })) where
  other_message : (subnet : MessageTransit (List Command)) (w : TwoNodes) → P w.that → P (message_comes subnet w).that
  other_message (Accepted m) w p = on_control w.that (record w.that.control { subnet = Delivered }) p
  other_message Free w p = p
  other_message Delivered w p = p
  other_message Lost w p = p
  other_message Dead w p = p

  other_text : (on : ℕ) (head : List Bool) (subnet : MessageTransit TextOut) (w : TwoNodes) → P w.that → P (node_text_comes on head subnet w).that
  other_text on head (Accepted t) w p = on_texts w.that (set_link on (record (w.that.texts on) { subnet = Delivered }) w.that.texts) p
  other_text on head Free w p = p
  other_text on head Delivered w p = p
  other_text on head Lost w p = p
  other_text on head Dead w p = p

  pub other-keeps : (step : NodeStep) (w : TwoNodes) → P w.that → P (node_steps step w).that
  other-keeps Hears w p = other_message w.that.control.subnet w p
  other-keeps (Hears_text on head) w p = other_text on head (w.that.texts on).subnet w p
  other-keeps step w p = p
