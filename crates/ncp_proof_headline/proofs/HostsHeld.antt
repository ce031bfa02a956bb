-- Meant for other crates too: they cite what is public here.
--
-- Two hosts stay joined with the machines of their connections after any event.
use Rattle.std.proofs.Common.{◌≡◌, ℕ, ◌+◌, Bool, true, false, if◌then◌else◌, List, [], ◌∷◌, take, drop, Option, None, Some, refl, sym, ◌∙◌, subst}
use Rattle.std.proofs.lemmas.List.{take-append-drop}
use Rattle.ncp_wire.specs.declared.command.Command.{Command}
use Rattle.ncp_model.specs.Effect.{answer}
use Rattle.ncp_model.specs.Ends.{cut_in}
use Rattle.ncp_model.specs.Phase.{is_resetting}
use Rattle.ncp_model.specs.Sending.{is_full}
use Rattle.ncp_proof_machine.specs.Delivery.{Slot, Empty, Ready, Travelling, Held, MessageTransit, Free, Accepted, Delivered, Lost, Dead, Link, idle, undelivered, woken}
use Rattle.ncp_proof_machine.specs.Resets.{is_up, on_line, host_resets, Party, This, That, reset_sends}
use Rattle.ncp_proof_machine.specs.Hosts.{TextOut, Node, new_node, quiet, node_cleared, called, happens_at, node_calls, node_echo_called, node_calls_echo, node_calls_reset, node_hears_all, node_takes_text, node_hears_text, node_cuts, node_sends_text, text_answered, control_answered, undelivered_text, node_text_comes, message_comes, TwoNodes, nodes_swapped, NodeStep, Calls_reset, Calls, Calls_echo, Falls, Sends, Sends_text, Hears, Hears_text, Loses, Loses_text, Dies, Text_dies, Is_answered, Text_is_answered, Wakes, node_steps, NodeEvent, node_at, run_from, run, start}
use Rattle.ncp_model.proofs.ResetLists.{rrps}
use Rattle.ncp_proof_machine.proofs.ResetRuns.{Tied, fronting, starting}
use Rattle.ncp_proof_machine.proofs.HostsBase.{hears_all-control}
use Rattle.ncp_proof_machine.proofs.HostsStand.{BothStand, side-stands, ever-stand}
use Rattle.ncp_proof_headline.proofs.Lives.{live, alive}
use Rattle.ncp_proof_headline.proofs.Ties.{Owners, Ties}
use Rattle.ncp_proof_headline.proofs.TiesClear.{SameText, ties-start, ties-links, one-link, same-lost, same-dead, same-woken}
use Rattle.ncp_proof_headline.proofs.HostsJoined.{lives, is_alive, Whole, Joined, joined-counterpart, settles-keeps, resets-keeps, falls-keeps}
use Rattle.ncp_proof_headline.proofs.HostsSteps.{calls-keeps, echo-keeps, hears_all-keeps, text-keeps, Follows, Moved, sends_text-keeps, text_answered-keeps}

-- of two hosts, and the slot and the subnet of the control links that go and come
abbrev pub HoldsOf : Owners → Owners → Node → Node → Slot (List Command) → MessageTransit (List Command) → Slot (List Command) → MessageTransit (List Command) → Type 0
HoldsOf own own' n m s t s' t' = record { going : Tied s t; coming : Tied s' t'; joined : Joined own own' n m (on_line s t) (on_line s' t') }

abbrev pub Holds : Owners → Owners → TwoNodes → Type 0
Holds own own' w = HoldsOf own own' w.this w.that w.this.control.slot w.this.control.subnet w.that.control.slot w.that.control.subnet

abbrev pub x : TwoNodes → List Command
x w = on_line w.this.control.slot w.this.control.subnet

abbrev pub y : TwoNodes → List Command
y w = on_line w.that.control.slot w.that.control.subnet

pub swapped : (own own' : Owners) (w : TwoNodes) → Holds own own' w → Holds own' own (nodes_swapped w)
swapped own own' w p = record { going = p.coming; coming = p.going; joined = joined-counterpart own own' w.this w.that (x w) (y w) p.joined }

-- The control link.

front-keeps : (own own' : Owners) (n m : Node) (y : List Command) (i : ℕ) → Joined own own' n m [] y → Joined own own' (record n { host = record n.host { phase = record n.host.phase { waiting = drop i n.host.phase.waiting } } }) m (take i n.host.phase.waiting) y
front-keeps own own' n m y i k = record {
  kept = fronting n.host m.host y i k.kept;
  ties = subst (λ (u : List Command). Ties (is_alive n m y) (alive m.host (rrps u)) own own' n m (live m.host.phase.wait u) (lives m n y)) (sym (take-append-drop i n.host.phase.waiting)) k.ties;
  this = k.this;
  that = k.that;
}

module _ (own own' : Owners) (n m : Node) (s' : Slot (List Command)) (t' : MessageTransit (List Command)) where
  sending : (s : Slot (List Command)) (t : MessageTransit (List Command)) (q : List Command) (i : ℕ) → HoldsOf own own' n m s t s' t'
      → let b = reset_sends s q i (record { this = n.host; that = m.host; going = record { slot = s; subnet = t }; coming = record { slot = s'; subnet = t' } }) in
      HoldsOf own own' (record n { host = b.this }) m b.going.slot b.going.subnet s' t'
  sending (Ready c) Free q i p = record { going = refl; coming = p.coming; joined = p.joined }
  sending (Travelling c) t q i p = p
  sending (Held c) t q i p = p
  sending Empty t [] i p = p
  sending Empty Free (c ∷ cs) i p = record { going = refl; coming = p.coming; joined = front-keeps own own' n m (on_line s' t') (i + 1) p.joined }
  sending s t q i p = absurd p.going

  undelivering : (what : MessageTransit (List Command)) → ((c : List Command) → Tied (Travelling c) what) → ((c : List Command) → on_line (Travelling c) what ≡ c) → (s : Slot (List Command)) (t : MessageTransit (List Command)) → HoldsOf own own' n m s t s' t' → HoldsOf own own' n m s (undelivered what t) s' t'
  undelivering what f g (Travelling c) (Accepted d) p = record { going = f c; coming = p.coming; joined = subst (λ (l : List Command). Joined own own' n m l (on_line s' t')) (p.going ∙ sym (g c)) p.joined }
  undelivering what f g Empty (Accepted d) p = absurd p.going
  undelivering what f g (Ready c) (Accepted d) p = absurd p.going
  undelivering what f g (Held c) (Accepted d) p = absurd p.going
  undelivering what f g s Free p = p
  undelivering what f g s Delivered p = p
  undelivering what f g s Lost p = p
  undelivering what f g s Dead p = p

  waking : (s : Slot (List Command)) (t : MessageTransit (List Command)) → HoldsOf own own' n m s t s' t' → HoldsOf own own' n m (woken s) t s' t'
  waking (Held c) Free p = record { going = tt; coming = p.coming; joined = p.joined }
  waking (Held c) (Accepted d) p = absurd p.going
  waking (Held c) Delivered p = absurd p.going
  waking (Held c) Lost p = absurd p.going
  waking (Held c) Dead p = absurd p.going
  waking Empty t p = p
  waking (Ready c) t p = p
  waking (Travelling c) t p = p

  coming : (s : Slot (List Command)) (t : MessageTransit (List Command)) (d : List Command) → HoldsOf own own' n m s t s' t' → t' ≡ Accepted d → HoldsOf own own' (node_hears_all d n) m s t s' Delivered
  coming s t d p e = go s' (subst (λ (b : MessageTransit (List Command)). HoldsOf own own' n m s t s' b) e p)
    where
      go : (s' : Slot (List Command)) → HoldsOf own own' n m s t s' (Accepted d) → HoldsOf own own' (node_hears_all d n) m s t s' Delivered
      go (Travelling c) p = record { going = p.going; coming = tt; joined = hears_all-keeps own own' n m (on_line s t) d p.joined }
      go Empty p = absurd p.coming
      go (Ready c) p = absurd p.coming
      go (Held c) p = absurd p.coming

-- what the subnet has is what is on the line
pub accepted : (own own' : Owners) (n m : Node) (s s' : Slot (List Command)) (t t' : MessageTransit (List Command)) (d : List Command) → HoldsOf own own' n m s t s' t' → t' ≡ Accepted d → Joined own own' n m (on_line s t) d
accepted own own' n m s s' t t' d p e = go s' (subst (λ (b : MessageTransit (List Command)). HoldsOf own own' n m s t s' b) e p)
  where
    go : (s' : Slot (List Command)) → HoldsOf own own' n m s t s' (Accepted d) → Joined own own' n m (on_line s t) d
    go (Travelling c) p = p.joined
    go Empty p = absurd p.coming
    go (Ready c) p = absurd p.coming
    go (Held c) p = absurd p.coming

-- A step of this host alone, which leaves its control link.

at_this : (own own1 own' : Owners) (w : TwoNodes) (n : Node) → n.control ≡ w.this.control → Holds own own' w → Joined own1 own' n w.that (x w) (y w) → Holds own1 own' (record w { this = n })
at_this own own1 own' w n c p j = record {
  going = subst (λ (l : Link (List Command)). Tied l.slot l.subnet) (sym c) p.going;
  coming = p.coming;
  joined = subst (λ (l : Link (List Command)). Joined own1 own' n w.that (on_line l.slot l.subnet) (y w)) (sym c) j;
}

either : (P : Node → Type 0) (b : Bool) (n m : Node) → P n → P m → P (if b then n else m)
either P true n m p q = p
either P false n m p q = q

abbrev SameControl : Node → Node → Type 0
SameControl n m = m.control ≡ n.control

cut-control : (on : ℕ) (o : Option (ℕ × List Bool)) (n : Node) → SameControl n (node_cuts on o n)
cut-control on None n = refl
cut-control on (Some text) n = refl

sent-control : (on : ℕ) (slot : Slot TextOut) (n : Node) → SameControl n (node_sends_text on slot n)
sent-control on Empty n = cut-control on (answer (cut_in on n.ends)) n
sent-control on (Ready t) n = refl
sent-control on (Travelling t) n = refl
sent-control on (Held t) n = refl

answered-control : (on : ℕ) (slot : Slot TextOut) (subnet : MessageTransit TextOut) (n : Node) → SameControl n (text_answered on slot subnet n)
answered-control on (Travelling t) Delivered n = refl
answered-control on slot subnet n = refl

-- what a step of this host makes of who owns its links
abbrev pub Steps : Owners → Owners → TwoNodes → TwoNodes → Type 0
Steps own own' w after = record { own1 : Owners; holds : Holds own1 own' after; follows : Follows own own1 w.this.texts after.this.texts }

stays : (own own' : Owners) (w after : TwoNodes) → Holds own own' after → Steps own own' w after
stays own own' w after p = record { own1 = own; holds = p; follows = λ on a b. refl }

moves : (own own' : Owners) (w : TwoNodes) (n : Node) → n.control ≡ w.this.control → Holds own own' w → Moved own own' w.this n w.that (x w) (y w) → Steps own own' w (record w { this = n })
moves own own' w n c p k = record { own1 = k.own1; holds = at_this own k.own1 own' w n c p k.joined; follows = k.follows }

answering : (own own' : Owners) (w : TwoNodes) (slot : Slot (List Command)) (subnet : MessageTransit (List Command)) → w.this.control.slot ≡ slot → w.this.control.subnet ≡ subnet → HoldsOf own own' w.this w.that slot subnet w.that.control.slot w.that.control.subnet → Holds own own' (record w { this = control_answered slot subnet w.this })
answering own own' w (Travelling m) Delivered e f p = record { going = tt; coming = p.coming; joined = settles-keeps own own' (record w.this { control = idle }) w.that [] (y w) p.joined }
answering own own' w (Travelling m) Lost e f p = record { going = tt; coming = p.coming; joined = p.joined }
answering own own' w (Travelling m) Dead e f p = record { going = tt; coming = p.coming; joined = p.joined }
answering own own' w slot subnet e f p = p

hearing : (own own' : Owners) (w : TwoNodes) (subnet : MessageTransit (List Command)) → w.that.control.subnet ≡ subnet → Holds own own' w → Holds own own' (message_comes subnet w)
hearing own own' w (Accepted d) e p =
    let k = coming own own' w.this w.that w.that.control.slot w.that.control.subnet w.this.control.slot w.this.control.subnet d p e in
    let c = hears_all-control d w.this in
    record {
      going = subst (λ (l : Link (List Command)). Tied l.slot l.subnet) (sym c) k.going;
      coming = k.coming;
      joined = subst (λ (l : Link (List Command)). Joined own own' (node_hears_all d w.this) w.that (on_line l.slot l.subnet) (on_line w.that.control.slot Delivered)) (sym c) k.joined;
    }
hearing own own' w Free e p = p
hearing own own' w Delivered e p = p
hearing own own' w Lost e p = p
hearing own own' w Dead e p = p

hearing_text : (own own' : Owners) (w : TwoNodes) (on : ℕ) (head : List Bool) (subnet : MessageTransit TextOut) → (w.that.texts on).subnet ≡ subnet → Holds own own' w → Holds own own' (node_text_comes on head subnet w)
hearing_text own own' w on head (Accepted t) e p =
    let c : SameControl w.this (node_hears_text on head t w.this) = either (λ (n : Node). SameControl w.this n) (is_up w.this.host) (node_takes_text on head t w.this) w.this refl refl in
    let k = text-keeps own own' w.this w.that (x w) (y w) on head t e p.joined in
    record {
      going = subst (λ (l : Link (List Command)). Tied l.slot l.subnet) (sym c) p.going;
      coming = p.coming;
      joined = subst (λ (l : Link (List Command)). Joined own own' (node_hears_text on head t w.this) (node_text_comes on head (Accepted t) w).that (on_line l.slot l.subnet) (y w)) (sym c) k;
    }
hearing_text own own' w on head Free e p = p
hearing_text own own' w on head Delivered e p = p
hearing_text own own' w on head Lost e p = p
hearing_text own own' w on head Dead e p = p

-- texts that the subnet loses, or that are asked for again
links-keep : (own own' : Owners) (n m : Node) (x y : List Command) (links : ℕ → Link TextOut) → ((on : ℕ) → SameText on (n.texts on) (links on)) → Joined own own' n m x y → Joined own own' (record n { texts = links }) m x y
links-keep own own' n m x y links s k = record { kept = k.kept; ties = ties-links (is_alive n m y) (is_alive m n x) own own' n m (lives n m x) (lives m n y) links s k.ties; this = k.this; that = k.that }

stepping : (step : NodeStep) (own own' : Owners) (w : TwoNodes) → BothStand w → Holds own own' w → Steps own own' w (node_steps step w)
stepping Calls_reset own own' w b p = stays own own' w (node_steps Calls_reset w)
    (at_this own own own' w (node_calls_reset w.this) (either (λ (n : Node). SameControl w.this n) (is_resetting w.this.host.phase) w.this (node_cleared (host_resets (quiet w.this) w.this.host) w.this) refl refl) p
    (resets-keeps own own' w.this w.that (x w) (y w) p.joined))
stepping (Calls pair call) own own' w b p =
    let what = called call (is_full w.this.host.phase) w.this.ends in
    stays own own' w (node_steps (Calls pair call) w)
    (at_this own own own' w (node_calls pair call w.this) (either (λ (n : Node). SameControl w.this n) (is_up w.this.host) (happens_at pair what w.this) w.this refl refl) p
    (calls-keeps own own' w.this w.that (x w) (y w) pair call p.joined))
stepping (Calls_echo byte) own own' w b p =
    stays own own' w (node_steps (Calls_echo byte) w)
    (at_this own own own' w (node_calls_echo byte w.this) (either (λ (n : Node). SameControl w.this n) (is_up w.this.host) (node_echo_called byte w.this) w.this refl refl) p
    (echo-keeps own own' w.this w.that (x w) (y w) byte p.joined))
stepping Falls own own' w b p = stays own own' w (node_steps Falls w) (record { going = p.going; coming = p.coming; joined = falls-keeps own own' w.this w.that (x w) (y w) p.joined })
stepping (Sends n) own own' w b p = stays own own' w (node_steps (Sends n) w)
    (sending own own' w.this w.that w.that.control.slot w.that.control.subnet w.this.control.slot w.this.control.subnet w.this.host.phase.waiting n p)
stepping (Sends_text on) own own' w b p = moves own own' w (node_sends_text on (w.this.texts on).slot w.this) (sent-control on (w.this.texts on).slot w.this) p
    (sends_text-keeps own own' w.this w.that (x w) (y w) on p.joined b.0.good.limits (w.this.texts on).slot refl)
stepping Hears own own' w b p = stays own own' w (node_steps Hears w) (hearing own own' w w.that.control.subnet refl p)
stepping (Hears_text on head) own own' w b p = stays own own' w (node_steps (Hears_text on head) w) (hearing_text own own' w on head (w.that.texts on).subnet refl p)
stepping Loses own own' w b p = stays own own' w (node_steps Loses w)
    (undelivering own own' w.this w.that w.that.control.slot w.that.control.subnet Lost (λ c. tt) (λ c. refl) w.this.control.slot w.this.control.subnet p)
stepping (Loses_text on) own own' w b p = stays own own' w (node_steps (Loses_text on) w)
    (record { going = p.going; coming = p.coming; joined = links-keep own own' w.this w.that (x w) (y w) (undelivered_text Lost on w.this).texts (one-link on (record (w.this.texts on) { subnet = undelivered Lost (w.this.texts on).subnet }) w.this.texts (same-lost on (w.this.texts on))) p.joined })
stepping Dies own own' w b p = stays own own' w (node_steps Dies w)
    (undelivering own own' w.this w.that w.that.control.slot w.that.control.subnet Dead (λ c. tt) (λ c. refl) w.this.control.slot w.this.control.subnet p)
stepping (Text_dies on) own own' w b p = stays own own' w (node_steps (Text_dies on) w)
    (record { going = p.going; coming = p.coming; joined = links-keep own own' w.this w.that (x w) (y w) (undelivered_text Dead on w.this).texts (one-link on (record (w.this.texts on) { subnet = undelivered Dead (w.this.texts on).subnet }) w.this.texts (same-dead on (w.this.texts on))) p.joined })
stepping Is_answered own own' w b p = stays own own' w (node_steps Is_answered w) (answering own own' w w.this.control.slot w.this.control.subnet refl refl p)
stepping (Text_is_answered on) own own' w b p = moves own own' w (text_answered on (w.this.texts on).slot (w.this.texts on).subnet w.this) (answered-control on (w.this.texts on).slot (w.this.texts on).subnet w.this) p
    (text_answered-keeps own own' w.this w.that (x w) (y w) on p.joined (w.this.texts on).slot (w.this.texts on).subnet refl refl)
stepping Wakes own own' w b p =
    let k = waking own own' w.this w.that w.that.control.slot w.that.control.subnet w.this.control.slot w.this.control.subnet p in
    stays own own' w (node_steps Wakes w)
    (record { going = k.going; coming = k.coming; joined = links-keep own own' w.this w.that (on_line (woken w.this.control.slot) w.this.control.subnet) (y w) (node_steps Wakes w).this.texts (λ on. same-woken on (w.this.texts on)) k.joined })

-- A step of either host.

abbrev pub Goes : Owners → Owners → TwoNodes → TwoNodes → Type 0
Goes own own' w after = record {
  own1 : Owners;
  own1' : Owners;
  holds : Holds own1 own1' after;
  there : Follows own own1 w.this.texts after.this.texts;
  back : Follows own' own1' w.that.texts after.that.texts;
}

pub happening : (side : Party) (step : NodeStep) (own own' : Owners) (w : TwoNodes) → BothStand w → Holds own own' w → Goes own own' w (node_at side step w)
happening This step own own' w b p =
    let k = stepping step own own' w b p in
    record { own1 = k.own1; own1' = own'; holds = k.holds; there = k.follows; back = λ on c d. refl }
happening That step own own' w b p =
    let k = stepping step own' own (nodes_swapped w) (b.1, b.0) (swapped own own' w p) in
    record { own1 = own; own1' = k.own1; holds = swapped k.own1 own (node_steps step (nodes_swapped w)) k.holds; there = λ on c d. refl; back = k.follows }

abbrev pub Ever : TwoNodes → Type 0
Ever w = record { own : Owners; own' : Owners; holds : Holds own own' w; stand : BothStand w }

abbrev pub ever-swapped : (w : TwoNodes) → Ever w → Ever (nodes_swapped w)
ever-swapped w p = record { own = p.own'; own' = p.own; holds = swapped p.own p.own' w p.holds; stand = (p.stand.1, p.stand.0) }

abbrev pub after_step : (e : NodeEvent) (w : TwoNodes) → Ever w → Ever (node_at e.side e.step w)
after_step e w p = let k = happening e.side e.step p.own p.own' w p.stand p.holds in record { own = k.own1; own' = k.own1'; holds = k.holds; stand = side-stands e.side e.step w p.stand }

running : (es : List NodeEvent) (w : TwoNodes) → Ever w → Ever (run_from es w)
running [] w p = p
running (e ∷ es) w p = running es (node_at e.side e.step w) (after_step e w p)

new_whole : Whole (λ _. None) new_node
new_whole = record { none = λ e. refl; quiet = λ e on. refl; safe = refl }

pub ever : (es : List NodeEvent) → Ever (run es)
ever es = running es start (record {
  own = λ _. None;
  own' = λ _. None;
  holds = record { going = tt; coming = tt; joined = record { kept = starting.kept; ties = ties-start; this = new_whole; that = new_whole } };
  stand = ever-stand [];
})
