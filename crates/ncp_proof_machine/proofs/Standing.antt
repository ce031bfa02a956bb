-- Meant for other crates too: they cite what is public here.
--
-- What holds of a host without ends, and stays where an end changes by what the links bring, or by what
-- they take: it holds after each step but a call. A host that is not up has no ends.
use Rattle.std.proofs.Common.{◌≡◌, ℕ, Bool, true, false, if◌then◌else◌, List, [], ◌∷◌, Option, None, Some, refl, sym, ap, ◌∙◌, subst, arith}
use Rattle.std.specs.FinMap.{get, get-empty}
use Rattle.ncp_wire.specs.declared.command.Command.{Command}
use Rattle.ncp_wire.specs.declared.command.Command.TheVariants.{Rst, Rrp}
use Rattle.ncp_model.specs.declared.pair.Pair.{Pair}
use Rattle.ncp_model.specs.Pairs.{pair_cmp}
use Rattle.ncp_model.specs.Endpoint.{Endpoint}
use Rattle.ncp_model.specs.Effect.{Effect, answer, end_after}
use Rattle.ncp_model.specs.Texts.{hear_text, Rfnm}
use Rattle.ncp_model.specs.Ends.{Ends, hears_link, uses_link, sender_on, receiver_on, pair_of, demux_command, hear, text_in, cut_at, cut_in, answered_in, map_after, map_after_at, no_ends}
use Rattle.ncp_model.specs.EndpointEvents.{EndpointEvent, Transition, happens}
use Rattle.ncp_model.specs.Demux.{suits, passes, comes}
use Rattle.ncp_model.specs.Phase.{is_resetting}
use Rattle.ncp_proof_machine.specs.Delivery.{Slot, Empty, Ready, Travelling, Held, MessageTransit, Free, Accepted, Delivered, Lost, Dead}
use Rattle.ncp_proof_machine.specs.Resets.{ResetHost, is_up, host_resets, host_settles, host_falls, host_hears, ResetStep, ResetWorld, reset_sends, reset_steps}
use Rattle.ncp_proof_machine.specs.Hosts.{TextOut, Node, quiet, node_reaction, node_kept, node_cleared, node_calls, node_echo_called, node_calls_reset, node_hears, node_hears_other, node_hears_all, node_takes_text, node_hears_text, node_cuts, node_sends_text, node_frees, node_settles, text_answered, node_text_comes, control_answered, message_comes, TwoNodes, base, NodeStep, Calls_reset, Calls, Calls_echo, Falls, Sends, Sends_text, Hears, Hears_text, Is_answered, Text_is_answered, node_steps, PairCall}
use Rattle.ncp_model.proofs.LinksDemux.{led, command-led, cut-led, answered-led, suits-led, user-receives}
use Rattle.ncp_proof_machine.proofs.EndsGood.{Fresh, Changes, act-changes, none-fresh, comes-fresh}
use Rattle.ncp_proof_machine.proofs.HostsBase.{either}

-- the own requests
abbrev pub asks : EndpointEvent → Bool
asks (EndpointEvent.Asks_to_send of_size with_room own full) = true
asks (EndpointEvent.Asks_to_receive with_room on own full) = true
asks what = false

-- an event of an end that is caused by a message received or sent on a link
abbrev pub ByLinks : Ends → Pair → EndpointEvent → Type 0
ByLinks m pair what = record { suited : suits pair what ≡ true; fresh : Fresh m what; unasked : asks what ≡ false }

-- of the ends at a host that is up or not
abbrev pub Stand : (Ends → Type 0) → Bool → Ends → Type 0
Stand P is_there m = record { none : is_there ≡ false → m ≡ no_ends; good : P m }

abbrev pub StandsIn : (Ends → Type 0) → Node → Type 0
StandsIn P n = Stand P (is_up n.host) n.ends

comes-some : (c : Command) (m : Ends) (pair : Pair) → demux_command c m ≡ Some pair → (what : EndpointEvent) × (comes c m ≡ Some what)
comes-some (Command.Rts a b d) m pair e = (_, refl)
comes-some (Command.Str a b d) m pair e = (_, refl)
comes-some (Command.Cls a b) m pair e = (_, refl)
comes-some (Command.All a b d) m pair e = (_, refl)
comes-some (Command.Gvb a b d) m pair e = (_, refl)
comes-some (Command.Ret a b d) m pair e = (_, refl)
comes-some (Command.Inr a) m pair e = (_, refl)
comes-some (Command.Ins a) m pair e = (_, refl)
comes-some c m pair e = absurd (cc e)

comes-asks : (c : Command) (m : Ends) (what : EndpointEvent) → comes c m ≡ Some what → asks what ≡ false
comes-asks c m what e = grind arith

-- without ends nothing is sent
pub nothing_out : (on : ℕ) → answer (cut_in on no_ends) ≡ None
nothing_out on = go (sender_on on no_ends) refl
  where
    go : (o : Option (Pair × Endpoint)) → sender_on on no_ends ≡ o → answer (cut_at o) ≡ None
    go None e = refl
    go (Some q) e =
        let l = led (hears_link on) no_ends q.0 (ap pair_of e) in
        absurd (cc (subst (λ o. passes (hears_link on) q.0 o ≡ true) (get-empty pair_cmp q.0) l.1))

rrp_up : (n : Node) → is_up (host_hears Rrp (node_reaction Rrp n) n.host) ≡ false → is_up n.host ≡ false
rrp_up n e = grind arith

settled_up : (q : Bool) (h : ResetHost) → is_up (host_settles q h) ≡ false → is_up h ≡ false
settled_up true h e = go (is_up h) refl
  where
    go : (b : Bool) → is_up h ≡ b → is_up h ≡ false
    go false u = u
    go true u = let s : is_up (host_settles true h) ≡ true = grind arith in absurd (cc (s, e))
settled_up false h e = e

sent_up : (slot : Slot (List Command)) (q : List Command) (n : ℕ) (a : ResetWorld) → is_up (reset_sends slot q n a).this ≡ is_up a.this
sent_up slot q n a = grind arith

module _ (P : Ends → Type 0) (of_none : P no_ends) (by_links : (m k : Ends) (pair : Pair) (what : EndpointEvent) → ByLinks m pair what → Changes m k pair what → P m → P k) where
  pub none-stand : (b : Bool) → Stand P b no_ends
  none-stand b = record { none = λ _. refl; good = of_none }

  pub keeping : (h : ResetHost) (m : Ends) → P m → Stand P (is_up h) (node_kept h m)
  keeping h m g = go (is_up h)
    where
      go : (b : Bool) → Stand P b (if b then m else no_ends)
      go true = record { none = λ e. absurd (cc e); good = g }
      go false = none-stand false

  -- where a host is not up, it was not
  staying : (b c : Bool) (m : Ends) → (c ≡ false → b ≡ false) → Stand P b m → Stand P c m
  staying b c m f p = record { none = λ e. p.none (f e); good = p.good }

  -- where a look-up led, the act is what happens to the end there
  looked : {A : Type 0} → (m : Ends) (o : Option Pair) (act : Effect A)
      → ((pair : Pair) → o ≡ Some pair → (what : EndpointEvent) × ((happens pair what (get m pair)).after ≡ end_after (get m pair) act) × ByLinks m pair what)
      → P m → P (map_after_at m o act)
  looked m None act f g = g
  looked m (Some pair) act f g = let w = f pair refl in by_links m (map_after m pair act) pair w.0 w.2 (act-changes m pair w.0 act w.1) g

  command-good : (c : Command) (m : Ends) → P m → P (map_after_at m (demux_command c m) (hear c m))
  command-good c m =
      looked m (demux_command c m) (hear c m)
      (λ pair e. let w = comes-some c m pair e in let l = command-led m c pair w.0 e w.1 in (
        w.0,
        ap (λ (d : Transition). d.after) l.1,
        record { suited = suits-led pair w.0 (get m pair) l.0; fresh = comes-fresh c m w.0 w.1; unasked = comes-asks c m w.0 w.1 },
      ))

  text-good : (m : Ends) (on : ℕ) (of_size : ℕ) (text : List Bool) → P m → P (map_after_at m (pair_of (receiver_on on m)) (text_in on of_size text m))
  text-good m on of_size text =
      looked m (pair_of (receiver_on on m)) (text_in on of_size text m)
      (λ pair e. let l = led (uses_link on) m pair e in (EndpointEvent.Text_comes [] of_size text, ap (λ o. end_after (get m pair) (hear_text of_size text o)) l.0, record { suited = user-receives on pair (get m pair) l.1; fresh = none-fresh m (EndpointEvent.Text_comes [] of_size text) (λ l. refl) (λ l. refl); unasked = refl }))

  cut-good : (m : Ends) (on : ℕ) → P m → P (map_after_at m (pair_of (sender_on on m)) (cut_in on m))
  cut-good m on =
      looked m (pair_of (sender_on on m)) (cut_in on m)
      (λ pair e. let l = cut-led m on pair e in (EndpointEvent.Text_goes_out, ap (λ (d : Transition). d.after) l.1, record { suited = l.0; fresh = none-fresh m EndpointEvent.Text_goes_out (λ l. refl) (λ l. refl); unasked = refl }))

  answered-good : (m : Ends) (on : ℕ) → P m → P (map_after_at m (pair_of (sender_on on m)) (answered_in on Rfnm m))
  answered-good m on =
      looked m (pair_of (sender_on on m)) (answered_in on Rfnm m)
      (λ pair e. let l = answered-led m on Rfnm pair e in (
        EndpointEvent.Is_answered Rfnm,
        ap (λ (d : Transition). d.after) l.1,
        record { suited = l.0; fresh = none-fresh m (EndpointEvent.Is_answered Rfnm) (λ l. refl) (λ l. refl); unasked = refl },
      ))

  -- Each step.

  echoing-stands : (byte : ℕ) (n : Node) → StandsIn P n → StandsIn P (node_echo_called byte n)
  echoing-stands byte n p = keeping (node_echo_called byte n).host n.ends p.good

  cleared-stands : (h : ResetHost) (n : Node) → StandsIn P (node_cleared h n)
  cleared-stands h n = none-stand (is_up h)

  resetting-stands : (n : Node) → StandsIn P n → StandsIn P (node_calls_reset n)
  resetting-stands n p = either (StandsIn P) (is_resetting n.host.phase) n (node_cleared (host_resets (quiet n) n.host) n) p (cleared-stands (host_resets (quiet n) n.host) n)

  pub command-stands : (c : Command) (n : Node) → StandsIn P n → StandsIn P (node_hears c n)
  command-stands Rst n p = cleared-stands (host_hears Rst (node_reaction Rst n) n.host) n
  command-stands Rrp n p = staying (is_up n.host) (is_up (host_hears Rrp (node_reaction Rrp n) n.host)) n.ends (rrp_up n) p
  command-stands c n p = either (StandsIn P) (is_up n.host) (node_hears_other c n) n (keeping (node_hears_other c n).host (map_after_at n.ends (demux_command c n.ends) (hear c n.ends)) (command-good c n.ends p.good)) p

  pub commands-stand : (cs : List Command) (n : Node) → StandsIn P n → StandsIn P (node_hears_all cs n)
  commands-stand [] n p = p
  commands-stand (c ∷ cs) n p = commands-stand cs (node_hears c n) (command-stands c n p)

  text-stands : (on : ℕ) (head : List Bool) (t : TextOut) (n : Node) → StandsIn P n → StandsIn P (node_hears_text on head t n)
  text-stands on head t n p = either (StandsIn P) (is_up n.host) (node_takes_text on head t n) n (keeping (node_takes_text on head t n).host (map_after_at n.ends (pair_of (receiver_on on n.ends)) (text_in on t.of_size t.bits n.ends)) (text-good n.ends on t.of_size t.bits p.good)) p

  cutting-stands : (on : ℕ) (o : Option (ℕ × List Bool)) (n : Node) → answer (cut_in on n.ends) ≡ o → StandsIn P n → StandsIn P (node_cuts on o n)
  cutting-stands on None n e p = p
  cutting-stands on (Some text) n e p = record {
    none = λ d. let k : answer (cut_in on n.ends) ≡ None = ap (λ m. answer (cut_in on m)) (p.none d) ∙ nothing_out on in absurd (cc (k, e));
    good = cut-good n.ends on p.good;
  }

  sending-stands : (on : ℕ) (slot : Slot TextOut) (n : Node) → StandsIn P n → StandsIn P (node_sends_text on slot n)
  sending-stands on Empty n p = cutting-stands on (answer (cut_in on n.ends)) n refl p
  sending-stands on (Ready t) n p = p
  sending-stands on (Travelling t) n p = p
  sending-stands on (Held t) n p = p

  settling-stands : (n : Node) → StandsIn P n → StandsIn P (node_settles n)
  settling-stands n p = staying (is_up n.host) (is_up (host_settles (quiet n) n.host)) n.ends (settled_up (quiet n) n.host) p

  freeing-stands : (on : ℕ) (n : Node) → StandsIn P n → StandsIn P (node_frees on n)
  freeing-stands on n p = go (is_up n.host) refl
    where
      m : Ends
      m = map_after_at n.ends (pair_of (sender_on on n.ends)) (answered_in on Rfnm n.ends)

      go : (b : Bool) → is_up n.host ≡ b → Stand P (is_up (node_frees on n).host) (if b then node_kept (node_frees on n).host m else n.ends)
      go true u = keeping (node_frees on n).host m (answered-good n.ends on p.good)
      go false d = record { none = λ _. p.none d; good = p.good }

  text_answered-stands : (on : ℕ) (slot : Slot TextOut) (subnet : MessageTransit TextOut) (n : Node) → StandsIn P n → StandsIn P (text_answered on slot subnet n)
  text_answered-stands on (Travelling t) Delivered n p = settling-stands (node_frees on n) (freeing-stands on n p)
  text_answered-stands on slot subnet n p = p

  control_answered-stands : (slot : Slot (List Command)) (subnet : MessageTransit (List Command)) (n : Node) → StandsIn P n → StandsIn P (control_answered slot subnet n)
  control_answered-stands (Travelling m) Delivered n p = settling-stands (record n { control = record { slot = Empty; subnet = Free } }) p
  control_answered-stands slot subnet n p = p

  text_coming-stands : (on : ℕ) (head : List Bool) (subnet : MessageTransit TextOut) (w : TwoNodes) → StandsIn P w.this → StandsIn P (node_text_comes on head subnet w).this
  text_coming-stands on head (Accepted t) w p = text-stands on head t w.this p
  text_coming-stands on head Free w p = p
  text_coming-stands on head Delivered w p = p
  text_coming-stands on head Lost w p = p
  text_coming-stands on head Dead w p = p

  coming-stands : (subnet : MessageTransit (List Command)) (w : TwoNodes) → StandsIn P w.this → StandsIn P (message_comes subnet w).this
  coming-stands (Accepted m) w p = commands-stand m w.this p
  coming-stands Free w p = p
  coming-stands Delivered w p = p
  coming-stands Lost w p = p
  coming-stands Dead w p = p

  -- with what a call does
  pub step-keeps : (step : NodeStep) (w : TwoNodes) → ((pair : Pair) (call : PairCall) → step ≡ Calls pair call → StandsIn P (node_calls pair call w.this)) → StandsIn P w.this → StandsIn P (node_steps step w).this
  step-keeps Calls_reset w f p = resetting-stands w.this p
  step-keeps (Calls pair call) w f p = f pair call refl
  step-keeps (Calls_echo byte) w f p = either (StandsIn P) (is_up w.this.host) (node_echo_called byte w.this) w.this (echoing-stands byte w.this p) p
  step-keeps Falls w f p = cleared-stands (host_falls w.this.host) w.this
  step-keeps (Sends n) w f p =
      let up = sent_up w.this.control.slot w.this.host.phase.waiting n (base w) in
      staying (is_up w.this.host) (is_up (reset_steps (ResetStep.Sends n) (base w)).this) w.this.ends (λ e. sym up ∙ e) p
  step-keeps (Sends_text on) w f p = sending-stands on (w.this.texts on).slot w.this p
  step-keeps Hears w f p = coming-stands w.that.control.subnet w p
  step-keeps (Hears_text on head) w f p = text_coming-stands on head (w.that.texts on).subnet w p
  step-keeps (Text_is_answered on) w f p = text_answered-stands on (w.this.texts on).slot (w.this.texts on).subnet w.this p
  step-keeps Is_answered w f p = control_answered-stands w.this.control.slot w.this.control.subnet w.this p
  step-keeps step w f p = p
