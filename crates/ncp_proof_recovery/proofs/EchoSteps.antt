-- An echo that is awaited is underway, after every step; so where nothing is underway between two that are up, none is
-- awaited.
use Rattle.std.proofs.Common.{◌≡◌, ℕ, ◌+◌, ◌<◌, Bool, true, false, not, ◌&&◌, ◌||◌, if◌then◌else◌, List, [], ◌∷◌, ◌++◌, take, drop, Option, None, Some, Result, Ok, Err, refl, sym, ap, ◌∙◌, subst, arith}
use Rattle.std.specs.FinMap.{get}
use Rattle.std.proofs.lemmas.Bool.{both_ways, cond_both, false_from_ne_true}
use Rattle.ncp_wire.specs.declared.command.Command.{Command}
use Rattle.ncp_wire.specs.declared.command.Command.TheVariants.{Rst, Rrp, Eco, Erp}
use Rattle.ncp_model.specs.declared.call_fault.CallFault.TheVariants.{Busy, QueueFull}
use Rattle.ncp_model.specs.declared.pair.Pair.{Pair}
use Rattle.ncp_model.specs.Effect.{answer, made_by_hearing, made_if_any, made_by_call}
use Rattle.ncp_model.specs.Texts.{made_by_text, Rfnm}
use Rattle.ncp_model.specs.Ends.{hear, text_in, cut_in, answered_in}
use Rattle.ncp_model.specs.EndpointEvents.{happens}
use Rattle.ncp_model.specs.Echo.{Echoes, echo_asked}
use Rattle.ncp_model.specs.Phase.{is_other, is_resetting, wants_reset, owes_answer}
use Rattle.ncp_model.specs.Sending.{is_full}
use Rattle.ncp_model.proofs.ResetLists.{bit, rrps}
use Rattle.ncp_proof_machine.specs.Delivery.{Slot, Empty, Ready, Travelling, Held, MessageTransit, Free, Accepted, Delivered, Lost, Dead, idle}
use Rattle.ncp_proof_machine.specs.Resets.{ResetHost, is_up, on_line, anew, host_resets, host_settles, host_falls, host_makes_all, host_hears, Party, This, That}
use Rattle.ncp_proof_machine.proofs.ResetKept.{Kept, settling, wanting, owing, came_up, replying}
use Rattle.ncp_proof_machine.specs.Hosts.{TextOut, Node, node_kept_echoes, quiet, node_cleared, called, happens_at, node_calls, node_echo_called, node_calls_echo, node_calls_reset, is_full_up, echo_replies, echoes_after, node_reaction, node_hears, node_hears_other, node_hears_all, node_takes_text, node_hears_text, node_cuts, node_sends_text, node_frees, text_answered, control_answered, node_text_comes, message_comes, PairCall, TwoNodes, nodes_swapped, base, NodeStep, Calls_reset, Calls, Calls_echo, Falls, Sends, Sends_text, Hears, Hears_text, Loses, Loses_text, Dies, Text_dies, Is_answered, Text_is_answered, Wakes, node_steps, NodeEvent, node_at, run_from, run, start}
use Rattle.ncp_proof_machine.proofs.HostsBase.{hears_all-control}
use Rattle.ncp_proof_headline.proofs.Lives.{live}
use Rattle.ncp_proof_recovery.proofs.Others.{called-other, hear-other, text-other, answered-other}
use Rattle.ncp_proof_headline.proofs.HostsJoined.{Joined, AllOther, up_alive, up_waits}
use Rattle.ncp_proof_headline.proofs.HostsSteps.{hears-keeps}
use Rattle.ncp_proof_headline.proofs.HostsHeld.{Ever, ever-swapped, after_step, accepted, ever}
use Rattle.ncp_proof_recovery.proofs.Lines.{line, sent-line, undelivered-line, woken-line, step-other, heard-line}
use Rattle.ncp_proof_recovery.proofs.EchoUnderway.{is_eco, is_erp, ecos, erps, Echoing, echoing-counterpart, clears-echo, settles-echo, rrp-echo, drops-echo, came, comes-echo, Made, makes-echo, all-make-echo, front-echo}

-- of two hosts, where x and y are on the lines
abbrev Echo : Node → Node → List Command → List Command → Type 0
Echo n m x y = Echoing 0 0 n.echoes.awaited m.echoes.awaited n.host m.host x y

abbrev pub EchoesLive : Node → Node → Type 0
EchoesLive n m = Echo n m (line n.control) (line m.control)

-- a host that goes down in the midst of it awaits none
kept-awaited : (h : ResetHost) (s : Echoes) → (node_kept_echoes h s).awaited ≡ (is_up h && s.awaited)
kept-awaited h s = go (is_up h)
  where
    go : (u : Bool) → (if u then s else record s { awaited = false }).awaited ≡ (u && s.awaited)
    go true = refl
    go false = refl

module _ (n m : Node) (x y : List Command) where
  abbrev b : Bool
  b = m.echoes.awaited

  -- the host made these, and keeps what it awaits
  abbrev Keeps : ResetHost → Echoes → Type 0
  Keeps h s = Echoing 0 0 (node_kept_echoes h s).awaited b h m.host x y

  keeps : (h : ResetHost) (s : Echoes) → Made s.awaited b h m.host x y → Keeps h s
  keeps h s r = subst (λ (t : Bool). Echoing 0 0 t b h m.host x y) (sym (kept-awaited h s)) r

  made-up : (a : Bool) (h : ResetHost) → is_up h ≡ true → Echoing 0 0 a b h m.host x y → Made a b h m.host x y
  made-up a h u r = subst (λ (t : Bool). Echoing 0 0 (t && a) b h m.host x y) (sym u) r

  makes : (cs : List Command) → AllOther cs → is_up n.host ≡ true → Kept n.host m.host x y → Echo n m x y → Keeps (host_makes_all cs n.host) n.echoes
  makes cs o u k r = keeps (host_makes_all cs n.host) n.echoes (all-make-echo cs n.echoes.awaited b n.host m.host x y o k (made-up n.echoes.awaited n.host u r))

  -- calls

  calls-echoes : (pair : Pair) (call : PairCall) → Kept n.host m.host x y → Echo n m x y → Echo (node_calls pair call n) m x y
  calls-echoes pair call k r =
      let what = called call (is_full n.host.phase) n.ends in
      cond_both (is_up n.host) (happens_at pair what n) n (λ (o : Node). Echo o m x y)
      (λ u. makes (happens pair what (get n.ends pair)).made (called-other pair what (get n.ends pair)) u k r) (λ _. r)

  asks-echoes : (byte : ℕ) → Kept n.host m.host x y → Echo n m x y → Echo (node_calls_echo byte n) m x y
  asks-echoes byte k r = cond_both (is_up n.host) (node_echo_called byte n) n (λ (o : Node). Echo o m x y) (λ u. go u n.echoes.awaited (is_full n.host.phase) r) (λ _. r)
    where
      go : is_up n.host ≡ true → (a f : Bool) → Echoing 0 0 a b n.host m.host x y
          → Keeps (host_makes_all (made_by_call (if a then Err Busy else if f then Err QueueFull else Ok (Eco byte))) n.host) (record n.echoes { awaited = a || not f })
      go u true f r = keeps n.host (record n.echoes { awaited = true }) (made-up true n.host u r)
      go u false true r = keeps n.host (record n.echoes { awaited = false }) (made-up false n.host u r)
      go u false false r = keeps (host_makes_all (Eco byte ∷ []) n.host) (record n.echoes { awaited = true })
          (makes-echo true b n.host m.host x y (Eco byte) refl u k
          (record { up = λ _. u; up_too = r.up_too; there = λ s g. omega arith; back = r.back }))

  resets-echoes : Kept n.host m.host x y → Echo n m x y → Echo (node_calls_reset n) m x y
  resets-echoes k r = cond_both (is_resetting n.host.phase) n (node_cleared (host_resets (quiet n) n.host) n) (λ (o : Node). Echo o m x y) (λ _. r)
      (λ e. subst (λ (h : ResetHost). Echoing 0 0 false b h m.host x y) (sym (becomes e))
      (settles-echo (quiet n) false b (anew (wants_reset n.host.phase)) m.host x y (wanting n.host m.host x y (grind arith) (grind arith) k)
      (clears-echo b (anew (wants_reset n.host.phase)) m.host x y (grind arith) r.up_too)))
    where
      becomes : is_resetting n.host.phase ≡ false → host_resets (quiet n) n.host ≡ host_settles (quiet n) (anew (wants_reset n.host.phase))
      becomes e = rw e refl

  -- texts

  text-echoes : (on : ℕ) (head : List Bool) (t : TextOut) → Kept n.host m.host x y → Echo n m x y → Echo (node_hears_text on head t n) m x y
  text-echoes on head t k r = cond_both (is_up n.host) (node_takes_text on head t n) n (λ (o : Node). Echo o m x y)
      (λ u. makes (made_by_text head t.bits (answer (text_in on t.of_size t.bits n.ends))) (text-other head on t.of_size t.bits n.ends) u k r) (λ _. r)

  down-makes : (cs : List Command) (h : ResetHost) → is_up h ≡ false → host_makes_all cs h ≡ h
  down-makes [] h d = refl
  down-makes (c ∷ cs) h d = let same : host_makes_all (c ∷ []) h ≡ h = rw d refl in ap (host_makes_all cs) same ∙ down-makes cs h d

  freed-echoes : (on : ℕ) → Kept n.host m.host x y → Echo n m x y → Echo (node_frees on n) m x y
  freed-echoes on k r = go (is_up n.host) refl
    where
      made : List Command
      made = made_if_any (answer (answered_in on Rfnm n.ends))

      host : ResetHost
      host = host_makes_all made n.host

      go : (u : Bool) → is_up n.host ≡ u → Echoing 0 0 (if is_up n.host then node_kept_echoes host n.echoes else n.echoes).awaited b host m.host x y
      go true u = subst (λ (t : Bool). Echoing 0 0 (if t then node_kept_echoes host n.echoes else n.echoes).awaited b host m.host x y) (sym u) (makes made (answered-other on n.ends) u k r)
      go false d =
          subst (λ (t : Bool). Echoing 0 0 (if t then node_kept_echoes host n.echoes else n.echoes).awaited b host m.host x y) (sym d)
          (subst (λ (h : ResetHost). Echoing 0 0 n.echoes.awaited b h m.host x y) (sym (down-makes made n.host d)) r)

  freed-kept : (on : ℕ) → Kept n.host m.host x y → Kept (node_frees on n).host m.host x y
  freed-kept on k = replying n.host m.host x y (made_if_any (answer (answered_in on Rfnm n.ends))) k

-- A command comes.

module _ (n m : Node) (x y : List Command) (c : Command) (o : is_other c ≡ true) (k : Kept n.host m.host x (c ∷ y)) (r : Echo n m x (c ∷ y)) where
  abbrev replied : List Command
  replied = made_by_hearing (answer (hear c n.ends)) ++ echo_replies c

  -- where a host that is up and has a place makes so of it
  heard-echoes : (is_up n.host ≡ true → Made (echoes_after c n.echoes).awaited m.echoes.awaited (host_makes_all replied (came c n.host)) m.host x y) → host_hears c (node_reaction c n) n.host ≡ (if is_up n.host then (if is_full_up (answer (hear c n.ends)) then host_falls n.host else host_makes_all replied (came c n.host)) else n.host) → Echo (if is_up n.host then node_hears_other c n else n) m x y
  heard-echoes f e = cond_both (is_up n.host) (node_hears_other c n) n (λ (o : Node). Echo o m x y) up (λ d. drops-echo n.echoes.awaited m.echoes.awaited n.host m.host x y c o d r)
    where
      heard : (h : ResetHost) → Type 0
      heard h = Keeps n m x y h (echoes_after c n.echoes)

      up : is_up n.host ≡ true → Keeps n m x y (host_hears c (node_reaction c n) n.host) (echoes_after c n.echoes)
      up u =
          let s : host_hears c (node_reaction c n) n.host ≡ (if is_full_up (answer (hear c n.ends)) then host_falls n.host else host_makes_all replied (came c n.host)) =
          e ∙ ap (λ (t : Bool). if t then (if is_full_up (answer (hear c n.ends)) then host_falls n.host else host_makes_all replied (came c n.host)) else n.host) u in
          subst (λ (h : ResetHost). Keeps n m x y h (echoes_after c n.echoes)) (sym s)
          (cond_both (is_full_up (answer (hear c n.ends))) (host_falls n.host) (host_makes_all replied (came c n.host)) (λ (h : ResetHost). Keeps n m x y h (echoes_after c n.echoes))
          (λ _. clears-echo m.echoes.awaited (host_falls n.host) m.host x y refl r.up_too)
          (λ _. keeps n m x y (host_makes_all replied (came c n.host)) (echoes_after c n.echoes) (f u)))

  came-kept : is_up n.host ≡ true → Kept (came c n.host) m.host x y
  came-kept u = came_up n.host m.host x y c u o k

  -- one that is no ECO
  others-echo : bit (is_eco c) ≡ 0 → (echoes_after c n.echoes).awaited ≡ (not (is_erp c) && n.echoes.awaited) → is_up n.host ≡ true → Made (echoes_after c n.echoes).awaited m.echoes.awaited (host_makes_all replied (came c n.host)) m.host x y
  others-echo z a u =
      let q = comes-echo n.echoes.awaited m.echoes.awaited n.host m.host x y c o u r in
      let p : Echoing 0 0 (echoes_after c n.echoes).awaited m.echoes.awaited (came c n.host) m.host x y =
      subst (λ (t : Bool). Echoing 0 0 t m.echoes.awaited (came c n.host) m.host x y) (sym a)
      (subst (λ (i : ℕ). Echoing 0 i (not (is_erp c) && n.echoes.awaited) m.echoes.awaited (came c n.host) m.host x y) z q) in
      all-make-echo replied (echoes_after c n.echoes).awaited m.echoes.awaited (came c n.host) m.host x y (hear-other c n.ends) (came-kept u)
      (made-up n m x y (echoes_after c n.echoes).awaited (came c n.host) u p)

-- an ECO is answered by its ERP
eco-echo : (n m : Node) (x y : List Command) (byte : ℕ) → Kept n.host m.host x (Eco byte ∷ y) → Echo n m x (Eco byte ∷ y) → is_up n.host ≡ true → Made n.echoes.awaited m.echoes.awaited (host_makes_all (Erp byte ∷ []) (came (Eco byte) n.host)) m.host x y
eco-echo n m x y byte k r u =
    makes-echo n.echoes.awaited m.echoes.awaited (came (Eco byte) n.host) m.host x y (Erp byte) refl u (came_up n.host m.host x y (Eco byte) u refl k)
    (comes-echo n.echoes.awaited m.echoes.awaited n.host m.host x y (Eco byte) refl u r)

hear-echoes : (c : Command) (n m : Node) (x y : List Command) → Kept n.host m.host x (c ∷ y) → Echo n m x (c ∷ y) → Echo (node_hears c n) m x y
hear-echoes Rst n m x y k r =
    settles-echo (quiet n) false m.echoes.awaited (anew (owes_answer n.host.phase)) m.host x y (owing n.host m.host x y k)
    (clears-echo m.echoes.awaited (anew (owes_answer n.host.phase)) m.host x y (grind arith) r.up_too)
hear-echoes Rrp n m x y k r = rrp-echo n.echoes.awaited m.echoes.awaited n.host m.host x y k r
hear-echoes (Eco byte) n m x y k r = heard-echoes n m x y (Eco byte) refl k r (eco-echo n m x y byte k r) refl
hear-echoes c n m x y k r = heard-echoes n m x y c refl k r (others-echo n m x y c refl k r refl refl) refl

all-echoes : (own own' : ℕ → Option Pair) (m : Node) (x : List Command) (cs : List Command) (n : Node) → Joined own own' n m x cs → Echo n m x cs → Echo (node_hears_all cs n) m x []
all-echoes own own' m x [] n j r = r
all-echoes own own' m x (c ∷ cs) n j r = all-echoes own own' m x cs (node_hears c n) (hears-keeps own own' n m x cs c j) (hear-echoes c n m x cs j.kept r)

-- The steps.

module _ (w : TwoNodes) (t : Ever w) where
  abbrev x : List Command
  x = line w.this.control

  abbrev y : List Command
  y = line w.that.control

  kept : Kept w.this.host w.that.host x y
  kept = t.holds.joined.kept

  abbrev R : ResetHost → List Command → Type 0
  R h u = Echoing 0 0 w.this.echoes.awaited w.that.echoes.awaited h w.that.host u y

  cut-echoes : (on : ℕ) (o : Option (ℕ × List Bool)) → EchoesLive w.this w.that → EchoesLive (node_cuts on o w.this) w.that
  cut-echoes on None r = r
  cut-echoes on (Some text) r = r

  sent-echoes : (on : ℕ) (slot : Slot TextOut) → EchoesLive w.this w.that → EchoesLive (node_sends_text on slot w.this) w.that
  sent-echoes on Empty r = cut-echoes on (answer (cut_in on w.this.ends)) r
  sent-echoes on (Ready u) r = r
  sent-echoes on (Travelling u) r = r
  sent-echoes on (Held u) r = r

  heard-text : (on : ℕ) (head : List Bool) (s : MessageTransit TextOut) → EchoesLive w.this w.that → EchoesLive (node_text_comes on head s w).this (node_text_comes on head s w).that
  heard-text on head (Accepted u) r = at-text u (text-echoes w.this w.that x y on head u kept r)
    where
      same : (u : TextOut) → (node_hears_text on head u w.this).control ≡ w.this.control
      same u = cond_both (is_up w.this.host) (node_takes_text on head u w.this) w.this (λ (o : Node). o.control ≡ w.this.control) (λ _. refl) (λ _. refl)

      at-text : (u : TextOut) → Echo (node_hears_text on head u w.this) w.that x y → EchoesLive (node_hears_text on head u w.this) w.that
      at-text u q = subst (λ (v : List Command). Echo (node_hears_text on head u w.this) w.that v y) (sym (ap line (same u))) q
  heard-text on head Free r = r
  heard-text on head Delivered r = r
  heard-text on head Lost r = r
  heard-text on head Dead r = r

  answered-text : (on : ℕ) (slot : Slot TextOut) (s : MessageTransit TextOut) → EchoesLive w.this w.that → EchoesLive (text_answered on slot s w.this) w.that
  answered-text on (Travelling u) Delivered r =
      let f : Node = node_frees on w.this in
      settles-echo (quiet f) f.echoes.awaited w.that.echoes.awaited f.host w.that.host x y (freed-kept w.this w.that x y on kept) (freed-echoes w.this w.that x y on kept r)
  answered-text on (Travelling u) Free r = r
  answered-text on (Travelling u) (Accepted c) r = r
  answered-text on (Travelling u) Lost r = r
  answered-text on (Travelling u) Dead r = r
  answered-text on Empty s r = r
  answered-text on (Ready u) s r = r
  answered-text on (Held u) s r = r

  answered-control : (slot : Slot (List Command)) (s : MessageTransit (List Command)) → w.this.control.slot ≡ slot → w.this.control.subnet ≡ s → R w.this.host (on_line slot s) → EchoesLive (control_answered slot s w.this) w.that
  answered-control (Travelling c) Delivered e f r =
      settles-echo (quiet (record w.this { control = idle })) w.this.echoes.awaited w.that.echoes.awaited w.this.host w.that.host [] y
      (subst (λ (u : List Command). Kept w.this.host w.that.host u y) (ap (λ (slot : Slot (List Command)). on_line slot w.this.control.subnet) e ∙ ap (on_line (Travelling c)) f) kept) r
  answered-control (Travelling c) Free e f r = r
  answered-control (Travelling c) (Accepted d) e f r = r
  answered-control (Travelling c) Lost e f r = r
  answered-control (Travelling c) Dead e f r = r
  answered-control Empty s e f r = r
  answered-control (Ready c) s e f r = r
  answered-control (Held c) s e f r = r

  heard-message : (s : MessageTransit (List Command)) → w.that.control.subnet ≡ s → EchoesLive w.this w.that → EchoesLive (message_comes s w).this (message_comes s w).that
  heard-message (Accepted d) e r =
      let j : Joined t.own t.own' w.this w.that x d = accepted t.own t.own' w.this w.that w.this.control.slot w.that.control.slot w.this.control.subnet w.that.control.subnet d t.holds e in
      let l = heard-line w.that.control.slot w.that.control.subnet d e t.holds.coming in
      let q : Echo (node_hears_all d w.this) w.that x [] = all-echoes t.own t.own' w.that x d w.this j (subst (λ (v : List Command). Echo w.this w.that x v) l.0 r) in
      subst (λ (u : List Command). Echo (node_hears_all d w.this) w.that u (on_line w.that.control.slot Delivered)) (sym (ap line (hears_all-control d w.this)))
      (subst (λ (v : List Command). Echo (node_hears_all d w.this) w.that x v) (sym l.1) q)
  heard-message Free e r = r
  heard-message Delivered e r = r
  heard-message Lost e r = r
  heard-message Dead e r = r

  abbrev Live : TwoNodes → Type 0
  Live v = EchoesLive v.this v.that

  at-line : (n : Node) → n.control ≡ w.this.control → Echo n w.that x y → EchoesLive n w.that
  at-line n e q = subst (λ (u : List Command). Echo n w.that u y) (sym (ap line e)) q

  step-echoes : (step : NodeStep) → Live w → Live (node_steps step w)
  step-echoes Calls_reset r = at-line (node_calls_reset w.this) (cond_both (is_resetting w.this.host.phase) w.this (node_cleared (host_resets (quiet w.this) w.this.host) w.this) (λ (o : Node). o.control ≡ w.this.control) (λ _. refl) (λ _. refl)) (resets-echoes w.this w.that x y kept r)
  step-echoes (Calls pair call) r = at-line (node_calls pair call w.this) (cond_both (is_up w.this.host) (happens_at pair (called call (is_full w.this.host.phase) w.this.ends) w.this) w.this (λ (o : Node). o.control ≡ w.this.control) (λ _. refl) (λ _. refl)) (calls-echoes w.this w.that x y pair call kept r)
  step-echoes (Calls_echo byte) r = at-line (node_calls_echo byte w.this) (cond_both (is_up w.this.host) (node_echo_called byte w.this) w.this (λ (o : Node). o.control ≡ w.this.control) (λ _. refl) (λ _. refl)) (asks-echoes w.this w.that x y byte kept r)
  step-echoes Falls r = clears-echo w.that.echoes.awaited (host_falls w.this.host) w.that.host x y refl r.up_too
  step-echoes (Sends i) r = sent-line R (λ j h q. front-echo j w.this.echoes.awaited w.that.echoes.awaited h w.that.host y q) (base w) w.this.control.slot w.this.control.subnet w.this.host.phase.waiting i t.holds.going r
  step-echoes (Sends_text on) r = sent-echoes on (w.this.texts on).slot r
  step-echoes Hears r = heard-message w.that.control.subnet refl r
  step-echoes (Hears_text on head) r = heard-text on head (w.that.texts on).subnet r
  step-echoes Loses r = subst (R w.this.host) (sym (undelivered-line Lost (λ c. refl) w.this.control.slot w.this.control.subnet t.holds.going)) r
  step-echoes (Loses_text on) r = r
  step-echoes Dies r = subst (R w.this.host) (sym (undelivered-line Dead (λ c. refl) w.this.control.slot w.this.control.subnet t.holds.going)) r
  step-echoes (Text_dies on) r = r
  step-echoes Is_answered r = answered-control w.this.control.slot w.this.control.subnet refl refl r
  step-echoes (Text_is_answered on) r = answered-text on (w.this.texts on).slot (w.this.texts on).subnet r
  step-echoes Wakes r = subst (R w.this.host) (sym (woken-line w.this.control.slot w.this.control.subnet t.holds.going)) r

-- A run.

counterpart : (w : TwoNodes) → EchoesLive w.this w.that → EchoesLive w.that w.this
counterpart w r = echoing-counterpart w.this.echoes.awaited w.that.echoes.awaited w.this.host w.that.host (line w.this.control) (line w.that.control) r

side-echoes : (side : Party) (step : NodeStep) (w : TwoNodes) → Ever w → EchoesLive w.this w.that → EchoesLive (node_at side step w).this (node_at side step w).that
side-echoes This step w t r = step-echoes w t step r
side-echoes That step w t r = counterpart (node_steps step (nodes_swapped w)) (step-echoes (nodes_swapped w) (ever-swapped w t) step (counterpart w r))

run-echoes : (es : List NodeEvent) (w : TwoNodes) → Ever w → EchoesLive w.this w.that → EchoesLive (run_from es w).this (run_from es w).that
run-echoes [] w t r = r
run-echoes (e ∷ es) w t r = run-echoes es (node_at e.side e.step w) (after_step e w t) (side-echoes e.side e.step w t r)

pub ever-echoes : (es : List NodeEvent) → EchoesLive (run es).this (run es).that
ever-echoes es = run-echoes es start (ever []) (clears-echo false start.this.host start.that.host [] [] refl (λ e. absurd (both_ways false refl e)))

-- where nothing is underway between two that are up, none is awaited
pub none-awaited : (w : TwoNodes) → EchoesLive w.this w.that → line w.this.control ++ w.this.host.phase.waiting ≡ [] → line w.that.control ++ w.that.host.phase.waiting ≡ [] → is_up w.this.host ≡ true → is_up w.that.host ≡ true → w.this.echoes.awaited ≡ false
none-awaited w r e f u v = false_from_ne_true w.this.echoes.awaited (λ s.
    let a = up_alive w.that.host (rrps (line w.this.control ++ w.this.host.phase.waiting)) v in
    let i : 0 < 0 + ecos (live w.that.host.phase.wait (line w.this.control ++ w.this.host.phase.waiting)) + erps (live w.this.host.phase.wait (line w.that.control ++ w.that.host.phase.waiting)) = r.there s a in
    let j : 0 < 0 + ecos (live w.that.host.phase.wait []) + erps (live w.this.host.phase.wait []) =
    subst (λ (l : List Command). 0 < 0 + ecos (live w.that.host.phase.wait l) + erps (live w.this.host.phase.wait [])) e
    (subst (λ (l : List Command). 0 < 0 + ecos (live w.that.host.phase.wait (line w.this.control ++ w.this.host.phase.waiting)) + erps (live w.this.host.phase.wait l)) f i) in
    let g : 0 < 0 + ecos (live false []) + erps (live false []) =
    subst (λ (b : Bool). 0 < 0 + ecos (live b []) + erps (live false [])) (up_waits w.that.host v)
    (subst (λ (b : Bool). 0 < 0 + ecos (live w.that.host.phase.wait []) + erps (live b [])) (up_waits w.this.host u) j) in
    omega (arith, g))
