-- From an accepted reset on: either the host that reset is about to make its RST, or that is underway; or both hosts
-- begin anew. No step but a call changes that.
use Rattle.std.proofs.Common.{◌≡◌, ℕ, ◌+◌, Bool, true, false, if◌then◌else◌, List, [], ◌∷◌, ◌++◌, take, drop, Option, None, Some, inl, inr, ◌⊎◌, refl, sym, ap, ◌∙◌, subst}
use Rattle.std.specs.FinMap.{get, get-empty}
use Rattle.std.proofs.lemmas.Bool.{both_ways, cond_both}
use Rattle.ncp_wire.specs.declared.command.Command.{Command}
use Rattle.ncp_wire.specs.declared.command.Command.TheVariants.{Rst, Rrp}
use Rattle.ncp_model.specs.declared.pair.Pair.{Pair}
use Rattle.ncp_model.specs.Pairs.{pair_cmp, counterpart}
use Rattle.ncp_model.specs.Endpoint.{Endpoint}
use Rattle.ncp_model.specs.Effect.{answer, made_if_any}
use Rattle.ncp_model.specs.Texts.{Rfnm}
use Rattle.ncp_model.specs.Ends.{Ends, no_ends, uses_link, sender_on, pair_of, cut_in, answered_in, map_after_at}
use Rattle.ncp_model.specs.Demux.{passes}
use Rattle.ncp_model.specs.Echo.{Echoes}
use Rattle.ncp_model.specs.Phase.{is_resetting, wants_reset, owes_answer}
use Rattle.ncp_model.proofs.ResetLists.{rrps}
use Rattle.ncp_proof_machine.specs.Delivery.{Slot, Empty, Ready, Travelling, Held, MessageTransit, Free, Accepted, Delivered, Lost, Dead, Link, idle, undelivered, link_answered, woken}
use Rattle.ncp_proof_machine.specs.Resets.{ResetHost, is_up, on_line, anew, host_resets, host_settles, host_makes_all, Party, This, That}
use Rattle.ncp_proof_machine.proofs.ResetKept.{Kept, settling, owing}
use Rattle.ncp_proof_machine.proofs.ResetRuns.{Tied, fronting}
use Rattle.ncp_proof_machine.specs.Hosts.{TextOut, Node, node_kept, node_kept_echoes, quiet, node_cleared, node_calls_reset, node_hears, node_hears_other, node_hears_all, node_takes_text, node_hears_text, node_cuts, node_sends_text, node_frees, node_settles, text_answered, control_answered, node_text_comes, message_comes, TwoNodes, nodes_swapped, base, NodeStep, Calls_reset, Calls, Calls_echo, Falls, Sends, Sends_text, Hears, Hears_text, Loses, Loses_text, Dies, Text_dies, Is_answered, Text_is_answered, Wakes, node_steps, NodeEvent, node_at, run_from}
use Rattle.ncp_proof_machine.proofs.HostsBase.{hears_all-control}
use Rattle.ncp_proof_machine.proofs.Standing.{nothing_out}
use Rattle.ncp_proof_headline.proofs.Ties.{Owners, Owned}
use Rattle.ncp_proof_recovery.proofs.Others.{gone-answer, gone-answer-map}
use Rattle.ncp_proof_headline.proofs.TiesTexts.{text-out-stands}
use Rattle.ncp_proof_headline.proofs.HostsJoined.{lives, is_alive, Joined, up_alive}
use Rattle.ncp_proof_headline.proofs.HostsSteps.{hears-keeps}
use Rattle.ncp_proof_headline.proofs.HostsHeld.{Ever, ever-swapped, after_step, accepted}
use Rattle.ncp_proof_recovery.specs.Recovery.{disturbs, IsUndisturbed, node_of_party}
use Rattle.ncp_proof_recovery.proofs.Lines.{line, sent-line, undelivered-line, woken-line, step-other, heard-line}
use Rattle.ncp_proof_recovery.proofs.Anew.{Anew, Asked, anew-counterpart, asked-not-up, settles-asked, rst-asked, other-asked, settles-anew, rst-anew, rst-begins, rrp-anew, drop-anew, up-hears-none, front-asked, front-anew}

-- nothing of an earlier life is there
abbrev pub Bare : Node → Type 0
Bare n = (n.ends ≡ no_ends) × (n.echoes.awaited ≡ false)

-- R holds of the host and of its control link, and nothing of an earlier life is there
abbrev Fresh : (ResetHost → Link (List Command) → Type 0) → Node → Type 0
Fresh R n = R n.host n.control × Bare n

abbrev pub Asking : Node → Type 0
Asking n = Fresh (λ h l. Asked h (line l)) n

abbrev pub Begun : Node → Node → Type 0
Begun n m = Anew n.host m.host (line n.control) (line m.control) × Bare n × Bare m

begun-counterpart : (n m : Node) → Begun n m → Begun m n
begun-counterpart n m b = (anew-counterpart n.host m.host (line n.control) (line m.control) b.0, b.2, b.1)

-- Texts find no end.

module _ (R : ResetHost → Link (List Command) → Type 0) (on : ℕ) where
  cut-fresh : (slot : Slot TextOut) (n : Node) → Fresh R n → Fresh R (node_sends_text on slot n)
  cut-fresh Empty n p = subst (λ (o : Option (ℕ × List Bool)). Fresh R (node_cuts on o n)) (sym (ap (λ (d : Ends). answer (cut_in on d)) p.1.0 ∙ nothing_out on)) p
  cut-fresh (Ready t) n p = p
  cut-fresh (Travelling t) n p = p
  cut-fresh (Held t) n p = p

  freed-ends : (n : Node) (h : ResetHost) → n.ends ≡ no_ends → (if is_up n.host then node_kept h (map_after_at n.ends (pair_of (sender_on on n.ends)) (answered_in on Rfnm n.ends)) else n.ends) ≡ no_ends
  freed-ends n h e =
      let m : Ends = map_after_at n.ends (pair_of (sender_on on n.ends)) (answered_in on Rfnm n.ends) in
      let none : m ≡ no_ends = ap (λ (d : Ends). map_after_at d (pair_of (sender_on on d)) (answered_in on Rfnm d)) e ∙ gone-answer-map on in
      cond_both (is_up n.host) (node_kept h m) n.ends (λ (d : Ends). d ≡ no_ends) (λ _. cond_both (is_up h) m no_ends (λ (d : Ends). d ≡ no_ends) (λ _. none) (λ _. refl)) (λ _. e)

  freed-echo : (n : Node) (h : ResetHost) → n.echoes.awaited ≡ false → (if is_up n.host then node_kept_echoes h n.echoes else n.echoes).awaited ≡ false
  freed-echo n h e =
      cond_both (is_up n.host) (node_kept_echoes h n.echoes) n.echoes (λ (s : Echoes). s.awaited ≡ false)
      (λ _. cond_both (is_up h) n.echoes (record n.echoes { awaited = false }) (λ (s : Echoes). s.awaited ≡ false) (λ _. e) (λ _. refl)) (λ _. e)

  freed-fresh : (n : Node) → Fresh R n → Fresh R (node_frees on n)
  freed-fresh n p =
      let none : made_if_any (answer (answered_in on Rfnm n.ends)) ≡ [] = ap made_if_any (ap (λ (d : Ends). answer (answered_in on Rfnm d)) p.1.0 ∙ gone-answer on) in
      (subst (λ (cs : List Command). R (host_makes_all cs n.host) n.control) (sym none) p.0, (freed-ends n (node_frees on n).host p.1.0, freed-echo n (node_frees on n).host p.1.1))

  text-fresh : (head : List Bool) (t : TextOut) (n : Node) → (is_up n.host ≡ true → ⊥) → Fresh R n → Fresh R (node_hears_text on head t n)
  text-fresh head t n f p = cond_both (is_up n.host) (node_takes_text on head t n) n (Fresh R) (λ e. absurd (f e)) (λ _. p)

module _ (R : ResetHost → Link (List Command) → Type 0) (settled : (b : Bool) (h : ResetHost) (l : Link (List Command)) → R h l → R (host_settles b h) l) where
  answered-fresh : (on : ℕ) (slot : Slot TextOut) (subnet : MessageTransit TextOut) (n : Node) → Fresh R n → Fresh R (text_answered on slot subnet n)
  answered-fresh on (Travelling t) Delivered n p = let q = freed-fresh R on n p in (settled (quiet (node_frees on n)) (node_frees on n).host (node_frees on n).control q.0, q.1)
  answered-fresh on (Travelling t) Free n p = p
  answered-fresh on (Travelling t) (Accepted c) n p = p
  answered-fresh on (Travelling t) Lost n p = p
  answered-fresh on (Travelling t) Dead n p = p
  answered-fresh on Empty s n p = p
  answered-fresh on (Ready t) s n p = p
  answered-fresh on (Held t) s n p = p

-- a text on its way to a host that is up finds an end there
text-finds-end : (own own' : Owners) (n m : Node) (x y : List Command) (on : ℕ) (t : TextOut) → (m.texts on).subnet ≡ Accepted t → Joined own own' n m x y → n.ends ≡ no_ends → is_up n.host ≡ true → ⊥
text-finds-end own own' n m x y on t s j e u =
    let p = owner (own' on) (j.ties.here.texts.owned on) in
    let a : is_alive n m y ≡ true = up_alive n.host (rrps (y ++ m.host.phase.waiting)) u in
    let h : passes (uses_link on) (counterpart p.0) (get n.ends (counterpart p.0)) ≡ true = text-out-stands (is_alive n m y) (is_alive m n x) own own' n m (lives n m x) (lives m n y) on p.0 a p.1 j.ties in
    let z : passes (uses_link on) (counterpart p.0) (get n.ends (counterpart p.0)) ≡ false = ap (λ (d : Ends). passes (uses_link on) (counterpart p.0) (get d (counterpart p.0))) e ∙ ap (λ (o : Option Endpoint). passes (uses_link on) (counterpart p.0) o) (get-empty pair_cmp (counterpart p.0)) in
    both_ways (passes (uses_link on) (counterpart p.0) (get n.ends (counterpart p.0))) z h
  where
    owner : (o : Option Pair) → Owned on o (m.texts on) j.ties.back.text → (p : Pair) × (o ≡ Some p)
    owner None w = absurd (cc (sym s ∙ ap (λ (k : Link TextOut). k.subnet) w))
    owner (Some p) w = (p, refl)

-- Commands come.

hear-asking : (c : Command) (n m : Node) (x y : List Command) → Kept n.host m.host x (c ∷ y) → Asked n.host x → Bare n → Asked (node_hears c n).host x × Bare (node_hears c n)
hear-asking Rst n m x y k a b = (settles-asked (quiet n) (anew (owes_answer n.host.phase)) x (rst-asked n.host x a), (refl, refl))
hear-asking Rrp n m x y k a b = (rrp a, b)
  where
    rrp : Asked n.host x → Asked (node_hears Rrp n).host x
    rrp (inl w) = inl w
    rrp (inr r) = inr r
hear-asking c n m x y k a b = cond_both (is_up n.host) (node_hears_other c n) n (λ (o : Node). Asked o.host x × Bare o) (λ e. absurd (both_ways (is_up n.host) (asked-not-up n.host m.host x (c ∷ y) k a) e)) (λ _. (a, b))

abbrev AreAnew : Node → Node → List Command → List Command → Type 0
AreAnew n m x y = Anew n.host m.host x y × Bare n

hear-anew : (c : Command) (n m : Node) (x y : List Command) → Kept n.host m.host x (c ∷ y) → AreAnew n m x (c ∷ y) → AreAnew (node_hears c n) m x y
hear-anew Rst n m x y k a =
    (settles-anew (quiet n) (anew (owes_answer n.host.phase)) m.host x y (owing n.host m.host x y k) (rst-anew n.host m.host x y k a.0), (refl, refl))
hear-anew Rrp n m x y k a = (rrp-anew n.host m.host x y k a.0, a.1)
hear-anew c n m x y k a =
    cond_both (is_up n.host) (node_hears_other c n) n (λ (o : Node). AreAnew o m x y) (λ e. absurd (up-hears-none n.host m.host x y c refl e a.0)) (λ _. (drop-anew n.host m.host x y c refl a.0, a.1))

-- from a host that has asked
hear-asked : (c : Command) (n m : Node) (x y : List Command) → Kept n.host m.host x (c ∷ y) → Asked m.host (c ∷ y) → Asked m.host y ⊎ AreAnew (node_hears c n) m x y
hear-asked Rst n m x y k a =
    inr (settles-anew (quiet n) (anew (owes_answer n.host.phase)) m.host x y (owing n.host m.host x y k) (rst-begins n.host m.host x y k a), (refl, refl))
hear-asked c n m x y k a = inl (other-asked m.host c y refl a)

module _ (own own' : Owners) (m : Node) (x : List Command) where
  all-asking : (cs : List Command) (n : Node) → Joined own own' n m x cs → Asked n.host x → Bare n → Asked (node_hears_all cs n).host x × Bare (node_hears_all cs n)
  all-asking [] n j a b = (a, b)
  all-asking (c ∷ cs) n j a b = let p = hear-asking c n m x cs j.kept a b in all-asking cs (node_hears c n) (hears-keeps own own' n m x cs c j) p.0 p.1

  all-anew : (cs : List Command) (n : Node) → Joined own own' n m x cs → AreAnew n m x cs → AreAnew (node_hears_all cs n) m x []
  all-anew [] n j a = a
  all-anew (c ∷ cs) n j a = all-anew cs (node_hears c n) (hears-keeps own own' n m x cs c j) (hear-anew c n m x cs j.kept a)

  all-asked : (cs : List Command) (n : Node) → Joined own own' n m x cs → Asked m.host cs → Asked m.host [] ⊎ AreAnew (node_hears_all cs n) m x []
  all-asked [] n j a = inl a
  all-asked (c ∷ cs) n j a = go (hear-asked c n m x cs j.kept a) (λ b. all-asked cs (node_hears c n) after b)
    where
      after : Joined own own' (node_hears c n) m x cs
      after = hears-keeps own own' n m x cs c j

      go : Asked m.host cs ⊎ AreAnew (node_hears c n) m x cs → (Asked m.host cs → Asked m.host [] ⊎ AreAnew (node_hears_all cs (node_hears c n)) m x []) → Asked m.host [] ⊎ AreAnew (node_hears_all cs (node_hears c n)) m x []
      go (inl b) f = f b
      go (inr b) f = inr (all-anew cs (node_hears c n) after b)

-- the answer to a control message leaves what is on the line
module _ (R : ResetHost → List Command → Type 0) (settled : (b : Bool) (h : ResetHost) (x : List Command) → R h x → R (host_settles b h) x) where
  control-fresh : (slot : Slot (List Command)) (subnet : MessageTransit (List Command)) (n : Node) → R n.host (on_line slot subnet) → Bare n
      → let a = control_answered slot subnet n in
      R a.host (line a.control) × Bare a
  control-fresh (Travelling c) Delivered n p b = (settled (quiet (record n { control = idle })) n.host [] p, b)
  control-fresh (Travelling c) Free n p b = (p, b)
  control-fresh (Travelling c) (Accepted d) n p b = (p, b)
  control-fresh (Travelling c) Lost n p b = (p, b)
  control-fresh (Travelling c) Dead n p b = (p, b)
  control-fresh Empty s n p b = (p, b)
  control-fresh (Ready c) s n p b = (p, b)
  control-fresh (Held c) s n p b = (p, b)

-- The steps of a host, where R holds of its phase and its line, and stays where it settles and sends.

module _ (w : TwoNodes) (t : Ever w) (R : ResetHost → List Command → Type 0)
    (front : (i : ℕ) (h : ResetHost) → R h [] → R (record h { phase = record h.phase { waiting = drop i h.phase.waiting } }) (take i h.phase.waiting))
    (settled : (b : Bool) (h : ResetHost) (x : List Command) → R h x → R (host_settles b h) x)
    (up : is_up w.this.host ≡ true → R w.this.host (line w.this.control) → w.this.ends ≡ no_ends → (on : ℕ) (u : TextOut) → (w.that.texts on).subnet ≡ Accepted u → ⊥) where
  abbrev Stays : Node → Type 0
  Stays n = Fresh (λ h l. R h (line l)) n

  text-stays : (on : ℕ) (head : List Bool) (s : MessageTransit TextOut) → (w.that.texts on).subnet ≡ s → Stays w.this → Stays (node_text_comes on head s w).this
  text-stays on head (Accepted u) e p = text-fresh (λ h l. R h (line l)) on head u w.this (λ b. up b p.0 p.1.0 on u e) p
  text-stays on head Free e p = p
  text-stays on head Delivered e p = p
  text-stays on head Lost e p = p
  text-stays on head Dead e p = p

  -- all but hearing commands
  step-stays : (step : NodeStep) → disturbs step ≡ false → (step ≡ Hears → ⊥) → Stays w.this → Stays (node_steps step w).this
  step-stays Calls_reset q n p = absurd (cc q)
  step-stays (Calls pair call) q n p = absurd (cc q)
  step-stays (Calls_echo byte) q n p = absurd (cc q)
  step-stays Falls q n p = absurd (cc q)
  step-stays (Sends i) q n p = (sent-line R front (base w) w.this.control.slot w.this.control.subnet w.this.host.phase.waiting i t.holds.going p.0, p.1)
  step-stays (Sends_text on) q n p = cut-fresh (λ h l. R h (line l)) on (w.this.texts on).slot w.this p
  step-stays Hears q n p = absurd (n refl)
  step-stays (Hears_text on head) q n p = text-stays on head (w.that.texts on).subnet refl p
  step-stays Loses q n p = (subst (R w.this.host) (sym (undelivered-line Lost (λ c. refl) w.this.control.slot w.this.control.subnet t.holds.going)) p.0, p.1)
  step-stays (Loses_text on) q n p = p
  step-stays Dies q n p = (subst (R w.this.host) (sym (undelivered-line Dead (λ c. refl) w.this.control.slot w.this.control.subnet t.holds.going)) p.0, p.1)
  step-stays (Text_dies on) q n p = p
  step-stays Is_answered q n p = control-fresh R settled w.this.control.slot w.this.control.subnet w.this p.0 p.1
  step-stays (Text_is_answered on) q n p = answered-fresh (λ h l. R h (line l)) (λ b h l r. settled b h (line l) r) on (w.this.texts on).slot (w.this.texts on).subnet w.this p
  step-stays Wakes q n p = (subst (R w.this.host) (sym (woken-line w.this.control.slot w.this.control.subnet t.holds.going)) p.0, p.1)

module _ (w : TwoNodes) (t : Ever w) where
  abbrev x : List Command
  x = line w.this.control

  abbrev Heard : Node → Node → Type 0
  Heard n m = Asking n ⊎ Begun n m

  module _ (d : List Command) (e : w.that.control.subnet ≡ Accepted d) where
    joined : Joined t.own t.own' w.this w.that x d
    joined = accepted t.own t.own' w.this w.that w.this.control.slot w.that.control.slot w.this.control.subnet w.that.control.subnet d t.holds e

    lines : (line w.that.control ≡ d) × (on_line w.that.control.slot Delivered ≡ [])
    lines = heard-line w.that.control.slot w.that.control.subnet d e t.holds.coming

    -- this host after the message
    abbrev heard : Node
    heard = node_hears_all d w.this

    same : line heard.control ≡ x
    same = ap line (hears_all-control d w.this)

    message-asking : Asking w.this → Asking heard
    message-asking p =
        let q = all-asking t.own t.own' w.that x d w.this joined p.0 p.1 in
        (subst (Asked heard.host) (sym same) q.0, q.1)

    are-begun : Bare w.that → AreAnew heard w.that x [] → Begun heard (record w.that { control = record w.that.control { subnet = Delivered } })
    are-begun b q = (
      subst (λ (u : List Command). Anew heard.host w.that.host u (on_line w.that.control.slot Delivered)) (sym same)
          (subst (λ (v : List Command). Anew heard.host w.that.host x v) (sym lines.1) q.0),
      q.1,
      b,
    )

    message-begun : Begun w.this w.that → Begun heard (record w.that { control = record w.that.control { subnet = Delivered } })
    message-begun b = are-begun b.2 (all-anew t.own t.own' w.that x d w.this joined (subst (λ (v : List Command). Anew w.this.host w.that.host x v) lines.0 b.0, b.1))

    message-asked : Asking w.that → Asking (record w.that { control = record w.that.control { subnet = Delivered } }) ⊎ Begun heard (record w.that { control = record w.that.control { subnet = Delivered } })
    message-asked p = go (all-asked t.own t.own' w.that x d w.this joined (subst (Asked w.that.host) lines.0 p.0))
      where
        go : Asked w.that.host [] ⊎ AreAnew heard w.that x [] → Asking (record w.that { control = record w.that.control { subnet = Delivered } }) ⊎ Begun heard (record w.that { control = record w.that.control { subnet = Delivered } })
        go (inl a) = inl (subst (Asked w.that.host) (sym lines.1) a, p.1)
        go (inr q) = inr (are-begun p.1 q)

  -- this host has asked

  hears-asking : (s : MessageTransit (List Command)) → w.that.control.subnet ≡ s → Asking w.this → Asking (message_comes s w).this
  hears-asking (Accepted d) e p = message-asking d e p
  hears-asking Free e p = p
  hears-asking Delivered e p = p
  hears-asking Lost e p = p
  hears-asking Dead e p = p

  step-asking : (step : NodeStep) → disturbs step ≡ false → Asking w.this → Asking (node_steps step w).this
  step-asking Hears q p = hears-asking w.that.control.subnet refl p
  step-asking step q p =
      step-stays w t Asked front-asked settles-asked
      (λ u a e on b s. both_ways (is_up w.this.host) (asked-not-up w.this.host w.that.host x (line w.that.control) t.holds.joined.kept a) u) step q (λ e. cc e) p

  -- both begin anew

  abbrev Both : ResetHost → List Command → Type 0
  Both h u = Kept h w.that.host u (line w.that.control) × Anew h w.that.host u (line w.that.control)

  hears-begun : (s : MessageTransit (List Command)) → w.that.control.subnet ≡ s → Begun w.this w.that → Begun (message_comes s w).this (message_comes s w).that
  hears-begun (Accepted d) e b = message-begun d e b
  hears-begun Free e b = b
  hears-begun Delivered e b = b
  hears-begun Lost e b = b
  hears-begun Dead e b = b

  step-begun : (step : NodeStep) → disturbs step ≡ false → Begun w.this w.that → Begun (node_steps step w).this (node_steps step w).that
  step-begun Hears q b = hears-begun w.that.control.subnet refl b
  step-begun step q b =
      let p = step-stays w t Both
      (λ i h r. (fronting h w.that.host (line w.that.control) i r.0, front-anew i h w.that.host (line w.that.control) r.1))
      (λ c h u r. (settling h w.that.host u (line w.that.control) c r.0, settles-anew c h w.that.host u (line w.that.control) r.0 r.1))
      (λ u r e on s f. text-finds-end t.own t.own' w.this w.that x (line w.that.control) on s f t.holds.joined e u) step q (λ e. cc e) ((t.holds.joined.kept, b.0), b.1) in
      step-other (λ (m : Node). Begun (node_steps step w).this m) (λ n links r. r) step w (λ e. cc e) (p.0.1, p.1, b.2)

  -- that host has asked

  hears-asked : (s : MessageTransit (List Command)) → w.that.control.subnet ≡ s → Asking w.that → Heard (message_comes s w).that (message_comes s w).this
  hears-asked (Accepted d) e p = go (message-asked d e p)
    where
      go : Asking (record w.that { control = record w.that.control { subnet = Delivered } }) ⊎ Begun (heard d e) (record w.that { control = record w.that.control { subnet = Delivered } }) → Heard (record w.that { control = record w.that.control { subnet = Delivered } }) (heard d e)
      go (inl a) = inl a
      go (inr b) = inr (begun-counterpart (heard d e) (record w.that { control = record w.that.control { subnet = Delivered } }) b)
  hears-asked Free e p = inl p
  hears-asked Delivered e p = inl p
  hears-asked Lost e p = inl p
  hears-asked Dead e p = inl p

  step-asked : (step : NodeStep) → disturbs step ≡ false → Asking w.that → Heard (node_steps step w).that (node_steps step w).this
  step-asked Hears q p = hears-asked w.that.control.subnet refl p
  step-asked step q p = inl (step-other Asking (λ n links r. r) step w (λ e. cc e) p)

  -- a step of the host that has asked, and one of its peer

  own-step : (step : NodeStep) → disturbs step ≡ false → Heard w.this w.that → Heard (node_steps step w).this (node_steps step w).that
  own-step step q (inl p) = inl (step-asking step q p)
  own-step step q (inr b) = inr (step-begun step q b)

  peer-step : (step : NodeStep) → disturbs step ≡ false → Heard w.that w.this → Heard (node_steps step w).that (node_steps step w).this
  peer-step step q (inl p) = step-asked step q p
  peer-step step q (inr b) = inr (begun-counterpart (node_steps step w).this (node_steps step w).that (step-begun step q (begun-counterpart w.that w.this b)))

-- The host of a side has asked, or both begin anew.

abbrev pub Recovers : Party → TwoNodes → Type 0
Recovers This w = Asking w.this ⊎ Begun w.this w.that
Recovers That w = Asking w.that ⊎ Begun w.that w.this

pub side-recovers : (asker side : Party) (step : NodeStep) (w : TwoNodes) → Ever w → disturbs step ≡ false → Recovers asker w → Recovers asker (node_at side step w)
side-recovers This This step w t q p = own-step w t step q p
side-recovers That This step w t q p = peer-step w t step q p
side-recovers This That step w t q p = peer-step (nodes_swapped w) (ever-swapped w t) step q p
side-recovers That That step w t q p = own-step (nodes_swapped w) (ever-swapped w t) step q p

pub run-recovers : (asker : Party) (es : List NodeEvent) (w : TwoNodes) → Ever w → IsUndisturbed es → Recovers asker w → Recovers asker (run_from es w)
run-recovers asker [] w t q p = p
run-recovers asker (e ∷ es) w t q p = run-recovers asker es (node_at e.side e.step w) (after_step e w t) q.1 (side-recovers asker e.side e.step w t q.0 p)

-- The reset, where it is accepted.

reset-asks : (n : Node) → is_resetting n.host.phase ≡ false → Asking (node_calls_reset n)
reset-asks n e =
    let a : Asked (host_settles (quiet n) (anew (wants_reset n.host.phase))) (line n.control) = settles-asked (quiet n) (anew (wants_reset n.host.phase)) (line n.control) (inl refl) in
    let becomes : host_resets (quiet n) n.host ≡ host_settles (quiet n) (anew (wants_reset n.host.phase)) = rw e refl in
    subst (λ (b : Bool). Asking (if b then n else node_cleared (host_resets (quiet n) n.host) n)) (sym e) (subst (λ (h : ResetHost). Asked h (line n.control)) (sym becomes) a, (refl, refl))

pub reset-recovers : (asker : Party) (w : TwoNodes) → is_resetting (node_of_party asker w).host.phase ≡ false → Recovers asker (node_at asker Calls_reset w)
reset-recovers This w e = inl (reset-asks w.this e)
reset-recovers That w e = inl (reset-asks w.that e)
