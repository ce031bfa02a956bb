-- How many commands wait at a host of the model, whatever happens: 512 at most.
use Rattle.std.proofs.Common.{◌≡◌, ◌≤◌, ◌+◌, ℕ, Bool, true, false, ◌&&◌, if◌then◌else◌, List, [], ◌∷◌, ◌++◌, length, refl, sym, ap, ◌∙◌, subst, arith}
use Rattle.std.specs.List.{list_any}
use Rattle.std.proofs.lemmas.Bool.{ltb-true}
use Rattle.ncp_wire.specs.declared.command.Command.{Command}
use Rattle.ncp_wire.specs.declared.command.Command.TheVariants.{Rst, Rrp}
use Rattle.ncp_model.specs.declared.limits.TheConstants.{MAX_WAITING}
use Rattle.ncp_model.specs.Phase.{Phase, new_phase, is_rst, is_rrp, is_other, has_room_for_one, queued, phase_answers, phase_asks, phase_settles, is_resetting, wants_reset, owes_answer, resets, Reaction}
use Rattle.ncp_proof_machine.specs.Delivery.{Slot, Empty, Ready, Travelling, Held, MessageTransit, Free, Accepted, Delivered, Lost, Dead}
use Rattle.ncp_proof_machine.specs.Resets.{ResetHost, is_up, anew, host_makes, host_makes_all, host_falls, host_hears, host_hears_other, no_reaction, host_hears_all, ResetWorld, resets_swapped, ResetStep, Resets, Makes, Falls, Settles, Sends, Hears, Loses, Dies, Is_answered, Wakes, reset_sends, reset_comes, reset_steps, Party, This, That, ResetEvent, reset_at, reset_run_from, reset_start}
use Rattle.ncp_proof_machine.specs.Hosts as hosts
use Rattle.ncp_proof_machine.proofs.HostsBase as bases
use Rattle.ncp_phase.specs.Waiting.{QueueFits}
use Rattle.ncp_transcript_two.specs.Tie.{IsReachable}
use Rattle.ncp_transcript_two.proofs.Reaching.{reached-run}
use Rattle.ncp_phase.proofs.Waits.{waits_down, waits_wanted, waits_owing, waits_queued, waits_heard, waits_dropped, few_owing, few_wanting, one_rrp, one_rst}

abbrev Keeps : ResetHost → Type 0
Keeps h = QueueFits h.phase

answering : (p : Phase) → QueueFits p → QueueFits (phase_answers p)
answering p k = go p.owe refl (list_any is_rrp p.waiting) refl
  where
    go : (a : Bool) → p.owe ≡ a → (b : Bool) → list_any is_rrp p.waiting ≡ b → QueueFits (if a then record p { down = false; owe = false; waiting = if b then p.waiting else p.waiting ++ Rrp ∷ [] } else p)
    go false e b f = k
    go true e true f = record { place = k.place; rst = k.rst; rrp = k.rrp; few = λ _. few_owing p k e }
    go true e false f = let x = one_rrp p.waiting (few_owing p k e) k.rst f in record { place = x.place; rst = x.rst; rrp = x.rrp; few = λ _. x.few }

asking : (p : Phase) → QueueFits p → QueueFits (phase_asks p)
asking p k = go p.want refl (list_any is_rst p.waiting) refl
  where
    go : (a : Bool) → p.want ≡ a → (b : Bool) → list_any is_rst p.waiting ≡ b → QueueFits (if a then record p { down = false; want = false; wait = true; waiting = if b then p.waiting else p.waiting ++ Rst ∷ [] } else p)
    go false e b f = k
    go true e true f = record { place = k.place; rst = k.rst; rrp = k.rrp; few = λ _. few_wanting p k e }
    go true e false f = let x = one_rst p.waiting (few_wanting p k e) k.rrp f in record { place = x.place; rst = x.rst; rrp = x.rrp; few = λ _. x.few }

settling : (quiet : Bool) (p : Phase) → QueueFits p → QueueFits (phase_settles quiet p)
settling true p k = asking (phase_answers p) (answering p k)
settling false p k = k

resetting : (quiet : Bool) (p : Phase) → QueueFits p → QueueFits (if is_resetting p then p else phase_settles quiet (wants_reset p))
resetting quiet p k = go (is_resetting p)
  where
    go : (b : Bool) → QueueFits (if b then p else phase_settles quiet (wants_reset p))
    go true = k
    go false = settling quiet (wants_reset p) (waits_wanted p k)

making : (c : Command) (h : ResetHost) → Keeps h → Keeps (host_makes c h)
making c h k = go (is_up h) refl (is_other c) refl (has_room_for_one h.phase) refl
  where
    go : (a : Bool) → is_up h ≡ a → (b : Bool) → is_other c ≡ b → (d : Bool) → has_room_for_one h.phase ≡ d
        → Keeps (if a && b then (if d then record h { phase = queued c h.phase; made = h.made ++ c ∷ [] } else host_falls h) else h)
    go false u b o d l = k
    go true u false o d l = k
    go true u true o true l = waits_queued c h.phase u o (ltb-true (length h.phase.waiting) MAX_WAITING l) k
    go true u true o false l = waits_down h.phase k

making_all : (cs : List Command) (h : ResetHost) → Keeps h → Keeps (host_makes_all cs h)
making_all [] h k = k
making_all (c ∷ cs) h k = making_all cs (host_makes c h) (making c h k)

hearing_other : (c : Command) (r : Reaction) (h : ResetHost) → Keeps h → Keeps (host_hears_other c r h)
hearing_other c r h k = go (is_up h) r.full
  where
    go : (a b : Bool) → Keeps (if a then (if b then host_falls h else host_makes_all r.replies (record h { came = h.came ++ c ∷ [] })) else h)
    go false b = k
    go true true = waits_down h.phase k
    go true false = making_all r.replies (record h { came = h.came ++ c ∷ [] }) k

hearing : (c : Command) (r : Reaction) (h : ResetHost) → Keeps h → Keeps (host_hears c r h)
hearing Rst r h k = settling r.quiet (owes_answer h.phase) (waits_owing h.phase k)
hearing Rrp r h k = waits_heard h.phase k
hearing c r h k = hearing_other c r h k

hearing_all : (cs : List Command) (rs : List Reaction) (h : ResetHost) → Keeps h → Keeps (host_hears_all cs rs h)
hearing_all [] rs h k = k
hearing_all (c ∷ cs) [] h k = hearing_all cs [] (host_hears c no_reaction h) (hearing c no_reaction h k)
hearing_all (c ∷ cs) (r ∷ rs) h k = hearing_all cs rs (host_hears c r h) (hearing c r h k)

sending : (slot : Slot (List Command)) (q : List Command) (n : ℕ) (w : ResetWorld) → Keeps w.this → Keeps (reset_sends slot q n w).this
sending (Ready m) q n w k = k
sending (Travelling m) q n w k = k
sending (Held m) q n w k = k
sending Empty [] n w k = k
sending Empty (c ∷ cs) n w k = waits_dropped (n + 1) w.this.phase k

coming : (s : MessageTransit (List Command)) (rs : List Reaction) (w : ResetWorld) → Keeps w.this → Keeps (reset_comes s rs w).this
coming Free rs w k = k
coming (Accepted m) rs w k = hearing_all m rs w.this k
coming Delivered rs w k = k
coming Lost rs w k = k
coming Dead rs w k = k

-- a step of this host leaves that one
abbrev Both_keep : ResetWorld → Type 0
Both_keep w = Keeps w.this × Keeps w.that

there : (step : ResetStep) (w : ResetWorld) → (reset_steps step w).that ≡ w.that
there (Resets quiet) w = refl
there (Makes c) w = refl
there Falls w = refl
there (Settles quiet) w = refl
there (Sends n) w = go w.going.slot w.this.phase.waiting
  where
    go : (slot : Slot (List Command)) (q : List Command) → (reset_sends slot q n w).that ≡ w.that
    go (Ready m) q = refl
    go (Travelling m) q = refl
    go (Held m) q = refl
    go Empty [] = refl
    go Empty (c ∷ cs) = refl
there (Hears rs) w = go w.coming.subnet
  where
    go : (s : MessageTransit (List Command)) → (reset_comes s rs w).that ≡ w.that
    go Free = refl
    go (Accepted m) = refl
    go Delivered = refl
    go Lost = refl
    go Dead = refl
there Loses w = refl
there Dies w = refl
there Is_answered w = refl
there Wakes w = refl

here : (step : ResetStep) (w : ResetWorld) → Keeps w.this → Keeps (reset_steps step w).this
here (Resets quiet) w k = go (is_resetting w.this.phase)
  where
    go : (b : Bool) → Keeps (if b then w.this else anew (resets quiet w.this.phase))
    go true = k
    go false = resetting quiet w.this.phase k
here (Makes c) w k = making c w.this k
here Falls w k = waits_down w.this.phase k
here (Settles quiet) w k = settling quiet w.this.phase k
here (Sends n) w k = sending w.going.slot w.this.phase.waiting n w k
here (Hears rs) w k = coming w.coming.subnet rs w k
here Loses w k = k
here Dies w k = k
here Is_answered w k = k
here Wakes w k = k

stepping : (side : Party) (step : ResetStep) (w : ResetWorld) → Both_keep w → Both_keep (reset_at side step w)
stepping This step w k = (here step w k.0, subst Keeps (sym (there step w)) k.1)
stepping That step w k = (subst Keeps (sym (there step (resets_swapped w))) k.0, here step (resets_swapped w) k.1)

running : (es : List ResetEvent) (w : ResetWorld) → Both_keep w → Both_keep (reset_run_from es w)
running [] w k = k
running (e ∷ es) w k = running es (reset_at e.side e.step w) (stepping e.side e.step w k)

none : QueueFits new_phase
none = record { place = omega arith; rst = omega arith; rrp = omega arith; few = λ _. omega arith }

abbrev FewWait : ResetWorld → Type 0
FewWait w = (length w.this.phase.waiting ≤ MAX_WAITING) × (length w.that.phase.waiting ≤ MAX_WAITING)

pub few-wait : (w : hosts.TwoNodes) → IsReachable w → (length w.this.host.phase.waiting ≤ MAX_WAITING) × (length w.that.host.phase.waiting ≤ MAX_WAITING)
few-wait w r =
    let p = reached-run r in
    let b = bases.projected p.0 in
    let k = running b.0 reset_start (none, none) in
    subst FewWait (sym b.1 ∙ ap hosts.base p.1) (k.0.place, k.1.place)
