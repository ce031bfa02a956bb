-- Meant for other crates too: they cite what is public here.
--
-- The invariant of two hosts, kept by each event, and the laws over every schedule.
use Rattle.std.proofs.Common.{◌≡◌, ℕ, ◌+◌, Bool, true, false, if◌then◌else◌, List, [], ◌∷◌, ◌++◌, take, drop, refl, sym, ap, ◌∙◌, subst, arith}
use Rattle.std.proofs.lemmas.List.{take-append-drop}
use Rattle.ncp_wire.specs.declared.command.Command.{Command}
use Rattle.ncp_wire.specs.declared.command.Command.TheVariants.{Rst, Rrp}
use Rattle.ncp_model.specs.Phase.{Phase, up, phase_makes, makes_all, phase_hears, Reaction}
use Rattle.ncp_proof_machine.specs.Resets.{ResetHost, is_up, host_resets, host_settles, host_falls, host_makes, host_makes_all, host_hears_other, host_hears, on_line, commands_underway, ResetWorld, resets_swapped, ResetStep, Resets, Makes, Falls, Settles, Sends, Hears, Loses, Dies, Is_answered, Wakes, reset_sends, reset_comes, reset_steps, Party, This, That, ResetEvent, reset_at, reset_run_from, reset_run, reset_start, Agrees, NothingFollows, Silent}
use Rattle.ncp_proof_machine.specs.Delivery.{Slot, Empty, Ready, Travelling, Held, MessageTransit, Free, Accepted, Delivered, Lost, Dead, undelivered, link_answered, woken}
use Rattle.ncp_model.proofs.ResetLists.{others, purged, others-drop, others-append, purged_none, arrives_on, after_rst}
use Rattle.ncp_proof_machine.proofs.ResetKept.{Way, Kept, counterpart, falling, resetting, making, hearing_all, settling}

-- the slot travels while the subnet holds its message
abbrev pub Tied : Slot (List Command) → MessageTransit (List Command) → Type 0
Tied Empty Free = Unit {0}
Tied (Ready m) Free = Unit {0}
Tied (Held m) Free = Unit {0}
Tied (Travelling m) (Accepted c) = c ≡ m
Tied (Travelling m) Delivered = Unit {0}
Tied (Travelling m) Lost = Unit {0}
Tied (Travelling m) Dead = Unit {0}
Tied slot subnet = ⊥

-- of a world in parts: this host, that host, and the slot and the subnet of the links that go and come
abbrev pub HoldsOf : ResetHost → ResetHost → Slot (List Command) → MessageTransit (List Command) → Slot (List Command) → MessageTransit (List Command) → Type 0
HoldsOf h k s t s' t' = record { going : Tied s t; coming : Tied s' t'; kept : Kept h k (on_line s t) (on_line s' t') }

abbrev pub Holds : ResetWorld → Type 0
Holds w = HoldsOf w.this w.that w.going.slot w.going.subnet w.coming.slot w.coming.subnet

pub swapped : (w : ResetWorld) → Holds w → Holds (resets_swapped w)
swapped w p =
    record { going = p.coming; coming = p.going; kept = counterpart w.this w.that (on_line w.going.slot w.going.subnet) (on_line w.coming.slot w.coming.subnet) p.kept }

-- the front of what waits goes onto the empty line
pub fronting : (h k : ResetHost) (y : List Command) (n : ℕ) → Kept h k [] y → Kept (record h { phase = record h.phase { waiting = drop n h.phase.waiting } }) k (take n h.phase.waiting) y
fronting h k y n p = grind (arith, take-append-drop, others-drop)

abbrev x : ResetWorld → List Command
x w = on_line w.going.slot w.going.subnet

abbrev y : ResetWorld → List Command
y w = on_line w.coming.slot w.coming.subnet

-- a step of this host alone
at_host : (w : ResetWorld) (h : ResetHost) → Holds w → Kept h w.that (on_line w.going.slot w.going.subnet) (on_line w.coming.slot w.coming.subnet) → Holds (record w { this = h })
at_host w h p q = record { going = p.going; coming = p.coming; kept = q }

sending : (h k : ResetHost) (s : Slot (List Command)) (t : MessageTransit (List Command)) (s' : Slot (List Command)) (t' : MessageTransit (List Command)) (q : List Command) (n : ℕ) → HoldsOf h k s t s' t' → Holds (reset_sends s q n (record { this = h; that = k; going = record { slot = s; subnet = t }; coming = record { slot = s'; subnet = t' } }))
sending h k (Ready m) Free s' t' q n p = record { going = refl; coming = p.coming; kept = p.kept }
sending h k (Travelling m) t s' t' q n p = p
sending h k (Held m) t s' t' q n p = p
sending h k Empty t s' t' [] n p = p
sending h k Empty Free s' t' (c ∷ cs) n p = record { going = refl; coming = p.coming; kept = fronting h k (on_line s' t') (n + 1) p.kept }
sending h k s t s' t' q n p = absurd p.going

coming : (h k : ResetHost) (s : Slot (List Command)) (t : MessageTransit (List Command)) (s' : Slot (List Command)) (t' : MessageTransit (List Command)) (rs : List Reaction) → HoldsOf h k s t s' t' → Holds (reset_comes t' rs (record { this = h; that = k; going = record { slot = s; subnet = t }; coming = record { slot = s'; subnet = t' } }))
coming h k s t (Travelling m) (Accepted c) rs p = record { going = p.going; coming = tt; kept = hearing_all h k (on_line s t) c rs p.kept }
coming h k s t Empty (Accepted c) rs p = absurd p.coming
coming h k s t (Ready m) (Accepted c) rs p = absurd p.coming
coming h k s t (Held m) (Accepted c) rs p = absurd p.coming
coming h k s t s' Free rs p = p
coming h k s t s' Delivered rs p = p
coming h k s t s' Lost rs p = p
coming h k s t s' Dead rs p = p

losing : (h k : ResetHost) (s : Slot (List Command)) (t : MessageTransit (List Command)) (s' : Slot (List Command)) (t' : MessageTransit (List Command)) → HoldsOf h k s t s' t' → HoldsOf h k s (undelivered Lost t) s' t'
losing h k (Travelling m) (Accepted c) s' t' p = record { going = tt; coming = p.coming; kept = subst (λ x. Kept h k x (on_line s' t')) p.going p.kept }
losing h k Empty (Accepted c) s' t' p = absurd p.going
losing h k (Ready m) (Accepted c) s' t' p = absurd p.going
losing h k (Held m) (Accepted c) s' t' p = absurd p.going
losing h k s Free s' t' p = p
losing h k s Delivered s' t' p = p
losing h k s Lost s' t' p = p
losing h k s Dead s' t' p = p

dying : (h k : ResetHost) (s : Slot (List Command)) (t : MessageTransit (List Command)) (s' : Slot (List Command)) (t' : MessageTransit (List Command)) → HoldsOf h k s t s' t' → HoldsOf h k s (undelivered Dead t) s' t'
dying h k (Travelling m) (Accepted c) s' t' p = record { going = tt; coming = p.coming; kept = subst (λ x. Kept h k x (on_line s' t')) p.going p.kept }
dying h k Empty (Accepted c) s' t' p = absurd p.going
dying h k (Ready m) (Accepted c) s' t' p = absurd p.going
dying h k (Held m) (Accepted c) s' t' p = absurd p.going
dying h k s Free s' t' p = p
dying h k s Delivered s' t' p = p
dying h k s Lost s' t' p = p
dying h k s Dead s' t' p = p

waking : (h k : ResetHost) (s : Slot (List Command)) (t : MessageTransit (List Command)) (s' : Slot (List Command)) (t' : MessageTransit (List Command)) → HoldsOf h k s t s' t' → HoldsOf h k (woken s) t s' t'
waking h k (Held m) Free s' t' p = record { going = tt; coming = p.coming; kept = p.kept }
waking h k (Held m) (Accepted c) s' t' p = absurd p.going
waking h k (Held m) Delivered s' t' p = absurd p.going
waking h k (Held m) Lost s' t' p = absurd p.going
waking h k (Held m) Dead s' t' p = absurd p.going
waking h k Empty t s' t' p = p
waking h k (Ready m) t s' t' p = p
waking h k (Travelling m) t s' t' p = p

answering : (h k : ResetHost) (s : Slot (List Command)) (t : MessageTransit (List Command)) (s' : Slot (List Command)) (t' : MessageTransit (List Command)) → HoldsOf h k s t s' t' → HoldsOf h k (link_answered s t).slot (link_answered s t).subnet s' t'
answering h k (Travelling m) Delivered s' t' p = record { going = tt; coming = p.coming; kept = p.kept }
answering h k (Travelling m) Lost s' t' p = record { going = tt; coming = p.coming; kept = p.kept }
answering h k (Travelling m) Dead s' t' p = record { going = tt; coming = p.coming; kept = p.kept }
answering h k s t s' t' p = p

stepping : (step : ResetStep) (w : ResetWorld) → Holds w → Holds (reset_steps step w)
stepping (Resets quiet) w p = at_host w (host_resets quiet w.this) p (resetting w.this w.that (x w) (y w) quiet p.kept)
stepping (Makes c) w p = at_host w (host_makes c w.this) p (making w.this w.that (x w) (y w) c p.kept)
stepping Falls w p = at_host w (host_falls w.this) p (falling w.this w.that (x w) (y w) p.kept)
stepping (Settles quiet) w p = at_host w (host_settles quiet w.this) p (settling w.this w.that (x w) (y w) quiet p.kept)
stepping (Sends n) w p = sending w.this w.that w.going.slot w.going.subnet w.coming.slot w.coming.subnet w.this.phase.waiting n p
stepping (Hears rs) w p = coming w.this w.that w.going.slot w.going.subnet w.coming.slot w.coming.subnet rs p
stepping Loses w p = losing w.this w.that w.going.slot w.going.subnet w.coming.slot w.coming.subnet p
stepping Dies w p = dying w.this w.that w.going.slot w.going.subnet w.coming.slot w.coming.subnet p
stepping Wakes w p = waking w.this w.that w.going.slot w.going.subnet w.coming.slot w.coming.subnet p
stepping Is_answered w p = answering w.this w.that w.going.slot w.going.subnet w.coming.slot w.coming.subnet p

happening : (side : Party) (step : ResetStep) (w : ResetWorld) → Holds w → Holds (reset_at side step w)
happening This step w p = stepping step w p
happening That step w p = swapped (reset_steps step (resets_swapped w)) (stepping step (resets_swapped w) (swapped w p))

running : (es : List ResetEvent) (w : ResetWorld) → Holds w → Holds (reset_run_from es w)
running [] w p = p
running (e ∷ es) w p = running es (reset_at e.side e.step w) (happening e.side e.step w p)

pub starting : Holds reset_start
starting = grind arith

pub holding : (es : List ResetEvent) → Holds (reset_run es)
holding es = running es reset_start starting

pub agreeing : (h k : ResetHost) (u v : List Command) → is_up h ≡ true → is_up k ≡ true → Way h k u v → Way k h v u → (purged u ≡ []) × (k.came ++ others u ≡ h.made)
agreeing h k u v e f p q = grind (arith, purged_none, arrives_on)

pub agrees : (es : List ResetEvent) → is_up (reset_run es).this ≡ true → is_up (reset_run es).that ≡ true → Agrees (reset_run es).this (reset_run es).going (reset_run es).that
agrees es e f =
    let p = holding es in
    agreeing (reset_run es).this (reset_run es).that (commands_underway (reset_run es).this (reset_run es).going) (commands_underway (reset_run es).that (reset_run es).coming) e f p.kept.there p.kept.here

pub agrees_back : (es : List ResetEvent) → is_up (reset_run es).this ≡ true → is_up (reset_run es).that ≡ true → Agrees (reset_run es).that (reset_run es).coming (reset_run es).this
agrees_back es e f =
    let p = holding es in
    agreeing (reset_run es).that (reset_run es).this (commands_underway (reset_run es).that (reset_run es).coming) (commands_underway (reset_run es).this (reset_run es).going) f e p.kept.here p.kept.there

-- nothing but an RRP stands behind an RST

following_rst : (before after u : List Command) → u ≡ before ++ Rst ∷ after → after_rst u ≡ [] → others after ≡ []
following_rst [] after u s e = let h : after_rst (Rst ∷ after) ≡ [] = ap after_rst (sym s) ∙ e in h
following_rst (c ∷ before) after u s e =
    let h : after_rst (c ∷ (before ++ Rst ∷ after)) ≡ [] = ap after_rst (sym s) ∙ e in
    let k = following_rst before after (before ++ Rst ∷ after) refl in
    let a = others-append before (Rst ∷ after) in
    grind (arith, nil_back)
  where
    nil_back : (c l : List Command) → c ++ l ≡ [] → l ≡ []
    nil_back [] l e = e
    nil_back (x ∷ c) l e = cc

pub follows : (es : List ResetEvent) → NothingFollows (reset_run es).this (reset_run es).going
follows es before after s = following_rst before after (commands_underway (reset_run es).this (reset_run es).going) s (holding es).kept.there.still

pub follows_back : (es : List ResetEvent) → NothingFollows (reset_run es).that (reset_run es).coming
follows_back es before after s = following_rst before after (commands_underway (reset_run es).that (reset_run es).coming) s (holding es).kept.here.still

-- a host that is not up has made nothing and heard nothing, and lets no other wait

pub silent : (es : List ResetEvent) → is_up (reset_run es).this ≡ false → Silent (reset_run es).this
silent es e = let p = holding es in (p.kept.this.made e, p.kept.this.came e, p.kept.this.waiting e)

pub silent_back : (es : List ResetEvent) → is_up (reset_run es).that ≡ false → Silent (reset_run es).that
silent_back es e = let p = holding es in (p.kept.that.made e, p.kept.that.came e, p.kept.that.waiting e)

-- the histories only watch

through_if : {A B : Type 0} → (f : A → B) (b : Bool) (x y : A) (x' y' : B) → f x ≡ x' → f y ≡ y' → f (if b then x else y) ≡ (if b then x' else y')
through_if f true x y x' y' p q = p
through_if f false x y x' y' p q = q

pub phase-makes : (c : Command) (h : ResetHost) → (host_makes c h).phase ≡ phase_makes c h.phase
phase-makes c h = grind arith

pub phase-makes_all : (cs : List Command) (h : ResetHost) → (host_makes_all cs h).phase ≡ makes_all cs h.phase
phase-makes_all [] h = refl
phase-makes_all (c ∷ cs) h = phase-makes_all cs (host_makes c h) ∙ ap (makes_all cs) (phase-makes c h)

abbrev phase_of : ResetHost → Phase
phase_of h = h.phase

pub phase-hears_other : (c : Command) (r : Reaction) (h : ResetHost) → (host_hears_other c r h).phase ≡ (if up h.phase then (if r.full then (host_falls h).phase else makes_all r.replies h.phase) else h.phase)
phase-hears_other c r h =
    let m : ResetHost = record h { came = h.came ++ c ∷ [] } in
    through_if phase_of (up h.phase) (if r.full then host_falls h else host_makes_all r.replies m) h (if r.full then (host_falls h).phase else makes_all r.replies h.phase) h.phase
    (through_if phase_of r.full (host_falls h) (host_makes_all r.replies m) (host_falls h).phase (makes_all r.replies h.phase) refl (phase-makes_all r.replies m)) refl

pub phase-hears : (c : Command) (r : Reaction) (h : ResetHost) → (host_hears c r h).phase ≡ phase_hears c r h.phase
phase-hears Rst r h = refl
phase-hears Rrp r h = refl
phase-hears c r h = phase-hears_other c r h
