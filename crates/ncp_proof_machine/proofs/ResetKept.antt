-- Meant for other crates too: they cite what is public here.
--
-- What holds of two hosts and the two lines between them after each step.
use Rattle.std.proofs.Common.{◌≡◌, ◌+◌, ◌<◌, Bool, true, false, ◌&&◌, if◌then◌else◌, List, [], ◌∷◌, ◌++◌, refl, arith}
use Rattle.ncp_wire.specs.declared.command.Command.{Command}
use Rattle.ncp_wire.specs.declared.command.Command.TheVariants.{Rst, Rrp}
use Rattle.ncp_model.specs.Phase.{is_other, phase_answers, phase_asks, is_resetting, wants_reset, owes_answer, hears_rrp, has_room_for_one, queued, Reaction}
use Rattle.ncp_proof_machine.specs.Resets.{ResetHost, is_up, anew, host_resets, host_settles, host_falls, host_makes, host_makes_all, host_hears_other, host_hears, no_reaction, host_hears_all}
use Rattle.ncp_model.proofs.ResetLists.{bit, rsts, rrps, others, purged, rsts-append, rrps-append, others-append, rsts-purged, rrps-purged, others-purged, purged_calm, arrives, arrives-append, arrives_anew, arrives_nothing, any-rsts, any-rrps, after_rst, after_rst-calm, still_purged, still_reset, still_more}

-- a host that is not up has no history and lets no other wait
abbrev pub Calm : ResetHost → Type 0
Calm h = record {
  made : is_up h ≡ false → h.made ≡ [];
  came : is_up h ≡ false → h.came ≡ [];
  waiting : is_up h ≡ false → others h.phase.waiting ≡ [];
  wants : h.phase.want ≡ true → h.phase.wait ≡ false;
}

-- from h to k, where u is underway from h and v from k
abbrev pub Way : ResetHost → ResetHost → List Command → List Command → Type 0
Way h k u v = record {
  -- of what h began there is one RST underway, or one RRP owed, or one RRP underway
  count : rsts u + bit k.phase.owe + rrps v ≡ bit h.phase.wait;
  -- what came and what will come is what was made: where h waits; where both are up; and where k waits for an RRP that is underway
  waits : h.phase.wait ≡ true → arrives k.came u ≡ h.made;
  ups : is_up h ≡ true → is_up k ≡ true → arrives k.came u ≡ h.made;
  back : is_up h ≡ true → 0 < rrps u → arrives k.came u ≡ h.made;
  -- nothing but an RRP stands behind an RST
  still : after_rst u ≡ [];
}

-- x and y are what is on the two lines
abbrev pub Kept : ResetHost → ResetHost → List Command → List Command → Type 0
Kept h k x y = record { this : Calm h; that : Calm k; there : Way h k (x ++ h.phase.waiting) (y ++ k.phase.waiting); here : Way k h (y ++ k.phase.waiting) (x ++ h.phase.waiting) }

pub counterpart : (h k : ResetHost) (x y : List Command) → Kept h k x y → Kept k h y x
counterpart h k x y p = record { this = p.that; that = p.this; there = p.here; here = p.there }

pub if_cases : (P : ResetHost → Type 0) (b : Bool) (x y : ResetHost) → (b ≡ true → P x) → (b ≡ false → P y) → P (if b then x else y)
if_cases P true x y p q = p refl
if_cases P false x y p q = q refl

pub if_both : (P : ResetHost → Type 0) (b : Bool) (x y : ResetHost) → P x → P y → P (if b then x else y)
if_both P b x y p q = if_cases P b x y (λ _. p) (λ _. q)

pub ruleset on_lists = (rsts-append, rrps-append, others-append, arrives-append, rsts-purged, rrps-purged, others-purged, purged_calm, arrives_anew, arrives_nothing, any-rsts, any-rrps)

pub falling : (h k : ResetHost) (x y : List Command) → Kept h k x y → Kept (host_falls h) k x y
falling h k x y p = let s = still_purged x h.phase.waiting p.there.still in grind (arith, on_lists)

pub wanting : (h k : ResetHost) (x y : List Command) → h.phase.want ≡ false → h.phase.wait ≡ false → Kept h k x y → Kept (anew (wants_reset h.phase)) k x y
wanting h k x y w v p = let s = still_purged x h.phase.waiting p.there.still in grind (arith, on_lists)

pub answering : (h k : ResetHost) (x y : List Command) → Kept h k x y → Kept (record h { phase = phase_answers h.phase }) k x y
answering h k x y p = let s = still_reset x h.phase.waiting Rrp refl p.there.still in grind (arith, on_lists)

pub asking : (h k : ResetHost) (x y : List Command) → Kept h k x y → Kept (record h { phase = phase_asks h.phase }) k x y
asking h k x y p = let s = still_reset x h.phase.waiting Rst refl p.there.still in grind (arith, on_lists)

pub owing : (h k : ResetHost) (x y : List Command) → Kept h k x (Rst ∷ y) → Kept (anew (owes_answer h.phase)) k x y
owing h k x y p = let s = still_purged x h.phase.waiting p.there.still in let t = after_rst-calm (y ++ k.phase.waiting) p.here.still in grind (arith, on_lists)

pub heard_rrp : (h k : ResetHost) (x y : List Command) → Kept h k x (Rrp ∷ y) → Kept (record h { phase = hears_rrp h.phase }) k x y
heard_rrp h k x y p = grind (arith, on_lists)

pub came_up : (h k : ResetHost) (x y : List Command) (c : Command) → is_up h ≡ true → is_other c ≡ true → Kept h k x (c ∷ y) → Kept (record h { came = h.came ++ c ∷ [] }) k x y
came_up h k x y c e o p = grind (arith, on_lists)

pub dropped : (h k : ResetHost) (x y : List Command) (c : Command) → is_up h ≡ false → is_other c ≡ true → Kept h k x (c ∷ y) → Kept h k x y
dropped h k x y c e o p = grind (arith, on_lists)

pub made_up : (h k : ResetHost) (x y : List Command) (c : Command) → is_up h ≡ true → is_other c ≡ true → Kept h k x y → Kept (record h { phase = queued c h.phase; made = h.made ++ c ∷ [] }) k x y
made_up h k x y c e o p = let s = still_more (x ++ (h.phase.waiting ++ c ∷ [])) in grind (arith, on_lists)

-- the steps of a host, whole

pub settling : (h k : ResetHost) (x y : List Command) (quiet : Bool) → Kept h k x y → Kept (host_settles quiet h) k x y
settling h k x y true p = asking (record h { phase = phase_answers h.phase }) k x y (answering h k x y p)
settling h k x y false p = p

pub resetting : (h k : ResetHost) (x y : List Command) (quiet : Bool) → Kept h k x y → Kept (host_resets quiet h) k x y
resetting h k x y quiet p = go (is_resetting h.phase) refl
  where
    go : (b : Bool) → is_resetting h.phase ≡ b → Kept (host_resets quiet h) k x y
    go true e = let same : host_resets quiet h ≡ h = grind arith in rw same p
    go false e =
        let becomes : host_resets quiet h ≡ host_settles quiet (anew (wants_reset h.phase)) = grind arith in
        rw becomes (settling (anew (wants_reset h.phase)) k x y quiet (wanting h k x y (grind arith) (grind arith) p))

pub making : (h k : ResetHost) (x y : List Command) (c : Command) → Kept h k x y → Kept (host_makes c h) k x y
making h k x y c p =
    if_cases (λ g. Kept g k x y) (is_up h && is_other c) (if has_room_for_one h.phase then record h { phase = queued c h.phase; made = h.made ++ c ∷ [] } else host_falls h) h
    (λ e. if_both (λ g. Kept g k x y) (has_room_for_one h.phase) (record h { phase = queued c h.phase; made = h.made ++ c ∷ [] }) (host_falls h) (made_up h k x y c (grind arith) (grind arith) p) (falling h k x y p))
    (λ _. p)

pub replying : (h k : ResetHost) (x y cs : List Command) → Kept h k x y → Kept (host_makes_all cs h) k x y
replying h k x y [] p = p
replying h k x y (c ∷ cs) p = replying (host_makes c h) k x y cs (making h k x y c p)

pub hearing_other : (h k : ResetHost) (x y : List Command) (c : Command) (r : Reaction) → is_other c ≡ true → Kept h k x (c ∷ y) → Kept (host_hears_other c r h) k x y
hearing_other h k x y c r o p =
    if_cases (λ g. Kept g k x y) (is_up h) (if r.full then host_falls h else host_makes_all r.replies (record h { came = h.came ++ c ∷ [] })) h
    (λ e. let q = came_up h k x y c e o p in
    if_both (λ g. Kept g k x y) r.full (host_falls h) (host_makes_all r.replies (record h { came = h.came ++ c ∷ [] }))
    (falling (record h { came = h.came ++ c ∷ [] }) k x y q)
    (replying (record h { came = h.came ++ c ∷ [] }) k x y r.replies q))
    (λ e. dropped h k x y c e o p)

pub hearing : (h k : ResetHost) (x y : List Command) (c : Command) (r : Reaction) → Kept h k x (c ∷ y) → Kept (host_hears c r h) k x y
hearing h k x y Rst r p = settling (anew (owes_answer h.phase)) k x y r.quiet (owing h k x y p)
hearing h k x y Rrp r p = heard_rrp h k x y p
hearing h k x y c r p = hearing_other h k x y c r refl p

pub hearing_all : (h k : ResetHost) (x cs : List Command) (rs : List Reaction) → Kept h k x cs → Kept (host_hears_all cs rs h) k x []
hearing_all h k x [] rs p = p
hearing_all h k x (c ∷ cs) [] p = hearing_all (host_hears c no_reaction h) k x cs [] (hearing h k x cs c no_reaction p)
hearing_all h k x (c ∷ cs) (r ∷ rs) p = hearing_all (host_hears c r h) k x cs rs (hearing h k x cs c r p)
