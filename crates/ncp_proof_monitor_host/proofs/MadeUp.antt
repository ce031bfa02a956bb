-- A host that is up after it made commands was up before, and they are queued after all others.
use Rattle.std.proofs.Common.{◌≡◌, ℕ, ◌+◌, Bool, true, false, ◌&&◌, if◌then◌else◌, List, [], ◌∷◌, ◌++◌, refl, sym, ap, ◌∙◌, subst, arith}
use Rattle.std.proofs.lemmas.List.{append_assoc, append-nil}
use Rattle.ncp_wire.specs.declared.command.Command.{Command}
use Rattle.ncp_model.specs.Ends.{Ends, no_ends}
use Rattle.ncp_model.specs.Echo.{Echoes, purge_echo}
use Rattle.ncp_model.specs.Phase.{Phase, up, is_rst, is_rrp, is_other, has_room_for_one, queued, goes_down, phase_makes, makes_all}
use Rattle.ncp_model.specs.Peers.{standing}
use Rattle.ncp_model.proofs.ResetLists.{bit, rsts, rrps, rsts-append, rrps-append, rsts-purged, rrps-purged}
use Rattle.ncp_proof_headline.proofs.HostsJoined.{AllOther}
use Rattle.ncp_monitor.specs.ConnStates.{SeenTables}
use Rattle.ncp_proof_monitor_host.proofs.Spoken.{Tells}

pub record MadeUp (cs : List Command) (p : Phase) : Type 0 where
  pub before : up p ≡ true
  pub waiting : (makes_all cs p).waiting ≡ p.waiting ++ cs

one_made : (c : Command) (p : Phase) → is_other c ≡ true → up (phase_makes c p) ≡ true → (up p ≡ true) × ((phase_makes c p).waiting ≡ p.waiting ++ c ∷ [])
one_made c p o u = go (up p) refl (is_other c) o (has_room_for_one p) u
  where
    fallen : up (goes_down p) ≡ true → ⊥
    fallen e = cc e

    go : (b : Bool) → up p ≡ b → (d : Bool) → d ≡ true → (h : Bool) → up (if b && d then (if h then queued c p else goes_down p) else p) ≡ true
        → (b ≡ true) × ((if b && d then (if h then queued c p else goes_down p) else p).waiting ≡ p.waiting ++ c ∷ [])
    go true e true k true u = (refl, refl)
    go true e true k false u = absurd (fallen u)
    go true e false k h u = absurd (cc k)
    go false e d k h u = absurd (cc (sym e ∙ u))

pub made_up : (cs : List Command) (p : Phase) → AllOther cs → up (makes_all cs p) ≡ true → MadeUp cs p
made_up [] p o u = record { before = u; waiting = sym (append-nil p.waiting) }
made_up (c ∷ cs) p (o, os) u =
    let rest = made_up cs (phase_makes c p) os u in
    let one = one_made c p o rest.before in
    record { before = one.0; waiting = rest.waiting ∙ ap (λ (x : List Command). x ++ cs) one.1 ∙ append_assoc p.waiting (c ∷ []) cs }

-- what is owed, and the RRPs that wait, stay
one_owed : (c : Command) (p : Phase) → ((phase_makes c p).owe ≡ p.owe) × (rrps (phase_makes c p).waiting ≡ rrps p.waiting)
one_owed c p = go (up p) (is_other c) refl (has_room_for_one p)
  where
    plain : is_other c ≡ true → is_rrp c ≡ false
    plain o = grind arith

    go : (b d : Bool) → is_other c ≡ d → (h : Bool) → ((if b && d then (if h then queued c p else goes_down p) else p).owe ≡ p.owe) × (rrps (if b && d then (if h then queued c p else goes_down p) else p).waiting ≡ rrps p.waiting)
    go true true k true = (refl, (let e = rrps-append p.waiting (c ∷ []) in let z = ap bit (plain k) in omega (arith, e, z)))
    go true true k false = (refl, rrps-purged p.waiting)
    go true false k h = (refl, refl)
    go false d k h = (refl, refl)

pub made_owed : (cs : List Command) (p : Phase) → ((makes_all cs p).owe ≡ p.owe) × (rrps (makes_all cs p).waiting ≡ rrps p.waiting)
made_owed [] p = (refl, refl)
made_owed (c ∷ cs) p = let one = one_owed c p in let rest = made_owed cs (phase_makes c p) in (rest.0 ∙ one.0, rest.1 ∙ one.1)

-- so do the RSTs that are queued
one_rsts : (c : Command) (p : Phase) → rsts (phase_makes c p).waiting ≡ rsts p.waiting
one_rsts c p = go (up p) (is_other c) refl (has_room_for_one p)
  where
    plain : is_other c ≡ true → is_rst c ≡ false
    plain o = grind arith

    go : (b d : Bool) → is_other c ≡ d → (h : Bool) → rsts (if b && d then (if h then queued c p else goes_down p) else p).waiting ≡ rsts p.waiting
    go true true k true = let e = rsts-append p.waiting (c ∷ []) in let z = ap bit (plain k) in omega (arith, e, z)
    go true true k false = rsts-purged p.waiting
    go true false k h = refl
    go false d k h = refl

pub made_rsts : (cs : List Command) (p : Phase) → rsts (makes_all cs p).waiting ≡ rsts p.waiting
made_rsts [] p = refl
made_rsts (c ∷ cs) p = made_rsts cs (phase_makes c p) ∙ one_rsts c p

-- how many RRPs are owed, or wait
abbrev pub owing : Phase → ℕ
owing p = rrps p.waiting + bit p.owe

pub owing_same : (p now : Phase) → (now.owe ≡ p.owe) × (rrps now.waiting ≡ rrps p.waiting) → owing now ≡ owing p
owing_same p now (o, r) = ap (λ (x : Bool). rrps now.waiting + bit x) o ∙ ap (λ (i : ℕ). i + bit p.owe) r

-- where a host is up that may have gone down, it keeps its ends and its echo
pub stood_reports : (me n : ℕ) (now : Phase) (m : Ends) (s : Echoes) (b : SeenTables) → up now ≡ true → Tells me n m s.awaited now.waiting b
    → Tells me n (standing now m s).ends (standing now m s).echoes.awaited now.waiting b
stood_reports me n now m s b u t = go (up now) u
  where
    go : (x : Bool) → x ≡ true → Tells me n (if x then m else no_ends) (if x then s else purge_echo s).awaited now.waiting b
    go true e = t
    go false e = absurd (cc e)

-- with what was made
pub made_reports : (me n : ℕ) (cs : List Command) (p : Phase) (m : Ends) (s : Echoes) (b : SeenTables) → AllOther cs → up (makes_all cs p) ≡ true → (up p ≡ true → Tells me n m s.awaited (p.waiting ++ cs) b)
    → Tells me n (standing (makes_all cs p) m s).ends (standing (makes_all cs p) m s).echoes.awaited (makes_all cs p).waiting b
made_reports me n cs p m s b o u t =
    let k = made_up cs p o u in
    stood_reports me n (makes_all cs p) m s b u (subst (λ (x : List Command). Tells me n m s.awaited x b) (sym k.waiting) (t k.before))
