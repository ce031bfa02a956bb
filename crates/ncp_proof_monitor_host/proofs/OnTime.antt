-- A command that is sent first of those queued, and is neither RST nor RRP, is in time: the host is up.
use Rattle.std.proofs.Common.{◌≡◌, ℕ, ◌+◌, ◌<◌, Bool, true, false, not, ◌&&◌, ◌||◌, if◌then◌else◌, List, ◌∷◌, Option, refl, arith}
use Rattle.ncp_wire.specs.declared.command.Command.{Command}
use Rattle.ncp_model.specs.Phase.{Phase, up, is_rst, is_rrp, is_other}
use Rattle.ncp_model.proofs.ResetLists.{bit, rsts, rrps}
use Rattle.ncp_monitor.specs.declared.finding.ItemKind.{ItemKind}
use Rattle.ncp_monitor.specs.declared.view.View.{View}
use Rattle.ncp_monitor.specs.Views.{awaits_reply}
use Rattle.ncp_monitor.specs.Phases.{is_text, is_early, after_thing}
use Rattle.ncp_proof_monitor.proofs.Phased.{Phased, is_up, none_following, up_began, up_waits, up_owes, same_after}

pub record OnTime (me : ℕ) (busy : Option ℕ) (zero : Bool) (what : ItemKind) (u : List Command) (p : Phase) (v : View) : Type 0 where
  pub up_is : up p ≡ true
  pub even : awaits_reply v.host.wait ≡ false
  pub early : is_early (record { by = me; sent = true; busy = busy; zero = zero }) what v ≡ false
  pub same : after_thing (record { by = me; sent = true; busy = busy; zero = zero }) what v ≡ v
  pub none : 0 < rrps u + bit p.owe → ⊥

pub on_time : (me : ℕ) (busy : Option ℕ) (zero : Bool) (what : ItemKind) (c : Command) (u : List Command) (p : Phase) (q : Bool) (v : View) → is_other c ≡ true → is_rst c ≡ false → is_rrp c ≡ false → is_text what ≡ false → Phased (record p { waiting = c ∷ u }) q v
    → OnTime me busy zero what u p v
on_time me busy zero what c u p q v o r s t k = record { up_is = up_is; even = even; early = early; same = same; none = none_owed }
  where
    up_is : up p ≡ true
    up_is = is_up c u p q v o k

    none : (rsts u ≡ 0) × (rrps u ≡ 0)
    none = none_following c u p q v o k

    even : awaits_reply v.host.wait ≡ false
    even = up_waits c u p q v up_is k

    early : is_early (record { by = me; sent = true; busy = busy; zero = zero }) what v ≡ false
    early = go v.suspended (is_text what) v.host.began (awaits_reply v.host.wait) v.owes t (up_began c u p q v up_is none r s k) even (up_owes c u p q v up_is none r s k)
      where
        go : (suspended text began waits owes : Bool) → text ≡ false → began ≡ true → waits ≡ false → owes ≡ false → (if true && suspended && text then waits else not began || waits || (true && owes)) ≡ false
        go true false true false false a b c d = refl
        go false false true false false a b c d = refl
        go x true y z w a b c d = absurd (cc a)
        go x false false z w a b c d = absurd (cc b)
        go x false true true w a b c d = absurd (cc c)
        go x false true false true a b c d = absurd (cc d)

    same : after_thing (record { by = me; sent = true; busy = busy; zero = zero }) what v ≡ v
    same = same_after (record { by = me; sent = true; busy = busy; zero = zero }) what v early

    none_owed : 0 < rrps u + bit p.owe → ⊥
    none_owed z = let e = none.1 in let f = owe p up_is in omega (arith, z, e, f)
      where
        owe : (p : Phase) → up p ≡ true → bit p.owe ≡ 0
        owe p e = grind arith
