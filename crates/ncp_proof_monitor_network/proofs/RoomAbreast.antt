-- What two hosts said to each other, and what is on its way, where the one has had room to say all that it owed: what it still
-- owes it forgets, and the other goes on to expect it. And a host that has seen nothing is sent no text that counts.
use Rattle.std.proofs.Common.{◌≡◌, ℕ, Bool, true, false, List, [], Option, None, Some, refl, sym, ap, ◌∙◌, subst, arith}
use Rattle.ncp_wire.specs.declared.command.Command.{Command}
use Rattle.ncp_monitor.proofs.LinkOrder.{Sockets}
use Rattle.ncp_proof_monitor_allocation.proofs.Words.{Count}
use Rattle.ncp_proof_monitor_network.specs.Owing.{Owing, has_echo}
use Rattle.ncp_proof_monitor_network.proofs.Tallied.{by_side, owed_messages, owed_bits, MatchesOwed, matches_drop}
use Rattle.ncp_proof_monitor_network.proofs.Said.{Said, SaidAlike, unspoken, takes_by, without_owed, after_run, facing_user}
use Rattle.ncp_proof_monitor_network.proofs.UsersSaid.{link_between}
use Rattle.ncp_proof_monitor_network.proofs.MatchSteps.{owed_more_messages, owed_more_bits}
use Rattle.ncp_proof_monitor_network.proofs.FacesSteps.{faces_fall}
use Rattle.ncp_proof_monitor_network.proofs.ConsistentViews.{Afloat, messages_afloat, bits_afloat, FacesOn, Mirrors, ConsistentViews}
use Rattle.ncp_proof_monitor_network.proofs.UsersRun.{user_run, users_back}
use Rattle.ncp_proof_monitor_network.proofs.SaneSteps.{sane_forgotten}
use Rattle.ncp_proof_monitor_network.proofs.TextSteps.{beside, RunBeside, Forgot, forgot_run, forgets}

-- where the one owes no ERP that it forgets
forgotten_mirrors : (old : List Owing) (x y : Said) (tx ty : Afloat) (counts : Sockets → Count) (owing : Bool → List Owing) → has_echo old ≡ false → Forgot old x counts owing → Mirrors x y tx ty → Mirrors (beside x counts owing) y tx ty
forgotten_mirrors old x y tx ty counts owing none f m = record {
  shapes = m.shapes;
  users = m.users;
  here = λ u t. subst (λ (d : Sockets → Count). FacesOn (u.1, u.0) (d u) (y.counts (u.1, u.0)) (y.owing true) (link_between u (x.shapes u)) ty) (sym f.counts) (m.here u t);
  there = λ u t. subst (λ (d : Sockets → Count). FacesOn u (y.counts (u.1, u.0)) (d u) (owing true) (link_between u (x.shapes u)) tx) (sym f.counts) (less u t);
  mine = subst (λ (os : List Owing). MatchesOwed os (y.owing true)) (sym f.theirs) m.mine;
  theirs = matches_drop (y.owing false) old (owing true) none (subst (λ (os : List Owing). MatchesOwed (y.owing false) os) f.mine m.theirs);
}
  where
    less : (u : Sockets) → takes_by false u ≡ true → FacesOn u (y.counts (u.1, u.0)) (x.counts u) (owing true) (link_between u (x.shapes u)) tx
    less u t =
        let messages = ap (owed_messages u) f.mine ∙ owed_more_messages u old (owing true) in
        let bits = ap (owed_bits u) f.mine ∙ owed_more_bits u old (owing true) in
        faces_fall (owed_messages u (owing true)) (owed_bits u (owing true)) (messages_afloat (link_between u (x.shapes u)) tx) (bits_afloat (link_between u (x.shapes u)) tx)
        (omega (arith, messages)) (omega (arith, bits)) (omega arith) (omega arith) (m.there u t)

pub own_room : {x y : Said} {hs ks : List Command} {tx ty : Afloat} → has_echo (x.owing true) ≡ false → ConsistentViews x hs tx y ks ty → ConsistentViews (without_owed x) hs tx y ks ty
own_room {x} {y} {hs} {ks} {tx} {ty} none a = record {
  here = run.legal;
  there = a.there;
  meet = subst (λ (z : Said). Mirrors z (after_run false hs y) tx ty) (sym run.ends) (forgotten_mirrors (x.owing true) (after_run false ks x) (after_run false hs y) tx ty run.counts run.owing none run.rel a.meet);
  goes = λ link size bits e. let s = a.goes link size bits e in record { by = s.by; used = s.used; asked = s.asked; unleft = s.unleft };
  comes = a.comes;
  sane = sane_forgotten x a.sane;
  sane_there = a.sane_there;
}
  where
    run : RunBeside (λ ls. Forgot (x.owing true)) ks x x.counts (by_side true [] x.owing)
    run = forgot_run (x.owing true) ks x x.counts (by_side true [] x.owing) a.here (forgets x)

-- a text is on its way to one that has seen its receiver's request
pub none_afloat : {x y : Said} {hs ks : List Command} {tx ty : Afloat} → SaidAlike y unspoken → ConsistentViews x hs tx y ks ty → (link : ℕ) → tx link ≡ None
none_afloat {x} {y} {hs} {ks} {tx} {ty} e a link = go (tx link) refl
  where
    user : (u : Sockets) → (after_run false ks x).users false link ≡ Some u → (o : Option Sockets) → (after_run false hs y).users true link ≡ o → ⊥
    user u k None d = let nay : None ≡ Some u = sym (ap facing_user d) ∙ sym (a.meet.users false link) ∙ k in cc nay
    user u k (Some v) d = let nay : None ≡ Some v = sym (e.users true link) ∙ users_back hs y link v d in cc nay

    go : (o : Option (ℕ × ℕ)) → tx link ≡ o → o ≡ None
    go None k = refl
    go (Some (size, bits)) k =
        let s = a.goes link size bits k in
        absurd (user s.by (user_run ks x false link s.by a.here s.used s.unleft).0 ((after_run false hs y).users true link) refl)
