-- What two hosts saw of each other, and what is on its way, through all that the two say: what either says, and what comes.
use Rattle.std.proofs.Common.{◌≡◌, ℕ, Bool, true, false, not, List, [], ◌∷◌, ◌++◌, Option, None, Some, refl, sym, ap, ◌∙◌, subst, arith}
use Rattle.ncp_wire.specs.declared.command.Command.{Command}
use Rattle.ncp_monitor.proofs.Shapes.{Shape}
use Rattle.ncp_monitor.proofs.LinkOrder.{Sockets}
use Rattle.ncp_proof_monitor_allocation.proofs.Words.{Count}
use Rattle.ncp_proof_monitor_network.specs.Owing.{Owing}
use Rattle.ncp_proof_monitor_network.proofs.Tallied.{MatchesOwed}
use Rattle.ncp_proof_monitor_network.proofs.Said.{Said, SaidAlike, unspoken, takes_by, number_by, Legal, after_said_by, after_run, facing_shape, facing_user}
use Rattle.ncp_proof_monitor_network.proofs.Diamond.{alike_back, run_append, legal_append, own_run, own_end}
use Rattle.ncp_proof_monitor_network.proofs.UsersSaid.{link_between, fit_none}
use Rattle.ncp_proof_monitor_network.proofs.LegalFaces.{number_faces, legal_faces}
use Rattle.ncp_proof_monitor_network.proofs.StepFaces.{link_receives, link_sends, step_faces}
use Rattle.ncp_proof_monitor_network.proofs.ConsistentViews.{Afloat, float_messages, float_bits, messages_afloat, bits_afloat, FacesOn, Mirrors, AllSending, Sane, ConsistentViews, LeavesNoText}
use Rattle.ncp_proof_monitor_network.proofs.SaneSteps.{sane_step, sane_run}
use Rattle.ncp_proof_monitor_network.proofs.UsersRun.{sends_heard, sends_run, sends_own}

-- ---- where the same was said

mirrors_alike : {x z y : Said} {tx ty : Afloat} → SaidAlike x z → Mirrors x y tx ty → Mirrors z y tx ty
mirrors_alike {x} {z} {y} {tx} {ty} e m = record {
  shapes = λ u. sym (e.shapes u) ∙ m.shapes u;
  users = λ s link. sym (e.users s link) ∙ m.users s link;
  here = λ u t. subst (λ (k : Count). FacesOn (u.1, u.0) k (y.counts (u.1, u.0)) (y.owing true) (link_between u (z.shapes u)) ty) (e.counts u)
      (subst (λ (o : Option Shape). FacesOn (u.1, u.0) (x.counts u) (y.counts (u.1, u.0)) (y.owing true) (link_between u o) ty) (e.shapes u) (m.here u t));
  there = λ u t. subst (λ (k : Count). FacesOn u (y.counts (u.1, u.0)) k (z.owing true) (link_between u (z.shapes u)) tx) (e.counts u)
      (subst (λ (os : List Owing). FacesOn u (y.counts (u.1, u.0)) (x.counts u) os (link_between u (z.shapes u)) tx) (e.owing true)
      (subst (λ (o : Option Shape). FacesOn u (y.counts (u.1, u.0)) (x.counts u) (x.owing true) (link_between u o) tx) (e.shapes u) (m.there u t)));
  mine = subst (λ (os : List Owing). MatchesOwed os (y.owing true)) (e.owing false) m.mine;
  theirs = subst (λ (os : List Owing). MatchesOwed (y.owing false) os) (e.owing true) m.theirs;
}

-- ---- where the same texts are on their way

same_text : (o : Option ℕ) (t s : Afloat) → ((link : ℕ) → t link ≡ s link) → (messages_afloat o t ≡ messages_afloat o s) × (bits_afloat o t ≡ bits_afloat o s)
same_text None t s k = (refl, refl)
same_text (Some link) t s k = (ap float_messages (k link), ap float_bits (k link))

faces_floats : (v : Sockets) (received sent : Count) (owing : List Owing) (o : Option ℕ) (t s : Afloat) → ((link : ℕ) → t link ≡ s link) → FacesOn v received sent owing o t → FacesOn v received sent owing o s
faces_floats v received sent owing o t s k f =
    let same = same_text o t s k in
    let a = same.0 in
    let b = same.1 in
    let c = f.messages in
    let d = f.bits in record { messages = omega (arith, a, c); bits = omega (arith, b, d); recall = f.recall }

sends_floats : {x : Said} (t s : Afloat) → ((link : ℕ) → t link ≡ s link) → AllSending x t → AllSending x s
sends_floats t s k sends link size bits e = sends link size bits (k link ∙ e)

pub floats_alike : {x y : Said} {hs ks : List Command} {tx ty ux uy : Afloat} → ((link : ℕ) → tx link ≡ ux link) → ((link : ℕ) → ty link ≡ uy link) → ConsistentViews x hs tx y ks ty → ConsistentViews x hs ux y ks uy
floats_alike {x} {y} {hs} {ks} {tx} {ty} {ux} {uy} k j a = record {
  here = a.here;
  there = a.there;
  meet = record {
    shapes = a.meet.shapes;
    users = a.meet.users;
    here = λ u t. faces_floats (u.1, u.0) ((after_run false ks x).counts u) ((after_run false hs y).counts (u.1, u.0)) ((after_run false hs y).owing true) (link_between u ((after_run false ks x).shapes u)) ty uy j (a.meet.here u t);
    there = λ u t. faces_floats u ((after_run false hs y).counts (u.1, u.0)) ((after_run false ks x).counts u) ((after_run false ks x).owing true) (link_between u ((after_run false ks x).shapes u)) tx ux k (a.meet.there u t);
    mine = a.meet.mine;
    theirs = a.meet.theirs;
  };
  goes = sends_floats tx ux k a.goes;
  comes = sends_floats ty uy j a.comes;
  sane = a.sane;
  sane_there = a.sane_there;
}

-- ---- nothing is on its way

pub unspoken_abreast : ConsistentViews unspoken [] (λ link. None) unspoken [] (λ link. None)
unspoken_abreast = record {
  here = tt;
  there = tt;
  meet = record {
    shapes = λ u. refl;
    users = λ s link. refl;
    here = λ u t. record { messages = omega arith; bits = omega arith; recall = refl };
    there = λ u t. record { messages = omega arith; bits = omega arith; recall = refl };
    mine = tt;
    theirs = tt;
  };
  goes = λ link size bits e. absurd (cc e);
  comes = λ link size bits e. absurd (cc e);
  sane = none;
  sane_there = none;
}
  where
    none : Sane unspoken
    none = record { fit = fit_none; owes = λ s. tt }

-- ---- the other is the one

facing_twice : (m : Option Shape) → facing_shape (facing_shape m) ≡ m
facing_twice None = refl
facing_twice (Some m) = refl

user_twice : (o : Option Sockets) → facing_user (facing_user o) ≡ o
user_twice None = refl
user_twice (Some u) = refl

turn_mirrors : {x y : Said} {tx ty : Afloat} → Mirrors x y tx ty → Mirrors y x ty tx
turn_mirrors {x} {y} {tx} {ty} m = record {
  shapes = λ u. sym (facing_twice (y.shapes u)) ∙ ap facing_shape (sym (m.shapes (u.1, u.0)));
  users = users;
  here = λ u t. subst (λ (o : Option ℕ). FacesOn (u.1, u.0) (y.counts u) (x.counts (u.1, u.0)) (x.owing true) o tx) (received u t) (m.there (u.1, u.0) t);
  there = λ u t. subst (λ (o : Option ℕ). FacesOn u (x.counts (u.1, u.0)) (y.counts u) (y.owing true) o ty) (sent u t) (m.here (u.1, u.0) t);
  mine = m.theirs;
  theirs = m.mine;
}
  where
    users : (s : Bool) (link : ℕ) → y.users s link ≡ facing_user (x.users (not s) link)
    users true link = sym (user_twice (y.users true link)) ∙ ap facing_user (sym (m.users false link))
    users false link = sym (user_twice (y.users false link)) ∙ ap facing_user (sym (m.users true link))

    received : (u : Sockets) → takes_by true u ≡ true → link_between (u.1, u.0) (x.shapes (u.1, u.0)) ≡ link_between u (y.shapes u)
    received u t =
        link_sends (u.1, u.0) (x.shapes (u.1, u.0)) t ∙ ap (number_by false) (m.shapes (u.1, u.0)) ∙ number_faces false (y.shapes u) ∙ sym (link_receives u (y.shapes u) t)

    sent : (u : Sockets) → takes_by false u ≡ true → link_between (u.1, u.0) (x.shapes (u.1, u.0)) ≡ link_between u (y.shapes u)
    sent u t =
        link_receives (u.1, u.0) (x.shapes (u.1, u.0)) t ∙ ap (number_by true) (m.shapes (u.1, u.0)) ∙ number_faces true (y.shapes u) ∙ sym (link_sends u (y.shapes u) t)

pub turn_abreast : {x y : Said} {hs ks : List Command} {tx ty : Afloat} → ConsistentViews x hs tx y ks ty → ConsistentViews y ks ty x hs tx
turn_abreast a = record { here = a.there; there = a.here; meet = turn_mirrors a.meet; goes = a.comes; comes = a.goes; sane = a.sane_there; sane_there = a.sane }

-- ---- the first that is on its way comes

pub heard_abreast : {x y : Said} {hs ks : List Command} {tx ty : Afloat} {k : Command} → ConsistentViews x hs tx y (k ∷ ks) ty → Legal false k x × ConsistentViews (after_said_by false k x) hs tx y ks ty
heard_abreast {x} {y} {hs} {ks} {tx} {ty} {k} a = (a.here.0, later)
  where
    later : ConsistentViews (after_said_by false k x) hs tx y ks ty
    later = record {
      here = a.here.1;
      there = a.there;
      meet = a.meet;
      goes = sends_heard k x tx a.here.0 a.goes;
      comes = a.comes;
      sane = sane_step false k x a.here.0 a.sane;
      sane_there = a.sane_there;
    }

-- ---- the one says something

pub own_abreast : (c : Command) {x y : Said} {hs ks : List Command} {tx ty : Afloat} → Legal true c x → LeavesNoText c x tx → ConsistentViews x hs tx y ks ty → ConsistentViews (after_said_by true c x) (hs ++ c ∷ []) tx y ks ty
own_abreast c {x} {y} {hs} {ks} {tx} {ty} l quiet a = record {
  here = own_run c ks x l a.here;
  there = legal_append false hs (c ∷ []) y a.there (right, tt);
  meet = subst (λ (z : Said). Mirrors (after_run false ks (after_said_by true c x)) z tx ty) (sym (run_append false hs (c ∷ []) y))
      (mirrors_alike (alike_back ends.1) (step_faces a.meet sane there c ends.0 (sends_run hs y ty a.there a.comes)));
  goes = sends_own c x tx l quiet a.goes;
  comes = a.comes;
  sane = sane_step true c x l a.sane;
  sane_there = a.sane_there;
}
  where
    ends : Legal true c (after_run false ks x) × SaidAlike (after_run false ks (after_said_by true c x)) (after_said_by true c (after_run false ks x))
    ends = own_end c ks x l a.here

    sane : Sane (after_run false ks x)
    sane = sane_run false ks x a.here a.sane

    there : Sane (after_run false hs y)
    there = sane_run false hs y a.there a.sane_there

    -- by what the other sees when all of the one has come
    right : Legal false c (after_run false hs y)
    right = legal_faces a.meet c sane there ends.0
