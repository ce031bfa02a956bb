-- A text of one of two hosts is sent, and received: its arrival at the other host is right by the flow.
use Rattle.std.proofs.Common.{◌≡◌, ℕ, ◌+◌, ◌≤◌, ◌==◌, eq-eqb, Bool, true, false, not, ◌&&◌, if◌then◌else◌, List, [], ◌∷◌, Option, None, Some, inl, inr, is_some, refl, sym, ap, ◌∙◌, subst, arith}
use Rattle.std.proofs.lemmas.Bool.{eqb-true}
use Rattle.ncp_wire.specs.declared.command.Command.{Command}
use Rattle.ncp_monitor.proofs.Shapes.{Shape}
use Rattle.ncp_monitor.proofs.LinkOrder.{Sockets, same, same_is}
use Rattle.ncp_proof_monitor_allocation.proofs.Words.{Count}
use Rattle.ncp_proof_monitor_network.specs.Owing.{Owing, Echoes, Returning}
use Rattle.ncp_proof_monitor_network.proofs.Tallied.{left_by, has_both, is_open_by, receives_by, IsDemuxed, count_put, counted_off, owed_messages, owed_bits, Expected, MatchesOwed}
use Rattle.ncp_proof_monitor_network.proofs.Said.{Said, takes_by, number_by, TextLegal, after_text_by, after_run, facing_user}
use Rattle.ncp_proof_monitor_network.proofs.UsersSaid.{taken, link_between, same_self}
use Rattle.ncp_proof_monitor_network.proofs.MatchSteps.{OwesLess, owes_same}
use Rattle.ncp_proof_monitor_network.proofs.FacesSteps.{faces_in, faces_fall}
use Rattle.ncp_proof_monitor_network.proofs.LegalFaces.{left_faces, number_faces, taken_by}
use Rattle.ncp_proof_monitor_network.proofs.TextSteps.{beside, RunBeside, Enough, AsOwed, FewerOwed, Spent, Early, spent_run, early_run, run_falls, other_side, TextBy, text_by, open_stays, text_out}
use Rattle.ncp_proof_monitor_network.proofs.ConsistentViews.{Afloat, with_float, float_messages, float_bits, messages_afloat, bits_afloat, FacesOn, Mirrors, Sending, AllSending, Sane, ConsistentViews}
use Rattle.ncp_proof_monitor_network.proofs.SaneSteps.{sane_run, sane_text}
use Rattle.ncp_proof_monitor_network.proofs.UsersRun.{sends_run, user_run, users_back, their_back}

-- ---- less is owed

expected_fewer : (o p q : Owing) → Expected o p → AsOwed p q → Expected o q
expected_fewer (Echoes a) (Echoes b) (Echoes c) x f = x ∙ f
expected_fewer (Echoes a) (Echoes b) (Returning w j k n) x f = absurd f
expected_fewer (Echoes a) (Returning u on m b) q x f = absurd x
expected_fewer (Returning v link m b) (Echoes c) q x f = absurd x
expected_fewer (Returning v link m b) (Returning u on k j) (Echoes c) x f = absurd f
expected_fewer (Returning v link m b) (Returning u on k j) (Returning w l n i) x f =
    let a = x.2 in
    let d = x.3 in
    let e = f.2 in
    let g = f.3 in (x.0 ∙ f.0, x.1 ∙ f.1, omega (arith, a, e), omega (arith, d, g))

matches_fewer : (os ps qs : List Owing) → MatchesOwed os ps → FewerOwed ps qs → MatchesOwed os qs
matches_fewer [] [] [] m f = tt
matches_fewer [] [] (q ∷ qs) m f = absurd f
matches_fewer [] (p ∷ ps) qs m f = absurd m
matches_fewer (o ∷ os) [] [] m f = m
matches_fewer (o ∷ os) [] (q ∷ qs) m f = absurd f
matches_fewer (o ∷ os) (p ∷ ps) [] m f = absurd f
matches_fewer (o ∷ os) (p ∷ ps) (q ∷ qs) (inl (x, m)) f = inl (expected_fewer o p q x f.0, matches_fewer os ps qs m f.1)
matches_fewer (o ∷ os) (p ∷ ps) (q ∷ qs) (inr (r, m)) f = inr (r, matches_fewer os (p ∷ ps) (q ∷ qs) m f)

owes_fewer : (v : Sockets) (ps qs : List Owing) → FewerOwed ps qs → OwesLess v qs ps
owes_fewer v [] [] f = owes_same v []
owes_fewer v [] (q ∷ qs) f = absurd f
owes_fewer v (p ∷ ps) [] f = absurd f
owes_fewer v (p ∷ ps) (q ∷ qs) f = go p q f.0 (owes_fewer v ps qs f.1)
  where
    one : (b : Bool) (n k m j : ℕ) → n ≤ k → m ≤ j → (if b then n + m else m) ≤ (if b then k + j else j)
    one true n k m j e f = omega (arith, e, f)
    one false n k m j e f = f

    go : (p q : Owing) → AsOwed p q → OwesLess v qs ps → OwesLess v (q ∷ qs) (p ∷ ps)
    go (Echoes a) (Echoes b) x rest = record { messages = rest.messages; bits = rest.bits }
    go (Echoes a) (Returning w link n k) x rest = absurd x
    go (Returning u on m b) (Echoes c) x rest = absurd x
    go (Returning u on m b) (Returning w link n k) x rest =
        subst (λ (z : Sockets). OwesLess v (Returning z link n k ∷ qs) (Returning u on m b ∷ ps)) x.0
        (record { messages = one (same u v) n m (owed_messages v qs) (owed_messages v ps) x.2 rest.messages; bits = one (same u v) k b (owed_bits v qs) (owed_bits v ps) x.3 rest.bits })

-- ---- the texts that are on their way

float_here : (link : ℕ) (o : Option (ℕ × ℕ)) (t : Afloat) → with_float link o t link ≡ o
float_here link o t = ap (λ (b : Bool). if b then o else t link) (eq-eqb link link refl)

float_other : (link : ℕ) (o : Option (ℕ × ℕ)) (t : Afloat) (on : Option ℕ) → (on ≡ Some link → ⊥) → (messages_afloat on (with_float link o t) ≡ messages_afloat on t) × (bits_afloat on (with_float link o t) ≡ bits_afloat on t)
float_other link o t None k = (refl, refl)
float_other link o t (Some l) k = go (l == link) refl
  where
    go : (b : Bool) → (l == link) ≡ b → (float_messages (if b then o else t l) ≡ float_messages (t l)) × (float_bits (if b then o else t l) ≡ float_bits (t l))
    go true e = absurd (k (ap (λ (n : ℕ). Some n) (eqb-true l link e)))
    go false e = (refl, refl)

not_it : (u v : Sockets) → (same v u ≡ true → ⊥) → same v u ≡ false
not_it u v k = go (same v u) refl
  where
    go : (b : Bool) → same v u ≡ b → same v u ≡ false
    go true e = absurd (k e)
    go false e = e

-- ---- a text of one host is sent

module _ (link size bits : ℕ) {x y : Said} {tx ty : Afloat} (m : Mirrors x y tx ty) (sane : Sane x) (u : Sockets) (c : Sockets → Count) (o : Bool → List Owing) (f : Spent u bits x c o) (used : x.users false link ≡ Some u) (none : tx link ≡ None) where
  abbrev floats_out : Afloat
  floats_out = with_float link (Some (size, bits)) tx

  out_there : (v : Sockets) → takes_by false v ≡ true → FacesOn v (y.counts (v.1, v.0)) (c v) (o true) (link_between v (x.shapes v)) floats_out
  out_there v t = go (same v u) refl
    where
      it : FacesOn u (y.counts (u.1, u.0)) (x.counts u) (x.owing true) (link_between u (x.shapes u)) tx → FacesOn u (y.counts (u.1, u.0)) (c u) (o true) (link_between u (x.shapes u)) floats_out
      it k =
          let a = k.messages in
          let b = k.bits in
          let d = f.less.messages_less in
          let e = f.less.bits_less in
          let at : link_between u (x.shapes u) ≡ Some link = (sane.fit.used false link u used).1 in
          let g : messages_afloat (link_between u (x.shapes u)) floats_out ≡ 1 = ap (λ (z : Option ℕ). messages_afloat z floats_out) at ∙ ap float_messages (float_here link (Some (size, bits)) tx) in
          let h : bits_afloat (link_between u (x.shapes u)) floats_out ≡ bits = ap (λ (z : Option ℕ). bits_afloat z floats_out) at ∙ ap float_bits (float_here link (Some (size, bits)) tx) in
          record { messages = omega (arith, a, d, g); bits = omega (arith, b, e, h); recall = k.recall ∙ sym f.less.recall }

      other : same v u ≡ false → FacesOn v (y.counts (v.1, v.0)) (c v) (o true) (link_between v (x.shapes v)) floats_out
      other e =
          let less = owes_fewer v (x.owing true) (o true) f.mine in
          let text = float_other link (Some (size, bits)) tx (link_between v (x.shapes v)) (λ k. let its : Some v ≡ Some u = sym (sane.fit.user false link v (taken false v t) k) ∙ used in
          let is : v ≡ u = cc its in let nay : true ≡ false = sym (same_self v) ∙ ap (same v) is ∙ e in cc nay) in
          let a = text.0 in
          let b = text.1 in
          subst (λ (j : Count). FacesOn v (y.counts (v.1, v.0)) j (o true) (link_between v (x.shapes v)) floats_out) (sym (f.other v e))
          (faces_fall (owed_messages v (o true)) (owed_bits v (o true)) (messages_afloat (link_between v (x.shapes v)) floats_out) (bits_afloat (link_between v (x.shapes v)) floats_out) less.messages less.bits (omega (arith, a)) (omega (arith, b)) (m.there v t))

      go : (b : Bool) → same v u ≡ b → FacesOn v (y.counts (v.1, v.0)) (c v) (o true) (link_between v (x.shapes v)) floats_out
      go false e = other e
      go true e =
          let is : v ≡ u = same_is v u e in
          subst (λ (w : Sockets). FacesOn w (y.counts (w.1, w.0)) (c w) (o true) (link_between w (x.shapes w)) floats_out) (sym is)
          (it (subst (λ (w : Sockets). FacesOn w (y.counts (w.1, w.0)) (x.counts w) (x.owing true) (link_between w (x.shapes w)) tx) is (m.there v t)))

  out_mirrors : Mirrors (beside x c o) y floats_out ty
  out_mirrors = record {
    shapes = m.shapes;
    users = m.users;
    here = λ v t. subst (λ (j : Count). FacesOn (v.1, v.0) j (y.counts (v.1, v.0)) (y.owing true) (link_between v (x.shapes v)) ty) (sym (f.other v (not_it u v (λ e. other_side v u (taken true v t) f.sends e)))) (m.here v t);
    there = out_there;
    mine = subst (λ (os : List Owing). MatchesOwed os (y.owing true)) (sym f.theirs) m.mine;
    theirs = matches_fewer (y.owing false) (x.owing true) (o true) m.theirs f.mine;
  }

pub own_text : (link size bits : ℕ) {x y : Said} {hs ks : List Command} {tx ty : Afloat} → TextLegal true link size bits x → tx link ≡ None → ConsistentViews x hs tx y ks ty
    → ConsistentViews (after_text_by true link bits x) hs (with_float link (Some (size, bits)) tx) y ks ty
own_text link size bits {x} {y} {hs} {ks} {tx} {ty} legal none a = record {
  here = run.legal;
  there = a.there;
  meet = subst (λ (z : Said). Mirrors z (after_run false hs y) (with_float link (Some (size, bits)) tx) ty) (sym run.ends)
      (out_mirrors link size bits a.meet (sane_run false ks x a.here a.sane) t.by run.counts run.owing run.rel (user_run ks x false link t.by a.here t.used (open_stays (x.shapes t.by) t.is_open)).0 none);
  goes = goes;
  comes = a.comes;
  sane = sane_text true link size bits x legal a.sane;
  sane_there = a.sane_there;
}
  where
    t : TextBy true link size bits x
    t = text_by true link size bits x legal

    run : RunBeside (λ ls. Spent t.by bits) ks x (count_put x.counts (x.users false link) (counted_off 1 bits)) x.owing
    run = spent_run t.by bits ks x (count_put x.counts (x.users false link) (counted_off 1 bits)) x.owing a.here (text_out link size bits x t)

    goes : AllSending (after_text_by true link bits x) (with_float link (Some (size, bits)) tx)
    goes l n k e = go (l == link) refl e
      where
        go : (b : Bool) → (l == link) ≡ b → (if b then Some (size, bits) else tx l) ≡ Some (n, k) → Sending l n (after_text_by true link bits x)
        go true i e =
            let is : l ≡ link = eqb-true l link i in
            let its : (size, bits) ≡ (n, k) = cc e in
            record { by = t.by; used = ap (x.users false) is ∙ t.used; asked = t.asked ∙ ap (λ (z : ℕ × ℕ). Some z.0) its; unleft = open_stays (x.shapes t.by) t.is_open }
        go false i e = let s = a.goes l n k e in record { by = s.by; used = s.used; asked = s.asked; unleft = s.unleft }

-- ---- a text of the other comes

number_some : (s : Bool) (m : Option Shape) (n : ℕ) → number_by s m ≡ Some n → is_some m ≡ true
number_some true None n e = absurd (cc e)
number_some false None n e = absurd (cc e)
number_some s (Some m) n e = refl

module _ (link size bits : ℕ) {x y : Said} {tx ty : Afloat} (m : Mirrors x y tx ty) (sane : Sane x) (u : Sockets) (c : Sockets → Count) (o : Bool → List Owing) (counts : (v : Sockets) → c v ≡ count_put x.counts (Some u) (counted_off 1 bits) v)
    (owing : (s : Bool) → o s ≡ x.owing s) (receives : receives_by true u ≡ true) (used : x.users true link ≡ Some u) (text : ty link ≡ Some (size, bits)) where
  abbrev floats_left : Afloat
  floats_left = with_float link None ty

  in_other : (v : Sockets) → same v u ≡ false → c v ≡ x.counts v
  in_other v e = counts v ∙ ap (λ (b : Bool). if b then counted_off 1 bits (x.counts v) else x.counts v) e

  in_here : (v : Sockets) → takes_by true v ≡ true → FacesOn (v.1, v.0) (c v) (y.counts (v.1, v.0)) (y.owing true) (link_between v (x.shapes v)) floats_left
  in_here v t = go (same v u) refl
    where
      go : (b : Bool) → same v u ≡ b → FacesOn (v.1, v.0) (c v) (y.counts (v.1, v.0)) (y.owing true) (link_between v (x.shapes v)) floats_left
      go false e =
          let same_text = float_other link None ty (link_between v (x.shapes v)) (λ k. let its : Some v ≡ Some u = sym (sane.fit.user true link v (taken true v t) k) ∙ used in
          let is : v ≡ u = cc its in let nay : true ≡ false = sym (same_self v) ∙ ap (same v) is ∙ e in cc nay) in
          let a = same_text.0 in
          let b = same_text.1 in
          subst (λ (j : Count). FacesOn (v.1, v.0) j (y.counts (v.1, v.0)) (y.owing true) (link_between v (x.shapes v)) floats_left) (sym (in_other v e))
          (faces_fall (owed_messages (v.1, v.0) (y.owing true)) (owed_bits (v.1, v.0) (y.owing true)) (messages_afloat (link_between v (x.shapes v)) floats_left) (bits_afloat (link_between v (x.shapes v)) floats_left) (omega arith) (omega arith) (omega (arith, a)) (omega (arith, b)) (m.here v t))
      go true e =
          let its : x.users true link ≡ Some v = used ∙ ap (λ (w : Sockets). Some w) (sym (same_is v u e)) in
          let at : link_between v (x.shapes v) ≡ Some link = (sane.fit.used true link v its).1 in
          let g : messages_afloat (link_between v (x.shapes v)) ty ≡ 1 = ap (λ (z : Option ℕ). messages_afloat z ty) at ∙ ap float_messages text in
          let h : bits_afloat (link_between v (x.shapes v)) ty ≡ bits = ap (λ (z : Option ℕ). bits_afloat z ty) at ∙ ap float_bits text in
          let i : messages_afloat (link_between v (x.shapes v)) floats_left ≡ 0 = ap (λ (z : Option ℕ). messages_afloat z floats_left) at ∙ ap float_messages (float_here link None ty) in
          let j : bits_afloat (link_between v (x.shapes v)) floats_left ≡ 0 = ap (λ (z : Option ℕ). bits_afloat z floats_left) at ∙ ap float_bits (float_here link None ty) in
          subst (λ (k : Count). FacesOn (v.1, v.0) k (y.counts (v.1, v.0)) (y.owing true) (link_between v (x.shapes v)) floats_left) (sym (counts v ∙ ap (λ (b : Bool). if b then counted_off 1 bits (x.counts v) else x.counts v) e))
          (faces_fall (owed_messages (v.1, v.0) (y.owing true)) (owed_bits (v.1, v.0) (y.owing true)) (messages_afloat (link_between v (x.shapes v)) floats_left) (bits_afloat (link_between v (x.shapes v)) floats_left) (omega arith) (omega arith) (omega (arith, i)) (omega (arith, j))
          (faces_in bits (faces_fall (owed_messages (v.1, v.0) (y.owing true)) (owed_bits (v.1, v.0) (y.owing true)) 1 bits (omega arith) (omega arith) (omega (arith, g)) (omega (arith, h)) (m.here v t))))

  in_mirrors : Mirrors (beside x c o) y tx floats_left
  in_mirrors = record {
    shapes = m.shapes;
    users = m.users;
    here = in_here;
    there = λ v t. subst (λ (j : Count). FacesOn v (y.counts (v.1, v.0)) j (o true) (link_between v (x.shapes v)) tx) (sym (in_other v (not_it u v (λ e. sends v t e))))
        (subst (λ (os : List Owing). FacesOn v (y.counts (v.1, v.0)) (x.counts v) os (link_between v (x.shapes v)) tx) (sym (owing true)) (m.there v t));
    mine = subst (λ (os : List Owing). MatchesOwed os (y.owing true)) (sym (owing false)) m.mine;
    theirs = subst (λ (os : List Owing). MatchesOwed (y.owing false) os) (sym (owing true)) m.theirs;
  }
    where
      sends : (v : Sockets) → takes_by false v ≡ true → same v u ≡ true → ⊥
      sends v t e = other_side v v (ap (receives_by true) (same_is v u e) ∙ receives) (taken false v t) (same_self v)

-- it is right, and was counted
pub record Coming (link size bits : ℕ) (x : Said) (ks : List Command) : Type 0 where
  pub by : Sockets
  pub used : x.users true link ≡ Some by
  pub used_last : (after_run false ks x).users true link ≡ Some by
  pub receives : receives_by true by ≡ true
  pub is_open : is_open_by false (x.shapes by) ≡ true
  pub asked : number_by false (x.shapes by) ≡ Some size
  pub last : Enough 1 bits ((after_run false ks x).counts by)
  pub now : Enough 1 bits (x.counts by)

coming : (link size bits : ℕ) {x y : Said} {hs ks : List Command} {tx ty : Afloat} → ty link ≡ Some (size, bits) → ConsistentViews x hs tx y ks ty → Coming link size bits x ks
coming link size bits {x} {y} {hs} {ks} {tx} {ty} e a = record {
  by = u;
  used = used;
  used_last = used_last;
  receives = its.0;
  is_open = ap (λ (b : Bool). b && not (left_by false (x.shapes u))) both ∙ ap not back.0;
  asked = sym back.1 ∙ asked;
  last = last;
  now = now;
}
  where
    by : Sending link size (after_run false hs y)
    by = sends_run hs y ty a.there a.comes link size bits e

    u : Sockets
    u = (by.by.1, by.by.0)

    used_last : (after_run false ks x).users true link ≡ Some u
    used_last = a.meet.users true link ∙ ap facing_user by.used

    used : x.users true link ≡ Some u
    used = users_back ks x link u used_last

    its : (receives_by true u ≡ true) × (link_between u ((after_run false ks x).shapes u) ≡ Some link)
    its = (sane_run false ks x a.here a.sane).fit.used true link u used_last

    asked : number_by false ((after_run false ks x).shapes u) ≡ Some size
    asked = ap (number_by false) (a.meet.shapes u) ∙ number_faces false ((after_run false hs y).shapes by.by) ∙ by.asked

    unleft : left_by false ((after_run false ks x).shapes u) ≡ false
    unleft = ap (left_by false) (a.meet.shapes u) ∙ left_faces false ((after_run false hs y).shapes by.by) ∙ by.unleft

    takes : takes_by true u ≡ true
    takes = taken_by true u its.0 ((sane_run false ks x a.here a.sane).fit.sexed u (number_some false ((after_run false ks x).shapes u) size asked))

    last : Enough 1 bits ((after_run false ks x).counts u)
    last =
        let faces = a.meet.here u takes in
        let b = faces.messages in
        let c = faces.bits in
        let g : messages_afloat (link_between u ((after_run false ks x).shapes u)) ty ≡ 1 = ap (λ (z : Option ℕ). messages_afloat z ty) its.1 ∙ ap float_messages e in
        let h : bits_afloat (link_between u ((after_run false ks x).shapes u)) ty ≡ bits = ap (λ (z : Option ℕ). bits_afloat z ty) its.1 ∙ ap float_bits e in
        record { has_messages = omega (arith, b, g); has_bits = omega (arith, c, h) }

    now : Enough 1 bits (x.counts u)
    now =
        let falls = run_falls ks x u its.0 a.here in
        let b = falls.has_messages in
        let c = falls.has_bits in
        let d = last.has_messages in
        let f = last.has_bits in record { has_messages = omega (arith, b, d); has_bits = omega (arith, c, f) }

    both : has_both (x.shapes u) ≡ true
    both = go (has_both (x.shapes u)) refl
      where
        go : (b : Bool) → has_both (x.shapes u) ≡ b → has_both (x.shapes u) ≡ true
        go true k = k
        go false k =
            let none : (x.counts u).messages ≡ 0 = ap (λ (j : Count). j.messages) (a.sane.fit.unopened u k) in
            let d = now.has_messages in
            let nay : 1 ≤ 0 = omega (arith, none, d) in absurd (omega (arith, nay))

    back : (left_by false (x.shapes u) ≡ false) × (number_by false ((after_run false ks x).shapes u) ≡ number_by false (x.shapes u))
    back = their_back ks x link u a.here used_last unleft both

pub their_text : (link size bits : ℕ) {x y : Said} {hs ks : List Command} {tx ty : Afloat} → ty link ≡ Some (size, bits) → ConsistentViews x hs tx y ks ty
    → TextLegal false link size bits x × ConsistentViews (after_text_by false link bits x) hs tx y ks (with_float link None ty)
their_text link size bits {x} {y} {hs} {ks} {tx} {ty} e a = (legal, after)
  where
    t : Coming link size bits x ks
    t = coming link size bits e a

    legal : TextLegal false link size bits x
    legal =
        subst (λ (o : Option Sockets). IsDemuxed false true o x.shapes (λ u. (number_by false (x.shapes u) ≡ Some size) × (1 ≤ (x.counts u).messages) × (bits ≤ (x.counts u).bits))) (sym t.used)
        (t.receives, t.is_open, (t.asked, t.now.has_messages, t.now.has_bits))

    run : RunBeside (Early t.by bits) ks x (count_put x.counts (x.users true link) (counted_off 1 bits)) x.owing
    run = early_run t.by bits ks x (count_put x.counts (x.users true link) (counted_off 1 bits)) x.owing a.here
        (record { receives = t.receives; counts = λ v. ap (λ (o : Option Sockets). count_put x.counts o (counted_off 1 bits) v) t.used; owing = λ s. refl; last = t.last })

    comes : AllSending y (with_float link None ty)
    comes l n k i = go (l == link) refl i
      where
        go : (b : Bool) → (l == link) ≡ b → (if b then None else ty l) ≡ Some (n, k) → Sending l n y
        go true j i = absurd (cc i)
        go false j i = a.comes l n k i

    after : ConsistentViews (after_text_by false link bits x) hs tx y ks (with_float link None ty)
    after = record {
      here = run.legal;
      there = a.there;
      meet = subst (λ (z : Said). Mirrors z (after_run false hs y) tx (with_float link None ty)) (sym run.ends)
          (in_mirrors link size bits a.meet (sane_run false ks x a.here a.sane) t.by run.counts run.owing run.rel.counts run.rel.owing t.receives t.used_last e);
      goes = λ l n k i. let s = a.goes l n k i in record { by = s.by; used = s.used; asked = s.asked; unleft = s.unleft };
      comes = comes;
      sane = sane_text false link size bits x legal a.sane;
      sane_there = a.sane_there;
    }
