-- The whole life of a pipe: where what the receiver's user took stands in what was given.
use Rattle.std.proofs.Common.{◌≡◌, ℕ, ◌+◌, ◌-◌, Bool, true, false, if◌then◌else◌, List, [], ◌∷◌, ◌++◌, length, take, drop, refl, sym, ap, ◌∙◌, subst, arith}
use Rattle.std.proofs.lemmas.Bool.{both_ways}
use Rattle.std.proofs.lemmas.List.{append_assoc, append-nil, take-append-drop}
use Rattle.ncp_pipe.specs.Pipe.{Stage, Closed, Asked, Open, Closing, Pipe, new_pipe, Step, is_on, is_open, IsStep, IsRun, without_sender, without_receiver}
use Rattle.ncp_pipe.specs.Pipe as pipes
use Rattle.ncp_pipe.specs.Accounts.{more_given, more_taken, given_after, taken_after, ArePrefixes, Over, Nothing_taken, Passed_over, Prefix, head_of}
use Rattle.ncp_pipe.proofs.Prefixes.{tail, shrink, grow, empty-front}

-- where the receiver's connection is: it has what the sender's gave, or what an earlier one gave, or nothing yet
pub data Place (q : Pipe) (t : List Bool) (ts : List (List Bool)) (g : List Bool) (gs : List (List Bool)) : Type 0 where
  Matched : (lost : List Bool) → g ≡ (t ++ q.held) ++ (q.in_flight ++ (lost ++ q.queued)) → (is_open q.receiver ≡ true → is_on q.sender ≡ true → lost ≡ []) → ArePrefixes ts gs → Place q t ts g gs
  Older : is_open q.receiver ≡ false → ArePrefixes ((t ++ q.held) ∷ ts) gs → Place q t ts g gs
  Bare : t ≡ [] → q.held ≡ [] → q.in_flight ≡ [] → ArePrefixes ts (g ∷ gs) → (is_on q.sender ≡ true → q.fresh ≡ true → ArePrefixes ts gs) → (is_open q.receiver ≡ true → is_on q.sender ≡ false) → Place q t ts g gs

pub record Good (q : Pipe) (t : List Bool) (ts : List (List Bool)) (g : List Bool) (gs : List (List Bool)) : Type 0 where
  pub shut : is_open q.receiver ≡ false → q.in_flight ≡ []
  pub fresh : is_on q.sender ≡ true → q.fresh ≡ true → g ≡ q.queued
  pub asked : q.sender ≡ Asked → (q.fresh ≡ true) × (q.queued ≡ [])
  pub bare : q.receiver ≡ Asked → (t ≡ []) × (q.held ≡ [])
  pub place : Place q t ts g gs

abbrev pub GoodAt : Pipe → List (List Bool) → List (List Bool) → Type 0
GoodAt q (t ∷ ts) (g ∷ gs) = Good q t ts g gs
GoodAt q ts gs = ⊥

on-asked : (s : Stage) → s ≡ Asked → is_on s ≡ true
on-asked Asked e = refl
on-asked Closed e = absurd (cc e)
on-asked Open e = absurd (cc e)
on-asked Closing e = absurd (cc e)

on-open : (s : Stage) → s ≡ Open → is_on s ≡ true
on-open Open e = refl
on-open Asked e = absurd (cc e)
on-open Closed e = absurd (cc e)
on-open Closing e = absurd (cc e)

is-open : (s : Stage) → s ≡ Open → is_open s ≡ true
is-open Open e = refl
is-open Asked e = absurd (cc e)
is-open Closed e = absurd (cc e)
is-open Closing e = absurd (cc e)

shut-off : (s : Stage) → s ≡ Closed → is_open s ≡ false
shut-off Closed e = refl
shut-off Open e = absurd (cc e)
shut-off Asked e = absurd (cc e)
shut-off Closing e = absurd (cc e)

shut-asked : (s : Stage) → s ≡ Asked → is_open s ≡ false
shut-asked Asked e = refl
shut-asked Open e = absurd (cc e)
shut-asked Closed e = absurd (cc e)
shut-asked Closing e = absurd (cc e)

wrong-open : {A : Type 0} → (s : Stage) → s ≡ Open → is_open s ≡ false → A
wrong-open {A} s e f = absurd (both_ways (is_open s) f (is-open s e))

open-asked : {A : Type 0} → Open ≡ Asked → A
open-asked {A} e = absurd (cc e)

module _ (p : Pipe) (t : List Bool) (ts : List (List Bool)) (g : List Bool) (gs : List (List Bool)) (k : Good p t ts g gs) where
  -- the sender's side leaves
  sender-leaves : (stage : Stage) → is_on stage ≡ false → ((stage ≡ Asked) → ⊥) → Good (without_sender stage p) t ts g gs
  sender-leaves stage off none = record {
    shut = k.shut;
    fresh = λ e f. absurd (both_ways (is_on stage) off e);
    asked = λ e. absurd (none e);
    bare = k.bare;
    place = go k.place;
  }
    where
      go : Place p t ts g gs → Place (without_sender stage p) t ts g gs
      go (Matched lost e l b) = Matched (lost ++ p.queued) (e ∙ ap (λ (x : List Bool). (t ++ p.held) ++ (p.in_flight ++ x)) (sym (append-nil (lost ++ p.queued)))) (λ o s. absurd (both_ways (is_on stage) off s)) b
      go (Older o b) = Older o b
      go (Bare a h f b n c) = Bare a h f b (λ s x. absurd (both_ways (is_on stage) off s)) (λ o. off)

  -- the receiver's does
  receiver-leaves : (stage : Stage) → is_open stage ≡ false → ((stage ≡ Asked) → ⊥) → Good (without_receiver stage p) t ts g gs
  receiver-leaves stage off none = record {
    shut = λ e. refl;
    fresh = k.fresh;
    asked = k.asked;
    bare = λ e. absurd (none e);
    place = go k.place;
  }
    where
      go : Place p t ts g gs → Place (without_receiver stage p) t ts g gs
      go (Matched lost e l b) = Matched (p.held ++ (p.in_flight ++ lost)) (e ∙ grind (arith, append_assoc, append-nil)) (λ o s. absurd (both_ways (is_open stage) off o)) b
      go (Older o b) = Older off (subst (λ (x : List Bool). ArePrefixes (x ∷ ts) gs) (sym (append-nil t)) (shrink t p.held ts gs b))
      go (Bare a h f b n c) = Bare a refl refl b n (λ o. absurd (both_ways (is_open stage) off o))

  receiver-drains : Good (record p { receiver = Closing; in_flight = []; allowed = 0 }) t ts g gs
  receiver-drains = record {
    shut = λ e. refl;
    fresh = k.fresh;
    asked = k.asked;
    bare = λ e. absurd (cc e);
    place = go k.place;
  }
    where
      go : Place p t ts g gs → Place (record p { receiver = Closing; in_flight = []; allowed = 0 }) t ts g gs
      go (Matched lost e l b) = Matched (p.in_flight ++ lost) (e ∙ grind (arith, append_assoc, append-nil)) (λ o s. absurd (cc o)) b
      go (Older f b) = Older refl b
      go (Bare a h f b n c) = Bare a h refl b n (λ o. absurd (cc o))

  asks-to-send : is_open p.receiver ≡ false → Good (record p { sender = Asked; queued = []; fresh = true }) t ts [] (g ∷ gs)
  asks-to-send o = record {
    shut = k.shut;
    fresh = λ e f. refl;
    asked = λ e. (refl, refl);
    bare = k.bare;
    place = Older o (go k.place);
  }
    where
      go : Place p t ts g gs → ArePrefixes ((t ++ p.held) ∷ ts) (g ∷ gs)
      go (Matched lost e l b) = Prefix (p.in_flight ++ (lost ++ p.queued)) e b
      go (Older f b) = Passed_over b
      go (Bare a h f b n c) = subst (λ (x : List Bool). ArePrefixes (x ∷ ts) (g ∷ gs)) (sym (ap (λ (x : List Bool). x ++ p.held) a ∙ h)) (Nothing_taken b)

  opens-sender : p.sender ≡ Asked → Good (record p { sender = Open }) t ts g gs
  opens-sender a = record {
    shut = k.shut;
    fresh = λ e f. k.fresh (on-asked p.sender a) f;
    asked = λ e. open-asked e;
    bare = k.bare;
    place = go k.place;
  }
    where
      go : Place p t ts g gs → Place (record p { sender = Open }) t ts g gs
      go (Matched lost e l b) = Matched lost e (λ o s. l o (on-asked p.sender a)) b
      go (Older f b) = Older f b
      go (Bare x h f b n c) = Bare x h f b (λ s f. n (on-asked p.sender a) f) (λ o. absurd (both_ways (is_on p.sender) (c o) (on-asked p.sender a)))

  gives : (text : List Bool) → p.sender ≡ Open → Good (record p { queued = p.queued ++ text }) t ts (g ++ text) gs
  gives text o = record {
    shut = k.shut;
    fresh = λ e f. ap (λ (x : List Bool). x ++ text) (k.fresh e f);
    asked = λ e. open-asked (sym o ∙ e);
    bare = k.bare;
    place = go k.place;
  }
    where
      go : Place p t ts g gs → Place (record p { queued = p.queued ++ text }) t ts (g ++ text) gs
      go (Matched lost e l b) = Matched lost (ap (λ (x : List Bool). x ++ text) e ∙ grind (arith, append_assoc)) l b
      go (Older f b) = Older f b
      go (Bare x h f b n c) = Bare x h f (grow g text ts gs b) n c

  goes : (bits : ℕ) → p.sender ≡ Open → p.in_flight ≡ [] → Good (record p { queued = drop bits p.queued; in_flight = if is_open p.receiver then take bits p.queued else []; fresh = false }) t ts g gs
  goes bits s none = record {
    shut = λ e. ap (λ (b : Bool). if b then take bits p.queued else []) e;
    fresh = λ e f. absurd (cc f);
    asked = λ e. open-asked (sym s ∙ e);
    bare = k.bare;
    place = go k.place;
  }
    where
      on : is_on p.sender ≡ true
      on = on-open p.sender s

      split : (r : Bool) (lost : List Bool) → is_open p.receiver ≡ r → g ≡ (t ++ p.held) ++ (p.in_flight ++ (lost ++ p.queued)) → (is_open p.receiver ≡ true → lost ≡ [])
          → (more : List Bool) × (g ≡ (t ++ p.held) ++ ((if r then take bits p.queued else []) ++ (more ++ drop bits p.queued))) × (r ≡ true → more ≡ [])
      split true lost r e l = (
        [],
        e
            ∙ ap (λ (x : List Bool). (t ++ p.held) ++ (x ++ (lost ++ p.queued))) none
            ∙ ap (λ (x : List Bool). (t ++ p.held) ++ (x ++ p.queued)) (l r)
            ∙ ap (λ (x : List Bool). (t ++ p.held) ++ x) (sym (take-append-drop bits p.queued)),
        λ _. refl,
      )
      split false lost r e l = (
        lost ++ take bits p.queued,
        e
            ∙ ap (λ (x : List Bool). (t ++ p.held) ++ (x ++ (lost ++ p.queued))) none
            ∙ ap (λ (x : List Bool). (t ++ p.held) ++ (lost ++ x)) (sym (take-append-drop bits p.queued))
            ∙ ap (λ (x : List Bool). (t ++ p.held) ++ x) (sym (append_assoc lost (take bits p.queued) (drop bits p.queued))),
        λ e. absurd (cc e),
      )

      go : Place p t ts g gs → Place (record p { queued = drop bits p.queued; in_flight = if is_open p.receiver then take bits p.queued else []; fresh = false }) t ts g gs
      go (Matched lost e l b) = let m = split (is_open p.receiver) lost refl e (λ o. l o on) in Matched m.0 m.1 (λ o s. m.2 o) b
      go (Older f b) = Older f b
      go (Bare x h f b n c) =
          let off : is_open p.receiver ≡ false = shut-if (is_open p.receiver) refl in
          Bare x h (ap (λ (b : Bool). if b then take bits p.queued else []) off) b (λ s e. absurd (cc e)) c
        where
          shut-if : (r : Bool) → is_open p.receiver ≡ r → r ≡ false
          shut-if true e = absurd (both_ways (is_on p.sender) (c e) on)
          shut-if false e = refl

  asks-to-receive : p.receiver ≡ Closed → Good (record p { receiver = Asked; held = []; allowed = 0 }) [] (t ∷ ts) g gs
  asks-to-receive off = record {
    shut = λ e. k.shut (shut-off p.receiver off);
    fresh = k.fresh;
    asked = k.asked;
    bare = λ e. (refl, refl);
    place = Bare refl refl (k.shut (shut-off p.receiver off)) (whole k.place) (λ s f. new s f k.place) (λ o. absurd (cc o));
  }
    where
      whole : Place p t ts g gs → ArePrefixes (t ∷ ts) (g ∷ gs)
      whole (Matched lost e l b) = Prefix (p.held ++ (p.in_flight ++ (lost ++ p.queued))) (e ∙ append_assoc t p.held (p.in_flight ++ (lost ++ p.queued))) b
      whole (Older f b) = Passed_over (shrink t p.held ts gs b)
      whole (Bare a h f b n c) = subst (λ (x : List Bool). ArePrefixes (x ∷ ts) (g ∷ gs)) (sym a) (Nothing_taken b)

      new : is_on p.sender ≡ true → p.fresh ≡ true → Place p t ts g gs → ArePrefixes (t ∷ ts) gs
      new s f (Matched lost e l b) =
          let w : p.queued ≡ t ++ ((p.held ++ (p.in_flight ++ lost)) ++ p.queued) = sym (k.fresh s f) ∙ e ∙ grind (arith, append_assoc) in
          subst (λ (x : List Bool). ArePrefixes (x ∷ ts) gs) (sym (empty-front t (p.held ++ (p.in_flight ++ lost)) p.queued w)) (Nothing_taken b)
      new s f (Older o b) = shrink t p.held ts gs b
      new s f (Bare a h z b n c) = subst (λ (x : List Bool). ArePrefixes (x ∷ ts) gs) (sym a) (Nothing_taken (n s f))

  opens-receiver : p.receiver ≡ Asked → (is_on p.sender ≡ true → p.fresh ≡ true) → Good (record p { receiver = Open }) t ts g gs
  opens-receiver a new = record {
    shut = λ e. absurd (cc e);
    fresh = k.fresh;
    asked = k.asked;
    bare = λ e. open-asked e;
    place = go (is_on p.sender) refl;
  }
    where
      own : (t ≡ []) × (p.held ≡ [])
      own = k.bare a

      dry : p.in_flight ≡ []
      dry = k.shut (shut-asked p.receiver a)

      before : Place p t ts g gs → is_on p.sender ≡ true → ArePrefixes ts gs
      before (Matched lost e l b) s = b
      before (Older f b) s = tail (t ++ p.held) ts gs b
      before (Bare x h f b n c) s = n s (new s)

      all : Place p t ts g gs → ArePrefixes ts (g ∷ gs)
      all (Matched lost e l b) = Passed_over b
      all (Older f b) = Passed_over (tail (t ++ p.held) ts gs b)
      all (Bare x h f b n c) = b

      go : (s : Bool) → is_on p.sender ≡ s → Place (record p { receiver = Open }) t ts g gs
      go true s = Matched [] (k.fresh s (new s) ∙ ap (λ (x : List Bool). x ++ p.queued) (sym dry) ∙ ap (λ (x : List Bool). (x ++ (p.in_flight ++ p.queued))) (sym (ap (λ (x : List Bool). x ++ p.held) own.0 ∙ own.1))) (λ o s. refl) (before k.place s)
      go false s = Bare own.0 own.1 dry (all k.place) (λ e f. absurd (both_ways (is_on p.sender) s e)) (λ o. s)

  takes : (text rest : List Bool) → p.held ≡ text ++ rest → Good (record p { held = rest }) (t ++ text) ts g gs
  takes text rest e = record {
    shut = k.shut;
    fresh = k.fresh;
    asked = k.asked;
    bare = λ a. let o = k.bare a in let n = none text rest (sym e ∙ o.1) in (ap (λ (x : List Bool). x ++ text) o.0 ∙ n.0, n.1);
    place = go k.place;
  }
    where
      none : (xs ys : List Bool) → xs ++ ys ≡ [] → (xs ≡ []) × (ys ≡ [])
      none [] ys e = (refl, e)
      none (x ∷ xs) ys e = absurd (cc e)

      same : t ++ p.held ≡ (t ++ text) ++ rest
      same = ap (λ (x : List Bool). t ++ x) e ∙ sym (append_assoc t text rest)

      go : Place p t ts g gs → Place (record p { held = rest }) (t ++ text) ts g gs
      go (Matched lost f l b) = Matched lost (f ∙ ap (λ (x : List Bool). x ++ (p.in_flight ++ (lost ++ p.queued))) same) l b
      go (Older f b) = Older f (subst (λ (x : List Bool). ArePrefixes (x ∷ ts) gs) same b)
      go (Bare a h f b n c) = let m = none text rest (sym e ∙ h) in Bare (ap (λ (x : List Bool). x ++ text) a ∙ m.0) m.1 f b n c

  comes : p.receiver ≡ Open → Good (record p { in_flight = []; held = p.held ++ p.in_flight; allowed = p.allowed - length p.in_flight }) t ts g gs
  comes o = record {
    shut = λ e. refl;
    fresh = k.fresh;
    asked = k.asked;
    bare = λ a. open-asked (sym o ∙ a);
    place = go k.place;
  }
    where
      go : Place p t ts g gs → Place (record p { in_flight = []; held = p.held ++ p.in_flight; allowed = p.allowed - length p.in_flight }) t ts g gs
      go (Matched lost e l b) = Matched lost (e ∙ grind (arith, append_assoc)) l b
      go (Older f b) = wrong-open p.receiver o f
      go (Bare a h f b n c) = Bare a (ap (λ (x : List Bool). x ++ p.in_flight) h ∙ f) refl b n c

  allowance : (bits : ℕ) → Good (record p { allowed = bits }) t ts g gs
  allowance bits = record { shut = k.shut; fresh = k.fresh; asked = k.asked; bare = k.bare; place = go k.place }
    where
      go : Place p t ts g gs → Place (record p { allowed = bits }) t ts g gs
      go (Matched lost e l b) = Matched lost e l b
      go (Older f b) = Older f b
      go (Bare a h f b n c) = Bare a h f b n c

  pub one-step : (s : Step) (q : Pipe) → IsStep s p q → GoodAt q (more_taken s (t ∷ ts)) (more_given s (g ∷ gs))
  one-step pipes.Asks_to_send q (a, o, e) = subst (λ (x : Pipe). Good x t ts [] (g ∷ gs)) (sym e) (asks-to-send o)
  one-step pipes.Opens_sender q (a, e) = subst (λ (x : Pipe). Good x t ts g gs) (sym e) (opens-sender a)
  one-step (pipes.Gives text) q (o, e) = subst (λ (x : Pipe). Good x t ts (g ++ text) gs) (sym e) (gives text o)
  one-step pipes.Closes_sender q e = subst (λ (x : Pipe). Good x t ts g gs) (sym e) (sender-leaves Closing refl (λ x. cc x))
  one-step pipes.Leaves_sender q (o, e) = subst (λ (x : Pipe). Good x t ts g gs) (sym e) (sender-leaves Closing refl (λ x. cc x))
  one-step pipes.Ends_sender q (o, e) = subst (λ (x : Pipe). Good x t ts g gs) (sym e) (sender-leaves Closed refl (λ x. cc x))
  one-step pipes.Cuts_sender q e = subst (λ (x : Pipe). Good x t ts g gs) (sym e) (sender-leaves Closed refl (λ x. cc x))
  one-step pipes.Asks_to_receive q (o, e) = subst (λ (x : Pipe). Good x [] (t ∷ ts) g gs) (sym e) (asks-to-receive o)
  one-step pipes.Opens_receiver q (a, n, e) = subst (λ (x : Pipe). Good x t ts g gs) (sym e) (opens-receiver a n)
  one-step (pipes.Takes text) q (rest, h, e) = subst (λ (x : Pipe). Good x (t ++ text) ts g gs) (sym e) (takes text rest h)
  one-step (pipes.Allows bits) q (o, e) = subst (λ (x : Pipe). Good x t ts g gs) (sym e) (allowance (p.allowed + bits))
  one-step pipes.Calls_back q (o, e) = subst (λ (x : Pipe). Good x t ts g gs) (sym e) k
  one-step (pipes.Returns bits) q (o, e) = subst (λ (x : Pipe). Good x t ts g gs) (sym e) (allowance (p.allowed - bits))
  one-step pipes.Closes_receiver q e = subst (λ (x : Pipe). Good x t ts g gs) (sym e) (receiver-leaves Closing refl (λ x. cc x))
  one-step pipes.Leaves_receiver q (o, e) = subst (λ (x : Pipe). Good x t ts g gs) (sym e) receiver-drains
  one-step pipes.Ends_receiver q (o, e) = subst (λ (x : Pipe). Good x t ts g gs) (sym e) (receiver-leaves Closed refl (λ x. cc x))
  one-step pipes.Cuts_receiver q e = subst (λ (x : Pipe). Good x t ts g gs) (sym e) (receiver-leaves Closed refl (λ x. cc x))
  one-step (pipes.Sends bits) q (o, f, l, m, e) = subst (λ (x : Pipe). Good x t ts g gs) (sym e) (goes bits o f)
  one-step pipes.Delivers q (o, l, e) = subst (λ (x : Pipe). Good x t ts g gs) (sym e) (comes o)

step-at : (p : Pipe) (ts gs : List (List Bool)) → GoodAt p ts gs → (s : Step) (q : Pipe) → IsStep s p q → GoodAt q (more_taken s ts) (more_given s gs)
step-at p (t ∷ ts) (g ∷ gs) k s q i = one-step p t ts g gs k s q i
step-at p [] gs k s q i = absurd k
step-at p (t ∷ ts) [] k s q i = absurd k

pub good-run : (steps : List Step) (p q : Pipe) (ts gs : List (List Bool)) → GoodAt p ts gs → IsRun p steps q → GoodAt q (taken_after steps ts) (given_after steps gs)
good-run [] p q ts gs k r = subst (λ (x : Pipe). GoodAt x ts gs) r k
good-run (s ∷ steps) p q ts gs k (m, i, r) = good-run steps m q (more_taken s ts) (more_given s gs) (step-at p ts gs k s m i) r

pub good-new : GoodAt new_pipe ([] ∷ []) ([] ∷ [])
good-new = record {
  shut = λ e. refl;
  fresh = λ e f. refl;
  asked = λ e. absurd (cc e);
  bare = λ e. absurd (cc e);
  place = Matched [] refl (λ o s. refl) Over;
}

pub ends : (q : Pipe) (ts gs : List (List Bool)) → GoodAt q ts gs → ArePrefixes ts gs
ends q (t ∷ ts) (g ∷ gs) k = go k.place
  where
    go : Place q t ts g gs → ArePrefixes (t ∷ ts) (g ∷ gs)
    go (Matched lost e l b) = Prefix (q.held ++ (q.in_flight ++ (lost ++ q.queued))) (e ∙ append_assoc t q.held (q.in_flight ++ (lost ++ q.queued))) b
    go (Older f b) = Passed_over (shrink t q.held ts gs b)
    go (Bare a h f b n c) = subst (λ (x : List Bool). ArePrefixes (x ∷ ts) (g ∷ gs)) (sym a) (Nothing_taken b)
ends q [] gs k = absurd k
ends q (t ∷ ts) [] k = absurd k

-- while both are open nothing is lost
pub open-both : (q : Pipe) (ts gs : List (List Bool)) → GoodAt q ts gs → q.sender ≡ Open → q.receiver ≡ Open → head_of gs ≡ head_of ts ++ (q.held ++ (q.in_flight ++ q.queued))
open-both q (t ∷ ts) (g ∷ gs) k s o = go k.place
  where
    go : Place q t ts g gs → g ≡ t ++ (q.held ++ (q.in_flight ++ q.queued))
    go (Matched lost e l b) = e ∙ ap (λ (x : List Bool). (t ++ q.held) ++ (q.in_flight ++ (x ++ q.queued))) (l (is-open q.receiver o) (on-open q.sender s)) ∙ append_assoc t q.held (q.in_flight ++ q.queued)
    go (Older f b) = wrong-open q.receiver o f
    go (Bare a h f b n c) = absurd (both_ways (is_on q.sender) (c (is-open q.receiver o)) (on-open q.sender s))
open-both q [] gs k s o = absurd k
open-both q (t ∷ ts) [] k s o = absurd k
