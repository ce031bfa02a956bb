-- What happens to an end whose receiver called back: the GVB or the RET is underway until it is answered.
use Rattle.std.proofs.Common.{◌≡◌, ℕ, ◌+◌, ◌≤◌, ◌<◌, Bool, true, false, List, [], ◌∷◌, ◌++◌, Option, None, Some, refl, sym, ap, ◌∙◌, subst, arith}
use Rattle.std.proofs.lemmas.Bool.{both_ways}
use Rattle.ncp_wire.specs.declared.command.Command.{Command}
use Rattle.ncp_wire.specs.declared.command.Command.TheVariants.{Cls, Gvb, Ret}
use Rattle.ncp_model.specs.declared.pair.Pair.{Pair}
use Rattle.ncp_model.specs.Endpoint.{Endpoint, or_new, is_closing}
use Rattle.ncp_model.specs.Texts.{Rfnm, Incomplete, Dead}
use Rattle.ncp_model.specs.EndpointEvents.{EndpointEvent, happens, is_violation}
use Rattle.ncp_model.proofs.ResetLists.{bit}

abbrev pub is_gvb : Command → Bool
is_gvb (Gvb on m b) = true
is_gvb c = false

abbrev pub is_ret : Command → Bool
is_ret (Ret on m b) = true
is_ret c = false

abbrev pub is_cls : Command → Bool
is_cls (Cls my your) = true
is_cls c = false

abbrev pub many : (Command → Bool) → List Command → ℕ
many test [] = 0
many test (c ∷ cs) = bit (test c) + many test cs

pub many-more : (test : Command → Bool) (u v : List Command) → many test (u ++ v) ≡ many test u + many test v
many-more test [] v = omega arith
many-more test (c ∷ u) v = omega (arith, many-more test u v)

-- s at the sender's host and r at the receiver's, with p underway to the receiver and q to the sender: a GVB is
-- unanswered while it or its RET is underway, as long as neither is on its way out and no CLS of the sender is
abbrev pub Recalled : Endpoint → Endpoint → List Command → List Command → Type 0
Recalled s r p q = r.recall ≡ true → is_closing r ≡ false → is_closing s ≡ false → many is_cls p ≡ 0 → 0 < many is_gvb q + many is_ret p

-- An end that is not on its way out was not.

abbrev StaysGoing : Option Endpoint → Bool → Type 0
StaysGoing None g = Unit {0}
StaysGoing (Some e) g = is_closing e ≡ false → g ≡ false

of-new : (o : Option Endpoint) → StaysGoing o false
of-new None = tt
of-new (Some e) = λ _. refl

stays-going : (pair : Pair) (what : EndpointEvent) (before : Option Endpoint) → StaysGoing (happens pair what before).after (is_closing (or_new before))
stays-going pair what None = of-new (happens pair what None).after
stays-going pair (EndpointEvent.Is_answered Rfnm) (Some e) = grind arith
stays-going pair (EndpointEvent.Is_answered Incomplete) (Some e) = λ g. g
stays-going pair (EndpointEvent.Is_answered Dead) (Some e) = λ g. g
stays-going pair what (Some e) = grind arith

-- A receiver that has called back had, or makes its GVB.

abbrev CallsBack : Option Endpoint → Bool → List Command → Type 0
CallsBack None g made = Unit {0}
CallsBack (Some e) g made = e.recall ≡ true → g ≡ false → 0 < many is_gvb made

calls-back : (pair : Pair) (what : EndpointEvent) (before : Option Endpoint) → CallsBack (happens pair what before).after (or_new before).recall (happens pair what before).made
calls-back pair (EndpointEvent.Is_answered Rfnm) (Some e) = grind arith
calls-back pair (EndpointEvent.Is_answered Incomplete) (Some e) = λ g h. absurd (both_ways e.recall h g)
calls-back pair (EndpointEvent.Is_answered Dead) (Some e) = λ g h. absurd (both_ways e.recall h g)
calls-back pair (EndpointEvent.Is_answered Rfnm) None = tt
calls-back pair (EndpointEvent.Is_answered Incomplete) None = tt
calls-back pair (EndpointEvent.Is_answered Dead) None = tt
calls-back pair what before = grind arith

-- What comes, and is not against the protocol.

abbrev OnEnd : Option Endpoint → (Endpoint → Type 0) → Type 0
OnEnd None P = Unit {0}
OnEnd (Some e) P = P e

-- a GVB is answered, but by an end on its way out
gvb-answered : (pair : Pair) (on a b : ℕ) (before : Option Endpoint) → is_violation (happens pair (EndpointEvent.Gvb_comes on a b) before).outcome ≡ false → OnEnd (happens pair (EndpointEvent.Gvb_comes on a b) before).after (λ e. is_closing e ≡ false → 0 < many is_ret (happens pair (EndpointEvent.Gvb_comes on a b) before).made)
gvb-answered pair on a b None v = absurd (cc v)
gvb-answered pair on a b (Some e) v = grind arith

-- a RET answers it
ret-answers : (pair : Pair) (on a b : ℕ) (before : Option Endpoint) → is_violation (happens pair (EndpointEvent.Ret_comes on a b) before).outcome ≡ false → OnEnd (happens pair (EndpointEvent.Ret_comes on a b) before).after (λ e. is_closing e ≡ false → e.recall ≡ false)
ret-answers pair on a b None v = absurd (cc v)
ret-answers pair on a b (Some e) v = grind arith

-- a CLS sends an end on its way out
cls-goes : (pair : Pair) (before : Option Endpoint) → is_violation (happens pair EndpointEvent.Cls_comes before).outcome ≡ false → OnEnd (happens pair EndpointEvent.Cls_comes before).after (λ e. is_closing e ≡ true)
cls-goes pair None v = grind arith
cls-goes pair (Some e) v = grind arith

-- At an end that is there afterwards.

pub sender-keeps : (pair : Pair) (what : EndpointEvent) (before : Option Endpoint) (e r : Endpoint) (p q q' : List Command) → (happens pair what before).after ≡ Some e
    → (is_closing e ≡ false → many is_gvb q ≤ many is_gvb q' + many is_ret (happens pair what before).made)
    → Recalled (or_new before) r p q → Recalled e r (p ++ (happens pair what before).made) q'
sender-keeps pair what before e r p q q' a f k c g h n =
    let made : List Command = (happens pair what before).made in
    let s : is_closing e ≡ false → is_closing (or_new before) ≡ false = subst (λ (o : Option Endpoint). StaysGoing o (is_closing (or_new before))) a (stays-going pair what before) in
    let x = many-more is_cls p made in
    let y = many-more is_ret p made in
    let none : many is_cls p ≡ 0 = omega (arith, n, x) in
    let i = k c g (s h) none in
    let j = f h in
    omega (arith, i, j, y)

pub receiver-keeps : (pair : Pair) (what : EndpointEvent) (before : Option Endpoint) (s e : Endpoint) (p p' q : List Command) → (happens pair what before).after ≡ Some e
    → (is_closing e ≡ false → e.recall ≡ true → (many is_ret p ≤ many is_ret p') × (many is_cls p ≡ many is_cls p'))
    → Recalled s (or_new before) p q → Recalled s e p' (q ++ (happens pair what before).made)
receiver-keeps pair what before s e p p' q a f k c g h n = go (or_new before).recall refl
  where
    made : List Command
    made = (happens pair what before).made

    more : many is_gvb (q ++ made) ≡ many is_gvb q + many is_gvb made
    more = many-more is_gvb q made

    stays : is_closing e ≡ false → is_closing (or_new before) ≡ false
    stays = subst (λ (o : Option Endpoint). StaysGoing o (is_closing (or_new before))) a (stays-going pair what before)

    back : e.recall ≡ true → (or_new before).recall ≡ false → 0 < many is_gvb made
    back = subst (λ (o : Option Endpoint). CallsBack o (or_new before).recall made) a (calls-back pair what before)

    go : (b : Bool) → (or_new before).recall ≡ b → 0 < many is_gvb (q ++ made) + many is_ret p'
    go true t =
        let j = f g c in
        let l = j.0 in
        let i = k t (stays g) h (j.1 ∙ n) in
        omega (arith, i, l, more)
    go false t = let i = back c t in omega (arith, i, more)

pub gvb-fits : (pair : Pair) (on a b : ℕ) (before : Option Endpoint) (e : Endpoint) (q : List Command) → is_violation (happens pair (EndpointEvent.Gvb_comes on a b) before).outcome ≡ false → (happens pair (EndpointEvent.Gvb_comes on a b) before).after ≡ Some e
    → is_closing e ≡ false → many is_gvb (Gvb on a b ∷ q) ≤ many is_gvb q + many is_ret (happens pair (EndpointEvent.Gvb_comes on a b) before).made
gvb-fits pair on a b before e q v t h =
    let i = subst (λ (o : Option Endpoint). OnEnd o (λ e. is_closing e ≡ false → 0 < many is_ret (happens pair (EndpointEvent.Gvb_comes on a b) before).made)) t (gvb-answered pair on a b before v) h in
    omega (arith, i)

pub ret-fits : (pair : Pair) (on a b : ℕ) (before : Option Endpoint) (e : Endpoint) → is_violation (happens pair (EndpointEvent.Ret_comes on a b) before).outcome ≡ false → (happens pair (EndpointEvent.Ret_comes on a b) before).after ≡ Some e → is_closing e ≡ false → e.recall ≡ true → ⊥
ret-fits pair on a b before e v t h c =
    both_ways e.recall (subst (λ (o : Option Endpoint). OnEnd o (λ e. is_closing e ≡ false → e.recall ≡ false)) t (ret-answers pair on a b before v) h) c

pub cls-fits : (pair : Pair) (before : Option Endpoint) (e : Endpoint) → is_violation (happens pair EndpointEvent.Cls_comes before).outcome ≡ false → (happens pair EndpointEvent.Cls_comes before).after ≡ Some e → is_closing e ≡ false → ⊥
cls-fits pair before e v t h = both_ways (is_closing e) h (subst (λ (o : Option Endpoint). OnEnd o (λ e. is_closing e ≡ true)) t (cls-goes pair before v))
