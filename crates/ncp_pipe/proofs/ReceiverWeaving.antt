-- In a run the steps of the receiver's side may be exchanged for another list of such steps with the same calls that
-- leads to the same stage. The exchanged steps come when the receiver of the run stops; until then it does as before.
use Rattle.std.proofs.Common.{◌≡◌, ℕ, ◌-◌, Bool, true, false, if◌then◌else◌, List, [], ◌∷◌, ◌++◌, take, drop, refl, sym, ap, ◌∙◌, subst, arith}
use Rattle.std.proofs.lemmas.List.{append_cancel_left, append-nil}
use Rattle.ncp_pipe.specs.Pipe.{Stage, Closed, Asked, Open, Closing, Pipe, is_on, is_open, Step, IsStep, IsRun, without_receiver}
use Rattle.ncp_pipe.specs.Pipe as pipes
use Rattle.ncp_pipe.specs.Sides.{those, is_receiver_step, is_at_sender, is_receiver_stop, IsReceiverAccount}
use Rattle.ncp_pipe.proofs.Weaving.{joined, behind}

abbrev Calls : List Step → List Step
Calls steps = those is_receiver_step steps

abbrev Stops : List Step → List Step
Stops steps = those is_receiver_stop steps

abbrev Others : List Step → List Step
Others steps = those is_at_sender steps

-- calls of a receiver that is off
abbrev AllOff : List Step → Type 0
AllOff [] = Unit {0}
AllOff (pipes.Takes text ∷ steps) = AllOff steps
AllOff (pipes.Closes_receiver ∷ steps) = AllOff steps
AllOff (s ∷ steps) = ⊥

abbrev NoCloses : List Step → Type 0
NoCloses [] = Unit {0}
NoCloses (pipes.Takes text ∷ steps) = NoCloses steps
NoCloses (s ∷ steps) = ⊥

-- what is held is enough for them
abbrev Fits : List Bool → List Step → Type 0
Fits held [] = Unit {0}
Fits held (pipes.Takes text ∷ steps) = (rest : List Bool) × (held ≡ text ++ rest) × Fits rest steps
Fits held (pipes.Closes_receiver ∷ steps) = Fits [] steps
Fits held (s ∷ steps) = ⊥

-- takes alone leave this of it
abbrev Keeps : List Bool → List Step → List Bool → Type 0
Keeps held [] left = held ≡ left
Keeps held (pipes.Takes text ∷ steps) left = (rest : List Bool) × (held ≡ text ++ rest) × Keeps rest steps left
Keeps held (s ∷ steps) left = ⊥

abbrev AsksFirst : List Step → Type 0
AsksFirst [] = Unit {0}
AsksFirst (pipes.Asks_to_receive ∷ steps) = Unit {0}
AsksFirst (s ∷ steps) = ⊥

-- the receiver is off, and holds this
abbrev gone : Stage → List Bool → Pipe → Pipe
gone t held p = record p { receiver = t; in_flight = []; held = held; allowed = 0 }

all-off : (held : List Bool) (steps : List Step) → Fits held steps → AllOff steps
all-off held [] f = tt
all-off held (pipes.Takes text ∷ steps) f = all-off f.0 steps f.2
all-off held (pipes.Closes_receiver ∷ steps) f = all-off [] steps f
all-off held (x ∷ steps) f = absurd f

no-closes : (held left : List Bool) (steps : List Step) → Keeps held steps left → NoCloses steps
no-closes held left [] k = tt
no-closes held left (pipes.Takes text ∷ steps) k = no-closes k.0 left steps k.2
no-closes held left (x ∷ steps) k = absurd k

none-of : (text rest : List Bool) → [] ≡ text ++ rest → (text ≡ []) × (rest ≡ [])
none-of [] rest e = (refl, sym e)
none-of (x ∷ text) rest e = absurd (cc e)

-- what fits nothing fits all
fits-more : (held : List Bool) (steps : List Step) → Fits [] steps → Fits held steps
fits-more held [] f = tt
fits-more held (pipes.Takes text ∷ steps) (rest, e, f) =
    let n = none-of text rest e in
    (held, ap (λ (l : List Bool). l ++ held) (sym n.0), fits-more held steps (subst (λ (l : List Bool). Fits l steps) n.1 f))
fits-more held (pipes.Closes_receiver ∷ steps) f = f
fits-more held (x ∷ steps) f = absurd f

-- stages

is-off : {A : Type 0} → (s z : Stage) → is_on s ≡ true → s ≡ z → is_on z ≡ false → A
is-off {A} s z h e f = absurd (cc (sym h ∙ ap is_on e ∙ f))

is-on : {A : Type 0} → (s z : Stage) → is_on s ≡ false → s ≡ z → is_on z ≡ true → A
is-on {A} s z h e f = absurd (cc (sym h ∙ ap is_on e ∙ f))

not-open : (s : Stage) → is_on s ≡ false → is_open s ≡ false
not-open Closed e = refl
not-open Closing e = refl
not-open Asked e = absurd (cc e)
not-open Open e = absurd (cc e)

shut-off : (s : Stage) → is_on s ≡ false → (s ≡ Closed → ⊥) → s ≡ Closing
shut-off Closed e n = absurd (n refl)
shut-off Closing e n = refl
shut-off Asked e n = absurd (cc e)
shut-off Open e n = absurd (cc e)

unlike : {A : Type 0} → (s : Stage) → s ≡ Closed → s ≡ Closing → A
unlike {A} s e f = absurd (cc (sym e ∙ f))

-- a step at the sender's side leaves the receiver
keeps : (x : Step) (p q : Pipe) → is_at_sender x ≡ true → IsStep x p q → (q.receiver ≡ p.receiver) × (q.held ≡ p.held) × (q.allowed ≡ p.allowed)
keeps pipes.Asks_to_send p q n (a, o, e) = (ap (λ (z : Pipe). z.receiver) e, ap (λ (z : Pipe). z.held) e, ap (λ (z : Pipe). z.allowed) e)
keeps pipes.Opens_sender p q n (o, e) = (ap (λ (z : Pipe). z.receiver) e, ap (λ (z : Pipe). z.held) e, ap (λ (z : Pipe). z.allowed) e)
keeps (pipes.Gives text) p q n (o, e) = (ap (λ (z : Pipe). z.receiver) e, ap (λ (z : Pipe). z.held) e, ap (λ (z : Pipe). z.allowed) e)
keeps (pipes.Sends bits) p q n (o, f, l, m, e) = (ap (λ (z : Pipe). z.receiver) e, ap (λ (z : Pipe). z.held) e, ap (λ (z : Pipe). z.allowed) e)
keeps pipes.Closes_sender p q n e = (ap (λ (z : Pipe). z.receiver) e, ap (λ (z : Pipe). z.held) e, ap (λ (z : Pipe). z.allowed) e)
keeps pipes.Leaves_sender p q n (o, e) = (ap (λ (z : Pipe). z.receiver) e, ap (λ (z : Pipe). z.held) e, ap (λ (z : Pipe). z.allowed) e)
keeps pipes.Ends_sender p q n (o, e) = (ap (λ (z : Pipe). z.receiver) e, ap (λ (z : Pipe). z.held) e, ap (λ (z : Pipe). z.allowed) e)
keeps pipes.Cuts_sender p q n e = (ap (λ (z : Pipe). z.receiver) e, ap (λ (z : Pipe). z.held) e, ap (λ (z : Pipe). z.allowed) e)
keeps x p q n i = absurd (cc n)

none-flies : (x : Step) (p q : Pipe) → is_at_sender x ≡ true → is_on p.receiver ≡ false → p.in_flight ≡ [] → IsStep x p q → q.in_flight ≡ []
none-flies pipes.Asks_to_send p q n off w (a, o, e) = ap (λ (z : Pipe). z.in_flight) e ∙ w
none-flies pipes.Opens_sender p q n off w (o, e) = ap (λ (z : Pipe). z.in_flight) e ∙ w
none-flies (pipes.Gives text) p q n off w (o, e) = ap (λ (z : Pipe). z.in_flight) e ∙ w
none-flies (pipes.Sends bits) p q n off w (o, f, l, m, e) = ap (λ (z : Pipe). z.in_flight) e ∙ ap (λ (b : Bool). if b then take bits p.queued else []) (not-open p.receiver off)
none-flies pipes.Closes_sender p q n off w e = ap (λ (z : Pipe). z.in_flight) e ∙ w
none-flies pipes.Leaves_sender p q n off w (o, e) = ap (λ (z : Pipe). z.in_flight) e ∙ w
none-flies pipes.Ends_sender p q n off w (o, e) = ap (λ (z : Pipe). z.in_flight) e ∙ w
none-flies pipes.Cuts_sender p q n off w e = ap (λ (z : Pipe). z.in_flight) e ∙ w
none-flies x p q n off w i = absurd (cc n)

-- and does the same beside another receiver that is off
lifts : (t : Stage) (g : List Bool) → is_on t ≡ false → (x : Step) (p q : Pipe) → is_at_sender x ≡ true → IsStep x p q → IsStep x (gone t g p) (gone t g q)
lifts t g off pipes.Asks_to_send p q n (a, o, e) = (a, not-open t off, ap (gone t g) e)
lifts t g off pipes.Opens_sender p q n (o, e) = (o, ap (gone t g) e)
lifts t g off (pipes.Gives text) p q n (o, e) = (o, ap (gone t g) e)
lifts t g off (pipes.Sends bits) p q n (o, f, l, m, e) =
    (o, refl, l, m, ap (gone t g) e ∙ ap (λ (b : Bool). record (gone t g p) { queued = drop bits p.queued; in_flight = if b then take bits p.queued else []; fresh = false }) (sym (not-open t off)))
lifts t g off pipes.Closes_sender p q n e = ap (gone t g) e
lifts t g off pipes.Leaves_sender p q n (o, e) = (o, ap (gone t g) e)
lifts t g off pipes.Ends_sender p q n (o, e) = (o, ap (gone t g) e)
lifts t g off pipes.Cuts_sender p q n e = ap (gone t g) e
lifts t g off x p q n i = absurd (cc n)

-- A receiver that is off takes what it holds, or closes, until it asks.

off-calls : (rest : List Step) (p q : Pipe) → IsRun p rest q → is_on p.receiver ≡ false → (ahead : List Step) × (more : List Step) × Fits p.held ahead × AsksFirst more × (Calls rest ≡ ahead ++ more)
off-calls [] p q r off = ([], [], tt, tt, refl)
off-calls (pipes.Asks_to_receive ∷ rest) p q r off = ([], pipes.Asks_to_receive ∷ Calls rest, tt, tt, refl)
off-calls (pipes.Takes text ∷ rest) p q (next, i, r) off =
    let k = off-calls rest next q r (ap (λ (z : Pipe). is_on z.receiver) i.2 ∙ off) in
    (pipes.Takes text ∷ k.0, k.1, (i.0, i.1, subst (λ (g : List Bool). Fits g k.0) (ap (λ (z : Pipe). z.held) i.2) k.2), k.3, ap (λ (l : List Step). pipes.Takes text ∷ l) k.4)
off-calls (pipes.Closes_receiver ∷ rest) p q (next, e, r) off =
    let k = off-calls rest next q r (ap (λ (z : Pipe). is_on z.receiver) e) in
    (pipes.Closes_receiver ∷ k.0, k.1, subst (λ (g : List Bool). Fits g k.0) (ap (λ (z : Pipe). z.held) e) k.2, k.3, ap (λ (l : List Step). pipes.Closes_receiver ∷ l) k.4)
off-calls (pipes.Ends_receiver ∷ rest) p q (next, i, r) off =
    let k = off-calls rest next q r (ap (λ (z : Pipe). is_on z.receiver) i.1) in
    (k.0, k.1, fits-more p.held k.0 (subst (λ (g : List Bool). Fits g k.0) (ap (λ (z : Pipe). z.held) i.1) k.2), k.3, k.4)
off-calls (pipes.Cuts_receiver ∷ rest) p q (next, e, r) off =
    let k = off-calls rest next q r (ap (λ (z : Pipe). is_on z.receiver) e) in
    (k.0, k.1, fits-more p.held k.0 (subst (λ (g : List Bool). Fits g k.0) (ap (λ (z : Pipe). z.held) e) k.2), k.3, k.4)
off-calls (pipes.Returns bits ∷ rest) p q (next, i, r) off =
    let k = off-calls rest next q r (ap (λ (z : Pipe). is_on z.receiver) i.1 ∙ off) in
    (k.0, k.1, subst (λ (g : List Bool). Fits g k.0) (ap (λ (z : Pipe). z.held) i.1) k.2, k.3, k.4)
off-calls (pipes.Allows bits ∷ rest) p q (next, i, r) off = is-on p.receiver Open off i.0 refl
off-calls (pipes.Calls_back ∷ rest) p q (next, i, r) off = is-on p.receiver Open off i.0 refl
off-calls (pipes.Opens_receiver ∷ rest) p q (next, i, r) off = is-on p.receiver Asked off i.0 refl
off-calls (pipes.Delivers ∷ rest) p q (next, i, r) off = is-on p.receiver Open off i.0 refl
off-calls (pipes.Leaves_receiver ∷ rest) p q (next, i, r) off = absurd (cc (sym off ∙ i.0))
off-calls (x ∷ rest) p q (next, i, r) off =
    let j = keeps x p next refl i in
    let k = off-calls rest next q r (ap is_on j.0 ∙ off) in
    (k.0, k.1, subst (λ (g : List Bool). Fits g k.0) j.1 k.2, k.3, k.4)

stays-off : (rest : List Step) (p q : Pipe) → IsRun p rest q → is_on p.receiver ≡ false → AllOff (Calls rest) → is_on q.receiver ≡ false
stays-off [] p q r off c = ap (λ (z : Pipe). is_on z.receiver) (sym r) ∙ off
stays-off (pipes.Asks_to_receive ∷ rest) p q r off c = absurd c
stays-off (pipes.Allows bits ∷ rest) p q r off c = absurd c
stays-off (pipes.Calls_back ∷ rest) p q r off c = absurd c
stays-off (pipes.Takes text ∷ rest) p q (next, i, r) off c = stays-off rest next q r (ap (λ (z : Pipe). is_on z.receiver) i.2 ∙ off) c
stays-off (pipes.Closes_receiver ∷ rest) p q (next, e, r) off c = stays-off rest next q r (ap (λ (z : Pipe). is_on z.receiver) e) c
stays-off (pipes.Ends_receiver ∷ rest) p q (next, i, r) off c = stays-off rest next q r (ap (λ (z : Pipe). is_on z.receiver) i.1) c
stays-off (pipes.Cuts_receiver ∷ rest) p q (next, e, r) off c = stays-off rest next q r (ap (λ (z : Pipe). is_on z.receiver) e) c
stays-off (pipes.Returns bits ∷ rest) p q (next, i, r) off c = stays-off rest next q r (ap (λ (z : Pipe). is_on z.receiver) i.1 ∙ off) c
stays-off (pipes.Opens_receiver ∷ rest) p q (next, i, r) off c = is-on p.receiver Asked off i.0 refl
stays-off (pipes.Delivers ∷ rest) p q (next, i, r) off c = is-on p.receiver Open off i.0 refl
stays-off (pipes.Leaves_receiver ∷ rest) p q (next, i, r) off c = absurd (cc (sym off ∙ i.0))
stays-off (x ∷ rest) p q (next, i, r) off c = stays-off rest next q r (ap is_on (keeps x p next refl i).0 ∙ off) c

-- What may come first in such calls.

abbrev Tail : List Step → List Step
Tail [] = []
Tail (x ∷ xs) = xs

abbrev TextOf : List Step → List Bool
TextOf (pipes.Takes text ∷ xs) = text
TextOf xs = []

no-allow : {A : Type 0} → (ahead more : List Step) → AllOff ahead → AsksFirst more → (bits : ℕ) (cs : List Step) → pipes.Allows bits ∷ cs ≡ ahead ++ more → A
no-allow {A} [] [] a m bits cs e = absurd (cc e)
no-allow {A} [] (pipes.Asks_to_receive ∷ more) a m bits cs e = absurd (cc e)
no-allow {A} [] (x ∷ more) a m bits cs e = absurd m
no-allow {A} (pipes.Closes_receiver ∷ ahead) more a m bits cs e = absurd (cc e)
no-allow {A} (pipes.Takes text ∷ ahead) more a m bits cs e = absurd (cc e)
no-allow {A} (x ∷ ahead) more a m bits cs e = absurd a

no-call-back : {A : Type 0} → (ahead more : List Step) → AllOff ahead → AsksFirst more → (cs : List Step) → pipes.Calls_back ∷ cs ≡ ahead ++ more → A
no-call-back {A} [] [] a m cs e = absurd (cc e)
no-call-back {A} [] (pipes.Asks_to_receive ∷ more) a m cs e = absurd (cc e)
no-call-back {A} [] (x ∷ more) a m cs e = absurd m
no-call-back {A} (pipes.Closes_receiver ∷ ahead) more a m cs e = absurd (cc e)
no-call-back {A} (pipes.Takes text ∷ ahead) more a m cs e = absurd (cc e)
no-call-back {A} (x ∷ ahead) more a m cs e = absurd a

one-close : (ahead more cs : List Step) → AllOff ahead → AsksFirst more → pipes.Closes_receiver ∷ cs ≡ ahead ++ more → (left : List Step) × AllOff left × (ahead ≡ pipes.Closes_receiver ∷ left) × (cs ≡ left ++ more)
one-close [] [] cs a m e = absurd (cc e)
one-close [] (pipes.Asks_to_receive ∷ more) cs a m e = absurd (cc e)
one-close [] (x ∷ more) cs a m e = absurd m
one-close (pipes.Closes_receiver ∷ ahead) more cs a m e = (ahead, a, refl, ap Tail e)
one-close (pipes.Takes text ∷ ahead) more cs a m e = absurd (cc e)
one-close (x ∷ ahead) more cs a m e = absurd a

one-take : (ahead more cs : List Step) (text : List Bool) → AllOff ahead → AsksFirst more → pipes.Takes text ∷ cs ≡ ahead ++ more → (left : List Step) × AllOff left × (ahead ≡ pipes.Takes text ∷ left) × (cs ≡ left ++ more)
one-take [] [] cs text a m e = absurd (cc e)
one-take [] (pipes.Asks_to_receive ∷ more) cs text a m e = absurd (cc e)
one-take [] (x ∷ more) cs text a m e = absurd m
one-take (pipes.Closes_receiver ∷ ahead) more cs text a m e = absurd (cc e)
one-take (pipes.Takes other ∷ ahead) more cs text a m e = (ahead, a, ap (λ (t : List Bool). pipes.Takes t ∷ ahead) (sym (ap TextOf e)), ap Tail e)
one-take (x ∷ ahead) more cs text a m e = absurd a

one-ask : (ahead more cs : List Step) → AllOff ahead → pipes.Asks_to_receive ∷ cs ≡ ahead ++ more → (ahead ≡ []) × (more ≡ pipes.Asks_to_receive ∷ cs)
one-ask [] more cs a e = (refl, sym e)
one-ask (pipes.Closes_receiver ∷ ahead) more cs a e = absurd (cc e)
one-ask (pipes.Takes text ∷ ahead) more cs a e = absurd (cc e)
one-ask (x ∷ ahead) more cs a e = absurd a

none-ahead : (ahead more : List Step) → [] ≡ ahead ++ more → (ahead ≡ []) × (more ≡ [])
none-ahead [] more e = (refl, sym e)
none-ahead (x ∷ ahead) more e = absurd (cc e)

-- The exchanged steps from the moment at which the receiver of the run stops, until it asks again. Before them this is
-- `held`, and whether something was dropped.

record Emitted (held : List Bool) (was : Bool) (from p : Pipe) (z : Stage) (last : Bool) (stopped ahead more : List Step) : Type 0 where
  out : List Step
  left : List Step
  at : Stage
  dropped : Bool
  kept : List Bool
  off : is_on at ≡ false
  empty : dropped ≡ true → kept ≡ []
  shut : at ≡ Closed → dropped ≡ true
  once : was ≡ true → dropped ≡ true
  keeping : dropped ≡ false → Keeps held ahead kept
  run : IsRun from out (gone at kept p)
  life : IsReceiverAccount at dropped left z last
  calls : Calls out ≡ ahead
  calls_left : Calls left ≡ more
  stops : stopped ≡ Stops out ++ Stops left
  others : Others out ≡ []
  first : AsksFirst left

-- one more step in front

abbrev Out : List Bool → Bool → Pipe → Pipe → Stage → Bool → List Step → List Step → List Step → Type 0
Out held was from p z last life ahead more = Emitted held was from p z last (Stops life) ahead more

renamed : (held : List Bool) (was : Bool) (from p : Pipe) (z : Stage) (last : Bool) (stopped ahead now more : List Step) → ahead ≡ now → Emitted held was from p z last stopped now more → Emitted held was from p z last stopped ahead more
renamed held was from p z last stopped ahead now more e k = subst (λ (l : List Step). Emitted held was from p z last stopped l more) (sym e) k

took-out : (text rest : List Bool) (held : List Bool) (was w : Bool) (from mid p : Pipe) (z : Stage) (last : Bool) (stopped ahead more : List Step) → held ≡ text ++ rest → w ≡ was → IsStep (pipes.Takes text) from mid
    → Emitted rest w mid p z last stopped ahead more → Emitted held was from p z last stopped (pipes.Takes text ∷ ahead) more
took-out text rest held was w from mid p z last stopped ahead more h same i e = record {
  out = pipes.Takes text ∷ e.out;
  left = e.left;
  at = e.at;
  dropped = e.dropped;
  kept = e.kept;
  off = e.off;
  empty = e.empty;
  shut = e.shut;
  once = λ x. e.once (same ∙ x);
  keeping = λ x. (rest, h, e.keeping x);
  run = (mid, i, e.run);
  life = e.life;
  calls = ap (λ (l : List Step). pipes.Takes text ∷ l) e.calls;
  calls_left = e.calls_left;
  stops = e.stops;
  others = e.others;
  first = e.first;
}

-- from a step on it is dropped
closed-now : (held : List Bool) (was w : Bool) (from mid p : Pipe) (z : Stage) (last : Bool) (stopped ahead more : List Step) → w ≡ true → IsStep pipes.Closes_receiver from mid
    → Emitted [] w mid p z last stopped ahead more → Emitted held was from p z last stopped (pipes.Closes_receiver ∷ ahead) more
closed-now held was w from mid p z last stopped ahead more now i e = record {
  out = pipes.Closes_receiver ∷ e.out;
  left = e.left;
  at = e.at;
  dropped = e.dropped;
  kept = e.kept;
  off = e.off;
  empty = e.empty;
  shut = e.shut;
  once = λ x. e.once now;
  keeping = λ x. absurd (cc (sym (e.once now) ∙ x));
  run = (mid, i, e.run);
  life = e.life;
  calls = ap (λ (l : List Step). pipes.Closes_receiver ∷ l) e.calls;
  calls_left = e.calls_left;
  stops = e.stops;
  others = e.others;
  first = e.first;
}

ended-now : (held : List Bool) (was w : Bool) (from mid p : Pipe) (z : Stage) (last : Bool) (stopped ahead more : List Step) → w ≡ true → IsStep pipes.Ends_receiver from mid
    → Emitted [] w mid p z last stopped ahead more → Emitted held was from p z last stopped ahead more
ended-now held was w from mid p z last stopped ahead more now i e = record {
  out = pipes.Ends_receiver ∷ e.out;
  left = e.left;
  at = e.at;
  dropped = e.dropped;
  kept = e.kept;
  off = e.off;
  empty = e.empty;
  shut = e.shut;
  once = λ x. e.once now;
  keeping = λ x. absurd (cc (sym (e.once now) ∙ x));
  run = (mid, i, e.run);
  life = e.life;
  calls = e.calls;
  calls_left = e.calls_left;
  stops = e.stops;
  others = e.others;
  first = e.first;
}

cut-now : (held : List Bool) (was w : Bool) (from mid p : Pipe) (z : Stage) (last : Bool) (stopped ahead more : List Step) → w ≡ true → IsStep pipes.Cuts_receiver from mid
    → Emitted [] w mid p z last stopped ahead more → Emitted held was from p z last (pipes.Cuts_receiver ∷ stopped) ahead more
cut-now held was w from mid p z last stopped ahead more now i e = record {
  out = pipes.Cuts_receiver ∷ e.out;
  left = e.left;
  at = e.at;
  dropped = e.dropped;
  kept = e.kept;
  off = e.off;
  empty = e.empty;
  shut = e.shut;
  once = λ x. e.once now;
  keeping = λ x. absurd (cc (sym (e.once now) ∙ x));
  run = (mid, i, e.run);
  life = e.life;
  calls = e.calls;
  calls_left = e.calls_left;
  stops = ap (λ (l : List Step). pipes.Cuts_receiver ∷ l) e.stops;
  others = e.others;
  first = e.first;
}

left-now : (held : List Bool) (was w : Bool) (from mid p : Pipe) (z : Stage) (last : Bool) (stopped ahead more : List Step) → w ≡ was → IsStep pipes.Leaves_receiver from mid
    → Emitted held w mid p z last stopped ahead more → Emitted held was from p z last (pipes.Leaves_receiver ∷ stopped) ahead more
left-now held was w from mid p z last stopped ahead more same i e = record {
  out = pipes.Leaves_receiver ∷ e.out;
  left = e.left;
  at = e.at;
  dropped = e.dropped;
  kept = e.kept;
  off = e.off;
  empty = e.empty;
  shut = e.shut;
  once = λ x. e.once (same ∙ x);
  keeping = e.keeping;
  run = (mid, i, e.run);
  life = e.life;
  calls = e.calls;
  calls_left = e.calls_left;
  stops = ap (λ (l : List Step). pipes.Leaves_receiver ∷ l) e.stops;
  others = e.others;
  first = e.first;
}

-- a text is there to be taken
taking : (text held : List Bool) (left : List Step) (d : Bool) → (d ≡ true → text ≡ []) → (d ≡ true → held ≡ []) → (d ≡ false → Fits held (pipes.Takes text ∷ left)) → (rest : List Bool) × (held ≡ text ++ rest) × (d ≡ true → rest ≡ []) × (d ≡ false → Fits rest left)
taking text held left true n w f = (held, ap (λ (l : List Bool). l ++ held) (sym (n refl)), w, λ x. absurd (cc x))
taking text held left false n w f = let k = f refl in (k.0, k.1, λ x. absurd (cc x), λ x. k.2)

emit-off : (life : List Step) (t : Stage) (d : Bool) (z : Stage) (last : Bool) (p : Pipe) (g : List Bool) (ahead more : List Step) → IsReceiverAccount t d life z last → is_on t ≡ false → (t ≡ Closed → d ≡ true) → (d ≡ true → g ≡ []) → (d ≡ false → Fits g ahead)
    → AllOff ahead → AsksFirst more → Calls life ≡ ahead ++ more → Out g d (gone t g p) p z last life ahead more
emit-off [] t d z last p g ahead more l off s w f a m c =
    let k = none-ahead ahead more c in
    record { out = []; left = []; at = t; dropped = d; kept = g; off = off; empty = w; shut = s; once = λ x. x; keeping = λ x. subst (λ (l : List Step). Keeps g l g) (sym k.0) refl; run = refl; life = l; calls = sym k.0; calls_left = sym k.1; stops = refl; others = refl; first = tt }
emit-off (pipes.Asks_to_receive ∷ life) t d z last p g ahead more l off s w f a m c =
    let k = one-ask ahead more (Calls life) a c in
    record { out = []; left = pipes.Asks_to_receive ∷ life; at = t; dropped = d; kept = g; off = off; empty = w; shut = s; once = λ x. x; keeping = λ x. subst (λ (l : List Step). Keeps g l g) (sym k.0) refl; run = refl; life = l; calls = sym k.0; calls_left = sym k.1; stops = refl; others = refl; first = tt }
emit-off (pipes.Takes text ∷ life) t d z last p g ahead more (next, lost, e, l) off s w f a m c =
    let k = one-take ahead more (Calls life) text a m c in
    let j = taking text g k.0 d e.0 w (λ x. subst (λ (l : List Step). Fits g l) k.2 (f x)) in
    renamed g d (gone t g p) p z last (Stops life) ahead (pipes.Takes text ∷ k.0) more k.2
    (took-out text j.0 g d lost (gone t g p) (gone next j.0 p) p z last (Stops life) k.0 more j.1 e.2 (j.0, j.1, ap (λ (s : Stage). gone s j.0 p) e.1)
    (emit-off life next lost z last p j.0 k.0 more l (ap is_on e.1 ∙ off) (λ x. e.2 ∙ s (sym e.1 ∙ x)) (λ x. j.2 (sym e.2 ∙ x)) (λ x. j.3 (sym e.2 ∙ x)) k.1 m k.3))
emit-off (pipes.Closes_receiver ∷ life) t d z last p g ahead more (next, lost, e, l) off s w f a m c =
    let k = one-close ahead more (Calls life) a m c in
    renamed g d (gone t g p) p z last (Stops life) ahead (pipes.Closes_receiver ∷ k.0) more k.2
    (closed-now g d lost (gone t g p) (gone next [] p) p z last (Stops life) k.0 more e.1 (ap (λ (s : Stage). gone s [] p) e.0)
    (emit-off life next lost z last p [] k.0 more l (ap is_on e.0) (λ x. e.1) (λ x. refl) (λ x. absurd (cc (sym e.1 ∙ x))) k.1 m k.3))
emit-off (pipes.Ends_receiver ∷ life) t d z last p g ahead more (next, lost, e, l) off s w f a m c =
    ended-now g d lost (gone t g p) (gone next [] p) p z last (Stops life) ahead more e.2 (e.0, ap (λ (s : Stage). gone s [] p) e.1)
    (emit-off life next lost z last p [] ahead more l (ap is_on e.1) (λ x. e.2) (λ x. refl) (λ x. absurd (cc (sym e.2 ∙ x))) a m c)
emit-off (pipes.Cuts_receiver ∷ life) t d z last p g ahead more (next, lost, e, l) off s w f a m c =
    cut-now g d lost (gone t g p) (gone next [] p) p z last (Stops life) ahead more e.1 (ap (λ (s : Stage). gone s [] p) e.0)
    (emit-off life next lost z last p [] ahead more l (ap is_on e.0) (λ x. e.1) (λ x. refl) (λ x. absurd (cc (sym e.1 ∙ x))) a m c)
emit-off (pipes.Leaves_receiver ∷ life) t d z last p g ahead more (next, lost, e, l) off s w f a m c = absurd (cc (sym off ∙ e.0))
emit-off (pipes.Opens_receiver ∷ life) t d z last p g ahead more (next, lost, e, l) off s w f a m c = is-on t Asked off e.0 refl
emit-off (pipes.Allows bits ∷ life) t d z last p g ahead more (next, lost, e, l) off s w f a m c = is-on t Open off e.0 refl
emit-off (pipes.Calls_back ∷ life) t d z last p g ahead more (next, lost, e, l) off s w f a m c = is-on t Open off e.0 refl
emit-off (x ∷ life) t d z last p g ahead more (next, lost, e, l) off s w f a m c = absurd e

emit-on : (life : List Step) (t : Stage) (d : Bool) (z : Stage) (last : Bool) (p : Pipe) (h : List Bool) (ahead more : List Step) → IsReceiverAccount t d life z last → is_on t ≡ true → d ≡ false → is_on p.receiver ≡ true → Fits h ahead
    → AllOff ahead → AsksFirst more → Calls life ≡ ahead ++ more → (is_on z ≡ true → more ≡ [] → ⊥) → Out h d (record p { held = h }) p z last life ahead more
emit-on [] t d z last p h ahead more l on df up f a m c never = absurd (never (ap is_on (sym l.0) ∙ on) (none-ahead ahead more c).1)
emit-on (pipes.Opens_receiver ∷ life) t d z last p h ahead more (next, lost, e, l) on df up f a m c never =
    subst (λ (b : Bool). Out h b (record p { held = h }) p z last life ahead more) e.2 (emit-on life next lost z last p h ahead more l (ap is_on e.1) (e.2 ∙ df) up f a m c never)
emit-on (pipes.Takes text ∷ life) t d z last p h ahead more (next, lost, e, l) on df up f a m c never =
    let k = one-take ahead more (Calls life) text a m c in
    let j = subst (λ (l : List Step). Fits h l) k.2 f in
    renamed h d (record p { held = h }) p z last (Stops life) ahead (pipes.Takes text ∷ k.0) more k.2
    (took-out text j.0 h d lost (record p { held = h }) (record p { held = j.0 }) p z last (Stops life) k.0 more j.1 e.2 (j.0, j.1, refl)
    (emit-on life next lost z last p j.0 k.0 more l (ap is_on e.1 ∙ on) (e.2 ∙ df) up j.2 k.1 m k.3 never))
emit-on (pipes.Allows bits ∷ life) t d z last p h ahead more (next, lost, e, l) on df up f a m c never = no-allow ahead more a m bits (Calls life) c
emit-on (pipes.Calls_back ∷ life) t d z last p h ahead more (next, lost, e, l) on df up f a m c never = no-call-back ahead more a m (Calls life) c
emit-on (pipes.Asks_to_receive ∷ life) t d z last p h ahead more (next, lost, e, l) on df up f a m c never = is-off t Closed on e.0 refl
emit-on (pipes.Ends_receiver ∷ life) t d z last p h ahead more (next, lost, e, l) on df up f a m c never = is-off t Closing on e.0 refl
emit-on (pipes.Closes_receiver ∷ life) t d z last p h ahead more (next, lost, e, l) on df up f a m c never =
    let k = one-close ahead more (Calls life) a m c in
    renamed h d (record p { held = h }) p z last (Stops life) ahead (pipes.Closes_receiver ∷ k.0) more k.2
    (closed-now h d lost (record p { held = h }) (gone next [] p) p z last (Stops life) k.0 more e.1 (ap (λ (s : Stage). gone s [] p) e.0)
    (emit-off life next lost z last p [] k.0 more l (ap is_on e.0) (λ x. e.1) (λ x. refl) (λ x. absurd (cc (sym e.1 ∙ x))) k.1 m k.3))
emit-on (pipes.Leaves_receiver ∷ life) t d z last p h ahead more (next, lost, e, l) on df up f a m c never =
    left-now h d lost (record p { held = h }) (gone next h p) p z last (Stops life) ahead more e.2 (up, ap (λ (s : Stage). gone s h p) e.1)
    (emit-off life next lost z last p h ahead more l (ap is_on e.1) (λ x. absurd (cc (sym e.1 ∙ x))) (λ x. absurd (cc (sym (e.2 ∙ df) ∙ x))) (λ x. f) a m c)
emit-on (pipes.Cuts_receiver ∷ life) t d z last p h ahead more (next, lost, e, l) on df up f a m c never =
    cut-now h d lost (record p { held = h }) (gone next [] p) p z last (Stops life) ahead more e.1 (ap (λ (s : Stage). gone s [] p) e.0)
    (emit-off life next lost z last p [] ahead more l (ap is_on e.0) (λ x. e.1) (λ x. refl) (λ x. absurd (cc (sym e.1 ∙ x))) a m c)
emit-on (x ∷ life) t d z last p h ahead more (next, lost, e, l) on df up f a m c never = absurd e

-- a call of a receiver that is on is taken out of the exchanged steps
abbrev is_inner : Step → Bool
is_inner (pipes.Takes text) = true
is_inner (pipes.Allows bits) = true
is_inner pipes.Calls_back = true
is_inner step = false

without-inner : (life : List Step) (t : Stage) (d : Bool) (z : Stage) (last : Bool) (x : Step) (cs : List Step) → is_inner x ≡ true → IsReceiverAccount t d life z last → Calls life ≡ x ∷ cs → (left : List Step) × IsReceiverAccount t d left z last × (Calls left ≡ cs) × (Stops left ≡ Stops life)
without-inner [] t d z last x cs n l c = absurd (cc c)
without-inner (pipes.Takes y ∷ life) t d z last x cs n (next, lost, e, l) c = (life, subst (λ (s : Stage). IsReceiverAccount s d life z last) e.1 (subst (λ (b : Bool). IsReceiverAccount next b life z last) e.2 l), ap Tail c, refl)
without-inner (pipes.Allows y ∷ life) t d z last x cs n (next, lost, e, l) c = (life, subst (λ (s : Stage). IsReceiverAccount s d life z last) e.1 (subst (λ (b : Bool). IsReceiverAccount next b life z last) e.2 l), ap Tail c, refl)
without-inner (pipes.Calls_back ∷ life) t d z last x cs n (next, lost, e, l) c = (life, subst (λ (s : Stage). IsReceiverAccount s d life z last) e.1 (subst (λ (b : Bool). IsReceiverAccount next b life z last) e.2 l), ap Tail c, refl)
without-inner (pipes.Asks_to_receive ∷ life) t d z last x cs n l c = absurd (cc (sym n ∙ ap (is_inner_head) (sym c)))
  where
    is_inner_head : List Step → Bool
    is_inner_head [] = false
    is_inner_head (y ∷ ys) = is_inner y
without-inner (pipes.Closes_receiver ∷ life) t d z last x cs n l c = absurd (cc (sym n ∙ ap (is_inner_head) (sym c)))
  where
    is_inner_head : List Step → Bool
    is_inner_head [] = false
    is_inner_head (y ∷ ys) = is_inner y
without-inner (pipes.Opens_receiver ∷ life) t d z last x cs n (next, lost, e, l) c =
    let k = without-inner life next lost z last x cs n l c in
    (pipes.Opens_receiver ∷ k.0, (next, lost, e, k.1), k.2, k.3)
without-inner (pipes.Leaves_receiver ∷ life) t d z last x cs n (next, lost, e, l) c =
    let k = without-inner life next lost z last x cs n l c in
    (pipes.Leaves_receiver ∷ k.0, (next, lost, e, k.1), k.2, ap (λ (xs : List Step). pipes.Leaves_receiver ∷ xs) k.3)
without-inner (pipes.Ends_receiver ∷ life) t d z last x cs n (next, lost, e, l) c =
    let k = without-inner life next lost z last x cs n l c in
    (pipes.Ends_receiver ∷ k.0, (next, lost, e, k.1), k.2, k.3)
without-inner (pipes.Cuts_receiver ∷ life) t d z last x cs n (next, lost, e, l) c =
    let k = without-inner life next lost z last x cs n l c in
    (pipes.Cuts_receiver ∷ k.0, (next, lost, e, k.1), k.2, ap (λ (xs : List Step). pipes.Cuts_receiver ∷ xs) k.3)
without-inner (y ∷ life) t d z last x cs n (next, lost, e, l) c = absurd e

never-on : (life : List Step) (t : Stage) (d : Bool) (z : Stage) (last : Bool) → IsReceiverAccount t d life z last → Calls life ≡ [] → is_on t ≡ false → is_on z ≡ true → ⊥
never-on [] t d z last l c off h = cc (sym off ∙ ap is_on l.0 ∙ h)
never-on (pipes.Opens_receiver ∷ life) t d z last (next, lost, e, l) c off h = is-on t Asked off e.0 refl
never-on (pipes.Ends_receiver ∷ life) t d z last (next, lost, e, l) c off h = never-on life next lost z last l c (ap is_on e.1) h
never-on (pipes.Cuts_receiver ∷ life) t d z last (next, lost, e, l) c off h = never-on life next lost z last l c (ap is_on e.0) h
never-on (pipes.Leaves_receiver ∷ life) t d z last (next, lost, e, l) c off h = never-on life next lost z last l c (ap is_on e.1) h
never-on (pipes.Takes text ∷ life) t d z last l c off h = cc c
never-on (pipes.Allows bits ∷ life) t d z last l c off h = cc c
never-on (pipes.Calls_back ∷ life) t d z last l c off h = cc c
never-on (pipes.Asks_to_receive ∷ life) t d z last l c off h = cc c
never-on (pipes.Closes_receiver ∷ life) t d z last l c off h = cc c
never-on (x ∷ life) t d z last (next, lost, e, l) c off h = e

none-left : (life : List Step) (t : Stage) (d : Bool) (z : Stage) (last : Bool) → IsReceiverAccount t d life z last → Calls life ≡ [] → is_on z ≡ true → Stops life ≡ []
none-left [] t d z last l c h = refl
none-left (pipes.Opens_receiver ∷ life) t d z last (next, lost, e, l) c h = none-left life next lost z last l c h
none-left (pipes.Ends_receiver ∷ life) t d z last (next, lost, e, l) c h = none-left life next lost z last l c h
none-left (pipes.Takes text ∷ life) t d z last l c h = absurd (cc c)
none-left (pipes.Allows bits ∷ life) t d z last l c h = absurd (cc c)
none-left (pipes.Calls_back ∷ life) t d z last l c h = absurd (cc c)
none-left (pipes.Asks_to_receive ∷ life) t d z last l c h = absurd (cc c)
none-left (pipes.Closes_receiver ∷ life) t d z last l c h = absurd (cc c)
none-left (pipes.Leaves_receiver ∷ life) t d z last (next, lost, e, l) c h = absurd (never-on life next lost z last l c (ap is_on e.1) h)
none-left (pipes.Cuts_receiver ∷ life) t d z last (next, lost, e, l) c h = absurd (never-on life next lost z last l c (ap is_on e.0) h)
none-left (x ∷ life) t d z last (next, lost, e, l) c h = absurd e

-- The run with the exchanged steps.

pub record Woven (from q : Pipe) (calls stopped others : List Step) : Type 0 where
  pub steps : List Step
  pub run : IsRun from steps q
  pub called : Calls steps ≡ calls
  pub stops : Stops steps ≡ stopped
  pub beside : Others steps ≡ others

abbrev With : Pipe → Pipe → List Step → List Step → Type 0
With from q life rest = Woven from q (Calls life) (Stops life) (Others rest)

-- how far it is, beside the run: as the run; or stopped, some calls ahead
data Beside (from p : Pipe) (t : Stage) (d : Bool) (life rest : List Step) : Type 0 where
  Both_on : from ≡ p → is_on p.receiver ≡ true → is_on t ≡ true → d ≡ false → Calls rest ≡ Calls life → Beside from p t d life rest
  Both_off : (g : List Bool) → from ≡ gone t g p → is_on p.receiver ≡ false → p.in_flight ≡ [] → p.allowed ≡ 0 → is_on t ≡ false → (d ≡ true → g ≡ []) → (t ≡ Closed → d ≡ true) → (ahead : List Step) → AllOff ahead → AsksFirst life
      → (d ≡ false → NoCloses ahead × (p.receiver ≡ Closing → Keeps p.held ahead g)) → Calls rest ≡ ahead ++ Calls life → Beside from p t d life rest

-- the same step is taken in both
same-step : (x : Step) (from next q : Pipe) (calls stopped others : List Step) → IsStep x from next → Woven next q calls stopped others → Woven from q (Calls (x ∷ []) ++ calls) (Stops (x ∷ []) ++ stopped) (Others (x ∷ []) ++ others)
same-step x from next q calls stopped others i w = record {
  steps = x ∷ w.steps;
  run = (next, i, w.run);
  called = behind (x ∷ []) w.steps (Calls (x ∷ [])) calls (Calls (x ∷ []) ++ calls) is_receiver_step refl w.called refl;
  stops = behind (x ∷ []) w.steps (Stops (x ∷ [])) stopped (Stops (x ∷ []) ++ stopped) is_receiver_stop refl w.stops refl;
  beside = behind (x ∷ []) w.steps (Others (x ∷ [])) others (Others (x ∷ []) ++ others) is_at_sender refl w.beside refl;
}

from-here : (from p q : Pipe) (calls stopped others : List Step) → from ≡ p → Woven p q calls stopped others → Woven from q calls stopped others
from-here from p q calls stopped others e w = subst (λ (x : Pipe). Woven x q calls stopped others) (sym e) w

named : (from q : Pipe) (c d s t others : List Step) → c ≡ d → s ≡ t → Woven from q c s others → Woven from q d t others
named from q c d s t others e f w = record { steps = w.steps; run = w.run; called = w.called ∙ e; stops = w.stops ∙ f; beside = w.beside }

-- the run stops: what is to be exchanged comes now
now-stopped : (held : List Bool) (was : Bool) (p q : Pipe) (last : Bool) (life rest ahead more : List Step) → (e : Out held was p p q.receiver last life ahead more) → Calls life ≡ ahead ++ more → With (gone e.at e.kept p) q e.left rest → With p q life rest
now-stopped held was p q last life rest ahead more e c w = record {
  steps = e.out ++ w.steps;
  run = joined p (gone e.at e.kept p) q e.out w.steps e.run w.run;
  called = behind e.out w.steps ahead more (Calls life) is_receiver_step e.calls (w.called ∙ e.calls_left) c;
  stops = behind e.out w.steps (Stops e.out) (Stops e.left) (Stops life) is_receiver_stop refl w.stops e.stops;
  beside = behind e.out w.steps [] (Others rest) (Others rest) is_at_sender e.others w.beside refl;
}

-- a run that has stopped and does not ask again ends stopped
own-never : (rest ahead more : List Step) (next q : Pipe) → IsRun next rest q → is_on next.receiver ≡ false → AllOff ahead → Calls rest ≡ ahead ++ more → is_on q.receiver ≡ true → more ≡ [] → ⊥
own-never rest ahead more next q r off a c h n =
    cc (sym (stays-off rest next q r off (subst AllOff (sym (c ∙ ap (λ (l : List Step). ahead ++ l) n ∙ append-nil ahead)) a)) ∙ h)

over : (life : List Step) (t : Stage) (d : Bool) (z : Stage) (last : Bool) → AsksFirst life → [] ≡ Calls life → IsReceiverAccount t d life z last → (life ≡ []) × (t ≡ z) × (d ≡ last)
over [] t d z last f c l = (refl, l.0, l.1)
over (pipes.Asks_to_receive ∷ life) t d z last f c l = absurd (cc c)
over (x ∷ life) t d z last f c l = absurd f

asked : (life cs : List Step) (t : Stage) (d : Bool) (z : Stage) (last : Bool) → AsksFirst life → Calls life ≡ pipes.Asks_to_receive ∷ cs → IsReceiverAccount t d life z last
    → (left : List Step) × (t ≡ Closed) × IsReceiverAccount Asked false left z last × (life ≡ pipes.Asks_to_receive ∷ left) × (Calls left ≡ cs)
asked [] cs t d z last f c l = absurd (cc c)
asked (pipes.Asks_to_receive ∷ life) cs t d z last f c (next, lost, e, l) = (life, e.0, subst (λ (s : Stage). IsReceiverAccount s false life z last) e.1 (subst (λ (b : Bool). IsReceiverAccount next b life z last) e.2 l), refl, ap Tail c)
asked (x ∷ life) cs t d z last f c l = absurd f

first-called : (life : List Step) → AsksFirst life → AsksFirst (Calls life)
first-called [] f = tt
first-called (pipes.Asks_to_receive ∷ life) f = tt
first-called (x ∷ life) f = absurd f

as-was : (p : Pipe) (t : Stage) (g : List Bool) → t ≡ p.receiver → g ≡ p.held → p.in_flight ≡ [] → p.allowed ≡ 0 → gone t g p ≡ p
as-was p t g e f w a =
    ap (λ (s : Stage). gone s g p) e ∙ ap (λ (l : List Bool). gone p.receiver l p) f ∙ ap (λ (l : List Bool). record p { in_flight = l; allowed = 0 }) (sym w) ∙ ap (λ (n : ℕ). record p { allowed = n }) (sym a)

-- at the end both hold the same
same-held : (t : Stage) (d : Bool) (p : Pipe) (g : List Bool) → (d ≡ true → g ≡ []) → (t ≡ Closed → d ≡ true) → is_on t ≡ false → t ≡ p.receiver → (d ≡ true → p.held ≡ []) → (d ≡ false → p.receiver ≡ Closing → p.held ≡ g) → g ≡ p.held
same-held t true p g w s off e h k = w refl ∙ sym (h refl)
same-held t false p g w s off e h k = sym (k refl (sym e ∙ shut-off t off (λ x. cc (s x))))

next-kept : (text a b left-of : List Bool) (left : List Step) → text ++ a ≡ text ++ b → Keeps b left left-of → Keeps a left left-of
next-kept text a b left-of left e k = subst (λ (l : List Bool). Keeps l left left-of) (sym (append_cancel_left text a b e)) k

module _ (q : Pipe) (last : Bool) (emptied : last ≡ true → q.held ≡ []) where
  weave : (rest : List Step) (from p : Pipe) (t : Stage) (d : Bool) (life : List Step) → IsRun p rest q → IsReceiverAccount t d life q.receiver last → Beside from p t d life rest → With from q life rest
  weave [] from p t d life r l (Both_on e up on df c) = record { steps = []; run = e ∙ r; called = c; stops = sym (none-left life t d q.receiver last l (sym c) (ap (λ (z : Pipe). is_on z.receiver) (sym r) ∙ up)); beside = refl }
  weave (pipes.Opens_receiver ∷ rest) from p t d life (next, i, r) l (Both_on e up on df c) =
      from-here from p q _ _ _ e (same-step pipes.Opens_receiver p next q _ _ _ i (weave rest next next t d life r l (Both_on refl (ap (λ (z : Pipe). is_on z.receiver) i.2) on df c)))
  weave (pipes.Delivers ∷ rest) from p t d life (next, i, r) l (Both_on e up on df c) =
      from-here from p q _ _ _ e (same-step pipes.Delivers p next q _ _ _ i (weave rest next next t d life r l (Both_on refl (ap (λ (z : Pipe). is_on z.receiver) i.2 ∙ up) on df c)))
  weave (pipes.Returns bits ∷ rest) from p t d life (next, i, r) l (Both_on e up on df c) =
      from-here from p q _ _ _ e (same-step (pipes.Returns bits) p next q _ _ _ i (weave rest next next t d life r l (Both_on refl (ap (λ (z : Pipe). is_on z.receiver) i.1 ∙ up) on df c)))
  weave (pipes.Takes text ∷ rest) from p t d life (next, i, r) l (Both_on e up on df c) =
      let k = without-inner life t d q.receiver last (pipes.Takes text) (Calls rest) refl l (sym c) in
      from-here from p q _ _ _ e
      (named p q (pipes.Takes text ∷ Calls k.0) (Calls life) (Stops k.0) (Stops life) (Others rest) (ap (λ (l : List Step). pipes.Takes text ∷ l) k.2 ∙ c) k.3
      (same-step (pipes.Takes text) p next q _ _ _ i (weave rest next next t d k.0 r k.1 (Both_on refl (ap (λ (z : Pipe). is_on z.receiver) i.2 ∙ up) on df (sym k.2)))))
  weave (pipes.Allows bits ∷ rest) from p t d life (next, i, r) l (Both_on e up on df c) =
      let k = without-inner life t d q.receiver last (pipes.Allows bits) (Calls rest) refl l (sym c) in
      from-here from p q _ _ _ e
      (named p q (pipes.Allows bits ∷ Calls k.0) (Calls life) (Stops k.0) (Stops life) (Others rest) (ap (λ (l : List Step). pipes.Allows bits ∷ l) k.2 ∙ c) k.3
      (same-step (pipes.Allows bits) p next q _ _ _ i (weave rest next next t d k.0 r k.1 (Both_on refl (ap (λ (z : Pipe). is_on z.receiver) i.1 ∙ up) on df (sym k.2)))))
  weave (pipes.Calls_back ∷ rest) from p t d life (next, i, r) l (Both_on e up on df c) =
      let k = without-inner life t d q.receiver last pipes.Calls_back (Calls rest) refl l (sym c) in
      from-here from p q _ _ _ e
      (named p q (pipes.Calls_back ∷ Calls k.0) (Calls life) (Stops k.0) (Stops life) (Others rest) (ap (λ (l : List Step). pipes.Calls_back ∷ l) k.2 ∙ c) k.3
      (same-step pipes.Calls_back p next q _ _ _ i (weave rest next next t d k.0 r k.1 (Both_on refl (ap (λ (z : Pipe). is_on z.receiver) i.1 ∙ up) on df (sym k.2)))))
  weave (pipes.Asks_to_receive ∷ rest) from p t d life (next, i, r) l (Both_on e up on df c) = is-off p.receiver Closed up i.0 refl
  weave (pipes.Ends_receiver ∷ rest) from p t d life (next, i, r) l (Both_on e up on df c) = is-off p.receiver Closing up i.0 refl
  weave (pipes.Closes_receiver ∷ rest) from p t d life (next, i, r) l (Both_on e up on df c) =
      let off : is_on next.receiver ≡ false = ap (λ (z : Pipe). is_on z.receiver) i in
      let k = off-calls rest next q r off in
      let none : Fits [] k.0 = subst (λ (g : List Bool). Fits g k.0) (ap (λ (z : Pipe). z.held) i) k.2 in
      let a : AllOff k.0 = all-off [] k.0 none in
      let x : Calls life ≡ (pipes.Closes_receiver ∷ k.0) ++ k.1 = sym c ∙ ap (λ (l : List Step). pipes.Closes_receiver ∷ l) k.4 in
      let o = emit-on life t d q.receiver last p p.held (pipes.Closes_receiver ∷ k.0) k.1 l on df up none a k.3 x (own-never rest k.0 k.1 next q r off a k.4) in
      from-here from p q _ _ _ e
      (now-stopped p.held d p q last life rest (pipes.Closes_receiver ∷ k.0) k.1 o x
      (weave rest (gone o.at o.kept p) next o.at o.dropped o.left r o.life (Both_off o.kept (sym (ap (gone o.at o.kept) i)) off (ap (λ (z : Pipe). z.in_flight) i) (ap (λ (z : Pipe). z.allowed) i) o.off o.empty o.shut k.0 a o.first (λ h. absurd (o.keeping h)) (k.4 ∙ ap (λ (l : List Step). k.0 ++ l) (sym o.calls_left)))))
  weave (pipes.Leaves_receiver ∷ rest) from p t d life (next, i, r) l (Both_on e up on df c) =
      let off : is_on next.receiver ≡ false = ap (λ (z : Pipe). is_on z.receiver) i.1 in
      let k = off-calls rest next q r off in
      let f : Fits p.held k.0 = subst (λ (g : List Bool). Fits g k.0) (ap (λ (z : Pipe). z.held) i.1) k.2 in
      let a : AllOff k.0 = all-off p.held k.0 f in
      let o = emit-on life t d q.receiver last p p.held k.0 k.1 l on df up f a k.3 (sym c ∙ k.4) (own-never rest k.0 k.1 next q r off a k.4) in
      from-here from p q _ _ _ e
      (now-stopped p.held d p q last life rest k.0 k.1 o (sym c ∙ k.4)
      (weave rest (gone o.at o.kept p) next o.at o.dropped o.left r o.life (Both_off o.kept (sym (ap (gone o.at o.kept) i.1)) off (ap (λ (z : Pipe). z.in_flight) i.1) (ap (λ (z : Pipe). z.allowed) i.1) o.off o.empty o.shut k.0 a o.first
      (λ h. (no-closes p.held o.kept k.0 (o.keeping h), λ x. subst (λ (g : List Bool). Keeps g k.0 o.kept) (sym (ap (λ (z : Pipe). z.held) i.1)) (o.keeping h))) (k.4 ∙ ap (λ (l : List Step). k.0 ++ l) (sym o.calls_left)))))
  weave (pipes.Cuts_receiver ∷ rest) from p t d life (next, i, r) l (Both_on e up on df c) =
      let off : is_on next.receiver ≡ false = ap (λ (z : Pipe). is_on z.receiver) i in
      let k = off-calls rest next q r off in
      let f : Fits p.held k.0 = fits-more p.held k.0 (subst (λ (g : List Bool). Fits g k.0) (ap (λ (z : Pipe). z.held) i) k.2) in
      let a : AllOff k.0 = all-off p.held k.0 f in
      let o = emit-on life t d q.receiver last p p.held k.0 k.1 l on df up f a k.3 (sym c ∙ k.4) (own-never rest k.0 k.1 next q r off a k.4) in
      from-here from p q _ _ _ e
      (now-stopped p.held d p q last life rest k.0 k.1 o (sym c ∙ k.4)
      (weave rest (gone o.at o.kept p) next o.at o.dropped o.left r o.life (Both_off o.kept (sym (ap (gone o.at o.kept) i)) off (ap (λ (z : Pipe). z.in_flight) i) (ap (λ (z : Pipe). z.allowed) i) o.off o.empty o.shut k.0 a o.first
      (λ h. (no-closes p.held o.kept k.0 (o.keeping h), λ x. unlike next.receiver (ap (λ (z : Pipe). z.receiver) i) x)) (k.4 ∙ ap (λ (l : List Step). k.0 ++ l) (sym o.calls_left)))))
  weave (x ∷ rest) from p t d life (next, i, r) l (Both_on e up on df c) =
      from-here from p q _ _ _ e (same-step x p next q _ _ _ i (weave rest next next t d life r l (Both_on refl (ap is_on (keeps x p next refl i).0 ∙ up) on df c)))
  weave [] from p t d life r l (Both_off g e off w al toff empty shut ahead a f k c) =
      let n = none-ahead ahead (Calls life) c in
      let o = over life t d q.receiver last f (sym n.1) l in
      let here : t ≡ p.receiver = o.1 ∙ ap (λ (z : Pipe). z.receiver) (sym r) in
      let held : g ≡ p.held = same-held t d p g empty shut toff here (λ x. ap (λ (z : Pipe). z.held) r ∙ emptied (sym o.2 ∙ x)) (λ x y. subst (λ (l : List Step). Keeps p.held l g) n.0 ((k x).1 y)) in
      record { steps = []; run = e ∙ as-was p t g here held w al ∙ r; called = sym n.1; stops = ap Stops (sym o.0); beside = refl }
  weave (pipes.Asks_to_receive ∷ rest) from p t d life (next, i, r) l (Both_off g e off w al toff empty shut ahead a f k c) =
      let n = one-ask ahead (Calls life) (Calls rest) a c in
      let j = asked life (Calls rest) t d q.receiver last f n.1 l in
      from-here from (gone t g p) q _ _ _ e
      (subst (λ (x : List Step). Woven (gone t g p) q (Calls x) (Stops x) (Others rest)) (sym j.3)
      (same-step pipes.Asks_to_receive (gone t g p) next q _ _ _ (j.1, i.1 ∙ ap (λ (l : List Bool). record p { receiver = Asked; held = []; allowed = 0; in_flight = l }) w) (weave rest next next Asked false j.0 r j.2 (Both_on refl (ap (λ (z : Pipe). is_on z.receiver) i.1) refl refl (sym j.4)))))
  weave (pipes.Takes text ∷ rest) from p t d life (next, i, r) l (Both_off g e off w al toff empty shut ahead a f k c) =
      let j = one-take ahead (Calls life) (Calls rest) text a (first-called life f) c in
      weave rest from next t d life r l
      (Both_off g (e ∙ sym (ap (gone t g) i.2)) (ap (λ (z : Pipe). is_on z.receiver) i.2 ∙ off) (ap (λ (z : Pipe). z.in_flight) i.2 ∙ w) (ap (λ (z : Pipe). z.allowed) i.2 ∙ al) toff empty shut j.0 j.1 f
      (λ x. let m = subst (λ (l : List Step). NoCloses l × (p.receiver ≡ Closing → Keeps p.held l g)) j.2 (k x) in
      (m.0, λ y. let b = m.1 (sym (ap (λ (z : Pipe). z.receiver) i.2) ∙ y) in subst (λ (h : List Bool). Keeps h j.0 g) (sym (ap (λ (z : Pipe). z.held) i.2)) (next-kept text i.0 b.0 g j.0 (sym i.1 ∙ b.1) b.2))) j.3)
  weave (pipes.Closes_receiver ∷ rest) from p t d life (next, i, r) l (Both_off g e off w al toff empty shut ahead a f k c) =
      let j = one-close ahead (Calls life) (Calls rest) a (first-called life f) c in
      weave rest from next t d life r l
      (Both_off g (e ∙ sym (ap (gone t g) i)) (ap (λ (z : Pipe). is_on z.receiver) i) (ap (λ (z : Pipe). z.in_flight) i) (ap (λ (z : Pipe). z.allowed) i) toff empty shut j.0 j.1 f
      (λ x. absurd (subst NoCloses j.2 (k x).0)) j.3)
  weave (pipes.Ends_receiver ∷ rest) from p t d life (next, i, r) l (Both_off g e off w al toff empty shut ahead a f k c) =
      weave rest from next t d life r l
      (Both_off g (e ∙ sym (ap (gone t g) i.1)) (ap (λ (z : Pipe). is_on z.receiver) i.1) (ap (λ (z : Pipe). z.in_flight) i.1) (ap (λ (z : Pipe). z.allowed) i.1) toff empty shut ahead a f
      (λ x. ((k x).0, λ y. unlike next.receiver (ap (λ (z : Pipe). z.receiver) i.1) y)) c)
  weave (pipes.Cuts_receiver ∷ rest) from p t d life (next, i, r) l (Both_off g e off w al toff empty shut ahead a f k c) =
      weave rest from next t d life r l
      (Both_off g (e ∙ sym (ap (gone t g) i)) (ap (λ (z : Pipe). is_on z.receiver) i) (ap (λ (z : Pipe). z.in_flight) i) (ap (λ (z : Pipe). z.allowed) i) toff empty shut ahead a f
      (λ x. ((k x).0, λ y. unlike next.receiver (ap (λ (z : Pipe). z.receiver) i) y)) c)
  weave (pipes.Returns bits ∷ rest) from p t d life (next, i, r) l (Both_off g e off w al toff empty shut ahead a f k c) =
      weave rest from next t d life r l
      (Both_off g (e ∙ sym (ap (gone t g) i.1)) (ap (λ (z : Pipe). is_on z.receiver) i.1 ∙ off) (ap (λ (z : Pipe). z.in_flight) i.1 ∙ w) (ap (λ (z : Pipe). z.allowed) i.1 ∙ nothing p.allowed al) toff empty shut ahead a f
      (λ x. ((k x).0, λ y. subst (λ (h : List Bool). Keeps h ahead g) (sym (ap (λ (z : Pipe). z.held) i.1)) ((k x).1 (sym (ap (λ (z : Pipe). z.receiver) i.1) ∙ y)))) c)
    where
      nothing : (n : ℕ) → n ≡ 0 → n - bits ≡ 0
      nothing n e = omega (arith, e)
  weave (pipes.Allows bits ∷ rest) from p t d life (next, i, r) l (Both_off g e off w al toff empty shut ahead a f k c) = is-on p.receiver Open off i.0 refl
  weave (pipes.Calls_back ∷ rest) from p t d life (next, i, r) l (Both_off g e off w al toff empty shut ahead a f k c) = is-on p.receiver Open off i.0 refl
  weave (pipes.Opens_receiver ∷ rest) from p t d life (next, i, r) l (Both_off g e off w al toff empty shut ahead a f k c) = is-on p.receiver Asked off i.0 refl
  weave (pipes.Delivers ∷ rest) from p t d life (next, i, r) l (Both_off g e off w al toff empty shut ahead a f k c) = is-on p.receiver Open off i.0 refl
  weave (pipes.Leaves_receiver ∷ rest) from p t d life (next, i, r) l (Both_off g e off w al toff empty shut ahead a f k c) = absurd (cc (sym off ∙ i.0))
  weave (x ∷ rest) from p t d life (next, i, r) l (Both_off g e off w al toff empty shut ahead a f k c) =
      let j = keeps x p next refl i in
      from-here from (gone t g p) q _ _ _ e
      (same-step x (gone t g p) (gone t g next) q _ _ _ (lifts t g toff x p next refl i)
      (weave rest (gone t g next) next t d life r l
      (Both_off g refl (ap is_on j.0 ∙ off) (none-flies x p next refl off w i) (j.2 ∙ al) toff empty shut ahead a f
      (λ b. ((k b).0, λ y. subst (λ (h : List Bool). Keeps h ahead g) (sym j.1) ((k b).1 (sym j.0 ∙ y)))) c)))

pub receiver-woven : (steps : List Step) (q : Pipe) (life : List Step) (last : Bool) → (last ≡ true → q.held ≡ []) → IsRun pipes.new_pipe steps q → IsReceiverAccount Closed true life q.receiver last → those is_receiver_step life ≡ those is_receiver_step steps
    → Woven pipes.new_pipe q (those is_receiver_step life) (those is_receiver_stop life) (those is_at_sender steps)
receiver-woven steps q life last emptied r l c =
    let n : Pipe = pipes.new_pipe in
    let k = off-calls steps n q r refl in
    let a : AllOff k.0 = all-off [] k.0 k.2 in
    let o = emit-off life Closed true q.receiver last n [] k.0 k.1 l refl (λ x. refl) (λ x. refl) (λ x. absurd (cc x)) a k.3 (c ∙ k.4) in
    now-stopped [] true n q last life steps k.0 k.1 o (c ∙ k.4)
    (weave q last emptied steps (gone o.at o.kept n) n o.at o.dropped o.left r o.life (Both_off o.kept refl refl refl refl o.off o.empty o.shut k.0 a o.first (λ x. absurd (cc (sym (o.once refl) ∙ x))) (k.4 ∙ ap (λ (l : List Step). k.0 ++ l) (sym o.calls_left))))
