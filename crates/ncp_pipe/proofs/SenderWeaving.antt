-- In a run the steps of the sender's side may be exchanged for another list of such steps with the same calls that leads
-- to the same stage. The exchanged steps come when the sender of the run stops; until then it does as before.
use Rattle.std.proofs.Common.{◌≡◌, Bool, true, false, List, [], ◌∷◌, ◌++◌, refl, sym, ap, ◌∙◌, subst}
use Rattle.ncp_pipe.specs.Pipe.{Stage, Closed, Asked, Open, Closing, Pipe, is_on, is_open, Step, IsStep, IsRun, without_sender}
use Rattle.ncp_pipe.specs.Pipe as pipes
use Rattle.ncp_pipe.specs.Sides.{those, is_sender_step, is_at_sender, is_at_receiver, is_sender_stop, IsSenderAccount}
use Rattle.ncp_pipe.proofs.Weaving.{joined, behind}

abbrev Calls : List Step → List Step
Calls steps = those is_sender_step steps

abbrev Stops : List Step → List Step
Stops steps = those is_sender_stop steps

abbrev Others : List Step → List Step
Others steps = those is_at_receiver steps

abbrev AllCloses : List Step → Type 0
AllCloses [] = Unit {0}
AllCloses (pipes.Closes_sender ∷ steps) = AllCloses steps
AllCloses (s ∷ steps) = ⊥

abbrev AsksFirst : List Step → Type 0
AsksFirst [] = Unit {0}
AsksFirst (pipes.Asks_to_send ∷ steps) = Unit {0}
AsksFirst (s ∷ steps) = ⊥

-- stages

is-off : {A : Type 0} → (s z : Stage) → is_on s ≡ true → s ≡ z → is_on z ≡ false → A
is-off {A} s z h e f = absurd (cc (sym h ∙ ap is_on e ∙ f))

is-on : {A : Type 0} → (s z : Stage) → is_on s ≡ false → s ≡ z → is_on z ≡ true → A
is-on {A} s z h e f = absurd (cc (sym h ∙ ap is_on e ∙ f))

-- a step at the receiver's side leaves the sender
keeps : (x : Step) (p q : Pipe) → is_at_sender x ≡ false → IsStep x p q → (q.sender ≡ p.sender) × (q.queued ≡ p.queued)
keeps pipes.Asks_to_receive p q n (o, e) = (ap (λ (z : Pipe). z.sender) e, ap (λ (z : Pipe). z.queued) e)
keeps pipes.Opens_receiver p q n (o, f, e) = (ap (λ (z : Pipe). z.sender) e, ap (λ (z : Pipe). z.queued) e)
keeps (pipes.Takes text) p q n (rest, h, e) = (ap (λ (z : Pipe). z.sender) e, ap (λ (z : Pipe). z.queued) e)
keeps (pipes.Allows bits) p q n (o, e) = (ap (λ (z : Pipe). z.sender) e, ap (λ (z : Pipe). z.queued) e)
keeps pipes.Calls_back p q n (o, e) = (ap (λ (z : Pipe). z.sender) e, ap (λ (z : Pipe). z.queued) e)
keeps (pipes.Returns bits) p q n (l, e) = (ap (λ (z : Pipe). z.sender) e, ap (λ (z : Pipe). z.queued) e)
keeps pipes.Closes_receiver p q n e = (ap (λ (z : Pipe). z.sender) e, ap (λ (z : Pipe). z.queued) e)
keeps pipes.Leaves_receiver p q n (o, e) = (ap (λ (z : Pipe). z.sender) e, ap (λ (z : Pipe). z.queued) e)
keeps pipes.Ends_receiver p q n (o, e) = (ap (λ (z : Pipe). z.sender) e, ap (λ (z : Pipe). z.queued) e)
keeps pipes.Cuts_receiver p q n e = (ap (λ (z : Pipe). z.sender) e, ap (λ (z : Pipe). z.queued) e)
keeps pipes.Delivers p q n (o, l, e) = (ap (λ (z : Pipe). z.sender) e, ap (λ (z : Pipe). z.queued) e)
keeps x p q n i = absurd (cc n)

-- and does the same beside another stage of a sender that is off
lifts : (t : Stage) → is_on t ≡ false → (x : Step) (p q : Pipe) → is_at_sender x ≡ false → IsStep x p q → IsStep x (without_sender t p) (without_sender t q)
lifts t off pipes.Asks_to_receive p q n (o, e) = (o, ap (without_sender t) e)
lifts t off pipes.Opens_receiver p q n (o, f, e) = (o, λ h. absurd (cc (sym off ∙ h)), ap (without_sender t) e)
lifts t off (pipes.Takes text) p q n (rest, h, e) = (rest, h, ap (without_sender t) e)
lifts t off (pipes.Allows bits) p q n (o, e) = (o, ap (without_sender t) e)
lifts t off pipes.Calls_back p q n (o, e) = (o, ap (without_sender t) e)
lifts t off (pipes.Returns bits) p q n (l, e) = (l, ap (without_sender t) e)
lifts t off pipes.Closes_receiver p q n e = ap (without_sender t) e
lifts t off pipes.Leaves_receiver p q n (o, e) = (o, ap (without_sender t) e)
lifts t off pipes.Ends_receiver p q n (o, e) = (o, ap (without_sender t) e)
lifts t off pipes.Cuts_receiver p q n e = ap (without_sender t) e
lifts t off pipes.Delivers p q n (o, l, e) = (o, l, ap (without_sender t) e)
lifts t off x p q n i = absurd (cc n)

-- A sender that is off calls nothing but closes until it asks.

off-calls : (rest : List Step) (p q : Pipe) → IsRun p rest q → is_on p.sender ≡ false → (ahead : List Step) × (more : List Step) × AllCloses ahead × AsksFirst more × (Calls rest ≡ ahead ++ more)
off-calls [] p q r off = ([], [], tt, tt, refl)
off-calls (pipes.Asks_to_send ∷ rest) p q r off = ([], pipes.Asks_to_send ∷ Calls rest, tt, tt, refl)
off-calls (pipes.Closes_sender ∷ rest) p q (next, e, r) off =
    let k = off-calls rest next q r (ap (λ (z : Pipe). is_on z.sender) e) in
    (pipes.Closes_sender ∷ k.0, k.1, k.2, k.3, ap (λ (l : List Step). pipes.Closes_sender ∷ l) k.4)
off-calls (pipes.Gives text ∷ rest) p q (next, i, r) off = is-on p.sender Open off i.0 refl
off-calls (pipes.Opens_sender ∷ rest) p q (next, i, r) off = is-on p.sender Asked off i.0 refl
off-calls (pipes.Sends bits ∷ rest) p q (next, i, r) off = is-on p.sender Open off i.0 refl
off-calls (pipes.Leaves_sender ∷ rest) p q (next, i, r) off = absurd (cc (sym off ∙ i.0))
off-calls (pipes.Ends_sender ∷ rest) p q (next, i, r) off = off-calls rest next q r (ap (λ (z : Pipe). is_on z.sender) i.1)
off-calls (pipes.Cuts_sender ∷ rest) p q (next, e, r) off = off-calls rest next q r (ap (λ (z : Pipe). is_on z.sender) e)
off-calls (x ∷ rest) p q (next, i, r) off = off-calls rest next q r (ap is_on (keeps x p next refl i).0 ∙ off)

stays-off : (rest : List Step) (p q : Pipe) → IsRun p rest q → is_on p.sender ≡ false → Calls rest ≡ [] → is_on q.sender ≡ false
stays-off [] p q r off c = ap (λ (z : Pipe). is_on z.sender) (sym r) ∙ off
stays-off (pipes.Asks_to_send ∷ rest) p q r off c = absurd (cc c)
stays-off (pipes.Closes_sender ∷ rest) p q r off c = absurd (cc c)
stays-off (pipes.Gives text ∷ rest) p q r off c = absurd (cc c)
stays-off (pipes.Opens_sender ∷ rest) p q (next, i, r) off c = is-on p.sender Asked off i.0 refl
stays-off (pipes.Sends bits ∷ rest) p q (next, i, r) off c = is-on p.sender Open off i.0 refl
stays-off (pipes.Leaves_sender ∷ rest) p q (next, i, r) off c = absurd (cc (sym off ∙ i.0))
stays-off (pipes.Ends_sender ∷ rest) p q (next, i, r) off c = stays-off rest next q r (ap (λ (z : Pipe). is_on z.sender) i.1) c
stays-off (pipes.Cuts_sender ∷ rest) p q (next, e, r) off c = stays-off rest next q r (ap (λ (z : Pipe). is_on z.sender) e) c
stays-off (x ∷ rest) p q (next, i, r) off c = stays-off rest next q r (ap is_on (keeps x p next refl i).0 ∙ off) c

-- What may come first in such calls.

no-give : {A : Type 0} → (ahead more : List Step) → AllCloses ahead → AsksFirst more → (text : List Bool) (cs : List Step) → pipes.Gives text ∷ cs ≡ ahead ++ more → A
no-give {A} [] [] a m text cs e = absurd (cc e)
no-give {A} [] (pipes.Asks_to_send ∷ more) a m text cs e = absurd (cc e)
no-give {A} [] (x ∷ more) a m text cs e = absurd m
no-give {A} (pipes.Closes_sender ∷ ahead) more a m text cs e = absurd (cc e)
no-give {A} (x ∷ ahead) more a m text cs e = absurd a

abbrev Tail : List Step → List Step
Tail [] = []
Tail (x ∷ xs) = xs

-- a close is ahead
one-close : (ahead more cs : List Step) → AllCloses ahead → AsksFirst more → pipes.Closes_sender ∷ cs ≡ ahead ++ more → (left : List Step) × AllCloses left × (ahead ≡ pipes.Closes_sender ∷ left) × (cs ≡ left ++ more)
one-close [] [] cs a m e = absurd (cc e)
one-close [] (pipes.Asks_to_send ∷ more) cs a m e = absurd (cc e)
one-close [] (x ∷ more) cs a m e = absurd m
one-close (pipes.Closes_sender ∷ ahead) more cs a m e = (ahead, a, refl, ap Tail e)
one-close (x ∷ ahead) more cs a m e = absurd a

-- an ask is not ahead
one-ask : (ahead more cs : List Step) → AllCloses ahead → pipes.Asks_to_send ∷ cs ≡ ahead ++ more → (ahead ≡ []) × (more ≡ pipes.Asks_to_send ∷ cs)
one-ask [] more cs a e = (refl, sym e)
one-ask (pipes.Closes_sender ∷ ahead) more cs a e = absurd (cc e)
one-ask (x ∷ ahead) more cs a e = absurd a

none-ahead : (ahead more : List Step) → [] ≡ ahead ++ more → (ahead ≡ []) × (more ≡ [])
none-ahead [] more e = (refl, sym e)
none-ahead (x ∷ ahead) more e = absurd (cc e)

-- The exchanged steps from the moment at which the sender of the run stops, until it asks again.

record Emitted (from p : Pipe) (z : Stage) (stopped ahead more : List Step) : Type 0 where
  out : List Step
  left : List Step
  at : Stage
  off : is_on at ≡ false
  run : IsRun from out (without_sender at p)
  life : IsSenderAccount at left z
  calls : Calls out ≡ ahead
  calls_left : Calls left ≡ more
  stops : stopped ≡ Stops out ++ Stops left
  others : Others out ≡ []
  first : AsksFirst left

-- one more step in front
further : (x : Step) (from mid p : Pipe) (z : Stage) (stopped ahead more : List Step) → is_at_sender x ≡ true → IsStep x from mid → Emitted mid p z stopped ahead more → Emitted from p z (Stops (x ∷ []) ++ stopped) (Calls (x ∷ []) ++ ahead) more
further pipes.Closes_sender from mid p z stopped ahead more s i e =
    record { out = pipes.Closes_sender ∷ e.out; left = e.left; at = e.at; off = e.off; run = (mid, i, e.run); life = e.life; calls = ap (λ (l : List Step). pipes.Closes_sender ∷ l) e.calls; calls_left = e.calls_left; stops = e.stops; others = e.others; first = e.first }
further pipes.Leaves_sender from mid p z stopped ahead more s i e =
    record { out = pipes.Leaves_sender ∷ e.out; left = e.left; at = e.at; off = e.off; run = (mid, i, e.run); life = e.life; calls = e.calls; calls_left = e.calls_left; stops = ap (λ (l : List Step). pipes.Leaves_sender ∷ l) e.stops; others = e.others; first = e.first }
further pipes.Cuts_sender from mid p z stopped ahead more s i e =
    record { out = pipes.Cuts_sender ∷ e.out; left = e.left; at = e.at; off = e.off; run = (mid, i, e.run); life = e.life; calls = e.calls; calls_left = e.calls_left; stops = ap (λ (l : List Step). pipes.Cuts_sender ∷ l) e.stops; others = e.others; first = e.first }
further pipes.Ends_sender from mid p z stopped ahead more s i e =
    record { out = pipes.Ends_sender ∷ e.out; left = e.left; at = e.at; off = e.off; run = (mid, i, e.run); life = e.life; calls = e.calls; calls_left = e.calls_left; stops = e.stops; others = e.others; first = e.first }
further pipes.Asks_to_send from mid p z stopped ahead more s i e =
    record { out = pipes.Asks_to_send ∷ e.out; left = e.left; at = e.at; off = e.off; run = (mid, i, e.run); life = e.life; calls = ap (λ (l : List Step). pipes.Asks_to_send ∷ l) e.calls; calls_left = e.calls_left; stops = e.stops; others = e.others; first = e.first }
further (pipes.Gives text) from mid p z stopped ahead more s i e =
    record { out = pipes.Gives text ∷ e.out; left = e.left; at = e.at; off = e.off; run = (mid, i, e.run); life = e.life; calls = ap (λ (l : List Step). pipes.Gives text ∷ l) e.calls; calls_left = e.calls_left; stops = e.stops; others = e.others; first = e.first }
further pipes.Opens_sender from mid p z stopped ahead more s i e =
    record { out = pipes.Opens_sender ∷ e.out; left = e.left; at = e.at; off = e.off; run = (mid, i, e.run); life = e.life; calls = e.calls; calls_left = e.calls_left; stops = e.stops; others = e.others; first = e.first }
further (pipes.Sends bits) from mid p z stopped ahead more s i e =
    record { out = pipes.Sends bits ∷ e.out; left = e.left; at = e.at; off = e.off; run = (mid, i, e.run); life = e.life; calls = e.calls; calls_left = e.calls_left; stops = e.stops; others = e.others; first = e.first }
further x from mid p z stopped ahead more s i e = absurd (cc s)

abbrev Out : Pipe → Pipe → Stage → List Step → List Step → List Step → Type 0
Out from p z life ahead more = Emitted from p z (Stops life) ahead more

-- with another name for what is ahead
renamed : (from p : Pipe) (z : Stage) (stopped ahead now more : List Step) → ahead ≡ now → Emitted from p z stopped now more → Emitted from p z stopped ahead more
renamed from p z stopped ahead now more e k = subst (λ (l : List Step). Emitted from p z stopped l more) (sym e) k

emit-off : (life : List Step) (t z : Stage) (p : Pipe) (ahead more : List Step) → IsSenderAccount t life z → is_on t ≡ false → AllCloses ahead → AsksFirst more → Calls life ≡ ahead ++ more → Out (without_sender t p) p z life ahead more
emit-off [] t z p ahead more l off a m c =
    let k = none-ahead ahead more c in
    record { out = []; left = []; at = t; off = off; run = refl; life = l; calls = sym k.0; calls_left = sym k.1; stops = refl; others = refl; first = tt }
emit-off (pipes.Asks_to_send ∷ life) t z p ahead more l off a m c =
    let k = one-ask ahead more (Calls life) a c in
    record { out = []; left = pipes.Asks_to_send ∷ life; at = t; off = off; run = refl; life = l; calls = sym k.0; calls_left = sym k.1; stops = refl; others = refl; first = tt }
emit-off (pipes.Closes_sender ∷ life) t z p ahead more (next, e, l) off a m c =
    let k = one-close ahead more (Calls life) a m c in
    renamed (without_sender t p) p z (Stops life) ahead (pipes.Closes_sender ∷ k.0) more k.2
    (further pipes.Closes_sender (without_sender t p) (without_sender next p) p z (Stops life) k.0 more refl (ap (λ (s : Stage). without_sender s p) e) (emit-off life next z p k.0 more l (ap is_on e) k.1 m k.3))
emit-off (pipes.Ends_sender ∷ life) t z p ahead more (next, e, l) off a m c =
    further pipes.Ends_sender (without_sender t p) (without_sender next p) p z (Stops life) ahead more refl (e.0, ap (λ (s : Stage). without_sender s p) e.1) (emit-off life next z p ahead more l (ap is_on e.1) a m c)
emit-off (pipes.Cuts_sender ∷ life) t z p ahead more (next, e, l) off a m c =
    further pipes.Cuts_sender (without_sender t p) (without_sender next p) p z (Stops life) ahead more refl (ap (λ (s : Stage). without_sender s p) e) (emit-off life next z p ahead more l (ap is_on e) a m c)
emit-off (pipes.Leaves_sender ∷ life) t z p ahead more (next, e, l) off a m c = absurd (cc (sym off ∙ e.0))
emit-off (pipes.Opens_sender ∷ life) t z p ahead more (next, e, l) off a m c = is-on t Asked off e.0 refl
emit-off (pipes.Gives text ∷ life) t z p ahead more (next, e, l) off a m c = is-on t Open off e.0 refl
emit-off (x ∷ life) t z p ahead more (next, e, l) off a m c = absurd e

emit-on : (life : List Step) (t z : Stage) (p : Pipe) (ahead more : List Step) → IsSenderAccount t life z → is_on t ≡ true → is_on p.sender ≡ true → AllCloses ahead → AsksFirst more → Calls life ≡ ahead ++ more → (is_on z ≡ true → Calls life ≡ [] → ⊥) → Out p p z life ahead more
emit-on [] t z p ahead more l on up a m c never = absurd (never (ap is_on (sym l) ∙ on) refl)
emit-on (pipes.Opens_sender ∷ life) t z p ahead more (next, e, l) on up a m c never = emit-on life next z p ahead more l (ap is_on e.1) up a m c never
emit-on (pipes.Gives text ∷ life) t z p ahead more (next, e, l) on up a m c never = no-give ahead more a m text (Calls life) c
emit-on (pipes.Asks_to_send ∷ life) t z p ahead more (next, e, l) on up a m c never = is-off t Closed on e.0 refl
emit-on (pipes.Ends_sender ∷ life) t z p ahead more (next, e, l) on up a m c never = is-off t Closing on e.0 refl
emit-on (pipes.Closes_sender ∷ life) t z p ahead more (next, e, l) on up a m c never =
    let k = one-close ahead more (Calls life) a m c in
    renamed p p z (Stops life) ahead (pipes.Closes_sender ∷ k.0) more k.2
    (further pipes.Closes_sender p (without_sender next p) p z (Stops life) k.0 more refl (ap (λ (s : Stage). without_sender s p) e) (emit-off life next z p k.0 more l (ap is_on e) k.1 m k.3))
emit-on (pipes.Leaves_sender ∷ life) t z p ahead more (next, e, l) on up a m c never =
    further pipes.Leaves_sender p (without_sender next p) p z (Stops life) ahead more refl (up, ap (λ (s : Stage). without_sender s p) e.1) (emit-off life next z p ahead more l (ap is_on e.1) a m c)
emit-on (pipes.Cuts_sender ∷ life) t z p ahead more (next, e, l) on up a m c never =
    further pipes.Cuts_sender p (without_sender next p) p z (Stops life) ahead more refl (ap (λ (s : Stage). without_sender s p) e) (emit-off life next z p ahead more l (ap is_on e) a m c)
emit-on (x ∷ life) t z p ahead more (next, e, l) on up a m c never = absurd e

-- a give is taken out of the exchanged steps
without-give : (life : List Step) (t z : Stage) (text : List Bool) (cs : List Step) → IsSenderAccount t life z → Calls life ≡ pipes.Gives text ∷ cs → (left : List Step) × IsSenderAccount t left z × (Calls left ≡ cs) × (Stops left ≡ Stops life)
without-give [] t z text cs l c = absurd (cc c)
without-give (pipes.Gives x ∷ life) t z text cs (next, e, l) c = (life, subst (λ (s : Stage). IsSenderAccount s life z) (e.1 ∙ sym e.0) l, ap Tail c, refl)
without-give (pipes.Asks_to_send ∷ life) t z text cs l c = absurd (cc c)
without-give (pipes.Closes_sender ∷ life) t z text cs l c = absurd (cc c)
without-give (pipes.Opens_sender ∷ life) t z text cs (next, e, l) c =
    let k = without-give life next z text cs l c in
    (pipes.Opens_sender ∷ k.0, (next, e, k.1), k.2, k.3)
without-give (pipes.Leaves_sender ∷ life) t z text cs (next, e, l) c =
    let k = without-give life next z text cs l c in
    (pipes.Leaves_sender ∷ k.0, (next, e, k.1), k.2, ap (λ (xs : List Step). pipes.Leaves_sender ∷ xs) k.3)
without-give (pipes.Ends_sender ∷ life) t z text cs (next, e, l) c =
    let k = without-give life next z text cs l c in
    (pipes.Ends_sender ∷ k.0, (next, e, k.1), k.2, k.3)
without-give (pipes.Cuts_sender ∷ life) t z text cs (next, e, l) c =
    let k = without-give life next z text cs l c in
    (pipes.Cuts_sender ∷ k.0, (next, e, k.1), k.2, ap (λ (xs : List Step). pipes.Cuts_sender ∷ xs) k.3)
without-give (x ∷ life) t z text cs (next, e, l) c = absurd e

-- one that is off stays so without calls
never-on : (life : List Step) (t z : Stage) → IsSenderAccount t life z → Calls life ≡ [] → is_on t ≡ false → is_on z ≡ true → ⊥
never-on [] t z l c off h = cc (sym off ∙ ap is_on l ∙ h)
never-on (pipes.Opens_sender ∷ life) t z (next, e, l) c off h = is-on t Asked off e.0 refl
never-on (pipes.Ends_sender ∷ life) t z (next, e, l) c off h = never-on life next z l c (ap is_on e.1) h
never-on (pipes.Cuts_sender ∷ life) t z (next, e, l) c off h = never-on life next z l c (ap is_on e) h
never-on (pipes.Leaves_sender ∷ life) t z (next, e, l) c off h = never-on life next z l c (ap is_on e.1) h
never-on (pipes.Gives x ∷ life) t z l c off h = cc c
never-on (pipes.Asks_to_send ∷ life) t z l c off h = cc c
never-on (pipes.Closes_sender ∷ life) t z l c off h = cc c
never-on (x ∷ life) t z (next, e, l) c off h = e

-- no call and no stop is left of one that stays on
none-left : (life : List Step) (t z : Stage) → IsSenderAccount t life z → Calls life ≡ [] → is_on z ≡ true → Stops life ≡ []
none-left [] t z l c h = refl
none-left (pipes.Opens_sender ∷ life) t z (next, e, l) c h = none-left life next z l c h
none-left (pipes.Gives x ∷ life) t z l c h = absurd (cc c)
none-left (pipes.Asks_to_send ∷ life) t z l c h = absurd (cc c)
none-left (pipes.Closes_sender ∷ life) t z l c h = absurd (cc c)
none-left (pipes.Ends_sender ∷ life) t z (next, e, l) c h = none-left life next z l c h
none-left (pipes.Leaves_sender ∷ life) t z (next, e, l) c h = absurd (never-on life next z l c (ap is_on e.1) h)
none-left (pipes.Cuts_sender ∷ life) t z (next, e, l) c h = absurd (never-on life next z l c (ap is_on e) h)
none-left (x ∷ life) t z (next, e, l) c h = absurd e

-- The run with the exchanged steps.

pub record Woven (from q : Pipe) (calls stopped others : List Step) : Type 0 where
  pub steps : List Step
  pub run : IsRun from steps q
  pub called : Calls steps ≡ calls
  pub stops : Stops steps ≡ stopped
  pub beside : Others steps ≡ others

abbrev With : Pipe → Pipe → List Step → List Step → Type 0
With from q life rest = Woven from q (Calls life) (Stops life) (Others rest)

-- how far it is, beside the run: as the run; or stopped, some calls ahead
data Beside (from p : Pipe) (t : Stage) (life rest : List Step) : Type 0 where
  Both_on : from ≡ p → is_on p.sender ≡ true → is_on t ≡ true → Calls rest ≡ Calls life → Beside from p t life rest
  Both_off : from ≡ without_sender t p → is_on p.sender ≡ false → p.queued ≡ [] → is_on t ≡ false → (ahead : List Step) → AllCloses ahead → AsksFirst life → Calls rest ≡ ahead ++ Calls life → Beside from p t life rest

-- the same step is taken in both
same-step : (x : Step) (from next q : Pipe) (calls stopped others : List Step) → IsStep x from next → Woven next q calls stopped others → Woven from q (Calls (x ∷ []) ++ calls) (Stops (x ∷ []) ++ stopped) (Others (x ∷ []) ++ others)
same-step x from next q calls stopped others i w = record {
  steps = x ∷ w.steps;
  run = (next, i, w.run);
  called = behind (x ∷ []) w.steps (Calls (x ∷ [])) calls (Calls (x ∷ []) ++ calls) is_sender_step refl w.called refl;
  stops = behind (x ∷ []) w.steps (Stops (x ∷ [])) stopped (Stops (x ∷ []) ++ stopped) is_sender_stop refl w.stops refl;
  beside = behind (x ∷ []) w.steps (Others (x ∷ [])) others (Others (x ∷ []) ++ others) is_at_receiver refl w.beside refl;
}

from-here : (from p q : Pipe) (calls stopped others : List Step) → from ≡ p → Woven p q calls stopped others → Woven from q calls stopped others
from-here from p q calls stopped others e w = subst (λ (x : Pipe). Woven x q calls stopped others) (sym e) w

named : (from q : Pipe) (c d s t others : List Step) → c ≡ d → s ≡ t → Woven from q c s others → Woven from q d t others
named from q c d s t others e f w = record { steps = w.steps; run = w.run; called = w.called ∙ e; stops = w.stops ∙ f; beside = w.beside }

-- the run stops: what is to be exchanged comes now
now-stopped : (p q : Pipe) (life rest ahead more : List Step) → (e : Out p p q.sender life ahead more) → Calls life ≡ ahead ++ more → With (without_sender e.at p) q e.left rest → With p q life rest
now-stopped p q life rest ahead more e c w = record {
  steps = e.out ++ w.steps;
  run = joined p (without_sender e.at p) q e.out w.steps e.run w.run;
  called = behind e.out w.steps ahead more (Calls life) is_sender_step e.calls (w.called ∙ e.calls_left) c;
  stops = behind e.out w.steps (Stops e.out) (Stops e.left) (Stops life) is_sender_stop refl w.stops e.stops;
  beside = behind e.out w.steps [] (Others rest) (Others rest) is_at_receiver e.others w.beside refl;
}

-- a run stops on its own: nothing was called
own-never : (life rest : List Step) (next q : Pipe) → IsRun next rest q → is_on next.sender ≡ false → Calls rest ≡ Calls life → is_on q.sender ≡ true → Calls life ≡ [] → ⊥
own-never life rest next q r off c h n = cc (sym (stays-off rest next q r off (c ∙ n)) ∙ h)

over : (life : List Step) (t z : Stage) → AsksFirst life → [] ≡ Calls life → IsSenderAccount t life z → (life ≡ []) × (t ≡ z)
over [] t z f c l = (refl, l)
over (pipes.Asks_to_send ∷ life) t z f c l = absurd (cc c)
over (x ∷ life) t z f c l = absurd f

asked : (life cs : List Step) (t z : Stage) → AsksFirst life → Calls life ≡ pipes.Asks_to_send ∷ cs → IsSenderAccount t life z → (left : List Step) × (t ≡ Closed) × IsSenderAccount Asked left z × (life ≡ pipes.Asks_to_send ∷ left) × (Calls left ≡ cs)
asked [] cs t z f c l = absurd (cc c)
asked (pipes.Asks_to_send ∷ life) cs t z f c (next, e, l) = (life, e.0, subst (λ (s : Stage). IsSenderAccount s life z) e.1 l, refl, ap Tail c)
asked (x ∷ life) cs t z f c l = absurd f

first-called : (life : List Step) → AsksFirst life → AsksFirst (Calls life)
first-called [] f = tt
first-called (pipes.Asks_to_send ∷ life) f = tt
first-called (x ∷ life) f = absurd f

as-was : (p : Pipe) (t : Stage) → t ≡ p.sender → p.queued ≡ [] → without_sender t p ≡ p
as-was p t e w = subst (λ (s : Stage). without_sender s p ≡ p) (sym e) (ap (λ (l : List Bool). record p { queued = l }) (sym w))

weave : (rest : List Step) (from p q : Pipe) (t : Stage) (life : List Step) → IsRun p rest q → IsSenderAccount t life q.sender → Beside from p t life rest → With from q life rest
weave [] from p q t life r l (Both_on e up on c) = record { steps = []; run = e ∙ r; called = c; stops = sym (none-left life t q.sender l (sym c) (ap (λ (z : Pipe). is_on z.sender) (sym r) ∙ up)); beside = refl }
weave (pipes.Opens_sender ∷ rest) from p q t life (next, i, r) l (Both_on e up on c) =
    from-here from p q _ _ _ e (same-step pipes.Opens_sender p next q _ _ _ i (weave rest next next q t life r l (Both_on refl (ap (λ (z : Pipe). is_on z.sender) i.1) on c)))
weave (pipes.Gives text ∷ rest) from p q t life (next, i, r) l (Both_on e up on c) =
    let k = without-give life t q.sender text (Calls rest) l (sym c) in
    from-here from p q _ _ _ e
    (named p q (pipes.Gives text ∷ Calls k.0) (Calls life) (Stops k.0) (Stops life) (Others rest) (ap (λ (l : List Step). pipes.Gives text ∷ l) k.2 ∙ c) k.3
    (same-step (pipes.Gives text) p next q _ _ _ i (weave rest next next q t k.0 r k.1 (Both_on refl (ap (λ (z : Pipe). is_on z.sender) i.1 ∙ up) on (sym k.2)))))
weave (pipes.Sends bits ∷ rest) from p q t life (next, i, r) l (Both_on e up on c) =
    from-here from p q _ _ _ e (same-step (pipes.Sends bits) p next q _ _ _ i (weave rest next next q t life r l (Both_on refl (ap (λ (z : Pipe). is_on z.sender) i.4 ∙ up) on c)))
weave (pipes.Asks_to_send ∷ rest) from p q t life (next, i, r) l (Both_on e up on c) = is-off p.sender Closed up i.0 refl
weave (pipes.Ends_sender ∷ rest) from p q t life (next, i, r) l (Both_on e up on c) = is-off p.sender Closing up i.0 refl
weave (pipes.Closes_sender ∷ rest) from p q t life (next, i, r) l (Both_on e up on c) =
    let off : is_on next.sender ≡ false = ap (λ (z : Pipe). is_on z.sender) i in
    let k = off-calls rest next q r off in
    let d : Calls life ≡ (pipes.Closes_sender ∷ k.0) ++ k.1 = sym c ∙ ap (λ (l : List Step). pipes.Closes_sender ∷ l) k.4 in
    let o = emit-on life t q.sender p (pipes.Closes_sender ∷ k.0) k.1 l on up k.2 k.3 d (λ h n. cc (c ∙ n)) in
    from-here from p q _ _ _ e
    (now-stopped p q life rest (pipes.Closes_sender ∷ k.0) k.1 o d
    (weave rest (without_sender o.at p) next q o.at o.left r o.life (Both_off (sym (ap (without_sender o.at) i)) off (ap (λ (z : Pipe). z.queued) i) o.off k.0 k.2 o.first (k.4 ∙ ap (λ (l : List Step). k.0 ++ l) (sym o.calls_left)))))
weave (pipes.Leaves_sender ∷ rest) from p q t life (next, i, r) l (Both_on e up on c) =
    let off : is_on next.sender ≡ false = ap (λ (z : Pipe). is_on z.sender) i.1 in
    let k = off-calls rest next q r off in
    let o = emit-on life t q.sender p k.0 k.1 l on up k.2 k.3 (sym c ∙ k.4) (own-never life rest next q r off c) in
    from-here from p q _ _ _ e
    (now-stopped p q life rest k.0 k.1 o (sym c ∙ k.4)
    (weave rest (without_sender o.at p) next q o.at o.left r o.life (Both_off (sym (ap (without_sender o.at) i.1)) off (ap (λ (z : Pipe). z.queued) i.1) o.off k.0 k.2 o.first (k.4 ∙ ap (λ (l : List Step). k.0 ++ l) (sym o.calls_left)))))
weave (pipes.Cuts_sender ∷ rest) from p q t life (next, i, r) l (Both_on e up on c) =
    let off : is_on next.sender ≡ false = ap (λ (z : Pipe). is_on z.sender) i in
    let k = off-calls rest next q r off in
    let o = emit-on life t q.sender p k.0 k.1 l on up k.2 k.3 (sym c ∙ k.4) (own-never life rest next q r off c) in
    from-here from p q _ _ _ e
    (now-stopped p q life rest k.0 k.1 o (sym c ∙ k.4)
    (weave rest (without_sender o.at p) next q o.at o.left r o.life (Both_off (sym (ap (without_sender o.at) i)) off (ap (λ (z : Pipe). z.queued) i) o.off k.0 k.2 o.first (k.4 ∙ ap (λ (l : List Step). k.0 ++ l) (sym o.calls_left)))))
weave (x ∷ rest) from p q t life (next, i, r) l (Both_on e up on c) =
    from-here from p q _ _ _ e (same-step x p next q _ _ _ i (weave rest next next q t life r l (Both_on refl (ap is_on (keeps x p next refl i).0 ∙ up) on c)))
weave [] from p q t life r l (Both_off e off w toff ahead a f c) =
    let n = none-ahead ahead (Calls life) c in
    let o = over life t q.sender f (sym n.1) l in
    record { steps = []; run = e ∙ as-was p t (o.1 ∙ ap (λ (z : Pipe). z.sender) (sym r)) w ∙ r; called = sym n.1; stops = ap Stops (sym o.0); beside = refl }
weave (pipes.Asks_to_send ∷ rest) from p q t life (next, i, r) l (Both_off e off w toff ahead a f c) =
    let n = one-ask ahead (Calls life) (Calls rest) a c in
    let k = asked life (Calls rest) t q.sender f n.1 l in
    from-here from (without_sender t p) q _ _ _ e
    (subst (λ (x : List Step). Woven (without_sender t p) q (Calls x) (Stops x) (Others rest)) (sym k.3)
    (same-step pipes.Asks_to_send (without_sender t p) next q _ _ _ (k.1, i.1, i.2) (weave rest next next q Asked k.0 r k.2 (Both_on refl (ap (λ (z : Pipe). is_on z.sender) i.2) refl (sym k.4)))))
weave (pipes.Closes_sender ∷ rest) from p q t life (next, i, r) l (Both_off e off w toff ahead a f c) =
    let k = one-close ahead (Calls life) (Calls rest) a (first-called life f) c in
    weave rest from next q t life r l (Both_off (e ∙ sym (ap (without_sender t) i)) (ap (λ (z : Pipe). is_on z.sender) i) (ap (λ (z : Pipe). z.queued) i) toff k.0 k.1 f k.3)
weave (pipes.Ends_sender ∷ rest) from p q t life (next, i, r) l (Both_off e off w toff ahead a f c) =
    weave rest from next q t life r l (Both_off (e ∙ sym (ap (without_sender t) i.1)) (ap (λ (z : Pipe). is_on z.sender) i.1) (ap (λ (z : Pipe). z.queued) i.1) toff ahead a f c)
weave (pipes.Cuts_sender ∷ rest) from p q t life (next, i, r) l (Both_off e off w toff ahead a f c) =
    weave rest from next q t life r l (Both_off (e ∙ sym (ap (without_sender t) i)) (ap (λ (z : Pipe). is_on z.sender) i) (ap (λ (z : Pipe). z.queued) i) toff ahead a f c)
weave (pipes.Leaves_sender ∷ rest) from p q t life (next, i, r) l (Both_off e off w toff ahead a f c) = absurd (cc (sym off ∙ i.0))
weave (pipes.Opens_sender ∷ rest) from p q t life (next, i, r) l (Both_off e off w toff ahead a f c) = is-on p.sender Asked off i.0 refl
weave (pipes.Gives text ∷ rest) from p q t life (next, i, r) l (Both_off e off w toff ahead a f c) = is-on p.sender Open off i.0 refl
weave (pipes.Sends bits ∷ rest) from p q t life (next, i, r) l (Both_off e off w toff ahead a f c) = is-on p.sender Open off i.0 refl
weave (x ∷ rest) from p q t life (next, i, r) l (Both_off e off w toff ahead a f c) =
    let k = keeps x p next refl i in
    from-here from (without_sender t p) q _ _ _ e
    (same-step x (without_sender t p) (without_sender t next) q _ _ _ (lifts t toff x p next refl i)
    (weave rest (without_sender t next) next q t life r l (Both_off refl (ap is_on k.0 ∙ off) (k.1 ∙ w) toff ahead a f c)))

pub sender-woven : (steps : List Step) (q : Pipe) (life : List Step) → IsRun pipes.new_pipe steps q → IsSenderAccount Closed life q.sender → those is_sender_step life ≡ those is_sender_step steps → Woven pipes.new_pipe q (those is_sender_step life) (those is_sender_stop life) (those is_at_receiver steps)
sender-woven steps q life r l c =
    let n : Pipe = pipes.new_pipe in
    let k = off-calls steps n q r refl in
    let o = emit-off life Closed q.sender n k.0 k.1 l refl k.2 k.3 (c ∙ k.4) in
    now-stopped n q life steps k.0 k.1 o (c ∙ k.4)
    (weave steps (without_sender o.at n) n q o.at o.left r o.life (Both_off refl refl refl o.off k.0 k.2 o.first (k.4 ∙ ap (λ (l : List Step). k.0 ++ l) (sym o.calls_left))))
