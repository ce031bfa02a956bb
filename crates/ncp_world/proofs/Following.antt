-- Which event is next, of hosts of any kind; and that hosts that perform such events end in one way.
use Rattle.std.proofs.Common.{◌≡◌, ◌≢◌, ◌<◌, ℕ, zero, suc, ◌+◌, ◌==◌, Bool, true, false, not, if◌then◌else◌, List, [], ◌∷◌, ◌++◌, length, Option, None, Some, is_some, Result, Ok, Err, refl, sym, ap, ◌∙◌, subst, arith}
use Rattle.std.specs.Prelude.{slice_get, option_map, IfOk}
use Rattle.std.specs.Option.{option_or}
use Rattle.std.proofs.lemmas.Bool.{ne_eqb, eqb-true, eq-eqb}
use Rattle.std.proofs.lemmas.Option.{same_Some}
use Rattle.ncp_subnet.specs.declared.transit.Transit.TheVariants.{Free, Accepted, Delivered, Lost, Dead}
use Rattle.ncp_subnet.specs.Transit.{is_accepted, answer_kind}
use Rattle.ncp_subnet.specs.Ways.{OnLink}
use Rattle.ncp_transcript_two.specs.Transcript.{Noted_hosts}
use Rattle.ncp_world.specs.Lowest.{lowest_kept}
use Rattle.ncp_world.specs.Kinds.{Kind, IsStepOf, IsTriedOf}
use Rattle.ncp_world.specs.Next.{first_at, next_of_kept, next_to, next_between, next_to_others, next_at, next_by_itself, Takes, RunBy, RunsOn, Settles}

-- the place of one of some things
pub within : {A : Type 0} (xs : List A) (place : ℕ) (x : A) → slice_get xs place ≡ Some x → place < length xs
within [] place x e = absurd (cc e)
within (y ∷ ys) zero x e = omega arith
within (y ∷ ys) (suc place) x e = let less = within ys place x e in omega (arith, less)

-- The first of some things that has anything.

module _ {A B : Type 0} where
  -- none before a place has anything
  abbrev pub NoneBefore : (ℕ → A → Option B) → List A → ℕ → Type 0
  NoneBefore has xs place = (k : ℕ) (x : A) → k < place → slice_get xs k ≡ Some x → has k x ≡ None

  none-more : (has : ℕ → A → Option B) (xs : List A) (place : ℕ) → ((x : A) → slice_get xs place ≡ Some x → has place x ≡ None) → NoneBefore has xs place → NoneBefore has xs (place + 1)
  none-more has xs place none before k y less e = go (k == place) refl
    where
      go : (b : Bool) → (k == place) ≡ b → has k y ≡ None
      go true is = let same = eqb-true k place is in ap (λ (n : ℕ). has n y) same ∙ none y (sym (ap (slice_get xs) same) ∙ e)
      go false apart =
          let differ : k ≡ place → ⊥ = λ same. cc (sym apart ∙ eq-eqb k place same) in
          before k y (grind (arith, less, differ)) e

  none-further : (has : ℕ → A → Option B) (xs : List A) (place : ℕ) (x : A) → slice_get xs place ≡ Some x → has place x ≡ None → NoneBefore has xs place → NoneBefore has xs (place + 1)
  none-further has xs place x at none before = none-more has xs place (λ y e. ap (has place) (same_Some y x (sym e ∙ at)) ∙ none) before

  pub first-is : (has : ℕ → A → Option B) (xs : List A) (place : ℕ) (x : A) (it : B) → slice_get xs place ≡ Some x → has place x ≡ Some it → NoneBefore has xs place → first_at has xs ≡ Some it
  first-is has [] place x it at some before = absurd (cc at)
  first-is has (y ∷ ys) zero x it at some before =
      let same : y ≡ x = cc at in
      ap (λ (o : Option B). option_or o (first_at (λ k. has (suc k)) ys)) (ap (has 0) same ∙ some)
  first-is has (y ∷ ys) (suc place) x it at some before =
      ap (λ (o : Option B). option_or o (first_at (λ k. has (suc k)) ys)) (before 0 y (omega arith) refl)
      ∙ first-is (λ k. has (suc k)) ys place x it at some (λ k z less e. before (suc k) z (omega (arith, less)) e)

  pub first-none : (has : ℕ → A → Option B) (xs : List A) → NoneBefore has xs (length xs) → first_at has xs ≡ None
  first-none has [] before = refl
  first-none has (y ∷ ys) before =
      ap (λ (o : Option B). option_or o (first_at (λ k. has (suc k)) ys)) (before 0 y (omega arith) refl)
      ∙ first-none (λ k. has (suc k)) ys (λ k z less e. before (suc k) z (omega (arith, less)) e)

  -- what holds of all that they have holds of it
  pub first-holds : (P : B → Type 0) (has : ℕ → A → Option B) (xs : List A) (it : B) → ((k : ℕ) (x : A) (b : B) → has k x ≡ Some b → P b) → first_at has xs ≡ Some it → P it
  first-holds P has [] it all e = absurd (cc e)
  first-holds P has (y ∷ ys) it all e = go (has 0 y) refl e (first-holds P (λ k. has (suc k)) ys it (λ k x b. all (suc k) x b))
    where
      go : (o : Option B) → has 0 y ≡ o → option_or o (first_at (λ k. has (suc k)) ys) ≡ Some it → (first_at (λ k. has (suc k)) ys ≡ Some it → P it) → P it
      go None none f rest = rest f
      go (Some b) some f rest = subst P (same_Some b it f) (all 0 y b some)

pub if-ok : {A F : Type 0} (P Q : A → Type 0) (r : Result A F) → ((a : A) → P a → Q a) → IfOk r P → IfOk r Q
if-ok P Q (Ok a) f p = f a p
if-ok P Q (Err e) f p = tt

not-same : (a b : Bool) → not a ≡ not b → a ≡ b
not-same true true e = refl
not-same true false e = absurd (cc)
not-same false true e = absurd (cc)
not-same false false e = refl

module _ {Name E N H : Type 0} (kind : Kind Name E N H) where
  -- an event that was tried happened just where its note reports something
  pub tried-says : (event : E) (done has : Bool) (before now : Noted_hosts H N) → ((note : N) → kind.Noted event note before.hosts → kind.reports_nothing note ≡ not has) → IsTriedOf kind event done before now → done ≡ has
  tried-says event true has before now says tried = not-same true has (sym tried.2 ∙ says tried.0 tried.1)
  tried-says event false has before now says tried = not-same false has (sym tried.2 ∙ says tried.0 tried.1)

  pub happened : (event : E) (next : Option E) (before now : Noted_hosts H N) → next ≡ Some event → IsTriedOf kind event true before now → Takes kind next true before now
  happened event next before now e tried = (event, e, (tried.0, tried.1, tried.3, tried.4))

  -- The event of a kept message.

  module _ (from to : Name) (h : H) (link : ℕ) where
    when-accepted : (t : OnLink) → is_accepted t ≡ true → next_of_kept kind from to h link t ≡ kind.deliver from to link
    when-accepted Free e = absurd (cc e)
    when-accepted (Accepted message) e = refl
    when-accepted Delivered e = absurd (cc e)
    when-accepted Lost e = absurd (cc e)
    when-accepted Dead e = absurd (cc e)

    when-answerable : (t : OnLink) → is_some (answer_kind t) ≡ true → next_of_kept kind from to h link t ≡ kind.answer from to link
    when-answerable Free e = absurd (cc e)
    when-answerable (Accepted message) e = absurd (cc e)
    when-answerable Delivered e = refl
    when-answerable Lost e = refl
    when-answerable Dead e = refl

    when-held : (t : OnLink) → is_accepted t ≡ false → is_some (answer_kind t) ≡ false → next_of_kept kind from to h link t ≡ kind.wake from to h
    when-held Free e f = refl
    when-held (Accepted message) e f = absurd (cc e)
    when-held Delivered e f = absurd (cc f)
    when-held Lost e f = absurd (cc f)
    when-held Dead e f = absurd (cc f)

    of-lowest : (event : E) → Some link ≡ lowest_kept (kind.kept from to h) → next_of_kept kind from to h link (kind.transit from to h link) ≡ event → next_to kind from to h ≡ Some event
    of-lowest event lowest is = ap (option_map (λ on. next_of_kept kind from to h on (kind.transit from to h on))) (sym lowest) ∙ ap (λ (it : E). Some it) is

    pub next-delivers : Some link ≡ lowest_kept (kind.kept from to h) → is_accepted (kind.transit from to h link) ≡ true → next_to kind from to h ≡ Some (kind.deliver from to link)
    next-delivers lowest e = of-lowest (kind.deliver from to link) lowest (when-accepted (kind.transit from to h link) e)

    pub next-answers : Some link ≡ lowest_kept (kind.kept from to h) → is_some (answer_kind (kind.transit from to h link)) ≡ true → next_to kind from to h ≡ Some (kind.answer from to link)
    next-answers lowest e = of-lowest (kind.answer from to link) lowest (when-answerable (kind.transit from to h link) e)

    pub next-wakes : Some link ≡ lowest_kept (kind.kept from to h) → is_accepted (kind.transit from to h link) ≡ false → is_some (answer_kind (kind.transit from to h link)) ≡ false → next_to kind from to h ≡ Some (kind.wake from to h)
    next-wakes lowest e f = of-lowest (kind.wake from to h) lowest (when-held (kind.transit from to h link) e f)

  pub next-rests : (from to : Name) (h : H) → None ≡ lowest_kept (kind.kept from to h) → next_to kind from to h ≡ None
  next-rests from to h lowest = ap (option_map (λ on. next_of_kept kind from to h on (kind.transit from to h on))) (sym lowest)

  -- what neither comes nor is answered is woken
  pub goes-by-wake : (from to : Name) (link : ℕ) (before came answered now : Noted_hosts H N) (called : E) (done : Bool) → Some link ≡ lowest_kept (kind.kept from to before.hosts)
      → ((note : N) → kind.Noted (kind.deliver from to link) note before.hosts → kind.reports_nothing note ≡ not (is_accepted (kind.transit from to before.hosts link)))
      → ((note : N) → kind.Noted (kind.answer from to link) note before.hosts → kind.reports_nothing note ≡ not (is_some (answer_kind (kind.transit from to before.hosts link))))
      → ((tried : Bool) (after : Noted_hosts H N) → IsTriedOf kind (kind.wake from to before.hosts) tried before after → tried ≡ true) → IsTriedOf kind (kind.deliver from to link) false before came
      → IsTriedOf kind (kind.answer from to link) false came answered → called ≡ kind.wake from to answered.hosts → IsTriedOf kind called done answered now → Takes kind (next_to kind from to before.hosts) done before now
  goes-by-wake from to link before came answered now called done lowest comes answers goes came_not answered_not e tried =
      let here : IsTriedOf kind (kind.answer from to link) false before answered = subst (λ (x : Noted_hosts H N). IsTriedOf kind (kind.answer from to link) false x answered) came_not.3 answered_not in
      let same : answered ≡ before = here.3 in
      let not_there : false ≡ is_accepted (kind.transit from to before.hosts link) = tried-says (kind.deliver from to link) false (is_accepted (kind.transit from to before.hosts link)) before came comes came_not in
      let not_due : false ≡ is_some (answer_kind (kind.transit from to before.hosts link)) = tried-says (kind.answer from to link) false (is_some (answer_kind (kind.transit from to before.hosts link))) before answered answers here in
      let wake : called ≡ kind.wake from to before.hosts = e ∙ ap (λ (x : Noted_hosts H N). kind.wake from to x.hosts) same in
      let woken : IsTriedOf kind (kind.wake from to before.hosts) done before now =
      subst (λ (it : E). IsTriedOf kind it done before now) wake (subst (λ (x : Noted_hosts H N). IsTriedOf kind called done x now) same tried) in
      let is : done ≡ true = goes done now woken in
      let all : IsTriedOf kind (kind.wake from to before.hosts) true before now = subst (λ (b : Bool). IsTriedOf kind (kind.wake from to before.hosts) b before now) is woken in
      subst (λ (b : Bool). Takes kind (next_to kind from to before.hosts) b before now) (sym is)
      (happened (kind.wake from to before.hosts) (next_to kind from to before.hosts) before now (next-wakes from to before.hosts link lowest (sym not_there) (sym not_due)) all)

  -- The event of a host.

  pub next-other : (at place : ℕ) (from to : Name) (h : H) → place ≢ at → next_between kind at from h place to ≡ next_to kind from to h
  next-other at place from to h differ = ap (λ (b : Bool). if b then None else next_to kind from to h) (ne_eqb place at differ)

  pub next-itself : (at place : ℕ) (from to : Name) (h : H) → place ≡ at → next_between kind at from h place to ≡ None
  next-itself at place from to h same = go (place == at) refl
    where
      go : (b : Bool) → (place == at) ≡ b → (if b then None else next_to kind from to h) ≡ None
      go true e = refl
      go false e = absurd (cc (sym e ∙ eq-eqb place at same))

  pub next-out : (h : H) (at : ℕ) (from : Name) → kind.ready from h ≡ true → next_at kind h at from ≡ Some (kind.out from)
  next-out h at from e = ap (λ (b : Bool). if b then Some (kind.out from) else next_to_others kind at from h) e

  pub next-kept : (h : H) (at : ℕ) (from : Name) → kind.ready from h ≡ false → next_at kind h at from ≡ next_to_others kind at from h
  next-kept h at from e = ap (λ (b : Bool). if b then Some (kind.out from) else next_to_others kind at from h) e

  -- The hosts in turn: those before a place have no event.

  moved : (next : H → Option E) (more : Bool) (before now after : Noted_hosts H N) → now ≡ before → Takes kind (next now.hosts) more now after → Takes kind (next before.hosts) more before after
  moved next more before now after same takes = subst (λ (x : Noted_hosts H N). Takes kind (next x.hosts) more x after) same takes

  at-first : (has : ℕ → Name → Option E) (place : ℕ) (name : Name) (before now : Noted_hosts H N) → NoneBefore has (kind.names before.hosts) place → slice_get (kind.names before.hosts) place ≡ Some name → Takes kind (has place name) true before now
      → Takes kind (first_at has (kind.names before.hosts)) true before now
  at-first has place name before now none at (event, e, step) = (event, first-is has (kind.names before.hosts) place name event at e none, step)

  pub others-go : (at place : ℕ) (from to : Name) (before now after : Noted_hosts H N) → NoneBefore (next_between kind at from before.hosts) (kind.names before.hosts) place → slice_get (kind.names before.hosts) place ≡ Some to → place ≢ at → now ≡ before
      → Takes kind (next_to kind from to now.hosts) true now after → Takes kind (next_to_others kind at from before.hosts) true before after
  others-go at place from to before now after none there differ same takes =
      at-first (next_between kind at from before.hosts) place to before after none there
      (subst (λ (next : Option E). Takes kind next true before after) (sym (next-other at place from to before.hosts differ)) (moved (next_to kind from to) true before now after same takes))

  pub others-rest : (at count : ℕ) (from : Name) (before now : Noted_hosts H N) → count ≡ length (kind.names before.hosts) → NoneBefore (next_between kind at from before.hosts) (kind.names before.hosts) count → now ≡ before
      → Takes kind (next_to_others kind at from before.hosts) false before now
  others-rest at count from before now all none same =
      (first-none (next_between kind at from before.hosts) (kind.names before.hosts) (subst (NoneBefore (next_between kind at from before.hosts) (kind.names before.hosts)) all none), same)

  pub itself-further : (at place : ℕ) (from : Name) (h : H) → place ≡ at → NoneBefore (next_between kind at from h) (kind.names h) place → NoneBefore (next_between kind at from h) (kind.names h) (place + 1)
  itself-further at place from h same none = none-more (next_between kind at from h) (kind.names h) place (λ to e. next-itself at place from to h same) none

  pub others-further : (at place : ℕ) (from to : Name) (before now after : Noted_hosts H N) → slice_get (kind.names before.hosts) place ≡ Some to → place ≢ at → now ≡ before → Takes kind (next_to kind from to now.hosts) false now after
      → NoneBefore (next_between kind at from before.hosts) (kind.names before.hosts) place → NoneBefore (next_between kind at from before.hosts) (kind.names before.hosts) (place + 1)
  others-further at place from to before now after there differ same takes none =
      none-further (next_between kind at from before.hosts) (kind.names before.hosts) place to there (next-other at place from to before.hosts differ ∙ (moved (next_to kind from to) false before now after same takes).0) none

  pub hosts-go : (at : ℕ) (from : Name) (before now after : Noted_hosts H N) → NoneBefore (next_at kind before.hosts) (kind.names before.hosts) at → slice_get (kind.names now.hosts) at ≡ Some from → now ≡ before → Takes kind (next_at kind now.hosts at from) true now after
      → Takes kind (next_by_itself kind before.hosts) true before after
  hosts-go at from before now after none there same takes =
      at-first (next_at kind before.hosts) at from before after none (subst (λ (x : Noted_hosts H N). slice_get (kind.names x.hosts) at ≡ Some from) same there) (moved (λ h. next_at kind h at from) true before now after same takes)

  pub hosts-rest : (count : ℕ) (before now : Noted_hosts H N) → count ≡ length (kind.names before.hosts) → NoneBefore (next_at kind before.hosts) (kind.names before.hosts) count → now ≡ before → Takes kind (next_by_itself kind before.hosts) false before now
  hosts-rest count before now all none same = (first-none (next_at kind before.hosts) (kind.names before.hosts) (subst (NoneBefore (next_at kind before.hosts) (kind.names before.hosts)) all none), same)

  pub hosts-further : (at : ℕ) (from : Name) (before now after : Noted_hosts H N) → slice_get (kind.names now.hosts) at ≡ Some from → now ≡ before → Takes kind (next_at kind now.hosts at from) false now after
      → NoneBefore (next_at kind before.hosts) (kind.names before.hosts) at → NoneBefore (next_at kind before.hosts) (kind.names before.hosts) (at + 1)
  hosts-further at from before now after there same takes none =
      none-further (next_at kind before.hosts) (kind.names before.hosts) at from (subst (λ (x : Noted_hosts H N). slice_get (kind.names x.hosts) at ≡ Some from) same there) (moved (λ h. next_at kind h at from) false before now after same takes).0 none

  -- What holds of every event of a message and of every wake holds of the next event.

  module _ (P : E → Type 0) (out : (from : Name) → P (kind.out from)) (deliver : (from to : Name) (link : ℕ) → P (kind.deliver from to link)) (answer : (from to : Name) (link : ℕ) → P (kind.answer from to link))
      (wake : (from to : Name) (h : H) → P (kind.wake from to h)) (h : H) where
    kept-holds : (from to : Name) (link : ℕ) (t : OnLink) → P (next_of_kept kind from to h link t)
    kept-holds from to link Free = wake from to h
    kept-holds from to link (Accepted message) = deliver from to link
    kept-holds from to link Delivered = answer from to link
    kept-holds from to link Lost = answer from to link
    kept-holds from to link Dead = answer from to link

    to-holds : (from to : Name) (event : E) → next_to kind from to h ≡ Some event → P event
    to-holds from to event e = go (lowest_kept (kind.kept from to h)) e
      where
        go : (o : Option ℕ) → option_map (λ on. next_of_kept kind from to h on (kind.transit from to h on)) o ≡ Some event → P event
        go None f = absurd (cc f)
        go (Some link) f = subst P (same_Some (next_of_kept kind from to h link (kind.transit from to h link)) event f) (kept-holds from to link (kind.transit from to h link))

    between-holds : (at : ℕ) (from : Name) (place : ℕ) (to : Name) (event : E) → next_between kind at from h place to ≡ Some event → P event
    between-holds at from place to event e = go (place == at) e
      where
        go : (b : Bool) → (if b then None else next_to kind from to h) ≡ Some event → P event
        go true f = absurd (cc f)
        go false f = to-holds from to event f

    at-holds : (at : ℕ) (from : Name) (event : E) → next_at kind h at from ≡ Some event → P event
    at-holds at from event e = go (kind.ready from h) e
      where
        go : (b : Bool) → (if b then Some (kind.out from) else next_to_others kind at from h) ≡ Some event → P event
        go true f = subst P (same_Some (kind.out from) event f) (out from)
        go false f = first-holds P (next_between kind at from h) (kind.names h) event (between-holds at from) f

    pub next-holds : (event : E) → next_by_itself kind h ≡ Some event → P event
    next-holds event e = first-holds P (next_at kind h) (kind.names h) event at-holds e

  -- One event more.

  pub run-none : (before : Noted_hosts H N) → RunsOn kind before before
  run-none before = (0, refl)

  run-more : (many : ℕ) (before next now : Noted_hosts H N) → RunBy kind many before next → Takes kind (next_by_itself kind next.hosts) true next now → RunBy kind (suc many) before now
  run-more zero before next now same takes = (now, subst (λ (w : Noted_hosts H N). Takes kind (next_by_itself kind w.hosts) true w now) same takes, refl)
  run-more (suc many) before next now (between, first, rest) takes = (between, first, run-more many between next now rest takes)

  pub run-further : (before next now : Noted_hosts H N) → RunsOn kind before next → Takes kind (next_by_itself kind next.hosts) true next now → RunsOn kind before now
  run-further before next now (many, runs) takes = (suc many, run-more many before next now runs takes)

  -- From the same hosts there is one end.

  -- an event has one note
  abbrev pub HasOneNote : E → Type 0
  HasOneNote event = (note other : N) (h : H) → kind.Noted event note h → kind.Noted event other h → note ≡ other

  module _ (one : (event : E) (h : H) → next_by_itself kind h ≡ Some event → HasOneNote event) where
    one-step : (event : E) (before x y : Noted_hosts H N) → HasOneNote event → IsStepOf kind event before x → IsStepOf kind event before y → x ≡ y
    one-step event before x y has a b =
        let note : a.0 ≡ b.0 = has a.0 b.0 before.hosts a.1 b.1 in
        let notes : x.notes ≡ y.notes = a.2 ∙ ap (λ (n : N). before.notes ++ n ∷ []) note ∙ sym b.2 in
        let hosts : x.hosts ≡ y.hosts = a.3 ∙ ap (λ (n : N). kind.after n before.hosts) note ∙ sym b.3 in
        λ i. record { hosts = hosts i; notes = notes i }

    one-next : (before x y : Noted_hosts H N) → Takes kind (next_by_itself kind before.hosts) true before x → Takes kind (next_by_itself kind before.hosts) true before y → x ≡ y
    one-next before x y (event, e, a) (other, f, b) =
        let same : other ≡ event = same_Some other event (sym f ∙ e) in
        one-step event before x y (one event before.hosts e) a (subst (λ (it : E). IsStepOf kind it before y) same b)

    not-over : (before x y : Noted_hosts H N) → x ≡ before → next_by_itself kind x.hosts ≡ None → Takes kind (next_by_itself kind before.hosts) true before y → ⊥
    not-over before x y same none (event, e, a) =
        let no : next_by_itself kind before.hosts ≡ None = subst (λ (w : Noted_hosts H N). next_by_itself kind w.hosts ≡ None) same none in
        cc (sym no ∙ e)

    one-run : (many few : ℕ) (before x y : Noted_hosts H N) → RunBy kind many before x → next_by_itself kind x.hosts ≡ None → RunBy kind few before y → next_by_itself kind y.hosts ≡ None → x ≡ y
    one-run zero zero before x y a none b over = a ∙ sym b
    one-run zero (suc few) before x y a none (next, takes, b) over = absurd (not-over before x next a none takes)
    one-run (suc many) zero before x y (next, takes, a) none b over = absurd (not-over before y next b over takes)
    one-run (suc many) (suc few) before x y (next, takes, a) none (other, takes_too, b) over =
        let same : other ≡ next = one-next before other next takes_too takes in
        one-run many few next x y a none (subst (λ (w : Noted_hosts H N). RunBy kind few w y) same b) over

    pub one-end : (before x y : Noted_hosts H N) → Settles kind before x → Settles kind before y → x ≡ y
    one-end before x y a b = one-run a.0.0 b.0.0 before x y a.0.1 a.1 b.0.1 b.1
