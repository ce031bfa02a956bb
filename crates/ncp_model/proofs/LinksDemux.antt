-- What a look-up by link finds stands in the map, and is what the acts presume.
use Rattle.std.proofs.Common.{◌≡◌, ◌⊎◌, inl, inr, ℕ, Bool, true, false, cond, if◌then◌else◌, T, List, [], ◌∷◌, Option, None, Some, refl, sym, ap, ◌∙◌, subst, arith}
use Rattle.std.specs.declared.cmp.Ordering.TheVariants.{Equal}
use Rattle.std.specs.Ordering.{is_lt, eq_by_cmp}
use Rattle.std.specs.Cmp.{tied_itself}
use Rattle.std.specs.FinMap.{entries, entries_sorted, get, get-entries}
use Rattle.std.specs.FinMap.Entries.{find, is_sorted, below_all}
use Rattle.std.proofs.lemmas.Cmp.{eq_by_cmp_equiv}
use Rattle.std.proofs.lemmas.Map.Views.{tells_apart}
use Rattle.ncp_wire.specs.declared.command.Command.{Command}
use Rattle.ncp_wire.specs.declared.command.Command.TheVariants as commands
use Rattle.ncp_model.specs.declared.pair.Pair.{Pair}
use Rattle.ncp_model.specs.Pairs.{pair_cmp, sends, receives}
use Rattle.ncp_model.specs.Endpoint.{Endpoint}
use Rattle.ncp_model.specs.Ends.{Ends, count, any, is_by_peer, hears_link, uses_link, first_by, sender_on, receiver_on, end_of, pair_of, demux_command, hear, text_in, cut_in, cut_at, answered_in, answered_at}
use Rattle.ncp_model.specs.Effect.{made_by_hearing, made_if_any}
use Rattle.ncp_model.specs.Commands.{hear_all, hear_gvb, hear_ret, hear_inr, hear_ins}
use Rattle.ncp_model.specs.Texts.{hear_text, made_by_text, Answer}
use Rattle.ncp_model.specs.EndpointEvents.{EndpointEvent, Transition, happens, happened, of_hearing, outcome_of_text, of_cut}
use Rattle.ncp_model.specs.EndpointEvents as all
use Rattle.ncp_model.specs.Demux.{suits, passes, leads, link_in_head, comes}
use Rattle.ncp_model.proofs.PairOrder.{pairs_exact, pairs_total}

truth : (b : Bool) → T b → b ≡ true
truth true t = refl
truth false t = absurd t

-- the first that passes is this one, or is among those behind
chosen : (b : Bool) (q p : Pair × Endpoint) (o : Option (Pair × Endpoint)) → (if b then Some q else o) ≡ Some p → ((b ≡ true) × (q ≡ p)) ⊎ ((b ≡ false) × (o ≡ Some p))
chosen true q p o e = inl (refl, cc)
chosen false q p o e = inr (refl, e)

-- it passes
first-passes : (test : Pair × Endpoint → Bool) (es : List (Pair × Endpoint)) (p : Pair × Endpoint) → first_by test es ≡ Some p → test p ≡ true
first-passes test [] p e = absurd (cc e)
first-passes test (q ∷ es) p e = go (chosen (test q) q p (first_by test es) e) (first-passes test es p)
  where
    go : ((test q ≡ true) × (q ≡ p)) ⊎ ((test q ≡ false) × (first_by test es ≡ Some p)) → (first_by test es ≡ Some p → test p ≡ true) → test p ≡ true
    go (inl h) k = ap test (sym h.1) ∙ h.0
    go (inr h) k = k h.1

-- its key is above all keys that stand before
first-above : (test : Pair × Endpoint → Bool) (x : Pair) (es : List (Pair × Endpoint)) (p : Pair × Endpoint) → below_all pair_cmp x es ≡ true → first_by test es ≡ Some p → is_lt (pair_cmp x p.0) ≡ true
first-above test x [] p b e = absurd (cc e)
first-above test x (q ∷ es) p b e = go (chosen (test q) q p (first_by test es) e) (first-above test x es p)
  where
    go : ((test q ≡ true) × (q ≡ p)) ⊎ ((test q ≡ false) × (first_by test es ≡ Some p)) → (below_all pair_cmp x es ≡ true → first_by test es ≡ Some p → is_lt (pair_cmp x p.0) ≡ true) → is_lt (pair_cmp x p.0) ≡ true
    go (inl h) k = let l : is_lt (pair_cmp x q.0) ≡ true = grind arith in ap (λ (y : Pair × Endpoint). is_lt (pair_cmp x y.0)) (sym h.1) ∙ l
    go (inr h) k = k (grind arith) h.1

pub itself : (p : Pair) → eq_by_cmp pair_cmp p p ≡ true
itself p = (eq_by_cmp_equiv pairs_total).refl p

-- a key above another is another
apart : (x p : Pair) → is_lt (pair_cmp x p) ≡ true → eq_by_cmp pair_cmp p x ≡ false
apart x p l = go (eq_by_cmp pair_cmp p x) refl
  where
    go : (b : Bool) → eq_by_cmp pair_cmp p x ≡ b → eq_by_cmp pair_cmp p x ≡ false
    go false e = e
    go true e =
        let s : p ≡ x = tells_apart pairs_exact p x e in
        let t : pair_cmp x x ≡ Equal = tied_itself pairs_total x in
        let l' : is_lt (pair_cmp x x) ≡ true = ap (λ (y : Pair). is_lt (pair_cmp x y)) (sym s) ∙ l in
        absurd (cc (t, l'))

-- and its key finds it
first-found : (test : Pair × Endpoint → Bool) (es : List (Pair × Endpoint)) (p : Pair × Endpoint) → is_sorted pair_cmp es ≡ true → first_by test es ≡ Some p → find pair_cmp p.0 es ≡ Some p.1
first-found test [] p s e = absurd (cc e)
first-found test (q ∷ es) p s e = go (chosen (test q) q p (first_by test es) e) (first-found test es p)
  where
    go : ((test q ≡ true) × (q ≡ p)) ⊎ ((test q ≡ false) × (first_by test es ≡ Some p)) → (is_sorted pair_cmp es ≡ true → first_by test es ≡ Some p → find pair_cmp p.0 es ≡ Some p.1) → find pair_cmp p.0 (q ∷ es) ≡ Some p.1
    go (inl h) k = subst (λ (y : Pair × Endpoint). find pair_cmp y.0 (q ∷ es) ≡ Some y.1) h.1 (ap (λ b. cond b (Some q.1) (find pair_cmp q.0 es)) (itself q.0))
    go (inr h) k =
        let b : below_all pair_cmp q.0 es ≡ true = grind arith in
        let r : is_sorted pair_cmp es ≡ true = grind arith in
        ap (λ b. cond b (Some q.1) (find pair_cmp p.0 es)) (apart q.0 p.0 (first-above test q.0 es p b h.1)) ∙ k r h.1

-- where a look-up leads, an end is there that passes its test
pub led : (test : Pair × Endpoint → Bool) (m : Ends) (pair : Pair) → pair_of (first_by test (entries m)) ≡ Some pair → (get m pair ≡ end_of (first_by test (entries m))) × (passes test pair (get m pair) ≡ true)
led test m pair e = go (first_by test (entries m)) refl e
  where
    go : (o : Option (Pair × Endpoint)) → first_by test (entries m) ≡ o → pair_of o ≡ Some pair → (get m pair ≡ end_of o) × (passes test pair (get m pair) ≡ true)
    go None f k = absurd (cc k)
    go (Some p) f k =
        let same : p.0 ≡ pair = cc k in
        let found : get m p.0 ≡ Some p.1 = get-entries m p.0 ∙ first-found test (entries m) p (truth (is_sorted pair_cmp (entries m)) (entries_sorted m)) f in
        let passed : test (p.0, p.1) ≡ true = first-passes test (entries m) p f in
        let there : passes test p.0 (get m p.0) ≡ true = ap (passes test p.0) found ∙ passed in
        (ap (get m) (sym same) ∙ found, subst (λ q. passes test q (get m q) ≡ true) same there)

abbrev Led : Ends → Command → Pair → EndpointEvent → Type 0
Led m c pair what = (leads pair what (get m pair) ≡ true) × (happens pair what (get m pair) ≡ happened (get m pair) (hear c m) made_by_hearing of_hearing)

becomes : (m : Ends) (c : Command) (p pair : Pair) (w what : EndpointEvent) → Some p ≡ Some pair → Some w ≡ Some what → Led m c p w → Led m c pair what
becomes m c p pair w what e f h =
    let s : p ≡ pair = cc e in
    let t : w ≡ what = cc f in
    subst (λ q. Led m c q what) s (subst (λ v. Led m c p v) t h)

pub command-led : (m : Ends) (c : Command) (pair : Pair) (what : EndpointEvent) → demux_command c m ≡ Some pair → comes c m ≡ Some what → Led m c pair what
command-led m (commands.Rts receive send on) pair what e f = becomes m (commands.Rts receive send on) (record { local = send; remote = receive }) pair (all.Rts_comes on (any (hears_link on) m) (count is_by_peer m)) what e f (refl, refl)
command-led m (commands.Str send receive of_size) pair what e f = becomes m (commands.Str send receive of_size) (record { local = receive; remote = send }) pair (all.Str_comes of_size (count is_by_peer m)) what e f (refl, refl)
command-led m (commands.Cls my your) pair what e f = becomes m (commands.Cls my your) (record { local = your; remote = my }) pair all.Cls_comes what e f (refl, refl)
command-led m (commands.All on a b) pair what e f =
    let p = led (hears_link on) m pair e in
    becomes m (commands.All on a b) pair pair (all.All_comes on a b) what refl f (p.1, ap (λ o. happened (get m pair) (hear_all on a b o) made_by_hearing of_hearing) p.0)
command-led m (commands.Gvb on a b) pair what e f =
    let p = led (hears_link on) m pair e in
    becomes m (commands.Gvb on a b) pair pair (all.Gvb_comes on a b) what refl f (p.1, ap (λ o. happened (get m pair) (hear_gvb on a b o) made_by_hearing of_hearing) p.0)
command-led m (commands.Ret on a b) pair what e f =
    let p = led (uses_link on) m pair e in
    becomes m (commands.Ret on a b) pair pair (all.Ret_comes on a b) what refl f (p.1, ap (λ o. happened (get m pair) (hear_ret on a b o) made_by_hearing of_hearing) p.0)
command-led m (commands.Inr on) pair what e f =
    let p = led (hears_link on) m pair e in
    becomes m (commands.Inr on) pair pair (all.Inr_comes on) what refl f (p.1, ap (λ o. happened (get m pair) (hear_inr on o) made_by_hearing of_hearing) p.0)
command-led m (commands.Ins on) pair what e f =
    let p = led (uses_link on) m pair e in
    becomes m (commands.Ins on) pair pair (all.Ins_comes on) what refl f (p.1, ap (λ o. happened (get m pair) (hear_ins on o) made_by_hearing of_hearing) p.0)
command-led m c pair what e f = absurd (cc e)

pub text-led : (m : Ends) (head : List Bool) (of_size : ℕ) (text : List Bool) (pair : Pair) → pair_of (receiver_on (link_in_head head) m) ≡ Some pair → (leads pair (all.Text_comes head of_size text) (get m pair) ≡ true) × (happens pair (all.Text_comes head of_size text) (get m pair) ≡ happened (get m pair) (text_in (link_in_head head) of_size text m) (made_by_text head text) outcome_of_text)
text-led m head of_size text pair e =
    let p = led (uses_link (link_in_head head)) m pair e in
    (p.1, ap (λ o. happened (get m pair) (hear_text of_size text o) (made_by_text head text) outcome_of_text) p.0)

-- a sending end that a link leads to sends
pub hearer-sends : (on : ℕ) (pair : Pair) (before : Option Endpoint) → passes (hears_link on) pair before ≡ true → sends pair ≡ true
hearer-sends on pair None h = absurd (cc h)
hearer-sends on pair (Some e) h = grind arith

pub user-receives : (on : ℕ) (pair : Pair) (before : Option Endpoint) → passes (uses_link on) pair before ≡ true → receives pair ≡ true
user-receives on pair None h = absurd (cc h)
user-receives on pair (Some e) h = grind arith

pub cut-led : (m : Ends) (on : ℕ) (pair : Pair) → pair_of (sender_on on m) ≡ Some pair → (leads pair all.Text_goes_out (get m pair) ≡ true) × (happens pair all.Text_goes_out (get m pair) ≡ happened (get m pair) (cut_in on m) (λ _. []) of_cut)
cut-led m on pair e = go (sender_on on m) e (led (hears_link on) m pair e)
  where
    go : (o : Option (Pair × Endpoint)) → pair_of o ≡ Some pair → (get m pair ≡ end_of o) × (passes (hears_link on) pair (get m pair) ≡ true) → (leads pair all.Text_goes_out (get m pair) ≡ true) × (happens pair all.Text_goes_out (get m pair) ≡ happened (get m pair) (cut_at o) (λ _. []) of_cut)
    go None k p = absurd (cc k)
    go (Some q) k p =
        let same : q.0 ≡ pair = cc k in
        (hearer-sends on pair (get m pair) p.1, ap (λ o. happens pair all.Text_goes_out o) p.0 ∙ at same (sym p.0))
      where
        at : q.0 ≡ pair → Some q.1 ≡ get m pair → happens pair all.Text_goes_out (Some q.1) ≡ happened (get m pair) (cut_at (Some q)) (λ _. []) of_cut
        at s t = subst (λ r. happens r all.Text_goes_out (Some q.1) ≡ happened (get m pair) (cut_at (Some q)) (λ _. []) of_cut) s (subst (λ b. happens q.0 all.Text_goes_out (Some q.1) ≡ happened b (cut_at (Some q)) (λ _. []) of_cut) t refl)

pub answered-led : (m : Ends) (on : ℕ) (how : Answer) (pair : Pair) → pair_of (sender_on on m) ≡ Some pair → (leads pair (all.Is_answered how) (get m pair) ≡ true) × (happens pair (all.Is_answered how) (get m pair) ≡ happened (get m pair) (answered_in on how m) made_if_any (λ _. all.Accepted))
answered-led m on how pair e = go (sender_on on m) e (led (hears_link on) m pair e)
  where
    go : (o : Option (Pair × Endpoint)) → pair_of o ≡ Some pair → (get m pair ≡ end_of o) × (passes (hears_link on) pair (get m pair) ≡ true) → (leads pair (all.Is_answered how) (get m pair) ≡ true) × (happens pair (all.Is_answered how) (get m pair) ≡ happened (get m pair) (answered_at how o) made_if_any (λ _. all.Accepted))
    go None k p = absurd (cc k)
    go (Some q) k p =
        let same : q.0 ≡ pair = cc k in
        (hearer-sends on pair (get m pair) p.1, ap (λ o. happens pair (all.Is_answered how) o) p.0 ∙ at same (sym p.0))
      where
        at : q.0 ≡ pair → Some q.1 ≡ get m pair → happens pair (all.Is_answered how) (Some q.1) ≡ happened (get m pair) (answered_at how (Some q)) made_if_any (λ _. all.Accepted)
        at s t = subst (λ r. happens r (all.Is_answered how) (Some q.1) ≡ happened (get m pair) (answered_at how (Some q)) made_if_any (λ _. all.Accepted)) s (subst (λ b. happens q.0 (all.Is_answered how) (Some q.1) ≡ happened b (answered_at how (Some q)) made_if_any (λ _. all.Accepted)) t refl)

pub suits-led : (pair : Pair) (what : EndpointEvent) (before : Option Endpoint) → leads pair what before ≡ true → suits pair what ≡ true
suits-led pair (all.All_comes on a b) before h = hearer-sends on pair before h
suits-led pair (all.Gvb_comes on a b) before h = hearer-sends on pair before h
suits-led pair (all.Inr_comes on) before h = hearer-sends on pair before h
suits-led pair (all.Ret_comes on a b) before h = user-receives on pair before h
suits-led pair (all.Ins_comes on) before h = user-receives on pair before h
suits-led pair (all.Text_comes head of_size text) before h = user-receives (link_in_head head) pair before h
suits-led pair what before h = h
