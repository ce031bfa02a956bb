-- The first that waits is wanted, with the numbers that are due, it passes over none that is sure, and the same holds of what is
-- left.
use Rattle.std.proofs.Common.{◌≡◌, ℕ, ◌==◌, Bool, true, false, not, ◌&&◌, ◌||◌, if◌then◌else◌, List, [], ◌∷◌, ◌++◌, map, None, Some, inl, inr, eq-eqb, refl, sym, ap, ◌∙◌, subst}
use Rattle.std.specs.List.{list_any, filter}
use Rattle.std.proofs.lemmas.Bool.{and_parts, eqb-true}
use Rattle.ncp_wire.specs.declared.command.Command.{Command}
use Rattle.ncp_wire.specs.declared.command.Command.TheVariants.{Ret}
use Rattle.ncp_monitor.specs.declared.pending_reply.PendingReply.{PendingReply}
use Rattle.ncp_monitor.specs.declared.pending_reply.ExpectedReply.{ExpectedReply}
use Rattle.ncp_monitor.specs.declared.pending_reply.ExpectedReply.TheVariants.{Echo, Error, Return}
use Rattle.ncp_monitor.specs.declared.observed_flow.ObservedFlow.{ObservedFlow}
use Rattle.ncp_monitor.specs.ConnStates.{is_return_on}
use Rattle.ncp_monitor.specs.Replies.{says_wanted, is_own, answers, is_wanted, skipped, reply_wanted, fits_sure, optional, pending_struck, pending_left}
use Rattle.ncp_monitor.specs.Allocation.{numbers_due}
use Rattle.ncp_proof_monitor_replies.specs.Owed.{Item, nothing_ended, ended_too, ended_by, if_return, is_return_where, is_exact, is_ret_on, none_on, IsReturnOf, MayLack, IsGiven, Splits, All_of, Owed, Gives, EndsOn}

-- ---- the first queued command is sent

pub wanted_first : (own : PendingReply → Bool) (c : Command) (skip : PendingReply → Type 0) (rest : List PendingReply → Type 0) (ended : ℕ → Bool) (pending_replies : List PendingReply) → Splits skip (IsGiven own ended c) rest pending_replies → is_wanted own c pending_replies ≡ true
wanted_first own c skip rest ended [] s = absurd s
wanted_first own c skip rest ended (due ∷ pending_replies) (inl (k, s)) = go (answers own c due) (wanted_first own c skip rest ended pending_replies s)
  where
    go : (b : Bool) → is_wanted own c pending_replies ≡ true → (b || is_wanted own c pending_replies) ≡ true
    go true later = refl
    go false later = later
wanted_first own c skip rest ended (due ∷ pending_replies) (inr (g, r)) = ap (λ (b : Bool). b || is_wanted own c pending_replies) g.answers

none_where : (wanted : ExpectedReply) → is_return_where nothing_ended wanted ≡ false
none_where (Return link messages bits) = refl
none_where (Echo byte) = refl
none_where (Error code or bytes) = refl

open_due : (own : PendingReply → Bool) (gone : ℕ → Bool) (items : List Item) (due : PendingReply) → MayLack own gone nothing_ended items due → (own due && due.mandatory) ≡ false
open_due own gone items due k = go (own due && due.mandatory) (is_return_where nothing_ended due.wanted) (none_where due.wanted) k.lacks
  where
    go : (b r : Bool) → r ≡ false → (b && not r) ≡ false → b ≡ false
    go true true e f = absurd (cc e)
    go true false e f = absurd (cc f)
    go false r e f = refl

pub skips_none : (own : PendingReply → Bool) (gone : ℕ → Bool) (items : List Item) (c : Command) (rest : List PendingReply → Type 0) (pending_replies : List PendingReply) → Splits (MayLack own gone nothing_ended items) (IsGiven own nothing_ended c) rest pending_replies → skipped own c pending_replies ≡ None
skips_none own gone items c rest [] s = absurd s
skips_none own gone items c rest (due ∷ pending_replies) (inr (g, r)) = ap (λ (b : Bool). if b then None else if own due && due.mandatory then Some (reply_wanted due.wanted) else skipped own c pending_replies) g.answers
skips_none own gone items c rest (due ∷ pending_replies) (inl (k, s)) = go (answers own c due) (own due && due.mandatory) (open_due own gone items due k) (skips_none own gone items c rest pending_replies s)
  where
    go : (b s : Bool) → s ≡ false → skipped own c pending_replies ≡ None → (if b then None else if s then Some (reply_wanted due.wanted) else skipped own c pending_replies) ≡ None
    go true s e later = refl
    go false false e later = later
    go false true e later = absurd (cc e)

untrue : (b : Bool) → not b ≡ true → b ≡ false
untrue true e = absurd (cc e)
untrue false e = refl

-- what a RET passes over it does not fit
unfit : (own : PendingReply → Bool) (gone ended : ℕ → Bool) (link messages bits : ℕ) (items : List Item) (due : PendingReply) → MayLack own gone ended (Gives (Ret link messages bits) ∷ items) due → answers own (Ret link messages bits) due ≡ false
unfit own gone ended link messages bits items due k = go (own due) due.wanted k.none
  where
    go : (o : Bool) (w : ExpectedReply) → (not o || if_return (none_on (Gives (Ret link messages bits) ∷ items)) w) ≡ true → (o && says_wanted w (Ret link messages bits)) ≡ false
    go false w e = refl
    go true (Return l m b) e = untrue (link == l) (and_parts (not (link == l)) (none_on items l) e).0
    go true (Echo byte) e = refl
    go true (Error code or bytes) e = refl

-- so the numbers that are due are its own
pub record NumbersAre (own : PendingReply → Bool) (c : Command) (pending_replies : List PendingReply) : Type 0 where
  pub wanted : ExpectedReply
  pub due : numbers_due own c pending_replies ≡ Some wanted
  pub says : says_wanted wanted c ≡ true
  pub exact : is_exact wanted c ≡ true

pub numbers_first : (own : PendingReply → Bool) (gone ended : ℕ → Bool) (link messages bits : ℕ) (items : List Item) (rest : List PendingReply → Type 0) (pending_replies : List PendingReply)
    → Splits (MayLack own gone ended (Gives (Ret link messages bits) ∷ items)) (IsGiven own ended (Ret link messages bits)) rest pending_replies → NumbersAre own (Ret link messages bits) pending_replies
numbers_first own gone ended link messages bits items rest [] s = absurd s
numbers_first own gone ended link messages bits items rest (due ∷ pending_replies) (inl (k, s)) =
    let later = numbers_first own gone ended link messages bits items rest pending_replies s in
    record {
      wanted = later.wanted;
      due = ap (λ (b : Bool). if b then Some due.wanted else numbers_due own (Ret link messages bits) pending_replies) (unfit own gone ended link messages bits items due k) ∙ later.due;
      says = later.says;
      exact = later.exact;
    }
numbers_first own gone ended link messages bits items rest (due ∷ pending_replies) (inr (g, r)) = record {
  wanted = due.wanted;
  due = ap (λ (b : Bool). if b then Some due.wanted else numbers_due own (Ret link messages bits) pending_replies) g.answers;
  says = (and_parts (own due) (says_wanted due.wanted (Ret link messages bits)) g.answers).1;
  exact = g.exact;
}

-- ---- what may be left out may be so with fewer that wait, and one more of those is left out

fewer_lack : (own : PendingReply → Bool) (gone ended : ℕ → Bool) (item : Item) (items : List Item) (due : PendingReply) → MayLack own gone ended (item ∷ items) due → MayLack own gone ended items due
fewer_lack own gone ended item items due k = record { lacks = k.lacks; closed = k.closed; none = by (own due) due.wanted k.none }
  where
    later : (item : Item) (link : ℕ) → none_on (item ∷ items) link ≡ true → none_on items link ≡ true
    later (EndsOn l) link e = e
    later (Gives c) link e = (and_parts (not (is_ret_on link c)) (none_on items link) e).1

    by : (o : Bool) (w : ExpectedReply) → (not o || if_return (none_on (item ∷ items)) w) ≡ true → (not o || if_return (none_on items) w) ≡ true
    by false w e = refl
    by true (Return link messages bits) e = later item link e
    by true (Echo byte) e = refl
    by true (Error code or bytes) e = refl

-- one more CLS was sent
ended_lack : (own : PendingReply → Bool) (gone ended : ℕ → Bool) (link : ℕ) (items : List Item) (due : PendingReply) → MayLack own gone ended items due → MayLack own gone (ended_too link ended) items due
ended_lack own gone ended link items due k = record { lacks = by (own due && due.mandatory) due.wanted k.lacks; closed = k.closed; none = k.none }
  where
    still : (b e x : Bool) → (b && not e) ≡ false → (b && not (x || e)) ≡ false
    still false e x k = refl
    still true true true k = refl
    still true true false k = refl
    still true false true k = refl
    still true false false k = absurd (cc k)

    by : (b : Bool) (w : ExpectedReply) → (b && not (is_return_where ended w)) ≡ false → (b && not (is_return_where (ended_too link ended) w)) ≡ false
    by b (Return on messages bits) e = still b (ended on) (on == link) e
    by b (Echo byte) e = e
    by b (Error code or bytes) e = e

pub one_lacks : (own : PendingReply → Bool) (gone ended : ℕ → Bool) (items : List Item) (due : PendingReply) (pending_replies : List PendingReply) → MayLack own gone ended items due → Owed own gone ended items pending_replies → Owed own gone ended items (due ∷ pending_replies)
one_lacks own gone ended [] due pending_replies k o = (k, o)
one_lacks own gone ended (EndsOn link ∷ items) due pending_replies k o = one_lacks own gone (ended_too link ended) items due pending_replies (ended_lack own gone ended link items due (fewer_lack own gone ended (EndsOn link) items due k)) o
one_lacks own gone ended (Gives c ∷ items) due pending_replies k o = inl (k, o)

-- one of another may always be left out
pub theirs_lack : (own : PendingReply → Bool) (gone ended : ℕ → Bool) (items : List Item) (due : PendingReply) → own due ≡ false → MayLack own gone ended items due
theirs_lack own gone ended items due o = record {
  lacks = ap (λ (b : Bool). b && due.mandatory && not (is_return_where ended due.wanted)) o;
  closed = ap (λ (b : Bool). not b || if_return gone due.wanted) o;
  none = ap (λ (b : Bool). not b || if_return (none_on items) due.wanted) o;
}

-- ---- what is left after the first that waits: where the first that fits is sure

left_sure : (own : PendingReply → Bool) (gone : ℕ → Bool) (c : Command) (items : List Item) (pending_replies : List PendingReply) → Splits (MayLack own gone nothing_ended (Gives c ∷ items)) (IsGiven own nothing_ended c) (Owed own gone nothing_ended items) pending_replies
    → fits_sure own c pending_replies ≡ true → Owed own gone nothing_ended items (pending_struck own c pending_replies)
left_sure own gone c items [] s mandatory = absurd s
left_sure own gone c items (due ∷ pending_replies) (inl (k, s)) mandatory = go (own due) (says_wanted due.wanted c) refl (open_due own gone (Gives c ∷ items) due k) mandatory (left_sure own gone c items pending_replies s)
  where
    struck : List PendingReply
    struck = pending_struck own c pending_replies

    go : (o f : Bool) → own due ≡ o → (o && due.mandatory) ≡ false → (if o && f then due.mandatory else fits_sure own c pending_replies) ≡ true → (fits_sure own c pending_replies ≡ true → Owed own gone nothing_ended items struck)
        → Owed own gone nothing_ended items (if o then if f then pending_replies else struck else due ∷ struck)
    go true true p k mandatory later = let nay : true ≡ false = sym mandatory ∙ k in absurd (cc nay)
    go true false p k mandatory later = later mandatory
    go false f p k mandatory later = one_lacks own gone nothing_ended items due struck (theirs_lack own gone nothing_ended items due p) (later mandatory)
left_sure own gone c items (due ∷ pending_replies) (inr (g, r)) mandatory =
    let fits = and_parts (own due) (says_wanted due.wanted c) g.answers in
    subst (λ (b : Bool). Owed own gone nothing_ended items (if b then if says_wanted due.wanted c then pending_replies else pending_struck own c pending_replies else due ∷ pending_struck own c pending_replies)) (sym fits.0)
    (subst (λ (b : Bool). Owed own gone nothing_ended items (if b then pending_replies else pending_struck own c pending_replies)) (sym fits.1) r)

-- ---- where it is not, each like it is only admitted from now on

like : (flow : ObservedFlow) (c : Command) (due : PendingReply) → is_own flow (optional (is_own flow) c due) ≡ is_own flow due
like flow c due = go (answers (is_own flow) c due)
  where
    go : (b : Bool) → is_own flow (if b then record due { mandatory = false } else due) ≡ is_own flow due
    go true = refl
    go false = refl

same_wanted : (flow : ObservedFlow) (c : Command) (due : PendingReply) → (optional (is_own flow) c due).wanted ≡ due.wanted
same_wanted flow c due = go (answers (is_own flow) c due)
  where
    go : (b : Bool) → (if b then record due { mandatory = false } else due).wanted ≡ due.wanted
    go true = refl
    go false = refl

none_sure : (o r : Bool) → (o && false && r) ≡ false
none_sure true r = refl
none_sure false r = refl

still_lacks : (flow : ObservedFlow) (c : Command) (gone ended : ℕ → Bool) (items : List Item) (due : PendingReply) → MayLack (is_own flow) gone ended items due → MayLack (is_own flow) gone ended items (optional (is_own flow) c due)
still_lacks flow c gone ended items due k = go (answers (is_own flow) c due)
  where
    go : (b : Bool) → MayLack (is_own flow) gone ended items (if b then record due { mandatory = false } else due)
    go true = record { lacks = none_sure (is_own flow due) (not (is_return_where ended due.wanted)); closed = k.closed; none = k.none }
    go false = k

still_given : (flow : ObservedFlow) (c : Command) (ended : ℕ → Bool) (d : Command) (due : PendingReply) → IsGiven (is_own flow) ended d due → IsGiven (is_own flow) ended d (optional (is_own flow) c due)
still_given flow c ended d due k = go (answers (is_own flow) c due)
  where
    go : (b : Bool) → IsGiven (is_own flow) ended d (if b then record due { mandatory = false } else due)
    go true = record { answers = k.answers; exact = k.exact; open_still = k.open_still }
    go false = k

weaker : (flow : ObservedFlow) (c : Command) (gone ended : ℕ → Bool) (items : List Item) (pending_replies : List PendingReply) → Owed (is_own flow) gone ended items pending_replies → Owed (is_own flow) gone ended items (map (optional (is_own flow) c) pending_replies)
weaker flow c gone ended [] [] o = tt
weaker flow c gone ended [] (due ∷ pending_replies) (k, o) = (still_lacks flow c gone ended [] due k, weaker flow c gone ended [] pending_replies o)
weaker flow c gone ended (EndsOn link ∷ items) pending_replies o = weaker flow c gone (ended_too link ended) items pending_replies o
weaker flow c gone ended (Gives d ∷ items) pending_replies o = go (λ ds r. weaker flow c gone ended items ds r) pending_replies o
  where
    go : ((ds : List PendingReply) → Owed (is_own flow) gone ended items ds → Owed (is_own flow) gone ended items (map (optional (is_own flow) c) ds)) → (pending_replies : List PendingReply)
        → Owed (is_own flow) gone ended (Gives d ∷ items) pending_replies → Owed (is_own flow) gone ended (Gives d ∷ items) (map (optional (is_own flow) c) pending_replies)
    go later [] s = s
    go later (due ∷ pending_replies) (inl (k, s)) = inl (still_lacks flow c gone ended (Gives d ∷ items) due k, go later pending_replies s)
    go later (due ∷ pending_replies) (inr (g, r)) = inr (still_given flow c ended d due g, later pending_replies r)

-- it is no RET
abbrev pub is_return_command : Command → Bool
is_return_command (Ret link messages bits) = true
is_return_command c = false

-- those that it fits may be left out
opened : (flow : ObservedFlow) (c : Command) (gone ended : ℕ → Bool) (items : List Item) (due : PendingReply) → is_return_command c ≡ false → answers (is_own flow) c due ≡ true → MayLack (is_own flow) gone ended items (optional (is_own flow) c due)
opened flow c gone ended items due u f =
    let says = (and_parts (is_own flow due) (says_wanted due.wanted c) f).1 in
    subst (λ (b : Bool). MayLack (is_own flow) gone ended items (if b then record due { mandatory = false } else due)) (sym f)
    (record {
      lacks = none_sure (is_own flow due) (not (is_return_where ended due.wanted));
      closed = no_return gone (is_own flow due) due.wanted c u says;
      none = no_return (none_on items) (is_own flow due) due.wanted c u says;
    })
  where
    either : (o : Bool) → (not o || true) ≡ true
    either true = refl
    either false = refl

    by_ret : (c : Command) (link messages bits : ℕ) → is_return_command c ≡ false → says_wanted (Return link messages bits) c ≡ true → ⊥
    by_ret (Ret on m b) link messages bits u f = cc u
    by_ret c link messages bits u f = cc f

    no_return : (p : ℕ → Bool) (o : Bool) (w : ExpectedReply) (c : Command) → is_return_command c ≡ false → says_wanted w c ≡ true → (not o || if_return p w) ≡ true
    no_return p o (Return link messages bits) c u f = absurd (by_ret c link messages bits u f)
    no_return p o (Echo byte) c u f = either o
    no_return p o (Error code or bytes) c u f = either o

-- so one of them may be meant for the sent command
one_less : (flow : ObservedFlow) (c : Command) (gone : ℕ → Bool) (items : List Item) (pending_replies : List PendingReply) → is_return_command c ≡ false
    → Owed (is_own flow) gone nothing_ended (Gives c ∷ items) pending_replies → Owed (is_own flow) gone nothing_ended items (map (optional (is_own flow) c) pending_replies)
one_less flow c gone items [] u s = absurd s
one_less flow c gone items (due ∷ pending_replies) u (inl (k, s)) =
    one_lacks (is_own flow) gone nothing_ended items (optional (is_own flow) c due) (map (optional (is_own flow) c) pending_replies)
    (still_lacks flow c gone nothing_ended items due (fewer_lack (is_own flow) gone nothing_ended (Gives c) items due k)) (one_less flow c gone items pending_replies u s)
one_less flow c gone items (due ∷ pending_replies) u (inr (g, r)) =
    one_lacks (is_own flow) gone nothing_ended items (optional (is_own flow) c due) (map (optional (is_own flow) c) pending_replies)
    (opened flow c gone nothing_ended items due u g.answers) (weaker flow c gone nothing_ended items pending_replies r)

-- what is passed over and fits has no RET before it
no_ret : (own : PendingReply → Bool) (gone ended : ℕ → Bool) (c : Command) (items : List Item) (due : PendingReply) → MayLack own gone ended (Gives c ∷ items) due → answers own c due ≡ true → is_return_command c ≡ false
no_ret own gone ended (Ret link messages bits) items due k f = let nay : true ≡ false = sym f ∙ unfit own gone ended link messages bits items due k in absurd (cc nay)
no_ret own gone ended c items due k f = refl

left_unsure : (flow : ObservedFlow) (gone : ℕ → Bool) (c : Command) (items : List Item) (pending_replies : List PendingReply) → Owed (is_own flow) gone nothing_ended (Gives c ∷ items) pending_replies
    → Owed (is_own flow) gone nothing_ended items (pending_struck (is_own flow) c (map (optional (is_own flow) c) pending_replies))
left_unsure flow gone c items [] s = absurd s
left_unsure flow gone c items (due ∷ pending_replies) s =
    subst (λ (b : Bool). Left (if b then if says_wanted now.wanted c then rest else struck else now ∷ struck)) (sym (like flow c due))
    (subst (λ (w : ExpectedReply). Left (if own due then if says_wanted w c then rest else struck else now ∷ struck)) (sym (same_wanted flow c due))
    (go s (left_unsure flow gone c items pending_replies) (one_less flow c gone items pending_replies)))
  where
    own : PendingReply → Bool
    own = is_own flow

    now : PendingReply
    now = optional (is_own flow) c due

    rest : List PendingReply
    rest = map (optional (is_own flow) c) pending_replies

    struck : List PendingReply
    struck = pending_struck (is_own flow) c (map (optional (is_own flow) c) pending_replies)

    Left : List PendingReply → Type 0
    Left = Owed (is_own flow) gone nothing_ended items

    by : (o f : Bool) → own due ≡ o → says_wanted due.wanted c ≡ f → MayLack own gone nothing_ended (Gives c ∷ items) due → (is_return_command c ≡ false → Left rest) → Left struck
        → Left (if o then if f then rest else struck else now ∷ struck)
    by true true p q k less later = less (no_ret own gone nothing_ended c items due k (ap (λ (b : Bool). b && says_wanted due.wanted c) p ∙ q))
    by true false p q k less later = later
    by false f p q k less later = one_lacks own gone nothing_ended items now struck (theirs_lack own gone nothing_ended items now (like flow c due ∙ p)) later

    go : Owed own gone nothing_ended (Gives c ∷ items) (due ∷ pending_replies) → (Owed own gone nothing_ended (Gives c ∷ items) pending_replies → Left struck) → (is_return_command c ≡ false → Owed own gone nothing_ended (Gives c ∷ items) pending_replies → Left rest)
        → Left (if own due then if says_wanted due.wanted c then rest else struck else now ∷ struck)
    go (inl (k, s)) later less = by (own due) (says_wanted due.wanted c) refl refl k (λ u. less u s) (later s)
    go (inr (g, r)) later less =
        let fits = and_parts (own due) (says_wanted due.wanted c) g.answers in
        subst (λ (b : Bool). Left (if b then if says_wanted due.wanted c then rest else struck else now ∷ struck)) (sym fits.0)
        (subst (λ (b : Bool). Left (if b then rest else struck)) (sym fits.1) (weaker flow c gone nothing_ended items pending_replies r))

pub owed_left : (flow : ObservedFlow) (gone : ℕ → Bool) (c : Command) (items : List Item) (pending_replies : List PendingReply) → Owed (is_own flow) gone nothing_ended (Gives c ∷ items) pending_replies
    → Owed (is_own flow) gone nothing_ended items (pending_left (is_own flow) c pending_replies)
owed_left flow gone c items pending_replies s = go (fits_sure (is_own flow) c pending_replies) refl
  where
    go : (b : Bool) → fits_sure (is_own flow) c pending_replies ≡ b → Owed (is_own flow) gone nothing_ended items (if b then pending_struck (is_own flow) c pending_replies else pending_struck (is_own flow) c (map (optional (is_own flow) c) pending_replies))
    go true mandatory = left_sure (is_own flow) gone c items pending_replies s mandatory
    go false mandatory = left_unsure flow gone c items pending_replies s

-- ---- the same, if an end is open or not, or a CLS was sent, for links without a pending RET

abbrev pub AlikeFor : (gone now f g : ℕ → Bool) → ExpectedReply → Type 0
AlikeFor gone now f g (Return link messages bits) = (gone link ≡ true → now link ≡ true) × (f link ≡ g link)
AlikeFor gone now f g (Echo byte) = Unit {0}
AlikeFor gone now f g (Error code or bytes) = Unit {0}

lack_alike : (own : PendingReply → Bool) (gone now f g : ℕ → Bool) (items : List Item) (due : PendingReply) → (own due ≡ true → AlikeFor gone now f g due.wanted) → MayLack own gone f items due → MayLack own now g items due
lack_alike own gone now f g items due a k = go (own due) refl
  where
    lacks : (b : Bool) (w : ExpectedReply) → AlikeFor gone now f g w → (b && not (is_return_where f w)) ≡ false → (b && not (is_return_where g w)) ≡ false
    lacks b (Return link messages bits) a e = ap (λ (x : Bool). b && not x) (sym a.1) ∙ e
    lacks b (Echo byte) a e = e
    lacks b (Error code or bytes) a e = e

    closed : (o : Bool) (w : ExpectedReply) → AlikeFor gone now f g w → (not o || if_return gone w) ≡ true → (not o || if_return now w) ≡ true
    closed false w a e = refl
    closed true (Return link messages bits) a e = a.0 e
    closed true (Echo byte) a e = refl
    closed true (Error code or bytes) a e = refl

    go : (o : Bool) → own due ≡ o → MayLack own now g items due
    go false e = theirs_lack own now g items due e
    go true e = record { lacks = lacks (own due && due.mandatory) due.wanted (a e) k.lacks; closed = closed (own due) due.wanted (a e) k.closed; none = k.none }

given_alike : (own : PendingReply → Bool) (gone now f g : ℕ → Bool) (c : Command) (due : PendingReply) → (own due ≡ true → AlikeFor gone now f g due.wanted) → IsGiven own f c due → IsGiven own g c due
given_alike own gone now f g c due a k = record { answers = k.answers; exact = k.exact; open_still = still due.wanted (a (and_parts (own due) (says_wanted due.wanted c) k.answers).0) k.open_still }
  where
    still : (w : ExpectedReply) → AlikeFor gone now f g w → is_return_where f w ≡ false → is_return_where g w ≡ false
    still (Return link messages bits) a e = sym a.1 ∙ e
    still (Echo byte) a e = e
    still (Error code or bytes) a e = e

abbrev pub AllAlikeFor : (own : PendingReply → Bool) (gone now f g : ℕ → Bool) → List PendingReply → Type 0
AllAlikeFor own gone now f g pending_replies = All_of (λ due. own due ≡ true → AlikeFor gone now f g due.wanted) pending_replies

-- one more CLS is sent on both sides
alike_with : (own : PendingReply → Bool) (gone now f g : ℕ → Bool) (link : ℕ) (pending_replies : List PendingReply) → AllAlikeFor own gone now f g pending_replies → AllAlikeFor own gone now (ended_too link f) (ended_too link g) pending_replies
alike_with own gone now f g link [] a = tt
alike_with own gone now f g link (due ∷ pending_replies) (k, a) = ((λ o. by due.wanted (k o)), alike_with own gone now f g link pending_replies a)
  where
    by : (w : ExpectedReply) → AlikeFor gone now f g w → AlikeFor gone now (ended_too link f) (ended_too link g) w
    by (Return on messages bits) (h, e) = (h, ap (λ (b : Bool). on == link || b) e)
    by (Echo byte) h = tt
    by (Error code or bytes) h = tt

pub owed_alike : (own : PendingReply → Bool) (gone now f g : ℕ → Bool) (items : List Item) (pending_replies : List PendingReply) → AllAlikeFor own gone now f g pending_replies → Owed own gone f items pending_replies → Owed own now g items pending_replies
owed_alike own gone now f g [] [] a o = tt
owed_alike own gone now f g [] (due ∷ pending_replies) (h, a) (k, o) = (lack_alike own gone now f g [] due h k, owed_alike own gone now f g [] pending_replies a o)
owed_alike own gone now f g (EndsOn l ∷ items) pending_replies a o = owed_alike own gone now (ended_too l f) (ended_too l g) items pending_replies (alike_with own gone now f g l pending_replies a) o
owed_alike own gone now f g (Gives c ∷ items) pending_replies a o = go (λ ds h r. owed_alike own gone now f g items ds h r) pending_replies a o
  where
    go : ((ds : List PendingReply) → AllAlikeFor own gone now f g ds → Owed own gone f items ds → Owed own now g items ds) → (pending_replies : List PendingReply) → AllAlikeFor own gone now f g pending_replies → Owed own gone f (Gives c ∷ items) pending_replies → Owed own now g (Gives c ∷ items) pending_replies
    go later [] a s = s
    go later (due ∷ pending_replies) (h, a) (inl (k, s)) = inl (lack_alike own gone now f g (Gives c ∷ items) due h k, go later pending_replies a s)
    go later (due ∷ pending_replies) (h, a) (inr (k, r)) = inr (given_alike own gone now f g c due h k, later pending_replies a r)

-- an open sender goes
pub owed_gone : (own : PendingReply → Bool) (gone now ended : ℕ → Bool) (items : List Item) (pending_replies : List PendingReply) → ((link : ℕ) → list_any (IsReturnOf own link) pending_replies ≡ true → gone link ≡ true → now link ≡ true)
    → Owed own gone ended items pending_replies → Owed own now ended items pending_replies
owed_gone own gone now ended items pending_replies w o = owed_alike own gone now ended ended items pending_replies (all pending_replies w) o
  where
    or_true : (b : Bool) → (b || true) ≡ true
    or_true true = refl
    or_true false = refl

    itself : (link : ℕ) → (link == link) ≡ true
    itself link = eq-eqb link link refl

    by : (due : PendingReply) (pending_replies : List PendingReply) (o : Bool) (w : ExpectedReply) → o ≡ true → ((link : ℕ) → ((o && is_return_on link w) || list_any (IsReturnOf own link) pending_replies) ≡ true → gone link ≡ true → now link ≡ true) → AlikeFor gone now ended ended w
    by due pending_replies o (Return link messages bits) e h = (h link (ap (λ (b : Bool). (b && link == link) || list_any (IsReturnOf own link) pending_replies) e ∙ ap (λ (b : Bool). b || list_any (IsReturnOf own link) pending_replies) (itself link)), refl)
    by due pending_replies o (Echo byte) e h = tt
    by due pending_replies o (Error code or bytes) e h = tt

    all : (pending_replies : List PendingReply) → ((link : ℕ) → list_any (IsReturnOf own link) pending_replies ≡ true → gone link ≡ true → now link ≡ true) → AllAlikeFor own gone now ended ended pending_replies
    all [] h = tt
    all (due ∷ pending_replies) h = ((λ e. by due pending_replies (own due) due.wanted e h), all pending_replies (λ link k. h link (ap (λ (b : Bool). IsReturnOf own link due || b) k ∙ or_true (IsReturnOf own link due))))

-- ---- CLSs of links for which no RET is due

abbrev pub no_ends : ℕ → List Item → List Item
no_ends link [] = []
no_ends link (Gives c ∷ items) = Gives c ∷ no_ends link items
no_ends link (EndsOn l ∷ items) = if l == link then no_ends link items else EndsOn l ∷ no_ends link items

or_parts : (a b : Bool) → (a || b) ≡ false → (a ≡ false) × (b ≡ false)
or_parts true b e = absurd (cc e)
or_parts false b e = (refl, e)

-- what waits says the same of RETs, or less
lack_fewer : (own : PendingReply → Bool) (gone ended : ℕ → Bool) (items now : List Item) (due : PendingReply) → ((link : ℕ) → none_on items link ≡ true → none_on now link ≡ true) → MayLack own gone ended items due → MayLack own gone ended now due
lack_fewer own gone ended items now due h k = record { lacks = k.lacks; closed = k.closed; none = by (own due) due.wanted k.none }
  where
    by : (o : Bool) (w : ExpectedReply) → (not o || if_return (none_on items) w) ≡ true → (not o || if_return (none_on now) w) ≡ true
    by false w e = refl
    by true (Return link messages bits) e = h link e
    by true (Echo byte) e = refl
    by true (Error code or bytes) e = refl

unended_same : (link : ℕ) (items : List Item) (l : ℕ) → none_on (no_ends link items) l ≡ none_on items l
unended_same link [] l = refl
unended_same link (Gives c ∷ items) l = ap (λ (b : Bool). not (is_ret_on l c) && b) (unended_same link items l)
unended_same link (EndsOn k ∷ items) l = go (k == link) (unended_same link items l)
  where
    go : (b : Bool) → none_on (no_ends link items) l ≡ none_on items l → none_on (if b then no_ends link items else EndsOn k ∷ no_ends link items) l ≡ none_on items l
    go true later = later
    go false later = later

-- of a link for which no RET is due
alike_without : (own : PendingReply → Bool) (gone ended : ℕ → Bool) (link k : ℕ) (pending_replies : List PendingReply) → k ≡ link → list_any (IsReturnOf own link) pending_replies ≡ false
    → AllAlikeFor own gone gone (ended_too k ended) ended pending_replies × AllAlikeFor own gone gone ended (ended_too k ended) pending_replies
alike_without own gone ended link k [] same e = (tt, tt)
alike_without own gone ended link k (due ∷ pending_replies) same e =
    let parts = or_parts (IsReturnOf own link due) (list_any (IsReturnOf own link) pending_replies) e in
    let later = alike_without own gone ended link k pending_replies same parts.1 in
    let here : (on : ℕ) → (on == link) ≡ false → ended_too k ended on ≡ ended on = λ on n. ap (λ (l : ℕ). on == l || ended on) same ∙ ap (λ (b : Bool). b || ended on) n in
    (((λ o. one (own due) due.wanted o parts.0 here), later.0), ((λ o. other (own due) due.wanted o parts.0 here), later.1))
  where
    off : (o x : Bool) → o ≡ true → (o && x) ≡ false → x ≡ false
    off true x o e = e
    off false x o e = absurd (cc o)

    one : (o : Bool) (w : ExpectedReply) → o ≡ true → (o && is_return_on link w) ≡ false → ((on : ℕ) → (on == link) ≡ false → ended_too k ended on ≡ ended on) → AlikeFor gone gone (ended_too k ended) ended w
    one o (Return on messages bits) t e h = ((λ z. z), h on (off o (on == link) t e))
    one o (Echo byte) t e h = tt
    one o (Error code or bytes) t e h = tt

    other : (o : Bool) (w : ExpectedReply) → o ≡ true → (o && is_return_on link w) ≡ false → ((on : ℕ) → (on == link) ≡ false → ended_too k ended on ≡ ended on) → AlikeFor gone gone ended (ended_too k ended) w
    other o (Return on messages bits) t e h = ((λ z. z), sym (h on (off o (on == link) t e)))
    other o (Echo byte) t e h = tt
    other o (Error code or bytes) t e h = tt

owed_unended : (own : PendingReply → Bool) (gone ended : ℕ → Bool) (link : ℕ) (items : List Item) (pending_replies : List PendingReply) → list_any (IsReturnOf own link) pending_replies ≡ false → Owed own gone ended items pending_replies → Owed own gone ended (no_ends link items) pending_replies
owed_unended own gone ended link [] pending_replies e o = o
owed_unended own gone ended link (EndsOn k ∷ items) pending_replies e o = go (k == link) refl (λ f r. owed_unended own gone f link items pending_replies e r) o
  where
    go : (b : Bool) → (k == link) ≡ b → ((f : ℕ → Bool) → Owed own gone f items pending_replies → Owed own gone f (no_ends link items) pending_replies) → Owed own gone (ended_too k ended) items pending_replies
        → Owed own gone ended (if b then no_ends link items else EndsOn k ∷ no_ends link items) pending_replies
    go true p later o = later ended (owed_alike own gone gone (ended_too k ended) ended items pending_replies (alike_without own gone ended link k pending_replies (eqb-true k link p) e).0 o)
    go false p later o = later (ended_too k ended) o
owed_unended own gone ended link (Gives c ∷ items) pending_replies e o = go (λ ds n r. owed_unended own gone ended link items ds n r) pending_replies e o
  where
    go : ((ds : List PendingReply) → list_any (IsReturnOf own link) ds ≡ false → Owed own gone ended items ds → Owed own gone ended (no_ends link items) ds) → (pending_replies : List PendingReply) → list_any (IsReturnOf own link) pending_replies ≡ false
        → Owed own gone ended (Gives c ∷ items) pending_replies → Owed own gone ended (Gives c ∷ no_ends link items) pending_replies
    go later [] e s = s
    go later (due ∷ pending_replies) e (inl (k, s)) =
        inl (
          lack_fewer own gone ended (Gives c ∷ items) (Gives c ∷ no_ends link items) due (λ l z. ap (λ (b : Bool). not (is_ret_on l c) && b) (unended_same link items l) ∙ z) k,
          go later pending_replies (or_parts (IsReturnOf own link due) (list_any (IsReturnOf own link) pending_replies) e).1 s,
        )
    go later (due ∷ pending_replies) e (inr (g, r)) = inr (g, later pending_replies (or_parts (IsReturnOf own link due) (list_any (IsReturnOf own link) pending_replies) e).1 r)

owed_ended : (own : PendingReply → Bool) (gone ended : ℕ → Bool) (link : ℕ) (items : List Item) (pending_replies : List PendingReply) → list_any (IsReturnOf own link) pending_replies ≡ false → Owed own gone ended (no_ends link items) pending_replies → Owed own gone ended items pending_replies
owed_ended own gone ended link [] pending_replies e o = o
owed_ended own gone ended link (EndsOn k ∷ items) pending_replies e o = go (k == link) refl (λ f r. owed_ended own gone f link items pending_replies e r) o
  where
    go : (b : Bool) → (k == link) ≡ b → ((f : ℕ → Bool) → Owed own gone f (no_ends link items) pending_replies → Owed own gone f items pending_replies)
        → Owed own gone ended (if b then no_ends link items else EndsOn k ∷ no_ends link items) pending_replies → Owed own gone (ended_too k ended) items pending_replies
    go true p later o = owed_alike own gone gone ended (ended_too k ended) items pending_replies (alike_without own gone ended link k pending_replies (eqb-true k link p) e).1 (later ended o)
    go false p later o = later (ended_too k ended) o
owed_ended own gone ended link (Gives c ∷ items) pending_replies e o = go (λ ds n r. owed_ended own gone ended link items ds n r) pending_replies e o
  where
    go : ((ds : List PendingReply) → list_any (IsReturnOf own link) ds ≡ false → Owed own gone ended (no_ends link items) ds → Owed own gone ended items ds) → (pending_replies : List PendingReply) → list_any (IsReturnOf own link) pending_replies ≡ false
        → Owed own gone ended (Gives c ∷ no_ends link items) pending_replies → Owed own gone ended (Gives c ∷ items) pending_replies
    go later [] e s = s
    go later (due ∷ pending_replies) e (inl (k, s)) =
        inl (
          lack_fewer own gone ended (Gives c ∷ no_ends link items) (Gives c ∷ items) due (λ l z. ap (λ (b : Bool). not (is_ret_on l c) && b) (sym (unended_same link items l)) ∙ z) k,
          go later pending_replies (or_parts (IsReturnOf own link due) (list_any (IsReturnOf own link) pending_replies) e).1 s,
        )
    go later (due ∷ pending_replies) e (inr (g, r)) = inr (g, later pending_replies (or_parts (IsReturnOf own link due) (list_any (IsReturnOf own link) pending_replies) e).1 r)

-- what waits is the same but for the CLSs of such a link
pub owed_same : (own : PendingReply → Bool) (gone ended : ℕ → Bool) (link : ℕ) (items now : List Item) (pending_replies : List PendingReply) → list_any (IsReturnOf own link) pending_replies ≡ false → no_ends link items ≡ no_ends link now
    → Owed own gone ended items pending_replies → Owed own gone ended now pending_replies
owed_same own gone ended link items now pending_replies e same o =
    owed_ended own gone ended link now pending_replies e (subst (λ (xs : List Item). Owed own gone ended xs pending_replies) same (owed_unended own gone ended link items pending_replies e o))

-- ---- the CLS of a sender is sent: no RET for its link is pending any longer

without : (t : PendingReply → Bool) (P : List PendingReply → Type 0) (due : PendingReply) (pending_replies : List PendingReply) → (t due ≡ true → P (filter (λ d. not (t d)) pending_replies)) → (t due ≡ false → P (due ∷ filter (λ d. not (t d)) pending_replies)) → P (filter (λ d. not (t d)) (due ∷ pending_replies))
without t P due pending_replies dropped kept = go (t due) refl
  where
    go : (b : Bool) → t due ≡ b → P (if not b then due ∷ filter (λ d. not (t d)) pending_replies else filter (λ d. not (t d)) pending_replies)
    go true e = dropped e
    go false e = kept e

drop_lack : (own : PendingReply → Bool) (gone ended : ℕ → Bool) (link : ℕ) (items : List Item) (due : PendingReply) → IsReturnOf own link due ≡ false → MayLack own gone (ended_too link ended) items due → MayLack own gone ended items due
drop_lack own gone ended link items due n k = record { lacks = by (own due) due.mandatory due.wanted n k.lacks; closed = k.closed; none = k.none }
  where
    same : (o s x e : Bool) → (o && x) ≡ false → (o && s && not (x || e)) ≡ false → (o && s && not e) ≡ false
    same false s x e n k = refl
    same true s true e n k = absurd (cc n)
    same true s false e n k = k

    by : (o s : Bool) (w : ExpectedReply) → (o && is_return_on link w) ≡ false → (o && s && not (is_return_where (ended_too link ended) w)) ≡ false → (o && s && not (is_return_where ended w)) ≡ false
    by o s (Return on messages bits) n k = same o s (on == link) (ended on) n k
    by o s (Echo byte) n k = k
    by o s (Error code or bytes) n k = k

drop_given : (own : PendingReply → Bool) (ended : ℕ → Bool) (link : ℕ) (c : Command) (due : PendingReply) → IsGiven own (ended_too link ended) c due → (IsReturnOf own link due ≡ false) × IsGiven own ended c due
drop_given own ended link c due g = (not_it (own due) due.wanted g.open_still, record { answers = g.answers; exact = g.exact; open_still = by due.wanted g.open_still })
  where
    and_none : (o x : Bool) → x ≡ false → (o && x) ≡ false
    and_none true x e = e
    and_none false x e = refl

    not_it : (o : Bool) (w : ExpectedReply) → is_return_where (ended_too link ended) w ≡ false → (o && is_return_on link w) ≡ false
    not_it o (Return on messages bits) k = and_none o (on == link) (or_parts (on == link) (ended on) k).0
    not_it o (Echo byte) k = and_none o false refl
    not_it o (Error code or bytes) k = and_none o false refl

    by : (w : ExpectedReply) → is_return_where (ended_too link ended) w ≡ false → is_return_where ended w ≡ false
    by (Return on messages bits) k = (or_parts (on == link) (ended on) k).1
    by (Echo byte) k = refl
    by (Error code or bytes) k = refl

swap_all : (own : PendingReply → Bool) (gone f g : ℕ → Bool) (pending_replies : List PendingReply) → ((l : ℕ) → f l ≡ g l) → AllAlikeFor own gone gone f g pending_replies
swap_all own gone f g [] e = tt
swap_all own gone f g (due ∷ pending_replies) e = ((λ o. by due.wanted), swap_all own gone f g pending_replies e)
  where
    by : (w : ExpectedReply) → AlikeFor gone gone f g w
    by (Return link messages bits) = ((λ z. z), e link)
    by (Echo byte) = tt
    by (Error code or bytes) = tt

owed_drops : (own : PendingReply → Bool) (gone ended : ℕ → Bool) (link : ℕ) (items : List Item) (pending_replies : List PendingReply) → Owed own gone (ended_too link ended) items pending_replies → Owed own gone ended items (filter (λ due. not (IsReturnOf own link due)) pending_replies)
owed_drops own gone ended link [] [] o = tt
owed_drops own gone ended link [] (due ∷ pending_replies) (k, o) =
    let later = owed_drops own gone ended link [] pending_replies o in
    without (IsReturnOf own link) (Owed own gone ended []) due pending_replies (λ e. later) (λ e. (drop_lack own gone ended link [] due e k, later))
owed_drops own gone ended link (EndsOn l ∷ items) pending_replies o =
    owed_drops own gone (ended_too l ended) link items pending_replies
    (owed_alike own gone gone (ended_too l (ended_too link ended)) (ended_too link (ended_too l ended)) items pending_replies (swap_all own gone (ended_too l (ended_too link ended)) (ended_too link (ended_too l ended)) pending_replies (λ k. swap (k == l) (k == link) (ended k))) o)
  where
    swap : (x y z : Bool) → (x || (y || z)) ≡ (y || (x || z))
    swap true true z = refl
    swap true false z = refl
    swap false y z = refl
owed_drops own gone ended link (Gives c ∷ items) pending_replies o = go (λ ds r. owed_drops own gone ended link items ds r) pending_replies o
  where
    now : List PendingReply → List PendingReply
    now = filter (λ due. not (IsReturnOf own link due))

    Ready : List PendingReply → Type 0
    Ready = Owed own gone ended (Gives c ∷ items)

    go : ((ds : List PendingReply) → Owed own gone (ended_too link ended) items ds → Owed own gone ended items (now ds)) → (pending_replies : List PendingReply) → Owed own gone (ended_too link ended) (Gives c ∷ items) pending_replies → Ready (now pending_replies)
    go rest [] s = s
    go rest (due ∷ pending_replies) (inl (k, s)) =
        let later = go rest pending_replies s in
        without (IsReturnOf own link) Ready due pending_replies (λ e. later) (λ e. inl (drop_lack own gone ended link (Gives c ∷ items) due e k, later))
    go rest (due ∷ pending_replies) (inr (g, o)) =
        let d = drop_given own ended link c due g in
        without (IsReturnOf own link) Ready due pending_replies (λ e. let nay : true ≡ false = sym e ∙ d.0 in absurd (cc nay)) (λ e. inr (d.1, rest pending_replies o))

pub owed_ends : (own : PendingReply → Bool) (gone ended : ℕ → Bool) (link : ℕ) (items : List Item) (pending_replies : List PendingReply) → Owed own gone ended (EndsOn link ∷ items) pending_replies → Owed own gone ended items (filter (λ due. not (IsReturnOf own link due)) pending_replies)
owed_ends = owed_drops

-- ---- a link is suspended: no RET for it is pending any longer, and no queued one is judged

abbrev pub no_rets : ℕ → List Item → List Item
no_rets link [] = []
no_rets link (EndsOn l ∷ items) = EndsOn l ∷ no_rets link items
no_rets link (Gives c ∷ items) = if is_ret_on link c then no_rets link items else Gives c ∷ no_rets link items

none_fewer : (link : ℕ) (items : List Item) (l : ℕ) → none_on items l ≡ true → none_on (no_rets link items) l ≡ true
none_fewer link [] l e = refl
none_fewer link (EndsOn k ∷ items) l e = none_fewer link items l e
none_fewer link (Gives c ∷ items) l e =
    let parts = and_parts (not (is_ret_on l c)) (none_on items l) e in go (is_ret_on link c) parts.0 (none_fewer link items l parts.1)
  where
    go : (b : Bool) → not (is_ret_on l c) ≡ true → none_on (no_rets link items) l ≡ true → none_on (if b then no_rets link items else Gives c ∷ no_rets link items) l ≡ true
    go true off later = later
    go false off later = ap (λ (b : Bool). b && none_on (no_rets link items) l) off ∙ later

-- the reply that a RET on the link gives is dropped, and no other
ret_of : (own : PendingReply → Bool) (link : ℕ) (c : Command) (due : PendingReply) → is_ret_on link c ≡ true → answers own c due ≡ true → IsReturnOf own link due ≡ true
ret_of own link c due r a = let parts = and_parts (own due) (says_wanted due.wanted c) a in ap (λ (b : Bool). b && is_return_on link due.wanted) parts.0 ∙ by c due.wanted r parts.1
  where
    by : (c : Command) (w : ExpectedReply) → is_ret_on link c ≡ true → says_wanted w c ≡ true → is_return_on link w ≡ true
    by (Ret on m b) (Return l messages bits) r s = ap (λ (x : ℕ). x == link) (sym (eqb-true on l s)) ∙ r
    by (Ret on m b) (Echo byte) r s = absurd (cc s)
    by (Ret on m b) (Error code or bytes) r s = absurd (cc s)
    by c w r s = absurd (cc r)

other_of : (own : PendingReply → Bool) (link : ℕ) (c : Command) (due : PendingReply) → is_ret_on link c ≡ false → answers own c due ≡ true → IsReturnOf own link due ≡ false
other_of own link c due r a = go (own due) (by c due.wanted r (and_parts (own due) (says_wanted due.wanted c) a).1)
  where
    go : (o : Bool) → is_return_on link due.wanted ≡ false → (o && is_return_on link due.wanted) ≡ false
    go true e = e
    go false e = refl

    by : (c : Command) (w : ExpectedReply) → is_ret_on link c ≡ false → says_wanted w c ≡ true → is_return_on link w ≡ false
    by (Ret on m b) (Return l messages bits) r s = ap (λ (x : ℕ). x == link) (sym (eqb-true on l s)) ∙ r
    by c (Return l messages bits) r s = absurd (cc s)
    by c (Echo byte) r s = refl
    by c (Error code or bytes) r s = refl

pub owed_rested : (own : PendingReply → Bool) (gone ended : ℕ → Bool) (link : ℕ) (items : List Item) (pending_replies : List PendingReply) → Owed own gone ended items pending_replies → Owed own gone ended (no_rets link items) (filter (λ due. not (IsReturnOf own link due)) pending_replies)
owed_rested own gone ended link [] [] o = tt
owed_rested own gone ended link [] (due ∷ pending_replies) (k, o) =
    let later = owed_rested own gone ended link [] pending_replies o in
    without (IsReturnOf own link) (Owed own gone ended []) due pending_replies (λ e. later) (λ e. (k, later))
owed_rested own gone ended link (EndsOn l ∷ items) pending_replies o = owed_rested own gone (ended_too l ended) link items pending_replies o
owed_rested own gone ended link (Gives c ∷ items) pending_replies o = go (is_ret_on link c) refl (λ ds r. owed_rested own gone ended link items ds r) pending_replies o
  where
    fewer : List Item
    fewer = no_rets link items

    now : List PendingReply → List PendingReply
    now = filter (λ due. not (IsReturnOf own link due))

    go : (b : Bool) → is_ret_on link c ≡ b → ((ds : List PendingReply) → Owed own gone ended items ds → Owed own gone ended fewer (now ds)) → (pending_replies : List PendingReply) → Owed own gone ended (Gives c ∷ items) pending_replies
        → Owed own gone ended (if b then fewer else Gives c ∷ fewer) (now pending_replies)
    go true r rest [] s = absurd s
    go true r rest (due ∷ pending_replies) (inl (k, s)) =
        let later = go true r rest pending_replies s in
        without (IsReturnOf own link) (Owed own gone ended fewer) due pending_replies (λ e. later)
        (λ e. one_lacks own gone ended fewer due (now pending_replies) (lack_fewer own gone ended (Gives c ∷ items) fewer due (λ l z. none_fewer link items l (and_parts (not (is_ret_on l c)) (none_on items l) z).1) k) later)
    go true r rest (due ∷ pending_replies) (inr (g, o)) =
        without (IsReturnOf own link) (Owed own gone ended fewer) due pending_replies (λ e. rest pending_replies o) (λ e. let nay : true ≡ false = sym (ret_of own link c due r g.answers) ∙ e in absurd (cc nay))
    go false r rest [] s = s
    go false r rest (due ∷ pending_replies) (inl (k, s)) =
        let later = go false r rest pending_replies s in
        without (IsReturnOf own link) (Owed own gone ended (Gives c ∷ fewer)) due pending_replies (λ e. later)
        (λ e. inl (
          lack_fewer own gone ended (Gives c ∷ items) (Gives c ∷ fewer) due
              (λ l z. let parts = and_parts (not (is_ret_on l c)) (none_on items l) z in ap (λ (b : Bool). b && none_on fewer l) parts.0 ∙ none_fewer link items l parts.1) k,
          later,
        ))
    go false r rest (due ∷ pending_replies) (inr (g, o)) =
        without (IsReturnOf own link) (Owed own gone ended (Gives c ∷ fewer)) due pending_replies (λ e. let nay : true ≡ false = sym e ∙ other_of own link c due r g.answers in absurd (cc nay)) (λ e. inr (g, rest pending_replies o))

-- ---- only its own replies count

-- t: a test that all its own pass

within : (t : PendingReply → Bool) (P : List PendingReply → Type 0) (due : PendingReply) (pending_replies : List PendingReply) → (t due ≡ true → P (due ∷ filter t pending_replies)) → (t due ≡ false → P (filter t pending_replies)) → P (filter t (due ∷ pending_replies))
within t P due pending_replies kept dropped = go (t due) refl
  where
    go : (b : Bool) → t due ≡ b → P (if b then due ∷ filter t pending_replies else filter t pending_replies)
    go true e = kept e
    go false e = dropped e

pub owed_within : (own t : PendingReply → Bool) → ((due : PendingReply) → own due ≡ true → t due ≡ true) → (gone ended : ℕ → Bool) (items : List Item) (pending_replies : List PendingReply) → Owed own gone ended items pending_replies → Owed own gone ended items (filter t pending_replies)
owed_within own t w gone ended [] [] o = tt
owed_within own t w gone ended [] (due ∷ pending_replies) (k, o) =
    let later = owed_within own t w gone ended [] pending_replies o in within t (Owed own gone ended []) due pending_replies (λ e. (k, later)) (λ e. later)
owed_within own t w gone ended (EndsOn l ∷ items) pending_replies o = owed_within own t w gone (ended_too l ended) items pending_replies o
owed_within own t w gone ended (Gives c ∷ items) pending_replies o = go (λ ds r. owed_within own t w gone ended items ds r) pending_replies o
  where
    go : ((ds : List PendingReply) → Owed own gone ended items ds → Owed own gone ended items (filter t ds)) → (pending_replies : List PendingReply) → Owed own gone ended (Gives c ∷ items) pending_replies → Owed own gone ended (Gives c ∷ items) (filter t pending_replies)
    go rest [] s = s
    go rest (due ∷ pending_replies) (inl (k, s)) = let later = go rest pending_replies s in within t (Owed own gone ended (Gives c ∷ items)) due pending_replies (λ e. inl (k, later)) (λ e. later)
    go rest (due ∷ pending_replies) (inr (g, o)) =
        within t (Owed own gone ended (Gives c ∷ items)) due pending_replies (λ e. inr (g, rest pending_replies o))
        (λ e. let nay : true ≡ false = sym (w due (and_parts (own due) (says_wanted due.wanted c) g.answers).0) ∙ e in absurd (cc nay))

unpassed : (own t : PendingReply → Bool) → ((due : PendingReply) → own due ≡ true → t due ≡ true) → (due : PendingReply) → t due ≡ false → own due ≡ false
unpassed own t w due e = go (own due) refl
  where
    go : (b : Bool) → own due ≡ b → own due ≡ false
    go true k = let nay : true ≡ false = sym (w due k) ∙ e in absurd (cc nay)
    go false k = k

of_test : (t : PendingReply → Bool) (P : List PendingReply → Type 0) (Q : Type 0) (due : PendingReply) (pending_replies : List PendingReply) → P (filter t (due ∷ pending_replies)) → (t due ≡ true → P (due ∷ filter t pending_replies) → Q) → (t due ≡ false → P (filter t pending_replies) → Q) → Q
of_test t P Q due pending_replies o kept dropped = go (t due) refl o
  where
    go : (b : Bool) → t due ≡ b → P (if b then due ∷ filter t pending_replies else filter t pending_replies) → Q
    go true e o = kept e o
    go false e o = dropped e o

pub owed_of : (own t : PendingReply → Bool) → ((due : PendingReply) → own due ≡ true → t due ≡ true) → (gone ended : ℕ → Bool) (items : List Item) (pending_replies : List PendingReply) → Owed own gone ended items (filter t pending_replies) → Owed own gone ended items pending_replies
owed_of own t w gone ended [] [] o = tt
owed_of own t w gone ended [] (due ∷ pending_replies) o =
    of_test t (Owed own gone ended []) (Owed own gone ended [] (due ∷ pending_replies)) due pending_replies o (λ e r. (r.0, owed_of own t w gone ended [] pending_replies r.1))
    (λ e r. (theirs_lack own gone ended [] due (unpassed own t w due e), owed_of own t w gone ended [] pending_replies r))
owed_of own t w gone ended (EndsOn l ∷ items) pending_replies o = owed_of own t w gone (ended_too l ended) items pending_replies o
owed_of own t w gone ended (Gives c ∷ items) pending_replies o = go (λ ds r. owed_of own t w gone ended items ds r) pending_replies o
  where
    by : (due : PendingReply) (pending_replies : List PendingReply) → ((ds : List PendingReply) → Owed own gone ended items (filter t ds) → Owed own gone ended items ds) → (Owed own gone ended (Gives c ∷ items) (filter t pending_replies) → Owed own gone ended (Gives c ∷ items) pending_replies)
        → Owed own gone ended (Gives c ∷ items) (due ∷ filter t pending_replies) → Owed own gone ended (Gives c ∷ items) (due ∷ pending_replies)
    by due pending_replies rest later (inl (k, s)) = inl (k, later s)
    by due pending_replies rest later (inr (g, r)) = inr (g, rest pending_replies r)

    go : ((ds : List PendingReply) → Owed own gone ended items (filter t ds) → Owed own gone ended items ds) → (pending_replies : List PendingReply) → Owed own gone ended (Gives c ∷ items) (filter t pending_replies) → Owed own gone ended (Gives c ∷ items) pending_replies
    go rest [] s = s
    go rest (due ∷ pending_replies) s =
        of_test t (Owed own gone ended (Gives c ∷ items)) (Owed own gone ended (Gives c ∷ items) (due ∷ pending_replies)) due pending_replies s (λ e r. by due pending_replies rest (go rest pending_replies) r)
        (λ e r. inl (theirs_lack own gone ended (Gives c ∷ items) due (unpassed own t w due e), go rest pending_replies r))

pub owed_theirs : (own : PendingReply → Bool) (gone ended : ℕ → Bool) (items : List Item) (pending_replies now : List PendingReply) → filter own pending_replies ≡ filter own now → Owed own gone ended items pending_replies → Owed own gone ended items now
owed_theirs own gone ended items pending_replies now e o = owed_of own own (λ due k. k) gone ended items now (subst (Owed own gone ended items) e (owed_within own own (λ due k. k) gone ended items pending_replies o))

-- ---- one more is due

-- and is given: of the link of a RET an open sender is there, and its CLS does not wait

given_lack : (own : PendingReply → Bool) (gone ended : ℕ → Bool) (c : Command) (items : List Item) (due : PendingReply) → ((link : ℕ) → is_ret_on link c ≡ true → gone link ≡ false) → MayLack own gone ended items due → MayLack own gone ended (items ++ Gives c ∷ []) due
given_lack own gone ended c items due u k = record { lacks = k.lacks; closed = k.closed; none = by (own due) due.wanted k.closed k.none }
  where
    more : (link : ℕ) → is_ret_on link c ≡ false → (items : List Item) → none_on items link ≡ true → none_on (items ++ Gives c ∷ []) link ≡ true
    more link r [] e = ap (λ (b : Bool). not b && true) r
    more link r (Gives d ∷ items) e =
        let parts = and_parts (not (is_ret_on link d)) (none_on items link) e in
        ap (λ (b : Bool). b && none_on (items ++ Gives c ∷ []) link) parts.0 ∙ more link r items parts.1
    more link r (EndsOn l ∷ items) e = more link r items e

    apart : (link : ℕ) → gone link ≡ true → is_ret_on link c ≡ false
    apart link g = go (is_ret_on link c) refl
      where
        go : (b : Bool) → is_ret_on link c ≡ b → is_ret_on link c ≡ false
        go true e = let nay : true ≡ false = sym g ∙ u link e in absurd (cc nay)
        go false e = e

    by : (o : Bool) (w : ExpectedReply) → (not o || if_return gone w) ≡ true → (not o || if_return (none_on items) w) ≡ true → (not o || if_return (none_on (items ++ Gives c ∷ [])) w) ≡ true
    by false w g e = refl
    by true (Return link messages bits) g e = more link (apart link g) items e
    by true (Echo byte) g e = refl
    by true (Error code or bytes) g e = refl

pub more_given : (own : PendingReply → Bool) (gone ended : ℕ → Bool) (c : Command) (items : List Item) (pending_replies : List PendingReply) (due : PendingReply) → ((link : ℕ) → is_ret_on link c ≡ true → gone link ≡ false) → IsGiven own (ended_by items ended) c due
    → Owed own gone ended items pending_replies → Owed own gone ended (items ++ Gives c ∷ []) (pending_replies ++ due ∷ [])
more_given own gone ended c [] [] due u g o = inr (g, tt)
more_given own gone ended c [] (x ∷ pending_replies) due u g (k, o) = inl (given_lack own gone ended c [] x u k, more_given own gone ended c [] pending_replies due u g o)
more_given own gone ended c (EndsOn l ∷ items) pending_replies due u g o = more_given own gone (ended_too l ended) c items pending_replies due u g o
more_given own gone ended c (Gives d ∷ items) pending_replies due u g o = go (λ ds r. more_given own gone ended c items ds due u g r) pending_replies o
  where
    go : ((ds : List PendingReply) → Owed own gone ended items ds → Owed own gone ended (items ++ Gives c ∷ []) (ds ++ due ∷ [])) → (pending_replies : List PendingReply) → Owed own gone ended (Gives d ∷ items) pending_replies
        → Owed own gone ended (Gives d ∷ (items ++ Gives c ∷ [])) (pending_replies ++ due ∷ [])
    go rest [] s = absurd s
    go rest (x ∷ pending_replies) (inl (k, s)) = inl (given_lack own gone ended c (Gives d ∷ items) x u k, go rest pending_replies s)
    go rest (x ∷ pending_replies) (inr (f, o)) = inr (f, rest pending_replies o)

-- and may be left out
pub more_lacks : (own : PendingReply → Bool) (gone ended : ℕ → Bool) (items : List Item) (pending_replies : List PendingReply) (due : PendingReply) → MayLack own gone (ended_by items ended) [] due → Owed own gone ended items pending_replies → Owed own gone ended items (pending_replies ++ due ∷ [])
more_lacks own gone ended [] [] due g o = (g, tt)
more_lacks own gone ended [] (x ∷ pending_replies) due g (k, o) = (k, more_lacks own gone ended [] pending_replies due g o)
more_lacks own gone ended (EndsOn l ∷ items) pending_replies due g o = more_lacks own gone (ended_too l ended) items pending_replies due g o
more_lacks own gone ended (Gives d ∷ items) pending_replies due g o = go (λ ds r. more_lacks own gone ended items ds due g r) pending_replies o
  where
    go : ((ds : List PendingReply) → Owed own gone ended items ds → Owed own gone ended items (ds ++ due ∷ [])) → (pending_replies : List PendingReply) → Owed own gone ended (Gives d ∷ items) pending_replies → Owed own gone ended (Gives d ∷ items) (pending_replies ++ due ∷ [])
    go rest [] s = absurd s
    go rest (x ∷ pending_replies) (inl (k, s)) = inl (k, go rest pending_replies s)
    go rest (x ∷ pending_replies) (inr (f, o)) = inr (f, rest pending_replies o)

-- ---- a CLS waits

none_before : (link : ℕ) (items : List Item) (l : ℕ) → none_on (items ++ EndsOn link ∷ []) l ≡ none_on items l
none_before link [] l = refl
none_before link (Gives c ∷ items) l = ap (λ (b : Bool). not (is_ret_on l c) && b) (none_before link items l)
none_before link (EndsOn k ∷ items) l = none_before link items l

pub more_ends : (own : PendingReply → Bool) (gone ended : ℕ → Bool) (link : ℕ) (items : List Item) (pending_replies : List PendingReply) → Owed own gone ended items pending_replies → Owed own gone ended (items ++ EndsOn link ∷ []) pending_replies
more_ends own gone ended link [] [] o = tt
more_ends own gone ended link [] (due ∷ pending_replies) (k, o) = (ended_lack own gone ended link [] due k, more_ends own gone ended link [] pending_replies o)
more_ends own gone ended link (EndsOn l ∷ items) pending_replies o = more_ends own gone (ended_too l ended) link items pending_replies o
more_ends own gone ended link (Gives c ∷ items) pending_replies o = go (λ ds r. more_ends own gone ended link items ds r) pending_replies o
  where
    go : ((ds : List PendingReply) → Owed own gone ended items ds → Owed own gone ended (items ++ EndsOn link ∷ []) ds) → (pending_replies : List PendingReply) → Owed own gone ended (Gives c ∷ items) pending_replies → Owed own gone ended (Gives c ∷ (items ++ EndsOn link ∷ [])) pending_replies
    go rest [] s = s
    go rest (due ∷ pending_replies) (inl (k, s)) =
        inl (lack_fewer own gone ended (Gives c ∷ items) (Gives c ∷ (items ++ EndsOn link ∷ [])) due (λ l z. ap (λ (b : Bool). not (is_ret_on l c) && b) (none_before link items l) ∙ z) k, go rest pending_replies s)
    go rest (due ∷ pending_replies) (inr (g, o)) = inr (g, rest pending_replies o)

-- ---- none waits: none that is sure is due, and those that may be left out are struck

pub none_owed : (own : PendingReply → Bool) (gone : ℕ → Bool) (pending_replies : List PendingReply) → Owed own gone nothing_ended [] pending_replies → list_any (λ due. own due && due.mandatory) pending_replies ≡ false
none_owed own gone [] o = refl
none_owed own gone (due ∷ pending_replies) (k, o) = ap (λ (b : Bool). b || list_any (λ d. own d && d.mandatory) pending_replies) (open_due own gone [] due k) ∙ none_owed own gone pending_replies o

pub all_struck : (own : PendingReply → Bool) (gone ended : ℕ → Bool) (pending_replies : List PendingReply) → Owed own gone ended [] (filter (λ due. not (own due)) pending_replies)
all_struck own gone ended [] = tt
all_struck own gone ended (due ∷ pending_replies) =
    let later = all_struck own gone ended pending_replies in without own (Owed own gone ended []) due pending_replies (λ e. later) (λ e. (theirs_lack own gone ended [] due e, later))

-- ---- a link with a queued CLS

abbrev pub ends_on : ℕ → List Item → Bool
ends_on link [] = false
ends_on link (Gives c ∷ items) = ends_on link items
ends_on link (EndsOn l ∷ items) = link == l || ends_on link items

pub ended_is : (link : ℕ) (items : List Item) (ended : ℕ → Bool) → ended_by items ended link ≡ (ends_on link items || ended link)
ended_is link [] ended = refl
ended_is link (Gives c ∷ items) ended = ended_is link items ended
ended_is link (EndsOn l ∷ items) ended = ended_is link items (ended_too l ended) ∙ swap (ends_on link items) (link == l) (ended link)
  where
    swap : (x y z : Bool) → (x || (y || z)) ≡ ((y || x) || z)
    swap true true z = refl
    swap true false z = refl
    swap false true z = refl
    swap false false z = refl
