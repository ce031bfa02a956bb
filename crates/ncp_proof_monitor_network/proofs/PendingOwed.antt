-- The replies that one of two hosts owes the other, by the connection tables: each pending ERP and RET,
-- in order. A reply breaks no rule exactly when it is the next that is owed; the ones after it are owed
-- afterwards.
use Rattle.std.proofs.Common.{◌≡◌, ℕ, ◌==◌, Bool, true, false, not, ◌&&◌, ◌||◌, if◌then◌else◌, List, [], ◌∷◌, ◌++◌, map, Option, None, Some, refl, sym, ap, ◌∙◌, subst}
use Rattle.std.specs.List.{filter, list_any}
use Rattle.std.proofs.lemmas.Bool.{eqb-true, eq-eqb}
use Rattle.std.proofs.lemmas.List.Elements.{filter-append}
use Rattle.ncp_wire.specs.declared.command.Command.{Command}
use Rattle.ncp_wire.specs.declared.command.Command.TheVariants.{Ret, Erp, Err}
use Rattle.ncp_monitor.specs.declared.pending_reply.PendingReply.{PendingReply}
use Rattle.ncp_monitor.specs.declared.pending_reply.ExpectedReply.{ExpectedReply}
use Rattle.ncp_monitor.specs.declared.pending_reply.ExpectedReply.TheVariants.{Echo, Return}
use Rattle.ncp_monitor.specs.ConnStates.{is_return_on}
use Rattle.ncp_monitor.specs.Replies.{says_wanted, reply_wanted, answers, is_wanted, skipped, optional, fits_sure, pending_struck, pending_left}
use Rattle.ncp_monitor.specs.Allocation.{numbers_due}
use Rattle.ncp_monitor.proofs.Firsts.{first}
use Rattle.ncp_monitor.proofs.Shapes.{Shape}
use Rattle.ncp_monitor.proofs.LinkOrder.{Sockets}
use Rattle.ncp_proof_monitor_allocation.proofs.Words.{Count}
use Rattle.ncp_proof_monitor_network.specs.Owing.{Owing, Echoes, Returning, is_echo_of, is_returning_on, is_owed_of, is_echo, Chosen, NextOwed, owed_after, has_echo}
use Rattle.ncp_proof_monitor_network.proofs.Tallied.{left_by, has_both, receives_by, owing_without}

-- ---- as the books have it

abbrev pub reply_owed : Owing → ExpectedReply
reply_owed (Echoes byte) = Echo byte
reply_owed (Returning u link messages bits) = Return link messages bits

-- an ERP is sure; a RET of the other is not
abbrev pub IsSureAs : Bool → Bool → Owing → Type 0
IsSureAs s mandatory (Echoes byte) = mandatory ≡ true
IsSureAs s mandatory (Returning u link messages bits) = s ≡ false → mandatory ≡ false

abbrev pub IsDue : Bool → PendingReply → Owing → Type 0
IsDue s due o = (due.wanted ≡ reply_owed o) × IsSureAs s due.mandatory o

abbrev pub AreDue : Bool → List PendingReply → List Owing → Type 0
AreDue s [] [] = Unit {0}
AreDue s [] (o ∷ owing) = ⊥
AreDue s (due ∷ pending_replies) [] = ⊥
AreDue s (due ∷ pending_replies) (o ∷ owing) = IsDue s due o × AreDue s pending_replies owing

-- ---- which of them a reply gives

abbrev pub GivesAs : Command → (Owing → Bool) → Type 0
GivesAs c fits = (o : Owing) → says_wanted (reply_owed o) c ≡ fits o

same_turned : (a b : ℕ) → (a == b) ≡ (b == a)
same_turned a b = go (a == b) refl (b == a) refl
  where
    go : (x : Bool) → (a == b) ≡ x → (y : Bool) → (b == a) ≡ y → x ≡ y
    go true e true k = refl
    go true e false k = sym (eq-eqb b a (sym (eqb-true a b e))) ∙ k
    go false e true k = sym e ∙ eq-eqb a b (sym (eqb-true b a k))
    go false e false k = refl

pub erp_gives : (byte : ℕ) → GivesAs (Erp byte) (is_echo_of byte)
erp_gives byte (Echoes other) = same_turned byte other
erp_gives byte (Returning u link messages bits) = refl

pub ret_gives : (link messages bits : ℕ) → GivesAs (Ret link messages bits) (is_returning_on link)
ret_gives link messages bits (Echoes byte) = refl
ret_gives link messages bits (Returning u on m k) = same_turned link on

module _ (own : PendingReply → Bool) (s : Bool) (c : Command) (fits : Owing → Bool) (gives : GivesAs c fits) where
  says_it : (due : PendingReply) (o : Owing) → IsDue s due o → says_wanted due.wanted c ≡ fits o
  says_it due o d = ap (λ (w : ExpectedReply). says_wanted w c) d.0 ∙ gives o

  -- it breaks no rule: then it is the next that is owed, with the numbers that are due
  pub rule_then_next : (p : Owing → Type 0) (pending_replies : List PendingReply) (owing : List Owing) → AreDue s (filter own pending_replies) owing → is_wanted own c pending_replies ≡ true → skipped own c pending_replies ≡ None
      → ((o : Owing) → fits o ≡ true → numbers_due own c pending_replies ≡ Some (reply_owed o) → p o) → NextOwed fits p owing
  rule_then_next p [] owing a w k right = absurd (cc w)
  rule_then_next p (due ∷ pending_replies) owing a w k right = go (own due) owing a w k right (rule_then_next p pending_replies)
    where
      go : (y : Bool) (os : List Owing) → AreDue s (if y then due ∷ filter own pending_replies else filter own pending_replies) os
          → ((y && says_wanted due.wanted c) || is_wanted own c pending_replies) ≡ true
          → (if y && says_wanted due.wanted c then None else if y && due.mandatory then Some (reply_wanted due.wanted) else skipped own c pending_replies) ≡ None
          → ((o : Owing) → fits o ≡ true → (if y && says_wanted due.wanted c then Some due.wanted else numbers_due own c pending_replies) ≡ Some (reply_owed o) → p o)
          → ((os : List Owing) → AreDue s (filter own pending_replies) os → is_wanted own c pending_replies ≡ true → skipped own c pending_replies ≡ None
          → ((o : Owing) → fits o ≡ true → numbers_due own c pending_replies ≡ Some (reply_owed o) → p o) → NextOwed fits p os)
          → NextOwed fits p os
      go false os a w k right rest = rest os a w k right
      go true [] a w k right rest = absurd a
      go true (o ∷ os) a w k right rest =
          let e : says_wanted due.wanted c ≡ fits o = says_it due o a.0 in
          subst (λ (y : Bool). Chosen y (is_echo o) (p o) (NextOwed fits p os)) e (by (says_wanted due.wanted c) refl (is_echo o) due.mandatory (sure_echo o a.0.1) w k right (rest os a.1))
        where
          sure_echo : (o : Owing) → IsSureAs s due.mandatory o → is_echo o ≡ true → due.mandatory ≡ true
          sure_echo (Echoes byte) i e = i
          sure_echo (Returning u link messages bits) i e = absurd (cc e)

          by : (y : Bool) → says_wanted due.wanted c ≡ y → (e z : Bool) → (e ≡ true → z ≡ true) → (y || is_wanted own c pending_replies) ≡ true
              → (if y then None else if z then Some (reply_wanted due.wanted) else skipped own c pending_replies) ≡ None
              → ((o : Owing) → fits o ≡ true → (if y then Some due.wanted else numbers_due own c pending_replies) ≡ Some (reply_owed o) → p o)
              → (is_wanted own c pending_replies ≡ true → skipped own c pending_replies ≡ None → ((o : Owing) → fits o ≡ true → numbers_due own c pending_replies ≡ Some (reply_owed o) → p o) → NextOwed fits p os)
              → Chosen y e (p o) (NextOwed fits p os)
          by true i e z h w k right rest = right o (sym (says_it due o a.0) ∙ i) (ap (λ (w : ExpectedReply). Some w) a.0.0)
          by false i true true h w k right rest = absurd (cc k)
          by false i true false h w k right rest = let nay : false ≡ true = h refl in absurd (cc nay)
          by false i false true h w k right rest = absurd (cc k)
          by false i false false h w k right rest = rest w k right

  -- it is the next that is owed: then it breaks no rule; a sure RET alone may be passed over
  pub record NextDue (p : Owing → Type 0) (pending_replies : List PendingReply) : Type 0 where
    pub wanted : is_wanted own c pending_replies ≡ true
    pub passes : s ≡ false → skipped own c pending_replies ≡ None
    pub one : Owing
    pub numbers : numbers_due own c pending_replies ≡ Some (reply_owed one)
    pub has : p one

  pub next_then_rule : (p : Owing → Type 0) (pending_replies : List PendingReply) (owing : List Owing) → AreDue s (filter own pending_replies) owing → NextOwed fits p owing → NextDue p pending_replies
  next_then_rule p [] [] a k = absurd k
  next_then_rule p [] (o ∷ os) a k = absurd a
  next_then_rule p (due ∷ pending_replies) owing a k = go (own due) refl owing a k (next_then_rule p pending_replies)
    where
      later : (own due && says_wanted due.wanted c) ≡ false → (s ≡ false → (own due && due.mandatory) ≡ false) → NextDue p pending_replies → NextDue p (due ∷ pending_replies)
      later e f n = record {
        wanted = ap (λ (y : Bool). y || is_wanted own c pending_replies) e ∙ n.wanted;
        passes = λ z. ap (λ (y : Bool). if y then None else if own due && due.mandatory then Some (reply_wanted due.wanted) else skipped own c pending_replies) e
            ∙ ap (λ (y : Bool). if y then Some (reply_wanted due.wanted) else skipped own c pending_replies) (f z) ∙ n.passes z;
        one = n.one;
        numbers = ap (λ (y : Bool). if y then Some due.wanted else numbers_due own c pending_replies) e ∙ n.numbers;
        has = n.has;
      }

      here : (o : Owing) → (own due && says_wanted due.wanted c) ≡ true → due.wanted ≡ reply_owed o → p o → NextDue p (due ∷ pending_replies)
      here o e i h = record {
        wanted = ap (λ (y : Bool). y || is_wanted own c pending_replies) e;
        passes = λ z. ap (λ (y : Bool). if y then None else if own due && due.mandatory then Some (reply_wanted due.wanted) else skipped own c pending_replies) e;
        one = o;
        numbers = ap (λ (y : Bool). if y then Some due.wanted else numbers_due own c pending_replies) e ∙ ap (λ (w : ExpectedReply). Some w) i;
        has = h;
      }

      go : (y : Bool) → own due ≡ y → (os : List Owing) → AreDue s (if y then due ∷ filter own pending_replies else filter own pending_replies) os → NextOwed fits p os
          → ((os : List Owing) → AreDue s (filter own pending_replies) os → NextOwed fits p os → NextDue p pending_replies) → NextDue p (due ∷ pending_replies)
      go false e os a k rest =
          later (ap (λ (y : Bool). y && says_wanted due.wanted c) e) (λ z. ap (λ (y : Bool). y && due.mandatory) e) (rest os a k)
      go true e [] a k rest = absurd a
      go true e (o ∷ os) a k rest = by (fits o) refl (is_echo o) refl k
        where
          answers_it : (own due && says_wanted due.wanted c) ≡ fits o
          answers_it = ap (λ (y : Bool). y && says_wanted due.wanted c) e ∙ says_it due o a.0

          unsure_ret : (o : Owing) → IsSureAs s due.mandatory o → is_echo o ≡ false → s ≡ false → due.mandatory ≡ false
          unsure_ret (Echoes byte) i e = absurd (cc e)
          unsure_ret (Returning u link messages bits) i e = i

          by : (y : Bool) → fits o ≡ y → (z : Bool) → is_echo o ≡ z → Chosen y z (p o) (NextOwed fits p os) → NextDue p (due ∷ pending_replies)
          by true i z j k = here o (answers_it ∙ i) a.0.0 k
          by false i true j k = absurd k
          by false i false j k = later (answers_it ∙ i) (λ z. ap (λ (y : Bool). y && due.mandatory) e ∙ unsure_ret o a.0.1 j z) (rest os a.1 k)

  -- ---- what is left after it

  struck_due : (pending_replies : List PendingReply) (owing : List Owing) → AreDue s (filter own pending_replies) owing → AreDue s (filter own (pending_struck own c pending_replies)) (owed_after fits owing)
  struck_due [] [] a = tt
  struck_due [] (o ∷ os) a = absurd a
  struck_due (due ∷ pending_replies) owing a = go (own due) refl owing a (struck_due pending_replies)
    where
      go : (y : Bool) → own due ≡ y → (os : List Owing) → AreDue s (if y then due ∷ filter own pending_replies else filter own pending_replies) os
          → ((os : List Owing) → AreDue s (filter own pending_replies) os → AreDue s (filter own (pending_struck own c pending_replies)) (owed_after fits os))
          → AreDue s (filter own (if y then if says_wanted due.wanted c then pending_replies else pending_struck own c pending_replies else due ∷ pending_struck own c pending_replies)) (owed_after fits os)
      go false e os a rest = subst (λ (y : Bool). AreDue s (if y then due ∷ filter own (pending_struck own c pending_replies) else filter own (pending_struck own c pending_replies)) (owed_after fits os)) (sym e) (rest os a)
      go true e [] a rest = absurd a
      go true e (o ∷ os) a rest = subst (λ (y : Bool). AreDue s (filter own (if y then pending_replies else pending_struck own c pending_replies)) (if fits o then os else owed_after fits os)) (sym (says_it due o a.0)) (by (fits o))
        where
          by : (y : Bool) → AreDue s (filter own (if y then pending_replies else pending_struck own c pending_replies)) (if y then os else owed_after fits os)
          by true = a.1
          by false = rest os a.1

  -- a RET may have been meant for a later one
  unsured_due : ((due : PendingReply) → own (record due { mandatory = false }) ≡ own due) → ((o : Owing) → fits o ≡ true → is_echo o ≡ false) → (pending_replies : List PendingReply) (owing : List Owing)
      → AreDue s (filter own pending_replies) owing → AreDue s (filter own (map (optional own c) pending_replies)) owing
  unsured_due looks is_ret [] owing a = a
  unsured_due looks is_ret (due ∷ pending_replies) owing a = go (own due) refl owing a (unsured_due looks is_ret pending_replies)
    where
      same_own : own (optional own c due) ≡ own due
      same_own = by (answers own c due)
        where
          by : (y : Bool) → own (if y then record due { mandatory = false } else due) ≡ own due
          by true = looks due
          by false = refl

      go : (y : Bool) → own due ≡ y → (os : List Owing) → AreDue s (if y then due ∷ filter own pending_replies else filter own pending_replies) os
          → ((os : List Owing) → AreDue s (filter own pending_replies) os → AreDue s (filter own (map (optional own c) pending_replies)) os)
          → AreDue s (if own (optional own c due) then optional own c due ∷ filter own (map (optional own c) pending_replies) else filter own (map (optional own c) pending_replies)) os
      go false e os a rest =
          subst (λ (y : Bool). AreDue s (if y then optional own c due ∷ filter own (map (optional own c) pending_replies) else filter own (map (optional own c) pending_replies)) os) (sym (same_own ∙ e)) (rest os a)
      go true e [] a rest = absurd a
      go true e (o ∷ os) a rest =
          subst (λ (y : Bool). AreDue s (if y then optional own c due ∷ filter own (map (optional own c) pending_replies) else filter own (map (optional own c) pending_replies)) (o ∷ os)) (sym (same_own ∙ e))
          (by (answers own c due) (ap (λ (y : Bool). y && says_wanted due.wanted c) e ∙ says_it due o a.0), rest os a.1)
        where
          unsure_as : (o : Owing) → is_echo o ≡ false → due.wanted ≡ reply_owed o → IsDue s (record due { mandatory = false }) o
          unsure_as (Echoes byte) k w = absurd (cc k)
          unsure_as (Returning u link messages bits) k w = (w, λ z. refl)

          by : (y : Bool) → y ≡ fits o → IsDue s (if y then record due { mandatory = false } else due) o
          by true k = unsure_as o (is_ret o (sym k)) a.0.0
          by false k = a.0

  all_sure : ((o : Owing) → fits o ≡ true → is_echo o ≡ true) → (pending_replies : List PendingReply) (owing : List Owing) → AreDue s (filter own pending_replies) owing → fits_sure own c pending_replies ≡ true
  all_sure is_erp [] owing a = refl
  all_sure is_erp (due ∷ pending_replies) owing a = go (own due) owing a (all_sure is_erp pending_replies)
    where
      go : (y : Bool) (os : List Owing) → AreDue s (if y then due ∷ filter own pending_replies else filter own pending_replies) os
          → ((os : List Owing) → AreDue s (filter own pending_replies) os → fits_sure own c pending_replies ≡ true)
          → (if y && says_wanted due.wanted c then due.mandatory else fits_sure own c pending_replies) ≡ true
      go false os a rest = rest os a
      go true [] a rest = absurd a
      go true (o ∷ os) a rest = by (says_wanted due.wanted c) (says_it due o a.0)
        where
          sure_erp : (o : Owing) → is_echo o ≡ true → IsSureAs s due.mandatory o → due.mandatory ≡ true
          sure_erp (Echoes byte) k i = i
          sure_erp (Returning u link messages bits) k i = absurd (cc k)

          by : (y : Bool) → y ≡ fits o → (if y then due.mandatory else fits_sure own c pending_replies) ≡ true
          by true k = sure_erp o (is_erp o (sym k)) a.0.1
          by false k = rest os a.1

  pub erp_left : ((o : Owing) → fits o ≡ true → is_echo o ≡ true) → (pending_replies : List PendingReply) (owing : List Owing) → AreDue s (filter own pending_replies) owing → AreDue s (filter own (pending_left own c pending_replies)) (owed_after fits owing)
  erp_left is_erp pending_replies owing a =
      subst (λ (y : Bool). AreDue s (filter own (if y then pending_struck own c pending_replies else pending_struck own c (map (optional own c) pending_replies))) (owed_after fits owing))
      (sym (all_sure is_erp pending_replies owing a)) (struck_due pending_replies owing a)

  pub ret_left : ((due : PendingReply) → own (record due { mandatory = false }) ≡ own due) → ((o : Owing) → fits o ≡ true → is_echo o ≡ false) → (pending_replies : List PendingReply) (owing : List Owing)
      → AreDue s (filter own pending_replies) owing → AreDue s (filter own (pending_left own c pending_replies)) (owed_after fits owing)
  ret_left looks is_ret pending_replies owing a = by (fits_sure own c pending_replies)
    where
      by : (y : Bool) → AreDue s (filter own (if y then pending_struck own c pending_replies else pending_struck own c (map (optional own c) pending_replies))) (owed_after fits owing)
      by true = struck_due pending_replies owing a
      by false = struck_due (map (optional own c) pending_replies) owing (unsured_due looks is_ret pending_replies owing a)

pub echo_fits : (byte : ℕ) (o : Owing) → is_echo_of byte o ≡ true → is_echo o ≡ true
echo_fits byte (Echoes other) e = refl
echo_fits byte (Returning u link messages bits) e = absurd (cc e)

pub ret_fits : (link : ℕ) (o : Owing) → is_returning_on link o ≡ true → is_echo o ≡ false
ret_fits link (Echoes byte) e = absurd (cc e)
ret_fits link (Returning u on messages bits) e = refl

-- ---- an ERR: nothing of this kind is owed

pub none_fits : (own : PendingReply → Bool) (s : Bool) (c : Command) → GivesAs c (λ o. false) → (pending_replies : List PendingReply) (owing : List Owing) → AreDue s (filter own pending_replies) owing → is_wanted own c pending_replies ≡ false
none_fits own s c gives [] owing a = refl
none_fits own s c gives (due ∷ pending_replies) owing a = go (own due) owing a (none_fits own s c gives pending_replies)
  where
    go : (y : Bool) (os : List Owing) → AreDue s (if y then due ∷ filter own pending_replies else filter own pending_replies) os
        → ((os : List Owing) → AreDue s (filter own pending_replies) os → is_wanted own c pending_replies ≡ false)
        → ((y && says_wanted due.wanted c) || is_wanted own c pending_replies) ≡ false
    go false os a rest = rest os a
    go true [] a rest = absurd a
    go true (o ∷ os) a rest = ap (λ (y : Bool). y || is_wanted own c pending_replies) (says_it own s c (λ o. false) gives due o a.0) ∙ rest os a.1

pub err_gives : (code : ℕ) (bytes : List ℕ) → GivesAs (Err code bytes) (λ o. false)
err_gives code bytes (Echoes byte) = refl
err_gives code bytes (Returning u link messages k) = refl

-- ---- one more is owed

more_due : (s : Bool) (pending_replies : List PendingReply) (owing : List Owing) (due : PendingReply) (o : Owing) → AreDue s pending_replies owing → IsDue s due o → AreDue s (pending_replies ++ due ∷ []) (owing ++ o ∷ [])
more_due s [] [] due o a i = (i, tt)
more_due s [] (p ∷ os) due o a i = absurd a
more_due s (d ∷ pending_replies) [] due o a i = absurd a
more_due s (d ∷ pending_replies) (p ∷ os) due o a i = (a.0, more_due s pending_replies os due o a.1 i)

pub owed_more : (own : PendingReply → Bool) (s : Bool) (pending_replies : List PendingReply) (owing : List Owing) (due : PendingReply) (o : Owing) → own due ≡ true → IsDue s due o → AreDue s (filter own pending_replies) owing
    → AreDue s (filter own (pending_replies ++ due ∷ [])) (owing ++ o ∷ [])
owed_more own s pending_replies owing due o k i a =
    subst (λ (ds : List PendingReply). AreDue s ds (owing ++ o ∷ [])) (sym (filter-append own pending_replies (due ∷ []) ∙ ap (λ (y : Bool). filter own pending_replies ++ (if y then due ∷ [] else [])) k))
    (more_due s (filter own pending_replies) owing due o a i)

-- ---- the CLS of a sender: no RET is due for its link

-- of these the RETs for the link are just those of the connection
abbrev pub LinkIsOf : Sockets → ℕ → List Owing → Type 0
LinkIsOf u link [] = Unit {0}
LinkIsOf u link (o ∷ owing) = (is_return_on link (reply_owed o) ≡ is_owed_of u o) × LinkIsOf u link owing

pub owed_without : (own : PendingReply → Bool) (s : Bool) (u : Sockets) (link : ℕ) (pending_replies : List PendingReply) (owing : List Owing) → LinkIsOf u link owing → AreDue s (filter own pending_replies) owing
    → AreDue s (filter own (filter (λ due. not (own due && is_return_on link due.wanted)) pending_replies)) (owing_without u owing)
owed_without own s u link [] [] l a = tt
owed_without own s u link [] (o ∷ os) l a = absurd a
owed_without own s u link (due ∷ pending_replies) owing l a = go (own due) refl owing l a (owed_without own s u link pending_replies)
  where
    less : List PendingReply
    less = filter (λ due. not (own due && is_return_on link due.wanted)) pending_replies

    kept : (y : Bool) → own due ≡ y → (os : List Owing) → AreDue s (if y then due ∷ filter own less else filter own less) os → AreDue s (filter own (due ∷ less)) os
    kept y e os a = subst (λ (z : Bool). AreDue s (if z then due ∷ filter own less else filter own less) os) (sym e) a

    go : (y : Bool) → own due ≡ y → (os : List Owing) → LinkIsOf u link os → AreDue s (if y then due ∷ filter own pending_replies else filter own pending_replies) os
        → ((os : List Owing) → LinkIsOf u link os → AreDue s (filter own pending_replies) os → AreDue s (filter own less) (owing_without u os))
        → AreDue s (filter own (if not (y && is_return_on link due.wanted) then due ∷ less else less)) (owing_without u os)
    go false e os l a rest = kept false e (owing_without u os) (rest os l a)
    go true e [] l a rest = absurd a
    go true e (o ∷ os) l a rest = by (is_return_on link due.wanted) (is_owed_of u o) (ap (is_return_on link) a.0.0 ∙ l.0)
      where
        by : (y z : Bool) → y ≡ z → AreDue s (filter own (if not y then due ∷ less else less)) (if not z then o ∷ owing_without u os else owing_without u os)
        by true true k = rest os l.1 a.1
        by true false k = absurd (cc k)
        by false true k = absurd (cc k)
        by false false k = kept true e (o ∷ owing_without u os) (a.0, rest os l.1 a.1)

-- ---- no sure reply is left out: then no ERP is owed

pub none_echoes : (own : PendingReply → Bool) (pending_replies : List PendingReply) (owing : List Owing) (s : Bool) → AreDue s (filter own pending_replies) owing → first (λ due. own due && due.mandatory) pending_replies ≡ None → has_echo owing ≡ false
none_echoes own [] [] s a e = refl
none_echoes own [] (o ∷ os) s a e = absurd a
none_echoes own (due ∷ pending_replies) owing s a e = go (own due) owing a e (none_echoes own pending_replies)
  where
    go : (y : Bool) (os : List Owing) → AreDue s (if y then due ∷ filter own pending_replies else filter own pending_replies) os → (if y && due.mandatory then Some due else first (λ due. own due && due.mandatory) pending_replies) ≡ None
        → ((os : List Owing) (s : Bool) → AreDue s (filter own pending_replies) os → first (λ due. own due && due.mandatory) pending_replies ≡ None → has_echo os ≡ false) → has_echo os ≡ false
    go false os a e rest = rest os s a e
    go true [] a e rest = absurd a
    go true (o ∷ os) a e rest = by o a.0.1 due.mandatory refl e
      where
        by : (o : Owing) → IsSureAs s due.mandatory o → (z : Bool) → due.mandatory ≡ z → (if z then Some due else first (λ due. own due && due.mandatory) pending_replies) ≡ None → (is_echo o || has_echo os) ≡ false
        by (Echoes byte) i true k e = absurd (cc e)
        by (Echoes byte) i false k e = let nay : true ≡ false = sym i ∙ k in absurd (cc nay)
        by (Returning u on messages bits) i true k e = absurd (cc e)
        by (Returning u on messages bits) i false k e = rest os s a.1 e

-- ---- what is owed is owed rightly, by what was said

-- a RET: it was asked for and has not come; the connection has both numbers, and its sender has not left; and of one connection
-- there is one
pub record IsRetOwed (s : Bool) (shapes : Sockets → Option Shape) (users : Bool → ℕ → Option Sockets) (counts : Sockets → Count) (u : Sockets) (link : ℕ) (later : List Owing) : Type 0 where
  pub recalled : (counts u).recall ≡ true
  pub user : users (not s) link ≡ Some u
  pub sends : receives_by (not s) u ≡ true
  pub both : has_both (shapes u) ≡ true
  pub stays : left_by s (shapes u) ≡ false
  pub once : list_any (is_owed_of u) later ≡ false

-- and there is one ERP
abbrev pub IsOwedRightly : Bool → (Sockets → Option Shape) → (Bool → ℕ → Option Sockets) → (Sockets → Count) → Owing → List Owing → Type 0
IsOwedRightly s shapes users counts (Echoes byte) later = has_echo later ≡ false
IsOwedRightly s shapes users counts (Returning u link messages bits) later = IsRetOwed s shapes users counts u link later

abbrev pub OwesRightly : Bool → (Sockets → Option Shape) → (Bool → ℕ → Option Sockets) → (Sockets → Count) → List Owing → Type 0
OwesRightly s shapes users counts [] = Unit {0}
OwesRightly s shapes users counts (o ∷ owing) = IsOwedRightly s shapes users counts o owing × OwesRightly s shapes users counts owing
