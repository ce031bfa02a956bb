-- Lists in which only the items that pass a test count: the first of a kind, whether any exists, and that
-- at most one of a kind exists.
use Rattle.std.proofs.Common.{◌≡◌, Bool, true, false, not, ◌||◌, if◌then◌else◌, List, [], ◌∷◌, ◌++◌, map, Option, None, Some, refl, sym, ap, ◌∙◌}
use Rattle.std.specs.List.{filter, list_any}
use Rattle.std.proofs.lemmas.Bool.{and_parts}
use Rattle.ncp_wire.specs.declared.command.Command.{Command}
use Rattle.ncp_monitor.specs.declared.pending_reply.PendingReply.{PendingReply}
use Rattle.ncp_monitor.specs.Replies.{says_wanted, answers, optional, fits_sure, pending_struck, pending_left}
use Rattle.ncp_monitor.proofs.Firsts.{first, set_first, drop_first, Unique, Apart}

-- what passes the one passes the other
abbrev pub Within : {A : Type 0} → (A → Bool) → (A → Bool) → Type 0
Within {A} s t = (x : A) → s x ≡ true → t x ≡ true

pub unpassed : {A : Type 0} (s t : A → Bool) → Within s t → (x : A) → t x ≡ false → s x ≡ false
unpassed s t w x e = go (s x) refl
  where
    go : (b : Bool) → s x ≡ b → s x ≡ false
    go true k = let nay : true ≡ false = sym (w x k) ∙ e in absurd (cc nay)
    go false k = k

-- ---- what is looked at alone

pub first_within : {A : Type 0} (s t : A → Bool) → Within s t → (xs : List A) → first s (filter t xs) ≡ first s xs
first_within s t w [] = refl
first_within s t w (x ∷ xs) = go (t x) refl (first_within s t w xs)
  where
    go : (b : Bool) → t x ≡ b → first s (filter t xs) ≡ first s xs → first s (if b then x ∷ filter t xs else filter t xs) ≡ (if s x then Some x else first s xs)
    go true e rest = ap (λ (o : Option _). if s x then Some x else o) rest
    go false e rest = rest ∙ sym (ap (λ (b : Bool). if b then Some x else first s xs) (unpassed s t w x e))

pub any_within : {A : Type 0} (s t : A → Bool) → Within s t → (xs : List A) → list_any s (filter t xs) ≡ list_any s xs
any_within s t w [] = refl
any_within s t w (x ∷ xs) = go (t x) refl (any_within s t w xs)
  where
    go : (b : Bool) → t x ≡ b → list_any s (filter t xs) ≡ list_any s xs → list_any s (if b then x ∷ filter t xs else filter t xs) ≡ (s x || list_any s xs)
    go true e rest = ap (λ (b : Bool). s x || b) rest
    go false e rest = rest ∙ sym (ap (λ (b : Bool). b || list_any s xs) (unpassed s t w x e))

pub unique_within : {A : Type 0} (s t : A → Bool) → Within s t → (xs : List A) → Unique s (filter t xs) → Unique s xs
unique_within s t w [] u = tt
unique_within s t w (x ∷ xs) u = go (t x) refl u (unique_within s t w xs)
  where
    go : (b : Bool) → t x ≡ b → Unique s (if b then x ∷ filter t xs else filter t xs) → (Unique s (filter t xs) → Unique s xs) → (s x ≡ true → first s xs ≡ None) × Unique s xs
    go true e (h, u) rest = ((λ k. sym (first_within s t w xs) ∙ h k), rest u)
    go false e u rest = ((λ k. let nay : true ≡ false = sym (w x k) ∙ e in absurd (cc nay)), rest u)

-- ---- what is changed of what is not looked at

pub filter_after : {A : Type 0} (p : A → Bool) (xs : List A) (y : A) → p y ≡ false → filter p (xs ++ y ∷ []) ≡ filter p xs
filter_after p [] y k = ap (λ (b : Bool). if b then y ∷ [] else []) k
filter_after p (x ∷ xs) y k = ap (λ (zs : List _). if p x then x ∷ zs else zs) (filter_after p xs y k)

pub filter_set : {A : Type 0} (p t : A → Bool) (xs : List A) (y : A) → Apart t p → p y ≡ false → filter p (set_first t y xs) ≡ filter p xs
filter_set p t [] y a k = refl
filter_set p t (x ∷ xs) y a k = go (t x) refl (filter_set p t xs y a k)
  where
    go : (b : Bool) → t x ≡ b → filter p (set_first t y xs) ≡ filter p xs → filter p (if b then y ∷ xs else x ∷ set_first t y xs) ≡ (if p x then x ∷ filter p xs else filter p xs)
    go true e rest = ap (λ (b : Bool). if b then y ∷ filter p xs else filter p xs) k ∙ sym (ap (λ (b : Bool). if b then x ∷ filter p xs else filter p xs) (a x e))
    go false e rest = ap (λ (zs : List _). if p x then x ∷ zs else zs) rest

pub filter_drop : {A : Type 0} (p t : A → Bool) (xs : List A) → Apart t p → filter p (drop_first t xs) ≡ filter p xs
filter_drop p t [] a = refl
filter_drop p t (x ∷ xs) a = go (t x) refl (filter_drop p t xs a)
  where
    go : (b : Bool) → t x ≡ b → filter p (drop_first t xs) ≡ filter p xs → filter p (if b then xs else x ∷ drop_first t xs) ≡ (if p x then x ∷ filter p xs else filter p xs)
    go true e rest = sym (ap (λ (b : Bool). if b then x ∷ filter p xs else filter p xs) (a x e))
    go false e rest = ap (λ (zs : List _). if p x then x ∷ zs else zs) rest

pub filter_others : {A : Type 0} (p t : A → Bool) (xs : List A) → Apart t p → filter p (filter (λ x. not (t x)) xs) ≡ filter p xs
filter_others p t [] a = refl
filter_others p t (x ∷ xs) a = go (t x) refl (filter_others p t xs a)
  where
    go : (b : Bool) → t x ≡ b → filter p (filter (λ x. not (t x)) xs) ≡ filter p xs
        → filter p (if not b then x ∷ filter (λ x. not (t x)) xs else filter (λ x. not (t x)) xs) ≡ (if p x then x ∷ filter p xs else filter p xs)
    go true e rest = rest ∙ sym (ap (λ (b : Bool). if b then x ∷ filter p xs else filter p xs) (a x e))
    go false e rest = ap (λ (zs : List _). if p x then x ∷ zs else zs) rest

-- none of what is looked at is left
pub filter_none : {A : Type 0} (p : A → Bool) (xs : List A) → filter p (filter (λ x. not (p x)) xs) ≡ []
filter_none p [] = refl
filter_none p (x ∷ xs) = go (p x) refl (filter_none p xs)
  where
    go : (b : Bool) → p x ≡ b → filter p (filter (λ x. not (p x)) xs) ≡ [] → filter p (if not b then x ∷ filter (λ x. not (p x)) xs else filter (λ x. not (p x)) xs) ≡ []
    go true e rest = rest
    go false e rest = ap (λ (b : Bool). if b then x ∷ filter p (filter (λ x. not (p x)) xs) else filter p (filter (λ x. not (p x)) xs)) e ∙ rest

-- where none passes the wider test, none passes the other
pub none_inside : {A : Type 0} (s t : A → Bool) → Within s t → (xs : List A) → filter t xs ≡ [] → filter s xs ≡ []
none_inside s t w [] e = refl
none_inside s t w (x ∷ xs) e = go (t x) refl e (none_inside s t w xs)
  where
    go : (b : Bool) → t x ≡ b → (if b then x ∷ filter t xs else filter t xs) ≡ [] → (filter t xs ≡ [] → filter s xs ≡ []) → (if s x then x ∷ filter s xs else filter s xs) ≡ []
    go true k e rest = absurd (cc e)
    go false k e rest = ap (λ (b : Bool). if b then x ∷ filter s xs else filter s xs) (unpassed s t w x k) ∙ rest e

-- nor of a part of it, where there was none
pub none_of_none : {A : Type 0} (p t : A → Bool) (xs : List A) → filter p xs ≡ [] → filter p (filter t xs) ≡ []
none_of_none p t [] e = refl
none_of_none p t (x ∷ xs) e = go (p x) (t x) refl e (none_of_none p t xs)
  where
    go : (b d : Bool) → p x ≡ b → (if b then x ∷ filter p xs else filter p xs) ≡ [] → (filter p xs ≡ [] → filter p (filter t xs) ≡ []) → filter p (if d then x ∷ filter t xs else filter t xs) ≡ []
    go true d k e rest = absurd (cc e)
    go false true k e rest = ap (λ (b : Bool). if b then x ∷ filter p (filter t xs) else filter p (filter t xs)) k ∙ rest e
    go false false k e rest = rest e

pub filter_struck : (p own : PendingReply → Bool) (c : Command) (pending_replies : List PendingReply) → Apart own p → filter p (pending_struck own c pending_replies) ≡ filter p pending_replies
filter_struck p own c [] a = refl
filter_struck p own c (due ∷ pending_replies) a = go (own due) refl (says_wanted due.wanted c) (filter_struck p own c pending_replies a)
  where
    go : (b : Bool) → own due ≡ b → (f : Bool) → filter p (pending_struck own c pending_replies) ≡ filter p pending_replies
        → filter p (if b then if f then pending_replies else pending_struck own c pending_replies else due ∷ pending_struck own c pending_replies) ≡ (if p due then due ∷ filter p pending_replies else filter p pending_replies)
    go true e true rest = sym (ap (λ (b : Bool). if b then due ∷ filter p pending_replies else filter p pending_replies) (a due e))
    go true e false rest = rest ∙ sym (ap (λ (b : Bool). if b then due ∷ filter p pending_replies else filter p pending_replies) (a due e))
    go false e f rest = ap (λ (zs : List PendingReply). if p due then due ∷ zs else zs) rest

-- the test does not ask whether a reply is sure
pub filter_unsure : (p own : PendingReply → Bool) (c : Command) (pending_replies : List PendingReply) → Apart own p → ((due : PendingReply) → p (record due { mandatory = false }) ≡ p due) → filter p (map (optional own c) pending_replies) ≡ filter p pending_replies
filter_unsure p own c [] a s = refl
filter_unsure p own c (due ∷ pending_replies) a s = go (answers own c due) refl (filter_unsure p own c pending_replies a s)
  where
    go : (b : Bool) → answers own c due ≡ b → filter p (map (optional own c) pending_replies) ≡ filter p pending_replies
        → filter p ((if b then record due { mandatory = false } else due) ∷ map (optional own c) pending_replies) ≡ (if p due then due ∷ filter p pending_replies else filter p pending_replies)
    go true e rest =
        let none : p due ≡ false = a due (and_parts (own due) (says_wanted due.wanted c) e).0 in
        ap (λ (b : Bool). if b then record due { mandatory = false } ∷ filter p (map (optional own c) pending_replies) else filter p (map (optional own c) pending_replies)) (s due ∙ none)
        ∙ rest ∙ sym (ap (λ (b : Bool). if b then due ∷ filter p pending_replies else filter p pending_replies) none)
    go false e rest = ap (λ (zs : List PendingReply). if p due then due ∷ zs else zs) rest

pub filter_left : (p own : PendingReply → Bool) (c : Command) (pending_replies : List PendingReply) → Apart own p → ((due : PendingReply) → p (record due { mandatory = false }) ≡ p due) → filter p (pending_left own c pending_replies) ≡ filter p pending_replies
filter_left p own c pending_replies a s = go (fits_sure own c pending_replies)
  where
    go : (b : Bool) → filter p (if b then pending_struck own c pending_replies else pending_struck own c (map (optional own c) pending_replies)) ≡ filter p pending_replies
    go true = filter_struck p own c pending_replies a
    go false = filter_struck p own c (map (optional own c) pending_replies) a ∙ filter_unsure p own c pending_replies a s
