-- The first reply of a side that is due, and what is left behind it.
use Rattle.std.proofs.Common.{◌≡◌, ◌<◌, ℕ, zero, suc, Bool, true, false, List, [], ◌∷◌, length, get_or, Some, None, if◌then◌else◌, refl, sym, ap, ◌∙◌, arith}
use Rattle.std.specs.List.{position, remove}
use Rattle.std.proofs.lemmas.List.Quantifiers.{position-Some}
use Rattle.ncp_wire.specs.declared.command.Command.{Command}
use Rattle.ncp_monitor.specs.declared.pending_reply.PendingReply.{PendingReply}
use Rattle.ncp_monitor.specs.Replies.{says_wanted, no_due, due_at, pending_struck}
use Rattle.ncp_monitor.proofs.Firsts.{first, none_first}

-- behind the first of its own, which the reply fits or does not
abbrev pub behind : (PendingReply → Bool) → Command → List PendingReply → ℕ → List PendingReply
behind own c pending_replies i = if says_wanted (due_at pending_replies i).wanted c then remove pending_replies i else pending_struck own c (remove pending_replies i)

-- those before it are of others, and stay
pub struck_at : (own : PendingReply → Bool) (c : Command) (pending_replies : List PendingReply) (i : ℕ) → i < length pending_replies → own (due_at pending_replies i) ≡ true → ((k : ℕ) → k < i → own (due_at pending_replies k) ≡ false)
    → pending_struck own c pending_replies ≡ behind own c pending_replies i
struck_at own c [] i inside is before = absurd (omega arith)
struck_at own c (due ∷ pending_replies) zero inside is before = rw is refl
struck_at own c (due ∷ pending_replies) (suc i) inside is before =
    let first = before 0 (omega arith) in
    let rest = struck_at own c pending_replies i (omega arith) is (λ k less. before (suc k) (omega arith)) in
    ap (λ (b : Bool). if b then (if says_wanted due.wanted c then pending_replies else pending_struck own c pending_replies) else due ∷ pending_struck own c pending_replies) first
    ∙ ap (λ (xs : List PendingReply). due ∷ xs) rest
    ∙ go (says_wanted (due_at pending_replies i).wanted c)
  where
    go : (b : Bool) → due ∷ (if b then remove pending_replies i else pending_struck own c (remove pending_replies i)) ≡ (if b then remove (due ∷ pending_replies) (suc i) else pending_struck own c (remove (due ∷ pending_replies) (suc i)))
    go true = refl
    go false = rw (before 0 (omega arith)) refl

pub struck_first : (own : PendingReply → Bool) (c : Command) (pending_replies : List PendingReply) (i : ℕ) → position own pending_replies ≡ Some i → pending_struck own c pending_replies ≡ behind own c pending_replies i
struck_first own c pending_replies i e = let found = position-Some own pending_replies i no_due e in struck_at own c pending_replies i found.0 found.1 found.2

-- there is none of its own

no_own : (own : PendingReply → Bool) (c : Command) (pending_replies : List PendingReply) → first own pending_replies ≡ None → pending_struck own c pending_replies ≡ pending_replies
no_own own c [] e = refl
no_own own c (due ∷ pending_replies) e = go (own due) refl e (no_own own c pending_replies)
  where
    go : (b : Bool) → own due ≡ b → (if b then Some due else first own pending_replies) ≡ None → (first own pending_replies ≡ None → pending_struck own c pending_replies ≡ pending_replies) → pending_struck own c (due ∷ pending_replies) ≡ due ∷ pending_replies
    go true is none rest = absurd (cc none)
    go false is none rest = let same = rest none in rw (is, same) refl

pub none_struck : (own : PendingReply → Bool) (c : Command) (pending_replies : List PendingReply) → position own pending_replies ≡ None → pending_struck own c pending_replies ≡ pending_replies
none_struck own c pending_replies e = no_own own c pending_replies (none_first own pending_replies e)

-- the first of its own is taken from the list: the reply fits it, and that is all; or it does not, and the next is tried

pub same_at : (pending_replies : List PendingReply) (i : ℕ) (a b : PendingReply) → i < length pending_replies → get_or pending_replies i a ≡ get_or pending_replies i b
same_at [] i a b inside = absurd (omega arith)
same_at (due ∷ pending_replies) zero a b inside = refl
same_at (due ∷ pending_replies) (suc i) a b inside = same_at pending_replies i a b (omega arith)

first_at : (own : PendingReply → Bool) (pending_replies : List PendingReply) (i : ℕ) (due : PendingReply) → position own pending_replies ≡ Some i → due ≡ get_or pending_replies i due → due ≡ due_at pending_replies i
first_at own pending_replies i due e d = d ∙ same_at pending_replies i due no_due (position-Some own pending_replies i no_due e).0

pub struck_fits : (own : PendingReply → Bool) (c : Command) (pending_replies : List PendingReply) (i : ℕ) (due : PendingReply) → position own pending_replies ≡ Some i → due ≡ get_or pending_replies i due → says_wanted due.wanted c ≡ true → pending_struck own c pending_replies ≡ remove pending_replies i
struck_fits own c pending_replies i due e d f =
    let same : says_wanted (due_at pending_replies i).wanted c ≡ true = ap (λ (x : PendingReply). says_wanted x.wanted c) (sym (first_at own pending_replies i due e d)) ∙ f in
    struck_first own c pending_replies i e ∙ ap (λ (b : Bool). if b then remove pending_replies i else pending_struck own c (remove pending_replies i)) same

pub struck_on : (own : PendingReply → Bool) (c : Command) (pending_replies : List PendingReply) (i : ℕ) (due : PendingReply) → position own pending_replies ≡ Some i → due ≡ get_or pending_replies i due → says_wanted due.wanted c ≡ false → pending_struck own c pending_replies ≡ pending_struck own c (remove pending_replies i)
struck_on own c pending_replies i due e d f =
    let same : says_wanted (due_at pending_replies i).wanted c ≡ false = ap (λ (x : PendingReply). says_wanted x.wanted c) (sym (first_at own pending_replies i due e d)) ∙ f in
    struck_first own c pending_replies i e ∙ ap (λ (b : Bool). if b then remove pending_replies i else pending_struck own c (remove pending_replies i)) same
