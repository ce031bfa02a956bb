-- The replies that a host owes, and its queue of replies and of senders' CLSs. After the CLS of a sender
-- no RET is given for its link. Each mandatory pending reply is queued, in order; each queued reply is
-- pending, a RET with its numbers.
use Rattle.std.specs.Prelude.{◌≡◌, ℕ, ◌==◌, Bool, true, false, not, ◌&&◌, ◌||◌, List, [], ◌∷◌, ◌⊎◌}
use Rattle.ncp_wire.specs.declared.command.Command.{Command}
use Rattle.ncp_wire.specs.declared.command.Command.TheVariants.{Ret}
use Rattle.ncp_monitor.specs.declared.pending_reply.PendingReply.{PendingReply}
use Rattle.ncp_monitor.specs.declared.pending_reply.ExpectedReply.{ExpectedReply}
use Rattle.ncp_monitor.specs.declared.pending_reply.ExpectedReply.TheVariants.{Echo, Error, Return}
use Rattle.ncp_monitor.specs.ConnStates.{is_return_on}
use Rattle.ncp_monitor.specs.Replies.{answers}

-- a queued item: a reply, or a sender's CLS with its link
pub data Item : Type 0 where
  Gives : (c : Command) → Item
  EndsOn : (link : ℕ) → Item

-- ---- links

abbrev pub nothing_ended : ℕ → Bool
nothing_ended link = false

abbrev pub ended_too : ℕ → (ℕ → Bool) → ℕ → Bool
ended_too link ended l = l == link || ended l

-- after all queued items
abbrev pub ended_by : List Item → (ℕ → Bool) → ℕ → Bool
ended_by [] ended = ended
ended_by (Gives c ∷ items) ended = ended_by items ended
ended_by (EndsOn link ∷ items) ended = ended_by items (ended_too link ended)

-- true for its link, if it is a RET

abbrev pub if_return : (ℕ → Bool) → ExpectedReply → Bool
if_return p (Return link messages bits) = p link
if_return p (Echo byte) = true
if_return p (Error code or bytes) = true

abbrev pub is_return_where : (ℕ → Bool) → ExpectedReply → Bool
is_return_where p (Return link messages bits) = p link
is_return_where p (Echo byte) = false
is_return_where p (Error code or bytes) = false

-- a RET has the expected numbers
abbrev pub is_exact : ExpectedReply → Command → Bool
is_exact (Return link messages bits) (Ret on m b) = m == messages && b == bits
is_exact wanted c = true

-- no RET for this link is queued

abbrev pub is_ret_on : ℕ → Command → Bool
is_ret_on link (Ret on m b) = on == link
is_ret_on link c = false

abbrev pub none_on : List Item → ℕ → Bool
none_on [] link = true
none_on (Gives c ∷ items) link = not (is_ret_on link c) && none_on items link
none_on (EndsOn l ∷ items) link = none_on items link

abbrev pub IsReturnOf : (PendingReply → Bool) → ℕ → PendingReply → Bool
IsReturnOf own link due = own due && is_return_on link due.wanted

-- ---- gone: the host has no open sender on the link; ended: its CLS was sent before

-- a pending reply that may be missing from the queue
pub record MayLack (own : PendingReply → Bool) (gone ended : ℕ → Bool) (items : List Item) (due : PendingReply) : Type 0 where
  pub lacks : (own due && due.mandatory && not (is_return_where ended due.wanted)) ≡ false
  pub closed : (not (own due) || if_return gone due.wanted) ≡ true
  pub none : (not (own due) || if_return (none_on items) due.wanted) ≡ true

-- a pending reply that the queued one gives
pub record IsGiven (own : PendingReply → Bool) (ended : ℕ → Bool) (c : Command) (due : PendingReply) : Type 0 where
  pub answers : answers own c due ≡ true
  pub exact : is_exact due.wanted c ≡ true
  pub open_still : is_return_where ended due.wanted ≡ false

-- a list, split at the first element that is taken; all before it are skipped
abbrev pub Splits : (PendingReply → Type 0) → (PendingReply → Type 0) → (List PendingReply → Type 0) → List PendingReply → Type 0
Splits skip take rest [] = ⊥
Splits skip take rest (due ∷ pending_replies) = (skip due × Splits skip take rest pending_replies) ⊎ (take due × rest pending_replies)

abbrev pub All_of : (PendingReply → Type 0) → List PendingReply → Type 0
All_of p [] = Unit {0}
All_of p (due ∷ pending_replies) = p due × All_of p pending_replies

abbrev pub Owed : (PendingReply → Bool) → (ℕ → Bool) → (ℕ → Bool) → List Item → List PendingReply → Type 0
Owed own gone ended [] pending_replies = All_of (MayLack own gone ended []) pending_replies
Owed own gone ended (EndsOn link ∷ items) pending_replies = Owed own gone (ended_too link ended) items pending_replies
Owed own gone ended (Gives c ∷ items) pending_replies = Splits (MayLack own gone ended (Gives c ∷ items)) (IsGiven own ended c) (Owed own gone ended items) pending_replies
