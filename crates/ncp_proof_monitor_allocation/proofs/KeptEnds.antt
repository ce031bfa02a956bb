-- What a host keeps of a connection, as a shape: what a call makes of it, and what a request or a CLS that comes.
use Rattle.std.proofs.Common.{◌≡◌, ℕ, Bool, true, false, not, ◌&&◌, ◌||◌, if◌then◌else◌, Option, None, Some, is_some, refl, ap, ◌∙◌}
use Rattle.std.proofs.lemmas.Bool.{and_parts}
use Rattle.ncp_model.specs.declared.call_fault.CallFault.TheVariants.{AlreadyAsked, Closing}
use Rattle.ncp_model.specs.Endpoint.{Endpoint, or_new, is_ended}
use Rattle.ncp_model.specs.Effect.{Becomes, end_after, leaves}
use Rattle.ncp_model.specs.Commands.{heard_link, heard_size}
use Rattle.ncp_model.specs.Calls.{refuse, ◌>>◌, asked_to_send, asked_to_receive, end_to_ask}
use Rattle.ncp_monitor.proofs.Shapes.{Shape, Ask, Leave, legal, own_step, their_legal, their_step}
use Rattle.ncp_proof_monitor_allocation.proofs.Reasons.{Passes}

-- a receiver asks with its link, a sender with its size
abbrev pub number_if : Bool → ℕ → Option ℕ
number_if b n = if b then Some n else None

abbrev pub of_end : Bool → Endpoint → Shape
of_end sending e = record {
  own = number_if e.asked (if sending then e.size else e.link);
  others = number_if e.heard (if sending then e.link else e.size);
  left = e.left;
  cls = e.cls;
}

abbrev pub kept : Bool → Option Endpoint → Option Shape
kept sending None = None
kept sending (Some e) = Some (of_end sending e)

-- ---- the request of the other, which is taken

pub hears_link : (on : ℕ) (before : Option Endpoint) → kept true (Some (heard_link on (or_new before))) ≡ their_step (Ask on) (kept true before)
hears_link on None = refl
hears_link on (Some e) = refl

pub hears_size : (n : ℕ) (before : Option Endpoint) → kept false (Some (heard_size n (or_new before))) ≡ their_step (Ask n) (kept false before)
hears_size n None = refl
hears_size n (Some e) = refl

-- it has not asked before
pub not_heard : (sending : Bool) (n : ℕ) (before : Option Endpoint) → their_legal (Ask n) (kept sending before) ≡ true → (or_new before).heard ≡ false
not_heard sending n None t = refl
not_heard sending n (Some e) t = go e.heard (if sending then e.link else e.size) (and_parts (not (is_some (of_end sending e).others)) (not e.cls) t).0
  where
    go : (b : Bool) (k : ℕ) → not (is_some (number_if b k)) ≡ true → b ≡ false
    go true k t = absurd (cc t)
    go false k t = refl

-- ---- the own request, which is made

pub asks_size : (n room : ℕ) (before : Option Endpoint) → kept true (Some (asked_to_send n room (or_new before))) ≡ own_step (Ask n) (kept true before)
asks_size n room None = refl
asks_size n room (Some e) = refl

pub asks_link : (on room : ℕ) (before : Option Endpoint) → kept false (Some (asked_to_receive on room (or_new before))) ≡ own_step (Ask on) (kept false before)
asks_link on room None = refl
asks_link on room (Some e) = refl

-- where an end may ask, it has not asked, nor left
pub may_ask : (sending : Bool) (n : ℕ) (before : Option Endpoint) → Passes (end_to_ask (or_new before)) → legal (Ask n) (kept sending before) ≡ true
may_ask sending n None e = refl
may_ask sending n (Some x) e = go x.asked x.leaving x.left (if sending then x.size else x.link) e
  where
    go : (a g l : Bool) (k : ℕ) → Passes (refuse AlreadyAsked (a && not (g || l)) >> refuse Closing (g || l)) → (not (is_some (number_if a k)) && not l) ≡ true
    go true true l k e = absurd (cc e)
    go true false true k e = absurd (cc e)
    go true false false k e = absurd (cc e)
    go false true l k e = absurd (cc e)
    go false false true k e = absurd (cc e)
    go false false false k e = refl

-- ---- the CLS of the other

-- ---- the CLS of the host: by a call, after its last text, or with the last of its held text

pub leaves_is : {A : Type 0} (sending : Bool) (e : Endpoint) (a : A) → kept sending (end_after (Some e) (Becomes (leaves e) a)) ≡ own_step Leave (Some (of_end sending e))
leaves_is sending e a = go e.cls
  where
    go : (b : Bool) → kept sending (if true && b then None else Some (leaves e)) ≡ (if b then None else Some (record (of_end sending e) { left = true }))
    go true = refl
    go false = refl

-- where it is not left it may leave
pub may_leave : (sending : Bool) (e : Endpoint) → e.left ≡ false → legal Leave (Some (of_end sending e)) ≡ true
may_leave sending e l = ap not l

-- ---- all else leaves the shape as it is: where an end is not over, what moves its texts, its counters and its marks does

pub still : {A : Type 0} (sending : Bool) (e now : Endpoint) (a : A) → is_ended e ≡ false → of_end sending now ≡ of_end sending e → kept sending (end_after (Some e) (Becomes now a)) ≡ Some (of_end sending e)
still sending e now a o s = go (is_ended now) (ap (λ (x : Shape). x.left && x.cls) s ∙ o)
  where
    go : (b : Bool) → b ≡ false → kept sending (if b then None else Some now) ≡ Some (of_end sending e)
    go true k = absurd (cc k)
    go false k = ap (λ (x : Shape). Some x) s
