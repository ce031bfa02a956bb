use Rattle.std.proofs.Common.{◌≡◌, List, Bool, None, Some, sym, ap, ◌∙◌, []}
use Rattle.ncp_model.specs.Endpoint.{Endpoint, is_open}
use Rattle.ncp_model.specs.Texts.{can_send}
use Rattle.ncp_model.specs.Rows.{outward, ones, asked_send, asked_receive, opened_end, counting, gone}
use Rattle.ncp_proof_progress.specs.Finished.{PairFinished, Nobody, Sender_asked, Receiver_asked, Both_open, Receiver_holds}
use Rattle.ncp_proof_progress.proofs.pairs.pairs_that_are_not.Goals as goal

half : (given got : List Bool) → PairFinished outward (Some opened_end) None given got → ⊥
half given got (Nobody p q) = cc p
half given got (Sender_asked e f p q a h n) = cc q
half given got (Receiver_asked e f p q h a n) = cc q
half given got (Both_open e f p q o) = cc q
half given got (Receiver_holds e f p q l h) = cc q

crossed : (given got : List Bool) → PairFinished outward (Some asked_send) (Some asked_receive) given got → ⊥
crossed given got (Nobody p q) = cc p
crossed given got (Sender_asked e f p q a h n) = let x : asked_receive ≡ f = cc q in cc (ap (λ (e : Endpoint). e.heard) x ∙ h.heard)
crossed given got (Receiver_asked e f p q h a n) = let x : asked_send ≡ e = cc p in cc (ap (λ (e : Endpoint). e.asked) x ∙ h.asked)
crossed given got (Both_open e f p q o) = let x : asked_send ≡ e = cc p in cc (ap (λ (e : Endpoint). is_open e) x ∙ o.sender)
crossed given got (Receiver_holds e f p q l h) = let x : asked_send ≡ e = cc p in cc (ap (λ (e : Endpoint). e.left) x ∙ l.0)

abbrev full : Endpoint
full = record (counting 1 8) { stored = ones 8 }

sendable : (given got : List Bool) → PairFinished outward (Some full) (Some (counting 1 8)) given got → ⊥
sendable given got (Nobody p q) = cc p
sendable given got (Sender_asked e f p q a h n) = let x : full ≡ e = cc p in cc (ap (λ (e : Endpoint). e.heard) x ∙ a.heard)
sendable given got (Receiver_asked e f p q h a n) = let x : full ≡ e = cc p in cc (ap (λ (e : Endpoint). e.asked) x ∙ h.asked)
sendable given got (Both_open e f p q o) = let x : full ≡ e = cc p in cc (ap (can_send outward) x ∙ o.waits)
sendable given got (Receiver_holds e f p q l h) = let x : full ≡ e = cc p in cc (ap (λ (e : Endpoint). e.left) x ∙ l.0)

unheard : (given got : List Bool) → PairFinished outward (Some (gone opened_end)) (Some opened_end) given got → ⊥
unheard given got (Nobody p q) = cc p
unheard given got (Sender_asked e f p q a h n) = let x : gone opened_end ≡ e = cc p in cc (ap (λ (e : Endpoint). e.heard) x ∙ a.heard)
unheard given got (Receiver_asked e f p q h a n) = let x : gone opened_end ≡ e = cc p in cc (ap (λ (e : Endpoint). e.asked) x ∙ h.asked)
unheard given got (Both_open e f p q o) = let x : gone opened_end ≡ e = cc p in cc (ap (λ (e : Endpoint). is_open e) x ∙ o.sender)
unheard given got (Receiver_holds e f p q l h) = let x : opened_end ≡ f = cc q in cc (ap (λ (e : Endpoint). e.leaving) x ∙ h.0)

lost : PairFinished outward (Some opened_end) (Some opened_end) (ones 8) [] → ⊥
lost (Nobody p q) = cc p
lost (Sender_asked e f p q a h n) = let x : opened_end ≡ e = cc p in cc (ap (λ (e : Endpoint). e.heard) x ∙ a.heard)
lost (Receiver_asked e f p q h a n) = let x : opened_end ≡ e = cc p in cc (ap (λ (e : Endpoint). e.asked) x ∙ h.asked)
lost (Both_open e f p q o) = let x : opened_end ≡ e = cc p in cc (o.text ∙ ap (λ (e : Endpoint). e.stored) (sym x))
lost (Receiver_holds e f p q l h) = let x : opened_end ≡ e = cc p in cc (ap (λ (e : Endpoint). e.left) x ∙ l.0)

pub returns-clause-half : goal.returns-clause-half
returns-clause-half c = half

pub returns-clause-crossed : goal.returns-clause-crossed
returns-clause-crossed c = crossed

pub returns-clause-sendable : goal.returns-clause-sendable
returns-clause-sendable c = sendable

pub returns-clause-unheard : goal.returns-clause-unheard
returns-clause-unheard c = unheard

pub returns-clause-lost : goal.returns-clause-lost
returns-clause-lost c = lost
