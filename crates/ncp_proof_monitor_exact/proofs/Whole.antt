-- What is found in a whole file by the rules of messages is what is found from one host to another, of all of them.
use Rattle.std.proofs.Common.{◌≡◌, inl, inr, ℕ, ◌<◌, ◌==◌, Bool, true, false, ◌&&◌, if◌then◌else◌, List, [], ◌∷◌, ◌++◌, refl, sym, ap, ◌∙◌, subst}
use Rattle.std.proofs.lemmas.Bool.Decides.{eqb_tells}
use Rattle.ncp_interface.specs.declared.event.InterfaceEvent.{InterfaceEvent}
use Rattle.ncp_interface.specs.declared.event.InterfaceEvent.TheVariants as event
use Rattle.ncp_monitor.specs.declared.finding.Finding.{Finding}
use Rattle.ncp_monitor.specs.declared.monitor.Monitor.{Monitor}
use Rattle.ncp_interface.specs.declared.imp_direction.ImpDirection.{ImpDirection}
use Rattle.ncp_interface.specs.declared.imp_direction.ImpDirection.TheVariants.{ToImp, FromImp}
use Rattle.ncp_interface.specs.Events.{event_of}
use Rattle.ncp_monitor.specs.Judged.{new_monitor, sees, event_findings, record_findings, after_record}
use Rattle.ncp_proof_monitor_messages.specs.Files.{found_by, findings_in}
use Rattle.ncp_proof_monitor_messages.specs.ManyFiles.{AllFit}
use Rattle.ncp_proof_monitor_exact.specs.Deeds.{is_toward}
use Rattle.ncp_proof_monitor_exact.specs.Exact.{is_of_messages, found_toward, IsExactOfAll}
use Rattle.ncp_proof_monitor_exact.proofs.Events.{Facts, facts, found_two, parts_empty}
use Rattle.ncp_proof_monitor_exact.proofs.Begin.{exact}

-- of each two hosts
abbrev NoneOfEach : Monitor → List (ℕ × ImpDirection × List Bool) → Type 0
NoneOfEach u file = (from to : ℕ) → from < 256 → to < 256 → found_by is_of_messages (found_toward from to u file) ≡ []

same : (n : ℕ) → (n == n) ≡ true
same n = elim (eqb_tells n n) [
  | inl e ↦ e.0
  | inr e ↦ absurd (e.1 refl)
]

-- where none is found of the two that an event is about, none is found
of_event : (u : Monitor) (way : ImpDirection) (at : ℕ) (bits : List Bool) → at < 256 → (e : InterfaceEvent) → Facts e bits
    → ((from to : ℕ) → from < 256 → to < 256 → found_by is_of_messages (if is_toward from to at e then event_findings u way at bits e else []) ≡ []) → found_by is_of_messages (event_findings u way at bits e) ≡ []
of_event u ToImp at bits a event.Short k none = refl
of_event u FromImp at bits a event.Short k none = refl
of_event u way at bits a event.Nothing k none = refl
of_event u ToImp at bits a (event.Own kind link) k none = refl
of_event u FromImp at bits a (event.Own kind link) k none = refl
of_event u way at bits a (event.Other kind) k none = refl
of_event u way at bits a (event.Out peer link) k none =
    subst (λ (b : Bool). found_by is_of_messages (if b && peer == peer then event_findings u way at bits (event.Out peer link) else []) ≡ [] → found_by is_of_messages (event_findings u way at bits (event.Out peer link)) ≡ []) (sym (same at))
    (subst (λ (b : Bool). found_by is_of_messages (if b then event_findings u way at bits (event.Out peer link) else []) ≡ [] → found_by is_of_messages (event_findings u way at bits (event.Out peer link)) ≡ []) (sym (same peer)) (λ x. x)) (none at peer a k)
of_event u way at bits a (event.In peer link) k none =
    subst (λ (b : Bool). found_by is_of_messages (if b && peer == peer then event_findings u way at bits (event.In peer link) else []) ≡ [] → found_by is_of_messages (event_findings u way at bits (event.In peer link)) ≡ []) (sym (same at))
    (subst (λ (b : Bool). found_by is_of_messages (if b then event_findings u way at bits (event.In peer link) else []) ≡ [] → found_by is_of_messages (event_findings u way at bits (event.In peer link)) ≡ []) (sym (same peer)) (λ x. x)) (none peer at k.0 a)
of_event u way at bits a (event.Answer kind peer link) k none =
    subst (λ (b : Bool). found_by is_of_messages (if b && peer == peer then event_findings u way at bits (event.Answer kind peer link) else []) ≡ [] → found_by is_of_messages (event_findings u way at bits (event.Answer kind peer link)) ≡ []) (sym (same at))
    (subst (λ (b : Bool). found_by is_of_messages (if b then event_findings u way at bits (event.Answer kind peer link) else []) ≡ [] → found_by is_of_messages (event_findings u way at bits (event.Answer kind peer link)) ≡ []) (sym (same peer)) (λ x. x)) (none at peer a k)

all_none : (u : Monitor) (file : List (ℕ × ImpDirection × List Bool)) → AllFit file → NoneOfEach u file → found_by is_of_messages (findings_in u file) ≡ []
all_none u [] fit none = refl
all_none u (one ∷ more) fit none =
    let here : List Finding = record_findings u one.1 one.0 one.2 in
    let after : Monitor = after_record u one.1 one.0 one.2 in
    let e : InterfaceEvent = event_of one.1 one.0 one.2 in
    let first : found_by is_of_messages here ≡ [] =
    of_event (sees u one.0) one.1 one.0 one.2 fit.0 e (facts one.1 one.0 one.2)
    (λ from to f t. (parts_empty (if is_toward from to one.0 e then here else []) (found_toward from to after more) (none from to f t)).0) in
    let rest : found_by is_of_messages (findings_in after more) ≡ [] =
    all_none after more fit.2 (λ from to f t. (parts_empty (if is_toward from to one.0 e then here else []) (found_toward from to after more) (none from to f t)).1) in
    found_two here (findings_in after more) ∙ ap (λ (xs : List Finding). xs ++ found_by is_of_messages (findings_in after more)) first ∙ rest

none_each : (from to : ℕ) (u : Monitor) (file : List (ℕ × ImpDirection × List Bool)) → found_by is_of_messages (findings_in u file) ≡ [] → found_by is_of_messages (found_toward from to u file) ≡ []
none_each from to u [] e = refl
none_each from to u (one ∷ more) e =
    let here : List Finding = record_findings u one.1 one.0 one.2 in
    let after : Monitor = after_record u one.1 one.0 one.2 in
    let p = parts_empty here (findings_in after more) e in
    found_two (if is_toward from to one.0 (event_of one.1 one.0 one.2) then here else []) (found_toward from to after more)
    ∙ ap (λ (xs : List Finding). xs ++ found_by is_of_messages (found_toward from to after more)) (none (is_toward from to one.0 (event_of one.1 one.0 one.2)) here p.0)
    ∙ none_each from to after more p.1
  where
    none : (b : Bool) (xs : List Finding) → found_by is_of_messages xs ≡ [] → found_by is_of_messages (if b then xs else []) ≡ []
    none true xs q = q
    none false xs q = refl

pub exact_of_all : IsExactOfAll
exact_of_all file fit full = (
  λ q from to on f t. (exact from to file f t fit full).0 (none_each from to (new_monitor false) file q.0, q.1 from to f t) on,
  λ g. (
    all_none (new_monitor false) file fit (λ from to f t. ((exact from to file f t fit full).1 (λ on. g from to on f t)).0),
    λ from to f t. ((exact from to file f t fit full).1 (λ on. g from to on f t)).1,
  ),
)
