-- The effect of a whole message of commands between two hosts: when it is sent, and when it is received.
use Rattle.std.proofs.Common.{◌≡◌, ℕ, ◌==◌, Bool, true, false, if◌then◌else◌, List, [], ◌++◌, Option, None, Result, option_to_list, refl, sym, ◌∙◌, subst}
use Rattle.std.proofs.lemmas.List.{append-nil}
use Rattle.ncp_wire.specs.declared.command.Command.{Command}
use Rattle.ncp_wire.specs.declared.fault.CommandFault.{CommandFault}
use Rattle.ncp_control.specs.Texts.{items_of}
use Rattle.ncp_monitor.specs.declared.finding.Finding.{Finding}
use Rattle.ncp_interface.specs.declared.sent_message.SentMessage.{SentMessage}
use Rattle.ncp_monitor.specs.declared.phase.MessageContext.{MessageContext}
use Rattle.ncp_monitor.specs.declared.observed_flow.ObservedFlow.{ObservedFlow}
use Rattle.ncp_monitor.specs.declared.view.View.{View}
use Rattle.ncp_monitor.specs.ConnStates.{SeenTables}
use Rattle.ncp_monitor.specs.Phases.{items_findings, after_items, after_room, missing_finding}
use Rattle.ncp_monitor.specs.Speaking.{after_all_said}
use Rattle.ncp_monitor.specs.Talked.{observed_flow_of, talked_findings, after_talked, reports_omitted, left_out_findings, after_left_out}
use Rattle.ncp_monitor.specs.Judged.{shows_all, control_findings, after_control}
use Rattle.ncp_interface.specs.Contents.{items_said}
use Rattle.ncp_proof_monitor_network.proofs.ConsistentViews.{Afloat}
use Rattle.ncp_proof_monitor_network.proofs.NeverSuspended.{room_leaves}
use Rattle.ncp_proof_monitor_network.proofs.Sessions.{SessionInvariant, Floated, empty_front, empty_rest, own_items, own_left, their_items, their_quiet}

left_full : (context : MessageContext) (flow : ObservedFlow) (room : Bool) (v : View) (b : SeenTables) → (after_left_out context flow room v b).full ≡ b.full
left_full context flow room v b = go (reports_omitted context room v b)
  where
    go : (x : Bool) → (if x then after_all_said flow.at flow.peer b else b).full ≡ b.full
    go true = refl
    go false = refl

-- it is sent, and nothing is found
pub control_goes : (h k : ℕ) (busy : Option ℕ) (zero : Bool) (kept : List SentMessage) (text : List Bool) (cs : List Command) (vh vk : View) (b : SeenTables) (hl kl : List Command) (ht kt : Afloat) → (h == k) ≡ false → Floated h k busy kept ht → items_said text ≡ items_of cs None
    → control_findings (record { by = h; sent = true; busy = busy; zero = zero }) (observed_flow_of h k (record { by = h; sent = true; busy = busy; zero = zero })) kept text vh b ≡ []
    → (after_control (record { by = h; sent = true; busy = busy; zero = zero }) (observed_flow_of h k (record { by = h; sent = true; busy = busy; zero = zero })) kept text vh b).full ≡ false
    → SessionInvariant h k vh vk b hl kl ht kt
    → SessionInvariant h k (after_room (record { by = h; sent = true; busy = busy; zero = zero }) (shows_all text vh) (after_items (record { by = h; sent = true; busy = busy; zero = zero }) (items_said text) vh)) vk
    (after_control (record { by = h; sent = true; busy = busy; zero = zero }) (observed_flow_of h k (record { by = h; sent = true; busy = busy; zero = zero })) kept text vh b) (hl ++ cs) kl ht kt
control_goes h k busy zero kept text cs vh vk b hl kl ht kt apart shows items none room p =
    subst (λ (v : View). SessionInvariant h k v vk (after_control context flow kept text vh b) (hl ++ cs) kl ht kt) (sym (room_leaves context (shows_all text vh) (after_items context (items_said text) vh) said.awake_h.told said.awake_h.own_even))
    (own_left h k h busy zero kept (shows_all text vh) (after_items context (items_said text) vh) vk (after_talked context flow kept (items_said text) vh b) (hl ++ cs) kl ht kt apart left said)
  where
    context : MessageContext
    context = record { by = h; sent = true; busy = busy; zero = zero }

    flow : ObservedFlow
    flow = observed_flow_of h k context

    behind : List Finding
    behind = option_to_list (missing_finding context (shows_all text vh) (after_items context (items_said text) vh))

    all_left : List Finding
    all_left = left_out_findings context flow kept (shows_all text vh) (after_items context (items_said text) vh) (after_talked context flow kept (items_said text) vh b)

    spoken : talked_findings context flow kept (items_said text) vh b ≡ []
    spoken = empty_front (talked_findings context flow kept (items_said text) vh b) behind (empty_front (talked_findings context flow kept (items_said text) vh b ++ behind) all_left none)

    left : all_left ≡ []
    left = empty_rest (talked_findings context flow kept (items_said text) vh b ++ behind) all_left none

    said : SessionInvariant h k (after_items context (items_said text) vh) vk (after_talked context flow kept (items_said text) vh b) (hl ++ cs) kl ht kt
    said =
        subst (λ (xs : List (Result Command CommandFault)). SessionInvariant h k (after_items context xs vh) vk (after_talked context flow kept xs vh b) (hl ++ cs) kl ht kt) (sym items)
        (own_items h k h busy zero kept cs vh vk b hl kl ht kt apart shows (subst (λ (xs : List (Result Command CommandFault)). talked_findings context flow kept xs vh b ≡ []) items spoken)
        (subst (λ (xs : List (Result Command CommandFault)). (after_talked context flow kept xs vh b).full ≡ false) items (sym (left_full context flow (shows_all text vh) (after_items context (items_said text) vh) (after_talked context flow kept (items_said text) vh b)) ∙ room)) p)

module _ (h k : ℕ) (busy : Option ℕ) (zero : Bool) (kept : List SentMessage) (text : List Bool) (cs : List Command) (vh vk : View) (b : SeenTables) (hl kl : List Command) (ht kt : Afloat) (apart : (h == k) ≡ false) (items : items_said text ≡ items_of cs None) where
  abbrev context : MessageContext
  context = record { by = h; sent = false; busy = busy; zero = zero }

  -- it comes, and nothing is found of the phase: then nothing at all is
  pub control_unsaid : items_findings context (items_of cs None) vk ≡ [] → (b.full ≡ false → SessionInvariant h k vh vk b (cs ++ hl) kl ht kt) → control_findings context (observed_flow_of k h context) kept text vk b ≡ []
  control_unsaid none p =
      append-nil (talked_findings context (observed_flow_of k h context) kept (items_said text) vk b ++ [])
      ∙ append-nil (talked_findings context (observed_flow_of k h context) kept (items_said text) vk b)
      ∙ subst (λ (xs : List (Result Command CommandFault)). talked_findings context (observed_flow_of k h context) kept xs vk b ≡ []) (sym items) (their_quiet h k h busy zero kept cs vh vk b hl kl ht kt apart none p)

  pub control_comes : items_findings context (items_of cs None) vk ≡ [] → (after_control context (observed_flow_of k h context) kept text vk b).full ≡ false → SessionInvariant h k vh vk b (cs ++ hl) kl ht kt
      → SessionInvariant h k vh (after_room context (shows_all text vk) (after_items context (items_said text) vk)) (after_control context (observed_flow_of k h context) kept text vk b) hl kl ht kt
  control_comes none room p =
      subst (λ (xs : List (Result Command CommandFault)). SessionInvariant h k vh (after_items context xs vk) (after_talked context (observed_flow_of k h context) kept xs vk b) hl kl ht kt) (sym items)
      (their_items h k h busy zero kept cs vh vk b hl kl ht kt apart none (subst (λ (xs : List (Result Command CommandFault)). (after_talked context (observed_flow_of k h context) kept xs vk b).full ≡ false) items room) p)
