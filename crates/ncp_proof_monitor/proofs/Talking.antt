-- The findings of a message that is read are those of the phase, and those of what is said while two hosts are up: where all
-- of either pass a test, all do.
use Rattle.std.proofs.Common.{◌≡◌, ℕ, ◌==◌, Bool, true, false, if◌then◌else◌, List, [], ◌++◌, None, Result, Ok, Err, option_to_list, refl, sym, ap, subst}
use Rattle.ncp_leader.specs.declared.fault.MessageFault.{MessageFault}
use Rattle.ncp_leader.specs.Message.{Message}
use Rattle.ncp_monitor.specs.declared.finding.Finding.{Finding}
use Rattle.ncp_monitor.specs.declared.finding.ItemKind.{ItemKind}
use Rattle.ncp_interface.specs.declared.message_class.MessageClass.{MessageClass}
use Rattle.ncp_interface.specs.declared.message_class.MessageClass.TheVariants.{Stop, Text, Control}
use Rattle.ncp_monitor.specs.declared.phase.MessageContext.{MessageContext}
use Rattle.ncp_monitor.specs.declared.observed_flow.ObservedFlow.{ObservedFlow}
use Rattle.ncp_monitor.specs.declared.monitor.Monitor.{Monitor}
use Rattle.ncp_monitor.specs.declared.view.View.{View}
use Rattle.ncp_interface.specs.Contents.{is_unused, message_class, items_said}
use Rattle.ncp_monitor.specs.Phases.{early_finding, items_findings, after_items, missing_finding}
use Rattle.ncp_monitor.specs.Talked.{observed_flow_of, talked_findings, after_talked, left_out_findings, text_findings}
use Rattle.ncp_monitor.specs.Judged.{view_of, turn_at, shows_all, control_findings, said_findings}
use Rattle.ncp_monitor.proofs.Passing.{Pass, both, SaysFlow, text_pass, left_out_pass}
use Rattle.ncp_monitor.proofs.Parted.{pass_parts, parted, said_pass}
use Rattle.ncp_monitor.proofs.Parted

-- no finding
pub empty_pass : (P : Finding → Bool) (xs : List Finding) → xs ≡ [] → Pass P xs
empty_pass P xs e = subst (λ (ys : List Finding). Pass P ys) (sym e) refl

-- ---- the content of a control text: its items, and the part left out after them

abbrev pub control_flow : Monitor → ℕ → ℕ → ℕ → Bool → List Bool → List Finding
control_flow monitor at peer by sent text =
    let context = turn_at monitor at peer by sent in
    let flow = observed_flow_of at peer context in
    let items = items_said text in
    let view = view_of monitor at peer in
    Parted.said_findings context flow monitor.kept items view monitor.conn_tables
    ++ left_out_findings context flow monitor.kept (shows_all text view) (after_items context items view) (after_talked context flow monitor.kept items view monitor.conn_tables)

-- where nothing is found of the phase in it, all that is found is of what it says
pub control_parted : (P : Finding → Bool) (monitor : Monitor) (at peer by : ℕ) (sent : Bool) (text : List Bool)
    → items_findings (turn_at monitor at peer by sent) (items_said text) (view_of monitor at peer) ≡ []
    → missing_finding (turn_at monitor at peer by sent) (shows_all text (view_of monitor at peer)) (after_items (turn_at monitor at peer by sent) (items_said text) (view_of monitor at peer)) ≡ None
    → Pass P (control_flow monitor at peer by sent text)
    → Pass P (control_findings (turn_at monitor at peer by sent) (observed_flow_of at peer (turn_at monitor at peer by sent)) monitor.kept text (view_of monitor at peer) monitor.conn_tables)
control_parted P monitor at peer by sent text i m t =
    let context = turn_at monitor at peer by sent in
    let flow = observed_flow_of at peer context in
    let items = items_said text in
    let view = view_of monitor at peer in
    let missing = option_to_list (missing_finding context (shows_all text view) (after_items context items view)) in
    let left = left_out_findings context flow monitor.kept (shows_all text view) (after_items context items view) (after_talked context flow monitor.kept items view monitor.conn_tables) in
    let parts = pass_parts P (Parted.said_findings context flow monitor.kept items view monitor.conn_tables) left t in
    let items_pass = parted P context flow monitor.kept items view monitor.conn_tables (empty_pass P (items_findings context items view) i) parts.0 in
    both P (talked_findings context flow monitor.kept items view monitor.conn_tables ++ missing) left
    (both P (talked_findings context flow monitor.kept items view monitor.conn_tables) missing items_pass (empty_pass P missing (ap option_to_list m))) parts.1

-- ---- of what a message says

abbrev pub read_flow : Monitor → ℕ → ℕ → ℕ → Bool → Message → MessageClass → List Finding
read_flow monitor at peer by sent message Stop = []
read_flow monitor at peer by sent message Text =
    let context = turn_at monitor at peer by sent in text_findings context (observed_flow_of at peer context) message.leader.link message (view_of monitor at peer) monitor.conn_tables
read_flow monitor at peer by sent message Control = control_flow monitor at peer by sent message.text

abbrev pub message_flow : Monitor → ℕ → ℕ → ℕ → Bool → Bool → Result Message MessageFault → List Finding
message_flow monitor at peer by sent fresh (Ok message) = if fresh then read_flow monitor at peer by sent message (message_class message) else []
message_flow monitor at peer by sent fresh (Err fault) = []

-- where each rule of what is said passes a test, all of it does
pub message_flow_pass : (P : Finding → Bool) (monitor : Monitor) (at peer by : ℕ) (sent fresh : Bool) (r : Result Message MessageFault) → SaysFlow P (turn_at monitor at peer by sent) → Pass P (message_flow monitor at peer by sent fresh r)
message_flow_pass P monitor at peer by sent fresh (Err fault) s = refl
message_flow_pass P monitor at peer by sent fresh (Ok message) s = go fresh (message_class message)
  where
    context : MessageContext
    context = turn_at monitor at peer by sent

    flow : ObservedFlow
    flow = observed_flow_of at peer context

    view : View
    view = view_of monitor at peer

    go : (b : Bool) (reading : MessageClass) → Pass P (if b then read_flow monitor at peer by sent message reading else [])
    go false reading = refl
    go true Stop = refl
    go true Text = text_pass P context s flow message.leader.link message view monitor.conn_tables
    go true Control =
        let items = items_said message.text in
        let room = shows_all message.text view in
        let after = after_items context items view in
        let now = after_talked context flow monitor.kept items view monitor.conn_tables in
        both P (Parted.said_findings context flow monitor.kept items view monitor.conn_tables) (left_out_findings context flow monitor.kept room after now)
        (said_pass P context s flow monitor.kept items view monitor.conn_tables) (left_out_pass P context s flow monitor.kept room after now)

-- all that is found in a message is of what it says: where that passes a test, all does
abbrev pub Parts : Monitor → ℕ → ℕ → ℕ → Bool → Bool → Result Message MessageFault → Type 0
Parts monitor at peer by sent fresh r = (P : Finding → Bool) → Pass P (message_flow monitor at peer by sent fresh r) → Pass P (said_findings monitor at peer (turn_at monitor at peer by sent) fresh r)

-- ---- a text

pub text_found : (monitor : Monitor) (at peer by : ℕ) (sent : Bool) (m : Message) → is_unused m.leader.link ≡ false → (m.leader.link == 0) ≡ false
    → said_findings monitor at peer (turn_at monitor at peer by sent) true (Ok m)
    ≡ option_to_list (early_finding (turn_at monitor at peer by sent) ItemKind.Text (view_of monitor at peer))
    ++ text_findings (turn_at monitor at peer by sent) (observed_flow_of at peer (turn_at monitor at peer by sent)) m.leader.link m (view_of monitor at peer) monitor.conn_tables
text_found monitor at peer by sent m x y = rw (x, y) refl

pub text_flow : (monitor : Monitor) (at peer by : ℕ) (sent : Bool) (m : Message) → is_unused m.leader.link ≡ false → (m.leader.link == 0) ≡ false
    → message_flow monitor at peer by sent true (Ok m)
    ≡ text_findings (turn_at monitor at peer by sent) (observed_flow_of at peer (turn_at monitor at peer by sent)) m.leader.link m (view_of monitor at peer) monitor.conn_tables
text_flow monitor at peer by sent m x y = rw (x, y) refl

-- where it is not early, all that is found in it is of what is said
pub text_parted : (P : Finding → Bool) (monitor : Monitor) (at peer by : ℕ) (sent : Bool) (m : Message) → is_unused m.leader.link ≡ false → (m.leader.link == 0) ≡ false
    → early_finding (turn_at monitor at peer by sent) ItemKind.Text (view_of monitor at peer) ≡ None
    → Pass P (message_flow monitor at peer by sent true (Ok m)) → Pass P (said_findings monitor at peer (turn_at monitor at peer by sent) true (Ok m))
text_parted P monitor at peer by sent m x y none said =
    let context = turn_at monitor at peer by sent in
    let early = option_to_list (early_finding context ItemKind.Text (view_of monitor at peer)) in
    let texts = text_findings context (observed_flow_of at peer context) m.leader.link m (view_of monitor at peer) monitor.conn_tables in
    subst (Pass P) (sym (text_found monitor at peer by sent m x y))
    (both P early texts (empty_pass P early (ap option_to_list none)) (subst (Pass P) (text_flow monitor at peer by sent m x y) said))
