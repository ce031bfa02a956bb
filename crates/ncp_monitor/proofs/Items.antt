-- The items of a control text, one after the other.
use Rattle.std.proofs.Common.{◌≡◌, ◌+◌, ◌≤◌, List, [], ◌∷◌, ◌++◌, length, Result, refl, sym, ap, ◌∙◌, add-one, arith}
use Rattle.std.proofs.lemmas.List.{append_assoc, append-nil, length-append}
use Rattle.ncp_wire.specs.declared.command.Command.{Command}
use Rattle.ncp_wire.specs.declared.fault.CommandFault.{CommandFault}
use Rattle.ncp_monitor.specs.declared.finding.Finding.{Finding}
use Rattle.ncp_monitor.specs.declared.view.View.{View}
use Rattle.ncp_monitor.specs.declared.phase.MessageContext.{MessageContext}
use Rattle.ncp_interface.specs.declared.sent_message.SentMessage.{SentMessage}
use Rattle.ncp_monitor.specs.declared.observed_flow.ObservedFlow.{ObservedFlow}
use Rattle.ncp_monitor.specs.Phases.{after_item, after_items}
use Rattle.ncp_monitor.specs.ConnStates.{SeenTables}
use Rattle.ncp_monitor.specs.Talked.{after_flow, after_talked, all_findings, talked_findings}

abbrev Item : Type 0
Item = Result Command CommandFault

-- one item more
pub after_more : (context : MessageContext) (items : List Item) (item : Item) (view : View) → after_items context (items ++ item ∷ []) view ≡ after_item context item (after_items context items view)
after_more context [] item view = refl
after_more context (first ∷ items) item view = after_more context items item (after_item context first view)

pub conn_tables_more : (context : MessageContext) (flow : ObservedFlow) (kept : List SentMessage) (items : List Item) (item : Item) (view : View) (conn_tables : SeenTables)
    → after_talked context flow kept (items ++ item ∷ []) view conn_tables ≡ after_flow context flow kept item (after_items context items view) (after_talked context flow kept items view conn_tables)
conn_tables_more context flow kept [] item view conn_tables = refl
conn_tables_more context flow kept (first ∷ items) item view conn_tables = conn_tables_more context flow kept items item (after_item context first view) (after_flow context flow kept first view conn_tables)

pub findings_more : (context : MessageContext) (flow : ObservedFlow) (kept : List SentMessage) (items : List Item) (item : Item) (view : View) (conn_tables : SeenTables)
    → talked_findings context flow kept (items ++ item ∷ []) view conn_tables
    ≡ talked_findings context flow kept items view conn_tables ++ all_findings context flow kept item (after_items context items view) (after_talked context flow kept items view conn_tables)
findings_more context flow kept [] item view conn_tables = append-nil (all_findings context flow kept item view conn_tables)
findings_more context flow kept (first ∷ items) item view conn_tables =
    let next = after_item context first view in
    let now = after_flow context flow kept first view conn_tables in
    ap (λ (xs : List Finding). all_findings context flow kept first view conn_tables ++ xs) (findings_more context flow kept items item next now)
    ∙ sym (append_assoc (all_findings context flow kept first view conn_tables) (talked_findings context flow kept items next now) (all_findings context flow kept item (after_items context items next) (after_talked context flow kept items next now)))

-- so far there are fewer items than all
pub fewer : (xs ys all : List Item) (x : Item) (rest : List Item) → xs ++ ys ≡ all → ys ≡ x ∷ rest → length xs + 1 ≤ length all
fewer xs ys all x rest e f =
    let b : length xs + length ys ≡ length all = sym (length-append xs ys) ∙ ap (λ zs. length zs) e in
    let d : length ys ≡ length rest + 1 = ap (λ zs. length zs) f ∙ sym (add-one (length rest)) in
    omega arith

-- what is found, and what is known, with one item more
pub found_more : (context : MessageContext) (flow : ObservedFlow) (kept : List SentMessage) (items : List Item) (item : Item) (first view : View) (begun conn_tables : SeenTables) (was found new : List Finding)
    → view ≡ after_items context items first → conn_tables ≡ after_talked context flow kept items first begun → found ≡ was ++ talked_findings context flow kept items first begun
    → new ≡ found ++ all_findings context flow kept item view conn_tables
    → new ≡ was ++ talked_findings context flow kept (items ++ item ∷ []) first begun
found_more context flow kept items item first view begun conn_tables was found new v b f n =
    let before = talked_findings context flow kept items first begun in
    n ∙ ap (λ (xs : List Finding). xs ++ all_findings context flow kept item view conn_tables) f
    ∙ ap (λ w. (was ++ before) ++ all_findings context flow kept item w conn_tables) v
    ∙ ap (λ w. (was ++ before) ++ all_findings context flow kept item (after_items context items first) w) b
    ∙ append_assoc was before (all_findings context flow kept item (after_items context items first) (after_talked context flow kept items first begun))
    ∙ ap (λ (xs : List Finding). was ++ xs) (sym (findings_more context flow kept items item first begun))

pub view_more : (context : MessageContext) (items : List Item) (item : Item) (first view new : View) → view ≡ after_items context items first → new ≡ after_item context item view → new ≡ after_items context (items ++ item ∷ []) first
view_more context items item first view new v n = n ∙ ap (after_item context item) v ∙ sym (after_more context items item first)

pub said_more : (context : MessageContext) (flow : ObservedFlow) (kept : List SentMessage) (items : List Item) (item : Item) (first view : View) (begun conn_tables new : SeenTables)
    → view ≡ after_items context items first → conn_tables ≡ after_talked context flow kept items first begun → new ≡ after_flow context flow kept item view conn_tables
    → new ≡ after_talked context flow kept (items ++ item ∷ []) first begun
said_more context flow kept items item first view begun conn_tables new v b n =
    n ∙ ap (λ w. after_flow context flow kept item w conn_tables) v ∙ ap (after_flow context flow kept item (after_items context items first)) b ∙ sym (conn_tables_more context flow kept items item first begun)
