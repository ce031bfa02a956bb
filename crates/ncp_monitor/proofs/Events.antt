-- What a record shows, of what its parts show.
use Rattle.std.proofs.Common.{◌≡◌, ℕ, Bool, true, false, List, [], ◌++◌, replicate, Option, Result, Ok, sym, ap, ◌∙◌}
use Rattle.std.proofs.lemmas.List.{append_assoc}
use Rattle.std.specs.Prelude.{option_map}
use Rattle.std.specs.Option.{option_to_list}
use Rattle.ncp_leader.specs.declared.fault.MessageFault.{MessageFault}
use Rattle.ncp_leader.specs.Message.{Message, message_in}
use Rattle.ncp_interface.specs.declared.imp_direction.ImpDirection.{ImpDirection}
use Rattle.ncp_monitor.specs.declared.finding.Finding.{Finding}
use Rattle.ncp_interface.specs.declared.event.InterfaceEvent.TheVariants as event
use Rattle.ncp_monitor.specs.declared.phase.MessageContext.{MessageContext}
use Rattle.ncp_monitor.specs.declared.monitor.Monitor.{Monitor}
use Rattle.ncp_interface.specs.declared.sent_message.SentMessage.{SentMessage}
use Rattle.ncp_monitor.specs.declared.view.View.{View}
use Rattle.ncp_monitor.specs.declared.views.TheConstants.{HOSTS, VIEWS}
use Rattle.ncp_monitor.specs.Views.{new_view}
use Rattle.ncp_monitor.specs.ConnStates.{SeenTables, no_conn_tables}
use Rattle.ncp_monitor.specs.Phases.{broken_by}
use Rattle.ncp_monitor.specs.Messages.{judged_bits, rule_of_message}
use Rattle.ncp_monitor.specs.Judged.{new_monitor, out_finding, fresh_out, monitor_after_out, unsent_finding, after_in, turn_at, regular_findings, said_findings, message_findings, after_message, event_findings, after_event}

-- a message that is regular: the rule that it breaks by itself, and what it says
pub message_said : (monitor : Monitor) (at peer link len : ℕ) (context : MessageContext) (fresh : Bool) (bits : List Bool) (read : Result Message MessageFault) (message : Message) (was first new : List Finding) (finding : Option Finding)
    → finding ≡ option_map (broken_by context) (rule_of_message read link len) → read ≡ message_in bits → len ≡ judged_bits (message_in bits) bits → read ≡ Ok message
    → first ≡ was ++ option_to_list finding → new ≡ first ++ regular_findings monitor at peer context fresh message
    → new ≡ was ++ message_findings monitor at peer context fresh link bits
message_said monitor at peer link len context fresh bits read message was first new finding f r l i a n =
    let said = regular_findings monitor at peer context fresh message in
    let own = option_to_list (option_map (broken_by context) (rule_of_message (message_in bits) link (judged_bits (message_in bits) bits))) in
    let is : option_to_list finding ≡ own =
    ap option_to_list (f ∙ ap (λ x. option_map (broken_by context) (rule_of_message x link len)) r ∙ ap (λ k. option_map (broken_by context) (rule_of_message (message_in bits) link k)) l) in
    let same : said ≡ said_findings monitor at peer context fresh (message_in bits) = ap (said_findings monitor at peer context fresh) (sym i ∙ r) in
    n ∙ ap (λ (xs : List Finding). xs ++ said) a ∙ append_assoc was (option_to_list finding) said
    ∙ ap (λ (xs : List Finding). was ++ (xs ++ said)) is ∙ ap (λ (xs : List Finding). was ++ (own ++ xs)) same

-- a message goes out
pub out_after : (monitor now : Monitor) (at peer link : ℕ) (bits : List Bool) (context : MessageContext) (fresh : Bool) → now ≡ monitor_after_out monitor at peer link bits → context ≡ turn_at now at peer at true → fresh ≡ fresh_out monitor at peer link bits
    → after_message now at peer context fresh bits ≡ after_event monitor at bits (event.Out peer link)
out_after monitor now at peer link bits context fresh v t f =
    ap (λ x. after_message now at peer x fresh bits) t ∙ ap (λ x. after_message now at peer (turn_at now at peer at true) x bits) f
    ∙ ap (λ x. after_message x at peer (turn_at x at peer at true) (fresh_out monitor at peer link bits) bits) v

pub out_found : (monitor now : Monitor) (way : ImpDirection) (at peer link : ℕ) (bits : List Bool) (context : MessageContext) (fresh : Bool) (was first new : List Finding)
    → now ≡ monitor_after_out monitor at peer link bits → context ≡ turn_at now at peer at true → fresh ≡ fresh_out monitor at peer link bits
    → was ≡ [] → first ≡ was ++ option_to_list (out_finding monitor at peer link bits) → new ≡ first ++ message_findings now at peer context fresh link bits
    → new ≡ event_findings monitor way at bits (event.Out peer link)
out_found monitor now way at peer link bits context fresh was first new v t f w a n =
    let own = option_to_list (out_finding monitor at peer link bits) in
    n ∙ ap (λ (xs : List Finding). xs ++ message_findings now at peer context fresh link bits) (a ∙ ap (λ (xs : List Finding). xs ++ own) w)
    ∙ ap (λ x. own ++ message_findings now at peer x fresh link bits) t ∙ ap (λ x. own ++ message_findings now at peer (turn_at now at peer at true) x link bits) f
    ∙ ap (λ x. own ++ message_findings x at peer (turn_at x at peer at true) (fresh_out monitor at peer link bits) link bits) v

-- a message comes
pub in_after : (monitor now : Monitor) (at peer link : ℕ) (bits : List Bool) (context : MessageContext) → now ≡ after_in monitor at peer link → context ≡ turn_at now at peer peer false
    → after_message now at peer context true bits ≡ after_event monitor at bits (event.In peer link)
in_after monitor now at peer link bits context v t =
    ap (λ x. after_message now at peer x true bits) t ∙ ap (λ x. after_message x at peer (turn_at x at peer peer false) true bits) v

pub in_found : (monitor now : Monitor) (way : ImpDirection) (at peer link : ℕ) (bits : List Bool) (context : MessageContext) (was first new : List Finding)
    → now ≡ after_in monitor at peer link → context ≡ turn_at now at peer peer false
    → was ≡ [] → first ≡ was ++ option_to_list (unsent_finding monitor at peer link bits) → new ≡ first ++ message_findings now at peer context true link bits
    → new ≡ event_findings monitor way at bits (event.In peer link)
in_found monitor now way at peer link bits context was first new v t w a n =
    let own = option_to_list (unsent_finding monitor at peer link bits) in
    n ∙ ap (λ (xs : List Finding). xs ++ message_findings now at peer context true link bits) (a ∙ ap (λ (xs : List Finding). xs ++ own) w)
    ∙ ap (λ x. own ++ message_findings now at peer x true link bits) t
    ∙ ap (λ x. own ++ message_findings x at peer (turn_at x at peer peer false) true link bits) v

-- nothing was seen
pub made_new : (part : Bool) (seen : List Bool) (views : List View) (kept : List SentMessage) (conn_tables : SeenTables) (unclear in_doubt : List Bool) → seen ≡ replicate HOSTS false → unclear ≡ replicate HOSTS false → in_doubt ≡ replicate VIEWS false → views ≡ replicate VIEWS (new_view part) → kept ≡ [] → conn_tables ≡ no_conn_tables
    → ◌≡◌ {A = Monitor} (record { part = part; full = false; seen = seen; unclear = unclear; in_doubt = in_doubt; views = views; kept = kept; conn_tables = conn_tables }) (new_monitor part)
made_new part seen views kept conn_tables unclear in_doubt s u d v k b =
    ap (λ (x : List Bool). record { part = part; full = false; seen = x; unclear = unclear; in_doubt = in_doubt; views = views; kept = kept; conn_tables = conn_tables }) s
    ∙ ap (λ (x : List Bool). record { part = part; full = false; seen = replicate HOSTS false; unclear = x; in_doubt = in_doubt; views = views; kept = kept; conn_tables = conn_tables }) u
    ∙ ap (λ (x : List Bool). record { part = part; full = false; seen = replicate HOSTS false; unclear = replicate HOSTS false; in_doubt = x; views = views; kept = kept; conn_tables = conn_tables }) d
    ∙ ap (λ (x : List View). record (new_monitor part) { views = x; kept = kept; conn_tables = conn_tables }) v
    ∙ ap (λ (x : List SentMessage). record (new_monitor part) { kept = x; conn_tables = conn_tables }) k
    ∙ ap (λ (x : SeenTables). record (new_monitor part) { conn_tables = x }) b
