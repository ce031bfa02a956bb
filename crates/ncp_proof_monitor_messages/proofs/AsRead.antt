-- A message of one of two hosts as it is read at an interface: of commands, and of a text.
use Rattle.std.proofs.Common.{◌≡◌, ℕ, ◌<◌, ◌==◌, Bool, true, false, if◌then◌else◌, List, [], ◌∷◌, ◌++◌, All, Option, None, Result, Ok, refl, sym, ap, ◌∙◌, arith}
use Rattle.ncp_numbers.specs.Bytes.{bits_of_bytes}
use Rattle.ncp_numbers.proofs.Packing.{bytes_of-bits_of_bytes}
use Rattle.ncp_leader.specs.declared.fault.MessageFault.{MessageFault}
use Rattle.ncp_leader.specs.Message.{Message, message_in, message_with}
use Rattle.ncp_wire.specs.declared.command.Command.{Command}
use Rattle.ncp_wire.specs.declared.fault.CommandFault.{CommandFault}
use Rattle.ncp_wire.specs.Spelling.{IsCommand, spellings}
use Rattle.ncp_control.specs.Texts.{items_of}
use Rattle.ncp_control.specs.Reading.{commands_in, fault_in}
use Rattle.ncp_control.proofs.Reading.{spellings_small, spelled_alone}
use Rattle.ncp_peer.specs.Output.{leader_to, message_to}
use Rattle.ncp_transcript_two.specs.Tie.{IsText}
use Rattle.ncp_transcript_two.proofs.Written.{read}
use Rattle.ncp_monitor.specs.declared.finding.Finding.{Finding}
use Rattle.ncp_monitor.specs.declared.finding.ItemKind.{ItemKind}
use Rattle.ncp_monitor.specs.declared.monitor.Monitor.{Monitor}
use Rattle.ncp_monitor.specs.declared.view.View.{View}
use Rattle.ncp_interface.specs.Slots.{position_of}
use Rattle.ncp_monitor.specs.Tables.{view_in}
use Rattle.ncp_monitor.specs.Messages.{judged_bits, rule_of_message}
use Rattle.ncp_interface.specs.Contents.{is_unused, message_class, items_said}
use Rattle.ncp_monitor.specs.Phases.{early_finding, after_thing, item_findings, after_item, items_findings, after_items}
use Rattle.ncp_monitor.specs.Judged.{view_of, knows_zero, turn_at, said_findings, after_read, after_in, judges_coming, with_coming}
use Rattle.ncp_monitor.proofs.Passing.{Pass}
use Rattle.ncp_proof_monitor.proofs.Laid.{judged_made}
use Rattle.ncp_proof_monitor.proofs.Talking.{control_parted, message_flow}
use Rattle.ncp_proof_monitor.proofs.PhaseWalk.{and_not, not_full}

-- ---- the text of a control message

pub items : (cs : List Command) → All IsCommand cs → items_said (bits_of_bytes (spellings cs)) ≡ items_of cs None
items cs k =
    let alone = spelled_alone cs k in
    ap (λ (bs : List ℕ). items_of (commands_in bs) (fault_in bs)) (bytes_of-bits_of_bytes (spellings cs) (spellings_small cs k))
    ∙ ap (λ (ds : List Command). items_of ds (fault_in (spellings cs))) alone.0 ∙ ap (items_of cs) alone.1

abbrev pub control_of : ℕ → List Command → Message
control_of n cs = message_with (leader_to n 0) 8 (bits_of_bytes (spellings cs))

-- where nothing is found of the phase in what comes, all that is found is of what is said
pub control_found : (P : Finding → Bool) (monitor : Monitor) (at peer by n : ℕ) (cs : List Command) → All IsCommand cs
    → items_findings (turn_at monitor at peer by false) (items_of cs None) (view_of monitor at peer) ≡ []
    → Pass P (message_flow monitor at peer by false true (Ok (control_of n cs)))
    → Pass P (said_findings monitor at peer (turn_at monitor at peer by false) true (Ok (control_of n cs)))
control_found P monitor at peer by n cs k none =
    control_parted P monitor at peer by false (bits_of_bytes (spellings cs))
    (ap (λ (xs : List (Result Command CommandFault)). items_findings (turn_at monitor at peer by false) xs (view_of monitor at peer)) (items cs k) ∙ none) refl

pub control_view : (by n : ℕ) (busy : Option ℕ) (zero : Bool) (cs : List Command) (v : View) → All IsCommand cs
    → after_read (message_class (control_of n cs)) (record { by = by; sent = false; busy = busy; zero = zero }) (control_of n cs).text v ≡ after_items (record { by = by; sent = false; busy = busy; zero = zero }) (items_of cs None) v
control_view by n busy zero cs v k = ap (λ (xs : List (Result Command CommandFault)). after_items (record { by = by; sent = false; busy = busy; zero = zero }) xs v) (items cs k)

-- ---- a text

pub text_view : (by : ℕ) (busy : Option ℕ) (zero sent : Bool) (m : Message) (v : View) → is_unused m.leader.link ≡ false → (m.leader.link == 0) ≡ false
    → after_read (message_class m) (record { by = by; sent = sent; busy = busy; zero = zero }) m.text v ≡ after_thing (record { by = by; sent = sent; busy = busy; zero = zero }) ItemKind.Text v
text_view by busy zero sent m v x y = rw (x, y) refl

-- ---- the layout, which does not depend on the host in the leader

pub laid_alike : (one other on size : ℕ) (text : List Bool) → one < 256 → other < 256 → on < 256 → IsText size text → rule_of_message (message_in (message_to one on size text)) on (judged_bits (message_in (message_to one on size text)) (message_to one on size text)) ≡ None
    → rule_of_message (message_in (message_to other on size text)) on (judged_bits (message_in (message_to other on size text)) (message_to other on size text)) ≡ None
laid_alike one other on size text k l m fits e =
    ap (λ (r : Result Message MessageFault). rule_of_message r on (judged_bits r (message_to other on size text))) (read other on size text l m fits)
    ∙ ap (λ (len : ℕ). rule_of_message (Ok (message_with (leader_to one on) size text)) on len) (judged_made other on size text ∙ sym (judged_made one on size text))
    ∙ ap (λ (r : Result Message MessageFault). rule_of_message r on (judged_bits r (message_to one on size text))) (sym (read one on size text k m fits))
    ∙ e

-- ---- after too many messages were unacknowledged, nothing is reported of the phase

record Untold (n : ℕ) (busy : Option ℕ) (c : Command) (v : View) : Type 0 where
  none : item_findings (record { by = n; sent = false; busy = busy; zero = false }) (Ok c) v ≡ []
  told : (after_item (record { by = n; sent = false; busy = busy; zero = false }) (Ok c) v).told ≡ false

untold : (n : ℕ) (busy : Option ℕ) (c : Command) (v : View) → v.told ≡ false → Untold n busy c v
untold n busy Command.Rst v t = record { none = grind arith; told = grind arith }
untold n busy Command.Rrp v t = record { none = grind arith; told = grind arith }
untold n busy c v t = record { none = grind arith; told = t }

pub all_untold : (n : ℕ) (busy : Option ℕ) (cs : List Command) (v : View) → v.told ≡ false → items_findings (record { by = n; sent = false; busy = busy; zero = false }) (items_of cs None) v ≡ []
all_untold n busy [] v t = refl
all_untold n busy (c ∷ cs) v t =
    let one = untold n busy c v t in
    let w : View = after_item (record { by = n; sent = false; busy = busy; zero = false }) (Ok c) v in
    ap (λ (xs : List Finding). xs ++ items_findings (record { by = n; sent = false; busy = busy; zero = false }) (items_of cs None) w) one.none ∙ all_untold n busy cs w one.told

pub untold_text : (n : ℕ) (busy : Option ℕ) (zero : Bool) (v : View) → v.told ≡ false → early_finding (record { by = n; sent = false; busy = busy; zero = zero }) ItemKind.Text v ≡ None
untold_text n busy zero v t = grind arith

pub not_reported : (A : Monitor) (at peer : ℕ) → A.full ≡ true → (view_of A at peer).told ≡ false
not_reported A at peer f = and_not (view_in A.views at peer).told A.full f

pub zero_none : (A : Monitor) (at peer : ℕ) → A.full ≡ true → knows_zero A at peer ≡ false
zero_none A at peer f = grind arith

pub is_told : (A : Monitor) (at peer : ℕ) → (view_in A.views at peer).told ≡ true → A.full ≡ false → (view_of A at peer).told ≡ true
is_told A at peer t f = not_full (view_in A.views at peer).told A.full t f

-- ---- what a message that comes leaves

pub in_views : (u : Monitor) (at peer on : ℕ) → (after_in u at peer on).views ≡ u.views
in_views u at peer on = go (judges_coming u at peer)
  where
    go : (b : Bool) → (if b then record u { kept = with_coming u.kept (position_of peer at on u.kept) } else u).views ≡ u.views
    go true = refl
    go false = refl

pub in_full : (u : Monitor) (at peer on : ℕ) → (after_in u at peer on).full ≡ u.full
in_full u at peer on = go (judges_coming u at peer)
  where
    go : (b : Bool) → (if b then record u { kept = with_coming u.kept (position_of peer at on u.kept) } else u).full ≡ u.full
    go true = refl
    go false = refl
