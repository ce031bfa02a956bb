-- A message of one of two hosts comes to the other: by what was seen of its host before, nothing is found in it but of what
-- is said.
use Rattle.std.proofs.Common.{◌≡◌, ℕ, ◌<◌, ◌==◌, Bool, true, false, List, [], ◌++◌, length, All, Option, None, Result, Ok, option_map, option_to_list, refl, sym, ap, ◌∙◌, subst}
use Rattle.ncp_leader.specs.declared.fault.MessageFault.{MessageFault}
use Rattle.ncp_leader.specs.Leader.{leader_in}
use Rattle.ncp_leader.specs.Message.{Message, message_in}
use Rattle.ncp_wire.specs.declared.command.Command.{Command}
use Rattle.ncp_wire.specs.Spelling.{IsCommand}
use Rattle.ncp_control.specs.Texts.{items_of}
use Rattle.ncp_model.specs.Phase.{Phase}
use Rattle.ncp_peer.specs.Output.{leader_to}
use Rattle.ncp_monitor.specs.declared.finding.Finding.{Finding}
use Rattle.ncp_monitor.specs.declared.finding.Rule.{Rule}
use Rattle.ncp_monitor.specs.declared.finding.ItemKind.{ItemKind}
use Rattle.ncp_monitor.specs.declared.monitor.Monitor.{Monitor}
use Rattle.ncp_monitor.specs.declared.view.View.{View}
use Rattle.ncp_monitor.specs.declared.views.TheConstants.{VIEWS}
use Rattle.ncp_interface.specs.declared.imp_direction.ImpDirection.TheVariants.{FromImp}
use Rattle.ncp_interface.specs.Slots.{busy_link}
use Rattle.ncp_monitor.specs.Tables.{view_in}
use Rattle.ncp_monitor.specs.Messages.{judged_bits, rule_of_message}
use Rattle.ncp_interface.specs.Contents.{is_unused, message_class}
use Rattle.ncp_monitor.specs.Phases.{early_finding, items_findings, after_items}
use Rattle.ncp_monitor.specs.Judged.{by_host, sees, view_of, knows_zero, unsent_finding, after_in, turn_at, after_read, said_findings, message_findings, after_said, record_findings, after_record}
use Rattle.ncp_monitor.proofs.Passing.{Pass}
use Rattle.ncp_proof_monitor.proofs.Talking.{text_parted}
use Rattle.ncp_monitor.proofs.Following.{in_is, said_keeps}
use Rattle.ncp_proof_monitor.proofs.PhaseSeen.{view_same}
use Rattle.ncp_proof_monitor_messages.proofs.Quiet.{phase_quiet, quiet_flow}
use Rattle.ncp_proof_monitor_messages.proofs.Ways.{in_found}
use Rattle.ncp_proof_monitor_messages.proofs.AsRead.{control_of, control_found, control_view, text_view, all_untold, untold_text, not_reported, zero_none, is_told, in_views, in_full}
use Rattle.ncp_proof_monitor_messages.proofs.PeerSeen.{AllHeard}
use Rattle.ncp_proof_monitor_messages.proofs.OwnOut.{Alike}

-- commands that come, as they were heard
pub record HeardSo (cs : List Command) (h : Phase) (y rest : List Command) (v now : View) : Type 0 where
  pub first : View
  pub alike : Alike v first
  pub found : List Finding
  pub all : AllHeard cs h y rest first now found

module _ (me n on : ℕ) (bits : List Bool) (x : Message) (u : Monitor) (differ : (n == me) ≡ false) (small : me < 256) (few : n < 256) (long : length u.views ≡ VIEWS)
    (led : leader_in bits ≡ Ok (leader_to n on)) (read : message_in bits ≡ Ok x) (laid : rule_of_message (message_in bits) on (judged_bits (message_in bits) bits) ≡ None) (sent : unsent_finding (sees u me) me n on bits ≡ None) where
  abbrev pub A : Monitor
  A = after_in (sees u me) me n on

  abbrev pub v : View
  v = view_in u.views me n

  abbrev pub first : View
  first = view_of A me n

  abbrev pub busy : Option ℕ
  busy = busy_link me n A.kept

  pub views : A.views ≡ u.views
  views = in_views (sees u me) me n on

  pub full_as : A.full ≡ u.full
  full_as = in_full (sees u me) me n on

  pub found : record_findings u FromImp me bits ≡ said_findings A me n (turn_at A me n n false) true (Ok x)
  found =
      in_found u me n on bits led differ
      ∙ ap (λ (o : Option Finding). option_to_list o ++ message_findings A me n (turn_at A me n n false) true on bits) sent
      ∙ ap (λ (o : Option Rule). option_to_list (option_map (by_host n) o) ++ said_findings A me n (turn_at A me n n false) true (message_in bits)) laid
      ∙ ap (λ (r : Result Message MessageFault). said_findings A me n (turn_at A me n n false) true r) read

  pub view_now : view_in (after_record u FromImp me bits).views me n ≡ after_read (message_class x) (record { by = n; sent = false; busy = busy; zero = knows_zero A me n }) x.text first
  view_now =
      ap (λ (y : Monitor). view_in y.views me n) (in_is u me bits (leader_to n on) false led differ refl refl)
      ∙ ap (λ (r : Result Message MessageFault). view_in (after_said A me n (turn_at A me n n false) true r).views me n) read
      ∙ view_same A.views me n (after_read (message_class x) (record { by = n; sent = false; busy = busy; zero = knows_zero A me n }) x.text first) (ap (λ (z : List View). length z) views ∙ long) small few

  pub full_same : (after_record u FromImp me bits).full ≡ u.full
  full_same = ap (λ (y : Monitor). y.full) (in_is u me bits (leader_to n on) false led differ refl refl) ∙ (said_keeps A me n (turn_at A me n n false) true (message_in bits)).1 ∙ full_as

  pub alike : v.told ≡ true → u.full ≡ false → Alike v first
  alike t f = record {
    told = is_told A me n (ap (λ (z : List View). (view_in z me n).told) views ∙ t) (full_as ∙ f);
    host = ap (λ (z : List View). (view_in z me n).host) views;
    peer = ap (λ (z : List View). (view_in z me n).peer) views;
  }

  -- commands
  pub commands_found : (cs : List Command) → All IsCommand cs → x ≡ control_of n cs
      → (u.full ≡ false → items_findings (record { by = n; sent = false; busy = busy; zero = knows_zero A me n }) (items_of cs None) first ≡ [])
      → Pass phase_quiet (record_findings u FromImp me bits)
  commands_found cs k is none =
      subst (λ (fs : List Finding). Pass phase_quiet fs) (sym (found ∙ ap (λ (y : Message). said_findings A me n (turn_at A me n n false) true (Ok y)) is))
      (control_found phase_quiet A me n n n cs k (go u.full refl) (quiet_flow A me n n false true (Ok (control_of n cs))))
    where
      go : (b : Bool) → u.full ≡ b → items_findings (record { by = n; sent = false; busy = busy; zero = knows_zero A me n }) (items_of cs None) first ≡ []
      go false f = none f
      go true f =
          ap (λ (z : Bool). items_findings (record { by = n; sent = false; busy = busy; zero = z }) (items_of cs None) first) (zero_none A me n (full_as ∙ f))
          ∙ all_untold n busy cs first (not_reported A me n (full_as ∙ f))

  pub commands_view : (cs : List Command) → All IsCommand cs → x ≡ control_of n cs → view_in (after_record u FromImp me bits).views me n ≡ after_items (record { by = n; sent = false; busy = busy; zero = knows_zero A me n }) (items_of cs None) first
  commands_view cs k is = view_now ∙ ap (λ (y : Message). after_read (message_class y) (record { by = n; sent = false; busy = busy; zero = knows_zero A me n }) y.text first) is ∙ control_view n n busy (knows_zero A me n) cs first k

  -- a text
  pub text_none : is_unused x.leader.link ≡ false → (x.leader.link == 0) ≡ false → (u.full ≡ false → early_finding (record { by = n; sent = false; busy = busy; zero = knows_zero A me n }) ItemKind.Text first ≡ None)
      → Pass phase_quiet (record_findings u FromImp me bits)
  text_none right z none = subst (Pass phase_quiet) (sym found) (text_parted phase_quiet A me n n false x right z (go u.full refl) (quiet_flow A me n n false true (Ok x)))
    where
      go : (b : Bool) → u.full ≡ b → early_finding (record { by = n; sent = false; busy = busy; zero = knows_zero A me n }) ItemKind.Text first ≡ None
      go false f = none f
      go true f = untold_text n busy (knows_zero A me n) first (not_reported A me n (full_as ∙ f))

  pub text_alike : is_unused x.leader.link ≡ false → (x.leader.link == 0) ≡ false → v.told ≡ true → u.full ≡ false → Alike v (view_in (after_record u FromImp me bits).views me n)
  text_alike right z t f =
      let a = alike t f in
      subst (Alike v) (sym (view_now ∙ text_view n busy (knows_zero A me n) false x first right z)) (record { told = a.told; host = a.host; peer = a.peer })

  pub commands_come : (cs : List Command) (h : Phase) (y rest : List Command) → All IsCommand cs → x ≡ control_of n cs → (u.full ≡ false → v.told ≡ true)
      → (u.full ≡ false → (w : View) (b : Option ℕ) (z : Bool) → Alike v w → AllHeard cs h y rest w (after_items (record { by = n; sent = false; busy = b; zero = z }) (items_of cs None) w) (items_findings (record { by = n; sent = false; busy = b; zero = z }) (items_of cs None) w))
      → Pass phase_quiet (record_findings u FromImp me bits) × (u.full ≡ false → HeardSo cs h y rest v (view_in (after_record u FromImp me bits).views me n))
  commands_come cs h y rest k is told heard = (
    commands_found cs k is (λ f. (heard f first busy (knows_zero A me n) (alike (told f) f)).none),
    λ f. subst (HeardSo cs h y rest v) (sym (commands_view cs k is)) (record { first = first; alike = alike (told f) f; found = _; all = heard f first busy (knows_zero A me n) (alike (told f) f) }),
  )

  pub text_comes : is_unused x.leader.link ≡ false → (x.leader.link == 0) ≡ false → (u.full ≡ false → v.told ≡ true)
      → (u.full ≡ false → (w : View) (b : Option ℕ) (z : Bool) → Alike v w → early_finding (record { by = n; sent = false; busy = b; zero = z }) ItemKind.Text w ≡ None)
      → Pass phase_quiet (record_findings u FromImp me bits) × (u.full ≡ false → Alike v (view_in (after_record u FromImp me bits).views me n))
  text_comes right z told early = (
    text_none right z (λ f. early f first busy (knows_zero A me n) (alike (told f) f)),
    λ f. text_alike right z (told f) f,
  )
