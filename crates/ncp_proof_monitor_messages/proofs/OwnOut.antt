-- The observations at the interface of a host after it sent a message.
use Rattle.std.proofs.Common.{◌≡◌, ℕ, ◌+◌, ◌<◌, ◌==◌, Bool, true, false, not, ◌||◌, if◌then◌else◌, List, ◌++◌, length, All, None, Some, Result, Ok, Err, filter, refl, sym, ap, ◌∙◌, subst, arith}
use Rattle.ncp_numbers.specs.Bytes.{bits_of_bytes}
use Rattle.ncp_leader.specs.declared.fault.MessageFault.{MessageFault}
use Rattle.ncp_leader.specs.Leader.{leader_in}
use Rattle.ncp_leader.specs.Message.{Message, message_in, message_with}
use Rattle.ncp_wire.specs.declared.command.Command.{Command}
use Rattle.ncp_wire.specs.declared.fault.CommandFault.{CommandFault}
use Rattle.ncp_wire.specs.Spelling.{IsCommand, spellings}
use Rattle.ncp_control.specs.Texts.{items_of}
use Rattle.ncp_slot.specs.Slot.{is_empty}
use Rattle.ncp_slot.specs.Slots.{LinkSlot}
use Rattle.ncp_model.specs.Phase.{Phase}
use Rattle.ncp_model.specs.Peers.{Peer}
use Rattle.ncp_model.proofs.ResetLists.{bit, rsts}
use Rattle.ncp_peer.specs.Output.{leader_to, output_by}
use Rattle.ncp_monitor.specs.declared.monitor.Monitor.{Monitor}
use Rattle.ncp_monitor.specs.declared.view.ObservedPhase.{ObservedPhase}
use Rattle.ncp_monitor.specs.declared.view.View.{View}
use Rattle.ncp_monitor.specs.declared.views.TheConstants.{VIEWS}
use Rattle.ncp_interface.specs.declared.imp_direction.ImpDirection.TheVariants.{ToImp}
use Rattle.ncp_interface.specs.Contents.{is_unused, message_class}
use Rattle.ncp_monitor.specs.Phases.{after_items, after_room}
use Rattle.ncp_interface.specs.Slots.{is_of, busy_link, position_of, kept_slot, same_at, gone_out, has_room, with_out}
use Rattle.ncp_monitor.specs.Tables.{view_in, with_view}
use Rattle.ncp_monitor.specs.Views.{awaits_reply, is_answered_too_often}
use Rattle.ncp_monitor.specs.Judged.{sees, view_of, knows_zero, slot_of_link, same_of, is_fresh, fresh_out, view_after_out, monitor_after_out, turn_at, shows_all, after_read, after_said, after_record}
use Rattle.ncp_monitor.proofs.Following.{out_is, said_keeps}
use Rattle.ncp_proof_monitor.proofs.Fresh.{New, is_new}
use Rattle.ncp_proof_monitor.proofs.PhaseSeen.{view_same, view_length}
use Rattle.ncp_proof_monitor.proofs.Shown.{Shows}
use Rattle.ncp_proof_monitor_messages.proofs.PeerSeen.{Beside, Sent, all_sent}
use Rattle.ncp_proof_monitor_messages.proofs.AsRead.{items, control_of, text_view, is_told}

-- the same is seen of both
pub record Alike (v now : View) : Type 0 where
  pub told : now.told ≡ true
  pub host : now.host ≡ v.host
  pub peer : now.peer ≡ v.peer

pub beside_alike : (k : Phase) (v now : View) → Alike v now → Beside k v → Beside k now
beside_alike k v now a b = record {
  told = a.told;
  waits = ap (λ (s : ObservedPhase). bit (awaits_reply s.wait)) a.peer ∙ b.waits;
  mandatory = ap (λ (s : ObservedPhase). is_answered_too_often s.wait) a.peer ∙ b.mandatory;
  asked = ap (λ (s : ObservedPhase). s.asked + rsts k.waiting) a.peer ∙ b.asked;
  own = ap (λ (s : ObservedPhase). s.asked) a.peer ∙ b.own ∙ ap (λ (s : ObservedPhase). bit (awaits_reply s.wait)) (sym a.host);
  own_sure = ap (λ (s : ObservedPhase). is_answered_too_often s.wait) a.host ∙ b.own_sure;
  unborn = λ e. ap (λ (s : ObservedPhase). awaits_reply s.wait) a.peer ∙ b.unborn (ap (λ (s : ObservedPhase). s.began) (sym a.peer) ∙ e);
  alone = λ e f. ap (λ (s : ObservedPhase). awaits_reply s.wait) a.host ∙ b.alone (ap (λ (s : ObservedPhase). s.began) (sym a.peer) ∙ e) (ap (λ (s : ObservedPhase). s.began) (sym a.host) ∙ f);
}

module _ (me n on : ℕ) (m : List Bool) (slot : LinkSlot) (p : Peer) (u : Monitor) (differ : (n == me) ≡ false) (small : me < 256) (few : n < 256) (long : length u.views ≡ VIEWS)
    (led : leader_in m ≡ Ok (leader_to n on)) (ready : output_by slot n on p ≡ Some m) (told : (view_in u.views me n).told ≡ true) (known : (view_in u.views me n).known ≡ true)
    (shown : u.full ≡ false → Shows (filter (is_of me n on) u.kept) slot) (full : (after_record u ToImp me m).full ≡ false) where
  abbrev pub A : Monitor
  A = monitor_after_out (sees u me) me n on m

  abbrev pub v : View
  v = view_in u.views me n

  abbrev pub fresh : Bool
  fresh = fresh_out (sees u me) me n on m

  abbrev pub said : Monitor
  said = after_said A me n (turn_at A me n me true) fresh (message_in m)

  pub is : after_record u ToImp me m ≡ said
  is = out_is u me n on m led differ

  pub full_A : A.full ≡ false
  full_A = sym (said_keeps A me n (turn_at A me n me true) fresh (message_in m)).1 ∙ ap (λ (x : Monitor). x.full) (sym is) ∙ full

  abbrev pub out_view : View
  out_view = view_after_out v on (slot_of_link (sees u me) me n on) (same_of (sees u me) me n on m)

  abbrev pub put : Monitor
  put = record (sees u me) {
    full = not (has_room u.kept (position_of me n on u.kept));
    views = with_view u.views me n out_view;
    kept = with_out u.kept (position_of me n on u.kept) (gone_out me n on m);
  }

  pub roomy : u.full ≡ false
  roomy = by u.full refl full_A
    where
      by : (b : Bool) → u.full ≡ b → (if b then sees u me else put).full ≡ false → b ≡ false
      by true f e = sym f ∙ e
      by false f e = refl

  views : A.views ≡ with_view u.views me n out_view
  views = ap (λ (b : Bool). (if b then sees u me else put).views) roomy

  pub seen : view_in A.views me n ≡ out_view
  seen = ap (λ (x : List View). view_in x me n) views ∙ view_same u.views me n out_view long small few

  long_A : length A.views ≡ VIEWS
  long_A = ap (λ (x : List View). length x) views ∙ view_length u.views me n out_view ∙ long

  pub is_fresh_out : fresh ≡ is_empty slot
  is_fresh_out =
      ap (λ (b : Bool). b || is_fresh (slot_of_link (sees u me) me n on) (same_of (sees u me) me n on m)) roomy
      ∙ (subst (λ (b : Bool). New (kept_slot b u.kept (position_of me n on u.kept)) (same_at u.kept (position_of me n on u.kept) m) slot) (sym known)
      (is_new (is_of me n on) u.kept slot n on p m (shown roomy) ready)).fresh

  view_alike : Alike v (view_in A.views me n)
  view_alike = record { told = ap (λ (x : View). x.told) seen ∙ told; host = ap (λ (x : View). x.host) seen; peer = ap (λ (x : View). x.peer) seen }

  of_alike : Alike v (view_of A me n)
  of_alike = record { told = is_told A me n view_alike.told full_A; host = view_alike.host; peer = view_alike.peer }

  -- it is sent again
  pub again : is_empty slot ≡ false → Alike v (view_in (after_record u ToImp me m).views me n)
  again e =
      subst (λ (x : Monitor). Alike v (view_in x.views me n)) (sym is)
      (subst (λ (b : Bool). Alike v (view_in (after_said A me n (turn_at A me n me true) b (message_in m)).views me n)) (sym (is_fresh_out ∙ e)) (by (message_in m)))
    where
      by : (r : Result Message MessageFault) → Alike v (view_in (after_said A me n (turn_at A me n me true) false r).views me n)
      by (Ok x) = view_alike
      by (Err x) = view_alike

  -- it is read
  pub read_on : (x : Message) → is_empty slot ≡ true → message_in m ≡ Ok x → view_in (after_record u ToImp me m).views me n ≡ after_read (message_class x) (turn_at A me n me true) x.text (view_of A me n)
  read_on x e r =
      ap (λ (y : Monitor). view_in y.views me n) is
      ∙ ap (λ (b : Bool). view_in (after_said A me n (turn_at A me n me true) b (message_in m)).views me n) (is_fresh_out ∙ e)
      ∙ ap (λ (o : Result Message MessageFault). view_in (after_said A me n (turn_at A me n me true) true o).views me n) r
      ∙ view_same A.views me n (after_read (message_class x) (turn_at A me n me true) x.text (view_of A me n)) long_A small few

  -- a text
  pub text_goes : (size : ℕ) (text : List Bool) → is_empty slot ≡ true → is_unused on ≡ false → (on == 0) ≡ false → message_in m ≡ Ok (message_with (leader_to n on) size text) → Alike v (view_in (after_record u ToImp me m).views me n)
  text_goes size text e right z r =
      subst (Alike v) (sym (read_on (message_with (leader_to n on) size text) e r ∙ text_view me (busy_link me n A.kept) (knows_zero A me n) true (message_with (leader_to n on) size text) (view_of A me n) right z))
      (record { told = of_alike.told; host = of_alike.host; peer = of_alike.peer })

  reported_room : (room : Bool) (w : View) → w.told ≡ true → is_answered_too_often w.host.wait ≡ false → after_room (record { by = me; sent = true; busy = busy_link me n A.kept; zero = knows_zero A me n }) room w ≡ w
  reported_room true w t a = grind arith
  reported_room false w t a = refl

  -- commands
  pub commands_go : (cs rest : List Command) → is_empty slot ≡ true → All IsCommand cs → message_in m ≡ Ok (control_of n cs) → p.phase.waiting ≡ cs ++ rest → Beside p.phase v → Sent p.phase rest (view_of A me n) (view_in (after_record u ToImp me m).views me n)
  commands_go cs rest e k r w b =
      let sent = all_sent me (busy_link me n A.kept) (knows_zero A me n) cs rest p.phase (view_of A me n) (subst (λ (x : List Command). Beside (record p.phase { waiting = x }) (view_of A me n)) w (beside_alike p.phase v (view_of A me n) of_alike b)) in
      let after : View = after_items (record { by = me; sent = true; busy = busy_link me n A.kept; zero = knows_zero A me n }) (items_of cs None) (view_of A me n) in
      subst (Sent p.phase rest (view_of A me n))
      (sym (read_on (control_of n cs) e r
      ∙ ap (λ (xs : List (Result Command CommandFault)). after_room (record { by = me; sent = true; busy = busy_link me n A.kept; zero = knows_zero A me n }) (shows_all (bits_of_bytes (spellings cs)) (view_of A me n)) (after_items (record { by = me; sent = true; busy = busy_link me n A.kept; zero = knows_zero A me n }) xs (view_of A me n))) (items cs k)
      ∙ reported_room (shows_all (bits_of_bytes (spellings cs)) (view_of A me n)) after sent.beside.told sent.beside.own_sure))
      sent

  pub before : Alike v (view_of A me n)
  before = of_alike
