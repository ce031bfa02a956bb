-- The rules of resets (NIC 8246, RST and RRP; `Rule` in src/finding.rt says which are this project's own,
-- its profile). A side that sends an RST awaits an RRP of the other, and until then drops what arrives
-- from it. A host that is asked for an RRP sends nothing else before it. A host sends an RST or an RRP
-- while none of its data links is busy. If a host acts on something the other has not shown, the session
-- is suspended until the next reset: the wire does not show what was done. But it shows what is done while
-- an RRP is owed: an RRP is made as soon as no data link is busy, and from then on the host acts.
use Rattle.std.specs.Prelude.{◌==◌, not, ◌&&◌, ◌||◌, Bool, true, false, List, [], ◌∷◌, ◌++◌, Option, Some, None, is_some, option_map, Result, Ok, if◌then◌else◌}
use Rattle.std.specs.declared.result.Result.TheVariants.{Err as Fault}
use Rattle.std.specs.Option.{option_to_list}
use Rattle.ncp_wire.specs.declared.command.Command.{Command}
use Rattle.ncp_wire.specs.declared.fault.CommandFault.{CommandFault}
use Rattle.ncp_monitor.specs.declared.finding.Finding.{Finding}
use Rattle.ncp_monitor.specs.declared.finding.Rule.{Rule}
use Rattle.ncp_monitor.specs.declared.finding.Rule.TheVariants.{Bad, Early, RstAgain, RrpUnasked, Unquiet, RrpFirst, MissingRrp}
use Rattle.ncp_monitor.specs.declared.finding.ItemKind.{ItemKind}
use Rattle.ncp_monitor.specs.declared.finding.ItemKind.TheVariants as a
use Rattle.ncp_monitor.specs.declared.finding.Who.TheVariants.{Host}
use Rattle.ncp_monitor.specs.declared.view.ObservedPhase.{ObservedPhase}
use Rattle.ncp_monitor.specs.declared.view.Wait.TheVariants.{Answered, Even}
use Rattle.ncp_monitor.specs.declared.view.View.{View}
use Rattle.ncp_monitor.specs.declared.act.Act.{Act}
use Rattle.ncp_monitor.specs.declared.act.Act.TheVariants.{Reset, Reply, Other}
use Rattle.ncp_monitor.specs.declared.phase.MessageContext.{MessageContext}
use Rattle.ncp_monitor.specs.Views.{awaits_reply, is_answered_too_often, more_waiting, less_waiting, one_reset_more, one_less}
use Rattle.ncp_monitor.specs.Acts.{act_of}

-- a finding against the message's source
abbrev pub broken_by : MessageContext → Rule → Finding
broken_by context rule = record { who = Host context.by; rule = rule }

-- the source's side
abbrev pub sender : MessageContext → View → ObservedPhase
sender context view = if context.sent then view.host else view.peer

-- ---- items other than RST and RRP

abbrev pub is_text : ItemKind → Bool
is_text a.Text = true
is_text a.Bad = false
is_text a.Nop = false
is_text a.Rts = false
is_text a.Str = false
is_text a.Cls = false
is_text a.All = false
is_text a.Gvb = false
is_text a.Ret = false
is_text a.Inr = false
is_text a.Ins = false
is_text a.Eco = false
is_text a.Erp = false
is_text a.Err = false

-- an item is early before its source began, while its source awaits an RRP, and for the host itself while
-- it owes one; a text of a host whose session is suspended may have been sent before, so it is early only
-- while its source awaits an RRP
abbrev pub is_early : MessageContext → ItemKind → View → Bool
is_early context thing view =
    let side = sender context view in
    if context.sent && view.suspended && is_text thing then awaits_reply side.wait
    else not side.began || awaits_reply side.wait || (context.sent && view.owes)

abbrev pub early_rule : MessageContext → ItemKind → View → Rule
early_rule context thing view = let side = sender context view in Early thing side.began (awaits_reply side.wait) (context.sent && view.owes)

abbrev pub early_finding : MessageContext → ItemKind → View → Option Finding
early_finding context thing view = if not view.told || not (is_early context thing view) then None else Some (broken_by context (early_rule context thing view))

-- an item of the peer while the host owes it an RRP and awaits none, and the session is not suspended.
-- The host acts on it if none of its data links is busy, for then its RRP is made; else the host is
-- down, and drops the item
abbrev pub is_before_reply : MessageContext → View → Bool
is_before_reply context view = not context.sent && view.owes && not view.suspended && not (awaits_reply view.host.wait)

abbrev pub is_acted_on : MessageContext → View → Bool
is_acted_on context view = is_before_reply context view && not (is_some context.busy)

-- an early item suspends the session, unless it is known whether the host acts on it: the host awaits an
-- RRP and drops it, or owes one
abbrev pub after_thing : MessageContext → ItemKind → View → View
after_thing context thing view =
    let early = view.told && is_early context thing view in
    record view {
      suspended = view.suspended || (early && not (awaits_reply view.host.wait) && not (is_before_reply context view));
      desynced = view.desynced || (early && context.sent);
      acted = view.acted || (early && is_acted_on context view);
    }

-- ---- RST

-- in a partial capture the phase is known from the first RST that is observed while the state of link 0
-- is known, and while no RST of the host can be queued that was already answered
abbrev pub hears_reset : MessageContext → View → Bool
hears_reset context view = view.told || (context.zero && not (is_answered_too_often view.host.wait))

-- a second RST before the RRP
abbrev pub again_finding : MessageContext → View → Option Finding
again_finding context view = if not (awaits_reply (sender context view).wait) then None else Some (broken_by context RstAgain)

-- an RST or an RRP of the host itself while a data link of it is busy
abbrev pub unquiet_finding : Bool → MessageContext → View → Option Finding
unquiet_finding reply context view = if not context.sent || view.suspended then None else option_map (λ link. broken_by context (Unquiet reply link)) context.busy

-- an RST of the host itself before its owed RRP, if a busy data link delayed that
abbrev pub first_finding : MessageContext → View → Option Finding
first_finding context view = if context.sent && view.owes && view.first && not view.suspended then Some (broken_by context RrpFirst) else None

abbrev pub reset_findings : MessageContext → View → List Finding
reset_findings context view =
    if hears_reset context view
    then option_to_list (again_finding context view) ++ option_to_list (unquiet_finding false context view) ++ option_to_list (first_finding context view)
    else []

-- an RST of the host itself begins a fully observed session; but not after an unasked RRP, which may have
-- answered it while it was queued: then the host awaits no other
abbrev pub after_reset_of_host : MessageContext → View → View
after_reset_of_host context view =
    let answered = is_answered_too_often view.host.wait in
    record view {
      host = record view.host { began = true; wait = more_waiting view.host.wait };
      peer = record view.peer { asked = one_reset_more view.peer.asked };
      desynced = awaits_reply view.host.wait || is_some (unquiet_finding false context view) || answered;
      suspended = answered;
      acted = false;
      told = true;
      known = true;
    }

-- so does an RST of the peer, unless one of the peer's resets was answered twice. A suspension continues
-- while an RST is unanswered, since an RRP that was made before a data link became busy may still be
-- queued; and after an unasked RRP, since an RST may be
abbrev pub after_reset_of_peer : MessageContext → View → View
after_reset_of_peer context view =
    let wait = more_waiting view.peer.wait in
    record view {
      host = record view.host { asked = one_reset_more view.host.asked };
      peer = record view.peer { began = true; wait = wait };
      owes = true;
      first = is_some context.busy;
      suspended = not (awaits_reply wait) || (view.suspended && (is_answered_too_often view.host.wait || not (view.host.asked == 0)));
      acted = false;
      told = true;
    }

abbrev pub view_after_reset : MessageContext → View → View
view_after_reset context view =
    if hears_reset context view then if context.sent then after_reset_of_host context view else after_reset_of_peer context view
    else view

-- ---- RRP

-- an RRP for which no RST asked
abbrev pub unasked_finding : MessageContext → View → Option Finding
unasked_finding context view = let side = sender context view in if not (side.asked == 0) || side.admits then None else Some (broken_by context RrpUnasked)

abbrev pub reply_findings : MessageContext → View → List Finding
reply_findings context view =
    if view.told then option_to_list (unasked_finding context view) ++ option_to_list (unquiet_finding true context view)
    else []

-- the side after its own RRP
abbrev pub after_own_reply : ObservedPhase → ObservedPhase
after_own_reply side = record side { began = true; asked = one_less side.asked; admits = side.admits && not (side.asked == 0) }

-- after an RRP of the host itself no RRP is owed; the session is suspended if the peer did not await it,
-- or if a data link was busy
abbrev pub after_reply_of_host : MessageContext → View → View
after_reply_of_host context view =
    record view {
      host = after_own_reply view.host;
      peer = record view.peer { wait = less_waiting view.peer.wait };
      owes = false;
      suspended = view.suspended || is_some (unquiet_finding true context view) || not (awaits_reply view.peer.wait);
      acted = false;
      known = true;
    }

-- an RRP of the peer that the host awaited ends the reset. Another has no effect on the host, unless an RST
-- of it is queued; its next message shows whether one is
abbrev pub after_reply_of_peer : View → View
after_reply_of_peer view =
    record view {
      host = record view.host { wait = less_waiting view.host.wait };
      peer = after_own_reply view.peer;
      suspended = view.desynced || (view.owes && not (awaits_reply view.peer.wait)) || (view.suspended && not (awaits_reply view.host.wait));
    }

-- in a partial capture while the phase is not known: an RRP of the peer may answer an RST of the host
-- that is still queued
abbrev pub after_untold_reply : MessageContext → View → View
after_untold_reply context view = if context.sent then view else record view { host = record view.host { wait = Answered } }

abbrev pub view_after_reply : MessageContext → View → View
view_after_reply context view =
    if view.told then if context.sent then after_reply_of_host context view else after_reply_of_peer view
    else after_untold_reply context view

-- ---- items

-- a fault of a control text
abbrev pub bad_finding : MessageContext → Result Command CommandFault → Option Finding
bad_finding context (Ok command) = None
bad_finding context (Fault fault) = Some (broken_by context (Bad fault))

abbrev pub act_findings : MessageContext → Act → View → List Finding
act_findings context Reset view = reset_findings context view
act_findings context Reply view = reply_findings context view
act_findings context (Other thing) view = option_to_list (early_finding context thing view)

abbrev pub after_act : MessageContext → Act → View → View
after_act context Reset view = view_after_reset context view
after_act context Reply view = view_after_reply context view
after_act context (Other thing) view = after_thing context thing view

abbrev pub item_findings : MessageContext → Result Command CommandFault → View → List Finding
item_findings context item view = option_to_list (bad_finding context item) ++ act_findings context (act_of item) view

abbrev pub after_item : MessageContext → Result Command CommandFault → View → View
after_item context item view = after_act context (act_of item) view

-- all items of a control text, in order
abbrev pub items_findings : MessageContext → List (Result Command CommandFault) → View → List Finding
items_findings context [] view = []
items_findings context (item ∷ items) view = item_findings context item view ++ items_findings context items (after_item context item view)

abbrev pub after_items : MessageContext → List (Result Command CommandFault) → View → View
after_items context [] view = view
after_items context (item ∷ items) view = after_items context items (after_item context item view)

-- after a control message of a host with room for one more command, no command of the host is queued; in
-- particular, no RST that an RRP could have answered
abbrev pub after_room : MessageContext → Bool → View → View
after_room context room view =
    if context.sent && room && (not view.told || is_answered_too_often view.host.wait) then record view { host = record view.host { wait = Even } } else view

-- so if the host owes an RRP and no data link is busy, it left the RRP out
abbrev pub missing_finding : MessageContext → Bool → View → Option Finding
missing_finding context room view =
    if context.sent && room && view.told && view.owes && not view.suspended && not (is_some context.busy) then Some (broken_by context MissingRrp)
    else None
