-- A walk over a run: no message is sent on a link whose last message is unacknowledged, and no message is
-- changed when it is sent again.
use Rattle.std.proofs.Common.{◌≡◌, ℕ, ◌==◌, Bool, true, false, if◌then◌else◌, List, [], ◌∷◌, ◌++◌, Option, None, Some, option_map, option_to_list, refl, sym, subst}
use Rattle.ncp_slot.specs.Slots.{slot_at}
use Rattle.ncp_slot.proofs.Places.{slot_at-no_slots}
use Rattle.ncp_peer.specs.PeerState.{PeerState, new_state}
use Rattle.ncp_host.specs.Host.{Host, state_of, is_one_of, new_host}
use Rattle.ncp_host.specs.Turns.{next_output}
use Rattle.ncp_transcript.specs.declared.input.Input.{Input}
use Rattle.ncp_transcript.specs.declared.note.HostNote.{HostNote}
use Rattle.ncp_transcript.specs.After.{after_note}
use Rattle.ncp_transcript.specs.Noting.{note_of_message}
use Rattle.ncp_transcript.specs.Runs.{IsHostSaid, AreHostNotes}
use Rattle.ncp_transcript.proofs.Saying.{noted_said}
use Rattle.ncp_proof_runs.proofs.Said.{IsOut}
use Rattle.ncp_proof_runs.proofs.HostRuns.{Holds, out-turn, out-is}
use Rattle.ncp_proof_runs.proofs.EachPeer.{holds-after, new-holds}
use Rattle.ncp_monitor.specs.declared.finding.Rule.{Rule}
use Rattle.ncp_monitor.specs.declared.monitor.Monitor.{Monitor}
use Rattle.ncp_interface.specs.declared.imp_direction.ImpDirection.TheVariants.{ToImp, FromImp}
use Rattle.ncp_monitor.specs.Tables.{view_in}
use Rattle.ncp_interface.specs.Slots.{is_of}
use Rattle.ncp_monitor.specs.Judged.{new_monitor, sees, slot_of_link, same_of, by_host, out_rule, out_finding, record_findings, after_record}
use Rattle.ncp_proof_monitor.specs.Recordings.{gone_by, recording, findings_from, spares, begun_alone, NoFalseAlarm, is_of_link}
use Rattle.ncp_monitor.proofs.Passing.{Pass, both, is_said, goes}
use Rattle.ncp_proof_monitor.proofs.Spared.{rule_spared, spared}
use Rattle.ncp_proof_monitor.proofs.Steps.{noted}
use Rattle.ncp_proof_monitor.proofs.Goes.{used, rules_of_used}
use Rattle.ncp_proof_monitor.proofs.Leaders.{peers_parts, peer_of_turn}
use Rattle.ncp_proof_monitor.proofs.Shown.{Shows, allowed}
use Rattle.ncp_proof_monitor.proofs.HostSlots.{call_noted}
use Rattle.ncp_proof_monitor.proofs.Linked.{Follows, after_call, after_out_of, after_in_of}

unsaid : (r : Rule) → is_said r ≡ true → is_of_link r ≡ false
unsaid (Rule.Occupied link) e = absurd (cc)
unsaid (Rule.Changed link) e = absurd (cc)
unsaid rule e = refl

-- a message sent on a link breaks no rule of links
free : (me n : ℕ) (h : Host) (monitor : Monitor) (s : PeerState) (message : List Bool) (is : IsOut n message s) → state_of h n ≡ Some s → Follows me h monitor
    → Pass (spares is_of_link me) (option_to_list (out_finding monitor me n is.on message))
free me n h monitor s message is there f = go monitor.full refl
  where
    rules : Option Rule
    rules = out_rule (slot_of_link monitor me n is.on) (same_of monitor me n is.on message) is.on

    go : (b : Bool) → monitor.full ≡ b → Pass (spares is_of_link me) (option_to_list (if b then None else option_map (by_host me) rules))
    go true full = refl
    go false full =
        let none : rules ≡ None = allowed (is_of me n is.on) (view_in monitor.views me n).known monitor.kept (slot_at s.slots is.on) n is.on s.peer message ((f full).agrees n s there is.on) is.ready in
        subst (λ (o : Option Rule). Pass (spares is_of_link me) (option_to_list (option_map (by_host me) o))) (sym none) refl

walk : (ns : List ℕ) (me : ℕ) (given : List Input) (noted : List HostNote) (h : Host) (monitor : Monitor) → Holds ns h → is_one_of me ns ≡ false → AreHostNotes given noted h → Follows me h monitor
    → Pass (spares is_of_link me) (findings_from monitor me (recording given noted))
walk ns me [] noted h monitor k a p f = refl
walk ns me (input ∷ given) [] h monitor k a p f = refl
walk ns me (Input.Call call ∷ given) (note ∷ noted) h monitor k a p f =
    let said = noted_said (Input.Call call) note h p.0 in
    walk ns me given noted (after_note note h) monitor (holds-after ns note h k said) a p.1 (after_call ns me note h monitor k said (call_noted call note h p.0) f)
walk ns me (Input.In bits ∷ given) (note ∷ noted) h monitor k a p f =
    let after = after_record monitor FromImp me bits in
    let said = noted_said (Input.In bits) note h p.0 in
    both (spares is_of_link me) (record_findings monitor FromImp me bits) (findings_from after me (recording given noted)) (spared is_of_link me monitor bits)
    (walk ns me given noted (after_note note h) after (holds-after ns note h k said) a p.1 (after_in_of ns me h monitor bits note k a said p.0 f))
walk ns me (Input.Out ∷ given) (note ∷ noted) h monitor k a p f =
    let said = noted_said Input.Out note h p.0 in
    go (next_output h) refl p.0 said (λ u g. walk ns me given noted (after_note note h) u (holds-after ns note h k said) a p.1 g)
  where
    Rest : HostNote → Type 0
    Rest x = (u : Monitor) → Follows me (after_note x h) u → Pass (spares is_of_link me) (findings_from u me (recording given noted))

    Whole : HostNote → Type 0
    Whole x = Pass (spares is_of_link me) (findings_from monitor me (gone_by x ++ recording given noted))

    out : (message : List Bool) → next_output h ≡ Some message → IsHostSaid (HostNote.Out message) h → Rest (HostNote.Out message) → Whole (HostNote.Out message)
    out message q said rest =
        let t = out-turn ns h message k q in
        let is : IsOut t.n message t.s = out-is ns h message k t in
        let other = peer_of_turn ns me h message k a t in
        let after = after_record monitor ToImp me message in
        both (spares is_of_link me) (record_findings monitor ToImp me message) (findings_from after me (recording given noted))
        (goes (spares is_of_link me) monitor me t.n is.on message is.leader other
        (λ r s. rule_spared is_of_link me (by_host me r) (unsaid r s))
        (free me t.n h (sees monitor me) t.s message is t.found f)
        (λ r e. rule_spared is_of_link me (by_host me r) (rules_of_used is_of_link message t.n is.on r is.leader (used is.on is.a_link) (λ fault. refl) (λ size. refl) (λ flags low text rest. refl) e)))
        (rest after (after_out_of ns me t.n is.on h monitor message t.s k said is.leader other t.found f))

    go : (o : Option (List Bool)) → next_output h ≡ o → note ≡ note_of_message o → IsHostSaid note h → Rest note → Whole note
    go None q e said rest = subst Whole (sym e) ((subst Rest e rest) monitor f)
    go (Some message) q e said rest = subst Whole (sym e) (out message q (subst (λ (x : HostNote). IsHostSaid x h) e said) (subst Rest e rest))

-- at the beginning nothing is kept
pub follows_begins : (me : ℕ) (ns : List ℕ) → Follows me (new_host me ns) (new_monitor false)
follows_begins me ns full = record { agrees = λ n s e on. subst (λ (x : PeerState). Shows [] (slot_at x.slots on)) (sym (new ns n s e)) (slot_at-no_slots on) }
  where
    new : (ns : List ℕ) (n : ℕ) (s : PeerState) → state_of (new_host me ns) n ≡ Some s → s ≡ new_state
    new [] n s e = absurd (cc)
    new (m ∷ ns) n s e = by (m == n) (new ns n s) e
      where
        by : (b : Bool) → (state_of (new_host me ns) n ≡ Some s → s ≡ new_state) → (if b then Some new_state else state_of (new_host me ns) n) ≡ Some s → s ≡ new_state
        by true rest e = cc
        by false rest e = rest e

pub none_blamed : NoFalseAlarm is_of_link
none_blamed me ns given now peers places steps =
    let w = noted given (begun_alone me ns) now steps in
    let parts = peers_parts me ns peers in
    subst (λ (all : List HostNote). Pass (spares is_of_link me) (findings_from (new_monitor false) me (recording given all))) (sym w.1)
    (walk ns me given w.0 (new_host me ns) (new_monitor false) (new-holds me ns parts.0 places) parts.1 w.2 (follows_begins me ns))
