-- If one of two hosts is up, the entries at the interfaces of both, with the commands in flight to them,
-- are few: each connection that is observed there has an end there, or a queued CLS; and all that the
-- other observes is observed there too, except for what is in flight.
use Rattle.std.proofs.Common.{◌≡◌, ℕ, suc, ◌+◌, ◌*◌, ◌≤◌, Bool, true, false, not, ◌||◌, if◌then◌else◌, List, [], ◌∷◌, length, is_some, refl, sym, ap, ◌∙◌, subst, arith}
use Rattle.std.specs.List.{filter}
use Rattle.std.specs.FinMap.{entries}
use Rattle.ncp_wire.specs.declared.command.Command.{Command}
use Rattle.ncp_model.specs.declared.limits.TheConstants.{MAX_WAITING}
use Rattle.ncp_model.specs.Peers.{Peer}
use Rattle.ncp_model.specs.Phase.{up, is_rst, is_rrp, is_other}
use Rattle.ncp_model.proofs.ResetLists.{bit, rsts}
use Rattle.ncp_transcript_two.specs.Between.{Hosts}
use Rattle.ncp_transcript_two.specs.Seen.{seen, had_for}
use Rattle.ncp_transcript_two.proofs.Waiting.{few-wait}
use Rattle.ncp_monitor.specs.declared.monitor.Monitor.{Monitor}
use Rattle.ncp_monitor.specs.declared.view.View.{View}
use Rattle.ncp_monitor.specs.ConnStates.{SeenTables}
use Rattle.ncp_monitor.specs.Tables.{view_in}
use Rattle.ncp_monitor.specs.Views.{awaits_reply}
use Rattle.ncp_slot.specs.Slots.{is_quiet}
use Rattle.ncp_proof_monitor.proofs.Phased.{none_queued}
use Rattle.ncp_proof_monitor_host.proofs.Spoken.{Tells}
use Rattle.ncp_proof_monitor_messages.proofs.Both.{there, own_seen}
use Rattle.ncp_proof_monitor_messages.proofs.Counts.{line}
use Rattle.ncp_proof_monitor_network.proofs.Said.{Said, SaidAlike, unspoken}
use Rattle.ncp_proof_monitor_network.proofs.ReadAs.{ReadAs}
use Rattle.ncp_proof_monitor_network.proofs.Hears.{hears}
use Rattle.ncp_proof_monitor_network.proofs.AbreastSteps.{turn_abreast}
use Rattle.ncp_proof_monitor_network.proofs.Floats.{floats}
use Rattle.ncp_proof_monitor_network.proofs.SessionInvariants.{SessionOf, Known}
use Rattle.ncp_proof_follow.proofs.EndsFew.{few_ends}
use Rattle.ncp_proof_follow.proofs.FewHeld.{few_seen, few_lives_up, few_lives_there}
use Rattle.ncp_proof_follow.proofs.Fewer.{lives_at, others_in, Fewer}

hears_length : (waits : Bool) (u : List Command) → length (hears waits u) ≤ length u
hears_length waits [] = omega arith
hears_length true (c ∷ u) = let l = hears_length (not (is_rrp c)) u in omega (arith, l)
hears_length false (c ∷ u) = go (is_rst c) (is_rrp c) (hears_length false u)
  where
    go : (a b : Bool) → length (hears false u) ≤ length u → length (if a then [] else if b then hears false u else c ∷ hears false u) ≤ suc (length u)
    go true b l = omega arith
    go false true l = omega (arith, l)
    go false false l = omega (arith, l)

others_length : (u : List Command) → others_in u ≤ length u
others_length [] = omega arith
others_length (c ∷ u) = go (is_other c) (others_length u)
  where
    go : (b : Bool) → length (filter is_other u) ≤ length u → length (if b then c ∷ filter is_other u else filter is_other u) ≤ suc (length u)
    go true l = omega (arith, l)
    go false l = omega (arith, l)

-- one that waits for a reply has seen nothing
none_seen : (me n : ℕ) (b : SeenTables) (x : Said) → ReadAs me n b x → SaidAlike x unspoken → lives_at me n b ≤ 0
none_seen me n b x r e = few_seen me n b [] r.unique (λ u k. let nay : false ≡ true = sym (ap is_some (r.shapes u ∙ e.shapes u)) ∙ k in absurd (cc nay))

pub few_where_up : (w : Hosts) (monitor : Monitor) → Known w monitor → monitor.full ≡ false → monitor.conn_tables.full ≡ false → length (line (seen w).this (seen w).going) ≤ 120 → length (line (seen w).that (seen w).coming) ≤ 120
    → up (had_for w.number_b w.a).peer.phase ≡ true → Fewer w monitor
few_where_up w monitor k full room going coming is_up = record { going_short = going; coming_short = coming; this = this; that = that (awaits_reply vb.host.wait) refl }
  where
    va : View
    va = view_in monitor.views w.number_a w.number_b

    vb : View
    vb = view_in monitor.views w.number_b w.number_a

    parley : SessionOf w monitor (line (seen w).this (seen w).going) (line (seen w).that (seen w).coming) (floats (seen w).this (seen w).going) (floats (seen w).that (seen w).coming)
    parley = k.1.parley full room

    no_resets : rsts (had_for w.number_b w.a).peer.phase.waiting ≡ 0
    no_resets = none_queued (had_for w.number_b w.a).peer.phase (is_quiet (had_for w.number_b w.a).slots) va is_up parley.awake_h.own_even (own_seen w monitor k.0 full).stands.phased

    tells : Tells w.number_a w.number_b (had_for w.number_b w.a).peer.ends (had_for w.number_b w.a).peer.echoes.awaited (had_for w.number_b w.a).peer.phase.waiting monitor.conn_tables
    tells = (k.1.talks_a.spoken full room w.number_b (had_for w.number_b w.a) (there w monitor k.0)).tells parley.awake_h.suspended no_resets is_up

    few : length (entries (had_for w.number_b w.a).peer.ends) ≤ 128
    few = subst (λ (p : Peer). length (entries p.ends) ≤ 128) (sym k.0.joined.model.1.this.peer) (few_ends k.0.joined.model.1.reached).0

    waiting : length (had_for w.number_b w.a).peer.phase.waiting ≤ MAX_WAITING
    waiting = subst (λ (p : Peer). length p.phase.waiting ≤ MAX_WAITING) (sym k.0.joined.model.1.this.peer) (few-wait k.0.joined.model.0 k.0.joined.model.1.reached).0

    conns : lives_at w.number_a w.number_b monitor.conn_tables ≤ 640
    conns =
        let l = few_lives_up w.number_a w.number_b (had_for w.number_b w.a).peer.ends (had_for w.number_b w.a).peer.phase.waiting monitor.conn_tables parley.session.at_h.unique parley.session.at_h.calm tells.meets.tally.pairs in
        omega (arith, l, few, waiting)

    this : lives_at w.number_a w.number_b monitor.conn_tables + 3 * others_in (line (seen w).that (seen w).coming) ≤ 1240
    this = let l = others_length (line (seen w).that (seen w).coming) in omega (arith, conns, l, coming)

    -- it waits for no reply
    waits_not : awaits_reply va.host.wait ≡ false
    waits_not = go (awaits_reply va.host.wait) refl
      where
        last : (x d : Bool) → not (x || d) ≡ true → d ≡ false
        last true d e = absurd (cc e)
        last false true e = absurd (cc e)
        last false false e = refl

        go : (b : Bool) → awaits_reply va.host.wait ≡ b → awaits_reply va.host.wait ≡ false
        go false e = e
        go true e =
            let p = (had_for w.number_b w.a).peer.phase in
            let waits = (own_seen w monitor k.0 full).stands.phased.waits e in
            let nay : true ≡ false = sym waits ∙ last (p.down || p.want || p.owe) p.wait is_up in absurd (cc nay)

    that : (wk : Bool) → awaits_reply vb.host.wait ≡ wk → lives_at w.number_b w.number_a monitor.conn_tables + 3 * others_in (line (seen w).this (seen w).going) ≤ 1240
    that true e =
        let none = none_seen w.number_b w.number_a monitor.conn_tables parley.session.y parley.session.at_k (parley.session.empty_k e) in
        let l = others_length (line (seen w).this (seen w).going) in omega (arith, none, l, going)
    that false e =
        let ours = parley.session.matched.ours in
        let theirs = parley.session.matched.theirs in
        let wh = ap bit waits_not in
        let wk = ap bit e in
        let a = parley.session.abreast (omega (arith, ours, wh)) (omega (arith, theirs, wk)) in
        let l = few_lives_there w.number_b w.number_a monitor.conn_tables (turn_abreast a) parley.session.at_k parley.session.at_h in
        let i = hears_length (awaits_reply va.host.wait) (line (seen w).that (seen w).coming) in
        let j = hears_length (awaits_reply vb.host.wait) (line (seen w).this (seen w).going) in
        let o = others_length (line (seen w).this (seen w).going) in omega (arith, l, conns, i, j, o, going, coming)
