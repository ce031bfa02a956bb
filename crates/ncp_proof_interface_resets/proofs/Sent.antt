-- A message that the host sends: nothing is found in it.
use Rattle.std.proofs.Common.{◌≡◌, inl, inr, ℕ, ◌<◌, ◌==◌, Bool, true, false, not, if◌then◌else◌, List, [], ◌++◌, filter, Option, None, Some, is_some, option_map, option_to_list, slice_set, refl, sym, ap, ◌∙◌, subst}
use Rattle.ncp_host.specs.Host.{Host, is_one_of}
use Rattle.ncp_host.specs.Turns.{next_output}
use Rattle.ncp_transcript.specs.declared.note.HostNote.{HostNote}
use Rattle.ncp_transcript.specs.After.{after_note}
use Rattle.ncp_proof_runs.proofs.Said.{IsOut}
use Rattle.ncp_proof_runs.proofs.HostRuns.{out-turn, out-is}
use Rattle.ncp_proof_runs.proofs.States.{Turn}
use Rattle.ncp_interface.specs.declared.event.InterfaceEvent.{InterfaceEvent}
use Rattle.ncp_interface.specs.declared.event.InterfaceEvent.TheVariants as event
use Rattle.ncp_monitor.specs.declared.finding.Finding.{Finding}
use Rattle.ncp_interface.specs.declared.imp_direction.ImpDirection.TheVariants.{ToImp}
use Rattle.ncp_monitor.specs.declared.monitor.Monitor.{Monitor}
use Rattle.ncp_interface.specs.declared.sent_message.LinkState.{LinkState}
use Rattle.ncp_interface.specs.declared.sent_message.SentMessage.{SentMessage}
use Rattle.ncp_interface.specs.Events.{event_of}
use Rattle.ncp_interface.specs.Slots.{is_of, position_of, kept_at, kept_slot, same_at, gone_out, has_room, with_out, with_kept_slot, is_slot_out, with_answer}
use Rattle.ncp_monitor.specs.Tables.{view_in, with_view}
use Rattle.ncp_monitor.specs.Judged.{sees, slot_of_link, same_of, by_host, out_rule, view_after_out, out_finding, fresh_out, monitor_after_out, monitor_after_answer, turn_at, message_findings, event_findings, record_findings, after_record}
use Rattle.ncp_monitor.specs.Resets.{doubt_on, before_out, before_event, next_doubt, trust_of, reports, judged_findings, after_judged}
use Rattle.ncp_interface.specs.Doubts.{awaits_repeat, doubt_of, doubt_left}
use Rattle.ncp_interface.proofs.Events.{goes_to}
use Rattle.ncp_monitor.proofs.Following.{out_keeps}
use Rattle.ncp_proof_monitor.proofs.Leaders.{peer_of_turn}
use Rattle.ncp_proof_monitor.proofs.Shown.{of_itself}
use Rattle.ncp_proof_monitor_host.proofs.FlowFile.{WentOut, own_went}
use Rattle.ncp_proof_interface_resets.proofs.Near.{Near, NearAll, near_at, near_left, found_is, found_again, set_there}
use Rattle.ncp_proof_interface_resets.proofs.Steps.{beside, AlikeOn, place, slot_certain, slot_unsent, alike_by}
use Rattle.ncp_proof_interface_resets.proofs.Judging.{Easy, record_paced, out_event_found}
use Rattle.ncp_proof_interface_resets.proofs.Taken.{none_unclear, none_in_doubt, Beside, Along, along_as, heeded}

-- before it is read: as if the message on its link had just been reported as not delivered
pub record Readied (me n on : ℕ) (U : Monitor) (ls : List SentMessage) (V : Monitor) : Type 0 where
  pub is : V ≡ record U { kept = V.kept }
  pub near : NearAll me V.kept ls
  pub alike : V.full ≡ false → (p : ℕ) → position_of me n on V.kept ≡ Some p → (kept_at ls p).slot ≡ (kept_at V.kept p).slot
  pub none : position_of me n on U.kept ≡ None → V.kept ≡ U.kept
  pub found : (p : ℕ) → position_of me n on U.kept ≡ Some p → position_of me n on V.kept ≡ Some p

module _ (me n on : ℕ) (U : Monitor) (ls : List SentMessage) (near : NearAll me U.kept ls) (bits : List Bool) (sent : out_finding (beside U ls none_unclear none_in_doubt) me n on bits ≡ None) where
  abbrev ks : List SentMessage
  ks = U.kept

  abbrev known : Bool
  known = (view_in U.views me n).known

  -- one that is outstanding for the host is not sent over
  not_out : U.full ≡ false → (p : ℕ) → position_of me n on ks ≡ Some p → is_slot_out (kept_at ls p).slot ≡ false
  not_out full p e = by (kept_at ls p).slot (same_at ls (Some p) bits) wrong
    where
      of : LinkState → Bool → Option Finding
      of s same = option_map (by_host me) (out_rule s same on)

      wrong : of (kept_at ls p).slot (same_at ls (Some p) bits) ≡ None
      wrong =
          ap (λ (o : Option ℕ). of (kept_slot known ls o) (same_at ls o bits)) (sym (place me none_unclear none_in_doubt U ls near me n on ∙ e))
          ∙ ap (λ (b : Bool). if b then None else of (kept_slot known ls (position_of me n on ls)) (same_at ls (position_of me n on ls) bits)) (sym full) ∙ sent

      by : (s : LinkState) (same : Bool) → of s same ≡ None → is_slot_out s ≡ false
      by LinkState.Unknown same w = refl
      by LinkState.Empty same w = refl
      by LinkState.Out same w = absurd (cc w)
      by LinkState.Came same w = absurd (cc w)
      by LinkState.Again same w = refl

  as_it_was : (U.full ≡ false → (p : ℕ) → position_of me n on ks ≡ Some p → (kept_at ls p).slot ≡ (kept_at ks p).slot) → Readied me n on U ls U
  as_it_was h = record { is = refl; near = near; alike = h; none = λ e. refl; found = λ p e. e }

  pub readied : Readied me n on U ls (before_out U me n on)
  readied = go (awaits_repeat (doubt_on U me n on)) refl
    where
      now : List SentMessage
      now = with_answer known 9 ks (position_of me n on ks)

      -- it is not outstanding any more
      taken : U.full ≡ false → (o : Option ℕ) → position_of me n on ks ≡ o → Readied me n on U ls (record U { kept = with_answer known 9 ks o })
      taken full None e = as_it_was (λ f p q. absurd (let nay : None ≡ Some p = sym e ∙ q in cc))
      taken full (Some p) e = by (is_slot_out k.slot) refl
        where
          k : SentMessage
          k = kept_at ks p

          x : SentMessage
          x = record k { slot = LinkState.Again }

          m : Near me k (kept_at ls p)
          m = near_at me ks ls near p

          again : is_slot_out k.slot ≡ true → (kept_at ls p).slot ≡ LinkState.Again
          again o = elim m.slot [
            | inl s ↦ absurd (let nay : true ≡ false = sym o ∙ ap is_slot_out (sym s) ∙ not_out full p e in cc)
            | inr w ↦ w.3
          ]

          here : (i : ℕ) → Some p ≡ Some i → p ≡ i
          here i q = cc

          by : (b : Bool) → is_slot_out k.slot ≡ b → Readied me n on U ls (record U { kept = if not b then ks else with_kept_slot ks p LinkState.Again })
          by false o = as_it_was (λ f i q. ap (λ (j : ℕ). (kept_at ls j).slot) (sym (here i (sym e ∙ q))) ∙ slot_unsent me none_unclear none_in_doubt U ls near p o ∙ ap (λ (j : ℕ). (kept_at ks j).slot) (here i (sym e ∙ q)))
          by true o = record {
            is = refl;
            near = near_left me ks ls near p x (record { from = m.from; to = m.to; link = m.link; message = m.message; slot = inl (again o) });
            alike = λ f i q.
                let at = here i (sym there ∙ q) in
                ap (λ (j : ℕ). (kept_at ls j).slot) (sym at) ∙ again o ∙ ap (λ (y : SentMessage). y.slot) (sym (set_there (is_of me n on) ks p x e)) ∙ ap (λ (j : ℕ). (kept_at (slice_set ks p x) j).slot) at;
            none = λ q. absurd (let nay : None ≡ Some p = sym q ∙ e in cc);
            found = λ i q. there ∙ sym e ∙ q;
          }
            where
              there : position_of me n on (slice_set ks p x) ≡ Some p
              there = found_again (is_of me n on) ks p x e (found_is (is_of me n on) ks p e)

      full_or : (b : Bool) → U.full ≡ b → Readied me n on U ls (if b then U else record U { kept = now })
      full_or true f = as_it_was (λ g. absurd (let nay : true ≡ false = sym f ∙ g in cc))
      full_or false f = taken f (position_of me n on ks) refl

      go : (b : Bool) → awaits_repeat (doubt_on U me n on) ≡ b → Readied me n on U ls (if b then monitor_after_answer U 9 me n on else U)
      go true a = full_or U.full refl
      go false a = as_it_was (λ f p e. slot_certain me none_unclear none_in_doubt U ls near p (ap (λ (o : Option ℕ). awaits_repeat (doubt_of ks o)) (sym e) ∙ a))

-- it is stored
kept_by_out : (me n on : ℕ) (bits : List Bool) (W : Monitor) → W.full ≡ false → (monitor_after_out W me n on bits).kept ≡ with_out W.kept (position_of me n on W.kept) (gone_out me n on bits)
kept_by_out me n on bits W f = go W.full f
  where
    now : Monitor
    now = record W {
      full = not (has_room W.kept (position_of me n on W.kept));
      views = with_view W.views me n (view_after_out (view_in W.views me n) on (slot_of_link W me n on) (same_of W me n on bits));
      kept = with_out W.kept (position_of me n on W.kept) (gone_out me n on bits);
    }

    go : (b : Bool) → b ≡ false → (if b then W else now).kept ≡ now.kept
    go true e = absurd (cc e)
    go false e = refl

pub record Sent (ns : List ℕ) (me : ℕ) (h : Host) (U : Monitor) (message : List Bool) : Type 0 where
  pub none : judged_findings U ToImp me message ≡ []
  pub along : Along ns me (after_note (HostNote.Out message) h) (after_judged U ToImp me message)

pub sent : (ns : List ℕ) (me : ℕ) (h : Host) (U : Monitor) (message : List Bool) → me < 256 → is_one_of me ns ≡ false → next_output h ≡ Some message → Along ns me h U → Sent ns me h U message
sent ns me h U message l a q k = record {
  none = ap (λ (fs : List Finding). filter (reports (trust_of U me (event_of ToImp me message)) me) fs) nothing;
  along = along_as ns me (after_note (HostNote.Out message) h) (after_judged U ToImp me message) (after_record T ToImp me message)
      (heeded me U (after_record (before_event U me (event_of ToImp me message)) ToImp me message) (after_record T ToImp me message) ToImp me message paced certain) went.own;
}
  where
    T : Monitor
    T = beside U k.kept none_unclear none_in_doubt

    went : WentOut ns me h T message
    went = own_went ns me h T message l a q k.own

    t : Turn h.peers message
    t = out-turn ns h message k.own.holds q

    its : IsOut t.n message t.s
    its = out-is ns h message k.own.holds t

    n : ℕ
    n = t.n

    on : ℕ
    on = its.on

    other : (n == me) ≡ false
    other = peer_of_turn ns me h message k.own.holds a t

    is : event_of ToImp me message ≡ event.Out n on
    is = goes_to me n on message its.leader other

    found_none : event_findings (sees T me) ToImp me message (event.Out n on) ≡ []
    found_none = sym (ap (event_findings (sees T me) ToImp me message) is) ∙ went.none

    none_of : (o : Option Finding) (fs : List Finding) → option_to_list o ++ fs ≡ [] → o ≡ None
    none_of None fs e = refl
    none_of (Some f) fs e = absurd (cc e)

    unfound : out_finding T me n on message ≡ None
    unfound = none_of (out_finding (sees T me) me n on message)
        (message_findings (monitor_after_out (sees T me) me n on message) me n (turn_at (monitor_after_out (sees T me) me n on message) me n me true) (fresh_out (sees T me) me n on message) on message) found_none

    V : Monitor
    V = before_out U me n on

    r : Readied me n on U k.kept V
    r = readied me n on U k.kept k.near message unfound

    alike : (sees V me).full ≡ false → AlikeOn me none_unclear none_in_doubt (sees V me) k.kept r.near me n on
    alike f = alike_by me none_unclear none_in_doubt (sees V me) k.kept r.near me n on (r.alike f)

    same_before : before_event U me (event_of ToImp me message) ≡ V
    same_before = ap (before_event U me) is

    -- the other monitor, beside this one
    beside_v : beside V k.kept none_unclear none_in_doubt ≡ T
    beside_v = ap (λ (x : Monitor). beside x k.kept none_unclear none_in_doubt) r.is

    nothing : record_findings (before_event U me (event_of ToImp me message)) ToImp me message ≡ []
    nothing =
        ap (λ (x : Monitor). record_findings x ToImp me message) same_before ∙ ap (event_findings (sees V me) ToImp me message) is
        ∙ sym (out_event_found me none_unclear none_in_doubt (sees V me) k.kept r.near me message ToImp n on alike)
        ∙ ap (λ (x : Monitor). event_findings (sees x me) ToImp me message (event.Out n on)) beside_v ∙ found_none

    paced_v : Beside me (after_record V ToImp me message) (after_record T ToImp me message)
    paced_v =
        subst (λ (x : Monitor). Beside me (after_record V ToImp me message) (after_record x ToImp me message)) beside_v
        (record_paced me none_unclear none_in_doubt V k.kept r.near me ToImp message (subst (λ (e : InterfaceEvent). Easy me none_unclear none_in_doubt (sees V me) k.kept r.near me e) (sym is) alike))

    paced : Beside me (after_record (before_event U me (event_of ToImp me message)) ToImp me message) (after_record T ToImp me message)
    paced = subst (λ (x : Monitor). Beside me (after_record x ToImp me message) (after_record T ToImp me message)) (sym same_before) paced_v

    -- a message that is just sent is in no doubt
    kept_now : V.full ≡ false → (after_record V ToImp me message).kept ≡ with_out V.kept (position_of me n on V.kept) (gone_out me n on message)
    kept_now f = (out_keeps V me n on message its.leader other).0 ∙ kept_by_out me n on message (sees V me) f

    certain : (peer link i : ℕ) → event_of ToImp me message ≡ event.Out peer link
        → position_of me peer link (after_record (before_event U me (event_of ToImp me message)) ToImp me message).kept ≡ Some i → is_some (next_doubt U me (event_of ToImp me message)) ≡ true
        → (kept_at paced.kept i).slot ≡ (kept_at (after_record (before_event U me (event_of ToImp me message)) ToImp me message).kept i).slot
    certain peer link i e p s = slot_certain me none_unclear none_in_doubt (after_record (before_event U me (event_of ToImp me message)) ToImp me message) paced.kept paced.near i no_doubt
      where
        both_are : event.Out peer link ≡ event.Out n on
        both_are = sym e ∙ is

        same_peer : peer ≡ n
        same_peer = cc both_are

        same_link : link ≡ on
        same_link = cc both_are

        no_doubt : awaits_repeat (kept_at (after_record (before_event U me (event_of ToImp me message)) ToImp me message).kept i).doubt ≡ false
        no_doubt = ap (λ (x : Monitor). awaits_repeat (kept_at (after_record x ToImp me message).kept i).doubt) same_before ∙ at (position_of me n on U.kept) refl U.full refl
          where
            next_is : is_some (if U.full then None else doubt_left (doubt_on U me n on)) ≡ true
            next_is = ap (λ (x : InterfaceEvent). is_some (next_doubt U me x)) (sym is) ∙ s

            there_now : position_of me n on (after_record V ToImp me message).kept ≡ Some i
            there_now =
                ap (λ (x : Monitor). position_of me n on (after_record x ToImp me message).kept) (sym same_before)
                ∙ ap (λ (x : ℕ). position_of me x on (after_record (before_event U me (event_of ToImp me message)) ToImp me message).kept) (sym same_peer)
                ∙ ap (λ (x : ℕ). position_of me peer x (after_record (before_event U me (event_of ToImp me message)) ToImp me message).kept) (sym same_link) ∙ p

            at : (o : Option ℕ) → position_of me n on U.kept ≡ o → (b : Bool) → U.full ≡ b → awaits_repeat (kept_at (after_record V ToImp me message).kept i).doubt ≡ false
            at o f true g = absurd (let nay : false ≡ true = ap (λ (b : Bool). is_some (if b then None else doubt_left (doubt_on U me n on))) (sym g) ∙ next_is in cc)
            at None f false g = absurd (
                let nay : false ≡ true =
                ap (λ (x : Option ℕ). is_some (doubt_left (doubt_of U.kept x))) (sym f) ∙ ap (λ (b : Bool). is_some (if b then None else doubt_left (doubt_on U me n on))) (sym g) ∙ next_is in cc
                )
            at (Some p) f false g =
                let x = gone_out me n on message in
                let there = r.found p f in
                let list : (after_record V ToImp me message).kept ≡ slice_set V.kept p x =
                kept_now (ap (λ (y : Monitor). y.full) r.is ∙ g) ∙ ap (λ (y : Option ℕ). with_out V.kept y x) there in
                let both_there : Some p ≡ Some i =
                sym (found_again (is_of me n on) V.kept p x there (of_itself me n on message)) ∙ sym (ap (position_of me n on) list) ∙ there_now in
                let here : p ≡ i = cc in
                ap (λ (y : List SentMessage). awaits_repeat (kept_at y i).doubt) list ∙ ap (λ (j : ℕ). awaits_repeat (kept_at (slice_set V.kept p x) j).doubt) (sym here)
                ∙ ap (λ (y : SentMessage). awaits_repeat y.doubt) (set_there (is_of me n on) V.kept p x there)
