-- A record that an audit reads, beside one read by a monitor that has taken the Incompletes.
use Rattle.std.proofs.Common.{◌≡◌, ◌⊎◌, inl, inr, ℕ, ◌==◌, Bool, true, false, not, ◌&&◌, if◌then◌else◌, List, [], ◌∷◌, ◌++◌, map, Option, None, Some, option_to_list, is_some, refl, sym, ap, ◌∙◌, subst}
use Rattle.ncp_leader.specs.Message.{message_in}
use Rattle.ncp_interface.specs.declared.event.InterfaceEvent.{InterfaceEvent}
use Rattle.ncp_interface.specs.declared.event.InterfaceEvent.TheVariants as event
use Rattle.ncp_monitor.specs.declared.finding.Finding.{Finding}
use Rattle.ncp_interface.specs.declared.imp_direction.ImpDirection.{ImpDirection}
use Rattle.ncp_monitor.specs.declared.monitor.Monitor.{Monitor}
use Rattle.ncp_interface.specs.declared.notice.ImpNotice.{ImpNotice}
use Rattle.ncp_interface.specs.declared.notice.ImpNotice.TheVariants as notice
use Rattle.ncp_interface.specs.declared.doubt.Doubt.{Doubt}
use Rattle.ncp_interface.specs.declared.sent_message.SentMessage.{SentMessage}
use Rattle.ncp_interface.specs.Slots.{position_of, kept_at, is_slot_out}
use Rattle.ncp_interface.specs.Events.{event_of}
use Rattle.ncp_monitor.specs.Judged.{sees, out_finding, fresh_out, monitor_after_out, after_in, turn_at, after_said, message_findings, event_findings, after_event, after_record}
use Rattle.ncp_monitor.specs.Resets.{after_notice, with_next_doubt, with_unclear}
use Rattle.ncp_interface.specs.Doubts.{awaits_repeat, may_arrive_again, with_doubt, after_reset_at, refused_at, doubt_after_refusal}
use Rattle.ncp_proof_interface_resets.proofs.Near.{Near, NearAll, near_at, near_left}
use Rattle.ncp_proof_interface_resets.proofs.Steps.{beside, Paced, said_paced, message_found, in_paced, answer_paced, AlikeOn, out_paced, fresh_alike, out_found}

-- what both must know alike before an event
abbrev pub Easy : (me : ℕ) (c d : List Bool) (U : Monitor) (ls : List SentMessage) (near : NearAll me U.kept ls) (at : ℕ) → InterfaceEvent → Type 0
Easy me c d U ls near at (event.Out peer link) = U.full ≡ false → AlikeOn me c d U ls near at peer link
Easy me c d U ls near at (event.Answer kind peer link) = ((kind == 5) ≡ false) ⊎ AlikeOn me c d U ls near at peer link
Easy me c d U ls near at other = Unit {0}

module _ (me : ℕ) (c d : List Bool) (U : Monitor) (ls : List SentMessage) (near : NearAll me U.kept ls) (at : ℕ) (bits : List Bool) where
  abbrev T : Monitor
  T = beside U ls c d

  out_steps : (peer link : ℕ) → (U.full ≡ false → AlikeOn me c d U ls near at peer link) → Paced me c d (after_event U at bits (event.Out peer link)) (after_event T at bits (event.Out peer link))
  out_steps peer link e =
      let A = monitor_after_out U at peer link bits in
      let p : Paced me c d A (monitor_after_out T at peer link bits) = out_paced me c d U ls near at peer link bits e in
      subst (λ (x : Monitor). Paced me c d (after_event U at bits (event.Out peer link)) (after_said x at peer (turn_at x at peer at true) (fresh_out T at peer link bits) (message_in bits))) (sym p.is)
      (subst (λ (f : Bool). Paced me c d (after_event U at bits (event.Out peer link)) (after_said (beside A p.kept c d) at peer (turn_at (beside A p.kept c d) at peer at true) f (message_in bits)))
      (sym (fresh_alike me c d U ls near at peer link bits e))
      (said_paced me c d A p.kept p.near at peer at true (fresh_out U at peer link bits) (message_in bits)))

  in_steps : (peer link : ℕ) → Paced me c d (after_event U at bits (event.In peer link)) (after_event T at bits (event.In peer link))
  in_steps peer link =
      let A = after_in U at peer link in
      let p : Paced me c d A (after_in T at peer link) = in_paced me c d U ls near at peer link in
      subst (λ (x : Monitor). Paced me c d (after_event U at bits (event.In peer link)) (after_said x at peer (turn_at x at peer peer false) true (message_in bits))) (sym p.is)
      (said_paced me c d A p.kept p.near at peer peer false true (message_in bits))

  still : Paced me c d U T
  still = record { kept = ls; is = refl; near = near }

  event_paced : (happened : InterfaceEvent) → Easy me c d U ls near at happened → Paced me c d (after_event U at bits happened) (after_event T at bits happened)
  event_paced event.Short e = still
  event_paced event.Nothing e = still
  event_paced (event.Own kind link) e = still
  event_paced (event.Other kind) e = still
  event_paced (event.Out peer link) e = out_steps peer link e
  event_paced (event.Answer kind peer link) e = answer_paced me c d U ls near kind at peer link e
  event_paced (event.In peer link) e = in_steps peer link

  -- what is found in a message that goes out
  pub out_event_found : (way : ImpDirection) (peer link : ℕ) → (U.full ≡ false → AlikeOn me c d U ls near at peer link) → event_findings T way at bits (event.Out peer link) ≡ event_findings U way at bits (event.Out peer link)
  out_event_found way peer link e =
      let A = monitor_after_out U at peer link bits in
      let p : Paced me c d A (monitor_after_out T at peer link bits) = out_paced me c d U ls near at peer link bits e in
      let own = option_to_list (out_finding U at peer link bits) in
      ap (λ (o : Option Finding). option_to_list o ++ message_findings (monitor_after_out T at peer link bits) at peer (turn_at (monitor_after_out T at peer link bits) at peer at true) (fresh_out T at peer link bits) link bits)
      (out_found me c d U ls near at peer link bits e)
      ∙ ap (λ (x : Monitor). own ++ message_findings x at peer (turn_at x at peer at true) (fresh_out T at peer link bits) link bits) p.is
      ∙ ap (λ (f : Bool). own ++ message_findings (beside A p.kept c d) at peer (turn_at (beside A p.kept c d) at peer at true) f link bits) (fresh_alike me c d U ls near at peer link bits e)
      ∙ ap (λ (xs : List Finding). own ++ xs) (message_found me c d A p.kept p.near at peer at true (fresh_out U at peer link bits) link bits)

-- ---- a record, without what a reset left in doubt

pub record_paced : (me : ℕ) (c d : List Bool) (U : Monitor) (ls : List SentMessage) (near : NearAll me U.kept ls) (at : ℕ) (way : ImpDirection) (bits : List Bool) → Easy me c d (sees U at) ls near at (event_of way at bits)
    → Paced me c d (after_record U way at bits) (after_record (beside U ls c d) way at bits)
record_paced me c d U ls near at way bits e = event_paced me c d (sees U at) ls near at bits (event_of way at bits) e

-- ---- what is in doubt then

-- a message that is stored alike may be in any doubt
doubt_near : (me : ℕ) (ks ls : List SentMessage) → NearAll me ks ls → (o : Option ℕ) (doubt : Doubt) → ((p : ℕ) → o ≡ Some p → (kept_at ls p).slot ≡ (kept_at ks p).slot) → NearAll me (with_doubt ks o doubt) ls
doubt_near me ks ls near None doubt e = near
doubt_near me ks ls near (Some p) doubt e =
    let n : Near me (kept_at ks p) (kept_at ls p) = near_at me ks ls near p in
    near_left me ks ls near p (record (kept_at ks p) { doubt = doubt }) (record { from = n.from; to = n.to; link = n.link; message = n.message; slot = inl (e p refl) })

pub next_paced : (me : ℕ) (c d : List Bool) (U t : Monitor) (at : ℕ) (happened : InterfaceEvent) (next : Option Doubt) (p : Paced me c d U t)
    → ((peer link i : ℕ) → happened ≡ event.Out peer link → position_of at peer link U.kept ≡ Some i → is_some next ≡ true → (kept_at p.kept i).slot ≡ (kept_at U.kept i).slot)
    → Paced me c d (with_next_doubt U at happened next) t
next_paced me c d U t at event.Short next p e = p
next_paced me c d U t at event.Nothing next p e = p
next_paced me c d U t at (event.Own kind link) next p e = p
next_paced me c d U t at (event.Other kind) next p e = p
next_paced me c d U t at (event.Answer kind peer link) next p e = p
next_paced me c d U t at (event.In peer link) next p e = p
next_paced me c d U t at (event.Out peer link) None p e = p
next_paced me c d U t at (event.Out peer link) (Some doubt) p e = record {
  kept = p.kept;
  is = p.is;
  near = doubt_near me U.kept p.kept p.near (position_of at peer link U.kept) doubt (λ i q. e peer link i refl q refl);
}

pub unclear_paced : (me : ℕ) (c d : List Bool) (U t : Monitor) (at : ℕ) (unclear : Bool) → Paced me c d U t → Paced me c d (with_unclear U at unclear) t
unclear_paced me c d U t at true p = record { kept = p.kept; is = p.is; near = p.near }
unclear_paced me c d U t at false p = p

reset_one : (me at : ℕ) (k l : SentMessage) → Near me k l → Near me (after_reset_at at k) l
reset_one me at k l n = go (is_slot_out k.slot) refl (k.from == at) (k.to == at) (awaits_repeat k.doubt) refl
  where
    with : Doubt → SentMessage
    with doubt = record k { doubt = doubt }

    same : (doubt : Doubt) → (awaits_repeat k.doubt ≡ true → awaits_repeat doubt ≡ true) → Near me (with doubt) l
    same doubt h = record {
      from = n.from;
      to = n.to;
      link = n.link;
      message = n.message;
      slot = elim n.slot [
        | inl e ↦ inl e
        | inr w ↦ inr (w.0, h w.1, w.2, w.3)
      ];
    }

    go : (out : Bool) → is_slot_out k.slot ≡ out → (from to awaits : Bool) → awaits_repeat k.doubt ≡ awaits
        → Near me (if not out then k else if from then with Doubt.Forgotten else if to && not awaits then with Doubt.Copied else k) l
    go false e from to awaits f = n
    go true e true to awaits f = same Doubt.Forgotten (λ h. refl)
    go true e false true true f = n
    go true e false true false f = same Doubt.Copied (λ h. absurd (let nay : true ≡ false = sym h ∙ f in cc))
    go true e false false awaits f = n

reset_near : (me at : ℕ) (ks ls : List SentMessage) → NearAll me ks ls → NearAll me (map (after_reset_at at) ks) ls
reset_near me at [] [] a = a
reset_near me at [] (l ∷ ls) a = absurd a
reset_near me at (k ∷ ks) [] a = absurd a
reset_near me at (k ∷ ks) (l ∷ ls) a = (reset_one me at k l a.0, reset_near me at ks ls a.1)

-- what the IMP refused may be sent again
pub refusal_awaits : (doubt : Doubt) → awaits_repeat (doubt_after_refusal doubt) ≡ true
refusal_awaits doubt = go (may_arrive_again doubt)
  where
    go : (again : Bool) → awaits_repeat (if again then Doubt.Forgotten else Doubt.Refused) ≡ true
    go true = refl
    go false = refl

refused_near : (me : ℕ) (ks ls : List SentMessage) → NearAll me ks ls → (o : Option ℕ) → NearAll me (refused_at ks o) ls
refused_near me ks ls near None = near
refused_near me ks ls near (Some p) = go (is_slot_out k.slot)
  where
    k : SentMessage
    k = kept_at ks p

    n : Near me k (kept_at ls p)
    n = near_at me ks ls near p

    go : (b : Bool) → NearAll me (if b then with_doubt ks (Some p) (doubt_after_refusal k.doubt) else ks) ls
    go false = near
    go true = near_left me ks ls near p (record k { doubt = doubt_after_refusal k.doubt }) (record {
      from = n.from;
      to = n.to;
      link = n.link;
      message = n.message;
      slot = elim n.slot [
        | inl same ↦ inl same
        | inr w ↦ inr (w.0, refusal_awaits k.doubt, w.2, w.3)
      ];
    })

pub notice_paced : (me : ℕ) (c d : List Bool) (U t : Monitor) (at : ℕ) (o : Option ImpNotice) → Paced me c d U t → Paced me c d (after_notice U at o) t
notice_paced me c d U t at None p = p
notice_paced me c d U t at (Some notice.InterfaceReset) p = record { kept = p.kept; is = p.is; near = reset_near me at U.kept p.kept p.near }
notice_paced me c d U t at (Some (notice.MessageRefused peer link)) p = record { kept = p.kept; is = p.is; near = refused_near me U.kept p.kept p.near (position_of at peer link U.kept) }
