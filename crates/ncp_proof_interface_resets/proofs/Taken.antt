-- What the host does at its own interface, beside what the audit reads of it.
use Rattle.std.proofs.Common.{◌≡◌, ◌⊎◌, inl, inr, ℕ, zero, suc, ◌==◌, Bool, true, false, not, ◌&&◌, ◌||◌, if◌then◌else◌, List, [], ◌∷◌, replicate, map, Option, None, Some, is_some, slice_set, Result, Ok, Err, refl, sym, ap, ◌∙◌, subst, arith}
use Rattle.std.proofs.lemmas.Bool.{and_parts, eqb-true}
use Rattle.ncp_leader.specs.declared.leader.Leader.{Leader}
use Rattle.ncp_leader.specs.declared.leader.Short.{Short}
use Rattle.ncp_leader.specs.Leader.{leader_in}
use Rattle.ncp_host.specs.Host.{Host}
use Rattle.ncp_interface.specs.declared.event.InterfaceEvent.{InterfaceEvent}
use Rattle.ncp_interface.specs.declared.event.InterfaceEvent.TheVariants as event
use Rattle.ncp_interface.specs.declared.imp_direction.ImpDirection.{ImpDirection}
use Rattle.ncp_interface.specs.declared.imp_direction.ImpDirection.TheVariants.{FromImp}
use Rattle.ncp_monitor.specs.declared.monitor.Monitor.{Monitor}
use Rattle.ncp_interface.specs.declared.notice.ImpNotice.{ImpNotice}
use Rattle.ncp_interface.specs.declared.notice.ImpNotice.TheVariants as notice
use Rattle.ncp_interface.specs.declared.doubt.Doubt.{Doubt}
use Rattle.ncp_interface.specs.declared.sent_message.LinkState.{LinkState}
use Rattle.ncp_interface.specs.declared.sent_message.SentMessage.{SentMessage}
use Rattle.ncp_monitor.specs.declared.views.TheConstants.{HOSTS, VIEWS}
use Rattle.ncp_interface.specs.Events.{is_answer, event_after, event_of}
use Rattle.ncp_interface.specs.Slots.{is_of, position_of, kept_at, kept_slot, with_kept_slot, is_slot_out, with_answer}
use Rattle.ncp_monitor.specs.Tables.{view_in}
use Rattle.ncp_monitor.specs.Judged.{sees, monitor_after_answer, after_record}
use Rattle.ncp_monitor.specs.Resets.{doubt_on, after_notice, before_event, next_doubt, with_next_doubt, becomes_unclear, with_unclear, after_judged}
use Rattle.ncp_interface.specs.Doubts.{awaits_repeat, doubt_of, after_reset_at, refused_at, doubt_after_refusal}
use Rattle.ncp_interface.specs.Notices.{notice_after, notice_of}
use Rattle.ncp_proof_monitor.proofs.Linked.{key}
use Rattle.ncp_proof_monitor_host.proofs.FlowFile.{AtOwn, own_elsewhere}
use Rattle.ncp_proof_interface_resets.specs.ResetRuns.{covers}
use Rattle.ncp_proof_interface_resets.proofs.Near.{Near, NearAll, near_at, near_right, found_is, found_again, set_there}
use Rattle.ncp_proof_interface_resets.proofs.Steps.{beside, Paced, answer_paced, AlikeOn, slot_certain, slot_unsent, slot_apart, alike_by, alike_apart}
use Rattle.ncp_proof_interface_resets.proofs.Judging.{Easy, record_paced, next_paced, unclear_paced, refusal_awaits, notice_paced}
use Rattle.ncp_proof_interface_resets.proofs.Own.{own_answered}

-- what the monitor that has taken the Incompletes never learns
abbrev pub none_unclear : List Bool
none_unclear = replicate HOSTS false

abbrev pub none_in_doubt : List Bool
none_in_doubt = replicate VIEWS false

abbrev pub Beside : ℕ → Monitor → Monitor → Type 0
Beside me U t = Paced me none_unclear none_in_doubt U t

-- the host is as that monitor knows it
pub record Along (ns : List ℕ) (me : ℕ) (h : Host) (U : Monitor) : Type 0 where
  pub kept : List SentMessage
  pub near : NearAll me U.kept kept
  pub own : AtOwn ns me h (beside U kept none_unclear none_in_doubt)

pub along_as : (ns : List ℕ) (me : ℕ) (h : Host) (U t : Monitor) → Beside me U t → AtOwn ns me h t → Along ns me h U
along_as ns me h U t p k = record { kept = p.kept; near = p.near; own = subst (AtOwn ns me h) p.is k }

-- after the record itself: what is in doubt then
pub heeded : (me : ℕ) (U now t : Monitor) (way : ImpDirection) (at : ℕ) (bits : List Bool) → (p : Beside me now t)
    → ((peer link i : ℕ) → event_of way at bits ≡ event.Out peer link → position_of at peer link now.kept ≡ Some i → is_some (next_doubt U at (event_of way at bits)) ≡ true → (kept_at p.kept i).slot ≡ (kept_at now.kept i).slot)
    → Beside me (after_notice (with_unclear (with_next_doubt now at (event_of way at bits) (next_doubt U at (event_of way at bits))) at (becomes_unclear U at (event_of way at bits))) at (notice_of way bits)) t
heeded me U now t way at bits p e =
    let happened = event_of way at bits in
    let next = with_next_doubt now at happened (next_doubt U at happened) in
    notice_paced me none_unclear none_in_doubt (with_unclear next at (becomes_unclear U at happened)) t at (notice_of way bits)
    (unclear_paced me none_unclear none_in_doubt next t at (becomes_unclear U at happened) (next_paced me none_unclear none_in_doubt now t at happened (next_doubt U at happened) p e))

-- ---- a record at another interface

module _ (ns : List ℕ) (me : ℕ) (h : Host) (U : Monitor) (at : ℕ) (way : ImpDirection) (bits : List Bool) (apart : (at == me) ≡ false) (k : Along ns me h U) where
  abbrev T : Monitor
  T = beside U k.kept none_unclear none_in_doubt

  before : (happened : InterfaceEvent) → Along ns me h (before_event U at happened)
  before event.Short = k
  before event.Nothing = k
  before (event.Own kind link) = k
  before (event.Other kind) = k
  before (event.Answer kind peer link) = k
  before (event.In peer link) = k
  before (event.Out peer link) = go (awaits_repeat (doubt_on U at peer link))
    where
      go : (b : Bool) → Along ns me h (if b then monitor_after_answer U 9 at peer link else U)
      go false = k
      go true =
          along_as ns me h (monitor_after_answer U 9 at peer link) (monitor_after_answer T 9 at peer link)
          (answer_paced me none_unclear none_in_doubt U k.kept k.near 9 at peer link (inl refl)) (own_answered ns me h T 9 at peer link apart k.own)

  pub elsewhere : Along ns me h (after_judged U way at bits)
  elsewhere =
      let happened = event_of way at bits in
      let b : Along ns me h (before_event U at happened) = before happened in
      let V = before_event U at happened in
      let p : Beside me (after_record V way at bits) (after_record (beside V b.kept none_unclear none_in_doubt) way at bits) =
      record_paced me none_unclear none_in_doubt V b.kept b.near at way bits (easy V b.kept b.near happened) in
      along_as ns me h (after_judged U way at bits) (after_record (beside V b.kept none_unclear none_in_doubt) way at bits)
      (heeded me U (after_record V way at bits) (after_record (beside V b.kept none_unclear none_in_doubt) way at bits) way at bits p
      (λ peer link i o q s. slot_apart me none_unclear none_in_doubt (after_record V way at bits) p.kept p.near at peer link i apart q))
      (own_elsewhere ns me h (beside V b.kept none_unclear none_in_doubt) at way bits apart b.own)
    where
      easy : (V : Monitor) (ls : List SentMessage) (near : NearAll me V.kept ls) (happened : InterfaceEvent) → Easy me none_unclear none_in_doubt (sees V at) ls near at happened
      easy V ls near event.Short = tt
      easy V ls near event.Nothing = tt
      easy V ls near (event.Own kind link) = tt
      easy V ls near (event.Other kind) = tt
      easy V ls near (event.In peer link) = tt
      easy V ls near (event.Answer kind peer link) = inr (alike_apart me none_unclear none_in_doubt (sees V at) ls near at peer link apart)
      easy V ls near (event.Out peer link) = λ f. alike_apart me none_unclear none_in_doubt (sees V at) ls near at peer link apart

-- ---- what comes, for the host itself

-- what comes is not sent
pub never_out : (at : ℕ) (bits : List Bool) (peer link : ℕ) → event_of FromImp at bits ≡ event.Out peer link → ⊥
never_out at bits peer link = from (leader_in bits)
  where
    of : (leader : Leader) (none own regular : Bool) → (if none then event.Nothing else if own then event.Own leader.kind leader.link else if regular then event.In leader.host leader.link else event.Answer leader.kind leader.host leader.link) ≡ event.Out peer link → ⊥
    of leader true own regular e = absurd (cc e)
    of leader false true regular e = absurd (cc e)
    of leader false false true e = absurd (cc e)
    of leader false false false e = absurd (cc e)

    from : (r : Result Leader Short) → event_after FromImp at r ≡ event.Out peer link → ⊥
    from (Err short) e = absurd (cc e)
    from (Ok leader) e = of leader (not (leader.kind == 0) && not (is_answer leader.kind)) (leader.host == at) (leader.kind == 0) e

module _ (me : ℕ) (U : Monitor) (ls : List SentMessage) (near : NearAll me U.kept ls) (bits : List Bool) (clear : becomes_unclear U me (event_of FromImp me bits) ≡ false) where
  untouched : (happened : InterfaceEvent) → ((peer link : ℕ) → happened ≡ event.Out peer link → ⊥) → before_event U me happened ≡ U
  untouched event.Short f = refl
  untouched event.Nothing f = refl
  untouched (event.Own kind link) f = refl
  untouched (event.Other kind) f = refl
  untouched (event.Answer kind peer link) f = refl
  untouched (event.In peer link) f = refl
  untouched (event.Out peer link) f = absurd (f peer link refl)

  easy : (happened : InterfaceEvent) → ((peer link : ℕ) → happened ≡ event.Out peer link → ⊥) → becomes_unclear U me happened ≡ false → Easy me none_unclear none_in_doubt (sees U me) ls near me happened
  easy event.Short f c = tt
  easy event.Nothing f c = tt
  easy (event.Own kind link) f c = tt
  easy (event.Other kind) f c = tt
  easy (event.In peer link) f c = tt
  easy (event.Out peer link) f c = absurd (f peer link refl)
  easy (event.Answer kind peer link) f c = go (kind == 5) refl
    where
      known : Bool
      known = (view_in U.views me peer).known

      certain : (p : ℕ) → position_of me peer link U.kept ≡ Some p → (b : Bool) → (kind == 5) ≡ b → b ≡ true → (kept_at ls p).slot ≡ (kept_at U.kept p).slot
      certain p e b g t = by (awaits_repeat (kept_at U.kept p).doubt) refl (is_slot_out (kept_at U.kept p).slot) refl
        where
          by : (a : Bool) → awaits_repeat (kept_at U.kept p).doubt ≡ a → (o : Bool) → is_slot_out (kept_at U.kept p).slot ≡ o → (kept_at ls p).slot ≡ (kept_at U.kept p).slot
          by false i o j = slot_certain me none_unclear none_in_doubt U ls near p i
          by true i false j = slot_unsent me none_unclear none_in_doubt U ls near p j
          by true i true j =
              let is : (kind == 5 && awaits_repeat (doubt_of U.kept (Some p)) && is_slot_out (kept_slot known U.kept (Some p))) ≡ false =
              ap (λ (q : Option ℕ). kind == 5 && awaits_repeat (doubt_of U.kept q) && is_slot_out (kept_slot known U.kept q)) (sym e) ∙ c in
              absurd (
              let nay : true ≡ false =
              sym (ap (λ (x : Bool). x && awaits_repeat (kept_at U.kept p).doubt && is_slot_out (kept_at U.kept p).slot) (g ∙ t)
              ∙ ap (λ (x : Bool). x && is_slot_out (kept_at U.kept p).slot) i ∙ j) ∙ is in cc)

      go : (b : Bool) → (kind == 5) ≡ b → ((kind == 5) ≡ false) ⊎ AlikeOn me none_unclear none_in_doubt (sees U me) ls near me peer link
      go false g = inl g
      go true g = inr (alike_by me none_unclear none_in_doubt (sees U me) ls near me peer link (λ p e. certain p e true g refl))

  pub came_paced : Beside me (after_judged U FromImp me bits) (after_record (beside U ls none_unclear none_in_doubt) FromImp me bits)
  came_paced =
      let happened = event_of FromImp me bits in
      let out = never_out me bits in
      let same : before_event U me happened ≡ U = untouched happened out in
      let p : Beside me (after_record U FromImp me bits) (after_record (beside U ls none_unclear none_in_doubt) FromImp me bits) = record_paced me none_unclear none_in_doubt U ls near me FromImp bits (easy happened out clear) in
      subst (λ (V : Monitor). Beside me (after_notice (with_unclear (with_next_doubt (after_record V FromImp me bits) me happened (next_doubt U me happened)) me (becomes_unclear U me happened)) me (notice_of FromImp bits)) (after_record (beside U ls none_unclear none_in_doubt) FromImp me bits))
      (sym same)
      (heeded me U (after_record U FromImp me bits) (after_record (beside U ls none_unclear none_in_doubt) FromImp me bits) FromImp me bits p (λ peer link i o q s. absurd (out peer link o)))

-- ---- a notice of its IMP

-- it is no other event
pub notice_alone : (at : ℕ) (bits : List Bool) (some : ImpNotice) → notice_of FromImp bits ≡ Some some → event_of FromImp at bits ≡ event.Nothing
notice_alone at bits some = from (leader_in bits)
  where
    by : (leader : Leader) (ten eight regular five seven nine own : Bool) → (leader.kind == 10) ≡ ten → (leader.kind == 8) ≡ eight → (leader.kind == 0) ≡ regular → (leader.kind == 5) ≡ five → (leader.kind == 7) ≡ seven → (leader.kind == 9) ≡ nine
        → (if ten then Some notice.InterfaceReset else if eight then Some (notice.MessageRefused leader.host leader.link) else None) ≡ Some some
        → (if not regular && not (five || seven || nine) then event.Nothing else if own then event.Own leader.kind leader.link else if regular then event.In leader.host leader.link else event.Answer leader.kind leader.host leader.link) ≡ event.Nothing
    by leader ten eight false false false false own t e z f s n q = refl
    by leader ten eight true five seven nine own t e z f s n q = absurd (none ten eight t e q (eqb-true leader.kind 0 z))
      where
        none : (ten eight : Bool) → (leader.kind == 10) ≡ ten → (leader.kind == 8) ≡ eight → (if ten then Some notice.InterfaceReset else if eight then Some (notice.MessageRefused leader.host leader.link) else None) ≡ Some some → leader.kind ≡ 0 → ⊥
        none true eight t e q z = let k = eqb-true leader.kind 10 t in omega (arith, k, z)
        none false true t e q z = let k = eqb-true leader.kind 8 e in omega (arith, k, z)
        none false false t e q z = absurd (cc q)
    by leader ten eight false true seven nine own t e z f s n q = absurd (none ten eight t e q (eqb-true leader.kind 5 f))
      where
        none : (ten eight : Bool) → (leader.kind == 10) ≡ ten → (leader.kind == 8) ≡ eight → (if ten then Some notice.InterfaceReset else if eight then Some (notice.MessageRefused leader.host leader.link) else None) ≡ Some some → leader.kind ≡ 5 → ⊥
        none true eight t e q z = let k = eqb-true leader.kind 10 t in omega (arith, k, z)
        none false true t e q z = let k = eqb-true leader.kind 8 e in omega (arith, k, z)
        none false false t e q z = absurd (cc q)
    by leader ten eight false false true nine own t e z f s n q = absurd (none ten eight t e q (eqb-true leader.kind 7 s))
      where
        none : (ten eight : Bool) → (leader.kind == 10) ≡ ten → (leader.kind == 8) ≡ eight → (if ten then Some notice.InterfaceReset else if eight then Some (notice.MessageRefused leader.host leader.link) else None) ≡ Some some → leader.kind ≡ 7 → ⊥
        none true eight t e q z = let k = eqb-true leader.kind 10 t in omega (arith, k, z)
        none false true t e q z = let k = eqb-true leader.kind 8 e in omega (arith, k, z)
        none false false t e q z = absurd (cc q)
    by leader ten eight false false false true own t e z f s n q = absurd (none ten eight t e q (eqb-true leader.kind 9 n))
      where
        none : (ten eight : Bool) → (leader.kind == 10) ≡ ten → (leader.kind == 8) ≡ eight → (if ten then Some notice.InterfaceReset else if eight then Some (notice.MessageRefused leader.host leader.link) else None) ≡ Some some → leader.kind ≡ 9 → ⊥
        none true eight t e q z = let k = eqb-true leader.kind 10 t in omega (arith, k, z)
        none false true t e q z = let k = eqb-true leader.kind 8 e in omega (arith, k, z)
        none false false t e q z = absurd (cc q)

    from : (r : Result Leader Short) → notice_after FromImp r ≡ Some some → event_after FromImp at r ≡ event.Nothing
    from (Err short) q = absurd (cc q)
    from (Ok leader) q = by leader (leader.kind == 10) (leader.kind == 8) (leader.kind == 0) (leader.kind == 5) (leader.kind == 7) (leader.kind == 9) (leader.host == at) refl refl refl refl refl refl q

-- the message on a link that it covers is in doubt
map_at : (at : ℕ) (ks : List SentMessage) (p : ℕ) → kept_at (map (after_reset_at at) ks) p ≡ after_reset_at at (kept_at ks p)
map_at at [] p = refl
map_at at (k ∷ ks) zero = refl
map_at at (k ∷ ks) (suc p) = map_at at ks p

reset_awaits : (me : ℕ) (k : SentMessage) → (after_reset_at me k).from ≡ me → is_slot_out (after_reset_at me k).slot ≡ true → awaits_repeat (after_reset_at me k).doubt ≡ true
reset_awaits me k f o = go (is_slot_out k.slot) refl (k.from == me) refl (k.to == me && not (awaits_repeat k.doubt)) refl
  where
    one : Bool → Bool → Bool → SentMessage
    one out from to = if not out then k else if from then record k { doubt = Doubt.Forgotten } else if to then record k { doubt = Doubt.Copied } else k

    keeps : (out from to : Bool) → ((one out from to).from ≡ k.from) × ((one out from to).slot ≡ k.slot)
    keeps false from to = (refl, refl)
    keeps true true to = (refl, refl)
    keeps true false true = (refl, refl)
    keeps true false false = (refl, refl)

    itself : (i j : ℕ) → i ≡ j → (i == j) ≡ true
    itself i j e = grind (arith, e)

    go : (out : Bool) → is_slot_out k.slot ≡ out → (from : Bool) → (k.from == me) ≡ from → (to : Bool) → (k.to == me && not (awaits_repeat k.doubt)) ≡ to → awaits_repeat (after_reset_at me k).doubt ≡ true
    go true e true g to i = ap (λ (b : Bool). awaits_repeat (if not b then k else if k.from == me then record k { doubt = Doubt.Forgotten } else if k.to == me && not (awaits_repeat k.doubt) then record k { doubt = Doubt.Copied } else k).doubt) e
        ∙ ap (λ (b : Bool). awaits_repeat (if b then record k { doubt = Doubt.Forgotten } else if k.to == me && not (awaits_repeat k.doubt) then record k { doubt = Doubt.Copied } else k).doubt) g
    go false e from g to i =
        let same : (after_reset_at me k).slot ≡ k.slot = (keeps (is_slot_out k.slot) (k.from == me) (k.to == me && not (awaits_repeat k.doubt))).1 in
        absurd (let nay : true ≡ false = sym o ∙ ap is_slot_out same ∙ e in cc)
    go true e false g to i =
        let same : (after_reset_at me k).from ≡ k.from = (keeps (is_slot_out k.slot) (k.from == me) (k.to == me && not (awaits_repeat k.doubt))).0 in
        absurd (let nay : true ≡ false = sym (itself k.from me (sym same ∙ f)) ∙ g in cc)

refused_awaits : (ks : List SentMessage) (me n on p : ℕ) → position_of me n on (refused_at ks (position_of me n on ks)) ≡ Some p
    → is_slot_out (kept_at (refused_at ks (position_of me n on ks)) p).slot ≡ true → awaits_repeat (kept_at (refused_at ks (position_of me n on ks)) p).doubt ≡ true
refused_awaits ks me n on p = go (position_of me n on ks) refl
  where
    go : (o : Option ℕ) → position_of me n on ks ≡ o → position_of me n on (refused_at ks o) ≡ Some p → is_slot_out (kept_at (refused_at ks o) p).slot ≡ true → awaits_repeat (kept_at (refused_at ks o) p).doubt ≡ true
    go None e q out = absurd (let nay : None ≡ Some p = sym e ∙ q in cc)
    go (Some i) e q out = by (is_slot_out k.slot) refl q out
      where
        k : SentMessage
        k = kept_at ks i

        x : SentMessage
        x = record k { doubt = doubt_after_refusal k.doubt }

        by : (b : Bool) → is_slot_out k.slot ≡ b → position_of me n on (if b then slice_set ks i x else ks) ≡ Some p
            → is_slot_out (kept_at (if b then slice_set ks i x else ks) p).slot ≡ true → awaits_repeat (kept_at (if b then slice_set ks i x else ks) p).doubt ≡ true
        by true f q out =
            let at : Some i ≡ Some p = sym (found_again (is_of me n on) ks i x e (found_is (is_of me n on) ks i e)) ∙ q in
            let here : i ≡ p = cc in
            ap (λ (j : ℕ). awaits_repeat (kept_at (slice_set ks i x) j).doubt) (sym here) ∙ ap (λ (y : SentMessage). awaits_repeat y.doubt) (set_there (is_of me n on) ks i x e) ∙ refusal_awaits k.doubt
        by false f q out =
            let at : Some i ≡ Some p = sym e ∙ q in
            let here : i ≡ p = cc in
            absurd (let nay : true ≡ false = sym out ∙ ap (λ (j : ℕ). is_slot_out (kept_at ks j).slot) (sym here) ∙ f in cc)

pub covered : (me n on p : ℕ) (V : Monitor) (some : ImpNotice) → covers some (n, on) ≡ true → position_of me n on (after_notice V me (Some some)).kept ≡ Some p
    → is_slot_out (kept_at (after_notice V me (Some some)).kept p).slot ≡ true → awaits_repeat (kept_at (after_notice V me (Some some)).kept p).doubt ≡ true
covered me n on p V notice.InterfaceReset c q out =
    let ks = V.kept in
    let same : kept_at (map (after_reset_at me) ks) p ≡ after_reset_at me (kept_at ks p) = map_at me ks p in
    let its = key me n on (kept_at (map (after_reset_at me) ks) p) (found_is (is_of me n on) (map (after_reset_at me) ks) p q) in
    ap (λ (y : SentMessage). awaits_repeat y.doubt) same
    ∙ reset_awaits me (kept_at ks p) (ap (λ (y : SentMessage). y.from) (sym same) ∙ its.0) (ap (λ (y : SentMessage). is_slot_out y.slot) (sym same) ∙ out)
covered me n on p V (notice.MessageRefused peer link) c q out =
    let two = and_parts (n == peer) (on == link) c in
    go peer link (eqb-true n peer two.0) (eqb-true on link two.1) q out
  where
    go : (peer link : ℕ) → n ≡ peer → on ≡ link → position_of me n on (refused_at V.kept (position_of me peer link V.kept)) ≡ Some p
        → is_slot_out (kept_at (refused_at V.kept (position_of me peer link V.kept)) p).slot ≡ true → awaits_repeat (kept_at (refused_at V.kept (position_of me peer link V.kept)) p).doubt ≡ true
    go peer link e f q out =
        subst (λ (i : ℕ). awaits_repeat (kept_at (refused_at V.kept (position_of me i link V.kept)) p).doubt ≡ true) e
        (subst (λ (l : ℕ). awaits_repeat (kept_at (refused_at V.kept (position_of me n l V.kept)) p).doubt ≡ true) f
        (refused_awaits V.kept me n on p
        (subst (λ (l : ℕ). position_of me n on (refused_at V.kept (position_of me n l V.kept)) ≡ Some p) (sym f) (subst (λ (i : ℕ). position_of me n on (refused_at V.kept (position_of me i link V.kept)) ≡ Some p) (sym e) q))
        (subst (λ (l : ℕ). is_slot_out (kept_at (refused_at V.kept (position_of me n l V.kept)) p).slot ≡ true) (sym f) (subst (λ (i : ℕ). is_slot_out (kept_at (refused_at V.kept (position_of me i link V.kept)) p).slot ≡ true) (sym e) out))))

-- the host takes an Incomplete on such a link
pub taken_near : (me n on : ℕ) (known : Bool) (ks ls : List SentMessage) → NearAll me ks ls → position_of me n on ls ≡ position_of me n on ks
    → ((p : ℕ) → position_of me n on ks ≡ Some p → is_slot_out (kept_at ks p).slot ≡ true → awaits_repeat (kept_at ks p).doubt ≡ true) → NearAll me ks (with_answer known 9 ls (position_of me n on ls))
taken_near me n on known ks ls near same covers = subst (λ (o : Option ℕ). NearAll me ks (with_answer known 9 ls o)) (sym same) (go (position_of me n on ks) refl)
  where
    go : (o : Option ℕ) → position_of me n on ks ≡ o → NearAll me ks (with_answer known 9 ls o)
    go None e = near
    go (Some p) e = by (is_slot_out l.slot) refl
      where
        k : SentMessage
        k = kept_at ks p

        l : SentMessage
        l = kept_at ls p

        m : Near me k l
        m = near_at me ks ls near p

        again : is_slot_out l.slot ≡ true → Near me k (record l { slot = LinkState.Again })
        again o = record {
          from = m.from;
          to = m.to;
          link = m.link;
          message = m.message;
          slot = elim m.slot [
            | inl s ↦ inr ((key me n on k (found_is (is_of me n on) ks p e)).0, covers p e (ap is_slot_out (sym s) ∙ o), ap is_slot_out (sym s) ∙ o, refl)
            | inr w ↦ inr (w.0, w.1, w.2, refl)
          ];
        }

        by : (b : Bool) → is_slot_out l.slot ≡ b → NearAll me ks (if not b then ls else with_kept_slot ls p LinkState.Again)
        by false o = near
        by true o = near_right me ks ls near p (record l { slot = LinkState.Again }) (again o)
