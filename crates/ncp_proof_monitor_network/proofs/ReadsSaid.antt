-- Each command of a control text of either side, while nothing is suspended: no violation is found
-- exactly when the side may send it, and afterwards the tables read as the flow with this command.
use Rattle.std.proofs.Common.{◌≡◌, ℕ, ◌==◌, Bool, true, false, not, ◌&&◌, ◌||◌, nat_le, if◌then◌else◌, List, [], None, Some, Ok, refl, sym, ap, ◌∙◌, subst}
use Rattle.std.proofs.lemmas.Bool.{and_parts}
use Rattle.ncp_wire.specs.declared.command.Command.{Command}
use Rattle.ncp_wire.specs.declared.command.Command.TheVariants.{Nop, Rts, Str, Cls, All, Gvb, Ret, Inr, Ins, Eco, Erp, Err, Rst, Rrp}
use Rattle.ncp_monitor.specs.declared.finding.Rule.{Rule}
use Rattle.ncp_interface.specs.declared.sent_message.SentMessage.{SentMessage}
use Rattle.ncp_interface.specs.declared.request.Request.TheVariants.{Link, Size}
use Rattle.ncp_monitor.specs.declared.observed_flow.ObservedFlow.{ObservedFlow}
use Rattle.ncp_monitor.specs.declared.observed_flow.Acceptance.{Acceptance}
use Rattle.ncp_monitor.specs.declared.observed_flow.Acceptance.TheVariants.{Right}
use Rattle.ncp_monitor.specs.ConnStates.{SeenTables, user_of, conn_of}
use Rattle.ncp_interface.specs.Sockets.{is_senders, is_of_sexes}
use Rattle.ncp_monitor.specs.Requests.{broken, used_acceptance, request_acceptance, tables_after_request, cls_rule, is_link_busy}
use Rattle.ncp_monitor.specs.Allocation.{number_rules}
use Rattle.ncp_monitor.specs.Speaking.{command_rule, tables_after_command, spoken_rule, spoken_numbers, after_spoken}
use Rattle.ncp_monitor.proofs.Seeing.{is_of}
use Rattle.ncp_proof_monitor_replies.proofs.AllGo.{room_before}
use Rattle.ncp_proof_monitor_network.proofs.Said.{Said, sockets_by, Legal, after_said_by, legal_rts, legal_str, legal_cls, legal_reported, is_idle, idle_leaves}
use Rattle.ncp_proof_monitor_network.proofs.UsersSaid.{is_sexed, fit_step}
use Rattle.ncp_proof_monitor_network.proofs.OwesSteps.{owes_step}
use Rattle.ncp_proof_monitor_network.proofs.ReadAs.{ReadAs}
use Rattle.ncp_proof_monitor_network.proofs.ReadsAsked.{request_may, request_right, request_read, used_none, free_is, unused_is, cls_may, cls_is_right, idle_if_right, cls_read, their_text_out}
use Rattle.ncp_proof_monitor_network.proofs.ReadsLinks.{all_legal, all_unbroken, all_read, gvb_legal, gvb_unbroken, gvb_read, ret_legal, ret_unbroken, ret_numbers, ret_read, inr_legal, inr_unbroken, inr_read, ins_legal, ins_unbroken, ins_read}
use Rattle.ncp_proof_monitor_network.proofs.ReadsReplies.{eco_may_be, eco_unbroken, eco_read, erp_may_be, erp_unbroken, erp_read, err_unjust}

-- ---- the sockets of a request, by who asks

rts_sex : (s : Bool) (receive send link : ℕ) → is_of_sexes receive send ≡ true → is_of (is_senders (sockets_by s receive send).0) s (Link link) ≡ true
rts_sex true receive send link k = (and_parts (not (is_senders receive)) (is_senders send) k).0
rts_sex false receive send link k = (and_parts (not (is_senders receive)) (is_senders send) k).1

str_sex : (s : Bool) (send receive size : ℕ) → is_of_sexes receive send ≡ true → is_of (is_senders (sockets_by s send receive).0) s (Size size) ≡ true
str_sex true send receive size k = (and_parts (not (is_senders receive)) (is_senders send) k).1
str_sex false send receive size k = (and_parts (not (is_senders receive)) (is_senders send) k).0

or_turned : (a d : Bool) → (a || d) ≡ true → (d || a) ≡ true
or_turned true true e = refl
or_turned true false e = refl
or_turned false true e = refl
or_turned false false e = e

cls_sexes : (s : Bool) (my your : ℕ) → is_sexed (sockets_by s my your) ≡ true → (is_of_sexes my your || is_of_sexes your my) ≡ true
cls_sexes true my your k = k
cls_sexes false my your k = or_turned (is_of_sexes your my) (is_of_sexes my your) k

module _ (me n : ℕ) (b : SeenTables) (x : Said) (r : ReadAs me n b x) where
  abbrev side : Bool → ObservedFlow
  side s = record { at = me; peer = n; sent = s }

  -- ---- no rule is broken: then it may be said

  command_legal : (s : Bool) (kept : List SentMessage) (c : Command) → command_rule (side s) kept c b ≡ None → number_rules (side s) c b ≡ [] → Legal s c x
  command_legal s kept (Rts receive send link) v w =
      let c = Rts receive send link in
      let may = request_may me n s b c (Link link) x r (sockets_by s receive send) (is_of_sexes receive send) (rts_sex s receive send link) v in
      legal_rts s receive send link x may.sexes may.range may.may (free_is me n s link b x r (used_none me n s b c (Link link) (user_of me n s link b.conns) may.link))
  command_legal s kept (Str send receive size) v w =
      let may = request_may me n s b (Str send receive size) (Size size) x r (sockets_by s send receive) (is_of_sexes receive send) (str_sex s send receive size) v in
      legal_str s send receive size x may.sexes may.range may.may
  command_legal s kept (Cls my your) v w =
      let may = cls_may me n s b x r (Cls my your) (sockets_by s my your) kept v in
      legal_cls s my your x (cls_sexes s my your may.0) may.1
  command_legal s kept (Eco byte) v w = legal_reported s (Eco byte) x refl (eco_may_be me n b x r s byte v)
  command_legal s kept (Erp byte) v w = legal_reported s (Erp byte) x refl (erp_may_be me n b x r s byte (Rule.ErpUnasked byte) v)
  command_legal s kept (Err code bytes) v w = absurd (err_unjust me n b x r s code bytes v)
  command_legal s kept (All link messages bits) v w = all_legal me n s b x r link messages bits kept v
  command_legal s kept (Gvb link fm fb) v w = gvb_legal me n s b x r link fm fb kept v
  command_legal s kept (Ret link messages bits) v w = ret_legal me n s b x r link messages bits kept v w
  command_legal s kept (Inr link) v w = inr_legal me n s b x r kept link v
  command_legal s kept (Ins link) v w = ins_legal me n s b x r kept link v
  command_legal s kept Nop v w = legal_reported s Nop x refl tt
  command_legal s kept Rst v w = legal_reported s Rst x refl tt
  command_legal s kept Rrp v w = legal_reported s Rrp x refl tt

  -- ---- it may be said: then it is right

  rts_acceptance : (s : Bool) (receive send link : ℕ) → Legal s (Rts receive send link) x
      → request_acceptance (side s) (Rts receive send link) (sockets_by s receive send).0 (sockets_by s receive send).1 (is_of_sexes receive send) (Link link) b ≡ Right
  rts_acceptance s receive send link l =
      let c = Rts receive send link in
      let parts = and_parts (is_of_sexes receive send) (nat_le 2 link && nat_le link 71) l.right in
      request_right me n s b c (Link link) x r (sockets_by s receive send) (is_of_sexes receive send) (rts_sex s receive send link) parts.0
      (ap (λ (y : Bool). if y then None else Some (Rule.LinkRange c)) parts.1) l.fits (ap (used_acceptance (side s) c) (unused_is me n s link b x r l.tally))

  str_acceptance : (s : Bool) (send receive size : ℕ) → Legal s (Str send receive size) x
      → request_acceptance (side s) (Str send receive size) (sockets_by s send receive).0 (sockets_by s send receive).1 (is_of_sexes receive send) (Size size) b ≡ Right
  str_acceptance s send receive size l =
      let c = Str send receive size in
      let parts = and_parts (is_of_sexes receive send) (not (size == 0)) l.right in
      request_right me n s b c (Size size) x r (sockets_by s send receive) (is_of_sexes receive send) (str_sex s send receive size) parts.0
      (go (size == 0) parts.1) l.fits refl
    where
      go : (y : Bool) → not y ≡ true → (if y then Some (Rule.SizeZero (Str send receive size)) else None) ≡ None
      go true e = absurd (cc e)
      go false e = refl

  idle_read : (s : Bool) (c : Command) → is_idle c ≡ true → ReadAs me n b (after_said_by s c x)
  idle_read s c e = subst (ReadAs me n b) (sym (idle_leaves s c x e)) r

  -- the host breaks no rule, so none of its texts is unacknowledged on a connection that it closes
  legal_read : (s : Bool) (kept : List SentMessage) (c : Command) → (s ≡ true → command_rule (side s) kept c b ≡ None) → Legal s c x → (tables_after_command (side s) kept c b).full ≡ false → ReadAs me n (tables_after_command (side s) kept c b) (after_said_by s c x)
  legal_read s kept (Rts receive send link) v l f =
      let c = Rts receive send link in
      let p = sockets_by s receive send in
      let parts = and_parts (is_of_sexes receive send) (nat_le 2 link && nat_le link 71) l.right in
      subst (λ (v : Acceptance). (tables_after_request (side s) c p.0 p.1 (Link link) v b).full ≡ false → ReadAs me n (tables_after_request (side s) c p.0 p.1 (Link link) v b) (after_said_by s c x)) (sym (rts_acceptance s receive send link l))
      (λ room. request_read me n s b c (Link link) x r p (is_of_sexes receive send) (rts_sex s receive send link) parts.0 room (after_said_by s c x) (λ u. refl) (λ u. refl) (λ t. refl)
      (owes_step s x r.returning c l) (fit_step s c x l r.fit)) f
  legal_read s kept (Str send receive size) v l f =
      let c = Str send receive size in
      let p = sockets_by s send receive in
      let parts = and_parts (is_of_sexes receive send) (not (size == 0)) l.right in
      subst (λ (v : Acceptance). (tables_after_request (side s) c p.0 p.1 (Size size) v b).full ≡ false → ReadAs me n (tables_after_request (side s) c p.0 p.1 (Size size) v b) (after_said_by s c x)) (sym (str_acceptance s send receive size l))
      (λ room. request_read me n s b c (Size size) x r p (is_of_sexes receive send) (str_sex s send receive size) parts.0 room (after_said_by s c x) (λ u. refl) (λ u. refl) (λ t. refl)
      (owes_step s x r.returning c l) (fit_step s c x l r.fit)) f
  legal_read s kept (Cls my your) v l f = cls_read me n s b x r my your l kept (λ e. idle_if_right me n s b x r my your l kept e (v e))
  legal_read s kept (Eco byte) v l f = eco_read me n b x r s byte l f
  legal_read s kept (Erp byte) v l f = erp_read me n b x r s byte l
  legal_read s kept (Err code bytes) v l f = absurd l.tally
  legal_read s kept (All link messages bits) v l f = all_read me n s b x r link messages bits l kept
  legal_read s kept (Gvb link fm fb) v l f = gvb_read me n s b x r link fm fb l kept f
  legal_read s kept (Ret link messages bits) v l f = ret_read me n s b x r link messages bits l kept
  legal_read s kept (Inr link) v l f = inr_read me n s b x r kept link l
  legal_read s kept (Ins link) v l f = ins_read me n s b x r kept link l
  legal_read s kept Nop v l f = idle_read s Nop refl
  legal_read s kept Rst v l f = idle_read s Rst refl
  legal_read s kept Rrp v l f = idle_read s Rrp refl

  their_command : (kept : List SentMessage) (c : Command) → Legal false c x → command_rule (side false) kept c b ≡ None
  their_command kept (Rts receive send link) l = ap broken (rts_acceptance false receive send link l)
  their_command kept (Str send receive size) l = ap broken (str_acceptance false send receive size l)
  their_command kept (Cls my your) l =
      ap (cls_rule (side false) (Cls my your) your my kept b) (cls_is_right me n false b x r my your l) ∙ their_text_out me n (Cls my your) kept b (conn_of me n your my b.conns)
  their_command kept (Eco byte) l = eco_unbroken me n b x r false byte l.tally
  their_command kept (Erp byte) l = erp_unbroken me n b x r false byte l refl (Rule.ErpUnasked byte)
  their_command kept (Err code bytes) l = absurd l.tally
  their_command kept (All link messages bits) l = all_unbroken me n false b x r link messages bits l kept
  their_command kept (Gvb link fm fb) l = gvb_unbroken me n false b x r link fm fb l kept
  their_command kept (Ret link messages bits) l = ret_unbroken me n false b x r link messages bits l kept refl
  their_command kept (Inr link) l = inr_unbroken me n false b x r kept link l
  their_command kept (Ins link) l = ins_unbroken me n false b x r kept link l
  their_command kept Nop l = refl
  their_command kept Rst l = refl
  their_command kept Rrp l = refl

  their_numbers : (c : Command) → Legal false c x → number_rules (side false) c b ≡ []
  their_numbers (Ret link messages bits) l = ret_numbers me n false b x r link messages bits l
  their_numbers (Rts receive send link) l = refl
  their_numbers (Str send receive size) l = refl
  their_numbers (Cls my your) l = refl
  their_numbers (Eco byte) l = refl
  their_numbers (Erp byte) l = refl
  their_numbers (Err code bytes) l = refl
  their_numbers (All link messages bits) l = refl
  their_numbers (Gvb link fm fb) l = refl
  their_numbers (Inr link) l = refl
  their_numbers (Ins link) l = refl
  their_numbers Nop l = refl
  their_numbers Rst l = refl
  their_numbers Rrp l = refl

-- ---- what the host says, and what the other says

pub read_own : (me n : ℕ) (kept : List SentMessage) (c : Command) (b : SeenTables) (x : Said) → b.full ≡ false → ReadAs me n b x → spoken_rule (record { at = me; peer = n; sent = true }) kept (Ok c) b ≡ None
    → spoken_numbers (record { at = me; peer = n; sent = true }) (Ok c) b ≡ []
    → Legal true c x × ((after_spoken (record { at = me; peer = n; sent = true }) kept (Ok c) b).full ≡ false → ReadAs me n (after_spoken (record { at = me; peer = n; sent = true }) kept (Ok c) b) (after_said_by true c x))
read_own me n kept c b x f r v w = (l, legal_read me n b x r true kept c (λ e. rule) l)
  where
    flow : ObservedFlow
    flow = record { at = me; peer = n; sent = true }

    rule : command_rule flow kept c b ≡ None
    rule = sym (ap (λ (y : Bool). if y then None else command_rule flow kept c b) f) ∙ v

    l : Legal true c x
    l = command_legal me n b x r true kept c rule (sym (ap (λ (y : Bool). if y then [] else number_rules flow c b) f) ∙ w)

pub read_their : (me n : ℕ) (kept : List SentMessage) (c : Command) (b : SeenTables) (x : Said) → ReadAs me n b x → Legal false c x
    → (spoken_rule (record { at = me; peer = n; sent = false }) kept (Ok c) b ≡ None) × (spoken_numbers (record { at = me; peer = n; sent = false }) (Ok c) b ≡ [])
    × ((after_spoken (record { at = me; peer = n; sent = false }) kept (Ok c) b).full ≡ false → ReadAs me n (after_spoken (record { at = me; peer = n; sent = false }) kept (Ok c) b) (after_said_by false c x))
read_their me n kept c b x r l = (by b.full, numbers b.full, legal_read me n b x r false kept c (λ e. absurd (cc e)) l)
  where
    flow : ObservedFlow
    flow = record { at = me; peer = n; sent = false }

    by : (y : Bool) → (if y then None else command_rule flow kept c b) ≡ None
    by true = refl
    by false = their_command me n b x r kept c l

    numbers : (y : Bool) → (if y then [] else number_rules flow c b) ≡ []
    numbers true = refl
    numbers false = their_numbers me n b x r c l

-- a CLS of the host: none of its texts is unacknowledged on the link of the connection
pub own_cls_idle : (me n : ℕ) (kept : List SentMessage) (my your : ℕ) (b : SeenTables) (x : Said) → b.full ≡ false → ReadAs me n b x → Legal true (Cls my your) x → spoken_rule (record { at = me; peer = n; sent = true }) kept (Ok (Cls my your)) b ≡ None
    → (link : ℕ) → x.users false link ≡ Some (my, your) → is_link_busy me n (Some link) kept ≡ false
own_cls_idle me n kept my your b x f r l v =
    idle_if_right me n true b x r my your l kept refl (sym (ap (λ (y : Bool). if y then None else command_rule (record { at = me; peer = n; sent = true }) kept (Cls my your) b) f) ∙ v)

-- ---- where there is room, there was before it

pub said_room : (me n : ℕ) (s : Bool) (kept : List SentMessage) (c : Command) (b : SeenTables) → (after_spoken (record { at = me; peer = n; sent = s }) kept (Ok c) b).full ≡ false → b.full ≡ false
said_room me n s kept c b f = room_before me n s kept c b f
