-- A capture in which no IMP is reset and refuses no message: it is judged as if there were no such thing.
use Rattle.std.proofs.Common.{◌≡◌, ℕ, zero, suc, ◌==◌, Bool, true, false, not, ◌&&◌, ◌||◌, cond, nat_lt, if◌then◌else◌, List, [], ◌∷◌, ◌++◌, length, get_or, replicate, filter, remove, slice_set, Option, None, Some, is_none, Result, Ok, Err, refl, ap, ◌∙◌}
use Rattle.std.proofs.lemmas.Bool.{and_parts}
use Rattle.std.specs.List.{list_all}
use Rattle.ncp_leader.specs.declared.fault.MessageFault.{MessageFault}
use Rattle.ncp_leader.specs.Message.{Message, message_in}
use Rattle.ncp_interface.specs.declared.event.InterfaceEvent.{InterfaceEvent}
use Rattle.ncp_interface.specs.declared.event.InterfaceEvent.TheVariants as event
use Rattle.ncp_monitor.specs.declared.finding.Finding.{Finding}
use Rattle.ncp_monitor.specs.declared.finding.Rule.{Rule}
use Rattle.ncp_monitor.specs.declared.finding.Who.{Who}
use Rattle.ncp_monitor.specs.declared.finding.Who.TheVariants.{Host, Imp}
use Rattle.ncp_interface.specs.declared.imp_direction.ImpDirection.{ImpDirection}
use Rattle.ncp_monitor.specs.declared.monitor.Monitor.{Monitor}
use Rattle.ncp_monitor.specs.declared.phase.MessageContext.{MessageContext}
use Rattle.ncp_interface.specs.declared.notice.ImpNotice.{ImpNotice}
use Rattle.ncp_monitor.specs.declared.resets.Trust.{Trust}
use Rattle.ncp_interface.specs.declared.doubt.Doubt.{Doubt}
use Rattle.ncp_interface.specs.declared.sent_message.LinkState.{LinkState}
use Rattle.ncp_interface.specs.declared.sent_message.SentMessage.{SentMessage}
use Rattle.ncp_interface.specs.declared.sent_messages.TheConstants.{MAX_KEPT}
use Rattle.ncp_monitor.specs.declared.views.TheConstants.{HOSTS, VIEWS}
use Rattle.ncp_interface.specs.Events.{event_of}
use Rattle.ncp_interface.specs.Slots.{position_of, kept_at, gone_out, has_room, with_out, with_kept_slot, with_answered, is_slot_out, with_answer}
use Rattle.ncp_monitor.specs.Tables.{index_of, view_in, with_view}
use Rattle.ncp_monitor.specs.Judged.{new_monitor, sees, slot_of_link, same_of, view_after_out, fresh_out, monitor_after_out, monitor_after_answer, judges_coming, with_coming, after_in, turn_at, after_said, after_event, record_findings, after_record}
use Rattle.ncp_monitor.specs.Resets.{doubt_on, before_event, next_doubt, with_next_doubt, becomes_unclear, with_unclear, is_in_doubt, is_of_form, is_clear, is_certain_pair, trust_of, reports_imp, reports_against, reports, after_notice, judged_findings, after_judged}
use Rattle.ncp_interface.specs.Doubts.{awaits_repeat, may_arrive_again, is_certain, doubt_of, doubt_left}
use Rattle.ncp_interface.specs.Notices.{notice_of}
use Rattle.ncp_proof_monitor_messages.specs.Files.{findings_in}
use Rattle.ncp_proof_interface_resets.specs.ResetRuns.{has_no_notice, judged_in, WithoutNotices}
use Rattle.ncp_proof_interface_resets.proofs.Unclear.{marks, event_marks}

abbrev certain : SentMessage → Bool
certain k = is_certain k.doubt

-- nothing is in doubt
pub record Plain (U : Monitor) : Type 0 where
  pub kept : list_all certain U.kept ≡ true
  pub clear : (at : ℕ) → get_or U.unclear at false ≡ false
  pub sure : (at peer : ℕ) → is_in_doubt U.in_doubt at peer ≡ false

-- ---- what follows from it

none_is : (d : Doubt) → is_certain d ≡ true → d ≡ Doubt.None
none_is Doubt.None e = refl
none_is Doubt.Refused e = absurd (cc e)
none_is Doubt.Forgotten e = absurd (cc e)
none_is Doubt.Copied e = absurd (cc e)

certain_at : (ks : List SentMessage) (p : ℕ) → list_all certain ks ≡ true → certain (kept_at ks p) ≡ true
certain_at [] p e = refl
certain_at (k ∷ ks) zero e = (and_parts (certain k) (list_all certain ks) e).0
certain_at (k ∷ ks) (suc p) e = certain_at ks p (and_parts (certain k) (list_all certain ks) e).1

module _ (U : Monitor) (k : Plain U) where
  no_doubt : (from to link : ℕ) → doubt_on U from to link ≡ Doubt.None
  no_doubt from to link = by (position_of from to link U.kept)
    where
      by : (o : Option ℕ) → doubt_of U.kept o ≡ Doubt.None
      by None = refl
      by (Some p) = none_is (kept_at U.kept p).doubt (certain_at U.kept p k.kept)

  before_same : (at : ℕ) (happened : InterfaceEvent) → before_event U at happened ≡ U
  before_same at event.Short = refl
  before_same at event.Nothing = refl
  before_same at (event.Own kind link) = refl
  before_same at (event.Other kind) = refl
  before_same at (event.Answer kind peer link) = refl
  before_same at (event.In peer link) = refl
  before_same at (event.Out peer link) = ap (λ (d : Doubt). if awaits_repeat d then monitor_after_answer U 9 at peer link else U) (no_doubt at peer link)

  next_none : (at : ℕ) (happened : InterfaceEvent) → next_doubt U at happened ≡ None
  next_none at event.Short = refl
  next_none at event.Nothing = refl
  next_none at (event.Own kind link) = refl
  next_none at (event.Other kind) = refl
  next_none at (event.Answer kind peer link) = refl
  next_none at (event.In peer link) = refl
  next_none at (event.Out peer link) = ap (λ (d : Doubt). if U.full then None else doubt_left d) (no_doubt at peer link) ∙ by U.full
    where
      by : (b : Bool) → (if b then None else doubt_left Doubt.None) ≡ None
      by true = refl
      by false = refl

  stays_clear : (at : ℕ) (happened : InterfaceEvent) → becomes_unclear U at happened ≡ false
  stays_clear at event.Short = refl
  stays_clear at event.Nothing = refl
  stays_clear at (event.Own kind link) = refl
  stays_clear at (event.Other kind) = refl
  stays_clear at (event.Out peer link) = refl
  stays_clear at (event.In peer link) = refl
  stays_clear at (event.Answer kind peer link) = ap (λ (d : Doubt). kind == 5 && awaits_repeat d && is_slot_out (slot_of_link U at peer link)) (no_doubt at peer link) ∙ by (kind == 5)
    where
      by : (b : Bool) → (b && false && is_slot_out (slot_of_link U at peer link)) ≡ false
      by true = refl
      by false = refl

  record Trusts (t : Trust) : Type 0 where
    host : t.host ≡ true
    peer : t.peer ≡ true
    imp : t.imp ≡ true

  host_clear : (at : ℕ) → is_clear U at ≡ true
  host_clear at = ap not (k.clear at)

  pair_sure : (at peer : ℕ) → is_certain_pair U at peer ≡ true
  pair_sure at peer = ap not (k.sure at peer)

  all_trusted : (at : ℕ) (happened : InterfaceEvent) → Trusts (trust_of U at happened)
  all_trusted at event.Short = record { host = host_clear at; peer = refl; imp = refl }
  all_trusted at event.Nothing = record { host = host_clear at; peer = refl; imp = refl }
  all_trusted at (event.Own kind link) = record { host = host_clear at; peer = refl; imp = refl }
  all_trusted at (event.Other kind) = record { host = host_clear at; peer = refl; imp = refl }
  all_trusted at (event.Out peer link) = record { host = host_clear at; peer = pair_sure at peer; imp = refl }
  all_trusted at (event.Answer kind peer link) = record { host = host_clear at; peer = pair_sure at peer; imp = ap (λ (d : Doubt). not (may_arrive_again d)) (no_doubt at peer link) }
  all_trusted at (event.In peer link) = record { host = host_clear at; peer = pair_sure at peer; imp = ap (λ (d : Doubt). not (may_arrive_again d)) (no_doubt peer at link) }

  abbrev all_sure : Trust
  all_sure = record { host = true; peer = true; imp = true }

  all_of_imp : (r : Rule) → reports_imp all_sure r ≡ true
  all_of_imp (Rule.Short bits) = refl
  all_of_imp (Rule.OwnHost kind link) = refl
  all_of_imp (Rule.Kind kind) = refl
  all_of_imp (Rule.Fault fault link) = refl
  all_of_imp (Rule.WrongLink link) = refl
  all_of_imp (Rule.WrongSize size) = refl
  all_of_imp (Rule.Extras flags low text rest) = refl
  all_of_imp (Rule.Occupied link) = refl
  all_of_imp (Rule.Changed link) = refl
  all_of_imp (Rule.Stray kind link) = refl
  all_of_imp (Rule.Unsent host link why) = refl
  all_of_imp (Rule.FalseAnswer kind host link came) = refl
  all_of_imp (Rule.Bad fault) = refl
  all_of_imp (Rule.Early thing began waits owes) = refl
  all_of_imp Rule.RstAgain = refl
  all_of_imp Rule.RrpUnasked = refl
  all_of_imp (Rule.Unquiet reply link) = refl
  all_of_imp Rule.RrpFirst = refl
  all_of_imp Rule.MissingRrp = refl
  all_of_imp (Rule.Missing c) = refl
  all_of_imp (Rule.Skipped c) = refl
  all_of_imp (Rule.EcoAgain byte) = refl
  all_of_imp (Rule.ErpUnasked byte) = refl
  all_of_imp (Rule.ErrUnjust code bytes) = refl
  all_of_imp (Rule.Sex c) = refl
  all_of_imp (Rule.LinkRange c) = refl
  all_of_imp (Rule.SizeZero c) = refl
  all_of_imp (Rule.AskedAgain c since) = refl
  all_of_imp (Rule.Unended c since) = refl
  all_of_imp (Rule.LinkUsed c local remote) = refl
  all_of_imp (Rule.ClsUnknown c) = refl
  all_of_imp (Rule.ClsAgain c since) = refl
  all_of_imp (Rule.TextOut c link) = refl
  all_of_imp (Rule.NotOpen c why) = refl
  all_of_imp (Rule.OverLimit c messages bits) = refl
  all_of_imp (Rule.GvbAgain c) = refl
  all_of_imp (Rule.RetUnasked c) = refl
  all_of_imp (Rule.RetOther c messages bits) = refl
  all_of_imp (Rule.RetOver c messages bits) = refl
  all_of_imp (Rule.TextNotOpen link why) = refl
  all_of_imp (Rule.TextSize link size asked) = refl
  all_of_imp (Rule.TextOver link messages bits of_bits) = refl

  all_reported : (t : Trust) → Trusts t → (at : ℕ) (f : Finding) → reports t at f ≡ true
  all_reported t e at f =
      ap (λ (b : Bool). reports_against (record t { host = b }) at f.who f.rule) e.host ∙ ap (λ (b : Bool). reports_against (record t { host = true; peer = b }) at f.who f.rule) e.peer
      ∙ ap (λ (b : Bool). reports_against (record { host = true; peer = true; imp = b }) at f.who f.rule) e.imp ∙ by f.who
    where
      or : (b : Bool) → (b || true) ≡ true
      or true = refl
      or false = refl

      of_host : (b : Bool) → (if b then true else is_of_form f.rule || true) ≡ true
      of_host true = refl
      of_host false = or (is_of_form f.rule)

      by : (w : Who) → reports_against all_sure at w f.rule ≡ true
      by (Host host) = of_host (host == at)
      by Imp = all_of_imp f.rule

all_left : (Q : Finding → Bool) → ((f : Finding) → Q f ≡ true) → (fs : List Finding) → filter Q fs ≡ fs
all_left Q e [] = refl
all_left Q e (f ∷ fs) = ap (λ (b : Bool). cond b (f ∷ filter Q fs) (filter Q fs)) (e f) ∙ ap (λ (xs : List Finding). f ∷ xs) (all_left Q e fs)

-- ---- it stays so

all_set : (ks : List SentMessage) (p : ℕ) (x : SentMessage) → list_all certain ks ≡ true → certain x ≡ true → list_all certain (slice_set ks p x) ≡ true
all_set [] p x e c = refl
all_set (k ∷ ks) zero x e c = ap (λ (b : Bool). b && list_all certain ks) c ∙ (and_parts (certain k) (list_all certain ks) e).1
all_set (k ∷ ks) (suc p) x e c = let parts = and_parts (certain k) (list_all certain ks) e in ap (λ (b : Bool). b && list_all certain (slice_set ks p x)) parts.0 ∙ all_set ks p x parts.1 c

all_but : (ks : List SentMessage) (p : ℕ) → list_all certain ks ≡ true → list_all certain (remove ks p) ≡ true
all_but [] zero e = refl
all_but [] (suc p) e = refl
all_but (k ∷ ks) zero e = (and_parts (certain k) (list_all certain ks) e).1
all_but (k ∷ ks) (suc p) e = let parts = and_parts (certain k) (list_all certain ks) e in ap (λ (b : Bool). b && list_all certain (remove ks p)) parts.0 ∙ all_but ks p parts.1

all_more : (ks : List SentMessage) (x : SentMessage) → list_all certain ks ≡ true → certain x ≡ true → list_all certain (ks ++ x ∷ []) ≡ true
all_more [] x e c = ap (λ (b : Bool). b && true) c
all_more (k ∷ ks) x e c = let parts = and_parts (certain k) (list_all certain ks) e in ap (λ (b : Bool). b && list_all certain (ks ++ x ∷ [])) parts.0 ∙ all_more ks x parts.1 c

slot_set : (ks : List SentMessage) (p : ℕ) (s : LinkState) → list_all certain ks ≡ true → list_all certain (with_kept_slot ks p s) ≡ true
slot_set ks p s e = all_set ks p (record (kept_at ks p) { slot = s }) e (certain_at ks p e)

out_kept : (ks : List SentMessage) (o : Option ℕ) (at peer link : ℕ) (bits : List Bool) → list_all certain ks ≡ true → list_all certain (with_out ks o (gone_out at peer link bits)) ≡ true
out_kept ks (Some p) at peer link bits e = all_set ks p (gone_out at peer link bits) e refl
out_kept ks None at peer link bits e = by (nat_lt (length ks) MAX_KEPT)
  where
    by : (b : Bool) → list_all certain (if b then ks ++ gone_out at peer link bits ∷ [] else ks) ≡ true
    by true = all_more ks (gone_out at peer link bits) e refl
    by false = e

answer_kept : (known : Bool) (kind : ℕ) (ks : List SentMessage) (o : Option ℕ) → list_all certain ks ≡ true → list_all certain (with_answer known kind ks o) ≡ true
answer_kept known kind ks None e = e
answer_kept known kind ks (Some p) e = by (is_slot_out (kept_at ks p).slot) (kind == 5)
  where
    gone : (b : Bool) → list_all certain (with_answered b ks p) ≡ true
    gone true = all_but ks p e
    gone false = slot_set ks p LinkState.Empty e

    by : (out five : Bool) → list_all certain (if not out then ks else if five then with_answered known ks p else with_kept_slot ks p LinkState.Again) ≡ true
    by false five = e
    by true true = gone known
    by true false = slot_set ks p LinkState.Again e

coming_kept : (ks : List SentMessage) (o : Option ℕ) → list_all certain ks ≡ true → list_all certain (with_coming ks o) ≡ true
coming_kept ks None e = e
coming_kept ks (Some p) e = by (is_slot_out (kept_at ks p).slot)
  where
    by : (b : Bool) → list_all certain (if b then with_kept_slot ks p LinkState.Came else ks) ≡ true
    by true = slot_set ks p LinkState.Came e
    by false = e

said_kept : (A : Monitor) (at peer : ℕ) (context : MessageContext) (fresh : Bool) (r : Result Message MessageFault) → list_all certain A.kept ≡ true → list_all certain (after_said A at peer context fresh r).kept ≡ true
said_kept A at peer context true (Ok m) e = e
said_kept A at peer context false (Ok m) e = e
said_kept A at peer context fresh (Err fault) e = e

event_kept : (U : Monitor) (at : ℕ) (bits : List Bool) (happened : InterfaceEvent) → list_all certain U.kept ≡ true → list_all certain (after_event U at bits happened).kept ≡ true
event_kept U at bits event.Short e = e
event_kept U at bits event.Nothing e = e
event_kept U at bits (event.Own kind link) e = e
event_kept U at bits (event.Other kind) e = e
event_kept U at bits (event.Answer kind peer link) e = by U.full
  where
    by : (b : Bool) → list_all certain (if b then U else record U { kept = with_answer (view_in U.views at peer).known kind U.kept (position_of at peer link U.kept) }).kept ≡ true
    by true = e
    by false = answer_kept (view_in U.views at peer).known kind U.kept (position_of at peer link U.kept) e
event_kept U at bits (event.Out peer link) e =
    let A = monitor_after_out U at peer link bits in said_kept A at peer (turn_at A at peer at true) (fresh_out U at peer link bits) (message_in bits) (by U.full)
  where
    by : (b : Bool)
        → list_all certain (if b then U else record U {
          full = not (has_room U.kept (position_of at peer link U.kept));
          views = with_view U.views at peer (view_after_out (view_in U.views at peer) link (slot_of_link U at peer link) (same_of U at peer link bits));
          kept = with_out U.kept (position_of at peer link U.kept) (gone_out at peer link bits);
        }).kept ≡ true
    by true = e
    by false = out_kept U.kept (position_of at peer link U.kept) at peer link bits e
event_kept U at bits (event.In peer link) e = let A = after_in U at peer link in said_kept A at peer (turn_at A at peer peer false) true (message_in bits) (by (judges_coming U at peer))
  where
    by : (b : Bool) → list_all certain (if b then record U { kept = with_coming U.kept (position_of peer at link U.kept) } else U).kept ≡ true
    by true = coming_kept U.kept (position_of peer at link U.kept) e
    by false = e

plain_after : (U : Monitor) (way : ImpDirection) (at : ℕ) (bits : List Bool) → Plain U → Plain (after_record U way at bits)
plain_after U way at bits k =
    let same : marks (after_record U way at bits) ≡ marks U = event_marks (sees U at) at bits (event_of way at bits) in
    record {
      kept = event_kept (sees U at) at bits (event_of way at bits) k.kept;
      clear = λ host. ap (λ (m : List Bool × List Bool). get_or m.0 host false) same ∙ k.clear host;
      sure = λ one other. ap (λ (m : List Bool × List Bool). is_in_doubt m.1 one other) same ∙ k.sure one other;
    }

-- ---- a record

pub record PlainRecord (U : Monitor) (way : ImpDirection) (at : ℕ) (bits : List Bool) : Type 0 where
  pub found : judged_findings U way at bits ≡ record_findings U way at bits
  pub after : after_judged U way at bits ≡ after_record U way at bits
  pub plain : Plain (after_record U way at bits)

pub plain_record : (U : Monitor) (way : ImpDirection) (at : ℕ) (bits : List Bool) → Plain U → notice_of way bits ≡ None → PlainRecord U way at bits
plain_record U way at bits k none =
    let happened = event_of way at bits in
    let now = after_record U way at bits in
    let same = before_same U k at happened in
    record {
      found = all_left (reports (trust_of U at happened) at) (all_reported U k (trust_of U at happened) (all_trusted U k at happened) at) (record_findings (before_event U at happened) way at bits)
          ∙ ap (λ (V : Monitor). record_findings V way at bits) same;
      after = ap (λ (V : Monitor). after_notice (with_unclear (with_next_doubt (after_record V way at bits) at happened (next_doubt U at happened)) at (becomes_unclear U at happened)) at (notice_of way bits)) same
          ∙ ap (λ (o : Option Doubt). after_notice (with_unclear (with_next_doubt now at happened o) at (becomes_unclear U at happened)) at (notice_of way bits)) (next_none U k at happened)
          ∙ ap (λ (V : Monitor). after_notice (with_unclear V at (becomes_unclear U at happened)) at (notice_of way bits)) (unnoted now at happened)
          ∙ ap (λ (b : Bool). after_notice (with_unclear now at b) at (notice_of way bits)) (stays_clear U k at happened)
          ∙ ap (after_notice now at) none;
      plain = plain_after U way at bits k;
    }
  where
    unnoted : (V : Monitor) (at : ℕ) (happened : InterfaceEvent) → with_next_doubt V at happened None ≡ V
    unnoted V at event.Short = refl
    unnoted V at event.Nothing = refl
    unnoted V at (event.Own kind link) = refl
    unnoted V at (event.Other kind) = refl
    unnoted V at (event.Out peer link) = refl
    unnoted V at (event.Answer kind peer link) = refl
    unnoted V at (event.In peer link) = refl

pub plain_new : (part : Bool) → Plain (new_monitor part)
plain_new part = record { kept = refl; clear = λ at. all_false HOSTS at; sure = λ at peer. all_false VIEWS (index_of at peer) }
  where
    all_false : (n i : ℕ) → get_or (replicate n false) i false ≡ false
    all_false zero i = refl
    all_false (suc n) zero = refl
    all_false (suc n) (suc i) = all_false n i

-- ---- a file

pub without_notices : WithoutNotices
without_notices part file none = walk file (new_monitor part) (plain_new part) none
  where
    walk : (file : List (ℕ × ImpDirection × List Bool)) (U : Monitor) → Plain U → list_all has_no_notice file ≡ true → judged_in U file ≡ findings_in U file
    walk [] U k none = refl
    walk (one ∷ more) U k none =
        let parts = and_parts (has_no_notice one) (list_all has_no_notice more) none in
        let r = plain_record U one.1 one.0 one.2 k (is_nothing (notice_of one.1 one.2) parts.0) in
        ap (λ (fs : List Finding). fs ++ judged_in (after_judged U one.1 one.0 one.2) more) r.found
        ∙ ap (λ (V : Monitor). record_findings U one.1 one.0 one.2 ++ judged_in V more) r.after
        ∙ ap (λ (fs : List Finding). record_findings U one.1 one.0 one.2 ++ fs) (walk more (after_record U one.1 one.0 one.2) r.plain parts.1)
      where
        is_nothing : (o : Option ImpNotice) → is_none o ≡ true → o ≡ None
        is_nothing None e = refl
        is_nothing (Some x) e = absurd (cc e)
