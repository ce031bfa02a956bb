-- A command of the other comes to the host: all that is known of what was said stays known.
use Rattle.std.proofs.Common.{◌≡◌, ℕ, Bool, true, false, List, [], ◌++◌, Some, refl, sym, subst}
use Rattle.std.proofs.lemmas.List.{append-nil}
use Rattle.std.specs.FinMap.{get}
use Rattle.ncp_wire.specs.declared.command.Command.{Command}
use Rattle.ncp_wire.specs.declared.command.Command.TheVariants.{Nop, Rts, Str, Cls, Gvb, Ret, Inr, Ins, Eco, Erp, Err, Rst, Rrp}
use Rattle.ncp_model.specs.Pairs.{sends}
use Rattle.ncp_model.specs.Endpoint.{Endpoint}
use Rattle.ncp_model.specs.Effect.{answer, made_by_hearing}
use Rattle.ncp_model.specs.Ends.{Ends, demux_command, hear, map_after, map_after_at}
use Rattle.ncp_model.specs.Phase.{is_other}
use Rattle.ncp_model.specs.Peers.{is_full_up, echo_replies}
use Rattle.ncp_proof_machine.proofs.EndsGood.{EndsInvariant}
use Rattle.ncp_interface.specs.declared.sent_message.SentMessage.{SentMessage}
use Rattle.ncp_interface.specs.declared.request.Request.{Request}
use Rattle.ncp_monitor.specs.declared.observed_flow.ObservedFlow.{ObservedFlow}
use Rattle.ncp_monitor.specs.ConnStates.{SeenTables}
use Rattle.ncp_monitor.specs.Replies.{after_reply}
use Rattle.ncp_monitor.specs.Requests.{is_link_busy}
use Rattle.ncp_interface.specs.Sockets.{is_of_sexes}
use Rattle.ncp_monitor.specs.Allocation.{after_link}
use Rattle.ncp_monitor.specs.Speaking.{asking_acceptance, closing_acceptance, tables_after_command}
use Rattle.ncp_monitor.proofs.LinkOrder.{Sockets}
use Rattle.ncp_proof_monitor_allocation.proofs.Changed.{pair_at}
use Rattle.ncp_proof_monitor_allocation.proofs.TidyBooks.{Tidy}
use Rattle.ncp_proof_monitor_allocation.proofs.Proper.{ProperEnds}
use Rattle.ncp_proof_monitor_allocation.proofs.Plain.{Plain}
use Rattle.ncp_proof_monitor_allocation.proofs.PlainLed.{SpeaksOn, plain_led}
use Rattle.ncp_proof_monitor_host.proofs.Spoken.{Tells}
use Rattle.ncp_proof_monitor_host.proofs.RequestsReported.{rts_reported, str_reported}
use Rattle.ncp_proof_monitor_host.proofs.ClosesReported.{cls_reported}
use Rattle.ncp_proof_monitor_host.proofs.RepliesReported.{eco_reports, reply_reports, error_reports, answers_reports}
use Rattle.ncp_proof_monitor_replies.proofs.TheirCommands.{all_both, gvb_both, inr_both, ret_both, ins_both}
use Rattle.ncp_proof_monitor_host.proofs.LinksTold.{all_reported, gvb_reported, inr_reported, ret_reported, ins_reported}

-- an ERP ends the echo
abbrev pub awaited_after : Command → Bool → Bool
awaited_after (Erp byte) awaited = false
awaited_after c awaited = awaited

-- a leaving sender has a text out
abbrev pub LeavingBusy : ℕ → ℕ → Ends → List SentMessage → Type 0
LeavingBusy me n m kept = (on : ℕ) (u : Sockets) (e : Endpoint) → get m (pair_at u) ≡ Some e → sends (pair_at u) ≡ true → e.link ≡ on → e.leaving ≡ true → is_link_busy me n (Some on) kept ≡ true

pub command_reports : (me n : ℕ) (kept : List SentMessage) (c : Command) (m : Ends) (awaited : Bool) (w : List Command) (b : SeenTables) → is_other c ≡ true → EndsInvariant m → ProperEnds m
    → is_full_up (answer (hear c m)) ≡ false → (tables_after_command (record { at = me; peer = n; sent = false }) kept c b).full ≡ false → Tidy b → LeavingBusy me n m kept → Tells me n m awaited w b
    → Tells me n (map_after_at m (demux_command c m) (hear c m)) (awaited_after c awaited) (w ++ (made_by_hearing (answer (hear c m)) ++ echo_replies c)) (tables_after_command (record { at = me; peer = n; sent = false }) kept c b)
command_reports me n kept c m awaited w b other good proper full room tidy busy tells = by c other full room
  where
    hears : ObservedFlow
    hears = record { at = me; peer = n; sent = false }

    Told : Command → Type 0
    Told c = Tells me n (map_after_at m (demux_command c m) (hear c m)) (awaited_after c awaited) (w ++ (made_by_hearing (answer (hear c m)) ++ echo_replies c)) (tables_after_command hears kept c b)

    -- nothing is queued after the commands that it makes
    alone : (now : Ends) (cs : List Command) (after : SeenTables) → Tells me n now awaited (w ++ cs) after → Tells me n now awaited (w ++ (cs ++ [])) after
    alone now cs after t = subst (λ (x : List Command). Tells me n now awaited (w ++ x) after) (sym (append-nil cs)) t

    silent : (now : Bool) (after : SeenTables) → Tells me n m now w after → Tells me n m now (w ++ []) after
    silent now after t = subst (λ (x : List Command). Tells me n m now x after) (sym (append-nil w)) t

    led : (c : Command) → Tells me n (map_after_at m (demux_command c m) (hear c m)) awaited (w ++ made_by_hearing (answer (hear c m))) (tables_after_command hears kept c b)
        → Tells me n (map_after_at m (demux_command c m) (hear c m)) awaited (w ++ (made_by_hearing (answer (hear c m)) ++ [])) (tables_after_command hears kept c b)
    led c t = alone (map_after_at m (demux_command c m) (hear c m)) (made_by_hearing (answer (hear c m))) (tables_after_command hears kept c b) t

    -- of the books alone
    plainly : (c : Command) (host : Bool) (link : ℕ) → SpeaksOn me n kept b tidy tells.meets.unique tells.counted.plain c host link → (after_link hears kept c (record { host = host; link = link }) b).full ≡ false → Plain me n (after_link hears kept c (record { host = host; link = link }) b)
    plainly c host link says r = plain_led me n kept b tidy tells.meets.unique tells.counted.plain c host link says r

    by : (c : Command) → is_other c ≡ true → is_full_up (answer (hear c m)) ≡ false → (tables_after_command hears kept c b).full ≡ false → Told c
    by (Rts receive send link) o f r =
        alone (map_after m (record { local = send; remote = receive }) (hear (Rts receive send link) m)) (made_by_hearing (answer (hear (Rts receive send link) m))) (tables_after_command hears kept (Rts receive send link) b)
        (rts_reported me n m awaited w b good proper tidy receive send link (asking_acceptance hears (Rts receive send link) receive send (is_of_sexes receive send) (Request.Link link) b) refl f r tells)
    by (Str send receive size) o f r =
        alone (map_after m (record { local = receive; remote = send }) (hear (Str send receive size) m)) (made_by_hearing (answer (hear (Str send receive size) m))) (tables_after_command hears kept (Str send receive size) b)
        (str_reported me n m awaited w b good proper tidy send receive size (asking_acceptance hears (Str send receive size) send receive (is_of_sexes receive send) (Request.Size size) b) refl f r tells)
    by (Cls my your) o f r =
        alone (map_after m (record { local = your; remote = my }) (hear (Cls my your) m)) (made_by_hearing (answer (hear (Cls my your) m))) (tables_after_command hears kept (Cls my your) b)
        (cls_reported me n m awaited w b good proper tidy kept my your (closing_acceptance hears (Cls my your) my your b) refl r tells)
    by (Command.All link messages bits) o f r = led (Command.All link messages bits) (all_reported me n m awaited w b kept good tells link messages bits r (all_both me n m good proper w b tidy tells.meets.unique tells.meets.linked tells.held tells.meets.tally.pairs tells.counted tells.owed kept link messages bits r (plainly (Command.All link messages bits) false link (refl, refl) r)))
    by (Gvb link messages bits) o f r = led (Gvb link messages bits) (gvb_reported me n m awaited w b kept good tells link messages bits r (gvb_both me n m good proper w b tidy tells.meets.unique tells.meets.linked tells.held tells.meets.tally.pairs tells.counted tells.owed kept link (busy link) messages bits r (plainly (Gvb link messages bits) false link (refl, refl) r)))
    by (Ret link messages bits) o f r = led (Ret link messages bits) (ret_reported me n m awaited w b kept good tells link messages bits r (ret_both me n m good proper w b tidy tells.meets.unique tells.meets.linked tells.held tells.meets.tally.pairs tells.counted tells.owed kept link messages bits r (plainly (Ret link messages bits) true link (refl, refl) r)))
    by (Inr link) o f r = led (Inr link) (inr_reported me n m awaited w b kept good tells link r (inr_both me n m good proper w b tidy tells.meets.unique tells.meets.linked tells.held tells.meets.tally.pairs tells.counted tells.owed kept link r (plainly (Inr link) false link tt r)))
    by (Ins link) o f r = led (Ins link) (ins_reported me n m awaited w b kept good tells link r (ins_both me n m good proper w b tidy tells.meets.unique tells.meets.linked tells.held tells.meets.tally.pairs tells.counted tells.owed kept link r (plainly (Ins link) true link tt r)))
    by (Eco byte) o f r = eco_reports me n m awaited w b byte r tells
    by (Erp byte) o f r =
        silent false (tables_after_command hears kept (Erp byte) b)
        (answers_reports me n m awaited w (after_reply hears (Erp byte) b) r (reply_reports me n m awaited w b (Erp byte) tells))
    by (Err code shown) o f r = silent awaited (tables_after_command hears kept (Err code shown) b) (error_reports me n m awaited w b code shown tells)
    by Nop o f r = silent awaited b tells
    by Rst o f r = absurd (cc o)
    by Rrp o f r = absurd (cc o)
