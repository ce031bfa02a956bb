-- Two hosts and the links between them: each step is paid for.
use Rattle.std.proofs.Common.{◌≡◌, ℕ, zero, suc, ◌+◌, ◌*◌, ◌==◌, ◌≤◌, ◌<◌, Bool, true, false, cond, List, [], ◌∷◌, take, drop, Option, Some, None, refl, sym, ap, subst, arith, le_trans, add-one}
use Rattle.ncp_wire.specs.declared.command.Command.{Command}
use Rattle.ncp_wire.specs.declared.links.TheConstants.{FIRST_LINK, DATA_LINKS}
use Rattle.ncp_model.specs.Effect.{answer, is_data_link}
use Rattle.ncp_model.specs.Ends.{Ends, cut_in}
use Rattle.ncp_model.specs.EndpointEvents.{of_cut}
use Rattle.ncp_model.specs.Peers.{Peer, frees, hears}
use Rattle.ncp_proof_machine.specs.Resets.{Party, This, That}
use Rattle.ncp_proof_machine.specs.Delivery.{Slot, Empty, Ready, Travelling, Held, MessageTransit, Free, Accepted, Delivered, Lost, Dead, Link, idle, undelivered}
use Rattle.ncp_proof_machine.specs.Hosts.{TextOut, TwoNodes, nodes_swapped, set_link, peer_of, NodeStep, Calls_reset, Calls, Calls_echo, Falls, Sends, Sends_text, Hears, Hears_text, Loses, Loses_text, Dies, Text_dies, Is_answered, Text_is_answered, Wakes, node_steps, NodeEvent, node_at, run_from, run, start}
use Rattle.ncp_proof_machine.specs.Seen.{hears_each, takes_commands, cuts_where, hears_message, hears_coming, control_taken, text_taken, peer_after, links_of, are_quiet}
use Rattle.ncp_proof_machine.specs.Moving.{first_waiting, as_text, link_sent, control_link_after, text_link_after, control_heard, text_heard, answered_by, transit_delivered}
use Rattle.ncp_proof_machine.proofs.Seeing.{steps_agree, others_stay}
use Rattle.ncp_proof_machine.proofs.Moves.{control_moves, texts_move, control_is_heard, texts_are_heard}
use Rattle.ncp_proof_progress.specs.Work.{causes_all, queue_work, takes_away, peer_work}
use Rattle.ncp_proof_progress.specs.HostsWork.{text_causes, control_work, text_work, texts_work, node_work, work, SlotFits, NodeFits, IsOnDataLink, StepPaid, BothFit, AllOnLinks, messages_moved, messages_allowed, moved_at, allows_at}
use Rattle.ncp_proof_progress.proofs.PeerWork.{comes-work, text-work, call-work, echo-work, reset-work, cut-work, free-work, settle-work, falls-work}
use Rattle.ncp_proof_progress.proofs.EndsWork.{ends-none}
use Rattle.ncp_proof_progress.proofs.LinkWork.{put_work, come_work, sent-link, come-link, lost-link, dead-link, told-link, woken-link, texts-one, texts-woken, texts-none-gains, sent-fits, come-fits, lost-fits, dead-fits, told-fits, woken-fits}

-- what a host keeps of its peer

queue-split : (n : ℕ) (cs : List Command) → queue_work (drop n cs) + queue_work (take n cs) ≡ queue_work cs
unfolding queue_work
queue-split zero cs = omega arith
queue-split (suc n) [] = omega arith
queue-split (suc n) (c ∷ cs) = let h = queue-split n cs in omega (arith, h)

caused : (cs : List Command) → causes_all cs ≤ queue_work cs
unfolding queue_work causes_all
caused [] = omega arith
caused (c ∷ cs) = let h = caused cs in omega (arith, h)

one-at-least : (n : ℕ) (c : Command) (cs : List Command) → 1 + causes_all (take (suc n) (c ∷ cs)) ≤ queue_work (take (suc n) (c ∷ cs))
unfolding queue_work causes_all
one-at-least n c cs = let h = caused (take n cs) in omega (arith, h)

taken-work : (slot : Slot (List Command)) (n : ℕ) (p : Peer) (q : List Command) → p.phase.waiting ≡ q → 3 * peer_work (takes_commands slot n p) + put_work causes_all (first_waiting n q) slot ≤ 3 * peer_work p
unfolding queue_work
taken-work Empty n p [] e = let h = queue-split (n + 1) p.phase.waiting in omega (arith, h)
taken-work Empty n p (c ∷ cs) e =
    let h = queue-split (n + 1) p.phase.waiting in
    let k : 1 + causes_all (take (n + 1) (c ∷ cs)) ≤ queue_work (take (n + 1) (c ∷ cs)) = subst (λ (i : ℕ). 1 + causes_all (take i (c ∷ cs)) ≤ queue_work (take i (c ∷ cs))) (sym (add-one n)) (one-at-least n c cs) in
    let l : queue_work (take (n + 1) p.phase.waiting) ≡ queue_work (take (n + 1) (c ∷ cs)) = ap (λ (cs : List Command). queue_work (take (n + 1) cs)) e in
    omega (arith, h, k, l)
taken-work (Ready m) n p [] e = omega arith
taken-work (Ready m) n p (c ∷ cs) e = omega arith
taken-work (Travelling m) n p [] e = omega arith
taken-work (Travelling m) n p (c ∷ cs) e = omega arith
taken-work (Held m) n p [] e = omega arith
taken-work (Held m) n p (c ∷ cs) e = omega arith

each-work : (quiet : Bool) (cs : List Command) (p : Peer) → peer_work (hears_each quiet cs p) ≤ peer_work p + causes_all cs
unfolding causes_all
each-work quiet [] p = omega arith
each-work quiet (c ∷ cs) p = let h = each-work quiet cs (hears quiet c p) in let k = comes-work quiet c p in omega (arith, h, k)

message-work : (s : MessageTransit (List Command)) (quiet : Bool) (p : Peer) → 3 * peer_work (hears_message s quiet p) ≤ 3 * peer_work p + come_work causes_all s
message-work (Accepted m) quiet p = let h = each-work quiet m p in omega (arith, h)
message-work Free quiet p = omega arith
message-work Delivered quiet p = omega arith
message-work Lost quiet p = omega arith
message-work Dead quiet p = omega arith

coming-work : (on : ℕ) (head : List Bool) (s : MessageTransit TextOut) (p : Peer) → 3 * peer_work (hears_coming on head s p) ≤ 3 * peer_work p + come_work text_causes s
coming-work on head (Accepted t) p = let h = text-work on head t.of_size t.bits p in omega (arith, h)
coming-work on head Free p = omega arith
coming-work on head Delivered p = omega arith
coming-work on head Lost p = omega arith
coming-work on head Dead p = omega arith

put-cut : (o : Option (ℕ × List Bool)) → put_work text_causes (as_text o) Empty ≡ 3 * takes_away (of_cut o)
put-cut None = refl
put-cut (Some text) = refl

no-put : (m : Option TextOut) (t : TextOut) → (put_work text_causes m (Ready t) ≡ 0) × (put_work text_causes m (Travelling t) ≡ 0) × (put_work text_causes m (Held t) ≡ 0)
no-put None t = (refl, refl, refl)
no-put (Some m) t = (refl, refl, refl)

cut-where-work : (slot : Slot TextOut) (on : ℕ) (p : Peer) → 3 * peer_work (cuts_where slot on p) + put_work text_causes (as_text (answer (cut_in on p.ends))) slot ≤ 3 * peer_work p
cut-where-work Empty on p = let h = cut-work on p in let k = put-cut (answer (cut_in on p.ends)) in omega (arith, h, k)
cut-where-work (Ready t) on p = let k = (no-put (as_text (answer (cut_in on p.ends))) t).0 in omega (arith, k)
cut-where-work (Travelling t) on p = let k = (no-put (as_text (answer (cut_in on p.ends))) t).1 in omega (arith, k)
cut-where-work (Held t) on p = let k = (no-put (as_text (answer (cut_in on p.ends))) t).2 in omega (arith, k)

control-taken-work : (slot : Slot (List Command)) (s : MessageTransit (List Command)) (quiet : Bool) (p : Peer) → peer_work (control_taken slot s quiet p) ≤ peer_work p
control-taken-work (Travelling m) Delivered quiet p = settle-work quiet p
control-taken-work (Travelling m) Free quiet p = omega arith
control-taken-work (Travelling m) (Accepted c) quiet p = omega arith
control-taken-work (Travelling m) Lost quiet p = omega arith
control-taken-work (Travelling m) Dead quiet p = omega arith
control-taken-work Empty s quiet p = omega arith
control-taken-work (Ready m) s quiet p = omega arith
control-taken-work (Held m) s quiet p = omega arith

text-taken-work : (on : ℕ) (slot : Slot TextOut) (s : MessageTransit TextOut) (quiet : Bool) (p : Peer) → peer_work (text_taken on slot s quiet p) ≤ peer_work p
text-taken-work on (Travelling m) Delivered quiet p = le_trans (settle-work quiet (frees on p)) (free-work on p)
text-taken-work on (Travelling m) Free quiet p = omega arith
text-taken-work on (Travelling m) (Accepted c) quiet p = omega arith
text-taken-work on (Travelling m) Lost quiet p = omega arith
text-taken-work on (Travelling m) Dead quiet p = omega arith
text-taken-work on Empty s quiet p = omega arith
text-taken-work on (Ready m) s quiet p = omega arith
text-taken-work on (Held m) s quiet p = omega arith

-- the parts of the work after a step

this-after : (step : NodeStep) (w : TwoNodes) → node_work (node_steps step w).this ≡ 3 * peer_work (peer_after step (links_of w.this) (links_of w.that) (peer_of w.this)) + control_work (control_link_after step w.this.host.phase.waiting w.this.control) + texts_work (node_steps step w).this.texts DATA_LINKS FIRST_LINK
this-after step w = rw (sym (steps_agree step w), sym (control_moves step w)) refl

that-after : (step : NodeStep) (w : TwoNodes) → node_work (node_steps step w).that ≡ 3 * peer_work (peer_of w.that) + control_work (control_heard step w.that.control) + texts_work (node_steps step w).that.texts DATA_LINKS FIRST_LINK
that-after step w =
    let e = ap (λ (p : Peer). peer_work p) (others_stay step w) in
    let d = ap (λ (k : Link (List Command)). control_work k) (control_is_heard step w) in
    omega (arith, e, d)

texts-after : (step : NodeStep) (w : TwoNodes) → ((on : ℕ) → text_work (text_link_after step on w.this.ends (w.this.texts on)) ≤ text_work (w.this.texts on)) → texts_work (node_steps step w).this.texts DATA_LINKS FIRST_LINK ≤ texts_work w.this.texts DATA_LINKS FIRST_LINK
texts-after step w h = texts-none-gains w.this.texts (node_steps step w).this.texts (λ on. subst (λ (k : Link TextOut). text_work k ≤ text_work (w.this.texts on)) (sym (texts_move step w on)) (h on)) DATA_LINKS FIRST_LINK

texts-that : (step : NodeStep) (w : TwoNodes) → ((on : ℕ) → text_work (text_heard step on (w.that.texts on)) ≤ text_work (w.that.texts on)) → texts_work (node_steps step w).that.texts DATA_LINKS FIRST_LINK ≤ texts_work w.that.texts DATA_LINKS FIRST_LINK
texts-that step w h = texts-none-gains w.that.texts (node_steps step w).that.texts (λ on. subst (λ (k : Link TextOut). text_work k ≤ text_work (w.that.texts on)) (sym (texts_are_heard step w on)) (h on)) DATA_LINKS FIRST_LINK

from-first : (on : ℕ) → is_data_link on ≡ true → FIRST_LINK ≤ on
from-first on h = grind arith

to-last : (on : ℕ) → is_data_link on ≡ true → on < FIRST_LINK + DATA_LINKS
to-last on h = grind arith

pub step-paid : (step : NodeStep) (w : TwoNodes) → NodeFits w.this → NodeFits w.that → IsOnDataLink step → StepPaid step w
step-paid Calls_reset w f g l = let x = this-after Calls_reset w in let y = that-after Calls_reset w in let t = texts-after Calls_reset w (λ on. omega arith) in let u = texts-that Calls_reset w (λ on. omega arith) in let p = reset-work (are_quiet (links_of w.this)) (peer_of w.this) in omega (arith, x, y, t, u, p)
step-paid (Calls pair call) w f g l = let x = this-after (Calls pair call) w in let y = that-after (Calls pair call) w in let t = texts-after (Calls pair call) w (λ on. omega arith) in let u = texts-that (Calls pair call) w (λ on. omega arith) in let p = call-work pair call (peer_of w.this) in omega (arith, x, y, t, u, p)
step-paid (Calls_echo byte) w f g l = let x = this-after (Calls_echo byte) w in let y = that-after (Calls_echo byte) w in let t = texts-after (Calls_echo byte) w (λ on. omega arith) in let u = texts-that (Calls_echo byte) w (λ on. omega arith) in let p = echo-work byte (peer_of w.this) in omega (arith, x, y, t, u, p)
step-paid Falls w f g l = let x = this-after Falls w in let y = that-after Falls w in let t = texts-after Falls w (λ on. omega arith) in let u = texts-that Falls w (λ on. omega arith) in let p = falls-work (peer_of w.this) in omega (arith, x, y, t, u, p)
step-paid (Sends n) w f g l = let x = this-after (Sends n) w in let y = that-after (Sends n) w in let t = texts-after (Sends n) w (λ on. omega arith) in let u = texts-that (Sends n) w (λ on. omega arith) in let p = taken-work w.this.control.slot n (peer_of w.this) w.this.host.phase.waiting refl in let k = sent-link causes_all (first_waiting n w.this.host.phase.waiting) w.this.control.slot w.this.control.subnet in omega (arith, x, y, t, u, p, k)
step-paid (Sends_text on) w f g l = let x = this-after (Sends_text on) w in let y = that-after (Sends_text on) w in let t = texts-one w.this.texts (node_steps (Sends_text on) w).this.texts on (λ k. link_sent (as_text (answer (cut_in on w.this.ends))) (w.this.texts k).slot (w.this.texts k).subnet) (texts_move (Sends_text on) w) DATA_LINKS FIRST_LINK (from-first on l) (to-last on l) in let u = texts-that (Sends_text on) w (λ on. omega arith) in let p = cut-where-work (w.this.texts on).slot on (peer_of w.this) in let k = sent-link text_causes (as_text (answer (cut_in on w.this.ends))) (w.this.texts on).slot (w.this.texts on).subnet in omega (arith, x, y, t, u, p, k)
step-paid Hears w f g l = let x = this-after Hears w in let y = that-after Hears w in let t = texts-after Hears w (λ on. omega arith) in let u = texts-that Hears w (λ on. omega arith) in let p = message-work w.that.control.subnet (are_quiet (links_of w.this)) (peer_of w.this) in let k = come-link causes_all w.that.control.slot w.that.control.subnet g.control in omega (arith, x, y, t, u, p, k)
step-paid (Hears_text on head) w f g l = let x = this-after (Hears_text on head) w in let y = that-after (Hears_text on head) w in let t = texts-after (Hears_text on head) w (λ on. omega arith) in let u = texts-one w.that.texts (node_steps (Hears_text on head) w).that.texts on (λ k. (record (w.that.texts k) { subnet = transit_delivered (w.that.texts k).subnet })) (texts_are_heard (Hears_text on head) w) DATA_LINKS FIRST_LINK (from-first on l) (to-last on l) in let p = coming-work on head (w.that.texts on).subnet (peer_of w.this) in let k = come-link text_causes (w.that.texts on).slot (w.that.texts on).subnet (g.texts on) in omega (arith, x, y, t, u, p, k)
step-paid Loses w f g l = let x = this-after Loses w in let y = that-after Loses w in let t = texts-after Loses w (λ on. omega arith) in let u = texts-that Loses w (λ on. omega arith) in let k = lost-link causes_all w.this.control.slot w.this.control.subnet f.control in omega (arith, x, y, t, u, k)
step-paid (Loses_text on) w f g l = let x = this-after (Loses_text on) w in let y = that-after (Loses_text on) w in let t = texts-one w.this.texts (node_steps (Loses_text on) w).this.texts on (λ k. (record (w.this.texts k) { subnet = undelivered Lost (w.this.texts k).subnet })) (texts_move (Loses_text on) w) DATA_LINKS FIRST_LINK (from-first on l) (to-last on l) in let u = texts-that (Loses_text on) w (λ on. omega arith) in let k = lost-link text_causes (w.this.texts on).slot (w.this.texts on).subnet (f.texts on) in omega (arith, x, y, t, u, k)
step-paid Dies w f g l = let x = this-after Dies w in let y = that-after Dies w in let t = texts-after Dies w (λ on. omega arith) in let u = texts-that Dies w (λ on. omega arith) in let k = dead-link causes_all w.this.control.slot w.this.control.subnet f.control in omega (arith, x, y, t, u, k)
step-paid (Text_dies on) w f g l = let x = this-after (Text_dies on) w in let y = that-after (Text_dies on) w in let t = texts-one w.this.texts (node_steps (Text_dies on) w).this.texts on (λ k. (record (w.this.texts k) { subnet = undelivered Dead (w.this.texts k).subnet })) (texts_move (Text_dies on) w) DATA_LINKS FIRST_LINK (from-first on l) (to-last on l) in let u = texts-that (Text_dies on) w (λ on. omega arith) in let k = dead-link text_causes (w.this.texts on).slot (w.this.texts on).subnet (f.texts on) in omega (arith, x, y, t, u, k)
step-paid Is_answered w f g l = let x = this-after Is_answered w in let y = that-after Is_answered w in let t = texts-after Is_answered w (λ on. omega arith) in let u = texts-that Is_answered w (λ on. omega arith) in let p = control-taken-work w.this.control.slot w.this.control.subnet (are_quiet (links_of w.this)) (peer_of w.this) in let k = told-link causes_all w.this.control.slot w.this.control.subnet f.control in omega (arith, x, y, t, u, p, k)
step-paid (Text_is_answered on) w f g l = let x = this-after (Text_is_answered on) w in let y = that-after (Text_is_answered on) w in let t = texts-one w.this.texts (node_steps (Text_is_answered on) w).this.texts on (λ k. answered_by (w.this.texts k).slot (w.this.texts k).subnet) (texts_move (Text_is_answered on) w) DATA_LINKS FIRST_LINK (from-first on l) (to-last on l) in let u = texts-that (Text_is_answered on) w (λ on. omega arith) in let p = text-taken-work on (w.this.texts on).slot (w.this.texts on).subnet (are_quiet (record (links_of w.this) { texts = set_link on idle w.this.texts })) (peer_of w.this) in let k = told-link text_causes (w.this.texts on).slot (w.this.texts on).subnet (f.texts on) in omega (arith, x, y, t, u, p, k)
step-paid Wakes w f g l = let x = this-after Wakes w in let y = that-after Wakes w in let t = texts-woken w.this.texts (node_steps Wakes w).this.texts (texts_move Wakes w) DATA_LINKS FIRST_LINK in let u = texts-that Wakes w (λ on. omega arith) in let k = woken-link causes_all w.this.control.slot w.this.control.subnet in omega (arith, x, y, t, u, k)

-- slots and subnet fit after each step

control-fits : (step : NodeStep) (waiting : List Command) (k : Link (List Command)) → SlotFits k.slot k.subnet → SlotFits (control_link_after step waiting k).slot (control_link_after step waiting k).subnet
control-fits Calls_reset waiting k f = f
control-fits (Calls pair call) waiting k f = f
control-fits (Calls_echo byte) waiting k f = f
control-fits Falls waiting k f = f
control-fits (Sends n) waiting k f = sent-fits (first_waiting n waiting) k.slot k.subnet f
control-fits (Sends_text on) waiting k f = f
control-fits Hears waiting k f = f
control-fits (Hears_text on head) waiting k f = f
control-fits Loses waiting k f = lost-fits k.slot k.subnet f
control-fits (Loses_text on) waiting k f = f
control-fits Dies waiting k f = dead-fits k.slot k.subnet f
control-fits (Text_dies on) waiting k f = f
control-fits Is_answered waiting k f = told-fits k.slot k.subnet f
control-fits (Text_is_answered on) waiting k f = f
control-fits Wakes waiting k f = woken-fits k.slot k.subnet f

LinkFits : Link TextOut → Type 0
LinkFits k = SlotFits k.slot k.subnet

either : (b : Bool) (j k : Link TextOut) → LinkFits j → LinkFits k → LinkFits (cond b j k)
either true j k f g = f
either false j k f g = g

texts-fit : (step : NodeStep) (on : ℕ) (m : Ends) (k : Link TextOut) → LinkFits k → LinkFits (text_link_after step on m k)
unfolding LinkFits
texts-fit Calls_reset on m k f = f
texts-fit (Calls pair call) on m k f = f
texts-fit (Calls_echo byte) on m k f = f
texts-fit Falls on m k f = f
texts-fit (Sends n) on m k f = f
texts-fit (Sends_text link) on m k f = either (on == link) (link_sent (as_text (answer (cut_in link m))) k.slot k.subnet) k (sent-fits (as_text (answer (cut_in link m))) k.slot k.subnet f) f
texts-fit Hears on m k f = f
texts-fit (Hears_text link head) on m k f = f
texts-fit Loses on m k f = f
texts-fit (Loses_text link) on m k f = either (on == link) (record k { subnet = undelivered Lost k.subnet }) k (lost-fits k.slot k.subnet f) f
texts-fit Dies on m k f = f
texts-fit (Text_dies link) on m k f = either (on == link) (record k { subnet = undelivered Dead k.subnet }) k (dead-fits k.slot k.subnet f) f
texts-fit Is_answered on m k f = f
texts-fit (Text_is_answered link) on m k f = either (on == link) (answered_by k.slot k.subnet) k (told-fits k.slot k.subnet f) f
texts-fit Wakes on m k f = woken-fits k.slot k.subnet f

heard-fits : (step : NodeStep) (k : Link (List Command)) → SlotFits k.slot k.subnet → SlotFits (control_heard step k).slot (control_heard step k).subnet
heard-fits Hears k f = come-fits k.slot k.subnet f
heard-fits step k f = f

texts-heard-fit : (step : NodeStep) (on : ℕ) (k : Link TextOut) → LinkFits k → LinkFits (text_heard step on k)
unfolding LinkFits
texts-heard-fit (Hears_text link head) on k f = either (on == link) (record k { subnet = transit_delivered k.subnet }) k (come-fits k.slot k.subnet f) f
texts-heard-fit step on k f = f

both-fit : (step : NodeStep) (w : TwoNodes) → BothFit w → BothFit (node_steps step w)
unfolding LinkFits
both-fit step w b = record {
  this = record {
    control = subst (λ (k : Link (List Command)). SlotFits k.slot k.subnet) (sym (control_moves step w)) (control-fits step w.this.host.phase.waiting w.this.control b.this.control);
    texts = λ on. subst LinkFits (sym (texts_move step w on)) (texts-fit step on w.this.ends (w.this.texts on) (b.this.texts on));
  };
  that = record {
    control = subst (λ (k : Link (List Command)). SlotFits k.slot k.subnet) (sym (control_is_heard step w)) (heard-fits step w.that.control b.that.control);
    texts = λ on. subst LinkFits (sym (texts_are_heard step w on)) (texts-heard-fit step on (w.that.texts on) (b.that.texts on));
  };
}

pub counterpart-fit : (w : TwoNodes) → BothFit w → BothFit (nodes_swapped w)
counterpart-fit w b = record { this = b.that; that = b.this }

-- over a schedule

pub at-fit : (side : Party) (step : NodeStep) (w : TwoNodes) → BothFit w → BothFit (node_at side step w)
at-fit This step w b = both-fit step w b
at-fit That step w b = counterpart-fit (node_steps step (nodes_swapped w)) (both-fit step (nodes_swapped w) (counterpart-fit w b))

pub at-paid : (side : Party) (step : NodeStep) (w : TwoNodes) → BothFit w → IsOnDataLink step → work (node_at side step w) + moved_at side step w ≤ work w + allows_at side step w
at-paid This step w b l = step-paid step w b.this b.that l
at-paid That step w b l = let h = step-paid step (nodes_swapped w) b.that b.this l in omega (arith, h)

pub run-paid : (es : List NodeEvent) (w : TwoNodes) → BothFit w → AllOnLinks es → work (run_from es w) + messages_moved es w ≤ work w + messages_allowed es w
unfolding messages_moved messages_allowed
run-paid [] w b l = omega arith
run-paid (e ∷ es) w b l =
    let h = at-paid e.side e.step w b l.0 in
    let k = run-paid es (node_at e.side e.step w) (at-fit e.side e.step w b) l.1 in
    omega (arith, h, k)

pub start-fits : BothFit start
start-fits = record { this = record { control = tt; texts = λ on. tt }; that = record { control = tt; texts = λ on. tt } }

no-texts : (many from : ℕ) → texts_work (λ _. idle) many from ≡ 0
unfolding texts_work
no-texts zero from = refl
no-texts (suc many) from = let h = no-texts many (suc from) in omega (arith, h)

pub start-work : work start ≡ 0
unfolding queue_work
start-work = let t = no-texts DATA_LINKS FIRST_LINK in let z = ends-none in omega (arith, t, z)

pub ever-paid : (es : List NodeEvent) → AllOnLinks es → messages_moved es start + work (run es) ≤ messages_allowed es start
ever-paid es l = let h = run-paid es start start-fits l in let z = start-work in omega (arith, h, z)
