-- Meant for other crates too: they cite what is public here.
--
-- What a reset waits for.
use Rattle.std.proofs.Common.{◌≡◌, ℕ, zero, suc, ◌==◌, Bool, true, false, ◌&&◌, if◌then◌else◌, List, [], ◌∷◌, Option, Some, None, refl, sym, ap, ◌∙◌, subst, arith}
use Rattle.std.proofs.lemmas.Bool.{and_parts, eqb-true}
use Rattle.ncp_wire.specs.declared.command.Command.{Command}
use Rattle.ncp_wire.specs.declared.answer.Answer.{Answer}
use Rattle.ncp_slot.specs.Slot.{is_empty, woken}
use Rattle.ncp_model.specs.declared.pair.Pair.{Pair}
use Rattle.ncp_wire.specs.declared.links.TheConstants.{FIRST_LINK, DATA_LINKS}
use Rattle.ncp_model.specs.Effect.{answer, made_by_call}
use Rattle.ncp_model.specs.Texts.{made_by_text}
use Rattle.ncp_model.specs.Echo.{echo_answer}
use Rattle.ncp_model.specs.Sending.{is_full}
use Rattle.ncp_model.specs.Ends.{cut_in, text_in}
use Rattle.ncp_model.specs.Phase.{Phase, up, is_resetting, goes_down, makes_all, owes_answer, phase_answers, phase_asks, phase_hears, phase_makes, phase_settles, wants_reset}
use Rattle.ncp_model.specs.Peers.{Peer, PairCall, calls, calls_echo, calls_reset, calls_up, echo_called, frees, happened_at, hears, hears_other, hears_text, reaction, takes_text}
use Rattle.ncp_proof_machine.specs.Resets.{Party, This, That}
use Rattle.ncp_proof_machine.specs.Delivery.{Slot, Empty, Ready, Travelling, Held, MessageTransit, Free, Accepted, Delivered, Lost, Dead, Link, idle, undelivered, answer_of_transit}
use Rattle.ncp_proof_machine.specs.Hosts.{TextOut, Node, TwoNodes, nodes_swapped, set_link, peer_of, quiet, all_empty, NodeStep, Calls_reset, Calls, Calls_echo, Falls, Sends, Sends_text, Hears, Hears_text, Loses, Loses_text, Dies, Text_dies, Is_answered, Text_is_answered, Wakes, node_steps, NodeEvent, node_at, run_from, run, start}
use Rattle.ncp_proof_machine.specs.Seen.{hears_each, takes_commands, cuts_where, hears_message, hears_coming, control_taken, text_taken, peer_after, links_of}
use Rattle.ncp_proof_machine.specs.Moving.{as_text, link_sent, text_link_after, text_heard, answered_by, hears_answer, transit_delivered}
use Rattle.ncp_proof_machine.proofs.Seeing.{steps_agree, others_stay}
use Rattle.ncp_proof_machine.proofs.Moves.{texts_move, texts_are_heard}
use Rattle.ncp_proof_progress.specs.Idle.{ResetsWait}

-- where it is quiet neither is left
abbrev Clear : Bool → Phase → Type 0
Clear q p = (q ≡ true → p.want ≡ false) × (q ≡ true → p.owe ≡ false)

-- flags that no other step touches
abbrev Same : Phase → Phase → Type 0
Same p r = (r.want ≡ p.want) × (r.owe ≡ p.owe)

as-before : (q : Bool) (p r : Phase) → Same p r → Clear q p → Clear q r
as-before q p r s c = (λ e. s.0 ∙ c.0 e, λ e. s.1 ∙ c.1 e)

-- phases

asked : (p : Phase) → ((phase_asks p).want ≡ false) × ((phase_asks p).owe ≡ p.owe)
asked p = go p.want refl
  where
    go : (b : Bool) → p.want ≡ b → ((phase_asks p).want ≡ false) × ((phase_asks p).owe ≡ p.owe)
    go true e = rw e (refl, refl)
    go false e = rw e (refl, refl)

answered : (p : Phase) → (phase_answers p).owe ≡ false
answered p = go p.owe refl
  where
    go : (b : Bool) → p.owe ≡ b → (phase_answers p).owe ≡ false
    go true e = rw e refl
    go false e = rw e refl

settled : (q : Bool) (p : Phase) → Clear q (phase_settles q p)
settled true p = (λ _. (asked (phase_answers p)).0, λ _. (asked (phase_answers p)).1 ∙ answered p)
settled false p = (λ e. absurd (cc e), λ e. absurd (cc e))

made : (c : Command) (p : Phase) → Same p (phase_makes c p)
made c p = (grind arith, grind arith)

made_all : (cs : List Command) (p : Phase) → Same p (makes_all cs p)
made_all [] p = (refl, refl)
made_all (c ∷ cs) p = let r = made_all cs (phase_makes c p) in let s = made c p in (r.0 ∙ s.0, r.1 ∙ s.1)

either : (b : Bool) (p r s : Phase) → Same p r → Same p s → Same p (if b then r else s)
either true p r s f g = f
either false p r s f g = g

-- what a host keeps of its peer

abbrev SamePeer : Peer → Peer → Type 0
SamePeer p r = Same p.phase r.phase

either-peer : (b : Bool) (p r s : Peer) → SamePeer p r → SamePeer p s → SamePeer p (if b then r else s)
either-peer true p r s f g = f
either-peer false p r s f g = g

called : (pair : Pair) (call : PairCall) (p : Peer) → SamePeer p (calls pair call p)
called pair call p = either-peer (up p.phase) p (calls_up pair call p) p (made_all (happened_at pair call p).made p.phase) (refl, refl)

echoed : (byte : ℕ) (p : Peer) → SamePeer p (calls_echo byte p)
echoed byte p = either-peer (up p.phase) p (echo_called byte p) p (made_all (made_by_call (echo_answer byte (is_full p.phase) p.echoes)) p.phase) (refl, refl)

reset : (q : Bool) (p : Peer) → Clear q p.phase → Clear q (calls_reset q p).phase
reset q p c = go (is_resetting p.phase) refl
  where
    go : (b : Bool) → is_resetting p.phase ≡ b → Clear q (calls_reset q p).phase
    go true e = rw e c
    go false e = rw e (settled q (wants_reset p.phase))

other : (q : Bool) (c : Command) (p : Peer) → Same p.phase (if (reaction q c p).full then goes_down p.phase else makes_all (reaction q c p).replies p.phase)
other q c p = either (reaction q c p).full p.phase (goes_down p.phase) (makes_all (reaction q c p).replies p.phase) (refl, refl) (made_all (reaction q c p).replies p.phase)

other-up : (q : Bool) (c : Command) (p : Peer) → Same p.phase (if up p.phase then (if (reaction q c p).full then goes_down p.phase else makes_all (reaction q c p).replies p.phase) else p.phase)
other-up q c p = either (up p.phase) p.phase _ p.phase (other q c p) (refl, refl)

hears-same : (q : Bool) (c : Command) (p : Peer) → Same p.phase (phase_hears c (reaction q c p) p.phase) → SamePeer p (if up p.phase then hears_other q c p else p)
hears-same q c p s = either-peer (up p.phase) p (hears_other q c p) p s (refl, refl)

heard : (q : Bool) (c : Command) (p : Peer) → Clear q p.phase → Clear q (hears q c p).phase
heard q Command.Rst p c = settled q (owes_answer p.phase)
heard q Command.Rrp p c = c
heard q d p c = as-before q p.phase (hears q d p).phase (hears-same q d p (other-up q d p)) c

heard_each : (q : Bool) (cs : List Command) (p : Peer) → Clear q p.phase → Clear q (hears_each q cs p).phase
heard_each q [] p c = c
heard_each q (d ∷ ds) p c = heard_each q ds (hears q d p) (heard q d p c)

message : (s : MessageTransit (List Command)) (q : Bool) (p : Peer) → Clear q p.phase → Clear q (hears_message s q p).phase
message (Accepted m) q p c = heard_each q m p c
message Free q p c = c
message Delivered q p c = c
message Lost q p c = c
message Dead q p c = c

text : (on : ℕ) (head : List Bool) (of_size : ℕ) (bits : List Bool) (p : Peer) → SamePeer p (hears_text on head of_size bits p)
text on head of_size bits p = either-peer (up p.phase) p (takes_text on head of_size bits p) p (made_all (made_by_text head bits (answer (text_in on of_size bits p.ends))) p.phase) (refl, refl)

coming : (on : ℕ) (head : List Bool) (s : MessageTransit TextOut) (p : Peer) → SamePeer p (hears_coming on head s p)
coming on head (Accepted t) p = text on head t.of_size t.bits p
coming on head Free p = (refl, refl)
coming on head Delivered p = (refl, refl)
coming on head Lost p = (refl, refl)
coming on head Dead p = (refl, refl)

taking : (slot : Slot (List Command)) (n : ℕ) (p : Peer) → SamePeer p (takes_commands slot n p)
taking Empty n p = (refl, refl)
taking (Ready m) n p = (refl, refl)
taking (Travelling m) n p = (refl, refl)
taking (Held m) n p = (refl, refl)

cutting : (slot : Slot TextOut) (on : ℕ) (p : Peer) → SamePeer p (cuts_where slot on p)
cutting Empty on p = (refl, refl)
cutting (Ready m) on p = (refl, refl)
cutting (Travelling m) on p = (refl, refl)
cutting (Held m) on p = (refl, refl)

control-taken : (slot : Slot (List Command)) (s : MessageTransit (List Command)) (q : Bool) (p : Peer) → Clear q p.phase → Clear q (control_taken slot s q p).phase
control-taken (Travelling m) Delivered q p c = settled q p.phase
control-taken (Travelling m) Free q p c = c
control-taken (Travelling m) (Accepted k) q p c = c
control-taken (Travelling m) Lost q p c = c
control-taken (Travelling m) Dead q p c = c
control-taken Empty s q p c = c
control-taken (Ready m) s q p c = c
control-taken (Held m) s q p c = c

-- links

-- each link that is empty now was empty
abbrev Emptier : (ℕ → Link TextOut) → (ℕ → Link TextOut) → Type 0
Emptier f g = (k : ℕ) → is_empty (f k).slot ≡ true → is_empty (g k).slot ≡ true

both-true : (a b : Bool) → a ≡ true → b ≡ true → (a && b) ≡ true
both-true true true p q = refl
both-true true false p q = q
both-true false b p q = p

all-emptier : (f g : ℕ → Link TextOut) → Emptier f g → (many from : ℕ) → all_empty f many from ≡ true → all_empty g many from ≡ true
unfolding all_empty
all-emptier f g h zero from e = refl
all-emptier f g h (suc many) from e =
    let p = and_parts (is_empty (f from).slot) (all_empty f many (suc from)) e in
    both-true (is_empty (g from).slot) (all_empty g many (suc from)) (h from p.0) (all-emptier f g h many (suc from) p.1)

less-quiet : (a b : Bool) (p : Phase) → (a ≡ true → b ≡ true) → Clear b p → Clear a p
less-quiet a b p f c = (λ e. c.0 (f e), λ e. c.1 (f e))

sent-empty : (m : Option TextOut) (slot : Slot TextOut) (s : MessageTransit TextOut) → is_empty (link_sent m slot s).slot ≡ true → is_empty slot ≡ true
sent-empty m Empty s e = refl
sent-empty None (Ready k) s e = absurd (cc e)
sent-empty (Some m) (Ready k) s e = absurd (cc e)
sent-empty None (Travelling k) s e = e
sent-empty (Some m) (Travelling k) s e = e
sent-empty None (Held k) s e = e
sent-empty (Some m) (Held k) s e = e

woken-empty : (slot : Slot TextOut) → is_empty (woken slot) ≡ true → is_empty slot ≡ true
woken-empty Empty e = refl
woken-empty (Ready k) e = e
woken-empty (Travelling k) e = e
woken-empty (Held k) e = absurd (cc e)

either-empty : (b : Bool) (j k : Link TextOut) → (is_empty j.slot ≡ true → is_empty k.slot ≡ true) → is_empty (if b then j else k).slot ≡ true → is_empty k.slot ≡ true
either-empty true j k f e = f e
either-empty false j k f e = e

-- the answer to a text: where it was taken its link is empty, and else nothing is emptied

abbrev with_link : ℕ → (ℕ → Link TextOut) → ℕ → Link TextOut
with_link on texts k = if k == on then answered_by (texts k).slot (texts k).subnet else texts k

abbrev SettledText : ℕ → (ℕ → Link TextOut) → Peer → Slot TextOut → MessageTransit TextOut → Type 0
SettledText on texts p slot s = Clear (all_empty (with_link on texts) DATA_LINKS FIRST_LINK) (text_taken on slot s (all_empty (set_link on idle texts) DATA_LINKS FIRST_LINK) p).phase

-- nothing was taken: what is empty now was empty
not-taken : (on : ℕ) (texts : ℕ → Link TextOut) (p : Peer) (slot : Slot TextOut) (s : MessageTransit TextOut) → (texts on).slot ≡ slot → (texts on).subnet ≡ s
    → (is_empty (answered_by slot s).slot ≡ true → is_empty slot ≡ true) → Clear (all_empty texts DATA_LINKS FIRST_LINK) p.phase → Clear (all_empty (with_link on texts) DATA_LINKS FIRST_LINK) p.phase
not-taken on texts p slot s a b f c = less-quiet (all_empty (with_link on texts) DATA_LINKS FIRST_LINK) (all_empty texts DATA_LINKS FIRST_LINK) p.phase (all-emptier (with_link on texts) texts each DATA_LINKS FIRST_LINK) c
  where
    here : is_empty (answered_by (texts on).slot (texts on).subnet).slot ≡ true → is_empty (texts on).slot ≡ true
    here = rw (a, b) f

    each : Emptier (with_link on texts) texts
    each k = go (k == on) refl
      where
        go : (d : Bool) → (k == on) ≡ d → is_empty (if d then answered_by (texts k).slot (texts k).subnet else texts k).slot ≡ true → is_empty (texts k).slot ≡ true
        go true e = subst (λ (j : ℕ). is_empty (answered_by (texts j).slot (texts j).subnet).slot ≡ true → is_empty (texts j).slot ≡ true) (sym (eqb-true k on e)) here
        go false e = λ h. h

text-taken : (on : ℕ) (texts : ℕ → Link TextOut) (p : Peer) (slot : Slot TextOut) (s : MessageTransit TextOut) → (texts on).slot ≡ slot → (texts on).subnet ≡ s
    → Clear (all_empty texts DATA_LINKS FIRST_LINK) p.phase → SettledText on texts p slot s
text-taken on texts p (Travelling m) Delivered a b c =
    less-quiet (all_empty (with_link on texts) DATA_LINKS FIRST_LINK) (all_empty (set_link on idle texts) DATA_LINKS FIRST_LINK) (text_taken on (Travelling m) Delivered (all_empty (set_link on idle texts) DATA_LINKS FIRST_LINK) p).phase
    (all-emptier (with_link on texts) (set_link on idle texts) each DATA_LINKS FIRST_LINK)
    (settled (all_empty (set_link on idle texts) DATA_LINKS FIRST_LINK) (frees on p).phase)
  where
    each : Emptier (with_link on texts) (set_link on idle texts)
    each k = go (k == on)
      where
        go : (d : Bool) → is_empty (if d then answered_by (texts k).slot (texts k).subnet else texts k).slot ≡ true → is_empty (if d then idle else texts k).slot ≡ true
        go true h = refl
        go false h = h
text-taken on texts p (Travelling m) Free a b c = not-taken on texts p (Travelling m) Free a b (λ h. h) c
text-taken on texts p (Travelling m) (Accepted k) a b c = not-taken on texts p (Travelling m) (Accepted k) a b (λ h. h) c
text-taken on texts p (Travelling m) Lost a b c = not-taken on texts p (Travelling m) Lost a b (λ h. absurd (cc h)) c
text-taken on texts p (Travelling m) Dead a b c = not-taken on texts p (Travelling m) Dead a b (λ h. absurd (cc h)) c
text-taken on texts p Empty s a b c = not-taken on texts p Empty s a b (λ h. refl) c
text-taken on texts p (Ready m) s a b c = not-taken on texts p (Ready m) s a b (ready-stays (answer_of_transit s)) c
  where
    ready-stays : (o : Option Answer) → is_empty (hears_answer o (Ready m)) ≡ true → is_empty (Ready m) ≡ true
    ready-stays None h = h
    ready-stays (Some x) h = h
text-taken on texts p (Held m) s a b c = not-taken on texts p (Held m) s a b (held-stays (answer_of_transit s)) c
  where
    held-stays : (o : Option Answer) → is_empty (hears_answer o (Held m)) ≡ true → is_empty (Held m) ≡ true
    held-stays None h = h
    held-stays (Some x) h = h

-- a step

abbrev Waits : Node → Type 0
Waits n = Clear (quiet n) n.host.phase

-- the texts of a step, and the peer
by : (step : NodeStep) (w : TwoNodes) → Emptier (λ on. text_link_after step on w.this.ends (w.this.texts on)) w.this.texts → Clear (quiet w.this) (peer_after step (links_of w.this) (links_of w.that) (peer_of w.this)).phase → Waits (node_steps step w).this
by step w h c =
    let t : Emptier (node_steps step w).this.texts w.this.texts = λ k e. h k (ap (λ (l : Link TextOut). is_empty l.slot) (sym (texts_move step w k)) ∙ e) in
    less-quiet (quiet (node_steps step w).this) (quiet w.this) (node_steps step w).this.host.phase (all-emptier (node_steps step w).this.texts w.this.texts t DATA_LINKS FIRST_LINK)
    (subst (λ (p : Peer). Clear (quiet w.this) p.phase) (sym (steps_agree step w)) c)

by-same : (step : NodeStep) (w : TwoNodes) → Emptier (λ on. text_link_after step on w.this.ends (w.this.texts on)) w.this.texts → SamePeer (peer_of w.this) (peer_after step (links_of w.this) (links_of w.that) (peer_of w.this)) → Waits w.this → Waits (node_steps step w).this
by-same step w h m c = by step w h (as-before (quiet w.this) w.this.host.phase (peer_after step (links_of w.this) (links_of w.that) (peer_of w.this)).phase m c)

same-texts : (w : TwoNodes) → Emptier w.this.texts w.this.texts
same-texts w k e = e

step-waits : (step : NodeStep) (w : TwoNodes) → Waits w.this → Waits (node_steps step w).this
step-waits Calls_reset w c = by Calls_reset w (same-texts w) (reset (quiet w.this) (peer_of w.this) c)
step-waits (Calls pair call) w c = by-same (Calls pair call) w (same-texts w) (called pair call (peer_of w.this)) c
step-waits (Calls_echo byte) w c = by-same (Calls_echo byte) w (same-texts w) (echoed byte (peer_of w.this)) c
step-waits Falls w c = by Falls w (same-texts w) c
step-waits (Sends n) w c = by-same (Sends n) w (same-texts w) (taking w.this.control.slot n (peer_of w.this)) c
step-waits (Sends_text on) w c =
    by-same (Sends_text on) w (λ k. either-empty (k == on) (link_sent (as_text (answer (cut_in on w.this.ends))) (w.this.texts k).slot (w.this.texts k).subnet) (w.this.texts k) (sent-empty (as_text (answer (cut_in on w.this.ends))) (w.this.texts k).slot (w.this.texts k).subnet))
    (cutting (w.this.texts on).slot on (peer_of w.this)) c
step-waits Hears w c = by Hears w (same-texts w) (message w.that.control.subnet (quiet w.this) (peer_of w.this) c)
step-waits (Hears_text on head) w c = by-same (Hears_text on head) w (same-texts w) (coming on head (w.that.texts on).subnet (peer_of w.this)) c
step-waits Loses w c = by Loses w (same-texts w) c
step-waits (Loses_text on) w c = by (Loses_text on) w (λ k. either-empty (k == on) (record (w.this.texts k) { subnet = undelivered Lost (w.this.texts k).subnet }) (w.this.texts k) (λ e. e)) c
step-waits Dies w c = by Dies w (same-texts w) c
step-waits (Text_dies on) w c = by (Text_dies on) w (λ k. either-empty (k == on) (record (w.this.texts k) { subnet = undelivered Dead (w.this.texts k).subnet }) (w.this.texts k) (λ e. e)) c
step-waits Is_answered w c = by Is_answered w (same-texts w) (control-taken w.this.control.slot w.this.control.subnet (quiet w.this) (peer_of w.this) c)
step-waits (Text_is_answered on) w c =
    let t : Emptier (node_steps (Text_is_answered on) w).this.texts (with_link on w.this.texts) = λ k e. ap (λ (l : Link TextOut). is_empty l.slot) (sym (texts_move (Text_is_answered on) w k)) ∙ e in
    let q : Bool = all_empty (with_link on w.this.texts) DATA_LINKS FIRST_LINK in
    less-quiet (quiet (node_steps (Text_is_answered on) w).this) q (node_steps (Text_is_answered on) w).this.host.phase (all-emptier (node_steps (Text_is_answered on) w).this.texts (with_link on w.this.texts) t DATA_LINKS FIRST_LINK)
    (subst (λ (p : Peer). Clear q p.phase) (sym (steps_agree (Text_is_answered on) w)) (text-taken on w.this.texts (peer_of w.this) (w.this.texts on).slot (w.this.texts on).subnet refl refl c))
step-waits Wakes w c = by Wakes w (λ k. woken-empty (w.this.texts k).slot) c

heard-empty : (step : NodeStep) (on : ℕ) (k : Link TextOut) → is_empty (text_heard step on k).slot ≡ true → is_empty k.slot ≡ true
heard-empty (Hears_text link head) on k e = either-empty (on == link) (record k { subnet = transit_delivered k.subnet }) k (λ e. e) e
heard-empty step on k e = e

other-waits : (step : NodeStep) (w : TwoNodes) → Waits w.that → Waits (node_steps step w).that
other-waits step w c =
    let t : Emptier (node_steps step w).that.texts w.that.texts = λ k e. heard-empty step k (w.that.texts k) (ap (λ (l : Link TextOut). is_empty l.slot) (sym (texts_are_heard step w k)) ∙ e) in
    less-quiet (quiet (node_steps step w).that) (quiet w.that) (node_steps step w).that.host.phase (all-emptier (node_steps step w).that.texts w.that.texts t DATA_LINKS FIRST_LINK)
    (subst (λ (p : Peer). Clear (quiet w.that) p.phase) (sym (others_stay step w)) c)

-- a run

abbrev BothWait : TwoNodes → Type 0
BothWait w = Waits w.this × Waits w.that

side-waits : (side : Party) (step : NodeStep) (w : TwoNodes) → BothWait w → BothWait (node_at side step w)
side-waits This step w b = (step-waits step w b.0, other-waits step w b.1)
side-waits That step w b = (other-waits step (nodes_swapped w) b.0, step-waits step (nodes_swapped w) b.1)

run-waits : (es : List NodeEvent) (w : TwoNodes) → BothWait w → BothWait (run_from es w)
run-waits [] w b = b
run-waits (e ∷ es) w b = run-waits es (node_at e.side e.step w) (side-waits e.side e.step w b)

pub ever-wait : (es : List NodeEvent) → ResetsWait (run es).this × ResetsWait (run es).that
ever-wait es =
    let b = run-waits es start ((λ _. refl, λ _. refl), (λ _. refl, λ _. refl)) in
    (record { want = b.0.0; owe = b.0.1 }, record { want = b.1.0; owe = b.1.1 })
