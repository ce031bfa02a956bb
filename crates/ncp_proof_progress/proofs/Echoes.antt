-- A host that is not up with its peer awaits no echo from it, after every schedule.
use Rattle.std.proofs.Common.{◌≡◌, ℕ, Bool, true, false, cond, List, [], ◌∷◌, refl, sym, ap, ◌∙◌, subst, arith}
use Rattle.std.proofs.lemmas.Bool.{both_ways}
use Rattle.ncp_wire.specs.declared.command.Command.{Command}
use Rattle.ncp_model.specs.Echo.{Echoes, purge_echo, echo_answer, echo_asked}
use Rattle.ncp_model.specs.Effect.{answer, made_by_call, made_if_any}
use Rattle.ncp_model.specs.Texts.{Rfnm, made_by_text}
use Rattle.ncp_model.specs.Sending.{is_full}
use Rattle.ncp_model.specs.Ends.{Ends, put, pair_of, sender_on, receiver_on, demux_command, hear, text_in, answered_in, map_after_at}
use Rattle.ncp_model.specs.Phase.{Phase, up, is_resetting, hears_rrp, makes_all, phase_hears, phase_settles, resets}
use Rattle.ncp_model.specs.Peers.{Peer, happened_at, standing, cleared, calls_up, echo_called, hears_other, takes_text, frees_up, echoes_after, frees, hears, hears_text, reaction, settles}
use Rattle.ncp_proof_machine.specs.Delivery.{Slot, Empty, Ready, Travelling, Held, MessageTransit, Free, Accepted, Delivered, Lost, Dead, idle}
use Rattle.ncp_proof_machine.specs.Resets.{Party, This, That}
use Rattle.ncp_proof_machine.specs.Hosts.{TextOut, TwoNodes, nodes_swapped, set_link, peer_of, NodeStep, Calls_reset, Calls, Calls_echo, Falls, Sends, Sends_text, Hears, Hears_text, Is_answered, Text_is_answered, node_steps, NodeEvent, node_at, run_from, run, start}
use Rattle.ncp_proof_machine.specs.Seen.{Links, are_quiet, hears_each, cuts_where, takes_commands, hears_message, hears_coming, control_taken, text_taken, peer_after, links_of}
use Rattle.ncp_proof_machine.proofs.Seeing.{steps_agree, others_stay}

abbrev pub Shut : Peer → Type 0
Shut p = up p.phase ≡ false → p.echoes.awaited ≡ false

choose : (b : Bool) (p q : Peer) → Shut p → Shut q → Shut (cond b p q)
choose true p q f g = f
choose false p q f g = g

shut-standing : (q : Phase) (m : Ends) (s : Echoes) → Shut (standing q m s)
shut-standing q m s e = ap (λ (b : Bool). (cond b s (purge_echo s)).awaited) e

-- a phase that is up stays so
later : (q r : Phase) (p : Peer) → p.phase ≡ q → (up q ≡ true → up r ≡ true) → Shut p → up r ≡ false → p.echoes.awaited ≡ false
later q r p same stays f e = go (up q) refl
  where
    go : (b : Bool) → up q ≡ b → p.echoes.awaited ≡ false
    go true u = absurd (both_ways (up r) e (stays u))
    go false u = f (ap up same ∙ u)

up-heard : (q : Phase) → up q ≡ true → up (hears_rrp q) ≡ true
up-heard q u = grind arith

up-settled : (quiet : Bool) (q : Phase) → up q ≡ true → up (phase_settles quiet q) ≡ true
up-settled quiet q u = grind arith

shut-settled : (quiet : Bool) (p : Peer) → Shut p → Shut (settles quiet p)
shut-settled quiet p f e = later p.phase (phase_settles quiet p.phase) p refl (up-settled quiet p.phase) f e

shut-other : (quiet : Bool) (c : Command) (p : Peer) → Shut p → Shut (cond (up p.phase) (hears_other quiet c p) p)
shut-other quiet c p f = choose (up p.phase) (hears_other quiet c p) p (shut-standing (phase_hears c (reaction quiet c p) p.phase) (map_after_at p.ends (demux_command c p.ends) (hear c p.ends)) (echoes_after c p.echoes)) f

shut-hears : (quiet : Bool) (c : Command) (p : Peer) → Shut p → Shut (hears quiet c p)
shut-hears quiet Command.Rst p f = λ e. refl
shut-hears quiet Command.Rrp p f = λ e. later p.phase (hears_rrp p.phase) p refl (up-heard p.phase) f e
shut-hears quiet Command.Nop p f = shut-other quiet Command.Nop p f
shut-hears quiet (Command.Rts a b d) p f = shut-other quiet (Command.Rts a b d) p f
shut-hears quiet (Command.Str a b d) p f = shut-other quiet (Command.Str a b d) p f
shut-hears quiet (Command.Cls a b) p f = shut-other quiet (Command.Cls a b) p f
shut-hears quiet (Command.All a b d) p f = shut-other quiet (Command.All a b d) p f
shut-hears quiet (Command.Gvb a b d) p f = shut-other quiet (Command.Gvb a b d) p f
shut-hears quiet (Command.Ret a b d) p f = shut-other quiet (Command.Ret a b d) p f
shut-hears quiet (Command.Inr a) p f = shut-other quiet (Command.Inr a) p f
shut-hears quiet (Command.Ins a) p f = shut-other quiet (Command.Ins a) p f
shut-hears quiet (Command.Eco a) p f = shut-other quiet (Command.Eco a) p f
shut-hears quiet (Command.Erp a) p f = shut-other quiet (Command.Erp a) p f
shut-hears quiet (Command.Err a b) p f = shut-other quiet (Command.Err a b) p f

shut-each : (quiet : Bool) (cs : List Command) (p : Peer) → Shut p → Shut (hears_each quiet cs p)
shut-each quiet [] p f = f
shut-each quiet (c ∷ cs) p f = shut-each quiet cs (hears quiet c p) (shut-hears quiet c p f)

shut-frees : (on : ℕ) (p : Peer) → Shut p → Shut (frees on p)
shut-frees on p f = choose (up p.phase) (frees_up on p) p (shut-standing (makes_all (made_if_any (answer (answered_in on Rfnm p.ends))) p.phase) (map_after_at p.ends (pair_of (sender_on on p.ends)) (answered_in on Rfnm p.ends)) p.echoes) f

shut-text : (on : ℕ) (head : List Bool) (t : TextOut) (p : Peer) → Shut p → Shut (hears_text on head t.of_size t.bits p)
shut-text on head t p f = choose (up p.phase) (takes_text on head t.of_size t.bits p) p (shut-standing (makes_all (made_by_text head t.bits (answer (text_in on t.of_size t.bits p.ends))) p.phase) (map_after_at p.ends (pair_of (receiver_on on p.ends)) (text_in on t.of_size t.bits p.ends)) p.echoes) f

takes : (slot : Slot (List Command)) (n : ℕ) (p : Peer) → Shut p → Shut (takes_commands slot n p)
takes Empty n p f = f
takes (Ready m) n p f = f
takes (Travelling m) n p f = f
takes (Held m) n p f = f

cut : (slot : Slot TextOut) (on : ℕ) (p : Peer) → Shut p → Shut (cuts_where slot on p)
cut Empty on p f = f
cut (Ready t) on p f = f
cut (Travelling t) on p f = f
cut (Held t) on p f = f

message : (s : MessageTransit (List Command)) (quiet : Bool) (p : Peer) → Shut p → Shut (hears_message s quiet p)
message (Accepted m) quiet p f = shut-each quiet m p f
message Free quiet p f = f
message Delivered quiet p f = f
message Lost quiet p f = f
message Dead quiet p f = f

coming : (on : ℕ) (head : List Bool) (s : MessageTransit TextOut) (p : Peer) → Shut p → Shut (hears_coming on head s p)
coming on head (Accepted t) p f = shut-text on head t p f
coming on head Free p f = f
coming on head Delivered p f = f
coming on head Lost p f = f
coming on head Dead p f = f

taken : (slot : Slot (List Command)) (s : MessageTransit (List Command)) (quiet : Bool) (p : Peer) → Shut p → Shut (control_taken slot s quiet p)
taken (Travelling m) Delivered quiet p f = shut-settled quiet p f
taken (Travelling m) Free quiet p f = f
taken (Travelling m) (Accepted c) quiet p f = f
taken (Travelling m) Lost quiet p f = f
taken (Travelling m) Dead quiet p f = f
taken Empty s quiet p f = f
taken (Ready m) s quiet p f = f
taken (Held m) s quiet p f = f

text-answered : (on : ℕ) (slot : Slot TextOut) (s : MessageTransit TextOut) (quiet : Bool) (p : Peer) → Shut p → Shut (text_taken on slot s quiet p)
text-answered on (Travelling m) Delivered quiet p f = shut-settled quiet (frees on p) (shut-frees on p f)
text-answered on (Travelling m) Free quiet p f = f
text-answered on (Travelling m) (Accepted c) quiet p f = f
text-answered on (Travelling m) Lost quiet p f = f
text-answered on (Travelling m) Dead quiet p f = f
text-answered on Empty s quiet p f = f
text-answered on (Ready m) s quiet p f = f
text-answered on (Held m) s quiet p f = f

after : (step : NodeStep) (own others : Links) (p : Peer) → Shut p → Shut (peer_after step own others p)
after Calls_reset own others p f = choose (is_resetting p.phase) p (cleared (resets (are_quiet own) p.phase) p) f (λ e. refl)
after (Calls pair call) own others p f = choose (up p.phase) (calls_up pair call p) p (shut-standing (makes_all (happened_at pair call p).made p.phase) (put p.ends pair (happened_at pair call p).after) p.echoes) f
after (Calls_echo byte) own others p f = choose (up p.phase) (echo_called byte p) p (shut-standing (makes_all (made_by_call (echo_answer byte (is_full p.phase) p.echoes)) p.phase) p.ends (echo_asked (is_full p.phase) p.echoes)) f
after Falls own others p f = λ e. refl
after (Sends n) own others p f = takes own.control.slot n p f
after (Sends_text on) own others p f = cut (own.texts on).slot on p f
after Hears own others p f = message others.control.subnet (are_quiet own) p f
after (Hears_text on head) own others p f = coming on head (others.texts on).subnet p f
after Is_answered own others p f = taken own.control.slot own.control.subnet (are_quiet own) p f
after (Text_is_answered on) own others p f = text-answered on (own.texts on).slot (own.texts on).subnet (are_quiet (record own { texts = set_link on idle own.texts })) p f
after step own others p f = f

abbrev BothShut : TwoNodes → Type 0
BothShut w = Shut (peer_of w.this) × Shut (peer_of w.that)

step-shut : (step : NodeStep) (w : TwoNodes) → BothShut w → BothShut (node_steps step w)
step-shut step w b = (
  subst (λ (p : Peer). Shut p) (sym (steps_agree step w)) (after step (links_of w.this) (links_of w.that) (peer_of w.this) b.0),
  subst (λ (p : Peer). Shut p) (sym (others_stay step w)) b.1,
)

side-shut : (side : Party) (step : NodeStep) (w : TwoNodes) → BothShut w → BothShut (node_at side step w)
side-shut This step w b = step-shut step w b
side-shut That step w b = let c = step-shut step (nodes_swapped w) (b.1, b.0) in (c.1, c.0)

run-shut : (es : List NodeEvent) (w : TwoNodes) → BothShut w → BothShut (run_from es w)
run-shut [] w b = b
run-shut (e ∷ es) w b = run-shut es (node_at e.side e.step w) (side-shut e.side e.step w b)

pub ever-shut : (es : List NodeEvent) → Shut (peer_of (run es).this) × Shut (peer_of (run es).that)
ever-shut es = run-shut es start (λ e. refl, λ e. refl)
