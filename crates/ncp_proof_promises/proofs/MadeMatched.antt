-- What is watched at a host is what its notes say was made and came, act by act.
use Rattle.std.proofs.Common.{◌≡◌, ℕ, ◌+◌, ◌≤◌, ◌==◌, Bool, true, false, cond, ◌&&◌, if◌then◌else◌, List, [], ◌∷◌, ◌++◌, length, take, drop, Option, None, Ok, refl, sym, ap, ◌∙◌, subst, arith}
use Rattle.std.proofs.lemmas.List.{append_assoc, append-nil, length-append, drop-append-le}
use Rattle.std.proofs.lemmas.List.Elements.{filter-append}
use Rattle.std.proofs.Math.Seq.{drop-length}
use Rattle.std.specs.List.{filter, list_any}
use Rattle.ncp_numbers.specs.Bytes.{bytes_of}
use Rattle.ncp_leader.specs.Message.{Message}
use Rattle.ncp_wire.specs.declared.command.Command.{Command}
use Rattle.ncp_wire.specs.declared.fault.CommandFault.{CommandFault}
use Rattle.ncp_control.specs.Reading.{commands_in, fault_in}
use Rattle.ncp_wire.specs.declared.answer.Answer.{Answer}
use Rattle.ncp_wire.specs.declared.answer.Answer.TheVariants.{Rfnm, Incomplete, Dead}
use Rattle.ncp_slot.specs.Slot.{answered}
use Rattle.ncp_slot.specs.Slots.{slot_at, with_slot, is_quiet}
use Rattle.ncp_model.specs.declared.pair.Pair.{Pair}
use Rattle.ncp_model.specs.Effect.{answer, made_if_any, made_by_call, made_by_hearing}
use Rattle.ncp_model.specs.Texts.{made_by_text}
use Rattle.ncp_model.specs.Texts
use Rattle.ncp_model.specs.Ends.{hear, text_in, answered_in}
use Rattle.ncp_model.specs.Echo.{echo_answer}
use Rattle.ncp_model.specs.Sending.{is_full}
use Rattle.ncp_model.specs.Phase.{Phase, Reaction, up, is_rst, is_rrp, is_other, is_resetting, has_room_for_one, wants_reset, owes_answer, goes_down, queued, makes_all, phase_answers, phase_hears}
use Rattle.ncp_model.specs.Peers.{Peer, PairCall, happened_at, is_full_up, echo_replies, hears_other, reaction}
use Rattle.ncp_proof_machine.specs.Watching.{HistoryVars, begins_empty, sees_call, sees_echo, sees_command, sees_each, sees_taken}
use Rattle.ncp_peer.specs.PeerState.{PeerState, control_link, is_answered, frees_on}
use Rattle.ncp_peer.specs.Hearing.{control_size, is_wrong_link, state_hears, state_hears_all}
use Rattle.ncp_proof_runs.specs.Making.{Made, made, made_heard, not_struck, struck, went_down, made_in, all_made_in, answer_made, settling_made, by_pair_call, by_echo, by_reset, by_other, by_command, by_commands, by_fault, by_control, by_text, by_message, by_freeing, by_answer, by_answered, counts_rrp, counts_rst, reset_asked, made_rst_came, made_since}
use Rattle.ncp_proof_promises.specs.Since.{watch_after_text, of_answer}

-- these were made and these came, as the history has them
abbrev pub Matches : List Command → List Command → Made → Type 0
Matches m c l = (m ≡ made_since l) × (c ≡ l.came) × (l.cleared ≤ length l.all)

abbrev pub IsWatched : HistoryVars → Made → Type 0
IsWatched w l = Matches w.made w.came l

-- One more that is made.

since-made : (x : Command) (l : Made) → l.cleared ≤ length l.all → made_since (made x l) ≡ made_since l ++ cond (is_other x) (x ∷ []) []
since-made x l k =
    ap (λ (xs : List Command). filter is_other xs) (drop-append-le l.cleared l.all (x ∷ []) k)
    ∙ filter-append is_other (drop l.cleared l.all) (x ∷ [])

more : (x : Command) (l : Made) → l.cleared ≤ length l.all → (made x l).cleared ≤ length (made x l).all
more x l k = let is : length (l.all ++ x ∷ []) ≡ length l.all + 1 = length-append l.all (x ∷ []) in omega (arith, k, is)

-- A clearing.

none-since : (l : Made) → [] ≡ made_since (struck l)
none-since l = sym (ap (λ (xs : List Command). filter is_other xs) (drop-length (not_struck l)))

cleared-matches : (l : Made) → Matches [] [] (struck l)
cleared-matches l = (none-since l, refl, omega arith)

-- Commands of a call and replies, while the host is up: where it is up no more, it was cleared.

makes-down : (cs : List Command) (q : Phase) → up q ≡ false → makes_all cs q ≡ q
makes-down [] q e = refl
makes-down (x ∷ cs) q e = ap (λ (p : Phase). makes_all cs p) (ap (λ (b : Bool). if b && is_other x then (if has_room_for_one q then queued x q else goes_down q) else q) e) ∙ makes-down cs q e

made-down : (cs : List Command) (q : Phase) (l : Made) → up q ≡ false → all_made_in cs q l ≡ l
made-down [] q l e = refl
made-down (x ∷ cs) q l e =
    ap (λ (p : Phase). all_made_in cs p (made_in x q l)) (ap (λ (b : Bool). if b && is_other x then (if has_room_for_one q then queued x q else goes_down q) else q) e)
    ∙ ap (λ (k : Made). all_made_in cs q k) (ap (λ (b : Bool). if b && is_other x then (if has_room_for_one q then made x l else went_down l) else l) e)
    ∙ made-down cs q l e

-- the same of some commands, in any phase
abbrev OfThese : List Command → List Command → Type 0
OfThese cs c = (q : Phase) (n : List Command) (j : Made) → up q ≡ true → Matches n c j → Matches (if up (makes_all cs q) then n ++ filter is_other cs else []) (if up (makes_all cs q) then c else []) (all_made_in cs q j)

pub made-matches : (cs : List Command) (p : Phase) (m c : List Command) (l : Made) → up p ≡ true → Matches m c l
    → Matches (if up (makes_all cs p) then m ++ filter is_other cs else []) (if up (makes_all cs p) then c else []) (all_made_in cs p l)
made-matches [] p m c l e k = subst (λ (b : Bool). Matches (if b then m ++ [] else []) (if b then c else []) l) (sym e) (append-nil m ∙ k.0, k.1, k.2)
made-matches (x ∷ cs) p m c l e k = go (up p) (is_other x) (has_room_for_one p) e refl (λ q n j f i. made-matches cs q n c j f i)
  where
    gone : Matches (if up (makes_all cs (goes_down p)) then m ++ x ∷ filter is_other cs else []) (if up (makes_all cs (goes_down p)) then c else []) (all_made_in cs (goes_down p) (went_down l))
    gone =
        subst (λ (q : Phase). Matches (if up q then m ++ x ∷ filter is_other cs else []) (if up q then c else []) (all_made_in cs (goes_down p) (went_down l))) (sym (makes-down cs (goes_down p) refl))
        (subst (λ (j : Made). Matches [] [] j) (sym (made-down cs (goes_down p) (went_down l) refl)) (cleared-matches l))

    stays : OfThese cs c → is_other x ≡ true → Matches (if up (makes_all cs (queued x p)) then m ++ x ∷ filter is_other cs else []) (if up (makes_all cs (queued x p)) then c else []) (all_made_in cs (queued x p) (made x l))
    stays rest o =
        subst (λ (xs : List Command). Matches (if up (makes_all cs (queued x p)) then xs else []) (if up (makes_all cs (queued x p)) then c else []) (all_made_in cs (queued x p) (made x l))) (append_assoc m (x ∷ []) (filter is_other cs))
        (rest (queued x p) (m ++ x ∷ []) (made x l) e (
          ap (λ (xs : List Command). xs ++ x ∷ []) k.0 ∙ ap (λ (b : Bool). made_since l ++ cond b (x ∷ []) []) (sym o) ∙ sym (since-made x l k.2),
          k.1,
          more x l k.2,
        ))

    go : (b d h : Bool) → b ≡ true → is_other x ≡ d → OfThese cs c
        → Matches (if up (makes_all cs (if b && d then (if h then queued x p else goes_down p) else p)) then m ++ cond d (x ∷ filter is_other cs) (filter is_other cs) else [])
        (if up (makes_all cs (if b && d then (if h then queued x p else goes_down p) else p)) then c else [])
        (all_made_in cs (if b && d then (if h then queued x p else goes_down p) else p) (if b && d then (if h then made x l else went_down l) else l))
    go false d h f o rest = absurd (cc f)
    go true true true f o rest = stays rest o
    go true true false f o rest = gone
    go true false h f o rest = rest p m l e k

-- what is watched of them
made-watched : (cs : List Command) (p : Phase) (w : HistoryVars) (l : Made) → up p ≡ true → IsWatched w l
    → Matches (if up (makes_all cs p) then w.made ++ filter is_other cs else []) (if up (makes_all cs p) then w.came ++ [] else []) (all_made_in cs p l)
made-watched cs p w l e k =
    subst (λ (xs : List Command). Matches (if up (makes_all cs p) then w.made ++ filter is_other cs else []) (if up (makes_all cs p) then xs else []) (all_made_in cs p l)) (sym (append-nil w.came))
    (made-matches cs p w.made w.came l e k)

-- Settling makes RRP and RST alone.

reset-since : (x : Command) (l : Made) (m c : List Command) → is_other x ≡ false → Matches m c l → Matches m c (made x l)
reset-since x l m c o k = (k.0 ∙ sym (since-made x l k.2 ∙ ap (λ (b : Bool). made_since l ++ cond b (x ∷ []) []) o ∙ append-nil (made_since l)), k.1, more x l k.2)

settling-matches : (quiet : Bool) (p : Phase) (l : Made) (m c : List Command) → Matches m c l → Matches m c (settling_made quiet p l)
settling-matches false p l m c k = k
settling-matches true p l m c k = rst (phase_answers p).want (list_any is_rst (phase_answers p).waiting) (answer_made p l) (rrp p.owe (list_any is_rrp p.waiting))
  where
    rrp : (b d : Bool) → Matches m c (if b then counts_rrp (if d then l else made Command.Rrp l) else l)
    rrp true true = k
    rrp true false = reset-since Command.Rrp l m c refl k
    rrp false d = k

    rst : (b d : Bool) (j : Made) → Matches m c j → Matches m c (if b then counts_rst (if d then j else made Command.Rst j) else j)
    rst true true j i = i
    rst true false j i = reset-since Command.Rst j m c refl i
    rst false d j i = i

-- something that is seen, and does something, where the host is up
while-up : (b : Bool) (x w : HistoryVars) (j l : Made) → (b ≡ true → IsWatched x j) → IsWatched w l → IsWatched (if b then x else w) (if b then j else l)
while-up true x w j l f k = f refl
while-up false x w j l f k = k

-- By calls.

pub call-watched : (pair : Pair) (call : PairCall) (s : PeerState) (w : HistoryVars) (l : Made) → IsWatched w l → IsWatched (sees_call pair call s.peer w) (by_pair_call pair call s l)
call-watched pair call s w l k =
    let cs : List Command = (happened_at pair call s.peer).made in
    while-up (up s.peer.phase) _ w (all_made_in cs s.peer.phase l) l (λ e. made-watched cs s.peer.phase w l e k) k

pub echo-watched : (byte : ℕ) (s : PeerState) (w : HistoryVars) (l : Made) → IsWatched w l → IsWatched (sees_echo byte s.peer w) (by_echo byte s l)
echo-watched byte s w l k =
    let cs : List Command = made_by_call (echo_answer byte (is_full s.peer.phase) s.peer.echoes) in
    while-up (up s.peer.phase) _ w (all_made_in cs s.peer.phase l) l (λ e. made-watched cs s.peer.phase w l e k) k

pub reset-watched : (s : PeerState) (w : HistoryVars) (l : Made) → IsWatched w l → IsWatched (if is_resetting s.peer.phase then w else begins_empty w) (by_reset s l)
reset-watched s w l k = go (is_resetting s.peer.phase)
  where
    go : (b : Bool) → IsWatched (if b then w else begins_empty w) (if b then l else settling_made (is_quiet s.slots) (wants_reset s.peer.phase) (reset_asked l))
    go true = k
    go false = settling-matches (is_quiet s.slots) (wants_reset s.peer.phase) (reset_asked l) [] [] (cleared-matches l)

-- By commands that come.

other-watched : (quiet : Bool) (c : Command) (p : Peer) (w : HistoryVars) (l : Made)
    → ((r : Reaction) → phase_hears c r p.phase ≡ (if up p.phase then (if r.full then goes_down p.phase else makes_all r.replies p.phase) else p.phase))
    → IsWatched w l
    → Matches (if up p.phase then (if up (hears_other quiet c p).phase then w.made ++ filter is_other (reaction quiet c p).replies else []) else w.made)
    (if up p.phase then (if up (hears_other quiet c p).phase then w.came ++ c ∷ [] else []) else w.came) (by_other c p l)
other-watched quiet c p w l is k = go (up p.phase) refl
  where
    r : Reaction
    r = reaction quiet c p

    cs : List Command
    cs = made_by_hearing (answer (hear c p.ends)) ++ echo_replies c

    then-is : up p.phase ≡ true → (hears_other quiet c p).phase ≡ (if is_full_up (answer (hear c p.ends)) then goes_down p.phase else makes_all cs p.phase)
    then-is e = is r ∙ ap (λ (b : Bool). if b then (if is_full_up (answer (hear c p.ends)) then goes_down p.phase else makes_all cs p.phase) else p.phase) e

    full : (b : Bool) → up p.phase ≡ true
        → Matches (if up (if b then goes_down p.phase else makes_all cs p.phase) then w.made ++ filter is_other cs else [])
        (if up (if b then goes_down p.phase else makes_all cs p.phase) then w.came ++ c ∷ [] else [])
        (if b then went_down l else all_made_in cs p.phase (made_heard c l))
    full true e = cleared-matches l
    full false e = made-matches cs p.phase w.made (w.came ++ c ∷ []) (made_heard c l) e (k.0, ap (λ (xs : List Command). xs ++ c ∷ []) k.1, k.2)

    go : (b : Bool) → up p.phase ≡ b
        → Matches (if b then (if up (hears_other quiet c p).phase then w.made ++ filter is_other cs else []) else w.made)
        (if b then (if up (hears_other quiet c p).phase then w.came ++ c ∷ [] else []) else w.came)
        (if b then (if is_full_up (answer (hear c p.ends)) then went_down l else all_made_in cs p.phase (made_heard c l)) else l)
    go true e =
        subst (λ (q : Phase). Matches (if up q then w.made ++ filter is_other cs else []) (if up q then w.came ++ c ∷ [] else []) (if is_full_up (answer (hear c p.ends)) then went_down l else all_made_in cs p.phase (made_heard c l))) (sym (then-is e))
        (full (is_full_up (answer (hear c p.ends))) e)
    go false e = k

-- what is seen of something while up, field by field
fields : (b : Bool) (x w : HistoryVars) (l : Made) → Matches (if b then x.made else w.made) (if b then x.came else w.came) l → IsWatched (if b then x else w) l
fields true x w l k = k
fields false x w l k = k

command-watched : (quiet : Bool) (c : Command) (p : Peer) (w : HistoryVars) (l : Made) → IsWatched w l → IsWatched (sees_command quiet c p w) (by_command quiet c p l)
command-watched quiet Command.Rst p w l k = settling-matches quiet (owes_answer p.phase) (made_rst_came l) [] [] (cleared-matches l)
command-watched quiet Command.Rrp p w l k = k
command-watched quiet c p w l k = fields (up p.phase) _ w (by_other c p l) (other-watched quiet c p w l (λ r. refl) k)

each-watched : (cs : List Command) (s : PeerState) (w : HistoryVars) (l : Made) → IsWatched w l → IsWatched (sees_each (is_quiet s.slots) cs s.peer w) (by_commands cs s l)
each-watched [] s w l k = k
each-watched (c ∷ cs) s w l k = each-watched cs (state_hears c s) (sees_command (is_quiet s.slots) c s.peer w) (by_command (is_quiet s.slots) c s.peer l) (command-watched (is_quiet s.slots) c s.peer w l k)

-- By texts that come, and by answers.

text-watched : (on : ℕ) (head : List Bool) (m : Message) (s : PeerState) (w : HistoryVars) (l : Made) → IsWatched w l → IsWatched (watch_after_text on head (Ok m) s w) (by_text on head m s l)
text-watched on head m s w l k =
    let cs : List Command = made_by_text head m.text (answer (text_in on m.size m.text s.peer.ends)) in
    while-up (up s.peer.phase) _ w (all_made_in cs s.peer.phase l) l (λ e. made-watched cs s.peer.phase w l e k) k

freed-watched : (on : ℕ) (p : Peer) (w : HistoryVars) (l : Made) → IsWatched w l → IsWatched (if on == control_link then w else sees_taken on p w) (by_freeing on p l)
freed-watched on p w l k = at (on == control_link)
  where
    cs : List Command
    cs = made_if_any (answer (answered_in on Texts.Rfnm p.ends))

    freed : IsWatched (sees_taken on p w) (if up p.phase then all_made_in cs p.phase l else l)
    freed = while-up (up p.phase) _ w (all_made_in cs p.phase l) l (λ e. made-watched cs p.phase w l e k) k

    at : (b : Bool) → IsWatched (if b then w else sees_taken on p w) (if b then l else if up p.phase then all_made_in cs p.phase l else l)
    at true = k
    at false = freed

-- an answer to a message that is out
pub answer-watched : (on : ℕ) (how : Answer) (s : PeerState) (w : HistoryVars) (l : Made) → is_answered on s ≡ true → IsWatched w l → IsWatched (of_answer on how s w) (by_answered on how s l)
answer-watched on how s w l out k = subst (λ (b : Bool). IsWatched (of_answer on how s w) (if b then by_answer on how (with_slot s.slots on (answered how (slot_at s.slots on))) s.peer l else l)) (sym out) (by how)
  where
    by : (h : Answer) → IsWatched (of_answer on h s w) (by_answer on h (with_slot s.slots on (answered h (slot_at s.slots on))) s.peer l)
    by Rfnm =
        let seen : HistoryVars = if on == control_link then w else sees_taken on s.peer w in
        settling-matches (is_quiet (with_slot s.slots on (answered Rfnm (slot_at s.slots on)))) (frees_on on s.peer).phase (by_freeing on s.peer l) seen.made seen.came (freed-watched on s.peer w l k)
    by Incomplete = k
    by Dead = k

-- By a message that comes, and is judged right: its commands have no fault behind them.
pub message-watched : (on : ℕ) (bits : List Bool) (m : Message) (s : PeerState) (w : HistoryVars) (l : Made) → is_wrong_link on ≡ false
    → ((on == control_link) ≡ true → (m.size == control_size) ≡ true) → ((on == control_link) ≡ true → fault_in (bytes_of m.text) ≡ None) → IsWatched w l
    → IsWatched (if on == control_link then sees_each (is_quiet s.slots) (commands_in (bytes_of m.text)) s.peer w else watch_after_text on (take 72 bits) (Ok m) s w) (by_message on bits (Ok m) s l)
message-watched on bits m s w l good sized clean k = subst (λ (b : Bool). IsWatched seen (if b then l else if on == control_link then by_control m s l else by_text on (take 72 bits) m s l)) (sym good) (go (on == control_link) refl)
  where
    seen : HistoryVars
    seen = if on == control_link then sees_each (is_quiet s.slots) (commands_in (bytes_of m.text)) s.peer w else watch_after_text on (take 72 bits) (Ok m) s w

    cs : List Command
    cs = commands_in (bytes_of m.text)

    control : (on == control_link) ≡ true → IsWatched (sees_each (is_quiet s.slots) cs s.peer w) (by_control m s l)
    control e =
        subst (λ (b : Bool). IsWatched (sees_each (is_quiet s.slots) cs s.peer w) (if b then by_fault (fault_in (bytes_of m.text)) (state_hears_all cs s) (by_commands cs s l) else l)) (sym (sized e))
        (subst (λ (o : Option CommandFault). IsWatched (sees_each (is_quiet s.slots) cs s.peer w) (by_fault o (state_hears_all cs s) (by_commands cs s l))) (sym (clean e))
        (each-watched cs s w l k))

    go : (b : Bool) → (on == control_link) ≡ b → IsWatched (if b then sees_each (is_quiet s.slots) cs s.peer w else watch_after_text on (take 72 bits) (Ok m) s w) (if b then by_control m s l else by_text on (take 72 bits) m s l)
    go true e = control e
    go false e = text-watched on (take 72 bits) m s w l k
