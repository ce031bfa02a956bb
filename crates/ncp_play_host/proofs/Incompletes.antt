-- The host after the inputs of a restart.
use Rattle.std.proofs.Common.{◌≡◌, ◌<◌, ◌≤◌, ℕ, suc, ◌+◌, ◌-◌, Bool, true, false, nat_lt, if◌then◌else◌, List, [], ◌∷◌, ◌++◌, length, drop, get_or, Option, None, Some, Result, Ok, Err, refl, sym, ap, ◌∙◌, subst, arith}
use Rattle.std.specs.List.{list_all, range_with_len}
use Rattle.std.proofs.lemmas.Bool.{and_parts}
use Rattle.std.proofs.lemmas.List.{append-nil, at_drop_more}
use Rattle.ncp_leader.specs.declared.leader.Leader.{Leader}
use Rattle.ncp_leader.specs.declared.leader.Short.{Short}
use Rattle.ncp_leader.specs.Leader.{leader_in}
use Rattle.ncp_leader.proofs.Leaders.{leader_in-bits}
use Rattle.ncp_wire.specs.declared.answer.Answer.TheVariants.{Incomplete}
use Rattle.ncp_slot.specs.declared.slot.Slot.TheVariants.{Empty, Ready, Travelling, Held}
use Rattle.ncp_slot.specs.Slot.{kept_message, is_travelling}
use Rattle.ncp_slot.specs.Slots.{LinkSlot, slot_at, data_links}
use Rattle.ncp_peer.specs.declared.received.Received.TheVariants as received
use Rattle.ncp_peer.specs.PeerState.{PeerState, control_link, is_answered}
use Rattle.ncp_peer.specs.PeerCalls.{kept_for}
use Rattle.ncp_peer.specs.Output.{links}
use Rattle.ncp_host.specs.Host.{Host, state_of}
use Rattle.ncp_host.specs.Arrivals.{after_received, received_from, received_with, received_in}
use Rattle.ncp_host.specs.Restarting.{incomplete_leader, incomplete_bits, is_message_out, incomplete_comes, incompletes_come, after_restart}
use Rattle.ncp_host.proofs.Restarting.{come_none, come_more}
use Rattle.ncp_transcript.specs.declared.input.Input.{Input}
use Rattle.ncp_transcript.specs.declared.input.Input.TheVariants.{In}
use Rattle.ncp_transcript.specs.declared.note.HostNote.{HostNote}
use Rattle.ncp_transcript.specs.declared.note.HostNote.TheVariants.{Answered}
use Rattle.ncp_transcript.specs.After.{after_note}
use Rattle.ncp_transcript.specs.Noting.{if_peer, answer_with, answer_in, note_as}
use Rattle.ncp_transcript.specs.Alone.{Alone, IsHostStep, AreHostSteps}
use Rattle.ncp_transcript.proofs.Arriving.{after_answer}
use Rattle.ncp_play_notes.specs.declared.fault.PlayFault.{PlayFault}
use Rattle.ncp_play_notes.specs.Playing.{Does}
use Rattle.ncp_play_host.specs.Events.{incomplete_if, incompletes_on, inputs_of_restart, inputs_of_restarts, DoesAllOf}
use Rattle.ncp_play_host.proofs.Inputs.{steps_parted, all_joined, fault_of_more, one_input}

-- ---- the inputs, link by link

pub on_none : (number : ℕ) (h : Host) → incompletes_on number [] h ≡ []
unfolding incompletes_on
on_none number h = refl

pub on_more : (number on : ℕ) (ons : List ℕ) (h : Host) → incompletes_on number (on ∷ ons) h ≡ incomplete_if (is_message_out on (state_of h number)) number on (incompletes_on number ons (incomplete_comes number on h))
unfolding incompletes_on
on_more number on ons h = refl

if_joined : (b : Bool) (number on : ℕ) (inputs : List Input) → incomplete_if b number on inputs ≡ incomplete_if b number on [] ++ inputs
if_joined true number on inputs = refl
if_joined false number on inputs = refl

-- one link, and the others
on_joined : (number on : ℕ) (ons : List ℕ) (h mid : Host) → mid ≡ incomplete_comes number on h → incompletes_on number (on ∷ ons) h ≡ incomplete_if (is_message_out on (state_of h number)) number on [] ++ incompletes_on number ons mid
on_joined number on ons h mid e =
    on_more number on ons h ∙ if_joined (is_message_out on (state_of h number)) number on (incompletes_on number ons (incomplete_comes number on h))
    ∙ ap (λ (x : Host). incomplete_if (is_message_out on (state_of h number)) number on [] ++ incompletes_on number ons x) (sym e)

-- no message is unanswered

abbrev comes_if : Bool → ℕ → ℕ → Host → Host
comes_if b number on h = if b then after_received (incomplete_bits number on) h else h

none_here : (number on : ℕ) (ons : List ℕ) (h : Host) → is_message_out on (state_of h number) ≡ false → incompletes_on number (on ∷ ons) h ≡ incompletes_on number ons h
none_here number on ons h e =
    on_more number on ons h ∙ ap (λ (b : Bool). incomplete_if b number on (incompletes_on number ons (incomplete_comes number on h))) e
    ∙ ap (λ (b : Bool). incompletes_on number ons (comes_if b number on h)) e

none_on : (number : ℕ) (ons : List ℕ) (h : Host) → ((on : ℕ) → is_message_out on (state_of h number) ≡ false) → incompletes_on number ons h ≡ []
none_on number [] h none = on_none number h
none_on number (on ∷ ons) h none = none_here number on ons h (none on) ∙ none_on number ons h none

pub nothing_out : (number : ℕ) (h : Host) → ((on : ℕ) → is_message_out on (state_of h number) ≡ false) → inputs_of_restart number h ≡ []
nothing_out number h none = none_on number links h none

pub begins_at_data : (number : ℕ) (h : Host) → is_message_out control_link (state_of h number) ≡ false → inputs_of_restart number h ≡ incompletes_on number data_links h
begins_at_data number h e = none_here number control_link data_links h e

pub begins_at_control : (number : ℕ) (h : Host) → is_message_out control_link (state_of h number) ≡ true → inputs_of_restart number h ≡ In (incomplete_bits number 0) ∷ incompletes_on number data_links (incomplete_comes number 0 h)
begins_at_control number h e = on_more number control_link data_links h ∙ ap (λ (b : Bool). incomplete_if b number control_link (incompletes_on number data_links (incomplete_comes number control_link h))) e

-- ---- one Incomplete Transmission

pub its_leader : (number on : ℕ) → number < 256 → on < 256 → leader_in (incomplete_bits number on) ≡ Ok (incomplete_leader number on)
its_leader number on n o =
    ap leader_in (sym (append-nil (incomplete_bits number on))) ∙ leader_in-bits (incomplete_leader number on) [] (record { flags = omega arith; kind = omega arith; host = omega arith; link = omega arith; low = omega arith })

is_found : (number on : ℕ) (h : Host) (s : PeerState) → number < 256 → on < 256 → state_of h number ≡ Some s → answer_in (incomplete_bits number on) h ≡ Some (incomplete_leader number on)
is_found number on h s n o known =
    ap (λ (r : Result Leader Short). answer_with r h) (its_leader number on n o) ∙ ap (λ (x : Option PeerState). if_peer x (incomplete_leader number on)) known

-- what the host makes of it
received_as : (number on : ℕ) (h : Host) (x : Option PeerState) → number < 256 → on < 256 → state_of h number ≡ x → received_in (incomplete_bits number on) h ≡ received_from x (incomplete_leader number on) (incomplete_bits number on)
received_as number on h x n o known =
    ap (λ (r : Result Leader Short). received_with r (incomplete_bits number on) h) (its_leader number on n o)
    ∙ ap (λ (x : Option PeerState). received_from x (incomplete_leader number on) (incomplete_bits number on)) known

is_received : (number on : ℕ) (h : Host) (s : PeerState) → number < 256 → on < 256 → state_of h number ≡ Some s → received_in (incomplete_bits number on) h ≡ (if is_answered on s then received.Answered else received.Stray)
is_received number on h s n o known = received_as number on h (Some s) n o known

-- it tells whether a message is unanswered
pub is_out : (number on : ℕ) (h : Host) → number < 256 → on < 256 → received_in (incomplete_bits number on) h ≡ received.Answered → is_message_out on (state_of h number) ≡ true
is_out number on h n o told = go (state_of h number) refl
  where
    by : (b : Bool) → (if b then received.Answered else received.Stray) ≡ received.Answered → b ≡ true
    by true e = refl
    by false e = absurd (let f : ⊥ = cc in f)

    go : (x : Option PeerState) → state_of h number ≡ x → is_message_out on (state_of h number) ≡ true
    go None known = let e : received.Unknown ≡ received.Answered = sym (received_as number on h None n o known) ∙ told in absurd (let f : ⊥ = cc in f)
    go (Some s) known = ap (is_message_out on) known ∙ by (is_answered on s) (sym (is_received number on h s n o known) ∙ told)

pub is_not_out : (number on : ℕ) (h : Host) → number < 256 → on < 256 → (received_in (incomplete_bits number on) h ≡ received.Answered → ⊥) → is_message_out on (state_of h number) ≡ false
is_not_out number on h n o other = go (state_of h number) refl
  where
    by : (s : PeerState) → state_of h number ≡ Some s → (b : Bool) → is_answered on s ≡ b → b ≡ false
    by s known true t = absurd (other (is_received number on h s n o known ∙ ap (λ (b : Bool). if b then received.Answered else received.Stray) t))
    by s known false t = refl

    go : (x : Option PeerState) → state_of h number ≡ x → is_message_out on (state_of h number) ≡ false
    go None known = ap (is_message_out on) known
    go (Some s) known = ap (is_message_out on) known ∙ by s known (is_answered on s) refl

-- no message is kept
pub none_kept : (on : ℕ) (x : Option PeerState) → kept_for x on ≡ None → is_message_out on x ≡ false
none_kept on None e = refl
none_kept on (Some s) e = go (slot_at s.slots on) e
  where
    go : (slot : LinkSlot) → kept_message slot ≡ None → is_travelling slot ≡ false
    go Empty e = refl
    go (Ready message) e = absurd (let f : ⊥ = cc in f)
    go (Travelling message) e = absurd (let f : ⊥ = cc in f)
    go (Held message) e = absurd (let f : ⊥ = cc in f)

abbrev its_note : ℕ → ℕ → HostNote
its_note number on = Answered number on Incomplete received.Answered

-- of a message that is unanswered, it is the answer
module _ (number on : ℕ) (before now : Alone) (n : number < 256) (o : on < 256) (step : IsHostStep (In (incomplete_bits number on)) before now) where
  abbrev h : Host
  h = before.host

  noted : (s : PeerState) → state_of h number ≡ Some s → is_answered on s ≡ true → step.0 ≡ its_note number on
  noted s known t =
      step.1 ∙ ap (λ (x : Option Leader). note_as x (incomplete_bits number on) (received_in (incomplete_bits number on) h)) (is_found number on h s n o known)
      ∙ ap (Answered number on Incomplete) (is_received number on h s n o known ∙ ap (λ (b : Bool). if b then received.Answered else received.Stray) t)

  comes : (s : PeerState) → state_of h number ≡ Some s → is_answered on s ≡ true → now.host ≡ after_received (incomplete_bits number on) h
  comes s known t = step.3 ∙ ap (λ (note : HostNote). after_note note h) (noted s known t) ∙ sym (after_answer (incomplete_bits number on) h (incomplete_leader number on) (is_found number on h s n o known))

  pub step_comes : is_message_out on (state_of h number) ≡ true → (now.host ≡ after_received (incomplete_bits number on) h) × (now.notes ≡ before.notes ++ its_note number on ∷ [])
  step_comes out = go (state_of h number) refl out
    where
      go : (x : Option PeerState) → state_of h number ≡ x → is_message_out on x ≡ true → (now.host ≡ after_received (incomplete_bits number on) h) × (now.notes ≡ before.notes ++ its_note number on ∷ [])
      go None known t = absurd (let f : ⊥ = cc in f)
      go (Some s) known t = (comes s known t, step.2 ∙ ap (λ (note : HostNote). before.notes ++ note ∷ []) (noted s known t))

-- on one link
pub one_comes : (number on : ℕ) (before now : Alone) → number < 256 → on < 256 → AreHostSteps (incomplete_if (is_message_out on (state_of before.host number)) number on []) before now → now.host ≡ incomplete_comes number on before.host
one_comes number on before now n o steps = go (is_message_out on (state_of before.host number)) refl steps
  where
    go : (b : Bool) → is_message_out on (state_of before.host number) ≡ b → AreHostSteps (incomplete_if b number on []) before now → now.host ≡ incomplete_comes number on before.host
    go true e steps =
        ap (λ (a : Alone). a.host) steps.2 ∙ (step_comes number on before steps.0 n o steps.1 e).0
        ∙ sym (ap (λ (b : Bool). if b then after_received (incomplete_bits number on) before.host else before.host) e)
    go false e steps = ap (λ (a : Alone). a.host) steps ∙ sym (ap (λ (b : Bool). if b then after_received (incomplete_bits number on) before.host else before.host) e)

-- ---- on all links

small : (on : ℕ) → nat_lt on 256 ≡ true → on < 256
small on h = grind arith

abbrev AreSmall : List ℕ → Type 0
AreSmall ons = list_all (λ on. nat_lt on 256) ons ≡ true

all_come : (number : ℕ) → number < 256 → (ons : List ℕ) → AreSmall ons → (before now : Alone) → AreHostSteps (incompletes_on number ons before.host) before now → now.host ≡ incompletes_come number ons before.host
all_come number n [] o before now steps =
    let none : now ≡ before = subst (λ (inputs : List Input). AreHostSteps inputs before now) (on_none number before.host) steps in
    ap (λ (a : Alone). a.host) none ∙ sym (come_none number before.host)
all_come number n (on ∷ ons) o before now steps =
    let h = before.host in
    let both : (nat_lt on 256 ≡ true) × AreSmall ons = and_parts _ _ o in
    let first = incomplete_if (is_message_out on (state_of h number)) number on [] in
    let parted = steps_parted first (incompletes_on number ons (incomplete_comes number on h)) before now (subst (λ (inputs : List Input). AreHostSteps inputs before now) (on_joined number on ons h (incomplete_comes number on h) refl) steps) in
    let mid = parted.0 in
    let here : mid.host ≡ incomplete_comes number on h = one_comes number on before mid n (small on both.0) parted.1 in
    all_come number n ons both.1 mid now (subst (λ (x : Host). AreHostSteps (incompletes_on number ons x) mid now) (sym here) parted.2)
    ∙ ap (λ (x : Host). incompletes_come number ons x) here ∙ sym (come_more number on ons h)

-- the host after the inputs of a restart
pub restart_comes : (number : ℕ) (before now : Alone) → number < 256 → AreHostSteps (inputs_of_restart number before.host) before now → now.host ≡ after_restart number before.host
restart_comes number before now n steps = all_come number n links refl before now steps

-- ---- as the code plays them

pub plays_one : (number on : ℕ) (before now : Alone) (bits : List Bool) (out : Bool) (r : Result Unit PlayFault) → bits ≡ incomplete_bits number on → true ≡ out → Does (In bits) before r now → DoesAllOf (incomplete_if out number on []) before r now
plays_one number on before now bits out r is t does =
    subst (λ (b : Bool). DoesAllOf (incomplete_if b number on []) before r now) t (one_input (In (incomplete_bits number on)) before now r (subst (λ (m : List Bool). Does (In m) before r now) is does))

-- the first link was played
pub plays_on : (number on : ℕ) (ons : List ℕ) (before mid : Alone) → number < 256 → on < 256 → AreHostSteps (incomplete_if (is_message_out on (state_of before.host number)) number on []) before mid
    → (r : Result Unit PlayFault) (now : Alone) → DoesAllOf (incompletes_on number ons mid.host) mid r now → DoesAllOf (incompletes_on number (on ∷ ons) before.host) before r now
plays_on number on ons before mid n o steps r now does =
    subst (λ (inputs : List Input). DoesAllOf inputs before r now) (sym (on_joined number on ons before.host mid.host (one_comes number on before mid n o steps)))
    (all_joined (incomplete_if (is_message_out on (state_of before.host number)) number on []) (incompletes_on number ons mid.host) before mid now r steps does)

-- it was not
pub plays_not : (number on : ℕ) (ons : List ℕ) (before now : Alone) (fault : PlayFault) → DoesAllOf (incomplete_if (is_message_out on (state_of before.host number)) number on []) before (Err fault) now → DoesAllOf (incompletes_on number (on ∷ ons) before.host) before (Err fault) now
plays_not number on ons before now fault does =
    subst (λ (inputs : List Input). DoesAllOf inputs before (Err fault) now) (sym (on_joined number on ons before.host (incomplete_comes number on before.host) refl))
    (fault_of_more (incomplete_if (is_message_out on (state_of before.host number)) number on []) (incompletes_on number ons (incomplete_comes number on before.host)) before now fault does)

plays_none : (number : ℕ) (alone : Alone) → DoesAllOf (incompletes_on number [] alone.host) alone (Ok tt) alone
plays_none number alone = subst (λ (inputs : List Input). DoesAllOf inputs alone (Ok tt) alone) (sym (on_none number alone.host)) refl

-- link after link

abbrev pub links_from : ℕ → List ℕ
links_from on = range_with_len on (72 - on)

cut_range : (on : ℕ) → on < 72 → links_from on ≡ on ∷ links_from (on + 1)
cut_range on l = let e : 72 - on ≡ suc (72 - (on + 1)) = omega arith in ap (λ k. range_with_len on k) e

pub plays_on_from : (number on : ℕ) (before mid : Alone) → number < 256 → on < 72 → AreHostSteps (incomplete_if (is_message_out on (state_of before.host number)) number on []) before mid
    → (r : Result Unit PlayFault) (now : Alone) → DoesAllOf (incompletes_on number (links_from (on + 1)) mid.host) mid r now → DoesAllOf (incompletes_on number (links_from on) before.host) before r now
plays_on_from number on before mid n l steps r now does =
    subst (λ (ons : List ℕ). DoesAllOf (incompletes_on number ons before.host) before r now) (sym (cut_range on l)) (plays_on number on (links_from (on + 1)) before mid n (omega arith) steps r now does)

pub plays_not_from : (number on : ℕ) (before now : Alone) (fault : PlayFault) → on < 72 → DoesAllOf (incomplete_if (is_message_out on (state_of before.host number)) number on []) before (Err fault) now → DoesAllOf (incompletes_on number (links_from on) before.host) before (Err fault) now
plays_not_from number on before now fault l does =
    subst (λ (ons : List ℕ). DoesAllOf (incompletes_on number ons before.host) before (Err fault) now) (sym (cut_range on l)) (plays_not number on (links_from (on + 1)) before now fault does)

pub plays_end : (number on : ℕ) (alone : Alone) → 72 ≤ on → DoesAllOf (incompletes_on number (links_from on) alone.host) alone (Ok tt) alone
plays_end number on alone l =
    let none : 72 - on ≡ 0 = omega arith in
    subst (λ (k : ℕ). DoesAllOf (incompletes_on number (range_with_len on k) alone.host) alone (Ok tt) alone) (sym none) (plays_none number alone)

-- a peer was played
peers_on : (number : ℕ) (numbers : List ℕ) (before mid : Alone) → number < 256 → AreHostSteps (inputs_of_restart number before.host) before mid
    → (r : Result Unit PlayFault) (now : Alone) → DoesAllOf (inputs_of_restarts numbers mid.host) mid r now → DoesAllOf (inputs_of_restarts (number ∷ numbers) before.host) before r now
peers_on number numbers before mid n steps r now does =
    all_joined (inputs_of_restart number before.host) (inputs_of_restarts numbers (after_restart number before.host)) before mid now r steps
    (subst (λ (x : Host). DoesAllOf (inputs_of_restarts numbers x) mid r now) (restart_comes number before mid n steps) does)

-- it was not
peers_not : (number : ℕ) (numbers : List ℕ) (before now : Alone) (fault : PlayFault) → DoesAllOf (inputs_of_restart number before.host) before (Err fault) now → DoesAllOf (inputs_of_restarts (number ∷ numbers) before.host) before (Err fault) now
peers_not number numbers before now fault does =
    fault_of_more (inputs_of_restart number before.host) (inputs_of_restarts numbers (after_restart number before.host)) before now fault does

-- peer after peer

cut_peers : (numbers : List ℕ) (i : ℕ) → i < length numbers → drop i numbers ≡ get_or numbers i 0 ∷ drop (i + 1) numbers
cut_peers numbers i l = at_drop_more (λ (ns : List ℕ). ns) numbers i 0 l

pub peers_on_from : (numbers : List ℕ) (i : ℕ) (before mid : Alone) → i < length numbers → get_or numbers i 0 < 256 → AreHostSteps (inputs_of_restart (get_or numbers i 0) before.host) before mid
    → (r : Result Unit PlayFault) (now : Alone) → DoesAllOf (inputs_of_restarts (drop (i + 1) numbers) mid.host) mid r now → DoesAllOf (inputs_of_restarts (drop i numbers) before.host) before r now
peers_on_from numbers i before mid l n steps r now does =
    subst (λ (ns : List ℕ). DoesAllOf (inputs_of_restarts ns before.host) before r now) (sym (cut_peers numbers i l)) (peers_on (get_or numbers i 0) (drop (i + 1) numbers) before mid n steps r now does)

pub peers_not_from : (numbers : List ℕ) (i : ℕ) (before now : Alone) (fault : PlayFault) → i < length numbers → DoesAllOf (inputs_of_restart (get_or numbers i 0) before.host) before (Err fault) now → DoesAllOf (inputs_of_restarts (drop i numbers) before.host) before (Err fault) now
peers_not_from numbers i before now fault l does =
    subst (λ (ns : List ℕ). DoesAllOf (inputs_of_restarts ns before.host) before (Err fault) now) (sym (cut_peers numbers i l)) (peers_not (get_or numbers i 0) (drop (i + 1) numbers) before now fault does)
