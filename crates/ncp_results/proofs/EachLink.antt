-- What is unacknowledged, link by link; and that a restart changes nothing of it.
use Rattle.std.proofs.Common.{◌≡◌, ◌<◌, ◌≤◌, ◌↔◌, inl, inr, ℕ, zero, suc, ◌+◌, ◌-◌, ◌==◌, Bool, true, false, ◌&&◌, ◌||◌, if◌then◌else◌, List, [], ◌∷◌, Option, None, Some, Result, Ok, refl, sym, ap, subst, ◌∙◌, arith}
use Rattle.std.specs.List.{list_any, range_with_len}
use Rattle.std.proofs.lemmas.Bool.{or_parts}
use Rattle.std.proofs.lemmas.Bool.Decides.{eqb_tells}
use Rattle.ncp_wire.specs.declared.answer.Answer.TheVariants.{Incomplete}
use Rattle.ncp_slot.specs.declared.slot.Slot.TheVariants.{Empty, Ready, Travelling, Held}
use Rattle.ncp_slot.specs.Slot.{answered, kept_message, is_ready, is_travelling}
use Rattle.ncp_slot.specs.Slots.{LinkSlot, LinkSlots, HasSlot, slot_at, data_links}
use Rattle.ncp_model.specs.declared.call_fault.CallFault.{CallFault}
use Rattle.ncp_peer.specs.PeerState.{PeerState, control_link}
use Rattle.ncp_peer.specs.PeerCalls.{kept_for}
use Rattle.ncp_peer.specs.GivingUp.{restarts, IsGivenUp}
use Rattle.ncp_peer.specs.Output.{links}
use Rattle.ncp_host.specs.Host.{Host, state_of, if_known}
use Rattle.ncp_host.specs.Restarting.{is_message_out, after_restart}
use Rattle.ncp_host.proofs.Restarting.{all_come, none_come, state_at, is_given_up, in_links}
use Rattle.ncp_results.specs.declared.unacknowledged.Unacknowledged.{Unacknowledged}
use Rattle.ncp_results.specs.declared.unacknowledged.Unacknowledged.TheVariants.{Nothing, Message, Reset}
use Rattle.ncp_results.specs.Unacknowledged.{is_slot_unacknowledged, is_unacknowledged, has_reset_if_any, is_reset_unacknowledged, is_any_unacknowledged, unacknowledged_for, unacknowledged_returned, AllAcknowledged, NoneUnanswered, NoneToSendAgain}

-- A search over links, one link after the other.

pub any_more : (on : ℕ) (ons : List ℕ) (known : Option PeerState) → is_any_unacknowledged (on ∷ ons) known ≡ (is_unacknowledged on known || is_any_unacknowledged ons known)
unfolding is_any_unacknowledged
any_more on ons known = refl

any_none : (known : Option PeerState) → is_any_unacknowledged [] known ≡ false
unfolding is_any_unacknowledged
any_none known = refl

any_as_list : (ons : List ℕ) (known : Option PeerState) → is_any_unacknowledged ons known ≡ list_any (λ on. is_unacknowledged on known) ons
unfolding is_any_unacknowledged
any_as_list ons known = refl

abbrev from : ℕ → List ℕ
from on = range_with_len on (72 - on)

cut_range : (on : ℕ) → on < 72 → from on ≡ on ∷ from (on + 1)
cut_range on l = let e : 72 - on ≡ suc (72 - (on + 1)) = omega arith in ap (λ k. range_with_len on k) e

any_from : (on : ℕ) (known : Option PeerState) → on < 72 → is_any_unacknowledged (from on) known ≡ (is_unacknowledged on known || is_any_unacknowledged (from (on + 1)) known)
any_from on known l = ap (λ (ons : List ℕ). is_any_unacknowledged ons known) (cut_range on l) ∙ any_more on (from (on + 1)) known

pub found_here : (on : ℕ) (known : Option PeerState) (all : Bool) → on < 72 → is_unacknowledged on known ≡ true → is_any_unacknowledged (from on) known ≡ all → true ≡ all
found_here on known all l here is = sym (any_from on known l ∙ ap (λ (b : Bool). b || is_any_unacknowledged (from (on + 1)) known) here) ∙ is

pub not_here : (on : ℕ) (known : Option PeerState) (all : Bool) → on < 72 → is_unacknowledged on known ≡ false → is_any_unacknowledged (from on) known ≡ all → is_any_unacknowledged (from (on + 1)) known ≡ all
not_here on known all l here is = sym (any_from on known l ∙ ap (λ (b : Bool). b || is_any_unacknowledged (from (on + 1)) known) here) ∙ is

pub found_nowhere : (on : ℕ) (known : Option PeerState) (all : Bool) → 72 ≤ on → is_any_unacknowledged (from on) known ≡ all → false ≡ all
found_nowhere on known all l is =
    let none : 72 - on ≡ 0 = omega arith in
    sym (ap (λ (k : ℕ). is_any_unacknowledged (range_with_len on k) known) none ∙ any_none known) ∙ is

pub on_control_link : (known : Option PeerState) → is_unacknowledged control_link known ≡ true → true ≡ is_any_unacknowledged links known
on_control_link known here = sym (any_more control_link data_links known ∙ ap (λ (b : Bool). b || is_any_unacknowledged data_links known) here)

pub on_data_links : (known : Option PeerState) → is_unacknowledged control_link known ≡ false → is_any_unacknowledged data_links known ≡ is_any_unacknowledged links known
on_data_links known here = sym (any_more control_link data_links known ∙ ap (λ (b : Bool). b || is_any_unacknowledged data_links known) here)

-- a test that no link passes
none_of : (test : ℕ → Bool) (ons : List ℕ) (on : ℕ) → list_any (λ k. on == k) ons ≡ true → list_any test ons ≡ false → test on ≡ false
none_of test [] on is none = absurd (cc)
none_of test (k ∷ ons) on is none =
    let parts : (test k ≡ false) × (list_any test ons ≡ false) = or_parts (test k) (list_any test ons) none in
    elim (eqb_tells on k) [
      | inl y ↦ ap test y.1 ∙ parts.0
      | inr other ↦ none_of test ons on (sym (ap (λ (b : Bool). b || list_any (λ j. on == j) ons) other.0) ∙ is) parts.1
    ]

none_in_range : (test : ℕ → Bool) (n a : ℕ) → ((k : ℕ) → a ≤ k → k < a + n → test k ≡ false) → list_any test (range_with_len a n) ≡ false
none_in_range test zero a each = refl
none_in_range test (suc n) a each =
    ap (λ (b : Bool). b || list_any test (range_with_len (a + 1) n)) (each a (omega arith) (omega arith))
    ∙ none_in_range test n (a + 1) (λ k low high. each k (omega arith) (omega arith))

has_slot : (k : ℕ) → 2 ≤ k → k < 2 + 70 → HasSlot k
has_slot k low high = (λ e. absurd (omega (arith, e)), omega arith)

has_control_slot : HasSlot control_link
has_control_slot = (λ e. absurd (cc e), omega arith)

none_in_links : (test : ℕ → Bool) → ((on : ℕ) → HasSlot on → test on ≡ false) → list_any test links ≡ false
none_in_links test each =
    ap (λ (b : Bool). b || list_any test data_links) (each control_link has_control_slot)
    ∙ none_in_range test 70 2 (λ k low high. each k (has_slot k low high))

-- the state of a peer of which nothing is unacknowledged
abbrev pub by_tests : Bool → Bool → Unacknowledged
by_tests reset any = if reset then Reset else if any then Message else Nothing

no_message : (reset any : Bool) → by_tests reset any ≡ Nothing → any ≡ false
no_message true any e = absurd (cc e)
no_message false true e = absurd (cc e)
no_message false false e = refl

abbrev Told : Type 0
Told = Result Unacknowledged CallFault

told : (r : Told) (x y : Unacknowledged) → r ≡ Ok x → r ≡ Ok y → x ≡ y
told r x y e f = cc

abbrev known_as : Host → ℕ → Option PeerState → Result Unacknowledged CallFault
known_as h number x = if_known x (λ s. Ok (unacknowledged_for (Some s)))

pub all_acknowledged : (number : ℕ) (h : Host) (s : PeerState) → state_of h number ≡ Some s → unacknowledged_returned number h ≡ Ok Nothing → AllAcknowledged s
all_acknowledged number h s known is on has =
    let here : unacknowledged_for (Some s) ≡ Nothing = told (unacknowledged_returned number h) (unacknowledged_for (Some s)) Nothing (ap (known_as h number) known) is in
    none_of (λ k. is_unacknowledged k (Some s)) links on (in_links on has) (sym (any_as_list links (Some s)) ∙ no_message (is_reset_unacknowledged (Some s)) (is_any_unacknowledged links (Some s)) here)

pub nothing_told : (number : ℕ) (h : Host) (s : PeerState) → state_of h number ≡ Some s → AllAcknowledged s → unacknowledged_returned number h ≡ Ok Nothing
nothing_told number h s known all =
    let reset : is_reset_unacknowledged (Some s) ≡ false = ap (λ (b : Bool). b && has_reset_if_any (kept_for (Some s) control_link)) (all control_link has_control_slot) in
    let any : is_any_unacknowledged links (Some s) ≡ false = any_as_list links (Some s) ∙ none_in_links (λ k. is_unacknowledged k (Some s)) all in
    ap (known_as h number) known
    ∙ ap (λ (b : Bool). Ok (by_tests b (is_any_unacknowledged links (Some s)))) reset
    ∙ ap (λ (b : Bool). Ok (by_tests false b)) any

either_none : (slot : LinkSlot) → is_slot_unacknowledged slot ≡ false → is_travelling slot ≡ false
either_none slot e = (or_parts (is_ready slot) (is_travelling slot) e).1

both_none : (slot : LinkSlot) → is_ready slot ≡ false → is_travelling slot ≡ false → is_slot_unacknowledged slot ≡ false
both_none slot a b = ap (λ (x : Bool). x || is_travelling slot) a ∙ b

pub none_unanswered : (number : ℕ) (h : Host) → unacknowledged_returned number h ≡ Ok Nothing → NoneUnanswered number h
none_unanswered number h is on has = go (state_of h number) refl
  where
    go : (o : Option PeerState) → state_of h number ≡ o → is_message_out on (state_of h number) ≡ false
    go (Some s) known = ap (is_message_out on) known ∙ either_none (slot_at s.slots on) (all_acknowledged number h s known is on has)
    go None none = ap (is_message_out on) none

pub all_sent : (number : ℕ) (h : Host) (s : PeerState) → state_of h number ≡ Some s → NoneToSendAgain s → NoneUnanswered number h → unacknowledged_returned number h ≡ Ok Nothing
all_sent number h s known again all =
    nothing_told number h s known (λ on has. both_none (slot_at s.slots on) (again on has) (sym (ap (is_message_out on) known) ∙ all on has))

-- A restart.

same_test : (slot : LinkSlot) → is_slot_unacknowledged (answered Incomplete slot) ≡ is_slot_unacknowledged slot
same_test Empty = refl
same_test (Ready m) = refl
same_test (Travelling m) = refl
same_test (Held m) = refl

same_kept : (slot : LinkSlot) → kept_message (answered Incomplete slot) ≡ kept_message slot
same_kept Empty = refl
same_kept (Ready m) = refl
same_kept (Travelling m) = refl
same_kept (Held m) = refl

same_in_range : (one other : ℕ → Bool) (n a : ℕ) → ((k : ℕ) → a ≤ k → k < a + n → one k ≡ other k) → list_any one (range_with_len a n) ≡ list_any other (range_with_len a n)
same_in_range one other zero a each = refl
same_in_range one other (suc n) a each =
    ap (λ (b : Bool). b || list_any one (range_with_len (a + 1) n)) (each a (omega arith) (omega arith))
    ∙ ap (λ (b : Bool). other a || b) (same_in_range one other n (a + 1) (λ k low high. each k (omega arith) (omega arith)))

same_in_links : (one other : ℕ → Bool) → ((on : ℕ) → HasSlot on → one on ≡ other on) → list_any one links ≡ list_any other links
same_in_links one other each =
    ap (λ (b : Bool). b || list_any one data_links) (each control_link has_control_slot)
    ∙ ap (λ (b : Bool). other control_link || b) (same_in_range one other 70 2 (λ k low high. each k (has_slot k low high)))

same_for : (s now : PeerState) → IsGivenUp s now → unacknowledged_for (Some now) ≡ unacknowledged_for (Some s)
same_for s now up =
    let each : (on : ℕ) → HasSlot on → is_unacknowledged on (Some now) ≡ is_unacknowledged on (Some s) = λ on has. ap is_slot_unacknowledged (up.slots on has) ∙ same_test (slot_at s.slots on) in
    let kept : kept_for (Some now) control_link ≡ kept_for (Some s) control_link = ap kept_message (up.slots control_link has_control_slot) ∙ same_kept (slot_at s.slots control_link) in
    let reset : is_reset_unacknowledged (Some now) ≡ is_reset_unacknowledged (Some s) =
    ap (λ (b : Bool). b && has_reset_if_any (kept_for (Some now) control_link)) (each control_link has_control_slot)
    ∙ ap (λ (x : Option (List Bool)). is_unacknowledged control_link (Some s) && has_reset_if_any x) kept in
    ap (λ (b : Bool). by_tests b (is_any_unacknowledged links (Some now))) reset
    ∙ ap (by_tests (is_reset_unacknowledged (Some s)))
    (any_as_list links (Some now) ∙ same_in_links (λ k. is_unacknowledged k (Some now)) (λ k. is_unacknowledged k (Some s)) each ∙ sym (any_as_list links (Some s)))

pub restart_leaves : (number : ℕ) (h : Host) → number < 256 → unacknowledged_returned number (after_restart number h) ≡ unacknowledged_returned number h
restart_leaves number h small = go (state_of h number) refl
  where
    go : (o : Option PeerState) → state_of h number ≡ o → unacknowledged_returned number (after_restart number h) ≡ unacknowledged_returned number h
    go (Some s) known =
        let now : state_of (after_restart number h) number ≡ Some (restarts s) = ap (λ (x : Host). state_of x number) (all_come number links h s small refl known) ∙ state_at h.peers number restarts s known in
        ap (known_as h number) now
        ∙ ap (λ (x : Unacknowledged). Ok x) (same_for s (restarts s) (is_given_up s))
        ∙ sym (ap (known_as h number) known)
    go None none = ap (unacknowledged_returned number) (none_come number links h none)
