-- A call is refused for a reason, or it passes: none of its reasons holds.
use Rattle.std.proofs.Common.{◌≡◌, ℕ, Bool, true, false, not, ◌&&◌, Option, Result, Ok, Err, refl}
use Rattle.std.specs.Prelude.{◌==◌, ◌||◌, nat_le}
use Rattle.ncp_model.specs.declared.pair.Pair.{Pair}
use Rattle.ncp_model.specs.declared.call_fault.CallFault.{CallFault}
use Rattle.ncp_model.specs.declared.call_fault.CallFault.TheVariants.{BadSex, BadSize, BadRoom, AlreadyAsked, Closing, NotOpen, WrongEnd, Busy, TooMuch, TableFull, QueueFull}
use Rattle.ncp_model.specs.declared.limits.TheConstants.{MAX_OWN}
use Rattle.ncp_model.specs.Pairs.{sends, receives}
use Rattle.ncp_model.specs.Endpoint.{Endpoint, or_new, is_closing}
use Rattle.ncp_model.specs.Effect.{Effect, Stays, is_room}
use Rattle.ncp_model.specs.Calls.{refuse, ◌>>◌, unless_refused, end_to_ask, may_ask, may_ask_send, may_ask_receive, may_close, may_take, may_use, may_receive_on, may_allocate, may_call_back, may_interrupt, is_too_much}

abbrev pub Passes : Result (Unit {0}) CallFault → Type 0
Passes r = ◌≡◌ {A = Result (Unit {0}) CallFault} r (Ok tt)

-- what holds where it is refused, and where it passes, holds of the call
pub either_way : {A : Type 0} (P : Effect (Result A CallFault) → Type 0) (r : Result (Unit {0}) CallFault) (act : Effect (Result A CallFault)) → ((fault : CallFault) → P (Stays (Err fault))) → (Passes r → P act) → P (unless_refused r act)
either_way P (Ok tt) act stays passes = passes refl
either_way P (Err fault) act stays passes = stays fault

pub both_pass : (r next : Result (Unit {0}) CallFault) → Passes (r >> next) → Passes r × Passes next
both_pass (Ok tt) next p = (refl, p)
both_pass (Err fault) next p = absurd (cc p)

-- the reason does not hold, and what is asked for does
pub holds_not : (fault : CallFault) (c : Bool) → Passes (refuse fault c) → c ≡ false
holds_not fault true p = absurd (cc p)
holds_not fault false p = refl

pub what_is_asked : (fault : CallFault) (c : Bool) → Passes (refuse fault (not c)) → c ≡ true
what_is_asked fault true p = refl
what_is_asked fault false p = absurd (cc p)

-- ---- requests

module _ (own : ℕ) (full : Bool) (before : Option Endpoint) where
  end_asks : Passes (may_ask own full before) → Passes (end_to_ask (or_new before)) × (nat_le MAX_OWN own ≡ false)
  end_asks p =
      let parts = both_pass (end_to_ask (or_new before)) (refuse TableFull (nat_le MAX_OWN own) >> refuse QueueFull full) p in
      (parts.0, holds_not TableFull (nat_le MAX_OWN own) (both_pass (refuse TableFull (nat_le MAX_OWN own)) (refuse QueueFull full) parts.1).0)

  pub send_asks : (pair : Pair) (of_size room : ℕ) → Passes (may_ask_send pair of_size room own full before) → (sends pair ≡ true) × Passes (end_to_ask (or_new before))
  send_asks pair of_size room p =
      let sized = refuse BadSize (of_size == 0) in
      let roomy = refuse BadRoom (not (is_room room)) in
      let parts = both_pass (refuse BadSex (not (sends pair))) (sized >> (roomy >> may_ask own full before)) p in
      let rest = both_pass roomy (may_ask own full before) (both_pass sized (roomy >> may_ask own full before) parts.1).1 in
      (what_is_asked BadSex (sends pair) parts.0, (end_asks rest.1).0)

  pub receive_asks : (pair : Pair) (room : ℕ) → Passes (may_ask_receive pair room own full before) → (receives pair ≡ true) × Passes (end_to_ask (or_new before)) × (nat_le MAX_OWN own ≡ false)
  receive_asks pair room p =
      let roomy = refuse BadRoom (not (is_room room)) in
      let parts = both_pass (refuse BadSex (not (receives pair))) (roomy >> may_ask own full before) p in
      let it = end_asks (both_pass roomy (may_ask own full before) parts.1).1 in
      (what_is_asked BadSex (receives pair) parts.0, it.0, it.1)

pub asks_going : (e : Endpoint) → Passes (end_to_ask e) → is_closing e ≡ false
asks_going e p = holds_not Closing (is_closing e) (both_pass (refuse AlreadyAsked (e.asked && not (is_closing e))) (refuse Closing (is_closing e)) p).1

-- ---- an end has not left

module _ (e : Endpoint) (pair : Pair) where
  pub close_is : (full : Bool) → Passes (may_close pair full e) → e.left ≡ false
  close_is full p = go e.left (holds_not Closing (e.left || (e.leaving && sends pair)) (both_pass (refuse Closing (e.left || (e.leaving && sends pair))) (refuse QueueFull full) p).0)
    where
      go : (l : Bool) → (l || (e.leaving && sends pair)) ≡ false → l ≡ false
      go true k = absurd (cc k)
      go false k = refl

  pub take_is : Passes (may_take pair e) → e.left ≡ false
  take_is p = holds_not Closing e.left (both_pass (refuse Closing e.left) (refuse NotOpen (not e.opened) >> refuse WrongEnd (not (receives pair))) p).0

-- ---- on an open connection

module _ (e : Endpoint) where
  use_is : Passes (may_use e) → (is_closing e ≡ false) × ((e.asked && e.heard) ≡ true)
  use_is p =
      let parts = both_pass (refuse Closing (is_closing e)) (refuse NotOpen (not (e.asked && e.heard))) p in
      (holds_not Closing (is_closing e) parts.0, what_is_asked NotOpen (e.asked && e.heard) parts.1)

  pub interrupt_is : (full : Bool) → Passes (may_interrupt full e) → (is_closing e ≡ false) × ((e.asked && e.heard) ≡ true)
  interrupt_is full p = use_is (both_pass (may_use e) (refuse QueueFull full) p).0

  -- it receives, and passes one more reason
  receive_is : (pair : Pair) (fault : CallFault) (c full : Bool) → Passes (may_receive_on pair e >> (refuse fault c >> refuse QueueFull full)) → (is_closing e ≡ false) × ((e.asked && e.heard) ≡ true) × (receives pair ≡ true) × (c ≡ false)
  receive_is pair fault c full p =
      let parts = both_pass (may_receive_on pair e) (refuse fault c >> refuse QueueFull full) p in
      let on = both_pass (may_use e) (refuse WrongEnd (not (receives pair))) parts.0 in
      let used = use_is on.0 in
      (used.0, used.1, what_is_asked WrongEnd (receives pair) on.1, holds_not fault c (both_pass (refuse fault c) (refuse QueueFull full) parts.1).0)

  pub allocate_is : (pair : Pair) (messages bits : ℕ) (full : Bool) → Passes (may_allocate pair messages bits full e) → (is_closing e ≡ false) × ((e.asked && e.heard) ≡ true) × (receives pair ≡ true) × (is_too_much messages bits e ≡ false)
  allocate_is pair messages bits full p = receive_is pair TooMuch (is_too_much messages bits e) full p

  pub call_back_is : (pair : Pair) (full : Bool) → Passes (may_call_back pair full e) → (is_closing e ≡ false) × ((e.asked && e.heard) ≡ true) × (receives pair ≡ true) × (e.recall ≡ false)
  call_back_is pair full p = receive_is pair Busy e.recall full p
