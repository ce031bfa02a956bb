-- What a host says of a connection by all that happens at its end, but for the requests and the CLS that come: nothing, and
-- the shape stays as it is; or one thing that it may say, and the shape is that after it.
use Rattle.std.proofs.Common.{◌≡◌, ℕ, ◌==◌, ◌+◌, ◌-◌, ◌*◌, Bool, true, false, not, ◌&&◌, ◌||◌, if◌then◌else◌, List, [], ◌∷◌, ◌++◌, length, Option, None, Some, Result, Ok, refl, sym, ap, ◌∙◌, subst, arith}
use Rattle.std.specs.Prelude.{nat_lt, min, drop, take}
use Rattle.ncp_wire.specs.declared.command.Command.{Command}
use Rattle.ncp_wire.specs.declared.command.Command.TheVariants.{Rts, Str, Cls}
use Rattle.ncp_model.specs.declared.pair.Pair.{Pair}
use Rattle.ncp_model.specs.declared.outcomes.Heard.{Heard}
use Rattle.ncp_model.specs.declared.outcomes.Heard.TheVariants.{Nothing, Reply, Late}
use Rattle.ncp_model.specs.declared.outcomes.Took.{Took}
use Rattle.ncp_model.specs.declared.call_fault.CallFault.{CallFault}
use Rattle.ncp_model.specs.declared.limits.TheConstants.{MAX_MESSAGES, MAX_AMOUNT, MAX_COUNT}
use Rattle.ncp_model.specs.Pairs.{sends, receives}
use Rattle.ncp_model.specs.Endpoint.{Endpoint, or_new, is_ended, is_closing}
use Rattle.ncp_model.specs.Effect.{Effect, Stays, Becomes, answer, end_after, leaves, closing, error_of, made_by_call, made_by_close, made_by_take, made_by_hearing, made_if_any, wrong_parameters, not_connected}
use Rattle.ncp_model.specs.Calls.{asked_to_send, asked_to_receive, ask_send, ask_receive, may_ask_send, may_ask_receive, may_close, may_give, may_take, take_bits, may_allocate, may_call_back, may_interrupt, bits_to_take, emptied, interrupting}
use Rattle.ncp_model.specs.Amounts.{back}
use Rattle.ncp_model.specs.Commands.{at_open, all_at, gvb_at, ret_at, interrupted}
use Rattle.ncp_model.specs.Texts.{Rfnm, Incomplete, Dead, made_by_text, hear_text, can_send, bytes_to_send}
use Rattle.ncp_model.specs.EndpointEvents.{EndpointEvent, happens}
use Rattle.ncp_proof_endpoint.specs.Sound.{SoundAt}
use Rattle.ncp_monitor.proofs.Shapes.{Shape, Say, Ask, Leave, legal, own_step}
use Rattle.ncp_monitor.proofs.LinkOrder.{Sockets}
use Rattle.ncp_proof_monitor_allocation.proofs.Reasons.{either_way, send_asks, receive_asks, asks_going, close_is, take_is}
use Rattle.ncp_proof_monitor_allocation.proofs.KeptEnds.{of_end, kept, asks_size, asks_link, may_ask, leaves_is, may_leave, still}

-- what a command of the host says of a connection
abbrev pub says_of : Command → List (Sockets × Say)
says_of (Rts receive send link) = ((receive, send), Ask link) ∷ []
says_of (Str send receive size) = ((send, receive), Ask size) ∷ []
says_of (Cls my your) = ((my, your), Leave) ∷ []
says_of c = []

abbrev pub all_says : List Command → List (Sockets × Say)
all_says [] = []
all_says (c ∷ cs) = says_of c ++ all_says cs

abbrev pub sockets_of : Pair → Sockets
sockets_of pair = (pair.local, pair.remote)

pub data Moved (sending : Bool) (pair : Pair) (before after : Option Endpoint) (made : List Command) : Type 0 where
  Silent : all_says made ≡ [] → kept sending after ≡ kept sending before → Moved sending pair before after made
  Says : (c : Say) → all_says made ≡ (sockets_of pair, c) ∷ [] → legal c (kept sending before) ≡ true → kept sending after ≡ own_step c (kept sending before) → Moved sending pair before after made

abbrev pub By : {A : Type 0} → Bool → Pair → Option Endpoint → (A → List Command) → Effect A → Type 0
By sending pair before made_by act = Moved sending pair before (end_after before act) (made_by (answer act))

-- an end that lasts is what it is
lasts : (sending : Bool) (e : Endpoint) → is_ended e ≡ false → kept sending (if is_ended e then None else Some e) ≡ kept sending (Some e)
lasts sending e o = ap (λ (b : Bool). kept sending (if b then None else Some e)) o

not_left : (e : Endpoint) (pair : Pair) → SoundAt pair (Some e) → e.leaving ≡ true → e.left ≡ false
not_left e pair s l = go e.left refl
  where
    go : (b : Bool) → e.left ≡ b → e.left ≡ false
    go true k = let nay : true ≡ false = sym l ∙ s.due k in absurd (cc nay)
    go false k = k

-- ---- requests

unleft : (e : Endpoint) → is_closing e ≡ false → is_ended e ≡ false
unleft e g = go e.leaving e.left g
  where
    go : (a b : Bool) → (a || b) ≡ false → (b && e.cls) ≡ false
    go true b k = absurd (cc k)
    go false true k = absurd (cc k)
    go false false k = refl

pub asks_to_send : (pair : Pair) (of_size room own : ℕ) (full : Bool) (before : Option Endpoint) → By (sends pair) pair before made_by_call (ask_send pair of_size room own full before)
asks_to_send pair of_size room own full before = either_way (By (sends pair) pair before made_by_call) (may_ask_send pair of_size room own full before) (Becomes now (Ok said)) (λ fault. Silent refl refl)
    (λ p. let it = send_asks own full before pair of_size room p in subst (λ (b : Bool). By b pair before made_by_call (Becomes now (Ok said))) (sym it.0)
    (Says (Ask of_size) refl (may_ask true of_size before it.1) (lasts true now (unleft (or_new before) (asks_going (or_new before) it.1)) ∙ asks_size of_size room before)))
  where
    now : Endpoint
    now = asked_to_send of_size room (or_new before)

    said : Command
    said = Str pair.local pair.remote of_size

pub no_sender : (pair : Pair) → receives pair ≡ true → sends pair ≡ false
no_sender pair r = grind arith

pub asks_to_receive : (pair : Pair) (room on own : ℕ) (full : Bool) (before : Option Endpoint) → By (sends pair) pair before made_by_call (ask_receive pair room on own full before)
asks_to_receive pair room on own full before = either_way (By (sends pair) pair before made_by_call) (may_ask_receive pair room own full before) (Becomes now (Ok said)) (λ fault. Silent refl refl)
    (λ p. let it = receive_asks own full before pair room p in subst (λ (b : Bool). By b pair before made_by_call (Becomes now (Ok said))) (sym (no_sender pair it.0))
    (Says (Ask on) refl (may_ask false on before it.1) (lasts false now (unleft (or_new before) (asks_going (or_new before) it.1)) ∙ asks_link on room before)))
  where
    now : Endpoint
    now = asked_to_receive on room (or_new before)

    said : Command
    said = Rts pair.local pair.remote on

-- ---- all else that happens at an end that is there

module _ (sending : Bool) (pair : Pair) (e : Endpoint) (sound : SoundAt pair (Some e)) where
  -- nothing is said
  quiet : {A : Type 0} (made_by : A → List Command) (now : Endpoint) (a : A) → all_says (made_by a) ≡ [] → of_end sending now ≡ of_end sending e → By sending pair (Some e) made_by (Becomes now a)
  quiet made_by now a n s = Silent n (still sending e now a sound.over s)

  -- its CLS is said
  leaving : {A : Type 0} (made_by : A → List Command) (now : Endpoint) (a : A) → all_says (made_by a) ≡ (sockets_of pair, Leave) ∷ [] → e.left ≡ false → of_end sending now ≡ of_end sending e → By sending pair (Some e) made_by (Becomes (leaves now) a)
  leaving {A} made_by now a n k s = Says Leave n (may_leave sending e k) (leaves_is {A = A} sending now a ∙ ap (λ (x : Shape). own_step Leave (Some x)) s)

  pub closes : (full : Bool) → Moved sending pair (Some e) (happens pair (EndpointEvent.Closes full) (Some e)).after (happens pair (EndpointEvent.Closes full) (Some e)).made
  closes full = either_way (By sending pair (Some e) made_by_close) (may_close pair full e) (if sends pair && e.busy then Becomes (record e { leaving = true; stored = [] }) (Ok None) else Becomes (leaves e) (Ok (Some (closing pair)))) (λ fault. Silent refl refl)
      (λ p. go (sends pair && e.busy) (close_is e pair full p))
    where
      go : (b : Bool) → e.left ≡ false → By {A = Result (Option Command) CallFault} sending pair (Some e) made_by_close (if b then Becomes (record e { leaving = true; stored = [] }) (Ok None) else Becomes (leaves e) (Ok (Some (closing pair))))
      go true k = quiet made_by_close (record e { leaving = true; stored = [] }) (Ok None) refl refl
      go false k = leaving made_by_close e (Ok (Some (closing pair))) refl k refl

  pub gives : (text : List Bool) → Moved sending pair (Some e) (happens pair (EndpointEvent.Gives text) (Some e)).after (happens pair (EndpointEvent.Gives text) (Some e)).made
  gives text = either_way (By sending pair (Some e) (λ _. [])) (may_give pair text e) (Becomes now done) (λ fault. Silent refl refl) (λ p. quiet (λ _. []) now done refl refl)
    where
      now : Endpoint
      now = record e { stored = e.stored ++ text }

      done : Result (Unit {0}) CallFault
      done = Ok tt

  pub takes_text : (bytes : ℕ) → Moved sending pair (Some e) (happens pair (EndpointEvent.Takes bytes) (Some e)).after (happens pair (EndpointEvent.Takes bytes) (Some e)).made
  takes_text bytes = either_way (By sending pair (Some e) made_by_take) (may_take pair e) (take_bits pair count e) (λ fault. Silent refl refl) (λ p. go (e.leaving && emptied e count) (take_is e pair p))
    where
      count : ℕ
      count = bits_to_take bytes e

      now : Endpoint
      now = record e { stored = drop count e.stored }

      go : (d : Bool) → e.left ≡ false
          → By {A = Result (List Bool × Option Command) CallFault} sending pair (Some e) made_by_take (if d then Becomes (leaves e) (Ok (take count e.stored, Some (closing pair))) else Becomes now (Ok (take count e.stored, None)))
      go true k = leaving made_by_take e (Ok (take count e.stored, Some (closing pair))) refl k refl
      go false k = quiet made_by_take now (Ok (take count e.stored, None)) refl refl

  pub allocates : (messages bits : ℕ) (full : Bool) → Moved sending pair (Some e) (happens pair (EndpointEvent.Allocates messages bits full) (Some e)).after (happens pair (EndpointEvent.Allocates messages bits full) (Some e)).made
  allocates messages bits full = either_way (By sending pair (Some e) made_by_call) (may_allocate pair messages bits full e) (Becomes now (Ok (Command.All e.link messages bits))) (λ fault. Silent refl refl)
      (λ p. quiet made_by_call now (Ok (Command.All e.link messages bits)) refl refl)
    where
      now : Endpoint
      now = record e { messages = e.messages + messages; bits = e.bits + bits }

  pub calls_back : (messages bits : ℕ) (full : Bool) → Moved sending pair (Some e) (happens pair (EndpointEvent.Calls_back messages bits full) (Some e)).after (happens pair (EndpointEvent.Calls_back messages bits full) (Some e)).made
  calls_back messages bits full = either_way (By sending pair (Some e) made_by_call) (may_call_back pair full e) (Becomes (record e { recall = true }) (Ok (Command.Gvb e.link messages bits))) (λ fault. Silent refl refl)
      (λ p. quiet made_by_call (record e { recall = true }) (Ok (Command.Gvb e.link messages bits)) refl refl)

  pub interrupts : (full : Bool) → Moved sending pair (Some e) (happens pair (EndpointEvent.Interrupts full) (Some e)).after (happens pair (EndpointEvent.Interrupts full) (Some e)).made
  interrupts full = either_way (By sending pair (Some e) made_by_call) (may_interrupt full e) (Becomes e (Ok (interrupting pair e))) (λ fault. Silent refl refl) (λ p. quiet made_by_call e (Ok (interrupting pair e)) (unsaid (sends pair)) refl)
    where
      unsaid : (b : Bool) → all_says ((if b then Command.Ins e.link else Command.Inr e.link) ∷ []) ≡ []
      unsaid true = refl
      unsaid false = refl

  pub text_goes : Moved sending pair (Some e) (happens pair EndpointEvent.Text_goes_out (Some e)).after (happens pair EndpointEvent.Text_goes_out (Some e)).made
  text_goes = go (can_send pair e)
    where
      count : ℕ
      count = bytes_to_send e * e.size

      now : Endpoint
      now = record e { messages = e.messages - 1; bits = e.bits - count; stored = drop count e.stored; busy = true }

      sent : Option (ℕ × List Bool)
      sent = Some (e.size, take count e.stored)

      go : (b : Bool) → By {A = Option (ℕ × List Bool)} sending pair (Some e) (λ _. []) (if b then Becomes now sent else Stays None)
      go true = quiet (λ _. []) now sent refl refl
      go false = Silent refl refl

  -- an RFNM
  pub taken : Moved sending pair (Some e) (happens pair (EndpointEvent.Is_answered Rfnm) (Some e)).after (happens pair (EndpointEvent.Is_answered Rfnm) (Some e)).made
  taken = go (sends pair) e.leaving refl
    where
      go : (s g : Bool) → e.leaving ≡ g
          → By sending pair (Some e) made_if_any (if not s then Stays None else if g then Becomes (leaves (record e { busy = false })) (Some (closing pair)) else Becomes (record e { busy = false }) None)
      go false g k = Silent refl refl
      go true true k = leaving made_if_any (record e { busy = false }) (Some (closing pair)) refl (not_left e pair sound k) refl
      go true false k = quiet made_if_any (record e { busy = false }) None refl refl

-- ---- what names a link, and comes

open_end : (sending : Bool) (pair : Pair) (c : Command) (act : Endpoint → Effect Heard) (before : Option Endpoint) → ((e : Endpoint) → SoundAt pair (Some e) → By sending pair (Some e) made_by_hearing (act e)) → SoundAt pair before → By sending pair before made_by_hearing (at_open c act before)
open_end sending pair c act None moves sound = Silent refl refl
open_end sending pair c act (Some e) moves sound = go (is_closing e) e.opened (moves e sound)
  where
    go : (g o : Bool) → By sending pair (Some e) made_by_hearing (act e) → By sending pair (Some e) made_by_hearing (if g then Stays Late else if not o then Stays (Reply (error_of not_connected c)) else act e)
    go true o m = Silent refl refl
    go false false m = Silent refl refl
    go false true m = m

module _ (sending : Bool) (pair : Pair) (before : Option Endpoint) (sound : SoundAt pair before) where
  pub all_comes : (on messages bits : ℕ) → Moved sending pair before (happens pair (EndpointEvent.All_comes on messages bits) before).after (happens pair (EndpointEvent.All_comes on messages bits) before).made
  all_comes on messages bits = open_end sending pair (Command.All on messages bits) (all_at on messages bits) before (λ e s. go e s (nat_lt MAX_MESSAGES (e.messages + messages) || nat_lt MAX_AMOUNT (e.bits + bits))) sound
    where
      go : (e : Endpoint) → SoundAt pair (Some e) → (b : Bool)
          → By sending pair (Some e) made_by_hearing (if b then Stays (Reply (error_of wrong_parameters (Command.All on messages bits))) else Becomes (record e { messages = e.messages + messages; bits = e.bits + bits }) Nothing)
      go e s true = Silent refl refl
      go e s false = quiet sending pair e s made_by_hearing (record e { messages = e.messages + messages; bits = e.bits + bits }) Nothing refl refl

  pub gvb_comes : (on messages bits : ℕ) → Moved sending pair before (happens pair (EndpointEvent.Gvb_comes on messages bits) before).after (happens pair (EndpointEvent.Gvb_comes on messages bits) before).made
  gvb_comes on messages bits =
      open_end sending pair (Command.Gvb on messages bits) (gvb_at on messages bits) before
      (λ e s. quiet sending pair e s made_by_hearing (record e { messages = e.messages - back e.messages messages; bits = e.bits - back e.bits bits }) (Reply (Command.Ret on (back e.messages messages) (back e.bits bits))) refl refl) sound

  pub ret_comes : (on messages bits : ℕ) → Moved sending pair before (happens pair (EndpointEvent.Ret_comes on messages bits) before).after (happens pair (EndpointEvent.Ret_comes on messages bits) before).made
  ret_comes on messages bits = open_end sending pair (Command.Ret on messages bits) (ret_at on messages bits) before (λ e s. go e s (nat_lt e.messages messages || nat_lt e.bits bits)) sound
    where
      go : (e : Endpoint) → SoundAt pair (Some e) → (b : Bool)
          → By sending pair (Some e) made_by_hearing (if b then Stays (Reply (error_of wrong_parameters (Command.Ret on messages bits))) else Becomes (record e { messages = e.messages - messages; bits = e.bits - bits; recall = false }) Nothing)
      go e s true = Silent refl refl
      go e s false = quiet sending pair e s made_by_hearing (record e { messages = e.messages - messages; bits = e.bits - bits; recall = false }) Nothing refl refl

  pub inr_comes : (on : ℕ) → Moved sending pair before (happens pair (EndpointEvent.Inr_comes on) before).after (happens pair (EndpointEvent.Inr_comes on) before).made
  inr_comes on = open_end sending pair (Command.Inr on) interrupted before (λ e s. quiet sending pair e s made_by_hearing (record e { interrupts = min (e.interrupts + 1) MAX_COUNT }) Nothing refl refl) sound

  pub ins_comes : (on : ℕ) → Moved sending pair before (happens pair (EndpointEvent.Ins_comes on) before).after (happens pair (EndpointEvent.Ins_comes on) before).made
  ins_comes on = open_end sending pair (Command.Ins on) interrupted before (λ e s. quiet sending pair e s made_by_hearing (record e { interrupts = min (e.interrupts + 1) MAX_COUNT }) Nothing refl refl) sound

-- a text that comes
text_in_end : (sending : Bool) (pair : Pair) (head text : List Bool) (of_size : ℕ) (e : Endpoint) → SoundAt pair (Some e) → By sending pair (Some e) (made_by_text head text) (hear_text of_size text (Some e))
text_in_end sending pair head text of_size e sound = go (is_closing e) e.opened (of_size == e.size) (e.messages == 0 || nat_lt e.bits (length text))
  where
    now : Endpoint
    now = record e { messages = e.messages - 1; bits = e.bits - length text; stored = e.stored ++ text }

    go : (g o s b : Bool) → By sending pair (Some e) (made_by_text head text) (if g then Stays Took.Late else if not o then Stays Took.NotOpen else if not s then Stays Took.WrongSize else if b then Stays Took.Over else Becomes now Took.Admitted)
    go true o s b = Silent refl refl
    go false false s b = Silent refl refl
    go false true false b = Silent refl refl
    go false true true true = Silent refl refl
    go false true true false = quiet sending pair e sound (made_by_text head text) now Took.Admitted refl refl

pub text_comes : (sending : Bool) (pair : Pair) (head text : List Bool) (of_size : ℕ) (before : Option Endpoint) → SoundAt pair before → Moved sending pair before (happens pair (EndpointEvent.Text_comes head of_size text) before).after (happens pair (EndpointEvent.Text_comes head of_size text) before).made
text_comes sending pair head text of_size None sound = Silent refl refl
text_comes sending pair head text of_size (Some e) sound = text_in_end sending pair head text of_size e sound

-- ---- all that happens at an end, but for the requests and the CLS that come, and a clearing

abbrev pub is_of_host : EndpointEvent → Bool
is_of_host (EndpointEvent.Rts_comes on shared by_peer) = false
is_of_host (EndpointEvent.Str_comes of_size by_peer) = false
is_of_host EndpointEvent.Cls_comes = false
is_of_host EndpointEvent.Is_cleared = false
is_of_host what = true

pub moves : (pair : Pair) (what : EndpointEvent) (before : Option Endpoint) → is_of_host what ≡ true → SoundAt pair before → Moved (sends pair) pair before (happens pair what before).after (happens pair what before).made
moves pair (EndpointEvent.Asks_to_send of_size room own full) before h sound = asks_to_send pair of_size room own full before
moves pair (EndpointEvent.Asks_to_receive room on own full) before h sound = asks_to_receive pair room on own full before
moves pair (EndpointEvent.Closes full) None h sound = Silent refl refl
moves pair (EndpointEvent.Closes full) (Some e) h sound = closes (sends pair) pair e sound full
moves pair (EndpointEvent.Gives text) None h sound = Silent refl refl
moves pair (EndpointEvent.Gives text) (Some e) h sound = gives (sends pair) pair e sound text
moves pair (EndpointEvent.Takes bytes) None h sound = Silent refl refl
moves pair (EndpointEvent.Takes bytes) (Some e) h sound = takes_text (sends pair) pair e sound bytes
moves pair (EndpointEvent.Allocates messages bits full) None h sound = Silent refl refl
moves pair (EndpointEvent.Allocates messages bits full) (Some e) h sound = allocates (sends pair) pair e sound messages bits full
moves pair (EndpointEvent.Calls_back messages bits full) None h sound = Silent refl refl
moves pair (EndpointEvent.Calls_back messages bits full) (Some e) h sound = calls_back (sends pair) pair e sound messages bits full
moves pair (EndpointEvent.Interrupts full) None h sound = Silent refl refl
moves pair (EndpointEvent.Interrupts full) (Some e) h sound = interrupts (sends pair) pair e sound full
moves pair (EndpointEvent.All_comes on messages bits) before h sound = all_comes (sends pair) pair before sound on messages bits
moves pair (EndpointEvent.Gvb_comes on messages bits) before h sound = gvb_comes (sends pair) pair before sound on messages bits
moves pair (EndpointEvent.Ret_comes on messages bits) before h sound = ret_comes (sends pair) pair before sound on messages bits
moves pair (EndpointEvent.Inr_comes on) before h sound = inr_comes (sends pair) pair before sound on
moves pair (EndpointEvent.Ins_comes on) before h sound = ins_comes (sends pair) pair before sound on
moves pair (EndpointEvent.Text_comes head of_size text) before h sound = text_comes (sends pair) pair head text of_size before sound
moves pair EndpointEvent.Text_goes_out None h sound = Silent refl refl
moves pair EndpointEvent.Text_goes_out (Some e) h sound = text_goes (sends pair) pair e sound
moves pair (EndpointEvent.Is_answered Rfnm) None h sound = Silent refl refl
moves pair (EndpointEvent.Is_answered Rfnm) (Some e) h sound = taken (sends pair) pair e sound
moves pair (EndpointEvent.Is_answered Incomplete) before h sound = Silent refl refl
moves pair (EndpointEvent.Is_answered Dead) before h sound = Silent refl refl
moves pair what before h sound = absurd (cc h)
