-- What happens at a sender's end, as the pipe sees it.
use Rattle.std.proofs.Common.{◌≡◌, ◌≤◌, ℕ, zero, suc, ◌+◌, ◌-◌, ◌*◌, ◌/◌, min, Bool, true, false, not, ◌&&◌, ◌||◌, nat_lt, nat_le, if◌then◌else◌, List, [], ◌∷◌, ◌++◌, length, take, drop, Option, None, Some, Result, Ok, Err, refl, sym, ap, ◌∙◌, subst, arith}
use Rattle.std.proofs.lemmas.Bool.{both_ways}
use Rattle.std.proofs.Math.Nat.{min-le_left, div-zero, le-mul_of_pos_right}
use Rattle.ncp_model.specs.declared.limits.TheConstants.{MAX_TEXT}
use Rattle.std.proofs.lemmas.List.{append-nil}
use Rattle.std.specs.Option.{is_none}
use Rattle.ncp_model.specs.declared.limits.TheConstants.{MAX_BY_PEER, MAX_MESSAGES, MAX_AMOUNT, MAX_COUNT}
use Rattle.ncp_model.specs.declared.outcomes.Heard.TheVariants as heard
use Rattle.ncp_model.specs.Commands.{errs, wrong_rts, heard_link, hear_cls_at, at_open, all_at, gvb_at, ret_at, interrupted}
use Rattle.ncp_model.specs.Amounts.{back}
use Rattle.ncp_model.specs.declared.outcomes.Heard.{Heard}
use Rattle.ncp_model.specs.Effect.{wrong_parameters, not_connected}
use Rattle.ncp_wire.specs.declared.command.Command.TheVariants as commands
use Rattle.ncp_wire.specs.declared.command.Command.{Command}
use Rattle.ncp_wire.specs.declared.command.Command.TheVariants.{Str, Rts, Cls, All}
use Rattle.ncp_model.specs.declared.pair.Pair.{Pair}
use Rattle.ncp_model.specs.declared.call_fault.CallFault.{CallFault}
use Rattle.ncp_model.specs.Pairs.{sends, receives, is_proper}
use Rattle.ncp_model.specs.Endpoint.{Endpoint, or_new, is_closing, is_open as is_open-end, is_ended}
use Rattle.ncp_model.specs.Effect.{Effect, Becomes, Stays, end_after, leaves, closing, made_by_call, made_by_close}
use Rattle.ncp_model.specs.Calls.{unless_refused, may_ask_send, asked_to_send, may_close, may_give, may_take, may_allocate, may_call_back, may_interrupt, interrupting, take_bits, bits_to_take}
use Rattle.ncp_model.specs.Texts.{Answer, Rfnm, Incomplete, Dead, can_send, bytes_to_send, cut_bits}
use Rattle.ncp_model.specs.EndpointEvents.{EndpointEvent, Outcome, happens, of_cut, outcome_of_call, Transition, happened}
use Rattle.ncp_proof_endpoint.specs.Histories.{PairHistory, reopened, opens, is_outcome_accepted, EndpointWithHistory, watches}
use Rattle.ncp_proof_endpoint.specs.Sound.{SoundAt}
use Rattle.ncp_pipe.specs.Pipe.{Stage, Closed, Asked, Open, Closing, Step, is_on, is_open}
use Rattle.ncp_pipe.specs.Pipe as pipes
use Rattle.ncp_proof_pipe.specs.Views.{stage, sender_view, sender_step, if_accepted, is_of_sender, SenderDid, Sender_stayed, Sender_did_ask, Sender_did_ask_and_open, Sender_did_open, Sender_did_give, Sender_did_close, Sender_did_leave, Sender_did_leave_and_end, Sender_did_end, Sender_was_cut}

pub sends-only : (pair : Pair) → sends pair ≡ true → receives pair ≡ false
sends-only pair e = grind arith

sends-proper : (pair : Pair) → sends pair ≡ true → is_proper pair ≡ true
sends-proper pair e = grind arith

pub opens-self : (o : Option Endpoint) → opens o o ≡ false
opens-self None = refl
opens-self (Some e) = go e.opened
  where
    go : (b : Bool) → (not b && b) ≡ false
    go true = refl
    go false = refl

some-of : (a b : ℕ) → 1 ≤ a → (b ≡ 0 → ⊥) → 1 ≤ a * b
some-of a zero l n = absurd (n refl)
some-of a (suc b) l n = omega (arith, l, le-mul_of_pos_right {m = suc b} a (omega arith))

-- the given of a history that goes on
abbrev After : Option Endpoint → Option Endpoint → List Bool → List Bool
After s z given = if opens s z then [] else given

pub ask-free : (pair : Pair) (a b n : ℕ) (full : Bool) (o : Option Endpoint) → may_ask_send pair a b n full o ≡ Ok tt → ((or_new o).asked ≡ false) × ((or_new o).leaving ≡ false) × ((or_new o).left ≡ false)
ask-free pair a b n full None e = (refl, refl, refl)
ask-free pair a b n full (Some x) e = (grind arith, grind arith, grind arith)

pub unopened : (pair : Pair) (o : Option Endpoint) → SoundAt pair o → (or_new o).asked ≡ false → ((or_new o).opened ≡ false) × ((or_new o).stored ≡ [])
unopened pair None s a = (refl, refl)
unopened pair (Some e) s a = go e.opened refl
  where
    go : (b : Bool) → e.opened ≡ b → (e.opened ≡ false) × (e.stored ≡ [])
    go true o = absurd (both_ways e.asked a (s.asked o))
    go false o = (o, s.stored o)

pub off-stage : (o : Option Endpoint) → (or_new o).asked ≡ false → (or_new o).leaving ≡ false → (or_new o).left ≡ false → (or_new o).opened ≡ false → stage o ≡ Closed
off-stage None a b c d = refl
off-stage (Some e) a b c d = grind arith

module _ (pair : Pair) (sd : sends pair ≡ true) (given : List Bool) (what : EndpointEvent) where
  abbrev Did : Option Endpoint → Option Endpoint → List Step → Type 0
  Did s z users = SenderDid what (sender_view s) (sender_view z) given (After s z given) users

  stays : (s : Option Endpoint) → Did s s []
  stays s = Sender_stayed refl refl (rw (opens-self s) refl)

  -- one that is over is there no more
  over-not : (s : Option Endpoint) (x : Endpoint) (users : List Step) → is_ended x ≡ false → Did s (Some x) users → Did s (if is_ended x then None else Some x) users
  over-not s x users o d = subst (λ (b : Bool). Did s (if b then None else Some x) users) (sym o) d

  over-is : (s : Option Endpoint) (x : Endpoint) (users : List Step) → is_ended x ≡ true → Did s None users → Did s (if is_ended x then None else Some x) users
  over-is s x users o d = subst (λ (b : Bool). Did s (if b then None else Some x) users) (sym o) d

  -- an act that leaves all that counts
  alike : (e x : Endpoint) → x.asked ≡ e.asked → x.opened ≡ e.opened → x.leaving ≡ e.leaving → x.left ≡ e.left → x.stored ≡ e.stored → Did (Some e) (Some x) []
  alike e x a o l f w = Sender_stayed (rw (a, o, l, f) refl) (rw (a, o, l, f, w) refl) (rw o (rw (opens-self (Some e)) refl))

  pub asks : (s : Option Endpoint) (a b n : ℕ) (full : Bool) → SoundAt pair s
      → let did = happens pair (EndpointEvent.Asks_to_send a b n full) s in Did s did.after (if_accepted did.outcome pipes.Asks_to_send)
  asks s a b n full sound = go (may_ask_send pair a b n full s) refl
    where
      x : Endpoint
      x = asked_to_send a b (or_new s)

      go : (m : Result (Unit {0}) CallFault) → may_ask_send pair a b n full s ≡ m
          → let did = happened s (unless_refused m (Becomes (asked_to_send a b (or_new s)) (Ok (Str pair.local pair.remote a)))) made_by_call outcome_of_call in
          Did s did.after (if_accepted did.outcome pipes.Asks_to_send)
      go (Err f) e = stays s
      go (Ok _) e =
          let k = ask-free pair a b n full s e in
          let u = unopened pair s sound k.0 in
          heard (or_new s).heard refl k.1 k.2 u.0 (off-stage s k.0 k.1 k.2 u.0)
        where
          heard : (h : Bool) → (or_new s).heard ≡ h → (or_new s).leaving ≡ false → (or_new s).left ≡ false → (or_new s).opened ≡ false → stage s ≡ Closed
              → Did s (if is_ended (asked_to_send a b (or_new s)) then None else Some (asked_to_send a b (or_new s))) (pipes.Asks_to_send ∷ [])
          heard true h le lf op here = rw lf (Sender_did_ask_and_open here (grind arith) (grind arith))
          heard false h le lf op here = rw lf (Sender_did_ask here (grind arith) (grind arith))

  pub closes : (s : Option Endpoint) (full : Bool) → SoundAt pair s → let did = happens pair (EndpointEvent.Closes full) s in Did s did.after (if_accepted did.outcome pipes.Closes_sender)
  closes None full sound = stays None
  closes (Some e) full sound = go (may_close pair full e) refl
    where
      go : (m : Result (Unit {0}) CallFault) → may_close pair full e ≡ m
          → let did = happened (Some e) (unless_refused m (if sends pair && e.busy then Becomes (record e { leaving = true; stored = [] }) (Ok None) else Becomes (leaves e) (Ok (Some (closing pair))))) made_by_close outcome_of_call in
          Did (Some e) did.after (if_accepted did.outcome pipes.Closes_sender)
      go (Err f) k = stays (Some e)
      go (Ok _) k = rw sd (busy e.busy refl)
        where
          left : e.left ≡ false
          left = grind arith

          cls : e.cls ≡ false
          cls = go-cls e.cls refl
            where
              go-cls : (c : Bool) → e.cls ≡ c → c ≡ false
              go-cls false q = refl
              go-cls true q = let l = sound.shut q in absurd (grind arith)

          busy : (b : Bool) → e.busy ≡ b
              → let did = happened (Some e) (if b then Becomes (record e { leaving = true; stored = [] }) (Ok None) else Becomes (leaves e) (Ok (Some (closing pair)))) made_by_close outcome_of_call in
              Did (Some e) did.after (if_accepted did.outcome pipes.Closes_sender)
          busy true q = rw left (Sender_did_close (grind arith) (grind arith))
          busy false q = rw cls (Sender_did_close (grind arith) (grind arith))

  pub gives : (s : Option Endpoint) (text : List Bool) → SoundAt pair s
      → let did = happens pair (EndpointEvent.Gives text) s in
      SenderDid what (sender_view s) (sender_view did.after) given (After s did.after given ++ (if is_outcome_accepted did.outcome then text else [])) (if_accepted did.outcome (pipes.Gives text))
  gives None text sound = Sender_stayed refl refl (sym (append-nil given))
  gives (Some e) text sound = go (may_give pair text e) refl
    where
      go : (m : Result (Unit {0}) CallFault) → may_give pair text e ≡ m
          → let did : Transition = happened {A = Result (Unit {0}) CallFault} (Some e) (unless_refused {A = Unit {0}} m (Becomes (record e { stored = e.stored ++ text }) (Ok tt))) (λ _. []) outcome_of_call in
          SenderDid what (sender_view (Some e)) (sender_view did.after) given (After (Some e) did.after given ++ (if is_outcome_accepted did.outcome then text else [])) (if_accepted did.outcome (pipes.Gives text))
      go (Err f) k = Sender_stayed refl refl (rw (opens-self (Some e)) (sym (append-nil given)))
      go (Ok _) k =
          let open_it : is_open-end e ≡ true = grind arith in
          let opened : e.opened ≡ true = sound.opens open_it in
          let lf : e.left ≡ false = grind arith in
          let le : e.leaving ≡ false = grind arith in
          let x : Endpoint = record e { stored = e.stored ++ text } in
          subst (λ (b : Bool). SenderDid what (sender_view (Some e)) (sender_view (if b then None else Some x)) given (After (Some e) (if b then None else Some x) given ++ text) (pipes.Gives text ∷ [])) (sym sound.over)
          (Sender_did_give text (rw (le, lf, opened) refl) (rw (le, lf, opened) refl) (rw (le, lf, opened) refl) (rw opened refl))

  -- calls of a receiver

  pub no-ask : (s : Option Endpoint) (a b n : ℕ) (full : Bool) → Did s (happens pair (EndpointEvent.Asks_to_receive a b n full) s).after []
  no-ask s a b n full = rw (sends-only pair sd) (stays s)

  pub no-take : (s : Option Endpoint) (bytes : ℕ) → Did s (happens pair (EndpointEvent.Takes bytes) s).after []
  no-take None bytes = stays None
  no-take (Some e) bytes = go (may_take pair e) refl
    where
      go : (m : Result (Unit {0}) CallFault) → may_take pair e ≡ m → Did (Some e) (end_after (Some e) (unless_refused m (take_bits pair (bits_to_take bytes e) e))) []
      go (Err f) k = stays (Some e)
      go (Ok _) k = absurd (let r = sends-only pair sd in grind arith)

  pub no-allocation : (s : Option Endpoint) (a b : ℕ) (full : Bool) → Did s (happens pair (EndpointEvent.Allocates a b full) s).after []
  no-allocation None a b full = stays None
  no-allocation (Some e) a b full = go (may_allocate pair a b full e) refl
    where
      go : (m : Result (Unit {0}) CallFault) → may_allocate pair a b full e ≡ m
          → Did (Some e) (end_after (Some e) (unless_refused m (Becomes (record e { messages = e.messages + a; bits = e.bits + b }) (Ok (All e.link a b))))) []
      go (Err f) k = stays (Some e)
      go (Ok _) k = absurd (let r = sends-only pair sd in grind arith)

  pub no-call-back : (s : Option Endpoint) (a b : ℕ) (full : Bool) → Did s (happens pair (EndpointEvent.Calls_back a b full) s).after []
  no-call-back None a b full = stays None
  no-call-back (Some e) a b full = go (may_call_back pair full e) refl
    where
      go : (m : Result (Unit {0}) CallFault) → may_call_back pair full e ≡ m
          → Did (Some e) (end_after (Some e) (unless_refused m (Becomes (record e { recall = true }) (Ok (commands.Gvb e.link a b))))) []
      go (Err f) k = stays (Some e)
      go (Ok _) k = absurd (let r = sends-only pair sd in grind arith)

  pub interrupts : (s : Option Endpoint) (full : Bool) → SoundAt pair s → Did s (happens pair (EndpointEvent.Interrupts full) s).after []
  interrupts None full sound = stays None
  interrupts (Some e) full sound = go (may_interrupt full e)
    where
      go : (m : Result (Unit {0}) CallFault) → Did (Some e) (end_after (Some e) (unless_refused m (Becomes e (Ok (interrupting pair e))))) []
      go (Err f) = stays (Some e)
      go (Ok _) = rw (sound.over) (stays (Some e))

  -- what comes

  pub rts : (s : Option Endpoint) (on n : ℕ) (taken : Bool) → SoundAt pair s → Did s (happens pair (EndpointEvent.Rts_comes on taken n) s).after []
  rts s on n taken sound = go (wrong_rts pair on taken s) refl
    where
      go : (w : Bool) → wrong_rts pair on taken s ≡ w
          → Did s (end_after s (if w then errs wrong_parameters (Rts pair.remote pair.local on) else if is_none s && nat_le MAX_BY_PEER n then Stays heard.Full else Becomes (heard_link on (or_new s)) heard.Nothing)) []
      go true k = stays s
      go false k = full (is_none s && nat_le MAX_BY_PEER n)
        where
          unheard : (or_new s).heard ≡ false
          unheard = grind arith

          opened : (o : Option Endpoint) → SoundAt pair o → (or_new o).heard ≡ false → ((or_new o).opened ≡ false) × ((or_new o).stored ≡ [])
          opened None z h = (refl, refl)
          opened (Some e) z h = if-opened e.opened refl
            where
              if-opened : (b : Bool) → e.opened ≡ b → (e.opened ≡ false) × (e.stored ≡ [])
              if-opened true o = absurd (both_ways e.heard h (z.heard o))
              if-opened false o = (o, z.stored o)

          met-it : (o : Option Endpoint) → SoundAt pair o → (or_new o).opened ≡ false → (or_new o).stored ≡ [] → Did o (if is_ended (heard_link on (or_new o)) then None else Some (heard_link on (or_new o))) []
          met-it None z op w = Sender_stayed refl refl refl
          met-it (Some e) z op w = rw z.over (which e.asked e.leaving e.left refl refl refl)
            where
              which : (a le lf : Bool) → e.asked ≡ a → e.leaving ≡ le → e.left ≡ lf → Did (Some e) (Some (heard_link on e)) []
              which true false false p q r = Sender_did_open (rw (p, q, r, op) refl) (rw (p, q, r, op) refl) (rw (p, q, r, op) w) (rw (p, q, r, op) w)
              which false false false p q r = Sender_stayed (rw (p, q, r, op) refl) (rw (p, q, r, op) refl) (rw (op, p) refl)
              which a true lf p q r = Sender_stayed (rw q refl) (rw q refl) (rw op (grind arith))
              which a false true p q r = Sender_stayed (rw (q, r) refl) (rw (q, r) refl) (rw op (grind arith))

          full : (f : Bool) → Did s (end_after s (if f then Stays heard.Full else Becomes (heard_link on (or_new s)) heard.Nothing)) []
          full true = stays s
          full false = let u = opened s sound unheard in met-it s sound u.0 u.1

  pub no-str : (s : Option Endpoint) (size n : ℕ) → Did s (happens pair (EndpointEvent.Str_comes size n) s).after []
  no-str s size n = rw (sends-only pair sd) (stays s)

  pub cls : what ≡ EndpointEvent.Cls_comes → (s : Option Endpoint) → SoundAt pair s → Did s (happens pair EndpointEvent.Cls_comes s).after []
  cls is s sound = rw (sends-proper pair sd) (at-it s sound)
    where
      at-it : (s : Option Endpoint) → SoundAt pair s → Did s (end_after s (hear_cls_at pair s)) []
      at-it None z = stays None
      at-it (Some e) z = rw (sd, sends-only pair sd) (which e.cls e.left e.leaving e.busy refl refl refl refl)
        where
          new : e.opened ≡ false → e.stored ≡ []
          new op = z.stored op

          which : (c l v b : Bool) → e.cls ≡ c → e.left ≡ l → e.leaving ≡ v → e.busy ≡ b
              → Did (Some e) (end_after (Some e) (if c then errs wrong_parameters (Cls pair.remote pair.local)
              else if l || v then Becomes (record e { cls = true }) heard.Nothing
              else if b then Becomes (record e { cls = true; leaving = true; stored = [] }) heard.Nothing
              else Becomes (leaves (record e { cls = true })) (heard.Reply (closing pair)))) []
          which true l v b c x y w = stays (Some e)
          which false true v b c x y w = over-is (Some e) (record e { cls = true }) [] (rw x refl) (Sender_did_end (rw x (grind arith)) refl refl)
          which false false true b c x y w = over-not (Some e) (record e { cls = true }) [] (rw x refl) (alike e (record e { cls = true }) refl refl refl refl refl)
          which false false false true c x y w =
              let op : e.opened ≡ true = grind arith in
              over-not (Some e) (record e { cls = true; leaving = true; stored = [] }) [] (rw x refl) (Sender_did_leave is (rw (x, y, op) refl) refl refl)
          which false false false false c x y w = which-stage e.opened e.asked refl refl
            where
              which-stage : (o a : Bool) → e.opened ≡ o → e.asked ≡ a → Did (Some e) None []
              which-stage true a p q = Sender_did_leave_and_end is (rw (x, y, p) refl) refl refl
              which-stage false true p q = Sender_did_leave_and_end is (rw (x, y, p, q) refl) refl refl
              which-stage false false p q = Sender_stayed (rw (x, y, p, q) refl) (rw (x, y, p, q) refl) (rw p refl)

  -- what names a link changes nothing that counts
  linked : (s : Option Endpoint) (c : Command) (act : Endpoint → Effect Heard) → ((e : Endpoint) → e.left ≡ false → Did (Some e) (end_after (Some e) (act e)) []) → Did s (end_after s (at_open c act s)) []
  linked None c act k = stays None
  linked (Some e) c act k = go (is_closing e) e.opened refl
    where
      go : (g o : Bool) → is_closing e ≡ g → Did (Some e) (end_after (Some e) (if g then Stays heard.Late else if not o then errs not_connected c else act e)) []
      go true o q = stays (Some e)
      go false true q = k e (grind arith)
      go false false q = stays (Some e)

  counted : (e x : Endpoint) (h : Heard) → x.asked ≡ e.asked → x.opened ≡ e.opened → x.leaving ≡ e.leaving → x.left ≡ e.left → x.stored ≡ e.stored → e.left ≡ false → Did (Some e) (end_after (Some e) (Becomes x h)) []
  counted e x h a o v l w f = over-not (Some e) x [] (rw (l ∙ f) refl) (alike e x a o v l w)

  pub all : (s : Option Endpoint) (on a b : ℕ) → Did s (happens pair (EndpointEvent.All_comes on a b) s).after []
  all s on a b = linked s (All on a b) (all_at on a b) act
    where
      act : (e : Endpoint) → e.left ≡ false → Did (Some e) (end_after (Some e) (all_at on a b e)) []
      act e f = go (nat_lt MAX_MESSAGES (e.messages + a) || nat_lt MAX_AMOUNT (e.bits + b))
        where
          go : (t : Bool) → Did (Some e) (end_after (Some e) (if t then errs wrong_parameters (All on a b) else Becomes (record e { messages = e.messages + a; bits = e.bits + b }) heard.Nothing)) []
          go true = stays (Some e)
          go false = counted e (record e { messages = e.messages + a; bits = e.bits + b }) heard.Nothing refl refl refl refl refl f

  pub gvb : (s : Option Endpoint) (on a b : ℕ) → Did s (happens pair (EndpointEvent.Gvb_comes on a b) s).after []
  gvb s on a b = linked s (commands.Gvb on a b) (gvb_at on a b) (λ e f. counted e (record e { messages = e.messages - back e.messages a; bits = e.bits - back e.bits b }) (heard.Reply (commands.Ret on (back e.messages a) (back e.bits b))) refl refl refl refl refl f)

  pub ret : (s : Option Endpoint) (on a b : ℕ) → Did s (happens pair (EndpointEvent.Ret_comes on a b) s).after []
  ret s on a b = linked s (commands.Ret on a b) (ret_at on a b) act
    where
      act : (e : Endpoint) → e.left ≡ false → Did (Some e) (end_after (Some e) (ret_at on a b e)) []
      act e f = go (nat_lt e.messages a || nat_lt e.bits b)
        where
          go : (t : Bool) → Did (Some e) (end_after (Some e) (if t then errs wrong_parameters (commands.Ret on a b) else Becomes (record e { messages = e.messages - a; bits = e.bits - b; recall = false }) heard.Nothing)) []
          go true = stays (Some e)
          go false = counted e (record e { messages = e.messages - a; bits = e.bits - b; recall = false }) heard.Nothing refl refl refl refl refl f

  pub inr : (s : Option Endpoint) (on : ℕ) → Did s (happens pair (EndpointEvent.Inr_comes on) s).after []
  inr s on = linked s (commands.Inr on) interrupted (λ e f. counted e (record e { interrupts = min (e.interrupts + 1) MAX_COUNT }) heard.Nothing refl refl refl refl refl f)

  pub ins : (s : Option Endpoint) (on : ℕ) → Did s (happens pair (EndpointEvent.Ins_comes on) s).after []
  ins s on = linked s (commands.Ins on) interrupted (λ e f. counted e (record e { interrupts = min (e.interrupts + 1) MAX_COUNT }) heard.Nothing refl refl refl refl refl f)

  pub answered : (s : Option Endpoint) (how : Answer) → SoundAt pair s → Did s (happens pair (EndpointEvent.Is_answered how) s).after []
  answered None Rfnm sound = stays None
  answered (Some e) Rfnm sound = rw sd (go e.leaving e.cls refl refl)
    where
      go : (v c : Bool) → e.leaving ≡ v → e.cls ≡ c
          → Did (Some e) (end_after (Some e) (if v then Becomes (leaves (record e { busy = false })) (Some (closing pair)) else Becomes (record e { busy = false }) None)) []
      go true true v c = rw c (Sender_did_end (rw v refl) refl refl)
      go true false v c = rw c (Sender_stayed (rw v (grind arith)) (rw v (grind arith)) (rw (opens-self (Some e)) refl))
      go false c v q = rw sound.over (alike e (record e { busy = false }) refl refl refl refl refl)
  answered s Incomplete sound = stays s
  answered s Dead sound = stays s

  pub cleared : what ≡ EndpointEvent.Is_cleared → (s : Option Endpoint) → Did s None []
  cleared is s = Sender_was_cut is refl refl

-- with the history
module _ (pair : Pair) (sd : sends pair ≡ true) where
  abbrev DidAll : EndpointEvent → EndpointWithHistory → Type 0
  DidAll what w = SenderDid what (sender_view w.end) (sender_view (watches pair what w).end) w.past.given (watches pair what w).past.given (sender_step what (happens pair what w.end).outcome)

  given-of : (b : Bool) (past : PairHistory) → (if b then [] else past.given) ≡ (if b then reopened past else past).given
  given-of true past = refl
  given-of false past = refl

  same-given : (what : EndpointEvent) (s z : Option Endpoint) (past : PairHistory) (users : List Step) → Did pair sd past.given what s z users → SenderDid what (sender_view s) (sender_view z) past.given (if opens s z then reopened past else past).given users
  same-given what s z past users d = subst (λ (g : List Bool). SenderDid what (sender_view s) (sender_view z) past.given g users) (given-of (opens s z) past) d

  pub sender-did : (what : EndpointEvent) (w : EndpointWithHistory) → is_of_sender what ≡ true → SoundAt pair w.end → DidAll what w
  sender-did (EndpointEvent.Asks_to_send a b n full) w o z = same-given (EndpointEvent.Asks_to_send a b n full) w.end _ w.past _ (asks pair sd w.past.given (EndpointEvent.Asks_to_send a b n full) w.end a b n full z)
  sender-did (EndpointEvent.Asks_to_receive a b n full) w o z = same-given (EndpointEvent.Asks_to_receive a b n full) w.end _ w.past _ (no-ask pair sd w.past.given (EndpointEvent.Asks_to_receive a b n full) w.end a b n full)
  sender-did (EndpointEvent.Closes full) w o z = same-given (EndpointEvent.Closes full) w.end _ w.past _ (closes pair sd w.past.given (EndpointEvent.Closes full) w.end full z)
  sender-did (EndpointEvent.Gives text) w o z =
      let what = EndpointEvent.Gives text in
      subst (λ (g : List Bool). SenderDid what (sender_view w.end) (sender_view (watches pair what w).end) w.past.given (g ++ (if is_outcome_accepted (happens pair what w.end).outcome then text else [])) (sender_step what (happens pair what w.end).outcome)) (given-of (opens w.end (happens pair what w.end).after) w.past) (gives pair sd w.past.given what w.end text z)
  sender-did (EndpointEvent.Takes bytes) w o z = same-given (EndpointEvent.Takes bytes) w.end _ w.past _ (no-take pair sd w.past.given (EndpointEvent.Takes bytes) w.end bytes)
  sender-did (EndpointEvent.Allocates a b full) w o z = same-given (EndpointEvent.Allocates a b full) w.end _ w.past _ (no-allocation pair sd w.past.given (EndpointEvent.Allocates a b full) w.end a b full)
  sender-did (EndpointEvent.Calls_back a b full) w o z = same-given (EndpointEvent.Calls_back a b full) w.end _ w.past _ (no-call-back pair sd w.past.given (EndpointEvent.Calls_back a b full) w.end a b full)
  sender-did (EndpointEvent.Interrupts full) w o z = same-given (EndpointEvent.Interrupts full) w.end _ w.past _ (interrupts pair sd w.past.given (EndpointEvent.Interrupts full) w.end full z)
  sender-did (EndpointEvent.Rts_comes on taken n) w o z = same-given (EndpointEvent.Rts_comes on taken n) w.end _ w.past _ (rts pair sd w.past.given (EndpointEvent.Rts_comes on taken n) w.end on n taken z)
  sender-did (EndpointEvent.Str_comes size n) w o z = same-given (EndpointEvent.Str_comes size n) w.end _ w.past _ (no-str pair sd w.past.given (EndpointEvent.Str_comes size n) w.end size n)
  sender-did EndpointEvent.Cls_comes w o z = same-given EndpointEvent.Cls_comes w.end _ w.past _ (cls pair sd w.past.given EndpointEvent.Cls_comes refl w.end z)
  sender-did (EndpointEvent.All_comes on a b) w o z = same-given (EndpointEvent.All_comes on a b) w.end _ w.past _ (all pair sd w.past.given (EndpointEvent.All_comes on a b) w.end on a b)
  sender-did (EndpointEvent.Gvb_comes on a b) w o z = same-given (EndpointEvent.Gvb_comes on a b) w.end _ w.past _ (gvb pair sd w.past.given (EndpointEvent.Gvb_comes on a b) w.end on a b)
  sender-did (EndpointEvent.Ret_comes on a b) w o z = same-given (EndpointEvent.Ret_comes on a b) w.end _ w.past _ (ret pair sd w.past.given (EndpointEvent.Ret_comes on a b) w.end on a b)
  sender-did (EndpointEvent.Inr_comes on) w o z = same-given (EndpointEvent.Inr_comes on) w.end _ w.past _ (inr pair sd w.past.given (EndpointEvent.Inr_comes on) w.end on)
  sender-did (EndpointEvent.Ins_comes on) w o z = same-given (EndpointEvent.Ins_comes on) w.end _ w.past _ (ins pair sd w.past.given (EndpointEvent.Ins_comes on) w.end on)
  sender-did (EndpointEvent.Is_answered how) w o z = same-given (EndpointEvent.Is_answered how) w.end _ w.past _ (answered pair sd w.past.given (EndpointEvent.Is_answered how) w.end how z)
  sender-did EndpointEvent.Is_cleared w o z = same-given EndpointEvent.Is_cleared w.end None w.past [] (cleared pair sd w.past.given EndpointEvent.Is_cleared refl w.end)
  sender-did EndpointEvent.Text_goes_out w o z = absurd (cc o)
  sender-did (EndpointEvent.Text_comes head of_size text) w o z = absurd (cc o)

  -- a text goes out, of an open end that has none out; or none does
  pub data Went (s z : Option Endpoint) (out : Outcome) : Type 0 where
    Went_not : sender_view s ≡ sender_view z → out ≡ Outcome.Accepted → opens s z ≡ false → Went s z out
    Went_out : (size bits : ℕ) → (or_new s).busy ≡ false → stage s ≡ Open → stage z ≡ Open → 1 ≤ bits → bits ≤ length (or_new s).stored → (or_new z).stored ≡ drop bits (or_new s).stored
        → out ≡ Outcome.Sent size (take bits (or_new s).stored) → opens s z ≡ false → Went s z out

  pub went : (s : Option Endpoint) → SoundAt pair s → Went s (happens pair EndpointEvent.Text_goes_out s).after (happens pair EndpointEvent.Text_goes_out s).outcome
  went None z = Went_not refl refl refl
  went (Some e) z = go (can_send pair e) refl
    where
      count : ℕ
      count = bytes_to_send e * e.size

      go : (b : Bool) → can_send pair e ≡ b
          → let did = happened (Some e) (if b then cut_bits (bytes_to_send e * e.size) e else Stays None) (λ _. []) of_cut in Went (Some e) did.after did.outcome
      go false k = Went_not refl refl (opens-self (Some e))
      go true k =
          let open_it : is_open-end e ≡ true = grind arith in
          let free : e.busy ≡ false = grind arith in
          let some : 1 ≤ bytes_to_send e = grind arith in
          let op : e.opened ≡ true = z.opens open_it in
          let lf : e.left ≡ false = grind arith in
          let le : e.leaving ≡ false = grind arith in
          let x : Endpoint = record e { messages = e.messages - 1; bits = e.bits - count; stored = drop count e.stored; busy = true } in
          let size : e.size ≡ 0 → ⊥ = sized some in
          subst (λ (b : Bool). Went (Some e) (if b then None else Some x) (Outcome.Sent e.size (take count e.stored))) (sym z.over)
          (Went_out e.size count free (rw (le, lf, op) refl) (rw (le, lf, op) refl) (at-least some size) (at-most) refl refl (opens-self (Some e)))
        where
          bytes : ℕ
          bytes = length e.stored / e.size

          sized : 1 ≤ bytes_to_send e → e.size ≡ 0 → ⊥
          sized l q = absurd (omega (arith, l, min-le_left (length e.stored / e.size) (min (e.bits / e.size) (MAX_TEXT / e.size)), ap (λ (n : ℕ). length e.stored / n) q, div-zero (length e.stored)))

          at-least : 1 ≤ bytes_to_send e → (e.size ≡ 0 → ⊥) → 1 ≤ count
          at-least l n = some-of (bytes_to_send e) e.size l n

          at-most : count ≤ length e.stored
          at-most = grind arith
