-- What happens at a receiver's end, as the pipe sees it.
use Rattle.std.proofs.Common.{◌≡◌, ◌≤◌, ℕ, ◌+◌, ◌-◌, ◌==◌, min, Bool, true, false, not, ◌&&◌, ◌||◌, nat_lt, nat_le, if◌then◌else◌, List, [], ◌∷◌, ◌++◌, length, take, drop, Option, None, Some, Result, Ok, Err, refl, sym, ap, ◌∙◌, subst, arith}
use Rattle.std.proofs.lemmas.Bool.{both_ways, eqb-true}
use Rattle.std.proofs.lemmas.List.{append-nil, take-append-drop}
use Rattle.std.specs.Prelude.{is_none}
use Rattle.ncp_wire.specs.declared.command.Command.{Command}
use Rattle.ncp_wire.specs.declared.command.Command.TheVariants.{Str, Rts, Cls, All}
use Rattle.ncp_wire.specs.declared.command.Command.TheVariants as commands
use Rattle.ncp_model.specs.declared.pair.Pair.{Pair}
use Rattle.ncp_model.specs.declared.call_fault.CallFault.{CallFault}
use Rattle.ncp_model.specs.declared.limits.TheConstants.{MAX_BY_PEER, MAX_COUNT}
use Rattle.ncp_model.specs.declared.outcomes.Heard.{Heard}
use Rattle.ncp_model.specs.declared.outcomes.Heard.TheVariants as heard
use Rattle.ncp_model.specs.declared.outcomes.Took.TheVariants as took
use Rattle.ncp_model.specs.Pairs.{sends, receives, is_proper}
use Rattle.ncp_model.specs.Endpoint.{Endpoint, or_new, is_closing, is_open as is_open-end, is_ended}
use Rattle.ncp_model.specs.Effect.{Effect, Becomes, Stays, end_after, leaves, closing, made_by_call, made_by_close, made_by_take, wrong_parameters, not_connected}
use Rattle.ncp_model.specs.Calls.{unless_refused, may_ask_receive, asked_to_receive, may_close, may_give, may_take, may_allocate, may_call_back, may_interrupt, interrupting, take_bits, bits_to_take, emptied}
use Rattle.ncp_model.specs.Commands.{errs, wrong_str, heard_size, hear_cls_at, at_open, ret_at, interrupted}
use Rattle.ncp_model.specs.Texts.{Answer, Rfnm, Incomplete, Dead, made_by_text}
use Rattle.ncp_model.specs.EndpointEvents.{EndpointEvent, Outcome, happens, outcome_of_call, outcome_of_text, of_take, happened, is_violation}
use Rattle.ncp_proof_endpoint.specs.Sound.{SoundAt, SoundEnd}
use Rattle.ncp_pipe.specs.Pipe.{Stage, Closed, Asked, Open, Closing, Step, is_on, is_open}
use Rattle.ncp_pipe.specs.Pipe as pipes
use Rattle.ncp_proof_pipe.specs.Views.{stage, receiver_view, receiver_step, if_accepted, if_took, is_of_receiver, ReceiverDid, Receiver_stayed, Receiver_did_ask, Receiver_did_ask_and_open, Receiver_did_open, Receiver_did_take, Receiver_did_take_and_end, Receiver_did_allow, Receiver_did_call_back, Receiver_did_return, Receiver_did_close, Receiver_did_close_and_end, Receiver_did_leave, Receiver_did_leave_and_end, Receiver_did_end, Receiver_was_cut}

pub receives-only : (pair : Pair) → receives pair ≡ true → sends pair ≡ false
receives-only pair e = grind arith

receives-proper : (pair : Pair) → receives pair ≡ true → is_proper pair ≡ true
receives-proper pair e = grind arith

ask-free : (pair : Pair) (b n : ℕ) (full : Bool) (o : Option Endpoint) → may_ask_receive pair b n full o ≡ Ok tt → ((or_new o).asked ≡ false) × ((or_new o).leaving ≡ false) × ((or_new o).left ≡ false)
ask-free pair b n full None e = (refl, refl, refl)
ask-free pair b n full (Some x) e = (grind arith, grind arith, grind arith)

unopened-by : (pair : Pair) (e : Endpoint) → SoundEnd pair e → (test : Bool) → (e.opened ≡ true → test ≡ true) → test ≡ false → (e.opened ≡ false) × (e.stored ≡ []) × (e.bits ≡ 0)
unopened-by pair e s test t f = go e.opened refl
  where
    go : (b : Bool) → e.opened ≡ b → (e.opened ≡ false) × (e.stored ≡ []) × (e.bits ≡ 0)
    go true o = absurd (both_ways test f (t o))
    go false o = (o, s.stored o, s.bits o)

off-stage : (o : Option Endpoint) → (or_new o).asked ≡ false → (or_new o).leaving ≡ false → (or_new o).left ≡ false → (or_new o).opened ≡ false → stage o ≡ Closed
off-stage None a b c d = refl
off-stage (Some e) a b c d = grind arith

module _ (pair : Pair) (rd : receives pair ≡ true) (what : EndpointEvent) where
  abbrev Did : Option Endpoint → Option Endpoint → List Step → Type 0
  Did r z users = ReceiverDid what (receiver_view r) (receiver_view z) users

  stays : (r : Option Endpoint) → Did r r []
  stays r = Receiver_stayed refl

  over-not : (s : Option Endpoint) (x : Endpoint) (users : List Step) → is_ended x ≡ false → Did s (Some x) users → Did s (if is_ended x then None else Some x) users
  over-not s x users o d = subst (λ (b : Bool). Did s (if b then None else Some x) users) (sym o) d

  over-is : (s : Option Endpoint) (x : Endpoint) (users : List Step) → is_ended x ≡ true → Did s None users → Did s (if is_ended x then None else Some x) users
  over-is s x users o d = subst (λ (b : Bool). Did s (if b then None else Some x) users) (sym o) d

  alike : (e x : Endpoint) → x.asked ≡ e.asked → x.opened ≡ e.opened → x.leaving ≡ e.leaving → x.left ≡ e.left → x.stored ≡ e.stored → x.bits ≡ e.bits → Did (Some e) (Some x) []
  alike e x a o l f w b = Receiver_stayed (rw (a, o, l, f, w, b) refl)

  pub asks : (s : Option Endpoint) (b on n : ℕ) (full : Bool) → SoundAt pair s
      → let did = happens pair (EndpointEvent.Asks_to_receive b on n full) s in Did s did.after (if_accepted did.outcome pipes.Asks_to_receive)
  asks s b on n full sound = go (may_ask_receive pair b n full s) refl
    where
      go : (m : Result (Unit {0}) CallFault) → may_ask_receive pair b n full s ≡ m
          → let did = happened s (unless_refused m (Becomes (asked_to_receive on b (or_new s)) (Ok (Rts pair.local pair.remote on)))) made_by_call outcome_of_call in
          Did s did.after (if_accepted did.outcome pipes.Asks_to_receive)
      go (Err f) e = stays s
      go (Ok _) e =
          let k = ask-free pair b n full s e in
          let u = new s sound k.0 in
          heard (or_new s).heard refl k.1 k.2 u.0 u.2 (off-stage s k.0 k.1 k.2 u.0)
        where
          new : (o : Option Endpoint) → SoundAt pair o → (or_new o).asked ≡ false → ((or_new o).opened ≡ false) × ((or_new o).stored ≡ []) × ((or_new o).bits ≡ 0)
          new None z a = (refl, refl, refl)
          new (Some x) z a = unopened-by pair x z x.asked z.asked a

          heard : (h : Bool) → (or_new s).heard ≡ h → (or_new s).leaving ≡ false → (or_new s).left ≡ false → (or_new s).opened ≡ false → (or_new s).bits ≡ 0 → stage s ≡ Closed
              → Did s (if is_ended (asked_to_receive on b (or_new s)) then None else Some (asked_to_receive on b (or_new s))) (pipes.Asks_to_receive ∷ [])
          heard true h le lf op zero here = over-not s (asked_to_receive on b (or_new s)) _ (rw lf refl) (Receiver_did_ask_and_open here (rw (le, lf, op, h, zero) refl))
          heard false h le lf op zero here = over-not s (asked_to_receive on b (or_new s)) _ (rw lf refl) (Receiver_did_ask here (rw (le, lf, op, h, zero) refl))

  pub closes : (s : Option Endpoint) (full : Bool) → SoundAt pair s → let did = happens pair (EndpointEvent.Closes full) s in Did s did.after (if_accepted did.outcome pipes.Closes_receiver)
  closes None full sound = stays None
  closes (Some e) full sound = go (may_close pair full e) refl
    where
      go : (m : Result (Unit {0}) CallFault) → may_close pair full e ≡ m
          → let did = happened (Some e) (unless_refused m (if sends pair && e.busy then Becomes (record e { leaving = true; stored = [] }) (Ok None) else Becomes (leaves e) (Ok (Some (closing pair))))) made_by_close outcome_of_call in
          Did (Some e) did.after (if_accepted did.outcome pipes.Closes_receiver)
      go (Err f) k = stays (Some e)
      go (Ok _) k = rw (receives-only pair rd) (over e.cls refl)
        where
          over : (c : Bool) → e.cls ≡ c → Did (Some e) (if c then None else Some (leaves e)) (pipes.Closes_receiver ∷ [])
          over true c = Receiver_did_close_and_end refl
          over false c = Receiver_did_close refl

  pub no-give : (s : Option Endpoint) (text : List Bool) → Did s (happens pair (EndpointEvent.Gives text) s).after []
  no-give None text = stays None
  no-give (Some e) text = go (may_give pair text e) refl
    where
      go : (m : Result (Unit {0}) CallFault) → may_give pair text e ≡ m → Did (Some e) (end_after (Some e) (unless_refused {A = Unit {0}} m (Becomes (record e { stored = e.stored ++ text }) (Ok tt)))) []
      go (Err f) k = stays (Some e)
      go (Ok _) k = absurd (let s = receives-only pair rd in grind arith)

  pub no-ask : (s : Option Endpoint) (a b n : ℕ) (full : Bool) → Did s (happens pair (EndpointEvent.Asks_to_send a b n full) s).after []
  no-ask s a b n full = rw (receives-only pair rd) (stays s)

  pub takes : (s : Option Endpoint) (bytes : ℕ) → SoundAt pair s → let did = happens pair (EndpointEvent.Takes bytes) s in Did s did.after (if_took did.outcome)
  takes None bytes sound = stays None
  takes (Some e) bytes sound = go (may_take pair e) refl
    where
      count : ℕ
      count = bits_to_take bytes e

      go : (m : Result (Unit {0}) CallFault) → may_take pair e ≡ m → let did = happened (Some e) (unless_refused m (take_bits pair (bits_to_take bytes e) e)) made_by_take of_take in Did (Some e) did.after (if_took did.outcome)
      go (Err f) k = stays (Some e)
      go (Ok _) k = all (e.leaving && emptied e count) refl
        where
          whole : e.stored ≡ take count e.stored ++ drop count e.stored
          whole = sym (take-append-drop count e.stored)

          none : (xs : List Bool) → (length xs == 0) ≡ true → xs ≡ []
          none [] q = refl
          none (x ∷ xs) q = absurd (omega (arith, eqb-true (length (x ∷ xs)) 0 q))

          all : (b : Bool) → (e.leaving && emptied e count) ≡ b
              → let did = happened (Some e) (if b then Becomes (leaves e) (Ok (take count e.stored, Some (closing pair))) else Becomes (record e { stored = drop count e.stored }) (Ok (take count e.stored, None))) made_by_take of_take in
              Did (Some e) did.after (if_took did.outcome)
          all false q = over-not (Some e) (record e { stored = drop count e.stored }) _ sound.over (Receiver_did_take (take count e.stored) (drop count e.stored) whole refl)
          all true q =
              let le : e.leaving ≡ true = grind arith in
              let em : (length (drop count e.stored) == 0) ≡ true = grind arith in
              let rest : drop count e.stored ≡ [] = none (drop count e.stored) em in
              over e.cls le (whole ∙ ap (λ (l : List Bool). take count e.stored ++ l) rest)
            where
              over : (c : Bool) → e.leaving ≡ true → e.stored ≡ take count e.stored ++ [] → Did (Some e) (if c then None else Some (leaves e)) (pipes.Takes (take count e.stored) ∷ [])
              over true le w = Receiver_did_take_and_end (take count e.stored) (rw le refl) (w ∙ append-nil (take count e.stored)) refl
              over false le w = Receiver_did_take (take count e.stored) [] w (rw le refl)

  pub allocates : (s : Option Endpoint) (a b : ℕ) (full : Bool) → SoundAt pair s → let did = happens pair (EndpointEvent.Allocates a b full) s in Did s did.after (if_accepted did.outcome (pipes.Allows b))
  allocates None a b full sound = stays None
  allocates (Some e) a b full sound = go (may_allocate pair a b full e) refl
    where
      x : Endpoint
      x = record e { messages = e.messages + a; bits = e.bits + b }

      go : (m : Result (Unit {0}) CallFault) → may_allocate pair a b full e ≡ m
          → let did = happened (Some e) (unless_refused m (Becomes (record e { messages = e.messages + a; bits = e.bits + b }) (Ok (All e.link a b)))) made_by_call outcome_of_call in
          Did (Some e) did.after (if_accepted did.outcome (pipes.Allows b))
      go (Err f) k = stays (Some e)
      go (Ok _) k =
          let open_it : is_open-end e ≡ true = grind arith in
          let op : e.opened ≡ true = sound.opens open_it in
          let lf : e.left ≡ false = grind arith in
          let le : e.leaving ≡ false = grind arith in
          over-not (Some e) x _ sound.over (Receiver_did_allow b (rw (le, lf, op) refl) (rw (le, lf, op) refl))

  pub calls-back : (s : Option Endpoint) (a b : ℕ) (full : Bool) → SoundAt pair s → let did = happens pair (EndpointEvent.Calls_back a b full) s in Did s did.after (if_accepted did.outcome pipes.Calls_back)
  calls-back None a b full sound = stays None
  calls-back (Some e) a b full sound = go (may_call_back pair full e) refl
    where
      go : (m : Result (Unit {0}) CallFault) → may_call_back pair full e ≡ m
          → let did = happened (Some e) (unless_refused m (Becomes (record e { recall = true }) (Ok (commands.Gvb e.link a b)))) made_by_call outcome_of_call in
          Did (Some e) did.after (if_accepted did.outcome pipes.Calls_back)
      go (Err f) k = stays (Some e)
      go (Ok _) k =
          let open_it : is_open-end e ≡ true = grind arith in
          let op : e.opened ≡ true = sound.opens open_it in
          let lf : e.left ≡ false = grind arith in
          let le : e.leaving ≡ false = grind arith in
          over-not (Some e) (record e { recall = true }) _ sound.over (Receiver_did_call_back (rw (le, lf, op) refl) refl)

  pub interrupts : (s : Option Endpoint) (full : Bool) → SoundAt pair s → Did s (happens pair (EndpointEvent.Interrupts full) s).after []
  interrupts None full sound = stays None
  interrupts (Some e) full sound = go (may_interrupt full e)
    where
      go : (m : Result (Unit {0}) CallFault) → Did (Some e) (end_after (Some e) (unless_refused m (Becomes e (Ok (interrupting pair e))))) []
      go (Err f) = stays (Some e)
      go (Ok _) = over-not (Some e) e [] sound.over (stays (Some e))

  pub no-rts : (s : Option Endpoint) (on n : ℕ) (taken : Bool) → Did s (happens pair (EndpointEvent.Rts_comes on taken n) s).after []
  no-rts s on n taken = rw (receives-only pair rd) (stays s)

  pub str : (s : Option Endpoint) (size n : ℕ) → SoundAt pair s → Did s (happens pair (EndpointEvent.Str_comes size n) s).after []
  str s size n sound = go (wrong_str pair size s) refl
    where
      go : (w : Bool) → wrong_str pair size s ≡ w
          → Did s (end_after s (if w then errs wrong_parameters (Str pair.remote pair.local size) else if is_none s && nat_le MAX_BY_PEER n then Stays heard.Full else Becomes (heard_size size (or_new s)) heard.Nothing)) []
      go true k = stays s
      go false k = full (is_none s && nat_le MAX_BY_PEER n)
        where
          unheard : (or_new s).heard ≡ false
          unheard = grind arith

          met-it : (o : Option Endpoint) → SoundAt pair o → (or_new o).heard ≡ false → Did o (if is_ended (heard_size size (or_new o)) then None else Some (heard_size size (or_new o))) []
          met-it None z h = stays None
          met-it (Some e) z h = let u = unopened-by pair e z e.heard z.heard h in over-not (Some e) (heard_size size e) [] z.over (which e.asked e.leaving e.left refl refl refl u.0)
            where
              which : (a le lf : Bool) → e.asked ≡ a → e.leaving ≡ le → e.left ≡ lf → e.opened ≡ false → Did (Some e) (Some (heard_size size e)) []
              which true false false p q r op = Receiver_did_open (rw (p, q, r, op) refl) (rw (p, q, r, op) refl)
              which false false false p q r op = Receiver_stayed (rw (p, q, r, op) refl)
              which a true lf p q r op = Receiver_stayed (rw q refl)
              which a false true p q r op = Receiver_stayed (rw (q, r) refl)

          full : (f : Bool) → Did s (end_after s (if f then Stays heard.Full else Becomes (heard_size size (or_new s)) heard.Nothing)) []
          full true = stays s
          full false = met-it s sound unheard

  pub cls : what ≡ EndpointEvent.Cls_comes → (s : Option Endpoint) → SoundAt pair s → Did s (happens pair EndpointEvent.Cls_comes s).after []
  cls is s sound = rw (receives-proper pair rd) (at-it s sound)
    where
      at-it : (s : Option Endpoint) → SoundAt pair s → Did s (end_after s (hear_cls_at pair s)) []
      at-it None z = stays None
      at-it (Some e) z = rw (receives-only pair rd, rd) (which e.cls e.left e.leaving (nat_lt 0 (length e.stored)) refl refl refl refl)
        where
          which : (c l v b : Bool) → e.cls ≡ c → e.left ≡ l → e.leaving ≡ v → nat_lt 0 (length e.stored) ≡ b
              → Did (Some e) (end_after (Some e) (if c then errs wrong_parameters (Cls pair.remote pair.local)
              else if l || v then Becomes (record e { cls = true }) heard.Nothing
              else if b then Becomes (record e { cls = true; leaving = true }) heard.Nothing
              else Becomes (leaves (record e { cls = true })) (heard.Reply (closing pair)))) []
          which true l v b c x y w = stays (Some e)
          which false true v b c x y w = over-is (Some e) (record e { cls = true }) [] (rw x refl) (Receiver_did_end (rw x (grind arith)) refl)
          which false false true b c x y w = over-not (Some e) (record e { cls = true }) [] (rw x refl) (alike e (record e { cls = true }) refl refl refl refl refl refl)
          which false false false true c x y w =
              let op : e.opened ≡ true = held e.opened refl in
              over-not (Some e) (record e { cls = true; leaving = true }) [] (rw x refl) (Receiver_did_leave is (rw (x, y, op) refl) refl)
            where
              held : (o : Bool) → e.opened ≡ o → o ≡ true
              held true q = refl
              held false q = absurd (both_ways (nat_lt 0 (length e.stored)) (ap (λ (l : List Bool). nat_lt 0 (length l)) (z.stored q)) w)
          which false false false false c x y w = which-stage e.opened e.asked refl refl
            where
              which-stage : (o a : Bool) → e.opened ≡ o → e.asked ≡ a → Did (Some e) None []
              which-stage true a p q = Receiver_did_leave_and_end is (rw (x, y, p) refl) refl
              which-stage false true p q = Receiver_did_leave_and_end is (rw (x, y, p, q) refl) refl
              which-stage false false p q = Receiver_stayed (rw (x, y, p, q, z.stored p) refl)

  linked : (s : Option Endpoint) (c : Command) (act : Endpoint → Effect Heard) → ((e : Endpoint) → SoundAt pair (Some e) → e.left ≡ false → e.leaving ≡ false → e.opened ≡ true → Did (Some e) (end_after (Some e) (act e)) []) → SoundAt pair s → Did s (end_after s (at_open c act s)) []
  linked None c act k z = stays None
  linked (Some e) c act k z = go (is_closing e) e.opened refl refl
    where
      go : (g o : Bool) → is_closing e ≡ g → e.opened ≡ o → Did (Some e) (end_after (Some e) (if g then Stays heard.Late else if not o then errs not_connected c else act e)) []
      go true o q p = stays (Some e)
      go false true q p = k e z (grind arith) (grind arith) p
      go false false q p = stays (Some e)

  pub ret : (s : Option Endpoint) (on a b : ℕ) → SoundAt pair s → Did s (happens pair (EndpointEvent.Ret_comes on a b) s).after []
  ret s on a b sound = linked s (commands.Ret on a b) (ret_at on a b) act sound
    where
      act : (e : Endpoint) → SoundAt pair (Some e) → e.left ≡ false → e.leaving ≡ false → e.opened ≡ true → Did (Some e) (end_after (Some e) (ret_at on a b e)) []
      act e z f v o = go (nat_lt e.messages a || nat_lt e.bits b) refl
        where
          x : Endpoint
          x = record e { messages = e.messages - a; bits = e.bits - b; recall = false }

          go : (t : Bool) → (nat_lt e.messages a || nat_lt e.bits b) ≡ t → Did (Some e) (end_after (Some e) (if t then errs wrong_parameters (commands.Ret on a b) else Becomes (record e { messages = e.messages - a; bits = e.bits - b; recall = false }) heard.Nothing)) []
          go true q = stays (Some e)
          go false q =
              let l : b ≤ e.bits = grind arith in
              over-not (Some e) x [] z.over (Receiver_did_return b (rw (f, v, o) l) (rw (f, v, o) refl))

  pub ins : (s : Option Endpoint) (on : ℕ) → SoundAt pair s → Did s (happens pair (EndpointEvent.Ins_comes on) s).after []
  ins s on sound = linked s (commands.Ins on) interrupted (λ e z f v o. over-not (Some e) (record e { interrupts = min (e.interrupts + 1) MAX_COUNT }) [] z.over (alike e (record e { interrupts = min (e.interrupts + 1) MAX_COUNT }) refl refl refl refl refl refl)) sound

  pub no-answer : (s : Option Endpoint) (how : Answer) → Did s (happens pair (EndpointEvent.Is_answered how) s).after []
  no-answer None Rfnm = stays None
  no-answer (Some e) Rfnm = rw (receives-only pair rd) (stays (Some e))
  no-answer s Incomplete = stays s
  no-answer s Dead = stays s

  pub cleared : what ≡ EndpointEvent.Is_cleared → (s : Option Endpoint) → Did s None []
  cleared is s = Receiver_was_cut is refl

module _ (pair : Pair) (rd : receives pair ≡ true) where
  -- a text comes in, or passes
  pub data Came (r z : Option Endpoint) (text : List Bool) (out : Outcome) : Type 0 where
    Came_in : stage r ≡ Open → length text ≤ (receiver_view r).bits → receiver_view z ≡ record (receiver_view r) { stored = (receiver_view r).stored ++ text; bits = (receiver_view r).bits - length text } → Came r z text out
    Passed : receiver_view r ≡ receiver_view z → (is_violation out ≡ false → is_open (stage r) ≡ false) → Came r z text out

  pub came : (s : Option Endpoint) (head : List Bool) (size : ℕ) (text : List Bool) → SoundAt pair s → let did = happens pair (EndpointEvent.Text_comes head size text) s in Came s did.after text did.outcome
  came None head size text z = Passed refl (λ v. refl)
  came (Some e) head size text z = go (is_closing e) e.opened (not (size == e.size)) (e.messages == 0 || nat_lt e.bits (length text)) refl refl refl
    where
      x : Endpoint
      x = record e { messages = e.messages - 1; bits = e.bits - length text; stored = e.stored ++ text }

      go : (g o w v : Bool) → is_closing e ≡ g → e.opened ≡ o → (e.messages == 0 || nat_lt e.bits (length text)) ≡ v
          → let did = happened (Some e) (if g then Stays took.Late else if not o then Stays took.NotOpen else if w then Stays took.WrongSize else if v then Stays took.Over else Becomes (record e { messages = e.messages - 1; bits = e.bits - length text; stored = e.stored ++ text }) took.Admitted) (made_by_text head text) outcome_of_text in
          Came (Some e) did.after text did.outcome
      go true o w v p q r = Passed refl (λ k. rw p refl)
      go false false w v p q r = Passed refl (λ k. absurd (cc k))
      go false true true v p q r = Passed refl (λ k. absurd (cc k))
      go false true false true p q r = Passed refl (λ k. absurd (cc k))
      go false true false false p q r =
          let l : length text ≤ e.bits = grind arith in
          let lf : e.left ≡ false = grind arith in
          let le : e.leaving ≡ false = grind arith in
          subst (λ (b : Bool). Came (Some e) (if b then None else Some x) text Outcome.Admitted) (sym z.over)
          (Came_in (rw (lf, le, q) refl) (rw (lf, le, q) l) (rw (lf, le, q) refl))

pub receiver-did : (pair : Pair) → receives pair ≡ true → (what : EndpointEvent) (s : Option Endpoint) → is_of_receiver what ≡ true → SoundAt pair s
    → ReceiverDid what (receiver_view s) (receiver_view (happens pair what s).after) (receiver_step what (happens pair what s).outcome)
receiver-did pair rd (EndpointEvent.Asks_to_send a b n full) s o z = no-ask pair rd (EndpointEvent.Asks_to_send a b n full) s a b n full
receiver-did pair rd (EndpointEvent.Asks_to_receive b on n full) s o z = asks pair rd (EndpointEvent.Asks_to_receive b on n full) s b on n full z
receiver-did pair rd (EndpointEvent.Closes full) s o z = closes pair rd (EndpointEvent.Closes full) s full z
receiver-did pair rd (EndpointEvent.Gives text) s o z = no-give pair rd (EndpointEvent.Gives text) s text
receiver-did pair rd (EndpointEvent.Takes bytes) s o z = takes pair rd (EndpointEvent.Takes bytes) s bytes z
receiver-did pair rd (EndpointEvent.Allocates a b full) s o z = allocates pair rd (EndpointEvent.Allocates a b full) s a b full z
receiver-did pair rd (EndpointEvent.Calls_back a b full) s o z = calls-back pair rd (EndpointEvent.Calls_back a b full) s a b full z
receiver-did pair rd (EndpointEvent.Interrupts full) s o z = interrupts pair rd (EndpointEvent.Interrupts full) s full z
receiver-did pair rd (EndpointEvent.Rts_comes on taken n) s o z = no-rts pair rd (EndpointEvent.Rts_comes on taken n) s on n taken
receiver-did pair rd (EndpointEvent.Str_comes size n) s o z = str pair rd (EndpointEvent.Str_comes size n) s size n z
receiver-did pair rd EndpointEvent.Cls_comes s o z = cls pair rd EndpointEvent.Cls_comes refl s z
receiver-did pair rd (EndpointEvent.Ret_comes on a b) s o z = ret pair rd (EndpointEvent.Ret_comes on a b) s on a b z
receiver-did pair rd (EndpointEvent.Ins_comes on) s o z = ins pair rd (EndpointEvent.Ins_comes on) s on z
receiver-did pair rd (EndpointEvent.Is_answered how) s o z = no-answer pair rd (EndpointEvent.Is_answered how) s how
receiver-did pair rd EndpointEvent.Is_cleared s o z = cleared pair rd EndpointEvent.Is_cleared refl s
receiver-did pair rd (EndpointEvent.All_comes on a b) s o z = absurd (cc o)
receiver-did pair rd (EndpointEvent.Gvb_comes on a b) s o z = absurd (cc o)
receiver-did pair rd (EndpointEvent.Inr_comes on) s o z = absurd (cc o)
receiver-did pair rd EndpointEvent.Text_goes_out s o z = absurd (cc o)
receiver-did pair rd (EndpointEvent.Text_comes head of_size text) s o z = absurd (cc o)
