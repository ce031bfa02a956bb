-- What became of an end is steps of the pipe.
use Rattle.std.proofs.Common.{◌≡◌, ◌≤◌, ℕ, suc, ◌+◌, ◌-◌, Bool, true, false, if◌then◌else◌, List, [], ◌∷◌, ◌++◌, length, take, drop, refl, sym, ap, ◌∙◌, subst, arith}
use Rattle.std.proofs.lemmas.List.{append-nil, length-append, take-append-drop, length-drop}
use Rattle.ncp_model.specs.EndpointEvents.{EndpointEvent}
use Rattle.ncp_pipe.specs.Pipe.{Stage, Closed, Asked, Open, Closing, Pipe, Step, is_on, is_open, IsStep, IsRun, without_sender, without_receiver}
use Rattle.ncp_pipe.specs.Pipe as pipes
use Rattle.ncp_proof_pipe.specs.Views.{EndView, pipe_of_views, FreshAt, SenderDid, ReceiverDid, Moves, Receiver_did_allow, Receiver_did_ask, Receiver_did_ask_and_open, Receiver_did_call_back, Receiver_did_close, Receiver_did_close_and_end, Receiver_did_end, Receiver_did_leave, Receiver_did_leave_and_end, Receiver_did_open, Receiver_did_return, Receiver_did_take, Receiver_did_take_and_end, Receiver_stayed, Receiver_was_cut, Sender_did_ask, Sender_did_ask_and_open, Sender_did_close, Sender_did_end, Sender_did_give, Sender_did_leave, Sender_did_leave_and_end, Sender_did_open, Sender_stayed, Sender_was_cut}

zero-le : (n : ℕ) → 0 ≤ n
zero-le n = omega arith

-- nothing is to be shown of one that is neither asked for nor open

not-on : (stored given : List Bool) (fresh : Bool) (at : Stage) → is_on at ≡ false → FreshAt at stored given fresh
not-on stored given fresh Closed e = (λ x. cc x, λ x. cc x)
not-on stored given fresh Closing e = (λ x. cc x, λ x. cc x)
not-on stored given fresh Asked e = absurd (cc e)
not-on stored given fresh Open e = absurd (cc e)

more : (a b : List Bool) (given text : List Bool) → b ≡ a ++ text → length a ≤ length given → length b ≤ length (given ++ text)
more a b given text e l = omega (arith, ap length e ∙ length-append a text, length-append given text, l)

more-than : (a b : List Bool) (given text : List Bool) → b ≡ a ++ text → suc (length a) ≤ length given → suc (length b) ≤ length (given ++ text)
more-than a b given text e l = omega (arith, ap length e ∙ length-append a text, length-append given text, l)

module _ (what : EndpointEvent) (s z r : EndView) (given now out : List Bool) (fresh : Bool) (f : FreshAt s.at s.stored given fresh) where
  abbrev From : Pipe
  From = pipe_of_views s r out fresh

  pub sender-steps : (users : List Step) → SenderDid what s z given now users → (s.at ≡ Closed → is_on z.at ≡ true → is_open r.at ≡ false)
      → Moves From users z r out now
  sender-steps users (Sender_stayed a w g) shut = record {
    fresh = fresh;
    steps = [];
    run = rw (a, w) refl;
    of_users = refl;
    still = rw (sym a, sym w, sym g) f;
  }
  sender-steps users (Sender_did_ask o a w) shut = record {
    fresh = true;
    steps = pipes.Asks_to_send ∷ [];
    run = (record From { sender = Asked; queued = []; fresh = true }, (o, shut o (ap is_on a), refl), rw (a, w) refl);
    of_users = refl;
    still = (λ x. refl, λ x. absurd (cc (sym a ∙ x)));
  }
  sender-steps users (Sender_did_ask_and_open o a w) shut = record {
    fresh = true;
    steps = pipes.Asks_to_send ∷ pipes.Opens_sender ∷ [];
    run = (record From { sender = Asked; queued = []; fresh = true }, (o, shut o (ap is_on a), refl), (record From { sender = Open; queued = []; fresh = true }, (refl, refl), rw (a, w) refl));
    of_users = refl;
    still = (λ x. refl, λ x. (subst (λ (l : List Bool). length l ≤ length now) (sym w) (zero-le (length now)), λ y. absurd (cc y)));
  }
  sender-steps users (Sender_did_open o a w v) shut = record {
    fresh = fresh;
    steps = pipes.Opens_sender ∷ [];
    run = (record From { sender = Open }, (o, refl), rw (a, w, v) refl);
    of_users = refl;
    still = (λ x. absurd (cc (sym a ∙ x)), λ x. (subst (λ (l : List Bool). length l ≤ length now) (sym v) (zero-le (length now)), λ y. absurd (cc (sym y ∙ f.0 o))));
  }
  sender-steps users (Sender_did_give text o a w g) shut = record {
    fresh = fresh;
    steps = pipes.Gives text ∷ [];
    run = (record From { queued = s.stored ++ text }, (o, refl), rw (a, o, w) refl);
    of_users = refl;
    still = (λ x. absurd (cc (sym a ∙ x)), λ x. (subst (λ (l : List Bool). length z.stored ≤ length l) (sym g) (more s.stored z.stored given text w (f.1 o).0), λ y. subst (λ (l : List Bool). suc (length z.stored) ≤ length l) (sym g) (more-than s.stored z.stored given text w ((f.1 o).1 y))));
  }
  sender-steps users (Sender_did_close a w) shut = record {
    fresh = fresh;
    steps = pipes.Closes_sender ∷ [];
    run = (without_sender Closing From, refl, rw (a, w) refl);
    of_users = refl;
    still = not-on z.stored now fresh z.at (ap is_on a);
  }
  sender-steps users (Sender_did_leave is o a w) shut = record {
    fresh = fresh;
    steps = pipes.Leaves_sender ∷ [];
    run = (without_sender Closing From, (o, refl), rw (a, w) refl);
    of_users = refl;
    still = not-on z.stored now fresh z.at (ap is_on a);
  }
  sender-steps users (Sender_did_leave_and_end is o a w) shut = record {
    fresh = fresh;
    steps = pipes.Leaves_sender ∷ pipes.Ends_sender ∷ [];
    run = (without_sender Closing From, (o, refl), (without_sender Closed From, (refl, refl), rw (a, w) refl));
    of_users = refl;
    still = not-on z.stored now fresh z.at (ap is_on a);
  }
  sender-steps users (Sender_did_end o a w) shut = record {
    fresh = fresh;
    steps = pipes.Ends_sender ∷ [];
    run = (without_sender Closed From, (o, refl), rw (a, w) refl);
    of_users = refl;
    still = not-on z.stored now fresh z.at (ap is_on a);
  }
  sender-steps users (Sender_was_cut is a w) shut = record {
    fresh = fresh;
    steps = pipes.Cuts_sender ∷ [];
    run = (without_sender Closed From, refl, rw (a, w) refl);
    of_users = refl;
    still = not-on z.stored now fresh z.at (ap is_on a);
  }

-- a text goes out
pub text-goes : (s z r : EndView) (given out : List Bool) (fresh : Bool) (bits : ℕ) → FreshAt s.at s.stored given fresh → s.at ≡ Open → z.at ≡ Open → 1 ≤ bits → bits ≤ length s.stored → z.stored ≡ drop bits s.stored → (is_open r.at ≡ true → out ≡ [])
    → Moves (pipe_of_views s r out fresh) [] z r (take bits s.stored) given
text-goes s z r given out fresh bits f o a l m w dry = record {
  fresh = false;
  steps = pipes.Sends bits ∷ [];
  run = (record (pipe_of_views s r out fresh) { queued = drop bits s.stored; in_flight = if is_open r.at then take bits s.stored else []; fresh = false }, (o, none (is_open r.at) dry, l, m, refl), rw (o, a, w) refl);
  of_users = refl;
  still = (λ x. absurd (cc (sym a ∙ x)), λ x. (less, λ y. less-than));
}
  where
    none : (b : Bool) → (b ≡ true → out ≡ []) → (if b then out else []) ≡ []
    none true e = e refl
    none false e = refl

    whole : length s.stored ≡ length (take bits s.stored) + length (drop bits s.stored)
    whole = ap length (sym (take-append-drop bits s.stored)) ∙ length-append (take bits s.stored) (drop bits s.stored)

    less : length z.stored ≤ length given
    less = omega (arith, whole, ap length w, (f.1 o).0)

    less-than : suc (length z.stored) ≤ length given
    less-than = omega (arith, ap length w, length-drop bits s.stored, l, m, (f.1 o).0)

-- The receiver's side. At its opening nothing is out, and nothing has gone.

abbrev pub Opens : EndView → EndView → Type 0
Opens r z = (is_open r.at ≡ false) × (is_open z.at ≡ true)

module _ (what : EndpointEvent) (s r z : EndView) (given out : List Bool) (fresh : Bool) (f : FreshAt s.at s.stored given fresh) where
  abbrev At : Pipe
  At = pipe_of_views s r out fresh

  closed : (a : Stage) → a ≡ Closed → is_open a ≡ false
  closed Closed e = refl
  closed Asked e = absurd (cc e)
  closed Open e = absurd (cc e)
  closed Closing e = absurd (cc e)

  shut-asked : (a : Stage) → a ≡ Asked → is_open a ≡ false
  shut-asked Asked e = refl
  shut-asked Closed e = absurd (cc e)
  shut-asked Open e = absurd (cc e)
  shut-asked Closing e = absurd (cc e)

  pub receiver-steps : (users : List Step) → ReceiverDid what r z users → (is_open r.at ≡ false → ((r.at ≡ Closing) → ⊥) → (out ≡ []) × (is_on s.at ≡ true → fresh ≡ true))
      → Moves At users s z out given
  receiver-steps users (Receiver_stayed e) opens = record { fresh = fresh; steps = []; run = rw e refl; of_users = refl; still = f }
  receiver-steps users (Receiver_did_ask o e) opens = record {
    fresh = fresh;
    steps = pipes.Asks_to_receive ∷ [];
    run = (record At { receiver = Asked; held = []; allowed = 0 }, (o, refl), rw (e, o) refl);
    of_users = refl;
    still = f;
  }
  receiver-steps users (Receiver_did_ask_and_open o e) opens =
      let k = opens (closed r.at o) (λ x. cc (sym o ∙ x)) in
      record {
        fresh = fresh;
        steps = pipes.Asks_to_receive ∷ pipes.Opens_receiver ∷ [];
        run = (record At { receiver = Asked; held = []; allowed = 0 }, (o, refl), (record At { receiver = Open; held = []; allowed = 0 }, (refl, k.1, refl), rw (e, o, k.0) refl));
        of_users = refl;
        still = f;
      }
  receiver-steps users (Receiver_did_open o e) opens =
      let k = opens (shut-asked r.at o) (λ x. cc (sym o ∙ x)) in
      record {
        fresh = fresh;
        steps = pipes.Opens_receiver ∷ [];
        run = (record At { receiver = Open }, (o, k.1, refl), rw (e, o, k.0) refl);
        of_users = refl;
        still = f;
      }
  receiver-steps users (Receiver_did_take text rest h e) opens = record {
    fresh = fresh;
    steps = pipes.Takes text ∷ [];
    run = (record At { held = rest }, (rest, h, refl), rw e refl);
    of_users = refl;
    still = f;
  }
  receiver-steps users (Receiver_did_take_and_end text o h e) opens = record {
    fresh = fresh;
    steps = pipes.Takes text ∷ pipes.Ends_receiver ∷ [];
    run = (record At { held = [] }, ([], h ∙ sym (append-nil text), refl), (without_receiver Closed At, (o, refl), rw e refl));
    of_users = refl;
    still = f;
  }
  receiver-steps users (Receiver_did_allow bits o e) opens = record {
    fresh = fresh;
    steps = pipes.Allows bits ∷ [];
    run = (record At { allowed = r.bits + bits }, (o, refl), rw e refl);
    of_users = refl;
    still = f;
  }
  receiver-steps users (Receiver_did_call_back o e) opens = record { fresh = fresh; steps = pipes.Calls_back ∷ []; run = (At, (o, refl), rw e refl); of_users = refl; still = f }
  receiver-steps users (Receiver_did_return bits l e) opens = record {
    fresh = fresh;
    steps = pipes.Returns bits ∷ [];
    run = (record At { allowed = r.bits - bits }, (l, refl), rw e refl);
    of_users = refl;
    still = f;
  }
  receiver-steps users (Receiver_did_close e) opens = record { fresh = fresh; steps = pipes.Closes_receiver ∷ []; run = (without_receiver Closing At, refl, rw e refl); of_users = refl; still = f }
  receiver-steps users (Receiver_did_close_and_end e) opens = record {
    fresh = fresh;
    steps = pipes.Closes_receiver ∷ pipes.Ends_receiver ∷ [];
    run = (without_receiver Closing At, refl, (without_receiver Closed At, (refl, refl), rw e refl));
    of_users = refl;
    still = f;
  }
  receiver-steps users (Receiver_did_leave is o e) opens = record {
    fresh = fresh;
    steps = pipes.Leaves_receiver ∷ [];
    run = (record At { receiver = Closing; in_flight = []; allowed = 0 }, (o, refl), rw e refl);
    of_users = refl;
    still = f;
  }
  receiver-steps users (Receiver_did_leave_and_end is o e) opens = record {
    fresh = fresh;
    steps = pipes.Leaves_receiver ∷ pipes.Ends_receiver ∷ [];
    run = (record At { receiver = Closing; in_flight = []; allowed = 0 }, (o, refl), (without_receiver Closed At, (refl, refl), rw e refl));
    of_users = refl;
    still = f;
  }
  receiver-steps users (Receiver_did_end o e) opens = record { fresh = fresh; steps = pipes.Ends_receiver ∷ []; run = (without_receiver Closed At, (o, refl), rw e refl); of_users = refl; still = f }
  receiver-steps users (Receiver_was_cut is e) opens = record { fresh = fresh; steps = pipes.Cuts_receiver ∷ []; run = (without_receiver Closed At, refl, rw e refl); of_users = refl; still = f }

-- a text comes to a receiver that is open; and one that is lost was not flying
pub text-comes : (s r z : EndView) (given out : List Bool) (fresh : Bool) → FreshAt s.at s.stored given fresh → r.at ≡ Open → length out ≤ r.bits → z ≡ record r { stored = r.stored ++ out; bits = r.bits - length out }
    → Moves (pipe_of_views s r out fresh) [] s z [] given
text-comes s r z given out fresh f o l e = record {
  fresh = fresh;
  steps = pipes.Delivers ∷ [];
  run = (record (pipe_of_views s r out fresh) { in_flight = []; held = r.stored ++ out; allowed = r.bits - length out }, (o, flies-le (is_open r.at) (ap is_open o), same (is_open r.at) (ap is_open o)), rw (e, o) refl);
  of_users = refl;
  still = f;
}
  where
    flies-le : (b : Bool) → b ≡ true → length (if b then out else []) ≤ r.bits
    flies-le true e = l
    flies-le false e = absurd (cc e)

    same : (b : Bool) → b ≡ true → record (pipe_of_views s r out fresh) { in_flight = []; held = r.stored ++ out; allowed = r.bits - length out } ≡ record (pipe_of_views s r out fresh) { in_flight = []; held = r.stored ++ (if b then out else []); allowed = r.bits - length (if b then out else []) }
    same true e = refl
    same false e = absurd (cc e)

pub text-passes : (s r : EndView) (given out now : List Bool) (fresh : Bool) → FreshAt s.at s.stored given fresh → (is_open r.at ≡ true → out ≡ now) → Moves (pipe_of_views s r out fresh) [] s r now given
text-passes s r given out now fresh f e = record { fresh = fresh; steps = []; run = ap (λ (x : List Bool). record (pipe_of_views s r out fresh) { in_flight = x }) (go (is_open r.at) e); of_users = refl; still = f }
  where
    go : (b : Bool) → (b ≡ true → out ≡ now) → (if b then out else []) ≡ (if b then now else [])
    go true e = e refl
    go false e = refl
