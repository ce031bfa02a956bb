-- What happens at an endpoint is an account of its side of the pipe: each cut in it is a clearing, and each leave a CLS.
use Rattle.std.proofs.Common.{◌≡◌, ◌≤◌, ℕ, ◌+◌, Bool, true, false, ◌||◌, if◌then◌else◌, List, [], ◌∷◌, ◌++◌, length, Option, None, refl, sym, ap, ◌∙◌, subst, arith}
use Rattle.std.proofs.lemmas.Bool.{both_ways}
use Rattle.std.proofs.lemmas.List.{length-append}
use Rattle.ncp_model.specs.declared.pair.Pair.{Pair}
use Rattle.ncp_model.specs.Pairs.{sends, receives}
use Rattle.ncp_model.specs.Endpoint.{Endpoint}
use Rattle.ncp_model.specs.EndpointEvents.{EndpointEvent, Outcome, happens}
use Rattle.ncp_model.specs.Demux.{suits}
use Rattle.ncp_proof_endpoint.specs.Histories.{no_past, EndpointWithHistory}
use Rattle.ncp_proof_endpoint.specs.Sound.{SoundAt}
use Rattle.ncp_proof_endpoint.proofs.SoundEnds.{sound-after}
use Rattle.ncp_proof_runs.specs.Acts.{Acted, AreActs}
use Rattle.ncp_pipe.specs.Pipe.{Stage, Closed, Asked, Open, Closing, Step, is_on}
use Rattle.ncp_pipe.specs.Pipe as pipes
use Rattle.ncp_pipe.specs.Sides.{those, how_many, is_sender_step, is_receiver_step, is_sender_cut, is_sender_leave, is_receiver_cut, is_receiver_leave, IsSenderAccount, IsReceiverAccount}
use Rattle.ncp_pipe.proofs.Weaving.{those-append}
use Rattle.ncp_proof_pipe.specs.Views.{stage, EndView, sender_view, receiver_view, sender_step, receiver_step, SenderDid, ReceiverDid, Receiver_did_allow, Receiver_did_ask, Receiver_did_ask_and_open, Receiver_did_call_back, Receiver_did_close, Receiver_did_close_and_end, Receiver_did_end, Receiver_did_leave, Receiver_did_leave_and_end, Receiver_did_open, Receiver_did_return, Receiver_did_take, Receiver_did_take_and_end, Receiver_stayed, Receiver_was_cut, Sender_did_ask, Sender_did_ask_and_open, Sender_did_close, Sender_did_end, Sender_did_give, Sender_did_leave, Sender_did_leave_and_end, Sender_did_open, Sender_stayed, Sender_was_cut}
use Rattle.ncp_proof_pipe.specs.Stops.{is_clearing, may_make, cuts_in, is_close_by_peer, times}
use Rattle.ncp_proof_pipe.proofs.Sending.{sends-only, sender-did, went, Went, Went_not, Went_out}
use Rattle.ncp_proof_pipe.proofs.Receiving.{receives-only, receiver-did, came, Came, Came_in, Passed}

-- the calls in what happened at an endpoint
abbrev pub calls_of : (EndpointEvent → Outcome → List Step) → List Acted → List Step
calls_of step [] = []
calls_of step (act ∷ acts) = step act.what act.outcome ++ calls_of step acts

abbrev one_if : Bool → ℕ
one_if b = if b then 1 else 0

zero-le : (n : ℕ) → 0 ≤ n
zero-le n = omega arith

one-clearing : (what : EndpointEvent) → what ≡ EndpointEvent.Is_cleared → 1 ≤ one_if (is_clearing what)
one-clearing what e = subst (λ (b : Bool). 1 ≤ one_if b) (sym (ap is_clearing e)) (omega arith)

one-close : (what : EndpointEvent) → what ≡ EndpointEvent.Cls_comes → 1 ≤ one_if (is_close_by_peer what)
one-close what e = subst (λ (b : Bool). 1 ≤ one_if b) (sym (ap is_close_by_peer e)) (omega arith)

more-of : (which : Step → Bool) (xs ys : List Step) (a b : ℕ) → how_many which xs ≤ a → how_many which ys ≤ b → how_many which (xs ++ ys) ≤ a + b
more-of which xs ys a b l m = omega (arith, ap length (those-append which xs ys) ∙ length-append (those which xs) (those which ys), l, m)

-- The sender's side.

pub record SenderPart (from to : Stage) (calls : List Step) (cuts leaves : ℕ) : Type 0 where
  pub steps : List Step
  pub account : IsSenderAccount from steps to
  pub called : those is_sender_step steps ≡ calls
  pub cut : how_many is_sender_cut steps ≤ cuts
  pub left : how_many is_sender_leave steps ≤ leaves

sender-joined : (xs ys : List Step) (s m z : Stage) → IsSenderAccount s xs m → IsSenderAccount m ys z → IsSenderAccount s (xs ++ ys) z
sender-joined [] ys s m z a b = subst (λ (x : Stage). IsSenderAccount x ys z) (sym a) b
sender-joined (x ∷ xs) ys s m z (next, i, a) b = (next, i, sender-joined xs ys next m z a b)

sender-parts : (s m z : Stage) (some more : List Step) (c l d k : ℕ) → SenderPart s m some c l → SenderPart m z more d k → SenderPart s z (some ++ more) (c + d) (l + k)
sender-parts s m z some more c l d k a b = record {
  steps = a.steps ++ b.steps;
  account = sender-joined a.steps b.steps s m z a.account b.account;
  called = those-append is_sender_step a.steps b.steps ∙ ap (λ (x : List Step). x ++ those is_sender_step b.steps) a.called ∙ ap (λ (x : List Step). some ++ x) b.called;
  cut = more-of is_sender_cut a.steps b.steps c d a.cut b.cut;
  left = more-of is_sender_leave a.steps b.steps l k a.left b.left;
}

looser : (from to : Stage) (calls : List Step) (c l d k : ℕ) → SenderPart from to calls c l → c ≤ d → l ≤ k → SenderPart from to calls d k
looser from to calls c l d k p a b = record { steps = p.steps; account = p.account; called = p.called; cut = omega (arith, p.cut, a); left = omega (arith, p.left, b) }

or-false : (b : Bool) → (b || false) ≡ false → b ≡ false
or-false true e = absurd (cc e)
or-false false e = refl

or-true : (b : Bool) → (b || true) ≡ false → ⊥
or-true true e = cc e
or-true false e = cc e

sender-part : (what : EndpointEvent) (s z : EndView) (given now : List Bool) (users : List Step) → SenderDid what s z given now users → SenderPart s.at z.at users (one_if (is_clearing what)) (one_if (is_close_by_peer what))
sender-part what s z given now users (Sender_stayed a w g) = record { steps = []; account = a; called = refl; cut = zero-le _; left = zero-le _ }
sender-part what s z given now users (Sender_did_ask o a w) = record { steps = pipes.Asks_to_send ∷ []; account = (Asked, (o, refl), sym a); called = refl; cut = zero-le _; left = zero-le _ }
sender-part what s z given now users (Sender_did_ask_and_open o a w) = record { steps = pipes.Asks_to_send ∷ pipes.Opens_sender ∷ []; account = (Asked, (o, refl), (Open, (refl, refl), sym a)); called = refl; cut = zero-le _; left = zero-le _ }
sender-part what s z given now users (Sender_did_open o a w v) = record { steps = pipes.Opens_sender ∷ []; account = (Open, (o, refl), sym a); called = refl; cut = zero-le _; left = zero-le _ }
sender-part what s z given now users (Sender_did_give text o a w g) = record { steps = pipes.Gives text ∷ []; account = (Open, (o, refl), sym a); called = refl; cut = zero-le _; left = zero-le _ }
sender-part what s z given now users (Sender_did_close a w) = record { steps = pipes.Closes_sender ∷ []; account = (Closing, refl, sym a); called = refl; cut = zero-le _; left = zero-le _ }
sender-part what s z given now users (Sender_did_leave is o a w) = record { steps = pipes.Leaves_sender ∷ []; account = (Closing, (o, refl), sym a); called = refl; cut = zero-le _; left = one-close what is }
sender-part what s z given now users (Sender_did_leave_and_end is o a w) = record { steps = pipes.Leaves_sender ∷ pipes.Ends_sender ∷ []; account = (Closing, (o, refl), (Closed, (refl, refl), sym a)); called = refl; cut = zero-le _; left = one-close what is }
sender-part what s z given now users (Sender_did_end o a w) = record { steps = pipes.Ends_sender ∷ []; account = (Closed, (o, refl), sym a); called = refl; cut = zero-le _; left = zero-le _ }
sender-part what s z given now users (Sender_was_cut is a w) = record { steps = pipes.Cuts_sender ∷ []; account = (Closed, refl, sym a); called = refl; cut = one-clearing what is; left = zero-le _ }

module _ (pair : Pair) (sd : sends pair ≡ true) where
  abbrev Sent : EndpointEvent → Option Endpoint → Type 0
  Sent what o = SenderPart (stage o) (stage (happens pair what o).after) (sender_step what (happens pair what o).outcome) (one_if (is_clearing what)) (one_if (is_close_by_peer what))

  text-out : (o z : Option Endpoint) (out : Outcome) → Went pair sd o z out → SenderPart (stage o) (stage z) [] 0 0
  text-out o z out (Went_not e f g) = record { steps = []; account = ap (λ (v : EndView). v.at) e; called = refl; cut = zero-le _; left = zero-le _ }
  text-out o z out (Went_out size bits b at_o at_z l m w f g) = record { steps = []; account = at_o ∙ sym at_z; called = refl; cut = zero-le _; left = zero-le _ }

  sender-act : (what : EndpointEvent) (o : Option Endpoint) → suits pair what ≡ true → SoundAt pair o → Sent what o
  sender-act EndpointEvent.Text_goes_out o fit sound = text-out o _ _ (went pair sd o sound)
  sender-act (EndpointEvent.Text_comes head of_size text) o fit sound = absurd (both_ways (receives pair) (sends-only pair sd) fit)
  sender-act what o fit sound =
      let w : EndpointWithHistory = record { end = o; past = no_past } in
      sender-part what (sender_view o) (sender_view (happens pair what o).after) _ _ (sender_step what (happens pair what o).outcome) (sender-did pair sd what w refl sound)

  -- what follows an event, if nothing is there before it can have been made
  abbrev Nothing : Bool → Option Endpoint → Type 0
  Nothing there o = there ≡ false → o ≡ None

  sender-cleared : (there : Bool) (o : Option Endpoint) → Nothing there o → SenderPart (stage o) Closed [] (one_if there) 0
  sender-cleared true o n = record { steps = pipes.Cuts_sender ∷ []; account = (Closed, refl, refl); called = refl; cut = omega arith; left = zero-le _ }
  sender-cleared false o n = record { steps = []; account = ap stage (n refl); called = refl; cut = zero-le _; left = zero-le _ }

  -- with what came after it
  sender-next : (what : EndpointEvent) (acts : List Acted) (o z : Option Endpoint) (there : Bool) (calls : List Step) (leaves : ℕ) → suits pair what ≡ true → SoundAt pair o → Nothing there o
      → ((b : Bool) → Nothing b (happens pair what o).after → SenderPart (stage (happens pair what o).after) (stage z) calls (cuts_in b acts) leaves)
      → SenderPart (stage o) (stage z) (sender_step what (happens pair what o).outcome ++ calls) (if is_clearing what then one_if there + cuts_in false acts else cuts_in (there || may_make what) acts) (one_if (is_close_by_peer what) + leaves)
  sender-next EndpointEvent.Is_cleared acts o z there calls leaves fit sound n more = sender-parts (stage o) Closed (stage z) [] calls (one_if there) 0 _ _ (sender-cleared there o n) (more false (λ x. refl))
  sender-next EndpointEvent.Text_goes_out acts o z there calls leaves fit sound n more =
      looser (stage o) (stage z) calls _ _ _ _ (sender-parts (stage o) (stage (happens pair EndpointEvent.Text_goes_out o).after) (stage z) [] calls 0 0 _ _ (text-out o _ _ (went pair sd o sound)) (more (there || false) (λ x. ap (λ (y : Option Endpoint). (happens pair EndpointEvent.Text_goes_out y).after) (n (or-false there x))))) (omega arith) (omega arith)
  sender-next what acts o z there calls leaves fit sound n more =
      looser (stage o) (stage z) _ _ _ _ _ (sender-parts (stage o) (stage (happens pair what o).after) (stage z) _ calls _ _ _ _ (sender-act what o fit sound) (more (there || true) (λ x. absurd (or-true there x)))) (omega arith) (omega arith)

  pub sender-account : (acts : List Acted) (o z : Option Endpoint) (there : Bool) → SoundAt pair o → Nothing there o → AreActs pair o acts z → SenderPart (stage o) (stage z) (calls_of sender_step acts) (cuts_in there acts) (times is_close_by_peer acts)
  sender-account [] o z there sound n e = record { steps = []; account = ap stage (sym e); called = refl; cut = zero-le _; left = zero-le _ }
  sender-account (act ∷ acts) o z there sound n (fit, is, rest) =
      subst (λ (out : Outcome). SenderPart (stage o) (stage z) (sender_step act.what out ++ calls_of sender_step acts) (cuts_in there (act ∷ acts)) (times is_close_by_peer (act ∷ acts))) (sym (ap (λ (a : Acted). a.outcome) is))
      (sender-next act.what acts o z there (calls_of sender_step acts) (times is_close_by_peer acts) fit sound n (λ b m. sender-account acts (happens pair act.what o).after z b (sound-after pair act.what o sound) m rest))

-- The receiver's side. If what was held was dropped, nothing is held; and nothing was dropped of one that is asked for or
-- open.

pub record ReceiverPart (from : Stage) (was : Bool) (to : EndView) (calls : List Step) (cuts leaves : ℕ) : Type 0 where
  pub steps : List Step
  pub dropped : Bool
  pub account : IsReceiverAccount from was steps to.at dropped
  pub called : those is_receiver_step steps ≡ calls
  pub cut : how_many is_receiver_cut steps ≤ cuts
  pub left : how_many is_receiver_leave steps ≤ leaves
  pub empty : dropped ≡ true → to.stored ≡ []
  pub on : is_on to.at ≡ true → dropped ≡ false

receiver-joined : (xs ys : List Step) (s : Stage) (d : Bool) (m : Stage) (e : Bool) (z : Stage) (f : Bool) → IsReceiverAccount s d xs m e → IsReceiverAccount m e ys z f → IsReceiverAccount s d (xs ++ ys) z f
receiver-joined [] ys s d m e z f a b = subst (λ (x : Stage). IsReceiverAccount x d ys z f) (sym a.0) (subst (λ (x : Bool). IsReceiverAccount m x ys z f) (sym a.1) b)
receiver-joined (x ∷ xs) ys s d m e z f (next, lost, i, a) b = (next, lost, i, receiver-joined xs ys next lost m e z f a b)

none-of : (text rest : List Bool) → [] ≡ text ++ rest → (text ≡ []) × (rest ≡ [])
none-of [] rest e = (refl, sym e)
none-of (x ∷ text) rest e = absurd (cc e)

module _ (r : EndView) (d : Bool) (empty : d ≡ true → r.stored ≡ []) (on : is_on r.at ≡ true → d ≡ false) where
  abbrev at_of : EndView → Stage
  at_of v = v.at

  abbrev on_of : EndView → Bool
  on_of v = is_on v.at

  abbrev stored_of : EndView → List Bool
  stored_of v = v.stored

  receiver-stays : (z : EndView) (c l : ℕ) → z.at ≡ r.at → z.stored ≡ r.stored → ReceiverPart r.at d z [] c l
  receiver-stays z c l a w = record { steps = []; dropped = d; account = (sym a, refl); called = refl; cut = zero-le _; left = zero-le _; empty = λ x. w ∙ empty x; on = λ x. on (sym (ap is_on a) ∙ x) }

  not-on : {A : Type 0} → (z v : EndView) → z ≡ v → on_of v ≡ false → on_of z ≡ true → A
  not-on {A} z v e off h = absurd (cc (sym h ∙ ap on_of e ∙ off))

  receiver-part : (what : EndpointEvent) (z : EndView) (users : List Step) → ReceiverDid what r z users → ReceiverPart r.at d z users (one_if (is_clearing what)) (one_if (is_close_by_peer what))
  receiver-part what z users (Receiver_stayed e) = receiver-stays z _ _ (sym (ap at_of e)) (sym (ap stored_of e))
  receiver-part what z users (Receiver_did_ask o e) = record {
    steps = pipes.Asks_to_receive ∷ [];
    dropped = false;
    account = (Asked, false, (o, refl, refl), (sym (ap at_of e), refl));
    called = refl;
    cut = zero-le _;
    left = zero-le _;
    empty = λ x. absurd (cc x);
    on = λ x. refl;
  }
  receiver-part what z users (Receiver_did_ask_and_open o e) = record {
    steps = pipes.Asks_to_receive ∷ pipes.Opens_receiver ∷ [];
    dropped = false;
    account = (Asked, false, (o, refl, refl), (Open, false, (refl, refl, refl), (sym (ap at_of e), refl)));
    called = refl;
    cut = zero-le _;
    left = zero-le _;
    empty = λ x. absurd (cc x);
    on = λ x. refl;
  }
  receiver-part what z users (Receiver_did_open o e) = record {
    steps = pipes.Opens_receiver ∷ [];
    dropped = d;
    account = (Open, d, (o, refl, refl), (sym (ap at_of e), refl));
    called = refl;
    cut = zero-le _;
    left = zero-le _;
    empty = λ x. ap stored_of e ∙ empty x;
    on = λ x. on (ap is_on o);
  }
  receiver-part what z users (Receiver_did_take text rest h e) = record {
    steps = pipes.Takes text ∷ [];
    dropped = d;
    account = (r.at, d, (λ x. (none-of text rest (sym (empty x) ∙ h)).0, refl, refl), (sym (ap at_of e), refl));
    called = refl;
    cut = zero-le _;
    left = zero-le _;
    empty = λ x. ap stored_of e ∙ (none-of text rest (sym (empty x) ∙ h)).1;
    on = λ x. on (sym (ap on_of e) ∙ x);
  }
  receiver-part what z users (Receiver_did_take_and_end text o h e) = record {
    steps = pipes.Takes text ∷ pipes.Ends_receiver ∷ [];
    dropped = true;
    account = (r.at, d, (λ x. sym h ∙ empty x, refl, refl), (Closed, true, (o, refl, refl), (sym (ap at_of e), refl)));
    called = refl;
    cut = zero-le _;
    left = zero-le _;
    empty = λ x. ap stored_of e;
    on = λ x. not-on z _ e refl x;
  }
  receiver-part what z users (Receiver_did_allow bits o e) = record {
    steps = pipes.Allows bits ∷ [];
    dropped = d;
    account = (r.at, d, (o, refl, refl), (sym (ap at_of e), refl));
    called = refl;
    cut = zero-le _;
    left = zero-le _;
    empty = λ x. ap stored_of e ∙ empty x;
    on = λ x. on (ap is_on o);
  }
  receiver-part what z users (Receiver_did_call_back o e) = record {
    steps = pipes.Calls_back ∷ [];
    dropped = d;
    account = (r.at, d, (o, refl, refl), (ap at_of e, refl));
    called = refl;
    cut = zero-le _;
    left = zero-le _;
    empty = λ x. ap stored_of (sym e) ∙ empty x;
    on = λ x. on (ap is_on o);
  }
  receiver-part what z users (Receiver_did_return bits l e) = receiver-stays z _ _ (ap at_of e) (ap stored_of e)
  receiver-part what z users (Receiver_did_close e) = record {
    steps = pipes.Closes_receiver ∷ [];
    dropped = true;
    account = (Closing, true, (refl, refl), (sym (ap at_of e), refl));
    called = refl;
    cut = zero-le _;
    left = zero-le _;
    empty = λ x. ap stored_of e;
    on = λ x. not-on z _ e refl x;
  }
  receiver-part what z users (Receiver_did_close_and_end e) = record {
    steps = pipes.Closes_receiver ∷ pipes.Ends_receiver ∷ [];
    dropped = true;
    account = (Closing, true, (refl, refl), (Closed, true, (refl, refl, refl), (sym (ap at_of e), refl)));
    called = refl;
    cut = zero-le _;
    left = zero-le _;
    empty = λ x. ap stored_of e;
    on = λ x. not-on z _ e refl x;
  }
  receiver-part what z users (Receiver_did_leave is o e) = record {
    steps = pipes.Leaves_receiver ∷ [];
    dropped = d;
    account = (Closing, d, (o, refl, refl), (sym (ap at_of e), refl));
    called = refl;
    cut = zero-le _;
    left = one-close what is;
    empty = λ x. ap stored_of e ∙ empty x;
    on = λ x. not-on z _ e refl x;
  }
  receiver-part what z users (Receiver_did_leave_and_end is o e) = record {
    steps = pipes.Leaves_receiver ∷ pipes.Ends_receiver ∷ [];
    dropped = true;
    account = (Closing, d, (o, refl, refl), (Closed, true, (refl, refl, refl), (sym (ap at_of e), refl)));
    called = refl;
    cut = zero-le _;
    left = one-close what is;
    empty = λ x. ap stored_of e;
    on = λ x. not-on z _ e refl x;
  }
  receiver-part what z users (Receiver_did_end o e) = record {
    steps = pipes.Ends_receiver ∷ [];
    dropped = true;
    account = (Closed, true, (o, refl, refl), (sym (ap at_of e), refl));
    called = refl;
    cut = zero-le _;
    left = zero-le _;
    empty = λ x. ap stored_of e;
    on = λ x. not-on z _ e refl x;
  }
  receiver-part what z users (Receiver_was_cut is e) = record {
    steps = pipes.Cuts_receiver ∷ [];
    dropped = true;
    account = (Closed, true, (refl, refl), (sym (ap at_of e), refl));
    called = refl;
    cut = one-clearing what is;
    left = zero-le _;
    empty = λ x. ap stored_of e;
    on = λ x. not-on z _ e refl x;
  }

  -- a text comes in, or passes
  text-in : (z : EndView) (text : List Bool) (bits : ℕ) → r.at ≡ Open → z ≡ record r { stored = r.stored ++ text; bits = bits } → ReceiverPart r.at d z [] 0 0
  text-in z text bits o e =
      let never : d ≡ false = on (ap is_on o) in
      record { steps = []; dropped = d; account = (sym (ap at_of e), refl); called = refl; cut = zero-le _; left = zero-le _; empty = λ x. absurd (cc (sym never ∙ x)); on = λ x. never }

receiver-parts : (s : Stage) (d : Bool) (m z : EndView) (some more : List Step) (c l a b : ℕ) → (k : ReceiverPart s d m some c l) → ReceiverPart m.at k.dropped z more a b → ReceiverPart s d z (some ++ more) (c + a) (l + b)
receiver-parts s d m z some more c l a b k j = record {
  steps = k.steps ++ j.steps;
  dropped = j.dropped;
  account = receiver-joined k.steps j.steps s d m.at k.dropped z.at j.dropped k.account j.account;
  called = those-append is_receiver_step k.steps j.steps ∙ ap (λ (x : List Step). x ++ those is_receiver_step j.steps) k.called ∙ ap (λ (x : List Step). some ++ x) j.called;
  cut = more-of is_receiver_cut k.steps j.steps c a k.cut j.cut;
  left = more-of is_receiver_leave k.steps j.steps l b k.left j.left;
  empty = j.empty;
  on = j.on;
}

receiver-looser : (from : Stage) (was : Bool) (to : EndView) (calls : List Step) (c l d k : ℕ) → ReceiverPart from was to calls c l → c ≤ d → l ≤ k → ReceiverPart from was to calls d k
receiver-looser from was to calls c l d k p a b = record { steps = p.steps; dropped = p.dropped; account = p.account; called = p.called; cut = omega (arith, p.cut, a); left = omega (arith, p.left, b); empty = p.empty; on = p.on }

module _ (pair : Pair) (rd : receives pair ≡ true) where
  abbrev Got : EndpointEvent → Option Endpoint → Bool → Type 0
  Got what o d = ReceiverPart (stage o) d (receiver_view (happens pair what o).after) (receiver_step what (happens pair what o).outcome) (one_if (is_clearing what)) (one_if (is_close_by_peer what))

  abbrev Empty : Option Endpoint → Bool → Type 0
  Empty o d = d ≡ true → (receiver_view o).stored ≡ []

  abbrev Undropped : Option Endpoint → Bool → Type 0
  Undropped o d = is_on (stage o) ≡ true → d ≡ false

  text-came : (o z : Option Endpoint) (d : Bool) (text : List Bool) (out : Outcome) → Empty o d → Undropped o d → Came pair rd o z text out → ReceiverPart (stage o) d (receiver_view z) [] 0 0
  text-came o z d text out empty on (Came_in at_o l e) = text-in (receiver_view o) d empty on (receiver_view z) text _ at_o e
  text-came o z d text out empty on (Passed e f) = receiver-stays (receiver_view o) d empty on (receiver_view z) 0 0 (sym (ap (λ (v : EndView). v.at) e)) (sym (ap (λ (v : EndView). v.stored) e))

  sent-only : {A : Type 0} → sends pair ≡ true → A
  sent-only {A} e = absurd (both_ways (sends pair) (receives-only pair rd) e)

  receiver-act : (what : EndpointEvent) (o : Option Endpoint) (d : Bool) → suits pair what ≡ true → SoundAt pair o → Empty o d → Undropped o d → Got what o d
  receiver-act (EndpointEvent.Text_comes head of_size text) o d fit sound empty on = text-came o _ d text _ empty on (came pair rd o head of_size text sound)
  receiver-act EndpointEvent.Text_goes_out o d fit sound empty on = sent-only fit
  receiver-act (EndpointEvent.All_comes link a b) o d fit sound empty on = sent-only fit
  receiver-act (EndpointEvent.Gvb_comes link a b) o d fit sound empty on = sent-only fit
  receiver-act (EndpointEvent.Inr_comes link) o d fit sound empty on = sent-only fit
  receiver-act what o d fit sound empty on =
      receiver-part (receiver_view o) d empty on what (receiver_view (happens pair what o).after) (receiver_step what (happens pair what o).outcome) (receiver-did pair rd what o refl sound)

  abbrev Nothing-there : Bool → Option Endpoint → Type 0
  Nothing-there there o = there ≡ false → o ≡ None

  receiver-cleared : (there : Bool) (o : Option Endpoint) (d : Bool) → Empty o d → Undropped o d → Nothing-there there o → ReceiverPart (stage o) d (receiver_view None) [] (one_if there) 0
  receiver-cleared true o d empty on n = receiver-looser (stage o) d (receiver_view None) [] _ _ _ _ (receiver-part (receiver_view o) d empty on EndpointEvent.Is_cleared (receiver_view None) [] (Receiver_was_cut refl refl)) (omega arith) (omega arith)
  receiver-cleared false o d empty on n = receiver-stays (receiver_view o) d empty on (receiver_view None) 0 0 (ap stage (sym (n refl))) (ap (λ (x : Option Endpoint). (receiver_view x).stored) (sym (n refl)))

  receiver-next : (what : EndpointEvent) (acts : List Acted) (o z : Option Endpoint) (d there : Bool) (calls : List Step) (leaves : ℕ) → suits pair what ≡ true → SoundAt pair o → Empty o d → Undropped o d → Nothing-there there o
      → ((b e : Bool) → Nothing-there b (happens pair what o).after → Empty (happens pair what o).after e → Undropped (happens pair what o).after e → ReceiverPart (stage (happens pair what o).after) e (receiver_view z) calls (cuts_in b acts) leaves)
      → ReceiverPart (stage o) d (receiver_view z) (receiver_step what (happens pair what o).outcome ++ calls) (if is_clearing what then one_if there + cuts_in false acts else cuts_in (there || may_make what) acts) (one_if (is_close_by_peer what) + leaves)
  receiver-next EndpointEvent.Is_cleared acts o z d there calls leaves fit sound empty on n more =
      let one = receiver-cleared there o d empty on n in
      receiver-parts (stage o) d (receiver_view None) (receiver_view z) [] calls (one_if there) 0 _ _ one (more false one.dropped (λ x. refl) one.empty one.on)
  receiver-next EndpointEvent.Text_goes_out acts o z d there calls leaves fit sound empty on n more = sent-only fit
  receiver-next what acts o z d there calls leaves fit sound empty on n more =
      let one = receiver-act what o d fit sound empty on in
      receiver-looser (stage o) d (receiver_view z) _ _ _ _ _ (receiver-parts (stage o) d (receiver_view (happens pair what o).after) (receiver_view z) _ calls _ _ _ _ one (more (there || true) one.dropped (λ x. absurd (or-true there x)) one.empty one.on)) (omega arith) (omega arith)

  pub receiver-account : (acts : List Acted) (o z : Option Endpoint) (d there : Bool) → SoundAt pair o → Empty o d → Undropped o d → Nothing-there there o → AreActs pair o acts z
      → ReceiverPart (stage o) d (receiver_view z) (calls_of receiver_step acts) (cuts_in there acts) (times is_close_by_peer acts)
  receiver-account [] o z d there sound empty on n e = receiver-stays (receiver_view o) d empty on (receiver_view z) 0 0 (ap stage e) (ap (λ (x : Option Endpoint). (receiver_view x).stored) e)
  receiver-account (act ∷ acts) o z d there sound empty on n (fit, is, rest) =
      subst (λ (out : Outcome). ReceiverPart (stage o) d (receiver_view z) (receiver_step act.what out ++ calls_of receiver_step acts) (cuts_in there (act ∷ acts)) (times is_close_by_peer (act ∷ acts))) (sym (ap (λ (a : Acted). a.outcome) is))
      (receiver-next act.what acts o z d there (calls_of receiver_step acts) (times is_close_by_peer acts) fit sound empty on n
      (λ b e m f g. receiver-account acts (happens pair act.what o).after z e b (sound-after pair act.what o sound) f g m rest))
