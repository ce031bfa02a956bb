-- What happens to a connection is steps of the pipe.
use Rattle.std.proofs.Common.{◌≡◌, ◌≤◌, ℕ, ◌-◌, Bool, true, false, not, ◌&&◌, ◌||◌, nat_lt, if◌then◌else◌, List, [], ◌∷◌, ◌++◌, length, take, drop, Option, None, Some, Result, Ok, Err, refl, sym, ap, ◌∙◌, subst}
use Rattle.std.proofs.lemmas.Bool.{both_ways}
use Rattle.ncp_wire.specs.declared.command.Command.{Command}
use Rattle.ncp_wire.specs.declared.command.Command.TheVariants.{Rts, Str, Cls, All, Gvb, Ret, Inr, Ins}
use Rattle.ncp_model.specs.declared.pair.Pair.{Pair}
use Rattle.ncp_model.specs.declared.call_fault.CallFault.{CallFault}
use Rattle.ncp_model.specs.declared.limits.TheConstants.{MAX_BY_PEER}
use Rattle.ncp_model.specs.declared.outcomes.Heard.{Heard}
use Rattle.ncp_model.specs.declared.outcomes.Heard.TheVariants as heard
use Rattle.ncp_model.specs.Pairs.{sends, receives, counterpart}
use Rattle.ncp_model.specs.Endpoint.{Endpoint, or_new}
use Rattle.ncp_model.specs.Texts.{Answer, Rfnm, Incomplete, Dead}
use Rattle.ncp_model.specs.EndpointEvents.{EndpointEvent, Outcome, happens, outcome_of_call, of_take, of_reply, of_hearing, is_violation}
use Rattle.ncp_proof_endpoint.specs.Histories.{reopened, opens, EndpointWithHistory, watches}
use Rattle.ncp_proof_connection.specs.Connections.{Connection, Text, No_text, Away, Here, text_after_outcome, sender_does, receiver_does, is_call, command_comes, ConnectionEvent, Sender_calls, Receiver_calls, Comes_to_sender, Comes_to_receiver, Text_goes_out, Text_comes, Text_is_answered, sender_hears, receiver_hears, text_comes, text_is_answered, occurs}
use Rattle.ncp_proof_connection.specs.Clearings.{is_at_sender, misses, text_dropped, text_over}
use Rattle.ncp_proof_connection.specs.Ledger.{text_bits}
use Rattle.ncp_proof_connection.proofs.Joint.{to_receiver_kind}
use Rattle.ncp_proof_connection.proofs.Lines.{Alien}
use Rattle.ncp_proof_connection.proofs.Whole.{Whole, turned_receives, alien_to_receiver}
use Rattle.ncp_proof_connection.proofs.Outliving.{Fit}
use Rattle.ncp_pipe.specs.Pipe.{Stage, Open, Pipe, Cuts_receiver, is_on, is_open}
use Rattle.ncp_proof_pipe.specs.Views.{stage, EndView, sender_view, receiver_view, pipe_of_views, FreshAt, sender_step, receiver_step, is_of_sender, is_of_receiver, Moves, pipe_of, FreshOn, MovesTo, event_steps, Sender_was_cut}
use Rattle.ncp_proof_pipe.proofs.Steps.{sender-steps, receiver-steps, text-goes, text-passes}
use Rattle.ncp_proof_pipe.proofs.Steps
use Rattle.ncp_proof_pipe.proofs.Sending.{sender-did, went, Went, Went_not, Went_out}
use Rattle.ncp_proof_pipe.proofs.Receiving.{receiver-did, came, Came, Came_in, Passed}
use Rattle.ncp_proof_pipe.proofs.Facts.{shut, dry, free, sender-sound, receiver-sound}

-- only a text that goes out is sent

call-keeps : {A : Type 0} → (r : Result A CallFault) (on : ℕ) (t : Text) → text_after_outcome on (outcome_of_call r) t ≡ t
call-keeps {A} (Ok a) on t = refl
call-keeps {A} (Err f) on t = refl

take-keeps : (r : Result (List Bool × Option Command) CallFault) (on : ℕ) (t : Text) → text_after_outcome on (of_take r) t ≡ t
take-keeps (Ok a) on t = refl
take-keeps (Err f) on t = refl

reply-keeps : (c : Command) (on : ℕ) (t : Text) → text_after_outcome on (of_reply c) t ≡ t
reply-keeps (Command.Err a b) on t = refl
reply-keeps c on t = refl

hearing-keeps : (h : Heard) (on : ℕ) (t : Text) → text_after_outcome on (of_hearing h) t ≡ t
hearing-keeps heard.Nothing on t = refl
hearing-keeps (heard.Reply c) on t = reply-keeps c on t
hearing-keeps heard.Late on t = refl
hearing-keeps heard.Full on t = refl

text-stays : (pair : Pair) (what : EndpointEvent) (s : Option Endpoint) (on : ℕ) (t : Text) → is_of_sender what ≡ true → text_after_outcome on (happens pair what s).outcome t ≡ t
text-stays pair (EndpointEvent.Asks_to_send a b n full) s on t o = call-keeps _ on t
text-stays pair (EndpointEvent.Asks_to_receive a b n full) s on t o = call-keeps _ on t
text-stays pair (EndpointEvent.Closes full) s on t o = call-keeps _ on t
text-stays pair (EndpointEvent.Gives text) s on t o = call-keeps _ on t
text-stays pair (EndpointEvent.Takes bytes) s on t o = take-keeps _ on t
text-stays pair (EndpointEvent.Allocates a b full) s on t o = call-keeps _ on t
text-stays pair (EndpointEvent.Calls_back a b full) s on t o = call-keeps _ on t
text-stays pair (EndpointEvent.Interrupts full) s on t o = call-keeps _ on t
text-stays pair (EndpointEvent.Rts_comes a b n) s on t o = hearing-keeps _ on t
text-stays pair (EndpointEvent.Str_comes a n) s on t o = hearing-keeps _ on t
text-stays pair EndpointEvent.Cls_comes s on t o = hearing-keeps _ on t
text-stays pair (EndpointEvent.All_comes a b n) s on t o = hearing-keeps _ on t
text-stays pair (EndpointEvent.Gvb_comes a b n) s on t o = hearing-keeps _ on t
text-stays pair (EndpointEvent.Ret_comes a b n) s on t o = hearing-keeps _ on t
text-stays pair (EndpointEvent.Inr_comes a) s on t o = hearing-keeps _ on t
text-stays pair (EndpointEvent.Ins_comes a) s on t o = hearing-keeps _ on t
text-stays pair (EndpointEvent.Is_answered how) s on t o = refl
text-stays pair EndpointEvent.Is_cleared s on t o = refl
text-stays pair EndpointEvent.Text_goes_out s on t o = absurd (cc o)
text-stays pair (EndpointEvent.Text_comes head size text) s on t o = absurd (cc o)

module _ (pair : Pair) (sd : sends pair ≡ true) where
  rd : receives (counterpart pair) ≡ true
  rd = turned_receives pair sd

  -- At a host that is there.

  pub sender-acts : (what : EndpointEvent) (b : Bool) (w v : Connection) (fresh : Bool) → is_of_sender what ≡ true → Fit pair true b w → FreshOn w fresh
      → v.sender ≡ w.sender → v.receiver ≡ w.receiver → text_bits v.text ≡ text_bits w.text
      → MovesTo (pipe_of w fresh) (sender_step what (happens pair what w.sender.end).outcome) (sender_does pair what v)
  sender-acts what b w v fresh o k f es er et =
      let d = sender-did pair sd what w.sender o (sender-sound pair sd true b w k) in
      let m = sender-steps what (sender_view w.sender.end) (sender_view (watches pair what w.sender).end) (receiver_view w.receiver.end) w.sender.past.given (watches pair what w.sender).past.given (text_bits w.text) fresh f
      (sender_step what (happens pair what w.sender.end).outcome) d (λ off n. shut pair sd b w k off) in
      let same : text_bits w.text ≡ text_bits (text_after_outcome (or_new v.sender.end).link (happens pair what v.sender.end).outcome v.text) = sym et ∙ ap text_bits (sym (text-stays pair what v.sender.end (or_new v.sender.end).link v.text o)) in
      subst (λ (x : List Bool). Moves (pipe_of w fresh) (sender_step what (happens pair what w.sender.end).outcome) (sender_view (watches pair what v.sender).end) (receiver_view v.receiver.end) x (watches pair what v.sender).past.given) same
      (subst (λ (x : EndpointWithHistory). Moves (pipe_of w fresh) (sender_step what (happens pair what w.sender.end).outcome) (sender_view (watches pair what x).end) (receiver_view v.receiver.end) (text_bits w.text) (watches pair what x).past.given) (sym es)
      (subst (λ (x : EndpointWithHistory). Moves (pipe_of w fresh) (sender_step what (happens pair what w.sender.end).outcome) (sender_view (watches pair what w.sender).end) (receiver_view x.end) (text_bits w.text) (watches pair what w.sender).past.given) (sym er) m))

  pub receiver-acts : (what : EndpointEvent) (a : Bool) (w v : Connection) (fresh : Bool) → is_of_receiver what ≡ true → Fit pair a true w → FreshOn w fresh
      → v.sender ≡ w.sender → v.receiver ≡ w.receiver → text_bits v.text ≡ text_bits w.text
      → MovesTo (pipe_of w fresh) (receiver_step what (happens (counterpart pair) what w.receiver.end).outcome) (receiver_does pair what v)
  receiver-acts what a w v fresh o k f es er et =
      let d = receiver-did (counterpart pair) rd what w.receiver.end o (receiver-sound pair sd a true w k) in
      let m = receiver-steps what (sender_view w.sender.end) (receiver_view w.receiver.end) (receiver_view (happens (counterpart pair) what w.receiver.end).after) w.sender.past.given (text_bits w.text) fresh f
      (receiver_step what (happens (counterpart pair) what w.receiver.end).outcome) d (λ c n. dry pair sd a w fresh k f c n) in
      subst (λ (x : List Bool). Moves (pipe_of w fresh) (receiver_step what (happens (counterpart pair) what w.receiver.end).outcome) (sender_view v.sender.end) (receiver_view (watches (counterpart pair) what v.receiver).end) x v.sender.past.given) (sym et)
      (subst (λ (x : EndpointWithHistory). Moves (pipe_of w fresh) (receiver_step what (happens (counterpart pair) what w.receiver.end).outcome) (sender_view x.end) (receiver_view (watches (counterpart pair) what v.receiver).end) (text_bits w.text) x.past.given) (sym es)
      (subst (λ (x : EndpointWithHistory). Moves (pipe_of w fresh) (receiver_step what (happens (counterpart pair) what w.receiver.end).outcome) (sender_view w.sender.end) (receiver_view (watches (counterpart pair) what x).end) (text_bits w.text) w.sender.past.given) (sym er) m))

  -- nothing that counts
  pub idle : (w v : Connection) (fresh : Bool) → FreshOn w fresh → v.sender ≡ w.sender → v.receiver ≡ w.receiver → text_bits v.text ≡ text_bits w.text → MovesTo (pipe_of w fresh) [] v
  idle w v fresh f es er et =
      subst (λ (x : List Bool). Moves (pipe_of w fresh) [] (sender_view v.sender.end) (receiver_view v.receiver.end) x v.sender.past.given) (sym et)
      (subst (λ (x : EndpointWithHistory). Moves (pipe_of w fresh) [] (sender_view x.end) (receiver_view v.receiver.end) (text_bits w.text) x.past.given) (sym es)
      (subst (λ (x : EndpointWithHistory). Moves (pipe_of w fresh) [] (sender_view w.sender.end) (receiver_view x.end) (text_bits w.text) w.sender.past.given) (sym er)
      (record { fresh = fresh; steps = []; run = refl; of_users = refl; still = f })))

  -- a text goes out
  pub goes : (b : Bool) (w : Connection) (fresh : Bool) → Fit pair true b w → FreshOn w fresh → MovesTo (pipe_of w fresh) [] (sender_does pair EndpointEvent.Text_goes_out w)
  goes b w fresh k f = go (went pair sd w.sender.end (sender-sound pair sd true b w k))
    where
      s : Option Endpoint
      s = w.sender.end

      z : Option Endpoint
      z = (happens pair EndpointEvent.Text_goes_out s).after

      out : Outcome
      out = (happens pair EndpointEvent.Text_goes_out s).outcome

      from : Pipe
      from = pipe_of w fresh

      same-given : opens s z ≡ false → w.sender.past.given ≡ (if opens s z then reopened w.sender.past else w.sender.past).given
      same-given e = rw e refl

      on-open : (x : Option Endpoint) → stage x ≡ Open → (sender_view x).stored ≡ (or_new x).stored
      on-open x e = ap (λ (y : Stage). if is_on y then (or_new x).stored else []) e

      go : Went pair sd s z out → MovesTo from [] (sender_does pair EndpointEvent.Text_goes_out w)
      go (Went_not e o n) =
          subst (λ (y : Outcome). Moves from [] (sender_view z) (receiver_view w.receiver.end) (text_bits (text_after_outcome (or_new s).link y w.text)) (if opens s z then reopened w.sender.past else w.sender.past).given) (sym o)
          (subst (λ (g : List Bool). Moves from [] (sender_view z) (receiver_view w.receiver.end) (text_bits w.text) g) (same-given n)
          (subst (λ (y : EndView). Moves from [] y (receiver_view w.receiver.end) (text_bits w.text) w.sender.past.given) e
          (record { fresh = fresh; steps = []; run = refl; of_users = refl; still = f })))
      go (Went_out size bits busy at_s at_z l m e o n) =
          let none : text_bits w.text ≡ [] = ap text_bits (free pair sd b w k busy) in
          let es = on-open s at_s in
          let ez = on-open z at_z in
          subst (λ (y : Outcome). Moves from [] (sender_view z) (receiver_view w.receiver.end) (text_bits (text_after_outcome (or_new s).link y w.text)) (if opens s z then reopened w.sender.past else w.sender.past).given) (sym o)
          (subst (λ (g : List Bool). Moves from [] (sender_view z) (receiver_view w.receiver.end) (take bits (or_new s).stored) g) (same-given n)
          (subst (λ (x : List Bool). Moves from [] (sender_view z) (receiver_view w.receiver.end) (take bits x) w.sender.past.given) es
          (text-goes (sender_view s) (sender_view z) (receiver_view w.receiver.end) w.sender.past.given (text_bits w.text) fresh bits f at_s at_z l (subst (λ (x : List Bool). bits ≤ length x) (sym es) m) (ez ∙ e ∙ ap (λ (x : List Bool). drop bits x) (sym es)) (λ r. none))))

  -- a text comes to a receiver's host that is there
  pub comes : (a : Bool) (w : Connection) (fresh : Bool) (head : List Bool) (li size : ℕ) (bits : List Bool) → Fit pair a true w → FreshOn w fresh → w.text ≡ Away li size bits
      → is_violation (happens (counterpart pair) (EndpointEvent.Text_comes head size bits) w.receiver.end).outcome ≡ false
      → MovesTo (pipe_of w fresh) [] (receiver_does pair (EndpointEvent.Text_comes head size bits) (record w { text = Here li }))
  comes a w fresh head li size bits k f t safe = go (came (counterpart pair) rd w.receiver.end head size bits (receiver-sound pair sd a true w k))
    where
      r : Option Endpoint
      r = w.receiver.end

      z : Option Endpoint
      z = (happens (counterpart pair) (EndpointEvent.Text_comes head size bits) r).after

      out-is : text_bits w.text ≡ bits
      out-is = ap text_bits t

      go : Came (counterpart pair) rd r z bits (happens (counterpart pair) (EndpointEvent.Text_comes head size bits) r).outcome → MovesTo (pipe_of w fresh) [] (receiver_does pair (EndpointEvent.Text_comes head size bits) (record w { text = Here li }))
      go (Came_in o l e) =
          Steps.text-comes (sender_view w.sender.end) (receiver_view r) (receiver_view z) w.sender.past.given (text_bits w.text) fresh f o (subst (λ (x : List Bool). length x ≤ (receiver_view r).bits) (sym out-is) l)
          (e ∙ ap (λ (x : List Bool). record (receiver_view r) { stored = (receiver_view r).stored ++ x; bits = (receiver_view r).bits - length x }) (sym out-is))
      go (Passed e c) =
          subst (λ (y : EndView). Moves (pipe_of w fresh) [] (sender_view w.sender.end) y [] w.sender.past.given) e
          (text-passes (sender_view w.sender.end) (receiver_view r) w.sender.past.given (text_bits w.text) [] fresh f (λ o. absurd (both_ways (is_open (stage r)) (c safe) o)))

  -- or to one that was cleared
  gone-shut : (a : Bool) (w : Connection) → Fit pair a false w → is_open (stage w.receiver.end) ≡ false
  gone-shut true w k = ap (λ (o : Option Endpoint). is_open (stage o)) k.gone
  gone-shut false w k = ap (λ (o : Option Endpoint). is_open (stage o)) k.no_receiver

  pub drops : (a : Bool) (w : Connection) (fresh : Bool) (li : ℕ) → Fit pair a false w → FreshOn w fresh → MovesTo (pipe_of w fresh) [] (record w { text = Here li })
  drops a w fresh li k f = text-passes (sender_view w.sender.end) (receiver_view w.receiver.end) w.sender.past.given (text_bits w.text) [] fresh f (λ o. absurd (both_ways (is_open (stage w.receiver.end)) (gone-shut a w k) o))

  call-of-sender : (what : EndpointEvent) → is_call what ≡ true → is_of_sender what ≡ true
  call-of-sender (EndpointEvent.Asks_to_send a b n full) e = refl
  call-of-sender (EndpointEvent.Asks_to_receive a b n full) e = refl
  call-of-sender (EndpointEvent.Closes full) e = refl
  call-of-sender (EndpointEvent.Gives text) e = refl
  call-of-sender (EndpointEvent.Takes bytes) e = refl
  call-of-sender (EndpointEvent.Allocates a b full) e = refl
  call-of-sender (EndpointEvent.Calls_back a b full) e = refl
  call-of-sender (EndpointEvent.Interrupts full) e = refl
  call-of-sender what e = absurd (cc e)

  call-of-receiver : (what : EndpointEvent) → is_call what ≡ true → is_of_receiver what ≡ true
  call-of-receiver (EndpointEvent.Asks_to_send a b n full) e = refl
  call-of-receiver (EndpointEvent.Asks_to_receive a b n full) e = refl
  call-of-receiver (EndpointEvent.Closes full) e = refl
  call-of-receiver (EndpointEvent.Gives text) e = refl
  call-of-receiver (EndpointEvent.Takes bytes) e = refl
  call-of-receiver (EndpointEvent.Allocates a b full) e = refl
  call-of-receiver (EndpointEvent.Calls_back a b full) e = refl
  call-of-receiver (EndpointEvent.Interrupts full) e = refl
  call-of-receiver what e = absurd (cc e)

  abbrev bare : Connection → Connection
  bare w = record w { to_receiver = []; to_sender = [] }

  abbrev after : ConnectionEvent → Bool → Bool → Connection → Connection
  after e a b v = if (if is_at_sender e then a else b) then occurs pair e v else misses e v

  second : (a b : Bool) → (a || b) ≡ false → b ≡ false
  second true b e = absurd (cc e)
  second false b e = e

  pub event : (e : ConnectionEvent) (a b : Bool) (w : Connection) (fresh : Bool) → Fit pair a b w → FreshOn w fresh → (after e a b (bare w)).violated ≡ false
      → MovesTo (pipe_of w fresh) (event_steps pair a b e w) (after e a b (bare w))
  event (Sender_calls what) false b w fresh k f safe = idle w (bare w) fresh f refl refl refl
  event (Sender_calls what) true b w fresh k f safe = go (is_call what) refl
    where
      go : (c : Bool) → is_call what ≡ c → MovesTo (pipe_of w fresh) (if c then sender_step what (happens pair what w.sender.end).outcome else []) (if c then sender_does pair what (bare w) else bare w)
      go true c = sender-acts what b w (bare w) fresh (call-of-sender what c) k f refl refl refl
      go false c = idle w (bare w) fresh f refl refl refl
  event (Receiver_calls what) a false w fresh k f safe = idle w (bare w) fresh f refl refl refl
  event (Receiver_calls what) a true w fresh k f safe = go (is_call what) refl
    where
      go : (c : Bool) → is_call what ≡ c → MovesTo (pipe_of w fresh) (if c then receiver_step what (happens (counterpart pair) what w.receiver.end).outcome else []) (if c then receiver_does pair what (bare w) else bare w)
      go true c = receiver-acts what a w (bare w) fresh (call-of-receiver what c) k f refl refl refl
      go false c = idle w (bare w) fresh f refl refl refl
  event (Comes_to_sender n) false b w fresh k f safe = idle w (bare w) fresh f refl refl refl
  event (Comes_to_sender n) true b w fresh k f safe = go (nat_lt n MAX_BY_PEER)
    where
      go : (c : Bool) → MovesTo (pipe_of w fresh) [] (if c then bare w else bare w)
      go true = idle w (bare w) fresh f refl refl refl
      go false = idle w (bare w) fresh f refl refl refl
  event (Comes_to_receiver n) a false w fresh k f safe = idle w (bare w) fresh f refl refl refl
  event (Comes_to_receiver n) a true w fresh k f safe = go (nat_lt n MAX_BY_PEER)
    where
      go : (c : Bool) → MovesTo (pipe_of w fresh) [] (if c then bare w else bare w)
      go true = idle w (bare w) fresh f refl refl refl
      go false = idle w (bare w) fresh f refl refl refl
  event Text_goes_out false b w fresh k f safe = idle w (bare w) fresh f refl refl refl
  event Text_goes_out true b w fresh k f safe = goes b w fresh k f
  event (Text_comes head) a true w fresh k f safe = go w.text refl safe
    where
      go : (t : Text) → w.text ≡ t → (text_comes pair head t (bare w)).violated ≡ false → MovesTo (pipe_of w fresh) [] (text_comes pair head t (bare w))
      go No_text t s = idle w (bare w) fresh f refl refl refl
      go (Away li n bits) t s = comes a w fresh head li n bits k f t (second w.violated _ s)
      go (Here li) t s = idle w (bare w) fresh f refl refl refl
  event (Text_comes head) a false w fresh k f safe = go w.text refl
    where
      go : (t : Text) → w.text ≡ t → MovesTo (pipe_of w fresh) [] (record (bare w) { text = text_dropped t })
      go No_text t = idle w (record (bare w) { text = No_text }) fresh f refl refl (ap text_bits (sym t))
      go (Away li n bits) t = drops a w fresh li k f
      go (Here li) t = idle w (record (bare w) { text = Here li }) fresh f refl refl (ap text_bits (sym t))
  event (Text_is_answered how) false b w fresh k f safe = go how w.text refl
    where
      go : (how : Answer) (t : Text) → w.text ≡ t → MovesTo (pipe_of w fresh) [] (record (bare w) { text = text_over how t })
      go Rfnm No_text t = idle w (record (bare w) { text = No_text }) fresh f refl refl (ap text_bits (sym t))
      go Rfnm (Away li n bits) t = idle w (record (bare w) { text = Away li n bits }) fresh f refl refl (ap text_bits (sym t))
      go Rfnm (Here li) t = idle w (record (bare w) { text = No_text }) fresh f refl refl (ap text_bits (sym t))
      go Incomplete x t = idle w (record (bare w) { text = x }) fresh f refl refl (ap text_bits (sym t))
      go Dead x t = idle w (record (bare w) { text = x }) fresh f refl refl (ap text_bits (sym t))
  event (Text_is_answered how) true b w fresh k f safe = go how w.text refl
    where
      go : (how : Answer) (t : Text) → w.text ≡ t → MovesTo (pipe_of w fresh) [] (text_is_answered pair how t (bare w))
      go Rfnm No_text t = idle w (bare w) fresh f refl refl refl
      go Rfnm (Away li n bits) t = idle w (bare w) fresh f refl refl refl
      go Rfnm (Here li) t = sender-acts (EndpointEvent.Is_answered Rfnm) b w (record (bare w) { text = No_text }) fresh refl k f refl refl (ap text_bits (sym t))
      go Incomplete No_text t = idle w (bare w) fresh f refl refl refl
      go Incomplete (Away li n bits) t = sender-acts (EndpointEvent.Is_answered Incomplete) b w (bare w) fresh refl k f refl refl refl
      go Incomplete (Here li) t = idle w (bare w) fresh f refl refl refl
      go Dead No_text t = idle w (bare w) fresh f refl refl refl
      go Dead (Away li n bits) t = sender-acts (EndpointEvent.Is_answered Dead) b w (bare w) fresh refl k f refl refl refl
      go Dead (Here li) t = idle w (bare w) fresh f refl refl refl

  -- a command that comes

  pub to-sender : (n : ℕ) (c : Command) (q : List Command) (b : Bool) (w : Connection) (fresh : Bool) → Fit pair true b w → FreshOn w fresh → MovesTo (pipe_of w fresh) [] (sender_hears pair (command_comes n c) (bare w))
  to-sender n (Rts i j on) q b w fresh k f = sender-acts (EndpointEvent.Rts_comes on false n) b w (bare w) fresh refl k f refl refl refl
  to-sender n (Str i j z) q b w fresh k f = sender-acts (EndpointEvent.Str_comes z n) b w (bare w) fresh refl k f refl refl refl
  to-sender n (Cls i j) q b w fresh k f = sender-acts EndpointEvent.Cls_comes b w (bare w) fresh refl k f refl refl refl
  to-sender n (All on x y) q b w fresh k f = sender-acts (EndpointEvent.All_comes on x y) b w (bare w) fresh refl k f refl refl refl
  to-sender n (Gvb on x y) q b w fresh k f = sender-acts (EndpointEvent.Gvb_comes on x y) b w (bare w) fresh refl k f refl refl refl
  to-sender n (Ret on x y) q b w fresh k f = sender-acts (EndpointEvent.Ret_comes on x y) b w (bare w) fresh refl k f refl refl refl
  to-sender n (Inr on) q b w fresh k f = sender-acts (EndpointEvent.Inr_comes on) b w (bare w) fresh refl k f refl refl refl
  to-sender n (Ins on) q b w fresh k f = sender-acts (EndpointEvent.Ins_comes on) b w (bare w) fresh refl k f refl refl refl
  to-sender n c q b w fresh k f = idle w (bare w) fresh f refl refl refl

  -- ALL, GVB and INR do not come to a receiver
  alien : {A : Type 0} → (c : Command) (p : List Command) (a : Bool) (w : Connection) → to_receiver_kind c ≡ Alien → w.to_receiver ≡ c ∷ p → Fit pair a true w → A
  alien {A} c p true w e u k = absurd (alien_to_receiver pair sd c p w e (subst (λ (x : List Command). Whole (record w { to_receiver = x })) u k.core))
  alien {A} c p false w e u k =
      let v : Connection = record w { sender = k.ghost; to_sender = k.to_ghost } in
      absurd (alien_to_receiver pair sd c (p ++ k.lost) v e (subst (λ (x : List Command). Whole (record v { to_receiver = x ++ k.lost })) u k.inv.core))

  pub to-receiver : (n : ℕ) (c : Command) (p : List Command) (a : Bool) (w : Connection) (fresh : Bool) → w.to_receiver ≡ c ∷ p → Fit pair a true w → FreshOn w fresh → MovesTo (pipe_of w fresh) [] (receiver_hears pair (command_comes n c) (bare w))
  to-receiver n (Rts i j on) p a w fresh u k f = receiver-acts (EndpointEvent.Rts_comes on false n) a w (bare w) fresh refl k f refl refl refl
  to-receiver n (Str i j z) p a w fresh u k f = receiver-acts (EndpointEvent.Str_comes z n) a w (bare w) fresh refl k f refl refl refl
  to-receiver n (Cls i j) p a w fresh u k f = receiver-acts EndpointEvent.Cls_comes a w (bare w) fresh refl k f refl refl refl
  to-receiver n (Ret on x y) p a w fresh u k f = receiver-acts (EndpointEvent.Ret_comes on x y) a w (bare w) fresh refl k f refl refl refl
  to-receiver n (Ins on) p a w fresh u k f = receiver-acts (EndpointEvent.Ins_comes on) a w (bare w) fresh refl k f refl refl refl
  to-receiver n (All on x y) p a w fresh u k f = alien (All on x y) p a w refl u k
  to-receiver n (Gvb on x y) p a w fresh u k f = alien (Gvb on x y) p a w refl u k
  to-receiver n (Inr on) p a w fresh u k f = alien (Inr on) p a w refl u k
  to-receiver n c p a w fresh u k f = idle w (bare w) fresh f refl refl refl

  -- clearings

  opens-none : (o : Option Endpoint) → opens o None ≡ false
  opens-none None = refl
  opens-none (Some e) = go e.opened
    where
      go : (b : Bool) → (not b && false) ≡ false
      go true = refl
      go false = refl

  pub sender-cut : (w : Connection) (fresh : Bool) → FreshOn w fresh → MovesTo (pipe_of w fresh) [] (record w { sender = watches pair EndpointEvent.Is_cleared w.sender })
  sender-cut w fresh f =
      let same : w.sender.past.given ≡ (if opens w.sender.end None then reopened w.sender.past else w.sender.past).given = rw (opens-none w.sender.end) refl in
      sender-steps EndpointEvent.Is_cleared (sender_view w.sender.end) (sender_view None) (receiver_view w.receiver.end) w.sender.past.given (if opens w.sender.end None then reopened w.sender.past else w.sender.past).given (text_bits w.text) fresh f [] (Sender_was_cut refl refl refl) (λ o n. absurd (cc n))

  pub receiver-cut : (w : Connection) (fresh : Bool) → FreshOn w fresh → MovesTo (pipe_of w fresh) [] (record w { receiver = watches (counterpart pair) EndpointEvent.Is_cleared w.receiver })
  receiver-cut w fresh f = cut-steps (sender_view w.sender.end) (receiver_view w.receiver.end) w.sender.past.given (text_bits w.text) fresh f
    where
      cut-steps : (s r : EndView) (given out : List Bool) (fresh : Bool) → FreshAt s.at s.stored given fresh → Moves (pipe_of_views s r out fresh) [] s (receiver_view None) out given
      cut-steps s r given out fresh f = record { fresh = fresh; steps = Cuts_receiver ∷ []; run = (_, refl, refl); of_users = refl; still = f }
