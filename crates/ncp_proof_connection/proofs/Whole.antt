-- Meant for other crates too: they cite what is public here.
--
-- What holds after every list of events.
use Rattle.std.proofs.Common.{◌≡◌, ℕ, Bool, true, false, not, ◌&&◌, nat_lt, cond, List, [], ◌∷◌, ◌++◌, Option, None, Some, refl, ap, sym, ◌∙◌, subst, arith}
use Rattle.std.proofs.lemmas.Bool.{both_ways, or_from, and_parts, not-true}
use Rattle.ncp_wire.specs.declared.command.Command.{Command}
use Rattle.ncp_wire.specs.declared.command.Command.TheVariants.{Rts, Str, Cls, All, Gvb, Ret, Inr, Ins}
use Rattle.ncp_model.specs.declared.pair.Pair.{Pair}
use Rattle.ncp_model.specs.declared.limits.TheConstants.{MAX_BY_PEER}
use Rattle.ncp_model.specs.Pairs.{sends, receives, counterpart}
use Rattle.ncp_model.specs.Amounts.{amount}
use Rattle.ncp_model.specs.Endpoint.{Endpoint, new_end, or_new, is_closing, is_open, is_live}
use Rattle.ncp_model.specs.Texts.{Answer, Rfnm, Incomplete, Dead}
use Rattle.ncp_proof_endpoint.specs.Sound.{SoundAt}
use Rattle.ncp_proof_endpoint.specs.Books.{BooksAt}
use Rattle.ncp_model.specs.Demux.{suits}
use Rattle.ncp_model.specs.EndpointEvents.{EndpointEvent, happens, is_violation}
use Rattle.ncp_proof_endpoint.proofs.SoundEnds.{one_way, sound-after}
use Rattle.ncp_proof_endpoint.proofs.BooksKept.{books-kept}
use Rattle.ncp_proof_connection.specs.Connections.{Text, No_text, Away, Here, Connection, new_connection, sender_does, receiver_does, is_call, ConnectionEvent, Sender_calls, Receiver_calls, Comes_to_sender, Comes_to_receiver, Text_goes_out, Text_comes, Text_is_answered, comes_to_sender, comes_to_receiver, text_comes, text_is_answered, occurs, occur_from, occur}
use Rattle.ncp_proof_connection.specs.Ledger.{sending, receiving, text_bits, BothOpenOnConnection, AmountsAgreeOnConnection, PartedOnConnection, Held, BeginsOnConnection, OutIsOpened}
use Rattle.ncp_proof_connection.proofs.Lines.{Alien}
use Rattle.ncp_proof_connection.proofs.Joint.{to_sender_kind, to_receiver_kind, Place, Together, Sender_ahead, Receiver_ahead, Joint, Core, EndpointInvariant, live_got, begun_empty}
use Rattle.ncp_proof_connection.proofs.Numbers.{books_new}
use Rattle.ncp_proof_connection.proofs.Senders.{going_parts}
use Rattle.ncp_proof_connection.proofs.Standing.{stands, stands-after, firm_of}
use Rattle.ncp_proof_connection.proofs.SenderActs.{sk-ask_send, sk-ask_receive, sk-close, sk-give, sk-take, sk-allocate, sk-call_back, sk-interrupt, sk-rts, sk-cls, sk-all, sk-gvb, sk-inr, sk-cut, sk-taken, sk-not_delivered}
use Rattle.ncp_proof_connection.proofs.ReceiverActs.{rk-ask_send, rk-ask_receive, rk-close, rk-give, rk-take, rk-allocate, rk-call_back, rk-interrupt, rk-str, rk-cls, rk-ret, rk-ins, rk-text, live}
use Rattle.ncp_proof_connection.proofs.Moments.{NoneYet, Front, none-kept, front-kept, receiver-begins, sender-begins, opens-by-request, none-where-heard, none-where-requested, ask-opens, request-opens}
use Rattle.ncp_proof_endpoint.specs.Histories.{PairHistory, opens, IsPrefix}

-- each end by itself
abbrev pub Local : Pair → Connection → Type 0
Local pair w = record {
  safe : w.violated ≡ false;
  s_sound : SoundAt pair w.sender.end;
  r_sound : SoundAt (counterpart pair) w.receiver.end;
  s_stands : stands w.sender.end ≡ true;
  r_stands : stands w.receiver.end ≡ true;
  books : BooksAt w.receiver.end w.receiver.past;
}

-- and both together
abbrev pub Whole : Connection → Type 0
Whole w = Core (or_new w.sender.end) w.sender.past.given (or_new w.receiver.end) (live_got w.receiver.end w.receiver.past) w.to_receiver w.to_sender w.text

-- and what was taken since the ask
abbrev pub Moment : Connection → Type 0
Moment w = record {
  none : NoneYet w.receiver.end w.receiver.past;
  front : Front w.receiver.end w.receiver.past;
  begins : IsPrefix w.receiver.past.taken w.sender.past.given;
}

pub record Inv (pair : Pair) (w : Connection) : Type 0 where
  pub local : Local pair w
  pub core : Whole w
  pub moment : Moment w

-- what a live receiver got
pub live-begins : (o : Option Endpoint) (past : PairHistory) (g : List Bool) → IsPrefix (live_got o past) g → is_live o ≡ true → IsPrefix past.got g
live-begins o past g k e = subst (λ (b : Bool). IsPrefix (cond b past.got []) g) e k

pub turned_receives : (pair : Pair) → sends pair ≡ true → receives (counterpart pair) ≡ true
turned_receives pair e = grind arith

module _ (pair : Pair) (sd : sends pair ≡ true) where
  rd : receives (counterpart pair) ≡ true
  rd = turned_receives pair sd

  pub s_firm : (w : Connection) → Local pair w → EndpointInvariant (or_new w.sender.end)
  s_firm w l = firm_of pair w.sender.end l.s_sound l.s_stands

  pub r_firm : (w : Connection) → Local pair w → EndpointInvariant (or_new w.receiver.end)
  r_firm w l = firm_of (counterpart pair) w.receiver.end l.r_sound l.r_stands

  s_step : (what : EndpointEvent) (w : Connection) → Local pair w → Moment w → (opens w.sender.end (happens pair what w.sender.end).after ≡ true → w.receiver.past.taken ≡ []) → is_violation (happens pair what w.sender.end).outcome ≡ false → Whole (sender_does pair what w)
      → Inv pair (sender_does pair what w)
  s_step what w l m o f k = record {
    local = record {
      safe = or_from w.violated (is_violation (happens pair what w.sender.end).outcome) l.safe f;
      s_sound = sound-after pair what w.sender.end l.s_sound;
      r_sound = l.r_sound;
      s_stands = stands-after pair what w.sender.end l.s_stands;
      r_stands = l.r_stands;
      books = l.books;
    };
    core = k;
    moment = record { none = m.none; front = m.front; begins = sender-begins pair what w.sender.end w.sender.past w.receiver.past.taken o m.begins };
  }

  r_step : (what : EndpointEvent) (w : Connection) → suits (counterpart pair) what ≡ true → Local pair w → Moment w → IsPrefix (live_got w.receiver.end w.receiver.past) w.sender.past.given → is_violation (happens (counterpart pair) what w.receiver.end).outcome ≡ false → Whole (receiver_does pair what w) → Inv pair (receiver_does pair what w)
  r_step what w d l m b f k = record {
    local = record {
      safe = or_from w.violated (is_violation (happens (counterpart pair) what w.receiver.end).outcome) l.safe f;
      s_sound = l.s_sound;
      r_sound = sound-after (counterpart pair) what w.receiver.end l.r_sound;
      s_stands = l.s_stands;
      r_stands = stands-after (counterpart pair) what w.receiver.end l.r_stands;
      books = books-kept (counterpart pair) what w.receiver.end w.receiver.past (one_way (counterpart pair) rd) d l.r_sound l.books;
    };
    core = k;
    moment = record {
      none = none-kept (counterpart pair) what w.receiver.end w.receiver.past (one_way (counterpart pair) rd) d l.r_sound m.none;
      front = front-kept (counterpart pair) what w.receiver.end w.receiver.past l.books m.front;
      begins = receiver-begins (counterpart pair) what w.receiver.end w.receiver.past w.sender.past.given l.books (live-begins w.receiver.end w.receiver.past w.sender.past.given b) m.begins;
    };
  }

  -- a sender opens by no other happening
  shut : (what : EndpointEvent) (w : Connection) → ((of_size with_room own : ℕ) (full : Bool) → what ≡ EndpointEvent.Asks_to_send of_size with_room own full → ⊥) → ((on by_peer : ℕ) (taken : Bool) → what ≡ EndpointEvent.Rts_comes on taken by_peer → ⊥)
      → opens w.sender.end (happens pair what w.sender.end).after ≡ true → w.receiver.past.taken ≡ []
  shut what w f g e = absurd (both_ways (opens w.sender.end (happens pair what w.sender.end).after) (opens-by-request pair what w.sender.end sd f g) e)

  -- The users call.

  pub sender_calls_keep : (what : EndpointEvent) (w : Connection) → is_call what ≡ true → Inv pair w → Inv pair (sender_does pair what w)
  sender_calls_keep what w c k = go what c
    where
      p : List Command
      p = w.to_receiver

      q : List Command
      q = w.to_sender

      r : Endpoint
      r = or_new w.receiver.end

      h : List Bool
      h = live_got w.receiver.end w.receiver.past

      fs : EndpointInvariant (or_new w.sender.end)
      fs = s_firm w k.local

      fr : EndpointInvariant r
      fr = r_firm w k.local

      go : (what : EndpointEvent) → is_call what ≡ true → Inv pair (sender_does pair what w)
      go (EndpointEvent.Asks_to_send n room own full) c = (let m = sk-ask_send pair sd w.sender.past r h p q w.text fr n room own full w.sender.end fs k.core in s_step (EndpointEvent.Asks_to_send n room own full) w k.local k.moment (λ e. let y = ask-opens pair n room own full w.sender.end e in none-where-heard (or_new w.sender.end) w.sender.past.given w.receiver.end w.receiver.past p q w.text k.moment.none k.moment.front y.0 y.1 y.2 k.core) m.fine m.core)
      go (EndpointEvent.Asks_to_receive room on own full) c = (let m = sk-ask_receive pair sd w.sender.past r h p q w.text fr room on own full w.sender.end k.core in s_step (EndpointEvent.Asks_to_receive room on own full) w k.local k.moment (shut (EndpointEvent.Asks_to_receive room on own full) w (λ z x y u e. cc e) (λ x y z e. cc e)) m.fine m.core)
      go (EndpointEvent.Closes full) c = (let m = sk-close pair sd w.sender.past r h p q w.text fr full w.sender.end fs k.local.s_stands k.core in s_step (EndpointEvent.Closes full) w k.local k.moment (shut (EndpointEvent.Closes full) w (λ z x y u e. cc e) (λ x y z e. cc e)) m.fine m.core)
      go (EndpointEvent.Gives text) c = (let m = sk-give pair sd w.sender.past r h p q w.text fr text w.sender.end fs k.core in s_step (EndpointEvent.Gives text) w k.local k.moment (shut (EndpointEvent.Gives text) w (λ z x y u e. cc e) (λ x y z e. cc e)) m.fine m.core)
      go (EndpointEvent.Takes bytes) c = (let m = sk-take pair sd w.sender.past r h p q w.text fr bytes w.sender.end k.core in s_step (EndpointEvent.Takes bytes) w k.local k.moment (shut (EndpointEvent.Takes bytes) w (λ z x y u e. cc e) (λ x y z e. cc e)) m.fine m.core)
      go (EndpointEvent.Allocates a b full) c = (let m = sk-allocate pair sd w.sender.past r h p q w.text fr a b full w.sender.end k.core in s_step (EndpointEvent.Allocates a b full) w k.local k.moment (shut (EndpointEvent.Allocates a b full) w (λ z x y u e. cc e) (λ x y z e. cc e)) m.fine m.core)
      go (EndpointEvent.Calls_back a b full) c = (let m = sk-call_back pair sd w.sender.past r h p q w.text fr a b full w.sender.end k.core in s_step (EndpointEvent.Calls_back a b full) w k.local k.moment (shut (EndpointEvent.Calls_back a b full) w (λ z x y u e. cc e) (λ x y z e. cc e)) m.fine m.core)
      go (EndpointEvent.Interrupts full) c = (let m = sk-interrupt pair sd w.sender.past r h p q w.text fr full w.sender.end fs k.core in s_step (EndpointEvent.Interrupts full) w k.local k.moment (shut (EndpointEvent.Interrupts full) w (λ z x y u e. cc e) (λ x y z e. cc e)) m.fine m.core)
      go (EndpointEvent.Rts_comes on taken by_peer) c = absurd (both_ways false refl c)
      go (EndpointEvent.Str_comes n by_peer) c = absurd (both_ways false refl c)
      go EndpointEvent.Cls_comes c = absurd (both_ways false refl c)
      go (EndpointEvent.All_comes on a b) c = absurd (both_ways false refl c)
      go (EndpointEvent.Gvb_comes on a b) c = absurd (both_ways false refl c)
      go (EndpointEvent.Ret_comes on a b) c = absurd (both_ways false refl c)
      go (EndpointEvent.Inr_comes on) c = absurd (both_ways false refl c)
      go (EndpointEvent.Ins_comes on) c = absurd (both_ways false refl c)
      go (EndpointEvent.Text_comes head n text) c = absurd (both_ways false refl c)
      go EndpointEvent.Text_goes_out c = absurd (both_ways false refl c)
      go (EndpointEvent.Is_answered how) c = absurd (both_ways false refl c)
      go EndpointEvent.Is_cleared c = absurd (both_ways false refl c)

  pub receiver_calls_keep : (what : EndpointEvent) (w : Connection) → is_call what ≡ true → Inv pair w → Inv pair (receiver_does pair what w)
  receiver_calls_keep what w c k = go what c
    where
      p : List Command
      p = w.to_receiver

      q : List Command
      q = w.to_sender

      s : Endpoint
      s = or_new w.sender.end

      g : List Bool
      g = w.sender.past.given

      fs : EndpointInvariant s
      fs = s_firm w k.local

      fr : EndpointInvariant (or_new w.receiver.end)
      fr = r_firm w k.local

      go : (what : EndpointEvent) → is_call what ≡ true → Inv pair (receiver_does pair what w)
      go (EndpointEvent.Asks_to_send n room own full) c = (let m = rk-ask_send (counterpart pair) rd w.receiver.past s g p q w.text fs n room own full w.receiver.end k.core in r_step (EndpointEvent.Asks_to_send n room own full) w refl k.local k.moment k.core.begun m.fine m.core)
      go (EndpointEvent.Asks_to_receive room on own full) c = (let m = rk-ask_receive (counterpart pair) rd w.receiver.past s g p q w.text fs room on own full w.receiver.end c fr k.core in r_step (EndpointEvent.Asks_to_receive room on own full) w refl k.local k.moment k.core.begun m.fine m.core)
      go (EndpointEvent.Closes full) c = (let m = rk-close (counterpart pair) rd w.receiver.past s g p q w.text fs full w.receiver.end fr k.local.r_stands k.core in r_step (EndpointEvent.Closes full) w refl k.local k.moment k.core.begun m.fine m.core)
      go (EndpointEvent.Gives text) c = (let m = rk-give (counterpart pair) rd w.receiver.past s g p q w.text fs text w.receiver.end k.core in r_step (EndpointEvent.Gives text) w refl k.local k.moment k.core.begun m.fine m.core)
      go (EndpointEvent.Takes bytes) c = (let m = rk-take (counterpart pair) rd w.receiver.past s g p q w.text fs bytes w.receiver.end fr k.core in r_step (EndpointEvent.Takes bytes) w refl k.local k.moment k.core.begun m.fine m.core)
      go (EndpointEvent.Allocates a b full) c = (let m = rk-allocate (counterpart pair) rd w.receiver.past s g p q w.text fs a b full w.receiver.end fr k.core in r_step (EndpointEvent.Allocates a b full) w refl k.local k.moment k.core.begun m.fine m.core)
      go (EndpointEvent.Calls_back a b full) c = (let m = rk-call_back (counterpart pair) rd w.receiver.past s g p q w.text fs a b full w.receiver.end fr k.core in r_step (EndpointEvent.Calls_back a b full) w refl k.local k.moment k.core.begun m.fine m.core)
      go (EndpointEvent.Interrupts full) c = (let m = rk-interrupt (counterpart pair) rd w.receiver.past s g p q w.text fs full w.receiver.end fr k.core in r_step (EndpointEvent.Interrupts full) w refl k.local k.moment k.core.begun m.fine m.core)
      go (EndpointEvent.Rts_comes on taken by_peer) c = absurd (both_ways false refl c)
      go (EndpointEvent.Str_comes n by_peer) c = absurd (both_ways false refl c)
      go EndpointEvent.Cls_comes c = absurd (both_ways false refl c)
      go (EndpointEvent.All_comes on a b) c = absurd (both_ways false refl c)
      go (EndpointEvent.Gvb_comes on a b) c = absurd (both_ways false refl c)
      go (EndpointEvent.Ret_comes on a b) c = absurd (both_ways false refl c)
      go (EndpointEvent.Inr_comes on) c = absurd (both_ways false refl c)
      go (EndpointEvent.Ins_comes on) c = absurd (both_ways false refl c)
      go (EndpointEvent.Text_comes head n text) c = absurd (both_ways false refl c)
      go EndpointEvent.Text_goes_out c = absurd (both_ways false refl c)
      go (EndpointEvent.Is_answered how) c = absurd (both_ways false refl c)
      go EndpointEvent.Is_cleared c = absurd (both_ways false refl c)

  -- The first command underway comes.

  pub alien_to_sender : (c : Command) (q : List Command) (w : Connection) → to_sender_kind c ≡ Alien → Whole (record w { to_sender = c ∷ q }) → ⊥
  alien_to_sender c q w e k = go k.place k.joint
    where
      go : (d : Place) → Joint d (or_new w.sender.end) w.sender.past.given (or_new w.receiver.end) (live_got w.receiver.end w.receiver.past) w.to_receiver (c ∷ q) w.text → ⊥
      go Together j = rw e at j.0.back
      go Sender_ahead j = absurd (cc (j.none))
      go Receiver_ahead j = rw e at j.passes

  pub alien_to_receiver : (c : Command) (p : List Command) (w : Connection) → to_receiver_kind c ≡ Alien → Whole (record w { to_receiver = c ∷ p }) → ⊥
  alien_to_receiver c p w e k = go k.place k.joint
    where
      go : (d : Place) → Joint d (or_new w.sender.end) w.sender.past.given (or_new w.receiver.end) (live_got w.receiver.end w.receiver.past) (c ∷ p) w.to_sender w.text → ⊥
      go Together j = rw e at j.0.there
      go Sender_ahead j = rw e at j.passes
      go Receiver_ahead j = absurd (cc (j.none))

  pub comes_to_sender_keeps : (n : ℕ) (q : List Command) (w : Connection) → nat_lt n MAX_BY_PEER ≡ true → Local pair w → Moment w → Whole (record w { to_sender = q }) → Inv pair (comes_to_sender pair n q (record w { to_sender = q }))
  comes_to_sender_keeps n [] w few l v k = record { local = l; core = k; moment = v }
  comes_to_sender_keeps n (Rts i j on ∷ q) w few l v k = (let m = sk-rts pair sd w.sender.past (or_new w.receiver.end) (live_got w.receiver.end w.receiver.past) w.to_receiver q w.text (r_firm w l) i j on n w.sender.end few (s_firm w l) k in s_step (EndpointEvent.Rts_comes on false n) (record w { to_sender = q }) l v (λ e. let y = request-opens pair on n false w.sender.end e in none-where-requested (or_new w.sender.end) w.sender.past.given w.receiver.end w.receiver.past w.to_receiver q w.text v.none v.front i j on y.0 y.1 k) m.fine m.core)
  comes_to_sender_keeps n (Cls i j ∷ q) w few l v k = (let m = sk-cls pair sd w.sender.past (or_new w.receiver.end) (live_got w.receiver.end w.receiver.past) w.to_receiver q w.text (r_firm w l) i j w.sender.end (s_firm w l) k in s_step EndpointEvent.Cls_comes (record w { to_sender = q }) l v (shut EndpointEvent.Cls_comes w (λ z x y u e. cc e) (λ x y z e. cc e)) m.fine m.core)
  comes_to_sender_keeps n (All on a b ∷ q) w few l v k = (let m = sk-all pair sd w.sender.past (or_new w.receiver.end) (live_got w.receiver.end w.receiver.past) w.to_receiver q w.text (r_firm w l) on a b w.sender.end (s_firm w l) k in s_step (EndpointEvent.All_comes on a b) (record w { to_sender = q }) l v (shut (EndpointEvent.All_comes on a b) w (λ z x y u e. cc e) (λ x y z e. cc e)) m.fine m.core)
  comes_to_sender_keeps n (Gvb on a b ∷ q) w few l v k = (let m = sk-gvb pair sd w.sender.past (or_new w.receiver.end) (live_got w.receiver.end w.receiver.past) w.to_receiver q w.text (r_firm w l) on a b w.sender.end (s_firm w l) k in s_step (EndpointEvent.Gvb_comes on a b) (record w { to_sender = q }) l v (shut (EndpointEvent.Gvb_comes on a b) w (λ z x y u e. cc e) (λ x y z e. cc e)) m.fine m.core)
  comes_to_sender_keeps n (Inr on ∷ q) w few l v k = (let m = sk-inr pair sd w.sender.past (or_new w.receiver.end) (live_got w.receiver.end w.receiver.past) w.to_receiver q w.text (r_firm w l) on w.sender.end (s_firm w l) k in s_step (EndpointEvent.Inr_comes on) (record w { to_sender = q }) l v (shut (EndpointEvent.Inr_comes on) w (λ z x y u e. cc e) (λ x y z e. cc e)) m.fine m.core)
  comes_to_sender_keeps n (Command.Nop ∷ q) w few l v k = absurd (alien_to_sender Command.Nop q w refl k)
  comes_to_sender_keeps n (Str i j m ∷ q) w few l v k = absurd (alien_to_sender (Str i j m) q w refl k)
  comes_to_sender_keeps n (Ret on a b ∷ q) w few l v k = absurd (alien_to_sender (Ret on a b) q w refl k)
  comes_to_sender_keeps n (Ins on ∷ q) w few l v k = absurd (alien_to_sender (Ins on) q w refl k)
  comes_to_sender_keeps n (Command.Eco b ∷ q) w few l v k = absurd (alien_to_sender (Command.Eco b) q w refl k)
  comes_to_sender_keeps n (Command.Erp b ∷ q) w few l v k = absurd (alien_to_sender (Command.Erp b) q w refl k)
  comes_to_sender_keeps n (Command.Err b d ∷ q) w few l v k = absurd (alien_to_sender (Command.Err b d) q w refl k)
  comes_to_sender_keeps n (Command.Rst ∷ q) w few l v k = absurd (alien_to_sender Command.Rst q w refl k)
  comes_to_sender_keeps n (Command.Rrp ∷ q) w few l v k = absurd (alien_to_sender Command.Rrp q w refl k)

  pub comes_to_receiver_keeps : (n : ℕ) (p : List Command) (w : Connection) → nat_lt n MAX_BY_PEER ≡ true → Local pair w → Moment w → Whole (record w { to_receiver = p }) → Inv pair (comes_to_receiver pair n p (record w { to_receiver = p }))
  comes_to_receiver_keeps n [] w few l v k = record { local = l; core = k; moment = v }
  comes_to_receiver_keeps n (Str i j z ∷ p) w few l v k = (let m = rk-str (counterpart pair) rd w.receiver.past (or_new w.sender.end) w.sender.past.given p w.to_sender w.text (s_firm w l) i j z n w.receiver.end few (r_firm w l) k in r_step (EndpointEvent.Str_comes z n) (record w { to_receiver = p }) refl l v k.begun m.fine m.core)
  comes_to_receiver_keeps n (Cls i j ∷ p) w few l v k = (let m = rk-cls (counterpart pair) rd w.receiver.past (or_new w.sender.end) w.sender.past.given p w.to_sender w.text (s_firm w l) i j w.receiver.end (r_firm w l) k in r_step EndpointEvent.Cls_comes (record w { to_receiver = p }) refl l v k.begun m.fine m.core)
  comes_to_receiver_keeps n (Ret on a b ∷ p) w few l v k = (let m = rk-ret (counterpart pair) rd w.receiver.past (or_new w.sender.end) w.sender.past.given p w.to_sender w.text (s_firm w l) on a b w.receiver.end (r_firm w l) k in r_step (EndpointEvent.Ret_comes on a b) (record w { to_receiver = p }) rd l v k.begun m.fine m.core)
  comes_to_receiver_keeps n (Ins on ∷ p) w few l v k = (let m = rk-ins (counterpart pair) rd w.receiver.past (or_new w.sender.end) w.sender.past.given p w.to_sender w.text (s_firm w l) on w.receiver.end (r_firm w l) k in r_step (EndpointEvent.Ins_comes on) (record w { to_receiver = p }) rd l v k.begun m.fine m.core)
  comes_to_receiver_keeps n (Command.Nop ∷ p) w few l v k = absurd (alien_to_receiver Command.Nop p w refl k)
  comes_to_receiver_keeps n (Rts i j m ∷ p) w few l v k = absurd (alien_to_receiver (Rts i j m) p w refl k)
  comes_to_receiver_keeps n (All on a b ∷ p) w few l v k = absurd (alien_to_receiver (All on a b) p w refl k)
  comes_to_receiver_keeps n (Gvb on a b ∷ p) w few l v k = absurd (alien_to_receiver (Gvb on a b) p w refl k)
  comes_to_receiver_keeps n (Inr on ∷ p) w few l v k = absurd (alien_to_receiver (Inr on) p w refl k)
  comes_to_receiver_keeps n (Command.Eco b ∷ p) w few l v k = absurd (alien_to_receiver (Command.Eco b) p w refl k)
  comes_to_receiver_keeps n (Command.Erp b ∷ p) w few l v k = absurd (alien_to_receiver (Command.Erp b) p w refl k)
  comes_to_receiver_keeps n (Command.Err b d ∷ p) w few l v k = absurd (alien_to_receiver (Command.Err b d) p w refl k)
  comes_to_receiver_keeps n (Command.Rst ∷ p) w few l v k = absurd (alien_to_receiver Command.Rst p w refl k)
  comes_to_receiver_keeps n (Command.Rrp ∷ p) w few l v k = absurd (alien_to_receiver Command.Rrp p w refl k)

  -- Texts.

  pub text_comes_keeps : (head : List Bool) (t : Text) (w : Connection) → Local pair w → Moment w → Whole (record w { text = t }) → Inv pair (text_comes pair head t (record w { text = t }))
  text_comes_keeps head No_text w l v k = record { local = l; core = k; moment = v }
  text_comes_keeps head (Away li n bits) w l v k = (let m = rk-text (counterpart pair) rd w.receiver.past (or_new w.sender.end) w.sender.past.given w.to_receiver w.to_sender (s_firm w l) head li n bits w.receiver.end (r_firm w l) k in r_step (EndpointEvent.Text_comes head n bits) (record w { text = Here li }) rd l v k.begun m.fine m.core)
  text_comes_keeps head (Here li) w l v k = record { local = l; core = k; moment = v }

  pub text_is_answered_keeps : (how : Answer) (t : Text) (w : Connection) → Local pair w → Moment w → Whole (record w { text = t }) → Inv pair (text_is_answered pair how t (record w { text = t }))
  text_is_answered_keeps Rfnm No_text w l v k = record { local = l; core = k; moment = v }
  text_is_answered_keeps Rfnm (Away li n bits) w l v k = record { local = l; core = k; moment = v }
  text_is_answered_keeps Rfnm (Here li) w l v k = (let m = sk-taken pair w.sender.past (or_new w.receiver.end) (live_got w.receiver.end w.receiver.past) w.to_receiver w.to_sender li (r_firm w l) sd w.sender.end (s_firm w l) k in s_step (EndpointEvent.Is_answered Rfnm) (record w { text = No_text }) l v (shut (EndpointEvent.Is_answered Rfnm) w (λ z x y u e. cc e) (λ x y z e. cc e)) m.fine m.core)
  text_is_answered_keeps Incomplete No_text w l v k = record { local = l; core = k; moment = v }
  text_is_answered_keeps Incomplete (Away li n bits) w l v k = (let m = sk-not_delivered pair w.sender.past (or_new w.receiver.end) (live_got w.receiver.end w.receiver.past) w.to_receiver w.to_sender li (r_firm w l) Incomplete w.sender.end (Away li n bits) refl k in s_step (EndpointEvent.Is_answered Incomplete) (record w { text = Away li n bits }) l v (shut (EndpointEvent.Is_answered Incomplete) w (λ z x y u e. cc e) (λ x y z e. cc e)) m.fine m.core)
  text_is_answered_keeps Incomplete (Here li) w l v k = record { local = l; core = k; moment = v }
  text_is_answered_keeps Dead No_text w l v k = record { local = l; core = k; moment = v }
  text_is_answered_keeps Dead (Away li n bits) w l v k = (let m = sk-not_delivered pair w.sender.past (or_new w.receiver.end) (live_got w.receiver.end w.receiver.past) w.to_receiver w.to_sender li (r_firm w l) Dead w.sender.end (Away li n bits) refl k in s_step (EndpointEvent.Is_answered Dead) (record w { text = Away li n bits }) l v (shut (EndpointEvent.Is_answered Dead) w (λ z x y u e. cc e) (λ x y z e. cc e)) m.fine m.core)
  text_is_answered_keeps Dead (Here li) w l v k = record { local = l; core = k; moment = v }

  split : (b : Bool) (x y : Connection) → (b ≡ true → Inv pair x) → (b ≡ false → Inv pair y) → Inv pair (cond b x y)
  split true x y f g = f refl
  split false x y f g = g refl

  pub keeps : (e : ConnectionEvent) (w : Connection) → Inv pair w → Inv pair (occurs pair e w)
  keeps (Sender_calls what) w k = split (is_call what) _ _ (λ c. sender_calls_keep what w c k) (λ _. k)
  keeps (Receiver_calls what) w k = split (is_call what) _ _ (λ c. receiver_calls_keep what w c k) (λ _. k)
  keeps (Comes_to_sender n) w k = split (nat_lt n MAX_BY_PEER) _ _ (λ few. comes_to_sender_keeps n w.to_sender w few k.local k.moment k.core) (λ _. k)
  keeps (Comes_to_receiver n) w k = split (nat_lt n MAX_BY_PEER) _ _ (λ few. comes_to_receiver_keeps n w.to_receiver w few k.local k.moment k.core) (λ _. k)
  keeps Text_goes_out w k = (let m = sk-cut pair sd w.sender.past (or_new w.receiver.end) (live_got w.receiver.end w.receiver.past) w.to_receiver w.to_sender w.text (r_firm w k.local) w.sender.end (s_firm w k.local) k.core in s_step EndpointEvent.Text_goes_out w k.local k.moment (shut EndpointEvent.Text_goes_out w (λ z x y u e. cc e) (λ x y z e. cc e)) m.fine m.core)
  keeps (Text_comes head) w k = text_comes_keeps head w.text w k.local k.moment k.core
  keeps (Text_is_answered how) w k = text_is_answered_keeps how w.text w k.local k.moment k.core

  keeps_from : (es : List ConnectionEvent) (w : Connection) → Inv pair w → Inv pair (occur_from pair es w)
  keeps_from [] w k = k
  keeps_from (e ∷ es) w k = keeps_from es (occurs pair e w) (keeps e w k)

  pub new_core : (g : List Bool) → Core new_end g new_end [] [] [] No_text
  new_core g = record {
    out = refl;
    sized = tt;
    begun = begun_empty g;
    dead = λ _. refl;
    place = Together;
    joint = (
      record { there = (refl, refl, λ _. refl); back = (refl, refl, λ _. refl) },
      books_new new_end g new_end [] [] [] No_text refl refl refl refl refl refl refl refl refl refl refl refl,
    );
  }

  pub ever : (es : List ConnectionEvent) → Inv pair (occur pair es)
  ever es = keeps_from es new_connection (record {
    local = record { safe = refl; s_sound = tt; r_sound = tt; s_stands = refl; r_stands = refl; books = tt };
    core = new_core [];
    moment = record { none = tt; front = λ e. absurd (both_ways false refl e); begins = begun_empty [] };
  })

  -- What the law says follows.

  pub open_parts : (e : Endpoint) → is_open e ≡ true → (e.asked ≡ true) × (e.heard ≡ true) × (is_closing e ≡ false)
  open_parts e o =
      let a = and_parts (e.asked && e.heard) (not (is_closing e)) o in
      let b = and_parts e.asked e.heard a.0 in
      (b.0, b.1, not-true (is_closing e) a.1)

  same_amount : {a b c d : ℕ} → a ≡ b → c ≡ d → amount a c ≡ amount b d
  same_amount e f = rw (e, f) refl

  pub both_open : (w : Connection) → Inv pair w → BothOpenOnConnection w → AmountsAgreeOnConnection w × PartedOnConnection w
  both_open w k o = go k.core.place k.core.joint
    where
      s : Endpoint
      s = sending w

      r : Endpoint
      r = receiving w

      sv : is_closing s ≡ false
      sv = (open_parts s o.0).2

      rv : is_closing r ≡ false
      rv = (open_parts r o.1).2

      so : s.opened ≡ true
      so = (s_firm w k.local).opens sv (open_parts s o.0).0 (open_parts s o.0).1

      ro : r.opened ≡ true
      ro = (r_firm w k.local).opens rv (open_parts r o.1).0 (open_parts r o.1).1

      go : (d : Place) → Joint d s w.sender.past.given r (live_got w.receiver.end w.receiver.past) w.to_receiver w.to_sender w.text → AmountsAgreeOnConnection w × PartedOnConnection w
      go Together j = (same_amount (omega (arith, j.1.messages rv sv)) (omega (arith, j.1.bits rv sv)), j.1.parted rv sv so ∙ ap (λ (x : List Bool). x ++ (text_bits w.text ++ s.stored)) (live w.receiver.end w.receiver.past ro))
      go Sender_ahead j = absurd (both_ways r.left (going_parts r rv).1 j.left)
      go Receiver_ahead j = absurd (both_ways s.left (going_parts s sv).1 j.left)

  live_opened : (o : Option Endpoint) → (or_new o).opened ≡ is_live o
  live_opened None = refl
  live_opened (Some e) = refl

  pub what_was_held : (w : Connection) → Inv pair w → Held w
  what_was_held w k v l = held w.receiver.end k.local.books v l
    where
      held : (o : Option Endpoint) → BooksAt o w.receiver.past → is_live o ≡ true → (or_new o).left ≡ false → w.receiver.past.got ≡ w.receiver.past.taken ++ (or_new o).stored
      held None b v l = absurd (both_ways false refl v)
      held (Some e) b v l = b.held v l

  pub what_begins : (w : Connection) → Inv pair w → BeginsOnConnection w
  what_begins w k v = subst (λ (x : List Bool). IsPrefix x w.sender.past.given) (live w.receiver.end w.receiver.past (live_opened w.receiver.end ∙ v)) k.core.begun

  -- from its output to its RFNM both ends have opened
  pub out_is_opened : (w : Connection) → Inv pair w → OutIsOpened w
  out_is_opened w k t = (sym (live_opened w.sender.end) ∙ so.0, sym (live_opened w.receiver.end) ∙ go k.core.place k.core.joint)
    where
      busy : (or_new w.sender.end).busy ≡ true
      busy = k.core.out ∙ t

      so : ((or_new w.sender.end).opened ≡ true) × ((or_new w.sender.end).left ≡ false)
      so = (s_firm w k.local).out busy

      from : (b : Bool) → (or_new w.receiver.end).opened ≡ b → ((or_new w.receiver.end).opened ≡ false → (or_new w.sender.end).busy ≡ false) → b ≡ true
      from true e f = refl
      from false e f = absurd (both_ways (or_new w.sender.end).busy (f e) busy)

      go : (d : Place) → Joint d (or_new w.sender.end) w.sender.past.given (or_new w.receiver.end) (live_got w.receiver.end w.receiver.past) w.to_receiver w.to_sender w.text → (or_new w.receiver.end).opened ≡ true
      go Together j = from (or_new w.receiver.end).opened refl (λ c. (j.1.early c).2)
      go Sender_ahead j = absurd (both_ways (or_new w.sender.end).heard j.unheard ((s_firm w k.local).marks so.0).1)
      go Receiver_ahead j = absurd (both_ways (or_new w.sender.end).left so.1 j.left)
