-- Meant for other crates too: they cite what is public here.
--
-- No event makes two ends hold one link.
use Rattle.std.proofs.Common.{◌≡◌, ℕ, Bool, true, false, not, ◌&&◌, nat_lt, if◌then◌else◌, List, [], ◌∷◌, ◌++◌, Option, None, Some, Result, Ok, Err, refl, arith, sym, ◌∙◌, subst, ◌⊎◌, inl, inr}
use Rattle.std.proofs.lemmas.Bool.{both_ways, and_from, not-true, eq-eqb, not_from_false}
use Rattle.ncp_wire.specs.declared.command.Command.{Command}
use Rattle.ncp_wire.specs.declared.command.Command.TheVariants.{Rts, Str, Cls, All, Gvb, Ret, Inr, Ins}
use Rattle.ncp_model.specs.declared.pair.Pair.{Pair}
use Rattle.ncp_model.specs.declared.call_fault.CallFault.{CallFault}
use Rattle.ncp_model.specs.declared.limits.TheConstants.{MAX_BY_PEER}
use Rattle.ncp_model.specs.Pairs.{sends, counterpart, same}
use Rattle.ncp_model.specs.Endpoint.{Endpoint, new_end, or_new, is_ended}
use Rattle.ncp_model.specs.Effect.{Effect, Becomes, answer, end_after, made_by_call, is_data_link}
use Rattle.ncp_model.specs.Calls.{unless_refused, may_ask_receive, ask_receive, asked_to_receive}
use Rattle.ncp_model.specs.Ends.{hears_link}
use Rattle.ncp_model.specs.Texts.{Rfnm, Incomplete, Dead}
use Rattle.ncp_model.specs.EndpointEvents.{EndpointEvent, happens}
use Rattle.ncp_proof_endpoint.specs.Histories.{EndpointWithHistory}
use Rattle.ncp_proof_connection.specs.Connections.{Text, No_text, Away, Here, Connection, sender_does, receiver_does, is_call, command_comes, ConnectionEvent, Sender_calls, Receiver_calls, Comes_to_sender, Comes_to_receiver, Text_goes_out, Text_comes, Text_is_answered, sender_hears, receiver_hears, comes_to_sender, comes_to_receiver, occurs}
use Rattle.ncp_proof_connection.specs.Clearings.{Hosted, Occurs, changes, is_at_sender, misses, text_over, text_dropped}
use Rattle.ncp_proof_connection.specs.Sharing.{Tagged, Shared, new_shared, only, connection_at, bringing, put_hosted, hears_at, uses_at, Shared_event, On, Next_to_senders, Next_to_receivers, Other_to_senders, Other_to_receivers, Senders_are_cleared, Receivers_are_cleared, All_start_empty, next_to_senders, next_to_receivers, shared_occurs, shared_from, shared, MayHappen, AllMayHappen}
use Rattle.ncp_proof_connection.proofs.Joint.{to_sender_kind, EndpointInvariant, sender_well}
use Rattle.ncp_proof_connection.proofs.Senders.{s_unheard, s_close_fits}
use Rattle.ncp_proof_connection.proofs.Whole.{s_firm, r_firm, turned_receives}
use Rattle.ncp_proof_connection.proofs.Outliving.{Fit, Nobody}
use Rattle.ncp_proof_connection.proofs.Projecting.{same_refl, apart, FitAt, AllFit, put_own, framed, framed_to_sender, framed_to_receiver, fits_keep, new_fits}
use Rattle.ncp_proof_connection.proofs.Calm.{no_rts, Left, keeps_link, SenderCalm, sender_calm, sender_hears_rts, sender_hears_cls, asks_link, ReceiverCalm, receiver_calm, makes_no_rts}
use Rattle.ncp_proof_connection.proofs.Clear.{Clear, Free, holds, still_left, clear_more, clear_cut, clear_popped, clear_noise}
use Rattle.ncp_proof_connection.proofs.Linking.{hears_from, hears_parts, uses_parts, asks_at, LinkFits, Before, Does, before_as, put_links, put_asks}

-- An end that is left, at a host that is there.

left_firm : (o : Option Endpoint) → EndpointInvariant (or_new o) → Left o
left_firm o f l = (false_if (or_new o).leaving (λ x. both_ways (or_new o).left (f.leaving x).1 l), (sender_well (or_new o) f).over l)
  where
    false_if : (b : Bool) → (b ≡ true → ⊥) → b ≡ false
    false_if true f = absurd (f refl)
    false_if false f = refl

left_of : (q : Pair) (sq : sends q ≡ true) (b : Bool) (w : Connection) → Fit q true b w → Left w.sender.end
left_of q sq true w k = left_firm w.sender.end (s_firm q sq w k.local)
left_of q sq false w k = left_firm w.sender.end (s_firm q sq (record w { receiver = k.ghost; to_receiver = k.to_ghost; to_sender = w.to_sender ++ k.lost }) k.inv.local)

-- What a connection does with nothing underway, but that its receiver asks.

record Facts (s r : EndpointWithHistory) (w : Connection) : Type 0 where
  sender : Left s.end → SenderCalm s.end w.sender.end
  receiver : ReceiverCalm r.end w.receiver.end
  made : no_rts w.to_sender ≡ true

nothing : (s r : EndpointWithHistory) (p : List Command) (t : Text) (v : Bool) → Facts s r (record { sender = s; receiver = r; to_receiver = p; to_sender = []; text = t; violated = v })
nothing s r p t v = record { sender = λ d. (λ h. (h, refl), λ l. l); receiver = λ h. (h, refl); made = refl }

abbrev asks : ConnectionEvent → Bool
asks (Receiver_calls what) = asks_link what
asks e = false

calls_keep_links : (what : EndpointEvent) → is_call what ≡ true → keeps_link what ≡ true
calls_keep_links (EndpointEvent.Asks_to_send n room own full) c = refl
calls_keep_links (EndpointEvent.Asks_to_receive room on own full) c = refl
calls_keep_links (EndpointEvent.Closes full) c = refl
calls_keep_links (EndpointEvent.Gives text) c = refl
calls_keep_links (EndpointEvent.Takes bytes) c = refl
calls_keep_links (EndpointEvent.Allocates a b full) c = refl
calls_keep_links (EndpointEvent.Calls_back a b full) c = refl
calls_keep_links (EndpointEvent.Interrupts full) c = refl
calls_keep_links (EndpointEvent.Rts_comes on taken by_peer) c = c
calls_keep_links (EndpointEvent.Str_comes n by_peer) c = refl
calls_keep_links EndpointEvent.Cls_comes c = c
calls_keep_links (EndpointEvent.All_comes on a b) c = refl
calls_keep_links (EndpointEvent.Gvb_comes on a b) c = refl
calls_keep_links (EndpointEvent.Ret_comes on a b) c = refl
calls_keep_links (EndpointEvent.Inr_comes on) c = refl
calls_keep_links (EndpointEvent.Ins_comes on) c = refl
calls_keep_links (EndpointEvent.Text_comes head n text) c = refl
calls_keep_links EndpointEvent.Text_goes_out c = refl
calls_keep_links (EndpointEvent.Is_answered how) c = refl
calls_keep_links EndpointEvent.Is_cleared c = c

module _ (q : Pair) (sq : sends q ≡ true) (s r : EndpointWithHistory) where
  sends_facts : (what : EndpointEvent) (t : Text) (v : Bool) → keeps_link what ≡ true → Facts s r (sender_does q what (record { sender = s; receiver = r; to_receiver = []; to_sender = []; text = t; violated = v }))
  sends_facts what t v c = record { sender = λ d. sender_calm q what s.end sq c d; receiver = λ h. (h, refl); made = refl }

  receives_facts : (what : EndpointEvent) (t : Text) (v : Bool) → asks_link what ≡ false → Facts s r (receiver_does q what (record { sender = s; receiver = r; to_receiver = []; to_sender = []; text = t; violated = v }))
  receives_facts what t v c = record {
    sender = λ d. (λ h. (h, refl), λ l. l);
    receiver = receiver_calm (counterpart q) what r.end (turned_receives q sq) c;
    made = makes_no_rts (counterpart q) what r.end (turned_receives q sq) c;
  }

  facts : (e : ConnectionEvent) (a b : Bool) (t : Text) (v : Bool) → asks e ≡ false
      → let w : Connection = record { sender = s; receiver = r; to_receiver = []; to_sender = []; text = t; violated = v } in
      Facts s r (if (if is_at_sender e then a else b) then occurs q e w else misses e w)
  facts (Sender_calls what) false b t v n = nothing s r [] t v
  facts (Sender_calls what) true b t v n = go (is_call what) refl
    where
      go : (c : Bool) → is_call what ≡ c → let w : Connection = record { sender = s; receiver = r; to_receiver = []; to_sender = []; text = t; violated = v } in Facts s r (if c then sender_does q what w else w)
      go true c = sends_facts what t v (calls_keep_links what c)
      go false c = nothing s r [] t v
  facts (Receiver_calls what) a false t v n = nothing s r [] t v
  facts (Receiver_calls what) a true t v n = go (is_call what)
    where
      go : (c : Bool) → let w : Connection = record { sender = s; receiver = r; to_receiver = []; to_sender = []; text = t; violated = v } in Facts s r (if c then receiver_does q what w else w)
      go true = receives_facts what t v n
      go false = nothing s r [] t v
  facts (Comes_to_sender m) false b t v n = nothing s r [] t v
  facts (Comes_to_sender m) true b t v n = go (nat_lt m MAX_BY_PEER)
    where
      go : (c : Bool) → let w : Connection = record { sender = s; receiver = r; to_receiver = []; to_sender = []; text = t; violated = v } in Facts s r (if c then w else w)
      go true = nothing s r [] t v
      go false = nothing s r [] t v
  facts (Comes_to_receiver m) a false t v n = nothing s r [] t v
  facts (Comes_to_receiver m) a true t v n = go (nat_lt m MAX_BY_PEER)
    where
      go : (c : Bool) → let w : Connection = record { sender = s; receiver = r; to_receiver = []; to_sender = []; text = t; violated = v } in Facts s r (if c then w else w)
      go true = nothing s r [] t v
      go false = nothing s r [] t v
  facts Text_goes_out false b t v n = nothing s r [] t v
  facts Text_goes_out true b t v n = sends_facts EndpointEvent.Text_goes_out t v refl
  facts (Text_comes head) a false t v n = nothing s r [] (text_dropped t) v
  facts (Text_comes head) a true No_text v n = nothing s r [] No_text v
  facts (Text_comes head) a true (Away li m bits) v n = receives_facts (EndpointEvent.Text_comes head m bits) (Here li) v refl
  facts (Text_comes head) a true (Here li) v n = nothing s r [] (Here li) v
  facts (Text_is_answered how) false b t v n = nothing s r [] (text_over how t) v
  facts (Text_is_answered Rfnm) true b No_text v n = nothing s r [] No_text v
  facts (Text_is_answered Rfnm) true b (Away li m bits) v n = nothing s r [] (Away li m bits) v
  facts (Text_is_answered Rfnm) true b (Here li) v n = sends_facts (EndpointEvent.Is_answered Rfnm) No_text v refl
  facts (Text_is_answered Incomplete) true b No_text v n = nothing s r [] No_text v
  facts (Text_is_answered Incomplete) true b (Away li m bits) v n = sends_facts (EndpointEvent.Is_answered Incomplete) (Away li m bits) v refl
  facts (Text_is_answered Incomplete) true b (Here li) v n = nothing s r [] (Here li) v
  facts (Text_is_answered Dead) true b No_text v n = nothing s r [] No_text v
  facts (Text_is_answered Dead) true b (Away li m bits) v n = sends_facts (EndpointEvent.Is_answered Dead) (Away li m bits) v refl
  facts (Text_is_answered Dead) true b (Here li) v n = nothing s r [] (Here li) v

-- what a calm sender held it held before
calm_holds : (on : ℕ) (q : Pair) (before after : Option Endpoint) → SenderCalm before after → hears_link on (q, or_new after) ≡ true → hears_link on (q, or_new before) ≡ true
calm_holds on q before after c k = (let u = hears_parts on q (or_new after) k in let v = c.0 u.1 in hears_from on q (or_new before) u.0 v.0 (sym v.1 ∙ u.2))

-- A connection that is calm keeps what holds of links.
calm_links : (q : Pair) (sq : sends q ≡ true) (h : Hosted) (s : Shared) → Facts (s.sender q) (s.receiver q) h.connection → (s.sends ≡ true → Left (s.sender q).end) → FitAt (put_hosted q h s) q → LinkFits s → LinkFits (put_hosted q h s)
calm_links q sq h s f left fit k = put_links q h s (λ on. hears_at s on q) (or_new (s.sender q).end).left (before_as q s k sq)
    (record {
      holds = λ e on m. held e on m;
      left = λ e m. (f.sender (left e)).1 m;
      alone = λ e p on d m w. both_ways (same q p) d (subst (λ (r : Pair). same q r ≡ true) (k.senders e q p on (held e on m) w) (same_refl q));
    })
    f.made fit (λ e. f.receiver)
  where
    held : s.sends ≡ true → (on : ℕ) → hears_link on (q, or_new h.connection.sender.end) ≡ true → hears_at s on q ≡ true
    held e on m = calm_holds on q (s.sender q).end h.connection.sender.end (f.sender (left e)) m

-- The receiver asks: it makes its RTS with that link, or nothing changes.

abbrev Way : Pair → ℕ → Option Endpoint → Effect (Result Command CallFault) → Type 0
Way pair on before act =
    ((made_by_call (answer act) ≡ []) × (end_after before act ≡ before))
    ⊎ ((made_by_call (answer act) ≡ Rts pair.local pair.remote on ∷ []) × ((or_new (end_after before act)).asked ≡ true) × ((or_new (end_after before act)).link ≡ on))

one_way : (pair : Pair) (room on own : ℕ) (full : Bool) (before : Option Endpoint) → Way pair on before (ask_receive pair room on own full before)
one_way pair room on own full before = go (may_ask_receive pair room own full before) refl
  where
    go : (may : Result (Unit {0}) CallFault) → may_ask_receive pair room own full before ≡ may
        → Way pair on before (unless_refused may (Becomes (asked_to_receive on room (or_new before)) (Ok (Rts pair.local pair.remote on))))
    go (Err f) m = inl (refl, refl)
    go (Ok _) m = let o : is_ended (asked_to_receive on room (or_new before)) ≡ false = grind arith in inr (refl, rw o refl, rw o refl)

-- an event of one connection

links_calm : (q : Pair) (sq : sends q ≡ true) (e : ConnectionEvent) (s : Shared) → asks e ≡ false → AllFit s → LinkFits s → LinkFits (put_hosted q (changes q (Occurs e) (bringing q [] [] s)) s)
links_calm q sq e s n f k =
    let h : Hosted = changes q (Occurs e) (bringing q [] [] s) in
    calm_links q sq h s (facts q sq (s.sender q) (s.receiver q) e s.sends s.receives (s.text q) (s.violated q) n) (λ a. left_of q sq s.receives (connection_at q s) (subst (λ (x : Bool). Fit q x s.receives (connection_at q s)) a (f q sq)))
    (put_own q h s (framed q sq (only q s.to_receivers) (only q s.to_senders) e s.sends s.receives (connection_at q s) (f q sq))) k

links_asks : (q : Pair) (sq : sends q ≡ true) (room on own : ℕ) (full : Bool) (s : Shared) → ((p : Pair) → uses_at s on p ≡ true → ⊥) → AllFit s → LinkFits s
    → LinkFits (put_hosted q (changes q (Occurs (Receiver_calls (EndpointEvent.Asks_to_receive room on own full))) (bringing q [] [] s)) s)
links_asks q sq room on own full s free f k = go s.receives refl (is_data_link on) (put_own q (changes q (Occurs e) (bringing q [] [] s)) s (framed q sq (only q s.to_receivers) (only q s.to_senders) e s.sends s.receives (connection_at q s) (f q sq)))
  where
    e : ConnectionEvent
    e = Receiver_calls (EndpointEvent.Asks_to_receive room on own full)

    w : Connection
    w = (bringing q [] [] s).connection

    hosted : Bool → Bool → Hosted
    hosted b c = record { connection = if b then (if c then receiver_does q (EndpointEvent.Asks_to_receive room on own full) w else w) else w; sends = s.sends; receives = s.receives }

    left : s.sends ≡ true → Left (s.sender q).end
    left a = left_of q sq s.receives (connection_at q s) (subst (λ (x : Bool). Fit q x s.receives (connection_at q s)) a (f q sq))

    still : (h : Hosted) → Facts (s.sender q) (s.receiver q) h.connection → FitAt (put_hosted q h s) q → LinkFits (put_hosted q h s)
    still h g fit = calm_links q sq h s g left fit k

    did : s.receives ≡ true → FitAt (put_hosted q (hosted true true) s) q → LinkFits (put_hosted q (hosted true true) s)
    did r fit = by_way (one_way (counterpart q) room on own full (s.receiver q).end)
      where
        by_way : ((happens (counterpart q) (EndpointEvent.Asks_to_receive room on own full) (s.receiver q).end).made ≡ []) × ((happens (counterpart q) (EndpointEvent.Asks_to_receive room on own full) (s.receiver q).end).after ≡ (s.receiver q).end)
            ⊎ ((happens (counterpart q) (EndpointEvent.Asks_to_receive room on own full) (s.receiver q).end).made ≡ Rts q.remote q.local on ∷ []) × ((or_new (happens (counterpart q) (EndpointEvent.Asks_to_receive room on own full) (s.receiver q).end).after).asked ≡ true) × ((or_new (happens (counterpart q) (EndpointEvent.Asks_to_receive room on own full) (s.receiver q).end).after).link ≡ on)
            → LinkFits (put_hosted q (hosted true true) s)
        by_way (inl x) = still (hosted true true) (record { sender = λ d. (λ h. (h, refl), λ l. l); receiver = subst (λ (o : Option Endpoint). ReceiverCalm (s.receiver q).end o) (sym x.1) (λ h. (h, refl)); made = rw x.0 refl }) fit
        by_way (inr x) = put_asks q (hosted true true) s (λ on. hears_at s on q) (or_new (s.sender q).end).left (before_as q s k sq)
            (record {
              holds = λ e on m. m;
              left = λ e m. m;
              alone = λ e p on d m w. both_ways (same q p) d (subst (λ (r : Pair). same q r ≡ true) (k.senders e q p on m w) (same_refl q));
            })
            q.remote q.local on x.0 sq x.1 x.2 r free

    go : (b : Bool) → s.receives ≡ b → (c : Bool) → FitAt (put_hosted q (hosted b c) s) q → LinkFits (put_hosted q (hosted b c) s)
    go true r true fit = did r fit
    go true r false fit = still (hosted true false) (nothing (s.sender q) (s.receiver q) [] (s.text q) (s.violated q)) fit
    go false r c fit = still (hosted false c) (nothing (s.sender q) (s.receiver q) [] (s.text q) (s.violated q)) fit

-- The first command underway comes to the senders.

pub record Popped (q : Pair) (c : Command) (rest : List Tagged) (s : Shared) : Type 0 where
  pub before : Before q (record s { to_senders = rest }) (λ on. holds (to_sender_kind c) true on (or_new (s.sender q).end).left (hears_at s on q)) (still_left (to_sender_kind c) true (or_new (s.sender q).end).left)

popped : (q : Pair) (c : Command) (rest : List Tagged) (s : Shared) → sends q ≡ true → LinkFits (record s { to_senders = record { pair = q; command = c } ∷ rest }) → Popped q c rest s
popped q c rest s sq k = record {
  before = record {
    own = λ e on. subst (λ (b : Bool). Clear q on rest (holds (to_sender_kind c) b on (or_new (s.sender q).end).left (hears_at s on q)) (still_left (to_sender_kind c) b (or_new (s.sender q).end).left) (asks_at s on q)) (same_refl q) (k.clear e q on sq).1;
    others = λ e p on d sp. clear_popped p on (record { pair = q; command = c }) rest (hears_at s on p) (or_new (s.sender p).end).left (asks_at s on p) d (k.clear e p on sp);
    senders = k.senders;
    receivers = k.receivers;
  };
}

-- what it does at an end that is there
module _ (q : Pair) (sq : sends q ≡ true) (n : ℕ) (rest : List Tagged) (s : Shared) where
  abbrev heard_as : EndpointEvent → Hosted
  heard_as what = record { connection = sender_does q what (record (bringing q [] [] s).connection { to_sender = [] }); sends = s.sends; receives = s.receives }

  -- what names no sockets changes no link
  calm_comes : (c : Command) (what : EndpointEvent) (rs : Shared) → (s.sends ≡ true → Left (s.sender q).end) → keeps_link what ≡ true → ((on : ℕ) (l h : Bool) → holds (to_sender_kind c) true on l h ≡ h) → ((l : Bool) → still_left (to_sender_kind c) true l ≡ l)
      → LinkFits (record s { to_senders = record { pair = q; command = c } ∷ rest })
      → Does q (heard_as what) (record s { to_senders = rest }) (λ on. holds (to_sender_kind c) true on (or_new (s.sender q).end).left (hears_at s on q)) (still_left (to_sender_kind c) true (or_new (s.sender q).end).left)
  calm_comes c what rs left kl same_h same_l k = record {
    holds = λ e on m. same_h on (or_new (s.sender q).end).left (hears_at s on q) ∙ held e on m;
    left = λ e m. (calm e).1 (sym (same_l (or_new (s.sender q).end).left) ∙ m);
    alone = λ e p on d m w. both_ways (same q p) d (subst (λ (r : Pair). same q r ≡ true) (k.senders e q p on (held e on m) w) (same_refl q));
  }
    where
      calm : s.sends ≡ true → SenderCalm (s.sender q).end (happens q what (s.sender q).end).after
      calm e = sender_calm q what (s.sender q).end sq kl (left e)

      held : s.sends ≡ true → (on : ℕ) → hears_link on (q, or_new (happens q what (s.sender q).end).after) ≡ true → hears_at s on q ≡ true
      held e on m = calm_holds on q (s.sender q).end (happens q what (s.sender q).end).after (calm e) m

  rts_comes : (i j on0 : ℕ) → s.sends ≡ true → Left (s.sender q).end → (or_new (s.sender q).end).heard ≡ false
      → LinkFits (record s { to_senders = record { pair = q; command = Rts i j on0 } ∷ rest })
      → Does q (heard_as (EndpointEvent.Rts_comes on0 false n)) (record s { to_senders = rest }) (λ on. holds (to_sender_kind (Rts i j on0)) true on (or_new (s.sender q).end).left (hears_at s on q)) (or_new (s.sender q).end).left
  rts_comes i j on0 a left u k = record {
    holds = λ e on m. eq-eqb on0 on (link on m);
    left = λ e m. facts2.1 m;
    alone = λ e p on d m w. both_ways (hears_at s on p) (free p on d (link on m) w) w;
  }
    where
      after : Option Endpoint
      after = (happens q (EndpointEvent.Rts_comes on0 false n) (s.sender q).end).after

      facts2 : ((or_new after).heard ≡ true → (or_new after).link ≡ on0) × ((or_new (s.sender q).end).left ≡ true → (or_new after).left ≡ true)
      facts2 = sender_hears_rts q on0 n (s.sender q).end sq left u

      link : (on : ℕ) → hears_link on (q, or_new after) ≡ true → on0 ≡ on
      link on m = (let v = hears_parts on q (or_new after) m in sym (facts2.0 v.1) ∙ v.2)

      free : (p : Pair) (on : ℕ) → same q p ≡ false → on0 ≡ on → hears_at s on p ≡ true → hears_at s on p ≡ false
      free p on d e w =
          let sp : sends p ≡ true = (hears_parts on p (or_new (s.sender p).end) w).0 in
          let f : Free (to_sender_kind (Rts i j on0)) (not (same q p) && sends q) on (hears_at s on p) = (k.clear a p on sp).0 in
          (rw (d, sq) at f) e

  cls_comes : (i j : ℕ) → s.sends ≡ true → (or_new (s.sender q).end).cls ≡ false
      → LinkFits (record s { to_senders = record { pair = q; command = Cls i j } ∷ rest })
      → Does q (heard_as EndpointEvent.Cls_comes) (record s { to_senders = rest }) (λ on. not (or_new (s.sender q).end).left && hears_at s on q) false
  cls_comes i j a c k = record {
    holds = λ e on m. (let v = held on m in and_from (not (or_new (s.sender q).end).left) (hears_at s on q) (not_from_false (or_new (s.sender q).end).left v.0) v.1);
    left = λ e m. absurd (both_ways false refl m);
    alone = λ e p on d m w. both_ways (same q p) d (subst (λ (r : Pair). same q r ≡ true) (k.senders e q p on (held on m).1 w) (same_refl q));
  }
    where
      after : Option Endpoint
      after = (happens q EndpointEvent.Cls_comes (s.sender q).end).after

      held : (on : ℕ) → hears_link on (q, or_new after) ≡ true → ((or_new (s.sender q).end).left ≡ false) × (hears_at s on q ≡ true)
      held on m =
          let v = hears_parts on q (or_new after) m in
          let g = sender_hears_cls q (s.sender q).end sq c v.1 in
          (g.0, hears_from on q (or_new (s.sender q).end) sq g.1 (sym g.2 ∙ v.2))

-- what comes to a sender that is there fits it
pub rts_fits : (q : Pair) (sq : sends q ≡ true) (i j on : ℕ) (cs : List Command) (b : Bool) (w : Connection) → Fit q true b (record w { to_sender = Rts i j on ∷ cs }) → (or_new w.sender.end).heard ≡ false
rts_fits q sq i j on cs true w k = (s_unheard _ _ _ _ _ cs w.text (s_firm q sq (record w { to_sender = Rts i j on ∷ cs }) k.local) (r_firm q sq (record w { to_sender = Rts i j on ∷ cs }) k.local) i j on k.core).0
rts_fits q sq i j on cs false w k =
    let g : Connection = record w { receiver = k.ghost; to_receiver = k.to_ghost; to_sender = Rts i j on ∷ (cs ++ k.lost) } in
    (s_unheard _ _ _ _ _ (cs ++ k.lost) w.text (s_firm q sq g k.inv.local) (r_firm q sq g k.inv.local) i j on k.inv.core).0

cls_fits : (q : Pair) (sq : sends q ≡ true) (i j : ℕ) (cs : List Command) (b : Bool) (w : Connection) → Fit q true b (record w { to_sender = Cls i j ∷ cs }) → (or_new w.sender.end).cls ≡ false
cls_fits q sq i j cs true w k = (s_close_fits _ _ _ _ _ cs w.text (s_firm q sq (record w { to_sender = Cls i j ∷ cs }) k.local) (r_firm q sq (record w { to_sender = Cls i j ∷ cs }) k.local) i j k.core).0
cls_fits q sq i j cs false w k =
    let g : Connection = record w { receiver = k.ghost; to_receiver = k.to_ghost; to_sender = Cls i j ∷ (cs ++ k.lost) } in
    (s_close_fits _ _ _ _ _ (cs ++ k.lost) w.text (s_firm q sq g k.inv.local) (r_firm q sq g k.inv.local) i j k.inv.core).0

module _ (n : ℕ) (q : Pair) (rest : List Tagged) (s : Shared) (sq : sends q ≡ true) where
  s1 : Shared
  s1 = record s { to_senders = rest }

  abbrev with_first : Command → Shared
  with_first c = record s { to_senders = record { pair = q; command = c } ∷ rest }

  abbrev hearing : Command → Hosted
  hearing c = record { connection = sender_hears q (command_comes n c) (bringing q [] [] s).connection; sends = s.sends; receives = s.receives }

  -- what names no sockets
  calmly : (c : Command) (what : EndpointEvent) → keeps_link what ≡ true → ((on : ℕ) (l h : Bool) → holds (to_sender_kind c) true on l h ≡ h) → ((l : Bool) → still_left (to_sender_kind c) true l ≡ l)
      → (s.sends ≡ true → Left (s.sender q).end) → LinkFits (with_first c) → FitAt (put_hosted q (heard_as q sq n rest s what) (record s { to_senders = rest })) q → LinkFits (put_hosted q (heard_as q sq n rest s what) (record s { to_senders = rest }))
  calmly c what kl sh sl left k fit = put_links q (heard_as q sq n rest s what) (record s { to_senders = rest }) _ _ (popped q c rest s sq k).before (calm_comes q sq n rest s c what s left kl sh sl k) refl fit (λ d h. (h, refl))

  -- what has no effect
  idly : (c : Command) → ((on : ℕ) (l h : Bool) → holds (to_sender_kind c) true on l h ≡ h) → ((l : Bool) → still_left (to_sender_kind c) true l ≡ l) → LinkFits (with_first c)
      → FitAt (put_hosted q (bringing q [] [] s) (record s { to_senders = rest })) q → LinkFits (put_hosted q (bringing q [] [] s) (record s { to_senders = rest }))
  idly c sh sl k fit = put_links q (bringing q [] [] s) (record s { to_senders = rest }) _ _ (popped q c rest s sq k).before
      (record {
        holds = λ e on m. sh on (or_new (s.sender q).end).left (hears_at s on q) ∙ m;
        left = λ e m. sym (sl (or_new (s.sender q).end).left) ∙ m;
        alone = λ e p on d m w. both_ways (same q p) d (subst (λ (r : Pair). same q r ≡ true) (k.senders e q p on m w) (same_refl q));
      }) refl fit (λ d h. (h, refl))

  comes : (c : Command) → s.sends ≡ true → Fit q true s.receives (record (connection_at q s) { to_sender = c ∷ only q rest }) → LinkFits (with_first c) → FitAt (put_hosted q (hearing c) (record s { to_senders = rest })) q → LinkFits (put_hosted q (hearing c) (record s { to_senders = rest }))
  comes (Rts i j on) a f k fit = put_links q (hearing (Rts i j on)) (record s { to_senders = rest }) _ _ (popped q (Rts i j on) rest s sq k).before
      (rts_comes q sq n rest s i j on a (left_of q sq s.receives (record (connection_at q s) { to_sender = Rts i j on ∷ only q rest }) f) (rts_fits q sq i j on (only q rest) s.receives (connection_at q s) f) k) refl fit (λ d h. (h, refl))
  comes (Cls i j) a f k fit = put_links q (hearing (Cls i j)) (record s { to_senders = rest }) _ _ (popped q (Cls i j) rest s sq k).before
      (cls_comes q sq n rest s i j a (cls_fits q sq i j (only q rest) s.receives (connection_at q s) f) k) refl fit (λ d h. (h, refl))
  comes (All on x y) a f k fit = calmly (All on x y) (EndpointEvent.All_comes on x y) refl (λ _ _ _. refl) (λ _. refl) (λ _. left_of q sq s.receives (record (connection_at q s) { to_sender = All on x y ∷ only q rest }) f) k fit
  comes (Gvb on x y) a f k fit = calmly (Gvb on x y) (EndpointEvent.Gvb_comes on x y) refl (λ _ _ _. refl) (λ _. refl) (λ _. left_of q sq s.receives (record (connection_at q s) { to_sender = Gvb on x y ∷ only q rest }) f) k fit
  comes (Inr on) a f k fit = calmly (Inr on) (EndpointEvent.Inr_comes on) refl (λ _ _ _. refl) (λ _. refl) (λ _. left_of q sq s.receives (record (connection_at q s) { to_sender = Inr on ∷ only q rest }) f) k fit
  comes (Str i j m) a f k fit = calmly (Str i j m) (EndpointEvent.Str_comes m n) refl (λ _ _ _. refl) (λ _. refl) (λ _. left_of q sq s.receives (record (connection_at q s) { to_sender = Str i j m ∷ only q rest }) f) k fit
  comes (Ret on x y) a f k fit = calmly (Ret on x y) (EndpointEvent.Ret_comes on x y) refl (λ _ _ _. refl) (λ _. refl) (λ _. left_of q sq s.receives (record (connection_at q s) { to_sender = Ret on x y ∷ only q rest }) f) k fit
  comes (Ins on) a f k fit = calmly (Ins on) (EndpointEvent.Ins_comes on) refl (λ _ _ _. refl) (λ _. refl) (λ _. left_of q sq s.receives (record (connection_at q s) { to_sender = Ins on ∷ only q rest }) f) k fit
  comes Command.Nop a f k fit = idly Command.Nop (λ _ _ _. refl) (λ _. refl) k fit
  comes (Command.Eco b) a f k fit = idly (Command.Eco b) (λ _ _ _. refl) (λ _. refl) k fit
  comes (Command.Erp b) a f k fit = idly (Command.Erp b) (λ _ _ _. refl) (λ _. refl) k fit
  comes (Command.Err b d) a f k fit = idly (Command.Err b d) (λ _ _ _. refl) (λ _. refl) k fit
  comes Command.Rst a f k fit = idly Command.Rst (λ _ _ _. refl) (λ _. refl) k fit
  comes Command.Rrp a f k fit = idly Command.Rrp (λ _ _ _. refl) (λ _. refl) k fit

to_sender_links : (n : ℕ) (q : Pair) (c : Command) (rest : List Tagged) (s : Shared) → sends q ≡ true → nat_lt n MAX_BY_PEER ≡ true
    → let s0 : Shared = record s { to_senders = record { pair = q; command = c } ∷ rest } in AllFit s0 → LinkFits s0
    → LinkFits (put_hosted q (changes q (Occurs (Comes_to_sender n)) (bringing q [] (c ∷ []) s0)) (record s { to_senders = rest }))
to_sender_links n q c rest s sq few f k =
    go s.sends refl (nat_lt n MAX_BY_PEER) few
    (put_own q (changes q (Occurs (Comes_to_sender n)) (bringing q [] (c ∷ []) s)) (record s { to_senders = rest })
    (framed_to_sender q sq (only q s.to_receivers) (only q rest) n c s.sends s.receives (connection_at q s) few fq))
  where
    fq : Fit q s.sends s.receives (record (connection_at q s) { to_sender = c ∷ only q rest })
    fq = rw (same_refl q) at (f q sq)

    w : Connection
    w = (bringing q [] (c ∷ []) s).connection

    w0 : Connection
    w0 = (bringing q [] [] s).connection

    hosted : Bool → Bool → Hosted
    hosted a x = record { connection = if a then (if x then comes_to_sender q n (c ∷ []) w else w) else w0; sends = s.sends; receives = s.receives }

    go : (a : Bool) → s.sends ≡ a → (x : Bool) → x ≡ true → FitAt (put_hosted q (hosted a x) (record s { to_senders = rest })) q → LinkFits (put_hosted q (hosted a x) (record s { to_senders = rest }))
    go false e x few fit = put_links q (hosted false x) (record s { to_senders = rest }) _ _ (popped q c rest s sq k).before (record { holds = λ d. absurd (both_ways s.sends e d); left = λ d. absurd (both_ways s.sends e d); alone = λ d. absurd (both_ways s.sends e d) }) refl fit (λ d h. (h, refl))
    go true e false few fit = absurd (both_ways false refl few)
    go true e true few fit = comes n q rest s sq c e (subst (λ (b : Bool). Fit q b s.receives (record (connection_at q s) { to_sender = c ∷ only q rest })) e fq) k fit

-- The first command underway comes to the receivers.

no_asks : (n : ℕ) (c : Command) (what : EndpointEvent) → command_comes n c ≡ Some what → asks_link what ≡ false
no_asks n c what e = go (command_comes n c) e refl
  where
    plain : Option EndpointEvent → Bool
    plain None = true
    plain (Some x) = not (asks_link x)

    all_plain : (c : Command) → plain (command_comes n c) ≡ true
    all_plain (Rts i j on) = refl
    all_plain (Cls i j) = refl
    all_plain (All on x y) = refl
    all_plain (Gvb on x y) = refl
    all_plain (Inr on) = refl
    all_plain (Str i j m) = refl
    all_plain (Ret on x y) = refl
    all_plain (Ins on) = refl
    all_plain Command.Nop = refl
    all_plain (Command.Eco b) = refl
    all_plain (Command.Erp b) = refl
    all_plain (Command.Err b d) = refl
    all_plain Command.Rst = refl
    all_plain Command.Rrp = refl

    go : (o : Option EndpointEvent) → o ≡ Some what → command_comes n c ≡ o → asks_link what ≡ false
    go o f g = not-true (asks_link what) (subst (λ (x : Option EndpointEvent). plain x ≡ true) (g ∙ f) (all_plain c))

to_receiver_links : (n : ℕ) (q : Pair) (c : Command) (rest : List Tagged) (s : Shared) → sends q ≡ true → nat_lt n MAX_BY_PEER ≡ true
    → let s0 : Shared = record s { to_receivers = record { pair = q; command = c } ∷ rest } in AllFit s0 → LinkFits s0
    → LinkFits (put_hosted q (changes q (Occurs (Comes_to_receiver n)) (bringing q (c ∷ []) [] s0)) (record s { to_receivers = rest }))
to_receiver_links n q c rest s sq few f k =
    go s.receives refl (nat_lt n MAX_BY_PEER) few
    (put_own q (changes q (Occurs (Comes_to_receiver n)) (bringing q (c ∷ []) [] s)) (record s { to_receivers = rest })
    (framed_to_receiver q sq (only q rest) (only q s.to_senders) n c s.sends s.receives (connection_at q s) few fq))
  where
    fq : Fit q s.sends s.receives (record (connection_at q s) { to_receiver = c ∷ only q rest })
    fq = rw (same_refl q) at (f q sq)

    w : Connection
    w = (bringing q (c ∷ []) [] s).connection

    w0 : Connection
    w0 = (bringing q [] [] s).connection

    left : s.sends ≡ true → Left (s.sender q).end
    left a = left_of q sq s.receives (record (connection_at q s) { to_receiver = c ∷ only q rest }) (subst (λ (x : Bool). Fit q x s.receives (record (connection_at q s) { to_receiver = c ∷ only q rest })) a fq)

    k1 : LinkFits (record s { to_receivers = rest })
    k1 = record { clear = k.clear; senders = k.senders; receivers = k.receivers }

    hosted : Bool → Bool → Hosted
    hosted b x = record { connection = if b then (if x then comes_to_receiver q n (c ∷ []) w else w) else w0; sends = s.sends; receives = s.receives }

    idle : (h : Hosted) → Facts (s.sender q) (s.receiver q) h.connection → FitAt (put_hosted q h (record s { to_receivers = rest })) q → LinkFits (put_hosted q h (record s { to_receivers = rest }))
    idle h g fit = calm_links q sq h (record s { to_receivers = rest }) g left fit k1

    by_happening : (o : Option EndpointEvent) → command_comes n c ≡ o → FitAt (put_hosted q (record { connection = receiver_hears q o w0; sends = s.sends; receives = s.receives }) (record s { to_receivers = rest })) q
        → LinkFits (put_hosted q (record { connection = receiver_hears q o w0; sends = s.sends; receives = s.receives }) (record s { to_receivers = rest }))
    by_happening None e fit = idle (record { connection = w0; sends = s.sends; receives = s.receives }) (nothing (s.sender q) (s.receiver q) [] (s.text q) (s.violated q)) fit
    by_happening (Some what) e fit = idle (record { connection = receiver_does q what w0; sends = s.sends; receives = s.receives }) (receives_facts q sq (s.sender q) (s.receiver q) what (s.text q) (s.violated q) (no_asks n c what e)) fit

    go : (b : Bool) → s.receives ≡ b → (x : Bool) → x ≡ true → FitAt (put_hosted q (hosted b x) (record s { to_receivers = rest })) q → LinkFits (put_hosted q (hosted b x) (record s { to_receivers = rest }))
    go false e x few fit = idle (hosted false x) (nothing (s.sender q) (s.receiver q) [] (s.text q) (s.violated q)) fit
    go true e false few fit = absurd (both_ways false refl few)
    go true e true few fit = by_happening (command_comes n c) refl fit

-- Every event.

to_senders_links : (n : ℕ) (xs : List Tagged) (s : Shared) → nat_lt n MAX_BY_PEER ≡ true → AllFit (record s { to_senders = xs }) → LinkFits (record s { to_senders = xs }) → LinkFits (next_to_senders n xs (record s { to_senders = xs }))
to_senders_links n [] s few f k = k
to_senders_links n (c ∷ rest) s few f k = go (sends c.pair) refl
  where
    h : Hosted
    h = changes c.pair (Occurs (Comes_to_sender n)) (bringing c.pair [] (c.command ∷ []) (record s { to_senders = c ∷ rest }))

    go : (b : Bool) → sends c.pair ≡ b → LinkFits (if b then put_hosted c.pair h (record s { to_senders = rest }) else record s { to_senders = rest })
    go true e = to_sender_links n c.pair c.command rest s e few f k
    go false e = record {
      clear = λ a p on sp. clear_popped p on c rest (hears_at s on p) (or_new (s.sender p).end).left (asks_at s on p) (apart c.pair p sp e) (k.clear a p on sp);
      senders = k.senders;
      receivers = k.receivers;
    }

to_receivers_links : (n : ℕ) (xs : List Tagged) (s : Shared) → nat_lt n MAX_BY_PEER ≡ true → AllFit (record s { to_receivers = xs }) → LinkFits (record s { to_receivers = xs }) → LinkFits (next_to_receivers n xs (record s { to_receivers = xs }))
to_receivers_links n [] s few f k = k
to_receivers_links n (c ∷ rest) s few f k = go (sends c.pair) refl
  where
    h : Hosted
    h = changes c.pair (Occurs (Comes_to_receiver n)) (bringing c.pair (c.command ∷ []) [] (record s { to_receivers = c ∷ rest }))

    go : (b : Bool) → sends c.pair ≡ b → LinkFits (if b then put_hosted c.pair h (record s { to_receivers = rest }) else record s { to_receivers = rest })
    go true e = to_receiver_links n c.pair c.command rest s e few f k
    go false e = record { clear = k.clear; senders = k.senders; receivers = k.receivers }

-- the receiver's link is free where it asks
links_on : (q : Pair) (sq : sends q ≡ true) (e : ConnectionEvent) (s : Shared) → MayHappen (On q e) s → AllFit s → LinkFits s → LinkFits (put_hosted q (changes q (Occurs e) (bringing q [] [] s)) s)
links_on q sq (Sender_calls what) s m f k = links_calm q sq (Sender_calls what) s refl f k
links_on q sq (Comes_to_sender n) s m f k = links_calm q sq (Comes_to_sender n) s refl f k
links_on q sq (Comes_to_receiver n) s m f k = links_calm q sq (Comes_to_receiver n) s refl f k
links_on q sq Text_goes_out s m f k = links_calm q sq Text_goes_out s refl f k
links_on q sq (Text_comes head) s m f k = links_calm q sq (Text_comes head) s refl f k
links_on q sq (Text_is_answered how) s m f k = links_calm q sq (Text_is_answered how) s refl f k
links_on q sq (Receiver_calls (EndpointEvent.Asks_to_receive room on own full)) s m f k = links_asks q sq room on own full s m f k
links_on q sq (Receiver_calls (EndpointEvent.Asks_to_send a b c full)) s m f k = links_calm q sq (Receiver_calls (EndpointEvent.Asks_to_send a b c full)) s refl f k
links_on q sq (Receiver_calls (EndpointEvent.Closes full)) s m f k = links_calm q sq (Receiver_calls (EndpointEvent.Closes full)) s refl f k
links_on q sq (Receiver_calls (EndpointEvent.Gives text)) s m f k = links_calm q sq (Receiver_calls (EndpointEvent.Gives text)) s refl f k
links_on q sq (Receiver_calls (EndpointEvent.Takes bytes)) s m f k = links_calm q sq (Receiver_calls (EndpointEvent.Takes bytes)) s refl f k
links_on q sq (Receiver_calls (EndpointEvent.Allocates a b full)) s m f k = links_calm q sq (Receiver_calls (EndpointEvent.Allocates a b full)) s refl f k
links_on q sq (Receiver_calls (EndpointEvent.Calls_back a b full)) s m f k = links_calm q sq (Receiver_calls (EndpointEvent.Calls_back a b full)) s refl f k
links_on q sq (Receiver_calls (EndpointEvent.Interrupts full)) s m f k = links_calm q sq (Receiver_calls (EndpointEvent.Interrupts full)) s refl f k
links_on q sq (Receiver_calls (EndpointEvent.Rts_comes on taken n)) s m f k = links_calm q sq (Receiver_calls (EndpointEvent.Rts_comes on taken n)) s refl f k
links_on q sq (Receiver_calls (EndpointEvent.Str_comes a n)) s m f k = links_calm q sq (Receiver_calls (EndpointEvent.Str_comes a n)) s refl f k
links_on q sq (Receiver_calls EndpointEvent.Cls_comes) s m f k = links_calm q sq (Receiver_calls EndpointEvent.Cls_comes) s refl f k
links_on q sq (Receiver_calls (EndpointEvent.All_comes on a b)) s m f k = links_calm q sq (Receiver_calls (EndpointEvent.All_comes on a b)) s refl f k
links_on q sq (Receiver_calls (EndpointEvent.Gvb_comes on a b)) s m f k = links_calm q sq (Receiver_calls (EndpointEvent.Gvb_comes on a b)) s refl f k
links_on q sq (Receiver_calls (EndpointEvent.Ret_comes on a b)) s m f k = links_calm q sq (Receiver_calls (EndpointEvent.Ret_comes on a b)) s refl f k
links_on q sq (Receiver_calls (EndpointEvent.Inr_comes on)) s m f k = links_calm q sq (Receiver_calls (EndpointEvent.Inr_comes on)) s refl f k
links_on q sq (Receiver_calls (EndpointEvent.Ins_comes on)) s m f k = links_calm q sq (Receiver_calls (EndpointEvent.Ins_comes on)) s refl f k
links_on q sq (Receiver_calls (EndpointEvent.Text_comes head n text)) s m f k = links_calm q sq (Receiver_calls (EndpointEvent.Text_comes head n text)) s refl f k
links_on q sq (Receiver_calls EndpointEvent.Text_goes_out) s m f k = links_calm q sq (Receiver_calls EndpointEvent.Text_goes_out) s refl f k
links_on q sq (Receiver_calls (EndpointEvent.Is_answered how)) s m f k = links_calm q sq (Receiver_calls (EndpointEvent.Is_answered how)) s refl f k
links_on q sq (Receiver_calls EndpointEvent.Is_cleared) s m f k = links_calm q sq (Receiver_calls EndpointEvent.Is_cleared) s refl f k

-- a host that was cleared has no ends
gone_hears : (s : Shared) → AllFit s → s.sends ≡ false → s.receives ≡ false → (p : Pair) (on : ℕ) → hears_at s on p ≡ true → ⊥
gone_hears s f a b p on m =
    let u = hears_parts on p (or_new (s.sender p).end) m in
    let fit : Nobody (connection_at p s) = subst (λ (x : Bool). Fit p x false (connection_at p s)) a (subst (λ (x : Bool). Fit p s.sends x (connection_at p s)) b (f p u.0)) in
    both_ways (or_new (s.sender p).end).heard (rw (fit.no_sender) refl) u.1

gone_uses : (s : Shared) → AllFit s → s.sends ≡ false → s.receives ≡ false → (p : Pair) (on : ℕ) → uses_at s on p ≡ true → ⊥
gone_uses s f a b p on m =
    let u = uses_parts on p (or_new (s.receiver p).end) m in
    let fit : Nobody (connection_at p s) = subst (λ (x : Bool). Fit p x false (connection_at p s)) a (subst (λ (x : Bool). Fit p s.sends x (connection_at p s)) b (f p u.0)) in
    both_ways (or_new (s.receiver p).end).asked (rw (fit.no_receiver) refl) u.1

pub links_keep : (e : Shared_event) (s : Shared) → MayHappen e s → AllFit s → LinkFits s → LinkFits (shared_occurs e s)
links_keep (On q e) s m f k = go (sends q) refl
  where
    go : (b : Bool) → sends q ≡ b → LinkFits (if b then put_hosted q (changes q (Occurs e) (bringing q [] [] s)) s else s)
    go true d = links_on q d e s m f k
    go false d = k
links_keep (Next_to_senders n) s m f k = go (nat_lt n MAX_BY_PEER) refl
  where
    go : (b : Bool) → nat_lt n MAX_BY_PEER ≡ b → LinkFits (if b then next_to_senders n s.to_senders s else s)
    go true few = to_senders_links n s.to_senders s few f k
    go false few = k
links_keep (Next_to_receivers n) s m f k = go (nat_lt n MAX_BY_PEER) refl
  where
    go : (b : Bool) → nat_lt n MAX_BY_PEER ≡ b → LinkFits (if b then next_to_receivers n s.to_receivers s else s)
    go true few = to_receivers_links n s.to_receivers s few f k
    go false few = k
links_keep (Other_to_senders c) s m f k = go (sends c.pair) refl
  where
    go : (b : Bool) → sends c.pair ≡ b → LinkFits (if b then s else record s { to_senders = s.to_senders ++ c ∷ [] })
    go true d = k
    go false d = record {
      clear = λ a p on sp. clear_more p on s.to_senders (c ∷ []) (hears_at s on p) (or_new (s.sender p).end).left (asks_at s on p) (asks_at s on p) (λ h2 l2 w. clear_noise p on c h2 l2 (asks_at s on p) (apart c.pair p sp d) d w) (k.clear a p on sp);
      senders = k.senders;
      receivers = k.receivers;
    }
links_keep (Other_to_receivers c) s m f k = go (sends c.pair) refl
  where
    go : (b : Bool) → sends c.pair ≡ b → LinkFits (if b then s else record s { to_receivers = s.to_receivers ++ c ∷ [] })
    go true d = k
    go false d = record { clear = k.clear; senders = k.senders; receivers = k.receivers }
links_keep (Senders_are_cleared n) s m f k = record { clear = λ a. absurd (both_ways false refl a); senders = λ a. absurd (both_ways false refl a); receivers = k.receivers }
links_keep (Receivers_are_cleared n) s m f k = record {
  clear = λ a p on sp. clear_cut p on n s.to_senders (hears_at s on p) (or_new (s.sender p).end).left (asks_at s on p) (k.clear a p on sp);
  senders = k.senders;
  receivers = λ a. absurd (both_ways false refl a);
}
links_keep All_start_empty s m f k = record {
  clear = λ a p on sp x. absurd (gone_hears s f m.0 m.1 p on x);
  senders = λ a p q on x y. absurd (gone_hears s f m.0 m.1 p on x);
  receivers = λ a p q on x y. absurd (gone_uses s f m.0 m.1 p on x);
}

links_from : (es : List Shared_event) (s : Shared) → AllMayHappen es s → AllFit s → LinkFits s → LinkFits (shared_from es s)
links_from [] s m f k = k
links_from (e ∷ es) s m f k = links_from es (shared_occurs e s) m.1 (fits_keep e s m.0 f) (links_keep e s m.0 f k)

new_links : LinkFits new_shared
new_links = record {
  clear = λ a p on sp x. absurd (both_ways false refl (hears_parts on p new_end x).1);
  senders = λ a p q on x y. absurd (both_ways false refl (hears_parts on p new_end x).1);
  receivers = λ a p q on x y. absurd (both_ways false refl (uses_parts on p new_end x).1);
}

pub links_ever : (es : List Shared_event) → AllMayHappen es new_shared → LinkFits (shared es)
links_ever es m = links_from es new_shared m new_fits new_links
