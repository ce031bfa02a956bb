-- A GVB or its RET is underway, in every connection whose two hosts are there.
use Rattle.std.proofs.Common.{◌≡◌, ℕ, ◌+◌, ◌≤◌, ◌<◌, Bool, true, false, ◌||◌, nat_lt, cond, if◌then◌else◌, List, [], ◌∷◌, ◌++◌, Option, None, Some, refl, sym, ap, ◌∙◌, subst, arith}
use Rattle.std.proofs.lemmas.Bool.{both_ways}
use Rattle.std.proofs.lemmas.List.{append-nil}
use Rattle.ncp_wire.specs.declared.command.Command.{Command}
use Rattle.ncp_wire.specs.declared.command.Command.TheVariants.{Rts, Str, Cls, All, Gvb, Ret, Inr, Ins}
use Rattle.ncp_model.specs.declared.pair.Pair.{Pair}
use Rattle.ncp_model.specs.declared.limits.TheConstants.{MAX_BY_PEER}
use Rattle.ncp_model.specs.Pairs.{sends, counterpart, same}
use Rattle.ncp_model.specs.Endpoint.{Endpoint, new_end, or_new, is_closing}
use Rattle.ncp_model.specs.Texts.{Answer, Rfnm, Incomplete, Dead}
use Rattle.ncp_model.specs.EndpointEvents.{EndpointEvent, happens, is_violation}
use Rattle.ncp_proof_endpoint.specs.Sound.{SoundAt}
use Rattle.ncp_proof_endpoint.specs.Histories.{EndpointWithHistory}
use Rattle.ncp_proof_connection.specs.Connections.{Text, No_text, Away, Here, Connection, sender_does, receiver_does, is_call, command_comes, ConnectionEvent, Sender_calls, Receiver_calls, Comes_to_sender, Comes_to_receiver, Text_goes_out, Text_comes, Text_is_answered, sender_hears, receiver_hears, comes_to_sender, comes_to_receiver, text_comes, text_is_answered, occurs}
use Rattle.ncp_proof_connection.specs.Clearings.{Hosted, Occurs, changes, is_at_sender}
use Rattle.ncp_proof_connection.proofs.Lines.{Kind, Request, Close, Data, Alien, Comes, Passes, comes_asked}
use Rattle.ncp_proof_connection.proofs.Joint.{to_receiver_kind, kinds, Place, Together, Sender_ahead, Receiver_ahead, Joint, EndpointInvariant, live_got}
use Rattle.ncp_proof_connection.proofs.Whole.{Inv, r_firm}
use Rattle.ncp_proof_connection.proofs.Outliving.{Fit}
use Rattle.ncp_proof_connection.specs.Sharing.{Tagged, Shared, new_shared, only, tag, connection_at, bringing, put_hosted, Shared_event, On, Next_to_senders, Next_to_receivers, Other_to_senders, Other_to_receivers, Senders_are_cleared, Receivers_are_cleared, All_start_empty, next_to_senders, next_to_receivers, shared_occurs, shared_from, shared, MayHappen, AllMayHappen}
use Rattle.ncp_proof_connection.proofs.Projecting.{same_refl, same_true, only_more, only_own, only_other, apart, AllFit, fits_keep, new_fits}
use Rattle.ncp_proof_recovery.proofs.CallingBack.{is_gvb, is_ret, is_cls, many, many-more, Recalled, sender-keeps, receiver-keeps, gvb-fits, ret-fits, cls-fits}

abbrev pub Answers : Connection → Type 0
Answers w = Recalled (or_new w.sender.end) (or_new w.receiver.end) w.to_receiver w.to_sender

-- Where the sender has no end, a CLS of it is underway to a receiver that has opened.

passes-close : (g h : Bool) (x y : ℕ) (p : List Command) (a o l : Bool) (n : ℕ) → Passes g h x y (kinds to_receiver_kind p) a o l n → many is_cls p ≡ 0 → ⊥
passes-close g h x y [] a o l n k z = k
passes-close g h x y (Str i j m ∷ p) a o l n k z = passes-close g true m y p a o l n k.2 (omega (arith, z))
passes-close g h x y (Cls i j ∷ p) a o l n k z = omega (arith, z)
passes-close g h x y (Ret on i j ∷ p) a o l n k z = passes-close g h x y p a o l n k.3 (omega (arith, z))
passes-close g h x y (Ins on ∷ p) a o l n k z = passes-close g h x y p a o l n k.3 (omega (arith, z))
passes-close g h x y (c ∷ p) a o l n k z = k

sound-recall : (pair : Pair) (o : Option Endpoint) → SoundAt pair o → (or_new o).recall ≡ true → (or_new o).opened ≡ true
sound-recall pair None s c = absurd (both_ways false refl c)
sound-recall pair (Some e) s c = go e.opened refl
  where
    go : (b : Bool) → e.opened ≡ b → e.opened ≡ true
    go true t = t
    go false t = absurd (both_ways e.recall (s.recall t) c)

-- What one connection does where nothing is underway, it does where something is.

abbrev onto : List Command → List Command → Connection → Connection
onto p q w = record w { to_receiver = p ++ w.to_receiver; to_sender = q ++ w.to_sender }

abbrev with : List Command → List Command → Connection → Connection
with p q w = record w { to_receiver = p; to_sender = q }

module _ (pair : Pair) (sd : sends pair ≡ true) where
  pub none-sends : (w : Connection) → Inv pair w → w.sender.end ≡ None → Answers w
  none-sends w k e c g h z = absurd (go k.core.place k.core.joint)
    where
      r : Endpoint
      r = or_new w.receiver.end

      heard : r.heard ≡ true
      heard = ((r_firm pair sd w k.local).marks (sound-recall (counterpart pair) w.receiver.end k.local.r_sound c)).1

      new : or_new w.sender.end ≡ new_end
      new = ap or_new e

      go : (d : Place) → Joint d (or_new w.sender.end) w.sender.past.given r (live_got w.receiver.end w.receiver.past) w.to_receiver w.to_sender w.text → ⊥
      go Together j = both_ways (or_new w.sender.end).asked (ap (λ (e : Endpoint). e.asked) new) (comes_asked r.heard r.cls r.size r.link (kinds to_receiver_kind w.to_receiver) (or_new w.sender.end).asked (or_new w.sender.end).heard (or_new w.sender.end).left (or_new w.sender.end).size heard j.0.there)
      go Sender_ahead j = passes-close r.asked r.heard r.size r.link w.to_receiver (or_new w.sender.end).asked (or_new w.sender.end).heard (or_new w.sender.end).left (or_new w.sender.end).size j.passes z
      go Receiver_ahead j = both_ways (or_new w.sender.end).left (ap (λ (e : Endpoint). e.left) new) j.left

  second : (a b : Bool) → (a || b) ≡ false → b ≡ false
  second true b e = absurd (both_ways true e refl)
  second false b e = e

  -- q' is what is left of what was underway to the sender, q
  sender-acts : (what : EndpointEvent) (w : Connection) (p q q' : List Command)
      → ((e : Endpoint) → is_violation (happens pair what w.sender.end).outcome ≡ false → (happens pair what w.sender.end).after ≡ Some e → is_closing e ≡ false → many is_gvb q ≤ many is_gvb q' + many is_ret (happens pair what w.sender.end).made)
      → Inv pair (onto p q' (sender_does pair what (with [] [] w))) → Answers (with p q w) → Answers (onto p q' (sender_does pair what (with [] [] w)))
  sender-acts what w p q q' f i k = go (happens pair what w.sender.end).after refl
    where
      safe : is_violation (happens pair what w.sender.end).outcome ≡ false
      safe = second w.violated (is_violation (happens pair what w.sender.end).outcome) i.local.safe

      go : (o : Option Endpoint) → (happens pair what w.sender.end).after ≡ o → Answers (onto p q' (sender_does pair what (with [] [] w)))
      go None t = none-sends (onto p q' (sender_does pair what (with [] [] w))) i t
      go (Some e) t =
          subst (λ (l : List Command). Recalled (or_new (happens pair what w.sender.end).after) (or_new w.receiver.end) (p ++ (happens pair what w.sender.end).made) l) (sym (append-nil q'))
          (subst (λ (o : Option Endpoint). Recalled (or_new o) (or_new w.receiver.end) (p ++ (happens pair what w.sender.end).made) q') (sym t)
          (sender-keeps pair what w.sender.end e (or_new w.receiver.end) p q q' t (f e safe t) k))

  -- p' is what is left of what was underway to the receiver, p
  receiver-acts : (what : EndpointEvent) (w : Connection) (p p' q : List Command)
      → ((e : Endpoint) → is_violation (happens (counterpart pair) what w.receiver.end).outcome ≡ false → (happens (counterpart pair) what w.receiver.end).after ≡ Some e → is_closing e ≡ false → e.recall ≡ true → (many is_ret p ≤ many is_ret p') × (many is_cls p ≡ many is_cls p'))
      → Inv pair (onto p' q (receiver_does pair what (with [] [] w))) → Answers (with p q w) → Answers (onto p' q (receiver_does pair what (with [] [] w)))
  receiver-acts what w p p' q f i k = go (happens (counterpart pair) what w.receiver.end).after refl
    where
      safe : is_violation (happens (counterpart pair) what w.receiver.end).outcome ≡ false
      safe = second w.violated (is_violation (happens (counterpart pair) what w.receiver.end).outcome) i.local.safe

      go : (o : Option Endpoint) → (happens (counterpart pair) what w.receiver.end).after ≡ o → Answers (onto p' q (receiver_does pair what (with [] [] w)))
      go None t = λ c g h n. absurd (both_ways (or_new (happens (counterpart pair) what w.receiver.end).after).recall (ap (λ (o : Option Endpoint). (or_new o).recall) t) c)
      go (Some e) t =
          subst (λ (l : List Command). Recalled (or_new w.sender.end) (or_new (happens (counterpart pair) what w.receiver.end).after) l (q ++ (happens (counterpart pair) what w.receiver.end).made)) (sym (append-nil p'))
          (subst (λ (o : Option Endpoint). Recalled (or_new w.sender.end) (or_new o) p' (q ++ (happens (counterpart pair) what w.receiver.end).made)) (sym t)
          (receiver-keeps (counterpart pair) what w.receiver.end (or_new w.sender.end) e p p' q t (f e safe t) k))

  nothing : (p q : List Command) (w : Connection) → Answers (with p q w) → Answers (onto p q (with [] [] w))
  nothing p q w k = subst (λ (l : List Command). Recalled (or_new w.sender.end) (or_new w.receiver.end) l (q ++ [])) (sym (append-nil p)) (subst (λ (l : List Command). Recalled (or_new w.sender.end) (or_new w.receiver.end) p l) (sym (append-nil q)) k)

  -- what is underway stays so
  sender-does : (what : EndpointEvent) (w : Connection) (p q : List Command) → Inv pair (onto p q (sender_does pair what (with [] [] w))) → Answers (with p q w) → Answers (onto p q (sender_does pair what (with [] [] w)))
  sender-does what w p q i k = sender-acts what w p q q (λ e v t h. omega arith) i k

  receiver-does : (what : EndpointEvent) (w : Connection) (p q : List Command) → Inv pair (onto p q (receiver_does pair what (with [] [] w))) → Answers (with p q w) → Answers (onto p q (receiver_does pair what (with [] [] w)))
  receiver-does what w p q i k = receiver-acts what w p p q (λ e v t h c. (omega arith, refl)) i k

  -- the first command underway comes
  to-sender : (n : ℕ) (c : Command) (w : Connection) (p q : List Command) → Inv pair (onto p q (sender_hears pair (command_comes n c) (with [] [] w))) → Answers (with p (c ∷ q) w) → Answers (onto p q (sender_hears pair (command_comes n c) (with [] [] w)))
  to-sender n (Rts a b on) w p q i k = sender-acts (EndpointEvent.Rts_comes on false n) w p (Rts a b on ∷ q) q (λ e v t h. omega arith) i k
  to-sender n (Str a b z) w p q i k = sender-acts (EndpointEvent.Str_comes z n) w p (Str a b z ∷ q) q (λ e v t h. omega arith) i k
  to-sender n (Cls a b) w p q i k = sender-acts EndpointEvent.Cls_comes w p (Cls a b ∷ q) q (λ e v t h. omega arith) i k
  to-sender n (All on a b) w p q i k = sender-acts (EndpointEvent.All_comes on a b) w p (All on a b ∷ q) q (λ e v t h. omega arith) i k
  to-sender n (Gvb on a b) w p q i k = sender-acts (EndpointEvent.Gvb_comes on a b) w p (Gvb on a b ∷ q) q (λ e v t h. gvb-fits pair on a b w.sender.end e q v t h) i k
  to-sender n (Ret on a b) w p q i k = sender-acts (EndpointEvent.Ret_comes on a b) w p (Ret on a b ∷ q) q (λ e v t h. omega arith) i k
  to-sender n (Inr on) w p q i k = sender-acts (EndpointEvent.Inr_comes on) w p (Inr on ∷ q) q (λ e v t h. omega arith) i k
  to-sender n (Ins on) w p q i k = sender-acts (EndpointEvent.Ins_comes on) w p (Ins on ∷ q) q (λ e v t h. omega arith) i k
  to-sender n c w p q i k = nothing p q w (λ a b g d. let j = k a b g d in omega (arith, j))

  to-receiver : (n : ℕ) (c : Command) (w : Connection) (p q : List Command) → Inv pair (onto p q (receiver_hears pair (command_comes n c) (with [] [] w))) → Answers (with (c ∷ p) q w) → Answers (onto p q (receiver_hears pair (command_comes n c) (with [] [] w)))
  to-receiver n (Rts a b on) w p q i k = receiver-acts (EndpointEvent.Rts_comes on false n) w (Rts a b on ∷ p) p q (λ e v t h c. (omega arith, omega arith)) i k
  to-receiver n (Str a b z) w p q i k = receiver-acts (EndpointEvent.Str_comes z n) w (Str a b z ∷ p) p q (λ e v t h c. (omega arith, omega arith)) i k
  to-receiver n (Cls a b) w p q i k = receiver-acts EndpointEvent.Cls_comes w (Cls a b ∷ p) p q (λ e v t h c. absurd (cls-fits (counterpart pair) w.receiver.end e v t h)) i k
  to-receiver n (All on a b) w p q i k = receiver-acts (EndpointEvent.All_comes on a b) w (All on a b ∷ p) p q (λ e v t h c. (omega arith, omega arith)) i k
  to-receiver n (Gvb on a b) w p q i k = receiver-acts (EndpointEvent.Gvb_comes on a b) w (Gvb on a b ∷ p) p q (λ e v t h c. (omega arith, omega arith)) i k
  to-receiver n (Ret on a b) w p q i k = receiver-acts (EndpointEvent.Ret_comes on a b) w (Ret on a b ∷ p) p q (λ e v t h c. absurd (ret-fits (counterpart pair) on a b w.receiver.end e v t h c)) i k
  to-receiver n (Inr on) w p q i k = receiver-acts (EndpointEvent.Inr_comes on) w (Inr on ∷ p) p q (λ e v t h c. (omega arith, omega arith)) i k
  to-receiver n (Ins on) w p q i k = receiver-acts (EndpointEvent.Ins_comes on) w (Ins on ∷ p) p q (λ e v t h c. (omega arith, omega arith)) i k
  to-receiver n c w p q i k = nothing p q w (λ a b g d. let j = k a b g (omega (arith, d)) in omega (arith, j))

  -- all else
  occurring : (e : ConnectionEvent) (w : Connection) (p q : List Command) → Inv pair (onto p q (occurs pair e (with [] [] w))) → Answers (with p q w) → Answers (onto p q (occurs pair e (with [] [] w)))
  occurring (Sender_calls what) w p q i k = go (is_call what) i
    where
      go : (b : Bool) → Inv pair (onto p q (if b then sender_does pair what (with [] [] w) else with [] [] w)) → Answers (onto p q (if b then sender_does pair what (with [] [] w) else with [] [] w))
      go true i = sender-does what w p q i k
      go false i = nothing p q w k
  occurring (Receiver_calls what) w p q i k = go (is_call what) i
    where
      go : (b : Bool) → Inv pair (onto p q (if b then receiver_does pair what (with [] [] w) else with [] [] w)) → Answers (onto p q (if b then receiver_does pair what (with [] [] w) else with [] [] w))
      go true i = receiver-does what w p q i k
      go false i = nothing p q w k
  occurring (Comes_to_sender n) w p q i k = go (nat_lt n MAX_BY_PEER)
    where
      go : (b : Bool) → Answers (onto p q (if b then with [] [] w else with [] [] w))
      go true = nothing p q w k
      go false = nothing p q w k
  occurring (Comes_to_receiver n) w p q i k = go (nat_lt n MAX_BY_PEER)
    where
      go : (b : Bool) → Answers (onto p q (if b then with [] [] w else with [] [] w))
      go true = nothing p q w k
      go false = nothing p q w k
  occurring Text_goes_out w p q i k = sender-does EndpointEvent.Text_goes_out w p q i k
  occurring (Text_comes head) w p q i k = go w.text i
    where
      go : (t : Text) → Inv pair (onto p q (text_comes pair head t (with [] [] w))) → Answers (onto p q (text_comes pair head t (with [] [] w)))
      go No_text i = nothing p q w k
      go (Away li n bits) i = receiver-does (EndpointEvent.Text_comes head n bits) (record w { text = Here li }) p q i k
      go (Here li) i = nothing p q w k
  occurring (Text_is_answered how) w p q i k = go how w.text i
    where
      go : (how : Answer) (t : Text) → Inv pair (onto p q (text_is_answered pair how t (with [] [] w))) → Answers (onto p q (text_is_answered pair how t (with [] [] w)))
      go Rfnm No_text i = nothing p q w k
      go Rfnm (Away li n bits) i = nothing p q w k
      go Rfnm (Here li) i = sender-does (EndpointEvent.Is_answered Rfnm) (record w { text = No_text }) p q i k
      go Incomplete No_text i = nothing p q w k
      go Incomplete (Away li n bits) i = sender-does (EndpointEvent.Is_answered Incomplete) w p q i k
      go Incomplete (Here li) i = nothing p q w k
      go Dead No_text i = nothing p q w k
      go Dead (Away li n bits) i = sender-does (EndpointEvent.Is_answered Dead) w p q i k
      go Dead (Here li) i = nothing p q w k

-- Any number of connections that share what is underway.

abbrev pub AllAnswer : Shared → Type 0
AllAnswer s = s.sends ≡ true → s.receives ≡ true → (p : Pair) → sends p ≡ true → Answers (connection_at p s)

put-own : (q : Pair) (h : Hosted) (s : Shared) → Answers (onto (only q s.to_receivers) (only q s.to_senders) h.connection) → Answers (connection_at q (put_hosted q h s))
put-own q h s k = rw (same_refl q, only_more q s.to_receivers (tag q h.connection.to_receiver), only_more q s.to_senders (tag q h.connection.to_sender), only_own q h.connection.to_receiver, only_own q h.connection.to_sender) k

put-other : (q p : Pair) (h : Hosted) (s : Shared) → same q p ≡ false → Answers (connection_at p s) → Answers (connection_at p (put_hosted q h s))
put-other q p h s e k = rw (e, only_more p s.to_receivers (tag q h.connection.to_receiver), only_more p s.to_senders (tag q h.connection.to_sender), only_other q p e h.connection.to_receiver, only_other q p e h.connection.to_sender, append-nil (only p s.to_receivers), append-nil (only p s.to_senders)) k

put-answers : (q : Pair) (h : Hosted) (s : Shared) → ((p : Pair) → same q p ≡ false → sends p ≡ true → Answers (connection_at p s)) → Answers (onto (only q s.to_receivers) (only q s.to_senders) h.connection) → (p : Pair) → sends p ≡ true → Answers (connection_at p (put_hosted q h s))
put-answers q h s others own p sp = go (same q p) refl
  where
    go : (b : Bool) → same q p ≡ b → Answers (connection_at p (put_hosted q h s))
    go true e = subst (λ (r : Pair). Answers (connection_at r (put_hosted q h s))) (same_true q p e) (put-own q h s own)
    go false e = put-other q p h s e (others p e sp)

put-inv : (q : Pair) (h : Hosted) (s : Shared) → AllFit (put_hosted q h s) → sends q ≡ true → s.sends ≡ true → s.receives ≡ true → Inv q (onto (only q s.to_receivers) (only q s.to_senders) h.connection)
put-inv q h s f d a b =
    let k : Fit q s.sends s.receives (connection_at q (put_hosted q h s)) = f q d in
    let i : Inv q (connection_at q (put_hosted q h s)) = subst (λ (x : Bool). Fit q x true (connection_at q (put_hosted q h s))) a (subst (λ (y : Bool). Fit q s.sends y (connection_at q (put_hosted q h s))) b k) in
    rw (same_refl q, only_more q s.to_receivers (tag q h.connection.to_receiver), only_more q s.to_senders (tag q h.connection.to_sender), only_own q h.connection.to_receiver, only_own q h.connection.to_sender) at i

to-senders : (n : ℕ) (xs : List Tagged) (s : Shared) → nat_lt n MAX_BY_PEER ≡ true → AllFit (next_to_senders n xs (record s { to_senders = xs })) → AllAnswer (record s { to_senders = xs }) → AllAnswer (next_to_senders n xs (record s { to_senders = xs }))
to-senders n [] s few f k = k
to-senders n (c ∷ rest) s few f k = go (sends c.pair) refl f
  where
    after : Shared
    after = record s { to_senders = rest }

    h : Hosted
    h = changes c.pair (Occurs (Comes_to_sender n)) (bringing c.pair [] (c.command ∷ []) (record s { to_senders = c ∷ rest }))

    heard : Connection
    heard = sender_hears c.pair (command_comes n c.command) (with [] [] (connection_at c.pair s))

    same-as : s.sends ≡ true → h.connection ≡ heard
    same-as a = rw (a, few) refl

    go : (b : Bool) → sends c.pair ≡ b → AllFit (if b then put_hosted c.pair h after else after) → AllAnswer (if b then put_hosted c.pair h after else after)
    go true e f = λ a b. put-answers c.pair h after (λ p d sp. rw d at (k a b p sp))
        (subst (λ (w : Connection). Answers (onto (only c.pair s.to_receivers) (only c.pair rest) w)) (sym (same-as a))
        (to-sender c.pair e n c.command (connection_at c.pair s) (only c.pair s.to_receivers) (only c.pair rest)
        (subst (λ (w : Connection). Inv c.pair (onto (only c.pair s.to_receivers) (only c.pair rest) w)) (same-as a) (put-inv c.pair h after f e a b))
        (rw (same_refl c.pair) at (k a b c.pair e))))
    go false e f = λ a b p sp. rw (apart c.pair p sp e) at (k a b p sp)

to-receivers : (n : ℕ) (xs : List Tagged) (s : Shared) → nat_lt n MAX_BY_PEER ≡ true → AllFit (next_to_receivers n xs (record s { to_receivers = xs })) → AllAnswer (record s { to_receivers = xs }) → AllAnswer (next_to_receivers n xs (record s { to_receivers = xs }))
to-receivers n [] s few f k = k
to-receivers n (c ∷ rest) s few f k = go (sends c.pair) refl f
  where
    after : Shared
    after = record s { to_receivers = rest }

    h : Hosted
    h = changes c.pair (Occurs (Comes_to_receiver n)) (bringing c.pair (c.command ∷ []) [] (record s { to_receivers = c ∷ rest }))

    heard : Connection
    heard = receiver_hears c.pair (command_comes n c.command) (with [] [] (connection_at c.pair s))

    same-as : s.receives ≡ true → h.connection ≡ heard
    same-as a = rw (a, few) refl

    go : (b : Bool) → sends c.pair ≡ b → AllFit (if b then put_hosted c.pair h after else after) → AllAnswer (if b then put_hosted c.pair h after else after)
    go true e f = λ a b. put-answers c.pair h after (λ p d sp. rw d at (k a b p sp))
        (subst (λ (w : Connection). Answers (onto (only c.pair rest) (only c.pair s.to_senders) w)) (sym (same-as b))
        (to-receiver c.pair e n c.command (connection_at c.pair s) (only c.pair rest) (only c.pair s.to_senders)
        (subst (λ (w : Connection). Inv c.pair (onto (only c.pair rest) (only c.pair s.to_senders) w)) (same-as b) (put-inv c.pair h after f e a b))
        (rw (same_refl c.pair) at (k a b c.pair e))))
    go false e f = λ a b p sp. rw (apart c.pair p sp e) at (k a b p sp)

step-answers : (e : Shared_event) (s : Shared) → MayHappen e s → AllFit s → AllAnswer s → AllAnswer (shared_occurs e s)
step-answers (On q e) s m f k = go (sends q) refl (fits_keep (On q e) s m f)
  where
    h : Hosted
    h = changes q (Occurs e) (bringing q [] [] s)

    there : s.sends ≡ true → s.receives ≡ true → (c : Bool) → (if c then s.sends else s.receives) ≡ true
    there a b true = a
    there a b false = b

    same-as : s.sends ≡ true → s.receives ≡ true → h.connection ≡ occurs q e (with [] [] (connection_at q s))
    same-as a b = rw (there a b (is_at_sender e)) refl

    go : (b : Bool) → sends q ≡ b → AllFit (if b then put_hosted q h s else s) → AllAnswer (if b then put_hosted q h s else s)
    go true d f = λ a b. put-answers q h s (λ p _ sp. k a b p sp)
        (subst (λ (w : Connection). Answers (onto (only q s.to_receivers) (only q s.to_senders) w)) (sym (same-as a b))
        (occurring q d e (connection_at q s) (only q s.to_receivers) (only q s.to_senders)
        (subst (λ (w : Connection). Inv q (onto (only q s.to_receivers) (only q s.to_senders) w)) (same-as a b) (put-inv q h s f d a b))
        (k a b q d)))
    go false d f = k
step-answers (Next_to_senders n) s m f k = go (nat_lt n MAX_BY_PEER) refl (fits_keep (Next_to_senders n) s m f)
  where
    go : (b : Bool) → nat_lt n MAX_BY_PEER ≡ b → AllFit (if b then next_to_senders n s.to_senders s else s) → AllAnswer (if b then next_to_senders n s.to_senders s else s)
    go true few f = to-senders n s.to_senders s few f k
    go false few f = k
step-answers (Next_to_receivers n) s m f k = go (nat_lt n MAX_BY_PEER) refl (fits_keep (Next_to_receivers n) s m f)
  where
    go : (b : Bool) → nat_lt n MAX_BY_PEER ≡ b → AllFit (if b then next_to_receivers n s.to_receivers s else s) → AllAnswer (if b then next_to_receivers n s.to_receivers s else s)
    go true few f = to-receivers n s.to_receivers s few f k
    go false few f = k
step-answers (Other_to_senders c) s m f k = go (sends c.pair) refl
  where
    go : (b : Bool) → sends c.pair ≡ b → AllAnswer (if b then s else record s { to_senders = s.to_senders ++ c ∷ [] })
    go true d = k
    go false d = λ a b p sp. rw (only_more p s.to_senders (c ∷ []), apart c.pair p sp d, append-nil (only p s.to_senders)) (k a b p sp)
step-answers (Other_to_receivers c) s m f k = go (sends c.pair) refl
  where
    go : (b : Bool) → sends c.pair ≡ b → AllAnswer (if b then s else record s { to_receivers = s.to_receivers ++ c ∷ [] })
    go true d = k
    go false d = λ a b p sp. rw (only_more p s.to_receivers (c ∷ []), apart c.pair p sp d, append-nil (only p s.to_receivers)) (k a b p sp)
step-answers (Senders_are_cleared n) s m f k = λ a b. absurd (both_ways false refl a)
step-answers (Receivers_are_cleared n) s m f k = λ a b. absurd (both_ways false refl b)
step-answers All_start_empty s m f k = λ a b p sp c.
    let n = nobody p (subst (λ (x : Bool). Fit p x false (connection_at p s)) m.0 (subst (λ (y : Bool). Fit p s.sends y (connection_at p s)) m.1 (f p sp))) in
    absurd (both_ways (or_new (s.receiver p).end).recall (ap (λ (o : Option Endpoint). (or_new o).recall) n) c)
  where
    nobody : (p : Pair) → Fit p false false (connection_at p s) → (s.receiver p).end ≡ None
    nobody p n = n.no_receiver

answers-from : (es : List Shared_event) (s : Shared) → AllMayHappen es s → AllFit s → AllAnswer s → AllAnswer (shared_from es s)
answers-from [] s m f k = k
answers-from (e ∷ es) s m f k = answers-from es (shared_occurs e s) m.1 (fits_keep e s m.0 f) (step-answers e s m.0 f k)

pub answers-ever : (es : List Shared_event) → AllMayHappen es new_shared → AllAnswer (shared es)
answers-ever es m = answers-from es new_shared m new_fits (λ a b p sp c. absurd (both_ways false refl c))
