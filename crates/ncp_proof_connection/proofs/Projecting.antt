-- Meant for other crates too: they cite what is public here.
--
-- Each of the connections that share what is underway is a connection of its own.
use Rattle.std.proofs.Common.{◌≡◌, ℕ, ◌==◌, Bool, true, false, ◌||◌, nat_lt, cond, if◌then◌else◌, List, [], ◌∷◌, ◌++◌, take, drop, Option, None, Some, refl, ap, sym, ◌∙◌, subst}
use Rattle.std.proofs.lemmas.Bool.{both_ways, and_parts, and_from, eqb-true, eq-eqb}
use Rattle.std.proofs.lemmas.List.{append-nil, take-append-drop}
use Rattle.ncp_wire.specs.declared.command.Command.{Command}
use Rattle.ncp_model.specs.declared.pair.Pair.{Pair}
use Rattle.ncp_model.specs.declared.limits.TheConstants.{MAX_BY_PEER}
use Rattle.ncp_model.specs.Pairs.{sends, counterpart, same}
use Rattle.ncp_model.specs.Texts.{Answer, Rfnm, Incomplete, Dead}
use Rattle.ncp_model.specs.EndpointEvents.{EndpointEvent, happens}
use Rattle.ncp_proof_connection.specs.Connections.{Text, No_text, Away, Here, Connection, sender_does, receiver_does, is_call, command_comes, ConnectionEvent, Sender_calls, Receiver_calls, Comes_to_sender, Comes_to_receiver, Text_goes_out, Text_comes, Text_is_answered, sender_hears, receiver_hears, comes_to_sender, comes_to_receiver, text_comes, text_is_answered, occurs}
use Rattle.ncp_proof_connection.specs.Clearings.{Hosted, Occurs, changes, is_at_sender, misses, text_over, text_dropped}
use Rattle.ncp_proof_connection.specs.Sharing.{Tagged, Shared, new_shared, only, tag, connection_at, bringing, put_hosted, Shared_event, On, Next_to_senders, Next_to_receivers, Other_to_senders, Other_to_receivers, Senders_are_cleared, Receivers_are_cleared, All_start_empty, next_to_senders, next_to_receivers, shared_occurs, shared_from, shared, MayHappen, AllMayHappen}
use Rattle.ncp_proof_connection.proofs.Whole.{sender_calls_keep, receiver_calls_keep, keeps, ever}
use Rattle.ncp_proof_connection.proofs.Outliving.{Fit, fit_clear_sender, fit_clear_receiver, fit_fresh, fit_sends, fit_comes_to_sender, fit_text_is_answered, fit_receives, fit_comes_to_receiver, fit_text_comes, missed_by_sender, missed_by_receiver, answer_missed, text_missed}

-- Pairs.

pub same_refl : (q : Pair) → same q q ≡ true
same_refl q = and_from (q.local == q.local) (q.remote == q.remote) (eq-eqb q.local q.local refl) (eq-eqb q.remote q.remote refl)

pub same_true : (q p : Pair) → same q p ≡ true → q ≡ p
same_true q p e =
    let f = and_parts (q.local == p.local) (q.remote == p.remote) e in
    ap (λ (x : ℕ). record { local = x; remote = q.remote }) (eqb-true q.local p.local f.0) ∙ ap (λ (x : ℕ). record { local = p.local; remote = x }) (eqb-true q.remote p.remote f.1)

-- What is underway for one connection.

pub only_more : (p : Pair) (xs ys : List Tagged) → only p (xs ++ ys) ≡ only p xs ++ only p ys
only_more p [] ys = refl
only_more p (c ∷ xs) ys = go (same c.pair p) (only_more p xs ys)
  where
    go : (b : Bool) → only p (xs ++ ys) ≡ only p xs ++ only p ys → cond b (c.command ∷ only p (xs ++ ys)) (only p (xs ++ ys)) ≡ cond b (c.command ∷ only p xs) (only p xs) ++ only p ys
    go true more = ap (λ (l : List Command). c.command ∷ l) more
    go false more = more

pub only_own : (q : Pair) (cs : List Command) → only q (tag q cs) ≡ cs
only_own q [] = refl
only_own q (c ∷ cs) = rw (same_refl q) (ap (λ (l : List Command). c ∷ l) (only_own q cs))

pub only_other : (q p : Pair) → same q p ≡ false → (cs : List Command) → only p (tag q cs) ≡ []
only_other q p e [] = refl
only_other q p e (c ∷ cs) = rw e (only_other q p e cs)

-- the connections that are not those of the other way are apart from them
pub apart : (q p : Pair) → sends p ≡ true → sends q ≡ false → same q p ≡ false
apart q p sp sq = go (same q p) refl
  where
    go : (b : Bool) → same q p ≡ b → b ≡ false
    go true e = absurd (both_ways (sends q) sq (subst (λ (x : Pair). sends x ≡ true) (sym (same_true q p e)) sp))
    go false e = refl

-- What one connection does where nothing is underway, it does where something is: what it makes joins.

abbrev onto : List Command → List Command → Connection → Connection
onto p q w = record w { to_receiver = p ++ w.to_receiver; to_sender = q ++ w.to_sender }

abbrev with : List Command → List Command → Connection → Connection
with p q w = record w { to_receiver = p; to_sender = q }

module _ (pair : Pair) (sd : sends pair ≡ true) (p q : List Command) where
  -- nothing is made
  none : (a b : Bool) (w : Connection) → Fit pair a b (with p q w) → Fit pair a b (onto p q (with [] [] w))
  none a b w k = subst (λ (x : List Command). Fit pair a b (with x (q ++ []) w)) (sym (append-nil p)) (subst (λ (x : List Command). Fit pair a b (with p x w)) (sym (append-nil q)) k)

  -- the sender makes something, or the receiver
  there : (a b : Bool) (w : Connection) (x : List Command) → Fit pair a b (with (p ++ x) q w) → Fit pair a b (with (p ++ x) (q ++ []) w)
  there a b w x k = subst (λ (y : List Command). Fit pair a b (with (p ++ x) y w)) (sym (append-nil q)) k

  back : (a b : Bool) (w : Connection) (x : List Command) → Fit pair a b (with p (q ++ x) w) → Fit pair a b (with (p ++ []) (q ++ x) w)
  back a b w x k = subst (λ (y : List Command). Fit pair a b (with y (q ++ x) w)) (sym (append-nil p)) k

  pub framed : (e : ConnectionEvent) (a b : Bool) (w : Connection) → Fit pair a b (with p q w) → Fit pair a b (onto p q (if (if is_at_sender e then a else b) then occurs pair e (with [] [] w) else misses e (with [] [] w)))
  framed (Sender_calls what) false b w k = none false b w k
  framed (Sender_calls what) true b w k = go (is_call what) refl
    where
      go : (c : Bool) → is_call what ≡ c → Fit pair true b (onto p q (if c then sender_does pair what (with [] [] w) else with [] [] w))
      go true c = there true b (sender_does pair what w) (happens pair what w.sender.end).made (fit_sends pair sd what b (with p q w) (λ u m. sender_calls_keep pair sd what u c m) k)
      go false c = none true b w k
  framed (Receiver_calls what) a false w k = none a false w k
  framed (Receiver_calls what) a true w k = go (is_call what) refl
    where
      go : (c : Bool) → is_call what ≡ c → Fit pair a true (onto p q (if c then receiver_does pair what (with [] [] w) else with [] [] w))
      go true c = back a true (receiver_does pair what w) (happens (counterpart pair) what w.receiver.end).made (fit_receives pair sd what a (with p q w) (λ u m. receiver_calls_keep pair sd what u c m) k)
      go false c = none a true w k
  framed (Comes_to_sender n) false b w k = none false b w k
  framed (Comes_to_sender n) true b w k = go (nat_lt n MAX_BY_PEER)
    where
      go : (c : Bool) → Fit pair true b (onto p q (if c then with [] [] w else with [] [] w))
      go true = none true b w k
      go false = none true b w k
  framed (Comes_to_receiver n) a false w k = none a false w k
  framed (Comes_to_receiver n) a true w k = go (nat_lt n MAX_BY_PEER)
    where
      go : (c : Bool) → Fit pair a true (onto p q (if c then with [] [] w else with [] [] w))
      go true = none a true w k
      go false = none a true w k
  framed Text_goes_out false b w k = none false b w k
  framed Text_goes_out true b w k = there true b (sender_does pair EndpointEvent.Text_goes_out w) [] (fit_sends pair sd EndpointEvent.Text_goes_out b (with p q w) (λ u m. keeps pair sd Text_goes_out u m) k)
  framed (Text_comes head) a false w k = none a false (record w { text = text_dropped w.text }) (text_missed pair sd head a w.text (with p q w) k)
  framed (Text_comes head) a true w k = go w.text k
    where
      go : (t : Text) → Fit pair a true (with p q (record w { text = t })) → Fit pair a true (onto p q (text_comes pair head t (with [] [] (record w { text = t }))))
      go No_text k = none a true (record w { text = No_text }) k
      go (Away li n bits) k = back a true (receiver_does pair (EndpointEvent.Text_comes head n bits) (record w { text = Here li })) (happens (counterpart pair) (EndpointEvent.Text_comes head n bits) w.receiver.end).made (fit_text_comes pair sd head a (Away li n bits) (with p q w) k)
      go (Here li) k = none a true (record w { text = Here li }) k
  framed (Text_is_answered how) false b w k = none false b (record w { text = text_over how w.text }) (answer_missed pair sd how b w.text (with p q w) k)
  framed (Text_is_answered how) true b w k = go how w.text k
    where
      go : (how : Answer) (t : Text) → Fit pair true b (with p q (record w { text = t })) → Fit pair true b (onto p q (text_is_answered pair how t (with [] [] (record w { text = t }))))
      go Rfnm No_text k = none true b (record w { text = No_text }) k
      go Rfnm (Away li n bits) k = none true b (record w { text = Away li n bits }) k
      go Rfnm (Here li) k = there true b (sender_does pair (EndpointEvent.Is_answered Rfnm) (record w { text = No_text })) (happens pair (EndpointEvent.Is_answered Rfnm) w.sender.end).made (fit_text_is_answered pair sd Rfnm b (Here li) (with p q w) k)
      go Incomplete No_text k = none true b (record w { text = No_text }) k
      go Incomplete (Away li n bits) k = there true b (sender_does pair (EndpointEvent.Is_answered Incomplete) (record w { text = Away li n bits })) [] (fit_text_is_answered pair sd Incomplete b (Away li n bits) (with p q w) k)
      go Incomplete (Here li) k = none true b (record w { text = Here li }) k
      go Dead No_text k = none true b (record w { text = No_text }) k
      go Dead (Away li n bits) k = there true b (sender_does pair (EndpointEvent.Is_answered Dead) (record w { text = Away li n bits })) [] (fit_text_is_answered pair sd Dead b (Away li n bits) (with p q w) k)
      go Dead (Here li) k = none true b (record w { text = Here li }) k

  pub framed_to_sender : (n : ℕ) (c : Command) (a b : Bool) (w : Connection) → nat_lt n MAX_BY_PEER ≡ true → Fit pair a b (with p (c ∷ q) w) → Fit pair a b (onto p q (if a then (if nat_lt n MAX_BY_PEER then comes_to_sender pair n (c ∷ []) (with [] (c ∷ []) w) else with [] (c ∷ []) w) else with [] [] w))
  framed_to_sender n c false b w few k = none false b w (missed_by_sender pair sd b q (with p (c ∷ q) w) k)
  framed_to_sender n c true b w few k = rw few (go (command_comes n c) (fit_comes_to_sender pair sd n b (c ∷ q) (with p (c ∷ q) w) few k))
    where
      go : (o : Option EndpointEvent) → Fit pair true b (sender_hears pair o (with p q w)) → Fit pair true b (onto p q (sender_hears pair o (with [] [] w)))
      go None k = none true b w k
      go (Some what) k = there true b (sender_does pair what w) (happens pair what w.sender.end).made k

  pub framed_to_receiver : (n : ℕ) (c : Command) (a b : Bool) (w : Connection) → nat_lt n MAX_BY_PEER ≡ true → Fit pair a b (with (c ∷ p) q w) → Fit pair a b (onto p q (if b then (if nat_lt n MAX_BY_PEER then comes_to_receiver pair n (c ∷ []) (with (c ∷ []) [] w) else with (c ∷ []) [] w) else with [] [] w))
  framed_to_receiver n c a false w few k = none a false w (missed_by_receiver pair sd a p (with (c ∷ p) q w) k)
  framed_to_receiver n c a true w few k = rw few (go (command_comes n c) (fit_comes_to_receiver pair sd n a (c ∷ p) (with (c ∷ p) q w) few k))
    where
      go : (o : Option EndpointEvent) → Fit pair a true (receiver_hears pair o (with p q w)) → Fit pair a true (onto p q (receiver_hears pair o (with [] [] w)))
      go None k = none a true w k
      go (Some what) k = back a true (receiver_does pair what w) (happens (counterpart pair) what w.receiver.end).made k

-- Every connection.

abbrev pub FitAt : Shared → Pair → Type 0
FitAt s p = Fit p s.sends s.receives (connection_at p s)

pub put_own : (q : Pair) (h : Hosted) (s : Shared) → Fit q s.sends s.receives (onto (only q s.to_receivers) (only q s.to_senders) h.connection) → FitAt (put_hosted q h s) q
put_own q h s k = rw (same_refl q, only_more q s.to_receivers (tag q h.connection.to_receiver), only_more q s.to_senders (tag q h.connection.to_sender), only_own q h.connection.to_receiver, only_own q h.connection.to_sender) k

pub put_other : (q p : Pair) (h : Hosted) (s : Shared) → same q p ≡ false → FitAt s p → FitAt (put_hosted q h s) p
put_other q p h s e k = rw (e, only_more p s.to_receivers (tag q h.connection.to_receiver), only_more p s.to_senders (tag q h.connection.to_sender), only_other q p e h.connection.to_receiver, only_other q p e h.connection.to_sender, append-nil (only p s.to_receivers), append-nil (only p s.to_senders)) k

pub put_keeps : (q : Pair) (h : Hosted) (s : Shared) → Fit q s.sends s.receives (onto (only q s.to_receivers) (only q s.to_senders) h.connection) → ((p : Pair) → same q p ≡ false → sends p ≡ true → FitAt s p) → (p : Pair) → sends p ≡ true → FitAt (put_hosted q h s) p
put_keeps q h s own others p sp = go (same q p) refl
  where
    go : (b : Bool) → same q p ≡ b → FitAt (put_hosted q h s) p
    go true e = subst (λ (r : Pair). FitAt (put_hosted q h s) r) (same_true q p e) (put_own q h s own)
    go false e = put_other q p h s e (others p e sp)

abbrev pub AllFit : Shared → Type 0
AllFit s = (p : Pair) → sends p ≡ true → FitAt s p

to_senders_keep : (n : ℕ) (xs : List Tagged) (s : Shared) → nat_lt n MAX_BY_PEER ≡ true → AllFit (record s { to_senders = xs }) → AllFit (next_to_senders n xs (record s { to_senders = xs }))
to_senders_keep n [] s few k = k
to_senders_keep n (c ∷ rest) s few k = go (sends c.pair) refl
  where
    h : Hosted
    h = changes c.pair (Occurs (Comes_to_sender n)) (bringing c.pair [] (c.command ∷ []) (record s { to_senders = c ∷ rest }))

    go : (b : Bool) → sends c.pair ≡ b → AllFit (if b then put_hosted c.pair h (record s { to_senders = rest }) else record s { to_senders = rest })
    go true e = put_keeps c.pair h (record s { to_senders = rest })
        (framed_to_sender c.pair e (only c.pair s.to_receivers) (only c.pair rest) n c.command s.sends s.receives (connection_at c.pair s) few (rw (same_refl c.pair) at (k c.pair e)))
        (λ p d sp. rw d at (k p sp))
    go false e = λ p sp. rw (apart c.pair p sp e) at (k p sp)

to_receivers_keep : (n : ℕ) (xs : List Tagged) (s : Shared) → nat_lt n MAX_BY_PEER ≡ true → AllFit (record s { to_receivers = xs }) → AllFit (next_to_receivers n xs (record s { to_receivers = xs }))
to_receivers_keep n [] s few k = k
to_receivers_keep n (c ∷ rest) s few k = go (sends c.pair) refl
  where
    h : Hosted
    h = changes c.pair (Occurs (Comes_to_receiver n)) (bringing c.pair (c.command ∷ []) [] (record s { to_receivers = c ∷ rest }))

    go : (b : Bool) → sends c.pair ≡ b → AllFit (if b then put_hosted c.pair h (record s { to_receivers = rest }) else record s { to_receivers = rest })
    go true e = put_keeps c.pair h (record s { to_receivers = rest })
        (framed_to_receiver c.pair e (only c.pair rest) (only c.pair s.to_senders) n c.command s.sends s.receives (connection_at c.pair s) few (rw (same_refl c.pair) at (k c.pair e)))
        (λ p d sp. rw d at (k p sp))
    go false e = λ p sp. rw (apart c.pair p sp e) at (k p sp)

-- a cut of the shared list cuts each of its parts
only_cut : (p : Pair) (n : ℕ) (xs : List Tagged) → only p (take n xs) ++ only p (drop n xs) ≡ only p xs
only_cut p n xs = sym (only_more p (take n xs) (drop n xs)) ∙ ap (λ (l : List Tagged). only p l) (take-append-drop n xs)

unmarked : (pair : Pair) (a b : Bool) (w : Connection) → Fit pair a b (record w { violated = w.violated || false }) → Fit pair a b w
unmarked pair a b w k = subst (λ (v : Bool). Fit pair a b (record w { violated = v })) (go w.violated) k
  where
    go : (v : Bool) → (v || false) ≡ v
    go true = refl
    go false = refl

pub fits_keep : (e : Shared_event) (s : Shared) → MayHappen e s → AllFit s → AllFit (shared_occurs e s)
fits_keep (On q e) s m k = go (sends q) refl
  where
    h : Hosted
    h = changes q (Occurs e) (bringing q [] [] s)

    go : (b : Bool) → sends q ≡ b → AllFit (if b then put_hosted q h s else s)
    go true d = put_keeps q h s (framed q d (only q s.to_receivers) (only q s.to_senders) e s.sends s.receives (connection_at q s) (k q d)) (λ p _ sp. k p sp)
    go false d = k
fits_keep (Next_to_senders n) s m k = go (nat_lt n MAX_BY_PEER) refl
  where
    go : (b : Bool) → nat_lt n MAX_BY_PEER ≡ b → AllFit (if b then next_to_senders n s.to_senders s else s)
    go true few = to_senders_keep n s.to_senders s few k
    go false few = k
fits_keep (Next_to_receivers n) s m k = go (nat_lt n MAX_BY_PEER) refl
  where
    go : (b : Bool) → nat_lt n MAX_BY_PEER ≡ b → AllFit (if b then next_to_receivers n s.to_receivers s else s)
    go true few = to_receivers_keep n s.to_receivers s few k
    go false few = k
fits_keep (Other_to_senders c) s m k = go (sends c.pair) refl
  where
    go : (b : Bool) → sends c.pair ≡ b → AllFit (if b then s else record s { to_senders = s.to_senders ++ c ∷ [] })
    go true d = k
    go false d = λ p sp. rw (only_more p s.to_senders (c ∷ []), apart c.pair p sp d, append-nil (only p s.to_senders)) (k p sp)
fits_keep (Other_to_receivers c) s m k = go (sends c.pair) refl
  where
    go : (b : Bool) → sends c.pair ≡ b → AllFit (if b then s else record s { to_receivers = s.to_receivers ++ c ∷ [] })
    go true d = k
    go false d = λ p sp. rw (only_more p s.to_receivers (c ∷ []), apart c.pair p sp d, append-nil (only p s.to_receivers)) (k p sp)
fits_keep (Senders_are_cleared n) s m k = λ p sp. unmarked p false s.receives (connection_at p (shared_occurs (Senders_are_cleared n) s))
    (fit_clear_sender p s.sends s.receives (connection_at p s) (only p (take n s.to_receivers)) (only p (drop n s.to_receivers)) (only_cut p n s.to_receivers) (k p sp))
fits_keep (Receivers_are_cleared n) s m k = λ p sp. unmarked p s.sends false (connection_at p (shared_occurs (Receivers_are_cleared n) s))
    (fit_clear_receiver p s.sends s.receives (connection_at p s) (only p (take n s.to_senders)) (only p (drop n s.to_senders)) (only_cut p n s.to_senders) (k p sp))
fits_keep All_start_empty s m k = λ p sp. fit_fresh p sp (connection_at p s) (m.2 p) (subst (λ (b : Bool). Fit p b false (connection_at p s)) m.0 (subst (λ (b : Bool). Fit p s.sends b (connection_at p s)) m.1 (k p sp)))

pub new_fits : AllFit new_shared
new_fits p sp = ever p sp []

fits_from : (es : List Shared_event) (s : Shared) → AllMayHappen es s → AllFit s → AllFit (shared_from es s)
fits_from [] s m k = k
fits_from (e ∷ es) s m k = fits_from es (shared_occurs e s) m.1 (fits_keep e s m.0 k)

pub fits_ever : (es : List Shared_event) → AllMayHappen es new_shared → AllFit (shared es)
fits_ever es m = fits_from es new_shared m new_fits
