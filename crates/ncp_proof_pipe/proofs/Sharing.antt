-- Each of the connections that share what is underway is a pipe.
use Rattle.std.proofs.Common.{◌≡◌, ℕ, Bool, true, false, nat_lt, cond, if◌then◌else◌, List, [], ◌∷◌, ◌++◌, refl, sym, ap, ◌∙◌, subst}
use Rattle.std.proofs.lemmas.Bool.{both_ways}
use Rattle.ncp_model.specs.declared.pair.Pair.{Pair}
use Rattle.ncp_model.specs.declared.limits.TheConstants.{MAX_BY_PEER}
use Rattle.ncp_model.specs.Pairs.{sends, same}
use Rattle.ncp_proof_endpoint.specs.Histories.{EndpointWithHistory}
use Rattle.ncp_proof_connection.specs.Connections.{Connection, Text, ConnectionEvent, Comes_to_sender, Comes_to_receiver}
use Rattle.ncp_proof_connection.specs.Clearings.{Hosted, Occurs, changes}
use Rattle.ncp_proof_connection.specs.Ledger.{text_bits}
use Rattle.ncp_proof_connection.proofs.Outliving.{Fit, fit_safe}
use Rattle.ncp_proof_connection.specs.Sharing.{Tagged, Shared, new_shared, only, connection_at, bringing, put_hosted, set_at_pair, Shared_event, On, Next_to_senders, Next_to_receivers, Other_to_senders, Other_to_receivers, Senders_are_cleared, Receivers_are_cleared, All_start_empty, next_to_senders, next_to_receivers, shared_occurs, shared_from, shared, AllMayHappen}
use Rattle.ncp_proof_connection.proofs.Projecting.{same_refl, same_true, AllFit, fits_keep, new_fits}
use Rattle.ncp_pipe.specs.Pipe.{Pipe, Step, IsRun}
use Rattle.ncp_pipe.specs.Accounts.{is_user_step, user_steps}
use Rattle.ncp_proof_pipe.specs.Views.{sender_view, receiver_view, Moves, pipe_of, FreshOn, MovesTo, event_steps, shared_steps, user_steps_from}
use Rattle.ncp_proof_pipe.proofs.Connecting.{idle, event, to-sender, to-receiver, sender-cut, receiver-cut}

set-own : {A : Type 0} → (p : Pair) (x : A) (f : Pair → A) → set_at_pair p x f p ≡ x
set-own {A} p x f = ap (λ b. if b then x else f p) (same_refl p)

set-other : {A : Type 0} → (q p : Pair) (x : A) (f : Pair → A) → same q p ≡ false → set_at_pair q x f p ≡ f p
set-other {A} q p x f e = ap (λ b. if b then x else f p) e

-- what is told of a connection is told of its ends and its text
alike : (from : Pipe) (users : List Step) (w v : Connection) → v.sender ≡ w.sender → v.receiver ≡ w.receiver → v.text ≡ w.text → MovesTo from users w → MovesTo from users v
alike from users w v es er et m =
    subst (λ (x : Text). Moves from users (sender_view v.sender.end) (receiver_view v.receiver.end) (text_bits x) v.sender.past.given) (sym et)
    (subst (λ (x : EndpointWithHistory). Moves from users (sender_view x.end) (receiver_view v.receiver.end) (text_bits w.text) x.past.given) (sym es)
    (subst (λ (x : EndpointWithHistory). Moves from users (sender_view w.sender.end) (receiver_view x.end) (text_bits w.text) w.sender.past.given) (sym er) m))

module _ (p : Pair) (sp : sends p ≡ true) where
  abbrev From : Shared → Bool → Pipe
  From s fresh = pipe_of (connection_at p s) fresh

  -- one connection is as it is now
  put-own : (h : Hosted) (s g : Shared) (fresh : Bool) (users : List Step) → MovesTo (From s fresh) users h.connection → MovesTo (From s fresh) users (connection_at p (put_hosted p h g))
  put-own h s g fresh users m = alike (From s fresh) users h.connection (connection_at p (put_hosted p h g)) (set-own p h.connection.sender g.sender) (set-own p h.connection.receiver g.receiver) (set-own p h.connection.text g.text) m

  -- or another is
  put-other : (q : Pair) (h : Hosted) (s g : Shared) (fresh : Bool) → same q p ≡ false → g.sender p ≡ s.sender p → g.receiver p ≡ s.receiver p → g.text p ≡ s.text p → FreshOn (connection_at p s) fresh
      → MovesTo (From s fresh) [] (connection_at p (put_hosted q h g))
  put-other q h s g fresh d es er et f =
      idle p sp (connection_at p s) (connection_at p (put_hosted q h g)) fresh f (set-other q p h.connection.sender g.sender d ∙ es) (set-other q p h.connection.receiver g.receiver d ∙ er) (ap text_bits (set-other q p h.connection.text g.text d ∙ et))

  still : (s g : Shared) (fresh : Bool) → FreshOn (connection_at p s) fresh → g.sender p ≡ s.sender p → g.receiver p ≡ s.receiver p → g.text p ≡ s.text p → MovesTo (From s fresh) [] (connection_at p g)
  still s g fresh f es er et = idle p sp (connection_at p s) (connection_at p g) fresh f es er (ap text_bits et)

  on-own : (e : ConnectionEvent) (s : Shared) (fresh : Bool) → AllFit s → AllFit (put_hosted p (changes p (Occurs e) (bringing p [] [] s)) s) → FreshOn (connection_at p s) fresh
      → MovesTo (From s fresh) (event_steps p s.sends s.receives e (connection_at p s)) (connection_at p (put_hosted p (changes p (Occurs e) (bringing p [] [] s)) s))
  on-own e s fresh k k' f =
      let h : Hosted = changes p (Occurs e) (bringing p [] [] s) in
      let safe : (put_hosted p h s).violated p ≡ false = fit_safe p sp s.sends s.receives (connection_at p (put_hosted p h s)) (k' p sp) in
      put-own h s s fresh (event_steps p s.sends s.receives e (connection_at p s)) (event p sp e s.sends s.receives (connection_at p s) fresh (k p sp) f (sym (set-own p h.connection.violated s.violated) ∙ safe))

  on-one : (q : Pair) (e : ConnectionEvent) (s : Shared) (fresh : Bool) → sends q ≡ true → AllFit s → AllFit (put_hosted q (changes q (Occurs e) (bringing q [] [] s)) s) → FreshOn (connection_at p s) fresh
      → MovesTo (From s fresh) (if same q p then event_steps p s.sends s.receives e (connection_at p s) else []) (connection_at p (put_hosted q (changes q (Occurs e) (bringing q [] [] s)) s))
  on-one q e s fresh sq k k' f = go (same q p) refl
    where
      own : (r : Pair) → p ≡ r → AllFit (put_hosted r (changes r (Occurs e) (bringing r [] [] s)) s)
          → MovesTo (From s fresh) (event_steps p s.sends s.receives e (connection_at p s)) (connection_at p (put_hosted r (changes r (Occurs e) (bringing r [] [] s)) s))
      own r i =
          subst (λ (x : Pair). AllFit (put_hosted x (changes x (Occurs e) (bringing x [] [] s)) s) → MovesTo (From s fresh) (event_steps p s.sends s.receives e (connection_at p s)) (connection_at p (put_hosted x (changes x (Occurs e) (bringing x [] [] s)) s))) i
          (λ m. on-own e s fresh k m f)

      go : (b : Bool) → same q p ≡ b → MovesTo (From s fresh) (if b then event_steps p s.sends s.receives e (connection_at p s) else []) (connection_at p (put_hosted q (changes q (Occurs e) (bringing q [] [] s)) s))
      go true i = own q (sym (same_true q p i)) k'
      go false d = put-other q (changes q (Occurs e) (bringing q [] [] s)) s s fresh d refl refl refl f

  -- the next command comes to a sender
  next-sender : (n : ℕ) (c : Tagged) (rest : List Tagged) (s : Shared) (fresh : Bool) → nat_lt n MAX_BY_PEER ≡ true → AllFit s → FreshOn (connection_at p s) fresh
      → MovesTo (From s fresh) [] (connection_at p (next_to_senders n (c ∷ rest) s))
  next-sender n c rest s fresh few k f = go (sends c.pair) refl
    where
      h : Pair → Hosted
      h r = changes r (Occurs (Comes_to_sender n)) (bringing r [] (c.command ∷ []) s)

      g : Shared
      g = record s { to_senders = rest }

      own : (r : Pair) → p ≡ r → MovesTo (From s fresh) [] (connection_at p (put_hosted r (h r) g))
      own r i = subst (λ (x : Pair). MovesTo (From s fresh) [] (connection_at p (put_hosted x (h x) g))) i (put-own (h p) s g fresh [] (alive s.sends refl))
        where
          alive : (a : Bool) → s.sends ≡ a → MovesTo (From s fresh) [] (h p).connection
          alive true e = rw (e, few) (to-sender p sp n c.command [] s.receives (connection_at p s) fresh (subst (λ (b : Bool). Fit p b s.receives (connection_at p s)) e (k p sp)) f)
          alive false e = rw e (still s s fresh f refl refl refl)

      which : (b : Bool) → same c.pair p ≡ b → MovesTo (From s fresh) [] (connection_at p (put_hosted c.pair (h c.pair) g))
      which true i = own c.pair (sym (same_true c.pair p i))
      which false d = put-other c.pair (h c.pair) s g fresh d refl refl refl f

      go : (b : Bool) → sends c.pair ≡ b → MovesTo (From s fresh) [] (connection_at p (if b then put_hosted c.pair (h c.pair) g else g))
      go true e = which (same c.pair p) refl
      go false e = still s g fresh f refl refl refl

  next-receiver : (n : ℕ) (c : Tagged) (rest : List Tagged) (s : Shared) (fresh : Bool) → s.to_receivers ≡ c ∷ rest → nat_lt n MAX_BY_PEER ≡ true → AllFit s → FreshOn (connection_at p s) fresh
      → MovesTo (From s fresh) [] (connection_at p (next_to_receivers n (c ∷ rest) s))
  next-receiver n c rest s fresh u few k f = go (sends c.pair) refl
    where
      h : Pair → Hosted
      h r = changes r (Occurs (Comes_to_receiver n)) (bringing r (c.command ∷ []) [] s)

      g : Shared
      g = record s { to_receivers = rest }

      first : same c.pair p ≡ true → only p s.to_receivers ≡ c.command ∷ only p rest
      first i = ap (only p) u ∙ ap (λ (b : Bool). cond b (c.command ∷ only p rest) (only p rest)) i

      own : (r : Pair) → p ≡ r → same c.pair p ≡ true → MovesTo (From s fresh) [] (connection_at p (put_hosted r (h r) g))
      own r i j = subst (λ (x : Pair). MovesTo (From s fresh) [] (connection_at p (put_hosted x (h x) g))) i (put-own (h p) s g fresh [] (alive s.receives refl))
        where
          alive : (b : Bool) → s.receives ≡ b → MovesTo (From s fresh) [] (h p).connection
          alive true e = rw (e, few) (to-receiver p sp n c.command (only p rest) s.sends (connection_at p s) fresh (first j) (subst (λ (b : Bool). Fit p s.sends b (connection_at p s)) e (k p sp)) f)
          alive false e = rw e (still s s fresh f refl refl refl)

      which : (b : Bool) → same c.pair p ≡ b → MovesTo (From s fresh) [] (connection_at p (put_hosted c.pair (h c.pair) g))
      which true i = own c.pair (sym (same_true c.pair p i)) i
      which false d = put-other c.pair (h c.pair) s g fresh d refl refl refl f

      go : (b : Bool) → sends c.pair ≡ b → MovesTo (From s fresh) [] (connection_at p (if b then put_hosted c.pair (h c.pair) g else g))
      go true e = which (same c.pair p) refl
      go false e = still s g fresh f refl refl refl

  pub step : (e : Shared_event) (s : Shared) (fresh : Bool) → AllFit s → AllFit (shared_occurs e s) → FreshOn (connection_at p s) fresh → MovesTo (From s fresh) (shared_steps p e s) (connection_at p (shared_occurs e s))
  step (On q e) s fresh k k' f = go (sends q) refl k'
    where
      go : (b : Bool) → sends q ≡ b → AllFit (if b then put_hosted q (changes q (Occurs e) (bringing q [] [] s)) s else s)
          → MovesTo (From s fresh) (if same q p then event_steps p s.sends s.receives e (connection_at p s) else []) (connection_at p (if b then put_hosted q (changes q (Occurs e) (bringing q [] [] s)) s else s))
      go true sq m = on-one q e s fresh sq k m f
      go false sq m = none (same q p) refl
        where
          none : (b : Bool) → same q p ≡ b → MovesTo (From s fresh) (if b then event_steps p s.sends s.receives e (connection_at p s) else []) (connection_at p s)
          none true i = absurd (both_ways (sends p) (subst (λ (x : Pair). sends x ≡ false) (same_true q p i) sq) sp)
          none false i = still s s fresh f refl refl refl
  step (Next_to_senders n) s fresh k k' f = go (nat_lt n MAX_BY_PEER) refl s.to_senders
    where
      go : (b : Bool) → nat_lt n MAX_BY_PEER ≡ b → (xs : List Tagged) → MovesTo (From s fresh) [] (connection_at p (if b then next_to_senders n xs s else s))
      go false few xs = still s s fresh f refl refl refl
      go true few [] = still s s fresh f refl refl refl
      go true few (c ∷ rest) = next-sender n c rest s fresh few k f
  step (Next_to_receivers n) s fresh k k' f = go (nat_lt n MAX_BY_PEER) refl s.to_receivers refl
    where
      go : (b : Bool) → nat_lt n MAX_BY_PEER ≡ b → (xs : List Tagged) → s.to_receivers ≡ xs → MovesTo (From s fresh) [] (connection_at p (if b then next_to_receivers n xs s else s))
      go false few xs u = still s s fresh f refl refl refl
      go true few [] u = still s s fresh f refl refl refl
      go true few (c ∷ rest) u = next-receiver n c rest s fresh u few k f
  step (Other_to_senders c) s fresh k k' f = go (sends c.pair)
    where
      go : (b : Bool) → MovesTo (From s fresh) [] (connection_at p (if b then s else record s { to_senders = s.to_senders ++ c ∷ [] }))
      go true = still s s fresh f refl refl refl
      go false = still s (record s { to_senders = s.to_senders ++ c ∷ [] }) fresh f refl refl refl
  step (Other_to_receivers c) s fresh k k' f = go (sends c.pair)
    where
      go : (b : Bool) → MovesTo (From s fresh) [] (connection_at p (if b then s else record s { to_receivers = s.to_receivers ++ c ∷ [] }))
      go true = still s s fresh f refl refl refl
      go false = still s (record s { to_receivers = s.to_receivers ++ c ∷ [] }) fresh f refl refl refl
  step (Senders_are_cleared n) s fresh k k' f = sender-cut p sp (connection_at p s) fresh f
  step (Receivers_are_cleared n) s fresh k k' f = receiver-cut p sp (connection_at p s) fresh f
  step All_start_empty s fresh k k' f = still s (shared_occurs All_start_empty s) fresh f refl refl refl

  -- one run behind another

  joined : (x y z : Pipe) (some more : List Step) → IsRun x some y → IsRun y more z → IsRun x (some ++ more) z
  joined x y z [] more r t = subst (λ (a : Pipe). IsRun a more z) (sym r) t
  joined x y z (a ∷ some) more (m, i, r) t = (m, i, joined m y z some more r t)

  users-joined : (some more : List Step) → user_steps (some ++ more) ≡ user_steps some ++ user_steps more
  users-joined [] more = refl
  users-joined (a ∷ some) more = go (is_user_step a) (users-joined some more)
    where
      go : (b : Bool) → user_steps (some ++ more) ≡ user_steps some ++ user_steps more → (if b then a ∷ user_steps (some ++ more) else user_steps (some ++ more)) ≡ (if b then a ∷ user_steps some else user_steps some) ++ user_steps more
      go true e = ap (λ (l : List Step). a ∷ l) e
      go false e = e

  pub run : (es : List Shared_event) (s : Shared) (fresh : Bool) → AllMayHappen es s → AllFit s → FreshOn (connection_at p s) fresh → MovesTo (From s fresh) (user_steps_from p es s) (connection_at p (shared_from es s))
  run [] s fresh m k f = still s s fresh f refl refl refl
  run (e ∷ es) s fresh m k f =
      let next : AllFit (shared_occurs e s) = fits_keep e s m.0 k in
      let one = step e s fresh k next f in
      let rest = run es (shared_occurs e s) one.fresh m.1 next one.still in
      record {
        fresh = rest.fresh;
        steps = one.steps ++ rest.steps;
        run = joined (From s fresh) (From (shared_occurs e s) one.fresh) _ one.steps rest.steps one.run rest.run;
        of_users = users-joined one.steps rest.steps ∙ ap (λ (l : List Step). l ++ user_steps rest.steps) one.of_users ∙ ap (λ (l : List Step). shared_steps p e s ++ l) rest.of_users;
        still = rest.still;
      }

  pub whole : (es : List Shared_event) → AllMayHappen es new_shared → MovesTo (From new_shared true) (user_steps_from p es new_shared) (connection_at p (shared es))
  whole es m = run es new_shared true m new_fits (λ x. cc x, λ x. cc x)
