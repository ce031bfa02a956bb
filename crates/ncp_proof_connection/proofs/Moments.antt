-- The text that a receiver's user took since the last ask: empty before the end opens, and then a prefix
-- of the text got. So it is a prefix of the text given, regardless of later events at either end.
use Rattle.std.proofs.Common.{◌≡◌, ℕ, Bool, true, false, not, ◌&&◌, cond, if◌then◌else◌, List, [], ◌∷◌, ◌++◌, take, drop, Option, None, Some, Result, Ok, Err, refl, ap, sym, ◌∙◌, subst, arith}
use Rattle.std.proofs.lemmas.Bool.{both_ways}
use Rattle.std.proofs.lemmas.List.{append-nil, append_assoc, take-append-drop}
use Rattle.ncp_wire.specs.declared.command.Command.{Command}
use Rattle.ncp_wire.specs.declared.command.Command.TheVariants.{Rts}
use Rattle.ncp_model.specs.declared.pair.Pair.{Pair}
use Rattle.ncp_model.specs.declared.call_fault.CallFault.{CallFault}
use Rattle.ncp_model.specs.Pairs.{sends}
use Rattle.ncp_model.specs.Endpoint.{Endpoint, or_new, is_live}
use Rattle.ncp_model.specs.Effect.{Effect, answer, leaves, closing}
use Rattle.ncp_model.specs.Calls.{unless_refused, may_take, bits_to_take, emptied, take_bits}
use Rattle.ncp_model.specs.Texts.{Rfnm, Incomplete, Dead}
use Rattle.ncp_model.specs.EndpointEvents.{EndpointEvent, Outcome, of_take, happens}
use Rattle.ncp_model.specs.Demux.{suits}
use Rattle.ncp_proof_endpoint.specs.Histories.{PairHistory, is_outcome_accepted, is_admitted, taken_out, adds, opens, IsPrefix, reopened}
use Rattle.ncp_proof_endpoint.specs.Books.{BooksAt}
use Rattle.ncp_proof_endpoint.specs.Sound.{SoundAt}
use Rattle.ncp_proof_connection.specs.Connections.{Text}
use Rattle.ncp_proof_connection.proofs.Lines.{comes_asked}
use Rattle.ncp_proof_connection.proofs.Joint.{to_sender_kind, kinds, live_got, Place, Together, Sender_ahead, Receiver_ahead, Joint, Core}

-- Beginnings.

begins-nil : (xs ys : List Bool) → xs ≡ [] → IsPrefix xs ys
begins-nil xs ys e = (ys, ap (λ (l : List Bool). l ++ ys) e)

begins-more : (xs ys more : List Bool) → IsPrefix xs ys → IsPrefix xs (ys ++ more)
begins-more xs ys more k = (k.0 ++ more, sym (append_assoc xs k.0 more) ∙ ap (λ (l : List Bool). l ++ more) k.1)

begins-on : (xs ys zs : List Bool) → IsPrefix xs ys → IsPrefix ys zs → IsPrefix xs zs
begins-on xs ys zs k m = (k.0 ++ m.0, sym (append_assoc xs k.0 m.0) ∙ ap (λ (l : List Bool). l ++ m.0) k.1 ∙ m.1)

begins-of-none : (xs ys : List Bool) → IsPrefix xs ys → ys ≡ [] → xs ≡ []
begins-of-none [] ys k e = refl
begins-of-none (x ∷ xs) ys k e = absurd (cc (k.1 ∙ e))

-- of the front of what is held
begins-front : (got taken stored : List Bool) (n : ℕ) → got ≡ taken ++ stored → IsPrefix (taken ++ take n stored) got
begins-front got taken stored n e = (drop n stored, append_assoc taken (take n stored) (drop n stored) ∙ ap (λ (l : List Bool). taken ++ l) (take-append-drop n stored) ∙ sym e)

-- before it opens nothing was taken since the ask
abbrev pub NoneYet : Option Endpoint → PairHistory → Type 0
NoneYet None past = Unit {0}
NoneYet (Some e) past = e.asked ≡ true → e.opened ≡ false → past.taken ≡ []

-- and then it is a beginning of what was got
abbrev pub Front : Option Endpoint → PairHistory → Type 0
Front o past = is_live o ≡ true → IsPrefix past.taken past.got

-- the history after it
abbrev pub then_past : Pair → EndpointEvent → Option Endpoint → PairHistory → PairHistory
then_past pair what before past = adds what (happens pair what before).outcome (if opens before (happens pair what before).after then reopened past else past)

pub none-kept : (pair : Pair) (what : EndpointEvent) (before : Option Endpoint) (past : PairHistory) → sends pair ≡ false → suits pair what ≡ true → SoundAt pair before → NoneYet before past → NoneYet (happens pair what before).after (then_past pair what before past)
none-kept pair (EndpointEvent.Asks_to_send of_size with_room own full) None past n l s k = grind arith
none-kept pair (EndpointEvent.Asks_to_send of_size with_room own full) (Some e) past n l s k = grind arith
none-kept pair (EndpointEvent.Asks_to_receive with_room on own full) None past n l s k = grind arith
none-kept pair (EndpointEvent.Asks_to_receive with_room on own full) (Some e) past n l s k = grind arith
none-kept pair (EndpointEvent.Closes full) None past n l s k = tt
none-kept pair (EndpointEvent.Closes full) (Some e) past n l s k = grind arith
none-kept pair (EndpointEvent.Gives text) None past n l s k = tt
none-kept pair (EndpointEvent.Gives text) (Some e) past n l s k = grind arith
none-kept pair (EndpointEvent.Takes bytes) None past n l s k = tt
none-kept pair (EndpointEvent.Takes bytes) (Some e) past n l s k = grind (arith, append-nil)
none-kept pair (EndpointEvent.Allocates m b full) None past n l s k = tt
none-kept pair (EndpointEvent.Allocates m b full) (Some e) past n l s k = grind arith
none-kept pair (EndpointEvent.Calls_back m b full) None past n l s k = tt
none-kept pair (EndpointEvent.Calls_back m b full) (Some e) past n l s k = grind arith
none-kept pair (EndpointEvent.Interrupts full) None past n l s k = tt
none-kept pair (EndpointEvent.Interrupts full) (Some e) past n l s k = grind arith
none-kept pair (EndpointEvent.Rts_comes on taken by_peer) None past n l s k = grind arith
none-kept pair (EndpointEvent.Rts_comes on taken by_peer) (Some e) past n l s k = grind arith
none-kept pair (EndpointEvent.Str_comes of_size by_peer) None past n l s k = grind arith
none-kept pair (EndpointEvent.Str_comes of_size by_peer) (Some e) past n l s k = grind arith
none-kept pair EndpointEvent.Cls_comes None past n l s k = grind arith
none-kept pair EndpointEvent.Cls_comes (Some e) past n l s k = grind arith
none-kept pair (EndpointEvent.All_comes on m b) before past n l s k = absurd (cc (n, l))
none-kept pair (EndpointEvent.Gvb_comes on m b) before past n l s k = absurd (cc (n, l))
none-kept pair (EndpointEvent.Ret_comes on m b) None past n l s k = tt
none-kept pair (EndpointEvent.Ret_comes on m b) (Some e) past n l s k = grind arith
none-kept pair (EndpointEvent.Inr_comes on) before past n l s k = absurd (cc (n, l))
none-kept pair (EndpointEvent.Ins_comes on) None past n l s k = tt
none-kept pair (EndpointEvent.Ins_comes on) (Some e) past n l s k = grind arith
none-kept pair (EndpointEvent.Text_comes head of_size text) None past n l s k = tt
none-kept pair (EndpointEvent.Text_comes head of_size text) (Some e) past n l s k = grind arith
none-kept pair EndpointEvent.Text_goes_out before past n l s k = absurd (cc (n, l))
none-kept pair (EndpointEvent.Is_answered how) before past n l s k = absurd (cc (n, l))
none-kept pair EndpointEvent.Is_cleared before past n l s k = tt

-- What a take takes out: nothing, or the front of what an end holds that opened and is not left.

bits-out : (pair : Pair) (n : ℕ) (e : Endpoint) (P : List Bool → Type 0) → P (take n e.stored) → P (taken_out (of_take (answer (take_bits pair n e))))
bits-out pair n e P k = go (e.leaving && emptied e n)
  where
    go : (b : Bool) → P (taken_out (of_take (answer (if b then Effect.Becomes (leaves e) (Ok (take n e.stored, Some (closing pair))) else Effect.Becomes (record e { stored = drop n e.stored }) (Ok (take n e.stored, None))))))
    go true = k
    go false = k

take-out : (pair : Pair) (bytes : ℕ) (before : Option Endpoint) (P : List Bool → Type 0) → P [] → ((e : Endpoint) (n : ℕ) → before ≡ Some e → e.left ≡ false → e.opened ≡ true → P (take n e.stored)) → P (taken_out (happens pair (EndpointEvent.Takes bytes) before).outcome)
take-out pair bytes None P none some = none
take-out pair bytes (Some e) P none some = go (may_take pair e) refl
  where
    go : (may : Result (Unit {0}) CallFault) → may_take pair e ≡ may → P (taken_out (of_take (answer (unless_refused may (take_bits pair (bits_to_take bytes e) e)))))
    go (Err f) m = none
    go (Ok _) m = bits-out pair (bits_to_take bytes e) e P (some e (bits_to_take bytes e) refl (grind arith) (grind arith))

take-opens-not : (pair : Pair) (bytes : ℕ) (before : Option Endpoint) → opens before (happens pair (EndpointEvent.Takes bytes) before).after ≡ false
take-opens-not pair bytes None = refl
take-opens-not pair bytes (Some e) = grind arith

-- what is taken goes on as it was got
takes-front : (pair : Pair) (bytes : ℕ) (before : Option Endpoint) (past : PairHistory) → BooksAt before past → IsPrefix past.taken past.got → IsPrefix (past.taken ++ taken_out (happens pair (EndpointEvent.Takes bytes) before).outcome) past.got
takes-front pair bytes before past books k = take-out pair bytes before (λ (out : List Bool). IsPrefix (past.taken ++ out) past.got)
    (subst (λ (l : List Bool). IsPrefix l past.got) (sym (append-nil past.taken)) k)
    (λ e n is l o. begins-front past.got past.taken e.stored n ((subst (λ (x : Option Endpoint). BooksAt x past) is books).held o l))

-- and begins what is given
takes-begins : (pair : Pair) (bytes : ℕ) (before : Option Endpoint) (past : PairHistory) (g : List Bool) → BooksAt before past → (is_live before ≡ true → IsPrefix past.got g) → IsPrefix past.taken g → IsPrefix (past.taken ++ taken_out (happens pair (EndpointEvent.Takes bytes) before).outcome) g
takes-begins pair bytes before past g books got k = take-out pair bytes before (λ (out : List Bool). IsPrefix (past.taken ++ out) g)
    (subst (λ (l : List Bool). IsPrefix l g) (sym (append-nil past.taken)) k)
    (λ e n is l o. begins-on (past.taken ++ take n e.stored) past.got g
    (begins-front past.got past.taken e.stored n ((subst (λ (x : Option Endpoint). BooksAt x past) is books).held o l))
    (got (ap is_live is ∙ o)))

-- a call to receive starts again, from empty
asked-begins : (b : Bool) (xs ys : List Bool) → IsPrefix xs ys → IsPrefix (if b then [] else xs) ys
asked-begins true xs ys k = (ys, refl)
asked-begins false xs ys k = k

live-before : (a b : Bool) → (not a && b) ≡ false → b ≡ true → a ≡ true
live-before true b e f = refl
live-before false b e f = absurd (both_ways b e f)

pub front-kept : (pair : Pair) (what : EndpointEvent) (before : Option Endpoint) (past : PairHistory) → BooksAt before past → Front before past → Front (happens pair what before).after (then_past pair what before past)
front-kept pair what before past books k live = go (opens before (happens pair what before).after) refl
  where
    o : Outcome
    o = (happens pair what before).outcome

    anew : (what : EndpointEvent) (o : Outcome) → ((bytes : ℕ) → what ≡ EndpointEvent.Takes bytes → ⊥) → IsPrefix (adds what o (reopened past)).taken (adds what o (reopened past)).got
    anew (EndpointEvent.Takes bytes) o f = absurd (f bytes refl)
    anew (EndpointEvent.Asks_to_receive with_room on own full) o f = asked-begins (is_outcome_accepted o) [] [] ([], refl)
    anew what o f = ((adds what o (reopened past)).got, refl)

    further : (what : EndpointEvent) → IsPrefix past.taken past.got → IsPrefix (adds what (happens pair what before).outcome past).taken (adds what (happens pair what before).outcome past).got
    further (EndpointEvent.Takes bytes) f = takes-front pair bytes before past books f
    further (EndpointEvent.Asks_to_receive with_room on own full) f = asked-begins (is_outcome_accepted (happens pair (EndpointEvent.Asks_to_receive with_room on own full) before).outcome) past.taken past.got f
    further (EndpointEvent.Text_comes head of_size text) f = begins-more past.taken past.got (if is_admitted (happens pair (EndpointEvent.Text_comes head of_size text) before).outcome then text else []) f
    further what f = f

    go : (b : Bool) → opens before (happens pair what before).after ≡ b → IsPrefix (adds what o (if b then reopened past else past)).taken (adds what o (if b then reopened past else past)).got
    go true e = anew what o (λ bytes is. both_ways (opens before (happens pair what before).after) (subst (λ (w : EndpointEvent). opens before (happens pair w before).after ≡ false) (sym is) (take-opens-not pair bytes before)) e)
    go false e = further what (k (live-before (is_live before) (is_live (happens pair what before).after) e live))

-- what was taken stays, or is nothing, or is what a take leaves
taken-or : (what : EndpointEvent) (o : Outcome) (past : PairHistory) (P : List Bool → Type 0) → P past.taken → P [] → ((bytes : ℕ) → what ≡ EndpointEvent.Takes bytes → P (past.taken ++ taken_out o)) → P (adds what o past).taken
taken-or (EndpointEvent.Takes bytes) o past P k n t = t bytes refl
taken-or (EndpointEvent.Asks_to_receive with_room on own full) o past P k n t = go (is_outcome_accepted o)
  where
    go : (b : Bool) → P (if b then [] else past.taken)
    go true = n
    go false = k
taken-or what o past P k n t = k

-- at the receiver
pub receiver-begins : (pair : Pair) (what : EndpointEvent) (before : Option Endpoint) (past : PairHistory) (g : List Bool) → BooksAt before past → (is_live before ≡ true → IsPrefix past.got g) → IsPrefix past.taken g → IsPrefix (then_past pair what before past).taken g
receiver-begins pair what before past g books got k = go (opens before (happens pair what before).after) refl
  where
    o : Outcome
    o = (happens pair what before).outcome

    go : (b : Bool) → opens before (happens pair what before).after ≡ b → IsPrefix (adds what o (if b then reopened past else past)).taken g
    go true e = taken-or what o (reopened past) (λ (l : List Bool). IsPrefix l g) (g, refl) (g, refl)
        (λ bytes is. absurd (both_ways (opens before (happens pair what before).after) (subst (λ (w : EndpointEvent). opens before (happens pair w before).after ≡ false) (sym is) (take-opens-not pair bytes before)) e))
    go false e = taken-or what o past (λ (l : List Bool). IsPrefix l g) k (g, refl)
        (λ bytes is. subst (λ (w : EndpointEvent). IsPrefix (past.taken ++ taken_out (happens pair w before).outcome) g) (sym is) (takes-begins pair bytes before past g books got k))

-- at the sender: what is given only grows, but where it opens
given-grows : (what : EndpointEvent) (o : Outcome) (past : PairHistory) → (more : List Bool) × ((adds what o past).given ≡ past.given ++ more)
given-grows (EndpointEvent.Gives text) o past = (_, refl)
given-grows what o past = ([], sym (append-nil past.given))

pub sender-begins : (pair : Pair) (what : EndpointEvent) (before : Option Endpoint) (past : PairHistory) (taken : List Bool) → (opens before (happens pair what before).after ≡ true → taken ≡ []) → IsPrefix taken past.given → IsPrefix taken (then_past pair what before past).given
sender-begins pair what before past taken none k = go (opens before (happens pair what before).after) refl
  where
    go : (b : Bool) → opens before (happens pair what before).after ≡ b → IsPrefix taken (adds what (happens pair what before).outcome (if b then reopened past else past)).given
    go true e = begins-nil taken _ (none e)
    go false e = let m = given-grows what (happens pair what before).outcome past in subst (λ (l : List Bool). IsPrefix taken l) (sym m.1) (begins-more taken past.given m.0 k)

-- A sender opens by a request, its own or its peer's.

pub opens-by-request : (pair : Pair) (what : EndpointEvent) (before : Option Endpoint) → sends pair ≡ true
    → ((of_size with_room own : ℕ) (full : Bool) → what ≡ EndpointEvent.Asks_to_send of_size with_room own full → ⊥) → ((on by_peer : ℕ) (taken : Bool) → what ≡ EndpointEvent.Rts_comes on taken by_peer → ⊥)
    → opens before (happens pair what before).after ≡ false
opens-by-request pair (EndpointEvent.Asks_to_send of_size with_room own full) before s f g = absurd (f of_size with_room own full refl)
opens-by-request pair (EndpointEvent.Rts_comes on taken by_peer) before s f g = absurd (g on by_peer taken refl)
opens-by-request pair (EndpointEvent.Asks_to_receive with_room on own full) None s f g = grind arith
opens-by-request pair (EndpointEvent.Asks_to_receive with_room on own full) (Some e) s f g = grind arith
opens-by-request pair (EndpointEvent.Closes full) None s f g = refl
opens-by-request pair (EndpointEvent.Closes full) (Some e) s f g = grind arith
opens-by-request pair (EndpointEvent.Gives text) None s f g = refl
opens-by-request pair (EndpointEvent.Gives text) (Some e) s f g = grind arith
opens-by-request pair (EndpointEvent.Takes bytes) None s f g = refl
opens-by-request pair (EndpointEvent.Takes bytes) (Some e) s f g = grind arith
opens-by-request pair (EndpointEvent.Allocates m b full) None s f g = refl
opens-by-request pair (EndpointEvent.Allocates m b full) (Some e) s f g = grind arith
opens-by-request pair (EndpointEvent.Calls_back m b full) None s f g = refl
opens-by-request pair (EndpointEvent.Calls_back m b full) (Some e) s f g = grind arith
opens-by-request pair (EndpointEvent.Interrupts full) None s f g = refl
opens-by-request pair (EndpointEvent.Interrupts full) (Some e) s f g = grind arith
opens-by-request pair (EndpointEvent.Str_comes of_size by_peer) None s f g = grind arith
opens-by-request pair (EndpointEvent.Str_comes of_size by_peer) (Some e) s f g = grind arith
opens-by-request pair EndpointEvent.Cls_comes None s f g = grind arith
opens-by-request pair EndpointEvent.Cls_comes (Some e) s f g = grind arith
opens-by-request pair (EndpointEvent.All_comes on m b) None s f g = refl
opens-by-request pair (EndpointEvent.All_comes on m b) (Some e) s f g = grind arith
opens-by-request pair (EndpointEvent.Gvb_comes on m b) None s f g = refl
opens-by-request pair (EndpointEvent.Gvb_comes on m b) (Some e) s f g = grind arith
opens-by-request pair (EndpointEvent.Ret_comes on m b) None s f g = refl
opens-by-request pair (EndpointEvent.Ret_comes on m b) (Some e) s f g = grind arith
opens-by-request pair (EndpointEvent.Inr_comes on) None s f g = refl
opens-by-request pair (EndpointEvent.Inr_comes on) (Some e) s f g = grind arith
opens-by-request pair (EndpointEvent.Ins_comes on) None s f g = refl
opens-by-request pair (EndpointEvent.Ins_comes on) (Some e) s f g = grind arith
opens-by-request pair (EndpointEvent.Text_comes head of_size text) None s f g = refl
opens-by-request pair (EndpointEvent.Text_comes head of_size text) (Some e) s f g = grind arith
opens-by-request pair EndpointEvent.Text_goes_out None s f g = refl
opens-by-request pair EndpointEvent.Text_goes_out (Some e) s f g = grind arith
opens-by-request pair (EndpointEvent.Is_answered Rfnm) None s f g = refl
opens-by-request pair (EndpointEvent.Is_answered Incomplete) None s f g = refl
opens-by-request pair (EndpointEvent.Is_answered Dead) None s f g = refl
opens-by-request pair (EndpointEvent.Is_answered how) (Some e) s f g = grind arith
opens-by-request pair EndpointEvent.Is_cleared None s f g = refl
opens-by-request pair EndpointEvent.Is_cleared (Some e) s f g = grind arith

-- Where it opens, the receiver asked in the same round, and nothing was got yet: so nothing was taken.

none-taken : (ro : Option Endpoint) (rp : PairHistory) → NoneYet ro rp → Front ro rp → (or_new ro).asked ≡ true → live_got ro rp ≡ [] → rp.taken ≡ []
none-taken None rp n f a e = absurd (both_ways false refl a)
none-taken (Some r) rp n f a e = go r.opened refl
  where
    go : (b : Bool) → r.opened ≡ b → rp.taken ≡ []
    go true o = begins-of-none rp.taken rp.got (f o) (ap (λ (b : Bool). cond b rp.got []) (sym o) ∙ e)
    go false o = n a o

module _ (s : Endpoint) (g : List Bool) (ro : Option Endpoint) (rp : PairHistory) (p q : List Command) (t : Text) (n : NoneYet ro rp) (f : Front ro rp) where
  abbrev r : Endpoint
  r = or_new ro

  abbrev h : List Bool
  h = live_got ro rp

  -- it heard the receiver's request, and asks
  pub none-where-heard : s.opened ≡ false → s.left ≡ false → s.heard ≡ true → Core s g (or_new ro) (live_got ro rp) p q t → rp.taken ≡ []
  none-where-heard o l a k = go k.place k.joint
    where
      go : (d : Place) → Joint d s g r h p q t → rp.taken ≡ []
      go Together j = none-taken ro rp n f (comes_asked s.heard s.cls s.link s.size (kinds to_sender_kind q) r.asked r.heard r.left r.link a j.0.back) (j.1.unopened o)
      go Sender_ahead j = absurd (both_ways s.heard j.unheard a)
      go Receiver_ahead j = absurd (both_ways s.left l j.left)

  -- the receiver's request comes
  pub none-where-requested : (a b on : ℕ) → s.opened ≡ false → s.left ≡ false → Core s g (or_new ro) (live_got ro rp) p (Rts a b on ∷ q) t → rp.taken ≡ []
  none-where-requested a b on o l k = go k.place k.joint
    where
      go : (d : Place) → Joint d s g r h p (Rts a b on ∷ q) t → rp.taken ≡ []
      go Together j = none-taken ro rp n f (comes_asked true s.cls on s.size (kinds to_sender_kind q) r.asked r.heard r.left r.link refl j.0.back.3) (j.1.unopened o)
      go Sender_ahead j = absurd (cc (j.none))
      go Receiver_ahead j = absurd (both_ways s.left l j.left)

-- an end that opens had not, and is not left
pub ask-opens : (pair : Pair) (of_size with_room own : ℕ) (full : Bool) (o : Option Endpoint) → opens o (happens pair (EndpointEvent.Asks_to_send of_size with_room own full) o).after ≡ true
    → ((or_new o).opened ≡ false) × ((or_new o).left ≡ false) × ((or_new o).heard ≡ true)
ask-opens pair of_size with_room own full None e = (refl, refl, grind arith)
ask-opens pair of_size with_room own full (Some x) e = (grind arith, grind arith, grind arith)

pub request-opens : (pair : Pair) (on by_peer : ℕ) (taken : Bool) (o : Option Endpoint) → opens o (happens pair (EndpointEvent.Rts_comes on taken by_peer) o).after ≡ true
    → ((or_new o).opened ≡ false) × ((or_new o).left ≡ false)
request-opens pair on by_peer taken None e = (refl, refl)
request-opens pair on by_peer taken (Some x) e = (grind arith, grind arith)
