-- What is taken is never more than what is allowed, and at a receiver that has opened it is what was taken since the
-- opening: after each run.
use Rattle.std.proofs.Common.{◌≡◌, ◌≤◌, ℕ, ◌+◌, Bool, true, false, not, ◌&&◌, if◌then◌else◌, List, [], ◌∷◌, ◌++◌, length, take, drop, Option, None, Some, Result, Ok, Err, refl, sym, ap, ◌∙◌, subst, arith}
use Rattle.std.proofs.lemmas.List.{append_assoc, append-nil, length-append, take-append-drop}
use Rattle.std.specs.FinMap.{get}
use Rattle.ncp_wire.specs.declared.command.Command.{Command}
use Rattle.ncp_model.specs.declared.call_fault.CallFault.{CallFault}
use Rattle.ncp_model.specs.declared.call_fault.CallFault.TheVariants.{NotUp, Closing, NotOpen, WrongEnd}
use Rattle.ncp_model.specs.declared.pair.Pair.{Pair}
use Rattle.ncp_model.specs.declared.amounts.Amount.{Amount}
use Rattle.ncp_model.specs.Pairs.{sends, receives}
use Rattle.ncp_model.specs.Endpoint.{Endpoint, is_live, or_new}
use Rattle.ncp_model.specs.Effect.{Effect, answer}
use Rattle.ncp_model.specs.Calls.{refuse, ◌>>◌, unless_refused, bits_to_take, emptied, take_bits}
use Rattle.ncp_model.specs.EndpointEvents.{EndpointEvent, Outcome, Refused, of_take, happens}
use Rattle.ncp_model.specs.Demux.{suits}
use Rattle.ncp_model.specs.Peers.{Take, comes_of, happened_at, reply_of_take}
use Rattle.ncp_model.specs.Phase.{up}
use Rattle.ncp_proof_endpoint.specs.Histories.{PairHistory, no_past, is_outcome_accepted, taken_out}
use Rattle.ncp_proof_endpoint.specs.Sound.{SoundAt}
use Rattle.ncp_proof_endpoint.specs.Books.{BooksAt}
use Rattle.ncp_proof_endpoint.proofs.SoundEnds.{one_way}
use Rattle.ncp_proof_endpoint.proofs.BooksKept.{books-kept}
use Rattle.ncp_peer.specs.PeerState.{PeerState, new_state}
use Rattle.ncp_transcript.specs.declared.note.HostNote.{HostNote}
use Rattle.ncp_proof_runs.specs.Histories.{past_then, past_so_far}
use Rattle.ncp_proof_runs.specs.Peers.{notes_for}
use Rattle.ncp_statement.specs.Statement.{UserEvent, Asked, Gave, TookBits, AllowedBits, CalledBack, OtherEvent, taken_from, allowed_from}
use Rattle.ncp_proof_statement.specs.Since.{had_out, use_then, did_run, tallied, Takings, no_takings, takings_with, takings_then, TakenSince, Takes}
use Rattle.ncp_proof_statement.proofs.Taking.{taken-kept}
use Rattle.ncp_proof_statement.proofs.Tallies.{Ties, new-kept}
use Rattle.ncp_proof_statement.proofs.Tallies

-- Where `take` answers a text, the end is open and receives, it has not left, and it held the text in front.

pub record Held (q : Pair) (o : Option Endpoint) (text : List Bool) : Type 0 where
  pub live : is_live o ≡ true
  pub there : (or_new o).left ≡ false
  pub receives_it : receives q ≡ true
  pub later : List Bool
  pub front : (or_new o).stored ≡ text ++ later

abbrev told : List Bool → Option Command → Result (List Bool × Option Command) CallFault
told text c = Ok (text, c)

taken-bits : (q : Pair) (e : Endpoint) (count : ℕ) (text : List Bool) → reply_of_take (of_take (answer (take_bits q count e))) ≡ Ok text → take count e.stored ≡ text
taken-bits q e count text h = by (e.leaving && emptied e count) _ _ _ _ h
  where
    by : (b : Bool) (x y : Endpoint) (c d : Option Command)
        → reply_of_take (of_take (answer (if b then Effect.Becomes x (told (take count e.stored) c) else Effect.Becomes y (told (take count e.stored) d)))) ≡ Ok text → take count e.stored ≡ text
    by true x y c d h = cc h
    by false x y c d h = cc h

held : (q : Pair) (bytes : ℕ) (o : Option Endpoint) (text : List Bool) → reply_of_take (happens q (EndpointEvent.Takes bytes) o).outcome ≡ Ok text → Held q o text
held q bytes None text h = absurd (cc h)
held q bytes (Some e) text h = go e.left e.opened (receives q) refl refl refl h
  where
    go : (l o r : Bool) → e.left ≡ l → e.opened ≡ o → receives q ≡ r
        → reply_of_take (of_take (answer (unless_refused (refuse Closing l >> (refuse NotOpen (not o) >> refuse WrongEnd (not r))) (take_bits q (bits_to_take bytes e) e)))) ≡ Ok text → Held q (Some e) text
    go true o r a b c h = absurd (cc h)
    go false false r a b c h = absurd (cc h)
    go false true false a b c h = absurd (cc h)
    go false true true a b c h =
        let n : ℕ = bits_to_take bytes e in
        record { live = b; there = a; receives_it = c; later = drop n e.stored; front = sym (take-append-drop n e.stored) ∙ ap (λ (x : List Bool). x ++ drop n e.stored) (taken-bits q e n text h) }

pub held-at : (q : Pair) (bytes : ℕ) (s : PeerState) (text : List Bool) → reply_of_take (comes_of q (Take bytes) s.peer) ≡ Ok text → Held q (get s.peer.ends q) text
held-at q bytes s text h = go (up s.peer.phase) h
  where
    go : (b : Bool) → reply_of_take (if b then (happened_at q (Take bytes) s.peer).outcome else Refused NotUp) ≡ Ok text → Held q (get s.peer.ends q) text
    go true h = held q bytes (get s.peer.ends q) text h
    go false h = absurd (cc h)

-- What a use adds is what the happening does.

with-out : (o : Outcome) (x : Takings) → takings_with (had_out o) x ≡ record { taken = x.taken ++ taken_out o; allowed = x.allowed }
with-out (Outcome.Refused fault) x = ap (λ (t : List Bool). (let y : Takings = record { taken = t; allowed = x.allowed } in y)) (sym (append-nil x.taken))
with-out (Outcome.Took_out text) x = refl
with-out o x = refl

asked-with : (b : Bool) (x : Takings) → takings_with (if b then Asked else OtherEvent) x ≡ (if b then no_takings else x)
asked-with true x = refl
asked-with false x = refl

gave-with : (b : Bool) (text : List Bool) (x : Takings) → takings_with (if b then Gave text else OtherEvent) x ≡ x
gave-with true text x = refl
gave-with false text x = refl

let-with : (b : Bool) (bits : ℕ) (x : Takings) → takings_with (if b then AllowedBits bits else OtherEvent) x ≡ record { taken = x.taken; allowed = x.allowed + (if b then bits else 0) }
let-with true bits x = refl
let-with false bits x = ap (λ (n : ℕ). (let y : Takings = record { taken = x.taken; allowed = n } in y)) (plus-none x.allowed)
  where
    plus-none : (n : ℕ) → n ≡ n + 0
    plus-none n = grind arith

-- what neither takes nor allows
other-with : (u : UserEvent) (b : Bool) (x : Takings) → takings_with u x ≡ x → takings_with (if b then u else OtherEvent) x ≡ x
other-with u true x e = e
other-with u false x e = refl

pub as-then : (what : EndpointEvent) (o : Outcome) (x : Takings) → takings_with (use_then what o) x ≡ takings_then what o x
as-then (EndpointEvent.Asks_to_send of_size with_room own full) o x = asked-with (is_outcome_accepted o) x
as-then (EndpointEvent.Asks_to_receive with_room on own full) o x = asked-with (is_outcome_accepted o) x
as-then (EndpointEvent.Gives text) o x = gave-with (is_outcome_accepted o) text x
as-then (EndpointEvent.Takes bytes) o x = with-out o x
as-then (EndpointEvent.Allocates m b full) o x = let-with (is_outcome_accepted o) b x
as-then (EndpointEvent.Calls_back m b full) o x = other-with CalledBack (is_outcome_accepted o) x refl
as-then (EndpointEvent.Closes full) o x = other-with UserEvent.Closed (is_outcome_accepted o) x refl
as-then what o x = refl

-- It is never more than was allowed.

asked-within : (b : Bool) (x : Takings) → length x.taken ≤ x.allowed → length (if b then no_takings else x).taken ≤ (if b then no_takings else x).allowed
asked-within true x k = grind arith
asked-within false x k = k

more-within : (n m more : ℕ) → n ≤ m → n ≤ m + more
more-within n m more k = omega (arith, k)

-- what is taken goes out of what is held, which came within what was granted
had-within : (t text later stored past_taken got : List Bool) (a bits back granted : ℕ) → t ≡ past_taken → a ≡ granted → got ≡ past_taken ++ stored → stored ≡ text ++ later → bits + back + length got ≡ granted → length (t ++ text) ≤ a
had-within t text later stored past_taken got a bits back granted is all_of holds front books =
    let whole : got ≡ (t ++ text) ++ later = holds ∙ ap (λ (x : List Bool). x ++ stored) (sym is) ∙ ap (λ (x : List Bool). t ++ x) front ∙ sym (append_assoc t text later) in
    let sizes : length got ≡ length (t ++ text) + length later = ap length whole ∙ length-append (t ++ text) later in
    let sum : bits + back + (length (t ++ text) + length later) ≡ a = ap (λ (n : ℕ). bits + back + n) (sym sizes) ∙ books ∙ sym all_of in
    sum-within (length (t ++ text)) (bits + back) (length later) a sum
  where
    sum-within : (n front later a : ℕ) → front + (n + later) ≡ a → n ≤ a
    sum-within n front later a e = omega (arith, e)

nothing-out : (o : Outcome) (fault : CallFault) → reply_of_take o ≡ Err fault → taken_out o ≡ []
nothing-out (Outcome.Took_out t) fault e = absurd (cc e)
nothing-out o fault e = refl

out-is : (o : Outcome) (text : List Bool) → reply_of_take o ≡ Ok text → taken_out o ≡ text
out-is (Outcome.Took_out t) text e = cc
out-is (Outcome.Refused fault) text e = absurd (cc)
out-is Outcome.Accepted text e = cc
out-is (Outcome.Sent of_size t) text e = cc
out-is Outcome.Late text e = cc
out-is (Outcome.Erred error) text e = cc
out-is Outcome.Full text e = cc
out-is Outcome.Admitted text e = cc
out-is Outcome.WrongSize text e = cc
out-is Outcome.Over text e = cc
out-is Outcome.NotOpen text e = cc

takes-within : (pair : Pair) (bytes : ℕ) (o : Option Endpoint) (past : PairHistory) (x : Takings) → Takes pair o past x → length (x.taken ++ taken_out (happens pair (EndpointEvent.Takes bytes) o).outcome) ≤ x.allowed
takes-within pair bytes o past x k = go (reply_of_take (happens pair (EndpointEvent.Takes bytes) o).outcome) refl
  where
    open-end : (p : Option Endpoint) (text : List Bool) → Held pair p text → BooksAt p past → TakenSince p past x → length (x.taken ++ text) ≤ x.allowed
    open-end None text h b s = absurd (cc h.live)
    open-end (Some e) text h b s = had-within x.taken text h.later e.stored past.taken past.got x.allowed e.bits past.returned.bits past.granted.bits (s.0 h.live).0 (s.0 h.live).1 (b.held h.live h.there) h.front (ap (λ (a : Amount). a.bits) (b.counted h.live))

    go : (r : Result (List Bool) CallFault) → reply_of_take (happens pair (EndpointEvent.Takes bytes) o).outcome ≡ r → length (x.taken ++ taken_out (happens pair (EndpointEvent.Takes bytes) o).outcome) ≤ x.allowed
    go (Ok text) e =
        let h = held pair bytes o text e in
        subst (λ (t : List Bool). length (x.taken ++ t) ≤ x.allowed) (sym (out-is (happens pair (EndpointEvent.Takes bytes) o).outcome text e)) (open-end o text h (k.1 h.receives_it).0 (k.1 h.receives_it).1)
    go (Err fault) e =
        subst (λ (t : List Bool). length (x.taken ++ t) ≤ x.allowed) (sym (nothing-out (happens pair (EndpointEvent.Takes bytes) o).outcome fault e))
        (subst (λ (t : List Bool). length t ≤ x.allowed) (sym (append-nil x.taken)) k.0)

within : (pair : Pair) (what : EndpointEvent) (o : Option Endpoint) (past : PairHistory) (x : Takings) → Takes pair o past x → length (takings_then what (happens pair what o).outcome x).taken ≤ (takings_then what (happens pair what o).outcome x).allowed
within pair (EndpointEvent.Asks_to_send of_size with_room own full) o past x k = asked-within (is_outcome_accepted (happens pair (EndpointEvent.Asks_to_send of_size with_room own full) o).outcome) x k.0
within pair (EndpointEvent.Asks_to_receive with_room on own full) o past x k = asked-within (is_outcome_accepted (happens pair (EndpointEvent.Asks_to_receive with_room on own full) o).outcome) x k.0
within pair (EndpointEvent.Takes bytes) o past x k = takes-within pair bytes o past x k
within pair (EndpointEvent.Allocates m b full) o past x k = more-within (length x.taken) x.allowed _ k.0
within pair what o past x k = k.0

-- The tally is tied to each end, and so to each run.

takes-step : (pair : Pair) (what : EndpointEvent) (o : Option Endpoint) (past : PairHistory) (x : Takings) → suits pair what ≡ true → SoundAt pair o → Takes pair o past x
    → Takes pair (happens pair what o).after (past_then o what (happens pair what o) past) (takings_with (use_then what (happens pair what o).outcome) x)
takes-step pair what o past x fit s k =
    subst (λ (y : Takings). Takes pair (happens pair what o).after (past_then o what (happens pair what o) past) y) (sym (as-then what (happens pair what o).outcome x)) (
      within pair what o past x k,
      λ r. (books-kept pair what o past (one_way pair r) fit s (k.1 r).0, taken-kept pair what o past x (one_way pair r) fit s (k.1 r).1),
    )

pub no-sender : (pair : Pair) → sends pair ≡ true → receives pair ≡ true → ⊥
no-sender pair s r = let no : sends pair ≡ false = one_way pair r in absurd (cc (s, no))

takes-ties : Ties Takings takings_with Takes
takes-ties = record {
  quiet = λ x. refl;
  step = takes-step;
  ends = λ pair o past x k. (k.0, λ r. (tt, tt));
  goes = λ pair o past x h s k. (k.0, λ r. absurd (no-sender pair h r));
  frees = λ pair o past x h s k. (k.0, λ r. absurd (no-sender pair h r));
}

pub run-kept : (pair : Pair) (all_notes : List HostNote) → Takes pair (get (notes_for all_notes new_state).peer.ends pair) (past_so_far pair all_notes) (tallied takings_with no_takings (did_run pair all_notes new_state))
run-kept pair all_notes =
    (Tallies.run-kept Takings takings_with Takes takes-ties pair all_notes new_state no_past no_takings
    (new-kept Takings takings_with Takes takes-ties pair no_takings (none-within, λ r. (tt, tt)))).1
  where
    none-within : 0 ≤ 0
    none-within = grind arith

-- As the page counts.

pub taken-tallied : (us : List UserEvent) (x : Takings) → taken_from x.taken us ≡ (tallied takings_with x us).taken
taken-tallied [] x = refl
taken-tallied (Asked ∷ us) x = taken-tallied us no_takings
taken-tallied (Gave text ∷ us) x = taken-tallied us x
taken-tallied (TookBits text ∷ us) x = taken-tallied us (record { taken = x.taken ++ text; allowed = x.allowed })
taken-tallied (AllowedBits bits ∷ us) x = taken-tallied us (record { taken = x.taken; allowed = x.allowed + bits })
taken-tallied (CalledBack ∷ us) x = taken-tallied us x
taken-tallied (UserEvent.Closed ∷ us) x = taken-tallied us x
taken-tallied (OtherEvent ∷ us) x = taken-tallied us x

pub allowed-tallied : (us : List UserEvent) (x : Takings) → allowed_from x.allowed us ≡ (tallied takings_with x us).allowed
allowed-tallied [] x = refl
allowed-tallied (Asked ∷ us) x = allowed-tallied us no_takings
allowed-tallied (Gave text ∷ us) x = allowed-tallied us x
allowed-tallied (TookBits text ∷ us) x = allowed-tallied us (record { taken = x.taken ++ text; allowed = x.allowed })
allowed-tallied (AllowedBits bits ∷ us) x = allowed-tallied us (record { taken = x.taken; allowed = x.allowed + bits })
allowed-tallied (CalledBack ∷ us) x = allowed-tallied us x
allowed-tallied (UserEvent.Closed ∷ us) x = allowed-tallied us x
allowed-tallied (OtherEvent ∷ us) x = allowed-tallied us x
