-- Every act at the sender's end keeps what the ends have in common.
use Rattle.std.proofs.Common.{◌≡◌, ℕ, ◌+◌, ◌*◌, ◌/◌, ◌≤◌, Bool, true, false, not, ◌||◌, ◌&&◌, ◌==◌, if◌then◌else◌, nat_le, nat_lt, cond, List, [], ◌∷◌, ◌++◌, length, Option, None, Some, Result, Ok, Err, refl, ap, sym, ◌∙◌, subst, arith}
use Rattle.std.specs.Prelude.{is_none, min}
use Rattle.std.proofs.lemmas.Bool.{both_ways, or_parts, and_parts, and_left, or_left, not-true, leb-true}
use Rattle.std.proofs.lemmas.List.{append-nil}
use Rattle.std.proofs.Math.Nat.{div-mul-le_self, mul-le-mul_right, min-le_left, min-le_right}
use Rattle.ncp_wire.specs.declared.command.Command.{Command}
use Rattle.ncp_wire.specs.declared.command.Command.TheVariants.{Rts, Cls, All, Gvb, Inr}
use Rattle.ncp_model.specs.declared.pair.Pair.{Pair}
use Rattle.ncp_model.specs.declared.call_fault.CallFault.{CallFault}
use Rattle.ncp_model.specs.declared.outcomes.Heard.{Heard}
use Rattle.ncp_model.specs.declared.limits.TheConstants.{MAX_BY_PEER, MAX_MESSAGES, MAX_AMOUNT, MAX_TEXT, MAX_COUNT}
use Rattle.ncp_model.specs.Pairs.{sends, receives, is_proper}
use Rattle.ncp_model.specs.Endpoint.{Endpoint, new_end, or_new, is_closing, is_ended}
use Rattle.ncp_model.specs.Effect.{Effect, Stays, Becomes, answer, end_after, made_by_call, made_by_close, made_by_take, made_by_hearing, made_if_any, met, leaves, closing, is_data_link}
use Rattle.ncp_model.specs.Calls.{unless_refused, may_ask_send, ask_send, may_ask_receive, ask_receive, may_close, close, may_give, give, may_take, take_held, may_allocate, allocate, may_call_back, call_back, may_interrupt, interrupt, interrupting}
use Rattle.ncp_model.specs.Commands.{hear_rts, hear_cls, hear_cls_end, hear_all, hear_gvb, hear_inr, at_open, all_at, gvb_at, interrupted}
use Rattle.ncp_model.specs.Texts.{cut, can_send, bytes_to_send, Answer, end_answered, Rfnm}
use Rattle.ncp_model.specs.EndpointEvents.{EndpointEvent, Outcome, outcome_of_call, of_take, of_hearing, of_cut, is_violation}
use Rattle.ncp_proof_endpoint.specs.Histories.{PairHistory, adds, opens, reopened}
use Rattle.ncp_proof_connection.specs.Connections.{Text, No_text, Here, text_after_outcome}
use Rattle.ncp_proof_connection.proofs.Lines.{Data}
use Rattle.ncp_proof_connection.proofs.Joint.{to_sender_kind, Core, EndpointInvariant, unasked, unheard}
use Rattle.ncp_proof_connection.proofs.Standing.{stands}
use Rattle.ncp_proof_connection.proofs.Senders.{s_asks, s_unheard, s_hears, s_leaves, s_ends, s_leaving, s_close_fits, s_ended, s_shut, s_replies, s_late, s_there, s_fits, s_all, s_within, s_gvb, s_inr, s_gives, s_cuts, s_interrupts, s_answered, answered_firm}

pub opens_same : (o : Option Endpoint) (e : Endpoint) → e.opened ≡ (or_new o).opened → opens o (Some e) ≡ false
opens_same None e h = h
opens_same (Some x) e h = go x.opened h
  where
    go : (b : Bool) → e.opened ≡ b → (not b && e.opened) ≡ false
    go true h = refl
    go false h = h

pub opens_new : (o : Option Endpoint) (e : Endpoint) → (or_new o).opened ≡ false → opens o (Some e) ≡ e.opened
opens_new None e h = refl
opens_new (Some x) e h = rw h refl

pub opens_none : (o : Option Endpoint) → opens o None ≡ false
opens_none None = refl
opens_none (Some x) = go x.opened
  where
    go : (b : Bool) → (not b && false) ≡ false
    go true = refl
    go false = refl

pub opens_again : (o : Option Endpoint) → opens o o ≡ false
opens_again None = refl
opens_again (Some x) = opens_same (Some x) x refl

-- after an act at the sender's end
pub record Keeps {A : Type 0} (what : EndpointEvent) (before : Option Endpoint) (past : PairHistory) (r : Endpoint) (h : List Bool) (p q : List Command) (t : Text) (made_by : A → List Command) (of : A → Outcome) (act : Effect A) : Type 0 where
  pub fine : is_violation (of (answer act)) ≡ false
  pub core : Core (or_new (end_after before act)) (adds what (of (answer act)) (if opens before (end_after before act) then reopened past else past)).given r h (p ++ made_by (answer act)) q (text_after_outcome (or_new before).link (of (answer act)) t)

-- nothing is made
quiet : {A : Type 0} (r : Endpoint) (h : List Bool) (p q : List Command) (made_by : A → List Command) (e : Endpoint) (g : List Bool) (a : A) (u : Text) → made_by a ≡ [] → Core e g r h p q u → Core e g r h (p ++ made_by a) q u
quiet r h p q made_by e g a u m k = subst (λ (cs : List Command). Core e g r h (p ++ cs) q u) (sym m) (subst (λ (cs : List Command). Core e g r h cs q u) (sym (append-nil p)) k)

module _ {A : Type 0} {what : EndpointEvent} {before : Option Endpoint} {past : PairHistory} {r : Endpoint} {h : List Bool} {p q : List Command} {t : Text} {made_by : A → List Command} {of : A → Outcome} where
  choose : (b : Bool) {x y : Effect A} → (b ≡ true → Keeps what before past r h p q t made_by of x) → (b ≡ false → Keeps what before past r h p q t made_by of y) → Keeps what before past r h p q t made_by of (if b then x else y)
  choose true k m = k refl
  choose false k m = m refl

  stays : (a : A) → is_violation (of a) ≡ false → made_by a ≡ [] → text_after_outcome (or_new before).link (of a) t ≡ t → ((x : PairHistory) → (adds what (of a) x).given ≡ x.given) → Core (or_new before) past.given r h p q t
      → Keeps what before past r h p q t made_by of (Stays a)
  stays a f m u g k = record {
    fine = f;
    core = quiet r h p q made_by (or_new before) (adds what (of a) (if opens before before then reopened past else past)).given a (text_after_outcome (or_new before).link (of a) t) m
        (subst (λ (x : Text). Core (or_new before) (adds what (of a) (if opens before before then reopened past else past)).given r h p q x) (sym u)
        (subst (λ (b : Bool). Core (or_new before) (adds what (of a) (if b then reopened past else past)).given r h p q t) (sym (opens_again before))
        (subst (λ (x : List Bool). Core (or_new before) x r h p q t) (sym (g past)) k)));
  }

  -- the end stays as open as it was
  becomes : (e : Endpoint) (a : A) → is_violation (of a) ≡ false → is_ended e ≡ false → e.opened ≡ (or_new before).opened → Core e (adds what (of a) past).given r h (p ++ made_by a) q (text_after_outcome (or_new before).link (of a) t)
      → Keeps what before past r h p q t made_by of (Becomes e a)
  becomes e a f o w k = record {
    fine = f;
    core = subst (λ (x : Option Endpoint). Core (or_new x) (adds what (of a) (if opens before x then reopened past else past)).given r h (p ++ made_by a) q (text_after_outcome (or_new before).link (of a) t)) (sym (ap (λ (b : Bool). cond b None (Some e)) o))
        (subst (λ (b : Bool). Core e (adds what (of a) (if b then reopened past else past)).given r h (p ++ made_by a) q (text_after_outcome (or_new before).link (of a) t)) (sym (opens_same before e w)) k);
  }

  -- it is a CLS that is made, or one that came: the end may be over
  closes : (e : Endpoint) (a : A) → is_violation (of a) ≡ false → e.opened ≡ (or_new before).opened
      → (is_ended e ≡ true → Core new_end (adds what (of a) past).given r h (p ++ made_by a) q (text_after_outcome (or_new before).link (of a) t))
      → (is_ended e ≡ false → Core e (adds what (of a) past).given r h (p ++ made_by a) q (text_after_outcome (or_new before).link (of a) t))
      → Keeps what before past r h p q t made_by of (Becomes e a)
  closes e a f w k m = go (is_ended e) refl
    where
      go : (b : Bool) → is_ended e ≡ b → Keeps what before past r h p q t made_by of (Becomes e a)
      go true o = record {
        fine = f;
        core = subst (λ (x : Option Endpoint). Core (or_new x) (adds what (of a) (if opens before x then reopened past else past)).given r h (p ++ made_by a) q (text_after_outcome (or_new before).link (of a) t)) (sym (ap (λ (b : Bool). cond b None (Some e)) o))
            (subst (λ (b : Bool). Core new_end (adds what (of a) (if b then reopened past else past)).given r h (p ++ made_by a) q (text_after_outcome (or_new before).link (of a) t)) (sym (opens_none before)) (k o));
      }
      go false o = becomes e a f o w (m o)

  -- the end may open
  begins : (e : Endpoint) (a : A) → is_violation (of a) ≡ false → is_ended e ≡ false → (or_new before).opened ≡ false → ((x : PairHistory) → (adds what (of a) x).given ≡ x.given)
      → ((g : List Bool) → (e.opened ≡ true → g ≡ []) → (e.opened ≡ false → g ≡ past.given) → Core e g r h (p ++ made_by a) q (text_after_outcome (or_new before).link (of a) t))
      → Keeps what before past r h p q t made_by of (Becomes e a)
  begins e a f o w g k = record {
    fine = f;
    core = subst (λ (x : Option Endpoint). Core (or_new x) (adds what (of a) (if opens before x then reopened past else past)).given r h (p ++ made_by a) q (text_after_outcome (or_new before).link (of a) t)) (sym (ap (λ (b : Bool). cond b None (Some e)) o))
        (k (adds what (of a) (if opens before (Some e) then reopened past else past)).given (λ x. again ∙ go e.opened x (opens_new before e w)) (λ x. again ∙ went (opens_new before e w ∙ x)));
  }
    where
      again : (adds what (of a) (if opens before (Some e) then reopened past else past)).given ≡ (if opens before (Some e) then reopened past else past).given
      again = g (if opens before (Some e) then reopened past else past)

      go : (b : Bool) → b ≡ true → opens before (Some e) ≡ b → (if opens before (Some e) then reopened past else past).given ≡ []
      go b x y = rw (y ∙ x) refl

      went : opens before (Some e) ≡ false → (if opens before (Some e) then reopened past else past).given ≡ past.given
      went y = rw y refl

pub only_sends : (pair : Pair) → sends pair ≡ true → receives pair ≡ false
only_sends pair e = grind arith

not_over : (e : Endpoint) → is_closing e ≡ false → is_ended e ≡ false
not_over e v = and_left e.left e.cls (or_parts e.leaving e.left v).1

-- a call is refused, or does its act
called : {A : Type 0} {what : EndpointEvent} {before : Option Endpoint} {past : PairHistory} {r : Endpoint} {h : List Bool} {p q : List Command} {t : Text} {made_by : Result A CallFault → List Command} {of : Result A CallFault → Outcome} (may : Result (Unit {0}) CallFault) {act : Effect (Result A CallFault)}
    → ((f : CallFault) → Keeps what before past r h p q t made_by of (Stays (Err f))) → (may ≡ Ok tt → Keeps what before past r h p q t made_by of act) → Keeps what before past r h p q t made_by of (unless_refused may act)
called (Ok _) k m = m refl
called (Err f) k m = k f

module _ (pair : Pair) (sd : sends pair ≡ true) (past : PairHistory) (r : Endpoint) (h : List Bool) (p q : List Command) (t : Text) (fr : EndpointInvariant r) where
  pub sk-ask_send : (of_size with_room own : ℕ) (full : Bool) (before : Option Endpoint) → EndpointInvariant (or_new before) → Core (or_new before) past.given r h p q t
      → Keeps (EndpointEvent.Asks_to_send of_size with_room own full) before past r h p q t made_by_call outcome_of_call (ask_send pair of_size with_room own full before)
  sk-ask_send of_size with_room own full before fs k =
      called (may_ask_send pair of_size with_room own full before) (λ f. stays (Err f) refl refl refl (λ _. refl) k) (λ may.
      let none : (or_new before).asked ≡ false = grind arith in
      let v : is_closing (or_new before) ≡ false = grind arith in
      let z : (of_size == 0) ≡ false = grind arith in
      begins _ _ refl (not_over (or_new before) v) (unasked (or_new before) fs none) (λ _. refl)
      (λ g x y. s_asks (or_new before) past.given r h p q t fs fr of_size with_room pair.local pair.remote g none v z x y k))

  pub sk-ask_receive : (with_room on own : ℕ) (full : Bool) (before : Option Endpoint) → Core (or_new before) past.given r h p q t
      → Keeps (EndpointEvent.Asks_to_receive with_room on own full) before past r h p q t made_by_call outcome_of_call (ask_receive pair with_room on own full before)
  sk-ask_receive with_room on own full before k =
      called (may_ask_receive pair with_room own full before) (λ f. stays (Err f) refl refl refl (λ _. refl) k) (λ may. absurd (both_ways (receives pair) (only_sends pair sd) (grind arith)))

  pub sk-close : (full : Bool) (before : Option Endpoint) → EndpointInvariant (or_new before) → stands before ≡ true → Core (or_new before) past.given r h p q t
      → Keeps (EndpointEvent.Closes full) before past r h p q t made_by_close outcome_of_call (close pair full before)
  sk-close full None fs st k = stays _ refl refl refl (λ _. refl) k
  sk-close full (Some e) fs st k =
      called (may_close pair full e) (λ f. stays (Err f) refl refl refl (λ _. refl) k) (λ may.
      let l : e.left ≡ false = grind arith in
      choose (sends pair && e.busy)
      (λ b. becomes (record e { leaving = true; stored = [] }) (Ok None) refl (and_left e.left e.cls l) refl
      (rw (append-nil p) (s_leaving e past.given r h p q t fs fr (record e { leaving = true; stored = [] }) (and_parts (sends pair) e.busy b).1 refl refl refl refl refl refl k)))
      (λ b. let y : e.busy ≡ false = grind arith in
      closes (leaves e) (Ok (Some (closing pair))) refl refl
      (λ o. s_ends e past.given r h p q t fs fr pair.local pair.remote y l o k)
      (λ o. s_leaves e past.given r h p q t fs fr pair.local pair.remote y l (and_parts (e.asked || e.heard) (nat_le e.room 65536) st).0 k)))

  pub sk-give : (text : List Bool) (before : Option Endpoint) → EndpointInvariant (or_new before) → Core (or_new before) past.given r h p q t
      → Keeps (EndpointEvent.Gives text) before past r h p q t (λ _. []) outcome_of_call (give pair text before)
  sk-give text None fs k = stays _ refl refl refl (λ x. append-nil x.given) k
  sk-give text (Some e) fs k =
      called (may_give pair text e) (λ f. stays (Err f) refl refl refl (λ x. append-nil x.given) k) (λ may.
      let v : is_closing e ≡ false = grind arith in
      let a : e.asked ≡ true = grind arith in
      let o : e.heard ≡ true = grind arith in
      becomes (record e { stored = e.stored ++ text }) (Ok tt) refl (not_over e v) refl (rw (append-nil p) (s_gives e past.given r h p q t fs fr text v a o k)))

  pub sk-take : (bytes : ℕ) (before : Option Endpoint) → Core (or_new before) past.given r h p q t
      → Keeps (EndpointEvent.Takes bytes) before past r h p q t made_by_take of_take (take_held pair bytes before)
  sk-take bytes None k = stays _ refl refl refl (λ _. refl) k
  sk-take bytes (Some e) k =
      called (may_take pair e) (λ f. stays (Err f) refl refl refl (λ _. refl) k) (λ may. absurd (both_ways (receives pair) (only_sends pair sd) (grind arith)))

  pub sk-allocate : (m b : ℕ) (full : Bool) (before : Option Endpoint) → Core (or_new before) past.given r h p q t
      → Keeps (EndpointEvent.Allocates m b full) before past r h p q t made_by_call outcome_of_call (allocate pair m b full before)
  sk-allocate m b full None k = stays _ refl refl refl (λ _. refl) k
  sk-allocate m b full (Some e) k =
      called (may_allocate pair m b full e) (λ f. stays (Err f) refl refl refl (λ _. refl) k) (λ may. absurd (both_ways (receives pair) (only_sends pair sd) (grind arith)))

  pub sk-call_back : (m b : ℕ) (full : Bool) (before : Option Endpoint) → Core (or_new before) past.given r h p q t
      → Keeps (EndpointEvent.Calls_back m b full) before past r h p q t made_by_call outcome_of_call (call_back pair m b full before)
  sk-call_back m b full None k = stays _ refl refl refl (λ _. refl) k
  sk-call_back m b full (Some e) k =
      called (may_call_back pair full e) (λ f. stays (Err f) refl refl refl (λ _. refl) k) (λ may. absurd (both_ways (receives pair) (only_sends pair sd) (grind arith)))

  pub sk-interrupt : (full : Bool) (before : Option Endpoint) → EndpointInvariant (or_new before) → Core (or_new before) past.given r h p q t
      → Keeps (EndpointEvent.Interrupts full) before past r h p q t made_by_call outcome_of_call (interrupt pair full before)
  sk-interrupt full None fs k = stays _ refl refl refl (λ _. refl) k
  sk-interrupt full (Some e) fs k =
      called (may_interrupt full e) (λ f. stays (Err f) refl refl refl (λ _. refl) k) (λ may.
      let v : is_closing e ≡ false = grind arith in
      let a : e.asked ≡ true = grind arith in
      let o : e.heard ≡ true = grind arith in
      becomes e (Ok (interrupting pair e)) refl (not_over e v) refl (rw sd (s_interrupts e past.given r h p q t fs fr e.link refl v a o k)))

  -- What comes.

  pub sk-rts : (i j on by_peer : ℕ) (before : Option Endpoint) → nat_lt by_peer MAX_BY_PEER ≡ true → EndpointInvariant (or_new before) → Core (or_new before) past.given r h p (Rts i j on ∷ q) t
      → Keeps (EndpointEvent.Rts_comes on false by_peer) before past r h p q t made_by_hearing of_hearing (hear_rts pair on false by_peer before)
  sk-rts i j on by_peer before few fs k =
      let u = s_unheard (or_new before) past.given r h p q t fs fr i j on k in
      choose (not (sends pair) || not (is_data_link on) || (or_new before).heard || false)
      (λ c. absurd (both_ways (not (sends pair) || not (is_data_link on) || (or_new before).heard || false) (let x = u.0 in let y = u.1 in grind arith) c)) (λ _.
      choose (is_none before && nat_le MAX_BY_PEER by_peer)
      (λ c. absurd (both_ways (nat_le MAX_BY_PEER by_peer) (grind arith) (and_parts (is_none before) (nat_le MAX_BY_PEER by_peer) c).1)) (λ _.
      begins (met (record (or_new before) { heard = true; link = on })) Heard.Nothing refl (rts_over (or_new before) fs) (unheard (or_new before) fs u.0) (λ _. refl)
      (λ g x y. rw (append-nil p) (s_hears (or_new before) past.given r h p q t fs fr i j on g x y k))))
    where
      rts_over : (e : Endpoint) → EndpointInvariant e → is_ended e ≡ false
      rts_over e fs = go e.cls refl
        where
          go : (b : Bool) → e.cls ≡ b → (e.left && b) ≡ false
          go true c = and_left e.left true (fs.leaving (fs.cls c)).1
          go false c = grind arith

  pub sk-cls_end : (i j : ℕ) (e : Endpoint) → EndpointInvariant e → Core e past.given r h p (Cls i j ∷ q) t
      → Keeps EndpointEvent.Cls_comes (Some e) past r h p q t made_by_hearing of_hearing (hear_cls_end pair e)
  sk-cls_end i j e fs k =
      let u = s_close_fits e past.given r h p q t fs fr i j k in
      choose e.cls (λ c. absurd (both_ways e.cls u.0 c)) (λ _.
      choose (e.left || e.leaving) (λ c.
      closes (record e { cls = true }) Heard.Nothing refl refl
      (λ o. rw (append-nil p) (s_ended e past.given r h p q t fs fr i j (and_parts e.left true o).0 k))
      (λ o. let l : e.left ≡ false = grind arith in
      let v : e.leaving ≡ true = grind arith in
      rw (append-nil p) (s_shut e past.given r h p q t fs fr i j (record e { cls = true }) l (fs.leaving v).0 refl (grind arith) refl refl refl refl k))) (λ c.
      let l = or_parts e.left e.leaving c in
      choose (sends pair && e.busy) (λ b.
      let y = (and_parts (sends pair) e.busy b).1 in
      becomes (record e { cls = true; leaving = true; stored = [] }) Heard.Nothing refl (and_left e.left true l.0) refl
      (rw (append-nil p) (s_shut e past.given r h p q t fs fr i j (record e { cls = true; leaving = true; stored = [] }) l.0 (fs.out y).0 refl refl refl refl refl refl k))) (λ b.
      choose (receives pair && nat_lt 0 (length e.stored)) (λ x. absurd (both_ways (receives pair) (only_sends pair sd) (and_parts (receives pair) (nat_lt 0 (length e.stored)) x).0)) (λ _.
      let y : e.busy ≡ false = grind arith in
      closes (leaves (record e { cls = true })) (Heard.Reply (closing pair)) refl refl
      (λ o. s_replies e past.given r h p q t fs fr i j pair.local pair.remote l.0 y k)
      (λ o. absurd (both_ways true o refl))))))

  pub sk-cls : (i j : ℕ) (before : Option Endpoint) → EndpointInvariant (or_new before) → Core (or_new before) past.given r h p (Cls i j ∷ q) t
      → Keeps EndpointEvent.Cls_comes before past r h p q t made_by_hearing of_hearing (hear_cls pair before)
  sk-cls i j None fs k = absurd (both_ways false refl (s_close_fits new_end past.given r h p q t fs fr i j k).1)
  sk-cls i j (Some e) fs k = choose (not (is_proper pair)) (λ c. absurd (both_ways (is_proper pair) (not-true (is_proper pair) c) (grind arith))) (λ _. sk-cls_end i j e fs k)

  -- an open end takes it, one that is going lets it pass
  pub sk-open : (what : EndpointEvent) (c : Command) (on : ℕ) (act : Endpoint → Effect Heard) (before : Option Endpoint) → to_sender_kind c ≡ Data true on → ((o : Outcome) (x : PairHistory) → (adds what o x).given ≡ x.given) → EndpointInvariant (or_new before)
      → ((e : Endpoint) → is_closing e ≡ false → EndpointInvariant e → Core e past.given r h p (c ∷ q) t → Keeps what (Some e) past r h p q t made_by_hearing of_hearing (act e))
      → Core (or_new before) past.given r h p (c ∷ q) t → Keeps what before past r h p q t made_by_hearing of_hearing (at_open c act before)
  sk-open what c on act None d g fs f k = absurd (both_ways false refl (s_there new_end past.given r h p q t fs fr c on d k).0)
  sk-open what c on act (Some e) d g fs f k =
      choose (is_closing e) (λ v. stays _ refl refl refl (g Outcome.Late) (s_late e past.given r h p q t fs fr c on d v k)) (λ v.
      choose (not e.opened) (λ o. absurd (both_ways e.opened (not-true e.opened o) (s_fits e past.given r h p q t fs fr c on d v k).opened)) (λ _. f e v fs k))

  pub sk-all : (on m b : ℕ) (before : Option Endpoint) → EndpointInvariant (or_new before) → Core (or_new before) past.given r h p (All on m b ∷ q) t
      → Keeps (EndpointEvent.All_comes on m b) before past r h p q t made_by_hearing of_hearing (hear_all on m b before)
  sk-all on m b before fs k = sk-open (EndpointEvent.All_comes on m b) (All on m b) on (all_at on m b) before refl (λ _ _. refl) fs
      (λ e v fs k. let w = s_within e past.given r h p q t fs fr on m b v k in
      let w0 = w.0 in let w1 = w.1 in
      choose (nat_lt MAX_MESSAGES (e.messages + m) || nat_lt MAX_AMOUNT (e.bits + b)) (λ c. absurd (both_ways (nat_lt MAX_MESSAGES (e.messages + m) || nat_lt MAX_AMOUNT (e.bits + b)) (grind arith) c)) (λ _.
      becomes (record e { messages = e.messages + m; bits = e.bits + b }) Heard.Nothing refl (not_over e v) refl (rw (append-nil p) (s_all e past.given r h p q t fs fr on m b v k)))) k

  pub sk-gvb : (on m b : ℕ) (before : Option Endpoint) → EndpointInvariant (or_new before) → Core (or_new before) past.given r h p (Gvb on m b ∷ q) t
      → Keeps (EndpointEvent.Gvb_comes on m b) before past r h p q t made_by_hearing of_hearing (hear_gvb on m b before)
  sk-gvb on m b before fs k = sk-open (EndpointEvent.Gvb_comes on m b) (Gvb on m b) on (gvb_at on m b) before refl (λ _ _. refl) fs
      (λ e v fs k. becomes _ _ refl (not_over e v) refl (s_gvb e past.given r h p q t fs fr on m b v k)) k

  pub sk-inr : (on : ℕ) (before : Option Endpoint) → EndpointInvariant (or_new before) → Core (or_new before) past.given r h p (Inr on ∷ q) t
      → Keeps (EndpointEvent.Inr_comes on) before past r h p q t made_by_hearing of_hearing (hear_inr on before)
  sk-inr on before fs k = sk-open (EndpointEvent.Inr_comes on) (Inr on) on interrupted before refl (λ _ _. refl) fs
      (λ e v fs k. becomes (record e { interrupts = min (e.interrupts + 1) MAX_COUNT }) Heard.Nothing refl (not_over e v) refl (rw (append-nil p) (s_inr e past.given r h p q t fs fr on v k))) k

  -- Text is sent.

  times : (k m a : ℕ) → m ≤ a / k → m * k ≤ a
  times k m a l = omega (arith, mul-le-mul_right k l, div-mul-le_self a k)

  pub sk-cut : (before : Option Endpoint) → EndpointInvariant (or_new before) → Core (or_new before) past.given r h p q t
      → Keeps EndpointEvent.Text_goes_out before past r h p q t (λ _. []) of_cut (cut pair before)
  sk-cut None fs k = stays _ refl refl refl (λ _. refl) k
  sk-cut (Some e) fs k =
      choose (can_send pair e) (λ m.
      let v : is_closing e ≡ false = grind arith in
      let a : e.asked ≡ true = grind arith in
      let o : e.heard ≡ true = grind arith in
      let y : e.busy ≡ false = grind arith in
      let one : nat_le 1 e.messages ≡ true = grind arith in
      let n : ℕ = bytes_to_send e * e.size in
      let l : n ≤ length e.stored = times e.size (bytes_to_send e) (length e.stored) (min-le_left (length e.stored / e.size) (min (e.bits / e.size) (MAX_TEXT / e.size))) in
      let b : n ≤ e.bits = times e.size (bytes_to_send e) e.bits
      (omega (arith, min-le_right (length e.stored / e.size) (min (e.bits / e.size) (MAX_TEXT / e.size)), min-le_left (e.bits / e.size) (MAX_TEXT / e.size))) in
      becomes _ _ refl (not_over e v) refl (rw (append-nil p) (s_cuts e past.given r h p q t fs fr n v a o y (leb-true 1 e.messages one) l b k)))
      (λ _. stays _ refl refl refl (λ _. refl) k)

-- The answer to a text.

module _ (pair : Pair) (past : PairHistory) (r : Endpoint) (h : List Bool) (p q : List Command) (li : ℕ) (fr : EndpointInvariant r) where
  pub sk-taken : sends pair ≡ true → (before : Option Endpoint) → EndpointInvariant (or_new before) → Core (or_new before) past.given r h p q (Here li)
      → Keeps (EndpointEvent.Is_answered Rfnm) before past r h p q No_text made_if_any (λ _. Outcome.Accepted) (end_answered pair Rfnm before)
  sk-taken sd None fs k = absurd (both_ways false refl k.out)
  sk-taken sd (Some e) fs k =
      let e2 : Endpoint = record e { busy = false } in
      let fs2 = answered_firm e fs in
      let k2 = s_answered e past.given r h p q li fs k in
      choose (not (sends pair)) (λ n. absurd (cc (n, sd)))
      (λ _. choose e.leaving
      (λ v. let f = fs.leaving v in
      closes (leaves e2) (Some (closing pair)) refl refl
      (λ o. s_ends e2 past.given r h p q No_text fs2 fr pair.local pair.remote refl f.1 o k2)
      (λ o. s_leaves e2 past.given r h p q No_text fs2 fr pair.local pair.remote refl f.1 (or_left e.asked e.heard (fs.marks f.0).0) k2))
      (λ v. becomes e2 None refl (shut e fs v) refl (rw (append-nil p) k2)))
    where
      shut : (e : Endpoint) → EndpointInvariant e → e.leaving ≡ false → is_ended e ≡ false
      shut e fs v = go e.cls refl
        where
          go : (b : Bool) → e.cls ≡ b → (e.left && b) ≡ false
          go true c = absurd (both_ways e.leaving v (fs.cls c))
          go false c = grind arith

  pub sk-not_delivered : (how : Answer) (before : Option Endpoint) (t : Text) → end_answered pair how before ≡ Stays None → Core (or_new before) past.given r h p q t
      → Keeps (EndpointEvent.Is_answered how) before past r h p q t made_if_any (λ _. Outcome.Accepted) (end_answered pair how before)
  sk-not_delivered how before t e k = subst (λ (a : Effect (Option Command)). Keeps (EndpointEvent.Is_answered how) before past r h p q t made_if_any (λ _. Outcome.Accepted) a) (sym e) (stays None refl refl refl (λ _. refl) k)
