-- Every act at the receiver's end keeps what the ends have in common.
use Rattle.std.proofs.Common.{◌≡◌, ℕ, ◌+◌, ◌-◌, ◌≤◌, Bool, true, false, not, ◌||◌, ◌&&◌, ◌==◌, if◌then◌else◌, nat_le, nat_lt, cond, List, [], ◌∷◌, ◌++◌, length, take, drop, Option, None, Some, Result, Ok, Err, refl, ap, sym, ◌∙◌, subst, arith}
use Rattle.std.specs.Prelude.{is_none, min}
use Rattle.std.proofs.lemmas.Bool.{both_ways, or_parts, and_parts, and_left, or_left, not-true}
use Rattle.std.proofs.lemmas.List.{append-nil}
use Rattle.ncp_wire.specs.declared.command.Command.{Command}
use Rattle.ncp_wire.specs.declared.command.Command.TheVariants.{Rts, Str, Cls, Gvb, Ret, Inr, Ins}
use Rattle.ncp_model.specs.declared.pair.Pair.{Pair}
use Rattle.ncp_model.specs.declared.call_fault.CallFault.{CallFault}
use Rattle.ncp_model.specs.declared.outcomes.Heard.{Heard}
use Rattle.ncp_model.specs.declared.outcomes.Took.{Took}
use Rattle.ncp_model.specs.declared.limits.TheConstants.{MAX_BY_PEER, MAX_COUNT}
use Rattle.ncp_model.specs.Pairs.{sends, receives, is_proper}
use Rattle.ncp_model.specs.Endpoint.{Endpoint, new_end, or_new, is_closing, is_ended, is_live}
use Rattle.ncp_model.specs.Effect.{Effect, Stays, Becomes, answer, end_after, made_by_call, made_by_close, made_by_take, made_by_hearing, met, leaves, closing, is_data_link}
use Rattle.ncp_model.specs.Calls.{unless_refused, may_ask_send, ask_send, may_ask_receive, ask_receive, asked_to_receive, may_close, close, may_give, give, may_take, take_held, bits_to_take, emptied, may_allocate, allocate, may_call_back, call_back, may_interrupt, interrupt, interrupting}
use Rattle.ncp_model.specs.Commands.{hear_str, hear_cls, hear_cls_end, hear_ret, hear_ins, at_open, ret_at, interrupted}
use Rattle.ncp_model.specs.Texts.{hear_text, made_by_text}
use Rattle.ncp_model.specs.EndpointEvents.{EndpointEvent, Outcome, outcome_of_call, of_take, of_hearing, outcome_of_text, is_violation}
use Rattle.ncp_proof_endpoint.specs.Histories.{PairHistory, adds, opens, reopened}
use Rattle.ncp_proof_connection.specs.Connections.{Text, Away, Here}
use Rattle.ncp_proof_connection.proofs.Lines.{Data}
use Rattle.ncp_proof_connection.proofs.Joint.{to_receiver_kind, Core, EndpointInvariant, live_got, unasked, unheard}
use Rattle.ncp_proof_connection.proofs.Standing.{stands}
use Rattle.ncp_proof_connection.proofs.SenderActs.{opens_same, opens_again}
use Rattle.ncp_proof_connection.proofs.Receivers.{r_asks, r_unheard, r_hears, r_leaves, r_ends, r_close_fits, r_ended, r_shut, r_replies, r_late, r_there, r_fits, r_enough, r_ret, r_ins, r_allocates, r_makes, r_takes, text_late, text_opened, text_within, text_admitted}

-- what was got stays, whether the end opens or not
got_same : (o : Option Endpoint) (e : Endpoint) (past : PairHistory) → ((or_new o).opened ≡ true → e.opened ≡ true) → cond e.opened (if opens o (Some e) then reopened past else past).got [] ≡ live_got o past
got_same None e past w = go e.opened
  where
    go : (b : Bool) → cond b (if b then reopened past else past).got [] ≡ []
    go true = refl
    go false = refl
got_same (Some x) e past w = go x.opened e.opened w
  where
    go : (b c : Bool) → (b ≡ true → c ≡ true) → cond c (if not b && c then reopened past else past).got [] ≡ cond b past.got []
    go true true w = refl
    go true false w = absurd (both_ways false refl (w refl))
    go false true w = refl
    go false false w = refl

-- after an act at the receiver's end
pub record Keeps {A : Type 0} (what : EndpointEvent) (before : Option Endpoint) (past : PairHistory) (s : Endpoint) (g : List Bool) (p q : List Command) (t : Text) (made_by : A → List Command) (of : A → Outcome) (act : Effect A) : Type 0 where
  pub fine : is_violation (of (answer act)) ≡ false
  pub core : Core s g (or_new (end_after before act)) (live_got (end_after before act) (adds what (of (answer act)) (if opens before (end_after before act) then reopened past else past))) p (q ++ made_by (answer act)) t

quiet : {A : Type 0} (s : Endpoint) (g : List Bool) (p q : List Command) (t : Text) (made_by : A → List Command) (e : Endpoint) (h : List Bool) (a : A) → made_by a ≡ [] → Core s g e h p q t → Core s g e h p (q ++ made_by a) t
quiet s g p q t made_by e h a m k = subst (λ (cs : List Command). Core s g e h p (q ++ cs) t) (sym m) (subst (λ (cs : List Command). Core s g e h p cs t) (sym (append-nil q)) k)

module _ {A : Type 0} {what : EndpointEvent} {before : Option Endpoint} {past : PairHistory} {s : Endpoint} {g : List Bool} {p q : List Command} {t : Text} {made_by : A → List Command} {of : A → Outcome} where
  choose : (b : Bool) {x y : Effect A} → (b ≡ true → Keeps what before past s g p q t made_by of x) → (b ≡ false → Keeps what before past s g p q t made_by of y) → Keeps what before past s g p q t made_by of (if b then x else y)
  choose true k m = k refl
  choose false k m = m refl

  stays : (a : A) → is_violation (of a) ≡ false → made_by a ≡ [] → ((x : PairHistory) → (adds what (of a) x).got ≡ x.got) → Core s g (or_new before) (live_got before past) p q t
      → Keeps what before past s g p q t made_by of (Stays a)
  stays a f m w k = record {
    fine = f;
    core = quiet s g p q t made_by (or_new before) (live_got before (adds what (of a) (if opens before before then reopened past else past))) a m
        (subst (λ (b : Bool). Core s g (or_new before) (live_got before (adds what (of a) (if b then reopened past else past))) p q t) (sym (opens_again before))
        (subst (λ (x : List Bool). Core s g (or_new before) (cond (is_live before) x []) p q t) (sym (w past)) k));
  }

  becomes : (e : Endpoint) (a : A) → is_violation (of a) ≡ false → is_ended e ≡ false → ((or_new before).opened ≡ true → e.opened ≡ true) → ((x : PairHistory) → (adds what (of a) x).got ≡ x.got)
      → Core s g e (live_got before past) p (q ++ made_by a) t
      → Keeps what before past s g p q t made_by of (Becomes e a)
  becomes e a f o w y k = record {
    fine = f;
    core = subst (λ (x : Option Endpoint). Core s g (or_new x) (live_got x (adds what (of a) (if opens before x then reopened past else past))) p (q ++ made_by a) t) (sym (ap (λ (b : Bool). cond b None (Some e)) o))
        (subst (λ (x : List Bool). Core s g e (cond e.opened x []) p (q ++ made_by a) t) (sym (y (if opens before (Some e) then reopened past else past)))
        (subst (λ (x : List Bool). Core s g e x p (q ++ made_by a) t) (sym (got_same before e past w)) k));
  }

  closes : (e : Endpoint) (a : A) → is_violation (of a) ≡ false → ((or_new before).opened ≡ true → e.opened ≡ true) → ((x : PairHistory) → (adds what (of a) x).got ≡ x.got)
      → (is_ended e ≡ true → Core s g new_end [] p (q ++ made_by a) t)
      → (is_ended e ≡ false → Core s g e (live_got before past) p (q ++ made_by a) t)
      → Keeps what before past s g p q t made_by of (Becomes e a)
  closes e a f w y k m = go (is_ended e) refl
    where
      go : (b : Bool) → is_ended e ≡ b → Keeps what before past s g p q t made_by of (Becomes e a)
      go true o = record {
        fine = f;
        core = subst (λ (x : Option Endpoint). Core s g (or_new x) (live_got x (adds what (of a) (if opens before x then reopened past else past))) p (q ++ made_by a) t) (sym (ap (λ (b : Bool). cond b None (Some e)) o)) (k o);
      }
      go false o = becomes e a f o w y (m o)

pub live : (o : Option Endpoint) (past : PairHistory) → (or_new o).opened ≡ true → live_got o past ≡ past.got
live None past e = absurd (both_ways false refl e)
live (Some x) past e = rw e refl

-- text joins what was got
admits : {A : Type 0} {what : EndpointEvent} {before : Option Endpoint} {past : PairHistory} {s : Endpoint} {g : List Bool} {p q : List Command} {t : Text} {made_by : A → List Command} {of : A → Outcome}
    → (e : Endpoint) (a : A) (xs : List Bool) → is_violation (of a) ≡ false → is_ended e ≡ false → e.opened ≡ true → (or_new before).opened ≡ true → ((x : PairHistory) → (adds what (of a) x).got ≡ x.got ++ xs)
    → Core s g e (live_got before past ++ xs) p (q ++ made_by a) t
    → Keeps what before past s g p q t made_by of (Becomes e a)
admits {what = what} {before = before} {past = past} {s = s} {g = g} {p = p} {q = q} {t = t} {made_by = made_by} {of = of} e a xs f o w v y k = record {
  fine = f;
  core = subst (λ (x : Option Endpoint). Core s g (or_new x) (live_got x (adds what (of a) (if opens before x then reopened past else past))) p (q ++ made_by a) t) (sym (ap (λ (b : Bool). cond b None (Some e)) o))
      (subst (λ (b : Bool). Core s g e (cond e.opened (adds what (of a) (if b then reopened past else past)).got []) p (q ++ made_by a) t) (sym (opens_same before e (w ∙ sym v)))
      (subst (λ (b : Bool). Core s g e (cond b (adds what (of a) past).got []) p (q ++ made_by a) t) (sym w)
      (subst (λ (x : List Bool). Core s g e x p (q ++ made_by a) t) (ap (λ (x : List Bool). x ++ xs) (live before past v) ∙ sym (y past)) k)));
}

pub only_receives : (pair : Pair) → receives pair ≡ true → sends pair ≡ false
only_receives pair e = grind arith

not_over : (e : Endpoint) → is_closing e ≡ false → is_ended e ≡ false
not_over e v = and_left e.left e.cls (or_parts e.leaving e.left v).1

-- a call is refused, or does its act
called : {A : Type 0} {what : EndpointEvent} {before : Option Endpoint} {past : PairHistory} {s : Endpoint} {g : List Bool} {p q : List Command} {t : Text} {made_by : Result A CallFault → List Command} {of : Result A CallFault → Outcome} (may : Result (Unit {0}) CallFault) {act : Effect (Result A CallFault)}
    → ((f : CallFault) → Keeps what before past s g p q t made_by of (Stays (Err f))) → (may ≡ Ok tt → Keeps what before past s g p q t made_by of act) → Keeps what before past s g p q t made_by of (unless_refused may act)
called (Ok _) k m = m refl
called (Err f) k m = k f

module _ (pair : Pair) (rd : receives pair ≡ true) (past : PairHistory) (s : Endpoint) (g : List Bool) (p q : List Command) (t : Text) (fs : EndpointInvariant s) where
  pub rk-ask_send : (of_size with_room own : ℕ) (full : Bool) (before : Option Endpoint) → Core s g (or_new before) (live_got before past) p q t
      → Keeps (EndpointEvent.Asks_to_send of_size with_room own full) before past s g p q t made_by_call outcome_of_call (ask_send pair of_size with_room own full before)
  rk-ask_send of_size with_room own full before k =
      called (may_ask_send pair of_size with_room own full before) (λ f. stays (Err f) refl refl (λ _. refl) k) (λ may. absurd (both_ways (sends pair) (only_receives pair rd) (grind arith)))

  pub rk-ask_receive : (with_room on own : ℕ) (full : Bool) (before : Option Endpoint) → is_data_link on ≡ true → EndpointInvariant (or_new before) → Core s g (or_new before) (live_got before past) p q t
      → Keeps (EndpointEvent.Asks_to_receive with_room on own full) before past s g p q t made_by_call outcome_of_call (ask_receive pair with_room on own full before)
  rk-ask_receive with_room on own full before d fr k =
      called (may_ask_receive pair with_room own full before) (λ f. stays (Err f) refl refl (λ _. refl) k) (λ may.
      let none : (or_new before).asked ≡ false = grind arith in
      let v : is_closing (or_new before) ≡ false = grind arith in
      becomes (asked_to_receive on with_room (or_new before)) (Ok (Rts pair.local pair.remote on)) refl (not_over (or_new before) v) (λ x. absurd (both_ways (or_new before).opened (unasked (or_new before) fr none) x)) (λ _. refl)
      (r_asks s g (or_new before) (live_got before past) p q t fs fr on with_room pair.local pair.remote none v d k))

  pub rk-close : (full : Bool) (before : Option Endpoint) → EndpointInvariant (or_new before) → stands before ≡ true → Core s g (or_new before) (live_got before past) p q t
      → Keeps (EndpointEvent.Closes full) before past s g p q t made_by_close outcome_of_call (close pair full before)
  rk-close full None fr st k = stays _ refl refl (λ _. refl) k
  rk-close full (Some e) fr st k =
      called (may_close pair full e) (λ f. stays (Err f) refl refl (λ _. refl) k) (λ may.
      let l : e.left ≡ false = grind arith in
      choose (sends pair && e.busy) (λ b. absurd (both_ways (sends pair) (only_receives pair rd) (and_parts (sends pair) e.busy b).0)) (λ _.
      closes (leaves e) (Ok (Some (closing pair))) refl (λ x. x) (λ _. refl)
      (λ o. r_ends s g e (live_got (Some e) past) p q t fs fr pair.local pair.remote l o k)
      (λ o. r_leaves s g e (live_got (Some e) past) p q t fs fr pair.local pair.remote l (and_parts (e.asked || e.heard) (nat_le e.room 65536) st).0 k)))

  pub rk-give : (text : List Bool) (before : Option Endpoint) → Core s g (or_new before) (live_got before past) p q t
      → Keeps (EndpointEvent.Gives text) before past s g p q t (λ _. []) outcome_of_call (give pair text before)
  rk-give text None k = stays _ refl refl (λ _. refl) k
  rk-give text (Some e) k =
      called (may_give pair text e) (λ f. stays (Err f) refl refl (λ _. refl) k) (λ may. absurd (both_ways (sends pair) (only_receives pair rd) (grind arith)))

  pub rk-take : (bytes : ℕ) (before : Option Endpoint) → EndpointInvariant (or_new before) → Core s g (or_new before) (live_got before past) p q t
      → Keeps (EndpointEvent.Takes bytes) before past s g p q t made_by_take of_take (take_held pair bytes before)
  rk-take bytes None fr k = stays _ refl refl (λ _. refl) k
  rk-take bytes (Some e) fr k =
      called (may_take pair e) (λ f. stays (Err f) refl refl (λ _. refl) k) (λ may.
      let l : e.left ≡ false = grind arith in
      let o : e.opened ≡ true = grind arith in
      let n : ℕ = bits_to_take bytes e in
      let e2 : Endpoint = record e { stored = drop n e.stored } in
      let k2 = r_takes s g e (live_got (Some e) past) p q t fs fr (drop n e.stored) k in
      let asked : e.asked ≡ true = (fr.marks o).0 in
      choose (e.leaving && emptied e n)
      (λ v. closes (leaves e) (Ok (take n e.stored, Some (closing pair))) refl (λ x. x) (λ _. refl)
      (λ x. r_ends s g e (live_got (Some e) past) p q t fs fr pair.local pair.remote l x k)
      (λ x. r_leaves s g e (live_got (Some e) past) p q t fs fr pair.local pair.remote l (or_left e.asked e.heard asked) k))
      (λ v. becomes e2 (Ok (take n e.stored, None)) refl (and_left e.left e.cls l) (λ x. x) (λ _. refl) (rw (append-nil q) k2)))

  pub rk-allocate : (m b : ℕ) (full : Bool) (before : Option Endpoint) → EndpointInvariant (or_new before) → Core s g (or_new before) (live_got before past) p q t
      → Keeps (EndpointEvent.Allocates m b full) before past s g p q t made_by_call outcome_of_call (allocate pair m b full before)
  rk-allocate m b full None fr k = stays _ refl refl (λ _. refl) k
  rk-allocate m b full (Some e) fr k =
      called (may_allocate pair m b full e) (λ f. stays (Err f) refl refl (λ _. refl) k) (λ may.
      let v : is_closing e ≡ false = grind arith in
      let a : e.asked ≡ true = grind arith in
      let o : e.heard ≡ true = grind arith in
      let room = fr.room in
      let lm : e.messages + m ≤ 65535 = grind arith in
      let lb : e.bits + length e.stored + b ≤ 65536 = grind arith in
      becomes _ _ refl (not_over e v) (λ x. x) (λ _. refl) (r_allocates s g e (live_got (Some e) past) p q t fs fr e.link m b refl v a o lm lb k))

  pub rk-call_back : (m b : ℕ) (full : Bool) (before : Option Endpoint) → EndpointInvariant (or_new before) → Core s g (or_new before) (live_got before past) p q t
      → Keeps (EndpointEvent.Calls_back m b full) before past s g p q t made_by_call outcome_of_call (call_back pair m b full before)
  rk-call_back m b full None fr k = stays _ refl refl (λ _. refl) k
  rk-call_back m b full (Some e) fr k =
      called (may_call_back pair full e) (λ f. stays (Err f) refl refl (λ _. refl) k) (λ may.
      let v : is_closing e ≡ false = grind arith in
      let a : e.asked ≡ true = grind arith in
      let o : e.heard ≡ true = grind arith in
      becomes (record e { recall = true }) (Ok (Gvb e.link m b)) refl (not_over e v) (λ x. x) (λ _. refl)
      (r_makes s g e (live_got (Some e) past) p q t fs fr (Gvb e.link m b) (record e { recall = true }) e.link refl refl refl refl v a o refl refl refl refl refl k))

  pub rk-interrupt : (full : Bool) (before : Option Endpoint) → EndpointInvariant (or_new before) → Core s g (or_new before) (live_got before past) p q t
      → Keeps (EndpointEvent.Interrupts full) before past s g p q t made_by_call outcome_of_call (interrupt pair full before)
  rk-interrupt full None fr k = stays _ refl refl (λ _. refl) k
  rk-interrupt full (Some e) fr k =
      called (may_interrupt full e) (λ f. stays (Err f) refl refl (λ _. refl) k) (λ may.
      let v : is_closing e ≡ false = grind arith in
      let a : e.asked ≡ true = grind arith in
      let o : e.heard ≡ true = grind arith in
      becomes e (Ok (interrupting pair e)) refl (not_over e v) (λ x. x) (λ _. refl)
      (rw (only_receives pair rd) (r_makes s g e (live_got (Some e) past) p q t fs fr (Inr e.link) e e.link refl refl refl refl v a o refl refl refl refl refl k)))

  -- What comes.

  pub rk-str : (i j n by_peer : ℕ) (before : Option Endpoint) → nat_lt by_peer MAX_BY_PEER ≡ true → EndpointInvariant (or_new before) → Core s g (or_new before) (live_got before past) (Str i j n ∷ p) q t
      → Keeps (EndpointEvent.Str_comes n by_peer) before past s g p q t made_by_hearing of_hearing (hear_str pair n by_peer before)
  rk-str i j n by_peer before few fr k =
      let u = r_unheard s g (or_new before) (live_got before past) p q t fs fr i j n k in
      let o = unheard (or_new before) fr u.0 in
      choose (not (receives pair) || n == 0 || (or_new before).heard)
      (λ c. absurd (both_ways (not (receives pair) || n == 0 || (or_new before).heard) (let x = u.0 in let y = u.1 in grind arith) c)) (λ _.
      choose (is_none before && nat_le MAX_BY_PEER by_peer)
      (λ c. absurd (both_ways (nat_le MAX_BY_PEER by_peer) (grind arith) (and_parts (is_none before) (nat_le MAX_BY_PEER by_peer) c).1)) (λ _.
      becomes (met (record (or_new before) { heard = true; size = n })) Heard.Nothing refl (str_over (or_new before) fr) (λ x. absurd (both_ways (or_new before).opened o x)) (λ _. refl)
      (rw (append-nil q) (r_hears s g (or_new before) (live_got before past) p q t fs fr i j n k))))
    where
      str_over : (e : Endpoint) → EndpointInvariant e → is_ended e ≡ false
      str_over e fr = go e.cls refl
        where
          go : (b : Bool) → e.cls ≡ b → (e.left && b) ≡ false
          go true c = and_left e.left true (fr.leaving (fr.cls c)).1
          go false c = grind arith

  pub rk-cls_end : (i j : ℕ) (e : Endpoint) → EndpointInvariant e → Core s g e (live_got (Some e) past) (Cls i j ∷ p) q t
      → Keeps EndpointEvent.Cls_comes (Some e) past s g p q t made_by_hearing of_hearing (hear_cls_end pair e)
  rk-cls_end i j e fr k =
      let h = live_got (Some e) past in
      let u = r_close_fits s g e h p q t fs fr i j k in
      choose e.cls (λ c. absurd (both_ways e.cls u.0 c)) (λ _.
      choose (e.left || e.leaving) (λ c.
      closes (record e { cls = true }) Heard.Nothing refl (λ x. x) (λ _. refl)
      (λ o. rw (append-nil q) (r_ended s g e h p q t fs fr i j (and_parts e.left true o).0 k))
      (λ o. let l : e.left ≡ false = grind arith in
      rw (append-nil q) (r_shut s g e h p q t fs fr i j (record e { cls = true }) l refl (grind arith) refl k))) (λ c.
      let l = or_parts e.left e.leaving c in
      choose (sends pair && e.busy) (λ b. absurd (both_ways (sends pair) (only_receives pair rd) (and_parts (sends pair) e.busy b).0)) (λ _.
      choose (receives pair && nat_lt 0 (length e.stored)) (λ _.
      becomes (record e { cls = true; leaving = true }) Heard.Nothing refl (and_left e.left true l.0) (λ x. x) (λ _. refl)
      (rw (append-nil q) (r_shut s g e h p q t fs fr i j (record e { cls = true; leaving = true }) l.0 refl refl refl k))) (λ _.
      closes (leaves (record e { cls = true })) (Heard.Reply (closing pair)) refl (λ x. x) (λ _. refl)
      (λ o. r_replies s g e h p q t fs fr i j pair.local pair.remote l.0 k)
      (λ o. absurd (both_ways true o refl))))))

  pub rk-cls : (i j : ℕ) (before : Option Endpoint) → EndpointInvariant (or_new before) → Core s g (or_new before) (live_got before past) (Cls i j ∷ p) q t
      → Keeps EndpointEvent.Cls_comes before past s g p q t made_by_hearing of_hearing (hear_cls pair before)
  rk-cls i j None fr k = absurd (both_ways false refl (r_close_fits s g new_end [] p q t fs fr i j k).1)
  rk-cls i j (Some e) fr k = choose (not (is_proper pair)) (λ c. absurd (both_ways (is_proper pair) (not-true (is_proper pair) c) (grind arith))) (λ _. rk-cls_end i j e fr k)

  pub rk-open : (what : EndpointEvent) (c : Command) (on : ℕ) (act : Endpoint → Effect Heard) (before : Option Endpoint) → to_receiver_kind c ≡ Data false on → ((o : Outcome) (x : PairHistory) → (adds what o x).got ≡ x.got) → EndpointInvariant (or_new before)
      → ((e : Endpoint) → is_closing e ≡ false → EndpointInvariant e → Core s g e (live_got (Some e) past) (c ∷ p) q t → Keeps what (Some e) past s g p q t made_by_hearing of_hearing (act e))
      → Core s g (or_new before) (live_got before past) (c ∷ p) q t → Keeps what before past s g p q t made_by_hearing of_hearing (at_open c act before)
  rk-open what c on act None d y fr f k = absurd (both_ways false refl (r_there s g new_end [] p q t fs fr c on d k).0)
  rk-open what c on act (Some e) d y fr f k =
      choose (is_closing e) (λ v. stays _ refl refl (y Outcome.Late) (r_late s g e (live_got (Some e) past) p q t fs fr c on d v k)) (λ v.
      choose (not e.opened) (λ o. absurd (both_ways e.opened (not-true e.opened o) (r_fits s g e (live_got (Some e) past) p q t fs fr c on d v k).opened)) (λ _. f e v fr k))

  pub rk-ret : (on m b : ℕ) (before : Option Endpoint) → EndpointInvariant (or_new before) → Core s g (or_new before) (live_got before past) (Ret on m b ∷ p) q t
      → Keeps (EndpointEvent.Ret_comes on m b) before past s g p q t made_by_hearing of_hearing (hear_ret on m b before)
  rk-ret on m b before fr k = rk-open (EndpointEvent.Ret_comes on m b) (Ret on m b) on (ret_at on m b) before refl (λ _ _. refl) fr
      (λ e v fr k. let w = r_enough s g e (live_got (Some e) past) p q t fs fr on m b v k in
      let w0 = w.0 in let w1 = w.1 in
      choose (nat_lt e.messages m || nat_lt e.bits b) (λ c. absurd (both_ways (nat_lt e.messages m || nat_lt e.bits b) (grind arith) c)) (λ _.
      becomes (record e { messages = e.messages - m; bits = e.bits - b; recall = false }) Heard.Nothing refl (not_over e v) (λ x. x) (λ _. refl) (rw (append-nil q) (r_ret s g e (live_got (Some e) past) p q t fs fr on m b v k)))) k

  pub rk-ins : (on : ℕ) (before : Option Endpoint) → EndpointInvariant (or_new before) → Core s g (or_new before) (live_got before past) (Ins on ∷ p) q t
      → Keeps (EndpointEvent.Ins_comes on) before past s g p q t made_by_hearing of_hearing (hear_ins on before)
  rk-ins on before fr k = rk-open (EndpointEvent.Ins_comes on) (Ins on) on interrupted before refl (λ _ _. refl) fr
      (λ e v fr k. becomes (record e { interrupts = min (e.interrupts + 1) MAX_COUNT }) Heard.Nothing refl (not_over e v) (λ x. x) (λ _. refl) (rw (append-nil q) (r_ins s g e (live_got (Some e) past) p q t fs fr on v k))) k

-- A text comes.

module _ (pair : Pair) (rd : receives pair ≡ true) (past : PairHistory) (s : Endpoint) (g : List Bool) (p q : List Command) (fs : EndpointInvariant s) (head : List Bool) (li n : ℕ) (bits : List Bool) where
  pub rk-text : (before : Option Endpoint) → EndpointInvariant (or_new before) → Core s g (or_new before) (live_got before past) p q (Away li n bits)
      → Keeps (EndpointEvent.Text_comes head n bits) before past s g p q (Here li) (made_by_text head bits) outcome_of_text (hear_text n bits before)
  rk-text None fr k = absurd (both_ways false refl (text_opened s g new_end [] p q fs fr li n bits k))
  rk-text (Some e) fr k =
      choose (is_closing e) (λ v. stays _ refl refl (λ x. append-nil x.got) (text_late s g e (live_got (Some e) past) p q fs fr li n bits v k)) (λ v.
      let o : e.opened ≡ true = text_opened s g e (live_got (Some e) past) p q fs fr li n bits k in
      choose (not e.opened) (λ c. absurd (both_ways e.opened (not-true e.opened c) o)) (λ _.
      let w = text_within s g e (live_got (Some e) past) p q fs fr li n bits v k in
      let w0 = w.0 in let w1 = w.1 in let w2 = w.2 in
      choose (not (n == e.size)) (λ c. absurd (both_ways (not (n == e.size)) (grind arith) c)) (λ _.
      choose (e.messages == 0 || nat_lt e.bits (length bits)) (λ c. absurd (both_ways (e.messages == 0 || nat_lt e.bits (length bits)) (grind arith) c)) (λ _.
      admits (record e { messages = e.messages - 1; bits = e.bits - length bits; stored = e.stored ++ bits }) Took.Admitted bits refl (not_over e v) o o (λ _. refl) (rw (append-nil q) (text_admitted s g e (live_got (Some e) past) p q fs fr li n bits v k))))))
