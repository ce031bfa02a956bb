-- A walk over a file: on each link the deeds may be, so far, exactly while nothing is found.
use Rattle.std.proofs.Common.{◌≡◌, ◌≢◌, ◌⊎◌, inl, inr, ℕ, ◌<◌, ◌≤◌, ◌==◌, Bool, true, false, not, ◌&&◌, ◌||◌, if◌then◌else◌, List, [], ◌∷◌, ◌++◌, length, Option, None, Result, Ok, Err, option_map, option_to_list, filter, get_or-set_other, refl, sym, ap, ◌∙◌, subst}
use Rattle.std.proofs.lemmas.Bool.{and_parts, eqb-true}
use Rattle.std.proofs.lemmas.Bool.Decides.{eqb_tells}
use Rattle.ncp_leader.specs.declared.fault.MessageFault.{MessageFault}
use Rattle.ncp_leader.specs.Leader.{leader_at}
use Rattle.ncp_leader.specs.Message.{Message, message_in}
use Rattle.ncp_transcript_two.specs.Honest.{MessageEvent, Sent, Arrives, Other, InFlight, Clear, Flying, Landed}
use Rattle.ncp_interface.specs.declared.event.InterfaceEvent.{InterfaceEvent}
use Rattle.ncp_interface.specs.declared.event.InterfaceEvent.TheVariants as event
use Rattle.ncp_monitor.specs.declared.finding.Finding.{Finding}
use Rattle.ncp_monitor.specs.declared.finding.Rule.{Rule}
use Rattle.ncp_monitor.specs.declared.finding.Unsent.{Unsent}
use Rattle.ncp_interface.specs.declared.sent_message.SentMessage.{SentMessage}
use Rattle.ncp_interface.specs.declared.sent_message.LinkState.{LinkState}
use Rattle.ncp_monitor.specs.declared.monitor.Monitor.{Monitor}
use Rattle.ncp_monitor.specs.declared.view.View.{View}
use Rattle.ncp_interface.specs.declared.imp_direction.ImpDirection.{ImpDirection}
use Rattle.ncp_interface.specs.Events.{event_of}
use Rattle.ncp_interface.specs.Slots.{is_of, position_of, kept_slot, same_at, same_but_host_at, gone_out, has_room, with_out, busy_link, is_slot_out, with_answer}
use Rattle.ncp_monitor.specs.Tables.{view_in, with_view}
use Rattle.ncp_interface.specs.Contents.{message_class}
use Rattle.ncp_monitor.specs.Judged.{by_host, by_imp, has_seen, view_of, knows_zero, slot_of_link, same_of, out_rule, view_after_out, out_finding, fresh_out, monitor_after_out, sees_both, is_crowded, false_rule, false_finding, stray_rule, stray_finding, judges_coming, unsent_why, unsent_finding, with_coming, after_in, turn_at, after_read, message_findings, after_said, event_findings, after_event, sees, record_findings, after_record}
use Rattle.ncp_monitor.proofs.Following.{said_keeps}
use Rattle.ncp_proof_monitor.proofs.KeptOne.{Apart}
use Rattle.ncp_proof_monitor.proofs.PhaseSeen.{view_length}
use Rattle.ncp_proof_monitor.proofs.Shown.{after_answering, after_coming}
use Rattle.ncp_proof_monitor.proofs.Others.{has_room_for_one, put_distinct}
use Rattle.ncp_proof_monitor.proofs.Linked.{keys_distinct}
use Rattle.ncp_proof_monitor_messages.specs.Files.{found_by}
use Rattle.ncp_proof_monitor_messages.specs.ManyFiles.{AllFit}
use Rattle.ncp_proof_monitor_messages.proofs.OneWay.{Sound, seen_now, sound_sees, sound_said}
use Rattle.ncp_proof_monitor_exact.specs.Deeds.{is_toward, deed_recorded, deeds_recorded}
use Rattle.ncp_proof_monitor_exact.specs.Exact.{is_of_messages, found_toward, monitor_after_file, is_seen_for, is_watched}
use Rattle.ncp_proof_monitor_exact.proofs.States.{State, Good, Stands, other_is}
use Rattle.ncp_proof_monitor_exact.proofs.Steps.{Step, flight_after, taken_nay, comes_nay, unlanded_answer, told, answer_event, found_answer, either, sent_step, come_step, answer_step}
use Rattle.ncp_proof_monitor_exact.proofs.Fine.{Fine, read_fine, fine_set, place_other}
use Rattle.ncp_proof_monitor_exact.proofs.Events.{Facts, facts, said_none, found_two, Found, of_option, parts_empty, with_said, out_rule_is, out_quiet, false_rule_is, stray_rule_is}

-- ---- what is known of the messages from one host to another

pub record Inv (from to : ℕ) (sf sto : Bool) (st : ℕ → State) (u : Monitor) : Type 0 where
  pub sound : Sound u
  pub full : u.full ≡ false
  pub seen_from : has_seen u from ≡ sf
  pub seen_to : has_seen u to ≡ sto
  pub still : sf ≡ false → (on : ℕ) → (st on).p ≡ Clear
  pub unlanded : sto ≡ false → (on : ℕ) → (st on).p ≡ Landed → ⊥
  pub fine : Fine (view_in u.views from to)
  pub stands : (on : ℕ) → Stands (st on) (filter (is_of from to on) u.kept)

or_front : (b c : Bool) → (b || c) ≡ false → b ≡ false
or_front true c e = absurd (cc)
or_front false c e = refl

or_true : (b c : Bool) → c ≡ true → (b || c) ≡ true
or_true true c e = refl
or_true false c e = e

or_false : (b c : Bool) → c ≡ false → (b || c) ≡ b
or_false true c e = refl
or_false false c e = e

seen_as : (u : Monitor) (at n : ℕ) (b : Bool) → Sound u → at < 256 → has_seen u n ≡ b → has_seen (sees u at) n ≡ (b || at == n)
seen_as u at n b s a e = go (eqb_tells at n)
  where
    go : (((at == n) ≡ true) × (at ≡ n)) ⊎ (((at == n) ≡ false) × (at ≢ n)) → has_seen (sees u at) n ≡ (b || at == n)
    go (inl is) = ap (λ (k : ℕ). has_seen (sees u at) k) (sym is.1) ∙ seen_now u at s a ∙ sym (or_true b (at == n) is.0)
    go (inr is) = get_or-set_other u.seen at n true false (λ q. is.1 (sym q)) ∙ e ∙ sym (or_false b (at == n) is.0)

inv_sees : (from to at : ℕ) (sf sto : Bool) (st : ℕ → State) (u : Monitor) → at < 256 → Inv from to sf sto st u → Inv from to (sf || at == from) (sto || at == to) st (sees u at)
inv_sees from to at sf sto st u a i = record {
  sound = sound_sees u at i.sound;
  full = i.full;
  seen_from = seen_as u at from sf i.sound a i.seen_from;
  seen_to = seen_as u at to sto i.sound a i.seen_to;
  still = λ e. i.still (or_front sf (at == from) e);
  unlanded = λ e. i.unlanded (or_front sto (at == to) e);
  fine = i.fine;
  stands = i.stands;
}

module _ (sf sto : Bool) where
  inv_said : (from to at peer by : ℕ) (sent fresh : Bool) (r : Result Message MessageFault) (st : ℕ → State) (u : Monitor) → at < 256 → peer < 256 → Inv from to sf sto st u → Inv from to sf sto st (after_said u at peer (turn_at u at peer by sent) fresh r)
  inv_said from to at peer by sent true (Ok m) st u a p i = record {
    sound = sound_said u at peer by sent true (Ok m) i.sound;
    full = i.full;
    seen_from = i.seen_from;
    seen_to = i.seen_to;
    still = i.still;
    unlanded = i.unlanded;
    fine = fine_set u.views at peer from to (after_read (message_class m) (turn_at u at peer by sent) m.text (view_of u at peer)) i.sound.long a p
        (λ f. read_fine m by sent (busy_link at peer u.kept) (knows_zero u at peer) (view_of u at peer) f) i.fine;
    stands = i.stands;
  }
  inv_said from to at peer by sent false (Ok m) st u a p i = i
  inv_said from to at peer by sent fresh (Err fault) st u a p i = i

  -- ---- one link, and the others

  same : (n : ℕ) → (n == n) ≡ true
  same n = elim (eqb_tells n n) [
    | inl e ↦ e.0
    | inr e ↦ absurd (e.1 refl)
  ]

  differs : (n m : ℕ) → n ≢ m → (n == m) ≡ false
  differs n m d = elim (eqb_tells n m) [
    | inl e ↦ absurd (d e.1)
    | inr e ↦ e.0
  ]

  abbrev linked : ℕ → ℕ → MessageEvent → MessageEvent
  linked link on d = if link == on then d else Other

  abbrev Same : ℕ → State → State → MessageEvent → Type 0
  Same from s t d = (ds : List MessageEvent) → (Good from s (d ∷ ds) → Good from t ds) × (Good from t ds → Good from s (d ∷ ds))

  -- where the deed may be, and what is kept of all other links stays
  record Goes (from to : ℕ) (st : ℕ → State) (t : InFlight) (d : ℕ → MessageEvent) (kept : List SentMessage) : Type 0 where
    now : ℕ → State
    flight : (on : ℕ) → ((now on).p ≡ (st on).p) ⊎ ((now on).p ≡ t)
    stands : (on : ℕ) → Stands (now on) (filter (is_of from to on) kept)
    goes : (on : ℕ) → Same from (st on) (now on) (d on)

  one_goes : (from to link : ℕ) (st : ℕ → State) (t : State) (d : MessageEvent) (kept now : List SentMessage) → ((on : ℕ) → Stands (st on) (filter (is_of from to on) kept)) → ((q : SentMessage → Bool) → Apart (is_of from to link) q → filter q now ≡ filter q kept)
      → Stands t (filter (is_of from to link) now) → t.p ≡ flight_after d → Same from (st link) t d → Goes from to st (flight_after d) (λ on. linked link on d) now
  one_goes from to link st t d kept now h others own is goes = record { now = then_; flight = flight; stands = stands; goes = all }
    where
      then_ : ℕ → State
      then_ on = if on == link then t else st on

      flight : (on : ℕ) → ((then_ on).p ≡ (st on).p) ⊎ ((then_ on).p ≡ flight_after d)
      flight on = go (on == link)
        where
          go : (b : Bool) → ((if b then t else st on).p ≡ (st on).p) ⊎ ((if b then t else st on).p ≡ flight_after d)
          go true = inr is
          go false = inl refl

      stands : (on : ℕ) → Stands (then_ on) (filter (is_of from to on) now)
      stands on = go (eqb_tells on link)
        where
          go : (((on == link) ≡ true) × (on ≡ link)) ⊎ (((on == link) ≡ false) × (on ≢ link)) → Stands (then_ on) (filter (is_of from to on) now)
          go (inl e) =
              subst (λ (b : Bool). Stands (if b then t else st on) (filter (is_of from to on) now)) (sym e.0)
              (subst (λ (k : ℕ). Stands t (filter (is_of from to k) now)) (sym e.1) own)
          go (inr e) =
              subst (λ (b : Bool). Stands (if b then t else st on) (filter (is_of from to on) now)) (sym e.0)
              (subst (Stands (st on)) (sym (others (is_of from to on) (keys_distinct from to link from to on (λ is. e.1 (sym is.2))))) (h on))

      all : (on : ℕ) → Same from (st on) (then_ on) (linked link on d)
      all on ds = go (eqb_tells on link)
        where
          go : (((on == link) ≡ true) × (on ≡ link)) ⊎ (((on == link) ≡ false) × (on ≢ link)) → (Good from (st on) (linked link on d ∷ ds) → Good from (then_ on) ds) × (Good from (then_ on) ds → Good from (st on) (linked link on d ∷ ds))
          go (inl e) =
              subst (λ (b : Bool). (Good from (st on) ((if link == on then d else Other) ∷ ds) → Good from (if b then t else st on) ds) × (Good from (if b then t else st on) ds → Good from (st on) ((if link == on then d else Other) ∷ ds))) (sym e.0)
              (subst (λ (k : ℕ). (Good from (st k) ((if link == k then d else Other) ∷ ds) → Good from t ds) × (Good from t ds → Good from (st k) ((if link == k then d else Other) ∷ ds))) (sym e.1)
              (subst (λ (b : Bool). (Good from (st link) ((if b then d else Other) ∷ ds) → Good from t ds) × (Good from t ds → Good from (st link) ((if b then d else Other) ∷ ds))) (sym (same link)) (goes ds)))
          go (inr e) =
              subst (λ (b : Bool). (Good from (st on) ((if link == on then d else Other) ∷ ds) → Good from (if b then t else st on) ds) × (Good from (if b then t else st on) ds → Good from (st on) ((if link == on then d else Other) ∷ ds))) (sym e.0)
              (subst (λ (b : Bool). (Good from (st on) ((if b then d else Other) ∷ ds) → Good from (st on) ds) × (Good from (st on) ds → Good from (st on) ((if b then d else Other) ∷ ds))) (sym (differs link on (λ is. e.1 (sym is)))) (other_is from (st on) ds))

  -- ---- what a record shows

  abbrev Shows : ℕ → ℕ → (ℕ → State) → (ℕ → MessageEvent) → List Finding → Bool → Monitor → Type 0
  Shows from to st d found watched after =
      ((found_by is_of_messages found ≡ []) × (watched ≡ true) × (now : ℕ → State) × Inv from to sf sto now after × ((on : ℕ) → Same from (st on) (now on) (d on)))
      ⊎ ((found_by is_of_messages found ≡ [] → watched ≡ true → ⊥) × (on : ℕ) × ((ds : List MessageEvent) → Good from (st on) (d on ∷ ds) → ⊥))

  -- nothing
  quiet : (from to : ℕ) (st : ℕ → State) (u : Monitor) → Inv from to sf sto st u → Shows from to st (λ on. Other) [] true u
  quiet from to st u i = inl (refl, refl, st, i, λ on ds. other_is from (st on) ds)

  -- a message between others leaves all
  left : (from to : ℕ) (st : ℕ → State) (u after : Monitor) → Inv from to sf sto st u → Sound after → after.full ≡ false → after.seen ≡ u.seen → Fine (view_in after.views from to) → ((on : ℕ) → filter (is_of from to on) after.kept ≡ filter (is_of from to on) u.kept) → Inv from to sf sto st after
  left from to st u after i s f e v k = record {
    sound = s;
    full = f;
    seen_from = ap (λ (xs : List Bool). get from xs) e ∙ i.seen_from;
    seen_to = ap (λ (xs : List Bool). get to xs) e ∙ i.seen_to;
    still = i.still;
    unlanded = i.unlanded;
    fine = v;
    stands = λ on. subst (Stands (st on)) (sym (k on)) (i.stands on);
  }
    where
      get : ℕ → List Bool → Bool
      get n xs = has_seen (record u { seen = xs }) n

  -- ---- a message is sent

  abbrev filled : Monitor → ℕ → ℕ → ℕ → List Bool → Monitor
  filled u at peer link bits =
      let place = position_of at peer link u.kept in
      record u {
        full = not (has_room u.kept place);
        views = with_view u.views at peer (view_after_out (view_in u.views at peer) link (slot_of_link u at peer link) (same_of u at peer link bits));
        kept = with_out u.kept place (gone_out at peer link bits);
      }

  sound_filled : (u : Monitor) (at peer link : ℕ) (bits : List Bool) → Sound u → Sound (filled u at peer link bits)
  sound_filled u at peer link bits s = record {
    part = s.part;
    seen_long = s.seen_long;
    long = view_length u.views at peer (view_after_out (view_in u.views at peer) link (slot_of_link u at peer link) (same_of u at peer link bits)) ∙ s.long;
  }

  neither : (b c : Bool) → b ≡ false → c ≡ false → (b || c) ≡ false
  neither false false e f = refl
  neither true c e f = absurd (cc)
  neither false true e f = absurd (cc)

  -- there was room
  room_of : (u : Monitor) (at peer link : ℕ) (bits : List Bool) → u.full ≡ false → (monitor_after_out u at peer link bits).full ≡ false → has_room u.kept (position_of at peer link u.kept) ≡ true
  room_of u at peer link bits f e =
      has_room_for_one (has_room u.kept (position_of at peer link u.kept)) (subst (λ (b : Bool). (if b then u else filled u at peer link bits).full ≡ false) f e)

  after_out : (from to at peer link : ℕ) (bits : List Bool) (st : ℕ → State) (u : Monitor) → u.full ≡ false → Inv from to sf sto st (filled u at peer link bits) → Inv from to sf sto st (monitor_after_out u at peer link bits)
  after_out from to at peer link bits st u f i = subst (λ (b : Bool). Inv from to sf sto st (if b then u else filled u at peer link bits)) (sym f) i

  out_toward : (from to link : ℕ) (way : ImpDirection) (bits : List Bool) (st : ℕ → State) (u : Monitor) → sf ≡ true → from < 256 → to < 256 → Inv from to sf sto st u → (monitor_after_out u from to link bits).full ≡ false
      → Shows from to st (λ on. linked link on (Sent bits)) (event_findings u way from bits (event.Out to link)) true (after_event u from bits (event.Out to link))
  out_toward from to link way bits st u here_from a p i f =
      go (subst (λ (k : Bool). Step from (st link) (Sent bits) (told (out_rule (kept_slot k u.kept place) (same_at u.kept place bits) link)) (filter (is_of from to link) kept)) (sym i.fine.1) (sent_step from to link (st link) u.kept bits (i.stands link) room))
    where
      place : Option ℕ
      place = position_of from to link u.kept

      kept : List SentMessage
      kept = with_out u.kept place (gone_out from to link bits)

      room : has_room u.kept (position_of from to link u.kept) ≡ true
      room = room_of u from to link bits i.full f

      slot : LinkState
      slot = slot_of_link u from to link

      same_one : Bool
      same_one = same_of u from to link bits

      rules : Option Rule
      rules = out_rule slot same_one link

      after : Monitor
      after = monitor_after_out u from to link bits

      own : (b : Bool) → told rules ≡ b → Found b (event_findings u way from bits (event.Out to link))
      own b e =
          with_said b (option_to_list (out_finding u from to link bits)) (message_findings after from to (turn_at after from to from true) (fresh_out u from to link bits) link bits) (said_none after from to (turn_at after from to from true) (fresh_out u from to link bits) link bits)
          (subst (λ (c : Bool). Found b (option_to_list (if c then None else option_map (by_host from) rules))) (sym i.full)
          (subst (λ (c : Bool). Found c (option_to_list (option_map (by_host from) rules))) e (of_option (by_host from) rules (out_rule_is slot same_one link))))

      go : Step from (st link) (Sent bits) (told rules) (filter (is_of from to link) kept) → Shows from to st (λ on. linked link on (Sent bits)) (event_findings u way from bits (event.Out to link)) true (after_event u from bits (event.Out to link))
      go (inl (e, t, s, q, g)) =
          let w = one_goes from to link st t (Sent bits) u.kept kept i.stands (put_distinct from to link u.kept bits room) s q g in
          let here : Inv from to sf sto w.now (filled u from to link bits) = record {
            sound = sound_filled u from to link bits i.sound;
            full = ap not room;
            seen_from = i.seen_from;
            seen_to = i.seen_to;
            still = λ x. let nay : true ≡ false = sym here_from ∙ x in absurd (cc);
            unlanded = λ x on. elim (w.flight on) [
              | inl y ↦ λ z. i.unlanded x on (sym y ∙ z)
              | inr y ↦ λ z. let nay : Flying bits ≡ Landed = sym y ∙ z in absurd (cc)
            ];
            fine = fine_set u.views from to from to (view_after_out (view_in u.views from to) link slot same_one) i.sound.long a p (λ v. (neither (view_in u.views from to).overlapped (is_slot_out slot) v.0 (out_quiet slot same_one link e), v.1)) i.fine;
            stands = w.stands;
          } in
          inl (own false e, refl, w.now, inv_said from to from to from true (fresh_out u from to link bits) (message_in bits) w.now after a p (after_out from to from to link bits w.now u i.full here), w.goes)
      go (inr (e, nay)) = inr (λ none watched. own true e none, link, λ ds g. nay ds (subst (λ (b : Bool). Good from (st link) ((if b then Sent bits else Other) ∷ ds)) (same link) g))

  out_aside : (from to at peer link : ℕ) (bits : List Bool) (st : ℕ → State) (u : Monitor) → to < 256 → at < 256 → peer < 256 → (at ≡ from → peer ≡ to → ⊥) → Inv from to sf sto st u → (monitor_after_out u at peer link bits).full ≡ false
      → Shows from to st (λ on. Other) [] true (after_event u at bits (event.Out peer link))
  out_aside from to at peer link bits st u t a p nay i f =
      let room = room_of u at peer link bits i.full f in
      let here : Inv from to sf sto st (filled u at peer link bits) =
      left from to st u (filled u at peer link bits) i (sound_filled u at peer link bits i.sound) (ap not room) refl
      (subst (λ (v : View). Fine v) (sym (place_other u.views at peer from to (view_after_out (view_in u.views at peer) link (slot_of_link u at peer link) (same_of u at peer link bits)) p t nay)) i.fine)
      (λ on. put_distinct at peer link u.kept bits room (is_of from to on) (keys_distinct at peer link from to on (λ is. nay is.0 is.1))) in
      quiet from to st (after_event u at bits (event.Out peer link)) (inv_said from to at peer at true (fresh_out u at peer link bits) (message_in bits) st (monitor_after_out u at peer link bits) a p (after_out from to at peer link bits st u i.full here))

  -- both or not
  pair : (x y z w : ℕ) → (x == y && z == w) ≡ true → (x ≡ y) × (z ≡ w)
  pair x y z w e = let p = and_parts (x == y) (z == w) e in (eqb-true x y p.0, eqb-true z w p.1)

  not_pair : (x y z w : ℕ) → (x == y && z == w) ≡ false → x ≡ y → z ≡ w → ⊥
  not_pair x y z w e a b = let yes : true ≡ false = sym (ap (λ (n : ℕ). n == y && z == w) a ∙ ap (λ (c : Bool). c && z == w) (same y) ∙ ap (λ (n : ℕ). n == w) b ∙ same w) ∙ e in absurd (cc)

  out_shows : (from to at peer link : ℕ) (way : ImpDirection) (bits : List Bool) (st : ℕ → State) (u : Monitor) → (at ≡ from → sf ≡ true) → from < 256 → to < 256 → at < 256 → peer < 256 → Inv from to sf sto st u → (after_event u at bits (event.Out peer link)).full ≡ false
      → Shows from to st (λ on. deed_recorded from to on at bits (event.Out peer link)) (if is_toward from to at (event.Out peer link) then event_findings u way at bits (event.Out peer link) else []) (if is_toward from to at (event.Out peer link) then true else true) (after_event u at bits (event.Out peer link))
  out_shows from to at peer link way bits st u hf f t a p i full = go (at == from && peer == to) refl
    where
      after : Monitor
      after = monitor_after_out u at peer link bits

      open_is : (monitor_after_out u at peer link bits).full ≡ false
      open_is = sym (said_keeps after at peer (turn_at after at peer at true) (fresh_out u at peer link bits) (message_in bits)).1 ∙ full

      go : (b : Bool) → (at == from && peer == to) ≡ b
          → Shows from to st (λ on. if (at == from && peer == to) && link == on then Sent bits else Other) (if (at == from && peer == to) then event_findings u way at bits (event.Out peer link) else []) (if (at == from && peer == to) then true else true) (after_event u at bits (event.Out peer link))
      go true e =
          let is = pair at from peer to e in
          subst (λ (b : Bool). Shows from to st (λ on. if b && link == on then Sent bits else Other) (if b then event_findings u way at bits (event.Out peer link) else []) (if b then true else true) (after_event u at bits (event.Out peer link))) (sym e)
          (subst (λ (n : ℕ). (monitor_after_out u n peer link bits).full ≡ false → Shows from to st (λ on. linked link on (Sent bits)) (event_findings u way n bits (event.Out peer link)) true (after_event u n bits (event.Out peer link))) (sym is.0)
          (subst (λ (n : ℕ). (monitor_after_out u from n link bits).full ≡ false → Shows from to st (λ on. linked link on (Sent bits)) (event_findings u way from bits (event.Out n link)) true (after_event u from bits (event.Out n link))) (sym is.1)
          (out_toward from to link way bits st u (hf is.0) f t i)) open_is)
      go false e =
          subst (λ (b : Bool). Shows from to st (λ on. if b && link == on then Sent bits else Other) (if b then event_findings u way at bits (event.Out peer link) else []) (if b then true else true) (after_event u at bits (event.Out peer link))) (sym e)
          (out_aside from to at peer link bits st u t a p (not_pair at from peer to e) i open_is)

  -- ---- a message comes

  abbrev come : Monitor → ℕ → ℕ → ℕ → Monitor
  come u at peer link = record u { kept = with_coming u.kept (position_of peer at link u.kept) }

  in_aside : (from to at peer link : ℕ) (bits : List Bool) (st : ℕ → State) (u : Monitor) → at < 256 → peer < 256 → (at ≡ to → peer ≡ from → ⊥) → Inv from to sf sto st u → Shows from to st (λ on. Other) [] true (after_event u at bits (event.In peer link))
  in_aside from to at peer link bits st u a p nay i = quiet from to st (after_event u at bits (event.In peer link)) (inv_said from to at peer peer false true (message_in bits) st (after_in u at peer link) a p (go (judges_coming u at peer)))
    where
      go : (b : Bool) → Inv from to sf sto st (if b then come u at peer link else u)
      go true =
          left from to st u (come u at peer link) i (record { part = i.sound.part; seen_long = i.sound.seen_long; long = i.sound.long }) i.full refl i.fine
          (λ on. (after_coming peer at link u.kept).0 (is_of from to on) (keys_distinct peer at link from to on (λ is. nay is.1 is.0)))
      go false = i

  all_judged : (full part seen overlapped : Bool) → full ≡ false → part ≡ false → seen ≡ true → overlapped ≡ false → (not full && (not part && seen) && not overlapped) ≡ true
  all_judged false false true false a b c d = refl
  all_judged true p s c a b d e = absurd (cc)
  all_judged false true s c a b d e = absurd (cc)
  all_judged false false false c a b d e = absurd (cc)
  all_judged false false true true a b d e = absurd (cc)

  in_toward : (from to link : ℕ) (way : ImpDirection) (bits : List Bool) (st : ℕ → State) (u : Monitor) → sto ≡ true → from < 256 → to < 256 → 32 ≤ length bits → (leader_at bits).host ≡ from → Inv from to sf sto st u
      → Shows from to st (λ on. linked link on (Arrives bits)) (event_findings u way to bits (event.In from link)) sf (after_event u to bits (event.In from link))
  in_toward from to link way bits st u here_to f t long is i = by sf refl
    where
      place : Option ℕ
      place = position_of from to link u.kept

      kept : List SentMessage
      kept = with_coming u.kept place

      why : Option Unsent
      why = unsent_why (kept_slot true u.kept place) (same_but_host_at u.kept place bits)

      judged : sf ≡ true → judges_coming u to from ≡ true
      judged x = all_judged u.full u.part (has_seen u from) (is_crowded u from to) i.full i.sound.part (i.seen_from ∙ x) i.fine.0

      after : Monitor
      after = after_in u to from link

      named : Unsent → Finding
      named y = by_imp (Rule.Unsent from link y)

      own : sf ≡ true → (b : Bool) → told why ≡ b → Found b (event_findings u way to bits (event.In from link))
      own x b e =
          with_said b (option_to_list (unsent_finding u to from link bits)) (message_findings after to from (turn_at after to from from false) true link bits) (said_none after to from (turn_at after to from from false) true link bits)
          (subst (λ (c : Bool). Found b (option_to_list (if c then option_map named why else None))) (sym (judged x))
          (subst (λ (c : Bool). Found c (option_to_list (option_map named why))) e (of_option named why (λ y q. refl))))

      go : sf ≡ true → Step from (st link) (Arrives bits) (told why) (filter (is_of from to link) kept) → Shows from to st (λ on. linked link on (Arrives bits)) (event_findings u way to bits (event.In from link)) sf (after_event u to bits (event.In from link))
      go x (inl (e, n, s, q, g)) =
          let w = one_goes from to link st n (Arrives bits) u.kept kept i.stands (after_coming from to link u.kept).0 s q g in
          let here : Inv from to sf sto w.now (come u to from link) = record {
            sound = record { part = i.sound.part; seen_long = i.sound.seen_long; long = i.sound.long };
            full = i.full;
            seen_from = i.seen_from;
            seen_to = i.seen_to;
            still = λ y. let nay : true ≡ false = sym x ∙ y in absurd (cc);
            unlanded = λ y. let nay : true ≡ false = sym here_to ∙ y in absurd (cc);
            fine = i.fine;
            stands = w.stands;
          } in
          inl (own x false e, x, w.now, inv_said from to to from from false true (message_in bits) w.now after t f (subst (λ (b : Bool). Inv from to sf sto w.now (if b then come u to from link else u)) (sym (judged x)) here), w.goes)
      go x (inr (e, nay)) = inr (λ none watched. own x true e none, link, λ ds g. nay ds (subst (λ (b : Bool). Good from (st link) ((if b then Arrives bits else Other) ∷ ds)) (same link) g))

      by : (b : Bool) → sf ≡ b → Shows from to st (λ on. linked link on (Arrives bits)) (event_findings u way to bits (event.In from link)) sf (after_event u to bits (event.In from link))
      by true x = go x (come_step from to link (st link) u.kept bits (i.stands link) long is)
      by false x = inr (
        λ none watched. let nay : true ≡ false = sym watched ∙ x in absurd (cc),
        link,
        λ ds g. comes_nay from (st link) bits ds (i.still x link) (subst (λ (b : Bool). Good from (st link) ((if b then Arrives bits else Other) ∷ ds)) (same link) g),
      )

  in_shows : (from to at peer link : ℕ) (way : ImpDirection) (bits : List Bool) (st : ℕ → State) (u : Monitor) → (at ≡ to → sto ≡ true) → from < 256 → to < 256 → at < 256 → peer < 256 → 32 ≤ length bits → (leader_at bits).host ≡ peer → Inv from to sf sto st u
      → Shows from to st (λ on. deed_recorded from to on at bits (event.In peer link)) (if is_toward from to at (event.In peer link) then event_findings u way at bits (event.In peer link) else []) (if is_toward from to at (event.In peer link) then sf else true) (after_event u at bits (event.In peer link))
  in_shows from to at peer link way bits st u ht f t a p long host i = go (at == to && peer == from) refl
    where
      go : (b : Bool) → (at == to && peer == from) ≡ b
          → Shows from to st (λ on. if (at == to && peer == from) && link == on then Arrives bits else Other) (if (at == to && peer == from) then event_findings u way at bits (event.In peer link) else []) (if (at == to && peer == from) then sf else true) (after_event u at bits (event.In peer link))
      go true e =
          let is = pair at to peer from e in
          subst (λ (b : Bool). Shows from to st (λ on. if b && link == on then Arrives bits else Other) (if b then event_findings u way at bits (event.In peer link) else []) (if b then sf else true) (after_event u at bits (event.In peer link))) (sym e)
          (subst (λ (n : ℕ). Shows from to st (λ on. linked link on (Arrives bits)) (event_findings u way n bits (event.In peer link)) sf (after_event u n bits (event.In peer link))) (sym is.0)
          (subst (λ (n : ℕ). Shows from to st (λ on. linked link on (Arrives bits)) (event_findings u way to bits (event.In n link)) sf (after_event u to bits (event.In n link))) (sym is.1)
          (in_toward from to link way bits st u (ht is.0) f t long (host ∙ is.1) i)))
      go false e =
          subst (λ (b : Bool). Shows from to st (λ on. if b && link == on then Arrives bits else Other) (if b then event_findings u way at bits (event.In peer link) else []) (if b then sf else true) (after_event u at bits (event.In peer link))) (sym e)
          (in_aside from to at peer link bits st u a p (not_pair at to peer from e) i)

  -- ---- an answer comes

  abbrev answered : Monitor → ℕ → ℕ → ℕ → ℕ → Monitor
  answered u kind at peer link = record u { kept = with_answer (view_in u.views at peer).known kind u.kept (position_of at peer link u.kept) }

  answer_aside : (from to at peer link kind : ℕ) (bits : List Bool) (st : ℕ → State) (u : Monitor) → (at ≡ from → peer ≡ to → ⊥) → Inv from to sf sto st u → Shows from to st (λ on. Other) [] true (after_event u at bits (event.Answer kind peer link))
  answer_aside from to at peer link kind bits st u nay i = quiet from to st (after_event u at bits (event.Answer kind peer link)) (go u.full)
    where
      go : (b : Bool) → Inv from to sf sto st (if b then u else answered u kind at peer link)
      go true = i
      go false =
          left from to st u (answered u kind at peer link) i (record { part = i.sound.part; seen_long = i.sound.seen_long; long = i.sound.long }) i.full refl i.fine
          (λ on. (after_answering at peer link (view_in u.views at peer).known kind u.kept).0 (is_of from to on) (keys_distinct at peer link from to on (λ is. nay is.0 is.1)))

  found_either : (a b : Bool) (xs ys : List Finding) → Found a xs → Found b ys → Found (either a b) (xs ++ ys)
  found_either true b xs ys f g = λ e. f (parts_empty xs ys e).0
  found_either false true xs ys f g = λ e. g (parts_empty xs ys e).1
  found_either false false xs ys f g = found_two xs ys ∙ ap (λ (zs : List Finding). zs ++ found_by is_of_messages ys) f ∙ g

  sees_all : (part seen overlapped : Bool) → part ≡ false → seen ≡ true → overlapped ≡ false → ((not part && seen) && not overlapped) ≡ true
  sees_all false true false b c d = refl
  sees_all true s c b d e = absurd (cc)
  sees_all false false c b d e = absurd (cc)
  sees_all false true true b d e = absurd (cc)

  cleared : (b : Bool) → flight_after (answer_event b) ≡ Clear
  cleared true = refl
  cleared false = refl

  answer_toward : (from to link kind : ℕ) (way : ImpDirection) (bits : List Bool) (st : ℕ → State) (u : Monitor) → Inv from to sf sto st u
      → Shows from to st (λ on. linked link on (answer_event (kind == 5))) (event_findings u way from bits (event.Answer kind to link)) (not (kind == 5) || sto) (after_event u from bits (event.Answer kind to link))
  answer_toward from to link kind way bits st u i = by sto (kind == 5) refl refl
    where
      place : Option ℕ
      place = position_of from to link u.kept

      known : Bool
      known = (view_in u.views from to).known

      kept : List SentMessage
      kept = with_answer known kind u.kept place

      slot : LinkState
      slot = slot_of_link u from to link

      step : Step from (st link) (answer_event (kind == 5)) (found_answer slot kind to link) (filter (is_of from to link) kept)
      step = (subst (λ (k : Bool). Step from (st link) (answer_event (kind == 5)) (found_answer (kept_slot k u.kept place) kind to link) (filter (is_of from to link) (with_answer k kind u.kept place))) (sym i.fine.1) (answer_step from to link kind to (st link) u.kept (i.stands link)))

      judge : Bool
      judge = sees_both u to && not (is_crowded u from to)

      judged : sto ≡ true → judge ≡ true
      judged x = sees_all u.part (has_seen u to) (is_crowded u from to) i.sound.part (i.seen_to ∙ x) i.fine.0

      falsely : Option Rule
      falsely = false_rule slot kind to link

      astray : Option Rule
      astray = stray_rule slot kind link

      found_so : (c : Bool) → (c ≡ true) ⊎ (told falsely ≡ false) → Found (either (told falsely) (told astray)) (option_to_list (if c then option_map by_imp falsely else None) ++ option_to_list (option_map by_imp astray))
      found_so true k =
          found_either (told falsely) (told astray) (option_to_list (option_map by_imp falsely)) (option_to_list (option_map by_imp astray))
          (of_option by_imp falsely (false_rule_is slot kind to link)) (of_option by_imp astray (stray_rule_is slot kind link))
      found_so false (inl k) = absurd (cc)
      found_so false (inr k) = subst (λ (b : Bool). Found (either b (told astray)) (option_to_list (option_map by_imp astray))) (sym k) (of_option by_imp astray (stray_rule_is slot kind link))

      Judged : Type 0
      Judged = (judge ≡ true) ⊎ (told falsely ≡ false)

      own : Judged → (b : Bool) → found_answer slot kind to link ≡ b → Found b (event_findings u way from bits (event.Answer kind to link))
      own k b e =
          subst (λ (c : Bool). Found b (if c then [] else option_to_list (false_finding u kind from to link) ++ option_to_list (stray_finding u kind from to link))) (sym i.full)
          (subst (λ (c : Bool). Found c (option_to_list (if judge then option_map by_imp falsely else None) ++ option_to_list (option_map by_imp astray))) e (found_so judge k))

      go : Judged → (not (kind == 5) || sto) ≡ true → Step from (st link) (answer_event (kind == 5)) (found_answer slot kind to link) (filter (is_of from to link) kept)
          → Shows from to st (λ on. linked link on (answer_event (kind == 5))) (event_findings u way from bits (event.Answer kind to link)) (not (kind == 5) || sto) (after_event u from bits (event.Answer kind to link))
      go k x (inl (e, n, s, q, g)) =
          let w = one_goes from to link st n (answer_event (kind == 5)) u.kept kept i.stands (after_answering from to link known kind u.kept).0 s q g in
          let here : Inv from to sf sto w.now (answered u kind from to link) = record {
            sound = record { part = i.sound.part; seen_long = i.sound.seen_long; long = i.sound.long };
            full = i.full;
            seen_from = i.seen_from;
            seen_to = i.seen_to;
            still = λ y on. elim (w.flight on) [
              | inl z ↦ z ∙ i.still y on
              | inr z ↦ z ∙ cleared (kind == 5)
            ];
            unlanded = λ y on. elim (w.flight on) [
              | inl z ↦ λ v. i.unlanded y on (sym z ∙ v)
              | inr z ↦ λ v. let nay : Clear ≡ Landed = sym (z ∙ cleared (kind == 5)) ∙ v in absurd (cc)
            ];
            fine = i.fine;
            stands = w.stands;
          } in
          inl (own k false e, x, w.now, subst (λ (b : Bool). Inv from to sf sto w.now (if b then u else answered u kind from to link)) (sym i.full) here, w.goes)
      go k x (inr (e, nay)) = inr (λ none watched. own k true e none, link, λ ds g. nay ds (subst (λ (b : Bool). Good from (st link) ((if b then answer_event (kind == 5) else Other) ∷ ds)) (same link) g))

      unless_taken : (b : Bool) → b ≡ false → (not b || sto) ≡ true
      unless_taken true e = absurd (cc)
      unless_taken false e = refl

      where_seen : (b : Bool) → sto ≡ true → (not b || sto) ≡ true
      where_seen true e = e
      where_seen false e = refl

      by : (c b : Bool) → sto ≡ c → (kind == 5) ≡ b
          → Shows from to st (λ on. linked link on (answer_event (kind == 5))) (event_findings u way from bits (event.Answer kind to link)) (not (kind == 5) || sto) (after_event u from bits (event.Answer kind to link))
      by true b x e = go (inl (judged x)) (where_seen (kind == 5) x) step
      by false false x e =
          go (inr (subst (λ (k : Bool). told (false_rule (kept_slot k u.kept place) kind to link) ≡ false) (sym i.fine.1) (unlanded_answer from to link kind to (st link) u.kept (i.stands link) (i.unlanded x link) e))) (unless_taken (kind == 5) e) step
      by false true x e = inr (
        λ none watched. let nay : true ≡ false = sym watched ∙ ap (λ (c : Bool). not c || sto) e ∙ x in absurd (cc),
        link,
        λ ds g.
            taken_nay from (st link) ds (i.unlanded x link)
            (subst (λ (c : Bool). Good from (st link) (answer_event c ∷ ds)) e (subst (λ (c : Bool). Good from (st link) ((if c then answer_event (kind == 5) else Other) ∷ ds)) (same link) g)),
      )

  answer_shows : (from to at peer link kind : ℕ) (way : ImpDirection) (bits : List Bool) (st : ℕ → State) (u : Monitor) → Inv from to sf sto st u
      → Shows from to st (λ on. deed_recorded from to on at bits (event.Answer kind peer link)) (if is_toward from to at (event.Answer kind peer link) then event_findings u way at bits (event.Answer kind peer link) else []) (if is_toward from to at (event.Answer kind peer link) then not (kind == 5) || sto else true) (after_event u at bits (event.Answer kind peer link))
  answer_shows from to at peer link kind way bits st u i = go (at == from && peer == to) refl
    where
      go : (b : Bool) → (at == from && peer == to) ≡ b
          → Shows from to st (λ on. if (at == from && peer == to) && link == on then answer_event (kind == 5) else Other) (if (at == from && peer == to) then event_findings u way at bits (event.Answer kind peer link) else []) (if (at == from && peer == to) then not (kind == 5) || sto else true) (after_event u at bits (event.Answer kind peer link))
      go true e =
          let is = pair at from peer to e in
          subst (λ (b : Bool). Shows from to st (λ on. if b && link == on then answer_event (kind == 5) else Other) (if b then event_findings u way at bits (event.Answer kind peer link) else []) (if b then not (kind == 5) || sto else true) (after_event u at bits (event.Answer kind peer link))) (sym e)
          (subst (λ (n : ℕ). Shows from to st (λ on. linked link on (answer_event (kind == 5))) (event_findings u way n bits (event.Answer kind peer link)) (not (kind == 5) || sto) (after_event u n bits (event.Answer kind peer link))) (sym is.0)
          (subst (λ (n : ℕ). Shows from to st (λ on. linked link on (answer_event (kind == 5))) (event_findings u way from bits (event.Answer kind n link)) (not (kind == 5) || sto) (after_event u from bits (event.Answer kind n link))) (sym is.1)
          (answer_toward from to link kind way bits st u i)))
      go false e =
          subst (λ (b : Bool). Shows from to st (λ on. if b && link == on then answer_event (kind == 5) else Other) (if b then event_findings u way at bits (event.Answer kind peer link) else []) (if b then not (kind == 5) || sto else true) (after_event u at bits (event.Answer kind peer link))) (sym e)
          (answer_aside from to at peer link kind bits st u (not_pair at from peer to e) i)

  -- ---- a record

  shows : (from to at : ℕ) (way : ImpDirection) (bits : List Bool) (st : ℕ → State) (u : Monitor) → (at ≡ from → sf ≡ true) → (at ≡ to → sto ≡ true) → from < 256 → to < 256 → at < 256 → Inv from to sf sto st u → (e : InterfaceEvent) → Facts e bits → (after_event u at bits e).full ≡ false
      → Shows from to st (λ on. deed_recorded from to on at bits e) (if is_toward from to at e then event_findings u way at bits e else []) (if is_toward from to at e then is_seen_for sf sto e else true) (after_event u at bits e)
  shows from to at way bits st u hf ht f t a i event.Short k full = quiet from to st u i
  shows from to at way bits st u hf ht f t a i event.Nothing k full = quiet from to st u i
  shows from to at way bits st u hf ht f t a i (event.Own kind link) k full = quiet from to st u i
  shows from to at way bits st u hf ht f t a i (event.Other kind) k full = quiet from to st u i
  shows from to at way bits st u hf ht f t a i (event.Out peer link) k full = out_shows from to at peer link way bits st u hf f t a k i full
  shows from to at way bits st u hf ht f t a i (event.In peer link) k full = in_shows from to at peer link way bits st u ht f t a k.0 k.1 k.2 i
  shows from to at way bits st u hf ht f t a i (event.Answer kind peer link) k full = answer_shows from to at peer link kind way bits st u i

-- ---- a file

-- what is full stays so
stays_full : (u : Monitor) (at : ℕ) (bits : List Bool) (e : InterfaceEvent) → (after_event u at bits e).full ≡ false → u.full ≡ false
stays_full u at bits event.Short f = f
stays_full u at bits event.Nothing f = f
stays_full u at bits (event.Own kind link) f = f
stays_full u at bits (event.Other kind) f = f
stays_full u at bits (event.Out peer link) f =
    let after = monitor_after_out u at peer link bits in
    go u.full refl (sym (said_keeps after at peer (turn_at after at peer at true) (fresh_out u at peer link bits) (message_in bits)).1 ∙ f)
  where
    go : (b : Bool) → u.full ≡ b → (if b then u else filled false false u at peer link bits).full ≡ false → u.full ≡ false
    go true e g = g
    go false e g = e
stays_full u at bits (event.In peer link) f =
    let after = after_in u at peer link in
    go (judges_coming u at peer) (sym (said_keeps after at peer (turn_at after at peer peer false) true (message_in bits)).1 ∙ f)
  where
    go : (b : Bool) → (if b then come false false u at peer link else u).full ≡ false → u.full ≡ false
    go true g = g
    go false g = g
stays_full u at bits (event.Answer kind peer link) f = go u.full refl f
  where
    go : (b : Bool) → u.full ≡ b → (if b then u else answered false false u kind at peer link).full ≡ false → u.full ≡ false
    go true e g = g
    go false e g = e

pub begins_open : (u : Monitor) (file : List (ℕ × ImpDirection × List Bool)) → (monitor_after_file u file).full ≡ false → u.full ≡ false
begins_open u [] f = f
begins_open u (one ∷ more) f = stays_full (sees u one.0) one.0 one.2 (event_of one.1 one.0 one.2) (begins_open (after_record u one.1 one.0 one.2) more f)

same_host : (at n : ℕ) (b : Bool) → at ≡ n → (b || at == n) ≡ true
same_host at n b e = or_true b (at == n) (ap (λ (k : ℕ). k == n) e ∙ same false false n)

pub walk : (from to : ℕ) (sf sto : Bool) (st : ℕ → State) (u : Monitor) (file : List (ℕ × ImpDirection × List Bool)) → from < 256 → to < 256 → AllFit file → Inv from to sf sto st u → (monitor_after_file u file).full ≡ false
    → ((found_by is_of_messages (found_toward from to u file) ≡ []) × (is_watched from to sf sto file ≡ true) → (on : ℕ) → Good from (st on) (deeds_recorded from to on file))
    × (((on : ℕ) → Good from (st on) (deeds_recorded from to on file)) → (found_by is_of_messages (found_toward from to u file) ≡ []) × (is_watched from to sf sto file ≡ true))
walk from to sf sto st u [] f t fit i full = (λ e on. (tt, tt), λ g. (refl, refl))
walk from to sf sto st u (one ∷ more) f t fit i full =
    go (shows sf_now sto_now from to one.0 one.1 one.2 st (sees u one.0) (same_host one.0 from sf) (same_host one.0 to sto) f t fit.0 (inv_sees from to one.0 sf sto st u fit.0 i) e (facts one.1 one.0 one.2) (begins_open after more full))
    (λ now k. walk from to sf_now sto_now now after more f t fit.2 k full)
  where
    sf_now : Bool
    sf_now = sf || one.0 == from

    sto_now : Bool
    sto_now = sto || one.0 == to

    e : InterfaceEvent
    e = event_of one.1 one.0 one.2

    after : Monitor
    after = after_record u one.1 one.0 one.2

    here : List Finding
    here = if is_toward from to one.0 e then record_findings u one.1 one.0 one.2 else []

    watched : Bool
    watched = if is_toward from to one.0 e then is_seen_for sf_now sto_now e else true

    rest : List Finding
    rest = found_toward from to after more

    rest_watched : Bool
    rest_watched = is_watched from to sf_now sto_now more

    Rest : Type 0
    Rest =
        (now : ℕ → State) → Inv from to sf_now sto_now now after
        → ((found_by is_of_messages rest ≡ []) × (rest_watched ≡ true) → (on : ℕ) → Good from (now on) (deeds_recorded from to on more))
        × (((on : ℕ) → Good from (now on) (deeds_recorded from to on more)) → (found_by is_of_messages rest ≡ []) × (rest_watched ≡ true))

    go : Shows sf_now sto_now from to st (λ on. deed_recorded from to on one.0 one.2 e) here watched after → Rest
        → ((found_by is_of_messages (here ++ rest) ≡ []) × ((watched && rest_watched) ≡ true) → (on : ℕ) → Good from (st on) (deed_recorded from to on one.0 one.2 e ∷ deeds_recorded from to on more))
        × (((on : ℕ) → Good from (st on) (deed_recorded from to on one.0 one.2 e ∷ deeds_recorded from to on more)) → (found_by is_of_messages (here ++ rest) ≡ []) × ((watched && rest_watched) ≡ true))
    go (inl (none, w_here, now, k, goes)) walks =
        let w = walks now k in (
          λ q on. (goes on (deeds_recorded from to on more)).1 (w.0 ((parts_empty here rest q.0).1, (and_parts watched rest_watched q.1).1) on),
          λ g. let x = w.1 (λ on. (goes on (deeds_recorded from to on more)).0 (g on)) in (
            found_two here rest ∙ ap (λ (zs : List Finding). zs ++ found_by is_of_messages rest) none ∙ x.0,
            ap (λ (b : Bool). b && rest_watched) w_here ∙ x.1,
          ),
        )
    go (inr (some, on, nay)) walks = (
      λ q. absurd (some (parts_empty here rest q.0).0 (and_parts watched rest_watched q.1).0),
      λ g. absurd (nay (deeds_recorded from to on more) (g on)),
    )
