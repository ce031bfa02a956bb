-- What a deed does to what is kept of its link, and whether something is found: exactly where the deed may not be.
use Rattle.std.proofs.Common.{◌≡◌, ◌⊎◌, inl, inr, ℕ, ◌≤◌, ◌==◌, Bool, true, false, not, if◌then◌else◌, List, [], ◌∷◌, ◌++◌, length, Option, None, Some, position, remove, filter, slice_set, refl, sym, ap, ◌∙◌, subst}
use Rattle.ncp_leader.specs.Leader.{leader_at}
use Rattle.ncp_subnet.specs.Messages.{from_host}
use Rattle.ncp_transcript_two.specs.Honest.{MessageEvent, Sent, Arrives, Acked, Nacked, InFlight, Clear, Flying, Landed, HonestFrom, RepeatsFrom}
use Rattle.ncp_monitor.specs.declared.finding.Rule.{Rule}
use Rattle.ncp_interface.specs.declared.sent_message.SentMessage.{SentMessage}
use Rattle.ncp_interface.specs.declared.sent_message.LinkState.{LinkState}
use Rattle.ncp_interface.specs.Slots.{is_of, same_bits, same_but_host, same_at, same_but_host_at, position_of, kept_at, kept_slot, gone_out, has_room, with_out, with_kept_slot, is_slot_out, with_answer}
use Rattle.ncp_monitor.specs.Judged.{out_rule, false_rule, stray_rule, unsent_why, with_coming}
use Rattle.ncp_proof_monitor.proofs.KeptOne.{middle_set, middle_get, middle_remove, Placed, placed, taken, replaced, forgotten, as_list, behind, put_out}
use Rattle.ncp_proof_monitor.proofs.Shown.{of_itself, all_same}
use Rattle.ncp_proof_monitor_messages.proofs.Tells.{Blind}
use Rattle.ncp_proof_monitor_exact.proofs.States.{State, Good, StandsOne, Stands, only}
use Rattle.ncp_proof_monitor_exact.proofs.Alike.{same_is, from_as, from_near}

-- what is in flight after a deed
abbrev pub flight_after : MessageEvent → InFlight
flight_after (Sent m) = Flying m
flight_after (Arrives m) = Landed
flight_after d = Clear

-- the deed may be, nothing is found, and this is what it comes to; or it may not, and something is found
abbrev pub Step : ℕ → State → MessageEvent → Bool → List SentMessage → Type 0
Step from s d found now =
    ((found ≡ false) × (t : State) × Stands t now × (t.p ≡ flight_after d) × ((ds : List MessageEvent) → (Good from s (d ∷ ds) → Good from t ds) × (Good from t ds → Good from s (d ∷ ds))))
    ⊎ ((found ≡ true) × ((ds : List MessageEvent) → Good from s (d ∷ ds) → ⊥))

-- what is kept of the link: nothing, or one message
pub record There (p : SentMessage → Bool) (kept : List SentMessage) (s : State) : Type 0 where
  pub r : Placed p kept
  pub is : kept_at kept (length r.before) ≡ r.k
  pub alone : filter p r.after ≡ []
  pub stands : StandsOne s r.k.slot r.k.message

abbrev pub Bare : (SentMessage → Bool) → List SentMessage → State → Type 0
Bare p kept s = (position p kept ≡ None) × (filter p kept ≡ []) × (s.p ≡ Clear) × (s.fresh ≡ true)

pub look : (p : SentMessage → Bool) (kept : List SentMessage) (s : State) → Stands s (filter p kept) → Bare p kept s ⊎ There p kept s
look p kept s h = go (placed p kept)
  where
    go : ((position p kept ≡ None) × (filter p kept ≡ [])) ⊎ Placed p kept → Bare p kept s ⊎ There p kept s
    go (inl none) = let b = subst (Stands s) none.1 h in inl (none.0, none.1, b.0, b.1)
    go (inr r) =
        let all : filter p kept ≡ r.k ∷ filter p r.after = ap (filter p) r.form ∙ taken p r.before r.k r.after r.none r.hit in
        let o = only s r.k (filter p r.after) (subst (Stands s) all h) in
        inr (record { r = r; is = ap (λ (xs : List SentMessage). kept_at xs (length r.before)) r.form ∙ middle_get r.before r.k r.after; alone = o.0; stands = o.1 })

-- with another slot
pub marked : (p : SentMessage → Bool) → Blind p → (kept : List SentMessage) (s t : State) (to : LinkState) (k : There p kept s) → StandsOne t to k.r.k.message → Stands t (filter p (with_kept_slot kept (length k.r.before) to))
marked p blind kept s t to k e =
    let r = k.r in
    let new : SentMessage = record r.k { slot = to } in
    let form : with_kept_slot kept (length r.before) to ≡ r.before ++ new ∷ r.after =
    ap (λ (y : SentMessage). slice_set kept (length r.before) (record y { slot = to })) k.is
    ∙ ap (λ (xs : List SentMessage). slice_set xs (length r.before) new) r.form
    ∙ middle_set r.before r.k new r.after in
    let b = as_list p kept (with_kept_slot kept (length r.before) to) (r.before ++ new ∷ r.after) (new ∷ filter p r.after) form (replaced p kept r new (blind r.k to r.hit)) in
    subst (Stands t) (sym (b.own ∙ ap (λ (xs : List SentMessage). new ∷ xs) k.alone)) e

pub removed : (p : SentMessage → Bool) (kept : List SentMessage) (s t : State) (k : There p kept s) → t.p ≡ Clear → t.fresh ≡ true → Stands t (filter p (remove kept (length k.r.before)))
removed p kept s t k c f =
    let r = k.r in
    let b = as_list p kept (remove kept (length r.before)) (r.before ++ r.after) (filter p r.after) (ap (λ (xs : List SentMessage). remove xs (length r.before)) r.form ∙ middle_remove r.before r.k r.after) (forgotten p kept r) in
    subst (Stands t) (sym (b.own ∙ k.alone)) (c, f)

abbrev pub told : {A : Type 0} → Option A → Bool
told None = false
told (Some x) = true

-- ---- a message is sent

abbrev gone : List Bool → State → State
gone bits s = record s { p = Flying bits; last = bits }

-- by what there was
sent_one : (from : ℕ) (s : State) (bits : List Bool) (on : ℕ) (slot : LinkState) (m : List Bool) (now : List SentMessage) → StandsOne s slot m → ((t : State) → t.p ≡ Flying bits → t.last ≡ bits → Stands t now)
    → Step from s (Sent bits) (told (out_rule slot (same_bits m bits) on)) now
sent_one from s bits on LinkState.Unknown m now h put = absurd h
sent_one from s bits on LinkState.Empty m now h put = absurd h
sent_one from s bits on LinkState.Out m now h put = inr (refl, λ ds g. (subst (λ (p : InFlight). HonestFrom from p (Sent bits ∷ ds)) h.0 g.0))
sent_one from s bits on LinkState.Came m now h put = inr (refl, λ ds g. (subst (λ (p : InFlight). HonestFrom from p (Sent bits ∷ ds)) h g.0))
sent_one from s bits on LinkState.Again m now h put = go (same_bits m bits) refl
  where
    go : (b : Bool) → same_bits m bits ≡ b → Step from s (Sent bits) (told (out_rule LinkState.Again b on)) now
    go true e =
        let is : m ≡ bits = same_is m bits e in
        inl (
          refl,
          gone bits s,
          put (gone bits s) refl refl,
          refl,
          λ ds. (
            λ g. (
              subst (λ (p : InFlight). HonestFrom from p (Sent bits ∷ ds)) h.0 g.0,
              subst (λ (f : Bool). RepeatsFrom bits f ds) (sym h.2) (subst (λ (x : List Bool). RepeatsFrom x false ds) (h.1 ∙ is) (subst (λ (f : Bool). RepeatsFrom s.last f (Sent bits ∷ ds)) h.2 g.1).1),
            ),
            λ g. (
              subst (λ (p : InFlight). HonestFrom from p (Sent bits ∷ ds)) (sym h.0) g.0,
              subst (λ (f : Bool). RepeatsFrom s.last f (Sent bits ∷ ds)) (sym h.2) (sym (h.1 ∙ is), subst (λ (x : List Bool). RepeatsFrom x false ds) (sym (h.1 ∙ is)) (subst (λ (f : Bool). RepeatsFrom bits f ds) h.2 g.1)),
            ),
          ),
        )
    go false e = inr (
      refl,
      λ ds g.
          let r : bits ≡ s.last = (subst (λ (f : Bool). RepeatsFrom s.last f (Sent bits ∷ ds)) h.2 g.1).0 in
          let nay : true ≡ false = sym (ap (same_bits m) (r ∙ h.1) ∙ all_same m) ∙ e in
          absurd (cc),
    )

sent_first : (from : ℕ) (s : State) (bits : List Bool) (now : List SentMessage) → s.p ≡ Clear → s.fresh ≡ true → ((t : State) → t.p ≡ Flying bits → t.last ≡ bits → Stands t now) → Step from s (Sent bits) false now
sent_first from s bits now c f put =
    let t : State = gone bits s in
    inl (
      refl,
      t,
      put t refl refl,
      refl,
      λ ds. (
        λ g. (
          subst (λ (p : InFlight). HonestFrom from p (Sent bits ∷ ds)) c g.0,
          subst (λ (b : Bool). RepeatsFrom bits b ds) (sym f) (subst (λ (b : Bool). RepeatsFrom s.last b (Sent bits ∷ ds)) f g.1),
        ),
        λ g. (
          subst (λ (p : InFlight). HonestFrom from p (Sent bits ∷ ds)) (sym c) g.0,
          subst (λ (b : Bool). RepeatsFrom s.last b (Sent bits ∷ ds)) (sym f) (subst (λ (b : Bool). RepeatsFrom bits b ds) f g.1),
        ),
      ),
    )

pub sent_step : (from to on : ℕ) (s : State) (kept : List SentMessage) (bits : List Bool) → Stands s (filter (is_of from to on) kept) → has_room kept (position_of from to on kept) ≡ true
    → Step from s (Sent bits) (told (out_rule (kept_slot true kept (position_of from to on kept)) (same_at kept (position_of from to on kept) bits) on)) (filter (is_of from to on) (with_out kept (position_of from to on kept) (gone_out from to on bits)))
sent_step from to on s kept bits h room = go (look p kept s h)
  where
    p : SentMessage → Bool
    p = is_of from to on

    x : SentMessage
    x = gone_out from to on bits

    now : List SentMessage
    now = filter p (with_out kept (position p kept) x)

    none_following : (w : ((position p kept ≡ None) × (filter p kept ≡ [])) ⊎ Placed p kept) → behind p kept w ≡ []
    none_following (inl none) = refl
    none_following (inr r) =
        let all : filter p kept ≡ r.k ∷ filter p r.after = ap (filter p) r.form ∙ taken p r.before r.k r.after r.none r.hit in
        (only s r.k (filter p r.after) (subst (Stands s) all h)).0

    put : (t : State) → t.p ≡ Flying bits → t.last ≡ bits → Stands t now
    put t a b =
        let w = placed p kept in
        let o = put_out p kept x w (of_itself from to on bits) room in
        subst (Stands t) (sym (o.own ∙ ap (λ (xs : List SentMessage). x ∷ xs) (none_following w))) (a, b)

    go : Bare p kept s ⊎ There p kept s → Step from s (Sent bits) (told (out_rule (kept_slot true kept (position p kept)) (same_at kept (position p kept) bits) on)) now
    go (inl b) =
        subst (λ (o : Option ℕ). Step from s (Sent bits) (told (out_rule (kept_slot true kept o) (same_at kept o bits) on)) now) (sym b.0)
        (sent_first from s bits now b.2 b.3 put)
    go (inr k) =
        subst (λ (o : Option ℕ). Step from s (Sent bits) (told (out_rule (kept_slot true kept o) (same_at kept o bits) on)) now) (sym k.r.at)
        (subst (λ (y : SentMessage). Step from s (Sent bits) (told (out_rule y.slot (same_bits y.message bits) on)) now) (sym k.is)
        (sent_one from s bits on k.r.k.slot k.r.k.message now k.stands put))

-- ---- a message comes

come_one : (from to on : ℕ) (s : State) (kept : List SentMessage) (bits : List Bool) (k : There (is_of from to on) kept s) → 32 ≤ length bits → (leader_at bits).host ≡ from → (slot : LinkState) → StandsOne s slot k.r.k.message
    → Step from s (Arrives bits) (told (unsent_why slot (same_but_host k.r.k.message bits))) (filter (is_of from to on) (if is_slot_out slot then with_kept_slot kept (length k.r.before) LinkState.Came else kept))
come_one from to on s kept bits k long is LinkState.Unknown h = absurd h
come_one from to on s kept bits k long is LinkState.Empty h = absurd h
come_one from to on s kept bits k long is LinkState.Came h = inr (refl, λ ds g. (subst (λ (p : InFlight). HonestFrom from p (Arrives bits ∷ ds)) h g.0))
come_one from to on s kept bits k long is LinkState.Again h = inr (refl, λ ds g. (subst (λ (p : InFlight). HonestFrom from p (Arrives bits ∷ ds)) h.0 g.0))
come_one from to on s kept bits k long is LinkState.Out h = go (same_but_host m bits) refl
  where
    m : List Bool
    m = k.r.k.message

    t : State
    t = record s { p = Landed }

    passed : (f : Bool) (ds : List MessageEvent) → (RepeatsFrom s.last f (Arrives bits ∷ ds) → RepeatsFrom s.last f ds) × (RepeatsFrom s.last f ds → RepeatsFrom s.last f (Arrives bits ∷ ds))
    passed true ds = (λ x. x, λ x. x)
    passed false ds = (λ x. x, λ x. x)

    go : (b : Bool) → same_but_host m bits ≡ b → Step from s (Arrives bits) (told (unsent_why LinkState.Out b)) (filter (is_of from to on) (with_kept_slot kept (length k.r.before) LinkState.Came))
    go true e = inl (
      refl,
      t,
      marked (is_of from to on) (λ x y z. z) kept s t LinkState.Came k refl,
      refl,
      λ ds. (
        λ g. ((subst (λ (p : InFlight). HonestFrom from p (Arrives bits ∷ ds)) h.0 g.0).1, (passed s.fresh ds).0 g.1),
        λ g. (subst (λ (p : InFlight). HonestFrom from p (Arrives bits ∷ ds)) (sym h.0) (from_as from m bits long is e, g.0), (passed s.fresh ds).1 g.1),
      ),
    )
    go false e = inr (
      refl,
      λ ds g.
          let r : bits ≡ from_host from m = (subst (λ (p : InFlight). HonestFrom from p (Arrives bits ∷ ds)) h.0 g.0).0 in
          let nay : true ≡ false = sym (from_near from m bits long r) ∙ e in
          absurd (cc),
    )

pub come_step : (from to on : ℕ) (s : State) (kept : List SentMessage) (bits : List Bool) → Stands s (filter (is_of from to on) kept) → 32 ≤ length bits → (leader_at bits).host ≡ from
    → Step from s (Arrives bits) (told (unsent_why (kept_slot true kept (position_of from to on kept)) (same_but_host_at kept (position_of from to on kept) bits))) (filter (is_of from to on) (with_coming kept (position_of from to on kept)))
come_step from to on s kept bits h long is = go (look p kept s h)
  where
    p : SentMessage → Bool
    p = is_of from to on

    go : Bare p kept s ⊎ There p kept s → Step from s (Arrives bits) (told (unsent_why (kept_slot true kept (position p kept)) (same_but_host_at kept (position p kept) bits))) (filter p (with_coming kept (position p kept)))
    go (inl b) =
        subst (λ (o : Option ℕ). Step from s (Arrives bits) (told (unsent_why (kept_slot true kept o) (same_but_host_at kept o bits))) (filter p (with_coming kept o))) (sym b.0)
        (inr (refl, λ ds g. (subst (λ (q : InFlight). HonestFrom from q (Arrives bits ∷ ds)) b.2 g.0)))
    go (inr k) =
        subst (λ (o : Option ℕ). Step from s (Arrives bits) (told (unsent_why (kept_slot true kept o) (same_but_host_at kept o bits))) (filter p (with_coming kept o))) (sym k.r.at)
        (subst (λ (y : SentMessage). Step from s (Arrives bits) (told (unsent_why y.slot (same_but_host y.message bits))) (filter p (if is_slot_out y.slot then with_kept_slot kept (length k.r.before) LinkState.Came else kept))) (sym k.is)
        (come_one from to on s kept bits k long is k.r.k.slot k.stands))

-- ---- an answer comes

abbrev pub either : Bool → Bool → Bool
either true b = true
either false b = b

abbrev pub answer_event : Bool → MessageEvent
answer_event ready = if ready then Acked else Nacked

abbrev pub found_answer : LinkState → ℕ → ℕ → ℕ → Bool
found_answer slot kind host link = either (told (false_rule slot kind host link)) (told (stray_rule slot kind link))

taken_repeats : (s : State) (ds : List MessageEvent) → (RepeatsFrom s.last s.fresh (Acked ∷ ds) → RepeatsFrom s.last true ds) × (RepeatsFrom s.last true ds → RepeatsFrom s.last s.fresh (Acked ∷ ds))
taken_repeats s ds = go s.fresh
  where
    go : (f : Bool) → (RepeatsFrom s.last f (Acked ∷ ds) → RepeatsFrom s.last true ds) × (RepeatsFrom s.last true ds → RepeatsFrom s.last f (Acked ∷ ds))
    go true = (λ x. x, λ x. x)
    go false = (λ x. x, λ x. x)

refused_repeats : (s : State) (ds : List MessageEvent) → (RepeatsFrom s.last s.fresh (Nacked ∷ ds) → RepeatsFrom s.last false ds) × (RepeatsFrom s.last false ds → RepeatsFrom s.last s.fresh (Nacked ∷ ds))
refused_repeats s ds = go s.fresh
  where
    go : (f : Bool) → (RepeatsFrom s.last f (Nacked ∷ ds) → RepeatsFrom s.last false ds) × (RepeatsFrom s.last false ds → RepeatsFrom s.last f (Nacked ∷ ds))
    go true = (λ x. x, λ x. x)
    go false = (λ x. x, λ x. x)

answer_one : (from to on kind host : ℕ) (s : State) (kept : List SentMessage) (k : There (is_of from to on) kept s) (slot : LinkState) → StandsOne s slot k.r.k.message → (ready : Bool) → (kind == 5) ≡ ready
    → Step from s (answer_event ready) (found_answer slot kind host on)
    (filter (is_of from to on) (if not (is_slot_out slot) then kept else if ready then remove kept (length k.r.before) else with_kept_slot kept (length k.r.before) LinkState.Again))
answer_one from to on kind host s kept k LinkState.Unknown h ready e = absurd h
answer_one from to on kind host s kept k LinkState.Empty h ready e = absurd h
answer_one from to on kind host s kept k LinkState.Again h true e = inr (refl, λ ds g. (subst (λ (p : InFlight). HonestFrom from p (Acked ∷ ds)) h.0 g.0))
answer_one from to on kind host s kept k LinkState.Again h false e = inr (refl, λ ds g. (subst (λ (p : InFlight). HonestFrom from p (Nacked ∷ ds)) h.0 g.0))
answer_one from to on kind host s kept k LinkState.Out h true e = inr (
  ap (λ (b : Bool). either (told (if b then Some (Rule.FalseAnswer kind host on false) else None)) false) e,
  λ ds g. (subst (λ (p : InFlight). HonestFrom from p (Acked ∷ ds)) h.0 g.0),
)
answer_one from to on kind host s kept k LinkState.Out h false e =
    let t : State = record { p = Clear; last = s.last; fresh = false } in
    inl (
      ap (λ (b : Bool). either (told (if b then Some (Rule.FalseAnswer kind host on false) else None)) false) e,
      t,
      marked (is_of from to on) (λ x y z. z) kept s t LinkState.Again k (refl, h.1, refl),
      refl,
      λ ds. (
        λ g. (subst (λ (p : InFlight). HonestFrom from p (Nacked ∷ ds)) h.0 g.0, (refused_repeats s ds).0 g.1),
        λ g. (subst (λ (p : InFlight). HonestFrom from p (Nacked ∷ ds)) (sym h.0) g.0, (refused_repeats s ds).1 g.1),
      ),
    )
answer_one from to on kind host s kept k LinkState.Came h true e =
    let t : State = record { p = Clear; last = s.last; fresh = true } in
    inl (
      ap (λ (b : Bool). either (told (if b then None else Some (Rule.FalseAnswer kind host on true))) false) e,
      t,
      removed (is_of from to on) kept s t k refl refl,
      refl,
      λ ds. (
        λ g. (subst (λ (p : InFlight). HonestFrom from p (Acked ∷ ds)) h g.0, (taken_repeats s ds).0 g.1),
        λ g. (subst (λ (p : InFlight). HonestFrom from p (Acked ∷ ds)) (sym h) g.0, (taken_repeats s ds).1 g.1),
      ),
    )
answer_one from to on kind host s kept k LinkState.Came h false e = inr (
  ap (λ (b : Bool). either (told (if b then None else Some (Rule.FalseAnswer kind host on true))) false) e,
  λ ds g. (subst (λ (p : InFlight). HonestFrom from p (Nacked ∷ ds)) h g.0),
)

pub answer_step : (from to on kind host : ℕ) (s : State) (kept : List SentMessage) → Stands s (filter (is_of from to on) kept)
    → Step from s (answer_event (kind == 5)) (found_answer (kept_slot true kept (position_of from to on kept)) kind host on) (filter (is_of from to on) (with_answer true kind kept (position_of from to on kept)))
answer_step from to on kind host s kept h = go (look p kept s h)
  where
    p : SentMessage → Bool
    p = is_of from to on

    nay : (ready : Bool) (ds : List MessageEvent) → HonestFrom from Clear (answer_event ready ∷ ds) → ⊥
    nay true ds g = g
    nay false ds g = g

    go : Bare p kept s ⊎ There p kept s → Step from s (answer_event (kind == 5)) (found_answer (kept_slot true kept (position p kept)) kind host on) (filter p (with_answer true kind kept (position p kept)))
    go (inl b) =
        subst (λ (o : Option ℕ). Step from s (answer_event (kind == 5)) (found_answer (kept_slot true kept o) kind host on) (filter p (with_answer true kind kept o))) (sym b.0)
        (inr (refl, λ ds g. nay (kind == 5) ds (subst (λ (q : InFlight). HonestFrom from q (answer_event (kind == 5) ∷ ds)) b.2 g.0)))
    go (inr k) =
        subst (λ (o : Option ℕ). Step from s (answer_event (kind == 5)) (found_answer (kept_slot true kept o) kind host on) (filter p (with_answer true kind kept o))) (sym k.r.at)
        (subst (λ (y : SentMessage). Step from s (answer_event (kind == 5)) (found_answer y.slot kind host on) (filter p (if not (is_slot_out y.slot) then kept else if kind == 5 then remove kept (length k.r.before) else with_kept_slot kept (length k.r.before) LinkState.Again))) (sym k.is)
        (answer_one from to on kind host s kept k k.r.k.slot k.stands (kind == 5) refl))

-- if no message has arrived, an answer that acknowledges one is impossible
pub taken_nay : (from : ℕ) (s : State) (ds : List MessageEvent) → (s.p ≡ Landed → ⊥) → Good from s (Acked ∷ ds) → ⊥
taken_nay from s ds h g = go s.p refl g.0
  where
    go : (p : InFlight) → s.p ≡ p → HonestFrom from p (Acked ∷ ds) → ⊥
    go Clear e k = k
    go (Flying m) e k = k
    go Landed e k = h e

pub comes_nay : (from : ℕ) (s : State) (m : List Bool) (ds : List MessageEvent) → s.p ≡ Clear → Good from s (Arrives m ∷ ds) → ⊥
comes_nay from s m ds e g = subst (λ (p : InFlight). HonestFrom from p (Arrives m ∷ ds)) e g.0

-- for any other, the slot decides
pub unlanded_answer : (from to on kind host : ℕ) (s : State) (kept : List SentMessage) → Stands s (filter (is_of from to on) kept) → (s.p ≡ Landed → ⊥) → (kind == 5) ≡ false
    → told (false_rule (kept_slot true kept (position_of from to on kept)) kind host on) ≡ false
unlanded_answer from to on kind host s kept h nay e = go (look p kept s h)
  where
    p : SentMessage → Bool
    p = is_of from to on

    by : (slot : LinkState) (m : List Bool) → StandsOne s slot m → told (false_rule slot kind host on) ≡ false
    by LinkState.Unknown m k = absurd k
    by LinkState.Empty m k = absurd k
    by LinkState.Out m k = ap (λ (b : Bool). told (if b then Some (Rule.FalseAnswer kind host on false) else None)) e
    by LinkState.Came m k = absurd (nay k)
    by LinkState.Again m k = refl

    go : Bare p kept s ⊎ There p kept s → told (false_rule (kept_slot true kept (position p kept)) kind host on) ≡ false
    go (inl b) = ap (λ (o : Option ℕ). told (false_rule (kept_slot true kept o) kind host on)) b.0
    go (inr k) = ap (λ (o : Option ℕ). told (false_rule (kept_slot true kept o) kind host on)) k.r.at ∙ ap (λ (y : SentMessage). told (false_rule y.slot kind host on)) k.is ∙ by k.r.k.slot k.r.k.message k.stands
