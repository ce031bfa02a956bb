-- The state kept for a link shows its slot: empty, an unacknowledged message, or one to be sent again.
use Rattle.std.proofs.Common.{◌≡◌, ◌⊎◌, inl, inr, ℕ, ◌==◌, Bool, true, false, not, ◌&&◌, if◌then◌else◌, List, [], ◌∷◌, ◌++◌, length, Option, None, Some, position, remove, filter, slice_set, refl, sym, ap, ◌∙◌, subst}
use Rattle.std.proofs.lemmas.Bool.Decides.{eqb_tells}
use Rattle.ncp_wire.specs.declared.answer.Answer.{Answer}
use Rattle.ncp_wire.specs.declared.answer.Answer.TheVariants.{Rfnm, Incomplete, Dead}
use Rattle.ncp_slot.specs.declared.slot.Slot.TheVariants.{Empty, Held, Ready, Travelling}
use Rattle.ncp_slot.specs.Slot.{answered, woken}
use Rattle.ncp_slot.specs.Slots.{LinkSlot}
use Rattle.ncp_model.specs.Peers.{Peer}
use Rattle.ncp_peer.specs.Output.{output_by}
use Rattle.ncp_interface.specs.declared.sent_message.SentMessage.{SentMessage}
use Rattle.ncp_interface.specs.declared.sent_message.LinkState.{LinkState}
use Rattle.ncp_interface.specs.Slots.{is_of, same_bits, position_of, kept_at, kept_slot, same_at, gone_out, has_room, with_out, with_kept_slot, with_answered, is_slot_out, with_answer}
use Rattle.ncp_monitor.specs.Judged.{out_rule, with_coming}
use Rattle.ncp_proof_monitor.proofs.KeptOne.{middle_set, middle_get, middle_remove, Placed, placed, taken, Apart, Became, replaced, forgotten, as_list, behind, put_out}

abbrev pub ShowsOne : LinkState → List Bool → LinkSlot → Type 0
ShowsOne LinkState.Unknown message s = ⊥
ShowsOne LinkState.Empty message s = s ≡ Empty
ShowsOne LinkState.Out message s = s ≡ Travelling message
ShowsOne LinkState.Came message s = s ≡ Travelling message
ShowsOne LinkState.Again message s = (s ≡ Ready message) ⊎ (s ≡ Held message)

abbrev pub Shows : List SentMessage → LinkSlot → Type 0
Shows [] s = s ≡ Empty
Shows (k ∷ []) s = ShowsOne k.slot k.message s
Shows (k ∷ other ∷ more) s = ⊥

pub only : (k : SentMessage) (rest : List SentMessage) (s : LinkSlot) → Shows (k ∷ rest) s → (rest ≡ []) × ShowsOne k.slot k.message s
only k [] s h = (refl, h)
only k (other ∷ more) s h = absurd h

-- ---- one link

pub of_itself : (me n on : ℕ) (bits : List Bool) → is_of me n on (gone_out me n on bits) ≡ true
of_itself me n on bits = ap (λ (b : Bool). b && n == n && on == on) (same me) ∙ ap (λ (b : Bool). b && on == on) (same n) ∙ same on
  where
    same : (i : ℕ) → (i == i) ≡ true
    same i = elim (eqb_tells i i) [
      | inl one_is ↦ one_is.0
      | inr nay ↦ absurd (nay.1 refl)
    ]

pub all_same : (bits : List Bool) → same_bits bits bits ≡ true
all_same [] = refl
all_same (true ∷ bits) = all_same bits
all_same (false ∷ bits) = all_same bits

-- ---- a message is sent

pub allowed : (p : SentMessage → Bool) (known : Bool) (kept : List SentMessage) (s : LinkSlot) (n on : ℕ) (peer : Peer) (bits : List Bool) → Shows (filter p kept) s → output_by s n on peer ≡ Some bits
    → out_rule (kept_slot known kept (position p kept)) (same_at kept (position p kept) bits) on ≡ None
allowed p known kept s n on peer bits h ready = go (placed p kept)
  where
    free : (k : Bool) (same : Bool) → out_rule (if k then LinkState.Empty else LinkState.Unknown) same on ≡ None
    free true same = refl
    free false same = refl

    alike : (m : List Bool) → Some m ≡ Some bits → same_bits m bits ≡ true
    alike m e = let is : m ≡ bits = cc in ap (λ (xs : List Bool). same_bits xs bits) is ∙ all_same bits

    one : (k : LinkState) (m : List Bool) → ShowsOne k m s → out_rule k (same_bits m bits) on ≡ None
    one LinkState.Unknown m e = absurd e
    one LinkState.Empty m e = refl
    one LinkState.Out m e = let nay : None ≡ Some bits = ap (λ (x : LinkSlot). output_by x n on peer) (sym e) ∙ ready in absurd (cc)
    one LinkState.Came m e = let nay : None ≡ Some bits = ap (λ (x : LinkSlot). output_by x n on peer) (sym e) ∙ ready in absurd (cc)
    one LinkState.Again m (inl e) = ap (λ (b : Bool). out_rule LinkState.Again b on) (alike m (ap (λ (x : LinkSlot). output_by x n on peer) (sym e) ∙ ready))
    one LinkState.Again m (inr e) = let nay : None ≡ Some bits = ap (λ (x : LinkSlot). output_by x n on peer) (sym e) ∙ ready in absurd (cc)

    go : ((position p kept ≡ None) × (filter p kept ≡ [])) ⊎ Placed p kept → out_rule (kept_slot known kept (position p kept)) (same_at kept (position p kept) bits) on ≡ None
    go (inl none) = ap (λ (o : Option ℕ). out_rule (kept_slot known kept o) (same_at kept o bits) on) none.0 ∙ free known false
    go (inr r) =
        let is : kept_at kept (length r.before) ≡ r.k = ap (λ (xs : List SentMessage). kept_at xs (length r.before)) r.form ∙ middle_get r.before r.k r.after in
        let all : filter p kept ≡ r.k ∷ filter p r.after = ap (filter p) r.form ∙ taken p r.before r.k r.after r.none r.hit in
        ap (λ (o : Option ℕ). out_rule (kept_slot known kept o) (same_at kept o bits) on) r.at
        ∙ ap (λ (k : SentMessage). out_rule k.slot (same_bits k.message bits) on) is
        ∙ one r.k.slot r.k.message (only r.k (filter p r.after) s (subst (λ (xs : List SentMessage). Shows xs s) all h)).1

pub record After (p : SentMessage → Bool) (kept now : List SentMessage) (s : LinkSlot) : Type 0 where
  pub others : (q : SentMessage → Bool) → Apart p q → filter q now ≡ filter q kept
  pub shown : Shows (filter p now) s

pub after_going : (me n on : ℕ) (kept : List SentMessage) (s : LinkSlot) (bits : List Bool) → Shows (filter (is_of me n on) kept) s → has_room kept (position_of me n on kept) ≡ true
    → After (is_of me n on) kept (with_out kept (position_of me n on kept) (gone_out me n on bits)) (Travelling bits)
after_going me n on kept s bits h room = go (placed p kept)
  where
    p : SentMessage → Bool
    p = is_of me n on

    x : SentMessage
    x = gone_out me n on bits

    none_following : (w : ((position p kept ≡ None) × (filter p kept ≡ [])) ⊎ Placed p kept) → behind p kept w ≡ []
    none_following (inl none) = refl
    none_following (inr r) =
        let all : filter p kept ≡ r.k ∷ filter p r.after = ap (filter p) r.form ∙ taken p r.before r.k r.after r.none r.hit in
        (only r.k (filter p r.after) s (subst (λ (xs : List SentMessage). Shows xs s) all h)).0

    go : ((position p kept ≡ None) × (filter p kept ≡ [])) ⊎ Placed p kept → After p kept (with_out kept (position p kept) x) (Travelling bits)
    go w =
        let b = put_out p kept x w (of_itself me n on bits) room in
        record {
          others = b.others;
          shown = subst (λ (xs : List SentMessage). Shows xs (Travelling bits)) (sym (b.own ∙ ap (λ (xs : List SentMessage). x ∷ xs) (none_following w))) refl;
        }

-- ---- an answer comes

-- as the type of the answer says
abbrev pub how_of : ℕ → Answer
how_of kind = if kind == 5 then Rfnm else if kind == 7 then Dead else Incomplete

pub after_answering : (me n on : ℕ) (known : Bool) (kind : ℕ) (kept : List SentMessage)
    → ((q : SentMessage → Bool) → Apart (is_of me n on) q → filter q (with_answer known kind kept (position_of me n on kept)) ≡ filter q kept)
    × ((s : LinkSlot) → Shows (filter (is_of me n on) kept) s → Shows (filter (is_of me n on) (with_answer known kind kept (position_of me n on kept))) (answered (how_of kind) s))
after_answering me n on known kind kept = go (placed p kept)
  where
    p : SentMessage → Bool
    p = is_of me n on

    Done : List SentMessage → Type 0
    Done now = ((q : SentMessage → Bool) → Apart p q → filter q now ≡ filter q kept) × ((s : LinkSlot) → Shows (filter p kept) s → Shows (filter p now) (answered (how_of kind) s))

    empty_stays : (how : Answer) → answered {M = List Bool} how Empty ≡ Empty
    empty_stays Rfnm = refl
    empty_stays Incomplete = refl
    empty_stays Dead = refl

    ready_stays : (how : Answer) (m : List Bool) → answered how (Ready m) ≡ Ready m
    ready_stays Rfnm m = refl
    ready_stays Incomplete m = refl
    ready_stays Dead m = refl

    held_stays : (how : Answer) (m : List Bool) → answered how (Held m) ≡ Held m
    held_stays Rfnm m = refl
    held_stays Incomplete m = refl
    held_stays Dead m = refl

    -- what is not out
    suspended : (k : LinkState) (m : List Bool) (s : LinkSlot) → is_slot_out k ≡ false → ShowsOne k m s → ShowsOne k m (answered (how_of kind) s)
    suspended LinkState.Unknown m s o e = absurd e
    suspended LinkState.Empty m s o e = ap (answered (how_of kind)) e ∙ empty_stays (how_of kind)
    suspended LinkState.Out m s o e = absurd (cc)
    suspended LinkState.Came m s o e = absurd (cc)
    suspended LinkState.Again m s o (inl e) = inl (ap (answered (how_of kind)) e ∙ ready_stays (how_of kind) m)
    suspended LinkState.Again m s o (inr e) = inr (ap (answered (how_of kind)) e ∙ held_stays (how_of kind) m)

    -- an unacknowledged message
    out_is : (k : LinkState) (m : List Bool) (s : LinkSlot) → is_slot_out k ≡ true → ShowsOne k m s → s ≡ Travelling m
    out_is LinkState.Unknown m s o e = absurd e
    out_is LinkState.Empty m s o e = absurd (cc)
    out_is LinkState.Out m s o e = e
    out_is LinkState.Came m s o e = e
    out_is LinkState.Again m s o e = absurd (cc)

    freed : (m : List Bool) (s : LinkSlot) → (kind == 5) ≡ true → s ≡ Travelling m → answered (how_of kind) s ≡ Empty
    freed m s g e = ap (answered (how_of kind)) e ∙ ap (λ (b : Bool). answered (if b then Rfnm else if kind == 7 then Dead else Incomplete) (Travelling m)) g

    failed : (m : List Bool) (s : LinkSlot) → (kind == 5) ≡ false → s ≡ Travelling m → (answered (how_of kind) s ≡ Ready m) ⊎ (answered (how_of kind) s ≡ Held m)
    failed m s g e = by (kind == 7) refl
      where
        is : (b : Bool) → (kind == 7) ≡ b → answered (how_of kind) s ≡ answered (if b then Dead else Incomplete) (Travelling m)
        is b d = ap (answered (how_of kind)) e ∙ ap (λ (c : Bool). answered (if c then Rfnm else if kind == 7 then Dead else Incomplete) (Travelling m)) g
            ∙ ap (λ (c : Bool). answered (if c then Dead else Incomplete) (Travelling m)) d

        by : (b : Bool) → (kind == 7) ≡ b → (answered (how_of kind) s ≡ Ready m) ⊎ (answered (how_of kind) s ≡ Held m)
        by true d = inr (is true d)
        by false d = inl (is false d)

    place_done : (r : Placed p kept) (out rfnm know : Bool) → is_slot_out r.k.slot ≡ out → (kind == 5) ≡ rfnm
        → Done (if not out then kept else if rfnm then (if know then remove kept (length r.before) else with_kept_slot kept (length r.before) LinkState.Empty) else with_kept_slot kept (length r.before) LinkState.Again)
    place_done r out rfnm know o g = by out rfnm know o g
      where
        all : filter p kept ≡ r.k ∷ filter p r.after
        all = ap (filter p) r.form ∙ taken p r.before r.k r.after r.none r.hit

        shows : (s : LinkSlot) → Shows (filter p kept) s → (filter p r.after ≡ []) × ShowsOne r.k.slot r.k.message s
        shows s h = only r.k (filter p r.after) s (subst (λ (xs : List SentMessage). Shows xs s) all h)

        marked : (to : LinkState) → with_kept_slot kept (length r.before) to ≡ r.before ++ record r.k { slot = to } ∷ r.after
        marked to =
            ap (λ (xs : List SentMessage). slice_set xs (length r.before) (record (kept_at xs (length r.before)) { slot = to })) r.form
            ∙ ap (λ (k : SentMessage). slice_set (r.before ++ r.k ∷ r.after) (length r.before) (record k { slot = to })) (middle_get r.before r.k r.after)
            ∙ middle_set r.before r.k (record r.k { slot = to }) r.after

        became : (to : LinkState) → Became p kept (with_kept_slot kept (length r.before) to) (record r.k { slot = to } ∷ filter p r.after)
        became to = as_list p kept (with_kept_slot kept (length r.before) to) (r.before ++ record r.k { slot = to } ∷ r.after) (record r.k { slot = to } ∷ filter p r.after) (marked to) (replaced p kept r (record r.k { slot = to }) r.hit)

        by : (out rfnm know : Bool) → is_slot_out r.k.slot ≡ out → (kind == 5) ≡ rfnm
            → Done (if not out then kept else if rfnm then (if know then remove kept (length r.before) else with_kept_slot kept (length r.before) LinkState.Empty) else with_kept_slot kept (length r.before) LinkState.Again)
        by false rfnm know o g = (
          λ q a. refl,
          λ s h. let w = shows s h in
              subst (λ (xs : List SentMessage). Shows xs (answered (how_of kind) s)) (sym (all ∙ ap (λ (xs : List SentMessage). r.k ∷ xs) w.0)) (suspended r.k.slot r.k.message s o w.1),
        )
        by true true true o g =
            let b = as_list p kept (remove kept (length r.before)) (r.before ++ r.after) (filter p r.after) (ap (λ (xs : List SentMessage). remove xs (length r.before)) r.form ∙ middle_remove r.before r.k r.after) (forgotten p kept r) in (
              b.others,
              λ s h. let w = shows s h in
                  subst (λ (xs : List SentMessage). Shows xs (answered (how_of kind) s)) (sym (b.own ∙ w.0)) (freed r.k.message s g (out_is r.k.slot r.k.message s o w.1)),
            )
        by true true false o g =
            let b = became LinkState.Empty in (
              b.others,
              λ s h. let w = shows s h in
                  subst (λ (xs : List SentMessage). Shows xs (answered (how_of kind) s)) (sym (b.own ∙ ap (λ (xs : List SentMessage). record r.k { slot = LinkState.Empty } ∷ xs) w.0)) (freed r.k.message s g (out_is r.k.slot r.k.message s o w.1)),
            )
        by true false know o g =
            let b = became LinkState.Again in (
              b.others,
              λ s h. let w = shows s h in
                  subst (λ (xs : List SentMessage). Shows xs (answered (how_of kind) s)) (sym (b.own ∙ ap (λ (xs : List SentMessage). record r.k { slot = LinkState.Again } ∷ xs) w.0)) (failed r.k.message s g (out_is r.k.slot r.k.message s o w.1)),
            )

    go : ((position p kept ≡ None) × (filter p kept ≡ [])) ⊎ Placed p kept → Done (with_answer known kind kept (position p kept))
    go (inl none) =
        subst (λ (o : Option ℕ). Done (with_answer known kind kept o)) (sym none.0) (
          λ q a. refl,
          λ s h. let e : s ≡ Empty = subst (λ (xs : List SentMessage). Shows xs s) none.1 h in
              subst (λ (xs : List SentMessage). Shows xs (answered (how_of kind) s)) (sym none.1) (ap (answered (how_of kind)) e ∙ empty_stays (how_of kind)),
        )
    go (inr r) =
        let is : r.k ≡ kept_at kept (length r.before) = sym (ap (λ (xs : List SentMessage). kept_at xs (length r.before)) r.form ∙ middle_get r.before r.k r.after) in
        subst (λ (o : Option ℕ). Done (with_answer known kind kept o)) (sym r.at)
        (subst (λ (k : SentMessage). Done (if not (is_slot_out k.slot) then kept else if kind == 5 then with_answered known kept (length r.before) else with_kept_slot kept (length r.before) LinkState.Again)) is
        (place_done r (is_slot_out r.k.slot) (kind == 5) known refl refl))

-- ---- an unacknowledged message arrives at the other host

pub after_coming : (from to on : ℕ) (kept : List SentMessage)
    → ((q : SentMessage → Bool) → Apart (is_of from to on) q → filter q (with_coming kept (position_of from to on kept)) ≡ filter q kept)
    × ((s : LinkSlot) → Shows (filter (is_of from to on) kept) s → Shows (filter (is_of from to on) (with_coming kept (position_of from to on kept))) s)
after_coming from to on kept = go (placed p kept)
  where
    p : SentMessage → Bool
    p = is_of from to on

    Done : List SentMessage → Type 0
    Done now = ((q : SentMessage → Bool) → Apart p q → filter q now ≡ filter q kept) × ((s : LinkSlot) → Shows (filter p kept) s → Shows (filter p now) s)

    came : (k : LinkState) (m : List Bool) (s : LinkSlot) → is_slot_out k ≡ true → ShowsOne k m s → ShowsOne LinkState.Came m s
    came LinkState.Unknown m s o e = absurd e
    came LinkState.Empty m s o e = absurd (cc)
    came LinkState.Out m s o e = e
    came LinkState.Came m s o e = e
    came LinkState.Again m s o e = absurd (cc)

    place_done : (r : Placed p kept) (out : Bool) → is_slot_out r.k.slot ≡ out → Done (if out then with_kept_slot kept (length r.before) LinkState.Came else kept)
    place_done r false o = (λ q a. refl, λ s h. h)
    place_done r true o =
        let new : SentMessage = record r.k { slot = LinkState.Came } in
        let marked : with_kept_slot kept (length r.before) LinkState.Came ≡ r.before ++ new ∷ r.after =
        ap (λ (xs : List SentMessage). slice_set xs (length r.before) (record (kept_at xs (length r.before)) { slot = LinkState.Came })) r.form
        ∙ ap (λ (k : SentMessage). slice_set (r.before ++ r.k ∷ r.after) (length r.before) (record k { slot = LinkState.Came })) (middle_get r.before r.k r.after)
        ∙ middle_set r.before r.k new r.after in
        let b = as_list p kept (with_kept_slot kept (length r.before) LinkState.Came) (r.before ++ new ∷ r.after) (new ∷ filter p r.after) marked (replaced p kept r new r.hit) in
        let all : filter p kept ≡ r.k ∷ filter p r.after = ap (filter p) r.form ∙ taken p r.before r.k r.after r.none r.hit in (
          b.others,
          λ s h. let w = only r.k (filter p r.after) s (subst (λ (xs : List SentMessage). Shows xs s) all h) in
              subst (λ (xs : List SentMessage). Shows xs s) (sym (b.own ∙ ap (λ (xs : List SentMessage). new ∷ xs) w.0)) (came r.k.slot r.k.message s o w.1),
        )

    go : ((position p kept ≡ None) × (filter p kept ≡ [])) ⊎ Placed p kept → Done (with_coming kept (position p kept))
    go (inl none) = subst (λ (o : Option ℕ). Done (with_coming kept o)) (sym none.0) (λ q a. refl, λ s h. h)
    go (inr r) =
        let is : r.k ≡ kept_at kept (length r.before) = sym (ap (λ (xs : List SentMessage). kept_at xs (length r.before)) r.form ∙ middle_get r.before r.k r.after) in
        subst (λ (o : Option ℕ). Done (with_coming kept o)) (sym r.at)
        (subst (λ (k : SentMessage). Done (if is_slot_out k.slot then with_kept_slot kept (length r.before) LinkState.Came else kept)) is (place_done r (is_slot_out r.k.slot) refl))

-- ---- a wake

pub after_waking : (kept : List SentMessage) (s : LinkSlot) → Shows kept s → Shows kept (woken s)
after_waking [] s e = ap woken e
after_waking (k ∷ []) s e = one k.slot e
  where
    one : (x : LinkState) → ShowsOne x k.message s → ShowsOne x k.message (woken s)
    one LinkState.Unknown e = absurd e
    one LinkState.Empty e = ap woken e
    one LinkState.Out e = ap woken e
    one LinkState.Came e = ap woken e
    one LinkState.Again (inl e) = inl (ap woken e)
    one LinkState.Again (inr e) = inl (ap woken e)
after_waking (k ∷ other ∷ more) s e = absurd e
