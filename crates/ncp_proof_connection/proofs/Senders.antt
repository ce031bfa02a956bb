-- Meant for other crates too: they cite what is public here.
--
-- What is done at the sender's end keeps what the ends have in common.
use Rattle.std.proofs.Common.{◌≡◌, ℕ, ◌+◌, ◌-◌, ◌≤◌, Bool, true, false, ◌||◌, ◌==◌, min, List, [], ◌∷◌, ◌++◌, length, take, drop, refl, ap, sym, ◌∙◌, subst, arith, append_assoc}
use Rattle.std.proofs.lemmas.Bool.{both_ways, or_parts}
use Rattle.std.proofs.lemmas.List.{take-append-drop, length-take-le}
use Rattle.ncp_wire.specs.declared.command.Command.{Command}
use Rattle.ncp_wire.specs.declared.command.Command.TheVariants.{Rts, Str, Cls, All, Gvb, Ret, Inr, Ins}
use Rattle.ncp_model.specs.declared.limits.TheConstants.{MAX_COUNT}
use Rattle.ncp_model.specs.Effect.{met, leaves, is_data_link}
use Rattle.ncp_model.specs.Amounts.{back}
use Rattle.ncp_model.proofs.AmountParts.{granted_messages, granted_bits, returned_messages, returned_bits}
use Rattle.ncp_model.specs.Calls.{asked_to_send}
use Rattle.ncp_model.specs.Endpoint.{Endpoint, new_end, is_closing}
use Rattle.ncp_proof_connection.specs.Connections.{Text, No_text, Away, Here}
use Rattle.ncp_proof_connection.specs.Ledger.{sum_of, text_messages, text_bits, is_text_out}
use Rattle.ncp_proof_connection.proofs.Lines.{Kind, Data, Marks, Same, Ahead, Comes, same_asks, ahead_asks, same_leaves, ahead_leaves, same_ends, same_data, same_number, same_hears_request, after_hears_request, same_close_fits, same_hears_close, same_left_ends, same_replies, after_ends, same_data_fits}
use Rattle.ncp_proof_connection.proofs.Joint.{to_sender_kind, to_receiver_kind, kinds, kinds_more, sum_more, sum_same, sender_marks, receiver_marks, Books, Place, Together, Sender_ahead, Receiver_ahead, Joint, Sized, Core, EndpointInvariant, sender_well, receiver_well, no_text, unasked, unheard, left_not_busy, begun_empty, sized_none}
use Rattle.ncp_proof_connection.proofs.Numbers.{books_as, books_sender, books_going, books_opens, books_new}
use Rattle.ncp_proof_endpoint.specs.Histories.{IsPrefix}

pub going_parts : (e : Endpoint) → is_closing e ≡ false → (e.leaving ≡ false) × (e.left ≡ false)
going_parts e g = or_parts e.leaving e.left g

-- what such a command comes with: the end has opened, and hears its own link
pub record Fits (s : Endpoint) (g : List Bool) (r : Endpoint) (h : List Bool) (p q : List Command) (t : Text) (c : Command) (on : ℕ) : Type 0 where
  pub asked : s.asked ≡ true
  pub heard : s.heard ≡ true
  pub left : s.left ≡ false
  pub opened : s.opened ≡ true
  pub same : Same (sender_marks s) (receiver_marks r) (kinds to_receiver_kind p) (kinds to_sender_kind q)
  pub books : Books s g r h p (c ∷ q) t
  pub link : on ≡ s.link
  pub its : s.link ≡ r.link

-- sums of what nobody who has not opened makes
pub none_granted : (h c : Bool) (x y : ℕ) (q : List Command) (a l : Bool) (n : ℕ) → Comes h c x y (kinds to_sender_kind q) a false l n
    → (sum_of granted_messages q ≡ 0) × (sum_of granted_bits q ≡ 0)
none_granted h c x y [] a l n k = (refl, refl)
none_granted h c x y (Rts i j on ∷ q) a l n k = (let z = none_granted true c on y q a l n k.3 in (omega (arith, z.0), omega (arith, z.1)))
none_granted h c x y (Cls i j ∷ q) a l n k = (let z = none_granted h true x y q a l n k.2 in (omega (arith, z.0), omega (arith, z.1)))
none_granted h c x y (All on i j ∷ q) a l n k = absurd (both_ways false refl k.2)
none_granted h c x y (Gvb on i j ∷ q) a l n k = absurd (both_ways false refl k.2)
none_granted h c x y (Inr on ∷ q) a l n k = absurd (both_ways false refl k.2)
none_granted h c x y (Command.Nop ∷ q) a l n k = absurd k
none_granted h c x y (Str i j m ∷ q) a l n k = absurd k
none_granted h c x y (Ret on i j ∷ q) a l n k = absurd k
none_granted h c x y (Ins on ∷ q) a l n k = absurd k
none_granted h c x y (Command.Eco b ∷ q) a l n k = absurd k
none_granted h c x y (Command.Erp b ∷ q) a l n k = absurd k
none_granted h c x y (Command.Err b d ∷ q) a l n k = absurd k
none_granted h c x y (Command.Rst ∷ q) a l n k = absurd k
none_granted h c x y (Command.Rrp ∷ q) a l n k = absurd k

pub kinds_none : (f : Command → Kind) (cs : List Command) → kinds f cs ≡ [] → cs ≡ []
kinds_none f [] e = refl
kinds_none f (c ∷ cs) e = absurd (cc e)

module _ (s : Endpoint) (g : List Bool) (r : Endpoint) (h : List Bool) (p q : List Command) (t : Text) (fs : EndpointInvariant s) (fr : EndpointInvariant r) where
  -- a new request: both requests may now be there, and then the text given is counted again, from empty
  pub s_asks : (n room i j : ℕ) (g' : List Bool) → s.asked ≡ false → is_closing s ≡ false → (n == 0) ≡ false
      → ((asked_to_send n room s).opened ≡ true → g' ≡ []) → ((asked_to_send n room s).opened ≡ false → g' ≡ g)
      → Core s g r h p q t → Core (asked_to_send n room s) g' r h (p ++ Str i j n ∷ []) q t
  s_asks n room i j g' a v z anew same k = record {
    out = k.out;
    sized = sized_none n s.link t none;
    begun = begun s'.opened refl;
    dead = k.dead;
    place = k.place;
    joint = joint k.place k.joint;
  }
    where
      s' : Endpoint
      s' = asked_to_send n room s

      left : s.left ≡ false
      left = (going_parts s v).1

      o : s.opened ≡ false
      o = unasked s fs a

      y : s.busy ≡ false
      y = (fs.zero o).3

      none : t ≡ No_text
      none = no_text s t k.out y

      was : s'.opened ≡ true → s.heard ≡ true
      was e = grind arith

      joint : (d : Place) → Joint d s g r h p q t → Joint d s' g' r h (p ++ Str i j n ∷ []) q t
      joint Together j2 = (
        rw (kinds_more to_receiver_kind p (Str i j n ∷ []), z) (same_asks (sender_marks s) (receiver_marks r) (kinds to_receiver_kind p) (kinds to_sender_kind q) n a left j2.0),
        books_as s' g' r h p (p ++ Str i j n ∷ []) q q t (sum_same returned_messages p (Str i j n) refl) (sum_same returned_bits p (Str i j n) refl) refl refl
            (books_opens s s' g g' r h p q t o refl refl refl refl refl none anew j2.1),
      )
      joint Sender_ahead j2 = rw (kinds_more to_receiver_kind p (Str i j n ∷ []), z) (ahead_asks (sender_marks s) (receiver_marks r) (kinds to_receiver_kind p) (kinds to_sender_kind q) n a left j2)
      joint Receiver_ahead j2 = absurd (both_ways s.left left j2.left)

      empty : s'.opened ≡ true → (d : Place) → Joint d s g r h p q t → h ≡ []
      empty e Together j2 = j2.1.unopened o
      empty e Sender_ahead j2 = absurd (both_ways s.heard j2.unheard (was e))
      empty e Receiver_ahead j2 = absurd (both_ways s.left left j2.left)

      begun : (b : Bool) → s'.opened ≡ b → IsPrefix h g'
      begun true e = subst (λ (xs : List Bool). IsPrefix xs g') (sym (empty e k.place k.joint)) (begun_empty g')
      begun false e = subst (λ (xs : List Bool). IsPrefix h xs) (sym (same e)) k.begun

  pub s_unheard : (i j on : ℕ) → Core s g r h p (Rts i j on ∷ q) t → (s.heard ≡ false) × (is_data_link on ≡ true)
  s_unheard i j on k = go k.place k.joint
    where
      go : (d : Place) → Joint d s g r h p (Rts i j on ∷ q) t → (s.heard ≡ false) × (is_data_link on ≡ true)
      go Together j2 = (let f = same_hears_request (sender_marks s) (receiver_marks r) (kinds to_receiver_kind p) (kinds to_sender_kind q) on (is_data_link on) j2.0 in (f.0, f.1))
      go Sender_ahead j2 = absurd (cc (j2.none))
      go Receiver_ahead j2 = (let f = after_hears_request (sender_marks s) (receiver_marks r) (kinds to_receiver_kind p) (kinds to_sender_kind q) on (is_data_link on) j2 in (f.0, f.1))

  pub s_hears : (i j on : ℕ) (g' : List Bool)
      → ((met (record s { heard = true; link = on })).opened ≡ true → g' ≡ []) → ((met (record s { heard = true; link = on })).opened ≡ false → g' ≡ g)
      → Core s g r h p (Rts i j on ∷ q) t → Core (met (record s { heard = true; link = on })) g' r h p q t
  s_hears i j on g' anew same k = record {
    out = k.out;
    sized = sized_none s.size on t none;
    begun = begun s'.opened refl;
    dead = k.dead;
    place = k.place;
    joint = joint k.place k.joint;
  }
    where
      s' : Endpoint
      s' = met (record s { heard = true; link = on })

      o : s.opened ≡ false
      o = unheard s fs (s_unheard i j on k).0

      y : s.busy ≡ false
      y = (fs.zero o).3

      none : t ≡ No_text
      none = no_text s t k.out y

      was : s'.opened ≡ true → s.left ≡ false
      was e = grind arith

      joint : (d : Place) → Joint d s g r h p (Rts i j on ∷ q) t → Joint d s' g' r h p q t
      joint Together j2 = (
        (same_hears_request (sender_marks s) (receiver_marks r) (kinds to_receiver_kind p) (kinds to_sender_kind q) on (is_data_link on) j2.0).2,
        books_opens s s' g g' r h p q t o refl refl refl refl (fs.zero o).2 none anew (books_as s g r h p p (Rts i j on ∷ q) q t refl refl (omega arith) (omega arith) j2.1),
      )
      joint Sender_ahead j2 = absurd (cc (j2.none))
      joint Receiver_ahead j2 = (after_hears_request (sender_marks s) (receiver_marks r) (kinds to_receiver_kind p) (kinds to_sender_kind q) on (is_data_link on) j2).2

      empty : s'.opened ≡ true → (d : Place) → Joint d s g r h p (Rts i j on ∷ q) t → h ≡ []
      empty e Together j2 = j2.1.unopened o
      empty e Sender_ahead j2 = absurd (cc (j2.none))
      empty e Receiver_ahead j2 = absurd (both_ways s.left (was e) j2.left)

      begun : (b : Bool) → s'.opened ≡ b → IsPrefix h g'
      begun true e = subst (λ (xs : List Bool). IsPrefix xs g') (sym (empty e k.place k.joint)) (begun_empty g')
      begun false e = subst (λ (xs : List Bool). IsPrefix h xs) (sym (same e)) k.begun

  -- the CLS is made
  pub s_leaves : (i j : ℕ) → s.busy ≡ false → s.left ≡ false → (s.asked || s.heard) ≡ true → Core s g r h p q t → Core (leaves s) g r h (p ++ Cls i j ∷ []) q t
  s_leaves i j y l e k = record { out = k.out; sized = k.sized; begun = k.begun; dead = k.dead; place = k.place; joint = joint k.place k.joint }
    where
      joint : (d : Place) → Joint d s g r h p q t → Joint d (leaves s) g r h (p ++ Cls i j ∷ []) q t
      joint Together j2 = (
        rw (kinds_more to_receiver_kind p (Cls i j ∷ [])) (same_leaves (sender_marks s) (receiver_marks r) (kinds to_receiver_kind p) (kinds to_sender_kind q) l e j2.0),
        books_going s (leaves s) g r h p (p ++ Cls i j ∷ []) q t refl refl refl refl (sum_same returned_messages p (Cls i j) refl) (sum_same returned_bits p (Cls i j) refl) j2.1,
      )
      joint Sender_ahead j2 = rw (kinds_more to_receiver_kind p (Cls i j ∷ [])) (ahead_leaves (sender_marks s) (receiver_marks r) (kinds to_receiver_kind p) (kinds to_sender_kind q) l e j2)
      joint Receiver_ahead j2 = absurd (both_ways s.left l j2.left)

  -- no sender, and no text
  gone : (d : Place) (p' q' : List Command) → s.busy ≡ false → s.busy ≡ is_text_out t → IsPrefix h g → (r.opened ≡ false → h ≡ []) → Joint d new_end g r h p' q' t → Core new_end g r h p' q' t
  gone d p' q' y out b e j2 = record { out = sym y ∙ out; sized = sized_none 0 0 t (no_text s t out y); begun = b; dead = e; place = d; joint = j2 }

  -- and a CLS had arrived: the end no longer exists
  pub s_ends : (i j : ℕ) → s.busy ≡ false → s.left ≡ false → s.cls ≡ true → Core s g r h p q t → Core new_end g r h (p ++ Cls i j ∷ []) q t
  s_ends i j y l c k = go k.place k.joint
    where
      go : (d : Place) → Joint d s g r h p q t → Core new_end g r h (p ++ Cls i j ∷ []) q t
      go Together j2 = gone Sender_ahead (p ++ Cls i j ∷ []) q y k.out k.begun k.dead
          (rw (kinds_more to_receiver_kind p (Cls i j ∷ [])) (same_ends (sender_marks s) (receiver_marks r) (kinds to_receiver_kind p) (kinds to_sender_kind q) l c (receiver_well r fr) j2.0))
      go Sender_ahead j2 = absurd (both_ways s.heard j2.unheard (fs.marks (fs.leaving (fs.cls c)).0).1)
      go Receiver_ahead j2 = absurd (both_ways s.left l j2.left)

  -- the CLS is pending while a text is unacknowledged
  pub s_leaving : (s' : Endpoint) → s.busy ≡ true → sender_marks s' ≡ sender_marks s → is_closing s' ≡ true → s'.opened ≡ s.opened → s'.messages ≡ s.messages → s'.busy ≡ s.busy → s'.size ≡ s.size
      → Core s g r h p q t → Core s' g r h p q t
  s_leaving s' y m v o n b z k = record { out = b ∙ k.out; sized = subst (λ (x : ℕ). Sized x s'.link t) (sym z) (subst (λ (x : ℕ). Sized s.size x t) (sym (ap (λ (x : Marks). x.its) m)) k.sized); begun = k.begun; dead = k.dead; place = k.place; joint = joint k.place k.joint }
    where
      joint : (d : Place) → Joint d s g r h p q t → Joint d s' g r h p q t
      joint Together j2 = (
        subst (λ (x : Marks). Same x (receiver_marks r) (kinds to_receiver_kind p) (kinds to_sender_kind q)) (sym m) j2.0,
        books_going s s' g r h p p q t v o n b refl refl j2.1,
      )
      joint Sender_ahead j2 = absurd (both_ways s.heard j2.unheard (fs.marks (fs.out y).0).1)
      joint Receiver_ahead j2 = absurd (both_ways s.left (fs.out y).1 j2.left)

  -- The CLS comes.

  pub s_close_fits : (i j : ℕ) → Core s g r h p (Cls i j ∷ q) t → (s.cls ≡ false) × ((s.asked || s.heard) ≡ true)
  s_close_fits i j k = go k.place k.joint
    where
      go : (d : Place) → Joint d s g r h p (Cls i j ∷ q) t → (s.cls ≡ false) × ((s.asked || s.heard) ≡ true)
      go Together j2 = same_close_fits (sender_marks s) (receiver_marks r) (kinds to_receiver_kind p) (kinds to_sender_kind q) j2.0
      go Sender_ahead j2 = absurd (cc (j2.none))
      go Receiver_ahead j2 = ((sender_well s fs).over j2.left, fs.there j2.left)

  pub s_ended : (i j : ℕ) → s.left ≡ true → Core s g r h p (Cls i j ∷ q) t → Core new_end g r h p q t
  s_ended i j l k = go k.place k.joint
    where
      y : s.busy ≡ false
      y = left_not_busy s fs l

      books : r.heard ≡ false → kinds to_receiver_kind p ≡ [] → Comes false false 0 0 (kinds to_sender_kind q) r.asked r.heard r.left r.link → Books new_end g r h p q t
      books u e c =
          let o = unheard r fr u in
          let zero = fr.zero o in
          let none = kinds_none to_receiver_kind p e in
          let made = none_granted false false 0 0 q r.asked r.left r.link (subst (λ (b : Bool). Comes false false 0 0 (kinds to_sender_kind q) r.asked b r.left r.link) u c) in
          books_new new_end g r h p q t refl refl refl refl zero.0 zero.1 (k.dead o) (no_text s t k.out y)
          (ap (sum_of returned_messages) none) (ap (sum_of returned_bits) none) made.0 made.1

      go : (d : Place) → Joint d s g r h p (Cls i j ∷ q) t → Core new_end g r h p q t
      go Together j2 = gone Sender_ahead p q y k.out k.begun k.dead (same_left_ends (sender_marks s) (receiver_marks r) (kinds to_receiver_kind p) (kinds to_sender_kind q) l (receiver_well r fr) j2.0)
      go Sender_ahead j2 = absurd (cc (j2.none))
      go Receiver_ahead j2 = gone Together p q y k.out k.begun k.dead (
        after_ends (sender_marks s) (receiver_marks r) (kinds to_receiver_kind p) (kinds to_sender_kind q) (receiver_well r fr) j2,
        books j2.unheard j2.none j2.passes,
      )

  -- the CLS is pending: a text is unacknowledged, or the CLS was pending before
  pub s_shut : (i j : ℕ) (s' : Endpoint) → s.left ≡ false → s.opened ≡ true → sender_marks s' ≡ record (sender_marks s) { cls = true } → is_closing s' ≡ true → s'.opened ≡ s.opened → s'.messages ≡ s.messages → s'.busy ≡ s.busy → s'.size ≡ s.size
      → Core s g r h p (Cls i j ∷ q) t → Core s' g r h p q t
  s_shut i j s' l o m v w n b z k = record { out = b ∙ k.out; sized = subst (λ (x : ℕ). Sized x s'.link t) (sym z) (subst (λ (x : ℕ). Sized s.size x t) (sym (ap (λ (x : Marks). x.its) m)) k.sized); begun = k.begun; dead = k.dead; place = k.place; joint = joint k.place k.joint }
    where
      joint : (d : Place) → Joint d s g r h p (Cls i j ∷ q) t → Joint d s' g r h p q t
      joint Together j2 = (
        subst (λ (x : Marks). Same x (receiver_marks r) (kinds to_receiver_kind p) (kinds to_sender_kind q)) (sym m)
            (same_hears_close (sender_marks s) (receiver_marks r) (kinds to_receiver_kind p) (kinds to_sender_kind q) j2.0),
        books_going s s' g r h p p q t v w n b refl refl (books_as s g r h p p (Cls i j ∷ q) q t refl refl (omega arith) (omega arith) j2.1),
      )
      joint Sender_ahead j2 = absurd (cc (j2.none))
      joint Receiver_ahead j2 = absurd (both_ways s.left l j2.left)

  pub s_replies : (i j i2 j2 : ℕ) → s.left ≡ false → s.busy ≡ false → Core s g r h p (Cls i j ∷ q) t → Core new_end g r h (p ++ Cls i2 j2 ∷ []) q t
  s_replies i j i2 j2 l y k = go k.place k.joint
    where
      go : (d : Place) → Joint d s g r h p (Cls i j ∷ q) t → Core new_end g r h (p ++ Cls i2 j2 ∷ []) q t
      go Together j3 = gone Sender_ahead (p ++ Cls i2 j2 ∷ []) q y k.out k.begun k.dead
          (rw (kinds_more to_receiver_kind p (Cls i2 j2 ∷ [])) (same_replies (sender_marks s) (receiver_marks r) (kinds to_receiver_kind p) (kinds to_sender_kind q) l (receiver_well r fr) j3.0))
      go Sender_ahead j3 = absurd (cc (j3.none))
      go Receiver_ahead j3 = absurd (both_ways s.left l j3.left)

  -- What comes on an open connection, or late.

  pub s_late : (c : Command) (on : ℕ) → to_sender_kind c ≡ Data true on → is_closing s ≡ true → Core s g r h p (c ∷ q) t → Core s g r h p q t
  s_late c on e v k = record { out = k.out; sized = k.sized; begun = k.begun; dead = k.dead; place = k.place; joint = joint k.place k.joint }
    where
      joint : (d : Place) → Joint d s g r h p (c ∷ q) t → Joint d s g r h p q t
      joint Together j2 = (
        (same_data_fits (sender_marks s) (receiver_marks r) (kinds to_receiver_kind p) (kinds to_sender_kind q) true on
            (subst (λ (x : Kind). Same (sender_marks s) (receiver_marks r) (kinds to_receiver_kind p) (x ∷ kinds to_sender_kind q)) e j2.0)).3,
        record {
          messages = λ a b. absurd (both_ways (is_closing s) b v);
          bits = λ a b. absurd (both_ways (is_closing s) b v);
          enough_messages = j2.1.enough_messages;
          enough_bits = j2.1.enough_bits;
          within_messages = λ b. absurd (both_ways (is_closing s) b v);
          within_bits = λ b. absurd (both_ways (is_closing s) b v);
          parted = λ a b c. absurd (both_ways (is_closing s) b v);
          coming = j2.1.coming;
          unopened = j2.1.unopened;
          early = λ c2. (let f = j2.1.early c2 in (f.0, omega (arith, f.1), f.2));
        },
      )
      joint Sender_ahead j2 = absurd (cc (j2.none))
      joint Receiver_ahead j2 =
          let l : Ahead (receiver_marks r) (sender_marks s) (Data true on ∷ kinds to_sender_kind q) (kinds to_receiver_kind p) = subst (λ (x : Kind). Ahead (receiver_marks r) (sender_marks s) (x ∷ kinds to_sender_kind q) (kinds to_receiver_kind p)) e j2 in
          record { left = l.left; none = l.none; unheard = l.unheard; passes = l.passes.3 }

  -- no such command comes to an end that is not there
  pub s_there : (c : Command) (on : ℕ) → to_sender_kind c ≡ Data true on → Core s g r h p (c ∷ q) t → (s.heard ≡ true) × (on ≡ s.link)
  s_there c on e k = go k.place k.joint
    where
      go : (d : Place) → Joint d s g r h p (c ∷ q) t → (s.heard ≡ true) × (on ≡ s.link)
      go Together j2 =
          let f = same_data_fits (sender_marks s) (receiver_marks r) (kinds to_receiver_kind p) (kinds to_sender_kind q) true on
          (subst (λ (x : Kind). Same (sender_marks s) (receiver_marks r) (kinds to_receiver_kind p) (x ∷ kinds to_sender_kind q)) e j2.0) in
          (f.1, f.2)
      go Sender_ahead j2 = absurd (cc (j2.none))
      go Receiver_ahead j2 =
          let l : Ahead (receiver_marks r) (sender_marks s) (Data true on ∷ kinds to_sender_kind q) (kinds to_receiver_kind p) = subst (λ (x : Kind). Ahead (receiver_marks r) (sender_marks s) (x ∷ kinds to_sender_kind q) (kinds to_receiver_kind p)) e j2 in
          (l.passes.0, l.passes.2)

  pub s_fits : (c : Command) (on : ℕ) → to_sender_kind c ≡ Data true on → is_closing s ≡ false → Core s g r h p (c ∷ q) t → Fits s g r h p q t c on
  s_fits c on e v k = go k.place k.joint
    where
      go : (d : Place) → Joint d s g r h p (c ∷ q) t → Fits s g r h p q t c on
      go Together j2 =
          let f = same_data_fits (sender_marks s) (receiver_marks r) (kinds to_receiver_kind p) (kinds to_sender_kind q) true on
          (subst (λ (x : Kind). Same (sender_marks s) (receiver_marks r) (kinds to_receiver_kind p) (x ∷ kinds to_sender_kind q)) e j2.0) in
          record {
            asked = f.0;
            heard = f.1;
            left = (going_parts s v).1;
            opened = fs.opens v f.0 f.1;
            same = f.3;
            books = j2.1;
            link = f.2;
            its = same_number (sender_marks s) (receiver_marks r) (kinds to_receiver_kind p) (kinds to_sender_kind q) f.1 f.3;
          }
      go Sender_ahead j2 = absurd (cc (j2.none))
      go Receiver_ahead j2 = absurd (both_ways s.left (going_parts s v).1 j2.left)

  pub s_all : (on m b : ℕ) → is_closing s ≡ false → Core s g r h p (All on m b ∷ q) t → Core (record s { messages = s.messages + m; bits = s.bits + b }) g r h p q t
  s_all on m b v k =
      let f = s_fits (All on m b) on refl v k in
      record {
        out = k.out;
        sized = k.sized;
        begun = k.begun;
        dead = k.dead;
        place = Together;
        joint = (
          f.same,
          record {
            messages = λ a c. omega (arith, f.books.messages a c);
            bits = λ a c. omega (arith, f.books.bits a c);
            enough_messages = f.books.enough_messages;
            enough_bits = f.books.enough_bits;
            within_messages = λ c. omega (arith, f.books.within_messages c);
            within_bits = λ c. omega (arith, f.books.within_bits c);
            parted = f.books.parted;
            coming = f.books.coming;
            unopened = f.books.unopened;
            early = λ c. (let e = f.books.early c in (omega (arith, e.0, e.1), omega (arith, e.1), e.2));
          },
        );
      }

  -- an ALL is never beyond a limit
  pub s_within : (on m b : ℕ) → is_closing s ≡ false → Core s g r h p (All on m b ∷ q) t → (s.messages + m ≤ 65535) × (s.bits + b ≤ 65536)
  s_within on m b v k =
      let f = s_fits (All on m b) on refl v k in
      (omega (arith, f.books.within_messages v), omega (arith, f.books.within_bits v))

  back_below : (c f : ℕ) → back c f ≤ c
  unfolding back
  back_below c f = omega arith

  pub s_gvb : (on m b : ℕ) → is_closing s ≡ false → Core s g r h p (Gvb on m b ∷ q) t
      → Core (record s { messages = s.messages - back s.messages m; bits = s.bits - back s.bits b }) g r h (p ++ Ret on (back s.messages m) (back s.bits b) ∷ []) q t
  s_gvb on m b v k =
      let f = s_fits (Gvb on m b) on refl v k in
      let ret = Ret on (back s.messages m) (back s.bits b) in
      let pm = sum_more returned_messages p (ret ∷ []) in
      let pb = sum_more returned_bits p (ret ∷ []) in
      let lm = back_below s.messages m in
      let lb = back_below s.bits b in
      record {
        out = k.out;
        sized = k.sized;
        begun = k.begun;
        dead = k.dead;
        place = Together;
        joint = (
          rw (kinds_more to_receiver_kind p (ret ∷ [])) (same_data (sender_marks s) (receiver_marks r) (kinds to_receiver_kind p) (kinds to_sender_kind q) false on f.asked f.heard f.left (f.link ∙ f.its) f.same),
          record {
            messages = λ a c. omega (arith, pm, lm, f.books.messages a c);
            bits = λ a c. omega (arith, pb, lb, f.books.bits a c);
            enough_messages = λ a. omega (arith, pm, lm, f.books.messages a v);
            enough_bits = λ a. omega (arith, pb, lb, f.books.bits a v);
            within_messages = λ c. omega (arith, f.books.within_messages c);
            within_bits = λ c. omega (arith, f.books.within_bits c);
            parted = f.books.parted;
            coming = f.books.coming;
            unopened = f.books.unopened;
            early = λ c. (let e = f.books.early c in (omega (arith, e.0), omega (arith, e.1), e.2));
          },
        );
      }

  pub s_inr : (on : ℕ) → is_closing s ≡ false → Core s g r h p (Inr on ∷ q) t → Core (record s { interrupts = min (s.interrupts + 1) MAX_COUNT }) g r h p q t
  s_inr on v k =
      let f = s_fits (Inr on) on refl v k in
      record {
        out = k.out;
        sized = k.sized;
        begun = k.begun;
        dead = k.dead;
        place = Together;
        joint = (f.same, books_sender s (record s { interrupts = min (s.interrupts + 1) MAX_COUNT }) g r h p q t refl refl refl refl refl (λ e. e) (books_as s g r h p p (Inr on ∷ q) q t refl refl (omega arith) (omega arith) f.books));
      }

  -- An open sender.

  -- where the sender is open, both ends are in one round
  open_same : (d : Place) → s.heard ≡ true → s.left ≡ false → Joint d s g r h p q t → Same (sender_marks s) (receiver_marks r) (kinds to_receiver_kind p) (kinds to_sender_kind q) × Books s g r h p q t
  open_same Together o l j2 = j2
  open_same Sender_ahead o l j2 = absurd (both_ways s.heard j2.unheard o)
  open_same Receiver_ahead o l j2 = absurd (both_ways s.left l j2.left)

  begun_more : (xs ys zs : List Bool) → IsPrefix xs ys → IsPrefix xs (ys ++ zs)
  begun_more xs ys zs k = (k.0 ++ zs, sym (append_assoc xs k.0 zs) ∙ ap (λ (l : List Bool). l ++ zs) k.1)

  pub s_gives : (text : List Bool) → is_closing s ≡ false → s.asked ≡ true → s.heard ≡ true → Core s g r h p q t → Core (record s { stored = s.stored ++ text }) (g ++ text) r h p q t
  s_gives text v a o k =
      let f = open_same k.place o (going_parts s v).1 k.joint in
      record {
        out = k.out;
        sized = k.sized;
        begun = begun_more h g text k.begun;
        dead = k.dead;
        place = Together;
        joint = (
          f.0,
          record {
            messages = f.1.messages;
            bits = f.1.bits;
            enough_messages = f.1.enough_messages;
            enough_bits = f.1.enough_bits;
            within_messages = f.1.within_messages;
            within_bits = f.1.within_bits;
            parted = λ a b c. ap (λ (l : List Bool). l ++ text) (f.1.parted a b c) ∙ simp append_assoc;
            coming = λ a. begun_more (h ++ text_bits t) g text (f.1.coming a);
            unopened = f.1.unopened;
            early = f.1.early;
          },
        );
      }

  pub s_cuts : (n : ℕ) → is_closing s ≡ false → s.asked ≡ true → s.heard ≡ true → s.busy ≡ false → 1 ≤ s.messages → n ≤ length s.stored → n ≤ s.bits
      → Core s g r h p q t → Core (record s { messages = s.messages - 1; bits = s.bits - n; stored = drop n s.stored; busy = true }) g r h p q (Away s.link s.size (take n s.stored))
  s_cuts n v a o y m l b k =
      let f = open_same k.place o (going_parts s v).1 k.joint in
      let none : t ≡ No_text = no_text s t k.out y in
      let t1 : text_messages t ≡ 0 = ap text_messages none in
      let t2 : length (text_bits t) ≡ 0 = ap (λ (u : Text). length (text_bits u)) none in
      let taken : length (take n s.stored) ≡ n = length-take-le n s.stored l in
      let whole : (is_closing r ≡ false) → g ≡ h ++ s.stored = λ (b2 : is_closing r ≡ false). subst (λ (u : Text). g ≡ h ++ (text_bits u ++ s.stored)) none (f.1.parted b2 v (fs.opens v a o)) in
      let part : take n s.stored ++ drop n s.stored ≡ s.stored = take-append-drop n s.stored in
      record {
        out = refl;
        sized = (refl, refl);
        begun = k.begun;
        dead = k.dead;
        place = Together;
        joint = (
          f.0,
          record {
            messages = λ a c. omega (arith, t1, m, f.1.messages a c);
            bits = λ a c. omega (arith, t2, b, taken, f.1.bits a c);
            enough_messages = λ a. omega (arith, t1, m, f.1.messages a v);
            enough_bits = λ a. omega (arith, t2, b, taken, f.1.bits a v);
            within_messages = λ c. omega (arith, f.1.within_messages c);
            within_bits = λ c. omega (arith, f.1.within_bits c);
            parted = λ a c d. whole a ∙ ap (λ (l : List Bool). h ++ l) (sym part);
            coming = λ a. (drop n s.stored, append_assoc h (take n s.stored) (drop n s.stored) ∙ (ap (λ (l : List Bool). h ++ l) part ∙ sym (whole a)));
            unopened = f.1.unopened;
            early = λ c. absurd (omega (arith, m, (f.1.early c).0));
          },
        );
      }

  -- INS is made
  pub s_interrupts : (on : ℕ) → on ≡ s.link → is_closing s ≡ false → s.asked ≡ true → s.heard ≡ true → Core s g r h p q t → Core s g r h (p ++ Ins on ∷ []) q t
  s_interrupts on e v a o k =
      let f = open_same k.place o (going_parts s v).1 k.joint in
      record {
        out = k.out;
        sized = k.sized;
        begun = k.begun;
        dead = k.dead;
        place = Together;
        joint = (
          rw (kinds_more to_receiver_kind p (Ins on ∷ [])) (same_data (sender_marks s) (receiver_marks r) (kinds to_receiver_kind p) (kinds to_sender_kind q) false on a o (going_parts s v).1 (e ∙ same_number (sender_marks s) (receiver_marks r) (kinds to_receiver_kind p) (kinds to_sender_kind q) o f.0) f.0),
          books_as s g r h p (p ++ Ins on ∷ []) q q t (sum_same returned_messages p (Ins on) refl) (sum_same returned_bits p (Ins on) refl) refl refl f.1,
        );
      }

-- the RFNM came
pub s_answered : (s : Endpoint) (g : List Bool) (r : Endpoint) (h : List Bool) (p q : List Command) (li : ℕ) → EndpointInvariant s → Core s g r h p q (Here li) → Core (record s { busy = false }) g r h p q No_text
s_answered s g r h p q li fs k = record { out = refl; sized = tt; begun = k.begun; dead = k.dead; place = k.place; joint = joint k.place k.joint }
  where
    joint : (d : Place) → Joint d s g r h p q (Here li) → Joint d (record s { busy = false }) g r h p q No_text
    joint Together j2 = (
      j2.0,
      record { messages = j2.1.messages; bits = j2.1.bits; enough_messages = j2.1.enough_messages; enough_bits = j2.1.enough_bits; within_messages = j2.1.within_messages; within_bits = j2.1.within_bits; parted = j2.1.parted; coming = j2.1.coming; unopened = j2.1.unopened; early = λ c. (let e = j2.1.early c in (e.0, e.1, refl)) },
    )
    joint Sender_ahead j2 = j2
    joint Receiver_ahead j2 = j2

pub answered_firm : (s : Endpoint) → EndpointInvariant s → EndpointInvariant (record s { busy = false })
answered_firm s f = record { marks = f.marks; opens = f.opens; zero = λ o. (let z = f.zero o in (z.0, z.1, z.2, refl, z.4)); out = λ b. absurd (both_ways false refl b); leaving = f.leaving; cls = f.cls; there = f.there; room = f.room }
