-- Meant for other crates too: they cite what is public here.
--
-- What is done at the receiver's end keeps what the ends have in common.
use Rattle.std.proofs.Common.{◌≡◌, ℕ, ◌+◌, ◌-◌, ◌≤◌, Bool, true, false, not, ◌||◌, ◌==◌, min, List, [], ◌∷◌, ◌++◌, length, refl, ap, sym, ◌∙◌, subst, arith, append_assoc}
use Rattle.std.proofs.lemmas.Bool.{both_ways}
use Rattle.std.proofs.lemmas.List.{append-nil}
use Rattle.ncp_wire.specs.declared.command.Command.{Command}
use Rattle.ncp_wire.specs.declared.command.Command.TheVariants.{Rts, Str, Cls, All, Gvb, Ret, Inr, Ins}
use Rattle.ncp_model.specs.declared.limits.TheConstants.{MAX_COUNT}
use Rattle.ncp_model.specs.Effect.{met, leaves, is_data_link}
use Rattle.ncp_model.specs.Calls.{asked_to_receive}
use Rattle.ncp_model.specs.Endpoint.{Endpoint, new_end, is_closing}
use Rattle.ncp_proof_connection.specs.Connections.{Text, Away, Here}
use Rattle.ncp_proof_connection.specs.Ledger.{sum_of, is_text_out}
use Rattle.ncp_proof_connection.proofs.Lines.{Kind, Request, Close, Data, Marks, Same, Ahead, Comes, same_swap, same_asks, ahead_asks, same_leaves, ahead_leaves, same_ends, same_data, same_number, same_hears_request, after_hears_request, same_close_fits, same_hears_close, same_left_ends, same_replies, after_ends, same_data_fits}
use Rattle.ncp_proof_connection.proofs.Joint.{to_sender_kind, to_receiver_kind, kinds, kinds_more, sum_more, sum_same, sender_marks, receiver_marks, Books, Place, Together, Sender_ahead, Receiver_ahead, Joint, Sized, Core, EndpointInvariant, sender_well, receiver_well, no_text, unasked, unheard, begun_empty}
use Rattle.ncp_proof_connection.proofs.Numbers.{books_as, books_receiver, books_receiver_going, books_new}
use Rattle.ncp_proof_connection.proofs.Senders.{going_parts, kinds_none}
use Rattle.ncp_model.proofs.AmountParts.{granted_messages, granted_bits, returned_messages, returned_bits}

-- what such a command, or a text, comes with: the end has opened, and asked with that link
pub record Fits (s : Endpoint) (g : List Bool) (r : Endpoint) (h : List Bool) (p p2 q : List Command) (t : Text) : Type 0 where
  pub opened : r.opened ≡ true
  pub same : Same (sender_marks s) (receiver_marks r) (kinds to_receiver_kind p) (kinds to_sender_kind q)
  pub books : Books s g r h p2 q t
  pub size : s.size ≡ r.size

pub none_returned : (h c : Bool) (x y : ℕ) (p : List Command) (a l : Bool) (n : ℕ) → Comes h c x y (kinds to_receiver_kind p) a false l n
    → (sum_of returned_messages p ≡ 0) × (sum_of returned_bits p ≡ 0)
none_returned h c x y [] a l n k = (refl, refl)
none_returned h c x y (Str i j on ∷ p) a l n k = (let z = none_returned true c on y p a l n k.3 in (omega (arith, z.0), omega (arith, z.1)))
none_returned h c x y (Cls i j ∷ p) a l n k = (let z = none_returned h true x y p a l n k.2 in (omega (arith, z.0), omega (arith, z.1)))
none_returned h c x y (Ret on i j ∷ p) a l n k = absurd (both_ways false refl k.2)
none_returned h c x y (Ins on ∷ p) a l n k = absurd (both_ways false refl k.2)
none_returned h c x y (Command.Nop ∷ p) a l n k = absurd k
none_returned h c x y (Rts i j m ∷ p) a l n k = absurd k
none_returned h c x y (All on i j ∷ p) a l n k = absurd k
none_returned h c x y (Gvb on i j ∷ p) a l n k = absurd k
none_returned h c x y (Inr on ∷ p) a l n k = absurd k
none_returned h c x y (Command.Eco b ∷ p) a l n k = absurd k
none_returned h c x y (Command.Erp b ∷ p) a l n k = absurd k
none_returned h c x y (Command.Err b d ∷ p) a l n k = absurd k
none_returned h c x y (Command.Rst ∷ p) a l n k = absurd k
none_returned h c x y (Command.Rrp ∷ p) a l n k = absurd k

module _ (s : Endpoint) (g : List Bool) (r : Endpoint) (h : List Bool) (p q : List Command) (t : Text) (fs : EndpointInvariant s) (fr : EndpointInvariant r) where
  -- the same, seen from the receiver
  swapped : (p' q' : List Command) → Same (sender_marks s) (receiver_marks r) (kinds to_receiver_kind p') (kinds to_sender_kind q') → Same (receiver_marks r) (sender_marks s) (kinds to_sender_kind q') (kinds to_receiver_kind p')
  swapped p' q' = same_swap (sender_marks s) (receiver_marks r) (kinds to_receiver_kind p') (kinds to_sender_kind q')

  pub r_asks : (on room i j : ℕ) → r.asked ≡ false → is_closing r ≡ false → is_data_link on ≡ true
      → Core s g r h p q t → Core s g (asked_to_receive on room r) h p (q ++ Rts i j on ∷ []) t
  r_asks on room i j a v z k = record { out = k.out; sized = k.sized; begun = k.begun; dead = λ e. k.dead o; place = k.place; joint = joint k.place k.joint }
    where
      r' : Endpoint
      r' = asked_to_receive on room r

      left : r.left ≡ false
      left = (going_parts r v).1

      o : r.opened ≡ false
      o = unasked r fr a

      joint : (d : Place) → Joint d s g r h p q t → Joint d s g r' h p (q ++ Rts i j on ∷ []) t
      joint Together k2 = (
        rw (kinds_more to_sender_kind q (Rts i j on ∷ []), z)
            (same_swap (receiver_marks r') (sender_marks s) (kinds to_sender_kind q ++ Request on true ∷ []) (kinds to_receiver_kind p)
            (same_asks (receiver_marks r) (sender_marks s) (kinds to_sender_kind q) (kinds to_receiver_kind p) on a left (swapped p q k2.0))),
        books_as s g r' h p p q (q ++ Rts i j on ∷ []) t refl refl (sum_same granted_messages q (Rts i j on) refl) (sum_same granted_bits q (Rts i j on) refl)
            (books_receiver s g r r' h p q t refl refl refl (λ e. o) k2.1),
      )
      joint Sender_ahead k2 = absurd (both_ways r.left left k2.left)
      joint Receiver_ahead k2 = rw (kinds_more to_sender_kind q (Rts i j on ∷ []), z) (ahead_asks (receiver_marks r) (sender_marks s) (kinds to_sender_kind q) (kinds to_receiver_kind p) on a left k2)

  pub r_unheard : (i j n : ℕ) → Core s g r h (Str i j n ∷ p) q t → (r.heard ≡ false) × (not (n == 0) ≡ true)
  r_unheard i j n k = go k.place k.joint
    where
      go : (d : Place) → Joint d s g r h (Str i j n ∷ p) q t → (r.heard ≡ false) × (not (n == 0) ≡ true)
      go Together k2 = (let f = same_hears_request (receiver_marks r) (sender_marks s) (kinds to_sender_kind q) (kinds to_receiver_kind p) n (not (n == 0)) (swapped (Str i j n ∷ p) q k2.0) in (f.0, f.1))
      go Sender_ahead k2 = (let f = after_hears_request (receiver_marks r) (sender_marks s) (kinds to_sender_kind q) (kinds to_receiver_kind p) n (not (n == 0)) k2 in (f.0, f.1))
      go Receiver_ahead k2 = absurd (cc (k2.none))

  pub r_hears : (i j n : ℕ) → Core s g r h (Str i j n ∷ p) q t → Core s g (met (record r { heard = true; size = n })) h p q t
  r_hears i j n k = record { out = k.out; sized = k.sized; begun = k.begun; dead = λ e. k.dead o; place = k.place; joint = joint k.place k.joint }
    where
      r' : Endpoint
      r' = met (record r { heard = true; size = n })

      o : r.opened ≡ false
      o = unheard r fr (r_unheard i j n k).0

      joint : (d : Place) → Joint d s g r h (Str i j n ∷ p) q t → Joint d s g r' h p q t
      joint Together k2 = (
        same_swap (receiver_marks r') (sender_marks s) (kinds to_sender_kind q) (kinds to_receiver_kind p)
            (same_hears_request (receiver_marks r) (sender_marks s) (kinds to_sender_kind q) (kinds to_receiver_kind p) n (not (n == 0)) (swapped (Str i j n ∷ p) q k2.0)).2,
        books_receiver s g r r' h p q t refl refl refl (λ e. o) (books_as s g r h (Str i j n ∷ p) p q q t (omega arith) (omega arith) refl refl k2.1),
      )
      joint Sender_ahead k2 = (after_hears_request (receiver_marks r) (sender_marks s) (kinds to_sender_kind q) (kinds to_receiver_kind p) n (not (n == 0)) k2).2
      joint Receiver_ahead k2 = absurd (cc (k2.none))

  -- the CLS is made
  pub r_leaves : (i j : ℕ) → r.left ≡ false → (r.asked || r.heard) ≡ true → Core s g r h p q t → Core s g (leaves r) h p (q ++ Cls i j ∷ []) t
  r_leaves i j l e k = record { out = k.out; sized = k.sized; begun = k.begun; dead = k.dead; place = k.place; joint = joint k.place k.joint }
    where
      joint : (d : Place) → Joint d s g r h p q t → Joint d s g (leaves r) h p (q ++ Cls i j ∷ []) t
      joint Together k2 = (
        rw (kinds_more to_sender_kind q (Cls i j ∷ []))
            (same_swap (receiver_marks (leaves r)) (sender_marks s) (kinds to_sender_kind q ++ Close ∷ []) (kinds to_receiver_kind p)
            (same_leaves (receiver_marks r) (sender_marks s) (kinds to_sender_kind q) (kinds to_receiver_kind p) l e (swapped p q k2.0))),
        books_receiver_going s g r (leaves r) h p q (q ++ Cls i j ∷ []) t refl refl (sum_same granted_messages q (Cls i j) refl) (sum_same granted_bits q (Cls i j) refl) k2.1,
      )
      joint Sender_ahead k2 = absurd (both_ways r.left l k2.left)
      joint Receiver_ahead k2 = rw (kinds_more to_sender_kind q (Cls i j ∷ [])) (ahead_leaves (receiver_marks r) (sender_marks s) (kinds to_sender_kind q) (kinds to_receiver_kind p) l e k2)

  -- no receiver, and nothing got
  gone : (d : Place) (p' q' : List Command) → s.busy ≡ is_text_out t → Sized s.size s.link t → Joint d s g new_end [] p' q' t → Core s g new_end [] p' q' t
  gone d p' q' out z k2 = record { out = out; sized = z; begun = begun_empty g; dead = λ e. refl; place = d; joint = k2 }

  -- and a CLS had arrived: the end no longer exists
  pub r_ends : (i j : ℕ) → r.left ≡ false → r.cls ≡ true → Core s g r h p q t → Core s g new_end [] p (q ++ Cls i j ∷ []) t
  r_ends i j l c k = go k.place k.joint
    where
      go : (d : Place) → Joint d s g r h p q t → Core s g new_end [] p (q ++ Cls i j ∷ []) t
      go Together k2 = gone Receiver_ahead p (q ++ Cls i j ∷ []) k.out k.sized
          (rw (kinds_more to_sender_kind q (Cls i j ∷ [])) (same_ends (receiver_marks r) (sender_marks s) (kinds to_sender_kind q) (kinds to_receiver_kind p) l c (sender_well s fs) (swapped p q k2.0)))
      go Sender_ahead k2 = absurd (both_ways r.left l k2.left)
      go Receiver_ahead k2 = absurd (both_ways r.heard k2.unheard (fr.marks (fr.leaving (fr.cls c)).0).1)

  -- The CLS comes.

  pub r_close_fits : (i j : ℕ) → Core s g r h (Cls i j ∷ p) q t → (r.cls ≡ false) × ((r.asked || r.heard) ≡ true)
  r_close_fits i j k = go k.place k.joint
    where
      go : (d : Place) → Joint d s g r h (Cls i j ∷ p) q t → (r.cls ≡ false) × ((r.asked || r.heard) ≡ true)
      go Together k2 = same_close_fits (receiver_marks r) (sender_marks s) (kinds to_sender_kind q) (kinds to_receiver_kind p) (swapped (Cls i j ∷ p) q k2.0)
      go Sender_ahead k2 = ((receiver_well r fr).over k2.left, fr.there k2.left)
      go Receiver_ahead k2 = absurd (cc (k2.none))

  pub r_ended : (i j : ℕ) → r.left ≡ true → Core s g r h (Cls i j ∷ p) q t → Core s g new_end [] p q t
  r_ended i j l k = go k.place k.joint
    where
      books : s.heard ≡ false → kinds to_sender_kind q ≡ [] → Comes false false 0 0 (kinds to_receiver_kind p) s.asked s.heard s.left s.size → Books s g new_end [] p q t
      books u e c =
          let o = unheard s fs u in
          let zero = fs.zero o in
          let none = kinds_none to_sender_kind q e in
          let made = none_returned false false 0 0 p s.asked s.left s.size (subst (λ (b : Bool). Comes false false 0 0 (kinds to_receiver_kind p) s.asked b s.left s.size) u c) in
          books_new s g new_end [] p q t o zero.0 zero.1 zero.3 refl refl refl (no_text s t k.out zero.3)
          made.0 made.1 (ap (sum_of granted_messages) none) (ap (sum_of granted_bits) none)

      go : (d : Place) → Joint d s g r h (Cls i j ∷ p) q t → Core s g new_end [] p q t
      go Together k2 = gone Receiver_ahead p q k.out k.sized (same_left_ends (receiver_marks r) (sender_marks s) (kinds to_sender_kind q) (kinds to_receiver_kind p) l (sender_well s fs) (swapped (Cls i j ∷ p) q k2.0))
      go Sender_ahead k2 = gone Together p q k.out k.sized (
        same_swap (receiver_marks new_end) (sender_marks s) (kinds to_sender_kind q) (kinds to_receiver_kind p)
            (after_ends (receiver_marks r) (sender_marks s) (kinds to_sender_kind q) (kinds to_receiver_kind p) (sender_well s fs) k2),
        books k2.unheard k2.none k2.passes,
      )
      go Receiver_ahead k2 = absurd (cc (k2.none))

  -- the CLS is due: bits are held, or it was due before
  pub r_shut : (i j : ℕ) (r' : Endpoint) → r.left ≡ false → receiver_marks r' ≡ record (receiver_marks r) { cls = true } → is_closing r' ≡ true → r'.opened ≡ r.opened
      → Core s g r h (Cls i j ∷ p) q t → Core s g r' h p q t
  r_shut i j r' l m v w k = record { out = k.out; sized = k.sized; begun = k.begun; dead = λ e. k.dead (sym w ∙ e); place = k.place; joint = joint k.place k.joint }
    where
      joint : (d : Place) → Joint d s g r h (Cls i j ∷ p) q t → Joint d s g r' h p q t
      joint Together k2 = (
        subst (λ (x : Marks). Same (sender_marks s) x (kinds to_receiver_kind p) (kinds to_sender_kind q)) (sym m)
            (same_swap (record (receiver_marks r) { cls = true }) (sender_marks s) (kinds to_sender_kind q) (kinds to_receiver_kind p)
            (same_hears_close (receiver_marks r) (sender_marks s) (kinds to_sender_kind q) (kinds to_receiver_kind p) (swapped (Cls i j ∷ p) q k2.0))),
        books_receiver_going s g r r' h p q q t v w refl refl (books_as s g r h (Cls i j ∷ p) p q q t (omega arith) (omega arith) refl refl k2.1),
      )
      joint Sender_ahead k2 = absurd (both_ways r.left l k2.left)
      joint Receiver_ahead k2 = absurd (cc (k2.none))

  pub r_replies : (i j i2 j2 : ℕ) → r.left ≡ false → Core s g r h (Cls i j ∷ p) q t → Core s g new_end [] p (q ++ Cls i2 j2 ∷ []) t
  r_replies i j i2 j2 l k = go k.place k.joint
    where
      go : (d : Place) → Joint d s g r h (Cls i j ∷ p) q t → Core s g new_end [] p (q ++ Cls i2 j2 ∷ []) t
      go Together k2 = gone Receiver_ahead p (q ++ Cls i2 j2 ∷ []) k.out k.sized
          (rw (kinds_more to_sender_kind q (Cls i2 j2 ∷ [])) (same_replies (receiver_marks r) (sender_marks s) (kinds to_sender_kind q) (kinds to_receiver_kind p) l (sender_well s fs) (swapped (Cls i j ∷ p) q k2.0)))
      go Sender_ahead k2 = absurd (both_ways r.left l k2.left)
      go Receiver_ahead k2 = absurd (cc (k2.none))

  -- What comes on an open connection, or late.

  pub r_late : (c : Command) (on : ℕ) → to_receiver_kind c ≡ Data false on → is_closing r ≡ true → Core s g r h (c ∷ p) q t → Core s g r h p q t
  r_late c on e v k = record { out = k.out; sized = k.sized; begun = k.begun; dead = k.dead; place = k.place; joint = joint k.place k.joint }
    where
      joint : (d : Place) → Joint d s g r h (c ∷ p) q t → Joint d s g r h p q t
      joint Together k2 = (
        same_swap (receiver_marks r) (sender_marks s) (kinds to_sender_kind q) (kinds to_receiver_kind p)
            (same_data_fits (receiver_marks r) (sender_marks s) (kinds to_sender_kind q) (kinds to_receiver_kind p) false on
            (subst (λ (x : Kind). Same (receiver_marks r) (sender_marks s) (kinds to_sender_kind q) (x ∷ kinds to_receiver_kind p)) e (swapped (c ∷ p) q k2.0))).3,
        record {
          messages = λ a b. absurd (both_ways (is_closing r) a v);
          bits = λ a b. absurd (both_ways (is_closing r) a v);
          enough_messages = λ a. absurd (both_ways (is_closing r) a v);
          enough_bits = λ a. absurd (both_ways (is_closing r) a v);
          within_messages = k2.1.within_messages;
          within_bits = k2.1.within_bits;
          parted = λ a b c2. absurd (both_ways (is_closing r) a v);
          coming = λ a. absurd (both_ways (is_closing r) a v);
          unopened = k2.1.unopened;
          early = k2.1.early;
        },
      )
      joint Sender_ahead k2 =
          let l : Ahead (sender_marks s) (receiver_marks r) (Data false on ∷ kinds to_receiver_kind p) (kinds to_sender_kind q) = subst (λ (x : Kind). Ahead (sender_marks s) (receiver_marks r) (x ∷ kinds to_receiver_kind p) (kinds to_sender_kind q)) e k2 in
          record { left = l.left; none = l.none; unheard = l.unheard; passes = l.passes.3 }
      joint Receiver_ahead k2 = absurd (cc (k2.none))

  -- no such command comes to an end that is not there, and none with another link
  pub r_there : (c : Command) (on : ℕ) → to_receiver_kind c ≡ Data false on → Core s g r h (c ∷ p) q t → (r.asked ≡ true) × (on ≡ r.link)
  r_there c on e k = go k.place k.joint
    where
      go : (d : Place) → Joint d s g r h (c ∷ p) q t → (r.asked ≡ true) × (on ≡ r.link)
      go Together k2 =
          let f = same_data_fits (receiver_marks r) (sender_marks s) (kinds to_sender_kind q) (kinds to_receiver_kind p) false on
          (subst (λ (x : Kind). Same (receiver_marks r) (sender_marks s) (kinds to_sender_kind q) (x ∷ kinds to_receiver_kind p)) e (swapped (c ∷ p) q k2.0)) in
          (f.0, f.2)
      go Sender_ahead k2 =
          let l : Ahead (sender_marks s) (receiver_marks r) (Data false on ∷ kinds to_receiver_kind p) (kinds to_sender_kind q) = subst (λ (x : Kind). Ahead (sender_marks s) (receiver_marks r) (x ∷ kinds to_receiver_kind p) (kinds to_sender_kind q)) e k2 in
          (l.passes.1, l.passes.2)
      go Receiver_ahead k2 = absurd (cc (k2.none))

  pub r_fits : (c : Command) (on : ℕ) → to_receiver_kind c ≡ Data false on → is_closing r ≡ false → Core s g r h (c ∷ p) q t → Fits s g r h p (c ∷ p) q t
  r_fits c on e v k = go k.place k.joint
    where
      go : (d : Place) → Joint d s g r h (c ∷ p) q t → Fits s g r h p (c ∷ p) q t
      go Together k2 =
          let f = same_data_fits (receiver_marks r) (sender_marks s) (kinds to_sender_kind q) (kinds to_receiver_kind p) false on
          (subst (λ (x : Kind). Same (receiver_marks r) (sender_marks s) (kinds to_sender_kind q) (x ∷ kinds to_receiver_kind p)) e (swapped (c ∷ p) q k2.0)) in
          record {
            opened = fr.opens v f.0 f.1;
            same = same_swap (receiver_marks r) (sender_marks s) (kinds to_sender_kind q) (kinds to_receiver_kind p) f.3;
            books = k2.1;
            size = sym (same_number (receiver_marks r) (sender_marks s) (kinds to_sender_kind q) (kinds to_receiver_kind p) f.1 f.3);
          }
      go Sender_ahead k2 = absurd (both_ways r.left (going_parts r v).1 k2.left)
      go Receiver_ahead k2 = absurd (cc (k2.none))

  -- a RET is never over what is outstanding
  pub r_enough : (on m b : ℕ) → is_closing r ≡ false → Core s g r h (Ret on m b ∷ p) q t → (m ≤ r.messages) × (b ≤ r.bits)
  r_enough on m b v k =
      let f = r_fits (Ret on m b) on refl v k in
      (omega (arith, f.books.enough_messages v), omega (arith, f.books.enough_bits v))

  pub r_ret : (on m b : ℕ) → is_closing r ≡ false → Core s g r h (Ret on m b ∷ p) q t → Core s g (record r { messages = r.messages - m; bits = r.bits - b; recall = false }) h p q t
  r_ret on m b v k =
      let f = r_fits (Ret on m b) on refl v k in
      let le = r_enough on m b v k in
      record {
        out = k.out;
        sized = k.sized;
        begun = k.begun;
        dead = k.dead;
        place = Together;
        joint = (
          f.same,
          record {
            messages = λ a c. omega (arith, le.0, f.books.messages a c);
            bits = λ a c. omega (arith, le.1, f.books.bits a c);
            enough_messages = λ a. omega (arith, le.0, f.books.enough_messages a);
            enough_bits = λ a. omega (arith, le.1, f.books.enough_bits a);
            within_messages = f.books.within_messages;
            within_bits = f.books.within_bits;
            parted = f.books.parted;
            coming = f.books.coming;
            unopened = f.books.unopened;
            early = λ c. absurd (both_ways r.opened c f.opened);
          },
        );
      }

  pub r_ins : (on : ℕ) → is_closing r ≡ false → Core s g r h (Ins on ∷ p) q t → Core s g (record r { interrupts = min (r.interrupts + 1) MAX_COUNT }) h p q t
  r_ins on v k =
      let f = r_fits (Ins on) on refl v k in
      record {
        out = k.out;
        sized = k.sized;
        begun = k.begun;
        dead = k.dead;
        place = Together;
        joint = (f.same, books_receiver s g r (record r { interrupts = min (r.interrupts + 1) MAX_COUNT }) h p q t refl refl refl (λ e. e) (books_as s g r h (Ins on ∷ p) p q q t (omega arith) (omega arith) refl refl f.books));
      }

  -- An open receiver.

  open_same : (d : Place) → r.heard ≡ true → r.left ≡ false → Joint d s g r h p q t → Same (sender_marks s) (receiver_marks r) (kinds to_receiver_kind p) (kinds to_sender_kind q) × Books s g r h p q t
  open_same Together o l k2 = k2
  open_same Sender_ahead o l k2 = absurd (both_ways r.left l k2.left)
  open_same Receiver_ahead o l k2 = absurd (both_ways r.heard k2.unheard o)

  pub r_allocates : (on m b : ℕ) → on ≡ r.link → is_closing r ≡ false → r.asked ≡ true → r.heard ≡ true → r.messages + m ≤ 65535 → r.bits + length r.stored + b ≤ 65536
      → Core s g r h p q t → Core s g (record r { messages = r.messages + m; bits = r.bits + b }) h p (q ++ All on m b ∷ []) t
  r_allocates on m b e v a o lm lb k =
      let f = open_same k.place o (going_parts r v).1 k.joint in
      let qm = sum_more granted_messages q (All on m b ∷ []) in
      let qb = sum_more granted_bits q (All on m b ∷ []) in
      record {
        out = k.out;
        sized = k.sized;
        begun = k.begun;
        dead = k.dead;
        place = Together;
        joint = (
          rw (kinds_more to_sender_kind q (All on m b ∷ []))
              (same_swap (receiver_marks r) (sender_marks s) (kinds to_sender_kind q ++ Data true on ∷ []) (kinds to_receiver_kind p)
              (same_data (receiver_marks r) (sender_marks s) (kinds to_sender_kind q) (kinds to_receiver_kind p) true on a o (going_parts r v).1 e (swapped p q f.0))),
          record {
            messages = λ x c. omega (arith, qm, f.1.messages x c);
            bits = λ x c. omega (arith, qb, f.1.bits x c);
            enough_messages = λ x. omega (arith, f.1.enough_messages x);
            enough_bits = λ x. omega (arith, f.1.enough_bits x);
            within_messages = λ c. omega (arith, qm, lm, f.1.messages v c);
            within_bits = λ c. omega (arith, qb, lb, f.1.bits v c);
            parted = f.1.parted;
            coming = f.1.coming;
            unopened = f.1.unopened;
            early = λ c. absurd (both_ways r.opened c (fr.opens v a o));
          },
        );
      }

  -- GVB or INR is made
  pub r_makes : (c : Command) (r' : Endpoint) (on : ℕ) → to_sender_kind c ≡ Data true on → granted_messages c ≡ 0 → granted_bits c ≡ 0 → on ≡ r.link → is_closing r ≡ false → r.asked ≡ true → r.heard ≡ true
      → receiver_marks r' ≡ receiver_marks r → is_closing r' ≡ is_closing r → r'.messages ≡ r.messages → r'.bits ≡ r.bits → r'.opened ≡ r.opened
      → Core s g r h p q t → Core s g r' h p (q ++ c ∷ []) t
  r_makes c r' on e gm gb w v a o m n nm nb nx k =
      let f = open_same k.place o (going_parts r v).1 k.joint in
      record {
        out = k.out;
        sized = k.sized;
        begun = k.begun;
        dead = λ x. k.dead (sym nx ∙ x);
        place = Together;
        joint = (
          rw (kinds_more to_sender_kind q (c ∷ []), e, m)
              (same_swap (receiver_marks r) (sender_marks s) (kinds to_sender_kind q ++ Data true on ∷ []) (kinds to_receiver_kind p)
              (same_data (receiver_marks r) (sender_marks s) (kinds to_sender_kind q) (kinds to_receiver_kind p) true on a o (going_parts r v).1 w (swapped p q f.0))),
          books_as s g r' h p p q (q ++ c ∷ []) t refl refl (sum_same granted_messages q c gm) (sum_same granted_bits q c gb)
              (books_receiver s g r r' h p q t n nm nb (λ x. sym nx ∙ x) f.1),
        );
      }

  -- held bits are taken
  pub r_takes : (xs : List Bool) → Core s g r h p q t → Core s g (record r { stored = xs }) h p q t
  r_takes xs k = record { out = k.out; sized = k.sized; begun = k.begun; dead = k.dead; place = k.place; joint = joint k.place k.joint }
    where
      joint : (d : Place) → Joint d s g r h p q t → Joint d s g (record r { stored = xs }) h p q t
      joint Together k2 = (k2.0, books_receiver s g r (record r { stored = xs }) h p q t refl refl refl (λ c. c) k2.1)
      joint Sender_ahead k2 = k2
      joint Receiver_ahead k2 = k2

-- A text comes.

module _ (s : Endpoint) (g : List Bool) (r : Endpoint) (h : List Bool) (p q : List Command) (fs : EndpointInvariant s) (fr : EndpointInvariant r) (li n : ℕ) (bits : List Bool) where
  pub text_late : is_closing r ≡ true → Core s g r h p q (Away li n bits) → Core s g r h p q (Here li)
  text_late v k = record { out = k.out; sized = k.sized.1; begun = k.begun; dead = k.dead; place = k.place; joint = joint k.place k.joint }
    where
      joint : (d : Place) → Joint d s g r h p q (Away li n bits) → Joint d s g r h p q (Here li)
      joint Together k2 = (
        k2.0,
        record {
          messages = λ a b. absurd (both_ways (is_closing r) a v);
          bits = λ a b. absurd (both_ways (is_closing r) a v);
          enough_messages = λ a. absurd (both_ways (is_closing r) a v);
          enough_bits = λ a. absurd (both_ways (is_closing r) a v);
          within_messages = k2.1.within_messages;
          within_bits = k2.1.within_bits;
          parted = λ a b c. absurd (both_ways (is_closing r) a v);
          coming = λ a. absurd (both_ways (is_closing r) a v);
          unopened = k2.1.unopened;
          early = k2.1.early;
        },
      )
      joint Sender_ahead k2 = k2
      joint Receiver_ahead k2 = k2

  -- an end to which a text comes has opened
  pub text_opened : Core s g r h p q (Away li n bits) → r.opened ≡ true
  text_opened k = go k.place k.joint
    where
      from : (b : Bool) → r.opened ≡ b → (r.opened ≡ false → s.busy ≡ false) → b ≡ true
      from true e f = refl
      from false e f = absurd (both_ways s.busy (f e) k.out)

      go : (d : Place) → Joint d s g r h p q (Away li n bits) → r.opened ≡ true
      go Together k2 = from r.opened refl (λ c. (k2.1.early c).2)
      go Sender_ahead k2 = absurd (both_ways s.heard k2.unheard (fs.marks (fs.out k.out).0).1)
      go Receiver_ahead k2 = absurd (both_ways s.left (fs.out k.out).1 k2.left)

  pub text_fits : is_closing r ≡ false → Core s g r h p q (Away li n bits) → Fits s g r h p p q (Away li n bits)
  text_fits v k = go k.place k.joint
    where
      o : r.opened ≡ true
      o = text_opened k

      go : (d : Place) → Joint d s g r h p q (Away li n bits) → Fits s g r h p p q (Away li n bits)
      go Together k2 = record {
        opened = o;
        same = k2.0;
        books = k2.1;
        size = sym (same_number (receiver_marks r) (sender_marks s) (kinds to_sender_kind q) (kinds to_receiver_kind p) (fr.marks o).1
            (same_swap (sender_marks s) (receiver_marks r) (kinds to_receiver_kind p) (kinds to_sender_kind q) k2.0));
      }
      go Sender_ahead k2 = absurd (both_ways r.left (going_parts r v).1 k2.left)
      go Receiver_ahead k2 = absurd (both_ways s.left (fs.out k.out).1 k2.left)

  -- it is of the end's size, and within what is outstanding
  pub text_within : is_closing r ≡ false → Core s g r h p q (Away li n bits) → (n ≡ r.size) × (1 ≤ r.messages) × (length bits ≤ r.bits)
  text_within v k =
      let f = text_fits v k in
      (k.sized.0 ∙ f.size, omega (arith, f.books.enough_messages v), omega (arith, f.books.enough_bits v))

  pub text_admitted : is_closing r ≡ false → Core s g r h p q (Away li n bits)
      → Core s g (record r { messages = r.messages - 1; bits = r.bits - length bits; stored = r.stored ++ bits }) (h ++ bits) p q (Here li)
  text_admitted v k =
      let f = text_fits v k in
      let w = text_within v k in
      record {
        out = k.out;
        sized = k.sized.1;
        begun = f.books.coming v;
        dead = λ e. absurd (both_ways r.opened e f.opened);
        place = Together;
        joint = (
          f.same,
          record {
            messages = λ a c. omega (arith, w.1, f.books.messages a c);
            bits = λ a c. omega (arith, w.2, f.books.bits a c);
            enough_messages = λ a. omega (arith, w.1, f.books.enough_messages a);
            enough_bits = λ a. omega (arith, w.2, f.books.enough_bits a);
            within_messages = f.books.within_messages;
            within_bits = f.books.within_bits;
            parted = λ a c d. f.books.parted a c d ∙ sym (append_assoc h bits s.stored);
            coming = λ a. rw append-nil (f.books.coming a);
            unopened = λ c. absurd (both_ways s.opened c (fs.out k.out).0);
            early = λ c. absurd (both_ways r.opened c f.opened);
          },
        );
      }
