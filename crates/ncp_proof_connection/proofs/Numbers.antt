-- The books of two ends in one round, where what changes counts nothing.
use Rattle.std.proofs.Common.{◌≡◌, Bool, true, false, List, [], length, refl, ap, sym, ◌∙◌, arith}
use Rattle.std.proofs.lemmas.Bool.{both_ways}
use Rattle.ncp_wire.specs.declared.command.Command.{Command}
use Rattle.ncp_model.specs.Endpoint.{Endpoint, is_closing}
use Rattle.ncp_proof_connection.specs.Connections.{Text, No_text}
use Rattle.ncp_proof_connection.specs.Ledger.{sum_of, text_messages, text_bits}
use Rattle.ncp_proof_connection.proofs.Joint.{Books, begun_empty}
use Rattle.ncp_model.proofs.AmountParts.{granted_messages, granted_bits, returned_messages, returned_bits}

-- commands that count nothing
pub books_as : (s : Endpoint) (g : List Bool) (r : Endpoint) (h : List Bool) (p p' q q' : List Command) (t : Text)
    → sum_of returned_messages p' ≡ sum_of returned_messages p → sum_of returned_bits p' ≡ sum_of returned_bits p
    → sum_of granted_messages q' ≡ sum_of granted_messages q → sum_of granted_bits q' ≡ sum_of granted_bits q
    → Books s g r h p q t → Books s g r h p' q' t
books_as s g r h p p' q q' t pm pb qm qb k = record {
  messages = λ a b. omega (arith, pm, pb, qm, qb, k.messages a b);
  bits = λ a b. omega (arith, pm, pb, qm, qb, k.bits a b);
  enough_messages = λ a. omega (arith, pm, pb, k.enough_messages a);
  enough_bits = λ a. omega (arith, pm, pb, k.enough_bits a);
  within_messages = λ b. omega (arith, qm, qb, k.within_messages b);
  within_bits = λ b. omega (arith, qm, qb, k.within_bits b);
  parted = k.parted;
  coming = k.coming;
  unopened = k.unopened;
  early = λ c. (let e = k.early c in (e.0, qm ∙ e.1, e.2));
}

-- the receiver changes, and is going as before
pub books_receiver : (s : Endpoint) (g : List Bool) (r r' : Endpoint) (h : List Bool) (p q : List Command) (t : Text)
    → is_closing r' ≡ is_closing r → r'.messages ≡ r.messages → r'.bits ≡ r.bits → (r'.opened ≡ false → r.opened ≡ false)
    → Books s g r h p q t → Books s g r' h p q t
books_receiver s g r r' h p q t v m b o k = record {
  messages = λ a c. m ∙ k.messages (sym v ∙ a) c;
  bits = λ a c. b ∙ k.bits (sym v ∙ a) c;
  enough_messages = λ a. omega (arith, m, k.enough_messages (sym v ∙ a));
  enough_bits = λ a. omega (arith, b, k.enough_bits (sym v ∙ a));
  within_messages = k.within_messages;
  within_bits = k.within_bits;
  parted = λ a c d. k.parted (sym v ∙ a) c d;
  coming = λ a. k.coming (sym v ∙ a);
  unopened = k.unopened;
  early = λ c. k.early (o c);
}

-- the sender changes no number, and is going as before
pub books_sender : (s s' : Endpoint) (g : List Bool) (r : Endpoint) (h : List Bool) (p q : List Command) (t : Text)
    → is_closing s' ≡ is_closing s → s'.messages ≡ s.messages → s'.bits ≡ s.bits → s'.stored ≡ s.stored → s'.opened ≡ s.opened → (s.busy ≡ false → s'.busy ≡ false)
    → Books s g r h p q t → Books s' g r h p q t
books_sender s s' g r h p q t v m b w o y k = record {
  messages = λ a c. omega (arith, m, k.messages a (sym v ∙ c));
  bits = λ a c. omega (arith, b, k.bits a (sym v ∙ c));
  enough_messages = k.enough_messages;
  enough_bits = k.enough_bits;
  within_messages = λ c. omega (arith, m, k.within_messages (sym v ∙ c));
  within_bits = λ c. omega (arith, b, k.within_bits (sym v ∙ c));
  parted = λ a c d. rw w (k.parted a (sym v ∙ c) (sym o ∙ d));
  coming = k.coming;
  unopened = λ c. k.unopened (sym o ∙ c);
  early = λ c. (let e = k.early c in (m ∙ e.0, e.1, y e.2));
}

-- the sender is going: the counters count no longer
pub books_going : (s s' : Endpoint) (g : List Bool) (r : Endpoint) (h : List Bool) (p p' q : List Command) (t : Text)
    → is_closing s' ≡ true → s'.opened ≡ s.opened → s'.messages ≡ s.messages → s'.busy ≡ s.busy
    → sum_of returned_messages p' ≡ sum_of returned_messages p → sum_of returned_bits p' ≡ sum_of returned_bits p
    → Books s g r h p q t → Books s' g r h p' q t
books_going s s' g r h p p' q t v o m b pm pb k = record {
  messages = λ a c. absurd (both_ways (is_closing s') c v);
  bits = λ a c. absurd (both_ways (is_closing s') c v);
  enough_messages = λ a. omega (arith, pm, k.enough_messages a);
  enough_bits = λ a. omega (arith, pb, k.enough_bits a);
  within_messages = λ c. absurd (both_ways (is_closing s') c v);
  within_bits = λ c. absurd (both_ways (is_closing s') c v);
  parted = λ a c d. absurd (both_ways (is_closing s') c v);
  coming = k.coming;
  unopened = λ a. k.unopened (sym o ∙ a);
  early = λ c. (let e = k.early c in (m ∙ e.0, e.1, b ∙ e.2));
}

-- the receiver is going: nothing counts
pub books_receiver_going : (s : Endpoint) (g : List Bool) (r r' : Endpoint) (h : List Bool) (p q q' : List Command) (t : Text)
    → is_closing r' ≡ true → r'.opened ≡ r.opened → sum_of granted_messages q' ≡ sum_of granted_messages q → sum_of granted_bits q' ≡ sum_of granted_bits q
    → Books s g r h p q t → Books s g r' h p q' t
books_receiver_going s g r r' h p q q' t v o qm qb k = record {
  messages = λ a b. absurd (both_ways (is_closing r') a v);
  bits = λ a b. absurd (both_ways (is_closing r') a v);
  enough_messages = λ a. absurd (both_ways (is_closing r') a v);
  enough_bits = λ a. absurd (both_ways (is_closing r') a v);
  within_messages = λ b. omega (arith, qm, k.within_messages b);
  within_bits = λ b. omega (arith, qb, k.within_bits b);
  parted = λ a b c. absurd (both_ways (is_closing r') a v);
  coming = λ a. absurd (both_ways (is_closing r') a v);
  unopened = k.unopened;
  early = λ c. (let e = k.early (sym o ∙ c) in (e.0, qm ∙ e.1, e.2));
}

-- a sender that has not opened: now it may have
pub books_opens : (s s' : Endpoint) (g g' : List Bool) (r : Endpoint) (h : List Bool) (p q : List Command) (t : Text)
    → s.opened ≡ false → is_closing s' ≡ is_closing s → s'.messages ≡ s.messages → s'.bits ≡ s.bits → s'.busy ≡ s.busy → s'.stored ≡ [] → t ≡ No_text → (s'.opened ≡ true → g' ≡ [])
    → Books s g r h p q t → Books s' g' r h p q t
books_opens s s' g g' r h p q t o v m b y w none e k =
    let empty : h ≡ [] = k.unopened o in
    record {
      messages = λ a c. omega (arith, m, k.messages a (sym v ∙ c));
      bits = λ a c. omega (arith, b, k.bits a (sym v ∙ c));
      enough_messages = k.enough_messages;
      enough_bits = k.enough_bits;
      within_messages = λ c. omega (arith, m, k.within_messages (sym v ∙ c));
      within_bits = λ c. omega (arith, b, k.within_bits (sym v ∙ c));
      parted = λ a c d. rw (e d, empty, none, w) refl;
      coming = λ a. rw (empty, none) (begun_empty _);
      unopened = λ a. empty;
      early = λ c. (let f = k.early c in (m ∙ f.0, f.1, y ∙ f.2));
    }

-- nothing counts yet
pub books_new : (s : Endpoint) (g : List Bool) (r : Endpoint) (h : List Bool) (p q : List Command) (t : Text)
    → s.opened ≡ false → s.messages ≡ 0 → s.bits ≡ 0 → s.busy ≡ false → r.messages ≡ 0 → r.bits ≡ 0 → h ≡ [] → t ≡ No_text
    → sum_of returned_messages p ≡ 0 → sum_of returned_bits p ≡ 0 → sum_of granted_messages q ≡ 0 → sum_of granted_bits q ≡ 0
    → Books s g r h p q t
books_new s g r h p q t o sm sb y rm rb e none pm pb qm qb =
    let t1 : text_messages t ≡ 0 = ap text_messages none in
    let t2 : length (text_bits t) ≡ 0 = ap (λ (u : Text). length (text_bits u)) none in
    record {
      messages = λ a b. omega (arith, sm, rm, pm, qm, t1);
      bits = λ a b. omega (arith, sb, rb, pb, qb, t2);
      enough_messages = λ a. omega (arith, pm, t1);
      enough_bits = λ a. omega (arith, pb, t2);
      within_messages = λ b. omega (arith, sm, qm);
      within_bits = λ b. omega (arith, sb, qb);
      parted = λ a b c. absurd (both_ways s.opened o c);
      coming = λ a. rw (e, none) (begun_empty _);
      unopened = λ a. e;
      early = λ c. (sm, qm, y);
    }
