-- Meant for other crates too: they cite what is public here.
--
-- The joint invariant of the two ends of a connection, of the commands underway between them (queued or
-- in flight), and of the unacknowledged text. It holds after every event.
use Rattle.std.proofs.Common.{◌≡◌, ℕ, ◌+◌, ◌≤◌, Bool, true, false, not, ◌||◌, ◌==◌, List, [], ◌∷◌, ◌++◌, length, Option, None, Some, refl, ap, arith, cond}
use Rattle.std.specs.Bool.{⊤}
use Rattle.std.proofs.lemmas.Bool.{both_ways}
use Rattle.ncp_wire.specs.declared.command.Command.{Command}
use Rattle.ncp_wire.specs.declared.command.Command.TheVariants.{Rts, Str, Cls, All, Gvb, Ret, Inr, Ins}
use Rattle.ncp_model.specs.declared.pair.Pair.{Pair}
use Rattle.ncp_model.specs.Effect.{is_data_link}
use Rattle.ncp_model.specs.Endpoint.{Endpoint, new_end, or_new, is_closing, is_live}
use Rattle.ncp_proof_endpoint.specs.Sound.{SoundEnd}
use Rattle.ncp_proof_endpoint.specs.Histories.{PairHistory, IsPrefix}
use Rattle.ncp_proof_connection.specs.Connections.{Text, No_text, Away, Here}
use Rattle.ncp_proof_connection.specs.Ledger.{sum_of, text_messages, text_bits, is_text_out}
use Rattle.ncp_proof_connection.proofs.Lines.{Kind, Request, Close, Data, Alien, Marks, Same, Ahead, Well}
use Rattle.ncp_model.proofs.AmountParts.{granted_messages, granted_bits, returned_messages, returned_bits}

-- Commands, by what they are on their way to the sender, and to the receiver.

abbrev pub to_sender_kind : Command → Kind
to_sender_kind (Rts receive send on) = Request on (is_data_link on)
to_sender_kind (Cls my your) = Close
to_sender_kind (All on m b) = Data true on
to_sender_kind (Gvb on m b) = Data true on
to_sender_kind (Inr on) = Data true on
to_sender_kind c = Alien

abbrev pub to_receiver_kind : Command → Kind
to_receiver_kind (Str send receive of_size) = Request of_size (not (of_size == 0))
to_receiver_kind (Cls my your) = Close
to_receiver_kind (Ret on m b) = Data false on
to_receiver_kind (Ins on) = Data false on
to_receiver_kind c = Alien

abbrev pub kinds : (Command → Kind) → List Command → List Kind
kinds f [] = []
kinds f (c ∷ cs) = f c ∷ kinds f cs

pub kinds_more : (f : Command → Kind) (cs ds : List Command) → kinds f (cs ++ ds) ≡ kinds f cs ++ kinds f ds
kinds_more f [] ds = refl
kinds_more f (c ∷ cs) ds = ap (λ (ks : List Kind). f c ∷ ks) (kinds_more f cs ds)

pub sum_more : (f : Command → ℕ) (cs ds : List Command) → sum_of f (cs ++ ds) ≡ sum_of f cs + sum_of f ds
sum_more f [] ds = omega arith
sum_more f (c ∷ cs) ds = omega (arith, sum_more f cs ds)

-- a command that counts nothing
pub sum_same : (f : Command → ℕ) (cs : List Command) (c : Command) → f c ≡ 0 → sum_of f (cs ++ c ∷ []) ≡ sum_of f cs
sum_same f cs c e = omega (arith, sum_more f cs (c ∷ []), e)

abbrev pub sender_marks : Endpoint → Marks
sender_marks e = record { asked = e.asked; heard = e.heard; left = e.left; cls = e.cls; own = e.size; its = e.link }

abbrev pub receiver_marks : Endpoint → Marks
receiver_marks e = record { asked = e.asked; heard = e.heard; left = e.left; cls = e.cls; own = e.link; its = e.size }

-- an end is there by a request; its room is a store's
abbrev pub Stands : Endpoint → Type 0
Stands e = ((e.asked || e.heard) ≡ true) × (e.room ≤ 65536)

abbrev pub StandsAt : Option Endpoint → Type 0
StandsAt None = ⊤
StandsAt (Some e) = Stands e

pub well : (pair : Pair) (e : Endpoint) → SoundEnd pair e → (e.left ≡ true → (e.asked || e.heard) ≡ true) → (e.cls ≡ true → e.heard ≡ true) × (e.left ≡ true → e.cls ≡ false)
well pair e s t = (λ c. grind arith, λ l. grind arith)

-- what a live receiver got
abbrev pub live_got : Option Endpoint → PairHistory → List Bool
live_got before past = cond (is_live before) past.got []

-- Both ends are in one round. What a receiver has that is going no longer counts.
pub record Books (s : Endpoint) (g : List Bool) (r : Endpoint) (h : List Bool) (p q : List Command) (t : Text) : Type 0 where
  pub messages : is_closing r ≡ false → is_closing s ≡ false → r.messages ≡ s.messages + (sum_of granted_messages q + (text_messages t + sum_of returned_messages p))
  pub bits : is_closing r ≡ false → is_closing s ≡ false → r.bits ≡ s.bits + (sum_of granted_bits q + (length (text_bits t) + sum_of returned_bits p))
  pub enough_messages : is_closing r ≡ false → text_messages t + sum_of returned_messages p ≤ r.messages
  pub enough_bits : is_closing r ≡ false → length (text_bits t) + sum_of returned_bits p ≤ r.bits
  pub within_messages : is_closing s ≡ false → s.messages + sum_of granted_messages q ≤ 65535
  pub within_bits : is_closing s ≡ false → s.bits + sum_of granted_bits q ≤ 65536
  pub parted : is_closing r ≡ false → is_closing s ≡ false → s.opened ≡ true → g ≡ h ++ (text_bits t ++ s.stored)
  pub coming : is_closing r ≡ false → IsPrefix (h ++ text_bits t) g
  pub unopened : s.opened ≡ false → h ≡ []
  pub early : r.opened ≡ false → (s.messages ≡ 0) × (sum_of granted_messages q ≡ 0) × (s.busy ≡ false)

-- where the ends are: in one round, or one has ended it and the other has not
pub data Place : Type 0 where
  Together : Place
  Sender_ahead : Place
  Receiver_ahead : Place

abbrev pub Joint : Place → Endpoint → List Bool → Endpoint → List Bool → List Command → List Command → Text → Type 0
Joint Together s g r h p q t = Same (sender_marks s) (receiver_marks r) (kinds to_receiver_kind p) (kinds to_sender_kind q) × Books s g r h p q t
Joint Sender_ahead s g r h p q t = Ahead (sender_marks s) (receiver_marks r) (kinds to_receiver_kind p) (kinds to_sender_kind q)
Joint Receiver_ahead s g r h p q t = Ahead (receiver_marks r) (sender_marks s) (kinds to_sender_kind q) (kinds to_receiver_kind p)

-- the unacknowledged text has the sender's size, and was sent on its link
abbrev pub Sized : ℕ → ℕ → Text → Type 0
Sized size link No_text = ⊤
Sized size link (Away li of_size bits) = (of_size ≡ size) × (li ≡ link)
Sized size link (Here li) = li ≡ link

pub record Core (s : Endpoint) (g : List Bool) (r : Endpoint) (h : List Bool) (p q : List Command) (t : Text) : Type 0 where
  pub out : s.busy ≡ is_text_out t
  pub sized : Sized s.size s.link t
  pub begun : IsPrefix h g
  pub dead : r.opened ≡ false → h ≡ []
  pub place : Place
  pub joint : Joint place s g r h p q t

-- what no act changes of a sound end
pub record EndpointInvariant (e : Endpoint) : Type 0 where
  pub marks : e.opened ≡ true → (e.asked ≡ true) × (e.heard ≡ true)
  pub opens : is_closing e ≡ false → e.asked ≡ true → e.heard ≡ true → e.opened ≡ true
  pub zero : e.opened ≡ false → (e.messages ≡ 0) × (e.bits ≡ 0) × (e.stored ≡ []) × (e.busy ≡ false) × (e.leaving ≡ false)
  pub out : e.busy ≡ true → (e.opened ≡ true) × (e.left ≡ false)
  pub leaving : e.leaving ≡ true → (e.opened ≡ true) × (e.left ≡ false)
  pub cls : e.cls ≡ true → e.leaving ≡ true
  pub there : e.left ≡ true → (e.asked || e.heard) ≡ true
  pub room : e.room ≤ 65536

true_or : (b : Bool) → (b ≡ false → ⊥) → b ≡ true
true_or true f = refl
true_or false f = absurd (f refl)

false_or : (b : Bool) → (b ≡ true → ⊥) → b ≡ false
false_or true f = absurd (f refl)
false_or false f = refl

pub firm : (pair : Pair) (e : Endpoint) → SoundEnd pair e → (e.left ≡ true → (e.asked || e.heard) ≡ true) → e.room ≤ 65536 → EndpointInvariant e
firm pair e s t m = record {
  marks = λ o. (s.asked o, s.heard o);
  opens = λ g a o. s.opens (grind arith);
  zero = λ o. (s.messages o, s.bits o, s.stored o, s.busy o, s.leaving o);
  out = λ b. (true_or e.opened (λ o. both_ways e.busy (s.busy o) b), s.out b);
  leaving = λ l. (true_or e.opened (λ o. both_ways e.leaving (s.leaving o) l), false_or e.left (λ f. both_ways e.leaving (s.due f) l));
  cls = s.shut;
  there = t;
  room = m;
}

pub new_firm : EndpointInvariant new_end
new_firm = record {
  marks = λ o. absurd (both_ways false refl o);
  opens = λ g a o. absurd (both_ways false refl a);
  zero = λ o. (refl, refl, refl, refl, refl);
  out = λ b. absurd (both_ways false refl b);
  leaving = λ l. absurd (both_ways false refl l);
  cls = λ c. absurd (both_ways false refl c);
  there = λ l. absurd (both_ways false refl l);
  room = omega arith;
}

pub firm_at : (pair : Pair) (o : Option Endpoint) → EndpointInvariant (or_new o) → EndpointInvariant (or_new o)
firm_at pair o f = f

pub sender_well : (e : Endpoint) → EndpointInvariant e → Well (sender_marks e)
sender_well e f = record {
  heard = λ c. (f.marks (f.leaving (f.cls c)).0).1;
  over = λ l. false_or e.cls (λ c. both_ways e.left (f.leaving (f.cls c)).1 l);
  there = f.there;
}

pub receiver_well : (e : Endpoint) → EndpointInvariant e → Well (receiver_marks e)
receiver_well e f = record {
  heard = λ c. (f.marks (f.leaving (f.cls c)).0).1;
  over = λ l. false_or e.cls (λ c. both_ways e.left (f.leaving (f.cls c)).1 l);
  there = f.there;
}

pub no_text : (s : Endpoint) (t : Text) → s.busy ≡ is_text_out t → s.busy ≡ false → t ≡ No_text
no_text s No_text k e = refl
no_text s (Away li n bits) k e = absurd (both_ways s.busy e k)
no_text s (Here li) k e = absurd (both_ways s.busy e k)

-- an end that did not ask or did not hear has not opened
pub unasked : (e : Endpoint) → EndpointInvariant e → e.asked ≡ false → e.opened ≡ false
unasked e f a = false_or e.opened (λ o. both_ways e.asked a (f.marks o).0)

pub unheard : (e : Endpoint) → EndpointInvariant e → e.heard ≡ false → e.opened ≡ false
unheard e f a = false_or e.opened (λ o. both_ways e.heard a (f.marks o).1)

pub left_not_busy : (e : Endpoint) → EndpointInvariant e → e.left ≡ true → e.busy ≡ false
left_not_busy e f l = false_or e.busy (λ b. both_ways e.left (f.out b).1 l)

pub begun_empty : (xs : List Bool) → IsPrefix [] xs
begun_empty xs = (xs, refl)

pub sized_none : (n l : ℕ) (t : Text) → t ≡ No_text → Sized n l t
sized_none n l No_text e = tt
sized_none n l (Away li m bits) e = absurd (cc e)
sized_none n l (Here li) e = absurd (cc e)
