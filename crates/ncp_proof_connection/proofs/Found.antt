-- Meant for other crates too: they cite what is public here.
--
-- What names a link finds the end for which it was made.
use Rattle.std.proofs.Common.{◌≡◌, ℕ, Bool, true, false, List, ◌∷◌, ◌++◌, Option, None, Some, refl, sym, ◌∙◌, subst, ◌⊎◌, inl, inr}
use Rattle.std.proofs.lemmas.Bool.{both_ways}
use Rattle.ncp_wire.specs.declared.command.Command.{Command}
use Rattle.ncp_wire.specs.declared.command.Command.TheVariants.{Rts, Str, Cls, All, Gvb, Ret, Inr, Ins}
use Rattle.ncp_model.specs.declared.pair.Pair.{Pair}
use Rattle.ncp_model.specs.Pairs.{sends, same}
use Rattle.ncp_model.specs.Endpoint.{Endpoint, or_new, is_live}
use Rattle.ncp_proof_endpoint.specs.Histories.{opens}
use Rattle.ncp_proof_connection.specs.Connections.{Text, No_text, Away, Here, Connection}
use Rattle.ncp_proof_connection.specs.Ledger.{is_text_out}
use Rattle.ncp_proof_connection.specs.Sharing.{Tagged, Shared, only, connection_at, hears_at}
use Rattle.ncp_proof_connection.specs.Finding.{link_out, GrantFinds, ReturnFinds, RequestFits, SenderHoldsLink, ReceiverHoldsLink, SenderOpensOn, ReceiverOpensOn, StaysOutFor}
use Rattle.ncp_proof_connection.proofs.Lines.{Data, Alien, same_number}
use Rattle.ncp_proof_connection.proofs.Joint.{to_sender_kind, to_receiver_kind, kinds, sender_marks, receiver_marks, Place, Together, Sender_ahead, Receiver_ahead, Joint, EndpointInvariant, live_got, Sized}
use Rattle.ncp_proof_connection.proofs.Senders.{s_there}
use Rattle.ncp_proof_connection.proofs.Receivers.{r_there}
use Rattle.ncp_proof_connection.proofs.Whole.{Local, Whole, Inv, s_firm, r_firm, alien_to_sender, alien_to_receiver, out_is_opened}
use Rattle.ncp_proof_connection.proofs.Outliving.{Fit, fit_opened}
use Rattle.ncp_proof_connection.proofs.Projecting.{same_refl, same_true, AllFit}
use Rattle.ncp_proof_connection.proofs.Linking.{hears_from, hears_parts, uses_from, asks_at, LinkFits}
use Rattle.ncp_proof_connection.proofs.Clear.{Clear}
use Rattle.ncp_proof_connection.proofs.LinkSteps.{rts_fits}
use Rattle.ncp_model.specs.Ends.{link_of}

to_sender_link : (c : Command) (on : ℕ) → link_of c ≡ Some on → (to_sender_kind c ≡ Data true on) ⊎ (to_sender_kind c ≡ Alien)
to_sender_link (All x a b) on e = inl (cc e)
to_sender_link (Gvb x a b) on e = inl (cc e)
to_sender_link (Inr x) on e = inl (cc e)
to_sender_link (Ret x a b) on e = inr refl
to_sender_link (Ins x) on e = inr refl
to_sender_link (Rts i j x) on e = absurd (cc e)
to_sender_link (Str i j x) on e = absurd (cc e)
to_sender_link (Cls i j) on e = absurd (cc e)
to_sender_link Command.Nop on e = absurd (cc e)
to_sender_link (Command.Eco b) on e = absurd (cc e)
to_sender_link (Command.Erp b) on e = absurd (cc e)
to_sender_link (Command.Err b d) on e = absurd (cc e)
to_sender_link Command.Rst on e = absurd (cc e)
to_sender_link Command.Rrp on e = absurd (cc e)

to_receiver_link : (c : Command) (on : ℕ) → link_of c ≡ Some on → (to_receiver_kind c ≡ Data false on) ⊎ (to_receiver_kind c ≡ Alien)
to_receiver_link (All x a b) on e = inr refl
to_receiver_link (Gvb x a b) on e = inr refl
to_receiver_link (Inr x) on e = inr refl
to_receiver_link (Ret x a b) on e = inl (cc e)
to_receiver_link (Ins x) on e = inl (cc e)
to_receiver_link (Rts i j x) on e = absurd (cc e)
to_receiver_link (Str i j x) on e = absurd (cc e)
to_receiver_link (Cls i j) on e = absurd (cc e)
to_receiver_link Command.Nop on e = absurd (cc e)
to_receiver_link (Command.Eco b) on e = absurd (cc e)
to_receiver_link (Command.Erp b) on e = absurd (cc e)
to_receiver_link (Command.Err b d) on e = absurd (cc e)
to_receiver_link Command.Rst on e = absurd (cc e)
to_receiver_link Command.Rrp on e = absurd (cc e)

module _ (q : Pair) (sq : sends q ≡ true) where
  -- the sender is there, whatever became of the receiver
  whole_sender : (c : Command) (on : ℕ) (cs : List Command) (w : Connection) → link_of c ≡ Some on → Local q (record w { to_sender = c ∷ cs }) → Whole (record w { to_sender = c ∷ cs }) → ((or_new w.sender.end).heard ≡ true) × (on ≡ (or_new w.sender.end).link)
  whole_sender c on cs w e l k = go (to_sender_link c on e)
    where
      go : (to_sender_kind c ≡ Data true on) ⊎ (to_sender_kind c ≡ Alien) → ((or_new w.sender.end).heard ≡ true) × (on ≡ (or_new w.sender.end).link)
      go (inl d) = s_there _ _ _ _ _ cs w.text (s_firm q sq (record w { to_sender = c ∷ cs }) l) (r_firm q sq (record w { to_sender = c ∷ cs }) l) c on d k
      go (inr d) = absurd (alien_to_sender q sq c cs w d k)

  sender_fits : (b : Bool) (c : Command) (on : ℕ) (cs : List Command) (w : Connection) → link_of c ≡ Some on → Fit q true b (record w { to_sender = c ∷ cs }) → ((or_new w.sender.end).heard ≡ true) × (on ≡ (or_new w.sender.end).link)
  sender_fits true c on cs w e k = whole_sender c on cs w e k.local k.core
  sender_fits false c on cs w e k = whole_sender c on (cs ++ k.lost) (record w { receiver = k.ghost; to_receiver = k.to_ghost }) e k.inv.local k.inv.core

  whole_receiver : (c : Command) (on : ℕ) (cs : List Command) (w : Connection) → link_of c ≡ Some on → Local q (record w { to_receiver = c ∷ cs }) → Whole (record w { to_receiver = c ∷ cs }) → ((or_new w.receiver.end).asked ≡ true) × (on ≡ (or_new w.receiver.end).link)
  whole_receiver c on cs w e l k = go (to_receiver_link c on e)
    where
      go : (to_receiver_kind c ≡ Data false on) ⊎ (to_receiver_kind c ≡ Alien) → ((or_new w.receiver.end).asked ≡ true) × (on ≡ (or_new w.receiver.end).link)
      go (inl d) = r_there _ _ _ _ cs _ w.text (s_firm q sq (record w { to_receiver = c ∷ cs }) l) (r_firm q sq (record w { to_receiver = c ∷ cs }) l) c on d k
      go (inr d) = absurd (alien_to_receiver q sq c cs w d k)

  receiver_fits : (a : Bool) (c : Command) (on : ℕ) (cs : List Command) (w : Connection) → link_of c ≡ Some on → Fit q a true (record w { to_receiver = c ∷ cs }) → ((or_new w.receiver.end).asked ≡ true) × (on ≡ (or_new w.receiver.end).link)
  receiver_fits true c on cs w e k = whole_receiver c on cs w e k.local k.core
  receiver_fits false c on cs w e k = whole_receiver c on (cs ++ k.lost) (record w { sender = k.ghost; to_sender = k.to_ghost }) e k.inv.local k.inv.core

  -- a text is out
  -- it is out on the sender's link
  linked : (on : ℕ) (t : Text) (size link : ℕ) → Sized size link t → link_out t ≡ Some on → (is_text_out t ≡ true) × (link ≡ on)
  linked on No_text size link z e = absurd (cc e)
  linked on (Away li n bits) size link z e = (refl, sym z.1 ∙ cc e)
  linked on (Here li) size link z e = (refl, sym z ∙ cc e)

  busy_whole : (w : Connection) (on : ℕ) → Inv q w → link_out w.text ≡ Some on → ((or_new w.sender.end).heard ≡ true) × ((or_new w.sender.end).link ≡ on)
  busy_whole w on k t =
      let f = s_firm q sq w k.local in
      let u = linked on w.text (or_new w.sender.end).size (or_new w.sender.end).link k.core.sized t in
      ((f.marks (f.out (k.core.out ∙ u.0)).0).1, u.1)

  busy_heard : (b : Bool) (w : Connection) (on : ℕ) → Fit q true b w → link_out w.text ≡ Some on → ((or_new w.sender.end).heard ≡ true) × ((or_new w.sender.end).link ≡ on)
  busy_heard true w on k t = busy_whole w on k t
  busy_heard false w on k t = busy_whole (record w { receiver = k.ghost; to_receiver = k.to_ghost; to_sender = w.to_sender ++ k.lost }) on k.inv t

  opened_asked : (o : Option Endpoint) → EndpointInvariant (or_new o) → is_live o ≡ true → (or_new o).asked ≡ true
  opened_asked None f v = absurd (both_ways false refl v)
  opened_asked (Some e) f v = (f.marks v).0

  same_link : (w : Connection) → Inv q w → is_text_out w.text ≡ true → (or_new w.receiver.end).link ≡ (or_new w.sender.end).link
  same_link w k t = go k.core.place k.core.joint
    where
      f : EndpointInvariant (or_new w.sender.end)
      f = s_firm q sq w k.local

      so : ((or_new w.sender.end).opened ≡ true) × ((or_new w.sender.end).left ≡ false)
      so = f.out (k.core.out ∙ t)

      go : (d : Place) → Joint d (or_new w.sender.end) w.sender.past.given (or_new w.receiver.end) (live_got w.receiver.end w.receiver.past) w.to_receiver w.to_sender w.text → (or_new w.receiver.end).link ≡ (or_new w.sender.end).link
      go Together j = sym (same_number (sender_marks (or_new w.sender.end)) (receiver_marks (or_new w.receiver.end)) (kinds to_receiver_kind w.to_receiver) (kinds to_sender_kind w.to_sender) (f.marks so.0).1 j.0)
      go Sender_ahead j = absurd (both_ways (or_new w.sender.end).heard j.unheard (f.marks so.0).1)
      go Receiver_ahead j = absurd (both_ways (or_new w.sender.end).left so.1 j.left)

  asked_whole : (w : Connection) (on : ℕ) → Inv q w → link_out w.text ≡ Some on → ((or_new w.receiver.end).asked ≡ true) × ((or_new w.receiver.end).link ≡ on)
  asked_whole w on k t =
      let u = linked on w.text (or_new w.sender.end).size (or_new w.sender.end).link k.core.sized t in
      (opened_asked w.receiver.end (r_firm q sq w k.local) (out_is_opened q sq w k u.0).1, same_link w k u.0 ∙ u.1)

  text_asked : (a : Bool) (w : Connection) (on : ℕ) → Fit q a true w → link_out w.text ≡ Some on → ((or_new w.receiver.end).asked ≡ true) × ((or_new w.receiver.end).link ≡ on)
  text_asked true w on k t = asked_whole w on k t
  text_asked false w on k t = asked_whole (record w { sender = k.ghost; to_sender = k.to_ghost; to_receiver = w.to_receiver ++ k.lost }) on k.inv t

module _ (s : Shared) (f : AllFit s) (k : LinkFits s) where
  pub grant_finds : s.sends ≡ true → GrantFinds s
  grant_finds a q c on rest e sq l =
      let fit : Fit q true s.receives (record (connection_at q s) { to_sender = c ∷ only q rest }) =
      subst (λ (x : Bool). Fit q x s.receives (record (connection_at q s) { to_sender = c ∷ only q rest })) a
      (rw (same_refl q) at (subst (λ (xs : List Tagged). Fit q s.sends s.receives (record (connection_at q s) { to_sender = only q xs })) e (f q sq))) in
      let u = sender_fits q sq s.receives c on (only q rest) (connection_at q s) l fit in
      let h = hears_from on q (or_new (s.sender q).end) sq u.0 (sym u.1) in
      (h, λ p m. k.senders a p q on m h)

  pub return_finds : s.receives ≡ true → ReturnFinds s
  return_finds a q c on rest e sq l =
      let fit : Fit q s.sends true (record (connection_at q s) { to_receiver = c ∷ only q rest }) =
      subst (λ (x : Bool). Fit q s.sends x (record (connection_at q s) { to_receiver = c ∷ only q rest })) a
      (rw (same_refl q) at (subst (λ (xs : List Tagged). Fit q s.sends s.receives (record (connection_at q s) { to_receiver = only q xs })) e (f q sq))) in
      let u = receiver_fits q sq s.sends c on (only q rest) (connection_at q s) l fit in
      let h = uses_from on q (or_new (s.receiver q).end) sq u.0 (sym u.1) in
      (h, λ p m. k.receivers a p q on m h)

  pub sender_holds : s.sends ≡ true → SenderHoldsLink s
  sender_holds a q on t sq =
      let u = busy_heard q sq s.receives (connection_at q s) on (subst (λ (x : Bool). Fit q x s.receives (connection_at q s)) a (f q sq)) t in
      let h = hears_from on q (or_new (s.sender q).end) sq u.0 u.1 in
      (h, λ p m. k.senders a p q on m h)

  pub receiver_holds : s.receives ≡ true → ReceiverHoldsLink s
  receiver_holds a q on t sq =
      let u = text_asked q sq s.sends (connection_at q s) on (subst (λ (x : Bool). Fit q s.sends x (connection_at q s)) a (f q sq)) t in
      let h = uses_from on q (or_new (s.receiver q).end) sq u.0 u.1 in
      (h, λ p m. k.receivers a p q on m h)

  pub request_fits : s.sends ≡ true → RequestFits s
  request_fits a q i j on rest e sq p m = go (same q p) refl
    where
      fit : Fit q true s.receives (record (connection_at q s) { to_sender = Rts i j on ∷ only q rest })
      fit = subst (λ (x : Bool). Fit q x s.receives (record (connection_at q s) { to_sender = Rts i j on ∷ only q rest })) a
          (rw (same_refl q) at (subst (λ (xs : List Tagged). Fit q s.sends s.receives (record (connection_at q s) { to_sender = only q xs })) e (f q sq)))

      sp : sends p ≡ true
      sp = (hears_parts on p (or_new (s.sender p).end) m).0

      free : same q p ≡ false → hears_at s on p ≡ false
      free d = (rw (d, sq) at (subst (λ (xs : List Tagged). Clear p on xs (hears_at s on p) (or_new (s.sender p).end).left (asks_at s on p)) e (k.clear a p on sp)).0) refl

      go : (b : Bool) → same q p ≡ b → ⊥
      go true d = both_ways (or_new (s.sender q).end).heard (rts_fits q sq i j on (only q rest) s.receives (connection_at q s) fit)
          (hears_parts on q (or_new (s.sender q).end) (subst (λ (r : Pair). hears_at s on r ≡ true) (sym (same_true q p d)) m)).1
      go false d = both_ways (hears_at s on p) (free d) m

-- While a text is out, no connection opens on its link.

not_again : (before after : Option Endpoint) → is_live before ≡ true → opens before after ≡ true → ⊥
not_again before after l o = both_ways (opens before after) (rw l refl) o

out_of : (on : ℕ) (t : Text) → link_out t ≡ Some on → is_text_out t ≡ true
out_of on No_text e = absurd (cc e)
out_of on (Away li n bits) e = refl
out_of on (Here li) e = refl

module _ (s t : Shared) (f : AllFit s) (g : AllFit t) (k : LinkFits t) (on : ℕ) (p q : Pair) (out : StaysOutFor on q s t) where
  pub sender_opens_not : s.sends ≡ true → t.sends ≡ true → SenderOpensOn on p s t → ⊥
  sender_opens_not a b o =
      let e : p ≡ q = (sender_holds t g k b q on out.2 out.0).1 p o.1 in
      let l : is_live (s.sender q).end ≡ true = (fit_opened q out.0 s.sends s.receives (connection_at q s) (f q out.0) (out_of on (s.text q) out.1)).0 a in
      not_again (s.sender p).end (t.sender p).end (subst (λ (r : Pair). is_live (s.sender r).end ≡ true) (sym e) l) o.0

  pub receiver_opens_not : s.receives ≡ true → t.receives ≡ true → ReceiverOpensOn on p s t → ⊥
  receiver_opens_not a b o =
      let e : p ≡ q = (receiver_holds t g k b q on out.2 out.0).1 p o.1 in
      let l : is_live (s.receiver q).end ≡ true = (fit_opened q out.0 s.sends s.receives (connection_at q s) (f q out.0) (out_of on (s.text q) out.1)).1 a in
      not_again (s.receiver p).end (t.receiver p).end (subst (λ (r : Pair). is_live (s.receiver r).end ≡ true) (sym e) l) o.0
