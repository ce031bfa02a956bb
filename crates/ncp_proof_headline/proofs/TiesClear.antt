-- The relation between the hosts and the machines is preserved if no end of a host has an event, if a
-- host is cleared, and if both start again, from empty.
use Rattle.std.proofs.Common.{◌≡◌, ℕ, ◌+◌, ◌<◌, ◌≤◌, ◌==◌, suc, zero, Bool, true, false, not, ◌&&◌, if◌then◌else◌, List, [], ◌∷◌, length, take, Option, None, Some, refl, sym, ap, ◌∙◌, subst, arith}
use Rattle.std.proofs.lemmas.Bool.{eqb-true}
use Rattle.std.proofs.Math.Seq.{take-append_seam}
use Rattle.std.specs.FinMap.{get, get-empty}
use Rattle.ncp_wire.specs.declared.command.Command.{Command}
use Rattle.ncp_model.specs.declared.pair.Pair.{Pair}
use Rattle.ncp_wire.specs.declared.links.TheConstants.{FIRST_LINK, DATA_LINKS}
use Rattle.ncp_model.specs.Pairs.{pair_cmp, counterpart}
use Rattle.ncp_model.specs.Endpoint.{Endpoint, is_live}
use Rattle.ncp_model.specs.Ends.{Ends, no_ends}
use Rattle.ncp_model.specs.Effect.{is_data_link}
use Rattle.ncp_model.specs.EndpointEvents.{EndpointEvent}
use Rattle.ncp_proof_endpoint.specs.Histories.{PairHistory, no_past, EndpointWithHistory, watches, reopened}
use Rattle.ncp_proof_connection.specs.Connections.{Text, No_text, Away, Here, no_end}
use Rattle.ncp_proof_connection.specs.Sharing.{Tagged, new_shared, Senders_are_cleared, Receivers_are_cleared, All_start_empty, shared_occurs}
use Rattle.ncp_proof_connection.specs.Finding.{link_out}
use Rattle.ncp_proof_machine.specs.Delivery.{Slot, Empty, Ready, Travelling, Held, MessageTransit, Free, Accepted, Delivered, Lost, Dead, Link, idle, undelivered, link_answered, woken}
use Rattle.ncp_proof_machine.specs.Hosts.{TextOut, Node, new_node, is_empty, all_empty, or_no_past, quiet, set_link}
use Rattle.ncp_proof_headline.proofs.Lives.{Cut}
use Rattle.ncp_proof_headline.specs.Tied.{watched_at}
use Rattle.ncp_proof_headline.proofs.Ties.{in_subnet, text_on, Carried, Owned, Owners, Texts, Way, commands_of, turn, turn_all, Apt, Flow, Ties, ties-counterpart, further}

-- The lists of commands matter only for a host that is alive.

pub flow-to : (b : Bool) (u w : List Command) (here there : List Tagged) → (b ≡ true → u ≡ w) → Flow b u here there → Flow b w here there
flow-to b u w here there e f = λ h. let r = f h in record { commands = r.commands ∙ e h; same = r.same; apt = r.apt }

pub ties-to : (a b : Bool) (own own' : Owners) (n m : Node) (u v w z : List Command) → (b ≡ true → u ≡ w) → (a ≡ true → v ≡ z) → Ties a b own own' n m u v → Ties a b own own' n m w z
ties-to a b own own' n m u v w z e f t = record {
  g = t.g;
  back = t.back;
  reached = t.reached;
  reached_back = t.reached_back;
  there = t.there;
  here = t.here;
  going = flow-to b u w t.g.to_receivers t.back.to_senders e t.going;
  coming = flow-to a v z t.back.to_receivers t.g.to_senders f t.coming;
}

-- A clearing.

-- of what is watched it leaves the past
cleared_watched : (p : Pair) (end : Option Endpoint) (past : PairHistory) → watches p EndpointEvent.Is_cleared (record { end = end; past = past }) ≡ record { end = None; past = past }
cleared_watched p end past = ap (λ (x : PairHistory). record { end = None; past = x }) (go (is_live end))
  where
    go : (b : Bool) → (if not b && false then reopened past else past) ≡ past
    go true = refl
    go false = refl

cleared_at : (n : Node) (p q : Pair) (w : EndpointWithHistory) → w ≡ watched_at n q → watches p EndpointEvent.Is_cleared w ≡ watched_at (record n { ends = no_ends }) q
cleared_at n p q w e = ap (watches p EndpointEvent.Is_cleared) e ∙ (cleared_watched p (get n.ends q) (watched_at n q).past ∙ ap (λ (o : Option Endpoint). record { end = o; past = (watched_at n q).past }) (sym (get-empty pair_cmp q)))

commands_taken : (k : ℕ) (cs : List Tagged) → commands_of (take k cs) ≡ take k (commands_of cs)
commands_taken zero cs = refl
commands_taken (suc k) [] = refl
commands_taken (suc k) (c ∷ cs) = ap (λ (l : List Command). c.command ∷ l) (commands_taken k cs)

turn_taken : (k : ℕ) (cs : List Tagged) → take k (turn_all cs) ≡ turn_all (take k cs)
turn_taken zero cs = refl
turn_taken (suc k) [] = refl
turn_taken (suc k) (c ∷ cs) = ap (λ (l : List Tagged). turn c ∷ l) (turn_taken k cs)

apt_taken : (k : ℕ) (cs : List Tagged) → Apt cs → Apt (take k cs)
apt_taken zero cs f = tt
apt_taken (suc k) [] f = tt
apt_taken (suc k) (c ∷ cs) f = (f.0, apt_taken k cs f.1)

flow_cut : (b : Bool) (u w : List Command) (here there : List Tagged) → Cut w u → Flow b u here there → Flow b w (take (length w) here) (take (length w) there)
flow_cut b u w here there c f = λ h. let r = f h in record {
  commands = commands_taken (length w) here ∙ (ap (take (length w)) (r.commands ∙ sym c.1) ∙ take-append_seam w c.0);
  same = ap (take (length w)) r.same ∙ turn_taken (length w) here;
  apt = apt_taken (length w) here r.apt;
}

pub ties-clear : (a b : Bool) (own own' : Owners) (n m : Node) (u v w z : List Command) → Cut w u → Ties a b own own' n m u v → Ties false b own own' (record n { ends = no_ends }) m w z
ties-clear a b own own' n m u v w z c t = record {
  g = shared_occurs (Senders_are_cleared (length w)) t.g;
  back = shared_occurs (Receivers_are_cleared (length w)) t.back;
  reached = further t.g (Senders_are_cleared (length w)) t.reached tt;
  reached_back = further t.back (Receivers_are_cleared (length w)) t.reached_back tt;
  there = record {
    alive = refl;
    alive_too = t.there.alive_too;
    sender = λ p s. cleared_at n p p (t.g.sender p) (t.there.sender p s);
    receiver = t.there.receiver;
    texts = t.there.texts;
    proper = λ p s. get-empty pair_cmp p;
  };
  here = record {
    alive = t.here.alive;
    alive_too = refl;
    sender = t.here.sender;
    receiver = λ p s. cleared_at n (counterpart p) (counterpart p) (t.back.receiver p) (t.here.receiver p s);
    texts = t.here.texts;
    proper = t.here.proper;
  };
  going = flow_cut b u w t.g.to_receivers t.back.to_senders c t.going;
  coming = λ h. absurd (cc h);
}

-- A new start. While the data links are quiet no pair owns one.

quiet_empty : (texts : ℕ → Link TextOut) (many from on : ℕ) → all_empty texts many from ≡ true → from ≤ on → on < from + many → is_empty (texts on).slot ≡ true
unfolding all_empty
quiet_empty texts zero from on e l h = absurd (omega arith)
quiet_empty texts (suc many) from on e l h =
    let k = quiet_empty texts many (suc from) on in
    let here : from ≡ on → is_empty (texts on).slot ≡ is_empty (texts from).slot = λ s. rw s refl in
    grind arith

carried_some : (slot : Slot TextOut) (subnet : MessageTransit TextOut) → is_empty slot ≡ true → Carried slot subnet → ⊥
carried_some Empty subnet e k = k
carried_some (Ready t) subnet e k = cc e
carried_some (Travelling t) subnet e k = cc e
carried_some (Held t) subnet e k = cc e

pub quiet-owns-none : (n : Node) (own : Owners) (f : Pair → Text) → quiet n ≡ true → Texts own n.texts f → (on : ℕ) → own on ≡ None
quiet-owns-none n own f q x on = go (own on) (x.owned on)
  where
    go : (o : Option Pair) → Owned on o (n.texts on) f → o ≡ None
    go None w = refl
    go (Some p) w =
        let d : is_data_link on ≡ true = w.data_link in
        let l : FIRST_LINK ≤ on = grind (arith, d) in
        let h : on < FIRST_LINK + DATA_LINKS = grind (arith, d) in
        absurd (carried_some (n.texts on).slot (n.texts on).subnet (quiet_empty n.texts DATA_LINKS FIRST_LINK on q l h) w.carried)

-- an unacknowledged text is on a link that its pair owns: without owned links there is none
none_out : (own : Owners) (links : ℕ → Link TextOut) (f : Pair → Text) → ((on : ℕ) → own on ≡ None) → Texts own links f → (p : Pair) → f p ≡ No_text
none_out own links f none x p = go (f p) (x.out p)
  where
    go : (t : Text) → ((on : ℕ) → link_out t ≡ Some on → own on ≡ Some p) → t ≡ No_text
    go No_text k = refl
    go (Away on of_size bits) k = absurd (cc (none on, k on refl))
    go (Here on) k = absurd (cc (none on, k on refl))

pub ties-anew : (own own' : Owners) (n m : Node) (u v : List Command) → ((on : ℕ) → own on ≡ None) → ((on : ℕ) → own' on ≡ None) → Ties false false own own' n m u v → Ties true true own own' n m [] []
ties-anew own own' n m u v none none' t = record {
  g = shared_occurs All_start_empty t.g;
  back = shared_occurs All_start_empty t.back;
  reached = further t.g All_start_empty t.reached (t.there.alive, t.there.alive_too, none_out own n.texts t.g.text none t.there.texts);
  reached_back = further t.back All_start_empty t.reached_back (t.here.alive, t.here.alive_too, none_out own' m.texts t.back.text none' t.here.texts);
  there = record { alive = refl; alive_too = refl; sender = t.there.sender; receiver = t.there.receiver; texts = t.there.texts; proper = t.there.proper };
  here = record { alive = refl; alive_too = refl; sender = t.here.sender; receiver = t.here.receiver; texts = t.here.texts; proper = t.here.proper };
  going = λ h. record { commands = refl; same = refl; apt = tt };
  coming = λ h. record { commands = refl; same = refl; apt = tt };
}

-- a host without ends that is not alive is cleared at once
clear_fresh : (a b : Bool) (own own' : Owners) (n m : Node) → n.ends ≡ no_ends → Ties true b own own' n m [] [] → Ties a b own own' n m [] []
clear_fresh true b own own' n m e t = t
clear_fresh false b own own' n m e t = subst (λ (x : Ends). Ties false b own own' (record n { ends = x }) m [] []) (sym e) (ties-clear true b own own' n m [] [] [] [] ([], refl) t)

pub ties-fresh : (a b : Bool) (own own' : Owners) (n m : Node) (u v : List Command) → n.ends ≡ no_ends → m.ends ≡ no_ends → ((on : ℕ) → own on ≡ None) → ((on : ℕ) → own' on ≡ None) → Ties false false own own' n m u v → Ties a b own own' n m [] []
ties-fresh a b own own' n m u v e e' none none' t =
    let both = ties-anew own own' n m u v none none' t in
    let one = clear_fresh a true own own' n m e both in
    ties-counterpart b a own' own m n [] [] (clear_fresh b a own' own m n e' (ties-counterpart a true own own' n m [] [] one))

-- both hosts at their start
none_watched : (p : Pair) → no_end ≡ watched_at new_node p
none_watched p =
    ap (λ (o : Option Endpoint). record { end = o; past = no_past }) (sym (get-empty pair_cmp p))
    ∙ ap (λ (o : Option PairHistory). record { end = get no_ends p; past = or_no_past o }) (sym (get-empty pair_cmp p))

pub ties-start : Ties false false (λ _. None) (λ _. None) new_node new_node [] []
ties-start =
    ties-counterpart false false none none new_node new_node [] []
    (clear_fresh false false none none new_node new_node refl (ties-counterpart false true none none new_node new_node [] [] (clear_fresh false true none none new_node new_node refl both)))
  where
    none : Owners
    none = λ _. None

    way : Way true true none new_node new_node new_shared
    way = record {
      alive = refl;
      alive_too = refl;
      sender = λ p s. none_watched p;
      receiver = λ p s. none_watched (counterpart p);
      texts = record { owned = λ on. refl; out = λ p on e. absurd (cc e) };
      proper = λ p s. get-empty pair_cmp p;
    }

    both : Ties true true none none new_node new_node [] []
    both = record {
      g = new_shared;
      back = new_shared;
      reached = record { events = []; is_it = refl; may = tt };
      reached_back = record { events = []; is_it = refl; may = tt };
      there = way;
      here = way;
      going = λ h. record { commands = refl; same = refl; apt = tt };
      coming = λ h. record { commands = refl; same = refl; apt = tt };
    }

-- A link changes, and the machine, which knows no slots, does not see it.

abbrev pub SameText : ℕ → Link TextOut → Link TextOut → Type 0
SameText on l l' = record {
  stays_idle : l ≡ idle → l' ≡ idle;
  carried : Carried l.slot l.subnet → Carried l'.slot l'.subnet;
  text : Carried l.slot l.subnet → text_on on l.slot l.subnet ≡ text_on on l'.slot l'.subnet;
}

same_owned : (on : ℕ) (o : Option Pair) (l l' : Link TextOut) (f : Pair → Text) → SameText on l l' → Owned on o l f → Owned on o l' f
same_owned on None l l' f s w = s.stays_idle w
same_owned on (Some p) l l' f s w = record { sending = w.sending; data_link = w.data_link; carried = s.carried w.carried; text = w.text ∙ s.text w.carried }

same_texts : (own : Owners) (links links' : ℕ → Link TextOut) (f : Pair → Text) → ((on : ℕ) → SameText on (links on) (links' on)) → Texts own links f → Texts own links' f
same_texts own links links' f s x = record { owned = λ on. same_owned on (own on) (links on) (links' on) f (s on) (x.owned on); out = x.out }

pub ties-links : (a b : Bool) (own own' : Owners) (n m : Node) (u v : List Command) (links : ℕ → Link TextOut) → ((on : ℕ) → SameText on (n.texts on) (links on)) → Ties a b own own' n m u v → Ties a b own own' (record n { texts = links }) m u v
ties-links a b own own' n m u v links s t = record {
  g = t.g;
  back = t.back;
  reached = t.reached;
  reached_back = t.reached_back;
  there = record { alive = t.there.alive; alive_too = t.there.alive_too; sender = t.there.sender; receiver = t.there.receiver; texts = same_texts own n.texts links t.g.text s t.there.texts; proper = t.there.proper };
  here = t.here;
  going = t.going;
  coming = t.coming;
}

-- it is as it was
pub same-text : (on : ℕ) (l : Link TextOut) → SameText on l l
same-text on l = record { stays_idle = λ e. e; carried = λ k. k; text = λ k. refl }

-- one link changes
pub one-link : (on : ℕ) (l : Link TextOut) (texts : ℕ → Link TextOut) → SameText on (texts on) l → (k : ℕ) → SameText k (texts k) (set_link on l texts k)
one-link on l texts s k = go (k == on) refl
  where
    go : (b : Bool) → (k == on) ≡ b → SameText k (texts k) (if b then l else texts k)
    go true e = subst (λ (i : ℕ). SameText i (texts i) l) (sym (eqb-true k on e)) s
    go false e = same-text k (texts k)

-- the subnet of a link that is idle holds nothing
unlike_idle : (slot : Slot TextOut) (t : TextOut) → record { slot = slot; subnet = Accepted t } ≡ idle → ⊥
unlike_idle slot t e = cc (ap (λ (l : Link TextOut). l.subnet) e)

away : (on : ℕ) (t u : TextOut) → u ≡ t → Away on u.of_size u.bits ≡ Away on t.of_size t.bits
away on t u e = ap (λ (x : TextOut). Away on x.of_size x.bits) e

module _ (on : ℕ) (as_what : MessageTransit TextOut) (c : (t : TextOut) → Carried (Travelling t) as_what) (d : (t : TextOut) → in_subnet on t as_what ≡ Away on t.of_size t.bits) where
  same_undelivered : (slot : Slot TextOut) (subnet : MessageTransit TextOut) → SameText on (record { slot = slot; subnet = subnet }) (record { slot = slot; subnet = undelivered as_what subnet })
  same_undelivered (Travelling t) (Accepted u) = record { stays_idle = λ e. absurd (unlike_idle (Travelling t) u e); carried = λ k. c t; text = λ k. away on t u k ∙ sym (d t) }
  same_undelivered Empty (Accepted u) = record { stays_idle = λ e. absurd (unlike_idle Empty u e); carried = λ k. absurd k; text = λ k. absurd k }
  same_undelivered (Ready t) (Accepted u) = record { stays_idle = λ e. absurd (unlike_idle (Ready t) u e); carried = λ k. absurd k; text = λ k. absurd k }
  same_undelivered (Held t) (Accepted u) = record { stays_idle = λ e. absurd (unlike_idle (Held t) u e); carried = λ k. absurd k; text = λ k. absurd k }
  same_undelivered slot subnet = same-text on (record { slot = slot; subnet = subnet })

-- a text that has not come is lost, or its destination is dead
pub same-lost : (on : ℕ) (l : Link TextOut) → SameText on l (record l { subnet = undelivered Lost l.subnet })
same-lost on l = same_undelivered on Lost (λ t. tt) (λ t. refl) l.slot l.subnet

pub same-dead : (on : ℕ) (l : Link TextOut) → SameText on l (record l { subnet = undelivered Dead l.subnet })
same-dead on l = same_undelivered on Dead (λ t. tt) (λ t. refl) l.slot l.subnet

-- an answer, but RFNM
abbrev pub is_taken : Slot TextOut → MessageTransit TextOut → Bool
is_taken (Travelling t) Delivered = true
is_taken slot subnet = false

pub same-answered : (on : ℕ) (slot : Slot TextOut) (subnet : MessageTransit TextOut) → is_taken slot subnet ≡ false → SameText on (record { slot = slot; subnet = subnet }) (link_answered slot subnet)
same-answered on (Travelling t) Delivered h = cc h
same-answered on (Travelling t) Lost h = record { stays_idle = λ e. absurd (cc (ap (λ (l : Link TextOut). l.slot) e)); carried = λ k. tt; text = λ k. refl }
same-answered on (Travelling t) Dead h = record { stays_idle = λ e. absurd (cc (ap (λ (l : Link TextOut). l.slot) e)); carried = λ k. tt; text = λ k. refl }
same-answered on slot subnet h = same-text on (record { slot = slot; subnet = subnet })

-- the user asks for what is held
pub same-woken : (on : ℕ) (l : Link TextOut) → SameText on l (record { slot = woken l.slot; subnet = l.subnet })
same-woken on l = go l.slot l.subnet
  where
    go : (slot : Slot TextOut) (subnet : MessageTransit TextOut) → SameText on (record { slot = slot; subnet = subnet }) (record { slot = woken slot; subnet = subnet })
    go (Held t) Free = record { stays_idle = λ e. absurd (cc (ap (λ (l : Link TextOut). l.slot) e)); carried = λ k. tt; text = λ k. refl }
    go (Held t) subnet = record { stays_idle = λ e. absurd (cc (ap (λ (l : Link TextOut). l.slot) e)); carried = λ k. absurd k; text = λ k. refl }
    go slot subnet = same-text on (record { slot = slot; subnet = subnet })

-- a ready text is sent
pub same-ready : (on : ℕ) (t : TextOut) (subnet : MessageTransit TextOut) → SameText on (record { slot = Ready t; subnet = subnet }) (record { slot = Travelling t; subnet = Accepted t })
same-ready on t subnet = record { stays_idle = λ e. absurd (cc (ap (λ (l : Link TextOut). l.slot) e)); carried = λ k. refl; text = λ k. refl }
