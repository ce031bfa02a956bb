-- Meant for other crates too: they cite what is public here.
--
-- A host that was cleared is a host that is silent, and what was struck of its commands is underway
-- for ever. So what is left of a connection is part of a whole one, which keeps what holds of it.
use Rattle.std.proofs.Common.{◌≡◌, ℕ, Bool, true, false, ◌||◌, nat_lt, if◌then◌else◌, List, [], ◌∷◌, ◌++◌, take, drop, Option, None, Some, refl, ap, sym, ◌∙◌, subst, arith, append_assoc}
use Rattle.std.proofs.lemmas.Bool.{both_ways, or_from}
use Rattle.std.proofs.lemmas.List.{take-append-drop}
use Rattle.ncp_wire.specs.declared.command.Command.{Command}
use Rattle.ncp_model.specs.declared.pair.Pair.{Pair}
use Rattle.ncp_model.specs.declared.limits.TheConstants.{MAX_BY_PEER}
use Rattle.ncp_model.specs.Pairs.{sends, counterpart}
use Rattle.ncp_model.specs.Endpoint.{Endpoint, or_new, is_live, is_open}
use Rattle.ncp_model.specs.Texts.{Answer, Rfnm, Incomplete, Dead}
use Rattle.ncp_model.specs.EndpointEvents.{EndpointEvent, happens}
use Rattle.ncp_proof_endpoint.specs.Histories.{EndpointWithHistory, opens, watches, IsPrefix, reopened}
use Rattle.ncp_proof_endpoint.specs.Books.{BooksAt}
use Rattle.ncp_proof_connection.specs.Connections.{Text, No_text, Away, Here, Connection, sender_does, receiver_does, is_call, command_comes, ConnectionEvent, Sender_calls, Receiver_calls, Comes_to_sender, Comes_to_receiver, Text_goes_out, Text_comes, Text_is_answered, sender_hears, receiver_hears, comes_to_sender, comes_to_receiver, text_comes, text_is_answered, occurs}
use Rattle.ncp_proof_connection.specs.Ledger.{BothOpenOnConnection, AmountsAgreeOnConnection, PartedOnConnection, Held, BeginsOnConnection}
use Rattle.ncp_proof_connection.specs.Clearings.{Hosted, new_hosted, text_dropped, text_over, is_at_sender, misses, Change, Occurs, Sender_is_cleared, Receiver_is_cleared, Starts_empty, starts_empty, changes, change_from, change, OutStaysOpened}
use Rattle.ncp_proof_connection.proofs.SenderActs.{opens_none}
use Rattle.ncp_proof_connection.proofs.Whole.{Inv, sender_calls_keep, receiver_calls_keep, comes_to_sender_keeps, comes_to_receiver_keeps, text_comes_keeps, text_is_answered_keeps, keeps, new_core, ever, both_open, what_was_held, what_begins, out_is_opened}

-- the receiver's host was cleared: the receiver as it was, and what was struck of its commands
pub record SenderAlone (pair : Pair) (w : Connection) : Type 0 where
  pub gone : w.receiver.end ≡ None
  pub ghost : EndpointWithHistory
  pub taken : ghost.past.taken ≡ w.receiver.past.taken
  pub to_ghost : List Command
  pub lost : List Command
  pub inv : Inv pair (record w { receiver = ghost; to_receiver = to_ghost; to_sender = w.to_sender ++ lost })

pub record ReceiverAlone (pair : Pair) (w : Connection) : Type 0 where
  pub gone : w.sender.end ≡ None
  pub ghost : EndpointWithHistory
  pub given : ghost.past.given ≡ w.sender.past.given
  pub to_ghost : List Command
  pub lost : List Command
  pub inv : Inv pair (record w { sender = ghost; to_sender = to_ghost; to_receiver = w.to_receiver ++ lost })

pub record Nobody (w : Connection) : Type 0 where
  pub no_sender : w.sender.end ≡ None
  pub no_receiver : w.receiver.end ≡ None
  pub safe : w.violated ≡ false
  pub begins : IsPrefix w.receiver.past.taken w.sender.past.given

-- is the sender's host there, and the receiver's?
abbrev pub Fit : Pair → Bool → Bool → Connection → Type 0
Fit pair true true w = Inv pair w
Fit pair true false w = SenderAlone pair w
Fit pair false true w = ReceiverAlone pair w
Fit pair false false w = Nobody w

-- Clearings.

-- a clearing leaves the histories
given-stays : (pair : Pair) (o : EndpointWithHistory) → o.past.given ≡ (watches pair EndpointEvent.Is_cleared o).past.given
given-stays pair o = rw (opens_none o.end) refl

taken-stays : (pair : Pair) (o : EndpointWithHistory) → o.past.taken ≡ (watches pair EndpointEvent.Is_cleared o).past.taken
taken-stays pair o = rw (opens_none o.end) refl

pub fit_clear_sender : (pair : Pair) (a b : Bool) (w : Connection) (p' lost : List Command) → p' ++ lost ≡ w.to_receiver → Fit pair a b w → Fit pair false b (record (sender_does pair EndpointEvent.Is_cleared w) { to_receiver = p' })
fit_clear_sender pair true true w p' lost e k = record { gone = refl; ghost = w.sender; given = kept; to_ghost = w.to_sender; lost = lost; inv = whole k }
  where
    kept : w.sender.past.given ≡ (watches pair EndpointEvent.Is_cleared w.sender).past.given
    kept = rw (opens_none w.sender.end) refl

    whole : Inv pair w → Inv pair (record w { to_receiver = p' ++ lost; violated = w.violated || false })
    whole k = subst (λ (x : List Command). Inv pair (record w { to_receiver = x; violated = w.violated || false })) (sym e)
        (record { local = record { safe = or_from w.violated false k.local.safe refl; s_sound = k.local.s_sound; r_sound = k.local.r_sound; s_stands = k.local.s_stands; r_stands = k.local.r_stands; books = k.local.books }; core = k.core; moment = k.moment })
fit_clear_sender pair true false w p' lost e k = record {
  no_sender = refl;
  no_receiver = k.gone;
  safe = or_from w.violated false k.inv.local.safe refl;
  begins = subst (λ (x : List Bool). IsPrefix x (watches pair EndpointEvent.Is_cleared w.sender).past.given) k.taken (subst (λ (x : List Bool). IsPrefix k.ghost.past.taken x) (given-stays pair w.sender) k.inv.moment.begins);
}
fit_clear_sender pair false true w p' lost e k = record { gone = refl; ghost = k.ghost; given = k.given ∙ kept; to_ghost = k.to_ghost; lost = lost ++ k.lost; inv = whole k.inv }
  where
    kept : w.sender.past.given ≡ (watches pair EndpointEvent.Is_cleared w.sender).past.given
    kept = rw (opens_none w.sender.end) refl

    whole : Inv pair (record w { sender = k.ghost; to_sender = k.to_ghost; to_receiver = w.to_receiver ++ k.lost }) → Inv pair (record w { sender = k.ghost; to_sender = k.to_ghost; to_receiver = p' ++ (lost ++ k.lost); violated = w.violated || false })
    whole m = subst (λ (x : List Command). Inv pair (record w { sender = k.ghost; to_sender = k.to_ghost; to_receiver = x; violated = w.violated || false })) (ap (λ (x : List Command). x ++ k.lost) (sym e) ∙ append_assoc p' lost k.lost)
        (record { local = record { safe = or_from w.violated false m.local.safe refl; s_sound = m.local.s_sound; r_sound = m.local.r_sound; s_stands = m.local.s_stands; r_stands = m.local.r_stands; books = m.local.books }; core = m.core; moment = m.moment })
fit_clear_sender pair false false w p' lost e k = record {
  no_sender = refl;
  no_receiver = k.no_receiver;
  safe = or_from w.violated false k.safe refl;
  begins = subst (λ (x : List Bool). IsPrefix w.receiver.past.taken x) (given-stays pair w.sender) k.begins;
}

pub fit_clear_receiver : (pair : Pair) (a b : Bool) (w : Connection) (q' lost : List Command) → q' ++ lost ≡ w.to_sender → Fit pair a b w → Fit pair a false (record (receiver_does pair EndpointEvent.Is_cleared w) { to_sender = q' })
fit_clear_receiver pair true true w q' lost e k = record { gone = refl; ghost = w.receiver; taken = taken-stays (counterpart pair) w.receiver; to_ghost = w.to_receiver; lost = lost; inv = whole k }
  where
    whole : Inv pair w → Inv pair (record w { to_sender = q' ++ lost; violated = w.violated || false })
    whole k = subst (λ (x : List Command). Inv pair (record w { to_sender = x; violated = w.violated || false })) (sym e)
        (record { local = record { safe = or_from w.violated false k.local.safe refl; s_sound = k.local.s_sound; r_sound = k.local.r_sound; s_stands = k.local.s_stands; r_stands = k.local.r_stands; books = k.local.books }; core = k.core; moment = k.moment })
fit_clear_receiver pair true false w q' lost e k = record { gone = refl; ghost = k.ghost; taken = k.taken ∙ taken-stays (counterpart pair) w.receiver; to_ghost = k.to_ghost; lost = lost ++ k.lost; inv = whole k.inv }
  where
    whole : Inv pair (record w { receiver = k.ghost; to_receiver = k.to_ghost; to_sender = w.to_sender ++ k.lost }) → Inv pair (record w { receiver = k.ghost; to_receiver = k.to_ghost; to_sender = q' ++ (lost ++ k.lost); violated = w.violated || false })
    whole m = subst (λ (x : List Command). Inv pair (record w { receiver = k.ghost; to_receiver = k.to_ghost; to_sender = x; violated = w.violated || false })) (ap (λ (x : List Command). x ++ k.lost) (sym e) ∙ append_assoc q' lost k.lost)
        (record { local = record { safe = or_from w.violated false m.local.safe refl; s_sound = m.local.s_sound; r_sound = m.local.r_sound; s_stands = m.local.s_stands; r_stands = m.local.r_stands; books = m.local.books }; core = m.core; moment = m.moment })
fit_clear_receiver pair false true w q' lost e k = record {
  no_sender = k.gone;
  no_receiver = refl;
  safe = or_from w.violated false k.inv.local.safe refl;
  begins = subst (λ (x : List Bool). IsPrefix x w.sender.past.given) (taken-stays (counterpart pair) w.receiver) (subst (λ (x : List Bool). IsPrefix w.receiver.past.taken x) k.given k.inv.moment.begins);
}
fit_clear_receiver pair false false w q' lost e k = record {
  no_sender = k.no_sender;
  no_receiver = refl;
  safe = or_from w.violated false k.safe refl;
  begins = subst (λ (x : List Bool). IsPrefix x w.sender.past.given) (taken-stays (counterpart pair) w.receiver) k.begins;
}

-- a new start
pub fit_fresh : (pair : Pair) (sd : sends pair ≡ true) (w : Connection) → w.text ≡ No_text → Nobody w → Inv pair (record w { to_receiver = []; to_sender = [] })
fit_fresh pair sd w none k = go w.sender w.receiver w.text none k.no_sender k.no_receiver k.begins
  where
    go : (s r : EndpointWithHistory) (t : Text) → t ≡ No_text → s.end ≡ None → r.end ≡ None → IsPrefix r.past.taken s.past.given → Inv pair (record { sender = s; receiver = r; to_receiver = []; to_sender = []; text = t; violated = w.violated })
    go s r t u e f m = subst (λ (x : Option Endpoint). Inv pair (record { sender = record s { end = x }; receiver = r; to_receiver = []; to_sender = []; text = t; violated = w.violated })) (sym e)
        (subst (λ (x : Option Endpoint). Inv pair (record { sender = record s { end = None }; receiver = record r { end = x }; to_receiver = []; to_sender = []; text = t; violated = w.violated })) (sym f)
        (subst (λ (x : Text). Inv pair (record { sender = record s { end = None }; receiver = record r { end = None }; to_receiver = []; to_sender = []; text = x; violated = w.violated })) (sym u)
        (record { local = record { safe = k.safe; s_sound = tt; r_sound = tt; s_stands = refl; r_stands = refl; books = tt }; core = new_core pair sd s.past.given; moment = record { none = tt; front = λ e. absurd (both_ways false refl e); begins = m } })))

module _ (pair : Pair) (sd : sends pair ≡ true) where
  -- The sender's host is there.

  pub fit_sends : (what : EndpointEvent) (b : Bool) (w : Connection) → ((u : Connection) → Inv pair u → Inv pair (sender_does pair what u)) → Fit pair true b w → Fit pair true b (sender_does pair what w)
  fit_sends what true w f k = f w k
  fit_sends what false w f k = record {
    gone = k.gone;
    ghost = k.ghost;
    taken = k.taken;
    to_ghost = k.to_ghost ++ (happens pair what w.sender.end).made;
    lost = k.lost;
    inv = f (record w { receiver = k.ghost; to_receiver = k.to_ghost; to_sender = w.to_sender ++ k.lost }) k.inv;
  }

  pub fit_comes_to_sender : (n : ℕ) (b : Bool) (q : List Command) (w : Connection) → nat_lt n MAX_BY_PEER ≡ true → Fit pair true b (record w { to_sender = q }) → Fit pair true b (comes_to_sender pair n q (record w { to_sender = q }))
  fit_comes_to_sender n true q w few k = comes_to_sender_keeps pair sd n q w few k.local k.moment k.core
  fit_comes_to_sender n false [] w few k = k
  fit_comes_to_sender n false (c ∷ q) w few k = go (command_comes n c) (comes_to_sender_keeps pair sd n (c ∷ (q ++ k.lost)) (record w { receiver = k.ghost; to_receiver = k.to_ghost }) few k.inv.local k.inv.moment k.inv.core)
    where
      go : (o : Option EndpointEvent) → Inv pair (sender_hears pair o (record w { receiver = k.ghost; to_receiver = k.to_ghost; to_sender = q ++ k.lost })) → SenderAlone pair (sender_hears pair o (record w { to_sender = q }))
      go None m = record { gone = k.gone; ghost = k.ghost; taken = k.taken; to_ghost = k.to_ghost; lost = k.lost; inv = m }
      go (Some what) m = record { gone = k.gone; ghost = k.ghost; taken = k.taken; to_ghost = k.to_ghost ++ (happens pair what w.sender.end).made; lost = k.lost; inv = m }

  pub fit_text_is_answered : (how : Answer) (b : Bool) (t : Text) (w : Connection) → Fit pair true b (record w { text = t }) → Fit pair true b (text_is_answered pair how t (record w { text = t }))
  fit_text_is_answered how true t w k = text_is_answered_keeps pair sd how t w k.local k.moment k.core
  fit_text_is_answered Rfnm false No_text w k = k
  fit_text_is_answered Rfnm false (Away li n bits) w k = k
  fit_text_is_answered Rfnm false (Here li) w k = record {
    gone = k.gone;
    ghost = k.ghost;
    taken = k.taken;
    to_ghost = k.to_ghost ++ (happens pair (EndpointEvent.Is_answered Rfnm) w.sender.end).made;
    lost = k.lost;
    inv = text_is_answered_keeps pair sd Rfnm (Here li) (record w { receiver = k.ghost; to_receiver = k.to_ghost; to_sender = w.to_sender ++ k.lost }) k.inv.local k.inv.moment k.inv.core;
  }
  fit_text_is_answered Incomplete false No_text w k = k
  fit_text_is_answered Incomplete false (Away li n bits) w k = record {
    gone = k.gone;
    ghost = k.ghost;
    taken = k.taken;
    to_ghost = k.to_ghost ++ [];
    lost = k.lost;
    inv = text_is_answered_keeps pair sd Incomplete (Away li n bits) (record w { receiver = k.ghost; to_receiver = k.to_ghost; to_sender = w.to_sender ++ k.lost }) k.inv.local k.inv.moment k.inv.core;
  }
  fit_text_is_answered Incomplete false (Here li) w k = k
  fit_text_is_answered Dead false No_text w k = k
  fit_text_is_answered Dead false (Away li n bits) w k = record {
    gone = k.gone;
    ghost = k.ghost;
    taken = k.taken;
    to_ghost = k.to_ghost ++ [];
    lost = k.lost;
    inv = text_is_answered_keeps pair sd Dead (Away li n bits) (record w { receiver = k.ghost; to_receiver = k.to_ghost; to_sender = w.to_sender ++ k.lost }) k.inv.local k.inv.moment k.inv.core;
  }
  fit_text_is_answered Dead false (Here li) w k = k

  -- The receiver's host is there.

  pub fit_receives : (what : EndpointEvent) (a : Bool) (w : Connection) → ((u : Connection) → Inv pair u → Inv pair (receiver_does pair what u)) → Fit pair a true w → Fit pair a true (receiver_does pair what w)
  fit_receives what true w f k = f w k
  fit_receives what false w f k = record {
    gone = k.gone;
    ghost = k.ghost;
    given = k.given;
    to_ghost = k.to_ghost ++ (happens (counterpart pair) what w.receiver.end).made;
    lost = k.lost;
    inv = f (record w { sender = k.ghost; to_sender = k.to_ghost; to_receiver = w.to_receiver ++ k.lost }) k.inv;
  }

  pub fit_comes_to_receiver : (n : ℕ) (a : Bool) (p : List Command) (w : Connection) → nat_lt n MAX_BY_PEER ≡ true → Fit pair a true (record w { to_receiver = p }) → Fit pair a true (comes_to_receiver pair n p (record w { to_receiver = p }))
  fit_comes_to_receiver n true p w few k = comes_to_receiver_keeps pair sd n p w few k.local k.moment k.core
  fit_comes_to_receiver n false [] w few k = k
  fit_comes_to_receiver n false (c ∷ p) w few k = go (command_comes n c) (comes_to_receiver_keeps pair sd n (c ∷ (p ++ k.lost)) (record w { sender = k.ghost; to_sender = k.to_ghost }) few k.inv.local k.inv.moment k.inv.core)
    where
      go : (o : Option EndpointEvent) → Inv pair (receiver_hears pair o (record w { sender = k.ghost; to_sender = k.to_ghost; to_receiver = p ++ k.lost })) → ReceiverAlone pair (receiver_hears pair o (record w { to_receiver = p }))
      go None m = record { gone = k.gone; ghost = k.ghost; given = k.given; to_ghost = k.to_ghost; lost = k.lost; inv = m }
      go (Some what) m = record { gone = k.gone; ghost = k.ghost; given = k.given; to_ghost = k.to_ghost ++ (happens (counterpart pair) what w.receiver.end).made; lost = k.lost; inv = m }

  pub fit_text_comes : (head : List Bool) (a : Bool) (t : Text) (w : Connection) → Fit pair a true (record w { text = t }) → Fit pair a true (text_comes pair head t (record w { text = t }))
  fit_text_comes head true t w k = text_comes_keeps pair sd head t w k.local k.moment k.core
  fit_text_comes head false No_text w k = k
  fit_text_comes head false (Away li n bits) w k = record {
    gone = k.gone;
    ghost = k.ghost;
    given = k.given;
    to_ghost = k.to_ghost ++ (happens (counterpart pair) (EndpointEvent.Text_comes head n bits) w.receiver.end).made;
    lost = k.lost;
    inv = text_comes_keeps pair sd head (Away li n bits) (record w { sender = k.ghost; to_sender = k.to_ghost; to_receiver = w.to_receiver ++ k.lost }) k.inv.local k.inv.moment k.inv.core;
  }
  fit_text_comes head false (Here li) w k = k

  -- The host to which it comes was cleared.

  -- the mark of a violation is that of the world
  remarked : (u : Connection) (v : Bool) → v ≡ false → Inv pair u → Inv pair (record u { violated = v })
  remarked u v e k = record {
    local = record { safe = e; s_sound = k.local.s_sound; r_sound = k.local.r_sound; s_stands = k.local.s_stands; r_stands = k.local.r_stands; books = k.local.books };
    core = k.core;
    moment = k.moment;
  }

  not_opened : (before : Option Endpoint) → opens before (happens pair (EndpointEvent.Is_answered Rfnm) before).after ≡ false
  not_opened None = refl
  not_opened (Some e) = grind arith

  text_opens_not : (head : List Bool) (n : ℕ) (bits : List Bool) (before : Option Endpoint) → opens before (happens (counterpart pair) (EndpointEvent.Text_comes head n bits) before).after ≡ false
  text_opens_not head n bits None = refl
  text_opens_not head n bits (Some e) = grind arith

  pub missed_by_sender : (b : Bool) (q : List Command) (w : Connection) → Fit pair false b w → Fit pair false b (record w { to_sender = q })
  missed_by_sender true q w k = record { gone = k.gone; ghost = k.ghost; given = k.given; to_ghost = k.to_ghost; lost = k.lost; inv = k.inv }
  missed_by_sender false q w k = record { no_sender = k.no_sender; no_receiver = k.no_receiver; safe = k.safe; begins = k.begins }

  pub missed_by_receiver : (a : Bool) (p : List Command) (w : Connection) → Fit pair a false w → Fit pair a false (record w { to_receiver = p })
  missed_by_receiver true p w k = record { gone = k.gone; ghost = k.ghost; taken = k.taken; to_ghost = k.to_ghost; lost = k.lost; inv = k.inv }
  missed_by_receiver false p w k = record { no_sender = k.no_sender; no_receiver = k.no_receiver; safe = k.safe; begins = k.begins }

  pub answer_missed : (how : Answer) (b : Bool) (t : Text) (w : Connection) → Fit pair false b (record w { text = t }) → Fit pair false b (record w { text = text_over how t })
  answer_missed how false t w k = record { no_sender = k.no_sender; no_receiver = k.no_receiver; safe = k.safe; begins = k.begins }
  answer_missed Rfnm true No_text w k = k
  answer_missed Rfnm true (Away li n bits) w k = k
  answer_missed Rfnm true (Here li) w k =
      let made : List Command = (happens pair (EndpointEvent.Is_answered Rfnm) k.ghost.end).made in
      record {
        gone = k.gone;
        ghost = watches pair (EndpointEvent.Is_answered Rfnm) k.ghost;
        given = subst (λ (b : Bool). (if b then reopened k.ghost.past else k.ghost.past).given ≡ w.sender.past.given) (sym (not_opened k.ghost.end)) k.given;
        to_ghost = k.to_ghost;
        lost = k.lost ++ made;
        inv = subst (λ (x : List Command). Inv pair (record w { sender = watches pair (EndpointEvent.Is_answered Rfnm) k.ghost; to_sender = k.to_ghost; to_receiver = x; text = No_text })) (append_assoc w.to_receiver k.lost made)
            (remarked _ w.violated k.inv.local.safe
            (text_is_answered_keeps pair sd Rfnm (Here li) (record w { sender = k.ghost; to_sender = k.to_ghost; to_receiver = w.to_receiver ++ k.lost }) k.inv.local k.inv.moment k.inv.core));
      }
  answer_missed Incomplete true No_text w k = k
  answer_missed Incomplete true (Away li n bits) w k = k
  answer_missed Incomplete true (Here li) w k = k
  answer_missed Dead true No_text w k = k
  answer_missed Dead true (Away li n bits) w k = k
  answer_missed Dead true (Here li) w k = k

  pub text_missed : (head : List Bool) (a : Bool) (t : Text) (w : Connection) → Fit pair a false (record w { text = t }) → Fit pair a false (record w { text = text_dropped t })
  text_missed head false t w k = record { no_sender = k.no_sender; no_receiver = k.no_receiver; safe = k.safe; begins = k.begins }
  text_missed head true No_text w k = k
  text_missed head true (Away li n bits) w k =
      let made : List Command = (happens (counterpart pair) (EndpointEvent.Text_comes head n bits) k.ghost.end).made in
      record {
        gone = k.gone;
        ghost = watches (counterpart pair) (EndpointEvent.Text_comes head n bits) k.ghost;
        taken = subst (λ (b : Bool). (if b then reopened k.ghost.past else k.ghost.past).taken ≡ w.receiver.past.taken) (sym (text_opens_not head n bits k.ghost.end)) k.taken;
        to_ghost = k.to_ghost;
        lost = k.lost ++ made;
        inv = subst (λ (x : List Command). Inv pair (record w { receiver = watches (counterpart pair) (EndpointEvent.Text_comes head n bits) k.ghost; to_receiver = k.to_ghost; to_sender = x; text = Here li })) (append_assoc w.to_sender k.lost made)
            (remarked _ w.violated k.inv.local.safe
            (text_comes_keeps pair sd head (Away li n bits) (record w { receiver = k.ghost; to_receiver = k.to_ghost; to_sender = w.to_sender ++ k.lost }) k.inv.local k.inv.moment k.inv.core));
      }
  text_missed head true (Here li) w k = k

  -- Every change.

  fit_occurs : (e : ConnectionEvent) (a b : Bool) (w : Connection) → Fit pair a b w → Fit pair a b (if (if is_at_sender e then a else b) then occurs pair e w else misses e w)
  fit_occurs (Sender_calls what) false b w k = k
  fit_occurs (Sender_calls what) true b w k = go (is_call what) refl
    where
      go : (c : Bool) → is_call what ≡ c → Fit pair true b (if c then sender_does pair what w else w)
      go true c = fit_sends what b w (λ u m. sender_calls_keep pair sd what u c m) k
      go false c = k
  fit_occurs (Receiver_calls what) a false w k = k
  fit_occurs (Receiver_calls what) a true w k = go (is_call what) refl
    where
      go : (c : Bool) → is_call what ≡ c → Fit pair a true (if c then receiver_does pair what w else w)
      go true c = fit_receives what a w (λ u m. receiver_calls_keep pair sd what u c m) k
      go false c = k
  fit_occurs (Comes_to_sender n) false b w k = missed_by_sender b (drop 1 w.to_sender) w k
  fit_occurs (Comes_to_sender n) true b w k = go (nat_lt n MAX_BY_PEER) refl
    where
      go : (c : Bool) → nat_lt n MAX_BY_PEER ≡ c → Fit pair true b (if c then comes_to_sender pair n w.to_sender w else w)
      go true c = fit_comes_to_sender n b w.to_sender w c k
      go false c = k
  fit_occurs (Comes_to_receiver n) a false w k = missed_by_receiver a (drop 1 w.to_receiver) w k
  fit_occurs (Comes_to_receiver n) a true w k = go (nat_lt n MAX_BY_PEER) refl
    where
      go : (c : Bool) → nat_lt n MAX_BY_PEER ≡ c → Fit pair a true (if c then comes_to_receiver pair n w.to_receiver w else w)
      go true c = fit_comes_to_receiver n a w.to_receiver w c k
      go false c = k
  fit_occurs Text_goes_out false b w k = k
  fit_occurs Text_goes_out true b w k = fit_sends EndpointEvent.Text_goes_out b w (λ u m. keeps pair sd Text_goes_out u m) k
  fit_occurs (Text_comes head) a false w k = text_missed head a w.text w k
  fit_occurs (Text_comes head) a true w k = fit_text_comes head a w.text w k
  fit_occurs (Text_is_answered how) false b w k = answer_missed how b w.text w k
  fit_occurs (Text_is_answered how) true b w k = fit_text_is_answered how b w.text w k

  abbrev pub FitHosted : Hosted → Type 0
  FitHosted h = Fit pair h.sends h.receives h.connection

  fit_starts : (t : Text) (h : Hosted) → h.connection.text ≡ t → FitHosted h → FitHosted (starts_empty t h)
  fit_starts No_text h e k = go h.sends h.receives k
    where
      go : (a b : Bool) → Fit pair a b h.connection → FitHosted (if a || b then record { connection = h.connection; sends = a; receives = b } else record { connection = record h.connection { to_receiver = []; to_sender = [] }; sends = true; receives = true })
      go true b k = k
      go false true k = k
      go false false k = fit_fresh pair sd h.connection e k
  fit_starts (Away li n bits) h e k = k
  fit_starts (Here li) h e k = k

  fit_changes : (c : Change) (h : Hosted) → FitHosted h → FitHosted (changes pair c h)
  fit_changes (Occurs e) h k = fit_occurs e h.sends h.receives h.connection k
  fit_changes (Sender_is_cleared n) h k = fit_clear_sender pair h.sends h.receives h.connection (take n h.connection.to_receiver) (drop n h.connection.to_receiver) (take-append-drop n h.connection.to_receiver) k
  fit_changes (Receiver_is_cleared n) h k = fit_clear_receiver pair h.sends h.receives h.connection (take n h.connection.to_sender) (drop n h.connection.to_sender) (take-append-drop n h.connection.to_sender) k
  fit_changes Starts_empty h k = fit_starts h.connection.text h refl k

  fit_from : (cs : List Change) (h : Hosted) → FitHosted h → FitHosted (change_from pair cs h)
  fit_from [] h k = k
  fit_from (c ∷ cs) h k = fit_from cs (changes pair c h) (fit_changes c h k)

  pub fit_ever : (cs : List Change) → FitHosted (change pair cs)
  fit_ever cs = fit_from cs new_hosted (ever pair sd [])

  -- What the law says follows.

  pub fit_safe : (a b : Bool) (w : Connection) → Fit pair a b w → w.violated ≡ false
  fit_safe true true w k = k.local.safe
  fit_safe true false w k = k.inv.local.safe
  fit_safe false true w k = k.inv.local.safe
  fit_safe false false w k = k.safe

  pub fit_books : (a b : Bool) (w : Connection) → Fit pair a b w → BooksAt w.receiver.end w.receiver.past
  fit_books true true w k = k.local.books
  fit_books true false w k = subst (λ (o : Option Endpoint). BooksAt o w.receiver.past) (sym k.gone) tt
  fit_books false true w k = k.inv.local.books
  fit_books false false w k = subst (λ (o : Option Endpoint). BooksAt o w.receiver.past) (sym k.no_receiver) tt

  -- an end that is not there is not open
  shut : (o : Option Endpoint) → o ≡ None → is_open (or_new o) ≡ true → ⊥
  shut o e k = both_ways (is_open (or_new o)) (rw e refl) k

  dead : (o : Option Endpoint) → o ≡ None → is_live o ≡ true → ⊥
  dead o e k = both_ways (is_live o) (rw e refl) k

  pub fit_open : (a b : Bool) (w : Connection) → Fit pair a b w → BothOpenOnConnection w → AmountsAgreeOnConnection w × PartedOnConnection w
  fit_open true true w k o = both_open pair sd w k o
  fit_open true false w k o = absurd (shut w.receiver.end k.gone o.1)
  fit_open false true w k o = absurd (shut w.sender.end k.gone o.0)
  fit_open false false w k o = absurd (shut w.sender.end k.no_sender o.0)

  pub fit_held : (a b : Bool) (w : Connection) → Fit pair a b w → Held w
  fit_held true true w k = what_was_held pair sd w k
  fit_held true false w k = λ v. absurd (dead w.receiver.end k.gone v)
  fit_held false true w k = what_was_held pair sd (record w { sender = k.ghost; to_sender = k.to_ghost; to_receiver = w.to_receiver ++ k.lost }) k.inv
  fit_held false false w k = λ v. absurd (dead w.receiver.end k.no_receiver v)

  pub fit_begins : (a b : Bool) (w : Connection) → Fit pair a b w → BeginsOnConnection w
  fit_begins true true w k = what_begins pair sd w k
  fit_begins true false w k = λ v. absurd (dead w.receiver.end k.gone v)
  fit_begins false true w k = λ v. (let m = what_begins pair sd (record w { sender = k.ghost; to_sender = k.to_ghost; to_receiver = w.to_receiver ++ k.lost }) k.inv v in (m.0, m.1 ∙ k.given))
  fit_begins false false w k = λ v. absurd (dead w.receiver.end k.no_receiver v)

  pub fit_opened : (a b : Bool) (w : Connection) → Fit pair a b w → OutStaysOpened (record { connection = w; sends = a; receives = b })
  fit_opened true true w k t = (let m = out_is_opened pair sd w k t in (λ _. m.0, λ _. m.1))
  fit_opened true false w k t = (λ _. (out_is_opened pair sd (record w { receiver = k.ghost; to_receiver = k.to_ghost; to_sender = w.to_sender ++ k.lost }) k.inv t).0, λ e. absurd (both_ways false refl e))
  fit_opened false true w k t = (λ e. absurd (both_ways false refl e), λ _. (out_is_opened pair sd (record w { sender = k.ghost; to_sender = k.to_ghost; to_receiver = w.to_receiver ++ k.lost }) k.inv t).1)
  fit_opened false false w k t = (λ e. absurd (both_ways false refl e), λ e. absurd (both_ways false refl e))

  -- what was taken since the ask begins what was given, at every moment
  pub fit_taken : (a b : Bool) (w : Connection) → Fit pair a b w → IsPrefix w.receiver.past.taken w.sender.past.given
  fit_taken true true w k = k.moment.begins
  fit_taken true false w k = subst (λ (x : List Bool). IsPrefix x w.sender.past.given) k.taken k.inv.moment.begins
  fit_taken false true w k = subst (λ (x : List Bool). IsPrefix w.receiver.past.taken x) k.given k.inv.moment.begins
  fit_taken false false w k = k.begins
