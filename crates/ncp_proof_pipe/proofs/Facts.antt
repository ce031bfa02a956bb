-- What the two ends of a connection have in common, as far as the pipe asks for it.
use Rattle.std.proofs.Common.{◌≡◌, ◌≤◌, suc, Bool, true, false, ◌||◌, if◌then◌else◌, List, [], ◌++◌, length, Option, None, Some, refl, sym, ap, ◌∙◌, subst, arith}
use Rattle.std.proofs.lemmas.Bool.{both_ways}
use Rattle.ncp_model.specs.declared.pair.Pair.{Pair}
use Rattle.ncp_model.specs.Pairs.{sends, counterpart}
use Rattle.ncp_model.specs.Endpoint.{Endpoint, or_new, is_closing}
use Rattle.ncp_proof_endpoint.specs.Sound.{SoundAt}
use Rattle.ncp_proof_connection.specs.Connections.{Connection, Text, No_text}
use Rattle.ncp_proof_connection.specs.Ledger.{text_bits}
use Rattle.ncp_proof_connection.proofs.Joint.{Place, Together, Sender_ahead, Receiver_ahead, Joint, no_text, left_not_busy, live_got}
use Rattle.ncp_proof_connection.proofs.Lines.{comes_asked}
use Rattle.ncp_proof_connection.proofs.Whole.{Inv, s_firm, r_firm}
use Rattle.ncp_proof_connection.proofs.Outliving.{Fit}
use Rattle.ncp_pipe.specs.Pipe.{Stage, Closed, Asked, Open, Closing, is_on, is_open}
use Rattle.ncp_proof_pipe.specs.Views.{stage, sender_view, FreshAt}

-- Stages and marks.

pub record IsOpenEnd (o : Option Endpoint) : Type 0 where
  pub opened : (or_new o).opened ≡ true
  pub going : is_closing (or_new o) ≡ false
  pub left : (or_new o).left ≡ false

pub open-end : (o : Option Endpoint) → is_open (stage o) ≡ true → IsOpenEnd o
open-end None e = absurd (cc e)
open-end (Some e) k = go e.leaving e.left e.opened e.asked refl refl refl refl k
  where
    go : (v l o a : Bool) → e.leaving ≡ v → e.left ≡ l → e.opened ≡ o → e.asked ≡ a → is_open (if v || l then Closing else if o then Open else if a then Asked else Closed) ≡ true → IsOpenEnd (Some e)
    go false false true a x y z w k = record { opened = z; going = rw (x, y) refl; left = y }
    go false false false true x y z w k = absurd (cc k)
    go false false false false x y z w k = absurd (cc k)
    go false true o a x y z w k = absurd (cc k)
    go true l o a x y z w k = absurd (cc k)

-- neither open nor left
pub closed-end : (o : Option Endpoint) → is_open (stage o) ≡ false → ((stage o ≡ Closing) → ⊥) → ((or_new o).opened ≡ false) × (is_closing (or_new o) ≡ false) × ((or_new o).left ≡ false)
closed-end None e n = (refl, refl, refl)
closed-end (Some e) k n = go e.leaving e.left e.opened refl refl refl k n
  where
    go : (v l o : Bool) → e.leaving ≡ v → e.left ≡ l → e.opened ≡ o → is_open (if v || l then Closing else if o then Open else if e.asked then Asked else Closed) ≡ false → (((if v || l then Closing else if o then Open else if e.asked then Asked else Closed) ≡ Closing) → ⊥)
        → (e.opened ≡ false) × (is_closing e ≡ false) × (e.left ≡ false)
    go false false true x y z k n = absurd (cc k)
    go false false false x y z k n = (z, rw (x, y) refl, y)
    go false true o x y z k n = absurd (n refl)
    go true l o x y z k n = absurd (n refl)

pub off-end : (o : Option Endpoint) → stage o ≡ Closed → ((or_new o).asked ≡ false) × ((or_new o).left ≡ false)
off-end None e = (refl, refl)
off-end (Some e) k = go e.leaving e.left e.opened e.asked refl refl refl refl k
  where
    go : (v l o a : Bool) → e.leaving ≡ v → e.left ≡ l → e.opened ≡ o → e.asked ≡ a → (if v || l then Closing else if o then Open else if a then Asked else Closed) ≡ Closed → (e.asked ≡ false) × (e.left ≡ false)
    go false false true a x y z w k = absurd (cc k)
    go false false false true x y z w k = absurd (cc k)
    go false false false false x y z w k = (w, y)
    go false true o a x y z w k = absurd (cc k)
    go true l o a x y z w k = absurd (cc k)

pub left-not-on : (o : Option Endpoint) → (or_new o).left ≡ true → is_on (stage o) ≡ false
left-not-on None e = refl
left-not-on (Some e) l = go e.leaving e.left l
  where
    go : (v l : Bool) → l ≡ true → is_on (if v || l then Closing else if e.opened then Open else if e.asked then Asked else Closed) ≡ false
    go true l q = refl
    go false true q = refl
    go false false q = absurd (cc q)

bits-none : (t : Text) → t ≡ No_text → text_bits t ≡ []
bits-none t e = ap text_bits e

module _ (pair : Pair) (sd : sends pair ≡ true) where
  -- What is so of a whole connection.

  -- a sender that is not asked for, and not left, has no open receiver
  whole-shut : (w : Connection) → Inv pair w → (or_new w.sender.end).asked ≡ false → (or_new w.sender.end).left ≡ false → is_open (stage w.receiver.end) ≡ true → ⊥
  whole-shut w k a l o = go k.core.place k.core.joint
    where
      s : Endpoint
      s = or_new w.sender.end

      r : Endpoint
      r = or_new w.receiver.end

      x : IsOpenEnd w.receiver.end
      x = open-end w.receiver.end o

      heard : r.heard ≡ true
      heard = ((r_firm pair sd w k.local).marks x.opened).1

      go : (d : Place) → Joint d s w.sender.past.given r (live_got w.receiver.end w.receiver.past) w.to_receiver w.to_sender w.text → ⊥
      go Together j = absurd (both_ways s.asked a (comes_asked r.heard r.cls _ _ _ s.asked s.heard s.left _ heard j.0.there))
      go Sender_ahead j = absurd (both_ways r.left x.left j.left)
      go Receiver_ahead j = absurd (both_ways s.left l j.left)

  -- before a receiver opens nothing is out, and nothing has gone
  whole-dry : (w : Connection) → Inv pair w → (or_new w.receiver.end).opened ≡ false → is_closing (or_new w.receiver.end) ≡ false → (or_new w.receiver.end).left ≡ false
      → (w.text ≡ No_text) × (is_on (stage w.sender.end) ≡ true → (or_new w.sender.end).opened ≡ true → is_closing (or_new w.sender.end) ≡ false → w.sender.past.given ≡ (or_new w.sender.end).stored)
  whole-dry w k op going left = go k.core.place k.core.joint
    where
      s : Endpoint
      s = or_new w.sender.end

      r : Endpoint
      r = or_new w.receiver.end

      none : live_got w.receiver.end w.receiver.past ≡ []
      none = k.core.dead op

      go : (d : Place) → Joint d s w.sender.past.given r (live_got w.receiver.end w.receiver.past) w.to_receiver w.to_sender w.text
          → (w.text ≡ No_text) × (is_on (stage w.sender.end) ≡ true → s.opened ≡ true → is_closing s ≡ false → w.sender.past.given ≡ s.stored)
      go Together j =
          let t : w.text ≡ No_text = no_text s w.text k.core.out (j.1.early op).2 in
          (t, λ n o g. j.1.parted going g o ∙ ap (λ (h : List Bool). h ++ (text_bits w.text ++ s.stored)) none ∙ ap (λ (h : List Bool). h ++ s.stored) (bits-none w.text t))
      go Sender_ahead j = absurd (both_ways r.left left j.left)
      go Receiver_ahead j = (no_text s w.text k.core.out (left_not_busy s (s_firm pair sd w k.local) j.left), λ n o g. absurd (both_ways (is_on (stage w.sender.end)) (left-not-on w.sender.end j.left) n))

  -- The same where one of the hosts was cleared.

  pub shut : (b : Bool) (w : Connection) → Fit pair true b w → stage w.sender.end ≡ Closed → is_open (stage w.receiver.end) ≡ false
  shut true w k off = go (is_open (stage w.receiver.end)) refl
    where
      go : (o : Bool) → is_open (stage w.receiver.end) ≡ o → o ≡ false
      go false e = refl
      go true e = let f = off-end w.sender.end off in absurd (whole-shut w k f.0 f.1 e)
  shut false w k off = ap (λ (o : Option Endpoint). is_open (stage o)) k.gone

  fresh-if-same : (o : Option Endpoint) (given : List Bool) (fresh : Bool) → FreshAt (stage o) (sender_view o).stored given fresh → is_on (stage o) ≡ true → ((or_new o).opened ≡ true → is_closing (or_new o) ≡ false → given ≡ (or_new o).stored) → fresh ≡ true
  fresh-if-same o given fresh f n same = go (stage o) refl
    where
      off : Closed ≡ stage o → fresh ≡ true
      off e = absurd (both_ways (is_on (stage o)) (ap is_on (sym e)) n)

      opens : Open ≡ stage o → fresh ≡ true
      opens e =
          let x = open-end o (ap is_open (sym e)) in
          let g : given ≡ (sender_view o).stored = same x.opened x.going ∙ sym (ap (λ (b : Bool). if b then (or_new o).stored else []) n) in
          not-less fresh ((f.1 (sym e)).1) (ap length g)
        where
          not-less : (b : Bool) → (b ≡ false → suc (length (sender_view o).stored) ≤ length given) → length given ≡ length (sender_view o).stored → b ≡ true
          not-less true l g = refl
          not-less false l g = absurd (omega (arith, l refl, g))

      go : (a : Stage) → stage o ≡ a → fresh ≡ true
      go Asked e = f.0 e
      go Open e = opens (sym e)
      go Closed e = off (sym e)
      go Closing e = absurd (both_ways (is_on (stage o)) (ap is_on e) n)

  pub dry : (a : Bool) (w : Connection) (fresh : Bool) → Fit pair a true w → FreshAt (stage w.sender.end) (sender_view w.sender.end).stored w.sender.past.given fresh → is_open (stage w.receiver.end) ≡ false → ((stage w.receiver.end ≡ Closing) → ⊥)
      → (text_bits w.text ≡ []) × (is_on (stage w.sender.end) ≡ true → fresh ≡ true)
  dry true w fresh k f o n =
      let c = closed-end w.receiver.end o n in
      let d = whole-dry w k c.0 c.1 c.2 in
      (bits-none w.text d.0, λ on. fresh-if-same w.sender.end w.sender.past.given fresh f on (d.1 on))
  dry false w fresh k f o n =
      let c = closed-end w.receiver.end o n in
      let d = whole-dry (record w { sender = k.ghost; to_sender = k.to_ghost; to_receiver = w.to_receiver ++ k.lost }) k.inv c.0 c.1 c.2 in
      (bits-none w.text d.0, λ on. absurd (both_ways (is_on (stage w.sender.end)) (ap (λ (o : Option Endpoint). is_on (stage o)) k.gone) on))

  -- a sender that is free has no text out
  pub free : (b : Bool) (w : Connection) → Fit pair true b w → (or_new w.sender.end).busy ≡ false → w.text ≡ No_text
  free true w k e = no_text (or_new w.sender.end) w.text k.core.out e
  free false w k e = no_text (or_new w.sender.end) w.text k.inv.core.out e

  -- each end is sound
  pub sender-sound : (a b : Bool) (w : Connection) → Fit pair a b w → SoundAt pair w.sender.end
  sender-sound true true w k = k.local.s_sound
  sender-sound true false w k = k.inv.local.s_sound
  sender-sound false true w k = subst (SoundAt pair) (sym k.gone) tt
  sender-sound false false w k = subst (SoundAt pair) (sym k.no_sender) tt

  pub receiver-sound : (a b : Bool) (w : Connection) → Fit pair a b w → SoundAt (counterpart pair) w.receiver.end
  receiver-sound true true w k = k.local.r_sound
  receiver-sound false true w k = k.inv.local.r_sound
  receiver-sound true false w k = subst (SoundAt (counterpart pair)) (sym k.gone) tt
  receiver-sound false false w k = subst (SoundAt (counterpart pair)) (sym k.no_receiver) tt
