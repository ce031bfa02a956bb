-- The flow between two hosts in a session, with the commands and texts underway between them (queued or
-- in flight): through each command and each text that one sends, or the other receives.
use Rattle.std.proofs.Common.{◌≡◌, ℕ, zero, suc, ◌==◌, Bool, true, false, if◌then◌else◌, List, [], ◌∷◌, ◌++◌, None, Some, refl, sym, ap, ◌∙◌, subst, arith}
use Rattle.ncp_wire.specs.declared.command.Command.{Command}
use Rattle.ncp_model.specs.Phase.{is_rst, is_rrp}
use Rattle.ncp_model.proofs.ResetLists.{bit, rsts, rrps, rsts-append, rrps-append}
use Rattle.ncp_monitor.specs.ConnStates.{SeenTables}
use Rattle.ncp_proof_monitor_network.specs.Owing.{has_echo}
use Rattle.ncp_proof_monitor_network.proofs.Said.{Said, SaidAlike, unspoken, Legal, after_said_by, TextLegal, after_text_by, without_owed, LegalRun}
use Rattle.ncp_proof_monitor_network.proofs.Diamond.{alike_self, own_run}
use Rattle.ncp_proof_monitor_network.proofs.ConsistentViews.{Afloat, with_float, LeavesNoText, ConsistentViews}
use Rattle.ncp_proof_monitor_network.proofs.TextSteps.{text_run, room_run}
use Rattle.ncp_proof_monitor_network.proofs.AbreastSteps.{floats_alike, unspoken_abreast, turn_abreast, own_abreast, heard_abreast}
use Rattle.ncp_proof_monitor_network.proofs.RoomAbreast.{own_room, none_afloat}
use Rattle.ncp_proof_monitor_network.proofs.TextAbreast.{own_text, their_text}
use Rattle.ncp_proof_monitor_network.proofs.ReadAs.{ReadAs}
use Rattle.ncp_proof_monitor_network.proofs.Hears.{hears, hears_other, drops_other, hears_none, hears_unanswered, hears_reset_more, hears_more, answered_more, Matched, turn_matched, reset_goes, reply_goes, other_goes, reset_comes, reply_comes, other_comes, Crossing, crossing}

-- none is on its way
abbrev pub NoneAfloat : Afloat → Type 0
NoneAfloat t = (l : ℕ) → t l ≡ None

-- those of a host that owes an RRP are of the session before
abbrev pub afloat : Bool → Afloat → Afloat
afloat true t = λ l. None
afloat false t = t

-- of two hosts: whether each waits for a reply, and owes one; the books; what is underway from each, commands and texts. While
-- no RST is, both saw the same, but for what is underway
pub record Session (h k : ℕ) (wh oh wk ok : Bool) (b : SeenTables) (hl kl : List Command) (ht kt : Afloat) : Type 0 where
  pub matched : Matched wh oh wk ok hl kl
  -- what each saw, by the books
  pub x : Said
  pub y : Said
  pub at_h : ReadAs h k b x
  pub at_k : ReadAs k h b y
  -- one that waits for a reply saw nothing yet, and has no text out
  pub empty_h : wh ≡ true → SaidAlike x unspoken
  pub empty_k : wk ≡ true → SaidAlike y unspoken
  pub quiet_h : wh ≡ true → NoneAfloat ht
  pub quiet_k : wk ≡ true → NoneAfloat kt
  -- the commands that each hears are allowed
  pub here : LegalRun false (hears wh kl) x
  pub there : LegalRun false (hears wk hl) y
  pub abreast : rsts hl ≡ 0 → rsts kl ≡ 0 → ConsistentViews x (hears wk hl) (afloat oh ht) y (hears wh kl) (afloat ok kt)

pub turn_session : (h k : ℕ) (wh oh wk ok : Bool) (b : SeenTables) (hl kl : List Command) (ht kt : Afloat) → Session h k wh oh wk ok b hl kl ht kt → Session k h wk ok wh oh b kl hl kt ht
turn_session h k wh oh wk ok b hl kl ht kt s = record {
  matched = turn_matched wh oh wk ok hl kl s.matched;
  x = s.y;
  y = s.x;
  at_h = s.at_k;
  at_k = s.at_h;
  empty_h = s.empty_k;
  empty_k = s.empty_h;
  quiet_h = s.quiet_k;
  quiet_k = s.quiet_h;
  here = s.there;
  there = s.here;
  abreast = λ e f. turn_abreast (s.abreast f e);
}

no_commands : (cs : List Command) (x : Said) → cs ≡ [] → LegalRun false cs x
no_commands cs x e = subst (λ (ds : List Command). LegalRun false ds x) (sym e) tt

-- the same texts are on their way
afloat_alike : (o : Bool) (t u : Afloat) → ((l : ℕ) → t l ≡ u l) → (l : ℕ) → afloat o t l ≡ afloat o u l
afloat_alike true t u e l = refl
afloat_alike false t u e l = e l

none_owed : (o : Bool) (t : Afloat) → NoneAfloat t → NoneAfloat (afloat o t)
none_owed true t e l = refl
none_owed false t e l = e l

pub session_floats : (h k : ℕ) (wh oh wk ok : Bool) (b : SeenTables) (hl kl : List Command) (ht kt hu ku : Afloat) → ((l : ℕ) → ht l ≡ hu l) → ((l : ℕ) → kt l ≡ ku l) → Session h k wh oh wk ok b hl kl ht kt → Session h k wh oh wk ok b hl kl hu ku
session_floats h k wh oh wk ok b hl kl ht kt hu ku e f s = record {
  matched = s.matched;
  x = s.x;
  y = s.y;
  at_h = s.at_h;
  at_k = s.at_k;
  empty_h = s.empty_h;
  empty_k = s.empty_k;
  quiet_h = λ w l. sym (e l) ∙ s.quiet_h w l;
  quiet_k = λ w l. sym (f l) ∙ s.quiet_k w l;
  here = s.here;
  there = s.there;
  abreast = λ i j. floats_alike (afloat_alike oh ht hu e) (afloat_alike ok kt ku f) (s.abreast i j);
}

-- ---- the first sends

-- an RST: its books are cleared
pub session_resets : (h k : ℕ) (oh wk ok : Bool) (b now : SeenTables) (hl kl : List Command) (ht kt : Afloat) (s : Session h k false oh wk ok b hl kl ht kt) → NoneAfloat ht → ReadAs h k now unspoken → ReadAs k h now s.y
    → Session h k true oh wk ok now (hl ++ Command.Rst ∷ []) kl ht kt
session_resets h k oh wk ok b now hl kl ht kt s quiet at_h at_k = record {
  matched = reset_goes oh wk ok hl kl s.matched;
  x = unspoken;
  y = s.y;
  at_h = at_h;
  at_k = at_k;
  empty_h = λ e. alike_self unspoken;
  empty_k = s.empty_k;
  quiet_h = λ e. quiet;
  quiet_k = s.quiet_k;
  here = no_commands (hears true kl) unspoken (hears_unanswered kl (let e = s.matched.ours in omega (arith, e)));
  there = subst (λ (cs : List Command). LegalRun false cs s.y) (sym (hears_reset_more wk hl Command.Rst refl)) s.there;
  abreast = λ e f. absurd (let a = rsts-append hl (Command.Rst ∷ []) in omega (arith, a, e));
}

-- an RRP
pub session_replies : (h k : ℕ) (wh wk ok : Bool) (b : SeenTables) (hl kl : List Command) (ht kt : Afloat) → NoneAfloat ht → Session h k wh true wk ok b hl kl ht kt → Session h k wh false wk ok b (hl ++ Command.Rrp ∷ []) kl ht kt
session_replies h k wh wk ok b hl kl ht kt quiet s = record {
  matched = reply_goes wh wk ok hl kl s.matched;
  x = s.x;
  y = s.y;
  at_h = s.at_h;
  at_k = s.at_k;
  empty_h = s.empty_h;
  empty_k = s.empty_k;
  quiet_h = λ e. quiet;
  quiet_k = s.quiet_k;
  here = s.here;
  there = subst (λ (cs : List Command). LegalRun false cs s.y) same s.there;
  abreast = λ e f.
      subst (λ (cs : List Command). ConsistentViews s.x cs ht s.y (hears wh kl) (afloat ok kt)) same
      (floats_alike (λ l. sym (quiet l)) (λ l. refl) (s.abreast (let a = rsts-append hl (Command.Rrp ∷ []) in omega (arith, a, e)) f));
}
  where
    same : hears wk hl ≡ hears wk (hl ++ Command.Rrp ∷ [])
    same = sym (hears_reset_more wk hl Command.Rrp refl)

-- another command, which it may say
record More (x y : Said) (wk ok : Bool) (hl kl : List Command) (ht kt : Afloat) : Type 0 where
  there : LegalRun false (hears wk hl) y
  abreast : rsts kl ≡ 0 → ConsistentViews x (hears wk hl) ht y (hears false kl) (afloat ok kt)

said_more : (h k : ℕ) (wk ok : Bool) (b : SeenTables) (c : Command) (hl kl : List Command) (ht kt : Afloat) (s : Session h k false false wk ok b hl kl ht kt) → is_rst c ≡ false → is_rrp c ≡ false → Legal true c s.x → LeavesNoText c s.x ht
    → More (after_said_by true c s.x) s.y wk ok (hl ++ c ∷ []) kl ht kt
said_more h k wk ok b c hl kl ht kt s r p l q = by wk refl (rsts kl) refl
  where
    quiet : rsts hl ≡ 0
    quiet = let e = s.matched.ours in omega (arith, e)

    one : (w : Bool) → wk ≡ w → rsts kl ≡ 0 → hears w (hl ++ c ∷ []) ≡ hears w hl ++ c ∷ [] → More (after_said_by true c s.x) s.y w ok (hl ++ c ∷ []) kl ht kt
    one w e f g =
        let now : ConsistentViews (after_said_by true c s.x) (hears w (hl ++ c ∷ [])) ht s.y (hears false kl) (afloat ok kt) =
        subst (λ (cs : List Command). ConsistentViews (after_said_by true c s.x) cs ht s.y (hears false kl) (afloat ok kt)) (sym g)
        (own_abreast c l q (subst (λ (v : Bool). ConsistentViews s.x (hears v hl) ht s.y (hears false kl) (afloat ok kt)) e (s.abreast quiet f))) in
        record { there = now.there; abreast = λ i. now }

    by : (w : Bool) → wk ≡ w → (n : ℕ) → rsts kl ≡ n → More (after_said_by true c s.x) s.y wk ok (hl ++ c ∷ []) kl ht kt
    by false e n f =
        subst (λ (v : Bool). More (after_said_by true c s.x) s.y v ok (hl ++ c ∷ []) kl ht kt) (sym e)
        (one false e (let m = s.matched.theirs in let g : bit wk ≡ 0 = ap bit e in omega (arith, m, g)) (hears_more hl c r p quiet))
    by true e zero f =
        subst (λ (v : Bool). More (after_said_by true c s.x) s.y v ok (hl ++ c ∷ []) kl ht kt) (sym e)
        (one true e f (answered_more hl c r p quiet (let m = s.matched.theirs in let g : bit wk ≡ 1 = ap bit e in omega (arith, m, g, f))))
    by true e (suc n) f =
        let none : rrps (hl ++ c ∷ []) ≡ 0 = (let m = s.matched.theirs in let g : bit wk ≡ 1 = ap bit e in let a = rrps-append hl (c ∷ []) in let z : bit (is_rrp c) ≡ 0 = ap bit p in omega (arith, m, g, f, a, z)) in
        record {
          there = no_commands (hears wk (hl ++ c ∷ [])) s.y (ap (λ (v : Bool). hears v (hl ++ c ∷ [])) e ∙ hears_unanswered (hl ++ c ∷ []) none);
          abreast = λ i. absurd (omega (arith, i, f));
        }

pub session_says : (h k : ℕ) (wk ok : Bool) (b now : SeenTables) (c : Command) (hl kl : List Command) (ht kt : Afloat) (s : Session h k false false wk ok b hl kl ht kt) → is_rst c ≡ false → is_rrp c ≡ false → Legal true c s.x → LeavesNoText c s.x ht
    → ReadAs h k now (after_said_by true c s.x) → ReadAs k h now s.y → Session h k false false wk ok now (hl ++ c ∷ []) kl ht kt
session_says h k wk ok b now c hl kl ht kt s r p l q at_h at_k =
    let more = said_more h k wk ok b c hl kl ht kt s r p l q in
    record {
      matched = other_goes false wk ok c hl kl r p s.matched;
      x = after_said_by true c s.x;
      y = s.y;
      at_h = at_h;
      at_k = at_k;
      empty_h = λ e. absurd (cc e);
      empty_k = s.empty_k;
      quiet_h = λ e. absurd (cc e);
      quiet_k = s.quiet_k;
      here = own_run c (hears false kl) s.x l s.here;
      there = more.there;
      abreast = λ e f. more.abreast f;
    }

-- a text, which it may send
pub session_sends : (h k : ℕ) (wk ok : Bool) (b now : SeenTables) (on size bits : ℕ) (hl kl : List Command) (ht kt : Afloat) (s : Session h k false false wk ok b hl kl ht kt) → TextLegal true on size bits s.x → ht on ≡ None
    → ReadAs h k now (after_text_by true on bits s.x) → ReadAs k h now s.y → Session h k false false wk ok now hl kl (with_float on (Some (size, bits)) ht) kt
session_sends h k wk ok b now on size bits hl kl ht kt s l e at_h at_k = record {
  matched = s.matched;
  x = after_text_by true on bits s.x;
  y = s.y;
  at_h = at_h;
  at_k = at_k;
  empty_h = λ e. absurd (cc e);
  empty_k = s.empty_k;
  quiet_h = λ e. absurd (cc e);
  quiet_k = s.quiet_k;
  here = text_run on size bits (hears false kl) s.x l s.here;
  there = s.there;
  abreast = λ f g. own_text on size bits l e (s.abreast f g);
}

-- no reply that it owed waits any more
pub session_room : (h k : ℕ) (wh oh wk ok : Bool) (b now : SeenTables) (hl kl : List Command) (ht kt : Afloat) (s : Session h k wh oh wk ok b hl kl ht kt) → has_echo (s.x.owing true) ≡ false → ReadAs h k now (without_owed s.x) → ReadAs k h now s.y
    → Session h k wh oh wk ok now hl kl ht kt
session_room h k wh oh wk ok b now hl kl ht kt s none at_h at_k = record {
  matched = s.matched;
  x = without_owed s.x;
  y = s.y;
  at_h = at_h;
  at_k = at_k;
  empty_h = λ w. unspoken_owes s.x (s.empty_h w);
  empty_k = s.empty_k;
  quiet_h = s.quiet_h;
  quiet_k = s.quiet_k;
  here = room_run (hears wh kl) s.x s.here;
  there = s.there;
  abreast = λ e f. own_room none (s.abreast e f);
}
  where
    unspoken_owes : (x : Said) → SaidAlike x unspoken → SaidAlike (without_owed x) unspoken
    unspoken_owes x a = record { shapes = a.shapes; users = a.users; counts = a.counts; owing = by }
      where
        by : (side : Bool) → (without_owed x).owing side ≡ []
        by true = refl
        by false = a.owing false

-- ---- it comes to the second

-- an RST: its books are cleared, and those of the first are clear while it waits
pub session_reset_heard : (h k : ℕ) (wh oh wk : Bool) (b now : SeenTables) (hl kl : List Command) (ht kt : Afloat) → Session h k wh oh wk false b (Command.Rst ∷ hl) kl ht kt → ReadAs h k now unspoken → ReadAs k h now unspoken
    → Session h k wh oh wk true now hl kl ht kt
session_reset_heard h k wh oh wk b now hl kl ht kt s at_h at_k = record {
  matched = reset_comes wh oh wk hl kl s.matched;
  x = unspoken;
  y = unspoken;
  at_h = at_h;
  at_k = at_k;
  empty_h = λ e. alike_self unspoken;
  empty_k = λ e. alike_self unspoken;
  quiet_h = s.quiet_h;
  quiet_k = s.quiet_k;
  here = no_commands (hears wh kl) unspoken none_back;
  there = no_commands (hears wk hl) unspoken none;
  abreast = λ e f.
      subst (λ (cs : List Command). ConsistentViews unspoken cs (afloat oh ht) unspoken (hears wh kl) (λ l. None)) (sym none)
      (subst (λ (cs : List Command). ConsistentViews unspoken [] (afloat oh ht) unspoken cs (λ l. None)) (sym none_back)
      (floats_alike (λ l. sym (none_owed oh ht (s.quiet_h cross.waits) l)) (λ l. refl) unspoken_abreast));
}
  where
    cross : Crossing wh kl
    cross = crossing wh oh wk false (Command.Rst ∷ hl) kl (omega arith) s.matched

    none : hears wk hl ≡ []
    none = hears_none wk hl s.matched.behind

    none_back : hears wh kl ≡ []
    none_back = ap (λ (w : Bool). hears w kl) cross.waits ∙ hears_unanswered kl cross.unanswered

-- an RRP
pub session_reply_heard : (h k : ℕ) (wh oh ok : Bool) (b : SeenTables) (hl kl : List Command) (ht kt : Afloat) → Session h k wh oh true ok b (Command.Rrp ∷ hl) kl ht kt → Session h k wh oh false ok b hl kl ht kt
session_reply_heard h k wh oh ok b hl kl ht kt s = record {
  matched = reply_comes wh oh ok hl kl s.matched;
  x = s.x;
  y = s.y;
  at_h = s.at_h;
  at_k = s.at_k;
  empty_h = s.empty_h;
  empty_k = λ e. absurd (cc e);
  quiet_h = s.quiet_h;
  quiet_k = λ e. absurd (cc e);
  here = s.here;
  there = s.there;
  abreast = λ e f. s.abreast (omega (arith, e)) f;
}

-- another command, while it waits
pub session_drops : (h k : ℕ) (wh oh ok : Bool) (b : SeenTables) (c : Command) (hl kl : List Command) (ht kt : Afloat) → is_rst c ≡ false → is_rrp c ≡ false → Session h k wh oh true ok b (c ∷ hl) kl ht kt → Session h k wh oh true ok b hl kl ht kt
session_drops h k wh oh ok b c hl kl ht kt r p s = record {
  matched = other_comes wh oh true ok c hl kl r p s.matched;
  x = s.x;
  y = s.y;
  at_h = s.at_h;
  at_k = s.at_k;
  empty_h = s.empty_h;
  empty_k = s.empty_k;
  quiet_h = s.quiet_h;
  quiet_k = s.quiet_k;
  here = s.here;
  there = subst (λ (cs : List Command). LegalRun false cs s.y) (drops_other c hl p) s.there;
  abreast = λ e f.
      subst (λ (cs : List Command). ConsistentViews s.x cs (afloat oh ht) s.y (hears wh kl) (afloat ok kt)) (drops_other c hl p) (s.abreast (let z : bit (is_rst c) ≡ 0 = ap bit r in omega (arith, e, z)) f);
}

-- and while it does not: this command is allowed
pub may_hear : (h k : ℕ) (wh oh ok : Bool) (b : SeenTables) (c : Command) (hl kl : List Command) (ht kt : Afloat) → is_rst c ≡ false → is_rrp c ≡ false → (s : Session h k wh oh false ok b (c ∷ hl) kl ht kt) → LegalRun false (c ∷ hears false hl) s.y
may_hear h k wh oh ok b c hl kl ht kt r p s = subst (λ (cs : List Command). LegalRun false cs s.y) (hears_other c hl r p) s.there

pub session_hears : (h k : ℕ) (wh oh ok : Bool) (b now : SeenTables) (c : Command) (hl kl : List Command) (ht kt : Afloat) → is_rst c ≡ false → is_rrp c ≡ false → (s : Session h k wh oh false ok b (c ∷ hl) kl ht kt)
    → ReadAs h k now s.x → ReadAs k h now (after_said_by false c s.y) → Session h k wh oh false ok now hl kl ht kt
session_hears h k wh oh ok b now c hl kl ht kt r p s at_h at_k = record {
  matched = other_comes wh oh false ok c hl kl r p s.matched;
  x = s.x;
  y = after_said_by false c s.y;
  at_h = at_h;
  at_k = at_k;
  empty_h = s.empty_h;
  empty_k = λ e. absurd (cc e);
  quiet_h = s.quiet_h;
  quiet_k = λ e. absurd (cc e);
  here = s.here;
  there = (may_hear h k wh oh ok b c hl kl ht kt r p s).1;
  abreast = λ e f.
      turn_abreast
      (heard_abreast (turn_abreast (subst (λ (cs : List Command). ConsistentViews s.x cs (afloat oh ht) s.y (hears wh kl) (afloat ok kt)) (hears_other c hl r p) (s.abreast (let z : bit (is_rst c) ≡ 0 = ap bit r in omega (arith, e, z)) f)))).1;
}

-- a text, while it waits: none that it might hear is on its way
pub session_drops_text : (h k : ℕ) (wh oh ok : Bool) (b : SeenTables) (on : ℕ) (hl kl : List Command) (ht kt : Afloat) → Session h k wh oh true ok b hl kl ht kt → Session h k wh oh true ok b hl kl (with_float on None ht) kt
session_drops_text h k wh oh ok b on hl kl ht kt s = record {
  matched = s.matched;
  x = s.x;
  y = s.y;
  at_h = s.at_h;
  at_k = s.at_k;
  empty_h = s.empty_h;
  empty_k = s.empty_k;
  quiet_h = λ w. fewer ht (s.quiet_h w);
  quiet_k = s.quiet_k;
  here = s.here;
  there = s.there;
  abreast = λ e f. let k = s.abreast e f in floats_alike (same oh (none_afloat (s.empty_k refl) k)) (λ l. refl) k;
}
  where
    fewer : (t : Afloat) → NoneAfloat t → NoneAfloat (with_float on None t)
    fewer t none l = go (l == on)
      where
        go : (x : Bool) → (if x then None else t l) ≡ None
        go true = refl
        go false = none l

    same : (o : Bool) → NoneAfloat (afloat o ht) → (l : ℕ) → afloat o ht l ≡ afloat o (with_float on None ht) l
    same true none l = refl
    same false none l = none l ∙ sym (fewer ht none l)

-- and while it does not: it may be sent that
pub record Received (x y : Said) (hs : List Command) (ht : Afloat) (ks : List Command) (kt : Afloat) (on size bits : ℕ) : Type 0 where
  pub legal : TextLegal false on size bits y
  pub abreast : ConsistentViews x hs (with_float on None ht) (after_text_by false on bits y) ks kt

pub may_receive : (h k : ℕ) (wh oh ok : Bool) (b : SeenTables) (on size bits : ℕ) (hl kl : List Command) (ht kt : Afloat) (s : Session h k wh oh false ok b hl kl ht kt) → ht on ≡ Some (size, bits)
    → Received s.x s.y (hears false hl) ht (hears wh kl) (afloat ok kt) on size bits
may_receive h k wh oh ok b on size bits hl kl ht kt s e = let k = their_text on size bits e (turn_abreast now) in record { legal = k.0; abreast = turn_abreast k.1 }
  where
    unwaited : (w : Bool) → wh ≡ w → bit w ≡ 0
    unwaited false f = refl
    unwaited true f = let nay : None ≡ Some (size, bits) = sym (s.quiet_h f on) ∙ e in absurd (cc nay)

    quiet : rsts hl ≡ 0
    quiet = let m = s.matched.ours in let u = unwaited wh refl in omega (arith, m, u)

    quiet_back : rsts kl ≡ 0
    quiet_back = let m = s.matched.theirs in omega (arith, m)

    unowed : (o : Bool) → oh ≡ o → o ≡ false
    unowed false f = refl
    unowed true f = absurd (let m = s.matched.theirs in let u : bit oh ≡ 1 = ap bit f in omega (arith, m, u))

    now : ConsistentViews s.x (hears false hl) ht s.y (hears wh kl) (afloat ok kt)
    now = subst (λ (o : Bool). ConsistentViews s.x (hears false hl) (afloat o ht) s.y (hears wh kl) (afloat ok kt)) (unowed oh refl) (s.abreast quiet quiet_back)

pub session_receives : (h k : ℕ) (wh oh ok : Bool) (b now : SeenTables) (on size bits : ℕ) (hl kl : List Command) (ht kt : Afloat) (s : Session h k wh oh false ok b hl kl ht kt) → ht on ≡ Some (size, bits)
    → ReadAs h k now s.x → ReadAs k h now (after_text_by false on bits s.y) → Session h k wh oh false ok now hl kl (with_float on None ht) kt
session_receives h k wh oh ok b now on size bits hl kl ht kt s e at_h at_k =
    let r = may_receive h k wh oh ok b on size bits hl kl ht kt s e in
    record {
      matched = s.matched;
      x = s.x;
      y = after_text_by false on bits s.y;
      at_h = at_h;
      at_k = at_k;
      empty_h = s.empty_h;
      empty_k = λ e. absurd (cc e);
      quiet_h = λ w l. let nay : None ≡ Some (size, bits) = sym (s.quiet_h w on) ∙ e in absurd (cc nay);
      quiet_k = λ e. absurd (cc e);
      here = s.here;
      there = r.abreast.there;
      abreast = λ f g. floats_alike (owed oh) (λ l. refl) r.abreast;
    }
  where
    owed : (o : Bool) → (l : ℕ) → with_float on None ht l ≡ afloat oh (with_float on None ht) l
    owed o l = by oh refl
      where
        by : (x : Bool) → oh ≡ x → with_float on None ht l ≡ afloat x (with_float on None ht) l
        by false f = refl
        by true f = absurd (let m = s.matched.theirs in let u : bit oh ≡ 1 = ap bit f in omega (arith, m, u))

-- ---- the books alone change, and the same is read of them

pub session_tables : (h k : ℕ) (wh oh wk ok : Bool) (b now : SeenTables) (hl kl : List Command) (ht kt : Afloat) (s : Session h k wh oh wk ok b hl kl ht kt) → ReadAs h k now s.x → ReadAs k h now s.y → Session h k wh oh wk ok now hl kl ht kt
session_tables h k wh oh wk ok b now hl kl ht kt s at_h at_k = record {
  matched = s.matched;
  x = s.x;
  y = s.y;
  at_h = at_h;
  at_k = at_k;
  empty_h = s.empty_h;
  empty_k = s.empty_k;
  quiet_h = s.quiet_h;
  quiet_k = s.quiet_k;
  here = s.here;
  there = s.there;
  abreast = s.abreast;
}
