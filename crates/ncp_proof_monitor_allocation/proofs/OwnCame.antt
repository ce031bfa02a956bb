-- What came for a receiver stays so through what the host does by itself: its calls, texts that go out, answers to them, and
-- what names a link and comes.
use Rattle.std.proofs.Common.{◌≡◌, ◌<◌, ℕ, Bool, true, false, not, if◌then◌else◌, List, [], ◌∷◌, ◌++◌, length, Option, None, Some, is_some, ◌⊎◌, inl, inr, refl, sym, ap, ◌∙◌, subst, arith}
use Rattle.std.proofs.lemmas.List.{length-drop}
use Rattle.std.specs.FinMap.{get}
use Rattle.std.proofs.lemmas.Bool.{and_parts}
use Rattle.ncp_wire.specs.declared.command.Command.{Command}
use Rattle.ncp_model.specs.declared.pair.Pair.{Pair}
use Rattle.ncp_model.specs.Pairs.{sends, receives}
use Rattle.ncp_model.specs.Endpoint.{Endpoint}
use Rattle.ncp_model.specs.Ends.{Ends}
use Rattle.ncp_model.specs.Texts.{Rfnm, Incomplete, Dead}
use Rattle.ncp_model.specs.EndpointEvents.{EndpointEvent, happens}
use Rattle.ncp_proof_endpoint.specs.Sound.{SoundAt}
use Rattle.ncp_proof_endpoint.proofs.SoundEnds.{sound-after}
use Rattle.ncp_monitor.specs.declared.conn_state.FactKind.{FactKind}
use Rattle.ncp_monitor.specs.ConnStates.{SeenTables, is_marked}
use Rattle.ncp_monitor.proofs.Shapes.{Shape, Say, Ask, Leave, legal, own_step}
use Rattle.ncp_monitor.proofs.LinkOrder.{same, same_is, about, about_after}
use Rattle.ncp_proof_monitor_allocation.proofs.KeptEnds.{of_end, kept, number_if}
use Rattle.ncp_proof_monitor_allocation.proofs.OwnMoves.{all_says, sockets_of, is_of_host, Moved, Silent, Says, moves}
use Rattle.ncp_proof_monitor_allocation.proofs.Changed.{pair_at, OneEnd, unlike}
use Rattle.ncp_proof_monitor_allocation.proofs.SeenTables.{conn_seen, suspended_of}
use Rattle.ncp_proof_monitor_allocation.proofs.Comes.{says_append}
use Rattle.ncp_proof_monitor_allocation.proofs.Came.{asks_in, has_come, Came, holds_unleft, one_sex}

-- a text comes
abbrev pub is_text_coming : EndpointEvent → Bool
is_text_coming (EndpointEvent.Text_comes head of_size text) = true
is_text_coming what = false

-- the end held text before, on the same link
pub record HeldBefore (before : Option Endpoint) (now : Endpoint) : Type 0 where
  pub was : Endpoint
  pub there : before ≡ Some was
  pub holds : 0 < length was.stored
  pub link : was.link ≡ now.link

module _ (pair : Pair) (x e : Endpoint) (receiver : receives pair ≡ true) (sound : SoundAt pair (Some x)) (holds : 0 < length e.stored) where
  abbrev Was : EndpointEvent → Type 0
  Was what = (happens pair what (Some x)).after ≡ Some e → (0 < length x.stored) × (x.link ≡ e.link)

  was_receive : (room on own : ℕ) (full : Bool) → Was (EndpointEvent.Asks_to_receive room on own full)
  was_receive room on own full h = (grind arith, grind arith)

  was_send : (of_size room own : ℕ) (full : Bool) → Was (EndpointEvent.Asks_to_send of_size room own full)
  was_send of_size room own full h = let s = one_sex pair receiver in (grind arith, grind arith)

  was_taken : (bytes : ℕ) → Was (EndpointEvent.Takes bytes)
  was_taken bytes h = (grind (arith, length-drop), grind arith)

  was_there : (what : EndpointEvent) → is_of_host what ≡ true → is_text_coming what ≡ false → Was what
  was_there (EndpointEvent.Asks_to_send of_size room own full) k t h = was_send of_size room own full h
  was_there (EndpointEvent.Asks_to_receive room on own full) k t h = was_receive room on own full h
  was_there (EndpointEvent.Closes full) k t h = (grind arith, grind arith)
  was_there (EndpointEvent.Gives text) k t h = let s = one_sex pair receiver in (grind arith, grind arith)
  was_there (EndpointEvent.Takes bytes) k t h = was_taken bytes h
  was_there (EndpointEvent.Allocates m b full) k t h = (grind arith, grind arith)
  was_there (EndpointEvent.Calls_back m b full) k t h = (grind arith, grind arith)
  was_there (EndpointEvent.Interrupts full) k t h = (grind arith, grind arith)
  was_there (EndpointEvent.All_comes on m b) k t h = (grind arith, grind arith)
  was_there (EndpointEvent.Gvb_comes on m b) k t h = (grind arith, grind arith)
  was_there (EndpointEvent.Ret_comes on m b) k t h = (grind arith, grind arith)
  was_there (EndpointEvent.Inr_comes on) k t h = (grind arith, grind arith)
  was_there (EndpointEvent.Ins_comes on) k t h = (grind arith, grind arith)
  was_there EndpointEvent.Text_goes_out k t h = let s = one_sex pair receiver in (grind arith, grind arith)
  was_there (EndpointEvent.Is_answered Rfnm) k t h = let s = one_sex pair receiver in (grind arith, grind arith)
  was_there (EndpointEvent.Is_answered Incomplete) k t h = (grind arith, grind arith)
  was_there (EndpointEvent.Is_answered Dead) k t h = (grind arith, grind arith)
  was_there (EndpointEvent.Rts_comes on taken by_peer) k t h = absurd (cc k)
  was_there (EndpointEvent.Str_comes of_size by_peer) k t h = absurd (cc k)
  was_there EndpointEvent.Cls_comes k t h = absurd (cc k)
  was_there EndpointEvent.Is_cleared k t h = absurd (cc k)
  was_there (EndpointEvent.Text_comes head of_size text) k t h = absurd (cc t)

-- if there was no end, none holds text
module _ (pair : Pair) (e : Endpoint) (holds : 0 < length e.stored) where
  none_before : (what : EndpointEvent) → is_of_host what ≡ true → (happens pair what None).after ≡ Some e → ⊥
  none_before (EndpointEvent.Asks_to_send of_size room own full) k h = grind arith
  none_before (EndpointEvent.Asks_to_receive room on own full) k h = grind arith
  none_before (EndpointEvent.Closes full) k h = cc h
  none_before (EndpointEvent.Gives text) k h = cc h
  none_before (EndpointEvent.Takes bytes) k h = cc h
  none_before (EndpointEvent.Allocates m b full) k h = cc h
  none_before (EndpointEvent.Calls_back m b full) k h = cc h
  none_before (EndpointEvent.Interrupts full) k h = cc h
  none_before (EndpointEvent.All_comes on m b) k h = cc h
  none_before (EndpointEvent.Gvb_comes on m b) k h = cc h
  none_before (EndpointEvent.Ret_comes on m b) k h = cc h
  none_before (EndpointEvent.Inr_comes on) k h = cc h
  none_before (EndpointEvent.Ins_comes on) k h = cc h
  none_before EndpointEvent.Text_goes_out k h = cc h
  none_before (EndpointEvent.Is_answered Rfnm) k h = cc h
  none_before (EndpointEvent.Is_answered Incomplete) k h = cc h
  none_before (EndpointEvent.Is_answered Dead) k h = cc h
  none_before (EndpointEvent.Text_comes head of_size text) k h = cc h
  none_before (EndpointEvent.Rts_comes on taken by_peer) k h = cc k
  none_before (EndpointEvent.Str_comes of_size by_peer) k h = cc k
  none_before EndpointEvent.Cls_comes k h = cc k
  none_before EndpointEvent.Is_cleared k h = cc k

held_before : (pair : Pair) (what : EndpointEvent) (before : Option Endpoint) (e : Endpoint) → is_of_host what ≡ true → is_text_coming what ≡ false → receives pair ≡ true → SoundAt pair before → (happens pair what before).after ≡ Some e → 0 < length e.stored → HeldBefore before e
held_before pair what None e k t r s h l = absurd (none_before pair e l what k h)
held_before pair what (Some x) e k t r s h l = let w = was_there pair x e r s l what k t h in record { was = x; there = refl; holds = w.0; link = w.1 }

-- ---- an end that holds text has asked, and nothing is said of one that goes on holding it

holds_asked : (pair : Pair) (e : Endpoint) → SoundAt pair (Some e) → 0 < length e.stored → e.asked ≡ true
holds_asked pair e sound l = go e.opened refl
  where
    go : (b : Bool) → e.opened ≡ b → e.asked ≡ true
    go true o = sound.asked o
    go false o = let none = sound.stored o in absurd (grind (arith, none))

still_silent : (pair : Pair) (before after : Option Endpoint) (made : List Command) (x e : Endpoint) → before ≡ Some x → after ≡ Some e → receives pair ≡ true → SoundAt pair (Some x) → SoundAt pair (Some e) → 0 < length x.stored → 0 < length e.stored
    → Moved (sends pair) pair before after made → all_says made ≡ []
still_silent pair before after made x e b a r s t h l (Silent none same) = none
still_silent pair before after made x e b a r s t h l (Says (Ask k) said may same) =
    let asked : legal (Ask k) (Some (of_end (sends pair) x)) ≡ true = subst (λ (o : Option Endpoint). legal (Ask k) (kept (sends pair) o) ≡ true) b may in
    let own = (and_parts (not (is_some (of_end (sends pair) x).own)) (not x.left) asked).0 in
    let nay : false ≡ true = sym (ap (λ (y : Bool). not (is_some (number_if y (if sends pair then x.size else x.link)))) (holds_asked pair x s h)) ∙ own in absurd (cc nay)
still_silent pair before after made x e b a r s t h l (Says Leave said may same) =
    absurd (go x.cls (sym (ap (kept (sends pair)) a) ∙ same ∙ ap (λ (o : Option Endpoint). own_step Leave (kept (sends pair) o)) b))
  where
    go : (c : Bool) → Some (of_end (sends pair) e) ≡ (if c then None else Some (record (of_end (sends pair) x) { left = true })) → ⊥
    go true g = cc g
    go false g =
        let is : of_end (sends pair) e ≡ record (of_end (sends pair) x) { left = true } = cc g in
        let nay : true ≡ false = sym (ap (λ (y : Shape). y.left) is) ∙ holds_unleft pair e t l in cc nay

nil_after : {A : Type 0} (xs : List A) → xs ++ [] ≡ xs
nil_after [] = refl
nil_after (x ∷ xs) = ap (λ ys. x ∷ ys) (nil_after xs)

-- ---- so what came for it stays so

pub own_came : (me n : ℕ) (pair : Pair) (what : EndpointEvent) (m now : Ends) (w : List Command) (b : SeenTables) → ((q : Pair) → SoundAt q (get m q)) → is_of_host what ≡ true → is_text_coming what ≡ false
    → OneEnd m now pair (happens pair what (get m pair)).after → Came me n m w b → Came me n now (w ++ (happens pair what (get m pair)).made) b
own_came me n pair what m now w b sound k t one came u e g r l = go (same u (sockets_of pair)) refl
  where
    made : List Command
    made = (happens pair what (get m pair)).made

    moved : Moved (sends pair) pair (get m pair) (happens pair what (get m pair)).after made
    moved = moves pair what (get m pair) k (sound pair)

    -- with the same that waits
    as_was : (x : Endpoint) → x.link ≡ e.link → about u (all_says (w ++ made)) ≡ about u (all_says w)
        → (suspended_of me n b u ≡ true) ⊎ ((if asks_in (about u (all_says w)) then is_marked me n (FactKind.LinkSuspended true x.link) b else has_come (conn_seen me n b u)) ≡ true)
        → (suspended_of me n b u ≡ true) ⊎ ((if asks_in (about u (all_says (w ++ made))) then is_marked me n (FactKind.LinkSuspended true e.link) b else has_come (conn_seen me n b u)) ≡ true)
    as_was x s a (inl z) = inl z
    as_was x s a (inr z) =
        inr (subst (λ (q : List Say). (if asks_in q then is_marked me n (FactKind.LinkSuspended true e.link) b else has_come (conn_seen me n b u)) ≡ true) (sym a)
        (subst (λ (y : ℕ). (if asks_in (about u (all_says w)) then is_marked me n (FactKind.LinkSuspended true y) b else has_come (conn_seen me n b u)) ≡ true) s z))

    nothing_said : all_says made ≡ [] → about u (all_says (w ++ made)) ≡ about u (all_says w)
    nothing_said none = ap (about u) (says_append w made ∙ ap (λ ys. all_says w ++ ys) none ∙ nil_after (all_says w))

    of_another : same u (sockets_of pair) ≡ false → Moved (sends pair) pair (get m pair) (happens pair what (get m pair)).after made → about u (all_says (w ++ made)) ≡ about u (all_says w)
    of_another d (Silent none same_shape) = nothing_said none
    of_another d (Says c said may step) =
        ap (about u) (says_append w made ∙ ap (λ ys. all_says w ++ ys) said)
        ∙ about_after u (all_says w) (sockets_of pair) c
        ∙ ap (λ (y : Bool). if y then about u (all_says w) ++ c ∷ [] else about u (all_says w)) d

    go : (y : Bool) → same u (sockets_of pair) ≡ y
        → (suspended_of me n b u ≡ true) ⊎ ((if asks_in (about u (all_says (w ++ made))) then is_marked me n (FactKind.LinkSuspended true e.link) b else has_come (conn_seen me n b u)) ≡ true)
    go false d = as_was e refl (of_another d moved) (came u e (sym (one.elsewhere (pair_at u) (unlike u (sockets_of pair) d)) ∙ g) r l)
    go true d = as_was hb.was hb.link (nothing_said silent) (came u hb.was (ap (get m) is ∙ hb.there) r hb.holds)
      where
        is : pair_at u ≡ pair
        is = ap pair_at (same_is u (sockets_of pair) d)

        after : (happens pair what (get m pair)).after ≡ Some e
        after = sym one.there ∙ ap (get now) (sym is) ∙ g

        receiver : receives pair ≡ true
        receiver = ap receives (sym is) ∙ r

        hb : HeldBefore (get m pair) e
        hb = held_before pair what (get m pair) e k t receiver (sound pair) after l

        silent : all_says made ≡ []
        silent =
            still_silent pair (get m pair) (happens pair what (get m pair)).after made hb.was e hb.there after receiver (subst (SoundAt pair) hb.there (sound pair))
            (subst (SoundAt pair) after (sound-after pair what (get m pair) (sound pair))) hb.holds l moved
