-- A connection of a host with its counts, as observed while words of the host are queued: after the
-- queued words it is as the host has it. The numbers of a word that names a suspended link are not
-- checked.
use Rattle.std.proofs.Common.{◌≡◌, ℕ, ◌+◌, ◌==◌, eq-eqb, Bool, true, false, not, ◌&&◌, ◌||◌, nat_le, if◌then◌else◌, List, [], ◌∷◌, ◌++◌, Option, None, Some, is_some, refl, sym, ap, ◌∙◌, subst}
use Rattle.std.proofs.lemmas.Bool.{eqb-true, and_parts}
use Rattle.ncp_model.specs.Endpoint.{Endpoint, is_closing}
use Rattle.ncp_monitor.specs.declared.conn_state.ConnState.{ConnState}
use Rattle.ncp_interface.specs.Sockets.{is_number_given}
use Rattle.ncp_monitor.proofs.Shapes.{Shape, Say, Ask, Leave, Agrees, legal, own_step, their_legal, their_step, is_closed, hears, may_hear}

-- a request or a CLS; ALL, GVB, RET; INR or INS
pub data Word : Type 0 where
  Speaks : (say : Say) → Word
  Grants : (link : ℕ) → (messages : ℕ) → (bits : ℕ) → Word
  Recalls : (link : ℕ) → (of_messages : ℕ) → (of_bits : ℕ) → Word
  Returns : (link : ℕ) → (messages : ℕ) → (bits : ℕ) → Word
  Hints : (link : ℕ) → Word

-- what the sender may still send, and that a GVB has had no RET
pub record Count : Type 0 where
  pub messages : ℕ
  pub bits : ℕ
  pub recall : Bool

abbrev pub no_count : Count
no_count = record { messages = 0; bits = 0; recall = false }

-- as it is seen
abbrev pub count_of : Option ConnState → Count
count_of None = no_count
count_of (Some conn) = record { messages = conn.messages; bits = conn.bits; recall = conn.recall }

-- the link: that of the other's request if the host sends, else that of its own
abbrev pub link_of : Bool → Shape → Option ℕ
link_of sends s = if sends then s.others else s.own

abbrev pub link_given : Bool → Option Shape → Option ℕ
link_given sends None = None
link_given sends (Some s) = link_of sends s

-- both have asked, and the host has not left
abbrev pub is_open_on : Bool → ℕ → Option Shape → Bool
is_open_on sends link None = false
is_open_on sends link (Some s) = is_some s.own && is_some s.others && not s.left && is_number_given (link_of sends s) link

-- it may be said of such a connection
abbrev pub is_right : Bool → Word → Option Shape → Bool
is_right sends (Speaks say) m = legal say m
is_right sends (Grants link messages bits) m = not sends && is_open_on sends link m
is_right sends (Recalls link of_messages of_bits) m = not sends && is_open_on sends link m
is_right sends (Returns link messages bits) m = sends && is_open_on sends link m
is_right sends (Hints link) m = is_open_on sends link m

-- and after what is counted
abbrev pub is_within : Word → Count → Bool
is_within (Speaks say) k = true
is_within (Grants link messages bits) k = nat_le (k.messages + messages) 65535 && nat_le (k.bits + bits) 65536
is_within (Recalls link of_messages of_bits) k = not k.recall
is_within (Returns link messages bits) k = true
is_within (Hints link) k = true

-- it is not judged
abbrev pub names_at_rest : (ℕ → Bool) → Word → Bool
names_at_rest links (Speaks say) = false
names_at_rest links (Grants link messages bits) = links link
names_at_rest links (Recalls link of_messages of_bits) = links link
names_at_rest links (Returns link messages bits) = links link
names_at_rest links (Hints link) = links link

abbrev pub shape_after : Word → Option Shape → Option Shape
shape_after (Speaks say) m = own_step say m
shape_after (Grants link messages bits) m = m
shape_after (Recalls link of_messages of_bits) m = m
shape_after (Returns link messages bits) m = m
shape_after (Hints link) m = m

-- with its second CLS nothing is counted any more
abbrev pub count_after : Word → Option Shape → Count → Count
count_after (Speaks (Ask n)) m k = k
count_after (Speaks Leave) m k = if is_closed m then no_count else k
count_after (Grants link messages bits) m k = record k { messages = k.messages + messages; bits = k.bits + bits }
count_after (Recalls link of_messages of_bits) m k = record k { recall = true }
count_after (Returns link messages bits) m k = record k { recall = false }
count_after (Hints link) m k = k

-- each queued word is right, and after them `fits` holds for the shape and the count; a word that names a
-- suspended link need not be within the count
abbrev pub Agreed : Bool → (ℕ → Bool) → (Option Shape → Count → Type 0) → List Word → Option Shape → Count → Type 0
Agreed sends links fits [] m k = fits m k
Agreed sends links fits (w ∷ ws) m k =
    (is_right sends w m ≡ true) × (((names_at_rest links w || is_within w k) ≡ true) × Agreed sends links fits ws (shape_after w m) (count_after w m k))

-- ---- what the host has

-- the numbers are those of the end; a GVB that has had no RET is known to it
pub record IsCounted (sends : Bool) (e : Endpoint) (j : Count) : Type 0 where
  pub messages : j.messages ≡ e.messages
  pub bits : j.bits ≡ e.bits
  pub recall : sends ≡ false → e.recall ≡ false → j.recall ≡ false

-- nothing is counted
pub record IsUncounted (e : Endpoint) (j : Count) : Type 0 where
  pub messages : e.messages ≡ 0
  pub bits : e.bits ≡ 0
  pub none : j ≡ no_count

-- of one that has no link yet nothing is counted; if its link does not rest, what the host has
pub record FitsEnd (sends : Bool) (links : ℕ → Bool) (e : Endpoint) (x : Option Shape) (j : Count) : Type 0 where
  pub given : (l : ℕ) → link_given sends x ≡ Some l → links l ≡ false → IsCounted sends e j
  pub ungiven : link_given sends x ≡ None → IsUncounted e j

-- of an end on its way out, and if there is none, nothing is said
abbrev pub Fits : Bool → (ℕ → Bool) → Option Endpoint → Option Shape → Count → Type 0
Fits sends links o x j = (e : Endpoint) → o ≡ Some e → is_closing e ≡ false → FitsEnd sends links e x j

-- ---- a suspended connection: its queued words are of its side, and name suspended links, or one that it
-- asked for before

-- with the link that it asks for
abbrev pub asked_too : Bool → ℕ → (ℕ → Bool) → ℕ → Bool
asked_too sends n links l = (not sends && l == n) || links l

abbrev pub Hidden : Bool → (ℕ → Bool) → ((ℕ → Bool) → Type 0) → List Word → Type 0
Hidden sends links last [] = last links
Hidden sends links last (Speaks (Ask n) ∷ ws) = Hidden sends (asked_too sends n links) last ws
Hidden sends links last (Speaks Leave ∷ ws) = Hidden sends links last ws
Hidden sends links last (Grants link messages bits ∷ ws) = ((not sends && links link) ≡ true) × Hidden sends links last ws
Hidden sends links last (Recalls link of_messages of_bits ∷ ws) = ((not sends && links link) ≡ true) × Hidden sends links last ws
Hidden sends links last (Returns link messages bits ∷ ws) = ((sends && links link) ≡ true) × Hidden sends links last ws
Hidden sends links last (Hints link ∷ ws) = (links link ≡ true) × Hidden sends links last ws

-- the link of an end: chosen by the receiver
abbrev pub has_link_of : Bool → Endpoint → Bool
has_link_of sends e = if sends then e.heard else e.asked

-- the link of the end is one of them
abbrev pub LinkHidden : Option Endpoint → Bool → (ℕ → Bool) → Type 0
LinkHidden o sends links = (e : Endpoint) → o ≡ Some e → is_closing e ≡ false → has_link_of sends e ≡ true → links e.link ≡ true

-- ---- an example: a receiver whose RTS was seen and whose sender's STR came, after an ALL and a GVB

abbrev asked_both : Option Shape
asked_both = Some (record { own = Some 5; others = Some 8; left = false; cls = false })

example_granted : Agreed false (λ l. false) (λ x j. (x ≡ asked_both) × (j ≡ record { messages = 3; bits = 40; recall = true })) (Grants 5 2 16 ∷ Recalls 5 128 128 ∷ []) asked_both (record { messages = 1; bits = 24; recall = false })
example_granted = (refl, (refl, (refl, (refl, (refl, refl)))))

-- a word for another link is not right; nor is one for more than may be allocated, unless its link is
-- suspended
example_other : is_right false (Grants 6 2 16) asked_both ≡ false
example_other = refl

example_most : is_within (Grants 5 65535 0) (record { messages = 1; bits = 0; recall = false }) ≡ false
example_most = refl

example_suspended : Agreed false (λ l. l == 5) (λ x j. Unit {0}) (Grants 5 65535 0 ∷ []) asked_both (record { messages = 1; bits = 0; recall = false })
example_suspended = (refl, (refl, tt))

-- ---- more waits, of what the host has

pub agreed_more : (sends : Bool) (links : ℕ → Bool) (fits then_fits : Option Shape → Count → Type 0) (more ws : List Word) (m : Option Shape) (k : Count) → ((x : Option Shape) (j : Count) → fits x j → Agreed sends links then_fits more x j)
    → Agreed sends links fits ws m k → Agreed sends links then_fits (ws ++ more) m k
agreed_more sends links fits then_fits more [] m k f a = f m k a
agreed_more sends links fits then_fits more (w ∷ ws) m k f (r, (i, a)) = (r, (i, agreed_more sends links fits then_fits more ws (shape_after w m) (count_after w m k) f a))

-- something else is so of what the host has
pub agreed_fits : (sends : Bool) (links : ℕ → Bool) (fits then_fits : Option Shape → Count → Type 0) (ws : List Word) (m : Option Shape) (k : Count) → ((x : Option Shape) (j : Count) → fits x j → then_fits x j)
    → Agreed sends links fits ws m k → Agreed sends links then_fits ws m k
agreed_fits sends links fits then_fits [] m k f a = f m k a
agreed_fits sends links fits then_fits (w ∷ ws) m k f (r, (i, a)) = (r, (i, agreed_fits sends links fits then_fits ws (shape_after w m) (count_after w m k) f a))

-- ---- more is suspended

or_more : (a b c : Bool) → (a ≡ true → b ≡ true) → (a || c) ≡ true → (b || c) ≡ true
or_more true b c f e = ap (λ (x : Bool). x || c) (f refl)
or_more false true c f e = refl
or_more false false c f e = e

pub word_wider : (links wider : ℕ → Bool) → ((link : ℕ) → links link ≡ true → wider link ≡ true) → (w : Word) → names_at_rest links w ≡ true → names_at_rest wider w ≡ true
word_wider links wider f (Speaks say) e = e
word_wider links wider f (Grants link messages bits) e = f link e
word_wider links wider f (Recalls link of_messages of_bits) e = f link e
word_wider links wider f (Returns link messages bits) e = f link e
word_wider links wider f (Hints link) e = f link e

pub agreed_wider : (sends : Bool) (links wider : ℕ → Bool) (fits then_fits : Option Shape → Count → Type 0) (ws : List Word) (m : Option Shape) (k : Count) → ((link : ℕ) → links link ≡ true → wider link ≡ true)
    → ((x : Option Shape) (j : Count) → fits x j → then_fits x j) → Agreed sends links fits ws m k → Agreed sends wider then_fits ws m k
agreed_wider sends links wider fits then_fits [] m k f g a = g m k a
agreed_wider sends links wider fits then_fits (w ∷ ws) m k f g (r, (i, a)) =
    (r, (or_more (names_at_rest links w) (names_at_rest wider w) (is_within w k) (word_wider links wider f w) i, agreed_wider sends links wider fits then_fits ws (shape_after w m) (count_after w m k) f g a))

lower : (links wider : ℕ → Bool) → ((link : ℕ) → links link ≡ true → wider link ≡ true) → (l : ℕ) → wider l ≡ false → links l ≡ false
lower links wider f l e = go (links l) refl
  where
    go : (b : Bool) → links l ≡ b → links l ≡ false
    go true k = let nay : true ≡ false = sym (f l k) ∙ e in absurd (cc nay)
    go false k = k

pub fits_wider : (sends : Bool) (links wider : ℕ → Bool) (o : Option Endpoint) (x : Option Shape) (j : Count) → ((link : ℕ) → links link ≡ true → wider link ≡ true) → Fits sends links o x j → Fits sends wider o x j
fits_wider sends links wider o x j f a e g s = record { given = λ l d r. (a e g s).given l d (lower links wider f l r); ungiven = (a e g s).ungiven }

-- ---- the shape after all queued words

abbrev pub says_in : List Word → List Say
says_in [] = []
says_in (Speaks say ∷ ws) = say ∷ says_in ws
says_in (Grants link messages bits ∷ ws) = says_in ws
says_in (Recalls link of_messages of_bits ∷ ws) = says_in ws
says_in (Returns link messages bits ∷ ws) = says_in ws
says_in (Hints link ∷ ws) = says_in ws

-- nothing is counted of one that is not there
abbrev pub NoneCounted : Option Shape → Count → Type 0
NoneCounted x j = x ≡ None → j ≡ no_count

none_after : (w : Word) (m : Option Shape) (k : Count) (sends : Bool) → is_right sends w m ≡ true → NoneCounted m k → NoneCounted (shape_after w m) (count_after w m k)
none_after (Speaks (Ask n)) m k sends r h e = absurd (cc e)
none_after (Speaks Leave) None k sends r h e = absurd (cc r)
none_after (Speaks Leave) (Some s) k sends r h e = go s.cls e
  where
    go : (b : Bool) → (if b then None else Some (record s { left = true })) ≡ None → (if b then no_count else k) ≡ no_count
    go true e = refl
    go false e = absurd (cc e)
none_after (Grants link messages bits) None k sends r h e = absurd (nothing sends r)
  where
    nothing : (b : Bool) → (not b && false) ≡ true → ⊥
    nothing true x = cc x
    nothing false x = cc x
none_after (Grants link messages bits) (Some s) k sends r h e = absurd (cc e)
none_after (Recalls link of_messages of_bits) None k sends r h e = absurd (nothing sends r)
  where
    nothing : (b : Bool) → (not b && false) ≡ true → ⊥
    nothing true x = cc x
    nothing false x = cc x
none_after (Recalls link of_messages of_bits) (Some s) k sends r h e = absurd (cc e)
none_after (Returns link messages bits) None k sends r h e = absurd (nothing sends r)
  where
    nothing : (b : Bool) → (b && false) ≡ true → ⊥
    nothing true x = cc x
    nothing false x = cc x
none_after (Returns link messages bits) (Some s) k sends r h e = absurd (cc e)
none_after (Hints link) None k sends r h e = absurd (cc r)
none_after (Hints link) (Some s) k sends r h e = absurd (cc e)

-- it is what the host keeps
pub agreed_kept : (sends : Bool) (links : ℕ → Bool) (fits : Option Shape → Count → Type 0) (ws : List Word) (e m : Option Shape) (k : Count) → Agrees (says_in ws) e m → NoneCounted m k → Agreed sends links fits ws m k
    → Agreed sends links (λ x j. (x ≡ e) × (NoneCounted x j × fits x j)) ws m k
agreed_kept sends links fits [] e m k q h a = (q, (h, a))
agreed_kept sends links fits (Speaks say ∷ ws) e m k (l, q) h (r, (i, a)) = (r, (i, agreed_kept sends links fits ws e (own_step say m) (count_after (Speaks say) m k) q (none_after (Speaks say) m k sends r h) a))
agreed_kept sends links fits (Grants link messages bits ∷ ws) e m k q h (r, (i, a)) = (r, (i, agreed_kept sends links fits ws e m (count_after (Grants link messages bits) m k) q (none_after (Grants link messages bits) m k sends r h) a))
agreed_kept sends links fits (Recalls link of_messages of_bits ∷ ws) e m k q h (r, (i, a)) = (r, (i, agreed_kept sends links fits ws e m (count_after (Recalls link of_messages of_bits) m k) q (none_after (Recalls link of_messages of_bits) m k sends r h) a))
agreed_kept sends links fits (Returns link messages bits ∷ ws) e m k q h (r, (i, a)) = (r, (i, agreed_kept sends links fits ws e m (count_after (Returns link messages bits) m k) q (none_after (Returns link messages bits) m k sends r h) a))
agreed_kept sends links fits (Hints link ∷ ws) e m k q h (r, (i, a)) = (r, (i, agreed_kept sends links fits ws e m k q h a))

-- ---- the other says something that is right

abbrev pub has_left : Option Shape → Bool
has_left None = false
has_left (Some s) = s.left

-- with its CLS the connection ends if the host has left, and nothing is counted any more
abbrev pub their_count : Say → Option Shape → Count → Count
their_count (Ask n) m k = k
their_count Leave m k = if has_left m then no_count else k

open_unleft : (sends : Bool) (link : ℕ) (s : Shape) → is_open_on sends link (Some s) ≡ true → s.left ≡ false
open_unleft sends link s o = go (is_some s.own) (is_some s.others) s.left (is_number_given (link_of sends s) link) o
  where
    go : (a b c d : Bool) → (a && b && not c && d) ≡ true → c ≡ false
    go a b false d e = refl
    go true true true d e = absurd (cc e)
    go true false true d e = absurd (cc e)
    go false b true d e = absurd (cc e)

-- a word is right of one only that the host has not left
right_unleft : (sends : Bool) (w : Word) (m : Option Shape) → is_right sends w m ≡ true → has_left m ≡ false
right_unleft sends w None r = refl
right_unleft sends (Speaks (Ask n)) (Some s) r = isnt s.left (and_parts (not (is_some s.own)) (not s.left) r).1
  where
    isnt : (b : Bool) → not b ≡ true → b ≡ false
    isnt true e = absurd (cc e)
    isnt false e = refl
right_unleft sends (Speaks Leave) (Some s) r = isnt s.left r
  where
    isnt : (b : Bool) → not b ≡ true → b ≡ false
    isnt true e = absurd (cc e)
    isnt false e = refl
right_unleft sends (Grants link messages bits) (Some s) r = open_unleft sends link s (and_parts (not sends) (is_open_on sends link (Some s)) r).1
right_unleft sends (Recalls link of_messages of_bits) (Some s) r = open_unleft sends link s (and_parts (not sends) (is_open_on sends link (Some s)) r).1
right_unleft sends (Returns link messages bits) (Some s) r = open_unleft sends link s (and_parts sends (is_open_on sends link (Some s)) r).1
right_unleft sends (Hints link) (Some s) r = open_unleft sends link s r

-- one on which it is open has both requests, and this link
pub record IsOpen (sends : Bool) (link : ℕ) (s : Shape) : Type 0 where
  pub own : is_some s.own ≡ true
  pub others : is_some s.others ≡ true
  pub left : s.left ≡ false
  pub given : is_number_given (link_of sends s) link ≡ true

pub open_is : (sends : Bool) (link : ℕ) (s : Shape) → is_open_on sends link (Some s) ≡ true → IsOpen sends link s
open_is sends link s o = go (is_some s.own) (is_some s.others) s.left (is_number_given (link_of sends s) link) refl refl refl refl o
  where
    go : (a b c d : Bool) → is_some s.own ≡ a → is_some s.others ≡ b → s.left ≡ c → is_number_given (link_of sends s) link ≡ d → (a && b && not c && d) ≡ true → IsOpen sends link s
    go true true false true u v w x e = record { own = u; others = v; left = w; given = x }
    go true true false false u v w x e = absurd (cc e)
    go true true true d u v w x e = absurd (cc e)
    go true false c d u v w x e = absurd (cc e)
    go false b c d u v w x e = absurd (cc e)

-- it is open after what the other may say: only a CLS may come
open_still : (x : Say) (sends : Bool) (link : ℕ) (m : Option Shape) → their_legal x m ≡ true → is_open_on sends link m ≡ true → is_open_on sends link (their_step x m) ≡ true
open_still x sends link None t o = absurd (cc o)
open_still (Ask n) sends link (Some s) t o = absurd (go s.others t (open_is sends link s o).others)
  where
    go : (x : Option ℕ) → (not (is_some x) && not s.cls) ≡ true → is_some x ≡ true → ⊥
    go None t e = cc e
    go (Some y) t e = cc t
open_still Leave sends link (Some s) t o = go s.left refl
  where
    go : (b : Bool) → s.left ≡ b → is_open_on sends link (if b then None else Some (record s { cls = true })) ≡ true
    go true e = let nay : false ≡ true = sym (open_unleft sends link s o) ∙ e in absurd (cc nay)
    go false e = o

both_still : (a b c : Bool) → (b ≡ true → c ≡ true) → (a && b) ≡ true → (a && c) ≡ true
both_still true b c f e = f e
both_still false b c f e = e

right_still : (x : Say) (sends : Bool) (w : Word) (m : Option Shape) → their_legal x m ≡ true → is_right sends w m ≡ true → is_right sends w (their_step x m) ≡ true
right_still x sends (Speaks say) m t r = (hears (say ∷ []) (own_step say m) m x t (r, refl)).0
right_still x sends (Grants link messages bits) m t r = both_still (not sends) (is_open_on sends link m) (is_open_on sends link (their_step x m)) (open_still x sends link m t) r
right_still x sends (Recalls link of_messages of_bits) m t r = both_still (not sends) (is_open_on sends link m) (is_open_on sends link (their_step x m)) (open_still x sends link m t) r
right_still x sends (Returns link messages bits) m t r = both_still sends (is_open_on sends link m) (is_open_on sends link (their_step x m)) (open_still x sends link m t) r
right_still x sends (Hints link) m t r = open_still x sends link m t r

shape_still : (x : Say) (sends : Bool) (w : Word) (m : Option Shape) → their_legal x m ≡ true → is_right sends w m ≡ true → shape_after w (their_step x m) ≡ their_step x (shape_after w m)
shape_still x sends (Speaks say) m t r = (hears (say ∷ []) (own_step say m) m x t (r, refl)).1
shape_still x sends (Grants link messages bits) m t r = refl
shape_still x sends (Recalls link of_messages of_bits) m t r = refl
shape_still x sends (Returns link messages bits) m t r = refl
shape_still x sends (Hints link) m t r = refl

their_still : (x : Say) (sends : Bool) (w : Word) (m : Option Shape) → their_legal x m ≡ true → is_right sends w m ≡ true → their_legal x (shape_after w m) ≡ true
their_still x sends (Speaks say) m t r = may_hear (say ∷ []) (own_step say m) m x t (r, refl)
their_still x sends (Grants link messages bits) m t r = t
their_still x sends (Recalls link of_messages of_bits) m t r = t
their_still x sends (Returns link messages bits) m t r = t
their_still x sends (Hints link) m t r = t

unleft_count : (x : Say) (m : Option Shape) (k : Count) → has_left m ≡ false → their_count x m k ≡ k
unleft_count (Ask n) m k l = refl
unleft_count Leave m k l = ap (λ (b : Bool). if b then no_count else k) l

count_still : (x : Say) (sends : Bool) (w : Word) (m : Option Shape) (k : Count) → their_legal x m ≡ true → is_right sends w m ≡ true
    → count_after w (their_step x m) (their_count x m k) ≡ their_count x (shape_after w m) (count_after w m k)
count_still x sends (Speaks (Ask j)) None k t r = unleft_count x None k refl ∙ sym (unleft_count x (own_step (Ask j) None) k refl)
count_still x sends (Speaks (Ask j)) (Some s) k t r =
    let l = right_unleft sends (Speaks (Ask j)) (Some s) r in unleft_count x (Some s) k l ∙ sym (unleft_count x (own_step (Ask j) (Some s)) k l)
count_still x sends (Speaks Leave) None k t r = absurd (cc r)
count_still (Ask n) sends (Speaks Leave) (Some s) k t r = refl
count_still Leave sends (Speaks Leave) (Some s) k t r = go s.left s.cls (right_unleft sends (Speaks Leave) (Some s) r) t
  where
    go : (l c : Bool) → l ≡ false → not c ≡ true
        → (if is_closed (if l then None else Some (record s { cls = true })) then no_count else if l then no_count else k)
        ≡ (if has_left (if c then None else Some (record s { left = true })) then no_count else if c then no_count else k)
    go true c e f = absurd (cc e)
    go false true e f = absurd (cc f)
    go false false e f = refl
count_still x sends (Grants link messages bits) m k t r =
    let l = right_unleft sends (Grants link messages bits) m r in
    ap (λ (c : Count). record c { messages = c.messages + messages; bits = c.bits + bits }) (unleft_count x m k l)
    ∙ sym (unleft_count x m (record k { messages = k.messages + messages; bits = k.bits + bits }) l)
count_still x sends (Recalls link of_messages of_bits) m k t r =
    let l = right_unleft sends (Recalls link of_messages of_bits) m r in
    ap (λ (c : Count). record c { recall = true }) (unleft_count x m k l) ∙ sym (unleft_count x m (record k { recall = true }) l)
count_still x sends (Returns link messages bits) m k t r =
    let l = right_unleft sends (Returns link messages bits) m r in
    ap (λ (c : Count). record c { recall = false }) (unleft_count x m k l) ∙ sym (unleft_count x m (record k { recall = false }) l)
count_still x sends (Hints link) m k t r = refl

-- what waits is right after it too, and what the host has hears the same
pub agreed_hears : (x : Say) (sends : Bool) (links : ℕ → Bool) (fits then_fits : Option Shape → Count → Type 0) (ws : List Word) (m : Option Shape) (k : Count) → their_legal x m ≡ true
    → ((y : Option Shape) (j : Count) → their_legal x y ≡ true → fits y j → then_fits (their_step x y) (their_count x y j))
    → Agreed sends links fits ws m k → Agreed sends links then_fits ws (their_step x m) (their_count x m k)
agreed_hears x sends links fits then_fits [] m k t f a = f m k t a
agreed_hears x sends links fits then_fits (w ∷ ws) m k t f (r, (i, a)) = (
  right_still x sends w m t r,
  (
    subst (λ (c : Count). (names_at_rest links w || is_within w c) ≡ true) (sym (unleft_count x m k (right_unleft sends w m r))) i,
    subst (λ (y : Option Shape). Agreed sends links then_fits ws y (count_after w (their_step x m) (their_count x m k))) (sym (shape_still x sends w m t r))
        (subst (Agreed sends links then_fits ws (their_step x (shape_after w m))) (sym (count_still x sends w m k t r))
        (agreed_hears x sends links fits then_fits ws (shape_after w m) (count_after w m k) (their_still x sends w m t r) f a)),
  ),
)

-- ---- the link that a connection has is its link until it ends

pub open_link : (sends : Bool) (link l : ℕ) (m : Option Shape) → is_open_on sends link m ≡ true → link_given sends m ≡ Some l → link ≡ l
open_link sends link l None o g = absurd (cc o)
open_link sends link l (Some s) o g = sym (eqb-true l link (sym (ap (λ (x : Option ℕ). is_number_given x link) g) ∙ (open_is sends link s o).given))

pub open_given : (sends : Bool) (link : ℕ) (m : Option Shape) → is_open_on sends link m ≡ true → link_given sends m ≡ Some link
open_given sends link None o = absurd (cc o)
open_given sends link (Some s) o = go (link_of sends s) (open_is sends link s o).given
  where
    go : (x : Option ℕ) → is_number_given x link ≡ true → x ≡ Some link
    go None e = absurd (cc e)
    go (Some y) e = ap (λ (z : ℕ). Some z) (eqb-true y link e)

-- the link of a word, if it names one
abbrev pub NamesLink : Word → ℕ → Type 0
NamesLink (Speaks say) l = Unit {0}
NamesLink (Grants link messages bits) l = link ≡ l
NamesLink (Recalls link of_messages of_bits) l = link ≡ l
NamesLink (Returns link messages bits) l = link ≡ l
NamesLink (Hints link) l = link ≡ l

pub right_names : (sends : Bool) (w : Word) (m : Option Shape) (l : ℕ) → is_right sends w m ≡ true → link_given sends m ≡ Some l → NamesLink w l
right_names sends (Speaks say) m l r g = tt
right_names sends (Grants link messages bits) m l r g = open_link sends link l m (and_parts (not sends) (is_open_on sends link m) r).1 g
right_names sends (Recalls link of_messages of_bits) m l r g = open_link sends link l m (and_parts (not sends) (is_open_on sends link m) r).1 g
right_names sends (Returns link messages bits) m l r g = open_link sends link l m (and_parts sends (is_open_on sends link m) r).1 g
right_names sends (Hints link) m l r g = open_link sends link l m r g

asked_given : (sends : Bool) (n : ℕ) (m : Option Shape) (l : ℕ) → legal (Ask n) m ≡ true → link_given sends m ≡ Some l → link_given sends (own_step (Ask n) m) ≡ Some l
asked_given sends n None l r g = absurd (cc g)
asked_given true n (Some s) l r g = g
asked_given false n (Some s) l r g = absurd (go s.own r g)
  where
    go : (x : Option ℕ) → (not (is_some x) && not s.left) ≡ true → x ≡ Some l → ⊥
    go None t e = cc e
    go (Some y) t e = cc t

-- ---- a connection whose link is suspended may have any counts

pub agreed_unknown : (sends : Bool) (links : ℕ → Bool) (fits : Option Shape → Count → Type 0) (l : ℕ) (ws : List Word) (m : Option Shape) (k i : Count) → links l ≡ true → link_given sends m ≡ Some l
    → ((x : Option Shape) (a b : Count) → link_given sends x ≡ Some l → fits x a → fits x b) → Agreed sends links fits ws m k → Agreed sends links fits ws m i
agreed_unknown sends links fits l [] m k i y g f a = f m k i g a
agreed_unknown sends links fits l (Speaks (Ask n) ∷ ws) m k i y g f (r, (u, a)) = (r, (refl, agreed_unknown sends links fits l ws (own_step (Ask n) m) k i y (asked_given sends n m l r g) f a))
agreed_unknown sends links fits l (Speaks Leave ∷ ws) None k i y g f (r, (u, a)) = absurd (cc r)
agreed_unknown sends links fits l (Speaks Leave ∷ ws) (Some s) k i y g f (r, (u, a)) = (r, (refl, go s.cls (λ x. agreed_unknown sends links fits l ws (Some (record s { left = true })) k i y g f x) a))
  where
    go : (b : Bool) → (Agreed sends links fits ws (Some (record s { left = true })) k → Agreed sends links fits ws (Some (record s { left = true })) i)
        → Agreed sends links fits ws (if b then None else Some (record s { left = true })) (if b then no_count else k) → Agreed sends links fits ws (if b then None else Some (record s { left = true })) (if b then no_count else i)
    go true rest a = a
    go false rest a = rest a
agreed_unknown sends links fits l (Grants link messages bits ∷ ws) m k i y g f (r, (u, a)) = (
  r,
  (
    ap (λ (b : Bool). b || is_within (Grants link messages bits) i) (ap links (right_names sends (Grants link messages bits) m l r g) ∙ y),
    agreed_unknown sends links fits l ws m (count_after (Grants link messages bits) m k) (count_after (Grants link messages bits) m i) y g f a,
  ),
)
agreed_unknown sends links fits l (Recalls link of_messages of_bits ∷ ws) m k i y g f (r, (u, a)) = (
  r,
  (
    ap (λ (b : Bool). b || is_within (Recalls link of_messages of_bits) i) (ap links (right_names sends (Recalls link of_messages of_bits) m l r g) ∙ y),
    agreed_unknown sends links fits l ws m (count_after (Recalls link of_messages of_bits) m k) (count_after (Recalls link of_messages of_bits) m i) y g f a,
  ),
)
agreed_unknown sends links fits l (Returns link messages bits ∷ ws) m k i y g f (r, (u, a)) = (
  r,
  (
    ap (λ (b : Bool). b || true) (ap links (right_names sends (Returns link messages bits) m l r g) ∙ y),
    agreed_unknown sends links fits l ws m (count_after (Returns link messages bits) m k) (count_after (Returns link messages bits) m i) y g f a,
  ),
)
agreed_unknown sends links fits l (Hints link ∷ ws) m k i y g f (r, (u, a)) =
    (r, (ap (λ (b : Bool). b || true) (ap links (right_names sends (Hints link) m l r g) ∙ y), agreed_unknown sends links fits l ws m k i y g f a))

-- what the host has then is not looked at
pub fits_unknown : (sends : Bool) (links : ℕ → Bool) (o : Option Endpoint) (l : ℕ) → links l ≡ true → (x : Option Shape) (a b : Count) → link_given sends x ≡ Some l → Fits sends links o x a → Fits sends links o x b
fits_unknown sends links o l y x a b g f e s n = record {
  given = λ d h r. let same : l ≡ d = cc (sym g ∙ h) in let nay : true ≡ false = sym y ∙ ap links same ∙ r in absurd (cc nay);
  ungiven = λ h. let nay : Some l ≡ None = sym g ∙ h in absurd (cc nay);
}

-- ---- what is hidden

pub hidden_more : (sends : Bool) (links : ℕ → Bool) (last then_last : (ℕ → Bool) → Type 0) (more ws : List Word) → ((more_links : ℕ → Bool) → last more_links → Hidden sends more_links then_last more)
    → Hidden sends links last ws → Hidden sends links then_last (ws ++ more)
hidden_more sends links last then_last more [] f h = f links h
hidden_more sends links last then_last more (Speaks (Ask n) ∷ ws) f h = hidden_more sends (asked_too sends n links) last then_last more ws f h
hidden_more sends links last then_last more (Speaks Leave ∷ ws) f h = hidden_more sends links last then_last more ws f h
hidden_more sends links last then_last more (Grants link messages bits ∷ ws) f (k, h) = (k, hidden_more sends links last then_last more ws f h)
hidden_more sends links last then_last more (Recalls link of_messages of_bits ∷ ws) f (k, h) = (k, hidden_more sends links last then_last more ws f h)
hidden_more sends links last then_last more (Returns link messages bits ∷ ws) f (k, h) = (k, hidden_more sends links last then_last more ws f h)
hidden_more sends links last then_last more (Hints link ∷ ws) f (k, h) = (k, hidden_more sends links last then_last more ws f h)

asked_wider : (sends : Bool) (n : ℕ) (links wider : ℕ → Bool) → ((link : ℕ) → links link ≡ true → wider link ≡ true) → (link : ℕ) → asked_too sends n links link ≡ true → asked_too sends n wider link ≡ true
asked_wider sends n links wider f link e = go (not sends && link == n) e
  where
    go : (b : Bool) → (b || links link) ≡ true → (b || wider link) ≡ true
    go true e = refl
    go false e = f link e

pub hidden_wider : (sends : Bool) (links wider : ℕ → Bool) (last then_last : (ℕ → Bool) → Type 0) (ws : List Word) → ((link : ℕ) → links link ≡ true → wider link ≡ true)
    → ((a b : ℕ → Bool) → ((link : ℕ) → a link ≡ true → b link ≡ true) → last a → then_last b) → Hidden sends links last ws → Hidden sends wider then_last ws
hidden_wider sends links wider last then_last [] f g h = g links wider f h
hidden_wider sends links wider last then_last (Speaks (Ask n) ∷ ws) f g h = hidden_wider sends (asked_too sends n links) (asked_too sends n wider) last then_last ws (asked_wider sends n links wider f) g h
hidden_wider sends links wider last then_last (Speaks Leave ∷ ws) f g h = hidden_wider sends links wider last then_last ws f g h
hidden_wider sends links wider last then_last (Grants link messages bits ∷ ws) f g (k, h) = (both_still (not sends) (links link) (wider link) (f link) k, hidden_wider sends links wider last then_last ws f g h)
hidden_wider sends links wider last then_last (Recalls link of_messages of_bits ∷ ws) f g (k, h) = (both_still (not sends) (links link) (wider link) (f link) k, hidden_wider sends links wider last then_last ws f g h)
hidden_wider sends links wider last then_last (Returns link messages bits ∷ ws) f g (k, h) = (both_still sends (links link) (wider link) (f link) k, hidden_wider sends links wider last then_last ws f g h)
hidden_wider sends links wider last then_last (Hints link ∷ ws) f g (k, h) = (f link k, hidden_wider sends links wider last then_last ws f g h)

-- the link that is asked for is one of them
pub asked_there : (n : ℕ) (links : ℕ → Bool) → asked_too false n links n ≡ true
asked_there n links = ap (λ (b : Bool). b || links n) (eq-eqb n n refl)

pub asked_before : (sends : Bool) (n : ℕ) (links : ℕ → Bool) (link : ℕ) → links link ≡ true → asked_too sends n links link ≡ true
asked_before sends n links link e = go (not sends && link == n)
  where
    go : (b : Bool) → (b || links link) ≡ true
    go true = refl
    go false = e

both_true : (a b : Bool) → a ≡ true → b ≡ true → (a && b) ≡ true
both_true true b e f = f
both_true false b e f = e

-- a connection comes to rest, and its link with it
pub hidden_from : (sends : Bool) (links known : ℕ → Bool) (fits : Option Shape → Count → Type 0) (last : (ℕ → Bool) → Type 0) (ws : List Word) (m : Option Shape) (k : Count)
    → ((l : ℕ) → link_given sends m ≡ Some l → known l ≡ true)
    → ((x : Option Shape) (j : Count) (more : ℕ → Bool) → ((l : ℕ) → link_given sends x ≡ Some l → more l ≡ true) → fits x j → last more)
    → Agreed sends links fits ws m k → Hidden sends known last ws
hidden_from sends links known fits last [] m k f g a = g m k known f a
hidden_from sends links known fits last (Speaks (Ask n) ∷ ws) m k f g (r, (i, a)) = hidden_from sends links (asked_too sends n known) fits last ws (own_step (Ask n) m) k (by sends m f) g a
  where
    by : (s : Bool) (m : Option Shape) → ((l : ℕ) → link_given s m ≡ Some l → known l ≡ true) → (l : ℕ) → link_given s (own_step (Ask n) m) ≡ Some l → asked_too s n known l ≡ true
    by true None f l e = absurd (cc e)
    by true (Some x) f l e = f l e
    by false None f l e = let same : n ≡ l = cc e in subst (λ (y : ℕ). asked_too false n known y ≡ true) same (asked_there n known)
    by false (Some x) f l e = let same : n ≡ l = cc e in subst (λ (y : ℕ). asked_too false n known y ≡ true) same (asked_there n known)
hidden_from sends links known fits last (Speaks Leave ∷ ws) m k f g (r, (i, a)) = hidden_from sends links known fits last ws (own_step Leave m) (count_after (Speaks Leave) m k) (by m f) g a
  where
    by : (m : Option Shape) → ((l : ℕ) → link_given sends m ≡ Some l → known l ≡ true) → (l : ℕ) → link_given sends (own_step Leave m) ≡ Some l → known l ≡ true
    by None f l e = absurd (cc e)
    by (Some x) f l e = go x.cls e
      where
        go : (b : Bool) → link_given sends (if b then None else Some (record x { left = true })) ≡ Some l → known l ≡ true
        go true e = absurd (cc e)
        go false e = f l e
hidden_from sends links known fits last (Grants link messages bits ∷ ws) m k f g (r, (i, a)) =
    (both_true (not sends) (known link) (and_parts (not sends) (is_open_on sends link m) r).0 (f link (open_given sends link m (and_parts (not sends) (is_open_on sends link m) r).1)), hidden_from sends links known fits last ws m (count_after (Grants link messages bits) m k) f g a)
hidden_from sends links known fits last (Recalls link of_messages of_bits ∷ ws) m k f g (r, (i, a)) =
    (both_true (not sends) (known link) (and_parts (not sends) (is_open_on sends link m) r).0 (f link (open_given sends link m (and_parts (not sends) (is_open_on sends link m) r).1)), hidden_from sends links known fits last ws m (count_after (Recalls link of_messages of_bits) m k) f g a)
hidden_from sends links known fits last (Returns link messages bits ∷ ws) m k f g (r, (i, a)) =
    (both_true sends (known link) (and_parts sends (is_open_on sends link m) r).0 (f link (open_given sends link m (and_parts sends (is_open_on sends link m) r).1)), hidden_from sends links known fits last ws m (count_after (Returns link messages bits) m k) f g a)
hidden_from sends links known fits last (Hints link ∷ ws) m k f g (r, (i, a)) = (f link (open_given sends link m r), hidden_from sends links known fits last ws m k f g a)

pub link_hidden_wider : (o : Option Endpoint) (sends : Bool) (a b : ℕ → Bool) → ((link : ℕ) → a link ≡ true → b link ≡ true) → LinkHidden o sends a → LinkHidden o sends b
link_hidden_wider o sends a b f h e g s l = f e.link (h e g s l)
