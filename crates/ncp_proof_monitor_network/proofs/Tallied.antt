-- What is counted of each connection of two hosts, who has each link, and the replies that each of the two owes the other, in
-- order: what each command changes of them, and how what the two hosts have of it faces each other.
use Rattle.std.proofs.Common.{◌≡◌, ℕ, ◌+◌, ◌-◌, ◌≤◌, ◌==◌, Bool, true, false, not, ◌&&◌, ◌||◌, if◌then◌else◌, List, [], ◌∷◌, ◌++◌, Option, None, Some, ◌⊎◌, inl, inr, is_some, refl, sym, ap, ◌∙◌}
use Rattle.std.specs.List.{filter}
use Rattle.ncp_interface.specs.Sockets.{is_senders}
use Rattle.ncp_monitor.specs.Allocation.{part_returned}
use Rattle.ncp_monitor.proofs.Shapes.{Shape}
use Rattle.ncp_monitor.proofs.LinkOrder.{Sockets, same}
use Rattle.ncp_proof_monitor_allocation.proofs.Words.{Count, no_count}
use Rattle.ncp_proof_monitor_network.specs.Owing.{Owing, is_owed_of, is_echo, Chosen, NextOwed, owed_after, has_echo, Echoes, Returning}

-- of the sides, true is the one who sees it, and false the other

abbrev pub left_by : Bool → Option Shape → Bool
left_by s None = false
left_by true (Some m) = m.left
left_by false (Some m) = m.cls

abbrev pub has_both : Option Shape → Bool
has_both None = false
has_both (Some m) = is_some m.own && is_some m.others

-- a connection is open for the side that speaks
abbrev pub is_open_by : Bool → Option Shape → Bool
is_open_by speaks m = has_both m && not (left_by speaks m)

-- the side receives by it
abbrev pub receives_by : Bool → Sockets → Bool
receives_by true u = not (is_senders u.0)
receives_by false u = is_senders u.0

-- a connection has the link, on which this side receives, and is open for the one that speaks
abbrev pub IsDemuxed : Bool → Bool → Option Sockets → (Sockets → Option Shape) → (Sockets → Type 0) → Type 0
IsDemuxed speaks receives None m p = ⊥
IsDemuxed speaks receives (Some u) m p = (receives_by receives u ≡ true) × (is_open_by speaks (m u) ≡ true) × p u

-- ---- allowed commands, besides requests and CLS

-- the numbers of a RET: exactly those owed; for the other host at most those, and at most what it can
-- have
abbrev pub HasNumbers : Bool → ℕ → ℕ → Count → Owing → Type 0
HasNumbers s messages bits k (Echoes byte) = ⊥
HasNumbers true messages bits k (Returning u link most most_bits) = (messages ≡ most) × (bits ≡ most_bits)
HasNumbers false messages bits k (Returning u link most most_bits) = (messages ≤ most) × (bits ≤ most_bits) × (messages ≤ k.messages) × (bits ≤ k.bits)

-- ---- what is after it

abbrev pub count_put : (Sockets → Count) → Option Sockets → (Count → Count) → Sockets → Count
count_put counts None f u = counts u
count_put counts (Some p) f u = if same u p then f (counts u) else counts u

abbrev pub counted_on : ℕ → ℕ → Count → Count
counted_on messages bits k = record k { messages = k.messages + messages; bits = k.bits + bits }

abbrev pub counted_off : ℕ → ℕ → Count → Count
counted_off messages bits k = record k { messages = k.messages - messages; bits = k.bits - bits }

-- a GVB takes parts off where the one who sees it sends
abbrev pub recalled_by : Bool → ℕ → ℕ → Count → Count
recalled_by true fm fb k = record k { recall = true }
recalled_by false fm fb k = record k { recall = true; messages = k.messages - part_returned k.messages fm; bits = k.bits - part_returned k.bits fb }

-- a RET takes off where the other sends
abbrev pub returned_by : Bool → ℕ → ℕ → Count → Count
returned_by true messages bits k = record k { recall = false }
returned_by false messages bits k = record k { recall = false; messages = k.messages - messages; bits = k.bits - bits }

-- the RET that a GVB asks for, unless the other has left
abbrev pub return_asked : Bool → ℕ → ℕ → ℕ → (Sockets → Option Shape) → (Sockets → Count) → Option Sockets → List Owing
return_asked s link fm fb m counts None = []
return_asked s link fm fb m counts (Some u) = if left_by (not s) (m u) then [] else Returning u link (part_returned (counts u).messages fm) (part_returned (counts u).bits fb) ∷ []

abbrev pub by_side : Bool → List Owing → (Bool → List Owing) → Bool → List Owing
by_side true now owing true = now
by_side true now owing false = owing false
by_side false now owing true = owing true
by_side false now owing false = now

-- ---- as both hosts see one connection, when all that was said has come: the receiver counts no less than the sender counts,
-- with what that took off and has not returned, and the text that is underway

pub record Faces (received sent : Count) (owed_messages owed_bits text_messages text_bits : ℕ) : Type 0 where
  pub messages : sent.messages + (owed_messages + text_messages) ≤ received.messages
  pub bits : sent.bits + (owed_bits + text_bits) ≤ received.bits
  pub recall : received.recall ≡ sent.recall

-- what is owed of it
abbrev pub owed_messages : Sockets → List Owing → ℕ
owed_messages u [] = 0
owed_messages u (Echoes byte ∷ owing) = owed_messages u owing
owed_messages u (Returning v link messages bits ∷ owing) = if same v u then messages + owed_messages u owing else owed_messages u owing

abbrev pub owed_bits : Sockets → List Owing → ℕ
owed_bits u [] = 0
owed_bits u (Echoes byte ∷ owing) = owed_bits u owing
owed_bits u (Returning v link messages bits ∷ owing) = if same v u then bits + owed_bits u owing else owed_bits u owing

-- the replies that the other host expects, and those owed: the same, except that a RET may no longer be
-- owed; of one, at most what the other host expects

abbrev pub Expected : Owing → Owing → Type 0
Expected (Echoes byte) (Echoes other) = byte ≡ other
Expected (Echoes byte) (Returning u link messages bits) = ⊥
Expected (Returning u link messages bits) (Echoes byte) = ⊥
Expected (Returning v link most most_bits) (Returning u on messages bits) = ((v.1, v.0) ≡ u) × (link ≡ on) × (messages ≤ most) × (bits ≤ most_bits)

abbrev pub IsReturning : Owing → Type 0
IsReturning (Echoes byte) = ⊥
IsReturning (Returning u link messages bits) = Unit {0}

abbrev pub MatchesOwed : List Owing → List Owing → Type 0
MatchesOwed [] [] = Unit {0}
MatchesOwed [] (p ∷ ps) = ⊥
MatchesOwed (o ∷ os) [] = IsReturning o × MatchesOwed os []
MatchesOwed (o ∷ os) (p ∷ ps) = (Expected o p × MatchesOwed os ps) ⊎ (IsReturning o × MatchesOwed os (p ∷ ps))

matches_extra : (o : Owing) (os ps : List Owing) → IsReturning o → MatchesOwed os ps → MatchesOwed (o ∷ os) ps
matches_extra o os [] r m = (r, m)
matches_extra o os (p ∷ ps) r m = inr (r, m)

expects_returning : (o p : Owing) → Expected o p → is_echo p ≡ false → IsReturning o
expects_returning (Echoes byte) (Echoes other) x e = absurd (cc e)
expects_returning (Echoes byte) (Returning u link messages bits) x e = absurd x
expects_returning (Returning u link messages bits) p x e = tt

-- the one who owes forgets what is not an ERP, and owes more after that
pub matches_drop : (os old new : List Owing) → has_echo old ≡ false → MatchesOwed os (old ++ new) → MatchesOwed os new
matches_drop os [] new e m = m
matches_drop [] (p ∷ old) new e m = absurd m
matches_drop (o ∷ os) (p ∷ old) new e (inl (x, m)) = matches_extra o os new (expects_returning o p x (first (is_echo p) e)) (matches_drop os old new (later (is_echo p) e) m)
  where
    first : (b : Bool) → (b || has_echo old) ≡ false → b ≡ false
    first true e = absurd (cc e)
    first false e = refl

    later : (b : Bool) → (b || has_echo old) ≡ false → has_echo old ≡ false
    later true e = absurd (cc e)
    later false e = e
matches_drop (o ∷ os) (p ∷ old) new e (inr (r, m)) = matches_extra o os new r (matches_drop os (p ∷ old) new e m)

-- one more of both
pub matches_more : (os ps : List Owing) (o p : Owing) → Expected o p → MatchesOwed os ps → MatchesOwed (os ++ o ∷ []) (ps ++ p ∷ [])
matches_more [] [] o p x m = inl (x, tt)
matches_more [] (q ∷ ps) o p x m = absurd m
matches_more (n ∷ os) [] o p x (r, m) = inr (r, matches_more os [] o p x m)
matches_more (n ∷ os) (q ∷ ps) o p x (inl (y, m)) = inl (y, matches_more os ps o p x m)
matches_more (n ∷ os) (q ∷ ps) o p x (inr (r, m)) = inr (r, matches_more os (q ∷ ps) o p x m)

-- ---- what is after it: the users, what is counted, and what is owed

abbrev pub users_put : (Bool → ℕ → Option Sockets) → Bool → ℕ → Sockets → Bool → ℕ → Option Sockets
users_put users true link u true l = if l == link then Some u else users true l
users_put users true link u false l = users false l
users_put users false link u true l = users true l
users_put users false link u false l = if l == link then Some u else users false l

abbrev pub is_user : Sockets → Option Sockets → Bool
is_user u None = false
is_user u (Some v) = same v u

-- with its second CLS it no longer has its link
abbrev pub users_less : (Bool → ℕ → Option Sockets) → Sockets → Bool → ℕ → Option Sockets
users_less users u s l = if is_user u (users s l) then None else users s l

-- a CLS of a connection that the other had left ends it

abbrev pub users_after_cls : Bool → Sockets → (Bool → ℕ → Option Sockets) → Bool → ℕ → Option Sockets
users_after_cls over u users s l = if over then users_less users u s l else users s l

abbrev pub counts_after_cls : Bool → Sockets → (Sockets → Count) → Sockets → Count
counts_after_cls over u counts v = if over then count_put counts (Some u) (λ k. no_count) v else counts v

-- ---- owed replies are added at the end, and given from the front

pub next_more : (fits : Owing → Bool) (p : Owing → Type 0) (owing more : List Owing) → NextOwed fits p owing → NextOwed fits p (owing ++ more)
next_more fits p [] more n = absurd n
next_more fits p (o ∷ owing) more n = go (fits o) (is_echo o) (next_more fits p owing more) n
  where
    go : (f e : Bool) → (NextOwed fits p owing → NextOwed fits p (owing ++ more)) → Chosen f e (p o) (NextOwed fits p owing) → Chosen f e (p o) (NextOwed fits p (owing ++ more))
    go true e rest n = n
    go false true rest n = n
    go false false rest n = rest n

pub next_weaker : (fits : Owing → Bool) (p q : Owing → Type 0) (os : List Owing) → ((o : Owing) → p o → q o) → NextOwed fits p os → NextOwed fits q os
next_weaker fits p q [] f n = absurd n
next_weaker fits p q (o ∷ os) f n = go (fits o) (is_echo o) n (next_weaker fits p q os f)
  where
    go : (b e : Bool) → Chosen b e (p o) (NextOwed fits p os) → (NextOwed fits p os → NextOwed fits q os) → Chosen b e (q o) (NextOwed fits q os)
    go true e n rest = f o n
    go false true n rest = absurd n
    go false false n rest = rest n

pub following_more : (fits : Owing → Bool) (p : Owing → Type 0) (owing more : List Owing) → NextOwed fits p owing → owed_after fits (owing ++ more) ≡ owed_after fits owing ++ more
following_more fits p [] more n = absurd n
following_more fits p (o ∷ owing) more n = go (fits o) (is_echo o) (following_more fits p owing more) n
  where
    go : (f e : Bool) → (NextOwed fits p owing → owed_after fits (owing ++ more) ≡ owed_after fits owing ++ more) → Chosen f e (p o) (NextOwed fits p owing)
        → (if f then owing ++ more else owed_after fits (owing ++ more)) ≡ (if f then owing else owed_after fits owing) ++ more
    go true e rest n = refl
    go false true rest n = absurd n
    go false false rest n = rest n

-- the CLS of a sender takes away what it owes of its connection; the RET that is asked for after it is none
abbrev pub owing_without : Sockets → List Owing → List Owing
owing_without u owing = filter (λ o. not (is_owed_of u o)) owing

pub without_more : (u : Sockets) (owing more : List Owing) → owing_without u (owing ++ more) ≡ owing_without u owing ++ owing_without u more
without_more u [] more = refl
without_more u (o ∷ owing) more = go (is_owed_of u o) (without_more u owing more)
  where
    go : (b : Bool) → owing_without u (owing ++ more) ≡ owing_without u owing ++ owing_without u more → (if not b then o ∷ owing_without u (owing ++ more) else owing_without u (owing ++ more)) ≡ (if not b then o ∷ owing_without u owing else owing_without u owing) ++ owing_without u more
    go true rest = rest
    go false rest = ap (λ (os : List Owing). o ∷ os) rest

pub no_more : (os : List Owing) → os ≡ os ++ []
no_more [] = refl
no_more (o ∷ os) = ap (λ (ps : List Owing). o ∷ ps) (no_more os)

pub asked_then_left : (u : Sockets) (owing : List Owing) (link messages bits : ℕ) → same u u ≡ true → owing_without u (owing ++ Returning u link messages bits ∷ []) ≡ owing_without u owing
asked_then_left u owing link messages bits k =
    without_more u owing (Returning u link messages bits ∷ [])
    ∙ ap (λ (b : Bool). owing_without u owing ++ (if not b then Returning u link messages bits ∷ [] else [])) k
    ∙ sym (no_more (owing_without u owing))
