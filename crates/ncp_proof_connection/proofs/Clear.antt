-- Meant for other crates too: they cite what is public here.
--
-- What names a link finds its end: along the commands underway no two sending ends ever hold one link.
use Rattle.std.proofs.Common.{◌≡◌, ℕ, zero, suc, ◌==◌, Bool, true, false, not, ◌&&◌, cond, List, [], ◌∷◌, ◌++◌, take, refl, subst}
use Rattle.std.specs.Bool.{⊤}
use Rattle.std.proofs.lemmas.Bool.{both_ways, and_parts}
use Rattle.ncp_wire.specs.declared.command.Command.{Command}
use Rattle.ncp_wire.specs.declared.command.Command.TheVariants.{Rts, Str, Cls, All, Gvb, Ret, Inr, Ins}
use Rattle.ncp_model.specs.declared.pair.Pair.{Pair}
use Rattle.ncp_model.specs.Pairs.{sends, same}
use Rattle.ncp_proof_connection.specs.Sharing.{Tagged, only, tag}
use Rattle.ncp_proof_connection.proofs.Lines.{Kind, Request, Close, Data, Alien, Comes, Passes, comes_asked, comes_none}
use Rattle.ncp_proof_connection.proofs.Joint.{to_sender_kind, kinds}
use Rattle.ncp_proof_connection.proofs.Calm.{no_rts}
use Rattle.ncp_proof_connection.proofs.Senders.{kinds_none}
use Rattle.ncp_proof_connection.proofs.Projecting.{same_refl}

-- Whether an end holds a link, after this kind of command: its own request takes a link, and its
-- CLS frees that of an end that is left (l), others hold theirs longer.
abbrev pub holds : Kind → Bool → ℕ → Bool → Bool → Bool
holds (Request on good) true link l h = on == link
holds Close true link l h = not l && h
holds k mine link l h = h

abbrev pub still_left : Kind → Bool → Bool → Bool
still_left Close true l = false
still_left k mine l = l

-- the request of another takes no link that is held
abbrev pub Free : Kind → Bool → ℕ → Bool → Type 0
Free (Request on good) true link h = on ≡ link → h ≡ false
Free k other link h = ⊤

-- As the commands come, no request takes this link while the sending end of p holds it (h). At last,
-- if it holds it, the receiving end asked with it (a).
abbrev pub Clear : Pair → ℕ → List Tagged → Bool → Bool → Bool → Type 0
Clear p link [] h l a = h ≡ true → a ≡ true
Clear p link (c ∷ cs) h l a =
    Free (to_sender_kind c.command) (not (same c.pair p) && sends c.pair) link h
    × Clear p link cs (holds (to_sender_kind c.command) (same c.pair p) link l h) (still_left (to_sender_kind c.command) (same c.pair p) l) a

-- Fewer held, more left, more asked.

free_mono : (k : Kind) (o : Bool) (link : ℕ) (h h' : Bool) → (h' ≡ true → h ≡ true) → Free k o link h → Free k o link h'
free_mono (Request on good) true link h true w k = λ e. absurd (both_ways h (k e) (w refl))
free_mono (Request on good) true link h false w k = λ e. refl
free_mono (Request on good) false link h h' w k = tt
free_mono Close true link h h' w k = tt
free_mono Close false link h h' w k = tt
free_mono (Data b on) true link h h' w k = tt
free_mono (Data b on) false link h h' w k = tt
free_mono Alien true link h h' w k = tt
free_mono Alien false link h h' w k = tt

closing : (l l' h h' : Bool) → (l ≡ true → l' ≡ true) → (h' ≡ true → h ≡ true) → (not l' && h') ≡ true → (not l && h) ≡ true
closing true true h h' a b e = absurd (both_ways false refl e)
closing true false h h' a b e = absurd (both_ways false refl (a refl))
closing false true h h' a b e = absurd (both_ways false refl e)
closing false false h h' a b e = b e

holds_mono : (k : Kind) (m : Bool) (link : ℕ) (l l' h h' : Bool) → (l ≡ true → l' ≡ true) → (h' ≡ true → h ≡ true) → holds k m link l' h' ≡ true → holds k m link l h ≡ true
holds_mono (Request on good) true link l l' h h' a b e = e
holds_mono (Request on good) false link l l' h h' a b e = b e
holds_mono Close true link l l' h h' a b e = closing l l' h h' a b e
holds_mono Close false link l l' h h' a b e = b e
holds_mono (Data d on) true link l l' h h' a b e = b e
holds_mono (Data d on) false link l l' h h' a b e = b e
holds_mono Alien true link l l' h h' a b e = b e
holds_mono Alien false link l l' h h' a b e = b e

left_mono : (k : Kind) (m : Bool) (l l' : Bool) → (l ≡ true → l' ≡ true) → still_left k m l ≡ true → still_left k m l' ≡ true
left_mono (Request on good) true l l' a e = a e
left_mono (Request on good) false l l' a e = a e
left_mono Close true l l' a e = e
left_mono Close false l l' a e = a e
left_mono (Data d on) true l l' a e = a e
left_mono (Data d on) false l l' a e = a e
left_mono Alien true l l' a e = a e
left_mono Alien false l l' a e = a e

pub clear_mono : (p : Pair) (link : ℕ) (cs : List Tagged) (h h' l l' a a' : Bool) → (h' ≡ true → h ≡ true) → (l ≡ true → l' ≡ true) → (a ≡ true → a' ≡ true)
    → Clear p link cs h l a → Clear p link cs h' l' a'
clear_mono p link [] h h' l l' a a' hh ll aa k = λ e. aa (k (hh e))
clear_mono p link (c ∷ cs) h h' l l' a a' hh ll aa k = (
  free_mono (to_sender_kind c.command) (not (same c.pair p) && sends c.pair) link h h' hh k.0,
  clear_mono p link cs (holds (to_sender_kind c.command) (same c.pair p) link l h) (holds (to_sender_kind c.command) (same c.pair p) link l' h')
      (still_left (to_sender_kind c.command) (same c.pair p) l) (still_left (to_sender_kind c.command) (same c.pair p) l') a a'
      (holds_mono (to_sender_kind c.command) (same c.pair p) link l l' h h' ll hh) (left_mono (to_sender_kind c.command) (same c.pair p) l l' ll) aa k.1,
)

-- what is underway grows, or is cut
pub clear_more : (p : Pair) (link : ℕ) (cs ds : List Tagged) (h l a a' : Bool) → ((h2 l2 : Bool) → (h2 ≡ true → a ≡ true) → Clear p link ds h2 l2 a') → Clear p link cs h l a → Clear p link (cs ++ ds) h l a'
clear_more p link [] ds h l a a' f k = f h l k
clear_more p link (c ∷ cs) ds h l a a' f k =
    (k.0, clear_more p link cs ds (holds (to_sender_kind c.command) (same c.pair p) link l h) (still_left (to_sender_kind c.command) (same c.pair p) l) a a' f k.1)

pub clear_cut : (p : Pair) (link n : ℕ) (cs : List Tagged) (h l a : Bool) → Clear p link cs h l a → Clear p link (take n cs) h l true
clear_cut p link zero [] h l a k = λ e. refl
clear_cut p link zero (c ∷ cs) h l a k = λ e. refl
clear_cut p link (suc n) [] h l a k = λ e. refl
clear_cut p link (suc n) (c ∷ cs) h l a k =
    (k.0, clear_cut p link n cs (holds (to_sender_kind c.command) (same c.pair p) link l h) (still_left (to_sender_kind c.command) (same c.pair p) l) a k.1)

-- what p itself makes takes nothing from p
pub clear_own : (p : Pair) (link : ℕ) (cs : List Command) (h l : Bool) → Clear p link (tag p cs) h l true
clear_own p link [] h l = λ e. refl
clear_own p link (c ∷ cs) h l = rw (same_refl p) (free (to_sender_kind c), clear_own p link cs (holds (to_sender_kind c) true link l h) (still_left (to_sender_kind c) true l))
  where
    free : (k : Kind) → Free k false link h
    free (Request on good) = tt
    free Close = tt
    free (Data b on) = tt
    free Alien = tt

-- nor does what another makes that is no RTS
pub clear_other : (q p : Pair) (link : ℕ) (cs : List Command) (h l a : Bool) → same q p ≡ false → no_rts cs ≡ true → (h ≡ true → a ≡ true) → Clear p link (tag q cs) h l a
clear_other q p link [] h l a e n k = k
clear_other q p link (Rts i j on ∷ cs) h l a e n k = absurd (both_ways false refl n)
clear_other q p link (Cls i j ∷ cs) h l a e n k = rw e (tt, clear_other q p link cs h l a e n k)
clear_other q p link (All on i j ∷ cs) h l a e n k = (tt, clear_other q p link cs h l a e n k)
clear_other q p link (Gvb on i j ∷ cs) h l a e n k = (tt, clear_other q p link cs h l a e n k)
clear_other q p link (Inr on ∷ cs) h l a e n k = (tt, clear_other q p link cs h l a e n k)
clear_other q p link (Command.Nop ∷ cs) h l a e n k = (tt, clear_other q p link cs h l a e n k)
clear_other q p link (Str i j m ∷ cs) h l a e n k = (tt, clear_other q p link cs h l a e n k)
clear_other q p link (Ret on i j ∷ cs) h l a e n k = (tt, clear_other q p link cs h l a e n k)
clear_other q p link (Ins on ∷ cs) h l a e n k = (tt, clear_other q p link cs h l a e n k)
clear_other q p link (Command.Eco b ∷ cs) h l a e n k = (tt, clear_other q p link cs h l a e n k)
clear_other q p link (Command.Erp b ∷ cs) h l a e n k = (tt, clear_other q p link cs h l a e n k)
clear_other q p link (Command.Err b d ∷ cs) h l a e n k = (tt, clear_other q p link cs h l a e n k)
clear_other q p link (Command.Rst ∷ cs) h l a e n k = (tt, clear_other q p link cs h l a e n k)
clear_other q p link (Command.Rrp ∷ cs) h l a e n k = (tt, clear_other q p link cs h l a e n k)

-- The receiving end of p asks no more: then at last nothing is held.

-- nothing of p is underway
pub clear_none : (p : Pair) (link : ℕ) (cs : List Tagged) (l a a' : Bool) → only p cs ≡ [] → Clear p link cs false l a → Clear p link cs false l a'
clear_none p link [] l a a' e k = λ x. absurd (both_ways false refl x)
clear_none p link (c ∷ cs) l a a' e k = (k.0, go (to_sender_kind c.command) (same c.pair p) e k.1 (λ d. clear_none p link cs l a a' d))
  where
    go : (x : Kind) (b : Bool) → cond b (c.command ∷ only p cs) (only p cs) ≡ [] → Clear p link cs (holds x b link l false) (still_left x b l) a
        → (only p cs ≡ [] → Clear p link cs false l a → Clear p link cs false l a')
        → Clear p link cs (holds x b link l false) (still_left x b l) a'
    go x true e k f = absurd (cc e)
    go (Request on good) false e k f = f e k
    go Close false e k f = f e k
    go (Data b on) false e k f = f e k
    go Alien false e k f = f e k

-- p holds nothing, and made no request that has not come
pub clear_unasked : (p : Pair) (link : ℕ) (cs : List Tagged) (l a a' : Bool) (hh cc2 : Bool) (x y : ℕ) (o lf : Bool) (n : ℕ) → Comes hh cc2 x y (kinds to_sender_kind (only p cs)) false o lf n
    → Clear p link cs false l a → Clear p link cs false l a'
clear_unasked p link [] l a a' hh cc2 x y o lf n m k = λ e. absurd (both_ways false refl e)
clear_unasked p link (c ∷ cs) l a a' hh cc2 x y o lf n m k = (k.0, go (same c.pair p) m k.1 (λ l2 hh2 cc3 x2 m2. clear_unasked p link cs l2 a a' hh2 cc3 x2 y o lf n m2))
  where
    at_own : (z : Kind) → Comes hh cc2 x y (z ∷ kinds to_sender_kind (only p cs)) false o lf n → Clear p link cs (holds z true link l false) (still_left z true l) a
        → ((l2 hh2 cc3 : Bool) (x2 : ℕ) → Comes hh2 cc3 x2 y (kinds to_sender_kind (only p cs)) false o lf n → Clear p link cs false l2 a → Clear p link cs false l2 a')
        → Clear p link cs (holds z true link l false) (still_left z true l) a'
    at_own (Request on good) m k f = absurd (both_ways false refl (comes_asked true cc2 on y (kinds to_sender_kind (only p cs)) false o lf n refl m.3))
    at_own Close m k f = freed l k
      where
        freed : (l : Bool) → Clear p link cs (not l && false) false a → Clear p link cs (not l && false) false a'
        freed true k = f false hh true x m.2 k
        freed false k = f false hh true x m.2 k
    at_own (Data b on) m k f = f l hh cc2 x m.4 k
    at_own Alien m k f = absurd m

    at_other : (z : Kind) → Clear p link cs (holds z false link l false) (still_left z false l) a
        → (Clear p link cs false l a → Clear p link cs false l a')
        → Clear p link cs (holds z false link l false) (still_left z false l) a'
    at_other (Request on good) k f = f k
    at_other Close k f = f k
    at_other (Data b on) k f = f k
    at_other Alien k f = f k

    go : (b : Bool) → Comes hh cc2 x y (kinds to_sender_kind (cond b (c.command ∷ only p cs) (only p cs))) false o lf n → Clear p link cs (holds (to_sender_kind c.command) b link l false) (still_left (to_sender_kind c.command) b l) a
        → ((l2 hh2 cc3 : Bool) (x2 : ℕ) → Comes hh2 cc3 x2 y (kinds to_sender_kind (only p cs)) false o lf n → Clear p link cs false l2 a → Clear p link cs false l2 a')
        → Clear p link cs (holds (to_sender_kind c.command) b link l false) (still_left (to_sender_kind c.command) b l) a'
    go true m k f = at_own (to_sender_kind c.command) m k f
    go false m k f = at_other (to_sender_kind c.command) k (f l hh cc2 x m)

-- the receiving end has ended, and its CLS is underway to an end that is left
pub clear_passes : (p : Pair) (link : ℕ) (cs : List Tagged) (h l a a' : Bool) (g hh : Bool) (x y : ℕ) (lf : Bool) (n : ℕ) → l ≡ true → Passes g hh x y (kinds to_sender_kind (only p cs)) false false lf n
    → Clear p link cs h l a → Clear p link cs h l a'
clear_passes p link [] h l a a' g hh x y lf n e m k = absurd m
clear_passes p link (c ∷ cs) h l a a' g hh x y lf n e m k = (k.0, go (same c.pair p) m k.1 (λ h2 hh2 x2 m2. clear_passes p link cs h2 l a a' g hh2 x2 y lf n e m2))
  where
    at_own : (z : Kind) → Passes g hh x y (z ∷ kinds to_sender_kind (only p cs)) false false lf n → Clear p link cs (holds z true link l h) (still_left z true l) a
        → ((h2 hh2 : Bool) (x2 : ℕ) → Passes g hh2 x2 y (kinds to_sender_kind (only p cs)) false false lf n → Clear p link cs h2 l a → Clear p link cs h2 l a')
        → Clear p link cs (holds z true link l h) (still_left z true l) a'
    at_own (Request on good) m k f = f (on == link) true on m.2 k
    at_own Close m k f = freed l e k
      where
        freed : (l : Bool) → l ≡ true → Clear p link cs (not l && h) false a → Clear p link cs (not l && h) false a'
        freed true d k = clear_none p link cs false a a' (kinds_none to_sender_kind (only p cs) (comes_none false 0 0 (kinds to_sender_kind (only p cs)) false false lf n refl refl m)) k
        freed false d k = absurd (both_ways false refl d)
    at_own (Data b on) m k f = f h hh x m.3 k
    at_own Alien m k f = absurd m

    at_other : (z : Kind) → Clear p link cs (holds z false link l h) (still_left z false l) a
        → (Clear p link cs h l a → Clear p link cs h l a')
        → Clear p link cs (holds z false link l h) (still_left z false l) a'
    at_other (Request on good) k f = f k
    at_other Close k f = f k
    at_other (Data b on) k f = f k
    at_other Alien k f = f k

    go : (b : Bool) → Passes g hh x y (kinds to_sender_kind (cond b (c.command ∷ only p cs) (only p cs))) false false lf n → Clear p link cs (holds (to_sender_kind c.command) b link l h) (still_left (to_sender_kind c.command) b l) a
        → ((h2 hh2 : Bool) (x2 : ℕ) → Passes g hh2 x2 y (kinds to_sender_kind (only p cs)) false false lf n → Clear p link cs h2 l a → Clear p link cs h2 l a')
        → Clear p link cs (holds (to_sender_kind c.command) b link l h) (still_left (to_sender_kind c.command) b l) a'
    go true m k f = at_own (to_sender_kind c.command) m k f
    go false m k f = at_other (to_sender_kind c.command) k (f h hh x m)

-- what p makes that is no RTS frees, and takes nothing
pub clear_kept : (p : Pair) (link : ℕ) (cs : List Command) (h l a : Bool) → no_rts cs ≡ true → (h ≡ true → a ≡ true) → Clear p link (tag p cs) h l a
clear_kept p link [] h l a n k = k
clear_kept p link (Rts i j on ∷ cs) h l a n k = absurd (both_ways false refl n)
clear_kept p link (Cls i j ∷ cs) h l a n k = rw (same_refl p) (tt, clear_kept p link cs (not l && h) false a n (λ e. k (and_parts (not l) h e).1))
clear_kept p link (All on i j ∷ cs) h l a n k = (tt, clear_kept p link cs h l a n k)
clear_kept p link (Gvb on i j ∷ cs) h l a n k = (tt, clear_kept p link cs h l a n k)
clear_kept p link (Inr on ∷ cs) h l a n k = (tt, clear_kept p link cs h l a n k)
clear_kept p link (Command.Nop ∷ cs) h l a n k = (tt, clear_kept p link cs h l a n k)
clear_kept p link (Str i j m ∷ cs) h l a n k = (tt, clear_kept p link cs h l a n k)
clear_kept p link (Ret on i j ∷ cs) h l a n k = (tt, clear_kept p link cs h l a n k)
clear_kept p link (Ins on ∷ cs) h l a n k = (tt, clear_kept p link cs h l a n k)
clear_kept p link (Command.Eco b ∷ cs) h l a n k = (tt, clear_kept p link cs h l a n k)
clear_kept p link (Command.Erp b ∷ cs) h l a n k = (tt, clear_kept p link cs h l a n k)
clear_kept p link (Command.Err b d ∷ cs) h l a n k = (tt, clear_kept p link cs h l a n k)
clear_kept p link (Command.Rst ∷ cs) h l a n k = (tt, clear_kept p link cs h l a n k)
clear_kept p link (Command.Rrp ∷ cs) h l a n k = (tt, clear_kept p link cs h l a n k)

-- a command of another comes
pub clear_popped : (p : Pair) (link : ℕ) (c : Tagged) (cs : List Tagged) (h l a : Bool) → same c.pair p ≡ false → Clear p link (c ∷ cs) h l a → Clear p link cs h l a
clear_popped p link c cs h l a e k = go (to_sender_kind c.command) (subst (λ (b : Bool). Clear p link cs (holds (to_sender_kind c.command) b link l h) (still_left (to_sender_kind c.command) b l) a) e k.1)
  where
    go : (x : Kind) → Clear p link cs (holds x false link l h) (still_left x false l) a → Clear p link cs h l a
    go (Request on good) k = k
    go Close k = k
    go (Data b on) k = k
    go Alien k = k

-- a command of a connection the other way
pub clear_noise : (p : Pair) (link : ℕ) (c : Tagged) (h l a : Bool) → same c.pair p ≡ false → sends c.pair ≡ false → (h ≡ true → a ≡ true) → Clear p link (c ∷ []) h l a
clear_noise p link c h l a e n w = rw (e, n) (go (to_sender_kind c.command))
  where
    go : (x : Kind) → Free x (not false && false) link h × (holds x false link l h ≡ true → a ≡ true)
    go (Request on good) = (tt, w)
    go Close = (tt, w)
    go (Data b on) = (tt, w)
    go Alien = (tt, w)
