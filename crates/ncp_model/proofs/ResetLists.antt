-- Laws of the words on lists of commands.
use Rattle.std.proofs.Common.{◌≡◌, ℕ, ◌+◌, ◌<◌, ◌==◌, suc, zero, Bool, true, false, not, ◌||◌, if◌then◌else◌, List, [], ◌∷◌, ◌++◌, drop, refl, sym, ap, ◌∙◌, arith}
use Rattle.std.specs.List.{filter, list_any}
use Rattle.std.proofs.lemmas.List.{append_assoc, append-nil}
use Rattle.std.proofs.lemmas.List.Elements.{filter-append}
use Rattle.ncp_wire.specs.declared.command.Command.{Command}
use Rattle.ncp_model.specs.Phase.{is_rst, is_rrp, is_reset, is_other}

abbrev pub bit : Bool → ℕ
bit true = 1
bit false = 0

-- how many RSTs are among these, and how many RRPs
abbrev pub rsts : List Command → ℕ
rsts [] = 0
rsts (c ∷ u) = bit (is_rst c) + rsts u

abbrev pub rrps : List Command → ℕ
rrps [] = 0
rrps (c ∷ u) = bit (is_rrp c) + rrps u

abbrev pub others : List Command → List Command
others u = filter is_other u

abbrev pub purged : List Command → List Command
purged u = filter is_reset u

pub rsts-append : (u v : List Command) → rsts (u ++ v) ≡ rsts u + rsts v
rsts-append [] v = omega arith
rsts-append (c ∷ u) v = omega (arith, rsts-append u v)

pub rrps-append : (u v : List Command) → rrps (u ++ v) ≡ rrps u + rrps v
rrps-append [] v = omega arith
rrps-append (c ∷ u) v = omega (arith, rrps-append u v)

pub others-append : (u v : List Command) → others (u ++ v) ≡ others u ++ others v
others-append u v = filter-append is_other u v

pub others-drop : (n : ℕ) (q : List Command) → others q ≡ [] → others (drop n q) ≡ []
others-drop zero q e = e
others-drop (suc n) [] e = refl
others-drop (suc n) (c ∷ q) e = let h = others-drop n q in grind arith

pub rsts-purged : (q : List Command) → rsts (purged q) ≡ rsts q
rsts-purged [] = refl
rsts-purged (c ∷ q) = let h = rsts-purged q in grind arith

pub rrps-purged : (q : List Command) → rrps (purged q) ≡ rrps q
rrps-purged [] = refl
rrps-purged (c ∷ q) = let h = rrps-purged q in grind arith

pub others-purged : (q : List Command) → others (purged q) ≡ []
others-purged [] = refl
others-purged (c ∷ q) = let h = others-purged q in grind arith

-- a purge strikes nothing where no other waits
pub purged_calm : (q : List Command) → others q ≡ [] → purged q ≡ q
purged_calm [] e = refl
purged_calm (c ∷ q) e = let h = purged_calm q in grind arith

-- the others that will have come, counted from the last RST or RRP on, once these have come
abbrev pub arrives : List Command → List Command → List Command
arrives came [] = came
arrives came (c ∷ u) = if is_other c then arrives (came ++ c ∷ []) u else arrives [] u

pub arrives-append : (came u v : List Command) → arrives came (u ++ v) ≡ arrives (arrives came u) v
arrives-append came [] v = refl
arrives-append came (c ∷ u) v = let h = arrives-append (came ++ c ∷ []) u v in let k = arrives-append [] u v in grind arith

-- past an RST or an RRP, what came before it does not matter
pub arrives_anew : (c d u : List Command) → 0 < rsts u + rrps u → arrives c u ≡ arrives d u
arrives_anew c d [] h = absurd (omega arith)
arrives_anew c d (x ∷ u) h = let k = arrives_anew (c ++ x ∷ []) (d ++ x ∷ []) u in grind arith

-- with neither, the others come one after another
pub arrives_on : (c u : List Command) → rsts u ≡ 0 → rrps u ≡ 0 → arrives c u ≡ c ++ others u
arrives_on c [] r p = sym (append-nil c)
arrives_on c (x ∷ u) r p = let k = arrives_on (c ++ x ∷ []) u in grind (arith, append_assoc)

pub purged_none : (u : List Command) → rsts u ≡ 0 → rrps u ≡ 0 → purged u ≡ []
purged_none [] r p = refl
purged_none (x ∷ u) r p = let k = purged_none u in grind arith

nil-append : (c l : List Command) → c ++ l ≡ [] → l ≡ []
nil-append [] l e = e
nil-append (x ∷ c) l e = cc

-- what would be nothing behind any history is nothing behind none
pub arrives_nothing : (c u : List Command) → arrives c u ≡ [] → arrives [] u ≡ []
arrives_nothing c u e = by_count (rsts u) (rrps u) refl refl
  where
    by_count : (i j : ℕ) → rsts u ≡ i → rrps u ≡ j → arrives [] u ≡ []
    by_count zero zero r p = arrives_on [] u r p ∙ nil-append c (others u) (sym (arrives_on c u r p) ∙ e)
    by_count (suc i) j r p = arrives_anew [] c u (omega arith) ∙ e
    by_count i (suc j) r p = arrives_anew [] c u (omega arith) ∙ e

any_more : (b : Bool) (n : ℕ) → (b || not (n == 0)) ≡ not (bit b + n == 0)
any_more true n = grind arith
any_more false n = grind arith

-- whether one is among these
pub any-rsts : (q : List Command) → list_any is_rst q ≡ not (rsts q == 0)
any-rsts [] = refl
any-rsts (c ∷ q) = ap (λ (b : Bool). is_rst c || b) (any-rsts q) ∙ any_more (is_rst c) (rsts q)

pub any-rrps : (q : List Command) → list_any is_rrp q ≡ not (rrps q == 0)
any-rrps [] = refl
any-rrps (c ∷ q) = ap (λ (b : Bool). is_rrp c || b) (any-rrps q) ∙ any_more (is_rrp c) (rrps q)

-- the others behind the first RST
abbrev pub after_rst : List Command → List Command
after_rst [] = []
after_rst (c ∷ u) = if is_rst c then others u else after_rst u

pub after_rst-append : (u v : List Command) → after_rst (u ++ v) ≡ after_rst u ++ (if rsts u == 0 then after_rst v else others v)
after_rst-append [] v = refl
after_rst-append (c ∷ u) v = let h = after_rst-append u v in grind (arith, others-append)

-- where there are no others, none is behind an RST
pub after_rst-calm : (u : List Command) → others u ≡ [] → after_rst u ≡ []
after_rst-calm [] e = refl
after_rst-calm (c ∷ u) e = let h = after_rst-calm u in grind arith

nil-front : (c l : List Command) → c ++ l ≡ [] → c ≡ []
nil-front [] l e = refl
nil-front (x ∷ c) l e = cc

-- a purge leaves none there
pub still_purged : (x q : List Command) → after_rst (x ++ q) ≡ [] → after_rst (x ++ purged q) ≡ []
still_purged [] q e = after_rst-calm (purged q) (others-purged q)
still_purged (c ∷ x) q e = let h = still_purged x q in let o = nil-front (others x) (others q) in grind (arith, others-append, others-purged)

others_reset : (x q : List Command) (c : Command) → is_other c ≡ false → others (x ++ (q ++ c ∷ [])) ≡ others (x ++ q)
others_reset x q c o = grind (arith, others-append, append-nil)

-- nor does an RST or an RRP at the end
pub still_reset : (x q : List Command) (c : Command) → is_other c ≡ false → after_rst (x ++ q) ≡ [] → after_rst (x ++ (q ++ c ∷ [])) ≡ []
still_reset [] [] c o e = grind arith
still_reset [] (d ∷ q) c o e = let h = still_reset [] q c o in grind (arith, others-append)
still_reset (d ∷ x) q c o e = let h = still_reset x q c o in let k = others_reset x q c o in grind arith

-- with no RST, nothing is behind one
pub still_more : (u : List Command) → rsts u ≡ 0 → after_rst u ≡ []
still_more [] r = refl
still_more (c ∷ u) r = let h = still_more u in grind arith
