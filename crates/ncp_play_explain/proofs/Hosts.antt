-- The numbers of hosts, from one on.
use Rattle.std.proofs.Common.{◌≡◌, ◌<◌, ◌+◌, ℕ, Bool, not, cond, true, false, List, [], ◌∷◌, ◌++◌, map, length, take, drop, get_or, Some, codes, bytes_eq, refl, sym, ap, ◌∙◌, arith}
use Rattle.std.specs.Borrow.{Bor}
use Rattle.std.proofs.lemmas.List.{take_more, length-map, get_or-map}
use Rattle.ncp_play_explain.specs.Hosts.{is_named, named_again, before_watch}
use Rattle.ncp_play_explain.proofs.Places.{rest_from}

pub counted : (words : List (Bor (List ℕ))) → length (map (λ word. word.now) words) ≡ length words
counted words = rw length-map

-- ---- a number that was named before
module _ (words : List (Bor (List ℕ))) (i : ℕ) (d : Bor (List ℕ)) (within : i < length words) where
  abbrev texts : List (List ℕ)
  texts = map (λ word. word.now) words

  abbrev word : List ℕ
  word = (get_or words i d).now

  rest_there : drop i texts ≡ word ∷ drop (i + 1) texts
  rest_there = rest_from texts i [] (rw length-map within) ∙ ap (λ w. w ∷ drop (i + 1) texts) (get_or-map (λ word. word.now) words i d [] within)

  pub again_here : is_named word (take i texts) ≡ true → named_again (take i texts) (drop i texts) ≡ Some word
  again_here e = ap (named_again (take i texts)) rest_there ∙ rw e refl

  pub again_behind : is_named word (take i texts) ≡ false → named_again (take i texts) (drop i texts) ≡ named_again (take (i + 1) texts) (drop (i + 1) texts)
  again_behind e = ap (named_again (take i texts)) rest_there ∙ rw e (ap (λ named. named_again named (drop (i + 1) texts)) (ap (λ w. take i texts ++ w ∷ []) (sym (get_or-map (λ word. word.now) words i d [] within)) ∙ sym (take_more texts i [] (rw length-map within))))

  -- ---- the words before `watch`
  pub watch_here : bytes_eq word (codes "watch") ≡ true → i + before_watch (drop i texts) ≡ i
  watch_here e = ap (λ rest. i + before_watch rest) rest_there ∙ ap (λ (b : Bool). i + cond (not b) (1 + before_watch (drop (i + 1) texts)) 0) e ∙ omega arith

  pub watch_behind : bytes_eq word (codes "watch") ≡ false → i + before_watch (drop i texts) ≡ i + 1 + before_watch (drop (i + 1) texts)
  watch_behind e = ap (λ rest. i + before_watch rest) rest_there ∙ ap (λ (b : Bool). i + cond (not b) (1 + before_watch (drop (i + 1) texts)) 0) e ∙ omega arith
