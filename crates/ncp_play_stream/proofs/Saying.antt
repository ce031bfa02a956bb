-- Text that is rendered in pieces.
use Rattle.std.proofs.Common.{◌≡◌, ℕ, List, [], ◌∷◌, ◌++◌, take, drop, Option, Some, None, Result, Ok, Err, sym, ap, ◌∙◌, subst}
use Rattle.std.proofs.lemmas.List.{append_assoc, append-nil, take-append-drop}
use Rattle.std.proofs.lemmas.List.Concat.{flat_map-append}
use Rattle.std.specs.List.{flat_map}
use Rattle.std.specs.Io.KnownBytes.{Appends}
use Rattle.ncp_play_stream.specs.Streams.{WritesText, WritesPrefixOf, WritesTextOrPrefixOf}
use Rattle.ncp_play_stream.specs.declared.source.Failed.{Failed}
use Rattle.std.specs.Result.{IsErr}

-- the content of a buffer was written
pub writes_flushed : (page front lost : List ℕ) (a b : Option (List ℕ)) → Appends a b front → front ++ lost ≡ page → WritesText page a [] lost b
writes_flushed page front lost None b h e = λ was said k. let f : ⊥ = cc in absurd f
writes_flushed page front lost (Some xs) None h e = absurd h
writes_flushed page front lost (Some xs) (Some ys) h e = λ was said k.
    let f : xs ≡ was ++ k.0 = cc in (
      k.0 ++ front,
      ap Some (h ∙ ap (λ zs. zs ++ front) f ∙ append_assoc was k.0 front),
      append_assoc k.0 front lost ∙ ap (λ zs. k.0 ++ zs) e ∙ k.2 ∙ sym (append-nil said),
    )

-- a prefix of it was
pub writes_flushed_front : (page : List ℕ) (count : ℕ) (a b : Option (List ℕ)) → Appends a b (take count page) → WritesPrefixOf page a [] b
writes_flushed_front page count a b h = (drop count page, writes_flushed page (take count page) (drop count page) a b h (take-append-drop count page))

-- a text that was appended to a buffer
pub writes_pushed : (page text more : List ℕ) (a : Option (List ℕ)) → more ≡ page ++ text → WritesText page a text more a
writes_pushed page text more a e = λ was said k. (k.0, k.1, ap (λ zs. k.0 ++ zs) e ∙ sym (append_assoc k.0 page text) ∙ ap (λ zs. zs ++ text) k.2)

-- one text after another
pub writes_more : (page text mid more last : List ℕ) (a b c : Option (List ℕ)) → WritesText page a text mid b → WritesText mid b more last c → WritesText page a (text ++ more) last c
writes_more page text mid more last a b c h k = λ was said m.
    let r = k was (said ++ text) (h was said m) in
    (r.0, r.1, r.2 ∙ append_assoc said text more)

-- a prefix of a text is one of a longer text
pub writes_prefix_longer : (page text more : List ℕ) (a b : Option (List ℕ)) → WritesPrefixOf page a text b → WritesPrefixOf page a (text ++ more) b
writes_prefix_longer page text more a b h = (
  h.0 ++ more,
  λ was said m. let r = h.1 was said m in (r.0, r.1, sym (append_assoc r.0 h.0 more) ∙ ap (λ zs. zs ++ more) r.2 ∙ append_assoc said text more),
)

-- a text, and a prefix of the next
pub writes_prefix_after : (page text mid more : List ℕ) (a b c : Option (List ℕ)) → WritesText page a text mid b → WritesPrefixOf mid b more c → WritesPrefixOf page a (text ++ more) c
writes_prefix_after page text mid more a b c h k = (k.0, writes_more page text mid more k.0 a b c h k.1)

-- ---- results

-- an error means that a prefix was written
pub answers_broken : (page text : List ℕ) (a b : Option (List ℕ)) (last : List ℕ) (r : Result Unit Failed) → IsErr r → WritesPrefixOf page a text b → WritesTextOrPrefixOf page a text r last b
answers_broken page text a b last (Ok done) e h = let f : ⊥ = cc in absurd f
answers_broken page text a b last (Err failed) e h = h

-- a text was rendered before
pub answers_after : (page text mid more last : List ℕ) (a b c : Option (List ℕ)) (r : Result Unit Failed) → WritesText page a text mid b → WritesTextOrPrefixOf mid b more r last c → WritesTextOrPrefixOf page a (text ++ more) r last c
answers_after page text mid more last a b c (Ok done) h k = writes_more page text mid more last a b c h k
answers_after page text mid more last a b c (Err failed) h k = writes_prefix_after page text mid more a b c h k

-- room was made, and a text was appended to the buffer
pub writes_line : (page mid last text : List ℕ) (a b : Option (List ℕ)) → WritesText page a [] mid b → last ≡ mid ++ text → WritesText page a text last b
writes_line page mid last text a b h e = writes_more page [] mid text last a b b h (writes_pushed mid text last b e)

-- no room could be made
pub answers_no_room : (page text : List ℕ) (a b : Option (List ℕ)) (last : List ℕ) (r : Result Unit Failed) → IsErr r → WritesPrefixOf page a [] b → WritesTextOrPrefixOf page a text r last b
answers_no_room page text a b last r e h = answers_broken page text a b last r e (writes_prefix_longer page [] text a b h)

pub three_pushed : (page a b c p q last : List ℕ) → p ≡ page ++ a → q ≡ p ++ b → last ≡ q ++ c → last ≡ page ++ (a ++ b ++ c)
three_pushed page a b c p q last pa qb lc = rw (lc, qb, pa) (simp append_assoc)

-- ---- a line for each item of a list

module _ {X : Type 0} (line : X → List ℕ) where
  -- no line for an empty list
  pub writes_none : (page : List ℕ) (a : Option (List ℕ)) → WritesText page a (flat_map line []) page a
  writes_none page a = λ was said k. (k.0, k.1, k.2 ∙ sym (append-nil said))

  -- room was made, and the next line was appended to the buffer
  pub writes_item : (page mid room last : List ℕ) (a b c : Option (List ℕ)) (done : List X) (item : X) → WritesText page a (flat_map line done) mid b → WritesText mid b [] room c → last ≡ room ++ line item
      → WritesText page a (flat_map line (done ++ item ∷ [])) last c
  writes_item page mid room last a b c done item h k e =
      subst (λ text. WritesText page a text last c) (sym (flat_map-append line done (item ∷ []) ∙ ap (λ xs. flat_map line done ++ xs) (append-nil (line item))))
      (writes_more page (flat_map line done) mid (line item) last a b c h (writes_more mid [] room (line item) last b c c k (writes_pushed room (line item) last c e)))

  -- no room could be made for the next line
  pub writes_items_broken : (page mid : List ℕ) (a b c : Option (List ℕ)) (done rest all : List X) → WritesText page a (flat_map line done) mid b → WritesPrefixOf mid b [] c → done ++ rest ≡ all
      → WritesPrefixOf page a (flat_map line all) c
  writes_items_broken page mid a b c done rest all h k e =
      subst (λ text. WritesPrefixOf page a text c) (sym (flat_map-append line done rest) ∙ ap (flat_map line) e)
      (writes_prefix_after page (flat_map line done) mid (flat_map line rest) a b c h (writes_prefix_longer mid [] (flat_map line rest) b c k))

  -- all items were rendered
  pub writes_items : (page last : List ℕ) (a b : Option (List ℕ)) (done rest all : List X) → WritesText page a (flat_map line done) last b → done ++ rest ≡ all → rest ≡ [] → WritesText page a (flat_map line all) last b
  writes_items page last a b done rest all h e n =
      subst (λ xs. WritesText page a (flat_map line xs) last b) (sym (append-nil done) ∙ ap (λ xs. done ++ xs) (sym n) ∙ e) h
