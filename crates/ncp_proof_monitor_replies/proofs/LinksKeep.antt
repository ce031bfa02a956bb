-- A command of the host that names a link is sent, and breaks no rule. After the commands still queued,
-- the counts of each connection are those of the host.
use Rattle.std.proofs.Common.{◌≡◌, ℕ, Bool, true, false, not, ◌||◌, if◌then◌else◌, List, ◌∷◌, Option, Some, ◌⊎◌, inl, inr, eq-eqb, refl, sym, ap, ◌∙◌, subst}
use Rattle.std.specs.FinMap.{get}
use Rattle.std.proofs.lemmas.Bool.{and_parts}
use Rattle.ncp_wire.specs.declared.command.Command.{Command}
use Rattle.ncp_wire.specs.declared.command.Command.TheVariants.{Rts, Str, Cls, All, Gvb, Ret, Inr, Ins}
use Rattle.ncp_model.specs.Ends.{Ends}
use Rattle.ncp_monitor.specs.declared.conn_state.FactKind.{FactKind}
use Rattle.ncp_monitor.specs.ConnStates.{SeenTables, is_marked}
use Rattle.ncp_interface.specs.Sockets.{is_senders}
use Rattle.ncp_monitor.specs.Allocation.{target_on}
use Rattle.ncp_monitor.proofs.Shapes.{Shape, Ask, Leave}
use Rattle.ncp_monitor.proofs.LinkOrder.{Sockets, same, same_is}
use Rattle.ncp_proof_monitor_allocation.proofs.Changed.{pair_at}
use Rattle.ncp_proof_monitor_allocation.proofs.SeenTables.{seen_of, suspended_of, receives_at}
use Rattle.ncp_proof_monitor_allocation.proofs.TidyBooks.{Tidy}
use Rattle.ncp_proof_monitor_allocation.proofs.LinkPlaces.{OpensAt, AllUnique, own_open}
use Rattle.ncp_proof_monitor_replies.proofs.LinksGo.{own_flow}
use Rattle.ncp_proof_monitor_allocation.proofs.Words.{Word, Speaks, Grants, Recalls, Returns, Hints, Count, link_given, is_open_on, is_right, is_within, names_at_rest, shape_after, count_after, Agreed, Fits, Hidden, LinkHidden, agreed_wider, fits_wider, agreed_unknown, fits_unknown, open_given, hidden_wider, link_hidden_wider}
use Rattle.ncp_proof_monitor_allocation.proofs.TextErrors.{admitted_wider}
use Rattle.ncp_proof_monitor_allocation.proofs.Plain.{Plain, count_seen}
use Rattle.ncp_proof_monitor_allocation.proofs.Counted.{Counted, AgreedAt, HiddenAt, FirstWord, words_about, command_of, links_by}

-- ---- a word that names a link

abbrev pub names_link : Word → Bool
names_link (Speaks say) = false
names_link (Grants link messages bits) = true
names_link (Recalls link of_messages of_bits) = true
names_link (Returns link messages bits) = true
names_link (Hints link) = true

link_shape : (word : Word) (m : Option Shape) → names_link word ≡ true → shape_after word m ≡ m
link_shape (Speaks say) m e = absurd (cc e)
link_shape (Grants link messages bits) m e = refl
link_shape (Recalls link of_messages of_bits) m e = refl
link_shape (Returns link messages bits) m e = refl
link_shape (Hints link) m e = refl

link_hidden : (sends : Bool) (links : ℕ → Bool) (last : (ℕ → Bool) → Type 0) (word : Word) (ws : List Word) → names_link word ≡ true → Hidden sends links last (word ∷ ws) → Hidden sends links last ws
link_hidden sends links last (Speaks say) ws e h = absurd (cc e)
link_hidden sends links last (Grants link messages bits) ws e h = h.1
link_hidden sends links last (Recalls link of_messages of_bits) ws e h = h.1
link_hidden sends links last (Returns link messages bits) ws e h = h.1
link_hidden sends links last (Hints link) ws e h = h.1

-- if the link that it names is suspended, any counts are allowed after it
rested_count : (sends : Bool) (links : ℕ → Bool) (fits : Option Shape → Count → Type 0) (word : Word) (ws : List Word) (m : Option Shape) (k i : Count) → names_at_rest links word ≡ true → is_right sends word m ≡ true
    → ((l : ℕ) → links l ≡ true → (x : Option Shape) (a b : Count) → link_given sends x ≡ Some l → fits x a → fits x b) → Agreed sends links fits ws m k → Agreed sends links fits ws m i
rested_count sends links fits (Speaks say) ws m k i y r f a = absurd (cc y)
rested_count sends links fits (Grants link messages bits) ws m k i y r f a = agreed_unknown sends links fits link ws m k i y (open_given sends link m (and_parts (not sends) (is_open_on sends link m) r).1) (f link y) a
rested_count sends links fits (Recalls link of_messages of_bits) ws m k i y r f a = agreed_unknown sends links fits link ws m k i y (open_given sends link m (and_parts (not sends) (is_open_on sends link m) r).1) (f link y) a
rested_count sends links fits (Returns link messages bits) ws m k i y r f a = agreed_unknown sends links fits link ws m k i y (open_given sends link m (and_parts sends (is_open_on sends link m) r).1) (f link y) a
rested_count sends links fits (Hints link) ws m k i y r f a = agreed_unknown sends links fits link ws m k i y (open_given sends link m r) (f link y) a

-- ---- it is sent

-- the tables after it: all shapes are unchanged; the counts of its connection change by it, unless its
-- link is suspended; all other counts are unchanged
pub record WordOut (me n : ℕ) (b now : SeenTables) (u : Sockets) (word : Word) : Type 0 where
  pub shapes : (v : Sockets) → seen_of me n now v ≡ seen_of me n b v
  pub suspended : (v : Sockets) → suspended_of me n now v ≡ suspended_of me n b v
  pub others : (v : Sockets) → same v u ≡ false → count_seen me n now v ≡ count_seen me n b v
  pub here : suspended_of me n b u ≡ false → (count_seen me n now u ≡ count_after word (seen_of me n b u) (count_seen me n b u)) ⊎ (names_at_rest (links_by me n b (receives_at u)) word ≡ true)
  pub links : (host : Bool) (link : ℕ) → links_by me n b host link ≡ true → links_by me n now host link ≡ true
  pub admits : (bytes : List ℕ) → is_marked me n (FactKind.Admits true bytes) b ≡ true → is_marked me n (FactKind.Admits true bytes) now ≡ true
  pub plain : Plain me n now

same_itself_too : (u : Sockets) → same u u ≡ true
same_itself_too (a, b) = rw (eq-eqb a a refl, eq-eqb b b refl) refl

module _ (me n : ℕ) (m : Ends) (c : Command) (w : List Command) (b : SeenTables) (k : Counted me n m (c ∷ w) b) (f : FirstWord c w k.words) where
  head_words : (v : Sockets) → words_about v k.words ≡ (if same v f.at then f.word ∷ words_about v f.rest else words_about v f.rest)
  head_words v = ap (words_about v) f.are

  here_words : words_about f.at k.words ≡ f.word ∷ words_about f.at f.rest
  here_words = head_words f.at ∙ ap (λ (x : Bool). if x then f.word ∷ words_about f.at f.rest else words_about f.at f.rest) (same_itself_too f.at)

  pub head_agreed : suspended_of me n b f.at ≡ false → AgreedAt me n b (get m (pair_at f.at)) (f.word ∷ words_about f.at f.rest) f.at
  head_agreed r = subst (λ (ws : List Word). AgreedAt me n b (get m (pair_at f.at)) ws f.at) here_words (k.agreed f.at r)

  pub head_hidden : suspended_of me n b f.at ≡ true → HiddenAt me n b (get m (pair_at f.at)) (f.word ∷ words_about f.at f.rest) f.at
  head_hidden r = subst (λ (ws : List Word). HiddenAt me n b (get m (pair_at f.at)) ws f.at) here_words (k.hidden f.at r)

  pub word_out : (now : SeenTables) → names_link f.word ≡ true → WordOut me n b now f.at f.word → Counted me n m w now
  word_out now names out = record {
    words = f.rest;
    spelled = f.spelled;
    agreed = λ v r. agrees v (sym (out.suspended v) ∙ r) (same v f.at) refl;
    hidden = λ v r. hides v (sym (out.suspended v) ∙ r) (same v f.at) refl;
    plain = out.plain;
    admitted = admitted_wider me n w b now out.admits k.admitted.1;
  }
    where
      moved : (v : Sockets) (ws : List Word) (i : Count) → count_seen me n now v ≡ i
          → Agreed (is_senders v.0) (links_by me n b (receives_at v)) (Fits (is_senders v.0) (links_by me n b (receives_at v)) (get m (pair_at v))) ws (seen_of me n b v) i → AgreedAt me n now (get m (pair_at v)) ws v
      moved v ws i e a =
          subst (Agreed (is_senders v.0) (links_by me n now (receives_at v)) (Fits (is_senders v.0) (links_by me n now (receives_at v)) (get m (pair_at v))) ws (seen_of me n now v)) (sym e)
          (subst (λ (x : Option Shape). Agreed (is_senders v.0) (links_by me n now (receives_at v)) (Fits (is_senders v.0) (links_by me n now (receives_at v)) (get m (pair_at v))) ws x i) (sym (out.shapes v))
          (agreed_wider (is_senders v.0) (links_by me n b (receives_at v)) (links_by me n now (receives_at v)) (Fits (is_senders v.0) (links_by me n b (receives_at v)) (get m (pair_at v)))
          (Fits (is_senders v.0) (links_by me n now (receives_at v)) (get m (pair_at v))) ws (seen_of me n b v) i (out.links (receives_at v))
          (λ x j g. fits_wider (is_senders v.0) (links_by me n b (receives_at v)) (links_by me n now (receives_at v)) (get m (pair_at v)) x j (out.links (receives_at v)) g) a))

      at_it : suspended_of me n b f.at ≡ false → AgreedAt me n now (get m (pair_at f.at)) (words_about f.at f.rest) f.at
      at_it r = go (head_agreed r) (out.here r)
        where
          go : AgreedAt me n b (get m (pair_at f.at)) (f.word ∷ words_about f.at f.rest) f.at
              → (count_seen me n now f.at ≡ count_after f.word (seen_of me n b f.at) (count_seen me n b f.at)) ⊎ (names_at_rest (links_by me n b (receives_at f.at)) f.word ≡ true)
              → AgreedAt me n now (get m (pair_at f.at)) (words_about f.at f.rest) f.at
          go (right, (within, a)) (inl e) =
              moved f.at (words_about f.at f.rest) (count_after f.word (seen_of me n b f.at) (count_seen me n b f.at)) e
              (subst (λ (x : Option Shape). Agreed (is_senders f.at.0) (links_by me n b (receives_at f.at)) (Fits (is_senders f.at.0) (links_by me n b (receives_at f.at)) (get m (pair_at f.at))) (words_about f.at f.rest) x (count_after f.word (seen_of me n b f.at) (count_seen me n b f.at)))
              (link_shape f.word (seen_of me n b f.at) names) a)
          go (right, (within, a)) (inr y) =
              moved f.at (words_about f.at f.rest) (count_seen me n now f.at) refl
              (rested_count (is_senders f.at.0) (links_by me n b (receives_at f.at)) (Fits (is_senders f.at.0) (links_by me n b (receives_at f.at)) (get m (pair_at f.at))) f.word (words_about f.at f.rest) (seen_of me n b f.at)
              (count_after f.word (seen_of me n b f.at) (count_seen me n b f.at)) (count_seen me n now f.at) y right
              (λ l z x i j g. fits_unknown (is_senders f.at.0) (links_by me n b (receives_at f.at)) (get m (pair_at f.at)) l z x i j g)
              (subst (λ (x : Option Shape). Agreed (is_senders f.at.0) (links_by me n b (receives_at f.at)) (Fits (is_senders f.at.0) (links_by me n b (receives_at f.at)) (get m (pair_at f.at))) (words_about f.at f.rest) x (count_after f.word (seen_of me n b f.at) (count_seen me n b f.at)))
              (link_shape f.word (seen_of me n b f.at) names) a))

      agrees : (v : Sockets) → suspended_of me n b v ≡ false → (s : Bool) → same v f.at ≡ s → AgreedAt me n now (get m (pair_at v)) (words_about v f.rest) v
      agrees v r true s = subst (λ (y : Sockets). AgreedAt me n now (get m (pair_at y)) (words_about y f.rest) y) (sym (same_is v f.at s)) (at_it (ap (suspended_of me n b) (sym (same_is v f.at s)) ∙ r))
      agrees v r false s =
          moved v (words_about v f.rest) (count_seen me n b v) (out.others v s)
          (subst (λ (ws : List Word). AgreedAt me n b (get m (pair_at v)) ws v) (head_words v ∙ ap (λ (x : Bool). if x then f.word ∷ words_about v f.rest else words_about v f.rest) s) (k.agreed v r))

      wider : (v : Sockets) (ws : List Word) → HiddenAt me n b (get m (pair_at v)) ws v → HiddenAt me n now (get m (pair_at v)) ws v
      wider v ws h =
          hidden_wider (is_senders v.0) (links_by me n b (receives_at v)) (links_by me n now (receives_at v)) (LinkHidden (get m (pair_at v)) (is_senders v.0)) (LinkHidden (get m (pair_at v)) (is_senders v.0)) ws (out.links (receives_at v))
          (λ x y g h. link_hidden_wider (get m (pair_at v)) (is_senders v.0) x y g h) h

      hidden_at : suspended_of me n b f.at ≡ true → HiddenAt me n now (get m (pair_at f.at)) (words_about f.at f.rest) f.at
      hidden_at r =
          wider f.at (words_about f.at f.rest)
          (link_hidden (is_senders f.at.0) (links_by me n b (receives_at f.at)) (LinkHidden (get m (pair_at f.at)) (is_senders f.at.0)) f.word (words_about f.at f.rest) names (head_hidden r))

      hides : (v : Sockets) → suspended_of me n b v ≡ true → (s : Bool) → same v f.at ≡ s → HiddenAt me n now (get m (pair_at v)) (words_about v f.rest) v
      hides v r true s = subst (λ (y : Sockets). HiddenAt me n now (get m (pair_at y)) (words_about y f.rest) y) (sym (same_is v f.at s)) (hidden_at (ap (suspended_of me n b) (sym (same_is v f.at s)) ∙ r))
      hides v r false s =
          wider v (words_about v f.rest)
          (subst (λ (ws : List Word). HiddenAt me n b (get m (pair_at v)) ws v) (head_words v ∙ ap (λ (x : Bool). if x then f.word ∷ words_about v f.rest else words_about v f.rest) s) (k.hidden v r))

-- ---- which word it is

pub grants_only : (u : Sockets) (word : Word) (link messages bits : ℕ) → command_of (u, word) ≡ All link messages bits → word ≡ Grants link messages bits
grants_only u (Speaks (Ask n)) link messages bits e = absurd (go (is_senders u.0) e)
  where
    go : (s : Bool) → (if s then Str u.0 u.1 n else Rts u.0 u.1 n) ≡ All link messages bits → ⊥
    go true e = cc e
    go false e = cc e
grants_only u (Speaks Leave) link messages bits e = absurd (cc e)
grants_only u (Grants on m k) link messages bits e = cc e
grants_only u (Recalls on m k) link messages bits e = absurd (cc e)
grants_only u (Returns on m k) link messages bits e = absurd (cc e)
grants_only u (Hints on) link messages bits e = absurd (go (is_senders u.0) e)
  where
    go : (s : Bool) → (if s then Ins on else Inr on) ≡ All link messages bits → ⊥
    go true e = cc e
    go false e = cc e

pub recalls_only : (u : Sockets) (word : Word) (link fm fb : ℕ) → command_of (u, word) ≡ Gvb link fm fb → word ≡ Recalls link fm fb
recalls_only u (Speaks (Ask n)) link fm fb e = absurd (go (is_senders u.0) e)
  where
    go : (s : Bool) → (if s then Str u.0 u.1 n else Rts u.0 u.1 n) ≡ Gvb link fm fb → ⊥
    go true e = cc e
    go false e = cc e
recalls_only u (Speaks Leave) link fm fb e = absurd (cc e)
recalls_only u (Grants on m k) link fm fb e = absurd (cc e)
recalls_only u (Recalls on m k) link fm fb e = cc e
recalls_only u (Returns on m k) link fm fb e = absurd (cc e)
recalls_only u (Hints on) link fm fb e = absurd (go (is_senders u.0) e)
  where
    go : (s : Bool) → (if s then Ins on else Inr on) ≡ Gvb link fm fb → ⊥
    go true e = cc e
    go false e = cc e

pub returns_only : (u : Sockets) (word : Word) (link messages bits : ℕ) → command_of (u, word) ≡ Ret link messages bits → word ≡ Returns link messages bits
returns_only u (Speaks (Ask n)) link messages bits e = absurd (go (is_senders u.0) e)
  where
    go : (s : Bool) → (if s then Str u.0 u.1 n else Rts u.0 u.1 n) ≡ Ret link messages bits → ⊥
    go true e = cc e
    go false e = cc e
returns_only u (Speaks Leave) link messages bits e = absurd (cc e)
returns_only u (Grants on m k) link messages bits e = absurd (cc e)
returns_only u (Recalls on m k) link messages bits e = absurd (cc e)
returns_only u (Returns on m k) link messages bits e = cc e
returns_only u (Hints on) link messages bits e = absurd (go (is_senders u.0) e)
  where
    go : (s : Bool) → (if s then Ins on else Inr on) ≡ Ret link messages bits → ⊥
    go true e = cc e
    go false e = cc e

abbrev pub hint : Bool → ℕ → Command
hint sends link = if sends then Ins link else Inr link

pub hints_only : (u : Sockets) (word : Word) (sends : Bool) (link : ℕ) → command_of (u, word) ≡ hint sends link → (word ≡ Hints link) × (is_senders u.0 ≡ sends)
hints_only u (Speaks (Ask n)) sends link e = absurd (go (is_senders u.0) sends e)
  where
    go : (s t : Bool) → (if s then Str u.0 u.1 n else Rts u.0 u.1 n) ≡ hint t link → ⊥
    go true true e = cc e
    go true false e = cc e
    go false true e = cc e
    go false false e = cc e
hints_only u (Speaks Leave) sends link e = absurd (go sends e)
  where
    go : (t : Bool) → Cls u.0 u.1 ≡ hint t link → ⊥
    go true e = cc e
    go false e = cc e
hints_only u (Grants on m k) sends link e = absurd (go sends e)
  where
    go : (t : Bool) → All on m k ≡ hint t link → ⊥
    go true e = cc e
    go false e = cc e
hints_only u (Recalls on m k) sends link e = absurd (go sends e)
  where
    go : (t : Bool) → Gvb on m k ≡ hint t link → ⊥
    go true e = cc e
    go false e = cc e
hints_only u (Returns on m k) sends link e = absurd (go sends e)
  where
    go : (t : Bool) → Ret on m k ≡ hint t link → ⊥
    go true e = cc e
    go false e = cc e
hints_only u (Hints on) sends link e = go (is_senders u.0) refl sends e
  where
    go : (s : Bool) → is_senders u.0 ≡ s → (t : Bool) → (if s then Ins on else Inr on) ≡ hint t link → (Hints on ≡ Hints link) × (is_senders u.0 ≡ t)
    go true k true e = (cc e, k)
    go false k false e = (cc e, k)
    go true k false e = absurd (cc e)
    go false k true e = absurd (cc e)

-- ---- where it leads

pub data LeadsOut (me n : ℕ) (b : SeenTables) (u : Sockets) (word : Word) (host : Bool) (link : ℕ) : Type 0 where
  OutAtRest : is_marked me n (FactKind.LinkSuspended host link) b ≡ true → names_at_rest (links_by me n b (receives_at u)) word ≡ true → LeadsOut me n b u word host link
  OutOpen : suspended_of me n b u ≡ false → is_marked me n (FactKind.LinkSuspended host link) b ≡ false → is_open_on (is_senders u.0) link (seen_of me n b u) ≡ true → OpensAt me n host link b (target_on (own_flow me n) (record { host = host; link = link }) b) u
      → is_within word (count_seen me n b u) ≡ true → LeadsOut me n b u word host link

module _ (me n : ℕ) (m : Ends) (c : Command) (w : List Command) (b : SeenTables) (k : Counted me n m (c ∷ w) b) (f : FirstWord c w k.words) (tidy : Tidy b) (unique : AllUnique me n b) (word : Word) (is : f.word ≡ word) (host : Bool) (link : ℕ)
    (right : is_right (is_senders f.at.0) word (seen_of me n b f.at) ≡ true → (receives_at f.at ≡ host) × (is_open_on (is_senders f.at.0) link (seen_of me n b f.at) ≡ true))
    (hides : (links : ℕ → Bool) (last : (ℕ → Bool) → Type 0) (ws : List Word) → Hidden (is_senders f.at.0) links last (word ∷ ws) → (receives_at f.at ≡ host) × (links link ≡ true))
    (names : (links : ℕ → Bool) → names_at_rest links word ≡ links link) where
  pub leads_out : LeadsOut me n b f.at word host link
  leads_out = go (suspended_of me n b f.at) refl
    where
      marked : receives_at f.at ≡ host → links_by me n b (receives_at f.at) link ≡ true → LeadsOut me n b f.at word host link
      marked e y = OutAtRest (ap (λ (h : Bool). is_marked me n (FactKind.LinkSuspended h link) b) (sym e) ∙ y) (names (links_by me n b (receives_at f.at)) ∙ y)

      by_fact : suspended_of me n b f.at ≡ false → receives_at f.at ≡ host → is_open_on (is_senders f.at.0) link (seen_of me n b f.at) ≡ true → (x : Bool) → links_by me n b (receives_at f.at) link ≡ x
          → (names_at_rest (links_by me n b (receives_at f.at)) word || is_within word (count_seen me n b f.at)) ≡ true → LeadsOut me n b f.at word host link
      by_fact r e o true y within = marked e y
      by_fact r e o false y within =
          OutOpen r
          (ap (λ (h : Bool). is_marked me n (FactKind.LinkSuspended h link) b) (sym e) ∙ y)
          o
          (subst (λ (h : Bool). OpensAt me n h link b (target_on (own_flow me n) (record { host = h; link = link }) b) f.at) e (own_open me n b tidy unique f.at link o y))
          (ap (λ (x : Bool). x || is_within word (count_seen me n b f.at)) (sym (names (links_by me n b (receives_at f.at)) ∙ y)) ∙ within)

      go : (r : Bool) → suspended_of me n b f.at ≡ r → LeadsOut me n b f.at word host link
      go true r = let h = hides (links_by me n b (receives_at f.at)) (LinkHidden (get m (pair_at f.at)) (is_senders f.at.0)) (words_about f.at f.rest)
          (subst (λ (x : Word). HiddenAt me n b (get m (pair_at f.at)) (x ∷ words_about f.at f.rest) f.at) is (head_hidden me n m c w b k f r)) in marked h.0 h.1
      go false r =
          let a = subst (λ (x : Word). AgreedAt me n b (get m (pair_at f.at)) (x ∷ words_about f.at f.rest) f.at) is (head_agreed me n m c w b k f r) in
          let o = right a.0 in
          by_fact r o.0 o.1 (links_by me n b (receives_at f.at) link) refl a.1.0
