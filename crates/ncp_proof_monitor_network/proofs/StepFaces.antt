-- What one of two hosts says, when it has come: what both have seen then is the same again, and of each connection the receiver
-- counts no less than its sender.
use Rattle.std.proofs.Common.{◌≡◌, ℕ, ◌+◌, ◌≤◌, ◌==◌, Bool, true, false, not, ◌&&◌, nat_le, if◌then◌else◌, List, [], ◌∷◌, ◌++◌, Option, None, Some, inl, refl, sym, ap, ◌∙◌, subst, arith}
use Rattle.std.proofs.lemmas.Bool.{and_parts}
use Rattle.ncp_wire.specs.declared.command.Command.{Command}
use Rattle.ncp_wire.specs.declared.command.Command.TheVariants.{Rts, Str, Cls, Eco, Erp, Err, Nop, All, Gvb, Ret, Inr, Ins, Rst, Rrp}
use Rattle.ncp_interface.specs.Sockets.{is_senders, is_of_sexes}
use Rattle.ncp_monitor.specs.Allocation.{part_returned}
use Rattle.ncp_monitor.proofs.Shapes.{Shape, Say, Ask, Leave, own_step}
use Rattle.ncp_monitor.proofs.LinkOrder.{Sockets, same, same_is, put}
use Rattle.ncp_proof_monitor_allocation.proofs.SeenTables.{step}
use Rattle.ncp_proof_monitor_allocation.proofs.Words.{Count, no_count, link_given}
use Rattle.ncp_proof_monitor_network.specs.Owing.{Owing, Echoes, is_echo_of, is_returning_on, NextOwed, owed_after}
use Rattle.ncp_proof_monitor_network.proofs.Tallied.{left_by, HasNumbers, count_put, counted_on, recalled_by, returned_by, return_asked, owing_without, users_put, is_user, users_after_cls, counts_after_cls, Faces, owed_messages, owed_bits, MatchesOwed, matches_more}
use Rattle.ncp_proof_monitor_network.proofs.Said.{Said, takes_by, number_by, Legal, after_said_by, facing_shape, facing_user}
use Rattle.ncp_proof_monitor_network.proofs.UsersSaid.{link_between}
use Rattle.ncp_proof_monitor_network.proofs.MatchSteps.{same_turned, matches_append, matches_erp, matches_ret, matches_without, after_owes_less, without_owes_less, owes_nothing, without_owes_none, owes_more, owed_more_messages, owed_more_bits, asked_other, asked_same, one_on, owed_next}
use Rattle.ncp_proof_monitor_network.proofs.FacesSteps.{part_monotone, faces_grant, faces_recall, faces_return, faces_fall}
use Rattle.ncp_proof_monitor_network.proofs.ConsistentViews.{Afloat, float_messages, float_bits, messages_afloat, bits_afloat, FacesOn, Mirrors, AllSending, Sane}
use Rattle.ncp_proof_monitor_network.proofs.LegalFaces.{left_faces, apart, LedAt, led_at, user_there, ret_there}

turned_same : (v u : Sockets) → same (v.1, v.0) (u.1, u.0) ≡ same v u
turned_same v u = same_turned v (u.1, u.0)

-- ---- what both count of a connection

put_both : (cx cy : Sockets → Count) (ox oy : Option Sockets) (f g : Count → Count) (u v : Sockets) (P : Count → Count → Type 0) → ox ≡ Some u → oy ≡ Some (u.1, u.0)
    → (same v u ≡ true → P (f (cx v)) (g (cy (v.1, v.0)))) → (same v u ≡ false → P (cx v) (cy (v.1, v.0))) → P (count_put cx ox f v) (count_put cy oy g (v.1, v.0))
put_both cx cy ox oy f g u v P a b here other =
    subst (λ (o : Option Sockets). P (count_put cx o f v) (count_put cy oy g (v.1, v.0))) (sym a)
    (subst (λ (o : Option Sockets). P (count_put cx (Some u) f v) (count_put cy o g (v.1, v.0))) (sym b)
    (subst (λ (z : Bool). P (if same v u then f (cx v) else cx v) (if z then g (cy (v.1, v.0)) else cy (v.1, v.0))) (sym (turned_same v u)) (go (same v u) refl)))
  where
    go : (z : Bool) → same v u ≡ z → P (if z then f (cx v) else cx v) (if z then g (cy (v.1, v.0)) else cy (v.1, v.0))
    go true e = here e
    go false e = other e

over_both : (cx cy : Sockets → Count) (ox oy over : Bool) (u v : Sockets) (P : Count → Count → Type 0) → ox ≡ over → oy ≡ over
    → (over ≡ true → same v u ≡ true → P no_count no_count) → ((over ≡ true → same v u ≡ true → ⊥) → P (cx v) (cy (v.1, v.0))) → P (counts_after_cls ox u cx v) (counts_after_cls oy (u.1, u.0) cy (v.1, v.0))
over_both cx cy ox oy over u v P a b here other =
    subst (λ (z : Bool). P (counts_after_cls z u cx v) (counts_after_cls oy (u.1, u.0) cy (v.1, v.0))) (sym a)
    (subst (λ (z : Bool). P (counts_after_cls over u cx v) (counts_after_cls z (u.1, u.0) cy (v.1, v.0))) (sym b) (go over here other))
  where
    go : (z : Bool) → (z ≡ true → same v u ≡ true → P no_count no_count) → ((z ≡ true → same v u ≡ true → ⊥) → P (cx v) (cy (v.1, v.0)))
        → P (counts_after_cls z u cx v) (counts_after_cls z (u.1, u.0) cy (v.1, v.0))
    go true h o = put_both cx cy (Some u) (Some (u.1, u.0)) (λ k. no_count) (λ k. no_count) u v P refl refl (λ e. h refl e) (λ e. o (λ t d. let nay : false ≡ true = sym e ∙ d in cc nay))
    go false h o = o (λ t d. cc t)

-- ---- the link of a connection, after a request or a CLS of the one

pub link_receives : (v : Sockets) (n : Option Shape) → takes_by true v ≡ true → link_between v n ≡ number_by true n
link_receives v n t = ap (λ (b : Bool). link_given b n) (go (is_senders v.0) (and_parts (not (is_senders v.0)) (is_senders v.1) t).0) ∙ at n
  where
    go : (b : Bool) → not b ≡ true → b ≡ false
    go true e = absurd (cc e)
    go false e = refl

    at : (n : Option Shape) → link_given false n ≡ number_by true n
    at None = refl
    at (Some s) = refl

pub link_sends : (v : Sockets) (n : Option Shape) → takes_by false v ≡ true → link_between v n ≡ number_by false n
link_sends v n t = ap (λ (b : Bool). link_given b n) (and_parts (not (is_senders v.1)) (is_senders v.0) t).1 ∙ at n
  where
    at : (n : Option Shape) → link_given true n ≡ number_by false n
    at None = refl
    at (Some s) = refl

asks_own : (k : ℕ) (n : Option Shape) → number_by true (own_step (Ask k) n) ≡ Some k
asks_own k None = refl
asks_own k (Some s) = refl

asks_others : (k : ℕ) (n : Option Shape) → number_by false (own_step (Ask k) n) ≡ number_by false n
asks_others k None = refl
asks_others k (Some s) = refl

left_link : (b : Bool) (n : Option Shape) → left_by false n ≡ false → link_given b (own_step Leave n) ≡ link_given b n
left_link b None e = refl
left_link b (Some s) e = ap (λ (c : Bool). link_given b (if c then None else Some (record s { left = true }))) e

left_over : (n : Option Shape) → left_by false n ≡ true → own_step Leave n ≡ None
left_over None e = refl
left_over (Some s) e = ap (λ (c : Bool). if c then None else Some (record s { left = true })) e

link_put : (m : Sockets → Option Shape) (p : Sockets) (now : Option Shape) (v : Sockets) (l : Option ℕ) → (same v p ≡ true → link_between v now ≡ l) → (same v p ≡ false → link_between v (m v) ≡ l) → link_between v (put m p now v) ≡ l
link_put m p now v l here other = go (same v p) refl
  where
    go : (b : Bool) → same v p ≡ b → link_between v (if b then now else m v) ≡ l
    go true e = here e
    go false e = other e

-- ---- what is said, as the other sees it

step_faces_shape : (a : Say) (n : Option Shape) → step true a (facing_shape n) ≡ facing_shape (step false a n)
step_faces_shape (Ask k) None = refl
step_faces_shape (Ask k) (Some n) = refl
step_faces_shape Leave None = refl
step_faces_shape Leave (Some n) = go n.left
  where
    go : (b : Bool) → (if b then None else Some (record { own = n.others; others = n.own; left = true; cls = n.left })) ≡ facing_shape (if b then None else Some (record n { cls = true }))
    go true = refl
    go false = refl

none_text : (t : Afloat) (link : ℕ) (n k : ℕ) → t link ≡ None → (messages_afloat (Some link) t ≤ n) × (bits_afloat (Some link) t ≤ k)
none_text t link n k e =
    let a = ap float_messages e in
    let b = ap float_bits e in (omega (arith, a), omega (arith, b))

module _ {x y : Said} {tx ty : Afloat} (m : Mirrors x y tx ty) (sane : Sane x) (there : Sane y) where
  put_shapes : (p : Sockets) (a : Say) (v : Sockets) → put x.shapes p (step true a (x.shapes p)) v ≡ facing_shape (put y.shapes (p.1, p.0) (step false a (y.shapes (p.1, p.0))) (v.1, v.0))
  put_shapes p a v =
      go (same v p)
      ∙ ap (λ (z : Bool). facing_shape (if z then step false a (y.shapes (p.1, p.0)) else y.shapes (v.1, v.0))) (sym (turned_same v p))
    where
      go : (z : Bool) → (if z then step true a (x.shapes p) else x.shapes v) ≡ facing_shape (if z then step false a (y.shapes (p.1, p.0)) else y.shapes (v.1, v.0))
      go true = ap (step true a) (m.shapes p) ∙ step_faces_shape a (y.shapes (p.1, p.0))
      go false = m.shapes v

  -- ---- replies, and what asks for them

  step_eco : (byte : ℕ) → Mirrors (after_said_by true (Eco byte) x) (after_said_by false (Eco byte) y) tx ty
  step_eco byte = record {
    shapes = m.shapes;
    users = m.users;
    here = λ v t. let less = owes_more (v.1, v.0) (y.owing true) (Echoes byte ∷ []) (record { messages = refl; bits = refl }) in
        faces_fall (owed_messages (v.1, v.0) (y.owing true ++ Echoes byte ∷ [])) (owed_bits (v.1, v.0) (y.owing true ++ Echoes byte ∷ [])) (messages_afloat (link_between v (x.shapes v)) ty) (bits_afloat (link_between v (x.shapes v)) ty)
        less.messages less.bits (omega arith) (omega arith) (m.here v t);
    there = m.there;
    mine = matches_more (x.owing false) (y.owing true) (Echoes byte) (Echoes byte) refl m.mine;
    theirs = m.theirs;
  }

  fall_behind : (fits : Owing → Bool) (v : Sockets) → takes_by false v ≡ true → FacesOn v (y.counts (v.1, v.0)) (x.counts v) (owed_after fits (x.owing true)) (link_between v (x.shapes v)) tx
  fall_behind fits v t =
      let less = after_owes_less v fits (x.owing true) in
      faces_fall (owed_messages v (owed_after fits (x.owing true))) (owed_bits v (owed_after fits (x.owing true))) (messages_afloat (link_between v (x.shapes v)) tx) (bits_afloat (link_between v (x.shapes v)) tx)
      less.messages less.bits (omega arith) (omega arith) (m.there v t)

  step_erp : (byte : ℕ) → Legal true (Erp byte) x → Mirrors (after_said_by true (Erp byte) x) (after_said_by false (Erp byte) y) tx ty
  step_erp byte l = record {
    shapes = m.shapes;
    users = m.users;
    here = m.here;
    there = fall_behind (is_echo_of byte);
    mine = m.mine;
    theirs = (matches_erp byte (y.owing false) (x.owing true) m.theirs l.tally).1;
  }

  -- ---- ALL

  step_all : (link messages bits : ℕ) → Legal true (All link messages bits) x → Mirrors (after_said_by true (All link messages bits) x) (after_said_by false (All link messages bits) y) tx ty
  step_all link messages bits l = record { shapes = m.shapes; users = m.users; here = here; there = their; mine = m.mine; theirs = m.theirs }
    where
      at : LedAt x true link (λ u. ((x.counts u).messages + messages ≤ 65535) × ((x.counts u).bits + bits ≤ 65536))
      at = led_at x true link (λ u. ((x.counts u).messages + messages ≤ 65535) × ((x.counts u).bits + bits ≤ 65536)) sane l.tally

      used : y.users false link ≡ Some (at.by.1, at.by.0)
      used = user_there m true link at.by at.used

      here : (v : Sockets) → takes_by true v ≡ true
          → FacesOn (v.1, v.0) (count_put x.counts (x.users true link) (counted_on messages bits) v) (count_put y.counts (y.users false link) (counted_on messages bits) (v.1, v.0)) (y.owing true) (link_between v (x.shapes v)) ty
      here v t =
          put_both x.counts y.counts (x.users true link) (y.users false link) (counted_on messages bits) (counted_on messages bits) at.by v
          (λ r s. FacesOn (v.1, v.0) r s (y.owing true) (link_between v (x.shapes v)) ty) at.used used (λ e. faces_grant messages bits (m.here v t)) (λ e. m.here v t)

      their : (v : Sockets) → takes_by false v ≡ true
          → FacesOn v (count_put y.counts (y.users false link) (counted_on messages bits) (v.1, v.0)) (count_put x.counts (x.users true link) (counted_on messages bits) v) (x.owing true) (link_between v (x.shapes v)) tx
      their v t =
          put_both x.counts y.counts (x.users true link) (y.users false link) (counted_on messages bits) (counted_on messages bits) at.by v
          (λ s r. FacesOn v r s (x.owing true) (link_between v (x.shapes v)) tx) at.used used (λ e. absurd (let nay : true ≡ false = sym e ∙ apart true at.by v at.takes t in cc nay)) (λ e. m.there v t)

  -- ---- GVB

  step_gvb : (link fm fb : ℕ) → Legal true (Gvb link fm fb) x → Mirrors (after_said_by true (Gvb link fm fb) x) (after_said_by false (Gvb link fm fb) y) tx ty
  step_gvb link fm fb l = record {
    shapes = m.shapes;
    users = m.users;
    here = here;
    there = their;
    mine = matches_append (x.owing false) (y.owing true) (return_asked true link fm fb x.shapes x.counts (x.users true link)) asked m.mine (asked_matches (x.users true link) (y.users false link) at.used used);
    theirs = m.theirs;
  }
    where
      at : LedAt x true link (λ u. (x.counts u).recall ≡ false)
      at = led_at x true link (λ u. (x.counts u).recall ≡ false) sane l.tally

      used : y.users false link ≡ Some (at.by.1, at.by.0)
      used = user_there m true link at.by at.used

      asked : List Owing
      asked = return_asked false link fm fb y.shapes y.counts (y.users false link)

      same_left : left_by false (x.shapes at.by) ≡ left_by true (y.shapes (at.by.1, at.by.0))
      same_left = ap (left_by false) (m.shapes at.by) ∙ left_faces false (y.shapes (at.by.1, at.by.0))

      asked_matches : (ox oy : Option Sockets) → ox ≡ Some at.by → oy ≡ Some (at.by.1, at.by.0) → MatchesOwed (return_asked true link fm fb x.shapes x.counts ox) (return_asked false link fm fb y.shapes y.counts oy)
      asked_matches ox oy e f =
          subst (λ (o : Option Sockets). MatchesOwed (return_asked true link fm fb x.shapes x.counts o) (return_asked false link fm fb y.shapes y.counts oy)) (sym e)
          (subst (λ (o : Option Sockets). MatchesOwed (return_asked true link fm fb x.shapes x.counts (Some at.by)) (return_asked false link fm fb y.shapes y.counts o)) (sym f)
          (go (left_by false (x.shapes at.by)) (left_by true (y.shapes (at.by.1, at.by.0))) same_left))
        where
          go : (b c : Bool) → b ≡ c → MatchesOwed (if b then [] else Owing.Returning at.by link (part_returned (x.counts at.by).messages fm) (part_returned (x.counts at.by).bits fb) ∷ [])
              (if c then [] else Owing.Returning (at.by.1, at.by.0) link (part_returned (y.counts (at.by.1, at.by.0)).messages fm) (part_returned (y.counts (at.by.1, at.by.0)).bits fb) ∷ [])
          go true true k = tt
          go true false k = absurd (cc k)
          go false true k = absurd (cc k)
          go false false k =
              let faces = m.here at.by at.takes in
              let a = faces.messages in
              let b = faces.bits in
              let less : (y.counts (at.by.1, at.by.0)).messages ≤ (x.counts at.by).messages = omega (arith, a) in
              let less_bits : (y.counts (at.by.1, at.by.0)).bits ≤ (x.counts at.by).bits = omega (arith, b) in
              inl ((refl, refl, part_monotone (y.counts (at.by.1, at.by.0)).messages (x.counts at.by).messages fm less, part_monotone (y.counts (at.by.1, at.by.0)).bits (x.counts at.by).bits fb less_bits), tt)

      here : (v : Sockets) → takes_by true v ≡ true
          → FacesOn (v.1, v.0) (count_put x.counts (x.users true link) (recalled_by true fm fb) v) (count_put y.counts (y.users false link) (recalled_by false fm fb) (v.1, v.0)) (y.owing true ++ asked) (link_between v (x.shapes v)) ty
      here v t =
          put_both x.counts y.counts (x.users true link) (y.users false link) (recalled_by true fm fb) (recalled_by false fm fb) at.by v
          (λ r s. FacesOn (v.1, v.0) r s (y.owing true ++ asked) (link_between v (x.shapes v)) ty) at.used used it other
        where
          it : same v at.by ≡ true
              → FacesOn (v.1, v.0) (recalled_by true fm fb (x.counts v)) (recalled_by false fm fb (y.counts (v.1, v.0))) (y.owing true ++ asked) (link_between v (x.shapes v)) ty
          it e =
              let is : at.by ≡ v = sym (same_is v at.by e) in
              let calm : (y.counts (v.1, v.0)).recall ≡ false = sym (m.here v t).recall ∙ ap (λ (w : Sockets). (x.counts w).recall) (sym is) ∙ at.has in
              let none = owes_nothing true y.shapes y.users y.counts (v.1, v.0) (y.owing true) (λ r k. let nay : false ≡ true = sym calm ∙ r in cc nay) (there.owes true) in
              let more = asked_same false link fm fb y.shapes y.counts (y.users false link) (v.1, v.0) (used ∙ ap (λ (w : Sockets). Some (w.1, w.0)) is) in
              let a = owed_more_messages (v.1, v.0) (y.owing true) asked in
              let b = owed_more_bits (v.1, v.0) (y.owing true) asked in
              let c = none.messages in
              let d = none.bits in
              let f = more.messages_asked in
              let g = more.bits_asked in
              faces_recall (owed_messages (v.1, v.0) (y.owing true ++ asked)) (owed_bits (v.1, v.0) (y.owing true ++ asked)) fm fb c d (omega (arith, a, c, f)) (omega (arith, b, d, g)) (m.here v t)

          other : same v at.by ≡ false → FacesOn (v.1, v.0) (x.counts v) (y.counts (v.1, v.0)) (y.owing true ++ asked) (link_between v (x.shapes v)) ty
          other e =
              let none = asked_other false link fm fb y.shapes y.counts (y.users false link) (at.by.1, at.by.0) (v.1, v.0) used (swap at.by v e) in
              let less = owes_more (v.1, v.0) (y.owing true) asked none in
              faces_fall (owed_messages (v.1, v.0) (y.owing true ++ asked)) (owed_bits (v.1, v.0) (y.owing true ++ asked)) (messages_afloat (link_between v (x.shapes v)) ty) (bits_afloat (link_between v (x.shapes v)) ty)
              less.messages less.bits (omega arith) (omega arith) (m.here v t)
            where
              swap : (u v : Sockets) → same v u ≡ false → same (u.1, u.0) (v.1, v.0) ≡ false
              swap u v e = go (same (u.1, u.0) (v.1, v.0)) refl
                where
                  go : (b : Bool) → same (u.1, u.0) (v.1, v.0) ≡ b → same (u.1, u.0) (v.1, v.0) ≡ false
                  go false d = d
                  go true d =
                      let is : u ≡ v = same_is u v (sym (turned_same u v) ∙ d) in
                      let nay : true ≡ false = sym (sym (turned_same u v) ∙ d) ∙ ap (λ (w : Sockets). same w v) is ∙ sym (ap (λ (w : Sockets). same v w) is) ∙ e in absurd (cc nay)

      their : (v : Sockets) → takes_by false v ≡ true
          → FacesOn v (count_put y.counts (y.users false link) (recalled_by false fm fb) (v.1, v.0)) (count_put x.counts (x.users true link) (recalled_by true fm fb) v) (x.owing true) (link_between v (x.shapes v)) tx
      their v t =
          put_both x.counts y.counts (x.users true link) (y.users false link) (recalled_by true fm fb) (recalled_by false fm fb) at.by v
          (λ s r. FacesOn v r s (x.owing true) (link_between v (x.shapes v)) tx) at.used used (λ e. absurd (let nay : true ≡ false = sym e ∙ apart true at.by v at.takes t in cc nay)) (λ e. m.there v t)

  -- ---- RET

  step_ret : (link messages bits : ℕ) → Legal true (Ret link messages bits) x → Mirrors (after_said_by true (Ret link messages bits) x) (after_said_by false (Ret link messages bits) y) tx ty
  step_ret link messages bits l = record {
    shapes = m.shapes;
    users = m.users;
    here = here;
    there = their;
    mine = m.mine;
    theirs = (matches_ret link messages bits (x.counts at.by) (y.counts (at.by.1, at.by.0)) (y.owing false) (x.owing true)
        (one_on false y.shapes y.users y.counts link (at.by.1, at.by.0) used (y.owing false) (there.owes false)) m.theirs at.has.1 fits.0 fits.1).1;
  }
    where
      at : LedAt x false link (λ u. ((x.counts u).recall ≡ true) × NextOwed (is_returning_on link) (HasNumbers true messages bits (x.counts u)) (x.owing true))
      at = led_at x false link (λ u. ((x.counts u).recall ≡ true) × NextOwed (is_returning_on link) (HasNumbers true messages bits (x.counts u)) (x.owing true)) sane l.tally

      used : y.users true link ≡ Some (at.by.1, at.by.0)
      used = user_there m false link at.by at.used

      fits : (messages ≤ (y.counts (at.by.1, at.by.0)).messages) × (bits ≤ (y.counts (at.by.1, at.by.0)).bits)
      fits = ret_there m link messages bits sane at

      here : (v : Sockets) → takes_by true v ≡ true
          → FacesOn (v.1, v.0) (count_put x.counts (x.users false link) (returned_by true messages bits) v) (count_put y.counts (y.users true link) (returned_by false messages bits) (v.1, v.0)) (y.owing true) (link_between v (x.shapes v)) ty
      here v t =
          put_both x.counts y.counts (x.users false link) (y.users true link) (returned_by true messages bits) (returned_by false messages bits) at.by v
          (λ r s. FacesOn (v.1, v.0) r s (y.owing true) (link_between v (x.shapes v)) ty) at.used used (λ e. absurd (let nay : true ≡ false = sym e ∙ apart false at.by v at.takes t in cc nay)) (λ e. m.here v t)

      their : (v : Sockets) → takes_by false v ≡ true
          → FacesOn v (count_put y.counts (y.users true link) (returned_by false messages bits) (v.1, v.0)) (count_put x.counts (x.users false link) (returned_by true messages bits) v) (owed_after (is_returning_on link) (x.owing true)) (link_between v (x.shapes v)) tx
      their v t =
          put_both x.counts y.counts (x.users false link) (y.users true link) (returned_by true messages bits) (returned_by false messages bits) at.by v
          (λ s r. FacesOn v r s (owed_after (is_returning_on link) (x.owing true)) (link_between v (x.shapes v)) tx) at.used used it (λ e. fall_behind (is_returning_on link) v t)
        where
          it : same v at.by ≡ true
              → FacesOn v (returned_by false messages bits (y.counts (v.1, v.0))) (returned_by true messages bits (x.counts v)) (owed_after (is_returning_on link) (x.owing true)) (link_between v (x.shapes v)) tx
          it e =
              let is : at.by ≡ v = sym (same_is v at.by e) in
              let next = owed_next true x.shapes x.users x.counts link v (at.used ∙ ap (λ (w : Sockets). Some w) is) messages bits (x.counts at.by) (x.owing true) (sane.owes true) at.has.1 in
              faces_return (owed_messages v (owed_after (is_returning_on link) (x.owing true))) (owed_bits v (owed_after (is_returning_on link) (x.owing true))) messages bits next.0 next.1 (m.there v t)

  -- ---- a request of a receiver, and of a sender

  step_rts : (receive send link : ℕ) → Legal true (Rts receive send link) x → AllSending y ty → Mirrors (after_said_by true (Rts receive send link) x) (after_said_by false (Rts receive send link) y) tx ty
  step_rts receive send link l sends = record {
    shapes = put_shapes (receive, send) (Ask link);
    users = users;
    here = here;
    there = λ v t. subst (λ (o : Option ℕ). FacesOn v (y.counts (v.1, v.0)) (x.counts v) (x.owing true) o tx)
        (sym (link_put x.shapes (receive, send) now v (link_between v (x.shapes v)) (λ e. absurd (let nay : true ≡ false = sym e ∙ apart true (receive, send) v takes t in cc nay)) (λ e. refl))) (m.there v t);
    mine = m.mine;
    theirs = m.theirs;
  }
    where
      now : Option Shape
      now = own_step (Ask link) (x.shapes (receive, send))

      takes : takes_by true (receive, send) ≡ true
      takes = (and_parts (is_of_sexes receive send) (nat_le 2 link && nat_le link 71) l.right).0

      users : (s : Bool) (k : ℕ) → users_put x.users true link (receive, send) s k ≡ facing_user (users_put y.users false link (send, receive) (not s) k)
      users true k = go (k == link)
        where
          go : (b : Bool) → (if b then Some (receive, send) else x.users true k) ≡ facing_user (if b then Some (send, receive) else y.users false k)
          go true = refl
          go false = m.users true k
      users false k = m.users false k

      -- the other has no text out on a link that is free
      none : ty link ≡ None
      none = go (ty link) refl
        where
          go : (o : Option (ℕ × ℕ)) → ty link ≡ o → o ≡ None
          go None e = refl
          go (Some (size, bits)) e =
              let by = sends link size bits e in
              let nay : None ≡ facing_user (Some by.by) = sym l.tally ∙ m.users true link ∙ ap facing_user by.used in absurd (cc nay)

      here : (v : Sockets) → takes_by true v ≡ true → FacesOn (v.1, v.0) (x.counts v) (y.counts (v.1, v.0)) (y.owing true) (link_between v (put x.shapes (receive, send) now v)) ty
      here v t = go (same v (receive, send)) refl
        where
          go : (b : Bool) → same v (receive, send) ≡ b → FacesOn (v.1, v.0) (x.counts v) (y.counts (v.1, v.0)) (y.owing true) (link_between v (if b then now else x.shapes v)) ty
          go false e = m.here v t
          go true e =
              let text = none_text ty link (messages_afloat (link_between v (x.shapes v)) ty) (bits_afloat (link_between v (x.shapes v)) ty) none in
              subst (λ (o : Option ℕ). FacesOn (v.1, v.0) (x.counts v) (y.counts (v.1, v.0)) (y.owing true) o ty) (sym (link_receives v now t ∙ asks_own link (x.shapes (receive, send))))
              (faces_fall (owed_messages (v.1, v.0) (y.owing true)) (owed_bits (v.1, v.0) (y.owing true)) (messages_afloat (Some link) ty) (bits_afloat (Some link) ty) (omega arith) (omega arith) text.0 text.1 (m.here v t))

  step_str : (send receive size : ℕ) → Legal true (Str send receive size) x → Mirrors (after_said_by true (Str send receive size) x) (after_said_by false (Str send receive size) y) tx ty
  step_str send receive size l = record {
    shapes = put_shapes (send, receive) (Ask size);
    users = m.users;
    here = λ v t. subst (λ (o : Option ℕ). FacesOn (v.1, v.0) (x.counts v) (y.counts (v.1, v.0)) (y.owing true) o ty)
        (sym (link_put x.shapes (send, receive) now v (link_between v (x.shapes v)) (λ e. absurd (let nay : true ≡ false = sym e ∙ apart false (send, receive) v takes t in cc nay)) (λ e. refl))) (m.here v t);
    there = λ v t. subst (λ (o : Option ℕ). FacesOn v (y.counts (v.1, v.0)) (x.counts v) (x.owing true) o tx)
        (sym (link_put x.shapes (send, receive) now v (link_between v (x.shapes v))
        (λ e. link_sends v now t ∙ asks_others size (x.shapes (send, receive)) ∙ ap (λ (w : Sockets). number_by false (x.shapes w)) (sym (same_is v (send, receive) e)) ∙ sym (link_sends v (x.shapes v) t)) (λ e. refl))) (m.there v t);
    mine = m.mine;
    theirs = m.theirs;
  }
    where
      now : Option Shape
      now = own_step (Ask size) (x.shapes (send, receive))

      takes : takes_by false (send, receive) ≡ true
      takes = (and_parts (is_of_sexes receive send) (not (size == 0)) l.right).0

  -- ---- CLS

  step_cls : (my your : ℕ) → Legal true (Cls my your) x → Mirrors (after_said_by true (Cls my your) x) (after_said_by false (Cls my your) y) tx ty
  step_cls my your l = record {
    shapes = put_shapes u Leave;
    users = users over (left_by true (y.shapes (your, my))) same_over;
    here = here;
    there = their;
    mine = m.mine;
    theirs = matches_without u (y.owing false) (x.owing true) m.theirs;
  }
    where
      u : Sockets
      u = (my, your)

      over : Bool
      over = left_by false (x.shapes (my, your))

      now : Option Shape
      now = own_step Leave (x.shapes (my, your))

      same_over : over ≡ left_by true (y.shapes (your, my))
      same_over = ap (left_by false) (m.shapes (my, your)) ∙ left_faces false (y.shapes (your, my))

      users : (a b : Bool) → a ≡ b → (s : Bool) (k : ℕ) → users_after_cls a (my, your) x.users s k ≡ facing_user (users_after_cls b (your, my) y.users (not s) k)
      users true true e s k = ap (λ (o : Option Sockets). if is_user (my, your) o then None else o) (m.users s k) ∙ go (y.users (not s) k)
        where
          go : (o : Option Sockets) → (if is_user (my, your) (facing_user o) then None else facing_user o) ≡ facing_user (if is_user (your, my) o then None else o)
          go None = refl
          go (Some w) = ap (λ (b : Bool). if b then None else Some (w.1, w.0)) (same_turned w (my, your)) ∙ by (same w (your, my))
            where
              by : (b : Bool) → (if b then None else Some (w.1, w.0)) ≡ facing_user (if b then None else Some w)
              by true = refl
              by false = refl
      users true false e s k = absurd (cc e)
      users false true e s k = absurd (cc e)
      users false false e s k = m.users s k

      -- its link

      none_link : (v : Sockets) → over ≡ true → same v u ≡ true → link_between v (put x.shapes u now v) ≡ None
      none_link v o e = ap (λ (b : Bool). link_between v (if b then now else x.shapes v)) e ∙ ap (link_between v) (left_over (x.shapes u) o)

      same_link : (v : Sockets) → (over ≡ true → same v u ≡ true → ⊥) → link_between v (put x.shapes u now v) ≡ link_between v (x.shapes v)
      same_link v k = link_put x.shapes u now v (link_between v (x.shapes v)) (λ e. left_link (is_senders v.0) (x.shapes u) (unover e over refl) ∙ ap (λ (w : Sockets). link_between v (x.shapes w)) (sym (same_is v u e))) (λ e. refl)
        where
          unover : same v u ≡ true → (b : Bool) → over ≡ b → over ≡ false
          unover e true o = absurd (k o e)
          unover e false o = o

      here : (v : Sockets) → takes_by true v ≡ true
          → FacesOn (v.1, v.0) (counts_after_cls over u x.counts v) (counts_after_cls (left_by true (y.shapes (your, my))) (your, my) y.counts (v.1, v.0)) (y.owing true) (link_between v (put x.shapes u now v)) ty
      here v t =
          over_both x.counts y.counts over (left_by true (y.shapes (your, my))) over u v (λ r s. FacesOn (v.1, v.0) r s (y.owing true) (link_between v (put x.shapes u now v)) ty) refl (sym same_over) ended
          (λ k. subst (λ (o : Option ℕ). FacesOn (v.1, v.0) (x.counts v) (y.counts (v.1, v.0)) (y.owing true) o ty) (sym (same_link v k)) (m.here v t))
        where
          ended : over ≡ true → same v u ≡ true → FacesOn (v.1, v.0) no_count no_count (y.owing true) (link_between v (put x.shapes u now v)) ty
          ended o e =
              let left : left_by true (y.shapes (v.1, v.0)) ≡ true = ap (λ (w : Sockets). left_by true (y.shapes (w.1, w.0))) (same_is v u e) ∙ sym same_over ∙ o in
              let none = owes_nothing true y.shapes y.users y.counts (v.1, v.0) (y.owing true) (λ r k. let nay : true ≡ false = sym left ∙ k in cc nay) (there.owes true) in
              let a = none.messages in
              let b = none.bits in
              subst (λ (z : Option ℕ). FacesOn (v.1, v.0) no_count no_count (y.owing true) z ty) (sym (none_link v o e)) (record { messages = omega (arith, a); bits = omega (arith, b); recall = refl })

      their : (v : Sockets) → takes_by false v ≡ true
          → FacesOn v (counts_after_cls (left_by true (y.shapes (your, my))) (your, my) y.counts (v.1, v.0)) (counts_after_cls over u x.counts v) (owing_without u (x.owing true)) (link_between v (put x.shapes u now v)) tx
      their v t =
          over_both x.counts y.counts over (left_by true (y.shapes (your, my))) over u v (λ s r. FacesOn v r s (owing_without u (x.owing true)) (link_between v (put x.shapes u now v)) tx) refl (sym same_over) ended other
        where
          ended : over ≡ true → same v u ≡ true → FacesOn v no_count no_count (owing_without u (x.owing true)) (link_between v (put x.shapes u now v)) tx
          ended o e =
              let none = without_owes_none u (x.owing true) in
              let a = none.messages in
              let b = none.bits in
              subst (λ (z : Option ℕ). FacesOn v no_count no_count (owing_without u (x.owing true)) z tx) (sym (none_link v o e))
              (subst (λ (w : Sockets). Faces no_count no_count (owed_messages w (owing_without u (x.owing true))) (owed_bits w (owing_without u (x.owing true))) 0 0) (sym (same_is v u e)) (record { messages = omega (arith, a); bits = omega (arith, b); recall = refl }))

          other : (over ≡ true → same v u ≡ true → ⊥) → FacesOn v (y.counts (v.1, v.0)) (x.counts v) (owing_without u (x.owing true)) (link_between v (put x.shapes u now v)) tx
          other k =
              let less = without_owes_less v u (x.owing true) in
              subst (λ (o : Option ℕ). FacesOn v (y.counts (v.1, v.0)) (x.counts v) (owing_without u (x.owing true)) o tx) (sym (same_link v k))
              (faces_fall (owed_messages v (owing_without u (x.owing true))) (owed_bits v (owing_without u (x.owing true))) (messages_afloat (link_between v (x.shapes v)) tx) (bits_afloat (link_between v (x.shapes v)) tx)
              less.messages less.bits (omega arith) (omega arith) (m.there v t))

  -- ---- each command

  pub step_faces : (c : Command) → Legal true c x → AllSending y ty → Mirrors (after_said_by true c x) (after_said_by false c y) tx ty
  step_faces (Rts receive send link) l sends = step_rts receive send link l sends
  step_faces (Str send receive size) l sends = step_str send receive size l
  step_faces (Cls my your) l sends = step_cls my your l
  step_faces (Eco byte) l sends = step_eco byte
  step_faces (Erp byte) l sends = step_erp byte l
  step_faces (Err code bytes) l sends = absurd l.tally
  step_faces Nop l sends = m
  step_faces (All link messages bits) l sends = step_all link messages bits l
  step_faces (Gvb link fm fb) l sends = step_gvb link fm fb l
  step_faces (Ret link messages bits) l sends = step_ret link messages bits l
  step_faces (Inr link) l sends = m
  step_faces (Ins link) l sends = m
  step_faces Rst l sends = m
  step_faces Rrp l sends = m
