-- A text of the other, on a link that does not lead to an open connection as it is seen: what is counted of each connection stays
-- what the host has, and the replies that are due stay those that wait.
use Rattle.std.proofs.Common.{◌≡◌, ℕ, ◌==◌, Bool, true, false, not, ◌&&◌, ◌||◌, if◌then◌else◌, List, [], ◌∷◌, ◌++◌, map, length, Option, None, Some, ◌⊎◌, inl, inr, refl, sym, ap, ◌∙◌, subst}
use Rattle.std.specs.Prelude.{◌-◌, nat_lt}
use Rattle.std.specs.FinMap.{get}
use Rattle.std.specs.List.{filter, position}
use Rattle.std.proofs.lemmas.Bool.{and_parts}
use Rattle.std.proofs.lemmas.List.Elements.{filter-append}
use Rattle.ncp_leader.specs.Message.{Message}
use Rattle.ncp_wire.specs.declared.command.Command.{Command}
use Rattle.ncp_model.specs.declared.pair.Pair.{Pair}
use Rattle.ncp_model.specs.declared.outcomes.Took.{Took}
use Rattle.ncp_model.specs.Pairs.{sends, receives, is_receive, is_send}
use Rattle.ncp_model.specs.Endpoint.{Endpoint, is_closing, is_ended}
use Rattle.ncp_model.specs.Effect.{Effect, Stays, Becomes, answer, text_error}
use Rattle.ncp_model.specs.Texts.{hear_text, text_at, made_by_text}
use Rattle.ncp_model.specs.Ends.{Ends, receiver_on, pair_of, end_of, text_in, map_after_at}
use Rattle.ncp_model.specs.Demux.{passes}
use Rattle.ncp_proof_endpoint.specs.Sound.{SoundAt}
use Rattle.ncp_proof_machine.proofs.EndsGood.{EndsInvariant}
use Rattle.ncp_monitor.specs.declared.conn_state.ConnState.{ConnState}
use Rattle.ncp_monitor.specs.declared.conn_state.FactKind.{FactKind}
use Rattle.ncp_monitor.specs.ConnStates.{SeenTables, is_of_sockets, has_link, conn_at_index, is_marked, put_conn}
use Rattle.ncp_interface.specs.Sockets.{is_senders}
use Rattle.ncp_monitor.specs.Texts.{conn_came_at, after_text_came}
use Rattle.ncp_monitor.proofs.Shapes.{Shape}
use Rattle.ncp_monitor.proofs.LinkOrder.{Sockets, same, same_is}
use Rattle.ncp_monitor.proofs.Firsts.{first}
use Rattle.ncp_monitor.proofs.Seeing.{seen}
use Rattle.ncp_proof_monitor_allocation.proofs.KeptEnds.{kept, number_if}
use Rattle.ncp_proof_monitor_allocation.proofs.OwnMoves.{sockets_of, no_sender}
use Rattle.ncp_proof_monitor_allocation.proofs.Changed.{pair_at, kept_of, OneEnd, unlike}
use Rattle.ncp_proof_monitor_allocation.proofs.SeenTables.{conn_seen, seen_of, is_suspended, suspended_of, receives_at}
use Rattle.ncp_proof_monitor_allocation.proofs.Refusals.{receives_same}
use Rattle.ncp_proof_monitor_allocation.proofs.LinkPlaces.{HasUser, AllUnique, user_found, renumbered_here, renumbered_others}
use Rattle.ncp_proof_monitor_allocation.proofs.Plain.{Plain}
use Rattle.ncp_proof_monitor_allocation.proofs.TextErrors.{is_text_error, AllAdmitted, admitted_more, admitted_wider}
use Rattle.ncp_proof_monitor_allocation.proofs.Words.{Count, count_of, link_given, NoneCounted, Agreed, Fits, agreed_wider, fits_wider, LinkHidden, hidden_wider, link_hidden_wider}
use Rattle.ncp_proof_monitor_allocation.proofs.Counted.{is_worded, command_of, words_about, links_by, AgreedAt, HiddenAt, Counted, PairsAgree, agreed_at}
use Rattle.ncp_proof_monitor_replies.specs.Owed.{Gives}
use Rattle.ncp_proof_monitor_replies.proofs.OwedItems.{is_open_sender, OwedBy}
use Rattle.ncp_proof_monitor_replies.proofs.OwedSteps.{owed_more, owed_moves}
use Rattle.ncp_proof_monitor_allocation.proofs.LinksHeard.{text_late, text_unopened, text_at_it}
use Rattle.ncp_proof_monitor_allocation.proofs.LinksReach.{led_receiver}
use Rattle.ncp_proof_monitor_allocation.proofs.LinksOpen.{after_text}
use Rattle.ncp_proof_monitor_allocation.proofs.LinksDid.{SameFacts}
use Rattle.ncp_proof_monitor_allocation.proofs.LinksCome.{Wider}
use Rattle.ncp_proof_monitor_replies.proofs.TheirLinks.{nil}

-- ---- what the host does with it

abbrev pub text_ends : Ends → ℕ → Message → Ends
text_ends m on message = map_after_at m (pair_of (receiver_on on m)) (text_in on message.size message.text m)

abbrev pub text_made : Ends → ℕ → List Bool → Message → List Command
text_made m on head message = made_by_text head message.text (answer (text_in on message.size message.text m))

pub data TextDid (m : Ends) (on : ℕ) (head : List Bool) (message : Message) : Type 0 where
  TextStayed : text_ends m on message ≡ m → (text_made m on head message ≡ []) ⊎ (text_made m on head message ≡ text_error head message.text ∷ []) → TextDid m on head message
  TextChanged : (p : Pair × Endpoint) → receiver_on on m ≡ Some p → (then_end : Endpoint) → SameFacts p.1 then_end → OneEnd m (text_ends m on message) p.0 (Some then_end) → text_made m on head message ≡ [] → TextDid m on head message

pub stays_so : (m : Ends) (o : Option Pair) (a : Took) → map_after_at m o (Stays a) ≡ m
stays_so m None a = refl
stays_so m (Some p) a = refl

pub text_did : (m : Ends) → EndsInvariant m → (on : ℕ) (head : List Bool) (message : Message) → TextDid m on head message
text_did m good on head message = by (receiver_on on m) refl
  where
    act : Option (Pair × Endpoint) → Effect Took
    act o = hear_text message.size message.text (end_of o)

    stayed : (o : Option (Pair × Endpoint)) → receiver_on on m ≡ o → (a : Took) → act o ≡ Stays a → (made_by_text head message.text a ≡ []) ⊎ (made_by_text head message.text a ≡ text_error head message.text ∷ []) → TextDid m on head message
    stayed o f a k q =
        let is : text_in on message.size message.text m ≡ Stays a = ap act f ∙ k in
        TextStayed (ap (map_after_at m (pair_of (receiver_on on m))) is ∙ stays_so m (pair_of (receiver_on on m)) a) (made q (ap (λ (x : Effect Took). made_by_text head message.text (answer x)) is))
      where
        made : (made_by_text head message.text a ≡ []) ⊎ (made_by_text head message.text a ≡ text_error head message.text ∷ []) → text_made m on head message ≡ made_by_text head message.text a
            → (text_made m on head message ≡ []) ⊎ (text_made m on head message ≡ text_error head message.text ∷ [])
        made (inl q) e = inl (e ∙ q)
        made (inr q) e = inr (e ∙ q)

    at_open : (p : Pair × Endpoint) → receiver_on on m ≡ Some p → is_closing p.1 ≡ false → p.1.opened ≡ true → (x y : Bool)
        → text_at message.size message.text p.1
        ≡ (if not x then Stays Took.WrongSize else if y then Stays Took.Over else Becomes (record p.1 { messages = p.1.messages - 1; bits = p.1.bits - length message.text; stored = p.1.stored ++ message.text }) Took.Admitted)
        → TextDid m on head message
    at_open p f g o false y k = stayed (Some p) f Took.WrongSize (text_at_it message.size message.text p.1 g o ∙ k) (inl refl)
    at_open p f g o true true k = stayed (Some p) f Took.Over (text_at_it message.size message.text p.1 g o ∙ k) (inl refl)
    at_open p f g o true false k =
        let then_end : Endpoint = record p.1 { messages = p.1.messages - 1; bits = p.1.bits - length message.text; stored = p.1.stored ++ message.text } in
        let there = (led_receiver m on p.0 p.1 f).there in
        let sound : is_ended p.1 ≡ false = (subst (SoundAt p.0) there (good.sound p.0)).over in
        let a = after_text m on head message p.0 p.1 (Becomes then_end Took.Admitted) (Some then_end) [] f there (text_at_it message.size message.text p.1 g o ∙ k) (ap (λ (x : Bool). if x then None else Some then_end) sound) refl in
        TextChanged p f then_end (record { asked = refl; heard = refl; going = refl; over = refl; its_link = refl }) a.one a.made

    by : (o : Option (Pair × Endpoint)) → receiver_on on m ≡ o → TextDid m on head message
    by None f = stayed None f Took.NotOpen refl (inr refl)
    by (Some p) f = go (is_closing p.1) refl p.1.opened refl
      where
        go : (x : Bool) → is_closing p.1 ≡ x → (y : Bool) → p.1.opened ≡ y → TextDid m on head message
        go true g y o = stayed (Some p) f Took.Late (text_late message.size message.text p.1 g) (inl refl)
        go false g false o = stayed (Some p) f Took.NotOpen (text_unopened message.size message.text p.1 g o) (inr refl)
        go false g true o = at_open p f g o (message.size == p.1.size) (p.1.messages == 0 || nat_lt p.1.bits (length message.text)) refl

-- ---- the same shapes and counts are seen

pub record SameAt (me n : ℕ) (b after : SeenTables) (v : Sockets) : Type 0 where
  pub seen : seen_of me n after v ≡ seen_of me n b v
  pub count : count_of (conn_seen me n after v) ≡ count_of (conn_seen me n b v)
  pub suspended : suspended_of me n after v ≡ suspended_of me n b v

pub same_conns_at : (me n : ℕ) (b after : SeenTables) → after.conns ≡ b.conns → (v : Sockets) → SameAt me n b after v
same_conns_at me n b after k v =
    let is : conn_seen me n after v ≡ conn_seen me n b v = ap (λ (xs : List ConnState). first (is_of_sockets me n v.0 v.1) xs) k in
    record { seen = ap seen is; count = ap count_of is; suspended = ap is_suspended is }

pub then_at : (me n : ℕ) (a b d : SeenTables) (v : Sockets) → SameAt me n a b v → SameAt me n b d v → SameAt me n a d v
then_at me n a b d v j k = record { seen = k.seen ∙ j.seen; count = k.count ∙ j.count; suspended = k.suspended ∙ j.suspended }

-- a text is seen to have come
pub came_at : (me n : ℕ) (on : ℕ) (b : SeenTables) → AllUnique me n b → (v : Sockets) → SameAt me n b (after_text_came (record { at = me; peer = n; sent = false }) on b) v
came_at me n on b unique v = by (position (has_link me n true on) b.conns) refl
  where
    itself : SameAt me n b b v
    itself = record { seen = refl; count = refl; suspended = refl }

    by : (o : Option ℕ) → position (has_link me n true on) b.conns ≡ o → SameAt me n b (conn_came_at b o) v
    by None e = itself
    by (Some place) e = go (conn_at_index b.conns place).peer_left
      where
        conn : ConnState
        conn = conn_at_index b.conns place

        came : SameAt me n b (put_conn b (Some place) (record conn { came = true })) v
        came = at (user_found me n true on b unique place e)
          where
            at : HasUser me n true on b place → SameAt me n b (put_conn b (Some place) (record conn { came = true })) v
            at it =
                subst (λ (i : ℕ). SameAt me n b (put_conn b (Some i) (record (conn_at_index b.conns i) { came = true })) v) it.there
                (here (same v it.u) refl)
              where
                old : ConnState
                old = conn_at_index b.conns it.user.place

                now : SeenTables
                now = put_conn b (Some it.user.place) (record old { came = true })

                here : (x : Bool) → same v it.u ≡ x → SameAt me n b now v
                here true s =
                    subst (λ (y : Sockets). SameAt me n b now y) (sym (same_is v it.u s))
                    (let k = renumbered_here me n true on b it.u it.user old.messages old.bits old.recall true unique in
                    record { seen = ap seen k ∙ sym (ap seen it.user.seen); count = ap count_of k ∙ sym (ap count_of it.user.seen); suspended = ap is_suspended k ∙ sym (ap is_suspended it.user.seen) })
                here false s =
                    let k = renumbered_others me n true on b it.u it.user old.messages old.bits old.recall true v s in
                    record { seen = ap seen k; count = ap count_of k; suspended = ap is_suspended k }

        go : (x : Bool) → SameAt me n b (if x then b else put_conn b (Some place) (record conn { came = true })) v
        go true = itself
        go false = came

pub came_facts : (me n : ℕ) (on : ℕ) (b : SeenTables) → ((after_text_came (record { at = me; peer = n; sent = false }) on b).known_facts ≡ b.known_facts) × ((after_text_came (record { at = me; peer = n; sent = false }) on b).pending_replies ≡ b.pending_replies)
came_facts me n on b = by (position (has_link me n true on) b.conns)
  where
    by : (o : Option ℕ) → ((conn_came_at b o).known_facts ≡ b.known_facts) × ((conn_came_at b o).pending_replies ≡ b.pending_replies)
    by None = (refl, refl)
    by (Some place) = go (conn_at_index b.conns place).peer_left
      where
        go : (x : Bool) → ((if x then b else put_conn b (Some place) (record (conn_at_index b.conns place) { came = true })).known_facts ≡ b.known_facts) × ((if x then b else put_conn b (Some place) (record (conn_at_index b.conns place) { came = true })).pending_replies ≡ b.pending_replies)
        go true = (refl, refl)
        go false = (refl, refl)

-- ---- what is counted

module _ (me n : ℕ) (m now : Ends) (w made : List Command) (b after : SeenTables) (unworded : filter is_worded made ≡ []) (alike : (v : Sockets) → SameAt me n b after v) (wider : Wider me n b after) (c : Counted me n m w b) (plain : Plain me n after) (admits : AllAdmitted me n made after) where
  wide : (u : Sockets) → suspended_of me n after u ≡ false → AgreedAt me n after (get m (pair_at u)) (words_about u c.words) u
  wide u r =
      subst (λ (x : Option Shape). Agreed (is_senders u.0) (links_by me n after (receives_at u)) (Fits (is_senders u.0) (links_by me n after (receives_at u)) (get m (pair_at u))) (words_about u c.words) x (count_of (conn_seen me n after u))) (sym (alike u).seen)
      (subst (λ (x : Count). Agreed (is_senders u.0) (links_by me n after (receives_at u)) (Fits (is_senders u.0) (links_by me n after (receives_at u)) (get m (pair_at u))) (words_about u c.words) (seen_of me n b u) x) (sym (alike u).count)
      (agreed_wider (is_senders u.0) (links_by me n b (receives_at u)) (links_by me n after (receives_at u)) (Fits (is_senders u.0) (links_by me n b (receives_at u)) (get m (pair_at u)))
      (Fits (is_senders u.0) (links_by me n after (receives_at u)) (get m (pair_at u))) (words_about u c.words) (seen_of me n b u) (count_of (conn_seen me n b u)) (wider.links (receives_at u))
      (λ x j f. fits_wider (is_senders u.0) (links_by me n b (receives_at u)) (links_by me n after (receives_at u)) (get m (pair_at u)) x j (wider.links (receives_at u)) f)
      (c.agreed u (sym (alike u).suspended ∙ r))))

  wide_hidden : (u : Sockets) → suspended_of me n after u ≡ true → HiddenAt me n after (get m (pair_at u)) (words_about u c.words) u
  wide_hidden u r =
      hidden_wider (is_senders u.0) (links_by me n b (receives_at u)) (links_by me n after (receives_at u)) (LinkHidden (get m (pair_at u)) (is_senders u.0)) (LinkHidden (get m (pair_at u)) (is_senders u.0)) (words_about u c.words)
      (wider.links (receives_at u)) (λ x y f h. link_hidden_wider (get m (pair_at u)) (is_senders u.0) x y f h) (c.hidden u (sym (alike u).suspended ∙ r))

  spelled_same : filter is_worded (w ++ made) ≡ map command_of c.words
  spelled_same = filter-append is_worded w made ∙ ap (λ (x : List Command). filter is_worded w ++ x) unworded ∙ nil (filter is_worded w) ∙ c.spelled

  all_admitted : AllAdmitted me n (w ++ made) after
  all_admitted = admitted_more me n w made after (admitted_wider me n w b after wider.admits c.admitted) admits

  pub alike_still : now ≡ m → Counted me n now (w ++ made) after
  alike_still k = record {
    words = c.words;
    spelled = spelled_same;
    agreed = λ u r. subst (λ (x : Ends). AgreedAt me n after (get x (pair_at u)) (words_about u c.words) u) (sym k) (wide u r);
    hidden = λ u r. subst (λ (x : Ends). HiddenAt me n after (get x (pair_at u)) (words_about u c.words) u) (sym k) (wide_hidden u r);
    plain = plain;
    admitted = all_admitted;
  }

  pub alike_step : (p : Sockets) (o : Option Endpoint) → OneEnd m now (pair_at p) o → (suspended_of me n after p ≡ false → AgreedAt me n after o (words_about p c.words) p) → (suspended_of me n after p ≡ true → HiddenAt me n after o (words_about p c.words) p) → Counted me n now (w ++ made) after
  alike_step p o one here hides = record {
    words = c.words;
    spelled = spelled_same;
    agreed = λ u r. agrees u r (same u p) refl;
    hidden = λ u r. hidden_at u r (same u p) refl;
    plain = plain;
    admitted = all_admitted;
  }
    where
      agrees : (u : Sockets) → suspended_of me n after u ≡ false → (s : Bool) → same u p ≡ s → AgreedAt me n after (get now (pair_at u)) (words_about u c.words) u
      agrees u r true s =
          subst (λ (v : Sockets). AgreedAt me n after (get now (pair_at v)) (words_about v c.words) v) (sym (same_is u p s))
          (subst (λ (x : Option Endpoint). AgreedAt me n after x (words_about p c.words) p) (sym one.there) (here (ap (suspended_of me n after) (sym (same_is u p s)) ∙ r)))
      agrees u r false s = subst (λ (x : Option Endpoint). AgreedAt me n after x (words_about u c.words) u) (sym (one.elsewhere (pair_at u) (unlike u p s))) (wide u r)

      hidden_at : (u : Sockets) → suspended_of me n after u ≡ true → (s : Bool) → same u p ≡ s → HiddenAt me n after (get now (pair_at u)) (words_about u c.words) u
      hidden_at u r true s =
          subst (λ (v : Sockets). HiddenAt me n after (get now (pair_at v)) (words_about v c.words) v) (sym (same_is u p s))
          (subst (λ (x : Option Endpoint). HiddenAt me n after x (words_about p c.words) p) (sym one.there) (hides (ap (suspended_of me n after) (sym (same_is u p s)) ∙ r)))
      hidden_at u r false s = subst (λ (x : Option Endpoint). HiddenAt me n after x (words_about u c.words) u) (sym (one.elsewhere (pair_at u) (unlike u p s))) (wide_hidden u r)

-- ---- the link is suspended: any effect of the text at the host

module _ (me n : ℕ) (m : Ends) (w : List Command) (b after : SeenTables) (alike : (v : Sockets) → SameAt me n b after v) (wider : Wider me n b after) (pairs : PairsAgree me n m w b) (c : Counted me n m w b) (plain : Plain me n after) (on : ℕ) (head : List Bool) (message : Message) (admitted : AllAdmitted me n (text_error head message.text ∷ []) after) where
  made_so : (text_made m on head message ≡ []) ⊎ (text_made m on head message ≡ text_error head message.text ∷ []) → (filter is_worded (text_made m on head message) ≡ []) × AllAdmitted me n (text_made m on head message) after
  made_so (inl e) = (ap (filter is_worded) e, subst (λ (x : List Command). AllAdmitted me n x after) (sym e) tt)
  made_so (inr e) = (ap (filter is_worded) e, subst (λ (x : List Command). AllAdmitted me n x after) (sym e) admitted)

  pub text_still : text_ends m on message ≡ m → (text_made m on head message ≡ []) ⊎ (text_made m on head message ≡ text_error head message.text ∷ []) → Counted me n (text_ends m on message) (w ++ text_made m on head message) after
  text_still k q = let is = made_so q in alike_still me n m (text_ends m on message) w (text_made m on head message) b after is.0 alike wider c plain is.1 k

  pub text_suspended_counted : is_marked me n (FactKind.LinkSuspended true on) after ≡ true → TextDid m on head message → Counted me n (text_ends m on message) (w ++ text_made m on head message) after
  text_suspended_counted marked (TextStayed k q) = text_still k q
  text_suspended_counted marked (TextChanged p f then_end known_facts one made) =
      let is = made_so (inl made) in
      alike_step me n m (text_ends m on message) w (text_made m on head message) b after is.0 alike wider c plain is.1 u (Some then_end) one here hides
    where
      u : Sockets
      u = sockets_of p.0

      l_there : get m p.0 ≡ Some p.1
      l_there = (led_receiver m on p.0 p.1 f).there

      asked : p.1.asked ≡ true
      asked = (led_receiver m on p.0 p.1 f).marked

      link : p.1.link ≡ on
      link = (led_receiver m on p.0 p.1 f).its_link

      receiver : receives p.0 ≡ true
      receiver = (led_receiver m on p.0 p.1 f).sex

      sex : is_senders p.0.local ≡ false
      sex = unnot (is_senders p.0.local) (sym (receives_same p.0.local) ∙ (and_parts (is_receive p.0.local) (is_send p.0.remote) receiver).0)
        where
          unnot : (z : Bool) → not z ≡ true → z ≡ false
          unnot true e = absurd (cc e)
          unnot false e = refl

      links : ℕ → Bool
      links = links_by me n after (receives_at u)

      suspended : links on ≡ true
      suspended = ap (λ (z : Bool). is_marked me n (FactKind.LinkSuspended (not z) on) after) sex ∙ marked

      kept_given : (s : Option Shape) → s ≡ kept_of m u → link_given false s ≡ Some on
      kept_given s k =
          ap (link_given false) (k ∙ ap (kept (sends p.0)) l_there ∙ ap (λ (z : Bool). kept z (Some p.1)) (no_sender p.0 receiver))
          ∙ ap (λ (h : Bool). number_if h p.1.link) asked ∙ ap (λ (l : ℕ). Some l) link

      none : (s : Option Shape) (j : Count) → s ≡ kept_of m u → Fits false links (Some then_end) s j
      none s j k e g h = record {
        given = λ l x r. let same_link : on ≡ l = cc (sym (kept_given s k) ∙ x) in let nay : true ≡ false = sym suspended ∙ ap links same_link ∙ r in absurd (cc nay);
        ungiven = λ x. absurd (cc (sym (kept_given s k) ∙ x));
      }

      here : suspended_of me n after u ≡ false → AgreedAt me n after (Some then_end) (words_about u c.words) u
      here r =
          subst (λ (x : Option Shape). Agreed (is_senders u.0) links (Fits (is_senders u.0) links (Some then_end)) (words_about u c.words) x (count_of (conn_seen me n after u))) (sym (alike u).seen)
          (subst (λ (x : Count). Agreed (is_senders u.0) links (Fits (is_senders u.0) links (Some then_end)) (words_about u c.words) (seen_of me n b u) x) (sym (alike u).count)
          (subst (λ (z : Bool). Agreed z links (Fits z links (Some then_end)) (words_about u c.words) (seen_of me n b u) (count_of (conn_seen me n b u))) (sym sex)
          (agreed_wider false (links_by me n b (receives_at u)) links (λ s j. (s ≡ kept_of m u) × (NoneCounted s j × Fits false (links_by me n b (receives_at u)) (get m (pair_at u)) s j)) (Fits false links (Some then_end)) (words_about u c.words) (seen_of me n b u)
          (count_of (conn_seen me n b u)) (wider.links (receives_at u)) (λ s j k. none s j k.0)
          (subst (λ (z : Bool). Agreed z (links_by me n b (receives_at u)) (λ s j. (s ≡ kept_of m u) × (NoneCounted s j × Fits z (links_by me n b (receives_at u)) (get m (pair_at u)) s j)) (words_about u c.words) (seen_of me n b u) (count_of (conn_seen me n b u))) sex
          (agreed_at me n m w b u (sym (alike u).suspended ∙ r) pairs c)))))

      still_hidden : (known : ℕ → Bool) → LinkHidden (Some p.1) (is_senders u.0) known → LinkHidden (Some then_end) (is_senders u.0) known
      still_hidden known h e g k l =
          let is : then_end ≡ e = cc g in
          ap known (ap (λ (x : Endpoint). x.link) (sym is) ∙ known_facts.its_link)
          ∙ h p.1 refl (sym known_facts.going ∙ ap is_closing is ∙ k) (ap (λ (z : Bool). if z then p.1.heard else p.1.asked) sex ∙ asked)

      hides : suspended_of me n after u ≡ true → HiddenAt me n after (Some then_end) (words_about u c.words) u
      hides r =
          hidden_wider (is_senders u.0) (links_by me n b (receives_at u)) links (LinkHidden (get m (pair_at u)) (is_senders u.0)) (LinkHidden (Some then_end) (is_senders u.0)) (words_about u c.words) (wider.links (receives_at u))
          (λ x y f h. link_hidden_wider (Some then_end) (is_senders u.0) x y f (still_hidden x (subst (λ (z : Option Endpoint). LinkHidden z (is_senders u.0) x) l_there h))) (c.hidden u (sym (alike u).suspended ∙ r))

-- ---- the replies that are due: none is made but an ERR about a text

pub text_moves : (me n : ℕ) (m : Ends) (on : ℕ) (head : List Bool) (message : Message) (w : List Command) (b : SeenTables) → is_text_error (text_error head message.text) ≡ true → TextDid m on head message → OwedBy me n m w b
    → OwedBy me n (text_ends m on message) (w ++ text_made m on head message) b
text_moves me n m on head message w b k (TextStayed e (inl q)) o =
    subst (λ (x : Ends). OwedBy me n x (w ++ text_made m on head message) b) (sym e) (subst (λ (x : List Command). OwedBy me n m x b) (sym (ap (λ (x : List Command). w ++ x) q ∙ nil w)) o)
text_moves me n m on head message w b k (TextStayed e (inr q)) o =
    subst (λ (x : Ends). OwedBy me n x (w ++ text_made m on head message) b) (sym e)
    (subst (λ (x : List Command). OwedBy me n m (w ++ x) b) (sym q)
    (owed_more me n m w (text_error head message.text ∷ []) b (ap (λ (x : Bool). (if x then [] else Gives (text_error head message.text) ∷ []) ++ []) k) o))
text_moves me n m on head message w b k (TextChanged p f then_end known_facts one made) o =
    subst (λ (x : List Command). OwedBy me n (text_ends m on message) x b) (sym (ap (λ (x : List Command). w ++ x) made ∙ nil w))
    (owed_moves me n m (text_ends m on message) p.0 (Some then_end) w b one (λ link r h. absurd (nay link h)) o)
  where
    silent : (link : ℕ) → is_open_sender link (p.0, then_end) ≡ false
    silent link = ap (λ (x : Bool). x && then_end.heard && (then_end.link == link) && not (is_closing then_end)) (no_sender p.0 (led_receiver m on p.0 p.1 f).sex)

    nay : (link : ℕ) → passes (is_open_sender link) p.0 (Some then_end) ≡ true → ⊥
    nay link h = cc (sym h ∙ silent link)
