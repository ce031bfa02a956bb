-- The steps of two monitors that store messages alike but for those in doubt.
use Rattle.std.proofs.Common.{◌≡◌, ◌⊎◌, inl, inr, ℕ, ◌==◌, Bool, true, false, not, ◌&&◌, ◌||◌, nat_lt, if◌then◌else◌, List, [], ◌∷◌, ◌++◌, length, Option, None, Some, is_some, option_map, option_to_list, position, Result, Ok, Err, refl, sym, ap, ◌∙◌, subst, arith}
use Rattle.ncp_leader.specs.declared.fault.MessageFault.{MessageFault}
use Rattle.ncp_leader.specs.Message.{Message, message_in}
use Rattle.ncp_monitor.specs.declared.finding.Finding.{Finding}
use Rattle.ncp_monitor.specs.declared.monitor.Monitor.{Monitor}
use Rattle.ncp_monitor.specs.declared.phase.MessageContext.{MessageContext}
use Rattle.ncp_interface.specs.declared.sent_message.LinkState.{LinkState}
use Rattle.ncp_interface.specs.declared.sent_message.SentMessage.{SentMessage}
use Rattle.ncp_interface.specs.declared.sent_messages.TheConstants.{MAX_KEPT}
use Rattle.ncp_monitor.specs.declared.view.View.{View}
use Rattle.ncp_monitor.specs.ConnStates.{SeenTables}
use Rattle.ncp_interface.specs.Slots.{is_unknown, is_of, makes_link_busy, same_bits, position_of, kept_at, kept_slot, same_at, busy_link_at, busy_link, gone_out, has_room, with_out, with_kept_slot, with_answered, is_slot_out, with_answer}
use Rattle.ncp_monitor.specs.Tables.{view_in, with_view}
use Rattle.ncp_monitor.specs.Messages.{judged_bits, rule_of_message}
use Rattle.ncp_interface.specs.Contents.{message_class}
use Rattle.ncp_monitor.specs.Phases.{broken_by}
use Rattle.ncp_monitor.specs.Talked.{observed_flow_of}
use Rattle.ncp_monitor.specs.Judged.{view_of, slot_of_link, same_of, knows_zero, by_host, out_rule, is_fresh, view_after_out, out_finding, fresh_out, monitor_after_out, monitor_after_answer, judges_coming, with_coming, after_in, turn_at, after_read, said_findings, after_said, message_findings}
use Rattle.ncp_interface.specs.Doubts.{awaits_repeat}
use Rattle.ncp_proof_monitor.proofs.Linked.{key}
use Rattle.ncp_proof_interface_resets.proofs.Near.{Near, NearAll, near_itself, near_unknown, agrees_of, agrees_busy, near_long, near_position, near_at, near_set, near_remove, near_append, near_left, found_is}
use Rattle.ncp_proof_interface_resets.proofs.Beside.{read_alike, tables_alike}

-- the same monitor with these messages; what is in doubt is not read
abbrev pub beside : Monitor → List SentMessage → List Bool → List Bool → Monitor
beside u ls c d = record u { kept = ls; unclear = c; in_doubt = d }

pub record Paced (me : ℕ) (c d : List Bool) (u t : Monitor) : Type 0 where
  pub kept : List SentMessage
  pub is : t ≡ beside u kept c d
  pub near : NearAll me u.kept kept

module _ (me : ℕ) (c d : List Bool) (U : Monitor) (ls : List SentMessage) (near : NearAll me U.kept ls) where
  abbrev ks : List SentMessage
  ks = U.kept

  abbrev T : Monitor
  T = beside U ls c d

  pub place : (from to link : ℕ) → position_of from to link ls ≡ position_of from to link ks
  place from to link = near_position me (is_of from to link) (agrees_of me from to link) ks ls near

  -- ---- what is read of them

  busy_alike : (at peer : ℕ) → busy_link at peer ls ≡ busy_link at peer ks
  busy_alike at peer = ap (busy_link_at ls) (near_position me (makes_link_busy at peer) (agrees_busy me at peer) ks ls near) ∙ by (position (makes_link_busy at peer) ks)
    where
      by : (o : Option ℕ) → busy_link_at ls o ≡ busy_link_at ks o
      by None = refl
      by (Some p) = ap (λ (n : ℕ). Some n) (near_at me ks ls near p).link

  unknown_alike : (known : Bool) (o : Option ℕ) → is_unknown (kept_slot known ls o) ≡ is_unknown (kept_slot known ks o)
  unknown_alike known None = refl
  unknown_alike known (Some p) = near_unknown me (kept_at ks p) (kept_at ls p) (near_at me ks ls near p)

  zero_alike : (at peer : ℕ) → knows_zero T at peer ≡ knows_zero U at peer
  zero_alike at peer =
      let known = (view_in U.views at peer).known in
      ap (λ (o : Option ℕ). not U.full && not (is_unknown (kept_slot known ls o))) (place at peer 0) ∙ ap (λ (b : Bool). not U.full && not b) (unknown_alike known (position_of at peer 0 ks))

  turn_alike : (at peer by : ℕ) (sent : Bool) → turn_at T at peer by sent ≡ turn_at U at peer by sent
  turn_alike at peer by sent =
      ap (λ (o : Option ℕ). record { by = by; sent = sent; busy = o; zero = knows_zero T at peer }) (busy_alike at peer)
      ∙ ap (λ (z : Bool). record { by = by; sent = sent; busy = busy_link at peer ks; zero = z }) (zero_alike at peer)

  same_alike : (o : Option ℕ) (bits : List Bool) → same_at ls o bits ≡ same_at ks o bits
  same_alike None bits = refl
  same_alike (Some p) bits = ap (λ (m : List Bool). same_bits m bits) (near_at me ks ls near p).message

  -- ---- the contents of a message

  said_alike : (at peer by : ℕ) (sent fresh : Bool) (r : Result Message MessageFault) → after_said T at peer (turn_at T at peer by sent) fresh r ≡ beside (after_said U at peer (turn_at U at peer by sent) fresh r) ls c d
  said_alike at peer by sent fresh (Err fault) = refl
  said_alike at peer by sent false (Ok m) = refl
  said_alike at peer by sent true (Ok m) =
      let context = turn_at U at peer by sent in
      ap (λ (x : MessageContext). after_said T at peer x true (Ok m)) (turn_alike at peer by sent)
      ∙ ap (λ (b : SeenTables). beside (record U { views = with_view U.views at peer (after_read (message_class m) context m.text (view_of U at peer)); conn_tables = b }) ls c d)
      (tables_alike me ks ls near context (observed_flow_of at peer context) m (view_of U at peer) U.conn_tables (message_class m))

  said_near : (at peer : ℕ) (context : MessageContext) (fresh : Bool) (r : Result Message MessageFault) → NearAll me (after_said U at peer context fresh r).kept ls
  said_near at peer context fresh (Err fault) = near
  said_near at peer context false (Ok m) = near
  said_near at peer context true (Ok m) = near

  pub said_paced : (at peer by : ℕ) (sent fresh : Bool) (r : Result Message MessageFault) → Paced me c d (after_said U at peer (turn_at U at peer by sent) fresh r) (after_said T at peer (turn_at T at peer by sent) fresh r)
  said_paced at peer by sent fresh r = record { kept = ls; is = said_alike at peer by sent fresh r; near = said_near at peer (turn_at U at peer by sent) fresh r }

  said_found : (at peer by : ℕ) (sent fresh : Bool) (r : Result Message MessageFault) → said_findings T at peer (turn_at T at peer by sent) fresh r ≡ said_findings U at peer (turn_at U at peer by sent) fresh r
  said_found at peer by sent fresh (Err fault) = refl
  said_found at peer by sent false (Ok m) = refl
  said_found at peer by sent true (Ok m) =
      let context = turn_at U at peer by sent in
      ap (λ (x : MessageContext). said_findings T at peer x true (Ok m)) (turn_alike at peer by sent)
      ∙ read_alike me ks ls near context (observed_flow_of at peer context) m (view_of U at peer) U.conn_tables (message_class m)

  pub message_found : (at peer by : ℕ) (sent fresh : Bool) (link : ℕ) (bits : List Bool)
      → message_findings T at peer (turn_at T at peer by sent) fresh link bits ≡ message_findings U at peer (turn_at U at peer by sent) fresh link bits
  message_found at peer by sent fresh link bits =
      ap (λ (x : MessageContext). option_to_list (option_map (broken_by x) (rule_of_message (message_in bits) link (judged_bits (message_in bits) bits))) ++ said_findings T at peer (turn_at T at peer by sent) fresh (message_in bits))
      (turn_alike at peer by sent)
      ∙ ap (λ (xs : List Finding). option_to_list (option_map (broken_by (turn_at U at peer by sent)) (rule_of_message (message_in bits) link (judged_bits (message_in bits) bits))) ++ xs)
      (said_found at peer by sent fresh (message_in bits))

  -- ---- a message comes

  coming_near : (o : Option ℕ) → NearAll me (with_coming ks o) (with_coming ls o)
  coming_near None = near
  coming_near (Some p) = go n.slot
    where
      k : SentMessage
      k = kept_at ks p

      l : SentMessage
      l = kept_at ls p

      n : Near me k l
      n = near_at me ks ls near p

      come : Near me (record k { slot = LinkState.Came }) (record l { slot = LinkState.Came })
      come = record { from = n.from; to = n.to; link = n.link; message = n.message; slot = inl refl }

      by : (b : Bool) → NearAll me (if b then with_kept_slot ks p LinkState.Came else ks) (if b then with_kept_slot ls p LinkState.Came else ls)
      by true = near_set me ks ls near p (record k { slot = LinkState.Came }) (record l { slot = LinkState.Came }) come
      by false = near

      go : (l.slot ≡ k.slot) ⊎ ((k.from ≡ me) × (awaits_repeat k.doubt ≡ true) × (is_slot_out k.slot ≡ true) × (l.slot ≡ LinkState.Again)) → NearAll me (with_coming ks (Some p)) (with_coming ls (Some p))
      go (inl e) =
          subst (λ (b : Bool). NearAll me (if is_slot_out k.slot then with_kept_slot ks p LinkState.Came else ks) (if b then with_kept_slot ls p LinkState.Came else ls)) (sym (ap is_slot_out e)) (by (is_slot_out k.slot))
      go (inr w) =
          subst (λ (b : Bool). NearAll me (if b then with_kept_slot ks p LinkState.Came else ks) (with_coming ls (Some p))) (sym w.2)
          (subst (λ (s : LinkState). NearAll me (with_kept_slot ks p LinkState.Came) (if is_slot_out s then with_kept_slot ls p LinkState.Came else ls)) (sym w.3)
          (near_left me ks ls near p (record k { slot = LinkState.Came }) (record { from = n.from; to = n.to; link = n.link; message = n.message; slot = inr (w.0, w.1, refl, w.3) })))

  pub in_paced : (at peer link : ℕ) → Paced me c d (after_in U at peer link) (after_in T at peer link)
  in_paced at peer link = go (judges_coming U at peer)
    where
      go : (b : Bool)
          → Paced me c d (if b then record U { kept = with_coming ks (position_of peer at link ks) } else U) (if b then record T { kept = with_coming ls (position_of peer at link ls) } else T)
      go true = record {
        kept = with_coming ls (position_of peer at link ks);
        is = ap (λ (o : Option ℕ). record T { kept = with_coming ls o }) (place peer at link);
        near = coming_near (position_of peer at link ks);
      }
      go false = record { kept = ls; is = refl; near = near }

  -- ---- an answer comes

  -- to a message of which both know the same, or one that reports it as not delivered
  answer_near : (known : Bool) (kind : ℕ) (o : Option ℕ) → ((kind == 5) ≡ false) ⊎ (kept_slot known ls o ≡ kept_slot known ks o) → NearAll me (with_answer known kind ks o) (with_answer known kind ls o)
  answer_near known kind None e = near
  answer_near known kind (Some p) e = go n.slot e
    where
      k : SentMessage
      k = kept_at ks p

      l : SentMessage
      l = kept_at ls p

      n : Near me k l
      n = near_at me ks ls near p

      set : (s : LinkState) → NearAll me (with_kept_slot ks p s) (with_kept_slot ls p s)
      set s = near_set me ks ls near p (record k { slot = s }) (record l { slot = s }) (record { from = n.from; to = n.to; link = n.link; message = n.message; slot = inl refl })

      gone : (b : Bool) → NearAll me (with_answered b ks p) (with_answered b ls p)
      gone true = near_remove me ks ls near p
      gone false = set LinkState.Empty

      taken : (b : Bool) → NearAll me (if b then with_answered known ks p else with_kept_slot ks p LinkState.Again) (if b then with_answered known ls p else with_kept_slot ls p LinkState.Again)
      taken true = gone known
      taken false = set LinkState.Again

      by : (out : Bool) → NearAll me (if not out then ks else if kind == 5 then with_answered known ks p else with_kept_slot ks p LinkState.Again) (if not out then ls else if kind == 5 then with_answered known ls p else with_kept_slot ls p LinkState.Again)
      by true = taken (kind == 5)
      by false = near

      alike : l.slot ≡ k.slot → NearAll me (with_answer known kind ks (Some p)) (with_answer known kind ls (Some p))
      alike e =
          subst (λ (s : LinkState). NearAll me (with_answer known kind ks (Some p)) (if not (is_slot_out s) then ls else if kind == 5 then with_answered known ls p else with_kept_slot ls p LinkState.Again)) (sym e)
          (by (is_slot_out k.slot))

      go : (l.slot ≡ k.slot) ⊎ ((k.from ≡ me) × (awaits_repeat k.doubt ≡ true) × (is_slot_out k.slot ≡ true) × (l.slot ≡ LinkState.Again)) → ((kind == 5) ≡ false) ⊎ (l.slot ≡ k.slot)
          → NearAll me (with_answer known kind ks (Some p)) (with_answer known kind ls (Some p))
      go (inl e) f = alike e
      go (inr w) (inr e) = alike e
      go (inr w) (inl f) =
          subst (λ (b : Bool). NearAll me (if not b then ks else if kind == 5 then with_answered known ks p else with_kept_slot ks p LinkState.Again) (with_answer known kind ls (Some p))) (sym w.2)
          (subst (λ (b : Bool). NearAll me (if b then with_answered known ks p else with_kept_slot ks p LinkState.Again) (with_answer known kind ls (Some p))) (sym f)
          (subst (λ (s : LinkState). NearAll me (with_kept_slot ks p LinkState.Again) (if not (is_slot_out s) then ls else if kind == 5 then with_answered known ls p else with_kept_slot ls p LinkState.Again)) (sym w.3)
          (near_left me ks ls near p (record k { slot = LinkState.Again }) (record { from = n.from; to = n.to; link = n.link; message = n.message; slot = inl w.3 }))))

  pub answer_paced : (kind at peer link : ℕ) → ((kind == 5) ≡ false) ⊎ (slot_of_link T at peer link ≡ slot_of_link U at peer link) → Paced me c d (monitor_after_answer U kind at peer link) (monitor_after_answer T kind at peer link)
  answer_paced kind at peer link e = go U.full
    where
      known : Bool
      known = (view_in U.views at peer).known

      go : (b : Bool) → Paced me c d (if b then U else record U { kept = with_answer known kind ks (position_of at peer link ks) }) (if b then T else record T { kept = with_answer known kind ls (position_of at peer link ls) })
      go true = record { kept = ls; is = refl; near = near }
      go false = record {
        kept = with_answer known kind ls (position_of at peer link ks);
        is = ap (λ (o : Option ℕ). record T { kept = with_answer known kind ls o }) (place at peer link);
        near = answer_near known kind (position_of at peer link ks) (elim e [
          | inl f ↦ inl f
          | inr f ↦ inr (ap (kept_slot known ls) (sym (place at peer link)) ∙ f)
        ]);
      }

  -- ---- a message goes out

  out_near : (x : SentMessage) (o : Option ℕ) → NearAll me (with_out ks o x) (with_out ls o x)
  out_near x (Some p) = near_set me ks ls near p x x (near_itself me x)
  out_near x None =
      subst (λ (n : ℕ). NearAll me (with_out ks None x) (if nat_lt n MAX_KEPT then ls ++ x ∷ [] else ls)) (sym (near_long me ks ls near)) (by (nat_lt (length ks) MAX_KEPT))
    where
      by : (b : Bool) → NearAll me (if b then ks ++ x ∷ [] else ks) (if b then ls ++ x ∷ [] else ls)
      by true = near_append me ks ls near x x (near_itself me x)
      by false = near

  room_alike : (o : Option ℕ) → has_room ls o ≡ has_room ks o
  room_alike o = ap (λ (n : ℕ). is_some o || nat_lt n MAX_KEPT) (near_long me ks ls near)

  -- both know the same of its link
  abbrev pub AlikeOn : ℕ → ℕ → ℕ → Type 0
  AlikeOn at peer link = slot_of_link T at peer link ≡ slot_of_link U at peer link

  same_of_alike : (at peer link : ℕ) (bits : List Bool) → same_of T at peer link bits ≡ same_of U at peer link bits
  same_of_alike at peer link bits = ap (λ (o : Option ℕ). same_at ls o bits) (place at peer link) ∙ same_alike (position_of at peer link ks) bits

  pub out_paced : (at peer link : ℕ) (bits : List Bool) → (U.full ≡ false → AlikeOn at peer link) → Paced me c d (monitor_after_out U at peer link bits) (monitor_after_out T at peer link bits)
  out_paced at peer link bits e = go U.full refl
    where
      x : SentMessage
      x = gone_out at peer link bits

      seen : LinkState → Bool → View
      seen s same = view_after_out (view_in U.views at peer) link s same

      with : Option ℕ → LinkState → Bool → Monitor
      with o s same = record T { full = not (has_room ls o); views = with_view U.views at peer (seen s same); kept = with_out ls o x }

      go : (b : Bool) → U.full ≡ b
          → Paced me c d
          (if b then U else record U { full = not (has_room ks (position_of at peer link ks)); views = with_view U.views at peer (seen (slot_of_link U at peer link) (same_of U at peer link bits)); kept = with_out ks (position_of at peer link ks) x })
          (if b then T else with (position_of at peer link ls) (slot_of_link T at peer link) (same_of T at peer link bits))
      go true f = record { kept = ls; is = refl; near = near }
      go false f = record {
        kept = with_out ls (position_of at peer link ks) x;
        is = ap (λ (o : Option ℕ). with o (slot_of_link T at peer link) (same_of T at peer link bits)) (place at peer link)
            ∙ ap (λ (s : LinkState). with (position_of at peer link ks) s (same_of T at peer link bits)) (e f)
            ∙ ap (λ (b : Bool). with (position_of at peer link ks) (slot_of_link U at peer link) b) (same_of_alike at peer link bits)
            ∙ ap (λ (b : Bool). record T { full = not b; views = with_view U.views at peer (seen (slot_of_link U at peer link) (same_of U at peer link bits)); kept = with_out ls (position_of at peer link ks) x }) (room_alike (position_of at peer link ks));
        near = out_near x (position_of at peer link ks);
      }

  pub fresh_alike : (at peer link : ℕ) (bits : List Bool) → (U.full ≡ false → AlikeOn at peer link) → fresh_out T at peer link bits ≡ fresh_out U at peer link bits
  fresh_alike at peer link bits e = go U.full refl
    where
      go : (b : Bool) → U.full ≡ b → (b || is_fresh (slot_of_link T at peer link) (same_of T at peer link bits)) ≡ (b || is_fresh (slot_of_link U at peer link) (same_of U at peer link bits))
      go true f = refl
      go false f = ap (λ (s : LinkState). is_fresh s (same_of T at peer link bits)) (e f) ∙ ap (is_fresh (slot_of_link U at peer link)) (same_of_alike at peer link bits)

  pub out_found : (at peer link : ℕ) (bits : List Bool) → (U.full ≡ false → AlikeOn at peer link) → out_finding T at peer link bits ≡ out_finding U at peer link bits
  out_found at peer link bits e = go U.full refl
    where
      of : LinkState → Bool → Option Finding
      of s same = option_map (by_host at) (out_rule s same link)

      go : (b : Bool) → U.full ≡ b → (if b then None else of (slot_of_link T at peer link) (same_of T at peer link bits)) ≡ (if b then None else of (slot_of_link U at peer link) (same_of U at peer link bits))
      go true f = refl
      go false f = ap (λ (s : LinkState). of s (same_of T at peer link bits)) (e f) ∙ ap (of (slot_of_link U at peer link)) (same_of_alike at peer link bits)

  -- ---- what is stored alike

  -- a message that is not in doubt, or is of another host
  pub slot_certain : (p : ℕ) → awaits_repeat (kept_at ks p).doubt ≡ false → (kept_at ls p).slot ≡ (kept_at ks p).slot
  slot_certain p f = elim (near_at me ks ls near p).slot [
    | inl s ↦ s
    | inr w ↦ absurd (let nay : true ≡ false = sym w.1 ∙ f in cc)
  ]

  pub slot_unsent : (p : ℕ) → is_slot_out (kept_at ks p).slot ≡ false → (kept_at ls p).slot ≡ (kept_at ks p).slot
  slot_unsent p f = elim (near_at me ks ls near p).slot [
    | inl s ↦ s
    | inr w ↦ absurd (let nay : true ≡ false = sym w.2 ∙ f in cc)
  ]

  itself : (i j : ℕ) → i ≡ j → (i == j) ≡ true
  itself i j e = grind (arith, e)

  pub slot_apart : (at peer link p : ℕ) → (at == me) ≡ false → position_of at peer link ks ≡ Some p → (kept_at ls p).slot ≡ (kept_at ks p).slot
  slot_apart at peer link p apart e = elim (near_at me ks ls near p).slot [
    | inl s ↦ s
    | inr w ↦ absurd (
        let k = key at peer link (kept_at ks p) (found_is (is_of at peer link) ks p e) in
        let nay : true ≡ false = sym (itself at me (sym k.0 ∙ w.0)) ∙ apart in cc
        )
  ]

  pub alike_by : (at peer link : ℕ) → ((p : ℕ) → position_of at peer link ks ≡ Some p → (kept_at ls p).slot ≡ (kept_at ks p).slot) → AlikeOn at peer link
  alike_by at peer link h = ap (kept_slot known ls) (place at peer link) ∙ by (position_of at peer link ks) refl
    where
      known : Bool
      known = (view_in U.views at peer).known

      by : (o : Option ℕ) → position_of at peer link ks ≡ o → kept_slot known ls o ≡ kept_slot known ks o
      by None e = refl
      by (Some p) e = h p e

  pub alike_apart : (at peer link : ℕ) → (at == me) ≡ false → AlikeOn at peer link
  alike_apart at peer link apart = alike_by at peer link (λ p e. slot_apart at peer link p apart e)
