-- What two hosts said to each other, as it is seen at the interface of the one after a message of the other came.
use Rattle.std.proofs.Common.{◌≡◌, ℕ, ◌<◌, ◌==◌, Bool, true, false, if◌then◌else◌, List, [], ◌++◌, length, map, All, None, Some, Result, Ok, option_to_list, refl, sym, ap, ◌∙◌, subst}
use Rattle.std.proofs.lemmas.List.{append-nil}
use Rattle.ncp_numbers.specs.Bytes.{bits_of_bytes}
use Rattle.ncp_leader.specs.declared.fault.MessageFault.{MessageFault}
use Rattle.ncp_leader.specs.Leader.{leader_in}
use Rattle.ncp_leader.specs.Message.{Message, message_in}
use Rattle.ncp_wire.specs.declared.command.Command.{Command}
use Rattle.ncp_wire.specs.declared.fault.CommandFault.{CommandFault}
use Rattle.ncp_wire.specs.Spelling.{IsCommand, spellings}
use Rattle.ncp_control.specs.Texts.{items_of}
use Rattle.ncp_peer.specs.Output.{leader_to}
use Rattle.ncp_monitor.specs.declared.act.Act.TheVariants.{Other}
use Rattle.ncp_monitor.specs.declared.finding.ItemKind.{ItemKind}
use Rattle.ncp_monitor.specs.declared.phase.MessageContext.{MessageContext}
use Rattle.ncp_monitor.specs.declared.monitor.Monitor.{Monitor}
use Rattle.ncp_monitor.specs.declared.view.View.{View}
use Rattle.ncp_monitor.specs.declared.views.TheConstants.{VIEWS}
use Rattle.ncp_interface.specs.declared.imp_direction.ImpDirection.TheVariants.{FromImp}
use Rattle.ncp_monitor.specs.ConnStates.{SeenTables}
use Rattle.ncp_monitor.specs.Messages.{judged_bits, rule_of_message}
use Rattle.ncp_interface.specs.Contents.{is_unused, message_class, items_said}
use Rattle.ncp_monitor.specs.declared.finding.Finding.{Finding}
use Rattle.ncp_monitor.specs.Phases.{broken_by, early_finding, items_findings}
use Rattle.ncp_monitor.specs.Texts.{text_rules}
use Rattle.ncp_monitor.specs.Tables.{view_in}
use Rattle.ncp_monitor.specs.Talked.{observed_flow_of, talked_findings, text_findings, after_talked_text}
use Rattle.ncp_monitor.specs.Judged.{next_number, sees, view_of, unsent_finding, after_in, turn_at, control_findings, after_read, tables_after_read, said_findings, after_said, record_findings, after_record}
use Rattle.ncp_monitor.proofs.Following.{in_is}
use Rattle.ncp_monitor.proofs.Passing.{Pass}
use Rattle.ncp_monitor.proofs.Parted.{pass_parts}
use Rattle.ncp_proof_monitor.proofs.Talking.{text_found}
use Rattle.ncp_proof_monitor_messages.proofs.AsRead.{items, control_of, text_view, not_reported, zero_none}
use Rattle.ncp_proof_monitor_messages.proofs.Meets
use Rattle.ncp_proof_monitor_messages.proofs.Quiet.{phase_quiet}
use Rattle.ncp_proof_monitor_replies.proofs.BooksRecord.{in_tables, record_reads}
use Rattle.ncp_proof_monitor_network.proofs.Sessions.{SessionInvariant, tables_session, untold_none, untold_quiet, text_unfound, text_comes}
use Rattle.ncp_proof_monitor_network.proofs.ConsistentViews.{Afloat, with_float}
use Rattle.ncp_proof_monitor_network.proofs.NeverSuspended.{text_leaves, quiet_items, act_none}
use Rattle.ncp_proof_monitor_network.proofs.InMessages.{control_unsaid, control_comes}
use Rattle.ncp_proof_monitor_network.proofs.OwnBooks.{view_reported, no_option}

module _ (me n on : ℕ) (bits : List Bool) (x : Message) (u : Monitor) (differ : (n == me) ≡ false) (small : me < 256) (few : n < 256) (long : length u.views ≡ VIEWS)
    (led : leader_in bits ≡ Ok (leader_to n on)) (read : message_in bits ≡ Ok x) (laid : rule_of_message (message_in bits) on (judged_bits (message_in bits) bits) ≡ None) (sent : unsent_finding (sees u me) me n on bits ≡ None)
    (quiet : Pass phase_quiet (record_findings u FromImp me bits)) (vh : View) where
  abbrev A : Monitor
  A = after_in (sees u me) me n on

  abbrev v : View
  v = view_in u.views me n

  abbrev context : MessageContext
  context = turn_at A me n n false

  abbrev now : Monitor
  now = after_record u FromImp me bits

  views_A : A.views ≡ u.views
  views_A = Meets.views me n on bits x u differ small few long led read laid sent

  full_A : A.full ≡ u.full
  full_A = Meets.full_as me n on bits x u differ small few long led read laid sent

  pub tables_A : A.conn_tables ≡ next_number u.conn_tables
  tables_A = in_tables (sees u me) me n on

  found : record_findings u FromImp me bits ≡ said_findings A me n context true (Ok x)
  found = Meets.found me n on bits x u differ small few long led read laid sent

  quiet_said : Pass phase_quiet (said_findings A me n context true (Ok x))
  quiet_said = subst (Pass phase_quiet) found quiet

  view_now : view_in now.views me n ≡ after_read (message_class x) context x.text (view_of A me n)
  view_now = Meets.view_now me n on bits x u differ small few long led read laid sent

  pub conn_tables_now : now.conn_tables ≡ tables_after_read context (observed_flow_of me n context) A.kept x (view_of A me n) A.conn_tables (message_class x)
  conn_tables_now =
      ap (λ (y : Monitor). y.conn_tables) (in_is u me bits (leader_to n on) false led differ refl refl)
      ∙ ap (λ (r : Result Message MessageFault). (after_said A me n context true r).conn_tables) read

  pub room_A : now.conn_tables.full ≡ false → A.conn_tables.full ≡ false
  room_A room = ap (λ (b : SeenTables). b.full) tables_A ∙ (record_reads u FromImp me bits).room room

  module _ (hl kl : List Command) (ht kt : Afloat) (before : u.full ≡ false → u.conn_tables.full ≡ false → SessionInvariant n me vh v u.conn_tables hl kl ht kt) where
    session_reported : u.full ≡ false → A.conn_tables.full ≡ false → SessionInvariant n me vh (view_of A me n) A.conn_tables hl kl ht kt
    session_reported f r =
        let p : SessionInvariant n me vh v u.conn_tables hl kl ht kt = before f (ap (λ (b : SeenTables). b.full) (sym tables_A) ∙ r) in
        let told : (view_in A.views me n).told ≡ true = ap (λ (vs : List View). (view_in vs me n).told) views_A ∙ p.awake_k.told in
        subst (λ (w : View). SessionInvariant n me vh w A.conn_tables hl kl ht kt) (sym (view_reported A me n told (full_A ∙ f) ∙ ap (λ (vs : List View). view_in vs me n) views_A))
        (subst (λ (b : SeenTables). SessionInvariant n me vh v b hl kl ht kt) (sym tables_A)
        (tables_session n me vh v u.conn_tables (next_number u.conn_tables) hl kl ht kt (record { conns = refl; known_facts = refl; pending_replies = refl }) (record { conns = refl; known_facts = refl; pending_replies = refl }) p))

  -- commands
  module _ (cs : List Command) (kl : List Command) (ht kt : Afloat) (each : All IsCommand cs) (is : x ≡ control_of n cs) (before : u.full ≡ false → u.conn_tables.full ≡ false → SessionInvariant n me vh v u.conn_tables cs kl ht kt) where
    abbrev text : List Bool
    text = bits_of_bytes (spellings cs)

    said : said_findings A me n context true (Ok x) ≡ control_findings context (observed_flow_of me n context) A.kept text (view_of A me n) A.conn_tables
    said = ap (λ (y : Message). said_findings A me n context true (Ok y)) is

    calm : items_findings context (items_of cs None) (view_of A me n) ≡ []
    calm =
        let parts = pass_parts phase_quiet (talked_findings context (observed_flow_of me n context) A.kept (items_of cs None) (view_of A me n) A.conn_tables ++ []) [] (subst (Pass phase_quiet) (said ∙ read_items) quiet_said) in
        let first = pass_parts phase_quiet (talked_findings context (observed_flow_of me n context) A.kept (items_of cs None) (view_of A me n) A.conn_tables) [] parts.0 in
        quiet_items context (observed_flow_of me n context) A.kept (items_of cs None) (view_of A me n) A.conn_tables first.0
      where
        read_items : control_findings context (observed_flow_of me n context) A.kept text (view_of A me n) A.conn_tables ≡ (talked_findings context (observed_flow_of me n context) A.kept (items_of cs None) (view_of A me n) A.conn_tables ++ []) ++ []
        read_items = ap (λ (xs : List (Result Command CommandFault)). (talked_findings context (observed_flow_of me n context) A.kept xs (view_of A me n) A.conn_tables ++ []) ++ []) (items cs each)

    joined : u.full ≡ false → A.conn_tables.full ≡ false → SessionInvariant n me vh (view_of A me n) A.conn_tables (cs ++ []) kl ht kt
    joined f r = subst (λ (xs : List Command). SessionInvariant n me vh (view_of A me n) A.conn_tables xs kl ht kt) (sym (append-nil cs)) (session_reported cs kl ht kt before f r)

    pub commands_none : (n == me) ≡ false → record_findings u FromImp me bits ≡ []
    commands_none apart = found ∙ said ∙ go u.full refl
      where
        go : (b : Bool) → u.full ≡ b → control_findings context (observed_flow_of me n context) A.kept text (view_of A me n) A.conn_tables ≡ []
        go false f = control_unsaid n me context.busy context.zero A.kept text cs vh (view_of A me n) A.conn_tables [] kl ht kt apart (items cs each) calm (joined f)
        go true f =
            append-nil (talked_findings context (observed_flow_of me n context) A.kept (items_said text) (view_of A me n) A.conn_tables ++ [])
            ∙ append-nil (talked_findings context (observed_flow_of me n context) A.kept (items_said text) (view_of A me n) A.conn_tables)
            ∙ ap (λ (xs : List (Result Command CommandFault)). talked_findings context (observed_flow_of me n context) A.kept xs (view_of A me n) A.conn_tables) (items cs each)
            ∙ untold_quiet context (observed_flow_of me n context) A.kept (items_of cs None) (view_of A me n) A.conn_tables (not_reported A me n (full_A ∙ f)) (zero_none A me n (full_A ∙ f)) ∙ calm

    pub commands_after : (n == me) ≡ false → u.full ≡ false → now.conn_tables.full ≡ false → SessionInvariant n me vh (view_in now.views me n) now.conn_tables [] kl ht kt
    commands_after apart f room =
        let conn_tables : now.conn_tables ≡ tables_after_read context (observed_flow_of me n context) A.kept (control_of n cs) (view_of A me n) A.conn_tables (message_class (control_of n cs)) =
        conn_tables_now ∙ ap (λ (y : Message). tables_after_read context (observed_flow_of me n context) A.kept y (view_of A me n) A.conn_tables (message_class y)) is in
        subst (λ (w : View). SessionInvariant n me vh w now.conn_tables [] kl ht kt) (sym (view_now ∙ ap (λ (y : Message). after_read (message_class y) context y.text (view_of A me n)) is))
        (subst (λ (b : SeenTables). SessionInvariant n me vh (after_read (message_class (control_of n cs)) context text (view_of A me n)) b [] kl ht kt) (sym conn_tables)
        (control_comes n me context.busy context.zero A.kept text cs vh (view_of A me n) A.conn_tables [] kl ht kt apart (items cs each) calm (ap (λ (b : SeenTables). b.full) (sym conn_tables) ∙ room) (joined f (room_A room))))

  -- a text
  module _ (hl kl : List Command) (ht kt : Afloat) (right : is_unused x.leader.link ≡ false) (z : (x.leader.link == 0) ≡ false) (out : ht x.leader.link ≡ Some (x.size, length x.text))
      (before : u.full ≡ false → u.conn_tables.full ≡ false → SessionInvariant n me vh v u.conn_tables hl kl ht kt) where
    abbrev found_early : List Finding
    found_early = option_to_list (early_finding context ItemKind.Text (view_of A me n))

    abbrev found_text : List Finding
    found_text = text_findings context (observed_flow_of me n context) x.leader.link x (view_of A me n) A.conn_tables

    early : early_finding context ItemKind.Text (view_of A me n) ≡ None
    early =
        no_option (early_finding context ItemKind.Text (view_of A me n))
        (act_none context (Other ItemKind.Text) (view_of A me n) (pass_parts phase_quiet found_early found_text (subst (Pass phase_quiet) (text_found A me n n false x right z) quiet_said)).0)

    pub text_none : record_findings u FromImp me bits ≡ []
    text_none = found ∙ text_found A me n n false x right z ∙ ap (λ (xs : List Finding). xs ++ found_text) (ap option_to_list early) ∙ go u.full refl
      where
        go : (b : Bool) → u.full ≡ b → found_text ≡ []
        go false f = text_unfound n me n context.busy context.zero x.leader.link x vh (view_of A me n) A.conn_tables hl kl ht kt (λ r. out) (session_reported hl kl ht kt before f)
        go true f =
            ap (λ (b : Bool). if b then map (broken_by context) (text_rules (observed_flow_of me n context) x.leader.link x A.conn_tables) else []) (untold_none context ItemKind.Text (view_of A me n) (not_reported A me n (full_A ∙ f)))

    tables_text : now.conn_tables ≡ after_talked_text context (observed_flow_of me n context) x.leader.link x (view_of A me n) A.conn_tables
    tables_text = conn_tables_now ∙ reads x right z
      where
        reads : (y : Message) → is_unused y.leader.link ≡ false → (y.leader.link == 0) ≡ false
            → tables_after_read context (observed_flow_of me n context) A.kept y (view_of A me n) A.conn_tables (message_class y) ≡ after_talked_text context (observed_flow_of me n context) y.leader.link y (view_of A me n) A.conn_tables
        reads y a b = rw (a, b) refl

    pub text_after : (n == me) ≡ false → u.full ≡ false → now.conn_tables.full ≡ false → SessionInvariant n me vh (view_in now.views me n) now.conn_tables hl kl (with_float x.leader.link None ht) kt
    text_after apart f room =
        let p = session_reported hl kl ht kt before f (room_A room) in
        subst (λ (w : View). SessionInvariant n me vh w now.conn_tables hl kl (with_float x.leader.link None ht) kt) (sym (view_now ∙ text_view n context.busy context.zero false x (view_of A me n) right z ∙ text_leaves context (view_of A me n) p.awake_k.told early))
        (subst (λ (b : SeenTables). SessionInvariant n me vh (view_of A me n) b hl kl (with_float x.leader.link None ht) kt) (sym tables_text)
        (text_comes n me n context.busy context.zero x.leader.link x vh (view_of A me n) A.conn_tables hl kl ht kt apart out early p))
