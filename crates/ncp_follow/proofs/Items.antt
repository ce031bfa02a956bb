-- The items of a control text, one after the other.
use Rattle.std.proofs.Common.{◌≡◌, List, [], ◌∷◌, ◌++◌, Result, refl, ap, ◌∙◌, sym}
use Rattle.ncp_wire.specs.declared.command.Command.{Command}
use Rattle.ncp_wire.specs.declared.fault.CommandFault.{CommandFault}
use Rattle.ncp_follow.specs.declared.session.Session.{Session}
use Rattle.ncp_follow.specs.declared.tables.Tables.{Tables}
use Rattle.ncp_follow.specs.declared.observation.Observation.{Observation}
use Rattle.ncp_follow.specs.Followed.{session_after, tables_after, session_after_all, tables_after_all}

abbrev Item : Type 0
Item = Result Command CommandFault

-- one item more
pub session_more : (observation : Observation) (items : List Item) (item : Item) (session : Session)
    → session_after_all observation (items ++ item ∷ []) session ≡ session_after observation item (session_after_all observation items session)
session_more observation [] item session = refl
session_more observation (first ∷ items) item session = session_more observation items item (session_after observation first session)

pub tables_more : (observation : Observation) (items : List Item) (item : Item) (session : Session) (tables : Tables)
    → tables_after_all observation (items ++ item ∷ []) session tables ≡ tables_after observation item (session_after_all observation items session) (tables_after_all observation items session tables)
tables_more observation [] item session tables = refl
tables_more observation (first ∷ items) item session tables = tables_more observation items item (session_after observation first session) (tables_after observation first session tables)

-- what is known with one item more
pub session_step : (observation : Observation) (items : List Item) (item : Item) (first session new : Session) → session ≡ session_after_all observation items first → new ≡ session_after observation item session
    → new ≡ session_after_all observation (items ++ item ∷ []) first
session_step observation items item first session new s n = n ∙ ap (session_after observation item) s ∙ sym (session_more observation items item first)

pub tables_step : (observation : Observation) (items : List Item) (item : Item) (first session : Session) (was tables new : Tables)
    → session ≡ session_after_all observation items first → tables ≡ tables_after_all observation items first was → new ≡ tables_after observation item session tables
    → new ≡ tables_after_all observation (items ++ item ∷ []) first was
tables_step observation items item first session was tables new s t n =
    n ∙ ap (λ x. tables_after observation item x tables) s ∙ ap (tables_after observation item (session_after_all observation items first)) t ∙ sym (tables_more observation items item first was)
