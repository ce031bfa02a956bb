-- The flags of a phase, as a user reads them.
use Rattle.ncp_model.specs.Phase.{Phase}
use Rattle.ncp_phase.specs.declared.flags.Flags.{Flags}

abbrev pub flags_of : Phase → Flags
flags_of p = record { down = p.down; want = p.want; owe = p.owe; wait = p.wait }
