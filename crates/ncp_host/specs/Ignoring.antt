-- The counts of messages that belong to no peer. Each count stays at its maximum (this project's own
-- rule, its profile).
use Rattle.ncp_host.specs.declared.ignored.Ignored.{Ignored}

abbrev pub none_ignored : Ignored
none_ignored = record { short = 0; other = 0; unknown = 0 }
