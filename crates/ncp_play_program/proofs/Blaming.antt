-- Which failures are blamed.
use Rattle.std.proofs.Common.{◌≡◌, Bool, ◌||◌, ap, sym, ◌∙◌}
use Rattle.ncp_play_program.specs.Orders.{Streams, Blames}

-- what is blamed exactly where it failed
pub blames-exactly : (read write : Bool) (now : Streams) → now.read_failed ≡ read → now.write_failed ≡ write → Blames read write now
blames-exactly read write now r w = record { read_failed = λ e. r ∙ e; write_failed = w; blamed = λ e. ap (λ (b : Bool). b || write) (sym r ∙ e) }
