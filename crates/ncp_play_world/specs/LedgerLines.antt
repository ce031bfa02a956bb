-- The line of the ledger of a watched sender (this profile).
use Rattle.std.specs.Prelude.{ℕ, List, [], ◌++◌, Option, Some, None, codes}
use Rattle.ncp_play_buffer.specs.Lines.{field}
use Rattle.ncp_model.specs.declared.amounts.Amount.{Amount}
use Rattle.ncp_transcript_two.specs.declared.ledger.Ledger.{Ledger}

-- numbers of messages and of bits, after their name
abbrev pub amount_words : List ℕ → Amount → List ℕ
amount_words name it = field name it.messages ++ field (codes "/") it.bits

-- the outstanding amount and its parts; `none` if an endpoint is not open
abbrev pub ledger_words : Option Ledger → List ℕ
ledger_words None = codes " none"
ledger_words (Some it) =
    amount_words (codes " out=") it.outstanding ++ amount_words (codes " counters=") it.counters ++ amount_words (codes " all=") it.all ++ amount_words (codes " text=") it.text
    ++ amount_words (codes " ret=") it.ret

-- the line of the ledger of a watched sender
abbrev pub watched_line : Option Ledger → List ℕ
watched_line ledger = codes "  ledger" ++ ledger_words ledger ++ codes "\n"

-- the same if a sender is watched, else nothing
abbrev pub ledger_line : Option (Option Ledger) → List ℕ
ledger_line None = []
ledger_line (Some ledger) = watched_line ledger
