-- The lines of a connection, and of texts that belong to no connection.
use Rattle.std.specs.Prelude.{ℕ, ◌==◌, ◌%◌, ◌&&◌, Bool, List, [], ◌++◌, length, codes, decimal, Option, Some, None, if◌then◌else◌}
use Rattle.std.specs.List.{flat_map}
use Rattle.ncp_play_buffer.specs.Lines.{field}
use Rattle.ncp_play_files.specs.Lines.{text_word}
use Rattle.ncp_follow.specs.declared.amount.SaturatingAmount.{SaturatingAmount}
use Rattle.ncp_follow.specs.declared.connection.Connection.{Connection}
use Rattle.ncp_follow.specs.declared.connection.EndReason.{EndReason}
use Rattle.ncp_follow.specs.declared.connection.EndReason.TheVariants.{Open, CloseSent, CloseCame, Closed, ResetCame, ResetSent, ReplyCame}
use Rattle.ncp_follow.specs.declared.session.Session.{Session}
use Rattle.ncp_follow.specs.declared.follower.Follower.{Follower}
use Rattle.ncp_play_follow.specs.Letters.{letters_line}

-- numbers of messages and of bits after their name
unfoldable pub followed_amount_words : List ℕ → SaturatingAmount → List ℕ
followed_amount_words name amount = field name amount.messages ++ field (codes "/") amount.bits

-- the host sends from an odd socket
abbrev pub way_word : ℕ → List ℕ
way_word local = if local % 2 == 1 then codes " send" else codes " receive"

abbrev pub end_word : EndReason → List ℕ
end_word Open = codes "end"
end_word CloseSent = codes "cls-sent"
end_word CloseCame = codes "cls-came"
end_word Closed = codes "cls"
end_word ResetCame = codes "rst-came"
end_word ResetSent = codes "rst-sent"
end_word ReplyCame = codes "rrp-came"

-- the number of the record that ended the connection, or `-`
abbrev pub ended_word : Option ℕ → List ℕ
ended_word None = codes "-"
ended_word (Some number) = decimal number

-- the identity of a connection, and its direction
unfoldable pub which_words : Connection → List ℕ
which_words connection = decimal connection.number ++ field (codes " at=") connection.at ++ field (codes " host=") connection.peer ++ way_word connection.local

unfoldable pub socket_words : Connection → List ℕ
socket_words connection =
    field (codes " local=") connection.local ++ field (codes " remote=") connection.remote ++ field (codes " link=") connection.link
    ++ field (codes " size=") connection.size

unfoldable pub end_words : Connection → List ℕ
end_words connection =
    field (codes " opened=") connection.opened ++ codes " ended=" ++ ended_word connection.ended ++ codes " by=" ++ end_word connection.end

unfoldable pub said_words : Connection → List ℕ
said_words connection =
    field (codes " messages=") connection.said.messages ++ field (codes " bits=") connection.said.bits ++ field (codes " late=") connection.late

unfoldable pub conn_words : Connection → List ℕ
conn_words connection = which_words connection ++ socket_words connection ++ end_words connection ++ said_words connection

unfoldable pub allocation_words : Connection → List ℕ
allocation_words connection = followed_amount_words (codes " granted=") connection.granted ++ followed_amount_words (codes " returned=") connection.returned

abbrev pub connection_line : Connection → List ℕ
connection_line connection = conn_words connection ++ allocation_words connection ++ codes "\n"

-- the number of bits of the whole text, if only a prefix is shown
abbrev pub of_words : ℕ → ℕ → List ℕ
of_words shown said = if shown == said then [] else field (codes " of=") said

unfoldable pub shown_words : ℕ → ℕ → List ℕ
shown_words shown said = field (codes "  text bits=") shown ++ of_words shown said

abbrev pub said_text : List Bool → ℕ → List ℕ
said_text text said = shown_words (length text) said ++ text_word text ++ codes "\n"

abbrev pub said_line : Connection → List ℕ
said_line connection = said_text connection.text connection.said.bits

-- the line of letters, if asked for
abbrev pub letters_if : Bool → Connection → List ℕ
letters_if letters connection = if letters then letters_line connection else []

unfoldable pub connection_lines : Bool → Connection → List ℕ
connection_lines letters connection = connection_line connection ++ said_line connection ++ letters_if letters connection

-- no text was outside of connections
abbrev pub is_session_quiet : Session → Bool
is_session_quiet session = session.sent.messages == 0 && session.came.messages == 0

abbrev pub stray_words : Session → List ℕ
stray_words session =
    field (codes "- at=") session.at ++ field (codes " host=") session.peer ++ followed_amount_words (codes " sent=") session.sent
    ++ followed_amount_words (codes " came=") session.came ++ codes "\n"

unfoldable pub stray_line : Session → List ℕ
stray_line session = if is_session_quiet session then [] else stray_words session

-- the lines of all connections, in the order of opening, and then those of texts that belong to none
abbrev pub follow_lines : Bool → Follower → List ℕ
follow_lines letters follower = flat_map (connection_lines letters) follower.tables.told ++ flat_map stray_line follower.sessions
