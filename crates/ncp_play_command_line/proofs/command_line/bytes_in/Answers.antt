use Rattle.std.proofs.Common.{◌≡◌, ◌∙◌, Option, Some, None, codes, refl, sym, ap}
use Rattle.std.specs.Prelude.{option_and_then}
use Rattle.std.specs.Str.Parse.{ParsesUnsigned, ExplainsUnsignedError, HasUnsignedDigitsIfOk}
use Rattle.clap.specs.Matches.{found_of, one_text}
use Rattle.clap.specs.Walk.{Text, rows_of}
use Rattle.ncp_play_command_line.specs.CommandLine.{bytes_in, number_read}
use Rattle.ncp_play_command_line.proofs.Numbers.{number_of_read, same_text_read}
use Rattle.ncp_play_command_line.proofs.command_line.bytes_in.Goals as goal

pub returns : goal.returns
returns c = go (one_text (found_of c.args.given.now) (codes "bytes")) refl
  where
    read : bytes_in (rows_of (found_of c.args.given.now)) ≡ option_and_then number_read (one_text (found_of c.args.given.now) (codes "bytes"))
    read = ap (option_and_then number_read) (same_text_read (found_of c.args.given.now) (codes "bytes"))

    go : (text : Option Text) → one_text (found_of c.args.given.now) (codes "bytes") ≡ text → c.get_one.result ≡ bytes_in (rows_of (found_of c.args.given.now))
    go None e = c.get_one.ensures.none e ∙ sym (read ∙ ap (option_and_then number_read) e)
    go (Some t) e =
        number_of_read (λ bs r. ParsesUnsigned 16 10 bs r × ExplainsUnsignedError 10 bs r × HasUnsignedDigitsIfOk bs r) t c.get_one.result (λ u x g. g.0) (c.get_one.ensures.value t e)
        ∙ sym (read ∙ ap (option_and_then number_read) e)
