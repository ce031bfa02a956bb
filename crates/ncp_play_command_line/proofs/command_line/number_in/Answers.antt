use Rattle.std.proofs.Common.{◌≡◌, ◌∙◌, ℕ, Option, Some, None, codes, refl, sym, ap}
use Rattle.std.specs.Prelude.{unwrap_or}
use Rattle.std.specs.Option.{option_map_or}
use Rattle.std.specs.Str.Parse.{ParsesUnsigned, ExplainsUnsignedError, HasUnsignedDigitsIfOk}
use Rattle.clap.specs.Matches.{found_of, one_text}
use Rattle.clap.specs.Walk.{Text, byte_or_zero, rows_of}
use Rattle.ncp_play_command_line.specs.CommandLine.{number_given}
use Rattle.ncp_play_command_line.proofs.Numbers.{byte_of_read, same_text_read}
use Rattle.ncp_play_command_line.proofs.command_line.number_in.Goals as goal

pub returns : goal.returns
returns c = go (one_text (found_of c.args.given.now) (codes "at")) refl
  where
    read : number_given (rows_of (found_of c.args.given.now)) ≡ option_map_or byte_or_zero (one_text (found_of c.args.given.now) (codes "at")) 0
    read = ap (λ text. option_map_or byte_or_zero text 0) (same_text_read (found_of c.args.given.now) (codes "at"))

    go : (text : Option Text) → one_text (found_of c.args.given.now) (codes "at") ≡ text → c.unwrap_or.result ≡ number_given (rows_of (found_of c.args.given.now))
    go None e = c.unwrap_or.ensures ∙ ap (λ (r : Option ℕ). unwrap_or r 0) (c.get_one.ensures.none e) ∙ sym (read ∙ ap (λ text. option_map_or byte_or_zero text 0) e)
    go (Some t) e =
        c.unwrap_or.ensures
        ∙ byte_of_read (λ bs r. ParsesUnsigned 8 10 bs r × ExplainsUnsignedError 10 bs r × HasUnsignedDigitsIfOk bs r) t c.get_one.result (λ u x g. g.0) (c.get_one.ensures.value t e)
        ∙ sym (read ∙ ap (λ text. option_map_or byte_or_zero text 0) e)
