use Rattle.std.proofs.Common.{◌≡◌, ◌∙◌, Option, Some, None, Bool, false, codes, refl, sym, ap}
use Rattle.std.specs.Prelude.{unwrap_or}
use Rattle.std.specs.Option.{option_map_or}
use Rattle.std.specs.Str.{bytes_eq}
use Rattle.std.specs.Str.Parse.{ParsesBool}
use Rattle.clap.specs.Matches.{found_of, one_text}
use Rattle.clap.specs.Walk.{Text, rows_of}
use Rattle.ncp_play_command_line.specs.CommandLine.{flag_in}
use Rattle.ncp_play_command_line.proofs.Numbers.{same_text_read}
use Rattle.ncp_play_command_line.proofs.Flags.{flag_read}
use Rattle.ncp_play_command_line.proofs.command_line.flag_in.Goals as goal

pub returns : goal.returns
returns c = go (one_text (found_of c.args.given.now) c.args.id.now) refl
  where
    read : flag_in c.args.id.now (rows_of (found_of c.args.given.now)) ≡ option_map_or (λ text. bytes_eq text (codes "true")) (one_text (found_of c.args.given.now) c.args.id.now) false
    read = ap (λ text. option_map_or (λ t. bytes_eq t (codes "true")) text false) (same_text_read (found_of c.args.given.now) c.args.id.now)

    go : (text : Option Text) → one_text (found_of c.args.given.now) c.args.id.now ≡ text → c.unwrap_or.result ≡ flag_in c.args.id.now (rows_of (found_of c.args.given.now))
    go None e = c.unwrap_or.ensures ∙ ap (λ (r : Option Bool). unwrap_or r false) (c.get_one.ensures.none e) ∙ sym (read ∙ ap (λ text. option_map_or (λ t. bytes_eq t (codes "true")) text false) e)
    go (Some t) e =
        c.unwrap_or.ensures
        ∙ flag_read (λ bs r. ParsesBool bs r) t c.get_one.result (λ u x g. g) (c.get_one.ensures.value t e)
        ∙ sym (read ∙ ap (λ text. option_map_or (λ t. bytes_eq t (codes "true")) text false) e)
