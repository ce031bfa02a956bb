-- The command line of the program, as a definition for clap.
use Rattle.std.specs.Prelude.{ℕ, ◌&&◌, nat_lt, Bool, true, false, List, [], length, Option, Some, None, option_and_then, pos, codes, if◌then◌else◌}
use Rattle.std.specs.Char.{digit_value}
use Rattle.std.specs.List.{list_all}
use Rattle.std.specs.Option.{option_map_or}
use Rattle.std.specs.Str.{bytes_eq}
use Rattle.std.specs.Str.Parse.{digits_value, without_leading_plus}
use Rattle.clap.specs.Simple.{App, Shape, new_app, new_rule, new_shape, with_rule, with_subcommand, subcommand_of}
use Rattle.clap.specs.Walk.{Row, Rule, Text, byte_or_zero, one_of, first_of}
use Rattle.clap.specs.declared.builder.action.ArgAction.TheVariants.{SetTrue}
use Rattle.clap.specs.declared.builder.value_parser.ValueParser.TheVariants.{Signed}
use Rattle.ncp_play_command_line.specs.declared.orders.Order.{Order}
use Rattle.ncp_play_command_line.specs.declared.report.Report.{Report}
use Rattle.ncp_play_command_line.specs.declared.report.Report.TheVariants.{Findings, Coverage, Strict}
use Rattle.ncp_play_command_line.specs.declared.orders.Order.TheVariants.{Show, Check, Count, Convert, Audit, Follow, Host, World, Record, Explain}

-- `--at H`, which is required: a number from 0 to 255
abbrev pub number_wanted : Rule
number_wanted = record (new_rule (codes "at")) {
  long = Some (codes "at");
  value_names = 1;
  parser = Some (Signed (pos 0) (pos 255));
  required = true;
}

-- the word after a subcommand: an optional file
abbrev pub file_named : Rule
file_named = record (new_rule (codes "word")) { value_names = 1 }

-- the required word after `explain`: a name
abbrev pub name_wanted : Rule
name_wanted = record file_named { required = true }

-- a subcommand of this name that reads a file
abbrev pub reading : Text → Shape
reading name = (with_rule (new_app name) file_named).top

-- `convert`, with its number and a file
abbrev pub converting : Shape
converting = (with_rule (with_rule (new_app (codes "convert")) number_wanted) file_named).top

-- an argument of this name without a value, like `--part`
abbrev pub flag_asked : Text → Rule
flag_asked name = record (new_rule name) { long = Some name; action = Some SetTrue }

-- `audit`, with the arguments for its rules
abbrev pub auditing_rules : App
auditing_rules = with_rule (with_rule (new_app (codes "audit")) (flag_asked (codes "part"))) (flag_asked (codes "standard"))

abbrev pub auditing_coverage : App
auditing_coverage = with_rule (with_rule auditing_rules (flag_asked (codes "coverage"))) (flag_asked (codes "strict"))

-- `audit`, with `--part`, `--standard`, `--coverage`, `--strict`, and a file
abbrev pub auditing : Shape
auditing = (with_rule auditing_coverage file_named).top

-- `--bytes N`: the number of a connection, from 1 to 4096
abbrev pub bytes_asked : Rule
bytes_asked = record (new_rule (codes "bytes")) {
  long = Some (codes "bytes");
  value_names = 1;
  parser = Some (Signed (pos 1) (pos 4096));
}

-- `follow`, with the arguments for its lines
abbrev pub following_lines : App
following_lines = with_rule (with_rule (new_app (codes "follow")) (flag_asked (codes "part"))) (flag_asked (codes "letters"))

abbrev pub following_bytes : App
following_bytes = with_rule (with_rule following_lines bytes_asked) (flag_asked (codes "raw"))

-- `follow`, with `--part`, `--letters`, `--bytes`, `--raw`, and a file
abbrev pub following : Shape
following = (with_rule following_bytes file_named).top

-- `explain`, with a name
abbrev pub explaining : Shape
explaining = (with_rule (new_app (codes "explain")) name_wanted).top

-- the program without subcommands: its name, and `--version`
abbrev pub bare_program : App
bare_program = record { top = record (new_shape (codes "ncp")) { has_version = true }; subs = [] }

-- the program with the subcommands that read message files
abbrev pub of_files : App
of_files =
    with_subcommand (with_subcommand (with_subcommand (with_subcommand bare_program (reading (codes "show"))) (reading (codes "check"))) (reading (codes "count")))
    converting

-- `audit` and `follow` added
abbrev pub of_readers : App
of_readers = with_subcommand (with_subcommand of_files auditing) following

-- `host` and `world` added
abbrev pub of_players : App
of_players = with_subcommand (with_subcommand of_readers (reading (codes "host"))) (reading (codes "world"))

-- `record` added
abbrev pub of_recorders : App
of_recorders = with_subcommand of_players (reading (codes "record"))

-- `explain` added
abbrev pub program : App
program = with_subcommand of_recorders explaining

-- the number of `--at` among the arguments that clap found; 0 means none, which clap refuses
abbrev pub number_given : List Row → ℕ
number_given given = option_map_or byte_or_zero (one_of (codes "at") given) 0

-- the 16-bit number in a text, if it is one
abbrev pub number_read : Text → Option ℕ
number_read text =
    let digits = without_leading_plus text in
    if nat_lt 0 (length digits) && list_all (λ digit. nat_lt (digit_value digit) 10) digits && nat_lt (digits_value 10 digits) 65536
    then Some (digits_value 10 digits) else None

-- the number of `--bytes` among the arguments that clap found
abbrev pub bytes_in : List Row → Option ℕ
bytes_in given = option_and_then number_read (one_of (codes "bytes") given)

-- whether an argument without a value is given
abbrev pub flag_in : Text → List Row → Bool
flag_in name given = option_map_or (λ text. bytes_eq text (codes "true")) (one_of name given) false

-- what an audit with these arguments reports
abbrev pub report_in : List Row → Report
report_in given = if flag_in (codes "strict") given then Strict else if flag_in (codes "coverage") given then Coverage else Findings

-- the order of a subcommand with these arguments
abbrev pub order_named : Text → List Row → Order
order_named name given =
    if bytes_eq name (codes "check") then Check
    else if bytes_eq name (codes "count") then Count
    else if bytes_eq name (codes "convert") then Convert (number_given given)
    else if bytes_eq name (codes "audit") then Audit (flag_in (codes "part") given) (flag_in (codes "standard") given) (report_in given)
    else if bytes_eq name (codes "follow") then Follow (flag_in (codes "part") given) (flag_in (codes "letters") given) (bytes_in given) (flag_in (codes "raw") given)
    else if bytes_eq name (codes "host") then Host
    else if bytes_eq name (codes "world") then World
    else if bytes_eq name (codes "record") then Record
    else if bytes_eq name (codes "explain") then Explain
    else Show

-- the order of a subcommand with its arguments; without a subcommand `show`
abbrev pub order_of : Option (Text × List Row) → Order
order_of None = Show
order_of (Some found) = order_named found.0 found.1

-- the order that clap finds in words
abbrev pub order_in : List Text → Order
order_in words = order_of (subcommand_of program words)

-- the word after a subcommand
abbrev pub word_given : Option (Text × List Row) → Option Text
word_given found = option_and_then (λ f. first_of (codes "word") f.1) found

-- the word after the subcommand that clap finds in words
abbrev pub word_in : List Text → Option Text
word_in words = word_given (subcommand_of program words)
