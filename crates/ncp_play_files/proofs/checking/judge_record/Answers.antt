use Rattle.std.proofs.Common.{drop}
use Rattle.ncp_numbers.specs.Bytes.{bytes_for}
use Rattle.ncp_play_files.proofs.Files.{record_after}
use Rattle.ncp_play_files.proofs.checking.judge_record.Goals as goal

pub skip_record-requires : goal.skip_record-requires
skip_record-requires c = c.requires

pub returns-in-Err-clause-output : goal.returns-in-Err-clause-output
returns-in-Err-clause-output c = λ bytes left a. c.in-Err.ensures.output bytes left a

pub returns-clause-output : goal.returns-clause-output
returns-clause-output c = λ bytes left a. (
  c.in-Ok.message,
  drop (bytes_for c.args.len) (drop 2 bytes),
  c.in-Ok.ensures.output bytes left a,
  c.judge-record_class.ensures,
  record_after c.args.window.now c.skip_record.new.window bytes left c.args.len c.requires c.skip_record.ensures.rest a,
)
