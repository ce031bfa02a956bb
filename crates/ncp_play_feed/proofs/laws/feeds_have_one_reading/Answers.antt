use Rattle.ncp_play_feed.proofs.Reading.{feed_some, feed_once}
use Rattle.ncp_play_feed.proofs.laws.feeds_have_one_reading.Goals as goal

pub returns-clause-some : goal.returns-clause-some
returns-clause-some c = feed_some

pub returns-clause-only : goal.returns-clause-only
returns-clause-only c = feed_once
