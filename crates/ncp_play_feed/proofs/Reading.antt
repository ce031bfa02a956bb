-- A feed has one reading.
use Rattle.std.proofs.Common.{◌≡◌, ℕ, Bool, List, [], drop, Option, Some, None, refl, sym, ◌∙◌}
use Rattle.ncp_play_files.specs.declared.file.Direction.{Direction}
use Rattle.ncp_play_files.specs.declared.file.Direction.TheVariants.{ToImp, FromImp}
use Rattle.ncp_play_files.specs.declared.file.FileFault.{FileFault}
use Rattle.ncp_play_files.specs.declared.file.FileFault.TheVariants.{BadHeader}
use Rattle.ncp_play_files.specs.File.{direction_of}
use Rattle.ncp_play_files.proofs.Contents.{holds_some, holds_once}
use Rattle.ncp_play_feed.specs.Feeds.{HoldsAfter, FeedHolds}

some_after : (o : Option Direction) (bytes : List ℕ) → (messages : List (List Bool)) × (fault : Option FileFault) × HoldsAfter o bytes messages fault
some_after (Some FromImp) bytes = holds_some bytes
some_after (Some ToImp) bytes = ([], Some BadHeader, (refl, refl))
some_after None bytes = ([], Some BadHeader, (refl, refl))

once_after : (o : Option Direction) (bytes : List ℕ) (messages others : List (List Bool)) (fault other : Option FileFault) → HoldsAfter o bytes messages fault → HoldsAfter o bytes others other → (messages ≡ others) × (fault ≡ other)
once_after (Some FromImp) bytes messages others fault other h k = holds_once bytes messages others fault other h k
once_after (Some ToImp) bytes messages others fault other h k = (h.0 ∙ sym k.0, h.1 ∙ sym k.1)
once_after None bytes messages others fault other h k = (h.0 ∙ sym k.0, h.1 ∙ sym k.1)

pub feed_some : (bytes : List ℕ) → (messages : List (List Bool)) × (fault : Option FileFault) × FeedHolds bytes messages fault
feed_some bytes = some_after (direction_of bytes) (drop 4 bytes)

pub feed_once : (bytes : List ℕ) (messages others : List (List Bool)) (fault other : Option FileFault) → FeedHolds bytes messages fault → FeedHolds bytes others other → (messages ≡ others) × (fault ≡ other)
feed_once bytes messages others fault other h k = once_after (direction_of bytes) (drop 4 bytes) messages others fault other h k
