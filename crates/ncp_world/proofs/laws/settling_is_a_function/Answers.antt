use Rattle.std.proofs.Common.{◌≡◌, ℕ, Some}
use Rattle.ncp_transcript_two.specs.declared.side.Side.{Side}
use Rattle.ncp_transcript_two.specs.declared.event.Event.{Event}
use Rattle.ncp_transcript_two.specs.Between.{Hosts, side_number}
use Rattle.ncp_transcript_many.specs.declared.many_event.ManyEvent.{ManyEvent}
use Rattle.ncp_transcript_many.specs.Network.{Network}
use Rattle.ncp_world.specs.Next.{next_by_itself}
use Rattle.ncp_world.specs.TwoKind.{two_kind}
use Rattle.ncp_world.specs.TwoLaws.{OneNote, out_noted_once, delivery_noted_once, answer_noted_once, wake_noted_once}
use Rattle.ncp_world.specs.ManyKind.{many_kind}
use Rattle.ncp_world.specs.ManyLaws.{OneNoteOfMany, out_noted_once_of_many, delivery_noted_once_of_many, answer_noted_once_of_many, wake_noted_once_of_many}
use Rattle.ncp_world.proofs.Following.{next-holds, one-end}
use Rattle.ncp_world.proofs.laws.settling_is_a_function.Goals as goal

two-once : (event : Event) (w : Hosts) → next_by_itself two_kind w ≡ Some event → OneNote event
two-once event w e = next-holds two_kind OneNote out_noted_once (λ (from to : Side) (link : ℕ). delivery_noted_once from link) (λ (from to : Side) (link : ℕ). answer_noted_once from link) (λ (from to : Side) (h : Hosts). wake_noted_once from (side_number to h)) w event e

many-once : (event : ManyEvent) (m : Network) → next_by_itself many_kind m ≡ Some event → OneNoteOfMany event
many-once event m e = next-holds many_kind OneNoteOfMany out_noted_once_of_many delivery_noted_once_of_many answer_noted_once_of_many (λ (from to : ℕ) (h : Network). wake_noted_once_of_many from to) m event e

pub returns-clause-two : goal.returns-clause-two
returns-clause-two c before x y a b = one-end two_kind two-once before x y a b

pub returns-clause-many : goal.returns-clause-many
returns-clause-many c before x y a b = one-end many_kind many-once before x y a b
