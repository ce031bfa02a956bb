use Rattle.std.proofs.Common.{◌≡◌, ◌*◌, ◌/◌, ◌-◌, ℕ, List, length, drop, None, refl, sym, ap, ◌∙◌, arith}
use Rattle.std.proofs.lemmas.List.{drop-drop, drop_all, length-drop}
use Rattle.std.proofs.lemmas.List.Elements.{All-drop}
use Rattle.ncp_numbers.specs.Bytes.{bytes_of}
use Rattle.ncp_wire.specs.Spelling.{IsByte}
use Rattle.ncp_control.specs.Reading.{size_of, command_at, fault_in}
use Rattle.ncp_control.proofs.Text.{length_whole, bytes_are_small}
use Rattle.ncp_control.proofs.Fields.{byte_front_at}
use Rattle.ncp_control.proofs.Reading.{fault_nil, fault_next, fault_here, size_over}
use Rattle.ncp_control.proofs.finding.find_fault.Goals as goal

pub loop-offset-preserved : goal.loop-offset-preserved
loop-offset-preserved c =
    let bytes : List ℕ = bytes_of c.args.text.now in
    let front : List ℕ = drop c.loop-offset.offset bytes in
    let all : 8 * length bytes ≡ length c.args.text.now = length_whole c.args.text.now c.requires in
    let opcode = byte_front_at bytes c.loop-offset.offset ∙ sym c.byte_in.ensures in
    let same : fault_in front ≡ fault_in (drop c.in-Some.size front) =
    fault_next front c.in-Some.size (All-drop IsByte c.loop-offset.offset bytes (bytes_are_small c.args.text.now)) (ap size_of opcode ∙ c.in-Some.ensures.size) c.in-Some.ensures.some
    (simp length-drop (omega (arith, c.in-Some.ensures.fits))) in
    record {
      inside = omega (arith, c.in-Some.ensures.fits);
      fault = ap fault_in (sym (drop-drop c.in-Some.size c.loop-offset.offset bytes)) ∙ sym same ∙ c.loop-offset.invariant.fault;
    }

pub returns-in-None : goal.returns-in-None
returns-in-None c =
    let bytes : List ℕ = bytes_of c.args.text.now in
    let front : List ℕ = drop c.loop-offset.offset bytes in
    let all : 8 * length bytes ≡ length c.args.text.now = length_whole c.args.text.now c.requires in
    let opcode = byte_front_at bytes c.loop-offset.offset ∙ sym c.byte_in.ensures in
    let none : command_at front ≡ None =
    size_over front (c.len-count.result / 8 - c.loop-offset.offset) (size_of c.byte_in.result) (simp length-drop (omega arith)) (ap size_of opcode) (c.in-None.ensures.none refl) in
    sym (fault_here front c.fault_at.result none c.fault_at.ensures) ∙ c.loop-offset.invariant.fault

pub returns : goal.returns
returns c =
    let bytes : List ℕ = bytes_of c.args.text.now in
    let all : 8 * length bytes ≡ length c.args.text.now = length_whole c.args.text.now c.requires in
    sym fault_nil ∙ ap fault_in (sym (drop_all c.loop-offset.offset bytes (omega arith))) ∙ c.loop-offset.invariant.fault
