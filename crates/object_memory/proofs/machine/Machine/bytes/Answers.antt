-- The bytes that were read are those of the address.
use Rattle.std.proofs.Common.{◌*◌, ◌≤◌, length, subst, ap, ◌∙◌, arith}
use Rattle.object_memory.specs.Memory.{IsLaidOut, MachineView}
use Rattle.object_memory.proofs.Held.{holds-bytes}
use Rattle.object_memory.proofs.Access.{none_found, out_of_memory, read_memory, read_cells}
use Rattle.object_memory.proofs.Stores.{bytes_at-in_cells, laid-out}
use Rattle.object_memory.proofs.machine.Machine.bytes.Goals as goal

pub returns-in-Some-clause-value : goal.returns-in-Some-clause-value
returns-in-Some-clause-value c = λ some.
    let f = c.self.inside in
    read_memory c.args.self.now c.args.at c.args.n f.heap f.used (ap (λ (k : MachineView). k.memory) c.self.view_is) c.self.invariant.spare.fits c.bytes.result.now c.in-Some.place c.in-Some.ensures c.bytes.ensures

pub returns-in-Some-place_in-clause-value : goal.returns-in-Some-place_in-clause-value
returns-in-Some-place_in-clause-value c = λ some.
    let m = c.args.self.now in let f = c.self.inside in
    let fits : 8 * f.pushed ≤ length f.cells = omega (arith, c.self.invariant.all_cells, c.self.invariant.in_cells) in
    let away = none_found c.place_in.result _ _ c.place_in.ensures c.in_default.not-Some in
    let out = out_of_memory m c.args.at c.args.n f.heap f.used (ap (λ (k : MachineView). k.memory) c.self.view_is) c.self.invariant.spare.fits away in
    read_cells m c.args.at c.args.n f.cells (8 * f.pushed) (ap (λ (k : MachineView). k.cells) c.self.view_is) fits c.bytes-in-Some-place_in.result.now c.in-Some-place_in.place out c.in-Some-place_in.ensures
    c.bytes-in-Some-place_in.ensures

pub returns-in-Some-clause-holds : goal.returns-in-Some-clause-holds
returns-in-Some-clause-holds c = λ inside heap held. returns-in-Some-clause-value c inside.0 ∙ holds-bytes c.args.self.now heap c.args.at c.args.n inside held

pub returns-in-Some-place_in-clause-holds : goal.returns-in-Some-place_in-clause-holds
returns-in-Some-place_in-clause-holds c = λ inside heap held. returns-in-Some-place_in-clause-value c inside.0 ∙ holds-bytes c.args.self.now heap c.args.at c.args.n inside held

pub returns-in-Some-place_in-clause-in_cells : goal.returns-in-Some-place_in-clause-in_cells
returns-in-Some-place_in-clause-in_cells c = λ inside.
    let f = c.self.inside in let some : 1 ≤ c.args.n = omega (arith, c.if-n-eq0.false) in
    let laid = subst IsLaidOut c.self.view_is (laid-out f.conv f.heap f.used f.blocks.items f.objects.items f.cells f.pushed f.frame c.self.invariant) in
    returns-in-Some-place_in-clause-value c some ∙ bytes_at-in_cells c.args.self.now laid c.args.at c.args.n inside
