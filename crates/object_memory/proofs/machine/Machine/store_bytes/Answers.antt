-- The bytes that were written are those of the address.
use Rattle.std.proofs.Common.{◌+◌, ◌*◌, ◌≤◌, length, take, subst, ap, ◌∙◌, arith}
use Rattle.object_memory.specs.declared.layout.TheConstants.{VTABLE_AT, CELLS_AT}
use Rattle.object_memory.specs.Heap.{Stores}
use Rattle.object_memory.specs.Memory.{IsLaidOut, MachineView}
use Rattle.object_memory.proofs.Access.{IsFound, none_found, in_memory, in_cells, out_of_memory, out_of_cells, write_memory, write_cells, well_formed-written}
use Rattle.object_memory.proofs.Stores.{laid-out, stores-memory, stores-cells, stores-nowhere}
use Rattle.object_memory.proofs.machine.Machine.store_bytes.Goals as goal

pub invariant_of-self : goal.invariant_of-self
invariant_of-self c =
    let f = c.self.inside in let place = c.in-Some.place in let bytes = c.args.bytes.now in
    let here = c.in-Some.ensures in
    let end : place + length bytes ≤ f.used = omega (arith, here.0.0, here.0.1, here.1) in
    well_formed-written f.conv f.heap c.copy_in.new.self f.used f.blocks.items f.objects.items f.cells f.pushed place bytes c.self.invariant end c.copy_in.ensures

pub returns-in-Some : goal.returns-in-Some
returns-in-Some c =
    let f = c.self.inside in let m = c.args.self.now in let at = c.args.at in let bytes = c.args.bytes.now in let new = c.copy_in.new.self in
    let laid = subst IsLaidOut c.self.view_is (laid-out f.conv f.heap f.used f.blocks.items f.objects.items f.cells f.pushed f.frame c.self.invariant) in
    let view = ap (λ (k : MachineView). k.memory) c.self.view_is in
    let here : IsFound VTABLE_AT f.used at (length bytes) c.in-Some.place = c.in-Some.ensures in
    record {
      stores = stores-memory m laid at bytes _ (in_memory m at (length bytes) f.heap f.used view c.self.invariant.spare.fits here.0)
          (ap (λ (k : MachineView). record k { memory = take f.used new }) c.self.view_is ∙ write_memory m at bytes f.heap new f.used c.in-Some.place view c.self.invariant.spare.fits here c.copy_in.ensures);
      laid_out = laid;
    }

pub returns-in-Some-place_in : goal.returns-in-Some-place_in
returns-in-Some-place_in c =
    let f = c.self.inside in let m = c.args.self.now in let at = c.args.at in let bytes = c.args.bytes.now in let new = c.copy_in-in-Some-place_in.new.self in
    let laid = subst IsLaidOut c.self.view_is (laid-out f.conv f.heap f.used f.blocks.items f.objects.items f.cells f.pushed f.frame c.self.invariant) in
    let view = ap (λ (k : MachineView). k.cells) c.self.view_is in
    let fits : 8 * f.pushed ≤ length f.cells = omega (arith, c.self.invariant.all_cells, c.self.invariant.in_cells) in
    let here : IsFound CELLS_AT (8 * f.pushed) at (length bytes) c.in-Some-place_in.place = c.in-Some-place_in.ensures in
    record {
      stores = stores-cells m laid at bytes _ (in_cells m at (length bytes) f.cells (8 * f.pushed) view fits here.0)
          (ap (λ (k : MachineView). record k { cells = take (8 * f.pushed) new }) c.self.view_is ∙ write_cells m at bytes f.cells new (8 * f.pushed) c.in-Some-place_in.place view fits here c.copy_in-in-Some-place_in.ensures);
      laid_out = laid;
    }

pub returns : goal.returns
returns c =
    let f = c.self.inside in let m = c.args.self.now in let at = c.args.at in let bytes = c.args.bytes.now in
    let laid = subst IsLaidOut c.self.view_is (laid-out f.conv f.heap f.used f.blocks.items f.objects.items f.cells f.pushed f.frame c.self.invariant) in
    let fits : 8 * f.pushed ≤ length f.cells = omega (arith, c.self.invariant.all_cells, c.self.invariant.in_cells) in
    let away = none_found c.place_in.result _ _ c.place_in.ensures c.in_default.not-Some in
    let far = none_found c.place_in-2.result _ _ c.place_in-2.ensures c.in_default-place_in.not-Some in
    record {
      stores = stores-nowhere m laid at bytes
          (out_of_memory m at (length bytes) f.heap f.used (ap (λ (k : MachineView). k.memory) c.self.view_is) c.self.invariant.spare.fits away)
          (out_of_cells m at (length bytes) f.cells (8 * f.pushed) (ap (λ (k : MachineView). k.cells) c.self.view_is) fits far);
      laid_out = laid;
    }
