use Rattle.std.proofs.Common.{rules, ◌≡◌, ◌∙◌}
use Rattle.object_memory.specs.Memory.{entry_at}
use Rattle.object_memory.proofs.Entries.{entry_is}
use Rattle.object_memory.proofs.machine.Machine.slot_entry.Goals as goal

pub returns-in_err-table-clause-held : goal.returns-in_err-table-clause-held
returns-in_err-table-clause-held c heap holds there lt =
    let loaded : c.from_residual.result ≡ entry_at c.args.self.now c.args.this c.args.slot = search rules in
    loaded ∙ entry_is c.args.self.now heap c.args.this c.args.slot holds there lt

pub returns-in_err-at-clause-held : goal.returns-in_err-at-clause-held
returns-in_err-at-clause-held c heap holds there lt =
    let loaded : c.from_residual-in_err-at.result ≡ entry_at c.args.self.now c.args.this c.args.slot = search rules in
    loaded ∙ entry_is c.args.self.now heap c.args.this c.args.slot holds there lt

pub returns-clause-held : goal.returns-clause-held
returns-clause-held c heap holds there lt =
    let loaded : c.load-2.result ≡ entry_at c.args.self.now c.args.this c.args.slot = search rules in
    loaded ∙ entry_is c.args.self.now heap c.args.this c.args.slot holds there lt
