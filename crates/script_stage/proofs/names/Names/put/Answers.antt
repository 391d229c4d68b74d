use Rattle.std.proofs.lemmas.Map.Text.{hash_map_updates_str}
use Rattle.script_stage.proofs.names.Names.put.Goals as goal

-- names that agree at each name are one function
pub returns-clause-ok : goal.returns-clause-ok
returns-clause-ok g c =
    λ j n. hash_map_updates_str c.args.name.now c.args.self.now.map c.insert.new.self _
    c.in_ok-insert.ensures.updates n j
